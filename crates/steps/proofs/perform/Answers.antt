-- Under an empty control nothing is executed; else the transducer's answer settles what the machine does (proofs/Executing.antt).
use Rattle.std.proofs.Common.{◌≡◌, ℕ, ◌++◌, Ok, ap, arith, rules}
use Rattle.steps.proofs.Executing.{skipped-over, applies, told, performed, performed-made, room_for, costs}
use Rattle.steps.proofs.perform.Goals as goal

pub returns-then-n-eq0 : goal.returns-then-n-eq0
returns-then-n-eq0 c = λ m x. skipped-over x _ _ _ c.if-n-eq0.true c.advance.ensures

pub overflow_add-spent-2 : goal.overflow_add-spent-2
overflow_add-spent-2 c =
    let x = c.requires.1 in
    let e : c.transduce.result ≡ Ok c.in_ok-made.made = search (rules, c.in_ok-made.ensures, c.map_err.ensures.cases, c.in_ok-made.was) in
    omega (
      arith,
      costs x c.args.n c.split_at_mut-held.ensures.back (ap (λ l. l ++ c.transduce.new.free) c.split_at_mut-held.ensures.front)
          (c.transduce.ensures c.requires.0.store (applies x c.split_at_mut-held.ensures.front)) e,
    )

pub advance-requires-2 : goal.advance-requires-2
advance-requires-2 c =
    let x = c.requires.1 in
    let e : c.transduce.result ≡ Ok c.in_ok-made.made = search (rules, c.in_ok-made.ensures, c.map_err.ensures.cases, c.in_ok-made.was) in
    room_for x c.args.n c.split_at_mut-held.ensures.back (ap (λ l. l ++ c.transduce.new.free) c.split_at_mut-held.ensures.front)
    (c.transduce.ensures c.requires.0.store (applies x c.split_at_mut-held.ensures.front)) _ e c.taken.ensures

pub returns-in_err-made : goal.returns-in_err-made
returns-in_err-made c = λ m x.
    let e : c.from_residual.result ≡ told c.args.machine.now.streams c.transduce.result = search (rules, c.map_err.ensures.cases, c.in_err-made.was) in
    let f : (j : ℕ) → c.transduce.result ≡ Ok j → ⊥ = λ j e. search (rules, c.map_err.ensures.cases, c.in_err-made.was) in
    performed x c.args.n c.split_at_mut-held.ensures.back (ap (λ l. l ++ c.transduce.new.free) c.split_at_mut-held.ensures.front)
    (c.transduce.ensures m.store (applies x c.split_at_mut-held.ensures.front)) (omega (arith, c.if-n-eq0.false)) e (λ j e. absurd (f j e))

pub returns : goal.returns
returns c = λ m x.
    let e : c.transduce.result ≡ Ok c.in_ok-made.made = search (rules, c.in_ok-made.ensures, c.map_err.ensures.cases, c.in_ok-made.was) in
    performed-made x c.args.n c.split_at_mut-held.ensures.back (ap (λ l. l ++ c.transduce.new.free) c.split_at_mut-held.ensures.front)
    (c.transduce.ensures m.store (applies x c.split_at_mut-held.ensures.front)) e (omega (arith, c.if-n-eq0.false)) c.taken.ensures c.advance-2.ensures
