-- The counts add up to no more than the room that is left, or they pass it.
use Prim.Native.Nat.{◌+◌}
use mathlib.Core.Path.{◌≡◌, refl, sym, ◌∙◌}
use Rattle.std.proofs.Common.{Some, None, Err, rules}
use native.Mathlib.Omega.{arith}
use lib.Seq.{length-take-le}
use Rattle.inputs.proofs.OneLoaded.{first-room, levels-within, full-now, fills, lengths-long, added, room_small, id-small, top-room, taken}
use Rattle.inputs.proofs.loading.load_input.Goals as goal

pub slice_bounds-lengths-end : goal.slice_bounds-lengths-end
slice_bounds-lengths-end c = sym (length-take-le (c.args.input.depth + 1) c.args.counts.now (levels-within c.requires))

pub overflow_sub-buf : goal.overflow_sub-buf
overflow_sub-buf c = omega (arith, first-room c.requires, c.requires.stands.held.fits)

pub fill_text-requires : goal.fill_text-requires
fill_text-requires c = fills c.requires c.in_ok-n.n (sym (let e : c.add_up.result ≡ Some c.in_ok-n.n = grind arith in e) ∙ c.add_up.ensures)

pub overflow_add-room : goal.overflow_add-room
overflow_add-room c = omega (arith, room_small c.requires c.in_ok-n.n (sym (let e : c.add_up.result ≡ Some c.in_ok-n.n = grind arith in e) ∙ c.add_up.ensures))

pub push_places-top-requires : goal.push_places-top-requires
push_places-top-requires c = let some : c.add_up.result ≡ Some c.in_ok-n.n = grind arith in let total = sym some ∙ c.add_up.ensures in (
  omega (arith, lengths-long c.requires, c.requires.shallow, c.requires.low),
  c.requires.stands.within,
  omega (arith, lengths-long c.requires, id-small c.requires c.in_ok-n.n total, c.requires.shallow),
  omega (arith, (added c.requires c.in_ok-n.n total).0),
  omega (arith, room_small c.requires c.in_ok-n.n total),
)

pub overflow_sub-top : goal.overflow_sub-top
overflow_sub-top c = let some : c.add_up.result ≡ Some c.in_ok-n.n = grind arith in let total = sym some ∙ c.add_up.ensures in
    (top-room c.requires c.in_ok-n.n total c.fill_text.new.elements c.fill_text.ensures c.push_places-top.new.env c.push_places-top.result c.push_places-top.auto.env c.push_places-top.ensures.0 c.push_places-top.ensures.1).0

pub put_name-requires : goal.put_name-requires
put_name-requires c = let some : c.add_up.result ≡ Some c.in_ok-n.n = grind arith in let total = sym some ∙ c.add_up.ensures in
    let below = top-room c.requires c.in_ok-n.n total c.fill_text.new.elements c.fill_text.ensures c.push_places-top.new.env c.push_places-top.result c.push_places-top.auto.env c.push_places-top.ensures.0 c.push_places-top.ensures.1 in
    (omega (arith, below.0, below.1), omega (arith, c.requires.shallow))

pub overflow_add-machine : goal.overflow_add-machine
overflow_add-machine c = let some : c.add_up.result ≡ Some c.in_ok-n.n = grind arith in let total = sym some ∙ c.add_up.ensures in
    omega (arith, id-small c.requires c.in_ok-n.n total, c.requires.shallow)

pub overflow_add-machine-2 : goal.overflow_add-machine-2
overflow_add-machine-2 c = omega (arith, room_small c.requires c.in_ok-n.n (sym (let e : c.add_up.result ≡ Some c.in_ok-n.n = grind arith in e) ∙ c.add_up.ensures))

pub returns : goal.returns
returns c = let some : c.add_up.result ≡ Some c.in_ok-n.n = grind arith in let total = sym some ∙ c.add_up.ensures in
    λ g. taken g c.in_ok-n.n total c.fill_text.new.elements c.fill_text.ensures c.push_places-top.new.env c.push_places-top.result c.push_places-top.auto.env c.push_places-top.ensures.0 c.push_places-top.ensures.1 c.put_name.ensures refl

pub returns-in_err-n : goal.returns-in_err-n
returns-in_err-n c =
    let none : c.add_up.result ≡ None = grind arith in
    let refused : c.from_residual.result ≡ Err c.in_err-n.field-0.0 = search rules in
    λ g. full-now g (sym none ∙ c.add_up.ensures) (grind arith)
