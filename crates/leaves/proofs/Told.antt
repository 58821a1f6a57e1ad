-- What a program's instructions make of a sink.
use Prim.Native.Nat.{ℕ, suc, ◌+◌, ◌-◌}
use mathlib.Core.Bool.{true, false, ◌||◌}
use mathlib.Core.List.{List, [], ◌∷◌}
use mathlib.Core.Path.{◌≡◌, refl, ◌∙◌, ap}
use native.Mathlib.Omega.{arith}
use borrow.Author.Tests.{eq-eqb}
use lib.IntN.{pos}
use Rattle.snesl.specs.declared.code.Transducer.{Transducer}
use Rattle.snesl.specs.declared.code.Transducer.TheVariants.{Const, Usum, ScanPlus}
use Rattle.snesl.specs.Trees.{leaf, order}
use Rattle.snesl.specs.Programs.{Program, done, define, ◌⨾◌, count, member, among, dv, fv, insert, ascending, without}
use Rattle.snesl.specs.Translation.{id}
use Rattle.sink.specs.Sinks.{Sink, defined, opened, closed, feed}
use Rattle.leaves.specs.Arms.{filling, counting_up}

-- what its WithCtrl puts out, and takes in
one_out : (s : ℕ) → ascending (among (order (leaf s)) (dv s (define (Const (pos 1)) done))) ≡ s ∷ []
unfolding order dv among member ascending insert
one_out s =
    ap (λ b. ascending (elim (b || false) [ true ↦ s ∷ among [] (s ∷ []) | false ↦ among [] (s ∷ []) ])) (eq-eqb s s refl)

none_in : (s : ℕ) → ascending (fv s (define (Const (pos 1)) done)) ≡ []
unfolding fv without ascending
none_in s = refl

pub counting-fed : (a : ℕ) (k : Sink)
    → feed (a + 1) (counting_up a) k ≡ defined (a + 3) (ScanPlus (pos 0) (id a) (id (a + 2))) (filling (a + 2) (defined (a + 1) (Usum (id a)) k))
unfolding feed count ◌⨾◌
counting-fed a k =
    let two : suc (a + 1) ≡ a + 2 = omega arith in
    let three : a + 2 + 1 ≡ a + 3 = omega arith in
    let one : a + 1 ≡ a + 2 - 1 = omega arith in
    let scan : Transducer = ScanPlus (pos 0) (id a) (id (a + 2)) in
    let before : Sink = defined (a + 1) (Usum (id a)) k in
    let rest : ℕ → List ℕ → List ℕ → Sink = λ s outs ins. defined (s + 1) scan (closed (defined s (Const (pos 1)) (opened outs (a + 1) ins before))) in
    (λ i. rest (two i) (one_out (a + 2) i) (none_in (a + 2) i))
    ∙ (λ i. defined (three i) scan (closed (defined (a + 2) (Const (pos 1)) (opened ((a + 2) ∷ []) (one i) [] before))))

-- a definition before other instructions
pub define-fed : (s : ℕ) (t : Transducer) (p : Program) (k : Sink) → feed s (define t p) k ≡ feed (s + 1) p (defined s t k)
unfolding feed
define-fed s t p k = let one : suc s ≡ s + 1 = omega arith in ap (λ i. feed i p (defined s t k)) one
