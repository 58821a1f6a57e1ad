-- The record that stands at an offset: what its bytes are.
use Prim.Native.Nat.{ℕ, zero, suc, ◌+◌, ◌*◌, ◌≤◌, ◌<◌}
use native.Mathlib.Omega.{arith}
use mathlib.Core.Bool.{Bool, true, false, ◌&&◌}
use mathlib.Core.List.{List, [], ◌∷◌, ◌++◌, map}
use mathlib.Core.Option.{some, none}
use mathlib.Core.Path.{◌≡◌, refl, sym, ap, ◌∙◌, subst}
use borrow.Author.Tests.{le-leb, leb-true, eqb-true}
use lib.Dec.{eqb, leb}
use lib.IntN.{ℤ}
use lib.ListN.{length, get_or, length-map}
use Rattle.laws.proofs.Tests.{both_true}
use Rattle.snesl.specs.declared.code.Operation.{Operation}
use Rattle.snesl.specs.declared.code.Operation.TheVariants.{Plus, LessEqual, Equal}
use Rattle.snesl.specs.declared.code.Variable.{Variable}
use Rattle.snesl.specs.Ascii.{ascii}
use Rattle.snesl.specs.Notation.{VR, LT, IO, NO, SM, EA, GU}
use Rattle.snesl.specs.Limits.{most_listed, last_variable}
use Rattle.snesl.specs.Values.{Each, each_none, each_more}
use Rattle.snesl.specs.Records as raw
use Rattle.snesl.specs.Records.{Head, absent, over, single, letting, eaching, guarding, whole, each_head, guard_head, truth_head, operation_of, operation_head, head_at, byte_at, mark_at, variable_at, variables_at, variables_ok, signed, int_at, mark_vr, mark_lt, mark_kn, mark_kb, mark_io, mark_pl, mark_le, mark_eq, mark_no, mark_sm, mark_ea, mark_gu}
use Rattle.rules.specs.Grammar.{Names, Bytes, truth_record, operation_record}
use Rattle.rules.proofs.Reading.Places.{At, at-fits, at_byte, at_none, at_rest, at_both, at_one, at_more}

-- ---- from bytes to the record

whole-there : (t : List ℕ) (k n : ℕ) (ok : Bool) (h : Head) → k + n ≤ length t → ok ≡ true → whole t k n ok h ≡ h
whole-there t k n ok h fits q = rw (le-leb (k + n) (length t) fits, q, whole)

pub mark-there : {t : List ℕ} {k a b : ℕ} {cs : List ℕ} → At t k (a ∷ b ∷ cs) → mark_at t k ≡ a * 256 + b
mark-there {t} {k} {a} {b} {cs} h =
    let fits = at-fits h in
    let two : k + 2 ≤ length t = omega arith in
    let here : k + 0 ≡ k = omega arith in
    let p : byte_at t k ≡ a = ap (λ n. get_or t n 0) (sym here) ∙ at_byte h 0 in
    let q : byte_at t (k + 1) ≡ b = at_byte h 1 in
    rw (le-leb (k + 2) (length t) two, p, q, mark_at)

one-variable : (t : List ℕ) (k : ℕ) (x : Variable) → byte_at t k ≡ x.0 → Names x → variables_ok t k 1 ≡ true
unfolding variables_ok
one-variable t k x q n = rw (q, le-leb x.0 last_variable n)

two-variables : (t : List ℕ) (k : ℕ) (x y : Variable) → byte_at t k ≡ x.0 → byte_at t (suc k) ≡ y.0 → Names x → Names y → variables_ok t k 2 ≡ true
unfolding variables_ok
two-variables t k x y p q n m = rw (p, q, le-leb x.0 last_variable n, le-leb y.0 last_variable m)

variable-there : (t : List ℕ) (k : ℕ) (x : Variable) → byte_at t k ≡ x.0 → variable_at t k ≡ x
variable-there t k x q = λ i. record { 0 = q i }

module _ (t : List ℕ) (k : ℕ) where
  head-VR : mark_at t k ≡ mark_vr → head_at t k ≡ whole t k 3 (variables_ok t (k + 2) 1) (single (raw.var k (variable_at t (k + 2))) 3)
  unfolding head_at
  head-VR q = let by : (m : ℕ) → eqb (mark_at t k) m ≡ eqb mark_vr m = λ m. ap (λ n. eqb n m) q in rw (by mark_vr, head_at)

  head-LT : mark_at t k ≡ mark_lt → head_at t k ≡ whole t k 3 (variables_ok t (k + 2) 1) (letting (variable_at t (k + 2)))
  unfolding head_at
  head-LT q = let by : (m : ℕ) → eqb (mark_at t k) m ≡ eqb mark_lt m = λ m. ap (λ n. eqb n m) q in rw (by mark_vr, by mark_lt, head_at)

  head-KN : mark_at t k ≡ mark_kn → head_at t k ≡ whole t k 6 true (single (raw.const k (int_at t (k + 2))) 6)
  unfolding head_at
  head-KN q = let by : (m : ℕ) → eqb (mark_at t k) m ≡ eqb mark_kn m = λ m. ap (λ n. eqb n m) q in rw (by mark_vr, by mark_lt, by mark_kn, head_at)

  head-KB : mark_at t k ≡ mark_kb → head_at t k ≡ truth_head t k
  unfolding head_at
  head-KB q =
      let by : (m : ℕ) → eqb (mark_at t k) m ≡ eqb mark_kb m = λ m. ap (λ n. eqb n m) q in
      rw (by mark_vr, by mark_lt, by mark_kn, by mark_kb, head_at)

  head-IO : mark_at t k ≡ mark_io → head_at t k ≡ whole t k 3 (variables_ok t (k + 2) 1) (single (raw.iota k (variable_at t (k + 2))) 3)
  unfolding head_at
  head-IO q =
      let by : (m : ℕ) → eqb (mark_at t k) m ≡ eqb mark_io m = λ m. ap (λ n. eqb n m) q in
      rw (by mark_vr, by mark_lt, by mark_kn, by mark_kb, by mark_io, head_at)

  head-NO : mark_at t k ≡ mark_no → head_at t k ≡ whole t k 3 (variables_ok t (k + 2) 1) (single (raw.negation k (variable_at t (k + 2))) 3)
  unfolding head_at
  head-NO q =
      let by : (m : ℕ) → eqb (mark_at t k) m ≡ eqb mark_no m = λ m. ap (λ n. eqb n m) q in
      rw (by mark_vr, by mark_lt, by mark_kn, by mark_kb, by mark_io, by mark_no, head_at)

  head-SM : mark_at t k ≡ mark_sm → head_at t k ≡ whole t k 3 (variables_ok t (k + 2) 1) (single (raw.sum k (variable_at t (k + 2))) 3)
  unfolding head_at
  head-SM q =
      let by : (m : ℕ) → eqb (mark_at t k) m ≡ eqb mark_sm m = λ m. ap (λ n. eqb n m) q in
      rw (by mark_vr, by mark_lt, by mark_kn, by mark_kb, by mark_io, by mark_no, by mark_sm, head_at)

  head-EA : mark_at t k ≡ mark_ea → head_at t k ≡ each_head t k
  unfolding head_at
  head-EA q =
      let by : (m : ℕ) → eqb (mark_at t k) m ≡ eqb mark_ea m = λ m. ap (λ n. eqb n m) q in
      rw (by mark_vr, by mark_lt, by mark_kn, by mark_kb, by mark_io, by mark_no, by mark_sm, by mark_ea, head_at)

  head-GU : mark_at t k ≡ mark_gu → head_at t k ≡ guard_head t k
  unfolding head_at
  head-GU q =
      let by : (m : ℕ) → eqb (mark_at t k) m ≡ eqb mark_gu m = λ m. ap (λ n. eqb n m) q in
      rw (by mark_vr, by mark_lt, by mark_kn, by mark_kb, by mark_io, by mark_no, by mark_sm, by mark_ea, by mark_gu, head_at)

  head-PL : mark_at t k ≡ mark_pl → head_at t k ≡ whole t k 4 (variables_ok t (k + 2) 2) (single (raw.operation k Plus (variable_at t (k + 2)) (variable_at t (k + 3))) 4)
  unfolding head_at
  head-PL q =
      let by : (m : ℕ) → eqb (mark_at t k) m ≡ eqb mark_pl m = λ m. ap (λ n. eqb n m) q in
      rw (by mark_vr, by mark_lt, by mark_kn, by mark_kb, by mark_io, by mark_no, by mark_sm, by mark_ea, by mark_gu, head_at) (ap (λ m. operation_head t k (operation_of m)) q)

  head-LE : mark_at t k ≡ mark_le → head_at t k ≡ whole t k 4 (variables_ok t (k + 2) 2) (single (raw.operation k LessEqual (variable_at t (k + 2)) (variable_at t (k + 3))) 4)
  unfolding head_at
  head-LE q =
      let by : (m : ℕ) → eqb (mark_at t k) m ≡ eqb mark_le m = λ m. ap (λ n. eqb n m) q in
      rw (by mark_vr, by mark_lt, by mark_kn, by mark_kb, by mark_io, by mark_no, by mark_sm, by mark_ea, by mark_gu, head_at) (ap (λ m. operation_head t k (operation_of m)) q)

  head-EQ : mark_at t k ≡ mark_eq → head_at t k ≡ whole t k 4 (variables_ok t (k + 2) 2) (single (raw.operation k Equal (variable_at t (k + 2)) (variable_at t (k + 3))) 4)
  unfolding head_at
  head-EQ q =
      let by : (m : ℕ) → eqb (mark_at t k) m ≡ eqb mark_eq m = λ m. ap (λ n. eqb n m) q in
      rw (by mark_vr, by mark_lt, by mark_kn, by mark_kb, by mark_io, by mark_no, by mark_sm, by mark_ea, by mark_gu, head_at) (ap (λ m. operation_head t k (operation_of m)) q)

  -- an operation on two ints, read
  two-read : (o : Operation) (x y : Variable) → byte_at t (k + 2) ≡ x.0 → byte_at t (k + 3) ≡ y.0 → k + 4 ≤ length t → Names x → Names y
      → whole t k 4 (variables_ok t (k + 2) 2) (single (raw.operation k o (variable_at t (k + 2)) (variable_at t (k + 3))) 4) ≡ single (raw.operation k o x y) 4
  two-read o x y b c fits n m =
      let three : suc (k + 2) ≡ k + 3 = omega arith in
      let v = variable-there t (k + 2) x b in
      let w = variable-there t (k + 3) y c in
      whole-there t k 4 _ _ fits (two-variables t (k + 2) x y b (ap (λ i. get_or t i 0) three ∙ c) n m) ∙ (λ i. single (raw.operation k o (v i) (w i)) 4)

module _ {t : List ℕ} {k : ℕ} where
  pub var-there : {x : Variable} → At t k (VR x.0) → Names x → head_at t k ≡ single (raw.var k x) 3
  var-there {x} a n =
      let b = at_byte a 2 in
      head-VR t k (mark-there a) ∙ whole-there t k 3 _ _ (at-fits a) (one-variable t (k + 2) x b n) ∙ ap (λ v. single (raw.var k v) 3) (variable-there t (k + 2) x b)

  pub let-there : {x : Variable} → At t k (LT x.0) → Names x → head_at t k ≡ letting x
  let-there {x} a n =
      let b = at_byte a 2 in
      head-LT t k (mark-there a) ∙ whole-there t k 3 _ _ (at-fits a) (one-variable t (k + 2) x b n) ∙ ap letting (variable-there t (k + 2) x b)

  pub iota-there : {x : Variable} → At t k (IO x.0) → Names x → head_at t k ≡ single (raw.iota k x) 3
  iota-there {x} a n =
      let b = at_byte a 2 in
      head-IO t k (mark-there a) ∙ whole-there t k 3 _ _ (at-fits a) (one-variable t (k + 2) x b n) ∙ ap (λ v. single (raw.iota k v) 3) (variable-there t (k + 2) x b)

  pub sum-there : {x : Variable} → At t k (SM x.0) → Names x → head_at t k ≡ single (raw.sum k x) 3
  sum-there {x} a n =
      let b = at_byte a 2 in
      head-SM t k (mark-there a) ∙ whole-there t k 3 _ _ (at-fits a) (one-variable t (k + 2) x b n) ∙ ap (λ v. single (raw.sum k v) 3) (variable-there t (k + 2) x b)

  pub negation-there : {x : Variable} → At t k (NO x.0) → Names x → head_at t k ≡ single (raw.negation k x) 3
  negation-there {x} a n =
      let b = at_byte a 2 in
      head-NO t k (mark-there a) ∙ whole-there t k 3 _ _ (at-fits a) (one-variable t (k + 2) x b n) ∙ ap (λ v. single (raw.negation k v) 3) (variable-there t (k + 2) x b)

  pub truth-there : (c : Bool) → At t k (truth_record c) → head_at t k ≡ single (raw.truth k c) 3
  truth-there false a = let b : byte_at t (k + 2) ≡ 0 = at_byte a 2 in head-KB t k (mark-there a) ∙ rw (b, truth_head) (whole-there t k 3 true _ (at-fits a) refl)
  truth-there true a =
      let b : byte_at t (k + 2) ≡ 1 = at_byte a 2 in
      let by : (m : ℕ) → eqb (byte_at t (k + 2)) m ≡ eqb 1 m = λ m. ap (λ n. eqb n m) b in
      head-KB t k (mark-there a) ∙ rw (by 0, by 1, truth_head) (whole-there t k 3 true _ (at-fits a) refl)

  pub operation-there : (o : Operation) {x y : Variable} → At t k (operation_record o x.0 y.0) → Names x → Names y → head_at t k ≡ single (raw.operation k o x y) 4
  operation-there Plus {x} {y} a n m = head-PL t k (mark-there a) ∙ two-read t k Plus x y (at_byte a 2) (at_byte a 3) (at-fits a) n m
  operation-there LessEqual {x} {y} a n m = head-LE t k (mark-there a) ∙ two-read t k LessEqual x y (at_byte a 2) (at_byte a 3) (at-fits a) n m
  operation-there Equal {x} {y} a n m = head-EQ t k (mark-there a) ∙ two-read t k Equal x y (at_byte a 2) (at_byte a 3) (at-fits a) n m

  pub const-there : {a b c d : ℕ} {z : ℤ} → At t k (ascii "KN" ++ a ∷ b ∷ c ∷ d ∷ []) → z ≡ signed (a + b * 256 + c * 65536 + d * 16777216) → head_at t k ≡ single (raw.const k z) 6
  const-there {a} {b} {c} {d} {z} h q =
      let three : k + 2 + 1 ≡ k + 3 = omega arith in
      let four : k + 2 + 2 ≡ k + 4 = omega arith in
      let five : k + 2 + 3 ≡ k + 5 = omega arith in
      let a' : byte_at t (k + 2) ≡ a = at_byte h 2 in
      let b' : byte_at t (k + 2 + 1) ≡ b = ap (λ i. get_or t i 0) three ∙ at_byte h 3 in
      let c' : byte_at t (k + 2 + 2) ≡ c = ap (λ i. get_or t i 0) four ∙ at_byte h 4 in
      let d' : byte_at t (k + 2 + 3) ≡ d = ap (λ i. get_or t i 0) five ∙ at_byte h 5 in
      let number : int_at t (k + 2) ≡ z = (λ i. signed (a' i + b' i * 256 + c' i * 65536 + d' i * 16777216)) ∙ sym q in
      head-KN t k (mark-there h) ∙ whole-there t k 6 true _ (at-fits h) refl ∙ ap (λ v. single (raw.const k v) 6) number

-- the variables of a using list
abbrev pub letters : List Variable → List ℕ
letters us = map (λ u. u.0) us

module _ (t : List ℕ) where
  variables-there : (us : List Variable) (k : ℕ) → At t k (letters us) → variables_at t k (length us) ≡ us
  unfolding variables_at
  variables-there [] k a = refl
  variables-there (u ∷ us) k a =
      let here : k + 0 ≡ k = omega arith in
      let next : k + 1 ≡ suc k = omega arith in
      let v = variable-there t k u (ap (λ i. get_or t i 0) (sym here) ∙ at_byte a 0) in
      let rest = variables-there us (suc k) (subst (λ i. At t i (letters us)) next (at_rest (u.0 ∷ []) (letters us) a)) in
      λ i. v i ∷ rest i

  variables-fine : (us : List Variable) (k : ℕ) → At t k (letters us) → Each Names us → variables_ok t k (length us) ≡ true
  unfolding variables_ok
  variables-fine [] k a each_none = refl
  variables-fine (u ∷ us) k a (each_more n ns) =
      let here : k + 0 ≡ k = omega arith in
      let next : k + 1 ≡ suc k = omega arith in
      let b : byte_at t k ≡ u.0 = ap (λ i. get_or t i 0) (sym here) ∙ at_byte a 0 in
      let rest = variables-fine us (suc k) (subst (λ i. At t i (letters us)) next (at_rest (u.0 ∷ []) (letters us) a)) ns in
      rw (b, le-leb u.0 last_variable n, rest)

module _ {t : List ℕ} {k : ℕ} where
  pub each-there : {x y : Variable} {us : List Variable} → At t k (EA x.0 y.0 (letters us)) → Names x → Names y → Each Names us → length us ≤ most_listed
      → head_at t k ≡ eaching x y us (5 + length us)
  each-there {x} {y} {us} a n m ns few =
      let fits = at-fits a in
      let count : length (letters us) ≡ length us = length-map us (λ u. u.0) in
      let fifth : k + 5 ≤ length t = omega arith in
      let all : k + (5 + length us) ≤ length t = omega arith in
      let b = at_byte a 2 in
      let c = at_byte a 3 in
      let j : byte_at t (k + 4) ≡ length us = at_byte a 4 ∙ count in
      let three : suc (k + 2) ≡ k + 3 = omega arith in
      let rest = at_rest (ascii "EA" ++ x.0 ∷ y.0 ∷ length (letters us) ∷ []) (letters us) a in
      let v = variable-there t (k + 2) x b in
      let w = variable-there t (k + 3) y c in
      let vs = variables-there t us (k + 5) rest in
      let fine : (variables_ok t (k + 2) 2 && leb (length us) most_listed && variables_ok t (k + 5) (length us)) ≡ true =
      rw (two-variables t (k + 2) x y b (ap (λ i. get_or t i 0) three ∙ c) n m, le-leb (length us) most_listed few, variables-fine t us (k + 5) rest ns) in
      head-EA t k (mark-there a)
      ∙ rw (le-leb (k + 5) (length t) fifth, j, each_head)
      (whole-there t k (5 + length us) _ _ all fine
      ∙ (λ i. eaching (v i) (w i) (vs i) (5 + length us)))

  pub guard-there : {g : Variable} {us : List Variable} → At t k (GU g.0 (letters us)) → Names g → Each Names us → length us ≤ most_listed
      → head_at t k ≡ guarding g us (4 + length us)
  guard-there {g} {us} a n ns few =
      let fits = at-fits a in
      let count : length (letters us) ≡ length us = length-map us (λ u. u.0) in
      let fourth : k + 4 ≤ length t = omega arith in
      let all : k + (4 + length us) ≤ length t = omega arith in
      let b = at_byte a 2 in
      let j : byte_at t (k + 3) ≡ length us = at_byte a 3 ∙ count in
      let rest = at_rest (ascii "GU" ++ g.0 ∷ length (letters us) ∷ []) (letters us) a in
      let v = variable-there t (k + 2) g b in
      let vs = variables-there t us (k + 4) rest in
      let fine : (variables_ok t (k + 2) 1 && leb (length us) most_listed && variables_ok t (k + 4) (length us)) ≡ true =
      rw (one-variable t (k + 2) g b n, le-leb (length us) most_listed few, variables-fine t us (k + 4) rest ns) in
      head-GU t k (mark-there a)
      ∙ rw (le-leb (k + 4) (length t) fourth, j, guard_head)
      (whole-there t k (4 + length us) _ _ all fine
      ∙ (λ i. guarding (v i) (vs i) (4 + length us)))

-- ---- from the record to its bytes

-- the record that `head_at` tells of, with the bytes that it stands in
pub data Heads (t : List ℕ) (k : ℕ) : Head → Type 0 where
  heads-absent : Heads t k absent
  heads-over : Heads t k over
  heads-var : {x : Variable} → At t k (VR x.0) → Names x → Heads t k (single (raw.var k x) 3)
  heads-let : {x : Variable} → At t k (LT x.0) → Names x → Heads t k (letting x)
  heads-const : {a b c d : ℕ} {z : ℤ} → At t k (ascii "KN" ++ a ∷ b ∷ c ∷ d ∷ []) → z ≡ signed (a + b * 256 + c * 65536 + d * 16777216) → Heads t k (single (raw.const k z) 6)
  heads-iota : {x : Variable} → At t k (IO x.0) → Names x → Heads t k (single (raw.iota k x) 3)
  heads-truth : {c : Bool} → At t k (truth_record c) → Heads t k (single (raw.truth k c) 3)
  heads-operation : {o : Operation} {x y : Variable} → At t k (operation_record o x.0 y.0) → Names x → Names y → Heads t k (single (raw.operation k o x y) 4)
  heads-negation : {x : Variable} → At t k (NO x.0) → Names x → Heads t k (single (raw.negation k x) 3)
  heads-sum : {x : Variable} → At t k (SM x.0) → Names x → Heads t k (single (raw.sum k x) 3)
  heads-each : {x y : Variable} {us : List Variable} → At t k (EA x.0 y.0 (letters us)) → Names x → Names y → Each Names us → length us ≤ most_listed
      → Heads t k (eaching x y us (5 + length us))
  heads-guard : {g : Variable} {us : List Variable} → At t k (GU g.0 (letters us)) → Names g → Each Names us → length us ≤ most_listed
      → Heads t k (guarding g us (4 + length us))

byte_small : {t : List ℕ} → Bytes t → (k : ℕ) → get_or t k 0 < 256
byte_small each_none k = omega arith
byte_small (each_more h hs) zero = h
byte_small (each_more h hs) (suc k) = byte_small hs k

-- the two bytes of a mark
pub mark-bytes : (t : List ℕ) (k a b m : ℕ) → Bytes t → a * 256 + b ≡ m → b < 256 → 0 < m → mark_at t k ≡ m → At t k (a ∷ b ∷ [])
mark-bytes t k a b m small split low high q = go (leb (k + 2) (length t)) refl q
  where
    go : (c : Bool) → leb (k + 2) (length t) ≡ c → ◌≡◌ {A = ℕ} (elim c [ true ↦ byte_at t k * 256 + byte_at t (k + 1) | false ↦ 0 ]) m → At t k (a ∷ b ∷ [])
    go false e r = absurd (omega arith)
    go true e r =
        let fits = leb-true (k + 2) (length t) e in
        let first : byte_at t k ≡ a = omega (arith, byte_small small k, byte_small small (k + 1)) in
        let second : byte_at t (k + 1) ≡ b = omega (arith, byte_small small k, byte_small small (k + 1)) in
        at_more (subst (λ c. At t k (c ∷ [])) first (at_one t k (omega arith))) (subst (λ c. At t (k + 1) (c ∷ [])) second (at_one t (k + 1) (omega arith)))

module _ (t : List ℕ) where
  letters-at : (k j : ℕ) → k + j ≤ length t → At t k (letters (variables_at t k j))
  unfolding variables_at
  letters-at k zero h = at_none
  letters-at k (suc j) h =
      let next : suc k ≡ k + 1 = omega arith in
      at_more (at_one t k (omega arith)) (subst (λ i. At t i (letters (variables_at t (suc k) j))) next (letters-at (suc k) j (omega arith)))

  names_at : (k j : ℕ) → variables_ok t k j ≡ true → Each Names (variables_at t k j)
  unfolding variables_at variables_ok
  names_at k zero q = each_none
  names_at k (suc j) q = let (p, r) = both_true _ _ q in each_more (leb-true _ _ p) (names_at (suc k) j r)

  length-variables : (k j : ℕ) → length (variables_at t k j) ≡ j
  unfolding variables_at
  length-variables k zero = refl
  length-variables k (suc j) = ap suc (length-variables (suc k) j)

  one_name : (k : ℕ) → variables_ok t k 1 ≡ true → Names (variable_at t k)
  unfolding variables_ok
  one_name k q = leb-true _ _ (both_true _ _ q).0

  two-names : (k : ℕ) → variables_ok t (k + 2) 2 ≡ true → Names (variable_at t (k + 2)) × Names (variable_at t (k + 3))
  unfolding variables_ok
  two-names k q =
      let three : suc (k + 2) ≡ k + 3 = omega arith in
      let (p, r) = both_true _ _ q in
      (leb-true _ _ p, subst (λ i. Names (variable_at t i)) three (leb-true _ _ (both_true _ _ r).0))

module _ (t : List ℕ) (small : Bytes t) (k : ℕ) where
  entire : (n : ℕ) (ok : Bool) (h : Head) → (k + n ≤ length t → ok ≡ true → Heads t k h) → Heads t k (whole t k n ok h)
  entire n ok h f = go (leb (k + n) (length t)) refl
    where
      kept : (c : Bool) → ok ≡ c → k + n ≤ length t → Heads t k (elim c [ true ↦ h | false ↦ over ])
      kept true q fits = f fits q
      kept false q fits = heads-over

      go : (c : Bool) → leb (k + n) (length t) ≡ c → Heads t k (elim c [ true ↦ elim ok [ true ↦ h | false ↦ over ] | false ↦ absent ])
      go true e = kept ok refl (leb-true (k + n) (length t) e)
      go false e = heads-absent

  by-test : (c : Bool) (h g : Head) → (c ≡ true → Heads t k h) → Heads t k g → Heads t k (elim c [ true ↦ h | false ↦ g ])
  by-test true h g p q = p refl
  by-test false h g p q = q

  -- a mark and one byte, or two, or four
  with-one : {a b : ℕ} → k + 3 ≤ length t → At t k (a ∷ b ∷ []) → At t k (a ∷ b ∷ byte_at t (k + 2) ∷ [])
  with-one {a} {b} fits m = at_both (a ∷ b ∷ []) (byte_at t (k + 2) ∷ []) m (at_one t (k + 2) (omega arith))

  pub with_two : {a b : ℕ} → k + 4 ≤ length t → At t k (a ∷ b ∷ []) → At t k (a ∷ b ∷ byte_at t (k + 2) ∷ byte_at t (k + 3) ∷ [])
  with_two {a} {b} fits m = at_both (a ∷ b ∷ byte_at t (k + 2) ∷ []) (byte_at t (k + 3) ∷ []) (with-one (omega arith) m) (at_one t (k + 3) (omega arith))

  with-four : {a b : ℕ} → k + 6 ≤ length t → At t k (a ∷ b ∷ []) → At t k (a ∷ b ∷ byte_at t (k + 2) ∷ byte_at t (k + 3) ∷ byte_at t (k + 4) ∷ byte_at t (k + 5) ∷ [])
  with-four {a} {b} fits m =
      at_both (a ∷ b ∷ byte_at t (k + 2) ∷ byte_at t (k + 3) ∷ byte_at t (k + 4) ∷ []) (byte_at t (k + 5) ∷ [])
      (at_both (a ∷ b ∷ byte_at t (k + 2) ∷ byte_at t (k + 3) ∷ []) (byte_at t (k + 4) ∷ []) (with_two (omega arith) m) (at_one t (k + 4) (omega arith)))
      (at_one t (k + 5) (omega arith))

  const-number : int_at t (k + 2) ≡ signed (byte_at t (k + 2) + byte_at t (k + 3) * 256 + byte_at t (k + 4) * 65536 + byte_at t (k + 5) * 16777216)
  const-number =
      let three : k + 2 + 1 ≡ k + 3 = omega arith in
      let four : k + 2 + 2 ≡ k + 4 = omega arith in
      let five : k + 2 + 3 ≡ k + 5 = omega arith in
      λ i. signed (byte_at t (k + 2) + byte_at t (three i) * 256 + byte_at t (four i) * 65536 + byte_at t (five i) * 16777216)

  heading-each : At t k (69 ∷ 65 ∷ []) → Heads t k (each_head t k)
  heading-each m =
      let j = byte_at t (k + 4) in
      by-test (leb (k + 5) (length t)) _ _
      (λ five.
      entire (5 + j) (variables_ok t (k + 2) 2 && leb j most_listed && variables_ok t (k + 5) j) (eaching (variable_at t (k + 2)) (variable_at t (k + 3)) (variables_at t (k + 5) j) (5 + j))
      (λ fits ok. made j refl fits ok))
      heads-absent
    where
      made : (j : ℕ) → byte_at t (k + 4) ≡ j → k + (5 + j) ≤ length t
          → (variables_ok t (k + 2) 2 && leb j most_listed && variables_ok t (k + 5) j) ≡ true
          → Heads t k (eaching (variable_at t (k + 2)) (variable_at t (k + 3)) (variables_at t (k + 5) j) (5 + j))
      made j e fits ok =
          let us = variables_at t (k + 5) j in
          let (ahead, fine) = both_true (variables_ok t (k + 2) 2 && leb j most_listed) (variables_ok t (k + 5) j) ok in
          let (xy, few) = both_true (variables_ok t (k + 2) 2) (leb j most_listed) ahead in
          let (n, p) = two-names t k xy in
          let long = length-variables t (k + 5) j in
          let count : byte_at t (k + 4) ≡ length (letters us) = e ∙ sym long ∙ sym (length-map us (λ u. u.0)) in
          let front : At t k (69 ∷ 65 ∷ byte_at t (k + 2) ∷ byte_at t (k + 3) ∷ byte_at t (k + 4) ∷ []) =
          at_both (69 ∷ 65 ∷ byte_at t (k + 2) ∷ byte_at t (k + 3) ∷ []) (byte_at t (k + 4) ∷ []) (with_two (omega arith) m) (at_one t (k + 4) (omega arith)) in
          let all = at_both _ (letters us) front (letters-at t (k + 5) j (omega arith)) in
          let spelt : At t k (EA (byte_at t (k + 2)) (byte_at t (k + 3)) (letters us)) = subst (λ c. At t k (69 ∷ 65 ∷ byte_at t (k + 2) ∷ byte_at t (k + 3) ∷ c ∷ letters us)) count all in
          subst (λ n. Heads t k (eaching (variable_at t (k + 2)) (variable_at t (k + 3)) us (5 + n))) long
          (heads-each spelt n p (names_at t (k + 5) j fine) (omega (arith, leb-true j most_listed few, long)))

  heading-guard : At t k (71 ∷ 85 ∷ []) → Heads t k (guard_head t k)
  heading-guard m =
      let j = byte_at t (k + 3) in
      by-test (leb (k + 4) (length t)) _ _
      (λ four.
      entire (4 + j) (variables_ok t (k + 2) 1 && leb j most_listed && variables_ok t (k + 4) j) (guarding (variable_at t (k + 2)) (variables_at t (k + 4) j) (4 + j))
      (λ fits ok. made j refl fits ok))
      heads-absent
    where
      made : (j : ℕ) → byte_at t (k + 3) ≡ j → k + (4 + j) ≤ length t
          → (variables_ok t (k + 2) 1 && leb j most_listed && variables_ok t (k + 4) j) ≡ true
          → Heads t k (guarding (variable_at t (k + 2)) (variables_at t (k + 4) j) (4 + j))
      made j e fits ok =
          let us = variables_at t (k + 4) j in
          let (ahead, fine) = both_true (variables_ok t (k + 2) 1 && leb j most_listed) (variables_ok t (k + 4) j) ok in
          let (one, few) = both_true (variables_ok t (k + 2) 1) (leb j most_listed) ahead in
          let long = length-variables t (k + 4) j in
          let count : byte_at t (k + 3) ≡ length (letters us) = e ∙ sym long ∙ sym (length-map us (λ u. u.0)) in
          let all = at_both _ (letters us) (with_two (omega arith) m) (letters-at t (k + 4) j (omega arith)) in
          let spelt : At t k (GU (byte_at t (k + 2)) (letters us)) = subst (λ c. At t k (71 ∷ 85 ∷ byte_at t (k + 2) ∷ c ∷ letters us)) count all in
          subst (λ n. Heads t k (guarding (variable_at t (k + 2)) us (4 + n))) long
          (heads-guard spelt (one_name t (k + 2) one) (names_at t (k + 4) j fine) (omega (arith, leb-true j most_listed few, long)))

  heading-truth : At t k (75 ∷ 66 ∷ []) → Heads t k (truth_head t k)
  heading-truth m =
      by-test (eqb (byte_at t (k + 2)) 0) _ _ (λ q. entire 3 true _ (λ fits ok. heads-truth {c = false} (subst (λ b. At t k (75 ∷ 66 ∷ b ∷ [])) (eqb-true _ _ q) (with-one fits m))))
      (by-test (eqb (byte_at t (k + 2)) 1) _ _ (λ q. entire 3 true _ (λ fits ok. heads-truth {c = true} (subst (λ b. At t k (75 ∷ 66 ∷ b ∷ [])) (eqb-true _ _ q) (with-one fits m))))
      heads-absent)

  heading-operation : Heads t k (operation_head t k (operation_of (mark_at t k)))
  heading-operation = go (eqb (mark_at t k) mark_pl) refl (eqb (mark_at t k) mark_le) refl (eqb (mark_at t k) mark_eq) refl
    where
      two : (o : Operation) → (k + 4 ≤ length t → At t k (operation_record o (byte_at t (k + 2)) (byte_at t (k + 3)))) → Heads t k (operation_head t k (some o))
      two o f = entire 4 _ _ (λ fits ok. let (n, p) = two-names t k ok in heads-operation (f fits) n p)

      go : (x : Bool) → eqb (mark_at t k) mark_pl ≡ x → (y : Bool) → eqb (mark_at t k) mark_le ≡ y → (z : Bool) → eqb (mark_at t k) mark_eq ≡ z
          → Heads t k (operation_head t k (elim x [ true ↦ some Plus | false ↦ elim y [ true ↦ some LessEqual | false ↦ elim z [ true ↦ some Equal | false ↦ none ] ] ]))
      go true p y q z r = two Plus (λ fits. with_two fits (mark-bytes t k 80 76 mark_pl small refl (omega arith) (omega arith) (eqb-true _ _ p)))
      go false p true q z r = two LessEqual (λ fits. with_two fits (mark-bytes t k 76 69 mark_le small refl (omega arith) (omega arith) (eqb-true _ _ q)))
      go false p false q true r = two Equal (λ fits. with_two fits (mark-bytes t k 69 81 mark_eq small refl (omega arith) (omega arith) (eqb-true _ _ r)))
      go false p false q false r = heads-absent

  pub heading : Heads t k (head_at t k)
  unfolding head_at
  heading =
      let m = mark_at t k in
      let is : (n : ℕ) → eqb m n ≡ true → m ≡ n = λ n q. eqb-true m n q in
      by-test (eqb m mark_vr) _ _ (λ q. entire 3 _ _ (λ fits ok. heads-var (with-one fits (mark-bytes t k 86 82 mark_vr small refl (omega arith) (omega arith) (is mark_vr q))) (one_name t (k + 2) ok)))
      (by-test (eqb m mark_lt) _ _ (λ q. entire 3 _ _ (λ fits ok. heads-let (with-one fits (mark-bytes t k 76 84 mark_lt small refl (omega arith) (omega arith) (is mark_lt q))) (one_name t (k + 2) ok)))
      (by-test (eqb m mark_kn) _ _ (λ q. entire 6 true _ (λ fits ok. heads-const (with-four fits (mark-bytes t k 75 78 mark_kn small refl (omega arith) (omega arith) (is mark_kn q))) const-number))
      (by-test (eqb m mark_kb) _ _ (λ q. heading-truth (mark-bytes t k 75 66 mark_kb small refl (omega arith) (omega arith) (is mark_kb q)))
      (by-test (eqb m mark_io) _ _ (λ q. entire 3 _ _ (λ fits ok. heads-iota (with-one fits (mark-bytes t k 73 79 mark_io small refl (omega arith) (omega arith) (is mark_io q))) (one_name t (k + 2) ok)))
      (by-test (eqb m mark_no) _ _ (λ q. entire 3 _ _ (λ fits ok. heads-negation (with-one fits (mark-bytes t k 78 79 mark_no small refl (omega arith) (omega arith) (is mark_no q))) (one_name t (k + 2) ok)))
      (by-test (eqb m mark_sm) _ _ (λ q. entire 3 _ _ (λ fits ok. heads-sum (with-one fits (mark-bytes t k 83 77 mark_sm small refl (omega arith) (omega arith) (is mark_sm q))) (one_name t (k + 2) ok)))
      (by-test (eqb m mark_ea) _ _ (λ q. heading-each (mark-bytes t k 69 65 mark_ea small refl (omega arith) (omega arith) (is mark_ea q)))
      (by-test (eqb m mark_gu) _ _ (λ q. heading-guard (mark-bytes t k 71 85 mark_gu small refl (omega arith) (omega arith) (is mark_gu q)))
      heading-operation))))))))
