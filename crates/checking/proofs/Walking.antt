-- The walk over an expression that was scanned: what the record at k says of the expression there, and of those inside it.
use Prim.Native.Nat.{ℕ, zero, suc, ◌+◌, ◌-◌, ◌≤◌, ◌<◌}
use mathlib.Core.Bool.{Bool, true, false}
use mathlib.Core.List.{List}
use mathlib.Core.Path.{◌≡◌, refl, sym, ap, subst, ◌∙◌}
use native.Mathlib.Omega.{arith}
use lib.Dec.{ltb}
use lib.ListN.{length}
use Rattle.snesl.specs.declared.code.Variable.{Variable}
use Rattle.snesl.specs.declared.refusal.Refusal.TheVariants.{NoRecord, OverLimit, TooMany}
use Rattle.snesl.specs.Limits.{most_listed, most_records}
use Rattle.snesl.specs.Records as records
use Rattle.snesl.specs.Records.{Raw, bind, each, guard, Scanned, refused, scanned, absent, over, single, letting, eaching, guarding, head_at, variable_at, variables_at, scan, then_scan, too_deep, counted}
use Rattle.std.proofs.Common.{Result, Ok, Err}
use Rattle.snesl.specs.declared.refusal.Refusal.{Refusal}
use Rattle.snesl.specs.Values.{int, bool}
use Rattle.scopes.specs.declared.types.ValueType.{ValueType}
use Rattle.scopes.specs.declared.scope.Binding.{Binding}
use Rattle.scopes.specs.Types.{told}
use Rattle.checking.specs.declared.check.Turn.{Turn}
use Rattle.checking.specs.declared.check.Turn.TheVariants as turn
use Rattle.records.specs.Heads.{head_of}
use Rattle.scopes.specs.Scopes.{type_in}
use Rattle.checking.specs.Checks.{var_in, want_in, both_in, result_type, ints, sized, judge, leaf_in, turn_in}
use Rattle.records.proofs.Variables.{length-variables}
use Rattle.records.proofs.Heads.{Reading, none, beyond, a_var, a_let, a_const, a_truth, an_iota, an_operation, a_negation, a_sum, an_each, a_guard, reading}

module _ {e : Raw} {next after : ℕ} where
  never-deep : (k : ℕ) (h : records.Head) → too_deep k h ≡ scanned e next after → ⊥
  never-deep k absent q = let z : ◌≡◌ {A = ℕ} 0 1 = cc in omega arith
  never-deep k over q = let z : ◌≡◌ {A = ℕ} 0 1 = cc in omega arith
  never-deep k (single f b) q = let z : ◌≡◌ {A = ℕ} 0 1 = cc in omega arith
  never-deep k (letting x) q = let z : ◌≡◌ {A = ℕ} 0 1 = cc in omega arith
  never-deep k (eaching x y us b) q = let z : ◌≡◌ {A = ℕ} 0 1 = cc in omega arith
  never-deep k (guarding g us b) q = let z : ◌≡◌ {A = ℕ} 0 1 = cc in omega arith

  -- an expression that was scanned has a nesting of its own
  pub own-level : (levels : ℕ) (t : List ℕ) (k n : ℕ) → scan levels t k n ≡ scanned e next after → 0 < levels
  unfolding scan
  own-level zero t k n q = absurd (never-deep k (head_at t k) q)
  own-level (suc l) t k n q = omega arith

  counted-in : (k n : ℕ) (s : Scanned) → counted k n s ≡ scanned e next after → s ≡ scanned e next after
  counted-in k n s q = go (ltb n most_records) q
    where
      go : (b : Bool) → elim b [ true ↦ s | false ↦ refused (TooMany k) ] ≡ scanned e next after → s ≡ scanned e next after
      go true q = q
      go false q = let z : ◌≡◌ {A = ℕ} 0 1 = cc in absurd (omega arith)

-- a LT record's two expressions
pub record Lets (t : List ℕ) (k levels count : ℕ) (e : Raw) (next after : ℕ) (x : Variable) : Type 0 where
  pub first : Raw
  pub middle : ℕ
  pub between : ℕ
  pub second : Raw
  pub is : e ≡ bind k x first second
  pub read_first : scan (levels - 1) t (k + 3) (count + 1) ≡ scanned first middle between
  pub read-second : scan (levels - 1) t middle between ≡ scanned second next after
  pub fits : k + 3 ≤ length t
  pub deep : 2 ≤ levels

-- an EA record's body
pub record Eaches (t : List ℕ) (k levels count : ℕ) (e : Raw) (next after : ℕ) (x y : Variable) (j : ℕ) : Type 0 where
  pub body : Raw
  pub is : e ≡ each k x y (variables_at t (k + 5) j) body
  pub read : scan (levels - 1) t (k + (5 + j)) (count + 1) ≡ scanned body next after
  pub fits : k + (5 + j) ≤ length t
  pub few : j ≤ most_listed
  pub deep : 2 ≤ levels

-- a GU record's body
pub record Guards (t : List ℕ) (k levels count : ℕ) (e : Raw) (next after : ℕ) (g : Variable) (j : ℕ) : Type 0 where
  pub body : Raw
  pub is : e ≡ guard k g (variables_at t (k + 4) j) body
  pub read : scan (levels - 1) t (k + (4 + j)) (count + 1) ≡ scanned body next after
  pub fits : k + (4 + j) ≤ length t
  pub few : j ≤ most_listed
  pub deep : 2 ≤ levels

less : (l : ℕ) → l ≡ suc l - 1
less l = omega arith

two : (l : ℕ) → 0 < l → 2 ≤ suc l
two l h = omega arith

module _ (t : List ℕ) (k : ℕ) (w : List Binding) (count : ℕ) (e : Raw) (next after : ℕ) where
  -- what is known where the record at k asks this
  abbrev pub Turned : (levels : ℕ) → Result Turn Refusal → Type 0
  Turned levels (Err r) = judge w e ≡ Err r
  Turned levels (Ok (turn.Found m d)) = (judge w e ≡ sized (Ok d)) × (m ≡ next)
  Turned levels (Ok (turn.Let x)) = Lets t k levels count e next after x
  Turned levels (Ok (turn.Each x y j)) = Eaches t k levels count e next after x y j
  Turned levels (Ok (turn.Guard g j)) = Guards t k levels count e next after g j

  leaf-turned : (levels m : ℕ) (c : Result ValueType Refusal) → judge w e ≡ sized c → m ≡ next → Turned levels (leaf_in m c)
  leaf-turned levels m (Err r) p q = p
  leaf-turned levels m (Ok d) p q = (p, q)

  leaf-read : (f : Raw) (b : ℕ) → counted k count (scanned f (k + b) (count + 1)) ≡ scanned e next after → (e ≡ f) × (k + b ≡ next)
  leaf-read f b q = let r = counted-in k count (scanned f (k + b) (count + 1)) q in (cc, cc)

  module _ (l : ℕ) where
    let-read :
        (x : Variable) → k + 3 ≤ length t
        → (s : Scanned) → scan l t (k + 3) (count + 1) ≡ s
        → then_scan s (λ e₁ k₁ n₁. then_scan (scan l t k₁ n₁) (λ e₂ k₂ n₂. scanned (bind k x e₁ e₂) k₂ n₂)) ≡ scanned e next after
        → Lets t k (suc l) count e next after x
    let-read x h (refused r) p q = let z : ◌≡◌ {A = ℕ} 0 1 = cc in absurd (omega arith)
    let-read x h (scanned e₁ k₁ n₁) p q = go (scan l t k₁ n₁) refl q
      where
        go :
            (s : Scanned) → scan l t k₁ n₁ ≡ s → then_scan s (λ e₂ k₂ n₂. scanned (bind k x e₁ e₂) k₂ n₂) ≡ scanned e next after
            → Lets t k (suc l) count e next after x
        go (refused r) u v = let z : ◌≡◌ {A = ℕ} 0 1 = cc in absurd (omega arith)
        go (scanned e₂ k₂ n₂) u v =
            record {
              first = e₁;
              middle = k₁;
              between = n₁;
              second = e₂;
              is = cc;
              read_first = ap (λ z. scan z t (k + 3) (count + 1)) (sym (less l)) ∙ p;
              read-second = ap (λ z. scan z t k₁ n₁) (sym (less l)) ∙ cc;
              fits = h;
              deep = two l (own-level l t (k + 3) (count + 1) p);
            }

    each_read :
        (x y : Variable) (j : ℕ) → k + (5 + j) ≤ length t → j ≤ most_listed
        → (s : Scanned) → scan l t (k + (5 + j)) (count + 1) ≡ s
        → then_scan s (λ e₁ k₁ n₁. scanned (each k x y (variables_at t (k + 5) j) e₁) k₁ n₁) ≡ scanned e next after
        → Eaches t k (suc l) count e next after x y j
    each_read x y j h f (refused r) p q = let z : ◌≡◌ {A = ℕ} 0 1 = cc in absurd (omega arith)
    each_read x y j h f (scanned e₁ k₁ n₁) p q =
        record {
          body = e₁;
          is = cc;
          read = ap (λ z. scan z t (k + (5 + j)) (count + 1)) (sym (less l)) ∙ cc;
          fits = h;
          few = f;
          deep = two l (own-level l t (k + (5 + j)) (count + 1) p);
        }

    guard-read :
        (g : Variable) (j : ℕ) → k + (4 + j) ≤ length t → j ≤ most_listed
        → (s : Scanned) → scan l t (k + (4 + j)) (count + 1) ≡ s
        → then_scan s (λ e₁ k₁ n₁. scanned (guard k g (variables_at t (k + 4) j) e₁) k₁ n₁) ≡ scanned e next after
        → Guards t k (suc l) count e next after g j
    guard-read g j h f (refused r) p q = let z : ◌≡◌ {A = ℕ} 0 1 = cc in absurd (omega arith)
    guard-read g j h f (scanned e₁ k₁ n₁) p q =
        record {
          body = e₁;
          is = cc;
          read = ap (λ z. scan z t (k + (4 + j)) (count + 1)) (sym (less l)) ∙ cc;
          fits = h;
          few = f;
          deep = two l (own-level l t (k + (4 + j)) (count + 1) p);
        }

    turned_by :
        {m : ℕ} {s : Result Unit Refusal} {h : records.Head} → Reading t k m s h
        → elim h [
          | absent ↦ refused (NoRecord k)
          | over ↦ refused (OverLimit k)
          | single f b ↦ counted k count (scanned f (k + b) (count + 1))
          | letting x ↦
              counted k count
              (then_scan (scan l t (k + 3) (count + 1))
              (λ e₁ k₁ n₁. then_scan (scan l t k₁ n₁) (λ e₂ k₂ n₂. scanned (bind k x e₁ e₂) k₂ n₂)))
          | eaching x y us b ↦
              counted k count (then_scan (scan l t (k + b) (count + 1)) (λ e₁ k₁ n₁. scanned (each k x y us e₁) k₁ n₁))
          | guarding g us b ↦
              counted k count (then_scan (scan l t (k + b) (count + 1)) (λ e₁ k₁ n₁. scanned (guard k g us e₁) k₁ n₁))
        ]
        ≡ scanned e next after
        → Turned (suc l) (turn_in w k (head_of k h))
    unfolding judge
    turned_by none q = let z : ◌≡◌ {A = ℕ} 0 1 = cc in absurd (omega arith)
    turned_by beyond q = let z : ◌≡◌ {A = ℕ} 0 1 = cc in absurd (omega arith)
    turned_by (a_var _ h) q =
        let r = leaf-read _ 3 q in
        leaf-turned (suc l) (k + 3) (var_in k (type_in (variable_at t (k + 2)) w)) (ap (judge w) r.0) r.1
    turned_by (a_let _ h) q = let-read _ h (scan l t (k + 3) (count + 1)) refl (counted-in k count _ q)
    turned_by (a_const _ h) q =
        let r = leaf-read _ 6 q in
        (ap (judge w) r.0, r.1)
    turned_by (an_iota _ h) q =
        let r = leaf-read _ 3 q in
        leaf-turned (suc l) (k + 3) (want_in k (told int) ints (type_in (variable_at t (k + 2)) w)) (ap (judge w) r.0) r.1
    turned_by (an_operation o _ h) q =
        let r = leaf-read _ 4 q in
        leaf-turned (suc l) (k + 4) (both_in k (result_type o) (type_in (variable_at t (k + 2)) w) (type_in (variable_at t (k + 3)) w))
        (ap (judge w) r.0) r.1
    turned_by (a_negation _ h) q =
        let r = leaf-read _ 3 q in
        leaf-turned (suc l) (k + 3) (want_in k (told bool) (told bool) (type_in (variable_at t (k + 2)) w)) (ap (judge w) r.0) r.1
    turned_by (a_truth _ c _ h) q =
        let r = leaf-read _ 3 q in
        (ap (judge w) r.0, r.1)
    turned_by (a_sum _ h) q =
        let r = leaf-read _ 3 q in
        leaf-turned (suc l) (k + 3) (want_in k ints (told int) (type_in (variable_at t (k + 2)) w)) (ap (judge w) r.0) r.1
    turned_by (an_each _ j _ h f) q =
        subst (λ n. Turned (suc l) (Ok (turn.Each (variable_at t (k + 2)) (variable_at t (k + 3)) n))) (sym (length-variables t (k + 5) j))
        (each_read _ _ j h f (scan l t (k + (5 + j)) (count + 1)) refl (counted-in k count _ q))
    turned_by (a_guard _ j _ h f) q =
        subst (λ n. Turned (suc l) (Ok (turn.Guard (variable_at t (k + 2)) n))) (sym (length-variables t (k + 4) j))
        (guard-read _ j h f (scan l t (k + (4 + j)) (count + 1)) refl (counted-in k count _ q))

  turned : (levels : ℕ) → scan levels t k count ≡ scanned e next after → Turned levels (turn_in w k (head_of k (head_at t k)))
  unfolding scan
  turned zero q = absurd (never-deep k (head_at t k) q)
  turned (suc l) q = turned_by l (reading t k) q

  -- the same of an answer that is equal to this
  pub turned-is :
      (levels : ℕ) → scan levels t k count ≡ scanned e next after → {r : Result Turn Refusal} → r ≡ turn_in w k (head_of k (head_at t k)) → Turned levels r
  turned-is levels q p = subst (Turned levels) (sym p) (turned levels q)
