-- The inputs of a formula that was read, entered into the stack one at a time.
use Prim.Native.Nat.{ℕ, zero, suc, ◌+◌, ◌-◌, ◌≤◌, ◌<◌}
use mathlib.Core.Bool.{Bool, true, false, ◌&&◌}
use mathlib.Core.List.{List, [], ◌∷◌}
use mathlib.Core.Option.{Option, some, none}
use mathlib.Core.Path.{◌≡◌, refl, sym, ap, subst, ◌∙◌}
use native.Mathlib.Omega.{arith}
use lib.Dec.{leb}
use lib.ListN.{length, drop, length-drop}
use lib.Seq.{take_all, drop-length}
use borrow.Author.Tests.{leb-true}
use Rattle.snesl.specs.declared.refusal.Refusal.TheVariants.{NoRecord, OverLimit, TooMany}
use Rattle.snesl.specs.Limits.{most_inputs, most_depth, last_variable}
use Rattle.snesl.specs.Records as records
use Rattle.snesl.specs.Records.{byte_at, variable_at, mark_at, Input, input_base, input_at, input_ok, input_first, inputs_at, refused, declared}
use Rattle.snesl.specs.declared.code.Base.{Base}
use Rattle.snesl.specs.Values.{type_of}
use Rattle.formula.specs.Declarations.{input_place, base_at, declaration_of}
use Rattle.formula.specs.declared.inputs.Declaration.{Declaration}
use Rattle.std.proofs.Common.{Option as Option_of, None, Some}
use Rattle.std.specs.Option.{is_some}
use Rattle.scopes.specs.declared.types.ValueType.{ValueType}
use Rattle.scopes.specs.declared.scope.Binding.{Binding}
use Rattle.scopes.specs.Types.{told}
use Rattle.scopes.specs.Scopes.{scope, type_in, Pushed}
use Rattle.checking.specs.Checks.{again, enter_first, enter_in, entered_by, Declares, Top}
use Rattle.formula.proofs.Declaring.{base-is}

-- the first of some inputs that were read
record First (t : List ℕ) (left k : ℕ) (is : List Input) (next : ℕ) : Type 0 where
  others : List Input
  inputs : is ≡ input_at t k (base_at t k) ∷ others
  read : inputs_at (left - 1) t (k + 4) ≡ declared others next
  more : 0 < left
  fits : k + 4 ≤ length t

-- an input's binding, as its record says it
abbrev binding_at : List ℕ → ℕ → Binding
binding_at t k = record { name = variable_at t (k + 2); value_type = told (type_of (base_at t k) (byte_at t (k + 3))) }

told-of : (b : Base) (d : ℕ) → record { base = b; depth = d } ≡ told (type_of b d)
told-of b zero = refl
told-of b (suc d) =
    let h = told-of b d in
    λ i. record { base = (h i).base; depth = suc (h i).depth }

module _ (t : List ℕ) (k next : ℕ) (is : List Input) (some_left : 0 < length is) where
  none_read : declared [] k ≡ declared is next → ⊥
  none_read q =
      let e : [] ≡ is = cc in
      let n = ap length e in
      omega arith

  ok_read : (d : records.Declared) → input_ok t k d ≡ declared is next → (d ≡ declared is next) × (k + 4 ≤ length t)
  ok_read d q = go (leb (k + 4) (length t)) refl (leb (byte_at t (k + 2)) last_variable && leb (byte_at t (k + 3)) most_depth) refl q
    where
      go :
          (l : Bool) → leb (k + 4) (length t) ≡ l → (o : Bool) → (leb (byte_at t (k + 2)) last_variable && leb (byte_at t (k + 3)) most_depth) ≡ o
          → elim l [ true ↦ elim o [ true ↦ d | false ↦ refused (OverLimit k) ] | false ↦ refused (NoRecord k) ] ≡ declared is next
          → (d ≡ declared is next) × (k + 4 ≤ length t)
      go true e true f q = (q, leb-true (k + 4) (length t) e)
      go true e false f q = let z : ◌≡◌ {A = ℕ} 0 1 = cc in absurd (omega arith)
      go false e o f q = let z : ◌≡◌ {A = ℕ} 0 1 = cc in absurd (omega arith)

  first : (left : ℕ) → inputs_at left t k ≡ declared is next → First t left k is next
  unfolding inputs_at
  first zero e = go (input_base (mark_at t k)) e
    where
      go : (m : Option Base) → elim m [ some b ↦ input_ok t k (refused (TooMany k)) | none ↦ declared [] k ] ≡ declared is next → First t zero k is next
      go (some b) q = let r = (ok_read (refused (TooMany k)) q).0 in let z : ◌≡◌ {A = ℕ} 0 1 = cc in absurd (omega arith)
      go none q = absurd (none_read q)
  first (suc l) e = go (input_base (mark_at t k)) refl e
    where
      same : l ≡ suc l - 1
      same = omega arith

      on :
          (d : records.Declared) → inputs_at l t (k + 4) ≡ d → input_first (input_at t k (base_at t k)) d ≡ declared is next → k + 4 ≤ length t
          → First t (suc l) k is next
      on (refused r) p q h = let z : ◌≡◌ {A = ℕ} 0 1 = cc in absurd (omega arith)
      on (declared others m) p q h =
          record {
            others = others;
            inputs = cc;
            read = ap (λ z. inputs_at z t (k + 4)) (sym same) ∙ cc;
            more = omega arith;
            fits = h;
          }

      go :
          (m : Option Base) → input_base (mark_at t k) ≡ m
          → elim m [ some b ↦ input_ok t k (input_first (input_at t k b) (inputs_at l t (k + 4))) | none ↦ declared [] k ] ≡ declared is next
          → First t (suc l) k is next
      go (some b) p q =
          let r = ok_read (input_first (input_at t k b) (inputs_at l t (k + 4))) q in
          let here = ap (λ c. input_first (input_at t k c) (inputs_at l t (k + 4))) (base-is (mark_at t k) b p) in
          on (inputs_at l t (k + 4)) refl (here ∙ r.0) r.1
      go none p q = absurd (none_read q)

-- i inputs are entered, and the others stand from k on
pub record Entering (t : List ℕ) (inputs top : ℕ) (env : List Binding) (sp i k : ℕ) : Type 0 where
  pub others : List Input
  pub next : ℕ
  pub read : inputs_at (most_inputs - i) t k ≡ declared others next
  pub count : i + length others ≡ inputs
  pub same : entered_by (inputs_at most_inputs t 0) ≡ enter_in (drop sp env) others
  pub at : sp + i ≡ length env
  pub long : length env ≡ top

pub whole : (sp : ℕ) (env : List Binding) (top : ℕ) → length env ≡ top → scope sp top env ≡ drop sp env
whole sp env top e = take_all (top - sp) (drop sp env) (omega (arith, length-drop sp env))

module _ (t : List ℕ) (inputs : ℕ) where
  pub start : (env : List Binding) → Declares t inputs → Entering t inputs (length env) env (length env) 0 0
  start env d =
      record {
        others = d.list;
        next = d.next;
        read = d.read;
        count = omega (arith, d.count);
        same = ap entered_by d.read ∙ ap (λ z. enter_in z d.list) (sym (drop-length env));
        at = omega arith;
        long = refl;
      }

  module _ {top : ℕ} {env : List Binding} {sp i k : ℕ} (p : Entering t inputs top env sp i k) where
    head : i < inputs → First t (most_inputs - i) k p.others p.next
    head h = first t k p.next p.others (omega (arith, p.count)) (most_inputs - i) p.read

    pub fits : i < inputs → k + 4 ≤ length t
    fits h = (head h).fits

    on-words : (h : i < inputs) → entered_by (inputs_at most_inputs t 0) ≡ enter_first (type_in (variable_at t (k + 2)) (scope sp (length env) env)) k (enter_in (binding_at t k ∷ drop sp env) (head h).others)
    unfolding enter_in
    on-words h =
        p.same
        ∙ (ap (enter_in (drop sp env)) (head h).inputs
        ∙ ap (λ z. enter_first (type_in (variable_at t (k + 2)) z) k (enter_in (binding_at t k ∷ drop sp env) (head h).others))
        (sym (whole sp env (length env) refl)))

    pub turn :
        i < inputs → None ≡ type_in (variable_at t (k + 2)) (scope sp (length env) env)
        → {new : List Binding} {r : ℕ} → Pushed env sp (binding_at t k) new r → length new ≡ length env
        → Entering t inputs top new r (i + 1) (k + 4)
    turn h m u l =
        let less : most_inputs - i - 1 ≡ most_inputs - (i + 1) = omega arith in
        let n = ap length (head h).inputs in
        record {
          others = (head h).others;
          next = p.next;
          read = ap (λ z. inputs_at z t (k + 4)) (sym less) ∙ (head h).read;
          count = omega (arith, p.count);
          same =
              on-words h
              ∙ (ap (λ z. enter_first z k (enter_in (binding_at t k ∷ drop sp env) (head h).others)) (sym m)
              ∙ ap (λ z. enter_in z (head h).others) (sym u.bindings));
          at = omega (arith, p.at, u.at, l);
          long = l ∙ p.long;
        }

    pub repeated :
        i < inputs → (d : ValueType) → Some d ≡ type_in (variable_at t (k + 2)) (scope sp (length env) env)
        → entered_by (inputs_at most_inputs t 0) ≡ again k
    repeated h d m = on-words h ∙ ap (λ z. enter_first z k (enter_in (binding_at t k ∷ drop sp env) (head h).others)) (sym m)

    pub done : inputs ≤ i → Top (entered_by (inputs_at most_inputs t 0)) inputs env sp
    unfolding enter_in
    done h = go p.others p.count p.same
      where
        go : (os : List Input) → i + length os ≡ inputs → entered_by (inputs_at most_inputs t 0) ≡ enter_in (drop sp env) os → Top (entered_by (inputs_at most_inputs t 0)) inputs env sp
        go [] c e = record { at = omega (arith, p.at); bindings = e }
        go (o ∷ os) c e = absurd (omega arith)

-- the same as the declaration of input i says it
module _ (t : List ℕ) (inputs : ℕ) {top : ℕ} {env : List Binding} {sp i : ℕ} (p : Entering t inputs top env sp i (input_place i)) (h : i < inputs)
    {r : Declaration} (e : r ≡ declaration_of (input_at t (input_place i) (base_at t (input_place i)))) where
  pub turn_at :
      {o : Option_of ValueType} → o ≡ type_in r.name (scope sp (length env) env) → is_some o ≡ false
      → {new : List Binding} {s : ℕ} → Pushed env sp (record { name = r.name; value_type = record { base = r.base; depth = r.depth } }) new s
      → length new ≡ length env
      → Entering t inputs top new s (i + 1) (input_place (i + 1))
  turn_at {o} m n {new} {s} u l =
      let place : input_place i + 4 ≡ input_place (i + 1) = omega arith in
      subst (λ (k : ℕ). Entering t inputs top new s (i + 1) k) place
      (turn t inputs p h
      (none o n ∙ (m ∙ ap (λ (d : Declaration). type_in d.name (scope sp (length env) env)) e))
      (subst (λ (b : Binding). Pushed env sp b new s) (ap (λ (d : Declaration). record { name = d.name; value_type = record { base = d.base; depth = d.depth } }) e ∙ ap (λ z. record { name = variable_at t (input_place i + 2); value_type = z }) (told-of (base_at t (input_place i)) (byte_at t (input_place i + 3)))) u) l)
    where
      none : (o : Option_of ValueType) → is_some o ≡ false → None ≡ o
      none None n = refl
      none (Some d) n = cc

  pub repeated-at : {o : Option_of ValueType} → o ≡ type_in r.name (scope sp (length env) env) → is_some o ≡ true → entered_by (inputs_at most_inputs t 0) ≡ again r.place
  repeated-at {o} m n = go o n m
    where
      go : (o : Option_of ValueType) → is_some o ≡ true → o ≡ type_in r.name (scope sp (length env) env) → entered_by (inputs_at most_inputs t 0) ≡ again r.place
      go None n m = cc
      go (Some d) n m =
          repeated t inputs p h d (m ∙ ap (λ (d : Declaration). type_in d.name (scope sp (length env) env)) e)
          ∙ ap (λ (d : Declaration). again d.place) (sym e)

-- there are no more inputs than are allowed
pub few : (t : List ℕ) (next left k : ℕ) (is : List Input) → inputs_at left t k ≡ declared is next → length is ≤ left
few t next zero k is e = go is e
  where
    go : (os : List Input) → inputs_at zero t k ≡ declared os next → length os ≤ zero
    go [] e = omega arith
    go (o ∷ os) e = let f = first t k next (o ∷ os) (omega arith) zero e in absurd (omega (arith, f.more))
few t next (suc l) k is e = go is e (few t next l (k + 4))
  where
    go :
        (os : List Input) → inputs_at (suc l) t k ≡ declared os next
        → ((others : List Input) → inputs_at l t (k + 4) ≡ declared others next → length others ≤ l) → length os ≤ suc l
    go [] e h = omega arith
    go (o ∷ os) e h =
        let f = first t k next (o ∷ os) (omega arith) (suc l) e in
        let less : suc l - 1 ≡ l = omega arith in
        let n = ap length f.inputs in
        omega (arith, h f.others (ap (λ z. inputs_at z t (k + 4)) (sym less) ∙ f.read))
