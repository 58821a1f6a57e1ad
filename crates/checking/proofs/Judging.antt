-- Checking over scopes of bindings is snesl's check: `judge` answers the type of the typed expression and the words of its walk, or the same refusal.
use Prim.Native.Nat.{ℕ, suc, ◌+◌, ◌-◌, max}
use mathlib.Core.Bool.{Bool, true, false, ◌&&◌, ◌||◌, not}
use mathlib.Core.List.{List, [], ◌∷◌}
use mathlib.Core.Option.{Option, some, none}
use mathlib.Core.Path.{◌≡◌, refl, sym, ap, ap₂, ◌∙◌}
use native.Mathlib.Omega.{arith}
use lib.Dec.{eqb, ltb}
use lib.ListN.{length}
use borrow.Author.Tests.{lt-ltb, ne_eqb}
use Rattle.snesl.specs.declared.code.Base.{Base}
use Rattle.snesl.specs.declared.code.Base.TheVariants as base
use Rattle.snesl.specs.declared.code.Operation.{Operation}
use Rattle.snesl.specs.declared.code.Variable.{Variable}
use Rattle.snesl.specs.declared.refusal.Refusal.TheVariants.{Unbound, WrongType}
use Rattle.snesl.specs.Limits.{most_depth}
use Rattle.snesl.specs.Values.{ValueType, scalar, braces, int, bool, base_of, depth_of, result_of}
use Rattle.snesl.specs.Terms as terms
use Rattle.snesl.specs.Terms.{◌∋◌, here, Term, Listing, Scalars, any_type, listed_types, All, ∅, ◌▹◌}
use Rattle.snesl.specs.Records as records
use Rattle.snesl.specs.Records.{Raw, Input}
use Rattle.snesl.specs.Checking as checking
use Rattle.snesl.specs.Checking.{as_bool, NamedListing, any_first, listed_any, any_pointers, any_names}
use Rattle.snesl.specs.Checking.{Name, same, Found, missing, found, later, find, is_bound, as_scalar, as_int, as_sequence, as_ints, names, usable, NamedScalars, listed_first, listed_scalars, pointers, listed_names, Typed, refused, typed, demand, typed_if, typed_sequence, typed_then, turned, input_type, input_names, repeated, check_inputs}
use Rattle.std.proofs.Common.{Option as Option_of, Some, None, Result, Ok, Err, cond}
use Rattle.snesl.specs.declared.refusal.Refusal.{Refusal}
use Rattle.scopes.specs.declared.types.ValueType.{ValueType as Held}
use Rattle.scopes.specs.declared.scope.Binding.{Binding}
use Rattle.checking.specs.declared.check.Judged.{Judged}
use Rattle.scopes.specs.Types.{told, same_base, same_type}
use Rattle.scopes.specs.Scopes.{type_in}
use Rattle.scopes.specs.UsingLists.{is_scalar_in, usable_in, scalars_in, listed_in, Body, stop, inside, element_of, sequence_in, each_in}
use Rattle.scopes.specs.UsingLists.{bool_in, guard_in}
use Rattle.std.specs.Option.{is_some, unwrap_or, option_map}
use Rattle.std.proofs.lemmas.List.Sums.{sum_by-cons}
use Rattle.std.specs.List.{find as first_of_all}
use Rattle.environment.specs.Needs.{binding_size, body_size, listed_size, spread_size, words}
use Rattle.checking.specs.Checks.{checked_of, check_front, judged_of, judge_front, gives, var_in, want_in, both_in, result_type, ints, sized, then_typed, body_then, bound, closed, guarded, bindings_size, newest, judge, Entry, again, entered, enter_first, enter_in}

-- the bindings of a scope
unfoldable pub spelled : {Γ : List ValueType} → All Name Γ → List Binding
spelled ∅ = []
spelled (◌▹◌ {τ = τ} x scope) = record { name = x; value_type = told τ } ∷ spelled scope

abbrev kind_of : {Γ : List ValueType} → Found Γ → Option_of Held
kind_of missing = None
kind_of (found τ x) = Some (told τ)

later-kind : {Γ : List ValueType} (υ : ValueType) (f : Found Γ) → kind_of f ≡ kind_of (later {υ = υ} f)
later-kind υ missing = refl
later-kind υ (found τ x) = refl

pub type-is : (x : Variable) {Γ : List ValueType} (scope : All Name Γ) → type_in x (spelled scope) ≡ kind_of (find x scope)
unfolding type_in spelled find
type-is x ∅ = refl
type-is x (◌▹◌ {τ = τ} {Γ = Δ} y scope) = go (eqb x.0 y.0) (type-is x scope)
  where
    go :
        (b : Bool) → type_in x (spelled scope) ≡ kind_of (find x scope)
        → option_map (λ (b : Binding). b.value_type) (cond b (Some (record { name = y; value_type = told τ })) (first_of_all (λ b. same x b.name) (spelled scope)))
        ≡ kind_of {Γ = τ ∷ Δ} (elim b [ true ↦ found τ here | false ↦ later (find x scope) ])
    go true h = refl
    go false h = h ∙ later-kind τ (find x scope)

-- ---- records without expressions inside

and-false : (a : Bool) → (a && false) ≡ false
and-false true = refl
and-false false = refl

-- one pair of braces more or less is another type
braces-scalar : (τ : ValueType) (b : Base) → same_type (told (braces τ)) (told (scalar b)) ≡ false
braces-scalar τ b =
    ap (λ z. same_base (base_of τ) b && z) (ne_eqb (suc (depth_of τ)) 0 (λ q. omega arith)) ∙ and-false (same_base (base_of τ) b)

braces-braces : (τ : ValueType) → same_type (told (braces (braces τ))) ints ≡ false
braces-braces τ =
    ap (λ z. same_base (base_of τ) base.Int && z) (ne_eqb (suc (suc (depth_of τ))) 1 (λ q. omega arith)) ∙ and-false (same_base (base_of τ) base.Int)

-- a type, or a refused one
abbrev type-if : (place : ℕ) → (result : Held) → Bool → Result Judged Refusal
type-if p d b = sized (elim b [ true ↦ Ok d | false ↦ Err (WrongType p) ])

module _ {Γ : List ValueType} (p : ℕ) where
  var-is : (f : Found Γ) → sized (var_in p (kind_of f)) ≡ judged_of {Γ = Γ} (elim f [ missing ↦ refused (Unbound p) | found τ v ↦ typed τ (terms.var v) ])
  unfolding words
  var-is missing = refl
  var-is (found τ v) = refl

  iota-is :
      (f : Found Γ)
      → sized (want_in p (told int) ints (kind_of f)) ≡ judged_of (demand (is_bound f) (Unbound p) (typed_if p (as_int (as_scalar f)) (λ v. typed (braces int) (terms.iota v))))
  unfolding words
  iota-is missing = refl
  iota-is (found (scalar base.Int) v) = refl
  iota-is (found (scalar base.Bool) v) = refl
  iota-is (found (braces τ) v) = ap (type-if p ints) (braces-scalar τ base.Int)

  sum_is :
      (f : Found Γ)
      → sized (want_in p ints (told int) (kind_of f)) ≡ judged_of (demand (is_bound f) (Unbound p) (typed_if p (as_ints (as_sequence f)) (λ v. typed int (terms.sum v))))
  unfolding words
  sum_is missing = refl
  sum_is (found (scalar base.Int) v) = refl
  sum_is (found (scalar base.Bool) v) = refl
  sum_is (found (braces (scalar base.Int)) v) = refl
  sum_is (found (braces (scalar base.Bool)) v) = refl
  sum_is (found (braces (braces τ)) v) = ap (type-if p (told int)) (braces-braces τ)

  negation-is :
      (f : Found Γ)
      → sized (want_in p (told bool) (told bool) (kind_of f)) ≡ judged_of (demand (is_bound f) (Unbound p) (typed_if p (as_bool (as_scalar f)) (λ v. typed bool (terms.negation v))))
  unfolding words
  negation-is missing = refl
  negation-is (found (scalar base.Int) v) = refl
  negation-is (found (scalar base.Bool) v) = refl
  negation-is (found (braces τ) v) = ap (type-if p (told bool)) (braces-scalar τ base.Bool)

  operation-is :
      (o : Operation) (f g : Found Γ)
      → sized (both_in p (result_type o) (kind_of f) (kind_of g))
      ≡ judged_of
      (demand (is_bound f && is_bound g) (Unbound p)
      (typed_if p (as_int (as_scalar f)) (λ v. typed_if p (as_int (as_scalar g)) (λ w. typed (scalar (result_of o)) (terms.operation o v w)))))
  unfolding words
  operation-is o missing g = refl
  operation-is o (found τ v) missing = refl
  operation-is o (found (scalar base.Int) v) (found (scalar base.Int) w) = refl
  operation-is o (found (scalar base.Int) v) (found (scalar base.Bool) w) = refl
  operation-is o (found (scalar base.Int) v) (found (braces υ) w) = ap (type-if p (result_type o)) (braces-scalar υ base.Int)
  operation-is o (found (scalar base.Bool) v) (found υ w) = refl
  operation-is o (found (braces τ) v) (found υ w) =
      ap (λ b. type-if p (result_type o) (b && same_type (told υ) (told int))) (braces-scalar τ base.Int)

-- ---- a using list

bound-is : {Γ : List ValueType} (f : Found Γ) → is_some (kind_of f) ≡ is_bound f
bound-is missing = refl
bound-is (found τ v) = refl

and_assoc : (a b c : Bool) → ((a && b) && c) ≡ (a && (b && c))
and_assoc true b c = refl
and_assoc false b c = refl

-- the words of the listed variables
names-size : {Γ : List ValueType} (l : NamedListing Γ) → bindings_size (spelled (any_names l)) ≡ listed_size (any_pointers l)
unfolding spelled any_names listed_size
names-size [] = refl
names-size (p ∷ l) = sum_by-cons (λ (b : Binding). binding_size b.value_type.depth) (record { name = p.0; value_type = told p.1.0 }) (spelled (any_names l)) ∙ ap (λ n. binding_size (depth_of p.1.0) + n) (names-size l)

abbrev found_in : Option_of Held → Held
found_in o = unwrap_or o (told int)

module _ {Γ : List ValueType} (scope : All Name Γ) where
  usable-is : (us : List Variable) → usable_in (spelled scope) us ≡ usable scope us
  unfolding usable_in usable
  usable-is [] = refl
  usable-is (u ∷ us) =
      and_assoc (is_some (type_in u (spelled scope))) (not (names u us)) (usable_in (spelled scope) us)
      ∙ ap₂ (λ a b. a && (not (names u us) && b)) (ap is_some (type-is u scope) ∙ bound-is (find u scope)) (usable-is us)

  -- variables of any type: they are all there where they are usable, and then their scope is theirs
  abbrev Any : List Variable → Option (NamedListing Γ) → Type 0
  Any us none = usable scope us ≡ false
  Any us (some l) = spelled (any_names l) ≡ listed_in (spelled scope) us

  any-first :
      (u : Variable) (us : List Variable) (f : Found Γ) → find u scope ≡ f → (o : Option (NamedListing Γ)) → Any us o → Any (u ∷ us) (any_first u f o)
  unfolding usable listed_in any_names spelled
  any-first u us missing e o h = ap (λ z. is_bound z && (not (names u us) && usable scope us)) e
  any-first u us (found τ v) e none h =
      ap (λ z. is_bound z && (not (names u us) && usable scope us)) e ∙ (ap (λ b. not (names u us) && b) h ∙ and-false (not (names u us)))
  any-first u us (found τ v) e (some l) h = ap₂ (λ d z. record { name = u; value_type = d } ∷ z) (sym (ap found_in (type-is u scope ∙ ap kind_of e))) h

  any-are : (us : List Variable) → Any us (listed_any scope us)
  unfolding usable listed_any listed_in any_names spelled
  any-are [] = refl
  any-are (u ∷ us) = any-first u us (find u scope) refl (listed_any scope us) (any-are us)

  -- the listed variables are all scalars, and then their scope is theirs, and they are as many
  abbrev AllScalars : List Variable → Option (NamedScalars Γ) → Type 0
  AllScalars us none = scalars_in (spelled scope) us ≡ false
  AllScalars us (some l) =
      (scalars_in (spelled scope) us ≡ true) × (spelled (listed_names l) ≡ listed_in (spelled scope) us) × (length us ≡ length (pointers l))

  abbrev scalar_first : List Variable → Option_of Held → Bool
  scalar_first us k = is_scalar_in k && scalars_in (spelled scope) us

  first-is :
      (u : Variable) (us : List Variable) (f : Found Γ) (o : Option (NamedScalars Γ)) → type_in u (spelled scope) ≡ kind_of f
      → AllScalars us o → AllScalars (u ∷ us) (listed_first u (as_scalar f) o)
  unfolding scalars_in listed_in listed_names spelled
  first-is u us missing o e h = ap (scalar_first us) e
  first-is u us (found (scalar b) v) none e h = ap (scalar_first us) e ∙ h
  first-is u us (found (scalar b) v) (some l) e h = (
    ap (scalar_first us) e ∙ h.0,
    ap₂ (λ d z. record { name = u; value_type = d } ∷ z) (sym (ap found_in e)) h.1,
    ap suc h.2,
  )
  first-is u us (found (braces τ) v) o e h =
      ap (scalar_first us) e ∙ ap (λ b. b && scalars_in (spelled scope) us) (ne_eqb (suc (depth_of τ)) 0 (λ q. omega arith))

  scalars-are : (us : List Variable) → AllScalars us (listed_scalars scope us)
  unfolding scalars_in listed_scalars listed_in listed_names spelled
  scalars-are [] = (refl, refl, refl)
  scalars-are (u ∷ us) = first-is u us (find u scope) (listed_scalars scope us) (type-is u scope) (scalars-are us)

-- ---- expressions inside

bind_is :
    {Γ Δ : List ValueType} (T : Typed Γ) (f : Held → ℕ → Result Judged Refusal) (F : (τ : ValueType) → Term Γ τ → Typed Δ)
    → ((τ : ValueType) (t : Term Γ τ) → f (told τ) (words t) ≡ judged_of (F τ t))
    → then_typed (judged_of T) f ≡ judged_of (typed_then T F)
bind_is (refused r) f F h = refl
bind_is (typed τ t) f F h = h τ t

closed_is :
    (p : ℕ) {Γ : List ValueType} {υ : ValueType} (v : Γ ∋ braces υ) (us : Scalars Γ) (τ : ValueType) (e : Term (υ ∷ listed_types (any_type us)) τ)
    → closed p (told υ) (length us) (told τ) (words e)
    ≡ judged_of (demand (ltb (depth_of τ) most_depth) (WrongType p) (typed (braces τ) (terms.each v us e)))
unfolding words
closed_is p {υ = υ} v us τ e = go (ltb (depth_of τ) most_depth)
  where
    go :
        (b : Bool)
        → elim b [ true ↦ gives (told (braces τ)) (body_size (depth_of υ) (length us) + words e) | false ↦ Err (WrongType p) ]
        ≡ judged_of (demand b (WrongType p) (typed (braces τ) (terms.each v us e)))
    go true = refl
    go false = refl

module _
    {Γ : List ValueType} (scope : All Name Γ) (p : ℕ) (x y : Variable) (us : List Variable) (e : Raw)
    (inner : (Δ : List ValueType) (names : All Name Δ) → judge (spelled names) e ≡ judged_of (checking.check names e)) where
  abbrev within : {υ : ValueType} → Γ ∋ braces υ → NamedScalars Γ → Typed Γ
  within {υ} v l =
      typed_then (checking.check (◌▹◌ {τ = υ} x (listed_names l)) e)
      (λ τ t. demand (ltb (depth_of τ) most_depth) (WrongType p) (typed (braces τ) (terms.each v (pointers l) t)))

  abbrev body : List Binding → Result Judged Refusal
  body w = then_typed (judge w e) (closed p (newest w) (length us))

  body_is :
      (υ : ValueType) (v : Γ ∋ braces υ) (l : NamedScalars Γ) → length us ≡ length (pointers l)
      → body (record { name = x; value_type = told υ } ∷ spelled (listed_names l)) ≡ judged_of (within v l)
  unfolding spelled
  body_is υ v l n =
      ap₂ (λ z j. then_typed z (closed p (told υ) j)) (inner (υ ∷ listed_types (any_type (pointers l))) (x ▹ listed_names l)) n
      ∙ bind_is (checking.check (x ▹ listed_names l) e) (closed p (told υ) (length (pointers l)))
      (λ τ t. demand (ltb (depth_of τ) most_depth) (WrongType p) (typed (braces τ) (terms.each v (pointers l) t)))
      (λ τ t. closed_is p v (pointers l) τ t)

  abbrev sequence-if : (d : Held) → Bool → Bool → Result Judged Refusal
  sequence-if d a b =
      body_then
      (elim (a && b) as (λ z. Body) [ true ↦ inside (record { name = x; value_type = element_of d } ∷ listed_in (spelled scope) us) | false ↦ stop (WrongType p) ])
      body

  each-is :
      body_then (each_in (spelled scope) p x y us) body
      ≡ judged_of
      (demand (is_bound (find y scope) && (usable scope us && not (names x us))) (Unbound p)
      (typed_sequence p (as_sequence (find y scope)) (λ υ v. typed_if p (listed_scalars scope us) (within v))))
  unfolding each_in
  each-is =
      ap₂ (λ k u. body_then (elim (is_some k && u) as (λ z. Body) [ true ↦ sequence_in (spelled scope) p x us k | false ↦ stop (Unbound p) ]) body)
      (type-is y scope) (ap (λ b. b && not (names x us)) (usable-is scope us))
      ∙ go (find y scope) (usable scope us && not (names x us))
    where
      last :
          (υ : ValueType) (v : Γ ∋ braces υ) (o : Option (NamedScalars Γ)) → AllScalars scope us o
          → body_then (sequence_in (spelled scope) p x us (Some (told (braces υ)))) body ≡ judged_of (typed_if p o (within v))
      last υ v none h = ap₂ (sequence-if (told (braces υ))) (lt-ltb 0 (suc (depth_of υ)) (omega arith)) h
      last υ v (some l) h =
          let down : suc (depth_of υ) - 1 ≡ depth_of υ = omega arith in
          ap₂ (sequence-if (told (braces υ))) (lt-ltb 0 (suc (depth_of υ)) (omega arith)) h.0
          ∙ (ap₂ (λ (d : ℕ) w. body (record { name = x; value_type = record { base = base_of υ; depth = d } } ∷ w)) down (sym h.1) ∙ body_is υ v l h.2)

      none_in : (b : Base) → sequence-if (told (scalar b)) (ltb 0 0) (scalars_in (spelled scope) us) ≡ Err (WrongType p)
      none_in b = refl

      go :
          (f : Found Γ) (b : Bool)
          → body_then (elim (is_some (kind_of f) && b) as (λ z. Body) [ true ↦ sequence_in (spelled scope) p x us (kind_of f) | false ↦ stop (Unbound p) ]) body
          ≡ judged_of
          (demand (is_bound f && b) (Unbound p) (typed_sequence p (as_sequence f) (λ υ v. typed_if p (listed_scalars scope us) (within v))))
      go missing b = refl
      go (found τ v) false = refl
      go (found (scalar b) v) true = none_in b
      go (found (braces υ) v) true = last υ v (listed_scalars scope us) (scalars-are scope us)

guarded-is :
    (p : ℕ) {Γ : List ValueType} (v : Γ ∋ bool) (us : Listing Γ) (τ : ValueType) (e : Term (listed_types us) τ)
    → guarded p (listed_size us) (told τ) (words e)
    ≡ judged_of (demand (ltb (depth_of τ) most_depth) (WrongType p) (typed (braces τ) (terms.guard v us e)))
unfolding words
guarded-is p v us τ e = go (ltb (depth_of τ) most_depth)
  where
    go :
        (b : Bool)
        → elim b [ true ↦ gives (told (braces τ)) (3 + (listed_size us + max spread_size (words e))) | false ↦ Err (WrongType p) ]
        ≡ judged_of (demand b (WrongType p) (typed (braces τ) (terms.guard v us e)))
    go true = refl
    go false = refl

module _
    {Γ : List ValueType} (scope : All Name Γ) (p : ℕ) (g : Variable) (us : List Variable) (e : Raw)
    (inner : (Δ : List ValueType) (names : All Name Δ) → judge (spelled names) e ≡ judged_of (checking.check names e)) where
  abbrev guard-within : Γ ∋ bool → NamedListing Γ → Typed Γ
  guard-within v l =
      typed_then (checking.check (any_names l) e)
      (λ τ t. demand (ltb (depth_of τ) most_depth) (WrongType p) (typed (braces τ) (terms.guard v (any_pointers l) t)))

  abbrev guard-body : List Binding → Result Judged Refusal
  guard-body w = then_typed (judge w e) (guarded p (bindings_size w))

  guard-body-is : (v : Γ ∋ bool) (l : NamedListing Γ) → guard-body (spelled (any_names l)) ≡ judged_of (guard-within v l)
  guard-body-is v l =
      ap₂ (λ z n. then_typed z (guarded p n)) (inner (listed_types (any_pointers l)) (any_names l)) (names-size l)
      ∙ bind_is (checking.check (any_names l) e) (guarded p (listed_size (any_pointers l)))
      (λ τ t. demand (ltb (depth_of τ) most_depth) (WrongType p) (typed (braces τ) (terms.guard v (any_pointers l) t)))
      (λ τ t. guarded-is p v (any_pointers l) τ t)

  abbrev bool-if : Bool → Result Judged Refusal
  bool-if b = body_then (elim b as (λ z. Body) [ true ↦ inside (listed_in (spelled scope) us) | false ↦ stop (WrongType p) ]) guard-body

  guard-is :
      body_then (guard_in (spelled scope) p g us) guard-body
      ≡ judged_of
      (demand (is_bound (find g scope) && usable scope us) (Unbound p)
      (typed_if p (as_bool (as_scalar (find g scope))) (λ v. typed_if p (listed_any scope us) (guard-within v))))
  unfolding guard_in
  guard-is =
      ap₂ (λ k u. body_then (elim (is_some k && u) as (λ z. Body) [ true ↦ bool_in (spelled scope) p us k | false ↦ stop (Unbound p) ]) guard-body)
      (type-is g scope) (usable-is scope us)
      ∙ go (find g scope) (usable scope us) refl
    where
      last :
          (v : Γ ∋ bool) (o : Option (NamedListing Γ)) → usable scope us ≡ true → Any scope us o
          → guard-body (listed_in (spelled scope) us) ≡ judged_of (typed_if p o (guard-within v))
      last v none q h = let z : true ≡ false = sym q ∙ h in let y : ◌≡◌ {A = ℕ} 0 1 = cc in absurd (omega arith)
      last v (some l) q h = ap guard-body (sym h) ∙ guard-body-is v l

      go :
          (f : Found Γ) (b : Bool) → usable scope us ≡ b
          → body_then (elim (is_some (kind_of f) && b) as (λ z. Body) [ true ↦ bool_in (spelled scope) p us (kind_of f) | false ↦ stop (Unbound p) ]) guard-body
          ≡ judged_of
          (demand (is_bound f && b) (Unbound p) (typed_if p (as_bool (as_scalar f)) (λ v. typed_if p (listed_any scope us) (guard-within v))))
      go missing b q = refl
      go (found τ v) false q = refl
      go (found (scalar base.Int) v) true q = refl
      go (found (scalar base.Bool) v) true q = last v (listed_any scope us) q (any-are scope us)
      go (found (braces τ) v) true q = ap bool-if (braces-scalar τ base.Bool)

pub judge-is : {Γ : List ValueType} (scope : All Name Γ) (e : Raw) → judge (spelled scope) e ≡ judged_of (checking.check scope e)
unfolding judge checking.check spelled words
judge-is scope (records.var p x) = ap (λ k. sized (var_in p k)) (type-is x scope) ∙ var-is p (find x scope)
judge-is {Γ} scope (records.bind p x e₁ e₂) =
    ap (λ z. then_typed z (λ c n. then_typed (judge (record { name = x; value_type = c } ∷ spelled scope) e₂) (bound c n))) (judge-is scope e₁)
    ∙ bind_is (checking.check scope e₁) (λ c n. then_typed (judge (record { name = x; value_type = c } ∷ spelled scope) e₂) (bound c n))
    (λ υ t₁. typed_then (checking.check (x ▹ scope) e₂) (λ τ t₂. typed τ (terms.bind t₁ t₂)))
    (λ υ t₁.
    ap (λ z. then_typed z (bound (told υ) (words t₁))) (judge-is (◌▹◌ {τ = υ} x scope) e₂)
    ∙ bind_is (checking.check (◌▹◌ {τ = υ} x scope) e₂) (bound (told υ) (words t₁)) (λ τ t₂. typed τ (terms.bind t₁ t₂)) (λ τ t₂. refl))
judge-is scope (records.const p z) = refl
judge-is scope (records.truth p c) = refl
judge-is scope (records.iota p x) = ap (λ k. sized (want_in p (told int) ints k)) (type-is x scope) ∙ iota-is p (find x scope)
judge-is scope (records.operation p o x y) =
    ap₂ (λ k l. sized (both_in p (result_type o) k l)) (type-is x scope) (type-is y scope) ∙ operation-is p o (find x scope) (find y scope)
judge-is scope (records.negation p x) = ap (λ k. sized (want_in p (told bool) (told bool) k)) (type-is x scope) ∙ negation-is p (find x scope)
judge-is scope (records.sum p x) = ap (λ k. sized (want_in p ints (told int) k)) (type-is x scope) ∙ sum_is p (find x scope)
judge-is scope (records.each p x y us e) = each-is scope p x y us e (λ Δ names. judge-is names e)
judge-is scope (records.guard p g us e) = guard-is scope p g us e (λ Δ names. judge-is names e)

-- ---- the inputs

-- a scope has the names that were seen
pub record Agree (seen : List Variable) {Γ : List ValueType} (scope : All Name Γ) : Type 0 where
  pub has : (x : Variable) → names x seen ≡ is_bound (find x scope)

none_seen : Agree [] ∅
unfolding names find
none_seen = record { has = λ x. refl }

one_seen : (y : Variable) (τ : ValueType) {seen : List Variable} {Γ : List ValueType} {scope : All Name Γ} → Agree seen scope → Agree (y ∷ seen) (◌▹◌ {τ = τ} y scope)
unfolding names find
one_seen y τ {seen} {Γ} {scope} a = record { has = λ x. go x (same x y) (find x scope) (a.has x) }
  where
    go :
        (x : Variable) (b : Bool) (f : Found Γ) → names x seen ≡ is_bound f
        → (b || names x seen) ≡ is_bound {Γ = τ ∷ Γ} (elim b [ true ↦ found τ here | false ↦ later f ])
    go x true f h = refl
    go x false missing h = h
    go x false (found υ v) h = h

-- the inputs by whether one of them repeats a name
abbrev Entering : {Γ : List ValueType} → All Name Γ → List Input → Option ℕ → Type 0
Entering scope is none = enter_in (spelled scope) is ≡ entered (spelled (turned scope (input_names is)))
Entering scope is (some p) = enter_in (spelled scope) is ≡ again p

enter-is : (seen : List Variable) {Γ : List ValueType} (scope : All Name Γ) (is : List Input) → Agree seen scope → Entering scope is (repeated seen is)
unfolding enter_in repeated turned input_names spelled
enter-is seen scope [] a = refl
enter-is seen {Γ} scope (i ∷ is) a =
    go (names i.name seen) (find i.name scope) (type-is i.name scope) (a.has i.name)
    (enter-is (i.name ∷ seen) (◌▹◌ {τ = input_type i} i.name scope) is (one_seen i.name (input_type i) a))
  where
    on : (o : Option ℕ) → type_in i.name (spelled scope) ≡ None → Entering (◌▹◌ {τ = input_type i} i.name scope) is o → Entering scope (i ∷ is) o
    on none e h = ap (λ k. enter_first k i.place (enter_in (record { name = i.name; value_type = told (input_type i) } ∷ spelled scope) is)) e ∙ h
    on (some p) e h = ap (λ k. enter_first k i.place (enter_in (record { name = i.name; value_type = told (input_type i) } ∷ spelled scope) is)) e ∙ h

    go :
        (b : Bool) (f : Found Γ) → type_in i.name (spelled scope) ≡ kind_of f → b ≡ is_bound f
        → Entering (◌▹◌ {τ = input_type i} i.name scope) is (repeated (i.name ∷ seen) is)
        → Entering scope (i ∷ is) (elim b [ true ↦ some i.place | false ↦ repeated (i.name ∷ seen) is ])
    go true missing e h r = let z : ◌≡◌ {A = ℕ} 0 1 = cc in absurd (omega arith)
    go true (found τ v) e h r = ap (λ k. enter_first k i.place (enter_in (record { name = i.name; value_type = told (input_type i) } ∷ spelled scope) is)) e
    go false missing e h r = on (repeated (i.name ∷ seen) is) e r
    go false (found τ v) e h r = let z : ◌≡◌ {A = ℕ} 0 1 = cc in absurd (omega arith)

-- the whole check of a formula over bindings: a repeated input is told before the expression is walked
abbrev pub entry_then : Entry → (List Binding → Result Judged Refusal) → Result Judged Refusal
entry_then (again p) f = Err (Unbound p)
entry_then (entered w) f = f w

pub formula-is : (is : List Input) (e : Raw) → entry_then (enter_in [] is) (λ w. judge w e) ≡ judged_of (checking.check_formula is e)
unfolding spelled
formula-is is e = go (repeated [] is) (enter-is [] ∅ is none_seen)
  where
    go : (o : Option ℕ) → Entering ∅ is o → entry_then (enter_in [] is) (λ w. judge w e) ≡ judged_of (check_inputs o (checking.check (turned ∅ (input_names is)) e))
    go none h = ap (λ z. entry_then z (λ w. judge w e)) h ∙ judge-is (turned ∅ (input_names is)) e
    go (some p) h = ap (λ z. entry_then z (λ w. judge w e)) h

-- what a caller that asks for the type alone reads of the answer
abbrev pub type_only : Result Judged Refusal → Result Held Refusal
type_only (Err r) = Err r
type_only (Ok j) = Ok j.found

pub type-of-front : (f : records.Front) → type_only (judge_front f) ≡ check_front f
type-of-front (records.refused r) = refl
type-of-front (records.front is k e next) = go (checking.check_formula is e)
  where
    go : {Γ : List ValueType} (T : Typed Γ) → type_only (judged_of T) ≡ checked_of T
    go (refused r) = refl
    go (typed τ t) = refl
