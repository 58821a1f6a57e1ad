-- A using list in the bytes, read from its first variable on, and its scope, written from its last one back.
use Rattle.std.proofs.Common.{◌≡◌, ℕ, zero, suc, ◌+◌, ◌-◌, ◌≤◌, ◌<◌, Bool, true, false, List, [], ◌∷◌, Option, None, Some, Result, Ok, Err, length, get_or, take, drop, refl, sym, ap, ap₂, ◌∙◌, arith, add-one, drop-cons, length-drop, subst, drop-drop, drop_at, take-take, take_all}
use Rattle.std.proofs.Math.Seq.{drop-length}
use denote.Enum.Bare.{sameb}
use Rattle.snesl.specs.contracts.code.Base.{the_type}
use Rattle.snesl.specs.declared.code.Base.{Base}
use Rattle.snesl.specs.declared.code.Base.TheVariants as base
use Rattle.std.specs.Result.{IsErrAnd}
use Rattle.std.specs.Option.{ok_or, is_some}
use Rattle.std.proofs.lemmas.List.{nil_from_length}
use Rattle.std.proofs.lemmas.Bool.Decides.{nat_tests}
use mathlib.Core.Bool.{◌&&◌, ◌||◌, not}
use borrow.Author.Tests.{eq-eqb, ne_eqb, lt-ltb, le-ltb}
use lib.Dec.{eqb, ltb}
use Rattle.snesl.specs.declared.code.Variable.{Variable}
use Rattle.snesl.specs.Checking.{names}
use Rattle.snesl.specs.Records.{variable_at, variables_at}
use Rattle.scopes.specs.declared.scope.Binding.{Binding}
use Rattle.snesl.specs.declared.refusal.Refusal.{Refusal}
use Rattle.snesl.specs.declared.refusal.Refusal.TheVariants.{Unbound, WrongType}
use Rattle.snesl.specs.Values.{int}
use Rattle.scopes.specs.declared.types.ValueType.{ValueType}
use Rattle.scopes.specs.Types.{told, same_base}
use Rattle.scopes.specs.Scopes.{scope, type_in, Pushed}
use Rattle.scopes.specs.UsingLists.{variables, first_usable, usable_in, each_usable, scalars_in, listed_in, Listed, Body, stop, inside, element_of, sequence_in, each_in, bool_in, guard_in, Inside, Prepares}
use Rattle.std.specs.Prelude.{nat_eq, unwrap_or}
use Rattle.std.specs.List.{list_any}

module _ (t : List ℕ) where
  -- the first variable of a row
  pub row : (k j : ℕ) → 0 < j → variables_at t k j ≡ variable_at t k ∷ variables_at t (k + 1) (j - 1)
  unfolding variables_at
  row k zero h = absurd (omega arith)
  row k (suc j) h =
      let one : suc k ≡ k + 1 = omega arith in
      let less : j ≡ suc j - 1 = omega arith in
      ap₂ (λ a b. variable_at t k ∷ variables_at t a b) one less

  pub row-none : (k j : ℕ) → j ≡ 0 → variables_at t k j ≡ []
  unfolding variables_at
  row-none k j e = ap (variables_at t k) e

pub names-hit : (u y : Variable) (ys : List Variable) → y.0 ≡ u.0 → names u (y ∷ ys) ≡ true
unfolding names
names-hit u y ys e = ap (λ b. b || names u ys) (eq-eqb u.0 y.0 (sym e))

pub names-miss : (u y : Variable) (ys : List Variable) → (y.0 ≡ u.0 → ⊥) → names u (y ∷ ys) ≡ names u ys
unfolding names
names-miss u y ys n = ap (λ b. b || names u ys) (ne_eqb u.0 y.0 (λ q. n (sym q)))

pub names-none : (u : Variable) → names u [] ≡ false
unfolding names
names-none u = refl

pub names-any : (x : ℕ) (bs : List ℕ) → list_any (λ y. nat_eq y x) bs ≡ names (record { 0 = x }) (variables bs)
unfolding names
names-any x [] = refl
names-any x (b ∷ bs) = ap₂ (λ p q. p || q) (swapped b x) (names-any x bs)
  where
    swapped : (a b : ℕ) → nat_eq a b ≡ eqb b a
    swapped a b = grind (arith, nat_tests)

-- the first of a list, by its tests in turn
pub first-once :
    (w : List Binding) (u : Variable) (bs : List ℕ) {o : Option ValueType} {b : Bool} → o ≡ type_in u w → is_some o ≡ true
    → b ≡ list_any (λ y. nat_eq y u.0) bs → not b ≡ first_usable w u (variables bs)
first-once w u bs {o} {b} e h q = ap₂ (λ a z. a && not z) (sym h ∙ ap is_some e) (q ∙ names-any u.0 bs)

pub each-once : (w : List Binding) (x : Variable) (bs : List ℕ) {b : Bool} → true ≡ usable_in w (variables bs) → b ≡ list_any (λ y. nat_eq y x.0) bs → not b ≡ each_usable w x (variables bs)
each-once w x bs {b} h q = ap₂ (λ a z. a && not z) h (q ∙ names-any x.0 bs)

-- what is left of the list behind i variables decides
module _ (w : List Binding) (bs : List ℕ) (i : ℕ) (p : usable_in w (variables bs) ≡ usable_in w (variables (drop i bs))) where
  module _ (h : i < length bs) {b : Bool} (e : b ≡ first_usable w (record { 0 = get_or bs i 0 }) (variables (take (length bs - (i + 1)) (drop (i + 1) bs)))) where
    step : usable_in w (variables bs) ≡ (b && usable_in w (variables (drop (i + 1) bs)))
    unfolding usable_in
    step =
        let here : drop i bs ≡ get_or bs i 0 ∷ drop (i + 1) bs = drop-cons bs i 0 h ∙ ap (λ z. get_or bs i 0 ∷ drop z bs) (sym (add-one i)) in
        let others : take (length bs - (i + 1)) (drop (i + 1) bs) ≡ drop (i + 1) bs = take_all (length bs - (i + 1)) (drop (i + 1) bs) (omega (arith, length-drop (i + 1) bs)) in
        p ∙ (ap (λ z. usable_in w (variables z)) here
        ∙ ap (λ z. z && usable_in w (variables (drop (i + 1) bs)))
        (ap (λ z. first_usable w (record { 0 = get_or bs i 0 }) (variables z)) (sym others) ∙ sym e))

    pub usable-on : b ≡ true → usable_in w (variables bs) ≡ usable_in w (variables (drop (i + 1) bs))
    usable-on q = step ∙ ap (λ z. z && usable_in w (variables (drop (i + 1) bs))) q

    pub usable-off : b ≡ false → false ≡ usable_in w (variables bs)
    usable-off q = sym (step ∙ ap (λ z. z && usable_in w (variables (drop (i + 1) bs))) q)

  pub usable-all : length bs ≤ i → true ≡ usable_in w (variables bs)
  unfolding usable_in
  usable-all h = sym (p ∙ ap (λ z. usable_in w (variables z)) (nil_from_length (drop i bs) (omega (arith, length-drop i bs))))

-- the listed variables behind the first `left` stand below sp
pub record Pushing (listed : List ℕ) (sp floor : ℕ) (old env : List Binding) (left top : ℕ) : Type 0 where
  pub within : left ≤ length listed
  pub bindings : Listed (listed_in (scope sp floor old) (variables (drop left listed))) sp old env top
  pub room : top + (length listed - left) ≡ sp
  pub long : length env ≡ length old

-- what is the same below a place is so below a lower one
less-below : (a b : List Binding) (i j : ℕ) → i ≤ j → take j a ≡ take j b → take i a ≡ take i b
less-below a b i j h e = sym (take-take i j a h) ∙ ap (take i) e ∙ take-take i j b h

-- the scope that they are looked up in is as it was
listed_above : {bindings old new : List Binding} {sp r : ℕ} → Listed bindings sp old new r → drop sp new ≡ drop sp old
listed_above {bindings} {old} {new} {sp} {r} p =
    ap (λ z. drop z new) (sym p.at)
    ∙ (sym (drop-drop (length bindings) r new) ∙ (ap (drop (length bindings)) p.bindings_are ∙ drop_at bindings (drop sp old) (length bindings) refl))

module _ (bs : List ℕ) (sp floor : ℕ) (old : List Binding) where
  pub push-start : Pushing bs sp floor old old (length bs) sp
  unfolding listed_in
  push-start =
      record {
        within = omega arith;
        bindings = rw (drop-length bs) (record { at = omega arith; below = refl; bindings_are = refl });
        room = omega arith;
        long = refl;
      }

  module _ {env : List Binding} {left top : ℕ} (p : Pushing bs sp floor old env left top) where
    abbrev name : Variable
    name = record { 0 = get_or bs (left - 1) 0 }

    pub push-turn :
        0 < left → {o : Option ValueType} {v : ValueType} → o ≡ type_in name (scope sp floor env) → v ≡ unwrap_or o (told int)
        → {new : List Binding} {r : ℕ} → Pushed env top (record { name = name; value_type = v }) new r → length new ≡ length env
        → Pushing bs sp floor old new (left - 1) r
    unfolding listed_in
    push-turn h {o} {v} e f {new} {r} q l =
        record {
          within = omega (arith, p.within);
          bindings = rw one (record { at = omega (arith, q.at, p.bindings.at); below = q.below ∙ less-below env old r top (omega (arith, q.at)) p.bindings.below; bindings_are = q.bindings ∙ ap₂ (λ a z. record { name = name; value_type = a } ∷ z) found p.bindings.bindings_are });
          room = omega (arith, q.at, p.room);
          long = l ∙ p.long;
        }
      where
        found : v ≡ unwrap_or (type_in name (scope sp floor old)) (told int)
        found = f ∙ ap (λ z. unwrap_or z (told int)) (e ∙ ap (λ z. type_in name (take (floor - sp) z)) (listed_above p.bindings))

        one : drop (left - 1) bs ≡ get_or bs (left - 1) 0 ∷ drop left bs
        one =
            let on : suc (left - 1) ≡ left = omega arith in
            drop-cons bs (left - 1) 0 (omega (arith, p.within)) ∙ ap (λ z. get_or bs (left - 1) 0 ∷ drop z bs) on

    pub push-done : left ≤ 0 → Listed (listed_in (scope sp floor old) (variables bs)) sp old env top
    push-done h =
        let none : left ≡ 0 = omega arith in
        subst (λ z. Listed (listed_in (scope sp floor old) (variables (drop z bs))) sp old env top) none p.bindings

pub length-listed : (w : List Binding) (bs : List ℕ) → length (listed_in w (variables bs)) ≡ length bs
unfolding listed_in
length-listed w [] = refl
length-listed w (b ∷ bs) = ap suc (length-listed w bs)

-- below the listed variables there is room for x
pub room-left :
    (w : List Binding) (bs : List ℕ) {sp : ℕ} {old new : List Binding} {r : ℕ} → Listed (listed_in w (variables bs)) sp old new r → 1 + length bs ≤ sp
    → (0 < r) × (r ≤ sp)
room-left w bs l h = (omega (arith, l.at, length-listed w bs), omega (arith, l.at))

-- what a `?` hands on
pub handed : {A : Type 0} (r : Result A Refusal) {f : Refusal} → IsErrAnd r (λ e. e ≡ f) → Err f ≡ r
handed (Ok a) h = absurd h
handed (Err g) h = ap Err (sym h)

-- an unbound name's refusal is handed on, and nothing was written
pub hands-on :
    {b : Body} (sp : ℕ) (old : List Binding) {o : Option ValueType} (r : Result ℕ Refusal) {f g : Refusal}
    → b ≡ stop g → o ≡ None → ◌≡◌ {A = Result ValueType Refusal} (Err f) (ok_or o g) → IsErrAnd r (λ e. e ≡ f) → Prepares b sp old old r
hands-on {b} sp old r {f} {g} e n q h =
    let same : g ≡ f = cc (ap (λ a. ok_or a g) n) in
    subst (Prepares b sp old old) (handed r h) (record { is = e ∙ ap stop same; kept = refl })

-- an EA record up to its body, by its tests in turn
module _ (w : List Binding) (p : ℕ) (x y : Variable) (us : List Variable) where
  abbrev of-kind : Option ValueType → Bool → Body
  of-kind k b = elim (is_some k && b) as (λ z. Body) [ true ↦ sequence_in w p x us k | false ↦ stop (Unbound p) ]

  of-y : {k : Option ValueType} {b : Bool} → type_in y w ≡ k → each_usable w x us ≡ b → each_in w p x y us ≡ of-kind k b
  unfolding each_in
  of-y e q = ap₂ of-kind e q

  pub each-unbound : type_in y w ≡ None → each_in w p x y us ≡ stop (Unbound p)
  each-unbound e = of-y e refl

  module _ (d : ValueType) (e : type_in y w ≡ Some d) where
    pub each-unusable : each_usable w x us ≡ false → each_in w p x y us ≡ stop (Unbound p)
    each-unusable q = of-y e q

    module _ (q : each_usable w x us ≡ true) where
      by-types :
          {b c : Bool} → ltb 0 d.depth ≡ b → scalars_in w us ≡ c
          → each_in w p x y us
          ≡ elim (b && c) [ true ↦ inside (record { name = x; value_type = element_of d } ∷ listed_in w us) | false ↦ stop (WrongType p) ]
      by-types u v =
          of-y e q
          ∙ ap₂
          (λ (b c : Bool).
          elim (b && c) as (λ z. Body) [ true ↦ inside (record { name = x; value_type = element_of d } ∷ listed_in w us) | false ↦ stop (WrongType p) ])
          u v

      pub each-scalar : d.depth ≡ 0 → each_in w p x y us ≡ stop (WrongType p)
      each-scalar h = by-types (le-ltb 0 d.depth (omega arith)) refl

      pub each-types : (d.depth ≡ 0 → ⊥) → scalars_in w us ≡ false → each_in w p x y us ≡ stop (WrongType p)
      each-types h i = by-types (lt-ltb 0 d.depth (omega arith)) i

      pub each-inside :
          (d.depth ≡ 0 → ⊥) → scalars_in w us ≡ true → {sp top r : ℕ} {old mid new : List Binding} → Listed (listed_in w us) sp old mid top
          → Pushed mid top (record { name = x; value_type = element_of d }) new r
          → Inside (each_in w p x y us) sp old new r
      each-inside h i {top = top} {r = r} {old = old} {mid = mid} l m =
          record {
            bindings = record { name = x; value_type = element_of d } ∷ listed_in w us;
            is = by-types (lt-ltb 0 d.depth (omega arith)) i;
            at = omega (arith, l.at, m.at);
            below = m.below ∙ less-below mid old r top (omega (arith, m.at)) l.below;
            bindings_are = m.bindings ∙ ap (λ z. record { name = x; value_type = element_of d } ∷ z) l.bindings_are;
          }

-- the derived test of types is the definition's
same-is : (a b : Base) → sameb the_type a b ≡ same_base a b
same-is base.Int base.Int = refl
same-is base.Int base.Bool = refl
same-is base.Bool base.Int = refl
same-is base.Bool base.Bool = refl

-- a GU record up to its body, by its tests in turn
module _ (w : List Binding) (p : ℕ) (g : Variable) (us : List Variable) where
  abbrev guard-kind : Option ValueType → Bool → Body
  guard-kind k b = elim (is_some k && b) as (λ z. Body) [ true ↦ bool_in w p us k | false ↦ stop (Unbound p) ]

  of-g : {k : Option ValueType} {b : Bool} → type_in g w ≡ k → usable_in w us ≡ b → guard_in w p g us ≡ guard-kind k b
  unfolding guard_in
  of-g e q = ap₂ guard-kind e q

  pub guard-unbound : type_in g w ≡ None → guard_in w p g us ≡ stop (Unbound p)
  guard-unbound e = of-g e refl

  module _ (d : ValueType) (e : type_in g w ≡ Some d) where
    pub guard-unusable : usable_in w us ≡ false → guard_in w p g us ≡ stop (Unbound p)
    guard-unusable q = of-g e q

    module _ (q : usable_in w us ≡ true) where
      -- by the derived test's answer, which says whether the two differ
      guard-type :
          {b : Bool} → b ≡ not (sameb the_type d.base base.Bool && eqb d.depth 0)
          → guard_in w p g us ≡ elim (not b) [ true ↦ inside (listed_in w us) | false ↦ stop (WrongType p) ]
      guard-type {b} u =
          of-g e q
          ∙ ap (λ (b : Bool). elim b as (λ z. Body) [ true ↦ inside (listed_in w us) | false ↦ stop (WrongType p) ])
          (sym (ap not u ∙ (not-not (sameb the_type d.base base.Bool && eqb d.depth 0) ∙ ap (λ z. z && eqb d.depth 0) (same-is d.base base.Bool))))
        where
          not-not : (a : Bool) → not (not a) ≡ a
          not-not true = refl
          not-not false = refl

      pub guard-other : true ≡ not (sameb the_type d.base base.Bool && eqb d.depth 0) → guard_in w p g us ≡ stop (WrongType p)
      guard-other n = guard-type n

      pub guard-inside :
          false ≡ not (sameb the_type d.base base.Bool && eqb d.depth 0) → {sp r : ℕ} {old new : List Binding} → Listed (listed_in w us) sp old new r
          → Inside (guard_in w p g us) sp old new r
      guard-inside h l =
          record { bindings = listed_in w us; is = guard-type h; at = l.at; below = l.below; bindings_are = l.bindings_are }
