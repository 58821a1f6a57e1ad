-- The ways in which a term's code makes new environments: a let gives each environment its value more, a comprehension makes one for each item,
-- and a guard one where it is true. A list of environments stays a list of environments: the items' environments stand one after another, over all lists.
use Prim.Native.Nat.{ℕ, suc}
use mathlib.Core.Bool.{Bool, true, false}
use mathlib.Core.Path.{◌≡◌, refl, ap, ap₂, ◌∙◌, sym}
use mathlib.Core.List.{List, [], ◌∷◌, ◌++◌, map, zip_with, map-map, map-append}
use lib.ListN.{length, length-map}
use Rattle.snesl.specs.Values.{ValueType, braces, bool, Val}
use Rattle.snesl.specs.Terms.{◌∋◌, Term, Listing, Scalars, any_type, listed_types, All, ◌▹◌, lookup, listed, here, there}
use Rattle.snesl.specs.Evaluation.{one_if, eval}
use Rattle.snesl.specs.Representation.{concat, segments}
use Rattle.snesl.proofs.Correctness.AllOf.{Each, each_nil, each-cons}

-- each environment with its value more
abbrev pub bound : {Γ : List ValueType} {υ : ValueType} → List (Val υ) → List (All Val Γ) → List (All Val (υ ∷ Γ))
bound vs ρs = zip_with (λ v ρ. v ▹ ρ) vs ρs

module _ {Γ : List ValueType} {υ : ValueType} (e : Term Γ υ) where
  pub newest-bound : {ρs : List (All Val Γ)} {vs : List (Val υ)} → Each (eval e) ρs vs → map (lookup here) (bound {υ = υ} vs ρs) ≡ vs
  unfolding zip_with lookup
  newest-bound each_nil = refl
  newest-bound (each-cons {b = v} p h) = ap (λ l. v ∷ l) (newest-bound h)

  pub older-bound : {ρs : List (All Val Γ)} {vs : List (Val υ)} {τ : ValueType} (x : Γ ∋ τ)
      → Each (eval e) ρs vs
      → map (lookup (there x)) (bound {υ = υ} vs ρs) ≡ map (lookup x) ρs
  unfolding zip_with lookup
  older-bound x each_nil = refl
  older-bound x (each-cons {a = ρ} p h) = ap (λ l. lookup x ρ ∷ l) (older-bound x h)

  pub length-bound : {ρs : List (All Val Γ)} {vs : List (Val υ)} → Each (eval e) ρs vs → length (bound {υ = υ} vs ρs) ≡ length ρs
  unfolding zip_with
  length-bound each_nil = refl
  length-bound (each-cons p h) = ap suc (length-bound h)

-- the environments of y's items in ρ, where us are listed
abbrev pub inside : {Γ : List ValueType} {υ : ValueType} → Γ ∋ braces υ → (us : Scalars Γ) → All Val Γ → List (All Val (υ ∷ listed_types (any_type us)))
inside y us ρ = map (λ v. v ▹ listed (any_type us) ρ) (lookup y ρ)

abbrev pub inside_all : {Γ : List ValueType} {υ : ValueType} → Γ ∋ braces υ → (us : Scalars Γ) → List (All Val Γ) → List (All Val (υ ∷ listed_types (any_type us)))
inside_all y us ρs = concat (map (inside y us) ρs)

-- how many items y has over all environments
abbrev pub items : {Γ : List ValueType} {υ : ValueType} → Γ ∋ braces υ → List (All Val Γ) → ℕ
items y ρs = length (concat (map (lookup y) ρs))

-- a map of the items, list by list
pub concat-map : {R A B : Type 0} (g : A → B) (f : R → List A) (rs : List R) → map g (concat (map f rs)) ≡ concat (map (λ r. map g (f r)) rs)
unfolding concat
concat-map g f [] = refl
concat-map g f (r ∷ rs) = map-append g (f r) (concat (map f rs)) ∙ ap (λ l. map g (f r) ++ l) (concat-map g f rs)

pub map_same : {A B : Type 0} (f : A → B) (g : B → A) (h : (x : A) → g (f x) ≡ x) (l : List A) → map g (map f l) ≡ l
map_same f g h [] = refl
map_same f g h (x ∷ l) = ap₂ (λ y t. y ∷ t) (h x) (map_same f g h l)

module _ {Γ : List ValueType} {υ : ValueType} (y : Γ ∋ braces υ) (us : Scalars Γ) where
  -- x's values are y's items
  pub item-inside : (ρs : List (All Val Γ)) → map (lookup here) (inside_all y us ρs) ≡ concat (map (lookup y) ρs)
  unfolding lookup
  item-inside ρs =
      concat-map (lookup here) (inside y us) ρs
      ∙ ap (λ f. concat (map f ρs)) (λ i ρ. map_same (λ v. v ▹ listed (any_type us) ρ) (lookup {τ = υ} here) (λ v. refl) (lookup y ρ) i)

  -- a listed variable's values are copies, one for each item
  pub copy-inside : {τ : ValueType} (x : listed_types (any_type us) ∋ τ) (ρs : List (All Val Γ))
      → map (lookup (there x)) (inside_all y us ρs) ≡ concat (map (λ ρ. map (λ v. lookup x (listed (any_type us) ρ)) (lookup y ρ)) ρs)
  unfolding lookup
  copy-inside x ρs =
      concat-map (lookup (there x)) (inside y us) ρs
      ∙ ap (λ f. concat (map f ρs)) (λ i ρ. map-map (lookup (there {υ = υ} x)) (λ v. v ▹ listed (any_type us) ρ) (lookup y ρ) i)

  -- as many as y has items
  pub segments-inside : (ρs : List (All Val Γ)) → segments (map (inside y us) ρs) ≡ segments (map (lookup y) ρs)
  unfolding segments
  segments-inside [] = refl
  segments-inside (ρ ∷ ρs) = rw (length-map (lookup y ρ) (λ v. v ▹ listed (any_type us) ρ), segments-inside ρs)

  pub length-inside : (ρs : List (All Val Γ)) → length (inside_all y us ρs) ≡ items y ρs
  length-inside ρs = sym (length-map (inside_all y us ρs) (lookup here)) ∙ ap length (item-inside ρs)

-- Each R has a bool (f) and a value (h): the values whose bool is T.
abbrev pub those : {R A : Type 0} → (R → Bool) → (R → A) → List R → List A
those f h rs = concat (map (λ r. one_if (f r) (h r)) rs)

-- the environments of a guard's body in ρ: one or none; and those over all environments
abbrev pub passed : {Γ : List ValueType} → Γ ∋ bool → (us : Listing Γ) → All Val Γ → List (All Val (listed_types us))
passed g us ρ = one_if (lookup g ρ) (listed us ρ)

abbrev pub passed_all : {Γ : List ValueType} → Γ ∋ bool → (us : Listing Γ) → List (All Val Γ) → List (All Val (listed_types us))
passed_all g us ρs = those (lookup g) (listed us) ρs

pub map-one : {A B : Type 0} (k : A → B) (c : Bool) (a : A) → map k (one_if c a) ≡ one_if c (k a)
map-one k false a = refl
map-one k true a = refl

-- a listed variable's values there
pub value-passed : {Γ : List ValueType} (g : Γ ∋ bool) (us : Listing Γ) {τ : ValueType} (x : listed_types us ∋ τ) (ρs : List (All Val Γ))
    → map (lookup x) (passed_all g us ρs) ≡ those (lookup g) (λ ρ. lookup x (listed us ρ)) ρs
value-passed g us x ρs =
    concat-map (lookup x) (passed g us) ρs ∙ ap (λ f. concat (map f ρs)) (λ i ρ. map-one (lookup x) (lookup g ρ) (listed us ρ) i)
