-- Evaluation of a named expression by the rules gives exactly the value that `eval` gives its typed expression, and none where `eval` gives none.
use Prim.Native.Nat.{ℕ, zero, suc}
use mathlib.Core.Bool.{Bool, true, false}
use mathlib.Core.List.{List, [], ◌∷◌}
use mathlib.Core.Logic.{◌↔◌}
use mathlib.Core.Option.{Option, some, none}
use mathlib.Core.Path.{◌≡◌, refl, sym, ap, ◌∙◌, subst}
use lib.IntN.{ℤ, pos, negsuc, ◌+ℤ◌}
use Rattle.laws.proofs.Never.{never}
use Rattle.snesl.specs.declared.code.Base.{Base}
use Rattle.snesl.specs.declared.code.Base.TheVariants as base
use Rattle.snesl.specs.declared.code.Operation.{Operation}
use Rattle.snesl.specs.declared.code.Operation.TheVariants.{Plus, LessEqual, Equal}
use Rattle.snesl.specs.declared.code.Variable.{Variable}
use Rattle.snesl.specs.Values as types
use Rattle.snesl.specs.Values.{ValueType, Element, Val, in_range, total, result_of}
use Rattle.snesl.specs.Terms.{Term, All, ◌▹◌, lookup, any_type, listed}
use Rattle.snesl.specs.Evaluation.{and_then, within, counting, all_of, up_to, operated, one_if, eval}
use Rattle.snesl.specs.Records as raw
use Rattle.snesl.specs.Records.{Raw}
use Rattle.snesl.specs.Checking.{Name, Found, missing, found, find, NamedListing, any_first, listed_any, any_pointers, any_names, AnyScalar, no_scalar, a_scalar, as_scalar, NamedScalars, listed_first, listed_scalars, listed_names, pointers, typed, check}
use Rattle.rules.specs.Names.{Env, named, Maps, MapsAll, maps_none, maps-more, Listed, listed-none, listed_more, env_of}
use Rattle.rules.specs.Typing.{BuiltIn, Calls, calls-const, calls-truth, calls-iota, calls-operation, calls-negation, calls-sum}
use Rattle.rules.specs.Values.{Value, Values, int, bool, braces, empty, item, plains, plain_scalar, plain}
use Rattle.rules.specs.Evaluation.{Counts, counts-none, counts-more, Totals, totals-none, totals-more, Gives, gives-const, gives-truth, gives-iota, Operates, operates-plus, operates-less_equal, operates-equal, gives-operation, gives-negation}
use Rattle.rules.specs.Evaluation.{gives-sum, Scalar, number, truth-value, AnyValue, Evaluates, evaluates-var, evaluates-let, evaluates-call, evaluates-each, evaluates-guard-T, evaluates-guard-F, EvaluatesEach, evaluates-none, evaluates-more, values_of}
use Rattle.rules.proofs.Names.{maps-once, Looks, looking, looks-found, looks-scalar, looks-int, looks-bool, looks-ints, LooksAtSequence, as-sequence, along}
use Rattle.rules.proofs.Typing.{not-var, not-let, not-each, not-guard, listed-once, Resolved, resolved-var, resolved-let, resolved-const, resolved-truth, resolved-iota, resolved-operation, resolved-negation, resolved-sum, resolved-each, resolved-guard, resolved}

-- ---- the rules give one value at most

counts-once : {k n : ℕ} {vs ws : Values} → Counts k n vs → Counts k n ws → vs ≡ ws
counts-once counts-none counts-none = refl
counts-once (counts-more {k = k} r h) (counts-more r' h') = ap (item (int (pos k))) (counts-once h h')

totals-once : {vs : Values} {n m : ℤ} → Totals vs n → Totals vs m → n ≡ m
totals-once totals-none totals-none = refl
totals-once (totals-more {n = n} h p) (totals-more h' p') = p ∙ ap (λ z. n +ℤ z) (totals-once h h') ∙ sym p'

operates-once : {o : Operation} {x y : ℤ} {v w : Value} → Operates o x y v → Operates o x y w → v ≡ w
operates-once (operates-plus p r) (operates-plus p' r') = ap int (p ∙ sym p')
operates-once (operates-less_equal p) (operates-less_equal p') = ap bool (p ∙ sym p')
operates-once (operates-equal p) (operates-equal p') = ap bool (p ∙ sym p')

gives-once : {φ : BuiltIn} {vs : List Value} {v w : Value} → Gives φ vs v → Gives φ vs w → v ≡ w
gives-once gives-const gives-const = refl
gives-once (gives-iota h) (gives-iota h') = ap braces (counts-once h h')
gives-once gives-truth gives-truth = refl
gives-once (gives-operation h) (gives-operation h') = operates-once h h'
gives-once (gives-negation p) (gives-negation p') = ap bool (p ∙ sym p')
gives-once (gives-sum h r) (gives-sum h' r') = ap int (totals-once h h')

pub maps-all-once : {A : Type 0} {Γ : Env A} {xs : List Variable} {as₁ as₂ : List A} → MapsAll Γ xs as₁ → MapsAll Γ xs as₂ → as₁ ≡ as₂
maps-all-once maps_none maps_none = refl
maps-all-once (maps-more h m) (maps-more h' m') = let p = maps-once h h' in let q = maps-all-once m m' in λ i. p i ∷ q i

-- a call's premises
data OfCall (ρ : Env Value) (φ : BuiltIn) (xs : List Variable) (v : Value) : Type 0 where
  of-call : {vs : List Value} → MapsAll ρ xs vs → Gives φ vs v → OfCall ρ φ xs v

calls-once : {e : Raw} {φ ψ : BuiltIn} {xs ys : List Variable} {ρ : Env Value} {v : Value} → Calls e φ xs → Calls e ψ ys → OfCall ρ ψ ys v → OfCall ρ φ xs v
calls-once calls-const calls-const h = h
calls-once calls-iota calls-iota h = h
calls-once calls-truth calls-truth h = h
calls-once calls-operation calls-operation h = h
calls-once calls-negation calls-negation h = h
calls-once calls-sum calls-sum h = h

called : {ρ : Env Value} {e : Raw} {φ : BuiltIn} {xs : List Variable} {v : Value} → Calls e φ xs → Evaluates ρ e v → OfCall ρ φ xs v
called c (evaluates-var _) = elim c [ ]
called c (evaluates-let _ _) = elim c [ ]
called c (evaluates-each _ _ _) = elim c [ ]
called c (evaluates-guard-T _ _ _) = elim c [ ]
called c (evaluates-guard-F _) = elim c [ ]
called c (evaluates-call c' m g) = calls-once c c' (of-call m g)

call-once : {ρ : Env Value} {φ : BuiltIn} {xs : List Variable} {v w : Value} → OfCall ρ φ xs v → OfCall ρ φ xs w → v ≡ w
call-once {φ = φ} {w = w} (of-call m g) (of-call m' g') = gives-once g (subst (λ vs. Gives φ vs w) (sym (maps-all-once m m')) g')

module _ {ρ : Env Value} {p : ℕ} where
  of-var : {x : Variable} {v : Value} → Evaluates ρ (raw.var p x) v → Maps ρ x v
  of-var (evaluates-var h) = h
  of-var (evaluates-call c m g) = absurd (not-var c)

  of-let : {x : Variable} {e₁ e₂ : Raw} {v : Value} → Evaluates ρ (raw.bind p x e₁ e₂) v → (v₁ : Value) × Evaluates ρ e₁ v₁ × Evaluates (named x v₁ ρ) e₂ v
  of-let (evaluates-let {v₁ = v₁} h k) = (v₁, h, k)
  of-let (evaluates-call c m g) = absurd (not-let c)

data OfEach (ρ : Env Value) (x y : Variable) (us : List Variable) (e : Raw) : Value → Type 0 where
  of-each : {inside : Env Value} {vs ws : Values} → Maps ρ y (braces vs) → Listed Scalar ρ us inside → EvaluatesEach x inside e vs ws → OfEach ρ x y us e (braces ws)

each-parts : {ρ : Env Value} {p : ℕ} {x y : Variable} {us : List Variable} {e : Raw} {v : Value} → Evaluates ρ (raw.each p x y us e) v → OfEach ρ x y us e v
each-parts (evaluates-each h l b) = of-each h l b
each-parts (evaluates-call c m g) = absurd (not-each c)

data OfGuard (ρ : Env Value) (g : Variable) (us : List Variable) (e : Raw) : Value → Type 0 where
  of-guard-T : {inside : Env Value} {v : Value} → Maps ρ g (bool true) → Listed AnyValue ρ us inside → Evaluates inside e v → OfGuard ρ g us e (braces (item v empty))
  of-guard-F : Maps ρ g (bool false) → OfGuard ρ g us e (braces empty)

guard-parts : {ρ : Env Value} {p : ℕ} {g : Variable} {us : List Variable} {e : Raw} {v : Value} → Evaluates ρ (raw.guard p g us e) v → OfGuard ρ g us e v
guard-parts (evaluates-guard-T h l b) = of-guard-T h l b
guard-parts (evaluates-guard-F h) = of-guard-F h
guard-parts (evaluates-call c m g) = absurd (not-guard c)

bool_same : {c d : Bool} → bool c ≡ bool d → c ≡ d
bool_same q = cc

true-not-false : {X : Type 0} → ◌≡◌ {A = Bool} true false → X
true-not-false q = never (cc)

guard-once : {ρ : Env Value} {g : Variable} {us : List Variable} {e : Raw} {v w : Value}
    → ((ρ : Env Value) (v w : Value) → Evaluates ρ e v → Evaluates ρ e w → v ≡ w)
    → OfGuard ρ g us e v
    → OfGuard ρ g us e w
    → v ≡ w
guard-once {e = e} once (of-guard-T {inside = inside} {v = v} h l b) (of-guard-T {v = w} h' l' b') =
    ap (λ v. braces (item v empty)) (once inside v w b (subst (λ ρ. Evaluates ρ e w) (listed-once l' l) b'))
guard-once once (of-guard-T h l b) (of-guard-F h') = true-not-false (bool_same (maps-once h h'))
guard-once once (of-guard-F h) (of-guard-T h' l b) = true-not-false (bool_same (maps-once h' h))
guard-once once (of-guard-F h) (of-guard-F h') = refl

module _ {x : Variable} {ρ : Env Value} {e : Raw} (once : (ρ : Env Value) (v w : Value) → Evaluates ρ e v → Evaluates ρ e w → v ≡ w) where
  each-once : {vs ws us : Values} → EvaluatesEach x ρ e vs ws → EvaluatesEach x ρ e vs us → ws ≡ us
  each-once evaluates-none evaluates-none = refl
  each-once (evaluates-more h k) (evaluates-more h' k') = let p = once _ _ _ h h' in let q = each-once k k' in λ i. item (p i) (q i)

braces-same : {vs ws : Values} → braces vs ≡ braces ws → vs ≡ ws
braces-same q = cc

parts-once : {ρ : Env Value} {x y : Variable} {us : List Variable} {e : Raw} {v w : Value}
    → ((ρ : Env Value) (v w : Value) → Evaluates ρ e v → Evaluates ρ e w → v ≡ w)
    → OfEach ρ x y us e v
    → OfEach ρ x y us e w
    → v ≡ w
parts-once {x = x} {e = e} once (of-each {vs = vs} h l b) (of-each {inside = inside} {ws = ws} h' l' b') =
    let p = braces-same (maps-once h' h) in
    let q = listed-once l' l in
    ap braces (each-once once b (subst (λ ρ. EvaluatesEach x ρ e vs ws) q (subst (λ vs. EvaluatesEach x inside e vs ws) p b')))

pub evaluates-once : (e : Raw) (ρ : Env Value) (v w : Value) → Evaluates ρ e v → Evaluates ρ e w → v ≡ w
evaluates-once (raw.var p x) ρ v w h k = maps-once (of-var h) (of-var k)
evaluates-once (raw.bind p x e₁ e₂) ρ v w h k =
    let (v₁, h₁, h₂) = of-let h in
    let (w₁, k₁, k₂) = of-let k in
    evaluates-once e₂ (named x v₁ ρ) v w h₂ (subst (λ a. Evaluates (named x a ρ) e₂ w) (sym (evaluates-once e₁ ρ v₁ w₁ h₁ k₁)) k₂)
evaluates-once (raw.const p z) ρ v w h k = call-once (called calls-const h) (called calls-const k)
evaluates-once (raw.iota p x) ρ v w h k = call-once (called calls-iota h) (called calls-iota k)
evaluates-once (raw.truth p c) ρ v w h k = call-once (called calls-truth h) (called calls-truth k)
evaluates-once (raw.operation p o x y) ρ v w h k = call-once (called calls-operation h) (called calls-operation k)
evaluates-once (raw.negation p x) ρ v w h k = call-once (called calls-negation h) (called calls-negation k)
evaluates-once (raw.sum p x) ρ v w h k = call-once (called calls-sum h) (called calls-sum k)
evaluates-once (raw.each p x y us e) ρ v w h k = parts-once (evaluates-once e) (each-parts h) (each-parts k)
evaluates-once (raw.guard p g us e) ρ v w h k = guard-once (evaluates-once e) (guard-parts h) (guard-parts k)

scalar-plain : (b : Base) (e : Element b) → Scalar (plain_scalar b e)
scalar-plain base.Int n = number
scalar-plain base.Bool c = truth-value

-- the listed variables with their values
module _ {Γ : List ValueType} (scope : All Name Γ) (ρ : All Val Γ) where
  listed-values : (us : List Variable) {ls : NamedScalars Γ}
      → listed_scalars scope us ≡ some ls
      → Listed Scalar (values_of scope ρ) us (values_of (listed_names ls) (listed (any_type (pointers ls)) ρ))
  unfolding listed_scalars listed_names listed env_of plain
  listed-values [] {ls} e =
      let q : [] ≡ ls = cc in
      subst (λ l. Listed Scalar (values_of scope ρ) [] (values_of (listed_names l) (listed (any_type (pointers l)) ρ))) q listed-none
  listed-values (u ∷ us) {ls} e = go (as_scalar (find u scope)) refl (listed_scalars scope us) refl e (λ l q. listed-values us q)
    where
      go : (o : AnyScalar Γ) → as_scalar (find u scope) ≡ o → (r : Option (NamedScalars Γ)) → listed_scalars scope us ≡ r
          → listed_first u o r ≡ some ls
          → ((l : NamedScalars Γ) → listed_scalars scope us ≡ some l → Listed Scalar (values_of scope ρ) us (values_of (listed_names l) (listed (any_type (pointers l)) ρ)))
          → Listed Scalar (values_of scope ρ) (u ∷ us) (values_of (listed_names ls) (listed (any_type (pointers ls)) ρ))
      go no_scalar qo r qr q below = never (cc)
      go (a_scalar b v) qo none qr q below = never (cc)
      go (a_scalar b v) qo (some l) qr q below =
          let s : (u, (b, v)) ∷ l ≡ ls = cc in
          subst (λ l. Listed Scalar (values_of scope ρ) (u ∷ us) (values_of (listed_names l) (listed (any_type (pointers l)) ρ))) s
          (listed_more (looks-scalar (looking plain scope ρ u) qo) (scalar-plain b (lookup v ρ)) (below l qr))

module _ {Γ : List ValueType} (scope : All Name Γ) (ρ : All Val Γ) where
  any-values : (us : List Variable) {ls : NamedListing Γ}
      → listed_any scope us ≡ some ls
      → Listed AnyValue (values_of scope ρ) us (values_of (any_names ls) (listed (any_pointers ls) ρ))
  unfolding listed_any any_names listed env_of
  any-values [] {ls} e =
      let q : [] ≡ ls = cc in
      subst (λ l. Listed AnyValue (values_of scope ρ) [] (values_of (any_names l) (listed (any_pointers l) ρ))) q listed-none
  any-values (u ∷ us) {ls} e = go (find u scope) (looking plain scope ρ u) (listed_any scope us) refl e (λ l q. any-values us q)
    where
      go : (o : Found Γ) → Looks plain scope ρ u o → (r : Option (NamedListing Γ)) → listed_any scope us ≡ r
          → any_first u o r ≡ some ls
          → ((l : NamedListing Γ) → listed_any scope us ≡ some l → Listed AnyValue (values_of scope ρ) us (values_of (any_names l) (listed (any_pointers l) ρ)))
          → Listed AnyValue (values_of scope ρ) (u ∷ us) (values_of (any_names ls) (listed (any_pointers ls) ρ))
      go missing h r qr q below = never (cc)
      go (found τ v) h none qr q below = never (cc)
      go (found τ v) h (some l) qr q below =
          let s : (u, (τ, v)) ∷ l ≡ ls = cc in
          subst (λ l. Listed AnyValue (values_of scope ρ) (u ∷ us) (values_of (any_names l) (listed (any_pointers l) ρ))) s (listed_more (looks-found h) tt (below l qr))

-- ---- what `eval` answers, beside what the rules have

pub data Comes (ρ : Env Value) (e : Raw) (τ : ValueType) : Option (Val τ) → Type 0 where
  valued : {w : Val τ} → Evaluates ρ e (plain τ w) → Comes ρ e τ (some w)
  valueless : ((v : Value) → Evaluates ρ e v → ⊥) → Comes ρ e τ none

-- a number that must be in range
ranging : {ρ : Env Value} {e : Raw} (z : ℤ)
    → (in_range z ≡ true → Evaluates ρ e (int z))
    → ((v : Value) → Evaluates ρ e v → in_range z ≡ true)
    → Comes ρ e types.int (within z)
unfolding plain
ranging {ρ} {e} z f g = go (in_range z) refl
  where
    go : (b : Bool) → in_range z ≡ b → Comes ρ e types.int (elim b [ true ↦ some z | false ↦ none ])
    go true q = valued (f q)
    go false q = valueless (λ v h. let r = g v h in never (cc))

-- 0, 1, .., n - 1
data Counted (k n : ℕ) : Option (List ℤ) → Type 0 where
  counted : {zs : List ℤ} → Counts k n (plains (plain types.int) zs) → Counted k n (some zs)
  uncounted : ((vs : Values) → Counts k n vs → ⊥) → Counted k n none

counting-up : (k n : ℕ) → Counted k n (all_of within (counting k n))
unfolding all_of counting plains plain
counting-up k zero = counted counts-none
counting-up k (suc n) = go (in_range (pos k)) refl (all_of within (counting (suc k) n)) (counting-up (suc k) n)
  where
    too_far : (vs : Values) → in_range (pos k) ≡ false → Counts k (suc n) vs → ⊥
    too_far _ q (counts-more r h) = never (cc)

    too-far-on : (vs : Values) → ((ws : Values) → Counts (suc k) n ws → ⊥) → Counts k (suc n) vs → ⊥
    too-far-on _ none-there (counts-more {vs = ws} r h) = none-there ws h

    go : (b : Bool) → in_range (pos k) ≡ b → (o : Option (List ℤ)) → Counted (suc k) n o
        → Counted k (suc n) (and_then (elim b [ true ↦ some (pos k) | false ↦ none ]) (λ z. and_then o (λ zs. some (z ∷ zs))))
    go false q o h = uncounted (λ vs c. too_far vs q c)
    go true q (some zs) (counted h) = counted (counts-more q h)
    go true q none (uncounted h) = uncounted (λ vs c. too-far-on vs h c)

totals-plain : (zs : List ℤ) → Totals (plains (plain types.int) zs) (total zs)
unfolding total plains plain
totals-plain [] = totals-none
totals-plain (z ∷ zs) = totals-more (totals-plain zs) refl

int_same : {n m : ℤ} → int n ≡ int m → n ≡ m
int_same q = cc

module _ {ρ : Env Value} where
  of-iota : {x : Variable} {w : Value} → OfCall ρ BuiltIn.iota (x ∷ []) w → (n : ℕ) × (vs : Values) × Maps ρ x (int (pos n)) × Counts 0 n vs
  of-iota (of-call (maps-more m maps_none) (gives-iota {n = n} {vs = vs} c)) = (n, vs, m, c)

  of-operation : {o : Operation} {x y : Variable} {w : Value} → OfCall ρ (BuiltIn.operation o) (x ∷ y ∷ []) w → (a : ℤ) × (b : ℤ) × Maps ρ x (int a) × Maps ρ y (int b) × Operates o a b w
  of-operation (of-call (maps-more m (maps-more k maps_none)) (gives-operation {n₁ = a} {n₂ = b} h)) = (a, b, m, k, h)

  of-sum : {x : Variable} {w : Value} → OfCall ρ BuiltIn.sum (x ∷ []) w → (vs : Values) × (n : ℤ) × Maps ρ x (braces vs) × Totals vs n × (in_range n ≡ true)
  of-sum (of-call (maps-more m maps_none) (gives-sum {vs = vs} {n = n} t r)) = (vs, n, m, t, r)

module _ (ρ : Env Value) {p : ℕ} where
  comes-iota : (x : Variable) (z : ℤ) → Maps ρ x (int z) → Comes ρ (raw.iota p x) (types.braces types.int) (up_to z)
  unfolding plain
  comes-iota x (pos n) m = upward _ (counting-up 0 n)
    where
      nowhere : ((vs : Values) → Counts 0 n vs → ⊥) → (w : Value) → Evaluates ρ (raw.iota p x) w → ⊥
      nowhere none-there w h =
          let (k, vs, m', c) = of-iota (called calls-iota h) in
          let q : pos k ≡ pos n = int_same (maps-once m' m) in
          let r : k ≡ n = cc in
          none-there vs (subst (λ n. Counts 0 n vs) r c)

      upward : (o : Option (List ℤ)) → Counted 0 n o → Comes ρ (raw.iota p x) (types.braces types.int) o
      upward (some zs) (counted h) = valued (evaluates-call calls-iota (maps-more m maps_none) (gives-iota h))
      upward none (uncounted h) = valueless (nowhere h)
  comes-iota x (negsuc n) m = valueless nowhere
    where
      nowhere : (w : Value) → Evaluates ρ (raw.iota p x) w → ⊥
      nowhere w h =
          let (k, vs, m', c) = of-iota (called calls-iota h) in
          let q : pos k ≡ negsuc n = int_same (maps-once m' m) in
          never (cc)

  comes-operation : (o : Operation) (x y : Variable) (a b : ℤ) → Maps ρ x (int a) → Maps ρ y (int b) → Comes ρ (raw.operation p o x y) (types.scalar (result_of o)) (operated o a b)
  unfolding plain
  comes-operation Plus x y a b m k = ranging (a +ℤ b) (λ r. evaluates-call calls-operation (maps-more m (maps-more k maps_none)) (gives-operation (operates-plus refl r))) only
    where
      in-range : {n₁ n₂ : ℤ} {v : Value} → Operates Plus n₁ n₂ v → in_range (n₁ +ℤ n₂) ≡ true
      in-range (operates-plus q r) = ap in_range (sym q) ∙ r

      only : (v : Value) → Evaluates ρ (raw.operation p Plus x y) v → in_range (a +ℤ b) ≡ true
      only v h =
          let (a', b', m', k', r) = of-operation (called calls-operation h) in
          let q = int_same (maps-once m m') in
          let q' = int_same (maps-once k k') in
          (λ i. in_range (q i +ℤ q' i)) ∙ in-range r
  comes-operation LessEqual x y a b m k = valued (evaluates-call calls-operation (maps-more m (maps-more k maps_none)) (gives-operation (operates-less_equal refl)))
  comes-operation Equal x y a b m k = valued (evaluates-call calls-operation (maps-more m (maps-more k maps_none)) (gives-operation (operates-equal refl)))

  comes-sum : (x : Variable) (zs : List ℤ) → Maps ρ x (braces (plains (plain types.int) zs)) → Comes ρ (raw.sum p x) types.int (within (total zs))
  comes-sum x zs m = ranging (total zs) (λ r. evaluates-call calls-sum (maps-more m maps_none) (gives-sum (totals-plain zs) r)) only
    where
      only : (v : Value) → Evaluates ρ (raw.sum p x) v → in_range (total zs) ≡ true
      only v h =
          let (vs, n, m', t, r) = of-sum (called calls-sum h) in
          let q = braces-same (maps-once m' m) in
          ap in_range (totals-once (totals-plain zs) (subst (λ ws. Totals ws n) q t)) ∙ r

  comes-let : {c τ : ValueType} (x : Variable) (e₁ e₂ : Raw) (o : Option (Val c)) (f : Val c → Option (Val τ))
      → Comes ρ e₁ c o
      → ((v : Val c) → Comes (named x (plain c v) ρ) e₂ τ (f v))
      → Comes ρ (raw.bind p x e₁ e₂) τ (and_then o f)
  comes-let x e₁ e₂ none f (valueless n) h₂ = valueless (λ v h. let (v₁, h₁, k) = of-let h in n v₁ h₁)
  comes-let {c} {τ} x e₁ e₂ (some v) f (valued h₁) h₂ = go (f v) (h₂ v)
    where
      go : (o : Option (Val τ)) → Comes (named x (plain c v) ρ) e₂ τ o → Comes ρ (raw.bind p x e₁ e₂) τ o
      go (some w) (valued k) = valued (evaluates-let h₁ k)
      go none (valueless n) =
          valueless (λ w h. let (v₁, k₁, k₂) = of-let h in
          n w (subst (λ a. Evaluates (named x a ρ) e₂ w) (evaluates-once e₁ ρ v₁ (plain c v) k₁ h₁) k₂))

-- a body over all items
data ComesEach (x : Variable) (ρ : Env Value) (e : Raw) (τ : ValueType) (vs : Values) : Option (List (Val τ)) → Type 0 where
  all-valued : {ws : List (Val τ)} → EvaluatesEach x ρ e vs (plains (plain τ) ws) → ComesEach x ρ e τ vs (some ws)
  one-valueless : ((ws : Values) → EvaluatesEach x ρ e vs ws → ⊥) → ComesEach x ρ e τ vs none

module _ (x : Variable) (ρ : Env Value) (e : Raw) (c τ : ValueType) (f : Val c → Option (Val τ)) (body : (v : Val c) → Comes (named x (plain c v) ρ) e τ (f v)) where
  comes-items : (vs : List (Val c)) → ComesEach x ρ e τ (plains (plain c) vs) (all_of f vs)
  unfolding all_of plains
  comes-items [] = all-valued evaluates-none
  comes-items (v ∷ vs) = go (f v) (body v) (all_of f vs) (comes-items vs)
    where
      first-none : {ws : Values} → ((w : Value) → Evaluates (named x (plain c v) ρ) e w → ⊥) → EvaluatesEach x ρ e (item (plain c v) (plains (plain c) vs)) ws → ⊥
      first-none n (evaluates-more {w = w} h k) = n w h

      rest-none : {ws : Values} → ((ws : Values) → EvaluatesEach x ρ e (plains (plain c) vs) ws → ⊥) → EvaluatesEach x ρ e (item (plain c v) (plains (plain c) vs)) ws → ⊥
      rest-none n (evaluates-more {ws = ws} h k) = n ws k

      go : (o : Option (Val τ)) → Comes (named x (plain c v) ρ) e τ o → (os : Option (List (Val τ))) → ComesEach x ρ e τ (plains (plain c) vs) os
          → ComesEach x ρ e τ (item (plain c v) (plains (plain c) vs)) (and_then o (λ w. and_then os (λ ws. some (w ∷ ws))))
      go none (valueless n) os k = one-valueless (λ ws h. first-none n h)
      go (some w) (valued h) (some ws) (all-valued k) = all-valued (evaluates-more h k)
      go (some w) (valued h) none (one-valueless n) = one-valueless (λ ws h. rest-none n h)

module _ {ρ inside : Env Value} {p : ℕ} {x y : Variable} {us : List Variable} {e : Raw} {τ : ValueType} {vs : Values} (m : Maps ρ y (braces vs)) (l : Listed Scalar ρ us inside) where
  comes-each : {o : Option (List (Val τ))} → ComesEach x inside e τ vs o → Comes ρ (raw.each p x y us e) (types.braces τ) o
  unfolding plain
  comes-each (all-valued h) = valued (evaluates-each m l h)
  comes-each (one-valueless n) = valueless (λ v h. nowhere (each-parts h))
    where
      nowhere : {v : Value} → OfEach ρ x y us e v → ⊥
      nowhere (of-each {inside = other} {ws = ws} m' l' b) =
          n ws (subst (λ ρ. EvaluatesEach x ρ e vs ws) (listed-once l' l) (subst (λ vs. EvaluatesEach x other e vs ws) (braces-same (maps-once m' m)) b))

-- a guard's body over one environment or none
module _ {ρ inside : Env Value} {p : ℕ} {g : Variable} {us : List Variable} {e : Raw} {τ : ValueType} {A : Type 0} (a : A) (f : A → Option (Val τ)) (l : Listed AnyValue ρ us inside) where
  comes-guard : (c : Bool) → Maps ρ g (bool c) → Comes inside e τ (f a) → Comes ρ (raw.guard p g us e) (types.braces τ) (all_of f (one_if c a))
  unfolding plain plains all_of
  comes-guard false m h = valued (evaluates-guard-F m)
  comes-guard true m h = go (f a) h
    where
      nowhere : ((v : Value) → Evaluates inside e v → ⊥) → {v : Value} → OfGuard ρ g us e v → ⊥
      nowhere n (of-guard-T {v = v} m' l' b) = n v (subst (λ ρ. Evaluates ρ e v) (listed-once l' l) b)
      nowhere n (of-guard-F m') = true-not-false (bool_same (maps-once m m'))

      go : (o : Option (Val τ)) → Comes inside e τ o → Comes ρ (raw.guard p g us e) (types.braces τ) (and_then o (λ b. and_then (some []) (λ bs. some (b ∷ bs))))
      go (some w) (valued h) = valued (evaluates-guard-T m l h)
      go none (valueless n) = valueless (λ v h. nowhere n (guard-parts h))

pub coming : {Γ : List ValueType} {scope : All Name Γ} {e : Raw} {τ : ValueType} {t : Term Γ τ} → Resolved Γ scope e τ t → (ρ : All Val Γ) → Comes (values_of scope ρ) e τ (eval t ρ)
unfolding eval env_of plain
coming {scope = scope} (resolved-var {x = x} q) ρ = valued (evaluates-var (looks-found (subst (Looks plain scope ρ x) q (looking plain scope ρ x))))
coming {scope = scope} (resolved-let {x = x} {e₁ = e₁} {e₂ = e₂} {t₁ = t₁} {t₂ = t₂} h k) ρ = comes-let _ x e₁ e₂ (eval t₁ ρ) (λ v. eval t₂ (v ▹ ρ)) (coming h ρ) (λ v. coming k (v ▹ ρ))
coming resolved-const ρ = valued (evaluates-call calls-const maps_none gives-const)
coming {scope = scope} (resolved-iota {x = x} {v = v} q) ρ = comes-iota _ x (lookup v ρ) (looks-int (looking plain scope ρ x) q)
coming resolved-truth ρ = valued (evaluates-call calls-truth maps_none gives-truth)
coming {scope = scope} (resolved-operation {o = o} {x = x} {y = y} {v = v} {w = w} q r) ρ =
    comes-operation _ o x y (lookup v ρ) (lookup w ρ) (looks-int (looking plain scope ρ x) q) (looks-int (looking plain scope ρ y) r)
coming {scope = scope} (resolved-negation {x = x} {v = v} q) ρ = valued (evaluates-call calls-negation (maps-more (looks-bool (looking plain scope ρ x) q) maps_none) (gives-negation refl))
coming {scope = scope} (resolved-guard {g = g} {us = us} {v = v} {ls = ls} {t = t} qv ql h) ρ =
    comes-guard (listed (any_pointers ls) ρ) (λ ρ'. eval t ρ') (any-values scope ρ us ql) (lookup v ρ) (looks-bool (looking plain scope ρ g) qv) (coming h (listed (any_pointers ls) ρ))
coming {scope = scope} (resolved-sum {x = x} {v = v} q) ρ = comes-sum _ x (lookup v ρ) (looks-ints (looking plain scope ρ x) q)
coming {scope = scope} (resolved-each {c = c} {τ = τ} {x = x} {y = y} {us = us} {e = e} {v = v} {ls = ls} {t = t} qv ql h) ρ =
    comes-each (along (subst (LooksAtSequence plain scope ρ y) qv (as-sequence (looking plain scope ρ y)))) (listed-values scope ρ us ql)
    (comes-items x _ e c τ (λ u. eval t (u ▹ listed (any_type (pointers ls)) ρ)) (λ u. coming h (u ▹ listed (any_type (pointers ls)) ρ)) (lookup v ρ))

-- ---- the theorems

module _ {ρ : Env Value} {e : Raw} {τ : ValueType} where
  comes-value : {w : Val τ} → Comes ρ e τ (some w) → Evaluates ρ e (plain τ w)
  comes-value (valued h) = h

  comes-none : Comes ρ e τ none → (v : Value) → Evaluates ρ e v → ⊥
  comes-none (valueless n) = n

  has_value : {o : Option (Val τ)} {v : Value} → Comes ρ e τ o → Evaluates ρ e v → (w : Val τ) × (o ≡ some w) × (v ≡ plain τ w)
  has_value {v = v} (valued {w = w} h) k = (w, refl, evaluates-once e ρ v (plain τ w) k h)
  has_value {v = v} (valueless n) k = absurd (n v k)

  has-none : {o : Option (Val τ)} → Comes ρ e τ o → ((v : Value) → Evaluates ρ e v → ⊥) → o ≡ none
  has-none (valued {w = w} h) n = absurd (n (plain τ w) h)
  has-none (valueless m) n = refl

module _ {Γ : List ValueType} (scope : All Name Γ) (e : Raw) {τ : ValueType} {t : Term Γ τ} (checked : check scope e ≡ typed τ t) (ρ : All Val Γ) where
  both : Comes (values_of scope ρ) e τ (eval t ρ)
  both = coming (resolved scope e checked) ρ

  pub value-exactly : (v : Value) → Evaluates (values_of scope ρ) e v ↔ ((w : Val τ) × (eval t ρ ≡ some w) × (v ≡ plain τ w))
  value-exactly v =
      (has_value both, λ (w, q, r). subst (Evaluates (values_of scope ρ) e) (sym r) (comes-value (subst (Comes (values_of scope ρ) e τ) q both)))

  pub no-value-exactly : ((v : Value) → Evaluates (values_of scope ρ) e v → ⊥) ↔ (eval t ρ ≡ none)
  no-value-exactly = (has-none both, λ q. comes-none (subst (Comes (values_of scope ρ) e τ) q both))
