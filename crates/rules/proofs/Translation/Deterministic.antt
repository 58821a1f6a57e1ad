-- The translation rules derive one code and one tree at most.
use Prim.Native.Nat.{ℕ, suc, ◌+◌}
use mathlib.Core.List.{List, [], ◌∷◌}
use mathlib.Core.Path.{◌≡◌, refl, sym, ap, ◌∙◌, subst, transport}
use lib.IntN.{pos}
use Rattle.snesl.specs.declared.code.Variable.{Variable}
use Rattle.snesl.specs.Programs.{among, ascending}
use Rattle.snesl.specs.Records as raw
use Rattle.snesl.specs.Records.{Raw}
use Rattle.rules.specs.Names.{Env, named, Maps, MapsAll}
use Rattle.rules.specs.Typing.{BuiltIn, Calls, calls-const, calls-truth, calls-iota, calls-operation, calls-negation, calls-sum}
use Rattle.rules.specs.Xducers as xducers
use Rattle.rules.specs.Instructions.{Svcode, nop, assign, with_ctrl, seq}
use Rattle.rules.specs.Trees.{STree, one, pair, ids}
use Rattle.rules.specs.Agreement.{Same}
use Rattle.rules.specs.Translation.{dv, fv, Becomes, becomes-const, becomes-truth, becomes-operation, becomes-negation, becomes-iota, becomes-sum, Packs, packs-one, packs-pair}
use Rattle.rules.specs.Translation.{PacksAll, packs-none, packs-more, Copies, copies-none, copies-more, Translates, translates-var, translates-let, translates-call, translates-each, translates-guard}
use Rattle.rules.proofs.Names.{maps-once}
use Rattle.rules.proofs.Typing.{not-var, not-let, not-each, not-guard}
use Rattle.rules.proofs.Evaluation.{maps-all-once}

becomes-once : {φ : BuiltIn} {sts : List STree} {s₀ s s' : ℕ} {p p' : Svcode} {st st' : STree} → Becomes φ sts s₀ s p st → Becomes φ sts s₀ s' p' st' → Same s s' p p' st st'
becomes-once (becomes-const q) (becomes-const q') = record { ends = q ∙ sym q'; code = refl; tree = refl }
becomes-once (becomes-truth q) (becomes-truth q') = record { ends = q ∙ sym q'; code = refl; tree = refl }
becomes-once (becomes-negation q) (becomes-negation q') = record { ends = q ∙ sym q'; code = refl; tree = refl }
becomes-once (becomes-operation q) (becomes-operation q') = record { ends = q ∙ sym q'; code = refl; tree = refl }
becomes-once (becomes-iota {s = r} {s₀ = s₀} a b c q) (becomes-iota a' b' c' q') =
    let x = a ∙ sym a' in
    let y = b ∙ sym b' in
    let z = c ∙ sym c' in
    record {
      ends = q ∙ sym q';
      code =
          λ i.
          seq (assign s₀ xducers.to_flags (r ∷ []))
          (seq (assign (x i) xducers.usum (s₀ ∷ []))
          (seq (with_ctrl (y i ∷ []) (x i) [] (assign (y i) (xducers.const (pos 1)) [])) (assign (z i) (xducers.scan_plus (pos 0)) (s₀ ∷ y i ∷ []))));
      tree = λ i. pair (one (z i)) s₀;
    }
becomes-once (becomes-sum q) (becomes-sum q') = record { ends = q ∙ sym q'; code = refl; tree = refl }

one_same : {r s : ℕ} → one r ≡ one s → r ≡ s
one_same q = cc

copies-once : {δ : Env STree} {sb : ℕ} {us : List Variable} {s₀ s s' : ℕ} {p p' : Svcode} {inside inside' : Env STree}
    → Copies δ sb us s₀ s p inside
    → Copies δ sb us s₀ s' p' inside'
    → (s ≡ s') × (p ≡ p') × (inside ≡ inside')
copies-once (copies-none q) (copies-none q') = (q ∙ sym q', refl, refl)
copies-once {sb = sb} (copies-more {u = u} {s₀ = s₀} m c) (copies-more m' c') =
    let (x, y, z) = copies-once c c' in
    let r = one_same (maps-once m m') in
    (x, (λ i. seq (assign s₀ xducers.distr (sb ∷ r i ∷ [])) (y i)), ap (named u (one s₀)) z)

packs-once : {b : ℕ} {u : STree} {s₀ s s' : ℕ} {p p' : Svcode} {st st' : STree} → Packs b u s₀ s p st → Packs b u s₀ s' p' st' → Same s s' p p' st st'
packs-once (packs-one q) (packs-one q') = record { ends = q ∙ sym q'; code = refl; tree = refl }
packs-once {b = b} {s₀ = s₀} {s' = s'} (packs-pair {f = f} {st = u} a c d h i o) (packs-pair {st' = t'} {p = p'} a' c' d' h' i' o') =
    let x = a ∙ sym a' in
    let y = c ∙ sym c' in
    let v = d ∙ sym d' in
    let z = packs-once h (transport (λ j. Packs (sym x j) u (sym v j) s' p' t') h') in
    let outs = o ∙ (λ j. ascending (among (ids (z.tree j)) (dv (z.code j)))) ∙ sym o' in
    let ins = i ∙ (λ j. ascending (fv (z.code j))) ∙ sym i' in
    record {
      ends = z.ends;
      code =
          λ j.
          seq (assign s₀ xducers.upack (b ∷ f ∷ []))
          (seq (assign (x j) xducers.distr (f ∷ b ∷ [])) (seq (assign (y j) xducers.usum (f ∷ [])) (with_ctrl (outs j) (y j) (ins j) (z.code j))));
      tree = λ j. pair (z.tree j) s₀;
    }

packs-all-once : {δ : Env STree} {b : ℕ} {us : List Variable} {s₀ s s' : ℕ} {p p' : Svcode} {inside inside' : Env STree}
    → PacksAll δ b us s₀ s p inside
    → PacksAll δ b us s₀ s' p' inside'
    → (s ≡ s') × (p ≡ p') × (inside ≡ inside')
packs-all-once (packs-none q) (packs-none q') = (q ∙ sym q', refl, refl)
packs-all-once {δ} {b} {s₀ = s₀} {s' = s'} {inside' = inside'} (packs-more {u = u} {us = us} m h k) (packs-more {s = a} {p = p'} {q = q'} {st' = t'} {inside = rest} m' h' k') =
    let one = packs-once h (subst (λ t. Packs b t s₀ a p' t') (sym (maps-once m m')) h') in
    let (x, y, z) = packs-all-once k (subst (λ a. PacksAll δ b us a s' q' rest) (sym one.ends) k') in
    (x, (λ i. seq (one.code i) (y i)), (λ i. named u (one.tree i) (z i)))

-- a rule's premises from its conclusion
data OfCall (δ : Env STree) (φ : BuiltIn) (xs : List Variable) (s₀ s₁ : ℕ) (p : Svcode) (st : STree) : Type 0 where
  of-call : {sts : List STree} → MapsAll δ xs sts → Becomes φ sts s₀ s₁ p st → OfCall δ φ xs s₀ s₁ p st

calls-once : {e : Raw} {φ ψ : BuiltIn} {xs ys : List Variable} {δ : Env STree} {s₀ s₁ : ℕ} {p : Svcode} {st : STree}
    → Calls e φ xs
    → Calls e ψ ys
    → OfCall δ ψ ys s₀ s₁ p st
    → OfCall δ φ xs s₀ s₁ p st
calls-once calls-const calls-const h = h
calls-once calls-iota calls-iota h = h
calls-once calls-truth calls-truth h = h
calls-once calls-operation calls-operation h = h
calls-once calls-negation calls-negation h = h
calls-once calls-sum calls-sum h = h

called : {e : Raw} {φ : BuiltIn} {xs : List Variable} {δ : Env STree} {s₀ s₁ : ℕ} {p : Svcode} {st : STree} → Calls e φ xs → Translates δ e s₀ s₁ p st → OfCall δ φ xs s₀ s₁ p st
called c (translates-var _ _) = elim c [ ]
called c (translates-let _ _) = elim c [ ]
called c (translates-each _ _ _ _ _) = elim c [ ]
called c (translates-guard _ _ _ _ _ _ _) = elim c [ ]
called c (translates-call c' m b) = calls-once c c' (of-call m b)

call-once : {φ : BuiltIn} {xs : List Variable} {δ : Env STree} {s₀ s s' : ℕ} {p p' : Svcode} {st st' : STree}
    → OfCall δ φ xs s₀ s p st
    → OfCall δ φ xs s₀ s' p' st'
    → Same s s' p p' st st'
call-once {φ = φ} {s₀ = s₀} {s' = s'} {p' = p'} {st' = st'} (of-call m b) (of-call m' b') =
    becomes-once b (subst (λ sts. Becomes φ sts s₀ s' p' st') (sym (maps-all-once m m')) b')

data OfVar (δ : Env STree) (x : Variable) (s₀ s₁ : ℕ) : Svcode → STree → Type 0 where
  of-var : {st : STree} → Maps δ x st → s₁ ≡ s₀ → OfVar δ x s₀ s₁ nop st

var-parts : {δ : Env STree} {k s₀ s₁ : ℕ} {x : Variable} {p : Svcode} {st : STree} → Translates δ (raw.var k x) s₀ s₁ p st → OfVar δ x s₀ s₁ p st
var-parts (translates-var m q) = of-var m q
var-parts (translates-call c m b) = absurd (not-var c)

var-once : {δ : Env STree} {x : Variable} {s₀ s s' : ℕ} {p p' : Svcode} {st st' : STree} → OfVar δ x s₀ s p st → OfVar δ x s₀ s' p' st' → Same s s' p p' st st'
var-once (of-var m q) (of-var m' q') = record { ends = q ∙ sym q'; code = refl; tree = maps-once m m' }

data OfLet (δ : Env STree) (x : Variable) (e₁ e₂ : Raw) (s₀ s₁ : ℕ) : Svcode → STree → Type 0 where
  of-let : {s : ℕ} {p₁ p₂ : Svcode} {st₁ st : STree} → Translates δ e₁ s₀ s p₁ st₁ → Translates (named x st₁ δ) e₂ s s₁ p₂ st → OfLet δ x e₁ e₂ s₀ s₁ (seq p₁ p₂) st

let-parts : {δ : Env STree} {k s₀ s₁ : ℕ} {x : Variable} {e₁ e₂ : Raw} {p : Svcode} {st : STree} → Translates δ (raw.bind k x e₁ e₂) s₀ s₁ p st → OfLet δ x e₁ e₂ s₀ s₁ p st
let-parts (translates-let h k) = of-let h k
let-parts (translates-call c m b) = absurd (not-let c)

data OfEach (δ : Env STree) (x y : Variable) (us : List Variable) (e : Raw) (s₀ s₁ : ℕ) : Svcode → STree → Type 0 where
  of-each : {inside : Env STree} {s sb : ℕ} {copies p : Svcode} {st₁ st : STree} {outs ins : List ℕ}
      → Maps δ y (pair st₁ sb)
      → Copies δ sb us (suc s₀) s copies inside
      → Translates (named x st₁ inside) e s s₁ p st
      → ins ≡ ascending (fv p)
      → outs ≡ ascending (among (ids st) (dv p))
      → OfEach δ x y us e s₀ s₁ (seq (assign s₀ xducers.usum (sb ∷ [])) (seq copies (with_ctrl outs s₀ ins p))) (pair st sb)

each-parts : {δ : Env STree} {k s₀ s₁ : ℕ} {x y : Variable} {us : List Variable} {e : Raw} {p : Svcode} {st : STree}
    → Translates δ (raw.each k x y us e) s₀ s₁ p st
    → OfEach δ x y us e s₀ s₁ p st
each-parts (translates-each m c t i o) = of-each m c t i o
each-parts (translates-call c m b) = absurd (not-each c)

abbrev Once : Raw → Type 0
Once e = (δ : Env STree) (s₀ s s' : ℕ) (p p' : Svcode) (st st' : STree) → Translates δ e s₀ s p st → Translates δ e s₀ s' p' st' → Same s s' p p' st st'

let-once : {δ : Env STree} {x : Variable} {e₁ e₂ : Raw} {s₀ s s' : ℕ} {p p' : Svcode} {st st' : STree}
    → Once e₁
    → Once e₂
    → OfLet δ x e₁ e₂ s₀ s p st
    → OfLet δ x e₁ e₂ s₀ s' p' st'
    → Same s s' p p' st st'
let-once {δ} {x} {e₁} {e₂} {s₀} {s} {s'} {st' = st'} first second (of-let {s = a} {p₁ = p₁} {p₂ = p₂} {st₁ = u} {st = st} h k) (of-let {s = b} {p₁ = q₁} {p₂ = q₂} {st₁ = v} h' k') =
    let x₁ = first δ s₀ a b p₁ q₁ u v h h' in
    let moved = transport (λ i. Translates (named x (sym x₁.tree i) δ) e₂ (sym x₁.ends i) s' q₂ st') k' in
    let x₂ = second (named x u δ) a s s' p₂ q₂ st st' k moved in
    record { ends = x₂.ends; code = (λ i. seq (x₁.code i) (x₂.code i)); tree = x₂.tree }

pair_same : {t u : STree} {r s : ℕ} → pair t r ≡ pair u s → (t ≡ u) × (r ≡ s)
pair_same q = (cc, cc)

each-once : {δ : Env STree} {x y : Variable} {us : List Variable} {e : Raw} {s₀ s s' : ℕ} {p p' : Svcode} {st st' : STree}
    → Once e
    → OfEach δ x y us e s₀ s p st
    → OfEach δ x y us e s₀ s' p' st'
    → Same s s' p p' st st'
each-once {δ} {x} {us = us} {e = e} {s₀ = s₀} {s = s} {s' = s'} body
    (of-each {inside = inside} {s = a} {sb = sb} {copies = c} {p = p} {st₁ = u} {st = st} m k t i o)
    (of-each {inside = inside'} {s = a'} {sb = sb'} {copies = c'} {p = p'} {st₁ = u'} {st = st'} m' k' t' i' o') =
    let (same-tree, same_flags) = pair_same (maps-once m m') in
    let (ends, copies, within) = copies-once k (subst (λ b. Copies δ b us (suc s₀) a' c' inside') (sym same_flags) k') in
    let moved = transport (λ j. Translates (named x (sym same-tree j) (sym within j)) e (sym ends j) s' p' st') t' in
    let z = body (named x u inside) a s s' p p' st st' t moved in
    let outs = o ∙ (λ j. ascending (among (ids (z.tree j)) (dv (z.code j)))) ∙ sym o' in
    let ins = i ∙ (λ j. ascending (fv (z.code j))) ∙ sym i' in
    record {
      ends = z.ends;
      code = λ j. seq (assign s₀ xducers.usum (same_flags j ∷ [])) (seq (copies j) (with_ctrl (outs j) s₀ (ins j) (z.code j)));
      tree = λ j. pair (z.tree j) (same_flags j);
    }

data OfGuard (δ : Env STree) (g : Variable) (us : List Variable) (e : Raw) (s₀ s₁ : ℕ) : Svcode → STree → Type 0 where
  of_guard : {inside : Env STree} {a r s b : ℕ} {packs p : Svcode} {st : STree} {outs ins : List ℕ}
      → Maps δ g (one b)
      → a ≡ s₀ + 1
      → r ≡ s₀ + 2
      → PacksAll δ b us r s packs inside
      → Translates inside e s s₁ p st
      → ins ≡ ascending (fv p)
      → outs ≡ ascending (among (ids st) (dv p))
      → OfGuard δ g us e s₀ s₁ (seq (assign s₀ xducers.b2u (b ∷ [])) (seq (assign a xducers.usum (s₀ ∷ [])) (seq packs (with_ctrl outs a ins p)))) (pair st s₀)

guard-parts : {δ : Env STree} {k s₀ s₁ : ℕ} {g : Variable} {us : List Variable} {e : Raw} {p : Svcode} {st : STree}
    → Translates δ (raw.guard k g us e) s₀ s₁ p st
    → OfGuard δ g us e s₀ s₁ p st
guard-parts (translates-guard m a r c t i o) = of_guard m a r c t i o
guard-parts (translates-call c m b) = absurd (not-guard c)

guard-once : {δ : Env STree} {g : Variable} {us : List Variable} {e : Raw} {s₀ s s' : ℕ} {p p' : Svcode} {st st' : STree}
    → Once e
    → OfGuard δ g us e s₀ s p st
    → OfGuard δ g us e s₀ s' p' st'
    → Same s s' p p' st st'
guard-once {δ} {us = us} {e = e} {s₀ = s₀} {s = s} {s' = s'} body
    (of_guard {inside = inside} {a = a} {s = n} {b = b} {p = p} {st = st} m x y k t i o)
    (of_guard {inside = inside'} {s = n'} {packs = c'} {p = p'} {st = st'} m' x' y' k' t' i' o') =
    let same = one_same (maps-once m m') in
    let w = x ∙ sym x' in
    let v = y ∙ sym y' in
    let (ends, packs, within) = packs-all-once k (transport (λ j. PacksAll δ (sym same j) us (sym v j) n' c' inside') k') in
    let moved = transport (λ j. Translates (sym within j) e (sym ends j) s' p' st') t' in
    let z = body inside n s s' p p' st st' t moved in
    let outs = o ∙ (λ j. ascending (among (ids (z.tree j)) (dv (z.code j)))) ∙ sym o' in
    let ins = i ∙ (λ j. ascending (fv (z.code j))) ∙ sym i' in
    record {
      ends = z.ends;
      code = λ j. seq (assign s₀ xducers.b2u (same j ∷ [])) (seq (assign (w j) xducers.usum (s₀ ∷ [])) (seq (packs j) (with_ctrl (outs j) (w j) (ins j) (z.code j))));
      tree = λ j. pair (z.tree j) s₀;
    }

pub translates-once : (e : Raw) → Once e
translates-once (raw.var k x) δ s₀ s s' p p' st st' h h' = var-once (var-parts h) (var-parts h')
translates-once (raw.bind k x e₁ e₂) δ s₀ s s' p p' st st' h h' = let-once (translates-once e₁) (translates-once e₂) (let-parts h) (let-parts h')
translates-once (raw.const k z) δ s₀ s s' p p' st st' h h' = call-once (called calls-const h) (called calls-const h')
translates-once (raw.iota k x) δ s₀ s s' p p' st st' h h' = call-once (called calls-iota h) (called calls-iota h')
translates-once (raw.truth k c) δ s₀ s s' p p' st st' h h' = call-once (called calls-truth h) (called calls-truth h')
translates-once (raw.operation k o x y) δ s₀ s s' p p' st st' h h' = call-once (called calls-operation h) (called calls-operation h')
translates-once (raw.negation k x) δ s₀ s s' p p' st st' h h' = call-once (called calls-negation h) (called calls-negation h')
translates-once (raw.sum k x) δ s₀ s s' p p' st st' h h' = call-once (called calls-sum h) (called calls-sum h')
translates-once (raw.each k x y us e) δ s₀ s s' p p' st st' h h' = each-once (translates-once e) (each-parts h) (each-parts h')
translates-once (raw.guard k g us e) δ s₀ s s' p p' st st' h h' = guard-once (translates-once e) (guard-parts h) (guard-parts h')
