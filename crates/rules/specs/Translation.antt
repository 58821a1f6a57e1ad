-- The translation rules (002, 1.3) over names, with 01's sum and numbering. A set of ids is its list in ascending order.
use Rattle.std.specs.Prelude.{ℕ, suc, ◌+◌, Bool, List, [], ◌∷◌, ◌++◌, ◌≡◌, ℤ, pos}
use Rattle.snesl.specs.declared.code.Operation.{Operation}
use Rattle.snesl.specs.declared.code.Variable.{Variable}
use Rattle.snesl.specs.Programs.{without, among, ascending}
use Rattle.snesl.specs.Records as raw
use Rattle.snesl.specs.Records.{Raw}
use Rattle.rules.specs.Names.{Env, nothing, named, Maps, MapsAll}
use Rattle.rules.specs.Typing.{BuiltIn, const, truth, iota, operation, negation, sum, Calls}
use Rattle.rules.specs.Xducers as xducers
use Rattle.rules.specs.Instructions.{Svcode, nop, assign, with_ctrl, seq}
use Rattle.rules.specs.Trees.{STree, one, pair, ids}

-- dv and fv (002, 1.2.1)
unfoldable pub dv : Svcode → List ℕ
dv nop = []
dv (assign s ψ ss) = s ∷ []
dv (with_ctrl outs c ins p) = outs
dv (seq p q) = dv p ++ dv q

unfoldable pub fv : Svcode → List ℕ
fv nop = []
fv (assign s ψ ss) = ss
fv (with_ctrl outs c ins p) = c ∷ ins
fv (seq p q) = fv p ++ without (fv q) (dv p)

-- φ(st1, .., stk) ⇒ (p, st), with ids from s0 up to s1. 002's iota takes s1 into its WithCtrl; here, as in 01, it takes in nothing.
pub data Becomes : BuiltIn → List STree → (s₀ s₁ : ℕ) → Svcode → STree → Type 0 where
  becomes-const : {n : ℤ} {s₀ s₁ : ℕ} → s₁ ≡ s₀ + 1 → Becomes (const n) [] s₀ s₁ (assign s₀ (xducers.const n) []) (one s₀)
  becomes-truth : {c : Bool} {s₀ s₁ : ℕ} → s₁ ≡ s₀ + 1 → Becomes (truth c) [] s₀ s₁ (assign s₀ (xducers.const_bool c) []) (one s₀)
  becomes-operation : {o : Operation} {r s s₀ s₁ : ℕ}
      → s₁ ≡ s₀ + 1
      → Becomes (operation o) (one r ∷ one s ∷ []) s₀ s₁ (assign s₀ (xducers.map_two o) (r ∷ s ∷ [])) (one s₀)
  becomes-negation : {s s₀ s₁ : ℕ} → s₁ ≡ s₀ + 1 → Becomes negation (one s ∷ []) s₀ s₁ (assign s₀ xducers.map_one_not (s ∷ [])) (one s₀)
  becomes-iota : {s s₀ a b c s₁ : ℕ}
      → a ≡ s₀ + 1
      → b ≡ s₀ + 2
      → c ≡ s₀ + 3
      → s₁ ≡ s₀ + 4
      → Becomes iota (one s ∷ []) s₀ s₁
      (seq (assign s₀ xducers.to_flags (s ∷ []))
      (seq (assign a xducers.usum (s₀ ∷ []))
      (seq (with_ctrl (b ∷ []) a [] (assign b (xducers.const (pos 1)) []))
      (assign c (xducers.scan_plus (pos 0)) (s₀ ∷ b ∷ [])))))
      (pair (one c) s₀)
  becomes-sum : {s sb s₀ s₁ : ℕ} → s₁ ≡ s₀ + 1 → Becomes sum (pair (one s) sb ∷ []) s₀ s₁ (assign s₀ xducers.sum_plus (sb ∷ s ∷ [])) (one s₀)

-- si := Distr(sb, si') for each listed variable, with ids from s0 up to s1, and [(xi ↦ si)]
pub data Copies (δ : Env STree) (sb : ℕ) : List Variable → (s₀ s₁ : ℕ) → Svcode → Env STree → Type 0 where
  copies-none : {s₀ s₁ : ℕ} → s₁ ≡ s₀ → Copies δ sb [] s₀ s₁ nop nothing
  copies-more : {u : Variable} {us : List Variable} {r s₀ s₁ : ℕ} {p : Svcode} {inside : Env STree}
      → Maps δ u (one r)
      → Copies δ sb us (suc s₀) s₁ p inside
      → Copies δ sb (u ∷ us) s₀ s₁ (seq (assign s₀ xducers.distr (sb ∷ r ∷ [])) p) (named u (one s₀) inside)

-- st' := pack(b, st), with ids from s0 up to s1. 001 packs the items under the control that is there; their number is another, so they have one of their own.
pub data Packs : (b : ℕ) → STree → (s₀ s₁ : ℕ) → Svcode → STree → Type 0 where
  packs-one : {b s s₀ s₁ : ℕ} → s₁ ≡ s₀ + 1 → Packs b (one s) s₀ s₁ (assign s₀ xducers.pack (b ∷ s ∷ [])) (one s₀)
  packs-pair : {b f s₀ q u r s₁ : ℕ} {st st' : STree} {p : Svcode} {outs ins : List ℕ}
      → q ≡ s₀ + 1
      → u ≡ s₀ + 2
      → r ≡ s₀ + 3
      → Packs q st r s₁ p st'
      → ins ≡ ascending (fv p)
      → outs ≡ ascending (among (ids st') (dv p))
      → Packs b (pair st f) s₀ s₁
      (seq (assign s₀ xducers.upack (b ∷ f ∷ []))
      (seq (assign q xducers.distr (f ∷ b ∷ []))
      (seq (assign u xducers.usum (f ∷ []))
      (with_ctrl outs u ins p))))
      (pair st' s₀)

-- sti := pack(b, sti') for each listed variable, and [(xi ↦ sti)]
pub data PacksAll (δ : Env STree) (b : ℕ) : List Variable → (s₀ s₁ : ℕ) → Svcode → Env STree → Type 0 where
  packs-none : {s₀ s₁ : ℕ} → s₁ ≡ s₀ → PacksAll δ b [] s₀ s₁ nop nothing
  packs-more : {u : Variable} {us : List Variable} {s₀ s s₁ : ℕ} {p q : Svcode} {st st' : STree} {inside : Env STree}
      → Maps δ u st
      → Packs b st s₀ s p st'
      → PacksAll δ b us s s₁ q inside
      → PacksAll δ b (u ∷ us) s₀ s₁ (seq p q) (named u st' inside)

-- δ ⊢ e ⇒ (p, st), with ids from s0 up to s1
pub data Translates : Env STree → Raw → (s₀ s₁ : ℕ) → Svcode → STree → Type 0 where
  translates-var : {δ : Env STree} {k s₀ s₁ : ℕ} {x : Variable} {st : STree} → Maps δ x st → s₁ ≡ s₀ → Translates δ (raw.var k x) s₀ s₁ nop st
  translates-let : {δ : Env STree} {k s₀ s s₁ : ℕ} {x : Variable} {e₁ e₂ : Raw} {p₁ p₂ : Svcode} {st₁ st : STree}
      → Translates δ e₁ s₀ s p₁ st₁
      → Translates (named x st₁ δ) e₂ s s₁ p₂ st
      → Translates δ (raw.bind k x e₁ e₂) s₀ s₁ (seq p₁ p₂) st
  translates-call : {δ : Env STree} {e : Raw} {φ : BuiltIn} {xs : List Variable} {sts : List STree} {s₀ s₁ : ℕ} {p : Svcode} {st : STree}
      → Calls e φ xs
      → MapsAll δ xs sts
      → Becomes φ sts s₀ s₁ p st
      → Translates δ e s₀ s₁ p st
  translates-each : {δ inside : Env STree} {k s₀ s s₁ sb : ℕ} {x y : Variable} {us : List Variable} {e : Raw} {copies p : Svcode} {st₁ st : STree} {outs ins : List ℕ}
      → Maps δ y (pair st₁ sb)
      → Copies δ sb us (suc s₀) s copies inside
      → Translates (named x st₁ inside) e s s₁ p st
      → ins ≡ ascending (fv p)
      → outs ≡ ascending (among (ids st) (dv p))
      → Translates δ (raw.each k x y us e) s₀ s₁ (seq (assign s₀ xducers.usum (sb ∷ [])) (seq copies (with_ctrl outs s₀ ins p))) (pair st sb)
  translates-guard : {δ inside : Env STree} {k s₀ a r s s₁ b : ℕ} {g : Variable} {us : List Variable} {e : Raw} {packs p : Svcode} {st : STree} {outs ins : List ℕ}
      → Maps δ g (one b)
      → a ≡ s₀ + 1
      → r ≡ s₀ + 2
      → PacksAll δ b us r s packs inside
      → Translates inside e s s₁ p st
      → ins ≡ ascending (fv p)
      → outs ≡ ascending (among (ids st) (dv p))
      → Translates δ (raw.guard k g us e) s₀ s₁
      (seq (assign s₀ xducers.b2u (b ∷ []))
      (seq (assign a xducers.usum (s₀ ∷ []))
      (seq packs (with_ctrl outs a ins p))))
      (pair st s₀)

-- p with its `;` grouped to the right and each ε left out, then k
unfoldable pub regroup : Svcode → Svcode → Svcode
regroup nop k = k
regroup (assign s ψ ss) k = seq (assign s ψ ss) k
regroup (with_ctrl outs c ins p) k = seq (with_ctrl outs c ins (regroup p nop)) k
regroup (seq p q) k = regroup p (regroup q k)
