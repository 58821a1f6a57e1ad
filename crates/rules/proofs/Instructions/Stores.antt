-- A store that is a list, and one that is a mapping: what the first has where the second has something, and what a skipped body leaves in both.
use Prim.Native.Nat.{ℕ, zero, suc, ◌+◌, ◌<◌}
use native.Mathlib.Omega.{arith}
use mathlib.Core.Bool.{Bool, true, false}
use mathlib.Core.List.{List, [], ◌∷◌, ◌++◌, append_assoc}
use mathlib.Core.Option.{Option, some, none}
use mathlib.Core.Path.{◌≡◌, refl, sym, ap, ◌∙◌}
use borrow.Author.Tests.{eqb-true}
use lib.Dec.{eqb}
use lib.ListN.{length, length-append, get_elem?}
use Rattle.laws.proofs.Never.{never}
use Rattle.laws.proofs.Lists.{get_elem?-append-left, get_elem?-append-seam}
use Rattle.snesl.specs.declared.code.Base.{Base}
use Rattle.snesl.specs.declared.code.Base.TheVariants as base
use Rattle.snesl.specs.declared.code.Kind.{Kind}
use Rattle.snesl.specs.declared.code.Kind.TheVariants.{Ints, Bools, Flags, Units}
use Rattle.snesl.specs.declared.code.Transducer.{Transducer}
use Rattle.snesl.specs.declared.code.Transducer.TheVariants.{Const, ConstBool, ToFlags, B2u, Usum, MapTwo, MapOneNot, ScanPlus, Distr, SumPlus, Pack, UPack}
use Rattle.snesl.specs.Streams.{Stream, ints, bools, flags, units, kind_of, bare, base_in, Store, ◌!◌}
use Rattle.snesl.specs.Transducers as functions
use Rattle.snesl.specs.Transducers.{operands}
use Rattle.snesl.specs.Programs.{Program, done, define, with_ctrl, count, member}
use Rattle.snesl.specs.Machine.{skipped}
use Rattle.rules.specs.Xducers.{Xducer, map_two, scan_plus, distr, sum_plus, pack, upack, gives, xducer, Fetches, fetches-none, fetches-more}
use Rattle.rules.specs.Agreement.{Covers}
use Rattle.rules.specs.Instructions.{Kinds, first_of, when, base_for, gives_for, given_kind, kind_in, kind_at, kinds_in, Stores, written}

pub fetched : {σ : Stores} {τ : Store} {ss : List ℕ} {xs : List Stream} → Covers σ τ → Fetches σ ss xs → Fetches (λ s. τ ! s) ss xs
fetched c fetches-none = fetches-none
fetched c (fetches-more {s = s} {a = a} p f) = fetches-more (c.covers s a p) (fetched c f)

-- what stands before the end of a list stays where it is
pub kept : {A : Type 0} (l r : List A) (u : ℕ) → u < length l → get_elem? (l ++ r) u ≡ get_elem? l u
kept [] r u h = absurd (omega arith)
kept (a ∷ l) r zero h = refl
kept (a ∷ l) r (suc u) h = kept l r u (omega arith)

-- a skipped body takes its ids
pub skipped-adds : (τ : Store) (p : Program) → length (skipped τ p) ≡ count p
unfolding skipped count
skipped-adds τ done = refl
skipped-adds τ (define t p) = ap suc (skipped-adds (τ ++ functions.empty τ t ∷ []) p)
skipped-adds τ (with_ctrl outs c ins b p) =
    omega (arith, length-append (skipped τ b) (skipped (τ ++ skipped τ b) p), skipped-adds τ b, skipped-adds (τ ++ skipped τ b) p)

-- the list has a stream of each kind that is known
pub record HasKinds (κ : Kinds) (τ : Store) : Type 0 where
  pub has : (u : ℕ) (k : Kind) → κ u ≡ some k → (a : Stream) × ((τ ! u ≡ some a) × (kind_of a ≡ k))

kind-bare : (k : Kind) → kind_of (bare k) ≡ k
kind-bare Ints = refl
kind-bare Bools = refl
kind-bare Flags = refl
kind-bare Units = refl

base-kind : (a : Stream) → base_in (some a) ≡ base_for (kind_of a)
base-kind (ints zs) = refl
base-kind (bools cs) = refl
base-kind (flags bs) = refl
base-kind (units n) = refl

some_same : {A : Type 0} {a b : A} → some a ≡ some b → a ≡ b
some_same q = cc

-- data that is carried on
carried-kind : {κ : Kinds} {τ : Store} → HasKinds κ τ → (ψ : Xducer) (t : ℕ) {k : Kind} → gives_for ψ (κ t) ≡ some k → gives (base_in (τ ! t)) ψ ≡ k
carried-kind {κ} {τ} h ψ t {k} q = go (κ t) refl q
  where
    go : (o : Option Kind) → κ t ≡ o → gives_for ψ o ≡ some k → gives (base_in (τ ! t)) ψ ≡ k
    go none e q = never (cc)
    go (some j) e q = let (a, (there, kind)) = h.has t j e in ap (λ o. gives (base_in o) ψ) there ∙ ap (λ b. gives b ψ) (base-kind a ∙ ap base_for kind) ∙ some_same q

-- and where no data is
fixed-kind : (ψ : Xducer) → ((b : Base) → gives base.Int ψ ≡ gives b ψ) → (o : Option Kind) {k : Kind} → gives_for ψ o ≡ some k → gives base.Int ψ ≡ k
fixed-kind ψ same none q = never (cc)
fixed-kind ψ same (some j) q = same (base_for j) ∙ some_same q

-- a skipped transducer's stream is ⟨⟩ of the kind that is known of it
empty-made : (κ : Kinds) (τ : Store) → HasKinds κ τ → (t : Transducer) {k : Kind} → given_kind κ (xducer t) (operands t) ≡ some k → functions.empty τ t ≡ bare k
empty-made κ τ h (Const z) q = ap bare (some_same q)
empty-made κ τ h (ConstBool c) q = ap bare (some_same q)
empty-made κ τ h (ToFlags s) q = ap bare (some_same q)
empty-made κ τ h (B2u s) q = ap bare (some_same q)
empty-made κ τ h (Usum s) q = ap bare (some_same q)
empty-made κ τ h (MapTwo o s t) q = ap bare (fixed-kind (map_two o) (λ b. refl) (κ t.0) q)
empty-made κ τ h (MapOneNot s) q = ap bare (some_same q)
empty-made κ τ h (ScanPlus z s t) q = ap bare (fixed-kind (scan_plus z) (λ b. refl) (κ t.0) q)
empty-made κ τ h (Distr s t) q = ap bare (carried-kind h distr t.0 q)
empty-made κ τ h (SumPlus s t) q = ap bare (fixed-kind sum_plus (λ b. refl) (κ t.0) q)
empty-made κ τ h (Pack s t) q = ap bare (carried-kind h pack t.0 q)
empty-made κ τ h (UPack s t) q = ap bare (fixed-kind upack (λ b. refl) (κ t.0) q)

-- what is known after a part: its own kinds, and those before
known-after : {κ κ' : Kinds} {τ τ' : Store}
    → HasKinds κ τ
    → ((u : ℕ) (a : Stream) → τ ! u ≡ some a → τ' ! u ≡ some a)
    → ((u : ℕ) (k : Kind) → κ' u ≡ some k → τ' ! u ≡ some (bare k))
    → HasKinds (λ v. first_of (κ' v) (κ v)) τ'
known-after {κ} {κ'} {τ} {τ'} h grown own = record { has = λ u k q. go u k (κ' u) refl q }
  where
    go : (u : ℕ) (k : Kind) (o : Option Kind) → κ' u ≡ o → first_of o (κ u) ≡ some k → (a : Stream) × ((τ' ! u ≡ some a) × (kind_of a ≡ k))
    go u k (some j) e q = (bare j, (own u j e, kind-bare j ∙ some_same q))
    go u k none e q = let (a, (there, kind)) = h.has u k q in (a, (grown u a there, kind))

-- What a body that is not run leaves at an id that it makes known is ⟨⟩ of that id's kind.
record Leaves (p : Program) (s u : ℕ) (k : Kind) : Type 0 where
  leaves : (κ : Kinds) (τ : Store) → HasKinds κ τ → length τ ≡ s → kind_in κ (written s p) u ≡ some k → (τ ++ skipped τ p) ! u ≡ some (bare k)

-- the stream of one definition
one_left : (κ : Kinds) (τ : Store) → HasKinds κ τ → (t : Transducer) (s u : ℕ) (k : Kind) → length τ ≡ s
    → (b : Bool) → eqb u s ≡ b → when (given_kind κ (xducer t) (operands t)) b ≡ some k → (τ ++ functions.empty τ t ∷ []) ! u ≡ some (bare k)
one_left κ τ h t s u k l true e q =
    let here : u ≡ length τ = omega (arith, eqb-true u s e) in
    ap (λ i. (τ ++ functions.empty τ t ∷ []) ! i) here ∙ get_elem?-append-seam τ (functions.empty τ t) [] ∙ ap some (empty-made κ τ h t q)
one_left κ τ h t s u k l false e q = never (cc)

leaves-define : (t : Transducer) (p : Program) (s u : ℕ) (k : Kind) → ((u : ℕ) (k : Kind) → Leaves p (suc s) u k) → Leaves (define t p) s u k
unfolding skipped written kind_in
leaves-define t p s u k ih = record { leaves = λ κ τ h l q. go κ τ h l (kind_in (λ v. first_of (when (given_kind κ (xducer t) (operands t)) (eqb v s)) (κ v)) (written (suc s) p) u) refl q }
  where
    which : (κ : Kinds) (τ : Store) → HasKinds κ τ → length τ ≡ s → length (τ ++ functions.empty τ t ∷ []) ≡ suc s → HasKinds (λ v. first_of (when (given_kind κ (xducer t) (operands t)) (eqb v s)) (κ v)) (τ ++ functions.empty τ t ∷ [])
        → (o : Option Kind) → kind_in (λ v. first_of (when (given_kind κ (xducer t) (operands t)) (eqb v s)) (κ v)) (written (suc s) p) u ≡ o
        → first_of o (when (given_kind κ (xducer t) (operands t)) (eqb u s)) ≡ some k
        → ((τ ++ functions.empty τ t ∷ []) ++ skipped (τ ++ functions.empty τ t ∷ []) p) ! u ≡ some (bare k)
    which κ τ h l longer known (some j) e r = (ih u k).leaves (λ v. first_of (when (given_kind κ (xducer t) (operands t)) (eqb v s)) (κ v)) (τ ++ functions.empty τ t ∷ []) known longer (e ∙ r)
    which κ τ h l longer known none e r = get_elem?-append-left (τ ++ functions.empty τ t ∷ []) (skipped (τ ++ functions.empty τ t ∷ []) p) u (one_left κ τ h t s u k l (eqb u s) refl r)

    go : (κ : Kinds) (τ : Store) → HasKinds κ τ → length τ ≡ s → (o : Option Kind) → kind_in (λ v. first_of (when (given_kind κ (xducer t) (operands t)) (eqb v s)) (κ v)) (written (suc s) p) u ≡ o
        → first_of o (when (given_kind κ (xducer t) (operands t)) (eqb u s)) ≡ some k
        → (τ ++ functions.empty τ t ∷ skipped (τ ++ functions.empty τ t ∷ []) p) ! u ≡ some (bare k)
    go κ τ h l o e r =
        let more = functions.empty τ t in
        let longer : length (τ ++ more ∷ []) ≡ suc s = omega (arith, length-append τ (more ∷ [])) in
        let known = known-after {κ' = λ v. when (given_kind κ (xducer t) (operands t)) (eqb v s)} h (λ u a q. get_elem?-append-left τ (more ∷ []) u q) (λ u k q. one_left κ τ h t s u k l (eqb u s) refl q) in
        ap (λ σ. σ ! u) (sym (append_assoc τ (more ∷ []) (skipped (τ ++ more ∷ []) p))) ∙ which κ τ h l longer known o e r

leaves-with_ctrl : (outs ins : List ℕ) (c : ℕ) (b p : Program) (s u : ℕ) (k : Kind)
    → ((u : ℕ) (k : Kind) → Leaves b s u k)
    → ((u : ℕ) (k : Kind) → Leaves p (s + count b) u k)
    → Leaves (with_ctrl outs c ins b p) s u k
unfolding skipped written kind_in
leaves-with_ctrl outs ins c b p s u k body rest = record { leaves = λ κ τ h l q. go κ τ h l (kind_in (λ v. first_of (when (kind_in κ (written s b) v) (member v outs)) (κ v)) (written (s + count b) p) u) refl q }
  where
    put : (κ : Kinds) (τ : Store) → HasKinds κ τ → length τ ≡ s → (u : ℕ) (k : Kind) (m : Bool) → when (kind_in κ (written s b) u) m ≡ some k → (τ ++ skipped τ b) ! u ≡ some (bare k)
    put κ τ h l u k true q = (body u k).leaves κ τ h l q
    put κ τ h l u k false q = never (cc)

    which : (κ : Kinds) (τ : Store) → HasKinds κ τ → length τ ≡ s → (o : Option Kind)
        → kind_in (λ v. first_of (when (kind_in κ (written s b) v) (member v outs)) (κ v)) (written (s + count b) p) u ≡ o
        → first_of o (when (kind_in κ (written s b) u) (member u outs)) ≡ some k
        → ((τ ++ skipped τ b) ++ skipped (τ ++ skipped τ b) p) ! u ≡ some (bare k)
    which κ τ h l (some j) e r =
        let longer : length (τ ++ skipped τ b) ≡ s + count b = omega (arith, length-append τ (skipped τ b), skipped-adds τ b) in
        (rest u k).leaves (λ v. first_of (when (kind_in κ (written s b) v) (member v outs)) (κ v)) (τ ++ skipped τ b)
        (known-after {κ' = λ v. when (kind_in κ (written s b) v) (member v outs)} h (λ u a q. get_elem?-append-left τ (skipped τ b) u q) (λ u k q. put κ τ h l u k (member u outs) q))
        longer (e ∙ r)
    which κ τ h l none e r = get_elem?-append-left (τ ++ skipped τ b) (skipped (τ ++ skipped τ b) p) u (put κ τ h l u k (member u outs) r)

    go : (κ : Kinds) (τ : Store) → HasKinds κ τ → length τ ≡ s → (o : Option Kind)
        → kind_in (λ v. first_of (when (kind_in κ (written s b) v) (member v outs)) (κ v)) (written (s + count b) p) u ≡ o
        → first_of o (when (kind_in κ (written s b) u) (member u outs)) ≡ some k
        → (τ ++ (skipped τ b ++ skipped (τ ++ skipped τ b) p)) ! u ≡ some (bare k)
    go κ τ h l o e r = ap (λ σ. σ ! u) (sym (append_assoc τ (skipped τ b) (skipped (τ ++ skipped τ b) p))) ∙ which κ τ h l o e r

nothing_known : {X : Type 0} (κ : Kinds) (s u : ℕ) {k : Kind} → kind_in κ (written s done) u ≡ some k → X
unfolding kind_in written
nothing_known κ s u q = never (cc)

leaving : (p : Program) (s u : ℕ) (k : Kind) → Leaves p s u k
leaving done s u k = record { leaves = λ κ τ h l q. nothing_known κ s u q }
leaving (define t p) s u k = leaves-define t p s u k (leaving p (suc s))
leaving (with_ctrl outs c ins b p) s u k = leaves-with_ctrl outs ins c b p s u k (leaving b s) (leaving p (s + count b))

pub skipped-kind : (p : Program) (κ : Kinds) (τ : Store) (s u : ℕ) (k : Kind) → HasKinds κ τ → length τ ≡ s → kind_in κ (written s p) u ≡ some k → (τ ++ skipped τ p) ! u ≡ some (bare k)
skipped-kind p κ τ s u k = (leaving p s u k).leaves κ τ

-- a mapping's kinds, where a list has what it has
pub covers-kinds : {σ : Stores} {τ : Store} → Covers σ τ → HasKinds (kinds_in σ) τ
covers-kinds {σ} {τ} c = record { has = λ u k q. go u k (σ u) refl q }
  where
    go : (u : ℕ) (k : Kind) (o : Option Stream) → σ u ≡ o → kind_at o ≡ some k → (a : Stream) × ((τ ! u ≡ some a) × (kind_of a ≡ k))
    go u k none e q = never (cc)
    go u k (some a) e q = (a, (c.covers u a e, some_same q))
