-- What holds of every transducer's rules: their streams have its kinds, and a derivation for n + 1 units is a block and one for n units.
use Prim.Native.Nat.{ℕ, suc}
use mathlib.Core.Bool.{Bool}
use mathlib.Core.List.{List, [], ◌∷◌, ◌++◌, map}
use mathlib.Core.Path.{◌≡◌, refl, ap, ◌∙◌}
use lib.IntN.{ℤ}
use Rattle.laws.proofs.Never.{never}
use Rattle.snesl.specs.declared.code.Base.{Base}
use Rattle.snesl.specs.declared.code.Base.TheVariants as base
use Rattle.snesl.specs.declared.code.Kind.{Kind}
use Rattle.snesl.specs.declared.code.Kind.TheVariants.{Ints, Bools, Flags, Units}
use Rattle.snesl.specs.Values.{Element}
use Rattle.snesl.specs.Streams.{Stream, ints, bools, flags, units, kind_of, bare, data_of, data_kind}
use Rattle.rules.specs.Xducers.{Xducer, takes, gives, Joined, joined-ints, joined-bools, joined-flags, joined-units, JoinedAll, joined-none, joined-more, Block, Loops, x-loop, x-term}

kind-bare : (k : Kind) → kind_of (bare k) ≡ k
kind-bare Ints = refl
kind-bare Bools = refl
kind-bare Flags = refl
kind-bare Units = refl

kinds-bare : (ks : List Kind) → map kind_of (map bare ks) ≡ ks
kinds-bare [] = refl
kinds-bare (k ∷ ks) = let p = kind-bare k in let q = kinds-bare ks in λ i. p i ∷ q i

joined-kind : {a b c : Stream} → Joined a b c → kind_of c ≡ kind_of b
joined-kind (joined-ints q) = refl
joined-kind (joined-bools q) = refl
joined-kind (joined-flags q) = refl
joined-kind (joined-units q) = refl

joined-kinds : {xs ys zs : List Stream} → JoinedAll xs ys zs → map kind_of zs ≡ map kind_of ys
joined-kinds joined-none = refl
joined-kinds (joined-more j js) = let p = joined-kind j in let q = joined-kinds js in λ i. p i ∷ q i

-- the kinds are those of its signature, for some base of what it carries on
pub data HasKinds (ψ : Xducer) (xs : List Stream) (a : Stream) : Type 0 where
  has-kinds : (b : Base) → map kind_of xs ≡ takes b ψ → kind_of a ≡ gives b ψ → HasKinds ψ xs a

joined-on : {ψ : Xducer} {xs ys zs : List Stream} {a b c : Stream} → JoinedAll xs ys zs → Joined a b c → HasKinds ψ ys b → HasKinds ψ zs c
joined-on js j (has-kinds b p q) = has-kinds b (joined-kinds js ∙ p) (joined-kind j ∙ q)

pub loop-kinds : {ψ : Xducer} {n : ℕ} {xs : List Stream} {a : Stream} → Loops ψ n xs a → HasKinds ψ xs a
loop-kinds (x-loop l₁ l js j) = joined-on js j (loop-kinds l)
loop-kinds {ψ} (x-term b p q) = has-kinds b (ap (map kind_of) p ∙ kinds-bare (takes b ψ)) (ap kind_of q ∙ kind-bare (gives b ψ))

-- the same of a ψ whose kinds don't depend on the base
pub takes-kinds : {ψ : Xducer} {ks : List Kind} {n : ℕ} {xs : List Stream} {a : Stream} → Loops ψ n xs a → ((b : Base) → takes b ψ ≡ ks) → map kind_of xs ≡ ks
takes-kinds {ψ} {ks} {xs = xs} {a = a} l e = go (loop-kinds l)
  where
    go : HasKinds ψ xs a → map kind_of xs ≡ ks
    go (has-kinds b p q) = p ∙ e b

pub gives-kind : {ψ : Xducer} {k : Kind} {n : ℕ} {xs : List Stream} {a : Stream} → Loops ψ n xs a → ((b : Base) → gives b ψ ≡ k) → kind_of a ≡ k
gives-kind {ψ} {k} {xs = xs} {a = a} l e = go (loop-kinds l)
  where
    go : HasKinds ψ xs a → kind_of a ≡ k
    go (has-kinds b p q) = q ∙ e b

-- a stream of a kind
pub is-ints : (a : Stream) → kind_of a ≡ Ints → (zs : List ℤ) × (a ≡ ints zs)
is-ints (ints zs) q = (zs, refl)
is-ints (bools cs) q = never (cc)
is-ints (flags bs) q = never (cc)
is-ints (units n) q = never (cc)

pub is-bools : (a : Stream) → kind_of a ≡ Bools → (cs : List Bool) × (a ≡ bools cs)
is-bools (ints zs) q = never (cc)
is-bools (bools cs) q = (cs, refl)
is-bools (flags bs) q = never (cc)
is-bools (units n) q = never (cc)

pub is-flags : (a : Stream) → kind_of a ≡ Flags → (bs : List Bool) × (a ≡ flags bs)
is-flags (ints zs) q = never (cc)
is-flags (bools cs) q = never (cc)
is-flags (flags bs) q = (bs, refl)
is-flags (units n) q = never (cc)

pub is-units : (a : Stream) → kind_of a ≡ Units → (n : ℕ) × (a ≡ units n)
is-units (ints zs) q = never (cc)
is-units (bools cs) q = never (cc)
is-units (flags bs) q = never (cc)
is-units (units n) q = (n, refl)

pub is-data : (b : Base) (a : Stream) → kind_of a ≡ data_kind b → (es : List (Element b)) × (a ≡ data_of b es)
is-data base.Int a q = is-ints a q
is-data base.Bool a q = is-bools a q

-- data of one base is of no other, and joins as its lists do
pub data-same : (b : Base) (xs ys : List (Element b)) → data_of b xs ≡ data_of b ys → xs ≡ ys
data-same base.Int xs ys q = cc
data-same base.Bool xs ys q = cc

pub joined-data : (b : Base) (xs ys zs : List (Element b)) → zs ≡ xs ++ ys → Joined (data_of b xs) (data_of b ys) (data_of b zs)
joined-data base.Int xs ys zs q = joined-ints q
joined-data base.Bool xs ys zs q = joined-bools q

-- A first block by ψ₁, then n units of ψ, over flags and data to data.
pub data Parted (c : Base) (ψ₁ ψ : Xducer) (n : ℕ) (bs : List Bool) (xs zs : List (Element c)) : Type 0 where
  parted : {bs₁ bs₂ : List Bool} (xs₁ xs₂ zs₁ zs₂ : List (Element c))
      → Block ψ₁ (flags bs₁ ∷ data_of c xs₁ ∷ []) (data_of c zs₁)
      → Loops ψ n (flags bs₂ ∷ data_of c xs₂ ∷ []) (data_of c zs₂)
      → bs ≡ bs₁ ++ bs₂
      → xs ≡ xs₁ ++ xs₂
      → zs ≡ zs₁ ++ zs₂
      → Parted c ψ₁ ψ n bs xs zs

pub parts : (c : Base) {ψ : Xducer} {n : ℕ} {bs : List Bool} (xs zs : List (Element c)) → Loops ψ (suc n) (flags bs ∷ data_of c xs ∷ []) (data_of c zs) → Parted c ψ ψ n bs xs zs
parts base.Int xs zs (x-loop b l (joined-more (joined-flags p) (joined-more (joined-ints q) joined-none)) (joined-ints r)) = parted _ _ _ _ b l p q r
parts base.Bool xs zs (x-loop b l (joined-more (joined-flags p) (joined-more (joined-bools q) joined-none)) (joined-bools r)) = parted _ _ _ _ b l p q r

pub whole : (c : Base) {ψ : Xducer} {n : ℕ} {bs : List Bool} (xs zs : List (Element c)) → Parted c ψ ψ n bs xs zs → Loops ψ (suc n) (flags bs ∷ data_of c xs ∷ []) (data_of c zs)
whole c xs zs (parted xs₁ xs₂ zs₁ zs₂ b l p q r) =
    x-loop b l (joined-more (joined-flags p) (joined-more (joined-data c xs₁ xs₂ xs q) joined-none)) (joined-data c zs₁ zs₂ zs r)
