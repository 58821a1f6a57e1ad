-- The transducers by the paper's general and block rules (002, 1.2.3, Figures 1.4 and 1.5), with 01's range and SumPlus.
use Rattle.std.specs.Prelude.{ℕ, zero, suc, ◌+◌, Bool, true, false, not, List, [], ◌∷◌, ◌++◌, map, ◌≡◌, ℤ, pos, ◌+ℤ◌}
use Rattle.std.proofs.Math.Option.{Option, some}
use Rattle.std.specs.Int.Signed.{le_z}
use Rattle.snesl.specs.declared.code.Base.{Base}
use Rattle.snesl.specs.declared.code.Kind.{Kind}
use Rattle.snesl.specs.declared.code.Operation.{Operation}
use Rattle.snesl.specs.declared.code.Operation.TheVariants.{Plus, LessEqual, Equal}
use Rattle.snesl.specs.declared.code.Transducer.{Transducer}
use Rattle.snesl.specs.declared.code.Transducer.TheVariants.{Const, ConstBool, ToFlags, B2u, Usum, MapTwo, MapOneNot, ScanPlus, Distr, SumPlus, Pack, UPack}
use Rattle.snesl.specs.Values.{Element, in_range, equal_z}
use Rattle.snesl.specs.Streams.{Stream, ints, bools, flags, units, bare, data_of}
use Rattle.snesl.specs.Transducers.{signature}
use Rattle.snesl.specs.Translation.{id}

-- ψ, without the ids of what it is applied to
pub data Xducer : Type 0 where
  const : ℤ → Xducer
  const_bool : Bool → Xducer
  to_flags : Xducer
  b2u : Xducer
  usum : Xducer
  map_two : Operation → Xducer
  map_one_not : Xducer
  scan_plus : ℤ → Xducer
  distr : Xducer
  sum_plus : Xducer
  pack : Xducer
  upack : Xducer

-- a transducer of that name, on the first ids
abbrev pub transducer : Xducer → Transducer
transducer (const n) = Const n
transducer (const_bool c) = ConstBool c
transducer to_flags = ToFlags (id 0)
transducer b2u = B2u (id 0)
transducer usum = Usum (id 0)
transducer (map_two o) = MapTwo o (id 0) (id 1)
transducer map_one_not = MapOneNot (id 0)
transducer (scan_plus n) = ScanPlus n (id 0) (id 1)
transducer distr = Distr (id 0) (id 1)
transducer sum_plus = SumPlus (id 0) (id 1)
transducer pack = Pack (id 0) (id 1)
transducer upack = UPack (id 0) (id 1)

-- The kinds of what ψ takes and gives; a Distr or a Pack carries data of base b on. The paper's ⟨⟩ has no kind; here an empty stream has one too.
abbrev pub takes : (b : Base) → Xducer → List Kind
takes b ψ = (signature b (transducer ψ)).inputs

abbrev pub gives : (b : Base) → Xducer → Kind
gives b ψ = (signature b (transducer ψ)).output

-- a ++ b = c (Notation 1.4)
pub data Joined : Stream → Stream → Stream → Type 0 where
  joined-ints : {xs ys zs : List ℤ} → zs ≡ xs ++ ys → Joined (ints xs) (ints ys) (ints zs)
  joined-bools : {bs cs ds : List Bool} → ds ≡ bs ++ cs → Joined (bools bs) (bools cs) (bools ds)
  joined-flags : {bs cs ds : List Bool} → ds ≡ bs ++ cs → Joined (flags bs) (flags cs) (flags ds)
  joined-units : {l m n : ℕ} → n ≡ l + m → Joined (units l) (units m) (units n)

pub data JoinedAll : List Stream → List Stream → List Stream → Type 0 where
  joined-none : JoinedAll [] [] []
  joined-more : {a b c : Stream} {as' bs cs : List Stream} → Joined a b c → JoinedAll as' bs cs → JoinedAll (a ∷ as') (b ∷ bs) (c ∷ cs)

-- ⟨F1, .., Fn, T⟩
pub data Unary : ℕ → List Bool → Type 0 where
  unary-none : Unary zero (true ∷ [])
  unary-more : {n : ℕ} {bs : List Bool} → Unary n bs → Unary (suc n) (false ∷ bs)

-- the exact total of a segment's ints, from `sofar` on
pub data Summed : (sofar : ℤ) → List Bool → List ℤ → ℤ → Type 0 where
  summed-F : {sofar next n total : ℤ} {bs : List Bool} {xs : List ℤ}
      → next ≡ sofar +ℤ n
      → Summed next bs xs total
      → Summed sofar (false ∷ bs) (n ∷ xs) total
  summed-T : {total : ℤ} → Summed total (true ∷ []) [] total

-- n for each F of a segment
pub data Spread {A : Type 0} (n : A) : List Bool → List A → Type 0 where
  spread-F : {bs : List Bool} {ns : List A} → Spread n bs ns → Spread n (false ∷ bs) (n ∷ ns)
  spread-T : Spread n (true ∷ []) []

-- what is kept of something with a bool: all of it for T, nothing for F
pub data Keeps {A : Type 0} : Bool → List A → List A → Type 0 where
  keeps-T : {l : List A} → Keeps true l l
  keeps-F : {l : List A} → Keeps false l []

-- n1 ⊕ n2 = a, for ⊕ one of +, <= and ==. A sum that is out of range has no rule.
pub data Operates : Operation → ℤ → ℤ → Stream → Type 0 where
  operates-plus : {n₁ n₂ n₃ : ℤ} → n₃ ≡ n₁ +ℤ n₂ → in_range n₃ ≡ true → Operates Plus n₁ n₂ (ints (n₃ ∷ []))
  operates-less_equal : {n₁ n₂ : ℤ} {c : Bool} → c ≡ le_z n₁ n₂ → Operates LessEqual n₁ n₂ (bools (c ∷ []))
  operates-equal : {n₁ n₂ : ℤ} {c : Bool} → c ≡ equal_z n₁ n₂ → Operates Equal n₁ n₂ (bools (c ∷ []))

-- ψ(a1, .., ak) ↓ a: one block. A result that is out of range has no rule, nor has a negative number under ToFlags. Those on bools are 001's (2.4.1), in
-- 002's form; a stream of data is of either base.
pub data Block : Xducer → List Stream → Stream → Type 0 where
  block-const : {n : ℤ} → Block (const n) [] (ints (n ∷ []))
  block-const_bool : {c : Bool} → Block (const_bool c) [] (bools (c ∷ []))
  block-to_flags : {n : ℕ} {bs : List Bool} → Unary n bs → Block to_flags (ints (pos n ∷ []) ∷ []) (flags bs)
  block-b2u : {c : Bool} {bs : List Bool} → Unary (elim c [ true ↦ 1 | false ↦ 0 ]) bs → Block b2u (bools (c ∷ []) ∷ []) (flags bs)
  block-map_two : {o : Operation} {n₁ n₂ : ℤ} {a : Stream} → Operates o n₁ n₂ a → Block (map_two o) (ints (n₁ ∷ []) ∷ ints (n₂ ∷ []) ∷ []) a
  block-map_one_not : {c d : Bool} → d ≡ not c → Block map_one_not (bools (c ∷ []) ∷ []) (bools (d ∷ []))
  block-usum-F : {bs : List Bool} {n : ℕ} → Block usum (flags bs ∷ []) (units n) → Block usum (flags (false ∷ bs) ∷ []) (units (suc n))
  block-usum-T : Block usum (flags (true ∷ []) ∷ []) (units 0)
  block-scan-F : {n₀ n₁ n : ℤ} {bs : List Bool} {xs ys : List ℤ}
      → in_range n₀ ≡ true
      → n₁ ≡ n₀ +ℤ n
      → Block (scan_plus n₁) (flags bs ∷ ints xs ∷ []) (ints ys)
      → Block (scan_plus n₀) (flags (false ∷ bs) ∷ ints (n ∷ xs) ∷ []) (ints (n₀ ∷ ys))
  block-scan-T : {n₀ : ℤ} → Block (scan_plus n₀) (flags (true ∷ []) ∷ ints [] ∷ []) (ints [])
  block-distr : (b : Base) {n : Element b} {bs : List Bool} {ns : List (Element b)} {a₂ a : Stream}
      → Spread n bs ns
      → a₂ ≡ data_of b (n ∷ [])
      → a ≡ data_of b ns
      → Block distr (flags bs ∷ a₂ ∷ []) a
  block-sum : {bs : List Bool} {xs : List ℤ} {n : ℤ}
      → Summed (pos 0) bs xs n
      → in_range n ≡ true
      → Block sum_plus (flags bs ∷ ints xs ∷ []) (ints (n ∷ []))
  block-pack : (b : Base) {c : Bool} {n : Element b} {ns : List (Element b)} {a₂ a : Stream}
      → Keeps c (n ∷ []) ns
      → a₂ ≡ data_of b (n ∷ [])
      → a ≡ data_of b ns
      → Block pack (bools (c ∷ []) ∷ a₂ ∷ []) a
  block-upack : {c : Bool} {n : ℕ} {bs ds : List Bool} → Unary n bs → Keeps c bs ds → Block upack (bools (c ∷ []) ∷ flags bs ∷ []) (flags ds)

-- ψ(a1, .., ak) ⇓ a under n units: a block for each unit (P-X-LOOP), and nothing of any input is left over (P-X-TERM)
pub data Loops (ψ : Xducer) : ℕ → List Stream → Stream → Type 0 where
  x-loop : {n : ℕ} {a a₁ a₂ : Stream} {as' as₁ as₂ : List Stream}
      → Block ψ as₁ a₁
      → Loops ψ n as₂ a₂
      → JoinedAll as₁ as₂ as'
      → Joined a₁ a₂ a
      → Loops ψ (suc n) as' a
  x-term : (b : Base) {a : Stream} {as' : List Stream} → as' ≡ map bare (takes b ψ) → a ≡ bare (gives b ψ) → Loops ψ 0 as' a

-- a transducer without its operands
abbrev pub xducer : Transducer → Xducer
xducer (Const z) = const z
xducer (ConstBool c) = const_bool c
xducer (ToFlags s) = to_flags
xducer (B2u s) = b2u
xducer (Usum s) = usum
xducer (MapTwo o s t) = map_two o
xducer (MapOneNot s) = map_one_not
xducer (ScanPlus z s t) = scan_plus z
xducer (Distr s t) = distr
xducer (SumPlus s t) = sum_plus
xducer (Pack s t) = pack
xducer (UPack s t) = upack

-- σ(s1) = a1, .., σ(sk) = ak
pub data Fetches (σ : ℕ → Option Stream) : List ℕ → List Stream → Type 0 where
  fetches-none : Fetches σ [] []
  fetches-more : {s : ℕ} {ss : List ℕ} {a : Stream} {as' : List Stream} → σ s ≡ some a → Fetches σ ss as' → Fetches σ (s ∷ ss) (a ∷ as')
