-- SVCODE0 as the paper writes it (002, 1.2.1, Figure 1.2) and the rules by which it runs (1.2.2, Figure 1.3), over a store that is a mapping from ids.
use Rattle.std.specs.Prelude.{ℕ, suc, ◌+◌, Bool, true, false, ◌≡◌, eqb}
use mathlib.Core.List.{List, [], ◌∷◌, Memᴰ}
use Rattle.std.proofs.Math.Option.{Option, some, none}
use Rattle.snesl.specs.declared.code.Base.{Base}
use Rattle.snesl.specs.declared.code.Base.TheVariants as base
use Rattle.snesl.specs.declared.code.Kind.{Kind}
use Rattle.snesl.specs.declared.code.Kind.TheVariants.{Ints, Bools, Flags, Units}
use Rattle.snesl.specs.Streams.{Stream, units, kind_of, bare, len}
use Rattle.snesl.specs.Transducers.{operands}
use Rattle.snesl.specs.Programs as programs
use Rattle.snesl.specs.Programs.{Program, count, member}
use Rattle.rules.specs.Xducers.{Xducer, gives, Loops, xducer, Fetches}

-- p ::= ε | s := ψ(s1, .., sk) | Sout := WithCtrl(s, Sin, p1) | p1; p2
pub data Svcode : Type 0 where
  nop : Svcode
  assign : ℕ → Xducer → List ℕ → Svcode
  with_ctrl : (outs : List ℕ) (control : ℕ) (ins : List ℕ) → Svcode → Svcode
  seq : Svcode → Svcode → Svcode

-- the kinds of the streams that are known, id by id
abbrev pub Kinds : Type 0
Kinds = ℕ → Option Kind

abbrev pub first_of : Option Kind → Option Kind → Option Kind
first_of none k = k
first_of (some j) k = some j

abbrev pub when : Option Kind → Bool → Option Kind
when k true = k
when k false = none

-- the base of data of such a kind; of what is no data, int: then no kind depends on it
abbrev pub base_for : Kind → Base
base_for Ints = base.Int
base_for Bools = base.Bool
base_for Flags = base.Int
base_for Units = base.Int

abbrev pub gives_for : Xducer → Option Kind → Option Kind
gives_for ψ none = none
gives_for ψ (some k) = some (gives (base_for k) ψ)

-- the kind of what ψ gives: a Distr's and a Pack's is that of the data which they carry on, their second operand
abbrev pub given_kind : Kinds → Xducer → List ℕ → Option Kind
given_kind κ ψ [] = some (gives base.Int ψ)
given_kind κ ψ (s ∷ []) = some (gives base.Int ψ)
given_kind κ ψ (s ∷ t ∷ ss) = gives_for ψ (κ t)

-- The kind of the stream s that p makes known, if it does, where κ was known before: what a ⟨⟩ that stands for it is a stream of. The last definition counts.
unfoldable pub kind_in : Kinds → Svcode → ℕ → Option Kind
kind_in κ nop u = none
kind_in κ (assign s ψ ss) u = when (given_kind κ ψ ss) (eqb u s)
kind_in κ (with_ctrl outs c ins p) u = when (kind_in κ p u) (member u outs)
kind_in κ (seq p q) u = first_of (kind_in (λ v. first_of (kind_in κ p v) (κ v)) q u) (kind_in κ p u)

abbrev pub empty_of : Option Kind → Option Stream
empty_of none = none
empty_of (some k) = some (bare k)

-- σ = [s1 ↦ a1, .., si ↦ ai]
abbrev pub Stores : Type 0
Stores = ℕ → Option Stream

-- what the streams of a store are
abbrev pub kind_at : Option Stream → Option Kind
kind_at none = none
kind_at (some a) = some (kind_of a)

abbrev pub kinds_in : Stores → Kinds
kinds_in σ u = kind_at (σ u)

-- σ(s) = ⟨⟩
pub record IsEmpty (σ : Stores) (s : ℕ) : Type 0 where
  pub stream : Stream
  pub there-is : σ s ≡ some stream
  pub no-elements : len stream ≡ 0

-- ⟨p, σ⟩ ⇓ σ' under c units. A rule's new store is said by what it has at each id.
pub data Runs : Svcode → Stores → ℕ → Stores → Type 0 where
  p-empty : {σ σ' : Stores} {c : ℕ} → ((u : ℕ) → σ' u ≡ σ u) → Runs nop σ c σ'
  p-xducer : {s c : ℕ} {ψ : Xducer} {ss : List ℕ} {σ σ' : Stores} {xs : List Stream} {a : Stream}
      → Fetches σ ss xs
      → Loops ψ c xs a
      → σ' s ≡ some a
      → ((u : ℕ) → (u ≡ s → ⊥) → σ' u ≡ σ u)
      → Runs (assign s ψ ss) σ c σ'
  p-wc-emp : {outs ins : List ℕ} {s c : ℕ} {p : Svcode} {σ σ' : Stores}
      → σ s ≡ some (units 0)
      → ((u : ℕ) → Memᴰ u ins → IsEmpty σ u)
      → ((u : ℕ) → Memᴰ u outs → σ' u ≡ empty_of (kind_in (kinds_in σ) p u))
      → ((u : ℕ) → (Memᴰ u outs → ⊥) → σ' u ≡ σ u)
      → Runs (with_ctrl outs s ins p) σ c σ'
  p-wc-nonemp : {outs ins : List ℕ} {s c n : ℕ} {p : Svcode} {σ σ' σ'' : Stores}
      → σ s ≡ some (units (suc n))
      → Runs p σ (suc n) σ''
      → ((u : ℕ) → Memᴰ u outs → σ' u ≡ σ'' u)
      → ((u : ℕ) → (Memᴰ u outs → ⊥) → σ' u ≡ σ u)
      → Runs (with_ctrl outs s ins p) σ c σ'
  p-seq : {c : ℕ} {p q : Svcode} {σ σ' σ'' : Stores} → Runs p σ c σ'' → Runs q σ'' c σ' → Runs (seq p q) σ c σ'

-- a program (snesl, specs/Programs.antt) whose first id is s, with its ids written out
unfoldable pub written : ℕ → Program → Svcode
written s programs.done = nop
written s (programs.define t p) = seq (assign s (xducer t) (operands t)) (written (suc s) p)
written s (programs.with_ctrl outs c ins b p) = seq (with_ctrl outs c ins (written s b)) (written (s + count b) p)
