-- SVCODE0 programs (002, 1.2.1). A definition's id is the next free one, so a program's ids are known from where it starts.
use Rattle.std.specs.Prelude.{ℕ, zero, suc, ◌+◌, Bool, true, false, ◌||◌, eqb, ltb}
use mathlib.Core.List.{List, [], ◌∷◌, ◌++◌, Memᴰ}
use Rattle.snesl.specs.declared.code.Transducer.{Transducer}
use Rattle.snesl.specs.Transducers.{operands}

-- p ::= ε | s := ψ(s1, .., sk) | Sout := WithCtrl(s, Sin, p1) | p1; p2, with each sequence written from its first part on
pub data Program : Type 0 where
  done : Program
  define : Transducer → Program → Program
  with_ctrl : (outs : List ℕ) (control : ℕ) (ins : List ℕ) (body rest : Program) → Program

-- p1; p2
infixr 55 ◌⨾◌
unfoldable pub ◌⨾◌ : Program → Program → Program
done ⨾ q = q
define t p ⨾ q = define t (p ⨾ q)
with_ctrl outs c ins b p ⨾ q = with_ctrl outs c ins b (p ⨾ q)

-- how many streams a program defines, its bodies' included
unfoldable pub count : Program → ℕ
count done = zero
count (define t p) = suc (count p)
count (with_ctrl outs c ins b p) = count b + count p

unfoldable pub member : ℕ → List ℕ → Bool
member s [] = false
member s (t ∷ ts) = eqb s t || member s ts

-- the ids of the first list that are not in the second
unfoldable pub without : List ℕ → List ℕ → List ℕ
without [] ts = []
without (s ∷ ss) ts = elim (member s ts) [ true ↦ without ss ts | false ↦ s ∷ without ss ts ]

-- the ids of the first list that are in the second
unfoldable pub among : List ℕ → List ℕ → List ℕ
among [] ts = []
among (s ∷ ss) ts = elim (member s ts) [ true ↦ s ∷ among ss ts | false ↦ among ss ts ]

-- dv: the ids that a program whose first id is s makes known to what follows
unfoldable pub dv : (s : ℕ) → Program → List ℕ
dv s done = []
dv s (define t p) = s ∷ dv (suc s) p
dv s (with_ctrl outs c ins b p) = outs ++ dv (s + count b) p

-- fv: the ids that it uses and does not define itself
unfoldable pub fv : (s : ℕ) → Program → List ℕ
fv s done = []
fv s (define t p) = operands t ++ without (fv (suc s) p) (s ∷ [])
fv s (with_ctrl outs c ins b p) = (c ∷ ins) ++ without (fv (s + count b) p) outs

-- the lists have no id in common
abbrev pub Apart : List ℕ → List ℕ → Type 0
Apart ss ts = (u : ℕ) → Memᴰ u ss → Memᴰ u ts → ⊥

-- each id of the first list is in the second
abbrev pub Within : List ℕ → List ℕ → Type 0
Within ss ts = (u : ℕ) → Memᴰ u ss → Memᴰ u ts

-- Definition 1.1, ⊩ p, for a program whose first id is s
pub data WellFormed : ℕ → Program → Type 0 where
  well-done : {s : ℕ} → WellFormed s done
  well-define : {s : ℕ} {t : Transducer} {p : Program}
      → Apart (s ∷ []) (operands t)
      → WellFormed (suc s) p
      → Apart (operands t ++ s ∷ []) (dv (suc s) p)
      → WellFormed s (define t p)
  well-with_ctrl : {s c : ℕ} {outs ins : List ℕ} {b p : Program}
      → WellFormed s b
      → Within (fv s b) ins
      → Within outs (dv s b)
      → Apart (c ∷ ins) (dv s b)
      → WellFormed (s + count b) p
      → Apart ((c ∷ ins) ++ outs) (dv (s + count b) p)
      → WellFormed s (with_ctrl outs c ins b p)

-- Every id used is known where it is used: an input, defined before, or put out by a WithCtrl before; a body knows what its WithCtrl takes in.
pub data Scoped : (known : List ℕ) → ℕ → Program → Type 0 where
  scoped-done : {known : List ℕ} {s : ℕ} → Scoped known s done
  scoped-define : {known : List ℕ} {s : ℕ} {t : Transducer} {p : Program}
      → Within (operands t) known
      → Scoped (s ∷ known) (suc s) p
      → Scoped known s (define t p)
  scoped-with_ctrl : {known : List ℕ} {s c : ℕ} {outs ins : List ℕ} {b p : Program}
      → Within (c ∷ ins) known
      → Scoped ins s b
      → Scoped (outs ++ known) (s + count b) p
      → Scoped known s (with_ctrl outs c ins b p)

-- a list of ids in ascending order, each once
unfoldable pub insert : ℕ → List ℕ → List ℕ
insert s [] = s ∷ []
insert s (t ∷ ts) =
    elim (ltb s t) [ true ↦ s ∷ t ∷ ts | false ↦ elim (eqb s t) [ true ↦ t ∷ ts | false ↦ t ∷ insert s ts ] ]

unfoldable pub ascending : List ℕ → List ℕ
ascending [] = []
ascending (s ∷ ss) = insert s (ascending ss)
