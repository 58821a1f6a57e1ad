-- The input and VA records of a job that was read, one input at a time: where they stand, and what they say.
use Prim.Native.Nat.{ℕ, zero, suc, ◌+◌, ◌≤◌}
use mathlib.Core.Bool.{Bool, true, false, ◌&&◌}
use mathlib.Core.List.{List, [], ◌∷◌}
use mathlib.Core.Option.{Option, some, none}
use mathlib.Core.Path.{◌≡◌, refl, sym, ap, ap₂, subst, ◌∙◌}
use native.Mathlib.Omega.{arith}
use borrow.Author.Tests.{leb-true}
use lib.Dec.{eqb, leb}
use lib.ListN.{length}
use Rattle.snesl.specs.declared.code.Base.{Base}
use Rattle.snesl.specs.declared.limits.Formula.{Formula}
use Rattle.snesl.specs.declared.refusal.Refusal.TheVariants.{NoRecord, OverLimit, TooMany}
use Rattle.snesl.specs.Limits.{most_inputs, most_depth, last_variable}
use Rattle.snesl.specs.Values.{ValueType, type_of}
use Rattle.snesl.specs.Records.{mark_at, mark_va, byte_at, Raw, Input, input_base, input_at, inputs_at, input_ok, input_first, Declared, declared, Span, span_at, texts_at, span_first, Texts, texts, Front, front, front_of, job_end, texts_then, job, read_job}
use Rattle.snesl.specs.Records as records
use Rattle.snesl.proofs.Formed.{job_read}
use Rattle.formula.specs.Declarations.{base_at}
use Rattle.formula.proofs.Declaring.{base-is}
use Rattle.inputs.specs.Supply.{Read}

-- the type that the record at `at` declares
abbrev pub type_at : List ℕ → ℕ → ValueType
type_at t at = type_of (base_at t at) (byte_at t (at + 3))

-- From `at` on stand the records of these inputs, and from k on their texts, `left` of each.
pub data Supplied (t : List ℕ) : (left at k : ℕ) → List Input → List Span → Type 0 where
  supplied-none : {at k : ℕ} → Supplied t 0 at k [] []
  supplied-more : {n at k : ℕ} {is : List Input} {ss : List Span}
      → at + 4 ≤ length t
      → byte_at t (at + 3) ≤ most_depth
      → k + 4 + (span_at t k).bytes ≤ length t
      → Supplied t n (at + 4) (k + 4 + (span_at t k).bytes) is ss
      → Supplied t (suc n) at k (input_at t at (base_at t at) ∷ is) (span_at t k ∷ ss)

never : {X : Type 0} → ◌≡◌ {A = ℕ} 0 1 → X
never z = absurd (omega arith)

and_first : (a b : Bool) → (a && b) ≡ true → a ≡ true
and_first true b e = refl
and_first false b e = e

and_second : (a b : Bool) → (a && b) ≡ true → b ≡ true
and_second true b e = e
and_second false b e = never (cc)

module _ (t : List ℕ) where
  -- the first text of several
  record Texted (m k : ℕ) (ss : List Span) (end : ℕ) : Type 0 where
    rest : List Span
    spans : ss ≡ span_at t k ∷ rest
    fits : k + 4 + (span_at t k).bytes ≤ length t
    others : texts_at m t (k + 4 + (span_at t k).bytes) ≡ texts rest end

  texted : (m k : ℕ) (ss : List Span) (end : ℕ) → texts_at (suc m) t k ≡ texts ss end → Texted m k ss end
  unfolding texts_at
  texted m k ss end = go (eqb (mark_at t k) mark_va && (leb (k + 4) (length t) && leb (k + 4 + (span_at t k).bytes) (length t))) refl
    where
      more : k + 4 + (span_at t k).bytes ≤ length t → (x : Texts) → texts_at m t (k + 4 + (span_at t k).bytes) ≡ x → span_first (span_at t k) x ≡ texts ss end
          → Texted m k ss end
      more f (records.Texts.refused r) p q = never (cc)
      more f (texts r end') p q = record { rest = r; spans = cc; fits = f; others = cc }

      go : (b : Bool) → (eqb (mark_at t k) mark_va && (leb (k + 4) (length t) && leb (k + 4 + (span_at t k).bytes) (length t))) ≡ b
          → elim b [ true ↦ span_first (span_at t k) (texts_at m t (k + 4 + (span_at t k).bytes)) | false ↦ records.Texts.refused (NoRecord k) ] ≡ texts ss end
          → Texted m k ss end
      go true p q =
          more
          (leb-true (k + 4 + (span_at t k).bytes) (length t)
          (and_second (leb (k + 4) (length t)) _ (and_second (eqb (mark_at t k) mark_va) _ p)))
          (texts_at m t (k + 4 + (span_at t k).bytes))
          refl
          q
      go false p q = never (cc)

  -- the first input record of several
  record Declares (m at : ℕ) (b : Base) (is : List Input) (e : ℕ) : Type 0 where
    rest : List Input
    inputs : is ≡ input_at t at b ∷ rest
    fits : at + 4 ≤ length t
    shallow : byte_at t (at + 3) ≤ most_depth
    others : inputs_at m t (at + 4) ≡ declared rest e

  declares : (m at : ℕ) (b : Base) (is : List Input) (e : ℕ) → input_ok t at (input_first (input_at t at b) (inputs_at m t (at + 4))) ≡ declared is e
      → Declares m at b is e
  declares m at base is e = whole (leb (at + 4) (length t)) refl
    where
      more : at + 4 ≤ length t → byte_at t (at + 3) ≤ most_depth → (x : Declared) → inputs_at m t (at + 4) ≡ x → input_first (input_at t at base) x ≡ declared is e
          → Declares m at base is e
      more f s (records.Declared.refused r) p q = never (cc)
      more f s (declared r e') p q = record { rest = r; inputs = cc; fits = f; shallow = s; others = cc }

      limited : at + 4 ≤ length t → (b : Bool) → (leb (byte_at t (at + 2)) last_variable && leb (byte_at t (at + 3)) most_depth) ≡ b
          → elim b [ true ↦ input_first (input_at t at base) (inputs_at m t (at + 4)) | false ↦ records.Declared.refused (OverLimit at) ] ≡ declared is e
          → Declares m at base is e
      limited f true p q =
          more f
          (leb-true (byte_at t (at + 3)) most_depth (and_second (leb (byte_at t (at + 2)) last_variable) _ p))
          (inputs_at m t (at + 4))
          refl
          q
      limited f false p q = never (cc)

      whole : (b : Bool) → leb (at + 4) (length t) ≡ b
          → elim b [
            | true ↦
                elim (leb (byte_at t (at + 2)) last_variable && leb (byte_at t (at + 3)) most_depth)
                [ true ↦ input_first (input_at t at base) (inputs_at m t (at + 4)) | false ↦ records.Declared.refused (OverLimit at) ]
            | false ↦ records.Declared.refused (NoRecord at)
          ]
          ≡ declared is e
          → Declares m at base is e
      whole true p q = limited (leb-true (at + 4) (length t) p) (leb (byte_at t (at + 2)) last_variable && leb (byte_at t (at + 3)) most_depth) refl q
      whole false p q = never (cc)

  -- all of them, and that there are no more than are allowed
  none-supplied : (at k end : ℕ) (is : List Input) (ss : List Span) → is ≡ [] → texts_at (length is) t k ≡ texts ss end → Supplied t (length is) at k is ss
  unfolding texts_at
  none-supplied at k end is ss e x =
      let s : ss ≡ [] = cc (ap (λ (l : List Input). texts_at (length l) t k) e) in
      subst (λ (l : List Input). Supplied t (length l) at k l ss) (sym e) (subst (λ (l : List Span). Supplied t 0 at k [] l) (sym s) supplied-none)

  supplied : (m at k end e : ℕ) (is : List Input) (ss : List Span)
      → inputs_at m t at ≡ declared is e
      → texts_at (length is) t k ≡ texts ss end
      → Supplied t (length is) at k is ss × (length is ≤ m)
  unfolding inputs_at
  supplied zero at k end e is ss = go (input_base (mark_at t at)) refl
    where
      go : (o : Option Base) → input_base (mark_at t at) ≡ o
          → elim o [ some b ↦ input_ok t at (records.Declared.refused (TooMany at)) | none ↦ declared [] at ] ≡ declared is e
          → texts_at (length is) t k ≡ texts ss end
          → Supplied t (length is) at k is ss × (length is ≤ 0)
      go (some b) p q x = never (refuse (leb (at + 4) (length t)) (leb (byte_at t (at + 2)) last_variable && leb (byte_at t (at + 3)) most_depth) q)
        where
          refuse : (a b : Bool)
              → elim a [
                | true ↦ elim b [ true ↦ records.Declared.refused (TooMany at) | false ↦ records.Declared.refused (OverLimit at) ]
                | false ↦ records.Declared.refused (NoRecord at)
              ]
              ≡ declared is e
              → ◌≡◌ {A = ℕ} 0 1
          refuse true true q = cc
          refuse true false q = cc
          refuse false b q = cc
      go none p q x =
          let n : is ≡ [] = cc in
          (none-supplied at k end is ss n x, omega (arith, ap length n))
  supplied (suc m) at k end e is ss = go (supplied m (at + 4)) (input_base (mark_at t at)) refl
    where
      Others : Type 0
      Others =
          (k end e : ℕ) (is : List Input) (ss : List Span) → inputs_at m t (at + 4) ≡ declared is e → texts_at (length is) t k ≡ texts ss end
          → Supplied t (length is) (at + 4) k is ss × (length is ≤ m)

      rest : Others → (r : List Input) → is ≡ input_at t at (base_at t at) ∷ r → at + 4 ≤ length t → byte_at t (at + 3) ≤ most_depth → inputs_at m t (at + 4) ≡ declared r e
          → texts_at (length is) t k ≡ texts ss end
          → Supplied t (length is) at k is ss × (length is ≤ suc m)
      rest more r p f s o x =
          let y : texts_at (suc (length r)) t k ≡ texts ss end = sym (ap (λ (l : List Input). texts_at (length l) t k) p) ∙ x in
          let first = texted (length r) k ss end y in
          let others = more (k + 4 + (span_at t k).bytes) end e r first.rest o first.others in (
            subst (λ (l : List Input). Supplied t (length l) at k l ss) (sym p)
                (subst (λ (l : List Span). Supplied t (suc (length r)) at k (input_at t at (base_at t at) ∷ r) l) (sym first.spans)
                (supplied-more f s first.fits others.0)),
            omega (arith, others.1, ap length p),
          )

      go : Others → (o : Option Base) → input_base (mark_at t at) ≡ o
          → elim o [ some b ↦ input_ok t at (input_first (input_at t at b) (inputs_at m t (at + 4))) | none ↦ declared [] at ] ≡ declared is e
          → texts_at (length is) t k ≡ texts ss end
          → Supplied t (length is) at k is ss × (length is ≤ suc m)
      go more (some b) p q x =
          let f = declares m at b is e q in
          let named = ap (λ (z : Base). input_at t at z ∷ f.rest) (sym (base-is (mark_at t at) b p)) in
          rest more f.rest (f.inputs ∙ named) f.fits f.shallow f.others x
      go more none p q x =
          let n : is ≡ [] = cc in
          (none-supplied at k end is ss n x, omega (arith, ap length n))

  -- a job's texts
  record Ends (is : List Input) (next : ℕ) (ss : List Span) : Type 0 where
    end : ℕ
    read : texts_at (length is) t next ≡ texts ss end

  ends : (is : List Input) (k : ℕ) (e : Raw) (next : ℕ) (ss : List Span) → read_job t ≡ job is k e next ss → Ends is next ss
  ends is k e next ss = fronts (front_of t)
    where
      last : (is' : List Input) (k' : ℕ) (e' : Raw) (next' end : ℕ) (ss' : List Span) (b : Bool) → texts_at (length is') t next' ≡ texts ss' end
          → elim b [ true ↦ job is' k' e' next' ss' | false ↦ records.JobRead.refused (NoRecord end) ] ≡ job is k e next ss
          → Ends is next ss
      last is' k' e' next' end ss' true x q =
          let a : is' ≡ is = cc in
          let b : next' ≡ next = cc in
          let c : ss' ≡ ss = cc in
          record { end = end; read = sym (ap₂ (λ (l : List Input) (n : ℕ). texts_at (length l) t n) a b) ∙ (x ∙ ap (λ l. texts l end) c) }
      last is' k' e' next' end ss' false x q = never (cc)

      all : (is' : List Input) (k' : ℕ) (e' : Raw) (next' : ℕ) (x : Texts) → texts_at (length is') t next' ≡ x
          → texts_then t is' k' e' next' x ≡ job is k e next ss
          → Ends is next ss
      all is' k' e' next' (records.Texts.refused r) x q = never (cc)
      all is' k' e' next' (texts ss' end) x q = last is' k' e' next' end ss' (eqb end (length t)) x q

      fronts : (f : Front) → job_end t f ≡ job is k e next ss → Ends is next ss
      fronts (records.Front.refused r) q = never (cc)
      fronts (front is' k' e' next') q = all is' k' e' next' (texts_at (length is') t next') refl q

-- the inputs of a job that was read
module _ {t : List ℕ} {f : Formula} (g : Read t f) where
  both : Supplied t (length g.inputs) 0 g.next g.inputs g.spans × (length g.inputs ≤ most_inputs)
  both =
      let x = ends t g.inputs g.expression g.raw g.next g.spans g.read in
      supplied t most_inputs 0 g.next x.end g.expression g.inputs g.spans (job_read t g.read).inputs x.read

  pub inputs-supplied : Supplied t f.inputs 0 f.end g.inputs g.spans
  inputs-supplied =
      subst (λ (h : Formula). Supplied t h.inputs 0 h.end g.inputs g.spans) (sym g.formula) both.0

  pub inputs-few : f.inputs ≤ most_inputs
  inputs-few = omega (arith, both.1, ap (λ (h : Formula). h.inputs) g.formula)
