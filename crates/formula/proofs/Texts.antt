-- The VA records, one at a time: what stands at k, and what the definition makes of all from k on.
use Prim.Native.Nat.{ℕ, zero, suc, ◌+◌, ◌-◌, ◌≤◌, ◌<◌}
use mathlib.Core.Bool.{Bool, true, false, ◌&&◌}
use mathlib.Core.List.{List}
use mathlib.Core.Path.{◌≡◌, refl, sym, ap, subst, ◌∙◌}
use native.Mathlib.Omega.{arith}
use lib.Dec.{eqb, leb}
use lib.ListN.{length}
use mathlib.Core.Option as option
use borrow.Author.Tests.{eqb-true}
use Rattle.std.specs.Prelude.{Option, Some, None, Result, Ok, Err}
use Rattle.std.specs.Bool.{then_some}
use Rattle.std.specs.Option.{ok_or}
use Rattle.laws.proofs.Options.{none-some}
use Rattle.records.specs.declared.marks.Form.{Form}
use Rattle.records.specs.declared.marks.Mark.{Mark}
use Rattle.records.specs.declared.marks.Mark.TheVariants as mark
use Rattle.records.specs.declared.marks.UnknownMark.{UnknownMark}
use Rattle.records.specs.Marks.{expression_mark, form_of, mark_by, mark_of, marks, Marks}
use Rattle.snesl.specs.declared.code.Base.{Base}
use Rattle.snesl.specs.declared.refusal.Refusal.{Refusal}
use Rattle.snesl.specs.declared.refusal.Refusal.TheVariants.{NoRecord}
use Rattle.snesl.specs.Records as records
use Rattle.snesl.specs.Records.{mark_at, mark_va, input_base, Span, span_at, span_first, texts_at, refused, texts}
use Rattle.formula.specs.Reading.{text_at, texts_of}

-- ---- marks

abbrev Textual : Result Mark UnknownMark → Bool
Textual (Ok mark.Text) = true
Textual (Ok (mark.Input b)) = false
Textual (Ok (mark.Expression f)) = false
Textual (Err e) = false

textual : (m : ℕ) → Textual (marks m (mark_of m)) ≡ eqb m mark_va
textual m = go (input_base m) refl (eqb m mark_va) refl
  where
    last : (o : option.Option Form) → Textual (marks m (expression_mark o)) ≡ false
    last (option.some f) = refl
    last option.none = refl

    go :
        (o : option.Option Base) → input_base m ≡ o → (a : Bool) → eqb m mark_va ≡ a
        → Textual (marks m (mark_by o (elim a [ true ↦ option.some mark.Text | false ↦ expression_mark (form_of m) ]))) ≡ a
    go (option.some b) e true q = none-some (ap input_base (sym (eqb-true m mark_va q)) ∙ e)
    go (option.some b) e false q = refl
    go option.none e true q = refl
    go option.none e false q = last (form_of m)

-- what the conversion of a mark says of it
pub text-is : {m : ℕ} {r s : Result Mark UnknownMark} → Marks m r → r ≡ s → Textual s ≡ eqb m mark_va
text-is {m} p e = ap Textual (sym e ∙ p.is) ∙ textual m

-- ---- one record by its tests

module _ (t : List ℕ) (k : ℕ) where
  pub text-none : eqb (mark_at t k) mark_va ≡ false → None ≡ text_at t k
  unfolding text_at
  text-none e = rw (e, text_at)

  module _ (e : eqb (mark_at t k) mark_va ≡ true) where
    pub text-cut : leb (k + 4) (length t) ≡ false → None ≡ text_at t k
    unfolding text_at
    text-cut h = rw (e, h, text_at)

    pub text-by : leb (k + 4) (length t) ≡ true → {n : ℕ} → n ≡ (span_at t k).bytes → then_some (leb (k + 4 + n) (length t)) (k + 4 + n) ≡ text_at t k
    unfolding text_at
    text-by h {n} q = ap (λ z. then_some (leb (k + 4 + z) (length t)) (k + 4 + z)) q ∙ rw (e, h, text_at) (last (leb (k + 4 + (span_at t k).bytes) (length t)))
      where
        last :
            (b : Bool) → then_some b (k + 4 + (span_at t k).bytes) ≡ elim b [ true ↦ Some (k + 4 + (span_at t k).bytes) | false ↦ None ]
        last true = refl
        last false = refl

-- ---- records

span-end : (s : Span) (x : records.Texts) → texts_of (span_first s x) ≡ texts_of x
span-end s (refused r) = refl
span-end s (texts ss k) = refl

module _ (t : List ℕ) (k : ℕ) where
  abbrev Goes : (left : ℕ) → Option ℕ → records.Texts → Type 0
  Goes left None x = texts_of x ≡ Err (NoRecord k)
  Goes left (Some next) x = texts_of x ≡ texts_of (texts_at (left - 1) t next)

  goes : (left : ℕ) → 0 < left → Goes left (text_at t k) (texts_at left t k)
  unfolding texts_at text_at
  goes zero h = absurd (omega arith)
  goes (suc n) h = go (eqb (mark_at t k) mark_va && (leb (k + 4) (length t) && leb (k + 4 + (span_at t k).bytes) (length t)))
    where
      same : n ≡ suc n - 1
      same = omega arith

      go :
          (b : Bool)
          → Goes (suc n) (elim b [ true ↦ Some (k + 4 + (span_at t k).bytes) | false ↦ None ])
          (elim b [ true ↦ span_first (span_at t k) (texts_at n t (k + 4 + (span_at t k).bytes)) | false ↦ refused (NoRecord k) ])
      go true =
          span-end (span_at t k) (texts_at n t (k + 4 + (span_at t k).bytes))
          ∙ ap (λ z. texts_of (texts_at z t (k + 4 + (span_at t k).bytes))) same
      go false = refl

-- done texts of `inputs` are read from `from` on, and the next one is at k
pub record Left (t : List ℕ) (inputs from done k : ℕ) : Type 0 where
  pub rest : texts_of (texts_at inputs t from) ≡ texts_of (texts_at (inputs - done) t k)

module _ (t : List ℕ) where
  pub start : (inputs from : ℕ) → Left t inputs from 0 from
  start inputs from = record { rest = ap (λ z. texts_of (texts_at z t from)) (omega arith) }

  module _ {inputs from done k : ℕ} (l : Left t inputs from done k) where
    goes_by : {r : Option ℕ} → done < inputs → r ≡ text_at t k → Goes t k (inputs - done) r (texts_at (inputs - done) t k)
    goes_by h p = subst (λ z. Goes t k (inputs - done) z (texts_at (inputs - done) t k)) (sym p) (goes t k (inputs - done) (omega arith))

    -- the text that stands at k, or the refusal where none does
    module _ {o : Option ℕ} {r : Result ℕ Refusal} (h : done < inputs) (p : o ≡ text_at t k) (q : r ≡ ok_or o (NoRecord k)) where
      pub turn : {next : ℕ} → r ≡ Ok next → Left t inputs from (done + 1) next
      turn {next} e = record { rest = l.rest ∙ (goes_by h (found o q ∙ p) ∙ ap (λ z. texts_of (texts_at z t next)) (omega arith)) }
        where
          found : (o : Option ℕ) → r ≡ ok_or o (NoRecord k) → Some next ≡ o
          found None q = cc
          found (Some n) q = cc

      pub stopped : {f : Refusal} → r ≡ Err f → Err f ≡ texts_of (texts_at inputs t from)
      stopped {f} e = ap Err (missed o q).1 ∙ sym (l.rest ∙ goes_by h ((missed o q).0 ∙ p))
        where
          missed : (o : Option ℕ) → r ≡ ok_or o (NoRecord k) → (None ≡ o) × (f ≡ NoRecord k)
          missed None q = (refl, cc)
          missed (Some n) q = cc

    pub all_passed : inputs ≤ done → Ok k ≡ texts_of (texts_at inputs t from)
    unfolding texts_at
    all_passed h =
        let e : inputs - done ≡ 0 = omega arith in
        sym (l.rest ∙ ap (λ z. texts_of (texts_at z t k)) e)
