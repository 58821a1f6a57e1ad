-- Reading a formula and a job: exactly the bytes that the grammar has.
use Prim.Native.Nat.{ℕ, zero, suc, ◌+◌, ◌*◌, ◌≤◌}
use native.Mathlib.Omega.{arith}
use mathlib.Core.Bool.{Bool, true, false, ◌&&◌}
use mathlib.Core.List.{List, [], ◌∷◌, ◌++◌, append_assoc, append-nil}
use mathlib.Core.Logic.{◌↔◌}
use mathlib.Core.Option.{Option, some, none}
use mathlib.Core.Path.{◌≡◌, refl, sym, ap, ◌∙◌, subst}
use borrow.Author.Tests.{le-leb, leb-true, eqb-true, eq-eqb}
use lib.Dec.{eqb, leb}
use lib.ListN.{length, take, drop, length-append, length-drop, take-append-drop}
use lib.Seq.{drop-append_seam, drop-drop, drop-length, length-take-le}
use Rattle.laws.proofs.Never.{never}
use Rattle.laws.proofs.Tests.{both_true}
use Rattle.snesl.specs.declared.code.Base.{Base}
use Rattle.snesl.specs.declared.code.Base.TheVariants as base
use Rattle.snesl.specs.declared.code.Operation.{Operation}
use Rattle.snesl.specs.declared.code.Operation.TheVariants.{Plus, LessEqual, Equal}
use Rattle.snesl.specs.declared.refusal.Refusal.TheVariants.{NoRecord, OverLimit, TooMany}
use Rattle.snesl.specs.Ascii.{ascii}
use Rattle.snesl.specs.Notation.{IN, IB}
use Rattle.snesl.specs.Limits.{most_bytes, most_inputs, most_nesting, most_depth, last_variable}
use Rattle.snesl.specs.Records.{Raw, byte_at, mark_at, mark_in, mark_ib, mark_va, input_base, Input, Declared, declared, input_first, input_at, input_ok, inputs_at, Span, Texts, texts, span_first, span_at, texts_at, Front, front, expression_after, inputs_then, front_of, formula_end, read_formula, JobRead, job, texts_then, job_end, read_job}
use Rattle.snesl.proofs.Formed.{FrontRead, formula-read, job_read}
use Rattle.rules.specs.Grammar.{Names, Bytes, input_record, truth_record, operation_record, Spells, spells-var, spells-let, spells-const, spells-truth, spells-iota, spells-operation}
use Rattle.rules.specs.Grammar.{spells-negation, spells-sum, spells-each, spells-guard, SpellsInputs, inputs-none, inputs-more, SpellsTexts, texts-none, texts-more, SpellsFront, SpellsJob}
use Rattle.rules.proofs.Reading.Places.{At, at-fits, at_byte, at_none, at_first, at_rest, at_both}
use Rattle.rules.proofs.Reading.Heads.{mark-there, mark-bytes, with_two}
use Rattle.rules.proofs.Reading.Expressions.{spells-scans, scans-spell}

-- ---- inputs, from bytes

no-input-there : {t : List ℕ} {k a b : ℕ} {cs : List ℕ} → At t k (a ∷ b ∷ cs) → input_base (a * 256 + b) ≡ none → input_base (mark_at t k) ≡ none
no-input-there h q = ap input_base (mark-there h) ∙ q

truth-there : {t : List ℕ} {k : ℕ} (c : Bool) → At t k (truth_record c) → input_base (mark_at t k) ≡ none
truth-there false a = no-input-there a refl
truth-there true a = no-input-there a refl

operation-there : {t : List ℕ} {k : ℕ} (o : Operation) (x y : ℕ) → At t k (operation_record o x y) → input_base (mark_at t k) ≡ none
operation-there Plus x y a = no-input-there a refl
operation-there LessEqual x y a = no-input-there a refl
operation-there Equal x y a = no-input-there a refl

-- an expression starts with no input
expression-there : {t : List ℕ} {l k r : ℕ} {bs : List ℕ} {e : Raw} → Spells l k bs e r → At t k bs → input_base (mark_at t k) ≡ none
expression-there {t} {k = k} (spells-var q n) a = no-input-there (subst (At t k) q a) refl
expression-there {t} {k = k} (spells-let q n h₁ h₂ c) a = no-input-there (subst (At t k) q a) refl
expression-there {t} {k = k} (spells-const q n) a = no-input-there (subst (At t k) q a) refl
expression-there {t} {k = k} (spells-iota q n) a = no-input-there (subst (At t k) q a) refl
expression-there {t} {k = k} (spells-truth {c = c} q) a = truth-there c (subst (At t k) q a)
expression-there {t} {k = k} (spells-operation {o = o} {x = x} {y = y} q n m) a = operation-there o x.0 y.0 (subst (At t k) q a)
expression-there {t} {k = k} (spells-negation q n) a = no-input-there (subst (At t k) q a) refl
expression-there {t} {k = k} (spells-guard q n ns s h c) a = no-input-there (subst (At t k) q a) refl
expression-there {t} {k = k} (spells-sum q n) a = no-input-there (subst (At t k) q a) refl
expression-there {t} {k = k} (spells-each q n m ns s h c) a = no-input-there (subst (At t k) q a) refl

module _ (t : List ℕ) where
  no-more-inputs : (left k : ℕ) → input_base (mark_at t k) ≡ none → inputs_at left t k ≡ declared [] k
  unfolding inputs_at
  no-more-inputs zero k q = rw (q, inputs_at)
  no-more-inputs (suc left) k q = rw (q, inputs_at)

  -- what stands where an input record does
  record InputThere (k : ℕ) (b : Base) (x d : ℕ) : Type 0 where
    fits : k + 4 ≤ length t
    declares : input_base (mark_at t k) ≡ some b
    name-is : byte_at t (k + 2) ≡ x
    depth_is : byte_at t (k + 3) ≡ d

  input-there : {k : ℕ} (b : Base) (x d : ℕ) → At t k (input_record b x d) → InputThere k b x d
  input-there base.Int x d a = record { fits = at-fits a; declares = ap input_base (mark-there a); name-is = at_byte a 2; depth_is = at_byte a 3 }
  input-there base.Bool x d a = record { fits = at-fits a; declares = ap input_base (mark-there a); name-is = at_byte a 2; depth_is = at_byte a 3 }

  input-same : (i : Input) (k : ℕ) → i.place ≡ k → InputThere k i.base i.name.0 i.depth → input_at t k i.base ≡ i
  input-same i k p w = λ j. record { place = sym p j; name = record { 0 = w.name-is j }; base = i.base; depth = w.depth_is j }

  input-length : (b : Base) (x d : ℕ) → length (input_record b x d) ≡ 4
  input-length base.Int x d = refl
  input-length base.Bool x d = refl

  input-fine : (k : ℕ) (d : Declared) → k + 4 ≤ length t → byte_at t (k + 2) ≤ last_variable → byte_at t (k + 3) ≤ most_depth → input_ok t k d ≡ d
  input-fine k d fits n m = rw (le-leb (k + 4) (length t) fits, le-leb (byte_at t (k + 2)) last_variable n, le-leb (byte_at t (k + 3)) most_depth m, input_ok)

  input-marked : (left k : ℕ) (b : Base) → input_base (mark_at t k) ≡ some b → inputs_at (suc left) t k ≡ input_ok t k (input_first (input_at t k b) (inputs_at left t (k + 4)))
  unfolding inputs_at
  input-marked left k b q = rw (q, inputs_at)

  one-more-input : (left k : ℕ) (i : Input) {is : List Input} {next : ℕ}
      → i.place ≡ k
      → At t k (input_record i.base i.name.0 i.depth)
      → Names i.name
      → i.depth ≤ most_depth
      → inputs_at left t (k + 4) ≡ declared is next
      → inputs_at (suc left) t k ≡ declared (i ∷ is) next
  one-more-input left k i {is} {next} p a n d q =
      let x = input-there i.base i.name.0 i.depth a in
      let same = input-same i k p x in
      input-marked left k i.base x.declares
      ∙ input-fine k _ x.fits (omega (arith, x.name-is, n)) (omega (arith, x.depth_is, d))
      ∙ (λ j. input_first (same j) (q j))

  spells-declares : {left k : ℕ} {bs : List ℕ} {is : List Input} → SpellsInputs left k bs is → At t k bs → input_base (mark_at t (k + length bs)) ≡ none
      → inputs_at left t k ≡ declared is (k + length bs)
  spells-declares {left} {k} inputs-none a q =
      let e : k + 0 ≡ k = omega arith in
      no-more-inputs left k (ap (λ j. input_base (mark_at t j)) (sym e) ∙ q) ∙ ap (declared []) (sym e)
  spells-declares {k = k} (inputs-more {left = left} {bs = bs} {rest = rest} {i = i} {is = is} p place n d h) a q =
      let head = input_record i.base i.name.0 i.depth in
      let all = subst (At t k) p a in
      let four = input-length i.base i.name.0 i.depth in
      let far : k + 4 + length rest ≡ k + length bs = omega (arith, ap length p, length-append head rest, four) in
      let behind : At t (k + 4) rest = subst (λ n. At t (k + n) rest) four (at_rest head rest all) in
      let below = spells-declares h behind (ap (λ j. input_base (mark_at t j)) far ∙ q) in
      one-more-input left k i place (at_first head rest all) n d (below ∙ ap (declared is) far)

  -- ---- inputs, to bytes

  record Declares (left k : ℕ) (is : List Input) (next : ℕ) : Type 0 where
    bytes : List ℕ
    spells : SpellsInputs left k bytes is
    stand : At t k bytes
    ends : next ≡ k + length bytes

  not-fine : (k : ℕ) (d : Declared) {is : List Input} {next : ℕ} → input_ok t k d ≡ declared is next
      → (k + 4 ≤ length t) × (byte_at t (k + 2) ≤ last_variable) × (byte_at t (k + 3) ≤ most_depth) × (d ≡ declared is next)
  not-fine k d {is} {next} = go (leb (k + 4) (length t)) refl (leb (byte_at t (k + 2)) last_variable) refl (leb (byte_at t (k + 3)) most_depth) refl
    where
      go : (a : Bool) → leb (k + 4) (length t) ≡ a → (b : Bool) → leb (byte_at t (k + 2)) last_variable ≡ b → (c : Bool) → leb (byte_at t (k + 3)) most_depth ≡ c
          → ◌≡◌ {A = Declared} (elim a [ true ↦ elim (b && c) [ true ↦ d | false ↦ Declared.refused (OverLimit k) ] | false ↦ Declared.refused (NoRecord k) ]) (declared is next)
          → (k + 4 ≤ length t) × (byte_at t (k + 2) ≤ last_variable) × (byte_at t (k + 3) ≤ most_depth) × (d ≡ declared is next)
      go true p true q true r e = (leb-true _ _ p, leb-true _ _ q, leb-true _ _ r, e)
      go true p true q false r e = never (cc)
      go true p false q c r e = never (cc)
      go false p b q c r e = never (cc)

  first-input : (i : Input) (d : Declared) {is : List Input} {next : ℕ} → input_first i d ≡ declared is next → (is' : List Input) × (d ≡ declared is' next) × (i ∷ is' ≡ is)
  first-input i (Declared.refused r) q = never (cc)
  first-input i (declared is' next') {is} {next} q =
      let e : next' ≡ next = cc in
      (is', ap (declared is') e, cc)

  input-bytes : Bytes t → (k : ℕ) → k + 4 ≤ length t → (b : Base) → input_base (mark_at t k) ≡ some b → At t k (input_record b (byte_at t (k + 2)) (byte_at t (k + 3)))
  input-bytes small k fits b q = go (eqb (mark_at t k) mark_in) refl (eqb (mark_at t k) mark_ib) refl q
    where
      int-there : eqb (mark_at t k) mark_in ≡ true → At t k (IN (byte_at t (k + 2)) (byte_at t (k + 3)))
      int-there m = with_two t small k fits (mark-bytes t k 73 78 mark_in small refl (omega arith) (omega arith) (eqb-true _ _ m))

      bool-there : eqb (mark_at t k) mark_ib ≡ true → At t k (IB (byte_at t (k + 2)) (byte_at t (k + 3)))
      bool-there m = with_two t small k fits (mark-bytes t k 73 66 mark_ib small refl (omega arith) (omega arith) (eqb-true _ _ m))

      go : (x : Bool) → eqb (mark_at t k) mark_in ≡ x → (y : Bool) → eqb (mark_at t k) mark_ib ≡ y
          → ◌≡◌ {A = Option Base} (elim x [ true ↦ some base.Int | false ↦ elim y [ true ↦ some base.Bool | false ↦ none ] ]) (some b)
          → At t k (input_record b (byte_at t (k + 2)) (byte_at t (k + 3)))
      go true m y n r = let e : base.Int ≡ b = cc in subst (λ b. At t k (input_record b (byte_at t (k + 2)) (byte_at t (k + 3)))) e (int-there m)
      go false m true n r = let e : base.Bool ≡ b = cc in subst (λ b. At t k (input_record b (byte_at t (k + 2)) (byte_at t (k + 3)))) e (bool-there n)
      go false m false n r = never (cc)

  declares-spell : Bytes t → (left k : ℕ) {is : List Input} {next : ℕ} → inputs_at left t k ≡ declared is next → Declares left k is next
  unfolding inputs_at
  declares-spell small zero k {is} {next} q = go (input_base (mark_at t k)) q
    where
      go : (o : Option Base) → ◌≡◌ {A = Declared} (elim o [ some b ↦ input_ok t k (Declared.refused (TooMany k)) | none ↦ declared [] k ]) (declared is next) → Declares zero k is next
      go (some b) r = let (p, n, d, e) = not-fine k (Declared.refused (TooMany k)) r in never (cc)
      go none r =
          let e : [] ≡ is = cc in
          let f : k ≡ next = cc in
          record { bytes = []; spells = subst (SpellsInputs zero k []) e inputs-none; stand = at_none; ends = omega arith }
  declares-spell small (suc left) k {is} {next} q = go (input_base (mark_at t k)) refl q (λ is' r. declares-spell small left (k + 4) r)
    where
      go : (o : Option Base) → input_base (mark_at t k) ≡ o
          → ◌≡◌ {A = Declared} (elim o [ some b ↦ input_ok t k (input_first (input_at t k b) (inputs_at left t (k + 4))) | none ↦ declared [] k ]) (declared is next)
          → ((is' : List Input) → inputs_at left t (k + 4) ≡ declared is' next → Declares left (k + 4) is' next)
          → Declares (suc left) k is next
      go (some b) m r below =
          let (fits, n, d, e) = not-fine k (input_first (input_at t k b) (inputs_at left t (k + 4))) r in
          let (is', p, s) = first-input (input_at t k b) (inputs_at left t (k + 4)) e in
          let w = below is' p in
          let head = input_record b (byte_at t (k + 2)) (byte_at t (k + 3)) in
          let four = input-length b (byte_at t (k + 2)) (byte_at t (k + 3)) in
          let here : At t k head = input-bytes small k fits b m in
          record {
            bytes = head ++ w.bytes;
            spells = subst (SpellsInputs (suc left) k (head ++ w.bytes)) s (inputs-more refl refl n d w.spells);
            stand = at_both head w.bytes here (subst (λ n. At t (k + n) w.bytes) (sym four) w.stand);
            ends = omega (arith, w.ends, length-append head w.bytes, four);
          }
      go none m r below =
          let e : [] ≡ is = cc in
          let f : k ≡ next = cc in
          record { bytes = []; spells = subst (SpellsInputs (suc left) k []) e inputs-none; stand = at_none; ends = omega arith }

  -- ---- texts

  abbrev text-test : ℕ → Bool
  text-test k = eqb (mark_at t k) mark_va && (leb (k + 4) (length t) && leb (k + 4 + (span_at t k).bytes) (length t))

  text-marked : (n k : ℕ) → text-test k ≡ true → texts_at (suc n) t k ≡ span_first (span_at t k) (texts_at n t (k + 4 + (span_at t k).bytes))
  unfolding texts_at
  text-marked n k q = rw (q, texts_at)

  part_at : (k n : ℕ) → k + n ≤ length t → At t k (take n (drop k t))
  part_at k n fits =
      let long : length (take n (drop k t)) ≡ n = length-take-le n (drop k t) (omega (arith, length-drop k t)) in
      record { bytes = sym (take-append-drop n (drop k t)) ∙ ap (λ l. take n (drop k t) ++ l) (drop-drop n k t ∙ ap (λ j. drop (k + j) t) (sym long)) }

  spells-texts : {k : ℕ} {bs : List ℕ} {ss : List Span} → SpellsTexts k bs ss → At t k bs → texts_at (length ss) t k ≡ texts ss (k + length bs)
  unfolding texts_at
  spells-texts {k} texts-none a = let e : k ≡ k + 0 = omega arith in ap (texts []) e
  spells-texts {k} (texts-more {a = a} {b = b} {bs = bs} {rest = rest} {s = s} {ss = ss} text p long start size h) stand =
      let head = ascii "VA" ++ a ∷ b ∷ [] in
      let all = subst (At t k) p stand in
      let first = at_first head (text ++ rest) all in
      let behind = at_rest head (text ++ rest) all in
      let low : byte_at t (k + 2) ≡ a = at_byte first 2 in
      let high : byte_at t (k + 3) ≡ b = at_byte first 3 in
      let bytes : (span_at t k).bytes ≡ length text = (λ i. low i + high i * 256) ∙ sym long in
      let fits = at-fits all in
      let four : k + 4 ≤ length t = at-fits first in
      let reach : k + 4 + (span_at t k).bytes ≤ length t = omega (arith, fits, bytes, length-append head (text ++ rest), length-append text rest) in
      let mark : eqb (mark_at t k) mark_va ≡ true = ap (λ m. eqb m mark_va) (mark-there first) in
      let test : text-test k ≡ true = λ i. mark i && (le-leb (k + 4) (length t) four i && le-leb (k + 4 + (span_at t k).bytes) (length t) reach i) in
      let same : span_at t k ≡ s = λ i. record { start = sym start i; bytes = (bytes ∙ sym size) i } in
      let far : k + 4 + length text + length rest ≡ k + length bs = omega (arith, ap length p, length-append head (text ++ rest), length-append text rest) in
      let below = spells-texts h (at_rest text rest behind) in
      text-marked (length ss) k test
      ∙ (λ i. span_first (same i) (texts_at (length ss) t (k + 4 + bytes i)))
      ∙ ap (span_first s) (below ∙ ap (texts ss) far)

  record Tells (k n : ℕ) (ss : List Span) (next : ℕ) : Type 0 where
    bytes : List ℕ
    spells : SpellsTexts k bytes ss
    stand : At t k bytes
    ends : next ≡ k + length bytes
    many : length ss ≡ n

  first-text : (s : Span) (x : Texts) {ss : List Span} {next : ℕ} → span_first s x ≡ texts ss next → (ss' : List Span) × (x ≡ texts ss' next) × (s ∷ ss' ≡ ss)
  first-text s (Texts.refused r) q = never (cc)
  first-text s (texts ss' next') {ss} {next} q =
      let e : next' ≡ next = cc in
      (ss', ap (texts ss') e, cc)

  texts-spell : Bytes t → (n k : ℕ) {ss : List Span} {next : ℕ} → texts_at n t k ≡ texts ss next → Tells k n ss next
  unfolding texts_at
  texts-spell small zero k {ss} {next} q =
      let e : [] ≡ ss = cc in
      let f : k ≡ next = cc in
      record { bytes = []; spells = subst (SpellsTexts k []) e texts-none; stand = at_none; ends = omega arith; many = ap length (sym e) }
  texts-spell small (suc n) k {ss} {next} q = go (text-test k) refl q (λ ss' r. texts-spell small n (k + 4 + (span_at t k).bytes) r)
    where
      go : (c : Bool) → text-test k ≡ c
          → ◌≡◌ {A = Texts} (elim c [ true ↦ span_first (span_at t k) (texts_at n t (k + 4 + (span_at t k).bytes)) | false ↦ Texts.refused (NoRecord k) ]) (texts ss next)
          → ((ss' : List Span) → texts_at n t (k + 4 + (span_at t k).bytes) ≡ texts ss' next → Tells (k + 4 + (span_at t k).bytes) n ss' next)
          → Tells k (suc n) ss next
      go false m r below = never (cc)
      go true m r below =
          let (mark, rest) = both_true (eqb (mark_at t k) mark_va) _ m in
          let (four, reach) = both_true (leb (k + 4) (length t)) _ rest in
          let size = (span_at t k).bytes in
          let fits : k + 4 + size ≤ length t = leb-true _ _ reach in
          let (ss', p, s) = first-text (span_at t k) (texts_at n t (k + 4 + size)) r in
          let w = below ss' p in
          let head = ascii "VA" ++ byte_at t (k + 2) ∷ byte_at t (k + 3) ∷ [] in
          let here : At t k head = with_two t small k (leb-true (k + 4) (length t) four) (mark-bytes t k 86 65 mark_va small refl (omega arith) (omega arith) (eqb-true _ _ mark)) in
          let text = take size (drop (k + 4) t) in
          let long : length text ≡ size = length-take-le size (drop (k + 4) t) (omega (arith, length-drop (k + 4) t)) in
          let far : k + 4 + size ≡ k + 4 + length text = ap (λ j. k + 4 + j) (sym long) in
          record {
            bytes = head ++ (text ++ w.bytes);
            spells = subst (SpellsTexts k (head ++ (text ++ w.bytes))) s (texts-more text refl long refl (sym long) (subst (λ j. SpellsTexts j w.bytes ss') far w.spells));
            stand = at_both head (text ++ w.bytes) here (at_both text w.bytes (part_at (k + 4) size fits) (subst (λ j. At t j w.bytes) far w.stand));
            ends = omega (arith, w.ends, long, length-append head (text ++ w.bytes), length-append text w.bytes);
            many = ap length (sym s) ∙ ap suc w.many;
          }

-- ---- a formula at the start of a text

at-start : {t : List ℕ} (xs rest : List ℕ) → t ≡ xs ++ rest → At t 0 xs
at-start {t} xs rest q =
    let far : 0 + length xs ≡ length xs = omega arith in
    let behind : drop (0 + length xs) t ≡ rest = ap (λ n. drop n t) far ∙ ap (drop (length xs)) q ∙ drop-append_seam xs rest in
    record { bytes = q ∙ ap (λ l. xs ++ l) (sym behind) }

module _ (t : List ℕ) {is : List Input} {k : ℕ} {e : Raw} {next : ℕ} where
  spells-front : {rest : List ℕ} → SpellsFront t is k e next rest → front_of t ≡ front is k e next
  unfolding front_of
  spells-front {rest} f =
      let ds = f.declared in
      let es = f.expression in
      let whole = at-start (ds ++ es) rest (f.parts ∙ sym (append_assoc ds es rest)) in
      let here : 0 + length ds ≡ k = omega (arith, f.starts) in
      let there : At t k es = subst (λ j. At t j es) here (at_rest ds es whole) in
      let quiet : input_base (mark_at t (0 + length ds)) ≡ none = ap (λ j. input_base (mark_at t j)) here ∙ expression-there f.spells there in
      let inputs : inputs_at most_inputs t 0 ≡ declared is k = spells-declares t f.inputs (at_first ds es whole) quiet ∙ ap (declared is) here in
      let scans = spells-scans t f.spells 0 there (omega (arith, f.few)) in
      rw (le-leb (length t) most_bytes f.short, front_of) (ap (inputs_then t) inputs ∙ ap (expression_after is k) scans ∙ ap (front is k e) (sym f.ends))

  front-spells : Bytes t → FrontRead t is k e next → SpellsFront t is k e next (drop next t)
  front-spells small r =
      let w = declares-spell t small most_inputs 0 r.inputs in
      let x = scans-spell t small (suc most_nesting) k 0 r.expression in
      let first : t ≡ w.bytes ++ drop k t = w.stand.bytes ∙ ap (λ n. w.bytes ++ drop n t) (sym w.ends) in
      let second : drop k t ≡ x.bytes ++ drop next t = x.stand.bytes ∙ ap (λ n. x.bytes ++ drop n t) (sym x.ends) in
      record {
        declared = w.bytes;
        expression = x.bytes;
        records = x.records;
        parts = first ∙ ap (λ l. w.bytes ++ l) second;
        short = r.short;
        inputs = w.spells;
        starts = omega (arith, w.ends);
        ends = x.ends;
        spells = x.spells;
        few = omega (arith, x.few, x.total);
      }

  -- where it ends
  front_ends : {rest : List ℕ} → SpellsFront t is k e next rest → length t ≡ next + length rest
  front_ends {rest} f =
      omega (arith, ap length f.parts, length-append f.declared (f.expression ++ rest), length-append f.expression rest, f.starts, f.ends)

  formula-spells : Bytes t → read_formula t ≡ front is k e next → SpellsFront t is k e next []
  formula-spells small q =
      let r = formula-read t q in
      subst (SpellsFront t is k e next) (ap (λ n. drop n t) r.end ∙ drop-length t) (front-spells small r.read)

  spells-formula : SpellsFront t is k e next [] → read_formula t ≡ front is k e next
  spells-formula f =
      let end : next ≡ length t = omega (arith, front_ends f) in
      ap (formula_end t) (spells-front f) ∙ rw (eq-eqb next (length t) end, formula_end)

  pub formula-exactly : Bytes t → (read_formula t ≡ front is k e next) ↔ SpellsFront t is k e next []
  formula-exactly small = (formula-spells small, spells-formula)

  -- the texts behind a job's formula
  job-texts : {ss : List Span} → read_job t ≡ job is k e next ss → texts_at (length is) t next ≡ texts ss (length t)
  job-texts {ss} q = fronts (front_of t) q
    where
      ends : (is' : List Input) (k' : ℕ) (e' : Raw) (next' end : ℕ) (ss' : List Span) (b : Bool) → texts_at (length is') t next' ≡ texts ss' end → eqb end (length t) ≡ b
          → ◌≡◌ {A = JobRead} (elim b [ true ↦ job is' k' e' next' ss' | false ↦ JobRead.refused (NoRecord end) ]) (job is k e next ss)
          → texts_at (length is) t next ≡ texts ss (length t)
      ends is' k' e' next' end ss' true x m r =
          let a : is' ≡ is = cc in
          let b : next' ≡ next = cc in
          let c : ss' ≡ ss = cc in
          let d = eqb-true end (length t) m in
          (λ i. texts_at (length (sym a i)) t (sym b i)) ∙ x ∙ (λ i. texts (c i) (d i))
      ends is' k' e' next' end ss' false x m r = never (cc)

      told : (is' : List Input) (k' : ℕ) (e' : Raw) (next' : ℕ) (x : Texts) → texts_at (length is') t next' ≡ x
          → texts_then t is' k' e' next' x ≡ job is k e next ss
          → texts_at (length is) t next ≡ texts ss (length t)
      told is' k' e' next' (Texts.refused r) x z = never (cc)
      told is' k' e' next' (texts ss' end) x z = ends is' k' e' next' end ss' (eqb end (length t)) x refl z

      fronts : (f : Front) → job_end t f ≡ job is k e next ss → texts_at (length is) t next ≡ texts ss (length t)
      fronts (Front.refused r) z = never (cc)
      fronts (front is' k' e' next') z = told is' k' e' next' (texts_at (length is') t next') refl z

  job-spells : {ss : List Span} → Bytes t → read_job t ≡ job is k e next ss → SpellsJob t is k e next ss
  job-spells {ss} small q =
      let w = texts-spell t small (length is) next (job-texts q) in
      let all : drop next t ≡ w.bytes = w.stand.bytes ∙ ap (λ n. w.bytes ++ drop n t) (sym w.ends) ∙ ap (λ l. w.bytes ++ l) (drop-length t) ∙ append-nil w.bytes in
      record { behind = drop next t; front = front-spells small (job_read t q); texts = subst (λ bs. SpellsTexts next bs ss) (sym all) w.spells; each-has-one = w.many }

  spells-job : {ss : List Span} → SpellsJob t is k e next ss → read_job t ≡ job is k e next ss
  spells-job {ss} j =
      let f = j.front in
      let ds = f.declared in
      let es = f.expression in
      let rest = j.behind in
      let ahead : length (ds ++ es) ≡ next = omega (arith, length-append ds es, f.starts, f.ends) in
      let whole : t ≡ (ds ++ es) ++ (rest ++ []) = f.parts ∙ sym (append_assoc ds es rest) ∙ ap (λ l. (ds ++ es) ++ l) (sym (append-nil rest)) in
      let here : 0 + length (ds ++ es) ≡ next = omega (arith, ahead) in
      let stand : At t next rest = subst (λ n. At t n rest) here (at_rest (ds ++ es) rest (at-start ((ds ++ es) ++ rest) [] (whole ∙ sym (append_assoc (ds ++ es) rest [])))) in
      let end : next + length rest ≡ length t = sym (front_ends f) in
      let told : texts_at (length is) t next ≡ texts ss (next + length rest) = ap (λ n. texts_at n t next) (sym j.each-has-one) ∙ spells-texts t j.texts stand in
      ap (job_end t) (spells-front f) ∙ ap (texts_then t is k e next) told ∙ rw (eq-eqb (next + length rest) (length t) end, texts_then)

  pub job-exactly : {ss : List Span} → Bytes t → (read_job t ≡ job is k e next ss) ↔ SpellsJob t is k e next ss
  job-exactly small = (job-spells small, spells-job)
