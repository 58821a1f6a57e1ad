-- A formula that was read and checked is ready for the walk, and what the walk writes is its listing.
use Prim.Native.Nat.{ℕ, zero, suc, ◌+◌, ◌-◌, ◌*◌, ◌≤◌, ◌<◌}
use native.Mathlib.Omega.{arith}
use mathlib.Core.Bool.{Bool, true, false}
use mathlib.Core.List.Memᴰ
use mathlib.Core.List.{List, [], ◌∷◌, ◌++◌}
use mathlib.Core.Logic.{⊎_elim}
use mathlib.Core.Path.{◌≡◌, refl, sym, ap, ◌∙◌, subst}
use borrow.Author.Tests.{le-leb, lt-leb}
use lib.Dec.{eqb}
use lib.ListN.{length, get_or, drop, length-append}
use lib.Seq.{sets, sets-eq}
use Rattle.snesl.specs.declared.limits.Formula.{Formula}
use Rattle.snesl.specs.declared.refusal.Refusal.{Refusal}
use Rattle.snesl.specs.declared.refusal.Refusal.TheVariants.{NoRecord, NoAnswerRoom}
use Rattle.snesl.specs.Limits.{most_inputs, most_depth}
use Rattle.snesl.specs.declared.code.Base.{Base}
use Rattle.snesl.specs.Values.{ValueType, depth_of}
use Rattle.snesl.specs.Terms.{All, ∅, ◌▹◌}
use Rattle.snesl.specs.Trees.{IdTree, order}
use Rattle.snesl.specs.Translation.{size, tree, code}
use Rattle.snesl.specs.Ids.{ids_of, Below}
use Rattle.snesl.specs.Records.{byte_at, Input, Raw, declared, input_at, inputs_at, Front, front, front_of, formula_end, read_formula}
use Rattle.snesl.specs.Checking.{Typed, typed, context, turned_onto, turned, input_type, input_types, input_names, check_formula}
use Rattle.snesl.specs.Inputs.{input_tree, input_trees, input_start}
use Rattle.snesl.specs.Listing as listing
use Rattle.snesl.specs.Listing.{lines_of, result_line, room_for, listed_typed, listed_front}
use Rattle.snesl.proofs.Types.{depth-of-type}
use Rattle.snesl.proofs.Compiled.Members.{◌∈◌}
use Rattle.snesl.proofs.Compiled.Freshness.{defined-next, result-ids}
use Rattle.snesl.proofs.Formed.{FrontRead, FormulaFormed, formula-read, formula-formed}
use Rattle.decimals.specs.Writing.{Writes}
use Rattle.decimals.proofs.Stores.{sets-none}
use Rattle.formula.specs.Reading.{formula_of}
use Rattle.checking.specs.declared.check.Judged.{Judged}
use Rattle.checking.specs.Checks.{judged_of, judge_front}
use Rattle.checking.proofs.Entering.{few}
use Rattle.environment.specs.Words.{spelled}
use Rattle.environment.specs.Needs.{words}
use Rattle.sink.specs.Sinks.{far}
use Rattle.leaves.specs.Places.{Shallow, shallow-none, shallow-more, shaped-none, most_words}
use Rattle.runner.proofs.Measures.{spans, shallow-type, words-most}
use Rattle.lister.specs.declared.inputs.Inputs.{Inputs}
use Rattle.std.specs.Prelude.{Result, Ok, Err}
use Rattle.lister.specs.Inputs.{places_in, Declares, Enters}
use Rattle.lister.specs.Lists.{whole_text, WholeReady, Found, listed_answer, text_after}
use Rattle.lister.proofs.Declaring.{first_of}
use Rattle.lister.proofs.Bare.{bare_inputs, inputs-bare, inputs_long, inputs-shaped}
use Rattle.lister.proofs.Short.{lines-short, result-short}

-- ---- the inputs

declared-shallow : (t : List ℕ) (k : ℕ) (b : Base) → byte_at t (k + 3) ≤ most_depth → depth_of (input_type (input_at t k b)) ≤ most_depth
declared-shallow t k b h = omega (arith, depth-of-type b (byte_at t (k + 3)))

inputs-shallow : (t : List ℕ) {Γ : List ValueType} (is : List Input) (n k : ℕ) {end : ℕ} → inputs_at n t k ≡ declared is end → Shallow Γ → Shallow (turned_onto Γ (input_types is))
inputs-shallow t [] n k e s = s
inputs-shallow t (i ∷ is) n k {end} e s =
    let f = first_of t k (omega arith) n e in
    let same : i ≡ input_at t k f.base = cc f.whole in
    let rest : is ≡ f.rest = cc f.whole in
    inputs-shallow t is (n - 1) (k + 4) (f.more ∙ ap (λ l. declared l end) (sym rest)) (shallow-more {τ = input_type i} (subst (λ (j : Input). depth_of (input_type j) ≤ most_depth) (sym same) (declared-shallow t k f.base f.depth)) s)

starts-small : (t : List ℕ) (is : List Input) (n k : ℕ) {end : ℕ} → inputs_at n t k ≡ declared is end → input_start (input_types is) ≤ 9 * length is
unfolding input_start
starts-small t [] n k e = omega arith
starts-small t (i ∷ is) n k {end} e =
    let f = first_of t k (omega arith) n e in
    let same : i ≡ input_at t k f.base = cc f.whole in
    let rest : is ≡ f.rest = cc f.whole in
    let more = starts-small t is (n - 1) (k + 4) (f.more ∙ ap (λ l. declared l end) (sym rest)) in
    let depth : depth_of (input_type i) ≤ most_depth = subst (λ (j : Input). depth_of (input_type j) ≤ most_depth) (sym same) (declared-shallow t k f.base f.depth) in
    omega arith

input-below : (s d : ℕ) {u : ℕ} → u ∈ order (input_tree s d) → u < s + suc d
unfolding order input_tree
input-below s zero m = let e = Memᴰ.eq_of_singleton m in omega arith
input-below s (suc d) {u} m =
    ⊎_elim (λ k. let l = input-below s d k in omega arith) (λ k. last (Memᴰ.eq_of_singleton k)) (Memᴰ.append_cases (order (input_tree s d)) m)
  where
    last : u ≡ s + suc d → u < s + suc (suc d)
    last e = omega arith

inputs-below : (s : ℕ) (τs : List ValueType) → Below (s + input_start τs) (ids_of (input_trees s τs))
unfolding ids_of input_trees input_start
inputs-below s [] u m = absurd (Memᴰ.not-nil m)
inputs-below s (τ ∷ τs) u m =
    ⊎_elim (λ k. let l = input-below s (depth_of τ) k in omega arith) (λ k. let l = inputs-below (s + suc (depth_of τ)) τs u k in omega arith)
    (Memᴰ.append_cases (order (input_tree s (depth_of τ))) m)

turned-below : {Γ τs : List ValueType} (n : ℕ) (δ : All IdTree Γ) (ts : All IdTree τs) → Below n (ids_of δ) → Below n (ids_of ts) → Below n (ids_of (turned δ ts))
unfolding turned ids_of
turned-below n δ ∅ a b = a
turned-below n δ (◌▹◌ {τ = τ} t ts) a b =
    turned-below n (◌▹◌ {τ = τ} t δ) ts (λ u m. ⊎_elim (λ k. b u (Memᴰ.append_left (ids_of ts) k)) (a u) (Memᴰ.append_cases (order t) m))
    (λ u m. b u (Memᴰ.append_right (order t) m))

-- ---- room

room : (text : List ℕ) (lent : ℕ) → length text ≤ lent → room_for lent text ≡ listing.listed text
room text lent h = subst (λ (b : Bool). ◌≡◌ {A = listing.Listed} (elim b [ true ↦ listing.listed text | false ↦ listing.unlisted (NoAnswerRoom (length text)) ]) (listing.listed text)) (sym (le-leb (length text) lent h)) refl

no_room : (text : List ℕ) (lent : ℕ) → lent < length text → room_for lent text ≡ listing.unlisted (NoAnswerRoom (length text))
no_room text lent h =
    subst (λ (b : Bool). ◌≡◌ {A = listing.Listed} (elim b [ true ↦ listing.listed text | false ↦ listing.unlisted (NoAnswerRoom (length text)) ]) (listing.unlisted (NoAnswerRoom (length text)))) (sym (lt-leb (length text) lent h)) refl

pub stored : (w old : List ℕ) → length w ≤ length old → sets old 0 w ≡ w ++ drop (length w) old
stored w old h =
    let z : 0 + length w ≡ length w = omega arith in
    sets-eq w old 0 (omega arith) ∙ ap (λ n. w ++ drop n old) z

-- ---- a formula that was found

module _ {t : List ℕ} {inputs k enough : ℕ} (g : Found t inputs k enough) where
  formed : FormulaFormed t g.all k g.term g.next
  formed = formula-formed t g.read g.checked

  front_of_lem : FrontRead t g.all k g.raw g.next
  front_of_lem = (formula-read t g.read).read

  number-few : inputs ≤ 16
  number-few = omega (arith, few t k most_inputs 0 g.all front_of_lem.inputs, g.number)

  abbrev trees : All IdTree (context g.all)
  trees = turned ∅ (input_trees 0 (input_types g.all))

  abbrev start : ℕ
  start = input_start (input_types g.all)

  shallow : Shallow (context g.all)
  shallow = inputs-shallow t g.all most_inputs 0 front_of_lem.inputs shallow-none

  below : Below start (ids_of trees)
  unfolding ids_of
  below =
      turned-below start ∅ (input_trees 0 (input_types g.all)) (λ u m. absurd (Memᴰ.not-nil m))
      (λ u m. let l = inputs-below 0 (input_types g.all) u m in omega arith)

  ids : start + size g.term < 4294967296
  ids =
      let a = starts-small t g.all most_inputs 0 front_of_lem.inputs in
      let b = spans formed.formed shallow in
      omega (arith, g.number, number-few, formed.within, formed.short, b.sized)

  -- the text is counted
  module _ (bytes : (i : ℕ) → get_or t i 0 < 256) where
    lines-most : length (lines_of start (code g.term trees start)) ≤ 458752000
    lines-most =
        let a = lines-short bytes formed.formed shallow trees start below ids in
        omega (arith, formed.within, formed.short)

    result-most : length (result_line (tree g.term trees start)) ≤ 224
    result-most =
        result-short (tree g.term trees start) (shallow-type formed.formed shallow)
        (λ u m. ⊎_elim (λ q. let l = below u q in let n = ids in omega arith) (λ q. let l = defined-next g.term trees start q in let n = ids in omega (arith, l.1)) (result-ids g.term trees start m))

    counted : length (whole_text g.term trees start) ≤ far
    counted =
        omega (arith, lines-most, result-most, length-append (lines_of start (code g.term trees start)) (result_line (tree g.term trees start)))

  pub declares : (env : List ℕ) → length env ≡ enough → length env ≤ 65536 → Declares t inputs env
  declares env l s =
      record {
        all = g.all;
        end = k;
        read = front_of_lem.inputs;
        number = g.number;
        room = omega (arith, g.room);
        small = s;
      }

  -- entered
  module _ (env : List ℕ) (l : length env ≡ enough) (few_words : length env ≤ 65536) {env₁ : List ℕ} {r : Inputs} (E : (h : Declares t inputs env) → Enters h env₁ r)
      (long : length env₁ ≡ length env) (bytes : (i : ℕ) → get_or t i 0 < 256) where
    entered : Enters (declares env l few_words) env₁ r
    entered = E (declares env l few_words)

    id-is : r.id ≡ start
    unfolding declares
    id-is = entered.id

    spells : drop r.sp env₁ ≡ spelled (turned ∅ (input_names g.all)) (places_in trees)
    unfolding declares
    spells = entered.spells

    pub whole_ready : (env₂ : List ℕ) → drop r.sp env₂ ≡ drop r.sp env₁ → length env₂ ≡ length env₁ → WholeReady t k env₂ r.sp r.id
    whole_ready env₂ same long₂ =
        record {
          context = context g.all;
          names = turned ∅ (input_names g.all);
          trees = trees;
          type = g.type;
          term = g.term;
          next = g.next;
          formed = formed.formed;
          store = bare_inputs (input_types g.all);
          bare = inputs-bare (input_types g.all);
          number = inputs_long (input_types g.all) ∙ sym id-is;
          spells = same ∙ spells;
          shaped = inputs-shaped [] ∅ shaped-none 0 refl (input_types g.all);
          shallow = shallow;
          within = omega (arith, entered.within, long, long₂);
          space = omega (arith, g.room, entered.room);
          small = omega (arith, long, long₂);
          short = formed.short;
          few =
              let a = starts-small t g.all most_inputs 0 front_of_lem.inputs in
              omega (arith, id-is, g.number, number-few, formed.short);
          near = subst (λ n. length (whole_text g.term trees n) ≤ far) (sym id-is) (counted bytes);
        }

    -- measured on an empty slice
    module _ {last : List ℕ} (env₂ : List ℕ) {needed : ℕ}
        (W : (h : WholeReady t k env₁ r.sp r.id)
        → Writes [] last 0 (whole_text h.term h.trees r.id) needed × (drop r.sp env₂ ≡ drop r.sp env₁)) where
      measured : Writes [] last 0 (whole_text g.term trees r.id) needed × (drop r.sp env₂ ≡ drop r.sp env₁)
      unfolding whole_ready
      measured = W (whole_ready env₁ refl refl)

      pub kept : drop r.sp env₂ ≡ drop r.sp env₁
      kept = measured.1

      needs : needed ≡ length (whole_text g.term trees start)
      needs = measured.0.count ∙ (ap (λ n. 0 + length (whole_text g.term trees n)) id-is ∙ omega arith)

      nothing : last ≡ []
      nothing = measured.0.content ∙ sets-none 0 (whole_text g.term trees r.id)

      -- what the definition lists
      listing-is : (lent : ℕ) → listing.listing lent t ≡ room_for lent (whole_text g.term trees start)
      listing-is lent = ap (listed_front lent) g.read ∙ ap (listed_typed lent g.all) g.checked

      -- the empty part has come back to the slice
      back : (old : List ℕ) → last ++ old ≡ old
      back old = ap (λ l. l ++ old) nothing

      pub unlisted : (old : List ℕ) → length (last ++ old) < needed
          → (Err (NoAnswerRoom needed) ≡ listed_answer (listing.listing (length old) t)) × (last ++ old ≡ text_after old (listing.listing (length old) t))
      unlisted old h =
          let none : listing.listing (length old) t ≡ listing.unlisted (NoAnswerRoom (length (whole_text g.term trees start))) =
          listing-is (length old) ∙ no_room (whole_text g.term trees start) (length old) (omega (arith, needs, ap length (back old))) in
          (ap (λ n. Err (NoAnswerRoom n)) needs ∙ ap listed_answer (sym none), back old ∙ ap (text_after old) (sym none))

      -- written
      pub listed : (old : List ℕ) {new : List ℕ} (env₃ : List ℕ) {end : ℕ} → needed ≤ length (last ++ old)
          → ((h : WholeReady t k env₂ r.sp r.id) → Writes (last ++ old) new 0 (whole_text h.term h.trees r.id) end × (drop r.sp env₃ ≡ drop r.sp env₂))
          → length env₂ ≡ length env₁
          → (Ok needed ≡ listed_answer (listing.listing (length old) t)) × (new ≡ text_after old (listing.listing (length old) t))
      unfolding whole_ready
      listed old env₃ h F same =
          let some : listing.listing (length old) t ≡ listing.listed (whole_text g.term trees start) =
          listing-is (length old) ∙ room (whole_text g.term trees start) (length old) (omega (arith, needs, ap length (back old))) in
          let w = (F (whole_ready env₂ kept same)).0 in (
            ap Ok needs ∙ ap listed_answer (sym some),
            w.content
                ∙ (ap (λ l. sets l 0 (whole_text g.term trees r.id)) (back old)
                ∙ (ap (λ n. sets old 0 (whole_text g.term trees n)) id-is
                ∙ (stored (whole_text g.term trees start) old (omega (arith, needs, ap length (back old))) ∙ ap (text_after old) (sym some)))),
          )

-- ---- what `read_formula` and `check_front` answered

module _ (t : List ℕ) where
  -- a formula that is read as a whole is judged as the front of its bytes
  judged-read : {f : Formula} → Ok f ≡ formula_of (read_formula t) → judge_front (front_of t) ≡ judge_front (read_formula t)
  judged-read {f} = go (front_of t)
    where
      last : (is : List Input) (k : ℕ) (e : Raw) (next : ℕ) (b : Bool)
          → Ok f ≡ formula_of (elim b [ true ↦ front is k e next | false ↦ Front.refused (NoRecord next) ])
          → judge_front (front is k e next) ≡ judge_front (elim b [ true ↦ front is k e next | false ↦ Front.refused (NoRecord next) ])
      last is k e next true q = refl
      last is k e next false q = let z : ◌≡◌ {A = ℕ} 0 1 = cc in absurd (omega arith)

      go : (x : Front) → Ok f ≡ formula_of (formula_end t x) → judge_front x ≡ judge_front (formula_end t x)
      go (Front.refused r) q = refl
      go (front is k e next) q = last is k e next (eqb next (length t)) q

  -- what was found: the words that its walk takes are told, and with its inputs' they are no more than the most
  pub found : {j : Judged} {f : Formula} → Ok f ≡ formula_of (read_formula t) → Ok j ≡ judge_front (front_of t)
      → Found t f.inputs f.expression (j.words + 29 * f.inputs) × (j.words + 29 * f.inputs ≤ most_words)
  found {j} {f} b a = go (read_formula t) refl b (a ∙ judged-read b)
    where
      typings : (is : List Input) {k : ℕ} {e : Raw} {next : ℕ} (c : Typed (context is)) → read_formula t ≡ front is k e next → check_formula is e ≡ c
          → ◌≡◌ {A = Result Formula Refusal} (Ok f) (Ok (record { inputs = length is; expression = k; end = next }))
          → ◌≡◌ {A = Result Judged Refusal} (Ok j) (judged_of c)
          → Found t f.inputs f.expression (j.words + 29 * f.inputs) × (j.words + 29 * f.inputs ≤ most_words)
      typings is (Typed.refused q) r c b a = let z : ◌≡◌ {A = ℕ} 0 1 = cc in absurd (omega arith)
      typings is {k} {e} {next} (typed τ e') r q b a =
          let same : f ≡ record { inputs = length is; expression = k; end = next } = cc in
          let told : words e' ≡ j.words = cc in
          let g : Found t (length is) k (j.words + 29 * length is) =
          record { all = is; raw = e; next = next; type = τ; term = e'; read = r; checked = q; number = refl; room = omega (arith, told) } in
          let most = words-most (formed g).formed (shallow g) in
          subst (λ (u : Formula). Found t u.inputs u.expression (j.words + 29 * u.inputs) × (j.words + 29 * u.inputs ≤ most_words)) (sym same)
          (g, omega (arith, told, most, number-few g))

      go : (u : Front) → read_formula t ≡ u → Ok f ≡ formula_of u → Ok j ≡ judge_front u
          → Found t f.inputs f.expression (j.words + 29 * f.inputs) × (j.words + 29 * f.inputs ≤ most_words)
      go (Front.refused q) r b a = let z : ◌≡◌ {A = ℕ} 0 1 = cc in absurd (omega arith)
      go (front is k e next) r b a = typings is (check_formula is e) r refl b a

-- a longer stack
abbrev pub widened : {t : List ℕ} {inputs k m n : ℕ} → m ≤ n → Found t inputs k m → Found t inputs k n
widened le g =
    record {
      all = g.all;
      raw = g.raw;
      next = g.next;
      type = g.type;
      term = g.term;
      read = g.read;
      checked = g.checked;
      number = g.number;
      room = omega (arith, le, g.room);
    }
