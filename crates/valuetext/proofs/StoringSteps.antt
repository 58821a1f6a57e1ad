-- From what the readers answer to the two passes of text to streams, and from these to the whole.
use Prim.Native.Nat.{ℕ, zero, suc, ◌+◌, ◌≤◌, ◌<◌, ◌^◌, min}
use mathlib.Core.Bool.{Bool, true, false}
use mathlib.Core.List.{List, [], ◌∷◌, ◌++◌, map}
use mathlib.Core.Option.{Option, some, none}
use mathlib.Core.Path.{◌≡◌, refl, sym, ap, ap₂, ◌∙◌}
use native.Mathlib.Numerals.{add-one}
use native.Mathlib.Omega.{arith}
use borrow.Author.Tests.{le-leb, leb-true, le-ltb, eq-eqb, ne_eqb, eqb-true}
use lib.Dec.{leb, eqb}
use lib.IntN.{ℤ}
use lib.ListN.{length, get_or, take, drop, replicate, length-take}
use lib.Seq.{sets, sets-eq, take-take, take_at}
use Rattle.snesl.specs.declared.code.Base.{Base}
use Rattle.snesl.specs.declared.refusal.Refusal.{Refusal}
use Rattle.snesl.specs.Values.{Val, type_of}
use Rattle.snesl.specs.Streams.{Store, len, contents, room}
use Rattle.snesl.specs.Machine.{sum_of}
use Rattle.snesl.specs.Text.{read_value, value_of}
use Rattle.snesl.specs.Limits.{most_depth, most_elements}
use Rattle.decimals.specs.Numbers.{pick}
use Rattle.valuetext.specs.Laying.{lay}
use Rattle.levels.specs.Counts.{total_of}
use Rattle.valuetext.specs.Reading.{Ready, measuring, filling, Laid, ReadAs, read_no, read-bytes}
use Rattle.valuetext.specs.Storing.{value_store, value_store_if, text_elements, measured_if, measured, counts_if, counts_after, Fillable, Conversion, accepted, to_streams}
use Rattle.std.specs.Option.{ok_or}
use Rattle.valuetext.specs.declared.storing.Unmeasured.{Unmeasured}
use Rattle.valuetext.specs.declared.storing.Unmeasured.TheVariants.{Over}
use Rattle.std.specs.Prelude.{Option as RustOption, Some, None, Result, Ok, Err}
use Rattle.laws.proofs.Options.{some_pair}
use Rattle.levels.proofs.Counting.{sum_less}
use Rattle.snesl.specs.Representation.{represent}
use Rattle.snesl.proofs.Types.{depth-of-type}
use Rattle.valuetext.proofs.Represented.{order-length, counted, lens-total, lens-length, placed, Placed, lay-placed, apart-placed}

-- ---- a text and its value

module _ (β : Base) (d : ℕ) (t : List ℕ) where
  pub value_none : read_value (type_of β d) t ≡ none → value_of (type_of β d) t ≡ none
  value_none e = rw e

  whole : (v : Val (type_of β d)) (k : ℕ) → read_value (type_of β d) t ≡ some (v, k) → value_of (type_of β d) t ≡ pick (eqb k (length t)) (some v) none
  whole v k e = rw e (go (eqb k (length t)))
    where
      go : (b : Bool) → ◌≡◌ {A = Option (Val (type_of β d))} (elim b [ true ↦ some v | false ↦ none ]) (pick b (some v) none)
      go true = refl
      go false = refl

  pub value-short : (v : Val (type_of β d)) (k : ℕ) → read_value (type_of β d) t ≡ some (v, k) → (k ≡ length t → ⊥) → value_of (type_of β d) t ≡ none
  value-short v k e h = whole v k e ∙ ap (λ (b : Bool). pick b (some v) none) (ne_eqb k (length t) h)

  pub value-some : (v : Val (type_of β d)) (k : ℕ) → read_value (type_of β d) t ≡ some (v, k) → k ≡ length t → value_of (type_of β d) t ≡ some v
  value-some v k e h = whole v k e ∙ ap (λ (b : Bool). pick b (some v) none) (eq-eqb k (length t) h)

  pub value_read : (v : Val (type_of β d)) → value_of (type_of β d) t ≡ some v → read_value (type_of β d) t ≡ some (v, length t)
  value_read v e = go (read_value (type_of β d) t) refl
    where
      deep : (w : Val (type_of β d)) (k : ℕ) (b : Bool) → eqb k (length t) ≡ b → pick b (some w) none ≡ some v → (w ≡ v) × (k ≡ length t)
      deep w k true q e' = let p : w ≡ v = cc in (p, eqb-true k (length t) q)
      deep w k false q e' = cc

      go : (o : Option (Val (type_of β d) × ℕ)) → read_value (type_of β d) t ≡ o → read_value (type_of β d) t ≡ some (v, length t)
      go none h = cc (value_none h)
      go (some r) h =
          let (p, q) = deep r.0 r.1 (eqb r.1 (length t)) refl (sym (whole r.0 r.1 h) ∙ e) in
          h ∙ (λ i. some (p i, q i))

-- ---- measuring

zeros : (n i : ℕ) → ◌≡◌ {A = ℕ} (get_or (replicate n 0) i 0) 0
zeros zero i = refl
zeros (suc n) zero = refl
zeros (suc n) (suc i) = zeros n i

pub measure-ready : (β : Base) (d : ℕ) (t : List ℕ) → d ≤ most_depth → length t < 2 ^ 64 → Ready β d t [] (replicate 9 0)
measure-ready β d t h l =
    record { levels = omega arith; counts = λ i k. omega (arith, zeros 9 i); clear = measuring refl }

module _ (β : Base) (d : ℕ) (t : List ℕ) (counts : List ℕ) where
  -- a text that is read to its end, counted
  module _ {b' : List ℤ} {cs' : List ℕ} {n : ℕ} (l : Laid β d t [] b' (replicate 9 0) cs' n) (h : d ≤ most_depth) (e : n ≡ length t) where
    found : value_of (type_of β d) t ≡ some l.value
    found = value-some β d t l.value n l.reads e

    lens : take (d + 1) cs' ≡ map len (value_store (type_of β d) l.value)
    lens =
        ap (λ (k : ℕ). take k cs') (add-one d)
        ∙ ap (take (suc d)) l.cursors
        ∙ counted β d (replicate 9 0) (l.value ∷ []) (omega arith) (zeros 9)

    total : sum_of (take (d + 1) cs') ≡ room (value_store (type_of β d) l.value)
    total = ap sum_of lens ∙ lens-total β d (l.value ∷ [])

    pub kept : {counts' : List ℕ} → counts' ≡ take (d + 1) cs' ++ drop (length (take (d + 1) cs')) counts → counts' ≡ counts_after β d t counts
    kept c =
        c
        ∙ ap₂ (λ (x : List ℕ) (k : ℕ). x ++ drop k counts) lens (ap length lens ∙ lens-length β d (l.value ∷ []))
        ∙ ap (λ (o : Option (Val (type_of β d))). counts_if β d o counts) (sym found)

    pub measured_as : ok_or (total_of (take (d + 1) cs') most_elements) Over ≡ measured (type_of β d) t
    measured_as = rw (found, total) (go (leb (room (value_store (type_of β d) l.value)) most_elements) (room (value_store (type_of β d) l.value)))
      where
        go : (b : Bool) (n : ℕ) → ◌≡◌ {A = Result ℕ Unmeasured} (ok_or (pick b (Some n) None) Over) (pick b (Ok n) (Err Over))
        go true n = refl
        go false n = refl

-- ---- filling

module _ {β : Base} {d : ℕ} {t counts : List ℕ} {start lent : ℕ} (f : Fillable β d t counts start lent) where
  counted-length : suc d ≤ length counts
  counted-length = omega (arith, ap length f.counted, length-take (suc d) counts, lens-length β d (f.value ∷ []))

  sum_room : sum_of (take (d + 1) counts) ≡ room (value_store (type_of β d) f.value)
  sum_room = ap (λ (k : ℕ). sum_of (take k counts)) (add-one d) ∙ ap sum_of f.counted ∙ lens-total β d (f.value ∷ [])

  pub front-length : d + 1 ≡ length (take (d + 1) counts)
  front-length = omega (arith, counted-length, length-take (d + 1) counts)

  pub fill-starts : lent < 2 ^ 61 → ((d + 1 ≤ length counts) × (d + 1 ≤ 9)) × (start + sum_of (take (d + 1) counts) < 2 ^ 64)
  fill-starts h = ((omega (arith, counted-length), omega (arith, f.shallow)), omega (arith, sum_room, f.room_for))

  module _ (cs : List ℕ) (starts : (i : ℕ) → i < length (take (d + 1) counts) → get_or cs i 0 ≡ start + sum_of (take i (take (d + 1) counts))) where
    p : (i : ℕ) → i < d + 1 → get_or cs i 0 ≡ start + sum_of (take i counts)
    p i h = starts i (omega (arith, front-length)) ∙ ap (λ (x : List ℕ). start + sum_of x) (take-take i (d + 1) counts (omega arith))

    in_place : Placed β d start cs (f.value ∷ [])
    in_place =
        placed β d start cs (f.value ∷ [])
        (λ i h.
        p i (omega arith)
        ∙ ap (λ (x : List ℕ). start + sum_of x) (sym (take-take i (suc d) counts (omega arith)) ∙ ap (take i) f.counted))

    at_most : (i : ℕ) → i ≤ d → get_or cs i 0 ≤ start + room (value_store (type_of β d) f.value)
    at_most i h = omega (arith, p i (omega arith), sum_less i (d + 1) counts (omega arith), sum_room)

    pub fill-ready : {b : List ℤ} → length cs ≡ 9 → length t < 2 ^ 63 → lent < 2 ^ 61 → Ready β d t b cs
    fill-ready l k h =
        record {
          levels = omega (arith, f.shallow);
          counts = λ i j. omega (arith, at_most i j, f.room_for);
          clear = filling (value_read β d t f.value f.reads) (apart-placed β d start cs (f.value ∷ []) in_place);
        }

    pub filled : {b b' : List ℤ} {cs' : List ℕ} {r : RustOption ℕ} → ReadAs β d t b b' cs cs' r → b' ≡ sets b start (text_elements (type_of β d) t)
    filled (read_no e) = cc (value_read β d t f.value f.reads)
    filled {b} {b'} (read-bytes l) =
        let same : l.value ≡ f.value = (some_pair _ _ _ _ (sym l.reads ∙ value_read β d t f.value f.reads)).0 in
        l.content
        ∙ ap (λ (v : Val (type_of β d)). lay β d b cs (v ∷ [])) same
        ∙ lay-placed β d start b cs (f.value ∷ []) in_place
        ∙ ap (λ (o : Option (Val (type_of β d))). sets b start (contents (value_store_if (type_of β d) o))) (sym f.reads)

-- ---- the whole

-- what was measured, and found few enough
pub record Sized (β : Base) (d : ℕ) (t : List ℕ) (n : ℕ) : Type 0 where
  pub value : Val (type_of β d)
  pub reads : value_of (type_of β d) t ≡ some value
  pub size : n ≡ room (value_store (type_of β d) value)
  pub few : n ≤ most_elements

pub sized : (β : Base) (d : ℕ) (t : List ℕ) (n : ℕ) → Ok n ≡ measured (type_of β d) t → Sized β d t n
sized β d t n e = go (value_of (type_of β d) t) refl e
  where
    deep : (v : Val (type_of β d)) → value_of (type_of β d) t ≡ some v → (b : Bool) → leb (room (value_store (type_of β d) v)) most_elements ≡ b
        → Ok n ≡ pick b (Ok (room (value_store (type_of β d) v))) (Err Over) → Sized β d t n
    deep v h true q e' =
        let p : n ≡ room (value_store (type_of β d) v) = cc in
        record { value = v; reads = h; size = p; few = omega (arith, leb-true (room (value_store (type_of β d) v)) most_elements q) }
    deep v h false q e' = cc

    go : (o : Option (Val (type_of β d))) → value_of (type_of β d) t ≡ o → Ok n ≡ measured_if (type_of β d) o → Sized β d t n
    go none h e' = cc
    go (some v) h e' = deep v h (leb (room (value_store (type_of β d) v)) most_elements) refl e'

-- the counts of what was measured
pub counts_of_lem : (β : Base) (d : ℕ) (t : List ℕ) {n : ℕ} (e : Ok n ≡ measured (type_of β d) t) (c₀ : List ℕ)
    → counts_after β d t c₀ ≡ map len (value_store (type_of β d) (sized β d t n e).value) ++ drop (suc d) c₀
counts_of_lem β d t {n} e c₀ = ap (λ (o : Option (Val (type_of β d))). counts_if β d o c₀) (sized β d t n e).reads

-- what a conversion answers and leaves is what the definition says
pub record Outcome (t : List ℕ) (β : Base) (d : ℕ) (es : List ℤ) (ls : List ℕ) (r : Result ℕ Refusal) (es' : List ℤ) (ls' : List ℕ) : Type 0 where
  pub meets : (r ≡ (to_streams t β d es ls).answer) × ((es' ≡ (to_streams t β d es ls).elements) × (ls' ≡ (to_streams t β d es ls).lengths))

module _ (t : List ℕ) (β : Base) (d : ℕ) (es : List ℤ) (ls : List ℕ) where
  module _ (h : d ≤ most_depth) {n : ℕ} (e : Ok n ≡ measured (type_of β d) t) where
    abbrev known : Sized β d t n
    known = sized β d t n e

    abbrev σ : Store
    σ = value_store (type_of β d) known.value

    front : {counts : List ℕ} (c₀ : List ℕ) → counts ≡ counts_after β d t c₀ → take (suc d) counts ≡ map len σ
    front c₀ q = ap (take (suc d)) (q ∙ counts_of_lem β d t e c₀) ∙ take_at (map len σ) (drop (suc d) c₀) (suc d) (lens-length β d (known.value ∷ []))

    -- so its streams have room
    pub fillable : {counts : List ℕ} (c₀ : List ℕ) → counts ≡ counts_after β d t c₀ → n ≤ length es → Fillable β d t counts 0 (length es)
    fillable c₀ q l =
        record {
          value = known.value;
          reads = known.reads;
          shallow = h;
          counted = front c₀ q;
          room_for = omega (arith, known.size);
        }

    module _ (l : n ≤ length es) (k : d + 1 ≤ length ls) where
      taken : to_streams t β d es ls ≡ accepted σ es ls
      taken =
          let fits : leb (room σ) (min (length es) most_elements) ≡ true = le-leb (room σ) (min (length es) most_elements) (omega (arith, known.size, known.few)) in
          let places : leb (suc d) (length ls) ≡ true = le-leb (suc d) (length ls) (omega arith) in
          rw (known.reads, le-ltb most_depth d h, fits, places) refl

      pub elements-stored : sets es 0 (text_elements (type_of β d) t) ≡ (to_streams t β d es ls).elements
      elements-stored =
          let z : 0 + room σ ≡ room σ = omega arith in
          ap (λ (o : Option (Val (type_of β d))). sets es 0 (contents (value_store_if (type_of β d) o))) known.reads
          ∙ sets-eq (contents σ) es 0 (omega (arith, known.size))
          ∙ ap (λ (m : ℕ). contents σ ++ drop m es) z
          ∙ sym (ap (λ (c : Conversion). c.elements) taken)

    -- the number, the streams and their lengths
    pub stored : {es' : List ℤ} {ls' counts : List ℕ} (c₀ : List ℕ) → counts ≡ counts_after β d t c₀ → n ≤ length es → d + 1 ≤ length ls
        → es' ≡ sets es 0 (text_elements (type_of β d) t)
        → ls' ≡ take (d + 1) counts ++ drop (d + 1) ls
        → Outcome t β d es ls (Ok n) es' ls'
    stored {es'} {ls'} {counts} c₀ q l k w r =
        let deep : suc d ≡ length σ = sym (order-length (represent (type_of β d) (known.value ∷ [])) ∙ ap suc (depth-of-type β d)) in
        record {
          meets = (
            ap Ok known.size ∙ sym (ap (λ (c : Conversion). c.answer) (taken l k)),
            (
              w ∙ elements-stored l k,
              r
                  ∙ ap (λ (m : ℕ). take m counts ++ drop m ls) (add-one d)
                  ∙ ap₂ (λ (x : List ℕ) (m : ℕ). x ++ drop m ls) (front c₀ q) deep
                  ∙ sym (ap (λ (c : Conversion). c.lengths) (taken l k)),
            ),
          );
        }
