-- Scanning an expression: it reads exactly the bytes that spell one, within the limits of nesting and of records.
use Prim.Native.Nat.{ℕ, zero, suc, ◌+◌, ◌≤◌, ◌<◌}
use native.Mathlib.Omega.{arith}
use mathlib.Core.Bool.{Bool, true, false}
use mathlib.Core.List.{List, ◌++◌}
use mathlib.Core.Path.{◌≡◌, refl, sym, ap, ◌∙◌, subst, transport}
use borrow.Author.Tests.{ltb-true, lt-ltb}
use lib.Dec.{ltb}
use lib.ListN.{length, length-append, length-map}
use Rattle.laws.proofs.Never.{never}
use Rattle.snesl.specs.declared.code.Operation.{Operation}
use Rattle.snesl.specs.declared.code.Operation.TheVariants.{Plus, LessEqual, Equal}
use Rattle.snesl.specs.declared.code.Variable.{Variable}
use Rattle.snesl.specs.declared.refusal.Refusal.TheVariants.{NoRecord, OverLimit, TooMany}
use Rattle.snesl.specs.Notation.{LT, EA, GU}
use Rattle.snesl.specs.Limits.{most_records, most_listed}
use Rattle.snesl.specs.Values.{Each}
use Rattle.snesl.specs.Records as raw
use Rattle.snesl.specs.Records.{Raw, Head, absent, over, single, letting, eaching, guarding, head_at, Scanned, scanned, then_scan, too_deep, counted, scan}
use Rattle.rules.specs.Grammar.{Names, Bytes, truth_record, operation_record, Spells, spells-var, spells-let, spells-const, spells-truth, spells-iota, spells-operation, spells-negation, spells-sum, spells-each, spells-guard}
use Rattle.rules.proofs.Reading.Places.{At, at_first, at_rest, at_both}
use Rattle.rules.proofs.Reading.Heads.{letters, var-there, let-there, const-there, truth-there, iota-there, operation-there, negation-there, sum-there, each-there, guard-there, Heads, heads-absent}
use Rattle.rules.proofs.Reading.Heads.{heads-over, heads-var, heads-let, heads-const, heads-truth, heads-iota, heads-operation, heads-negation, heads-sum, heads-each, heads-guard, heading}

-- what `scan` does with the record at k
abbrev scan_head : (levels : ℕ) → List ℕ → (k n : ℕ) → Head → Scanned
scan_head levels t k n h =
    elim h [
      | absent ↦ Scanned.refused (NoRecord k)
      | over ↦ Scanned.refused (OverLimit k)
      | single e b ↦ counted k n (scanned e (k + b) (n + 1))
      | letting x ↦
          counted k n
          (then_scan (scan levels t (k + 3) (n + 1))
          (λ e₁ k₁ n₁. then_scan (scan levels t k₁ n₁) (λ e₂ k₂ n₂. scanned (raw.bind k x e₁ e₂) k₂ n₂)))
      | eaching x y us b ↦ counted k n (then_scan (scan levels t (k + b) (n + 1)) (λ e k₁ n₁. scanned (raw.each k x y us e) k₁ n₁))
      | guarding g us b ↦ counted k n (then_scan (scan levels t (k + b) (n + 1)) (λ e k₁ n₁. scanned (raw.guard k g us e) k₁ n₁))
    ]

scan-at : (levels : ℕ) (t : List ℕ) (k n : ℕ) → scan (suc levels) t k n ≡ scan_head levels t k n (head_at t k)
unfolding scan
scan-at levels t k n = refl

scan-head : (levels : ℕ) (t : List ℕ) (k n : ℕ) {h : Head} → head_at t k ≡ h → scan (suc levels) t k n ≡ scan_head levels t k n h
scan-head levels t k n q = scan-at levels t k n ∙ ap (scan_head levels t k n) q

counts : (k n : ℕ) (s : Scanned) → n < most_records → counted k n s ≡ s
counts k n s h = rw (lt-ltb n most_records h, counted)

moved : {s : Scanned} {e : Raw} {k k' n n' : ℕ} → s ≡ scanned e k n → k ≡ k' → n ≡ n' → s ≡ scanned e k' n'
moved {e = e} q p r = q ∙ (λ i. scanned e (p i) (r i))

pub truth-length : (c : Bool) → length (truth_record c) ≡ 3
truth-length false = refl
truth-length true = refl

pub operation-length : (o : Operation) (x y : ℕ) → length (operation_record o x y) ≡ 4
operation-length Plus x y = refl
operation-length LessEqual x y = refl
operation-length Equal x y = refl

-- ---- from bytes

module _ (t : List ℕ) where
  single-scans : (l k n : ℕ) {e : Raw} {b : ℕ} → head_at t k ≡ single e b → n + 1 ≤ most_records → scan (suc l) t k n ≡ scanned e (k + b) (n + 1)
  single-scans l k n h few = scan-head l t k n h ∙ counts k n _ (omega arith)

  let-scans : (l k n : ℕ) {x : Variable} {e₁ e₂ : Raw} {k₁ n₁ k₂ n₂ : ℕ}
      → head_at t k ≡ letting x
      → n < most_records
      → scan l t (k + 3) (n + 1) ≡ scanned e₁ k₁ n₁
      → scan l t k₁ n₁ ≡ scanned e₂ k₂ n₂
      → scan (suc l) t k n ≡ scanned (raw.bind k x e₁ e₂) k₂ n₂
  let-scans l k n {x} {e₁} {e₂} {k₁} {n₁} h few p q =
      let second : Raw → ℕ → ℕ → Scanned = λ e₁ k₁ n₁. then_scan (scan l t k₁ n₁) (λ e₂ k₂ n₂. scanned (raw.bind k x e₁ e₂) k₂ n₂) in
      scan-head l t k n h ∙ counts k n _ few ∙ ap (λ s. then_scan s second) p ∙ ap (λ s. then_scan s (λ e₂ k₂ n₂. scanned (raw.bind k x e₁ e₂) k₂ n₂)) q

  each-scans : (l k n : ℕ) {x y : Variable} {us : List Variable} {b : ℕ} {e : Raw} {k₁ n₁ : ℕ}
      → head_at t k ≡ eaching x y us b
      → n < most_records
      → scan l t (k + b) (n + 1) ≡ scanned e k₁ n₁
      → scan (suc l) t k n ≡ scanned (raw.each k x y us e) k₁ n₁
  each-scans l k n {x} {y} {us} h few p = scan-head l t k n h ∙ counts k n _ few ∙ ap (λ s. then_scan s (λ e k₁ n₁. scanned (raw.each k x y us e) k₁ n₁)) p

  guard-scans : (l k n : ℕ) {g : Variable} {us : List Variable} {b : ℕ} {e : Raw} {k₁ n₁ : ℕ}
      → head_at t k ≡ guarding g us b
      → n < most_records
      → scan l t (k + b) (n + 1) ≡ scanned e k₁ n₁
      → scan (suc l) t k n ≡ scanned (raw.guard k g us e) k₁ n₁
  guard-scans l k n {g} {us} h few p = scan-head l t k n h ∙ counts k n _ few ∙ ap (λ s. then_scan s (λ e k₁ n₁. scanned (raw.guard k g us e) k₁ n₁)) p

  pub spells-scans : {l k : ℕ} {bs : List ℕ} {e : Raw} {r : ℕ} → Spells l k bs e r → (n : ℕ) → At t k bs → n + r ≤ most_records → scan l t k n ≡ scanned e (k + length bs) (n + r)
  spells-scans (spells-var {l = l} {k = k} q nx) n a few =
      moved (single-scans l k n (var-there (subst (At t k) q a) nx) few) (ap (λ bs. k + length bs) (sym q)) refl
  spells-scans (spells-let {l = l} {k = k} {n₁ = n₁} {n₂ = n₂} {bs₁ = bs₁} {bs₂ = bs₂} {x = x} q nx h₁ h₂ r) n a few =
      let all = subst (At t k) q a in
      let first = at_first (LT x.0) (bs₁ ++ bs₂) all in
      let rest = at_rest (LT x.0) (bs₁ ++ bs₂) all in
      let one = spells-scans h₁ (n + 1) (at_first bs₁ bs₂ rest) (omega arith) in
      let two = spells-scans h₂ (n + 1 + n₁) (at_rest bs₁ bs₂ rest) (omega arith) in
      moved (let-scans l k n (let-there first nx) (omega arith) one two)
      (omega (arith, ap length q, length-append (LT x.0) (bs₁ ++ bs₂), length-append bs₁ bs₂)) (omega arith)
  spells-scans (spells-const {l = l} {k = k} q z) n a few =
      moved (single-scans l k n (const-there (subst (At t k) q a) z) few) (ap (λ bs. k + length bs) (sym q)) refl
  spells-scans (spells-iota {l = l} {k = k} q nx) n a few =
      moved (single-scans l k n (iota-there (subst (At t k) q a) nx) few) (ap (λ bs. k + length bs) (sym q)) refl
  spells-scans (spells-truth {l = l} {k = k} {c = c} q) n a few =
      moved (single-scans l k n (truth-there c (subst (At t k) q a)) few) (ap (λ m. k + m) (sym (truth-length c) ∙ ap length (sym q))) refl
  spells-scans (spells-operation {l = l} {k = k} {o = o} {x = x} {y = y} q nx ny) n a few =
      moved (single-scans l k n (operation-there o (subst (At t k) q a) nx ny) few) (ap (λ m. k + m) (sym (operation-length o x.0 y.0) ∙ ap length (sym q))) refl
  spells-scans (spells-negation {l = l} {k = k} q nx) n a few =
      moved (single-scans l k n (negation-there (subst (At t k) q a) nx) few) (ap (λ bs. k + length bs) (sym q)) refl
  spells-scans (spells-guard {l = l} {k = k} {bs₁ = bs₁} {g = g} {us = us} q ng ns short h r) n a few =
      let head = GU g.0 (letters us) in
      let all = subst (At t k) q a in
      let long : length head ≡ 4 + length us = omega (arith, length-map us (λ u. u.0)) in
      let rest = subst (λ j. At t (k + j) bs₁) long (at_rest head bs₁ all) in
      moved (guard-scans l k n (guard-there (at_first head bs₁ all) ng ns short) (omega arith) (spells-scans h (n + 1) rest (omega arith)))
      (omega (arith, ap length q, length-append head bs₁, long)) (omega arith)
  spells-scans (spells-sum {l = l} {k = k} q nx) n a few =
      moved (single-scans l k n (sum-there (subst (At t k) q a) nx) few) (ap (λ bs. k + length bs) (sym q)) refl
  spells-scans (spells-each {l = l} {k = k} {bs₁ = bs₁} {x = x} {y = y} {us = us} q nx ny ns short h r) n a few =
      let head = EA x.0 y.0 (letters us) in
      let all = subst (At t k) q a in
      let long : length head ≡ 5 + length us = omega (arith, length-map us (λ u. u.0)) in
      let rest = subst (λ j. At t (k + j) bs₁) long (at_rest head bs₁ all) in
      moved (each-scans l k n (each-there (at_first head bs₁ all) nx ny ns short) (omega arith) (spells-scans h (n + 1) rest (omega arith)))
      (omega (arith, ap length q, length-append head bs₁, long)) (omega arith)

-- ---- to bytes

pub record Read (t : List ℕ) (levels k n : ℕ) (e : Raw) (next m : ℕ) : Type 0 where
  pub bytes : List ℕ
  pub records : ℕ
  pub stand : At t k bytes
  pub spells : Spells levels k bytes e records
  pub ends : next ≡ k + length bytes
  pub total : m ≡ n + records
  pub few : m ≤ most_records

-- a record that was counted
uncounted : (k n : ℕ) (s : Scanned) {e : Raw} {next m : ℕ} → counted k n s ≡ scanned e next m → (n < most_records) × (s ≡ scanned e next m)
uncounted k n s {e} {next} {m} = go (ltb n most_records) refl
  where
    go : (b : Bool) → ltb n most_records ≡ b → ◌≡◌ {A = Scanned} (elim b [ true ↦ s | false ↦ Scanned.refused (TooMany k) ]) (scanned e next m) → (n < most_records) × (s ≡ scanned e next m)
    go true e q = (ltb-true n most_records e, q)
    go false e q = never (cc)

-- a scan that went on behind another
after : (s : Scanned) (f : Raw → ℕ → ℕ → Scanned) {e : Raw} {next m : ℕ}
    → then_scan s f ≡ scanned e next m
    → (e₁ : Raw) × (k₁ : ℕ) × (n₁ : ℕ) × (s ≡ scanned e₁ k₁ n₁) × (f e₁ k₁ n₁ ≡ scanned e next m)
after (Scanned.refused r) f q = never (cc)
after (scanned e₁ k₁ n₁) f q = (e₁, k₁, n₁, refl, q)

too-deep : {X : Type 0} (k : ℕ) (h : Head) {e : Raw} {next m : ℕ} → too_deep k h ≡ scanned e next m → X
too-deep k absent q = never (cc)
too-deep k over q = never (cc)
too-deep k (single f b) q = never (cc)
too-deep k (letting x) q = never (cc)
too-deep k (eaching x y us b) q = never (cc)
too-deep k (guarding g us b) q = never (cc)

scan-zero : (t : List ℕ) (k n : ℕ) → scan zero t k n ≡ too_deep k (head_at t k)
unfolding scan
scan-zero t k n = refl

module _ {t : List ℕ} {k n : ℕ} where
  read-single : (l : ℕ) {f e : Raw} {b next m : ℕ} (bs : List ℕ) → At t k bs → length bs ≡ b → Spells (suc l) k bs f 1
      → counted k n (scanned f (k + b) (n + 1)) ≡ scanned e next m
      → Read t (suc l) k n e next m
  read-single l {f} {e} {b} {next} {m} bs a long h q =
      let (few, r) = uncounted k n _ q in
      let same : f ≡ e = cc in
      let ends : k + b ≡ next = cc in
      let total : n + 1 ≡ m = cc in
      record { bytes = bs; records = 1; stand = a; spells = subst (λ e. Spells (suc l) k bs e 1) same h; ends = omega arith; total = sym total; few = omega arith }

  read-let : (l : ℕ) {x : Variable} {e₁ e₂ : Raw} {k₁ n₁ k₂ n₂ : ℕ} → At t k (LT x.0) → Names x
      → Read t l (k + 3) (n + 1) e₁ k₁ n₁
      → Read t l k₁ n₁ e₂ k₂ n₂
      → Read t (suc l) k n (raw.bind k x e₁ e₂) k₂ n₂
  read-let l {x} {e₁} {e₂} {k₁} {n₁} a nx r₁ r₂ =
      let bs₁ = r₁.bytes in
      let bs₂ = r₂.bytes in
      let second = subst (λ j. At t j bs₂) r₁.ends r₂.stand in
      record {
        bytes = LT x.0 ++ (bs₁ ++ bs₂);
        records = 1 + (r₁.records + r₂.records);
        stand = at_both (LT x.0) (bs₁ ++ bs₂) a (at_both bs₁ bs₂ r₁.stand second);
        spells = spells-let refl nx r₁.spells (subst (λ j. Spells l j bs₂ e₂ r₂.records) r₁.ends r₂.spells) refl;
        ends = omega (arith, r₂.ends, r₁.ends, length-append (LT x.0) (bs₁ ++ bs₂), length-append bs₁ bs₂);
        total = omega (arith, r₂.total, r₁.total);
        few = r₂.few;
      }

  read-each : (l : ℕ) {x y : Variable} {us : List Variable} {e : Raw} {k₁ n₁ : ℕ} → At t k (EA x.0 y.0 (letters us)) → Names x → Names y → Each Names us → length us ≤ most_listed
      → Read t l (k + (5 + length us)) (n + 1) e k₁ n₁
      → Read t (suc l) k n (raw.each k x y us e) k₁ n₁
  read-each l {x} {y} {us} a nx ny ns short r =
      let bs = r.bytes in
      let head = EA x.0 y.0 (letters us) in
      let long : length head ≡ 5 + length us = omega (arith, length-map us (λ u. u.0)) in
      record {
        bytes = head ++ bs;
        records = 1 + r.records;
        stand = at_both head bs a (subst (λ j. At t (k + j) bs) (sym long) r.stand);
        spells = spells-each refl nx ny ns short r.spells refl;
        ends = omega (arith, r.ends, length-append head bs, long);
        total = omega (arith, r.total);
        few = r.few;
      }

  read-guard : (l : ℕ) {g : Variable} {us : List Variable} {e : Raw} {k₁ n₁ : ℕ} → At t k (GU g.0 (letters us)) → Names g → Each Names us → length us ≤ most_listed
      → Read t l (k + (4 + length us)) (n + 1) e k₁ n₁
      → Read t (suc l) k n (raw.guard k g us e) k₁ n₁
  read-guard l {g} {us} a ng ns short r =
      let bs = r.bytes in
      let head = GU g.0 (letters us) in
      let long : length head ≡ 4 + length us = omega (arith, length-map us (λ u. u.0)) in
      record {
        bytes = head ++ bs;
        records = 1 + r.records;
        stand = at_both head bs a (subst (λ j. At t (k + j) bs) (sym long) r.stand);
        spells = spells-guard refl ng ns short r.spells refl;
        ends = omega (arith, r.ends, length-append head bs, long);
        total = omega (arith, r.total);
        few = r.few;
      }

-- what is read at every place
record Reads (t : List ℕ) (levels : ℕ) : Type 0 where
  reads : (k n : ℕ) {e : Raw} {next m : ℕ} → scan levels t k n ≡ scanned e next m → Read t levels k n e next m

module _ {t : List ℕ} {l k n : ℕ} (below : Reads t l) {e : Raw} {next m : ℕ} where
  renamed : {f : Raw} {j i : ℕ} → scanned f j i ≡ scanned e next m → Read t (suc l) k n f j i → Read t (suc l) k n e next m
  renamed {f} {j} {i} q r =
      let p : f ≡ e = cc in
      let p₁ : j ≡ next = cc in
      let p₂ : i ≡ m = cc in
      transport (λ z. Read t (suc l) k n (p z) (p₁ z) (p₂ z)) r

  read_head : {h : Head} → Heads t k h → scan_head l t k n h ≡ scanned e next m → Read t (suc l) k n e next m
  read_head heads-absent q = never (cc)
  read_head heads-over q = never (cc)
  read_head (heads-var a nx) q = read-single l _ a refl (spells-var refl nx) q
  read_head (heads-const a z) q = read-single l _ a refl (spells-const refl z) q
  read_head (heads-iota a nx) q = read-single l _ a refl (spells-iota refl nx) q
  read_head (heads-truth {c = c} a) q = read-single l _ a (truth-length c) (spells-truth refl) q
  read_head (heads-operation {o = o} {x = x} {y = y} a nx ny) q = read-single l _ a (operation-length o x.0 y.0) (spells-operation refl nx ny) q
  read_head (heads-negation a nx) q = read-single l _ a refl (spells-negation refl nx) q
  read_head (heads-guard {us = us} a ng ns short) q =
      let (few, r) = uncounted k n _ q in
      let (e₁, k₁, n₁, p, s) = after (scan l t (k + (4 + length us)) (n + 1)) _ r in
      renamed s (read-guard l a ng ns short (below.reads (k + (4 + length us)) (n + 1) p))
  read_head (heads-sum a nx) q = read-single l _ a refl (spells-sum refl nx) q
  read_head (heads-let {x = x} a nx) q =
      let (few, r) = uncounted k n _ q in
      let (e₁, k₁, n₁, p, s) = after (scan l t (k + 3) (n + 1)) _ r in
      let (e₂, k₂, n₂, p₂, s₂) = after (scan l t k₁ n₁) _ s in
      renamed s₂ (read-let l a nx (below.reads (k + 3) (n + 1) p) (below.reads k₁ n₁ p₂))
  read_head (heads-each {us = us} a nx ny ns short) q =
      let (few, r) = uncounted k n _ q in
      let (e₁, k₁, n₁, p, s) = after (scan l t (k + (5 + length us)) (n + 1)) _ r in
      renamed s (read-each l a nx ny ns short (below.reads (k + (5 + length us)) (n + 1) p))

reading : (t : List ℕ) → Bytes t → (levels : ℕ) → Reads t levels
reading t small zero = record { reads = λ k n q. too-deep k (head_at t k) (sym (scan-zero t k n) ∙ q) }
reading t small (suc l) =
    let below = reading t small l in
    record { reads = λ k n q. read_head below (heading t small k) (sym (scan-at l t k n) ∙ q) }

pub scans-spell : (t : List ℕ) → Bytes t → (levels k n : ℕ) {e : Raw} {next m : ℕ} → scan levels t k n ≡ scanned e next m → Read t levels k n e next m
scans-spell t small levels k n q = (reading t small levels).reads k n q
