-- The finder's walk over the VA records: each one that a job has is passed, or is the part that is asked for, which lies within the job.
use Prim.Native.Nat.{ℕ, zero, suc, ◌+◌, ◌-◌, ◌≤◌, ◌<◌}
use mathlib.Core.Bool.{Bool, true, false, ◌&&◌}
use mathlib.Core.List.{List, [], ◌∷◌}
use mathlib.Core.Path.{◌≡◌, refl, sym, ap, ap₂, subst, ◌∙◌}
use native.Mathlib.Omega.{arith}
use lib.Dec.{eqb, leb}
use lib.ListN.{length, take, drop}
use borrow.Author.Tests.{leb-true}
use Rattle.std.specs.Result.{result_ok}
use Rattle.std.specs.Prelude.{Option, Some, None, Result, Ok, Err}
use Rattle.snesl.specs.declared.refusal.Refusal.{Refusal}
use Rattle.snesl.specs.declared.refusal.Refusal.TheVariants.{NoRecord}
use Rattle.snesl.specs.declared.limits.Job.{Job}
use Rattle.snesl.specs.Finder as finder
use Rattle.snesl.specs.Records as records
use Rattle.snesl.specs.Records.{mark_at, mark_va, Span, span_at, span_first, texts_at, texts, Front, front, texts_then, job_end, front_of, read_job}
use Rattle.finder.specs.declared.find.Part.{Part}
use Rattle.finder.specs.Parts.{Held, part_from, nowhere, part_among, located_in, located}
use Rattle.formula.specs.Reading.{text_at, job_of}
use Rattle.records.proofs.Heads.{and_second}

-- the first of some texts that are read
record First (t : List ℕ) (m k : ℕ) (ss : List Span) (end : ℕ) : Type 0 where
  rest : List Span
  spans : ss ≡ span_at t k ∷ rest
  read : texts_at m t (k + 4 + (span_at t k).bytes) ≡ texts rest end
  is : text_at t k ≡ Some (k + 4 + (span_at t k).bytes)
  fits : k + 4 + (span_at t k).bytes ≤ length t

module _ (t : List ℕ) where
  first : (m k : ℕ) (ss : List Span) (end : ℕ) → texts_at (suc m) t k ≡ texts ss end → First t m k ss end
  unfolding texts_at text_at
  first m k ss end e = go (eqb (mark_at t k) mark_va && (leb (k + 4) (length t) && leb (k + 4 + (span_at t k).bytes) (length t))) refl e
    where
      more :
          (x : records.Texts) → texts_at m t (k + 4 + (span_at t k).bytes) ≡ x → span_first (span_at t k) x ≡ texts ss end
          → (r : List Span) × (ss ≡ span_at t k ∷ r) × (texts_at m t (k + 4 + (span_at t k).bytes) ≡ texts r end)
      more (records.refused r) p q = let z : ◌≡◌ {A = ℕ} 0 1 = cc in absurd (omega arith)
      more (texts r end') p q = (r, cc, cc)

      go :
          (b : Bool)
          → (eqb (mark_at t k) mark_va && (leb (k + 4) (length t) && leb (k + 4 + (span_at t k).bytes) (length t))) ≡ b
          → elim b [ true ↦ span_first (span_at t k) (texts_at m t (k + 4 + (span_at t k).bytes)) | false ↦ records.refused (NoRecord k) ] ≡ texts ss end
          → First t m k ss end
      go true p q =
          let r = more (texts_at m t (k + 4 + (span_at t k).bytes)) refl q in
          record {
            rest = r.0;
            spans = r.1;
            read = r.2;
            is = rw (p, text_at);
            fits =
                leb-true (k + 4 + (span_at t k).bytes) (length t)
                (and_second (leb (k + 4) (length t)) _ (and_second (eqb (mark_at t k) mark_va) _ p));
          }
      go false p q = let z : ◌≡◌ {A = ℕ} 0 1 = cc in absurd (omega arith)

  -- the first of more than i texts, and the others
  record Next (i k : ℕ) : Type 0 where
    is : text_at t k ≡ Some (k + 4 + (span_at t k).bytes)
    fits : k + 4 + (span_at t k).bytes ≤ length t
    others : 0 < i → Held t (i - 1) (k + 4 + (span_at t k).bytes)

  next : {i k : ℕ} → Held t i k → Next i k
  next {i} {k} h = go h.inputs h.enough h.read
    where
      go : (n : ℕ) → i < n → texts_at n t k ≡ texts h.spans h.end → Next i k
      go zero l e = absurd (omega arith)
      go (suc m) l e =
          let f = first m k h.spans h.end e in
          record {
            is = f.is;
            fits = f.fits;
            others = λ p. record { inputs = m; spans = f.rest; end = h.end; enough = omega arith; read = f.read };
          }

  -- `done` texts are passed by before the i-th, and the next one is at k
  pub record Parting (i from done k : ℕ) : Type 0 where
    pub held : Held t (i - done) k
    pub same : part_from i t from ≡ part_from (i - done) t k

  part-on : (left k : ℕ) → 0 < left → part_from left t k ≡ part_from (left - 1) t (k + 4 + (span_at t k).bytes)
  unfolding part_from
  part-on zero k h = absurd (omega arith)
  part-on (suc l) k h =
      let e : l ≡ suc l - 1 = omega arith in
      ap (λ z. part_from z t (k + 4 + (span_at t k).bytes)) e

  module _ {i from done k : ℕ} (p : Parting i from done k) {o : Option ℕ} (q : o ≡ text_at t k) where
    ahead : {n : ℕ} → o ≡ Some n → n ≡ k + 4 + (span_at t k).bytes
    ahead e = cc (next p.held).is

    pub never : o ≡ None → ⊥
    never e = let z : ◌≡◌ {A = ℕ} 0 1 = cc (next p.held).is in omega arith

    pub turn : {n : ℕ} → o ≡ Some n → done < i → Parting i from (done + 1) n
    turn {n} e h =
        let less : i - done - 1 ≡ i - (done + 1) = omega arith in
        record {
          held = subst (λ z. Held t z n) less (subst (Held t (i - done - 1)) (sym (ahead e)) ((next p.held).others (omega arith)));
          same =
              p.same
              ∙ (part-on (i - done) k (omega arith) ∙ (ap (part_from (i - done - 1) t) (sym (ahead e)) ∙ ap (λ z. part_from z t n) less));
        }

    pub within : {n : ℕ} → o ≡ Some n → (k + 4 ≤ n) × (n ≤ length t)
    within e = (omega (arith, ahead e), omega (arith, ahead e, (next p.held).fits))

    pub passed : {n : ℕ} → o ≡ Some n → i ≤ done → record { start = k + 4; bytes = n - (k + 4) } ≡ part_from i t from
    unfolding part_from
    passed {n} e h =
        let m : n - (k + 4) ≡ (span_at t k).bytes = omega (arith, ahead e) in
        let z : 0 ≡ i - done = omega arith in
        ap (λ m. record { start = k + 4; bytes = m }) m ∙ (ap (λ m. part_from m t k) z ∙ sym p.same)

  -- the same of the list of all texts
  parts :
      (n k : ℕ) (ss : List Span) (end : ℕ) → texts_at n t k ≡ texts ss end
      → (i : ℕ) → (i < n → part_among i ss ≡ part_from i t k) × (n ≤ i → part_among i ss ≡ nowhere)
  unfolding part_among part_from texts_at
  parts zero k ss end e i =
      let q : ss ≡ [] = cc in
      (λ h. absurd (omega arith), λ h. ap (part_among i) q)
  parts (suc m) k ss end e i =
      let f = first m k ss end e in
      go f i (parts m (k + 4 + (span_at t k).bytes) f.rest end f.read)
    where
      go :
          (f : First t m k ss end) (i : ℕ)
          → ((i : ℕ)
          → (i < m → part_among i f.rest ≡ part_from i t (k + 4 + (span_at t k).bytes)) × (m ≤ i → part_among i f.rest ≡ nowhere))
          → (i < suc m → part_among i ss ≡ part_from i t k) × (suc m ≤ i → part_among i ss ≡ nowhere)
      go f zero r = (λ h. ap (part_among zero) f.spans, λ h. absurd (omega arith))
      go f (suc j) r =
          (λ h. ap (part_among (suc j)) f.spans ∙ (r j).0 (omega arith), λ h. ap (part_among (suc j)) f.spans ∙ (r j).1 (omega arith))

  -- a job that is read, and its texts
  record Supplied (j : Job) : Type 0 where
    spans : List Span
    end : ℕ
    read : texts_at j.formula.inputs t j.formula.end ≡ texts spans end
    finds : (i : ℕ) → located i t ≡ part_among i spans

  supplied : (j : Job) → Ok j ≡ job_of t (read_job t) → Supplied j
  supplied j e = go (front_of t) refl e
    where
      all :
          (is : List records.Input) (k : ℕ) (r : records.Raw) (n : ℕ) → front_of t ≡ front is k r n
          → (x : records.Texts) → texts_at (length is) t n ≡ x → Ok j ≡ job_of t (texts_then t is k r n x) → Supplied j
      all is k r n p (records.refused f) q w = let z : ◌≡◌ {A = ℕ} 0 1 = cc in absurd (omega arith)
      all is k r n p (texts ss end) q w = last (eqb end (length t)) refl w
        where
          last :
              (b : Bool) → eqb end (length t) ≡ b
              → Ok j ≡ job_of t (elim b [ true ↦ records.job is k r n ss | false ↦ records.refused (NoRecord end) ])
              → Supplied j
          last true u v =
              let whole : texts_then t is k r n (texts ss end) ≡ records.job is k r n ss = rw (u, texts_then) in
              let same : j ≡ record { formula = record { inputs = length is; expression = k; end = n }; end = length t } = cc in
              record {
                spans = ss;
                end = end;
                read =
                    ap₂ (λ a b. texts_at a t b) (ap (λ (z : Job). z.formula.inputs) same) (ap (λ (z : Job). z.formula.end) same) ∙ q;
                finds = λ i. ap (located_in i) (ap (job_end t) p ∙ (ap (texts_then t is k r n) q ∙ whole));
              }
          last false u v = let z : ◌≡◌ {A = ℕ} 0 1 = cc in absurd (omega arith)

      go : (f : Front) → front_of t ≡ f → Ok j ≡ job_of t (job_end t f) → Supplied j
      go (records.refused r) p w = let z : ◌≡◌ {A = ℕ} 0 1 = cc in absurd (omega arith)
      go (front is k r n) p w = all is k r n p (texts_at (length is) t n) refl w

  module _ {j : Job} (p : Ok j ≡ job_of t (read_job t)) (i : ℕ) where
    pub present : i < j.formula.inputs → Held t i j.formula.end
    present h =
        let s = supplied j p in
        record { inputs = j.formula.inputs; spans = s.spans; end = s.end; enough = h; read = s.read }

    pub found : i < j.formula.inputs → part_from i t j.formula.end ≡ located i t
    found h =
        let s = supplied j p in
        sym (s.finds i ∙ (parts j.formula.inputs j.formula.end s.spans s.end s.read i).0 h)

    pub missing : j.formula.inputs ≤ i → nowhere ≡ located i t
    missing h =
        let s = supplied j p in
        sym (s.finds i ∙ (parts j.formula.inputs j.formula.end s.spans s.end s.read i).1 h)

  -- as `ok` tells it of what was read
  pub read-is : {r : Result Job Refusal} {o : Option Job} {j : Job} → r ≡ job_of t (read_job t) → o ≡ result_ok r → o ≡ Some j → Ok j ≡ job_of t (read_job t)
  read-is {r} {o} {j} p q e = go r q ∙ p
    where
      go : (r : Result Job Refusal) → o ≡ result_ok r → Ok j ≡ r
      go (Ok k) q = cc
      go (Err f) q = cc

  pub refused : (r : Refusal) → Err r ≡ job_of t (read_job t) → (i : ℕ) → nowhere ≡ located i t
  refused r e i = go (read_job t) e
    where
      go : (x : records.JobRead) → Err r ≡ job_of t x → nowhere ≡ located_in i x
      go (records.refused f) e = refl
      go (records.job is k f n ss) e = let z : ◌≡◌ {A = ℕ} 0 1 = cc in absurd (omega arith)

  -- ---- the part that is located

  -- each text that was read lies within the job
  among-within : (n k : ℕ) (ss : List Span) (end : ℕ) → texts_at n t k ≡ texts ss end → (i : ℕ)
      → (part_among i ss).start + (part_among i ss).bytes ≤ length t
  unfolding part_among texts_at
  among-within zero k ss end e i =
      let q : ss ≡ [] = cc in
      rw q (omega arith)
  among-within (suc m) k ss end e i =
      let f = first m k ss end e in
      go f i (among-within m (k + 4 + (span_at t k).bytes) f.rest end f.read)
    where
      go : (f : First t m k ss end) (i : ℕ) → ((i : ℕ) → (part_among i f.rest).start + (part_among i f.rest).bytes ≤ length t)
          → (part_among i ss).start + (part_among i ss).bytes ≤ length t
      go f zero r = rw f.spans (omega (arith, f.fits))
      go f (suc j) r = rw f.spans (r j)

  located-within : (i : ℕ) → (located i t).start + (located i t).bytes ≤ length t
  located-within i = go (job_of t (read_job t)) refl
    where
      inside : (p : Part) → p ≡ located i t → p.start + p.bytes ≤ length t → (located i t).start + (located i t).bytes ≤ length t
      inside p e h = subst (λ (p : Part). p.start + p.bytes ≤ length t) e h

      go : (x : Result Job Refusal) → x ≡ job_of t (read_job t) → (located i t).start + (located i t).bytes ≤ length t
      go (Err r) e = inside nowhere (refused r e i) (omega arith)
      go (Ok j) e =
          let s = supplied j e in
          inside
          (part_among i s.spans)
          (sym (s.finds i))
          (among-within j.formula.inputs j.formula.end s.spans s.end s.read i)

  among-found : (i : ℕ) (ss : List Span) → finder.part_of t i ss ≡ take (part_among i ss).bytes (drop (part_among i ss).start t)
  unfolding finder.part_of part_among
  among-found i [] = refl
  among-found zero (s ∷ ss) = refl
  among-found (suc i) (s ∷ ss) = among-found i ss

  -- the finder's part of a job is what stands where it is located
  pub find-located : (i : ℕ) → finder.find i t ≡ take (located i t).bytes (drop (located i t).start t)
  find-located i = go (read_job t)
    where
      go : (x : records.JobRead) → finder.part_in t i x ≡ take (located_in i x).bytes (drop (located_in i x).start t)
      go (records.refused r) = refl
      go (records.job is k e next ss) = among-found i ss

  module _ (i : ℕ) {p : Part} (e : p ≡ located i t) where
    pub within-job : p.start + p.bytes ≤ length t
    within-job = subst (λ (p : Part). p.start + p.bytes ≤ length t) (sym e) (located-within i)

    pub finds : take (p.start + p.bytes - p.start) (drop p.start t) ≡ finder.find i t
    finds =
        let same : p.start + p.bytes - p.start ≡ p.bytes = omega arith in
        ap (λ m. take m (drop p.start t)) same
        ∙ ap (λ (p : Part). take p.bytes (drop p.start t)) e
        ∙ sym (find-located i)
