-- A survey of a body keeps what its WithCtrl takes in, where there is room for as many ids as its environment names: these are ascending, each once, and no others
-- are used from before the body. So the line that is then written is the one of its code.
use Prim.Native.Nat.{ℕ, suc, ◌+◌, ◌≤◌, ◌<◌}
use native.Mathlib.Omega.{arith}
use native.Mathlib.Decide.{dec_lt}
use mathlib.Core.Bool.{Bool, true, false}
use mathlib.Core.List.Memᴰ
use mathlib.Core.List.{List, [], ◌∷◌}
use mathlib.Core.Logic.{◌⊎◌, inl, inr, ⊎_elim}
use mathlib.Core.Path.{◌≡◌, refl, sym, ap, ◌∙◌, subst}
use borrow.Author.Tests.{lt-ltb, le-ltb, eqb-true}
use lib.Dec.{ltb, eqb}
use lib.ListN.{length}
use Rattle.snesl.specs.Values.{ValueType}
use Rattle.snesl.specs.Terms.{Term, All}
use Rattle.snesl.specs.Trees.{Tree, IdTree, order}
use Rattle.snesl.specs.Programs.{Program, count, dv, fv, insert, among, member, ascending, Within}
use Rattle.snesl.specs.Translation.{size, tree, code}
use Rattle.snesl.specs.Ids.{ids_of, Below}
use Rattle.snesl.proofs.Compiled.Members.{◌∈◌, ◌∉◌, known, of-insert, to-insert, of-among, to-among, of-ascending, to-ascending, Ascends, ascending-ascends}
use Rattle.snesl.proofs.Compiled.Freshness.{count_code}
use Rattle.snesl.proofs.Compiled.Ascending.{ascends_same, ascending-same}
use Rattle.sink.specs.declared.state.Mode.TheVariants.{Listing, Surveying}
use Rattle.sink.specs.Sinks.{Sink, mark, mark_all, take_in, opened, surveyed, resumed, feed}
use Rattle.sink.specs.Sunk.{Plain, opening}
use Rattle.sink.specs.Between.{between}
use Rattle.sink.proofs.Least.{of-between, to-between}
use Rattle.sink.proofs.Shorts.{ascending-length}
use Rattle.sink.proofs.Tidy.{uses, Surveyable, taken_in, used-known, put-out}
use Rattle.sink.proofs.Operands.{code-surveyable}
use Rattle.sink.proofs.Feeding.{feed-surveying}

among-length : (ss ts : List ℕ) → length (among ss ts) ≤ length ss
unfolding among
among-length [] ts = omega arith
among-length (s ∷ ss) ts = go (member s ts) (among-length ss ts)
  where
    go : (b : Bool) → length (among ss ts) ≤ length ss → length {A = ℕ} (elim b [ true ↦ s ∷ among ss ts | false ↦ among ss ts ]) ≤ suc (length ss)
    go true h = omega arith
    go false h = omega arith

-- what lies within a list ascends to no more than it has
pub within-length : (ss ts : List ℕ) → Within ss ts → length (ascending ss) ≤ length ts
within-length ss ts w =
    let same : ascending ss ≡ ascending (among ts ss) =
    ascending-same ss (among ts ss) (λ u m. to-among ts ss (w u m) m) (λ u m. (of-among ts ss m).1) in
    let a = ascending-length (among ts ss) in
    let b = among-length ts ss in
    omega (arith, ap length same)

-- a list that ascends is its own ascending order
ascended-same : {ss : List ℕ} → Ascends ss → ascending ss ≡ ss
ascended-same {ss} a = ascends_same (ascending-ascends ss) a (λ u m. of-ascending ss m) (λ u m. to-ascending ss m)

insert-new : (u : ℕ) (vs : List ℕ) → u ∉ vs → length (insert u vs) ≡ suc (length vs)
unfolding insert
insert-new u [] n = refl
insert-new u (v ∷ vs) n = go (ltb u v) (eqb u v) refl (insert-new u vs (λ m. n (Memᴰ.tail m)))
  where
    go : (b c : Bool) → eqb u v ≡ c → length (insert u vs) ≡ suc (length vs)
        → length {A = ℕ} (elim b [ true ↦ u ∷ v ∷ vs | false ↦ elim c [ true ↦ v ∷ vs | false ↦ v ∷ insert u vs ] ]) ≡ suc (suc (length vs))
    go true c e h = refl
    go false true e h = absurd (n (Memᴰ.head (eqb-true u v e)))
    go false false e h = omega arith

-- inserting into what ascends
insert-ascends : (u : ℕ) {vs : List ℕ} → Ascends vs → Ascends (insert u vs)
unfolding ascending
insert-ascends u {vs} a = subst (λ l. Ascends (insert u l)) (ascended-same a) (ascending-ascends (u ∷ vs))

-- ---- what is kept of some ids
module _ (own most : ℕ) (ids : List ℕ) (room : length ids ≤ most) where
  pub record Keeping (vs : List ℕ) : Type 0 where
    pub ascends : Ascends vs
    pub within : Within vs ids

  record Marking (u : ℕ) (vs ws : List ℕ) : Type 0 where
    keeps : Keeping ws
    old : Within vs ws
    new : u < own → u ∈ ws
    none : (v : ℕ) → v ∈ ws → (v ∈ vs) ⊎ ((v ≡ u) × (u < own))

  few : {u : ℕ} {vs : List ℕ} → Keeping vs → u ∈ ids → u ∉ vs → length vs < most
  unfolding ascending
  few {u} {vs} k m n =
      let w : Within (u ∷ vs) ids = λ v j. ⊎_elim (λ e. subst (λ x. x ∈ ids) (sym e) m) (λ i. k.within v i) (Memᴰ.cases_cons j) in
      let l = within-length (u ∷ vs) ids w in
      let e : ascending (u ∷ vs) ≡ insert u vs = ap (insert u) (ascended-same k.ascends) in
      omega (arith, ap length e, insert-new u vs n)

  marking : (u : ℕ) (vs : List ℕ) → Keeping vs → (u < own → u ∈ ids) → Marking u vs (mark own most u vs)
  marking u vs k m = go (dec_lt u own)
    where
      inserted : u < own → Marking u vs (insert u vs)
      inserted h =
          record {
            keeps =
                record {
                  ascends = insert-ascends u k.ascends;
                  within = λ v j. ⊎_elim (λ e. subst (λ x. x ∈ ids) (sym e) (m h)) (λ i. k.within v i) (Memᴰ.cases_cons (of-insert u vs j));
                };
            old = λ v j. to-insert u vs (Memᴰ.tail j);
            new = λ l. to-insert u vs (Memᴰ.head refl);
            none = λ v j. ⊎_elim (λ e. inr (e, h)) inl (Memᴰ.cases_cons (of-insert u vs j));
          }

      left : (u < own → u ∈ vs) → Marking u vs vs
      left f = record { keeps = k; old = λ v j. j; new = f; none = λ v j. inl j }

      at : (ws : List ℕ) → mark own most u vs ≡ ws → Marking u vs ws → Marking u vs (mark own most u vs)
      at ws e g = subst (Marking u vs) (sym e) g

      by : {b : Bool} → ltb u own ≡ b → mark own most u vs ≡ elim b [ true ↦ elim (ltb (length vs) most) [ true ↦ insert u vs | false ↦ vs ] | false ↦ vs ]
      by e = ap (λ b. elim b [ true ↦ elim (ltb (length vs) most) [ true ↦ insert u vs | false ↦ vs ] | false ↦ vs ]) e

      inside : u < own → (u ∈ vs) ⊎ (u ∉ vs) → Dec (length vs < most) → Marking u vs (mark own most u vs)
      inside h d (yes l) = at (insert u vs) (by (lt-ltb u own h) ∙ ap (λ b. elim b [ true ↦ insert u vs | false ↦ vs ]) (lt-ltb (length vs) most l)) (inserted h)
      inside h (inl j) (no l) =
          at vs (by (lt-ltb u own h) ∙ ap (λ b. elim b [ true ↦ insert u vs | false ↦ vs ]) (le-ltb (length vs) most (omega arith))) (left (λ g. j))
      inside h (inr n) (no l) = let f = few k (m h) n in absurd (omega arith)

      go : Dec (u < own) → Marking u vs (mark own most u vs)
      go (yes h) = inside h (known u vs) (dec_lt (length vs) most)
      go (no h) = at vs (by (le-ltb u own (omega arith))) (left (λ g. absurd (omega arith)))

  record Marked (us vs ws : List ℕ) : Type 0 where
    keeps : Keeping ws
    old : Within vs ws
    new : (u : ℕ) → u ∈ us → u < own → u ∈ ws
    none : (v : ℕ) → v ∈ ws → (v ∈ vs) ⊎ ((v ∈ us) × (v < own))

  marked : (us vs : List ℕ) → Keeping vs → ((u : ℕ) → u ∈ us → u < own → u ∈ ids) → Marked us vs (mark_all own most us vs)
  unfolding mark_all
  marked [] vs k m = record { keeps = k; old = λ v j. j; new = λ u j. absurd (Memᴰ.not-nil j); none = λ v j. inl j }
  marked (u ∷ us) vs k m = go (marking u vs k (λ h. m u (Memᴰ.head refl) h)) (λ k'. marked us (mark own most u vs) k' (λ v j h. m v (Memᴰ.tail j) h))
    where
      go : Marking u vs (mark own most u vs) → (Keeping (mark own most u vs) → Marked us (mark own most u vs) (mark_all own most us (mark own most u vs)))
          → Marked (u ∷ us) vs (mark_all own most us (mark own most u vs))
      go g f =
          let r = f g.keeps in
          record {
            keeps = r.keeps;
            old = λ v j. r.old v (g.old v j);
            new = λ v j h. ⊎_elim (λ e. r.old v (first e h)) (λ i. r.new v i h) (Memᴰ.cases_cons j);
            none = λ v j. ⊎_elim (λ i. ⊎_elim inl (λ p. inr (front p)) (g.none v i)) (λ p. inr (Memᴰ.tail p.0, p.1)) (r.none v j);
          }
        where
          first : {v : ℕ} → v ≡ u → v < own → v ∈ mark own most u vs
          first {v} e h = subst (λ x. x ∈ mark own most u vs) (sym e) (g.new (omega arith))

          front : {v : ℕ} → (v ≡ u) × (u < own) → (v ∈ (u ∷ us)) × (v < own)
          front p = (Memᴰ.head p.0, omega (arith, p.0, p.1))

  -- all that are used before the body's own
  pub marks-all : (us : List ℕ) → ((u : ℕ) → u ∈ us → u < own → u ∈ ids) → mark_all own most us [] ≡ ascending (between 0 own us)
  unfolding ascending
  marks-all us m = go (marked us [] (record { ascends = ascending-ascends []; within = λ v j. absurd (Memᴰ.not-nil j) }) m)
    where
      go : Marked us [] (mark_all own most us []) → mark_all own most us [] ≡ ascending (between 0 own us)
      go r =
          ascends_same r.keeps.ascends (ascending-ascends (between 0 own us))
          (λ v j. ⊎_elim (λ i. absurd (Memᴰ.not-nil i)) (λ p. to-ascending (between 0 own us) (to-between 0 own us p.0 (omega arith) p.1)) (r.none v j))
          (λ v j. let b = of-between 0 own us (of-ascending (between 0 own us) j) in r.new v b.0 b.2)

-- ---- the survey of a program
module _ {s d : ℕ} {p : Program} {st : Tree ℕ d} {ids : List ℕ} (y : Surveyable s p st ids) (k : Sink) (room : length ids ≤ k.most) where
  abbrev after : Sink
  after = feed s p (surveyed s k)

  after_is : after ≡ take_in (uses p) (surveyed s k)
  after_is = feed-surveying s p (surveyed s k) refl

  survey-takes : after.taken ≡ ascending (fv s p)
  survey-takes =
      ap (λ j. j.taken) after_is ∙ (marks-all s k.most ids room (uses p) (λ u m l. used-known y u m l) ∙ sym (taken_in y))

  pub surveyed-mode : after.mode ≡ Surveying
  surveyed-mode = ap (λ j. j.mode) after_is

  pub surveyed-own : after.own ≡ s
  surveyed-own = ap (λ j. j.own) after_is

  resumes : k.mode ≡ Listing → Plain k → resumed after ≡ k
  resumes m q =
      ap resumed after_is
      ∙ (λ i. record { mode = sym m i; text = k.text; at = k.at; own = sym q.own i; taken = sym q.taken i; most = k.most })

  -- the line that opens its WithCtrl
  pub opening_of : (c : ℕ) → k.mode ≡ Listing → Plain k
      → opening after st c (s + count p) ≡ opened (ascending (among (order st) (dv s p))) c (ascending (fv s p)) k
  opening_of c m q =
      ap (λ n. opened (ascending (between n (s + count p) (order st))) c after.taken (resumed after)) surveyed-own
      ∙ (ap (λ o. opened o c after.taken (resumed after)) (sym (put-out y))
      ∙ (ap (λ i. opened (ascending (among (order st) (dv s p))) c i (resumed after)) survey-takes
      ∙ ap (opened (ascending (among (order st) (dv s p))) c (ascending (fv s p))) (resumes m q)))

-- ---- a body's survey
module _ {Γ : List ValueType} {τ : ValueType} (e : Term Γ τ) (δ : All IdTree Γ) (s : ℕ) (below : Below s (ids_of δ)) (k : Sink) (room : length (ids_of δ) ≤ k.most) where
  pub survey-mode : (feed s (code e δ s) (surveyed s k)).mode ≡ Surveying
  survey-mode = surveyed-mode (code-surveyable e δ s below) k room

  pub survey-own : (feed s (code e δ s) (surveyed s k)).own ≡ s
  survey-own = surveyed-own (code-surveyable e δ s below) k room

  pub opening-is : (c : ℕ) → k.mode ≡ Listing → Plain k
      → opening (feed s (code e δ s) (surveyed s k)) (tree e δ s) c (s + size e)
      ≡ opened (ascending (among (order (tree e δ s)) (dv s (code e δ s)))) c (ascending (fv s (code e δ s))) k
  opening-is c m q =
      let long : s + size e ≡ s + count (code e δ s) = omega (arith, count_code e δ s) in
      ap (opening (feed s (code e δ s) (surveyed s k)) (tree e δ s) c) long ∙ opening_of (code-surveyable e δ s below) k room c m q
