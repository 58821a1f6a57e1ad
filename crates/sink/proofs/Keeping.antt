-- The ids that a survey keeps: where one stands, and one more among them.
use Prim.Native.Nat.{ℕ, suc, ◌+◌, ◌-◌, ◌≤◌, ◌<◌}
use native.Mathlib.Omega.{arith}
use native.Mathlib.Numerals.{add-one}
use mathlib.Core.Bool.{true, false}
use mathlib.Core.List.Memᴰ
use mathlib.Core.List.{List, [], ◌∷◌, ◌++◌, append_assoc}
use mathlib.Core.Path.{◌≡◌, refl, sym, ap, ◌∙◌, subst}
use borrow.Author.Tests.{lt-ltb, le-ltb, eq-eqb, ne_eqb}
use lib.Dec.{ltb, eqb}
use lib.ListN.{length, get_or, take, drop, set, length-append, length-take, length-drop, take-append-drop, drop_of_length-le}
use lib.Seq.{take-suc, drop-cons, take_at, drop_at, drop-drop, take-take, set-append_left, set_split, length-take-le}
use Rattle.laws.specs.Parts.{part, written}
use Rattle.snesl.specs.Programs.{insert}
use Rattle.snesl.proofs.Compiled.Members.{◌∈◌}
use Rattle.std.specs.Prelude.{Option, Some, None}
use Rattle.sink.specs.Sinks.{mark, mark_all}
use Rattle.sink.specs.declared.state.Kept.{Kept}
use Rattle.sink.specs.Kept.{Marks, Ranks}
use Rattle.sink.specs.declared.uses.Used.{Used}
use Rattle.sink.specs.Uses.{used_ids}

-- an id inserted in front of, at and behind another
insert-before : (u t : ℕ) (ts : List ℕ) → u < t → insert u (t ∷ ts) ≡ u ∷ t ∷ ts
unfolding insert
insert-before u t ts h = ap (λ b. elim b [ true ↦ u ∷ t ∷ ts | false ↦ elim (eqb u t) [ true ↦ t ∷ ts | false ↦ t ∷ insert u ts ] ]) (lt-ltb u t h)

insert-same : (u t : ℕ) (ts : List ℕ) → t ≡ u → insert u (t ∷ ts) ≡ t ∷ ts
unfolding insert
insert-same u t ts h =
    ap (λ b. elim b [ true ↦ u ∷ t ∷ ts | false ↦ elim (eqb u t) [ true ↦ t ∷ ts | false ↦ t ∷ insert u ts ] ]) (le-ltb u t (omega arith))
    ∙ ap (λ b. elim b [ true ↦ t ∷ ts | false ↦ t ∷ insert u ts ]) (eq-eqb u t (sym h))

insert-behind : (u t : ℕ) (ts : List ℕ) → t < u → insert u (t ∷ ts) ≡ t ∷ insert u ts
unfolding insert
insert-behind u t ts h =
    ap (λ b. elim b [ true ↦ u ∷ t ∷ ts | false ↦ elim (eqb u t) [ true ↦ t ∷ ts | false ↦ t ∷ insert u ts ] ]) (le-ltb u t (omega arith))
    ∙ ap (λ b. elim b [ true ↦ t ∷ ts | false ↦ t ∷ insert u ts ]) (ne_eqb u t (λ e. omega arith))

-- a search that has come to i
pub record Searching (u : ℕ) (taken : List ℕ) (i : ℕ) : Type 0 where
  pub within : i ≤ length taken
  pub splits : insert u taken ≡ take i taken ++ insert u (drop i taken)

pub search-start : {u : ℕ} {taken : List ℕ} → Searching u taken 0
search-start = record { within = omega arith; splits = refl }

module _ {u : ℕ} {taken : List ℕ} {i : ℕ} (s : Searching u taken i) where
  module _ (h : i < length taken) where
    here : drop i taken ≡ get_or taken i 0 ∷ drop (suc i) taken
    here = drop-cons taken i 0 h

    pub search-turn : get_or taken i 0 ≤ u → (get_or taken i 0 ≡ u → ⊥) → Searching u taken (i + 1)
    search-turn l n =
        let g : get_or taken i 0 < u = omega arith in
        record {
          within = omega arith;
          splits =
              s.splits
              ∙ (ap (λ l. take i taken ++ insert u l) here
              ∙ (ap (λ l. take i taken ++ l) (insert-behind u (get_or taken i 0) (drop (suc i) taken) g)
              ∙ (sym (append_assoc (take i taken) (get_or taken i 0 ∷ []) (insert u (drop (suc i) taken)))
              ∙ (ap (λ l. l ++ insert u (drop (suc i) taken)) (sym (take-suc taken i 0 h)) ∙ ap (λ n. take n taken ++ insert u (drop n taken)) (sym (add-one i))))));
        }

    pub search-held : get_or taken i 0 ≡ u → Ranks u taken None
    search-held e =
        record {
          held = λ q. s.splits ∙ (ap (λ l. take i taken ++ insert u l) here ∙ (ap (λ l. take i taken ++ l) (insert-same u (get_or taken i 0) (drop (suc i) taken) e ∙ sym here) ∙ take-append-drop i taken));
          new = λ p q. let z : ◌≡◌ {A = ℕ} 0 1 = cc in absurd (omega arith);
        }

    pub search-new : u < get_or taken i 0 → Ranks u taken (Some i)
    search-new g =
        record {
          held = λ q. let z : ◌≡◌ {A = ℕ} 0 1 = cc in absurd (omega arith);
          new = λ p q. let e : i ≡ p = cc in subst (λ p. (p ≤ length taken) × (insert u taken ≡ take p taken ++ u ∷ drop p taken)) e (
            s.within,
            s.splits ∙ (ap (λ l. take i taken ++ insert u l) here ∙ (ap (λ l. take i taken ++ l) (insert-before u (get_or taken i 0) (drop (suc i) taken) g) ∙ ap (λ l. take i taken ++ u ∷ l) (sym here))),
          );
        }

  pub search-end : length taken ≤ i → Ranks u taken (Some (length taken))
  unfolding insert
  search-end g =
      let none : drop i taken ≡ [] = drop_of_length-le taken g in
      record {
        held = λ q. let z : ◌≡◌ {A = ℕ} 0 1 = cc in absurd (omega arith);
        new = λ p q. let e : length taken ≡ p = cc in let a : i ≡ p = omega (arith, s.within) in subst (λ p. (p ≤ length taken) × (insert u taken ≡ take p taken ++ u ∷ drop p taken)) a (
          s.within,
          s.splits ∙ (ap (λ l. take i taken ++ insert u l) none ∙ ap (λ l. take i taken ++ u ∷ l) (sym none)),
        );
      }

-- it is not behind them all
pub ranks-low : {u n p : ℕ} (l : List ℕ) {r : Option ℕ} → Ranks u (take n l) r → r ≡ Some p → p ≤ n
ranks-low {n = n} {p} l k e = let h = (k.new p e).0 in omega (arith, length-take n l)

-- one more among some: those behind it go one up
module _ {A : Type 0} (front back rest : List A) (x u : A) (p n : ℕ) (at : length front ≡ p) (many : length back ≡ n) where
  abbrev whole : List A
  whole = front ++ (back ++ x ∷ rest)

  moved : take n (drop p whole) ≡ back
  moved = ap (take n) (drop_at front (back ++ x ∷ rest) p at) ∙ take_at back (x ∷ rest) n many

  behind : drop (p + 1 + n) whole ≡ rest
  behind =
      let e : p + 1 + n ≡ p + (n + 1) = omega arith in
      ap (λ k. drop k whole) e
      ∙ (sym (drop-drop (n + 1) p whole)
      ∙ (ap (drop (n + 1)) (drop_at front (back ++ x ∷ rest) p at)
      ∙ (sym (drop-drop 1 n (back ++ x ∷ rest)) ∙ ap (drop 1) (drop_at back (x ∷ rest) n many))))

  pub put-among : set (take (p + 1) whole ++ take n (drop p whole) ++ drop (p + 1 + n) whole) p u ≡ front ++ u ∷ (back ++ rest)
  put-among =
      let long : p + 1 ≤ length whole = omega (arith, length-append front (back ++ x ∷ rest), length-append back (x ∷ rest)) in
      let head : length (take (p + 1) whole) ≡ p + 1 = length-take-le (p + 1) whole long in
      let first : take p (take (p + 1) whole) ≡ front = take-take p (p + 1) whole (omega arith) ∙ take_at front (back ++ x ∷ rest) p at in
      let last : drop (suc p) (take (p + 1) whole) ≡ [] = drop_of_length-le (take (p + 1) whole) {i = suc p} (omega (arith, head)) in
      ap (λ w. set (take (p + 1) whole ++ w ++ drop (p + 1 + n) whole) p u) moved
      ∙ (ap (λ w. set (take (p + 1) whole ++ back ++ w) p u) behind
      ∙ (ap (λ l. set l p u) (append_assoc (take (p + 1) whole) back rest)
      ∙ (set-append_left (take (p + 1) whole) (back ++ rest) p u (omega (arith, head))
      ∙ (ap (λ l. l ++ (back ++ rest)) (set_split (take (p + 1) whole) p u (omega (arith, head)))
      ∙ (ap (λ l. (l ++ u ∷ drop (suc p) (take (p + 1) whole)) ++ (back ++ rest)) first
      ∙ (ap (λ l. (front ++ u ∷ l) ++ (back ++ rest)) last ∙ append_assoc front (u ∷ []) (back ++ rest)))))))

  -- the same of a part that is written one place up
  pub inserted : set (written (p + 1) (part p n whole) whole) p u ≡ front ++ u ∷ (back ++ rest)
  unfolding written part
  inserted = ap (λ k. set (take (p + 1) whole ++ take n (drop p whole) ++ drop (p + 1 + k) whole) p u) (ap length moved ∙ many) ∙ put-among

-- where an id stands among the ids that a slice shows
pub ranked : {u : ℕ} {shown us : List ℕ} {r : Option ℕ} → shown ≡ us → Ranks u shown r → Ranks u us r
ranked {u} {shown} {us} {r} e k = subst (λ l. Ranks u l r) e k

-- ---- what is kept
module _ {taken : List ℕ} {most : ℕ} {s : Kept} (m : Marks taken most s) where
  pub kept-ids : take s.count s.ids.now ≡ taken
  kept-ids = ap (λ l. take s.count l) m.ids-are ∙ take_at taken m.rest s.count (sym m.count-is)

  rest-long : length m.rest ≡ most - length taken
  rest-long = omega (arith, m.kept, m.whole, ap length m.ids-are, length-append taken m.rest)

  -- marking one id
  module _ (own u : ℕ) where
    kept-as : (vs : List ℕ) → vs ≡ taken → Marks vs most s
    kept-as vs e = subst (λ l. Marks l most s) (sym e) m

    pub mark-own : own ≤ u → Marks (mark own most u taken) most s
    mark-own h = kept-as (mark own most u taken) (ap (λ b. elim b [ true ↦ elim (ltb (length taken) most) [ true ↦ insert u taken | false ↦ taken ] | false ↦ taken ]) (le-ltb u own h))

    module _ (h : u < own) where
      open-mark : mark own most u taken ≡ elim (ltb (length taken) most) [ true ↦ insert u taken | false ↦ taken ]
      open-mark = ap (λ b. elim b [ true ↦ elim (ltb (length taken) most) [ true ↦ insert u taken | false ↦ taken ] | false ↦ taken ]) (lt-ltb u own h)

      pub mark-full : length s.ids.now ≤ s.count → Marks (mark own most u taken) most s
      mark-full g = kept-as (mark own most u taken) (open-mark ∙ ap (λ b. elim b [ true ↦ insert u taken | false ↦ taken ]) (le-ltb (length taken) most (omega (arith, m.whole, m.count-is))))

      module _ (g : s.count < length s.ids.now) where
        kept-mark : mark own most u taken ≡ insert u taken
        kept-mark = open-mark ∙ ap (λ b. elim b [ true ↦ insert u taken | false ↦ taken ]) (lt-ltb (length taken) most (omega (arith, m.whole, m.count-is)))

        pub mark-held : insert u taken ≡ taken → Marks (mark own most u taken) most s
        mark-held e = kept-as (mark own most u taken) (kept-mark ∙ e)

        -- the ids from p on go one up, and u comes before them
        module _ {p : ℕ} (le : p ≤ length taken) (e : insert u taken ≡ take p taken ++ u ∷ drop p taken) where
          pub mark-new : {new : List ℕ} → new ≡ take (p + 1) s.ids.now ++ take (s.count - p) (drop p s.ids.now) ++ drop (p + 1 + (s.count - p)) s.ids.now
              → (s' : Kept) → s'.count ≡ s.count + 1 → s'.ids.now ≡ set new p u → Marks (mark own most u taken) most s'
          mark-new {new} w s' next put = go m.rest refl
            where
              go : (rest : List ℕ) → m.rest ≡ rest → Marks (mark own most u taken) most s'
              go [] q = let r = rest-long in let z = ap length q in absurd (omega (arith, m.whole, m.count-is))
              go (x ∷ rest) q =
                  let a : List ℕ = take p taken in
                  let b : List ℕ = drop p taken in
                  let la : length a ≡ p = length-take-le p taken le in
                  let lb : length b ≡ s.count - p = length-drop p taken ∙ omega (arith, m.count-is) in
                  let shape : s.ids.now ≡ a ++ (b ++ x ∷ rest) =
                  m.ids-are ∙ (ap (λ l. taken ++ l) q ∙ (ap (λ l. l ++ x ∷ rest) (sym (take-append-drop p taken)) ∙ append_assoc a b (x ∷ rest))) in
                  let done : set new p u ≡ a ++ u ∷ (b ++ rest) =
                  ap (λ l. set l p u) w
                  ∙ (ap (λ l. set (take (p + 1) l ++ take (s.count - p) (drop p l) ++ drop (p + 1 + (s.count - p)) l) p u) shape
                  ∙ put-among a b rest x u p (s.count - p) la lb) in
                  let marked : mark own most u taken ≡ a ++ u ∷ b = kept-mark ∙ e in
                  let more : length (mark own most u taken) ≡ length taken + 1 =
                  ap length marked ∙ (length-append a (u ∷ b) ∙ omega (arith, la, lb, m.count-is, le)) in
                  record {
                    rest = rest;
                    ids-are = put ∙ (done ∙ (sym (append_assoc a (u ∷ b) rest) ∙ ap (λ l. l ++ rest) (sym marked)));
                    count-is = omega (arith, next, more, m.count-is);
                    whole =
                        let q1 = rest-long in let q2 = ap length q in
                        ap length put ∙ (ap length done ∙ (length-append a (u ∷ (b ++ rest)) ∙ omega (arith, length-append b rest, la, lb, m.whole, m.count-is, le)));
                    kept = omega (arith, more, m.whole, m.count-is);
                    small = m.small;
                  }

        -- where a search found it, or its place
        module _ {r : Option ℕ} (k : Ranks u (take s.count s.ids.now) r) where
          pub ranked-held : r ≡ None → Marks (mark own most u taken) most s
          ranked-held e = mark-held (subst (λ l. insert u l ≡ l) kept-ids (k.held e))

          pub ranked-new : {p : ℕ} → r ≡ Some p
              → {new : List ℕ} → new ≡ take (p + 1) s.ids.now ++ take (s.count - p) (drop p s.ids.now) ++ drop (p + 1 + (s.count - p)) s.ids.now
              → (s' : Kept) → s'.count ≡ s.count + 1 → s'.ids.now ≡ set new p u → Marks (mark own most u taken) most s'
          ranked-new {p} e =
              let placed : (p ≤ length taken) × (insert u taken ≡ take p taken ++ u ∷ drop p taken) =
              subst (λ l. (p ≤ length l) × (insert u l ≡ take p l ++ u ∷ drop p l)) kept-ids (k.new p e) in
              mark-new placed.0 placed.1

-- what holds of each id by its place
pub each-below : (us : List ℕ) (bound : ℕ) → ((i : ℕ) → get_or us i 0 < bound) → (u : ℕ) → u ∈ us → u < bound
each-below [] bound h u m = absurd (Memᴰ.not-nil m)
each-below (v ∷ us) bound h u (Memᴰ.head e) = let z = h 0 in omega arith
each-below (v ∷ us) bound h u (Memᴰ.tail k) = each-below us bound (λ i. h (suc i)) u k

-- ---- several
pub marks-none : (own : ℕ) {taken : List ℕ} {most : ℕ} {s : Kept} → Marks taken most s → Marks (mark_all own most [] taken) most s
unfolding mark_all
marks-none own m = m

pub marks-one : (own : ℕ) (taken : List ℕ) {most : ℕ} {s : Kept} (a : ℕ) → Marks (mark own most a taken) most s → Marks (mark_all own most (a ∷ []) taken) most s
unfolding mark_all
marks-one own taken a m = m

pub marks-two : (own : ℕ) (taken : List ℕ) {most : ℕ} {s : Kept} (a b : ℕ)
    → Marks (mark own most b (mark own most a taken)) most s → Marks (mark_all own most (a ∷ b ∷ []) taken) most s
unfolding mark_all
marks-two own taken a b m = m

-- of an instruction's ids, known by their case
pub marks-used : (own : ℕ) (taken : List ℕ) {most : ℕ} {s : Kept} {a b : Used} → a ≡ b → Marks (mark_all own most (used_ids b) taken) most s → Marks (mark_all own most (used_ids a) taken) most s
marks-used own taken {most} {s} e m = subst (λ u. Marks (mark_all own most (used_ids u) taken) most s) (sym e) m
