-- Lists of ids as sets: what `member`, `without`, `among`, `insert` and `ascending` keep is exactly what they should. 002 speaks of sets of ids and the
-- code of lists; later proofs go by these laws and never look into a list again.
use Prim.Native.Nat.{ℕ, ◌<◌}
use native.Mathlib.Omega.{arith}
use mathlib.Core.Bool.{Bool, true, false, ◌||◌}
use mathlib.Core.List.Memᴰ
use mathlib.Core.List.{List, [], ◌∷◌, ◌++◌, Memᴰ}
use mathlib.Core.Logic.{◌⊎◌, inl, inr, ⊎_elim}
use mathlib.Core.Path.{◌≡◌, refl, sym, ◌∙◌, ap, ap₂}
use lib.Dec.{eqb, ltb}
use borrow.Author.Tests.{eqb-true, eqb-false, ltb-true, ltb-false}
use Rattle.snesl.specs.Programs.{member, without, among, insert, ascending}

infix 40 ◌∈◌
abbrev pub ◌∈◌ : ℕ → List ℕ → Type 0
u ∈ ss = Memᴰ u ss

infix 40 ◌∉◌
abbrev pub ◌∉◌ : ℕ → List ℕ → Type 0
u ∉ ss = u ∈ ss → ⊥

-- the test says whether
pub member-true : {s : ℕ} (ts : List ℕ) → member s ts ≡ true → s ∈ ts
unfolding member
member-true [] e = let z : ◌≡◌ {A = ℕ} 0 1 = cc in absurd (omega arith)
member-true {s} (t ∷ ts) e = go (member-true ts) (eqb s t) refl e
  where
    go : (member s ts ≡ true → s ∈ ts) → (b : Bool) → eqb s t ≡ b → (b || member s ts) ≡ true → s ∈ (t ∷ ts)
    go below true q r = Memᴰ.head (eqb-true s t q)
    go below false q r = Memᴰ.tail (below r)

pub member-false : {s : ℕ} (ts : List ℕ) → member s ts ≡ false → s ∉ ts
unfolding member
member-false [] e h = Memᴰ.not-nil h
member-false {s} (t ∷ ts) e h = go (member-false ts) (eqb s t) refl e (Memᴰ.cases_cons h)
  where
    go : (member s ts ≡ false → s ∉ ts) → (b : Bool) → eqb s t ≡ b → (b || member s ts) ≡ false → (s ≡ t) ⊎ (s ∈ ts) → ⊥
    go below true q r m = let z : ◌≡◌ {A = ℕ} 0 1 = cc in omega arith
    go below false q r (inl p) = eqb-false s t q p
    go below false q r (inr m) = below r m

-- a list has an id or has it not
pub known : (s : ℕ) (ts : List ℕ) → (s ∈ ts) ⊎ (s ∉ ts)
known s ts = go (member s ts) refl
  where
    go : (b : Bool) → member s ts ≡ b → (s ∈ ts) ⊎ (s ∉ ts)
    go true e = inl (member-true ts e)
    go false e = inr (member-false ts e)

pub member-append : (s : ℕ) (ts us : List ℕ) → member s (ts ++ us) ≡ (member s ts || member s us)
unfolding member
member-append s [] us = refl
member-append s (t ∷ ts) us = go (eqb s t) (member-append s ts us)
  where
    go : (b : Bool) → member s (ts ++ us) ≡ (member s ts || member s us) → (b || member s (ts ++ us)) ≡ ((b || member s ts) || member s us)
    go true e = refl
    go false e = e

-- the clauses of `without` and `among`
without_in : (s : ℕ) (ss ts : List ℕ) → member s ts ≡ true → without (s ∷ ss) ts ≡ without ss ts
unfolding without
without_in s ss ts e = rw (e, without)

without-out : (s : ℕ) (ss ts : List ℕ) → member s ts ≡ false → without (s ∷ ss) ts ≡ s ∷ without ss ts
unfolding without
without-out s ss ts e = rw (e, without)

among_in : (s : ℕ) (ss ts : List ℕ) → member s ts ≡ true → among (s ∷ ss) ts ≡ s ∷ among ss ts
unfolding among
among_in s ss ts e = rw (e, among)

among-out : (s : ℕ) (ss ts : List ℕ) → member s ts ≡ false → among (s ∷ ss) ts ≡ among ss ts
unfolding among
among-out s ss ts e = rw (e, among)

pub without-append : (rs ss ts : List ℕ) → without (rs ++ ss) ts ≡ without rs ts ++ without ss ts
unfolding without
without-append [] ss ts = refl
without-append (r ∷ rs) ss ts = go (member r ts) (without-append rs ss ts)
  where
    go : (b : Bool) → without (rs ++ ss) ts ≡ without rs ts ++ without ss ts
        → elim b [ true ↦ without (rs ++ ss) ts | false ↦ r ∷ without (rs ++ ss) ts ] ≡ elim b [ true ↦ without rs ts | false ↦ r ∷ without rs ts ] ++ without ss ts
    go true e = e
    go false e = ap (λ l. r ∷ l) e

pub without-none : (ss : List ℕ) → without ss [] ≡ ss
unfolding without member
without-none [] = refl
without-none (s ∷ ss) = ap (λ l. s ∷ l) (without-none ss)

-- what is left out twice is left out once
pub without-twice : (rs ss ts : List ℕ) → without (without rs ss) ts ≡ without rs (ts ++ ss)
unfolding without
without-twice [] ss ts = refl
without-twice (r ∷ rs) ss ts = go (member r ss) refl (member r ts) refl (without-twice rs ss ts)
  where
    here : (b c : Bool) → member r ss ≡ b → member r ts ≡ c → member r (ts ++ ss) ≡ (c || b)
    here b c p q = member-append r ts ss ∙ ap₂ ◌||◌ q p

    go : (b : Bool) → member r ss ≡ b → (c : Bool) → member r ts ≡ c → without (without rs ss) ts ≡ without rs (ts ++ ss)
        → without (without (r ∷ rs) ss) ts ≡ without (r ∷ rs) (ts ++ ss)
    go true p true q e = rw (without_in r rs ss p, without_in r rs (ts ++ ss) (here true true p q)) e
    go true p false q e = rw (without_in r rs ss p, without_in r rs (ts ++ ss) (here true false p q)) e
    go false p true q e = rw (without-out r rs ss p, without_in r _ ts q, without_in r rs (ts ++ ss) (here false true p q)) e
    go false p false q e =
        rw (without-out r rs ss p, without-out r _ ts q, without-out r rs (ts ++ ss) (here false false p q)) (ap (λ l. r ∷ l) e)

pub of-without : {u : ℕ} (ss ts : List ℕ) → u ∈ without ss ts → (u ∈ ss) × (u ∉ ts)
unfolding without
of-without [] ts h = absurd (Memᴰ.not-nil h)
of-without {u} (s ∷ ss) ts h = go (of-without ss ts) (member s ts) refl
  where
    go : (u ∈ without ss ts → (u ∈ ss) × (u ∉ ts)) → (b : Bool) → member s ts ≡ b → (u ∈ (s ∷ ss)) × (u ∉ ts)
    go below true p = let r = below (rw (without_in s ss ts p) at h) in (Memᴰ.tail r.0, r.1)
    go below false p =
        ⊎_elim (λ e. (Memᴰ.head e, λ m. member-false ts p (Memᴰ.cast (sym e) m)))
        (λ m. (Memᴰ.tail (below m).0, (below m).1)) (Memᴰ.cases_cons (rw (without-out s ss ts p) at h))

pub to-without : {u : ℕ} (ss ts : List ℕ) → u ∈ ss → u ∉ ts → u ∈ without ss ts
to-without [] ts h n = absurd (Memᴰ.not-nil h)
to-without {u} (s ∷ ss) ts h n = go (λ m. to-without ss ts m n) (member s ts) refl (Memᴰ.cases_cons h)
  where
    go : (u ∈ ss → u ∈ without ss ts) → (b : Bool) → member s ts ≡ b → (u ≡ s) ⊎ (u ∈ ss) → u ∈ without (s ∷ ss) ts
    go below true p (inl e) = absurd (n (Memᴰ.cast e (member-true ts p)))
    go below true p (inr m) = rw (without_in s ss ts p) (below m)
    go below false p (inl e) = rw (without-out s ss ts p) (Memᴰ.head e)
    go below false p (inr m) = rw (without-out s ss ts p) (Memᴰ.tail (below m))

pub of-among : {u : ℕ} (ss ts : List ℕ) → u ∈ among ss ts → (u ∈ ss) × (u ∈ ts)
unfolding among
of-among [] ts h = absurd (Memᴰ.not-nil h)
of-among {u} (s ∷ ss) ts h = go (of-among ss ts) (member s ts) refl
  where
    go : (u ∈ among ss ts → (u ∈ ss) × (u ∈ ts)) → (b : Bool) → member s ts ≡ b → (u ∈ (s ∷ ss)) × (u ∈ ts)
    go below false p = let r = below (rw (among-out s ss ts p) at h) in (Memᴰ.tail r.0, r.1)
    go below true p =
        ⊎_elim (λ e. (Memᴰ.head e, Memᴰ.cast e (member-true ts p)))
        (λ m. (Memᴰ.tail (below m).0, (below m).1)) (Memᴰ.cases_cons (rw (among_in s ss ts p) at h))

pub to-among : {u : ℕ} (ss ts : List ℕ) → u ∈ ss → u ∈ ts → u ∈ among ss ts
to-among [] ts h n = absurd (Memᴰ.not-nil h)
to-among {u} (s ∷ ss) ts h n = go (λ m. to-among ss ts m n) (member s ts) refl (Memᴰ.cases_cons h)
  where
    go : (u ∈ ss → u ∈ among ss ts) → (b : Bool) → member s ts ≡ b → (u ≡ s) ⊎ (u ∈ ss) → u ∈ among (s ∷ ss) ts
    go below false p (inl e) = absurd (member-false ts p (Memᴰ.cast (sym e) n))
    go below false p (inr m) = rw (among-out s ss ts p) (below m)
    go below true p (inl e) = rw (among_in s ss ts p) (Memᴰ.head e)
    go below true p (inr m) = rw (among_in s ss ts p) (Memᴰ.tail (below m))

pub of-insert : {u : ℕ} (s : ℕ) (ts : List ℕ) → u ∈ insert s ts → u ∈ (s ∷ ts)
unfolding insert
of-insert s [] h = h
of-insert {u} s (t ∷ ts) h = go (of-insert s ts) (ltb s t) (eqb s t) refl h
  where
    go : (u ∈ insert s ts → u ∈ (s ∷ ts)) → (b c : Bool) → eqb s t ≡ c
        → u ∈ elim b [ true ↦ s ∷ t ∷ ts | false ↦ elim c [ true ↦ t ∷ ts | false ↦ t ∷ insert s ts ] ]
        → u ∈ (s ∷ t ∷ ts)
    go below true c p m = m
    go below false true p m = Memᴰ.tail m
    go below false false p m =
        ⊎_elim (λ e. Memᴰ.tail (Memᴰ.head e))
        (λ r. ⊎_elim (λ e. Memᴰ.head e) (λ k. Memᴰ.tail (Memᴰ.tail k)) (Memᴰ.cases_cons (below r)))
        (Memᴰ.cases_cons m)

pub to-insert : {u : ℕ} (s : ℕ) (ts : List ℕ) → u ∈ (s ∷ ts) → u ∈ insert s ts
unfolding insert
to-insert s [] h = h
to-insert {u} s (t ∷ ts) h = go (to-insert s ts) (ltb s t) (eqb s t) refl (Memᴰ.cases_cons h)
  where
    go : (u ∈ (s ∷ ts) → u ∈ insert s ts) → (b c : Bool) → eqb s t ≡ c
        → (u ≡ s) ⊎ (u ∈ (t ∷ ts))
        → u ∈ elim b [ true ↦ s ∷ t ∷ ts | false ↦ elim c [ true ↦ t ∷ ts | false ↦ t ∷ insert s ts ] ]
    go below true c p m = ⊎_elim Memᴰ.head Memᴰ.tail m
    go below false true p m = ⊎_elim (λ e. Memᴰ.head (e ∙ eqb-true s t p)) (λ k. k) m
    go below false false p (inl e) = Memᴰ.tail (below (Memᴰ.head e))
    go below false false p (inr m) =
        ⊎_elim Memᴰ.head (λ k. Memᴰ.tail (below (Memᴰ.tail k))) (Memᴰ.cases_cons m)

pub of-ascending : {u : ℕ} (ss : List ℕ) → u ∈ ascending ss → u ∈ ss
unfolding ascending
of-ascending [] h = h
of-ascending (s ∷ ss) h =
    ⊎_elim Memᴰ.head (λ m. Memᴰ.tail (of-ascending ss m)) (Memᴰ.cases_cons (of-insert s (ascending ss) h))

pub to-ascending : {u : ℕ} (ss : List ℕ) → u ∈ ss → u ∈ ascending ss
unfolding ascending
to-ascending [] h = h
to-ascending (s ∷ ss) h =
    to-insert s (ascending ss) (⊎_elim Memᴰ.head (λ m. Memᴰ.tail (to-ascending ss m)) (Memᴰ.cases_cons h))

-- `ascending` lists each id once, each below those after it
pub data Ascends : List ℕ → Type 0 where
  none : Ascends []
  next : {s : ℕ} {ss : List ℕ} → ((u : ℕ) → u ∈ ss → s < u) → Ascends ss → Ascends (s ∷ ss)

insert-ascends : (s : ℕ) {ts : List ℕ} → Ascends ts → Ascends (insert s ts)
unfolding insert
insert-ascends s none = next (λ u m. absurd (Memᴰ.not-nil m)) none
insert-ascends s (next {s = t} {ss = ts} low rest) = go (insert-ascends s rest) (ltb s t) refl (eqb s t) refl
  where
    go : Ascends (insert s ts) → (b : Bool) → ltb s t ≡ b → (c : Bool) → eqb s t ≡ c
        → Ascends (elim b [ true ↦ s ∷ t ∷ ts | false ↦ elim c [ true ↦ t ∷ ts | false ↦ t ∷ insert s ts ] ])
    go below true p c q = next (λ u m. ⊎_elim first (λ k. trans (low u k)) (Memᴰ.cases_cons m)) (next low rest)
      where
        first : {u : ℕ} → u ≡ t → s < u
        first e = let l = ltb-true s t p in omega arith

        trans : {u : ℕ} → t < u → s < u
        trans h = let l = ltb-true s t p in omega arith
    go below false p true q = next low rest
    go below false p false q = next (λ u m. ⊎_elim here (low u) (Memᴰ.cases_cons (of-insert s ts m))) below
      where
        here : {u : ℕ} → u ≡ s → t < u
        here e = let l = ltb-false s t p in let k = eqb-false s t q in omega arith

pub ascending-ascends : (ss : List ℕ) → Ascends (ascending ss)
unfolding ascending
ascending-ascends [] = none
ascending-ascends (s ∷ ss) = insert-ascends s (ascending-ascends ss)
