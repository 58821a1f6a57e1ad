-- The steps of reading at a depth that code holds as a number above 0, on a text that code holds as a part of another.
use Prim.Native.Nat.{ℕ, suc, ◌+◌, ◌-◌, ◌<◌, ◌^◌}
use mathlib.Core.Bool.{true}
use mathlib.Core.List.{List}
use mathlib.Core.Option.{none}
use Rattle.std.specs.Prelude.{Option, Some, None}
use mathlib.Core.Path.{◌≡◌, sym, subst}
use native.Mathlib.Omega.{arith}
use lib.IntN.{ℤ, pos}
use lib.ListN.{length, get_or, set, take, drop}
use Rattle.snesl.specs.declared.code.Base.{Base}
use Rattle.snesl.specs.declared.code.Base.TheVariants as base
use Rattle.snesl.specs.Values.{type_of}
use Rattle.snesl.specs.Text.{read_value}
use Rattle.valuetext.specs.Reading.{opening_at, after_at, ints_in, Ready, Laid, ReadAs, read_no, read-bytes}
use Rattle.valuetext.specs.declared.reading.Opening.TheVariants.{Empty, Items, No as NoList}
use Rattle.valuetext.specs.declared.reading.After.TheVariants.{Close}
use Rattle.decimals.proofs.Parts.{rest_of}
use Rattle.valuetext.proofs.ReadingSteps.{ints-told, opens-no, empty-ready, empty-list, Listing, flag-ready, listing-item, Item, end-ready, item-close}

pub deeper : (d : ℕ) → 0 < d → suc (d - 1) ≡ d
deeper d h = omega arith

above : (d : ℕ) → (d ≡ 0 → ⊥) → suc (d - 1) ≡ d
above d h = omega arith

module _ {t : List ℕ} {b : List ℤ} {cs : List ℕ} where
  pub ready_at : {β : Base} {d e : ℕ} → d ≡ e → Ready β d t b cs → Ready β e t b cs
  ready_at {β} p a = subst (λ (x : ℕ). Ready β x t b cs) p a

  pub read_at : {β : Base} {d e : ℕ} {b' : List ℤ} {cs' : List ℕ} {r : Option ℕ} → d ≡ e → ReadAs β d t b b' cs cs' r → ReadAs β e t b b' cs cs' r
  read_at {β = β} {b' = b'} {cs' = cs'} {r = r} p a = subst (λ (x : ℕ). ReadAs β x t b b' cs cs' r) p a

  -- ---- an item that is a list

  module _ (β : Base) (d : ℕ) (h : (d ≡ 0) → ⊥) where
    pub empty-ready-at : Ready β d t b cs → Empty ≡ opening_at t → (d < length cs) × (get_or cs d 0 + 1 < 2 ^ 64)
    empty-ready-at a e =
        subst (λ (x : ℕ). (x < length cs) × (get_or cs x 0 + 1 < 2 ^ 64)) (above d h)
        (empty-ready e (ready_at (sym (above d h)) a))

    pub empty-at : {b' : List ℤ} {cs' : List ℕ} → Empty ≡ opening_at t → b' ≡ set b (get_or cs d 0) (pos 1) → cs' ≡ set cs d (get_or cs d 0 + 1)
        → ReadAs β d t b b' cs cs' (Some 2)
    empty-at {b'} {cs'} e p q =
        read_at (above d h)
        (empty-list e
        (subst (λ (x : ℕ). b' ≡ set b (get_or cs x 0) (pos 1)) (sym (above d h)) p)
        (subst (λ (x : ℕ). cs' ≡ set cs x (get_or cs x 0 + 1)) (sym (above d h)) q))

    pub no-list-at : {b' : List ℤ} {cs' : List ℕ} → NoList ≡ opening_at t → ReadAs β d t b b' cs cs' None
    no-list-at e = read_at (above d h) (read_no (opens-no β (d - 1) t e))

-- ---- a list of ints

module _ {β : Base} {d : ℕ} {t : List ℕ} {b : List ℤ} {cs : List ℕ} (e : ints_in β d ≡ true) where
  pub ints-ready : Ready β d t b cs → Items ≡ opening_at t → Ready base.Int 1 t b cs × (Items ≡ opening_at t)
  ints-ready a o =
      (subst (λ (x : Base). Ready x 1 t b cs) (ints-told β d e).0 (ready_at (ints-told β d e).1 a), o)

  pub ints-read : {b' : List ℤ} {cs' : List ℕ} {r : Option ℕ} → ReadAs base.Int 1 t b b' cs cs' r → ReadAs β d t b b' cs cs' r
  ints-read {b'} {cs'} {r} a =
      read_at (sym (ints-told β d e).1) (subst (λ (x : Base). ReadAs x 1 t b b' cs cs' r) (sym (ints-told β d e).0) a)

-- ---- what a reader of an item answers

module _ {β : Base} {d : ℕ} {t : List ℕ} {b b' : List ℤ} {cs cs' : List ℕ} where
  pub laid_of : {r : Option ℕ} {n : ℕ} → ReadAs β d t b b' cs cs' r → r ≡ Some n → Laid β d t b b' cs cs' n
  laid_of (read_no e) p = cc
  laid_of {n = n} (read-bytes {k = k} l) p = let q : k ≡ n = cc in subst (Laid β d t b b' cs cs') q l

  pub none_of : {r : Option ℕ} → ReadAs β d t b b' cs cs' r → r ≡ None → read_value (type_of β d) t ≡ none
  none_of (read_no e) p = e
  none_of (read-bytes l) p = cc

module _ {β : Base} {d : ℕ} {b : List ℤ} {cs : List ℕ} (t : List ℕ) (k : ℕ) where
  pub part-ready : Ready β d (drop k t) b cs → Ready β d (take (length t - k) (drop k t)) b cs
  part-ready a = subst (λ (x : List ℕ). Ready β d x b cs) (sym (rest_of t k)) a

  pub part-read : {b' : List ℤ} {cs' : List ℕ} {r : Option ℕ} → ReadAs β d (take (length t - k) (drop k t)) b b' cs cs' r → ReadAs β d (drop k t) b b' cs cs' r
  part-read {b'} {cs'} {r} a = subst (λ (x : List ℕ). ReadAs β d x b b' cs cs' r) (rest_of t k) a

-- ---- the list's own level, the number lv

module _ {β : Base} {d lv : ℕ} (p : suc d ≡ lv) {t : List ℕ} {b b' : List ℤ} {cs cs' : List ℕ} {k : ℕ} where
  module _ {b₁ : List ℤ} {cs₁ : List ℕ} {n : ℕ} (a : Listing β d t b b' cs cs' k) (l : Laid β d (drop k t) b' b₁ cs' cs₁ n) where
    pub flag-ready-at : (lv < length cs₁) × (get_or cs₁ lv 0 + 1 < 2 ^ 64)
    flag-ready-at = subst (λ (x : ℕ). (x < length cs₁) × (get_or cs₁ x 0 + 1 < 2 ^ 64)) p (flag-ready a l)

    pub item-at : {b₂ : List ℤ} {cs₂ : List ℕ} → b₂ ≡ set b₁ (get_or cs₁ lv 0) (pos 0) → cs₂ ≡ set cs₁ lv (get_or cs₁ lv 0 + 1) → Item β d t b b₂ cs cs₂ k n
    item-at {b₂} {cs₂} q r =
        listing-item a l
        (subst (λ (x : ℕ). b₂ ≡ set b₁ (get_or cs₁ x 0) (pos 0)) (sym p) q)
        (subst (λ (x : ℕ). cs₂ ≡ set cs₁ x (get_or cs₁ x 0 + 1)) (sym p) r)

  module _ {n : ℕ} (a : Item β d t b b' cs cs' k n) (e : Close ≡ after_at t (k + n)) where
    pub end-ready-at : (lv < length cs') × (get_or cs' lv 0 + 1 < 2 ^ 64)
    end-ready-at = subst (λ (x : ℕ). (x < length cs') × (get_or cs' x 0 + 1 < 2 ^ 64)) p (end-ready a e)

    pub close_at : {b₁ : List ℤ} {cs₁ : List ℕ} → b₁ ≡ set b' (get_or cs' lv 0) (pos 1) → cs₁ ≡ set cs' lv (get_or cs' lv 0 + 1)
        → ReadAs β lv t b b₁ cs cs₁ (Some (k + n + 1))
    close_at {b₁} {cs₁} q r =
        read_at p
        (item-close a e
        (subst (λ (x : ℕ). b₁ ≡ set b' (get_or cs' x 0) (pos 1)) (sym p) q)
        (subst (λ (x : ℕ). cs₁ ≡ set cs' x (get_or cs' x 0 + 1)) (sym p) r))
