-- The loop over a list of ints is the list reader's at depth 1, with the two cursors in locals: x the data's, y the flags'.
use Prim.Native.Nat.{ℕ, ◌+◌, ◌<◌, ◌^◌}
use mathlib.Core.List.{List, [], ◌∷◌}
use mathlib.Core.Path.{◌≡◌, refl, sym, ap, ◌∙◌, subst}
use native.Mathlib.Omega.{arith}
use mir.Syntax.{w32}
use mir.Val.{to_z, of_z}
use lib.IntN.{ℤ, pos}
use lib.ListN.{length, get_or, set, drop}
use Rattle.snesl.specs.declared.code.Base.TheVariants as base
use Rattle.decimals.specs.Numbers.{int_at}
use Rattle.std.specs.Prelude.{Option, Some, None}
use Rattle.valuetext.specs.Reading.{opening_at, after_at, Ready, Laid, ReadAs}
use Rattle.valuetext.specs.declared.reading.Opening.TheVariants.{Items}
use Rattle.valuetext.specs.declared.reading.After.TheVariants.{Comma, Close}
use Rattle.valuetext.proofs.ReadingSteps.{int_at_lem, leaf-scalar, leaf-no, leaf-ready, Listing, listing_start, listing-no, item-ready, flag-ready, listing-item, Item, item-comma-at, item-close, end-ready}
use Rattle.valuetext.proofs.ReadingAt.{laid_of, none_of}

-- the lent cursors with the two moved on
abbrev pub moved : List ℕ → ℕ → ℕ → List ℕ
moved cs x y = set (set cs 0 x) 1 y

module _ (cs : List ℕ) (h : 1 < length cs) where
  moved_none : moved cs (get_or cs 0 0) (get_or cs 1 0) ≡ cs
  moved_none = go cs h
    where
      go : (cs : List ℕ) → 1 < length cs → moved cs (get_or cs 0 0) (get_or cs 1 0) ≡ cs
      go [] h = absurd (omega arith)
      go (c ∷ []) h = absurd (omega arith)
      go (c ∷ e ∷ cs) h = refl

-- what reading one int on does to the cursors that the locals stand for
record Moves (cs : List ℕ) (x y : ℕ) : Type 0 where
  pub at-data : get_or (moved cs x y) 0 0 ≡ x
  pub at-flags : get_or (set (moved cs x y) 0 (get_or (moved cs x y) 0 0 + 1)) 1 0 ≡ y
  pub on :
      set (set (moved cs x y) 0 (get_or (moved cs x y) 0 0 + 1)) 1 (get_or (set (moved cs x y) 0 (get_or (moved cs x y) 0 0 + 1)) 1 0 + 1)
      ≡ moved cs (x + 1) (y + 1)
  pub at-end : get_or (moved cs x y) 1 0 ≡ y
  pub ends : set (moved cs x y) 1 (get_or (moved cs x y) 1 0 + 1) ≡ moved cs x (y + 1)

moves : (cs : List ℕ) (x y : ℕ) → 1 < length cs → Moves cs x y
moves [] x y h = absurd (omega arith)
moves (c ∷ []) x y h = absurd (omega arith)
moves (c ∷ e ∷ cs) x y h = record { at-data = refl; at-flags = refl; on = refl; at-end = refl; ends = refl }

-- the ints before k are laid, and the lent cursors stand where they stood
pub record Ints (t : List ℕ) (b b' : List ℤ) (cs cs' : List ℕ) (x y k : ℕ) : Type 0 where
  pub listing : Listing base.Int 0 t b b' cs (moved cs x y) k
  pub kept : cs' ≡ cs

pub ints-start : {t : List ℕ} {b : List ℤ} {cs : List ℕ} → Ready base.Int 1 t b cs → Items ≡ opening_at t → Ints t b b cs cs (get_or cs 0 0) (get_or cs 1 0) 1
ints-start {t} {b} {cs} a e =
    record { listing = subst (λ (c : List ℕ). Listing base.Int 0 t b b cs c 1) (sym (moved_none cs a.levels)) (listing_start a e); kept = refl }

module _ {t : List ℕ} {b b' : List ℤ} {cs cs' : List ℕ} {x y k : ℕ} (a : Ints t b b' cs cs' x y k) where
  pub ints-no : {b₁ : List ℤ} {cs₁ : List ℕ} {r : Option ℕ} → int_at (drop k t) ≡ None → r ≡ None → ReadAs base.Int 1 t b b₁ cs cs₁ r
  ints-no e p = listing-no a.listing (none_of (leaf-no {β = base.Int} {t = drop k t} {b = b'} {b' = b'} {cs = cs} {cs' = cs} (sym (int_at_lem (drop k t)) ∙ e) refl) refl) p

  move : Moves cs x y
  move = moves cs x y a.listing.ready.levels

  module _ {z : ℤ} {n : ℕ} (e : int_at (drop k t) ≡ Some (z, n)) where
    pub data-fits : x + 1 < 2 ^ 64
    data-fits = omega (arith, (leaf-ready (item-ready a.listing) (sym (int_at_lem (drop k t)) ∙ e)).1, move.at-data)

    module _ {b₁ : List ℤ} (p : b₁ ≡ set b' x (to_z w32 (of_z w32 z))) where
      laid : Laid base.Int 0 (drop k t) b' b₁ (moved cs x y) (set (moved cs x y) 0 (get_or (moved cs x y) 0 0 + 1)) n
      laid = laid_of (leaf-scalar (sym (int_at_lem (drop k t)) ∙ e) (p ∙ ap (λ (i : ℕ). set b' i (to_z w32 (of_z w32 z))) (sym move.at-data)) refl) refl

      pub flags-fit : y + 1 < 2 ^ 64
      flags-fit = omega (arith, (flag-ready a.listing laid).1, move.at-flags)

      pub ints-item : {b₂ : List ℤ} → b₂ ≡ set b₁ y (pos 0) → Item base.Int 0 t b b₂ cs (moved cs (x + 1) (y + 1)) k n
      ints-item q =
          listing-item a.listing laid (q ∙ ap (λ (i : ℕ). set b₁ i (pos 0)) (sym move.at-flags)) (sym move.on)

-- an int is laid and its F too: what follows it
module _ {t : List ℕ} {b b' : List ℤ} {cs : List ℕ} (x y : ℕ) {k n : ℕ} (i : Item base.Int 0 t b b' cs (moved cs x y) k n) where
  pub ints-comma : {cs' : List ℕ} {j : ℕ} → cs' ≡ cs → Comma ≡ after_at t (k + n) → k + n + 1 ≡ j → Ints t b b' cs cs' x y j
  ints-comma s e p = record { listing = item-comma-at i e p; kept = s }

  module _ (e : Close ≡ after_at t (k + n)) where
    pub end_fits : y + 1 < 2 ^ 64
    end_fits = omega (arith, (end-ready i e).1, (moves cs x y i.ready.levels).at-end)

    pub ints-close : {b₁ : List ℤ} {cs₁ : List ℕ} → b₁ ≡ set b' y (pos 1) → cs₁ ≡ moved cs x (y + 1) → ReadAs base.Int 1 t b b₁ cs cs₁ (Some (k + n + 1))
    ints-close p q =
        item-close i e
        (p ∙ ap (λ (j : ℕ). set b' j (pos 1)) (sym (moves cs x y i.ready.levels).at-end))
        (q ∙ sym (moves cs x y i.ready.levels).ends)
