-- What `list` left is what the listing program prints, or is to be followed by a refusal's line.
use Prim.Native.Nat.{ℕ, ◌≤◌}
use native.Mathlib.Omega.{arith}
use mathlib.Core.Bool.{Bool, true, false}
use mathlib.Core.List.{List}
use mathlib.Core.Path.{◌≡◌, refl, sym, ap, ◌∙◌, subst}
use borrow.Author.Tests.{leb-true}
use lib.Dec.{leb}
use lib.ListN.{length}
use lib.Seq.{length-sets}
use Rattle.snesl.specs.declared.refusal.Refusal.{Refusal}
use Rattle.snesl.specs.declared.refusal.Refusal.TheVariants.{NoAnswerRoom}
use Rattle.snesl.specs.Checking.{Typed, typed, context, check_formula}
use Rattle.snesl.specs.Records.{Input, Front, refused, front, read_formula}
use Rattle.snesl.specs.Listing as listing
use Rattle.snesl.specs.Listing.{listing, room_for, listed_typed, listed_front}
use Rattle.snesl.specs.Report.{refusal_line, list_lines}
use Rattle.decimals.specs.Writing.{Writes}
use Rattle.std.specs.Prelude.{Ok, Err}
use Rattle.lister.specs.Lists.{listed_answer, text_after}
use Rattle.lister.proofs.Listing.{stored}

-- a listed text has room
room_fits : (lent : ℕ) (text : List ℕ) {w : List ℕ} → room_for lent text ≡ listing.listed w → length w ≤ lent
room_fits lent text {w} = go (leb (length text) lent) refl
  where
    go : (b : Bool) → leb (length text) lent ≡ b
        → ◌≡◌ {A = listing.Listed} (elim b [ true ↦ listing.listed text | false ↦ listing.unlisted (NoAnswerRoom (length text)) ]) (listing.listed w)
        → length w ≤ lent
    go true e h = let same : text ≡ w = cc in omega (arith, leb-true (length text) lent e, ap length same)
    go false e h = let z : ◌≡◌ {A = ℕ} 0 1 = cc in absurd (omega arith)

listed-fits : (lent : ℕ) (t : List ℕ) {w : List ℕ} → listing lent t ≡ listing.listed w → length w ≤ lent
listed-fits lent t {w} = fronts (read_formula t)
  where
    typings : (is : List Input) (y : Typed (context is)) → listed_typed lent is y ≡ listing.listed w → length w ≤ lent
    typings is (Typed.refused r) h = let z : ◌≡◌ {A = ℕ} 0 1 = cc in absurd (omega arith)
    typings is (typed d e) h = room_fits lent (listing.listing_text is e) h

    fronts : (f : Front) → listed_front lent f ≡ listing.listed w → length w ≤ lent
    fronts (refused r) h = let z : ◌≡◌ {A = ℕ} 0 1 = cc in absurd (omega arith)
    fronts (front is k e next) h = typings is (check_formula is e) h

-- the text of an answer, whatever was listed
abbrev Prints : (old new : List ℕ) → listing.Listed → ℕ → Type 0
Prints old new l n = Writes old new 0 (list_lines l) n × (53 ≤ length old → n ≤ length old)

pub listed-printed : (t old : List ℕ) {new : List ℕ} {n : ℕ}
    → Ok n ≡ listed_answer (listing (length old) t)
    → new ≡ text_after old (listing (length old) t)
    → Prints old new (listing (length old) t) n
listed-printed t old {new} {n} = go (listing (length old) t) (λ w. listed-fits (length old) t)
  where
    go : (l : listing.Listed) → ((w : List ℕ) → l ≡ listing.listed w → length w ≤ length old) → Ok n ≡ listed_answer l → new ≡ text_after old l → Prints old new l n
    go (listing.unlisted r) f e h = let z : ◌≡◌ {A = ℕ} 0 1 = cc in absurd (omega arith)
    go (listing.listed w) f e h =
        let fits = f w refl in
        let same : n ≡ length w = cc in
        (record { content = h ∙ sym (stored w old fits); count = omega arith }, λ _. omega arith)

pub refusal-printed : (t old : List ℕ) {r : Refusal} {mid new : List ℕ} {n : ℕ}
    → Err r ≡ listed_answer (listing (length old) t)
    → mid ≡ text_after old (listing (length old) t)
    → Writes mid new 0 (refusal_line r) n × (n ≤ 53)
    → Prints old new (listing (length old) t) n
refusal-printed t old {r} {mid} {new} {n} = go (listing (length old) t)
  where
    go : (l : listing.Listed) → Err r ≡ listed_answer l → mid ≡ text_after old l → Writes mid new 0 (refusal_line r) n × (n ≤ 53) → Prints old new l n
    go (listing.unlisted q) e h w =
        let same : r ≡ q = cc in
        (subst (λ (m : List ℕ). Writes m new 0 (refusal_line q) n) h (subst (λ (p : Refusal). Writes mid new 0 (refusal_line p) n) same w.0), λ enough. omega (arith, w.1))
    go (listing.listed text) e h w = let z : ◌≡◌ {A = ℕ} 0 1 = cc in absurd (omega arith)

-- where a refusal's line has room, all that is printed has been written
pub printed-within : {old new w : List ℕ} {n : ℕ} → 53 ≤ length old → Writes old new 0 w n × (53 ≤ length old → n ≤ length old) → n ≤ length new
printed-within {old} {w = w} h p = omega (arith, p.1 h, ap length p.0.content, length-sets old 0 w)
