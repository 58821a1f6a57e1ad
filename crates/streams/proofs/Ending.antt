-- The ways in which a transducer ends, whatever it is: its answer is settled by whether its streams fit (`mis`), then by whether an element has no value
-- (`bad`, answered by `why`), and else its output is s.
use Prim.Native.Nat.{ℕ, ◌+◌, ◌≤◌, ◌<◌}
use mathlib.Core.Bool.{true, false}
use mathlib.Core.List.{List, ◌++◌}
use mathlib.Core.Option.{Option, some, none}
use mathlib.Core.Path.{◌≡◌, refl, sym, ◌∙◌, ap}
use native.Mathlib.Nat.{zero-add}
use native.Mathlib.Omega.{arith}
use borrow.Author.Tests.{le-leb, lt-leb}
use lib.Dec.{leb}
use lib.IntN.{ℤ}
use lib.ListN.{length, drop}
use lib.Seq.{sets, sets-eq}
use Rattle.std.specs.Prelude.{Result, Ok, Err}
use Rattle.laws.proofs.Never.{never}
use Rattle.snesl.specs.Streams.{Stream, len, elements}
use Rattle.snesl.specs.Transducers.{Feed, takes, flag_of, misfit, Answer, made, unfit, outside, unless}
use Rattle.streams.specs.Answers.{Answers, answered, after}
use Rattle.streams.specs.Walks.{told, told_outside}
use Rattle.streams.specs.declared.output.Failure.{Failure}
use Rattle.streams.specs.declared.output.Failure.TheVariants.{Unfit, NoRoom}

-- ---- what a test of the streams told

pub told-ok : (why : ℕ → Failure) (m : Option ℕ) {r : Result (Unit {0}) Failure} {u : Unit {0}} → r ≡ told why m → r ≡ Ok u → m ≡ none
told-ok why none q e = refl
told-ok why (some k) q e = never (cc)

-- flags and items that the test of them let pass
pub fitted : (feed : Feed) (flags : List ℤ) (n : ℕ) (xs : List ℤ) {r : Result (Unit {0}) Failure} {u : Unit {0}} →
    ((g : Feed) → takes g false ≡ takes feed false → takes g true ≡ takes feed true → (ys : List ℤ) → length ys ≡ length xs → r ≡ told (λ k. Unfit k) (misfit flag_of g 0 n flags ys)) →
    r ≡ Ok u → misfit flag_of feed 0 n flags xs ≡ none
fitted feed flags n xs h e = told-ok (λ k. Unfit k) _ (h feed refl refl xs refl) e

-- ---- runs of stores from the start on

pub sets-front : (w l : List ℤ) → length w ≤ length l → sets l 0 w ≡ w ++ drop (length w) l
sets-front w l h = let room : 0 + length w ≤ length l = omega arith in sets-eq w l 0 room ∙ ap (λ m. w ++ drop m l) (zero-add (length w))

-- ---- the ends

module _ (mis bad : Option ℕ) (why : ℕ → Answer) (s : Stream) (old : List ℤ) where
  abbrev whole : Answer
  whole = unless mis unfit (unless bad why (made s))

  given : (a : Answer) {r : Result ℕ Failure} {new : List ℤ} → whole ≡ a → r ≡ answered (length old) a → new ≡ after old new a → Answers old whole r new
  given a {r} {new} e p q = record { says = p ∙ ap (answered (length old)) (sym e); leaves = q ∙ ap (after old new) (sym e) }

  -- streams that don't fit, as a test of them tells
  pub unfits : {u : Result (Unit {0}) Failure} {f : Failure} → u ≡ told Unfit mis → u ≡ Err f → Answers old whole (Err f) old
  unfits {u} {f} p e = go mis refl p
    where
      go : (m : Option ℕ) → mis ≡ m → u ≡ told Unfit m → Answers old whole (Err f) old
      go none q t = never (cc)
      go (some k) q t = let same : f ≡ Unfit k = cc in given (unfit k) (ap (λ o. unless o unfit (unless bad why (made s))) q) (ap (λ (g : Failure). Err g) same) refl

  pub makes : (n : ℕ) {new : List ℤ} → mis ≡ none → bad ≡ none → len s ≡ n → length (elements s) ≡ n → n ≤ length old → new ≡ sets old 0 (elements s) →
      Answers old whole (Ok n) new
  makes n {new} p q l m room w =
      let f : leb (length (elements s)) (length old) ≡ true = le-leb (length (elements s)) (length old) (omega arith) in
      given (made s) (λ i. unless (p i) unfit (unless (q i) why (made s)))
      (ap (λ (k : ℕ). Ok k) (sym l) ∙ sym (λ i. elim (f i) [ true ↦ Ok (len s) | false ↦ Err NoRoom ]))
      (w ∙ sets-front (elements s) old (omega arith) ∙ sym (λ i. elim (f i) [ true ↦ elements s ++ drop (length (elements s)) old | false ↦ old ]))

  -- no room, and every element has a value
  pub lacks-room : mis ≡ none → bad ≡ none → length old < length (elements s) → Answers old whole (Err NoRoom) old
  lacks-room p q h =
      let f : leb (length (elements s)) (length old) ≡ false = lt-leb (length (elements s)) (length old) h in
      given (made s) (λ i. unless (p i) unfit (unless (q i) why (made s)))
      (sym (λ i. elim (f i) [ true ↦ Ok (len s) | false ↦ Err NoRoom ]))
      (sym (λ i. elim (f i) [ true ↦ elements s ++ drop (length (elements s)) old | false ↦ old ]))

  -- a refusal that is met before anything is written
  pub refuses : (k : ℕ) (r : Result ℕ Failure) → mis ≡ none → bad ≡ some k → r ≡ answered (length old) (why k) → old ≡ after old old (why k) → Answers old whole r old
  refuses k r p q e f = given (why k) (λ i. unless (p i) unfit (unless (q i) why (made s))) e f

-- an element is out of range
module _ (mis bad : Option ℕ) (s : Stream) (old : List ℤ) where
  pub leaves-range : (k : ℕ) {r : Failure} {new : List ℤ} → mis ≡ none → bad ≡ some k → r ≡ told_outside bad →
      Answers old (unless mis unfit (unless bad outside (made s))) (Err r) new
  leaves-range k {r} {new} p q e =
      given mis bad outside s old (outside k) (λ i. unless (p i) unfit (unless (q i) outside (made s))) (ap (λ (f : Failure). Err f) (e ∙ ap told_outside q)) refl

  -- no room, and an element may be out of range
  pub too_long : {r : Failure} → mis ≡ none → length old < length (elements s) → r ≡ told_outside bad →
      Answers old (unless mis unfit (unless bad outside (made s))) (Err r) old
  too_long {r} p h e = go bad refl
    where
      go : (b : Option ℕ) → bad ≡ b → Answers old (unless mis unfit (unless bad outside (made s))) (Err r) old
      go (some k) q = leaves-range k p q e
      go none q =
          let full : r ≡ NoRoom = e ∙ ap told_outside q in
          rw full (lacks-room mis bad outside s old p q h)
