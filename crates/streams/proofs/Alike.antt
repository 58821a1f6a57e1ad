-- A call works on elements, whatever they are: an answer with the same elements is the same to it. So Const, Distr and Pack on ints serve bools too.
use Prim.Native.Nat.{ℕ}
use mathlib.Core.Bool.{true, false}
use mathlib.Core.List.{List, ◌++◌}
use mathlib.Core.Option.{Option, some, none}
use mathlib.Core.Path.{◌≡◌, refl, ◌∙◌, ap}
use lib.Dec.{leb}
use lib.IntN.{ℤ}
use lib.ListN.{length, drop, length-map}
use Rattle.std.specs.Prelude.{Result, Ok, Err}
use Rattle.snesl.specs.declared.code.Base.{Base}
use Rattle.snesl.specs.declared.code.Base.TheVariants.{Int, Bool}
use Rattle.snesl.specs.Values.{Element}
use Rattle.snesl.specs.Streams.{Stream, ints, data_of, bit, len, elements}
use Rattle.snesl.specs.Transducers.{Answer, made, unless}
use Rattle.streams.specs.Answers.{Answers, answered, after}
use Rattle.streams.specs.declared.output.Failure.{Failure}
use Rattle.streams.specs.declared.output.Failure.TheVariants.{NoRoom}

pub data Alike : Answer → Answer → Type 0 where
  same_answer : {x y : Answer} → x ≡ y → Alike x y
  same-elements : {s s' : Stream} → elements s ≡ elements s' → len s ≡ len s' → Alike (made s) (made s')

pub answers-alike : {old new : List ℤ} {r : Result ℕ Failure} {x y : Answer} → Alike x y → Answers old x r new → Answers old y r new
answers-alike {old} {new} (same_answer e) a =
    record { says = a.says ∙ ap (answered (length old)) e; leaves = a.leaves ∙ ap (after old new) e }
answers-alike {old} {new} (same-elements {s} {s'} e l) a =
    record {
      says = a.says ∙ (λ i. elim (leb (length (e i)) (length old)) [ true ↦ Ok (l i) | false ↦ Err NoRoom ]);
      leaves = a.leaves ∙ (λ i. elim (leb (length (e i)) (length old)) [ true ↦ e i ++ drop (length (e i)) old | false ↦ old ]);
    }

-- data of a base as it stands in the buffer, and an answer with it
pub data-long : (b : Base) (xs : List (Element b)) → length (elements (data_of b xs)) ≡ len (data_of b xs)
data-long Int xs = refl
data-long Bool xs = length-map xs bit

pub alike-data : (o : Option ℕ) (why : ℕ → Answer) (zs : List ℤ) (b : Base) (xs : List (Element b)) → zs ≡ elements (data_of b xs)
    → Alike (unless o why (made (ints zs))) (unless o why (made (data_of b xs)))
alike-data none why zs b xs e = same-elements e (ap length e ∙ data-long b xs)
alike-data (some k) why zs b xs e = same_answer refl
