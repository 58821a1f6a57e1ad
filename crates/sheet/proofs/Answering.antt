-- The answer's text: the streams of the result's tree stand where its words say, so what is written is the text of the value that they hold.
use Prim.Native.Nat.{ℕ, ◌+◌, ◌*◌, ◌≤◌, ◌<◌}
use mathlib.Core.List.{List, [], ◌∷◌, ◌++◌}
use mathlib.Core.Option.{some}
use mathlib.Core.Path.{◌≡◌, sym, ap, ◌∙◌}
use native.Mathlib.Omega.{arith}
use borrow.Author.Tests.{le-leb, lt-leb}
use lib.IntN.{ℤ}
use lib.ListN.{length, get_or, drop}
use lib.Seq.{sets-eq}
use Rattle.environment.specs.declared.machine.Machine.{Machine}
use Rattle.environment.specs.Words.{tree_words, tree_size}
use Rattle.environment.proofs.Finding.{length-tree}
use Rattle.environment.proofs.Stack.{front-within}
use Rattle.snesl.specs.declared.refusal.Refusal.TheVariants.{NoAnswerRoom}
use Rattle.snesl.specs.declared.code.Base.{Base}
use Rattle.snesl.specs.Limits.{most_depth}
use Rattle.snesl.specs.Values.{ValueType, depth_of, type_of, Val}
use Rattle.snesl.specs.Trees.{IdTree, map_tree}
use Rattle.snesl.specs.Streams.{Store, ◌!◌, contents, room}
use Rattle.snesl.specs.Representation.{represent, Holds, values}
use Rattle.steps.proofs.Executing.{next-element, spent-is, counted_is}
use Rattle.steps.specs.Holding.{place}
use Rattle.snesl.specs.Machine.{State}
use Rattle.snesl.specs.Text.{show}
use Rattle.snesl.specs.Outcome.{refusal, value, elements_of, text_of_first, answer_text, answered, answer_after}
use Rattle.snesl.proofs.Types.{depth-of-type}
use Rattle.snesl.proofs.Representing.Representation.{holds-streams, values-represent}
use Rattle.snesl.proofs.Representing.Trees.{map_tree-map_tree}
use Rattle.rendering.specs.Standing.{Stands}
use Rattle.rendering.specs.Rendering.{ValueStands, ShowsValue}
use Rattle.std.specs.Prelude.{Result, Ok, Err}
use Rattle.sheet.specs.Runs.{ran_of, Finished, Shows}
use Rattle.sheet.proofs.Starts.{tree-stands}

-- the text that is read from a tree's streams is that of the value which they hold
text_of : {σ : Store} {τ : ValueType} {t : IdTree τ} {v : Val τ} → Holds σ τ t (v ∷ []) → answer_text τ t σ ≡ show τ v
text_of {σ} {τ} {t} {v} h =
    ap (λ (vs : List (Val τ)). text_of_first τ vs)
    (ap (values τ) (sym (map_tree-map_tree elements_of (λ s. σ ! s) t) ∙ ap (map_tree elements_of) (holds-streams h) ∙ map_tree-map_tree elements_of some (represent τ (v ∷ [])))
    ∙ values-represent τ (v ∷ []))

-- a text that fits, and one that does not
module _ (lent : ℕ) (text : List ℕ) (m : State) where
  fits : length text ≤ lent → answered lent text m ≡ value text m.work m.steps (room m.store) (contents m.store)
  fits h = rw (le-leb (length text) lent h, answered)

  passes : lent < length text → answered lent text m ≡ refusal (NoAnswerRoom (length text))
  passes h = rw (lt-leb (length text) lent h, answered)

module _ (β : Base) (d : ℕ) {from : ℕ} {env : List ℕ} {buf : List ℤ} {counts : Machine} (g : Finished (type_of β d) from env buf counts) where
  pub shallow : d ≤ most_depth
  shallow = omega (arith, g.shallow, depth-of-type β d)

  pub words-within : from + 3 * (d + 1) ≤ length env
  words-within =
      omega (
        arith,
        front-within env from (tree_size (depth_of (type_of β d))) (tree_words (map_tree (place g.machine.store) g.tree)) g.rest g.words
            (length-tree (map_tree (place g.machine.store) g.tree))
            (omega arith),
        depth-of-type β d,
      )

  text-is : answer_text (type_of β d) g.tree g.machine.store ≡ show (type_of β d) g.result
  text-is = text_of g.holds

  module _ (places : List ℕ) (s : (i : ℕ) → i < d + 1 → get_or places i 0 ≡ get_or env (from + (3 * i + 1)) 0) where
    stands : Stands β d buf places (g.result ∷ [])
    stands = tree-stands g.held β d g.tree (g.result ∷ []) g.holds env from g.rest g.words places s

    pub value-stands : length places ≡ 9 → ValueStands β d buf places
    value-stands l =
        record {
          value = g.result;
          stands = stands;
          shallow = shallow;
          levels = omega (arith, shallow);
          lent = omega (arith, g.held.short);
        }

    module _ {none : List ℕ} {n : ℕ} (w : ShowsValue β d buf places [] none n) where
      long : n ≡ length (show (type_of β d) g.result)
      long = omega (arith, (w.written g.result stands).count)

      pub too_long : (answer : List ℕ) → length answer < n
          → Shows (answered (length answer) (answer_text (type_of β d) g.tree g.machine.store) g.machine) answer answer (Err (NoAnswerRoom n))
      too_long answer h =
          let o : answered (length answer) (answer_text (type_of β d) g.tree g.machine.store) g.machine ≡ refusal (NoAnswerRoom (length (show (type_of β d) g.result))) =
          ap (λ (t : List ℕ). answered (length answer) t g.machine) text-is
          ∙ passes (length answer) (show (type_of β d) g.result) g.machine (omega (arith, long)) in
          record {
            says = ap (λ (k : ℕ). Err (NoAnswerRoom k)) long ∙ sym (ap ran_of o);
            answer-is = sym (ap (answer_after answer) o);
          }

      pub written : (answer new : List ℕ) {k : ℕ} → n ≤ length answer → ShowsValue β d buf places answer new k
          → Shows (answered (length answer) (answer_text (type_of β d) g.tree g.machine.store) g.machine) answer new
          (Ok (record { text = n; work = counts.work; steps = counts.steps; room = counts.room }))
      written answer new h u =
          let text = show (type_of β d) g.result in
          let o : answered (length answer) (answer_text (type_of β d) g.tree g.machine.store) g.machine
          ≡ value text g.machine.work g.machine.steps (room g.machine.store) (contents g.machine.store) =
          ap (λ (t : List ℕ). answered (length answer) t g.machine) text-is
          ∙ fits (length answer) text g.machine (omega (arith, long)) in
          let work : counts.work ≡ g.machine.work = spent-is g.held in
          let steps : counts.steps ≡ g.machine.steps = counted_is g.held in
          let roomy : counts.room ≡ room g.machine.store = next-element g.held in
          let all : 0 + length text ≤ length answer = omega (arith, long) in
          let start : 0 + length text ≡ length text = omega arith in
          record {
            says =
                (λ i. Ok (record { text = long i; work = work i; steps = steps i; room = roomy i }))
                ∙ sym (ap ran_of o);
            answer-is =
                (u.written g.result stands).content
                ∙ (sets-eq text answer 0 all
                ∙ (ap (λ (j : ℕ). text ++ drop j answer) start ∙ sym (ap (answer_after answer) o)));
          }
