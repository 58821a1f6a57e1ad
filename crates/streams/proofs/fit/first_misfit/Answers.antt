-- `fit::first_misfit`: at every list of as many items as there are.
use Prim.Native.Nat.{ℕ, ◌+◌, ◌-◌, ◌≤◌, ◌<◌}
use mathlib.Core.Bool.{Bool, true, false}
use mathlib.Core.List.{List, [], ◌∷◌}
use mathlib.Core.Path.{◌≡◌, sym, ◌∙◌, ap}
use native.Mathlib.Numerals.{add-one}
use native.Mathlib.Omega.{arith}
use lib.Dec.{ltb}
use lib.IntN.{ℤ, pos}
use lib.ListN.{length, drop, get_or, length-drop, drop_of_length-le}
use lib.Seq.{drop-cons, drop-drop}
use Rattle.std.specs.Prelude as rust
use Rattle.std.specs.Prelude.{Ok, Err}
use Rattle.snesl.specs.Transducers.{Feed, takes, flag_of, misfit}
use Rattle.flags.specs.Flags.{found}
use Rattle.laws.proofs.Never.{never}
use Rattle.streams.specs.Walks.{steps, taking, told}
use Rattle.streams.specs.declared.output.Failure.TheVariants.{Unfit}
use Rattle.streams.specs.declared.fit.Turn.{Turn}
use Rattle.streams.proofs.Turns.{same-turn, goes_on, stops, end-due, end-left, end_fits}
use Rattle.streams.proofs.fit.first_misfit.Invariants.{Head}
use Rattle.streams.proofs.fit.first_misfit.Goals as goal
use Rattle.streams.proofs.fit.first_misfit.Goals.{then-k-n-via-then-k-n, then-k-n-via-else-k-n+then-j-items}

-- a flag takes at most one item and ends at most one segment
taking-little : (b left : Bool) (d : ℕ) (r : Turn) → d ≤ 1 → taking b left d ≡ rust.Some r → (r.taken ≤ 1) × (r.ended ≤ 1)
taking-little false left d r h p = let z = same-turn p in omega (arith, z)
taking-little true true d r h p = let z = same-turn p in omega (arith, z)
taking-little true false d r h p = never (cc)

little : (b : rust.Option Bool) (due left f t : Bool) (r : Turn) → steps b due left f t ≡ rust.Some r → (r.taken ≤ 1) × (r.ended ≤ 1)
little b false left f t r p = never (cc)
little (rust.Some false) true left f t r p = taking-little f left 0 r (omega arith) p
little (rust.Some true) true left f t r p = taking-little t left 1 r (omega arith) p
little rust.None true left f t r p = never (cc)

module _ {flags : List ℤ} {n items : ℕ} {f t : Bool} {i j k : ℕ} (h : Head flags n items f t i j k) where
  left : (xs : List ℤ) → length xs ≡ items → j ≤ items → j + length (drop j xs) ≡ items
  left xs l g = let m : length (drop j xs) ≡ length xs - j = length-drop j xs in omega arith

  module _ (lt : i < length flags) {b : rust.Option Bool} (read : b ≡ found (flag_of (get_or flags i (pos 0)))) {r : rust.Option Turn}
      (answer : r ≡ steps b (ltb k n) (ltb j items) f t) where
    next : drop i flags ≡ get_or flags i (pos 0) ∷ drop (i + 1) flags
    next = drop-cons flags i (pos 0) lt ∙ ap (λ m. get_or flags i (pos 0) ∷ drop m flags) (sym (add-one i))

    -- the same answer, for a feed
    for : (feed : Feed) → takes feed false ≡ f → takes feed true ≡ t → {x : rust.Option Turn} → r ≡ x →
        steps (found (flag_of (get_or flags i (pos 0)))) (ltb k n) (ltb j items) (takes feed false) (takes feed true) ≡ x
    for feed p q e = (λ m. steps (sym read m) (ltb k n) (ltb j items) (p m) (q m)) ∙ sym answer ∙ e

    small : (x : Turn) → r ≡ rust.Some x → (x.taken ≤ 1) × (x.ended ≤ 1)
    small x p = little b (ltb k n) (ltb j items) f t x (sym answer ∙ p)

    turn : (x : Turn) → r ≡ rust.Some x → Head flags n items f t (i + 1) (j + x.taken) (k + x.ended)
    turn x p =
        let few : (j ≤ i) × (k ≤ i) = h.few in
        let tiny = small x p in
        record {
          few = omega arith;
          same = λ feed u v xs l.
              let s = h.same feed u v xs l in
              let w = goes_on flag_of feed k n j items (get_or flags i (pos 0)) (drop (i + 1) flags) (drop j xs) (left xs l s.0) x (for feed u v p) in (
                w.1,
                s.1
                    ∙ ap (λ bs. misfit flag_of feed k (n - k) bs (drop j xs)) next
                    ∙ w.0
                    ∙ ap (misfit flag_of feed (k + x.ended) (n - (k + x.ended)) (drop (i + 1) flags)) (drop-drop x.taken j xs),
              );
        }

    stop : r ≡ rust.None → (feed : Feed) → takes feed false ≡ f → takes feed true ≡ t → (xs : List ℤ) → length xs ≡ items →
        Err (Unfit k) ≡ told (λ x. Unfit x) (misfit flag_of feed 0 n flags xs)
    stop p feed u v xs l =
        let s = h.same feed u v xs l in
        sym
        (ap (told (λ x. Unfit x))
        (s.1
        ∙ ap (λ bs. misfit flag_of feed k (n - k) bs (drop j xs)) next
        ∙ stops flag_of feed k n j items (get_or flags i (pos 0)) (drop (i + 1) flags) (drop j xs) (left xs l s.0) (for feed u v p)))

  -- what the walk has before it, where it stopped
  module _ (end : length flags ≤ i) (feed : Feed) (u : takes feed false ≡ f) (v : takes feed true ≡ t) (xs : List ℤ) (l : length xs ≡ items) where
    over : misfit flag_of feed 0 n flags xs ≡ misfit flag_of feed k (n - k) [] (drop j xs)
    over = (h.same feed u v xs l).1 ∙ ap (λ bs. misfit flag_of feed k (n - k) bs (drop j xs)) (drop_of_length-le flags end)

    rest : j + length (drop j xs) ≡ items
    rest = left xs l (h.same feed u v xs l).0

    due : k < n → Err (Unfit k) ≡ told (λ x. Unfit x) (misfit flag_of feed 0 n flags xs)
    due g = sym (ap (told (λ x. Unfit x)) (over ∙ end-due flag_of feed k n (drop j xs) g))

    remains : j < items → Err (Unfit k) ≡ told (λ x. Unfit x) (misfit flag_of feed 0 n flags xs)
    remains g = sym (ap (told (λ x. Unfit x)) (over ∙ end-left flag_of feed k n (drop j xs) (omega (arith, rest))))

    fit : n ≤ k → items ≤ j → Ok tt ≡ told (λ x. Unfit x) (misfit flag_of feed 0 n flags xs)
    fit g e = sym (ap (told (λ x. Unfit x)) (over ∙ end_fits flag_of feed k n (drop j xs) g (omega (arith, rest))))

pub loop-i-preserved : goal.loop-i-preserved
loop-i-preserved c = turn c.loop-i.invariant c.loop-i-test.true c.flag_at.ensures c.step.ensures _ c.in-Some.is

pub returns-in_default : goal.returns-in_default
returns-in_default c = stop c.loop-i.invariant c.loop-i-test.true c.flag_at.ensures c.step.ensures c.in_default.is

pub returns-then-k-n : goal.returns-then-k-n
returns-then-k-n c feed u v xs l =
    elim c.then-k-n.branch [
      | then-k-n-via-then-k-n w ↦ due c.loop-i.invariant c.loop-i-test.false feed u v xs l w.if-k-n.true
      | then-k-n-via-else-k-n+then-j-items w ↦ remains c.loop-i.invariant c.loop-i-test.false feed u v xs l w.if-j-items.true
    ]

pub returns : goal.returns
returns c feed u v xs l = fit c.loop-i.invariant c.loop-i-test.false feed u v xs l c.if-k-n.false c.if-j-items.false
