-- Refusal 9 for inputs (01): `input_over` is the first id of the first input with which the room really passes the buffer, and says nothing where all fit.
use Prim.Native.Nat.{ℕ, zero, suc, ◌+◌, ◌<◌, ◌≤◌}
use native.Mathlib.Omega.{arith}
use mathlib.Core.Bool.{Bool, true, false}
use mathlib.Core.List.{List, [], ◌∷◌, ◌++◌}
use mathlib.Core.Logic.{◌↔◌}
use mathlib.Core.Option.{some, none}
use mathlib.Core.Path.{◌≡◌, refl, sym, ◌∙◌, ap}
use borrow.Author.Tests.{leb-true, leb-false, le-leb, lt-leb}
use lib.Dec.{leb}
use lib.ListN.{length, take}
use lib.Seq.{take-append-add}
use Rattle.laws.proofs.Options.{none-some}
use Rattle.snesl.specs.Values.{ValueType, depth_of, Val}
use Rattle.snesl.specs.Terms.{All, ∅, ◌▹◌}
use Rattle.snesl.specs.Streams.{contents, room}
use Rattle.snesl.specs.Trees.{order}
use Rattle.snesl.specs.Representation.{represent}
use Rattle.snesl.specs.Inputs.{input_start, input_streams, input_over}
use Rattle.snesl.proofs.Bounded.Room.{room-append}
use Rattle.snesl.proofs.Representing.Trees.{length-order}

-- the room of one input
abbrev taken : (τ : ValueType) → Val τ → ℕ
taken τ v = room (order (represent τ (v ∷ [])))

-- the clauses of `input_over`
module _ {τs : List ValueType} (cap held s : ℕ) (τ : ValueType) (v : Val τ) (vs : All Val τs) where
  fits_on : held + taken τ v ≤ cap → input_over cap held s (◌▹◌ {τ = τ} v vs) ≡ input_over cap (held + taken τ v) (s + suc (depth_of τ)) vs
  unfolding input_over
  fits_on h = rw (le-leb (held + taken τ v) cap h, input_over)

  passes-here : cap < held + taken τ v → input_over cap held s (◌▹◌ {τ = τ} v vs) ≡ some s
  unfolding input_over
  passes-here h = rw (lt-leb (held + taken τ v) cap h, input_over)

-- the room of an input and of some ids behind it
first-room : {τs : List ValueType} (τ : ValueType) (v : Val τ) (vs : All Val τs) (n : ℕ)
    → room (take (suc (depth_of τ) + n) (input_streams (◌▹◌ {τ = τ} v vs))) ≡ taken τ v + room (take n (input_streams vs))
unfolding input_streams
first-room τ v vs n =
    let ts = order (represent τ (v ∷ [])) in
    ap (λ k. room (take (k + n) (ts ++ input_streams vs))) (sym (length-order (represent τ (v ∷ []))))
    ∙ ap room (take-append-add ts (input_streams vs) n)
    ∙ room-append ts (take n (input_streams vs))

-- the room of an input and of all behind it
all_room : {τs : List ValueType} (τ : ValueType) (v : Val τ) (vs : All Val τs) → room (input_streams (◌▹◌ {τ = τ} v vs)) ≡ taken τ v + room (input_streams vs)
unfolding input_streams
all_room τ v vs = room-append (order (represent τ (v ∷ []))) (input_streams vs)

-- it says nothing exactly where all inputs fit
fits-if-none : {τs : List ValueType} (cap held s : ℕ) (vs : All Val τs) → held ≤ cap → input_over cap held s vs ≡ none → held + room (input_streams vs) ≤ cap
unfolding input_streams contents
fits-if-none cap held s ∅ h e = omega arith
fits-if-none {τs} cap held s (◌▹◌ {τ = τ} v vs) h e =
    go (λ k q. fits-if-none cap (held + taken τ v) (s + suc (depth_of τ)) vs k q) (leb (held + taken τ v) cap) refl
  where
    go : (held + taken τ v ≤ cap → input_over cap (held + taken τ v) (s + suc (depth_of τ)) vs ≡ none → held + taken τ v + room (input_streams vs) ≤ cap)
        → (b : Bool) → leb (held + taken τ v) cap ≡ b → held + room (input_streams (◌▹◌ {τ = τ} v vs)) ≤ cap
    go below true q =
        let fit = leb-true _ _ q in
        let k = below fit (sym (fits_on cap held s τ v vs fit) ∙ e) in
        let r = all_room τ v vs in
        omega arith
    go below false q = none-some (sym e ∙ passes-here cap held s τ v vs (leb-false _ _ q))

none-if-fits : {τs : List ValueType} (cap held s : ℕ) (vs : All Val τs) → held + room (input_streams vs) ≤ cap → input_over cap held s vs ≡ none
unfolding input_over
none-if-fits cap held s ∅ h = refl
none-if-fits cap held s (◌▹◌ {τ = τ} v vs) h =
    let r = all_room τ v vs in
    fits_on cap held s τ v vs (omega arith) ∙ none-if-fits cap (held + taken τ v) (s + suc (depth_of τ)) vs (omega arith)

pub none_over : {τs : List ValueType} (cap : ℕ) (vs : All Val τs) → (input_over cap 0 0 vs ≡ none) ↔ (room (input_streams vs) ≤ cap)
none_over cap vs = (
  λ e. let k = fits-if-none cap 0 0 vs (omega arith) e in omega arith,
  λ h. none-if-fits cap 0 0 vs (omega arith),
)

-- Some input has this first id; with those before it the room is within the buffer, and with it the room passes it. Held already, and given out already:
-- so much and ids below s.
record Over {τs : List ValueType} (cap held s : ℕ) (vs : All Val τs) (at : ℕ) : Type 0 where
  input : ℕ
  there : input < length τs
  first : at ≡ s + input_start (take input τs)
  before : held + room (take (input_start (take input τs)) (input_streams vs)) ≤ cap
  passed : cap < held + room (take (input_start (take (suc input) τs)) (input_streams vs))

over-if-some : {τs : List ValueType} (cap held s at : ℕ) (vs : All Val τs) → held ≤ cap → input_over cap held s vs ≡ some at → Over cap held s vs at
unfolding input_over input_start contents
over-if-some cap held s at ∅ h e = none-some e
over-if-some {τs} cap held s at (◌▹◌ {τ = τ} {Γ = τs'} v vs) h e =
    go (λ k q. over-if-some cap (held + taken τ v) (s + suc (depth_of τ)) at vs k q) (leb (held + taken τ v) cap) refl
  where
    go : (held + taken τ v ≤ cap → input_over cap (held + taken τ v) (s + suc (depth_of τ)) vs ≡ some at → Over cap (held + taken τ v) (s + suc (depth_of τ)) vs at)
        → (b : Bool) → leb (held + taken τ v) cap ≡ b → Over cap held s (◌▹◌ {τ = τ} v vs) at
    go below true q =
        let fit = leb-true _ _ q in
        let o = below fit (sym (fits_on cap held s τ v vs fit) ∙ e) in
        record {
          input = suc o.input;
          there = omega (arith, o.there);
          first = omega (arith, o.first);
          before = let r = first-room τ v vs (input_start (take o.input τs')) in omega (arith, o.before);
          passed = let r = first-room τ v vs (input_start (take (suc o.input) τs')) in omega (arith, o.passed);
        }
    go below false q =
        let over = leb-false _ _ q in
        let same : some s ≡ some at = sym (passes-here cap held s τ v vs over) ∙ e in
        let here : s ≡ at = cc in
        record {
          input = 0;
          there = omega arith;
          first = omega arith;
          before = omega arith;
          passed = let r = first-room τ v vs 0 in omega arith;
        }

some-if-over : {τs : List ValueType} (cap held s at i : ℕ) (vs : All Val τs)
    → i < length τs
    → at ≡ s + input_start (take i τs)
    → held + room (take (input_start (take i τs)) (input_streams vs)) ≤ cap
    → cap < held + room (take (input_start (take (suc i) τs)) (input_streams vs))
    → input_over cap held s vs ≡ some at
unfolding input_start contents
some-if-over cap held s at i ∅ there first before passed = absurd (omega arith)
some-if-over cap held s at zero (◌▹◌ {τ = τ} v vs) there first before passed =
    let r = first-room τ v vs 0 in
    let here : s ≡ at = omega arith in
    passes-here cap held s τ v vs (omega arith) ∙ ap some here
some-if-over cap held s at (suc i) (◌▹◌ {τ = τ} {Γ = τs} v vs) there first before passed =
    let r = first-room τ v vs (input_start (take i τs)) in
    let q = first-room τ v vs (input_start (take (suc i) τs)) in
    fits_on cap held s τ v vs (omega arith)
    ∙ some-if-over cap (held + taken τ v) (s + suc (depth_of τ)) at i vs (omega arith) (omega arith) (omega arith) (omega arith)

-- the input number i is the first with which the room passes the buffer, and its first id is s
abbrev pub FirstOver : {τs : List ValueType} → (cap s : ℕ) → All Val τs → Type 0
FirstOver {τs} cap s vs =
    (i : ℕ)
    × (i < length τs)
    × (s ≡ input_start (take i τs))
    × (room (take s (input_streams vs)) ≤ cap)
    × (cap < room (take (input_start (take (suc i) τs)) (input_streams vs)))

pub some-over : {τs : List ValueType} (cap s : ℕ) (vs : All Val τs) → (input_over cap 0 0 vs ≡ some s) ↔ FirstOver cap s vs
some-over {τs} cap s vs = (there, back)
  where
    there : input_over cap 0 0 vs ≡ some s → FirstOver cap s vs
    there e =
        let o = over-if-some cap 0 0 s vs (omega arith) e in
        let first : s ≡ input_start (take o.input τs) = omega (arith, o.first) in (
          o.input,
          o.there,
          first,
          rw first (omega (arith, o.before)),
          omega (arith, o.passed),
        )

    back : FirstOver cap s vs → input_over cap 0 0 vs ≡ some s
    back h =
        let before : room (take (input_start (take h.0 τs)) (input_streams vs)) ≤ cap = rw h.2 at h.3 in
        some-if-over cap 0 0 s h.0 vs h.1 (omega (arith, h.2)) (omega arith) (omega (arith, h.4))
