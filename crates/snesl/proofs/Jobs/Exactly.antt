-- Which outcome an accepted job has, exactly: 8 where the rules give no value, 9 where the room passes the buffer, else the value or 10.
use Prim.Native.Nat.{ℕ, ◌+◌, ◌<◌, ◌≤◌}
use native.Mathlib.Omega.{arith}
use mathlib.Core.List.{List}
use mathlib.Core.Logic.{◌⊎◌, inl, inr, ⊎_elim, ◌↔◌}
use mathlib.Core.Option.{some, none}
use mathlib.Core.Path.{◌≡◌, refl, sym, ◌∙◌, ap, subst}
use lib.IntN.{ℤ}
use lib.ListN.{length, take}
use Rattle.laws.proofs.Options.{none-some}
use Rattle.snesl.specs.declared.refusal.Refusal.TheVariants.{NoValue, NoRoom, NoAnswerRoom}
use Rattle.snesl.specs.Limits.{used_of}
use Rattle.snesl.specs.Values.{Val}
use Rattle.snesl.specs.Evaluation.{eval}
use Rattle.snesl.specs.Charges.{charge, reached, count_true}
use Rattle.snesl.specs.Streams.{Store, contents, room}
use Rattle.snesl.specs.Machine.{full, stopped}
use Rattle.snesl.specs.Bounded.{Passes}
use Rattle.snesl.specs.Text.{show}
use Rattle.snesl.specs.Inputs.{input_over}
use Rattle.snesl.specs.Outcome.{Outcome, refusal, value, finished, loaded, executed, outcome}
use Rattle.snesl.specs.Demands.{Accepted, environment, program, result_tree, valueless, crowded, filled, unshown}
use Rattle.snesl.proofs.Bounded.Room.{full-iff}
use Rattle.snesl.proofs.Jobs.InputRoom.{none_over}
use Rattle.snesl.proofs.Jobs.Course.{outcome-executed, Course, refused-early, accepted, course}
use Rattle.snesl.proofs.Jobs.Ending.{Ending, short, shown, ending}

-- an outcome that is no 9
abbrev pub Roomy : Outcome → Type 0
Roomy o = (s : ℕ) → o ≡ refusal (NoRoom s) → ⊥

module _ {t : List ℕ} (a : Accepted t) (lent answer_lent : ℕ) where
  pub eight-exactly : Roomy (outcome t lent answer_lent)
      → ((s : ℕ) × (outcome t lent answer_lent ≡ refusal (NoValue s))) ↔ (eval a.term (environment a) ≡ none)
  eight-exactly roomy = (λ h. there (ending a lent answer_lent) h.1, λ h. back (ending a lent answer_lent) roomy h)
    where
      there : {s : ℕ} {o : Outcome} → Ending a (used_of lent) answer_lent o → o ≡ refusal (NoValue s) → eval a.term (environment a) ≡ none
      there (short (crowded e)) q = let z : ◌≡◌ {A = ℕ} 0 1 = cc in absurd (omega arith)
      there (short (filled e)) q = let z : ◌≡◌ {A = ℕ} 0 1 = cc in absurd (omega arith)
      there (short (valueless e rule c)) q = e
      there (short (unshown e c longer)) q = let z : ◌≡◌ {A = ℕ} 0 1 = cc in absurd (omega arith)
      there (shown e fits c w roomy) q = let z : ◌≡◌ {A = ℕ} 0 1 = cc in absurd (omega arith)

      back : {o : Outcome} → Ending a (used_of lent) answer_lent o → Roomy o → eval a.term (environment a) ≡ none
          → (s : ℕ) × (o ≡ refusal (NoValue s))
      back (short (crowded {s = s} e)) roomy h = absurd (roomy s refl)
      back (short (filled {s = s} e)) roomy h = absurd (roomy s refl)
      back (short (valueless {s = s} e rule c)) roomy h = (s, refl)
      back (short (unshown e c longer)) roomy h = none-some (sym h ∙ e)
      back (shown e fits c w roomy) _ h = none-some (sym h ∙ e)

  -- an outcome that answers this value, by its text if that fits
  abbrev Answers : Val a.type → Outcome → Type 0
  Answers v o =
      ((length (show a.type v) ≤ answer_lent)
      × (r : ℕ)
      × (held : List ℤ)
      × (o ≡ value (show a.type v) (charge a.term (environment a)) (count_true (reached a.term (environment a))) r held))
      ⊎ ((answer_lent < length (show a.type v)) × (o ≡ refusal (NoAnswerRoom (length (show a.type v)))))

  pub value-exactly : {v : Val a.type} → Roomy (outcome t lent answer_lent) → eval a.term (environment a) ≡ some v
      → Answers v (outcome t lent answer_lent)
  value-exactly {v} = go (ending a lent answer_lent)
    where
      go : {o : Outcome} → Ending a (used_of lent) answer_lent o → Roomy o → eval a.term (environment a) ≡ some v → Answers v o
      go (short (crowded {s = s} e)) roomy h = absurd (roomy s refl)
      go (short (filled {s = s} e)) roomy h = absurd (roomy s refl)
      go (short (valueless e rule c)) roomy h = none-some (sym e ∙ h)
      go (short (unshown {v = w} e c longer)) roomy h =
          let same : w ≡ v = cc in
          inr (
            subst (λ u. answer_lent < length (show a.type u)) same longer,
            ap (λ u. refusal (NoAnswerRoom (length (show a.type u)))) same,
          )
      go (shown {v = w} {m = m} e fits c ran roomy) _ h =
          let same : w ≡ v = cc in
          let work : m.work ≡ charge a.term (environment a) = omega (arith, ran.work) in
          let steps : m.steps ≡ count_true (reached a.term (environment a)) = omega (arith, ran.steps) in
          inl (
            subst (λ u. length (show a.type u) ≤ answer_lent) same fits,
            room m.store,
            contents m.store,
            λ i. value (show a.type (same i)) (work i) (steps i) (room m.store) (contents m.store),
          )

  -- the bounded run is full at s exactly if the boundless one passes a store whose room is above the buffer's with the stream s, and with none before
  abbrev Fills : ℕ → Type 0
  Fills s =
      (τ : Store)
      × Passes (program a) 1 (loaded a.given) τ
      × (length τ ≡ s + 1)
      × (used_of lent < room τ)
      × (room (take s τ) ≤ used_of lent)

  pub nine-exactly : (s : ℕ)
      → (outcome t lent answer_lent ≡ refusal (NoRoom s))
      ↔ ((input_over (used_of lent) 0 0 a.given ≡ some s) ⊎ ((input_over (used_of lent) 0 0 a.given ≡ none) × Fills s))
  nine-exactly s = (there (ending a lent answer_lent), ⊎_elim over (λ h. full-of h.0 h.1))
    where
      there : {o : Outcome} → Ending a (used_of lent) answer_lent o → o ≡ refusal (NoRoom s)
          → (input_over (used_of lent) 0 0 a.given ≡ some s) ⊎ ((input_over (used_of lent) 0 0 a.given ≡ none) × Fills s)
      there (short (crowded {s = k} e)) q = let same : k ≡ s = cc in inl (e ∙ ap some same)
      there (short (filled {s = k} c)) q =
          let same : k ≡ s = cc in
          inr (c.loads, (full-iff (used_of lent) (program a) 1 (loaded a.given) ((none_over (used_of lent) a.given).0 c.loads) s).0 (c.runs ∙ ap (stopped full) same))
      there (short (valueless e rule c)) q = let z : ◌≡◌ {A = ℕ} 0 1 = cc in absurd (omega arith)
      there (short (unshown e c longer)) q = let z : ◌≡◌ {A = ℕ} 0 1 = cc in absurd (omega arith)
      there (shown e fits c w roomy) q = let z : ◌≡◌ {A = ℕ} 0 1 = cc in absurd (omega arith)

      over : input_over (used_of lent) 0 0 a.given ≡ some s → outcome t lent answer_lent ≡ refusal (NoRoom s)
      over e = outcome-executed a lent answer_lent ∙ ap (executed (used_of lent) answer_lent a.inputs a.term a.given) e

      full-of : input_over (used_of lent) 0 0 a.given ≡ none → Fills s → outcome t lent answer_lent ≡ refusal (NoRoom s)
      full-of e h =
          outcome-executed a lent answer_lent
          ∙ ap (executed (used_of lent) answer_lent a.inputs a.term a.given) e
          ∙ ap (finished a.type answer_lent (result_tree a))
          ((full-iff (used_of lent) (program a) 1 (loaded a.given) ((none_over (used_of lent) a.given).0 e) s).1 h)

-- a value's room is what is held, and lies within the buffer
pub value-fits : (t : List ℕ) (lent answer_lent : ℕ) {text : List ℕ} {work steps r : ℕ} {held : List ℤ}
    → outcome t lent answer_lent ≡ value text work steps r held
    → (r ≤ used_of lent) × (length held ≡ r)
value-fits t lent answer_lent {text} {work} {steps} {r} {held} = go (course t lent answer_lent)
  where
    of : {a : Accepted t} {o : Outcome} → Ending a (used_of lent) answer_lent o → o ≡ value text work steps r held → (r ≤ used_of lent) × (length held ≡ r)
    of (short (crowded e)) q = let z : ◌≡◌ {A = ℕ} 0 1 = cc in absurd (omega arith)
    of (short (filled c)) q = let z : ◌≡◌ {A = ℕ} 0 1 = cc in absurd (omega arith)
    of (short (valueless e rule c)) q = let z : ◌≡◌ {A = ℕ} 0 1 = cc in absurd (omega arith)
    of (short (unshown e c longer)) q = let z : ◌≡◌ {A = ℕ} 0 1 = cc in absurd (omega arith)
    of (shown {m = m} e fits c w roomy) q =
        let same : room m.store ≡ r = cc in
        let stands : contents m.store ≡ held = cc in
        (omega arith, omega (arith, ap length stands))

    go : Course t lent answer_lent → outcome t lent answer_lent ≡ value text work steps r held → (r ≤ used_of lent) × (length held ≡ r)
    go (refused-early away early e) q = let z : ◌≡◌ {A = ℕ} 0 1 = cc in absurd (omega arith)
    go (accepted a) q = of (ending a lent answer_lent) q
