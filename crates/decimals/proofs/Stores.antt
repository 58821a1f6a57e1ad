-- Runs of stores into a list, clipped at its end (`sets` of lib.Seq): one after another, in front of one another, and side by side. Over any element type.
use Rattle.std.proofs.Common.{◌≡◌, ℕ, suc, ◌+◌, ◌<◌, ◌≤◌, List, [], ◌∷◌, ◌++◌, length, set, sym, refl, ap, ◌∙◌, subst, add-zero, add-suc, suc-add, arith, length-append}
use lib.Seq.{sets, set_comm}
use Rattle.decimals.specs.Writing.{Writes}

module _ {A : Type 0} where
  -- what follows is stored behind
  pub sets-append : (l : List A) (i : ℕ) (vs ws : List A) → sets (sets l i vs) (i + length vs) ws ≡ sets l i (vs ++ ws)
  sets-append l i [] ws = ap (λ (j : ℕ). sets l j ws) (add-zero i)
  sets-append l i (v ∷ vs) ws =
      ap (λ (j : ℕ). sets (sets (set l i v) (suc i) vs) j ws) (add-suc i (length vs) ∙ sym (suc-add i (length vs)))
      ∙ sets-append (set l i v) (suc i) vs ws

  -- a store before a run
  pub set_before : (l : List A) (i : ℕ) (a : A) (j : ℕ) (vs : List A) → i < j → sets (set l i a) j vs ≡ set (sets l j vs) i a
  set_before l i a j [] h = refl
  set_before l i a j (v ∷ vs) h =
      ap (λ (m : List A). sets m (suc j) vs) (set_comm l i j a v (λ e. omega arith))
      ∙ set_before (set l j v) i a (suc j) vs (omega arith)

  pub set_front : (l : List A) (i : ℕ) (a : A) (vs : List A) → set (sets l (suc i) vs) i a ≡ sets l i (a ∷ vs)
  set_front l i a vs = sym (set_before l i a (suc i) vs (omega arith))

  -- two runs of which one ends before the other begins
  pub sets-comm : (l : List A) (i : ℕ) (vs : List A) (j : ℕ) (ws : List A) → i + length vs ≤ j → sets (sets l i vs) j ws ≡ sets (sets l j ws) i vs
  sets-comm l i [] j ws h = refl
  sets-comm l i (v ∷ vs) j ws h =
      let e : i + suc (length vs) ≡ suc i + length vs = omega arith in
      sets-comm (set l i v) (suc i) vs j ws (subst (λ (n : ℕ). n ≤ j) e h)
      ∙ ap (λ (m : List A). sets m (suc i) vs) (set_before l i v j ws (omega arith))

  -- nothing is stored into an empty list
  pub sets-none : (i : ℕ) (vs : List A) → sets [] i vs ≡ []
  sets-none i [] = refl
  sets-none i (v ∷ vs) = sets-none (suc i) vs

  -- ---- Writes

  pub writes_nothing : (l : List A) (i : ℕ) → Writes l l i [] i
  writes_nothing l i = record { content = refl; count = sym (add-zero i) }

  -- one part and then another
  pub writes_then : {l m n : List A} {i j k : ℕ} {vs ws : List A} → Writes l m i vs j → Writes m n j ws k → Writes l n i (vs ++ ws) k
  writes_then {l} {m} {n} {i} {j} {k} {vs} {ws} p q =
      record {
        content =
            q.content
            ∙ ap (λ (x : List A). sets x j ws) p.content
            ∙ ap (λ (x : ℕ). sets (sets l i vs) x ws) p.count
            ∙ sets-append l i vs ws;
        count = omega (arith, p.count, q.count, length-append vs ws);
      }
