-- The places of an input's tree, one after another: ids that run up.
use Prim.Native.Nat.{ℕ, zero, suc, ◌+◌, ◌*◌, ◌≤◌}
use native.Mathlib.Omega.{arith}
use native.Mathlib.Nat.{add-zero}
use mathlib.Core.List.{List, [], ◌∷◌, ◌++◌}
use mathlib.Core.Path.{◌≡◌, refl, sym, ap, ◌∙◌}
use lib.ListN.{length, length-append}
use Rattle.laws.specs.Parts.{written}
use lib.Seq.{sets}
use Rattle.laws.proofs.Parts.{sets-written, sets-append}
use Rattle.snesl.specs.Trees.{order}
use Rattle.snesl.specs.Inputs.{input_tree}
use Rattle.environment.specs.Words.{tree_words}
use Rattle.environment.proofs.Stack.{length-written}
use Rattle.sink.specs.Trees.{Placing}
use Rattle.sink.specs.Trees as trees
use Rattle.sink.proofs.IdSearch.{tree-ids}
use Rattle.lister.specs.Inputs.{placed, places_of}

abbrev still : Placing
still = record { place = placed; named = λ s. refl }

abbrev id_words : List ℕ → List ℕ
id_words ss = trees.id_words still ss

-- words written behind words are words written
written-append : {A : Type 0} (at : ℕ) (u v l : List A) → at + length (u ++ v) ≤ length l → written at (u ++ v) l ≡ written (at + length u) v (written at u l)
written-append at u v l h =
    let fits : at + length u ≤ length l = omega (arith, length-append u v) in
    let same : length (written at u l) ≡ length l = length-written l at u fits in
    sym (sets-written at (u ++ v) l h)
    ∙ (sets-append u v l at
    ∙ (ap (λ m. sets m (at + length u) v) (sets-written at u l fits)
    ∙ sets-written (at + length u) v (written at u l) (omega (arith, length-append u v, same))))

-- s, s + 1, .., n of them
pub run : ℕ → ℕ → List ℕ
run s zero = []
run s (suc n) = run s n ++ (s + n) ∷ []

order-run : (s d : ℕ) → order (input_tree s d) ≡ run s (suc d)
unfolding order input_tree run
order-run s zero = ap (λ k. k ∷ []) (sym (add-zero s))
order-run s (suc d) = ap (λ l. l ++ (s + suc d) ∷ []) (order-run s d)

id-words-append : (ss ts : List ℕ) → id_words (ss ++ ts) ≡ id_words ss ++ id_words ts
unfolding trees.id_words
id-words-append [] ts = refl
id-words-append (s ∷ ss) ts = ap (λ l. s ∷ 0 ∷ 0 ∷ l) (id-words-append ss ts)

run-words : (s n : ℕ) → id_words (run s (suc n)) ≡ id_words (run s n) ++ ((s + n) ∷ 0 ∷ 0 ∷ [])
unfolding run trees.id_words
run-words s n = id-words-append (run s n) ((s + n) ∷ [])

run_length : (s n : ℕ) → length (id_words (run s n)) ≡ 3 * n
unfolding run trees.id_words
run_length s zero = refl
run_length s (suc n) = ap length (run-words s n) ∙ (length-append (id_words (run s n)) ((s + n) ∷ 0 ∷ 0 ∷ []) ∙ omega (arith, run_length s n))

-- i places are put
pub record Putting (env₀ : List ℕ) (at s i : ℕ) (env : List ℕ) : Type 0 where
  pub words : env ≡ written at (id_words (run s i)) env₀

pub put-none : (env : List ℕ) (at s : ℕ) → at ≤ length env → Putting env at s 0 env
unfolding run trees.id_words
put-none env at s h = record { words = sets-written at [] env (omega arith) }

module _ {env₀ : List ℕ} {at s i : ℕ} {env : List ℕ} (p : Putting env₀ at s i env) where
  pub put-length : at + 3 * i ≤ length env₀ → length env ≡ length env₀
  put-length h = ap length p.words ∙ length-written env₀ at (id_words (run s i)) (omega (arith, run_length s i))

  pub put_one : {new : List ℕ} → at + (3 * i + 3) ≤ length env₀ → new ≡ written (at + 3 * i) ((s + i) ∷ 0 ∷ 0 ∷ []) env → Putting env₀ at s (i + 1) new
  put_one {new} h e =
      let next : i + 1 ≡ suc i = omega arith in
      let fits : at + length (id_words (run s i) ++ ((s + i) ∷ 0 ∷ 0 ∷ [])) ≤ length env₀ =
      omega (arith, length-append (id_words (run s i)) ((s + i) ∷ 0 ∷ 0 ∷ []), run_length s i) in
      record {
        words =
            e
            ∙ (ap (λ l. written (at + 3 * i) ((s + i) ∷ 0 ∷ 0 ∷ []) l) p.words
            ∙ (ap (λ n. written (at + n) ((s + i) ∷ 0 ∷ 0 ∷ []) (written at (id_words (run s i)) env₀)) (sym (run_length s i))
            ∙ (sym (written-append at (id_words (run s i)) ((s + i) ∷ 0 ∷ 0 ∷ []) env₀ fits)
            ∙ (ap (λ l. written at l env₀) (sym (run-words s i)) ∙ ap (λ n. written at (id_words (run s n)) env₀) (sym next)))));
      }

  pub put_all : (d : ℕ) → i ≡ d + 1 → env ≡ written at (tree_words (places_of (input_tree s d))) env₀
  put_all d e =
      let n : i ≡ suc d = omega arith in
      p.words
      ∙ (ap (λ m. written at (id_words (run s m)) env₀) n
      ∙ ap (λ l. written at l env₀) (ap id_words (sym (order-run s d)) ∙ sym (tree-ids still (input_tree s d))))
