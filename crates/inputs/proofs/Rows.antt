-- The words of streams one after another: put from the last one down, and as the words of an input's tree.
use Prim.Native.Nat.{ℕ, zero, suc, ◌+◌, ◌*◌, ◌-◌, ◌≤◌, ◌<◌}
use mathlib.Core.List.{List, [], ◌∷◌, ◌++◌}
use mathlib.Core.Path.{◌≡◌, refl, sym, ap, ap₂, ◌∙◌}
use native.Mathlib.Nat.{add-zero}
use native.Mathlib.Omega.{arith}
use lib.ListN.{length, get_or, drop, drop_of_length-le}
use lib.Seq.{drop-cons}
use Rattle.laws.specs.Parts.{written}
use Rattle.environment.proofs.Stack.{from-written, length-written}
use Rattle.snesl.specs.Machine.{sum_of}
use Rattle.inputs.specs.Places.{row_words}

-- ---- sums of what is left

sum_drop : (i : ℕ) (ns : List ℕ) → sum_of (drop i ns) ≤ sum_of ns
unfolding sum_of
sum_drop zero ns = omega arith
sum_drop (suc i) [] = omega arith
sum_drop (suc i) (n ∷ ns) = omega (arith, sum_drop i ns)

-- ---- the loop: the streams from i on have their words from `top` on

pub record Pushing (lengths : List ℕ) (id end sp : ℕ) (env₀ env : List ℕ) (i start top : ℕ) : Type 0 where
  pub within : i ≤ length lengths
  pub place : top + 3 * length lengths ≡ sp + 3 * i
  pub sum : start + sum_of (drop i lengths) ≡ end
  pub enough : sum_of lengths ≤ end
  pub low : 3 * length lengths ≤ sp
  pub high : sp ≤ length env₀
  pub words : drop top env ≡ row_words (id + i) start (drop i lengths) ++ drop sp env₀
  pub long : length env ≡ length env₀

pub pushing-start : (lengths : List ℕ) (id end sp : ℕ) (env : List ℕ) → 3 * length lengths ≤ sp → sp ≤ length env → sum_of lengths ≤ end
    → Pushing lengths id end sp env env (length lengths) end sp
unfolding sum_of row_words
pushing-start lengths id end sp env low high enough =
    let all : length lengths ≤ length lengths = omega arith in
    let none : drop (length lengths) lengths ≡ [] = drop_of_length-le lengths all in
    record {
      within = omega arith;
      place = omega arith;
      sum = ap (λ (l : List ℕ). end + sum_of l) none ∙ add-zero end;
      enough = enough;
      low = low;
      high = high;
      words = sym (ap (λ (l : List ℕ). row_words (id + length lengths) end l ++ drop sp env) none);
      long = refl;
    }

module _ {lengths : List ℕ} {id end sp : ℕ} {env₀ env : List ℕ} {i start top : ℕ} (p : Pushing lengths id end sp env₀ env i start top) (h : 0 < i) where
  next : drop (i - 1) lengths ≡ get_or lengths (i - 1) 0 ∷ drop i lengths
  next =
      let e : suc (i - 1) ≡ i = omega arith in
      drop-cons lengths (i - 1) 0 (omega (arith, p.within)) ∙ ap (λ (j : ℕ). get_or lengths (i - 1) 0 ∷ drop j lengths) e

  sum-next : sum_of (drop (i - 1) lengths) ≡ get_or lengths (i - 1) 0 + sum_of (drop i lengths)
  unfolding sum_of
  sum-next = ap sum_of next

  pub pushing-fits : get_or lengths (i - 1) 0 ≤ start
  pushing-fits = omega (arith, sum-next, sum_drop (i - 1) lengths, p.sum, p.enough)

  pub pushing-room : 3 ≤ top
  pushing-room = omega (arith, p.within, p.place, p.low)

  pub pushing-high : top ≤ length env
  pushing-high = omega (arith, p.within, p.place, p.high, p.long)

  pub pushing-on :
      Pushing lengths id end sp env₀
      (written (top - 3) ((id + (i - 1)) ∷ (start - get_or lengths (i - 1) 0) ∷ get_or lengths (i - 1) 0 ∷ []) env)
      (i - 1) (start - get_or lengths (i - 1) 0) (top - 3)
  unfolding row_words
  pushing-on =
      let n = get_or lengths (i - 1) 0 in
      let w = (id + (i - 1)) ∷ (start - n) ∷ n ∷ [] in
      let room : (top - 3) + 3 ≤ length env = omega (arith, pushing-room, pushing-high) in
      let above : (top - 3) + 3 ≡ top = omega (arith, pushing-room) in
      let one : id + (i - 1) + 1 ≡ id + i = omega arith in
      let back : (start - n) + n ≡ start = omega (arith, pushing-fits) in
      record {
        within = omega (arith, p.within);
        place = omega (arith, p.place, pushing-room);
        sum = omega (arith, p.sum, sum-next, pushing-fits);
        enough = p.enough;
        low = p.low;
        high = p.high;
        words =
            from-written env (top - 3) w room
            ∙ (ap (λ (k : ℕ). w ++ drop k env) above
            ∙ (ap (λ (l : List ℕ). w ++ l) p.words
            ∙ (ap₂ (λ (s a : ℕ). w ++ (row_words s a (drop i lengths) ++ drop sp env₀)) (sym one) (sym back)
            ∙ sym (ap (λ (l : List ℕ). row_words (id + (i - 1)) (start - n) l ++ drop sp env₀) next))));
        long = length-written env (top - 3) w room ∙ p.long;
      }

pub pushing-end : {lengths : List ℕ} {id end sp : ℕ} {env₀ env : List ℕ} {i start top : ℕ} → Pushing lengths id end sp env₀ env i start top → i ≤ 0
    → (top + 3 * length lengths ≡ sp) × (drop top env ≡ row_words id (end - sum_of lengths) lengths ++ drop sp env₀)
pushing-end {lengths} {id} {end} {sp} {env₀} {env} {i} {start} p h =
    let z : i ≡ 0 = omega arith in
    let s : start + sum_of lengths ≡ end = sym (ap (λ (j : ℕ). start + sum_of (drop j lengths)) z) ∙ p.sum in
    let same : start ≡ end - sum_of lengths = omega arith in (
      omega (arith, p.place),
      p.words
          ∙ (ap (λ (j : ℕ). row_words (id + j) start (drop j lengths) ++ drop sp env₀) z
          ∙ ap₂ (λ (s a : ℕ). row_words s a lengths ++ drop sp env₀) (add-zero id) same),
    )
