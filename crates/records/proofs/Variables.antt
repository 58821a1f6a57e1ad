-- Rows of variables: as the slice that holds one, and how many there are.
use Rattle.std.proofs.Common.{ℕ, zero, suc, ◌+◌, ◌-◌, ◌≤◌, ◌<◌, ◌≡◌, refl, ap, ◌∙◌, ◌&&◌, leb, List, length, arith}
use Rattle.std.specs.List.{list_all}
use Rattle.std.proofs.Math.ListN.{take, drop}
use Rattle.std.proofs.Math.Seq.{drop-cons}
use Rattle.snesl.specs.Limits.{last_variable}
use Rattle.snesl.specs.Records.{byte_at, variables_at, variables_ok}

module _ (t : List ℕ) where
  row-taken : (k j : ℕ) → k + j ≤ length t → list_all (λ x. leb x last_variable) (take j (drop k t)) ≡ variables_ok t k j
  unfolding variables_ok
  row-taken k zero l = refl
  row-taken k (suc j) l =
      let h : k < length t = omega arith in
      rw (drop-cons t k 0) (ap (λ b. leb (byte_at t k) last_variable && b) (row-taken (suc k) j (omega arith)))

  -- a row as the slice that holds it
  pub row-part : (k j : ℕ) → k + j ≤ length t → list_all (λ x. leb x last_variable) (take (k + j - k) (drop k t)) ≡ variables_ok t k j
  row-part k j l =
      let e : k + j - k ≡ j = omega arith in
      ap (λ n. list_all (λ x. leb x last_variable) (take n (drop k t))) e ∙ row-taken k j l

  -- a row of so many variables
  pub length-variables : (k j : ℕ) → length (variables_at t k j) ≡ j
  unfolding variables_at
  length-variables k zero = refl
  length-variables k (suc j) = ap suc (length-variables (suc k) j)
