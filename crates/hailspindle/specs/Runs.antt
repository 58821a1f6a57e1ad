-- What a linked run replies, and what it leaves of what it was lent: all of it is snesl's `outcome` of the job.
use Rattle.std.specs.Prelude.{ℕ, List, [], ◌∷◌, ◌≡◌, ℤ, length}
use Rattle.snesl.specs.Outcome.{Outcome, refusal, value, outcome, streams_after, answer_after}
use Rattle.snesl.specs.Demands.{Told, shows, declines, Demands}
use Rattle.hailspindle.specs.Replies.{Reply, accepts, refuses, noted}

abbrev pub run_reply : Outcome → Reply
run_reply (refusal r) = refuses 3 r
run_reply (value text work steps room held) = accepts (length text ∷ work ∷ steps ∷ room ∷ [])

-- what is told, as a number and figures
abbrev pub told_reply : Told → Reply
told_reply (shows bytes work steps taken) = accepts (bytes ∷ work ∷ steps ∷ taken ∷ [])
told_reply (declines r) = refuses 3 r

pub record Exact (t : List ℕ) (streams streams' : List ℤ) (answer answer' figures figures' : List ℕ) (r : ℕ) : Type 0 where
  pub says : r ≡ (run_reply (outcome t (length streams) (length answer))).number
  pub figures-are : figures' ≡ noted (run_reply (outcome t (length streams) (length answer))).figures figures
  pub streams-are : streams' ≡ streams_after streams (outcome t (length streams) (length answer))
  pub answer-is : answer' ≡ answer_after answer (outcome t (length streams) (length answer))

-- the number and the figures tell what keeps the demands
pub record Keeps (t : List ℕ) (streams streams' : List ℤ) (answer answer' figures figures' : List ℕ) (r : ℕ) : Type 0 where
  pub told : Told
  pub demands : Demands t streams streams' answer answer' told
  pub numbered : r ≡ (told_reply told).number
  pub noted-down : figures' ≡ noted (told_reply told).figures figures
