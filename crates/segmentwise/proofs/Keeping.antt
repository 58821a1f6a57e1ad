-- UPack's walk at bool i: what the next segment is of what is kept.
use Prim.Native.Nat.{ℕ, ◌+◌, ◌-◌, ◌<◌, ◌≤◌}
use mathlib.Core.Bool.{Bool, true, false}
use mathlib.Core.List.{List, [], ◌∷◌, ◌++◌, map}
use mathlib.Core.Option.{none}
use mathlib.Core.Path.{◌≡◌, sym, ◌∙◌, ap}
use lib.IntN.{ℤ, pos}
use lib.ListN.{length, drop, get_or, replicate, length-append, length-replicate}
use Rattle.snesl.specs.Transducers.{each_t, bool_of, flag_of, misfit, kept_segments}
use Rattle.flags.specs.Segments.{leading}
use Rattle.flags.proofs.Clauses.{kept-end}
use Rattle.flags.proofs.Fronts.{front_kept, front-left-out}
use Rattle.segmentwise.proofs.Segment.{next-item, next-front, next-rest, items-over}

-- what is kept of flags by bools as they stand in a buffer
abbrev pub keeps : List ℤ → List ℤ → List Bool
keeps xs bs = kept_segments flag_of (map bool_of xs) bs

-- the flags of a segment of so many F's
abbrev pub whole : ℕ → List Bool
whole m = replicate m false ++ true ∷ []

pub whole_long : (m : ℕ) → length (whole m) ≡ m + 1
whole_long m = length-append (replicate m false) (true ∷ []) ∙ ap (λ k. k + 1) (length-replicate m false)

module _ (bools bs : List ℤ) (i : ℕ) (fit : misfit flag_of each_t i (length bools - i) bs (drop i bools) ≡ none) where
  module _ (lt : i < length bools) {bs' : List ℤ} {count : ℕ} (e : count ≡ leading flag_of bs) (r : bs' ≡ drop (leading flag_of bs + 1) bs) where
    -- the walk's bool is known
    at-bool : (c : Bool) → bool_of (get_or bools i (pos 0)) ≡ c → keeps (drop i bools) bs ≡ kept_segments flag_of (c ∷ map bool_of (drop (i + 1) bools)) bs
    at-bool c q = ap (λ xs. keeps xs bs) (next-item bools bs i fit lt) ∙ ap (λ b. kept_segments flag_of (b ∷ map bool_of (drop (i + 1) bools)) bs) q

    pub left_out : bool_of (get_or bools i (pos 0)) ≡ false → keeps (drop i bools) bs ≡ keeps (drop (i + 1) bools) bs'
    left_out q =
        at-bool false q
        ∙ front-left-out flag_of (next-front bools bs i fit lt e r) (map bool_of (drop (i + 1) bools))
        ∙ ap (keeps (drop (i + 1) bools)) (sym (next-rest bools bs i fit lt e r))

    pub kept_whole : bool_of (get_or bools i (pos 0)) ≡ true → keeps (drop i bools) bs ≡ whole count ++ keeps (drop (i + 1) bools) bs'
    kept_whole q =
        at-bool true q
        ∙ front_kept flag_of (next-front bools bs i fit lt e r) (map bool_of (drop (i + 1) bools))
        ∙ ap (λ l. whole count ++ keeps (drop (i + 1) bools) l) (sym (next-rest bools bs i fit lt e r))

  pub over : length bools ≤ i → keeps (drop i bools) bs ≡ []
  over end = ap (keeps (drop i bools)) (items-over bools bs i fit end) ∙ kept-end flag_of (map bool_of (drop i bools))
