-- 01, "Proved table": the twelve rows as one statement about the definitions, over the job's bytes, and beside it the like of request 1. The run program
-- lends 16,384 stream elements and 65,536 answer bytes.
use Prim.Native.Nat.{ℕ}
use Prim.Native.String.{String}
use mathlib.Core.List.{List, [], ◌∷◌}
use mathlib.Core.Path.{◌≡◌, refl}
use Rattle.snesl.specs.Ascii.{ascii, pieces}
use Rattle.snesl.specs.Notation.{IN, IB, VR, LT, KN, IO, PL, LE, NO, SM, EA, GU, VA}
use Rattle.snesl.specs.Outcome.{outcome}
use Rattle.snesl.specs.Report.{run_lines}
use Rattle.snesl.specs.Terms.{lookup, listed}
use Rattle.snesl.specs.Streams.{contents}
use Rattle.snesl.specs.Transducers.{misfit, count_f, spread, scans, sums, pluses, pairwise, first_outside, first_negative, unary, unitary, kept, kept_segments, apply}
use Rattle.snesl.specs.Programs.{◌⨾◌, count, member, without, among, dv, fv, insert, ascending}
use Rattle.snesl.specs.Machine.{sum_of, step, skipped, run}
use Rattle.snesl.specs.Trees.{inner, outer, root, order, map_tree}
use Rattle.snesl.specs.Translation.{pack_size, packs_size, size, numbered, pack_tree, pack_trees, tree, distrs, pack_code, pack_codes, code}
use Rattle.snesl.specs.Representation.{concat, segments, represent, regroup, values}
use Rattle.snesl.specs.Text.{digits_then, joined, show, digits, number_from, read_items, read_value}
use Rattle.snesl.specs.Records.{variables_at, variables_ok, head_at, scan, inputs_at, texts_at, front_of}
use Rattle.snesl.specs.Checking.{find, names, usable, listed_scalars, listed_names, listed_any, any_names, check, turned, input_names, repeated}
use Rattle.snesl.specs.Inputs.{input_tree, input_trees, input_start, input_values, input_streams, input_over}

-- a job in 01's notation, with so many stream elements lent, prints this
abbrev Prints : (records : List (List ℕ)) (elements : ℕ) → String → Type 0
Prints records elements lines = run_lines (outcome (pieces records) elements 65536) ≡ ascii lines

pub table :
    Prints (IN 5 1 ∷ IN 6 0 ∷ EA 7 5 (6 ∷ []) ∷ PL 7 6 ∷ VA "{3,1}" ∷ VA "4" ∷ []) 16384 "value {7,5}\nwork 17\nsteps 3\nroom 10\n"
    × Prints (IN 5 1 ∷ IN 6 0 ∷ EA 7 5 (6 ∷ []) ∷ PL 7 6 ∷ VA "{}" ∷ VA "4" ∷ []) 16384 "value {}\nwork 3\nsteps 2\nroom 2\n"
    × Prints (IN 0 2 ∷ EA 1 0 [] ∷ SM 1 ∷ VA "{{3,1},{},{4}}" ∷ []) 16384 "value {4,0,4}\nwork 19\nsteps 2\nroom 16\n"
    × Prints (LT 0 ∷ KN 0 ∷ IO 0 ∷ []) 16384 "value {}\nwork 5\nsteps 4\nroom 2\n"
    × Prints (LT 0 ∷ KN 2 ∷ IO 0 ∷ []) 16384 "value {0,1}\nwork 19\nsteps 5\nroom 8\n"
    × Prints (LT 0 ∷ KN 4294967295 ∷ IO 0 ∷ []) 16384 "refused 8 at 1\n"
    × Prints (IN 0 1 ∷ EA 1 0 [] ∷ IO 1 ∷ VA "{2,0,1}" ∷ []) 16384 "value {{0,1},{},{0}}\nwork 40\nsteps 5\nroom 19\n"
    × Prints (IN 0 1 ∷ EA 1 0 [] ∷ IO 1 ∷ VA "{2,0,1}" ∷ []) 18 "refused 9 at 6\n"
    × Prints (IN 0 1 ∷ SM 0 ∷ VA "{2147483647,1,-1}" ∷ []) 16384 "value 2147483647\nwork 8\nsteps 1\nroom 8\n"
    × Prints (IN 0 1 ∷ SM 0 ∷ VA "{2147483647,1}" ∷ []) 16384 "refused 8 at 2\n"
    × Prints (IN 0 0 ∷ VR 0 ∷ VA "9" ∷ []) 16384 "value 9\nwork 0\nsteps 0\nroom 1\n"
    × Prints (VR 3 ∷ []) 16384 "refused 5 at 0\n"
unfolding lookup listed contents misfit count_f spread scans sums pluses first_outside first_negative unary apply ◌⨾◌ count member without among dv fv insert ascending sum_of step skipped run inner outer root order map_tree size numbered tree distrs code concat segments represent regroup values digits_then joined show digits number_from read_items read_value variables_at variables_ok head_at scan inputs_at texts_at front_of find names usable listed_scalars listed_names check turned input_names repeated input_tree input_trees input_start input_values input_streams input_over
table = (refl, refl, refl, refl, refl, refl, refl, refl, refl, refl, refl, refl)

-- Request 1: a guarded value is packed whole; a guard that is false keeps a body from failing that fails where it is true; only the readings above a limit, and
-- that one element short of its room; an EA that lists bools; a guard that is not a bool.
pub conditions :
    Prints (IB 0 0 ∷ IN 1 3 ∷ GU 0 (1 ∷ []) ∷ VR 1 ∷ VA "T" ∷ VA "{{{1,2},{}},{}}" ∷ []) 16384 "value {{{{1,2},{}},{}}}\nwork 78\nsteps 12\nroom 35\n"
    × Prints (IB 0 0 ∷ IN 1 3 ∷ GU 0 (1 ∷ []) ∷ LT 2 ∷ KN 4294967295 ∷ IO 2 ∷ VA "T" ∷ VA "{{{1,2},{}},{}}" ∷ []) 16384 "refused 8 at 18\n"
    × Prints (IB 0 0 ∷ IN 1 3 ∷ GU 0 (1 ∷ []) ∷ LT 2 ∷ KN 4294967295 ∷ IO 2 ∷ VA "F" ∷ VA "{{{1,2},{}},{}}" ∷ []) 16384 "value {}\nwork 62\nsteps 12\nroom 21\n"
    × Prints (IN 5 1 ∷ IN 6 0 ∷ EA 7 5 (6 ∷ []) ∷ LT 8 ∷ LE 7 6 ∷ LT 8 ∷ NO 8 ∷ GU 8 (7 ∷ []) ∷ VR 7 ∷ VA "{3,1}" ∷ VA "2" ∷ []) 16384 "value {{3},{}}\nwork 35\nsteps 7\nroom 16\n"
    × Prints (IN 5 1 ∷ IN 6 0 ∷ EA 7 5 (6 ∷ []) ∷ LT 8 ∷ LE 7 6 ∷ LT 8 ∷ NO 8 ∷ GU 8 (7 ∷ []) ∷ VR 7 ∷ VA "{3,1}" ∷ VA "2" ∷ []) 15 "refused 9 at 9\n"
    × Prints (IN 7 1 ∷ IB 25 0 ∷ IB 22 0 ∷ EA 2 7 (22 ∷ 25 ∷ []) ∷ NO 25 ∷ VA "{2}" ∷ VA "F" ∷ VA "T" ∷ []) 16384 "value {T}\nwork 13\nsteps 4\nroom 8\n"
    × Prints (IN 0 0 ∷ GU 0 [] ∷ KN 1 ∷ VA "1" ∷ []) 16384 "refused 6 at 4\n"
unfolding lookup listed contents misfit count_f spread scans sums pluses pairwise first_outside first_negative unary unitary kept kept_segments apply ◌⨾◌ count member without among dv fv insert ascending sum_of step skipped run inner outer root order map_tree
    pack_size packs_size size numbered pack_tree pack_trees tree distrs pack_code pack_codes code concat segments represent regroup values digits_then joined show digits number_from read_items read_value
    variables_at variables_ok head_at scan inputs_at texts_at front_of find names usable listed_scalars listed_names listed_any any_names check turned input_names repeated input_tree input_trees input_start input_values input_streams input_over
conditions = (refl, refl, refl, refl, refl, refl, refl)
