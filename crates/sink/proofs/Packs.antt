-- The packing of a value by bools may be surveyed: it uses the bools and the value's own ids.
use Prim.Native.Nat.{ℕ, suc, ◌+◌, ◌≤◌}
use native.Mathlib.Omega.{arith}
use mathlib.Core.List.{◌∷◌}
use mathlib.Core.Logic.{inr}
use Rattle.snesl.specs.Trees.{Tree, leaf, node, order}
use Rattle.snesl.specs.Translation.{pack_tree, pack_code}
use Rattle.snesl.specs.Ids.{Below}
use Rattle.snesl.proofs.Compiled.Packing.{count-pack, defined-pack, packed-ids, free-pack}
use Rattle.sink.proofs.Tidy.{Tidy, tidy-define, tidy-at, tidy-alone, tidy-controlled, Surveyable}

pub tidy-pack : {a d : ℕ} (b : ℕ) (t : Tree ℕ d) (s : ℕ) → a ≤ s → Tidy a s (pack_code b t s)
unfolding pack_code
tidy-pack b (leaf x) s l = tidy-alone _ l
tidy-pack b (node t f) s l =
    tidy-define {s = s} l
    (tidy-define {s = suc s} (omega arith)
    (tidy-define {s = suc (suc s)} (omega arith)
    (tidy-at {s = s + 3} {s' = suc (suc (suc s))} (omega arith)
    (tidy-controlled (s + 2) (s + 3) (pack_code (s + 1) t (s + 3)) (pack_tree t (s + 3)) (omega arith)
    (λ u m. let r = defined-pack (s + 1) t (s + 3) m in omega (arith, r.0))
    (tidy-pack (s + 1) t (s + 3) (omega arith))))))

pub pack-surveyable : {d : ℕ} (b : ℕ) (t : Tree ℕ d) (s : ℕ) → Below s (b ∷ order t) → Surveyable s (pack_code b t s) (pack_tree t s) (b ∷ order t)
pack-surveyable b t s below =
    record {
      tidy = tidy-pack b t s (omega arith);
      free = free-pack b t s;
      below = below;
      next = λ u m. let r = defined-pack b t s m in (r.0, omega (arith, r.1, count-pack b t s));
      result = λ u m. inr (packed-ids b t s m);
    }
