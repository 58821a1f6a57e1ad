-- `packs::trues`: the iterators' count is that of the T's.
use Rattle.std.proofs.Common.{◌≡◌, ℤ, Bool, true, false, List, ◌∷◌, map, refl, sym, ◌∙◌, cond, ◌+◌, rules, arith}
use Rattle.std.specs.List.{count_by}
use Rattle.std.proofs.lemmas.List.Recursion.{is_count_by}
use Rattle.snesl.specs.Charges.{count_true}
use Rattle.snesl.specs.Transducers.{bool_of}
use Rattle.itemwise.proofs.packs.trues.Goals as goal

count-first : (b : Bool) (bs : List Bool) → count_true (b ∷ bs) ≡ cond b (1 + count_true bs) (count_true bs)
unfolding count_true
count-first false bs = refl
count-first true bs = omega arith

counted : (xs : List ℤ) → count_true (map bool_of xs) ≡ count_by bool_of xs
unfolding count_true
counted = is_count_by (λ l. count_true (map bool_of l)) bool_of refl (λ x l. count-first (bool_of x) (map bool_of l))

pub returns : goal.returns
returns c = let e : c.count.result ≡ count_by bool_of c.args.bools.now = search rules in e ∙ sym (counted c.args.bools.now)
