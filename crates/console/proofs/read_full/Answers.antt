-- A read into the part from n on: the buffer's start is then what it was, with what came behind it.
use Rattle.std.proofs.Common.{◌≡◌, ℕ, ◌+◌, ◌≤◌, List, ◌++◌, length, rules, take, drop, sym, ap, ◌∙◌, subst, le_refl, drop_at, length-take-le}
use Rattle.std.proofs.lemmas.Slice.{take-put_mid_below}
use Rattle.std.specs.Io.KnownBytes.{Consumes}
use Rattle.std.proofs.KnownBytes.{Consumes-trans}
use borrow.Rule.Slice.PartMut.{put_mid, post_of}
use lib.Seq.{take-add, take-append-le}
use Rattle.console.proofs.read_full.Goals as goal

start_after : (n k r : ℕ) (old part : List ℕ) → n ≤ length old → r ≤ length part → take (n + r) (put_mid n k old part) ≡ take n old ++ take r part
start_after n k r old part within few =
    let behind : drop n (put_mid n k old part) ≡ part ++ post_of n k old = drop_at (take n old) (part ++ post_of n k old) n (length-take-le n old within) in
    take-add n r (put_mid n k old part)
    ∙ ap (λ l. l ++ take r (drop n (put_mid n k old part))) (take-put_mid_below n k old part n (le_refl n) within)
    ∙ ap (λ l. take n old ++ take r l) behind
    ∙ ap (λ l. take n old ++ l) (take-append-le r part (post_of n k old) few)

pub loop-n-preserved : goal.loop-n-preserved
loop-n-preserved g c =
    let few : c.in_ok-read.read ≤ length c.read.new.buf = c.in_ok-read.ensures.bound.0 in
    record {
      within = search rules;
      first = subst (Consumes _ _) (sym (start_after c.loop-n.n _ c.in_ok-read.read c.loop-n.bytes c.read.new.buf c.loop-n.invariant.within few)) (Consumes-trans _ _ _ _ _ c.loop-n.invariant.first c.in_ok-read.ensures.bytes.0);
    }
