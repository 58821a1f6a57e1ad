-- The cursors stay in locals until the closing brace: until then the lent ones stand as they did.
use Rattle.std.proofs.Common.{ℕ, ◌+◌, List, sym, ap, ◌∙◌, arith}
use Rattle.decimals.specs.Numbers.{int_at}
use Rattle.decimals.proofs.Parts.{rest_of}
use Rattle.valuetext.proofs.ReadingSteps.{item-else}
use Rattle.valuetext.proofs.ReadingInts.{ints-start, ints-no, ints-item, ints-comma, ints-close, moved}
use Rattle.valuetext.proofs.reading.read_ints.Goals as goal

pub loop-z-init : goal.loop-z-init
loop-z-init c = ints-start c.requires.ready c.requires.value

pub returns-in_err-z : goal.returns-in_err-z
returns-in_err-z c = ints-no c.loop-z.invariant (sym (c.quick_int.ensures ∙ ap int_at (rest_of c.args.text.now c.loop-z.k)) ∙ c.in_err-z.was) c.from_residual.ensures

pub overflow_add-k : goal.overflow_add-k
overflow_add-k c = let read = sym (c.quick_int.ensures ∙ ap int_at (rest_of c.args.text.now c.loop-z.k)) ∙ c.in_ok-z.was in
    omega (arith, (ints-item c.loop-z.invariant read c.store.ensures c.store-in-loop-z.ensures).inside)

pub loop-z-preserved : goal.loop-z-preserved
loop-z-preserved c = let read = sym (c.quick_int.ensures ∙ ap int_at (rest_of c.args.text.now c.loop-z.k)) ∙ c.in_ok-z.was in
    let item = ints-item c.loop-z.invariant read c.store.ensures c.store-in-loop-z.ensures in
    ints-comma (c.loop-z.data + 1) (c.loop-z.flags + 1) item c.loop-z.invariant.kept (sym c.in-Comma.is ∙ c.what_follows.ensures) (omega arith)

pub returns-in-Close : goal.returns-in-Close
returns-in-Close c = let read = sym (c.quick_int.ensures ∙ ap int_at (rest_of c.args.text.now c.loop-z.k)) ∙ c.in_ok-z.was in
    let item = ints-item c.loop-z.invariant read c.store.ensures c.store-in-loop-z.ensures in
    let moves = ap (λ (cs : List ℕ). moved cs (c.loop-z.data + 1) (c.loop-z.flags + 1 + 1)) c.loop-z.invariant.kept in
    ints-close (c.loop-z.data + 1) (c.loop-z.flags + 1) item (sym c.in-Close.is ∙ c.what_follows.ensures) c.store-in-Close.ensures moves

pub returns-in-Else : goal.returns-in-Else
returns-in-Else c = let read = sym (c.quick_int.ensures ∙ ap int_at (rest_of c.args.text.now c.loop-z.k)) ∙ c.in_ok-z.was in
    item-else (ints-item c.loop-z.invariant read c.store.ensures c.store-in-loop-z.ensures) (sym c.in-Else.is ∙ c.what_follows.ensures)
