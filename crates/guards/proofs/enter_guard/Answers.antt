-- The flags' place and units, and the entries of the listed variables (proofs/Entering.antt).
use native.Mathlib.Omega.{arith}
use Rattle.guards.proofs.Entering.{guard-sought, naming, room-enough, bools-within, asks, flags-refused, lists, packs-refused, guard-entered}
use Rattle.std.proofs.lemmas.Result.{err_from_is_err_and}
use Rattle.guards.proofs.enter_guard.Goals as goal

pub overflow_add-bools : goal.overflow_add-bools
overflow_add-bools c = omega (arith, bools-within c.requires (c.find-bools.ensures (guard-sought c.requires)))

pub listed_words-requires : goal.listed_words-requires
listed_words-requires c = naming c.requires

pub overflow_sub-base-2 : goal.overflow_sub-base-2
overflow_sub-base-2 c = omega (arith, room-enough c.requires, (c.listed_words.ensures (naming c.requires)))

pub count_true-requires : goal.count_true-requires
count_true-requires c = (_, _, _, asks c.requires (c.find-bools.ensures (guard-sought c.requires)))

pub pack_listed-requires : goal.pack_listed-requires
pack_listed-requires c = let g = c.requires in
    let e = c.find-bools.ensures (guard-sought g) in
    let a = c.count_true.ensures _ _ _ (asks g e) in
    let l = c.count_true.auto.buf in
    let w = c.listed_words.ensures (naming g) in
    lists g e _ a c.in_ok-units.was l w

pub returns : goal.returns
returns c = λ g.
    let e = c.find-bools.ensures (guard-sought g) in
    let a = c.count_true.ensures _ _ _ (asks g e) in
    let u = c.in_ok-units.was in
    let l = c.count_true.auto.buf in
    let w = c.listed_words.ensures (naming g) in
    guard-entered g e _ a u l w (c.pack_listed.ensures (lists g e _ a u l w)) c.in_ok-pack_listed.was c.pack_listed.auto.env

pub returns-in_err-pack_listed : goal.returns-in_err-pack_listed
returns-in_err-pack_listed c = λ g.
    let p = err_from_is_err_and c.from_residual-in_err-pack_listed.result c.from_residual-in_err-pack_listed.ensures.1 in rw (p.1, p.2)
    (let e = c.find-bools.ensures (guard-sought g) in
    let a = c.count_true.ensures _ _ _ (asks g e) in
    let u = c.in_ok-units.was in
    let l = c.count_true.auto.buf in
    let w = c.listed_words.ensures (naming g) in
    packs-refused g e _ a u l w (c.pack_listed.ensures (lists g e _ a u l w)) c.in_err-pack_listed.was)

pub returns-in_err-units : goal.returns-in_err-units
returns-in_err-units c = λ g.
    let p = err_from_is_err_and c.from_residual.result c.from_residual.ensures.1 in rw (p.1, p.2)
    (let e = c.find-bools.ensures (guard-sought g) in
    flags-refused g e _ (c.count_true.ensures _ _ _ (asks g e)) c.in_err-units.was)
