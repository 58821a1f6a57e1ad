-- At each turn what is left to count is known, and that with it all is counted (proofs/Naming.antt).
use Prim.Native.Nat.{◌+◌, ◌-◌, ◌<◌}
use Rattle.snesl.specs.Records.{byte_at}
use native.Mathlib.Omega.{arith}
use Rattle.guards.proofs.Naming.{counting-start, counting-done, next-sought, depth-few, depth-within, counting-turn}
use Rattle.guards.proofs.listed_words.Goals as goal

pub bounds-bytes-at : goal.bounds-bytes-at
bounds-bytes-at c = omega (arith, c.requires.bytes)

pub loop-i-init : goal.loop-i-init
loop-i-init c = λ g. counting-start g (omega arith) (omega arith)

pub find-p-requires : goal.find-p-requires
find-p-requires c = next-sought c.requires (c.loop-i.invariant c.requires) (omega (arith, c.loop-i-test.true))

pub overflow_add-words : goal.overflow_add-words
overflow_add-words c = let g = c.requires in
    let h = c.loop-i.invariant g in
    let t : 0 < byte_at c.args.bytes.now c.args.at - c.loop-i.i = omega (arith, c.loop-i-test.true) in
    let e = c.find-p.ensures (next-sought g h t) in
    omega (arith, depth-within g h t e)

pub offset_bounds-env-p : goal.offset_bounds-env-p
offset_bounds-env-p c = let g = c.requires in
    let h = c.loop-i.invariant g in
    let t : 0 < byte_at c.args.bytes.now c.args.at - c.loop-i.i = omega (arith, c.loop-i-test.true) in
    let e = c.find-p.ensures (next-sought g h t) in
    omega (arith, depth-within g h t e)

pub bounds-env-p : goal.bounds-env-p
bounds-env-p c = let g = c.requires in
    let h = c.loop-i.invariant g in
    let t : 0 < byte_at c.args.bytes.now c.args.at - c.loop-i.i = omega (arith, c.loop-i-test.true) in
    let e = c.find-p.ensures (next-sought g h t) in
    omega (arith, depth-within g h t e)

pub overflow_cast-words : goal.overflow_cast-words
overflow_cast-words c = omega (arith, c.type_inv.env (c.find-p.result + 1))

pub overflow_mul-words : goal.overflow_mul-words
overflow_mul-words c = let g = c.requires in
    let h = c.loop-i.invariant g in
    let t : 0 < byte_at c.args.bytes.now c.args.at - c.loop-i.i = omega (arith, c.loop-i-test.true) in
    let e = c.find-p.ensures (next-sought g h t) in
    omega (arith, depth-few g h t e)

pub overflow_add-words-in-loop-i : goal.overflow_add-words-in-loop-i
overflow_add-words-in-loop-i c = let g = c.requires in
    let h = c.loop-i.invariant g in
    let t : 0 < byte_at c.args.bytes.now c.args.at - c.loop-i.i = omega (arith, c.loop-i-test.true) in
    let e = c.find-p.ensures (next-sought g h t) in
    omega (arith, depth-few g h t e)

pub overflow_add-words-in-loop-i-2 : goal.overflow_add-words-in-loop-i-2
overflow_add-words-in-loop-i-2 c = let g = c.requires in
    let h = c.loop-i.invariant g in
    let t : 0 < byte_at c.args.bytes.now c.args.at - c.loop-i.i = omega (arith, c.loop-i-test.true) in
    let e = c.find-p.ensures (next-sought g h t) in
    omega (arith, depth-few g h t e, h.most, c.type_inv.bytes c.args.at, t)

pub loop-i-preserved : goal.loop-i-preserved
loop-i-preserved c = λ g. let h = c.loop-i.invariant g in
    let t : 0 < byte_at c.args.bytes.now c.args.at - c.loop-i.i = omega (arith, c.loop-i-test.true) in
    counting-turn g h t (c.find-p.ensures (next-sought g h t)) (omega arith) (omega arith)

pub returns : goal.returns
returns c = λ g. counting-done g (c.loop-i.invariant g) (omega arith)
