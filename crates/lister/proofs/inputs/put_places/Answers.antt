-- i places are put; with the last one put they are all.
use Prim.Native.Nat.{◌+◌}
use native.Mathlib.Omega.{arith}
use mathlib.Core.Path.{◌≡◌}
use Rattle.lister.proofs.Runs.{put-none, put_one, put_all}
use Rattle.lister.proofs.inputs.put_places.Goals as goal

pub loop-i-init : goal.loop-i-init
loop-i-init c = put-none _ _ _ (omega (arith, c.requires.0))

pub loop-i-preserved : goal.loop-i-preserved
loop-i-preserved c = put_one c.loop-i.invariant (omega (arith, c.loop-i-test.true, c.requires.0)) c.put_place.ensures

pub returns-2 : goal.returns-2
returns-2 c =
    let last : c.loop-i.i + 1 ≡ c.args.depth + 1 = grind arith in
    put_all (put_one c.loop-i.invariant (omega (arith, c.loop-i-test.true, c.requires.0)) c.put_place.ensures) c.args.depth last
