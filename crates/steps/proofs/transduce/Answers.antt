-- Each arm calls one transducer; proofs/Applying.antt says what its answer means of the elements in the spans.
use Rattle.std.proofs.Common.{◌≡◌, Bool, true, false, pos, ◌∙◌, refl, arith}
use mir.Val.{bool_byte}
use Rattle.snesl.specs.Streams.{bit}
use Rattle.steps.proofs.Applying.{second-short, constant-answers, constant-bool-answers, to-flags-answers, b2u-answers, usum-answers, map-two-answers, map-one-not-answers, scan-plus-answers, distr-answers, sum-plus-answers, pack-answers, upack-answers}
use Rattle.steps.proofs.transduce.Goals as goal

as-bit : (c : Bool) → pos (bool_byte c) ≡ bit c
as-bit false = refl
as-bit true = refl

pub sum_plus-requires : goal.sum_plus-requires
sum_plus-requires c = second-short c.requires.1 c.of-second.ensures

pub returns-in-Const : goal.returns-in-Const
returns-in-Const c = λ σ a. constant-answers a c.of-first.ensures c.of-second.ensures _ _ c.in-Const.is (record { sfits = omega arith }) c.constant.ensures

pub returns-in-ConstBool : goal.returns-in-ConstBool
returns-in-ConstBool c =
    λ σ a. constant-bool-answers a c.of-first.ensures c.of-second.ensures _ _ c.in-ConstBool.is (c.from.ensures ∙ as-bit _) c.constant-in-ConstBool.ensures

pub returns-in-ToFlags : goal.returns-in-ToFlags
returns-in-ToFlags c = λ σ a. to-flags-answers a c.of-first.ensures c.of-second.ensures _ _ c.in-ToFlags.is c.to_flags.ensures

pub returns-in-B2u : goal.returns-in-B2u
returns-in-B2u c = λ σ a. b2u-answers a c.of-first.ensures c.of-second.ensures _ _ c.in-B2u.is c.to_flags-in-B2u.ensures

pub returns-in-Usum : goal.returns-in-Usum
returns-in-Usum c = λ σ a. usum-answers a c.of-first.ensures c.of-second.ensures _ _ c.in-Usum.is c.usum.ensures

pub returns-in-MapTwo : goal.returns-in-MapTwo
returns-in-MapTwo c = λ σ a. map-two-answers a c.of-first.ensures c.of-second.ensures _ _ _ _ c.in-MapTwo.is c.map_two.ensures.answers

pub returns-in-MapOneNot : goal.returns-in-MapOneNot
returns-in-MapOneNot c = λ σ a. map-one-not-answers a c.of-first.ensures c.of-second.ensures _ _ c.in-MapOneNot.is c.map_one_not.ensures

pub returns-in-ScanPlus : goal.returns-in-ScanPlus
returns-in-ScanPlus c =
    λ σ a. scan-plus-answers a c.of-first.ensures c.of-second.ensures _ _ _ _ c.in-ScanPlus.is (record { sfits = omega arith }) c.scan_plus.ensures.answers

pub returns-in-Distr : goal.returns-in-Distr
returns-in-Distr c = λ σ a. distr-answers a c.of-first.ensures c.of-second.ensures _ _ _ c.in-Distr.is c.distr.ensures

pub returns-in-SumPlus : goal.returns-in-SumPlus
returns-in-SumPlus c = λ σ a. sum-plus-answers a c.of-first.ensures c.of-second.ensures _ _ _ c.in-SumPlus.is c.sum_plus.ensures.answers

pub returns-in-Pack : goal.returns-in-Pack
returns-in-Pack c = λ σ a. pack-answers a c.of-first.ensures c.of-second.ensures _ _ _ c.in-Pack.is c.pack.ensures

pub returns-in-UPack : goal.returns-in-UPack
returns-in-UPack c = λ σ a. upack-answers a c.of-first.ensures c.of-second.ensures _ _ _ c.in-UPack.is c.upack.ensures
