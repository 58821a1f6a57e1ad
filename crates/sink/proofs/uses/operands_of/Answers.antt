-- By the transducer's case.
use borrow.Author.Rules.{rules}
use Rattle.sink.proofs.Using as cases
use Rattle.sink.proofs.uses.operands_of.Goals as goal

pub returns-in-Const : goal.returns-in-Const
returns-in-Const c = cases.operates c.in-Const.is (cases.const-operates _ (search rules))

pub returns-in-ConstBool : goal.returns-in-ConstBool
returns-in-ConstBool c = cases.operates c.in-ConstBool.is (cases.const_bool-operates _)

pub returns-in-ToFlags : goal.returns-in-ToFlags
returns-in-ToFlags c = cases.operates c.in-ToFlags.is (cases.to_flags-operates c.in-ToFlags.a (search rules))

pub returns-in-B2u : goal.returns-in-B2u
returns-in-B2u c = cases.operates c.in-B2u.is (cases.b2u-operates c.in-B2u.a (search rules))

pub returns-in-Usum : goal.returns-in-Usum
returns-in-Usum c = cases.operates c.in-Usum.is (cases.usum-operates c.in-Usum.a (search rules))

pub returns-in-MapTwo : goal.returns-in-MapTwo
returns-in-MapTwo c = cases.operates c.in-MapTwo.is (cases.map_two-operates c.in-MapTwo.a (search rules) c.in-MapTwo.b (search rules) _)

pub returns-in-MapOneNot : goal.returns-in-MapOneNot
returns-in-MapOneNot c = cases.operates c.in-MapOneNot.is (cases.not-operates c.in-MapOneNot.a (search rules))

pub returns-in-ScanPlus : goal.returns-in-ScanPlus
returns-in-ScanPlus c = cases.operates c.in-ScanPlus.is (cases.scan-operates c.in-ScanPlus.a (search rules) c.in-ScanPlus.b (search rules) _ (search rules))

pub returns-in-Distr : goal.returns-in-Distr
returns-in-Distr c = cases.operates c.in-Distr.is (cases.distr-operates c.in-Distr.a (search rules) c.in-Distr.b (search rules))

pub returns-in-SumPlus : goal.returns-in-SumPlus
returns-in-SumPlus c = cases.operates c.in-SumPlus.is (cases.sum-operates c.in-SumPlus.a (search rules) c.in-SumPlus.b (search rules))

pub returns-in-Pack : goal.returns-in-Pack
returns-in-Pack c = cases.operates c.in-Pack.is (cases.pack-operates c.in-Pack.a (search rules) c.in-Pack.b (search rules))

pub returns-in-UPack : goal.returns-in-UPack
returns-in-UPack c = cases.operates c.in-UPack.is (cases.upack-operates c.in-UPack.a (search rules) c.in-UPack.b (search rules))
