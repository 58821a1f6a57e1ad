-- One after another.
use Rattle.sink.proofs.Keeping as keeping
use Rattle.sink.proofs.kept.take_in.Goals as goal

pub mark_one-requires-in-Two-2 : goal.mark_one-requires-in-Two-2
mark_one-requires-in-Two-2 c = (_, _, c.mark_one-in-Two.ensures _ _ c.requires.2)

pub returns-in-Nothing : goal.returns-in-Nothing
returns-in-Nothing c = λ t n m. keeping.marks-used c.args.own t c.in-Nothing.is (keeping.marks-none c.args.own m)

pub returns-in-One : goal.returns-in-One
returns-in-One c = λ t n m. keeping.marks-used c.args.own t c.in-One.is (keeping.marks-one c.args.own t _ (c.mark_one.ensures t n m))

pub returns-in-Two : goal.returns-in-Two
returns-in-Two c = λ t n m. keeping.marks-used c.args.own t c.in-Two.is (keeping.marks-two c.args.own t _ _ (c.mark_one-in-Two-2.ensures _ n (c.mark_one-in-Two.ensures t n m)))
