-- `Span::of`: a range of a slice is a part of it.
use Rattle.std.proofs.Common.{◌≡◌, ◌+◌, ◌-◌, ap, take, drop, arith}
use Rattle.laws.specs.Parts.{part}
use Rattle.steps.proofs.Span.of.Goals as goal

pub returns : goal.returns
unfolding part
returns c =
    let l : c.args.self.start + c.args.self.length - c.args.self.start ≡ c.args.self.length = omega arith in
    ap (λ n. take n (drop c.args.self.start c.args.held.now)) l
