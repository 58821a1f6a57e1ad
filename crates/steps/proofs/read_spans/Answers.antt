-- As many operands as the transducer has are read at their places (proofs/Spanning.antt).
use mathlib.Core.Path.{transport}
use Rattle.std.proofs.Common.{◌≡◌, sym, subst, rules}
use Rattle.steps.specs.Holding.{Spanned}
use Rattle.steps.proofs.Spanning.{spanned-none, spanned-one, spanned-two, reads_first, reads_second}
use Rattle.steps.proofs.read_spans.Goals as goal

pub read_span-requires : goal.read_span-requires
read_span-requires c =
    let none : c.arity.result ≡ 0 → ⊥ = search rules in
    reads_first c.requires.0 c.args.env.now c.args.t c.args.at c.requires.1 c.requires.2 c.arity.ensures none

pub read_span-requires-in_default : goal.read_span-requires-in_default
read_span-requires-in_default c =
    let none : c.arity.result ≡ 0 → ⊥ = search rules in
    reads_first c.requires.0 c.args.env.now c.args.t c.args.at c.requires.1 c.requires.2 c.arity.ensures none

pub read_span-requires-in_default-2 : goal.read_span-requires-in_default-2
read_span-requires-in_default-2 c =
    let none : c.arity.result ≡ 0 → ⊥ = search rules in
    let one : c.arity.result ≡ 1 → ⊥ = search rules in
    reads_second c.requires.0 c.args.env.now c.args.t c.args.at c.requires.1 c.requires.2 c.arity.ensures none one

pub returns-in-0 : goal.returns-in-0
returns-in-0 c = λ σ b o. spanned-none σ _ _ _ b o c.arity.ensures c.in-0.is

pub returns-in-1 : goal.returns-in-1
returns-in-1 c = λ σ b o.
    subst (λ s. Spanned σ c.args.t (record { first = s; second = record { start = 0; length = 0 } })) (sym c.read_span.ensures)
    (spanned-one σ _ _ _ b o c.arity.ensures c.in-1.is)

pub returns-in_default : goal.returns-in_default
returns-in_default c = λ σ b o.
    let none : c.arity.result ≡ 0 → ⊥ = search rules in
    let one : c.arity.result ≡ 1 → ⊥ = search rules in
    transport (λ i. Spanned σ c.args.t (record { first = sym c.read_span-in_default.ensures i; second = sym c.read_span-in_default-2.ensures i }))
    (spanned-two σ _ _ _ b o c.arity.ensures none one)
