-- The form's promise: which fields there are.
use Rattle.std.proofs.Common.{◌+◌, ◌∙◌, ap}
use mir.Facts.{to_z-of_z}
use mir.Syntax.{w32}
use borrow.Author.Rules.{sfits_of}
use Rattle.std.specs.Prelude.{Ok}
use Rattle.records.specs.declared.head.Head.TheVariants.{Const, Each, Guard}
use Rattle.snesl.specs.Records.{variable_at}
use Rattle.records.proofs.Heads.{fitting}
use Rattle.records.proofs.head.fields.Goals as goal

pub returns-in-Var : goal.returns-in-Var
returns-in-Var c = fitting c.args.bytes.now c.args.k c.in-Var.is c.requires.form_is c.requires.fits

pub returns-in-Let : goal.returns-in-Let
returns-in-Let c = fitting c.args.bytes.now c.args.k c.in-Let.is c.requires.form_is c.requires.fits

pub returns-in-Iota : goal.returns-in-Iota
returns-in-Iota c = fitting c.args.bytes.now c.args.k c.in-Iota.is c.requires.form_is c.requires.fits

pub returns-in-Negation : goal.returns-in-Negation
returns-in-Negation c = fitting c.args.bytes.now c.args.k c.in-Negation.is c.requires.form_is c.requires.fits

pub returns-in-Sum : goal.returns-in-Sum
returns-in-Sum c = fitting c.args.bytes.now c.args.k c.in-Sum.is c.requires.form_is c.requires.fits

pub returns-in-Truth : goal.returns-in-Truth
returns-in-Truth c = fitting c.args.bytes.now c.args.k c.in-Truth.is c.requires.form_is c.requires.fits

pub returns-in-Operation : goal.returns-in-Operation
returns-in-Operation c = fitting c.args.bytes.now c.args.k c.in-Operation.is c.requires.form_is c.requires.fits

pub returns-in-Each : goal.returns-in-Each
returns-in-Each c = ap (λ z. Ok (Each (variable_at c.args.bytes.now (c.args.k + 2)) (variable_at c.args.bytes.now (c.args.k + 3)) z)) c.from.ensures ∙ fitting c.args.bytes.now c.args.k c.in-Each.is c.requires.form_is c.requires.fits

pub returns-in-Guard : goal.returns-in-Guard
returns-in-Guard c = ap (λ z. Ok (Guard (variable_at c.args.bytes.now (c.args.k + 2)) z)) c.from-in-Guard.ensures ∙ fitting c.args.bytes.now c.args.k c.in-Guard.is c.requires.form_is c.requires.fits

pub returns-in-Const : goal.returns-in-Const
returns-in-Const c = ap (λ z. Ok (Const z)) (to_z-of_z {w = w32} (sfits_of c.int_at.type_inv) ∙ c.int_at.ensures)
    ∙ fitting c.args.bytes.now c.args.k c.in-Const.is c.requires.form_is c.requires.fits
