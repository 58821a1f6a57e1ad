-- What each mark stands for: the number of a mark by snesl's, the record by the code's own enum.
use Rattle.std.specs.Prelude.{ℕ, true, false, ◌≡◌, eqb, Result, Ok, Err}
use Rattle.std.proofs.Math.Option.{Option, some, none}
use Rattle.snesl.specs.declared.code.Base.{Base}
use Rattle.snesl.specs.declared.code.Operation as code
use Rattle.snesl.specs.Records.{input_base, operation_of, mark_va, mark_vr, mark_lt, mark_kn, mark_kb, mark_io, mark_no, mark_sm, mark_ea, mark_gu}
use Rattle.records.specs.declared.marks.Form.{Form}
use Rattle.records.specs.declared.marks.Form.TheVariants as form
use Rattle.records.specs.declared.marks.Mark.{Mark}
use Rattle.records.specs.declared.marks.Mark.TheVariants as mark
use Rattle.records.specs.declared.marks.UnknownMark.{UnknownMark}

abbrev pub operation_form : Option code.Operation → Option Form
operation_form (some o) = some (form.Operation o)
operation_form none = none

-- the expression that a mark starts, if it is an expression's
abbrev pub form_of : (mark : ℕ) → Option Form
form_of m =
    elim (eqb m mark_vr) [
      | true ↦ some form.Var
      | false ↦
          elim (eqb m mark_lt) [
            | true ↦ some form.Let
            | false ↦
                elim (eqb m mark_kn) [
                  | true ↦ some form.Const
                  | false ↦
                      elim (eqb m mark_kb) [
                        | true ↦ some form.Truth
                        | false ↦
                            elim (eqb m mark_io) [
                              | true ↦ some form.Iota
                              | false ↦
                                  elim (eqb m mark_no) [
                                    | true ↦ some form.Negation
                                    | false ↦
                                        elim (eqb m mark_sm) [
                                          | true ↦ some form.Sum
                                          | false ↦
                                              elim (eqb m mark_ea) [
                                                | true ↦ some form.Each
                                                | false ↦ elim (eqb m mark_gu) [ true ↦ some form.Guard | false ↦ operation_form (operation_of m) ]
                                              ]
                                        ]
                                  ]
                            ]
                      ]
                ]
          ]
    ]

-- an input's mark, a text's or an expression's, or none
abbrev pub expression_mark : Option Form → Option Mark
expression_mark (some f) = some (mark.Expression f)
expression_mark none = none

abbrev pub text_mark : (mark : ℕ) → Option Mark
text_mark m = elim (eqb m mark_va) [ true ↦ some mark.Text | false ↦ expression_mark (form_of m) ]

abbrev pub mark_by : Option Base → Option Mark → Option Mark
mark_by (some b) o = some (mark.Input b)
mark_by none o = o

abbrev pub mark_of : (mark : ℕ) → Option Mark
mark_of m = mark_by (input_base m) (text_mark m)

abbrev pub marks : (mark : ℕ) → Option Mark → Result Mark UnknownMark
marks m (some k) = Ok k
marks m none = Err (record { 0 = m })

-- what the conversion of a number gives
pub record Marks (m : ℕ) (r : Result Mark UnknownMark) : Type 0 where
  pub is : r ≡ marks m (mark_of m)
