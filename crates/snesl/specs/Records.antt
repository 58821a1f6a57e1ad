-- The records of a formula and a job (01, "The formula and the job"), read at a position k of the bytes t; a record's place is its offset.
-- Reading meets refusals 2, 3 and 4, at each record in that order.
use Rattle.std.specs.Prelude.{ℕ, zero, suc, ◌+◌, ◌*◌, ◌-◌, Bool, true, false, ◌&&◌, List, [], ◌∷◌, eqb, ltb, leb, ℤ, pos, negsuc, length, get_or}
use Rattle.std.proofs.Math.Option.{Option, some, none}
use Rattle.snesl.specs.declared.code.Base.{Base}
use Rattle.snesl.specs.declared.code.Base.TheVariants as base
use Rattle.snesl.specs.declared.code.Operation.{Operation}
use Rattle.snesl.specs.declared.code.Operation.TheVariants.{Plus, LessEqual, Equal}
use Rattle.snesl.specs.declared.code.Variable.{Variable}
use Rattle.snesl.specs.declared.refusal.Refusal.{Refusal}
use Rattle.snesl.specs.declared.refusal.Refusal.TheVariants.{TooLong, NoRecord, OverLimit, TooMany}
use Rattle.snesl.specs.Limits.{most_bytes, most_inputs, most_records, most_nesting, most_listed, most_depth, last_variable}

abbrev pub byte_at : List ℕ → ℕ → ℕ
byte_at t k = get_or t k 0

-- the two-byte mark at k, as one number; 0, which is no mark, where there are no two bytes
abbrev pub mark_at : List ℕ → ℕ → ℕ
mark_at t k = elim (leb (k + 2) (length t)) [ true ↦ byte_at t k * 256 + byte_at t (k + 1) | false ↦ 0 ]

-- IN, IB, VA, VR, LT, KN, KB, IO, PL, LE, EQ, NO, SM, EA, GU
abbrev pub mark_in : ℕ
mark_in = 18766

abbrev pub mark_ib : ℕ
mark_ib = 18754

abbrev pub mark_va : ℕ
mark_va = 22081

abbrev pub mark_vr : ℕ
mark_vr = 22098

abbrev pub mark_lt : ℕ
mark_lt = 19540

abbrev pub mark_kn : ℕ
mark_kn = 19278

abbrev pub mark_kb : ℕ
mark_kb = 19266

abbrev pub mark_io : ℕ
mark_io = 18767

abbrev pub mark_pl : ℕ
mark_pl = 20556

abbrev pub mark_le : ℕ
mark_le = 19525

abbrev pub mark_eq : ℕ
mark_eq = 17745

abbrev pub mark_no : ℕ
mark_no = 20047

abbrev pub mark_sm : ℕ
mark_sm = 21325

abbrev pub mark_ea : ℕ
mark_ea = 17729

abbrev pub mark_gu : ℕ
mark_gu = 18261

abbrev pub variable_at : List ℕ → ℕ → Variable
variable_at t k = record { 0 = byte_at t k }

-- j variables from k on
unfoldable pub variables_at : List ℕ → (k j : ℕ) → List Variable
variables_at t k zero = []
variables_at t k (suc j) = variable_at t k ∷ variables_at t (suc k) j

-- each of j bytes from k on is a variable's
unfoldable pub variables_ok : List ℕ → (k j : ℕ) → Bool
variables_ok t k zero = true
variables_ok t k (suc j) = leb (byte_at t k) last_variable && variables_ok t (suc k) j

-- four bytes, little-endian, two's complement
abbrev pub signed : ℕ → ℤ
signed u = elim (ltb u 2147483648) [ true ↦ pos u | false ↦ negsuc (4294967295 - u) ]

abbrev pub int_at : List ℕ → ℕ → ℤ
int_at t k = signed (byte_at t k + byte_at t (k + 1) * 256 + byte_at t (k + 2) * 65536 + byte_at t (k + 3) * 16777216)

-- The raw formula: names, and each record with its offset.
pub data Raw : Type 0 where
  var : (place : ℕ) → Variable → Raw
  bind : (place : ℕ) → Variable → Raw → Raw → Raw
  const : (place : ℕ) → ℤ → Raw
  truth : (place : ℕ) → Bool → Raw
  iota : (place : ℕ) → Variable → Raw
  operation : (place : ℕ) → Operation → Variable → Variable → Raw
  negation : (place : ℕ) → Variable → Raw
  sum : (place : ℕ) → Variable → Raw
  each : (place : ℕ) (x y : Variable) (us : List Variable) → Raw → Raw
  guard : (place : ℕ) (g : Variable) (us : List Variable) → Raw → Raw

-- An expression record by itself: none that is whole (2), one over a limit (3), one with no expression behind it, LT, EA, or GU. Each with its bytes.
pub data Head : Type 0 where
  absent : Head
  over : Head
  single : Raw → (bytes : ℕ) → Head
  letting : Variable → Head
  eaching : (x y : Variable) (us : List Variable) (bytes : ℕ) → Head
  guarding : (g : Variable) (us : List Variable) (bytes : ℕ) → Head

-- a record of so many bytes at k is whole, and then keeps to its limits
abbrev pub whole : List ℕ → (k bytes : ℕ) → Bool → Head → Head
whole t k bytes ok h =
    elim (leb (k + bytes) (length t)) [ true ↦ elim ok [ true ↦ h | false ↦ over ] | false ↦ absent ]

-- EA x y j and j variables; its count says how long it is
abbrev pub each_head : List ℕ → ℕ → Head
each_head t k =
    let j = byte_at t (k + 4) in
    elim (leb (k + 5) (length t)) [
      | true ↦
          whole t k (5 + j)
          (variables_ok t (k + 2) 2 && leb j most_listed && variables_ok t (k + 5) j)
          (eaching (variable_at t (k + 2)) (variable_at t (k + 3)) (variables_at t (k + 5) j) (5 + j))
      | false ↦ absent
    ]

-- GU g j and j variables
abbrev pub guard_head : List ℕ → ℕ → Head
guard_head t k =
    let j = byte_at t (k + 3) in
    elim (leb (k + 4) (length t)) [
      | true ↦
          whole t k (4 + j)
          (variables_ok t (k + 2) 1 && leb j most_listed && variables_ok t (k + 4) j)
          (guarding (variable_at t (k + 2)) (variables_at t (k + 4) j) (4 + j))
      | false ↦ absent
    ]

-- KB and 0 for F or 1 for T: with any other byte it is no record
abbrev pub truth_head : List ℕ → ℕ → Head
truth_head t k =
    elim (eqb (byte_at t (k + 2)) 0) [
      | true ↦ whole t k 3 true (single (truth k false) 3)
      | false ↦ elim (eqb (byte_at t (k + 2)) 1) [ true ↦ whole t k 3 true (single (truth k true) 3) | false ↦ absent ]
    ]

-- the scalar operation on two ints that a mark stands for
abbrev pub operation_of : (mark : ℕ) → Option Operation
operation_of m =
    elim (eqb m mark_pl) [
      | true ↦ some Plus
      | false ↦
          elim (eqb m mark_le)
          [ true ↦ some LessEqual | false ↦ elim (eqb m mark_eq) [ true ↦ some Equal | false ↦ none ] ]
    ]

abbrev pub operation_head : List ℕ → ℕ → Option Operation → Head
operation_head t k none = absent
operation_head t k (some o) =
    whole t k 4 (variables_ok t (k + 2) 2) (single (operation k o (variable_at t (k + 2)) (variable_at t (k + 3))) 4)

unfoldable pub head_at : List ℕ → ℕ → Head
head_at t k =
    let m = mark_at t k in
    let x = variable_at t (k + 2) in
    elim (eqb m mark_vr) [
      | true ↦ whole t k 3 (variables_ok t (k + 2) 1) (single (var k x) 3)
      | false ↦
          elim (eqb m mark_lt) [
            | true ↦ whole t k 3 (variables_ok t (k + 2) 1) (letting x)
            | false ↦
                elim (eqb m mark_kn) [
                  | true ↦ whole t k 6 true (single (const k (int_at t (k + 2))) 6)
                  | false ↦
                      elim (eqb m mark_kb) [
                        | true ↦ truth_head t k
                        | false ↦
                            elim (eqb m mark_io) [
                              | true ↦ whole t k 3 (variables_ok t (k + 2) 1) (single (iota k x) 3)
                              | false ↦
                                  elim (eqb m mark_no) [
                                    | true ↦ whole t k 3 (variables_ok t (k + 2) 1) (single (negation k x) 3)
                                    | false ↦
                                        elim (eqb m mark_sm) [
                                          | true ↦ whole t k 3 (variables_ok t (k + 2) 1) (single (sum k x) 3)
                                          | false ↦
                                              elim (eqb m mark_ea) [
                                                | true ↦ each_head t k
                                                | false ↦ elim (eqb m mark_gu) [ true ↦ guard_head t k | false ↦ operation_head t k (operation_of m) ]
                                              ]
                                        ]
                                  ]
                            ]
                      ]
                ]
          ]
    ]

-- an expression, the position behind it, and how many expression records have been read in all
pub data Scanned : Type 0 where
  refused : Refusal → Scanned
  scanned : Raw → (next records : ℕ) → Scanned

abbrev pub then_scan : Scanned → (Raw → ℕ → ℕ → Scanned) → Scanned
then_scan (refused r) f = refused r
then_scan (scanned e k n) f = f e k n

-- no record may stand where as many LT, EA and GU records as are allowed and one more stand round it
abbrev pub too_deep : ℕ → Head → Scanned
too_deep k absent = refused (NoRecord k)
too_deep k over = refused (OverLimit k)
too_deep k (single e b) = refused (TooMany k)
too_deep k (letting x) = refused (TooMany k)
too_deep k (eaching x y us b) = refused (TooMany k)
too_deep k (guarding g us b) = refused (TooMany k)

-- one more record, unless there are as many as are allowed
abbrev pub counted : (k n : ℕ) → Scanned → Scanned
counted k n s = elim (ltb n most_records) [ true ↦ s | false ↦ refused (TooMany k) ]

-- The expression at k, where n records have been read and `levels` nestings are left, this record's own included.
unfoldable pub scan : (levels : ℕ) → List ℕ → (k n : ℕ) → Scanned
scan zero t k n = too_deep k (head_at t k)
scan (suc levels) t k n =
    elim (head_at t k) [
      | absent ↦ refused (NoRecord k)
      | over ↦ refused (OverLimit k)
      | single e b ↦ counted k n (scanned e (k + b) (n + 1))
      | letting x ↦
          counted k n
          (then_scan (scan levels t (k + 3) (n + 1))
          (λ e₁ k₁ n₁. then_scan (scan levels t k₁ n₁) (λ e₂ k₂ n₂. scanned (bind k x e₁ e₂) k₂ n₂)))
      | eaching x y us b ↦
          counted k n (then_scan (scan levels t (k + b) (n + 1)) (λ e k₁ n₁. scanned (each k x y us e) k₁ n₁))
      | guarding g us b ↦
          counted k n (then_scan (scan levels t (k + b) (n + 1)) (λ e k₁ n₁. scanned (guard k g us e) k₁ n₁))
    ]

-- IN x depth: braces round int; IB x depth: braces round bool
pub record Input : Type 0 where
  pub place : ℕ
  pub name : Variable
  pub base : Base
  pub depth : ℕ

-- the base that a mark declares, if it is an input's
abbrev pub input_base : (mark : ℕ) → Option Base
input_base m = elim (eqb m mark_in) [ true ↦ some base.Int | false ↦ elim (eqb m mark_ib) [ true ↦ some base.Bool | false ↦ none ] ]

-- the input records from a position on, and the position behind them
pub data Declared : Type 0 where
  refused : Refusal → Declared
  declared : List Input → (next : ℕ) → Declared

abbrev pub input_first : Input → Declared → Declared
input_first i (refused r) = refused r
input_first i (declared is k) = declared (i ∷ is) k

abbrev pub input_at : List ℕ → ℕ → Base → Input
input_at t k b = record { place = k; name = variable_at t (k + 2); base = b; depth = byte_at t (k + 3) }

-- an input record that is cut or over a limit is refused, and else what follows
abbrev pub input_ok : List ℕ → ℕ → Declared → Declared
input_ok t k next =
    elim (leb (k + 4) (length t)) [
      | true ↦
          elim (leb (byte_at t (k + 2)) last_variable && leb (byte_at t (k + 3)) most_depth) [ true ↦ next | false ↦ refused (OverLimit k) ]
      | false ↦ refused (NoRecord k)
    ]

unfoldable pub inputs_at : (left : ℕ) → List ℕ → (k : ℕ) → Declared
inputs_at zero t k = elim (input_base (mark_at t k)) [ some b ↦ input_ok t k (refused (TooMany k)) | none ↦ declared [] k ]
inputs_at (suc left) t k =
    elim (input_base (mark_at t k))
    [ some b ↦ input_ok t k (input_first (input_at t k b) (inputs_at left t (k + 4))) | none ↦ declared [] k ]

-- where a value text stands in the job
pub record Span : Type 0 where
  pub start : ℕ
  pub bytes : ℕ

-- the VA records from a position on, and the position behind them
pub data Texts : Type 0 where
  refused : Refusal → Texts
  texts : List Span → (next : ℕ) → Texts

abbrev pub span_first : Span → Texts → Texts
span_first s (refused r) = refused r
span_first s (texts ss k) = texts (s ∷ ss) k

-- VA, a two-byte length, and that many bytes
abbrev pub span_at : List ℕ → ℕ → Span
span_at t k = record { start = k + 4; bytes = byte_at t (k + 2) + byte_at t (k + 3) * 256 }

-- as many VA records as there are inputs
unfoldable pub texts_at : (inputs : ℕ) → List ℕ → (k : ℕ) → Texts
texts_at zero t k = texts [] k
texts_at (suc n) t k =
    elim (eqb (mark_at t k) mark_va && (leb (k + 4) (length t) && leb (k + 4 + (span_at t k).bytes) (length t)))
    [ true ↦ span_first (span_at t k) (texts_at n t (k + 4 + (span_at t k).bytes)) | false ↦ refused (NoRecord k) ]

-- a formula at the start of some bytes: its inputs, where its expression starts, the expression, and the position behind it
pub data Front : Type 0 where
  refused : Refusal → Front
  front : List Input → (expression : ℕ) → Raw → (next : ℕ) → Front

abbrev pub expression_after : List Input → (k : ℕ) → Scanned → Front
expression_after is k (refused r) = refused r
expression_after is k (scanned e next n) = front is k e next

abbrev pub inputs_then : List ℕ → Declared → Front
inputs_then t (refused r) = refused r
inputs_then t (declared is k) = expression_after is k (scan (suc most_nesting) t k 0)

unfoldable pub front_of : List ℕ → Front
front_of t = elim (leb (length t) most_bytes) [ true ↦ inputs_then t (inputs_at most_inputs t 0) | false ↦ refused TooLong ]

-- refusals 1 to 4 of a formula: nothing may follow its expression
abbrev pub formula_end : List ℕ → Front → Front
formula_end t (refused r) = refused r
formula_end t (front is k e next) = elim (eqb next (length t)) [ true ↦ front is k e next | false ↦ refused (NoRecord next) ]

abbrev pub read_formula : List ℕ → Front
read_formula t = formula_end t (front_of t)

-- refusals 1 to 4 of a job: behind the formula its inputs' texts, and nothing more
pub data JobRead : Type 0 where
  refused : Refusal → JobRead
  job : List Input → (expression : ℕ) → Raw → (next : ℕ) → List Span → JobRead

abbrev pub texts_then : List ℕ → List Input → ℕ → Raw → ℕ → Texts → JobRead
texts_then t is k e next (refused r) = refused r
texts_then t is k e next (texts ss end) = elim (eqb end (length t)) [ true ↦ job is k e next ss | false ↦ refused (NoRecord end) ]

abbrev pub job_end : List ℕ → Front → JobRead
job_end t (refused r) = refused r
job_end t (front is k e next) = texts_then t is k e next (texts_at (length is) t next)

abbrev pub read_job : List ℕ → JobRead
read_job t = job_end t (front_of t)
