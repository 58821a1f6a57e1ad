-- The listing (01, "Two programs, one job"): a program's text, a line for each instruction, and the result's tree.
use Rattle.std.specs.Prelude.{ℕ, suc, ◌+◌, true, false, List, [], ◌∷◌, ◌++◌, map, leb, ℤ, length}
use Rattle.std.proofs.Math.Option.{Option, some, none}
use Rattle.snesl.specs.declared.code.Transducer.{Transducer}
use Rattle.snesl.specs.declared.code.Base.TheVariants.{Int}
use Rattle.snesl.specs.declared.refusal.Refusal.{Refusal}
use Rattle.snesl.specs.declared.refusal.Refusal.TheVariants.{NoAnswerRoom}
use Rattle.snesl.specs.Values.{ValueType}
use Rattle.snesl.specs.Terms.{Term, ∅}
use Rattle.snesl.specs.Ascii.{ascii, pieces}
use Rattle.snesl.specs.Text.{show_number, show_int, joined}
use Rattle.snesl.specs.Trees.{Tree, leaf, node}
use Rattle.snesl.specs.Transducers.{operands, signature}
use Rattle.snesl.specs.Programs.{Program, done, define, with_ctrl, count}
use Rattle.snesl.specs.Translation.{code, tree}
use Rattle.snesl.specs.Records.{Input, Front, refused, front, read_formula}
use Rattle.snesl.specs.Checking.{Typed, typed, context, input_types, turned, check_formula}
use Rattle.snesl.specs.Inputs.{input_trees, input_start}

-- s3
abbrev pub id_text : ℕ → List ℕ
id_text s = ascii "s" ++ show_number s

-- s0,s4
abbrev pub ids_text : List ℕ → List ℕ
ids_text ss = joined (map id_text ss)

-- a transducer's name, as under "Translation", with its constant: the same at either base
abbrev pub constant_text : Option ℤ → List ℕ
constant_text none = []
constant_text (some z) = show_int z

abbrev pub name_text : Transducer → List ℕ
name_text t = (signature Int t).name ++ constant_text (signature Int t).constant

-- s3 := Usum(s1)
abbrev pub define_line : ℕ → Transducer → List ℕ
define_line s t = pieces (id_text s ∷ ascii " := " ∷ name_text t ∷ ascii "(" ∷ ids_text (operands t) ∷ ascii ")\n" ∷ [])

-- [s5] := WithCtrl(s3,[s0,s4]) {
abbrev pub with_ctrl_line : (outs : List ℕ) (control : ℕ) (ins : List ℕ) → List ℕ
with_ctrl_line outs c ins =
    pieces
    (ascii "[" ∷ ids_text outs ∷ ascii "] := WithCtrl(" ∷ id_text c ∷ ascii ",[" ∷ ids_text ins ∷ ascii "]) {\n" ∷ [])

-- }
abbrev pub close_line : List ℕ
close_line = ascii "}\n"

-- a program whose first id is s
unfoldable pub lines_of : ℕ → Program → List ℕ
lines_of s done = []
lines_of s (define t p) = define_line s t ++ lines_of (suc s) p
lines_of s (with_ctrl outs c ins b p) =
    pieces (with_ctrl_line outs c ins ∷ lines_of s b ∷ close_line ∷ lines_of (s + count b) p ∷ [])

-- s0, or ((s0,s1),s2)
unfoldable pub tree_text : {d : ℕ} → Tree ℕ d → List ℕ
tree_text (leaf s) = id_text s
tree_text (node t s) = pieces (ascii "(" ∷ tree_text t ∷ ascii "," ∷ id_text s ∷ ascii ")" ∷ [])

-- result (s5,s1)
abbrev pub result_line : {d : ℕ} → Tree ℕ d → List ℕ
result_line t = pieces (ascii "result " ∷ tree_text t ∷ ascii "\n" ∷ [])

-- the whole listing of an expression over these inputs
abbrev pub listing_text : {τ : ValueType} → (is : List Input) → Term (context is) τ → List ℕ
listing_text is e =
    let δ = turned ∅ (input_trees 0 (input_types is)) in
    lines_of (input_start (input_types is)) (code e δ (input_start (input_types is))) ++ result_line (tree e δ (input_start (input_types is)))

-- what listing a formula's bytes gives where so many bytes are lent: its text, or one of 1 to 6, then 10
pub data Listed : Type 0 where
  unlisted : Refusal → Listed
  listed : List ℕ → Listed

abbrev pub room_for : (lent : ℕ) → List ℕ → Listed
room_for lent text = elim (leb (length text) lent) [ true ↦ listed text | false ↦ unlisted (NoAnswerRoom (length text)) ]

abbrev pub listed_typed : (lent : ℕ) → (is : List Input) → Typed (context is) → Listed
listed_typed lent is (Typed.refused r) = unlisted r
listed_typed lent is (typed τ e) = room_for lent (listing_text is e)

abbrev pub listed_front : (lent : ℕ) → Front → Listed
listed_front lent (refused r) = unlisted r
listed_front lent (front is k e next) = listed_typed lent is (check_formula is e)

abbrev pub listing : (lent : ℕ) → (formula : List ℕ) → Listed
listing lent formula = listed_front lent (read_formula formula)
