-- Checking a whole expression over scopes as the code holds them, and the walk's part in it.
use Rattle.std.specs.Prelude.{ℕ, suc, ◌+◌, ◌*◌, ◌≤◌, max, true, false, ◌&&◌, List, [], ◌∷◌, Option, None, Some, Result, Ok, Err, ◌≡◌, ltb, length, drop, sum_by}
use Rattle.snesl.specs.declared.refusal.Refusal.{Refusal}
use Rattle.snesl.specs.declared.refusal.Refusal.TheVariants.{Unbound, WrongType}
use Rattle.snesl.specs.Limits.{most_depth, most_listed, most_nesting, most_inputs}
use Rattle.snesl.specs.Records as records
use Rattle.snesl.specs.declared.code.Operation.{Operation}
use Rattle.snesl.specs.Values as values
use Rattle.snesl.specs.Values.{scalar, braces, int, bool, result_of}
use Rattle.snesl.specs.Checking as checking
use Rattle.records.specs.declared.head.Head.{Head}
use Rattle.records.specs.declared.head.Head.TheVariants as head
use Rattle.scopes.specs.declared.types.ValueType.{ValueType}
use Rattle.scopes.specs.declared.scope.Binding.{Binding}
use Rattle.checking.specs.declared.check.Turn.{Turn}
use Rattle.checking.specs.declared.check.Turn.TheVariants as turn
use Rattle.checking.specs.declared.check.Judged.{Judged}
use Rattle.checking.specs.declared.check.Judging.{Judging}
use Rattle.scopes.specs.Types.{told, same_type}
use Rattle.scopes.specs.Scopes.{scope, type_in}
use Rattle.scopes.specs.UsingLists.{Body, stop, inside, each_in, guard_in}
use Rattle.environment.specs.Words.{tree_size}
use Rattle.environment.specs.Needs.{binding_size, body_size, spread_size, words}

-- what the public functions answer of snesl's check
abbrev pub checked_of : {Γ : List values.ValueType} → checking.Typed Γ → Result ValueType Refusal
checked_of (checking.refused r) = Err r
checked_of (checking.typed τ e) = Ok (told τ)

-- refusals 1 to 6 of a formula that is read
abbrev pub check_front : records.Front → Result ValueType Refusal
check_front (records.refused r) = Err r
check_front (records.front is k e next) = checked_of (checking.check_formula is e)

-- the same with the words that the walk of the typed expression takes
abbrev pub judged_of : {Γ : List values.ValueType} → checking.Typed Γ → Result Judged Refusal
judged_of (checking.refused r) = Err r
judged_of (checking.typed τ e) = Ok (record { found = told τ; words = words e })

abbrev pub judge_front : records.Front → Result Judged Refusal
judge_front (records.refused r) = Err r
judge_front (records.front is k e next) = judged_of (checking.check_formula is e)

-- ---- the check over scopes: a refusal, or an expression's type and the words of its walk

abbrev pub gives : ValueType → (words : ℕ) → Result Judged Refusal
gives d n = Ok (record { found = d; words = n })

-- one record without the expressions inside it
abbrev pub var_in : (place : ℕ) → Option ValueType → Result ValueType Refusal
var_in p None = Err (Unbound p)
var_in p (Some d) = Ok d

abbrev pub want_in : (place : ℕ) → (wanted result : ValueType) → Option ValueType → Result ValueType Refusal
want_in p wanted result None = Err (Unbound p)
want_in p wanted result (Some d) = elim (same_type d wanted) [ true ↦ Ok result | false ↦ Err (WrongType p) ]

abbrev pub both_in : (place : ℕ) → (result : ValueType) → Option ValueType → Option ValueType → Result ValueType Refusal
both_in p result None l = Err (Unbound p)
both_in p result (Some a) None = Err (Unbound p)
both_in p result (Some a) (Some b) =
    elim (same_type a (told int) && same_type b (told int)) [ true ↦ Ok result | false ↦ Err (WrongType p) ]

abbrev pub result_type : Operation → ValueType
result_type o = told (scalar (result_of o))

abbrev pub ints : ValueType
ints = told (braces int)

-- its walk takes the tree of its result
abbrev pub sized : Result ValueType Refusal → Result Judged Refusal
sized (Err r) = Err r
sized (Ok d) = gives d (tree_size d.depth)

abbrev pub then_typed : Result Judged Refusal → (ValueType → ℕ → Result Judged Refusal) → Result Judged Refusal
then_typed (Err r) f = Err r
then_typed (Ok j) f = f j.found j.words

abbrev pub body_then : Body → (List Binding → Result Judged Refusal) → Result Judged Refusal
body_then (stop r) f = Err r
body_then (inside w) f = f w

-- a let of a first expression of type c, when its second one is done
abbrev pub bound : (c : ValueType) → (first : ℕ) → (d : ValueType) → (second : ℕ) → Result Judged Refusal
bound c n d m = gives d (max n (binding_size c.depth + m))

abbrev pub sequence_of : ValueType → ValueType
sequence_of d = record { base = d.base; depth = suc d.depth }

-- one deeper than a body, where that is a type
abbrev pub deeper : (place : ℕ) → (d : ValueType) → (words : ℕ) → Result Judged Refusal
deeper p d n = elim (ltb d.depth most_depth) [ true ↦ gives (sequence_of d) n | false ↦ Err (WrongType p) ]

-- a comprehension over elements of type c, when its body is done
abbrev pub closed : (place : ℕ) → (c : ValueType) → (listed : ℕ) → (d : ValueType) → (words : ℕ) → Result Judged Refusal
closed p c j d n = deeper p d (body_size c.depth j + n)

-- a guard whose listed variables take so many words, when its body is done
abbrev pub guarded : (place size : ℕ) → (d : ValueType) → (words : ℕ) → Result Judged Refusal
guarded p s d n = deeper p d (3 + (s + max spread_size n))

-- the words of a scope's variables, a binding for each
abbrev pub bindings_size : List Binding → ℕ
bindings_size w = sum_by (λ b. binding_size b.value_type.depth) w

-- the type of a scope's newest variable
abbrev pub newest : List Binding → ValueType
newest [] = told int
newest (b ∷ w) = b.value_type

unfoldable pub judge : List Binding → records.Raw → Result Judged Refusal
judge w (records.var p x) = sized (var_in p (type_in x w))
judge w (records.bind p x e₁ e₂) =
    then_typed (judge w e₁) (λ c n. then_typed (judge (record { name = x; value_type = c } ∷ w) e₂) (bound c n))
judge w (records.const p z) = sized (Ok (told int))
judge w (records.truth p c) = sized (Ok (told bool))
judge w (records.iota p x) = sized (want_in p (told int) ints (type_in x w))
judge w (records.operation p o x y) = sized (both_in p (result_type o) (type_in x w) (type_in y w))
judge w (records.negation p x) = sized (want_in p (told bool) (told bool) (type_in x w))
judge w (records.sum p x) = sized (want_in p ints (told int) (type_in x w))
judge w (records.each p x y us e) = body_then (each_in w p x y us) (λ v. then_typed (judge v e) (closed p (newest v) (length us)))
judge w (records.guard p g us e) = body_then (guard_in w p g us) (λ v. then_typed (judge v e) (guarded p (bindings_size v)))

abbrev pub leaf_in : (next : ℕ) → Result ValueType Refusal → Result Turn Refusal
leaf_in next (Err r) = Err r
leaf_in next (Ok d) = Ok (turn.Found next d)

-- the record at k by its head
abbrev pub turn_in : List Binding → (k : ℕ) → Result Head Refusal → Result Turn Refusal
turn_in w k (Err r) = Err r
turn_in w k (Ok (head.Var x)) = leaf_in (k + 3) (var_in k (type_in x w))
turn_in w k (Ok (head.Let x)) = Ok (turn.Let x)
turn_in w k (Ok (head.Const z)) = Ok (turn.Found (k + 6) (told int))
turn_in w k (Ok (head.Truth c)) = Ok (turn.Found (k + 3) (told bool))
turn_in w k (Ok (head.Iota x)) = leaf_in (k + 3) (want_in k (told int) ints (type_in x w))
turn_in w k (Ok (head.Operation o x y)) = leaf_in (k + 4) (both_in k (result_type o) (type_in x w) (type_in y w))
turn_in w k (Ok (head.Negation x)) = leaf_in (k + 3) (want_in k (told bool) (told bool) (type_in x w))
turn_in w k (Ok (head.Sum x)) = leaf_in (k + 3) (want_in k ints (told int) (type_in x w))
turn_in w k (Ok (head.Each x y j)) = Ok (turn.Each x y j)
turn_in w k (Ok (head.Guard g j)) = Ok (turn.Guard g j)

abbrev pub judging_of : (next : ℕ) → Result Judged Refusal → Result Judging Refusal
judging_of next (Err r) = Err r
judging_of next (Ok j) = Ok (record { next = next; found = j.found; words = j.words })

-- a let's answer from its two expressions'
abbrev pub bound_in : Judging → Judging → Judging
bound_in first second =
    record { next = second.next; found = second.found; words = max first.words (binding_size first.found.depth + second.words) }

abbrev pub words_of : Result Judging Refusal → ℕ
words_of (Err r) = 0
words_of (Ok j) = j.words

-- words that one nesting takes at most, where all that is known of a depth is that it is a byte: enough to see that no sum of them is too large
-- (a guard's listed variables take more than what an EA has before its body)
abbrev pub listed_bound : ℕ
listed_bound = most_listed * binding_size 255

abbrev pub nesting_bound : ℕ
nesting_bound = 3 + (listed_bound + spread_size)

abbrev pub words_bound : ℕ
words_bound = nesting_bound * suc most_nesting

-- variables that one nesting pushes at most: x and the listed ones
abbrev pub most_pushed : ℕ
most_pushed = 1 + most_listed

-- An expression stands at k with `levels` nestings left, its own included, and below sp there is room for what they push.
pub record Judgeable (t : List ℕ) (k levels : ℕ) (env : List Binding) (sp floor : ℕ) : Type 0 where
  pub count : ℕ
  pub expression : records.Raw
  pub next : ℕ
  pub after : ℕ
  pub read : records.scan levels t k count ≡ records.scanned expression next after
  pub shallow : levels ≤ suc most_nesting
  pub room : most_pushed * levels ≤ sp + most_pushed
  pub order : sp ≤ floor
  pub high : floor ≤ length env

-- The answer is that expression's, whichever it is, and the stack from sp on is as it was.
pub record Judges (t : List ℕ) (k levels : ℕ) (old : List Binding) (sp floor : ℕ) (new : List Binding) (r : Result Judging Refusal) : Type 0 where
  pub above : drop sp new ≡ drop sp old
  pub few : words_of r ≤ nesting_bound * levels
  pub answer : (g : Judgeable t k levels old sp floor) → r ≡ judging_of g.next (judge (scope sp floor old) g.expression)

-- the inputs of a formula entered into a scope, first one first: the place of one whose name is there already, or the scope with all of them
pub data Entry : Type 0 where
  again : (place : ℕ) → Entry
  entered : List Binding → Entry

abbrev pub enter_first : Option ValueType → (place : ℕ) → Entry → Entry
enter_first None p e = e
enter_first (Some d) p e = again p

unfoldable pub enter_in : List Binding → List records.Input → Entry
enter_in w [] = entered w
enter_in w (i ∷ is) =
    enter_first (type_in i.name w) i.place (enter_in (record { name = i.name; value_type = told (checking.input_type i) } ∷ w) is)

abbrev pub entered_by : records.Declared → Entry
entered_by (records.refused r) = again 0
entered_by (records.declared is k) = enter_in [] is

-- so many inputs are declared
pub record Declares (t : List ℕ) (inputs : ℕ) : Type 0 where
  pub list : List records.Input
  pub next : ℕ
  pub read : records.inputs_at most_inputs t 0 ≡ records.declared list next
  pub count : inputs ≡ length list

-- the scope stands at the top of the stack
pub record Top (e : Entry) (inputs : ℕ) (env : List Binding) (sp : ℕ) : Type 0 where
  pub at : sp + inputs ≡ length env
  pub bindings : e ≡ entered (drop sp env)

abbrev pub Enters : Entry → (inputs : ℕ) → List Binding → Result ℕ Refusal → Type 0
Enters e inputs env (Err r) = (p : ℕ) × (e ≡ again p) × (r ≡ Unbound p)
Enters e inputs env (Ok sp) = Top e inputs env sp
