-- The transducers (002, 1.2.3; SumPlus is 01's; those on bools are 001's) as total functions on any streams under a control stream of n units.
-- A transducer's blocks are its elements, numbered from 0 in control order. It stops at the first element at which its streams don't
-- fit (something is missing, left over or no flag); where they fit, at the first element that has no value; else it has its output.
use Rattle.std.specs.Prelude.{ℕ, zero, suc, min, Bool, true, false, ◌&&◌, not, eqb, ℤ, pos, negsuc, ◌+ℤ◌, length, replicate}
use mathlib.Core.List.{List, [], ◌∷◌, ◌++◌, map, tail}
use Rattle.std.proofs.Math.Option.{Option, some, none}
use Rattle.std.specs.Int.Signed.{le_z}
use Rattle.snesl.specs.declared.code.Kind.{Kind}
use Rattle.snesl.specs.declared.code.Kind.TheVariants.{Ints, Bools, Flags, Units}
use Rattle.snesl.specs.declared.code.Base.{Base}
use Rattle.snesl.specs.declared.code.Base.TheVariants as base
use Rattle.snesl.specs.declared.code.Operation.{Operation}
use Rattle.snesl.specs.declared.code.Operation.TheVariants.{Plus, LessEqual, Equal}
use Rattle.snesl.specs.declared.code.Transducer.{Transducer}
use Rattle.snesl.specs.declared.code.Transducer.TheVariants.{Const, ConstBool, ToFlags, B2u, Usum, MapTwo, MapOneNot, ScanPlus, Distr, SumPlus, Pack, UPack}
use Rattle.snesl.specs.Values.{Element, in_range, result_of, equal_z}
use Rattle.snesl.specs.Ascii.{ascii}
use Rattle.snesl.specs.Streams.{Stream, ints, bools, flags, units, bare, data_of, data_kind, base_in, Store, ◌!◌}

-- what a transducer answers: its output, or why it stopped and at which element
pub data Answer : Type 0 where
  made : Stream → Answer
  unfit : ℕ → Answer
  negative : ℕ → Answer
  outside : ℕ → Answer

-- the element at which something is wrong, or else what comes next
abbrev pub unless : Option ℕ → (ℕ → Answer) → Answer → Answer
unless none why a = a
unless (some k) why a = why k

-- An element of a flag stream as a flag: in a list of Bools each is one (`some`); in a buffer 0 is F and 1 is T, and all else is none.
abbrev pub flag_of : ℤ → Option Bool
flag_of (pos zero) = some false
flag_of (pos (suc zero)) = some true
flag_of (pos (suc (suc n))) = none
flag_of (negsuc n) = none

-- An element of a bool stream in a buffer: 0 is F, and all else is T.
abbrev pub bool_of : ℤ → Bool
bool_of (pos zero) = false
bool_of (pos (suc n)) = true
bool_of (negsuc n) = true

-- what a flag takes of the stream beside it: nothing (Usum), an item at each F (ScanPlus, SumPlus), an item at each T (Distr, UPack)
pub data Feed : Type 0 where
  alone : Feed
  each_f : Feed
  each_t : Feed

abbrev pub takes : Feed → Bool → Bool
takes alone b = false
takes each_f false = true
takes each_f true = false
takes each_t false = false
takes each_t true = true

-- the stream beside it after that, if it had the item
abbrev pub fed : {B : Type 0} → Bool → List B → Option (List B)
fed false xs = some xs
fed true [] = none
fed true (x ∷ xs) = some xs

-- the first item, or 0
abbrev pub first : List ℤ → ℤ
first [] = pos 0
first (z ∷ zs) = z

-- put in front where it is wanted
abbrev pub only_if : {B : Type 0} → Bool → B → List B → List B
only_if false x xs = xs
only_if true x xs = x ∷ xs

-- Figure 1.5 block by block. A flag stream is read through `flag`, so that it may be a list of Bools or a part of a buffer.
module _ {A : Type 0} (flag : A → Option Bool) where
  -- the first element k at which n segments, each some F's and a T, don't use up both streams
  unfoldable pub misfit : {B : Type 0} → Feed → (k n : ℕ) → List A → List B → Option ℕ
  misfit f k zero [] [] = none
  misfit f k zero [] (x ∷ xs) = some k
  misfit f k zero (b ∷ bs) xs = some k
  misfit f k (suc n) [] xs = some k
  misfit f k (suc n) (b ∷ bs) xs =
      elim (flag b) [
        | none ↦ some k
        | some c ↦
            elim (fed (takes f c) xs)
            [ none ↦ some k | some ys ↦ elim c [ false ↦ misfit f k (suc n) bs ys | true ↦ misfit f (suc k) n bs ys ] ]
      ]

  -- P-X-USUM: a unit for each F
  unfoldable pub count_f : List A → ℕ
  count_f [] = zero
  count_f (b ∷ bs) = elim (flag b) [ none ↦ count_f bs | some c ↦ elim c [ false ↦ suc (count_f bs) | true ↦ count_f bs ] ]

  -- P-X-DISTR: the segment's item at each F
  unfoldable pub spread : {B : Type 0} → List A → List B → List B
  spread [] xs = []
  spread (b ∷ bs) [] = []
  spread (b ∷ bs) (x ∷ xs) =
      elim (flag b) [ none ↦ [] | some c ↦ elim c [ false ↦ x ∷ spread bs (x ∷ xs) | true ↦ spread bs xs ] ]

  -- P-X-SCAN from `start`: at each F the total so far in its segment, with its element
  unfoldable pub scans : (start : ℤ) (k : ℕ) (sofar : ℤ) → List A → List ℤ → List (ℕ × ℤ)
  scans start k sofar [] xs = []
  scans start k sofar (b ∷ bs) xs =
      elim (flag b) [
        | none ↦ []
        | some c ↦
            elim c [
              | false ↦ (k, sofar) ∷ scans start k (sofar +ℤ first xs) bs (tail xs)
              | true ↦ scans start (suc k) start bs xs
            ]
      ]

  -- SumPlus: at each T the exact total of its segment, with its element
  unfoldable pub sums : (k : ℕ) (sofar : ℤ) → List A → List ℤ → List (ℕ × ℤ)
  sums k sofar [] xs = []
  sums k sofar (b ∷ bs) xs =
      elim (flag b) [
        | none ↦ []
        | some c ↦
            elim c
            [ false ↦ sums k (sofar +ℤ first xs) bs (tail xs) | true ↦ (k, sofar) ∷ sums (suc k) (pos 0) bs xs ]
      ]

  -- UPack (001): the segments whose bool is T, each whole with its T
  unfoldable pub kept_segments : List Bool → List A → List Bool
  kept_segments cs [] = []
  kept_segments [] (b ∷ bs) = []
  kept_segments (c ∷ cs) (b ∷ bs) =
      elim (flag b) [
        | none ↦ []
        | some t ↦ only_if c t (elim t [ false ↦ kept_segments (c ∷ cs) bs | true ↦ kept_segments cs bs ])
      ]

-- Pack (001): the items whose bool is T
unfoldable pub kept : {B : Type 0} → List Bool → List B → List B
kept [] xs = []
kept (c ∷ cs) [] = []
kept (c ∷ cs) (x ∷ xs) = only_if c x (kept cs xs)

-- P-X-MAPTWO (002) for an operation: the result for each pair of items
unfoldable pub pairwise : {B C D : Type 0} → (B → C → D) → List B → List C → List D
pairwise f [] ys = []
pairwise f (x ∷ xs) [] = []
pairwise f (x ∷ xs) (y ∷ ys) = f x y ∷ pairwise f xs ys

-- P-X-MAPTWO for plus, with its elements
unfoldable pub pluses : (k : ℕ) → List ℤ → List ℤ → List (ℕ × ℤ)
pluses k [] ys = []
pluses k (x ∷ xs) [] = []
pluses k (x ∷ xs) (y ∷ ys) = (k, x +ℤ y) ∷ pluses (suc k) xs ys

-- the first element whose exact result is out of range
unfoldable pub first_outside : List (ℕ × ℤ) → Option ℕ
first_outside [] = none
first_outside (r ∷ rs) = elim (in_range r.1) [ true ↦ first_outside rs | false ↦ some r.0 ]

-- exact results with their elements, as an answer
abbrev pub exact : List (ℕ × ℤ) → Answer
exact rs = unless (first_outside rs) outside (made (ints (map (λ r. r.1) rs)))

-- the first element that is negative
unfoldable pub first_negative : (k : ℕ) → List ℤ → Option ℕ
first_negative k [] = none
first_negative k (pos n ∷ zs) = first_negative (suc k) zs
first_negative k (negsuc n ∷ zs) = some k

-- P-X-TOFLAGS: for each n, n F's and a T
unfoldable pub unary : List ℤ → List Bool
unary [] = []
unary (pos n ∷ zs) = replicate n false ++ true ∷ unary zs
unary (negsuc n ∷ zs) = true ∷ unary zs

-- B2u (001): a unit for a T, none for an F: F T for T, and T for F
unfoldable pub unitary : List Bool → List Bool
unitary [] = []
unitary (c ∷ cs) = only_if c false (true ∷ unitary cs)

-- the first element at which streams of these lengths don't have one item for each of n units
abbrev pub length_misfit : (n l m : ℕ) → Option ℕ
length_misfit n l m = elim (eqb l n && eqb m n) [ true ↦ none | false ↦ some (min n (min l m)) ]

abbrev pub constant : ℤ → ℕ → Answer
constant z n = made (ints (replicate n z))

abbrev pub to_flags : ℕ → List ℤ → Answer
to_flags n zs =
    unless (length_misfit n (length zs) (length zs)) unfit (unless (first_negative 0 zs) negative (made (flags (unary zs))))

abbrev pub results : Operation → List ℤ → List ℤ → Answer
results Plus xs ys = exact (pluses 0 xs ys)
results LessEqual xs ys = made (bools (pairwise le_z xs ys))
results Equal xs ys = made (bools (pairwise equal_z xs ys))

abbrev pub map_two : Operation → ℕ → List ℤ → List ℤ → Answer
map_two o n xs ys = unless (length_misfit n (length xs) (length ys)) unfit (results o xs ys)

abbrev pub constant_bool : Bool → ℕ → Answer
constant_bool c n = made (bools (replicate n c))

abbrev pub b2u : ℕ → List Bool → Answer
b2u n cs = unless (length_misfit n (length cs) (length cs)) unfit (made (flags (unitary cs)))

abbrev pub map_one_not : ℕ → List Bool → Answer
map_one_not n cs = unless (length_misfit n (length cs) (length cs)) unfit (made (bools (map not cs)))

abbrev pub pack : ℕ → List Bool → (b : Base) → List (Element b) → Answer
pack n cs b xs = unless (length_misfit n (length cs) (length xs)) unfit (made (data_of b (kept cs xs)))

module _ {A : Type 0} (flag : A → Option Bool) where
  abbrev pub usum : ℕ → List A → Answer
  usum n bs = unless (misfit flag {B = ℤ} alone 0 n bs []) unfit (made (units (count_f flag bs)))

  abbrev pub scan_plus : ℤ → ℕ → List A → List ℤ → Answer
  scan_plus start n bs xs = unless (misfit flag each_f 0 n bs xs) unfit (exact (scans flag start 0 start bs xs))

  abbrev pub distr : ℕ → List A → (b : Base) → List (Element b) → Answer
  distr n bs b xs = unless (misfit flag each_t 0 n bs xs) unfit (made (data_of b (spread flag bs xs)))

  abbrev pub upack : ℕ → List Bool → List A → Answer
  upack n cs bs = unless (misfit flag each_t 0 n bs cs) unfit (made (flags (kept_segments flag cs bs)))

  abbrev pub sum_plus : ℕ → List A → List ℤ → Answer
  sum_plus n bs xs = unless (misfit flag each_f 0 n bs xs) unfit (exact (sums flag 0 (pos 0) bs xs))

-- an operand of the kind that is wanted; a stream of another kind or none at all does not fit
abbrev pub on_ints : Option Stream → (List ℤ → Answer) → Answer
on_ints none f = unfit 0
on_ints (some (ints zs)) f = f zs
on_ints (some (bools cs)) f = unfit 0
on_ints (some (flags bs)) f = unfit 0
on_ints (some (units n)) f = unfit 0

abbrev pub on_bools : Option Stream → (List Bool → Answer) → Answer
on_bools none f = unfit 0
on_bools (some (ints zs)) f = unfit 0
on_bools (some (bools cs)) f = f cs
on_bools (some (flags bs)) f = unfit 0
on_bools (some (units n)) f = unfit 0

-- data of either base
abbrev pub on_data : Option Stream → ((b : Base) → List (Element b) → Answer) → Answer
on_data none f = unfit 0
on_data (some (ints zs)) f = f base.Int zs
on_data (some (bools cs)) f = f base.Bool cs
on_data (some (flags bs)) f = unfit 0
on_data (some (units n)) f = unfit 0

abbrev pub on_flags : Option Stream → (List Bool → Answer) → Answer
on_flags none f = unfit 0
on_flags (some (ints zs)) f = unfit 0
on_flags (some (bools cs)) f = unfit 0
on_flags (some (flags bs)) f = f bs
on_flags (some (units n)) f = unfit 0

-- ψ(σ(s1), .., σ(sk)) under n units (P-XDUCER, Figure 1.4)
unfoldable pub apply : Transducer → ℕ → Store → Answer
apply (Const z) n σ = constant z n
apply (ConstBool c) n σ = constant_bool c n
apply (ToFlags s) n σ = on_ints (σ ! s.0) (to_flags n)
apply (B2u s) n σ = on_bools (σ ! s.0) (b2u n)
apply (Usum s) n σ = on_flags (σ ! s.0) (usum some n)
apply (MapTwo o s t) n σ = on_ints (σ ! s.0) (λ xs. on_ints (σ ! t.0) (map_two o n xs))
apply (MapOneNot s) n σ = on_bools (σ ! s.0) (map_one_not n)
apply (ScanPlus z s t) n σ = on_flags (σ ! s.0) (λ bs. on_ints (σ ! t.0) (scan_plus some z n bs))
apply (Distr s t) n σ = on_flags (σ ! s.0) (λ bs. on_data (σ ! t.0) (distr some n bs))
apply (SumPlus s t) n σ = on_flags (σ ! s.0) (λ bs. on_ints (σ ! t.0) (sum_plus some n bs))
apply (Pack s t) n σ = on_bools (σ ! s.0) (λ cs. on_data (σ ! t.0) (pack n cs))
apply (UPack s t) n σ = on_bools (σ ! s.0) (λ cs. on_flags (σ ! t.0) (upack some n cs))

-- s1, .., sk
abbrev pub operands : Transducer → List ℕ
operands (Const z) = []
operands (ConstBool c) = []
operands (ToFlags s) = s.0 ∷ []
operands (B2u s) = s.0 ∷ []
operands (Usum s) = s.0 ∷ []
operands (MapTwo o s t) = s.0 ∷ t.0 ∷ []
operands (MapOneNot s) = s.0 ∷ []
operands (ScanPlus z s t) = s.0 ∷ t.0 ∷ []
operands (Distr s t) = s.0 ∷ t.0 ∷ []
operands (SumPlus s t) = s.0 ∷ t.0 ∷ []
operands (Pack s t) = s.0 ∷ t.0 ∷ []
operands (UPack s t) = s.0 ∷ t.0 ∷ []

-- What is fixed of a transducer: its printed name (01, "Translation") without its constant, the constant where it is a number, the kinds of its operands in order,
-- and the kind of its output.
pub record Signature : Type 0 where
  pub name : List ℕ
  pub constant : Option ℤ
  pub inputs : List Kind
  pub output : Kind

-- the name of a scalar operation's transducer
abbrev pub operation_name : Operation → List ℕ
operation_name Plus = ascii "MapTwo+"
operation_name LessEqual = ascii "MapTwo<="
operation_name Equal = ascii "MapTwo=="

abbrev pub bool_name : Bool → List ℕ
bool_name false = ascii "Const_F"
bool_name true = ascii "Const_T"

-- Distr and Pack work on data of either base, b, which they carry on; to the others b says nothing.
abbrev pub signature : (b : Base) → Transducer → Signature
signature b (Const z) = record { name = ascii "Const_"; constant = some z; inputs = []; output = Ints }
signature b (ConstBool c) = record { name = bool_name c; constant = none; inputs = []; output = Bools }
signature b (ToFlags s) = record { name = ascii "ToFlags"; constant = none; inputs = Ints ∷ []; output = Flags }
signature b (B2u s) = record { name = ascii "B2u"; constant = none; inputs = Bools ∷ []; output = Flags }
signature b (Usum s) = record { name = ascii "Usum"; constant = none; inputs = Flags ∷ []; output = Units }
signature b (MapTwo o s t) =
    record { name = operation_name o; constant = none; inputs = Ints ∷ Ints ∷ []; output = data_kind (result_of o) }
signature b (MapOneNot s) = record { name = ascii "MapOneNot"; constant = none; inputs = Bools ∷ []; output = Bools }
signature b (ScanPlus z s t) = record { name = ascii "ScanPlus_"; constant = some z; inputs = Flags ∷ Ints ∷ []; output = Ints }
signature b (Distr s t) = record { name = ascii "Distr"; constant = none; inputs = Flags ∷ data_kind b ∷ []; output = data_kind b }
signature b (SumPlus s t) = record { name = ascii "SumPlus"; constant = none; inputs = Flags ∷ Ints ∷ []; output = Ints }
signature b (Pack s t) = record { name = ascii "Pack"; constant = none; inputs = Bools ∷ data_kind b ∷ []; output = data_kind b }
signature b (UPack s t) = record { name = ascii "UPack"; constant = none; inputs = Bools ∷ Flags ∷ []; output = Flags }

-- the base of the data that a transducer carries on
abbrev pub carried : Store → Transducer → Base
carried σ (Const z) = base.Int
carried σ (ConstBool c) = base.Int
carried σ (ToFlags s) = base.Int
carried σ (B2u s) = base.Int
carried σ (Usum s) = base.Int
carried σ (MapTwo o s t) = base.Int
carried σ (MapOneNot s) = base.Int
carried σ (ScanPlus z s t) = base.Int
carried σ (Distr s t) = base_in (σ ! t.0)
carried σ (SumPlus s t) = base.Int
carried σ (Pack s t) = base_in (σ ! t.0)
carried σ (UPack s t) = base.Int

-- a transducer's output where it is not executed: ⟨⟩, of the kind that it would have
abbrev pub empty : Store → Transducer → Stream
empty σ t = bare (signature (carried σ t) t).output
