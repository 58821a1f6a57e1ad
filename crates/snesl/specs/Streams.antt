-- Streams and the store (002, 1.2.1 and 1.2.2).
-- The store is a list: a stream's id is its position, and executing a definition appends. So ids run up from 0 without gaps.
use Rattle.std.specs.Prelude.{ℕ, ◌+◌, Bool, true, false, List, [], ◌∷◌, ◌++◌, map, ℤ, pos, length}
use Rattle.std.proofs.Math.Option.{Option, some, none}
use Rattle.std.proofs.Math.ListN.{get_elem?}
use Rattle.snesl.specs.declared.code.Kind.{Kind}
use Rattle.snesl.specs.declared.code.Kind.TheVariants.{Ints, Bools, Flags, Units}
use Rattle.snesl.specs.declared.code.Base.{Base}
use Rattle.snesl.specs.declared.code.Base.TheVariants as base
use Rattle.snesl.specs.Values.{Element}

-- a vector of integers, of booleans or of units; booleans that are data (001) are a kind apart from flags
pub data Stream : Type 0 where
  ints : List ℤ → Stream
  bools : List Bool → Stream
  flags : List Bool → Stream
  units : ℕ → Stream

-- what a stream's elements are
abbrev pub kind_of : Stream → Kind
kind_of (ints zs) = Ints
kind_of (bools cs) = Bools
kind_of (flags bs) = Flags
kind_of (units n) = Units

-- ⟨⟩ of a kind
abbrev pub bare : Kind → Stream
bare Ints = ints []
bare Bools = bools []
bare Flags = flags []
bare Units = units 0

-- the data stream of some scalars, and its kind
abbrev pub data_of : (b : Base) → List (Element b) → Stream
data_of base.Int zs = ints zs
data_of base.Bool cs = bools cs

abbrev pub data_kind : Base → Kind
data_kind base.Int = Ints
data_kind base.Bool = Bools

-- the base of a data stream; of no stream and of one that is no data, int
abbrev pub base_in : Option Stream → Base
base_in none = base.Int
base_in (some (ints zs)) = base.Int
base_in (some (bools cs)) = base.Bool
base_in (some (flags bs)) = base.Int
base_in (some (units n)) = base.Int

-- Notation 1.4, on streams of one kind. Where the kinds differ, which no rule of the paper meets, it is the first.
infixr 45 ◌then◌
abbrev pub ◌then◌ : Stream → Stream → Stream
ints xs then ints ys = ints (xs ++ ys)
ints xs then bools ds = ints xs
ints xs then flags cs = ints xs
ints xs then units m = ints xs
bools bs then ints ys = bools bs
bools bs then bools ds = bools (bs ++ ds)
bools bs then flags cs = bools bs
bools bs then units m = bools bs
flags bs then ints ys = flags bs
flags bs then bools ds = flags bs
flags bs then flags cs = flags (bs ++ cs)
flags bs then units m = flags bs
units n then ints ys = units n
units n then bools ds = units n
units n then flags cs = units n
units n then units m = units (n + m)

-- how many elements a stream has
abbrev pub len : Stream → ℕ
len (ints zs) = length zs
len (bools cs) = length cs
len (flags bs) = length bs
len (units n) = n

-- 01, "Translation": F as 0, T as 1; a bool of a data stream too
abbrev pub bit : Bool → ℤ
bit false = pos 0
bit true = pos 1

-- how a stream stands in the stream buffer: a unit stream is only a length and takes no room
abbrev pub elements : Stream → List ℤ
elements (ints zs) = zs
elements (bools cs) = map bit cs
elements (flags bs) = map bit bs
elements (units n) = []

abbrev pub Store : Type 0
Store = List Stream

-- σ(s)
infixl 60 ◌!◌
abbrev pub ◌!◌ : Store → ℕ → Option Stream
σ ! s = get_elem? σ s

-- the stream buffer's content: the streams one after another in id order
unfoldable pub contents : Store → List ℤ
contents [] = []
contents (a ∷ σ) = elements a ++ contents σ

-- 01, "Translation": room is the number of elements so held
abbrev pub room : Store → ℕ
room σ = length (contents σ)
