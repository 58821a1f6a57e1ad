-- Translation (002, 1.3) with 01's numbering: a formula's code from the first free id on, and the tree of its result.
use Rattle.std.specs.Prelude.{ℕ, zero, suc, ◌+◌, List, [], ◌∷◌, pos, length}
use Rattle.snesl.specs.declared.code.StreamId.{StreamId}
use Rattle.snesl.specs.declared.code.Transducer.TheVariants.{Const, ConstBool, ToFlags, B2u, Usum, MapTwo, MapOneNot, ScanPlus, Distr, SumPlus, Pack, UPack}
use Rattle.snesl.specs.declared.code.Transducer.{Transducer}
use Rattle.snesl.specs.declared.code.Base.{Base}
use Rattle.snesl.specs.declared.code.Base.TheVariants as base
use Rattle.snesl.specs.Values.{ValueType, braces, depth_of, Element}
use Rattle.snesl.specs.Terms.{◌∋◌, Term, var, bind, const, iota, operation, negation, sum, each, guard, Listing, Scalars, any_type, listed_types, All, ∅, ◌▹◌, lookup}
use Rattle.snesl.specs.Trees.{Tree, IdTree, leaf, node, inner, outer, root, order}
use Rattle.snesl.specs.Programs.{Program, done, define, with_ctrl, ◌⨾◌, dv, fv, ascending, among}

abbrev pub id : ℕ → StreamId
id s = record { 0 = s }

-- how many streams the packing of a value of depth d defines, and that of each listed variable
unfoldable pub pack_size : (d : ℕ) → ℕ
pack_size zero = 1
pack_size (suc d) = 3 + pack_size d

unfoldable pub packs_size : {Γ : List ValueType} → Listing Γ → ℕ
packs_size [] = 0
packs_size (u ∷ us) = pack_size (depth_of u.0) + packs_size us

-- how many streams the code of e defines: s1 - s0
unfoldable pub size : {Γ : List ValueType} {τ : ValueType} → Term Γ τ → ℕ
size (var x) = 0
size (bind e₁ e₂) = size e₁ + size e₂
size (const b e) = 1
size (iota x) = 4
size (operation o x y) = 1
size (negation x) = 1
size (sum x) = 1
size (each y us e) = 1 + (length us + size e)
size (guard g us e) = 2 + (packs_size us + size e)

-- ids from s on for the listed variables: a + 1, a + 2, ..
unfoldable pub numbered : {Γ : List ValueType} → ℕ → (us : Scalars Γ) → All IdTree (listed_types (any_type us))
numbered s [] = ∅
numbered s (u ∷ us) = leaf s ▹ numbered (suc s) us

-- the environment of a comprehension's body: x is what y's flags segment, and each listed variable is its copy
abbrev pub within : {Γ : List ValueType} {υ : ValueType} → Γ ∋ braces υ → (us : Scalars Γ) → All IdTree Γ → ℕ → All IdTree (υ ∷ listed_types (any_type us))
within y us δ s = inner (lookup y δ) ▹ numbered (suc s) us

-- A value packed by the bools b (001; each inner level under a control of its own: docs/DECISIONS.md): its tree, where its code's ids start at s, and that code.
-- A level's flags are packed, its bools spread over its items, and these packed by them.
unfoldable pub pack_tree : {d : ℕ} → Tree ℕ d → (s : ℕ) → Tree ℕ d
pack_tree (leaf x) s = leaf s
pack_tree (node t f) s = node (pack_tree t (s + 3)) s

-- the trees of the listed variables, each packed
unfoldable pub pack_trees : {Γ : List ValueType} → (us : Listing Γ) → All IdTree Γ → (s : ℕ) → All IdTree (listed_types us)
pack_trees [] δ s = ∅
pack_trees (u ∷ us) δ s = pack_tree (lookup u.1 δ) s ▹ pack_trees us δ (s + pack_size (depth_of u.0))

-- the tree of e's result, where its code's ids start at s
unfoldable pub tree : {Γ : List ValueType} {τ : ValueType} → Term Γ τ → All IdTree Γ → ℕ → IdTree τ
tree (var x) δ s = lookup x δ
tree (bind e₁ e₂) δ s = tree e₂ (tree e₁ δ s ▹ δ) (s + size e₁)
tree (const b e) δ s = leaf s
tree (iota x) δ s = node (leaf (s + 3)) s
tree (operation o x y) δ s = leaf s
tree (negation x) δ s = leaf s
tree (sum x) δ s = leaf s
tree (each y us e) δ s = node (tree e (within y us δ s) (s + (1 + length us))) (outer (lookup y δ))
tree (guard g us e) δ s = node (tree e (pack_trees us δ (s + 2)) (s + (2 + packs_size us))) s

-- a := Distr(b, its stream) for each listed variable
unfoldable pub distrs : {Γ : List ValueType} → ℕ → Scalars Γ → All IdTree Γ → Program → Program
distrs b [] δ p = p
distrs b (u ∷ us) δ p = define (Distr (id b) (id (root (lookup u.1 δ)))) (distrs b us δ p)

-- Sout := WithCtrl(c, Sin, p1) for a body p1 whose ids start at s and whose result has tree st: Sin are the body's free ids, and Sout the ids of st that
-- it defines, both ascending
abbrev pub controlled : {d : ℕ} → (c s : ℕ) → Program → Tree ℕ d → Program
controlled c s p st = with_ctrl (ascending (among (order st) (dv s p))) c (ascending (fv s p)) p done

-- Pack(b, d), or UPack(b, f), Distr(f, b) and Usum(f), and then the items under their units
unfoldable pub pack_code : {d : ℕ} → (b : ℕ) → Tree ℕ d → (s : ℕ) → Program
pack_code b (leaf x) s = define (Pack (id b) (id x)) done
pack_code b (node t f) s =
    define (UPack (id b) (id f))
    (define (Distr (id f) (id b))
    (define (Usum (id f)) (controlled (s + 2) (s + 3) (pack_code (s + 1) t (s + 3)) (pack_tree t (s + 3)))))

unfoldable pub pack_codes : {Γ : List ValueType} → (b : ℕ) → Listing Γ → All IdTree Γ → (s : ℕ) → Program
pack_codes b [] δ s = done
pack_codes b (u ∷ us) δ s = pack_code b (lookup u.1 δ) s ⨾ pack_codes b us δ (s + pack_size (depth_of u.0))

-- the transducer that makes a constant for each unit
abbrev pub constant_of : (b : Base) → Element b → Transducer
constant_of base.Int z = Const z
constant_of base.Bool c = ConstBool c

-- δ ⊢ e ⇒ (p, st)
unfoldable pub code : {Γ : List ValueType} {τ : ValueType} → Term Γ τ → All IdTree Γ → ℕ → Program
code (var x) δ s = done
code (bind e₁ e₂) δ s = code e₁ δ s ⨾ code e₂ (tree e₁ δ s ▹ δ) (s + size e₁)
code (const b e) δ s = define (constant_of b e) done
code (iota x) δ s =
    define (ToFlags (id (root (lookup x δ))))
    (define (Usum (id s))
    (controlled (s + 1) (s + 2) (define (Const (pos 1)) done) (leaf (s + 2))
    ⨾ define (ScanPlus (pos 0) (id s) (id (s + 2))) done))
code (operation o x y) δ s = define (MapTwo o (id (root (lookup x δ))) (id (root (lookup y δ)))) done
code (negation x) δ s = define (MapOneNot (id (root (lookup x δ)))) done
code (sum x) δ s = define (SumPlus (id (outer (lookup x δ))) (id (root (inner (lookup x δ))))) done
code (each y us e) δ s =
    define (Usum (id (outer (lookup y δ))))
    (distrs (outer (lookup y δ)) us δ
    (controlled s (s + (1 + length us))
    (code e (within y us δ s) (s + (1 + length us)))
    (tree e (within y us δ s) (s + (1 + length us)))))
code (guard g us e) δ s =
    define (B2u (id (root (lookup g δ))))
    (define (Usum (id s))
    (pack_codes (root (lookup g δ)) us δ (s + 2)
    ⨾ controlled (s + 1) (s + (2 + packs_size us))
    (code e (pack_trees us δ (s + 2)) (s + (2 + packs_size us)))
    (tree e (pack_trees us δ (s + 2)) (s + (2 + packs_size us)))))
