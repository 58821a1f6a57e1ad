-- Listed variables: each was found as a scalar, there are as many pointers as names, and a Distr stands for each.
use Prim.Native.Nat.{ℕ, suc, ◌+◌}
use mathlib.Core.List.{List, [], ◌∷◌}
use mathlib.Core.Option.{Option, some, none}
use mathlib.Core.Path.{◌≡◌, refl, sym, ◌∙◌, ap}
use native.Mathlib.Omega.{arith}
use lib.ListN.{length}
use Rattle.laws.proofs.Never.{never}
use Rattle.snesl.specs.declared.code.Variable.{Variable}
use Rattle.snesl.specs.declared.code.Base.{Base}
use Rattle.snesl.specs.Values.{ValueType, scalar, braces}
use Rattle.snesl.specs.Terms.{◌∋◌, Scalars, All}
use Rattle.snesl.specs.Trees.{IdTree}
use Rattle.snesl.specs.Programs.{Program, count}
use Rattle.snesl.specs.Translation.{distrs}
use Rattle.snesl.specs.Checking.{Name, Found, missing, found, find, AnyScalar, no_scalar, a_scalar, as_scalar, NamedScalars, listed_scalars, listed_first, pointers}

-- what was found where a scalar was
abbrev as-found : {Γ : List ValueType} → AnyScalar Γ → Found Γ
as-found no_scalar = missing
as-found (a_scalar b x) = found (scalar b) x

pub found-scalar : {Γ : List ValueType} {b : Base} {v : Γ ∋ scalar b} → (f : Found Γ) → as_scalar f ≡ a_scalar b v → f ≡ found (scalar b) v
found-scalar missing e = never (cc)
found-scalar (found (scalar b) x) e = ap as-found e
found-scalar (found (braces τ) x) e = never (cc)

-- as many pointers as names were listed
pub listed-first : {Γ : List ValueType} → (u : Variable) (o : AnyScalar Γ) (l : Option (NamedScalars Γ)) (ls : NamedScalars Γ)
    → listed_first u o l ≡ some ls
    → (b : Base) × (v : Γ ∋ scalar b) × (rest : NamedScalars Γ) × (o ≡ a_scalar b v) × (l ≡ some rest) × ((u, (b, v)) ∷ rest ≡ ls)
listed-first u no_scalar l ls e = never (cc)
listed-first u (a_scalar b v) none ls e = never (cc)
listed-first u (a_scalar b v) (some rest) ls e = (b, v, rest, refl, refl, cc)

pub length-listed : {Γ : List ValueType} → (names : All Name Γ) (us : List Variable) (ls : NamedScalars Γ) → listed_scalars names us ≡ some ls
    → length (pointers ls) ≡ length us
unfolding listed_scalars
length-listed names [] ls e = let q : [] ≡ ls = cc in ap (λ l. length (pointers l)) (sym q)
length-listed names (u ∷ us) ls e =
    let f = listed-first u (as_scalar (find u names)) (listed_scalars names us) ls e in
    ap (λ l. length (pointers l)) (sym f.5) ∙ ap suc (length-listed names us f.2 f.4)

-- a stream for each
pub count-distrs : {Γ : List ValueType} → (b : ℕ) (us : Scalars Γ) (δ : All IdTree Γ) (p : Program) → count (distrs b us δ p) ≡ length us + count p
unfolding count distrs
count-distrs b [] δ p = omega arith
count-distrs b (u ∷ us) δ p = omega (arith, count-distrs b us δ p)
