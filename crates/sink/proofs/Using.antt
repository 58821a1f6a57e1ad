-- What a transducer uses, case by case, and that its line is short.
use Prim.Native.Nat.{ℕ, ◌≤◌, ◌<◌, ◌^◌}
use native.Mathlib.Omega.{arith}
use mathlib.Core.Bool.{Bool, true, false}
use mathlib.Core.List.Memᴰ
use mathlib.Core.List.{[], ◌∷◌, ◌++◌, append-nil}
use mathlib.Core.Logic.{⊎_elim}
use mathlib.Core.Path.{◌≡◌, refl, sym, ap, ◌∙◌, subst}
use lib.IntN.{ℤ}
use lib.Signed.{mag}
use lib.ListN.{length, length-append}
use Rattle.snesl.specs.declared.code.StreamId.{StreamId}
use Rattle.snesl.specs.declared.code.Transducer.{Transducer}
use Rattle.snesl.specs.declared.code.Transducer.TheVariants.{Const, ConstBool, ToFlags, B2u, Usum, MapTwo, MapOneNot, ScanPlus, Distr, SumPlus, Pack, UPack}
use Rattle.snesl.specs.declared.code.Operation.{Operation}
use Rattle.snesl.specs.declared.code.Operation.TheVariants.{Plus, LessEqual, Equal}
use Rattle.snesl.specs.Ascii.{ascii, pieces}
use Rattle.snesl.specs.Transducers.{operands, bool_name, operation_name}
use Rattle.snesl.specs.Listing.{id_text, ids_text, name_text, define_line, with_ctrl_line}
use Rattle.snesl.proofs.Compiled.Members.{◌∈◌}
use Rattle.lines.specs.Pieces.{rest_text, control_text}
use Rattle.lines.proofs.IdLists.{control-line, rest-next, rest-none}
use Rattle.sink.specs.declared.uses.Used.{Used}
use Rattle.sink.specs.declared.uses.Used.TheVariants.{Nothing, One, Two}
use Rattle.sink.specs.Uses.{Operates, longest}
use Rattle.sink.proofs.Shorts.{Small, id-short, ids_short, int-short}

pub none-small : (u : ℕ) → u ∈ [] → Small u
none-small u m = absurd (Memᴰ.not-nil m)

pub one-small : {a : ℕ} → Small a → (u : ℕ) → u ∈ (a ∷ []) → Small u
one-small {a} h u m = let e = Memᴰ.eq_of_singleton m in omega arith

pub two-small : {a b : ℕ} → Small a → Small b → (u : ℕ) → u ∈ (a ∷ b ∷ []) → Small u
two-small {a} {b} h g u m = ⊎_elim (λ e. same e) (λ k. one-small g u k) (Memᴰ.cases_cons m)
  where
    same : u ≡ a → Small u
    same e = omega arith

one-short : (a : ℕ) → Small a → length (ids_text (a ∷ [])) ≤ 44
one-short a h = let n = ids_short (a ∷ []) (one-small h) in omega arith

two-short : (a b : ℕ) → Small a → Small b → length (ids_text (a ∷ b ∷ [])) ≤ 44
two-short a b h g = let n = ids_short (a ∷ b ∷ []) (two-small h g) in omega arith

none-short : length (ids_text []) ≤ 44
none-short = let n = ids_short [] none-small in omega arith

-- names that depend on a bool or an operation
bool-name-short : (c : Bool) → length (bool_name c ++ []) ≤ 32
bool-name-short false = omega arith
bool-name-short true = omega arith

operation-name-short : (o : Operation) → length (operation_name o ++ []) ≤ 32
operation-name-short Plus = omega arith
operation-name-short LessEqual = omega arith
operation-name-short Equal = omega arith

-- a transducer known by its case
pub operates : {t u : Transducer} {r : Used} → t ≡ u → Operates u r → Operates t r
operates {r = r} e o = subst (λ v. Operates v r) (sym e) o

pub const-operates : (z : ℤ) → mag z < 2 ^ 31 → Operates (Const z) Nothing
const-operates z h = record { ids = refl; name = let n = int-short z h in omega arith; list = none-short }

pub const_bool-operates : (c : Bool) → Operates (ConstBool c) Nothing
const_bool-operates c = record { ids = refl; name = bool-name-short c; list = none-short }

module _ (a : StreamId) (h : Small a.0) where
  one : length (ids_text (a.0 ∷ [])) ≤ 44
  one = one-short a.0 h

  pub to_flags-operates : Operates (ToFlags a) (One a)
  to_flags-operates = record { ids = refl; name = omega arith; list = one }

  pub b2u-operates : Operates (B2u a) (One a)
  b2u-operates = record { ids = refl; name = omega arith; list = one }

  pub not-operates : Operates (MapOneNot a) (One a)
  not-operates = record { ids = refl; name = omega arith; list = one }

  pub usum-operates : Operates (Usum a) (One a)
  usum-operates = record { ids = refl; name = omega arith; list = one }

  module _ (b : StreamId) (g : Small b.0) where
    lists : length (ids_text (a.0 ∷ b.0 ∷ [])) ≤ 44
    lists = two-short a.0 b.0 h g

    pub map_two-operates : (o : Operation) → Operates (MapTwo o a b) (Two a b)
    map_two-operates o = record { ids = refl; name = operation-name-short o; list = lists }

    pub pack-operates : Operates (Pack a b) (Two a b)
    pack-operates = record { ids = refl; name = omega arith; list = lists }

    pub upack-operates : Operates (UPack a b) (Two a b)
    upack-operates = record { ids = refl; name = omega arith; list = lists }

    pub scan-operates : (z : ℤ) → mag z < 2 ^ 31 → Operates (ScanPlus z a b) (Two a b)
    scan-operates z m = record { ids = refl; name = let n = int-short z m in omega arith; list = lists }

    pub distr-operates : Operates (Distr a b) (Two a b)
    distr-operates = record { ids = refl; name = omega arith; list = lists }

    pub sum-operates : Operates (SumPlus a b) (Two a b)
    sum-operates = record { ids = refl; name = omega arith; list = lists }

-- the lines
pub one_line : (o c : ℕ) → with_ctrl_line (o ∷ []) c [] ≡ pieces (ascii "[" ∷ id_text o ∷ control_text c ∷ ascii "]) {\n" ∷ [])
one_line o c =
    control-line (o ∷ []) c []
    ∙ (ap (λ l. pieces (ascii "[" ∷ l ∷ control_text c ∷ rest_text true [] ∷ ascii "]) {\n" ∷ []))
    (rest-next true o [] ∙ ap (λ l. id_text o ++ l) (rest-none false) ∙ append-nil (id_text o))
    ∙ ap (λ l. pieces (ascii "[" ∷ id_text o ∷ control_text c ∷ l ∷ ascii "]) {\n" ∷ [])) (rest-none true))

pub define-short : (s : ℕ) (t : Transducer) {r : Used} → Small s → Operates t r → length (define_line s t) ≤ longest
define-short s t h o =
    let n = id-short s h in
    omega (
      arith,
      o.name,
      o.list,
      length-append (id_text s) (pieces (ascii " := " ∷ name_text t ∷ ascii "(" ∷ ids_text (operands t) ∷ ascii ")\n" ∷ [])),
      length-append (name_text t) (pieces (ascii "(" ∷ ids_text (operands t) ∷ ascii ")\n" ∷ [])),
      length-append (ids_text (operands t)) (ascii ")\n"),
    )

pub one-line-short : (out c : ℕ) → Small out → Small c → length (with_ctrl_line (out ∷ []) c []) ≤ longest
one-line-short out c h g =
    let n = id-short out h in
    let m = id-short c g in
    omega (arith, ap length (one_line out c), length-append (id_text out) (pieces (control_text c ∷ ascii "]) {\n" ∷ [])), length-append (control_text c) (ascii "]) {\n"), length-append (id_text c) (ascii ",["))
