-- Translated code may be surveyed.
use Prim.Native.Nat.{ℕ, suc, ◌+◌, ◌≤◌}
use native.Mathlib.Omega.{arith}
use mathlib.Core.List.{List, [], ◌∷◌}
use mathlib.Core.Path.{ap}
use lib.ListN.{length}
use Rattle.snesl.specs.Values.{ValueType, depth_of}
use Rattle.snesl.specs.Terms.{Term, var, bind, const, iota, operation, negation, sum, each, guard, Listing, Scalars, All, ◌▹◌, lookup}
use Rattle.snesl.specs.Trees.{IdTree, leaf}
use Rattle.snesl.specs.Translation.{pack_size, packs_size, size, within, pack_trees, tree, distrs, pack_codes, code}
use Rattle.snesl.specs.Ids.{ids_of, Below}
use Rattle.snesl.proofs.Compiled.Packing.{count-pack}
use Rattle.snesl.proofs.Compiled.Freshness.{copies, code-each, code-iota, code-guard, count-front, count-lead, count_ones, count-flagging, count-gate, count_code, defined-next, result-ids, free-ids}
use Rattle.sink.proofs.Packs.{tidy-pack}
use Rattle.sink.proofs.Tidy.{Tidy, tidy-done, tidy-define, tidy-seq, tidy-alone, tidy-controlled, dv_one, Surveyable}

tidy-copies : {Γ : List ValueType} {a : ℕ} (s b : ℕ) (us : Scalars Γ) (δ : All IdTree Γ) → a ≤ s → Tidy a s (copies b us δ)
unfolding distrs
tidy-copies s b [] δ l = tidy-done
tidy-copies s b (u ∷ us) δ l = tidy-define l (tidy-copies (suc s) b us δ (omega arith))

tidy-packs : {Γ : List ValueType} {a : ℕ} (b : ℕ) (us : Listing Γ) (δ : All IdTree Γ) (s : ℕ) → a ≤ s → Tidy a s (pack_codes b us δ s)
unfolding pack_codes
tidy-packs b [] δ s l = tidy-done
tidy-packs b (u ∷ us) δ s l =
    let t = lookup u.1 δ in
    tidy-seq (tidy-pack b t s l) (ap (λ n. s + n) (count-pack b t s)) (tidy-packs b us δ (s + pack_size (depth_of u.0)) (omega arith))

tidy-code : {Γ : List ValueType} {τ : ValueType} {a : ℕ} (e : Term Γ τ) (δ : All IdTree Γ) (s : ℕ) → a ≤ s → Tidy a s (code e δ s)
unfolding code
tidy-code (var x) δ s l = tidy-done
tidy-code (bind e₁ e₂) δ s l =
    tidy-seq (tidy-code e₁ δ s l) (ap (λ n. s + n) (count_code e₁ δ s)) (tidy-code e₂ (tree e₁ δ s ▹ δ) (s + size e₁) (omega arith))
tidy-code (const b n) δ s l = tidy-alone _ l
tidy-code (iota x) δ s l =
    rw (code-iota x δ s)
    (tidy-seq {s' = s + 2} (tidy-define l (tidy-alone _ (omega arith))) (ap (λ n. s + n) (count-lead _ s))
    (tidy-seq {s' = s + 3} (tidy-controlled (s + 1) (s + 2) _ (leaf (s + 2)) (omega arith) (λ u m. let e = dv_one (s + 2) _ m in omega arith) (tidy-alone _ (omega arith))) (omega (arith, count_ones s))
    (tidy-alone _ (omega arith))))
tidy-code (operation o x y) δ s l = tidy-alone _ l
tidy-code (negation x) δ s l = tidy-alone _ l
tidy-code (sum x) δ s l = tidy-alone _ l
tidy-code (each y us e) δ s l =
    let b = s + (1 + length us) in
    rw (code-each y us δ e s)
    (tidy-seq (tidy-define l (tidy-copies (suc s) _ us δ (omega arith))) (ap (λ n. s + n) (count-front y us δ))
    (tidy-controlled s b (code e (within y us δ s) b) (tree e (within y us δ s) b) l
    (λ u m. let r = defined-next e (within y us δ s) b m in omega (arith, r.0))
    (tidy-code e (within y us δ s) b (omega arith))))
tidy-code (guard g us e) δ s l =
    let b = s + (2 + packs_size us) in
    let δ' = pack_trees us δ (s + 2) in
    rw (code-guard g us δ s e)
    (tidy-seq
    (tidy-seq {s' = s + 2} (tidy-define l (tidy-alone _ (omega arith))) (ap (λ n. s + n) (count-flagging _ s)) (tidy-packs _ us δ (s + 2) (omega arith)))
    (ap (λ n. s + n) (count-gate g us δ s))
    (tidy-controlled (s + 1) b (code e δ' b) (tree e δ' b) (omega arith)
    (λ u m. let r = defined-next e δ' b m in omega (arith, r.0))
    (tidy-code e δ' b (omega arith))))

-- with what its environment names
pub code-surveyable : {Γ : List ValueType} {τ : ValueType} (e : Term Γ τ) (δ : All IdTree Γ) (s : ℕ) → Below s (ids_of δ)
    → Surveyable s (code e δ s) (tree e δ s) (ids_of δ)
code-surveyable e δ s below =
    record {
      tidy = tidy-code e δ s (omega arith);
      free = free-ids e δ s;
      below = below;
      next = λ u m. let r = defined-next e δ s m in (r.0, omega (arith, r.1, count_code e δ s));
      result = λ u m. result-ids e δ s m;
    }
