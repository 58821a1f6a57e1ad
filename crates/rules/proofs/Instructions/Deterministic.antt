-- 002, Theorem 1.9: the rules give one store at most, id by id.
use Prim.Native.Nat.{ℕ, zero, suc}
use mathlib.Core.Bool.{Bool, true, false}
use mathlib.Core.List.{List, ◌∷◌}
use mathlib.Core.Logic.{⊎_elim}
use mathlib.Core.Option.{some}
use mathlib.Core.Path.{◌≡◌, refl, sym, ap, ◌∙◌, subst}
use borrow.Author.Tests.{eqb-true, eqb-false}
use lib.Dec.{eqb}
use Rattle.laws.proofs.Never.{never}
use Rattle.snesl.specs.Streams.{Stream, units}
use Rattle.snesl.proofs.Compiled.Members.{known}
use Rattle.rules.specs.Xducers.{Loops, Fetches, fetches-none, fetches-more}
use Rattle.rules.specs.Instructions.{Svcode, empty_of, kind_at, kind_in, Stores, Runs, p-empty, p-xducer, p-wc-emp, p-wc-nonemp, p-seq}
use Rattle.rules.proofs.Xducers.Exactly.{loops-once}

-- both stores have the same at each id
abbrev pub Alike : Stores → Stores → Type 0
Alike σ τ = (u : ℕ) → σ u ≡ τ u

fetch-once : {σ τ : Stores} {ss : List ℕ} {xs ys : List Stream} → Alike σ τ → Fetches σ ss xs → Fetches τ ss ys → xs ≡ ys
fetch-once e fetches-none fetches-none = refl
fetch-once e (fetches-more {s = s} {a = a} p f) (fetches-more {a = b} q g) =
    let all : some a ≡ some b = sym p ∙ e s ∙ q in
    let first : a ≡ b = cc in
    let rest = fetch-once e f g in
    λ i. first i ∷ rest i

units-once : {m n : ℕ} {σ τ : Stores} {s : ℕ} → Alike σ τ → σ s ≡ some (units m) → τ s ≡ some (units n) → m ≡ n
units-once {m} {n} {s = s} e p q = let all : some (units m) ≡ some (units n) = sym p ∙ e s ∙ q in cc

at-or-not : {σ' τ' : Stores} (s : ℕ) → σ' s ≡ τ' s → ((u : ℕ) → (u ≡ s → ⊥) → σ' u ≡ τ' u) → Alike σ' τ'
at-or-not {σ'} {τ'} s here there u = go (eqb u s) refl
  where
    go : (b : Bool) → eqb u s ≡ b → σ' u ≡ τ' u
    go true q = let e = eqb-true u s q in ap σ' e ∙ here ∙ ap τ' (sym e)
    go false q = there u (eqb-false u s q)

pub runs-once : {p : Svcode} {σ σ' τ τ' : Stores} {c : ℕ} → Runs p σ c σ' → Runs p τ c τ' → Alike σ τ → Alike σ' τ'
runs-once (p-empty h) (p-empty k) e u = h u ∙ e u ∙ sym (k u)
runs-once (p-xducer {s = s} {c = c} {ψ = ψ} f l n o) (p-xducer {a = b} f' l' n' o') e u =
    let same = fetch-once e f f' in
    let output = loops-once ψ l (subst (λ xs. Loops ψ c xs b) (sym same) l') in
    at-or-not s (n ∙ ap some output ∙ sym n') (λ u h. o u h ∙ e u ∙ sym (o' u h)) u
runs-once (p-wc-emp {outs = outs} {p = p} c i n o) (p-wc-emp c' i' n' o') e u =
    ⊎_elim (λ h. n u h ∙ (λ j. empty_of (kind_in (λ v. kind_at (e v j)) p u)) ∙ sym (n' u h)) (λ h. o u h ∙ e u ∙ sym (o' u h)) (known u outs)
runs-once (p-wc-emp c i n o) (p-wc-nonemp {n = j} c' r' n' o') e u = let z : zero ≡ suc j = units-once e c c' in never (cc)
runs-once (p-wc-nonemp {n = j} c r n o) (p-wc-emp c' i' n' o') e u = let z : suc j ≡ zero = units-once e c c' in never (cc)
runs-once {τ = τ} (p-wc-nonemp {outs = outs} {n = j} {p = p} c r n o) (p-wc-nonemp {n = j'} {σ'' = τ''} c' r' n' o') e u =
    let z : suc j ≡ suc j' = units-once e c c' in
    let inside = runs-once r (subst (λ m. Runs p τ m τ'') (sym z) r') e in
    ⊎_elim (λ h. n u h ∙ inside u ∙ sym (n' u h)) (λ h. o u h ∙ e u ∙ sym (o' u h)) (known u outs)
runs-once (p-seq h k) (p-seq h' k') e u = runs-once k k' (runs-once h h' e) u
