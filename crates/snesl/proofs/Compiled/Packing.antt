-- Which ids the packing of a value by bools uses, defines and hands on: it uses the bools and the value's own, defines the next ids from where it starts, and its
-- tree names only ids that it makes known.
use Prim.Native.Nat.{ℕ, suc, ◌+◌, ◌<◌, ◌≤◌}
use native.Mathlib.Omega.{arith}
use mathlib.Core.List.Memᴰ
use mathlib.Core.List.{List, [], ◌∷◌, ◌++◌}
use mathlib.Core.Logic.{◌⊎◌, inl, inr, ⊎_elim}
use mathlib.Core.Path.{◌≡◌, refl, ◌∙◌, ap₂}
use Rattle.snesl.specs.Values.{ValueType, depth_of}
use Rattle.snesl.specs.Terms.{Listing, All, lookup}
use Rattle.snesl.specs.Trees.{Tree, IdTree, leaf, node, order}
use Rattle.snesl.specs.Programs.{Program, done, define, with_ctrl, ◌⨾◌, count, without, dv, fv, ascending, among, Within}
use Rattle.snesl.specs.Translation.{pack_size, packs_size, pack_tree, pack_code, pack_codes, controlled}
use Rattle.snesl.proofs.Compiled.Members.{◌∈◌, ◌∉◌, of-without, of-among, to-among, of-ascending, to-ascending}

-- how many streams are defined
pub count-pack : {d : ℕ} (b : ℕ) (t : Tree ℕ d) (s : ℕ) → count (pack_code b t s) ≡ pack_size d
unfolding pack_code pack_size count
count-pack b (leaf x) s = refl
count-pack b (node t f) s = omega (arith, count-pack (s + 1) t (s + 3))

count-both : (p q : Program) → count (p ⨾ q) ≡ count p + count q
unfolding count ◌⨾◌
count-both done q = omega arith
count-both (define t p) q = omega (arith, count-both p q)
count-both (with_ctrl outs c ins b p) q = omega (arith, count-both p q)

pub count-packs : {Γ : List ValueType} (b : ℕ) (us : Listing Γ) (δ : All IdTree Γ) (s : ℕ) → count (pack_codes b us δ s) ≡ packs_size us
unfolding pack_codes packs_size
count-packs b [] δ s = unfold count in refl
count-packs b (u ∷ us) δ s =
    count-both (pack_code b (lookup u.1 δ) s) (pack_codes b us δ (s + pack_size (depth_of u.0)))
    ∙ ap₂ ◌+◌ (count-pack b (lookup u.1 δ) s) (count-packs b us δ (s + pack_size (depth_of u.0)))

-- an id that the items' WithCtrl puts out
of-outs : {d u : ℕ} (s : ℕ) (p : Program) (st : Tree ℕ d) → u ∈ (ascending (among (order st) (dv s p)) ++ []) → u ∈ dv s p
of-outs s p st h =
    ⊎_elim (λ m. (of-among (order st) (dv s p) (of-ascending (among (order st) (dv s p)) m)).1) (λ m. absurd (Memᴰ.not-nil m))
    (Memᴰ.append_cases (ascending (among (order st) (dv s p))) h)

-- the ids that it makes known are the next ones
pub defined-pack : {d u : ℕ} (b : ℕ) (t : Tree ℕ d) (s : ℕ) → u ∈ dv s (pack_code b t s) → (s ≤ u) × (u < s + pack_size d)
unfolding pack_code pack_size dv
defined-pack b (leaf x) s h = let e = Memᴰ.eq_of_singleton h in (omega arith, omega arith)
defined-pack b (node t f) s h =
    ⊎_elim (λ e. (omega arith, omega arith))
    (λ m.
    ⊎_elim (λ e. (omega arith, omega arith))
    (λ n.
    ⊎_elim (λ e. (omega arith, omega arith))
    (λ k. let r = defined-pack (s + 1) t (s + 3) (of-outs (s + 3) (pack_code (s + 1) t (s + 3)) (pack_tree t (s + 3)) k) in (omega arith, omega arith))
    (Memᴰ.cases_cons n))
    (Memᴰ.cases_cons m))
    (Memᴰ.cases_cons h)

-- its tree names only those
pub packed-ids : {d u : ℕ} (b : ℕ) (t : Tree ℕ d) (s : ℕ) → u ∈ order (pack_tree t s) → u ∈ dv s (pack_code b t s)
unfolding pack_code pack_tree order dv
packed-ids b (leaf x) s h = h
packed-ids b (node t f) s h =
    ⊎_elim
    (λ m.
    Memᴰ.tail
    (Memᴰ.tail
    (Memᴰ.tail
    (Memᴰ.append_left []
    (to-ascending (among (order (pack_tree t (s + 3))) (dv (s + 3) (pack_code (s + 1) t (s + 3))))
    (to-among (order (pack_tree t (s + 3))) (dv (s + 3) (pack_code (s + 1) t (s + 3))) m (packed-ids (s + 1) t (s + 3) m)))))))
    (λ m. Memᴰ.head (Memᴰ.eq_of_singleton m))
    (Memᴰ.append_cases (order (pack_tree t (s + 3))) h)

-- the WithCtrl over the items
abbrev items-control : {d : ℕ} → Tree ℕ d → (s : ℕ) → Program
items-control t s = controlled (s + 2) (s + 3) (pack_code (s + 1) t (s + 3)) (pack_tree t (s + 3))

-- it uses the bools and the value's ids
pub free-pack : {d : ℕ} (b : ℕ) (t : Tree ℕ d) (s : ℕ) → Within (fv s (pack_code b t s)) (b ∷ order t)
unfolding pack_code order fv
free-pack b (leaf x) s u h = ⊎_elim (λ m. m) (λ m. absurd (Memᴰ.not-nil (of-without [] (s ∷ []) m).0)) (Memᴰ.append_cases (b ∷ x ∷ []) h)
free-pack b (node t f) s u h =
    ⊎_elim first (λ m. second (free-pack (s + 1) t (s + 3)) (of-without _ (s ∷ []) m).0) (Memᴰ.append_cases (b ∷ f ∷ []) h)
  where
    the-bools : u ≡ b → u ∈ (b ∷ (order t ++ f ∷ []))
    the-bools e = Memᴰ.head e

    the-flags : u ≡ f → u ∈ (b ∷ (order t ++ f ∷ []))
    the-flags e = Memᴰ.tail (Memᴰ.append_right (order t) (Memᴰ.head e))

    items : u ∈ order t → u ∈ (b ∷ (order t ++ f ∷ []))
    items m = Memᴰ.tail (Memᴰ.append_left (f ∷ []) m)

    first : u ∈ (b ∷ f ∷ []) → u ∈ (b ∷ (order t ++ f ∷ []))
    first m = ⊎_elim the-bools (λ k. the-flags (Memᴰ.eq_of_singleton k)) (Memᴰ.cases_cons m)

    inside : Within (fv (s + 3) (pack_code (s + 1) t (s + 3))) ((s + 1) ∷ order t) → u ∈ fv (s + 3) (pack_code (s + 1) t (s + 3)) → u ∉ (suc s ∷ []) → u ∈ (b ∷ (order t ++ f ∷ []))
    inside w m n = ⊎_elim (λ e. absurd (n (Memᴰ.head (omega arith)))) items (Memᴰ.cases_cons (w u m))

    fourth : Within (fv (s + 3) (pack_code (s + 1) t (s + 3))) ((s + 1) ∷ order t) → u ∈ fv (suc (suc (suc s))) (items-control t s) → u ∉ (suc s ∷ []) → u ∉ (suc (suc s) ∷ []) → u ∈ (b ∷ (order t ++ f ∷ []))
    fourth w m n k =
        ⊎_elim
        (λ j. ⊎_elim (λ e. absurd (k (Memᴰ.head (omega arith)))) (λ i. inside w (of-ascending (fv (s + 3) (pack_code (s + 1) t (s + 3))) i) n) (Memᴰ.cases_cons j))
        (λ j. absurd (Memᴰ.not-nil (of-without [] _ j).0))
        (Memᴰ.append_cases ((s + 2) ∷ ascending (fv (s + 3) (pack_code (s + 1) t (s + 3)))) m)

    third : Within (fv (s + 3) (pack_code (s + 1) t (s + 3))) ((s + 1) ∷ order t) → (u ∈ (f ∷ [])) ⊎ (u ∈ without (fv (suc (suc (suc s))) (items-control t s)) (suc (suc s) ∷ [])) → u ∉ (suc s ∷ []) → u ∈ (b ∷ (order t ++ f ∷ []))
    third w (inl m) n = the-flags (Memᴰ.eq_of_singleton m)
    third w (inr m) n = let r = of-without (fv (suc (suc (suc s))) (items-control t s)) (suc (suc s) ∷ []) m in fourth w r.0 n r.1

    second : Within (fv (s + 3) (pack_code (s + 1) t (s + 3))) ((s + 1) ∷ order t) → u ∈ ((f ∷ b ∷ []) ++ without ((f ∷ []) ++ without (fv (suc (suc (suc s))) (items-control t s)) (suc (suc s) ∷ [])) (suc s ∷ [])) → u ∈ (b ∷ (order t ++ f ∷ []))
    second w m =
        ⊎_elim (λ k. ⊎_elim the-flags (λ j. the-bools (Memᴰ.eq_of_singleton j)) (Memᴰ.cases_cons k))
        (λ k.
        let r = of-without ((f ∷ []) ++ without (fv (suc (suc (suc s))) (items-control t s)) (suc (suc s) ∷ [])) (suc s ∷ []) k in
        third w (Memᴰ.append_cases (f ∷ []) r.0) r.1)
        (Memᴰ.append_cases (f ∷ b ∷ []) m)
