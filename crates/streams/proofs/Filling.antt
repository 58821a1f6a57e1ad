-- Exact results rs, written one after another without a look at their range: r of them are stored and `rest` is to come. One that is out of range is stored as
-- whatever it may be, and `inside` says whether there was none so far.
use Prim.Native.Nat.{ℕ, ◌+◌, ◌≤◌}
use mathlib.Core.Bool.{Bool, true, false, ◌&&◌}
use mathlib.Core.List.{List, [], ◌∷◌, ◌++◌, map, append_assoc, append-nil}
use mathlib.Core.Option.{some, none}
use mathlib.Core.Path.{◌≡◌, refl, sym, ◌∙◌, ap}
use native.Mathlib.Nat.{zero-add}
use native.Mathlib.Omega.{arith}
use lib.IntN.{ℤ}
use lib.ListN.{length, drop, set, length-append}
use lib.Seq.{sets, length-sets}
use Rattle.laws.proofs.Never.{never}
use Rattle.laws.proofs.Parts.{sets-append, drop-sets}
use Rattle.laws.proofs.Tests.{both_true}
use Rattle.snesl.specs.Values.{in_range}
use Rattle.snesl.specs.Transducers.{first_outside}
use Rattle.streams.specs.Walks.{all_inside}

-- exact results, without their elements
abbrev pub values : List (ℕ × ℤ) → List ℤ
values rs = map (λ r. r.1) rs

-- ---- in range or not

pub inside-next : (k : ℕ) (z : ℤ) (rs : List (ℕ × ℤ)) → all_inside ((k, z) ∷ rs) ≡ in_range z && all_inside rs
unfolding all_inside
inside-next k z rs = refl

pub inside-end : all_inside [] ≡ true
unfolding all_inside
inside-end = refl

pub outside-not : (k : ℕ) (z : ℤ) (rs : List (ℕ × ℤ)) → in_range z ≡ true → first_outside ((k, z) ∷ rs) ≡ first_outside rs
unfolding first_outside
outside-not k z rs e = λ i. elim (e i) [ true ↦ first_outside rs | false ↦ some k ]

pub outside-here : (k : ℕ) (z : ℤ) (rs : List (ℕ × ℤ)) → in_range z ≡ false → first_outside ((k, z) ∷ rs) ≡ some k
unfolding first_outside
outside-here k z rs e = λ i. elim (e i) [ true ↦ first_outside rs | false ↦ some k ]

pub outside-none : first_outside [] ≡ none
unfolding first_outside
outside-none = refl

-- the two tests of all results say the same
pub none-outside : (rs : List (ℕ × ℤ)) → all_inside rs ≡ true → first_outside rs ≡ none
none-outside [] e = outside-none
none-outside (r ∷ rs) e =
    let b = both_true (in_range r.1) (all_inside rs) (sym (inside-next r.0 r.1 rs) ∙ e) in
    outside-not r.0 r.1 rs b.0 ∙ none-outside rs b.1

pub some-outside : (rs : List (ℕ × ℤ)) → all_inside rs ≡ false → (k : ℕ) × (first_outside rs ≡ some k)
some-outside [] e = let z = sym inside-end ∙ e in never (cc)
some-outside (r ∷ rs) e = go (in_range r.1) refl (some-outside rs)
  where
    go : (b : Bool) → in_range r.1 ≡ b → (all_inside rs ≡ false → (k : ℕ) × (first_outside rs ≡ some k)) → (k : ℕ) × (first_outside (r ∷ rs) ≡ some k)
    go false q ih = (r.0, outside-here r.0 r.1 rs q)
    go true q ih =
        let later = ih (sym (sym e ∙ inside-next r.0 r.1 rs ∙ ap (λ b. b && all_inside rs) q)) in
        (later.0, outside-not r.0 r.1 rs q ∙ later.1)

-- ---- under way

pub record Filling (rs : List (ℕ × ℤ)) (old buf : List ℤ) (rest : List (ℕ × ℤ)) (inside : Bool) (r : ℕ) : Type 0 where
  pub done : List ℤ
  pub count : length done ≡ r
  pub stored : buf ≡ sets old 0 done
  pub all : all_inside rs ≡ inside && all_inside rest
  pub long : length rs ≡ r + length rest
  pub right : inside ≡ true → values rs ≡ done ++ values rest

pub start : (rs : List (ℕ × ℤ)) (old : List ℤ) → Filling rs old old rs true 0
start rs old = record { done = []; count = refl; stored = refl; all = refl; long = omega arith; right = λ e. refl }

and_assoc : (a b c : Bool) → a && (b && c) ≡ (a && b) && c
and_assoc true b c = refl
and_assoc false b c = refl

module _ {rs : List (ℕ × ℤ)} {old buf : List ℤ} {rest : List (ℕ × ℤ)} {inside : Bool} {r : ℕ} (f : Filling rs old buf rest inside r) where
  pub again : {rest' : List (ℕ × ℤ)} → rest ≡ rest' → Filling rs old buf rest' inside r
  again p =
      record {
        done = f.done;
        count = f.count;
        stored = f.stored;
        all = f.all ∙ ap (λ l. inside && all_inside l) p;
        long = f.long ∙ ap (λ l. r + length l) p;
        right = λ e. f.right e ∙ ap (λ l. f.done ++ values l) p;
      }

  -- one result
  pub put : (k : ℕ) (z v : ℤ) {new : List ℤ} {rest' : List (ℕ × ℤ)} {b : Bool} → rest ≡ (k, z) ∷ rest' → (in_range z ≡ true → v ≡ z) → new ≡ set buf r v →
      b ≡ in_range z → Filling rs old new rest' (inside && b) (r + 1)
  put k z v {new} {rest'} {b} p h q e =
      record {
        done = f.done ++ v ∷ [];
        count = length-append f.done (v ∷ []) ∙ ap (λ k. k + 1) f.count;
        stored =
            q
            ∙ ap (λ l. set l r v) f.stored
            ∙ ap (λ k. set (sets old 0 f.done) k v) (sym f.count ∙ sym (zero-add (length f.done)))
            ∙ sym (sets-append f.done (v ∷ []) old 0);
        all =
            f.all
            ∙ ap (λ l. inside && all_inside l) p
            ∙ ap (λ c. inside && c) (inside-next k z rest' ∙ ap (λ c. c && all_inside rest') (sym e))
            ∙ and_assoc inside b (all_inside rest');
        long = let l = f.long ∙ ap (λ l. r + length l) p in omega (arith, l);
        right = λ g.
            let both = both_true inside b g in
            f.right both.0
            ∙ ap (λ l. f.done ++ values l) p
            ∙ ap (λ y. f.done ++ y ∷ values rest') (sym (h (sym e ∙ both.1)))
            ∙ sym (append_assoc f.done (v ∷ []) (values rest'));
      }

  pub same_length : length buf ≡ length old
  same_length = ap length f.stored ∙ length-sets old 0 f.done

  pub behind : (m : ℕ) → r ≤ m → drop m buf ≡ drop m old
  behind m h = ap (drop m) f.stored ∙ drop-sets f.done old m 0 (omega (arith, f.count))

  -- nothing is left
  pub over : rest ≡ [] → (inside ≡ all_inside rs) × (length rs ≡ r) × (inside ≡ true → buf ≡ sets old 0 (values rs))
  over p = (
    sym (f.all ∙ ap (λ l. inside && all_inside l) p ∙ ap (λ b. inside && b) inside-end ∙ and-true inside),
    (let l = f.long ∙ ap (λ l. r + length l) p in omega (arith, l)),
    λ e. f.stored ∙ ap (sets old 0) (sym (f.right e ∙ ap (λ l. f.done ++ values l) p ∙ append-nil f.done)),
  )
    where
      and-true : (b : Bool) → (b && true) ≡ b
      and-true true = refl
      and-true false = refl
