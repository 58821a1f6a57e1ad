-- The streams that are laid at the cursors are those of the representation: how many elements each has, and one after another where the cursors
-- start so.
use Prim.Native.Nat.{ℕ, zero, suc, ◌+◌, ◌<◌}
use mathlib.Core.List.{List, [], ◌∷◌, ◌++◌, map, map-append, append_assoc, append-nil}
use mathlib.Core.Path.{◌≡◌, refl, sym, ap, ap₂, ◌∙◌, subst}
use native.Mathlib.Omega.{arith}
use lib.IntN.{ℤ}
use lib.ListN.{length, get_or, take, length-append, length-map}
use lib.Seq.{sets, take_at, take-suc-set, take-take, take-length}
use Rattle.snesl.specs.declared.code.Base.{Base}
use Rattle.snesl.specs.declared.code.Base.TheVariants as base
use Rattle.snesl.specs.Values.{type_of, Element, Val}
use Rattle.snesl.specs.Streams.{Store, flags, data_of, len, elements, bit, contents, room}
use Rattle.snesl.specs.Trees.{Tree, leaf, node, order}
use Rattle.snesl.specs.Machine.{sum_of}
use Rattle.snesl.specs.Representation.{concat, segments, represent}
use Rattle.valuetext.specs.Laying.{cells, lay, advance, Under, Apart}
use Rattle.decimals.proofs.Stores.{sets-append}
use Rattle.valuetext.proofs.Laying.{length-advance, bits-length, under_more}
use Rattle.snesl.proofs.Correctness.Charged.{sum_of-append}
use Rattle.snesl.proofs.Representing.Elements.{length-elements}
use Rattle.snesl.proofs.Types.{depth-of-type}

-- the streams of some values, in tree order
abbrev pub streams : (β : Base) (d : ℕ) → List (Val (type_of β d)) → Store
streams β d vs = order (represent (type_of β d) vs)

pub streams-more : (β : Base) (d : ℕ) (vs : List (List (Val (type_of β d)))) → streams β (suc d) vs ≡ streams β d (concat vs) ++ flags (segments vs) ∷ []
unfolding represent order
streams-more β d vs = refl

pub order-length : {A : Type 0} {d : ℕ} (t : Tree A d) → length (order t) ≡ suc d
unfolding order
order-length (leaf a) = refl
order-length (node t a) = length-append (order t) (a ∷ []) ∙ omega (arith, order-length t)

pub contents-append : (σ τ : Store) → contents (σ ++ τ) ≡ contents σ ++ contents τ
unfolding contents
contents-append [] τ = refl
contents-append (a ∷ σ) τ = ap (λ (l : List ℤ). elements a ++ l) (contents-append σ τ) ∙ sym (append_assoc (elements a) (contents σ) (contents τ))

pub contents-more : (β : Base) (d : ℕ) (vs : List (List (Val (type_of β d)))) → contents (streams β (suc d) vs) ≡ contents (streams β d (concat vs)) ++ map bit (segments vs)
unfolding contents
contents-more β d vs =
    ap contents (streams-more β d vs)
    ∙ contents-append (streams β d (concat vs)) (flags (segments vs) ∷ [])
    ∙ ap (λ (l : List ℤ). contents (streams β d (concat vs)) ++ l) (append-nil (map bit (segments vs)))

room-more : (β : Base) (d : ℕ) (vs : List (List (Val (type_of β d)))) → room (streams β (suc d) vs) ≡ room (streams β d (concat vs)) + length (segments vs)
room-more β d vs =
    ap length (contents-more β d vs)
    ∙ length-append (contents (streams β d (concat vs))) (map bit (segments vs))
    ∙ ap (λ (n : ℕ). room (streams β d (concat vs)) + n) (bits-length vs)

lens-more : (β : Base) (d : ℕ) (vs : List (List (Val (type_of β d)))) → map len (streams β (suc d) vs) ≡ map len (streams β d (concat vs)) ++ length (segments vs) ∷ []
lens-more β d vs = ap (map len) (streams-more β d vs) ∙ map-append len (streams β d (concat vs)) (flags (segments vs) ∷ [])

pub lens-length : (β : Base) (d : ℕ) (vs : List (Val (type_of β d))) → length (map len (streams β d vs)) ≡ suc d
lens-length β d vs = length-map (streams β d vs) len ∙ order-length (represent (type_of β d) vs) ∙ ap suc (depth-of-type β d)

pub length-data : (β : Base) (xs : List (Element β)) → len (data_of β xs) ≡ length xs
length-data base.Int xs = refl
length-data base.Bool xs = refl

-- their total is the room
pub lens-total : (β : Base) (d : ℕ) (vs : List (Val (type_of β d))) → sum_of (map len (streams β d vs)) ≡ room (streams β d vs)
unfolding sum_of represent order contents
lens-total β zero vs = omega (arith, length-append (cells β vs) [], length-elements β vs, length-data β vs)
lens-total β (suc d) vs =
    ap sum_of (lens-more β d vs)
    ∙ sum_of-append (map len (streams β d (concat vs))) (length (segments vs) ∷ [])
    ∙ omega (arith, lens-total β d (concat vs), room-more β d vs)

-- ---- counted from 0

pub counted : (β : Base) (d : ℕ) (cs : List ℕ) (vs : List (Val (type_of β d))) → d < length cs → ((i : ℕ) → get_or cs i 0 ≡ 0)
    → take (suc d) (advance β d cs vs) ≡ map len (streams β d vs)
unfolding advance represent order
counted β zero cs vs h z = take-suc-set cs 0 (get_or cs 0 0 + length vs) h ∙ ap (λ (n : ℕ). n ∷ []) (omega (arith, z 0, length-data β vs))
counted β (suc d) cs vs h z =
    let n : get_or cs (suc d) 0 + length (segments vs) ≡ length (segments vs) = omega (arith, z (suc d)) in
    take-suc-set (advance β d cs (concat vs)) (suc d) (get_or cs (suc d) 0 + length (segments vs))
    (subst (λ (m : ℕ). suc d < m) (sym (length-advance β d cs (concat vs))) h)
    ∙ ap₂ (λ (l : List ℕ) (m : ℕ). l ++ m ∷ []) (counted β d cs (concat vs) (omega arith) z) n
    ∙ sym (lens-more β d vs)

-- ---- one after another from `start`

unfoldable pub Placed : (β : Base) (d : ℕ) → (start : ℕ) → (cursors : List ℕ) → List (Val (type_of β d)) → Type 0
Placed β zero a cs vs = get_or cs 0 0 ≡ a
Placed β (suc d) a cs vs = Placed β d a cs (concat vs) × (get_or cs (suc d) 0 ≡ a + room (streams β d (concat vs)))

pub placed : (β : Base) (d a : ℕ) (cs : List ℕ) (vs : List (Val (type_of β d))) → ((i : ℕ) → i < suc d → get_or cs i 0 ≡ a + sum_of (take i (map len (streams β d vs))))
    → Placed β d a cs vs
unfolding Placed sum_of
placed β zero a cs vs h = h 0 (omega arith) ∙ omega arith
placed β (suc d) a cs vs h =
    let l : List ℕ = map len (streams β d (concat vs)) in
    let n : ℕ = length (segments vs) in
    let e : (i : ℕ) → i < suc (suc d) → take i (map len (streams β (suc d) vs)) ≡ take i l =
    λ i k.
    ap (take i) (lens-more β d vs)
    ∙ sym (take-take i (suc d) (l ++ n ∷ []) (omega arith))
    ∙ ap (take i) (take_at l (n ∷ []) (suc d) (lens-length β d (concat vs))) in (
      placed β d a cs (concat vs) (λ i k. h i (omega arith) ∙ ap (λ (x : List ℕ). a + sum_of x) (e i (omega arith))),
      h (suc d) (omega arith)
          ∙ ap (λ (x : List ℕ). a + sum_of x) (e (suc d) (omega arith) ∙ whole l (lens-length β d (concat vs)))
          ∙ ap (λ (m : ℕ). a + m) (lens-total β d (concat vs)),
    )
  where
    whole : (l : List ℕ) → length l ≡ suc d → take (suc d) l ≡ l
    whole l k = ap (λ (m : ℕ). take m l) (sym k) ∙ take-length l

pub lay-placed : (β : Base) (d a : ℕ) (b : List ℤ) (cs : List ℕ) (vs : List (Val (type_of β d))) → Placed β d a cs vs
    → lay β d b cs vs ≡ sets b a (contents (streams β d vs))
unfolding Placed lay represent order contents
lay-placed β zero a b cs vs p = ap₂ (λ (c : ℕ) (l : List ℤ). sets b c l) p (sym (append-nil (cells β vs)))
lay-placed β (suc d) a b cs vs p =
    ap₂ (λ (l : List ℤ) (c : ℕ). sets l c (map bit (segments vs))) (lay-placed β d a b cs (concat vs) p.0) p.1
    ∙ sets-append b a (contents (streams β d (concat vs))) (map bit (segments vs))
    ∙ ap (sets b a) (sym (contents-more β d vs))

under-placed : (β : Base) (d a : ℕ) (cs : List ℕ) (vs : List (Val (type_of β d))) → Placed β d a cs vs → Under β d cs vs (a + room (streams β d vs))
unfolding Placed Under represent order contents
under-placed β zero a cs vs p = omega (arith, p, length-append (cells β vs) [], length-elements β vs)
under-placed β (suc d) a cs vs p = (
  under_more β d cs (concat vs) (a + room (streams β d (concat vs))) (a + room (streams β (suc d) vs)) (omega (arith, room-more β d vs))
      (under-placed β d a cs (concat vs) p.0),
  omega (arith, p.1, room-more β d vs),
)

pub apart-placed : (β : Base) (d a : ℕ) (cs : List ℕ) (vs : List (Val (type_of β d))) → Placed β d a cs vs → Apart β d cs vs
unfolding Placed Apart
apart-placed β zero a cs vs p = tt
apart-placed β (suc d) a cs vs p =
    (apart-placed β d a cs (concat vs) p.0, subst (Under β d cs (concat vs)) (sym p.1) (under-placed β d a cs (concat vs) p.0))
