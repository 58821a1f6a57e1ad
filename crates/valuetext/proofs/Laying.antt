-- To lay the streams of some values and then those of more is to lay those of all: once over the depth, whatever the base.
use Prim.Native.Nat.{ℕ, zero, suc, ◌+◌, ◌≤◌, ◌<◌}
use mathlib.Core.List.{List, [], ◌∷◌, ◌++◌, map, map-append, append_assoc}
use mathlib.Core.Path.{◌≡◌, refl, sym, ap, ap₂, ◌∙◌, subst}
use mathlib.Core.Bool.{Bool, true, false}
use native.Mathlib.Omega.{arith}
use lib.IntN.{ℤ}
use lib.ListN.{length, get_or, set, replicate, length-append, length-set, length-map}
use lib.Seq.{sets, get_or-set_same, get_or-set_other, set-set, set_comm}
use Rattle.snesl.specs.declared.code.Base.{Base}
use Rattle.snesl.specs.declared.code.Base.TheVariants as base
use Rattle.snesl.specs.Values.{type_of, Element, Val}
use Rattle.snesl.specs.Streams.{bit}
use Rattle.snesl.specs.Representation.{concat, segments}
use Rattle.snesl.proofs.Representing.Elements.{length-elements, elements-append}
use Rattle.valuetext.specs.Laying.{cells, lay, advance, Under, Apart}
use Rattle.valuetext.specs.Reading.{cell}
use Rattle.decimals.proofs.Stores.{sets-append, sets-comm, sets-none}

module _ {A : Type 0} where
  pub concat-append : (vs ws : List (List A)) → concat (vs ++ ws) ≡ concat vs ++ concat ws
  unfolding concat
  concat-append [] ws = refl
  concat-append (v ∷ vs) ws = ap (λ (l : List A). v ++ l) (concat-append vs ws) ∙ sym (append_assoc v (concat vs) (concat ws))

  pub segments-append : (vs ws : List (List A)) → segments (vs ++ ws) ≡ segments vs ++ segments ws
  unfolding segments
  segments-append [] ws = refl
  segments-append (v ∷ vs) ws =
      ap (λ (l : List Bool). replicate (length v) false ++ true ∷ l) (segments-append vs ws)
      ∙ sym (append_assoc (replicate (length v) false) (true ∷ segments vs) (segments ws))

  pub segments-length : (vs ws : List (List A)) → length (segments (vs ++ ws)) ≡ length (segments vs) + length (segments ws)
  segments-length vs ws = ap length (segments-append vs ws) ∙ length-append (segments vs) (segments ws)

  pub bits-append : (vs ws : List (List A)) → map bit (segments (vs ++ ws)) ≡ map bit (segments vs) ++ map bit (segments ws)
  bits-append vs ws = ap (map bit) (segments-append vs ws) ∙ map-append bit (segments vs) (segments ws)

  pub bits-length : (vs : List (List A)) → length (map bit (segments vs)) ≡ length (segments vs)
  bits-length vs = length-map (segments vs) bit

-- ---- scalars

pub cells-none : (β : Base) → cells β [] ≡ []
cells-none base.Int = refl
cells-none base.Bool = refl

pub cells-more : (β : Base) (x : Element β) (xs : List (Element β)) → cells β (x ∷ xs) ≡ cell β x ∷ cells β xs
cells-more base.Int x xs = refl
cells-more base.Bool x xs = refl

pub cells-one : (β : Base) (x : Element β) → cells β (x ∷ []) ≡ cell β x ∷ []
cells-one β x = cells-more β x [] ∙ ap (λ (l : List ℤ). cell β x ∷ l) (cells-none β)

-- ---- cursors

pub length-advance : (β : Base) (d : ℕ) (cs : List ℕ) (vs : List (Val (type_of β d))) → length (advance β d cs vs) ≡ length cs
unfolding advance
length-advance β zero cs vs = length-set cs 0 (get_or cs 0 0 + length vs)
length-advance β (suc d) cs vs =
    length-set (advance β d cs (concat vs)) (suc d) (get_or cs (suc d) 0 + length (segments vs)) ∙ length-advance β d cs (concat vs)

-- those of higher levels stay
pub advance-above : (β : Base) (d i : ℕ) (cs : List ℕ) (vs : List (Val (type_of β d))) → d < i → get_or (advance β d cs vs) i 0 ≡ get_or cs i 0
unfolding advance
advance-above β zero i cs vs h = get_or-set_other cs 0 i (get_or cs 0 0 + length vs) 0 (λ e. omega arith)
advance-above β (suc d) i cs vs h =
    get_or-set_other (advance β d cs (concat vs)) (suc d) i (get_or cs (suc d) 0 + length (segments vs)) 0 (λ e. omega arith)
    ∙ advance-above β d i cs (concat vs) (omega arith)

-- and don't matter
pub advance-set : (β : Base) (d i x : ℕ) (cs : List ℕ) (vs : List (Val (type_of β d))) → d < i → advance β d (set cs i x) vs ≡ set (advance β d cs vs) i x
unfolding advance
advance-set β zero i x cs vs h =
    ap (λ (c : ℕ). set (set cs i x) 0 (c + length vs)) (get_or-set_other cs i 0 x 0 (λ e. omega arith))
    ∙ set_comm cs i 0 x (get_or cs 0 0 + length vs) (λ e. omega arith)
advance-set β (suc d) i x cs vs h =
    ap₂ (λ (l : List ℕ) (c : ℕ). set l (suc d) (c + length (segments vs)))
    (advance-set β d i x cs (concat vs) (omega arith))
    (get_or-set_other cs i (suc d) x 0 (λ e. omega arith))
    ∙ set_comm (advance β d cs (concat vs)) i (suc d) x (get_or cs (suc d) 0 + length (segments vs)) (λ e. omega arith)

pub advance-append : (β : Base) (d : ℕ) (cs : List ℕ) (vs ws : List (Val (type_of β d))) → d < length cs
    → advance β d (advance β d cs vs) ws ≡ advance β d cs (vs ++ ws)
unfolding advance
advance-append β zero cs vs ws h =
    let e : get_or cs 0 0 + length vs + length ws ≡ get_or cs 0 0 + length (vs ++ ws) = omega (arith, length-append vs ws) in
    ap (λ (c : ℕ). set (set cs 0 (get_or cs 0 0 + length vs)) 0 (c + length ws)) (get_or-set_same cs 0 (get_or cs 0 0 + length vs) 0 h)
    ∙ set-set cs 0 (get_or cs 0 0 + length vs) (get_or cs 0 0 + length vs + length ws)
    ∙ ap (set cs 0) e
advance-append β (suc d) cs vs ws h =
    let c : ℕ = get_or cs (suc d) 0 in
    let a : List ℕ = advance β d cs (concat vs) in
    let y : ℕ = c + length (segments vs) in
    let e : y + length (segments ws) ≡ c + length (segments (vs ++ ws)) = omega (arith, segments-length vs ws) in
    ap₂ (λ (l : List ℕ) (n : ℕ). set l (suc d) (n + length (segments ws)))
    (advance-set β d (suc d) y a (concat ws) (omega arith))
    (get_or-set_same a (suc d) y 0 (subst (λ (n : ℕ). suc d < n) (sym (length-advance β d cs (concat vs))) h))
    ∙ set-set (advance β d a (concat ws)) (suc d) y (y + length (segments ws))
    ∙ ap₂ (λ (l : List ℕ) (n : ℕ). set l (suc d) n)
    (advance-append β d cs (concat vs) (concat ws) (omega arith) ∙ ap (advance β d cs) (sym (concat-append vs ws)))
    e

-- ---- where streams end

pub under-set : (β : Base) (d i x : ℕ) (cs : List ℕ) (vs : List (Val (type_of β d))) (m : ℕ) → d < i → Under β d cs vs m → Under β d (set cs i x) vs m
unfolding Under
under-set β zero i x cs vs m h u = subst (λ (c : ℕ). c + length vs ≤ m) (sym (get_or-set_other cs i 0 x 0 (λ e. omega arith))) u
under-set β (suc d) i x cs vs m h u = (
  under-set β d i x cs (concat vs) m (omega arith) u.0,
  subst (λ (c : ℕ). c + length (segments vs) ≤ m) (sym (get_or-set_other cs i (suc d) x 0 (λ e. omega arith))) u.1,
)

pub under-front : (β : Base) (d : ℕ) (cs : List ℕ) (vs ws : List (Val (type_of β d))) (m : ℕ) → Under β d cs (vs ++ ws) m → Under β d cs vs m
unfolding Under
under-front β zero cs vs ws m u = omega (arith, length-append vs ws)
under-front β (suc d) cs vs ws m u = (
  under-front β d cs (concat vs) (concat ws) m (subst (λ (l : List (Val (type_of β d))). Under β d cs l m) (concat-append vs ws) u.0),
  omega (arith, segments-length vs ws, u.1),
)

pub under_back : (β : Base) (d : ℕ) (cs : List ℕ) (vs ws : List (Val (type_of β d))) (m : ℕ) → d < length cs → Under β d cs (vs ++ ws) m → Under β d (advance β d cs vs) ws m
unfolding Under advance
under_back β zero cs vs ws m h u = omega (arith, length-append vs ws, get_or-set_same cs 0 (get_or cs 0 0 + length vs) 0 h)
under_back β (suc d) cs vs ws m h u =
    let a : List ℕ = advance β d cs (concat vs) in
    let y : ℕ = get_or cs (suc d) 0 + length (segments vs) in
    let g : get_or (set a (suc d) y) (suc d) 0 ≡ y =
    get_or-set_same a (suc d) y 0 (subst (λ (n : ℕ). suc d < n) (sym (length-advance β d cs (concat vs))) h) in (
      under-set β d (suc d) y a (concat ws) m (omega arith)
          (under_back β d cs (concat vs) (concat ws) m (omega arith) (subst (λ (l : List (Val (type_of β d))). Under β d cs l m) (concat-append vs ws) u.0)),
      omega (arith, segments-length vs ws, u.1, g),
    )

pub under_more : (β : Base) (d : ℕ) (cs : List ℕ) (vs : List (Val (type_of β d))) (m n : ℕ) → m ≤ n → Under β d cs vs m → Under β d cs vs n
unfolding Under
under_more β zero cs vs m n h u = omega arith
under_more β (suc d) cs vs m n h u = (under_more β d cs (concat vs) m n h u.0, omega (arith, u.1))

pub apart-set : (β : Base) (d i x : ℕ) (cs : List ℕ) (vs : List (Val (type_of β d))) → d < i → Apart β d cs vs → Apart β d (set cs i x) vs
unfolding Apart
apart-set β zero i x cs vs h p = tt
apart-set β (suc d) i x cs vs h p = (
  apart-set β d i x cs (concat vs) (omega arith) p.0,
  subst (Under β d (set cs i x) (concat vs)) (sym (get_or-set_other cs i (suc d) x 0 (λ e. omega arith)))
      (under-set β d i x cs (concat vs) (get_or cs (suc d) 0) (omega arith) p.1),
)

pub apart-front : (β : Base) (d : ℕ) (cs : List ℕ) (vs ws : List (Val (type_of β d))) → Apart β d cs (vs ++ ws) → Apart β d cs vs
unfolding Apart
apart-front β zero cs vs ws p = tt
apart-front β (suc d) cs vs ws p = (
  apart-front β d cs (concat vs) (concat ws) (subst (Apart β d cs) (concat-append vs ws) p.0),
  under-front β d cs (concat vs) (concat ws) (get_or cs (suc d) 0)
      (subst (λ (l : List (Val (type_of β d))). Under β d cs l (get_or cs (suc d) 0)) (concat-append vs ws) p.1),
)

pub apart-back : (β : Base) (d : ℕ) (cs : List ℕ) (vs ws : List (Val (type_of β d))) → d < length cs → Apart β d cs (vs ++ ws) → Apart β d (advance β d cs vs) ws
unfolding Apart advance
apart-back β zero cs vs ws h p = tt
apart-back β (suc d) cs vs ws h p =
    let a : List ℕ = advance β d cs (concat vs) in
    let c : ℕ = get_or cs (suc d) 0 in
    let y : ℕ = c + length (segments vs) in
    let g : get_or (set a (suc d) y) (suc d) 0 ≡ y =
    get_or-set_same a (suc d) y 0 (subst (λ (n : ℕ). suc d < n) (sym (length-advance β d cs (concat vs))) h) in (
      apart-set β d (suc d) y a (concat ws) (omega arith)
          (apart-back β d cs (concat vs) (concat ws) (omega arith) (subst (Apart β d cs) (concat-append vs ws) p.0)),
      subst (Under β d (set a (suc d) y) (concat ws)) (sym g)
          (under-set β d (suc d) y a (concat ws) y (omega arith)
          (under_more β d a (concat ws) c y (omega arith)
          (under_back β d cs (concat vs) (concat ws) c (omega arith) (subst (λ (l : List (Val (type_of β d))). Under β d cs l c) (concat-append vs ws) p.1)))),
    )

-- ---- the buffer

pub lay-set : (β : Base) (d i x : ℕ) (b : List ℤ) (cs : List ℕ) (vs : List (Val (type_of β d))) → d < i → lay β d b (set cs i x) vs ≡ lay β d b cs vs
unfolding lay
lay-set β zero i x b cs vs h = ap (λ (c : ℕ). sets b c (cells β vs)) (get_or-set_other cs i 0 x 0 (λ e. omega arith))
lay-set β (suc d) i x b cs vs h =
    ap₂ (λ (l : List ℤ) (c : ℕ). sets l c (map bit (segments vs)))
    (lay-set β d i x b cs (concat vs) (omega arith))
    (get_or-set_other cs i (suc d) x 0 (λ e. omega arith))

pub lay-none : (β : Base) (d : ℕ) (cs : List ℕ) (vs : List (Val (type_of β d))) → lay β d [] cs vs ≡ []
unfolding lay
lay-none β zero cs vs = sets-none (get_or cs 0 0) (cells β vs)
lay-none β (suc d) cs vs =
    ap (λ (l : List ℤ). sets l (get_or cs (suc d) 0) (map bit (segments vs))) (lay-none β d cs (concat vs))
    ∙ sets-none (get_or cs (suc d) 0) (map bit (segments vs))

-- what stands above is stored before or after
pub lay-sets : (β : Base) (d : ℕ) (b : List ℤ) (cs : List ℕ) (vs : List (Val (type_of β d))) (c : ℕ) (s : List ℤ) → Under β d cs vs c
    → lay β d (sets b c s) cs vs ≡ sets (lay β d b cs vs) c s
unfolding lay Under
lay-sets β zero b cs vs c s u = sym (sets-comm b (get_or cs 0 0) (cells β vs) c s (omega (arith, u, length-elements β vs)))
lay-sets β (suc d) b cs vs c s u =
    ap (λ (l : List ℤ). sets l (get_or cs (suc d) 0) (map bit (segments vs))) (lay-sets β d b cs (concat vs) c s u.0)
    ∙ sym (sets-comm (lay β d b cs (concat vs)) (get_or cs (suc d) 0) (map bit (segments vs)) c s (omega (arith, u.1, bits-length vs)))

pub lay-append : (β : Base) (d : ℕ) (b : List ℤ) (cs : List ℕ) (vs ws : List (Val (type_of β d))) → d < length cs → Apart β d cs (vs ++ ws)
    → lay β d (lay β d b cs vs) (advance β d cs vs) ws ≡ lay β d b cs (vs ++ ws)
unfolding lay advance Apart
lay-append β zero b cs vs ws h p =
    ap (λ (c : ℕ). sets (sets b (get_or cs 0 0) (cells β vs)) c (cells β ws))
    (get_or-set_same cs 0 (get_or cs 0 0 + length vs) 0 h ∙ ap (λ (n : ℕ). get_or cs 0 0 + n) (sym (length-elements β vs)))
    ∙ sets-append b (get_or cs 0 0) (cells β vs) (cells β ws)
    ∙ ap (sets b (get_or cs 0 0)) (sym (elements-append β vs ws))
lay-append β (suc d) b cs vs ws h p =
    let c : ℕ = get_or cs (suc d) 0 in
    let a : List ℕ = advance β d cs (concat vs) in
    let y : ℕ = c + length (segments vs) in
    let s : List ℤ = map bit (segments vs) in
    let l : List ℤ = lay β d b cs (concat vs) in
    let q : Apart β d cs (concat vs ++ concat ws) = subst (Apart β d cs) (concat-append vs ws) p.0 in
    let r : Under β d cs (concat vs ++ concat ws) c = subst (λ (x : List (Val (type_of β d))). Under β d cs x c) (concat-append vs ws) p.1 in
    ap₂ (λ (x : List ℤ) (n : ℕ). sets x n (map bit (segments ws)))
    (lay-set β d (suc d) y (sets l c s) a (concat ws) (omega arith)
    ∙ lay-sets β d l a (concat ws) c s (under_back β d cs (concat vs) (concat ws) c (omega arith) r)
    ∙ ap (λ (x : List ℤ). sets x c s)
    (lay-append β d b cs (concat vs) (concat ws) (omega arith) q ∙ ap (lay β d b cs) (sym (concat-append vs ws))))
    (get_or-set_same a (suc d) y 0 (subst (λ (n : ℕ). suc d < n) (sym (length-advance β d cs (concat vs))) h)
    ∙ ap (λ (n : ℕ). c + n) (sym (bits-length vs)))
    ∙ sets-append (lay β d b cs (concat (vs ++ ws))) c s (map bit (segments ws))
    ∙ ap (sets (lay β d b cs (concat (vs ++ ws))) c) (sym (bits-append vs ws))
