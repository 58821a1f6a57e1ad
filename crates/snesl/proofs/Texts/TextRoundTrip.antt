-- Value text loses nothing (01, "The formula and the job"): what is shown is read back, and what is read was the text of exactly one value. Over the type.
use Prim.Native.Nat.{ℕ, ◌≤◌}
use native.Mathlib.Omega.{arith}
use mathlib.Core.Bool.{Bool, true, false}
use mathlib.Core.Logic.{◌↔◌}
use mathlib.Core.List.{List, [], ◌∷◌, ◌++◌, append-nil}
use mathlib.Core.Option.{Option, some, none}
use mathlib.Core.Path.{◌≡◌, refl, sym, ap, subst, fun_ext, ◌∙◌}
use borrow.Author.Tests.{eq-eqb, eqb-true}
use lib.Dec.{eqb}
use lib.IntN.{ℤ}
use lib.ListN.{length, get_or, take, length-append}
use lib.Seq.{take_at, take_all}
use Rattle.laws.proofs.Options.{none-some, some_pair}
use Rattle.snesl.specs.declared.code.Base.{Base}
use Rattle.snesl.specs.declared.code.Base.TheVariants as base
use Rattle.snesl.specs.Values.{ValueType, scalar, braces, int, Element, Val, in_range, EachInt, InRange, Each, each_none, each_more}
use Rattle.snesl.specs.Text.{close_brace, show_int, show, is_digit, ranged, read_list, read_bool, read_value, value_of}
use Rattle.snesl.proofs.Texts.Reading.{Begun, Complete, Sound}
use Rattle.snesl.proofs.Texts.IntText.{int_by, read-int, int-opens, int-complete, int-sound}
use Rattle.snesl.proofs.Texts.BoolText.{bool-opens, bool-complete, bool-sound}
use Rattle.snesl.proofs.Texts.ListText.{list-complete, list-sound}

-- `read_value`, with the reader of ints left open
abbrev element_by : (List ℕ → Option (ℤ × ℕ)) → (b : Base) → List ℕ → Option (Element b × ℕ)
element_by number base.Int = number
element_by number base.Bool = read_bool

abbrev read_by : (List ℕ → Option (ℤ × ℕ)) → (τ : ValueType) → List ℕ → Option (Val τ × ℕ)
read_by number (scalar b) = element_by number b
read_by number (braces τ) = read_list (read_by number τ)

-- what is read of a text of which nothing is left
abbrev whole : {A : Type 0} → Bool → A → Option A
whole true a = some a
whole false a = none

-- a value's text begins with no closing brace
opens : (τ : ValueType) (v : Val τ) (rest : List ℕ) → get_or (show τ v ++ rest) 0 0 ≡ close_brace → ⊥
unfolding show
opens (scalar base.Int) z rest h = int-opens z rest h
opens (scalar base.Bool) c rest h = bool-opens c rest h
opens (braces τ) vs rest h = omega arith

module _ (number : List ℕ → Option (ℤ × ℕ)) (Fine : ℤ → Type 0) where
  -- only an int's text can run on into what follows it
  complete : Complete number show_int Fine
      → (τ : ValueType) (v : Val τ) → EachInt Fine τ v → (rest : List ℕ) → (τ ≡ int → is_digit (get_or rest 0 0) ≡ false)
      → read_by number τ (show τ v ++ rest) ≡ some (v, length (show τ v))
  unfolding show
  complete c (scalar base.Int) z ok rest h = c z ok rest (h refl)
  complete c (scalar base.Bool) b ok rest h = bool-complete b rest
  complete c (braces τ) vs oks rest h =
      list-complete (read_by number τ) (show τ) (EachInt Fine τ) (λ v ok after e. complete c τ v ok after (λ z. e)) (opens τ) vs oks rest

  sound : Sound number show_int Fine → (τ : ValueType) → Sound (read_by number τ) (show τ) (EachInt Fine τ)
  unfolding show
  sound s (scalar base.Int) = s
  sound s (scalar base.Bool) = bool-sound
  sound s (braces τ) = list-sound (read_by number τ) (show τ) (EachInt Fine τ) (sound s τ)

-- `read_int` takes the ints in range
ranged-taken : (k : ℕ) (z : ℤ) → in_range z ≡ true → ranged k (some z) ≡ some (z, k)
ranged-taken k z ok = rw (ok, ranged)

ranged-tested : (k : ℕ) (z v : ℤ) (n : ℕ) → ranged k (some z) ≡ some (v, n) → (z ≡ v) × (k ≡ n) × (in_range z ≡ true)
ranged-tested k z v n h = go (in_range z) refl
  where
    go : (b : Bool) → in_range z ≡ b → (z ≡ v) × (k ≡ n) × (in_range z ≡ true)
    go true e = let r = some_pair z v k n (sym (ranged-taken k z e) ∙ h) in (r.0, r.1, e)
    go false e = none-some (rw (e, ranged) at h)

value-reader : (τ : ValueType) (t : List ℕ) → read_value τ t ≡ read_by (int_by ranged) τ t
unfolding read_value
value-reader (scalar base.Int) t = read-int t
value-reader (scalar base.Bool) t = refl
value-reader (braces τ) t = ap (λ item. read_list item t) (fun_ext (value-reader τ))

-- What is shown of a value in range is read, and behind it, so many bytes on, whatever follows. Only an int's text could run on into it.
pub read-shown : (τ : ValueType) (v : Val τ) → InRange τ v → (rest : List ℕ) → (τ ≡ int → is_digit (get_or rest 0 0) ≡ false)
    → read_value τ (show τ v ++ rest) ≡ some (v, length (show τ v))
read-shown τ v ok rest h =
    value-reader τ (show τ v ++ rest)
    ∙ complete (int_by ranged) (λ z. in_range z ≡ true) (int-complete (λ z. in_range z ≡ true) ranged (λ k. refl) ranged-taken ranged-tested) τ v ok rest h

begun : (τ : ValueType) (t : List ℕ) (v : Val τ) (n : ℕ) → read_value τ t ≡ some (v, n) → Begun (show τ) (InRange τ) t v n
begun τ t v n h =
    sound (int_by ranged) (λ z. in_range z ≡ true) (int-sound (λ z. in_range z ≡ true) ranged (λ k. refl) ranged-taken ranged-tested) τ t v n
    (sym (value-reader τ t) ∙ h)

-- What is read was the text of that value, in range, and as long as was said.
pub shown_read : (τ : ValueType) (t : List ℕ) (v : Val τ) (n : ℕ) → read_value τ t ≡ some (v, n)
    → (n ≤ length t) × (take n t ≡ show τ v) × InRange τ v
shown_read τ t v n h =
    let b = begun τ t v n h in (
      omega (arith, b.bytes, ap length b.text, length-append (show τ v) b.rest),
      ap (take n) b.text ∙ take_at (show τ v) b.rest n (sym b.bytes),
      b.fine,
    )

-- a whole text, and nothing behind it
value-text : (τ : ValueType) (t : List ℕ) (v : Val τ) (n : ℕ) → read_value τ t ≡ some (v, n) → value_of τ t ≡ whole (eqb n (length t)) v
value-text τ t v n h = rw h (go (eqb n (length t)))
  where
    go : (b : Bool) → ◌≡◌ {A = Option (Val τ)} (elim b [ true ↦ some v | false ↦ none ]) (whole b v)
    go true = refl
    go false = refl

-- a value's text, read as a whole, is that value
pub value-of-shown : (τ : ValueType) (v : Val τ) → InRange τ v → value_of τ (show τ v) ≡ some v
value-of-shown τ v ok =
    let read : read_value τ (show τ v) ≡ some (v, length (show τ v)) =
    ap (read_value τ) (sym (append-nil (show τ v))) ∙ read-shown τ v ok [] (λ z. refl) in
    value-text τ (show τ v) v (length (show τ v)) read
    ∙ ap (λ b. whole b v) (eq-eqb (length (show τ v)) (length (show τ v)) refl)

pub shown-of-value : (τ : ValueType) (t : List ℕ) (v : Val τ) → value_of τ t ≡ some v → (t ≡ show τ v) × InRange τ v
shown-of-value τ t v h = read (read_value τ t) refl
  where
    all : (w : Val τ) (n : ℕ) → read_value τ t ≡ some (w, n) → (b : Bool) → eqb n (length t) ≡ b → whole b w ≡ some v → (t ≡ show τ v) × InRange τ v
    all w n e true full r =
        let s = shown_read τ t w n e in
        let same : w ≡ v = cc in
        let text : t ≡ show τ w = sym (take_all n t (omega (arith, eqb-true n (length t) full))) ∙ s.1 in
        subst (λ u. (t ≡ show τ u) × InRange τ u) same (text, s.2)
    all w n e false full r = none-some r

    read : (o : Option (Val τ × ℕ)) → read_value τ t ≡ o → (t ≡ show τ v) × InRange τ v
    read none e = none-some (rw e at h)
    read (some q) e = all q.0 q.1 e (eqb q.1 (length t)) refl (sym (value-text τ t q.0 q.1 e) ∙ h)

-- Accepted text is the text of exactly one value, and every value in range has one.
pub value-of-exactly : (τ : ValueType) (t : List ℕ) (v : Val τ) → (value_of τ t ≡ some v) ↔ ((t ≡ show τ v) × InRange τ v)
value-of-exactly τ t v = (shown-of-value τ t v, λ h. ap (value_of τ) h.0 ∙ value-of-shown τ v h.1)

-- a reader of ints of any size
abbrev plainly : ℕ → Option ℤ → Option (ℤ × ℕ)
plainly k none = none
plainly k (some z) = some (z, k)

plainly-tested : (k : ℕ) (z v : ℤ) (n : ℕ) → plainly k (some z) ≡ some (v, n) → (z ≡ v) × (k ≡ n) × Unit {0}
plainly-tested k z v n h = let r = some_pair z v k n h in (r.0, r.1, tt)

each-any : {A : Type 0} {P : A → Type 0} → ((a : A) → P a) → (l : List A) → Each P l
each-any p [] = each_none
each-any p (a ∷ l) = each_more (p a) (each-any p l)

any-int : (τ : ValueType) (v : Val τ) → EachInt (λ z. Unit {0}) τ v
any-int (scalar base.Int) z = tt
any-int (scalar base.Bool) c = tt
any-int (braces τ) vs = each-any (any-int τ) vs

-- Two values, in range or not, have one text only if they are one.
pub show-injective : (τ : ValueType) (v w : Val τ) → show τ v ≡ show τ w → v ≡ w
show-injective τ v w h = (some_pair v w (length (show τ v)) (length (show τ w)) (sym (plain v) ∙ ap (read_by (int_by plainly) τ) h ∙ plain w)).0
  where
    plain : (u : Val τ) → read_by (int_by plainly) τ (show τ u) ≡ some (u, length (show τ u))
    plain u =
        ap (read_by (int_by plainly) τ) (sym (append-nil (show τ u)))
        ∙ complete (int_by plainly) (λ z. Unit {0})
        (int-complete (λ z. Unit {0}) plainly (λ k. refl) (λ k z ok. refl) plainly-tested) τ u (any-int τ u) [] (λ z. refl)
