-- How a list's text is read step by step: its opening, an item, what stands behind it. The loop of the list reader keeps `Listing`.
use Prim.Native.Nat.{ℕ, zero, suc, ◌+◌, ◌≤◌, ◌<◌, ◌^◌}
use mathlib.Core.Bool.{Bool, true, false}
use mathlib.Core.List.{List, [], ◌∷◌, ◌++◌, map, append_assoc, append-nil}
use mathlib.Core.Logic.{◌⊎◌, inl, inr}
use mathlib.Core.Option.{Option, some, none}
use Rattle.std.specs.Prelude.{Option as RustOption, Some, None}
use Rattle.std.proofs.lemmas.Option.{some_pair_parts}
use mathlib.Core.Path.{◌≡◌, refl, sym, ap, ap₂, ◌∙◌, subst}
use native.Mathlib.Omega.{arith}
use borrow.Author.Tests.{eqb-true}
use lib.Dec.{eqb}
use mir.Syntax.{w32}
use mir.Val.{SFits, to_z, of_z}
use mir.Facts.{to_z-of_z}
use lib.IntN.{ℤ, pos}
use lib.ListN.{length, get_or, set, drop, replicate, length-append, length-drop, length-set, length-replicate, replicate-append-replicate}
use lib.Seq.{sets, length-sets, set-get_or, get_or-set_same, set-set}
use Rattle.snesl.specs.declared.code.Base.{Base}
use Rattle.snesl.specs.declared.code.Base.TheVariants as base
use Rattle.snesl.specs.Values.{type_of, Element, Val}
use Rattle.snesl.specs.Streams.{bit}
use Rattle.snesl.specs.Representation.{concat, segments}
use Rattle.snesl.specs.Text.{before, read_items, read_int, read_bool, read_element, read_value}
use Rattle.decimals.specs.Numbers.{pick, int_at, int_read}
use Rattle.valuetext.specs.Laying.{cells, lay, advance, Under, Apart}
use Rattle.valuetext.specs.Reading.{opening_at, after_at, cell, scalar_read, scalar_at, bool_at, ints_in, Clear, measuring, filling, Ready, Laid, ReadAs, read_no, read-bytes}
use Rattle.valuetext.specs.declared.reading.Opening.TheVariants.{Empty, Items, No as NoList}
use Rattle.valuetext.specs.declared.reading.After.{After}
use Rattle.valuetext.specs.declared.reading.After.TheVariants.{Comma, Close, Else}
use Rattle.laws.proofs.Options.{some_pair}
use Rattle.decimals.proofs.Stores.{sets-append, sets-none}
use Rattle.decimals.proofs.IntText.{IntRead, int-read}
use Rattle.valuetext.proofs.Laying.{cells-none, cells-one, length-advance, advance-set, advance-append, under_back, under-front, apart-set, apart-front, apart-back, lay-set, lay-none, lay-sets, lay-append}

-- a byte other than 0 lies within the text
present : (t : List ℕ) (i : ℕ) {x : ℕ} → get_or t i 0 ≡ x → 0 < x → i < length t
present [] zero e h = absurd (omega arith)
present [] (suc i) e h = absurd (omega arith)
present (b ∷ t) zero e h = omega arith
present (b ∷ t) (suc i) e h = let p : i < length t = present t i e h in omega arith

-- a cursor that moves by one
grown-set : (cs : List ℕ) (j i : ℕ) → get_or (set cs j (get_or cs j 0 + 1)) i 0 ≤ get_or cs i 0 + 1
grown-set [] j i = omega arith
grown-set (c ∷ cs) zero zero = omega arith
grown-set (c ∷ cs) zero (suc i) = omega arith
grown-set (c ∷ cs) (suc j) zero = omega arith
grown-set (c ∷ cs) (suc j) (suc i) = grown-set cs j i

-- ---- nothing laid

lay-nothing : (β : Base) (d : ℕ) (b : List ℤ) (cs : List ℕ) → lay β d b cs [] ≡ b
unfolding lay concat segments
lay-nothing β zero b cs = ap (sets b (get_or cs 0 0)) (cells-none β)
lay-nothing β (suc d) b cs = lay-nothing β d b cs

pub advance-nothing : (β : Base) (d : ℕ) (cs : List ℕ) → advance β d cs [] ≡ cs
unfolding advance concat segments
advance-nothing β zero cs = let e : get_or cs 0 0 + 0 ≡ get_or cs 0 0 = omega arith in rw e (set-get_or cs 0 0)
advance-nothing β (suc d) cs =
    let e : get_or cs (suc d) 0 + 0 ≡ get_or cs (suc d) 0 = omega arith in
    rw (e, advance-nothing β d cs) (set-get_or cs (suc d) 0)

length-lay : (β : Base) (d : ℕ) (b : List ℤ) (cs : List ℕ) (vs : List (Val (type_of β d))) → length (lay β d b cs vs) ≡ length b
unfolding lay
length-lay β zero b cs vs = length-sets b (get_or cs 0 0) (cells β vs)
length-lay β (suc d) b cs vs =
    length-sets (lay β d b cs (concat vs)) (get_or cs (suc d) 0) (map bit (segments vs)) ∙ length-lay β d b cs (concat vs)

-- ---- a scalar

-- what is read at the front of a text, with its element
record Scalar (β : Base) (t : List ℕ) (z : ℤ) (k : ℕ) : Type 0 where
  pub value : Element β
  pub reads : read_element β t ≡ some (value, k)
  pub is : z ≡ cell β value
  pub fits : SFits w32 z
  pub some_bytes : 0 < k
  pub inside : k ≤ length t

int-scalar : {t : List ℕ} {z : ℤ} {k : ℕ} → read_int t ≡ some (z, k) → Scalar base.Int t z k
int-scalar {t} {z} {k} r =
    let i : IntRead t z k = int-read t z k r in
    record { value = z; reads = r; is = refl; fits = i.fits; some_bytes = i.some_bytes; inside = i.inside }

bit-fits : (c : Bool) → SFits w32 (bit c)
bit-fits false = record { sfits = omega arith }
bit-fits true = record { sfits = omega arith }

-- a bool is one byte
bool-byte : (t : List ℕ) (r : Bool × ℕ) → read_bool t ≡ some r → (r.1 ≡ 1) × (1 ≤ length t)
bool-byte t r e = go (eqb (get_or t 0 0) 84) refl (eqb (get_or t 0 0) 70) refl e
  where
    go : (p : Bool) → eqb (get_or t 0 0) 84 ≡ p → (q : Bool) → eqb (get_or t 0 0) 70 ≡ q
        → ◌≡◌ {A = Option (Bool × ℕ)} (elim p [ true ↦ some (true, 1) | false ↦ elim q [ true ↦ some (false, 1) | false ↦ none ] ]) (some r)
        → (r.1 ≡ 1) × (1 ≤ length t)
    go true u q v e' = (sym (some_pair _ _ _ _ e').1, present t 0 (eqb-true (get_or t 0 0) 84 u) (omega arith))
    go false u true v e' = (sym (some_pair _ _ _ _ e').1, present t 0 (eqb-true (get_or t 0 0) 70 v) (omega arith))
    go false u false v e' = cc

scalar-of : (β : Base) {t : List ℕ} {z : ℤ} {k : ℕ} → scalar_at β t ≡ Some (z, k) → Scalar β t z k
scalar-of base.Int {t} {z} {k} e = go (read_int t) refl e
  where
    go : (o : Option (ℤ × ℕ)) → read_int t ≡ o → scalar_read base.Int o ≡ Some (z, k) → Scalar base.Int t z k
    go none h e' = cc
    go (some r) h e' = let (p, q) = some_pair_parts _ _ _ _ e' in int-scalar (h ∙ (λ i. some (p i, q i)))
scalar-of base.Bool {t} {z} {k} e = go (read_bool t) refl e
  where
    go : (o : Option (Bool × ℕ)) → read_bool t ≡ o → scalar_read base.Bool o ≡ Some (z, k) → Scalar base.Bool t z k
    go none h e' = cc
    go (some r) h e' =
        let (p, q) = some_pair_parts _ _ _ _ e' in
        let w = bool-byte t r h in
        record {
          value = r.0;
          reads = h ∙ (λ i. some (r.0, q i));
          is = sym p;
          fits = subst (SFits w32) p (bit-fits r.0);
          some_bytes = omega (arith, w.0, q);
          inside = omega (arith, w.0, w.1, q);
        }

no-scalar-of : (β : Base) (o : Option (Element β × ℕ)) → scalar_read β o ≡ None → o ≡ none
no-scalar-of β none e = refl
no-scalar-of β (some r) e = cc

-- an int is read as decimals reads it
pub int_at_lem : (t : List ℕ) → int_at t ≡ scalar_at base.Int t
int_at_lem t = go (read_int t)
  where
    go : (o : Option (ℤ × ℕ)) → int_read o ≡ scalar_read base.Int o
    go none = refl
    go (some r) = refl

pub int-at-base : {β : Base} (t : List ℕ) → β ≡ base.Int → int_at t ≡ scalar_at β t
int-at-base t p = subst (λ (β : Base). int_at t ≡ scalar_at β t) (sym p) (int_at_lem t)

pub bool-at-base : {β : Base} (t : List ℕ) → β ≡ base.Bool → bool_at t ≡ scalar_at β t
bool-at-base t p = ap (λ (β : Base). scalar_at β t) (sym p)

-- what is told of a list of ints
pub ints-in : {β : Base} (d : ℕ) → β ≡ base.Int → eqb d 1 ≡ ints_in β d
ints-in d p = ap (λ (β : Base). ints_in β d) (sym p)

pub bools-in : {β : Base} (d : ℕ) → β ≡ base.Bool → false ≡ ints_in β d
bools-in d p = ap (λ (β : Base). ints_in β d) (sym p)

pub ints-told : (β : Base) (d : ℕ) → ints_in β d ≡ true → (β ≡ base.Int) × (d ≡ 1)
ints-told base.Int d e = (refl, eqb-true d 1 e)
ints-told base.Bool d e = cc

module _ {β : Base} {t : List ℕ} where
  pub leaf-scalar : {b b' : List ℤ} {cs cs' : List ℕ} {z : ℤ} {k : ℕ} → scalar_at β t ≡ Some (z, k)
      → b' ≡ set b (get_or cs 0 0) (to_z w32 (of_z w32 z)) → cs' ≡ set cs 0 (get_or cs 0 0 + 1) → ReadAs β 0 t b b' cs cs' (Some k)
  unfolding read_value lay advance
  leaf-scalar {b} {b'} {cs} {cs'} {z} {k} e p q =
      let i : Scalar β t z k = scalar-of β e in
      read-bytes
      (record {
        value = i.value;
        reads = i.reads;
        content =
            p
            ∙ ap (set b (get_or cs 0 0)) (to_z-of_z i.fits ∙ i.is)
            ∙ ap (sets b (get_or cs 0 0)) (sym (cells-one β i.value));
        cursors = q;
        inside = i.inside;
        grown = λ j. omega (arith, grown-set cs 0 j, i.some_bytes, ap (λ (l : List ℕ). get_or l j 0) q);
      })

  pub leaf-no : {b b' : List ℤ} {cs cs' : List ℕ} {r : RustOption ℕ} → scalar_at β t ≡ None → r ≡ None → ReadAs β 0 t b b' cs cs' r
  unfolding read_value
  leaf-no {b} {b'} {cs} {cs'} e p = subst (ReadAs β 0 t b b' cs cs') (sym p) (read_no (no-scalar-of β (read_element β t) e))

  pub leaf-ready : {b : List ℤ} {cs : List ℕ} {z : ℤ} {k : ℕ} → Ready β 0 t b cs → scalar_at β t ≡ Some (z, k) → (0 < length cs) × (get_or cs 0 0 + 1 < 2 ^ 64)
  leaf-ready {b} {cs} {z} {k} a e =
      let i : Scalar β t z k = scalar-of β e in
      (a.levels, omega (arith, a.counts 0 (omega arith), i.some_bytes, i.inside))

-- ---- a list's opening

module _ (β : Base) (d : ℕ) (t : List ℕ) where
  pub opens-empty : Empty ≡ opening_at t → read_value (type_of β (suc d)) t ≡ some ([], 2)
  unfolding read_value
  opens-empty e = go (eqb (get_or t 0 0) 123) (eqb (get_or t 1 0) 125) e
    where
      go : (p q : Bool) → Empty ≡ pick p (pick q Empty Items) NoList
          → ◌≡◌ {A = Option (List (Val (type_of β d)) × ℕ)}
          (elim p [ true ↦ elim q [ true ↦ some ([], 2) | false ↦ read_items (read_value (type_of β d)) (length t) t 1 ] | false ↦ none ]) (some ([], 2))
      go true true e' = refl
      go true false e' = cc
      go false q e' = cc

  pub opens-items : Items ≡ opening_at t → read_value (type_of β (suc d)) t ≡ read_items (read_value (type_of β d)) (length t) t 1
  unfolding read_value
  opens-items e = go (eqb (get_or t 0 0) 123) (eqb (get_or t 1 0) 125) e
    where
      go : (p q : Bool) → Items ≡ pick p (pick q Empty Items) NoList
          → ◌≡◌ {A = Option (List (Val (type_of β d)) × ℕ)}
          (elim p [ true ↦ elim q [ true ↦ some ([], 2) | false ↦ read_items (read_value (type_of β d)) (length t) t 1 ] | false ↦ none ])
          (read_items (read_value (type_of β d)) (length t) t 1)
      go true true e' = cc
      go true false e' = refl
      go false q e' = cc

  pub opens-no : NoList ≡ opening_at t → read_value (type_of β (suc d)) t ≡ none
  unfolding read_value
  opens-no e = go (eqb (get_or t 0 0) 123) (eqb (get_or t 1 0) 125) e
    where
      go : (p q : Bool) → NoList ≡ pick p (pick q Empty Items) NoList
          → ◌≡◌ {A = Option (List (Val (type_of β d)) × ℕ)}
          (elim p [ true ↦ elim q [ true ↦ some ([], 2) | false ↦ read_items (read_value (type_of β d)) (length t) t 1 ] | false ↦ none ]) none
      go true true e' = cc
      go true false e' = cc
      go false q e' = refl

opens-two : (t : List ℕ) → Empty ≡ opening_at t → 2 ≤ length t
opens-two t e = go (eqb (get_or t 0 0) 123) (eqb (get_or t 1 0) 125) refl e
  where
    go : (p q : Bool) → eqb (get_or t 1 0) 125 ≡ q → Empty ≡ pick p (pick q Empty Items) NoList → 2 ≤ length t
    go true true h e' = present t 1 (eqb-true (get_or t 1 0) 125 h) (omega arith)
    go true false h e' = cc
    go false q h e' = cc

opens_one : (t : List ℕ) → Items ≡ opening_at t → 1 ≤ length t
opens_one t e = go (eqb (get_or t 0 0) 123) (eqb (get_or t 1 0) 125) refl e
  where
    go : (p q : Bool) → eqb (get_or t 0 0) 123 ≡ p → Items ≡ pick p (pick q Empty Items) NoList → 1 ≤ length t
    go true q h e' = present t 0 (eqb-true (get_or t 0 0) 123 h) (omega arith)
    go false q h e' = cc

-- ---- an empty list

module _ {β : Base} {d : ℕ} {t : List ℕ} {b : List ℤ} {cs : List ℕ} (e : Empty ≡ opening_at t) where
  pub empty-ready : Ready β (suc d) t b cs → (suc d < length cs) × (get_or cs (suc d) 0 + 1 < 2 ^ 64)
  empty-ready a = (a.levels, omega (arith, a.counts (suc d) (omega arith), opens-two t e))

  pub empty-list : {b' : List ℤ} {cs' : List ℕ} → b' ≡ set b (get_or cs (suc d) 0) (pos 1) → cs' ≡ set cs (suc d) (get_or cs (suc d) 0 + 1)
      → ReadAs β (suc d) t b b' cs cs' (Some 2)
  unfolding lay advance concat segments
  empty-list {b'} {cs'} p q =
      read-bytes
      (record {
        value = [];
        reads = opens-empty β d t e;
        content = p ∙ ap (λ (l : List ℤ). set l (get_or cs (suc d) 0) (pos 1)) (sym (lay-nothing β d b cs));
        cursors = q ∙ ap (λ (l : List ℕ). set l (suc d) (get_or cs (suc d) 0 + 1)) (sym (advance-nothing β d cs));
        inside = opens-two t e;
        grown = λ i. omega (arith, grown-set cs (suc d) i, ap (λ (l : List ℕ). get_or l i 0) q);
      })

-- ---- items: vs are read, and k is where the next one begins

module _ {A : Type 0} where
  -- items in front of those that are still to be read
  abbrev pub appended : List A → Option (List A × ℕ) → Option (List A × ℕ)
  appended vs none = none
  appended vs (some r) = some (vs ++ r.0, r.1)

  appended-nil : (o : Option (List A × ℕ)) → appended [] o ≡ o
  appended-nil none = refl
  appended-nil (some r) = refl

  appended-before : (vs : List A) (x : A) (o : Option (List A × ℕ)) → appended vs (before x o) ≡ appended (vs ++ x ∷ []) o
  appended-before vs x none = refl
  appended-before vs x (some r) = ap (λ (l : List A). some (l, r.1)) (sym (append_assoc vs (x ∷ []) r.0))

  unappended : (vs ws : List A) (j : ℕ) (o : Option (List A × ℕ)) → appended vs o ≡ some (ws, j)
      → (us : List A) × (o ≡ some (us, j)) × (ws ≡ vs ++ us)
  unappended vs ws j none e = cc
  unappended vs ws j (some r) e =
      let p : vs ++ r.0 ≡ ws = (some_pair _ _ _ _ e).0 in
      let q : r.1 ≡ j = (some_pair _ _ _ _ e).1 in
      (r.0, (λ i. some (r.0, q i)), sym p)

  -- what an item and the byte behind it make of the items after it
  abbrev pub followed : After → A → ℕ → Option (List A × ℕ) → Option (List A × ℕ)
  followed Comma x j rest = before x rest
  followed Close x j rest = some (x ∷ [], j)
  followed Else x j rest = none

  module _ (item : List ℕ → Option (A × ℕ)) (m : ℕ) (t : List ℕ) (k : ℕ) where
    items-none : item (drop k t) ≡ none → read_items item (suc m) t k ≡ none
    unfolding read_items
    items-none e = rw (e, read_items)

    items-some : (x : A) (n : ℕ) → item (drop k t) ≡ some (x, n)
        → read_items item (suc m) t k ≡ followed (after_at t (k + n)) x (k + n + 1) (read_items item m t (k + n + 1))
    unfolding read_items
    items-some x n e = rw (e, read_items) (go (eqb (get_or t (k + n) 0) 44) (eqb (get_or t (k + n) 0) 125))
      where
        go : (p q : Bool)
            → ◌≡◌ {A = Option (List A × ℕ)}
            (elim p [
              | true ↦ before x (read_items item m t (k + n + 1))
              | false ↦ elim q [ true ↦ some (x ∷ [], k + n + 1) | false ↦ none ]
            ])
            (followed (pick p Comma (pick q Close Else)) x (k + n + 1) (read_items item m t (k + n + 1)))
        go true q = refl
        go false true = refl
        go false false = refl

    -- the first of the items that are read
    first-item : (us : List A) (j : ℕ) → read_items item (suc m) t k ≡ some (us, j)
        → (x : A) × (n : ℕ) × (rest : List A) × (item (drop k t) ≡ some (x, n)) × (us ≡ x ∷ rest)
    first-item us j e = go (item (drop k t)) refl
      where
        deep : (x : A) (n : ℕ) (a : After) (o : Option (List A × ℕ)) → followed a x (k + n + 1) o ≡ some (us, j) → (rest : List A) × (us ≡ x ∷ rest)
        deep x n Comma none e' = cc
        deep x n Comma (some r) e' = let p : x ∷ r.0 ≡ us = (some_pair _ _ _ _ e').0 in (r.0, sym p)
        deep x n Close o e' = let p : x ∷ [] ≡ us = (some_pair _ _ _ _ e').0 in ([], sym p)
        deep x n Else o e' = cc

        go : (o : Option (A × ℕ)) → item (drop k t) ≡ o
            → (x : A) × (n : ℕ) × (rest : List A) × (item (drop k t) ≡ some (x, n)) × (us ≡ x ∷ rest)
        go none h = cc (items-none h)
        go (some r) h =
            let q : (rest : List A) × (us ≡ r.0 ∷ rest) =
            deep r.0 r.1 (after_at t (k + r.1)) (read_items item m t (k + r.1 + 1)) (sym (items-some r.0 r.1 h) ∙ e) in
            (r.0, r.1, q.0, h, q.1)

-- ---- the loop of the list reader

zeros-more : (n : ℕ) → replicate n (pos 0) ++ pos 0 ∷ [] ≡ replicate (n + 1) (pos 0)
zeros-more n = replicate-append-replicate n 1 (pos 0)

-- n F's and a T, as they stand in a buffer
flags_of : (n : ℕ) → map bit (replicate n false ++ true ∷ []) ≡ replicate n (pos 0) ++ pos 1 ∷ []
flags_of zero = refl
flags_of (suc n) = ap (λ (l : List ℤ). pos 0 ∷ l) (flags_of n)

-- The items vs are laid, each an F in the list's own flags, and the next one begins at k.
pub record Listing (β : Base) (d : ℕ) (t : List ℕ) (b b' : List ℤ) (cs cs' : List ℕ) (k : ℕ) : Type 0 where
  pub ready : Ready β (suc d) t b cs
  pub items : List (Val (type_of β d))
  pub most : ℕ
  pub enough : length t < k + most
  pub whole : read_value (type_of β (suc d)) t ≡ appended items (read_items (read_value (type_of β d)) most t k)
  pub content : b' ≡ sets (lay β d b cs items) (get_or cs (suc d) 0) (replicate (length items) (pos 0))
  pub cursors : cs' ≡ set (advance β d cs items) (suc d) (get_or cs (suc d) 0 + length items)
  pub grown : (i : ℕ) → get_or cs' i 0 + 1 ≤ get_or cs i 0 + k
  pub inside : k ≤ length t

pub listing_start : {β : Base} {d : ℕ} {t : List ℕ} {b : List ℤ} {cs : List ℕ} → Ready β (suc d) t b cs → Items ≡ opening_at t → Listing β d t b b cs cs 1
listing_start {β} {d} {t} {b} {cs} a e =
    let z : get_or cs (suc d) 0 + 0 ≡ get_or cs (suc d) 0 = omega arith in
    record {
      ready = a;
      items = [];
      most = length t;
      enough = omega arith;
      whole = opens-items β d t e ∙ sym (appended-nil (read_items (read_value (type_of β d)) (length t) t 1));
      content = sym (lay-nothing β d b cs);
      cursors =
          sym
          (ap₂ (λ (l : List ℕ) (n : ℕ). set l (suc d) n) (advance-nothing β d cs) z ∙ set-get_or cs (suc d) 0);
      grown = λ i. omega arith;
      inside = opens_one t e;
    }

-- laying is clear for these items at the level below a list's flags
Free : (β : Base) (d : ℕ) → List ℤ → List ℕ → List (Val (type_of β d)) → Type 0
Free β d b cs vs = (length b ≡ 0) ⊎ (Apart β d cs vs × Under β d cs vs (get_or cs (suc d) 0))

nothing : {A : Type 0} (l : List A) → length l ≡ 0 → l ≡ []
nothing [] e = refl
nothing (x ∷ l) e = absurd (omega arith)

free-front : (β : Base) (d : ℕ) (b : List ℤ) (cs : List ℕ) (vs ws : List (Val (type_of β d))) → Free β d b cs (vs ++ ws) → Free β d b cs vs
unfolding Free
free-front β d b cs vs ws (inl e) = inl e
free-front β d b cs vs ws (inr p) = inr (apart-front β d cs vs ws p.0, under-front β d cs vs ws (get_or cs (suc d) 0) p.1)

-- one item more, under flags that are written already
lay-item : (β : Base) (d : ℕ) (b : List ℤ) (cs : List ℕ) (vs : List (Val (type_of β d))) (x : Val (type_of β d)) (s : List ℤ) (y : ℕ) → d < length cs → Free β d b cs (vs ++ x ∷ [])
    → lay β d (sets (lay β d b cs vs) (get_or cs (suc d) 0) s) (set (advance β d cs vs) (suc d) y) (x ∷ [])
    ≡ sets (lay β d b cs (vs ++ x ∷ [])) (get_or cs (suc d) 0) s
unfolding Free
lay-item β d b cs vs x s y h (inl e) =
    let c : ℕ = get_or cs (suc d) 0 in
    let n : b ≡ [] = nothing b e in
    ap (λ (l : List ℤ). lay β d (sets (lay β d l cs vs) c s) (set (advance β d cs vs) (suc d) y) (x ∷ [])) n
    ∙ ap (λ (l : List ℤ). lay β d (sets l c s) (set (advance β d cs vs) (suc d) y) (x ∷ [])) (lay-none β d cs vs)
    ∙ ap (λ (l : List ℤ). lay β d l (set (advance β d cs vs) (suc d) y) (x ∷ [])) (sets-none c s)
    ∙ lay-none β d (set (advance β d cs vs) (suc d) y) (x ∷ [])
    ∙ sym (sets-none c s)
    ∙ ap (λ (l : List ℤ). sets l c s) (sym (lay-none β d cs (vs ++ x ∷ [])))
    ∙ ap (λ (l : List ℤ). sets (lay β d l cs (vs ++ x ∷ [])) c s) (sym n)
lay-item β d b cs vs x s y h (inr p) =
    let c : ℕ = get_or cs (suc d) 0 in
    lay-set β d (suc d) y (sets (lay β d b cs vs) c s) (advance β d cs vs) (x ∷ []) (omega arith)
    ∙ lay-sets β d (lay β d b cs vs) (advance β d cs vs) (x ∷ []) c s (under_back β d cs vs (x ∷ []) c h p.1)
    ∙ ap (λ (l : List ℤ). sets l c s) (lay-append β d b cs vs (x ∷ []) h p.0)

-- the items of a list whose text was read before
free-list : (β : Base) (d : ℕ) (t : List ℕ) (b : List ℤ) (cs : List ℕ) (vs : List (Val (type_of β d))) (m k : ℕ) → Clear β (suc d) t b cs
    → read_value (type_of β (suc d)) t ≡ appended vs (read_items (read_value (type_of β d)) (suc m) t k)
    → (length b ≡ 0) ⊎ ((x : Val (type_of β d)) × (n : ℕ) × (read_value (type_of β d) (drop k t) ≡ some (x, n)) × Free β d b cs (vs ++ x ∷ []))
unfolding Free Apart concat
free-list β d t b cs vs m k (measuring e) w = inl e
free-list β d t b cs vs m k (filling {v = ws} {k = j} r p) w =
    let (us, o, q) = unappended vs ws j (read_items (read_value (type_of β d)) (suc m) t k) (sym w ∙ r) in
    let (x, n, rest, h, f) = first-item (read_value (type_of β d)) m t k us j o in
    let e : ws ++ [] ≡ (vs ++ x ∷ []) ++ rest =
    append-nil ws ∙ q ∙ ap (λ (l : List (Val (type_of β d))). vs ++ l) f ∙ sym (append_assoc vs (x ∷ []) rest) in
    let g : Free β d b cs ((vs ++ x ∷ []) ++ rest) =
    inr (subst (Apart β d cs) e p.0, subst (λ (l : List (Val (type_of β d))). Under β d cs l (get_or cs (suc d) 0)) e p.1) in
    inr (x, n, h, free-front β d b cs (vs ++ x ∷ []) rest g)

-- the text of an item is ready
module _ {β : Base} {d : ℕ} {t : List ℕ} {b b' : List ℤ} {cs cs' : List ℕ} {k : ℕ} (a : Listing β d t b b' cs cs' k) where
  fuel : (m : ℕ) × (a.most ≡ suc m)
  fuel = go a.most a.enough
    where
      go : (m : ℕ) → length t < k + m → (j : ℕ) × (m ≡ suc j)
      go zero h = absurd (omega (arith, a.inside))
      go (suc m) h = (m, refl)

  reads_on : read_value (type_of β (suc d)) t ≡ appended a.items (read_items (read_value (type_of β d)) (suc fuel.0) t k)
  reads_on = a.whole ∙ ap (λ (m : ℕ). appended a.items (read_items (read_value (type_of β d)) m t k)) fuel.1

  free : (length b ≡ 0) ⊎ ((x : Val (type_of β d)) × (n : ℕ) × (read_value (type_of β d) (drop k t) ≡ some (x, n)) × Free β d b cs (a.items ++ x ∷ []))
  free = free-list β d t b cs a.items fuel.0 k a.ready.clear reads_on

  below : d < length cs
  below = omega (arith, a.ready.levels)

  pub listing-lengths : (length b' ≡ length b) × (length cs' ≡ length cs)
  listing-lengths = (
    ap length a.content
        ∙ length-sets (lay β d b cs a.items) (get_or cs (suc d) 0) (replicate (length a.items) (pos 0))
        ∙ length-lay β d b cs a.items,
    ap length a.cursors
        ∙ length-set (advance β d cs a.items) (suc d) (get_or cs (suc d) 0 + length a.items)
        ∙ length-advance β d cs a.items,
  )

  item-clear : Clear β d (drop k t) b' cs'
  unfolding Free
  item-clear = go free
    where
      go : (length b ≡ 0) ⊎ ((x : Val (type_of β d)) × (n : ℕ) × (read_value (type_of β d) (drop k t) ≡ some (x, n)) × Free β d b cs (a.items ++ x ∷ [])) → Clear β d (drop k t) b' cs'
      go (inl e) = measuring (listing-lengths.0 ∙ e)
      go (inr (x, n, h, inl e)) = measuring (listing-lengths.0 ∙ e)
      go (inr (x, n, h, inr p)) =
          filling h
          (subst (λ (l : List ℕ). Apart β d l (x ∷ [])) (sym a.cursors)
          (apart-set β d (suc d) (get_or cs (suc d) 0 + length a.items) (advance β d cs a.items) (x ∷ []) (omega arith)
          (apart-back β d cs a.items (x ∷ []) below p.0)))

  pub item-ready : Ready β d (drop k t) b' cs'
  item-ready =
      record {
        levels = omega (arith, a.ready.levels, listing-lengths.1);
        counts = λ i h. omega (arith, a.ready.counts i (omega arith), a.grown i, length-drop k t, a.inside);
        clear = item-clear;
      }

-- the item x at k, of n bytes, is laid too, and its F written
pub record Item (β : Base) (d : ℕ) (t : List ℕ) (b b' : List ℤ) (cs cs' : List ℕ) (k n : ℕ) : Type 0 where
  pub ready : Ready β (suc d) t b cs
  pub items : List (Val (type_of β d))
  pub item : Val (type_of β d)
  pub most : ℕ
  pub enough : length t < k + suc most
  pub whole : read_value (type_of β (suc d)) t ≡ appended items (read_items (read_value (type_of β d)) (suc most) t k)
  pub reads : read_value (type_of β d) (drop k t) ≡ some (item, n)
  pub content : b' ≡ sets (lay β d b cs (items ++ item ∷ [])) (get_or cs (suc d) 0) (replicate (length (items ++ item ∷ [])) (pos 0))
  pub cursors : cs' ≡ set (advance β d cs (items ++ item ∷ [])) (suc d) (get_or cs (suc d) 0 + length (items ++ item ∷ []))
  pub grown : (i : ℕ) → get_or cs' i 0 + 1 ≤ get_or cs i 0 + (k + n + 1)
  pub inside : k + n ≤ length t

module _ {β : Base} {d : ℕ} {t : List ℕ} {b b' : List ℤ} {cs cs' : List ℕ} {k : ℕ} (a : Listing β d t b b' cs cs' k) where
  pub listing-no : {b₁ : List ℤ} {cs₁ : List ℕ} {r : RustOption ℕ} → read_value (type_of β d) (drop k t) ≡ none → r ≡ None → ReadAs β (suc d) t b b₁ cs cs₁ r
  listing-no {b₁} {cs₁} e p =
      subst (ReadAs β (suc d) t b b₁ cs cs₁) (sym p)
      (read_no (reads_on a ∙ ap (appended a.items) (items-none (read_value (type_of β d)) (fuel a).0 t k e)))

  free_of : {x : Val (type_of β d)} {n : ℕ} → read_value (type_of β d) (drop k t) ≡ some (x, n) → Free β d b cs (a.items ++ x ∷ [])
  unfolding Free
  free_of {x} {n} e = go (free a)
    where
      go : (length b ≡ 0) ⊎ ((y : Val (type_of β d)) × (m : ℕ) × (read_value (type_of β d) (drop k t) ≡ some (y, m)) × Free β d b cs (a.items ++ y ∷ []))
          → Free β d b cs (a.items ++ x ∷ [])
      go (inl z) = inl z
      go (inr (y, m, h, p)) = subst (λ (z : Val (type_of β d)). Free β d b cs (a.items ++ z ∷ [])) (some_pair _ _ _ _ (sym h ∙ e)).0 p

  module _ {b₁ : List ℤ} {cs₁ : List ℕ} {n : ℕ} (l : Laid β d (drop k t) b' b₁ cs' cs₁ n) where
    abbrev more : List (Val (type_of β d))
    more = a.items ++ l.value ∷ []

    cursors-after : cs₁ ≡ set (advance β d cs more) (suc d) ((get_or cs (suc d) 0) + length a.items)
    cursors-after =
        l.cursors
        ∙ ap (λ (c : List ℕ). advance β d c (l.value ∷ [])) a.cursors
        ∙ advance-set β d (suc d) ((get_or cs (suc d) 0) + length a.items) (advance β d cs a.items) (l.value ∷ []) (omega arith)
        ∙ ap (λ (c : List ℕ). set c (suc d) ((get_or cs (suc d) 0) + length a.items)) (advance-append β d cs a.items (l.value ∷ []) (below a))

    own-after : get_or cs₁ (suc d) 0 ≡ (get_or cs (suc d) 0) + length a.items
    own-after =
        ap (λ (c : List ℕ). get_or c (suc d) 0) cursors-after
        ∙ get_or-set_same (advance β d cs more) (suc d) ((get_or cs (suc d) 0) + length a.items) 0
        (subst (λ (m : ℕ). suc d < m) (sym (length-advance β d cs more)) a.ready.levels)

    pub flag-ready : (suc d < length cs₁) × (get_or cs₁ (suc d) 0 + 1 < 2 ^ 64)
    flag-ready = (
      omega (
        arith,
        ap length cursors-after,
        length-set (advance β d cs more) (suc d) ((get_or cs (suc d) 0) + length a.items),
        length-advance β d cs more,
        a.ready.levels,
      ),
      omega (
        arith,
        l.grown (suc d),
        a.grown (suc d),
        a.ready.counts (suc d) (omega arith),
        l.inside,
        length-drop k t,
        a.inside,
      ),
    )

    content-after : b₁ ≡ sets (lay β d b cs more) (get_or cs (suc d) 0) (replicate (length a.items) (pos 0))
    content-after =
        l.content
        ∙ ap₂ (λ (c : List ℤ) (e : List ℕ). lay β d c e (l.value ∷ [])) a.content a.cursors
        ∙ lay-item β d b cs a.items l.value (replicate (length a.items) (pos 0)) ((get_or cs (suc d) 0) + length a.items) (below a) (free_of l.reads)

    pub listing-item : {b₂ : List ℤ} {cs₂ : List ℕ} → b₂ ≡ set b₁ (get_or cs₁ (suc d) 0) (pos 0) → cs₂ ≡ set cs₁ (suc d) (get_or cs₁ (suc d) 0 + 1) → Item β d t b b₂ cs cs₂ k n
    listing-item {b₂} {cs₂} p q =
        let j : length more ≡ length a.items + 1 = length-append a.items (l.value ∷ []) in
        let r : (get_or cs (suc d) 0) + length a.items + 1 ≡ (get_or cs (suc d) 0) + length more = omega arith in
        record {
          ready = a.ready;
          items = a.items;
          item = l.value;
          most = (fuel a).0;
          enough = omega (arith, a.enough, (fuel a).1);
          whole = reads_on a;
          reads = l.reads;
          content =
              p
              ∙ ap₂ (λ (x : List ℤ) (c : ℕ). set x c (pos 0)) content-after
              (own-after ∙ ap (λ (m : ℕ). (get_or cs (suc d) 0) + m) (sym (length-replicate (length a.items) (pos 0))))
              ∙ sets-append (lay β d b cs more) (get_or cs (suc d) 0) (replicate (length a.items) (pos 0)) (pos 0 ∷ [])
              ∙ ap (sets (lay β d b cs more) (get_or cs (suc d) 0)) (zeros-more (length a.items) ∙ ap (λ (m : ℕ). replicate m (pos 0)) (sym j));
          cursors =
              q
              ∙ ap₂ (λ (c : List ℕ) (m : ℕ). set c (suc d) (m + 1)) cursors-after own-after
              ∙ set-set (advance β d cs more) (suc d) ((get_or cs (suc d) 0) + length a.items) ((get_or cs (suc d) 0) + length a.items + 1)
              ∙ ap (set (advance β d cs more) (suc d)) r;
          grown = λ i. omega (arith, ap (λ (c : List ℕ). get_or c i 0) q, grown-set cs₁ (suc d) i, l.grown i, a.grown i);
          inside = omega (arith, l.inside, length-drop k t, a.inside);
        }

module _ {β : Base} {d : ℕ} {t : List ℕ} {b b' : List ℤ} {cs cs' : List ℕ} {k n : ℕ} (a : Item β d t b b' cs cs' k n) where
  read-so : read_value (type_of β (suc d)) t ≡ appended a.items (followed (after_at t (k + n)) a.item (k + n + 1) (read_items (read_value (type_of β d)) a.most t (k + n + 1)))
  read-so = a.whole ∙ ap (appended a.items) (items-some (read_value (type_of β d)) a.most t k a.item n a.reads)

  after-as : (f : After) → f ≡ after_at t (k + n)
      → read_value (type_of β (suc d)) t ≡ appended a.items (followed f a.item (k + n + 1) (read_items (read_value (type_of β d)) a.most t (k + n + 1)))
  after-as f e =
      read-so
      ∙ ap (λ (g : After). appended a.items (followed g a.item (k + n + 1) (read_items (read_value (type_of β d)) a.most t (k + n + 1)))) (sym e)

  pub item-else : {b₁ : List ℤ} {cs₁ : List ℕ} → Else ≡ after_at t (k + n) → ReadAs β (suc d) t b b₁ cs cs₁ None
  item-else e = read_no (after-as Else e)

  -- what stands there is a comma or a brace, and no end
  item-inside : (f : After) → f ≡ after_at t (k + n) → (f ≡ Else → ⊥) → k + n < length t
  item-inside f e h = go (eqb (get_or t (k + n) 0) 44) refl (eqb (get_or t (k + n) 0) 125) refl e
    where
      go : (p : Bool) → eqb (get_or t (k + n) 0) 44 ≡ p → (q : Bool) → eqb (get_or t (k + n) 0) 125 ≡ q
          → f ≡ pick p Comma (pick q Close Else) → k + n < length t
      go true u q v e' = present t (k + n) (eqb-true (get_or t (k + n) 0) 44 u) (omega arith)
      go false u true v e' = present t (k + n) (eqb-true (get_or t (k + n) 0) 125 v) (omega arith)
      go false u false v e' = absurd (h e')

  pub comma-inside : Comma ≡ after_at t (k + n) → k + n < length t
  comma-inside e = item-inside Comma e (λ h. let z : ◌≡◌ {A = ℕ} 0 1 = cc in omega arith)

  pub close-inside : Close ≡ after_at t (k + n) → k + n < length t
  close-inside e = item-inside Close e (λ h. let z : ◌≡◌ {A = ℕ} 0 1 = cc in omega arith)

  pub item-comma : Comma ≡ after_at t (k + n) → Listing β d t b b' cs cs' (k + n + 1)
  item-comma e =
      record {
        ready = a.ready;
        items = a.items ++ a.item ∷ [];
        most = a.most;
        enough = omega (arith, a.enough);
        whole = after-as Comma e ∙ appended-before a.items a.item (read_items (read_value (type_of β d)) a.most t (k + n + 1));
        content = a.content;
        cursors = a.cursors;
        grown = a.grown;
        inside = omega (arith, comma-inside e);
      }

  pub item-comma-at : {j : ℕ} → Comma ≡ after_at t (k + n) → k + n + 1 ≡ j → Listing β d t b b' cs cs' j
  item-comma-at e p = subst (Listing β d t b b' cs cs') p (item-comma e)

  pub end-ready : Close ≡ after_at t (k + n) → (suc d < length cs') × (get_or cs' (suc d) 0 + 1 < 2 ^ 64)
  end-ready e = (
    omega (
      arith,
      ap length a.cursors,
      length-set (advance β d cs (a.items ++ a.item ∷ [])) (suc d) (get_or cs (suc d) 0 + length (a.items ++ a.item ∷ [])),
      length-advance β d cs (a.items ++ a.item ∷ []),
      a.ready.levels,
    ),
    omega (arith, a.grown (suc d), a.ready.counts (suc d) (omega arith), close-inside e),
  )

  pub item-close : {b₁ : List ℤ} {cs₁ : List ℕ} → Close ≡ after_at t (k + n)
      → b₁ ≡ set b' (get_or cs' (suc d) 0) (pos 1) → cs₁ ≡ set cs' (suc d) (get_or cs' (suc d) 0 + 1)
      → ReadAs β (suc d) t b b₁ cs cs₁ (Some (k + n + 1))
  unfolding lay advance concat segments
  item-close {b₁} {cs₁} e p q =
      let ws : List (Val (type_of β d)) = a.items ++ a.item ∷ [] in
      let c : ℕ = get_or cs (suc d) 0 in
      let g : get_or cs' (suc d) 0 ≡ c + length ws =
      ap (λ (x : List ℕ). get_or x (suc d) 0) a.cursors
      ∙ get_or-set_same (advance β d cs ws) (suc d) (c + length ws) 0
      (subst (λ (m : ℕ). suc d < m) (sym (length-advance β d cs ws)) a.ready.levels) in
      let s : length (segments (ws ∷ [])) ≡ length ws + 1 =
      length-append (replicate (length ws) false) (true ∷ []) ∙ ap (λ (m : ℕ). m + 1) (length-replicate (length ws) false) in
      let y : c + length ws + 1 ≡ c + length (segments (ws ∷ [])) = omega (arith, s) in
      read-bytes
      (record {
        value = ws;
        reads = after-as Close e;
        content =
            p
            ∙ ap₂ (λ (x : List ℤ) (m : ℕ). set x m (pos 1)) a.content
            (g ∙ ap (λ (m : ℕ). c + m) (sym (length-replicate (length ws) (pos 0))))
            ∙ sets-append (lay β d b cs ws) c (replicate (length ws) (pos 0)) (pos 1 ∷ [])
            ∙ ap₂ (λ (x : List (Val (type_of β d))) (f : List ℤ). sets (lay β d b cs x) c f) (sym (append-nil ws)) (sym (flags_of (length ws)));
        cursors =
            q
            ∙ ap₂ (λ (x : List ℕ) (m : ℕ). set x (suc d) (m + 1)) a.cursors g
            ∙ set-set (advance β d cs ws) (suc d) (c + length ws) (c + length ws + 1)
            ∙ ap₂ (λ (x : List (Val (type_of β d))) (m : ℕ). set (advance β d cs x) (suc d) m) (sym (append-nil ws)) y;
        inside = omega (arith, close-inside e);
        grown = λ i. omega (arith, ap (λ (x : List ℕ). get_or x i 0) q, grown-set cs' (suc d) i, a.grown i);
      })
