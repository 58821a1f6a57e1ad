-- How a value's text is written step by step: an int, a list's brace, its items with commas between, its closing brace.
use Prim.Native.Nat.{ℕ, zero, suc, ◌+◌, ◌*◌, ◌≤◌, ◌<◌, ◌^◌}
use mathlib.Core.Bool.{Bool, true, false}
use mathlib.Core.List.{List, [], ◌∷◌, ◌++◌, map, append_assoc, append-nil}
use mathlib.Core.Option.{some}
use mathlib.Core.Path.{◌≡◌, refl, sym, ap, ap₂, ◌∙◌, subst}
use native.Mathlib.Omega.{arith}
use lib.IntN.{ℤ, pos, negsuc}
use lib.Signed.{mag}
use lib.ListN.{length, get_or, set, replicate, length-append, length-set, length-replicate}
use lib.Seq.{get_or-set_same, set-set, set-get_or, length-sets}
use mir.Syntax.{w32}
use mir.Val.{SFits, to_z, of_z}
use mir.Facts.{to_z-of_z}
use Rattle.snesl.specs.declared.code.Base.{Base}
use Rattle.snesl.specs.declared.code.Base.TheVariants as base
use Rattle.snesl.specs.Values.{type_of, Element, Val}
use Rattle.snesl.specs.Streams.{bit}
use Rattle.snesl.specs.Representation.{concat, segments}
use Rattle.snesl.specs.Transducers.{bool_of, flag_of}
use Rattle.snesl.specs.Text.{show_int, show_bool, show_element, joined, show}
use Rattle.valuetext.specs.Laying.{cells, advance}
use Rattle.valuetext.specs.Reading.{cell}
use Rattle.rendering.specs.Standing.{StandsAt, Stands}
use Rattle.rendering.specs.Showing.{is_stop, letter_for, letter_of, scalar_text, size, Showable, Shown}
use Rattle.decimals.specs.Writing.{Writes}
use Rattle.decimals.proofs.Stores.{writes_nothing, writes_then}
use Rattle.flags.proofs.Stored.{zero_flag}
use Rattle.rendering.proofs.TextLength.{int-length, size-append}
use Rattle.valuetext.proofs.Laying.{length-advance, advance-set, advance-append}
use Rattle.valuetext.proofs.ReadingSteps.{advance-nothing}
use Rattle.rendering.proofs.Standing.{Head, scalar-head, stands_set, stands_on, own-flags, flag-item, flag-end, one_value}

-- for the value that stands there, it is so for whichever does
shown_of : {β : Base} {d : ℕ} {b : List ℤ} {cs cs' old new : List ℕ} {at next : ℕ} (v : Val (type_of β d)) (vs : List (Val (type_of β d))) → d < length cs → Stands β d b cs (v ∷ vs)
    → Writes old new at (show (type_of β d) v) next → cs' ≡ advance β d cs (v ∷ []) → next + 1 ≤ at + 22 * size β d (v ∷ []) → Shown β d b cs cs' old new at next
shown_of {β} {d} {b} {cs} {cs'} {old} {new} {at} {next} v vs h s w e k =
    record {
      written = λ u us t. subst (λ (x : Val (type_of β d)). Writes old new at (show (type_of β d) x) next) (one_value β d b cs v vs u us h s t) w;
      moved = λ u us t. subst (λ (x : Val (type_of β d)). cs' ≡ advance β d cs (x ∷ [])) (one_value β d b cs v vs u us h s t) e;
      bounded = λ u us t. subst (λ (x : Val (type_of β d)). next + 1 ≤ at + 22 * size β d (x ∷ [])) (one_value β d b cs v vs u us h s t) k;
    }

-- ---- a scalar

scalar-text : (β : Base) (v : Element β) → scalar_text β (cell β v) ≡ show_element β v
scalar-text base.Int v = refl
scalar-text base.Bool false = refl
scalar-text base.Bool true = refl

scalar-length : (β : Base) (z : ℤ) → mag z < 2147483648 → length (scalar_text β z) ≤ 21
scalar-length base.Int z h = int-length z h
scalar-length base.Bool z h = go (bool_of z)
  where
    go : (c : Bool) → length (show_bool c) ≤ 21
    go false = omega arith
    go true = omega arith

int-text : {β : Base} (z : ℤ) → β ≡ base.Int → show_int z ≡ scalar_text β z
int-text z p = ap (λ (x : Base). scalar_text x z) (sym p)

bool-text : {β : Base} (z : ℤ) → β ≡ base.Bool → letter_of z ∷ [] ≡ scalar_text β z
bool-text z p = go (bool_of z) ∙ ap (λ (x : Base). scalar_text x z) (sym p)
  where
    go : (c : Bool) → letter_for c ∷ [] ≡ show_bool c
    go false = refl
    go true = refl

module _ {β : Base} {z : ℤ} {old new : List ℕ} {at next : ℕ} (f : SFits w32 z) where
  pub int-written : β ≡ base.Int → Writes old new at (show_int (to_z w32 (of_z w32 z))) next → Writes old new at (scalar_text β z) next
  int-written p w = subst (λ (t : List ℕ). Writes old new at t next) (ap show_int (to_z-of_z f) ∙ int-text z p) w

  pub bool-written : {x : ℕ} → β ≡ base.Bool → x ≡ letter_of (to_z w32 (of_z w32 z)) → Writes old new at (x ∷ []) next → Writes old new at (scalar_text β z) next
  bool-written p q w =
      subst (λ (t : List ℕ). Writes old new at t next) (ap (λ (n : ℕ). n ∷ []) (q ∙ ap letter_of (to_z-of_z f)) ∙ bool-text z p) w

-- 0 is F, and all else is T
pub zero-letter : (z : ℤ) → SFits w32 z → of_z w32 z ≡ 0 → 70 ≡ letter_of z
zero-letter z h e = go z (zero_flag z h.sfits e)
  where
    go : (z : ℤ) → flag_of z ≡ some false → 70 ≡ letter_of z
    go (pos zero) q = refl
    go (pos (suc zero)) q = let x : ◌≡◌ {A = ℕ} 0 1 = cc in absurd (omega arith)
    go (pos (suc (suc n))) q = let x : ◌≡◌ {A = ℕ} 0 1 = cc in absurd (omega arith)
    go (negsuc n) q = let x : ◌≡◌ {A = ℕ} 0 1 = cc in absurd (omega arith)

pub other-letter : (z : ℤ) → (of_z w32 z ≡ 0 → ⊥) → 84 ≡ letter_of z
other-letter (pos zero) h = absurd (h refl)
other-letter (pos (suc n)) h = refl
other-letter (negsuc n) h = refl

module _ {β : Base} {b : List ℤ} {cs : List ℕ} {at : ℕ} (a : Showable β 0 b cs at) where
  pub leaf-head : Head b (get_or cs 0 0) (cell β a.value) (cells β a.rest)
  unfolding Stands
  leaf-head = scalar-head β b (get_or cs 0 0) a.value a.rest a.stands

  pub leaf-short : at + 1 < 2 ^ 32
  unfolding size
  leaf-short = omega (arith, a.short)

  pub leaf-shown : {cs' old new : List ℕ} {next : ℕ} → SFits w32 (get_or b (get_or cs 0 0) (pos 0))
      → Writes old new at (scalar_text β (to_z w32 (of_z w32 (get_or b (get_or cs 0 0) (pos 0))))) next → cs' ≡ set cs 0 (get_or cs 0 0 + 1)
      → Shown β 0 b cs cs' old new at next
  unfolding show advance size
  leaf-shown {cs'} {old} {new} {next} f w e =
      let p : Writes old new at (scalar_text β (get_or b (get_or cs 0 0) (pos 0))) next =
      subst (λ (z : ℤ). Writes old new at (scalar_text β z) next) (to_z-of_z f) w in
      shown_of a.value a.rest a.levels a.stands
      (subst (λ (t : List ℕ). Writes old new at t next) (ap (scalar_text β) leaf-head.is ∙ scalar-text β a.value) p)
      e
      (omega (arith, p.count, scalar-length β (get_or b (get_or cs 0 0) (pos 0)) f.sfits))

-- ---- a list

unlike : {X : Type 0} → true ≡ false → X
unlike e = let z : ◌≡◌ {A = ℕ} 0 1 = cc in absurd (omega arith)

module _ {β : Base} {d : ℕ} {b : List ℤ} {cs : List ℕ} {at : ℕ} (a : Showable β (suc d) b cs at) where
  own : StandsAt b (get_or cs (suc d) 0) (replicate (length a.value) (pos 0) ++ pos 1 ∷ map bit (segments a.rest))
  unfolding Stands
  own = subst (StandsAt b (get_or cs (suc d) 0)) (own-flags a.value a.rest) a.stands.1

-- the byte before the next item: a brace, or a comma once an item is written
abbrev pub mark_for : (opened : Bool) → ℕ
mark_for false = 123
mark_for true = 44

-- what is still to be written when these items are left
abbrev pub tail_text : (β : Base) (d : ℕ) → (opened : Bool) → List (Val (type_of β d)) → List ℕ
tail_text β d false [] = 123 ∷ 125 ∷ []
tail_text β d true [] = 125 ∷ []
tail_text β d false (x ∷ xs) = 123 ∷ (joined (map (show (type_of β d)) (x ∷ xs)) ++ 125 ∷ [])
tail_text β d true (x ∷ xs) = 44 ∷ (joined (map (show (type_of β d)) (x ∷ xs)) ++ 125 ∷ [])

tail-first : (β : Base) (d : ℕ) (opened : Bool) (x : Val (type_of β d)) (xs : List (Val (type_of β d)))
    → tail_text β d opened (x ∷ xs) ≡ (mark_for opened ∷ show (type_of β d) x) ++ tail_text β d true xs
unfolding joined
tail-first β d false x [] = refl
tail-first β d true x [] = refl
tail-first β d false x (y ∷ ys) = ap (λ (l : List ℕ). 123 ∷ l) (append_assoc (show (type_of β d) x) (44 ∷ joined (map (show (type_of β d)) (y ∷ ys))) (125 ∷ []))
tail-first β d true x (y ∷ ys) = ap (λ (l : List ℕ). 44 ∷ l) (append_assoc (show (type_of β d) x) (44 ∷ joined (map (show (type_of β d)) (y ∷ ys))) (125 ∷ []))

whole-text : (β : Base) (d : ℕ) (v : List (Val (type_of β d))) → show (type_of β (suc d)) v ≡ tail_text β d false v
unfolding show joined
whole-text β d [] = refl
whole-text β d (x ∷ xs) = refl

-- the flag that stands before these items: an F, or the T at their end
abbrev flag_before : {A : Type 0} → List A → ℤ
flag_before [] = pos 1
flag_before (x ∷ xs) = pos 0

-- The items `before` are written, and `items` are left.
pub record Enlisting (β : Base) (d : ℕ) (b : List ℤ) (cs cs' old new : List ℕ) (at next mark : ℕ) : Type 0 where
  pub showable : Showable β (suc d) b cs at
  pub opened : Bool
  pub marked : mark ≡ mark_for opened
  pub before : List (Val (type_of β d))
  pub items : List (Val (type_of β d))
  pub whole : showable.value ≡ before ++ items
  pub cursors : cs' ≡ set (advance β d cs before) (suc d) (get_or cs (suc d) 0 + length before)
  pub done : List ℕ
  pub text : show (type_of β (suc d)) showable.value ≡ done ++ tail_text β d opened items
  pub writes : Writes old new at done next
  pub spent : next ≤ at + 22 * size β d before

pub enlisting-start : {β : Base} {d : ℕ} {b : List ℤ} {cs old : List ℕ} {at : ℕ} → Showable β (suc d) b cs at → Enlisting β d b cs cs old old at at 123
enlisting-start {β} {d} {b} {cs} {old} {at} a =
    let z : get_or cs (suc d) 0 ≡ get_or cs (suc d) 0 + 0 = omega arith in
    record {
      showable = a;
      opened = false;
      marked = refl;
      before = [];
      items = a.value;
      whole = refl;
      cursors =
          sym (set-get_or cs (suc d) 0) ∙ ap₂ (λ (l : List ℕ) (n : ℕ). set l (suc d) n) (sym (advance-nothing β d cs)) z;
      done = [];
      text = whole-text β d a.value;
      writes = writes_nothing old at;
      spent = omega arith;
    }

module _ {β : Base} {d : ℕ} {b : List ℤ} {cs cs' old new : List ℕ} {at next mark : ℕ} (a : Enlisting β d b cs cs' old new at next mark) where
  lower : d < length cs
  lower = omega (arith, a.showable.levels)

  length-now : length cs' ≡ length cs
  length-now =
      ap length a.cursors
      ∙ length-set (advance β d cs a.before) (suc d) (get_or cs (suc d) 0 + length a.before)
      ∙ length-advance β d cs a.before

  pub enlisting-lengths : (length cs' ≡ length cs) × (length new ≡ length old)
  enlisting-lengths = (length-now, ap length a.writes.content ∙ length-sets old at a.done)

  count : length a.showable.value ≡ length a.before + length a.items
  count = ap length a.whole ∙ length-append a.before a.items

  -- the value's elements: those of the items, and its own flags
  size-whole : size β (suc d) (a.showable.value ∷ []) ≡ size β d a.before + size β d a.items + length a.showable.value + 1
  unfolding size concat segments
  size-whole =
      omega (
        arith,
        ap (size β d) (append-nil a.showable.value ∙ a.whole),
        size-append β d a.before a.items,
        length-append (replicate (length a.showable.value) false) (true ∷ []),
        length-replicate (length a.showable.value) false,
      )

  left : next + 22 * (size β d a.items + 1) < 2 ^ 32
  left = omega (arith, a.showable.short, size-whole, a.spent)

  own-now : get_or cs' (suc d) 0 ≡ get_or cs (suc d) 0 + length a.before
  own-now =
      ap (λ (l : List ℕ). get_or l (suc d) 0) a.cursors
      ∙ get_or-set_same (advance β d cs a.before) (suc d) (get_or cs (suc d) 0 + length a.before) 0
      (subst (λ (m : ℕ). suc d < m) (sym (length-advance β d cs a.before)) a.showable.levels)

  flag-now : (ys : List (Val (type_of β d))) → a.items ≡ ys
      → (get_or cs (suc d) 0 + length a.before < length b) × (is_stop (get_or b (get_or cs (suc d) 0 + length a.before) (pos 0)) ≡ is_stop (flag_before ys))
  flag-now [] q =
      let e : length a.showable.value ≡ length a.before = omega (arith, count, ap length q) in
      let k : (get_or cs (suc d) 0 + length a.showable.value < length b)
      × (get_or b (get_or cs (suc d) 0 + length a.showable.value) (pos 0) ≡ pos 1) =
      flag-end b (get_or cs (suc d) 0) (length a.showable.value) (map bit (segments a.showable.rest)) (own a.showable) in
      subst (λ (m : ℕ). (get_or cs (suc d) 0 + m < length b) × (is_stop (get_or b (get_or cs (suc d) 0 + m) (pos 0)) ≡ true)) e (k.0, ap is_stop k.1)
  flag-now (y ∷ ys) q =
      let k : (get_or cs (suc d) 0 + length a.before < length b) × (get_or b (get_or cs (suc d) 0 + length a.before) (pos 0) ≡ pos 0) =
      flag-item b (get_or cs (suc d) 0) (length a.showable.value) (length a.before) (map bit (segments a.showable.rest))
      (own a.showable) (omega (arith, count, ap length q)) in
      (k.0, ap is_stop k.1)

  pub flag-inside : (suc d < length cs') × (get_or cs' (suc d) 0 < length b)
  flag-inside = (omega (arith, a.showable.levels, length-now), omega (arith, own-now, (flag-now a.items refl).0))

  pub at_most : get_or cs' (suc d) 0 < length b
  at_most = flag-inside.1

  stop-now : is_stop (get_or b (get_or cs' (suc d) 0) (pos 0)) ≡ is_stop (flag_before a.items)
  stop-now = ap (λ (i : ℕ). is_stop (get_or b i (pos 0))) own-now ∙ (flag-now a.items refl).1

  module _ {cs₁ : List ℕ} (e : cs₁ ≡ set cs' (suc d) (get_or cs' (suc d) 0 + 1)) where
    cursors-then : cs₁ ≡ set (advance β d cs a.before) (suc d) (get_or cs (suc d) 0 + length a.before + 1)
    cursors-then =
        e
        ∙ ap₂ (λ (l : List ℕ) (n : ℕ). set l (suc d) (n + 1)) a.cursors own-now
        ∙ set-set (advance β d cs a.before) (suc d) (get_or cs (suc d) 0 + length a.before) (get_or cs (suc d) 0 + length a.before + 1)

    -- ---- at the end

    module _ (t : is_stop (get_or b (get_or cs' (suc d) 0) (pos 0)) ≡ true) where
      none_left : a.items ≡ []
      none_left = go a.items refl
        where
          go : (ys : List (Val (type_of β d))) → a.items ≡ ys → a.items ≡ []
          go [] q = q
          go (y ∷ ys) q = unlike (sym t ∙ stop-now ∙ ap (λ (l : List (Val (type_of β d))). is_stop (flag_before l)) q)

      pub end_short : next + 1 < 2 ^ 32
      end_short = omega (arith, left)

      ended : {new₁ : List ℕ} {end : ℕ} (w : List ℕ) → Writes new new₁ next w end → tail_text β d a.opened [] ≡ w → length w ≤ 2
          → Shown β (suc d) b cs cs₁ old new₁ at end
      unfolding advance concat segments
      ended {new₁} {end} w p q k =
          let v : List (Val (type_of β d)) = a.showable.value in
          let f : v ≡ a.before = a.whole ∙ ap (λ (l : List (Val (type_of β d))). a.before ++ l) none_left ∙ append-nil a.before in
          let x : show (type_of β (suc d)) v ≡ a.done ++ w =
          a.text
          ∙ ap (λ (l : List (Val (type_of β d))). a.done ++ tail_text β d a.opened l) none_left
          ∙ ap (λ (l : List ℕ). a.done ++ l) q in
          let g : length (segments (v ∷ [])) ≡ length v + 1 =
          length-append (replicate (length v) false) (true ∷ []) ∙ ap (λ (m : ℕ). m + 1) (length-replicate (length v) false) in
          let m : get_or cs (suc d) 0 + length a.before + 1 ≡ get_or cs (suc d) 0 + length (segments (v ∷ [])) = omega (arith, g, ap length f) in
          shown_of v a.showable.rest a.showable.levels a.showable.stands
          (subst (λ (z : List ℕ). Writes old new₁ at z end) (sym x) (writes_then a.writes p))
          (cursors-then ∙ ap₂ (λ (l : List (Val (type_of β d))) (n : ℕ). set (advance β d cs l) (suc d) n) (sym f ∙ sym (append-nil v)) m)
          (omega (arith, a.spent, p.count, size-whole))

      pub list-closed : {new₁ : List ℕ} {end : ℕ} → mark ≡ 44 → Writes new new₁ next (125 ∷ []) end → Shown β (suc d) b cs cs₁ old new₁ at end
      list-closed {new₁} {end} k p = go a.opened refl
        where
          go : (o : Bool) → a.opened ≡ o → Shown β (suc d) b cs cs₁ old new₁ at end
          go true q = ended (125 ∷ []) p (ap (λ (o : Bool). tail_text β d o []) q) (omega arith)
          go false q = absurd (omega (arith, a.marked, ap mark_for q))

      pub list-empty : {new₁ new₂ : List ℕ} {mid end : ℕ} → (mark ≡ 44 → ⊥) → Writes new new₁ next (123 ∷ []) mid → Writes new₁ new₂ mid (125 ∷ []) end
          → Shown β (suc d) b cs cs₁ old new₂ at end
      list-empty {new₁} {new₂} {mid} {end} k p r = go a.opened refl
        where
          go : (o : Bool) → a.opened ≡ o → Shown β (suc d) b cs cs₁ old new₂ at end
          go true q = absurd (k (a.marked ∙ ap mark_for q))
          go false q = ended (123 ∷ 125 ∷ []) (writes_then p r) (ap (λ (o : Bool). tail_text β d o []) q) (omega arith)

    -- ---- an item more

    module _ (t : is_stop (get_or b (get_or cs' (suc d) 0) (pos 0)) ≡ false) where
      next-item : (y : Val (type_of β d)) × (ys : List (Val (type_of β d))) × (a.items ≡ y ∷ ys)
      next-item = go a.items refl
        where
          go : (ys : List (Val (type_of β d))) → a.items ≡ ys → (y : Val (type_of β d)) × (ys : List (Val (type_of β d))) × (a.items ≡ y ∷ ys)
          go [] q = unlike (sym (ap (λ (l : List (Val (type_of β d))). is_stop (flag_before l)) q) ∙ sym stop-now ∙ t)
          go (y ∷ ys) q = (y, ys, q)

      abbrev item : Val (type_of β d)
      item = next-item.0

      abbrev behind : List (Val (type_of β d))
      behind = next-item.1

      tail-now : tail_text β d a.opened a.items ≡ (mark ∷ show (type_of β d) item) ++ tail_text β d true behind
      tail-now =
          ap (tail_text β d a.opened) next-item.2
          ∙ tail-first β d a.opened item behind
          ∙ ap (λ (m : ℕ). (m ∷ show (type_of β d) item) ++ tail_text β d true behind) (sym a.marked)

      short-now : next + 1 + 22 * size β d (item ∷ []) < 2 ^ 32
      short-now = omega (arith, left, ap (size β d) next-item.2, size-append β d (item ∷ []) behind)

      pub mark-short : next + 1 < 2 ^ 32
      mark-short = omega (arith, short-now)

      item-stands : Stands β d b cs₁ (item ∷ (behind ++ concat a.showable.rest))
      unfolding Stands concat
      item-stands =
          subst (λ (l : List ℕ). Stands β d b l (item ∷ (behind ++ concat a.showable.rest))) (sym cursors-then)
          (stands_set β d (suc d) (get_or cs (suc d) 0 + length a.before + 1) b (advance β d cs a.before)
          (item ∷ (behind ++ concat a.showable.rest)) (omega arith)
          (stands_on β d b cs a.before (item ∷ (behind ++ concat a.showable.rest)) lower
          (subst (Stands β d b cs)
          (ap (λ (l : List (Val (type_of β d))). l ++ concat a.showable.rest) (a.whole ∙ ap (λ (l : List (Val (type_of β d))). a.before ++ l) next-item.2)
          ∙ append_assoc a.before (item ∷ behind) (concat a.showable.rest))
          a.showable.stands.0)))

      module _ {new₁ : List ℕ} {next₁ : ℕ} (p : Writes new new₁ next (mark ∷ []) next₁) where
        pub item-showable : Showable β d b cs₁ next₁
        item-showable =
            record {
              value = item;
              rest = behind ++ concat a.showable.rest;
              stands = item-stands;
              levels =
                  omega (
                    arith,
                    ap length cursors-then,
                    length-set (advance β d cs a.before) (suc d) (get_or cs (suc d) 0 + length a.before + 1),
                    length-advance β d cs a.before,
                    lower,
                  );
              short = omega (arith, short-now, p.count);
            }

        module _ {cs₂ new₂ : List ℕ} {next₂ : ℕ} (s : Shown β d b cs₁ cs₂ new₁ new₂ next₁ next₂) where
          moved : cs₂ ≡ set (advance β d cs (a.before ++ item ∷ [])) (suc d) (get_or cs (suc d) 0 + length a.before + 1)
          moved =
              s.moved item (behind ++ concat a.showable.rest) item-stands
              ∙ ap (λ (l : List ℕ). advance β d l (item ∷ [])) cursors-then
              ∙ advance-set β d (suc d) (get_or cs (suc d) 0 + length a.before + 1) (advance β d cs a.before) (item ∷ []) (omega arith)
              ∙ ap (λ (l : List ℕ). set l (suc d) (get_or cs (suc d) 0 + length a.before + 1)) (advance-append β d cs a.before (item ∷ []) lower)

          pub enlisting-on : Enlisting β d b cs cs₂ old new₂ at next₂ 44
          enlisting-on =
              let m : get_or cs (suc d) 0 + length a.before + 1 ≡ get_or cs (suc d) 0 + length (a.before ++ item ∷ []) =
              omega (arith, length-append a.before (item ∷ [])) in
              record {
                showable = a.showable;
                opened = true;
                marked = refl;
                before = a.before ++ item ∷ [];
                items = behind;
                whole =
                    a.whole
                    ∙ ap (λ (l : List (Val (type_of β d))). a.before ++ l) next-item.2
                    ∙ sym (append_assoc a.before (item ∷ []) behind);
                cursors = moved ∙ ap (set (advance β d cs (a.before ++ item ∷ [])) (suc d)) m;
                done = a.done ++ mark ∷ show (type_of β d) item;
                text =
                    a.text
                    ∙ ap (λ (l : List ℕ). a.done ++ l) tail-now
                    ∙ sym (append_assoc a.done (mark ∷ show (type_of β d) item) (tail_text β d true behind));
                writes =
                    writes_then a.writes
                    (writes_then p (s.written item (behind ++ concat a.showable.rest) item-stands));
                spent =
                    omega (
                      arith,
                      a.spent,
                      p.count,
                      s.bounded item (behind ++ concat a.showable.rest) item-stands,
                      size-append β d a.before (item ∷ []),
                    );
              }

          -- the list's own cursor went on by one
          pub moved_on : get_or cs₂ (suc d) 0 ≡ get_or cs' (suc d) 0 + 1
          moved_on =
              ap (λ (l : List ℕ). get_or l (suc d) 0) moved
              ∙ get_or-set_same (advance β d cs (a.before ++ item ∷ [])) (suc d) (get_or cs (suc d) 0 + length a.before + 1) 0
              (subst (λ (m : ℕ). suc d < m) (sym (length-advance β d cs (a.before ++ item ∷ []))) a.showable.levels)
              ∙ ap (λ (m : ℕ). m + 1) (sym own-now)
