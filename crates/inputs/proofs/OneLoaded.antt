-- One input more: its streams stand behind those before it, and its binding's words are those of its tree.
use Prim.Native.Nat.{ℕ, zero, suc, ◌+◌, ◌*◌, ◌-◌, ◌≤◌, ◌<◌}
use mathlib.Core.Bool.{Bool, true, false}
use mathlib.Core.List.{List, [], ◌∷◌, ◌++◌, map, map-append, append_assoc}
use mathlib.Core.Option.{Option, some}
use mathlib.Core.Path.{◌≡◌, refl, sym, ap, ap₂, subst, ◌∙◌}
use native.Mathlib.Nat.{add-zero}
use native.Mathlib.Numerals.{add-one}
use native.Mathlib.Omega.{arith}
use borrow.Author.Tests.{leb-true, leb-false}
use lib.Dec.{leb}
use lib.IntN.{ℤ}
use lib.ListN.{length, get_or, set, take, drop, length-append, length-take}
use lib.Seq.{sets, sets-eq, length-sets, take_at, drop_at, length-take-le}
use Rattle.laws.specs.Parts.{written}
use Rattle.environment.specs.declared.machine.Machine.{Machine}
use Rattle.environment.specs.Words.{Place, place_words, tree_words, spelled}
use Rattle.environment.proofs.Stack.{from-written, length-written}
use Rattle.snesl.specs.declared.code.Variable.{Variable}
use Rattle.snesl.specs.Limits.{most_depth, most_elements}
use Rattle.snesl.specs.declared.code.Base.{Base}
use Rattle.snesl.specs.Values.{depth_of, type_of, Val}
use Rattle.snesl.specs.Trees.{order, map_tree}
use Rattle.snesl.specs.Streams.{flags, data_of, len, Store, ◌!◌, contents, room}
use Rattle.snesl.specs.Machine.{sum_of}
use Rattle.snesl.specs.Representation.{concat, segments, represent}
use Rattle.snesl.specs.Inputs.{input_tree}
use Rattle.snesl.proofs.Types.{depth-of-type}
use Rattle.steps.specs.Holding.{counters, Held, place, keeps}
use Rattle.steps.proofs.Executing.{next-id, next-element, spent-is, counted_is}
use Rattle.steps.proofs.Stores.{contents-append, room-append, newest}
use Rattle.leaves.specs.Places.{places, Shapely, shapely-leaf, shapely-node, shaped-more, shallow-more}
use Rattle.leaves.proofs.Places.{tree-kept, places-kept, shapely-kept, shaped-kept, place-newest}
use Rattle.decimals.specs.Numbers.{pick}
use Rattle.valuetext.specs.Storing.{value_store, value_store_if, text_elements, Fillable}
use Rattle.levels.specs.Counts.{total_of}
use Rattle.valuetext.proofs.Represented.{lens-length, lens-total, order-length}
use Rattle.snesl.specs.declared.refusal.Refusal.TheVariants.{NoRoom}
use Rattle.snesl.specs.declared.refusal.Refusal.{Refusal}
use Rattle.std.specs.Prelude.{Result, Ok, Err, Some, None}
use Rattle.inputs.specs.Places.{row_words}
use Rattle.inputs.specs.Loading.{unspent, bind_one, Next, Takes, takes, passes}

-- ---- the words of a row of streams are those of an input's tree

row_last : (s at : ℕ) (ns : List ℕ) (n : ℕ) → row_words s at (ns ++ n ∷ []) ≡ row_words s at ns ++ ((s + length ns) ∷ (at + sum_of ns) ∷ n ∷ [])
unfolding row_words sum_of
row_last s at [] n = ap₂ (λ (a b : ℕ). a ∷ b ∷ n ∷ []) (sym (add-zero s)) (sym (add-zero at))
row_last s at (m ∷ ns) n =
    let p : s + 1 + length ns ≡ s + suc (length ns) = omega arith in
    let q : at + m + sum_of ns ≡ at + (m + sum_of ns) = omega arith in
    ap (λ (l : List ℕ). s ∷ at ∷ m ∷ l)
    (row_last (s + 1) (at + m) ns n ∙ ap₂ (λ (a b : ℕ). row_words (s + 1) (at + m) ns ++ (a ∷ b ∷ n ∷ [])) p q)

module _ (σ : Store) where
  -- of a store that ends with the streams of these values
  record Rowed (β : Base) (d : ℕ) (vs : List (Val (type_of β d))) (ρ : Store) : Type 0 where
    shapely : Shapely ρ (type_of β d) (input_tree (length σ) (depth_of (type_of β d)))
    words : tree_words (map_tree (place ρ) (input_tree (length σ) (depth_of (type_of β d)))) ≡ row_words (length σ) (room σ) (map len (order (represent (type_of β d) vs)))

  rowed-more : (β : Base) (d : ℕ) (vs : List (List (Val (type_of β d)))) (ρ : Store) → ρ ≡ σ ++ order (represent (type_of β d) (concat vs)) → Rowed β d (concat vs) ρ
      → Rowed β (suc d) vs (ρ ++ flags (segments vs) ∷ [])
  unfolding input_tree map_tree tree_words represent order
  rowed-more β d vs ρ e r =
      let a = flags (segments vs) in
      let τ = order (represent (type_of β d) (concat vs)) in
      let long : length ρ ≡ length σ + suc (depth_of (type_of β d)) = ap length e ∙ (length-append σ τ ∙ ap (λ (n : ℕ). length σ + n) (order-length (represent (type_of β d) (concat vs)))) in
      let names : (ρ ++ a ∷ []) ! (length σ + suc (depth_of (type_of β d))) ≡ some a = ap (λ (s : ℕ). (ρ ++ a ∷ []) ! s) (sym long) ∙ newest ρ a in
      let at : place (ρ ++ a ∷ []) (length σ + suc (depth_of (type_of β d))) ≡ record { id = length ρ; first = room ρ; second = len a } =
      ap (place (ρ ++ a ∷ [])) (sym long) ∙ place-newest ρ a in
      let id : length ρ ≡ length σ + length (map len τ) = long ∙ ap (λ (n : ℕ). length σ + n) (ap suc (depth-of-type β d) ∙ sym (lens-length β d (concat vs))) in
      let start : room ρ ≡ room σ + sum_of (map len τ) =
      ap room e ∙ (room-append σ τ ∙ ap (λ (n : ℕ). room σ + n) (sym (lens-total β d (concat vs)))) in
      record {
        shapely = shapely-node (segments vs) (shapely-kept ρ (a ∷ []) r.shapely) names;
        words =
            ap₂ (λ (l : List ℕ) (p : Place). l ++ place_words p) (ap tree_words (tree-kept ρ (a ∷ []) r.shapely) ∙ r.words) at
            ∙ (ap₂ (λ (i s : ℕ). row_words (length σ) (room σ) (map len τ) ++ (i ∷ s ∷ len a ∷ [])) id start
            ∙ (sym (row_last (length σ) (room σ) (map len τ) (len a))
            ∙ sym (ap (row_words (length σ) (room σ)) (map-append len τ (a ∷ [])))));
      }

  rowed : (β : Base) (d : ℕ) (vs : List (Val (type_of β d))) → Rowed β d vs (σ ++ order (represent (type_of β d) vs))
  unfolding input_tree map_tree tree_words represent order row_words
  rowed β zero vs =
      record {
        shapely = shapely-leaf vs (newest σ (data_of β vs));
        words = ap place_words (place-newest σ (data_of β vs));
      }
  rowed β (suc d) vs =
      let τ = order (represent (type_of β d) (concat vs)) in
      subst (λ (ρ : Store). Rowed β (suc d) vs ρ) (append_assoc σ τ (flags (segments vs) ∷ [])) (rowed-more β d vs (σ ++ τ) refl (rowed β d (concat vs)))

-- ---- streams stored behind those of a machine

module _ {σ : Store} {buf : List ℤ} {machine : Machine} (h : Held (unspent σ) buf machine) (τ : Store) (few : length (σ ++ τ) ≤ most_elements)
    (fits : room σ + room τ ≤ length buf) where
  apart : sets buf (room σ) (contents τ) ≡ take (room σ) buf ++ contents τ ++ drop (room σ + room τ) buf
  apart = sets-eq (contents τ) buf (room σ) fits

  front_long : length (take (room σ) buf ++ contents τ) ≡ room (σ ++ τ)
  front_long =
      length-append (take (room σ) buf) (contents τ)
      ∙ (ap (λ (n : ℕ). n + room τ) (length-take-le (room σ) buf (omega arith)) ∙ sym (room-append σ τ))

  behind-held : (machine' : Machine) → machine' ≡ counters (unspent (σ ++ τ)) → Held (unspent (σ ++ τ)) (sets buf (room σ) (contents τ)) machine'
  behind-held machine' w =
      let long : length (sets buf (room σ) (contents τ)) ≡ length buf = length-sets buf (room σ) (contents τ) in
      record {
        counts-are = w;
        contents-are =
            ap (take (room (σ ++ τ))) apart
            ∙ (take_at (take (room σ) buf ++ contents τ) (drop (room σ + room τ) buf) (room (σ ++ τ)) front_long
            ∙ (ap (λ (l : List ℤ). l ++ contents τ) h.contents-are ∙ sym (contents-append σ τ)));
        fits = omega (arith, room-append σ τ, long);
        short = omega (arith, h.short, long);
        few = omega arith;
        slow = omega arith;
        cheap = omega arith;
      }

  behind-kept : keeps (σ ++ τ) buf (sets buf (room σ) (contents τ))
  behind-kept =
      ap (drop (room (σ ++ τ))) apart
      ∙ (drop_at (take (room σ) buf ++ contents τ) (drop (room σ + room τ) buf) (room (σ ++ τ)) front_long
      ∙ ap (λ (n : ℕ). drop n buf) (sym (room-append σ τ)))

-- ---- the input

module _ {text : List ℕ} {x : Variable} {β : Base} {d : ℕ} {counts : List ℕ} {sp : ℕ} {env : List ℕ} {buf : List ℤ} {machine : Machine}
    (g : Next text x β d counts sp env buf machine) where
  abbrev σ : Store
  σ = g.store

  abbrev τ : Store
  τ = value_store (type_of β d) g.value

  pub first-free : machine.streams ≡ length σ
  first-free = next-id g.stands.held

  pub first-room : machine.room ≡ room σ
  first-room = next-element g.stands.held

  -- its counts add up to its room
  lengths-counted : take (d + 1) counts ≡ map len τ
  lengths-counted = ap (λ (k : ℕ). take k counts) (add-one d) ∙ g.counted

  pub lengths-long : length (take (d + 1) counts) ≡ suc d
  lengths-long = ap length lengths-counted ∙ lens-length β d (g.value ∷ [])

  pub levels-within : d + 1 ≤ length counts
  levels-within = omega (arith, lengths-long, length-take (d + 1) counts)

  lengths-room : sum_of (take (d + 1) counts) ≡ room τ
  lengths-room = ap sum_of lengths-counted ∙ lens-total β d (g.value ∷ [])

  pub full-now : None ≡ total_of (take (d + 1) counts) (length buf - machine.room) → {answer : Result ℕ Refusal} → answer ≡ Err (NoRoom (machine.streams))
      → {env' : List ℕ} {buf' : List ℤ} {machine' : Machine} → Takes g env' buf' machine' answer
  full-now o {answer} a {env'} {buf'} {machine'} =
      subst (λ r. Takes g env' buf' machine' r) (ap (λ s. Err (NoRoom s)) (sym first-free) ∙ sym a)
      (passes (omega (arith, go (leb (sum_of (take (d + 1) counts)) (length buf - machine.room)) refl o, lengths-room, first-room, g.stands.held.fits)))
    where
      go : (b : Bool) → leb (sum_of (take (d + 1) counts)) (length buf - machine.room) ≡ b → None ≡ pick b (Some (sum_of (take (d + 1) counts))) None
          → length buf - machine.room < sum_of (take (d + 1) counts)
      go true p q = let z : ◌≡◌ {A = ℕ} 0 1 = cc in absurd (omega arith)
      go false p q = leb-false (sum_of (take (d + 1) counts)) (length buf - machine.room) p

  module _ (n : ℕ) (o : Some n ≡ total_of (take (d + 1) counts) (length buf - machine.room)) where
    pub added : (n ≡ sum_of (take (d + 1) counts)) × (n ≤ length buf - machine.room)
    added = go (leb (sum_of (take (d + 1) counts)) (length buf - machine.room)) refl o
      where
        go : (b : Bool) → leb (sum_of (take (d + 1) counts)) (length buf - machine.room) ≡ b → Some n ≡ pick b (Some (sum_of (take (d + 1) counts))) None
            → (n ≡ sum_of (take (d + 1) counts)) × (n ≤ length buf - machine.room)
        go true p q =
            let e : n ≡ sum_of (take (d + 1) counts) = cc in
            (e, omega (arith, leb-true (sum_of (take (d + 1) counts)) (length buf - machine.room) p))
        go false p q = let z : ◌≡◌ {A = ℕ} 0 1 = cc in absurd (omega arith)

    total : n ≡ room τ
    total = added.0 ∙ lengths-room

    fits : room σ + room τ ≤ length buf
    fits = omega (arith, total, added.1, first-room, g.stands.held.fits)

    pub fills : Fillable β d text counts (machine.room) (length buf)
    fills =
        record { value = g.value; reads = g.reads; shallow = g.shallow; counted = g.counted; room_for = omega (arith, fits, first-room) }

    pub room_small : machine.room + n ≤ most_elements
    room_small = omega (arith, fits, first-room, total, g.small)

    pub id-small : machine.streams + suc most_depth ≤ most_elements
    id-small = omega (arith, first-free, g.few)

    -- the machine afterwards
    grown : length (σ ++ τ) ≡ length σ + suc d
    grown = length-append σ τ ∙ ap (λ (k : ℕ). length σ + k) (order-length (represent (type_of β d) (g.value ∷ [])) ∙ ap suc (depth-of-type β d))

    new-state : record { streams = machine.streams + (d + 1); room = machine.room + n; work = machine.work; steps = machine.steps } ≡ counters (unspent (σ ++ τ))
    new-state =
        let i : machine.streams + (d + 1) ≡ length (σ ++ τ) = omega (arith, grown, first-free) in
        let r : machine.room + n ≡ room (σ ++ τ) = omega (arith, first-room, total, room-append σ τ) in
        λ j. record { streams = i j; room = r j; work = spent-is g.stands.held j; steps = counted_is g.stands.held j }

    module _ (buf' : List ℤ) (b : buf' ≡ sets buf (machine.room) (text_elements (type_of β d) text)) where
      stored : buf' ≡ sets buf (room σ) (contents τ)
      stored =
          b
          ∙ ap₂ (λ (k : ℕ) (w : List ℤ). sets buf k w) first-room (ap (λ (o : Option (Val (type_of β d))). contents (value_store_if (type_of β d) o)) g.reads)

      module _ (env₁ : List ℕ) (top : ℕ) (long : length env₁ ≡ length env) (p : top + 3 * length (take (d + 1) counts) ≡ sp)
          (w : drop top env₁
          ≡ row_words (machine.streams) ((machine.room + n) - sum_of (take (d + 1) counts)) (take (d + 1) counts) ++ drop sp env) where
        place-words : row_words (machine.streams) ((machine.room + n) - sum_of (take (d + 1) counts)) (take (d + 1) counts)
            ≡ tree_words (map_tree (place (σ ++ τ)) (input_tree (length σ) (depth_of (type_of β d))))
        place-words =
            let start : (machine.room + n) - sum_of (take (d + 1) counts) ≡ room σ = omega (arith, added.0, first-room) in
            ap₂ (λ (i s : ℕ). row_words i s (take (d + 1) counts)) first-free start
            ∙ (ap (row_words (length σ) (room σ)) lengths-counted ∙ sym (rowed σ β d (g.value ∷ [])).words)

        pub top-room : (2 ≤ top) × (top ≤ length env₁) × (sp ≤ top + 27)
        top-room = (
          omega (arith, p, lengths-long, g.low, g.shallow),
          omega (arith, p, long, g.stands.within),
          omega (arith, p, lengths-long, g.shallow),
        )

        before-named : (top - 2) + 2 ≤ length env₁
        before-named = omega (arith, top-room.0, top-room.1)

        spelt : drop (top - 2) (written (top - 2) (x.0 ∷ d ∷ []) env₁)
            ≡ spelled (bind_one g.bound x (length σ) (type_of β d)).names (places (σ ++ τ) (bind_one g.bound x (length σ) (type_of β d)).trees)
        unfolding spelled places
        spelt =
            let back : (top - 2) + 2 ≡ top = omega (arith, top-room.0) in
            let others : drop sp env ≡ spelled g.bound.names (places (σ ++ τ) g.bound.trees) =
            g.stands.spells ∙ ap (spelled g.bound.names) (sym (places-kept σ τ g.stands.shaped)) in
            from-written env₁ (top - 2) (x.0 ∷ d ∷ []) before-named
            ∙ ap₂ (λ (n : ℕ) (l : List ℕ). x.0 ∷ n ∷ l) (sym (depth-of-type β d))
            (ap (λ (k : ℕ). drop k env₁) back ∙ (w ∙ ap₂ ◌++◌ place-words others))

        pub taken : {env' : List ℕ} {machine' : Machine} → env' ≡ written (top - 2) (x.0 ∷ d ∷ []) env₁
            → machine' ≡ record { streams = machine.streams + (d + 1); room = machine.room + n; work = machine.work; steps = machine.steps }
            → Takes g env' buf' machine' (Ok (top - 2))
        taken {env'} {machine'} v s =
            let few : length (σ ++ τ) ≤ most_elements = omega (arith, grown, g.few, g.shallow) in
            let h = behind-held g.stands.held τ few fits machine' (s ∙ new-state) in
            let k = behind-kept g.stands.held τ few fits in
            let r = rowed σ β d (g.value ∷ []) in
            takes {top = top - 2}
            fits
            (record {
              spells = ap (drop (top - 2)) v ∙ spelt;
              shaped = shaped-more r.shapely (shaped-kept σ τ g.stands.shaped);
              shallow = shallow-more {τ = type_of β d} (omega (arith, depth-of-type β d, g.shallow)) g.stands.shallow;
              held = subst (λ (l : List ℤ). Held (unspent (σ ++ τ)) l machine') (sym stored) h;
              within = omega (arith, ap length v, length-written env₁ (top - 2) (x.0 ∷ d ∷ []) before-named, top-room.1);
            })
            (ap (drop (room (σ ++ τ))) stored ∙ k)
            (omega (arith, top-room.2, top-room.0))
