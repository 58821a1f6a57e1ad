-- The inputs of a formula entered one by one: what has been entered, and that with what is left it makes up all.
use Prim.Native.Nat.{ℕ, zero, suc, ◌+◌, ◌-◌, ◌*◌, ◌≤◌, ◌<◌}
use native.Mathlib.Omega.{arith}
use mathlib.Core.Bool.{Bool, true, false, ◌&&◌}
use mathlib.Core.List.{List, [], ◌∷◌, ◌++◌, append-nil}
use mathlib.Core.Option.{Option, some, none}
use mathlib.Core.Path.{◌≡◌, refl, sym, ap, ◌∙◌, subst}
use borrow.Author.Tests.{leb-true}
use lib.Dec.{leb}
use lib.ListN.{length, drop}
use lib.Seq.{drop-length}
use Rattle.laws.specs.Parts.{written}
use Rattle.snesl.specs.declared.refusal.Refusal.TheVariants.{NoRecord, OverLimit, TooMany}
use Rattle.snesl.specs.Limits.{most_inputs, most_depth, last_variable}
use Rattle.snesl.specs.declared.code.Base.{Base}
use Rattle.snesl.specs.Values.{ValueType, depth_of}
use Rattle.snesl.specs.Terms.{All, ∅, ◌▹◌}
use Rattle.snesl.specs.Trees.{IdTree}
use Rattle.snesl.specs.Records.{byte_at, mark_at, Input, input_base, input_at, Declared, declared, input_first, input_ok, inputs_at}
use Rattle.snesl.specs.Checking.{Name, turned_onto, turned, input_type, input_types, input_names}
use Rattle.snesl.specs.Inputs.{input_tree, input_trees, input_start}
use Rattle.snesl.proofs.Types.{depth-of-type}
use Rattle.environment.specs.Words.{tree_words, tree_size, spelled}
use Rattle.environment.proofs.Finding.{length-tree}
use Rattle.environment.proofs.Entries.{bound}
use Rattle.environment.proofs.Stack.{from-written, length-written}
use Rattle.lister.specs.Inputs.{places_of, places_in, Declares, Enters}

-- ---- the first input of some

pub record First (t : List ℕ) (n k : ℕ) (is : List Input) (end : ℕ) : Type 0 where
  pub base : Base
  pub rest : List Input
  pub whole : is ≡ input_at t k base ∷ rest
  pub more : inputs_at (n - 1) t (k + 4) ≡ declared rest end
  pub some : 0 < n
  pub inside : k + 4 ≤ length t
  pub depth : byte_at t (k + 3) ≤ most_depth

and_second : (a b : Bool) → (a && b) ≡ true → b ≡ true
and_second true b e = e
and_second false b e = let z : ◌≡◌ {A = ℕ} 0 1 = cc in absurd (omega arith)

module _ (t : List ℕ) (k : ℕ) {is : List Input} {end : ℕ} (any : 0 < length is) where
  -- no record, or one that is cut, or one over a limit, is no first input
  by_tests : (next : Base → Declared) {A : Type 0}
      → ((x : Base) → k + 4 ≤ length t → byte_at t (k + 3) ≤ most_depth → next x ≡ declared is end → A)
      → elim (input_base (mark_at t k)) [ some x ↦ input_ok t k (next x) | none ↦ declared [] k ] ≡ declared is end
      → A
  by_tests next {A} f = go (input_base (mark_at t k)) (leb (k + 4) (length t)) refl (leb (byte_at t (k + 2)) last_variable && leb (byte_at t (k + 3)) most_depth) refl
    where
      go : (a : Option Base) (b : Bool) → leb (k + 4) (length t) ≡ b → (c : Bool) → (leb (byte_at t (k + 2)) last_variable && leb (byte_at t (k + 3)) most_depth) ≡ c
          → elim a [
            | some x ↦ elim b [ true ↦ elim c [ true ↦ next x | false ↦ Declared.refused (OverLimit k) ] | false ↦ Declared.refused (NoRecord k) ]
            | none ↦ declared [] k
          ]
          ≡ declared is end
          → A
      go (some x) true p true q e =
          f x (leb-true (k + 4) (length t) p) (leb-true (byte_at t (k + 3)) most_depth (and_second (leb (byte_at t (k + 2)) last_variable) _ q)) e
      go (some x) true p false q e = let z : ◌≡◌ {A = ℕ} 0 1 = cc in absurd (omega arith)
      go (some x) false p c q e = let z : ◌≡◌ {A = ℕ} 0 1 = cc in absurd (omega arith)
      go none b p c q e = let z : is ≡ [] = cc in absurd (omega (arith, ap length z))

  pub first_of : (n : ℕ) → inputs_at n t k ≡ declared is end → First t n k is end
  unfolding inputs_at
  first_of zero e = by_tests (λ x. Declared.refused (TooMany k)) (λ x a b q. let z : ◌≡◌ {A = ℕ} 0 1 = cc in absurd (omega arith)) e
  first_of (suc n) e = by_tests (λ x. input_first (input_at t k x) (inputs_at n t (k + 4))) (λ x a b q. go x (inputs_at n t (k + 4)) refl a b q) e
    where
      go : (x : Base) (d : Declared) → inputs_at n t (k + 4) ≡ d → k + 4 ≤ length t → byte_at t (k + 3) ≤ most_depth → input_first (input_at t k x) d ≡ declared is end
          → First t (suc n) k is end
      go x (Declared.refused r) p a b q = let z : ◌≡◌ {A = ℕ} 0 1 = cc in absurd (omega arith)
      go x (declared js m) p a b q =
          let one : suc n - 1 ≡ n = omega arith in
          let same : m ≡ end = cc in
          record {
            base = x;
            rest = js;
            whole = cc;
            more = ap (λ u. inputs_at u t (k + 4)) one ∙ (p ∙ ap (declared js) same);
            some = omega arith;
            inside = a;
            depth = b;
          }

-- ---- what is entered, with what is left

pub record Total : Type 0 where
  pub context : List ValueType
  pub names : All Name context
  pub trees : All IdTree context
  pub start : ℕ

pub finish : (Γ : List ValueType) → All Name Γ → All IdTree Γ → ℕ → List Input → Total
finish Γ names trees s is =
    record {
      context = turned_onto Γ (input_types is);
      names = turned names (input_names is);
      trees = turned trees (input_trees s (input_types is));
      start = s + input_start (input_types is);
    }

-- an input's tree before those of others
pub on_top : {Γ : List ValueType} → (τ : ValueType) → ℕ → All IdTree Γ → All IdTree (τ ∷ Γ)
on_top τ s trees = ◌▹◌ {τ = τ} (input_tree s (depth_of τ)) trees

finish-next : (Γ : List ValueType) (names : All Name Γ) (trees : All IdTree Γ) (s : ℕ) (i : Input) (is : List Input)
    → finish Γ names trees s (i ∷ is)
    ≡ finish (input_type i ∷ Γ) (i.name ▹ names) (on_top (input_type i) s trees) (s + suc (depth_of (input_type i))) is
unfolding finish on_top turned input_names input_trees input_start
finish-next Γ names trees s i is =
    let d = depth_of (input_type i) in
    let sum : s + (suc d + input_start (input_types is)) ≡ s + suc d + input_start (input_types is) = omega arith in
    λ j.
    record {
      context = turned_onto (input_type i ∷ Γ) (input_types is);
      names = turned (i.name ▹ names) (input_names is);
      trees = turned (on_top (input_type i) s trees) (input_trees (s + suc d) (input_types is));
      start = sum j;
    }

pub record Entering {t : List ℕ} {inputs : ℕ} {env₀ : List ℕ} (g : Declares t inputs env₀) (i : ℕ) (env : List ℕ) (sp s : ℕ) : Type 0 where
  pub context : List ValueType
  pub names : All Name context
  pub trees : All IdTree context
  pub left : List Input
  pub same : finish context names trees s left ≡ finish [] ∅ ∅ 0 g.all
  pub read : inputs_at (most_inputs - i) t (4 * i) ≡ declared left g.end
  pub number : i + length left ≡ inputs
  pub spells : drop sp env ≡ spelled names (places_in trees)
  pub room : length env₀ ≤ sp + 29 * i
  pub within : sp ≤ length env₀
  pub ids : s ≤ 9 * i
  pub long : length env ≡ length env₀

module _ {t : List ℕ} {inputs : ℕ} {env₀ : List ℕ} (g : Declares t inputs env₀) where
  pub start : Entering g 0 env₀ (length env₀) 0
  unfolding spelled places_in
  start =
      let n : most_inputs - 0 ≡ most_inputs = refl in
      record {
        context = [];
        names = ∅;
        trees = ∅;
        left = g.all;
        same = refl;
        read = g.read;
        number = omega (arith, g.number);
        spells = drop-length env₀;
        room = omega arith;
        within = omega arith;
        ids = omega arith;
        long = refl;
      }

  module _ {i : ℕ} {env : List ℕ} {sp s : ℕ} (e : Entering g i env sp s) where
    module _ (h : i < inputs) where
      first : First t (most_inputs - i) (4 * i) e.left g.end
      first = first_of t (4 * i) (omega (arith, e.number)) (most_inputs - i) e.read

      -- what the indices want
      pub record Sizes (d : ℕ) : Type 0 where
        pub inside : 4 * i + 4 ≤ length t
        pub depth : d ≤ 8
        pub room : 3 * d + 5 ≤ sp
        pub within : sp ≤ length env
        pub few : i < 16
        pub ids : s + d < 4294967296

      pub sizes : Sizes (byte_at t (4 * i + 3))
      sizes =
          let f = first in
          record {
            inside = f.inside;
            depth = f.depth;
            room = omega (arith, e.room, g.room, f.depth);
            within = omega (arith, e.within, e.long);
            few = omega (arith, f.some);
            ids = omega (arith, e.ids, f.depth, f.some);
          }

      -- the type that the next input declares
      abbrev τ : ValueType
      τ = input_type (input_at t (4 * i) first.base)

      abbrev d : ℕ
      d = depth_of τ

      deep : d ≡ byte_at t (4 * i + 3)
      deep = depth-of-type first.base (byte_at t (4 * i + 3))

      -- its binding is written
      abbrev Tree-written : (depth : ℕ) (mid : List ℕ) → Type 0
      Tree-written n mid = mid ≡ written (sp - (3 * n + 3)) (tree_words (places_of (input_tree s n))) env

      abbrev Name-written : (depth : ℕ) (mid new : List ℕ) → Type 0
      Name-written n mid new = new ≡ written (sp - (3 * n + 3) - 2) (byte_at t (4 * i + 2) ∷ n ∷ []) mid

      module _ {mid new : List ℕ} (e₁ : Tree-written d mid) (e₂ : Name-written d mid new) where
        tree-length : length (tree_words (places_of (input_tree s d))) ≡ tree_size d
        tree-length = length-tree (places_of (input_tree s d))

        bounds : Sizes d
        bounds = subst Sizes (sym deep) sizes

        long₁ : length mid ≡ length env
        long₁ =
            let z = bounds in
            ap length e₁ ∙ length-written env (sp - (3 * d + 3)) (tree_words (places_of (input_tree s d))) (omega (arith, tree-length, z.room, z.within))

        from₁ : drop (sp - (3 * d + 3)) mid ≡ tree_words (places_of (input_tree s d)) ++ (spelled e.names (places_in e.trees) ++ [])
        from₁ =
            let z = bounds in
            let up : sp - (3 * d + 3) + length (tree_words (places_of (input_tree s d))) ≡ sp = omega (arith, tree-length, z.room) in
            ap (drop (sp - (3 * d + 3))) e₁
            ∙ (from-written env (sp - (3 * d + 3)) (tree_words (places_of (input_tree s d))) (omega (arith, tree-length, z.room, z.within))
            ∙ ap (λ l. tree_words (places_of (input_tree s d)) ++ l) (ap (λ n. drop n env) up ∙ (e.spells ∙ sym (append-nil (spelled e.names (places_in e.trees))))))

        long₂ : length new ≡ length env
        long₂ =
            let z = bounds in
            ap length e₂ ∙ (length-written mid (sp - (3 * d + 3) - 2) (byte_at t (4 * i + 2) ∷ d ∷ []) (omega (arith, z.room, z.within, long₁)) ∙ long₁)

        typed-turn : Entering g (i + 1) new (sp - (3 * d + 3) - 2) (s + (d + 1))
        unfolding places_in on_top
        typed-turn =
            let z = bounds in
            let f = first in
            let x = input_at t (4 * i) f.base in
            let two : sp - (3 * d + 3) - 2 + 2 ≡ sp - (3 * d + 3) = omega (arith, z.room) in
            let next : s + (d + 1) ≡ s + suc d = omega arith in
            let four : 4 * (i + 1) ≡ 4 * i + 4 = omega arith in
            let less : most_inputs - (i + 1) ≡ most_inputs - i - 1 = omega arith in
            record {
              context = τ ∷ e.context;
              names = x.name ▹ e.names;
              trees = on_top τ s e.trees;
              left = f.rest;
              same =
                  ap (λ n. finish (τ ∷ e.context) (x.name ▹ e.names) (on_top τ s e.trees) n f.rest) next
                  ∙ (sym (finish-next e.context e.names e.trees s x f.rest)
                  ∙ (ap (finish e.context e.names e.trees s) (sym f.whole) ∙ e.same));
              read = ap (λ n. inputs_at n t (4 * (i + 1))) less ∙ (ap (λ n. inputs_at (most_inputs - i - 1) t n) four ∙ f.more);
              number = omega (arith, e.number, ap length f.whole);
              spells =
                  ap (drop (sp - (3 * d + 3) - 2)) e₂
                  ∙ (bound τ mid (sp - (3 * d + 3) - 2) x.name e.names (places_of (input_tree s d)) (places_in e.trees) [] (omega (arith, z.room, z.within, long₁)) (ap (λ n. drop n mid) two ∙ from₁)
                  ∙ append-nil (spelled (x.name ▹ e.names) (places_in (on_top τ s e.trees))));
              room = omega (arith, e.room, z.depth, z.room);
              within = omega (arith, e.within);
              ids = omega (arith, e.ids, z.depth);
              long = long₂ ∙ e.long;
            }

      pub turn : {mid new : List ℕ} {n : ℕ} → n ≡ byte_at t (4 * i + 3) → Tree-written n mid → Name-written n mid new
          → Entering g (i + 1) new (sp - (3 * n + 3) - 2) (s + (n + 1))
      turn {mid} {new} {n} e₀ =
          subst (λ m. Tree-written m mid → Name-written m mid new → Entering g (i + 1) new (sp - (3 * m + 3) - 2) (s + (m + 1))) (deep ∙ sym e₀) typed-turn

    pub done : inputs ≤ i → Enters g env (record { sp = sp; id = s })
    unfolding finish turned input_names input_trees input_start
    done h =
        let none : e.left ≡ [] = empty e.left (omega (arith, e.number)) in
        let whole : finish e.context e.names e.trees s [] ≡ finish [] ∅ ∅ 0 g.all = ap (finish e.context e.names e.trees s) (sym none) ∙ e.same in
        let ended : i ≡ inputs = omega (arith, e.number) in
        record {
          spells = subst (λ (u : Total). drop sp env ≡ spelled u.names (places_in u.trees)) whole e.spells;
          id = omega (arith, ap (λ (u : Total). u.start) whole);
          room = omega (arith, e.room);
          within = e.within;
        }
      where
        empty : (l : List Input) → length l ≡ 0 → l ≡ []
        empty [] q = refl
        empty (x ∷ l) q = absurd (omega arith)
