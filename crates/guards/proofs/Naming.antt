-- The words that listed variables' entries take, one variable after another; and that listed variables' packing takes at most twenty-five streams for each.
use Prim.Native.Nat.{ℕ, zero, suc, ◌+◌, ◌*◌, ◌-◌, ◌≤◌, ◌<◌}
use mathlib.Core.List.{List, [], ◌∷◌}
use mathlib.Core.Option.{some}
use mathlib.Core.Path.{◌≡◌, refl, sym, ◌∙◌, ap, transport}
use native.Mathlib.Omega.{arith}
use lib.ListN.{length, get_or}
use Rattle.snesl.specs.declared.code.Variable.{Variable}
use Rattle.snesl.specs.Values.{ValueType, depth_of}
use Rattle.snesl.specs.Terms.{All, listed_types, lookup}
use Rattle.snesl.specs.Records.{variable_at}
use Rattle.snesl.specs.Checking.{Name, find, NamedListing, listed_any, any_pointers}
use Rattle.snesl.specs.Translation.{pack_size, packs_size}
use Rattle.environment.specs.Words.{Sought, Entry}
use Rattle.environment.specs.Needs.{binding_size, listed_size}
use Rattle.leaves.specs.Places.{Shallow, shallow-none, shallow-more}
use Rattle.leaves.proofs.Places.{lookup-shallow}
use Rattle.guards.specs.Entering.{Naming}
use Rattle.guards.proofs.All.{First, first, first_of, none-listed}

-- ---- what is listed

pack-size : (d : ℕ) → pack_size d ≡ 3 * d + 1
unfolding pack_size
pack-size zero = refl
pack-size (suc d) = omega (arith, pack-size d)

pub packs-few : {Γ : List ValueType} → (ls : NamedListing Γ) → Shallow Γ → packs_size (any_pointers ls) ≤ 25 * length ls
unfolding packs_size
packs-few [] s = omega arith
packs-few (p ∷ ls) s = omega (arith, pack-size (depth_of p.1.0), lookup-shallow p.1.1 s, packs-few ls s)

pub listed-shallow : {Γ : List ValueType} → (ls : NamedListing Γ) → Shallow Γ → Shallow (listed_types (any_pointers ls))
listed-shallow [] s = shallow-none
listed-shallow (p ∷ ls) s = shallow-more (lookup-shallow p.1.1 s) (listed-shallow ls s)

pub length-any : {Γ : List ValueType} → (names : All Name Γ) (us : List Variable) (ls : NamedListing Γ) → listed_any names us ≡ some ls → length ls ≡ length us
unfolding listed_any
length-any names [] ls e = let q : [] ≡ ls = cc in ap length (sym q)
length-any names (u ∷ us) ls e =
    let f = first_of u (find u names) (listed_any names us) ls e in
    ap length (sym f.5) ∙ ap suc (length-any names us f.2 f.4)

-- ---- the loop

-- What is left to count, and that with it all is counted.
pub record Counting {t : List ℕ} {at₀ left₀ sp : ℕ} {env : List ℕ} (g : Naming t at₀ left₀ sp env) (at left words : ℕ) : Type 0 where
  pub left_over : Naming t at left sp env
  pub total : words + listed_size (any_pointers left_over.list) ≡ listed_size (any_pointers g.list)
  pub most : words + 29 * left ≤ 29 * left₀

module _ {t : List ℕ} {at₀ left₀ sp : ℕ} {env : List ℕ} (g : Naming t at₀ left₀ sp env) where
  -- The same count, with its numbers written in another way.
  counting-as : {at at' left left' words : ℕ} → at ≡ at' → left ≡ left' → Counting g at left words → Counting g at' left' words
  counting-as {words = words} p q h = transport (λ i. Counting g (p i) (q i) words) h

  pub counting-start : {at left : ℕ} → at ≡ at₀ → left ≡ left₀ → Counting g at left 0
  counting-start p q = counting-as (sym p) (sym q) (record { left_over = g; total = omega arith; most = omega arith })

  module _ {at left words : ℕ} (h : Counting g at left words) where
    pub counting-done : left ≤ 0 → words ≡ listed_size (any_pointers g.list)
    unfolding listed_size
    counting-done z =
        let e : [] ≡ h.left_over.list = none-listed h.left_over.names t at left h.left_over.list h.left_over.lists (omega arith) in
        let nothing : 0 ≡ listed_size (any_pointers h.left_over.list) = ap (λ l. listed_size (any_pointers l)) e in
        omega (arith, nothing, h.total)

    module _ (some_left : 0 < left) where
      abbrev pub next-named : First h.left_over.names t at left h.left_over.list
      next-named = first h.left_over.names t at left h.left_over.list h.left_over.lists some_left

      abbrev pub next-sought : Sought env sp (variable_at t at)
      next-sought =
          record {
            context = h.left_over.context;
            names = h.left_over.names;
            trees = h.left_over.trees;
            rest = h.left_over.rest;
            type = next-named.type;
            pointer = next-named.pointer;
            spells = h.left_over.spells;
            finds = next-named.finds;
          }

      size_is : binding_size (depth_of next-named.type) + listed_size (any_pointers next-named.others) ≡ listed_size (any_pointers h.left_over.list)
      unfolding listed_size
      size_is = ap (λ l. listed_size (any_pointers l)) next-named.is

      module _ {p : ℕ} (e : Entry env sp p (lookup next-sought.pointer next-sought.trees)) where
        pub depth-few : get_or env (p + 1) 0 ≤ 8
        depth-few = omega (arith, e.depth, lookup-shallow next-named.pointer h.left_over.shallow)

        pub depth-within : p + 2 ≤ length env
        depth-within = omega (arith, e.within)

        pub counting-turn : {at' left' : ℕ} → at + 1 ≡ at' → left - 1 ≡ left' → Counting g at' left' (words + (5 + 3 * get_or env (p + 1) 0))
        counting-turn a l =
            counting-as a l
            (record {
              left_over =
                  record {
                    context = h.left_over.context;
                    names = h.left_over.names;
                    trees = h.left_over.trees;
                    rest = h.left_over.rest;
                    spells = h.left_over.spells;
                    shallow = h.left_over.shallow;
                    list = next-named.others;
                    lists = next-named.lists;
                    bytes = omega (arith, h.left_over.bytes);
                  };
              total = omega (arith, e.depth, size_is, h.total);
              most = omega (arith, depth-few, h.most);
            })
