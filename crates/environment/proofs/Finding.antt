-- Looking for a name: what one look at an entry says, and that the entry found is the one that checking found.
use Prim.Native.Nat.{ℕ, ◌+◌, ◌*◌, ◌≤◌, ◌<◌}
use mathlib.Core.Bool.{true, false}
use mathlib.Core.Path.{◌≡◌, refl, sym, ◌∙◌, ap, subst}
use mathlib.Core.List.{List, ◌∷◌, ◌++◌, append_assoc}
use native.Mathlib.Omega.{arith}
use lib.Dec.{eqb}
use lib.ListN.{length, get_or, drop, length-append}
use borrow.Author.Tests.{eq-eqb, ne_eqb}
use Rattle.laws.proofs.Never.{never}
use Rattle.laws.specs.Parts.{part}
use Rattle.snesl.specs.declared.code.Variable.{Variable}
use Rattle.snesl.specs.Values.{ValueType, depth_of}
use Rattle.snesl.specs.Terms.{◌∋◌, All, ∅, ◌▹◌, lookup}
use Rattle.snesl.specs.Trees.{Tree, leaf, node}
use Rattle.snesl.specs.Checking.{Name, Found, missing, found, later, find}
use Rattle.environment.specs.Words.{Place, PlaceTree, place_words, tree_words, tree_size, spelled, Sought, Entry}
use Rattle.environment.proofs.Stack.{head-is, tail-is, front-is, rest-is, front-within}

pub length-tree : {d : ℕ} → (t : Tree Place d) → length (tree_words t) ≡ tree_size d
unfolding tree_words
length-tree (leaf p) = refl
length-tree (node t p) = length-append (tree_words t) (place_words p) ∙ omega (arith, length-tree t)

-- From p on the words spell bindings, and the tree of the newest one of x is t.
pub record Still (env : List ℕ) (p : ℕ) (x : Variable) (τ : ValueType) (t : PlaceTree τ) : Type 0 where
  pub context : List ValueType
  pub names : All Name context
  pub trees : All PlaceTree context
  pub rest : List ℕ
  pub pointer : context ∋ τ
  pub spells : drop p env ≡ spelled names trees ++ rest
  pub finds : find x names ≡ found τ pointer
  pub same : lookup pointer trees ≡ t

pub begins : {env : List ℕ} {sp : ℕ} {x : Variable} → (g : Sought env sp x) → Still env sp x g.type (lookup g.pointer g.trees)
begins g =
    record {
      context = g.context;
      names = g.names;
      trees = g.trees;
      rest = g.rest;
      pointer = g.pointer;
      spells = g.spells;
      finds = g.finds;
      same = refl;
    }

-- What the entry at p says: where it ends, that it is the one sought if its name is x, and that the one sought stands behind it if not.
pub record Look (env : List ℕ) (p : ℕ) (x : Variable) (τ : ValueType) (t : PlaceTree τ) : Type 0 where
  pub within : p + (5 + 3 * get_or env (p + 1) 0) ≤ length env
  pub hit : get_or env p 0 ≡ x.0 → (get_or env (p + 1) 0 ≡ depth_of τ) × (part (p + 2) (tree_size (depth_of τ)) env ≡ tree_words t)
  pub miss : (get_or env p 0 ≡ x.0 → ⊥) → Still env (p + (5 + 3 * get_or env (p + 1) 0)) x τ t

module _ (env : List ℕ) (p : ℕ) (x : Variable) where
  -- what is known of the tree that a search found
  abbrev Hit : {Γ : List ValueType} → All PlaceTree Γ → Found Γ → Type 0
  Hit trees missing = Unit
  Hit trees (found τ v) = (get_or env (p + 1) 0 ≡ depth_of τ) × (part (p + 2) (tree_size (depth_of τ)) env ≡ tree_words (lookup v trees))

  abbrev Miss : {Γ : List ValueType} → All PlaceTree Γ → Found Γ → Type 0
  Miss trees missing = Unit
  Miss trees (found τ v) = Still env (p + (5 + 3 * get_or env (p + 1) 0)) x τ (lookup v trees)

  module _ {Γ : List ValueType} (υ : ValueType) (y : Variable) (names : All Name Γ) (t : PlaceTree υ) (trees : All PlaceTree Γ) (rest : List ℕ)
      (e : drop p env ≡ y.0 ∷ depth_of υ ∷ (tree_words t ++ (spelled names trees ++ rest))) where
    second : drop (p + 1) env ≡ depth_of υ ∷ (tree_words t ++ (spelled names trees ++ rest))
    second = tail-is env p e

    third : drop (p + 2) env ≡ tree_words t ++ (spelled names trees ++ rest)
    third =
        let two : p + 2 ≡ p + 1 + 1 = omega arith in
        ap (λ k. drop k env) two ∙ tail-is env (p + 1) second

    depth_is : get_or env (p + 1) 0 ≡ depth_of υ
    depth_is = head-is env (p + 1) second 0

    end_is : p + 2 + tree_size (depth_of υ) ≡ p + (5 + 3 * get_or env (p + 1) 0)
    end_is = omega (arith, ap (λ k. 3 * k) depth_is)

    ends : p + (5 + 3 * get_or env (p + 1) 0) ≤ length env
    ends =
        let some : 0 < tree_size (depth_of υ) = omega arith in
        omega (arith, end_is, front-within env (p + 2) (tree_size (depth_of υ)) (tree_words t) (spelled names trees ++ rest) third (length-tree t) some)

    words_are : part (p + 2) (tree_size (depth_of υ)) env ≡ tree_words t
    words_are = front-is env (p + 2) (tree_size (depth_of υ)) (tree_words t) (spelled names trees ++ rest) third (length-tree t)

    behind : drop (p + (5 + 3 * get_or env (p + 1) 0)) env ≡ spelled names trees ++ rest
    behind = ap (λ k. drop k env) (sym end_is) ∙ rest-is env (p + 2) (tree_size (depth_of υ)) (tree_words t) (spelled names trees ++ rest) third (length-tree t)

    hits : eqb x.0 y.0 ≡ true → Hit (◌▹◌ {τ = υ} t trees) (find x (y ▹ names))
    unfolding find lookup
    hits q = rw (q, Hit) (depth_is, words_are)

    misses : eqb x.0 y.0 ≡ false → Miss (◌▹◌ {τ = υ} t trees) (find x (y ▹ names))
    unfolding find lookup
    misses q = rw (q, Miss) (go (find x names) refl)
      where
        go : (f : Found Γ) → find x names ≡ f → Miss (◌▹◌ {τ = υ} t trees) (later f)
        go missing r = tt
        go (found τ v) r =
            record {
              context = Γ;
              names = names;
              trees = trees;
              rest = rest;
              pointer = v;
              spells = behind;
              finds = r;
              same = refl;
            }

  look_at : {Γ : List ValueType} {τ : ValueType} → (names : All Name Γ) (trees : All PlaceTree Γ) (rest : List ℕ) (v : Γ ∋ τ)
      → drop p env ≡ spelled names trees ++ rest → find x names ≡ found τ v → Look env p x τ (lookup v trees)
  unfolding spelled find
  look_at ∅ ∅ rest v e f = never (cc)
  look_at (◌▹◌ {τ = υ} {Γ = Γ} y names) (t ▹ trees) rest v e f =
      let e' : drop p env ≡ y.0 ∷ depth_of υ ∷ (tree_words t ++ (spelled names trees ++ rest)) =
      e ∙ ap (λ l. y.0 ∷ depth_of υ ∷ l) (append_assoc (tree_words t) (spelled names trees) rest) in
      let first : get_or env p 0 ≡ y.0 = head-is env p e' 0 in
      record {
        within = ends υ y names t trees rest e';
        hit = λ q. subst (Hit (◌▹◌ {τ = υ} t trees)) f (hits υ y names t trees rest e' (eq-eqb x.0 y.0 (sym q ∙ first)));
        miss =
            λ q.
            subst (Miss (◌▹◌ {τ = υ} t trees)) f
            (misses υ y names t trees rest e' (ne_eqb x.0 y.0 (λ r. q (first ∙ sym r))));
      }

  pub look : {τ : ValueType} {t : PlaceTree τ} → Still env p x τ t → Look env p x τ t
  look {τ} {t} s = subst (λ u. Look env p x τ u) s.same (look_at s.names s.trees s.rest s.pointer s.spells s.finds)

-- A search from sp that has come to p.
pub record Searching (env : List ℕ) (sp p : ℕ) (x : Variable) : Type 0 where
  pub above : sp ≤ p
  pub still : (g : Sought env sp x) → Still env p x g.type (lookup g.pointer g.trees)

module _ {env : List ℕ} {sp : ℕ} {x : Variable} where
  pub start : Searching env sp sp x
  start = record { above = omega arith; still = begins }

  module _ {p : ℕ} (s : Searching env sp p x) where
    pub within : Sought env sp x → p + (5 + 3 * get_or env (p + 1) 0) ≤ length env
    within g = (look env p x (s.still g)).within

    pub turn : (get_or env p 0 ≡ x.0 → ⊥) → Searching env sp (p + (5 + 3 * get_or env (p + 1) 0)) x
    turn q = record { above = omega (arith, s.above); still = λ g. (look env p x (s.still g)).miss q }

    pub done : get_or env p 0 ≡ x.0 → (g : Sought env sp x) → Entry env sp p (lookup g.pointer g.trees)
    done q g =
        let l = look env p x (s.still g) in
        record {
          above = s.above;
          within = omega (arith, l.within, ap (λ k. 3 * k) (l.hit q).0);
          depth = (l.hit q).0;
          words = (l.hit q).1;
        }
