-- A whole listing: the expression's lines, and the result's.
use Prim.Native.Nat.{ℕ, ◌+◌, ◌-◌, ◌*◌, ◌≤◌, ◌<◌, ◌^◌}
use native.Mathlib.Omega.{arith}
use mathlib.Core.List.{List, [], ◌∷◌}
use mathlib.Core.Path.{◌≡◌, sym, ap, ◌∙◌, subst}
use lib.ListN.{length, drop}
use Rattle.snesl.specs.Ascii.{ascii, pieces}
use Rattle.snesl.specs.Values.{depth_of}
use Rattle.snesl.specs.Trees.{IdTree, map_tree}
use Rattle.snesl.specs.Translation.{tree, code}
use Rattle.snesl.specs.Listing.{lines_of, tree_text, result_line}
use Rattle.decimals.specs.Writing.{Writes}
use Rattle.decimals.proofs.Stores.{writes_then}
use Rattle.lines.specs.Counting.{Countable}
use Rattle.lines.proofs.Writing.{countable-first, countable-next}
use Rattle.environment.specs.Words.{tree_words, tree_size}
use Rattle.environment.proofs.Finding.{length-tree}
use Rattle.environment.proofs.Stack.{front-is, rest-is}
use Rattle.sink.specs.Trees.{TreeAt}
use Rattle.runner.proofs.Measures.{words-hold}
use Rattle.lister.specs.declared.list.Lines.{Lines}
use Rattle.lister.specs.Lists.{WholeReady, Lined, whole_text}

module _ {t : List ℕ} {k : ℕ} {env : List ℕ} {sp s : ℕ} (g : WholeReady t k env sp s) where
  deep : 3 * depth_of g.type + 3 ≤ sp
  deep = omega (arith, words-hold g.term, g.space)

  module _ {env₁ text text₁ : List ℕ} {r : Lines} (F : (h : WholeReady t k env sp s) → Lined h env₁ text text₁ r) (long₁ : length env₁ ≡ length env) where
    abbrev st : IdTree g.type
    st = tree g.term g.trees s

    lined : Lined g env₁ text text₁ r
    lined = F g

    rest₁ : Countable r.at (result_line st)
    rest₁ =
        countable-next {u = lines_of s (code g.term g.trees s)} {v = result_line st} (record { end = omega (arith, g.near) }) lined.writes

    pub result-countable : Countable r.at (ascii "result ")
    result-countable = countable-first (ascii "result ") (pieces (tree_text st ∷ ascii "\n" ∷ [])) rest₁

    -- the tree's place
    pub record Bounds (n : ℕ) : Type 0 where
      pub room : 3 * n + 3 ≤ sp
      pub small : sp < 4294967296

    pub bounds : Bounds r.depth
    bounds = record { room = omega (arith, lined.depth, deep); small = omega (arith, g.within, g.small) }

    module _ {text₂ : List ℕ} {a : ℕ} (w₁ : Writes text₁ text₂ r.at (ascii "result ") a) where
      rest₂ : Countable a (pieces (tree_text st ∷ ascii "\n" ∷ []))
      rest₂ = countable-next {u = ascii "result "} {v = pieces (tree_text st ∷ ascii "\n" ∷ [])} rest₁ w₁

      own : TreeAt env₁ (sp - (3 * depth_of g.type + 3)) (depth_of g.type) a
      own =
          record {
            tree = st;
            placing = lined.placing;
            words =
                front-is env₁ (sp - tree_size (depth_of g.type)) (tree_size (depth_of g.type)) (tree_words (map_tree lined.placing.place st)) (drop sp env) lined.words
                (length-tree (map_tree lined.placing.place st));
            within = omega (arith, deep, long₁, g.within);
            countable = countable-first (tree_text st) (ascii "\n") rest₂;
          }

      pub tree-ready : TreeAt env₁ (sp - (3 * r.depth + 3)) r.depth a
      tree-ready = subst (λ n. TreeAt env₁ (sp - (3 * n + 3)) n a) (sym lined.depth) own

      module _ {text₃ : List ℕ} {b : ℕ}
          (T : (h : TreeAt env₁ (sp - (3 * r.depth + 3)) r.depth a) → Writes text₂ text₃ a (tree_text h.tree) b) where
        w₂ : Writes text₂ text₃ a (tree_text st) b
        unfolding own
        w₂ = subst (λ n. (h : TreeAt env₁ (sp - (3 * n + 3)) n a) → Writes text₂ text₃ a (tree_text h.tree) b) lined.depth T own

        rest₃ : Countable b (ascii "\n")
        rest₃ = countable-next {u = tree_text st} {v = ascii "\n"} rest₂ w₂

        pub end-countable : b + 1 < 2 ^ 64
        end-countable = omega (arith, rest₃.end)

        pub whole : {text₄ : List ℕ} {e : ℕ} → Writes text₃ text₄ b (ascii "\n") e
            → Writes text text₄ 0 (whole_text g.term g.trees s) e × (drop sp env₁ ≡ drop sp env)
        whole w₃ =
            let up : sp - tree_size (depth_of g.type) + tree_size (depth_of g.type) ≡ sp = omega (arith, deep) in (
              writes_then lined.writes (writes_then w₁ (writes_then w₂ w₃)),
              ap (λ n. drop n env₁) (sym up)
                  ∙ rest-is env₁ (sp - tree_size (depth_of g.type)) (tree_size (depth_of g.type)) (tree_words (map_tree lined.placing.place st)) (drop sp env) lined.words
                  (length-tree (map_tree lined.placing.place st)),
            )
