-- The line that opens a WithCtrl, piece by piece, over a body that was surveyed.
use Prim.Native.Nat.{ℕ, suc, ◌+◌, ◌*◌, ◌≤◌, ◌<◌, ◌^◌}
use native.Mathlib.Omega.{arith}
use mathlib.Core.Bool.{Bool, true, false, ◌&&◌}
use mathlib.Core.List.{List, [], ◌∷◌}
use mathlib.Core.Path.{◌≡◌, sym, ap, ◌∙◌, subst}
use lib.Dec.{ltb, leb}
use lib.ListN.{length, get_or, length-append}
use lib.Seq.{sets}
use Rattle.laws.specs.Parts.{part}
use Rattle.snesl.specs.Ascii.{ascii, pieces}
use Rattle.snesl.specs.Trees.{order}
use Rattle.snesl.specs.Programs.{ascending}
use Rattle.snesl.specs.Listing.{id_text, with_ctrl_line}
use Rattle.snesl.proofs.Compiled.Members.{of-ascending}
use Rattle.decimals.specs.Writing.{Writes}
use Rattle.decimals.proofs.Stores.{writes_then}
use Rattle.lines.specs.Counting.{Countable}
use Rattle.lines.specs.Pieces.{rest_text, control_text}
use Rattle.lines.proofs.Writing.{countable-first, countable-next}
use Rattle.lines.proofs.IdLists.{control-line}
use Rattle.environment.specs.Words.{tree_size}
use Rattle.sink.specs.Sinks.{Sink, far, put, resumed}
use Rattle.sink.specs.declared.state.Sink as state
use Rattle.sink.specs.declared.state.Walk.{Walk}
use Rattle.sink.specs.Kept.{Marks}
use Rattle.sink.specs.Sunk.{Opening, opening, Lines, Opens, Resumes}
use Rattle.sink.specs.Between.{between}
use Rattle.sink.specs.Trees.{OutsAt}
use Rattle.sink.proofs.Least.{of-between}
use Rattle.sink.proofs.IdSearch.{tree-ids, length-order}
use Rattle.sink.proofs.Shorts.{Small, id-short, rest-short, ascending-length}
use Rattle.sink.proofs.Keeping.{each-below}
use Rattle.sink.proofs.Sinking.{landed, put-far, put-near, put-stays}

-- no list gets longer
between-length : (lo hi : ℕ) (us : List ℕ) → length (between lo hi us) ≤ length us
unfolding between
between-length lo hi [] = omega arith
between-length lo hi (u ∷ us) = go (leb lo u && ltb u hi) (between-length lo hi us)
  where
    go : (b : Bool) → length (between lo hi us) ≤ length us → length {A = ℕ} (elim b [ true ↦ u ∷ between lo hi us | false ↦ between lo hi us ]) ≤ suc (length us)
    go true h = omega arith
    go false h = omega arith

module _ {env : List ℕ} {q depth : ℕ} {k : Sink} {text : List ℕ} {s : state.Sink} (g : Opening env q depth k text s) where
  -- too far on, nothing is written
  pub nothing : (c next : ℕ) → far < s.at → Lines (opening k g.tree c next) text (s.at)
  nothing c next h =
      let w : List ℕ = with_ctrl_line (ascending (between k.own next (order g.tree))) c k.taken in
      let e : put w (resumed k) ≡ resumed k = put-far w (resumed k) (omega (arith, g.sunk.at-is)) in
      subst (λ a. Lines a text (s.at)) (sym e)
      (record { written = g.sunk.text-is; end_is = g.sunk.at-is; near = omega (arith, g.sunk.at-is, g.sunk.near) })

  module _ (c : ℕ) (c-small : Small c) (next : ℕ) (next-small : Small next) {kept : List ℕ} (kept-are : kept ≡ k.taken) (words : (i : ℕ) → get_or kept i 0 < 2 ^ 64) (near : s.at ≤ far) where
    abbrev outs : List ℕ
    outs = ascending (between (s.own) (next) (order g.tree))

    abbrev at : ℕ
    at = s.at

    outs-short : length (rest_text true outs) ≤ 22 * (depth + 1)
    outs-short =
        let a = rest-short true outs (λ u m. let b = of-between (s.own) (next) (order g.tree) (of-ascending (between (s.own) (next) (order g.tree)) m) in omega (arith, b.2)) in
        let b = ascending-length (between (s.own) (next) (order g.tree)) in
        let d = between-length (s.own) (next) (order g.tree) in
        omega (arith, length-order g.tree)

    ins-short : length (rest_text true k.taken) ≤ 22 * 65536
    ins-short =
        let a = rest-short true k.taken (each-below k.taken (2 ^ 64) (subst (λ (l : List ℕ). (i : ℕ) → get_or l i 0 < 2 ^ 64) kept-are words)) in
        omega (arith, g.sunk.marks.kept, g.sunk.marks.small)

    control-short : length (control_text c) ≤ 40
    control-short = let n = id-short c c-small in omega (arith, length-append (id_text c) (ascii ",["))

    line-short : length (with_ctrl_line outs c k.taken) ≤ far
    line-short =
        omega (
          arith,
          outs-short,
          ins-short,
          control-short,
          g.shallow,
          ap length (control-line outs c k.taken),
          length-append (rest_text true outs) (pieces (control_text c ∷ rest_text true k.taken ∷ ascii "]) {\n" ∷ [])),
          length-append (control_text c) (pieces (rest_text true k.taken ∷ ascii "]) {\n" ∷ [])),
          length-append (rest_text true k.taken) (ascii "]) {\n"),
        )

    rest₀ : Countable at (pieces (ascii "[" ∷ rest_text true outs ∷ control_text c ∷ rest_text true k.taken ∷ ascii "]) {\n" ∷ []))
    rest₀ = record { end = omega (arith, line-short, ap length (control-line outs c k.taken)) }

    pub bracket-countable : Countable at (ascii "[")
    bracket-countable = countable-first (ascii "[") (pieces (rest_text true outs ∷ control_text c ∷ rest_text true k.taken ∷ ascii "]) {\n" ∷ [])) rest₀

    module _ {text₁ : List ℕ} {a : ℕ} (w₁ : Writes text text₁ at (ascii "[") a) where
      rest₁ : Countable a (pieces (rest_text true outs ∷ control_text c ∷ rest_text true k.taken ∷ ascii "]) {\n" ∷ []))
      rest₁ = countable-next {u = ascii "["} {v = pieces (rest_text true outs ∷ control_text c ∷ rest_text true k.taken ∷ ascii "]) {\n" ∷ [])} rest₀ w₁

      pub outs-at : OutsAt env q (depth + 1) (s.own) (next) a
      outs-at =
          let n : 3 * (depth + 1) ≡ tree_size depth = omega arith in
          record {
            held =
                record {
                  ids = order g.tree;
                  placing = g.placing;
                  number = length-order g.tree;
                  words = ap (λ m. part q m env) n ∙ (g.words ∙ tree-ids g.placing g.tree);
                  within = omega (arith, g.within);
                };
            countable = countable-first (rest_text true outs) (pieces (control_text c ∷ rest_text true k.taken ∷ ascii "]) {\n" ∷ [])) rest₁;
          }

      module _ {text₂ : List ℕ} {b : ℕ}
          (O : (h : OutsAt env q (depth + 1) (s.own) (next) a) → Writes text₁ text₂ a (rest_text true (ascending (between (s.own) (next) h.held.ids))) b) where
        w₂ : Writes text₁ text₂ a (rest_text true outs) b
        unfolding outs-at
        w₂ = O outs-at

        rest₂ : Countable b (pieces (control_text c ∷ rest_text true k.taken ∷ ascii "]) {\n" ∷ []))
        rest₂ = countable-next rest₁ w₂

        pub control-countable : Countable b (control_text c)
        control-countable = countable-first (control_text c) (pieces (rest_text true k.taken ∷ ascii "]) {\n" ∷ [])) rest₂

        module _ {text₃ : List ℕ} {d : ℕ} (w₃ : Writes text₂ text₃ b (control_text c) d) where
          rest₃ : Countable d (pieces (rest_text true k.taken ∷ ascii "]) {\n" ∷ []))
          rest₃ = countable-next {u = control_text c} {v = pieces (rest_text true k.taken ∷ ascii "]) {\n" ∷ [])} rest₂ w₃

          pub kept-countable : Countable d (rest_text true kept)
          kept-countable = subst (λ l. Countable d (rest_text true l)) (sym kept-are) (countable-first (rest_text true k.taken) (ascii "]) {\n") rest₃)

          module _ {text₄ : List ℕ} {e : ℕ} (w : Writes text₃ text₄ d (rest_text true kept) e) where
            w₄ : Writes text₃ text₄ d (rest_text true k.taken) e
            w₄ = subst (λ l. Writes text₃ text₄ d (rest_text true l) e) kept-are w

            pub end-countable : Countable e (ascii "]) {\n")
            end-countable = countable-next {u = rest_text true k.taken} {v = ascii "]) {\n"} rest₃ w₄

            pub opened-line : {text₅ : List ℕ} {r : ℕ} → Writes text₄ text₅ e (ascii "]) {\n") r → Lines (opening k g.tree c (next)) text₅ r
            opened-line {text₅} {r} w₅ =
                let w : List ℕ = with_ctrl_line (ascending (between k.own (next) (order g.tree))) c k.taken in
                let all : Writes text text₅ at (pieces (ascii "[" ∷ rest_text true outs ∷ control_text c ∷ rest_text true k.taken ∷ ascii "]) {\n" ∷ [])) r =
                writes_then w₁ (writes_then w₂ (writes_then w₃ (writes_then w₄ w₅))) in
                let same : pieces (ascii "[" ∷ rest_text true outs ∷ control_text c ∷ rest_text true k.taken ∷ ascii "]) {\n" ∷ []) ≡ w =
                sym (control-line outs c k.taken) ∙ ap (λ n. with_ctrl_line (ascending (between n (next) (order g.tree))) c k.taken) g.sunk.own-is in
                let as_line : Writes text text₅ at w r = subst (λ l. Writes text text₅ at l r) same all in
                let long : length w ≤ far = omega (arith, line-short, ap length (sym (control-line outs c k.taken)), ap length same) in
                let e : put w (resumed k) ≡ landed w (resumed k) = put-near w (resumed k) (omega (arith, g.sunk.at-is)) in
                subst (λ a. Lines a text₅ r) (sym e)
                (record {
                  written = as_line.content ∙ (ap (λ t. sets t at w) g.sunk.text-is ∙ ap (λ n. sets k.text n w) g.sunk.at-is);
                  end_is = omega (arith, as_line.count, g.sunk.at-is);
                  near = omega (arith, as_line.count);
                })

  -- the listing goes on behind it
  pub opens : {c end : ℕ} {text' : List ℕ} {w old : Walk} → old.sink ≡ s → Lines (opening k g.tree c old.machine.streams) text' end → Resumes k end w old → Opens k g.tree c text' w old
  opens {c} {end} {text'} {w} {old} e l r =
      let a : Sink = opening k g.tree c old.machine.streams in
      let p = put-stays (with_ctrl_line (ascending (between k.own old.machine.streams (order g.tree))) c k.taken) (resumed k) in
      record {
        sunk =
            record {
              mode-is = r.mode-is ∙ sym p.mode;
              at-is = r.at-is ∙ l.end_is;
              own-is = r.own-is ∙ sym p.own;
              marks = subst (λ us. Marks us a.most w.sink.kept) (sym p.taken) (subst (λ n. Marks [] n w.sink.kept) (sym p.most) r.marks);
              near = subst (λ n. n ≤ far + far) l.end_is l.near;
              text-is = l.written;
              plain = λ e. record { own = p.own; taken = p.taken };
            };
        machine = r.machine;
      }
