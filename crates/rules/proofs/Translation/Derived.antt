-- For every checked expression the translation rules derive code, which is that of `code` up to the grouping of `;`, and the tree of `tree`.
use Prim.Native.Nat.{ℕ, suc, ◌+◌}
use native.Mathlib.Omega.{arith}
use mathlib.Core.Bool.{Bool}
use mathlib.Core.List.{List, [], ◌∷◌, ◌++◌}
use mathlib.Core.Option.{Option, some, none}
use mathlib.Core.Path.{◌≡◌, refl, sym, ap, ◌∙◌, subst}
use borrow.Author.Tests.{eq-eqb}
use lib.IntN.{ℤ, pos}
use lib.ListN.{length}
use Rattle.laws.proofs.Never.{never}
use Rattle.snesl.specs.declared.code.Base.{Base}
use Rattle.snesl.specs.declared.code.Operation.{Operation}
use Rattle.snesl.specs.declared.code.Variable.{Variable}
use Rattle.snesl.specs.declared.code.Transducer.TheVariants.{Const, ConstBool, ToFlags, Usum, MapTwo, MapOneNot, ScanPlus, SumPlus}
use Rattle.snesl.specs.Values.{ValueType, scalar, braces, bool, depth_of}
use Rattle.snesl.specs.Terms as terms
use Rattle.snesl.specs.Terms.{◌∋◌, Term, any_type, listed_types, All, ◌▹◌, lookup}
use Rattle.snesl.specs.Trees.{Tree, IdTree, leaf, node, inner, outer, root, order}
use Rattle.snesl.specs.Transducers.{operands}
use Rattle.snesl.specs.Programs as programs
use Rattle.snesl.specs.Programs.{Program, done, define, ◌⨾◌, count, among, ascending, insert, member}
use Rattle.snesl.specs.Translation as functions
use Rattle.snesl.specs.Translation.{pack_size, packs_size, pack_tree, pack_trees, pack_code, pack_codes, size, numbered, distrs, controlled, tree, code}
use Rattle.snesl.specs.Records as raw
use Rattle.snesl.specs.Records.{Raw}
use Rattle.snesl.specs.Checking.{Name, Found, missing, found, find, NamedListing, any_first, listed_any, any_pointers, any_names, AnyScalar, no_scalar, a_scalar, as_scalar, NamedScalars, listed_first, listed_scalars, listed_names, pointers}
use Rattle.snesl.proofs.Compiled.Freshness.{count_code}
use Rattle.snesl.proofs.Compiled.Packing.{count-pack, count-packs}
use Rattle.rules.specs.Names.{Env, named, Maps, maps_none, maps-more, env_of}
use Rattle.rules.specs.Typing.{calls-const, calls-truth, calls-iota, calls-operation, calls-negation, calls-sum}
use Rattle.rules.specs.Xducers as xducers
use Rattle.rules.specs.Xducers.{xducer}
use Rattle.rules.specs.Instructions.{Svcode, nop, assign, with_ctrl, seq, written}
use Rattle.rules.specs.Trees.{STree, one, pair, ids, plain_tree, trees_of}
use Rattle.rules.specs.Agreement.{Translated}
use Rattle.rules.specs.Translation.{dv, fv, becomes-const, becomes-truth, becomes-operation, becomes-negation, becomes-iota, becomes-sum, Packs, packs-one, packs-pair, PacksAll}
use Rattle.rules.specs.Translation.{packs-none, packs-more, Copies, copies-none, copies-more, Translates, translates-var, translates-let, translates-call, translates-each, translates-guard, regroup}
use Rattle.rules.proofs.Names.{Looks, looking, looks-found, looks-scalar, looks-int, looks-bool, looks-ints, LooksAtSequence, as-sequence, along}
use Rattle.rules.proofs.Typing.{Resolved, resolved-var, resolved-let, resolved-const, resolved-truth, resolved-iota, resolved-operation, resolved-negation, resolved-sum, resolved-each, resolved-guard}
use Rattle.rules.proofs.Translation.Regrouped.{dv-grouped, fv-grouped, dv-written, fv-written}

-- a program with its ids written out, then k
written_then : ℕ → Program → Svcode → Svcode
written_then s done k = k
written_then s (define t p) k = seq (assign s (xducer t) (operands t)) (written_then (suc s) p k)
written_then s (programs.with_ctrl outs c ins b p) k = seq (with_ctrl outs c ins (written s b)) (written_then (s + count b) p k)

then-nop : (s : ℕ) (p : Program) → written_then s p nop ≡ written s p
unfolding written_then written
then-nop s done = refl
then-nop s (define t p) = ap (seq (assign s (xducer t) (operands t))) (then-nop (suc s) p)
then-nop s (programs.with_ctrl outs c ins b p) = ap (seq (with_ctrl outs c ins (written s b))) (then-nop (s + count b) p)

then-seq : (s : ℕ) (p q : Program) (k : Svcode) → written_then s (p ⨾ q) k ≡ written_then s p (written_then (s + count p) q k)
unfolding written_then ◌⨾◌ count
then-seq s done q k = let e : s ≡ s + 0 = omega arith in ap (λ j. written_then j q k) e
then-seq s (define t p) q k =
    let e : suc s + count p ≡ s + suc (count p) = omega arith in
    ap (seq (assign s (xducer t) (operands t))) (then-seq (suc s) p q k ∙ ap (λ j. written_then (suc s) p (written_then j q k)) e)
then-seq s (programs.with_ctrl outs c ins b p) q k =
    let e : s + count b + count p ≡ s + (count b + count p) = omega arith in
    ap (seq (with_ctrl outs c ins (written s b))) (then-seq (s + count b) p q k ∙ ap (λ j. written_then (s + count b) p (written_then j q k)) e)

record Made (δ : Env STree) (e : Raw) (s₀ s₁ : ℕ) (st : STree) (P : Program) : Type 0 where
  made : Svcode
  derives : Translates δ e s₀ s₁ made st
  grouped : (k : Svcode) → regroup made k ≡ written_then s₀ P k

-- ---- trees of a depth, taken apart

plain-root : (t : Tree ℕ 0) → plain_tree t ≡ one (root t)
unfolding plain_tree root
plain-root (leaf s) = refl

plain-parts : {d : ℕ} (t : Tree ℕ (suc d)) → plain_tree t ≡ pair (plain_tree (inner t)) (outer t)
unfolding plain_tree inner outer
plain-parts (node t s) = refl

pub ids-plain : {d : ℕ} (st : Tree ℕ d) → ids (plain_tree st) ≡ order st
unfolding ids plain_tree order
ids-plain (leaf s) = refl
ids-plain (node st s) = ap (λ l. l ++ s ∷ []) (ids-plain st)

-- what iota's WithCtrl puts out and takes in
among-itself : (s : ℕ) → among (s ∷ []) (s ∷ []) ≡ s ∷ []
unfolding among member
among-itself s = rw (eq-eqb s s refl, among)

iota-outs : (s : ℕ) → ascending (among (order (leaf s)) (programs.dv s (define (Const (pos 1)) done))) ≡ s ∷ []
unfolding order programs.dv ascending insert
iota-outs s = ap ascending (among-itself s)

iota-ins : (s : ℕ) → ascending (programs.fv s (define (Const (pos 1)) done)) ≡ []
unfolding programs.fv programs.without ascending
iota-ins s = refl

module _ (δ : Env STree) {k : ℕ} (s : ℕ) where
  made-const : (z : ℤ) → Made δ (raw.const k z) s (s + 1) (one s) (define (Const z) done)
  unfolding regroup written_then
  made-const z = record { made = assign s (xducers.const z) []; derives = translates-call calls-const maps_none (becomes-const refl); grouped = λ k. refl }

  made-truth : (c : Bool) → Made δ (raw.truth k c) s (s + 1) (one s) (define (ConstBool c) done)
  unfolding regroup written_then
  made-truth c = record { made = assign s (xducers.const_bool c) []; derives = translates-call calls-truth maps_none (becomes-truth refl); grouped = λ k. refl }

  made-operation : (o : Operation) {x y : Variable} {a b : ℕ} → Maps δ x (one a) → Maps δ y (one b)
      → Made δ (raw.operation k o x y) s (s + 1) (one s) (define (MapTwo o (functions.id a) (functions.id b)) done)
  unfolding regroup written_then
  made-operation o {a = a} {b = b} m n =
      record { made = assign s (xducers.map_two o) (a ∷ b ∷ []); derives = translates-call calls-operation (maps-more m (maps-more n maps_none)) (becomes-operation refl); grouped = λ k. refl }

  made-negation : {x : Variable} {a : ℕ} → Maps δ x (one a) → Made δ (raw.negation k x) s (s + 1) (one s) (define (MapOneNot (functions.id a)) done)
  unfolding regroup written_then
  made-negation {a = a} m = record { made = assign s xducers.map_one_not (a ∷ []); derives = translates-call calls-negation (maps-more m maps_none) (becomes-negation refl); grouped = λ k. refl }

  made-sum : {x : Variable} {a b : ℕ} → Maps δ x (pair (one a) b) → Made δ (raw.sum k x) s (s + 1) (one s) (define (SumPlus (functions.id b) (functions.id a)) done)
  unfolding regroup written_then
  made-sum {a = a} {b = b} m =
      record { made = assign s xducers.sum_plus (b ∷ a ∷ []); derives = translates-call calls-sum (maps-more m maps_none) (becomes-sum refl); grouped = λ k. refl }

  made-iota : {x : Variable} {r : ℕ} → Maps δ x (one r)
      → Made δ (raw.iota k x) s (s + 4) (pair (one (s + 3)) s)
      (define (ToFlags (functions.id r)) (define (Usum (functions.id s))
      (controlled (s + 1) (s + 2) (define (Const (pos 1)) done) (leaf (s + 2)) ⨾ define (ScanPlus (pos 0) (functions.id s) (functions.id (s + 2))) done)))
  unfolding regroup written_then ◌⨾◌ written count
  made-iota {r = r} m =
      let e₁ : s + 1 ≡ suc s = omega arith in
      let e₂ : s + 2 ≡ suc (suc s) = omega arith in
      let e₃ : s + 3 ≡ suc (suc s) + 1 = omega arith in
      let outs = sym (iota-outs (s + 2)) in
      let ins = sym (iota-ins (s + 2)) in
      record {
        made =
            seq (assign s xducers.to_flags (r ∷ []))
            (seq (assign (s + 1) xducers.usum (s ∷ []))
            (seq (with_ctrl ((s + 2) ∷ []) (s + 1) [] (assign (s + 2) (xducers.const (pos 1)) [])) (assign (s + 3) (xducers.scan_plus (pos 0)) (s ∷ (s + 2) ∷ []))));
        derives = translates-call calls-iota (maps-more m maps_none) (becomes-iota refl refl refl refl);
        grouped =
            λ k i.
            seq (assign s xducers.to_flags (r ∷ []))
            (seq (assign (e₁ i) xducers.usum (s ∷ []))
            (seq (with_ctrl (outs i) (s + 1) (ins i) (seq (assign (e₂ i) (xducers.const (pos 1)) []) nop)) (seq (assign (e₃ i) (xducers.scan_plus (pos 0)) (s ∷ (s + 2) ∷ [])) k)));
      }

-- the copies of listed variables
record Copied {Γ : List ValueType} (scope : All Name Γ) (δ : All IdTree Γ) (sb : ℕ) (us : List Variable) (ls : NamedScalars Γ) (s : ℕ) : Type 0 where
  made : Svcode
  derives : Copies (trees_of scope δ) sb us s (s + length (pointers ls)) made (trees_of (listed_names ls) (numbered s (pointers ls)))
  grouped : (q : Program) (k : Svcode) → regroup made (written_then (s + length (pointers ls)) q k) ≡ written_then s (distrs sb (pointers ls) δ q) k

module _ {Γ : List ValueType} (scope : All Name Γ) (δ : All IdTree Γ) (sb : ℕ) where
  copied : (us : List Variable) {ls : NamedScalars Γ} (s : ℕ) → listed_scalars scope us ≡ some ls → Copied scope δ sb us ls s
  unfolding listed_scalars listed_names numbered distrs env_of regroup written_then plain_tree
  copied [] {ls} s e = let q : [] ≡ ls = cc in subst (λ l. Copied scope δ sb [] l s) q none-copied
    where
      none-copied : Copied scope δ sb [] [] s
      none-copied = let z : s + 0 ≡ s = omega arith in record { made = nop; derives = copies-none z; grouped = λ q k. ap (λ j. written_then j q k) z }
  copied (u ∷ us) {ls} s e = go (as_scalar (find u scope)) refl (listed_scalars scope us) refl e (λ l q. copied us (suc s) q)
    where
      more : (b : Base) (v : Γ ∋ scalar b) (l : NamedScalars Γ) → as_scalar (find u scope) ≡ a_scalar b v → Copied scope δ sb us l (suc s) → Copied scope δ sb (u ∷ us) ((u, (b, v)) ∷ l) s
      more b v l qo w =
          let far : suc s + length (pointers l) ≡ s + suc (length (pointers l)) = omega arith in
          let m : Maps (trees_of scope δ) u (one (root (lookup v δ))) = subst (Maps (trees_of scope δ) u) (plain-root (lookup v δ)) (looks-scalar (looking (λ τ. plain_tree) scope δ u) qo) in
          record {
            made = seq (assign s xducers.distr (sb ∷ root (lookup v δ) ∷ [])) w.made;
            derives = copies-more m (subst (λ j. Copies (trees_of scope δ) sb us (suc s) j w.made (trees_of (listed_names l) (numbered (suc s) (pointers l)))) far w.derives);
            grouped = λ q k. ap (seq (assign s xducers.distr (sb ∷ root (lookup v δ) ∷ []))) (ap (λ j. regroup w.made (written_then j q k)) (sym far) ∙ w.grouped q k);
          }

      go : (o : AnyScalar Γ) → as_scalar (find u scope) ≡ o → (r : Option (NamedScalars Γ)) → listed_scalars scope us ≡ r
          → listed_first u o r ≡ some ls
          → ((l : NamedScalars Γ) → listed_scalars scope us ≡ some l → Copied scope δ sb us l (suc s))
          → Copied scope δ sb (u ∷ us) ls s
      go no_scalar qo r qr q below = never (cc)
      go (a_scalar b v) qo none qr q below = never (cc)
      go (a_scalar b v) qo (some l) qr q below = let z : (u, (b, v)) ∷ l ≡ ls = cc in subst (λ l. Copied scope δ sb (u ∷ us) l s) z (more b v l qo (below l qr))

-- ---- all of it

-- a body's code, put under a control
module _ {d : ℕ} (s₀ : ℕ) (st : Tree ℕ d) (P : Program) (q : Svcode) (g : (k : Svcode) → regroup q k ≡ written_then s₀ P k) where
  body-grouped : regroup q nop ≡ written s₀ P
  body-grouped = g nop ∙ then-nop s₀ P

  body-ins : ascending (programs.fv s₀ P) ≡ ascending (fv q)
  body-ins = ap ascending (sym (fv-written s₀ P) ∙ ap fv (sym body-grouped) ∙ fv-grouped q)

  body-outs : ascending (among (order st) (programs.dv s₀ P)) ≡ ascending (among (ids (plain_tree st)) (dv q))
  body-outs =
      let defined : programs.dv s₀ P ≡ dv q = sym (dv-written s₀ P) ∙ ap dv (sym body-grouped) ∙ dv-grouped q in
      λ i. ascending (among (sym (ids-plain st) i) (defined i))

-- ---- packing

record Packed {d : ℕ} (b : ℕ) (t : Tree ℕ d) (s : ℕ) : Type 0 where
  made : Svcode
  derives : Packs b (plain_tree t) s (s + pack_size d) made (plain_tree (pack_tree t s))
  grouped : (k : Svcode) → regroup made k ≡ written_then s (pack_code b t s) k

packing : {d : ℕ} (b : ℕ) (t : Tree ℕ d) (s : ℕ) → Packed b t s
unfolding pack_code pack_tree pack_size plain_tree regroup written_then
packing b (leaf x) s = record { made = assign s xducers.pack (b ∷ x ∷ []); derives = packs-one refl; grouped = λ k. refl }
packing b (node {d = d} t f) s =
    let w = packing (s + 1) t (s + 3) in
    let P = pack_code (s + 1) t (s + 3) in
    let st = pack_tree t (s + 3) in
    let outs = ascending (among (order st) (programs.dv (s + 3) P)) in
    let ins = ascending (programs.fv (s + 3) P) in
    let end : s + 3 + pack_size d ≡ s + (3 + pack_size d) = omega arith in
    let e₁ : s + 1 ≡ suc s = omega arith in
    let e₂ : s + 2 ≡ suc (suc s) = omega arith in
    let e₃ : s + 3 ≡ suc (suc (suc s)) = omega arith in
    let body = body-grouped (s + 3) st P w.made w.grouped ∙ ap (λ j. written j P) e₃ in
    record {
      made =
          seq (assign s xducers.upack (b ∷ f ∷ []))
          (seq (assign (s + 1) xducers.distr (f ∷ b ∷ [])) (seq (assign (s + 2) xducers.usum (f ∷ [])) (with_ctrl outs (s + 2) ins w.made)));
      derives =
          packs-pair refl refl refl (subst (λ j. Packs (s + 1) (plain_tree t) (s + 3) j w.made (plain_tree st)) end w.derives)
          (body-ins (s + 3) st P w.made w.grouped) (body-outs (s + 3) st P w.made w.grouped);
      grouped =
          λ k i.
          seq (assign s xducers.upack (b ∷ f ∷ []))
          (seq (assign (e₁ i) xducers.distr (f ∷ b ∷ [])) (seq (assign (e₂ i) xducers.usum (f ∷ [])) (seq (with_ctrl outs (s + 2) ins (body i)) k)));
    }

record PackedAll {Γ : List ValueType} (scope : All Name Γ) (δ : All IdTree Γ) (b : ℕ) (us : List Variable) (ls : NamedListing Γ) (s : ℕ) : Type 0 where
  made : Svcode
  derives : PacksAll (trees_of scope δ) b us s (s + packs_size (any_pointers ls)) made (trees_of (any_names ls) (pack_trees (any_pointers ls) δ s))
  grouped : (k : Svcode) → regroup made k ≡ written_then s (pack_codes b (any_pointers ls) δ s) k

module _ {Γ : List ValueType} (scope : All Name Γ) (δ : All IdTree Γ) (b : ℕ) where
  packing-all : (us : List Variable) {ls : NamedListing Γ} (s : ℕ) → listed_any scope us ≡ some ls → PackedAll scope δ b us ls s
  unfolding listed_any any_names pack_trees pack_codes packs_size env_of regroup written_then
  packing-all [] {ls} s e = let q : [] ≡ ls = cc in subst (λ l. PackedAll scope δ b [] l s) q none-packed
    where
      none-packed : PackedAll scope δ b [] [] s
      none-packed = let z : s + 0 ≡ s = omega arith in record { made = nop; derives = packs-none z; grouped = λ k. refl }
  packing-all (u ∷ us) {ls} s e = go (find u scope) (looking (λ τ. plain_tree) scope δ u) (listed_any scope us) refl e (λ l s q. packing-all us s q)
    where
      more : (τ : ValueType) (v : Γ ∋ τ) (l : NamedListing Γ) → Maps (trees_of scope δ) u (plain_tree (lookup v δ)) → PackedAll scope δ b us l (s + pack_size (depth_of τ))
          → PackedAll scope δ b (u ∷ us) ((u, (τ, v)) ∷ l) s
      more τ v l m w =
          let p = packing b (lookup v δ) s in
          let n = pack_size (depth_of τ) in
          let P₁ = pack_code b (lookup v δ) s in
          let P₂ = pack_codes b (any_pointers l) δ (s + n) in
          let end : s + n + packs_size (any_pointers l) ≡ s + (n + packs_size (any_pointers l)) = omega arith in
          record {
            made = seq p.made w.made;
            derives = packs-more m p.derives (subst (λ j. PacksAll (trees_of scope δ) b us (s + n) j w.made (trees_of (any_names l) (pack_trees (any_pointers l) δ (s + n)))) end w.derives);
            grouped =
                λ k.
                p.grouped (regroup w.made k)
                ∙ ap (written_then s P₁) (w.grouped k ∙ ap (λ j. written_then (s + j) P₂ k) (sym (count-pack b (lookup v δ) s)))
                ∙ sym (then-seq s P₁ P₂ k);
          }

      go : (o : Found Γ) → Looks (λ τ. plain_tree) scope δ u o → (r : Option (NamedListing Γ)) → listed_any scope us ≡ r
          → any_first u o r ≡ some ls
          → ((l : NamedListing Γ) (s : ℕ) → listed_any scope us ≡ some l → PackedAll scope δ b us l s)
          → PackedAll scope δ b (u ∷ us) ls s
      go missing h r qr q below = never (cc)
      go (found τ v) h none qr q below = never (cc)
      go (found τ v) h (some l) qr q below =
          let z : (u, (τ, v)) ∷ l ≡ ls = cc in
          subst (λ l. PackedAll scope δ b (u ∷ us) l s) z (more τ v l (looks-found h) (below l (s + pack_size (depth_of τ)) qr))

module _ {Γ : List ValueType} (scope : All Name Γ) (δ : All IdTree Γ) {k : ℕ} (s : ℕ) {τ : ValueType} {g : Variable} {us : List Variable} {e : Raw} (v : Γ ∋ bool)
    (ls : NamedListing Γ) (t : Term (listed_types (any_pointers ls)) τ) where
  made-guard : Maps (trees_of scope δ) g (one (root (lookup v δ)))
      → listed_any scope us ≡ some ls
      → Made (trees_of (any_names ls) (pack_trees (any_pointers ls) δ (s + 2))) e (s + (2 + packs_size (any_pointers ls))) (s + (2 + packs_size (any_pointers ls)) + size t)
      (plain_tree (tree t (pack_trees (any_pointers ls) δ (s + 2)) (s + (2 + packs_size (any_pointers ls)))))
      (code t (pack_trees (any_pointers ls) δ (s + 2)) (s + (2 + packs_size (any_pointers ls))))
      → Made (trees_of scope δ) (raw.guard k g us e) s (s + size (terms.guard v (any_pointers ls) t)) (plain_tree (tree (terms.guard v (any_pointers ls) t) δ s)) (code (terms.guard v (any_pointers ls) t) δ s)
  unfolding code tree size regroup written_then plain_tree
  made-guard m ql w =
      let b = root (lookup v δ) in
      let n = packs_size (any_pointers ls) in
      let N = s + (2 + n) in
      let inside = pack_trees (any_pointers ls) δ (s + 2) in
      let packs = packing-all scope δ b us (s + 2) ql in
      let st = tree t inside N in
      let P = code t inside N in
      let ParamKind = pack_codes b (any_pointers ls) δ (s + 2) in
      let env = trees_of (any_names ls) inside in
      let outs = ascending (among (order st) (programs.dv N P)) in
      let ins = ascending (programs.fv N P) in
      let near : s + 2 + n ≡ N = omega arith in
      let end : N + size t ≡ s + (2 + (n + size t)) = omega arith in
      let e₁ : s + 1 ≡ suc s = omega arith in
      let e₂ : s + 2 ≡ suc (suc s) = omega arith in
      let far : N ≡ suc (suc s) + count ParamKind = omega (arith, count-packs b (any_pointers ls) δ (s + 2)) in
      let under : ℕ → Svcode → Svcode = λ j k. seq (with_ctrl outs (s + 1) ins (written j P)) k in
      let rest : (k : Svcode) → regroup packs.made (seq (with_ctrl outs (s + 1) ins (regroup w.made nop)) k) ≡ written_then (suc (suc s)) (ParamKind ⨾ controlled (s + 1) N P st) k =
      λ k.
      ap (λ b. regroup packs.made (seq (with_ctrl outs (s + 1) ins b) k)) (body-grouped N st P w.made w.grouped)
      ∙ packs.grouped (under N k)
      ∙ ap (λ j. written_then (s + 2) ParamKind (under j k)) far
      ∙ ap (λ j. written_then j ParamKind (under (suc (suc s) + count ParamKind) k)) e₂
      ∙ sym (then-seq (suc (suc s)) ParamKind (controlled (s + 1) N P st) k) in
      record {
        made = seq (assign s xducers.b2u (b ∷ [])) (seq (assign (s + 1) xducers.usum (s ∷ [])) (seq packs.made (with_ctrl outs (s + 1) ins w.made)));
        derives =
            translates-guard m refl refl (subst (λ j. PacksAll (trees_of scope δ) b us (s + 2) j packs.made env) near packs.derives)
            (subst (λ j. Translates env e N j w.made (plain_tree st)) end w.derives)
            (body-ins N st P w.made w.grouped) (body-outs N st P w.made w.grouped);
        grouped = λ k i. seq (assign s xducers.b2u (b ∷ [])) (seq (assign (e₁ i) xducers.usum (s ∷ [])) (rest k i));
      }

module _ {Γ : List ValueType} (scope : All Name Γ) (δ : All IdTree Γ) {k : ℕ} (s : ℕ) {c d : ValueType} {x y : Variable} {us : List Variable} {e : Raw} (v : Γ ∋ braces c)
    (ls : NamedScalars Γ) (t : Term (c ∷ listed_types (any_type (pointers ls))) d) where
  made_each : Maps (trees_of scope δ) y (plain_tree (lookup v δ))
      → listed_scalars scope us ≡ some ls
      → Made (trees_of (◌▹◌ {τ = c} x (listed_names ls)) (functions.within v (pointers ls) δ s)) e (s + (1 + length (pointers ls))) (s + (1 + length (pointers ls)) + size t)
      (plain_tree (tree t (functions.within v (pointers ls) δ s) (s + (1 + length (pointers ls)))))
      (code t (functions.within v (pointers ls) δ s) (s + (1 + length (pointers ls))))
      → Made (trees_of scope δ) (raw.each k x y us e) s (s + size (terms.each v (pointers ls) t)) (plain_tree (tree (terms.each v (pointers ls) t) δ s)) (code (terms.each v (pointers ls) t) δ s)
  unfolding code tree size regroup written_then env_of plain_tree
  made_each m ql w =
      let sb = outer (lookup v δ) in
      let far : suc s + length (pointers ls) ≡ s + (1 + length (pointers ls)) = omega arith in
      let end : s + (1 + length (pointers ls)) + size t ≡ s + (1 + (length (pointers ls) + size t)) = omega arith in
      let n = s + (1 + length (pointers ls)) in
      let inside = functions.within v (pointers ls) δ s in
      let copies = copied scope δ sb us (suc s) ql in
      let st = tree t inside n in
      let P = code t inside n in
      let env = trees_of (◌▹◌ {τ = c} x (listed_names ls)) inside in
      let outs = ascending (among (order st) (programs.dv n P)) in
      let ins = ascending (programs.fv n P) in
      let body = body-grouped n st P w.made w.grouped in
      record {
        made = seq (assign s xducers.usum (sb ∷ [])) (seq copies.made (with_ctrl outs s ins w.made));
        derives =
            translates-each (subst (Maps (trees_of scope δ) y) (plain-parts (lookup v δ)) m)
            (subst (λ j. Copies (trees_of scope δ) sb us (suc s) j copies.made (trees_of (listed_names ls) (numbered (suc s) (pointers ls)))) far copies.derives)
            (subst (λ j. Translates env e n j w.made (plain_tree st)) end w.derives)
            (body-ins n st P w.made w.grouped) (body-outs n st P w.made w.grouped);
        grouped =
            λ k.
            ap (seq (assign s xducers.usum (sb ∷ [])))
            (ap (λ b. regroup copies.made (seq (with_ctrl outs s ins b) k)) body
            ∙ ap (λ j. regroup copies.made (seq (with_ctrl outs s ins (written j P)) k)) (sym far)
            ∙ copies.grouped (controlled s n P st) k);
      }

module _ {Γ : List ValueType} (scope : All Name Γ) (δ : All IdTree Γ) (s : ℕ) where
  made-var : {d : ValueType} {k : ℕ} {x : Variable} (v : Γ ∋ d) → Maps (trees_of scope δ) x (plain_tree (lookup v δ)) → Made (trees_of scope δ) (raw.var k x) s (s + 0) (plain_tree (lookup v δ)) done
  unfolding regroup written_then
  made-var v m = let e : s + 0 ≡ s = omega arith in record { made = nop; derives = translates-var m e; grouped = λ k. refl }

  made-let : {c d : ValueType} {k : ℕ} {x : Variable} {e₁ e₂ : Raw} (t₁ : Term Γ c) (t₂ : Term (c ∷ Γ) d)
      → Made (trees_of scope δ) e₁ s (s + size t₁) (plain_tree (tree t₁ δ s)) (code t₁ δ s)
      → Made (trees_of (◌▹◌ {τ = c} x scope) (tree t₁ δ s ▹ δ)) e₂ (s + size t₁) (s + size t₁ + size t₂)
      (plain_tree (tree t₂ (tree t₁ δ s ▹ δ) (s + size t₁))) (code t₂ (tree t₁ δ s ▹ δ) (s + size t₁))
      → Made (trees_of scope δ) (raw.bind k x e₁ e₂) s (s + size (terms.bind t₁ t₂)) (plain_tree (tree (terms.bind t₁ t₂) δ s)) (code (terms.bind t₁ t₂) δ s)
  unfolding code tree size regroup env_of
  made-let {x = x} {e₂ = e₂} t₁ t₂ w₁ w₂ =
      let end : s + size t₁ + size t₂ ≡ s + (size t₁ + size t₂) = omega arith in
      let inside = tree t₁ δ s ▹ δ in
      let P₁ = code t₁ δ s in
      let P₂ = code t₂ inside (s + size t₁) in
      record {
        made = seq w₁.made w₂.made;
        derives =
            translates-let w₁.derives
            (subst (λ j. Translates (named x (plain_tree (tree t₁ δ s)) (trees_of scope δ)) e₂ (s + size t₁) j w₂.made (plain_tree (tree t₂ inside (s + size t₁)))) end w₂.derives);
        grouped =
            λ k.
            w₁.grouped (regroup w₂.made k)
            ∙ ap (written_then s P₁) (w₂.grouped k ∙ ap (λ j. written_then (s + j) P₂ k) (sym (count_code t₁ δ s)))
            ∙ sym (then-seq s P₁ P₂ k);
      }

making : {Γ : List ValueType} {scope : All Name Γ} {e : Raw} {d : ValueType} {t : Term Γ d} → Resolved Γ scope e d t → (δ : All IdTree Γ) (s : ℕ)
    → Made (trees_of scope δ) e s (s + size t) (plain_tree (tree t δ s)) (code t δ s)
unfolding code tree size plain_tree
making {scope = scope} (resolved-var {x = x} {v = v} q) δ s =
    made-var scope δ s v (looks-found (subst (Looks (λ τ. plain_tree) scope δ x) q (looking (λ τ. plain_tree) scope δ x)))
making {scope = scope} (resolved-let {c = c} {x = x} {t₁ = t₁} {t₂ = t₂} h k) δ s = made-let scope δ s t₁ t₂ (making h δ s) (making k (tree t₁ δ s ▹ δ) (s + size t₁))
making resolved-const δ s = made-const _ s _
making {scope = scope} (resolved-iota {x = x} {v = v} q) δ s =
    made-iota _ s (subst (Maps (trees_of scope δ) x) (plain-root (lookup v δ)) (looks-int (looking (λ τ. plain_tree) scope δ x) q))
making resolved-truth δ s = made-truth _ s _
making {scope = scope} (resolved-operation {o = o} {x = x} {y = y} {v = v} {w = w} q r) δ s =
    made-operation _ s o (subst (Maps (trees_of scope δ) x) (plain-root (lookup v δ)) (looks-int (looking (λ τ. plain_tree) scope δ x) q))
    (subst (Maps (trees_of scope δ) y) (plain-root (lookup w δ)) (looks-int (looking (λ τ. plain_tree) scope δ y) r))
making {scope = scope} (resolved-negation {x = x} {v = v} q) δ s =
    made-negation _ s (subst (Maps (trees_of scope δ) x) (plain-root (lookup v δ)) (looks-bool (looking (λ τ. plain_tree) scope δ x) q))
making {scope = scope} (resolved-guard {g = g} {us = us} {v = v} {ls = ls} {t = t} qv ql h) δ s =
    made-guard scope δ s v ls t (subst (Maps (trees_of scope δ) g) (plain-root (lookup v δ)) (looks-bool (looking (λ τ. plain_tree) scope δ g) qv)) ql
    (making h (pack_trees (any_pointers ls) δ (s + 2)) (s + (2 + packs_size (any_pointers ls))))
making {scope = scope} (resolved-sum {x = x} {v = v} q) δ s =
    made-sum _ s
    (subst (Maps (trees_of scope δ) x) (plain-parts (lookup v δ) ∙ ap (λ t. pair t (outer (lookup v δ))) (plain-root (inner (lookup v δ))))
    (looks-ints (looking (λ τ. plain_tree) scope δ x) q))
making {scope = scope} (resolved-each {c = c} {x = x} {y = y} {us = us} {v = v} {ls = ls} {t = t} qv ql h) δ s =
    made_each scope δ s v ls t (along (subst (LooksAtSequence (λ τ. plain_tree) scope δ y) qv (as-sequence (looking (λ τ. plain_tree) scope δ y)))) ql
    (making h (functions.within v (pointers ls) δ s) (s + (1 + length (pointers ls))))

pub translated : {Γ : List ValueType} {scope : All Name Γ} {e : Raw} {d : ValueType} {t : Term Γ d} → Resolved Γ scope e d t → (δ : All IdTree Γ) (s : ℕ)
    → Translated (trees_of scope δ) e s (s + size t) (plain_tree (tree t δ s)) (code t δ s)
translated {t = t} h δ s = let w = making h δ s in record { made = w.made; derives = w.derives; grouped = w.grouped nop ∙ then-nop s (code t δ s) }
