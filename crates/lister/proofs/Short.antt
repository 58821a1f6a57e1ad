-- How long a listing can get: 7,000 bytes for each byte of the formula, more than any record's lines take: the packing of a guard's listed variable, which is one
-- byte of its record, has twenty-five definitions and eight WithCtrls at depth 8. So its length can be counted.
use Prim.Native.Nat.{ℕ, suc, ◌+◌, ◌-◌, ◌*◌, ◌≤◌, ◌<◌, ◌^◌}
use native.Mathlib.Omega.{arith}
use mathlib.Core.Bool.{Bool, true, false, ◌||◌}
use borrow.Author.Tests.{eq-eqb}
use mathlib.Core.List.Memᴰ
use mathlib.Core.List.{List, [], ◌∷◌, ◌++◌, append-nil}
use mathlib.Core.Logic.{⊎_elim}
use mathlib.Core.Path.{◌≡◌, refl, ap, ◌∙◌, subst}
use lib.Dec.{ltb}
use lib.IntN.{ℤ, pos, negsuc}
use lib.ListN.{length, get_or, length-append}
use lib.Signed.{mag}
use Rattle.std.specs.Prelude.{Result}
use Rattle.snesl.specs.declared.refusal.Refusal.{Refusal}
use Rattle.snesl.specs.declared.code.Transducer.{Transducer}
use Rattle.snesl.specs.declared.code.Transducer.TheVariants.{Const, ConstBool, ToFlags, B2u, Usum, MapTwo, MapOneNot, ScanPlus, Distr, SumPlus, Pack, UPack}
use Rattle.snesl.specs.declared.code.Operation.TheVariants.{Plus, LessEqual, Equal}
use Rattle.snesl.specs.Ascii.{ascii, pieces}
use Rattle.snesl.specs.Text.{show_int}
use Rattle.snesl.specs.Limits.{most_depth}
use Rattle.snesl.specs.Values.{ValueType, braces, bool, depth_of}
use Rattle.snesl.specs.Terms.{◌∋◌, Term, each, guard, Listing, Scalars, any_type, listed_types, All, ◌▹◌, lookup}
use Rattle.snesl.specs.Trees.{Tree, IdTree, leaf, node, root, inner, outer, order}
use Rattle.snesl.specs.Transducers.{operands}
use Rattle.snesl.specs.Programs.{done, define, with_ctrl, ◌⨾◌, count, dv, fv, member, without, among, insert, ascending}
use Rattle.snesl.specs.Translation.{id, pack_size, packs_size, size, numbered, within, pack_tree, pack_trees, tree, distrs, controlled, pack_code, pack_codes, code}
use Rattle.snesl.specs.Ids.{ids_of, Below}
use Rattle.snesl.specs.Records.{signed, int_at, single}
use Rattle.snesl.specs.Records as records
use Rattle.snesl.specs.Checking.{Name, pointers, any_pointers}
use Rattle.snesl.specs.Listing.{id_text, ids_text, name_text, define_line, with_ctrl_line, close_line, lines_of, tree_text, result_line}
use Rattle.snesl.specs.Formed.{Formed, formed-var, formed-bind, formed-const, formed-truth, formed-iota, formed-operation, formed-negation, formed-sum, formed-each, formed-guard}
use Rattle.snesl.proofs.Compiled.Members.{◌∈◌, of-among, of-ascending}
use Rattle.snesl.proofs.Compiled.Freshness.{copies, front, code-each, lead, ones, totals, code-iota, gate, count-gate, code-guard, count-front, count_code, ids-root, ids-outer, ids-lookup, order-inner, order-root, defined-next, free-ids}
use Rattle.snesl.proofs.Compiled.Packing.{count-pack, defined-pack, free-pack}
use Rattle.snesl.proofs.Compiled.WellFormed.{below-result, below-within, below-packed}
use Rattle.decimals.proofs.NumberWriting.{at-most-20}
use Rattle.records.proofs.Heads.{Reading, none, beyond, a_var, a_let, a_const, a_truth, an_iota, an_operation, a_negation, a_sum, an_each, a_guard, reading}
use Rattle.sink.proofs.Shorts.{Small, id-short, ids_short, ascending-length}
use Rattle.sink.proofs.Using.{none-small, one-small, two-small}
use Rattle.sink.proofs.Surveying.{within-length}
use Rattle.sink.proofs.Feeding.{lines-seq}
use Rattle.sink.proofs.IdSearch.{length-order}
use Rattle.leaves.specs.Places.{Shallow, shallow-more}
use Rattle.leaves.proofs.Places.{lookup-shallow}
use Rattle.bodies.proofs.Lists.{length-listed}
use Rattle.runner.proofs.Measures.{length-any, any-shallow, shallow-type}
use Rattle.lister.proofs.Shallow.{shallow-body, listing-few, guard-few}

-- ---- lines

among-length : (ss ts : List ℕ) → length (among ss ts) ≤ length ss
unfolding among
among-length [] ts = omega arith
among-length (s ∷ ss) ts = go (member s ts) (among-length ss ts)
  where
    go : (b : Bool) → length (among ss ts) ≤ length ss → length {A = ℕ} (elim b [ true ↦ s ∷ among ss ts | false ↦ among ss ts ]) ≤ suc (length ss)
    go true h = omega arith
    go false h = omega arith

-- a constant that four bytes hold
abbrev Held : ℤ → Type 0
Held z = mag z < 4294967296

int-short : (z : ℤ) → Held z → length (show_int z) ≤ 21
int-short (pos n) h = let m = at-most-20 n (omega arith) in omega arith
int-short (negsuc n) h = let m = at-most-20 (suc n) (omega arith) in omega arith

abbrev HeldIn : Transducer → Type 0
HeldIn (Const z) = Held z
HeldIn (ConstBool c) = Unit
HeldIn (ToFlags s) = Unit
HeldIn (B2u s) = Unit
HeldIn (Usum s) = Unit
HeldIn (MapTwo o s t) = Unit
HeldIn (MapOneNot s) = Unit
HeldIn (ScanPlus z s t) = Held z
HeldIn (Distr s t) = Unit
HeldIn (SumPlus s t) = Unit
HeldIn (Pack s t) = Unit
HeldIn (UPack s t) = Unit

name-short : (t : Transducer) → HeldIn t → length (name_text t) ≤ 30
name-short (Const z) h = let n = int-short z h in omega arith
name-short (ConstBool true) h = omega arith
name-short (ConstBool false) h = omega arith
name-short (ToFlags s) h = omega arith
name-short (B2u s) h = omega arith
name-short (Usum s) h = omega arith
name-short (MapTwo Plus s t) h = omega arith
name-short (MapTwo LessEqual s t) h = omega arith
name-short (MapTwo Equal s t) h = omega arith
name-short (MapOneNot s) h = omega arith
name-short (ScanPlus z s t) h = let n = int-short z h in omega arith
name-short (Distr s t) h = omega arith
name-short (SumPlus s t) h = omega arith
name-short (Pack s t) h = omega arith
name-short (UPack s t) h = omega arith

operands-few : (t : Transducer) → length (operands t) ≤ 2
operands-few (Const z) = omega arith
operands-few (ConstBool c) = omega arith
operands-few (ToFlags s) = omega arith
operands-few (B2u s) = omega arith
operands-few (Usum s) = omega arith
operands-few (MapTwo o s t) = omega arith
operands-few (MapOneNot s) = omega arith
operands-few (ScanPlus z s t) = omega arith
operands-few (Distr s t) = omega arith
operands-few (SumPlus s t) = omega arith
operands-few (Pack s t) = omega arith
operands-few (UPack s t) = omega arith

define-short : (s : ℕ) (t : Transducer) → Small s → ((u : ℕ) → u ∈ operands t → Small u) → HeldIn t → length (define_line s t) ≤ 102
define-short s t h os c =
    let a = id-short s h in
    let b = name-short t c in
    let d = ids_short (operands t) os in
    let e = operands-few t in
    omega (
      arith,
      length-append (id_text s) (pieces (ascii " := " ∷ name_text t ∷ ascii "(" ∷ ids_text (operands t) ∷ ascii ")\n" ∷ [])),
      length-append (name_text t) (pieces (ascii "(" ∷ ids_text (operands t) ∷ ascii ")\n" ∷ [])),
      length-append (ids_text (operands t)) (ascii ")\n"),
    )

control-short : (outs : List ℕ) (c : ℕ) (ins : List ℕ) → ((u : ℕ) → u ∈ outs → Small u) → Small c → ((u : ℕ) → u ∈ ins → Small u)
    → length (with_ctrl_line outs c ins) ≤ 45 + 22 * length outs + 22 * length ins
control-short outs c ins ho hc hi =
    let a = ids_short outs ho in
    let b = id-short c hc in
    let d = ids_short ins hi in
    simp length-append (omega arith)

-- ---- the constant of a KN record

signed-held : (u : ℕ) → u < 4294967296 → Held (signed u)
signed-held u h = go (ltb u 2147483648)
  where
    go : (b : Bool) → Held (elim b [ true ↦ pos u | false ↦ negsuc (4294967295 - u) ])
    go true = h
    go false = omega arith

module _ (t : List ℕ) (bytes : (i : ℕ) → get_or t i 0 < 256) where
  int-held : (k : ℕ) → Held (int_at t k)
  int-held k =
      let u = get_or t k 0 + get_or t (k + 1) 0 * 256 + get_or t (k + 2) 0 * 65536 + get_or t (k + 3) 0 * 16777216 in
      signed-held u (omega (arith, bytes k, bytes (k + 1), bytes (k + 2), bytes (k + 3)))

  constant-held : {k m : ℕ} {s : Result Unit Refusal} {h : records.Head} {z : ℤ} → Reading t k m s h → h ≡ single (records.const k z) 6 → Held z
  constant-held none e = let z : ◌≡◌ {A = ℕ} 0 1 = cc in absurd (omega arith)
  constant-held beyond e = let z : ◌≡◌ {A = ℕ} 0 1 = cc in absurd (omega arith)
  constant-held (a_var q l) e = let z : ◌≡◌ {A = ℕ} 0 1 = cc in absurd (omega arith)
  constant-held (a_let q l) e = let z : ◌≡◌ {A = ℕ} 0 1 = cc in absurd (omega arith)
  constant-held {k = k} {z = z} (a_const q l) e = let r : int_at t (k + 2) ≡ z = cc in subst Held r (int-held (k + 2))
  constant-held (a_truth q c f l) e = let z : ◌≡◌ {A = ℕ} 0 1 = cc in absurd (omega arith)
  constant-held (an_iota q l) e = let z : ◌≡◌ {A = ℕ} 0 1 = cc in absurd (omega arith)
  constant-held (an_operation o q l) e = let z : ◌≡◌ {A = ℕ} 0 1 = cc in absurd (omega arith)
  constant-held (a_negation q l) e = let z : ◌≡◌ {A = ℕ} 0 1 = cc in absurd (omega arith)
  constant-held (a_sum q l) e = let z : ◌≡◌ {A = ℕ} 0 1 = cc in absurd (omega arith)
  constant-held (an_each q j f l n) e = let z : ◌≡◌ {A = ℕ} 0 1 = cc in absurd (omega arith)
  constant-held (a_guard q j f l n) e = let z : ◌≡◌ {A = ℕ} 0 1 = cc in absurd (omega arith)

-- ---- a formula's code

one-short : (s : ℕ) (t : Transducer) → Small s → ((u : ℕ) → u ∈ operands t → Small u) → HeldIn t → length (lines_of s (define t done)) ≤ 102
unfolding lines_of
one-short s t h os c = let n = define-short s t h os c in omega (arith, length-append (define_line s t) [])

copies-short : {Γ : List ValueType} (s b : ℕ) (us : Scalars Γ) (δ : All IdTree Γ) → s + length us < 2 ^ 64 → Small b → ((u : ℕ) → u ∈ ids_of δ → Small u)
    → length (lines_of s (copies b us δ)) ≤ 102 * length us
unfolding lines_of distrs
copies-short s b [] δ h hb hd = omega arith
copies-short s b (u ∷ us) δ h hb hd =
    let t = Distr (id b) (id (root (lookup u.1 δ))) in
    let n = define-short s t (omega arith) (two-small hb (hd _ (ids-root u.1 δ))) tt in
    let m = copies-short (suc s) b us δ (omega arith) hb hd in
    omega (arith, length-append (define_line s t) (lines_of (suc s) (copies b us δ)))

length_ids : {Γ : List ValueType} (s : ℕ) (us : Scalars Γ) → length (ids_of (numbered s us)) ≡ length us
unfolding ids_of numbered order
length_ids s [] = refl
length_ids s (u ∷ us) = ap suc (length_ids (suc s) us)

four-length : (a b c d : List ℕ) → length (pieces (a ∷ b ∷ c ∷ d ∷ [])) ≡ length a + (length b + (length c + length d))
four-length a b c d = simp (length-append, append-nil) (omega arith)

inside-length : {Γ : List ValueType} {υ : ValueType} (y : Γ ∋ braces υ) (us : Scalars Γ) (δ : All IdTree Γ) (s : ℕ) → length (ids_of (within y us δ s)) ≡ (depth_of υ + 1) + length us
unfolding ids_of
inside-length y us δ s =
    length-append (order (inner (lookup y δ))) (ids_of (numbered (suc s) us)) ∙ omega (arith, length-order (inner (lookup y δ)), length_ids (suc s) us)

three-length : (a b c : List ℕ) → length (pieces (a ∷ b ∷ c ∷ [])) ≡ length a + (length b + length c)
three-length a b c = simp (length-append, append-nil) (omega arith)

five-length : (a b c d e : List ℕ) → length (pieces (a ∷ b ∷ c ∷ d ∷ e ∷ [])) ≡ length a + (length b + (length c + (length d + length e)))
five-length a b c d e = simp (length-append, append-nil) (omega arith)

-- a comprehension's own lines
module _ {Γ : List ValueType} {υ τ : ValueType} (y : Γ ∋ braces υ) (us : Scalars Γ) (e : Term (υ ∷ listed_types (any_type us)) τ) (δ : All IdTree Γ) (s : ℕ) where
  each-short : depth_of τ ≤ most_depth → suc (depth_of υ) ≤ most_depth → Below s (ids_of δ) → s + (1 + (length us + size e)) < 4294967296
      → length (lines_of s (code (each y us e) δ s))
      ≤ 102 * (1 + length us) + (421 + 22 * length us) + length (lines_of (s + (1 + length us)) (code e (within y us δ s) (s + (1 + length us))))
  unfolding lines_of
  each-short hd hc b n =
      let a = s + (1 + length us) in
      let δ₂ = within y us δ s in
      let body = code e δ₂ a in
      let st = tree e δ₂ a in
      let outs = ascending (among (order st) (dv a body)) in
      let ins = ascending (fv a body) in
      let small : (u : ℕ) → u ∈ ids_of δ → Small u = λ u m. let l = b u m in omega arith in
      let low = below-within y us δ b in
      let x = define-short s (Usum (id (outer (lookup y δ)))) (omega arith) (one-small (small _ (ids-outer y δ))) tt in
      let z = copies-short (suc s) (outer (lookup y δ)) us δ (omega arith) (small _ (ids-outer y δ)) small in
      let w =
      control-short outs s ins
      (λ u m. let l = defined-next e δ₂ a (of-among (order st) (dv a body) (of-ascending (among (order st) (dv a body)) m)).1 in omega (arith, l.1))
      (omega arith)
      (λ u m. let l = low u (free-ids e δ₂ a u (of-ascending (fv a body) m)) in omega arith) in
      let o = ascending-length (among (order st) (dv a body)) in
      let o₂ = among-length (order st) (dv a body) in
      let i = within-length (fv a body) (ids_of δ₂) (free-ids e δ₂ a) in
      let q : s + count (front y us δ) ≡ s + (1 + length us) = ap (λ m. s + m) (count-front y us δ) in
      let whole : length (lines_of s (code (each y us e) δ s)) ≡ length (lines_of s (front y us δ)) + length (lines_of (s + (1 + length us)) (controlled s a body st)) =
      ap (λ p. length (lines_of s p)) (code-each y us δ e s)
      ∙ (ap length (lines-seq s (front y us δ) (controlled s a body st))
      ∙ (length-append (lines_of s (front y us δ)) (lines_of (s + count (front y us δ)) (controlled s a body st))
      ∙ ap (λ m. length (lines_of s (front y us δ)) + length (lines_of m (controlled s a body st))) q)) in
      omega (
        arith,
        whole,
        o,
        o₂,
        i,
        length-order st,
        length-inside,
        four-length (with_ctrl_line outs s ins) (lines_of a body) close_line [],
        length-append (define_line s (Usum (id (outer (lookup y δ))))) (lines_of (suc s) (copies (outer (lookup y δ)) us δ)),
      )
    where
      length-inside : length (ids_of (within y us δ s)) ≡ (depth_of υ + 1) + length us
      length-inside = inside-length y us δ s

-- a value's packing: three definitions and a WithCtrl for each of its levels, and one for its data
pack-order : {d : ℕ} (t : Tree ℕ d) (s : ℕ) → length (order (pack_tree t s)) ≡ d + 1
pack-order t s = length-order (pack_tree t s)

module _ {d : ℕ} (t : Tree ℕ d) (s : ℕ) (hd : d < most_depth) (ht : (u : ℕ) → u ∈ order t → Small u) (n : s + (3 + pack_size d) < 2 ^ 64) where
  inner-short : length (lines_of (s + 3) (controlled (s + 2) (s + 3) (pack_code (s + 1) t (s + 3)) (pack_tree t (s + 3))))
      ≤ 421 + length (lines_of (s + 3) (pack_code (s + 1) t (s + 3)))
  unfolding lines_of
  inner-short =
      let body = pack_code (s + 1) t (s + 3) in
      let st = pack_tree t (s + 3) in
      let outs = ascending (among (order st) (dv (s + 3) body)) in
      let ins = ascending (fv (s + 3) body) in
      let w =
      control-short outs (s + 2) ins
      (λ u m. let l = defined-pack (s + 1) t (s + 3) (of-among (order st) (dv (s + 3) body) (of-ascending (among (order st) (dv (s + 3) body)) m)).1 in omega (arith, l.1))
      (omega arith)
      (λ u m. small u (free-pack (s + 1) t (s + 3) u (of-ascending (fv (s + 3) body) m))) in
      let o = ascending-length (among (order st) (dv (s + 3) body)) in
      let o₂ = among-length (order st) (dv (s + 3) body) in
      let i = within-length (fv (s + 3) body) ((s + 1) ∷ order t) (free-pack (s + 1) t (s + 3)) in
      omega (arith, pack-order t (s + 3), length-order t, four-length (with_ctrl_line outs (s + 2) ins) (lines_of (s + 3) body) close_line [])
    where
      small : (u : ℕ) → u ∈ ((s + 1) ∷ order t) → Small u
      small u m = ⊎_elim (λ e. here e) (ht u) (Memᴰ.cases_cons m)
        where
          here : u ≡ s + 1 → Small u
          here e = omega arith

pack-short : {d : ℕ} (b : ℕ) (t : Tree ℕ d) (s : ℕ) → d ≤ most_depth → Small b → ((u : ℕ) → u ∈ order t → Small u) → s + pack_size d < 2 ^ 64
    → length (lines_of s (pack_code b t s)) ≤ 102 + 727 * d
unfolding lines_of pack_code pack_size order
pack-short b (leaf x) s hd hb ht n =
    let a = define-short s (Pack (id b) (id x)) (omega arith) (two-small hb (ht x (Memᴰ.head refl))) tt in
    omega (arith, length-append (define_line s (Pack (id b) (id x))) [])
pack-short b (node {d = d} t f) s hd hb ht n =
    let hf = ht f (Memᴰ.append_right (order t) (Memᴰ.head refl)) in
    let lower : (u : ℕ) → u ∈ order t → Small u = λ u m. ht u (Memᴰ.append_left (f ∷ []) m) in
    let x = define-short s (UPack (id b) (id f)) (omega arith) (two-small hb hf) tt in
    let y = define-short (suc s) (Distr (id f) (id b)) (omega arith) (two-small hf hb) tt in
    let z = define-short (suc (suc s)) (Usum (id f)) (omega arith) (one-small hf) tt in
    let items = controlled (s + 2) (s + 3) (pack_code (s + 1) t (s + 3)) (pack_tree t (s + 3)) in
    let w = inner-short t s (omega arith) lower (omega arith) in
    let v = pack-short (s + 1) t (s + 3) (omega arith) (omega arith) lower (omega arith) in
    let third : suc (suc (suc s)) ≡ s + 3 = omega arith in
    omega (
      arith,
      ap (λ m. length (lines_of m items)) third,
      length-append (define_line s (UPack (id b) (id f))) (define_line (suc s) (Distr (id f) (id b)) ++ (define_line (suc (suc s)) (Usum (id f)) ++ lines_of (suc (suc (suc s))) items)),
      length-append (define_line (suc s) (Distr (id f) (id b))) (define_line (suc (suc s)) (Usum (id f)) ++ lines_of (suc (suc (suc s))) items),
      length-append (define_line (suc (suc s)) (Usum (id f))) (lines_of (suc (suc (suc s))) items),
    )

packs-short : {Γ : List ValueType} (b : ℕ) (us : Listing Γ) (δ : All IdTree Γ) (s : ℕ) → Shallow Γ → Small b → ((u : ℕ) → u ∈ ids_of δ → Small u) → s + packs_size us < 2 ^ 64
    → length (lines_of s (pack_codes b us δ s)) ≤ 5918 * length us
unfolding lines_of pack_codes packs_size
packs-short b [] δ s sh hb hd n = omega arith
packs-short b (u ∷ us) δ s sh hb hd n =
    let m = pack_size (depth_of u.0) in
    let first = pack_code b (lookup u.1 δ) s in
    let rest = pack_codes b us δ (s + m) in
    let x = pack-short b (lookup u.1 δ) s (lookup-shallow u.1 sh) hb (λ v k. hd v (ids-lookup u.1 δ v k)) (omega arith) in
    let y = packs-short b us δ (s + m) sh hb hd (omega arith) in
    omega (
      arith,
      lookup-shallow u.1 sh,
      ap length (lines-seq s first rest),
      length-append (lines_of s first) (lines_of (s + count first) rest),
      ap (λ c. length (lines_of (s + c) rest)) (count-pack b (lookup u.1 δ) s),
    )

-- the ids of the packed variables
packed-length : {Γ : List ValueType} (us : Listing Γ) (δ : All IdTree Γ) (s : ℕ) → Shallow Γ → length (ids_of (pack_trees us δ s)) ≤ 9 * length us
unfolding ids_of pack_trees
packed-length [] δ s sh = omega arith
packed-length (u ∷ us) δ s sh =
    let t = pack_tree (lookup u.1 δ) s in
    let rest = pack_trees us δ (s + pack_size (depth_of u.0)) in
    omega (
      arith,
      lookup-shallow u.1 sh,
      length-append (order t) (ids_of rest),
      length-order t,
      packed-length us δ (s + pack_size (depth_of u.0)) sh,
    )

-- a guard's own lines
module _ {Γ : List ValueType} {τ : ValueType} (g : Γ ∋ bool) (us : Listing Γ) (e : Term (listed_types us) τ) (δ : All IdTree Γ) (s : ℕ) (sh : Shallow Γ) where
  gate-short : Small (root (lookup g δ)) → ((u : ℕ) → u ∈ ids_of δ → Small u) → s + (2 + packs_size us) < 2 ^ 64 → length (lines_of s (gate g us δ s)) ≤ 204 + 5918 * length us
  unfolding lines_of ◌⨾◌
  gate-short hg small n =
      let packs = pack_codes (root (lookup g δ)) us δ (s + 2) in
      let x = define-short s (B2u (id (root (lookup g δ)))) (omega arith) (one-small hg) tt in
      let y = define-short (suc s) (Usum (id s)) (omega arith) (one-small (omega arith)) tt in
      let z = packs-short (root (lookup g δ)) us δ (s + 2) sh hg small (omega arith) in
      let second : suc (suc s) ≡ s + 2 = omega arith in
      omega (
        arith,
        ap (λ m. length (lines_of m packs)) second,
        length-append (define_line s (B2u (id (root (lookup g δ))))) (define_line (suc s) (Usum (id s)) ++ lines_of (suc (suc s)) packs),
        length-append (define_line (suc s) (Usum (id s))) (lines_of (suc (suc s)) packs),
      )

  guard-short : depth_of τ ≤ most_depth → Below s (ids_of δ) → s + (2 + (packs_size us + size e)) < 4294967296
      → length (lines_of s (code (guard g us e) δ s))
      ≤ 449 + 6116 * length us + length (lines_of (s + (2 + packs_size us)) (code e (pack_trees us δ (s + 2)) (s + (2 + packs_size us))))
  unfolding lines_of
  guard-short hd b n =
      let a = s + (2 + packs_size us) in
      let δ₂ = pack_trees us δ (s + 2) in
      let body = code e δ₂ a in
      let st = tree e δ₂ a in
      let outs = ascending (among (order st) (dv a body)) in
      let ins = ascending (fv a body) in
      let small : (u : ℕ) → u ∈ ids_of δ → Small u = λ u m. let l = b u m in omega arith in
      let low = below-packed g us δ s in
      let x = gate-short (small _ (ids-root g δ)) small (omega arith) in
      let w =
      control-short outs (s + 1) ins
      (λ u m. let l = defined-next e δ₂ a (of-among (order st) (dv a body) (of-ascending (among (order st) (dv a body)) m)).1 in omega (arith, l.1))
      (omega arith)
      (λ u m. let l = low u (free-ids e δ₂ a u (of-ascending (fv a body) m)) in omega arith) in
      let o = ascending-length (among (order st) (dv a body)) in
      let o₂ = among-length (order st) (dv a body) in
      let i = within-length (fv a body) (ids_of δ₂) (free-ids e δ₂ a) in
      let q : s + count (gate g us δ s) ≡ a = ap (λ m. s + m) (count-gate g us δ s) in
      let whole : length (lines_of s (code (guard g us e) δ s)) ≡ length (lines_of s (gate g us δ s)) + length (lines_of a (controlled (s + 1) a body st)) =
      ap (λ p. length (lines_of s p)) (code-guard g us δ s e)
      ∙ (ap length (lines-seq s (gate g us δ s) (controlled (s + 1) a body st))
      ∙ (length-append (lines_of s (gate g us δ s)) (lines_of (s + count (gate g us δ s)) (controlled (s + 1) a body st))
      ∙ ap (λ m. length (lines_of s (gate g us δ s)) + length (lines_of m (controlled (s + 1) a body st))) q)) in
      omega (
        arith,
        whole,
        o,
        o₂,
        i,
        length-order st,
        packed-length us δ (s + 2) sh,
        four-length (with_ctrl_line outs (s + 1) ins) (lines_of a body) close_line [],
      )

ones-code : (s : ℕ) → ones s ≡ with_ctrl ((s + 2) ∷ []) (s + 1) [] (define (Const (pos 1)) done) done
unfolding order dv fv without ascending among member insert
ones-code s =
    ap (λ b. with_ctrl (ascending (elim (b || false) [ true ↦ (s + 2) ∷ [] | false ↦ [] ])) (s + 1) [] (define (Const (pos 1)) done) done) (eq-eqb (s + 2) (s + 2) refl)

iota-short : (r s : ℕ) → Small r → s + 4 < 2 ^ 64 → length (lines_of s (lead r s ⨾ (ones s ⨾ totals s))) ≤ 480
unfolding lines_of ◌⨾◌ count
iota-short r s hr hs =
    let a = define-short s (ToFlags (id r)) (omega arith) (one-small hr) tt in
    let b = define-short (suc s) (Usum (id s)) (omega arith) (one-small (omega arith)) tt in
    let w = control-short ((s + 2) ∷ []) (s + 1) [] (one-small (omega arith)) (omega arith) none-small in
    let o = define-short (suc (suc s)) (Const (pos 1)) (omega arith) none-small (omega arith) in
    let z = define-short (suc (suc s) + 1) (ScanPlus (pos 0) (id s) (id (s + 2))) (omega arith) (two-small (omega arith) (omega arith)) (omega arith) in
    let e : lines_of (suc (suc s)) (ones s ⨾ totals s)
    ≡ pieces (with_ctrl_line ((s + 2) ∷ []) (s + 1) [] ∷ lines_of (suc (suc s)) (define (Const (pos 1)) done) ∷ close_line ∷ lines_of (suc (suc s) + 1) (define (ScanPlus (pos 0) (id s) (id (s + 2))) done) ∷ []) =
    ap (λ p. lines_of (suc (suc s)) (p ⨾ define (ScanPlus (pos 0) (id s) (id (s + 2))) done)) (ones-code s) in
    let rest = lines_of (suc (suc s)) (ones s ⨾ totals s) in
    omega (
      arith,
      length-append (define_line s (ToFlags (id r))) (define_line (suc s) (Usum (id s)) ++ rest),
      length-append (define_line (suc s) (Usum (id s))) rest,
      ap length e,
      four-length (with_ctrl_line ((s + 2) ∷ []) (s + 1) []) (lines_of (suc (suc s)) (define (Const (pos 1)) done)) close_line (lines_of (suc (suc s) + 1) (define (ScanPlus (pos 0) (id s) (id (s + 2))) done)),
      length-append (define_line (suc (suc s)) (Const (pos 1))) [],
      length-append (define_line (suc (suc s) + 1) (ScanPlus (pos 0) (id s) (id (s + 2)))) [],
    )

module _ {t : List ℕ} (bytes : (i : ℕ) → get_or t i 0 < 256) where
  pub lines-short : {levels k next : ℕ} {Γ : List ValueType} {τ : ValueType} {scope : All Name Γ} {e : Term Γ τ} (f : Formed t levels k Γ scope τ e next)
      → Shallow Γ
      → (δ : All IdTree Γ) (s : ℕ)
      → Below s (ids_of δ)
      → s + size e < 4294967296
      → length (lines_of s (code e δ s)) + 7000 * k ≤ 7000 * next
  unfolding code size lines_of
  lines-short (formed-var h f) sh δ s b n = omega arith
  lines-short (formed-bind {υ = υ} {e₁ = e₁} {e₂ = e₂} h f g) sh δ s b n =
      let δ₂ = ◌▹◌ {τ = υ} (tree e₁ δ s) δ in
      let x = lines-short f sh δ s b (omega arith) in
      let y = lines-short g (shallow-more (shallow-type f sh) sh) δ₂ (s + size e₁) (below-result e₁ δ b) (omega arith) in
      omega (arith, ap length (lines-seq s (code e₁ δ s) (code e₂ δ₂ (s + size e₁))), length-append (lines_of s (code e₁ δ s)) (lines_of (s + count (code e₁ δ s)) (code e₂ δ₂ (s + size e₁))), ap (λ m. length (lines_of (s + m) (code e₂ δ₂ (s + size e₁)))) (count_code e₁ δ s))
  lines-short {k = k} (formed-const {z = z} h) sh δ s b n =
      let x = one-short s (Const z) (omega arith) none-small (constant-held t bytes (reading t k) h) in
      omega arith
  lines-short (formed-truth {c = c} h) sh δ s b n = let x = one-short s (ConstBool c) (omega arith) none-small tt in omega arith
  lines-short (formed-negation {v = v} h f) sh δ s b n =
      let r = b _ (ids-root v δ) in
      let x = one-short s (MapOneNot (id (root (lookup v δ)))) (omega arith) (one-small (omega arith)) tt in
      omega arith
  lines-short (formed-iota {v = v} h f) sh δ s b n =
      let r = b _ (ids-root v δ) in
      let x = iota-short (root (lookup v δ)) s (omega arith) (omega arith) in
      omega (arith, ap (λ p. length (lines_of s p)) (code-iota v δ s))
  lines-short (formed-operation {o = o} {v = v} {w = w} h f g) sh δ s b n =
      let r = b _ (ids-root v δ) in
      let q = b _ (ids-root w δ) in
      let x = one-short s (MapTwo o (id (root (lookup v δ))) (id (root (lookup w δ)))) (omega arith) (two-small (omega arith) (omega arith)) tt in
      omega arith
  lines-short (formed-sum {v = v} h f) sh δ s b n =
      let r = b _ (ids-outer v δ) in
      let q = b _ (ids-lookup v δ _ (order-inner (lookup v δ) _ (order-root (inner (lookup v δ))))) in
      let x = one-short s (SumPlus (id (outer (lookup v δ))) (id (root (inner (lookup v δ))))) (omega arith) (two-small (omega arith) (omega arith)) tt in
      omega arith
  lines-short {k = k} (formed-each {us = us} {v = v} {ls = ls} {e = e} h f g q l) sh δ s b n =
      let j = listing-few t k h in
      let m = length-listed _ us ls g in
      let a = s + (1 + length (pointers ls)) in
      let δ₂ = within v (pointers ls) δ s in
      let x = each-short v (pointers ls) e δ s (shallow-type q (shallow-body v (pointers ls) sh)) (lookup-shallow v sh) b (omega arith) in
      let y = lines-short q (shallow-body v (pointers ls) sh) δ₂ a (below-within v (pointers ls) δ b) (omega arith) in
      omega (arith, j.few, j.bytes)
  lines-short {k = k} {scope = scope} (formed-guard {us = us} {v = v} {ls = ls} {e = e} h f g q l) sh δ s b n =
      let j = guard-few t k h in
      let m = length-any scope us ls g in
      let vs = any_pointers ls in
      let a = s + (2 + packs_size vs) in
      let δ₂ = pack_trees vs δ (s + 2) in
      let x = guard-short v vs e δ s sh (shallow-type q (any-shallow sh vs)) b (omega arith) in
      let y = lines-short q (any-shallow sh vs) δ₂ a (below-packed v vs δ s) (omega arith) in
      omega (arith, j.few, j.bytes)

-- ---- the result's line

tree-short : {d : ℕ} (t : Tree ℕ d) → ((u : ℕ) → u ∈ order t → Small u) → length (tree_text t) ≤ 24 * (d + 1)
unfolding tree_text order
tree-short (leaf s) h = let n = id-short s (h s (Memᴰ.head refl)) in omega arith
tree-short (node t s) h =
    let n = id-short s (h s (Memᴰ.append_right (order t) (Memᴰ.head refl))) in
    let m = tree-short t (λ u k. h u (Memᴰ.append_left (s ∷ []) k)) in
    omega (arith, five-length (ascii "(") (tree_text t) (ascii ",") (id_text s) (ascii ")"))

pub result-short : {d : ℕ} (t : Tree ℕ d) → d ≤ most_depth → ((u : ℕ) → u ∈ order t → Small u) → length (result_line t) ≤ 224
result-short t h s = let n = tree-short t s in omega (arith, three-length (ascii "result ") (tree_text t) (ascii "\n"))
