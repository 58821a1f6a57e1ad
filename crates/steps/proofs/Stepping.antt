-- One instruction: what it adds to the machine, of which kind its output is, and what it costs.
use Prim.Native.Nat.{ℕ, zero, suc, ◌+◌, ◌≤◌}
use mathlib.Core.Bool.{Bool, true, false, not}
use mathlib.Core.List.{List, [], ◌∷◌, ◌++◌, map}
use mathlib.Core.Option.{Option, some, none, get_or}
use mathlib.Core.Path.{◌≡◌, refl, sym, ◌∙◌, ap}
use native.Mathlib.Omega.{arith}
use lib.IntN.{ℤ, pos}
use lib.ListN.{length, replicate}
use lib.Signed.{le_z}
use Rattle.laws.proofs.Never.{never}
use Rattle.snesl.specs.declared.code.Transducer.{Transducer}
use Rattle.snesl.specs.declared.code.Transducer.TheVariants.{Const, ConstBool, ToFlags, B2u, Usum, MapTwo, MapOneNot, ScanPlus, Distr, SumPlus, Pack, UPack}
use Rattle.snesl.specs.declared.code.Operation.{Operation}
use Rattle.snesl.specs.declared.code.Operation.TheVariants.{Plus, LessEqual, Equal}
use Rattle.snesl.specs.declared.code.Base.{Base}
use Rattle.snesl.specs.declared.code.Base.TheVariants as base
use Rattle.snesl.specs.declared.code.Kind.{Kind}
use Rattle.snesl.specs.declared.code.Kind.TheVariants.{Ints, Bools, Flags, Units}
use Rattle.snesl.specs.Values.{Element, result_of, equal_z}
use Rattle.snesl.specs.Streams.{Stream, ints, bools, flags, units, kind_of, bare, data_of, data_kind, base_in, len, Store, ◌!◌, room}
use Rattle.snesl.specs.Transducers.{Answer, made, unfit, negative, outside, apply, operands, signature, carried, empty, unless, exact, on_ints, on_bools, on_data, on_flags, to_flags, b2u, usum, map_two, map_one_not, results}
use Rattle.snesl.specs.Transducers.{scan_plus, distr, sum_plus, pack, upack, count_f, alone, each_f, each_t, misfit, spread, kept, kept_segments, scans, sums, pluses, pairwise, first_outside, first_negative, unary, unitary, length_misfit}
use Rattle.snesl.specs.Programs.{done, define}
use Rattle.snesl.specs.Machine.{State, full, unfitting, below_zero, out_of_range, Result, went, stopped, sum_of, work_of, fetch, push, step, skip, skipped, holding}
use Rattle.steps.specs.Walking.{stepped}
use Rattle.steps.specs.declared.Spans.{Spans}
use Rattle.steps.specs.Holding.{length_in, length_of, Spanned, PlacedAt, Placed}

-- the stream of a kind
pub kind-bare : (k : Kind) → kind_of (bare k) ≡ k
kind-bare Ints = refl
kind-bare Bools = refl
kind-bare Flags = refl
kind-bare Units = refl

pub ints_of : (a : Stream) → kind_of a ≡ Ints → (zs : List ℤ) × (a ≡ ints zs)
ints_of (ints zs) e = (zs, refl)
ints_of (bools cs) e = never (cc)
ints_of (flags bs) e = never (cc)
ints_of (units n) e = never (cc)

pub bools-of : (a : Stream) → kind_of a ≡ Bools → (cs : List Bool) × (a ≡ bools cs)
bools-of (ints zs) e = never (cc)
bools-of (bools cs) e = (cs, refl)
bools-of (flags bs) e = never (cc)
bools-of (units n) e = never (cc)

-- data of either base
pub data-of : (b : Base) (a : Stream) → kind_of a ≡ data_kind b → (xs : List (Element b)) × (a ≡ data_of b xs)
data-of base.Int a e = ints_of a e
data-of base.Bool a e = bools-of a e

pub flags_of : (a : Stream) → kind_of a ≡ Flags → (bs : List Bool) × (a ≡ flags bs)
flags_of (ints zs) e = never (cc)
flags_of (bools cs) e = never (cc)
flags_of (flags bs) e = (bs, refl)
flags_of (units n) e = never (cc)

pub units_of_lem : (a : Stream) → kind_of a ≡ Units → (n : ℕ) × (a ≡ units n)
units_of_lem (ints zs) e = never (cc)
units_of_lem (bools cs) e = never (cc)
units_of_lem (flags bs) e = never (cc)
units_of_lem (units n) e = (n, refl)

-- an answer that made something passed its tests
fitted : (o : Option ℕ) (x : Answer) (a : Stream) → unless o unfit x ≡ made a → x ≡ made a
fitted none x a e = e
fitted (some k) x a e = never (cc)

valued : (o : Option ℕ) (x : Answer) (a : Stream) → unless o outside x ≡ made a → x ≡ made a
valued none x a e = e
valued (some k) x a e = never (cc)

counted : (o : Option ℕ) (x : Answer) (a : Stream) → unless o negative x ≡ made a → x ≡ made a
counted none x a e = e
counted (some k) x a e = never (cc)

-- an operand of the right kind, where something was made of it
on_ints-made : (o : Option Stream) (f : List ℤ → Answer) (a : Stream) → on_ints o f ≡ made a → (zs : List ℤ) × (f zs ≡ made a)
on_ints-made none f a e = never (cc)
on_ints-made (some (ints zs)) f a e = (zs, e)
on_ints-made (some (bools cs)) f a e = never (cc)
on_ints-made (some (flags bs)) f a e = never (cc)
on_ints-made (some (units n)) f a e = never (cc)

on_flags-made : (o : Option Stream) (f : List Bool → Answer) (a : Stream) → on_flags o f ≡ made a → (bs : List Bool) × (f bs ≡ made a)
on_flags-made none f a e = never (cc)
on_flags-made (some (ints zs)) f a e = never (cc)
on_flags-made (some (bools cs)) f a e = never (cc)
on_flags-made (some (flags bs)) f a e = (bs, e)
on_flags-made (some (units n)) f a e = never (cc)

on_bools-made : (o : Option Stream) (f : List Bool → Answer) (a : Stream) → on_bools o f ≡ made a → (cs : List Bool) × (f cs ≡ made a)
on_bools-made none f a e = never (cc)
on_bools-made (some (ints zs)) f a e = never (cc)
on_bools-made (some (bools cs)) f a e = (cs, e)
on_bools-made (some (flags bs)) f a e = never (cc)
on_bools-made (some (units n)) f a e = never (cc)

on_data-made : (o : Option Stream) (f : (b : Base) → List (Element b) → Answer) (a : Stream) → on_data o f ≡ made a
    → (xs : List (Element (base_in o))) × (f (base_in o) xs ≡ made a)
on_data-made none f a e = never (cc)
on_data-made (some (ints zs)) f a e = (zs, e)
on_data-made (some (bools cs)) f a e = (cs, e)
on_data-made (some (flags bs)) f a e = never (cc)
on_data-made (some (units n)) f a e = never (cc)

-- what was made, and of which kind it is
kind-made : (s a : Stream) → made s ≡ made a → kind_of a ≡ kind_of s
kind-made s a e = let same : s ≡ a = cc in ap kind_of (sym same)

kind-data : (b : Base) (xs : List (Element b)) → kind_of (data_of b xs) ≡ data_kind b
kind-data base.Int xs = refl
kind-data base.Bool xs = refl

made-ints : (o : Option ℕ) (x : List (ℕ × ℤ)) (a : Stream) → unless o unfit (exact x) ≡ made a → kind_of a ≡ Ints
made-ints o x a e =
    kind-made (ints (map (λ r. r.1) x)) a (valued (first_outside x) (made (ints (map (λ r. r.1) x))) a (fitted o (exact x) a e))

made-flags : (o : Option ℕ) (zs : List ℤ) (a : Stream) → unless o unfit (unless (first_negative 0 zs) negative (made (flags (unary zs)))) ≡ made a → kind_of a ≡ Flags
made-flags o zs a e =
    kind-made (flags (unary zs)) a
    (counted (first_negative 0 zs) (made (flags (unary zs))) a (fitted o (unless (first_negative 0 zs) negative (made (flags (unary zs)))) a e))

made-two : (u : Operation) (o : Option ℕ) (xs ys : List ℤ) (a : Stream) → unless o unfit (results u xs ys) ≡ made a → kind_of a ≡ data_kind (result_of u)
made-two Plus o xs ys a e = made-ints o (pluses 0 xs ys) a e
made-two LessEqual o xs ys a e = kind-made (bools (pairwise le_z xs ys)) a (fitted o (made (bools (pairwise le_z xs ys))) a e)
made-two Equal o xs ys a e = kind-made (bools (pairwise equal_z xs ys)) a (fitted o (made (bools (pairwise equal_z xs ys))) a e)

pub output-made : (t : Transducer) (n : ℕ) (σ : Store) (a : Stream) → apply t n σ ≡ made a → kind_of a ≡ (signature (carried σ t) t).output
unfolding apply
output-made (Const z) n σ a e = kind-made (ints (replicate n z)) a e
output-made (ConstBool c) n σ a e = kind-made (bools (replicate n c)) a e
output-made (ToFlags s) n σ a e =
    let f = on_ints-made (σ ! s.0) (to_flags n) a e in
    made-flags (length_misfit n (length f.0) (length f.0)) f.0 a f.1
output-made (B2u s) n σ a e =
    let f = on_bools-made (σ ! s.0) (b2u n) a e in
    kind-made (flags (unitary f.0)) a (fitted (length_misfit n (length f.0) (length f.0)) (made (flags (unitary f.0))) a f.1)
output-made (Usum s) n σ a e =
    let f = on_flags-made (σ ! s.0) (usum some n) a e in
    kind-made (units (count_f some f.0)) a (fitted (misfit some {B = ℤ} alone 0 n f.0 []) (made (units (count_f some f.0))) a f.1)
output-made (MapTwo o s t) n σ a e =
    let f = on_ints-made (σ ! s.0) (λ xs. on_ints (σ ! t.0) (map_two o n xs)) a e in
    let g = on_ints-made (σ ! t.0) (map_two o n f.0) a f.1 in
    made-two o (length_misfit n (length f.0) (length g.0)) f.0 g.0 a g.1
output-made (MapOneNot s) n σ a e =
    let f = on_bools-made (σ ! s.0) (map_one_not n) a e in
    kind-made (bools (map not f.0)) a (fitted (length_misfit n (length f.0) (length f.0)) (made (bools (map not f.0))) a f.1)
output-made (ScanPlus z s t) n σ a e =
    let f = on_flags-made (σ ! s.0) (λ bs. on_ints (σ ! t.0) (scan_plus some z n bs)) a e in
    let g = on_ints-made (σ ! t.0) (scan_plus some z n f.0) a f.1 in
    made-ints (misfit some each_f 0 n f.0 g.0) (scans some z 0 z f.0 g.0) a g.1
output-made (Distr s t) n σ a e =
    let b : Base = base_in (σ ! t.0) in
    let f = on_flags-made (σ ! s.0) (λ bs. on_data (σ ! t.0) (distr some n bs)) a e in
    let g = on_data-made (σ ! t.0) (distr some n f.0) a f.1 in
    kind-made (data_of b (spread some f.0 g.0)) a
    (fitted (misfit some each_t 0 n f.0 g.0) (made (data_of b (spread some f.0 g.0))) a g.1)
    ∙ kind-data b (spread some f.0 g.0)
output-made (SumPlus s t) n σ a e =
    let f = on_flags-made (σ ! s.0) (λ bs. on_ints (σ ! t.0) (sum_plus some n bs)) a e in
    let g = on_ints-made (σ ! t.0) (sum_plus some n f.0) a f.1 in
    made-ints (misfit some each_f 0 n f.0 g.0) (sums some 0 (pos 0) f.0 g.0) a g.1
output-made (Pack s t) n σ a e =
    let b : Base = base_in (σ ! t.0) in
    let f = on_bools-made (σ ! s.0) (λ cs. on_data (σ ! t.0) (pack n cs)) a e in
    let g = on_data-made (σ ! t.0) (pack n f.0) a f.1 in
    kind-made (data_of b (kept f.0 g.0)) a
    (fitted (length_misfit n (length f.0) (length g.0)) (made (data_of b (kept f.0 g.0))) a g.1)
    ∙ kind-data b (kept f.0 g.0)
output-made (UPack s t) n σ a e =
    let f = on_bools-made (σ ! s.0) (λ cs. on_flags (σ ! t.0) (upack some n cs)) a e in
    let g = on_flags-made (σ ! t.0) (upack some n f.0) a f.1 in
    kind-made (flags (kept_segments some f.0 g.0)) a
    (fitted (misfit some each_t 0 n g.0 f.0) (made (flags (kept_segments some f.0 g.0))) a g.1)

-- the base that is carried on is known from the kind of the operand
base-of : (b : Base) (a : Stream) → kind_of a ≡ data_kind b → base_in (some a) ≡ b
base-of base.Int (ints zs) e = refl
base-of base.Int (bools cs) e = never (cc)
base-of base.Int (flags bs) e = never (cc)
base-of base.Int (units n) e = never (cc)
base-of base.Bool (ints zs) e = never (cc)
base-of base.Bool (bools cs) e = refl
base-of base.Bool (flags bs) e = never (cc)
base-of base.Bool (units n) e = never (cc)

placed-base : {σ : Store} {env : List ℕ} {s p : ℕ} (b : Base) → PlacedAt σ env (data_kind b) s p → data_kind (base_in (σ ! s)) ≡ data_kind b
placed-base b o = ap (λ x. data_kind (base_in x)) o.there ∙ ap data_kind (base-of b o.stream o.kind)

pub carried-kind : (σ : Store) (env : List ℕ) (b : Base) (t : Transducer) (p q : ℕ) → Placed σ env (signature b t).inputs (operands t) (p ∷ q ∷ [])
    → (signature (carried σ t) t).output ≡ (signature b t).output
carried-kind σ env b (Const z) p q o = refl
carried-kind σ env b (ConstBool c) p q o = refl
carried-kind σ env b (ToFlags s) p q o = refl
carried-kind σ env b (B2u s) p q o = refl
carried-kind σ env b (Usum s) p q o = refl
carried-kind σ env b (MapTwo u s t) p q o = refl
carried-kind σ env b (MapOneNot s) p q o = refl
carried-kind σ env b (ScanPlus z s t) p q o = refl
carried-kind σ env b (Distr s t) p q o = placed-base b o.1.0
carried-kind σ env b (SumPlus s t) p q o = refl
carried-kind σ env b (Pack s t) p q o = placed-base b o.1.0
carried-kind σ env b (UPack s t) p q o = refl

-- what an answer makes of the machine
abbrev pub concluded : (cap : ℕ) → Transducer → (n : ℕ) → State → Answer → Result
concluded cap t n m (made a) =
    elim (holding cap (room (m.store ++ a ∷ []))) [ true ↦ went (push t n a m) | false ↦ stopped full (length m.store) ]
concluded cap t n m (unfit k) = stopped (unfitting k) (length m.store)
concluded cap t n m (negative k) = stopped (below_zero k) (length m.store)
concluded cap t n m (outside k) = stopped (out_of_range k) (length m.store)

pub step_is : (cap : ℕ) (t : Transducer) (n : ℕ) (m : State) → step (holding cap) t n m ≡ concluded cap t n m (apply t n m.store)
unfolding step
step_is cap t n m = go (apply t n m.store) refl
  where
    go : (x : Answer) → apply t n m.store ≡ x → step (holding cap) t n m ≡ concluded cap t n m x
    go (made a) e = rw (e, step)
    go (unfit k) e = rw (e, step)
    go (negative k) e = rw (e, step)
    go (outside k) e = rw (e, step)

-- An instruction that went through added one stream to the store: of its kind, and empty under an empty control.
pub record Added (m : State) (t : Transducer) (n : ℕ) (m' : State) : Type 0 where
  pub stream : Stream
  pub store : m'.store ≡ m.store ++ stream ∷ []
  pub kind : kind_of stream ≡ (signature (carried m.store t) t).output
  pub quiet : n ≡ 0 → stream ≡ empty m.store t

pub same-state : (m m' : State) → went m ≡ went m' → m ≡ m'
same-state m m' e = cc

pub concluded-went : (cap : ℕ) (t : Transducer) (n : ℕ) (m m' : State) (x : Answer) → concluded cap t n m x ≡ went m'
    → (a : Stream) × (x ≡ made a) × (push t n a m ≡ m')
concluded-went cap t n m m' (made a) e = go (holding cap (room (m.store ++ a ∷ []))) e
  where
    go : (b : Bool) → elim b [ true ↦ went (push t n a m) | false ↦ stopped full (length m.store) ] ≡ went m'
        → (c : Stream) × (made a ≡ made c) × (push t n c m ≡ m')
    go true q = (a, refl, same-state (push t n a m) m' q)
    go false q = never (cc)
concluded-went cap t n m m' (unfit k) e = never (cc)
concluded-went cap t n m m' (negative k) e = never (cc)
concluded-went cap t n m m' (outside k) e = never (cc)

pub added : (cap n : ℕ) (t : Transducer) (m m' : State) → stepped cap n t m ≡ went m' → Added m t n m'
unfolding stepped skipped
added cap zero t m m' e =
    record {
      stream = empty m.store t;
      store = ap (λ s. s.store) (sym (same-state (skip (define t done) m) m' e));
      kind = kind-bare (signature (carried m.store t) t).output;
      quiet = λ z. refl;
    }
added cap (suc n) t m m' e =
    let f = concluded-went cap t (suc n) m m' (apply t (suc n) m.store) (sym (step_is cap t (suc n) m) ∙ e) in
    record {
      stream = f.0;
      store = ap (λ s. s.store) (sym f.2);
      kind = output-made t (suc n) m.store f.0 f.1;
      quiet = λ z. absurd (omega arith);
    }

-- ---- what it costs

len-fetched : (o : Option Stream) → len (get_or o (units 0)) ≡ length_in o
len-fetched none = refl
len-fetched (some a) = refl

lengths-are : (σ : Store) (ss : List ℕ) → sum_of (map len (fetch σ ss)) ≡ sum_of (map (length_of σ) ss)
unfolding sum_of
lengths-are σ [] = refl
lengths-are σ (s ∷ ss) = omega (arith, len-fetched (σ ! s), lengths-are σ ss)

pub work-is : {σ : Store} {t : Transducer} {w : Spans} → Spanned σ t w → (k : ℕ) (a : Stream)
    → work_of k (fetch σ (operands t)) a ≡ w.first.length + w.second.length + len a
work-is {σ = σ} {t = t} s k a = omega (arith, lengths-are σ (operands t), s.total)

-- Usum makes no more units than it has flags
pub count_f-most : (bs : List Bool) → count_f some bs ≤ length bs
unfolding count_f
count_f-most [] = omega arith
count_f-most (false ∷ bs) = let h : count_f some bs ≤ length bs = count_f-most bs in omega arith
count_f-most (true ∷ bs) = let h : count_f some bs ≤ length bs = count_f-most bs in omega arith
