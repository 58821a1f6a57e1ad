-- `perform` meets its contract: what a transducer answers and leaves of the buffer is what one instruction does to the machine.
use Prim.Native.Nat.{ℕ, zero, suc, ◌+◌, ◌*◌, ◌-◌, ◌≤◌, ◌<◌}
use mathlib.Core.Bool.{Bool, true, false}
use mathlib.Core.List.{List, [], ◌∷◌, ◌++◌, map, append_assoc}
use mathlib.Core.Option.{Option, some, none}
use mathlib.Core.Logic.{◌⊎◌, inl, inr}
use mathlib.Core.Path.{◌≡◌, refl, sym, ◌∙◌, ap, ap₂, subst}
use native.Mathlib.Omega.{arith}
use native.Mathlib.Nat.{add-zero, suc-mul}
use borrow.Author.Tests.{le-leb, lt-leb, leb-true, leb-false}
use lib.Dec.{leb}
use lib.IntN.{ℤ}
use lib.ListN.{length, take, drop, length-append, length-map, length-drop}
use lib.Seq.{take_at, drop_at, drop-drop}
use Rattle.laws.proofs.Never.{never}
use Rattle.laws.specs.Parts.{written}
use Rattle.snesl.specs.declared.code.StreamId.{StreamId}
use Rattle.snesl.specs.declared.code.Transducer.{Transducer}
use Rattle.snesl.specs.declared.code.Transducer.TheVariants.{Const, ConstBool, ToFlags, B2u, Usum, MapTwo, MapOneNot, ScanPlus, Distr, SumPlus, Pack, UPack}
use Rattle.snesl.specs.declared.refusal.Refusal.{Refusal}
use Rattle.snesl.specs.declared.code.Kind.{Kind}
use Rattle.snesl.specs.declared.code.Kind.TheVariants.{Ints, Bools, Flags, Units}
use Rattle.snesl.specs.declared.code.Base.{Base}
use Rattle.snesl.specs.declared.code.Base.TheVariants as base
use Rattle.snesl.specs.Streams.{Stream, ints, bools, flags, units, kind_of, bare, data_kind, base_in, len, bit, elements, Store, ◌!◌, contents, room}
use Rattle.snesl.specs.Values.{result_of}
use Rattle.snesl.specs.Transducers as snesl
use Rattle.snesl.specs.Transducers.{Answer, made, unfit, negative, outside, apply, operands, signature, carried, empty, count_f, alone, misfit, unless, on_flags}
use Rattle.snesl.specs.Programs.{define, done}
use Rattle.snesl.specs.Machine.{State, Stop, full, unfitting, below_zero, out_of_range, Result, went, stopped, sum_of, work_of, fetch, push, skip, skipped, holding}
use Rattle.snesl.specs.Outcome.{refusal_of}
use Rattle.streams.specs.Answers.{answered}
use Rattle.streams.specs.declared.output.Failure.{Failure}
use Rattle.streams.specs.declared.output.Failure.TheVariants as failure
use Rattle.std.specs.Prelude.{Ok, Err}
use Rattle.std.specs.Prelude.{Result as Returned}
use Rattle.environment.specs.declared.machine.Machine.{Machine}
use Rattle.steps.specs.Walking.{stepped}
use Rattle.steps.specs.declared.Spans.{Spans}
use Rattle.steps.specs.Holding.{Held, counters, length_in, length_of, FlagsAt, OperandAt, OperandsAt, span_list, keeps, taking, Performable, Performed, Applies, Transduced, Grows, grown, refusing, most_streams}
use Rattle.steps.proofs.Stores.{nothing_written, contents-more, room-more, newest, ints-within, bools-within, flags-within}
use Rattle.steps.proofs.Stepping.{same-state, output-made, concluded, step_is, concluded-went, work-is, count_f-most}
use Rattle.streams.proofs.Store.{Holds}

-- the newest of a store is known from the store
same-newest : (σ : Store) (a b : Stream) → σ ++ a ∷ [] ≡ σ ++ b ∷ [] → a ≡ b
same-newest σ a b e =
    let q : some a ≡ some b = sym (newest σ a) ∙ (ap (λ τ. τ ! length σ) e ∙ newest σ b) in
    cc

-- ---- the buffer with one more stream

module _ (σ : Store) (a : Stream) (buf : List ℤ) (c : take (room σ) buf ≡ contents σ) (h : room σ + length (elements a) ≤ length buf) where
  is-more : written (room σ) (elements a) buf ≡ contents (σ ++ a ∷ []) ++ drop (room σ + length (elements a)) buf
  unfolding written
  is-more = ap (λ l. (l ++ elements a) ++ drop (room σ + length (elements a)) buf) c ∙ ap (λ l. l ++ drop (room σ + length (elements a)) buf) (sym (contents-more σ a))

  front-more : take (room (σ ++ a ∷ [])) (written (room σ) (elements a) buf) ≡ contents (σ ++ a ∷ [])
  front-more =
      ap (take (room (σ ++ a ∷ []))) is-more
      ∙ take_at (contents (σ ++ a ∷ [])) (drop (room σ + length (elements a)) buf) (room (σ ++ a ∷ [])) refl

  rest_more : drop (room (σ ++ a ∷ [])) (written (room σ) (elements a) buf) ≡ drop (room (σ ++ a ∷ [])) buf
  rest_more =
      ap (drop (room (σ ++ a ∷ []))) is-more
      ∙ (drop_at (contents (σ ++ a ∷ [])) (drop (room σ + length (elements a)) buf) (room (σ ++ a ∷ [])) refl
      ∙ ap (λ k. drop k buf) (sym (room-more σ a)))

  long-more : length (written (room σ) (elements a) buf) ≡ length buf
  long-more =
      ap length is-more
      ∙ (length-append (contents (σ ++ a ∷ [])) (drop (room σ + length (elements a)) buf)
      ∙ omega (arith, room-more σ a, length-drop (room σ + length (elements a)) buf))

-- One more stream, and what was spent on it.
module _ {m : State} {buf : List ℤ} {counts : Machine} (h : Held m buf counts) where
  -- the machine's counters, one by one
  pub next-id : counts.streams ≡ length m.store
  next-id = ap (λ c. c.streams) h.counts-are

  pub next-element : counts.room ≡ room m.store
  next-element = ap (λ c. c.room) h.counts-are

  pub spent-is : counts.work ≡ m.work
  spent-is = ap (λ c. c.work) h.counts-are

  pub counted_is : counts.steps ≡ m.steps
  counted_is = ap (λ c. c.steps) h.counts-are

  pub held_more : (a : Stream) (w c : ℕ) (new : List ℤ) (counts' : Machine) → room m.store + length (elements a) ≤ length buf
      → length m.store < most_streams → w ≤ 196608 → c ≤ 1 → new ≡ written (room m.store) (elements a) buf
      → counts' ≡ grown counts (length (elements a)) w c
      → (m' : State) → m' ≡ record { store = m.store ++ a ∷ []; work = m.work + w; steps = m.steps + c }
      → Held m' new counts' × keeps m'.store buf new
  held_more a w c new counts' fits few cheap slow n s m' e =
      let σ : Store = m.store in
      let r : room (σ ++ a ∷ []) ≡ room σ + length (elements a) = room-more σ a in
      let l : length (σ ++ a ∷ []) ≡ length σ + 1 = length-append σ (a ∷ []) in
      let long : length new ≡ length buf = ap length n ∙ long-more σ a buf h.contents-are fits in
      let are : counts' ≡ record { streams = length (σ ++ a ∷ []); room = room (σ ++ a ∷ []); work = m.work + w; steps = m.steps + c } =
      s
      ∙ (ap (λ k. grown k (length (elements a)) w c) h.counts-are
      ∙ (λ i. record { streams = sym l i; room = sym r i; work = m.work + w; steps = m.steps + c })) in
      subst (λ q. Held q new counts' × keeps q.store buf new) (sym e) (
        record {
          counts-are = are;
          contents-are = ap (take (room (σ ++ a ∷ []))) n ∙ front-more σ a buf h.contents-are fits;
          fits = omega arith;
          short = omega (arith, h.short);
          few = omega arith;
          slow = omega (arith, h.slow);
          cheap = omega (arith, h.cheap);
        },
        ap (drop (room (σ ++ a ∷ []))) n ∙ rest_more σ a buf h.contents-are fits,
      )

  pub grows : (r w c : ℕ) → r ≤ 65536 → w ≤ 196608 → c ≤ 1 → Grows counts r w c
  grows r w c p q s =
      record {
        ids = omega (arith, next-id, h.few);
        rooms = omega (arith, next-element, h.fits, h.short);
        works = omega (arith, spent-is, h.cheap, h.few);
        steps-more = omega (arith, counted_is, h.slow, h.few);
      }

-- ---- under an empty control

bare-elements : (k : Kind) → elements (bare k) ≡ []
bare-elements Ints = refl
bare-elements Bools = refl
bare-elements Flags = refl
bare-elements Units = refl

bare-len : (k : Kind) → len (bare k) ≡ 0
bare-len Ints = refl
bare-len Bools = refl
bare-len Flags = refl
bare-len Units = refl

module _ {t : Transducer} {w : Spans} {buf : List ℤ} {counts : Machine} {m : State} (x : Performable t w buf counts m) where
  none_written : buf ≡ written (room m.store) (elements (empty m.store t)) buf
  none_written = nothing_written (room m.store) buf ∙ ap (λ l. written (room m.store) l buf) (sym (bare-elements (signature (carried m.store t) t).output))

  pub skipped-over : (cap k : ℕ) (counts' : Machine) → k ≡ 0 → counts' ≡ grown counts 0 0 0
      → Performed (stepped cap k t m) m buf buf counts' (Ok 0)
  unfolding stepped skipped
  skipped-over cap zero counts' z s =
      let none : length (elements (empty m.store t)) ≡ 0 = ap length (bare-elements (signature (carried m.store t) t).output) in
      record {
        went_on =
            λ m' a e h.
            let is : skip (define t done) m ≡ m' = same-state (skip (define t done) m) m' e in
            let a-is : empty m.store t ≡ a = same-newest m.store (empty m.store t) a (ap (λ q. q.store) is ∙ h) in
            let w : m.work + 0 ≡ m.work = add-zero m.work in
            let c : m.steps + 0 ≡ m.steps = add-zero m.steps in
            let both =
            held_more x.held (empty m.store t) 0 0 buf counts' (omega (arith, none, x.held.fits)) x.more (omega arith) (omega arith) none_written
            (s ∙ ap (λ k. grown counts k 0 0) (sym none)) m'
            (sym is ∙ (λ i. record { store = m.store ++ empty m.store t ∷ []; work = sym w i; steps = sym c i })) in
            (ap Ok (sym (bare-len (signature (carried m.store t) t).output) ∙ ap len a-is), both.0, both.1);
        gave-up = λ why s e. never (cc);
      }
  skipped-over cap (suc k) counts' z s = absurd (omega arith)

-- ---- executed

-- what the run says of a transducer's answer where the next id is s
abbrev pub told : (s : ℕ) → Returned ℕ Failure → Returned ℕ Refusal
told s (Ok k) = Ok k
told s (Err f) = Err (refusing f s)

module _ (cap : ℕ) (t : Transducer) (n : ℕ) (m : State) (f : room m.store ≤ cap) where
  -- the two tests for room agree
  fits-too : (a : Stream) → length (elements a) ≤ cap - room m.store → holding cap (room (m.store ++ a ∷ [])) ≡ true
  fits-too a h = le-leb (room (m.store ++ a ∷ [])) cap (omega (arith, room-more m.store a))

  full-too : (a : Stream) → cap - room m.store < length (elements a) → holding cap (room (m.store ++ a ∷ [])) ≡ false
  full-too a h = lt-leb (room (m.store ++ a ∷ [])) cap (omega (arith, room-more m.store a))

  -- an instruction that went through
  pub record Through (x : Answer) (m' : State) : Type 0 where
    pub output : Stream
    pub is_made : x ≡ made output
    pub pushed : push t n output m ≡ m'
    pub fits : length (elements output) ≤ cap - room m.store
    pub said : answered (cap - room m.store) x ≡ Ok (len output)

  through : (x : Answer) (m' : State) → concluded cap t n m x ≡ went m' → Through x m'
  through (made a) m' e = go (leb (length (elements a)) (cap - room m.store)) refl
    where
      go : (b : Bool) → leb (length (elements a)) (cap - room m.store) ≡ b → Through (made a) m'
      go true q =
          let h : length (elements a) ≤ cap - room m.store = leb-true (length (elements a)) (cap - room m.store) q in
          let g = concluded-went cap t n m m' (made a) e in
          let same : a ≡ g.0 = cc g.1 in
          record {
            output = a;
            is_made = refl;
            pushed = ap (λ b. push t n b m) same ∙ g.2;
            fits = h;
            said = rw (q, answered);
          }
      go false q =
          let h : cap - room m.store < length (elements a) = leb-false (length (elements a)) (cap - room m.store) q in
          let z : stopped full (length m.store) ≡ went m' =
          sym (λ i. elim (full-too a h i) [ true ↦ went (push t n a m) | false ↦ stopped full (length m.store) ]) ∙ e in
          never (cc)
  through (unfit k) m' e = never (cc)
  through (negative k) m' e = never (cc)
  through (outside k) m' e = never (cc)

  halted : (x : Answer) (why : Stop) (s : ℕ) → concluded cap t n m x ≡ stopped why s
      → told (length m.store) (answered (cap - room m.store) x) ≡ Err (refusal_of why s)
  halted (made a) why s e = go (leb (length (elements a)) (cap - room m.store)) refl
    where
      go : (b : Bool) → leb (length (elements a)) (cap - room m.store) ≡ b
          → told (length m.store) (elim b [ true ↦ Ok (len a) | false ↦ Err failure.NoRoom ]) ≡ Err (refusal_of why s)
      go true q =
          let h : length (elements a) ≤ cap - room m.store = leb-true (length (elements a)) (cap - room m.store) q in
          let z : went (push t n a m) ≡ stopped why s =
          sym (λ i. elim (fits-too a h i) [ true ↦ went (push t n a m) | false ↦ stopped full (length m.store) ]) ∙ e in
          never (cc)
      go false q =
          let h : cap - room m.store < length (elements a) = leb-false (length (elements a)) (cap - room m.store) q in
          let z : stopped full (length m.store) ≡ stopped why s =
          sym (λ i. elim (full-too a h i) [ true ↦ went (push t n a m) | false ↦ stopped full (length m.store) ]) ∙ e in
          let p : full ≡ why = cc in
          let r : length m.store ≡ s = cc in
          ap Err (ap₂ refusal_of p r)
  halted (unfit k) why s e =
      let p : unfitting k ≡ why = cc in
      let r : length m.store ≡ s = cc in
      ap Err (ap₂ refusal_of p r)
  halted (negative k) why s e =
      let p : below_zero k ≡ why = cc in
      let r : length m.store ≡ s = cc in
      ap Err (ap₂ refusal_of p r)
  halted (outside k) why s e =
      let p : out_of_range k ≡ why = cc in
      let r : length m.store ≡ s = cc in
      ap Err (ap₂ refusal_of p r)

stepped-is : (cap : ℕ) (t : Transducer) (n : ℕ) (m : State) → 0 < n → stepped cap n t m ≡ concluded cap t n m (apply t n m.store)
unfolding stepped
stepped-is cap t zero m h = absurd (omega arith)
stepped-is cap t (suc n) m h = step_is cap t (suc n) m

-- how much an output takes
taken_is : (a : Stream) → taking (kind_of a) (len a) ≡ length (elements a)
taken_is (ints zs) = refl
taken_is (bools cs) = sym (length-map cs bit)
taken_is (flags bs) = sym (length-map bs bit)
taken_is (units n) = refl

as_long : (a : Stream) → taking (kind_of a) (len a) ≡ len a → len a ≡ length (elements a)
as_long a e = sym e ∙ taken_is a

pub data-takes : (b : Base) (n : ℕ) → taking (data_kind b) n ≡ n
data-takes base.Int n = refl
data-takes base.Bool n = refl

-- Usum's output is its F's
units-made : (k : ℕ) (bs : List Bool) (a : Stream) → snesl.usum some k bs ≡ made a → a ≡ units (count_f some bs)
units-made k bs a e = go (misfit some {B = ℤ} alone 0 k bs []) e
  where
    go : (o : Option ℕ) → unless o unfit (made (units (count_f some bs))) ≡ made a → a ≡ units (count_f some bs)
    go none q = cc
    go (some j) q = never (cc)

usum-is : (σ : Store) (s : StreamId) (k : ℕ) (bs : List Bool) → σ ! s.0 ≡ some (flags bs) → snesl.usum some k bs ≡ apply (Usum s) k σ
unfolding apply
usum-is σ s k bs e = ap (λ x. on_flags x (snesl.usum some k)) (sym e)

module _ {σ : Store} {buf : List ℤ} (h : Holds buf σ) where
  -- no operand is longer than the room
  operand-most : (k : Kind) (s at n : ℕ) → OperandAt σ k s at n → length_of σ s ≤ room σ
  operand-most Ints s at n o = omega (arith, o.long, ints-within h o)
  operand-most Bools s at n o = omega (arith, o.long, bools-within h o)
  operand-most Flags s at n o = omega (arith, o.long, flags-within h o)
  operand-most Units s at n o = absurd o

  operands-most : (ks : List Kind) (ss : List ℕ) (ps : List (ℕ × ℕ)) → OperandsAt σ ks ss ps → sum_of (map (length_of σ) ss) ≤ length ps * room σ
  unfolding sum_of
  operands-most [] [] ps o = omega arith
  operands-most [] (s ∷ ss) ps o = absurd o
  operands-most (k ∷ ks) [] ps o = absurd o
  operands-most (k ∷ ks) (s ∷ ss) [] o = absurd o
  operands-most (k ∷ ks) (s ∷ ss) (p ∷ ps) o = omega (arith, operand-most k s p.0 p.1 o.0, operands-most ks ss ps o.1, suc-mul (length ps) (room σ))

  -- nor is an output that fits, units included: only Usum makes units
  output-most : (w : Spans) (b : Base) (t : Transducer) → OperandsAt σ (signature b t).inputs (operands t) (span_list w) → (k : ℕ) (a : Stream) → apply t k σ ≡ made a
      → (len a ≤ room σ) ⊎ (len a ≡ length (elements a))
  output-most w b (Usum s) o k a e =
      let i : FlagsAt σ s.0 w.first.start w.first.length = o.0 in
      let u = units-made k i.content a (usum-is σ s k i.content i.stream ∙ e) in
      let l : length_of σ s.0 ≡ length i.content = ap length_in i.stream in
      inl (omega (arith, ap len u, count_f-most i.content, i.long, l, flags-within h i))
  output-most w b (Const z) o k a e = inr (as_long a (ap (λ c. taking c (len a)) (output-made (Const z) k σ a e)))
  output-most w b (ConstBool c) o k a e = inr (as_long a (ap (λ c. taking c (len a)) (output-made (ConstBool c) k σ a e)))
  output-most w b (ToFlags s) o k a e = inr (as_long a (ap (λ c. taking c (len a)) (output-made (ToFlags s) k σ a e)))
  output-most w b (B2u s) o k a e = inr (as_long a (ap (λ c. taking c (len a)) (output-made (B2u s) k σ a e)))
  output-most w b (MapTwo u s t) o k a e = inr (as_long a (ap (λ c. taking c (len a)) (output-made (MapTwo u s t) k σ a e) ∙ data-takes (result_of u) (len a)))
  output-most w b (MapOneNot s) o k a e = inr (as_long a (ap (λ c. taking c (len a)) (output-made (MapOneNot s) k σ a e)))
  output-most w b (ScanPlus z s t) o k a e = inr (as_long a (ap (λ c. taking c (len a)) (output-made (ScanPlus z s t) k σ a e)))
  output-most w b (Distr s t) o k a e = inr (as_long a (ap (λ c. taking c (len a)) (output-made (Distr s t) k σ a e) ∙ data-takes (base_in (σ ! t.0)) (len a)))
  output-most w b (SumPlus s t) o k a e = inr (as_long a (ap (λ c. taking c (len a)) (output-made (SumPlus s t) k σ a e)))
  output-most w b (Pack s t) o k a e = inr (as_long a (ap (λ c. taking c (len a)) (output-made (Pack s t) k σ a e) ∙ data-takes (base_in (σ ! t.0)) (len a)))
  output-most w b (UPack s t) o k a e = inr (as_long a (ap (λ c. taking c (len a)) (output-made (UPack s t) k σ a e)))

module _ {t : Transducer} {w : Spans} {buf : List ℤ} {counts : Machine} {m : State} (x : Performable t w buf counts m) where
  holds : Holds buf m.store
  holds = record { content = x.held.contents-are; fits = x.held.fits }

  pub applies : {held : List ℤ} → held ≡ take (counts.room) buf → Applies t w held m.store
  applies e =
      let is = e ∙ ap (λ r. take r buf) (next-element x.held) ∙ x.held.contents-are in
      record {
        base = x.spanned.base;
        stand = x.spanned.stand;
        inside = x.spanned.inside;
        contents-are = is;
        short = omega (arith, ap length is, x.held.fits, x.held.short);
      }

  module _ (k : ℕ) {o : Returned ℕ Failure} {free end new : List ℤ} (p : free ≡ drop (counts.room) buf) (q : new ≡ take (counts.room) buf ++ end)
      (v : Transduced free (apply t k m.store) o end) where
    behind : free ≡ drop (room m.store) buf
    behind = p ∙ ap (λ r. drop r buf) (next-element x.held)

    left : length free ≡ length buf - room m.store
    left = ap length behind ∙ length-drop (room m.store) buf

    -- what was answered, of the machine
    says : o ≡ answered (length buf - room m.store) (apply t k m.store)
    says = v.says ∙ ap (λ r. answered r (apply t k m.store)) left

    -- the output that was made
    module _ {m' : State} (g : Through (length buf) t k m x.held.fits (apply t k m.store) m') where
      kind : kind_of g.output ≡ (signature (carried m.store t) t).output
      kind = output-made t k m.store g.output g.is_made

      fits : room m.store + length (elements g.output) ≤ length buf
      fits = omega (arith, g.fits, x.held.fits)

      most : len g.output ≤ 65536
      most = go (output-most holds w x.spanned.base t x.spanned.stand k g.output g.is_made)
        where
          go : (len g.output ≤ room m.store) ⊎ (len g.output ≡ length (elements g.output)) → len g.output ≤ 65536
          go (inl l) = omega (arith, x.held.fits, x.held.short)
          go (inr l) = omega (arith, fits, x.held.short)

      cheap : w.first.length + w.second.length + len g.output ≤ 196608
      cheap =
          omega (arith, most, x.spanned.total, operands-most holds (signature x.spanned.base t).inputs (operands t) (span_list w) x.spanned.stand, x.held.fits, x.held.short)

      takes-it : taking (signature (carried m.store t) t).output (len g.output) ≡ length (elements g.output)
      takes-it = ap (λ c. taking c (len g.output)) (sym kind) ∙ taken_is g.output

      wrote : new ≡ written (room m.store) (elements g.output) buf
      unfolding written
      wrote =
          q
          ∙ ap (λ l. take (counts.room) buf ++ l) (v.wrote g.output g.is_made (omega (arith, g.fits, left)))
          ∙ (λ i. take (next-element x.held i) buf ++ (elements g.output ++ drop (length (elements g.output)) (behind i)))
          ∙ ap (λ l. take (room m.store) buf ++ (elements g.output ++ l)) (drop-drop (length (elements g.output)) (room m.store) buf)
          ∙ sym (append_assoc (take (room m.store) buf) (elements g.output) (drop (room m.store + length (elements g.output)) buf))

    -- a stream that was made has an output behind it
    gone : (j : ℕ) → o ≡ Ok j → (m' : State) × Through (length buf) t k m x.held.fits (apply t k m.store) m'
    gone j e = go (concluded (length buf) t k m (apply t k m.store)) refl
      where
        go : (r : Result) → concluded (length buf) t k m (apply t k m.store) ≡ r
            → (m' : State) × Through (length buf) t k m x.held.fits (apply t k m.store) m'
        go (went m') q = (m', through (length buf) t k m x.held.fits (apply t k m.store) m' q)
        go (stopped why s) q =
            let h : told (length m.store) (answered (length buf - room m.store) (apply t k m.store)) ≡ Err (refusal_of why s) =
            halted (length buf) t k m x.held.fits (apply t k m.store) why s q in
            let z : Ok j ≡ Err (refusal_of why s) = ap (told (length m.store)) (sym e ∙ says) ∙ h in
            never (cc)

    -- the words can grow by it
    pub room_for : {r : ℕ} (j : ℕ) → o ≡ Ok j → ((b : Base) → r ≡ taking (signature b t).output j) → Grows counts r (w.first.length + w.second.length + j) 1
    room_for {r} j e q =
        let g = gone j e in
        let same : Ok j ≡ Ok (len g.1.output) = sym e ∙ (says ∙ g.1.said) in
        let j-is : j ≡ len g.1.output = cc in
        let takes : taking (signature (carried m.store t) t).output j ≡ length (elements g.1.output) = ap (taking (signature (carried m.store t) t).output) j-is ∙ takes-it g.1 in
        grows x.held r (w.first.length + w.second.length + j) 1 (omega (arith, q (carried m.store t), fits g.1, x.held.short)) (omega (arith, cheap g.1)) (omega arith)

    pub performed : {r : Returned ℕ Refusal} {counts' : Machine} → 0 < k → r ≡ told (counts.streams) o
        → ((j : ℕ) → o ≡ Ok j → counts' ≡ grown counts (taking (signature (carried m.store t) t).output j) (w.first.length + w.second.length + j) 1)
        → Performed (stepped (length buf) k t m) m buf new counts' r
    performed {r} {counts'} some-units q s =
        let is : stepped (length buf) k t m ≡ concluded (length buf) t k m (apply t k m.store) = stepped-is (length buf) t k m some-units in
        let id : told (counts.streams) o ≡ told (length m.store) o = ap (λ i. told i o) (next-id x.held) in
        record {
          went_on =
              λ m' a e h.
              let g = through (length buf) t k m x.held.fits (apply t k m.store) m' (sym is ∙ e) in
              let b : Stream = g.output in
              let o_is : o ≡ Ok (len b) = says ∙ g.said in
              let a-is : b ≡ a = same-newest m.store b a (ap (λ u. u.store) g.pushed ∙ h) in
              let takes : taking (signature (carried m.store t) t).output (len b) ≡ length (elements b) = takes-it g in
              let spent : work_of k (fetch m.store (operands t)) b ≡ w.first.length + w.second.length + len b = work-is x.spanned k b in
              let both =
              held_more x.held b (w.first.length + w.second.length + len b) 1 new counts' (fits g) x.more (cheap g) (omega arith) (wrote g)
              (s (len b) o_is ∙ ap (λ l. grown counts l (w.first.length + w.second.length + len b) 1) takes) m'
              (sym g.pushed ∙ (λ i. record { store = m.store ++ b ∷ []; work = m.work + spent i; steps = m.steps + 1 })) in
              (q ∙ (ap (told (counts.streams)) o_is ∙ ap (λ c. Ok (len c)) a-is), both.0, both.1);
          gave-up =
              λ why j e.
              q
              ∙ (id
              ∙ (ap (told (length m.store)) says
              ∙ halted (length buf) t k m x.held.fits (apply t k m.store) why j (sym is ∙ e)));
        }

    -- an output of j elements
    module _ {j : ℕ} (e : o ≡ Ok j) where
      pub costs : w.first.length + w.second.length + j ≤ 196608
      costs =
          let g = gone j e in
          let same : Ok j ≡ Ok (len g.1.output) = sym e ∙ (says ∙ g.1.said) in
          let j-is : j ≡ len g.1.output = cc in
          omega (arith, cheap g.1)

      pub performed-made : {counts' : Machine} {r : ℕ} → 0 < k → ((b : Base) → r ≡ taking (signature b t).output j) → counts' ≡ grown counts r (w.first.length + w.second.length + j) 1
          → Performed (stepped (length buf) k t m) m buf new counts' (Ok j)
      performed-made {counts'} {r} h q s =
          performed h (ap (told (counts.streams)) (sym e))
          (λ i f.
          let both : Ok j ≡ Ok i = sym e ∙ f in
          let same : j ≡ i = cc in
          s ∙ (ap (λ u. grown counts u (w.first.length + w.second.length + j) 1) (q (carried m.store t)) ∙ ap (λ u. grown counts (taking (signature (carried m.store t) t).output u) (w.first.length + w.second.length + u) 1) same))
