-- The packing of a scalar: one instruction.
use Prim.Native.Nat.{ℕ}
use mathlib.Core.List.{List}
use mathlib.Core.Path.{◌≡◌, sym, ◌∙◌, ap, ap₂, subst}
use native.Mathlib.Omega.{arith}
use lib.IntN.{ℤ}
use lib.ListN.{length, get_or, drop}
use Rattle.std.specs.Prelude.{Ok, Err, Result as Returned}
use Rattle.laws.proofs.Never.{never}
use Rattle.snesl.specs.declared.code.Base.{Base}
use Rattle.snesl.specs.declared.code.Transducer.{Transducer}
use Rattle.snesl.specs.declared.code.Transducer.TheVariants.{Pack}
use Rattle.snesl.specs.declared.refusal.Refusal.{Refusal}
use Rattle.snesl.specs.Trees.{Tree, leaf, root, map_tree}
use Rattle.snesl.specs.Streams.{kind_of, data_kind, base_in, ◌!◌}
use Rattle.snesl.specs.Machine.{State, went, stopped}
use Rattle.snesl.specs.Translation.{id, pack_size, pack_tree, pack_code}
use Rattle.environment.specs.Words.{tree_words}
use Rattle.sink.specs.declared.state.Walk.{Walk}
use Rattle.sink.specs.Sinks.{Sink, feed}
use Rattle.steps.specs.Walking.{stepped, walked}
use Rattle.steps.specs.Holding.{PlacedAt, Stopping}
use Rattle.steps.proofs.Stores.{newest}
use Rattle.steps.proofs.Walking.{walked_one}
use Rattle.leaves.proofs.Operands.{named-there}
use Rattle.guards.specs.Packs.{Puts, Placed, kinds-leaf, Packs, pack_answer, Leaves, Ends}
use Rattle.guards.specs.declared.Packing.{Packing}
use Rattle.guards.proofs.Growth.{data-solid, base-is, kinds-root}
use Rattle.guards.proofs.Putting.{stored, halts}

-- how a packing that went through, or stopped, answers
module _ {p : Packing} {d : ℕ} {t : Tree ℕ d} {b : ℕ} {c : Base} {m : State} {k : Sink} {n : ℕ} {env env' : List ℕ} {buf buf' : List ℤ} {state' : Walk} {text' : List ℕ} where
  pub ends-whole : (m' : State) → walked (length buf) n (pack_code b t (length m.store)) m ≡ went m' → Leaves p t b c m k env env' buf buf' state' text' m'
      → Ends p t b c m k n env env' buf buf' state' text' (Ok tt)
  ends-whole m' e l =
      record {
        says = ap pack_answer (sym e);
        leaves =
            λ m'' q.
            let both : went m' ≡ went m'' = sym e ∙ q in
            let same : m' ≡ m'' = cc in
            subst (Leaves p t b c m k env env' buf buf' state' text') same l;
      }

  pub ends-stopped : {q : Refusal} → Stopping (walked (length buf) n (pack_code b t (length m.store)) m) q → Ends p t b c m k n env env' buf buf' state' text' (Err q)
  ends-stopped s =
      record {
        says = ap Err s.refuses ∙ ap pack_answer (sym s.stops);
        leaves = λ m' e. let both : stopped s.why s.where-at ≡ went m' = sym s.stops ∙ e in never (cc);
      }

module _ {p : Packing} {s b : ℕ} {c : Base} {m : State} {k : Sink} {env : List ℕ} {buf : List ℤ} {state : Walk} {text : List ℕ} (g : Packs p (leaf s) b c m k env buf state text) where
  data-placed : PlacedAt m.store env (data_kind c) s p.from
  unfolding tree_words map_tree root
  data-placed = let r = kinds-root g.kinds in record { stream = r.0; there = r.1; kind = r.2; words = g.words }

  abbrev packing : Transducer
  packing = Pack (id b) (id s)

  made-is : Pack (id (get_or env p.bools 0)) (id (get_or env p.from 0)) ≡ packing
  made-is = ap₂ (λ i j. Pack (id i) (id j)) (named-there g.placed) (named-there data-placed)

  pub data-ready : Puts (Pack (id (get_or env p.bools 0)) (id (get_or env p.from 0))) (record { first = p.bools; second = p.from }) p.to env buf state text m k
  unfolding pack_size
  data-ready =
      subst (λ t. Puts t (record { first = p.bools; second = p.from }) p.to env buf state text m k) (sym made-is)
      (record {
        makes =
            record {
              executable = record { held = g.held; base = c; placed = (g.placed, (data-placed, tt)); more = omega (arith, g.few) };
              sunk = g.sunk;
            };
        solid = λ e q. data-solid e q;
        fits = omega (arith, g.apart, g.within);
      })

  module _ (n : ℕ) {env₁ : List ℕ} {buf₁ : List ℤ} {state₁ : Walk} {text₁ : List ℕ} {r : Returned ℕ Refusal}
      (w : Placed (length buf) n (Pack (id (get_or env p.bools 0)) (id (get_or env p.from 0))) p.to m k env env₁ buf buf₁ state₁ text₁ r) where
    own : Placed (length buf) n packing p.to m k env env₁ buf buf₁ state₁ text₁ r
    own = subst (λ t. Placed (length buf) n t p.to m k env env₁ buf buf₁ state₁ text₁ r) made-is w

    alone : walked (length buf) n (pack_code b (leaf s) (length m.store)) m ≡ stepped (length buf) n packing m
    unfolding pack_code
    alone = walked_one (length buf) n packing m

    pub data-stopped : {q : Refusal} → r ≡ Err q → Ends p (leaf s) b c m k n env env₁ buf buf₁ state₁ text₁ (Err q)
    data-stopped {q} e =
        let h = halts own e in
        ends-stopped (record { why = h.why; where-at = h.where-at; stops = alone ∙ h.stops; refuses = h.refuses })

    pub data-whole : {made : ℕ} → r ≡ Ok made → Ends p (leaf s) b c m k n env env₁ buf buf₁ state₁ text₁ (Ok tt)
    unfolding pack_code pack_tree feed tree_words map_tree
    data-whole e =
        let o = stored own e in
        let base : kind_of o.stream ≡ data_kind c =
        o.kind ∙ ap data_kind (ap base_in data-placed.there ∙ base-is data-placed.stream c data-placed.kind) in
        ends-whole o.after (alone ∙ o.went_to)
        (record {
          held = o.held;
          sunk = o.sunk;
          kept = o.kept;
          kinds = kinds-leaf o.stream (ap (λ σ. σ ! length m.store) o.store ∙ newest m.store o.stream) base;
          words = ap (drop p.low) o.words;
        })
