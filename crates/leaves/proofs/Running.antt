-- What a walk answers, from how it ends, and how it ended, from what it answered.
use Prim.Native.Nat.{ℕ}
use mathlib.Core.List.{List}
use mathlib.Core.Path.{◌≡◌, refl, sym, ◌∙◌, ap, subst, transport}
use lib.IntN.{ℤ}
use Rattle.std.specs.Prelude.{Ok, Err, Result as Returned}
use Rattle.laws.proofs.Never.{never}
use Rattle.snesl.specs.declared.refusal.Refusal.{Refusal}
use Rattle.snesl.specs.Values.{ValueType, depth_of}
use Rattle.snesl.specs.Trees.{IdTree}
use Rattle.snesl.specs.Machine.{State, Result, went, stopped}
use Rattle.snesl.specs.Outcome.{refusal_of}
use Rattle.sink.specs.declared.state.Walk.{Walk}
use Rattle.sink.specs.Sinks.{Sink}
use Rattle.steps.specs.Holding.{Stopping}
use Rattle.leaves.specs.declared.Walked.{Walked}
use Rattle.leaves.specs.Scenes.{answer, reached, Left, Ran}

module _ {res : Result} {k : Sink} {τ : ValueType} {t : IdTree τ} {next sp : ℕ} {env env' : List ℕ} {buf buf' : List ℤ} {state : Walk} {text : List ℕ} where
  pub ran-through : (m : State) → res ≡ went m → Left m k τ t sp env env' buf buf' state text → Ran res k τ t next sp env env' buf buf' state text (reached (depth_of τ) next)
  ran-through m e l =
      record {
        says = ap (answer (depth_of τ) next) (sym e);
        leaves = λ m' q. let both : went m ≡ went m' = sym e ∙ q in let same : m ≡ m' = cc in subst (λ u. Left u k τ t sp env env' buf buf' state text) same l;
      }

  pub ran-stopped : {q : Refusal} → Stopping res q → Ran res k τ t next sp env env' buf buf' state text (Err q)
  ran-stopped s =
      record {
        says = ap Err s.refuses ∙ ap (answer (depth_of τ) next) (sym s.stops);
        leaves = λ m e. let both : stopped s.why s.where-at ≡ went m = sym s.stops ∙ e in never (cc);
      }

  -- a walk that answered a tree
  module _ {r : Returned Walked Refusal} (w : Ran res k τ t next sp env env' buf buf' state text r) where
    pub record Through (c i : ℕ) : Type 0 where
      pub after : State
      pub went_to : res ≡ went after
      pub depth_is : c ≡ depth_of τ
      pub next-is : i ≡ next
      pub left : Left after k τ t sp env env' buf buf' state text

    pub through : (c i : ℕ) → r ≡ reached c i → Through c i
    through c i e = go res refl
      where
        go : (x : Result) → res ≡ x → Through c i
        go (went m) q =
            let both : reached c i ≡ reached (depth_of τ) next = sym e ∙ (w.says ∙ ap (answer (depth_of τ) next) q) in
            let same : ◌≡◌ {A = Walked} (record { depth = c; next = i }) (record { depth = depth_of τ; next = next }) = cc in
            record { after = m; went_to = q; depth_is = ap (λ w. w.depth) same; next-is = ap (λ w. w.next) same; left = w.leaves m q }
        go (stopped why s) q =
            let both : reached c i ≡ Err (refusal_of why s) = sym e ∙ (w.says ∙ ap (answer (depth_of τ) next) q) in
            never (cc)

    pub halted : (q : Refusal) → r ≡ Err q → Stopping res q
    halted q e = go res refl
      where
        go : (x : Result) → res ≡ x → Stopping res q
        go (went m) p =
            let both : Err q ≡ reached (depth_of τ) next = sym e ∙ (w.says ∙ ap (answer (depth_of τ) next) p) in
            never (cc)
        go (stopped why s) p =
            let both : Err q ≡ Err (refusal_of why s) = sym e ∙ (w.says ∙ ap (answer (depth_of τ) next) p) in
            record { why = why; where-at = s; stops = p; refuses = cc }

-- the same walk, with how it ends, its sink and its tree written in another way
pub ran-as : {res res' : Result} {k k' : Sink} {τ : ValueType} {t t' : IdTree τ} {next sp : ℕ} {env env' : List ℕ} {buf buf' : List ℤ} {state : Walk} {text : List ℕ} {r : Returned Walked Refusal}
    → res ≡ res' → k ≡ k' → t ≡ t' → Ran res k τ t next sp env env' buf buf' state text r → Ran res' k' τ t' next sp env env' buf buf' state text r
ran-as {τ = τ} {next = next} {sp = sp} {env} {env'} {buf} {buf'} {state} {text} {r} p q u w =
    transport (λ i. Ran (p i) (q i) τ (u i) next sp env env' buf buf' state text r) w

-- the same walk, with its answer written in another way
pub ran-answer : {res : Result} {k : Sink} {τ : ValueType} {t : IdTree τ} {next sp : ℕ} {env env' : List ℕ} {buf buf' : List ℤ} {state : Walk} {text : List ℕ} {r r' : Returned Walked Refusal}
    → r ≡ r' → Ran res k τ t next sp env env' buf buf' state text r → Ran res k τ t next sp env env' buf buf' state text r'
ran-answer {res} {k} {τ} {t} {next} {sp} {env} {env'} {buf} {buf'} {state} {text} e w = subst (Ran res k τ t next sp env env' buf buf' state text) e w
