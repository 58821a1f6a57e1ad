-- A scene goes on: the machine grows and words are written below sp, and the same names stand for the same trees.
use Prim.Native.Nat.{ℕ}
use mathlib.Core.List.{List, ◌++◌}
use mathlib.Core.Path.{◌≡◌, sym, ◌∙◌, ap, subst}
use native.Mathlib.Omega.{arith}
use lib.IntN.{ℤ}
use lib.ListN.{length, drop}
use Rattle.snesl.specs.Streams.{Store}
use Rattle.snesl.specs.Machine.{State}
use Rattle.environment.specs.Words.{spelled}
use Rattle.sink.specs.declared.state.Walk.{Walk}
use Rattle.steps.specs.Holding.{Held}
use Rattle.leaves.specs.Places.{places, Shaped}
use Rattle.sink.specs.Sinks.{Sink}
use Rattle.sink.specs.Sunk.{Sunk}
use Rattle.leaves.specs.Scenes.{Scene}
use Rattle.bodies.proofs.Feeding.{Like, wide-like}
use Rattle.leaves.proofs.Places.{places-kept, shaped-kept}

module _ {env : List ℕ} {sp : ℕ} {buf : List ℤ} {state : Walk} {text : List ℕ} (s : Scene env sp buf state text) (m : State) (τ : Store) (e : m.store ≡ s.machine.store ++ τ) where
  grown-places : places m.store s.trees ≡ places s.machine.store s.trees
  grown-places = ap (λ σ. places σ s.trees) e ∙ places-kept s.machine.store τ s.shaped

  pub grown-shaped : Shaped m.store s.context s.trees
  grown-shaped = subst (λ σ. Shaped σ s.context s.trees) (sym e) (shaped-kept s.machine.store τ s.shaped)

  pub grown-spells : (env' : List ℕ) → drop sp env' ≡ drop sp env → drop sp env' ≡ spelled s.names (places m.store s.trees) ++ s.rest
  grown-spells env' d = d ∙ (s.spells ∙ ap (λ δ. spelled s.names δ ++ s.rest) (sym grown-places))

  abbrev pub later : {env' : List ℕ} {buf' : List ℤ} {state' : Walk} {text' : List ℕ} → Held m buf' state'.machine → drop sp env' ≡ drop sp env → length env' ≡ length env
      → (k : Sink) → Sunk k text' state'.sink → Like s.sink k → Scene env' sp buf' state' text'
  later {env'} h d l k u w =
      record {
        context = s.context;
        names = s.names;
        trees = s.trees;
        machine = m;
        rest = s.rest;
        spells = grown-spells env' d;
        shaped = grown-shaped;
        shallow = s.shallow;
        held = h;
        within = omega (arith, s.within, l);
        sink = k;
        sunk = u;
        wide = wide-like w s.wide;
      }
