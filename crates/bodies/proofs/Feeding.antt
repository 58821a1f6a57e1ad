-- What is told to a sink changes neither what it does nor how many ids it can keep; and how a comprehension's code is told.
use Prim.Native.Nat.{ℕ, suc, ◌+◌, ◌≤◌}
use mathlib.Core.Bool.{Bool, true, false}
use mathlib.Core.List.{List}
use mathlib.Core.Path.{◌≡◌, refl, sym, ◌∙◌, ap, subst}
use native.Mathlib.Omega.{arith}
use lib.Dec.{leb}
use lib.ListN.{length}
use lib.Seq.{sets}
use Rattle.snesl.specs.declared.code.Transducer.{Transducer}
use Rattle.snesl.specs.Transducers.{operands}
use Rattle.snesl.specs.Listing.{define_line, with_ctrl_line, close_line}
use Rattle.snesl.specs.Programs.{Program, done, define, with_ctrl, ◌⨾◌, count}
use Rattle.sink.specs.declared.state.Mode.{Mode}
use Rattle.sink.specs.declared.state.Mode.TheVariants.{Running, Listing, Surveying}
use Rattle.sink.specs.Sinks.{Sink, far, put, take_in, defined, opened, closed, feed}
use Rattle.leaves.specs.Scenes.{most_taken, Wide}

pub record Like (k k' : Sink) : Type 0 where
  pub mode : k'.mode ≡ k.mode
  pub most : k'.most ≡ k.most

pub wide-like : {k k' : Sink} → Like k k' → Wide k → Wide k'
wide-like {k} {k'} l w = record { room = λ e. subst (λ n. most_taken ≤ n) (sym l.most) (w.room (sym l.mode ∙ e)) }

like-then : {k k' k'' : Sink} → Like k k' → Like k' k'' → Like k k''
like-then a b = record { mode = b.mode ∙ a.mode; most = b.most ∙ a.most }

module _ (k : Sink) where
  like-put : (w : List ℕ) → Like k (put w k)
  like-put w = go (leb k.at far)
    where
      go : (b : Bool)
          → Like k (elim b [
            | true ↦ record { mode = k.mode; text = sets k.text k.at w; at = k.at + length w; own = k.own; taken = k.taken; most = k.most }
            | false ↦ k
          ])
      go true = record { mode = refl; most = refl }
      go false = record { mode = refl; most = refl }

  pub like-defined : (s : ℕ) (t : Transducer) → Like k (defined s t k)
  like-defined s t = go k.mode
    where
      go : (m : Mode) → Like k (elim m [ Running ↦ k | Listing ↦ put (define_line s t) k | Surveying ↦ take_in (operands t) k ])
      go Running = record { mode = refl; most = refl }
      go Listing = like-put (define_line s t)
      go Surveying = record { mode = refl; most = refl }

  pub like-opened : (outs : List ℕ) (c : ℕ) (ins : List ℕ) → Like k (opened outs c ins k)
  like-opened outs c ins = go k.mode
    where
      go : (m : Mode) → Like k (elim m [ Running ↦ k | Listing ↦ put (with_ctrl_line outs c ins) k | Surveying ↦ k ])
      go Running = record { mode = refl; most = refl }
      go Listing = like-put (with_ctrl_line outs c ins)
      go Surveying = record { mode = refl; most = refl }

  like-closed : Like k (closed k)
  like-closed = go k.mode
    where
      go : (m : Mode) → Like k (elim m [ Running ↦ k | Listing ↦ put close_line k | Surveying ↦ k ])
      go Running = record { mode = refl; most = refl }
      go Listing = like-put close_line
      go Surveying = record { mode = refl; most = refl }

pub like-fed : (s : ℕ) (p : Program) (k : Sink) → Like k (feed s p k)
unfolding feed
like-fed s done k = record { mode = refl; most = refl }
like-fed s (define t p) k = like-then (like-defined k s t) (like-fed (suc s) p (defined s t k))
like-fed s (with_ctrl outs c ins b p) k =
    let inside = like-then (like-opened k outs c ins) (like-fed s b (opened outs c ins k)) in
    let after = like-then inside (like-closed (feed s b (opened outs c ins k))) in
    like-then after (like-fed (s + count b) p (closed (feed s b (opened outs c ins k))))

-- one program after another
pub fed_then : (s : ℕ) (p q : Program) (k : Sink) → feed s (p ⨾ q) k ≡ feed (s + count p) q (feed s p k)
unfolding feed count ◌⨾◌
fed_then s done q k = let z : s ≡ s + 0 = omega arith in ap (λ i. feed i q k) z
fed_then s (define t p) q k =
    let n : suc s + count p ≡ s + suc (count p) = omega arith in
    fed_then (suc s) p q (defined s t k) ∙ ap (λ i. feed i q (feed (suc s) p (defined s t k))) n
fed_then s (with_ctrl outs c ins b p) q k =
    let n : s + count b + count p ≡ s + (count b + count p) = omega arith in
    let j : Sink = closed (feed s b (opened outs c ins k)) in
    fed_then (s + count b) p q j ∙ ap (λ i. feed i q (feed (s + count b) p j)) n
