-- A line is put into a sink.
use Prim.Native.Nat.{ℕ, ◌+◌, ◌≤◌, ◌<◌}
use native.Mathlib.Omega.{arith}
use mathlib.Core.Bool.{Bool, true, false}
use mathlib.Core.List.{List}
use mathlib.Core.Path.{◌≡◌, refl, sym, ap, ◌∙◌, subst}
use borrow.Author.Tests.{le-leb, lt-leb}
use lib.Dec.{leb}
use lib.ListN.{length}
use lib.Seq.{sets}
use Rattle.decimals.specs.Writing.{Writes}
use Rattle.sink.specs.declared.state.Mode.TheVariants.{Running, Listing, Surveying}
use Rattle.sink.specs.declared.state.Sink as state
use Rattle.sink.specs.Sinks.{Sink, far, put}
use Rattle.sink.specs.Sunk.{Sunk}

abbrev pub landed : List ℕ → Sink → Sink
landed w k = record { mode = k.mode; text = sets k.text k.at w; at = k.at + length w; own = k.own; taken = k.taken; most = k.most }

module _ (w : List ℕ) (k : Sink) where
  put-by : {b : Bool} → leb k.at far ≡ b → put w k ≡ elim b [ true ↦ landed w k | false ↦ k ]
  put-by e = ap (λ b. elim b [ true ↦ landed w k | false ↦ k ]) e

  pub put-far : far < k.at → put w k ≡ k
  put-far h = put-by (lt-leb k.at far h)

  pub put-near : k.at ≤ far → put w k ≡ landed w k
  put-near h = put-by (le-leb k.at far h)

  -- what it leaves
  pub record Stays (a : Sink) : Type 0 where
    pub mode : a.mode ≡ k.mode
    pub own : a.own ≡ k.own
    pub taken : a.taken ≡ k.taken
    pub most : a.most ≡ k.most

  pub put-stays : Stays (put w k)
  put-stays = go (leb k.at far) refl
    where
      go : (b : Bool) → leb k.at far ≡ b → Stays (put w k)
      go true e = subst Stays (sym (put-by e)) (record { mode = refl; own = refl; taken = refl; most = refl })
      go false e = subst Stays (sym (put-by e)) (record { mode = refl; own = refl; taken = refl; most = refl })

-- a line that a sink writes where it lists
pub put_listed : {k : Sink} {text : List ℕ} {s : state.Sink} (u : Sunk k text s) (w : List ℕ) → s.mode ≡ Listing → s.at ≤ far → length w ≤ far
    → {new : List ℕ} {r : ℕ} → Writes text new s.at w r
    → Sunk (elim k.mode [ Running ↦ k | Listing ↦ put w k | Surveying ↦ k ]) new (record { mode = s.mode; at = r; own = s.own; kept = s.kept })
put_listed {k} {s = s} u w m h l {new} {r} e =
    let after : state.Sink = record { mode = s.mode; at = r; own = s.own; kept = s.kept } in
    let lists : k.mode ≡ Listing = sym u.mode-is ∙ m in
    let near : k.at ≤ far = omega (arith, u.at-is) in
    subst (λ a. Sunk (elim a [ Running ↦ k | Listing ↦ put w k | Surveying ↦ k ]) new after) (sym lists)
    (subst (λ a. Sunk a new after) (sym (put-near w k near))
    (record {
      mode-is = u.mode-is;
      at-is = e.count ∙ ap (λ n. n + length w) u.at-is;
      own-is = u.own-is;
      marks = u.marks;
      near = omega arith;
      text-is = e.content ∙ (ap (λ t. sets t s.at w) u.text-is ∙ ap (λ n. sets k.text n w) u.at-is);
      plain = λ p. record { own = (u.plain p).own; taken = (u.plain p).taken };
    }))
