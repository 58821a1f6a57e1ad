-- The steps of writing at a depth that code holds as a number above 0.
use Prim.Native.Nat.{ℕ, suc, ◌+◌, ◌<◌, ◌^◌}
use mathlib.Core.Bool.{true, false}
use mathlib.Core.List.{List, [], ◌∷◌}
use mathlib.Core.Path.{◌≡◌, sym, subst}
use lib.IntN.{ℤ, pos}
use lib.ListN.{length, get_or, set}
use Rattle.snesl.specs.declared.code.Base.{Base}
use Rattle.rendering.specs.Showing.{is_stop, Showable, Shown}
use Rattle.decimals.specs.Writing.{Writes}
use Rattle.rendering.proofs.WritingSteps.{Enlisting, flag-inside, end_short, list-closed, list-empty, mark-short, item-showable, enlisting-on, moved_on}

pub showable-at : {β : Base} {d e : ℕ} {b : List ℤ} {cs : List ℕ} {at : ℕ} → d ≡ e → Showable β d b cs at → Showable β e b cs at
showable-at {β = β} {b = b} {cs = cs} {at = at} p a = subst (λ (x : ℕ). Showable β x b cs at) p a

pub shown-at : {β : Base} {d e : ℕ} {b : List ℤ} {cs cs' old new : List ℕ} {at next : ℕ} → d ≡ e → Shown β d b cs cs' old new at next → Shown β e b cs cs' old new at next
shown-at {β = β} {b = b} {cs = cs} {cs' = cs'} {old = old} {new = new} {at = at} {next = next} p a =
    subst (λ (x : ℕ). Shown β x b cs cs' old new at next) p a

module _ {β : Base} {d lv : ℕ} (p : suc d ≡ lv) {b : List ℤ} {cs cs' old new : List ℕ} {at next mark : ℕ} (a : Enlisting β d b cs cs' old new at next mark) where
  pub flag-inside-at : (lv < length cs') × (get_or cs' lv 0 < length b)
  flag-inside-at = subst (λ (x : ℕ). (x < length cs') × (get_or cs' x 0 < length b)) p (flag-inside a)

  module _ {cs₁ : List ℕ} (e : cs₁ ≡ set cs' lv (get_or cs' lv 0 + 1)) where
    own : cs₁ ≡ set cs' (suc d) (get_or cs' (suc d) 0 + 1)
    own = subst (λ (x : ℕ). cs₁ ≡ set cs' x (get_or cs' x 0 + 1)) (sym p) e

    module _ (t : is_stop (get_or b (get_or cs' lv 0) (pos 0)) ≡ true) where
      stop : is_stop (get_or b (get_or cs' (suc d) 0) (pos 0)) ≡ true
      stop = subst (λ (x : ℕ). is_stop (get_or b (get_or cs' x 0) (pos 0)) ≡ true) (sym p) t

      pub end-short-at : next + 1 < 2 ^ 32
      end-short-at = end_short a own stop

      pub closed_at : {new₁ : List ℕ} {end : ℕ} → mark ≡ 44 → Writes new new₁ next (125 ∷ []) end → Shown β lv b cs cs₁ old new₁ at end
      closed_at k w = shown-at p (list-closed a own stop k w)

      pub empty-at : {new₁ new₂ : List ℕ} {mid end : ℕ} → (mark ≡ 44 → ⊥) → Writes new new₁ next (123 ∷ []) mid → Writes new₁ new₂ mid (125 ∷ []) end
          → Shown β lv b cs cs₁ old new₂ at end
      empty-at k w r = shown-at p (list-empty a own stop k w r)

    module _ (t : is_stop (get_or b (get_or cs' lv 0) (pos 0)) ≡ false) where
      goes : is_stop (get_or b (get_or cs' (suc d) 0) (pos 0)) ≡ false
      goes = subst (λ (x : ℕ). is_stop (get_or b (get_or cs' x 0) (pos 0)) ≡ false) (sym p) t

      pub mark-short-at : next + 1 < 2 ^ 32
      mark-short-at = mark-short a own goes

      module _ {new₁ : List ℕ} {next₁ : ℕ} (w : Writes new new₁ next (mark ∷ []) next₁) where
        pub item-showable-at : Showable β d b cs₁ next₁
        item-showable-at = item-showable a own goes w

        module _ {cs₂ new₂ : List ℕ} {next₂ : ℕ} (s : Shown β d b cs₁ cs₂ new₁ new₂ next₁ next₂) where
          pub enlisting-on-at : Enlisting β d b cs cs₂ old new₂ at next₂ 44
          enlisting-on-at = enlisting-on a own goes w s

          pub moved-on-at : get_or cs₂ lv 0 ≡ get_or cs' lv 0 + 1
          moved-on-at = subst (λ (x : ℕ). get_or cs₂ x 0 ≡ get_or cs' x 0 + 1) p (moved_on a own goes w s)
