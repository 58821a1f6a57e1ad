-- Writing piece by piece: a position that can be counted on past the whole can be past each piece, and the pieces written one after another are the whole.
use Prim.Native.Nat.{ℕ, ◌+◌, ◌<◌, ◌≤◌, ◌^◌}
use native.Mathlib.Omega.{arith}
use native.Mathlib.Numerals.{add-one}
use mathlib.Core.List.{List, [], ◌∷◌, ◌++◌}
use mathlib.Core.Path.{◌≡◌, sym, ap, ◌∙◌, subst}
use lib.ListN.{length, take, get_or, length-append}
use lib.Seq.{take-suc, take_all, length-take-le, length-sets}
use Rattle.decimals.specs.Writing.{Writes}
use Rattle.decimals.proofs.Stores.{writes_then}
use Rattle.lines.specs.Counting.{Countable}

pub countable-first : {at : ℕ} (u v : List ℕ) → Countable at (u ++ v) → Countable at u
countable-first u v c = record { end = omega (arith, c.end, length-append u v) }

pub countable-next : {at next : ℕ} {old new u : List ℕ} {v : List ℕ} → Countable at (u ++ v) → Writes old new at u next → Countable next v
countable-next {u = u} {v} c w = record { end = omega (arith, c.end, length-append u v, w.count) }

pub writes-length : {old new w : List ℕ} {at next : ℕ} → Writes old new at w next → length new ≡ length old
writes-length {old} {w = w} {at} h = ap length h.content ∙ length-sets old at w

-- one byte more of some bytes
pub writes_byte : (bytes : List ℕ) (i : ℕ) {old mid new : List ℕ} {at p q : ℕ}
    → Writes old mid at (take i bytes) p
    → Writes mid new p (get_or bytes i 0 ∷ []) q
    → i < length bytes
    → Writes old new at (take (i + 1) bytes) q
writes_byte bytes i h g l = rw (add-one, take-suc bytes i 0 l) (writes_then h g)

pub writes-so-far : (bytes : List ℕ) (i : ℕ) {old new : List ℕ} {at p : ℕ}
    → Writes old new at (take i bytes) p
    → i ≤ length bytes
    → Countable at bytes
    → p ≤ 2 ^ 31
writes-so-far bytes i h l c = omega (arith, h.count, c.end, length-take-le i bytes l)

pub writes-all : (bytes : List ℕ) (i : ℕ) {old new : List ℕ} {at p : ℕ}
    → Writes old new at (take i bytes) p
    → length bytes ≤ i
    → Writes old new at bytes p
writes-all bytes i {old} {new} {at} {p} h l = subst (λ w. Writes old new at w p) (take_all i bytes l) h

-- what is asked or known of a text that equals another
pub countable-is : {u v : List ℕ} {at : ℕ} → u ≡ v → Countable at u → Countable at v
countable-is {at = at} e c = subst (Countable at) e c

pub writes-is : {u v : List ℕ} {old new : List ℕ} {at next : ℕ} → u ≡ v → Writes old new at v next → Writes old new at u next
writes-is {old = old} {new = new} {at} {next} e w = subst (λ l. Writes old new at l next) (sym e) w
