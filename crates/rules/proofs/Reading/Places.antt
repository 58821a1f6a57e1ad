-- Bytes that stand at an offset of a text.
use Prim.Native.Nat.{ℕ, suc, ◌+◌, ◌≤◌, ◌<◌}
use native.Mathlib.Omega.{arith}
use mathlib.Core.List.{List, [], ◌∷◌, ◌++◌, append_assoc}
use mathlib.Core.Path.{◌≡◌, sym, ap, ◌∙◌}
use lib.ListN.{length, get_or, drop, length-append, length-drop}
use lib.Seq.{drop-cons, drop-drop, drop-append_seam, get_or-drop}

-- the bytes cs stand at k
pub record At (t : List ℕ) (k : ℕ) (cs : List ℕ) : Type 0 where
  pub bytes : drop k t ≡ cs ++ drop (k + length cs) t

pub at-fits : {t : List ℕ} {k c : ℕ} {cs : List ℕ} → At t k (c ∷ cs) → k + length (c ∷ cs) ≤ length t
at-fits {t} {k} {c} {cs} a =
    let whole = ap length a.bytes in
    let left = length-drop k t in
    let right = length-append (c ∷ cs) (drop (k + length (c ∷ cs)) t) in
    let rest = length-drop (k + length (c ∷ cs)) t in
    omega arith

pub at_byte : {t : List ℕ} {k : ℕ} {cs : List ℕ} → At t k cs → (i : ℕ) → get_or t (k + i) 0 ≡ get_or (cs ++ drop (k + length cs) t) i 0
at_byte {t} {k} a i = sym (get_or-drop k t i 0) ∙ ap (λ l. get_or l i 0) a.bytes

pub at_none : {t : List ℕ} {k : ℕ} → At t k []
at_none {t} {k} = let e : k ≡ k + 0 = omega arith in record { bytes = ap (λ n. drop n t) e }

pub at_first : {t : List ℕ} {k : ℕ} (xs ys : List ℕ) → At t k (xs ++ ys) → At t k xs
at_first {t} {k} xs ys a =
    let all : drop k t ≡ xs ++ (ys ++ drop (k + length (xs ++ ys)) t) = a.bytes ∙ append_assoc xs ys (drop (k + length (xs ++ ys)) t) in
    let behind : drop (k + length xs) t ≡ ys ++ drop (k + length (xs ++ ys)) t = sym (drop-drop (length xs) k t) ∙ ap (drop (length xs)) all ∙ drop-append_seam xs _ in
    record { bytes = all ∙ ap (λ l. xs ++ l) (sym behind) }

pub at_rest : {t : List ℕ} {k : ℕ} (xs ys : List ℕ) → At t k (xs ++ ys) → At t (k + length xs) ys
at_rest {t} {k} xs ys a =
    let all : drop k t ≡ xs ++ (ys ++ drop (k + length (xs ++ ys)) t) = a.bytes ∙ append_assoc xs ys (drop (k + length (xs ++ ys)) t) in
    let far : k + length (xs ++ ys) ≡ k + length xs + length ys = omega (arith, length-append xs ys) in
    record { bytes = sym (drop-drop (length xs) k t) ∙ ap (drop (length xs)) all ∙ drop-append_seam xs _ ∙ ap (λ n. ys ++ drop n t) far }

pub at_both : {t : List ℕ} {k : ℕ} (xs ys : List ℕ) → At t k xs → At t (k + length xs) ys → At t k (xs ++ ys)
at_both {t} {k} xs ys a b =
    let far : k + length xs + length ys ≡ k + length (xs ++ ys) = omega (arith, length-append xs ys) in
    record { bytes = a.bytes ∙ ap (λ l. xs ++ l) b.bytes ∙ sym (append_assoc xs ys _) ∙ ap (λ n. (xs ++ ys) ++ drop n t) far }

-- one byte, where there is one
pub at_one : (t : List ℕ) (k : ℕ) → k < length t → At t k (get_or t k 0 ∷ [])
at_one t k h = let e : suc k ≡ k + 1 = omega arith in record { bytes = drop-cons t k 0 h ∙ ap (λ n. get_or t k 0 ∷ drop n t) e }

pub at_more : {t : List ℕ} {k c : ℕ} {cs : List ℕ} → At t k (c ∷ []) → At t (k + 1) cs → At t k (c ∷ cs)
at_more {c = c} {cs} a b = at_both (c ∷ []) cs a b
