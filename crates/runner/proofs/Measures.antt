-- How far a formed expression reaches, how many streams its code defines, how deep its type is, and how many words its walk takes.
use Prim.Native.Nat.{ℕ, zero, suc, ◌+◌, ◌*◌, ◌≤◌, ◌<◌}
use mathlib.Core.List.{List, [], ◌∷◌}
use mathlib.Core.Option.{Option, some, none}
use mathlib.Core.Path.{◌≡◌, refl, sym, ◌∙◌, ap}
use native.Mathlib.Omega.{arith}
use borrow.Author.Tests.{ltb-true}
use lib.ListN.{length}
use Rattle.laws.proofs.Never.{never}
use Rattle.snesl.specs.declared.code.Variable.{Variable}
use Rattle.snesl.specs.Limits.{most_depth}
use Rattle.snesl.specs.Values.{ValueType, scalar, depth_of}
use Rattle.snesl.specs.Terms as terms
use Rattle.snesl.specs.Terms.{Term, Listing, Scalars, any_type, listed_types, All}
use Rattle.snesl.specs.Translation.{pack_size, packs_size, size}
use Rattle.snesl.specs.Checking.{Name, find, Found, missing, found, pointers, NamedListing, listed_any, any_first, any_pointers}
use Rattle.snesl.specs.Formed.{Formed, formed-var, formed-bind, formed-const, formed-truth, formed-iota, formed-operation, formed-negation, formed-sum, formed-each, formed-guard}
use Rattle.records.specs.declared.head.Head.TheVariants.{Var, Const, Truth, Iota, Operation, Negation, Sum, Each, Guard}
use Rattle.records.specs.Heads.{head_of}
use Rattle.records.proofs.Heads.{told}
use Rattle.environment.specs.Words.{tree_size}
use Rattle.environment.specs.Needs.{listed_size, words}
use Rattle.leaves.specs.Places.{Shallow, shallow-none, shallow-more, words_for}
use Rattle.leaves.proofs.Places.{lookup-shallow}
use Rattle.bodies.proofs.Lists.{length-listed}

-- a comprehension lists scalars
pub scalars-shallow : {Γ : List ValueType} → (us : Scalars Γ) → Shallow (listed_types (any_type us))
scalars-shallow [] = shallow-none
scalars-shallow (u ∷ us) = shallow-more {τ = scalar u.0} (omega arith) (scalars-shallow us)

-- a guard lists any variables: as many pointers as names
any-first : {Γ : List ValueType} → (u : Variable) (o : Found Γ) (l : Option (NamedListing Γ)) (ls : NamedListing Γ) → any_first u o l ≡ some ls
    → (rest : NamedListing Γ) × (l ≡ some rest) × (length (any_pointers ls) ≡ suc (length (any_pointers rest)))
any-first u missing l ls e = never (cc)
any-first u (found τ v) none ls e = never (cc)
any-first u (found τ v) (some rest) ls e =
    let q : (u, (τ, v)) ∷ rest ≡ ls = cc in
    (rest, refl, ap (λ k. length (any_pointers k)) (sym q))

pub length-any : {Γ : List ValueType} → (names : All Name Γ) (us : List Variable) (ls : NamedListing Γ) → listed_any names us ≡ some ls → length (any_pointers ls) ≡ length us
unfolding listed_any
length-any names [] ls e = let q : [] ≡ ls = cc in ap (λ l. length (any_pointers l)) (sym q)
length-any names (u ∷ us) ls e =
    let f = any-first u (find u names) (listed_any names us) ls e in
    f.2 ∙ ap suc (length-any names us f.0 f.1)

-- what it lists is no deeper than what is in scope, so that each takes at most so many streams, and so many words
pub any-shallow : {Γ : List ValueType} → Shallow Γ → (us : Listing Γ) → Shallow (listed_types us)
any-shallow s [] = shallow-none
any-shallow s (u ∷ us) = shallow-more {τ = u.0} (lookup-shallow u.1 s) (any-shallow s us)

pack-long : (d : ℕ) → pack_size d ≡ 3 * d + 1
unfolding pack_size
pack-long zero = refl
pack-long (suc d) = omega (arith, pack-long d)

pub packs-most : {Γ : List ValueType} → Shallow Γ → (us : Listing Γ) → packs_size us ≤ 25 * length us
unfolding packs_size
packs-most s [] = omega arith
packs-most s (u ∷ us) = omega (arith, pack-long (depth_of u.0), lookup-shallow u.1 s, packs-most s us)

pub listed-most : {Γ : List ValueType} → Shallow Γ → (us : Listing Γ) → listed_size us ≤ 29 * length us
unfolding listed_size
listed-most s [] = omega arith
listed-most s (u ∷ us) = omega (arith, lookup-shallow u.1 s, listed-most s us)

-- the type of a formed expression is not deeper than is allowed
pub shallow-type : {t : List ℕ} {levels k : ℕ} {Γ : List ValueType} {names : All Name Γ} {τ : ValueType} {next : ℕ} {e : Term Γ τ} → Formed t levels k Γ names τ e next
    → Shallow Γ → depth_of τ ≤ most_depth
shallow-type (formed-var {v = v} h f) s = lookup-shallow v s
shallow-type (formed-bind h f g) s = shallow-type g (shallow-more (shallow-type f s) s)
shallow-type (formed-const h) s = omega arith
shallow-type (formed-truth h) s = omega arith
shallow-type (formed-iota h f) s = omega arith
shallow-type (formed-operation h f g) s = omega arith
shallow-type (formed-negation h f) s = omega arith
shallow-type (formed-sum h f) s = omega arith
shallow-type (formed-each {τ = τ} h f g body le) s = ltb-true (depth_of τ) most_depth le
shallow-type (formed-guard {τ = τ} h f g body le) s = ltb-true (depth_of τ) most_depth le

-- an expression's bytes, and its streams: a byte is behind twenty-five at most, which is what a guard's listed variable of depth 8 takes
pub record Spans {Γ : List ValueType} {τ : ValueType} (t : List ℕ) (k : ℕ) (e : Term Γ τ) (next : ℕ) : Type 0 where
  pub some_bytes : k < next
  pub within : next ≤ length t
  pub sized : size e + 25 * k ≤ 25 * next

pub spans : {t : List ℕ} {levels k : ℕ} {Γ : List ValueType} {names : All Name Γ} {τ : ValueType} {next : ℕ} {e : Term Γ τ} → Formed t levels k Γ names τ e next → Shallow Γ
    → Spans t k e next
unfolding size
spans {t} {k = k} (formed-var {x = x} h f) s =
    record { some_bytes = omega arith; within = (told t k (Var x) (sym (ap (head_of k) h))).1; sized = omega arith }
spans {t} {k = k} (formed-bind h f g) s =
    let a = spans f s in
    let b = spans g (shallow-more (shallow-type f s) s) in
    record {
      some_bytes = omega (arith, a.some_bytes, b.some_bytes);
      within = b.within;
      sized = omega (arith, a.sized, b.sized);
    }
spans {t} {k = k} (formed-const {z = z} h) s =
    record { some_bytes = omega arith; within = (told t k (Const z) (sym (ap (head_of k) h))).1; sized = omega arith }
spans {t} {k = k} (formed-truth {c = c} h) s =
    record { some_bytes = omega arith; within = (told t k (Truth c) (sym (ap (head_of k) h))).1; sized = omega arith }
spans {t} {k = k} (formed-iota {x = x} h f) s =
    record { some_bytes = omega arith; within = (told t k (Iota x) (sym (ap (head_of k) h))).1; sized = omega arith }
spans {t} {k = k} (formed-operation {o = o} {x = x} {y = y} h f g) s =
    record { some_bytes = omega arith; within = (told t k (Operation o x y) (sym (ap (head_of k) h))).1; sized = omega arith }
spans {t} {k = k} (formed-negation {x = x} h f) s =
    record { some_bytes = omega arith; within = (told t k (Negation x) (sym (ap (head_of k) h))).1; sized = omega arith }
spans {t} {k = k} (formed-sum {x = x} h f) s =
    record { some_bytes = omega arith; within = (told t k (Sum x) (sym (ap (head_of k) h))).1; sized = omega arith }
spans {t} {k = k} {names = names} (formed-each {b = b} {x = x} {y = y} {us = us} {v = v} {ls = ls} h f g body le) s =
    let deep = lookup-shallow v s in
    let a = spans body (shallow-more (omega (arith, deep)) (scalars-shallow (pointers ls))) in
    let p = told t k (Each x y (length us)) (sym (ap (head_of k) h)) in
    let bytes : b ≡ 5 + length us = cc (h, p.0) in
    let long : length (pointers ls) ≡ length us = length-listed names us ls g in
    record {
      some_bytes = omega (arith, a.some_bytes);
      within = a.within;
      sized = omega (arith, a.sized, bytes, long);
    }
spans {t} {k = k} {names = names} (formed-guard {b = b} {g = x} {us = us} {ls = ls} h f g body le) s =
    let a = spans body (any-shallow s (any_pointers ls)) in
    let p = told t k (Guard x (length us)) (sym (ap (head_of k) h)) in
    let bytes : b ≡ 4 + length us = cc (h, p.0) in
    let long : length (any_pointers ls) ≡ length us = length-any names us ls g in
    record {
      some_bytes = omega (arith, a.some_bytes);
      within = a.within;
      sized = omega (arith, a.sized, bytes, long, packs-most s (any_pointers ls));
    }

-- a walk's words hold its result's tree
pub words-hold : {Γ : List ValueType} {τ : ValueType} (e : Term Γ τ) → tree_size (depth_of τ) ≤ words e
unfolding words
words-hold (terms.var x) = omega arith
words-hold (terms.bind e₁ e₂) = omega (arith, words-hold e₂)
words-hold (terms.const b n) = omega arith
words-hold (terms.iota x) = omega arith
words-hold (terms.operation o x y) = omega arith
words-hold (terms.negation x) = omega arith
words-hold (terms.sum x) = omega arith
words-hold (terms.each y us e) = omega (arith, words-hold e)
words-hold (terms.guard g us e) = omega (arith, words-hold e)

-- with so many nestings left it takes no more words than these: a GU takes three for its flags and twenty-nine for each of eight listed variables, an EA sixty-nine, a
-- LT twenty-nine
pub words-most : {t : List ℕ} {levels k : ℕ} {Γ : List ValueType} {names : All Name Γ} {τ : ValueType} {next : ℕ} {e : Term Γ τ} → Formed t levels k Γ names τ e next → Shallow Γ
    → words e ≤ words_for levels
unfolding words
words-most (formed-var {v = v} h f) s = omega (arith, lookup-shallow v s)
words-most (formed-bind h f g) s =
    let one = shallow-type f s in
    omega (arith, one, words-most f s, words-most g (shallow-more one s))
words-most (formed-const h) s = omega arith
words-most (formed-truth h) s = omega arith
words-most (formed-iota h f) s = omega arith
words-most (formed-operation h f g) s = omega arith
words-most (formed-negation h f) s = omega arith
words-most (formed-sum h f) s = omega arith
words-most {t} {k = k} {names = names} (formed-each {x = x} {y = y} {us = us} {v = v} {ls = ls} h f g body le) s =
    let p = told t k (Each x y (length us)) (sym (ap (head_of k) h)) in
    let long : length (pointers ls) ≡ length us = length-listed names us ls g in
    let deep = lookup-shallow v s in
    omega (arith, p.2, long, deep, words-most body (shallow-more (omega (arith, deep)) (scalars-shallow (pointers ls))))
words-most {t} {k = k} {names = names} (formed-guard {g = x} {us = us} {ls = ls} h f g body le) s =
    let p = told t k (Guard x (length us)) (sym (ap (head_of k) h)) in
    let long : length (any_pointers ls) ≡ length us = length-any names us ls g in
    omega (arith, p.2, long, listed-most s (any_pointers ls), words-most body (any-shallow s (any_pointers ls)))
