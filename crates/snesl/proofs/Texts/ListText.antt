-- The text of a list, for items of any kind that are read as they are shown: then so is the list.
use Prim.Native.Nat.{ℕ, zero, suc, ◌+◌, ◌≤◌, ◌<◌}
use native.Mathlib.Omega.{arith}
use mathlib.Core.Bool.{Bool, true, false}
use mathlib.Core.List.{List, [], ◌∷◌, ◌++◌, map, append_assoc}
use mathlib.Core.Option.{Option, some, none}
use mathlib.Core.Path.{◌≡◌, refl, sym, ap, subst, subst₂, ◌∙◌}
use borrow.Author.Tests.{ne_eqb, eqb-true}
use lib.Dec.{eqb}
use lib.ListN.{length, get_or, drop, length-append}
use Rattle.laws.proofs.Lists.{drop-read, read-drop, drop-behind}
use Rattle.laws.proofs.Options.{none-some, some_pair}
use Rattle.snesl.specs.Values.{Each, each_none, each_more}
use Rattle.snesl.specs.Text.{open_brace, close_brace, comma, joined, before, read_items, read_list}
use Rattle.snesl.proofs.Texts.Reading.{Begun, Complete, Sound}

-- one turn of `read_items`, behind an item
abbrev turn : {A : Type 0} (first second : Bool) → (more : Option (List A × ℕ)) (end : Option (List A × ℕ)) → Option (List A × ℕ)
turn true second more end = more
turn false true more end = end
turn false false more end = none

module _ {A : Type 0} (item : List ℕ → Option (A × ℕ)) (most : ℕ) (t : List ℕ) (k : ℕ) where
  no_item : item (drop k t) ≡ none → read_items item (suc most) t k ≡ none
  unfolding read_items
  no_item e = rw (e, read_items)

  behind-item : (v : A) (n : ℕ) → item (drop k t) ≡ some (v, n)
      → read_items item (suc most) t k
      ≡ turn (eqb (get_or t (k + n) 0) comma) (eqb (get_or t (k + n) 0) close_brace) (before v (read_items item most t (k + n + 1))) (some (v ∷ [], k + n + 1))
  unfolding read_items
  behind-item v n e = rw (e, read_items) (go (eqb (get_or t (k + n) 0) comma) (eqb (get_or t (k + n) 0) close_brace))
    where
      go : (b c : Bool)
          → ◌≡◌ {A = Option (List A × ℕ)}
          (elim b [ true ↦ before v (read_items item most t (k + n + 1)) | false ↦ elim c [ true ↦ some (v ∷ [], k + n + 1) | false ↦ none ] ])
          (turn b c (before v (read_items item most t (k + n + 1))) (some (v ∷ [], k + n + 1)))
      go true c = refl
      go false true = refl
      go false false = refl

-- `read_list`, by its first two bytes
abbrev opening : {A : Type 0} (first second : Bool) → (items : Option (List A × ℕ)) → Option (List A × ℕ)
opening true true items = some ([], 2)
opening true false items = items
opening false second items = none

list-opening : {A : Type 0} (item : List ℕ → Option (A × ℕ)) (t : List ℕ)
    → read_list item t ≡ opening (eqb (get_or t 0 0) open_brace) (eqb (get_or t 1 0) close_brace) (read_items item (length t) t 1)
list-opening {A} item t = go (eqb (get_or t 0 0) open_brace) (eqb (get_or t 1 0) close_brace)
  where
    go : (b c : Bool)
        → ◌≡◌ {A = Option (List A × ℕ)}
        (elim b [ true ↦ elim c [ true ↦ some ([], 2) | false ↦ read_items item (length t) t 1 ] | false ↦ none ])
        (opening b c (read_items item (length t) t 1))
    go true true = refl
    go true false = refl
    go false c = refl

-- the text of a list of things that are shown so
abbrev pub list_text : {A : Type 0} → (A → List ℕ) → List A → List ℕ
list_text shown vs = open_brace ∷ (joined (map shown vs) ++ close_brace ∷ [])

module _ {A : Type 0} (item : List ℕ → Option (A × ℕ)) (shown : A → List ℕ) (Fine : A → Type 0) where
  module _ (complete : Complete item shown Fine) where
    items-complete : (v : A) (vs : List A) → Each Fine (v ∷ vs) → (most : ℕ) → length vs < most → (t : List ℕ) (k : ℕ) (rest : List ℕ)
        → drop k t ≡ joined (map shown (v ∷ vs)) ++ close_brace ∷ rest
        → read_items item most t k ≡ some (v ∷ vs, k + length (joined (map shown (v ∷ vs))) + 1)
    unfolding joined
    items-complete v [] (each_more ok oks) zero h t k rest e = absurd (omega arith)
    items-complete v (w ∷ vs) (each_more ok oks) zero h t k rest e = absurd (omega arith)
    items-complete v [] (each_more ok oks) (suc most) h t k rest e =
        let n : ℕ = length (shown v) in
        let read : item (drop k t) ≡ some (v, n) = ap item e ∙ complete v ok (close_brace ∷ rest) refl in
        let end : get_or t (k + n) 0 ≡ close_brace = read-drop t (k + n) 0 close_brace rest (drop-behind t k (shown v) (close_brace ∷ rest) e) in
        behind-item item most t k v n read
        ∙ (λ i. turn (eqb (end i) comma) (eqb (end i) close_brace) (before v (read_items item most t (k + n + 1))) (some (v ∷ [], k + n + 1)))
    items-complete v (w ∷ vs) (each_more ok oks) (suc most) h t k rest e =
        let n : ℕ = length (shown v) in
        let more : List ℕ = joined (map shown (w ∷ vs)) in
        let text : drop k t ≡ shown v ++ comma ∷ (more ++ close_brace ∷ rest) = e ∙ append_assoc (shown v) (comma ∷ more) (close_brace ∷ rest) in
        let read : item (drop k t) ≡ some (v, n) = ap item text ∙ complete v ok (comma ∷ (more ++ close_brace ∷ rest)) refl in
        let behind = drop-behind t k (shown v) (comma ∷ (more ++ close_brace ∷ rest)) text in
        let next : get_or t (k + n) 0 ≡ comma = read-drop t (k + n) 0 comma (more ++ close_brace ∷ rest) behind in
        let size : k + n + 1 + length more + 1 ≡ k + length (shown v ++ comma ∷ more) + 1 = omega (arith, length-append (shown v) (comma ∷ more)) in
        behind-item item most t k v n read
        ∙ (λ i. turn (eqb (next i) comma) (eqb (next i) close_brace) (before v (read_items item most t (k + n + 1))) (some (v ∷ [], k + n + 1)))
        ∙ ap (before v) (items-complete w vs oks most (omega arith) t (k + n + 1) rest (drop-behind t (k + n) (comma ∷ []) (more ++ close_brace ∷ rest) behind))
        ∙ (λ i. some (v ∷ w ∷ vs, size i))

    -- a comma stands between two items, so the bytes are at least as many
    items-bytes : (v : A) (vs : List A) → length vs ≤ length (joined (map shown (v ∷ vs)))
    unfolding joined
    items-bytes v [] = omega arith
    items-bytes v (w ∷ vs) = omega (arith, items-bytes w vs, length-append (shown v) (comma ∷ joined (map shown (w ∷ vs))))

    module _ (opens : (v : A) (rest : List ℕ) → get_or (shown v ++ rest) 0 0 ≡ close_brace → ⊥) where
      -- a list that is not empty does not close at once
      items-open : (v : A) (vs : List A) (rest : List ℕ) → get_or (joined (map shown (v ∷ vs)) ++ rest) 0 0 ≡ close_brace → ⊥
      unfolding joined
      items-open v [] rest h = opens v rest h
      items-open v (w ∷ vs) rest h =
          opens v (comma ∷ joined (map shown (w ∷ vs)) ++ rest)
          (ap (λ l. get_or l 0 0) (sym (append_assoc (shown v) (comma ∷ joined (map shown (w ∷ vs))) rest)) ∙ h)

      filled-complete : (v : A) (vs : List A) → Each Fine (v ∷ vs) → (rest : List ℕ)
          → read_list item (list_text shown (v ∷ vs) ++ rest) ≡ some (v ∷ vs, length (list_text shown (v ∷ vs)))
      filled-complete v vs oks rest =
          let items : List ℕ = joined (map shown (v ∷ vs)) in
          let t : List ℕ = list_text shown (v ∷ vs) ++ rest in
          let text : drop 1 t ≡ items ++ close_brace ∷ rest = append_assoc items (close_brace ∷ []) rest in
          let begun : eqb (get_or t 1 0) close_brace ≡ false =
          ne_eqb (get_or t 1 0) close_brace (λ e. items-open v vs (close_brace ∷ rest) (ap (λ l. get_or l 0 0) (sym text) ∙ e)) in
          let room : length vs < length t = omega (arith, items-bytes v vs, ap length text, length-append items (close_brace ∷ rest)) in
          let size : 1 + length items + 1 ≡ length (list_text shown (v ∷ vs)) = omega (arith, length-append items (close_brace ∷ [])) in
          list-opening item t
          ∙ ap (λ b. opening true b (read_items item (length t) t 1)) begun
          ∙ items-complete v vs oks (length t) room t 1 rest text
          ∙ (λ i. some (v ∷ vs, size i))

      pub list-complete : (vs : List A) → Each Fine vs → (rest : List ℕ) → read_list item (list_text shown vs ++ rest) ≡ some (vs, length (list_text shown vs))
      unfolding joined
      list-complete [] oks rest = refl
      list-complete (v ∷ vs) oks rest = filled-complete v vs oks rest

  -- items that were read from byte k on
  record Items (t : List ℕ) (k : ℕ) (vs : List A) (n : ℕ) : Type 0 where
    first : A
    others : List A
    are : vs ≡ first ∷ others
    rest : List ℕ
    text : drop k t ≡ joined (map shown (first ∷ others)) ++ close_brace ∷ rest
    bytes : n ≡ k + length (joined (map shown (first ∷ others))) + 1
    fine : Each Fine (first ∷ others)

  module _ (t : List ℕ) (k : ℕ) (v : A) (m : ℕ) (b : Begun shown Fine (drop k t) v m) where
    -- the byte behind an item
    byte-behind : (c : ℕ) → get_or t (k + m) 0 ≡ c → (c ≡ 0 → ⊥) → drop k t ≡ shown v ++ c ∷ drop (k + m + 1) t
    byte-behind c e other =
        let behind : drop (k + m) t ≡ b.rest = ap (λ j. drop (k + j) t) b.bytes ∙ drop-behind t k (shown v) b.rest b.text in
        let one_on : suc (k + m) ≡ k + m + 1 = omega arith in
        b.text ∙ ap (λ l. shown v ++ l) (sym behind ∙ drop-read t (k + m) 0 c e other ∙ ap (λ j. c ∷ drop j t) one_on)

    items-closed : get_or t (k + m) 0 ≡ close_brace → Items t k (v ∷ []) (k + m + 1)
    unfolding joined
    items-closed e =
        record {
          first = v;
          others = [];
          are = refl;
          rest = drop (k + m + 1) t;
          text = byte-behind close_brace e (omega arith);
          bytes = ap (λ j. k + j + 1) b.bytes;
          fine = each_more b.fine each_none;
        }

    items-onward : (ws : List A) (j : ℕ) → get_or t (k + m) 0 ≡ comma → Items t (k + m + 1) ws j → Items t k (v ∷ ws) j
    unfolding joined
    items-onward ws j e r =
        let more : List ℕ = joined (map shown (r.first ∷ r.others)) in
        record {
          first = v;
          others = r.first ∷ r.others;
          are = ap (λ l. v ∷ l) r.are;
          rest = r.rest;
          text =
              byte-behind comma e (omega arith)
              ∙ ap (λ l. shown v ++ comma ∷ l) r.text
              ∙ sym (append_assoc (shown v) (comma ∷ more) (close_brace ∷ r.rest));
          bytes = omega (arith, r.bytes, b.bytes, length-append (shown v) (comma ∷ more));
          fine = each_more b.fine r.fine;
        }

  module _ (sound : Sound item shown Fine) where
    items-sound : (most : ℕ) (t : List ℕ) (k : ℕ) (vs : List A) (n : ℕ) → read_items item most t k ≡ some (vs, n) → Items t k vs n
    unfolding read_items
    items-sound zero t k vs n h = none-some h
    items-sound (suc most) t k vs n h = read (item (drop k t)) refl (λ j ws m. items-sound most t j ws m)
      where
        Deeper : Type 0
        Deeper = (j : ℕ) (ws : List A) (m : ℕ) → read_items item most t j ≡ some (ws, m) → Items t j ws m

        onward : (v : A) (m : ℕ) → Begun shown Fine (drop k t) v m → get_or t (k + m) 0 ≡ comma → Deeper
            → (o : Option (List A × ℕ)) → read_items item most t (k + m + 1) ≡ o → before v o ≡ some (vs, n) → Items t k vs n
        onward v m b e deeper none q r = none-some r
        onward v m b e deeper (some s) q r =
            let (are, size) = some_pair (v ∷ s.0) vs s.1 n r in
            subst₂ (Items t k) are size (items-onward t k v m b s.0 s.1 e (deeper (k + m + 1) s.0 s.1 q))

        behind : (v : A) (m : ℕ) → Begun shown Fine (drop k t) v m → Deeper
            → (first second : Bool) → eqb (get_or t (k + m) 0) comma ≡ first → eqb (get_or t (k + m) 0) close_brace ≡ second
            → turn first second (before v (read_items item most t (k + m + 1))) (some (v ∷ [], k + m + 1)) ≡ some (vs, n)
            → Items t k vs n
        behind v m b deeper true second e f r =
            onward v m b (eqb-true (get_or t (k + m) 0) comma e) deeper (read_items item most t (k + m + 1)) refl r
        behind v m b deeper false true e f r =
            let (are, size) = some_pair (v ∷ []) vs (k + m + 1) n r in
            subst₂ (Items t k) are size (items-closed t k v m b (eqb-true (get_or t (k + m) 0) close_brace f))
        behind v m b deeper false false e f r = none-some r

        read : (o : Option (A × ℕ)) → item (drop k t) ≡ o → Deeper → Items t k vs n
        read none e deeper = none-some (sym (no_item item most t k e) ∙ h)
        read (some q) e deeper =
            behind q.0 q.1 (sound (drop k t) q.0 q.1 e) deeper
            (eqb (get_or t (k + q.1) 0) comma) (eqb (get_or t (k + q.1) 0) close_brace) refl refl
            (sym (behind-item item most t k q.0 q.1 e) ∙ h)

    pub list-sound : Sound (read_list item) (list_text shown) (Each Fine)
    unfolding joined
    list-sound t vs n h =
        go (eqb (get_or t 0 0) open_brace) (eqb (get_or t 1 0) close_brace) refl refl (sym (list-opening item t) ∙ h)
      where
        opened : eqb (get_or t 0 0) open_brace ≡ true → t ≡ open_brace ∷ drop 1 t
        opened e = drop-read t 0 0 open_brace (eqb-true (get_or t 0 0) open_brace e) (omega arith)

        go : (first second : Bool) → eqb (get_or t 0 0) open_brace ≡ first → eqb (get_or t 1 0) close_brace ≡ second
            → opening first second (read_items item (length t) t 1) ≡ some (vs, n) → Begun (list_text shown) (Each Fine) t vs n
        go true true e f r =
            let (are, size) = some_pair [] vs 2 n r in
            subst₂ (Begun (list_text shown) (Each Fine) t) are size
            (record {
              rest = drop 2 t;
              text = opened e ∙ ap (λ l. open_brace ∷ l) (drop-read t 1 0 close_brace (eqb-true (get_or t 1 0) close_brace f) (omega arith));
              bytes = refl;
              fine = each_none;
            })
        go true false e f r =
            let q = items-sound (length t) t 1 vs n r in
            let items : List ℕ = joined (map shown (q.first ∷ q.others)) in
            subst (λ ws. Begun (list_text shown) (Each Fine) t ws n) (sym q.are)
            (record {
              rest = q.rest;
              text = opened e ∙ ap (λ l. open_brace ∷ l) (q.text ∙ sym (append_assoc items (close_brace ∷ []) q.rest));
              bytes = omega (arith, q.bytes, length-append items (close_brace ∷ []));
              fine = q.fine;
            })
        go false second e f r = none-some r
