-- Feeding a program to a sink: one that runs is left alone, one that surveys takes in what the program uses, one that lists has written its lines, where they don't
-- get too far.
use Prim.Native.Nat.{ℕ, suc, ◌+◌, ◌≤◌}
use native.Mathlib.Omega.{arith}
use native.Mathlib.Nat.{add-zero}
use mathlib.Core.List.{List, [], ◌∷◌, ◌++◌, append_assoc, append-nil}
use mathlib.Core.Path.{◌≡◌, refl, sym, ap, ◌∙◌}
use lib.ListN.{length, length-append}
use lib.Seq.{sets}
use Rattle.snesl.specs.declared.code.Transducer.{Transducer}
use Rattle.snesl.specs.Ascii.{pieces}
use Rattle.snesl.specs.Transducers.{operands}
use Rattle.snesl.specs.Programs.{Program, done, define, with_ctrl, ◌⨾◌, count}
use Rattle.snesl.specs.Listing.{define_line, with_ctrl_line, close_line, lines_of}
use Rattle.decimals.proofs.Stores.{sets-append}
use Rattle.sink.specs.declared.state.Mode.{Mode}
use Rattle.sink.specs.declared.state.Mode.TheVariants.{Running, Listing, Surveying}
use Rattle.sink.specs.Sinks.{Sink, far, put, take_in, mark, mark_all, defined, opened, closed, feed}
use Rattle.sink.proofs.Sinking.{landed, put-near}
use Rattle.sink.proofs.Tidy.{uses}

-- one program behind another
pub feed-seq : (s : ℕ) (p q : Program) (k : Sink) → feed s (p ⨾ q) k ≡ feed (s + count p) q (feed s p k)
unfolding feed ◌⨾◌ count
feed-seq s done q k = ap (λ n. feed n q k) (sym (add-zero s))
feed-seq s (define t p) q k =
    let e : suc s + count p ≡ s + suc (count p) = omega arith in
    feed-seq (suc s) p q (defined s t k) ∙ ap (λ n. feed n q (feed (suc s) p (defined s t k))) e
feed-seq s (with_ctrl outs c ins b p) q k =
    let e : s + count b + count p ≡ s + (count b + count p) = omega arith in
    feed-seq (s + count b) p q (closed (feed s b (opened outs c ins k)))
    ∙ ap (λ n. feed n q (feed (s + count b) p (closed (feed s b (opened outs c ins k))))) e

-- its lines
pub lines-seq : (s : ℕ) (p q : Program) → lines_of s (p ⨾ q) ≡ lines_of s p ++ lines_of (s + count p) q
unfolding lines_of ◌⨾◌ count
lines-seq s done q = ap (λ k. lines_of k q) (sym (add-zero s))
lines-seq s (define t p) q =
    let k : suc s + count p ≡ s + suc (count p) = omega arith in
    ap (λ l. define_line s t ++ l) (lines-seq (suc s) p q ∙ ap (λ j. lines_of (suc s) p ++ lines_of j q) k)
    ∙ sym (append_assoc (define_line s t) _ _)
lines-seq s (with_ctrl outs c ins b p) q =
    let k : s + count b + count p ≡ s + (count b + count p) = omega arith in
    let w = with_ctrl_line outs c ins in
    let body = lines_of s b in
    ap (λ l. pieces (w ∷ body ∷ close_line ∷ l ∷ [])) (lines-seq (s + count b) p q ∙ ap (λ j. lines_of (s + count b) p ++ lines_of j q) k)
    ∙ simp (append_assoc, append-nil)

-- ---- by the sink's mode
module _ (k : Sink) {m : Mode} (e : k.mode ≡ m) where
  pub defined-by : (s : ℕ) (t : Transducer) → defined s t k ≡ elim m [ Running ↦ k | Listing ↦ put (define_line s t) k | Surveying ↦ take_in (operands t) k ]
  defined-by s t = ap (λ m. elim m [ Running ↦ k | Listing ↦ put (define_line s t) k | Surveying ↦ take_in (operands t) k ]) e

  pub opened-by : (outs : List ℕ) (c : ℕ) (ins : List ℕ) → opened outs c ins k ≡ elim m [ Running ↦ k | Listing ↦ put (with_ctrl_line outs c ins) k | Surveying ↦ k ]
  opened-by outs c ins = ap (λ m. elim m [ Running ↦ k | Listing ↦ put (with_ctrl_line outs c ins) k | Surveying ↦ k ]) e

  pub closed-by : closed k ≡ elim m [ Running ↦ k | Listing ↦ put close_line k | Surveying ↦ k ]
  closed-by = ap (λ m. elim m [ Running ↦ k | Listing ↦ put close_line k | Surveying ↦ k ]) e

-- one that runs
pub feed-running : (s : ℕ) (p : Program) (k : Sink) → k.mode ≡ Running → feed s p k ≡ k
unfolding feed
feed-running s done k e = refl
feed-running s (define t p) k e = ap (feed (suc s) p) (defined-by k e s t) ∙ feed-running (suc s) p k e
feed-running s (with_ctrl outs c ins b p) k e =
    ap (λ j. feed (s + count b) p (closed (feed s b j))) (opened-by k e outs c ins)
    ∙ (ap (λ j. feed (s + count b) p (closed j)) (feed-running s b k e)
    ∙ (ap (feed (s + count b) p) (closed-by k e) ∙ feed-running (s + count b) p k e))

-- one that surveys
mark-append : (own most : ℕ) (us vs ws : List ℕ) → mark_all own most (us ++ vs) ws ≡ mark_all own most vs (mark_all own most us ws)
unfolding mark_all
mark-append own most [] vs ws = refl
mark-append own most (u ∷ us) vs ws = mark-append own most us vs (mark own most u ws)

take-in-append : (us vs : List ℕ) (k : Sink) → take_in vs (take_in us k) ≡ take_in (us ++ vs) k
take-in-append us vs k =
    ap (λ ws. record { mode = k.mode; text = k.text; at = k.at; own = k.own; taken = ws; most = k.most }) (sym (mark-append k.own k.most us vs k.taken))

pub feed-surveying : (s : ℕ) (p : Program) (k : Sink) → k.mode ≡ Surveying → feed s p k ≡ take_in (uses p) k
unfolding feed uses mark_all
feed-surveying s done k e = refl
feed-surveying s (define t p) k e =
    ap (feed (suc s) p) (defined-by k e s t) ∙ (feed-surveying (suc s) p (take_in (operands t) k) e ∙ take-in-append (operands t) (uses p) k)
feed-surveying s (with_ctrl outs c ins b p) k e =
    ap (λ j. feed (s + count b) p (closed (feed s b j))) (opened-by k e outs c ins)
    ∙ (ap (λ j. feed (s + count b) p (closed j)) (feed-surveying s b k e)
    ∙ (ap (feed (s + count b) p) (closed-by (take_in (uses b) k) e)
    ∙ (feed-surveying (s + count b) p (take_in (uses b) k) e ∙ take-in-append (uses b) (uses p) k)))

-- one that lists
pub landed-append : (u v : List ℕ) (k : Sink) → landed v (landed u k) ≡ landed (u ++ v) k
landed-append u v k =
    ap (λ t. record { mode = k.mode; text = t; at = k.at + length u + length v; own = k.own; taken = k.taken; most = k.most }) (sets-append k.text k.at u v)
    ∙ ap (λ n. record { mode = k.mode; text = sets k.text k.at (u ++ v); at = n; own = k.own; taken = k.taken; most = k.most }) (omega (arith, length-append u v))

landed_none : (k : Sink) → landed [] k ≡ k
landed_none k = ap (λ n. record { mode = k.mode; text = k.text; at = n; own = k.own; taken = k.taken; most = k.most }) (add-zero k.at)

regroup : (a b c d : List ℕ) → ((a ++ b) ++ c) ++ d ≡ pieces (a ∷ b ∷ c ∷ d ∷ [])
regroup a b c d = simp (append_assoc, append-nil)

four-long : (a b c d : List ℕ) → length (pieces (a ∷ b ∷ c ∷ d ∷ [])) ≡ length a + length b + length c + length d
four-long a b c d =
    ap length (sym (regroup a b c d)) ∙ (length-append ((a ++ b) ++ c) d ∙ (ap (λ n. n + length d) (length-append (a ++ b) c) ∙ ap (λ n. n + length c + length d) (length-append a b)))

pub feed-listing : (s : ℕ) (p : Program) (k : Sink) → k.mode ≡ Listing → k.at + length (lines_of s p) ≤ far → feed s p k ≡ landed (lines_of s p) k
unfolding feed lines_of
feed-listing s done k e h = sym (landed_none k)
feed-listing s (define t p) k e h =
    let l = length-append (define_line s t) (lines_of (suc s) p) in
    ap (feed (suc s) p) (defined-by k e s t ∙ put-near (define_line s t) k (omega arith))
    ∙ (feed-listing (suc s) p (landed (define_line s t) k) e (omega arith) ∙ landed-append (define_line s t) (lines_of (suc s) p) k)
feed-listing s (with_ctrl outs c ins b p) k e h =
    let w : List ℕ = with_ctrl_line outs c ins in
    let r : List ℕ = lines_of (s + count b) p in
    let l = four-long w (lines_of s b) close_line r in
    ap (λ j. feed (s + count b) p (closed (feed s b j))) (opened-by k e outs c ins ∙ put-near w k (omega arith))
    ∙ (ap (λ j. feed (s + count b) p (closed j)) (feed-listing s b (landed w k) e (omega arith))
    ∙ (ap (feed (s + count b) p) (closed-by (landed (lines_of s b) (landed w k)) e ∙ put-near close_line (landed (lines_of s b) (landed w k)) (omega arith))
    ∙ (feed-listing (s + count b) p (landed close_line (landed (lines_of s b) (landed w k))) e (omega arith)
    ∙ (ap (λ j. landed r (landed close_line j)) (landed-append w (lines_of s b) k)
    ∙ (ap (landed r) (landed-append (w ++ lines_of s b) close_line k)
    ∙ (landed-append ((w ++ lines_of s b) ++ close_line) r k ∙ ap (λ l. landed l k) (regroup w (lines_of s b) close_line r)))))))
