-- The walk's ways out, each from the contracts of what it called: the answer is the expression's, and the stack from sp on is as it was.
use Rattle.std.proofs.Common.{◌≡◌, ℕ, zero, suc, ◌+◌, ◌-◌, ◌*◌, ◌≤◌, ◌<◌, Bool, true, false, List, ◌∷◌, Option, None, Some, Result, Ok, Err, length, get_or, take, drop, drop-cons, length-drop, length-take, get_or-drop, [], ◌++◌, refl, sym, ap, ap₂, subst, ◌∙◌, arith}
use mathlib.Core.Bool.{◌&&◌}
use lib.Dec.{ltb}
use lib.Seq.{drop-drop, take_at, drop_at}
use Rattle.std.specs.Option.{is_some}
use Rattle.snesl.specs.declared.code.Variable.{Variable}
use Rattle.snesl.specs.declared.refusal.Refusal.{Refusal}
use Rattle.snesl.specs.declared.refusal.Refusal.TheVariants.{Unbound, WrongType}
use Rattle.snesl.specs.Limits.{most_listed}
use Rattle.snesl.specs.Values.{int, bool}
use Rattle.snesl.specs.Records.{Raw, scanned, scan, head_at, variables_at}
use Rattle.checking.specs.declared.check.Turn.{Turn}
use Rattle.checking.specs.declared.check.Turn.TheVariants as turn
use Rattle.checking.specs.declared.check.Judged.{Judged}
use Rattle.checking.specs.declared.check.Judging.{Judging}
use Rattle.records.specs.Heads.{head_of}
use Rattle.scopes.specs.declared.types.ValueType.{ValueType}
use Rattle.scopes.specs.declared.scope.Binding.{Binding}
use Rattle.scopes.specs.Types.{told, same_type}
use Rattle.scopes.specs.Scopes.{scope, type_in, Pushed}
use Rattle.scopes.specs.UsingLists.{Body, stop, inside, variables, element_of, usable_in, each_usable, scalars_in, listed_in, sequence_in, each_in, bool_in, guard_in, Inside, Stopped}
use Rattle.environment.specs.Words.{tree_size}
use Rattle.checking.specs.Checks.{gives, then_typed, body_then, bound, closed, guarded, bindings_size, newest, judge, turn_in, judging_of, bound_in}
use Rattle.checking.specs.Checks.{words_of, nesting_bound, most_pushed, Judgeable, Judges}
use Rattle.records.proofs.Variables.{length-variables}
use Rattle.scopes.proofs.Listing.{length-listed}
use Rattle.checking.proofs.Closing.{bound_of, body-of, bound-few}
use Rattle.checking.proofs.Walking.{own-level, Lets, Eaches, Guards, Turned, turned-is}

-- ---- the stack

further : (r n : ℕ) (a b : List Binding) → drop r a ≡ drop r b → drop (r + n) a ≡ drop (r + n) b
further r n a b e = sym (drop-drop n r a) ∙ (ap (drop n) e ∙ drop-drop n r b)

-- what is the same from r on is the same from any later position on
from-later : (r s : ℕ) (a b : List Binding) → r ≤ s → drop r a ≡ drop r b → drop s a ≡ drop s b
from-later r s a b h e =
    let on : r + (s - r) ≡ s = omega arith in
    subst (λ z. drop z a ≡ drop z b) on (further r (s - r) a b e)

scope-same : (sp floor : ℕ) (a b : List Binding) → drop sp a ≡ drop sp b → scope sp floor a ≡ scope sp floor b
scope-same sp floor a b e = ap (take (floor - sp)) e

module _ {old new : List Binding} {sp : ℕ} {b : Binding} {r : ℕ} (p : Pushed old sp b new r) where
  pushed-scope : (floor : ℕ) → sp ≤ floor → scope r floor new ≡ b ∷ scope sp floor old
  pushed-scope floor h =
      let n : floor - r ≡ suc (floor - sp) = omega (arith, p.at) in
      ap₂ take n p.bindings

  pushed-above : drop sp new ≡ drop sp old
  pushed-above = ap (λ z. drop z new) (sym p.at) ∙ (sym (drop-drop 1 r new) ∙ ap (drop 1) p.bindings)

-- what stands in the stack before anything is pushed
abbrev pub free : Binding
free = record { name = record { 0 = 0 }; value_type = told int }

module _ {b : Body} {old new : List Binding} {sp r : ℕ} (p : Inside b sp old new r) where
  inside-scope : scope r sp new ≡ p.bindings
  inside-scope = ap (take (sp - r)) p.bindings_are ∙ take_at p.bindings (drop sp old) (sp - r) (omega (arith, p.at))

  inside-above : drop sp new ≡ drop sp old
  inside-above =
      ap (λ z. drop z new) (sym p.at)
      ∙ (sym (drop-drop (length p.bindings) r new)
      ∙ (ap (drop (length p.bindings)) p.bindings_are ∙ drop_at p.bindings (drop sp old) (length p.bindings) refl))

  -- its first variable stands at r
  inside-newest : 0 < length p.bindings → (get_or new r free).value_type ≡ newest p.bindings
  inside-newest h =
      let n : r + 0 ≡ r = omega arith in
      ap (λ z. (get_or new z free).value_type) (sym n)
      ∙ (ap (λ (b : Binding). b.value_type) (sym (get_or-drop r new 0 free)) ∙ (ap (λ z. (get_or z 0 free).value_type) p.bindings_are ∙ go p.bindings h))
    where
      go : (bs : List Binding) → 0 < length bs → (get_or (bs ++ drop sp old) 0 free).value_type ≡ newest bs
      go [] h = absurd (omega arith)
      go (b ∷ bs) h = refl

-- a body's scope is x and the listed variables
inside-length :
    (w : List Binding) (k : ℕ) (x y : Variable) (bs : List ℕ) (v : List Binding) → each_in w k x y (variables bs) ≡ inside v → length v ≡ 1 + length bs
unfolding each_in
inside-length w k x y bs v e = go (is_some (type_in y w) && each_usable w x (variables bs)) (type_in y w) e
  where
    last :
        (d : ValueType) (b : Bool)
        → elim b [ true ↦ inside (record { name = x; value_type = element_of d } ∷ listed_in w (variables bs)) | false ↦ stop (WrongType k) ] ≡ inside v
        → length v ≡ 1 + length bs
    last d true e =
        let q : record { name = x; value_type = element_of d } ∷ listed_in w (variables bs) ≡ v = cc in
        let n = ap length (sym q) in
        omega (arith, length-listed w bs)
    last d false e = cc

    go : (b : Bool) (c : Option ValueType) → elim b [ true ↦ sequence_in w k x (variables bs) c | false ↦ stop (Unbound k) ] ≡ inside v → length v ≡ 1 + length bs
    go true None e = cc
    go true (Some d) e = last d (ltb 0 d.depth && scalars_in w (variables bs)) e
    go false c e = cc

-- a guard's body has the listed variables alone
guard-length : (w : List Binding) (k : ℕ) (g : Variable) (bs : List ℕ) (v : List Binding) → guard_in w k g (variables bs) ≡ inside v → length v ≡ length bs
unfolding guard_in
guard-length w k g bs v e = go (is_some (type_in g w) && usable_in w (variables bs)) (type_in g w) e
  where
    last : (b : Bool) → elim b [ true ↦ inside (listed_in w (variables bs)) | false ↦ stop (WrongType k) ] ≡ inside v → length v ≡ length bs
    last true e =
        let q : listed_in w (variables bs) ≡ v = cc in
        let n = ap length (sym q) in
        omega (arith, length-listed w bs)
    last false e = cc

    go : (b : Bool) (c : Option ValueType) → elim b [ true ↦ bool_in w k (variables bs) c | false ↦ stop (Unbound k) ] ≡ inside v → length v ≡ length bs
    go true None e = cc
    go true (Some d) e = last (same_type d (told bool)) e
    go false c e = cc

-- a row of variables in the bytes is that of the slice there
listed-at : (t : List ℕ) (k j : ℕ) → k + j ≤ length t → variables_at t k j ≡ variables (take j (drop k t))
unfolding variables_at
listed-at t k zero h = refl
listed-at t k (suc j) h =
    let here : drop k t ≡ get_or t k 0 ∷ drop (suc k) t = drop-cons t k 0 (omega arith) in
    ap (λ z. record { 0 = get_or t k 0 } ∷ z) (listed-at t (suc k) j (omega arith)) ∙ ap (λ z. variables (take (suc j) z)) (sym here)

length-part : (t : List ℕ) (i j : ℕ) → j ≤ length t → length (take (j - i) (drop i t)) ≡ j - i
length-part t i j h = simp (length-take, length-drop) (omega arith)

-- ---- answers

pub was-refused : (m : ℕ) (c : Result Judged Refusal) {f : Refusal} → ◌≡◌ {A = Result Judging Refusal} (Err f) (judging_of m c) → c ≡ Err f
was-refused m (Err r) e = cc
was-refused m (Ok j) e = cc

pub was-found : (m : ℕ) (c : Result Judged Refusal) {j : Judging} → Ok j ≡ judging_of m c → (m ≡ j.next) × (c ≡ gives j.found j.words)
was-found m (Err r) e = (cc, cc)
was-found m (Ok i) {j} e =
    let same : record { next = m; found = i.found; words = i.words } ≡ j = cc in
    (ap (λ (z : Judging). z.next) same, ap (λ (z : Judging). gives z.found z.words) same)

pub judges-at :
    {t : List ℕ} {k levels : ℕ} {old : List Binding} {sp floor : ℕ} {new : List Binding} {r s : Result Judging Refusal}
    → r ≡ s → Judges t k levels old sp floor new r → Judges t k levels old sp floor new s
judges-at {t} {k} {levels} {old} {sp} {floor} {new} e w = subst (Judges t k levels old sp floor new) e w

module _ {t : List ℕ} {k levels : ℕ} {env : List Binding} {sp floor : ℕ} (here : Judgeable t k levels env sp floor) where
  of-turn :
      {r : Result Turn Refusal} → r ≡ turn_in (scope sp floor env) k (head_of k (head_at t k)) → (g : Judgeable t k levels env sp floor)
      → Turned t k (scope sp floor env) g.count g.expression g.next g.after levels r
  of-turn p g = turned-is t k (scope sp floor env) g.count g.expression g.next g.after levels g.read p

  pub leaf-refused : (f : Refusal) → Err f ≡ turn_in (scope sp floor env) k (head_of k (head_at t k)) → Judges t k levels env sp floor env (Err f)
  leaf-refused f p = record { above = refl; few = omega arith; answer = λ g. ap (judging_of g.next) (sym (of-turn p g)) }

  pub leaf-found :
      (m : ℕ) (d : ValueType) → Ok (turn.Found m d) ≡ turn_in (scope sp floor env) k (head_of k (head_at t k)) → d.depth < 256
      → Judges t k levels env sp floor env (Ok (record { next = m; found = d; words = tree_size d.depth }))
  leaf-found m d p h =
      record {
        above = refl;
        few = omega (arith, h, own-level levels t k here.count here.read);
        answer = λ g.
            ap (λ z. Ok (record { next = z; found = d; words = tree_size d.depth })) (of-turn p g).1 ∙ ap (judging_of g.next) (sym (of-turn p g).0);
      }

  -- LT: the first expression, and the second in a scope with x
  module _ {x : Variable} (p : Ok (turn.Let x) ≡ turn_in (scope sp floor env) k (head_of k (head_at t k))) where
    lets : (g : Judgeable t k levels env sp floor) → Lets t k levels g.count g.expression g.next g.after x
    lets g = of-turn p g

    pub let-fits : (k + 3 ≤ length t) × (2 ≤ levels) × (most_pushed ≤ sp)
    let-fits = ((lets here).fits, (lets here).deep, omega (arith, (lets here).deep, here.room))

    pub let-first : Judgeable t k levels env sp floor → Judgeable t (k + 3) (levels - 1) env sp floor
    let-first g =
        record {
          count = g.count + 1;
          expression = (lets g).first;
          next = (lets g).middle;
          after = (lets g).between;
          read = (lets g).read_first;
          shallow = omega (arith, g.shallow);
          room = omega (arith, g.room);
          order = g.order;
          high = g.high;
        }

    abbrev rest : Raw → ValueType → ℕ → Result Judged Refusal
    rest e c n = then_typed (judge (record { name = x; value_type = c } ∷ scope sp floor env) e) (bound c n)

    judged : (g : Judgeable t k levels env sp floor) → judge (scope sp floor env) g.expression ≡ then_typed (judge (scope sp floor env) (lets g).first) (rest (lets g).second)
    unfolding judge
    judged g = ap (judge (scope sp floor env)) (lets g).is

    pub let-refused :
        {mid : List Binding} (f : Refusal) → Judges t (k + 3) (levels - 1) env sp floor mid (Err f)
        → Judges t k levels env sp floor mid (Err f)
    unfolding lets let-first
    let-refused f s =
        record {
          above = s.above;
          few = omega arith;
          answer = λ g.
              (let c = was-refused (lets g).middle (judge (scope sp floor env) (lets g).first) (s.answer (let-first g)) in
              sym (ap (judging_of g.next) (judged g ∙ ap (λ z. then_typed z (rest (lets g).second)) c)));
        }

    module _
        {mid new : List Binding} {first : Judging} {inner : ℕ} (s : Judges t (k + 3) (levels - 1) env sp floor mid (Ok first))
        (u : Pushed mid sp (record { name = x; value_type = first.found }) new inner) (l : length new ≡ length env) where
      first_found : (g : Judgeable t k levels env sp floor) → ((lets g).middle ≡ first.next) × (judge (scope sp floor env) (lets g).first ≡ gives first.found first.words)
      unfolding lets let-first
      first_found g = was-found (lets g).middle (judge (scope sp floor env) (lets g).first) (s.answer (let-first g))

      pub let-second : Judgeable t k levels env sp floor → Judgeable t first.next (levels - 1) new inner floor
      let-second g =
          record {
            count = (lets g).between;
            expression = (lets g).second;
            next = g.next;
            after = g.after;
            read = subst (λ z. scan (levels - 1) t z (lets g).between ≡ scanned (lets g).second g.next g.after) (first_found g).0 (lets g).read-second;
            shallow = omega (arith, g.shallow);
            room = omega (arith, g.room, u.at);
            order = omega (arith, g.order, u.at);
            high = omega (arith, g.high);
          }

      abbrev in_rest : Raw → Result Judged Refusal
      in_rest e = judge (record { name = x; value_type = first.found } ∷ scope sp floor env) e

      module _ {last : List Binding} {r : Result Judging Refusal} (v : Judges t first.next (levels - 1) new inner floor last r) where
        second-answer : (g : Judgeable t k levels env sp floor) → r ≡ judging_of g.next (in_rest (lets g).second)
        unfolding let-second
        second-answer g =
            let same : scope inner floor new ≡ record { name = x; value_type = first.found } ∷ scope sp floor env =
            pushed-scope u floor g.order ∙ ap (λ z. record { name = x; value_type = first.found } ∷ z) (scope-same sp floor mid env s.above)
            in
            v.answer (let-second g) ∙ ap (λ z. judging_of g.next (judge z (lets g).second)) same

        whole-is :
            (g : Judgeable t k levels env sp floor)
            → judge (scope sp floor env) g.expression ≡ then_typed (in_rest (lets g).second) (bound first.found first.words)
        whole-is g = judged g ∙ ap (λ z. then_typed z (rest (lets g).second)) (first_found g).1

        rest-above : drop sp last ≡ drop sp env
        rest-above = from-later inner sp last new (omega (arith, u.at)) v.above ∙ (pushed-above u ∙ s.above)

        pub let-second-refused : (f : Refusal) → r ≡ Err f → Judges t k levels env sp floor last (Err f)
        let-second-refused f q =
            record {
              above = rest-above;
              few = omega arith;
              answer = λ g.
                  sym
                  (ap (judging_of g.next)
                  (whole-is g ∙ ap (λ z. then_typed z (bound first.found first.words)) (was-refused g.next (in_rest (lets g).second) (sym q ∙ second-answer g))));
            }

        pub let-judges : (second : Judging) → r ≡ Ok second → first.found.depth < 256 → Judges t k levels env sp floor last (Ok (bound_in first second))
        let-judges second q h =
            record {
              above = rest-above;
              few = omega (arith, bound-few first second h s.few (subst (λ z. words_of z ≤ nesting_bound * (levels - 1)) q v.few), (lets here).deep);
              answer = λ g. bound_of g.next first (in_rest (lets g).second) (sym q ∙ second-answer g) ∙ sym (ap (judging_of g.next) (whole-is g));
            }

  -- EA: the body in a scope of its own
  module _ {x y : Variable} {j : ℕ} (p : Ok (turn.Each x y j) ≡ turn_in (scope sp floor env) k (head_of k (head_at t k))) where
    eaches : (g : Judgeable t k levels env sp floor) → Eaches t k levels g.count g.expression g.next g.after x y j
    eaches g = of-turn p g

    pub each_fits : (k + (5 + j) ≤ length t) × (2 ≤ levels) × (1 + j ≤ sp) × (j ≤ most_listed)
    each_fits = ((eaches here).fits, (eaches here).deep, omega (arith, (eaches here).deep, (eaches here).few, here.room), (eaches here).few)

    abbrev using : List ℕ
    using = take (k + (5 + j) - (k + 5)) (drop (k + 5) t)

    names-are : variables_at t (k + 5) j ≡ variables using
    names-are =
        let so_many : j ≡ k + (5 + j) - (k + 5) = omega arith in
        listed-at t (k + 5) j (omega (arith, (eaches here).fits)) ∙ ap (λ z. variables (take z (drop (k + 5) t))) so_many

    abbrev in_body : Raw → List Binding → Result Judged Refusal
    in_body e v = then_typed (judge v e) (closed k (newest v) j)

    parted :
        (g : Judgeable t k levels env sp floor)
        → judge (scope sp floor env) g.expression ≡ body_then (each_in (scope sp floor env) k x y (variables using)) (in_body (eaches g).body)
    unfolding judge
    parted g =
        ap (judge (scope sp floor env)) (eaches g).is
        ∙ λ i. body_then (each_in (scope sp floor env) k x y (names-are i)) (λ v. then_typed (judge v (eaches g).body) (closed k (newest v) (length-variables t (k + 5) j i)))

    pub each-refused :
        {mid : List Binding} (f : Refusal) → Stopped (each_in (scope sp floor env) k x y (variables using)) env mid f
        → Judges t k levels env sp floor mid (Err f)
    each-refused f s =
        record {
          above = ap (drop sp) s.kept;
          few = omega arith;
          answer = λ g. sym (ap (judging_of g.next) (parted g ∙ ap (λ z. body_then z (in_body (eaches g).body)) s.is));
        }

    module _
        {mid : List Binding} {inner : ℕ} (s : Inside (each_in (scope sp floor env) k x y (variables using)) sp env mid inner)
        (l : length mid ≡ length env) where
      body-length : length s.bindings ≡ 1 + j
      body-length =
          let n = inside-length (scope sp floor env) k x y using s.bindings s.is in
          omega (arith, n, length-part t (k + 5) (k + (5 + j)) (omega (arith, (eaches here).fits)))

      pub element-fits : inner < length mid
      element-fits = omega (arith, s.at, body-length, here.order, here.high)

      pub each-body : Judgeable t k levels env sp floor → Judgeable t (k + (5 + j)) (levels - 1) mid inner sp
      each-body g =
          record {
            count = g.count + 1;
            expression = (eaches g).body;
            next = g.next;
            after = g.after;
            read = (eaches g).read;
            shallow = omega (arith, g.shallow);
            room = omega (arith, g.room, s.at, body-length, (eaches g).few);
            order = omega (arith, s.at);
            high = omega (arith, g.order, g.high);
          }

      module _ {last : List Binding} {r : Result Judging Refusal} (v : Judges t (k + (5 + j)) (levels - 1) mid inner sp last r) where
        body-answer : (g : Judgeable t k levels env sp floor) → r ≡ judging_of g.next (judge s.bindings (eaches g).body)
        unfolding eaches each-body
        body-answer g = v.answer (each-body g) ∙ ap (λ z. judging_of g.next (judge z (eaches g).body)) (inside-scope s)

        each-is : (g : Judgeable t k levels env sp floor) → judge (scope sp floor env) g.expression ≡ in_body (eaches g).body s.bindings
        each-is g = parted g ∙ ap (λ z. body_then z (in_body (eaches g).body)) s.is

        body-above : drop sp last ≡ drop sp env
        body-above = from-later inner sp last mid (omega (arith, s.at)) v.above ∙ inside-above s

        pub each-body-refused : (f : Refusal) → r ≡ Err f → Judges t k levels env sp floor last (Err f)
        each-body-refused f q =
            record {
              above = body-above;
              few = omega arith;
              answer = λ g.
                  sym
                  (ap (judging_of g.next)
                  (each-is g ∙ ap (λ z. then_typed z (closed k (newest s.bindings) j)) (was-refused g.next (judge s.bindings (eaches g).body) (sym q ∙ body-answer g))));
            }

        pub each-judges :
            {c : ValueType} (body : Judging) → r ≡ Ok body → c ≡ (get_or mid inner free).value_type
            → {whole : Result Judging Refusal} → whole ≡ judging_of body.next (closed k c j body.found body.words) → words_of whole ≤ nesting_bound + body.words
            → Judges t k levels env sp floor last whole
        each-judges {c} body q e w f =
            record {
              above = body-above;
              few = omega (arith, f, subst (λ z. words_of z ≤ nesting_bound * (levels - 1)) q v.few, (eaches here).deep);
              answer = λ g.
                  (let of = e ∙ inside-newest s (omega (arith, body-length)) in
                  w ∙ (ap (λ a. judging_of body.next (closed k a j body.found body.words)) of
                  ∙ (body-of g.next (closed k (newest s.bindings) j) (judge s.bindings (eaches g).body) (sym q ∙ body-answer g)
                  ∙ sym (ap (judging_of g.next) (each-is g)))));
            }

  -- GU: the body in a scope of its own
  module _ {g : Variable} {j : ℕ} (p : Ok (turn.Guard g j) ≡ turn_in (scope sp floor env) k (head_of k (head_at t k))) where
    guards : (h : Judgeable t k levels env sp floor) → Guards t k levels h.count h.expression h.next h.after g j
    guards h = of-turn p h

    pub guard-fits : (k + (4 + j) ≤ length t) × (2 ≤ levels) × (j ≤ sp) × (j ≤ most_listed)
    guard-fits = ((guards here).fits, (guards here).deep, omega (arith, (guards here).deep, (guards here).few, here.room), (guards here).few)

    abbrev guard-using : List ℕ
    guard-using = take (k + (4 + j) - (k + 4)) (drop (k + 4) t)

    guard-names : variables_at t (k + 4) j ≡ variables guard-using
    guard-names =
        let so_many : j ≡ k + (4 + j) - (k + 4) = omega arith in
        listed-at t (k + 4) j (omega (arith, (guards here).fits)) ∙ ap (λ z. variables (take z (drop (k + 4) t))) so_many

    abbrev in_guard : Raw → List Binding → Result Judged Refusal
    in_guard e v = then_typed (judge v e) (guarded k (bindings_size v))

    guard-parted :
        (h : Judgeable t k levels env sp floor)
        → judge (scope sp floor env) h.expression ≡ body_then (guard_in (scope sp floor env) k g (variables guard-using)) (in_guard (guards h).body)
    unfolding judge
    guard-parted h =
        ap (judge (scope sp floor env)) (guards h).is
        ∙ ap (λ z. body_then (guard_in (scope sp floor env) k g z) (in_guard (guards h).body)) guard-names

    pub guard-refused :
        {mid : List Binding} (f : Refusal) → Stopped (guard_in (scope sp floor env) k g (variables guard-using)) env mid f
        → Judges t k levels env sp floor mid (Err f)
    guard-refused f s =
        record {
          above = ap (drop sp) s.kept;
          few = omega arith;
          answer = λ h. sym (ap (judging_of h.next) (guard-parted h ∙ ap (λ z. body_then z (in_guard (guards h).body)) s.is));
        }

    module _
        {mid : List Binding} {inner : ℕ} (s : Inside (guard_in (scope sp floor env) k g (variables guard-using)) sp env mid inner)
        (l : length mid ≡ length env) where
      guard-bindings : length s.bindings ≡ j
      guard-bindings =
          let n = guard-length (scope sp floor env) k g guard-using s.bindings s.is in
          omega (arith, n, length-part t (k + 4) (k + (4 + j)) (omega (arith, (guards here).fits)))

      pub size-asked : (inner ≤ sp) × (sp ≤ length mid) × (length (scope inner sp mid) ≤ most_listed)
      size-asked =
          let n = ap length (inside-scope s) in
          (omega (arith, s.at), omega (arith, here.order, here.high), omega (arith, n, guard-bindings, (guards here).few))

      pub guard-body : Judgeable t k levels env sp floor → Judgeable t (k + (4 + j)) (levels - 1) mid inner sp
      guard-body h =
          record {
            count = h.count + 1;
            expression = (guards h).body;
            next = h.next;
            after = h.after;
            read = (guards h).read;
            shallow = omega (arith, h.shallow);
            room = omega (arith, h.room, s.at, guard-bindings, (guards h).few);
            order = omega (arith, s.at);
            high = omega (arith, h.order, h.high);
          }

      module _ {last : List Binding} {r : Result Judging Refusal} (v : Judges t (k + (4 + j)) (levels - 1) mid inner sp last r) where
        guard-answer : (h : Judgeable t k levels env sp floor) → r ≡ judging_of h.next (judge s.bindings (guards h).body)
        unfolding guards guard-body
        guard-answer h = v.answer (guard-body h) ∙ ap (λ z. judging_of h.next (judge z (guards h).body)) (inside-scope s)

        guard-is : (h : Judgeable t k levels env sp floor) → judge (scope sp floor env) h.expression ≡ in_guard (guards h).body s.bindings
        guard-is h = guard-parted h ∙ ap (λ z. body_then z (in_guard (guards h).body)) s.is

        guard-above : drop sp last ≡ drop sp env
        guard-above = from-later inner sp last mid (omega (arith, s.at)) v.above ∙ inside-above s

        pub guard-body-refused : (f : Refusal) → r ≡ Err f → Judges t k levels env sp floor last (Err f)
        guard-body-refused f q =
            record {
              above = guard-above;
              few = omega arith;
              answer = λ h.
                  sym
                  (ap (judging_of h.next)
                  (guard-is h ∙ ap (λ z. then_typed z (guarded k (bindings_size s.bindings))) (was-refused h.next (judge s.bindings (guards h).body) (sym q ∙ guard-answer h))));
            }

        pub guard-judges :
            {n : ℕ} (body : Judging) → r ≡ Ok body → n ≡ bindings_size (scope inner sp mid)
            → {whole : Result Judging Refusal} → whole ≡ judging_of body.next (guarded k n body.found body.words) → words_of whole ≤ nesting_bound + body.words
            → Judges t k levels env sp floor last whole
        guard-judges {n} body q e w f =
            record {
              above = guard-above;
              few = omega (arith, f, subst (λ z. words_of z ≤ nesting_bound * (levels - 1)) q v.few, (guards here).deep);
              answer = λ i.
                  (let of = e ∙ ap bindings_size (inside-scope s) in
                  w ∙ (ap (λ a. judging_of body.next (guarded k a body.found body.words)) of
                  ∙ (body-of i.next (guarded k (bindings_size s.bindings)) (judge s.bindings (guards i).body) (sym q ∙ guard-answer i)
                  ∙ sym (ap (judging_of i.next) (guard-is i)))));
            }
