-- What is entered of a function's blocks is a table of its code.
use Rattle.std.proofs.Common.{◌≡◌, ◌⊎◌, inl, inr, ◌<◌, ◌≤◌, ◌+◌, ℕ, zero, suc, Bool, true, false, cond, ◌&&◌, ◌||◌, length, List, [], ◌∷◌, ◌++◌, map, Option, None, Some, refl, sym, ap, ◌∙◌, subst, arith, eqb-true, eq-eqb, ⊎_elim}
use Rattle.std.specs.Prelude.{slice_get, nat_eq, flat_map, filter, option_map}
use Rattle.std.specs.List.{cons_option, list_any}
use Rattle.std.proofs.lemmas.Bool.{cases_lt, ne_eqb}
use Rattle.std.proofs.lemmas.Option.{slice_get_past}
use Rattle.target_base.specs.declared.types.Target.{Target}
use Rattle.mir_func.specs.declared.func.Block.{Block}
use Rattle.mir_func.specs.declared.func.Edge.{Edge}
use Rattle.mir_func.specs.declared.func.Instr.{Instr}
use Rattle.mir_func.specs.Binding.{does, is_terminator}
use Rattle.slot_index.specs.Order.{number_of}
use Rattle.live_lanes.specs.declared.compute.flow.BlockFlow.{BlockFlow}
use Rattle.live_lanes.specs.declared.row.LaneRange.{LaneRange}
use Rattle.mir_meaning.specs.Paths.{Among, here, there, Step, Body, Code, steps_of, last_of, exits_of, has}
use Rattle.live_lanes.specs.Ways.{predecessors, terminators}
use Rattle.live_lanes.specs.Table.{Numbers}
use Rattle.live_lanes.specs.Entered.{shape, Rises, readings_until, starts, IsTableOf}
use Rattle.live_lanes.specs.Entering.{EnteredStep, steps_in, steps_from, is_end_read, is_read_last, AreApart, AllApart}
use Rattle.live_lanes.specs.Ordered.{times, ids_of, all_ids, AreSingle, AreRising}
use Rattle.live_lanes.specs.Flowing.{edge_places, exits_at, terminator_ids}
use Rattle.live_lanes.specs.Coded.{Doing, entries, lanes_at, last_at, body_at, bodies_from, code_of, IsMade}
use Rattle.live_lanes.specs.Laws.{MadeLaw, AllMatched}
use Rattle.live_lanes.proofs.Filled.{entering-law}
use Rattle.live_lanes.proofs.Flowing.{has-both}
use Rattle.live_lanes.proofs.Ordered.{times-both, times-first, times-behind}

-- members

pub among-has : (x : ℕ) (xs : List ℕ) → Among x xs → has x xs ≡ true
among-has x [] m = elim m [ ]
among-has x (y ∷ xs) here = ap (λ t. cond t true (has x xs)) (eq-eqb x x refl)
among-has x (y ∷ xs) (there m) = go (nat_eq y x) (among-has x xs m)
  where
    go : (t : Bool) → has x xs ≡ true → cond t true (has x xs) ≡ true
    go true e = refl
    go false e = e

pub has-among : (x : ℕ) (xs : List ℕ) → has x xs ≡ true → Among x xs
has-among x [] e = absurd (cc)
has-among x (y ∷ xs) e = go (nat_eq y x) refl e (has-among x xs)
  where
    go : (t : Bool) → nat_eq y x ≡ t → cond t true (has x xs) ≡ true → (has x xs ≡ true → Among x xs) → Among x (y ∷ xs)
    go true f e ih = let same : y ≡ x = eqb-true y x f in subst (λ z. Among x (z ∷ xs)) (sym same) here
    go false f e ih = there (ih e)

has-flat : {X : Type 0} (g : X → List ℕ) (l : ℕ) (xs : List X) → has l (flat_map g xs) ≡ list_any (λ x. has l (g x)) xs
has-flat g l [] = refl
has-flat g l (x ∷ xs) = has-both l (g x) (flat_map g xs) ∙ ap (λ t. has l (g x) || t) (has-flat g l xs)

any-same : {X : Type 0} (p q : X → Bool) (xs : List X) → ((x : X) → p x ≡ q x) → list_any p xs ≡ list_any q xs
any-same p q [] e = refl
any-same p q (x ∷ xs) e = ap (λ t. t || list_any p xs) (e x) ∙ ap (λ t. q x || t) (any-same p q xs e)

any-none : {X : Type 0} (p : X → Bool) (xs : List X) → ((x : X) → p x ≡ false) → list_any p xs ≡ false
any-none p [] e = refl
any-none p (x ∷ xs) e = ap (λ t. t || list_any p xs) (e x) ∙ any-none p xs e

steps-of-list : (doing : Doing) (is : List Instr) → steps_in (map doing is) ≡ map (λ i. (doing i).0) is
steps-of-list doing [] = refl
steps-of-list doing (i ∷ is) = ap (λ ss. (doing i).0 ∷ ss) (steps-of-list doing is)

none-times : (x : ℕ) (xs : List ℕ) → times x xs ≡ 0 → has x xs ≡ false
none-times x [] h = refl
none-times x (y ∷ xs) h = go (nat_eq y x) h (none-times x xs)
  where
    go : (t : Bool) → cond t (suc (times x xs)) (times x xs) ≡ 0 → (times x xs ≡ 0 → has x xs ≡ false) → cond t true (has x xs) ≡ false
    go true h ih = absurd (omega (arith, h))
    go false h ih = ih h

module _ (t : Target) (doing : Doing) (place : ℕ → Option ℕ) (bs : List Block) (slots : Numbers) (flow : List BlockFlow) (rows : List LaneRange) (made : IsMade t doing place bs slots flow rows) where
  abbrev code : Code
  code = code_of doing place bs

  abbrev ess : List (List EnteredStep)
  ess = entries doing bs

  -- bodies by their positions

  bodies-at : (n : ℕ) (cs : List Block) (k : ℕ) → slice_get (bodies_from doing place bs n cs) k ≡ option_map (body_at doing place bs (n + k)) (slice_get cs k)
  bodies-at n [] k = refl
  bodies-at n (c ∷ cs) zero = let e : n ≡ n + 0 = omega arith in ap (λ m. Some (body_at doing place bs m c)) e
  bodies-at n (c ∷ cs) (suc k) = let e : suc n + k ≡ n + suc k = omega arith in bodies-at (suc n) cs k ∙ ap (λ m. option_map (body_at doing place bs m) (slice_get cs k)) e

  body-is : (k : ℕ) → slice_get code k ≡ option_map (body_at doing place bs k) (slice_get bs k)
  body-is k = let e : 0 + k ≡ k = omega arith in bodies-at 0 bs k ∙ ap (λ m. option_map (body_at doing place bs m) (slice_get bs k)) e

  abbrev steps_in_body : Option Body → List Step
  steps_in_body q = elim q [ None ↦ [] | Some x ↦ x.steps ]

  abbrev last_in : Option Body → List ℕ
  last_in q = elim q [ None ↦ [] | Some x ↦ x.last ]

  abbrev steps_some : Option Block → List Step
  steps_some q = elim q [ None ↦ [] | Some b ↦ map (λ i. (doing i).0) b.instrs ]

  steps-is : (k : ℕ) → steps_of code k ≡ steps_some (slice_get bs k)
  steps-is k = ap steps_in_body (body-is k) ∙ go (slice_get bs k)
    where
      go : (q : Option Block) → steps_in_body (option_map (body_at doing place bs k) q) ≡ steps_some q
      go None = refl
      go (Some b) = refl

  abbrev exits_in : Option Body → List ℕ
  exits_in q = elim q [ None ↦ [] | Some x ↦ x.exits ]

  abbrev exits_some : Option Block → List ℕ
  exits_some q = elim q [ None ↦ [] | Some c ↦ edge_places place c.successors ]

  pub exits-is : (k : ℕ) → exits_of code k ≡ exits_at place bs k
  exits-is k = ap exits_in (body-is k) ∙ go (slice_get bs k)
    where
      go : (q : Option Block) → exits_in (option_map (body_at doing place bs k) q) ≡ exits_some q
      go None = refl
      go (Some b) = refl

  steps-from-is : (n : ℕ) (cs : List Block) (k : ℕ) → steps_from n (entries doing cs) (n + k) ≡ steps_some (slice_get cs k)
  steps-from-is n [] k = refl
  steps-from-is n (c ∷ cs) zero = let e : n ≡ n + 0 = omega arith in ap (λ u. cond u (steps_in (map doing c.instrs)) (steps_from (suc n) (entries doing cs) (n + 0))) (eq-eqb n (n + 0) e) ∙ steps-of-list doing c.instrs
  steps-from-is n (c ∷ cs) (suc k) = let e : n + suc k ≡ suc n + k = omega arith in ap (λ u. cond u (steps_in (map doing c.instrs)) (steps_from (suc n) (entries doing cs) (n + suc k))) (ne_eqb n (n + suc k) (λ f. omega arith)) ∙ ap (λ m. steps_from (suc n) (entries doing cs) m) e ∙ steps-from-is (suc n) cs k

  steps-same : (b : ℕ) → steps_from 0 ess b ≡ steps_of code b
  steps-same b = let e : b ≡ 0 + b = omega arith in ap (λ m. steps_from 0 ess m) e ∙ steps-from-is 0 bs b ∙ sym (steps-is b)

  -- what is read at the ends of blocks

  end-has : (l b : ℕ) (r : ℕ × List ℕ) → has l (lanes_at place b r) ≡ is_end_read place l b r
  end-has l b r = go (place r.0)
    where
      by : (u w : Bool) (xs : List ℕ) → has l xs ≡ w → has l (cond u xs []) ≡ w && u
      by true true xs e = e
      by true false xs e = e
      by false true xs e = refl
      by false false xs e = refl

      go : (q : Option ℕ) → has l (elim q [ None ↦ [] | Some p ↦ cond (nat_eq p b) r.1 [] ]) ≡ elim q [ None ↦ false | Some p ↦ has l r.1 && nat_eq p b ]
      go None = refl
      go (Some p) = by (nat_eq p b) (has l r.1) r.1 refl

  last-has : (l b : ℕ) → has l (last_at place ess b) ≡ is_read_last place l b ess
  last-has l b =
      has-flat (flat_map (λ e. flat_map (lanes_at place b) e.1)) l ess
      ∙ any-same (λ es. has l (flat_map (λ e. flat_map (lanes_at place b) e.1) es)) (list_any (λ e. list_any (is_end_read place l b) e.1)) ess (λ es.
      has-flat (λ e. flat_map (lanes_at place b) e.1) l es
      ∙ any-same (λ e. has l (flat_map (lanes_at place b) e.1)) (λ e. list_any (is_end_read place l b) e.1) es (λ e. has-flat (lanes_at place b) l e.1 ∙ any-same (λ r. has l (lanes_at place b r)) (is_end_read place l b) e.1 (end-has l b)))

  last-past : (l b : ℕ) → length bs ≤ b → is_read_last place l b ess ≡ false
  last-past l b past = any-none (list_any (λ e. list_any (is_end_read place l b) e.1)) ess (λ es. any-none (λ e. list_any (is_end_read place l b) e.1) es (λ e. any-none (is_end_read place l b) e.1 (λ r. go r (place r.0) refl)))
    where
      and-false : (u : Bool) → u && false ≡ false
      and-false true = refl
      and-false false = refl

      go : (r : ℕ × List ℕ) (q : Option ℕ) → place r.0 ≡ q → elim q [ None ↦ false | Some p ↦ has l r.1 && nat_eq p b ] ≡ false
      go r None f = refl
      go r (Some p) f = let lt : p < length bs = made.within r.0 p f in ap (λ u. has l r.1 && u) (ne_eqb p b (λ e. omega arith)) ∙ and-false (has l r.1)

  last-is : (l b : ℕ) → is_read_last place l b ess ≡ has l (last_of code b)
  last-is l b = go (slice_get bs b) refl
    where
      go : (q : Option Block) → slice_get bs b ≡ q → is_read_last place l b ess ≡ has l (last_of code b)
      go None f = last-past l b (⊎_elim (λ lt. absurd (none-within bs b lt f)) (λ ge. ge) (cases_lt b (length bs))) ∙ sym (ap (λ q. has l (last_in q)) (body-is b ∙ ap (option_map (body_at doing place bs b)) f))
        where
          none-within : (cs : List Block) (k : ℕ) → k < length cs → slice_get cs k ≡ None → ⊥
          none-within [] k h e = absurd (omega arith)
          none-within (c ∷ cs) zero h e = absurd (cc)
          none-within (c ∷ cs) (suc k) h e = none-within cs k (omega arith) e
      go (Some c) f = sym (last-has l b) ∙ sym (ap (λ q. has l (last_in q)) (body-is b ∙ ap (option_map (body_at doing place bs b)) f))

  -- no two instructions of a block have one id

  ids-step : (is : List Instr) → map (λ s. s.id) (steps_in (map doing is)) ≡ ids_of is
  ids-step [] = refl
  ids-step (i ∷ is) = ap (λ n. n ∷ map (λ s. s.id) (steps_in (map doing is))) (made.named i) ∙ ap (λ ns. i.id ∷ ns) (ids-step is)

  apart-in : (is : List Instr) → AreSingle (ids_of is) → AreApart (steps_in (map doing is))
  apart-in [] single = tt
  apart-in (i ∷ is) single =
      let zero-times : times i.id (ids_of is) ≡ 0 = omega (arith, single i.id, times-first i.id (ids_of is)) in
      let alone : has (doing i).0.id (map (λ s. s.id) (steps_in (map doing is))) ≡ false = ap (has (doing i).0.id) (ids-step is) ∙ ap (λ n. has n (ids_of is)) (made.named i) ∙ none-times i.id (ids_of is) zero-times in
      (alone, apart-in is (λ x. omega (arith, single x, times-behind x i.id (ids_of is))))

  apart-all : (cs : List Block) → AreSingle (all_ids cs) → AllApart (entries doing cs)
  apart-all [] single = tt
  apart-all (c ∷ cs) single = (apart-in c.instrs (λ x. omega (arith, single x, times-both x (ids_of c.instrs) (all_ids cs))), apart-all cs (λ x. omega (arith, single x, times-both x (ids_of c.instrs) (all_ids cs))))

  -- numbers rise

  rises : (is : List Instr) (n : ℕ) → AreRising slots n (ids_of is) → Rises slots n (map (λ i. (doing i).0) is)
  rises [] n r = tt
  rises (i ∷ is) n r = subst (λ k. (n < number_of slots k) × (number_of slots k < 18446744073709551616) × Rises slots (number_of slots k) (map (λ j. (doing j).0) is)) (sym (made.named i)) (r.0, r.1, rises is (number_of slots i.id) r.2)

  numbered : (b : ℕ) → Rises slots 0 (steps_of code b)
  numbered b = go (slice_get bs b) refl
    where
      go : (q : Option Block) → slice_get bs b ≡ q → Rises slots 0 (steps_of code b)
      go None f = subst (Rises slots 0) (sym (steps-is b ∙ ap steps_some f)) tt
      go (Some c) f = subst (Rises slots 0) (sym (steps-is b ∙ ap steps_some f)) (rises c.instrs 0 (made.rising b c f))

  -- ways

  edge-within : (x : ℕ) (es : List Edge) → has x (edge_places place es) ≡ true → x < length bs
  edge-within x [] e = absurd (cc)
  edge-within x (d ∷ es) e = go (place d.block) refl e (edge-within x es)
    where
      by : (y : ℕ) (u : Bool) → nat_eq y x ≡ u → place d.block ≡ Some y → cond u true (has x (edge_places place es)) ≡ true → (has x (edge_places place es) ≡ true → x < length bs) → x < length bs
      by y true g f e ih = let same : y ≡ x = eqb-true y x g in subst (λ k. k < length bs) same (made.within d.block y f)
      by y false g f e ih = ih e

      go : (q : Option ℕ) → place d.block ≡ q → has x (cons_option q (edge_places place es)) ≡ true → (has x (edge_places place es) ≡ true → x < length bs) → x < length bs
      go None f e ih = ih e
      go (Some y) f e ih = by y (nat_eq y x) refl f e ih

  exit-within : (x b : ℕ) → has x (exits_at place bs b) ≡ true → x < length bs
  exit-within x b e = go (slice_get bs b) e
    where
      go : (q : Option Block) → has x (exits_some q) ≡ true → x < length bs
      go None e = absurd (cc)
      go (Some c) e = edge-within x c.successors e

  back : (b x : ℕ) → Among x (exits_of code b) → Among b (predecessors flow x)
  back b x m =
      let e : has x (exits_at place bs b) ≡ true = ap (has x) (sym (exits-is b)) ∙ among-has x (exits_of code b) m in
      has-among b (predecessors flow x) (made.ways.predecessors x b (exit-within x b e) ∙ e)

  forth : (b x : ℕ) → Among b (predecessors flow x) → Among x (exits_of code b)
  forth b x m = ⊎_elim yes no (cases_lt x (length bs))
    where
      yes : x < length bs → Among x (exits_of code b)
      yes h = has-among x (exits_of code b) (ap (has x) (exits-is b) ∙ sym (made.ways.predecessors x b h) ∙ among-has b (predecessors flow x) m)

      none : (xs : List ℕ) → xs ≡ [] → Among b xs → ⊥
      none [] e k = elim k [ ]
      none (y ∷ xs) e k = absurd (cc)

      no : length bs ≤ x → Among x (exits_of code b)
      no h = absurd (none (predecessors flow x) (ap (λ q. elim q [ None ↦ [] | Some w ↦ w.predecessors.items ]) (slice_get_past flow x (subst (λ n. n ≤ x) (sym made.ways.blocks) h))) m)

  member-cases : {X : Type 0} (x y : X) (ys : List X) → Among x (y ∷ ys) → (x ≡ y) ⊎ Among x ys
  member-cases x y ys here = inl refl
  member-cases x y ys (there m) = inr m

  leaves-in : (is : List Instr) (s : Step) → Among s (map (λ i. (doing i).0) is) → s.leaves ≡ true → Among s.id (terminator_ids t is)
  leaves-in [] s m e = elim m [ ]
  leaves-in (i ∷ is) s m e = go (does is_terminator t i) refl (member-cases s (doing i).0 (map (λ j. (doing j).0) is) m) (λ k. leaves-in is s k e)
    where
      go : (u : Bool) → does is_terminator t i ≡ u → (s ≡ (doing i).0) ⊎ Among s (map (λ j. (doing j).0) is) → (Among s (map (λ j. (doing j).0) is) → Among s.id (terminator_ids t is)) → Among s.id (map (λ j. j.id) (cond u (i ∷ filter (does is_terminator t) is) (filter (does is_terminator t) is)))
      go true f (inl same) ih = subst (λ k. Among k (i.id ∷ terminator_ids t is)) (sym (ap (λ z. z.id) same ∙ made.named i)) here
      go true f (inr k) ih = there (ih k)
      go false f (inl same) ih = absurd (let z : false ≡ true = sym f ∙ sym (made.leaving i) ∙ ap (λ w. w.leaves) (sym same) ∙ e in cc)
      go false f (inr k) ih = ih k

  abbrev Terminates : List Step → ℕ → Type 0
  Terminates ss id = (before : List Step) × (s : Step) × (rest : List Step) × (ss ≡ before ++ s ∷ rest) × (s.id ≡ id) × (s.leaves ≡ true)

  terminates-in : (is : List Instr) (id : ℕ) → Among id (terminator_ids t is) → Terminates (map (λ i. (doing i).0) is) id
  terminates-in [] id m = elim m [ ]
  terminates-in (i ∷ is) id m = go (does is_terminator t i) refl m (terminates-in is id)
    where
      later : Terminates (map (λ j. (doing j).0) is) id → Terminates ((doing i).0 ∷ map (λ j. (doing j).0) is) id
      later z = ((doing i).0 ∷ z.0, z.1, z.2, ap (λ ss. (doing i).0 ∷ ss) z.3, z.4, z.5)

      by : does is_terminator t i ≡ true → (id ≡ i.id) ⊎ Among id (terminator_ids t is) → (Among id (terminator_ids t is) → Terminates (map (λ j. (doing j).0) is) id) → Terminates ((doing i).0 ∷ map (λ j. (doing j).0) is) id
      by f (inl same) ih = ([], (doing i).0, map (λ j. (doing j).0) is, refl, made.named i ∙ sym same, made.leaving i ∙ f)
      by f (inr k) ih = later (ih k)

      go : (u : Bool) → does is_terminator t i ≡ u → Among id (map (λ j. j.id) (cond u (i ∷ filter (does is_terminator t) is) (filter (does is_terminator t) is))) → (Among id (terminator_ids t is) → Terminates (map (λ j. (doing j).0) is) id) → Terminates ((doing i).0 ∷ map (λ j. (doing j).0) is) id
      go true f m ih = by f (member-cases id i.id (terminator_ids t is) m) ih
      go false f m ih = later (ih m)

  leaves : (b : ℕ) (s : Step) → Among s (steps_of code b) → s.leaves ≡ true → Among s.id (terminators flow b)
  leaves b s m e = subst (Among s.id) (sym (made.ways.terminators b)) (go (slice_get bs b) (subst (Among s) (steps-is b) m))
    where
      go : (q : Option Block) → Among s (steps_some q) → Among s.id (elim q [ None ↦ [] | Some c ↦ terminator_ids t c.instrs ])
      go None k = elim k [ ]
      go (Some c) k = leaves-in c.instrs s k e

  terminates : (b id : ℕ) → Among id (terminators flow b) → Terminates (steps_of code b) id
  terminates b id m = subst (λ ss. Terminates ss id) (sym (steps-is b)) (go (slice_get bs b) (subst (Among id) (made.ways.terminators b) m))
    where
      go : (q : Option Block) → Among id (elim q [ None ↦ [] | Some c ↦ terminator_ids t c.instrs ]) → Terminates (steps_some q) id
      go None k = elim k [ ]
      go (Some c) k = terminates-in c.instrs id k

  pub table : AllMatched code → length rows < 4294967296 → IsTableOf code slots flow rows
  table matched few = record {
    entered = λ l b. ap shape (made.seen l b) ∙ entering-law place ess (apart-all bs made.single) l b ∙ ap (λ u. record { is_read_last = u; readings = readings_until l (steps_from 0 ess b); segments = starts l (steps_from 0 ess b) }) (last-is l b) ∙ ap (λ ss. record { is_read_last = has l (last_of code b); readings = readings_until l ss; segments = starts l ss }) (steps-same b);
    numbered = numbered;
    ways = record { back = back; forth = forth; leaves = leaves; terminates = terminates };
    matched = matched;
    few = few;
  }

pub made-law : MadeLaw
made-law t doing place bs slots flow rows made matched few = table t doing place bs slots flow rows made matched few
