-- Units that are marked.
use Rattle.std.proofs.Common.{◌≡◌, ◌≢◌, ◌∙◌, ◌⊎◌, inl, inr, ℕ, zero, suc, ◌+◌, ◌<◌, ◌≤◌, Bool, true, false, cond, not, ◌&&◌, ◌||◌, eqb, ltb, List, [], ◌∷◌, Option, None, Some, length, drop, get_or, set, length-set, refl, sym, ap, arith, lt-ltb, le-ltb, eq-eqb}
use Rattle.std.specs.Prelude.{nat_eq, nat_lt, slice_get, replicate}
use Rattle.std.specs.List.{list_any}
use Rattle.std.proofs.lemmas.Bool.{ltb-true}
use Rattle.std.proofs.lemmas.Bool.Decides.{eqb_tells, nat_tests}
use Rattle.std.proofs.lemmas.List.{drop_all, at_drop_more, length-replicate}
use Rattle.target_base.specs.declared.types.Reg.{Reg}
use Rattle.target_base.specs.declared.types.Unit.{Unit as UnitNumber}
use Rattle.target_base.specs.declared.types.Target.{Target}
use Rattle.instr_effects.specs.declared.owner.Owner.TheVariants as owners
use Rattle.instr_effects.specs.Numbered.{number_in}
use Rattle.live_lanes.specs.declared.row.Cell.{Cell}
use Rattle.live_lanes.specs.declared.row.LaneRange.{LaneRange}
use Rattle.live_lanes.specs.declared.table.Table.{Table}
use Rattle.live_lanes.specs.Entered.{cells_of}
use Rattle.live_lanes.specs.Reach.{is_never}
use Rattle.live_lanes.specs.Table.{descends, find_cell, is_below, Seen, seen, seen_in, unseen}
use Rattle.machine_verify.specs.Liveins.{is_set}
use Rattle.rewriter.specs.Physical.{Assignment}
use Rattle.rewriter.specs.declared.live_units.LiveUnits.{LiveUnits}
use Rattle.rewriter.proofs.Rows.{row, row_set, row_at, row_past, row_none}
use Rattle.rewriter.specs.LiveUnits.{flags_at, live_into, enters, some_enters, unit_enters, holds_live, assigned_units, held_live, Marks, entered_block, is_at}

-- truth values

pub or_false : (b : Bool) → (b || false) ≡ b
or_false true = refl
or_false false = refl

or_true : (b : Bool) → (b || true) ≡ true
or_true true = refl
or_true false = refl

and_true : (b : Bool) → (b && true) ≡ b
and_true true = refl
and_true false = refl

and_false : (b : Bool) → (b && false) ≡ false
and_false true = refl
and_false false = refl

and_or : (a b c : Bool) → (a && (b || c)) ≡ ((a && b) || (a && c))
and_or true b c = refl
and_or false b c = refl

both-left : (a b : Bool) → (a && b) ≡ true → a ≡ true
both-left true b e = refl
both-left false b e = absurd (cc)

both-right : (a b : Bool) → (a && b) ≡ true → b ≡ true
both-right true b e = e
both-right false b e = absurd (cc)

-- nothing more, and one thing after the other

nothing_more : (l h : Bool) → l ≡ (l || (h && false))
nothing_more true h = refl
nothing_more false true = refl
nothing_more false false = refl

joined : (l h s t : Bool) → ((l || (h && s)) || (h && t)) ≡ (l || (h && (s || t)))
joined true h s t = refl
joined false true s t = refl
joined false false s t = refl

pub marks_as : (s t : ℕ → ℕ → Bool) (x y : LiveUnits) → ((p u : ℕ) → t p u ≡ s p u) → Marks s x y → Marks t x y
marks_as s t x y e m = record {
  sizes = m.sizes;
  marks = λ p u. m.marks p u ∙ ap (λ b. live_into x p u || (nat_lt u (length (flags_at x p)) && b)) (sym (e p u));
}

pub marks_none : (t : ℕ → ℕ → Bool) (x : LiveUnits) → ((p u : ℕ) → t p u ≡ false) → Marks t x x
marks_none t x e = record {
  sizes = λ p. refl;
  marks = λ p u. nothing_more (live_into x p u) (nat_lt u (length (flags_at x p))) ∙ ap (λ b. live_into x p u || (nat_lt u (length (flags_at x p)) && b)) (sym (e p u));
}

pub marks_more : (s t r : ℕ → ℕ → Bool) (x y z : LiveUnits) → ((p u : ℕ) → r p u ≡ (s p u || t p u)) → Marks s x y → Marks t y z → Marks r x z
marks_more s t r x y z e a b = record {
  sizes = λ p. b.sizes p ∙ a.sizes p;
  marks = λ p u.
      b.marks p u
      ∙ (ap (λ n. live_into y p u || (nat_lt u n && t p u)) (a.sizes p)
      ∙ (ap (λ l. l || (nat_lt u (length (flags_at x p)) && t p u)) (a.marks p u)
      ∙ (joined (live_into x p u) (nat_lt u (length (flags_at x p))) (s p u) (t p u)
      ∙ ap (λ c. live_into x p u || (nat_lt u (length (flags_at x p)) && c)) (sym (e p u)))));
}

-- one flag

pub set_more : (f : List Bool) (w u : ℕ) → is_set (set f w true) u ≡ (is_set f u || (nat_lt u (length f) && nat_eq w u))
set_more [] w u = let e : nat_lt u 0 ≡ false = le-ltb u 0 (omega arith) in sym (ap (λ b. b && nat_eq w u) e)
set_more (b ∷ f) zero zero =
    let n : nat_lt 0 (length (b ∷ f)) ≡ true = lt-ltb 0 (length (b ∷ f)) (omega arith) in
    let m : nat_eq 0 0 ≡ true = eq-eqb 0 0 refl in
    sym (ap (λ c. b || (c && nat_eq 0 0)) n ∙ (ap (λ c. b || c) m ∙ or_true b))
set_more (b ∷ f) zero (suc u) =
    let m : nat_eq 0 (suc u) ≡ false = grind (arith, nat_tests) in
    nothing_more (is_set f u) (nat_lt (suc u) (length (b ∷ f))) ∙ ap (λ c. is_set f u || (nat_lt (suc u) (length (b ∷ f)) && c)) (sym m)
set_more (b ∷ f) (suc w) zero =
    let m : nat_eq (suc w) 0 ≡ false = grind (arith, nat_tests) in
    nothing_more b (nat_lt 0 (length (b ∷ f))) ∙ ap (λ c. b || (nat_lt 0 (length (b ∷ f)) && c)) (sym m)
set_more (b ∷ f) (suc w) (suc u) =
    let n : nat_lt (suc u) (length (b ∷ f)) ≡ nat_lt u (length f) = grind (arith, nat_tests) in
    let m : nat_eq (suc w) (suc u) ≡ nat_eq w u = grind (arith, nat_tests) in
    set_more f w u ∙ (ap (λ c. is_set f u || (c && nat_eq w u)) (sym n) ∙ ap (λ c. is_set f u || (nat_lt (suc u) (length (b ∷ f)) && c)) (sym m))

marked_row : (x y : LiveUnits) (w p : ℕ) → ((q : ℕ) → flags_at y q ≡ cond (nat_eq p q) (set (flags_at x p) w true) (flags_at x q)) → Marks (λ q u. nat_eq w u && nat_eq p q) x y
marked_row x y w p e = record {
  sizes = λ q. size q (eqb_tells p q);
  marks = λ q u. mark q u (eqb_tells p q);
}
  where
    here : (q : ℕ) → (eqb p q ≡ true) × (p ≡ q) → flags_at y q ≡ set (flags_at x q) w true
    here q h = e q ∙ (ap (λ b. cond b (set (flags_at x p) w true) (flags_at x q)) h.0 ∙ ap (λ n. set (flags_at x n) w true) h.1)

    there : (q : ℕ) → (eqb p q ≡ false) × (p ≢ q) → flags_at y q ≡ flags_at x q
    there q h = e q ∙ ap (λ b. cond b (set (flags_at x p) w true) (flags_at x q)) h.0

    size : (q : ℕ) → ((eqb p q ≡ true) × (p ≡ q)) ⊎ ((eqb p q ≡ false) × (p ≢ q)) → length (flags_at y q) ≡ length (flags_at x q)
    size q (inl h) = ap length (here q h) ∙ length-set (flags_at x q) w true
    size q (inr h) = ap length (there q h)

    mark : (q u : ℕ) → ((eqb p q ≡ true) × (p ≡ q)) ⊎ ((eqb p q ≡ false) × (p ≢ q)) → live_into y q u ≡ (live_into x q u || (nat_lt u (length (flags_at x q)) && (nat_eq w u && nat_eq p q)))
    mark q u (inl h) =
        ap (λ fs. is_set fs u) (here q h)
        ∙ (set_more (flags_at x q) w u
        ∙ ap (λ b. live_into x q u || (nat_lt u (length (flags_at x q)) && b)) (sym (ap (λ b. nat_eq w u && b) h.0 ∙ and_true (nat_eq w u))))
    mark q u (inr h) =
        ap (λ fs. is_set fs u) (there q h)
        ∙ (nothing_more (live_into x q u) (nat_lt u (length (flags_at x q)))
        ∙ ap (λ b. live_into x q u || (nat_lt u (length (flags_at x q)) && b)) (sym (ap (λ b. nat_eq w u && b) h.0 ∙ and_false (nat_eq w u))))

-- a unit is marked in a block
pub marked_here : (x y : LiveUnits) (w p : ℕ) (f g : List Bool) → p < length x.blocks → f ≡ get_or x.blocks p f → g ≡ set f w true → y.blocks ≡ set x.blocks p g → Marks (λ q u. nat_eq w u && nat_eq p q) x y
marked_here x y w p f g h at is e = marked_row x y w p (λ q.
    ap (λ bs. row bs q) e ∙ (row_set x.blocks p g q h ∙ ap (λ r. cond (nat_eq p q) r (row x.blocks q)) (is ∙ ap (λ r. set r w true) (at ∙ row_at x.blocks p f h))))

-- there is no such block
pub marked_past : (x : LiveUnits) (w p : ℕ) → length x.blocks ≤ p → Marks (λ q u. nat_eq w u && nat_eq p q) x x
marked_past x w p h = marked_row x x w p (λ q. same q (eqb_tells p q))
  where
    none : row x.blocks p ≡ []
    none = row_past x.blocks p h

    same : (q : ℕ) → ((eqb p q ≡ true) × (p ≡ q)) ⊎ ((eqb p q ≡ false) × (p ≢ q)) → row x.blocks q ≡ cond (nat_eq p q) (set (row x.blocks p) w true) (row x.blocks q)
    same q (inl k) =
        ap (row x.blocks) (sym k.1) ∙ (none ∙ sym (ap (λ b. cond b (set (row x.blocks p) w true) (row x.blocks q)) k.0 ∙ ap (λ r. set r w true) none))
    same q (inr k) = sym (ap (λ b. cond b (set (row x.blocks p) w true) (row x.blocks q)) k.0)

pub marked_nowhere : (w : ℕ) (x : LiveUnits) → Marks (λ q u. nat_eq w u && is_at None q) x x
marked_nowhere w x = marks_none _ x (λ q u. and_false (nat_eq w u))

pub no_lane : (x : Table) (w : ℕ) (a : LiveUnits) → Marks (λ p u. nat_eq w u && some_enters x None p) a a
no_lane x w a = marks_none _ a (λ p u. and_false (nat_eq w u))

-- the cells of a lane

abbrev pub any_at : List Cell → ℕ → Bool
any_at cs p = list_any (λ c. is_at (entered_block (Some c)) p) cs

cell_more : (cs : List Cell) (k p : ℕ) → k < length cs → any_at (drop k cs) p ≡ (is_at (entered_block (slice_get cs k)) p || any_at (drop (k + 1) cs) p)
cell_more [] k p h = absurd (omega arith)
cell_more (c ∷ cs) zero p h = refl
cell_more (c ∷ cs) (suc k) p h =
    let next : suc (k + 1) ≡ suc k + 1 = omega arith in
    cell_more cs k p (omega arith) ∙ ap (λ j. is_at (entered_block (slice_get cs k)) p || any_at (drop j (c ∷ cs)) p) next

pub cells_more : (cs : List Cell) (k w : ℕ) (x y z : LiveUnits) → k < length cs → Marks (λ p u. nat_eq w u && is_at (entered_block (slice_get cs k)) p) x y → Marks (λ p u. nat_eq w u && any_at (drop (k + 1) cs) p) y z → Marks (λ p u. nat_eq w u && any_at (drop k cs) p) x z
cells_more cs k w x y z h a b =
    marks_more _ _ _ x y z (λ p u. ap (λ c. nat_eq w u && c) (cell_more cs k p h) ∙ and_or (nat_eq w u) (is_at (entered_block (slice_get cs k)) p) (any_at (drop (k + 1) cs) p)) a b

below_none : (n b : ℕ) (cs : List Cell) → is_below n cs ≡ true → descends cs ≡ true → n ≤ b → find_cell b cs ≡ None
below_none n b [] h d w = refl
below_none n b (c ∷ cs) h d w =
    let low : c.block < n = low_is (ltb c.block n) refl h in
    let other : nat_eq c.block b ≡ false = grind (arith, nat_tests) in
    ap (λ t. cond t (Some c) (find_cell b cs)) other ∙ below_none c.block b cs (both-left (is_below c.block cs) (descends cs) d) (both-right (is_below c.block cs) (descends cs) d) (omega arith)
  where
    low_is : (t : Bool) → ltb c.block n ≡ t → ltb c.block n ≡ true → c.block < n
    low_is t e f = ltb-true c.block n f

any_is : (p : ℕ) (cs : List Cell) → descends cs ≡ true → any_at cs p ≡ not (is_never (seen_in cs p).end)
any_is p [] d = refl
any_is p (c ∷ cs) d =
    let rest = both-right (is_below c.block cs) (descends cs) d in
    go (eqb_tells c.block p) (is_never c.first.end) refl (any_is p cs rest) (λ h. below_none c.block p cs (both-left (is_below c.block cs) (descends cs) d) rest h)
  where
    first : (b : Bool) → is_never c.first.end ≡ b → any_at (c ∷ cs) p ≡ (is_at (cond b None (Some c.block)) p || any_at cs p)
    first b n = ap (λ t. is_at (cond t None (Some c.block)) p || any_at cs p) n

    found : (t : Bool) → nat_eq c.block p ≡ t → not (is_never (seen_in (c ∷ cs) p).end) ≡ not (is_never (seen (cond t (Some c) (find_cell p cs))).end)
    found t e = ap (λ s. not (is_never (seen (cond s (Some c) (find_cell p cs))).end)) e

    go : ((eqb c.block p ≡ true) × (c.block ≡ p)) ⊎ ((eqb c.block p ≡ false) × (c.block ≢ p)) → (b : Bool) → is_never c.first.end ≡ b → any_at cs p ≡ not (is_never (seen_in cs p).end) → (c.block ≤ p → find_cell p cs ≡ None) → any_at (c ∷ cs) p ≡ not (is_never (seen_in (c ∷ cs) p).end)
    go (inl h) true n ih none =
        first true n ∙ (ih ∙ (ap (λ o. not (is_never (seen o).end)) (none (let e = h.1 in omega arith)) ∙ sym (found true h.0 ∙ ap not n)))
    go (inl h) false n ih none = first false n ∙ (ap (λ t. t || any_at cs p) h.0 ∙ sym (found true h.0 ∙ ap not n))
    go (inr h) true n ih none = first true n ∙ (ih ∙ sym (found false h.0))
    go (inr h) false n ih none = first false n ∙ (ap (λ t. t || any_at cs p) h.0 ∙ (ih ∙ sym (found false h.0)))

lane_is : (x : Table) (n p : ℕ) → any_at (cells_of x.rows.rows.items n) p ≡ enters x n p
lane_is x n p = go (slice_get x.rows.rows.items n)
  where
    go : (o : Option LaneRange) → any_at (elim o [ None ↦ [] | Some r ↦ r.cells.items ]) p ≡ not (is_never ((λ (v : Seen). v.end) (elim o [ None ↦ unseen | Some r ↦ seen_in r.cells.items p ])))
    go None = refl
    go (Some r) = any_is p r.cells.items r.sorted

-- all cells are looked at
pub cells_all : (x : Table) (n w k : ℕ) (a b : LiveUnits) → length (cells_of x.rows.rows.items n) ≤ k → ((y : LiveUnits) → Marks (λ p u. nat_eq w u && any_at (drop k (cells_of x.rows.rows.items n)) p) b y → Marks (λ p u. nat_eq w u && any_at (cells_of x.rows.rows.items n) p) a y) → Marks (λ p u. nat_eq w u && enters x n p) a b
cells_all x n w k a b h was =
    let cs = cells_of x.rows.rows.items n in
    let none : Marks (λ p u. nat_eq w u && any_at (drop k cs) p) b b = marks_none _ b (λ p u. ap (λ ds. nat_eq w u && any_at ds p) (drop_all k cs h) ∙ and_false (nat_eq w u)) in
    marks_as _ _ a b (λ p u. ap (λ c. nat_eq w u && c) (sym (lane_is x n p))) (was b none)

-- units that are live by themselves

unit_more : (E : ℕ → Bool) (k w : ℕ) → (nat_lt w (k + 1) && E w) ≡ ((nat_lt w k && E w) || (nat_eq k w && E k))
unit_more E k w = go (eqb_tells k w)
  where
    go : ((eqb k w ≡ true) × (k ≡ w)) ⊎ ((eqb k w ≡ false) × (k ≢ w)) → (nat_lt w (k + 1) && E w) ≡ ((nat_lt w k && E w) || (nat_eq k w && E k))
    go (inl h) =
        let e = h.1 in
        let m : nat_lt w (k + 1) ≡ true = lt-ltb w (k + 1) (omega arith) in
        let n : nat_lt w k ≡ false = le-ltb w k (omega arith) in
        ap (λ b. b && E w) m ∙ (ap E (sym e) ∙ sym (ap (λ b. (b && E w) || (nat_eq k w && E k)) n ∙ ap (λ b. b && E k) h.0))
    go (inr h) =
        let e = h.1 in
        let m : nat_lt w (k + 1) ≡ nat_lt w k = grind (arith, nat_tests) in
        ap (λ b. b && E w) m ∙ sym (ap (λ b. (nat_lt w k && E w) || (b && E k)) h.0 ∙ or_false (nat_lt w k && E w))

pub units_none : (x : Table) (a : LiveUnits) → Marks (λ p w. nat_lt w 0 && unit_enters x w p) a a
units_none x a = marks_none _ a (λ p w. let e : nat_lt w 0 ≡ false = le-ltb w 0 (omega arith) in ap (λ b. b && unit_enters x w p) e)

pub units_more : (x : Table) (k w : ℕ) (a b c : LiveUnits) → w ≡ k → Marks (λ p u. nat_lt u k && unit_enters x u p) a b → Marks (λ p u. nat_eq w u && unit_enters x k p) b c → Marks (λ p u. nat_lt u (k + 1) && unit_enters x u p) a c
units_more x k w a b c e m n =
    marks_more _ _ _ a b c (λ p u. unit_more (λ v. unit_enters x v p) k u ∙ ap (λ v. (nat_lt u k && unit_enters x u p) || (nat_eq v u && unit_enters x k p)) (sym e)) m n

-- units that hold lanes of a range

pub lanes_more : (x : Table) (v k : ℕ) (us : List UnitNumber) (w d : UnitNumber) (a b c : LiveUnits) → k < length us → w ≡ get_or us k d → Marks (λ p u. nat_eq w.0 u && some_enters x (number_in x.lanes (owners.Range v k)) p) a b → Marks (holds_live x v (k + 1) (drop (k + 1) us)) b c → Marks (holds_live x v k (drop k us)) a c
lanes_more x v k us w d a b c h at m n =
    let next : suc k ≡ k + 1 = omega arith in
    marks_more _ _ _ a b c (λ p u.
    at_drop_more (λ ws. holds_live x v k ws p u) us k d h
    ∙ (ap (λ (z : UnitNumber). (nat_eq z.0 u && some_enters x (number_in x.lanes (owners.Range v k)) p) || holds_live x v (suc k) (drop (k + 1) us) p u) (sym at)
    ∙ ap (λ j. (nat_eq w.0 u && some_enters x (number_in x.lanes (owners.Range v k)) p) || holds_live x v j (drop (k + 1) us) p u) next)) m n

pub lanes_all : (x : Table) (v k : ℕ) (us : List UnitNumber) (a b : LiveUnits) → length us ≤ k → ((y : LiveUnits) → Marks (holds_live x v k (drop k us)) b y → Marks (holds_live x v 0 us) a y) → Marks (holds_live x v 0 us) a b
lanes_all x v k us a b h was = was b (marks_none _ b (λ p u. ap (λ ws. holds_live x v k ws p u) (drop_all k us h)))

-- units that hold ranges

pub ranges_more : (t : Target) (x : Table) (v : ℕ) (rs : Assignment) (r d : Option Reg) (a b c : LiveUnits) → v < length rs → r ≡ get_or rs v d → Marks (holds_live x v 0 (assigned_units t r)) a b → Marks (held_live t x (v + 1) (drop (v + 1) rs)) b c → Marks (held_live t x v (drop v rs)) a c
ranges_more t x v rs r d a b c h at m n =
    let next : suc v ≡ v + 1 = omega arith in
    marks_more _ _ _ a b c (λ p u.
    at_drop_more (λ qs. held_live t x v qs p u) rs v d h
    ∙ (ap (λ z. holds_live x v 0 (assigned_units t z) p u || held_live t x (suc v) (drop (v + 1) rs) p u) (sym at)
    ∙ ap (λ j. holds_live x v 0 (assigned_units t r) p u || held_live t x j (drop (v + 1) rs) p u) next)) m n

pub ranges_all : (t : Target) (x : Table) (v : ℕ) (rs : Assignment) (a b : LiveUnits) → length rs ≤ v → ((y : LiveUnits) → Marks (held_live t x v (drop v rs)) b y → Marks (held_live t x 0 rs) a y) → Marks (held_live t x 0 rs) a b
ranges_all t x v rs a b h was = was b (marks_none _ b (λ p u. ap (λ qs. held_live t x v qs p u) (drop_all v rs h)))

-- from none on

pub set_none : (n u : ℕ) → is_set (replicate n false) u ≡ false
set_none zero u = refl
set_none (suc n) zero = refl
set_none (suc n) (suc u) = set_none n u

pub all_marked : (t : Target) (x : Table) (rs : Assignment) (blocks units : ℕ) (a b c : LiveUnits) → a.blocks ≡ replicate blocks (replicate units false) → Marks (λ p u. nat_lt u units && unit_enters x u p) a b → Marks (held_live t x 0 rs) b c → (p u : ℕ) → live_into c p u ≡ (nat_lt p blocks && (nat_lt u units && (unit_enters x u p || held_live t x 0 rs p u)))
all_marked t x rs blocks units a b c e m n p u =
    let both : Marks (λ q w. (nat_lt w units && unit_enters x w q) || held_live t x 0 rs q w) a c = marks_more _ _ _ a b c (λ q w. refl) m n in
    let here : flags_at a p ≡ cond (nat_lt p blocks) (replicate units false) [] = ap (λ bs. row bs p) e ∙ row_none blocks (replicate units false) p in
    both.marks p u ∙ (ap (λ fs. is_set fs u || (nat_lt u (length fs) && ((nat_lt u units && unit_enters x u p) || held_live t x 0 rs p u))) here ∙ go (nat_lt p blocks))
  where
    fill : (h s r : Bool) → (false || (h && ((h && s) || r))) ≡ (h && (s || r))
    fill true s r = refl
    fill false s r = refl

    go : (l : Bool) → (is_set (cond l (replicate units false) []) u || (nat_lt u (length (cond l (replicate units false) [])) && ((nat_lt u units && unit_enters x u p) || held_live t x 0 rs p u))) ≡ (l && (nat_lt u units && (unit_enters x u p || held_live t x 0 rs p u)))
    go true =
        let rest = (nat_lt u units && unit_enters x u p) || held_live t x 0 rs p u in
        ap (λ s. s || (nat_lt u (length (replicate units false)) && rest)) (set_none units u)
        ∙ (ap (λ k. false || (nat_lt u k && rest)) (length-replicate units false) ∙ fill (nat_lt u units) (unit_enters x u p) (held_live t x 0 rs p u))
    go false =
        let z : nat_lt u 0 ≡ false = le-ltb u 0 (omega arith) in
        ap (λ s. false || (s && ((nat_lt u units && unit_enters x u p) || held_live t x 0 rs p u))) z
