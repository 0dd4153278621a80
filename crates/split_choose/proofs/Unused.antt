-- In a block that no lane of a range is in no instruction names the range.
use Rattle.std.proofs.Common.{◌≡◌, ◌∙◌, ◌⊎◌, inl, inr, ℕ, zero, suc, ◌+◌, ◌<◌, ◌≤◌, List, [], ◌∷◌, ◌++◌, Bool, true, false, cond, refl, sym, ap, subst, length, arith, map, filter, Option, None, Some}
use Rattle.std.specs.Prelude.{◌||◌, ◌&&◌, slice_get, slice_index, flat_map, nat_eq, nat_lt, filter_map}
use Rattle.std.specs.List.{list_any, list_all, sum_by, cons_option}
use Rattle.std.proofs.lemmas.Bool.{or_parts, or_cases, and_parts, eqb-true, ltb-true, true≢false}
use Rattle.std.proofs.lemmas.List.Sums.{sum_by-cons}
use Rattle.meaning.specs.Live.{Among, here, there}
use Rattle.mir_func.specs.declared.func.RegOp.{RegOp}
use Rattle.mir_func.specs.declared.func.Operand.{Operand}
use Rattle.mir_func.specs.declared.func.Operand.TheVariants as operands
use Rattle.mir_func.specs.declared.func.Instr.{Instr}
use Rattle.mir_func.specs.declared.func.Block.{Block}
use Rattle.mir_func.specs.Value.{Function}
use Rattle.mir_func.specs.Binding.{registers, as_register}
use Rattle.mir_meaning.specs.Points.{is_range, counts, touches}
use Rattle.block_freq.specs.Weights.{names, naming}
use Rattle.live_lanes.specs.declared.row.LaneUse.{LaneUse}
use Rattle.live_lanes.specs.declared.row.DefPiece.{DefPiece}
use Rattle.live_lanes.specs.declared.row.Cell.{Cell}
use Rattle.live_lanes.specs.declared.row.LaneRange.{LaneRange}
use Rattle.live_lanes.specs.Table.{unseen, seen, seen_in, seen_cell, begun, find_cell}
use Rattle.live_lanes.specs.Entered.{cells_of, rows_seen}
use Rattle.live_lanes.specs.Ordered.{ids_of}
use Rattle.mir_meaning.specs.Paths.{has}
use Rattle.live_lanes.specs.Touching.{reads_in, names_segment, names_cell, names_lane, names_range, AreTouched}
use Rattle.live_lanes.specs.Tells.{touching_ids}
use Rattle.live_lanes.proofs.Cells.{is-found}
use Rattle.interference.specs.declared.matrix.Matrix.{Matrix}
use Rattle.split_choose.specs.Seen.{FindsPlaces, FindsPoints, begins_here, are_here, reads_here}
use Rattle.split_choose.specs.Spanned.{is_cell, is_in_block}
use Rattle.split_choose.proofs.Spanning.{no-lane, has-among}

-- an instruction that doesn't touch a range has no operand that names it

abbrev names_register : ℕ → Option RegOp → Bool
names_register v None = false
names_register v (Some o) = is_range v o.loc && counts o

names-is : (v : ℕ) (o : Operand) → names v o ≡ names_register v (as_register o)
names-is v (operands.Reg o) = refl
names-is v _ = refl

none-named : (v : ℕ) (os : List Operand) → list_any (λ o. is_range v o.loc && counts o) (registers os) ≡ false → sum_by (λ o. cond (names v o) 1 0) os ≡ 0
none-named v [] h = refl
none-named v (o ∷ os) h = go (as_register o) refl h (none-named v os)
  where
    no-more : names v o ≡ false → sum_by (λ p. cond (names v p) 1 0) os ≡ 0 → sum_by (λ p. cond (names v p) 1 0) (o ∷ os) ≡ 0
    no-more f rest =
        let one-of : Bool → ℕ = λ b. cond b 1 0 in
        let e : one-of (names v o) ≡ one-of false = ap one-of f in
        let a = sum_by-cons (λ (p : Operand). cond (names v p) 1 0) o os in omega (arith, e, a, rest)

    go : (r : Option RegOp) → as_register o ≡ r → list_any (λ p. is_range v p.loc && counts p) (cons_option r (registers os)) ≡ false
        → (list_any (λ p. is_range v p.loc && counts p) (registers os) ≡ false → sum_by (λ p. cond (names v p) 1 0) os ≡ 0) → sum_by (λ p. cond (names v p) 1 0) (o ∷ os) ≡ 0
    go None e h ih = no-more (names-is v o ∙ ap (names_register v) e) (ih h)
    go (Some r) e h ih =
        let p = or_parts (is_range v r.loc && counts r) (list_any (λ (q : RegOp). is_range v q.loc && counts q) (registers os)) h in
        no-more (names-is v o ∙ (ap (names_register v) e ∙ p.0)) (ih p.1)

pub naming-none : (v : ℕ) (i : Instr) → touches v i ≡ false → naming v i ≡ 0
naming-none v i h = none-named v i.operands h

-- members

among-left : {X : Type 0} (x : X) (xs ys : List X) → Among x xs → Among x (xs ++ ys)
among-left x [] ys m = elim m [ ]
among-left x (y ∷ xs) ys here = here
among-left x (y ∷ xs) ys (there m) = there (among-left x xs ys m)

among-right : {X : Type 0} (x : X) (xs ys : List X) → Among x ys → Among x (xs ++ ys)
among-right x [] ys m = m
among-right x (y ∷ xs) ys m = there (among-right x xs ys m)

among-all : (i : Instr) (bs : List Block) (k : ℕ) (b : Block) → slice_get bs k ≡ Some b → Among i b.instrs → Among i (flat_map (λ b. b.instrs) bs)
among-all i [] k b e m = absurd (cc)
among-all i (c ∷ bs) zero b e m = let same : b ≡ c = cc in among-left i c.instrs (flat_map (λ (d : Block). d.instrs) bs) (let P : Block → Type 0 = λ d. Among i d.instrs in subst P same m)
among-all i (c ∷ bs) (suc k) b e m = among-right i c.instrs (flat_map (λ (d : Block). d.instrs) bs) (among-all i bs k b e m)

among-passing : {X : Type 0} (g : X → Bool) (x : X) (xs : List X) → g x ≡ true → Among x xs → Among x (filter g xs)
among-passing g x [] h m = elim m [ ]
among-passing g x (y ∷ xs) h here = let P : Bool → Type 0 = λ b. Among x (cond b (x ∷ filter g xs) (filter g xs)) in subst P (sym h) here
among-passing g x (y ∷ xs) h (there m) = go (g y) (among-passing g x xs h m)
  where
    go : (b : Bool) → Among x (filter g xs) → Among x (cond b (y ∷ filter g xs) (filter g xs))
    go true n = there n
    go false n = n

touching-found : (f : Function) (v k : ℕ) (b : Block) (i : Instr) → slice_get f.blocks k ≡ Some b → Among i b.instrs → touches v i ≡ true → has i.id (touching_ids f v) ≡ true
touching-found f v k b i at m h = has-among i (filter (touches v) (flat_map (λ (c : Block). c.instrs) f.blocks)) (among-passing (touches v) i (flat_map (λ (c : Block). c.instrs) f.blocks) h (among-all i f.blocks k b at m))

-- what an instruction is named by in a cell

any-at : {X : Type 0} (g : X → Bool) (xs : List X) → list_any g xs ≡ true → (j : ℕ) × (x : X) × (slice_get xs j ≡ Some x) × (g x ≡ true)
any-at g [] h = absurd (true≢false (sym h))
any-at g (x ∷ xs) h = go (or_cases (g x) (list_any g xs) h) (any-at g xs)
  where
    go : (g x ≡ true) ⊎ (list_any g xs ≡ true) → (list_any g xs ≡ true → (j : ℕ) × (y : _) × (slice_get xs j ≡ Some y) × (g y ≡ true)) → (j : ℕ) × (y : _) × (slice_get (x ∷ xs) j ≡ Some y) × (g y ≡ true)
    go (inl q) ih = (0, x, refl, q)
    go (inr q) ih = let r = ih q in (suc r.0, r.1, r.2, r.3)

all-got : {X : Type 0} (g : X → Bool) (xs : List X) (j : ℕ) (x : X) → list_all g xs ≡ true → slice_get xs j ≡ Some x → g x ≡ true
all-got g [] j x h e = absurd (cc)
all-got g (y ∷ xs) zero x h e = let same : y ≡ x = cc in ap g (sym same) ∙ (and_parts (g y) (list_all g xs) h).0
all-got g (y ∷ xs) (suc j) x h e = all-got g xs j x (and_parts (g y) (list_all g xs) h).1 e

get-there : {X : Type 0} (xs : List X) (k : ℕ) → k < length xs → (x : X) × (slice_get xs k ≡ Some x)
get-there [] k h = absurd (omega arith)
get-there (x ∷ xs) zero h = (x, refl)
get-there (x ∷ xs) (suc k) h = get-there xs k (omega arith)

-- a test of both passes at some element the second one's
both-pass : {X : Type 0} (g : X → Bool) (P : Type 0) (h : X → Bool) (xs : List X) → ((x : X) → g x ≡ true → h x ≡ true → P) → list_any g xs ≡ true → list_all h xs ≡ true → P
both-pass g P h [] w a c = absurd (true≢false (sym a))
both-pass g P h (x ∷ xs) w a c = go (or_cases (g x) (list_any g xs) a) (both-pass g P h xs w)
  where
    go : (g x ≡ true) ⊎ (list_any g xs ≡ true) → (list_any g xs ≡ true → list_all h xs ≡ true → P) → P
    go (inl q) ih = w x q (and_parts (h x) (list_all h xs) c).0
    go (inr q) ih = ih q (and_parts (h x) (list_all h xs) c).1

reading-here : (is : List Instr) (id : ℕ) (rs : List LaneUse) → reads_in id rs ≡ true → are_here is rs ≡ true → has id (ids_of is) ≡ true
reading-here is id rs a c = both-pass (λ (r : LaneUse). nat_eq r.id id) (has id (ids_of is) ≡ true) (λ (r : LaneUse). has r.id (ids_of is)) rs (λ r q h. ap (λ n. has n (ids_of is)) (sym (eqb-true r.id id q)) ∙ h) a c

segment-here : (is : List Instr) (id : ℕ) (ss : List DefPiece) → list_any (names_segment id) ss ≡ true → list_all (λ p. has p.start (ids_of is)) (map begun ss) ≡ true → list_all (λ p. are_here is p.readings) (map begun ss) ≡ true → has id (ids_of is) ≡ true
segment-here is id [] a c d = absurd (true≢false (sym a))
segment-here is id (s ∷ ss) a c d = go (or_cases (names_segment id s) (list_any (names_segment id) ss) a) (segment-here is id ss)
  where
    firsts : (has s.start (ids_of is) ≡ true) × (list_all (λ p. has p.start (ids_of is)) (map begun ss) ≡ true)
    firsts = and_parts (has s.start (ids_of is)) (list_all (λ p. has p.start (ids_of is)) (map begun ss)) c

    reads : (are_here is s.piece.readings.items ≡ true) × (list_all (λ p. are_here is p.readings) (map begun ss) ≡ true)
    reads = and_parts (are_here is s.piece.readings.items) (list_all (λ p. are_here is p.readings) (map begun ss)) d

    by : (nat_eq s.start id ≡ true) ⊎ (reads_in id s.piece.readings.items ≡ true) → has id (ids_of is) ≡ true
    by (inl q) = ap (λ n. has n (ids_of is)) (sym (eqb-true s.start id q)) ∙ firsts.0
    by (inr q) = reading-here is id s.piece.readings.items q reads.0

    go : (names_segment id s ≡ true) ⊎ (list_any (names_segment id) ss ≡ true)
        → (list_any (names_segment id) ss ≡ true → list_all (λ p. has p.start (ids_of is)) (map begun ss) ≡ true → list_all (λ p. are_here is p.readings) (map begun ss) ≡ true → has id (ids_of is) ≡ true) → has id (ids_of is) ≡ true
    go (inl q) ih = by (or_cases (nat_eq s.start id) (reads_in id s.piece.readings.items) q)
    go (inr q) ih = ih q firsts.1 reads.1

cell-here : (is : List Instr) (id : ℕ) (c : Cell) → names_cell id c ≡ true → begins_here is (seen_cell c) ≡ true → reads_here is (seen_cell c) ≡ true → has id (ids_of is) ≡ true
cell-here is id c named begins reads = go (or_cases (reads_in id c.first.readings.items) (list_any (names_segment id) c.segments.items) named)
  where
    parts : (are_here is c.first.readings.items ≡ true) × (list_all (λ p. are_here is p.readings) (map begun c.segments.items) ≡ true)
    parts = and_parts (are_here is c.first.readings.items) (list_all (λ p. are_here is p.readings) (map begun c.segments.items)) reads

    go : (reads_in id c.first.readings.items ≡ true) ⊎ (list_any (names_segment id) c.segments.items ≡ true) → has id (ids_of is) ≡ true
    go (inl q) = reading-here is id c.first.readings.items q parts.0
    go (inr q) = segment-here is id c.segments.items q begins parts.1

seen-there : (rows : List LaneRange) (l k : ℕ) (c : Cell) → find_cell k (cells_of rows l) ≡ Some c → rows_seen rows l k ≡ seen_cell c
seen-there rows l k c h = go (slice_get rows l) h
  where
    none : (k : ℕ) → find_cell k [] ≡ Some c → unseen ≡ seen_cell c
    none k e = absurd (let z : None ≡ Some c = e in cc)

    go : (o : Option LaneRange) → find_cell k (elim o [ None ↦ [] | Some r ↦ r.cells.items ]) ≡ Some c → elim o [ None ↦ unseen | Some r ↦ seen_in r.cells.items k ] ≡ seen_cell c
    go None h = none k h
    go (Some r) h = ap seen h

module _ (m : Matrix) (v : ℕ) (finds : FindsPlaces m.live.target m.live.func m.live.table v) (points : FindsPoints m) where
  -- a lane that an instruction names has a cell in its block
  named-cell : (k : ℕ) (b : Block) (i : Instr) → slice_get m.live.func.blocks k ≡ Some b → Among i b.instrs → (l : ℕ) → names_lane i.id m.live.table.rows.rows.items l ≡ true → is_cell (find_cell k (cells_of m.live.table.rows.rows.items l)) ≡ true
  named-cell k b i at w l h = in-cell (any-at (names_cell i.id) cells h)
    where
      cells : List Cell
      cells = cells_of m.live.table.rows.rows.items l

      in-block : (c : Cell) → find_cell c.block cells ≡ Some c → names_cell i.id c ≡ true → ((d : Block) × (slice_get m.live.func.blocks c.block ≡ Some d)) → is_cell (find_cell k cells) ≡ true
      in-block c found named (d, got) =
          let is-seen : rows_seen m.live.table.rows.rows.items l c.block ≡ seen_cell c = seen-there m.live.table.rows.rows.items l c.block c found in
          let begins : begins_here d.instrs (seen_cell c) ≡ true = ap (begins_here d.instrs) (sym is-seen) ∙ points.begun l c.block d got in
          let reads : reads_here d.instrs (seen_cell c) ≡ true = ap (reads_here d.instrs) (sym is-seen) ∙ points.read l c.block d got in
          let stands = cell-here d.instrs i.id c named begins reads in
          let home : c.block ≡ k = sym (finds.instrs.homes c.block d i.id got stands) ∙ finds.instrs.homes k b i.id at (has-among i b.instrs w) in
          ap is_cell (ap (λ n. find_cell n cells) (sym home) ∙ found)

      in-cell : ((j : ℕ) × (c : Cell) × (slice_get cells j ≡ Some c) × (names_cell i.id c ≡ true)) → is_cell (find_cell k cells) ≡ true
      in-cell (j, c, got, named) =
          in-block c (is-found cells j c (points.apart l) got) named
          (get-there m.live.func.blocks c.block (ltb-true c.block (length m.live.func.blocks) (all-got (λ (d : Cell). nat_lt d.block (length m.live.func.blocks)) cells j c (points.placed l) got)))

  module _ (ids : List ℕ) (are : AreTouched m.live.table v ids) (k : ℕ) (b : Block) (at : slice_get m.live.func.blocks k ≡ Some b) (none : is_in_block m.live.table v k ≡ false) where
    untouched : (i : Instr) → Among i b.instrs → touches v i ≡ false
    untouched i w = go (touches v i) refl
      where
        not-named : names_range m.live.table v i.id ≡ false
        not-named = no-lane m.live.table v (names_lane i.id m.live.table.rows.rows.items) (λ l. is_cell (find_cell k (cells_of m.live.table.rows.rows.items l)))
            (λ l h. by_name l (names_lane i.id m.live.table.rows.rows.items l) refl h) none
          where
            by_name : (l : ℕ) (c : Bool) → names_lane i.id m.live.table.rows.rows.items l ≡ c → is_cell (find_cell k (cells_of m.live.table.rows.rows.items l)) ≡ false → names_lane i.id m.live.table.rows.rows.items l ≡ false
            by_name l false e h = e
            by_name l true e h = absurd (true≢false (sym (named-cell k b i at w l e) ∙ h))

        go : (c : Bool) → touches v i ≡ c → touches v i ≡ false
        go false e = e
        go true e = absurd (true≢false (sym (ap (has i.id) (finds.touched ids are) ∙ touching-found m.live.func v k b i at w e) ∙ (are.named i.id ∙ not-named)))

    sum-none : (is : List Instr) → ((i : Instr) → Among i is → touches v i ≡ false) → sum_by (naming v) is ≡ 0
    sum-none [] h = refl
    sum-none (i ∷ is) h =
        let a = sum_by-cons (naming v) i is in
        let e = naming-none v i (h i here) in
        let r = sum-none is (λ j w. h j (there w)) in omega (arith, a, e, r)

    pub unused : sum_by (naming v) b.instrs ≡ 0
    unused = sum-none b.instrs untouched
