-- What a span tells of its block as offers ask it, and what a block without one tells.
use Rattle.std.proofs.Common.{◌≡◌, ◌∙◌, ◌⊎◌, inl, inr, ℕ, zero, suc, ◌+◌, ◌*◌, ◌-◌, ◌<◌, ◌≤◌, List, [], ◌∷◌, ◌++◌, Bool, true, false, cond, refl, sym, ap, subst, length, arith, map, filter, Option, None, Some}
use Rattle.std.specs.Prelude.{◌||◌, ◌&&◌, not, slice_get, slice_index, slice_index_or, flat_map, nat_eq, nat_le, nat_lt, count_by}
use Rattle.std.specs.List.{list_any, list_all, sum_by}
use Rattle.std.specs.List.Sorted.{IsStrictlySortedBy}
use Rattle.std.specs.Ordering.{nat_cmp}
use Rattle.std.proofs.lemmas.Bool.{or_parts, or_left, or_right, or_cases, or_from, and_parts, and_from, eqb-true, eq-eqb, ne_eqb, le-leb, ltb-true, true≢false}
use Rattle.std.proofs.lemmas.List.Sums.{sum_by-cons}
use Rattle.meaning.specs.Live.{Among, here, there}
use Rattle.instr_effects.specs.declared.row.LaneSpan.{LaneSpan}
use Rattle.mir_func.specs.declared.func.Instr.{Instr}
use Rattle.mir_func.specs.declared.func.Block.{Block}
use Rattle.mir_func.specs.Binding.{does, is_terminator}
use Rattle.block_freq.specs.Weights.{naming}
use Rattle.mir_meaning.specs.Points.{Point, Start, Entry, Exit, block_points}
use Rattle.live_lanes.specs.declared.ask.extent.Stretch.{Stretch}
use Rattle.live_lanes.specs.declared.row.Cell.{Cell}
use Rattle.live_lanes.specs.declared.row.LaneRange.{LaneRange}
use Rattle.live_lanes.specs.declared.table.Table.{Table}
use Rattle.live_lanes.specs.Table.{Numbers, Seen, unseen, seen, seen_in, find_cell, cause_in, entry_rank, exit_rank}
use Rattle.live_lanes.specs.Reach.{seen_at}
use Rattle.live_lanes.specs.Graph.{is_live}
use Rattle.live_lanes.specs.Entered.{causes, cells_of, rows_seen}
use Rattle.live_lanes.specs.Ordered.{place_of, ids_of}
use Rattle.mir_meaning.specs.Paths.{has}
use Rattle.live_lanes.specs.Held.{held_at}
use Rattle.live_lanes.specs.Looks.{exit_at}
use Rattle.live_lanes.specs.Extents.{is_met_in}
use Rattle.live_lanes.specs.Touching.{some_lane, some_of, some_below, leaves_last, leaves_block}
use Rattle.interference.specs.declared.matrix.Matrix.{Matrix}
use Rattle.split_choose.specs.declared.spans.Span.{Span}
use Rattle.split_choose.specs.Offers.{end_point}
use Rattle.split_choose.specs.Regions.{capped}
use Rattle.split_choose.specs.Seen.{FindsPlaces, FindsPoints, view_of, seen_live, seen_point, at_home, only}
use Rattle.split_choose.specs.Spanned.{is_covered, is_rank_in, begins_at_point, IsSpan, HasSpan, is_cell, is_in_block, AreSpansOf}
use Rattle.split_choose.proofs.Covers.{only-held}
use Rattle.split_choose.proofs.Bordering.{at-start, at-end}
use Rattle.split_choose.proofs.Placed.{has-at}
use Rattle.split_choose.proofs.Walks.{all_at}
use Rattle.split_choose.proofs.Telling.{IsTold, IsUntold}
use Rattle.split_choose.proofs.Along.{Along}

-- lanes

below-none : (p q : ℕ → Bool) → ((l : ℕ) → q l ≡ false → p l ≡ false) → (first n : ℕ) → some_below q first n ≡ false → some_below p first n ≡ false
below-none p q w first zero h = refl
below-none p q w first (suc n) h =
    let a = or_parts (q (first + n)) (some_below q first n) h in
    or_from (p (first + n)) (some_below p first n) (w (first + n) a.0) (below-none p q w first n a.1)

pub no-lane : (x : Table) (v : ℕ) (p q : ℕ → Bool) → ((l : ℕ) → q l ≡ false → p l ≡ false) → some_lane x v q ≡ false → some_lane x v p ≡ false
no-lane x v p q w h = go (slice_get x.lanes.ranges.items v) h
  where
    go : (o : Option LaneSpan) → some_of q o ≡ false → some_of p o ≡ false
    go None a = refl
    go (Some own) a = below-none p q w own.first own.count a

below-same : (p q : ℕ → Bool) → ((l : ℕ) → p l ≡ q l) → (first n : ℕ) → some_below p first n ≡ some_below q first n
below-same p q w first zero = refl
below-same p q w first (suc n) = ap (λ b. b || some_below p first n) (w (first + n)) ∙ ap (λ b. q (first + n) || b) (below-same p q w first n)

pub same-lanes : (x : Table) (v : ℕ) (p q : ℕ → Bool) → ((l : ℕ) → p l ≡ q l) → some_lane x v p ≡ some_lane x v q
same-lanes x v p q w = go (slice_get x.lanes.ranges.items v)
  where
    go : (o : Option LaneSpan) → some_of p o ≡ some_of q o
    go None = refl
    go (Some own) = below-same p q w own.first own.count

-- where a lane has no cell, nothing is seen of it
pub nothing-seen : (rows : List LaneRange) (l k : ℕ) → is_cell (find_cell k (cells_of rows l)) ≡ false → rows_seen rows l k ≡ unseen
nothing-seen rows l k h = go (slice_get rows l) h
  where
    in-row : (o : Option Cell) → is_cell o ≡ false → seen o ≡ unseen
    in-row None h = refl
    in-row (Some c) h = absurd (true≢false h)

    go : (o : Option LaneRange) → is_cell (find_cell k (elim o [ None ↦ [] | Some r ↦ r.cells.items ])) ≡ false → elim o [ None ↦ unseen | Some r ↦ seen_in r.cells.items k ] ≡ unseen
    go None h = refl
    go (Some r) h = in-row (find_cell k r.cells.items) h

-- the points of a block by their ranks

abbrev pub any_rank : Numbers → (ℕ → Bool) → List Instr → Bool
any_rank slots h is = h 0 || list_any (λ i. h (entry_rank slots i.id) || h (exit_rank slots i.id)) is

module _ (slots : Numbers) where
  ranks-none : (h : ℕ → Bool) → ((at : ℕ) → h at ≡ false) → (is : List Instr) → list_any (λ i. h (entry_rank slots i.id) || h (exit_rank slots i.id)) is ≡ false
  ranks-none h none [] = refl
  ranks-none h none (i ∷ is) =
      or_from (h (entry_rank slots i.id) || h (exit_rank slots i.id)) (list_any (λ (j : Instr). h (entry_rank slots j.id) || h (exit_rank slots j.id)) is)
      (or_from (h (entry_rank slots i.id)) (h (exit_rank slots i.id)) (none (entry_rank slots i.id)) (none (exit_rank slots i.id))) (ranks-none h none is)

  no-rank : (h : ℕ → Bool) → ((at : ℕ) → h at ≡ false) → (is : List Instr) → any_rank slots h is ≡ false
  no-rank h none is = or_from (h 0) (list_any (λ (i : Instr). h (entry_rank slots i.id) || h (exit_rank slots i.id)) is) (none 0) (ranks-none h none is)

  at-rank : (h : ℕ → Bool) (at : ℕ) → h at ≡ true → (r : ℕ) → nat_eq at r ≡ true → h r ≡ true
  at-rank h at t r e = ap h (sym (eqb-true at r e)) ∙ t

  some-instr : (h : ℕ → Bool) (at : ℕ) → h at ≡ true → (is : List Instr) → list_any (λ i. nat_eq at (entry_rank slots i.id) || nat_eq at (exit_rank slots i.id)) is ≡ true
      → list_any (λ i. h (entry_rank slots i.id) || h (exit_rank slots i.id)) is ≡ true
  some-instr h at t [] e = absurd (true≢false (sym e))
  some-instr h at t (i ∷ is) e =
      go (or_cases (nat_eq at (entry_rank slots i.id) || nat_eq at (exit_rank slots i.id)) (list_any (λ (j : Instr). nat_eq at (entry_rank slots j.id) || nat_eq at (exit_rank slots j.id)) is) e) (some-instr h at t is)
    where
      rest : Bool
      rest = list_any (λ j. h (entry_rank slots j.id) || h (exit_rank slots j.id)) is

      here-at : (nat_eq at (entry_rank slots i.id) ≡ true) ⊎ (nat_eq at (exit_rank slots i.id) ≡ true) → (h (entry_rank slots i.id) || h (exit_rank slots i.id)) ≡ true
      here-at (inl q) = or_left (h (entry_rank slots i.id)) (h (exit_rank slots i.id)) (at-rank h at t (entry_rank slots i.id) q)
      here-at (inr q) = or_right (h (entry_rank slots i.id)) (h (exit_rank slots i.id)) (at-rank h at t (exit_rank slots i.id) q)

      go : ((nat_eq at (entry_rank slots i.id) || nat_eq at (exit_rank slots i.id)) ≡ true) ⊎ (list_any (λ j. nat_eq at (entry_rank slots j.id) || nat_eq at (exit_rank slots j.id)) is ≡ true)
          → (list_any (λ j. nat_eq at (entry_rank slots j.id) || nat_eq at (exit_rank slots j.id)) is ≡ true → list_any (λ j. h (entry_rank slots j.id) || h (exit_rank slots j.id)) is ≡ true)
          → ((h (entry_rank slots i.id) || h (exit_rank slots i.id)) || list_any (λ j. h (entry_rank slots j.id) || h (exit_rank slots j.id)) is) ≡ true
      go (inl q) ih = or_left (h (entry_rank slots i.id) || h (exit_rank slots i.id)) (list_any (λ (j : Instr). h (entry_rank slots j.id) || h (exit_rank slots j.id)) is)
          (here-at (or_cases (nat_eq at (entry_rank slots i.id)) (nat_eq at (exit_rank slots i.id)) q))
      go (inr q) ih = or_right (h (entry_rank slots i.id) || h (exit_rank slots i.id)) (list_any (λ (j : Instr). h (entry_rank slots j.id) || h (exit_rank slots j.id)) is) (ih q)

  some-rank : (h : ℕ → Bool) (at : ℕ) → h at ≡ true → (is : List Instr) → is_rank_in slots is at ≡ true → any_rank slots h is ≡ true
  some-rank h at t is e = go (or_cases (nat_eq at 0) (list_any (λ (i : Instr). nat_eq at (entry_rank slots i.id) || nat_eq at (exit_rank slots i.id)) is) e)
    where
      go : (nat_eq at 0 ≡ true) ⊎ (list_any (λ i. nat_eq at (entry_rank slots i.id) || nat_eq at (exit_rank slots i.id)) is ≡ true) → any_rank slots h is ≡ true
      go (inl q) = or_left (h 0) (list_any (λ (i : Instr). h (entry_rank slots i.id) || h (exit_rank slots i.id)) is) (at-rank h at t 0 q)
      go (inr q) = or_right (h 0) (list_any (λ (i : Instr). h (entry_rank slots i.id) || h (exit_rank slots i.id)) is) (some-instr h at t is q)

  instrs-same : (h g : ℕ → Bool) → ((at : ℕ) → h at ≡ g at) → (is : List Instr) → list_any (λ i. h (entry_rank slots i.id) || h (exit_rank slots i.id)) is ≡ list_any (λ i. g (entry_rank slots i.id) || g (exit_rank slots i.id)) is
  instrs-same h g same [] = refl
  instrs-same h g same (i ∷ is) =
      let rest = list_any (λ (j : Instr). h (entry_rank slots j.id) || h (exit_rank slots j.id)) is in
      ap (λ b. (b || h (exit_rank slots i.id)) || rest) (same (entry_rank slots i.id)) ∙ (ap (λ b. (g (entry_rank slots i.id) || b) || rest) (same (exit_rank slots i.id))
      ∙ ap (λ b. (g (entry_rank slots i.id) || g (exit_rank slots i.id)) || b) (instrs-same h g same is))

  ranks-same : (h g : ℕ → Bool) → ((at : ℕ) → h at ≡ g at) → (is : List Instr) → any_rank slots h is ≡ any_rank slots g is
  ranks-same h g same is = ap (λ b. b || list_any (λ (i : Instr). h (entry_rank slots i.id) || h (exit_rank slots i.id)) is) (same 0) ∙ ap (λ b. g 0 || b) (instrs-same h g same is)

  -- of stretches that begin at points of the block, some point is covered where there are any
  covers-some : (ss : List Stretch) (is : List Instr) → list_all (λ s. nat_le s.first s.last) ss ≡ true → list_all (begins_at_point slots is) ss ≡ true → nat_eq (length ss) 0 ≡ not (any_rank slots (is_covered ss) is)
  covers-some [] is right begun = sym (ap not (no-rank (is_covered []) (λ at. refl) is))
  covers-some (s ∷ ss) is right begun =
      let first : is_rank_in slots is s.first ≡ true = (and_parts (begins_at_point slots is s) (list_all (begins_at_point slots is) ss) begun).0 in
      let low : nat_le s.first s.first ≡ true = le-leb s.first s.first (omega arith) in
      let high : nat_le s.first s.last ≡ true = (and_parts (nat_le s.first s.last) (list_all (λ (r : Stretch). nat_le r.first r.last) ss) right).0 in
      let covered : is_covered (s ∷ ss) s.first ≡ true = or_left (nat_le s.first s.first && nat_le s.first s.last) (is_covered ss s.first) (and_from (nat_le s.first s.first) (nat_le s.first s.last) low high) in
      ne_eqb (length (s ∷ ss)) 0 (λ e. absurd (omega (arith, e))) ∙ sym (ap not (some-rank (is_covered (s ∷ ss)) s.first covered is first))

pub has-among : (i : Instr) (is : List Instr) → Among i is → has i.id (ids_of is) ≡ true
has-among i [] m = elim m [ ]
has-among i (j ∷ is) here = ap (λ b. cond b true (has i.id (ids_of is))) (eq-eqb i.id i.id refl)
has-among i (j ∷ is) (there m) = go (nat_eq j.id i.id) (has-among i is m)
  where
    go : (b : Bool) → has i.id (ids_of is) ≡ true → cond b true (has i.id (ids_of is)) ≡ true
    go true h = refl
    go false h = h

or-assoc : (a b c : Bool) → ((a || b) || c) ≡ (a || (b || c))
or-assoc true b c = refl
or-assoc false b c = refl

module _ (m : Matrix) (v : ℕ) (parents freqs : List ℕ) (finds : FindsPlaces m.live.target m.live.func m.live.table v) where
  abbrev x : Table
  x = m.live.table

  abbrev slots : Numbers
  slots = m.live.table.order.slots

  -- some lane of the range is live or occupied at the rank in the block at a position
  abbrev held : ℕ → ℕ → Bool
  held k at = some_lane m.live.table v (λ l. held_at m.live.table.order.slots (rows_seen m.live.table.rows.rows.items l k) at)

  module _ (k : ℕ) (b : Block) (at : slice_get m.live.func.blocks k ≡ Some b) where
    start-held : seen_point m.live.table m.live.func.blocks v (Start b.number) ≡ held k 0
    start-held = ap (at_home (λ c. some_lane m.live.table v (λ l. held_at m.live.table.order.slots (rows_seen m.live.table.rows.rows.items l c) 0))) (finds.placed k b at)

    home : (i : Instr) → Among i b.instrs → slice_index m.live.table.order.block_of.items i.id ≡ k
    home i m = finds.instrs.homes k b i.id at (has-among i b.instrs m)

    entry-held : (i : Instr) → Among i b.instrs → seen_point m.live.table m.live.func.blocks v (Entry i.id) ≡ held k (entry_rank slots i.id)
    entry-held i w = ap (λ c. held c (entry_rank slots i.id)) (home i w)

    exit-held : (i : Instr) → Among i b.instrs → seen_point m.live.table m.live.func.blocks v (Exit i.id) ≡ held k (exit_rank slots i.id)
    exit-held i w = ap (λ c. held c (exit_rank slots i.id)) (home i w)

    instrs-held : (is : List Instr) → ((i : Instr) → Among i is → Among i b.instrs)
        → list_any (seen_point m.live.table m.live.func.blocks v) (flat_map (λ i. Entry i.id ∷ Exit i.id ∷ []) is) ≡ list_any (λ i. held k (entry_rank slots i.id) || held k (exit_rank slots i.id)) is
    instrs-held [] w = refl
    instrs-held (i ∷ is) w =
        let point = seen_point m.live.table m.live.func.blocks v in
        let rest = list_any point (flat_map (λ j. Entry j.id ∷ Exit j.id ∷ []) is) in
        ap (λ c. c || (point (Exit i.id) || rest)) (entry-held i (w i here))
        ∙ (ap (λ c. held k (entry_rank slots i.id) || (c || rest)) (exit-held i (w i here))
        ∙ (sym (or-assoc (held k (entry_rank slots i.id)) (held k (exit_rank slots i.id)) rest)
        ∙ ap (λ c. (held k (entry_rank slots i.id) || held k (exit_rank slots i.id)) || c) (instrs-held is (λ j n. w j (there n)))))

    points-held : list_any (seen_point m.live.table m.live.func.blocks v) (block_points b) ≡ any_rank slots (held k) b.instrs
    points-held =
        ap (λ c. c || list_any (seen_point m.live.table m.live.func.blocks v) (flat_map (λ i. Entry i.id ∷ Exit i.id ∷ []) b.instrs)) start-held
        ∙ ap (λ c. held k 0 || c) (instrs-held b.instrs (λ i w. w))

    module _ (none : is_in_block m.live.table v k ≡ false) where
      -- nothing is told of any lane there
      looks-none : (look : Seen → Bool) → look unseen ≡ false → some_lane m.live.table v (λ l. look (rows_seen m.live.table.rows.rows.items l k)) ≡ false
      looks-none look blank = no-lane m.live.table v (λ l. look (rows_seen m.live.table.rows.rows.items l k)) (λ l. is_cell (find_cell k (cells_of m.live.table.rows.rows.items l)))
          (λ l h. ap look (nothing-seen m.live.table.rows.rows.items l k h) ∙ blank) none

      none-into : some_lane m.live.table v (λ l. is_live (causes m.live.table.rows.rows.items l k 0)) ≡ false
      none-into = looks-none (λ s. is_live (cause_in s 0)) refl

      none-out : (is : List Instr) → b.instrs ≡ is → (o : Option Instr) → slice_get is (length is - 1) ≡ o → leaves_last m.live.table v k o ≡ false
      none-out is e None g = none-into
      none-out is e (Some i) g =
          let there : slice_index m.live.table.order.block_of.items i.id ≡ k = finds.instrs.homes k b i.id at (let P : List Instr → Type 0 = λ js. has i.id (ids_of js) ≡ true in subst P (sym e) (has-at is (length is - 1) i g)) in
          ap (λ c. some_lane m.live.table v (λ l. seen_at m.live.table.order.slots (rows_seen m.live.table.rows.rows.items l c) (exit_rank m.live.table.order.slots i.id))) there
          ∙ looks-none (λ s. seen_at m.live.table.order.slots s (exit_rank m.live.table.order.slots i.id)) refl

      pub untold : sum_by (naming v) b.instrs ≡ 0 → IsUntold m.live.target m.live.func v (view_of m v parents) k b
      untold uses = record {
        at = at;
        live_in = at-start m.live.target m.live.func m.live.table v (view_of m v parents) finds (λ p. refl) b k at ∙ none-into;
        live_out = at-end m.live.target m.live.func m.live.table v (view_of m v parents) finds (λ p. refl) b k at b.instrs refl ∙ none-out b.instrs refl (slice_get b.instrs (length b.instrs - 1)) refl;
        points = points-held ∙ no-rank slots (held k) (λ r. looks-none (λ s. held_at m.live.table.order.slots s r) refl) b.instrs;
        uses = uses;
      }

  module _ (spans : List Span) (are : AreSpansOf m v freqs spans) where
    pub right-at : (s : Span) (ss : List Span) → list_all (λ s. list_all (λ at. nat_le at.first at.last) s.stretches.items) ss ≡ true → Among s ss → list_all (λ at. nat_le at.first at.last) s.stretches.items ≡ true
    right-at s [] h w = elim w [ ]
    right-at s (r ∷ ss) h here = (and_parts (list_all (λ (at : Stretch). nat_le at.first at.last) s.stretches.items) (list_all (λ (q : Span). list_all (λ (at : Stretch). nat_le at.first at.last) q.stretches.items) ss) h).0
    right-at s (r ∷ ss) h (there w) = right-at s ss (and_parts (list_all (λ (at : Stretch). nat_le at.first at.last) r.stretches.items) (list_all (λ (q : Span). list_all (λ (at : Stretch). nat_le at.first at.last) q.stretches.items) ss) h).1 w

    pub told : (s : Span) (w : Among s spans) (b : Block) → slice_get m.live.func.blocks s.position ≡ Some b → IsTold m.live.target m.live.func v (view_of m v parents) freqs spans s.position b s
    told s w b at = go (are.each s w)
      where
        some-same : {Z : Type 0} (y z : Z) → Some y ≡ Some z → y ≡ z
        some-same y z e = cc

        go : IsSpan m v freqs s → IsTold m.live.target m.live.func v (view_of m v parents) freqs spans s.position b s
        go is = record {
          at = at;
          among = w;
          position = refl;
          live_in = is.live_in ∙ sym (at-start m.live.target m.live.func m.live.table v (view_of m v parents) finds (λ p. refl) b s.position at);
          live_out = is.live_out ∙ (ap (leaves_block m.live.table v s.position) (sym is.found ∙ at) ∙ sym (at-end m.live.target m.live.func m.live.table v (view_of m v parents) finds (λ p. refl) b s.position at b.instrs refl));
          points =
              let same : is.block ≡ b = some-same is.block b (sym is.found ∙ at) in
              let begun : list_all (begins_at_point slots b.instrs) s.stretches.items ≡ true = ap (λ (c : Block). list_all (begins_at_point slots c.instrs) s.stretches.items) (sym same) ∙ is.begun in
              covers-some slots s.stretches.items b.instrs (right-at s spans are.stretches w) begun
              ∙ ap not (ranks-same slots (is_covered s.stretches.items) (held s.position) (λ r. is.covered r ∙ same-lanes m.live.table v (λ l. is_met_in slots (rows_seen m.live.table.rows.rows.items l s.position) (only r)) (λ l. held_at slots (rows_seen m.live.table.rows.rows.items l s.position) r)
              (λ l. only-held slots (rows_seen m.live.table.rows.rows.items l s.position) r)) b.instrs ∙ sym (points-held s.position b at));
          frequency = is.frequency;
          uses = let same : is.block ≡ b = some-same is.block b (sym is.found ∙ at) in is.uses ∙ ap (λ (c : Block). capped (s.frequency * sum_by (naming v) c.instrs)) same;
          end_uses = let same : is.block ≡ b = some-same is.block b (sym is.found ∙ at) in is.end_uses ∙ ap (λ (c : Block). capped (s.frequency * sum_by (naming v) (filter (does is_terminator m.live.target) c.instrs))) same;
        }
