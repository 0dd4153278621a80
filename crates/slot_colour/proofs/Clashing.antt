-- Over a computed table the clash of two slots by the table is their clash by points.
use Rattle.std.proofs.Common.{◌≡◌, ◌⊎◌, ◌<◌, ◌+◌, ◌-◌, ℕ, suc, Bool, true, false, cond, List, [], ◌∷◌, ◌++◌, Option, Some, None, flat_map, take, drop, inl, inr, refl, sym, ap, ◌∙◌, subst, arith}
use Rattle.std.specs.Prelude.{nat_lt, slice_get}
use Rattle.std.specs.List.{list_any}
use Rattle.std.specs.Ordering.{nat_cmp}
use Rattle.std.specs.BTreeMap.{get}
use Rattle.std.proofs.lemmas.Bool.{lt-ltb, ltb-true}
use Rattle.target_base.specs.declared.types.Target.{Target}
use Rattle.meaning.specs.declared.types.Lane.TheVariants.{SlotLane}
use Rattle.meaning.specs.Live.{Among as Member}
use Rattle.mir_func.specs.declared.func.Block.{Block}
use Rattle.mir_func.specs.declared.func.Instr.{Instr}
use Rattle.mir_func.specs.Value.{Function}
use Rattle.mir_meaning.specs.Points.{Point, Start, Entry, Exit, block_points}
use Rattle.mir_meaning.specs.Registers.{numbers}
use Rattle.mir_meaning.specs.Rules.{V8}
use Rattle.mir_meaning.specs.Paths.{Step, Code, steps_of, writing_of, is_written, Live}
use Rattle.mir_meaning.specs.Paths as law
use Rattle.instr_effects.specs.declared.row.LaneSpan.{LaneSpan}
use Rattle.instr_effects.specs.Numbers.{row_number_in}
use Rattle.instr_effects.specs.Numbered.{number_in}
use Rattle.instr_effects.specs.Steps.{Numbering}
use Rattle.instr_effects.proofs.Members.{flat-of, flat-in, map-of, map-in, member-none}
use Rattle.live_lanes.specs.declared.ask.extent.Extent.{Extent}
use Rattle.live_lanes.specs.declared.row.Cell.{Cell}
use Rattle.live_lanes.specs.declared.table.Table.{Table}
use Rattle.live_lanes.specs.Graph.{IsGrown}
use Rattle.live_lanes.specs.Table.{Numbers, find_cell, entry_rank, exit_rank}
use Rattle.live_lanes.specs.Entered.{rows_seen, cells_of, causes, IsTableOf}
use Rattle.live_lanes.specs.Ends.{AreEnds}
use Rattle.live_lanes.specs.Doing.{IsComputed}
use Rattle.live_lanes.specs.Extents.{cell_extents, stretch_of, some_extents, extents_in}
use Rattle.live_lanes.specs.Held.{held_at}
use Rattle.live_lanes.specs.Occupied.{writes_early, TellsHeld}
use Rattle.live_lanes.specs.Paths as table
use Rattle.live_lanes.proofs.Cells.{found-block}
use Rattle.live_lanes.proofs.Occupied.{held-law}
use Rattle.live_laws.specs.Effects.Coded.{instr_step, numbered_code, spot_in, KeepsRules, IsNumbered}
use Rattle.live_laws.specs.Exact.Same.{IsQuiet}
use Rattle.live_laws.proofs.Effects.Blocks.{slice-member}
use Rattle.live_laws.proofs.Effects.Lists.{any-in}
use Rattle.live_laws.proofs.Effects.Shapes.{numbers-in}
use Rattle.live_laws.proofs.Exact.Coded.{code-same}
use Rattle.live_laws.proofs.Exact.Everywhere.{spot-at}
use Rattle.live_laws.proofs.Exact.Inside as inside
use Rattle.live_laws.proofs.Exact.Same.{same-forth, same-back}
use Rattle.live_laws.proofs.Exact.Spots.{Spot}
use Rattle.point_laws.specs.Covered.{rank_of}
use Rattle.point_laws.proofs.Cells.{cell-found, found-member}
use Rattle.point_laws.proofs.Pieces.{any-of}
use Rattle.point_laws.proofs.Points.{Placed, placed, held-extent, common, met-of, met-in, number-of, points-of}
use Rattle.interference.specs.Clashes.{Points, cell_points}
use Rattle.slot_colour.specs.Clashes.{SlotPoint, SlotsClash, ClashLaw, lanes_in, slot_lanes, is_met_at, do_meet, is_clash}
use Rattle.slot_colour.proofs.Numbered.{IsNumber, start-forth, start-back, entry-forth, entry-back, exit-forth, exit-back}

-- the numbers of the lanes of a slot

numbered-some : (own : Option LaneSpan) (k n : ℕ) → row_number_in own k ≡ Some n → Member n (lanes_in own)
numbered-some None k n e = absurd (cc)
numbered-some (Some own) k n e = go (nat_lt k own.count) refl e
  where
    go : (u : Bool) → nat_lt k own.count ≡ u → cond {A = Option ℕ} u (Some (own.first + k)) None ≡ Some n → Member n (numbers own.first own.count)
    go true g h = let same : own.first + k ≡ n = cc in let lt = ltb-true k own.count g in subst (λ m. Member m (numbers own.first own.count)) same (numbers-in (own.first + k) own.first own.count (omega arith) (omega (arith, lt)))
    go false g h = absurd (cc)

some-numbered : (own : Option LaneSpan) (test : ℕ → Bool) → list_any test (lanes_in own) ≡ true → (n : ℕ) × (k : ℕ) × (row_number_in own k ≡ Some n) × (test n ≡ true)
some-numbered None test e = absurd (cc)
some-numbered (Some own) test e =
    let z = number-of test own.first own.count e in
    let lo = z.1 in
    let hi = z.2 in
    let k : ℕ = z.0 - own.first in
    let same : own.first + k ≡ z.0 = omega (arith, lo) in
    let lt : k < own.count = omega (arith, lo, hi) in
    (z.0, k, ap (λ u. cond {A = Option ℕ} u (Some (own.first + k)) None) (lt-ltb k own.count lt) ∙ ap Some same, z.3)

module _ (x : Table) where
  abbrev slots : Numbers
  slots = x.order.slots

  number-member : (s n : ℕ) → IsNumber (number_in x.lanes) s n → Member n (slot_lanes x s)
  number-member s n z = numbered-some (get nat_cmp x.lanes.slots s) z.0 n z.1

  any-number : (s : ℕ) (test : ℕ → Bool) → list_any test (slot_lanes x s) ≡ true → (n : ℕ) × IsNumber (number_in x.lanes) s n × (test n ≡ true)
  any-number s test e = let z = some-numbered (get nat_cmp x.lanes.slots s) test e in (z.0, (z.1, z.2), z.3)

  -- the points of a lane are those of its extents

  abbrev point_of : ℕ → ℕ → Extent → Points
  point_of other p e = record { unit = other; block = p; at = stretch_of slots e }

  abbrev lane_at : ℕ → List Cell
  lane_at one = cells_of x.rows.rows.items one

  extent-of : (other one : ℕ) (s : Points) → Member s (flat_map (cell_points slots other) (lane_at one)) → (p : ℕ) × (e : Extent) × Member e (extents_in x one p) × (s ≡ point_of other p e)
  extent-of other one s m =
      let c = flat-of (cell_points slots other) s (lane_at one) m in
      let e = map-of (point_of other c.0.block) s (cell_extents c.0) c.2 in
      (c.0.block, e.0, subst (λ o. Member e.0 (some_extents o)) (sym (cell-found x.rows.rows.items one c.0 c.1)) e.1, e.2)

  extent-in : (other one p : ℕ) (e : Extent) → Member e (extents_in x one p) → Member (point_of other p e) (flat_map (cell_points slots other) (lane_at one))
  extent-in other one p e m = go (find_cell p (lane_at one)) refl m
    where
      go : (o : Option Cell) → find_cell p (lane_at one) ≡ o → Member e (some_extents o) → Member (point_of other p e) (flat_map (cell_points slots other) (lane_at one))
      go None f j = absurd (member-none e j)
      go (Some c) f j =
          let here : c.block ≡ p = found-block p (lane_at one) c f in
          flat-in (cell_points slots other) (point_of other p e) c (lane_at one) (found-member p (lane_at one) c f)
          (subst (λ q. Member (point_of other q e) (cell_points slots other c)) here (map-in (point_of other c.block) e (cell_extents c) j))

module _ (t : Target) (f : Function) (x : Table) (computed : IsComputed t f x) (rules : KeepsRules t f) (last : (b : Block) (j : ℕ) (i : Instr) → Member b f.blocks → slice_get b.instrs j ≡ Some i → V8 t b j i ≡ true) where
  abbrev num : Numbering
  num = number_in x.lanes

  abbrev code : Code
  code = numbered_code t f num

  numbered : IsNumbered t f num
  numbered = inside.numbered t f x computed rules last

  quiet : IsQuiet code
  quiet = inside.quiet t f x computed rules last

  told : TellsHeld code x.order.slots x.rows.rows.items
  told = held-law code x.order.slots x.flow.items x.rows.rows.items
      (subst (λ c. IsTableOf c x.order.slots x.flow.items x.rows.rows.items) (code-same t f num rules) (computed.table (inside.all t f x computed rules last)))
      (subst (λ c. IsGrown c (causes x.rows.rows.items)) (code-same t f num rules) (computed.grown (inside.all t f x computed rules last)))
      (subst (λ c. AreEnds c x.order.slots x.rows.rows.items) (code-same t f num rules) (computed.ended (inside.all t f x computed rules last)))

  abbrev held : ℕ → ℕ → ℕ → Bool
  held n p at = held_at x.order.slots (rows_seen x.rows.rows.items n p) at

  -- A slot has a point exactly where one of its lanes is held there.
  abbrev AtPoint : ℕ → ℕ → Point → Type 0
  AtPoint s p q =
      (SlotPoint t f s q → (n : ℕ) × IsNumber num s n × (held n p (rank_of x.order.slots q) ≡ true))
      × ((n : ℕ) → IsNumber num s n → held n p (rank_of x.order.slots q) ≡ true → SlotPoint t f s q)

  at-start : (s p : ℕ) (b : Block) → slice_get f.blocks p ≡ Some b → AtPoint s p (Start b.number)
  at-start s p b place = (
    (λ h. let z = start-forth t f num rules numbered p b place s h in (z.0, z.1, (told.start z.0 p).1 (same-forth code quiet z.2 ([], refl)))),
    (λ n z h. start-back t f num rules numbered p b place s n z (same-back code quiet ((told.start n p).0 h))),
  )

  module _ (s id p j : ℕ) (at : spot_in id f.blocks ≡ Some (p, j)) where
    abbrev spot : Spot t f id f.blocks p j
    spot = inside.s t f x computed rules last id p j at

    abbrev step : Step
    step = instr_step t f num spot.instr

    abbrev before : List Step
    before = take j (steps_of code p)

    abbrev rest : List Step
    rest = drop (suc j) (steps_of code p)

    split : steps_of code p ≡ before ++ step ∷ rest
    split = inside.split t f x computed rules last id p j at

    -- the paths of the table and those of the code are the same

    there : (n : ℕ) → Live code p (law.Entry (step ∷ rest)) n ⊎ (writes_early (writing_of n step.writes) ≡ true) → table.Live code p (law.Entry (step ∷ rest)) n ⊎ (writes_early (writing_of n step.writes) ≡ true)
    there n (inl h) = inl (same-forth code quiet h (before, split))
    there n (inr e) = inr e

    there-back : (n : ℕ) → table.Live code p (law.Entry (step ∷ rest)) n ⊎ (writes_early (writing_of n step.writes) ≡ true) → Live code p (law.Entry (step ∷ rest)) n ⊎ (writes_early (writing_of n step.writes) ≡ true)
    there-back n (inl h) = inl (same-back code quiet h)
    there-back n (inr e) = inr e

    behind : (n : ℕ) → Live code p (law.Exit step rest) n ⊎ (is_written n step ≡ true) → table.Live code p (law.Exit step rest) n ⊎ (is_written n step ≡ true)
    behind n (inl h) = inl (same-forth code quiet h (before, split))
    behind n (inr e) = inr e

    behind-back : (n : ℕ) → table.Live code p (law.Exit step rest) n ⊎ (is_written n step ≡ true) → Live code p (law.Exit step rest) n ⊎ (is_written n step ≡ true)
    behind-back n (inl h) = inl (same-back code quiet h)
    behind-back n (inr e) = inr e

    at-entry : AtPoint s p (Entry id)
    at-entry = (
      (λ h. let z = entry-forth t f num rules numbered id p j spot s h in (z.0, z.1, subst (λ i. held z.0 p (entry_rank x.order.slots i) ≡ true) spot.named ((told.entry z.0 p before step rest split).1 (there z.0 z.2)))),
      (λ n z h. entry-back t f num rules numbered id p j spot s n z (there-back n ((told.entry n p before step rest split).0 (subst (λ i. held n p (entry_rank x.order.slots i) ≡ true) (sym spot.named) h)))),
    )

    at-exit : AtPoint s p (Exit id)
    at-exit = (
      (λ h. let z = exit-forth t f num rules numbered id p j spot s h in (z.0, z.1, subst (λ i. held z.0 p (exit_rank x.order.slots i) ≡ true) spot.named ((told.exit z.0 p before step rest split).1 (behind z.0 z.2)))),
      (λ n z h. exit-back t f num rules numbered id p j spot s n z (behind-back n ((told.exit n p before step rest split).0 (subst (λ i. held n p (exit_rank x.order.slots i) ≡ true) (sym spot.named) h)))),
    )

  -- at each point of a block
  at-point : (s p : ℕ) (b : Block) → slice_get f.blocks p ≡ Some b → (q : Point) → Member q (block_points b) → AtPoint s p q
  at-point s p b place q m = points-of b (AtPoint s p) (at-start s p b place) around q m
    where
      around : (i : Instr) → Member i b.instrs → AtPoint s p (Entry i.id) × AtPoint s p (Exit i.id)
      around i k = let z = spot-at t f x computed rules last p b i place k in (at-entry s i.id p z.0 z.1, at-exit s i.id p z.0 z.1)

  -- what the table calls a clash is one
  clash-forth : (s r : ℕ) → is_clash x s r ≡ true → SlotsClash t f s r
  clash-forth s r h =
      let one = any-number x s (λ n. list_any (do_meet x n) (slot_lanes x r)) h in
      let other = any-number x r (do_meet x one.0) one.2 in
      let y = any-of (is_met_at x other.0) (flat_map (cell_points x.order.slots other.0) (cells_of x.rows.rows.items one.0)) other.2 in
      let e = extent-of x other.0 one.0 y.1 (slice-member (flat_map (cell_points x.order.slots other.0) (cells_of x.rows.rows.items one.0)) y.0 y.1 y.2) in
      let met : is_met_at x other.0 (point_of x other.0 e.0 e.1) ≡ true = ap (is_met_at x other.0) (sym e.3) ∙ y.3 in
      let at = met-of t f x computed rules last other.0 e.0 (stretch_of x.order.slots e.1) met in
      let d = held-extent t f x computed rules last other.0 e.0 at.0 at.2 in
      let w = common t f x computed rules last one.0 other.0 e.0 at.0 e.1 d.0 e.2 d.1 at.1 d.2 in
      (w.point, (at-point s e.0 w.block w.at w.point w.member).1 one.0 one.1 w.one, (at-point r e.0 w.block w.at w.point w.member).1 other.0 other.1 w.other)

  -- and the table calls each clash one
  clash-back : (s r : ℕ) → SlotsClash t f s r → is_clash x s r ≡ true
  clash-back s r (q, h, g) =
      let z : Placed f q = placed t f x computed rules last (SlotLane s h.0 h.1) q h.2 in
      let one = (at-point s z.position z.block z.at q z.member).0 h in
      let other = (at-point r z.position z.block z.at q z.member).0 g in
      let e = held-extent t f x computed rules last one.0 z.position (rank_of x.order.slots q) one.2 in
      let met = met-in t f x computed rules last other.0 z.position (stretch_of x.order.slots e.0) (rank_of x.order.slots q) e.2 other.2 in
      let meets : do_meet x one.0 other.0 ≡ true = any-in (is_met_at x other.0) (point_of x other.0 z.position e.0) (flat_map (cell_points x.order.slots other.0) (cells_of x.rows.rows.items one.0)) (extent-in x other.0 one.0 z.position e.0 e.1) met in
      any-in (λ n. list_any (do_meet x n) (slot_lanes x r)) one.0 (slot_lanes x s) (number-member x s one.0 one.1) (any-in (do_meet x one.0) other.0 (slot_lanes x r) (number-member x r other.0 other.1) meets)

pub clash-law : ClashLaw
clash-law t f x computed rules last s r = (clash-forth t f x computed rules last s r, clash-back t f x computed rules last s r)
