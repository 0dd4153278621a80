-- A matrix after edits of its function: its lists hold what ranges then have.
use Rattle.std.proofs.Common.{◌≡◌, ◌∙◌, ◌<◌, ℕ, Bool, true, false, length, List, [], ◌∷◌, Option, None, Some, refl, sym, ap, subst, arith}
use Rattle.std.specs.Prelude.{nat_le, filter, is_some, option_map}
use Rattle.std.proofs.lemmas.List.{length-map}
use Rattle.std.specs.List.{list_any}
use Rattle.mir_meaning.specs.Paths.{Among, here, there}
use Rattle.slot_index.specs.Order.{Has, number_of}
use Rattle.instr_effects.specs.Numbered.{IsTable}
use Rattle.live_lanes.specs.declared.ask.extent.ChangedPiece.{ChangedPiece}
use Rattle.live_lanes.specs.declared.ask.extent.Extent.{Extent}
use Rattle.live_lanes.specs.declared.live.LiveFunc.{LiveFunc}
use Rattle.live_lanes.specs.declared.table.Table.{Table}
use Rattle.live_lanes.specs.Entered.{cells_of, rows_seen}
use Rattle.live_lanes.specs.Extents.{extents_in, some_extents}
use Rattle.live_lanes.specs.Looks.{InOrder}
use Rattle.live_lanes.specs.Table.{Numbers, find_cell, rises_from}
use Rattle.live_lanes.proofs.Basics.{none-among}
use Rattle.live_lanes.proofs.Held.{le-false, or-none}
use Rattle.live_edits.specs.Drafts.{KeepsOrder}
use Rattle.interference.specs.declared.held.HeldList.{HeldList}
use Rattle.interference.specs.declared.held.RangeExtent.{RangeExtent}
use Rattle.interference.specs.declared.matrix.Matrix.{Matrix}
use Rattle.interference.specs.declared.unit_table.UnitTable.{UnitTable}
use Rattle.interference.specs.Changes.{own_of}
use Rattle.interference.specs.Clashes.{AreApart, AreFilled, AreKnown, held_of_some, holds, is_none, list_in, part_of, register_in}
use Rattle.interference.specs.Parts.{parts_of}
use Rattle.interference.specs.SavedLists.{parts_at}
use Rattle.interference.proofs.Parts.{flat, flat-held}
use Rattle.interference.proofs.PutBack.{some-of}
use Rattle.interference.specs.EditedLists.{AreSeparate, HasEnds, HoldsThose, any_extent, whole_at}
use Rattle.interference.specs.EditedMatrix.{StandsClear, StandsKept, TellsHeld}
use Rattle.interference.specs.EditedPieces.{any_piece, whole_by, HoldThose, MayChangeLists}
use Rattle.interference.specs.HeldLanes.{holding_lane}
use Rattle.interference.specs.Listed.{KeepsLists, has_some, lane_extents}
use Rattle.interference.proofs.HeldPieces.{filter-all, filter-among, own-among}
use Rattle.interference.proofs.Ranks.{apart-back, lane-by-same, range-known, rises-same, separate-same, unit-known, whole-is}
use Rattle.interference.proofs.Renumbered.{apart-renumbered}
use Rattle.interference.proofs.RowsOfExtents.{clashes-nowhere}
use Rattle.interference.proofs.WholeLists.{listed-whole}

among-some : {X : Type 0} (P : Type 0) (x : X) (xs : List X) → Among x xs → xs ≡ [] → P
among-some P x xs m e = absurd (none-among x (subst (Among x) e m))

has-among : (e : Extent) (es : List Extent) → Among e es → has_some es ≡ true
has-among e [] m = absurd (none-among e m)
has-among e (x ∷ es) m = refl

none-here : {X : Type 0} (xs : List X) → ((x : X) → Among x xs → ⊥) → xs ≡ []
none-here [] none = refl
none-here (x ∷ xs) none = absurd (none x here)

none-any : {X : Type 0} (f : X → Bool) (xs : List X) → ((x : X) → Among x xs → f x ≡ false) → list_any f xs ≡ false
none-any f [] none = refl
none-any f (x ∷ xs) none = or-none (f x) (list_any f xs) (none x here) (none-any f xs (λ y m. none y (there m)))

-- an extent that a range has by a lane
pub record IsOfLane (x : Table) (q : Option ℕ) (b : ℕ) (e : Extent) : Type 0 where
  pub lane : ℕ
  pub is : q ≡ Some lane
  pub there-is : Among e (extents_in x lane b)

of-lane : (x : Table) (q : Option ℕ) (b : ℕ) (e : Extent) → Among e (lane_extents x q b) → IsOfLane x q b e
of-lane x None b e m = absurd (none-among e m)
of-lane x (Some l) b e m = record { lane = l; is = refl; there-is = m }

-- a matrix whose lists are kept
module _ (o : Matrix) (kept : StandsKept o) where
  -- what it holds is of lanes that ranges hold
  pub held-lane : (u b : ℕ) (h : RangeExtent) → Among h (holds o u b) → IsOfLane o.live.table (holding_lane o h.range u) b h.extent
  held-lane u b h m =
      of-lane o.live.table (holding_lane o h.range u) b h.extent
      (subst (Among h.extent) (kept.keeps.listed h.range u b ∙ whole-is o.live.target o.live.table h.range (register_in o.registers.items h.range) u b) (own-among h (holds o u b) m))

  pub held-ends : (u b : ℕ) (h : RangeExtent) → Among h (holds o u b) → HasEnds o.live.table.order.slots h.extent
  held-ends u b h m = let z = held-lane u b h m in kept.ends.ends z.lane b h.extent z.there-is

  -- its lists are in order by other numbers
  pub apart-by : (y : Numbers) → KeepsOrder o.live.table.order.slots y → (u b : ℕ) → AreApart y 0 (holds o u b)
  apart-by y order u b = apart-renumbered o.live.table.order.slots y order kept.ends.numbers (holds o u b) (held-ends u b) (kept.keeps.ordered.apart u b)

  -- where edits were refused, or taken back
  pub still-kept : (z : LiveFunc) → z.target ≡ o.live.target → z.func ≡ o.live.func → z.table.lanes.ranges ≡ o.live.table.lanes.ranges → ((l b : ℕ) → extents_in z.table l b ≡ extents_in o.live.table l b) → InOrder z.table → KeepsOrder o.live.table.order.slots z.table.order.slots → KeepsLists (record o { live = z })
  still-kept z target func ranges same order numbers = record {
    ordered = record {
      table = order;
      registers = kept.keeps.ordered.registers ∙ ap (λ f. length f.classes) (sym func);
      filled = kept.keeps.ordered.filled;
      apart = apart-by z.table.order.slots numbers;
      known = kept.keeps.ordered.known;
    };
    listed = λ v u b.
        kept.keeps.listed v u b ∙ whole-is o.live.target o.live.table v (register_in o.registers.items v) u b
        ∙ ap (λ q. lane_extents o.live.table q b) (sym (lane-by-same o.live.target z.target o.live.table.lanes z.table.lanes target ranges v (register_in o.registers.items v) u))
        ∙ sym (extents (holding_lane (record o { live = z }) v u) b)
        ∙ sym (whole-is z.target z.table v (register_in o.registers.items v) u b);
    lists = λ u b hu hb. kept.keeps.lists u b (subst (λ t. u < length t.units) target hu) (subst (λ f. b < length f.blocks) func hb);
  }
    where
      extents : (q : Option ℕ) (b : ℕ) → lane_extents z.table q b ≡ lane_extents o.live.table q b
      extents None b = refl
      extents (Some l) b = same l b

-- o: before edits; y: as they are begun; z: as they are kept
module _ (o : Matrix) (kept : StandsKept o) (y z : LiveFunc) (h : UnitTable) (changed : List ChangedPiece) (tells : TellsHeld (record o { live = y }) o.live changed) (clear : StandsClear (record o { live = z; held = h }))
    (target : z.target ≡ y.target) (lanes : z.table.lanes ≡ y.table.lanes) (rows : z.table.rows ≡ y.table.rows) (numbers : (id : ℕ) → Has z.table.order.slots id → number_of y.table.order.slots id ≡ number_of z.table.order.slots id)
    (table : IsTable z.table.lanes) (blocks : length z.func.blocks ≡ length o.live.func.blocks) (classes : z.func.classes ≡ o.live.func.classes) where
  abbrev m : Matrix
  m = record o { live = y }

  abbrev n : Matrix
  n = record o { live = z; held = h }

  lane-begun : (v u : ℕ) → holding_lane m v u ≡ holding_lane o v u
  lane-begun v u = lane-by-same o.live.target y.target o.live.table.lanes y.table.lanes tells.target tells.ranges v (register_in o.registers.items v) u

  lane-kept : (v u : ℕ) → holding_lane n v u ≡ holding_lane m v u
  lane-kept v u = lane-by-same y.target z.target y.table.lanes z.table.lanes target (ap (λ ls. ls.ranges) lanes) v (register_in o.registers.items v) u

  extents-kept : (l b : ℕ) → extents_in z.table l b ≡ extents_in y.table l b
  extents-kept l b = ap (λ rs. some_extents (find_cell b (cells_of rs.rows.items l))) rows

  lane-extents-kept : (q : Option ℕ) (b : ℕ) → lane_extents z.table q b ≡ lane_extents y.table q b
  lane-extents-kept None b = refl
  lane-extents-kept (Some l) b = extents-kept l b

  whole-kept : (u b v : ℕ) → whole_at n u b v ≡ whole_by m y.table u b v
  whole-kept u b v = whole-is z.target z.table v (register_in o.registers.items v) u b ∙ (ap (λ q. lane_extents z.table q b) (lane-kept v u) ∙ lane-extents-kept (holding_lane m v u) b)

  whole-before : (u b v : ℕ) → whole_at o u b v ≡ whole_by m o.live.table u b v
  whole-before u b v = whole-is o.live.target o.live.table v (register_in o.registers.items v) u b ∙ ap (λ q. lane_extents o.live.table q b) (sym (lane-begun v u))

  -- an extent that a range has then
  ends-kept : (u b v : ℕ) (e : Extent) → Among e (whole_by m y.table u b v) → HasEnds z.table.order.slots e
  ends-kept u b v e a = let w = of-lane y.table (holding_lane m v u) b e a in clear.ends.ends w.lane b e (subst (Among e) (sym (extents-kept w.lane b)) w.there-is)

  block-known : (u b v : ℕ) (e : Extent) → Among e (whole_by m y.table u b v) → b < length z.func.blocks
  block-known u b v e a = let w = of-lane y.table (holding_lane m v u) b e a in clear.lies.within w.lane b (has-among e (extents_in z.table w.lane b) (subst (Among e) (sym (extents-kept w.lane b)) w.there-is))

  unit-there : (u b v : ℕ) (e : Extent) → Among e (whole_by m y.table u b v) → u < length o.live.target.units
  unit-there u b v e a =
      let w = of-lane y.table (holding_lane m v u) b e a in
      unit-known o.live.target o.live.table.lanes v (register_in o.registers.items v) u w.lane (sym (lane-begun v u) ∙ w.is)

  pub may-change : MayChangeLists m o.live.table changed
  may-change = record {
    table = subst IsTable lanes table;
    all = record {
      order = λ l b. rises-same z.table.order.slots y.table.order.slots numbers 0 0 (rows_seen y.table.rows.rows.items l b).segments refl (ap (λ rs. rises_from z.table.order.slots 0 (rows_seen rs.rows.items l b).segments) (sym rows) ∙ clear.order l b);
      separate = λ u b. separate-same z.table.order.slots y.table.order.slots numbers (whole_by m y.table u b) (ends-kept u b) (subst (AreSeparate z.table.order.slots) (λ i v. whole-kept u b v i) (clashes-nowhere n clear.order clear.lies clear.clear u b));
      there = λ u b v e a. kept.keeps.lists u b (unit-there u b v e a) (let lt = block-known u b v e a in omega (arith, blocks));
    };
    ordered = kept.keeps.ordered.table;
    filled = kept.keeps.ordered.filled;
    had = λ u b. record {
      own = λ v. subst (λ es. own_of v (holds o u b) ≡ filter (any_extent v) es) (whole-before u b v) ((listed-whole o kept.keeps u b).own v);
      apart = apart-by o kept y.table.order.slots tells.order u b;
    };
    told = tells.told;
  }

  module _ (those : HoldThose y.table.order.slots (whole_by m y.table) any_piece h) (there-is : (u b : ℕ) → is_some (list_in h u b) ≡ is_some (list_in o.held u b)) where
    near : (u b : ℕ) → HoldsThose y.table.order.slots (whole_by m y.table u b) any_extent (holds n u b)
    near u b = let w = those.those u b in record { own = w.own; apart = w.apart }

    -- what is held is what ranges have
    member : (u b : ℕ) (x : RangeExtent) → Among x (holds n u b) → Among x.extent (whole_by m y.table u b x.range)
    member u b x a = (filter-among (any_extent x.range) x.extent (whole_by m y.table u b x.range) (subst (Among x.extent) ((near u b).own x.range) (own-among x (holds n u b) a))).0

    apart : (u b : ℕ) → AreApart z.table.order.slots 0 (holds n u b)
    apart u b = apart-back z.table.order.slots y.table.order.slots numbers 0 0 (holds n u b) refl (λ x a. ends-kept u b x.range x.extent (member u b x a)) (near u b).apart

    known : (u b : ℕ) → AreKnown (length o.registers.items) (holds n u b)
    known u b = none-any (λ x. nat_le (length o.registers.items) x.range) (holds n u b) at
      where
        at : (x : RangeExtent) → Among x (holds n u b) → nat_le (length o.registers.items) x.range ≡ false
        at x a =
            let w = of-lane y.table (holding_lane m x.range u) b x.extent (member u b x a) in
            le-false (length o.registers.items) x.range (range-known y.target y.table.lanes x.range o.registers.items u w.lane w.is)

    listed-now : (v u b : ℕ) → own_of v (holds n u b) ≡ whole_at n u b v
    listed-now v u b = (near u b).own v ∙ (filter-all (any_extent v) (whole_by m y.table u b v) (λ e a. refl) ∙ sym (whole-kept u b v))

    pub edits-kept : KeepsLists n
    edits-kept = record {
      ordered = record { table = clear.order; registers = kept.keeps.ordered.registers ∙ ap length (sym classes); filled = those.filled; apart = apart; known = known };
      listed = listed-now;
      lists = λ u b hu hb. there-is u b ∙ kept.keeps.lists u b (subst (λ t. u < length t.units) (target ∙ tells.target) hu) (omega (arith, blocks));
    }

-- a table whose lists have the same parts

held-some : (p q : Option HeldList) → option_map parts_of p ≡ option_map parts_of q → held_of_some p ≡ held_of_some q
held-some None None e = refl
held-some None (Some k) e = absurd (cc)
held-some (Some l) None e = absurd (cc)
held-some (Some l) (Some k) e = sym (flat-held l) ∙ ap flat (some-of e) ∙ flat-held k

filled-some : (p : Option HeldList) (k : HeldList) → option_map parts_of p ≡ Some (parts_of k) → ((l : HeldList) → p ≡ Some l → AreFilled l) → AreFilled k
filled-some None k e f = absurd (cc)
filled-some (Some l) k e f = λ several.
    let same : parts_of l ≡ parts_of k = some-of e in
    let long : length l.parts.items ≡ length k.parts.items = sym (length-map l.parts.items part_of) ∙ ap length same ∙ length-map k.parts.items part_of in
    ap (list_any is_none) (sym same) ∙ f l refl (omega arith)

some-parts : (p q : Option HeldList) → option_map parts_of p ≡ option_map parts_of q → is_some p ≡ is_some q
some-parts None None e = refl
some-parts None (Some k) e = absurd (cc)
some-parts (Some l) None e = absurd (cc)
some-parts (Some l) (Some k) e = refl

pub parts-kept : (m : Matrix) (h : UnitTable) → ((u b : ℕ) → parts_at h u b ≡ parts_at m.held u b) → KeepsLists m → KeepsLists (record m { held = h })
parts-kept m h same keeps = record {
  ordered = record {
    table = keeps.ordered.table;
    registers = keeps.ordered.registers;
    filled = λ u b k e. filled-some (list_in m.held u b) k (sym (same u b) ∙ ap (option_map parts_of) e) (keeps.ordered.filled u b);
    apart = λ u b. subst (AreApart m.live.table.order.slots 0) (sym (held u b)) (keeps.ordered.apart u b);
    known = λ u b. subst (AreKnown (length m.registers.items)) (sym (held u b)) (keeps.ordered.known u b);
  };
  listed = λ v u b. ap (own_of v) (held u b) ∙ keeps.listed v u b;
  lists = λ u b hu hb. some-parts (list_in h u b) (list_in m.held u b) (same u b) ∙ keeps.lists u b hu hb;
}
  where
    held : (u b : ℕ) → held_of_some (list_in h u b) ≡ held_of_some (list_in m.held u b)
    held u b = held-some (list_in h u b) (list_in m.held u b) (same u b)
