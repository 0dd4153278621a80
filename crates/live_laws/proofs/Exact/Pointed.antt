-- A computed table counts the points of each range.
use Rattle.std.proofs.Common.{◌≡◌, ◌<◌, ℕ, ◌+◌, Bool, true, false, cond, List, [], ◌∷◌, Option, Some, None, refl, sym, ap, ◌∙◌, subst, arith}
use Rattle.std.specs.Prelude.{Decides, count_by, nat_lt, slice_get}
use Rattle.std.proofs.lemmas.Bool.{ltb-true}
use Rattle.std.proofs.lemmas.List.Sums.{count_by-le-length}
use Rattle.target_base.specs.declared.types.Target.{Target}
use Rattle.meaning.specs.declared.types.Lane.TheVariants.{VirtualLane}
use Rattle.meaning.specs.Live.{Among as Member}
use Rattle.mir_func.specs.declared.func.Block.{Block}
use Rattle.mir_func.specs.declared.func.Instr.{Instr}
use Rattle.mir_func.specs.Value.{Function}
use Rattle.mir_meaning.specs.Points.{Point, Start, Entry, Exit, RangePoint, Tests, PointCount, all_points}
use Rattle.mir_meaning.specs.Rules.{V8}
use Rattle.instr_effects.specs.declared.row.LaneSpan.{LaneSpan}
use Rattle.instr_effects.specs.Numbers.{row_number_in}
use Rattle.instr_effects.specs.Numbered.{number_in}
use Rattle.instr_effects.specs.Stepping.{tag_of}
use Rattle.live_laws.specs.Effects.Shaped.{is_proper}
use Rattle.live_laws.specs.Effects.Coded.{spot_in, KeepsRules}
use Rattle.live_laws.proofs.Effects.Blocks.{place-block}
use Rattle.live_lanes.specs.declared.table.Table.{Table}
use Rattle.live_lanes.specs.Table.{entry_rank, exit_rank}
use Rattle.live_lanes.specs.Ordered.{place_of}
use Rattle.live_lanes.specs.Doing.{IsComputed}
use Rattle.live_lanes.specs.Held.{any_held, lanes_held, range_held}
use Rattle.live_laws.specs.Exact.Occupied.{TellsOccupied, LanePoint, TellsRange, PointsLaw}
use Rattle.live_laws.proofs.Exact.Coded.{place-is, place-same}
use Rattle.live_laws.proofs.Exact.Counted.{tally-cons, AgreesOn, held-count}
use Rattle.live_laws.proofs.Exact.Everywhere.{spot-at, no-start, no-entry, no-exit, numbered-at}
use Rattle.live_laws.proofs.Exact.Occupied.{occupied-law}
use Rattle.live_laws.proofs.Exact.Ranged.{range-law}

none-counted : (ps : List Point) → 0 ≡ count_by (λ p. false) ps
none-counted [] = refl
none-counted (p ∷ ps) = omega (arith, tally-cons (λ q. false) p ps, none-counted ps)

module _ (t : Target) (f : Function) (x : Table) (computed : IsComputed t f x) (rules : KeepsRules t f) (last : (b : Block) (j : ℕ) (i : Instr) → Member b f.blocks → slice_get b.instrs j ≡ Some i → V8 t b j i ≡ true) (v : ℕ) where
  -- where a lane of the range is live or occupied, it has a number
  numbered : (p : Point) (z : RangePoint t f v p) → (n : ℕ) × (tag_of (number_in x.lanes) (is_proper t) (VirtualLane v z.0) ≡ Some n)
  numbered p z = numbered-at t f x computed rules last (VirtualLane v z.0) refl p z.1

  -- a range that the table doesn't know has no points
  unknown-count : slice_get x.lanes.ranges.items v ≡ None → PointCount t f v (range_held x f.blocks v)
  unknown-count e = ((λ p. false), (λ p. ((λ h. absurd (cc)), (λ z. absurd (none p z)))), ap (lanes_held x f.blocks) e ∙ none-counted (all_points f))
    where
      none : (p : Point) → RangePoint t f v p → ⊥
      none p z = let n = numbered p z in let h : None ≡ Some n.0 = sym (ap (λ q. row_number_in q z.0) e) ∙ n.1 in cc

  module _ (own : LaneSpan) (e : slice_get x.lanes.ranges.items v ≡ Some own) where
    abbrev held : ℕ → ℕ → Bool
    held k at = any_held x.order.slots x.rows.rows.items own.first own.count k at

    abbrev at_start : Option ℕ → Bool
    at_start None = false
    at_start (Some k) = held k 0

    abbrev at_instr : ℕ → Option (ℕ × ℕ) → Bool
    at_instr rank None = false
    at_instr rank (Some p) = held p.0 rank

    -- what the table tells of a point
    abbrev told : Point → Bool
    told (Start n) = at_start (place_of n f.blocks)
    told (Entry id) = at_instr (entry_rank x.order.slots id) (spot_in id f.blocks)
    told (Exit id) = at_instr (exit_rank x.order.slots id) (spot_in id f.blocks)

    within : (k n : ℕ) → tag_of (number_in x.lanes) (is_proper t) (VirtualLane v k) ≡ Some n → k < own.count
    within k n m = go (nat_lt k own.count) refl (sym (ap (λ q. row_number_in q k) e) ∙ m)
      where
        go : (u : Bool) → nat_lt k own.count ≡ u → cond {A = Option ℕ} u (Some (own.first + k)) None ≡ Some n → k < own.count
        go true g h = ltb-true k own.count g
        go false g h = absurd (cc)

    to-lane : (p : Point) → RangePoint t f v p → LanePoint t f v own.count p
    to-lane p z = let n = numbered p z in (z.0, within z.0 n.0 n.1, z.1)

    tells : TellsRange t f x v own
    tells = range-law t f x computed rules last v own e

    decides : (p : Point) (b : Bool) → Decides b (LanePoint t f v own.count p) → Decides b (RangePoint t f v p)
    decides p b d = ((λ h. let z = d.0 h in (z.0, z.2)), (λ z. d.1 (to-lane p z)))

    never : (p : Point) → (RangePoint t f v p → ⊥) → Decides false (RangePoint t f v p)
    never p none = ((λ h. absurd (cc)), (λ z. absurd (none z)))

    tests : Tests (RangePoint t f v) told
    tests (Start n) = go (place_of n f.blocks) refl
      where
        go : (q : Option ℕ) → place_of n f.blocks ≡ q → Decides (at_start q) (RangePoint t f v (Start n))
        go None g = never (Start n) (λ z. no-start t f x computed rules last (VirtualLane v z.0) n g z.1)
        go (Some k) g =
            let b = place-block n f.blocks k (sym (place-same n f.blocks) ∙ g) in
            subst (λ m. Decides (held k 0) (RangePoint t f v (Start m))) b.2 (decides (Start b.0.number) (held k 0) (tells.start k b.0 b.1))
    tests (Entry id) = go (spot_in id f.blocks) refl
      where
        go : (q : Option (ℕ × ℕ)) → spot_in id f.blocks ≡ q → Decides (at_instr (entry_rank x.order.slots id) q) (RangePoint t f v (Entry id))
        go None g = never (Entry id) (λ z. no-entry t f x computed rules last (VirtualLane v z.0) id g z.1)
        go (Some (p, k)) g = decides (Entry id) (held p (entry_rank x.order.slots id)) (tells.entry id p k g)
    tests (Exit id) = go (spot_in id f.blocks) refl
      where
        go : (q : Option (ℕ × ℕ)) → spot_in id f.blocks ≡ q → Decides (at_instr (exit_rank x.order.slots id) q) (RangePoint t f v (Exit id))
        go None g = never (Exit id) (λ z. no-exit t f x computed rules last (VirtualLane v z.0) id g z.1)
        go (Some (p, k)) g = decides (Exit id) (held p (exit_rank x.order.slots id)) (tells.exit id p k g)

    agrees : (k : ℕ) (b : Block) → slice_get f.blocks k ≡ Some b → (told (Start b.number) ≡ held k 0) × ((i : Instr) → Member i b.instrs → AgreesOn told x.order.slots (held k) i)
    agrees k b g = (ap at_start (place-is t f (number_in x.lanes) rules k b g), instr)
      where
        instr : (i : Instr) → Member i b.instrs → AgreesOn told x.order.slots (held k) i
        instr i m = let z = spot-at t f x computed rules last k b i g m in (ap (at_instr (entry_rank x.order.slots i.id)) z.1, ap (at_instr (exit_rank x.order.slots i.id)) z.1)

    known-count : PointCount t f v (range_held x f.blocks v)
    known-count = (told, tests, ap (lanes_held x f.blocks) e ∙ held-count told x f.blocks own.first own.count agrees)

  count : PointCount t f v (range_held x f.blocks v)
  count = go (slice_get x.lanes.ranges.items v) refl
    where
      go : (q : Option LaneSpan) → slice_get x.lanes.ranges.items v ≡ q → PointCount t f v (range_held x f.blocks v)
      go None e = unknown-count e
      go (Some own) e = known-count own e

  few : range_held x f.blocks v < 18446744073709551616
  few = let z = count in omega (arith, z.2, count_by-le-length z.0 (all_points f), computed.few)

pub points-law : PointsLaw
points-law t f x computed rules last =
    let tells : TellsOccupied t f x = occupied-law t f x computed rules last in
    record {
      ordered = tells.ordered;
      ranked = tells.ranked;
      few = λ v. few t f x computed rules last v;
      count = λ v. count t f x computed rules last v;
    }
