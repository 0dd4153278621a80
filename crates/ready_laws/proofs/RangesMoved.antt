-- Copies into incoming registers move lanes of ranges alone, where what is copied is virtual. (As in `Blocks` of lowering_laws, which
-- keeps these lemmas private.)
use Rattle.std.proofs.Common.{◌≡◌, ◌∷◌, ◌++◌, ℕ, Bool, true, false, cond, List, Option, None, Some, map, filter, length, refl, ap, []}
use Rattle.std.specs.Prelude.{◌==◌}
use Rattle.target_base.specs.declared.types.IndexId.{IndexId}
use Rattle.target_base.specs.declared.types.Target.{Target}
use Rattle.target_base.specs.Registers.{lanes_of}
use Rattle.meaning.specs.Lanes.{Writes, filled, same_lane, settled, through}
use Rattle.meaning.specs.declared.types.Lane.{Lane}
use Rattle.meaning.specs.declared.types.Lane.TheVariants.{SlotLane, UnitLane, VirtualLane}
use Rattle.meaning.specs.declared.types.Source.{Source}
use Rattle.meaning.specs.declared.types.Source.TheVariants.{Bits, FromLane, Undef}
use Rattle.mir_func.specs.declared.func.Loc.{Loc}
use Rattle.mir_func.specs.declared.func.Loc.TheVariants.{Fixed, Virtual}
use Rattle.mir_func.specs.declared.func.RegOp.{RegOp}
use Rattle.mir_func.specs.declared.func.Operand.TheVariants as operands
use Rattle.mir_func.specs.Value.{Function}
use Rattle.mir_func.specs.Binding.{is_virtual}
use Rattle.mir_meaning.specs.Registers.{located_lanes, numbers, operand_lanes, range_widths, use_sources}
use Rattle.mir_meaning.specs.Items.{copied, defined_undef, moved, undefined}
use Rattle.phi_elim.specs.declared.arrivals.Arrival.{Arrival}
use Rattle.phi_elim.specs.Moves.{source_of, whole_definition}
use Rattle.phi_elim.specs.Phis.{all_instrs}
use Rattle.lowering_laws.proofs.Alike.{MovesRanges, is_ranged}
use Rattle.lowering_laws.proofs.Arrivals.{all-kept, arrival_writes, to-all, writes_at}
use Rattle.lowering_laws.proofs.Blocks.{FromRanges}
use Rattle.lowering_laws.proofs.Lowering.{arrs, bound, ending, h}
use Rattle.lowering_laws.proofs.Olds.{old_source}
use Rattle.lowering_laws.proofs.Traced.{traced}

abbrev AllRanged : Writes → Type 0
AllRanged [] = Unit {0}
AllRanged (w ∷ ws) = (is_ranged (settled w.fill) ≡ true) × AllRanged ws

filled-ranged : (ws : Writes) → AllRanged ws → (v k : ℕ) → is_ranged (settled (filled ws (VirtualLane v k))) ≡ true
filled-ranged [] r v k = refl
filled-ranged (w ∷ ws) r v k = go (same_lane w.lane (VirtualLane v k)) (filled-ranged ws r.1 v k)
  where
    go : (b : Bool) → is_ranged (settled (filled ws (VirtualLane v k))) ≡ true → is_ranged (settled (cond b w.fill (filled ws (VirtualLane v k)))) ≡ true
    go true ih = r.0
    go false ih = ih

undefined-ranged : (ls : List Lane) → AllRanged (undefined false ls)
undefined-ranged [] = tt
undefined-ranged (l ∷ ls) = (refl, undefined-ranged ls)

append-ranged : (xs ys : Writes) → AllRanged xs → AllRanged ys → AllRanged (xs ++ ys)
append-ranged [] ys r q = q
append-ranged (w ∷ xs) ys r q = (r.0, append-ranged xs ys r.1 q)

moved-ranged : (ls : List Lane) (undef : Bool) (v : ℕ) (ks : List ℕ) → AllRanged (moved false ls (map (cond undef (λ l. Undef) FromLane) (map (VirtualLane v) ks)))
moved-ranged [] undef v ks = tt
moved-ranged (l ∷ ls) undef v [] = tt
moved-ranged (l ∷ ls) true v (k ∷ ks) = (refl, moved-ranged ls true v ks)
moved-ranged (l ∷ ls) false v (k ∷ ks) = (refl, moved-ranged ls false v ks)

module _ (t : Target) (f : Function) where
  use-ranged : (ls : List Lane) (o : RegOp) → is_virtual o.loc ≡ true → AllRanged (moved false ls (use_sources t f o))
  use-ranged ls o e = go o.loc o.index e
    where
      go : (l : Loc) (x : Option IndexId) → is_virtual l ≡ true → AllRanged (moved false ls (map (cond o.undef (λ l. Undef) FromLane) (located_lanes t f l x)))
      go (Virtual v) None e = moved-ranged ls o.undef v (numbers 0 (length (range_widths t f v)))
      go (Virtual v) (Some x) e = moved-ranged ls o.undef v (lanes_of t x)
      go (Fixed r) x e = absurd (cc)

  arrival-ranged : (a : Arrival) → is_virtual a.from.loc ≡ true → AllRanged (arrival_writes t f a)
  arrival-ranged a e = go a.from.undef
    where
      go : (y : Bool) → AllRanged (cond y (defined_undef t f (operands.Reg (whole_definition a.to) ∷ [])) (copied t f (operands.Reg (whole_definition a.to) ∷ operands.Reg (source_of a.from) ∷ [])))
      go true = undefined-ranged (operand_lanes t f (whole_definition a.to) ++ [])
      go false = append-ranged (moved false (operand_lanes t f (whole_definition a.to)) (use_sources t f (source_of a.from))) [] (use-ranged (operand_lanes t f (whole_definition a.to)) (source_of a.from) e) tt

  module _ (x : ℕ) where
    ranges-move : (list : List Arrival) → FromRanges list → (v k : ℕ) → is_ranged (traced (writes_at t f x list) (FromLane (VirtualLane v k))) ≡ true
    ranges-move [] r v k = refl
    ranges-move (a ∷ list) r v k = go (a.block == x) (ranges-move list r.1 v k)
      where
        step : (s : Source) → is_ranged s ≡ true → is_ranged (settled (through (arrival_writes t f a) s)) ≡ true
        step (FromLane (VirtualLane w j)) e = filled-ranged (arrival_writes t f a) (arrival-ranged a r.0) w j
        step (FromLane (UnitLane u)) e = absurd (cc)
        step (FromLane (SlotLane p j w)) e = absurd (cc)
        step Undef e = refl
        step (Bits c low width) e = absurd (cc)

        go : (y : Bool) → is_ranged (traced (writes_at t f x list) (FromLane (VirtualLane v k))) ≡ true → is_ranged (traced (map (arrival_writes t f) (cond y (a ∷ filter (λ z. z.block == x) list) (filter (λ z. z.block == x) list))) (FromLane (VirtualLane v k))) ≡ true
        go true e = step (traced (writes_at t f x list) (FromLane (VirtualLane v k))) e
        go false e = e

-- what the copies at the end of a block move
pub all-move : (t : Target) (f : Function) → FromRanges (arrs t f) → (x : ℕ) → MovesRanges (bound t f) (ending t f x)
all-move t f ranges x = record {
  units = λ u. kept (FromLane (UnitLane u)) refl;
  slots = λ s k w. kept (FromLane (SlotLane s k w)) refl;
  ranges = λ v k. ranges-move t (h t f) x (arrs t f) ranges v k;
  kept = kept;
}
  where
    kept : (s : Source) → old_source (bound t f) s ≡ true → traced (ending t f x) s ≡ s
    kept s o = all-kept t (h t f) (bound t f) x (arrs t f) s (to-all t f.blocks (bound t f) (all_instrs f.blocks)) o
