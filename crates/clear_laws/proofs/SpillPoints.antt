-- Spills leave no clashes, where each place of the function keeps what it has to.
use Rattle.std.proofs.Common.{◌≡◌, ◌<◌, ◌≤◌, inl, inr, ℕ, List, [], length, map, flat_map, refl, sym, subst, arith}
use Rattle.std.specs.Prelude.{slice_get}
use Rattle.target_base.specs.declared.types.Target.{Target}
use Rattle.meaning.specs.Code.{Code}
use Rattle.meaning.specs.Live.{Among as Member}
use Rattle.meaning.specs.declared.types.Lane.{Lane}
use Rattle.meaning.specs.declared.types.Lane.TheVariants.{SlotLane, UnitLane, VirtualLane}
use Rattle.meaning.specs.declared.types.Source.TheVariants.{FromLane}
use Rattle.mir_func.specs.Value.{Function}
use Rattle.mir_meaning.specs.Items.{widths_once}
use Rattle.mir_meaning.specs.Points.{OccupiedAt, Point}
use Rattle.lowering_laws.specs.Shapes.{IsLowered}
use Rattle.spiller.specs.Reaching.{AreFacts, Facts}
use Rattle.spiller.specs.Setting.{Spilling}
use Rattle.spiller.specs.Slots.{Slots, own_slot}
use Rattle.spiller.specs.Spilled.{IsSpilled, all_changes, setting_of, spilled, tinies_of}
use Rattle.spill_laws.specs.Laws.{AreLowered}
use Rattle.spill_laws.specs.Named.{HasFixedUndefs}
use Rattle.spill_laws.specs.Refined.{SlotApart}
use Rattle.spill_laws.specs.Standing.{IsStored, OwnStands, slot_lane}
use Rattle.spill_laws.proofs.InForm.{spill_keeps_lowered}
use Rattle.spill_laws.proofs.Standing.{own-back, own-from}
use Rattle.clear_laws.specs.Apart.{IsBeside}
use Rattle.clear_laws.specs.Spills.{HasEarlyReload, SpillKeepsApart, SpillKeepsPoints, SpillKeepsSlots, WasLane}
use Rattle.clear_laws.proofs.PlaceBounds.{GoesOn, Was, as-itself, as-range, as-slot, is-further, slot-same, untold}
use Rattle.clear_laws.proofs.PlacesKept.{C, D, R}
use Rattle.clear_laws.proofs.Registers.{points_apart}
use Rattle.clear_laws.proofs.SpillBlocks.{EachKept, spilled-keeps}
use Rattle.clear_laws.proofs.SplitPoints.{front-stays}

-- the widths at which a store writes the lanes of a slot
abbrev pub is-wide : Spilling → ℕ → Type 0
is-wide s w = Member w (widths_once [] s.target.units)

-- the slot holds a lane of the range at a place: no definition of it that is there is gone
abbrev pub is-stored : Spilling → Code → ℕ → Type 0
is-stored s p k = IsStored s k p

-- each place of a spill keeps what it has to
abbrev pub IsKept : Spilling → Type 0
IsKept s = EachKept s (is-wide s) (is-stored s)

abbrev pub PlacesAreKept : Type 0
PlacesAreKept =
    (t : Target) (f : Function) (slots : Slots) (v : ℕ) (facts : Facts) → IsLowered t f → AreLowered t f → HasFixedUndefs t f → SlotApart t f v (own_slot slots v) → AreFacts t f v facts
    → IsLowered t (spilled (setting_of t f slots v facts)) → IsKept (setting_of t f slots v facts)

stored-of : (s : Spilling) (k : ℕ) (p : Code) → OwnStands s p k (FromLane (slot_lane s k)) → IsStored s k p
stored-of s k p (inl z) = z.0
stored-of s k p (inr z) = absurd z.constant

pub goes-on : (s : Spilling) → GoesOn (R s.target s.func (spilled s) s.range s.slot (is-wide s) (is-stored s)) (C s.target s.func (spilled s) s.range s.slot (is-wide s) (is-stored s)) (D s.target s.func (spilled s) s.range s.slot (is-wide s) (is-stored s)) (length s.func.classes) s.range s.slot (is-wide s) (is-stored s)
goes-on s = record {
  back = λ i p k o free st. stored-of s k _ (own-back s i p k free (FromLane (slot_lane s k)) o (inl (st, refl)));
  along = λ i p e k m free st. stored-of s k _ (own-from s i p k free (FromLane (slot_lane s k)) e m (inl (st, refl)));
}

-- what lanes were, told lane by lane

was-lane : (f : Function) (v n : ℕ) (E : Type 0) (P : Lane → Type 0) (l : Lane) → (E → ⊥) → Was (length f.classes) v n E P l → WasLane f v n P l
was-lane f v n E P (VirtualLane w k) late (as-itself z x) = λ h. (z.1, x)
was-lane f v n E P (VirtualLane w k) late (as-range j u e x) = absurd (cc)
was-lane f v n E P (VirtualLane w k) late (as-slot j u y e x) = absurd (cc)
was-lane f v n E P (VirtualLane w k) late (is-further z) = λ h. absurd (let e : VirtualLane w k ≡ VirtualLane z.0 z.1 = z.2 in let q : w ≡ z.0 = cc in let r : length f.classes ≤ z.0 = z.3 in omega arith)
was-lane f v n E P (VirtualLane w k) late (untold z j u e) = absurd (cc)
was-lane f v n E P (UnitLane u) late (as-itself z x) = x
was-lane f v n E P (UnitLane u) late (as-range j w e x) = absurd (cc)
was-lane f v n E P (UnitLane u) late (as-slot j w y e x) = absurd (cc)
was-lane f v n E P (UnitLane u) late (is-further z) = absurd (let e : UnitLane u ≡ VirtualLane z.0 z.1 = z.2 in cc)
was-lane f v n E P (UnitLane u) late (untold z j w e) = absurd (cc)
was-lane f v n E P (SlotLane m k w) late (as-itself z x) = inl x
was-lane f v n E P (SlotLane m k w) late (as-range j u e x) = let q = slot-same m n k j w u e in inr (q.0, inr (subst (λ a. P (VirtualLane v a)) (sym q.1) x))
was-lane f v n E P (SlotLane m k w) late (as-slot j u y e x) = let q = slot-same m n k j w u e in inr (q.0, inl (y, subst (λ a. P (SlotLane n a y)) (sym q.1) x))
was-lane f v n E P (SlotLane m k w) late (is-further z) = absurd (let e : SlotLane m k w ≡ VirtualLane z.0 z.1 = z.2 in cc)
was-lane f v n E P (SlotLane m k w) late (untold z j u e) = absurd (late z)

was-beside : (f : Function) (v n : ℕ) (E : Type 0) (P : Lane → Type 0) (l : Lane) → IsBeside f v l → Was (length f.classes) v n E P l → P l
was-beside f v n E P (SlotLane m k w) b z = absurd b
was-beside f v n E P l b (as-itself z x) = x
was-beside f v n E P (VirtualLane w k) b (as-range j u e x) = absurd (cc)
was-beside f v n E P (UnitLane y) b (as-range j u e x) = absurd (cc)
was-beside f v n E P (VirtualLane w k) b (as-slot j u y e x) = absurd (cc)
was-beside f v n E P (UnitLane a) b (as-slot j u y e x) = absurd (cc)
was-beside f v n E P (VirtualLane w k) b (is-further z) = absurd (let e : VirtualLane w k ≡ VirtualLane z.0 z.1 = z.2 in let q : w ≡ z.0 = cc in let r : length f.classes ≤ z.0 = z.3 in let h : w < length f.classes = b.0 in omega arith)
was-beside f v n E P (UnitLane u) b (is-further z) = absurd (let e : UnitLane u ≡ VirtualLane z.0 z.1 = z.2 in cc)
was-beside f v n E P (VirtualLane w k) b (untold z j u e) = absurd (cc)
was-beside f v n E P (UnitLane y) b (untold z j u e) = absurd (cc)

module _ (kept : PlacesAreKept) (t : Target) (f g : Function) (slots new : Slots) (v : ℕ) (made : List (ℕ × ℕ)) (low : IsLowered t f) (lowered : AreLowered t f) (undefs : HasFixedUndefs t f) (apart : SlotApart t f v (own_slot slots v)) (spill : IsSpilled t f slots v g new made) where
  abbrev s : Spilling
  s = setting_of t f slots v spill.facts

  low-spilled : IsLowered t (spilled s)
  low-spilled = subst (IsLowered t) spill.func (spill_keeps_lowered t f g slots new v made low lowered spill).0

  abbrev Keeps : Function → Type 0
  Keeps h = (p : Point) → (q : Point) × ((l : Lane) → OccupiedAt t h p l → Was (length f.classes) v (own_slot slots v) (HasEarlyReload t) (OccupiedAt t f q) l)

  points-kept : Keeps g
  points-kept = subst Keeps (sym spill.func) (spilled-keeps s (is-wide s) (is-stored s) (kept t f slots v spill.facts low lowered undefs apart spill.are_facts low-spilled) (goes-on s) low low-spilled)

pub spill_points_by : PlacesAreKept → SpillKeepsPoints
spill_points_by kept t f g slots new v made low lowered undefs apart spill p =
    let z = points-kept kept t f g slots new v made low lowered undefs apart spill p in
    (z.0, λ l b h. was-beside f v (own_slot slots v) (HasEarlyReload t) (OccupiedAt t f z.0) l b (z.1 l h))

pub spill_slots_by : PlacesAreKept → SpillKeepsSlots
spill_slots_by kept t f g slots new v made low lowered undefs apart late spill p =
    let z = points-kept kept t f g slots new v made low lowered undefs apart spill p in
    (z.0, λ l h. was-lane f v (own_slot slots v) (HasEarlyReload t) (OccupiedAt t f z.0) l late (z.1 l h))

spilled-classes : (s : Spilling) (w : ℕ) → w < length s.func.classes → slice_get (spilled s).classes w ≡ slice_get s.func.classes w
unfolding spilled
spilled-classes s w h = front-stays s.func.classes (map (λ x. x.0) (flat_map tinies_of (all_changes s))) w h

pub spill_apart : SpillKeepsPoints → SpillKeepsApart
spill_apart points t f g slots new v made rs after low lowered undefs apart spill none x h =
    points_apart t f g v rs after
    (subst (λ (q : Function). (w : ℕ) → w < length f.classes → slice_get q.classes w ≡ slice_get f.classes w) (sym spill.func) (spilled-classes (setting_of t f slots v spill.facts)))
    (points t f g slots new v made low lowered undefs apart spill) none x h
