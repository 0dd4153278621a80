-- What is live where a block begins, with a range spilled: units, and lanes of ranges, that were live there before.
use Rattle.std.proofs.Common.{◌≡◌, inl, inr, ℕ, length, sym, subst}
use Rattle.meaning.specs.Code.{found}
use Rattle.meaning.specs.declared.types.Lane.{Lane}
use Rattle.meaning.specs.declared.types.Lane.TheVariants.{SlotLane, UnitLane, VirtualLane}
use Rattle.mir_meaning.specs.Points.{LiveAt, Start}
use Rattle.lowering_laws.specs.Shapes.{IsLowered}
use Rattle.spiller.specs.Setting.{Spilling}
use Rattle.spiller.specs.Spilled.{setting_of, spilled}
use Rattle.spill_laws.proofs.InForm.{spill_keeps_lowered}
use Rattle.clear_laws.specs.Spills.{KeepsStarts, SpillKeepsStarts}
use Rattle.clear_laws.proofs.PlaceBounds.{May}
use Rattle.clear_laws.proofs.PlacesKept.{C, D, R}
use Rattle.clear_laws.proofs.SpillBlocks.{spilled-starts}
use Rattle.clear_laws.proofs.SpillPoints.{IsKept, PlacesAreKept, goes-on, is-stored, is-wide}

module _ (s : Spilling) (low : IsLowered s.target s.func) (low' : IsLowered s.target (spilled s)) (kept : IsKept s) where
  -- what may be live at the start of a block
  abbrev MayStart : ℕ → Lane → Type 0
  MayStart n l =
      let c = C s.target s.func (spilled s) s.range s.slot (is-wide s) (is-stored s) in
      May (R s.target s.func (spilled s) s.range s.slot (is-wide s) (is-stored s)) c (D s.target s.func (spilled s) s.range s.slot (is-wide s) (is-stored s)) (length s.func.classes) s.range s.slot (is-wide s) (is-stored s) (found n c) l

  may-start : (n : ℕ) (l : Lane) → LiveAt s.target (spilled s) (Start n) l → MayStart n l
  may-start n l h = spilled-starts s (is-wide s) (is-stored s) kept (goes-on s) low low' n l h

  unit-was : (n u : ℕ) → MayStart n (UnitLane u) → LiveAt s.target s.func (Start n) (UnitLane u)
  unit-was n u (inl y) = y.1
  unit-was n u (inr y) = absurd (let e : UnitLane u ≡ SlotLane s.slot y.k y.w = y.is in cc)

  range-was : (n w k : ℕ) → MayStart n (VirtualLane w k) → LiveAt s.target s.func (Start n) (VirtualLane w k)
  range-was n w k (inl y) = y.1
  range-was n w k (inr y) = absurd (let e : VirtualLane w k ≡ SlotLane s.slot y.k y.w = y.is in cc)

  starts-kept : KeepsStarts s.target s.func (spilled s)
  starts-kept = record {
    units = λ n u h. unit-was n u (may-start n (UnitLane u) h);
    ranges = λ n w k h. range-was n w k (may-start n (VirtualLane w k) h);
  }

pub spill_starts_by : PlacesAreKept → SpillKeepsStarts
spill_starts_by kept t f g slots new v made low lowered undefs apart spill =
    let s = setting_of t f slots v spill.facts in
    let low' : IsLowered t (spilled s) = subst (IsLowered t) spill.func (spill_keeps_lowered t f g slots new v made low lowered spill).0 in
    subst (KeepsStarts t f) (sym spill.func) (starts-kept s low low' (kept t f slots v spill.facts low lowered undefs apart spill.are_facts low'))
