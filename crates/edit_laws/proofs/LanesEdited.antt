-- Rows of a new code, whose cells are made anew or stay, or whose lanes are let go.
use Rattle.std.proofs.Common.{◌≡◌, ℕ, zero, suc, Bool, true, false, List, refl, ap, ◌∙◌}
use Rattle.mir_meaning.specs.Paths.{Code}
use Rattle.live_lanes.specs.declared.compute.flow.BlockFlow.{BlockFlow}
use Rattle.live_lanes.specs.declared.row.LaneRange.{LaneRange}
use Rattle.live_lanes.specs.declared.row.PieceEnd.TheVariants as ends
use Rattle.live_lanes.specs.Graph.{is_live}
use Rattle.live_lanes.specs.Table.{Numbers, Seen, unseen, cause_in, end_in}
use Rattle.live_lanes.specs.Entered.{shape, shape_of, rows_seen, causes, IsTableOf}
use Rattle.live_lanes.specs.Ends.{row_end}
use Rattle.edit_laws.specs.CarriedRows.{CopiesPieces}
use Rattle.edit_laws.specs.LetGo.{IsLetGo, IsLaneEdited, cells_rebuilt, let_go, AreLanesEdited, LanesEditedLaw}
use Rattle.edit_laws.specs.Reasons.{IsKept}
use Rattle.edit_laws.specs.Rebuilt.{IsRebuilt}
use Rattle.edit_laws.specs.Rechecked.{KeepCauses}
use Rattle.edit_laws.proofs.CarriedRows.{alike, kept}
use Rattle.edit_laws.proofs.Fallen.{no-other}
use Rattle.edit_laws.proofs.Rebuilt.{cell-shape, cell-copies}
use Rattle.edit_laws.proofs.Unnamed.{unseen-shape}

-- an empty row

unseen-dead : (n : ℕ) → is_live (cause_in unseen n) ≡ false
unseen-dead zero = refl
unseen-dead (suc n) = refl

unseen-ends : (n : ℕ) → end_in unseen n ≡ ends.Never
unseen-ends zero = refl
unseen-ends (suc n) = refl

pub empty-dead : {code : Code} {rows : List LaneRange} {l : ℕ} → IsLetGo code rows l → (b n : ℕ) → is_live (causes rows l b n) ≡ false
empty-dead e b n = ap (λ (v : Seen). is_live (cause_in v n)) (e.empty b) ∙ unseen-dead n

pub empty-ends : {code : Code} {rows : List LaneRange} {l : ℕ} → IsLetGo code rows l → (b n : ℕ) → row_end rows l b n ≡ ends.Never
empty-ends e b n = ap (λ (v : Seen). end_in v n) (e.empty b) ∙ unseen-ends n

-- what becomes of a lane

lane-gone : {old new : Code} {l : ℕ} {x z : List LaneRange} {v : Bool} → IsLaneEdited old new l x z v → v ≡ true → IsLetGo new z l
lane-gone (cells_rebuilt h) e = absurd (let z : false ≡ true = e in cc)
lane-gone (let_go h) e = h

lane-cells : {old new : Code} {l : ℕ} {x z : List LaneRange} {v : Bool} → IsLaneEdited old new l x z v → v ≡ false → (b : ℕ) → IsRebuilt old new l b (rows_seen x l b) (rows_seen z l b)
lane-cells (cells_rebuilt h) e b = h b
lane-cells (let_go h) e b = absurd (let z : true ≡ false = e in cc)

module _ (old new : Code) (slots slots' : Numbers) (flow flow' : List BlockFlow) (lets_go : ℕ → Bool) (x z : List LaneRange) (t : IsTableOf old slots flow x) (r : AreLanesEdited old new slots' flow' lets_go x z) where
  pub emptied : (l : ℕ) → lets_go l ≡ true → IsLetGo new z l
  emptied l e = lane-gone (r.lanes l) e

  cell-at : (l b : ℕ) → lets_go l ≡ false → IsRebuilt old new l b (rows_seen x l b) (rows_seen z l b)
  cell-at l b e = lane-cells (r.lanes l) e b

  pub copied : (l b : ℕ) → lets_go l ≡ false → CopiesPieces (rows_seen x l b) (rows_seen z l b)
  copied l b e = cell-copies old new slots slots' flow x z t r.last r.numbered l b (cell-at l b e)

  entered : (l b : ℕ) → shape (rows_seen z l b) ≡ shape_of new l b
  entered l b = go (lets_go l) refl
    where
      go : (v : Bool) → lets_go l ≡ v → shape (rows_seen z l b) ≡ shape_of new l b
      go true e = ap shape ((emptied l e).empty b) ∙ unseen-shape new l b (emptied l e).unnamed
      go false e = cell-shape old new slots slots' flow x z t r.last r.numbered l b (cell-at l b e)

  pub table : IsTableOf new slots' flow' z
  table = record { entered = entered; numbered = r.numbered; ways = r.ways; matched = r.matched; few = r.few }

  keep-causes : KeepCauses old new (causes x) (causes z)
  keep-causes l b n live = go (lets_go l) refl
    where
      go : (v : Bool) → lets_go l ≡ v → (k : IsKept old new l b n) × (causes z l b n ≡ causes x l b k.number)
      go true e = no-other (is_live (causes z l b n)) live (empty-dead (emptied l e) b n)
      go false e =
          let k : IsKept old new l b n = kept old new slots slots' flow flow' x z t table l b (copied l b e) n live in
          (k, (alike old new slots slots' flow flow' x z t table l b (copied l b e) k.number n k.start k.before k.after).0)

pub lanes-edited-law : LanesEditedLaw
lanes-edited-law old new slots slots' flow flow' lets_go x z t r = (table old new slots slots' flow flow' lets_go x z t r, keep-causes old new slots slots' flow flow' lets_go x z t r)
