-- Touched places with the positions of their blocks, and how they are met in layout order.
use Rattle.std.specs.Prelude.{◌≡◌, ℕ, suc, Bool, true, false, cond, not, ◌&&◌, nat_eq, ◌-◌, List, [], ◌∷◌, ◌++◌, filter, map, length, Option, None, Some, slice_get, unwrap_or}
use Rattle.std.specs.List.{list_any}
use Rattle.mir_meaning.specs.Points.{touches}
use Rattle.target_base.specs.declared.types.Target.{Target}
use Rattle.mir_func.specs.declared.func.Instr.{Instr}
use Rattle.mir_func.specs.declared.func.Block.{Block}
use Rattle.mir_func.specs.Edits.{block_place}
use Rattle.mir_func.specs.Binding.{does, is_terminator}
use Rattle.split_choose.specs.declared.places.TouchedPlace.{TouchedPlace}
use Rattle.split_choose.specs.Seen.{ends_in_terminators}
use Rattle.split_choose.specs.Offers.{Touched, first_id, last_id}

-- a touched place, with the position of its block in place of the number
abbrev pub placed : List Block → Touched → TouchedPlace
placed bs p = record { position = block_place p.block bs; first = p.first; last = p.last; is_end = p.is_end }

-- the place of an instruction of the block at a position
abbrev pub single : ℕ → Instr → TouchedPlace
single k i = record { position = k; first = i.id; last = i.id; is_end = false }

-- that of the terminators of the block, of which the instruction is one
abbrev pub ending : Target → ℕ → List Instr → Instr → TouchedPlace
ending t k is i = record { position = k; first = unwrap_or (first_id (filter (does is_terminator t) is)) i.id; last = last_id i.id is; is_end = true }

-- the place to which the instruction belongs
abbrev pub place_in : Target → ℕ → List Instr → Instr → TouchedPlace
place_in t k is i = cond (does is_terminator t i) (ending t k is i) (single k i)

-- the place is that of the terminators of the block at a position
abbrev pub ends_at : ℕ → Option TouchedPlace → Bool
ends_at n None = false
ends_at n (Some p) = p.is_end && nat_eq p.position n

-- the last of these places is
abbrev pub is_ended_at : ℕ → List TouchedPlace → Bool
is_ended_at n ps = ends_at n (slice_get ps (length ps - 1))

-- one more place; the terminators of a block are one
abbrev pub joined : List TouchedPlace → TouchedPlace → List TouchedPlace
joined ps p = cond (p.is_end && is_ended_at p.position ps) ps (ps ++ p ∷ [])

-- the touched place of the terminators of the block at a position, if there is one
abbrev pub end_places : ℕ → ℕ → List Instr → List TouchedPlace
end_places v k [] = []
end_places v k (i ∷ is) = cond (list_any (touches v) (i ∷ is)) (record { position = k; first = i.id; last = last_id i.id is; is_end = true } ∷ []) []

-- the touched places of the block at a position
abbrev pub block_places : Target → ℕ → ℕ → List Instr → List TouchedPlace
block_places t v k is = map (single k) (filter (λ i. touches v i && not (does is_terminator t i)) is) ++ end_places v k (filter (does is_terminator t) is)

-- those of these blocks, the first of which is at a position
abbrev pub places_from : Target → ℕ → ℕ → List Block → List TouchedPlace
places_from t v k [] = []
places_from t v k (b ∷ bs) = block_places t v k b.instrs ++ places_from t v (suc k) bs

-- an instruction with its block's position and instructions
pub record Site : Type 0 where
  pub position : ℕ
  pub among : List Instr
  pub instr : Instr

-- the instructions of these blocks that touch the range, in layout
abbrev pub sites_from : ℕ → ℕ → List Block → List Site
sites_from v k [] = []
sites_from v k (b ∷ bs) = map (λ i. record { position = k; among = b.instrs; instr = i }) (filter (touches v) b.instrs) ++ sites_from v (suc k) bs

-- the place to which it belongs
abbrev pub place_at : Target → Site → TouchedPlace
place_at t s = place_in t s.position s.among s.instr

-- the instruction stands in these blocks, in one that ends in its terminators
pub record IsSite (t : Target) (bs : List Block) (s : Site) : Type 0 where
  pub block : Block
  pub place : ℕ
  pub found : slice_get bs s.position ≡ Some block
  pub same : block.instrs ≡ s.among
  pub stands : slice_get s.among place ≡ Some s.instr
  pub ended : ends_in_terminators t s.among ≡ true

-- these instructions do
abbrev pub AreSites : Target → List Block → List Site → Type 0
AreSites t bs [] = Unit {0}
AreSites t bs (s ∷ ss) = IsSite t bs s × AreSites t bs ss

abbrev pub site_id : Site → ℕ
site_id s = s.instr.id
