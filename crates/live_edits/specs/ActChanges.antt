-- What an instruction does to lanes otherwise than before.
use Rattle.std.specs.Prelude.{◌≡◌, ◌⊎◌, ℕ, true, false, List, map}
use Rattle.mir_meaning.specs.Paths.{Among, has}
use Rattle.instr_effects.specs.declared.lane_acts.LaneAct.{LaneAct}
use Rattle.instr_effects.specs.LaneActs.{act_on, has_act}

-- the lanes of acts
abbrev pub act_lanes : List LaneAct → List ℕ
act_lanes acts = map (λ (a : LaneAct). a.lane) acts

-- one of the acts is on the lane
abbrev pub IsActedOn : List LaneAct → ℕ → Type 0
IsActedOn acts l = (a : LaneAct) × Among a acts × (a.lane ≡ l)

-- What is done after is added at each lane of the acts before, unless it is the same.
pub record AddsFormer (before after old new : List LaneAct) : Type 0 where
  pub kept : (a : LaneAct) → Among a old → Among a new
  pub each : (a : LaneAct) → Among a new → Among a old ⊎ (a ≡ act_on after a.lane)
  pub whole : (a : LaneAct) → Among a before → (a ≡ act_on after a.lane) ⊎ IsActedOn new a.lane

-- What is done after is added at each lane to which nothing was done before.
pub record AddsFurther (before after old new : List LaneAct) : Type 0 where
  pub kept : (a : LaneAct) → Among a old → Among a new
  pub each : (a : LaneAct) → Among a new → Among a old ⊎ Among a after
  pub whole : (a : LaneAct) → Among a after → (has_act before a.lane ≡ true) ⊎ IsActedOn new a.lane

-- each act is what is done after; at all other lanes the same was done before
pub record AreChanged (before after acts : List LaneAct) : Type 0 where
  pub each : (a : LaneAct) → Among a acts → a ≡ act_on after a.lane
  pub whole : (l : ℕ) → has l (act_lanes acts) ≡ false → act_on before l ≡ act_on after l
