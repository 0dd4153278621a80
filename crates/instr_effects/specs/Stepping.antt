-- Instructions as steps over numbered lanes, and when they do the same as items.
use Rattle.std.specs.Prelude.{◌≡◌, ◌⊎◌, ◌<◌, length, ℕ, Bool, true, false, cond, List, ◌++◌, filter_map, Some, None}
use Rattle.target_base.specs.declared.types.Target.{Target}
use Rattle.mir_func.specs.declared.func.RegOp.{RegOp}
use Rattle.mir_func.specs.declared.func.Instr.{Instr}
use Rattle.mir_func.specs.Value.{Function}
use Rattle.mir_func.specs.Binding.{registers}
use Rattle.mir_meaning.specs.Registers.{operand_lanes, undefined_lanes, is_reserved}
use Rattle.meaning.specs.declared.types.Lane.{Lane}
use Rattle.meaning.specs.declared.types.Lane.TheVariants.{UnitLane}
use Rattle.meaning.specs.declared.types.Source.{Source}
use Rattle.meaning.specs.declared.types.Source.TheVariants.{FromLane}
use Rattle.meaning.specs.declared.types.Fill.TheVariants.{Moved}
use Rattle.meaning.specs.declared.types.Write.{Write}
use Rattle.meaning.specs.Lanes.{Writes, Reads}
use Rattle.meaning.specs.Code.{Item}
use Rattle.meaning.specs.Live.{Among as Member, reads_of, writes_of, in_order, is_slot}
use Rattle.mir_meaning.specs.Paths.{Step}
use Rattle.mir_meaning.specs.Stands.{Tags}
use Rattle.instr_effects.specs.declared.owner.Owner.{Owner}
use Rattle.instr_effects.specs.Owners.{owner_of, fill_owner}
use Rattle.instr_effects.specs.Acts.{read_owners, acts_of}
use Rattle.instr_effects.specs.Steps.{Numbering, act_writings, act_readings}

-- lanes by the numbers of their owners, as far as they are proper; a slot's lane is proper at the width of a unit
abbrev pub tag_of : Numbering → (Lane → Bool) → Tags
tag_of num proper l = cond (proper l) (num (owner_of l)) None

-- what an instruction does to numbered lanes
abbrev pub step_of : Numbering → ℕ → Bool → Reads → Writes → Step
step_of num id leaves rs ws = record { id = id; reads = filter_map num (read_owners rs) ++ act_readings num (acts_of ws); writes = act_writings num (acts_of ws); leaves = leaves }

-- each number is that of one lane, and reserved lanes have none
pub record IsNumbering (reserved : Lane → Bool) (num : Numbering) : Type 0 where
  pub names : (o p : Owner) (n : ℕ) → num o ≡ Some n → num p ≡ Some n → o ≡ p
  pub free : (l : Lane) (n : ℕ) → num (owner_of l) ≡ Some n → reserved l ≡ false

-- the lanes of an instruction's register operands have numbers, but for reserved ones, and so have all units
pub record NamesTagged (t : Target) (f : Function) (tag : Tags) (i : Instr) : Type 0 where
  pub lanes : (o : RegOp) (l : Lane) → Member o (registers i.operands) → Member l (operand_lanes t f o) ⊎ Member l (undefined_lanes t f o) → is_reserved t l ≡ false → (n : ℕ) × (tag l ≡ Some n)
  pub units : (u : ℕ) → u < length t.units → is_reserved t (UnitLane u) ≡ false → (n : ℕ) × (tag (UnitLane u) ≡ Some n)

-- An item whose moves are all of lanes that it reads in any case, entered as writes `ws` that get nothing that another lane held.
pub record IsPlain (reserved : Lane → Bool) (tag : Tags) (i : Item) (ws : Writes) : Type 0 where
  pub ordered : in_order i ≡ true
  pub unmoved : (w : Write) → Member w ws → fill_owner w.fill ≡ None
  pub covered : (w : Write) → Member w (writes_of i) → reserved w.lane ≡ false → (v : Write) × Member v ws × (v.lane ≡ w.lane)
  pub covers : (v : Write) → Member v ws → reserved v.lane ≡ false → (w : Write) × Member w (writes_of i) × (w.lane ≡ v.lane)
  pub read : (w : Write) (l : Lane) → Member w (writes_of i) → w.fill ≡ Moved (FromLane l) → reserved l ≡ false → (ss : List Source) × Member ss (reads_of i) × Member (FromLane l) ss
  pub numbered : (l : Lane) (ss : List Source) → Member ss (reads_of i) → Member (FromLane l) ss → reserved l ≡ false → (n : ℕ) × (tag l ≡ Some n)
  pub written : (v : Write) → Member v ws → reserved v.lane ≡ false → (n : ℕ) × (tag v.lane ≡ Some n)
  pub unslotted : (v : Write) → Member v ws → is_slot v.lane ≡ false
  pub still : (w : Write) → Member w (writes_of i) → is_slot w.lane ≡ false
  pub proper : (l : Lane) (ss : List Source) → Member ss (reads_of i) → Member (FromLane l) ss → is_slot l ≡ false
