-- The lanes that an instruction names, and those that lead to some lanes through copies.
use Rattle.std.specs.Prelude.{◌≡◌, ℕ, List}
use Rattle.target_base.specs.declared.types.Target.{Target}
use Rattle.meaning.specs.declared.types.Lane.{Lane}
use Rattle.meaning.specs.declared.types.Lane.TheVariants.{SlotLane}
use Rattle.meaning.specs.declared.types.Source.{Source}
use Rattle.meaning.specs.declared.types.Source.TheVariants.{FromLane}
use Rattle.meaning.specs.declared.types.Fill.TheVariants.{Moved}
use Rattle.meaning.specs.declared.types.Write.{Write}
use Rattle.meaning.specs.Code.{Item}
use Rattle.meaning.specs.Live.{Among, reads_of, writes_of, Writing}
use Rattle.mir_func.specs.declared.func.Block.{Block}
use Rattle.mir_func.specs.declared.func.Instr.{Instr}
use Rattle.mir_func.specs.Value.{Function}
use Rattle.mir_meaning.specs.Points.{point_item}

-- the item copies lane l into lane a
abbrev pub Copies : Item → Lane → Lane → Type 0
Copies i l a = (w : Write) × Among w (writes_of i) × (w.lane ≡ a) × (w.fill ≡ Moved (FromLane l))

-- the item reads the lane, copies it or writes it
pub data Names (i : Item) (l : Lane) : Type 0 where
  reads : (ss : List Source) → Among ss (reads_of i) → Among (FromLane l) ss → Names i l
  copies : (a : Lane) → Copies i l a → Names i l
  writes : Writing i l → Names i l

-- one lane; a slot's lane is one lane at all its widths
pub data IsOneLane : Lane → Lane → Type 0 where
  itself : {l : Lane} → IsOneLane l l
  at_width : {s k w x : ℕ} → IsOneLane (SlotLane s k w) (SlotLane s k x)

-- The lane is one of some lanes, or an instruction copies it into a lane that leads to one of them: where these live, it may
-- live too.
pub data Leads (t : Target) (f : Function) (Some : Lane → Type 0) : Lane → Type 0 where
  is_one : {l : Lane} → Some l → Leads t f Some l
  copied : {l a c : Lane} (b : Block) (i : Instr) → Among b f.blocks → Among i b.instrs → Copies (point_item t f b i) l a → IsOneLane a c → Leads t f Some c → Leads t f Some l
