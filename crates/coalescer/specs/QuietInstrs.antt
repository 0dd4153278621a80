-- When a join loses no value, told instruction by instruction.
use Rattle.std.specs.Prelude.{◌≡◌, ℕ, true, false, Some, slice_get}
use Rattle.target_base.specs.declared.types.Target.{Target}
use Rattle.meaning.specs.declared.types.Lane.{Lane}
use Rattle.meaning.specs.declared.types.Write.{Write}
use Rattle.meaning.specs.Lanes.{same_lane}
use Rattle.meaning.specs.Code.{Item}
use Rattle.meaning.specs.Fold.{copies}
use Rattle.meaning.specs.Live.{Among as Member, writes_of}
use Rattle.mir_func.specs.declared.func.Block.{Block}
use Rattle.mir_func.specs.declared.func.Instr.{Instr}
use Rattle.mir_func.specs.Value.{Function}
use Rattle.mir_meaning.specs.Codes.{item_of}
use Rattle.mir_meaning.specs.Points.{Entry, Exit, LiveAt}

-- where an instruction writes a lane, but for copies from a lane with the same image, no other lane with that image is live
-- behind it or written by it, nor live before it where the writing is early
abbrev pub QuietInstr : Target → Function → (Lane → Lane) → Instr → Item → Type 0
QuietInstr t f m i item =
    (w : Write) → Member w (writes_of item) → copies m w.lane w.fill ≡ false → (l : Lane) → m l ≡ m w.lane → same_lane l w.lane ≡ false
    → (LiveAt t f (Exit i.id) l → ⊥) × ((v : Write) → Member v (writes_of item) → v.lane ≡ l → ⊥) × (w.early ≡ true → LiveAt t f (Entry i.id) l → ⊥)

abbrev pub QuietInstrs : Target → Function → (Lane → Lane) → Type 0
QuietInstrs t f m = (p q : ℕ) (b : Block) (i : Instr) → slice_get f.blocks p ≡ Some b → slice_get b.instrs q ≡ Some i → QuietInstr t f m i (item_of t f b i)
