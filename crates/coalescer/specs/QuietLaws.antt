-- Laws of quiet joins: told instruction by instruction, by the lanes that become one, and by the sides of copies.
use Rattle.std.specs.Prelude.{◌≡◌, ◌<◌, ◌⊎◌, ◌||◌, ℕ, false, length, Some}
use Rattle.target_base.specs.declared.types.Target.{Target}
use Rattle.meaning.specs.declared.types.Lane.{Lane}
use Rattle.meaning.specs.declared.types.Lane.TheVariants.{SlotLane, UnitLane, VirtualLane}
use Rattle.meaning.specs.declared.types.Write.{Write}
use Rattle.meaning.specs.Lanes.{same_lane}
use Rattle.meaning.specs.Fold.{copies}
use Rattle.meaning.specs.Live.{Among as Member, writes_of}
use Rattle.mir_func.specs.declared.func.Instr.{Instr}
use Rattle.mir_func.specs.declared.func.Block.{Block}
use Rattle.mir_func.specs.Value.{Function}
use Rattle.mir_meaning.specs.Codes.{item_of}
use Rattle.mir_meaning.specs.Registers.{range_widths}
use Rattle.live_lanes.specs.declared.live.LiveFunc.{LiveFunc}
use Rattle.live_edits.specs.declared.fold.Join.{Join}
use Rattle.live_edits.specs.Folded.{image}
use Rattle.join_laws.specs.Joined.{join_at}
use Rattle.join_laws.specs.Quiet.{IsQuiet}
use Rattle.coalescer.specs.Asked.{AsksQuiet, copies_lane, partner}
use Rattle.coalescer.specs.Coalescing.{MayCoalesce, sides_in}
use Rattle.coalescer.specs.QuietInstrs.{QuietInstrs}

-- a lane of a virtual register is one of its class
abbrev pub IsLane : Target → Function → Lane → Type 0
IsLane t f (VirtualLane v k) = k < length (range_widths t f v)
IsLane t f (UnitLane u) = Unit {0}
IsLane t f (SlotLane s k w) = Unit {0}

-- a join loses no value exactly where it loses none at any instruction
abbrev pub QuietByInstrs : Type 0
QuietByInstrs =
    (t : Target) (x : LiveFunc) (j : Join) → MayCoalesce t x
    → (IsQuiet t x.func j → QuietInstrs t x.func (image t j)) × (QuietInstrs t x.func (image t j) → IsQuiet t x.func j)

-- a lane of the one range that becomes one with another lane is its partner, a lane of the other range
abbrev pub OnePartner : Type 0
OnePartner =
    (t : Target) (x : LiveFunc) (id : ℕ) (j : Join) → MayCoalesce t x → join_at t x.func id ≡ Some j
    → (l : Lane) (v k : ℕ) → IsLane t x.func l → IsLane t x.func (VirtualLane v k) → image t j l ≡ image t j (VirtualLane v k) → same_lane l (VirtualLane v k) ≡ false
    → ((v ≡ j.keep) ⊎ (v ≡ j.gone)) × (b : ℕ × ℕ) × (partner t j v k ≡ Some b) × (l ≡ VirtualLane b.0 b.1)

-- and partners become one
abbrev pub PartnersJoin : Type 0
PartnersJoin =
    (t : Target) (x : LiveFunc) (id : ℕ) (j : Join) → MayCoalesce t x → join_at t x.func id ≡ Some j
    → (v k : ℕ) (b : ℕ × ℕ) → (v ≡ j.keep) ⊎ (v ≡ j.gone) → partner t j v k ≡ Some b
    → (image t j (VirtualLane b.0 b.1) ≡ image t j (VirtualLane v k)) × (same_lane (VirtualLane b.0 b.1) (VirtualLane v k) ≡ false)

-- a writing of a lane is a copy from a lane with the same image exactly where the sides of the instruction tell that
-- it copies the lane from its partner or from itself
abbrev pub CopiesBySides : Type 0
CopiesBySides =
    (t : Target) (x : LiveFunc) (id : ℕ) (j : Join) → MayCoalesce t x → join_at t x.func id ≡ Some j
    → (b : Block) (i : Instr) (w : Write) → Member b x.func.blocks → Member i b.instrs → Member w (writes_of (item_of t x.func b i))
    → (v k : ℕ) (o : ℕ × ℕ) → w.lane ≡ VirtualLane v k → (v ≡ j.keep) ⊎ (v ≡ j.gone) → partner t j v k ≡ Some o
    → copies (image t j) w.lane w.fill ≡ (copies_lane t (sides_in t (Some i)) (v, k) o || copies_lane t (sides_in t (Some i)) (v, k) (v, k))

-- the table tells of a join that it loses no value exactly where it loses none at any instruction
abbrev pub AskedByInstrs : Type 0
AskedByInstrs =
    (t : Target) (x : LiveFunc) (id : ℕ) (j : Join) → MayCoalesce t x → join_at t x.func id ≡ Some j
    → (AsksQuiet t x j → QuietInstrs t x.func (image t j)) × (QuietInstrs t x.func (image t j) → AsksQuiet t x j)
