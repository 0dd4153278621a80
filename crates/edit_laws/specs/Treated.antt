-- Whether two instructions treat a lane alike, told by tests, and the lanes that an edit concerns.
use Rattle.std.specs.Prelude.{◌≡◌, ◌&&◌, Bool, false, ◌++◌}
use Rattle.std.specs.Bool.{beq}
use Rattle.std.specs.List.{list_all, list_any}
use Rattle.target_base.specs.declared.types.Target.{Target}
use Rattle.meaning.specs.declared.types.Fill.{Fill}
use Rattle.meaning.specs.declared.types.Fill.TheVariants.{Computed, Moved}
use Rattle.meaning.specs.declared.types.Lane.{Lane}
use Rattle.meaning.specs.declared.types.Source.{Source}
use Rattle.meaning.specs.declared.types.Source.TheVariants.{FromLane}
use Rattle.meaning.specs.Code.{Item}
use Rattle.meaning.specs.Lanes.{Reads, Writes, filled, same_lane}
use Rattle.meaning.specs.Live.{reads_of, writes_of}
use Rattle.mir_func.specs.declared.func.Block.{Block}
use Rattle.mir_func.specs.declared.func.Instr.{Instr}
use Rattle.mir_func.specs.Value.{Function}
use Rattle.mir_meaning.specs.Points.{point_item}
use Rattle.edit_laws.specs.Edits.{Edit, Put, Replace, Erase, with_op, Stands, Touches}

-- the source is the lane
abbrev pub is_lane : Lane → Source → Bool
is_lane l (FromLane m) = same_lane m l
is_lane l s = false

abbrev pub reads_lane : Reads → Lane → Bool
reads_lane rs l = list_any (list_any (is_lane l)) rs

abbrev pub writes_lane : Writes → Lane → Bool
writes_lane ws l = list_any (λ w. same_lane w.lane l) ws

abbrev pub writes_early : Writes → Lane → Bool
writes_early ws l = list_any (λ w. same_lane w.lane l && w.early) ws

abbrev pub is_moved : Lane → Fill → Bool
is_moved l (Moved s) = is_lane l s
is_moved l (Computed n) = false

-- after the writes lane a has what lane l had
abbrev pub gives : Writes → Lane → Lane → Bool
gives ws l a = is_moved l (filled ws a)

-- both give the lane to the same ones
abbrev pub give_alike : Writes → Writes → Lane → Bool
give_alike ws vs l = list_all (λ w. beq (gives ws l w.lane) (gives vs l w.lane)) (ws ++ vs)

-- both read the lane, write it and give it to others, or neither does
abbrev pub alike_at : Reads → Writes → Reads → Writes → Lane → Bool
alike_at rs ws qs vs l = beq (reads_lane rs l) (reads_lane qs l) && (beq (writes_lane ws l) (writes_lane vs l) && (beq (writes_early ws l) (writes_early vs l) && give_alike ws vs l))

abbrev pub treat_alike : Item → Item → Lane → Bool
treat_alike i j l = alike_at (reads_of i) (writes_of i) (reads_of j) (writes_of j) l

-- an instruction that comes or goes names the lane, or one that changes treats it otherwise than it did
abbrev pub Concerns : Target → Function → Edit → Lane → Type 0
Concerns t f (Put gap op os) l = Touches t f (Put gap op os) l
Concerns t f (Replace id op os) l = (b : Block) × (i : Instr) × Stands f id b i × (treat_alike (point_item t f b i) (point_item t f b (with_op op os i)) l ≡ false)
Concerns t f (Erase id) l = Touches t f (Erase id) l
