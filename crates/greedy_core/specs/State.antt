-- The state of a run of the allocator, and the order in which ranges are taken.
use Rattle.std.specs.Prelude.{◌≡◌, ◌⊎◌, ℕ, Bool, cond, not, ◌+◌, ◌-◌, ◌^◌, ◌<◌, nat_eq, nat_le, min, List, [], ◌∷◌, ◌++◌, filter, flat_map, find, length, zip, Option, Some, None, slice_get, count_by}
use Rattle.std.specs.List.{list_any, AllZip}
use Rattle.target_base.specs.declared.types.Reg.{Reg}
use Rattle.target_base.specs.declared.types.Target.{Target}
use Rattle.mir_func.specs.declared.func.Instr.{Instr}
use Rattle.mir_func.specs.declared.func.Block.{Block}
use Rattle.mir_func.specs.Value.{Function}
use Rattle.mir_func.specs.Edits.{update}
use Rattle.meaning.specs.Live.{Among}
use Rattle.mir_func.specs.Binding.{registers}
use Rattle.mir_meaning.specs.Points.{Point, Start, Entry, Exit, RangePoint, Tests, is_range, touches, block_points, all_points}

-- how far a range has come: it waits for a register for the first time, or lost one; it is to be split or spilled;
-- or it was made by spilling, for the place of this instruction or of the terminators that this one begins
pub data Stage : Type 0 where
  New Split : Stage
  Tiny : (at : ℕ) → Stage

-- what a run knows of a range: its register, its stage, its cascade number, and how often it comes from a split
pub record Range : Type 0 where
  pub register : Option Reg
  pub stage : Stage
  pub cascade : ℕ
  pub depth : ℕ

-- a range without a register
abbrev pub waiting : Stage → ℕ → Range
waiting stage depth = record { register = None; stage = stage; cascade = 0; depth = depth }

-- A state: the function as it stands, what is known of each range number, the greatest cascade number given so far,
-- the slots (with the original of each range), and the ranges that wait, with their priorities.
pub record State (Slots : Type 0) : Type 0 where
  pub function : Function
  pub ranges : List Range
  pub greatest : ℕ
  pub slots : Slots
  pub queue : List (ℕ × ℕ)

-- an operand of the function names the range
abbrev pub is_named : Function → ℕ → Bool
is_named f v = list_any (λ b. list_any (λ i. list_any (λ o. is_range v o.loc) (registers i.operands)) b.instrs) f.blocks

-- the points of instructions with the number n and on, each with that of its instruction
abbrev pub instr_points : ℕ → List Instr → List (ℕ × Point)
instr_points n [] = []
instr_points n (i ∷ is) = (n, Entry i.id) ∷ (n, Exit i.id) ∷ instr_points (n + 1) is

-- all points in layout, each with the number of its instruction; a block's start counts as the next instruction
abbrev pub numbered_points : ℕ → List Block → List (ℕ × Point)
numbered_points n [] = []
numbered_points n (b ∷ bs) = (n, Start b.number) ∷ (instr_points n b.instrs ++ numbered_points (n + length b.instrs) bs)

-- the number of the first instruction that touches the range, and that of its first point; without points the former
abbrev pub first_touched : ℕ → List Instr → ℕ → ℕ
first_touched v [] n = n
first_touched v (i ∷ is) n = cond (touches v i) n (first_touched v is (n + 1))

abbrev pub first_number : Function → ℕ → (Point → Bool) → ℕ
first_number f v is_point =
    elim (find (λ p. is_point p.1) (numbered_points 0 f.blocks)) [ None ↦ first_touched v (flat_map (λ b. b.instrs) f.blocks) 0 | Some p ↦ p.0 ]

-- how many points a range has, and in how many blocks
abbrev pub size : Function → (Point → Bool) → ℕ
size f is_point = count_by is_point (all_points f)

abbrev pub block_count : Function → (Point → Bool) → ℕ
block_count f is_point = count_by (λ b. list_any is_point (block_points b)) f.blocks

-- The priority: tinies come first, then new ranges of several blocks, the largest first, then new ranges of one block
-- in layout, then ranges that are to be split or spilled.
abbrev pub priority : Function → ℕ → (Point → Bool) → Stage → ℕ
priority f v is_point (Tiny at) = 2 ^ 31
priority f v is_point New =
    cond (nat_le 2 (block_count f is_point)) (2 ^ 30 + min (size f is_point) (2 ^ 30 - 1)) (2 ^ 29 - 1 - min (first_number f v is_point) (2 ^ 29 - 1))
priority f v is_point Split = min (size f is_point) (2 ^ 28)

-- these ranges are changed, each by its number
abbrev pub changed_all : (Range → Range) → List ℕ → List Range → List Range
changed_all change [] rs = rs
changed_all change (v ∷ vs) rs = update v change (changed_all change vs rs)

-- of all that wait this range, of this priority, comes first: the priority is the highest, and its number the lowest at a tie
abbrev pub Highest : List (ℕ × ℕ) → ℕ → ℕ → Type 0
Highest queue v p = Among (v, p) queue × ((w q : ℕ) → Among (w, q) queue → (q < p) ⊎ ((q ≡ p) × ((v ≡ w) ⊎ (v < w))))

module _ {Slots : Type 0} where
  -- this is what the state knows of the range
  abbrev pub Knows : State Slots → ℕ → Range → Type 0
  Knows s v r = slice_get s.ranges v ≡ Some r

  -- the ranges with changes
  abbrev pub with_ranges : (Range → Range) → List ℕ → State Slots → State Slots
  with_ranges change vs s = record s { ranges = changed_all change vs s.ranges }

  -- the range has this priority now
  abbrev pub HasPriority : Target → State Slots → ℕ → ℕ → Type 0
  HasPriority t s v p =
      (r : Range) × Knows s v r × (is_point : Point → Bool) × Tests (RangePoint t s.function v) is_point × (p ≡ priority s.function v is_point r.stage)

  -- the state with these ranges queued, each with the priority that it has now
  abbrev pub Queued : Target → List ℕ → State Slots → State Slots → Type 0
  Queued t vs s s' = (ps : List ℕ) × AllZip (HasPriority t s) vs ps × (s' ≡ record s { queue = s.queue ++ zip vs ps })

  -- the state without these ranges in the queue
  abbrev pub taken_out : List ℕ → State Slots → State Slots
  taken_out vs s = record s { queue = filter (λ w. not (list_any (nat_eq w.0) vs)) s.queue }
