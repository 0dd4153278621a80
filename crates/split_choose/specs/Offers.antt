-- Which splits are offered to a live range, over a function whose ranges have registers or wait.
use Rattle.std.specs.Prelude.{◌≡◌, ◌≢◌, ◌⊎◌, Decides, ℕ, zero, suc, Bool, true, false, cond, not, ◌&&◌, ◌||◌, ◌+◌, ◌-◌, ◌*◌, nat_eq, nat_lt, nat_le, List, [], ◌∷◌, ◌++◌, map, filter, flat_map, find, take, drop, length, zip, Option, Some, None, option_map, slice_get}
use Rattle.std.specs.List.{list_all, list_any, sum_by}
use Rattle.target_base.specs.declared.types.Unit.{Unit as UnitNumber}
use Rattle.target_base.specs.declared.types.Reg.{Reg}
use Rattle.target_base.specs.declared.types.Target.{Target}
use Rattle.target_base.specs.Registers.{units_of}
use Rattle.meaning.specs.declared.types.Lane.TheVariants.{VirtualLane, UnitLane}
use Rattle.meaning.specs.Live.{Among}
use Rattle.mir_func.specs.declared.func.Edge.{Edge}
use Rattle.mir_func.specs.declared.func.Instr.{Instr}
use Rattle.mir_func.specs.declared.func.Block.{Block}
use Rattle.mir_func.specs.Value.{Function}
use Rattle.mir_func.specs.Edits.{block_place, instr_place}
use Rattle.mir_func.specs.Binding.{class_of, does, is_terminator}
use Rattle.mir_meaning.specs.Points.{Point, Start, Entry, Exit, LiveAt, OccupiedAt, RangePoint, HeldIn, Tests, touches, block_points, all_points}
use Rattle.mir_meaning.specs.Places.{domain}
use Rattle.block_freq.specs.Weights.{naming, use_sum}
use Rattle.live_lanes.specs.declared.ask.labels.Mark.{Mark}
use Rattle.live_lanes.specs.declared.ask.labels.Spot.TheVariants as spots

-- the start or the end of a block, by its number
pub data Border : Type 0 where
  In Out : (block : ℕ) → Border

-- the block of a border
abbrev pub block_of : Border → ℕ
block_of (In n) = n
block_of (Out n) = n

-- Edge bundles: the end of a block and the starts of those that follow it are one, and so on along all edges.
pub data OneBundle (bs : List Block) : Border × Border → Type 0 where
  itself : {x : Border} → OneBundle bs (x, x)
  edge : {b : Block} {e : Edge} → Among b bs → Among e b.successors → OneBundle bs (Out b.number, In e.block)
  back : {x y : Border} → OneBundle bs (x, y) → OneBundle bs (y, x)
  onward : {x y z : Border} → OneBundle bs (x, y) → OneBundle bs (y, z) → OneBundle bs (x, z)

-- some lane of the range is live at the point
abbrev pub RangeLive : Target → Function → ℕ → Point → Type 0
RangeLive t f v p = (k : ℕ) × LiveAt t f p (VirtualLane v k)

-- Something else than the range holds the unit at the point: it is live or written itself, or a lane of another range
-- lies in it. `registers` are those of ranges, by their numbers.
abbrev pub HeldByOthers : Target → Function → List (Option Reg) → ℕ → UnitNumber × Point → Type 0
HeldByOthers t f registers v p =
    OccupiedAt t f p.1 (UnitLane p.0.0)
    ⊎ ((w : ℕ) × (q : Reg) × (w ≢ v) × (slice_get registers w ≡ Some (Some q)) × HeldIn t f w q p.1 p.0)

-- what offers ask, as tests: of points, whether the range is live there, and whether it has a lane there; of units
-- at points, whether something else holds them; of two borders, whether they are of one bundle
pub record View : Type 0 where
  pub live : Point → Bool
  pub is_point : Point → Bool
  pub held : UnitNumber × Point → Bool
  pub one_bundle : Border × Border → Bool

-- the test tells of each point of the function whether this holds there
abbrev pub TestsPoints : Function → (Point → Type 0) → (Point → Bool) → Type 0
TestsPoints f P test = (p : Point) → Among p (all_points f) → Decides (test p) (P p)

-- the tests tell this of a range of the function
pub record Shows (t : Target) (f : Function) (registers : List (Option Reg)) (v : ℕ) (view : View) : Type 0 where
  pub live : TestsPoints f (RangeLive t f v) view.live
  pub is_point : TestsPoints f (RangePoint t f v) view.is_point
  pub held : (u : UnitNumber) → TestsPoints f (λ p. HeldByOthers t f registers v (u, p)) (λ p. view.held (u, p))
  pub one_bundle : Tests (OneBundle f.blocks) view.one_bundle

-- the point at a block's end
abbrev pub last_point : Point → List Instr → Point
last_point p [] = p
last_point p (i ∷ is) = last_point (Exit i.id) is

abbrev pub end_point : Block → Point
end_point b = last_point (Start b.number) b.instrs

-- the id of the first of these instructions
abbrev pub first_id : List Instr → Option ℕ
first_id [] = None
first_id (i ∷ is) = Some i.id

-- the id of the last of these instructions, the first being of this id
abbrev pub last_id : ℕ → List Instr → ℕ
last_id id [] = id
last_id id (i ∷ is) = last_id i.id is

-- from the block's start on a label holds; from a gap on, which is before an instruction or at the block's end
abbrev pub at_start : ℕ → ℕ → Mark
at_start n label = record { block = n; spot = spots.Border; label = label }

abbrev pub at_gap : ℕ → Option ℕ → ℕ → Mark
at_gap n before label = record { block = n; spot = spots.Gap (record { block = n; before = before }); label = label }

-- a touched place: an instruction, or the terminators of a block together, by the ids of the first and the last
pub record Touched : Type 0 where
  pub block : ℕ
  pub first : ℕ
  pub last : ℕ
  pub is_end : Bool

-- the first of a list
abbrev pub first_of : {X : Type 0} → List X → Option X
first_of [] = None
first_of (x ∷ xs) = Some x

-- the first of those with the least number
abbrev pub least : {X : Type 0} → List (ℕ × X) → Option (ℕ × X)
least [] = None
least (x ∷ xs) = elim (least xs) [ None ↦ Some x | Some y ↦ cond (nat_lt y.0 x.0) (Some y) (Some x) ]

-- the points are the same
abbrev pub same_point : Point → Point → Bool
same_point (Start n) (Start m) = nat_eq n m
same_point (Entry n) (Entry m) = nat_eq n m
same_point (Exit n) (Exit m) = nat_eq n m
same_point _ _ = false

-- the points of a list from one on
abbrev pub from_point : Point → List Point → List Point
from_point p [] = []
from_point p (q ∷ qs) = cond (same_point p q) (q ∷ qs) (from_point p qs)

-- the points of a list up to one
abbrev pub to_point : Point → List Point → List Point
to_point p [] = []
to_point p (q ∷ qs) = cond (same_point p q) (q ∷ []) (q ∷ to_point p qs)

-- where in a block a region lies: nowhere, everywhere, up to the terminators, or from the first gap on
pub data Inside : Type 0 where
  Nowhere Whole Head Tail : Inside

module _ (t : Target) (f : Function) (v : ℕ) (view : View) where
  -- the terminators of a block, and the gap before them
  abbrev pub terminators : Block → List Instr
  terminators b = filter (does is_terminator t) b.instrs

  abbrev pub before_terminators : Block → Option ℕ
  before_terminators b = first_id (terminators b)

  -- the instructions of a block that touch the range and aren't terminators
  abbrev pub touching : Block → List Instr
  touching b = filter (λ i. touches v i && not (does is_terminator t i)) b.instrs

  abbrev pub end_place : Block → List Instr → List Touched
  end_place b [] = []
  end_place b (i ∷ is) = cond (list_any (touches v) (i ∷ is)) (record { block = b.number; first = i.id; last = last_id i.id is; is_end = true } ∷ []) []

  -- the touched places of the range, in layout
  abbrev pub touched_places : List Touched
  touched_places = flat_map (λ b. map (λ i. record { block = b.number; first = i.id; last = i.id; is_end = false }) (touching b) ++ end_place b (terminators b)) f.blocks

  -- the range is live at the border
  abbrev pub live_at : Border → Bool
  live_at (In n) = view.live (Start n)
  live_at (Out n) = elim (find (λ b. nat_eq b.number n) f.blocks) [ None ↦ false | Some b ↦ view.live (end_point b) ]

  abbrev pub borders : List Border
  borders = flat_map (λ b. In b.number ∷ Out b.number ∷ []) f.blocks

  -- at this point, if it is one of the range, no unit of the register is held by anything else
  abbrev pub clashes_not : Reg → Point → Bool
  clashes_not p q = not (view.is_point q) || list_all (λ u. not (view.held (u, q))) (units_of t p)

  -- block b is clear for the register: it clashes with nothing at the range's points there
  abbrev pub is_clear : Reg → Block → Bool
  is_clear p b = list_all (clashes_not p) (block_points b)

  -- the block of a border is clear
  abbrev pub border_clear : Reg → Border → Bool
  border_clear p x = list_all (λ b. not (nat_eq b.number (block_of x)) || is_clear p b) f.blocks

  -- the bundle of the border is in: every block is clear that has a border of it at which the range is live
  abbrev pub is_in : Reg → Border → Bool
  is_in p x = list_all (λ y. not (view.one_bundle (x, y) && live_at y) || border_clear p y) borders

  -- the range is live at the border, and its bundle is in; or it isn't in
  abbrev pub lives_in : Reg → Border → Bool
  lives_in p x = live_at x && is_in p x

  abbrev pub lives_out : Reg → Border → Bool
  lives_out p x = live_at x && not (is_in p x)

  -- A clear block that holds a point of the range belongs inside where the range is live only at borders that are in.
  -- One that starts inside and ends outside changes before its terminators, and the other way round at its first gap.
  abbrev pub inside : Reg → Block → Inside
  inside p b =
      cond (not (is_clear p b && list_any view.is_point (block_points b))) Nowhere
      (cond (not (lives_out p (In b.number) || lives_out p (Out b.number))) Whole
      (cond (lives_in p (In b.number)) Head
      (cond (lives_in p (Out b.number)) Tail Nowhere)))

  -- the labels: 1 inside
  abbrev pub inside_marks : Block → Inside → List Mark
  inside_marks b Nowhere = []
  inside_marks b Whole = at_start b.number 1 ∷ []
  inside_marks b Head = at_start b.number 1 ∷ at_gap b.number (before_terminators b) 0 ∷ []
  inside_marks b Tail = at_gap b.number (first_id b.instrs) 1 ∷ []

  abbrev pub region_marks : Reg → List Mark
  region_marks p = flat_map (λ b. inside_marks b (inside p b)) f.blocks

  -- the operands that name the range in these instructions
  abbrev pub operands_in : List Instr → ℕ
  operands_in is = sum_by (naming v) is

  -- what a block costs each time: a copy where it changes, and the operands outside
  abbrev pub inside_cost : Block → Inside → ℕ
  inside_cost b Nowhere = operands_in b.instrs
  inside_cost b Whole = 0
  inside_cost b Head = 1 + operands_in (terminators b)
  inside_cost b Tail = 1

  abbrev pub region_cost : List ℕ → Reg → ℕ
  region_cost freqs p = sum_by (λ b. b.0 * inside_cost b.1 (inside p b.1)) (zip freqs f.blocks)

  -- the registers whose regions cost less than the range does, with these costs
  abbrev pub regions : List ℕ → List (ℕ × Reg)
  regions freqs = filter (λ c. nat_lt c.0 (use_sum f.blocks freqs v)) (map (λ p. (region_cost freqs p, p)) (domain t (class_of f v)))

  -- two or more places touch the range
  abbrev pub is_dividable : Bool
  is_dividable = nat_le 2 (length touched_places)

  -- the region split that is offered: that of least cost, then of the first register
  abbrev pub region_offer : List ℕ → Option (Reg × List Mark)
  region_offer freqs = cond is_dividable (option_map (λ c. (c.1, region_marks c.1)) (least (regions freqs))) None

  -- each block with two or more places that aren't its terminators gets a label, the next after n, from its first gap to before its terminators
  abbrev pub block_marks : ℕ → List Block → List Mark
  block_marks n [] = []
  block_marks n (b ∷ bs) =
      cond (nat_le 2 (length (touching b)))
      (at_gap b.number (first_id b.instrs) (n + 1) ∷ at_gap b.number (before_terminators b) 0 ∷ block_marks (n + 1) bs)
      (block_marks n bs)

  abbrev pub some_marks : List Mark → Option (List Mark)
  some_marks [] = None
  some_marks (m ∷ ms) = Some (m ∷ ms)

  -- the block split that is offered to a range that is live at some border
  abbrev pub block_offer : Option (List Mark)
  block_offer = cond (is_dividable && list_any live_at borders) (some_marks (block_marks 0 f.blocks)) None

  -- all runs of n consecutive places, in layout
  abbrev pub runs_of : ℕ → List Touched → List (List Touched)
  runs_of n [] = []
  runs_of n (p ∷ ps) = cond (nat_le n (length (p ∷ ps))) (take n (p ∷ ps) ∷ runs_of n ps) []

  -- all runs of n places or fewer, but of two or more: the longest first, then the earliest
  abbrev pub runs_up_to : ℕ → List Touched → List (List Touched)
  runs_up_to zero ps = []
  runs_up_to (suc n) ps = cond (nat_lt n 1) [] (runs_of (suc n) ps ++ runs_up_to n ps)

  -- a run with its first and its last place
  abbrev pub ends_of : Touched → List Touched → Touched × Touched
  ends_of p [] = (p, p)
  ends_of p (q ∷ qs) = (p, (ends_of q qs).1)

  abbrev pub run_ends : List Touched → List (Touched × Touched)
  run_ends [] = []
  run_ends (p ∷ ps) = ends_of p ps ∷ []

  -- the register clashes with nothing at the range's points from the entry of the first place to the exit of the last
  abbrev pub clear_along : (Touched × Touched) × Reg → Bool
  clear_along r = list_all (clashes_not r.1) (to_point (Exit r.0.1.last) (from_point (Entry r.0.0.first) (all_points f)))

  -- the runs of two or more places, but not of all, with registers, in the order in which they are preferred
  abbrev pub runs : List ((Touched × Touched) × Reg)
  runs = flat_map (λ r. map (λ p. (r, p)) (domain t (class_of f v))) (flat_map run_ends (runs_up_to (length touched_places - 1) touched_places))

  -- the blocks behind one, up to another
  abbrev pub blocks_between : ℕ → ℕ → List Block
  blocks_between n m = take (block_place m f.blocks - block_place n f.blocks) (drop (block_place n f.blocks + 1) f.blocks)

  -- the gap right behind an instruction
  abbrev pub gap_behind : ℕ → List Block → Option ℕ
  gap_behind id [] = None
  gap_behind id (b ∷ bs) = cond (nat_lt (instr_place id b.instrs) (length b.instrs)) (first_id (drop (instr_place id b.instrs + 1) b.instrs)) (gap_behind id bs)

  -- label 1 from right before the first place to right behind the last, or to the end of a block whose terminators this is
  abbrev pub run_marks : Touched × Touched → List Mark
  run_marks r =
      at_gap r.0.block (Some r.0.first) 1
      ∷ (map (λ b. at_start b.number 1) (blocks_between r.0.block r.1.block)
      ++ cond r.1.is_end [] (at_gap r.1.block (gap_behind r.1.last f.blocks) 0 ∷ []))

  -- the local split that is offered to a range that is live at no border
  abbrev pub local_offer : Option (Reg × List Mark)
  local_offer =
      cond (is_dividable && not (list_any live_at borders))
      (option_map (λ r. (r.1, run_marks r.0)) (find clear_along runs))
      None

-- the region split, the block split and the local split that are offered, or that none is
abbrev pub Region : Target → Function → List (Option Reg) → List ℕ → ℕ → Option (Reg × List Mark) → Type 0
Region t f registers freqs v offer = (view : View) × Shows t f registers v view × (offer ≡ region_offer t f v view freqs)

abbrev pub PerBlock : Target → Function → List (Option Reg) → ℕ → Option (List Mark) → Type 0
PerBlock t f registers v offer = (view : View) × Shows t f registers v view × (offer ≡ block_offer t f v view)

abbrev pub Local : Target → Function → List (Option Reg) → ℕ → Option (Reg × List Mark) → Type 0
Local t f registers v offer = (view : View) × Shows t f registers v view × (offer ≡ local_offer t f v view)
