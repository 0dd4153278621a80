-- The lines that say what is live where in a function.
use Rattle.std.specs.Prelude.{◌≡◌, ℕ, ◌+◌, ◌*◌, ◌-◌, ◌/◌, ◌^◌, Bool, false, cond, min, List, [], ◌∷◌, ◌++◌, codes, length, Option, Some, None}
use Rattle.std.specs.List.{flat_map, list_any, zip}
use Rattle.std.specs.Fmt.{decimal}
use Rattle.target_base.specs.declared.types.ClassId.{ClassId}
use Rattle.target_base.specs.declared.types.Target.{Target}
use Rattle.meaning.specs.declared.types.Lane.TheVariants.{VirtualLane}
use Rattle.mir_func.specs.declared.func.Block.{Block}
use Rattle.mir_func.specs.declared.func.Operand.{Operand}
use Rattle.mir_func.specs.declared.func.Operand.TheVariants as operands
use Rattle.mir_func.specs.Value.{Function}
use Rattle.mir_func.specs.Binding.{class_of}
use Rattle.mir_meaning.specs.Points.{Point, LiveAt, Tests, PointCount, is_range}
use Rattle.mir_meaning.specs.Registers.{numbers, range_widths}
use Rattle.mir_text.specs.Print.{class_name}
use Rattle.block_freq.specs.Weights.{use_sum}
use Rattle.interval_laws.specs.Segments.{Mark, Segment, lane_segments}

-- `function NAME`
abbrev pub function_line : List ℕ → List ℕ
function_line name = codes "function " ++ (name ++ codes "\n")

-- `bb.N freq F`
abbrev pub block_line : ℕ → ℕ → List ℕ
block_line number freq = codes "bb." ++ (decimal number ++ (codes " freq " ++ (decimal freq ++ codes "\n")))

-- the lines of blocks with these frequencies
abbrev pub block_lines : List ℕ → List Block → List ℕ
block_lines freqs bs = flat_map (λ p. block_line p.1.number p.0) (zip freqs bs)

-- `%V CLASS weight W`
abbrev pub range_line : ℕ → List ℕ → ℕ → List ℕ
range_line v class weight =
    codes "%" ++ (decimal v ++ (codes " " ++ (class ++ (codes " weight " ++ (decimal weight ++ codes "\n")))))

-- what stands before the segments of a lane: `  lane K`
abbrev pub lane_head : ℕ → List ℕ
lane_head k = codes "  lane " ++ decimal k

-- a number and a letter
abbrev pub mark_text : Mark → List ℕ
mark_text m = decimal m.0 ++ (m.1 ∷ [])

-- ` [FROM,TO)`
abbrev pub segment_text : Segment → List ℕ
segment_text s = codes " [" ++ (mark_text s.0 ++ (codes "," ++ (mark_text s.1 ++ codes ")")))

-- the line of a lane with these segments
abbrev pub lane_line : ℕ → List Segment → List ℕ
lane_line k segments = lane_head k ++ (flat_map segment_text segments ++ codes "\n")

-- the name of the class of a range, where it has one
abbrev pub class_text : Target → Option ClassId → List ℕ
class_text t None = []
class_text t (Some c) = class_name t c

-- the operand is that range
abbrev pub is_operand : ℕ → Operand → Bool
is_operand v (operands.Reg o) = is_range v o.loc
is_operand v _ = false

-- an operand of these blocks is that range
abbrev pub is_named : ℕ → List Block → Bool
is_named v bs = list_any (λ b. list_any (λ i. list_any (is_operand v) i.operands) b.instrs) bs

-- The weight of a range of so many points: 1024 times the sum over its uses and definitions, `undef` uses aside, of the frequencies
-- of their blocks, divided by 8 more than its points. Of the product no more than 2^128 - 1 counts.
abbrev pub weight : List ℕ → List Block → ℕ → ℕ → ℕ
weight freqs bs v points = min (1024 * use_sum bs freqs v) (2 ^ 128 - 1) / (points + 8)

-- the lines of a range: of its weight, and of each of its lanes with its segments
abbrev pub range_lines : Target → List ℕ → Function → (ℕ → ℕ → List Segment) → (ℕ → ℕ) → ℕ → List ℕ
range_lines t freqs f segments points v =
    cond (is_named v f.blocks)
    (range_line v (class_text t (class_of f v)) (weight freqs f.blocks v (points v)) ++ flat_map (λ k. lane_line k (segments v k)) (numbers 0 (length (range_widths t f v))))
    []

-- the text of a function of a name: of its blocks, and of the ranges that operands name
abbrev pub lines_of : Target → List ℕ → List ℕ → Function → (ℕ → ℕ → List Segment) → (ℕ → ℕ) → List ℕ
lines_of t name freqs f segments points =
    function_line name ++ (block_lines freqs f.blocks ++ flat_map (range_lines t freqs f segments points) (numbers 0 (length f.classes)))

-- The text says what is live where in a function, by tests that tell at which points each lane of each range is live, and counts of
-- the points of each range.
pub record IsLiveText (t : Target) (name freqs : List ℕ) (f : Function) (text : List ℕ) : Type 0 where
  pub live : ℕ → ℕ → Point → Bool
  pub tests : (v k : ℕ) → Tests (λ p. LiveAt t f p (VirtualLane v k)) (live v k)
  pub points : ℕ → ℕ
  pub counts : (v : ℕ) → PointCount t f v (points v)
  pub is : text ≡ lines_of t name freqs f (λ v k. lane_segments t f (VirtualLane v k) (live v k)) points
