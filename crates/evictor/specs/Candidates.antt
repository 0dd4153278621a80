-- The registers that a range may have, the hinted one first.
use Rattle.std.specs.Prelude.{ℕ, cond, not, ◌&&◌, nat_le, List, [], ◌∷◌, map, filter, filter_map, flat_map, find, Option, Some, None, is_none, option_map}
use Rattle.std.specs.List.{list_all, zip}
use Rattle.target_base.specs.declared.types.Reg.{Reg}
use Rattle.target_base.specs.declared.types.Target.{Target}
use Rattle.target_base.specs.Storage.{holds_reg}
use Rattle.target_base.specs.Rules.{is_copy}
use Rattle.mir_func.specs.declared.func.Loc.{Loc}
use Rattle.mir_func.specs.declared.func.Loc.TheVariants.{Virtual, Fixed}
use Rattle.mir_func.specs.declared.func.Operand.{Operand}
use Rattle.mir_func.specs.declared.func.Operand.TheVariants as operands
use Rattle.mir_func.specs.declared.func.Instr.{Instr}
use Rattle.mir_func.specs.declared.func.Block.{Block}
use Rattle.mir_func.specs.Value.{Function}
use Rattle.mir_func.specs.Binding.{does, class_of}
use Rattle.mir_meaning.specs.Points.{is_range}
use Rattle.mir_meaning.specs.Places.{domain}

-- the registers of the assigned ranges
abbrev pub Assignment : Type 0
Assignment = ℕ → Option Reg

-- the register of a side of a copy, where it has one
abbrev pub register_of : Assignment → Loc → Option Reg
register_of a (Virtual w) = a w
register_of a (Fixed r) = Some r

-- the other side of a copy of the whole range from or to a whole register
abbrev pub other_side : ℕ → List Operand → Option Loc
other_side v (operands.Reg d ∷ operands.Reg o ∷ os) =
    cond (not (is_none d.index && is_none o.index)) None
    (cond (is_range v d.loc) (Some o.loc) (cond (is_range v o.loc) (Some d.loc) None))
other_side v os = None

-- the register is among these
abbrev pub if_among : List Reg → Option Reg → Option Reg
if_among rs None = None
if_among rs (Some r) = cond (holds_reg rs r) (Some r) None

-- the register that a copy hints at: that of its other side, where the range may have it
abbrev pub hinted : Target → Function → Assignment → ℕ → Instr → Option Reg
hinted t f a v i = cond (does is_copy t i) (elim (other_side v i.operands) [ None ↦ None | Some l ↦ if_among (domain t (class_of f v)) (register_of a l) ]) None

-- the hints of a block, each with the block's frequency
abbrev pub block_hints : Target → Function → Assignment → ℕ → ℕ × Block → List (ℕ × Reg)
block_hints t f a v p = map (λ r. (p.0, r)) (filter_map (hinted t f a v) p.1.instrs)

-- the hints of all copies in layout
abbrev pub all_hints : Target → Function → Assignment → List ℕ → ℕ → List (ℕ × Reg)
all_hints t f a freqs v = flat_map (block_hints t f a v) (zip freqs f.blocks)

-- the hint of the most frequent copy; of several the first in layout
abbrev pub most_frequent : List (ℕ × Reg) → Option (ℕ × Reg)
most_frequent hs = find (λ h. list_all (λ g. nat_le g.0 h.0) hs) hs

-- a register first, and then the others in their order
abbrev pub with_first : Option Reg → List Reg → List Reg
with_first None rs = rs
with_first (Some r) rs = r ∷ filter (λ q. not (holds_reg (r ∷ []) q)) rs

-- The candidates for a range: the hint, and then the unreserved registers of its class in class order.
abbrev pub candidates : Target → Function → Assignment → List ℕ → ℕ → List Reg
candidates t f a freqs v = with_first (option_map (λ h. h.1) (most_frequent (all_hints t f a freqs v))) (domain t (class_of f v))
