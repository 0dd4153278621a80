-- The blocks of a function over numbered lanes, and what liveness asks of a whole function.
use Rattle.std.specs.Prelude.{◌≡◌, ℕ, suc, Bool, true, false, cond, nat_eq, List, [], ◌∷◌, map, flat_map, filter_map, Option, None, Some, option_map, slice_get}
use Rattle.target_base.specs.declared.types.Target.{Target}
use Rattle.meaning.specs.Live.{Among as Member}
use Rattle.mir_func.specs.declared.func.RegOp.{RegOp}
use Rattle.mir_func.specs.declared.func.Instr.{Instr}
use Rattle.mir_func.specs.declared.func.Block.{Block}
use Rattle.mir_func.specs.Value.{Function}
use Rattle.mir_func.specs.Edits.{instr_place}
use Rattle.mir_meaning.specs.declared.Form.TheVariants as forms
use Rattle.mir_func.specs.Binding.{does, is_terminator}
use Rattle.mir_meaning.specs.Registers.{is_reserved}
use Rattle.mir_meaning.specs.Points.{has_instr}
use Rattle.mir_meaning.specs.Rules.{V5, V7}
use Rattle.mir_meaning.specs.Paths.{Step, Body, Code, writing_of}
use Rattle.instr_effects.specs.Acts.{entered_reads, entered_writes, use_owners}
use Rattle.instr_effects.specs.Ends.{end_uses}
use Rattle.instr_effects.specs.Steps.{Numbering}
use Rattle.instr_effects.specs.Stepping.{step_of, tag_of, IsNumbering, NamesTagged}
use Rattle.live_laws.specs.Effects.Shaped.{is_proper, AreClasses, IsShaped, SlotsTagged}

-- what is read at the ends of blocks
abbrev pub all_end_uses : Target → List Block → List (RegOp × ℕ)
all_end_uses t bs = flat_map (λ b. flat_map (end_uses t) b.instrs) bs

-- the lanes of a use, if it reads at the end of block n
abbrev pub read_at : Target → Function → Numbering → ℕ → RegOp × ℕ → List ℕ
read_at t f num n p = cond (nat_eq p.1 n) (filter_map num (use_owners t f p.0)) []

-- the lanes that phis read at the end of block n
abbrev pub last_reads : Target → Function → Numbering → ℕ → List ℕ
last_reads t f num n = flat_map (read_at t f num n) (all_end_uses t f.blocks)

-- the position of the first block of that number
abbrev pub place_of : ℕ → List Block → Option ℕ
place_of n [] = None
place_of n (b ∷ bs) = cond (nat_eq b.number n) (Some 0) (option_map (λ x. suc x) (place_of n bs))

-- the number of the block at a position
abbrev pub number_at : List Block → ℕ → ℕ
number_at bs x = elim (slice_get bs x) [ None ↦ 0 | Some b ↦ b.number ]

-- where ways lead from a block, by positions
abbrev pub exits_from : List Block → Block → List ℕ
exits_from bs b = filter_map (λ e. place_of e.block bs) b.successors

-- the lane is occupied at the entry of the step too
abbrev pub is_early : ℕ → Step → Bool
is_early n s = elim (writing_of n s.writes) [ None ↦ false | Some w ↦ w.early ]

-- an instruction over numbered lanes
abbrev pub instr_step : Target → Function → Numbering → Instr → Step
instr_step t f num i = step_of num i.id (does is_terminator t i) (entered_reads t f i) (entered_writes t f i)

abbrev pub body_of : Target → Function → Numbering → Block → Body
body_of t f num b = record { steps = map (instr_step t f num) b.instrs; last = last_reads t f num b.number; exits = exits_from f.blocks b }

-- a function over numbered lanes
abbrev pub numbered_code : Target → Function → Numbering → Code
numbered_code t f num = map (body_of t f num) f.blocks

-- the same place one block further on
abbrev pub one_on : ℕ × ℕ → ℕ × ℕ
one_on p = (suc p.0, p.1)

-- where the first instruction of an id stands: its block's position, and its place in the block
abbrev pub spot_in : ℕ → List Block → Option (ℕ × ℕ)
spot_in id [] = None
spot_in id (b ∷ bs) = cond (has_instr id b) (Some (0, instr_place id b.instrs)) (option_map one_on (spot_in id bs))

-- the rules on operands, blocks and phis that liveness rests on; valid functions of both forms keep them
pub record KeepsRules (t : Target) (f : Function) : Type 0 where
  pub classes : AreClasses t f
  pub shaped : (b : Block) (i : Instr) → Member b f.blocks → Member i b.instrs → IsShaped t f i
  pub blocks : (k : ℕ) (b : Block) → slice_get f.blocks k ≡ Some b → V5 f k b ≡ true
  pub phis : (k : ℕ) (b : Block) (j : ℕ) (i : Instr) → slice_get f.blocks k ≡ Some b → slice_get b.instrs j ≡ Some i → V7 t forms.Source f k b j i ≡ true

-- the lanes of a function have numbers, each its own
pub record IsNumbered (t : Target) (f : Function) (num : Numbering) : Type 0 where
  pub numbering : IsNumbering (is_reserved t) num
  pub names : (b : Block) (i : Instr) → Member b f.blocks → Member i b.instrs → NamesTagged t f (tag_of num (is_proper t)) i
  pub slots : (b : Block) (i : Instr) → Member b f.blocks → Member i b.instrs → SlotsTagged t f (tag_of num (is_proper t)) i
