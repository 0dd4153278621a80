-- Which blocks of an allocated function keep what is printed of the source's.
use Rattle.std.specs.Prelude.{Bool, true, false, ◌&&◌, nat_eq, List, [], ◌∷◌}
use Rattle.target_base.specs.declared.types.Reg.{Reg}
use Rattle.target_base.specs.declared.types.Target.{Target}
use Rattle.target_base.specs.Storage.{same_numbers}
use Rattle.mir_func.specs.declared.func.Edge.{Edge}
use Rattle.mir_func.specs.declared.func.Block.{Block}
use Rattle.mir_meaning.specs.Agreement.{all_alike}
use Rattle.source_text.specs.Instructions.{keep_instrs}

-- the same successor with the same probability
abbrev pub same_edge : Edge → Edge → Bool
same_edge e d = nat_eq e.block d.block && nat_eq e.prob d.prob

abbrev pub same_reg : Reg → Reg → Bool
same_reg r q = nat_eq r.0 q.0

-- Block c keeps block b's number, name, text in parentheses, successors in order, and the flags and tails of its
-- instructions. Where a source writes no successors or no probabilities, its reader has given the block those that are due.
abbrev pub keeps_block : Target → Block → Block → Bool
keeps_block t b c =
    nat_eq b.number c.number
    && same_numbers b.name c.name
    && same_numbers b.attributes c.attributes
    && all_alike same_edge b.successors c.successors
    && keep_instrs t b.instrs c.instrs

-- the entry blocks, the first ones, list the same live-ins
abbrev pub same_entries : List Block → List Block → Bool
same_entries (b ∷ bs) (c ∷ cs) = all_alike same_reg b.liveins c.liveins
same_entries [] [] = true
same_entries _ _ = false

-- each block keeps that of the source in its place
abbrev pub keep_blocks : Target → List Block → List Block → Bool
keep_blocks t bs cs = same_entries bs cs && all_alike (keeps_block t) bs cs
