-- Ids given anew, from 0 on in layout order.
use Rattle.std.specs.Prelude.{ℕ, ◌+◌, List, [], ◌∷◌, length}
use Rattle.std.specs.List.{sum_by}
use Rattle.mir_func.specs.declared.func.Block.{Block}
use Rattle.mir_func.specs.declared.func.Instr.{Instr}
use Rattle.mir_func.specs.Value.{Function}

-- instructions with the ids from n on
abbrev pub numbered : ℕ → List Instr → List Instr
numbered n [] = []
numbered n (i ∷ is) = record i { id = n } ∷ numbered (n + 1) is

-- blocks whose instructions have the ids from n on
abbrev pub blocks_numbered : ℕ → List Block → List Block
blocks_numbered n [] = []
blocks_numbered n (b ∷ bs) = record b { instrs = numbered n b.instrs } ∷ blocks_numbered (n + length b.instrs) bs

-- how many instructions there are
abbrev pub instr_count : List Block → ℕ
instr_count bs = sum_by (λ b. length b.instrs) bs

-- the function with ids given anew
abbrev pub with_new_ids : Function → Function
with_new_ids f = record f { blocks = blocks_numbered 0 f.blocks; next_id = instr_count f.blocks }
