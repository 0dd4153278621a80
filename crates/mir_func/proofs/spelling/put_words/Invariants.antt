use Rattle.std.proofs.Common.{◌≡◌, ◌++◌, flat_map, drop}
use Rattle.mir_func.specs.Spelling.{word_of}
use Rattle.mir_func.proofs.spelling.put_words.Given as goal

-- what is written, and what is left to write, are the whole
abbrev pub invariant-operands : goal.invariant-operands
invariant-operands l = l.out ++ flat_map (word_of l.target) (drop l.operand-index l.operands) ≡ l.fn.out ++ flat_map (word_of l.target) l.operands
