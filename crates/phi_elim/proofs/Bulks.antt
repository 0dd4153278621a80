-- Sums that stop at a greatest number.
use Rattle.std.proofs.Common.{◌≡◌, ℕ, ◌+◌, ◌<◌, min, List, length, get_or, take, arith}
use Rattle.std.specs.List.{sum_by}
use Rattle.std.proofs.lemmas.List.Sums.{sum_by_more}
use Rattle.mir_func.specs.declared.func.Instr.{Instr}
use Rattle.mir_func.specs.declared.func.Block.{Block}
use Rattle.phi_elim.specs.Bulk.{operand_count}

capped_more : (m a b s x : ℕ) → s ≡ min (a + b) m → min (s + x) m ≡ min (a + (b + x)) m
capped_more m a b s x e = omega arith

pub operands_more : (m a i s : ℕ) (is : List Instr) (x : Instr) → i < length is → x ≡ get_or is i x → s ≡ min (a + operand_count (take i is)) m → min (s + length x.operands) m ≡ min (a + operand_count (take (i + 1) is)) m
operands_more m a i s is x h at was =
    let more = sum_by_more (λ (j : Instr). length j.operands) is i x h in
    let n : operand_count (take (i + 1) is) ≡ operand_count (take i is) + length x.operands = rw (← at) at more in
    rw n (capped_more m a _ s _ was)

pub blocks_more : (m a i s : ℕ) (bs : List Block) (b : Block) → i < length bs → b ≡ get_or bs i b → s ≡ min (a + sum_by (λ x. operand_count x.instrs) (take i bs)) m → min (s + operand_count b.instrs) m ≡ min (a + sum_by (λ x. operand_count x.instrs) (take (i + 1) bs)) m
blocks_more m a i s bs b h at was =
    let more = sum_by_more (λ (x : Block). operand_count x.instrs) bs i b h in
    let n : sum_by (λ (x : Block). operand_count x.instrs) (take (i + 1) bs) ≡ sum_by (λ (x : Block). operand_count x.instrs) (take i bs) + operand_count b.instrs = rw (← at) at more in
    rw n (capped_more m a _ s _ was)

pub ruleset bulks = (operands_more, blocks_more)
