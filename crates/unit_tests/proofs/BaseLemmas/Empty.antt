-- A function of one block without instructions.
use Rattle.std.proofs.Common.{◌≡◌, ℕ, ◌+◌, ◌<◌, [], ◌∷◌, length, ap, sym, arith, subst, cond}
use Rattle.std.specs.Prelude.{not, ◌==◌}
use Rattle.mir_func.specs.declared.func.Block.{Block}
use Rattle.mir_func.specs.Value.{IsFunction, id_total, id_count}
use Rattle.mir_func.specs.Edits.{block_place}

none : (b : Block) (id : ℕ) → b.instrs ≡ [] → id_total id (b ∷ []) ≡ 0
none b id e = ap (λ is. 0 + id_count id is) e

pub one_empty_block : (b : Block) → b.instrs ≡ [] → IsFunction (b ∷ []) 0
one_empty_block b e = record { nonempty = omega arith; once = λ id. omega (arith, none b id e) }

pub block_there : (b : Block) → b.number ≡ 7 → block_place 7 (b ∷ []) < length (b ∷ [])
block_there b e = let P : ℕ → Type 0 = λ n. cond (not (n == 7)) 1 0 < 1 in subst P (sym e) (omega arith)
