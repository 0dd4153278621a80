-- A block that is changed, and how often an id stands then.
use Rattle.std.proofs.Common.{◌≡◌, ℕ, ◌<◌, ◌+◌, List, length, get_or, set, ap, arith, refl}
use Rattle.std.proofs.lemmas.List.Sums.{sum_by-set}
use Rattle.std.proofs.lemmas.List.{length-set}
use Rattle.mir_func.specs.declared.func.Block.{Block}
use Rattle.mir_func.specs.declared.func.Op.{Op}
use Rattle.mir_func.specs.declared.func.Operand.{Operand}
use Rattle.mir_func.specs.Value.{id_count, id_total, IsFunction}
use Rattle.mir_func.specs.At.{changed_at, cut_at, with_operation}
use Rattle.mir_func.proofs.Counts.{id_count-remove_le, id_count-update}

id_total-written : (x p : ℕ) (b d : Block) (bs : List Block) → p < length bs → d ≡ get_or bs p d → id_total x (set bs p b) + id_count x d.instrs ≡ id_total x bs + id_count x b.instrs
id_total-written x p b d bs within read =
    let same = ap (λ (e : Block). id_count x e.instrs) read in
    omega (arith, sum_by-set (λ (e : Block). id_count x e.instrs) bs p b d within, same)

-- an instruction that does something else under its id leaves a function
pub is_function-replaced : (op : Op) (operands : List Operand) (k p n : ℕ) (b d : Block) (bs : List Block) → p < length bs → d ≡ get_or bs p d → b ≡ changed_at k (with_operation op operands) d → IsFunction bs n → IsFunction (set bs p b) n
is_function-replaced op operands k p n b d bs within read made f = record {
  nonempty = rw length-set f.nonempty;
  once = λ x.
      let same = ap (λ (e : Block). id_count x e.instrs) made in
      let count = id_count-update (with_operation op operands) (λ j. refl) x k d.instrs in
      omega (arith, id_total-written x p b d bs within read, same, count, f.once x);
}

-- without an instruction it is one
pub is_function-cut : (k p n : ℕ) (b d : Block) (bs : List Block) → p < length bs → d ≡ get_or bs p d → b ≡ cut_at k d → IsFunction bs n → IsFunction (set bs p b) n
is_function-cut k p n b d bs within read made f = record {
  nonempty = rw length-set f.nonempty;
  once = λ x.
      let same = ap (λ (e : Block). id_count x e.instrs) made in
      omega (arith, id_total-written x p b d bs within read, same, id_count-remove_le x k d.instrs, f.once x);
}
