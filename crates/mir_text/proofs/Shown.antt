-- The classes that are left to print behind operands.
use Rattle.std.proofs.Common.{◌≡◌, ℕ, List, [], ◌∷◌, Option, zero, suc, take, drop, refl}
use Rattle.target_base.specs.declared.types.ClassId.{ClassId}
use Rattle.mir_func.specs.declared.func.Operand.{Operand}
use Rattle.mir_text.specs.Print.{left_behind, left_behind_all}

-- operands in two parts
pub left_behind_parts : (n : ℕ) (os : List Operand) (left : List (Option ClassId)) → left_behind_all (left_behind_all left (take n os)) (drop n os) ≡ left_behind_all left os
left_behind_parts zero os left = refl
left_behind_parts (suc n) [] left = refl
left_behind_parts (suc n) (o ∷ os) left = left_behind_parts n os (left_behind left o)
