-- Values that each operation gives, computed apart from these definitions.
use Rattle.std.specs.Prelude.{◌≡◌, pos, List, [], ◌∷◌, map, Some}
use Rattle.target_base.specs.declared.types.Effect.TheVariants as effects
use Rattle.meaning.specs.Environment.{Value}
use Rattle.meaning.specs.declared.types.Rest.{Rest}
use Rattle.meaning.specs.Perform.{perform}
use Rattle.worked_examples.specs.Code.Samples.{op, nothing}
use Rattle.worked_examples.specs.Code.Premises.{fresh}

-- an operation, the values of its operands, and what it gives
abbrev pub Given : Type 0
Given = Rest × List (List Value) × List Value

abbrev pub rows : List Given
rows =
    (op effects.Add ((1 ∷ 2 ∷ 4 ∷ []) ∷ (1 ∷ 2 ∷ 4 ∷ []) ∷ []) (1 ∷ 2 ∷ 4 ∷ []) (pos 0), ((Some 1 ∷ Some 1 ∷ Some 14 ∷ []) ∷ (Some 1 ∷ Some 3 ∷ Some 5 ∷ []) ∷ []), (Some 0 ∷ Some 1 ∷ Some 4 ∷ [])) ∷
    (op effects.Add ((1 ∷ 2 ∷ 4 ∷ []) ∷ (1 ∷ 2 ∷ 4 ∷ []) ∷ []) (1 ∷ 2 ∷ 4 ∷ []) (pos 0), ((Some 1 ∷ Some 0 ∷ Some 0 ∷ []) ∷ (Some 1 ∷ Some 2 ∷ Some 9 ∷ []) ∷ []), (Some 0 ∷ Some 3 ∷ Some 9 ∷ [])) ∷
    (op effects.Sub ((8 ∷ []) ∷ (8 ∷ []) ∷ []) (8 ∷ []) (pos 0), ((Some 231 ∷ []) ∷ (Some 7 ∷ []) ∷ []), (Some 224 ∷ [])) ∷
    (op effects.Sub ((8 ∷ []) ∷ (8 ∷ []) ∷ []) (8 ∷ []) (pos 0), ((Some 255 ∷ []) ∷ (Some 1 ∷ []) ∷ []), (Some 254 ∷ [])) ∷
    (op effects.Mul ((8 ∷ 8 ∷ 16 ∷ []) ∷ (8 ∷ 8 ∷ 16 ∷ []) ∷ []) (8 ∷ 8 ∷ 16 ∷ []) (pos 0), ((Some 0 ∷ Some 0 ∷ Some 32768 ∷ []) ∷ (Some 1 ∷ Some 0 ∷ Some 0 ∷ []) ∷ []), (Some 0 ∷ Some 0 ∷ Some 32768 ∷ [])) ∷
    (op effects.Mul ((8 ∷ 8 ∷ 16 ∷ []) ∷ (8 ∷ 8 ∷ 16 ∷ []) ∷ []) (8 ∷ 8 ∷ 16 ∷ []) (pos 0), ((Some 194 ∷ Some 162 ∷ Some 49675 ∷ []) ∷ (Some 1 ∷ Some 0 ∷ Some 0 ∷ []) ∷ []), (Some 194 ∷ Some 162 ∷ Some 49675 ∷ [])) ∷
    (op effects.Shl ((8 ∷ []) ∷ (8 ∷ []) ∷ []) (8 ∷ []) (pos 0), ((Some 148 ∷ []) ∷ (Some 6 ∷ []) ∷ []), (Some 0 ∷ [])) ∷
    (op effects.Shl ((8 ∷ []) ∷ (8 ∷ []) ∷ []) (8 ∷ []) (pos 0), ((Some 1 ∷ []) ∷ (Some 6 ∷ []) ∷ []), (Some 64 ∷ [])) ∷
    (op effects.Shr ((8 ∷ 8 ∷ 16 ∷ []) ∷ (8 ∷ 8 ∷ 16 ∷ []) ∷ []) (8 ∷ 8 ∷ 16 ∷ []) (pos 0), ((Some 237 ∷ Some 155 ∷ Some 22078 ∷ []) ∷ (Some 12 ∷ Some 0 ∷ Some 0 ∷ []) ∷ []), (Some 233 ∷ Some 99 ∷ Some 5 ∷ [])) ∷
    (op effects.Shr ((8 ∷ []) ∷ (8 ∷ []) ∷ []) (8 ∷ []) (pos 0), ((Some 1 ∷ []) ∷ (Some 16 ∷ []) ∷ []), (Some 1 ∷ [])) ∷
    (op effects.Sar ((8 ∷ 8 ∷ []) ∷ (8 ∷ 8 ∷ []) ∷ []) (8 ∷ 8 ∷ []) (pos 0), ((Some 1 ∷ Some 0 ∷ []) ∷ (Some 13 ∷ Some 0 ∷ []) ∷ []), (Some 0 ∷ Some 0 ∷ [])) ∷
    (op effects.Sar ((8 ∷ []) ∷ (8 ∷ []) ∷ []) (8 ∷ []) (pos 0), ((Some 138 ∷ []) ∷ (Some 18 ∷ []) ∷ []), (Some 226 ∷ [])) ∷
    (op effects.Neg ((8 ∷ []) ∷ []) (8 ∷ []) (pos 0), ((Some 255 ∷ []) ∷ []), (Some 1 ∷ [])) ∷
    (op effects.Neg ((1 ∷ 2 ∷ 4 ∷ []) ∷ []) (1 ∷ 2 ∷ 4 ∷ []) (pos 0), ((Some 0 ∷ Some 1 ∷ Some 0 ∷ []) ∷ []), (Some 0 ∷ Some 3 ∷ Some 15 ∷ [])) ∷
    (op effects.Udiv ((8 ∷ 8 ∷ 16 ∷ []) ∷ (8 ∷ 8 ∷ 16 ∷ []) ∷ []) (8 ∷ 8 ∷ 16 ∷ []) (pos 0), ((Some 243 ∷ Some 217 ∷ Some 54413 ∷ []) ∷ (Some 88 ∷ Some 24 ∷ Some 15926 ∷ []) ∷ []), (Some 3 ∷ Some 0 ∷ Some 0 ∷ [])) ∷
    (op effects.Udiv ((8 ∷ 8 ∷ 16 ∷ []) ∷ (8 ∷ 8 ∷ 16 ∷ []) ∷ []) (8 ∷ 8 ∷ 16 ∷ []) (pos 0), ((Some 1 ∷ Some 0 ∷ Some 0 ∷ []) ∷ (Some 47 ∷ Some 117 ∷ Some 59534 ∷ []) ∷ []), (Some 0 ∷ Some 0 ∷ Some 0 ∷ [])) ∷
    (op effects.Urem ((8 ∷ 8 ∷ []) ∷ (8 ∷ 8 ∷ []) ∷ []) (8 ∷ 8 ∷ []) (pos 0), ((Some 35 ∷ Some 81 ∷ []) ∷ (Some 1 ∷ Some 0 ∷ []) ∷ []), (Some 0 ∷ Some 0 ∷ [])) ∷
    (op effects.Urem ((8 ∷ []) ∷ (8 ∷ []) ∷ []) (8 ∷ []) (pos 0), ((Some 215 ∷ []) ∷ (Some 19 ∷ []) ∷ []), (Some 6 ∷ [])) ∷
    (op effects.Madd ((8 ∷ 8 ∷ 16 ∷ []) ∷ (8 ∷ 8 ∷ 16 ∷ []) ∷ (8 ∷ 8 ∷ 16 ∷ []) ∷ []) (8 ∷ 8 ∷ 16 ∷ []) (pos 0), ((Some 110 ∷ Some 136 ∷ Some 16841 ∷ []) ∷ (Some 203 ∷ Some 36 ∷ Some 32178 ∷ []) ∷ (Some 255 ∷ Some 255 ∷ Some 65535 ∷ []) ∷ []), (Some 57 ∷ Some 167 ∷ Some 5242 ∷ [])) ∷
    (op effects.Madd ((8 ∷ 8 ∷ []) ∷ (8 ∷ 8 ∷ []) ∷ (8 ∷ 8 ∷ []) ∷ []) (8 ∷ 8 ∷ []) (pos 0), ((Some 0 ∷ Some 128 ∷ []) ∷ (Some 255 ∷ Some 255 ∷ []) ∷ (Some 255 ∷ Some 255 ∷ []) ∷ []), (Some 255 ∷ Some 127 ∷ [])) ∷
    (op effects.Zext ((8 ∷ []) ∷ []) (8 ∷ 8 ∷ 16 ∷ []) (pos 0), ((Some 128 ∷ []) ∷ []), (Some 128 ∷ Some 0 ∷ Some 0 ∷ [])) ∷
    (op effects.Zext ((8 ∷ []) ∷ []) (8 ∷ 8 ∷ []) (pos 0), ((Some 71 ∷ []) ∷ []), (Some 71 ∷ Some 0 ∷ [])) ∷
    (op effects.Sext ((1 ∷ []) ∷ []) (8 ∷ []) (pos 0), ((Some 1 ∷ []) ∷ []), (Some 255 ∷ [])) ∷
    (op effects.Sext ((1 ∷ []) ∷ []) (8 ∷ []) (pos 0), ((Some 0 ∷ []) ∷ []), (Some 0 ∷ [])) ∷
    (op effects.And ((8 ∷ 8 ∷ 16 ∷ []) ∷ (8 ∷ 8 ∷ 16 ∷ []) ∷ []) (8 ∷ 8 ∷ 16 ∷ []) (pos 0), ((Some 144 ∷ Some 185 ∷ Some 20899 ∷ []) ∷ (Some 17 ∷ Some 5 ∷ Some 22388 ∷ []) ∷ []), (Some 16 ∷ Some 1 ∷ Some 20768 ∷ [])) ∷
    (op effects.And ((1 ∷ 2 ∷ 4 ∷ []) ∷ (1 ∷ 2 ∷ 4 ∷ []) ∷ []) (1 ∷ 2 ∷ 4 ∷ []) (pos 0), ((Some 1 ∷ Some 0 ∷ Some 0 ∷ []) ∷ (Some 1 ∷ Some 1 ∷ Some 0 ∷ []) ∷ []), (Some 1 ∷ Some 0 ∷ Some 0 ∷ [])) ∷
    (op effects.Or ((8 ∷ []) ∷ (8 ∷ []) ∷ []) (8 ∷ []) (pos 0), ((Some 1 ∷ []) ∷ (Some 198 ∷ []) ∷ []), (Some 199 ∷ [])) ∷
    (op effects.Or ((1 ∷ 2 ∷ 4 ∷ []) ∷ (1 ∷ 2 ∷ 4 ∷ []) ∷ []) (1 ∷ 2 ∷ 4 ∷ []) (pos 0), ((Some 0 ∷ Some 3 ∷ Some 14 ∷ []) ∷ (Some 0 ∷ Some 0 ∷ Some 8 ∷ []) ∷ []), (Some 0 ∷ Some 3 ∷ Some 14 ∷ [])) ∷
    (op effects.Xor ((8 ∷ []) ∷ (8 ∷ []) ∷ []) (8 ∷ []) (pos 0), ((Some 255 ∷ []) ∷ (Some 254 ∷ []) ∷ []), (Some 1 ∷ [])) ∷
    (op effects.Xor ((1 ∷ 2 ∷ 4 ∷ []) ∷ (1 ∷ 2 ∷ 4 ∷ []) ∷ []) (1 ∷ 2 ∷ 4 ∷ []) (pos 0), ((Some 0 ∷ Some 0 ∷ Some 8 ∷ []) ∷ (Some 0 ∷ Some 2 ∷ Some 4 ∷ []) ∷ []), (Some 0 ∷ Some 2 ∷ Some 12 ∷ [])) ∷
    (op effects.Not ((8 ∷ 8 ∷ []) ∷ []) (8 ∷ 8 ∷ []) (pos 0), ((Some 1 ∷ Some 0 ∷ []) ∷ []), (Some 254 ∷ Some 255 ∷ [])) ∷
    (op effects.Not ((1 ∷ 2 ∷ 4 ∷ []) ∷ []) (1 ∷ 2 ∷ 4 ∷ []) (pos 0), ((Some 1 ∷ Some 0 ∷ Some 0 ∷ []) ∷ []), (Some 0 ∷ Some 3 ∷ Some 15 ∷ [])) ∷
    []

abbrev pub OperationsGive : Type 0
OperationsGive = map (λ (row : Given). (perform row.0 nothing fresh row.1).results) rows ≡ map (λ (row : Given). row.2) rows
