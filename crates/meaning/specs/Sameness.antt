-- Tests of sameness.
use Rattle.std.specs.Prelude.{ℕ, Bool, true, false, ◌&&◌, nat_eq, List, [], ◌∷◌, Option, Some, None}
use Rattle.std.specs.Ordering.{int_eq}
use Rattle.target_base.specs.declared.types.Effect.{Effect}
use Rattle.std.specs.Bool.{beq}
use Rattle.target_base.specs.declared.types.Effect.TheVariants as effects
use Rattle.target_base.specs.declared.types.OpaqueKind.TheVariants as kinds
use Rattle.target_base.specs.Storage.{same_numbers}
use Rattle.meaning.specs.declared.types.Constant.{Constant}
use Rattle.meaning.specs.declared.types.Constant.TheVariants.{Immediate, StackAddress, FixedStackAddress, SymbolAddress}
use Rattle.meaning.specs.declared.types.Source.{Source}
use Rattle.meaning.specs.declared.types.Source.TheVariants.{FromLane, Undef, Bits}
use Rattle.meaning.specs.declared.types.Rest.{Rest}
use Rattle.meaning.specs.Lanes.{same_lane}

abbrev pub same_constant : Constant → Constant → Bool
same_constant (Immediate m) (Immediate n) = nat_eq m n
same_constant (StackAddress m) (StackAddress n) = nat_eq m n
same_constant (FixedStackAddress m) (FixedStackAddress n) = nat_eq m n
same_constant (SymbolAddress x) (SymbolAddress y) = same_numbers x y
same_constant _ _ = false

abbrev pub same_source : Source → Source → Bool
same_source (FromLane a) (FromLane b) = same_lane a b
same_source Undef Undef = true
same_source (Bits c low width) (Bits d from to) = same_constant c d && (nat_eq low from && nat_eq width to)
same_source _ _ = false

abbrev pub effect_number : Effect → ℕ
effect_number effects.Copy = 0
effect_number effects.Phi = 1
effect_number effects.ImplicitDef = 2
effect_number effects.RegSequence = 3
effect_number effects.InsertSubreg = 4
effect_number effects.Const = 5
effect_number effects.Addr = 6
effect_number effects.Add = 7
effect_number effects.Sub = 8
effect_number effects.Mul = 9
effect_number effects.And = 10
effect_number effects.Or = 11
effect_number effects.Xor = 12
effect_number effects.Shl = 13
effect_number effects.Shr = 14
effect_number effects.Sar = 15
effect_number effects.Neg = 16
effect_number effects.Not = 17
effect_number effects.Udiv = 18
effect_number effects.Urem = 19
effect_number effects.Madd = 20
effect_number effects.Zext = 21
effect_number effects.Sext = 22
effect_number effects.Cmp = 23
effect_number (effects.Load scale) = 24
effect_number (effects.Store scale) = 25
effect_number effects.Jump = 26
effect_number effects.Jcc = 27
effect_number effects.Jnz = 28
effect_number effects.Call = 29
effect_number effects.Ret = 30
effect_number effects.Marker = 31
effect_number effects.Spill = 32
effect_number effects.Reload = 33
effect_number (effects.Opaque kinds.Plain) = 34
effect_number (effects.Opaque kinds.Branch) = 35
effect_number (effects.Opaque kinds.Call) = 36
effect_number (effects.Opaque kinds.Return) = 37

abbrev pub effect_scale : Effect → ℕ
effect_scale (effects.Load scale) = scale
effect_scale (effects.Store scale) = scale
effect_scale _ = 0

abbrev pub same_effect : Effect → Effect → Bool
same_effect e f = nat_eq (effect_number e) (effect_number f) && nat_eq (effect_scale e) (effect_scale f)

abbrev pub same_list : {A : Type 0} → (A → A → Bool) → List A → List A → Bool
same_list eq [] [] = true
same_list eq (x ∷ xs) (y ∷ ys) = eq x y && same_list eq xs ys
same_list eq _ _ = false

abbrev pub same_option : Option ℕ → Option ℕ → Bool
same_option None None = true
same_option (Some a) (Some b) = nat_eq a b
same_option _ _ = false

-- alike but for registers
abbrev pub same_rest : Rest → Rest → Bool
same_rest r s =
    same_effect r.effect s.effect && (same_list same_numbers r.widths s.widths && (same_numbers r.result s.result && (int_eq r.immediate s.immediate && (same_numbers r.symbol s.symbol && same_list beq r.needed s.needed))))
