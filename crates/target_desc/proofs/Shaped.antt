-- Roles and registers of another number than is asked for.
use Rattle.std.proofs.Common.{◌≡◌, ℕ, ◌<◌, ◌≤◌, List, [], ◌∷◌, length, drop, map, Bool, true, false, refl, ap, arith}
use Rattle.std.specs.Prelude.{◌&&◌, ◌==◌}
use Rattle.std.proofs.lemmas.List.{drop_more}
use Rattle.target_base.specs.declared.types.Unit.{Unit as UnitNumber}
use Rattle.target_base.specs.declared.types.UnitDesc.{UnitDesc}
use Rattle.target_base.specs.declared.types.Role.{Role}
use Rattle.target_base.specs.Roles.{has_shape}
use Rattle.target_base.specs.Storage.{widths, unit_width, same_numbers}
use Rattle.target_desc.specs.declared.roles.RoleTest.{RoleTest}
use Rattle.target_desc.specs.declared.roles.RoleTest.TheVariants.{Any}
use Rattle.target_desc.specs.Shapes.{passes}

-- a test is left, and no role
pub shape_stops : (tests : List RoleTest) (i : ℕ) (rest : List Role) → i < length tests → length rest < 1 → has_shape (map passes (drop i tests)) rest ≡ false
shape_stops tests i [] h e = ap (λ ts. has_shape (map passes ts) []) (drop_more tests i Any h)
shape_stops tests i (r ∷ rs) h e = absurd (omega arith)

and_false : (a b : Bool) → b ≡ false → (a && b) ≡ false
and_false true b h = h
and_false false b h = refl

pub too_few : (units : List UnitDesc) (us : List UnitNumber) → length us < 3 → same_numbers (widths units us) (1 ∷ 1 ∷ 1 ∷ []) ≡ false
too_few units [] h = refl
too_few units (a ∷ []) h = and_false _ false refl
too_few units (a ∷ b ∷ []) h = and_false _ _ (and_false _ false refl)
too_few units (a ∷ b ∷ c ∷ us) h = absurd (omega arith)

pub too_many : (units : List UnitDesc) (us : List UnitNumber) → 4 ≤ length us → same_numbers (widths units us) (1 ∷ 1 ∷ 1 ∷ []) ≡ false
too_many units [] h = absurd (omega arith)
too_many units (a ∷ []) h = absurd (omega arith)
too_many units (a ∷ b ∷ []) h = absurd (omega arith)
too_many units (a ∷ b ∷ c ∷ []) h = absurd (omega arith)
too_many units (a ∷ b ∷ c ∷ d ∷ us) h = and_false (unit_width units a == 1) _ (and_false (unit_width units b == 1) _ (and_false (unit_width units c == 1) false refl))
