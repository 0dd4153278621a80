-- Units that masks preserve.
use Rattle.std.proofs.Common.{◌≡◌, ℕ, Bool, true, false, ◌||◌, List, [], ◌∷◌, ◌++◌, flat_map, refl, sym, ap, ◌∙◌}
use Rattle.std.specs.Prelude.{slice_get, Option, Some, None, ◌==◌}
use Rattle.std.specs.List.{list_any}
use Rattle.target_base.specs.declared.types.MaskId.{MaskId}
use Rattle.target_base.specs.declared.types.MaskDesc.{MaskDesc}
use Rattle.target_base.specs.declared.types.Unit.{Unit as UnitNumber}
use Rattle.target_base.specs.declared.types.Target.{Target}
use Rattle.target_base.specs.Numbers.{unit_number}
use Rattle.target_base.specs.Registers.{units_of, mask_regs}
use Rattle.target_base.specs.Storage.{is_among}
use Rattle.mir_func.specs.declared.func.Operand.TheVariants as operands
use Rattle.mir_meaning.specs.Items.{mask_units, preserves}

any-join : {X : Type 0} (p : X → Bool) (xs ys : List X) → list_any p (xs ++ ys) ≡ (list_any p xs || list_any p ys)
any-join p [] ys = refl
any-join p (x ∷ xs) ys = go (p x) (any-join p xs ys)
  where
    go : (b : Bool) → list_any p (xs ++ ys) ≡ (list_any p xs || list_any p ys) → (b || list_any p (xs ++ ys)) ≡ ((b || list_any p xs) || list_any p ys)
    go true h = refl
    go false h = h

-- a test of some of several lists
pub any-flat : {X Y : Type 0} (p : Y → Bool) (f : X → List Y) (xs : List X) → list_any p (flat_map f xs) ≡ list_any (λ x. list_any p (f x)) xs
any-flat p f [] = refl
any-flat p f (x ∷ xs) = any-join p (f x) (flat_map f xs) ∙ ap (λ b. list_any p (f x) || b) (any-flat p f xs)

mask-units : (t : Target) (k : MaskId) → mask_units t k ≡ flat_map (units_of t) (mask_regs t k)
mask-units t k = go (slice_get t.masks k.0)
  where
    go : (o : Option MaskDesc) → ◌≡◌ {A = List UnitNumber} (elim o [ None ↦ [] | Some d ↦ flat_map (units_of t) d.regs ]) (flat_map (units_of t) (elim o [ None ↦ [] | Some d ↦ d.regs ]))
    go None = refl
    go (Some d) = refl

-- a mask preserves a unit of one of its registers
pub mask_preserves : (t : Target) (u : ℕ) (k : MaskId) → list_any (λ r. is_among (units_of t r) (unit_number u)) (mask_regs t k) ≡ preserves t u (operands.Mask k)
mask_preserves t u k = sym (any-flat (λ v. v.0 == u) (units_of t) (mask_regs t k)) ∙ ap (λ us. is_among us (unit_number u)) (sym (mask-units t k))
