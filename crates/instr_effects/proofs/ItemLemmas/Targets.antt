-- What the rules of a target tell of the registers of its classes.
use Rattle.std.proofs.Common.{◌≡◌, ℕ, ◌≤◌, List, [], ◌∷◌, length, Some, None, true, arith, refl}
use Rattle.std.specs.Prelude.{Option, slice_get}
use Rattle.std.specs.List.{list_all}
use Rattle.std.proofs.lemmas.Bool.{leb-true}
use Rattle.std.proofs.lemmas.Option.{slice_get_within, get_or_from_slice_get}
use Rattle.target_base.specs.declared.types.Reg.{Reg}
use Rattle.target_base.specs.declared.types.RegDesc.{RegDesc}
use Rattle.target_base.specs.declared.types.UnitDesc.{UnitDesc}
use Rattle.target_base.specs.declared.types.Target.{Target}
use Rattle.target_base.specs.Storage.{class_units, units_in}
use Rattle.target_base.specs.Rules.{is_reg_desc, most_lanes}
use Rattle.target_base.proofs.Tests.{first_of_both, second_of_both, each_passes}
use Rattle.target_base.proofs.Sound.{regs_sound}

few_lanes : (version : ℕ) → most_lanes version ≤ 32
few_lanes version = grind arith

few_here : (version : ℕ) (units : List UnitDesc) (d : RegDesc) → is_reg_desc version units d ≡ true → length d.units ≤ 32
few_here version units d h =
    let e : length d.units ≤ most_lanes version = leb-true _ _ (second_of_both _ _ (first_of_both _ _ (first_of_both _ _ (first_of_both _ _ h)))) in
    omega (arith, e, few_lanes version)

few_at : (version : ℕ) (units : List UnitDesc) (regs : List RegDesc) (o : Option RegDesc) (k : ℕ) → list_all (is_reg_desc version units) regs ≡ true → slice_get regs k ≡ o → length (units_in o) ≤ 32
few_at version units regs None k h e = omega arith
few_at version units regs (Some d) k h e =
    let p = each_passes (is_reg_desc version units) regs k d (slice_get_within regs k d e) h in
    few_here version units d (rw (get_or_from_slice_get regs k d d e) at p)

few_of_class : (version : ℕ) (units : List UnitDesc) (regs : List RegDesc) (rs : List Reg) → list_all (is_reg_desc version units) regs ≡ true → length (class_units regs rs) ≤ 32
few_of_class version units regs [] h = omega arith
few_of_class version units regs (r ∷ rs) h = few_at version units regs (slice_get regs r.0) r.0 h refl

-- a class has few lanes
pub few_lanes_of : (t : Target) (rs : List Reg) → length (class_units t.regs rs) ≤ 32
few_lanes_of t rs = few_of_class t.version t.units t.regs rs (second_of_both _ _ (first_of_both _ _ (regs_sound t.name t.version t.units t.regs t.reserved t.indexes t.classes t.masks t.opcodes t.sound)))
