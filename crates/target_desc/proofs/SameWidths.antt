-- Widths that stay when units, registers and classes are added.
use Rattle.std.proofs.Common.{◌≡◌, ℕ, ◌≤◌, List, [], ◌∷◌, ◌++◌, length, length-append, true, refl, ap, ◌∙◌, arith, suc, zero, sum}
use Rattle.std.specs.Prelude.{nat_lt, nat_le, slice_get}
use Rattle.std.specs.List.{list_all}
use Rattle.std.proofs.lemmas.Bool.{ltb-true}
use Rattle.target_base.specs.declared.types.Unit.{Unit as UnitNumber}
use Rattle.target_base.specs.declared.types.Reg.{Reg}
use Rattle.target_base.specs.declared.types.ClassId.{ClassId}
use Rattle.target_base.specs.declared.types.UnitDesc.{UnitDesc}
use Rattle.target_base.specs.declared.types.RegDesc.{RegDesc}
use Rattle.target_base.specs.declared.types.ClassDesc.{ClassDesc}
use Rattle.target_base.specs.declared.types.MaskDesc.{MaskDesc}
use Rattle.target_base.specs.Storage.{unit_width, width_in, widths, units_in, reg_units, regs_in, class_regs, class_widths, same_numbers}
use Rattle.target_base.specs.Roles.{widths_of_class}
use Rattle.target_base.specs.Rules.{is_reg_desc, is_class_desc, is_mask_desc}
use Rattle.target_base.proofs.Tests.{first_of_both, second_of_both}
use Rattle.target_desc.proofs.Grown.{both, all_kept, all_kept_where, get_kept, below_more}

unit_width_kept : (units us : List UnitDesc) (u : UnitNumber) → nat_lt u.0 (length units) ≡ true → unit_width (units ++ us) u ≡ unit_width units u
unit_width_kept units us u h = ap width_in (get_kept units us u.0 (ltb-true u.0 (length units) h))

widths_kept : (units us : List UnitDesc) (ns : List UnitNumber) → list_all (λ u. nat_lt u.0 (length units)) ns ≡ true → widths (units ++ us) ns ≡ widths units ns
widths_kept units us [] h = refl
widths_kept units us (n ∷ ns) h = λ i. unit_width_kept units us n (first_of_both _ _ h) i ∷ widths_kept units us ns (second_of_both _ _ h) i

pub reg_units_known : (version : ℕ) (units : List UnitDesc) (r : RegDesc) → is_reg_desc version units r ≡ true → list_all (λ u. nat_lt u.0 (length units)) r.units ≡ true
reg_units_known version units r h = second_of_both _ _ (first_of_both _ _ (first_of_both _ _ h))

pub units_known : (version : ℕ) (units : List UnitDesc) (regs : List RegDesc) (k : ℕ) → list_all (is_reg_desc version units) regs ≡ true → list_all (λ u. nat_lt u.0 (length units)) (units_in (slice_get regs k)) ≡ true
units_known version units [] k h = refl
units_known version units (r ∷ rs) zero h = reg_units_known version units r (first_of_both _ _ h)
units_known version units (r ∷ rs) (suc k) h = units_known version units rs k (second_of_both _ _ h)

longer : {X : Type 0} (xs ys : List X) → length xs ≤ length (xs ++ ys)
longer xs ys = omega (arith, length-append xs ys)

pub reg_kept : (version : ℕ) (units us : List UnitDesc) (r : RegDesc) → is_reg_desc version units r ≡ true → is_reg_desc version (units ++ us) r ≡ true
reg_kept version units us r h =
    let known = reg_units_known version units r h in
    let known_still = all_kept (λ u. nat_lt u.0 (length units)) (λ u. nat_lt u.0 (length (units ++ us))) r.units (λ u. below_more _ _ u.0 (longer units us)) known in
    let width = second_of_both _ _ h in
    let width_still : nat_le (sum (widths (units ++ us) r.units)) 128 ≡ true = ap (λ ws. nat_le (sum ws) 128) (widths_kept units us r.units known) ∙ width in
    both _ _ (both _ _ (both _ _ (first_of_both _ _ (first_of_both _ _ (first_of_both _ _ h))) known_still) (second_of_both _ _ (first_of_both _ _ h))) width_still

-- registers of the first lists have their widths in the second too
pub record SameWidths (units : List UnitDesc) (regs : List RegDesc) (more_units : List UnitDesc) (more_regs : List RegDesc) : Type 0 where
  pub each : (r : Reg) → nat_lt r.0 (length regs) ≡ true → widths more_units (reg_units more_regs r) ≡ widths units (reg_units regs r)

pub same_widths : (version : ℕ) (units us : List UnitDesc) (regs rs : List RegDesc) → list_all (is_reg_desc version units) regs ≡ true → SameWidths units regs (units ++ us) (regs ++ rs)
same_widths version units us regs rs h = record {
  each = λ r k. ap (λ o. widths (units ++ us) (units_in o)) (get_kept regs rs r.0 (ltb-true r.0 (length regs) k)) ∙ widths_kept units us (reg_units regs r) (units_known version units regs r.0 h);
}

module _ (units : List UnitDesc) (regs : List RegDesc) (more_units : List UnitDesc) (more_regs : List RegDesc) (same : SameWidths units regs more_units more_regs) where
  class_widths_kept : (rs : List Reg) → list_all (λ r. nat_lt r.0 (length regs)) rs ≡ true → class_widths more_units more_regs rs ≡ class_widths units regs rs
  class_widths_kept [] h = refl
  class_widths_kept (r ∷ rs) h = same.each r (first_of_both _ _ h)

  pub class_kept : (c : ClassDesc) → length regs ≤ length more_regs → is_class_desc units regs c ≡ true → is_class_desc more_units more_regs c ≡ true
  class_kept c le h =
      let known : list_all (λ r. nat_lt r.0 (length regs)) c.regs ≡ true = second_of_both _ _ (first_of_both _ _ (first_of_both _ _ h)) in
      let known_still = all_kept (λ r. nat_lt r.0 (length regs)) (λ r. nat_lt r.0 (length more_regs)) c.regs (λ r. below_more _ _ r.0 le) known in
      let first = class_widths_kept c.regs known in
      let widths_still = all_kept_where (λ r. nat_lt r.0 (length regs)) (λ r. same_numbers (widths units (reg_units regs r)) (class_widths units regs c.regs)) (λ r. same_numbers (widths more_units (reg_units more_regs r)) (class_widths more_units more_regs c.regs)) c.regs (λ r k p. (λ i. same_numbers (same.each r k i) (first i)) ∙ p) known (second_of_both _ _ h) in
      both _ _ (both _ _ (both _ _ (first_of_both _ _ (first_of_both _ _ (first_of_both _ _ h))) known_still) (second_of_both _ _ (first_of_both _ _ h))) widths_still

  regs_known : (classes : List ClassDesc) (k : ℕ) → list_all (is_class_desc units regs) classes ≡ true → list_all (λ r. nat_lt r.0 (length regs)) (regs_in (slice_get classes k)) ≡ true
  regs_known [] k h = refl
  regs_known (c ∷ cs) zero h = second_of_both _ _ (first_of_both _ _ (first_of_both _ _ (first_of_both _ _ h)))
  regs_known (c ∷ cs) (suc k) h = regs_known cs k (second_of_both _ _ h)

  pub widths_of_class_kept : (classes cs : List ClassDesc) (k : ClassId) → list_all (is_class_desc units regs) classes ≡ true → nat_lt k.0 (length classes) ≡ true → widths_of_class more_units more_regs (classes ++ cs) k ≡ widths_of_class units regs classes k
  widths_of_class_kept classes cs k h e =
      ap (λ o. class_widths more_units more_regs (regs_in o)) (get_kept classes cs k.0 (ltb-true k.0 (length classes) e)) ∙ class_widths_kept (class_regs classes k) (regs_known classes k.0 h)

pub mask_kept : (n m : ℕ) (mask : MaskDesc) → n ≤ m → is_mask_desc n mask ≡ true → is_mask_desc m mask ≡ true
mask_kept n m mask le h = both _ _ (first_of_both _ _ h) (all_kept (λ r. nat_lt r.0 n) (λ r. nat_lt r.0 m) mask.regs (λ r. below_more n m r.0 le) (second_of_both _ _ h))
