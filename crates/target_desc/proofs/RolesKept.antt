-- Opcodes that keep their rules when units, registers and classes are added.
use Rattle.std.proofs.Common.{◌≡◌, ℕ, zero, suc, ◌≤◌, List, [], ◌∷◌, ◌++◌, length, take, drop, map, filter, Some, None, Bool, true, false, refl, ap, ◌∙◌, sum, not}
use Rattle.std.specs.Prelude.{◌&&◌, ◌||◌, nat_lt, nat_le, nat_eq, Option, slice_get, flat_map, ◌%◌, ◌==◌}
use Rattle.std.specs.List.{list_all}
use Rattle.std.proofs.lemmas.Bool.{ltb-true}
use Rattle.target_base.specs.declared.types.Reg.{Reg}
use Rattle.target_base.specs.declared.types.ClassId.{ClassId}
use Rattle.target_base.specs.declared.types.Effect.{Effect}
use Rattle.target_base.specs.declared.types.Effect.TheVariants as effects
use Rattle.target_base.specs.declared.types.Role.{Role}
use Rattle.target_base.specs.declared.types.Role.TheVariants as roles
use Rattle.target_base.specs.declared.types.UnitDesc.{UnitDesc}
use Rattle.target_base.specs.declared.types.RegDesc.{RegDesc}
use Rattle.target_base.specs.declared.types.ClassDesc.{ClassDesc}
use Rattle.target_base.specs.declared.types.OpcodeDesc.{OpcodeDesc}
use Rattle.target_base.specs.declared.types.OpaqueKind.{OpaqueKind}
use Rattle.target_base.specs.Names.{are_distinct_numbers}
use Rattle.target_base.specs.Storage.{regs_in, class_regs, is_within, same_numbers}
use Rattle.target_base.specs.Roles.{is_implicit, role_known, classes_of, widths_of_class, widens, in_bytes, effect_widths, effect_flags, first_implicit, is_flags, all_same, bound_roles, shape_fits, explicit_shape, ties_fit, is_silent, are_in_order, defines_within, opaque_tie_fits, tied_to, counts_fit, opaque_fit, known_fit, roles_fit}
use Rattle.target_base.specs.Rules.{is_class_desc, is_opcode_desc, starts_with_the_five}
use Rattle.target_base.proofs.Tests.{first_of_both, second_of_both}
use Rattle.target_desc.proofs.Grown.{both, all_kept, all_take, get_kept, below_more}
use Rattle.target_desc.proofs.SameWidths.{SameWidths, widths_of_class_kept}

classes_known : (n m : ℕ) (rs : List Role) → list_all (role_known n m) rs ≡ true → list_all (λ k. nat_lt k.0 n) (classes_of rs) ≡ true
classes_known n m [] h = refl
classes_known n m (roles.Def k ∷ rs) h = both _ _ (first_of_both _ _ h) (classes_known n m rs (second_of_both _ _ h))
classes_known n m (roles.Early k ∷ rs) h = both _ _ (first_of_both _ _ h) (classes_known n m rs (second_of_both _ _ h))
classes_known n m (roles.Read k ∷ rs) h = both _ _ (first_of_both _ _ h) (classes_known n m rs (second_of_both _ _ h))
classes_known n m (roles.Tied k i ∷ rs) h = both _ _ (first_of_both _ _ h) (classes_known n m rs (second_of_both _ _ h))
classes_known n m (roles.Imm ∷ rs) h = classes_known n m rs h
classes_known n m (roles.Target ∷ rs) h = classes_known n m rs h
classes_known n m (roles.Slot ∷ rs) h = classes_known n m rs h
classes_known n m (roles.Lanes ∷ rs) h = classes_known n m rs h
classes_known n m (roles.Sym ∷ rs) h = classes_known n m rs h
classes_known n m (roles.Frame ∷ rs) h = classes_known n m rs h
classes_known n m (roles.Address k ∷ rs) h = classes_known n m rs (second_of_both _ _ h)
classes_known n m (roles.Mask ∷ rs) h = classes_known n m rs h
classes_known n m (roles.Value None ∷ rs) h = classes_known n m rs h
classes_known n m (roles.Value (Some k) ∷ rs) h = both _ _ (first_of_both _ _ h) (classes_known n m rs (second_of_both _ _ h))
classes_known n m (roles.Any ∷ rs) h = classes_known n m rs h
classes_known n m (roles.ImpDef r ∷ rs) h = classes_known n m rs (second_of_both _ _ h)
classes_known n m (roles.ImpRead r ∷ rs) h = classes_known n m rs (second_of_both _ _ h)
classes_known n m (roles.Rest ∷ rs) h = classes_known n m rs h

-- a role that is known stays so
role_kept : (n m n2 m2 : ℕ) (r : Role) → n ≤ n2 → m ≤ m2 → role_known n m r ≡ true → role_known n2 m2 r ≡ true
role_kept n m n2 m2 (roles.Def k) a b h = below_more n n2 k.0 a h
role_kept n m n2 m2 (roles.Early k) a b h = below_more n n2 k.0 a h
role_kept n m n2 m2 (roles.Read k) a b h = below_more n n2 k.0 a h
role_kept n m n2 m2 (roles.Tied k i) a b h = below_more n n2 k.0 a h
role_kept n m n2 m2 (roles.Address k) a b h = below_more n n2 k.0 a h
role_kept n m n2 m2 (roles.ImpDef r) a b h = below_more m m2 r.0 b h
role_kept n m n2 m2 (roles.ImpRead r) a b h = below_more m m2 r.0 b h
role_kept n m n2 m2 roles.Imm a b h = refl
role_kept n m n2 m2 roles.Target a b h = refl
role_kept n m n2 m2 roles.Slot a b h = refl
role_kept n m n2 m2 roles.Lanes a b h = refl
role_kept n m n2 m2 roles.Sym a b h = refl
role_kept n m n2 m2 roles.Frame a b h = refl
role_kept n m n2 m2 roles.Mask a b h = refl
role_kept n m n2 m2 (roles.Value None) a b h = refl
role_kept n m n2 m2 (roles.Value (Some k)) a b h = below_more n n2 k.0 a h
role_kept n m n2 m2 roles.Any a b h = refl
role_kept n m n2 m2 roles.Rest a b h = refl

-- classes below n with the same lane widths in both
module _ (n : ℕ) (w v : ClassId → List ℕ) (same : (k : ClassId) → nat_lt k.0 n ≡ true → v k ≡ w k) where
  sums_same : (ks : List ClassId) → list_all (λ k. nat_lt k.0 n) ks ≡ true → map (λ k. sum (v k)) ks ≡ map (λ k. sum (w k)) ks
  sums_same [] h = refl
  sums_same (k ∷ ks) h = λ i. sum (same k (first_of_both _ _ h) i) ∷ sums_same ks (second_of_both _ _ h) i

  widens_same : (ks : List ClassId) → list_all (λ k. nat_lt k.0 n) ks ≡ true → widens v ks ≡ widens w ks
  widens_same [] h = refl
  widens_same (a ∷ []) h = refl
  widens_same (a ∷ b ∷ ks) h = λ i. nat_le (sum (same b (first_of_both _ _ (second_of_both _ _ h)) i)) (sum (same a (first_of_both _ _ h) i))

  in_bytes_same : (ks : List ClassId) → list_all (λ k. nat_lt k.0 n) ks ≡ true → in_bytes v ks ≡ in_bytes w ks
  in_bytes_same [] h = refl
  in_bytes_same (k ∷ ks) h = λ i. list_all (λ m. m % 8 == 0) (same k (first_of_both _ _ h) i) && in_bytes_same ks (second_of_both _ _ h) i

  effect_widths_same : (e : Effect) (ks : List ClassId) → list_all (λ k. nat_lt k.0 n) ks ≡ true → effect_widths v e ks ≡ effect_widths w e ks
  effect_widths_same effects.Zext ks h = widens_same ks h
  effect_widths_same effects.Sext ks h = widens_same ks h
  effect_widths_same (effects.Load s) ks h = in_bytes_same ks h
  effect_widths_same (effects.Store s) ks h = in_bytes_same ks h
  effect_widths_same _ ks h = refl

abbrev known_option : ℕ → ℕ → Option Role → Bool
known_option n m None = true
known_option n m (Some r) = role_known n m r

first_step : (n m : ℕ) (r : Role) (rs : List Role) (b : Bool) → is_implicit r ≡ b → role_known n m r ≡ true → known_option n m (first_implicit (filter is_implicit rs)) ≡ true → known_option n m (first_implicit (filter is_implicit (r ∷ rs))) ≡ true
first_step n m r rs true e h g = rw e h
first_step n m r rs false e h g = rw e g

first_known : (n m : ℕ) (rs : List Role) → list_all (role_known n m) rs ≡ true → known_option n m (first_implicit (filter is_implicit rs)) ≡ true
first_known n m [] h = refl
first_known n m (r ∷ rs) h = first_step n m r rs (is_implicit r) refl (first_of_both _ _ h) (first_known n m rs (second_of_both _ _ h))

-- the role at a place, if there is one
known_at : (n m k : ℕ) (rs : List Role) → list_all (role_known n m) rs ≡ true → known_option n m (slice_get rs k) ≡ true
known_at n m k [] h = refl
known_at n m zero (r ∷ rs) h = first_of_both _ _ h
known_at n m (suc k) (r ∷ rs) h = known_at n m k rs (second_of_both _ _ h)

-- registers of classes that are there
module _ (m : ℕ) (classes cs : List ClassDesc) where
  regs_same : (k : ClassId) → nat_lt k.0 (length classes) ≡ true → class_regs (classes ++ cs) k ≡ class_regs classes k
  regs_same k h = ap regs_in (get_kept classes cs k.0 (ltb-true k.0 (length classes) h))

  within_same : (k : ClassId) (o : Option Role) → nat_lt k.0 (length classes) ≡ true → known_option (length classes) m o ≡ true → defines_within (classes ++ cs) k o ≡ defines_within classes k o
  within_same k (Some (roles.Def c)) h g = λ i. is_within (regs_same c g i) (regs_same k h i)
  within_same k (Some (roles.Early c)) h g = λ i. is_within (regs_same c g i) (regs_same k h i)
  within_same k _ h g = refl

  tie_same : (rs : List Role) (r : Role) → list_all (role_known (length classes) m) rs ≡ true → role_known (length classes) m r ≡ true → opaque_tie_fits (classes ++ cs) rs r ≡ opaque_tie_fits classes rs r
  tie_same rs (roles.Tied k n) known h = ap (λ b. nat_lt n 255 && b) (within_same k (slice_get rs n) h (known_at (length classes) m n rs known))
  tie_same rs _ known h = refl

  ties_same : (rs xs : List Role) → list_all (role_known (length classes) m) rs ≡ true → list_all (role_known (length classes) m) xs ≡ true → list_all (opaque_tie_fits (classes ++ cs) rs) xs ≡ list_all (opaque_tie_fits classes rs) xs
  ties_same rs [] known h = refl
  ties_same rs (x ∷ xs) known h = λ i. tie_same rs x known (first_of_both _ _ h) i && ties_same rs xs known (second_of_both _ _ h) i

  opaque_same : (kind : OpaqueKind) (rs : List Role) → list_all (role_known (length classes) m) rs ≡ true → opaque_fit (classes ++ cs) kind rs ≡ opaque_fit classes kind rs
  opaque_same kind rs known = ap (λ b. are_in_order rs && are_distinct_numbers (flat_map tied_to rs) && b && counts_fit kind rs) (ties_same rs rs known known)

module _ (units : List UnitDesc) (regs : List RegDesc) (more_units : List UnitDesc) (more_regs : List RegDesc) (same : SameWidths units regs more_units more_regs) where
  flags_same : (r : Reg) → nat_lt r.0 (length regs) ≡ true → is_flags more_units more_regs r ≡ is_flags units regs r
  flags_same r h = ap (λ ws. same_numbers ws (1 ∷ 1 ∷ 1 ∷ [])) (same.each r h)

  writes_same : (n : ℕ) (o : Option Role) → known_option n (length regs) o ≡ true → effect_flags more_units more_regs effects.Cmp o ≡ effect_flags units regs effects.Cmp o
  writes_same n (Some (roles.ImpDef r)) h = flags_same r h
  writes_same n _ h = refl

  reads_same : (n : ℕ) (o : Option Role) → known_option n (length regs) o ≡ true → effect_flags more_units more_regs effects.Jcc o ≡ effect_flags units regs effects.Jcc o
  reads_same n (Some (roles.ImpRead r)) h = flags_same r h
  reads_same n _ h = refl

  effect_flags_same : (n : ℕ) (e : Effect) (o : Option Role) → known_option n (length regs) o ≡ true → effect_flags more_units more_regs e o ≡ effect_flags units regs e o
  effect_flags_same n effects.Cmp o h = writes_same n o h
  effect_flags_same n effects.Jcc o h = reads_same n o h
  effect_flags_same n _ o h = refl

  known_same : (classes cs : List ClassDesc) (e : Effect) (rs : List Role) → list_all (is_class_desc units regs) classes ≡ true → list_all (role_known (length classes) (length regs)) rs ≡ true
      → known_fit more_units more_regs (classes ++ cs) e rs ≡ known_fit units regs classes e rs
  known_same classes cs e rs sound known =
      let w = widths_of_class units regs classes in
      let v = widths_of_class more_units more_regs (classes ++ cs) in
      let each : (k : ClassId) → nat_lt k.0 (length classes) ≡ true → v k ≡ w k = λ k h. widths_of_class_kept units regs more_units more_regs same classes cs k sound h in
      let bound = sums_same (length classes) w v each (classes_of (take (bound_roles e) rs)) (classes_known (length classes) (length regs) (take (bound_roles e) rs) (all_take _ (bound_roles e) rs known)) in
      let own = effect_widths_same (length classes) w v each e (classes_of rs) (classes_known (length classes) (length regs) rs known) in
      let flags = effect_flags_same (length classes) e (first_implicit (filter is_implicit rs)) (first_known (length classes) (length regs) rs known) in
      λ i. shape_fits (explicit_shape e) rs && ties_fit rs && all_same (bound i) && own i && (not (is_silent e) || nat_eq (length (filter is_implicit rs)) 0) && flags i

  roles_same : (classes cs : List ClassDesc) (e : Effect) (rs : List Role) → list_all (is_class_desc units regs) classes ≡ true → list_all (role_known (length classes) (length regs)) rs ≡ true
      → roles_fit more_units more_regs (classes ++ cs) e rs ≡ roles_fit units regs classes e rs
  roles_same classes cs (effects.Opaque kind) rs sound known = opaque_same (length regs) classes cs kind rs known
  roles_same classes cs e rs sound known = known_same classes cs e rs sound known

  pub opcode_kept : (classes cs : List ClassDesc) (o : OpcodeDesc) → length regs ≤ length more_regs → length classes ≤ length (classes ++ cs) → list_all (is_class_desc units regs) classes ≡ true
      → is_opcode_desc units regs classes o ≡ true → is_opcode_desc more_units more_regs (classes ++ cs) o ≡ true
  opcode_kept classes cs o le le2 sound h =
      let known : list_all (role_known (length classes) (length regs)) o.roles ≡ true = second_of_both _ _ (first_of_both _ _ (first_of_both _ _ h)) in
      let known_still = all_kept (role_known (length classes) (length regs)) (role_known (length (classes ++ cs)) (length more_regs)) o.roles (λ r. role_kept _ _ _ _ r le2 le) known in
      both _ _ (both _ _ (both _ _ (first_of_both _ _ (first_of_both _ _ (first_of_both _ _ h))) known_still) (second_of_both _ _ (first_of_both _ _ h))) (roles_same classes cs o.effect o.roles sound known ∙ second_of_both _ _ h)

pub five_kept : (os more : List OpcodeDesc) → starts_with_the_five os ≡ true → starts_with_the_five (os ++ more) ≡ true
five_kept (a ∷ b ∷ c ∷ d ∷ e ∷ os) more h = h
five_kept [] more h = absurd (cc)
five_kept (a ∷ []) more h = absurd (cc)
five_kept (a ∷ b ∷ []) more h = absurd (cc)
five_kept (a ∷ b ∷ c ∷ []) more h = absurd (cc)
five_kept (a ∷ b ∷ c ∷ d ∷ []) more h = absurd (cc)

pub drop_five : (os more : List OpcodeDesc) → starts_with_the_five os ≡ true → drop 5 (os ++ more) ≡ drop 5 os ++ more
drop_five (a ∷ b ∷ c ∷ d ∷ e ∷ os) more h = refl
drop_five [] more h = absurd (cc)
drop_five (a ∷ []) more h = absurd (cc)
drop_five (a ∷ b ∷ []) more h = absurd (cc)
drop_five (a ∷ b ∷ c ∷ []) more h = absurd (cc)
drop_five (a ∷ b ∷ c ∷ d ∷ []) more h = absurd (cc)
