-- The roles and widths that each effect asks of an opcode.
use Rattle.std.specs.Prelude.{ℕ, Bool, true, false, cond, List, [], ◌∷◌, Option, Some, None, take, map, sum, filter_map, flat_map, slice_get, length, nat_le, nat_lt, nat_eq, ◌&&◌, ◌||◌, ◌==◌, ◌%◌, not, count_by, filter}
use Rattle.std.specs.List.{list_all}
use Rattle.target_base.specs.declared.types.Reg.{Reg}
use Rattle.target_base.specs.declared.types.ClassId.{ClassId}
use Rattle.target_base.specs.declared.types.Effect.{Effect}
use Rattle.target_base.specs.declared.types.Effect.TheVariants as effects
use Rattle.target_base.specs.declared.types.Role.{Role}
use Rattle.target_base.specs.declared.types.Role.TheVariants as roles
use Rattle.target_base.specs.declared.types.UnitDesc.{UnitDesc}
use Rattle.target_base.specs.declared.types.RegDesc.{RegDesc}
use Rattle.target_base.specs.declared.types.ClassDesc.{ClassDesc}
use Rattle.target_base.specs.declared.types.OpaqueKind.{OpaqueKind}
use Rattle.target_base.specs.declared.types.OpaqueKind.TheVariants as kinds
use Rattle.target_base.specs.Names.{are_distinct_numbers}
use Rattle.target_base.specs.Storage.{class_regs, class_widths, is_within, widths, reg_units, same_numbers}

abbrev pub is_definition : Role → Bool
is_definition (roles.Def k) = true
is_definition (roles.Early k) = true
is_definition _ = false

abbrev pub is_use : Role → Bool
is_use (roles.Read k) = true
is_use (roles.Tied k n) = true
is_use _ = false

abbrev pub is_tied : Role → Bool
is_tied (roles.Tied k n) = true
is_tied _ = false

abbrev pub is_immediate : Role → Bool
is_immediate roles.Imm = true
is_immediate _ = false

abbrev pub is_use_or_immediate : Role → Bool
is_use_or_immediate r = is_use r || is_immediate r

abbrev pub is_address : Role → Bool
is_address (roles.Address k) = true
is_address _ = false

abbrev pub is_frame_or_symbol : Role → Bool
is_frame_or_symbol roles.Frame = true
is_frame_or_symbol roles.Sym = true
is_frame_or_symbol _ = false

abbrev pub is_block : Role → Bool
is_block roles.Target = true
is_block _ = false

abbrev pub is_slot : Role → Bool
is_slot roles.Slot = true
is_slot _ = false

abbrev pub is_lanes : Role → Bool
is_lanes roles.Lanes = true
is_lanes _ = false

abbrev pub is_symbol : Role → Bool
is_symbol roles.Sym = true
is_symbol _ = false

abbrev pub is_mask : Role → Bool
is_mask roles.Mask = true
is_mask _ = false

abbrev pub is_any : Role → Bool
is_any roles.Any = true
is_any _ = false

abbrev pub is_rest : Role → Bool
is_rest roles.Rest = true
is_rest _ = false

abbrev pub is_implicit : Role → Bool
is_implicit (roles.ImpDef r) = true
is_implicit (roles.ImpRead r) = true
is_implicit _ = false

-- the tests that an opcode's explicit roles pass, one after the other; None for the five opcodes of every target, and for
-- opaque ones, whose roles are as `opaque_fit` says
abbrev pub explicit_shape : Effect → Option (List (Role → Bool))
explicit_shape effects.Copy = None
explicit_shape effects.Phi = None
explicit_shape effects.ImplicitDef = None
explicit_shape effects.RegSequence = None
explicit_shape effects.InsertSubreg = None
explicit_shape effects.Const = Some (is_definition ∷ is_immediate ∷ [])
explicit_shape effects.Addr = Some (is_definition ∷ is_frame_or_symbol ∷ [])
explicit_shape effects.Add = Some (is_definition ∷ is_use ∷ is_use_or_immediate ∷ [])
explicit_shape effects.Sub = Some (is_definition ∷ is_use ∷ is_use_or_immediate ∷ [])
explicit_shape effects.Mul = Some (is_definition ∷ is_use ∷ is_use_or_immediate ∷ [])
explicit_shape effects.And = Some (is_definition ∷ is_use ∷ is_use_or_immediate ∷ [])
explicit_shape effects.Or = Some (is_definition ∷ is_use ∷ is_use_or_immediate ∷ [])
explicit_shape effects.Xor = Some (is_definition ∷ is_use ∷ is_use_or_immediate ∷ [])
explicit_shape effects.Shl = Some (is_definition ∷ is_use ∷ is_use_or_immediate ∷ [])
explicit_shape effects.Shr = Some (is_definition ∷ is_use ∷ is_use_or_immediate ∷ [])
explicit_shape effects.Sar = Some (is_definition ∷ is_use ∷ is_use_or_immediate ∷ [])
explicit_shape effects.Neg = Some (is_definition ∷ is_use ∷ [])
explicit_shape effects.Not = Some (is_definition ∷ is_use ∷ [])
explicit_shape effects.Udiv = Some (is_definition ∷ is_use ∷ is_use_or_immediate ∷ [])
explicit_shape effects.Urem = Some (is_definition ∷ is_use ∷ is_use_or_immediate ∷ [])
explicit_shape effects.Madd = Some (is_definition ∷ is_use ∷ is_use_or_immediate ∷ is_use ∷ [])
explicit_shape effects.Zext = Some (is_definition ∷ is_use ∷ [])
explicit_shape effects.Sext = Some (is_definition ∷ is_use ∷ [])
explicit_shape effects.Cmp = Some (is_use ∷ is_use_or_immediate ∷ [])
explicit_shape (effects.Load s) = Some (is_definition ∷ is_address ∷ is_immediate ∷ [])
explicit_shape (effects.Store s) = Some (is_address ∷ is_immediate ∷ is_use ∷ [])
explicit_shape effects.Jump = Some (is_block ∷ [])
explicit_shape effects.Jcc = Some (is_block ∷ is_immediate ∷ [])
explicit_shape effects.Jnz = Some (is_use ∷ is_block ∷ [])
explicit_shape effects.Call = Some (is_symbol ∷ is_mask ∷ is_rest ∷ [])
explicit_shape effects.Ret = Some (is_rest ∷ [])
explicit_shape effects.Marker = Some (is_any ∷ [])
explicit_shape effects.Spill = Some (is_use ∷ is_slot ∷ is_lanes ∷ [])
explicit_shape effects.Reload = Some (is_definition ∷ is_slot ∷ is_lanes ∷ [])
explicit_shape (effects.Opaque kind) = None

-- explicit roles pass these tests, each its own, and only implicit roles follow
abbrev pub has_shape : List (Role → Bool) → List Role → Bool
has_shape [] rs = list_all is_implicit rs
has_shape (test ∷ tests) [] = false
has_shape (test ∷ tests) (r ∷ rs) = test r && has_shape tests rs

-- silent instructions have no implicit operands; all others are counted in a run
abbrev pub is_silent : Effect → Bool
is_silent effects.Copy = true
is_silent effects.Phi = true
is_silent effects.ImplicitDef = true
is_silent effects.RegSequence = true
is_silent effects.InsertSubreg = true
is_silent effects.Const = true
is_silent effects.Addr = true
is_silent effects.Spill = true
is_silent effects.Reload = true
is_silent _ = false

abbrev pub role_class : Role → Option ClassId
role_class (roles.Def k) = Some k
role_class (roles.Early k) = Some k
role_class (roles.Read k) = Some k
role_class (roles.Tied k n) = Some k
role_class (roles.Value k) = k
role_class _ = None

-- how many of the first roles are bound to one width
abbrev pub bound_roles : Effect → ℕ
bound_roles effects.Add = 3
bound_roles effects.Sub = 3
bound_roles effects.Mul = 3
bound_roles effects.And = 3
bound_roles effects.Or = 3
bound_roles effects.Xor = 3
bound_roles effects.Shl = 3
bound_roles effects.Shr = 3
bound_roles effects.Sar = 3
bound_roles effects.Udiv = 3
bound_roles effects.Urem = 3
bound_roles effects.Madd = 3
bound_roles effects.Neg = 2
bound_roles effects.Not = 2
bound_roles effects.Cmp = 2
bound_roles _ = 0

abbrev pub all_same : List ℕ → Bool
all_same [] = true
all_same (n ∷ ns) = list_all (λ m. n == m) ns

-- the lane widths of a class, by its number
abbrev pub widths_of_class : List UnitDesc → List RegDesc → List ClassDesc → ClassId → List ℕ
widths_of_class units regs classes k = class_widths units regs (class_regs classes k)

abbrev pub classes_of : List Role → List ClassId
classes_of rs = filter_map role_class rs

-- the result of widening isn't narrower than the value
abbrev pub widens : (ClassId → List ℕ) → List ClassId → Bool
widens w (to ∷ from ∷ ks) = nat_le (sum (w from)) (sum (w to))
widens w ks = false

-- lanes that are loaded or stored are whole bytes
abbrev pub in_bytes : (ClassId → List ℕ) → List ClassId → Bool
in_bytes w ks = list_all (λ k. list_all (λ n. n % 8 == 0) (w k)) ks

abbrev pub effect_widths : (ClassId → List ℕ) → Effect → List ClassId → Bool
effect_widths w effects.Zext ks = widens w ks
effect_widths w effects.Sext ks = widens w ks
effect_widths w (effects.Load s) ks = in_bytes w ks
effect_widths w (effects.Store s) ks = in_bytes w ks
effect_widths w _ ks = true

abbrev pub first_implicit : List Role → Option Role
first_implicit [] = None
first_implicit (r ∷ rs) = Some r

-- the register is three flags of one bit each
abbrev pub is_flags : List UnitDesc → List RegDesc → Reg → Bool
is_flags units regs r = same_numbers (widths units (reg_units regs r)) (1 ∷ 1 ∷ 1 ∷ [])

abbrev pub writes_flags : List UnitDesc → List RegDesc → Option Role → Bool
writes_flags units regs (Some (roles.ImpDef r)) = is_flags units regs r
writes_flags units regs _ = false

abbrev pub reads_flags : List UnitDesc → List RegDesc → Option Role → Bool
reads_flags units regs (Some (roles.ImpRead r)) = is_flags units regs r
reads_flags units regs _ = false

-- a comparison defines its flags first, and a conditional jump reads them first
abbrev pub effect_flags : List UnitDesc → List RegDesc → Effect → Option Role → Bool
effect_flags units regs effects.Cmp r = writes_flags units regs r
effect_flags units regs effects.Jcc r = reads_flags units regs r
effect_flags units regs _ r = true

abbrev pub this_or : Option ClassId → Option ClassId → Option ClassId
this_or None k = k
this_or (Some c) k = Some c

-- the class of the first role that has one
abbrev pub first_class : List Role → Option ClassId
first_class [] = None
first_class (r ∷ rs) = this_or (role_class r) (first_class rs)

-- the first role is a definition of the class
abbrev pub defines : ClassId → List Role → Bool
defines k (roles.Def c ∷ rs) = k.0 == c.0
defines k (roles.Early c ∷ rs) = k.0 == c.0
defines k rs = false

abbrev pub tie_fits : List Role → Role → Bool
tie_fits rs (roles.Tied k n) = nat_eq n 0 && defines k rs
tie_fits rs _ = true

-- at most one role is tied, and to a definition of its class
abbrev pub ties_fit : List Role → Bool
ties_fit rs = nat_le (count_by is_tied rs) 1 && list_all (tie_fits rs) rs

-- each class and each register that a role names is there
abbrev pub role_known : ℕ → ℕ → Role → Bool
role_known classes regs (roles.Def k) = nat_lt k.0 classes
role_known classes regs (roles.Early k) = nat_lt k.0 classes
role_known classes regs (roles.Read k) = nat_lt k.0 classes
role_known classes regs (roles.Tied k n) = nat_lt k.0 classes
role_known classes regs (roles.Value (Some k)) = nat_lt k.0 classes
role_known classes regs (roles.Address k) = nat_lt k.0 classes
role_known classes regs (roles.ImpDef r) = nat_lt r.0 regs
role_known classes regs (roles.ImpRead r) = nat_lt r.0 regs
role_known classes regs _ = true

-- the offset of a load or a store counts in units of 1, 2, 4, 8 or 16 bytes
abbrev pub is_scale : ℕ → Bool
is_scale s = s == 1 || s == 2 || s == 4 || s == 8 || s == 16

abbrev pub scale_fits : Effect → Bool
scale_fits (effects.Load s) = is_scale s
scale_fits (effects.Store s) = is_scale s
scale_fits _ = true

abbrev pub shape_fits : Option (List (Role → Bool)) → List Role → Bool
shape_fits None rs = false
shape_fits (Some tests) rs = has_shape tests rs

-- the roles behind those at the beginning that pass a test
abbrev pub behind : (Role → Bool) → List Role → List Role
behind test [] = []
behind test (r ∷ rs) = cond (test r) (behind test rs) (r ∷ rs)

-- a role that stands for one operand of an opaque opcode, beside its definitions
abbrev pub is_operand : Role → Bool
is_operand (roles.Read k) = true
is_operand (roles.Tied k n) = true
is_operand (roles.Value k) = true
is_operand (roles.Address k) = true
is_operand roles.Imm = true
is_operand roles.Target = true
is_operand roles.Sym = true
is_operand roles.Frame = true
is_operand roles.Mask = true
is_operand _ = false

-- the roles behind one that stands for any number of operands, if the first does
abbrev pub behind_many : List Role → List Role
behind_many (roles.Any ∷ rs) = rs
behind_many (roles.Rest ∷ rs) = rs
behind_many rs = rs

-- definitions, then operands, then at most one role for any number of them, then implicit ones
abbrev pub are_in_order : List Role → Bool
are_in_order rs = list_all is_implicit (behind_many (behind is_operand (behind is_definition rs)))

-- the role is a definition of a class whose registers all lie in class k
abbrev pub defines_within : List ClassDesc → ClassId → Option Role → Bool
defines_within classes k (Some (roles.Def c)) = is_within (class_regs classes c) (class_regs classes k)
defines_within classes k (Some (roles.Early c)) = is_within (class_regs classes c) (class_regs classes k)
defines_within classes k r = false

-- A tied role names a definition that is there, and its class holds each register of that definition's class. (255 stands
-- for each number above it too, so no definition has it.)
abbrev pub opaque_tie_fits : List ClassDesc → List Role → Role → Bool
opaque_tie_fits classes rs (roles.Tied k n) = nat_lt n 255 && defines_within classes k (slice_get rs n)
opaque_tie_fits classes rs r = true

-- the definition that a tied role names, as a list
abbrev pub tied_to : Role → List ℕ
tied_to (roles.Tied k n) = n ∷ []
tied_to r = []

-- definitions stand at plain opaque opcodes alone
abbrev pub may_define : OpaqueKind → Bool
may_define kinds.Plain = true
may_define kind = false

-- how many targets a kind names, and whether it may have so many masks
abbrev pub targets_of : OpaqueKind → ℕ
targets_of kinds.Branch = 1
targets_of kind = 0

abbrev pub masks_fit : OpaqueKind → ℕ → Bool
masks_fit kinds.Call n = nat_eq n 1
masks_fit kinds.Return n = nat_le n 1
masks_fit kind n = nat_eq n 0

-- there are as many definitions, targets and masks as the kind asks for
abbrev pub counts_fit : OpaqueKind → List Role → Bool
counts_fit kind rs =
    (may_define kind || nat_eq (count_by is_definition rs) 0)
    && nat_eq (count_by is_block rs) (targets_of kind)
    && masks_fit kind (count_by is_mask rs)

-- the roles of an opaque opcode; no rule asks for widths, and implicit operands need no role
abbrev pub opaque_fit : List ClassDesc → OpaqueKind → List Role → Bool
opaque_fit classes kind rs =
    are_in_order rs
    && are_distinct_numbers (flat_map tied_to rs)
    && list_all (opaque_tie_fits classes rs) rs
    && counts_fit kind rs

-- the roles are those that a known effect asks for, with its widths
abbrev pub known_fit : List UnitDesc → List RegDesc → List ClassDesc → Effect → List Role → Bool
known_fit units regs classes e rs =
    let w = widths_of_class units regs classes in
    let implicit = filter is_implicit rs in
    shape_fits (explicit_shape e) rs
    && ties_fit rs
    && all_same (map (λ k. sum (w k)) (classes_of (take (bound_roles e) rs)))
    && effect_widths w e (classes_of rs)
    && (not (is_silent e) || nat_eq (length implicit) 0)
    && effect_flags units regs e (first_implicit implicit)

-- the roles are those that the effect asks for
abbrev pub roles_fit : List UnitDesc → List RegDesc → List ClassDesc → Effect → List Role → Bool
roles_fit units regs classes (effects.Opaque kind) rs = opaque_fit classes kind rs
roles_fit units regs classes e rs = known_fit units regs classes e rs
