-- The built-in target, as a value.
use Rattle.std.specs.Prelude.{◌≡◌, true, false, ℕ, List, [], ◌∷◌, codes, map, refl}
use Rattle.target_base.specs.declared.types.Unit.{Unit as UnitNumber}
use Rattle.target_base.specs.declared.types.Reg.{Reg}
use Rattle.target_base.specs.declared.types.ClassId.{ClassId}
use Rattle.target_base.specs.declared.types.Effect.{Effect}
use Rattle.target_base.specs.declared.types.Effect.TheVariants as effects
use Rattle.target_base.specs.declared.types.Role.{Role}
use Rattle.target_base.specs.declared.types.Role.TheVariants as roles
use Rattle.target_base.specs.declared.types.UnitDesc.{UnitDesc}
use Rattle.target_base.specs.declared.types.RegDesc.{RegDesc}
use Rattle.target_base.specs.declared.types.IndexDesc.{IndexDesc}
use Rattle.target_base.specs.declared.types.ClassDesc.{ClassDesc}
use Rattle.target_base.specs.declared.types.MaskDesc.{MaskDesc}
use Rattle.target_base.specs.declared.types.OpcodeDesc.{OpcodeDesc}
use Rattle.target_base.specs.declared.types.Target.{Target}
use Rattle.target_base.specs.declared.types.TextOptions.{TextOptions}
use Rattle.target_base.specs.Numbers.{unit_number, reg_number, class_number}
use Rattle.target_base.specs.Rules.{is_sound}

abbrev pub unit : List ℕ → ℕ → UnitDesc
unit name width = record { name = name; width = width }

abbrev pub reg : List ℕ → List ℕ → RegDesc
reg name units = record { name = name; units = map unit_number units }

abbrev pub index : List ℕ → List ℕ → IndexDesc
index name lanes = record { name = name; lanes = lanes }

abbrev pub class : List ℕ → List ℕ → ClassDesc
class name regs = record { name = name; regs = map reg_number regs }

abbrev pub op : List ℕ → Effect → List Role → OpcodeDesc
op name effect roles = record { name = name; effect = effect; roles = roles }

abbrev pub gr32 : ClassId
gr32 = class_number 0

abbrev pub gr16 : ClassId
gr16 = class_number 1

abbrev pub gr8 : ClassId
gr8 = class_number 2

abbrev pub low : ClassId
low = class_number 3

abbrev pub grp : ClassId
grp = class_number 4

abbrev pub eflags : Reg
eflags = reg_number 18

abbrev pub mini_units : List UnitDesc
mini_units =
    unit (codes "al") 8
    ∷ unit (codes "ah") 8
    ∷ unit (codes "hax") 16
    ∷ unit (codes "cl") 8
    ∷ unit (codes "ch") 8
    ∷ unit (codes "hcx") 16
    ∷ unit (codes "dl") 8
    ∷ unit (codes "dh") 8
    ∷ unit (codes "hdx") 16
    ∷ unit (codes "bl") 8
    ∷ unit (codes "bh") 8
    ∷ unit (codes "hbx") 16
    ∷ unit (codes "zf") 1
    ∷ unit (codes "lf") 1
    ∷ unit (codes "bf") 1
    ∷ unit (codes "sp") 32
    ∷ []

abbrev pub mini_regs : List RegDesc
mini_regs =
    reg (codes "eax") (0 ∷ 1 ∷ 2 ∷ [])
    ∷ reg (codes "ecx") (3 ∷ 4 ∷ 5 ∷ [])
    ∷ reg (codes "edx") (6 ∷ 7 ∷ 8 ∷ [])
    ∷ reg (codes "ebx") (9 ∷ 10 ∷ 11 ∷ [])
    ∷ reg (codes "ax") (0 ∷ 1 ∷ [])
    ∷ reg (codes "cx") (3 ∷ 4 ∷ [])
    ∷ reg (codes "dx") (6 ∷ 7 ∷ [])
    ∷ reg (codes "bx") (9 ∷ 10 ∷ [])
    ∷ reg (codes "al") (0 ∷ [])
    ∷ reg (codes "cl") (3 ∷ [])
    ∷ reg (codes "dl") (6 ∷ [])
    ∷ reg (codes "bl") (9 ∷ [])
    ∷ reg (codes "ah") (1 ∷ [])
    ∷ reg (codes "ch") (4 ∷ [])
    ∷ reg (codes "dh") (7 ∷ [])
    ∷ reg (codes "bh") (10 ∷ [])
    ∷ reg (codes "p0") (0 ∷ 1 ∷ 2 ∷ 3 ∷ 4 ∷ 5 ∷ [])
    ∷ reg (codes "p1") (6 ∷ 7 ∷ 8 ∷ 9 ∷ 10 ∷ 11 ∷ [])
    ∷ reg (codes "eflags") (12 ∷ 13 ∷ 14 ∷ [])
    ∷ reg (codes "sp") (15 ∷ [])
    ∷ []

abbrev pub mini_indexes : List IndexDesc
mini_indexes =
    index (codes "sub_8") (0 ∷ [])
    ∷ index (codes "sub_8hi") (1 ∷ [])
    ∷ index (codes "sub_16") (0 ∷ 1 ∷ [])
    ∷ index (codes "sub_lo32") (0 ∷ 1 ∷ 2 ∷ [])
    ∷ index (codes "sub_hi32") (3 ∷ 4 ∷ 5 ∷ [])
    ∷ []

abbrev pub mini_classes : List ClassDesc
mini_classes =
    class (codes "gr32") (0 ∷ 1 ∷ 2 ∷ 3 ∷ [])
    ∷ class (codes "gr16") (4 ∷ 5 ∷ 6 ∷ 7 ∷ [])
    ∷ class (codes "gr8") (8 ∷ 9 ∷ 10 ∷ 11 ∷ 12 ∷ 13 ∷ 14 ∷ 15 ∷ [])
    ∷ class (codes "low") (0 ∷ 1 ∷ [])
    ∷ class (codes "grp") (16 ∷ 17 ∷ [])
    ∷ []

abbrev pub mini_opcodes : List OpcodeDesc
mini_opcodes =
    op (codes "COPY") effects.Copy ([])
    ∷ op (codes "PHI") effects.Phi ([])
    ∷ op (codes "IMPLICIT_DEF") effects.ImplicitDef ([])
    ∷ op (codes "REG_SEQUENCE") effects.RegSequence ([])
    ∷ op (codes "INSERT_SUBREG") effects.InsertSubreg ([])
    ∷ op (codes "MOV32ri") effects.Const (roles.Def gr32 ∷ roles.Imm ∷ [])
    ∷ op (codes "MOV16ri") effects.Const (roles.Def gr16 ∷ roles.Imm ∷ [])
    ∷ op (codes "MOV8ri") effects.Const (roles.Def gr8 ∷ roles.Imm ∷ [])
    ∷ op (codes "LEA32fi") effects.Addr (roles.Def gr32 ∷ roles.Frame ∷ [])
    ∷ op (codes "LEA32g") effects.Addr (roles.Def gr32 ∷ roles.Sym ∷ [])
    ∷ op (codes "ADD32rr") effects.Add (roles.Def gr32 ∷ roles.Tied gr32 0 ∷ roles.Read gr32 ∷ roles.ImpDef eflags ∷ [])
    ∷ op (codes "SUB32rr") effects.Sub (roles.Def gr32 ∷ roles.Tied gr32 0 ∷ roles.Read gr32 ∷ roles.ImpDef eflags ∷ [])
    ∷ op (codes "IMUL32rr") effects.Mul (roles.Def gr32 ∷ roles.Tied gr32 0 ∷ roles.Read gr32 ∷ roles.ImpDef eflags ∷ [])
    ∷ op (codes "AND32rr") effects.And (roles.Def gr32 ∷ roles.Tied gr32 0 ∷ roles.Read gr32 ∷ roles.ImpDef eflags ∷ [])
    ∷ op (codes "OR32rr") effects.Or (roles.Def gr32 ∷ roles.Tied gr32 0 ∷ roles.Read gr32 ∷ roles.ImpDef eflags ∷ [])
    ∷ op (codes "XOR32rr") effects.Xor (roles.Def gr32 ∷ roles.Tied gr32 0 ∷ roles.Read gr32 ∷ roles.ImpDef eflags ∷ [])
    ∷ op (codes "ADD32ri") effects.Add (roles.Def gr32 ∷ roles.Tied gr32 0 ∷ roles.Imm ∷ roles.ImpDef eflags ∷ [])
    ∷ op (codes "SUB32ri") effects.Sub (roles.Def gr32 ∷ roles.Tied gr32 0 ∷ roles.Imm ∷ roles.ImpDef eflags ∷ [])
    ∷ op (codes "AND32ri") effects.And (roles.Def gr32 ∷ roles.Tied gr32 0 ∷ roles.Imm ∷ roles.ImpDef eflags ∷ [])
    ∷ op (codes "SHL32ri") effects.Shl (roles.Def gr32 ∷ roles.Tied gr32 0 ∷ roles.Imm ∷ roles.ImpDef eflags ∷ [])
    ∷ op (codes "SHR32ri") effects.Shr (roles.Def gr32 ∷ roles.Tied gr32 0 ∷ roles.Imm ∷ roles.ImpDef eflags ∷ [])
    ∷ op (codes "SAR32ri") effects.Sar (roles.Def gr32 ∷ roles.Tied gr32 0 ∷ roles.Imm ∷ roles.ImpDef eflags ∷ [])
    ∷ op (codes "NEG32r") effects.Neg (roles.Def gr32 ∷ roles.Tied gr32 0 ∷ roles.ImpDef eflags ∷ [])
    ∷ op (codes "NOT32r") effects.Not (roles.Def gr32 ∷ roles.Tied gr32 0 ∷ [])
    ∷ op (codes "ADD8rr") effects.Add (roles.Def gr8 ∷ roles.Tied gr8 0 ∷ roles.Read gr8 ∷ roles.ImpDef eflags ∷ [])
    ∷ op (codes "SUB8rr") effects.Sub (roles.Def gr8 ∷ roles.Tied gr8 0 ∷ roles.Read gr8 ∷ roles.ImpDef eflags ∷ [])
    ∷ op (codes "UDIV32rr") effects.Udiv (roles.Early gr32 ∷ roles.Read gr32 ∷ roles.Read gr32 ∷ roles.ImpDef eflags ∷ [])
    ∷ op (codes "UREM32rr") effects.Urem (roles.Early gr32 ∷ roles.Read gr32 ∷ roles.Read gr32 ∷ roles.ImpDef eflags ∷ [])
    ∷ op (codes "MADD32") effects.Madd (roles.Def gr32 ∷ roles.Read low ∷ roles.Read low ∷ roles.Read low ∷ roles.ImpDef eflags ∷ [])
    ∷ op (codes "MLA32") effects.Madd (roles.Def gr32 ∷ roles.Read gr32 ∷ roles.Read low ∷ roles.Read low ∷ roles.ImpDef eflags ∷ [])
    ∷ op (codes "MOVZX32r8") effects.Zext (roles.Def gr32 ∷ roles.Read gr8 ∷ [])
    ∷ op (codes "MOVSX32r8") effects.Sext (roles.Def gr32 ∷ roles.Read gr8 ∷ [])
    ∷ op (codes "CMP32rr") effects.Cmp (roles.Read gr32 ∷ roles.Read gr32 ∷ roles.ImpDef eflags ∷ [])
    ∷ op (codes "CMP32ri") effects.Cmp (roles.Read gr32 ∷ roles.Imm ∷ roles.ImpDef eflags ∷ [])
    ∷ op (codes "CMP8rr") effects.Cmp (roles.Read gr8 ∷ roles.Read gr8 ∷ roles.ImpDef eflags ∷ [])
    ∷ op (codes "LOAD32rm") (effects.Load 1) (roles.Def gr32 ∷ roles.Address gr32 ∷ roles.Imm ∷ [])
    ∷ op (codes "LOAD8rm") (effects.Load 1) (roles.Def gr8 ∷ roles.Address gr32 ∷ roles.Imm ∷ [])
    ∷ op (codes "STORE32mr") (effects.Store 1) (roles.Address gr32 ∷ roles.Imm ∷ roles.Read gr32 ∷ [])
    ∷ op (codes "STORE8mr") (effects.Store 1) (roles.Address gr32 ∷ roles.Imm ∷ roles.Read gr8 ∷ [])
    ∷ op (codes "JMP") effects.Jump (roles.Target ∷ [])
    ∷ op (codes "JCC") effects.Jcc (roles.Target ∷ roles.Imm ∷ roles.ImpRead eflags ∷ [])
    ∷ op (codes "JNZ32") effects.Jnz (roles.Read gr32 ∷ roles.Target ∷ [])
    ∷ op (codes "CALL") effects.Call (roles.Sym ∷ roles.Mask ∷ roles.Rest ∷ [])
    ∷ op (codes "RET") effects.Ret (roles.Rest ∷ [])
    ∷ op (codes "NOP") effects.Marker (roles.Any ∷ [])
    ∷ op (codes "SPILL32") effects.Spill (roles.Read gr32 ∷ roles.Slot ∷ roles.Lanes ∷ [])
    ∷ op (codes "SPILL16") effects.Spill (roles.Read gr16 ∷ roles.Slot ∷ roles.Lanes ∷ [])
    ∷ op (codes "SPILL8") effects.Spill (roles.Read gr8 ∷ roles.Slot ∷ roles.Lanes ∷ [])
    ∷ op (codes "SPILL64") effects.Spill (roles.Read grp ∷ roles.Slot ∷ roles.Lanes ∷ [])
    ∷ op (codes "RELOAD32") effects.Reload (roles.Def gr32 ∷ roles.Slot ∷ roles.Lanes ∷ [])
    ∷ op (codes "RELOAD16") effects.Reload (roles.Def gr16 ∷ roles.Slot ∷ roles.Lanes ∷ [])
    ∷ op (codes "RELOAD8") effects.Reload (roles.Def gr8 ∷ roles.Slot ∷ roles.Lanes ∷ [])
    ∷ op (codes "RELOAD64") effects.Reload (roles.Def grp ∷ roles.Slot ∷ roles.Lanes ∷ [])
    ∷ []

abbrev pub mini_reserved : List UnitNumber
mini_reserved = unit_number 15 ∷ []

abbrev pub mini_masks : List MaskDesc
mini_masks = record { name = codes "csr"; regs = reg_number 3 ∷ [] } ∷ []

pub mini_is_sound : is_sound (codes "mini") 1 mini_units mini_regs mini_reserved mini_indexes mini_classes mini_masks mini_opcodes ≡ true
unfolding is_sound
mini_is_sound = refl

-- nothing is opted in
abbrev pub no_options : TextOptions
no_options = record { offsets = false; pool = false; noreg = false; open_blocks = false; flags = []; sound = refl }

-- the built-in target
unfoldable pub mini_target : Target
mini_target = record {
  name = codes "mini";
  version = 1;
  units = mini_units;
  regs = mini_regs;
  reserved = mini_reserved;
  indexes = mini_indexes;
  classes = mini_classes;
  masks = mini_masks;
  opcodes = mini_opcodes;
  options = no_options;
  sound = mini_is_sound;
}
