-- Which functions are valid, and the first fault of those that aren't.
use Rattle.std.specs.Prelude.{◌≡◌, ℕ, Bool, true, false, ◌||◌, nat_eq, List, [], ◌∷◌, Some, codes, refl}
use Rattle.target_base.specs.declared.types.Target.{Target}
use Rattle.target_base.specs.declared.types.Reg.{Reg}
use Rattle.target_base.specs.Mini.{mini_target, mini_units, mini_regs, mini_reserved, mini_indexes, mini_classes, mini_masks, mini_opcodes, no_options}
use Rattle.target_base.specs.Numbers.{reg_number}
use Rattle.target_base.specs.Rules.{is_sound}
use Rattle.mir_func.specs.declared.func.Op.TheVariants as ops
use Rattle.mir_func.specs.declared.func.Instr.{Instr}
use Rattle.mir_func.specs.Value.{Function}
use Rattle.mir_meaning.specs.declared.Form.{Form}
use Rattle.mir_meaning.specs.declared.Form.TheVariants.{Source, Allocated}
use Rattle.mir_meaning.specs.Valid.{IsValid, FirstFault, Fault, shape_fault, cover}
use Rattle.worked_examples.specs.MachineCode.Sample.{virtual, as_def, part, op, def, val, fixed_def, fixed, to_block, instr, block, function, gr32, gr8, eax, ecx, ax, al, sub_hi32, COPY, PHI, ADD32rr, UDIV32rr, JMP}
use Rattle.worked_examples.specs.MachineCode.Functions.{tied_add, tied_add_allocated, never_written, across, ret, flags_defined}

-- the built-in target as one of version 2
pub two_is_sound : is_sound (codes "mini") 2 mini_units mini_regs mini_reserved mini_indexes mini_classes mini_masks mini_opcodes ≡ true
unfolding is_sound
two_is_sound = refl

unfoldable pub mini_two : Target
mini_two = record {
  name = codes "mini";
  version = 2;
  units = mini_units;
  regs = mini_regs;
  reserved = mini_reserved;
  indexes = mini_indexes;
  classes = mini_classes;
  masks = mini_masks;
  opcodes = mini_opcodes;
  options = no_options;
  sound = two_is_sound;
}

abbrev pub fault : ℕ → ℕ → ℕ → Fault
fault n at rule = (record { block = n; at = at }, rule)

abbrev pub TiedAddsAreValid : Type 0
TiedAddsAreValid = IsValid mini_target Source tied_add × IsValid mini_target Allocated tied_add_allocated

-- a range that is read and never written
abbrev pub NeverWritten : Type 0
NeverWritten = FirstFault mini_target Source never_written (fault 0 0 14)

-- A fixed register that is live into a later block: no source of version 1 may have it, listed or not; in version 2
-- it is listed, and more may be; an allocated function lists exactly the cover.
abbrev pub LiveAcross : Type 0
LiveAcross =
    FirstFault mini_target Source (across []) (fault 1 0 13)
    × FirstFault mini_target Source (across (al ∷ [])) (fault 1 0 13)
    × FirstFault mini_two Source (across []) (fault 1 0 13)
    × IsValid mini_two Source (across (al ∷ []))
    × IsValid mini_two Source (across (ecx ∷ al ∷ []))
    × IsValid mini_target Allocated (across (al ∷ []))
    × FirstFault mini_target Allocated (across (ax ∷ [])) (fault 1 0 13)

abbrev pub units_among : List ℕ → ℕ → Bool
units_among [] u = false
units_among (v ∷ vs) u = nat_eq v u || units_among vs u

abbrev pub CoverIs : List ℕ → List Reg → Type 0
CoverIs us rs = cover mini_target (units_among us) ≡ rs

-- whole registers where they are live as a whole, the first in the target; a unit that no such register has
-- stands by the first that holds it
abbrev pub Covers : Type 0
Covers =
    CoverIs (0 ∷ 1 ∷ 2 ∷ []) (reg_number 0 ∷ [])
    × CoverIs (0 ∷ 1 ∷ []) (reg_number 4 ∷ [])
    × CoverIs (2 ∷ 0 ∷ []) (reg_number 0 ∷ reg_number 8 ∷ [])
    × CoverIs (12 ∷ []) (reg_number 18 ∷ [])
    × CoverIs [] []

-- the first place at which a rule other than V13 and V14 fails
abbrev pub Fails : Form → Function → Fault → Type 0
Fails form f x = shape_fault mini_target form f ≡ Some x

abbrev pub alone : List ℕ → List Instr → Function
alone classes is = function classes (block 0 [] (eax ∷ []) is ∷ [])

abbrev pub adding : List ℕ → List Instr → Function
adding classes is = alone classes (instr 0 COPY (def 0 ∷ fixed eax ∷ []) ∷ is)

-- one function for each rule
abbrev pub RulesFail : Type 0
RulesFail =
    -- the sum doesn't define its flags
    Fails Source (adding (gr32 ∷ gr32 ∷ []) (instr 1 ADD32rr (def 1 ∷ val 0 ∷ val 0 ∷ []) ∷ ret 2 ∷ [])) (fault 0 1 1)
    -- 32 bits are copied to 8
    × Fails Source (adding (gr8 ∷ []) (ret 1 ∷ [])) (fault 0 0 2)
    -- %0 has no class
    × Fails Source (adding [] (ret 1 ∷ [])) (fault 0 0 3)
    -- a register of 32 bits has no upper half of 32
    × Fails Source (alone (gr32 ∷ []) (instr 0 COPY (op (part (as_def (virtual 0)) sub_hi32) ∷ fixed eax ∷ []) ∷ ret 1 ∷ [])) (fault 0 0 4)
    -- two blocks have one number
    × Fails Source (function [] (block 0 [] [] (ret 0 ∷ []) ∷ block 0 [] [] (ret 1 ∷ []) ∷ [])) (fault 0 0 5)
    -- a jump to the entry block
    × Fails Source (function [] (block 0 (0 ∷ []) [] (instr 0 JMP (to_block 0 ∷ []) ∷ []) ∷ [])) (fault 0 0 6)
    -- a phi behind another instruction
    × Fails Source (function (gr32 ∷ gr32 ∷ []) (block 0 (1 ∷ []) [] [] ∷ block 1 [] [] (instr 0 COPY (def 0 ∷ fixed eax ∷ []) ∷ instr 1 PHI (def 1 ∷ val 0 ∷ to_block 0 ∷ []) ∷ ret 2 ∷ []) ∷ [])) (fault 1 1 7)
    × Fails Source (alone [] (ret 0 ∷ instr 1 COPY (fixed_def eax ∷ fixed ecx ∷ []) ∷ ret 2 ∷ [])) (fault 0 1 8)
    -- the successor that is fallen into isn't written
    × Fails Source (function [] (block 0 [] [] [] ∷ block 1 [] [] (ret 0 ∷ []) ∷ [])) (fault 0 0 9)
    × Fails Source (alone [] []) (fault 0 0 10)
    -- a fixed and a virtual register are tied
    × Fails Source (adding (gr32 ∷ []) (instr 1 ADD32rr (fixed_def eax ∷ val 0 ∷ val 0 ∷ flags_defined) ∷ ret 2 ∷ [])) (fault 0 1 11)
    -- an early-clobber definition of a register that is read
    × Fails Source (alone [] (instr 0 UDIV32rr (fixed_def eax ∷ fixed eax ∷ fixed ecx ∷ flags_defined) ∷ ret 1 ∷ [])) (fault 0 0 12)
    × Fails Source (record (alone [] (ret 0 ∷ [])) { frames = (0, true) ∷ [] }) (fault 0 0 15)
    × Fails Source (alone [] (record (ret 0) { op = ops.Excluded (codes "KILL") } ∷ ret 1 ∷ [])) (fault 0 0 16)
