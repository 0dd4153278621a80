-- Spills keep the form in which ranges are joined, split and spilled.
use Rattle.std.specs.Prelude.{◌≡◌, ◌<◌, ◌≤◌, ◌+◌, ◌++◌, ◌&&◌, ℕ, Bool, true, not, is_some, length, map, slice_get, List, [], ◌∷◌, Option, None, Some}
use Rattle.std.specs.List.{list_all}
use Rattle.target_base.specs.declared.types.ClassId.{ClassId}
use Rattle.target_base.specs.declared.types.Effect.TheVariants as effects
use Rattle.target_base.specs.declared.types.IndexId.{IndexId}
use Rattle.target_base.specs.declared.types.Effect.{Effect}
use Rattle.target_base.specs.declared.types.Role.{Role}
use Rattle.target_base.specs.declared.types.Role.TheVariants as roles
use Rattle.target_base.specs.declared.types.Target.{Target}
use Rattle.target_base.specs.Registers.{IsClass, widths_of}
use Rattle.mir_func.specs.declared.func.Loc.{Loc}
use Rattle.mir_func.specs.declared.func.Loc.TheVariants.{Virtual}
use Rattle.mir_func.specs.declared.func.RegOp.{RegOp}
use Rattle.mir_func.specs.declared.func.Operand.{Operand}
use Rattle.mir_func.specs.declared.func.Operand.TheVariants as operands
use Rattle.mir_func.specs.declared.func.Instr.{Instr}
use Rattle.mir_func.specs.declared.func.Block.{Block}
use Rattle.mir_func.specs.Value.{Function, IsFunction}
use Rattle.mir_func.specs.Binding.{class_of, does, effect_of, explicit_bound, explicit_operands, explicit_roles, is_lowered_away, operand_class, registers, roles_of}
use Rattle.mir_meaning.specs.Registers.{operand_widths}
use Rattle.meaning.specs.Live.{Among as Member}
use Rattle.live_laws.proofs.Touch.Roles.{has_roles}
use Rattle.mir_meaning.specs.Rules.{fits_role, has_class, index_fits, lanes_fit, register_lies_in, spills_or_reloads}
use Rattle.live_laws.specs.Effects.Shaped.{AreClasses, IsShaped}
use Rattle.lowering_laws.specs.Blocks.{KeepsBlockRules}
use Rattle.lowering_laws.specs.Form.{is_lowered}
use Rattle.lowering_laws.specs.Shapes.{IsLowered}
use Rattle.spiller.specs.Setting.{Spilling, class_beside, in_own_slot, is_own, moving_class, own_class, part_class, plain_definition, plain_use, reload, store, undef_use}
use Rattle.spiller.specs.Rematerialised.{is_constant, repeatable_class, repeated}
use Rattle.spiller.specs.Slots.{Slots}
use Rattle.spiller.specs.Spilled.{IsSpilled, place_change}

-- each instruction of the function is in lowered form
abbrev pub AreLowered : Target → Function → Type 0
AreLowered t f = list_all (λ b. list_all (is_lowered t) b.instrs) f.blocks ≡ true

-- The ids of the function after a spill are distinct, and each is below the next.
abbrev pub SpillKeepsIds : Type 0
SpillKeepsIds =
    (t : Target) (f g : Function) (slots new : Slots) (v : ℕ) (made : List (ℕ × ℕ)) → IsLowered t f → IsSpilled t f slots v g new made → IsFunction g.blocks g.next_id

-- Its blocks keep their numbers, end in their terminators and lead to their successors.
abbrev pub SpillKeepsBlockRules : Type 0
SpillKeepsBlockRules =
    (t : Target) (f g : Function) (slots new : Slots) (v : ℕ) (made : List (ℕ × ℕ)) → IsLowered t f → IsSpilled t f slots v g new made → KeepsBlockRules t g

-- the instruction keeps the rules on its operands; its opcode is known, and is none that is lowered away; it is in lowered form
pub record IsInForm (t : Target) (g : Function) (i : Instr) : Type 0 where
  pub shaped : IsShaped t g i
  pub opcode : does (λ e. not (is_lowered_away e)) t i ≡ true
  pub lowered : is_lowered t i ≡ true

-- a register of the function lies in a class of the target
pub record LiesIn (t : Target) (g : Function) (k : ClassId) (l : Loc) (x : Option IndexId) : Type 0 where
  pub known : IsClass t k
  pub class : has_class g l ≡ true
  pub index : index_fits t g l x ≡ true
  pub lies : register_lies_in t g k l x ≡ true

-- A store and a reload of a register of the class are in form, where they name as many lanes of the slot as it has.
abbrev pub MovesKeepRules : Type 0
MovesKeepRules =
    (t : Target) (g : Function) (k : ClassId) (l : Loc) (x : Option IndexId) (undef : Bool) (n : ℕ) (lanes : Operand) → LiesIn t g k l x → fits_role roles.Lanes lanes ≡ true
    → let slot = operands.Stack n ∷ lanes ∷ [] in let o = record (plain_use l x) { undef = undef } in
    lanes_fit t g (operands.Reg o ∷ slot) ≡ true → lanes_fit t g (operands.Reg (plain_definition l x) ∷ slot) ≡ true
    → IsInForm t g (store t (Some k) o slot) × IsInForm t g (reload t (Some k) (plain_definition l x) slot)

-- So is a constant or an address that is repeated for a register of the class of its definition.
abbrev pub RepeatsKeepRules : Type 0
RepeatsKeepRules =
    (t : Target) (f g : Function) (d : Instr) (k : ClassId) (l : Loc) (x : Option IndexId) → IsShaped t f d → does is_constant t d ≡ true → repeatable_class t d ≡ Some k → LiesIn t g k l x
    → IsInForm t g (repeated d (plain_definition l x))

-- the function has the classes that the range's function has
abbrev pub KeepsClasses : Spilling → Function → Type 0
KeepsClasses s g = (w : ℕ) → is_some (class_of s.func w) ≡ true → class_of g w ≡ class_of s.func w

-- What stands in place of a copy between the range and another register is in form.
abbrev pub CopiesKeepRules : Type 0
CopiesKeepRules =
    (s : Spilling) (g : Function) → KeepsClasses s g → AreClasses s.target s.func → (i : Instr) (d o : RegOp) → IsShaped s.target s.func i
    → effect_of s.target i ≡ Some effects.Copy → i.operands ≡ operands.Reg d ∷ operands.Reg o ∷ []
    → (is_own s o ≡ true → IsInForm s.target g (reload s.target (class_beside s d d.loc) (plain_definition d.loc d.index) (in_own_slot s o.index)))
    × (is_own s d ≡ true → IsInForm s.target g (store s.target (class_beside s o o.loc) (plain_use o.loc o.index) (in_own_slot s d.index)))

-- So is the store that stands in place of an IMPLICIT_DEF of the range.
abbrev pub UndefinedKeepRules : Type 0
UndefinedKeepRules =
    (s : Spilling) (g : Function) → KeepsClasses s g → AreClasses s.target s.func → (i : Instr) (o : RegOp) → IsShaped s.target s.func i
    → i.operands ≡ operands.Reg o ∷ [] → is_own s o ≡ true
    → let k = part_class s.target o.index (own_class s) in IsInForm s.target g (store s.target k (undef_use s.target k) (in_own_slot s o.index))

-- through a tiny of the class lanes go from a slot to a slot
abbrev pub GoThrough : Target → Function → ℕ → Option ClassId → List Operand → List Operand → Type 0
GoThrough t g c k from to = class_of g c ≡ k → IsInForm t g (reload t k (plain_definition (Virtual c) None) from) × IsInForm t g (store t k (plain_use (Virtual c) None) to)

-- So are the reload and the store of a tiny that stand in place of a copy within the range, and of a store or a reload of it.
abbrev pub PassesKeepRules : Type 0
PassesKeepRules =
    (s : Spilling) (g : Function) → KeepsClasses s g → AreClasses s.target s.func → (i : Instr) → IsShaped s.target s.func i → (c : ℕ)
    → ((d o : RegOp) → effect_of s.target i ≡ Some effects.Copy → i.operands ≡ operands.Reg d ∷ operands.Reg o ∷ [] → is_own s o ≡ true → is_own s d ≡ true
    → GoThrough s.target g c (moving_class s d.index) (in_own_slot s o.index) (in_own_slot s d.index))
    × ((o : RegOp) (slot : List Operand) → effect_of s.target i ≡ Some effects.Spill → i.operands ≡ operands.Reg o ∷ slot → is_own s o ≡ true
    → GoThrough s.target g c (moving_class s o.index) (in_own_slot s o.index) slot)
    × ((o : RegOp) (slot : List Operand) → effect_of s.target i ≡ Some effects.Reload → i.operands ≡ operands.Reg o ∷ slot → is_own s o ≡ true
    → GoThrough s.target g c (moving_class s o.index) slot (in_own_slot s o.index))

-- Ranges keep their classes after a spill, and the classes of new ones are the target's.
abbrev pub SpillKeepsClasses : Type 0
SpillKeepsClasses =
    (t : Target) (f g : Function) (slots new : Slots) (v : ℕ) (made : List (ℕ × ℕ)) → IsLowered t f → IsSpilled t f slots v g new made
    → ((w : ℕ) → is_some (class_of f w) ≡ true → class_of g w ≡ class_of f w) × AreClasses t g

-- Each further range has a class, and that is the target's.
abbrev pub SpillGivesClasses : Type 0
SpillGivesClasses =
    (t : Target) (f g : Function) (slots new : Slots) (v : ℕ) (made : List (ℕ × ℕ)) → IsLowered t f → IsSpilled t f slots v g new made
    → (w : ℕ) → length f.classes ≤ w → w < length g.classes → (k : ClassId) × (class_of g w ≡ Some k) × IsClass t k

-- A virtual register that an instruction with roles names has an operand class, with as many lanes: a tiny can take its place.
abbrev pub SeatsHaveClasses : Type 0
SeatsHaveClasses =
    (t : Target) (f : Function) (i : Instr) (e : Effect) (o : RegOp) (v : ℕ) (r : Option Role) → AreClasses t f → IsShaped t f i → effect_of t i ≡ Some e → has_roles e ≡ true
    → o.loc ≡ Virtual v → Member o (registers i.operands) → Member (r, operands.Reg o) (explicit_bound (explicit_roles (roles_of t i)) (explicit_operands i.operands))
    → (k : ClassId) × (operand_class t f r o ≡ Some k) × IsClass t k × (length (operand_widths t f o) ≡ length (widths_of t k))

-- An instruction that stays keeps the rules, where ranges keep their classes.
abbrev pub StaysKeepRules : Type 0
StaysKeepRules =
    (t : Target) (f g : Function) (i : Instr) → ((w : ℕ) → is_some (class_of f w) ≡ true → class_of g w ≡ class_of f w)
    → IsShaped t f i → does (λ e. not (is_lowered_away e)) t i ≡ true → IsShaped t g i

-- the opcode has roles, and is neither a store to a slot nor a reload
abbrev pub is_placed : Effect → Bool
is_placed e = has_roles e && not (spills_or_reloads e)

-- What stands before and behind a place with tinies is in form, where tinies have their classes from a range number on.
abbrev pub BesidesKeepRules : Type 0
BesidesKeepRules =
    (s : Spilling) (g : Function) (c : ℕ) (p : List Instr) → KeepsClasses s g → AreClasses s.target s.func
    → ((b : Block) (j : Instr) → Member b s.func.blocks → Member j b.instrs → IsShaped s.target s.func j)
    → ((i : Instr) → Member i p → IsShaped s.target s.func i) → ((i : Instr) → Member i p → does is_placed s.target i ≡ true) → ((i : Instr) → Member i p → is_lowered s.target i ≡ true)
    → ((j : ℕ) (k : Option ClassId) → slice_get (map (λ x. x.0) (place_change s c p).tinies) j ≡ Some k → class_of g (c + j) ≡ k)
    → (x : Instr) → Member x ((place_change s c p).before ++ (place_change s c p).behind) → IsInForm s.target g x

-- A place of the function, whose instructions keep the rules and have ids of their own: each is in lowered form and gets
-- tinies, which have their classes from a range number of g on.
pub record HasTinies (s : Spilling) (g : Function) (c : ℕ) (p : List Instr) : Type 0 where
  pub keeps : KeepsClasses s g
  pub classes : AreClasses s.target s.func
  pub further : length s.func.classes ≤ c
  pub shaped : (i : Instr) → Member i p → IsShaped s.target s.func i
  pub placed : (i : Instr) → Member i p → does is_placed s.target i ≡ true
  pub lowered : (i : Instr) → Member i p → is_lowered s.target i ≡ true
  pub once : (i j : Instr) → Member i p → Member j p → i.id ≡ j.id → i ≡ j
  pub tinies : (j : ℕ) (k : Option ClassId) → slice_get (map (λ x. x.0) (place_change s c p).tinies) j ≡ Some k → class_of g (c + j) ≡ k

-- Each of its instructions, with tinies in place of the range, is in form.
abbrev pub TiniesKeepRules : Type 0
TiniesKeepRules = (s : Spilling) (g : Function) (c : ℕ) (p : List Instr) → HasTinies s g c p → (x : Instr) → Member x (place_change s c p).own → IsInForm s.target g x

-- The function after a spill of one of its ranges is in the form in which ranges are spilled, and its instructions are in lowered form.
abbrev pub SpillKeepsLowered : Type 0
SpillKeepsLowered =
    (t : Target) (f g : Function) (slots new : Slots) (v : ℕ) (made : List (ℕ × ℕ)) → IsLowered t f → AreLowered t f → IsSpilled t f slots v g new made
    → IsLowered t g × AreLowered t g
