-- The opcodes of stores, reloads and repeated instructions: none is a terminator, and none names a block.
use Rattle.std.proofs.Common.{◌≡◌, ◌++◌, ◌∙◌, ℕ, Bool, true, false, cond, List, [], ◌∷◌, Option, Some, None, drop, flat_map, get_or, refl, sym, ap, subst, arith}
use Rattle.std.specs.Prelude.{option_and_then, option_map, position, slice_get}
use Rattle.std.proofs.lemmas.List.Quantifiers.{position-Some}
use Rattle.std.proofs.lemmas.Option.{slice_get-get_or}
use Rattle.target_base.specs.declared.types.ClassId.{ClassId}
use Rattle.target_base.specs.declared.types.Effect.{Effect}
use Rattle.target_base.specs.declared.types.Effect.TheVariants as effects
use Rattle.target_base.specs.declared.types.OpcodeDesc.{OpcodeDesc}
use Rattle.target_base.specs.declared.types.Role.{Role}
use Rattle.target_base.specs.declared.types.Role.TheVariants as roles
use Rattle.target_base.specs.declared.types.Target.{Target}
use Rattle.target_base.specs.Registers.{IsClass, regs_of, reload_place, spill_place}
use Rattle.target_base.specs.declared.types.IndexId.{IndexId}
use Rattle.target_base.specs.Roles.{is_definition as is_definition_role, is_frame_or_symbol, is_immediate, is_lanes, is_slot, is_use as is_use_role}
use Rattle.target_base.specs.Rules.{is_reload, is_spill, operand_regs, reloads, spills}
use Rattle.target_base.specs.Storage.{is_within}
use Rattle.target_base.proofs.Lookups.{reload_there, spill_there}
use Rattle.target_base.proofs.Tests.{first_of_both, position_within, second_of_both}
use Rattle.meaning.specs.Live.{Among as Member, here as first}
use Rattle.mir_func.specs.declared.func.RegOp.{RegOp}
use Rattle.mir_func.specs.declared.func.Operand.{Operand}
use Rattle.mir_func.specs.declared.func.Operand.TheVariants as operands
use Rattle.mir_func.specs.declared.func.Instr.{Instr}
use Rattle.mir_func.specs.declared.func.Block.{Block}
use Rattle.mir_func.specs.Value.{Function}
use Rattle.mir_func.specs.Edits.{made}
use Rattle.mir_func.specs.Binding.{does, effect_of, is_terminator, passes}
use Rattle.mir_meaning.specs.Rules.{V1, block_of, fits_role, named_blocks}
use Rattle.instr_effects.proofs.Members.{filter-of, flat-of}
use Rattle.live_laws.proofs.Effects.Moving.{some-same}
use Rattle.live_laws.proofs.Touch.Roles.{TakeAll, addr-takes, const-takes, reload-takes, spill-takes}
use Rattle.lowering_laws.proofs.Placed.{copy-effect}
use Rattle.spiller.specs.Setting.{Spilling, in_own_slot, lanes_named, opcode, reload, store}
use Rattle.spiller.specs.Rematerialised.{Holding, Never, Reading, Wish, Within, if_serves, is_constant, reaches, reaching, repeatable_class, repeated, repeated_for, serves, whole_class}

pub found : {X : Type 0} (p : X → Bool) (xs : List X) (n : ℕ) → position p xs ≡ Some n → (x : X) × (slice_get xs n ≡ Some x) × (p x ≡ true)
found p [] n e = absurd (let h = position_within p [] n e in omega arith)
found p (y ∷ ys) n e = let z = position-Some p (y ∷ ys) n y e in (get_or (y ∷ ys) n y, slice_get-get_or (y ∷ ys) n y z.0, z.1)

spill-is : (e : Effect) → is_spill e ≡ true → e ≡ effects.Spill
spill-is effects.Spill h = refl
spill-is e h = absurd (cc)

reload-is : (e : Effect) → is_reload e ≡ true → e ≡ effects.Reload
reload-is effects.Reload h = refl
reload-is e h = absurd (cc)

module _ (t : Target) where
  -- the opcode of that number moves registers of the class
  pub record Moves (e : Effect) (k : ClassId) (n : ℕ) : Type 0 where
    pub desc : OpcodeDesc
    pub there : slice_get t.opcodes n ≡ Some desc
    pub effect : desc.effect ≡ e
    pub within : is_within (regs_of t k) (operand_regs t.classes desc) ≡ true

  spill-moves : (k : ClassId) (n : ℕ) → spill_place t k ≡ Some n → Moves effects.Spill k n
  spill-moves k n e =
      let z = found (spills t.classes (regs_of t k)) t.opcodes n e in
      record {
        desc = z.0;
        there = z.1;
        effect = spill-is z.0.effect (first_of_both (is_spill z.0.effect) (is_within (regs_of t k) (operand_regs t.classes z.0)) z.2);
        within = second_of_both (is_spill z.0.effect) (is_within (regs_of t k) (operand_regs t.classes z.0)) z.2;
      }

  reload-moves : (k : ClassId) (n : ℕ) → reload_place t k ≡ Some n → Moves effects.Reload k n
  reload-moves k n e =
      let z = found (reloads t.classes (regs_of t k)) t.opcodes n e in
      record {
        desc = z.0;
        there = z.1;
        effect = reload-is z.0.effect (first_of_both (is_reload z.0.effect) (is_within (regs_of t k) (operand_regs t.classes z.0)) z.2);
        within = second_of_both (is_reload z.0.effect) (is_within (regs_of t k) (operand_regs t.classes z.0)) z.2;
      }

  -- a class has both

  pub store-moves : (k : ClassId) → IsClass t k → (n : ℕ) × (spill_place t k ≡ Some n) × Moves effects.Spill k n
  store-moves k h = go (spill_place t k) refl
    where
      go : (q : Option ℕ) → spill_place t k ≡ q → (n : ℕ) × (spill_place t k ≡ Some n) × Moves effects.Spill k n
      go None e = absurd (spill_there t.name t.version t.units t.regs t.reserved t.indexes t.classes t.masks t.opcodes t.sound k h e)
      go (Some n) e = (n, e, spill-moves k n e)

  pub load-moves : (k : ClassId) → IsClass t k → (n : ℕ) × (reload_place t k ≡ Some n) × Moves effects.Reload k n
  load-moves k h = go (reload_place t k) refl
    where
      go : (q : Option ℕ) → reload_place t k ≡ q → (n : ℕ) × (reload_place t k ≡ Some n) × Moves effects.Reload k n
      go None e = absurd (reload_there t.name t.version t.units t.regs t.reserved t.indexes t.classes t.masks t.opcodes t.sound k h e)
      go (Some n) e = (n, e, reload-moves k n e)

  -- stores and reloads go on, whatever their class

  opcode-goes-on : (e : Effect) → is_terminator e ≡ false → (place : ClassId → Option ℕ) → ((k : ClassId) (n : ℕ) → place k ≡ Some n → Moves e k n) → (k : Option ClassId) (os : List Operand) → does is_terminator t (made 0 (opcode (option_and_then place k)) os) ≡ false
  opcode-goes-on e plain place moves None os = ap (passes is_terminator) (copy-effect t (made 0 (opcode None) os) refl)
  opcode-goes-on e plain place moves (Some k) os = go (place k) refl
    where
      go : (q : Option ℕ) → place k ≡ q → does is_terminator t (made 0 (opcode q) os) ≡ false
      go None h = ap (passes is_terminator) (copy-effect t (made 0 (opcode None) os) refl)
      go (Some n) h = let z = moves k n h in ap (λ q. passes is_terminator (option_map (λ (d : OpcodeDesc). d.effect) q)) z.there ∙ (ap is_terminator z.effect ∙ plain)

  pub store-goes-on : (k : Option ClassId) (o : RegOp) (slot : List Operand) → does is_terminator t (store t k o slot) ≡ false
  store-goes-on k o slot = opcode-goes-on effects.Spill refl (spill_place t) spill-moves k (operands.Reg o ∷ slot)

  pub reload-goes-on : (k : Option ClassId) (o : RegOp) (slot : List Operand) → does is_terminator t (reload t k o slot) ≡ false
  reload-goes-on k o slot = opcode-goes-on effects.Reload refl (reload_place t) reload-moves k (operands.Reg o ∷ slot)

-- repeated instructions

served : (t : Target) (wish : Wish) (ds : List Instr) (d : Instr) → if_serves t wish ds ≡ Some d → Member d ds × (serves t wish (repeatable_class t d) ≡ true)
served t wish [] d e = absurd (cc)
served t wish (x ∷ []) d e = go (serves t wish (repeatable_class t x)) refl e
  where
    go : (b : Bool) → serves t wish (repeatable_class t x) ≡ b → cond b (Some x) None ≡ Some d → Member d (x ∷ []) × (serves t wish (repeatable_class t d) ≡ true)
    go true h g = let same : x ≡ d = some-same x d g in (subst (λ y. Member d (y ∷ [])) (sym same) first, subst (λ y. serves t wish (repeatable_class t y) ≡ true) same h)
    go false h g = absurd (cc)
served t wish (x ∷ y ∷ xs) d e = absurd (cc)

nothing-serves : (t : Target) (wish : Wish) → serves t wish None ≡ false
nothing-serves t Never = refl
nothing-serves t (Within None) = refl
nothing-serves t (Within (Some c)) = refl
nothing-serves t (Holding r) = refl

serving-constant : (t : Target) (wish : Wish) (d : Instr) → serves t wish (repeatable_class t d) ≡ true → does is_constant t d ≡ true
serving-constant t wish d h = go (does is_constant t d) refl h
  where
    go : (b : Bool) → does is_constant t d ≡ b → serves t wish (cond b (whole_class t d d.operands) None) ≡ true → does is_constant t d ≡ true
    go true e g = e
    go false e g = absurd (let z = nothing-serves t wish in cc)

-- the instruction that is repeated for a reading is a constant of the function, and serves
pub record Repeats (s : Spilling) (r : Reading) (d : Instr) : Type 0 where
  pub block : Block
  pub there : Member block s.func.blocks
  pub inside : Member d block.instrs
  pub constant : does is_constant s.target d ≡ true
  pub serving : serves s.target r.wish (repeatable_class s.target d) ≡ true

pub repeats-for : (s : Spilling) (r : Reading) (d : Instr) → repeated_for s r ≡ Some d → Repeats s r d
repeats-for s r d e =
    let z = served s.target r.wish (reaching s r) d e in
    let m = (filter-of (λ x. reaches s x r) d (flat_map (λ b. b.instrs) s.func.blocks) z.0).0 in
    let b = flat-of (λ (b : Block). b.instrs) d s.func.blocks m in
    record { block = b.0; there = b.1; inside = b.2; constant = serving-constant s.target r.wish d z.1; serving = z.1 }

constant-goes-on : (q : Option Effect) → passes is_constant q ≡ true → passes is_terminator q ≡ false
constant-goes-on None h = refl
constant-goes-on (Some effects.Const) h = refl
constant-goes-on (Some effects.Addr) h = refl
constant-goes-on (Some e) h = absurd (cc)

pub repeated-goes-on : (t : Target) (d : Instr) (o : RegOp) → does is_constant t d ≡ true → does is_terminator t (repeated d o) ≡ false
repeated-goes-on t d o h = constant-goes-on (effect_of t d) h

immediate-names : (r : Role) (x : Operand) → is_immediate r ≡ true → fits_role r x ≡ true → block_of x ≡ []
immediate-names roles.Imm (operands.Imm z) h g = refl
immediate-names r x h g = absurd (cc)

object-names : (r : Role) (x : Operand) → is_frame_or_symbol r ≡ true → fits_role r x ≡ true → block_of x ≡ []
object-names roles.Frame (operands.Stack n) h g = refl
object-names roles.Frame (operands.FixedStack n) h g = refl
object-names roles.Sym (operands.Symbol n) h g = refl
object-names r x h g = absurd (cc)

second-names : (test : Role → Bool) → ((r : Role) (x : Operand) → test r ≡ true → fits_role r x ≡ true → block_of x ≡ []) → (os : List Operand) → TakeAll (is_definition_role ∷ test ∷ []) os → flat_map block_of (drop 1 os) ≡ []
second-names test h [] a = absurd a
second-names test h (x ∷ []) a = absurd a.1
second-names test h (x ∷ y ∷ []) a = ap (λ ns. ns ++ []) (h a.1.0.0 y a.1.0.1 a.1.0.2)
second-names test h (x ∷ y ∷ z ∷ os) a = absurd a.1.1

pub repeated-names : (t : Target) (f : Function) (d : Instr) (o : RegOp) → V1 t f d ≡ true → does is_constant t d ≡ true → named_blocks (repeated d o) ≡ []
repeated-names t f d o rule h = go (effect_of t d) refl h
  where
    go : (q : Option Effect) → effect_of t d ≡ q → passes is_constant q ≡ true → flat_map block_of (drop 1 d.operands) ≡ []
    go None e h = absurd (cc)
    go (Some effects.Const) e h = second-names is_immediate immediate-names d.operands (const-takes t f d rule e)
    go (Some effects.Addr) e h = second-names is_frame_or_symbol object-names d.operands (addr-takes t f d rule e)
    go (Some x) e h = absurd (cc)

-- the slot and the lanes that a store or a reload of the function names

pub record IsSlot (slot : List Operand) : Type 0 where
  pub number : ℕ
  pub lanes : Operand
  pub is : slot ≡ operands.Stack number ∷ lanes ∷ []
  pub fits : fits_role roles.Lanes lanes ≡ true

slot-operand : (r : Role) (x : Operand) → is_slot r ≡ true → fits_role r x ≡ true → (n : ℕ) × (x ≡ operands.Stack n)
slot-operand roles.Slot (operands.Stack n) h g = (n, refl)
slot-operand r x h g = absurd (cc)

lanes-operand : (r : Role) (x : Operand) → is_lanes r ≡ true → fits_role r x ≡ true → fits_role roles.Lanes x ≡ true
lanes-operand roles.Lanes x h g = g
lanes-operand r x h g = absurd (cc)

behind-first : (test : Role → Bool) (os : List Operand) (o : RegOp) (slot : List Operand) → os ≡ operands.Reg o ∷ slot → TakeAll (test ∷ is_slot ∷ is_lanes ∷ []) os → IsSlot slot
behind-first test [] o slot e a = absurd a
behind-first test (x ∷ []) o slot e a = absurd a.1
behind-first test (x ∷ y ∷ []) o slot e a = absurd a.1.1
behind-first test (x ∷ y ∷ z ∷ []) o slot e a =
    let n = slot-operand a.1.0.0 y a.1.0.1 a.1.0.2 in
    record { number = n.0; lanes = z; is = sym (rest x (operands.Reg o) (y ∷ z ∷ []) slot e) ∙ ap (λ w. w ∷ z ∷ []) n.1; fits = lanes-operand a.1.1.0.0 z a.1.1.0.1 a.1.1.0.2 }
  where
    rest : (x y : Operand) (xs ys : List Operand) → x ∷ xs ≡ y ∷ ys → xs ≡ ys
    rest x y xs ys e = cc
behind-first test (x ∷ y ∷ z ∷ w ∷ os) o slot e a = absurd a.1.1.1

pub spill-slot : (t : Target) (f : Function) (i : Instr) (o : RegOp) (slot : List Operand) → V1 t f i ≡ true → effect_of t i ≡ Some effects.Spill → i.operands ≡ operands.Reg o ∷ slot → IsSlot slot
spill-slot t f i o slot rule known e = behind-first is_use_role i.operands o slot e (spill-takes t f i rule known)

pub reload-slot : (t : Target) (f : Function) (i : Instr) (o : RegOp) (slot : List Operand) → V1 t f i ≡ true → effect_of t i ≡ Some effects.Reload → i.operands ≡ operands.Reg o ∷ slot → IsSlot slot
reload-slot t f i o slot rule known e = behind-first is_definition_role i.operands o slot e (reload-takes t f i rule known)

pub own-slot : (s : Spilling) (x : Option IndexId) → IsSlot (in_own_slot s x)
own-slot s None = record { number = s.slot; lanes = lanes_named None; is = refl; fits = refl }
own-slot s (Some x) = record { number = s.slot; lanes = lanes_named (Some x); is = refl; fits = refl }

lanes-name : (x : Operand) → fits_role roles.Lanes x ≡ true → block_of x ≡ []
lanes-name (operands.Imm z) h = refl
lanes-name (operands.Index x) h = refl
lanes-name x h = absurd (cc)

pub slot-names : (slot : List Operand) → IsSlot slot → flat_map block_of slot ≡ []
slot-names slot z = ap (flat_map block_of) z.is ∙ ap (λ ns. ns ++ []) (lanes-name z.lanes z.fits)
