-- In a state of an allocation each range may be spilled and split.
use Rattle.std.proofs.Common.{◌≡◌, ◌<◌, ◌||◌, ◌++◌, ◌∙◌, ℕ, Bool, true, false, cond, [], ◌∷◌, Option, Some, None, refl, sym, ap, subst, eqb-true}
use Rattle.std.specs.Prelude.{is_some, length, nat_eq}
use Rattle.std.specs.List.{list_any}
use Rattle.std.proofs.lemmas.List.Folds.{list_any-append}
use Rattle.target_base.specs.declared.types.Target.{Target}
use Rattle.mir_func.specs.declared.func.Operand.{Operand}
use Rattle.mir_func.specs.declared.func.Operand.TheVariants as operands
use Rattle.mir_func.specs.declared.func.Instr.{Instr}
use Rattle.mir_func.specs.declared.func.Block.{Block}
use Rattle.mir_func.specs.Value.{Function}
use Rattle.mir_func.specs.Binding.{class_of, does}
use Rattle.mir_meaning.specs.Registers.{has_number}
use Rattle.mir_meaning.specs.Rules.{spills_or_reloads}
use Rattle.instr_effects.proofs.Members.{flat-in}
use Rattle.live_lanes.specs.declared.table.Table.{Table}
use Rattle.live_lanes.specs.Doing.{IsComputed}
use Rattle.live_laws.proofs.Effects.Lists.{all-of}
use Rattle.live_laws.proofs.Touch.Cells.{any-of}
use Rattle.spiller.specs.MaySpill.{MaySpill}
use Rattle.spiller.specs.Slots.{Slots, next_slot, original_of, own_slot, slot_of, with_slot}
use Rattle.spiller.specs.Spilled.{is_slot, names_slot, setting_of}
use Rattle.spiller.proofs.PathsTold.{told-facts}
use Rattle.run_laws.specs.Form.{IsInRun}
use Rattle.run_laws.proofs.Asked.{in_run_is_editable, in_run_may_split}
use Rattle.run_laws.proofs.Joins.{in-lowered-form}
use Rattle.ready_laws.specs.Frames.{HasFrames, names_own, slot_numbers}
use Rattle.ready_laws.proofs.FreeSlots.{free}
use Rattle.state_laws.specs.Passes.{StateMaySpill, StateMaySplit}
use Rattle.state_laws.proofs.Classes.{tinies-are-given}

may-spill : (t : Target) (f : Function) (x : Table) (v : ℕ) → IsInRun t f → IsComputed t f x → length f.blocks < 4294967296 → is_some (class_of f v) ≡ true → MaySpill t f x v
may-spill t f x v run computed few class =
    let editable = in_run_is_editable t f run in
    record {
      computed = computed;
      lowered = run.lowered;
      instrs = in-lowered-form t f run.instrs;
      undefs = run.undefs;
      named = λ b i mb mi w. editable.named w i (flat-in (λ (c : Block). c.instrs) i b f.blocks mb mi);
      last = editable.last;
      phis = editable.phis;
      known = editable.known;
      blocks = few;
      class = class;
    }

or-true : (b : Bool) → (b || true) ≡ true
or-true true = refl
or-true false = refl

-- the slot that is given next is named nowhere

module _ (t : Target) (f : Function) (s : Slots) (has : HasFrames t f s) where
  among : (n : ℕ) (moves : Bool) → cond moves (has_number (slot_numbers s) n) (has_number s.taken n) ≡ true → has_number (s.taken ++ slot_numbers s) n ≡ true
  among n true h = list_any-append (nat_eq n) s.taken (slot_numbers s) ∙ (ap (λ b. has_number s.taken n || b) h ∙ or-true (has_number s.taken n))
  among n false h = list_any-append (nat_eq n) s.taken (slot_numbers s) ∙ ap (λ b. b || has_number (slot_numbers s) n) h

  operand-among : (n : ℕ) (i : Instr) (o : Operand) → is_slot n o ≡ true → names_own t s i o ≡ true → has_number (s.taken ++ slot_numbers s) n ≡ true
  operand-among n i (operands.Stack m) e h =
      subst (λ k. has_number (s.taken ++ slot_numbers s) k ≡ true) (eqb-true m n e) (among m (does spills_or_reloads t i) h)
  operand-among n i o e h = absurd (cc)

  named-among : (n : ℕ) → names_slot n f ≡ true → has_number (s.taken ++ slot_numbers s) n ≡ true
  named-among n h =
      let b = any-of (λ (b : Block). list_any (λ (i : Instr). list_any (is_slot n) i.operands) b.instrs) f.blocks h in
      let i = any-of (λ (i : Instr). list_any (is_slot n) i.operands) b.0.instrs b.2 in
      let o = any-of (is_slot n) i.0.operands i.2 in
      operand-among n i.0 o.0 o.2 (all-of (names_own t s i.0) o.0 i.0.operands o.1 (has.operands b.0 i.0 b.1 i.1))

  next-unnamed : names_slot (next_slot s) f ≡ true → ⊥
  next-unnamed h = let z : true ≡ false = sym (named-among (next_slot s) h) ∙ free (s.taken ++ slot_numbers s) in cc

  -- so a range whose slot is named has it already
  own-given : (v : ℕ) → names_slot (own_slot s v) f ≡ true → with_slot s v ≡ s
  own-given v h = go (slot_of s v) h
    where
      go : (q : Option ℕ) → names_slot (elim q as (λ q. ℕ) [ None ↦ next_slot s | Some n ↦ n ]) f ≡ true
          → elim q as (λ q. Slots) [ None ↦ record s { given = s.given ++ ((original_of s v, own_slot s v) ∷ []) } | Some n ↦ s ] ≡ s
      go None h = absurd (next-unnamed h)
      go (Some n) h = refl

pub state-may-spill : StateMaySpill
state-may-spill x s rs v k computed few room class =
    let run = k.ready.run in
    let may = may-spill x.target x.func x.table v run computed few class in
    let told = told-facts x.target x.func x.table v may in (
      told.0,
      record {
        may = may;
        are_facts = told.1;
        free = room;
        originals = k.known.each;
        known = own-given x.target x.func s k.ready.frames v;
        classes = tinies-are-given (setting_of x.target x.func s v told.0) run.lowered;
      },
    )

pub state-may-split : StateMaySplit
state-may-split x s rs v ms k = in_run_may_split x.target x.func x.table v ms k.ready.run
