-- What is planned where the range is moved from place to place.
use Rattle.std.specs.Prelude.{◌≡◌, ℕ, Bool, true, false, List, [], ◌∷◌, Option, Some, None, option_map}
use Rattle.target_base.specs.declared.types.ClassId.{ClassId}
use Rattle.target_base.specs.declared.types.Effect.{Effect}
use Rattle.target_base.specs.declared.types.Effect.TheVariants as effects
use Rattle.target_base.specs.declared.types.Target.{Target}
use Rattle.mir_func.specs.declared.func.Gap.{Gap}
use Rattle.mir_func.specs.declared.func.Loc.TheVariants.{Virtual}
use Rattle.mir_func.specs.declared.func.Instr.{Instr}
use Rattle.mir_func.specs.declared.func.RegOp.{RegOp}
use Rattle.mir_func.specs.declared.func.Operand.{Operand}
use Rattle.live_lanes.specs.Touching.{FindsInstrs}
use Rattle.live_edits.specs.declared.edit.Edit.TheVariants as edits
use Rattle.spiller.specs.declared.plan.SpillView.{SpillView}
use Rattle.spiller.specs.declared.remat.UseKey.{UseKey}
use Rattle.spiller.specs.Setting.{Spilling, class_beside, in_own_slot, moving_class, plain_definition, plain_use, reload, store}
use Rattle.spiller.specs.Rematerialised.{repeated}
use Rattle.spiller.specs.Spilled.{Change, becomes, in_place_of, slot_change, through_tiny}
use Rattle.spiller.specs.Views.{IsThere}
use Rattle.spiller.specs.Planned.{copy_key, known_op}
use Rattle.spiller.specs.Additions.{Addition}

-- the answer for the source of a copy is the id of the instruction that is repeated for it, which is one of the function's
pub record IsCopied (view : SpillView) (answer : UseKey → Option ℕ) (id : ℕ) (source : Option Instr) : Type 0 where
  pub finds : FindsInstrs view.live.now.table view.live.now.func.blocks
  pub is_source : answer (copy_key id) ≡ option_map (λ d. d.id) source
  pub there : (d : Instr) → source ≡ Some d → IsThere view.live.now.func d

-- what becomes of a copy from the range: the instruction that is repeated, where there is one, or a reload
abbrev pub copied_from : Spilling → Option Instr → Instr → RegOp → RegOp → Change
copied_from s source i d o = elim source [
  | None ↦ becomes (in_place_of i (reload s.target (class_beside s d d.loc) (plain_definition d.loc d.index) (in_own_slot s o.index)) ∷ [])
  | Some x ↦ record (becomes []) { before = repeated x (plain_definition d.loc d.index) ∷ [] }
]

-- lanes of one slot go to lanes of another through a tiny c, one of the slots being the range's
abbrev pub moved_through : Target → ℕ → ℕ → ℕ → Gap → Option ClassId → List Operand → List Operand → Addition
moved_through t n c id gap k from to =
    let load = reload t k (plain_definition (Virtual c) None) from in
    let save = store t k (plain_use (Virtual c) None) to in
    record {
      edits = edits.Replace id (known_op load.op) load.operands ∷ edits.Put gap (known_op save.op) save.operands ∷ [];
      tinies = (k, n) ∷ [];
      uses_slot = true;
      new = 1;
    }

-- what becomes of a store of the range, and of a reload
abbrev pub spill_change : Spilling → ℕ → ℕ → Instr → RegOp → List Operand → Change
spill_change s n c i o slot = slot_change s n c i o slot (λ own other. through_tiny s n c i (moving_class s o.index) own other)

abbrev pub reload_change : Spilling → ℕ → ℕ → Instr → RegOp → List Operand → Change
reload_change s n c i o slot = slot_change s n c i o slot (λ own other. through_tiny s n c i (moving_class s o.index) other own)

-- the effect is none of those whose instructions are changed by themselves
abbrev pub is_placed : Effect → Bool
is_placed effects.Copy = false
is_placed effects.Spill = false
is_placed effects.Reload = false
is_placed effects.ImplicitDef = false
is_placed e = true
