use Rattle.std.proofs.Common.{◌+◌, ◌∙◌, ◌∷◌, [], Some, sym, ap, refl}
use Rattle.std.specs.Prelude.{slice_get}
use Rattle.target_base.specs.declared.types.Effect.TheVariants as effects
use Rattle.mir_func.specs.Binding.{registers}
use Rattle.mir_func.specs.declared.func.Operand.TheVariants as operands
use Rattle.live_laws.proofs.Touch.Roles.{met}
use Rattle.spiller.specs.Setting.{lanes_named}
use Rattle.spiller.specs.Moving.{reload_change, spill_change}
use Rattle.spiller.specs.Spilled.{change, copy_change, undefined_change}
use Rattle.spiller.specs.Rematerialised.{copy_reading, repeated_for}
use Rattle.spiller.specs.Views.{gap_before, gap_behind, own_setting, planned, spilling_of}
use Rattle.spiller.proofs.Moves.{then-swapped}
use Rattle.spiller.specs.Readings.{goes_in, source_in}
use Rattle.spiller.proofs.Placed.{live-alike}
use Rattle.spiller.proofs.Singles.{access-registers, behind, copied-known, copy-effect, copy-is, copy-shape, live, one-own, ordered, other-effect, reload-effect, reload-is, reload-shape, shaped, spill-effect, spill-is, spill-shape, touched-named, undefined-effect, undefined-is, undefined-shape}
use Rattle.spiller.proofs.places.change_by_effect.Goals as goal

pub returns-then-is_copy : goal.returns-then-is_copy
returns-then-is_copy c facts w p j b is_block is_instr plain touched known =
    let view = c.args.view in
    let i = c.args.instr.now in
    let s = spilling_of view view.slot facts in
    let answer = source_in c.args.remat.now in
    let goes = goes_in c.args.remat.now in
    let gap = gap_behind b (slice_get b.instrs (j + 1)) in
    let p0 = planned c.args.plan.now in
    let named = touched-named s i touched in
    let good = shaped view facts answer goes w p j b i is_block is_instr in
    let here = behind view facts answer goes w p j b i is_block is_instr in
    let is = known ∙ ap Some (copy-effect c.args.effect (sym c.is_copy.ensures ∙ c.if-is_copy.true)) in
    let shape = copy-shape i.operands (met s.target s.func i effects.Copy is good.operands).3 in
    then-swapped c.change_copy.result s (gap_before view i.id) gap (i ∷ []) (change s c.args.plan.now.next_id c.args.plan.now.next_range (i ∷ [])) (copy_change s c.args.plan.now.next_id c.args.plan.now.next_range i shape.0 shape.1) p0 (planned c.change_copy.new.plan) (copy-is s c.args.plan.now.next_id c.args.plan.now.next_range i shape.0 shape.1 is shape.2)
    (c.change_copy.ensures facts shape.0 shape.1 gap (repeated_for s (copy_reading s i shape.0 shape.1)) shape.2 named here (λ own. copied-known view facts answer goes w p j b i is_block is_instr shape.0 shape.1 is shape.2 own) (λ own. refl))

pub returns-then-is_spill : goal.returns-then-is_spill
returns-then-is_spill c facts w p j b is_block is_instr plain touched known =
    let view = c.args.view in
    let i = c.args.instr.now in
    let s = spilling_of view view.slot facts in
    let answer = source_in c.args.remat.now in
    let goes = goes_in c.args.remat.now in
    let gap = gap_behind b (slice_get b.instrs (j + 1)) in
    let p0 = planned c.args.plan.now in
    let named = touched-named s i touched in
    let good = shaped view facts answer goes w p j b i is_block is_instr in
    let here = behind view facts answer goes w p j b i is_block is_instr in
    let is = known ∙ ap Some (spill-effect c.args.effect (sym c.is_spill.ensures ∙ c.if-is_spill.true)) in
    let shape = spill-shape s.target s.func i good.operands is in
    let own = one-own s i shape.0 (ap registers shape.3 ∙ access-registers shape.0 shape.1 shape.2) named in
    then-swapped c.change_spill.result s (gap_before view i.id) gap (i ∷ []) (change s c.args.plan.now.next_id c.args.plan.now.next_range (i ∷ [])) (spill_change s c.args.plan.now.next_id c.args.plan.now.next_range i shape.0 (operands.Stack shape.1 ∷ lanes_named shape.2 ∷ [])) p0 (planned c.change_spill.new.plan) (spill-is s c.args.plan.now.next_id c.args.plan.now.next_range i shape.0 (operands.Stack shape.1 ∷ lanes_named shape.2 ∷ []) is shape.3)
    (c.change_spill.ensures facts gap shape.0 shape.1 shape.2 shape.3 own here)

pub returns-then-is_reload : goal.returns-then-is_reload
returns-then-is_reload c facts w p j b is_block is_instr plain touched known =
    let view = c.args.view in
    let i = c.args.instr.now in
    let s = spilling_of view view.slot facts in
    let answer = source_in c.args.remat.now in
    let goes = goes_in c.args.remat.now in
    let gap = gap_behind b (slice_get b.instrs (j + 1)) in
    let p0 = planned c.args.plan.now in
    let named = touched-named s i touched in
    let good = shaped view facts answer goes w p j b i is_block is_instr in
    let here = behind view facts answer goes w p j b i is_block is_instr in
    let is = known ∙ ap Some (reload-effect c.args.effect (sym c.is_reload.ensures ∙ c.if-is_reload.true)) in
    let shape = reload-shape s.target s.func i good.operands is in
    let own = one-own s i shape.0 (ap registers shape.3 ∙ access-registers shape.0 shape.1 shape.2) named in
    then-swapped c.change_reload.result s (gap_before view i.id) gap (i ∷ []) (change s c.args.plan.now.next_id c.args.plan.now.next_range (i ∷ [])) (reload_change s c.args.plan.now.next_id c.args.plan.now.next_range i shape.0 (operands.Stack shape.1 ∷ lanes_named shape.2 ∷ [])) p0 (planned c.change_reload.new.plan) (reload-is s c.args.plan.now.next_id c.args.plan.now.next_range i shape.0 (operands.Stack shape.1 ∷ lanes_named shape.2 ∷ []) is shape.3)
    (c.change_reload.ensures facts gap shape.0 shape.1 shape.2 shape.3 own here)

pub returns-then-is_undefined : goal.returns-then-is_undefined
returns-then-is_undefined c facts w p j b is_block is_instr plain touched known =
    let view = c.args.view in
    let i = c.args.instr.now in
    let s = spilling_of view view.slot facts in
    let answer = source_in c.args.remat.now in
    let goes = goes_in c.args.remat.now in
    let gap = gap_behind b (slice_get b.instrs (j + 1)) in
    let p0 = planned c.args.plan.now in
    let named = touched-named s i touched in
    let good = shaped view facts answer goes w p j b i is_block is_instr in
    let here = behind view facts answer goes w p j b i is_block is_instr in
    let is = known ∙ ap Some (undefined-effect c.args.effect (sym c.is_undefined.ensures ∙ c.if-is_undefined.true)) in
    let shape = undefined-shape i.operands (met s.target s.func i effects.ImplicitDef is good.operands).3 in
    let own = one-own s i shape.0 (ap registers shape.1) named in
    then-swapped c.change_undefined.result s (gap_before view i.id) gap (i ∷ []) (change s c.args.plan.now.next_id c.args.plan.now.next_range (i ∷ [])) (undefined_change s i shape.0) p0 (planned c.change_undefined.new.plan) (undefined-is s c.args.plan.now.next_id c.args.plan.now.next_range i shape.0 is shape.1)
    (c.change_undefined.ensures facts gap shape.0 shape.1 own (ordered view facts answer goes w) (live-alike (own_setting view).facts s i shape.0.index (live view facts answer goes w p j b i is_block is_instr)))

pub returns : goal.returns
returns c facts w p j b is_block is_instr plain touched known =
    c.change_other.ensures facts w p j b is_block is_instr plain c.args.effect known
    (other-effect c.args.effect (sym c.is_copy.ensures ∙ c.if-is_copy.false) (sym c.is_spill.ensures ∙ c.if-is_spill.false) (sym c.is_reload.ensures ∙ c.if-is_reload.false) (sym c.is_undefined.ensures ∙ c.if-is_undefined.false))
