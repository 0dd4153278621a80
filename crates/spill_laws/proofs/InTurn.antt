-- Spills one after the other keep the form.
use Rattle.std.proofs.Common.{ℕ, List, [], ◌∷◌, sym, subst}
use Rattle.std.specs.List.{list_all}
use Rattle.target_base.specs.declared.types.Target.{Target}
use Rattle.mir_func.specs.declared.func.Block.{Block}
use Rattle.mir_func.specs.Value.{Function}
use Rattle.live_laws.proofs.Effects.Lists.{all-of}
use Rattle.lowering_laws.specs.Form.{is_lowered}
use Rattle.lowering_laws.specs.Shapes.{IsLowered}
use Rattle.lowering_laws.proofs.LoweredForm.{lowered_form}
use Rattle.lowering_laws.proofs.LoweredRules.{lowered_is_splittable}
use Rattle.two_address.specs.Lowered.{lowered}
use Rattle.spiller.specs.Slots.{Slots}
use Rattle.spill_laws.specs.Laws.{AreLowered}
use Rattle.spill_laws.specs.Named.{FormHasPlainUndefs, HasFixedUndefs}
use Rattle.spill_laws.specs.Turns.{LoweredSpillsKeepForm, SpilledInTurn}
use Rattle.spill_laws.proofs.FixedUndefs.{spill_keeps_named}
use Rattle.spill_laws.proofs.InForm.{spill_keeps_lowered}
use Rattle.spill_laws.proofs.LoweredUndefs.{lowered_has_fixed_undefs}
use Rattle.spill_laws.proofs.Touched.{low-copies}
use Rattle.spill_laws.proofs.TinyApart.{none-before}

pub form_has_plain_undefs : FormHasPlainUndefs
form_has_plain_undefs t f formed b i mb mi =
    let low = all-of (is_lowered t) i b.instrs mi (all-of (λ (d : Block). list_all (is_lowered t) d.instrs) b f.blocks mb formed) in
    (none-before t i low, low-copies t i low)

in-turn : (t : Target) (f g : Function) (slots new : Slots) (vs : List ℕ) → IsLowered t f → AreLowered t f → HasFixedUndefs t f → SpilledInTurn t f slots vs g new → IsLowered t g × AreLowered t g × HasFixedUndefs t g
in-turn t f g slots new [] low formed fixed s = subst (λ h. IsLowered t h × AreLowered t h × HasFixedUndefs t h) (sym s.0) (low, formed, fixed)
in-turn t f g slots new (v ∷ vs) low formed fixed s =
    let w = spill_keeps_lowered t f s.0 slots s.1 v s.2 low formed s.3 in
    in-turn t s.0 g s.1 new vs w.0 w.1 (spill_keeps_named t f s.0 slots s.1 v s.2 low formed fixed s.3).0 s.4

pub lowered_spills_keep_form : LoweredSpillsKeepForm
lowered_spills_keep_form t f g slots new vs valid classes some s =
    in-turn t (lowered t f) g slots new vs (lowered_is_splittable t f valid classes some) (lowered_form t f valid) (lowered_has_fixed_undefs t f valid classes) s
