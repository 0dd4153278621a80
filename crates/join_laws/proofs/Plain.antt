-- A function whose instructions are in lowered form has no `undef` definition, and no copy of an `undef` source.
use Rattle.std.proofs.Common.{◌≡◌, ◌&&◌, not, Bool, true}
use Rattle.std.specs.List.{list_all, list_any}
use Rattle.std.proofs.lemmas.Bool.{not-true}
use Rattle.target_base.specs.declared.types.Target.{Target}
use Rattle.target_base.specs.Rules.{is_copy}
use Rattle.target_base.proofs.Tests.{first_of_both, second_of_both}
use Rattle.mir_func.specs.declared.func.Block.{Block}
use Rattle.mir_func.specs.Value.{Function}
use Rattle.mir_func.specs.Binding.{does, is_lowered_away, registers, tied_pairs}
use Rattle.live_laws.proofs.Effects.Lists.{all-of}
use Rattle.lowering_laws.specs.Form.{is_lowered, is_undef_definition, is_undef_use, shares_register}
use Rattle.lowering_laws.proofs.LoweredForm.{lowered_form}
use Rattle.two_address.specs.Lowered.{lowered}
use Rattle.join_laws.specs.Laws.{HasPlainUndefs, LoweredHasPlainUndefs}

pub plain-undefs : (t : Target) (f : Function) → list_all (λ (b : Block). list_all (is_lowered t) b.instrs) f.blocks ≡ true → HasPlainUndefs t f
plain-undefs t f all b i mb mi =
    let form = all-of (is_lowered t) i b.instrs mi (all-of (λ (b : Block). list_all (is_lowered t) b.instrs) b f.blocks mb all) in
    let away : Bool = not (does is_lowered_away t i) in
    let defs : Bool = list_any is_undef_definition (registers i.operands) in
    let copy : Bool = does is_copy t i && list_any is_undef_use (registers i.operands) in
    let ties : Bool = list_all shares_register (tied_pairs t i) in
    let three = first_of_both (away && not defs && not copy) ties form in (
      not-true defs (second_of_both away (not defs) (first_of_both (away && not defs) (not copy) three)),
      not-true copy (second_of_both (away && not defs) (not copy) three),
    )

pub lowered_has_plain_undefs : LoweredHasPlainUndefs
lowered_has_plain_undefs t f valid = plain-undefs t (lowered t f) (lowered_form t f valid)
