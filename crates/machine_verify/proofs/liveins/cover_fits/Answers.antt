use Rattle.std.proofs.Common.{◌∙◌, ap, length}
use Rattle.target_base.specs.Storage.{same_numbers}
use Rattle.mir_meaning.specs.Registers.{numbers}
use Rattle.mir_meaning.specs.Valid.{unreserved_registers}
use Rattle.machine_verify.specs.Liveins.{is_set, standing, register_numbers, wanted}
use Rattle.machine_verify.proofs.Lived.{cover_is}
use Rattle.machine_verify.proofs.liveins.cover_fits.Goals as goal

pub returns : goal.returns
returns c =
    let t = c.args.target.now in
    let live = is_set c.args.live.now in
    let us = numbers 0 (length t.units) in
    let r = c.as_slice-3.ensures.value ∙ c.in_ok-rs.ensures in
    let w = c.as_slice-4.ensures.value ∙ (c.in_ok-stands.ensures ∙ ap (λ rs. wanted t rs live us) (c.as_slice.ensures.value ∙ c.in_ok-rs.ensures)) in
    c.lists_cover.ensures
    ∙ (ap (λ ls. same_numbers (register_numbers ls) (register_numbers (standing c.as_slice-4.result.now c.as_slice-3.result.now))) c.as_slice-2.ensures
    ∙ (ap (λ ws. same_numbers (register_numbers c.args.b.now.liveins) (register_numbers (standing ws c.as_slice-3.result.now))) w
    ∙ (ap (λ rs. same_numbers (register_numbers c.args.b.now.liveins) (register_numbers (standing (wanted t (unreserved_registers t) live us) rs))) r
    ∙ ap (λ rs. same_numbers (register_numbers c.args.b.now.liveins) (register_numbers rs)) (cover_is t live))))
