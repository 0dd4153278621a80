use Rattle.std.proofs.Common.{◌∙◌, ap, sym}
use Rattle.target_base.specs.Rules.{is_sound}
use Rattle.target_desc.specs.Keeping.{keeps_rules}
use Rattle.target_desc.specs.Ending.{options_of, reserved_of, is_whole, parts_under}
use Rattle.target_desc.specs.declared.draft.Draft.{Draft}
use Rattle.std.specs.Prelude.{option_map}
use Rattle.target_desc.proofs.Ended.{sound_at_end, parts_made}
use Rattle.target_desc.proofs.read.TargetReader.into_target.Goals as goal

pub invariant_of-result : goal.invariant_of-result
invariant_of-result c =
    let d = c.into_inner-header.result in
    let h = c.in-Some.field-0 in
    let same = c.into_inner-header.ensures in
    record {
      sound = ap (λ us. is_sound h.name h.version d.units d.regs us d.indexes d.classes d.masks d.opcodes) (c.requires.reserved ∙ ap reserved_of (sym same)) ∙ sound_at_end d h (ap keeps_rules same ∙ c.args.self.sound) c.in-Some.is (ap is_whole same ∙ c.requires.complete);
    }

pub returns : goal.returns
returns c =
    let d = c.into_inner-header.result in
    let same = c.into_inner-header.ensures in
    parts_made c.in-Some.field-0 d c.args.reserved (options_of c.args.options) d.header (c.requires.reserved ∙ ap reserved_of (sym same)) (c.requires.options ∙ ap (λ (x : Draft). x.options) (sym same)) c.in-Some.is
    ∙ ap (λ (x : Draft). option_map (λ h. parts_under h x) x.header) same
