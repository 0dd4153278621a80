use Rattle.std.proofs.Common.{◌≡◌, ◌∙◌, ap, sym}
use Rattle.target_desc.specs.Drafts.{empty_draft, names_of}
use Rattle.target_desc.specs.Keeping.{keeps_rules}
use Rattle.target_desc.proofs.Drafted.{empty_keeps}
use Rattle.target_desc.proofs.read.TargetReader.new.Goals as goal

pub invariant_of-result : goal.invariant_of-result
invariant_of-result c =
    let first = c.in_ok-draft.ensures ∙ c.in_ok-empty_draft.ensures in
    record {
      named = c.in_ok-names.ensures ∙ c.in_ok-first_names.ensures ∙ ap names_of (sym first);
      sound = ap keeps_rules first ∙ empty_keeps;
    }
