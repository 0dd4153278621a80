use Rattle.std.proofs.Common.{◌≡◌, ◌∙◌, true, ap, sym, subst}
use Rattle.std.proofs.lemmas.Result.{err_from_is_err_and}
use Rattle.target_desc.specs.Drafts.{names_of}
use Rattle.target_desc.specs.Resolving.{is_new}
use Rattle.target_desc.specs.Keeping.{keeps_rules, AreFew}
use Rattle.target_desc.specs.Standing.{stands}
use Rattle.target_desc.specs.Adding.{noted}
use Rattle.target_desc.proofs.Drafted.{added_keeps, names_added}
use Rattle.target_desc.proofs.Ended.{few_names}
use Rattle.target_desc.proofs.read.TargetReader.add_line.Goals as goal

pub note_name-requires-clause-room : goal.note_name-requires-clause-room
note_name-requires-clause-room c = subst AreFew (sym c.args.self.named) (few_names c.args.self.draft c.args.self.sound)

pub returns-in_err-draft : goal.returns-in_err-draft
returns-in_err-draft c = let p = err_from_is_err_and c.from_residual-in_err-draft.result c.from_residual-in_err-draft.ensures.1 in rw (p.1, p.2) tt

pub invariant_of-result : goal.invariant_of-result
invariant_of-result c =
    let new : is_new (names_of c.args.self.draft) c.args.line ≡ true = ap (λ n. is_new n c.args.line) (sym c.args.self.named) ∙ c.requires in
    record {
      named = c.in_ok-names.ensures ∙ ap (λ n. noted n c.args.line) c.args.self.named ∙ names_added c.args.self.draft c.args.line new ∙ ap names_of (sym c.in_ok-draft.ensures);
      sound = ap keeps_rules c.in_ok-draft.ensures ∙ added_keeps c.args.self.draft c.args.line c.args.self.sound new (ap (λ d. stands d c.args.line) (sym c.get.ensures) ∙ sym c.stands.ensures ∙ c.if-not-stands.false);
    }
