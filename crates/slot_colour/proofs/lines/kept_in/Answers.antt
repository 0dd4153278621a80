use Rattle.std.proofs.Common.{◌≡◌, ◌++◌, length, ap, sym, ◌∙◌, append-nil}
use Rattle.mir_text.proofs.Lines.{lines_none, nothing}
use Rattle.slot_colour.specs.Lines.{kept_from}
use Rattle.slot_colour.specs.Colouring.{is_gone}
use Rattle.slot_colour.proofs.lines.kept_in.Goals as goal

pub returns : goal.returns
returns c =
    let none : length c.lines.rest.now ≡ 0 = nothing (length c.lines.rest.now) c.is_empty.result c.is_empty.ensures c.lines-test.false in
    sym (append-nil c.lines.made) ∙ ap (λ ls. c.lines.made ++ kept_from (is_gone c.args.taken.now) c.lines.is_stack ls) (sym (lines_none c.lines.rest.now none)) ∙ c.lines.invariant
