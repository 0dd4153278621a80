use Rattle.std.proofs.Common.{◌≡◌, ◌∙◌, length, sym}
use Rattle.std.proofs.lemmas.Bool.{eqb-true}
use Rattle.alloc_check.specs.Cells.{asked}
use Rattle.alloc_check.proofs.Marked.{takes-none}
use Rattle.alloc_check.proofs.needs.Needs.take_written.Goals as goal

pub returns-then-is_empty-2 : goal.returns-then-is_empty-2
returns-then-is_empty-2 c =
    let ws = c.args.first.now in
    let vs = c.args.second.now in
    let none : length ws ≡ 0 = eqb-true (length ws) 0 (sym c.is_empty.ensures ∙ c.if-is_empty.true) in
    let none' : length vs ≡ 0 = eqb-true (length vs) 0 (sym c.is_empty-then-is_empty.ensures ∙ c.if-is_empty-2.true) in
    takes-none ws vs (asked c.args.self.now) c.new.result none none' c.new.ensures
