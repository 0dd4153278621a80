use Rattle.std.proofs.Common.{◌≡◌, ℕ, true, length, ap, ◌∙◌, subst}
use Rattle.std.specs.List.{list_all}
use Rattle.target_base.specs.declared.types.Target.{Target}
use Rattle.mir_func.specs.Value.{Function}
use Rattle.interference.specs.Wide.{is_wide}
use Rattle.interference.proofs.Empty.{new_ordered}
use Rattle.interference.proofs.NewLists.{new_keeps}
use Rattle.interference.proofs.matrix.Matrix.new.Goals as goal

pub returns-clause-ordered : goal.returns-clause-ordered
returns-clause-ordered c = λ order.
    let all : c.len-2.result ≡ length c.args.f.func.classes = c.len-2.ensures ∙ ap (λ (g : Function). length g.classes) c.behind-f-2.view_is ∙ ap (λ (g : Function). length g.classes) c.func-2.ensures in
    new_ordered _ order (c.in_ok-registers.ensures.count ∙ all) c.in_ok-held.ensures.none

pub returns-clause-keeps : goal.returns-clause-keeps
returns-clause-keeps c = λ order.
    let all : c.len-2.result ≡ length c.args.f.func.classes = c.len-2.ensures ∙ ap (λ (g : Function). length g.classes) c.behind-f-2.view_is ∙ ap (λ (g : Function). length g.classes) c.func-2.ensures in
    let blocks : c.len.result ≡ length c.args.f.func.blocks = c.len.ensures ∙ ap (λ (g : Function). length g.blocks) c.behind-f.view_is ∙ ap (λ (g : Function). length g.blocks) c.func.ensures in
    new_keeps _ (new_ordered _ order (c.in_ok-registers.ensures.count ∙ all) c.in_ok-held.ensures.none) c.in_ok-registers.ensures.none c.in_ok-held.ensures.none
    (c.in_ok-held.ensures.count ∙ c.len-units.ensures ∙ ap (λ (t : Target). length t.units) c.target.ensures)
    (subst (λ (n : ℕ). list_all (is_wide n) c.in_ok-held.held.units.items ≡ true) blocks c.in_ok-held.ensures.wide)
