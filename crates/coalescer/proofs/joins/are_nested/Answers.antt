use Rattle.std.proofs.Common.{◌≡◌, ◌∙◌, ◌||◌, true, Option, sym, ap, subst}
use Rattle.target_base.specs.declared.types.ClassId.{ClassId}
use Rattle.target_base.specs.Rules.{regs_of_some}
use Rattle.target_base.specs.Storage.{is_within}
use Rattle.mir_func.specs.Value.{Function}
use Rattle.mir_func.specs.Binding.{class_of}
use Rattle.live_edits.specs.Folded.{is_narrower, registers_of}
use Rattle.join_laws.proofs.Subsets.{within-itself}
use Rattle.coalescer.proofs.joins.are_nested.Goals as goal

pub returns-then-are_same : goal.returns-then-are_same
returns-then-are_same c =
    let t = c.args.target.now in
    let f = c.args.live.now.func in
    let one : c.class_of.result ≡ class_of f c.args.a = c.class_of.ensures ∙ ap (λ (g : Function). class_of g c.args.a) c.func.ensures in
    let two : c.class_of-2.result ≡ class_of f c.args.b = c.class_of-2.ensures ∙ ap (λ (g : Function). class_of g c.args.b) c.func-2.ensures in
    let same : class_of f c.args.a ≡ class_of f c.args.b = sym one ∙ c.are_same.ensures c.if-are_same.true ∙ two in
    let narrow : is_narrower t f c.args.a c.args.b ≡ true = subst (λ (q : Option ClassId). is_within (registers_of t f c.args.a) (regs_of_some t.classes q) ≡ true) same (within-itself (registers_of t f c.args.a)) in
    sym (ap (λ u. u || is_narrower t f c.args.b c.args.a) narrow)
