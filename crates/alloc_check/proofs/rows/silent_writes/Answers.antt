use Rattle.std.proofs.Common.{◌≡◌, ◌++◌, [], true, false, sym, ap, ◌∙◌}
use Rattle.target_base.specs.Roles.{is_silent}
use Rattle.meaning.specs.Code.{Silent}
use Rattle.mir_func.specs.Binding.{is_early_clobber, roles_of}
use Rattle.mir_meaning.specs.Items.{silent_writes}
use Rattle.alloc_check.proofs.Ordered.{none-silent, some-counted, some-silent}
use Rattle.alloc_check.proofs.Rowed.{item-none, item-silent}
use Rattle.alloc_check.proofs.rows.silent_writes.Goals as goal

pub returns-in-None-clause-sides : goal.returns-in-None-clause-sides
returns-in-None-clause-sides c = item-none c.args.t.now c.args.f.now c.args.b.now c.args.i.now (sym c.in-None.ensures) ∙ ap (Silent []) (sym c.new.ensures)

pub returns-in_ok-push_silent_writes-in-Some-clause-sides : goal.returns-in_ok-push_silent_writes-in-Some-clause-sides
returns-in_ok-push_silent_writes-in-Some-clause-sides c =
    let t = c.args.t.now in
    let f = c.args.f.now in
    let i = c.args.i.now in
    let e = c.in-Some.e in
    let s : is_silent e ≡ true = sym c.is_silent.ensures ∙ c.if-not-is_silent.false in
    let made : c.push_silent_writes.new.out ≡ silent_writes t f e (is_early_clobber (roles_of t i)) i.operands =
    c.in_ok-push_silent_writes-in-Some.ensures
    ∙ ap (λ ws. ws ++ silent_writes t f e (is_early_clobber (roles_of t i)) i.operands) c.new-writes.ensures in
    item-silent t f c.args.b.now i e (sym c.in-Some.ensures) s ∙ ap (Silent []) (sym made)

pub returns-in-None-clause-exact : goal.returns-in-None-clause-exact
returns-in-None-clause-exact c = none-silent c.args.t.now c.args.f.now c.args.i.now _ (sym c.in-None.ensures) c.new.ensures

pub returns-then-not-is_silent-clause-exact : goal.returns-then-not-is_silent-clause-exact
returns-then-not-is_silent-clause-exact c =
    let s : is_silent c.in-Some.e ≡ false = sym c.is_silent.ensures ∙ c.if-not-is_silent.true in
    some-counted c.args.t.now c.args.i.now c.in-Some.e (sym c.in-Some.ensures) s

pub returns-in_ok-push_silent_writes-in-Some-clause-exact : goal.returns-in_ok-push_silent_writes-in-Some-clause-exact
returns-in_ok-push_silent_writes-in-Some-clause-exact c =
    let t = c.args.t.now in
    let f = c.args.f.now in
    let i = c.args.i.now in
    let e = c.in-Some.e in
    let s : is_silent e ≡ true = sym c.is_silent.ensures ∙ c.if-not-is_silent.false in
    let made : c.push_silent_writes.new.out ≡ silent_writes t f e (is_early_clobber (roles_of t i)) i.operands =
    c.in_ok-push_silent_writes-in-Some.ensures
    ∙ ap (λ ws. ws ++ silent_writes t f e (is_early_clobber (roles_of t i)) i.operands) c.new-writes.ensures in
    some-silent t f i e _ (sym c.in-Some.ensures) s made
