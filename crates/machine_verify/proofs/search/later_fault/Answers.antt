use Rattle.std.proofs.Common.{◌∙◌, ◌<◌, Some, None, sym, ap, arith, length, get_or}
use Rattle.machine_verify.specs.InstrRules.{after}
use Rattle.machine_verify.specs.Faults.{fault_of}
use Rattle.machine_verify.proofs.Searched.{rule_here, found_here, none_here, before_step}
use Rattle.machine_verify.proofs.search.later_fault.Goals as goal

pub returns-in-Some : goal.returns-in-Some
returns-in-Some c =
    let t = c.args.q.now.target.now in
    let form = c.args.q.now.form in
    let f = c.args.q.now.f.now in
    let b = c.args.b.now in
    let j = c.instrs.j in
    let i = c.get-i.result.now in
    let h : j < length b.instrs = omega (arith, ap length c.as_slice-instrs.ensures) in
    let e = sym (rw c.get-i.ensures c.index-instrs-j.is ∙ ap (λ is. get_or is j i) c.as_slice-instrs.ensures) in
    let r = rule_here t form f c.args.k b j i c.instrs.before c.args.preds.now (Some c.in-Some.rule) c.instrs.invariant.before c.requires.preds (sym c.in-Some.is ∙ c.in_ok-rule.ensures) in
    found_here t form f c.args.k b j i c.in-Some.rule _ (fault_of c.fault_at.result) h e r c.instrs.invariant.rest c.fault_at.ensures

pub instrs-preserved : goal.instrs-preserved
instrs-preserved c =
    let t = c.args.q.now.target.now in
    let form = c.args.q.now.form in
    let f = c.args.q.now.f.now in
    let b = c.args.b.now in
    let j = c.instrs.j in
    let i = c.get-i.result.now in
    let h : j < length b.instrs = omega (arith, ap length c.as_slice-instrs.ensures) in
    let e = sym (rw c.get-i.ensures c.index-instrs-j.is ∙ ap (λ is. get_or is j i) c.as_slice-instrs.ensures) in
    let r = rule_here t form f c.args.k b j i c.instrs.before c.args.preds.now None c.instrs.invariant.before c.requires.preds (sym c.in_default.is ∙ c.in_ok-rule.ensures) in
    record {
      before = c.after-before.ensures ∙ (ap (λ x. after t x i) c.instrs.invariant.before ∙ before_step t b.instrs j i h e);
      rest = none_here t form f c.args.k b j i _ h e r c.instrs.invariant.rest;
    }
