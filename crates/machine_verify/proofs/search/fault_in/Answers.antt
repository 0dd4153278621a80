use Rattle.std.proofs.Common.{◌≡◌, ◌∙◌, ◌<◌, None, true, false, refl, sym, ap, arith, length, get_or}
use Rattle.mir_meaning.specs.Valid.{least, block_fault, instr_fault}
use Rattle.machine_verify.proofs.Searched.{rule_here, fault_in_later}
use Rattle.machine_verify.proofs.search.fault_in.Goals as goal

pub returns : goal.returns
returns c =
    let t = c.args.q.now.target.now in
    let form = c.args.q.now.form in
    let f = c.args.q.now.f.now in
    let b = c.args.b.now in
    let k = c.args.k in
    let i = c.get-i.result.now in
    let h : 0 < length b.instrs = omega (arith, c.in-len1-up.len_at_least, ap length c.as_slice-2.ensures) in
    let e = sym (rw c.get-i.ensures c.i-item.is ∙ ap (λ is. get_or is 0 i) c.as_slice-2.ensures) in
    let r = rule_here t form f k b 0 i (record { only_phis = true; terminator = false }) c.as_slice-3.result.now c.in_ok-rule.rule refl (c.as_slice-3.ensures.value ∙ c.in_ok-preds.ensures) c.in_ok-rule.ensures in
    let n : least (block_fault t form f k b) (instr_fault t form f k b 0 i) ≡ None =
    sym (ap (λ x. least x c.in_ok-rule.rule) c.in_ok-own.ensures ∙ ap (λ x. least (block_fault t form f k b) x) r) ∙ (sym c.least.ensures ∙ c.in_default-least.is)
    in
    c.in_ok-later.ensures ∙ sym (fault_in_later t form f k b b.instrs i h e n)
