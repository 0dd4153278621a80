use Rattle.std.proofs.Common.{◌≡◌, ◌∙◌, ap, arith, length}
use Rattle.std.specs.Prelude.{Option}
use Rattle.target_base.specs.declared.types.Reg.{Reg}
use Rattle.mir_func.specs.Binding.{class_of}
use Rattle.mir_meaning.specs.Places.{domain}
use Rattle.evictor.specs.Candidates.{with_first}
use Rattle.evictor.proofs.Domains.{first_followed, follows_all}
use Rattle.evictor.proofs.hints.candidates.Goals as goal

pub returns : goal.returns
returns c = λ tells count same.
    let m = c.args.m.now in
    let rs = c.own_regs-r-items.result.now in
    let class = class_of m.live.func c.args.v in
    follows_all m.live.target c.in_ok-first.first rs c.regs.found.items c.regs.r-index (omega arith) c.regs.invariant
    ∙ (first_followed m.live.target class c.in_ok-first.first rs (rw c.live-live.ensures at c.own_regs-r-items.ensures)
    ∙ ap (λ (q : Option Reg). with_first q (domain m.live.target class)) (c.in_ok-first.ensures tells count same))
