use Rattle.std.proofs.Common.{◌∙◌, sym, ap}
use Rattle.std.specs.Prelude.{unwrap_or}
use Rattle.target_base.specs.Numbers.{reg_number}
use Rattle.spiller.proofs.FirstUnreserved.{found-unreserved}
use Rattle.spiller.proofs.kinds.first_unreserved.Goals as goal

pub returns-in-None-find_unreserved : goal.returns-in-None-find_unreserved
returns-in-None-find_unreserved c = sym (ap (λ o. unwrap_or o (reg_number 0)) c.in-None-find_unreserved.is) ∙ found-unreserved c.args.target.now c.args.class c.in-Some.class c.regs_in.result.now c.find_unreserved.result c.in-Some.is c.regs_in.ensures c.find_unreserved.ensures

pub returns-in-Some-find_unreserved : goal.returns-in-Some-find_unreserved
returns-in-Some-find_unreserved c = sym (ap (λ o. unwrap_or o (reg_number 0)) c.in-Some-find_unreserved.is) ∙ found-unreserved c.args.target.now c.args.class c.in-Some.class c.regs_in.result.now c.find_unreserved.result c.in-Some.is c.regs_in.ensures c.find_unreserved.ensures
