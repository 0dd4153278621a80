use Rattle.std.proofs.Common.{◌∙◌, sym, rules}
use Rattle.mir_interp.proofs.Performing.{pure_empty, no_divisor_pure, trapped_pure, divided_pure}
use Rattle.mir_interp.proofs.perform.Executor.division.Goals as goal

pub returns-in_default : goal.returns-in_default
returns-in_default g c = λ n env h o. pure_empty _ _ o _ c.new-undefined.ensures (no_divisor_pure c.args.self.now.rest.now env o _ c.requires (sym (c.in_ok-divisor.ensures n env h) ∙ c.in_default.is))

pub returns-then-b-eq0 : goal.returns-then-b-eq0
returns-then-b-eq0 g c = λ n env h o. pure_empty _ _ o _ c.new-none.ensures (trapped_pure c.args.self.now.rest.now env o _ c.in-Some.b c.requires (sym (c.in_ok-divisor.ensures n env h) ∙ c.in-Some.is) (search rules))

pub returns : goal.returns
returns g c = λ n env h o. divided_pure c.args.self.now.rest.now env o _ c.as_slice-result.result.now c.in_ok-lanes.lanes c.quotient-n.result c.in_ok-a.a c.in-Some.b c.requires (sym (c.in_ok-divisor.ensures n env h) ∙ c.in-Some.is) (search rules) c.as_slice-result.ensures c.in_ok-lanes.ensures c.quotient-n.ensures (c.in_ok-a.ensures n env h)
