use Rattle.std.proofs.Common.{◌≡◌, ℕ, ◌<◌, ◌≤◌, ◌^◌, ◌∷◌, ◌++◌, [], length, arith}
use Rattle.cut_place.specs.declared.net.Arc.{Arc}
use Rattle.unit_tests.proofs.MoreArcs.{all_more}
use Rattle.unit_tests.proofs.cuts.add_arc.Goals as goal

pub returns-clause-ends : goal.returns-clause-ends
returns-clause-ends c =
    all_more (λ a. (a.from < c.args.nodes) × (a.to < c.args.nodes)) c.args.arcs.now c.push.new.self c.args.arc c.in_ok-push.ensures.ok c.requires.ends (omega arith, omega arith)

pub returns-clause-small : goal.returns-clause-small
returns-clause-small c =
    all_more (λ a. a.cap ≤ 2 ^ 112) c.args.arcs.now c.push.new.self c.args.arc c.in_ok-push.ensures.ok c.requires.small (omega arith)
