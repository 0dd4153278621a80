use Rattle.std.proofs.Common.{◌≡◌, ◌+◌, ◌∙◌, true, false, option_map, drop, sym, ap, subst}
use Rattle.meaning.specs.Sameness.{same_option}
use Rattle.mir_meaning.specs.Codes.{way}
use Rattle.alloc_check.specs.Compared.{GoesThrough}
use Rattle.alloc_check.proofs.Blocks.{block-goes, ends-apart, instrs-apart, numbers-alike}
use Rattle.alloc_check.proofs.Pairs.{grown-block}
use Rattle.alloc_check.proofs.rows.push_block.Goals as goal

pub returns-clause-sides : goal.returns-clause-sides
returns-clause-sides c =
    let t = c.args.t.now in
    let f = c.args.pair.now.f.now in
    let g = c.args.pair.now.g.now in
    let b = c.args.pair.now.b.now in
    let d = c.args.pair.now.c.now in
    let k = c.args.k in
    λ yes. grown-block t f g b d (drop (k + 1) f.blocks) (drop (k + 1) g.blocks) c.args.rows.now c.push.new.self c.push_instrs.new.rows c.push-2.new.self c.falls_into-into.result c.falls_into-other.result c.in_ok-falls.falls c.in_ok-exits.exits
    c.if-pair.false c.falls_into-into.ensures c.falls_into-other.ensures (c.same_number.ensures.equal c.if-not-same_number.false)
    c.in_ok-push.ensures.ok (c.in_ok-push_instrs.ensures.sides c.if-not-branch.false)
    c.in_ok-falls.ensures.0 c.in_ok-falls.ensures.1 c.in_ok-push-2.ensures.ok

pub returns-clause-exact : goal.returns-clause-exact
returns-clause-exact c alike at at' =
    let t = c.args.t.now in
    let f = c.args.pair.now.f.now in
    let g = c.args.pair.now.g.now in
    let b = c.args.pair.now.b.now in
    let d = c.args.pair.now.c.now in
    let k = c.args.k in
    let through : GoesThrough t f g b d c.push.new.self c.push_instrs.new.rows true = subst (GoesThrough t f g b d c.push.new.self c.push_instrs.new.rows) c.if-not-branch.false (c.in_ok-push_instrs.ensures.exact alike) in
    let same = c.same_number.ensures.equal c.if-not-same_number.false in
    block-goes t f g alike k b d c.requires.first c.requires.second at at' c.args.rows.now c.push.new.self c.in_ok-push.ensures.ok c.push_instrs.new.rows c.push-2.new.self c.in_ok-falls.falls c.in_ok-exits.exits through
    (sym c.falls_into-into.ensures ∙ (same ∙ c.falls_into-other.ensures))
    (c.in_ok-falls.ensures.0 ∙ ap (option_map (λ m. (way t f b.number m).phis)) c.falls_into-into.ensures)
    (c.in_ok-falls.ensures.1 ∙ ap (option_map (λ m. (way t g b.number m).phis)) c.falls_into-into.ensures)
    c.in_ok-exits.ensures c.in_ok-push-2.ensures.ok

pub returns-then-not-branch-clause-exact : goal.returns-then-not-branch-clause-exact
returns-then-not-branch-clause-exact c alike at at' =
    let t = c.args.t.now in
    let f = c.args.pair.now.f.now in
    let g = c.args.pair.now.g.now in
    let b = c.args.pair.now.b.now in
    let d = c.args.pair.now.c.now in
    let through : GoesThrough t f g b d c.push.new.self c.push_instrs.new.rows false = subst (GoesThrough t f g b d c.push.new.self c.push_instrs.new.rows) c.if-not-branch.true (c.in_ok-push_instrs.ensures.exact alike) in
    instrs-apart t f g alike c.args.k b d c.requires.first c.requires.second at at' c.args.rows.now c.push.new.self c.in_ok-push.ensures.ok c.push_instrs.new.rows through

pub returns-then-not-same_number-clause-exact : goal.returns-then-not-same_number-clause-exact
returns-then-not-same_number-clause-exact c alike at at' =
    let t = c.args.t.now in
    let f = c.args.pair.now.f.now in
    let g = c.args.pair.now.g.now in
    let b = c.args.pair.now.b.now in
    let d = c.args.pair.now.c.now in
    let through : GoesThrough t f g b d c.push.new.self c.push_instrs.new.rows true = subst (GoesThrough t f g b d c.push.new.self c.push_instrs.new.rows) c.if-not-branch.false (c.in_ok-push_instrs.ensures.exact alike) in
    ends-apart t f g alike c.args.k b d c.requires.first c.requires.second at at' c.args.rows.now c.push.new.self c.in_ok-push.ensures.ok c.push_instrs.new.rows through
    ((λ j. same_option (sym c.falls_into-into.ensures j) (sym c.falls_into-other.ensures j)) ∙ (sym c.same_number.ensures.exact ∙ c.if-not-same_number.true))

pub returns-then-pair-clause-exact : goal.returns-then-pair-clause-exact
returns-then-pair-clause-exact c alike at at' = absurd (c.if-pair.true (numbers-alike c.args.t.now c.args.pair.now.f.now c.args.pair.now.g.now alike c.args.k c.args.pair.now.b.now c.args.pair.now.c.now c.requires.first c.requires.second at at'))
