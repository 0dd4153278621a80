use Rattle.std.proofs.Common.{◌++◌, ◌∷◌, [], sym, ap, subst, set, length, arith}
use Rattle.alloc_check.specs.Families.{PutsAt}
use Rattle.alloc_check.proofs.Lawful.{ok-more}
use Rattle.alloc_check.proofs.Passing.{put-set, put-behind}
use Rattle.alloc_check.proofs.settle.put.Goals as goal

pub returns-then-get-n : goal.returns-then-get-n
returns-then-get-n c =
    let n = c.args.n in
    let facts = c.args.facts in
    let family = c.loop-k.family in
    subst (λ old. PutsAt old n facts (set family c.loop-k.k (n, facts))) c.loop-k.invariant (put-set family n c.loop-k.k c.get.result.now facts (omega (arith, ap length c.loop-k.invariant)) c.get.ensures c.if-get-n.true)

pub returns : goal.returns
returns c =
    let n = c.args.n in
    let facts = c.args.facts in
    let family = c.loop-k.family in
    ok-more c.push.result
    (λ e. subst (PutsAt c.args.family.now n facts) (sym e) (subst (λ old. PutsAt old n facts (family ++ (n, facts) ∷ [])) c.loop-k.invariant (put-behind family n facts)))
    c.push.ensures.ok
