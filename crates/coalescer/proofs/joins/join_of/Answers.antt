use Rattle.std.proofs.Common.{◌≡◌, ◌∙◌, true, false, Some, None, sym, subst}
use Rattle.std.proofs.lemmas.Option.{same_Some}
use Rattle.join_laws.specs.Joined.{join_at}
use Rattle.join_laws.specs.Quiet.{IsQuiet}
use Rattle.coalescer.proofs.QuietTold.{tells-quiet}
use Rattle.coalescer.proofs.joins.join_of.Goals as goal

pub returns-then-is_quiet : goal.returns-then-is_quiet
returns-then-is_quiet c = λ may.
    let t = c.args.target.now in
    let at : join_at t c.args.live.now.func c.args.id ≡ Some c.in-Some.join = sym (c.in_ok-join.ensures may) ∙ c.in-Some.is in
    (at, (tells-quiet t c.args.live.now c.args.id c.in-Some.join may at).0 ((c.is_quiet.ensures may).0 c.if-is_quiet.true))

pub returns-else-is_quiet : goal.returns-else-is_quiet
returns-else-is_quiet c = λ may j join.
    let t = c.args.target.now in
    let at : join_at t c.args.live.now.func c.args.id ≡ Some c.in-Some.join = sym (c.in_ok-join.ensures may) ∙ c.in-Some.is in
    let same = same_Some c.in-Some.join j (sym at ∙ join.0) in
    let quiet = (c.is_quiet.ensures may).1 ((tells-quiet t c.args.live.now c.args.id c.in-Some.join may at).1 (subst (IsQuiet t c.args.live.now.func) (sym same) join.1)) in
    absurd (let z : true ≡ false = sym quiet ∙ c.if-is_quiet.false in cc)

pub returns-in_default : goal.returns-in_default
returns-in_default c = λ may j join. absurd (let z : None ≡ Some j = sym c.in_default.is ∙ c.in_ok-join.ensures may ∙ join.0 in cc)
