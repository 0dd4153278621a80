use Rattle.std.proofs.Common.{ℕ, List, sym, subst}
use Rattle.live_edits.specs.LiveRuns.{MayBeFoldedLive}
use Rattle.join_laws.specs.Joined.{Joins, done, stays}
use Rattle.coalescer.specs.Coalescing.{IsJoinOf}
use Rattle.coalescer.proofs.Turns.{may-fold, tried-join}
use Rattle.coalescer.proofs.joins.try_copy.Goals as goal

pub returns : goal.returns
returns c = λ may.
    let t = c.args.target.now in
    let x = c.args.live.now in
    let j = c.in-Some.join in
    let join : Joins t x.func c.args.id j = subst (IsJoinOf t x.func c.args.id) c.in-Some.is (c.in_ok-join.ensures may) in
    let fold = subst (λ (ids : List ℕ). MayBeFoldedLive x j ids) (sym c.as_slice.ensures.value) (may-fold t x may c.args.id j join c.in_ok-touched.touched.items c.in_ok-touched.ensures) in
    tried-join t x may c.args.id j join c.fold.new.live c.in_ok-fold.ensures.target (c.in_ok-fold.ensures.ok fold)

pub returns-in_default : goal.returns-in_default
returns-in_default c = λ may.
    let t = c.args.target.now in
    let x = c.args.live.now in
    record {
      kept = may;
      tried = stays (subst (IsJoinOf t x.func c.args.id) c.in_default.is (c.in_ok-join.ensures may)) done;
    }
