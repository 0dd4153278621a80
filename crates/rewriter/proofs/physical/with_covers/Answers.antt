use Rattle.std.proofs.Common.{◌∙◌, refl}
use Rattle.rewriter.specs.LiveUnits.{live_into}
use Rattle.rewriter.proofs.Covers.{covers_stay}
use Rattle.rewriter.proofs.Physicals.{function_with_liveins}
use Rattle.rewriter.proofs.physical.with_covers.Goals as goal

pub invariant_of-result : goal.invariant_of-result
invariant_of-result c = rw c.in_ok-put_all_liveins.ensures (function_with_liveins c.f.inside.next_id c.as_slice.result.now c.f.inside.blocks c.f.invariant)

pub returns-clause-liveins : goal.returns-clause-liveins
returns-clause-liveins c = record {
  liveins = c.as_slice.result.now;
  first = covers_stay c.args.target.now (live_into c.args.live.now) c.args.f.blocks _ (c.as_slice.ensures.value ∙ c.in_ok-liveins.ensures);
  is = rw (← c.f.view_is, c.in_ok-put_all_liveins.ensures) refl;
}

pub returns-clause-exact : goal.returns-clause-exact
returns-clause-exact c =
    let rs = c.as_slice.ensures.value ∙ c.in_ok-liveins.ensures in
    rw (c.in_ok-put_all_liveins.ensures, rs, ← c.f.view_is) refl
