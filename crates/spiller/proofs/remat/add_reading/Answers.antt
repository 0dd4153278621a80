use Rattle.std.proofs.Common.{refl}
use Rattle.spiller.proofs.remat.add_reading.Goals as goal

pub returns : goal.returns
returns c = record {
  one = record { demand = c.args.demand; by = c.args.by; source = c.source_of-reading.result };
  grown = c.in_ok-push.ensures.items;
  demand_is = refl;
  by_is = refl;
  judged = λ slot facts r ids may are tell is. c.source_of-reading.ensures slot facts r ids may are tell (record { by = is.by; lanes = is.lanes; wish = is.wish });
}
