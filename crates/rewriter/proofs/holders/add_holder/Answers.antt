use Rattle.std.proofs.Common.{arith, get_or, refl}
use Rattle.target_base.specs.declared.types.Unit.{Unit as UnitNumber}
use Rattle.target_base.specs.Numbers.{unit_number}
use Rattle.rewriter.proofs.HolderLists.{holder_more, holder_all}
use Rattle.rewriter.proofs.holders.add_holder.Goals as goal

pub units-init : goal.units-init
units-init c z m = m

pub units-preserved : goal.units-preserved
units-preserved c z m =
    let u : UnitNumber = get_or c.args.units.now c.units.k (unit_number 0) in
    c.units.invariant z (holder_more c.args.units.now c.units.k u (unit_number 0) c.args.r _ _ z (omega arith) c.requires refl c.in_ok-push_holder.ensures m)

pub returns : goal.returns
returns c = holder_all c.args.units.now c.units.k c.args.r _ _ (omega arith) c.units.invariant
