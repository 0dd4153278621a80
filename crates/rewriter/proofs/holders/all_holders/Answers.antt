use Rattle.std.proofs.Common.{◌∙◌, List, [], get_or, map, ap, arith, refl}
use Rattle.std.specs.Prelude.{replicate}
use Rattle.target_base.specs.declared.types.Reg.{Reg}
use Rattle.target_base.specs.declared.types.Unit.{Unit as UnitNumber}
use Rattle.target_base.specs.Names.{are_distinct_numbers}
use Rattle.target_base.specs.Numbers.{reg_number}
use Rattle.interference.proofs.Starts.{units-distinct}
use Rattle.rewriter.proofs.HolderLists.{holders_none, holders_more, holders_all}
use Rattle.rewriter.proofs.holders.all_holders.Goals as goal

pub add_holder-requires : goal.add_holder-requires
add_holder-requires c =
    ap (λ (us : List UnitNumber). are_distinct_numbers (map (λ u. u.0) us)) c.units_at.ensures
    ∙ units-distinct c.args.target.now (get_or c.args.rs.now c.regs.k (reg_number 0))

pub regs-init : goal.regs-init
regs-init c = holders_none c.args.target.now c.args.rs.now _ (c.in_ok-made.ensures ∙ ap (λ n. replicate n []) c.len.ensures)

pub regs-preserved : goal.regs-preserved
regs-preserved c =
    let r : Reg = get_or c.args.rs.now c.regs.k (reg_number 0) in
    holders_more c.args.target.now c.args.rs.now c.regs.k r (reg_number 0) c.units_at.result.now c.regs.made c.add_holder.new.holders (omega arith) refl c.units_at.ensures c.in_ok-add_holder.ensures c.regs.invariant

pub returns : goal.returns
returns c = holders_all c.args.target.now c.args.rs.now c.regs.k c.regs.made (omega arith) c.regs.invariant
