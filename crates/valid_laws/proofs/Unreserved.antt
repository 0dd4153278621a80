-- No range whose register is of its class stands in a reserved unit.
use Rattle.std.proofs.Common.{◌≡◌, ◌∙◌, false, ap}
use Rattle.target_base.specs.declared.types.Target.{Target}
use Rattle.target_base.specs.Registers.{regs_of}
use Rattle.target_base.specs.Storage.{is_unreserved}
use Rattle.meaning.specs.declared.types.Lane.{Lane}
use Rattle.mir_func.specs.Value.{Function}
use Rattle.mir_meaning.specs.Registers.{is_reserved}
use Rattle.instr_effects.proofs.Members.{filter-of}
use Rattle.rewriter.specs.Physical.{Assignment}
use Rattle.rewrite_laws.specs.Laws.{IsClear}
use Rattle.rewrite_laws.proofs.Clear.{GoesTo, goes}
use Rattle.rewrite_laws.proofs.Operands.{image}
use Rattle.rewrite_laws.proofs.Units.{unit-free}

pub goes-free : (t : Target) (f : Function) (rs : Assignment) (clear : IsClear t f rs) (l : Lane) → GoesTo t f rs clear l → is_reserved t (image t rs l) ≡ false
goes-free t f rs clear l z =
    let c = clear.classes z.v z.r z.reg in
    ap (is_reserved t) (goes t f rs clear l z) ∙ unit-free t z.r (filter-of (is_unreserved t.reserved t.regs) z.r (regs_of t c.0) c.2).1 z.k z.u z.unit
