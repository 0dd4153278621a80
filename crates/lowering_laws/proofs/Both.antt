-- Lowering as a whole: phis first, then ties. The function without phis keeps the rules that the second pass asks for.
use Rattle.mir_meaning.specs.Codes.{meaning_of}
use Rattle.phi_elim.specs.Phis.{phis_lowered}
use Rattle.two_address.specs.Lowered.{lowered}
use Rattle.laws.proofs.Refines.{refines_trans}
use Rattle.lowering_laws.specs.Laws.{LoweredRefine}
use Rattle.lowering_laws.proofs.Blocks.{phis_are_gone}
use Rattle.lowering_laws.proofs.Eliminated.{eliminated-classes, eliminated-rules}
use Rattle.lowering_laws.proofs.Ruled.{all-rules, each-rules}
use Rattle.lowering_laws.proofs.Sources.{lowered_phis_refine}
use Rattle.lowering_laws.proofs.Ties.{refine}

pub lowered_refine : LoweredRefine
lowered_refine t f valid classes =
    let g = phis_lowered t f in
    refines_trans (meaning_of t f) (meaning_of t g) (meaning_of t (lowered t f)) (lowered_phis_refine t f valid) (refine t g (phis_are_gone t f) (eliminated-classes t f classes) (eliminated-rules t f (each-rules t f (all-rules t f valid.shape))))
