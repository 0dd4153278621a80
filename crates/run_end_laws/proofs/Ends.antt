-- In physical form the function at the end does what the source does, and is valid.
use Rattle.laws.proofs.Refines.{refines_trans}
use Rattle.mir_meaning.specs.Codes.{meaning_of}
use Rattle.spill_laws.proofs.InTurn.{form_has_plain_undefs}
use Rattle.rewriter.specs.Physical.{physical_form}
use Rattle.rewrite_laws.proofs.Rewriting.{rewrite-refines}
use Rattle.clear_laws.proofs.Registers.{end_clear}
use Rattle.valid_laws.proofs.Validity.{rewritten-is-valid}
use Rattle.ready_laws.proofs.Runs.{computed-run-is-ready}
use Rattle.sibling_laws.proofs.Runs.{reached-from-is-reached-with}
use Rattle.run_end_laws.specs.Ends.{AllocatedIsValid, AllocatedRefines}
use Rattle.run_end_laws.proofs.Reached.{allocating-is-reached}
use Rattle.run_end_laws.proofs.Refining.{allocating-refines}
use Rattle.run_end_laws.proofs.States.{allocating-keeps-state}

pub allocated-refines : AllocatedRefines
allocated-refines t freqs source f g js s r rs slots live p x on named =
    let k = allocating-keeps-state t freqs source f g js s r rs p x on in
    let run = k.ready.run in
    refines_trans (meaning_of t source) (meaning_of t g) (meaning_of t (physical_form t rs slots live g)) (allocating-refines t freqs source f g js s r rs p x on)
    (rewrite-refines t g rs slots live run.lowered (form_has_plain_undefs t g run.instrs) (end_clear t g rs k.registers named))

pub allocated-is-valid : AllocatedIsValid
allocated-is-valid live freqs source f js s r rs slots p x on named same computed few =
    let t = live.target in
    let g = live.func in
    let k = allocating-keeps-state t freqs source f g js s r rs p x on in
    let reached = reached-from-is-reached-with t f g s r (allocating-is-reached t f g s r rs on) in
    let ready = computed-run-is-ready live freqs source f js s r rs slots x.valid x.classes x.block x.joined x.first reached same (end_clear t g rs k.registers named) computed k.start in
    rewritten-is-valid live rs slots computed few ready
