-- Slots go to others behind the end.
use Rattle.std.proofs.Common.{ℕ, Bool, List, map}
use Rattle.std.proofs.lemmas.List.{length-map}
use Rattle.target_base.specs.declared.types.ClassId.{ClassId}
use Rattle.target_base.specs.declared.types.Target.{Target}
use Rattle.laws.proofs.Refines.{refines_trans}
use Rattle.mir_func.specs.Value.{Function, IsFunction}
use Rattle.mir_meaning.specs.Codes.{meaning_of}
use Rattle.phi_elim.specs.Numbered.{blocks_numbered, instr_count}
use Rattle.lowering_laws.proofs.Ids.{new-ids}
use Rattle.rewriter.specs.LiveUnits.{is_live_unit}
use Rattle.rewriter.specs.Physical.{Assignment, physical_block, physical_form, physical_liveins}
use Rattle.rewriter.proofs.Physicals.{function_with_liveins}
use Rattle.slot_laws.specs.Homes.{IsAllocated, function_moved}
use Rattle.slot_laws.proofs.Coloured.{moving-keeps-valid}
use Rattle.slot_laws.proofs.Refined.{moving-refines}
use Rattle.run_end_laws.specs.Ends.{MovedIsCorrect}
use Rattle.run_end_laws.proofs.Ends.{allocated-is-valid, allocated-refines}
use Rattle.run_end_laws.proofs.States.{allocating-keeps-state}

-- a function in physical form has ids of its own
physical-function : (t : Target) (rs : Assignment) (slots : List (ℕ × ClassId)) (live : ℕ → ℕ → Bool) (f : Function) → IsFunction f.blocks f.next_id → IsFunction (physical_form t rs slots live f).blocks (physical_form t rs slots live f).next_id
physical-function t rs slots live f sound =
    let bs = map (physical_block t rs) f.blocks in
    let new = blocks_numbered 0 bs in
    function_with_liveins (instr_count bs) (physical_liveins t live new) new (new-ids (record f { blocks = bs }) (rw (length-map f.blocks (physical_block t rs)) sound.nonempty))

pub moved-is-correct : MovedIsCorrect
moved-is-correct live freqs source f js s r rs slots home head p x on named same computed few homes =
    let t = live.target in
    let g = live.func in
    let units = is_live_unit live rs in
    let end = physical_form t rs slots units g in
    let k = allocating-keeps-state t freqs source f g js s r rs p x on in
    let allocated : IsAllocated t end = record {
      function = physical-function t rs slots units g k.ready.run.lowered.function;
      valid = allocated-is-valid live freqs source f js s r rs slots p x on named same computed few;
    } in (
      refines_trans (meaning_of t source) (meaning_of t end) (meaning_of t (function_moved home head end))
          (allocated-refines t freqs source f g js s r rs slots units p x on named) (moving-refines t home head end allocated homes).0,
      moving-keeps-valid t home head end allocated homes,
    )
