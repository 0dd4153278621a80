use Rattle.std.proofs.Common.{◌<◌, ◌∙◌, List, ap, arith, get_or, length, sym}
use Rattle.std.proofs.lemmas.List.{get_or_default}
use Rattle.mir_func.specs.declared.func.Block.{Block}
use Rattle.mir_func.specs.Value.{Function}
use Rattle.live_laws.proofs.Few.{few_instrs}
use Rattle.alloc_check.proofs.doubts.counted_place.Goals as goal

pub places_in-requires : goal.places_in-requires
places_in-requires c k d h =
    let bs = c.as_slice.result.now in
    let b = get_or bs k d in
    let inside : k < length c.f.inside.blocks = omega (arith, ap length c.as_slice.ensures) in
    let same = ap (λ (x : List Block). get_or x k b) (sym c.as_slice.ensures) ∙ get_or_default bs k b d h in
    few_instrs c.f.inside.blocks c.f.inside.next_id k b c.f.invariant (omega arith) inside same

pub returns : goal.returns
returns c q e = c.place_at.ensures q (cc (c.as_slice-2.ensures, c.in_ok-places.ensures, c.as_slice.ensures, ap (λ (x : Function). x.blocks) c.f.view_is))
