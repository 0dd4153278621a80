use Rattle.std.proofs.Common.{◌≡◌, ◌∙◌, ◌<◌, refl, sym, ap, arith, length, get_or}
use Rattle.std.specs.Prelude.{option_map}
use Rattle.mir_meaning.specs.Registers.{has_number}
use Rattle.mir_meaning.specs.Rules.{block_numbers}
use Rattle.mir_meaning.specs.Valid.{shape_fault}
use Rattle.machine_verify.specs.Faults.{fault_of}
use Rattle.live_laws.proofs.Few.{few_instrs}
use Rattle.machine_verify.proofs.Searched.{block_found, block_none, seen_more}
use Rattle.machine_verify.proofs.search.shape_fault.Goals as goal

pub fault_in-requires-clause-few : goal.fault_in-requires-clause-few
fault_in-requires-clause-few c =
    let b = c.index-blocks-k.result in
    let h : c.search.k < length c.f.inside.blocks = omega (arith, ap length c.as_slice-blocks.ensures) in
    let e = sym (c.index-blocks-k.is ∙ ap (λ bs. get_or bs c.search.k b) c.as_slice-blocks.ensures) in
    few_instrs c.f.inside.blocks c.f.inside.next_id c.search.k b c.f.invariant (omega arith) h e

pub returns-in-Some : goal.returns-in-Some
returns-in-Some c =
    let t = c.args.q.now.target.now in
    let form = c.args.q.now.form in
    let f = c.args.q.now.f.now in
    let k = c.search.k in
    let b = c.index-blocks-k.result in
    let all : c.as_slice-blocks.result.now ≡ f.blocks = cc in
    let h : k < length f.blocks = omega (arith, ap length all) in
    let e = sym (c.index-blocks-k.is ∙ ap (λ bs. get_or bs k b) all) in
    block_found t form f k b _ _ h e c.in_ok-fault.ensures c.search.invariant.rest (fault_of c.in-Some.fault) (ap (option_map fault_of) c.in-Some.is)

pub search-preserved : goal.search-preserved
search-preserved c =
    let t = c.args.q.now.target.now in
    let form = c.args.q.now.form in
    let f = c.args.q.now.f.now in
    let k = c.search.k in
    let b = c.index-blocks-k.result in
    let all : c.as_slice-blocks.result.now ≡ f.blocks = cc in
    let h : k < length f.blocks = omega (arith, ap length all) in
    let e = sym (c.index-blocks-k.is ∙ ap (λ bs. get_or bs k b) all) in
    record {
      numbers = c.search.invariant.numbers;
      seen = seen_more f.blocks k b _ _ h e c.search.invariant.seen c.in_ok-_is_new.ensures.ok;
      slots = c.search.invariant.slots;
      rest = block_none t form f k b _ _ h e c.in_ok-fault.ensures c.search.invariant.rest (ap (option_map fault_of) c.in_default.is);
    }

pub search-init : goal.search-init
unfolding shape_fault
search-init c =
    let all : c.as_slice-blocks.result.now ≡ c.args.q.now.f.now.blocks = cc in
    record {
      numbers = λ n. c.in_ok-numbers_of.ensures n ∙ ap (λ bs. has_number (block_numbers bs) n) all;
      seen = c.new.ensures;
      slots = c.in_ok-spill_slots.ensures;
      rest = refl;
    }
