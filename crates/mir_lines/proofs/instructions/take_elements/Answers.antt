use Rattle.std.proofs.Common.{◌≡◌, ◌<◌, ◌++◌, ◌∷◌, [], Some, inr, length, length-append, arith}
use Rattle.mir_lines.specs.Reads.{onto}
use Rattle.mir_lines.specs.Instructions.{element_at, elements_at}
use Rattle.mir_lines.proofs.Listed.{elements_begin, elements_go}
use Rattle.mir_lines.proofs.instructions.take_elements.Goals as goal

pub elements-init : goal.elements-init
elements-init c = record {
  within = omega arith;
  few = omega arith;
  go = elements_begin c.args.options.now c.args.part c.args.before c.args.text.now;
}

pub elements-preserved : goal.elements-preserved
elements-preserved c =
    let read : element_at c.args.options.now c.args.part c.elements.rest.now ≡ Some (c.in_ok-operand.operand, inr c.in-More.next.now) = rw c.in-More.is at c.in_ok-operand.ensures.value in
    let len : length c.in-More.next.now < length c.elements.rest.now = rw c.in-More.is at c.in_ok-operand.ensures.len in
    let made : c.push.new.self ≡ c.elements.made ++ c.in_ok-operand.operand ∷ [] = c.in_ok-push.ensures.ok in
    record {
      within = omega (arith, len);
      few = rw made (omega (arith, len, length-append c.elements.made (c.in_ok-operand.operand ∷ [])));
      go = rw made (elements_go c.args.options.now c.args.part (onto c.args.before (elements_at c.args.options.now c.args.part c.args.text.now)) c.elements.made c.elements.rest.now c.elements.invariant.go c.in_ok-operand.operand c.in-More.next.now read len);
    }
