use Rattle.std.proofs.Common.{sym, subst}
use Rattle.std.proofs.lemmas.Result.{IfOk-weaker}
use Rattle.mir_func.specs.Value.{Function, IsFunction}
use Rattle.slot_laws.specs.Homes.{IsAllocated}
use Rattle.slot_colour.specs.Colouring.{IsColoured}
use Rattle.slot_colour.specs.Kept.{IsKept}
use Rattle.slot_colour.proofs.Homes.{keeps-all}
use Rattle.slot_colour.proofs.colour.colour_slots.Goals as goal

pub returns : goal.returns
returns c =
    let t = c.args.target.now in
    let f = c.args.f in
    record {
      is = c.colour_function.ensures;
      kept = λ classes valid once.
          let allocated : IsAllocated t f = record { function = subst (λ (g : Function). IsFunction g.blocks g.next_id) c.f.view_is c.f.invariant; valid = valid } in
          IfOk-weaker c.colour_function.result (IsColoured t f) (IsKept t f)
          (λ g x. subst (IsKept t f) (sym x.is) (keeps-all t f x.clash allocated once (λ s r k. (x.tells s r).1 k)))
          (c.colour_function.ensures classes valid);
    }
