use Rattle.std.proofs.Common.{◌≡◌, ◌∙◌, Option, Some, None, Bor, option_copied, sym, ap}
use Rattle.std.proofs.lemmas.Option.{same_Some}
use Rattle.mir_func.specs.declared.func.Instr.{Instr}
use Rattle.mir_func.specs.Value.{Function}
use Rattle.mir_func.specs.At.{instr_at}
use Rattle.coalescer.proofs.Found.{found-there, found-none, stands-at}
use Rattle.coalescer.proofs.sides.instr_of.Goals as goal

pub returns-in_err-instr : goal.returns-in_err-instr
returns-in_err-instr c = λ finds is.
    let f = c.args.live.now.func in
    let p = c.position_of.result in
    let k = c.place_of.result in
    let at : instr_at f.blocks p k ≡ None = sym (ap (λ (g : Function). instr_at g.blocks p k) c.func.ensures) ∙ sym (c.in_err-instr.ensures) in
    ap (λ (r : Option (Bor Instr)). option_copied r) c.from_residual.ensures
    ∙ sym (found-none f c.args.id p k (stands-at f c.args.live.now.table.order.block_of.items c.args.id p k finds.homes c.position_of.ensures (c.place_of.ensures finds))
    (λ i e own. absurd (let z : None ≡ Some i = sym at ∙ e in cc)))

pub returns-then-instr-id : goal.returns-then-instr-id
returns-then-instr-id c = λ finds is.
    let f = c.args.live.now.func in
    let p = c.position_of.result in
    let k = c.place_of.result in
    let at : instr_at f.blocks p k ≡ Some c.in_ok-instr.instr.now = sym (ap (λ (g : Function). instr_at g.blocks p k) c.func.ensures) ∙ sym (c.in_ok-instr.ensures) in
    sym (found-there f c.args.id p k c.in_ok-instr.instr.now is at c.if-instr-id.true)

pub returns-else-instr-id : goal.returns-else-instr-id
returns-else-instr-id c = λ finds is.
    let f = c.args.live.now.func in
    let p = c.position_of.result in
    let k = c.place_of.result in
    let at : instr_at f.blocks p k ≡ Some c.in_ok-instr.instr.now = sym (ap (λ (g : Function). instr_at g.blocks p k) c.func.ensures) ∙ sym (c.in_ok-instr.ensures) in
    sym (found-none f c.args.id p k (stands-at f c.args.live.now.table.order.block_of.items c.args.id p k finds.homes c.position_of.ensures (c.place_of.ensures finds))
    (λ i e own. c.if-instr-id.false (ap (λ (j : Instr). j.id) (same_Some c.in_ok-instr.instr.now i (sym at ∙ e)) ∙ own)))
