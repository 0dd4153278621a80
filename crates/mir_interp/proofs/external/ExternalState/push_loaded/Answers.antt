use Rattle.std.proofs.Common.{◌≡◌, ◌+◌, ◌/◌, ◌%◌, ◌^◌, ◌++◌, [], sym, ap, ◌∙◌, arith, drop, get_or, drop_of_length-le, append-nil}
use Rattle.meaning.specs.Perform.{loaded}
use Rattle.mir_interp.proofs.Bits.{wrap}
use Rattle.mir_interp.proofs.Loading.{load_more}
use Rattle.mir_interp.proofs.external.ExternalState.push_loaded.Goals as goal

pub loop-l-preserved : goal.loop-l-preserved
loop-l-preserved g c = λ symbols n env h o r.
    let inv = c.loop-l.invariant symbols n env h o r in
    let lane = c.in_ok-lane.ensures symbols n env h o r in
    let same = wrap (c.loop-l.at + get_or c.args.widths.now c.loop-l.l-index 0 / 8) c.args.w c.requires in
    let step = load_more env o c.args.w c.loop-l.at ((c.loop-l.at + get_or c.args.widths.now c.loop-l.l-index 0 / 8) % 2 ^ 128) c.loop-l.l-index c.args.widths.now c.loop-l.out c.in_ok-lane.lane (omega arith) lane same in
    ap (λ t. t ++ loaded env o c.args.w ((c.loop-l.at + get_or c.args.widths.now c.loop-l.l-index 0 / 8) % 2 ^ 128) (drop (c.loop-l.l-index + 1) c.args.widths.now)) c.in_ok-push.ensures.ok ∙ (step ∙ inv)

pub returns : goal.returns
returns g c = λ symbols n env h o r.
    let none : drop c.loop-l.l-index c.args.widths.now ≡ [] = drop_of_length-le c.args.widths.now (omega arith) in
    sym (append-nil c.loop-l.out) ∙ (ap (λ t. c.loop-l.out ++ loaded env o c.args.w c.loop-l.at t) (sym none) ∙ c.loop-l.invariant symbols n env h o r)
