use Rattle.std.proofs.Common.{◌∙◌, sym, arith}
use Rattle.live_lanes.specs.Table.{Begun, seen_cell}
use Rattle.coalescer.specs.Asked.{is_quiet_writing}
use Rattle.coalescer.proofs.Writings.{all-writings, writing-fails, writing-more}
use Rattle.coalescer.proofs.quiet.are_all_quiet.Goals as goal

pub returns-then-not-is_quiet_writing : goal.returns-then-not-is_quiet_writing
returns-then-not-is_quiet_writing c = λ may rises.
    let test = λ (s : Begun). is_quiet_writing c.args.target.now c.args.live.now c.args.pair.own c.args.pair.other (seen_cell c.args.there.now) s in
    sym (writing-fails test c.args.here.now.segments.items c.writings.i c.index.result.now (omega arith) c.index.ensures (sym (c.is_quiet_writing.ensures may rises) ∙ c.if-not-is_quiet_writing.true))

pub writings-preserved : goal.writings-preserved
writings-preserved c = λ may rises.
    let test = λ (s : Begun). is_quiet_writing c.args.target.now c.args.live.now c.args.pair.own c.args.pair.other (seen_cell c.args.there.now) s in
    writing-more test c.args.here.now.segments.items c.writings.i c.index.result.now (omega arith) c.index.ensures (c.writings.invariant may rises) (sym (c.is_quiet_writing.ensures may rises) ∙ c.if-not-is_quiet_writing.false)

pub returns : goal.returns
returns c = λ may rises.
    let test = λ (s : Begun). is_quiet_writing c.args.target.now c.args.live.now c.args.pair.own c.args.pair.other (seen_cell c.args.there.now) s in
    sym (all-writings test c.args.here.now.segments.items c.writings.i (omega arith) (c.writings.invariant may rises))
