use Rattle.std.proofs.Common.{◌≡◌, ◌∙◌, sym, ap}
use Rattle.split_choose.specs.declared.spans.Span.{Span}
use Rattle.split_choose.specs.Clearing.{is_clear_between}
use Rattle.split_choose.proofs.Free.{free-within, free-without}
use Rattle.split_choose.proofs.runs.is_free_in.Goals as goal

pub returns-in-None : goal.returns-in-None
returns-in-None c parents freqs places finds told b found first =
    free-without c.args.view.m.now c.args.view.v finds places parents freqs c.args.register c.args.view.spans.now told c.args.position b c.args.low c.args.high found (c.in-None.ensures.place told.order)

pub returns-in-Some : goal.returns-in-Some
returns-in-Some c parents freqs places finds told b found first =
    free-within c.args.view.m.now c.args.view.v finds places parents freqs c.args.register c.args.view.spans.now told c.args.position b c.args.low c.args.high c.in-Some.at c.index-view-at.result c.is_free_span.result found first
    (c.in-Some.ensures.place told.order) c.index-view-at.is
    (c.is_free_span.ensures finds.order ∙ ap (λ (s : Span). is_clear_between c.args.view.m.now c.args.view.v c.args.register s.position s.stretches.items c.args.low c.args.high) (sym c.index-view-at.is))
