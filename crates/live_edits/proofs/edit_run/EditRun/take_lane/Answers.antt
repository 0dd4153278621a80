use Rattle.std.proofs.Common.{◌≡◌, ◌∙◌, Some, sym, ap}
use Rattle.live_edits.proofs.AsideRows.{takes-none, takes-other}
use Rattle.live_edits.proofs.edit_run.EditRun.take_lane.Goals as goal

pub returns-in-Some : goal.returns-in-Some
returns-in-Some c = takes-other c.args.self.now c.take_row.new.self (λ l. l ≡ c.in-Some.lane) (λ l. c.args.lane ≡ Some l) (λ l e. c.in-Some.is ∙ ap Some (sym e)) c.take_row.ensures

pub returns-in-None : goal.returns-in-None
returns-in-None c = takes-none c.args.self.now (λ l. c.args.lane ≡ Some l)
