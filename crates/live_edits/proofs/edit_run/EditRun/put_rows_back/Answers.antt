use Rattle.std.proofs.Common.{◌∙◌, refl, sym}
use Rattle.live_edits.specs.declared.edit_run.EditRun.{EditRun}
use Rattle.live_edits.proofs.AsideActs.{none-left}
use Rattle.live_edits.proofs.AsideRows.{leads-back, leads-first, leads-further}
use Rattle.live_edits.proofs.edit_run.EditRun.put_rows_back.Goals as goal

pub rows-init : goal.rows-init
rows-init c = leads-first c.args.self.now

pub rows-preserved : goal.rows-preserved
rows-preserved c =
    let now = c.rows.self in
    let mid : EditRun = record { draft = now.draft; lanes = now.lanes; flow = now.flow; rows = now.rows; touched = now.touched; gone = now.gone; aside = c.pop.new.self } in
    leads-further c.args.self.now now mid c.put_row_back.new.self c.in-Some.aside c.rows.invariant (record { draft = refl; lanes = refl; flow = refl; log = refl; touched = refl; gone = refl }) refl c.in-Some.ensures.items c.put_row_back.ensures

pub returns : goal.returns
returns c =
    let now = c.rows.self in
    leads-back c.args.self.now now _ c.rows.invariant (record { draft = refl; lanes = refl; flow = refl; log = refl; touched = refl; gone = refl }) refl
    (none-left now.aside.items (sym now.aside.ok.0 ∙ c.in_default.ensures.cases.0)) (none-left c.pop.new.self.items (sym c.pop.new.self.ok.0 ∙ c.in_default.ensures.cases.1))
