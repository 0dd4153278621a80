use Rattle.std.proofs.Common.{◌≡◌, ◌++◌, ℕ, true, drop}
use Rattle.std.specs.List.{list_all}
use Rattle.split_choose.specs.Offers.{View}
use Rattle.split_choose.specs.Seen.{ends_in_terminators}
use Rattle.split_choose.specs.Labelled.{rows_marks}
use Rattle.split_choose.proofs.cuts.labels_of.Given as goal

abbrev pub invariant-rows : goal.invariant-rows
invariant-rows l = (v : ℕ) (offers : View) → list_all (λ b. ends_in_terminators l.view.m.now.live.target b.instrs) l.view.m.now.live.func.blocks ≡ true
    → l.labels ++ rows_marks l.view.m.now.live.target l.view.m.now.live.func v offers l.inside (drop l.row-index l.rows) ≡ rows_marks l.view.m.now.live.target l.view.m.now.live.func v offers l.inside l.rows
