use Rattle.std.proofs.Common.{◌∙◌, sym}
use Rattle.std.specs.Prelude.{Some, None}
use Rattle.target_base.specs.Registers.{lanes_of}
use Rattle.target_base.proofs.Lookups.{same_numbers_refl}
use Rattle.spiller.specs.Setting.{own_lanes}
use Rattle.spiller.specs.Views.{spilling_of}
use Rattle.spiller.proofs.FirstLanes.{same-swapped, lanes-named}
use Rattle.spiller.proofs.places.have_same_lanes.Goals as goal

pub returns-in-None-None : goal.returns-in-None-None
returns-in-None-None c slot facts =
    let s = spilling_of c.args.view slot facts in
    sym (same_numbers_refl (own_lanes s None)) ∙ lanes-named s c.args.a c.args.b None None c.in-None-None.is-0 c.in-None-None.is-1

pub returns-in-None-Some : goal.returns-in-None-Some
returns-in-None-Some c slot facts =
    let s = spilling_of c.args.view slot facts in
    c.picks_all.ensures slot facts ∙ lanes-named s c.args.a c.args.b None (Some c.in-None-Some.index) c.in-None-Some.is-0 c.in-None-Some.is-1

pub returns-in-Some-Some : goal.returns-in-Some-Some
returns-in-Some-Some c slot facts =
    let s = spilling_of c.args.view slot facts in
    c.pick_same_lanes.ensures ∙ lanes-named s c.args.a c.args.b (Some c.in-Some-Some.a) (Some c.in-Some-Some.b) c.in-Some-Some.is-0 c.in-Some-Some.is-1

pub returns-in-Some-None : goal.returns-in-Some-None
returns-in-Some-None c slot facts =
    let s = spilling_of c.args.view slot facts in
    c.picks_all-in-Some-None.ensures slot facts
    ∙ same-swapped (own_lanes s None) (lanes_of s.target c.in-Some-None.index)
    ∙ lanes-named s c.args.a c.args.b (Some c.in-Some-None.index) None c.in-Some-None.is-0 c.in-Some-None.is-1
