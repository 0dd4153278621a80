use Rattle.std.proofs.Common.{◌≡◌, [], ◌++◌, ◌∙◌, subst}
use Rattle.live_edits.specs.Pieces.{HasAll}
use Rattle.live_edits.specs.Updated.{AsksFor, Revives}
use Rattle.live_edits.proofs.Logged.{lives-same, lives-then}
use Rattle.live_edits.proofs.SpotLists.{has-equal}
use Rattle.live_edits.proofs.UpdateSteps.{asks-alike, parts-update, on-ok}
use Rattle.live_edits.proofs.log.LoggedRows.update.Goals as goal

pub returns-in_err-around-clause-logged : goal.returns-in_err-around-clause-logged
returns-in_err-around-clause-logged c = lives-same c.args.self.now

pub returns-in_err-list-clause-logged : goal.returns-in_err-list-clause-logged
returns-in_err-list-clause-logged c = lives-same c.args.self.now

pub returns-in_err-add_all-clause-logged : goal.returns-in_err-add_all-clause-logged
returns-in_err-add_all-clause-logged c = lives-same c.args.self.now

pub returns-in_err-fall-clause-logged : goal.returns-in_err-fall-clause-logged
returns-in_err-fall-clause-logged c = lives-then c.args.self.now c.look_again.new.self c.fall.new.self c.in_ok-fallen.ensures.logged c.in_err-fall.ensures.logged

pub returns-in_err-ask-clause-logged : goal.returns-in_err-ask-clause-logged
returns-in_err-ask-clause-logged c = lives-then c.args.self.now c.look_again.new.self c.fall.new.self c.in_ok-fallen.ensures.logged c.in_ok-fall.ensures.logged

pub returns-in_err-ask-2-clause-logged : goal.returns-in_err-ask-2-clause-logged
returns-in_err-ask-2-clause-logged c = lives-then c.args.self.now c.look_again.new.self c.fall.new.self c.in_ok-fallen.ensures.logged c.in_ok-fall.ensures.logged

pub returns-in_err-risen-clause-logged : goal.returns-in_err-risen-clause-logged
returns-in_err-risen-clause-logged c =
    let fell = lives-then c.args.self.now c.look_again.new.self c.fall.new.self c.in_ok-fallen.ensures.logged c.in_ok-fall.ensures.logged in
    lives-then c.args.self.now c.fall.new.self c.rise.new.self fell c.in_err-risen.ensures.logged

pub returns-in_err-again-clause-logged : goal.returns-in_err-again-clause-logged
returns-in_err-again-clause-logged c =
    let fell = lives-then c.args.self.now c.look_again.new.self c.fall.new.self c.in_ok-fallen.ensures.logged c.in_ok-fall.ensures.logged in
    lives-then c.args.self.now c.fall.new.self c.rise.new.self fell c.in_ok-risen.ensures.logged

pub returns-clause-logged : goal.returns-clause-logged
returns-clause-logged c =
    let fell = lives-then c.args.self.now c.look_again.new.self c.fall.new.self c.in_ok-fallen.ensures.logged c.in_ok-fall.ensures.logged in
    let rose = lives-then c.args.self.now c.fall.new.self c.rise.new.self fell c.in_ok-risen.ensures.logged in
    lives-then c.args.self.now c.rise.new.self c.end_again.new.self rose c.end_again.ensures.logged

pub returns-clause-updates : goal.returns-clause-updates
returns-clause-updates c =
    let slots = c.args.order.now.slots in
    let flow = c.args.flow.now in
    let r0 = c.args.self.now.rows.rows.items in
    let r1 = c.look_again.new.self.rows.rows.items in
    let r2 = c.fall.new.self.rows.rows.items in
    let r3 = c.rise.new.self.rows.rows.items in
    let r4 = c.end_again.new.self.rows.rows.items in
    let suspects = c.args.suspects.now in
    let first = c.in_ok-fallen.fallen.items in
    let fallen = c.fall.new.fallen.items in
    let around = c.fall.new.around.spots.items in
    let around' = c.rise.new.around.spots.items in
    let some = c.ask.new.reasons.items in
    let queue = c.ask-2.new.reasons.items in
    let risen = c.in_ok-risen.risen.items in
    let start = c.add_all.new.self.spots.items in
    let list = c.in_ok-list.list.items in
    let same : list ≡ start = c.in_ok-list.ensures ∙ c.as_slice.ensures.value in
    let starts : HasAll start suspects = subst (λ xs. HasAll start (xs ++ suspects)) c.in_ok-around.ensures c.in_ok-add_all.ensures.has in
    let only : HasAll suspects start = subst (λ xs. HasAll (xs ++ suspects) start) c.in_ok-around.ensures c.in_ok-add_all.ensures.only in
    let again = c.as_slice-7.result.now in
    let all : again ≡ around' ++ risen = c.as_slice-7.ensures.value ∙ (c.in_ok-again.ensures ∙ (λ i. c.as_slice-5.ensures.value i ++ c.as_slice-6.ensures.value i)) in
    on-ok c.end_again.result c.end_again.ensures.again (λ ends. parts-update c.args.ids.now.keys slots flow r0 r1 r2 r3 r4 suspects start first fallen around around' some queue risen again record {
      looks = c.in_ok-fallen.ensures.looks;
      looks_keep = c.in_ok-fallen.ensures.pieces;
      falls = c.in_ok-fall.ensures.falls;
      falls_keep = c.in_ok-fall.ensures.pieces;
      asks = λ r. asks-alike slots flow r2 start suspects [] some starts only
          (subst (λ asked. AsksFor slots flow r2 asked [] some) (c.as_slice-2.ensures.value ∙ same) (subst (λ from. AsksFor slots flow r2 c.as_slice-2.result.now from some) c.new-reasons.ensures.items (c.in_ok-ask.ensures r)));
      asks_more = λ r. subst (λ asked. AsksFor slots flow r2 asked some queue) c.as_slice-3.ensures.value (c.in_ok-ask-2.ensures r);
      revives = subst (λ q. Revives slots flow r2 r3 q risen around around') c.as_slice-4.ensures.value c.in_ok-risen.ensures.rises;
      rises_keep = c.in_ok-risen.ensures.pieces;
      ends = ends;
      starts = starts;
      all = has-equal again (around' ++ risen) all;
    })
