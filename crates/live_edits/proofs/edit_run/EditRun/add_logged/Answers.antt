use Rattle.std.proofs.Common.{◌≤◌, ◌∙◌, List, length, subst, arith}
use Rattle.std.proofs.lemmas.List.{take_all}
use Rattle.live_edits.specs.declared.log.Former.{Former}
use Rattle.live_edits.specs.Told.{HasNamed}
use Rattle.live_edits.proofs.ToldPieces.{named-more}
use Rattle.live_edits.proofs.edit_run.EditRun.add_logged.Goals as goal

pub log-preserved : goal.log-preserved
log-preserved c =
    let adds = c.in_ok-add_piece.ensures in
    record {
      kept = λ p m. adds.kept p (c.log.invariant.kept p m);
      named = named-more c.args.self.now.rows.rows.rows.items c.as_slice-former-items.result.now c.log.former-index c.former-item.result c.piece_of.result c.log.pieces.items c.add_piece.new.pieces.items c.log-test.true c.former-item.is c.piece_of.ensures c.log.invariant.named adds;
    }

pub returns-clause-named : goal.returns-clause-named
returns-clause-named c =
    let log = c.as_slice-former-items.result.now in
    let past : length log ≤ c.log.former-index = omega (arith, c.log-test.false) in
    subst (λ (es : List Former). HasNamed c.args.self.now.rows.rows.rows.items es c.log.pieces.items) (take_all c.log.former-index log past ∙ c.as_slice-former-items.ensures.value) c.log.invariant.named
