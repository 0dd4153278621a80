use Rattle.std.proofs.Common.{◌≡◌, ◌+◌, take, fold, false, arith, sym, ◌∙◌, ap, subst, inl, inr, get_or}
use Rattle.std.proofs.lemmas.List.Sums.{fold_more}
use Rattle.std.proofs.lemmas.Bool.{cases_lt}
use Rattle.ra_top.specs.Devices.Scan.{scan_step}
use Rattle.ra_top.proofs.devices.pieces.scan.Goals as goal

pub loop-k-preserved : goal.loop-k-preserved
loop-k-preserved c =
    let more = fold_more scan_step c.args.before c.args.bytes.now c.loop-k.k 0 (search (arith, c.loop-k-test.true)) in
    let after : c.step-after.result ≡ fold scan_step c.args.before (take (c.loop-k.k + 1) c.args.bytes.now) = c.step-after.ensures ∙ ap (λ s. scan_step s (get_or c.args.bytes.now c.loop-k.k 0)) c.loop-k.invariant.after ∙ sym more in
    record {
      after = after;
      first = λ j some within. elim (cases_lt j (c.loop-k.k + 1)) [
        | inl l ↦ c.loop-k.invariant.first j some (omega arith)
        | inr l ↦
            let last : c.loop-k.k + 1 ≡ j = omega arith in
            subst (λ n. (fold scan_step c.args.before (take n c.args.bytes.now)).whole ≡ false) last (rw (← after) c.if-after.false)
      ];
    }
