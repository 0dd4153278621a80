use Rattle.std.proofs.Common.{◌≡◌, ◌∙◌, ◌<◌, ◌-◌, length, false, ap, arith}
use Rattle.std.proofs.lemmas.List.{length-replicate}
use Rattle.mir_meaning.specs.Registers.{numbers}
use Rattle.machine_verify.specs.Liveins.{is_set}
use Rattle.rewriter.proofs.Covers.{flags_none, flags_more, flags_all, flag_count}
use Rattle.rewriter.proofs.cover.cover_flags.Goals as goal

pub units-init : goal.units-init
units-init c =
    let n : length c.args.target.now.units - 0 ≡ length c.args.target.now.units = omega arith in
    record {
      count = ap length c.in_ok-flags.ensures ∙ (length-replicate c.len.result false ∙ c.len.ensures);
      flags = λ r h. flags_none c.args.target.now (is_set c.args.live.now) c.len.result c.in_ok-flags.flags _ _ (ap (numbers 0) n) c.in_ok-flags.ensures r;
    }

pub units-preserved : goal.units-preserved
units-preserved c =
    let count = c.units.invariant.count in
    let n = c.len-u-end.ensures in
    record {
      count = flag_count c.units.flags c.set_chosen.new.flags c.chosen_for.result c.set_chosen.ensures ∙ count;
      flags = λ r h.
          let within : r < length c.units.flags = omega (arith, count) in
          flags_more c.args.target.now (is_set c.args.live.now) (length c.args.target.now.units) c.units.u c.units.flags c.set_chosen.new.flags c.chosen_for.result _ r (omega (arith, n)) within c.chosen_for.ensures c.set_chosen.ensures (c.units.invariant.flags r h);
    }

pub returns : goal.returns
returns c r h =
    let n = c.len-u-end.ensures in
    flags_all c.args.target.now (is_set c.args.live.now) (length c.args.target.now.units) c.units.u c.units.flags _ r (omega (arith, n)) (c.units.invariant.flags r h)
