use Rattle.std.proofs.Common.{sym, ap, ◌∙◌, ◌++◌, append-nil, cond, filter_map}
use Rattle.instr_effects.specs.Acts.{acts_of, counted_acts, counted_owners, silent_acts, read_owners}
use Rattle.mir_func.specs.Binding.{is_early_clobber}
use Rattle.mir_meaning.specs.Items.{silent_reads}
use Rattle.instr_effects.specs.Numbered.{number_in}
use Rattle.instr_effects.specs.Steps.{act_readings}
use Rattle.instr_effects.proofs.CountedParts.{no_readings}
use Rattle.instr_effects.proofs.effects.EffectReader.add.Goals as goal

pub returns-in_ok-write_counted-clause-reads : goal.returns-in_ok-write_counted-clause-reads
returns-in_ok-write_counted-clause-reads c =
    let t = c.args.self.target.now in
    let f = c.args.self.func.now in
    let num = number_in c.args.self.lanes.now in
    let e = c.args.desc.now.effect in
    let rs = c.args.desc.now.roles in
    let os = c.args.operands.now in
    let owners = counted_owners t f e rs os in
    let counted = counted_acts t f e rs os in
    c.in_ok-read_counted.ensures
    ∙ ap (λ x. c.args.effects.now.reads.items ++ x) (
    sym (append-nil (filter_map num owners))
    ∙ ap (λ x. filter_map num owners ++ x) (sym (no_readings t f num e rs os))
    ∙ ap (λ b. filter_map num (cond b (read_owners (silent_reads t f e os)) owners) ++ act_readings num (acts_of (cond b (silent_acts t f e (is_early_clobber rs) os) counted))) (sym c.if-is_silent.false ∙ c.is_silent.ensures))
