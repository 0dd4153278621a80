-- The function of a run meets what edits, joins and splits ask of it.
use Rattle.std.proofs.Common.{◌≡◌, Bool, true, not, ap}
use Rattle.std.specs.Prelude.{is_some}
use Rattle.std.specs.List.{list_all}
use Rattle.target_base.specs.declared.types.Target.{Target}
use Rattle.target_base.specs.Rules.{is_phi}
use Rattle.meaning.specs.Live.{Among as Member}
use Rattle.mir_func.specs.declared.func.Instr.{Instr}
use Rattle.mir_func.specs.declared.func.Block.{Block}
use Rattle.mir_func.specs.Value.{Function}
use Rattle.mir_func.specs.Binding.{does}
use Rattle.mir_meaning.specs.Points.{has_no_phis}
use Rattle.instr_effects.proofs.Members.{flat-of}
use Rattle.live_laws.specs.Touch.{are_known, is_known}
use Rattle.lowering_laws.proofs.Formed.{all-by}
use Rattle.join_laws.proofs.Named.{known, not-phi}
use Rattle.spill_laws.proofs.InTurn.{form_has_plain_undefs}
use Rattle.spill_laws.proofs.Touched.{touched}
use Rattle.split_laws.specs.Turns.{TouchesAllNamed}
use Rattle.run_laws.specs.Form.{InRunIsEditable, InRunMayBeEdited, InRunMaySplit, IsInRun}
use Rattle.run_laws.proofs.Joins.{in-lowered-form}

module _ (t : Target) (f : Function) (run : IsInRun t f) where
  each-instr : (p : Instr → Bool) → ((b : Block) (i : Instr) → Member b f.blocks → Member i b.instrs → p i ≡ true) → list_all (λ (b : Block). list_all p b.instrs) f.blocks ≡ true
  each-instr p h = all-by (λ (b : Block). list_all p b.instrs) f.blocks (λ b mb. all-by p b.instrs (λ i mi. h b i mb mi))

  no-phis : has_no_phis t f.blocks ≡ true
  no-phis = each-instr (λ i. not (does is_phi t i)) (λ b i mb mi. ap not (not-phi t i (known t i (run.lowered.lowered b i mb mi)).1).0)

  all-known : are_known t f.blocks ≡ true
  all-known = each-instr (is_known t) (λ b i mb mi. ap (λ q. is_some q) (known t i (run.lowered.lowered b i mb mi)).0.1)

  all-named : TouchesAllNamed f
  all-named w i m =
      let z = flat-of (λ (b : Block). b.instrs) i f.blocks m in
      touched t f run.lowered.rules.classes i (run.lowered.rules.shaped z.0 i z.1 z.2) (run.lowered.lowered z.0 i z.1 z.2) (in-lowered-form t f run.instrs z.0 i z.1 z.2) (run.undefs z.0 i z.1 z.2) w

pub in_run_is_editable : InRunIsEditable
in_run_is_editable t f run = record {
  function = run.lowered.function;
  rules = run.lowered.rules;
  last = run.lowered.terminators;
  phis = no-phis t f run;
  known = all-known t f run;
  plain = form_has_plain_undefs t f run.instrs;
  named = all-named t f run;
}

pub in_run_may_be_edited : InRunMayBeEdited
in_run_may_be_edited t f x es run computed few places spare = record {
  computed = computed;
  rules = run.lowered.rules;
  last = run.lowered.terminators;
  function = run.lowered.function;
  blocks = few;
  places = places;
  spare = spare;
}

pub in_run_may_split : InRunMaySplit
in_run_may_split t f x v ms run computed few class ranges marks = record {
  computed = computed;
  rules = run.lowered.rules;
  last = run.lowered.terminators;
  function = run.lowered.function;
  blocks = few;
  phis = no-phis t f run;
  known = all-known t f run;
  class = class;
  named = all-named t f run v;
  few = ranges;
  marks = marks;
}
