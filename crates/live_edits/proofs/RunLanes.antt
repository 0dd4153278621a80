-- The acts of an instruction tell all lanes that it names.
use Rattle.std.proofs.Common.{◌≡◌, ◌∙◌, ℕ, Bool, true, false, List, Some, refl, sym, subst}
use Rattle.std.proofs.lemmas.Option.{same_Some}
use Rattle.target_base.specs.declared.types.Target.{Target}
use Rattle.mir_func.specs.declared.func.Instr.{Instr}
use Rattle.mir_func.specs.Value.{Function, IsFunction}
use Rattle.mir_func.specs.At.{instr_at}
use Rattle.mir_meaning.specs.declared.writing.LaneDef.{LaneDef}
use Rattle.mir_meaning.specs.Paths.{Among, Step, has}
use Rattle.instr_effects.specs.declared.lane_acts.LaneAct.{LaneAct}
use Rattle.instr_effects.specs.LaneActs.{act_on, lane_act}
use Rattle.instr_effects.specs.Steps.{Numbering}
use Rattle.live_lanes.specs.declared.order.Order.{Order}
use Rattle.live_lanes.proofs.Coded.{has-among}
use Rattle.edit_laws.specs.Codes.{NamesTold, step_in}
use Rattle.live_edits.specs.ActChanges.{act_lanes}
use Rattle.live_edits.specs.Drafts.{IsOrderOf, IsPlaceOf}
use Rattle.live_edits.specs.NotedTable.{AreActs}
use Rattle.live_edits.specs.Runs.{AreActsAt, AreActsOf}
use Rattle.live_edits.proofs.NotedActs.{acts-done, unnamed-unused, unnamed-unwritten}
use Rattle.live_edits.proofs.RunPlaces.{one-place}

pub untold-absent : (told : ℕ → Bool) (xs : List ℕ) → ((l : ℕ) → Among l xs → told l ≡ true) → (l : ℕ) → told l ≡ false → has l xs ≡ false
untold-absent told xs each l e = go (has l xs) refl
  where
    go : (u : Bool) → has l xs ≡ u → u ≡ false
    go true h = absurd (let k : true ≡ false = sym (each l (has-among l xs h)) ∙ e in cc)
    go false h = refl

-- the lanes of its acts are all that an instruction names
pub acts-name : (s : Step) (acts : List LaneAct) → AreActs s acts → (told : ℕ → Bool) → ((l : ℕ) → Among l (act_lanes acts) → told l ≡ true) → NamesTold told s
acts-name s acts tell told each = record {
  unused = λ l e. unnamed-unused l s acts tell (untold-absent told (act_lanes acts) each l e);
  unwritten = λ l e. unnamed-unwritten l s acts tell (untold-absent told (act_lanes acts) each l e);
}

-- the acts of the effects of the instruction at a place
pub acts-at : (t : Target) (f : Function) (num : Numbering) (p k : ℕ) (j : Instr) (acts : List LaneAct) (reads : List ℕ) (writes : List LaneDef) → Some j ≡ instr_at f.blocks p k → reads ≡ (step_in t f num j).reads → writes ≡ (step_in t f num j).writes
    → ((l : ℕ) → act_on acts l ≡ lane_act reads writes l) → AreActsAt t f num p k acts
acts-at t f num p k j acts reads writes at read written tell = λ i e. subst (λ (x : Instr). AreActs (step_in t f num x) acts) (same_Some j i (at ∙ e)) (acts-done (step_in t f num j) reads writes acts read written tell)

-- the instruction of an id is that at its place
pub acts-of : (t : Target) (f : Function) (num : Numbering) (o : Order) (id p k : ℕ) (acts : List LaneAct) → IsFunction f.blocks f.next_id → IsOrderOf f o → IsPlaceOf f id (Some (p, k)) → AreActsAt t f num p k acts → AreActsOf t f num id acts
acts-of t f num o id p k acts is order found at = λ q m i there own.
    let one = one-place f o is order p k q m found.0 i found.1 there (found.2 ∙ sym own) in
    subst (λ (x : Instr). AreActs (step_in t f num x) acts) one.2 (at found.0 found.1)
