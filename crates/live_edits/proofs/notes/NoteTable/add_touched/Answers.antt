use Rattle.std.proofs.Common.{◌<◌, ◌≤◌, List, None, length, get_or, refl, subst, arith}
use Rattle.std.proofs.lemmas.List.{take_all}
use Rattle.instr_effects.specs.declared.lane_acts.LaneAct.{LaneAct}
use Rattle.instr_effects.proofs.Loops.{get-same}
use Rattle.live_edits.specs.declared.cells.Note.{Note}
use Rattle.live_edits.proofs.NotedAll.{ActsNoted, no-acts, more-acts}
use Rattle.live_edits.proofs.notes.NoteTable.add_touched.Goals as goal

pub acts-init : goal.acts-init
acts-init c = record { table = c.requires; noted = no-acts c.args.touched.now c.args.self.now.all.items }

pub acts-preserved : goal.acts-preserved
acts-preserved c =
    let none : LaneAct = record { lane = 0; read = None; write = None } in
    let x = c.args.touched.now in
    let acts = c.as_slice-act-items.result.now in
    let k = c.acts.act-index in
    let within : k < length acts = omega arith in
    let a = get_or acts k none in
    let note : Note = record { id = x.id; act = a } in
    record {
      table = c.in_ok-add.ensures.table;
      noted = more-acts x c.args.self.now.all.items c.acts.self.all.items c.add.new.self.all.items acts k a note within (get-same acts k none a within) refl c.in_ok-add.ensures.added c.in_ok-add.ensures.noted c.in_ok-add.ensures.filled c.acts.invariant.noted;
    }

pub returns : goal.returns
returns c =
    let x = c.args.touched.now in
    let old = c.args.self.now.all.items in
    let new = c.acts.self.all.items in
    let acts = c.as_slice-act-items.result.now in
    let past : length acts ≤ c.acts.act-index = omega arith in
    let whole : ActsNoted x old new acts = subst (λ (zs : List LaneAct). ActsNoted x old new zs) (take_all c.acts.act-index acts past) c.acts.invariant.noted in
    let all : ActsNoted x old new x.acts.items = subst (λ (zs : List LaneAct). ActsNoted x old new zs) c.as_slice-act-items.ensures.value whole in
    record { table = c.acts.invariant.table; added = all.added; noted = all.noted; filled = all.filled }
