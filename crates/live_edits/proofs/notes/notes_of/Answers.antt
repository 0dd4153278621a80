use Rattle.std.proofs.Common.{◌≡◌, ◌<◌, ◌≤◌, ◌+◌, ◌-◌, ◌∷◌, ◌∙◌, List, length, drop, sym, ap, subst, arith}
use Rattle.std.specs.Ordering.{nat_cmp}
use Rattle.std.specs.BTreeMap.{is_at}
use Rattle.std.specs.Map.{lookup}
use Rattle.std.proofs.lemmas.List.{drop_more, drop_all}
use Rattle.live_edits.specs.declared.notes.NoteTable.{NoteTable}
use Rattle.live_edits.specs.declared.notes.TouchedInstr.{TouchedInstr}
use Rattle.live_edits.proofs.NotedAll.{ActsNoted, AllNoted, none-touched, more-touched, has-notes}
use Rattle.live_edits.proofs.NotedTable.{no-notes}
use Rattle.live_edits.proofs.notes.notes_of.Goals as goal

pub edits-init : goal.edits-init
edits-init c =
    let table : NoteTable = record { all = c.new.result; places = c.new-2.result } in
    let touched = c.args.touched.now in
    let past : length touched ≤ length touched = omega arith in
    record {
      table = no-notes table c.new.ensures.items (λ key. ap (λ es. lookup (is_at (nat_cmp key)) es) c.new-2.ensures.empty);
      within = past;
      noted = subst (λ (xs : List TouchedInstr). AllNoted xs c.new.result.items) (sym (drop_all (length touched) touched past)) (none-touched c.new.result.items c.new.ensures.items);
    }

pub edits-preserved : goal.edits-preserved
edits-preserved c =
    let touched = c.args.touched.now in
    let n = c.edits.left in
    let x = c.index-touched-left.result in
    let old = c.edits.table.all.items in
    let new = c.add_touched.new.self in
    let some = c.edits-test.true in
    let bound = c.edits.invariant.within in
    let within : n - 1 < length touched = omega (arith, some, bound) in
    let next : n - 1 + 1 ≡ n = omega (arith, some) in
    let one : ActsNoted x old new.all.items x.acts.items = record { added = c.in_ok-add_touched.ensures.added; noted = c.in_ok-add_touched.ensures.noted; filled = c.in_ok-add_touched.ensures.filled } in
    let list : drop (n - 1) touched ≡ x ∷ drop n touched = drop_more touched (n - 1) x within ∙ (λ u. (sym c.index-touched-left.is u) ∷ drop (next u) touched) in
    record {
      table = c.in_ok-add_touched.ensures.table;
      within = omega (arith, bound);
      noted = subst (λ (xs : List TouchedInstr). AllNoted xs new.all.items) (sym list) (more-touched (drop n touched) x old new c.in_ok-add_touched.ensures.table one c.edits.invariant.noted);
    }

pub returns : goal.returns
returns c = λ t f num gone tell.
    let touched = c.args.touched.now in
    let zero : c.edits.left ≡ 0 = omega (arith, c.edits-test.false) in
    has-notes t f num gone touched c.edits.table c.edits.invariant.table (subst (λ k. AllNoted (drop k touched) c.edits.table.all.items) zero c.edits.invariant.noted) tell
