use Rattle.std.proofs.Common.{◌≡◌, ◌++◌, ◌∙◌, ◌+◌, ap, sym, ℕ, List, drop, take, get_or, subst}
use Rattle.std.specs.Prelude.{Option, Bool, flat_map}
use Rattle.mir_func.specs.declared.func.Instr.{Instr}
use Rattle.live_lanes.specs.declared.ask.labels.Mark.{Mark}
use Rattle.live_lanes.specs.declared.ask.labels.Spot.TheVariants.{Border}
use Rattle.live_lanes.specs.Ordered.{ids_of}
use Rattle.edit_laws.specs.Edits.{Edit}
use Rattle.live_edits.specs.Runs.{edits_of}
use Rattle.split_kit.specs.PartEdits.{copy_edits, gap_edits, gap_live, part_edits, stand_before}
use Rattle.split_kit.proofs.GapEdits.{all-passed, border-passed, gap-passed, no-gap, ok-then}
use Rattle.split_kit.proofs.PartLists.{ids-dropped, within-dropped}
use Rattle.split_kit.proofs.part_edits.add_gaps.Goals as goal
use Rattle.split_kit.proofs.part_edits.add_gaps.Goals.{in-Gap+in_ok-left, in_default}

abbrev none : Mark
none = record { block = 0; spot = Border; label = 0 }

pub marks-preserved : goal.marks-preserved
marks-preserved c = λ own finds order within same few.
    let live = c.args.view.live.now in
    let at : Option ℕ → Bool = gap_live live.table live.func.blocks c.args.view.v c.args.position in
    let slots = live.table.order.slots in
    let before = c.marks.invariant own finds order within same few in
    let ms : List Mark = c.args.marks.now in
    let k : ℕ = c.marks.mark-index in
    let rest : List Instr = before.0 in
    let goal : List Edit = edits_of c.args.edits.now.items ++ gap_edits live.func c.args.view.v slots at c.args.label own ms in
    elim c.match-mark.branch [
      | in-Gap+in_ok-left w ↦
          let count : ℕ = stand_before slots w.in-Gap.gap.before (ids_of rest) in
          let is_count : stand_before slots w.in-Gap.gap.before c.marks.left.now ≡ count = ap (stand_before slots w.in-Gap.gap.before) before.2 in (
            drop count rest,
            within-dropped live.func.blocks count rest before.1,
            ap (λ x. x.now) w.left-is ∙ (w.in_ok-left.ensures.rest ∙ (ap (λ n. drop n c.marks.left.now) is_count ∙ (ap (drop count) before.2 ∙ ids-dropped count rest))),
            subst (λ h. edits_of c.match-mark.edits.items ++ gap_edits live.func c.args.view.v slots at h (drop count rest) (drop (k + 1) ms) ≡ goal) (sym w.held-is)
                (gap-passed live.func c.args.view.v slots at rest ms k none c.marks.held w.in-Gap.gap (edits_of c.marks.edits.items) (edits_of c.match-mark.edits.items) goal c.marks-test.true w.in-Gap.is before.3
                (ap (λ x. edits_of x.items) w.edits-is ∙ (w.in_ok-left.ensures.edits rest finds order before.1 before.2 few
                ∙ ap (λ n. edits_of c.marks.edits.items ++ (flat_map (part_edits live.func c.args.view.v c.marks.held) (take n rest) ++ copy_edits live.func w.in-Gap.gap (at w.in-Gap.gap.before) c.marks.held (get_or ms k none).label)) is_count))),
          )
      | in_default w ↦ (
        rest,
        before.1,
        ap (λ x. x.now) w.left-is ∙ before.2,
        subst (λ h. edits_of c.match-mark.edits.items ++ gap_edits live.func c.args.view.v slots at h rest (drop (k + 1) ms) ≡ goal) (sym w.held-is)
            (subst (λ es. es ++ gap_edits live.func c.args.view.v slots at c.marks.held rest (drop (k + 1) ms) ≡ goal) (sym (ap (λ x. edits_of x.items) w.edits-is))
            (border-passed live.func c.args.view.v slots at rest ms k none c.marks.held (edits_of c.marks.edits.items) goal c.marks-test.true (no-gap (get_or ms k none).spot w.in_default.not-Gap) before.3)),
      )
    ]

pub returns : goal.returns
returns c = ok-then c.add_parts.result _ _ (λ e. λ own finds order within same few.
    let live = c.args.view.live.now in
    let at : Option ℕ → Bool = gap_live live.table live.func.blocks c.args.view.v c.args.position in
    let slots = live.table.order.slots in
    let before = c.marks.invariant own finds order within same few in
    all-passed live.func c.args.view.v slots at before.0 c.args.marks.now c.marks.mark-index none c.marks.held (edits_of c.marks.edits.items) (edits_of c.add_parts.new.edits.items) (edits_of c.args.edits.now.items ++ gap_edits live.func c.args.view.v slots at c.args.label own c.args.marks.now)
    c.marks-test.false before.3 (e before.0 finds before.1 before.2 few)) c.add_parts.ensures
