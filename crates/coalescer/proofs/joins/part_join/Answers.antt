use Rattle.std.proofs.Common.{◌≡◌, ◌∙◌, ◌&&◌, ℕ, Bool, true, false, cond, Some, None, refl, sym, ap}
use Rattle.std.specs.List.{list_all}
use Rattle.target_base.specs.Registers.{lanes_of}
use Rattle.target_base.specs.Storage.{holds_subs}
use Rattle.live_edits.specs.declared.fold.Join.{Join}
use Rattle.live_edits.specs.Folded.{composed, registers_of}
use Rattle.join_laws.specs.Joined.{fits_range, indexes_on}
use Rattle.coalescer.specs.Coalescing.{fits_instr, instr_of}
use Rattle.coalescer.proofs.Facts.{fits-touched}
use Rattle.coalescer.proofs.joins.part_join.Goals as goal

none-by : (j : Join) (h l : Bool) → l ≡ false → None ≡ cond (h && l) (Some j) None
none-by j true l e = ap (λ u. cond u (Some j) None) (sym e)
none-by j false l e = refl

pub returns-then-not-are_fitting : goal.returns-then-not-are_fitting
returns-then-not-are_fitting c = λ may.
    let t = c.args.target.now in
    let x = c.args.live.now in
    let p = c.args.part in
    let ids = c.in_ok-touched.touched.items in
    let all : list_all (λ z. fits_range t x.func p.keep (composed t p.index z)) (indexes_on x.func p.gone) ≡ false =
    sym (fits-touched t x may p.keep p.index p.gone ids c.in_ok-touched.ensures)
    ∙ ap (list_all (λ (id : ℕ). fits_instr t x.func p.keep p.index p.gone (instr_of x.func id))) (sym c.as_slice-2.ensures.value)
    ∙ sym (c.are_fitting.ensures may) ∙ c.if-not-are_fitting.true in
    none-by (record { keep = p.keep; gone = p.gone; index = Some p.index }) (holds_subs t.regs (lanes_of t p.index) (registers_of t x.func p.keep) (registers_of t x.func p.gone)) (list_all (λ z. fits_range t x.func p.keep (composed t p.index z)) (indexes_on x.func p.gone)) all

pub returns : goal.returns
returns c = λ may.
    let t = c.args.target.now in
    let x = c.args.live.now in
    let p = c.args.part in
    let ids = c.in_ok-touched.touched.items in
    let all : list_all (λ z. fits_range t x.func p.keep (composed t p.index z)) (indexes_on x.func p.gone) ≡ true =
    sym (fits-touched t x may p.keep p.index p.gone ids c.in_ok-touched.ensures)
    ∙ ap (list_all (λ (id : ℕ). fits_instr t x.func p.keep p.index p.gone (instr_of x.func id))) (sym c.as_slice-2.ensures.value)
    ∙ sym (c.are_fitting.ensures may) ∙ c.if-not-are_fitting.false in
    let holds : holds_subs t.regs (lanes_of t p.index) (registers_of t x.func p.keep) (registers_of t x.func p.gone) ≡ true =
    sym (λ i. holds_subs (c.as_slice.ensures i) (c.lanes_at.ensures i) (c.registers_of-own.ensures i) (c.registers_of-others.ensures i)) ∙ sym c.hold_subs.ensures ∙ c.if-not-hold_subs.false in
    sym (λ i. cond (holds i && all i) (Some (record { keep = p.keep; gone = p.gone; index = Some p.index })) None)
