use Rattle.std.proofs.Common.{◌≡◌, ◌≤◌, ℕ, List, [], length, subst, true, false}
use Rattle.std.specs.Prelude.{IfSome}
use Rattle.target_base.specs.Storage.{same_numbers}
use Rattle.mir_func.specs.Value.{Function}
use Rattle.mir_text.specs.declared.doc.Doc.TheVariants as docs
use Rattle.mir_text.specs.Document.{Spells}
use Rattle.pipeline.proofs.GuardLemmas.Texts.{text_read}
use Rattle.pipeline.proofs.guarded.spelled.print_and_read.Goals as goal

pub returns-in-Some-2 : goal.returns-in-Some-2
returns-in-Some-2 c =
    let t = c.args.reader.now in
    let g = c.in-Some-2.func in
    let spells = subst (λ o. IfSome o (λ f. Spells t false 1 c.as_slice-2.result.now (docs.Function [] f))) c.in-Some-2.is c.in_ok-func.ensures.spells in
    let same = subst (λ o. IfSome o (λ f. same_numbers f.head c.as_slice-3.result.now ≡ true)) c.in-Some-2.is c.in_ok-func.ensures.head in
    text_read t _ c.in-Some.f g c.in_ok-text.text (rw c.target.ensures at c.in_ok-text.ensures) c.in-Some.ensures
    (subst (λ (x : List ℕ). length x ≤ 4194304) c.as_slice.ensures c.if-as_slice-gt-MOST_BYTES.false)
    (subst (λ (x : List ℕ). Spells t false 1 x (docs.Function [] g)) c.as_slice-2.ensures spells)
    (subst (λ (x : Function). same_numbers g.head x.head ≡ true) c.f.view_is (subst (λ (x : List ℕ). same_numbers g.head x ≡ true) c.as_slice-3.ensures same))
