use Rattle.std.proofs.Common.{◌≡◌, ◌∙◌, ◌<◌, ◌≤◌, ◌^◌, ℕ, List, Option, Some, None, refl, sym, ap, subst, arith, length, get_or}
use Rattle.std.specs.Prelude.{slice_get}
use Rattle.std.proofs.lemmas.Option.{slice_get_read}
use Rattle.mir_func.specs.declared.func.Instr.{Instr}
use Rattle.mir_func.specs.declared.func.Block.{Block}
use Rattle.mir_func.specs.Value.{Function}
use Rattle.place_solve.specs.Own.{is_crowded, IsFirst}
use Rattle.live_laws.proofs.Few.{few_instrs}
use Rattle.place_solve.proofs.Crowds.{none_next, none_all, first_found}
use Rattle.place_solve.proofs.check.first_crowded.Goals as goal

pub returns-in-Some : goal.returns-in-Some
returns-in-Some c =
    let t = c.args.target.now in
    let f = c.args.f.now in
    let k = c.counted.k in
    let b = c.index-blocks-k.result in
    let all : c.as_slice-blocks.result.now ≡ f.blocks = c.as_slice-blocks.ensures ∙ ap (λ (g : Function). g.blocks) c.f.view_is in
    let h : k < length f.blocks = omega (arith, ap length all) in
    let e : b ≡ get_or f.blocks k b = c.index-blocks-k.is ∙ ap (λ (bs : List Block). get_or bs k b) all in
    let at : slice_get f.blocks k ≡ Some b = slice_get_read f.blocks (length f.blocks) k b refl h e in
    let inside : k < length c.f.inside.blocks = omega (arith, ap length c.as_slice-blocks.ensures) in
    let read = sym (c.index-blocks-k.is ∙ ap (λ (bs : List Block). get_or bs k b) c.as_slice-blocks.ensures) in
    let few : length b.instrs < 2 ^ 32 = few_instrs c.f.inside.blocks c.f.inside.next_id k b c.f.invariant (omega arith) inside read in
    let first : IsFirst (is_crowded t f b.instrs) (length b.instrs) c.in_ok-at.field-0 = subst (λ (is : List Instr). IsFirst (is_crowded t f is) (length is) c.in_ok-at.field-0) c.as_slice.ensures c.in_ok-at.ensures in
    let found : IsFirst (is_crowded t f b.instrs) (length b.instrs) (Some c.in-Some.at) = subst (λ (o : Option ℕ). IsFirst (is_crowded t f b.instrs) (length b.instrs) o) c.in-Some.is first in
    first_found t f k b c.in-Some.at c.place_of.result at found (c.place_of.ensures.at (omega (arith, found.0, few))) c.place_of.ensures.block c.counted.invariant

pub counted-preserved : goal.counted-preserved
counted-preserved c =
    let t = c.args.target.now in
    let f = c.args.f.now in
    let k = c.counted.k in
    let b = c.index-blocks-k.result in
    let all : c.as_slice-blocks.result.now ≡ f.blocks = c.as_slice-blocks.ensures ∙ ap (λ (g : Function). g.blocks) c.f.view_is in
    let h : k < length f.blocks = omega (arith, ap length all) in
    let e : b ≡ get_or f.blocks k b = c.index-blocks-k.is ∙ ap (λ (bs : List Block). get_or bs k b) all in
    let at : slice_get f.blocks k ≡ Some b = slice_get_read f.blocks (length f.blocks) k b refl h e in
    let first : IsFirst (is_crowded t f b.instrs) (length b.instrs) c.in_ok-at.field-0 = subst (λ (is : List Instr). IsFirst (is_crowded t f is) (length is) c.in_ok-at.field-0) c.as_slice.ensures c.in_ok-at.ensures in
    let found : IsFirst (is_crowded t f b.instrs) (length b.instrs) None = subst (λ (o : Option ℕ). IsFirst (is_crowded t f b.instrs) (length b.instrs) o) c.in_default.is first in
    none_next t f k b at found c.counted.invariant

pub returns : goal.returns
returns c =
    let f = c.args.f.now in
    let all : c.as_slice-blocks.result.now ≡ f.blocks = c.as_slice-blocks.ensures ∙ ap (λ (g : Function). g.blocks) c.f.view_is in
    let h : length f.blocks ≤ c.counted.k = omega (arith, ap length all) in
    none_all c.args.target.now f c.counted.k h c.counted.invariant
