use Rattle.std.proofs.Common.{◌≡◌, ◌∙◌, ◌<◌, ◌≤◌, ◌^◌, ℕ, List, Option, Some, None, refl, sym, ap, subst, arith, length, get_or}
use Rattle.std.specs.Prelude.{slice_get}
use Rattle.std.proofs.lemmas.Option.{slice_get_read}
use Rattle.mir_func.specs.declared.func.Block.{Block}
use Rattle.mir_func.specs.Value.{Function}
use Rattle.place_solve.specs.Told.{IsFirstLost}
use Rattle.live_laws.proofs.Few.{few_instrs}
use Rattle.place_solve.proofs.Serving.{block_lost, blocks_all, blocks_more}
use Rattle.place_solve.proofs.check.first_unassignable.Goals as goal

pub returns-in-Some : goal.returns-in-Some
returns-in-Some c = λ ordered.
    let t = c.args.live.now.target in
    let g = c.args.live.now.func in
    let x = c.args.live.now.table in
    let f = c.args.f.now in
    let k = c.tested.k in
    let b = c.index-blocks-k.result in
    let all : c.as_slice-blocks.result.now ≡ f.blocks = c.as_slice-blocks.ensures ∙ ap (λ (g : Function). g.blocks) c.f.view_is in
    let h : k < length f.blocks = omega (arith, ap length all) in
    let e : b ≡ get_or f.blocks k b = c.index-blocks-k.is ∙ ap (λ (bs : List Block). get_or bs k b) all in
    let at : slice_get f.blocks k ≡ Some b = slice_get_read f.blocks (length f.blocks) k b refl h e in
    let inside : k < length c.f.inside.blocks = omega (arith, ap length c.as_slice-blocks.ensures) in
    let read = sym (c.index-blocks-k.is ∙ ap (λ (bs : List Block). get_or bs k b) c.as_slice-blocks.ensures) in
    let few : length b.instrs < 2 ^ 32 = few_instrs c.f.inside.blocks c.f.inside.next_id k b c.f.invariant (omega arith) inside read in
    let found : IsFirstLost t g x b.instrs (Some c.in-Some.at) = subst (λ (o : Option ℕ). IsFirstLost t g x b.instrs o) c.in-Some.is (c.in_ok-at.ensures ordered) in
    block_lost t g x f.blocks k b c.in-Some.at c.place_of.result at (c.tested.invariant ordered) found (c.place_of.ensures.at (omega (arith, found.0, few))) c.place_of.ensures.block

pub tested-preserved : goal.tested-preserved
tested-preserved c = λ ordered.
    let t = c.args.live.now.target in
    let g = c.args.live.now.func in
    let x = c.args.live.now.table in
    let f = c.args.f.now in
    let k = c.tested.k in
    let b = c.index-blocks-k.result in
    let all : c.as_slice-blocks.result.now ≡ f.blocks = c.as_slice-blocks.ensures ∙ ap (λ (g : Function). g.blocks) c.f.view_is in
    let h : k < length f.blocks = omega (arith, ap length all) in
    let e : b ≡ get_or f.blocks k b = c.index-blocks-k.is ∙ ap (λ (bs : List Block). get_or bs k b) all in
    let found : IsFirstLost t g x b.instrs None = subst (λ (o : Option ℕ). IsFirstLost t g x b.instrs o) c.in_default.is (c.in_ok-at.ensures ordered) in
    blocks_more t g x f.blocks k b h e (c.tested.invariant ordered) found

pub returns : goal.returns
returns c = λ ordered.
    let f = c.args.f.now in
    let all : c.as_slice-blocks.result.now ≡ f.blocks = c.as_slice-blocks.ensures ∙ ap (λ (g : Function). g.blocks) c.f.view_is in
    let h : length f.blocks ≤ c.tested.k = omega (arith, ap length all) in
    blocks_all c.args.live.now.target c.args.live.now.func c.args.live.now.table f.blocks c.tested.k h (c.tested.invariant ordered)
