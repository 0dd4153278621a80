use Rattle.std.proofs.Common.{◌≡◌, ap, ◌∙◌}
use Rattle.std.proofs.lemmas.Result.{IfOk-weaker}
use Rattle.mir_func.specs.Value.{Function}
use Rattle.mir_meaning.specs.declared.Form.TheVariants as forms
use Rattle.live_laws.proofs.Effects.Valid.{valid-law, ends}
use Rattle.live_laws.proofs.Exact.Inside.{inside-law}
use Rattle.slot_colour.specs.Clashes.{is_clash}
use Rattle.slot_colour.specs.Colouring.{chosen, merged, coloured, IsColoured}
use Rattle.slot_colour.proofs.Clashing.{clash-law}
use Rattle.slot_colour.proofs.colour.colour_function.Goals as goal

pub returns : goal.returns
unfolding coloured
returns c = λ classes valid.
    let live = c.in_ok-live.live in
    let same = c.in_ok-live.ensures.parts.1 in
    let computed = c.in_ok-live.ensures.exact in
    let rules = valid-law c.args.target.now forms.Allocated c.args.f valid.shape classes in
    let last = ends c.args.target.now forms.Allocated c.args.f valid.shape in
    let ordered = (inside-law c.args.target.now c.args.f live.table computed rules last).ordered in
    IfOk-weaker c.merge_slots.result (λ (g : Function). g ≡ merged c.as_slice.result.now c.into_func.result) (IsColoured c.args.target.now c.args.f)
    (λ g e. record {
      clash = is_clash live.table;
      tells = clash-law c.args.target.now c.args.f live.table computed rules last;
      is =
          e ∙ ap (λ ts. merged ts c.into_func.result) (c.as_slice.ensures.value ∙ c.in_ok-taken.ensures ordered)
          ∙ ap (λ (h : Function). merged (chosen (is_clash live.table) live.func) h) (c.into_func.ensures ∙ same)
          ∙ ap (λ (h : Function). merged (chosen (is_clash live.table) h) c.args.f) same;
    })
    c.merge_slots.ensures
