use Rattle.std.proofs.Common.{◌≡◌, ◌<◌, ◌≤◌, ◌^◌, ◌∙◌, List, ℕ, length, sym, ap, subst}
use Rattle.target_base.specs.declared.types.Target.{Target}
use Rattle.laws.proofs.Refines.{refines_trans}
use Rattle.mir_func.specs.Value.{Function}
use Rattle.mir_meaning.specs.Codes.{meaning_of, refines}
use Rattle.phi_elim.specs.Bulk.{bulk}
use Rattle.two_address.specs.Lowered.{lowered}
use Rattle.block_freq.specs.Frequencies.{frequencies_of}
use Rattle.join_laws.specs.Joined.{Joined}
use Rattle.live_lanes.specs.Doing.{IsComputed}
use Rattle.lowering_laws.proofs.Both.{lowered_refine}
use Rattle.coalescer.specs.Coalescing.{MayCoalesce}
use Rattle.pipeline.proofs.PassLemmas.Live.{as-many, few-ranges}
use Rattle.pipeline.proofs.PassLemmas.Prepared.{may-coalesce}
use Rattle.pipeline.proofs.passes.ready.prepare.Goals as goal

pub returns-clause-prepared : goal.returns-clause-prepared
returns-clause-prepared c =
    λ may.
    let t = c.args.target.now in
    let f = c.args.source.func in
    let own = c.into_parts-own_target.ensures.func in
    let small : bulk c.into_parts-own_target.result.1 ≤ 2 ^ 24 = subst (λ (g : Function). bulk g ≤ 2 ^ 24) (sym own) may.bulk in
    let low : c.in_ok-f.f ≡ lowered t f = c.in_ok-f.ensures.value small ∙ ap (lowered t) own in
    let x = c.in_ok-live.live in
    let made = c.in_ok-live-2.live in
    let freqs : c.in_ok-freqs.freqs ≡ frequencies_of (lowered t f).blocks = c.in_ok-freqs.ensures.value ∙ ap (λ (g : Function). frequencies_of g.blocks) low in
    let target : x.target ≡ t = c.in_ok-live.ensures.parts.0 ∙ (c.into_parts-own_target.ensures.target ∙ may.target) in
    let func : x.func ≡ lowered t f = c.in_ok-live.ensures.parts.1 ∙ low in
    let some : 0 < length (lowered t f).blocks = subst (λ (g : Function). 0 < length g.blocks) (c.f.view_is ∙ low) c.f.invariant.nonempty in
    let computed : IsComputed t x.func x.table = subst (λ (u : Target). IsComputed u x.func x.table) (c.into_parts-own_target.ensures.target ∙ may.target) (subst (λ (g : Function). IsComputed c.into_parts-own_target.result.0 g x.table) (sym c.in_ok-live.ensures.parts.1) c.in_ok-live.ensures.exact) in
    let joins : MayCoalesce t x = may-coalesce t f x may.classes may.valid may.blocks target func some computed in
    record {
      freqs = freqs;
      joins = c.in_ok-live-2.field-0-1;
      joined = subst (λ (g : Function). Joined t (frequencies_of (lowered t f).blocks) g c.in_ok-live-2.field-0-1 made.func) func (subst (λ (n : List ℕ). Joined t n x.func c.in_ok-live-2.field-0-1 made.func) freqs (c.in_ok-live-2.ensures.joined joins));
      ready = c.in_ok-live-2.ensures.kept joins;
      refines = refines_trans (meaning_of t f) (meaning_of t (lowered t f)) (meaning_of t made.func) (lowered_refine t f may.valid may.classes) (subst (λ (g : Function). refines t g made.func) func (c.in_ok-live-2.ensures.refines joins));
      few = few-ranges c.into_parts-own_target.result.1 c.in_ok-f.f made.func c.in_ok-f.ensures.bulk small (as-many t (c.in_ok-live-2.ensures.joined joins) ∙ ap (λ (g : Function). length g.classes) c.in_ok-live.ensures.parts.1);
    }
