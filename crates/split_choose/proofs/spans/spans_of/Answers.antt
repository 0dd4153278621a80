use Rattle.std.proofs.Common.{◌≡◌, ◌∙◌, ◌++◌, ap, subst, length, arith, map, take, drop, List, ℕ}
use Rattle.std.specs.Prelude.{slice_index_or}
use Rattle.split_choose.specs.declared.spans.Span.{Span}
use Rattle.split_choose.specs.Places.{sites_from}
use Rattle.split_choose.specs.Built.{told, Rise, blank, filled}
use Rattle.split_choose.proofs.Using.{put-together, their-sites, written-back}
use Rattle.split_choose.proofs.Spanned.{spans-of}
use Rattle.split_choose.proofs.spans.spans_of.Goals as goal

pub returns : goal.returns
returns c m same places points touched =
    let live = c.args.live.now in let v = c.args.v in let freqs = c.args.freqs.now in
    let positions = c.in_ok-positions.positions.items in
    let first = c.in_ok-spans.spans.items in
    let last = c.fill.new.spans in
    let back : take c.in_ok-spans.spans.len (last ++ drop (length last) first) ≡ last = written-back c.in_ok-spans.spans.len (drop (length last) first) last (omega arith) in
    let begun : map told first ≡ map (λ k. blank live v (slice_index_or freqs k 0) k) positions =
    c.in_ok-spans.ensures places.order
    ∙ (ap (λ (fs : List ℕ). map (λ k. blank live v (slice_index_or fs k 0) k) c.as_slice-2.result.now) c.as_slice.ensures
    ∙ ap (map (λ k. blank live v (slice_index_or freqs k 0) k)) c.as_slice-2.ensures.value) in
    let sites = their-sites live.target live.func live.table v c.args.touched.now places touched in
    let P : List Span → Type 0 = λ ss. Rise ss → map told last ≡ filled live v (sites_from v 0 live.func.blocks) (map told ss) in
    spans-of m live v freqs positions (take c.in_ok-spans.spans.len (last ++ drop (length last) first)) same points c.in_ok-positions.ensures.order c.in_ok-positions.ensures.all
    (ap (map told) back ∙ put-together live v freqs positions c.in_ok-positions.ensures.order first last begun (subst P c.as_mut_slice.ensures.value (c.in_ok-fill.ensures places.instrs (sites_from v 0 live.func.blocks) sites.0 sites.1)))
