use Rattle.std.proofs.Common.{◌≡◌, take, subst, rules}
use Rattle.mir_meaning.specs.Agreement.{counted_places}
use Rattle.alloc_check.specs.Asking.{counted_rows}
use Rattle.alloc_check.specs.Doubt.{IsNth, Lacking}
use Rattle.alloc_check.proofs.Lawful.{if-more}
use Rattle.alloc_check.proofs.check.lacking_place.Goals as goal

pub returns : goal.returns
returns c =
    let rows = c.args.rows.now in
    let places = counted_places c.args.t.now c.args.f.now in
    let count : c.counted_rows.result ≡ counted_rows (take c.in_ok-at.at rows) = search rules in
    if-more (IsNth places c.counted_rows.result) (Lacking c.args.t.now c.args.f.now c.args.g.now rows) c.counted_place.result
    (λ p nth. record { row = c.in_ok-at.at; at = c.in_ok-at.ensures; place = subst (λ n. IsNth places n p) count nth })
    c.counted_place.ensures
