-- A lane enters a block exactly where it is live at the block's start.
use Rattle.std.proofs.Common.{◌≡◌, ◌∙◌, ℕ, Option, Some, None, refl, sym, ap, subst}
use Rattle.std.specs.Ordering.{nat_cmp}
use Rattle.std.specs.BTreeMap.{get}
use Rattle.instr_effects.specs.Numbered.{number_in}
use Rattle.instr_effects.specs.Steps.{Numbering}
use Rattle.instr_effects.specs.Stepping.{tag_of}
use Rattle.live_lanes.specs.Doing.{lane_code}
use Rattle.live_lanes.specs.Laws.{AllMatched}
use Rattle.live_lanes.specs.Marks.{marked_at}
use Rattle.live_laws.specs.Effects.Coded.{numbered_code, IsNumbered}
use Rattle.live_laws.specs.Effects.Shaped.{is_proper}
use Rattle.live_laws.specs.Exact.Same.{IsQuiet}
use Rattle.live_laws.proofs.Effects.Tabled.{table-law}
use Rattle.live_laws.proofs.Exact.Coded.{place-is, code-same}
use Rattle.live_laws.proofs.Exact.Computed.{computed-law}
use Rattle.live_laws.proofs.Exact.Quieter.{quiet-law}
use Rattle.live_laws.proofs.Exact.Starts.{matched}
use Rattle.rewriter.specs.LiveUnits.{some_enters}
use Rattle.rewriter.specs.Laws.{StartsLaw}
use Rattle.rewriter.proofs.Entered.{enters-law}

pub starts-law : StartsLaw
starts-law t f x computed keeps l still k b e =
    let law = computed-law t f x computed keeps.rules keeps.last l still k b e in
    let s = same (tag_of num (is_proper t) l) in
    ((λ h. law.0 (sym s ∙ h)), (λ h. s ∙ law.1 h))
  where
    num : Numbering
    num = number_in x.lanes

    numbered : IsNumbered t f num
    numbered = table-law t f x.lanes computed.numbers keeps.rules

    quiet : IsQuiet (numbered_code t f num)
    quiet = quiet-law t f num keeps.rules numbered keeps.last

    all : AllMatched (lane_code t f num)
    all = subst AllMatched (sym (code-same t f num keeps.rules)) (matched t f num keeps.rules numbered quiet)

    at : get nat_cmp x.order.positions b.number ≡ Some k
    at = computed.positions b.number ∙ place-is t f num keeps.rules k b e

    same : (q : Option ℕ) → some_enters x q k ≡ marked_at x.rows.rows.items q (get nat_cmp x.order.positions b.number)
    same None = refl
    same (Some n) = enters-law t f x computed all n k ∙ ap (marked_at x.rows.rows.items (Some n)) (sym at)
