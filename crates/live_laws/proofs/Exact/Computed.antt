-- A computed table marks a lane at the start of a block exactly where it is live there.
use Rattle.std.proofs.Common.{◌≡◌, ℕ, true, false, Option, Some, None, refl, sym, ap, ◌∙◌, subst}
use Rattle.std.specs.Prelude.{◌↔◌, slice_get}
use Rattle.std.specs.Ordering.{nat_cmp}
use Rattle.std.specs.BTreeMap.{get}
use Rattle.target_base.specs.declared.types.Target.{Target}
use Rattle.meaning.specs.declared.types.Lane.{Lane}
use Rattle.meaning.specs.Code.{found}
use Rattle.meaning.specs.Live.{Live as LivePlace}
use Rattle.mir_func.specs.declared.func.Block.{Block}
use Rattle.mir_func.specs.Value.{Function}
use Rattle.mir_meaning.specs.Registers.{is_reserved}
use Rattle.mir_meaning.specs.Codes.{blocks_code}
use Rattle.mir_meaning.specs.Points.{point_item, Start, LiveAt}
use Rattle.live_laws.proofs.Places.Stands.{meets}
use Rattle.instr_effects.specs.Numbered.{number_in}
use Rattle.instr_effects.specs.Steps.{Numbering}
use Rattle.instr_effects.specs.Stepping.{tag_of}
use Rattle.live_laws.specs.Effects.Shaped.{is_proper}
use Rattle.live_laws.specs.Effects.Coded.{numbered_code, number_at, KeepsRules, IsNumbered}
use Rattle.live_laws.proofs.Effects.Blocks.{numbers-apart, found-block}
use Rattle.live_laws.proofs.Effects.Whole.{standing, code-of, points-are}
use Rattle.live_laws.proofs.Effects.Tabled.{table-law}
use Rattle.live_lanes.specs.Graph.{IsGrown, is_live}
use Rattle.live_lanes.specs.Entered.{causes}
use Rattle.live_lanes.specs.Laws.{AllMatched}
use Rattle.live_lanes.specs.Marks.{marked_at}
use Rattle.live_lanes.specs.Doing.{lane_code}
use Rattle.live_laws.specs.Exact.Same.{IsQuiet}
use Rattle.live_laws.specs.Exact.Laws.{ComputedLaw}
use Rattle.live_laws.proofs.Exact.Starts.{matched, starts}
use Rattle.live_laws.proofs.Exact.Quieter.{quiet-law}
use Rattle.live_laws.proofs.Exact.Coded.{place-is, code-same}

-- a lane that is live at the start of a block has a number
pub live-numbered : (t : Target) (f : Function) (num : Numbering) (rules : KeepsRules t f) (numbered : IsNumbered t f num) (l : Lane) (k : ℕ) (b : Block) → slice_get f.blocks k ≡ Some b → LivePlace (is_reserved t) (blocks_code (point_item t f) t f f.blocks) (found b.number (blocks_code (point_item t f) t f f.blocks)) l → (n : ℕ) × (tag_of num (is_proper t) l ≡ Some n)
live-numbered t f num rules numbered l k b e h =
    let block = found-block t f f.blocks k b e (numbers-apart f rules.blocks) in
    let at = standing t f num rules numbered k b e block.0 b.instrs (λ i m. m) in
    let z = meets (is_reserved t) (tag_of num (is_proper t)) (number_at f.blocks) (blocks_code (point_item t f) t f f.blocks) (numbered_code t f num) (code-of t f num rules numbered) (subst (λ p. LivePlace (is_reserved t) (blocks_code (point_item t f) t f f.blocks) p l) block.1 h) k _ at in
    (z.0, z.1)

pub computed-law : ComputedLaw
computed-law t f x computed rules last l still k b e = go (tag_of num (is_proper t) l) refl
  where
    num : Numbering
    num = number_in x.lanes

    numbered : IsNumbered t f num
    numbered = table-law t f x.lanes computed.numbers rules

    quiet : IsQuiet (numbered_code t f num)
    quiet = quiet-law t f num rules numbered last

    all : AllMatched (lane_code t f num)
    all = subst AllMatched (sym (code-same t f num rules)) (matched t f num rules numbered quiet)

    grown : IsGrown (numbered_code t f num) (causes x.rows.rows.items)
    grown = subst (λ code. IsGrown code (causes x.rows.rows.items)) (code-same t f num rules) (computed.grown all)

    at : get nat_cmp x.order.positions b.number ≡ Some k
    at = computed.positions b.number ∙ place-is t f num rules k b e

    go : (q : Option ℕ) → tag_of num (is_proper t) l ≡ q → (marked_at x.rows.rows.items (tag_of num (is_proper t) l) (get nat_cmp x.order.positions b.number) ≡ true) ↔ LiveAt t f (Start b.number) l
    go None h = ((λ m. absurd (let z : false ≡ true = sym (ap (λ q. marked_at x.rows.rows.items q (get nat_cmp x.order.positions b.number)) h) ∙ m in cc)), (λ m. absurd (let z = live-numbered t f num rules numbered l k b e (subst (λ p. LivePlace (is_reserved t) p (found b.number p) l) (points-are t f num rules numbered) m) in let y : None ≡ Some z.0 = sym h ∙ z.1 in cc)))
    go (Some n) h =
        let law = starts t f num rules numbered quiet (causes x.rows.rows.items) grown l n still h k b e in
        let same : marked_at x.rows.rows.items (tag_of num (is_proper t) l) (get nat_cmp x.order.positions b.number) ≡ is_live (causes x.rows.rows.items n k 0) = ap (λ q. marked_at x.rows.rows.items q (get nat_cmp x.order.positions b.number)) h ∙ ap (marked_at x.rows.rows.items (Some n)) at in
        ((λ m. law.0 (sym same ∙ m)), (λ m. same ∙ law.1 m))
