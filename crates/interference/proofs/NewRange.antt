-- A computed table behind a new range, and behind one that was refused: it is computed still, and ranges have the extents that they had.
use Rattle.std.proofs.Common.{◌≡◌, ◌++◌, ◌∷◌, ◌∙◌, ◌<◌, ◌≤◌, ◌+◌, ℕ, zero, suc, Bool, true, false, cond, List, [], Option, Some, None, length, map, refl, sym, ap, subst, append-nil, arith}
use Rattle.std.specs.Prelude.{nat_lt, option_map, slice_get}
use Rattle.std.proofs.lemmas.Option.{slice_get-map}
use Rattle.target_base.specs.declared.types.ClassId.{ClassId}
use Rattle.target_base.specs.declared.types.Target.{Target}
use Rattle.target_base.specs.Registers.{widths_of_some}
use Rattle.mir_func.specs.Value.{Function}
use Rattle.instr_effects.specs.declared.owner.Owner.TheVariants as owners
use Rattle.instr_effects.specs.declared.row.LaneSpan.{LaneSpan}
use Rattle.instr_effects.specs.Numbered.{number_in, NumbersAll, class_counts}
use Rattle.instr_effects.specs.Numbers.{row_number_in}
use Rattle.instr_effects.specs.Row.{lane_in}
use Rattle.live_lanes.specs.declared.table.Table.{Table}
use Rattle.live_lanes.specs.Doing.{IsComputed, lane_code}
use Rattle.live_lanes.specs.Entered.{rows_seen}
use Rattle.live_lanes.specs.Further.{HasFurtherLanes}
use Rattle.live_lanes.specs.Looks.{InOrder}
use Rattle.live_lanes.specs.Table.{rises_from}
use Rattle.live_lanes.proofs.ExtentLists.{extents-rows, seen_extents}
use Rattle.live_lanes.proofs.Growth.{piece-law}
use Rattle.live_laws.specs.Effects.Coded.{KeepsRules}
use Rattle.live_laws.proofs.Exact.Inside.{all}
use Rattle.edit_laws.specs.Further.{KeepsLast, with_classes}
use Rattle.edit_laws.proofs.Further.{further-ranges-law}
use Rattle.interference.specs.Listed.{lane_extents, KeepsExtents}

-- rows of as many lanes, of which the second keeps the numbers of the first

counts-same : (s r : LaneSpan) → Some r.count ≡ Some s.count → r.count ≡ s.count
counts-same s r e = cc

same-row : (q r : Option LaneSpan) (k : ℕ) → option_map (λ x. x.count) r ≡ option_map (λ x. x.count) q → ((m : ℕ) → row_number_in q k ≡ Some m → row_number_in r k ≡ Some m) → row_number_in r k ≡ row_number_in q k
same-row None None k e h = refl
same-row None (Some s) k e h = absurd (cc)
same-row (Some s) None k e h = absurd (cc)
same-row (Some s) (Some r) k e h = go (nat_lt k s.count) refl
  where
    go : (u : Bool) → nat_lt k s.count ≡ u → lane_in r.first r.count k ≡ lane_in s.first s.count k
    go true f = let own : lane_in s.first s.count k ≡ Some (s.first + k) = ap (λ b. cond b (Some (s.first + k)) None) f in h (s.first + k) own ∙ sym own
    go false f =
        ap (λ b. cond b (Some (r.first + k)) None) (ap (nat_lt k) (counts-same s r e) ∙ f)
        ∙ sym (ap (λ b. cond b (Some (s.first + k)) None) f)

get-front : (cs more : List (Option ClassId)) (v : ℕ) → v < length cs → slice_get (cs ++ more) v ≡ slice_get cs v
get-front [] more v h = absurd (omega arith)
get-front (c ∷ cs) more zero h = refl
get-front (c ∷ cs) more (suc v) h = get-front cs more v (omega arith)

-- further lanes and classes

module _ (t : Target) (f g : Function) (more : List (Option ClassId)) (x y : Table) (numbers : NumbersAll t f x.lanes) (numbers' : NumbersAll t g y.lanes) (classes : g.classes ≡ f.classes ++ more) (further : HasFurtherLanes x y) where
  count-at : (xs : List LaneSpan) (cs : List (Option ClassId)) → map (λ s. s.count) xs ≡ class_counts t cs → (v : ℕ) → option_map (λ (s : LaneSpan). s.count) (slice_get xs v) ≡ option_map (λ c. length (widths_of_some t c)) (slice_get cs v)
  count-at xs cs e v = sym (slice_get-map (λ (s : LaneSpan). s.count) xs v) ∙ (ap (λ ns. slice_get ns v) e ∙ slice_get-map (λ c. length (widths_of_some t c)) cs v)

  number-same : (v k : ℕ) → v < length f.classes → number_in y.lanes (owners.Range v k) ≡ number_in x.lanes (owners.Range v k)
  number-same v k h =
      same-row (slice_get x.lanes.ranges.items v) (slice_get y.lanes.ranges.items v) k
      (count-at y.lanes.ranges.items g.classes numbers'.ranges v
      ∙ (ap (λ cs. option_map (λ c. length (widths_of_some t c)) (slice_get cs v)) classes
      ∙ (ap (option_map (λ c. length (widths_of_some t c))) (get-front f.classes more v h)
      ∙ sym (count-at x.lanes.ranges.items f.classes numbers.ranges v))))
      (further.numbers (owners.Range v k))

  extents-same : (q : Option ℕ) (b : ℕ) → lane_extents y q b ≡ lane_extents x q b
  extents-same None b = refl
  extents-same (Some l) b = extents-rows y l b ∙ (ap seen_extents (further.rows l b) ∙ sym (extents-rows x l b))

  pub keeps-extents : (count : ℕ) → count ≤ length f.classes → InOrder x → KeepsExtents count x y
  keeps-extents count le ordered = record {
    order = λ l b. ap (λ o. rises_from o.slots 0 (rows_seen y.rows.rows.items l b).segments) further.order ∙ (ap (λ w. rises_from x.order.slots 0 w.segments) (further.rows l b) ∙ ordered l b);
    slots = ap (λ o. o.slots) further.order;
    extents = λ v k b h. ap (λ q. lane_extents y q b) (number-same v k (omega (arith, h, le))) ∙ extents-same (number_in x.lanes (owners.Range v k)) b;
  }

-- a computed table

few-rows : (t : Target) (f : Function) (x : Table) → IsComputed t f x → KeepsRules t f → KeepsLast t f → length x.rows.rows.items < 4294967296
few-rows t f x computed rules last = (computed.table (all t f x computed rules last)).few

pub in-order : (t : Target) (f : Function) (x : Table) → IsComputed t f x → KeepsRules t f → KeepsLast t f → InOrder x
in-order t f x computed rules last = piece-law (lane_code t f (number_in x.lanes)) x.order.slots x.flow.items x.rows.rows.items (computed.table (all t f x computed rules last))

-- the table itself keeps extents
pub own-extents : (t : Target) (f : Function) (x : Table) (count : ℕ) → IsComputed t f x → KeepsRules t f → KeepsLast t f → KeepsExtents count x x
own-extents t f x count computed rules last = record { order = in-order t f x computed rules last; slots = refl; extents = λ v k b h. refl }

module _ (t t' : Target) (f g : Function) (more : List (Option ClassId)) (x y : Table) (computed : IsComputed t f x) (rules : KeepsRules t f) (last : KeepsLast t f) (target : t' ≡ t) (func : g ≡ with_classes f more) (numbers : NumbersAll t f x.lanes → NumbersAll t' g y.lanes) (further : length x.rows.rows.items < 4294967296 → HasFurtherLanes x y) where
  numbered : NumbersAll t (with_classes f more) y.lanes
  numbered = subst (λ h. NumbersAll t h y.lanes) func (subst (λ u. NumbersAll u g y.lanes) target (numbers computed.numbers))

  further-lanes : HasFurtherLanes x y
  further-lanes = further (few-rows t f x computed rules last)

  pub still-computed : IsComputed t' g y
  still-computed = subst (λ u. IsComputed u g y) (sym target) (subst (λ h. IsComputed t h y) (sym func) (further-ranges-law t f more x y computed rules last numbered further-lanes))

  pub still-extents : (count : ℕ) → count ≤ length f.classes → KeepsExtents count x y
  still-extents count le = keeps-extents t f (with_classes f more) more x y computed.numbers numbered refl further-lanes count le (in-order t f x computed rules last)

-- with no more classes it is the function
pub no-more : (f g : Function) → g ≡ f → g ≡ with_classes f []
no-more f g e = e ∙ (λ k. record f { classes = sym (append-nil f.classes) k })
