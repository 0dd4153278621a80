-- Which local split is offered.
use Rattle.std.proofs.Common.{◌≡◌, ◌∙◌, inl, inr, ℕ, suc, ◌+◌, ◌-◌, ◌<◌, ◌≤◌, List, [], ◌∷◌, Bool, true, false, cond, refl, sym, ap, subst, length, arith, map, min, Option, None, Some}
use Rattle.std.specs.Prelude.{not, ◌&&◌, find, flat_map, option_map, slice_get}
use Rattle.std.specs.List.{list_any}
use Rattle.std.proofs.lemmas.Bool.{and_from, and_left, and_right, le-leb, lt-leb, cases_lt}
use Rattle.target_base.specs.declared.types.Target.{Target}
use Rattle.target_base.specs.declared.types.Reg.{Reg}
use Rattle.mir_func.specs.Value.{Function}
use Rattle.mir_func.specs.Binding.{class_of}
use Rattle.mir_meaning.specs.Places.{domain}
use Rattle.live_lanes.specs.declared.ask.labels.Mark.{Mark}
use Rattle.live_lanes.specs.declared.table.Table.{Table}
use Rattle.split_choose.specs.declared.places.TouchedPlace.{TouchedPlace}
use Rattle.split_choose.specs.declared.runs.PlaceRun.{PlaceRun}
use Rattle.split_choose.specs.Offers.{View, Touched, touched_places, is_dividable, live_at, borders, clear_along, runs, runs_up_to, run_ends, run_marks, local_offer}
use Rattle.split_choose.specs.Places.{placed}
use Rattle.live_lanes.specs.Looks.{InOrder}
use Rattle.live_lanes.specs.Touching.{AreTouched, some_lane}
use Rattle.live_lanes.specs.Tells.{touching_ids}
use Rattle.split_choose.specs.Blocks.{lane_at_border}
use Rattle.split_choose.specs.Spanned.{AreSpansOf}
use Rattle.split_choose.specs.Seen.{FindsPlaces, FindsPoints, view_of}
use Rattle.live_lanes.specs.declared.live.LiveFunc.{LiveFunc}
use Rattle.target_base.specs.declared.types.ClassId.{ClassId}
use Rattle.split_choose.specs.declared.spans.Span.{Span}
use Rattle.interference.specs.declared.matrix.Matrix.{Matrix}
use Rattle.split_choose.specs.LongRuns.{IsLocal, IsBest, IsBestRun, is_near, near_in, registers_of, found_run}
use Rattle.split_choose.proofs.Bordering.{borders-by-lanes}
use Rattle.split_choose.proofs.Split.{as-many}
use Rattle.split_choose.proofs.Sought.{IsSought, best-sought, none-sought, get-some}
use Rattle.split_choose.proofs.Nearby.{runs-told, near-is}

module _ (t : Target) (f : Function) (v : ℕ) (view : View) (ps : List TouchedPlace) (same : ps ≡ map (placed f.blocks) (touched_places t f v view)) where
  pub too-few-places : length ps < 3 → None ≡ local_offer t f v view
  too-few-places h = elim (cases_lt (length (touched_places t f v view)) 2) [
    | inl few ↦ sym (ap (λ b. cond b (found_run t f v view) None) (and_left (is_dividable t f v view) (not (list_any (live_at t f v view) (borders t f v view))) (lt-leb 2 (length (touched_places t f v view)) few)))
    | inr two ↦
        (let m = as-many t f v view ps same in
        let one : length (touched_places t f v view) - 1 ≡ 1 = omega arith in
        let R : ℕ → Option (Reg × List Mark) = λ n. option_map (λ r. (r.1, run_marks t f v view r.0)) (find (clear_along t f v view) (flat_map (λ r. map (λ p. (r, p)) (domain t (class_of f v))) (flat_map (run_ends t f v view) (runs_up_to t f v view n (touched_places t f v view))))) in
        let none : found_run t f v view ≡ None = ap R one in
        sym (ap (λ o. cond (is_dividable t f v view && not (list_any (live_at t f v view) (borders t f v view))) o None) none ∙ either (is_dividable t f v view && not (list_any (live_at t f v view) (borders t f v view)))))
  ]
    where
      either : (b : Bool) → ◌≡◌ {A = Option (Reg × List Mark)} (cond b None None) None
      either true = refl
      either false = refl

  pub lives-at-border : list_any (live_at t f v view) (borders t f v view) ≡ true → None ≡ local_offer t f v view
  lives-at-border h =
      sym (ap (λ b. cond b (found_run t f v view) None) (and_right (is_dividable t f v view) (not (list_any (live_at t f v view) (borders t f v view))) (ap not h)))

  pub run-offered : (q : Option (Reg × List Mark)) → 3 ≤ length ps → list_any (live_at t f v view) (borders t f v view) ≡ false → q ≡ found_run t f v view → q ≡ local_offer t f v view
  run-offered q h live e =
      let m = as-many t f v view ps same in
      let many : is_dividable t f v view ≡ true = le-leb 2 (length (touched_places t f v view)) (omega arith) in
      e ∙ sym (ap (λ b. cond b (found_run t f v view) None) (and_from (is_dividable t f v view) (not (list_any (live_at t f v view) (borders t f v view))) many (ap not live)))

  module _ (x : Table) (finds : FindsPlaces t f x v) where
    pub no-run-found : IsBestRun (is_near t f v view) (length ps) (domain t (class_of f v)) (length (domain t (class_of f v))) None → None ≡ found_run t f v view
    no-run-found h =
        let N : ℕ → Type 0 = λ n. IsBestRun (is_near t f v view) n (domain t (class_of f v)) (length (domain t (class_of f v))) None in
        let none = none-sought t f v view (domain t (class_of f v)) (clear_along t f v view) (touched_places t f v view) (is_near t f v view) (runs-told t f x v view finds (domain t (class_of f v))) (subst N (as-many t f v view ps same) h) in
        sym (ap (option_map (λ r. (r.1, run_marks t f v view r.0))) none)

    pub run-found : (b : PlaceRun) (sum last : ℕ) (labels : List Mark) → IsBest (is_near t f v view) (length ps) (domain t (class_of f v)) (length (domain t (class_of f v))) b → length ps < 18446744073709551616
        → sum ≡ min (b.first + b.len) 18446744073709551615 → last ≡ sum - 1
        → ((p q : Touched) → slice_get (touched_places t f v view) b.first ≡ Some p → slice_get (touched_places t f v view) last ≡ Some q → labels ≡ run_marks t f v view (p, q))
        → Some (b.register, labels) ≡ found_run t f v view
    run-found b sum last labels h fits one two marks =
        let N : ℕ → Type 0 = λ n. IsBest (is_near t f v view) n (domain t (class_of f v)) (length (domain t (class_of f v))) b in
        let s = best-sought t f v view (domain t (class_of f v)) (clear_along t f v view) (touched_places t f v view) (is_near t f v view) b (runs-told t f x v view finds (domain t (class_of f v))) (subst N (as-many t f v view ps same) h) in
        let inside = h.within.inside in
        let at : last ≡ b.first + b.len - 1 = omega arith in
        let made = marks s.first s.last s.begins (ap (slice_get (touched_places t f v view)) at ∙ s.ends) in
        ap (λ ls. Some (b.register, ls)) made ∙ sym (ap (option_map (λ r. (r.1, run_marks t f v view r.0))) s.found)

-- what is asked of two neighbours
pub near-told : (m : Matrix) (v : ℕ) (parents freqs : List ℕ) (places : List TouchedPlace) (spans : List Span) (r : Reg) (k : ℕ) (free : Bool) → IsLocal m v parents freqs places spans → 1 ≤ k → k < length places
    → ((p q : Touched) → slice_get (touched_places m.live.target m.live.func v (view_of m v parents)) (k - 1) ≡ Some p → slice_get (touched_places m.live.target m.live.func v (view_of m v parents)) k ≡ Some q → k ≡ k - 1 + 1
    → free ≡ clear_along m.live.target m.live.func v (view_of m v parents) ((p, q), r))
    → near_in m v parents r (k - 1) ≡ free
near-told m v parents freqs places spans r k free loc some less told =
    let many = as-many m.live.target m.live.func v (view_of m v parents) places loc.same in
    let p = get-some (touched_places m.live.target m.live.func v (view_of m v parents)) (k - 1) (omega arith) in
    let q = get-some (touched_places m.live.target m.live.func v (view_of m v parents)) k (omega arith) in
    let next : k ≡ k - 1 + 1 = omega arith in
    near-is m.live.target m.live.func m.live.table v (view_of m v parents) loc.finds (k - 1) p.0 q.0 r p.1 (ap (slice_get (touched_places m.live.target m.live.func v (view_of m v parents))) (sym next) ∙ q.1)
    ∙ sym (told p.0 q.0 p.1 q.1 next)

-- from what the parts of the search answer

module _ (m : Matrix) (v : ℕ) (parents freqs : List ℕ) (places : List TouchedPlace) (spans : List Span) (loc : IsLocal m v parents freqs places spans) (best : Option PlaceRun)
    (h : IsBestRun (near_in m v parents) (length places) (registers_of m v) (length (registers_of m v)) best) where
  pub split-none : best ≡ None → None ≡ found_run m.live.target m.live.func v (view_of m v parents)
  split-none e =
      let B : Option PlaceRun → Type 0 = λ o. IsBestRun (near_in m v parents) (length places) (registers_of m v) (length (registers_of m v)) o in
      no-run-found m.live.target m.live.func v (view_of m v parents) places loc.same m.live.table loc.finds (subst B e h)

  pub split-found : (l : LiveFunc) (b : PlaceRun) (sum last : ℕ) (labels : List Mark) → l ≡ m.live → best ≡ Some b → length places < 18446744073709551616 → sum ≡ min (b.first + b.len) 18446744073709551615 → last ≡ sum - 1
      → ((w : ℕ) (view : View) (p q : Touched) → FindsPlaces l.target l.func l.table w → places ≡ map (placed l.func.blocks) (touched_places l.target l.func w view)
      → slice_get (touched_places l.target l.func w view) b.first ≡ Some p → slice_get (touched_places l.target l.func w view) last ≡ Some q → labels ≡ run_marks l.target l.func w view (p, q))
      → Some (b.register, labels) ≡ found_run m.live.target m.live.func v (view_of m v parents)
  split-found l b sum last labels same e fits one two marks =
      let B : Option PlaceRun → Type 0 = λ o. IsBestRun (near_in m v parents) (length places) (registers_of m v) (length (registers_of m v)) o in
      let L : LiveFunc → Type 0 = λ n. (w : ℕ) (view : View) (p q : Touched) → FindsPlaces n.target n.func n.table w → places ≡ map (placed n.func.blocks) (touched_places n.target n.func w view)
      → slice_get (touched_places n.target n.func w view) b.first ≡ Some p → slice_get (touched_places n.target n.func w view) last ≡ Some q → labels ≡ run_marks n.target n.func w view (p, q) in
      let told = subst L same marks in
      run-found m.live.target m.live.func v (view_of m v parents) places loc.same m.live.table loc.finds b sum last labels (subst B e h) fits one two (λ p q. told v (view_of m v parents) p q loc.finds loc.same)

-- the registers are those of the range's class
pub registers-are : (near : Reg → ℕ → Bool) (count : ℕ) (rs ds : List Reg) (best : Option PlaceRun) → rs ≡ ds → IsBestRun near count rs (length rs) best → IsBestRun near count ds (length ds) best
registers-are near count rs ds best e h = let R : List Reg → Type 0 = λ ys. IsBestRun near count ys (length ys) best in subst R e h

pub domain-is : (m : Matrix) (v : ℕ) (l : LiveFunc) (t : Target) (class : Option ClassId) (rs ds : List Reg) → l ≡ m.live → t ≡ l.target → class ≡ class_of l.func v → ds ≡ domain t class → rs ≡ ds → rs ≡ registers_of m v
domain-is m v l t class rs ds live target at is same =
    same ∙ (is ∙ (ap (λ u. domain u class) (target ∙ ap (λ (k : LiveFunc). k.target) live) ∙ ap (domain m.live.target) (at ∙ ap (λ (k : LiveFunc). class_of k.func v) live)))

-- what local asks first, of the function that the matrix has

module _ (m : Matrix) (v : ℕ) (parents : List ℕ) (finds : FindsPlaces m.live.target m.live.func m.live.table v) (l : LiveFunc) (live : l ≡ m.live) where
  finds-at : FindsPlaces l.target l.func l.table v
  finds-at = let P : LiveFunc → Type 0 = λ k. FindsPlaces k.target k.func k.table v in subst P (sym live) finds

  pub ids-are : (ids given : List ℕ) → AreTouched l.table v ids → given ≡ ids → given ≡ touching_ids l.func v
  ids-are ids given t is = is ∙ finds-at.touched ids t

  pub places-at : (ids given : List ℕ) (places : List TouchedPlace) → AreTouched l.table v ids → given ≡ ids
      → ((w : ℕ) (view : View) → FindsPlaces l.target l.func l.table w → given ≡ touching_ids l.func w → places ≡ map (placed l.func.blocks) (touched_places l.target l.func w view))
      → places ≡ map (placed m.live.func.blocks) (touched_places m.live.target m.live.func v (view_of m v parents))
  places-at ids given places t is told =
      let P : LiveFunc → Type 0 = λ k. places ≡ map (placed k.func.blocks) (touched_places k.target k.func v (view_of m v parents)) in
      subst P live (told v (view_of m v parents) finds-at (ids-are ids given t is))

  pub border-at : (b : Bool) → (InOrder l.table → b ≡ some_lane l.table v (lane_at_border l.table l.func.blocks v)) → list_any (live_at m.live.target m.live.func v (view_of m v parents)) (borders m.live.target m.live.func v (view_of m v parents)) ≡ b
  border-at b told =
      let P : LiveFunc → Type 0 = λ k. b ≡ some_lane k.table v (lane_at_border k.table k.func.blocks v) in
      sym (borders-by-lanes m.live.target m.live.func m.live.table v (view_of m v parents) finds (λ p. refl)) ∙ sym (subst P live (told finds-at.order))

  pub local-at : (points : FindsPoints m) (freqs ids given again : List ℕ) (places seen : List TouchedPlace) (spans spread : List Span) (b : Bool) → AreTouched l.table v ids → given ≡ ids → again ≡ ids
      → ((w : ℕ) (view : View) → FindsPlaces l.target l.func l.table w → given ≡ touching_ids l.func w → places ≡ map (placed l.func.blocks) (touched_places l.target l.func w view))
      → seen ≡ places → (InOrder l.table → b ≡ some_lane l.table v (lane_at_border l.table l.func.blocks v)) → b ≡ false
      → ((n : Matrix) → n.live ≡ l → FindsPlaces l.target l.func l.table v → FindsPoints n → again ≡ touching_ids l.func v → AreSpansOf n v freqs spans) → spread ≡ spans
      → IsLocal m v parents freqs seen spread
  local-at points freqs ids given again places seen spans spread b t is anew told same bordered fails spanned spreads = record {
    finds = finds;
    points = points;
    touched = (let P : LiveFunc → Type 0 = λ k. AreTouched k.table v (touching_ids k.func v) in let A : List ℕ → Type 0 = λ ns. AreTouched l.table v ns in subst P live (subst A (finds-at.touched ids t) t));
    inside = border-at b bordered ∙ fails;
    spanned = (let A : List Span → Type 0 = λ ss. AreSpansOf m v freqs ss in subst A (sym spreads) (spanned m (sym live) finds-at points (ids-are ids again t anew)));
    same = same ∙ places-at ids given places t is told;
  }
