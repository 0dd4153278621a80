-- What stays where the instructions that extents name keep their numbers.
use Rattle.std.proofs.Common.{◌≡◌, ◌∙◌, ◌<◌, ◌≤◌, ◌⊎◌, inl, inr, ℕ, zero, suc, ◌+◌, ◌*◌, length, Bool, true, cond, List, [], ◌∷◌, Option, None, Some, max, refl, sym, ap, subst, arith}
use Rattle.std.specs.Prelude.{nat_eq, nat_lt, option_map, slice_get}
use Rattle.std.proofs.lemmas.Bool.{cases_lt, ltb-true}
use Rattle.target_base.specs.declared.types.Reg.{Reg}
use Rattle.target_base.specs.declared.types.Target.{Target}
use Rattle.target_base.specs.declared.types.Unit.{Unit as UnitNumber}
use Rattle.target_base.specs.Registers.{units_of}
use Rattle.mir_meaning.specs.Paths.{Among, here, there}
use Rattle.slot_index.specs.Order.{Has, IsNumbered, ids, number_of, place}
use Rattle.slot_index.proofs.Present.{has_from_number}
use Rattle.instr_effects.specs.Numbers.{row_number_in}
use Rattle.instr_effects.specs.declared.lanes.LaneTable.{LaneTable}
use Rattle.live_lanes.specs.declared.ask.extent.Extent.{Extent}
use Rattle.live_lanes.specs.declared.row.PieceEnd.{PieceEnd}
use Rattle.live_lanes.specs.declared.row.PieceEnd.TheVariants as ends
use Rattle.live_lanes.specs.declared.table.Table.{Table}
use Rattle.live_lanes.specs.Table.{Begun, Numbers, end_rank, entry_rank, exit_rank, rises_from}
use Rattle.live_lanes.specs.Extents.{first_rank, last_rank}
use Rattle.live_lanes.proofs.Cells.{both, both-left, both-right}
use Rattle.interference.specs.declared.held.RangeExtent.{RangeExtent}
use Rattle.interference.specs.Clashes.{AreApart}
use Rattle.interference.specs.EditedLists.{AreInRow, AreSeparate, ComesBehind, HasEnds, LieApart, Whole, end_instr}
use Rattle.interference.specs.HeldLanes.{lane_by, lane_in}
use Rattle.interference.specs.Listed.{extents_by, lane_extents}
use Rattle.interference.proofs.HeldLanes.{lane-parts}
use Rattle.interference.proofs.Assigned.{register-past}
use Rattle.interference.proofs.Starts.{lane-alone, units-distinct, units-known}
use Rattle.interference.proofs.PutBack.{some-of}
use Rattle.live_edits.specs.Drafts.{KeepsOrder}
use Rattle.slot_index.proofs.Ordered.{numbers_tell_order}
use Rattle.interference.specs.Clashes.{register_in}
use Rattle.std.specs.List.{list_all}

-- the first and the last point by what begins an extent
abbrev first_by : Numbers → Bool → Option ℕ → ℕ
first_by slots early s = elim s [ None ↦ 0 | Some id ↦ cond early (entry_rank slots id) (exit_rank slots id) ]

abbrev last_by : Numbers → PieceEnd → Option ℕ → ℕ
last_by slots end s = elim s [ None ↦ end_rank slots end | Some id ↦ max (end_rank slots end) (exit_rank slots id) ]

module _ (x y : Numbers) (same : (id : ℕ) → Has x id → number_of y id ≡ number_of x id) where
  -- numbers that rise still do
  pub rises-same : (n k : ℕ) (ss : List Begun) → k ≡ n → rises_from x n ss ≡ true → rises_from y k ss ≡ true
  rises-same n k [] e r = refl
  rises-same n k (s ∷ ss) e r =
      let low : nat_lt n (number_of x s.start) ≡ true = both-left (nat_lt n (number_of x s.start)) (rises_from x (number_of x s.start) ss) r in
      let above : n < number_of x s.start = ltb-true n (number_of x s.start) low in
      let number : number_of y s.start ≡ number_of x s.start = same s.start (has_from_number x s.start (omega arith)) in
      both (nat_lt k (number_of y s.start)) (rises_from y (number_of y s.start) ss) ((λ i. nat_lt (e i) (number i)) ∙ low)
      (rises-same (number_of x s.start) (number_of y s.start) ss number (both-right (nat_lt n (number_of x s.start)) (rises_from x (number_of x s.start) ss) r))

  first-same : (e : Extent) → HasEnds x e → first_rank y e ≡ first_rank x e
  first-same e h = go e.start h.first
    where
      go : (s : Option ℕ) → ((id : ℕ) → s ≡ Some id → Has x id) → first_by y e.early s ≡ first_by x e.early s
      go None own = refl
      go (Some id) own = let z = same id (own id refl) in λ i. cond e.early (z i * 2) (z i * 2 + 1)

  end-same : (e : PieceEnd) → ((id : ℕ) → end_instr e ≡ Some id → Has x id) → end_rank y e ≡ end_rank x e
  end-same ends.Never own = refl
  end-same (ends.Entry id) own = ap (λ n. n * 2) (same id (own id refl))
  end-same (ends.Exit id) own = ap (λ n. n * 2 + 1) (same id (own id refl))
  end-same ends.Last own = refl

  last-same : (e : Extent) → HasEnds x e → last_rank y e ≡ last_rank x e
  last-same e h = go e.start h.first
    where
      end : end_rank y e.end ≡ end_rank x e.end
      end = end-same e.end h.last

      go : (s : Option ℕ) → ((id : ℕ) → s ≡ Some id → Has x id) → last_by y e.end s ≡ last_by x e.end s
      go None own = end
      go (Some id) own = let z = same id (own id refl) in λ i. max (end i) (z i * 2 + 1)

  behind-same : (e f : Extent) → HasEnds x e → HasEnds x f → ComesBehind x e f → ComesBehind y e f
  behind-same e f he hf c =
      let a = first-same e he in let b = first-same f hf in let d = last-same e he in
      record { later = let z = c.later in omega arith; behind = let z = c.behind in omega arith; starts = c.starts }

  row-same : (es : List Extent) → ((e : Extent) → Among e es → HasEnds x e) → AreInRow x es → AreInRow y es
  row-same [] all row = tt
  row-same (e ∷ es) all row = (λ f m. behind-same e f (all e here) (all f (there m)) (row.0 f m), row-same es (λ f m. all f (there m)) row.1)

  lie-same : (e f : Extent) → HasEnds x e → HasEnds x f → LieApart x e f → LieApart y e f
  lie-same e f he hf (inl z) = inl (let a = last-same e he in let b = first-same f hf in omega arith)
  lie-same e f he hf (inr z) = inr (let a = last-same f hf in let b = first-same e he in omega arith)

  -- ranges that don't clash still don't
  pub separate-same : (whole : Whole) → ((v : ℕ) (e : Extent) → Among e (whole v) → HasEnds x e) → AreSeparate x whole → AreSeparate y whole
  separate-same whole all sep = record {
    rows = λ v. row-same (whole v) (all v) (sep.rows v);
    clear = λ v w ne e f m k. lie-same e f (all v e m) (all w f k) (sep.clear v w ne e f m k);
  }

  -- a list in order by the new numbers is so by the old ones
  pub apart-back : (n k : ℕ) (hs : List RangeExtent) → n ≡ k → ((h : RangeExtent) → Among h hs → HasEnds x h.extent) → AreApart y n hs → AreApart x k hs
  apart-back n k [] e all a = tt
  apart-back n k (h ∷ hs) e all a =
      let f = first-same h.extent (all h here) in
      let low = a.0 in
      (omega arith, apart-back (last_rank y h.extent) (last_rank x h.extent) hs (last-same h.extent (all h here)) (λ g m. all g (there m)) a.1)

-- what a range has of a unit by its register is what one lane has
pub whole-is : (t : Target) (x : Table) (v : ℕ) (r : Option Reg) (u b : ℕ) → extents_by t x v r u b ≡ lane_extents x (lane_by t x.lanes v r u) b
whole-is t x v None u b = refl
whole-is t x v (Some p) u b = lane-alone x v 0 (units_of t p) u b (units-distinct t p)

-- that lane goes by the rows of ranges alone
lane-in-same : (ls ms : LaneTable) → ms.ranges ≡ ls.ranges → (v k : ℕ) (us : List UnitNumber) (u : ℕ) → lane_in ms v k us u ≡ lane_in ls v k us u
lane-in-same ls ms e v k [] u = refl
lane-in-same ls ms e v k (w ∷ us) u = λ i. cond (nat_eq w.0 u) (row_number_in (slice_get (e i).items v) k) (lane-in-same ls ms e v (suc k) us u i)

pub lane-by-same : (s t : Target) (ls ms : LaneTable) → t ≡ s → ms.ranges ≡ ls.ranges → (v : ℕ) (r : Option Reg) (u : ℕ) → lane_by t ms v r u ≡ lane_by s ls v r u
lane-by-same s t ls ms e f v None u = refl
lane-by-same s t ls ms e f v (Some p) u = ap (λ q. lane_in ms v 0 (units_of q p) u) e ∙ lane-in-same ls ms f v 0 (units_of s p) u

-- a range with a lane for a unit has a register, and the target has the unit
known-at : (n j u : ℕ) (us : List UnitNumber) → list_all (λ w. nat_lt w.0 n) us ≡ true → option_map (λ (w : UnitNumber). w.0) (slice_get us j) ≡ Some u → u < n
known-at n j u [] all e = absurd (cc)
known-at n zero u (w ∷ us) all e = subst (λ k. k < n) (some-of e) (ltb-true w.0 n (both-left (nat_lt w.0 n) (list_all (λ w. nat_lt w.0 n) us) all))
known-at n (suc j) u (w ∷ us) all e = known-at n j u us (both-right (nat_lt w.0 n) (list_all (λ w. nat_lt w.0 n) us) all) e

pub unit-known : (t : Target) (ls : LaneTable) (v : ℕ) (r : Option Reg) (u l : ℕ) → lane_by t ls v r u ≡ Some l → u < length t.units
unit-known t ls v None u l e = absurd (cc)
unit-known t ls v (Some p) u l e = let z = lane-parts ls v 0 (units_of t p) u l e in known-at (length t.units) z.0 u (units_of t p) (units-known t p) z.2

pub range-known : (t : Target) (ls : LaneTable) (v : ℕ) (rs : List (Option Reg)) (u l : ℕ) → lane_by t ls v (register_in rs v) u ≡ Some l → v < length rs
range-known t ls v rs u l e = go (cases_lt v (length rs))
  where
    go : (v < length rs) ⊎ (length rs ≤ v) → v < length rs
    go (inl lt) = lt
    go (inr le) = absurd (let z : None ≡ Some l = sym (ap (λ r. lane_by t ls v r u) (register-past rs v le)) ∙ e in cc)

-- orders of the same ids
pub order-kept : (x y : Numbers) → ids y ≡ ids x → IsNumbered x → IsNumbered y → KeepsOrder x y
order-kept x y same nx ny = record {
  stays = λ id h. has id h;
  before = λ a b ha hb lt. (numbers_tell_order y ny.rising a b (has a ha) (has b hb)).1 (subst (λ xs. place a xs < place b xs) (sym same) ((numbers_tell_order x nx.rising a b ha hb).0 lt));
  not_behind = λ a b ha hb le. go a b ha hb le (cases_lt (number_of y b) (number_of y a));
}
  where
    has : (id : ℕ) → Has x id → Has y id
    has id h = subst (λ xs. place id xs < length xs) (sym same) h

    go : (a b : ℕ) → Has x a → Has x b → number_of x a ≤ number_of x b → (number_of y b < number_of y a) ⊎ (number_of y a ≤ number_of y b) → number_of y a ≤ number_of y b
    go a b ha hb le (inr z) = z
    go a b ha hb le (inl z) = absurd (let w = (numbers_tell_order x nx.rising b a hb ha).1 (subst (λ xs. place b xs < place a xs) same ((numbers_tell_order y ny.rising b a (has b hb) (has a ha)).0 z)) in omega arith)
