-- Tables of lists into which a range is put, lane by lane.
use Rattle.std.proofs.Common.{◌≡◌, ◌<◌, ◌≤◌, ◌+◌, ℕ, zero, suc, Bool, true, false, cond, not, length, take, get_or, map, List, [], ◌∷◌, ◌++◌, Option, None, Some, refl, sym, ap, ◌∙◌, subst, arith, append_assoc, eq-eqb}
use Rattle.std.specs.Prelude.{◌||◌, ◌==◌, nat_eq}
use Rattle.std.specs.List.{list_any}
use Rattle.std.proofs.lemmas.List.{take_more, take_all, length-take-le, get_or_default}
use Rattle.std.proofs.lemmas.List.Folds.{list_any-append}
use Rattle.target_base.specs.declared.types.Unit.{Unit as UnitNumber}
use Rattle.target_base.specs.Names.{are_distinct_numbers, is_distinct}
use Rattle.instr_effects.specs.Numbered.{number_in}
use Rattle.instr_effects.specs.declared.owner.Owner.TheVariants as owners
use Rattle.live_lanes.specs.declared.ask.extent.Extent.{Extent}
use Rattle.live_lanes.specs.declared.table.Table.{Table}
use Rattle.live_lanes.specs.Table.{Numbers}
use Rattle.live_lanes.specs.Extents.{stretch_of}
use Rattle.live_lanes.proofs.Cells.{both-left, both-right}
use Rattle.interference.specs.declared.unit_table.UnitTable.{UnitTable}
use Rattle.interference.specs.Clashes.{is_taken}
use Rattle.interference.specs.Changes.{own_of}
use Rattle.interference.specs.Listed.{lane_extents, range_extents, listed, AreInTurn, has_some, IsFront, LaneHasRoom, RangeHasRoom, with_lane, Begins, Fills}
use Rattle.interference.proofs.Owned.{taken-others}
use Rattle.interference.proofs.Lots.{range-more}

any-left : (a b : Bool) → (a || b) ≡ false → a ≡ false
any-left true b e = e
any-left false b e = refl

any-right : (a b : Bool) → (a || b) ≡ false → b ≡ false
any-right true b e = absurd (cc)
any-right false b e = e

not-true : (b : Bool) → not b ≡ true → b ≡ false
not-true true e = absurd (cc)
not-true false e = refl

front-both : (es fs gs : List Extent) → IsFront es fs → IsFront fs gs → IsFront es gs
front-both es fs gs (r, e) (s, f) = (r ++ s, f ∙ ap (λ xs. xs ++ s) e ∙ append_assoc es r s)

module _ (x : Table) (v : ℕ) where
  abbrev slots : Numbers
  slots = x.order.slots

  -- a lane's extents stand among those of its range
  range-split : (us : List UnitNumber) (j k : ℕ) (w : UnitNumber) (b : ℕ) → k < length us → w ≡ get_or us k w → (front : List Extent) × (rest : List Extent) × (range_extents x v j us w.0 b ≡ front ++ (lane_extents x (number_in x.lanes (owners.Range v (j + k))) b ++ rest))
  range-split [] j k w b h e = absurd (omega arith)
  range-split (y ∷ us) j zero w b h e =
      let same : nat_eq y.0 w.0 ≡ true = eq-eqb y.0 w.0 (ap (λ z. z.0) (sym e)) in
      let at : j ≡ j + 0 = omega arith in (
        [],
        range_extents x v (suc j) us w.0 b,
        ap (λ t. cond t (lane_extents x (number_in x.lanes (owners.Range v j)) b) [] ++ range_extents x v (suc j) us w.0 b) same
            ∙ ap (λ i. lane_extents x (number_in x.lanes (owners.Range v i)) b ++ range_extents x v (suc j) us w.0 b) at,
      )
  range-split (y ∷ us) j (suc k) w b h e =
      let z = range-split us (suc j) k w b (omega arith) e in
      let at : suc j + k ≡ j + suc k = omega arith in
      let here : List Extent = cond (nat_eq y.0 w.0) (lane_extents x (number_in x.lanes (owners.Range v j)) b) [] in (
        here ++ z.0,
        z.1,
        ap (λ es. here ++ es) (z.2 ∙ ap (λ i. z.0 ++ (lane_extents x (number_in x.lanes (owners.Range v i)) b ++ z.1)) at)
            ∙ sym (append_assoc here z.0 (lane_extents x (number_in x.lanes (owners.Range v (j + suc k))) b ++ z.1)),
      )

  some-right : (es fs : List Extent) → has_some fs ≡ true → has_some (es ++ fs) ≡ true
  some-right [] fs e = e
  some-right (y ∷ es) fs e = refl

  some-left : (es fs : List Extent) → has_some es ≡ true → has_some (es ++ fs) ≡ true
  some-left [] fs e = absurd (cc)
  some-left (y ∷ es) fs e = refl

  any-middle : (p : Extent → Bool) (es fs gs : List Extent) → list_any p (es ++ (fs ++ gs)) ≡ false → list_any p fs ≡ false
  any-middle p es fs gs e =
      any-left (list_any p fs) (list_any p gs) (sym (list_any-append p fs gs) ∙ any-right (list_any p es) (list_any p (fs ++ gs)) (sym (list_any-append p es (fs ++ gs)) ∙ e))

  -- units of which no two are the same: those before one are others
  others-before : (us : List UnitNumber) (j k : ℕ) (w : UnitNumber) (b : ℕ) → k < length us → w ≡ get_or us k w → are_distinct_numbers (map (λ y. y.0) us) ≡ true → range_extents x v j (take k us) w.0 b ≡ []
  others-before us j zero w b h e d = refl
  others-before [] j (suc k) w b h e d = absurd (omega arith)
  others-before (y ∷ us) j (suc k) w b h e d =
      let off = differs us k y w (omega arith) e (not-true (list_any (λ n. y.0 == n) (map (λ z. z.0) us)) (both-left (not (list_any (λ n. y.0 == n) (map (λ z. z.0) us))) (is_distinct (λ m n. m == n) (map (λ z. z.0) us)) d)) in
      ap (λ t. cond t (lane_extents x (number_in x.lanes (owners.Range v j)) b) [] ++ range_extents x v (suc j) (take k us) w.0 b) off
      ∙ others-before us (suc j) k w b (omega arith) e (both-right (not (list_any (λ n. y.0 == n) (map (λ z. z.0) us))) (is_distinct (λ m n. m == n) (map (λ z. z.0) us)) d)
    where
      differs : (ws : List UnitNumber) (i : ℕ) (a c : UnitNumber) → i < length ws → c ≡ get_or ws i c → list_any (λ n. a.0 == n) (map (λ z. z.0) ws) ≡ false → nat_eq a.0 c.0 ≡ false
      differs [] i a c l f g = absurd (omega arith)
      differs (z ∷ ws) zero a c l f g = ap (λ q. nat_eq a.0 q) (ap (λ q. q.0) f) ∙ any-left (a.0 == z.0) (list_any (λ n. a.0 == n) (map (λ q. q.0) ws)) g
      differs (z ∷ ws) (suc i) a c l f g = differs ws i a c (omega arith) f (any-right (a.0 == z.0) (list_any (λ n. a.0 == n) (map (λ q. q.0) ws)) g)

  module _ (us : List UnitNumber) (old cur : UnitTable) (k : ℕ) (w : UnitNumber) (lane : Option ℕ) (h : k < length us) (at : w ≡ get_or us k w) (is : lane ≡ number_in x.lanes (owners.Range v k)) (room : RangeHasRoom x v us old) (so : Fills slots v (range_extents x v 0 (take k us)) old cur) where
    zero-on : 0 + k ≡ k
    zero-on = omega arith

    split : (b : ℕ) → (front : List Extent) × (rest : List Extent) × (range_extents x v 0 us w.0 b ≡ front ++ (lane_extents x lane b ++ rest))
    split b = let z = range-split us 0 k w b h at in (z.0, z.1, z.2 ∙ ap (λ i. z.0 ++ (lane_extents x (number_in x.lanes (owners.Range v i)) b ++ z.1)) zero-on ∙ ap (λ q. z.0 ++ (lane_extents x q b ++ z.1)) (sym is))

    -- the lists have room for the next lane
    pub lane-room : LaneHasRoom x v w.0 lane cur
    lane-room = record {
      sorted = so.sorted;
      none = λ b. so.own w.0 b ∙ others-before us 0 k w b h at room.distinct;
      turns = λ b. turns b lane;
      there = λ b some. let z = split b in so.others.there w.0 b ∙ room.there w.0 b (ap has_some z.2 ∙ some-right z.0 (lane_extents x lane b ++ z.1) (some-left (lane_extents x lane b) z.1 some));
      clear = λ b. let z = split b in
          any-same (lane_extents x lane b) (λ e. is_taken slots (listed cur w.0 b) v (stretch_of slots e)) (λ e. is_taken slots (listed old w.0 b) v (stretch_of slots e)) (λ e. taken-same e b)
          ∙ any-middle (λ e. is_taken slots (listed old w.0 b) v (stretch_of slots e)) z.0 (lane_extents x lane b) z.1 (sym (ap (list_any (λ e. is_taken slots (listed old w.0 b) v (stretch_of slots e))) z.2) ∙ room.clear w.0 b);
    }
      where
        turns : (b : ℕ) (q : Option ℕ) → AreInTurn slots 0 (lane_extents x q b)
        turns b None = tt
        turns b (Some l) = room.turns l b

        any-same : (es : List Extent) (p q : Extent → Bool) → ((y : Extent) → p y ≡ q y) → list_any p es ≡ list_any q es
        any-same [] p q f = refl
        any-same (y ∷ es) p q f = ap (λ b. b || list_any p es) (f y) ∙ ap (λ b. q y || b) (any-same es p q f)

        taken-same : (e : Extent) (b : ℕ) → is_taken slots (listed cur w.0 b) v (stretch_of slots e) ≡ is_taken slots (listed old w.0 b) v (stretch_of slots e)
        taken-same e b =
            sym (taken-others slots v (stretch_of slots e) (listed cur w.0 b)) ∙ ap (λ hs. is_taken slots hs v (stretch_of slots e)) (so.others.others w.0 b) ∙ taken-others slots v (stretch_of slots e) (listed old w.0 b)

    next-lane : (u b : ℕ) → range_extents x v 0 (take (k + 1) us) u b ≡ with_lane x v w.0 lane cur u b
    next-lane u b =
        let long : 0 + length (take k us) ≡ k = omega (arith, length-take-le k us (omega arith)) in
        ap (λ ys. range_extents x v 0 ys u b) (take_more us k w h ∙ ap (λ y. take k us ++ y ∷ []) (sym at))
        ∙ range-more x v 0 (take k us) w u b
        ∙ ap (λ j. range_extents x v 0 (take k us) u b ++ cond (nat_eq w.0 u) (lane_extents x (number_in x.lanes (owners.Range v j)) b) []) long
        ∙ ap (λ q. range_extents x v 0 (take k us) u b ++ cond (nat_eq w.0 u) (lane_extents x q b) []) (sym is)
        ∙ ap (λ es. es ++ cond (nat_eq w.0 u) (lane_extents x lane b) []) (sym (so.own u b))

    -- with one lane more
    pub fills-lane : (new : UnitTable) → Fills slots v (with_lane x v w.0 lane cur) cur new → Fills slots v (range_extents x v 0 (take (k + 1) us)) old new
    fills-lane new f = record {
      sorted = f.sorted;
      others = record { there = λ u b. f.others.there u b ∙ so.others.there u b; others = λ u b. f.others.others u b ∙ so.others.others u b };
      own = λ u b. f.own u b ∙ sym (next-lane u b);
    }

    range-front : (ys : List UnitNumber) (j n u b : ℕ) → IsFront (range_extents x v j (take n ys) u b) (range_extents x v j ys u b)
    range-front ys j zero u b = (range_extents x v j ys u b, refl)
    range-front [] j (suc n) u b = ([], refl)
    range-front (y ∷ ys) j (suc n) u b =
        let z = range-front ys (suc j) n u b in
        let here : List Extent = cond (nat_eq y.0 u) (lane_extents x (number_in x.lanes (owners.Range v j)) b) [] in
        (z.0, ap (λ es. here ++ es) z.1 ∙ sym (append_assoc here (range_extents x v (suc j) (take n ys) u b) z.0))

    -- what stands after a refusal
    pub begins-lane : (new : UnitTable) → Begins slots v (with_lane x v w.0 lane cur) cur new → Begins slots v (range_extents x v 0 us) old new
    begins-lane new f = record {
      sorted = f.sorted;
      others = record { there = λ u b. f.others.there u b ∙ so.others.there u b; others = λ u b. f.others.others u b ∙ so.others.others u b };
      own = λ u b. front-both (own_of v (listed new u b)) (range_extents x v 0 (take (k + 1) us) u b) (range_extents x v 0 us u b) (subst (IsFront (own_of v (listed new u b))) (sym (next-lane u b)) (f.own u b)) (range-front us 0 (k + 1) u b);
    }

  pub fills-no-lanes : (us : List UnitNumber) (a : UnitTable) → RangeHasRoom x v us a → Fills slots v (range_extents x v 0 (take 0 us)) a a
  fills-no-lanes us a room = record { sorted = room.sorted; others = record { there = λ u b. refl; others = λ u b. refl }; own = λ u b. room.none u b }

  pub fills-lanes : (us : List UnitNumber) (k : ℕ) (a b : UnitTable) → length us ≤ k → Fills slots v (range_extents x v 0 (take k us)) a b → Fills slots v (range_extents x v 0 us) a b
  fills-lanes us k a b le f = record { sorted = f.sorted; others = f.others; own = λ u p. f.own u p ∙ ap (λ ys. range_extents x v 0 ys u p) (take_all k us le) }

  -- the next lane, by the place of its unit
  module _ (k j : ℕ) (us vs : List UnitNumber) (d : UnitNumber) (lane : Option ℕ) (a b c : UnitTable) (same : us ≡ vs) (at : j ≡ k) (h : k < length us) (is : lane ≡ number_in x.lanes (owners.Range v j)) (room : RangeHasRoom x v vs a) (so : Fills slots v (range_extents x v 0 (take k vs)) a b) where
    named : lane ≡ number_in x.lanes (owners.Range v k)
    named = is ∙ ap (λ i. number_in x.lanes (owners.Range v i)) at

    room-us : RangeHasRoom x v us a
    room-us = subst (λ ys. RangeHasRoom x v ys a) (sym same) room

    so-us : Fills slots v (range_extents x v 0 (take k us)) a b
    so-us = subst (λ ys. Fills slots v (range_extents x v 0 (take k ys)) a b) (sym same) so

    pub fills-next : (LaneHasRoom x v (get_or us k d).0 lane b → Fills slots v (with_lane x v (get_or us k d).0 lane b) b c) → Fills slots v (range_extents x v 0 (take (k + 1) vs)) a c
    fills-next f =
        let w : UnitNumber = get_or us k d in
        let there = get_or_default us k d w h in
        subst (λ ys. Fills slots v (range_extents x v 0 (take (k + 1) ys)) a c) same (fills-lane us a b k w lane h there named room-us so-us c (f (lane-room us a b k w lane h there named room-us so-us)))

    pub begins-next : (LaneHasRoom x v (get_or us k d).0 lane b → Begins slots v (with_lane x v (get_or us k d).0 lane b) b c) → Begins slots v (range_extents x v 0 vs) a c
    begins-next f =
        let w : UnitNumber = get_or us k d in
        let there = get_or_default us k d w h in
        subst (λ ys. Begins slots v (range_extents x v 0 ys) a c) same (begins-lane us a b k w lane h there named room-us so-us c (f (lane-room us a b k w lane h there named room-us so-us)))
