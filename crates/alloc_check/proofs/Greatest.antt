-- A family with which rows hold knows all that the search asks.
use Rattle.std.proofs.Common.{◌≡◌, ◌∷◌, ◌++◌, ◌&&◌, ℕ, Bool, true, List, [], Option, Some, None, refl}
use Rattle.std.proofs.lemmas.Bool.{and_from}
use Rattle.meaning.specs.declared.types.Row.{Row}
use Rattle.meaning.specs.declared.types.Row.TheVariants.{BothStart, BothEnd, FirstSilent, SecondSilent, BothCounted}
use Rattle.meaning.specs.declared.types.EdgePair.{EdgePair}
use Rattle.meaning.specs.Facts.{Facts, Knowledge, all_known, everything, known, known_first, known_second, known_both, operands_known}
use Rattle.meaning.specs.Agree.{Family, facts_at, known_along, way_holds, ways_hold, target_holds, rows_hold}
use Rattle.laws.proofs.Following.{both-true}
use Rattle.laws.proofs.Closed.{IsClosed, closed-first, closed-second, closed-both, closed-everything, closed-known, known-known}
use Rattle.alloc_check.specs.Needs.{IsLawful, Least, row_asks, writes_ask}
use Rattle.alloc_check.specs.Families.{is_inside, IsBelow, Necessary}
use Rattle.alloc_check.proofs.Alone.{all-alike}

pub closed-lawful : (k : Knowledge) → IsClosed k → IsLawful k
closed-lawful k c = record { undef = c.undef; constant = c.constant }

module _ (a b : Family) (below : IsBelow a b) where
  -- who knows the facts of the greater family knows those of the smaller
  pub below-known : (k : Knowledge) → IsClosed k → (n : ℕ) → all_known k (facts_at b n) ≡ true → all_known k (facts_at a n) ≡ true
  below-known k c n h = all-alike (known (facts_at b n)) k (known-known k c (facts_at b n) h) (facts_at a n) (below n)

  below-way : (k : Knowledge) → IsClosed k → (e : EdgePair) → way_holds b k e ≡ true → way_holds a k e ≡ true
  below-way k c e h = below-known (known_along e k) (closed-second (known_first e.first k) (closed-first k c e.first) e.second) e.block h

  below-ways : (k : Knowledge) → IsClosed k → (es : List EdgePair) → ways_hold b k es ≡ true → ways_hold a k es ≡ true
  below-ways k c [] h = refl
  below-ways k c (e ∷ es) h =
      let p = both-true (way_holds b k e) (ways_hold b k es) h in
      and_from (way_holds a k e) (ways_hold a k es) (below-way k c e p.0) (below-ways k c es p.1)

  below-target : (k : Knowledge) → IsClosed k → (e : Option EdgePair) → target_holds b k e ≡ true → target_holds a k e ≡ true
  below-target k c None h = refl
  below-target k c (Some e) h = below-way k c e h

  -- what a row asks is known where it holds
  pub row-necessary :
      (row : Row) (rows : List Row) (old new : Facts) (answer : Bool) → is_inside row ≡ true → Necessary b rows old → Least (row_asks a row old) answer new →
      (k : Knowledge) → IsClosed k → rows_hold b (row ∷ rows) k ≡ true → (answer ≡ true) × (all_known k new ≡ true)
  row-necessary (BothStart n) rows old new answer inside nec least k c h = absurd (cc)
  row-necessary (BothEnd (Some e) exits) rows old new answer inside nec least k c h =
      let k' = known_second e.1 (known_first e.0 k) in
      let p = both-true (ways_hold b k exits) (rows_hold b rows k') h in
      least k (closed-lawful k c)
      (and_from (ways_hold a k exits) (all_known k' old) (below-ways k c exits p.0) (nec k' (closed-second (known_first e.0 k) (closed-first k c e.0) e.1) p.1))
  row-necessary (BothEnd None exits) rows old new answer inside nec least k c h =
      let p = both-true (ways_hold b k exits) (rows_hold b rows everything) h in
      least k (closed-lawful k c)
      (and_from (ways_hold a k exits) (all_known everything old) (below-ways k c exits p.0) (nec everything closed-everything p.1))
  row-necessary (FirstSilent reads ws) rows old new answer inside nec least k c h = least k (closed-lawful k c) (nec (known_first ws k) (closed-first k c ws) h)
  row-necessary (SecondSilent reads vs) rows old new answer inside nec least k c h = least k (closed-lawful k c) (nec (known_second vs k) (closed-second k c vs) h)
  row-necessary (BothCounted r reads reads' ws vs target exits) rows old new answer inside nec least k c h =
      let k' = known_both ws vs k in
      let c' = closed-both k c ws vs in
      let p = both-true (operands_known k reads reads') (target_holds b k' target && (ways_hold b k' exits && rows_hold b rows k')) h in
      let q = both-true (target_holds b k' target) (ways_hold b k' exits && rows_hold b rows k') p.1 in
      let r = both-true (ways_hold b k' exits) (rows_hold b rows k') q.1 in
      least k (closed-lawful k c)
      (and_from (operands_known k reads reads') (writes_ask a ws vs target exits old k) p.0
      (and_from (target_holds a k' target) (ways_hold a k' exits && all_known k' old) (below-target k' c' target q.0)
      (and_from (ways_hold a k' exits) (all_known k' old) (below-ways k' c' exits r.0) (nec k' c' r.1))))

-- something is known where the rows behind begin
pub record Behind (family : Family) (rows : List Row) : Type 0 where
  pub knows : Knowledge
  pub closed : IsClosed knows
  pub hold : rows_hold family rows knows ≡ true

pub holds-behind : (family : Family) (xs ys : List Row) (k : Knowledge) → IsClosed k → rows_hold family (xs ++ ys) k ≡ true → Behind family ys
holds-behind family [] ys k c h = record { knows = k; closed = c; hold = h }
holds-behind family (BothStart n ∷ xs) ys k c h =
    let at = facts_at family n in
    holds-behind family xs ys (known at) (closed-known at) (both-true (all_known k at) (rows_hold family (xs ++ ys) (known at)) h).1
holds-behind family (BothEnd (Some e) exits ∷ xs) ys k c h =
    let k' = known_second e.1 (known_first e.0 k) in
    holds-behind family xs ys k' (closed-second (known_first e.0 k) (closed-first k c e.0) e.1) (both-true (ways_hold family k exits) (rows_hold family (xs ++ ys) k') h).1
holds-behind family (BothEnd None exits ∷ xs) ys k c h = holds-behind family xs ys everything closed-everything (both-true (ways_hold family k exits) (rows_hold family (xs ++ ys) everything) h).1
holds-behind family (FirstSilent reads ws ∷ xs) ys k c h = holds-behind family xs ys (known_first ws k) (closed-first k c ws) h
holds-behind family (SecondSilent reads vs ∷ xs) ys k c h = holds-behind family xs ys (known_second vs k) (closed-second k c vs) h
holds-behind family (BothCounted r reads reads' ws vs target exits ∷ xs) ys k c h =
    let k' = known_both ws vs k in
    let p = both-true (operands_known k reads reads') (target_holds family k' target && (ways_hold family k' exits && rows_hold family (xs ++ ys) k')) h in
    let q = both-true (target_holds family k' target) (ways_hold family k' exits && rows_hold family (xs ++ ys) k') p.1 in
    holds-behind family xs ys k' (closed-both k c ws vs) (both-true (ways_hold family k' exits) (rows_hold family (xs ++ ys) k') q.1).1
