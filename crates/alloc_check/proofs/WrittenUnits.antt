-- A unit that no row writes holds the same everywhere. So where the looks at the units that are written show that these hold
-- the same, some family shows it of all units.
use Rattle.std.proofs.Common.{◌≡◌, ◌∷◌, ◌++◌, ◌&&◌, ◌||◌, ◌∙◌, ℕ, Bool, true, false, cond, not, map, List, [], Option, Some, None, refl, sym, ap, subst, inl, inr}
use Rattle.std.proofs.lemmas.Bool.{and_from, eq-eqb, eqb-true}
use Rattle.std.specs.Prelude.{nat_eq}
use Rattle.std.specs.List.{list_all, list_any, filter}
use Rattle.target_base.specs.declared.types.Unit.{Unit as UnitNumber}
use Rattle.target_base.specs.Storage.{is_among}
use Rattle.meaning.specs.declared.types.Lane.{Lane}
use Rattle.meaning.specs.declared.types.Lane.TheVariants.{UnitLane}
use Rattle.meaning.specs.declared.types.Source.{Source}
use Rattle.meaning.specs.declared.types.Source.TheVariants.{FromLane}
use Rattle.meaning.specs.declared.types.EdgePair.{EdgePair}
use Rattle.meaning.specs.declared.types.Row.{Row}
use Rattle.meaning.specs.declared.types.Row.TheVariants.{BothStart, BothEnd, FirstSilent, SecondSilent, BothCounted}
use Rattle.meaning.specs.Lanes.{Writes, settled}
use Rattle.meaning.specs.Facts.{Facts, Knowledge, all_known, always, among, everything, gives, known, known_left, known_first, known_second, known_both, reads_known, operands_known}
use Rattle.meaning.specs.Agree.{Family, facts_at, known_along, rows_hold, target_holds, way_holds, ways_hold}
use Rattle.mir_meaning.specs.Registers.{unit_lanes}
use Rattle.laws.proofs.Following.{both-true}
use Rattle.laws.proofs.Closed.{either-true, or-left, or-right}
use Rattle.alloc_check.specs.Marks.{unwritten}
use Rattle.alloc_check.specs.Looks.{looked_at}
use Rattle.alloc_check.specs.LookRows.{rows_with_looks}
use Rattle.alloc_check.specs.Written.{way_leaves, target_leaves, rows_leave, written_units}
use Rattle.alloc_check.proofs.Marked.{filled-unwritten, known-stays}
use Rattle.alloc_check.proofs.Knowing.{Knows, first-more, second-more, both-more, all-more, operands-more}

abbrev pub unit : UnitNumber → Source
unit u = FromLane (UnitLane u.0)

-- what a look at units reads
abbrev units_read : List UnitNumber → List Source
units_read us = map FromLane (unit_lanes us)

-- the facts that units hold the same
abbrev pub alike : List UnitNumber → Facts
alike us = map (λ u. (unit u, unit u)) us

alike-known : (k : Knowledge) (us : List UnitNumber) → ((u : UnitNumber) → is_among us u ≡ true → k (unit u) (unit u) ≡ true) → all_known k (alike us) ≡ true
alike-known k [] h = refl
alike-known k (u ∷ us) h =
    and_from (k (unit u) (unit u)) (all_known k (alike us)) (h u (or-left (nat_eq u.0 u.0) (is_among us u) (eq-eqb u.0 u.0 refl)))
    (alike-known k us (λ v e. h v (or-right (nat_eq u.0 v.0) (is_among us v) e)))

among-alike : (us : List UnitNumber) (u : UnitNumber) → is_among us u ≡ true → among (alike us) (unit u) (unit u) ≡ true
among-alike [] u h = absurd (cc)
among-alike (v ∷ us) u h =
    let here = gives (unit v, unit v) (unit u) (unit u) in
    let there = among (alike us) (unit u) (unit u) in
    elim (either-true (nat_eq v.0 u.0) (is_among us u) h) [
      | inl e ↦ or-left here there (and_from (nat_eq u.0 v.0) (nat_eq v.0 u.0) (eq-eqb u.0 v.0 (sym (eqb-true v.0 u.0 e))) e)
      | inr e ↦ or-right here there (among-alike us u e)
    ]

among-left : (facts others : Facts) (s t : Source) → among facts s t ≡ true → among (facts ++ others) s t ≡ true
among-left [] others s t h = absurd (cc)
among-left (f ∷ facts) others s t h =
    elim (either-true (gives f s t) (among facts s t) h) [
      | inl e ↦ or-left (gives f s t) (among (facts ++ others) s t) e
      | inr e ↦ or-right (gives f s t) (among (facts ++ others) s t) (among-left facts others s t e)
    ]

among-right : (facts others : Facts) (s t : Source) → among others s t ≡ true → among (facts ++ others) s t ≡ true
among-right [] others s t h = h
among-right (f ∷ facts) others s t h = or-right (gives f s t) (among (facts ++ others) s t) (among-right facts others s t h)

all-append : (k : Knowledge) (facts others : Facts) → all_known k facts ≡ true → all_known k others ≡ true → all_known k (facts ++ others) ≡ true
all-append k [] others h e = e
all-append k (f ∷ facts) others h e =
    let p = both-true (k f.0 f.1) (all_known k facts) h in
    and_from (k f.0 f.1) (all_known k (facts ++ others)) p.0 (all-append k facts others p.1 e)

-- the first of these units that pass a test, and those that fail it
module _ (test : ℕ → Bool) where
  kept : (us : List UnitNumber) (u : UnitNumber) → is_among (filter (λ v. test v.0) us) u ≡ true → (test u.0 ≡ true) × (is_among us u ≡ true)
  kept [] u h = absurd (cc)
  kept (v ∷ us) u h = go (kept us u) (test v.0) refl h
    where
      passed : List UnitNumber
      passed = filter (λ v. test v.0) us

      go : (is_among passed u ≡ true → (test u.0 ≡ true) × (is_among us u ≡ true)) → (b : Bool) → test v.0 ≡ b → is_among (cond b (v ∷ passed) passed) u ≡ true → (test u.0 ≡ true) × (is_among (v ∷ us) u ≡ true)
      go later true e x =
          elim (either-true (nat_eq v.0 u.0) (is_among passed u) x) [
            | inl y ↦ (subst (λ n. test n ≡ true) (eqb-true v.0 u.0 y) e, or-left (nat_eq v.0 u.0) (is_among us u) y)
            | inr y ↦ let r = later y in (r.0, or-right (nat_eq v.0 u.0) (is_among us u) r.1)
          ]
      go later false e x = let r = later x in (r.0, or-right (nat_eq v.0 u.0) (is_among us u) r.1)

  -- all are known to hold the same where those that fail are, and those that pass
  reads-whole :
      (k k' : Knowledge) → Knows k k' → (us : List UnitNumber) → ((u : UnitNumber) → is_among (filter (λ v. test v.0) us) u ≡ true → k' (unit u) (unit u) ≡ true) →
      reads_known k (units_read (filter (λ v. not (test v.0)) us)) (units_read (filter (λ v. not (test v.0)) us)) ≡ true → reads_known k' (units_read us) (units_read us) ≡ true
  reads-whole k k' more [] idle h = refl
  reads-whole k k' more (u ∷ us) idle h = go (reads-whole k k' more us) (test u.0) idle h
    where
      passed : List UnitNumber
      passed = filter (λ v. test v.0) us

      failed : List UnitNumber
      failed = filter (λ v. not (test v.0)) us

      go :
          (((v : UnitNumber) → is_among passed v ≡ true → k' (unit v) (unit v) ≡ true) → reads_known k (units_read failed) (units_read failed) ≡ true → reads_known k' (units_read us) (units_read us) ≡ true) →
          (b : Bool) → ((v : UnitNumber) → is_among (cond b (u ∷ passed) passed) v ≡ true → k' (unit v) (unit v) ≡ true) →
          reads_known k (units_read (cond (not b) (u ∷ failed) failed)) (units_read (cond (not b) (u ∷ failed) failed)) ≡ true → k' (unit u) (unit u) && reads_known k' (units_read us) (units_read us) ≡ true
      go later true idle h =
          and_from (k' (unit u) (unit u)) (reads_known k' (units_read us) (units_read us)) (idle u (or-left (nat_eq u.0 u.0) (is_among passed u) (eq-eqb u.0 u.0 refl)))
          (later (λ v e. idle v (or-right (nat_eq u.0 v.0) (is_among passed v) e)) h)
      go later false idle h =
          let p = both-true (k (unit u) (unit u)) (reads_known k (units_read failed) (units_read failed)) h in
          and_from (k' (unit u) (unit u)) (reads_known k' (units_read us) (units_read us)) (more (unit u) (unit u) p.0) (later idle p.1)

-- a family with facts more at the starts of these blocks
abbrev pub widened : Family → Facts → List ℕ → Family
widened family facts [] = []
widened family facts (n ∷ ns) = (n, facts_at family n ++ facts) ∷ widened family facts ns

abbrev has : List ℕ → ℕ → Bool
has ns n = list_any (λ m. nat_eq m n) ns

widened-at : (family : Family) (facts : Facts) (ns : List ℕ) (n : ℕ) → facts_at (widened family facts ns) n ≡ cond (has ns n) (facts_at family n ++ facts) []
widened-at family facts [] n = refl
widened-at family facts (m ∷ ns) n = go (widened-at family facts ns n) (nat_eq m n) refl
  where
    go : (facts_at (widened family facts ns) n ≡ cond (has ns n) (facts_at family n ++ facts) []) → (b : Bool) → nat_eq m n ≡ b → cond b (facts_at family m ++ facts) (facts_at (widened family facts ns) n) ≡ cond (b || has ns n) (facts_at family n ++ facts) []
    go later true e = ap (λ x. facts_at family x ++ facts) (eqb-true m n e)
    go later false e = later

widened-asks : (family : Family) (facts : Facts) (ns : List ℕ) (n : ℕ) (k : Knowledge) → all_known k (facts_at family n ++ facts) ≡ true → all_known k (facts_at (widened family facts ns) n) ≡ true
widened-asks family facts ns n k h = subst (λ fs. all_known k fs ≡ true) (sym (widened-at family facts ns n)) (go (has ns n))
  where
    go : (b : Bool) → all_known k (cond b (facts_at family n ++ facts) []) ≡ true
    go true = h
    go false = refl

-- the blocks that start among the rows
abbrev pub starts : List Row → List ℕ
starts [] = []
starts (BothStart n ∷ rows) = n ∷ starts rows
starts (BothEnd falls exits ∷ rows) = starts rows
starts (FirstSilent reads ws ∷ rows) = starts rows
starts (SecondSilent reads ws ∷ rows) = starts rows
starts (BothCounted r reads reads' ws ws' target exits ∷ rows) = starts rows

-- no write that the test stands for names one of these units
abbrev Leave : List UnitNumber → (Lane → Bool) → Type 0
Leave idle test = (u : UnitNumber) → is_among idle u ≡ true → test (UnitLane u.0) ≡ true

first-leaves : (idle : List UnitNumber) (a b : Lane → Bool) → Leave idle (λ l. a l && b l) → Leave idle a
first-leaves idle a b h u e = (both-true (a (UnitLane u.0)) (b (UnitLane u.0)) (h u e)).0

second-leaves : (idle : List UnitNumber) (a b : Lane → Bool) → Leave idle (λ l. a l && b l) → Leave idle b
second-leaves idle a b h u e = (both-true (a (UnitLane u.0)) (b (UnitLane u.0)) (h u e)).1

-- the second knows all that the first knows, and that idle units hold the same
record Wider (idle : List UnitNumber) (k k' : Knowledge) : Type 0 where
  more : Knows k k'
  same : (u : UnitNumber) → is_among idle u ≡ true → k' (unit u) (unit u) ≡ true

wider-everything : (idle : List UnitNumber) → Wider idle everything everything
wider-everything idle = record { more = λ s t e. e; same = λ u e. refl }

wider-known : (idle : List UnitNumber) (facts : Facts) → Wider idle (known facts) (known (facts ++ alike idle))
wider-known idle facts = record {
  more = λ s t h.
      elim (either-true (always s t) (among facts s t) h) [
        | inl e ↦ or-left (always s t) (among (facts ++ alike idle) s t) e
        | inr e ↦ or-right (always s t) (among (facts ++ alike idle) s t) (among-left facts (alike idle) s t e)
      ];
  same = λ u e. among-right facts (alike idle) (unit u) (unit u) (among-alike idle u e);
}

module _ (idle : List UnitNumber) where
  wider-first : (k k' : Knowledge) (ws : Writes) → Wider idle k k' → Leave idle (unwritten ws) → Wider idle (known_first ws k) (known_first ws k')
  wider-first k k' ws wider leave = record {
    more = first-more k k' wider.more ws;
    same = λ u e. ap (λ g. known_left k' g (unit u)) (filled-unwritten ws (UnitLane u.0) (leave u e)) ∙ wider.same u e;
  }

  wider-second : (k k' : Knowledge) (vs : Writes) → Wider idle k k' → Leave idle (unwritten vs) → Wider idle (known_second vs k) (known_second vs k')
  wider-second k k' vs wider leave = record {
    more = second-more k k' wider.more vs;
    same = λ u e. ap (λ g. k' (unit u) (settled g)) (filled-unwritten vs (UnitLane u.0) (leave u e)) ∙ wider.same u e;
  }

  wider-both : (k k' : Knowledge) (ws vs : Writes) → Wider idle k k' → Leave idle (unwritten ws) → Leave idle (unwritten vs) → Wider idle (known_both ws vs k) (known_both ws vs k')
  wider-both k k' ws vs wider first second = record {
    more = both-more k k' wider.more ws vs;
    same = λ u e.
        known-stays ws vs k' (unit u, unit u) (and_from (unwritten ws (UnitLane u.0)) (unwritten vs (UnitLane u.0)) (first u e) (second u e)) ∙ wider.same u e;
  }

  wider-along : (k k' : Knowledge) (ws vs : Writes) → Wider idle k k' → Leave idle (λ l. unwritten ws l && unwritten vs l) → Wider idle (known_second vs (known_first ws k)) (known_second vs (known_first ws k'))
  wider-along k k' ws vs wider leave =
      wider-second (known_first ws k) (known_first ws k') vs
      (wider-first k k' ws wider (first-leaves idle (unwritten ws) (unwritten vs) leave)) (second-leaves idle (unwritten ws) (unwritten vs) leave)

  wider-all : (k k' : Knowledge) → Wider idle k k' → (facts : Facts) → all_known k facts ≡ true → all_known k' (facts ++ alike idle) ≡ true
  wider-all k k' wider facts h = all-append k' facts (alike idle) (all-more k k' wider.more facts h) (alike-known k' idle wider.same)

module _ (family : Family) (idle : List UnitNumber) (ns : List ℕ) where
  abbrev wide : Family
  wide = widened family (alike idle) ns

  way-wider : (k k' : Knowledge) → Wider idle k k' → (e : EdgePair) → Leave idle (λ l. way_leaves l e) → way_holds family k e ≡ true → way_holds wide k' e ≡ true
  way-wider k k' wider e leave h =
      widened-asks family (alike idle) ns e.block (known_along e k') (wider-all idle (known_along e k) (known_along e k') (wider-along idle k k' e.first e.second wider leave) (facts_at family e.block) h)

  ways-wider : (k k' : Knowledge) → Wider idle k k' → (exits : List EdgePair) → Leave idle (λ l. list_all (way_leaves l) exits) → ways_hold family k exits ≡ true → ways_hold wide k' exits ≡ true
  ways-wider k k' wider [] leave h = refl
  ways-wider k k' wider (e ∷ exits) leave h =
      let p = both-true (way_holds family k e) (ways_hold family k exits) h in
      and_from (way_holds wide k' e) (ways_hold wide k' exits) (way-wider k k' wider e (first-leaves idle (λ l. way_leaves l e) (λ l. list_all (way_leaves l) exits) leave) p.0)
      (ways-wider k k' wider exits (second-leaves idle (λ l. way_leaves l e) (λ l. list_all (way_leaves l) exits) leave) p.1)

  target-wider : (k k' : Knowledge) → Wider idle k k' → (target : Option EdgePair) → Leave idle (λ l. target_leaves l target) → target_holds family k target ≡ true → target_holds wide k' target ≡ true
  target-wider k k' wider None leave h = refl
  target-wider k k' wider (Some e) leave h = way-wider k k' wider e leave h

-- rows that hold with looks at some units hold with looks at all of them, where no row writes the others
module _ (family : Family) (some all idle : List UnitNumber) (ns : List ℕ) (looks : (k k' : Knowledge) → Wider idle k k' → operands_known k (looked_at some) (looked_at some) ≡ true → operands_known k' (looked_at all) (looked_at all) ≡ true) where
  abbrev large : Family
  large = wide family idle ns

  rows-wider :
      (rows : List Row) (k k' : Knowledge) → Wider idle k k' → Leave idle (rows_leave rows) → ((n : ℕ) → has (starts rows) n ≡ true → has ns n ≡ true) →
      rows_hold family (rows_with_looks some rows) k ≡ true → rows_hold large (rows_with_looks all rows) k' ≡ true
  rows-wider [] k k' wider leave within h = refl
  rows-wider (BothStart n ∷ rows) k k' wider leave within h =
      let facts = facts_at family n in
      let facts' = facts_at large n in
      let p = both-true (all_known k facts) (rows_hold family (rows_with_looks some rows) (known facts)) h in
      let is : facts' ≡ facts ++ alike idle = widened-at family (alike idle) ns n ∙ ap (λ b. cond b (facts ++ alike idle) []) (within n (or-left (nat_eq n n) (has (starts rows) n) (eq-eqb n n refl))) in
      and_from (all_known k' facts') (rows_hold large (rows_with_looks all rows) (known facts'))
      (widened-asks family (alike idle) ns n k' (wider-all idle k k' wider facts p.0))
      (subst (λ fs. rows_hold large (rows_with_looks all rows) (known fs) ≡ true) (sym is)
      (rows-wider rows (known facts) (known (facts ++ alike idle)) (wider-known idle facts) leave (λ m e. within m (or-right (nat_eq n m) (has (starts rows) m) e)) p.1))
  rows-wider (BothEnd None exits ∷ rows) k k' wider leave within h =
      let p = both-true (ways_hold family k exits) (rows_hold family (rows_with_looks some rows) everything) h in
      let ways : Lane → Bool = λ l. list_all (way_leaves l) exits in
      and_from (ways_hold large k' exits) (rows_hold large (rows_with_looks all rows) everything)
      (ways-wider family idle ns k k' wider exits (first-leaves idle ways (rows_leave rows) leave) p.0)
      (rows-wider rows everything everything (wider-everything idle) (second-leaves idle ways (rows_leave rows) leave) within p.1)
  rows-wider (BothEnd (Some e) exits ∷ rows) k k' wider leave within h =
      let after : Knowledge = known_second e.1 (known_first e.0 k) in
      let after' : Knowledge = known_second e.1 (known_first e.0 k') in
      let p = both-true (ways_hold family k exits) (rows_hold family (rows_with_looks some rows) after) h in
      let falls : Lane → Bool = λ l. unwritten e.0 l && unwritten e.1 l in
      let ways : Lane → Bool = λ l. list_all (way_leaves l) exits in
      let row : Leave idle (λ l. falls l && ways l) = first-leaves idle (λ l. falls l && ways l) (rows_leave rows) leave in
      and_from (ways_hold large k' exits) (rows_hold large (rows_with_looks all rows) after')
      (ways-wider family idle ns k k' wider exits (second-leaves idle falls ways row) p.0)
      (rows-wider rows after after' (wider-along idle k k' e.0 e.1 wider (first-leaves idle falls ways row)) (second-leaves idle (λ l. falls l && ways l) (rows_leave rows) leave) within p.1)
  rows-wider (FirstSilent reads ws ∷ rows) k k' wider leave within h =
      rows-wider rows (known_first ws k) (known_first ws k') (wider-first idle k k' ws wider (first-leaves idle (unwritten ws) (rows_leave rows) leave)) (second-leaves idle (unwritten ws) (rows_leave rows) leave) within h
  rows-wider (SecondSilent reads ws ∷ rows) k k' wider leave within h =
      rows-wider rows (known_second ws k) (known_second ws k') (wider-second idle k k' ws wider (first-leaves idle (unwritten ws) (rows_leave rows) leave)) (second-leaves idle (unwritten ws) (rows_leave rows) leave) within h
  rows-wider (BothCounted r reads reads' ws ws' target exits ∷ rows) k k' wider leave within h =
      let seen : Knowledge = known_both [] [] k in
      let seen' : Knowledge = known_both [] [] k' in
      let wider' : Wider idle seen seen' = wider-both idle k k' [] [] wider (λ u e. refl) (λ u e. refl) in
      let after : Knowledge = known_both ws ws' seen in
      let after' : Knowledge = known_both ws ws' seen' in
      let both : Lane → Bool = λ l. unwritten ws l && unwritten ws' l in
      let to : Lane → Bool = λ l. target_leaves l target in
      let ways : Lane → Bool = λ l. list_all (way_leaves l) exits in
      let row : Leave idle (λ l. both l && (to l && ways l)) = first-leaves idle (λ l. both l && (to l && ways l)) (rows_leave rows) leave in
      let writes : Leave idle both = first-leaves idle both (λ l. to l && ways l) row in
      let leads : Leave idle (λ l. to l && ways l) = second-leaves idle both (λ l. to l && ways l) row in
      let wider'' : Wider idle after after' = wider-both idle seen seen' ws ws' wider' (first-leaves idle (unwritten ws) (unwritten ws') writes) (second-leaves idle (unwritten ws) (unwritten ws') writes) in
      let pair = BothCounted r reads reads' ws ws' target exits in
      let o = both-true (operands_known k (looked_at some) (looked_at some)) (rows_hold family (pair ∷ rows_with_looks some rows) seen) h in
      let p = both-true (operands_known seen reads reads') (target_holds family after target && (ways_hold family after exits && rows_hold family (rows_with_looks some rows) after)) o.1 in
      let q = both-true (target_holds family after target) (ways_hold family after exits && rows_hold family (rows_with_looks some rows) after) p.1 in
      let x = both-true (ways_hold family after exits) (rows_hold family (rows_with_looks some rows) after) q.1 in
      and_from (operands_known k' (looked_at all) (looked_at all)) (rows_hold large (pair ∷ rows_with_looks all rows) seen') (looks k k' wider o.0)
      (and_from (operands_known seen' reads reads') (target_holds large after' target && (ways_hold large after' exits && rows_hold large (rows_with_looks all rows) after')) (operands-more seen seen' wider'.more reads reads' p.0)
      (and_from (target_holds large after' target) (ways_hold large after' exits && rows_hold large (rows_with_looks all rows) after') (target-wider family idle ns after after' wider'' target (first-leaves idle to ways leads) q.0)
      (and_from (ways_hold large after' exits) (rows_hold large (rows_with_looks all rows) after') (ways-wider family idle ns after after' wider'' exits (second-leaves idle to ways leads) x.0)
      (rows-wider rows after after' wider'' (second-leaves idle (λ l. both l && (to l && ways l)) (rows_leave rows) leave) within x.1))))

-- the units that no row writes
abbrev pub unwritten_units : List Row → List UnitNumber → List UnitNumber
unwritten_units rows us = filter (λ u. rows_leave rows (UnitLane u.0)) us

-- The family has besides at each start of a block that units that aren't written hold the same.
abbrev pub widened_family : Family → List Row → List UnitNumber → Family
widened_family family rows us = widened family (alike (unwritten_units rows us)) (starts rows)

pub whole-looks :
    (family : Family) (rows : List Row) (us : List UnitNumber) (k : Knowledge) → ((u : UnitNumber) → is_among us u ≡ true → k (FromLane (UnitLane u.0)) (FromLane (UnitLane u.0)) ≡ true) →
    rows_hold family (rows_with_looks (written_units rows us) rows) k ≡ true → rows_hold (widened_family family rows us) (rows_with_looks us rows) k ≡ true
whole-looks family rows us k start h =
    let idle = unwritten_units rows us in
    let test : ℕ → Bool = λ n. rows_leave rows (UnitLane n) in
    rows-wider family (written_units rows us) us idle (starts rows)
    (λ a b wider x. and_from (reads_known b (units_read us) (units_read us)) true
    (reads-whole test a b wider.more us wider.same (both-true (reads_known a (units_read (written_units rows us)) (units_read (written_units rows us))) true x).0) refl)
    rows k k (record { more = λ s t e. e; same = λ u e. start u (kept test us u e).1 }) (λ u e. (kept test us u e).0) (λ n e. e) h
