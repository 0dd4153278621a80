-- Looks at reserved units among rows.
use Rattle.std.proofs.Common.{◌≡◌, ◌∷◌, ◌&&◌, ◌++◌, ◌∙◌, ℕ, true, List, [], Option, Some, None, refl, sym, ap, subst}
use Rattle.std.proofs.lemmas.Bool.{and_from, eq-eqb}
use Rattle.std.specs.List.{list_any}
use Rattle.target_base.specs.declared.types.Unit.{Unit as UnitNumber}
use Rattle.target_base.specs.declared.types.Target.{Target}
use Rattle.target_base.specs.Storage.{is_among}
use Rattle.target_base.specs.Numbers.{unit_number}
use Rattle.target_base.specs.Registers.{units_of, is_reserved_unit}
use Rattle.meaning.specs.declared.types.Lane.TheVariants.{UnitLane}
use Rattle.meaning.specs.declared.types.Source.TheVariants.{FromLane, Undef, Bits}
use Rattle.meaning.specs.declared.types.EdgePair.{EdgePair}
use Rattle.meaning.specs.declared.types.Row.{Row}
use Rattle.meaning.specs.declared.types.Row.TheVariants.{BothStart, BothEnd, FirstSilent, SecondSilent, BothCounted}
use Rattle.meaning.specs.Code.{BlockStart, BlockEnd, Silent, Counted, Code, Function as Meaning}
use Rattle.meaning.specs.Facts.{Knowledge, all_known, everything, known, known_at_start, known_first, known_second, known_both, operands_known}
use Rattle.meaning.specs.Agree.{Family, facts_at, known_along, rows_hold, target_holds, way_holds, ways_hold}
use Rattle.meaning.specs.Rows.{first_of_rows, second_of_rows}
use Rattle.mir_func.specs.declared.func.Block.{Block}
use Rattle.mir_func.specs.Value.{Function}
use Rattle.mir_meaning.specs.Codes.{refines, code_of, meaning_of, is_given, given_of}
use Rattle.laws.proofs.Agreement.{rows_refine}
use Rattle.laws.proofs.Following.{both-true}
use Rattle.laws.proofs.Closed.{or-left}
use Rattle.alloc_check.specs.Bare.{bare, AreSides}
use Rattle.alloc_check.specs.Looks.{looked_at, with_looks, code_with_looks, KeepsReserved}
use Rattle.alloc_check.specs.LookRows.{look_row, rows_with_looks}
use Rattle.alloc_check.specs.Written.{written_units}
use Rattle.alloc_check.proofs.BareRuns.{bare-refines}
use Rattle.alloc_check.proofs.Judged.{judged-refines}
use Rattle.alloc_check.proofs.Knowing.{Knows, first-more, second-more, both-more, all-more, operands-more, along-more}
use Rattle.alloc_check.proofs.Rested.{unit_given}
use Rattle.alloc_check.proofs.WrittenUnits.{widened_family, whole-looks}

-- the sides of rows with looks are codes with looks
module _ (us : List UnitNumber) where
  bare-looks : (p : Code) → bare (code_with_looks us p) ≡ code_with_looks us (bare p)
  bare-looks [] = refl
  bare-looks (BlockStart n ∷ p) = ap (λ q. BlockStart n ∷ q) (bare-looks p)
  bare-looks (BlockEnd falls exits ∷ p) = ap (λ q. BlockEnd falls [] ∷ q) (bare-looks p)
  bare-looks (Silent reads ws ∷ p) = ap (λ q. Silent [] ws ∷ q) (bare-looks p)
  bare-looks (Counted r reads ws target exits ∷ p) = ap (λ q. bare (code_with_looks us (Counted r reads ws target exits ∷ [])) ++ q) (bare-looks p)

  first-looks : (rows : List Row) → first_of_rows (rows_with_looks us rows) ≡ code_with_looks us (first_of_rows rows)
  first-looks [] = refl
  first-looks (BothStart n ∷ rows) = ap (λ q. first_of_rows (BothStart n ∷ []) ++ q) (first-looks rows)
  first-looks (BothEnd falls exits ∷ rows) = ap (λ q. first_of_rows (BothEnd falls exits ∷ []) ++ q) (first-looks rows)
  first-looks (FirstSilent reads ws ∷ rows) = ap (λ q. Silent reads ws ∷ q) (first-looks rows)
  first-looks (SecondSilent reads ws ∷ rows) = first-looks rows
  first-looks (BothCounted r reads reads' ws ws' target exits ∷ rows) = ap (λ q. first_of_rows (look_row us ∷ BothCounted r reads reads' ws ws' target exits ∷ []) ++ q) (first-looks rows)

  second-looks : (rows : List Row) → second_of_rows (rows_with_looks us rows) ≡ code_with_looks us (second_of_rows rows)
  second-looks [] = refl
  second-looks (BothStart n ∷ rows) = ap (λ q. second_of_rows (BothStart n ∷ []) ++ q) (second-looks rows)
  second-looks (BothEnd falls exits ∷ rows) = ap (λ q. second_of_rows (BothEnd falls exits ∷ []) ++ q) (second-looks rows)
  second-looks (FirstSilent reads ws ∷ rows) = second-looks rows
  second-looks (SecondSilent reads ws ∷ rows) = ap (λ q. Silent reads ws ∷ q) (second-looks rows)
  second-looks (BothCounted r reads reads' ws ws' target exits ∷ rows) = ap (λ q. second_of_rows (look_row us ∷ BothCounted r reads reads' ws ws' target exits ∷ []) ++ q) (second-looks rows)

  -- a code that has rows as one side
  side-looks : (code side : Code) (side' : Code) → side' ≡ code_with_looks us side → bare side ≡ bare code → bare side' ≡ bare (code_with_looks us code)
  side-looks code side side' e h = ap bare e ∙ (bare-looks side ∙ (ap (code_with_looks us) h ∙ sym (bare-looks code)))

-- reserved units hold the same at the start
reserved-given : (t : Target) (bs : List Block) (u : ℕ) → is_reserved_unit t u ≡ true → is_given t bs u ≡ true
reserved-given t [] u e = e
reserved-given t (b ∷ bs) u e = or-left (is_reserved_unit t u) (list_any (λ r. is_among (units_of t r) (unit_number u)) b.liveins) e

reserved-same : (t : Target) (f g : Function) (u : UnitNumber) → is_among t.reserved u ≡ true → known_at_start (given_of t f) (given_of t g) (FromLane (UnitLane u.0)) (FromLane (UnitLane u.0)) ≡ true
reserved-same t f g u e = unit_given t f g u.0 (FromLane (UnitLane u.0)) (reserved-given t f.blocks u.0 e) (reserved-given t g.blocks u.0 e) ∙ eq-eqb u.0 u.0 refl

pub keeps_reserved :
    (t : Target) (f g : Function) (family : Family) (rows both : List Row) → AreSides t f g rows → both ≡ rows_with_looks (written_units rows t.reserved) rows →
    rows_hold family both (known_at_start (given_of t f) (given_of t g)) ≡ true → KeepsReserved t f g
unfolding meaning_of
keeps_reserved t f g family rows both sides e h =
    let us = t.reserved in
    let k = known_at_start (given_of t f) (given_of t g) in
    let whole = rows_with_looks us rows in
    let f' : Meaning = record { code = first_of_rows whole; given = given_of t f } in
    let g' : Meaning = record { code = second_of_rows whole; given = given_of t g } in
    let refined = bare-refines (with_looks us (meaning_of t f)) (with_looks us (meaning_of t g)) f' g'
    (side-looks us (code_of t f) (first_of_rows rows) (first_of_rows whole) (first-looks us rows) sides.first) refl
    (side-looks us (code_of t g) (second_of_rows rows) (second_of_rows whole) (second-looks us rows) sides.second) refl
    (rows_refine f' g' (widened_family family rows us) whole refl refl (whole-looks family rows us k (reserved-same t f g) (subst (λ rs. rows_hold family rs k ≡ true) e h))) in
    record { looked = refined }

module _ (family : Family) (k k' : Knowledge) (more : Knows k k') where
  way-more : (e : EdgePair) → way_holds family k e ≡ true → way_holds family k' e ≡ true
  way-more e h = all-more (known_along e k) (known_along e k') (along-more e k k' more) (facts_at family e.block) h

  ways-more : (exits : List EdgePair) → ways_hold family k exits ≡ true → ways_hold family k' exits ≡ true
  ways-more [] h = refl
  ways-more (e ∷ exits) h =
      let p = both-true (way_holds family k e) (ways_hold family k exits) h in
      and_from (way_holds family k' e) (ways_hold family k' exits) (way-more e p.0) (ways-more exits p.1)

  target-more : (target : Option EdgePair) → target_holds family k target ≡ true → target_holds family k' target ≡ true
  target-more None h = refl
  target-more (Some e) h = way-more e h

-- a look changes nothing that is known
look-knows : (k : Knowledge) → Knows (known_both [] [] k) k
look-knows k (FromLane a) (FromLane b) h = h
look-knows k (FromLane a) Undef h = h
look-knows k (FromLane a) (Bits c low width) h = h
look-knows k Undef (FromLane b) h = h
look-knows k Undef Undef h = h
look-knows k Undef (Bits c low width) h = h
look-knows k (Bits c low width) (FromLane b) h = h
look-knows k (Bits c low width) Undef h = h
look-knows k (Bits c low width) (Bits d l w) h = h

-- rows that hold with looks hold without them
module _ (family : Family) (us : List UnitNumber) where
  without-looks : (rows : List Row) (k k' : Knowledge) → Knows k k' → rows_hold family (rows_with_looks us rows) k ≡ true → rows_hold family rows k' ≡ true
  without-looks [] k k' more h = refl
  without-looks (BothStart n ∷ rows) k k' more h =
      let facts = facts_at family n in
      let p = both-true (all_known k facts) (rows_hold family (rows_with_looks us rows) (known facts)) h in
      and_from (all_known k' facts) (rows_hold family rows (known facts)) (all-more k k' more facts p.0) (without-looks rows (known facts) (known facts) (λ s t e. e) p.1)
  without-looks (BothEnd None exits ∷ rows) k k' more h =
      let p = both-true (ways_hold family k exits) (rows_hold family (rows_with_looks us rows) everything) h in
      and_from (ways_hold family k' exits) (rows_hold family rows everything) (ways-more family k k' more exits p.0) (without-looks rows everything everything (λ s t e. e) p.1)
  without-looks (BothEnd (Some e) exits ∷ rows) k k' more h =
      let after : Knowledge = known_second e.1 (known_first e.0 k) in
      let after' : Knowledge = known_second e.1 (known_first e.0 k') in
      let p = both-true (ways_hold family k exits) (rows_hold family (rows_with_looks us rows) after) h in
      and_from (ways_hold family k' exits) (rows_hold family rows after') (ways-more family k k' more exits p.0)
      (without-looks rows after after' (second-more (known_first e.0 k) (known_first e.0 k') (first-more k k' more e.0) e.1) p.1)
  without-looks (FirstSilent reads ws ∷ rows) k k' more h = without-looks rows (known_first ws k) (known_first ws k') (first-more k k' more ws) h
  without-looks (SecondSilent reads ws ∷ rows) k k' more h = without-looks rows (known_second ws k) (known_second ws k') (second-more k k' more ws) h
  without-looks (BothCounted r reads reads' ws ws' target exits ∷ rows) k k' more h =
      let seen : Knowledge = known_both [] [] k in
      let more' : Knows seen k' = λ s t e. more s t (look-knows k s t e) in
      let after : Knowledge = known_both ws ws' seen in
      let after' : Knowledge = known_both ws ws' k' in
      let more'' : Knows after after' = both-more seen k' more' ws ws' in
      let o = both-true (operands_known k (looked_at us) (looked_at us)) (rows_hold family (BothCounted r reads reads' ws ws' target exits ∷ rows_with_looks us rows) seen) h in
      let p = both-true (operands_known seen reads reads') (target_holds family after target && (ways_hold family after exits && rows_hold family (rows_with_looks us rows) after)) o.1 in
      let q = both-true (target_holds family after target) (ways_hold family after exits && rows_hold family (rows_with_looks us rows) after) p.1 in
      let r = both-true (ways_hold family after exits) (rows_hold family (rows_with_looks us rows) after) q.1 in
      and_from (operands_known k' reads reads') (target_holds family after' target && (ways_hold family after' exits && rows_hold family rows after')) (operands-more seen k' more' reads reads' p.0)
      (and_from (target_holds family after' target) (ways_hold family after' exits && rows_hold family rows after') (target-more family after after' more'' target q.0)
      (and_from (ways_hold family after' exits) (rows_hold family rows after') (ways-more family after after' more'' exits r.0) (without-looks rows after after' more'' r.1)))

pub refines_beside :
    (t : Target) (f g : Function) (family : Family) (us : List UnitNumber) (rows both : List Row) → AreSides t f g rows → both ≡ rows_with_looks us rows → rows_hold family both (known_at_start (given_of t f) (given_of t g)) ≡ true → refines t f g
refines_beside t f g family us rows both sides e h =
    let k = known_at_start (given_of t f) (given_of t g) in
    judged-refines t f g family rows sides (without-looks family us rows k k (λ s t e. e) (subst (λ rows. rows_hold family rows k ≡ true) e h))
