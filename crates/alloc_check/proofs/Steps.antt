-- Facts taken back over an instruction.
use Rattle.std.proofs.Common.{◌≡◌, ◌∷◌, ◌&&◌, ◌||◌, ℕ, Bool, true, false, cond, List, [], Option, Some, None, refl, sym, subst, ◌∙◌}
use Rattle.std.proofs.lemmas.Bool.{and_from}
use Rattle.meaning.specs.declared.types.Source.TheVariants.{Undef}
use Rattle.meaning.specs.declared.types.Fill.{Fill}
use Rattle.meaning.specs.declared.types.Fill.TheVariants.{Moved, Computed}
use Rattle.meaning.specs.declared.types.Row.{Row}
use Rattle.meaning.specs.declared.types.Row.TheVariants.{BothStart, BothEnd, FirstSilent, SecondSilent, BothCounted}
use Rattle.meaning.specs.declared.types.EdgePair.{EdgePair}
use Rattle.meaning.specs.declared.types.Rest.{Rest}
use Rattle.meaning.specs.Lanes.{Writes, Reads, settled, through}
use Rattle.meaning.specs.Facts.{Fact, Facts, Knowledge, all_known, everything, known, known_left, known_first, known_second, known_both, one_result, operands_known}
use Rattle.meaning.specs.Agree.{Family, facts_at, known_along, rows_hold, target_holds, ways_hold}
use Rattle.laws.proofs.Following.{both-true}
use Rattle.laws.proofs.Closed.{or-right}
use Rattle.alloc_check.specs.Needs.{IsLawful, Lead, Least, IsInstead, Suffice, Adds, Carry, Leave, result_of, one_number, is_moved, before_first, before_second, before_both, fits_first, fits_both, behind_falls, writes_ask, row_asks}
use Rattle.alloc_check.specs.Cells.{Takes}
use Rattle.alloc_check.proofs.Lawful.{lawful-known, facts-known}

pub lawful-first : (ws : Writes) (k : Knowledge) → IsLawful k → IsLawful (known_first ws k)
lawful-first ws k l = record { undef = λ t. l.undef t; constant = λ c low width. l.constant c low width }

pub lawful-second : (ws : Writes) (k : Knowledge) → IsLawful k → IsLawful (known_second ws k)
lawful-second ws k l = record { undef = λ t. l.undef (settled (through ws t)); constant = λ c low width. l.constant c low width }

pub lawful-both : (ws vs : Writes) (k : Knowledge) → IsLawful k → IsLawful (known_both ws vs k)
lawful-both ws vs k l =
    let k' = known_second vs (known_first ws k) in
    let l' : IsLawful k' = lawful-second vs (known_first ws k) (lawful-first ws k l) in
    record {
      undef = λ t. or-right (one_result (Moved Undef) (through vs t)) (k' Undef t) (l'.undef t);
      constant = λ c low width. l'.constant c low width;
    }

lawful-everything : IsLawful everything
lawful-everything = record { undef = λ t. refl; constant = λ c low width. refl }

pub first-known : (ws : Writes) (k : Knowledge) (f : Fact) → fits_first ws f ≡ true → k (before_first ws f).0 (before_first ws f).1 ≡ true → known_first ws k f.0 f.1 ≡ true
first-known ws k f = go (through ws f.0)
  where
    go : (g : Fill) → is_moved (result_of g) ≡ true → k (settled g) f.1 ≡ true → known_left k g f.1 ≡ true
    go (Moved s) e h = h
    go (Computed i) e h = absurd (cc)

same-number : (f g : Fill) → one_number (result_of f) (result_of g) ≡ one_result f g
same-number (Moved s) (Moved t) = refl
same-number (Moved s) (Computed j) = refl
same-number (Computed i) (Moved t) = refl
same-number (Computed i) (Computed j) = refl

abbrev pub chosen : Bool → Fill → Fill → Fact
chosen b g h = cond b (Undef, Undef) (settled g, settled h)

both-known : (ws vs : Writes) (k : Knowledge) (f : Fact) → fits_both ws vs f ≡ true → k (before_both ws vs f).0 (before_both ws vs f).1 ≡ true → known_both ws vs k f.0 f.1 ≡ true
both-known ws vs k f = go (through ws f.0) (through vs f.1)
  where
    choose : (b : Bool) (g h : Fill) → b || is_moved (result_of g) ≡ true → k (chosen b g h).0 (chosen b g h).1 ≡ true → b || known_left k g (settled h) ≡ true
    choose true g h e x = refl
    choose false (Moved s) h e x = x
    choose false (Computed i) h e x = absurd (cc)

    go : (g h : Fill) → one_number (result_of g) (result_of h) || is_moved (result_of g) ≡ true → k (chosen (one_number (result_of g) (result_of h)) g h).0 (chosen (one_number (result_of g) (result_of h)) g h).1 ≡ true → one_result g h || known_left k g (settled h) ≡ true
    go g h e x = subst (λ b. b || known_left k g (settled h) ≡ true) (same-number g h) (choose (one_number (result_of g) (result_of h)) g h e x)

-- what is asked in place of a fact is no more than the fact
pub both-instead : (ws vs : Writes) (f : Fact) → fits_both ws vs f ≡ true → IsInstead (known_both ws vs) f (Some (before_both ws vs f))
both-instead ws vs f fits k l = go (through ws f.0) (through vs f.1) fits
  where
    choose : (b : Bool) (g h : Fill) → b || is_moved (result_of g) ≡ true → b || known_left k g (settled h) ≡ true → k (chosen b g h).0 (chosen b g h).1 ≡ true
    choose true g h e x = l.undef Undef
    choose false (Moved s) h e x = x
    choose false (Computed i) h e x = absurd (cc)

    go : (g h : Fill) → one_number (result_of g) (result_of h) || is_moved (result_of g) ≡ true → one_result g h || known_left k g (settled h) ≡ true → k (chosen (one_number (result_of g) (result_of h)) g h).0 (chosen (one_number (result_of g) (result_of h)) g h).1 ≡ true
    go g h e x = choose (one_number (result_of g) (result_of h)) g h e (subst (λ b. b || known_left k g (settled h) ≡ true) (sym (same-number g h)) x)

pub both-never : (ws vs : Writes) (f : Fact) → fits_both ws vs f ≡ false → IsInstead (known_both ws vs) f None
both-never ws vs f fits k = go (through ws f.0) (through vs f.1) fits
  where
    choose : (b : Bool) (g h : Fill) → b || is_moved (result_of g) ≡ false → b || known_left k g (settled h) ≡ false
    choose true g h e = e
    choose false (Moved s) h e = absurd (cc)
    choose false (Computed i) h e = refl

    go : (g h : Fill) → one_number (result_of g) (result_of h) || is_moved (result_of g) ≡ false → one_result g h || known_left k g (settled h) ≡ false
    go g h e = subst (λ b. b || known_left k g (settled h) ≡ false) (same-number g h) (choose (one_number (result_of g) (result_of h)) g h e)

pub along-instead : (w : EdgePair) (f : Fact) → fits_first w.first f ≡ true → IsInstead (known_along w) f (Some (before_second w.second (before_first w.first f)))
along-instead w f fits k l = go (through w.first f.0) fits
  where
    go : (g : Fill) → is_moved (result_of g) ≡ true → known_left k g (settled (through w.second f.1)) ≡ true → k (settled g) (settled (through w.second f.1)) ≡ true
    go (Moved s) e h = h
    go (Computed i) e h = absurd (cc)

pub along-never : (w : EdgePair) (f : Fact) → fits_first w.first f ≡ false → IsInstead (known_along w) f None
along-never w f fits k = go (through w.first f.0) fits
  where
    go : (g : Fill) → is_moved (result_of g) ≡ false → known_left k g (settled (through w.second f.1)) ≡ false
    go (Moved s) e = absurd (cc)
    go (Computed i) e = refl

-- facts taken from behind writes, and asked for in front of them
pub taken-leads :
    (ws vs : Writes) (old taken middle new : Facts) → Takes ws vs old taken middle → Adds middle (λ k. all_known (known_both ws vs k) taken) new → Lead new (λ k. all_known (known_both ws vs k) old)
taken-leads ws vs old taken middle new takes adds k l h =
    let p = both-true (all_known (known_both ws vs k) taken) (all_known k middle) (adds k l h) in
    takes k ∙ and_from (all_known k middle) (all_known (known_both ws vs k) taken) p.1 p.0

pub taken-least :
    (ws vs : Writes) (old taken middle : Facts) (answer : Bool) (new : Facts) → Takes ws vs old taken middle → Least (λ k. all_known (known_both ws vs k) taken && all_known k middle) answer new → Least (λ k. all_known (known_both ws vs k) old) answer new
taken-least ws vs old taken middle answer new takes least k l h =
    let p = both-true (all_known k middle) (all_known (known_both ws vs k) taken) (sym (takes k) ∙ h) in
    least k l (and_from (all_known (known_both ws vs k) taken) (all_known k middle) p.1 p.0)

-- along a way
pub along-known : (w : EdgePair) (k : Knowledge) (f : Fact) → fits_first w.first f ≡ true → k (before_second w.second (before_first w.first f)).0 (before_second w.second (before_first w.first f)).1 ≡ true → known_along w k f.0 f.1 ≡ true
along-known w k f e h = first-known w.first k (f.0, settled (through w.second f.1)) e h

module _ (family : Family) where
  pub carry-first : (reads : Reads) (ws : Writes) (old new : Facts) → Lead new (λ k. all_known (known_first ws k) old) → Carry family (FirstSilent reads ws) old new
  carry-first reads ws old new lead rows suffice k l h = suffice (known_first ws k) (lawful-first ws k l) (lead k l h)

  pub carry-second : (reads : Reads) (ws : Writes) (old new : Facts) → Lead new (λ k. all_known (known_second ws k) old) → Carry family (SecondSilent reads ws) old new
  carry-second reads ws old new lead rows suffice k l h = suffice (known_second ws k) (lawful-second ws k l) (lead k l h)

  pub carry-start :
      (n : ℕ) (old start : Facts) → ((k : Knowledge) → all_known k start ≡ all_known k (facts_at family n)) → Lead start (λ k. all_known k old) → Carry family (BothStart n) old start
  carry-start n old start same covers rows suffice k l h =
      let at = facts_at family n in
      let e : all_known (known at) old ≡ true = covers (known at) (lawful-known at) (same (known at) ∙ facts-known at) in
      and_from (all_known k at) (rows_hold family rows (known at)) (sym (same k) ∙ h) (suffice (known at) (lawful-known at) e)

  pub carry-end : (falls : Option (Writes × Writes)) (exits : List EdgePair) (old middle new : Facts) → ((rows : List Row) → Suffice family rows old → Lead middle (λ k. rows_hold family rows (behind_falls falls k))) → Adds middle (λ k. ways_hold family k exits) new → Carry family (BothEnd falls exits) old new
  carry-end falls exits old middle new lead adds rows suffice k l h =
      let p = both-true (ways_hold family k exits) (all_known k middle) (adds k l h) in
      go falls p.0 (lead rows suffice k l p.1)
    where
      go : (falls : Option (Writes × Writes)) → ways_hold family k exits ≡ true → rows_hold family rows (behind_falls falls k) ≡ true → rows_hold family (BothEnd falls exits ∷ rows) k ≡ true
      go None a b = and_from (ways_hold family k exits) (rows_hold family rows everything) a b
      go (Some e) a b = and_from (ways_hold family k exits) (rows_hold family rows (known_second e.1 (known_first e.0 k))) a b

  pub leave : (ws vs : Writes) (target : Option EdgePair) (exits : List EdgePair) (old one two new : Facts) → Adds old (λ k. target_holds family k target) one → Adds one (λ k. ways_hold family k exits) two → Lead new (λ k. all_known (known_both ws vs k) two) → Leave family ws vs target exits old new
  leave ws vs target exits old one two new a b c k l h =
      let k' = known_both ws vs k in
      let l' = lawful-both ws vs k l in
      let p = both-true (ways_hold family k' exits) (all_known k' one) (b k' l' (c k l h)) in
      let q = both-true (target_holds family k' target) (all_known k' old) (a k' l' p.1) in
      and_from (target_holds family k' target) (ways_hold family k' exits && all_known k' old) q.0 (and_from (ways_hold family k' exits) (all_known k' old) p.0 q.1)

  pub carry-counted : (r : Rest) (reads reads' : Reads) (ws vs : Writes) (target : Option EdgePair) (exits : List EdgePair) (old middle new : Facts) → Leave family ws vs target exits old middle → Adds middle (λ k. operands_known k reads reads') new → Carry family (BothCounted r reads reads' ws vs target exits) old new
  carry-counted r reads reads' ws vs target exits old middle new leaves adds rows suffice k l h =
      let k' = known_both ws vs k in
      let l' = lawful-both ws vs k l in
      let p = both-true (operands_known k reads reads') (all_known k middle) (adds k l h) in
      let q = both-true (target_holds family k' target) (ways_hold family k' exits && all_known k' old) (leaves k l p.1) in
      let r = both-true (ways_hold family k' exits) (all_known k' old) q.1 in
      and_from (operands_known k reads reads') (target_holds family k' target && (ways_hold family k' exits && rows_hold family rows k')) p.0
      (and_from (target_holds family k' target) (ways_hold family k' exits && rows_hold family rows k') q.0
      (and_from (ways_hold family k' exits) (rows_hold family rows k') r.0 (suffice k' l' r.1)))

  -- a pair that asks for nothing that it reads
  pub carry-unread : (r : Rest) (ws vs : Writes) (target : Option EdgePair) (exits : List EdgePair) (old new : Facts) → Leave family ws vs target exits old new → Carry family (BothCounted r [] [] ws vs target exits) old new
  carry-unread r ws vs target exits old new leaves = carry-counted r [] [] ws vs target exits old new new leaves (λ k l h. h)

  -- what the exits and the branch target ask in front of the writes
  pub writes-least :
      (ws vs : Writes) (target : Option EdgePair) (exits : List EdgePair) (old one two new : Facts) (answer : Bool) → Least (λ k. target_holds family k target && all_known k old) true one →
      Least (λ k. ways_hold family k exits && all_known k one) true two → Least (λ k. all_known (known_both ws vs k) two) answer new → Least (writes_ask family ws vs target exits old) answer new
  writes-least ws vs target exits old one two new answer a b c k l h =
      let k' = known_both ws vs k in
      let l' = lawful-both ws vs k l in
      let p = both-true (target_holds family k' target) (ways_hold family k' exits && all_known k' old) h in
      let q = both-true (ways_hold family k' exits) (all_known k' old) p.1 in
      let x = a k' l' (and_from (target_holds family k' target) (all_known k' old) p.0 q.1) in
      let y = b k' l' (and_from (ways_hold family k' exits) (all_known k' one) q.0 x.1) in
      c k l y.1

  -- the same where the target or an exit can't have its facts
  pub target-never :
      (ws vs : Writes) (target : Option EdgePair) (exits : List EdgePair) (old new new' : Facts) → Least (λ k. target_holds family k target && all_known k old) false new → Least (writes_ask family ws vs target exits old) false new'
  target-never ws vs target exits old new new' a k l h =
      let k' = known_both ws vs k in
      let p = both-true (target_holds family k' target) (ways_hold family k' exits && all_known k' old) h in
      let q = both-true (ways_hold family k' exits) (all_known k' old) p.1 in
      let apart : false ≡ true = (a k' (lawful-both ws vs k l) (and_from (target_holds family k' target) (all_known k' old) p.0 q.1)).0 in
      absurd (cc)

  pub exits-never :
      (ws vs : Writes) (target : Option EdgePair) (exits : List EdgePair) (old one new new' : Facts) → Least (λ k. target_holds family k target && all_known k old) true one →
      Least (λ k. ways_hold family k exits && all_known k one) false new → Least (writes_ask family ws vs target exits old) false new'
  exits-never ws vs target exits old one new new' a b k l h =
      let k' = known_both ws vs k in
      let l' = lawful-both ws vs k l in
      let p = both-true (target_holds family k' target) (ways_hold family k' exits && all_known k' old) h in
      let q = both-true (ways_hold family k' exits) (all_known k' old) p.1 in
      let x = a k' l' (and_from (target_holds family k' target) (all_known k' old) p.0 q.1) in
      let apart : false ≡ true = (b k' l' (and_from (ways_hold family k' exits) (all_known k' one) q.0 x.1)).0 in
      absurd (cc)

  -- what the start of a block asks isn't said
  pub start-least : (n : ℕ) (old : Facts) (answer : Bool) (new : Facts) → Least (row_asks family (BothStart n) old) answer new
  start-least n old answer new k l h = absurd (cc)

  -- what the end of a block asks
  pub end-least :
      (falls : Option (Writes × Writes)) (exits : List EdgePair) (old middle new : Facts) (answer : Bool) → Least (λ k. all_known (behind_falls falls k) old) true middle →
      Least (λ k. ways_hold family k exits && all_known k middle) answer new → Least (row_asks family (BothEnd falls exits) old) answer new
  end-least falls exits old middle new answer a b k l h =
      let p = both-true (ways_hold family k exits) (all_known (behind_falls falls k) old) h in
      b k l (and_from (ways_hold family k exits) (all_known k middle) p.0 (a k l p.1).1)

  pub end-never : (falls : Option (Writes × Writes)) (exits : List EdgePair) (old new : Facts) → Least (λ k. all_known (behind_falls falls k) old) false new → Least (row_asks family (BothEnd falls exits) old) false new
  end-never falls exits old new a k l h = a k l (both-true (ways_hold family k exits) (all_known (behind_falls falls k) old) h).1

  -- what a pair asks
  pub counted-least :
      (r : Rest) (reads reads' : Reads) (ws vs : Writes) (target : Option EdgePair) (exits : List EdgePair) (old middle new : Facts) (answer : Bool) → Least (writes_ask family ws vs target exits old) true middle →
      Least (λ k. operands_known k reads reads' && all_known k middle) answer new → Least (row_asks family (BothCounted r reads reads' ws vs target exits) old) answer new
  counted-least r reads reads' ws vs target exits old middle new answer a b k l h =
      let p = both-true (operands_known k reads reads') (writes_ask family ws vs target exits old k) h in
      b k l (and_from (operands_known k reads reads') (all_known k middle) p.0 (a k l p.1).1)

  pub counted-never :
      (r : Rest) (reads reads' : Reads) (ws vs : Writes) (target : Option EdgePair) (exits : List EdgePair) (old new : Facts) → Least (writes_ask family ws vs target exits old) false new →
      Least (row_asks family (BothCounted r reads reads' ws vs target exits) old) false new
  counted-never r reads reads' ws vs target exits old new a k l h = a k l (both-true (operands_known k reads reads') (writes_ask family ws vs target exits old k) h).1

all-everything : (facts : Facts) → all_known everything facts ≡ true
all-everything [] = refl
all-everything (f ∷ facts) = all-everything facts

-- where control doesn't fall out of a block, nothing is asked
pub falls-nowhere : (family : Family) (rows : List Row) (old new : Facts) → Suffice family rows old → Lead new (λ k. rows_hold family rows everything)
falls-nowhere family rows old new suffice k l h = suffice everything lawful-everything (all-everything old)

pub falls-on : (e : Writes × Writes) (old middle new : Facts) → Lead middle (λ k. all_known (known_second e.1 k) old) → Lead new (λ k. all_known (known_first e.0 k) middle) → (family : Family) (rows : List Row) → Suffice family rows old → Lead new (λ k. rows_hold family rows (known_second e.1 (known_first e.0 k)))
falls-on e old middle new a b family rows suffice k l h =
    let k' = known_first e.0 k in
    let l' = lawful-first e.0 k l in
    suffice (known_second e.1 k') (lawful-second e.1 k' l') (a k' l' (b k l h))

-- the same, no more than is needed
pub falls-least : (ws vs : Writes) (old middle new : Facts) (answer : Bool) → Least (λ k. all_known (known_second vs k) old) true middle → Least (λ k. all_known (known_first ws k) middle) answer new → Least (λ k. all_known (behind_falls (Some (ws, vs)) k) old) answer new
falls-least ws vs old middle new answer a b k l h = b k l (a (known_first ws k) (lawful-first ws k l) h).1

pub falls-never : (ws vs : Writes) (old new new' : Facts) → Least (λ k. all_known (known_second vs k) old) false new → Least (λ k. all_known (behind_falls (Some (ws, vs)) k) old) false new'
falls-never ws vs old new new' a k l h =
    let apart : false ≡ true = (a (known_first ws k) (lawful-first ws k l) h).0 in
    absurd (cc)
