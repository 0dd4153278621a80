-- Rows of which some pairs ask for facts, and families that are put together.
use Rattle.std.proofs.Common.{◌≡◌, ◌∷◌, ◌++◌, ◌∙◌, ◌&&◌, ◌||◌, ◌<◌, ℕ, zero, suc, Bool, true, false, cond, List, [], Option, Some, None, map, take, drop, length, refl, sym, ap, subst, arith, inl, inr, eqb}
use Rattle.std.proofs.lemmas.Bool.{and_from, eqb-true}
use Rattle.meaning.specs.declared.types.Source.{Source}
use Rattle.meaning.specs.declared.types.Fill.{Fill}
use Rattle.meaning.specs.declared.types.Fill.TheVariants.{Moved, Computed}
use Rattle.meaning.specs.declared.types.Row.{Row}
use Rattle.meaning.specs.declared.types.Row.TheVariants.{BothStart, BothEnd, FirstSilent, SecondSilent, BothCounted}
use Rattle.meaning.specs.declared.types.EdgePair.{EdgePair}
use Rattle.meaning.specs.declared.types.Rest.{Rest}
use Rattle.meaning.specs.Lanes.{Writes, Reads, settled, through}
use Rattle.meaning.specs.Facts.{Fact, Facts, Knowledge, all_known, everything, known, known_left, known_first, known_second, known_both, one_result, reads_known, operands_known}
use Rattle.meaning.specs.Agree.{Family, facts_at, known_along, way_holds, ways_hold, target_holds, rows_hold}
use Rattle.mir_meaning.specs.Agreement.{without_reads, asking_at}
use Rattle.laws.proofs.Following.{both-true}
use Rattle.laws.proofs.Closed.{IsClosed, closed-known, known-known, either-true, or-left, or-right}
use Rattle.alloc_check.specs.Asking.{asked_to, counted_rows, is_pair, joined_at, joined}
use Rattle.alloc_check.proofs.Alone.{all-alike}
use Rattle.alloc_check.proofs.Lawful.{facts-known, all-append}

-- what one row asks, and what is known behind it
abbrev pub row_holds : Family → Row → Knowledge → Bool
row_holds family (BothStart n) k = all_known k (facts_at family n)
row_holds family (BothEnd falls exits) k = ways_hold family k exits
row_holds family (FirstSilent reads ws) k = true
row_holds family (SecondSilent reads ws) k = true
row_holds family (BothCounted r reads reads' ws ws' target exits) k = operands_known k reads reads' && (target_holds family (known_both ws ws' k) target && ways_hold family (known_both ws ws' k) exits)

abbrev pub row_after : Family → Row → Knowledge → Knowledge
row_after family (BothStart n) k = known (facts_at family n)
row_after family (BothEnd None exits) k = everything
row_after family (BothEnd (Some e) exits) k = known_second e.1 (known_first e.0 k)
row_after family (FirstSilent reads ws) k = known_first ws k
row_after family (SecondSilent reads ws) k = known_second ws k
row_after family (BothCounted r reads reads' ws ws' target exits) k = known_both ws ws' k

and-third : (a b c d : Bool) → a && (b && (c && d)) ≡ (a && (b && c)) && d
and-third true true c d = refl
and-third true false c d = refl
and-third false b c d = refl

row-split : (family : Family) (row : Row) (rows : List Row) (k : Knowledge) → rows_hold family (row ∷ rows) k ≡ row_holds family row k && rows_hold family rows (row_after family row k)
row-split family (BothStart n) rows k = refl
row-split family (BothEnd None exits) rows k = refl
row-split family (BothEnd (Some e) exits) rows k = refl
row-split family (FirstSilent reads ws) rows k = refl
row-split family (SecondSilent reads ws) rows k = refl
row-split family (BothCounted r reads reads' ws ws' target exits) rows k =
    let k' : Knowledge = known_both ws ws' k in
    and-third (operands_known k reads reads') (target_holds family k' target) (ways_hold family k' exits) (rows_hold family rows k')

pub row-parts : (family : Family) (row : Row) (rows : List Row) (k : Knowledge) → rows_hold family (row ∷ rows) k ≡ true → (row_holds family row k ≡ true) × (rows_hold family rows (row_after family row k) ≡ true)
row-parts family row rows k h = both-true (row_holds family row k) (rows_hold family rows (row_after family row k)) (sym (row-split family row rows k) ∙ h)

pub row-whole : (family : Family) (row : Row) (rows : List Row) (k : Knowledge) → row_holds family row k ≡ true → rows_hold family rows (row_after family row k) ≡ true → rows_hold family (row ∷ rows) k ≡ true
row-whole family row rows k h g = row-split family row rows k ∙ and_from (row_holds family row k) (rows_hold family rows (row_after family row k)) h g

-- a row that asks for nothing
without-after : (family : Family) (row : Row) (k : Knowledge) → row_after family (without_reads row) k ≡ row_after family row k
without-after family (BothStart n) k = refl
without-after family (BothEnd None exits) k = refl
without-after family (BothEnd (Some e) exits) k = refl
without-after family (FirstSilent reads ws) k = refl
without-after family (SecondSilent reads ws) k = refl
without-after family (BothCounted r reads reads' ws ws' target exits) k = refl

without-holds : (family : Family) (row : Row) (k : Knowledge) → row_holds family row k ≡ true → row_holds family (without_reads row) k ≡ true
without-holds family (BothStart n) k h = h
without-holds family (BothEnd falls exits) k h = h
without-holds family (FirstSilent reads ws) k h = h
without-holds family (SecondSilent reads ws) k h = h
without-holds family (BothCounted r reads reads' ws ws' target exits) k h = (both-true (operands_known k reads reads') (target_holds family (known_both ws ws' k) target && ways_hold family (known_both ws ws' k) exits) h).1

-- a row of which no more is asked, with rows behind
less : (family : Family) (row : Row) (rows rows' : List Row) (k : Knowledge) → ((k : Knowledge) → rows_hold family rows k ≡ true → rows_hold family rows' k ≡ true) → rows_hold family (row ∷ rows) k ≡ true → rows_hold family (row ∷ rows') k ≡ true
less family row rows rows' k step h = let p = row-parts family row rows k h in row-whole family row rows' k p.0 (step (row_after family row k) p.1)

less-quiet : (family : Family) (row : Row) (rows rows' : List Row) (k : Knowledge) → ((k : Knowledge) → rows_hold family rows k ≡ true → rows_hold family rows' k ≡ true) → rows_hold family (row ∷ rows) k ≡ true → rows_hold family (without_reads row ∷ rows') k ≡ true
less-quiet family row rows rows' k step h =
    let p = row-parts family row rows k h in
    row-whole family (without_reads row) rows' k (without-holds family row k p.0)
    (subst (λ (x : Knowledge). rows_hold family rows' x ≡ true) (sym (without-after family row k)) (step (row_after family row k) p.1))

pub quiet-holds : (family : Family) (rows : List Row) (k : Knowledge) → rows_hold family rows k ≡ true → rows_hold family (map without_reads rows) k ≡ true
quiet-holds family [] k h = refl
quiet-holds family (row ∷ rows) k h = less-quiet family row rows (map without_reads rows) k (quiet-holds family rows) h

twice-quiet : (row : Row) → without_reads (without_reads row) ≡ without_reads row
twice-quiet (BothStart n) = refl
twice-quiet (BothEnd falls exits) = refl
twice-quiet (FirstSilent reads ws) = refl
twice-quiet (SecondSilent reads ws) = refl
twice-quiet (BothCounted r reads reads' ws ws' target exits) = refl

pub other-quiet : (row : Row) → is_pair row ≡ false → without_reads row ≡ row
other-quiet (BothStart n) e = refl
other-quiet (BothEnd falls exits) e = refl
other-quiet (FirstSilent reads ws) e = refl
other-quiet (SecondSilent reads ws) e = refl
other-quiet (BothCounted r reads reads' ws ws' target exits) e = absurd (cc)

pub asks-other : (n : ℕ) (row : Row) (rows : List Row) → is_pair row ≡ false → asking_at n (row ∷ rows) ≡ row ∷ asking_at n rows
asks-other zero (BothStart n) rows e = refl
asks-other (suc m) (BothStart n) rows e = refl
asks-other zero (BothEnd falls exits) rows e = refl
asks-other (suc m) (BothEnd falls exits) rows e = refl
asks-other zero (FirstSilent reads ws) rows e = refl
asks-other (suc m) (FirstSilent reads ws) rows e = refl
asks-other zero (SecondSilent reads ws) rows e = refl
asks-other (suc m) (SecondSilent reads ws) rows e = refl
asks-other n (BothCounted r reads reads' ws ws' target exits) rows e = absurd (cc)

asks-here : (row : Row) (rows : List Row) → is_pair row ≡ true → asking_at zero (row ∷ rows) ≡ row ∷ map without_reads rows
asks-here (BothStart n) rows e = absurd (cc)
asks-here (BothEnd falls exits) rows e = absurd (cc)
asks-here (FirstSilent reads ws) rows e = absurd (cc)
asks-here (SecondSilent reads ws) rows e = absurd (cc)
asks-here (BothCounted r reads reads' ws ws' target exits) rows e = refl

asks-later : (n : ℕ) (row : Row) (rows : List Row) → is_pair row ≡ true → asking_at (suc n) (row ∷ rows) ≡ without_reads row ∷ asking_at n rows
asks-later n (BothStart m) rows e = absurd (cc)
asks-later n (BothEnd falls exits) rows e = absurd (cc)
asks-later n (FirstSilent reads ws) rows e = absurd (cc)
asks-later n (SecondSilent reads ws) rows e = absurd (cc)
asks-later n (BothCounted r reads reads' ws ws' target exits) rows e = refl

counted-pair : (row : Row) (rows : List Row) → is_pair row ≡ true → counted_rows (row ∷ rows) ≡ suc (counted_rows rows)
counted-pair row rows e = ap (λ b. cond b (suc (counted_rows rows)) (counted_rows rows)) e

counted-other : (row : Row) (rows : List Row) → is_pair row ≡ false → counted_rows (row ∷ rows) ≡ counted_rows rows
counted-other row rows e = ap (λ b. cond b (suc (counted_rows rows)) (counted_rows rows)) e

quiet-asked : (family : Family) (l : ℕ) (rows : List Row) (k : Knowledge) → rows_hold family (asked_to l rows) k ≡ true → rows_hold family (map without_reads rows) k ≡ true
quiet-asked family zero rows k h = h
quiet-asked family (suc l) [] k h = refl
quiet-asked family (suc l) (row ∷ rows) k h = less-quiet family row (asked_to l rows) (map without_reads rows) k (quiet-asked family l rows) h

module _ (family : Family) (l : ℕ) (row : Row) (rows : List Row) (k : Knowledge) (h : rows_hold family (row ∷ asked_to l rows) k ≡ true) where
  abbrev Each : ℕ → Type 0
  Each m = m < counted_rows (take l rows) → (k : Knowledge) → rows_hold family (asked_to l rows) k ≡ true → rows_hold family (asking_at m rows) k ≡ true

  first-one : Each zero → zero < counted_rows (row ∷ take l rows) → (b : Bool) → is_pair row ≡ b → rows_hold family (asking_at zero (row ∷ rows)) k ≡ true
  first-one each lt true e = subst (λ rs. rows_hold family rs k ≡ true) (sym (asks-here row rows e)) (less family row (asked_to l rows) (map without_reads rows) k (quiet-asked family l rows) h)
  first-one each lt false e =
      subst (λ rs. rows_hold family rs k ≡ true) (sym (asks-other zero row rows e))
      (less family row (asked_to l rows) (asking_at zero rows) k (each (subst (λ n. zero < n) (counted-other row (take l rows) e) lt)) h)

  later-one : (m : ℕ) → Each m → Each (suc m) → suc m < counted_rows (row ∷ take l rows) → (b : Bool) → is_pair row ≡ b → rows_hold family (asking_at (suc m) (row ∷ rows)) k ≡ true
  later-one m each each' lt true e =
      let lt' : suc m < suc (counted_rows (take l rows)) = subst (λ n. suc m < n) (counted-pair row (take l rows) e) lt in
      subst (λ rs. rows_hold family rs k ≡ true) (sym (asks-later m row rows e)) (less-quiet family row (asked_to l rows) (asking_at m rows) k (each (omega arith)) h)
  later-one m each each' lt false e =
      subst (λ rs. rows_hold family rs k ≡ true) (sym (asks-other (suc m) row rows e))
      (less family row (asked_to l rows) (asking_at (suc m) rows) k (each' (subst (λ n. suc m < n) (counted-other row (take l rows) e) lt)) h)

-- of the first pairs each one alone
pub one-holds : (family : Family) (l : ℕ) (rows : List Row) (m : ℕ) → m < counted_rows (take l rows) → (k : Knowledge) → rows_hold family (asked_to l rows) k ≡ true → rows_hold family (asking_at m rows) k ≡ true
one-holds family zero rows m lt k h = absurd (let x : ⊥ = omega (arith, lt) in x)
one-holds family (suc l) [] m lt k h = absurd (let x : ⊥ = omega (arith, lt) in x)
one-holds family (suc l) (row ∷ rows) zero lt k h = first-one family l row rows k h (one-holds family l rows zero) lt (is_pair row) refl
one-holds family (suc l) (row ∷ rows) (suc m) lt k h = later-one family l row rows k h m (one-holds family l rows m) (one-holds family l rows (suc m)) lt (is_pair row) refl

module _ (family : Family) (row : Row) (rows : List Row) (k : Knowledge) where
  abbrev Silence : ℕ → Type 0
  Silence n = (k : Knowledge) → rows_hold family (asking_at n rows) k ≡ true → rows_hold family (map without_reads rows) k ≡ true

  quiet-first : Silence zero → (b : Bool) → is_pair row ≡ b → rows_hold family (asking_at zero (row ∷ rows)) k ≡ true → rows_hold family (map without_reads (row ∷ rows)) k ≡ true
  quiet-first step true e h = less-quiet family row (map without_reads rows) (map without_reads rows) k (λ k g. g) (subst (λ rs. rows_hold family rs k ≡ true) (asks-here row rows e) h)
  quiet-first step false e h = less-quiet family row (asking_at zero rows) (map without_reads rows) k step (subst (λ rs. rows_hold family rs k ≡ true) (asks-other zero row rows e) h)

  quiet-later : (n : ℕ) → Silence n → Silence (suc n) → (b : Bool) → is_pair row ≡ b → rows_hold family (asking_at (suc n) (row ∷ rows)) k ≡ true → rows_hold family (map without_reads (row ∷ rows)) k ≡ true
  quiet-later n step step' true e h = less family (without_reads row) (asking_at n rows) (map without_reads rows) k step (subst (λ rs. rows_hold family rs k ≡ true) (asks-later n row rows e) h)
  quiet-later n step step' false e h = less-quiet family row (asking_at (suc n) rows) (map without_reads rows) k step' (subst (λ rs. rows_hold family rs k ≡ true) (asks-other (suc n) row rows e) h)

quiet-asking : (family : Family) (n : ℕ) (rows : List Row) (k : Knowledge) → rows_hold family (asking_at n rows) k ≡ true → rows_hold family (map without_reads rows) k ≡ true
quiet-asking family n [] k h = refl
quiet-asking family zero (row ∷ rows) k h = quiet-first family row rows k (quiet-asking family zero rows) (is_pair row) refl h
quiet-asking family (suc n) (row ∷ rows) k h = quiet-later family row rows k n (quiet-asking family n rows) (quiet-asking family (suc n) rows) (is_pair row) refl h

-- two families together

module _ (a b : Family) where
  abbrev has : Family → ℕ → Bool
  has [] n = false
  has (e ∷ es) n = eqb e.0 n || has es n

  has-append : (xs ys : Family) (n : ℕ) → has (xs ++ ys) n ≡ has xs n || has ys n
  has-append [] ys n = refl
  has-append (e ∷ xs) ys n = ap (λ x. eqb e.0 n || x) (has-append xs ys n) ∙ assoc (eqb e.0 n) (has xs n) (has ys n)
    where
      assoc : (x y z : Bool) → x || (y || z) ≡ (x || y) || z
      assoc true y z = refl
      assoc false y z = refl

  has-none : (es : Family) (n : ℕ) → has es n ≡ false → facts_at es n ≡ []
  has-none [] n h = refl
  has-none (e ∷ es) n h = go (eqb e.0 n) h (has-none es n)
    where
      go : (x : Bool) → x || has es n ≡ false → (has es n ≡ false → facts_at es n ≡ []) → cond x e.1 (facts_at es n) ≡ []
      go true g step = absurd (cc)
      go false g step = step g

  joined-none : (es : Family) (n : ℕ) → has es n ≡ false → facts_at (joined_at a b es) n ≡ []
  joined-none [] n h = refl
  joined-none (e ∷ es) n h = go (eqb e.0 n) h (joined-none es n)
    where
      go : (x : Bool) → x || has es n ≡ false → (has es n ≡ false → facts_at (joined_at a b es) n ≡ []) → cond x (facts_at a e.0 ++ facts_at b e.0) (facts_at (joined_at a b es) n) ≡ []
      go true g step = absurd (cc)
      go false g step = step g

  joined-some : (es : Family) (n : ℕ) → has es n ≡ true → facts_at (joined_at a b es) n ≡ facts_at a n ++ facts_at b n
  joined-some [] n h = absurd (cc)
  joined-some (e ∷ es) n h = go (eqb e.0 n) refl h (joined-some es n)
    where
      go : (x : Bool) → eqb e.0 n ≡ x → x || has es n ≡ true → (has es n ≡ true → facts_at (joined_at a b es) n ≡ facts_at a n ++ facts_at b n) → cond x (facts_at a e.0 ++ facts_at b e.0) (facts_at (joined_at a b es) n) ≡ facts_at a n ++ facts_at b n
      go true s g step = ap (λ m. facts_at a m ++ facts_at b m) (eqb-true e.0 n s)
      go false s g step = step g

  joined-facts : (n : ℕ) → facts_at (joined a b) n ≡ facts_at a n ++ facts_at b n
  joined-facts n = go (has (a ++ b) n) refl
    where
      parts : (x y : Bool) → x || y ≡ false → (x ≡ false) × (y ≡ false)
      parts true y e = absurd (cc)
      parts false y e = (refl, e)

      go : (x : Bool) → has (a ++ b) n ≡ x → facts_at (joined a b) n ≡ facts_at a n ++ facts_at b n
      go true e = joined-some (a ++ b) n e
      go false e =
          let p = parts (has a n) (has b n) (sym (has-append a b n) ∙ e) in
          joined-none (a ++ b) n e ∙ (λ k. sym (has-none a n p.0) k ++ sym (has-none b n p.1) k)

  abbrev j : Family
  j = joined a b

  abbrev Above : Knowledge → Knowledge → Type 0
  Above k k' = (s t : Source) → k s t ≡ true → k' s t ≡ true

  abbrev Under : Family → Type 0
  Under x = (n : ℕ) → all_known (known (facts_at j n)) (facts_at x n) ≡ true

  both-under : (n : ℕ) → (all_known (known (facts_at j n)) (facts_at a n) ≡ true) × (all_known (known (facts_at j n)) (facts_at b n) ≡ true)
  both-under n =
      let k = known (facts_at j n) in
      both-true (all_known k (facts_at a n)) (all_known k (facts_at b n)) (sym (all-append k (facts_at a n) (facts_at b n)) ∙ (ap (all_known k) (sym (joined-facts n)) ∙ facts-known (facts_at j n)))

  facts-joined : (n : ℕ) (k ka kb : Knowledge) → Above ka k → Above kb k → all_known ka (facts_at a n) ≡ true → all_known kb (facts_at b n) ≡ true → all_known k (facts_at j n) ≡ true
  facts-joined n k ka kb up vp h g =
      ap (all_known k) (joined-facts n)
      ∙ (all-append k (facts_at a n) (facts_at b n)
      ∙ and_from (all_known k (facts_at a n)) (all_known k (facts_at b n)) (all-alike ka k up (facts_at a n) h) (all-alike kb k vp (facts_at b n) g))

  first-above : (ws : Writes) (k k' : Knowledge) → Above k k' → Above (known_first ws k) (known_first ws k')
  first-above ws k k' up s t h = go (through ws s) h
    where
      go : (f : Fill) → known_left k f t ≡ true → known_left k' f t ≡ true
      go (Moved r) e = up r t e
      go (Computed i) e = absurd (cc)

  second-above : (ws : Writes) (k k' : Knowledge) → Above k k' → Above (known_second ws k) (known_second ws k')
  second-above ws k k' up s t h = up s (settled (through ws t)) h

  both-above : (ws vs : Writes) (k k' : Knowledge) → Above k k' → Above (known_both ws vs k) (known_both ws vs k')
  both-above ws vs k k' up s t h =
      let r = one_result (through ws s) (through vs t) in
      let l = known_second vs (known_first ws k) s t in
      let l' = known_second vs (known_first ws k') s t in
      elim (either-true r l h) [
        | inl e ↦ or-left r l' e
        | inr e ↦ or-right r l' (second-above vs (known_first ws k) (known_first ws k') (first-above ws k k' up) s t e)
      ]

  along-above : (e : EdgePair) (k k' : Knowledge) → Above k k' → Above (known_along e k) (known_along e k')
  along-above e k k' up = second-above e.second (known_first e.first k) (known_first e.first k') (first-above e.first k k' up)

  after-above : (x : Family) → Under x → (row : Row) (k k' : Knowledge) → Above k k' → Above (row_after x row k) (row_after j row k')
  after-above x under (BothStart n) k k' up = known-known (known (facts_at j n)) (closed-known (facts_at j n)) (facts_at x n) (under n)
  after-above x under (BothEnd None exits) k k' up = λ s t h. h
  after-above x under (BothEnd (Some e) exits) k k' up = second-above e.1 (known_first e.0 k) (known_first e.0 k') (first-above e.0 k k' up)
  after-above x under (FirstSilent reads ws) k k' up = first-above ws k k' up
  after-above x under (SecondSilent reads ws) k k' up = second-above ws k k' up
  after-above x under (BothCounted r reads reads' ws ws' target exits) k k' up = both-above ws ws' k k' up

  reads-above : (k k' : Knowledge) → Above k k' → (ss ts : List Source) → reads_known k ss ts ≡ true → reads_known k' ss ts ≡ true
  reads-above k k' up [] [] h = refl
  reads-above k k' up [] (t ∷ ts) h = absurd (cc)
  reads-above k k' up (s ∷ ss) [] h = absurd (cc)
  reads-above k k' up (s ∷ ss) (t ∷ ts) h = let p = both-true (k s t) (reads_known k ss ts) h in and_from (k' s t) (reads_known k' ss ts) (up s t p.0) (reads-above k k' up ss ts p.1)

  operands-above : (k k' : Knowledge) → Above k k' → (ss ts : Reads) → operands_known k ss ts ≡ true → operands_known k' ss ts ≡ true
  operands-above k k' up [] [] h = refl
  operands-above k k' up [] (t ∷ ts) h = absurd (cc)
  operands-above k k' up (s ∷ ss) [] h = absurd (cc)
  operands-above k k' up (s ∷ ss) (t ∷ ts) h =
      let p = both-true (reads_known k s t) (operands_known k ss ts) h in
      and_from (reads_known k' s t) (operands_known k' ss ts) (reads-above k k' up s t p.0) (operands-above k k' up ss ts p.1)

  ways-joined : (k ka kb : Knowledge) → Above ka k → Above kb k → (es : List EdgePair) → ways_hold a ka es ≡ true → ways_hold b kb es ≡ true → ways_hold j k es ≡ true
  ways-joined k ka kb up vp [] h g = refl
  ways-joined k ka kb up vp (e ∷ es) h g =
      let p = both-true (way_holds a ka e) (ways_hold a ka es) h in
      let q = both-true (way_holds b kb e) (ways_hold b kb es) g in
      and_from (way_holds j k e) (ways_hold j k es)
      (facts-joined e.block (known_along e k) (known_along e ka) (known_along e kb) (along-above e ka k up) (along-above e kb k vp) p.0 q.0)
      (ways-joined k ka kb up vp es p.1 q.1)

  target-joined : (k ka kb : Knowledge) → Above ka k → Above kb k → (o : Option EdgePair) → target_holds a ka o ≡ true → target_holds b kb o ≡ true → target_holds j k o ≡ true
  target-joined k ka kb up vp None h g = refl
  target-joined k ka kb up vp (Some e) h g = facts-joined e.block (known_along e k) (known_along e ka) (known_along e kb) (along-above e ka k up) (along-above e kb k vp) h g

  -- what a row reads is asked, and the rest
  abbrev asks : Row → Knowledge → Bool
  asks (BothCounted r reads reads' ws ws' target exits) k = operands_known k reads reads'
  asks row k = true

  asks-above : (row : Row) (k k' : Knowledge) → Above k k' → asks row k ≡ true → asks row k' ≡ true
  asks-above (BothStart n) k k' up h = refl
  asks-above (BothEnd falls exits) k k' up h = refl
  asks-above (FirstSilent reads ws) k k' up h = refl
  asks-above (SecondSilent reads ws) k k' up h = refl
  asks-above (BothCounted r reads reads' ws ws' target exits) k k' up h = operands-above k k' up reads reads' h

  asks-parts : (x : Family) (row : Row) (k : Knowledge) → row_holds x row k ≡ asks row k && row_holds x (without_reads row) k
  asks-parts x (BothStart n) k = refl
  asks-parts x (BothEnd falls exits) k = refl
  asks-parts x (FirstSilent reads ws) k = refl
  asks-parts x (SecondSilent reads ws) k = refl
  asks-parts x (BothCounted r reads reads' ws ws' target exits) k = refl

  module _ (row : Row) (k ka kb : Knowledge) (up : Above ka k) (vp : Above kb k) where
    quiet-joined : row_holds a (without_reads row) ka ≡ true → row_holds b (without_reads row) kb ≡ true → row_holds j (without_reads row) k ≡ true
    quiet-joined = go row
      where
        go : (row : Row) → row_holds a (without_reads row) ka ≡ true → row_holds b (without_reads row) kb ≡ true → row_holds j (without_reads row) k ≡ true
        go (BothStart n) h g = facts-joined n k ka kb up vp h g
        go (BothEnd falls exits) h g = ways-joined k ka kb up vp exits h g
        go (FirstSilent reads ws) h g = refl
        go (SecondSilent reads ws) h g = refl
        go (BothCounted r reads reads' ws ws' target exits) h g =
            let l = known_both ws ws' k in
            let la = known_both ws ws' ka in
            let lb = known_both ws ws' kb in
            let x = both-above ws ws' ka k up in
            let y = both-above ws ws' kb k vp in
            let p = both-true (target_holds a la target) (ways_hold a la exits) h in
            let q = both-true (target_holds b lb target) (ways_hold b lb exits) g in
            and_from (target_holds j l target) (ways_hold j l exits) (target-joined l la lb x y target p.0 q.0) (ways-joined l la lb x y exits p.1 q.1)

    first-asks : row_holds a row ka ≡ true → row_holds b (without_reads row) kb ≡ true → row_holds j row k ≡ true
    first-asks h g =
        let p = both-true (asks row ka) (row_holds a (without_reads row) ka) (sym (asks-parts a row ka) ∙ h) in
        asks-parts j row k ∙ and_from (asks row k) (row_holds j (without_reads row) k) (asks-above row ka k up p.0) (quiet-joined p.1 g)

    second-asks : row_holds a (without_reads row) ka ≡ true → row_holds b row kb ≡ true → row_holds j row k ≡ true
    second-asks h g =
        let p = both-true (asks row kb) (row_holds b (without_reads row) kb) (sym (asks-parts b row kb) ∙ g) in
        asks-parts j row k ∙ and_from (asks row k) (row_holds j (without_reads row) k) (asks-above row kb k vp p.0) (quiet-joined h p.1)

    -- what is known behind
    up-after : (x : Row) → row_after a x ka ≡ row_after a row ka → Above (row_after a x ka) (row_after j row k)
    up-after x e = subst (λ (z : Knowledge). Above z (row_after j row k)) (sym e) (after-above a (λ n. (both-under n).0) row ka k up)

    vp-after : (x : Row) → row_after b x kb ≡ row_after b row kb → Above (row_after b x kb) (row_after j row k)
    vp-after x e = subst (λ (z : Knowledge). Above z (row_after j row k)) (sym e) (after-above b (λ n. (both-under n).1) row kb k vp)

  quiet-rows : (rows : List Row) (k ka kb : Knowledge) → Above ka k → Above kb k → rows_hold a (map without_reads rows) ka ≡ true → rows_hold b (map without_reads rows) kb ≡ true → rows_hold j (map without_reads rows) k ≡ true
  quiet-rows [] k ka kb up vp h g = refl
  quiet-rows (row ∷ rows) k ka kb up vp h g =
      let quiet = without_reads row in
      let rest = map without_reads rows in
      let p = row-parts a quiet rest ka h in
      let q = row-parts b quiet rest kb g in
      row-whole j quiet rest k (quiet-joined row k ka kb up vp p.0 q.0)
      (subst (λ (z : Knowledge). rows_hold j rest z ≡ true) (sym (without-after j row k))
      (quiet-rows rows (row_after j row k) (row_after a quiet ka) (row_after b quiet kb) (up-after row k ka kb up vp quiet (without-after a row ka)) (vp-after row k ka kb up vp quiet (without-after b row kb)) p.1 q.1))

  asking-first : (row : Row) (rows : List Row) (kb : Knowledge) (x : Bool) → is_pair row ≡ x → rows_hold b (asking_at zero (row ∷ rows)) kb ≡ true → rows_hold b (row ∷ map without_reads rows) kb ≡ true
  asking-first row rows kb true e g = subst (λ rs. rows_hold b rs kb ≡ true) (asks-here row rows e) g
  asking-first row rows kb false e g = less b row (asking_at zero rows) (map without_reads rows) kb (quiet-asking b zero rows) (subst (λ rs. rows_hold b rs kb ≡ true) (asks-other zero row rows e) g)

  asking-later : (row : Row) (rows before : List Row) (kb : Knowledge) (x : Bool) → is_pair row ≡ x → rows_hold b (asking_at (counted_rows (row ∷ before)) (row ∷ rows)) kb ≡ true → rows_hold b (without_reads row ∷ asking_at (counted_rows before) rows) kb ≡ true
  asking-later row rows before kb true e g = subst (λ rs. rows_hold b rs kb ≡ true) (ap (λ n. asking_at n (row ∷ rows)) (counted-pair row before e) ∙ asks-later (counted_rows before) row rows e) g
  asking-later row rows before kb false e g =
      subst (λ rs. rows_hold b rs kb ≡ true) (ap (λ n. asking_at n (row ∷ rows)) (counted-other row before e) ∙ (asks-other (counted_rows before) row rows e ∙ ap (λ r. r ∷ asking_at (counted_rows before) rows) (sym (other-quiet row e)))) g

  -- one family gives the first rows what they need, the other the next pair
  pub one-more :
      (l : ℕ) (rows : List Row) (k ka kb : Knowledge) → Above ka k → Above kb k → rows_hold a (asked_to l rows) ka ≡ true → rows_hold b (asking_at (counted_rows (take l rows)) rows) kb ≡ true →
      rows_hold j (asked_to (suc l) rows) k ≡ true
  one-more zero [] k ka kb up vp h g = refl
  one-more zero (row ∷ rows) k ka kb up vp h g =
      let quiet = without_reads row in
      let rest = map without_reads rows in
      let p = row-parts a quiet rest ka h in
      let q = row-parts b row rest kb (asking-first row rows kb (is_pair row) refl g) in
      row-whole j row rest k (second-asks row k ka kb up vp p.0 q.0)
      (quiet-rows rows (row_after j row k) (row_after a quiet ka) (row_after b row kb) (up-after row k ka kb up vp quiet (without-after a row ka)) (vp-after row k ka kb up vp row refl) p.1 q.1)
  one-more (suc l) [] k ka kb up vp h g = refl
  one-more (suc l) (row ∷ rows) k ka kb up vp h g =
      let quiet = without_reads row in
      let rest = asking_at (counted_rows (take l rows)) rows in
      let p = row-parts a row (asked_to l rows) ka h in
      let q = row-parts b quiet rest kb (asking-later row rows (take l rows) kb (is_pair row) refl g) in
      row-whole j row (asked_to (suc l) rows) k (first-asks row k ka kb up vp p.0 q.0)
      (one-more l rows (row_after j row k) (row_after a row ka) (row_after b quiet kb) (up-after row k ka kb up vp row refl) (vp-after row k ka kb up vp quiet (without-after b row kb)) p.1 q.1)
