-- What is compared of pairs, beside all that they read.
use Rattle.std.proofs.Common.{◌≡◌, ◌∷◌, ◌∙◌, ◌&&◌, ℕ, zero, suc, Bool, true, false, cond, eqb, List, [], Option, Some, None, map, option_map, take, length, refl, sym, ap, subst}
use Rattle.std.specs.List.{list_all}
use Rattle.std.proofs.lemmas.Bool.{and_from, eqb-true}
use Rattle.target_base.specs.declared.types.Effect.{Effect}
use Rattle.target_base.specs.declared.types.Effect.TheVariants as effects
use Rattle.target_base.specs.declared.types.Target.{Target}
use Rattle.meaning.specs.declared.types.Source.{Source}
use Rattle.meaning.specs.declared.types.Row.{Row}
use Rattle.meaning.specs.declared.types.Row.TheVariants.{BothStart, BothEnd, FirstSilent, SecondSilent, BothCounted}
use Rattle.meaning.specs.Lanes.{Reads}
use Rattle.meaning.specs.Code.{Code}
use Rattle.meaning.specs.Facts.{Knowledge, known_at_start, known_both, operands_known, reads_known}
use Rattle.meaning.specs.Pairing.{pairing}
use Rattle.meaning.specs.Sameness.{same_list}
use Rattle.meaning.specs.Agree.{Family, rows_agree, rows_hold, target_holds, ways_hold}
use Rattle.laws.proofs.Following.{both-true}
use Rattle.mir_func.specs.Value.{Function}
use Rattle.mir_meaning.specs.Codes.{meaning_of}
use Rattle.mir_meaning.specs.Agreement.{FactsHold, HasFacts, asking_at, without_reads, second_meaning}
use Rattle.alloc_check.specs.Bare.{needed_reads, shared_reads}
use Rattle.alloc_check.specs.Compared.{compared, compared_row}
use Rattle.alloc_check.specs.Asking.{is_pair}
use Rattle.alloc_check.specs.Doubt.{is_marker, lanes_alike, MarkersAlike, SharedFactsHold, HasSharedFacts}
use Rattle.alloc_check.proofs.Asking.{row_holds, row_after, row-parts, row-whole, asks-other}

first-known : (k : Knowledge) (ss ts : List Source) → reads_known k ss ts ≡ true → reads_known k (take (length ts) ss) (take (length ss) ts) ≡ true
first-known k [] [] h = refl
first-known k [] (t ∷ ts) h = absurd (cc)
first-known k (s ∷ ss) [] h = absurd (cc)
first-known k (s ∷ ss) (t ∷ ts) h = let p = both-true (k s t) (reads_known k ss ts) h in and_from (k s t) (reads_known k (take (length ts) ss) (take (length ss) ts)) p.0 (first-known k ss ts p.1)

shared-known : (k : Knowledge) (ss ts : Reads) → operands_known k ss ts ≡ true → operands_known k (shared_reads ss ts) (shared_reads ts ss) ≡ true
shared-known k [] [] h = refl
shared-known k [] (t ∷ ts) h = absurd (cc)
shared-known k (s ∷ ss) [] h = absurd (cc)
shared-known k (s ∷ ss) (t ∷ ts) h =
    let p = both-true (reads_known k s t) (operands_known k ss ts) h in
    and_from (reads_known k (take (length t) s) (take (length s) t)) (operands_known k (shared_reads ss ts) (shared_reads ts ss)) (first-known k s t p.0) (shared-known k ss ts p.1)

needed-known : (k : Knowledge) (e : Effect) (ss ts : Reads) → operands_known k ss ts ≡ true → operands_known k (needed_reads e ss ts) (needed_reads e ts ss) ≡ true
needed-known k effects.Marker ss ts h = shared-known k ss ts h
needed-known k e ss ts h = h

-- nothing is left out where both have as many
taken-all : (ss ts : List Source) → length ss ≡ length ts → take (length ts) ss ≡ ss
taken-all ss ts e = ap (λ n. take n ss) (sym e) ∙ whole ss
  where
    whole : (ss : List Source) → take (length ss) ss ≡ ss
    whole [] = refl
    whole (s ∷ ss) = ap (λ xs. s ∷ xs) (whole ss)

abbrev same_lengths : Reads → Reads → Bool
same_lengths ss ts = same_list (λ (xs ys : List Source). eqb (length xs) (length ys)) ss ts

shared-all : (ss ts : Reads) → same_lengths ss ts ≡ true → (shared_reads ss ts ≡ ss) × (shared_reads ts ss ≡ ts)
shared-all [] [] h = (refl, refl)
shared-all [] (t ∷ ts) h = absurd (cc)
shared-all (s ∷ ss) [] h = absurd (cc)
shared-all (s ∷ ss) (t ∷ ts) h =
    let p = both-true (eqb (length s) (length t)) (same_lengths ss ts) h in
    let e = eqb-true (length s) (length t) p.0 in
    let r = shared-all ss ts p.1 in
    ((λ i. taken-all s t e i ∷ r.0 i), (λ i. taken-all t s (sym e) i ∷ r.1 i))

needed-all : (e : Effect) (ss ts : Reads) → cond (is_marker e) (same_lengths ss ts) true ≡ true → (needed_reads e ss ts ≡ ss) × (needed_reads e ts ss ≡ ts)
needed-all effects.Marker ss ts h = shared-all ss ts h
needed-all e ss ts h = (refl, refl)

needed-none : (e : Effect) → needed_reads e [] [] ≡ []
needed-none effects.Marker = refl
needed-none e = refl

module _ (family : Family) where
  after-compared : (row : Row) (k : Knowledge) → row_after family (compared_row row) k ≡ row_after family row k
  after-compared (BothStart n) k = refl
  after-compared (BothEnd None exits) k = refl
  after-compared (BothEnd (Some e) exits) k = refl
  after-compared (FirstSilent reads ws) k = refl
  after-compared (SecondSilent reads ws) k = refl
  after-compared (BothCounted r reads reads' ws ws' target exits) k = refl

  holds-compared : (row : Row) (k : Knowledge) → row_holds family row k ≡ true → row_holds family (compared_row row) k ≡ true
  holds-compared (BothStart n) k h = h
  holds-compared (BothEnd falls exits) k h = h
  holds-compared (FirstSilent reads ws) k h = h
  holds-compared (SecondSilent reads ws) k h = h
  holds-compared (BothCounted r reads reads' ws ws' target exits) k h =
      let rest = target_holds family (known_both ws ws' k) target && ways_hold family (known_both ws ws' k) exits in
      let p = both-true (operands_known k reads reads') rest h in
      and_from (operands_known k (needed_reads r.effect reads reads') (needed_reads r.effect reads' reads)) rest (needed-known k r.effect reads reads' p.0) p.1

  compared-holds : (row : Row) (k : Knowledge) → lanes_alike row ≡ true → row_holds family (compared_row row) k ≡ true → row_holds family row k ≡ true
  compared-holds (BothStart n) k e h = h
  compared-holds (BothEnd falls exits) k e h = h
  compared-holds (FirstSilent reads ws) k e h = h
  compared-holds (SecondSilent reads ws) k e h = h
  compared-holds (BothCounted r reads reads' ws ws' target exits) k e h =
      let same = needed-all r.effect reads reads' e in
      subst (λ (x : Bool). x && (target_holds family (known_both ws ws' k) target && ways_hold family (known_both ws ws' k) exits) ≡ true) (λ i. operands_known k (same.0 i) (same.1 i)) h

  -- rows that hold, as they are compared
  rows-compared : (rows : List Row) (k : Knowledge) → rows_hold family rows k ≡ true → rows_hold family (map compared_row rows) k ≡ true
  rows-compared [] k h = refl
  rows-compared (row ∷ rows) k h =
      let p = row-parts family row rows k h in
      row-whole family (compared_row row) (map compared_row rows) k (holds-compared row k p.0)
      (subst (λ (x : Knowledge). rows_hold family (map compared_row rows) x ≡ true) (sym (after-compared row k)) (rows-compared rows (row_after family row k) p.1))

  -- and back, where markers read as many lanes
  compared-rows : (rows : List Row) (k : Knowledge) → list_all lanes_alike rows ≡ true → rows_hold family (map compared_row rows) k ≡ true → rows_hold family rows k ≡ true
  compared-rows [] k e h = refl
  compared-rows (row ∷ rows) k e h =
      let q = both-true (lanes_alike row) (list_all lanes_alike rows) e in
      let p = row-parts family (compared_row row) (map compared_row rows) k h in
      row-whole family row rows k (compared-holds row k q.0 p.0)
      (compared-rows rows (row_after family row k) q.1 (subst (λ (x : Knowledge). rows_hold family (map compared_row rows) x ≡ true) (after-compared row k) p.1))

-- of rows one of which asks
compared-quiet : (row : Row) → without_reads (compared_row row) ≡ compared_row (without_reads row)
compared-quiet (BothStart n) = refl
compared-quiet (BothEnd falls exits) = refl
compared-quiet (FirstSilent reads ws) = refl
compared-quiet (SecondSilent reads ws) = refl
compared-quiet (BothCounted r reads reads' ws ws' target exits) = λ i. BothCounted r (sym (needed-none r.effect) i) (sym (needed-none r.effect) i) ws ws' target exits

all-compared-quiet : (rows : List Row) → map without_reads (map compared_row rows) ≡ map compared_row (map without_reads rows)
all-compared-quiet [] = refl
all-compared-quiet (row ∷ rows) = λ i. compared-quiet row i ∷ all-compared-quiet rows i

asking-compared : (n : ℕ) (rows : List Row) → asking_at n (map compared_row rows) ≡ map compared_row (asking_at n rows)
asking-compared n [] = refl
asking-compared zero (BothCounted r reads reads' ws ws' target exits ∷ rows) = ap (λ rs. compared_row (BothCounted r reads reads' ws ws' target exits) ∷ rs) (all-compared-quiet rows)
asking-compared (suc n) (BothCounted r reads reads' ws ws' target exits ∷ rows) = λ i. compared-quiet (BothCounted r reads reads' ws ws' target exits) i ∷ asking-compared n rows i
asking-compared zero (BothStart m ∷ rows) = ap (λ rs. BothStart m ∷ rs) (asking-compared zero rows)
asking-compared (suc n) (BothStart m ∷ rows) = ap (λ rs. BothStart m ∷ rs) (asking-compared (suc n) rows)
asking-compared zero (BothEnd falls exits ∷ rows) = ap (λ rs. BothEnd falls exits ∷ rs) (asking-compared zero rows)
asking-compared (suc n) (BothEnd falls exits ∷ rows) = ap (λ rs. BothEnd falls exits ∷ rs) (asking-compared (suc n) rows)
asking-compared zero (FirstSilent reads ws ∷ rows) = ap (λ rs. FirstSilent [] ws ∷ rs) (asking-compared zero rows)
asking-compared (suc n) (FirstSilent reads ws ∷ rows) = ap (λ rs. FirstSilent [] ws ∷ rs) (asking-compared (suc n) rows)
asking-compared zero (SecondSilent reads ws ∷ rows) = ap (λ rs. SecondSilent [] ws ∷ rs) (asking-compared zero rows)
asking-compared (suc n) (SecondSilent reads ws ∷ rows) = ap (λ rs. SecondSilent [] ws ∷ rs) (asking-compared (suc n) rows)

quiet-alike : (row : Row) → lanes_alike (without_reads row) ≡ true
quiet-alike (BothStart n) = refl
quiet-alike (BothEnd falls exits) = refl
quiet-alike (FirstSilent reads ws) = refl
quiet-alike (SecondSilent reads ws) = refl
quiet-alike (BothCounted r reads reads' ws ws' target exits) = go (is_marker r.effect)
  where
    go : (b : Bool) → cond b true true ≡ true
    go true = refl
    go false = refl

all-quiet-alike : (rows : List Row) → list_all lanes_alike (map without_reads rows) ≡ true
all-quiet-alike [] = refl
all-quiet-alike (row ∷ rows) = and_from (lanes_alike (without_reads row)) (list_all lanes_alike (map without_reads rows)) (quiet-alike row) (all-quiet-alike rows)

module _ (row : Row) (rows : List Row) (h : list_all lanes_alike (row ∷ rows) ≡ true) where
  abbrev halves : (lanes_alike row ≡ true) × (list_all lanes_alike rows ≡ true)
  halves = both-true (lanes_alike row) (list_all lanes_alike rows) h

  alike-other : (n : ℕ) → is_pair row ≡ false → list_all lanes_alike (asking_at n rows) ≡ true → list_all lanes_alike (asking_at n (row ∷ rows)) ≡ true
  alike-other n e rest = subst (λ rs. list_all lanes_alike rs ≡ true) (sym (asks-other n row rows e)) (and_from (lanes_alike row) (list_all lanes_alike (asking_at n rows)) halves.0 rest)

asking-alike : (n : ℕ) (rows : List Row) → list_all lanes_alike rows ≡ true → list_all lanes_alike (asking_at n rows) ≡ true
asking-alike n [] h = refl
asking-alike zero (BothCounted r reads reads' ws ws' target exits ∷ rows) h =
    let row = BothCounted r reads reads' ws ws' target exits in
    and_from (lanes_alike row) (list_all lanes_alike (map without_reads rows)) (halves row rows h).0 (all-quiet-alike rows)
asking-alike (suc n) (BothCounted r reads reads' ws ws' target exits ∷ rows) h =
    let row = BothCounted r reads reads' ws ws' target exits in
    and_from (lanes_alike (without_reads row)) (list_all lanes_alike (asking_at n rows)) (quiet-alike row) (asking-alike n rows (halves row rows h).1)
asking-alike n (BothStart m ∷ rows) h = alike-other (BothStart m) rows h n refl (asking-alike n rows (halves (BothStart m) rows h).1)
asking-alike n (BothEnd falls exits ∷ rows) h = alike-other (BothEnd falls exits) rows h n refl (asking-alike n rows (halves (BothEnd falls exits) rows h).1)
asking-alike n (FirstSilent reads ws ∷ rows) h = alike-other (FirstSilent reads ws) rows h n refl (asking-alike n rows (halves (FirstSilent reads ws) rows h).1)
asking-alike n (SecondSilent reads ws ∷ rows) h = alike-other (SecondSilent reads ws) rows h n refl (asking-alike n rows (halves (SecondSilent reads ws) rows h).1)

-- of two functions
module _ (t : Target) (f g : Function) where
  abbrev p : Code
  p = (meaning_of t f).code

  abbrev q : Code
  q = (second_meaning t f g).code

  abbrev start : Knowledge
  start = known_at_start (meaning_of t f).given (second_meaning t f g).given

  pub facts-shared : FactsHold t f g → SharedFactsHold t f g
  facts-shared h = (h.0, go (pairing p q) h.1)
    where
      go : (o : Option (List Row)) → rows_agree h.0 o start ≡ true → rows_agree h.0 (option_map (map compared_row) o) start ≡ true
      go None e = absurd (cc)
      go (Some rows) e = rows-compared h.0 rows start e

  module _ (markers : MarkersAlike t f g) where
    pub shared-facts : SharedFactsHold t f g → FactsHold t f g
    shared-facts h = (h.0, go (pairing p q) refl h.1)
      where
        go : (o : Option (List Row)) → pairing p q ≡ o → rows_agree h.0 (option_map (map compared_row) o) start ≡ true → rows_agree h.0 o start ≡ true
        go None is e = absurd (cc)
        go (Some rows) is e = compared-rows h.0 rows start (markers rows is) e

    pub shared-has : (n : ℕ) → HasSharedFacts t f g n → HasFacts t f g n
    shared-has n h = (h.0, go (pairing p q) refl h.1)
      where
        go : (o : Option (List Row)) → pairing p q ≡ o → rows_agree h.0 (option_map (asking_at n) (option_map (map compared_row) o)) start ≡ true → rows_agree h.0 (option_map (asking_at n) o) start ≡ true
        go None is e = absurd (cc)
        go (Some rows) is e = compared-rows h.0 (asking_at n rows) start (asking-alike n rows (markers rows is)) (subst (λ rs. rows_hold h.0 rs start ≡ true) (asking-compared n rows) e)

  pub has-shared : (n : ℕ) → HasFacts t f g n → HasSharedFacts t f g n
  has-shared n h = (h.0, go (pairing p q) h.1)
    where
      go : (o : Option (List Row)) → rows_agree h.0 (option_map (asking_at n) o) start ≡ true → rows_agree h.0 (option_map (asking_at n) (option_map (map compared_row) o)) start ≡ true
      go None e = absurd (cc)
      go (Some rows) e = subst (λ rs. rows_hold h.0 rs start ≡ true) (sym (asking-compared n rows)) (rows-compared h.0 (asking_at n rows) start e)
