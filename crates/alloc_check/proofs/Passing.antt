-- Passes over rows: what they need is known to each family above.
use Rattle.std.proofs.Common.{◌≡◌, ◌∷◌, ◌++◌, ◌<◌, ◌+◌, ℕ, zero, suc, Bool, true, false, cond, List, [], refl, sym, ap, subst, ◌∙◌, drop, take, get_or, set, length, arith, eqb, Result, Ok, Err, IfOk}
use Rattle.std.proofs.lemmas.Bool.{eqb-true}
use Rattle.std.proofs.lemmas.List.{at_drop_more, take-append-drop}
use Rattle.target_base.specs.declared.types.Target.{Target}
use Rattle.meaning.specs.declared.types.Row.{Row}
use Rattle.meaning.specs.declared.types.Row.TheVariants.{BothStart, BothEnd, FirstSilent, SecondSilent, BothCounted}
use Rattle.meaning.specs.Facts.{Facts, Knowledge, all_known, known, known_at_start}
use Rattle.meaning.specs.Agree.{Family, facts_at, rows_hold}
use Rattle.mir_func.specs.Value.{Function}
use Rattle.mir_meaning.specs.Codes.{given_of}
use Rattle.laws.proofs.Following.{both-true}
use Rattle.laws.proofs.Closed.{IsClosed, closed-known, closed-start, known-known}
use Rattle.alloc_check.specs.Needs.{Lead, Least, Carry, row_asks}
use Rattle.alloc_check.specs.Cells.{asked}
use Rattle.alloc_check.specs.Families.{is_inside, IsBelow, Necessary, IsLeast, IsPassed, NeverAbove, MeetsRow, PutsAt, Decides}
use Rattle.alloc_check.specs.declared.settle.Pass.{Pass}
use Rattle.alloc_check.proofs.Alone.{all-alike}
use Rattle.alloc_check.proofs.Lawful.{lawful-start}
use Rattle.alloc_check.proofs.Steps.{carry-start}
use Rattle.alloc_check.proofs.Greatest.{Behind, below-known, holds-behind, row-necessary}

never-true : {P : Type 0} → false ≡ true → P
never-true e = absurd (cc)

pub passed-none : (a : Family) (p : Pass) → asked p.needs ≡ [] → IsPassed a a [] p
passed-none a p e = record { enough = λ s k l x. refl; needed = λ family below k c x. (ap (all_known k) e, below) }

-- one entry more or less in front
entry-known : (k : Knowledge) (n m : ℕ) (x : ℕ × Facts) (old new : Family) → (all_known k (facts_at old m) ≡ true → all_known k (facts_at new m) ≡ true) → all_known k (facts_at (x ∷ old) m) ≡ true → all_known k (facts_at (x ∷ new) m) ≡ true
entry-known k n m x old new rest h = go (eqb x.0 m) h
  where
    go : (b : Bool) → all_known k (cond b x.1 (facts_at old m)) ≡ true → all_known k (cond b x.1 (facts_at new m)) ≡ true
    go true h = h
    go false h = rest h

put-here : (k : Knowledge) (facts old rest : Facts) (b : Bool) → all_known k (cond b old rest) ≡ true → (b ≡ true → all_known k facts ≡ true) → all_known k (cond b facts rest) ≡ true
put-here k facts old rest true h own = own refl
put-here k facts old rest false h own = h

-- facts that are put
pub put-set : (family : Family) (n i : ℕ) (e : ℕ × Facts) (facts : Facts) → i < length family → e ≡ get_or family i e → e.0 ≡ n → PutsAt family n facts (set family i (n, facts))
put-set [] n i e facts lt at is k m h own = absurd (let x : ⊥ = omega (arith, lt) in x)
put-set (x ∷ family) n zero e facts lt at is k m h own =
    let same : eqb x.0 m ≡ eqb n m = ap (λ j. eqb j m) (ap (λ (y : ℕ × Facts). y.0) (sym at) ∙ is) in
    put-here k facts x.1 (facts_at family m) (eqb n m) (subst (λ b. all_known k (cond b x.1 (facts_at family m)) ≡ true) same h) own
put-set (x ∷ family) n (suc i) e facts lt at is k m h own = entry-known k n m x family (set family i (n, facts)) (λ r. put-set family n i e facts (omega (arith, lt)) at is k m r own) h

pub put-behind : (family : Family) (n : ℕ) (facts : Facts) → PutsAt family n facts (family ++ (n, facts) ∷ [])
put-behind [] n facts k m h own = put-here k facts [] [] (eqb n m) (empty (eqb n m)) own
  where
    empty : (b : Bool) → all_known k (cond b [] []) ≡ true
    empty true = refl
    empty false = refl
put-behind (x ∷ family) n facts k m h own = entry-known k n m x family (family ++ (n, facts) ∷ []) (λ r. put-behind family n facts k m r own) h

-- what holds at a start, and behind it
start-holds : (family : Family) (n : ℕ) (rows : List Row) (k : Knowledge) → rows_hold family (BothStart n ∷ rows) k ≡ true → (all_known k (facts_at family n) ≡ true) × (rows_hold family rows (known (facts_at family n)) ≡ true)
start-holds family n rows k h = both-true (all_known k (facts_at family n)) (rows_hold family rows (known (facts_at family n))) h

pub passed-covered :
    (a : Family) (n : ℕ) (old new : Pass) → ((k : Knowledge) → all_known k (asked new.needs) ≡ all_known k (facts_at a n)) → new.settled ≡ old.settled →
    Lead (asked new.needs) (λ k. all_known k (asked old.needs)) → MeetsRow a (BothStart n) old true a new
passed-covered a n old new same settled covers first rows p = record {
  enough = λ e. carry-start a n (asked old.needs) (asked new.needs) same covers rows (p.enough (sym settled ∙ e));
  needed = λ family below k c h.
      let s = start-holds family n rows k h in
      let at = facts_at family n in
      let above = (p.needed family below (known at) (closed-known at) s.1).1 in
      (same k ∙ below-known a family above k c n s.0, above);
}

pub passed-put : (a b : Family) (n : ℕ) (old new : Pass) → new.needs ≡ old.needs → new.settled ≡ false → PutsAt a n (asked old.needs) b → MeetsRow a (BothStart n) old true b new
passed-put a b n old new same unsettled puts first rows p = record {
  enough = λ e. never-true (sym unsettled ∙ e);
  needed = λ family below k c h.
      let s = start-holds family n rows k h in
      let at = facts_at family n in
      let own = p.needed family below (known at) (closed-known at) s.1 in (
        ap (λ needs. all_known k (asked needs)) same ∙ all-alike (known at) k (known-known k c at s.0) (asked old.needs) own.0,
        λ m. puts (known (facts_at family m)) m (own.1 m) (λ e. subst (λ x. all_known (known (facts_at family x)) (asked old.needs) ≡ true) (eqb-true n m e) own.0),
      );
}

pub inside-other : (row : Row) → ((n : ℕ) → row ≡ BothStart n → ⊥) → is_inside row ≡ true
inside-other (BothStart n) other = absurd (other n refl)
inside-other (BothEnd falls exits) other = refl
inside-other (FirstSilent reads ws) other = refl
inside-other (SecondSilent reads ws) other = refl
inside-other (BothCounted r reads reads' ws ws' target exits) other = refl

module _ (a : Family) (row : Row) (old new : Pass) (inside : is_inside row ≡ true) (settled : new.settled ≡ old.settled) where
  row-needed : (first : Family) (rows : List Row) → IsPassed first a rows old → (answer : Bool) → Least (row_asks a row (asked old.needs)) answer (asked new.needs) →
      (family : Family) → IsBelow first family → (k : Knowledge) → IsClosed k → rows_hold family (row ∷ rows) k ≡ true → (answer ≡ true) × ((all_known k (asked new.needs) ≡ true) × IsBelow a family)
  row-needed first rows p answer least family below k c h =
      let w : Behind family rows = holds-behind family (row ∷ []) rows k c h in
      let above : IsBelow a family = (p.needed family below w.knows w.closed w.hold).1 in
      let necessary : Necessary family rows (asked old.needs) = λ k' c' h'. (p.needed family below k' c' h').0 in
      let r = row-necessary a family above row rows (asked old.needs) (asked new.needs) answer inside necessary least k c h in
      (r.0, (r.1, above))

  pub passed-row : (answer : Bool) → (answer ≡ true → Carry a row (asked old.needs) (asked new.needs)) → Least (row_asks a row (asked old.needs)) answer (asked new.needs) → MeetsRow a row old answer a new
  passed-row true carry least = λ first rows p. record { enough = λ e. carry refl rows (p.enough (sym settled ∙ e)); needed = λ family below k c h. (row-needed first rows p true least family below k c h).1 }
  passed-row false carry least = λ first rows p family below k c h. never-true (row-needed first rows p false least family below k c h).0

-- two promises of one answer
pub both-ok : {A E : Type 0} (P Q R : A → Type 0) (r : Result A E) → ((a : A) → P a → Q a → R a) → IfOk r P → IfOk r Q → IfOk r R
both-ok P Q R (Ok a) f p q = f a p q
both-ok P Q R (Err e) f p q = p

-- a row of all of them
module _ (first : Family) (rows : List Row) (j : ℕ) (row : Row) (lt : j < length rows) (at : row ≡ get_or rows j row) (a b : Family) (old new : Pass) (p : IsPassed first a (drop (j + 1) rows) old) where
  dropped : drop j rows ≡ row ∷ drop (j + 1) rows
  dropped = at_drop_more (λ xs. xs) rows j row lt ∙ ap (λ x. x ∷ drop (j + 1) rows) (sym at)

  pub passed-more : MeetsRow a row old true b new → IsPassed first b (drop j rows) new
  passed-more step = subst (λ xs. IsPassed first b xs new) (sym dropped) (step first (drop (j + 1) rows) p)

  pub passed-never : MeetsRow a row old false b new → NeverAbove first rows
  passed-never step family below k c h =
      let w : Behind family (drop j rows) = holds-behind family (take j rows) (drop j rows) k c (subst (λ xs. rows_hold family xs k ≡ true) (sym (take-append-drop j rows)) h) in
      step first (drop (j + 1) rows) p family below w.knows w.closed (subst (λ xs. rows_hold family xs w.knows ≡ true) dropped w.hold)

-- the search
pub least-none : (rows : List Row) (a : Family) → a ≡ [] → IsLeast rows a
least-none rows a e family k c h n = ap (λ f. all_known (known (facts_at family n)) (facts_at f n)) e

pub least-next : (rows : List Row) (a b : Family) (p : Pass) → IsLeast rows a → IsPassed a b rows p → IsLeast rows b
least-next rows a b p least passed family k c h = (passed.needed family (least family k c h) k c h).1

pub decided-never : (t : Target) (f g : Function) (rows : List Row) (a : Family) → IsLeast rows a → NeverAbove a rows → Decides t f g rows false
decided-never t f g rows a least never h =
    let k = known_at_start (given_of t f) (given_of t g) in
    let c = closed-start (given_of t f) (given_of t g) in
    never h.0 (least h.0 k c h.1) k c h.1

pub decided :
    (t : Target) (f g : Function) (rows : List Row) (a b : Family) (p : Pass) → IsLeast rows a → IsPassed a b rows p → p.settled ≡ true →
    (answer : Bool) → answer ≡ all_known (known_at_start (given_of t f) (given_of t g)) (asked p.needs) → Decides t f g rows answer
decided t f g rows a b p least passed settled true e =
    let k = known_at_start (given_of t f) (given_of t g) in
    (b, passed.enough settled k (lawful-start (given_of t f) (given_of t g)) (sym e))
decided t f g rows a b p least passed settled false e =
    let k = known_at_start (given_of t f) (given_of t g) in
    let c = closed-start (given_of t f) (given_of t g) in
    λ h. never-true (e ∙ (passed.needed h.0 (least h.0 k c h.1) k c h.1).0)
