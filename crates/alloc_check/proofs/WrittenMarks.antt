-- Marks of the units that rows write.
use Rattle.std.proofs.Common.{◌≡◌, ◌∷◌, ◌&&◌, ◌||◌, ◌∙◌, ◌<◌, ◌≤◌, ◌+◌, ℕ, zero, suc, Bool, true, false, cond, not, List, [], refl, sym, ap, arith, subst, get_or, set, take, take_all, length, replicate}
use Rattle.std.proofs.lemmas.Bool.{eq-eqb, eqb-true}
use Rattle.std.proofs.lemmas.List.{get_or-set_other}
use Rattle.std.proofs.lemmas.List.Elements.{All-head, All-more, All-tail, All-weaker}
use Rattle.std.proofs.lemmas.List.Folds.{list_all_more}
use Rattle.std.specs.Prelude.{nat_eq}
use Rattle.std.specs.List.{All, filter, list_all}
use Rattle.target_base.specs.declared.types.Unit.{Unit as UnitNumber}
use Rattle.meaning.specs.declared.types.Lane.{Lane}
use Rattle.meaning.specs.declared.types.Lane.TheVariants.{UnitLane}
use Rattle.meaning.specs.declared.types.Row.{Row}
use Rattle.meaning.specs.Lanes.{Writes, same_lane}
use Rattle.alloc_check.specs.Marks.{is_marked, unwritten}
use Rattle.alloc_check.specs.Written.{AddsMarks, rows_leave}
use Rattle.alloc_check.proofs.Marked.{set-marked}

none-more : (b : Bool) → b ≡ b || false
none-more true = refl
none-more false = refl

-- where nothing is written
pub adds-none : (marks : List ℕ) → AddsMarks marks (λ l. true) marks
adds-none marks u = none-more (is_marked marks u)

more-true : (b : Bool) → true ≡ b || true
more-true true = refl
more-true false = refl

-- where one unit is written
pub adds-unit : (marks : List ℕ) (a : ℕ) → AddsMarks marks (λ l. not (same_lane (UnitLane a) l)) (set marks a 1)
adds-unit marks a u = go (nat_eq a u) refl
  where
    go : (b : Bool) → nat_eq a u ≡ b → is_marked (set marks a 1) u ≡ is_marked marks u || not (not b)
    go true e = subst (λ n. is_marked (set marks a 1) n ≡ true) (eqb-true a u e) (set-marked marks a) ∙ more-true (is_marked marks u)
    go false e =
        ap (λ mark. not (nat_eq mark 0)) (get_or-set_other marks a u 1 1 (λ h. let t : nat_eq a u ≡ true = eq-eqb a u (sym h) in absurd (cc)))
        ∙ none-more (is_marked marks u)

-- two steps
pub adds-then : (old mid new : List ℕ) (a b : Lane → Bool) → AddsMarks old a mid → AddsMarks mid b new → AddsMarks old (λ l. a l && b l) new
adds-then old mid new a b first second u =
    second u ∙ (ap (λ x. x || not (b (UnitLane u))) (first u) ∙ either (is_marked old u) (a (UnitLane u)) (b (UnitLane u)))
  where
    either : (x y z : Bool) → (x || not y) || not z ≡ x || not (y && z)
    either true y z = refl
    either false true z = refl
    either false false z = refl

-- one element more, and all of them
module _ {X : Type 0} (test : X → Lane → Bool) (old : List ℕ) (xs : List X) where
  pub adds-more :
      (mid new : List ℕ) (i : ℕ) (x : X) → i < length xs → x ≡ get_or xs i x → AddsMarks old (λ l. list_all (λ y. test y l) (take i xs)) mid → AddsMarks mid (test x) new → AddsMarks old (λ l. list_all (λ y. test y l) (take (i + 1) xs)) new
  adds-more mid new i x lt at before here u =
      adds-then old mid new (λ l. list_all (λ y. test y l) (take i xs)) (test x) before here u
      ∙ ap (λ b. is_marked old u || not b)
      (ap (λ y. list_all (λ y. test y (UnitLane u)) (take i xs) && test y (UnitLane u)) at ∙ sym (list_all_more (λ y. test y (UnitLane u)) xs i x lt))

  pub adds-whole : (new : List ℕ) (i : ℕ) → length xs ≤ i → AddsMarks old (λ l. list_all (λ y. test y l) (take i xs)) new → AddsMarks old (λ l. list_all (λ y. test y l) xs) new
  adds-whole new i le h u = h u ∙ ap (λ ys. is_marked old u || not (list_all (λ y. test y (UnitLane u)) ys)) (take_all i xs le)

unwritten-all : (ws : Writes) (l : Lane) → list_all (λ w. not (same_lane w.lane l)) ws ≡ unwritten ws l
unwritten-all [] l = refl
unwritten-all (w ∷ ws) l = ap (λ b. not (same_lane w.lane l) && b) (unwritten-all ws l)

pub adds-writes : (old new : List ℕ) (ws : Writes) → AddsMarks old (λ l. list_all (λ w. not (same_lane w.lane l)) ws) new → AddsMarks old (unwritten ws) new
adds-writes old new ws h u = h u ∙ ap (λ b. is_marked old u || not b) (unwritten-all ws (UnitLane u))

-- marks that began with none
unmarked : (room u : ℕ) → u < room → is_marked (replicate room 0) u ≡ false
unmarked zero u lt = absurd (omega (arith, lt))
unmarked (suc room) zero lt = refl
unmarked (suc room) (suc u) lt = unmarked room u (omega (arith, lt))

pub marks-tell : (room : ℕ) (rows : List Row) (marks : List ℕ) → AddsMarks (replicate room 0) (rows_leave rows) marks → (u : ℕ) → u < room → is_marked marks u ≡ not (rows_leave rows (UnitLane u))
marks-tell room rows marks h u lt = h u ∙ ap (λ b. b || not (rows_leave rows (UnitLane u))) (unmarked room u lt)

-- tests that agree on the numbers of these units keep the same of them
pub same-kept : (a b : ℕ → Bool) (room : ℕ) → ((u : ℕ) → u < room → a u ≡ b u) → (us : List UnitNumber) → All (λ u. u.0 < room) us → filter (λ u. a u.0) us ≡ filter (λ u. b u.0) us
same-kept a b room same [] within = refl
same-kept a b room same (u ∷ us) within =
    let rest = same-kept a b room same us (All-tail (λ u. u.0 < room) u us within) in
    ap (λ x. cond x (u ∷ filter (λ u. a u.0) us) (filter (λ u. a u.0) us)) (same u.0 (All-head (λ u. u.0 < room) u us within)) ∙ ap (λ vs. cond (b u.0) (u ∷ vs) vs) rest

-- a greater number above one unit more
pub above-more : (us : List UnitNumber) (i old new : ℕ) (u : UnitNumber) → i < length us → old ≤ new → (get_or us i u).0 < new → All (λ x. x.0 < old) (take i us) → All (λ x. x.0 < new) (take (i + 1) us)
above-more us i old new u lt le here before =
    All-more (λ x. x.0 < new) us i u lt (All-weaker (λ x. x.0 < old) (λ x. x.0 < new) (λ x a. omega (arith, a, le)) (take i us) before) here
