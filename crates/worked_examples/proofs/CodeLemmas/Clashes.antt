-- A rewriting that holds, and one that lacks a premise: two ranges that live at once get one unit.
use Rattle.std.proofs.Common.{◌≡◌, ◌∷◌, ◌||◌, ◌∙◌, Bool, true, false, cond, List, None, length, refl, sym, ap, subst, inl, inr, []}
use Rattle.std.specs.Prelude.{nat_eq}
use Rattle.meaning.specs.Clash.{NoClash, NoClashAt, Rewrites}
use Rattle.meaning.specs.Code.{BlockEnd, BlockStart, Code, Item}
use Rattle.meaning.specs.Lanes.{Writes, same_lane}
use Rattle.meaning.specs.Live.{Among, OccupiedAfter, OccupiedBefore, after_leap, after_next, after_phi, exits_of, here, read, there, writes_of}
use Rattle.meaning.specs.Matched.{Fits}
use Rattle.meaning.specs.Perform.{perform}
use Rattle.meaning.specs.declared.types.Lane.{Lane}
use Rattle.meaning.specs.declared.types.Lane.TheVariants.{SlotLane, UnitLane, VirtualLane}
use Rattle.meaning.specs.declared.types.Source.{Source}
use Rattle.meaning.specs.declared.types.Source.TheVariants.{FromLane}
use Rattle.meaning.specs.declared.types.Write.{Write}
use Rattle.laws.proofs.Clash.{law_of_rewriting}
use Rattle.laws.proofs.Flow.{none_among}
use Rattle.laws.proofs.Least.{Ends, behind, whole}
use Rattle.laws.proofs.Quiet.{same-true}
use Rattle.laws.proofs.Tables.{live-listed}
use Rattle.laws.specs.Tables.{LiveTable, lists}
use Rattle.worked_examples.proofs.CodeLemmas.Folds.{differ, listed-none, starts-none}
use Rattle.worked_examples.specs.Code.Codes.{both_in_al, both_read, chain, chain_in_al, goes_to_al, reserves_sp}
use Rattle.worked_examples.specs.Code.Premises.{ClashMatters, Fixes, NothingElse, RewritesACopy}
use Rattle.worked_examples.specs.Code.Refuted.{DoesNotRefine}
use Rattle.worked_examples.specs.Code.Samples.{from, move, nothing, number, reg, ret, write}
use Rattle.meaning.specs.Fold as fold

al-fixes : Fixes reserves_sp goes_to_al
al-fixes (VirtualLane v k) r = let b : false ≡ true = r in absurd (cc)
al-fixes (UnitLane u) r = refl
al-fixes (SlotLane s k w) r = refl

al-only : NothingElse reserves_sp goes_to_al
al-only (VirtualLane v k) r = let b : false ≡ true = r in absurd (cc)
al-only (UnitLane u) r = refl
al-only (SlotLane s k w) r = refl

-- a copy between two ranges of which one ends where the other begins

chain-fits : Fits reserves_sp goes_to_al chain chain_in_al
chain-fits = record { starts = starts-none reserves_sp goes_to_al chain.code chain_in_al.code; laid_out = (refl, tt); no_phis = (tt, tt, (tt, tt, tt)) }

-- the lane, if any, that is live at each place
abbrev chain_table : LiveTable
chain_table n = cond (nat_eq n 3) (reg 0 ∷ []) (cond (nat_eq n 2) (reg 1 ∷ []) [])

listed-alone : (a l : Lane) → lists (a ∷ []) l ≡ true → l ≡ a
listed-alone a l h = go (same_lane a l) refl
  where
    go : (b : Bool) → same_lane a l ≡ b → l ≡ a
    go true e = sym (same-true a l e)
    go false e = let c : false ≡ true = sym (ap (λ x. x || false) e) ∙ h in absurd (cc)

-- the list names no lane but this one
abbrev Only : Lane → List Lane → Type 0
Only a ls = (l : Lane) → lists ls l ≡ true → l ≡ a

only-empty : (a : Lane) → Only a []
only-empty a l h = absurd (listed-none l h)

-- these writes are of this lane alone, and none is early
abbrev Written : Lane → Writes → Type 0
Written a ws = (w : Write) → Among w ws → (w.lane ≡ a) × (w.early ≡ false)

unwritten : (a : Lane) → Written a []
unwritten a w x = absurd (none_among w x)

moved : (d : Lane) (s : Source) → Written d (write d s ∷ [])
moved d s w here = (refl, refl)
moved d s w (there x) = absurd (none_among w x)

-- where one lane alone is occupied before an item and one behind it, nothing clashes
alone : (i : Item) (p : Code) (a b : Lane) → exits_of i ≡ [] → Ends chain.code (i ∷ p) → Ends chain.code p → Only a (chain_table (length (i ∷ p))) → Only b (chain_table (length p)) → Written b (writes_of i) → NoClashAt reserves_sp chain.code goes_to_al i p
alone i p a b no_exits at behind_it first second writes =
    record { entry = λ x y u v e. entered x u ∙ sym (entered y v); exit = λ x y u v e. left x u ∙ sym (left y v) }
  where
    entered : (l : Lane) → OccupiedBefore reserves_sp chain.code i p l → l ≡ a
    entered l (inl live, r) = first l (live-listed reserves_sp chain.code chain_table refl live at)
    entered l (inr (w, x, e, early), r) = let c : false ≡ true = sym (writes w x).1 ∙ early in absurd (cc)

    left : (l : Lane) → OccupiedAfter reserves_sp chain.code i p l → l ≡ b
    left l (inl (after_next o live), r) = second l (live-listed reserves_sp chain.code chain_table refl live behind_it)
    left l (inl (after_leap {e = e} x live f), r) = absurd (none_among e (subst (λ es. Among e es) no_exits x))
    left l (inl (after_phi {e = e} x y f), r) = absurd (none_among e (subst (λ es. Among e es) no_exits x))
    left l (inr (w, x, e), r) = sym e ∙ (writes w x).0

chain-apart : NoClash reserves_sp chain.code goes_to_al chain.code
chain-apart =
    let first = alone (BlockStart 0) _ (reg 0) (reg 0) refl whole (behind whole) (only-empty (reg 0)) (only-empty (reg 0)) (unwritten (reg 0)) in
    let sets = alone (move (reg 0) (number 1)) _ (reg 0) (reg 0) refl (behind whole) (behind (behind whole)) (only-empty (reg 0)) (listed-alone (reg 0)) (moved (reg 0) (number 1)) in
    let copies = alone (move (reg 1) (FromLane (reg 0))) _ (reg 0) (reg 1) refl (behind (behind whole)) (behind (behind (behind whole))) (listed-alone (reg 0)) (listed-alone (reg 1)) (moved (reg 1) (FromLane (reg 0))) in
    let returns = alone (ret (from (reg 1) ∷ [])) _ (reg 1) (reg 1) refl (behind (behind (behind whole))) (behind (behind (behind (behind whole)))) (listed-alone (reg 1)) (only-empty (reg 1)) (unwritten (reg 1)) in
    let last = alone (BlockEnd None []) [] (reg 1) (reg 1) refl (behind (behind (behind (behind whole)))) (behind (behind (behind (behind (behind whole))))) (only-empty (reg 1)) (only-empty (reg 1)) (unwritten (reg 1)) in
    (first, (sets, (copies, (returns, (last, tt)))))

chain-rewrites : Rewrites reserves_sp goes_to_al chain chain_in_al
chain-rewrites = record { fits = chain-fits; fixes = al-fixes; only = al-only; no_clash = chain-apart; folded = fold.start (fold.silent (fold.deleted refl (fold.counted (fold.end fold.done)))) }

pub rewrites_a_copy : RewritesACopy
rewrites_a_copy = let r = law_of_rewriting reserves_sp goes_to_al chain chain_in_al chain-rewrites in (chain-rewrites, r.0, r.1)

-- two constants that are both read, in one unit

al-fits : Fits reserves_sp goes_to_al both_read both_in_al
al-fits = record { starts = starts-none reserves_sp goes_to_al both_read.code both_in_al.code; laid_out = (refl, tt); no_phis = (tt, tt, (tt, tt, tt)) }

-- behind the second write one is live and the other written
clashes : NoClash reserves_sp both_read.code goes_to_al both_read.code → ⊥
clashes h =
    let e : reg 0 ≡ reg 1 = h.1.1.0.exit (reg 0) (reg 1) (inl (after_next refl (read here here refl)), refl) (inr (write (reg 1) (number 2), here, refl), refl) refl in
    absurd (cc)

not_in_al : DoesNotRefine both_read both_in_al
unfolding perform
not_in_al r = differ 2 1 refl (r nothing 1 ((λ e. absurd (cc)), refl)).events.0.0

pub clash_matters : ClashMatters
clash_matters = (
  al-fits,
  al-fixes,
  al-only,
  fold.start (fold.silent (fold.silent (fold.counted (fold.end fold.done)))),
  clashes,
  not_in_al,
)
