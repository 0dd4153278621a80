-- Folds that hold, and folds that lack one premise.
use Rattle.std.proofs.Common.{◌≡◌, ◌∷◌, ◌||◌, ◌⊎◌, ◌∙◌, ℕ, Bool, true, false, cond, eqb, Some, None, refl, sym, ap, subst, inl, inr, []}
use Rattle.std.proofs.lemmas.Bool.{eq-eqb}
use Rattle.std.specs.Prelude.{nat_eq}
use Rattle.meaning.specs.Code.{BlockEnd, BlockStart, Code, Item, Silent, start_state}
use Rattle.meaning.specs.Environment.{Environment}
use Rattle.meaning.specs.Fold.{Folds, Quiet, QuietAt}
use Rattle.meaning.specs.Lanes.{Reads, Writes, same_lane}
use Rattle.meaning.specs.Live.{Among, Live, LiveAfter, after_leap, after_next, after_phi, here, there, writes_of}
use Rattle.meaning.specs.Perform.{perform}
use Rattle.meaning.specs.declared.types.Lane.{Lane}
use Rattle.meaning.specs.declared.types.Lane.TheVariants.{SlotLane, UnitLane, VirtualLane}
use Rattle.meaning.specs.declared.types.Source.{Source}
use Rattle.meaning.specs.declared.types.Source.TheVariants.{FromLane}
use Rattle.meaning.specs.declared.types.Write.{Write}
use Rattle.laws.proofs.Flow.{none_among}
use Rattle.laws.proofs.Least.{Ends, behind, whole}
use Rattle.laws.proofs.Quiet.{law_of_folds, same-false, same_or_not}
use Rattle.laws.proofs.Tables.{live-listed}
use Rattle.laws.specs.Tables.{LiveTable, code_listed, lists}
use Rattle.worked_examples.specs.Code.Codes.{beside_sp, both_joined, both_read, chain, folded_chain, goes_to_sp, joins, one_to_two, over_sp, phi_read, reads_another, reads_eax, reads_sp, reserves_sp, sp, stays, takes_sp, unreserved}
use Rattle.worked_examples.specs.Code.Premises.{Fixes, FixesMatters, FoldsACopy, LayoutMatters, NoPhisMatters, NothingElse, OnlyMatters, QuietMatters, StartsEqual, StartsMatter, falls_joined, falls_unlisted, given_eax, not_given}
use Rattle.worked_examples.specs.Code.Refuted.{DoesNotRefine}
use Rattle.worked_examples.specs.Code.Samples.{from, function, given_none, move, nothing, number, reg, ret, write}
use Rattle.meaning.specs.Fold as fold

none-start : (env : Environment) (l : Lane) → start_state env given_none l ≡ None
none-start env (VirtualLane v k) = refl
none-start env (UnitLane u) = refl
none-start env (SlotLane s k w) = refl

-- where nothing is given all starts are alike
pub starts-none : (reserved : Lane → Bool) (m : Lane → Lane) (c : Code) (d : Code) → StartsEqual reserved m (function given_none c) (function given_none d)
starts-none reserved m c d env l k = none-start env l ∙ sym (none-start env (m l))

fixes-none : (m : Lane → Lane) → Fixes unreserved m
fixes-none m l r = let b : false ≡ true = r in absurd (cc)

only-none : (m : Lane → Lane) → NothingElse unreserved m
only-none m l r = let b : false ≡ true = r in absurd (cc)

module _ (reserved : Lane → Bool) (code : Code) (m : Lane → Lane) where
  quiet-empty : (i : Item) (p : Code) → writes_of i ≡ [] → QuietAt reserved code m i p
  quiet-empty i p e w x c l g s = absurd (none_among w (subst (λ ws. Among w ws) e x))

  after-silent : (reads : Reads) (ws : Writes) (p : Code) (l : Lane) → LiveAfter reserved code (Silent reads ws) p l → Live reserved code p l
  after-silent reads ws p l (after_next o h) = h
  after-silent reads ws p l (after_leap {e = e} x h f) = absurd (none_among e x)
  after-silent reads ws p l (after_phi {e = e} x y f) = absurd (none_among e x)

  -- a write of one lane is quiet where no other lane with its image is live after it
  quiet-move : (d : Lane) (s : Source) (p : Code) → ((l : Lane) → m l ≡ m d → same_lane l d ≡ false → Live reserved code p l → ⊥) → QuietAt reserved code m (move d s) p
  quiet-move d s p h w here c l e t = (
    (λ live. h l e t (after-silent [] (write d s ∷ []) p l live)),
    (λ v y g. wrote v y l g t),
    (λ early live. let b : false ≡ true = early in absurd (cc)),
  )
    where
      wrote : (v : Write) → Among v (write d s ∷ []) → (l : Lane) → v.lane ≡ l → same_lane l d ≡ false → ⊥
      wrote v here l g t = same-false l d t (sym g)
      wrote v (there y) l g t = none_among v y
  quiet-move d s p h w (there x) c l e t = absurd (none_among w x)

-- a lane that a list of one names is that lane
listed-one : (a l : Lane) → lists (a ∷ []) l ≡ true → same_lane l a ≡ false → ⊥
listed-one a l h t = go (same_or_not a l)
  where
    go : (a ≡ l) ⊎ (same_lane a l ≡ false) → ⊥
    go (inl e) = same-false l a t (sym e)
    go (inr e) = let b : same_lane a l || false ≡ true = h in let c : false ≡ true = sym (ap (λ x. x || false) e) ∙ b in absurd (cc)

pub listed-none : (l : Lane) → lists [] l ≡ true → ⊥
listed-none l h = absurd (cc)

-- a copy folded away
abbrev chain_table : LiveTable
chain_table n = cond (nat_eq n 3) (reg 0 ∷ []) (cond (nat_eq n 2) (reg 1 ∷ []) [])

chain_quiet : Quiet unreserved chain.code joins chain.code
chain_quiet =
    (quiet-empty unreserved chain.code joins (BlockStart 0) _ refl, (quiet-move unreserved chain.code joins (reg 0) (number 1) _ (λ l e t live. listed-one (reg 0) l (live-listed unreserved chain.code chain_table refl live (behind (behind whole))) t), (copies, (quiet-empty unreserved chain.code joins (ret (from (reg 1) ∷ [])) _ refl, (quiet-empty unreserved chain.code joins (BlockEnd None []) _ refl, tt)))))
  where
    copies : QuietAt unreserved chain.code joins (move (reg 1) (FromLane (reg 0))) (ret (from (reg 1) ∷ []) ∷ BlockEnd None [] ∷ [])
    copies w here c l e t = let b : true ≡ false = c in absurd (cc)
    copies w (there x) c l e t = absurd (none_among w x)

chain_folds : Folds unreserved joins chain folded_chain
chain_folds = record {
  fits = record { starts = starts-none unreserved joins chain.code folded_chain.code; laid_out = (refl, tt); no_phis = (tt, tt, (tt, tt, tt)) };
  fixes = fixes-none joins;
  only = only-none joins;
  quiet = chain_quiet;
  folded = fold.start (fold.silent (fold.deleted refl (fold.counted (fold.end fold.done))));
}

pub folds_a_copy : FoldsACopy
folds_a_copy = let r = law_of_folds unreserved joins chain folded_chain chain_folds in (chain_folds, r.0, r.1)

pub differ : (m n : ℕ) → eqb m n ≡ false → Some m ≡ Some n → ⊥
differ m n f e =
    let g : m ≡ n = cc in
    let h : eqb m n ≡ true = eq-eqb m n g in
    absurd (cc)

pub lost : (n : ℕ) → None ≡ Some n → ⊥
lost n e = absurd (cc)

not_joined : DoesNotRefine both_read both_joined
unfolding perform
not_joined r = differ 2 1 refl (r nothing 1 ((λ e. absurd (cc)), refl)).events.0.0

pub quiet_matters : QuietMatters
quiet_matters = (
  starts-none unreserved joins both_read.code both_joined.code,
  (refl, tt),
  (tt, tt, (tt, tt, tt)),
  fixes-none joins,
  only-none joins,
  fold.start (fold.silent (fold.silent (fold.counted (fold.end fold.done)))),
  not_joined,
)

-- nothing but the reserved unit is live
abbrev no_table : LiveTable
no_table n = []

unread : (code : Code) → code_listed reserves_sp code no_table code ≡ true → (p : Code) → Ends code p → (l : Lane) → Live reserves_sp code p l → ⊥
unread code t p e l live = listed-none l (live-listed reserves_sp code no_table t live e)

sp-quiet : Quiet reserves_sp reads_sp.code takes_sp reads_sp.code
sp-quiet =
    (quiet-empty reserves_sp reads_sp.code takes_sp (BlockStart 0) _ refl, (quiet-move reserves_sp reads_sp.code takes_sp sp (number 7) _ (λ l e t live. unread reads_sp.code refl _ (behind (behind whole)) l live), (quiet-move reserves_sp reads_sp.code takes_sp (UnitLane 1) (number 5) _ (λ l e t live. unread reads_sp.code refl _ (behind (behind (behind whole))) l live), (quiet-empty reserves_sp reads_sp.code takes_sp (ret (from sp ∷ [])) _ refl, (quiet-empty reserves_sp reads_sp.code takes_sp (BlockEnd None []) _ refl, tt)))))

sp-only : NothingElse reserves_sp takes_sp
sp-only (VirtualLane v k) r = refl
sp-only (SlotLane s k w) r = refl
sp-only (UnitLane u) r = go (nat_eq u 15) refl r
  where
    go : (b : Bool) → nat_eq u 15 ≡ b → nat_eq (cond b 1 u) 15 ≡ true → UnitLane (cond b 1 u) ≡ UnitLane u
    go true e h = let c : false ≡ true = h in absurd (cc)
    go false e h = refl

moved_sp : DoesNotRefine reads_sp reads_another
unfolding perform
moved_sp r = differ 5 7 refl (r nothing 1 ((λ e. absurd (cc)), refl)).events.0.0

pub fixes_matters : FixesMatters
fixes_matters = (
  starts-none reserves_sp takes_sp reads_sp.code reads_another.code,
  (refl, tt),
  (tt, tt, (tt, tt, tt)),
  sp-only,
  sp-quiet,
  fold.start (fold.silent (fold.silent (fold.counted (fold.end fold.done)))),
  moved_sp,
)

abbrev beside_table : LiveTable
beside_table n = cond (nat_eq n 2) (reg 0 ∷ []) []

beside-quiet : Quiet reserves_sp beside_sp.code goes_to_sp beside_sp.code
beside-quiet =
    (quiet-empty reserves_sp beside_sp.code goes_to_sp (BlockStart 0) _ refl, (quiet-move reserves_sp beside_sp.code goes_to_sp sp (number 5) _ (λ l e t live. listed-none l (live-listed reserves_sp beside_sp.code beside_table refl live (behind (behind whole)))), (quiet-move reserves_sp beside_sp.code goes_to_sp (reg 0) (number 7) _ (λ l e t live. listed-one (reg 0) l (live-listed reserves_sp beside_sp.code beside_table refl live (behind (behind (behind whole)))) t), (quiet-empty reserves_sp beside_sp.code goes_to_sp (ret (from sp ∷ from (reg 0) ∷ [])) _ refl, (quiet-empty reserves_sp beside_sp.code goes_to_sp (BlockEnd None []) _ refl, tt)))))

beside-fixes : Fixes reserves_sp goes_to_sp
beside-fixes (VirtualLane v k) r = let b : false ≡ true = r in absurd (cc)
beside-fixes (UnitLane u) r = refl
beside-fixes (SlotLane s k w) r = refl

over_it : DoesNotRefine beside_sp over_sp
unfolding perform
over_it r = differ 7 5 refl (r nothing 1 ((λ e. absurd (cc)), refl)).events.0.0

pub only_matters : OnlyMatters
only_matters = (
  starts-none reserves_sp goes_to_sp beside_sp.code over_sp.code,
  (refl, tt),
  (tt, tt, (tt, tt, tt)),
  beside-fixes,
  beside-quiet,
  fold.start (fold.silent (fold.silent (fold.counted (fold.end fold.done)))),
  over_it,
)

abbrev unlisted_table : LiveTable
unlisted_table n = cond (nat_eq n 2) (reg 0 ∷ []) (cond (nat_eq n 3) (reg 0 ∷ []) [])

unlisted-quiet : Quiet unreserved falls_unlisted.code joins falls_unlisted.code
unlisted-quiet =
    (quiet-empty unreserved falls_unlisted.code joins (BlockStart 0) _ refl, (quiet-move unreserved falls_unlisted.code joins (reg 0) (number 5) _ (λ l e t live. listed-none l (live-listed unreserved falls_unlisted.code unlisted_table refl live (behind (behind whole)))), (quiet-move unreserved falls_unlisted.code joins (reg 1) (number 6) _ (λ l e t live. listed-none l (live-listed unreserved falls_unlisted.code unlisted_table refl live (behind (behind (behind whole))))), (quiet-empty unreserved falls_unlisted.code joins (BlockEnd (Some []) []) _ refl, (quiet-empty unreserved falls_unlisted.code joins (BlockStart 1) _ refl, (quiet-empty unreserved falls_unlisted.code joins (ret (from (reg 0) ∷ [])) _ refl, (quiet-empty unreserved falls_unlisted.code joins (BlockEnd None []) _ refl, tt)))))))

overwritten : DoesNotRefine falls_unlisted falls_joined
unfolding perform
overwritten r = differ 6 5 refl (r nothing 1 ((λ e. absurd (cc)), refl)).events.0.0

pub layout_matters : LayoutMatters
layout_matters = (
  starts-none unreserved joins falls_unlisted.code falls_joined.code,
  (refl, tt, (tt, tt, (tt, tt, tt))),
  fixes-none joins,
  only-none joins,
  unlisted-quiet,
  fold.start (fold.silent (fold.silent (fold.end (fold.start (fold.counted (fold.end fold.done)))))),
  overwritten,
)

phi-quiet : Quiet unreserved (phi_read 1).code one_to_two (phi_read 1).code
phi-quiet =
    (quiet-empty unreserved (phi_read 1).code one_to_two (BlockStart 0) _ refl, (quiet-move unreserved (phi_read 1).code one_to_two (reg 0) (number 5) _ (λ l e t live. only_zero l e t), (quiet-empty unreserved (phi_read 1).code one_to_two (BlockEnd (Some (write (reg 1) (FromLane (reg 0)) ∷ [])) (record { block = 1; phis = write (reg 1) (FromLane (reg 0)) ∷ [] } ∷ [])) _ refl, (quiet-empty unreserved (phi_read 1).code one_to_two (BlockStart 1) _ refl, (quiet-empty unreserved (phi_read 1).code one_to_two (ret (from (reg 1) ∷ [])) _ refl, (quiet-empty unreserved (phi_read 1).code one_to_two (BlockEnd None []) _ refl, tt))))))
  where
    only_zero : (l : Lane) → one_to_two l ≡ reg 0 → same_lane l (reg 0) ≡ false → ⊥
    only_zero (VirtualLane v k) e t = go (nat_eq v 1) e
      where
        go : (b : Bool) → VirtualLane (cond b 2 v) k ≡ VirtualLane 0 0 → ⊥
        go true g = absurd (cc)
        go false g = same-false (VirtualLane v k) (VirtualLane 0 0) t g
    only_zero (UnitLane u) e t = absurd (cc)
    only_zero (SlotLane s k w) e t = absurd (cc)

lost_phi : DoesNotRefine (phi_read 1) (phi_read 2)
unfolding perform
lost_phi r = lost 5 (r nothing 1 ((λ e. absurd (cc)), refl)).events.0.0

pub no_phis_matters : NoPhisMatters
no_phis_matters = (
  starts-none unreserved one_to_two (phi_read 1).code (phi_read 2).code,
  (refl, (here, (refl, tt))),
  fixes-none one_to_two,
  only-none one_to_two,
  phi-quiet,
  fold.start (fold.silent (fold.end (fold.start (fold.counted (fold.end fold.done))))),
  lost_phi,
)

eax-quiet : Quiet unreserved reads_eax stays reads_eax
eax-quiet =
    (quiet-empty unreserved reads_eax stays (BlockStart 0) _ refl, (quiet-empty unreserved reads_eax stays (ret (from (UnitLane 0) ∷ [])) _ refl, (quiet-empty unreserved reads_eax stays (BlockEnd None []) _ refl, tt)))

pub lost_eax : DoesNotRefine given_eax not_given
unfolding perform
lost_eax r = lost 0 (r nothing 1 ((λ e. absurd (cc)), refl)).events.0.0

pub starts_matter : StartsMatter
starts_matter = (
  (refl, tt),
  (tt, tt, (tt, tt, tt)),
  fixes-none stays,
  only-none stays,
  eax-quiet,
  fold.start (fold.counted (fold.end fold.done)),
  lost_eax,
)
