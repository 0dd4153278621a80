-- What is listed as touched where rows were taken away.
use Rattle.std.proofs.Common.{◌≡◌, ◌⊎◌, inl, inr, ◌++◌, ◌∙◌, ◌&&◌, ◌||◌, ℕ, Bool, true, false, List, [], ◌∷◌, refl, sym, ap, subst}
use Rattle.std.specs.Prelude.{nat_eq}
use Rattle.target_base.specs.declared.types.Target.{Target}
use Rattle.mir_func.specs.Value.{Function}
use Rattle.mir_func.specs.At.{instr_at}
use Rattle.mir_meaning.specs.Paths.{Among, here, there, has}
use Rattle.instr_effects.specs.declared.lane_acts.LaneAct.{LaneAct}
use Rattle.instr_effects.specs.Steps.{Numbering}
use Rattle.live_lanes.proofs.Basics.{none-among}
use Rattle.live_lanes.proofs.Coded.{among-has, has-among}
use Rattle.live_lanes.proofs.Numbered.{among-cases, among-split}
use Rattle.edit_laws.specs.Reasons.{Touched}
use Rattle.live_edits.specs.declared.aside.AsideRow.{AsideRow}
use Rattle.live_edits.specs.declared.notes.TouchedInstr.{TouchedInstr}
use Rattle.live_edits.specs.ActChanges.{act_lanes}
use Rattle.live_edits.specs.Aside.{LeavesOut, is_aside}
use Rattle.live_edits.specs.Noted.{TellLatest, TellsAct, touched_at, touches}
use Rattle.live_edits.specs.Runs.{Includes, LeavesAside, TakesAside}
use Rattle.live_edits.proofs.AskMembers.{among-map, map-among}
use Rattle.live_edits.proofs.RunEdits.{tells-last, touched-last}

-- lanes of acts

pub lanes-kept : (aside : List AsideRow) (acts own : List LaneAct) → LeavesOut aside acts own → (l : ℕ) → is_aside aside l ≡ false → Among l (act_lanes acts) → Among l (act_lanes own)
lanes-kept aside acts own out l e m =
    let z = among-map (λ (a : LaneAct). a.lane) l acts m in
    subst (λ n. Among n (act_lanes own)) (sym z.2) (map-among (λ (a : LaneAct). a.lane) z.0 own (out.whole z.0 z.1 (ap (is_aside aside) (sym z.2) ∙ e)))

lanes-were : (aside : List AsideRow) (acts own : List LaneAct) → LeavesOut aside acts own → (l : ℕ) → Among l (act_lanes own) → Among l (act_lanes acts)
lanes-were aside acts own out l m =
    let z = among-map (λ (a : LaneAct). a.lane) l own m in
    subst (λ n. Among n (act_lanes acts)) (sym z.2) (map-among (λ (a : LaneAct). a.lane) z.0 acts (out.within z.0 z.1).0)

-- at lanes whose rows stay the same is listed
lanes-same : (aside : List AsideRow) (acts own : List LaneAct) → LeavesOut aside acts own → (l : ℕ) → is_aside aside l ≡ false → has l (act_lanes acts) ≡ has l (act_lanes own)
lanes-same aside acts own out l e = go (has l (act_lanes acts)) (has l (act_lanes own)) refl refl
  where
    go : (u v : Bool) → has l (act_lanes acts) ≡ u → has l (act_lanes own) ≡ v → has l (act_lanes acts) ≡ has l (act_lanes own)
    go true v f g = f ∙ sym (among-has l (act_lanes own) (lanes-kept aside acts own out l e (has-among l (act_lanes acts) f)))
    go false true f g = absurd (let z : true ≡ false = sym (among-has l (act_lanes acts) (lanes-were aside acts own out l (has-among l (act_lanes own) g))) ∙ f in cc)
    go false false f g = f ∙ sym g

-- a test of touched lanes tells all that an instruction names, those too whose rows were taken away
pub tells-own : (aside : List AsideRow) (named : List LaneAct) (xs ys : List TouchedInstr) (x : TouchedInstr) → ys ≡ xs ++ x ∷ [] → LeavesOut aside named x.acts.items → (touched : Touched) → Includes touched ys → TakesAside touched aside ys
    → (l : ℕ) → Among l (act_lanes named) → touched l x.block x.id ≡ true
tells-own aside named xs ys x more out touched all taken l m = go (is_aside aside l) refl
  where
    go : (u : Bool) → is_aside aside l ≡ u → touched l x.block x.id ≡ true
    go true e = taken x (touched-last xs ys x more) l e
    go false e = tells-last xs ys x more touched all l (lanes-kept aside named x.acts.items out l e m)

pub apart-more : (aside : List AsideRow) (named : List LaneAct) (xs ys : List TouchedInstr) (x : TouchedInstr) → ys ≡ xs ++ x ∷ [] → LeavesOut aside named x.acts.items → LeavesAside aside xs → LeavesAside aside ys
apart-more aside named xs ys x more out before y m a n = go (among-split y xs (x ∷ []) (subst (Among y) more m))
  where
    own : (y ≡ x) ⊎ Among y [] → is_aside aside a.lane ≡ false
    own (inl e) = (out.within a (subst (λ (z : TouchedInstr). Among a z.acts.items) e n)).1
    own (inr z) = absurd (none-among y z)

    go : Among y xs ⊎ Among y (x ∷ []) → is_aside aside a.lane ≡ false
    go (inl b) = before y b a n
    go (inr b) = own (among-cases y x [] b)

-- Where the last edits noted what is done now, they do so too without what is noted at lanes whose rows were taken away: x is the last
-- one with all that it noted, y what is listed of it.
module _ (aside : List AsideRow) (x y : TouchedInstr) (same-id : y.id ≡ x.id) (same-block : y.block ≡ x.block) (out : LeavesOut aside x.acts.items y.acts.items) where
  touches-same : (l b id : ℕ) → is_aside aside l ≡ false → touches x l b id ≡ touches y l b id
  touches-same l b id e = λ k. nat_eq (sym same-id k) id && (nat_eq (sym same-block k) b && lanes-same aside x.acts.items y.acts.items out l e k)

  touched-same : (l b id : ℕ) → is_aside aside l ≡ false → (xs : List TouchedInstr) → touched_at (xs ++ x ∷ []) l b id ≡ touched_at (xs ++ y ∷ []) l b id
  touched-same l b id e [] = ap (λ u. u || false) (touches-same l b id e)
  touched-same l b id e (z ∷ zs) = ap (λ u. touches z l b id || u) (touched-same l b id e zs)

  module _ (t : Target) (f : Function) (num : Numbering) (gone : List ℕ) where
    pub tells-left : (xs : List TouchedInstr) → LeavesAside aside xs → TellLatest t f num gone (xs ++ x ∷ []) → TellLatest t f num gone (xs ++ y ∷ [])
    tells-left [] apart tell = (own, tt)
      where
        own : (a : LaneAct) → Among a y.acts.items → touched_at [] a.lane y.block y.id ≡ false → TellsAct t f num gone y a
        own a m e =
            let z = tell.0 a (out.within a m).0 refl in
            (z.0, z.1, ap (λ b. instr_at f.blocks b z.0) same-block ∙ z.2, z.3 ∙ sym same-id, z.4)
    tells-left (z ∷ zs) apart tell = (
      (λ a m e. tell.0 a m (touched-same a.lane z.block z.id (apart z here a m) zs ∙ e)),
      tells-left zs (λ w n. apart w (there n)) tell.1,
    )
