-- Acts at lanes to which an instruction does something else than before.
use Rattle.std.proofs.Common.{◌≡◌, ◌∙◌, ◌<◌, ◌+◌, ◌⊎◌, inl, inr, ⊎_elim, ◌&&◌, ◌||◌, not, ℕ, Bool, true, false, cond, length, List, [], ◌∷◌, ◌++◌, Option, None, Some, find, get_or, map, take, refl, sym, ap, subst, eqb-true, eq-eqb}
use Rattle.std.specs.Prelude.{nat_eq}
use Rattle.mir_meaning.specs.Paths.{Among, here, there, has}
use Rattle.instr_effects.specs.declared.lane_acts.LaneAct.{LaneAct}
use Rattle.instr_effects.specs.LaneActs.{no_act, is_on, has_act, act_on, is_once}
use Rattle.live_lanes.proofs.Basics.{none-among}
use Rattle.live_lanes.proofs.Numbered.{among-cases, among-left, among-right, among-split}
use Rattle.live_edits.specs.ActChanges.{act_lanes, IsActedOn, AddsFormer, AddsFurther, AreChanged}
use Rattle.live_edits.proofs.NotedLists.{taken-more, taken-own, taken-cases}

-- acts and their lanes

pub lane-has : (acts : List LaneAct) (a : LaneAct) (l : ℕ) → Among a acts → a.lane ≡ l → has l (act_lanes acts) ≡ true
lane-has [] a l m e = absurd (none-among a m)
lane-has (b ∷ bs) a l m e = go (among-cases a b bs m) (λ k. lane-has bs a l k e)
  where
    more : (u : Bool) → has l (act_lanes bs) ≡ true → cond u true (has l (act_lanes bs)) ≡ true
    more true h = refl
    more false h = h

    go : (a ≡ b) ⊎ Among a bs → (Among a bs → has l (act_lanes bs) ≡ true) → cond (nat_eq b.lane l) true (has l (act_lanes bs)) ≡ true
    go (inl f) ih = ap (λ u. cond u true (has l (act_lanes bs))) (eq-eqb b.lane l (ap (λ (x : LaneAct). x.lane) (sym f) ∙ e))
    go (inr k) ih = more (nat_eq b.lane l) (ih k)

pub lane-act : (acts : List LaneAct) (l : ℕ) → Among l (act_lanes acts) → IsActedOn acts l
lane-act [] l m = absurd (none-among l m)
lane-act (a ∷ acts) l m = go (among-cases l a.lane (act_lanes acts) m) (lane-act acts l)
  where
    go : (l ≡ a.lane) ⊎ Among l (act_lanes acts) → (Among l (act_lanes acts) → IsActedOn acts l) → IsActedOn (a ∷ acts) l
    go (inl e) ih = (a, here, sym e)
    go (inr n) ih = let z = ih n in (z.0, there z.1, z.2)

pub act-lane : (acts : List LaneAct) (a : LaneAct) → Among a acts → Among a.lane (act_lanes acts)
act-lane [] a m = absurd (none-among a m)
act-lane (b ∷ bs) a here = here
act-lane (b ∷ bs) a (there m) = there (act-lane bs a m)

-- acts of nothing

pub idle-act : (acts : List LaneAct) (a : LaneAct) → Among a (map (λ (b : LaneAct). no_act b.lane) acts) → a ≡ no_act a.lane
idle-act [] a m = absurd (none-among a m)
idle-act (b ∷ bs) a m = ⊎_elim (λ e. e ∙ ap no_act (sym (ap (λ (x : LaneAct). x.lane) e))) (λ n. idle-act bs a n) (among-cases a (no_act b.lane) (map (λ (c : LaneAct). no_act c.lane) bs) m)

pub idle-lanes : (acts : List LaneAct) → act_lanes (map (λ (b : LaneAct). no_act b.lane) acts) ≡ act_lanes acts
idle-lanes [] = refl
idle-lanes (a ∷ acts) = ap (λ ls. a.lane ∷ ls) (idle-lanes acts)

pub has-lane : (acts : List LaneAct) (l : ℕ) → has_act acts l ≡ has l (act_lanes acts)
has-lane [] l = refl
has-lane (a ∷ acts) l = go (nat_eq a.lane l) (has-lane acts l)
  where
    go : (b : Bool) → has_act acts l ≡ has l (act_lanes acts) → b || has_act acts l ≡ cond b true (has l (act_lanes acts))
    go true h = refl
    go false h = h

-- an act that is found, or none
abbrev act_or : ℕ → Option LaneAct → LaneAct
act_or l o = elim o [ None ↦ no_act l | Some a ↦ a ]

-- the act on a lane is one of the acts, or none is on it
pub act-found : (acts : List LaneAct) (l : ℕ) → (Among (act_on acts l) acts × ((act_on acts l).lane ≡ l)) ⊎ ((has_act acts l ≡ false) × (act_on acts l ≡ no_act l))
act-found [] l = inr (refl, refl)
act-found (a ∷ acts) l = go (nat_eq a.lane l) refl (act-found acts l)
  where
    go : (b : Bool) → nat_eq a.lane l ≡ b → (Among (act_on acts l) acts × ((act_on acts l).lane ≡ l)) ⊎ ((has_act acts l ≡ false) × (act_on acts l ≡ no_act l))
        → (Among (act_or l (cond b (Some a) (find (is_on l) acts))) (a ∷ acts) × ((act_or l (cond b (Some a) (find (is_on l) acts))).lane ≡ l)) ⊎ ((b || has_act acts l ≡ false) × (act_or l (cond b (Some a) (find (is_on l) acts)) ≡ no_act l))
    go true e ih = inl (here, eqb-true a.lane l e)
    go false e (inl h) = inl (there h.0, h.1)
    go false e (inr h) = inr h

-- where no two are on one lane, each of them is the act on its lane
pub once-act : (acts : List LaneAct) (a : LaneAct) → is_once acts ≡ true → Among a acts → a ≡ act_on acts a.lane
once-act [] a o m = absurd (none-among a m)
once-act (b ∷ bs) a o m = go (among-cases a b bs m) (λ k h. once-act bs a h k)
  where
    left : (u v : Bool) → not u && v ≡ true → u ≡ false
    left true v e = absurd (let z : false ≡ true = e in cc)
    left false v e = refl

    right : (u v : Bool) → not u && v ≡ true → v ≡ true
    right true v e = absurd (let z : false ≡ true = e in cc)
    right false v e = e

    apart : (u : Bool) → nat_eq b.lane a.lane ≡ u → Among a bs → a ≡ act_on bs a.lane → a ≡ act_or a.lane (cond u (Some b) (find (is_on a.lane) bs))
    apart true e k ih =
        absurd (let z : true ≡ false = sym (lane-has bs a b.lane k (sym (eqb-true b.lane a.lane e))) ∙ (sym (has-lane bs b.lane) ∙ left (has_act bs b.lane) (is_once bs) o) in cc)
    apart false e k ih = ih

    go : (a ≡ b) ⊎ Among a bs → (Among a bs → is_once bs ≡ true → a ≡ act_on bs a.lane) → a ≡ act_or a.lane (cond (nat_eq b.lane a.lane) (Some b) (find (is_on a.lane) bs))
    go (inl f) ih = f ∙ ap (λ u. act_or a.lane (cond u (Some b) (find (is_on a.lane) bs))) (sym (eq-eqb b.lane a.lane (ap (λ (x : LaneAct). x.lane) (sym f))))
    go (inr k) ih = apart (nat_eq b.lane a.lane) refl k (ih k (right (has_act bs b.lane) (is_once bs) o))

-- one more act is looked at

module _ (before after old mid : List LaneAct) (k : ℕ) (x : LaneAct) (h : k < length before) (own : x ≡ get_or before k x) (so : AddsFormer (take k before) after old mid) where
  pub same-former : x ≡ act_on after x.lane → AddsFormer (take (k + 1) before) after old mid
  same-former e = record {
    kept = so.kept;
    each = so.each;
    whole = λ a m. ⊎_elim (λ n. so.whole a n) (λ f. inl (f ∙ (e ∙ ap (λ (y : LaneAct). act_on after y.lane) (sym f)))) (taken-cases before k x h own a m);
  }

  -- the act on a lane is on that lane
  on-lane : (l : ℕ) → (act_on after l).lane ≡ l
  on-lane l = ⊎_elim (λ z. z.1) (λ z. ap (λ (y : LaneAct). y.lane) z.1) (act-found after l)

  pub more-former : (new : List LaneAct) → new ≡ mid ++ act_on after x.lane ∷ [] → AddsFormer (take (k + 1) before) after old new
  more-former new is = record {
    kept = λ a m. left a (so.kept a m);
    each = λ a m. ⊎_elim (λ n. so.each a n) (λ n. inr (last a n)) (among-split a mid (act_on after x.lane ∷ []) (subst (Among a) is m));
    whole = λ a m. ⊎_elim (λ n. ⊎_elim (λ e. inl e) (λ z. inr (z.0, left z.0 z.1, z.2)) (so.whole a n)) (λ f. inr (act_on after x.lane, subst (Among (act_on after x.lane)) (sym is) (among-right (act_on after x.lane) mid (act_on after x.lane ∷ []) here), on-lane x.lane ∙ ap (λ (y : LaneAct). y.lane) (sym f))) (taken-cases before k x h own a m);
  }
    where
      left : (a : LaneAct) → Among a mid → Among a new
      left a m = subst (Among a) (sym is) (among-left a mid (act_on after x.lane ∷ []) m)

      last : (a : LaneAct) → Among a (act_on after x.lane ∷ []) → a ≡ act_on after a.lane
      last a m = go (among-cases a (act_on after x.lane) [] m)
        where
          go : (a ≡ act_on after x.lane) ⊎ Among a [] → a ≡ act_on after a.lane
          go (inl e) = e ∙ ap (act_on after) (sym (ap (λ (y : LaneAct). y.lane) e ∙ on-lane x.lane))
          go (inr n) = absurd (none-among a n)

module _ (before after old mid : List LaneAct) (k : ℕ) (x : LaneAct) (h : k < length after) (own : x ≡ get_or after k x) (so : AddsFurther before (take k after) old mid) where
  pub same-further : has_act before x.lane ≡ true → AddsFurther before (take (k + 1) after) old mid
  same-further e = record {
    kept = so.kept;
    each = λ a m. ⊎_elim (λ n. inl n) (λ n. inr (taken-more after k x h own a n)) (so.each a m);
    whole = λ a m. ⊎_elim (λ n. so.whole a n) (λ f. inl (ap (λ (y : LaneAct). has_act before y.lane) f ∙ e)) (taken-cases after k x h own a m);
  }

  pub more-further : (new : List LaneAct) → new ≡ mid ++ x ∷ [] → AddsFurther before (take (k + 1) after) old new
  more-further new is = record {
    kept = λ a m. left a (so.kept a m);
    each = λ a m. ⊎_elim (λ n. ⊎_elim (λ p. inl p) (λ p. inr (taken-more after k x h own a p)) (so.each a n)) (λ n. inr (last a n)) (among-split a mid (x ∷ []) (subst (Among a) is m));
    whole = λ a m. ⊎_elim (λ n. ⊎_elim (λ e. inl e) (λ z. inr (z.0, left z.0 z.1, z.2)) (so.whole a n)) (λ f. inr (x, subst (Among x) (sym is) (among-right x mid (x ∷ []) here), ap (λ (y : LaneAct). y.lane) (sym f))) (taken-cases after k x h own a m);
  }
    where
      left : (a : LaneAct) → Among a mid → Among a new
      left a m = subst (Among a) (sym is) (among-left a mid (x ∷ []) m)

      last : (a : LaneAct) → Among a (x ∷ []) → Among a (take (k + 1) after)
      last a m = go (among-cases a x [] m)
        where
          go : (a ≡ x) ⊎ Among a [] → Among a (take (k + 1) after)
          go (inl e) = subst (λ (y : LaneAct). Among y (take (k + 1) after)) (sym e) (taken-own after k x h own)
          go (inr n) = absurd (none-among a n)

-- both together

module _ (before after none mid new : List LaneAct) (empty : none ≡ []) (once : is_once after ≡ true) (x : AddsFormer before after none mid) (y : AddsFurther before after mid new) where
  unacted : (l : ℕ) → has l (act_lanes new) ≡ false → IsActedOn new l → ⊥
  unacted l h z = let e : true ≡ false = sym (lane-has new z.0 l z.1 z.2) ∙ h in absurd (cc)

  former-same : (l : ℕ) → has l (act_lanes new) ≡ false → (b : LaneAct) → Among b before → b.lane ≡ l → b ≡ act_on after l
  former-same l h b m e = go (x.whole b m)
    where
      go : (b ≡ act_on after b.lane) ⊎ IsActedOn mid b.lane → b ≡ act_on after l
      go (inl f) = f ∙ ap (act_on after) e
      go (inr z) = absurd (unacted l h (z.0, y.kept z.0 z.1, z.2 ∙ e))

  further-none : (l : ℕ) → has l (act_lanes new) ≡ false → has_act before l ≡ false → (a : LaneAct) → Among a after → a.lane ≡ l → ⊥
  further-none l h none-before a m e = go (y.whole a m)
    where
      go : (has_act before a.lane ≡ true) ⊎ IsActedOn new a.lane → ⊥
      go (inl f) = let z : true ≡ false = sym f ∙ (ap (has_act before) e ∙ none-before) in absurd (cc)
      go (inr z) = unacted l h (z.0, z.1, z.2 ∙ e)

  pub all-changed : AreChanged before after new
  all-changed = record {
    each = λ a m. ⊎_elim (λ n. ⊎_elim (λ p. absurd (none-among a (subst (Among a) empty p))) (λ e. e) (x.each a n)) (λ n. once-act after a once n) (y.each a m);
    whole = λ l h. ⊎_elim (λ z. former-same l h (act_on before l) z.0 z.1)
        (λ z. z.1 ∙ ⊎_elim (λ w. absurd (further-none l h z.0 (act_on after l) w.0 w.1)) (λ w. sym w.1) (act-found after l)) (act-found before l);
  }
