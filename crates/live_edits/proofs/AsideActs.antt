-- Acts on lanes whose rows weren't taken away.
use Rattle.std.proofs.Common.{◌≡◌, ◌⊎◌, inl, inr, ◌++◌, ◌∙◌, ◌<◌, ◌≤◌, ◌+◌, ℕ, zero, suc, Bool, true, false, cond, List, [], ◌∷◌, take, length, get_or, refl, sym, ap, subst, arith}
use Rattle.std.proofs.lemmas.List.{take_all}
use Rattle.mir_meaning.specs.Paths.{Among, here}
use Rattle.instr_effects.specs.declared.lane_acts.LaneAct.{LaneAct}
use Rattle.live_lanes.proofs.Basics.{none-among}
use Rattle.live_lanes.proofs.Numbered.{among-cases, among-left, among-right, among-split}
use Rattle.live_edits.specs.declared.aside.AsideRow.{AsideRow}
use Rattle.live_edits.specs.Aside.{LeavesOut, is_aside}
use Rattle.live_edits.proofs.NotedLists.{taken-cases, taken-more, taken-own}

module _ (aside : List AsideRow) where
  get-same : (xs : List LaneAct) (k : ℕ) (d e : LaneAct) → k < length xs → get_or xs k d ≡ get_or xs k e
  get-same [] k d e h = absurd (omega (arith, h))
  get-same (x ∷ xs) zero d e h = refl
  get-same (x ∷ xs) (suc k) d e h = get-same xs k d e (omega (arith, h))

  -- as far as the list was looked at
  module _ (acts own : List LaneAct) (k : ℕ) (d : LaneAct) (h : k < length acts) (before : LeavesOut aside (take k acts) own) where
    abbrev act : LaneAct
    act = get_or acts k d

    same : act ≡ get_or acts k act
    same = get-same acts k d act h

    cases : (a : LaneAct) → Among a (take (k + 1) acts) → Among a (take k acts) ⊎ (a ≡ act)
    cases a m = taken-cases acts k act h same a m

    earlier : (a : LaneAct) → Among a own → Among a (take (k + 1) acts) × (is_aside aside a.lane ≡ false)
    earlier a m = let z = before.within a m in (taken-more acts k act h same a z.0, z.1)

    left : is_aside aside act.lane ≡ false → LeavesOut aside (take (k + 1) acts) (own ++ act ∷ [])
    left e = record { whole = whole; within = within }
      where
        whole : (a : LaneAct) → Among a (take (k + 1) acts) → is_aside aside a.lane ≡ false → Among a (own ++ act ∷ [])
        whole a m f = go (cases a m)
          where
            go : Among a (take k acts) ⊎ (a ≡ act) → Among a (own ++ act ∷ [])
            go (inl n) = among-left a own (act ∷ []) (before.whole a n f)
            go (inr g) = subst (λ (x : LaneAct). Among x (own ++ act ∷ [])) (sym g) (among-right act own (act ∷ []) here)

        within : (a : LaneAct) → Among a (own ++ act ∷ []) → Among a (take (k + 1) acts) × (is_aside aside a.lane ≡ false)
        within a m = go (among-split a own (act ∷ []) m)
          where
            last : (a ≡ act) ⊎ Among a [] → Among a (take (k + 1) acts) × (is_aside aside a.lane ≡ false)
            last (inl g) = (subst (λ (x : LaneAct). Among x (take (k + 1) acts)) (sym g) (taken-own acts k act h same), ap (λ (x : LaneAct). is_aside aside x.lane) g ∙ e)
            last (inr z) = absurd (none-among a z)

            go : Among a own ⊎ Among a (act ∷ []) → Among a (take (k + 1) acts) × (is_aside aside a.lane ≡ false)
            go (inl n) = earlier a n
            go (inr n) = last (among-cases a act [] n)

    out : is_aside aside act.lane ≡ true → LeavesOut aside (take (k + 1) acts) own
    out e = record { whole = whole; within = earlier }
      where
        whole : (a : LaneAct) → Among a (take (k + 1) acts) → is_aside aside a.lane ≡ false → Among a own
        whole a m f = go (cases a m)
          where
            go : Among a (take k acts) ⊎ (a ≡ act) → Among a own
            go (inl n) = before.whole a n f
            go (inr g) = absurd (let z : true ≡ false = sym e ∙ (ap (λ (x : LaneAct). is_aside aside x.lane) (sym g) ∙ f) in cc)

    pub more-own : (own' : List LaneAct) → own' ≡ cond (is_aside aside act.lane) own (own ++ act ∷ []) → LeavesOut aside (take (k + 1) acts) own'
    more-own own' is = subst (LeavesOut aside (take (k + 1) acts)) (sym is) (go (is_aside aside act.lane) refl)
      where
        go : (u : Bool) → is_aside aside act.lane ≡ u → LeavesOut aside (take (k + 1) acts) (cond u own (own ++ act ∷ []))
        go true e = out e
        go false e = left e

  pub none-yet : (acts own : List LaneAct) → own ≡ [] → LeavesOut aside (take 0 acts) own
  none-yet acts own none = record { whole = λ a m e. absurd (none-among a m); within = λ a m. absurd (none-among a (subst (λ (xs : List LaneAct). Among a xs) none m)) }

  pub acts-left : (acts own : List LaneAct) (k : ℕ) → length acts ≤ k → LeavesOut aside (take k acts) own → LeavesOut aside acts own
  acts-left acts own k h z = subst (λ xs. LeavesOut aside xs own) (take_all k acts h) z

pub none-left : {X : Type 0} (xs : List X) → length xs ≡ 0 → xs ≡ []
none-left [] e = refl
none-left (x ∷ xs) e = absurd (omega (arith, e))

pub none-out : (aside : List AsideRow) (acts : List LaneAct) → length aside ≡ 0 → LeavesOut aside acts acts
none-out aside acts none = record { whole = λ a m e. m; within = λ a m. (m, ap (λ xs. is_aside xs a.lane) (none-left aside none)) }
