-- Tests of what is occupied at the entry and at the exit of an instruction that is no terminator.
use Rattle.std.proofs.Common.{◌≡◌, ◌∷◌, ◌&&◌, ◌||◌, ◌⊎◌, not, ⊎_elim, ◌∙◌, Bool, true, false, cond, List, map, refl, sym, ap, subst, inl, inr, []}
use Rattle.std.specs.Prelude.{Decides}
use Rattle.meaning.specs.Code.{Code, Item}
use Rattle.meaning.specs.Lanes.{Writes, same_lane}
use Rattle.meaning.specs.Live.{Among, Live, LiveAfter, OccupiedAfter, OccupiedBefore, Writing, WritingEarly, after_leap, after_next, after_phi, exits_of, here, in_order, there, writes_of}
use Rattle.meaning.specs.declared.types.Lane.{Lane}
use Rattle.meaning.specs.declared.types.Write.{Write}
use Rattle.laws.proofs.Flow.{bool_cases, none_among}
use Rattle.laws.proofs.Quiet.{same-refl, same-true}
use Rattle.laws.proofs.Tables.{or-true}
use Rattle.laws.specs.Tables.{lists}

-- l is a lane that the writes write
abbrev pub Wrote : Writes → Lane → Type 0
Wrote ws l = (w : Write) × Among w ws × (w.lane ≡ l)

abbrev pub lanes_of : Writes → List Lane
lanes_of ws = map (λ w. w.lane) ws

wrote : (ws : Writes) (l : Lane) → lists (lanes_of ws) l ≡ true → Wrote ws l
wrote [] l e = absurd (cc)
wrote (w ∷ ws) l e = ⊎_elim (λ s. (w, here, same-true w.lane l s)) (λ s. later (wrote ws l (or-true (same_lane w.lane l) (lists (lanes_of ws) l) e s))) (bool_cases (same_lane w.lane l))
  where
    later : Wrote ws l → Wrote (w ∷ ws) l
    later h = (h.0, there h.1, h.2)

listed : (ws : Writes) (w : Write) (l : Lane) → Among w ws → w.lane ≡ l → lists (lanes_of ws) l ≡ true
listed [] w l a e = absurd (none_among w a)
listed (v ∷ ws) w l here e = subst (λ x. same_lane w.lane x || lists (lanes_of ws) x ≡ true) e (ap (λ b. b || lists (lanes_of ws) w.lane) (same-refl w.lane))
listed (v ∷ ws) w l (there a) e = either (same_lane v.lane l) (lists (lanes_of ws) l) (listed ws w l a e)
  where
    either : (a b : Bool) → b ≡ true → a || b ≡ true
    either true b h = refl
    either false b h = h

abbrev pub early_of : Writes → Writes
early_of [] = []
early_of (w ∷ ws) = cond w.early (w ∷ early_of ws) (early_of ws)

-- an early write is one of the early ones
is_early : (ws : Writes) (w : Write) → Among w ws → w.early ≡ true → Among w (early_of ws)
is_early [] w a e = absurd (none_among w a)
is_early (v ∷ ws) w here e = subst (λ b. Among w (cond b (w ∷ early_of ws) (early_of ws))) (sym e) here
is_early (v ∷ ws) w (there a) e = kept v.early (is_early ws w a e)
  where
    kept : (b : Bool) → Among w (early_of ws) → Among w (cond b (v ∷ early_of ws) (early_of ws))
    kept true h = there h
    kept false h = h

split : (v w : Write) (ws : Writes) → Among w (v ∷ ws) → (w ≡ v) ⊎ Among w ws
split v w ws here = inl refl
split v w ws (there a) = inr a

was_early : (ws : Writes) (w : Write) → Among w (early_of ws) → Among w ws × (w.early ≡ true)
was_early [] w a = absurd (none_among w a)
was_early (v ∷ ws) w a = go v.early refl a (was_early ws w)
  where
    later : Among w ws × (w.early ≡ true) → Among w (v ∷ ws) × (w.early ≡ true)
    later h = (there h.0, h.1)

    first : w ≡ v → v.early ≡ true → Among w (v ∷ ws) × (w.early ≡ true)
    first h e = (subst (λ x. Among x (v ∷ ws)) (sym h) here, ap (λ x. x.early) h ∙ e)

    go : (b : Bool) → v.early ≡ b → Among w (cond b (v ∷ early_of ws) (early_of ws)) → (Among w (early_of ws) → Among w ws × (w.early ≡ true)) → Among w (v ∷ ws) × (w.early ≡ true)
    go true e x more = ⊎_elim (λ h. first h e) (λ h. later (more h)) (split v w (early_of ws) x)
    go false e x more = later (more x)

-- of two tests and one more that must fail
decides_either : {P Q : Type 0} (a b r : Bool) → Decides a P → Decides b Q → Decides ((a || b) && not r) ((P ⊎ Q) × (r ≡ false))
decides_either true b true p q = ((λ h. absurd (cc)), (λ h. let e : true ≡ false = h.1 in absurd (cc)))
decides_either true b false p q = ((λ h. (inl (p.0 refl), refl)), (λ h. refl))
decides_either false true true p q = ((λ h. absurd (cc)), (λ h. let e : true ≡ false = h.1 in absurd (cc)))
decides_either false true false p q = ((λ h. (inr (q.0 refl), refl)), (λ h. refl))
decides_either false false r p q = ((λ h. absurd (cc)), (λ h. ⊎_elim p.1 q.1 h.0))

module _ (reserved : Lane → Bool) (code : Code) (i : Item) (p : Code) where
  abbrev pub occupied_before_test : List Lane → Lane → Bool
  occupied_before_test ls l = (lists ls l || lists (lanes_of (early_of (writes_of i))) l) && not (reserved l)

  pub decides_early : (l : Lane) → Decides (lists (lanes_of (early_of (writes_of i))) l) (WritingEarly i l)
  decides_early l =
      ((λ e. shown (wrote (early_of (writes_of i)) l e)), (λ h. listed (early_of (writes_of i)) h.0 l (is_early (writes_of i) h.0 h.1 h.3) h.2))
    where
      shown : Wrote (early_of (writes_of i)) l → WritingEarly i l
      shown h = (h.0, (was_early (writes_of i) h.0 h.1).0, h.2, (was_early (writes_of i) h.0 h.1).1)

  pub occupied_before : (ls : List Lane) (l : Lane) → Decides (lists ls l) (Live reserved code (i ∷ p) l) → Decides (occupied_before_test ls l) (OccupiedBefore reserved code i p l)
  occupied_before ls l d = decides_either (lists ls l) (lists (lanes_of (early_of (writes_of i))) l) (reserved l) d (decides_early l)

  abbrev pub occupied_after_test : List Lane → Lane → Bool
  occupied_after_test ls l = (lists ls l || lists (lanes_of (writes_of i)) l) && not (reserved l)

  pub decides_writing : (l : Lane) → Decides (lists (lanes_of (writes_of i)) l) (Writing i l)
  decides_writing l = ((λ e. wrote (writes_of i) l e), (λ h. listed (writes_of i) h.0 l h.1 h.2))

  decides_after : exits_of i ≡ [] → in_order i ≡ true → (ls : List Lane) (l : Lane) → Decides (lists ls l) (Live reserved code p l) → Decides (lists ls l) (LiveAfter reserved code i p l)
  decides_after e o ls l d = ((λ h. after_next o (d.0 h)), back)
    where
      back : LiveAfter reserved code i p l → lists ls l ≡ true
      back (after_next q h) = d.1 h
      back (after_leap {e = w} x h f) = absurd (none_among w (subst (Among w) e x))
      back (after_phi {e = w} x y f) = absurd (none_among w (subst (Among w) e x))

  pub occupied_after : exits_of i ≡ [] → in_order i ≡ true → (ls : List Lane) (l : Lane) → Decides (lists ls l) (Live reserved code p l) → Decides (occupied_after_test ls l) (OccupiedAfter reserved code i p l)
  occupied_after e o ls l d = decides_either (lists ls l) (lists (lanes_of (writes_of i)) l) (reserved l) (decides_after e o ls l d) (decides_writing l)
