-- A quiet fold is in step with what it folds.
use Rattle.std.proofs.Common.{◌≡◌, ◌∷◌, ◌&&◌, ◌⊎◌, ◌∙◌, Bool, true, false, cond, eqb, refl, sym, ap, subst, inl, inr, []}
use Rattle.std.proofs.lemmas.Bool.{and_from, and_parts, eq-eqb, eqb-true}
use Rattle.meaning.specs.Code.{Code, Counted, Item, Silent}
use Rattle.meaning.specs.Fold.{Folded, LawOfFolds, Quiet, QuietAt, copies, vanishes}
use Rattle.meaning.specs.Lanes.{Writes, filled, same_lane, settled}
use Rattle.meaning.specs.Live.{Among, KeptAfter, here, there, writes_of}
use Rattle.meaning.specs.Matched.{Matched, image, image_fill, renamed, renamed_write}
use Rattle.meaning.specs.Perform.{width}
use Rattle.meaning.specs.declared.types.Fill.{Fill}
use Rattle.meaning.specs.declared.types.Fill.TheVariants.{Computed, Moved}
use Rattle.meaning.specs.declared.types.Lane.{Lane}
use Rattle.meaning.specs.declared.types.Lane.TheVariants.{SlotLane, UnitLane, VirtualLane}
use Rattle.meaning.specs.declared.types.Source.TheVariants.{Bits, FromLane, Undef}
use Rattle.meaning.specs.declared.types.Write.{Write}
use Rattle.laws.proofs.Flow.{bool_cases, none_among}
use Rattle.laws.proofs.Steps.{law_of_steps}
use Rattle.meaning.specs.Matched as matched
use Rattle.meaning.specs.Fold as fold

pub same-refl : (a : Lane) → same_lane a a ≡ true
same-refl (VirtualLane v k) = and_from _ _ (eq-eqb v v refl) (eq-eqb k k refl)
same-refl (UnitLane u) = eq-eqb u u refl
same-refl (SlotLane s k w) = and_from _ _ (eq-eqb s s refl) (and_from _ _ (eq-eqb k k refl) (eq-eqb w w refl))

pub same-true : (a b : Lane) → same_lane a b ≡ true → a ≡ b
same-true (VirtualLane v k) (VirtualLane w l) e =
    let h = and_parts (eqb v w) (eqb k l) e in
    let x = eqb-true v w h.0 in
    let y = eqb-true k l h.1 in
    cc
same-true (UnitLane u) (UnitLane w) e = ap UnitLane (eqb-true u w e)
same-true (SlotLane s k a) (SlotLane t l b) e =
    let h = and_parts (eqb s t) (eqb k l && eqb a b) e in
    let g = and_parts (eqb k l) (eqb a b) h.1 in
    let x = eqb-true s t h.0 in
    let y = eqb-true k l g.0 in
    let z = eqb-true a b g.1 in
    cc
same-true (VirtualLane v k) (UnitLane w) e = absurd (cc)
same-true (VirtualLane v k) (SlotLane t l b) e = absurd (cc)
same-true (UnitLane u) (VirtualLane w l) e = absurd (cc)
same-true (UnitLane u) (SlotLane t l b) e = absurd (cc)
same-true (SlotLane s k a) (VirtualLane w l) e = absurd (cc)
same-true (SlotLane s k a) (UnitLane w) e = absurd (cc)

pub same-false : (a b : Lane) → same_lane a b ≡ false → a ≡ b → ⊥
same-false a b e h =
    let f = same-refl a in
    let g : same_lane a b ≡ true = subst (λ x. same_lane a x ≡ true) h f in
    cc

pub same_or_not : (a b : Lane) → (a ≡ b) ⊎ (same_lane a b ≡ false)
same_or_not a b = go (same_lane a b) refl
  where
    go : (t : Bool) → same_lane a b ≡ t → (a ≡ b) ⊎ (same_lane a b ≡ false)
    go true e = inl (same-true a b e)
    go false e = inr e

pub filled-here : (l : Lane) (w : Write) (ws : Writes) → w.lane ≡ l → filled (w ∷ ws) l ≡ w.fill
filled-here l w ws e = let t : same_lane w.lane l ≡ true = subst (λ x. same_lane w.lane x ≡ true) e (same-refl w.lane) in ap (λ b. cond b w.fill (filled ws l)) t

pub filled-past : (l : Lane) (w : Write) (ws : Writes) → same_lane w.lane l ≡ false → filled (w ∷ ws) l ≡ filled ws l
filled-past l w ws e = ap (λ b. cond b w.fill (filled ws l)) e

module _ (m : Lane → Lane) (a : Lane) where
  -- a writing whose image is that of a
  abbrev Meets : Write → Type 0
  Meets w = m w.lane ≡ m a

  abbrev Alone : Writes → Type 0
  Alone ws = (w : Write) → Among w ws → Meets w → w.lane ≡ a

  abbrev AllCopies : Writes → Type 0
  AllCopies ws = (w : Write) → Among w ws → Meets w → copies m w.lane w.fill ≡ true

  alone-step : (w : Write) (ws : Writes) → (Meets w → w.lane ≡ a) → image_fill m (filled ws a) ≡ filled (renamed m ws) (m a) → (w.lane ≡ a) ⊎ (same_lane w.lane a ≡ false) → (m w.lane ≡ m a) ⊎ (same_lane (m w.lane) (m a) ≡ false) → image_fill m (filled (w ∷ ws) a) ≡ filled (renamed m (w ∷ ws)) (m a)
  alone-step w ws h ih (inl e) o = ap (image_fill m) (filled-here a w ws e) ∙ sym (filled-here (m a) (renamed_write m w) (renamed m ws) (ap m e))
  alone-step w ws h ih (inr e) (inl g) = absurd (same-false w.lane a e (h g))
  alone-step w ws h ih (inr e) (inr g) = ap (image_fill m) (filled-past a w ws e) ∙ ih ∙ sym (filled-past (m a) (renamed_write m w) (renamed m ws) g)

  filled-alone : (ws : Writes) → Alone ws → image_fill m (filled ws a) ≡ filled (renamed m ws) (m a)
  filled-alone [] h = refl
  filled-alone (w ∷ ws) h = alone-step w ws (h w here) (filled-alone ws (λ v x. h v (there x))) (same_or_not w.lane a) (same_or_not (m w.lane) (m a))

  copy-image : (d : Lane) (f : Fill) → copies m d f ≡ true → m d ≡ m a → image_fill m f ≡ Moved (FromLane (m a))
  copy-image d (Moved (FromLane l)) c e = ap (λ x. Moved (FromLane x)) (same-true (m l) (m d) c ∙ e)
  copy-image d (Moved Undef) c e = absurd (cc)
  copy-image d (Moved (Bits k low width)) c e = absurd (cc)
  copy-image d (Computed i) c e = absurd (cc)

  -- among copies a keeps its image, before and after the renaming
  copies-step : (w : Write) (ws : Writes) → (Meets w → copies m w.lane w.fill ≡ true) → image_fill m (filled ws a) ≡ Moved (FromLane (m a)) → (w.lane ≡ a) ⊎ (same_lane w.lane a ≡ false) → image_fill m (filled (w ∷ ws) a) ≡ Moved (FromLane (m a))
  copies-step w ws h ih (inl e) = ap (image_fill m) (filled-here a w ws e) ∙ copy-image w.lane w.fill (h (ap m e)) (ap m e)
  copies-step w ws h ih (inr e) = ap (image_fill m) (filled-past a w ws e) ∙ ih

  filled-copies : (ws : Writes) → AllCopies ws → image_fill m (filled ws a) ≡ Moved (FromLane (m a))
  filled-copies [] h = refl
  filled-copies (w ∷ ws) h = copies-step w ws (h w here) (filled-copies ws (λ v x. h v (there x))) (same_or_not w.lane a)

  renamed-step : (w : Write) (ws : Writes) → (Meets w → copies m w.lane w.fill ≡ true) → filled (renamed m ws) (m a) ≡ Moved (FromLane (m a)) → (m w.lane ≡ m a) ⊎ (same_lane (m w.lane) (m a) ≡ false) → filled (renamed m (w ∷ ws)) (m a) ≡ Moved (FromLane (m a))
  renamed-step w ws h ih (inl e) = filled-here (m a) (renamed_write m w) (renamed m ws) e ∙ copy-image w.lane w.fill (h e) e
  renamed-step w ws h ih (inr e) = filled-past (m a) (renamed_write m w) (renamed m ws) e ∙ ih

  renamed-copies : (ws : Writes) → AllCopies ws → filled (renamed m ws) (m a) ≡ Moved (FromLane (m a))
  renamed-copies [] h = refl
  renamed-copies (w ∷ ws) h = renamed-step w ws (h w here) (renamed-copies ws (λ v x. h v (there x))) (same_or_not (m w.lane) (m a))

  -- some writing with a's image that is no copy
  abbrev Other : Writes → Type 0
  Other ws = (w : Write) × Among w ws × (copies m w.lane w.fill ≡ false) × (m w.lane ≡ m a)

  abbrev Either : Writes → Type 0
  Either ws = Other ws ⊎ AllCopies ws

  more-copies : (w : Write) (ws : Writes) → (Meets w → copies m w.lane w.fill ≡ true) → AllCopies ws → AllCopies (w ∷ ws)
  more-copies w ws h g v here e = h e
  more-copies w ws h g v (there x) e = g v x e

  either-step : (w : Write) (ws : Writes) → Either ws → (m w.lane ≡ m a) ⊎ (same_lane (m w.lane) (m a) ≡ false) → (copies m w.lane w.fill ≡ true) ⊎ (copies m w.lane w.fill ≡ false) → Either (w ∷ ws)
  either-step w ws (inl o) e c = inl (o.0, there o.1, o.2, o.3)
  either-step w ws (inr h) (inl e) (inl c) = inr (more-copies w ws (λ _. c) h)
  either-step w ws (inr h) (inl e) (inr c) = inl (w, here, c, e)
  either-step w ws (inr h) (inr e) c = inr (more-copies w ws (λ g. absurd (same-false (m w.lane) (m a) e g)) h)

  either : (ws : Writes) → Either ws
  either [] = inr (λ w x e. absurd (none_among w x))
  either (w ∷ ws) = either-step w ws (either ws) (same_or_not (m w.lane) (m a)) (bool_cases (copies m w.lane w.fill))

module _ (reserved : Lane → Bool) (m : Lane → Lane) (code : Code) (only : (l : Lane) → reserved (m l) ≡ true → m l ≡ l) (fixes : (l : Lane) → reserved l ≡ true → m l ≡ l) where
  -- a writing that is no copy, with the image of a lane that is kept, is a writing of that lane
  is_itself : (i : Item) (p : Code) (a : Lane) → QuietAt reserved code m i p → KeptAfter reserved code i p a → (w : Write) → Among w (writes_of i) → copies m w.lane w.fill ≡ false → m w.lane ≡ m a → w.lane ≡ a
  is_itself i p a q k w x c e = go k (same_or_not a w.lane)
    where
      go : KeptAfter reserved code i p a → (a ≡ w.lane) ⊎ (same_lane a w.lane ≡ false) → w.lane ≡ a
      go k' (inl g) = sym g
      go (inl h) (inr g) = absurd ((q w x c a (sym e) g).0 h)
      go (inr r) (inr g) =
          let fa : m a ≡ a = fixes a r in
          let rw' : reserved (m w.lane) ≡ true = subst (λ l. reserved l ≡ true) (sym (e ∙ fa)) r in
          sym (only w.lane rw') ∙ e ∙ fa

  pub step_quiet : (i : Item) (p : Code) (a : Lane) → QuietAt reserved code m i p → KeptAfter reserved code i p a → image_fill m (filled (writes_of i) a) ≡ filled (renamed m (writes_of i)) (m a)
  step_quiet i p a q k = go (either m a (writes_of i))
    where
      alone : (w : Write) → Among w (writes_of i) → copies m w.lane w.fill ≡ false → m w.lane ≡ m a → Alone m a (writes_of i)
      alone w x c e v y g = end (same_or_not v.lane w.lane)
        where
          end : (v.lane ≡ w.lane) ⊎ (same_lane v.lane w.lane ≡ false) → v.lane ≡ a
          end (inl t) = t ∙ is_itself i p a q k w x c e
          end (inr t) = absurd ((q w x c v.lane (g ∙ sym e) t).1 v y refl)

      go : Either m a (writes_of i) → image_fill m (filled (writes_of i) a) ≡ filled (renamed m (writes_of i)) (m a)
      go (inl o) = filled-alone m a (writes_of i) (alone o.0 o.1 o.2 o.3)
      go (inr h) = filled-copies m a (writes_of i) h ∙ sym (renamed-copies m a (writes_of i) h)

  settled-image : (f : Fill) → settled (image_fill m f) ≡ image m (settled f)
  settled-image (Moved s) = refl
  settled-image (Computed i) = refl

  all-vanish : (ws : Writes) → vanishes m ws ≡ true → (w : Write) → Among w ws → copies m w.lane w.fill ≡ true
  all-vanish [] h w x = absurd (none_among w x)
  all-vanish (v ∷ ws) h w here = (and_parts (copies m v.lane v.fill) (vanishes m ws) h).0
  all-vanish (v ∷ ws) h w (there x) = all-vanish ws (and_parts (copies m v.lane v.fill) (vanishes m ws) h).1 w x

  -- a fold and the code that it folds match
  pub fold_matches : {p q : Code} → Folded m p q → Quiet reserved code m p → Matched reserved m code p q
  fold_matches fold.done q = matched.done
  fold_matches (fold.start g) q = matched.start (fold_matches g q.1)
  fold_matches (fold.end g) q = matched.end (fold_matches g q.1)
  fold_matches (fold.deleted {ws = ws} e g) q =
      matched.first (λ a k. sym (settled-image (filled ws a)) ∙ ap settled (filled-copies m a ws (λ w x h. all-vanish ws e w x))) (fold_matches g q.1)
  fold_matches (fold.silent {reads = reads} {ws = ws} {p = p} g) q =
      matched.both (λ a k. sym (settled-image (filled ws a)) ∙ ap settled (step_quiet (Silent reads ws) p a q.0 k)) (fold_matches g q.1)
  fold_matches (fold.counted {r = r} {reads = reads} {ws = ws} {target = target} {exits = exits} {p = p} g) q =
      matched.counted (λ a k. step_quiet (Counted r reads ws target exits) p a q.0 k) (fold_matches g q.1)

pub law_of_folds : LawOfFolds
law_of_folds reserved m f g h = law_of_steps reserved m f g h.fits (fold_matches reserved m f.code h.only h.fixes h.folded h.quiet)
