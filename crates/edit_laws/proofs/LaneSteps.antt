-- A cell is made anew from what instructions do to its lane, of which the notes of edits and the cell of before tell.
use Rattle.std.proofs.Common.{◌≡◌, ◌⊎◌, inl, inr, ◌∷◌, ◌||◌, ◌∙◌, ◌<◌, ℕ, Bool, true, false, cond, List, [], Option, Some, None, refl, sym, ap, subst, arith}
use Rattle.slot_index.specs.Order.{number_of}
use Rattle.mir_meaning.specs.declared.writing.LaneDef.{LaneDef}
use Rattle.mir_meaning.specs.Paths.{Among, here, there, Code, Step, Use, Unused, Certain, Into, is_present, steps_of, use_of, writing_of}
use Rattle.live_lanes.specs.Table.{Numbers, Seen, unseen}
use Rattle.live_lanes.specs.Entered.{IsNumbered, Rises}
use Rattle.live_lanes.specs.Entering.{enter_all}
use Rattle.edit_laws.specs.LaneSteps.{LaneStep, lane_step, is_used, does_any, lane_steps, one_entered, LaneStepsLaw, StepsRise, AreNotes, AreMerged, MergedLaw}
use Rattle.edit_laws.specs.Reasons.{Touched, AreEdited, edit_none, edit_stays, edit_comes, IsEditOf}
use Rattle.edit_laws.specs.Rebuilt.{lane_used, lane_written, lane_entered}

-- instructions that do nothing to the lane enter nothing

one-more : (id : ℕ) (u : Use) (q : Option LaneDef) (v : Seen) (rest : List LaneStep) (X : Seen → Seen) → ((w : Seen) → X w ≡ enter_all one_entered rest w)
    → X (lane_written id q (lane_used id u v)) ≡ enter_all one_entered (cond (is_used u || is_present q) (record { id = id; used = u; writing = q } ∷ rest) rest) v
one-more id Unused None v rest X h = h v
one-more id Unused (Some w) v rest X h = h (lane_written id (Some w) (lane_used id Unused v))
one-more id Certain q v rest X h = h (lane_written id q (lane_used id Certain v))
one-more id (Into a) q v rest X h = h (lane_written id q (lane_used id (Into a) v))

steps-enter : (l : ℕ) (ss : List Step) (v : Seen) → enter_all (lane_entered l) ss v ≡ enter_all one_entered (lane_steps l ss) v
steps-enter l [] v = refl
steps-enter l (s ∷ ss) v = one-more s.id (use_of l s) (writing_of l s.writes) v (lane_steps l ss) (enter_all (lane_entered l) ss) (steps-enter l ss)

pub lane-steps-law : LaneStepsLaw
lane-steps-law l ss = steps-enter l ss unseen

-- members of what instructions do

abbrev Done : ℕ → List Step → LaneStep → Type 0
Done l ss a = (s : Step) × Among s ss × (lane_step l s ≡ a) × (does_any a ≡ true)

pub member-cases : {X : Type 0} (x y : X) (ys : List X) → Among x (y ∷ ys) → (x ≡ y) ⊎ Among x ys
member-cases x y ys here = inl refl
member-cases x y ys (there m) = inr m

done-of : (l : ℕ) (ss : List Step) (a : LaneStep) → Among a (lane_steps l ss) → Done l ss a
done-of l [] a m = elim m [ ]
done-of l (s ∷ ss) a m = go (does_any (lane_step l s)) refl m (done-of l ss a)
  where
    later : Done l ss a → Done l (s ∷ ss) a
    later z = (z.0, there z.1, z.2, z.3)

    by : does_any (lane_step l s) ≡ true → (a ≡ lane_step l s) ⊎ Among a (lane_steps l ss) → (Among a (lane_steps l ss) → Done l ss a) → Done l (s ∷ ss) a
    by e (inl same) rest = (s, here, sym same, ap does_any same ∙ e)
    by e (inr k) rest = later (rest k)

    go : (u : Bool) → does_any (lane_step l s) ≡ u → Among a (cond u (lane_step l s ∷ lane_steps l ss) (lane_steps l ss)) → (Among a (lane_steps l ss) → Done l ss a) → Done l (s ∷ ss) a
    go true e k rest = by e (member-cases a (lane_step l s) (lane_steps l ss) k) rest
    go false e k rest = later (rest k)

in-front : (u : Bool) (a : LaneStep) (xs : List LaneStep) → u ≡ true → Among a (cond u (a ∷ xs) xs)
in-front true a xs e = here
in-front false a xs e = absurd (cc)

behind-it : (u : Bool) (a c : LaneStep) (xs : List LaneStep) → Among c xs → Among c (cond u (a ∷ xs) xs)
behind-it true a c xs m = there m
behind-it false a c xs m = m

of-done : (l : ℕ) (ss : List Step) (s : Step) → Among s ss → does_any (lane_step l s) ≡ true → Among (lane_step l s) (lane_steps l ss)
of-done l [] s m e = elim m [ ]
of-done l (x ∷ ss) s here e = in-front (does_any (lane_step l s)) (lane_step l s) (lane_steps l ss) e
of-done l (x ∷ ss) s (there m) e = behind-it (does_any (lane_step l x)) (lane_step l x) (lane_step l s) (lane_steps l ss) (of-done l ss s m e)

-- their numbers rise

higher : (slots : Numbers) (n : ℕ) (ss : List Step) (s : Step) → Rises slots n ss → Among s ss → n < number_of slots s.id
higher slots n [] s r m = elim m [ ]
higher slots n (x ∷ ss) s r here = r.0
higher slots n (x ∷ ss) s r (there m) = let h = higher slots (number_of slots x.id) ss s r.2 m in omega (arith, h, r.0)

steps-rise : (slots : Numbers) (l n : ℕ) (ss : List Step) → Rises slots n ss → StepsRise slots (lane_steps l ss)
steps-rise slots l n [] r = tt
steps-rise slots l n (s ∷ ss) r = go (does_any (lane_step l s)) (steps-rise slots l (number_of slots s.id) ss r.2)
  where
    above : (c : LaneStep) → Among c (lane_steps l ss) → number_of slots s.id < number_of slots c.id
    above c m =
        let z = done-of l ss c m in
        subst (λ k. number_of slots s.id < number_of slots k) (ap (λ (d : LaneStep). d.id) z.2) (higher slots (number_of slots s.id) ss z.0 r.2 z.1)

    go : (u : Bool) → StepsRise slots (lane_steps l ss) → StepsRise slots (cond u (lane_step l s ∷ lane_steps l ss) (lane_steps l ss))
    go true rest = (above, rest)
    go false rest = rest

-- two that rise and have the same members are one

module _ (slots : Numbers) where
  same-head : (x y : LaneStep) (xs ys : List LaneStep) → ((c : LaneStep) → Among c xs → number_of slots x.id < number_of slots c.id) → ((c : LaneStep) → Among c ys → number_of slots y.id < number_of slots c.id)
      → (x ≡ y) ⊎ Among x ys → (y ≡ x) ⊎ Among y xs → x ≡ y
  same-head x y xs ys p q (inl e) k = e
  same-head x y xs ys p q (inr m) (inl e) = sym e
  same-head x y xs ys p q (inr m) (inr k) = absurd (let a = q x m in let b = p y k in omega (arith, a, b))

  tail-in : (x y : LaneStep) (xs ys : List LaneStep) → x ≡ y → ((c : LaneStep) → Among c xs → number_of slots x.id < number_of slots c.id) → ((c : LaneStep) → Among c (x ∷ xs) → Among c (y ∷ ys)) → (c : LaneStep) → Among c xs → Among c ys
  tail-in x y xs ys same p sub c m = go (member-cases c y ys (sub c (there m)))
    where
      go : (c ≡ y) ⊎ Among c ys → Among c ys
      go (inl e) =
          let low : number_of slots x.id < number_of slots c.id = p c m in
          let one : number_of slots c.id ≡ number_of slots x.id = ap (λ (d : LaneStep). number_of slots d.id) (e ∙ sym same) in
          absurd (omega (arith, low, one))
      go (inr k) = k

  same-steps : (xs ys : List LaneStep) → StepsRise slots xs → StepsRise slots ys → ((c : LaneStep) → Among c xs → Among c ys) → ((c : LaneStep) → Among c ys → Among c xs) → xs ≡ ys
  same-steps [] [] p q to back = refl
  same-steps [] (y ∷ ys) p q to back = absurd (none (back y here))
    where
      none : {d : LaneStep} → Among d [] → ⊥
      none m = elim m [ ]
  same-steps (x ∷ xs) [] p q to back = absurd (none (to x here))
    where
      none : {d : LaneStep} → Among d [] → ⊥
      none m = elim m [ ]
  same-steps (x ∷ xs) (y ∷ ys) p q to back =
      let same : x ≡ y = same-head x y xs ys p.0 q.0 (member-cases x y ys (to x here)) (member-cases y x xs (back y here)) in
      let rest : xs ≡ ys = same-steps xs ys p.1 q.1 (tail-in x y xs ys same p.0 to) (tail-in y x ys xs (sym same) q.0 back) in
      λ k. same k ∷ rest k

-- what isn't touched does what it did

module _ (touched : ℕ → ℕ → Bool) (l : ℕ) where
  abbrev Before : Step → List Step → Type 0
  Before r ss = (s : Step) × Among s ss × (lane_step l s ≡ lane_step l r)

  before-it : {ss rs : List Step} → AreEdited touched ss rs → (r : Step) → Among r rs → touched l r.id ≡ false → does_any (lane_step l r) ≡ true → Before r ss
  before-it edit_none r m o e = elim m [ ]
  before-it (edit_stays {s = s} h a) r here o e = (s, here, λ k. record { id = h.id k; used = h.used l o k; writing = h.writing l o k })
  before-it (edit_stays h a) r (there m) o e = let z = before-it a r m o e in (z.0, there z.1, z.2)
  before-it (edit_comes {r = x} h a) r here o e =
      absurd (let z : true ≡ false = sym e ∙ (λ k. is_used (h.unused l o k) || (h.unwritten l o k)) in cc)
  before-it (edit_comes h a) r (there m) o e = before-it a r m o e

  after-it : {ss rs : List Step} → AreEdited touched ss rs → (s : Step) → Among s ss → touched l s.id ≡ false → Before s rs
  after-it edit_none s m o = elim m [ ]
  after-it (edit_stays {r = r} h a) s here o =
      let same : touched l r.id ≡ false = ap (touched l) (sym h.id) ∙ o in
      (r, here, λ k. record { id = sym h.id k; used = sym (h.used l same) k; writing = sym (h.writing l same) k })
  after-it (edit_stays h a) s (there m) o = let z = after-it a s m o in (z.0, there z.1, z.2)
  after-it (edit_comes h a) s m o = let z = after-it a s m o in (z.0, there z.1, z.2)

module _ (touched : Touched) (old new : Code) (l b : ℕ) (slots : Numbers) (notes xs : List LaneStep) (e : IsEditOf touched old new) (numbered : IsNumbered new slots) (n : AreNotes touched new l b notes) (m : AreMerged touched l b slots (lane_steps l (steps_of old b)) notes xs) where
  abbrev now : Step → LaneStep
  now s = lane_step l s

  abbrev these : List LaneStep
  these = lane_steps l (steps_of new b)

  abbrev those : List LaneStep
  those = lane_steps l (steps_of old b)

  to-new : (a : LaneStep) → Among a xs → Among a these
  to-new a k = go ((m.members a).0 k)
    where
      go : (Among a those × (touched l b a.id ≡ false)) ⊎ Among a notes → Among a these
      go (inl z) =
          let d = done-of l (steps_of old b) a z.0 in
          let o : touched l b d.0.id ≡ false = ap (λ (c : LaneStep). touched l b c.id) d.2 ∙ z.1 in
          let w = after-it (λ k i. touched k b i) l (e.steps b) d.0 d.1 o in
          let same : lane_step l w.0 ≡ a = w.2 ∙ d.2 in
          subst (λ c. Among c these) same (of-done l (steps_of new b) w.0 w.1 (ap does_any same ∙ d.3))
      go (inr k) =
          let z = n.stands a k in
          subst (λ c. Among c these) z.2 (of-done l (steps_of new b) z.0 z.1 (ap does_any z.2 ∙ z.3))

  from-new : (a : LaneStep) → Among a these → Among a xs
  from-new a k =
      let d = done-of l (steps_of new b) a k in
      let any : does_any (lane_step l d.0) ≡ true = ap does_any d.2 ∙ d.3 in
      subst (λ c. Among c xs) d.2 (go d.0 d.1 any (touched l b d.0.id) refl)
    where
      go : (s : Step) → Among s (steps_of new b) → does_any (lane_step l s) ≡ true → (u : Bool) → touched l b s.id ≡ u → Among (lane_step l s) xs
      go s i any true o = (m.members (lane_step l s)).1 (inr (n.noted s i o any))
      go s i any false o =
          let w = before-it (λ k j. touched k b j) l (e.steps b) s i o any in
          let was : Among (lane_step l s) those = subst (λ c. Among c those) w.2 (of-done l (steps_of old b) w.0 w.1 (ap does_any w.2 ∙ any)) in
          (m.members (lane_step l s)).1 (inl (was, o))

  merged : xs ≡ these
  merged = same-steps slots xs these m.rise (steps-rise slots l 0 (steps_of new b) (numbered b)) to-new from-new

pub merged-law : MergedLaw
merged-law touched old new l b slots notes xs e numbered n m = merged touched old new l b slots notes xs e numbered n m
