-- A cell after all its notes is that of the new code.
use Rattle.std.proofs.Common.{◌≡◌, ◌<◌, ◌≤◌, ◌∙◌, ◌⊎◌, inl, inr, ℕ, suc, Bool, true, false, cond, ◌||◌, List, [], ◌∷◌, ◌++◌, Option, None, Some, map, refl, sym, ap, subst, arith, eqb-true, eq-eqb}
use Rattle.std.specs.Prelude.{nat_eq}
use Rattle.slot_index.specs.Order.{number_of}
use Rattle.mir_meaning.specs.declared.writing.LaneDef.{LaneDef}
use Rattle.mir_meaning.specs.Paths.{Among, here, there, Code, Step, steps_of, Unused, use_of, writing_of, is_present, has}
use Rattle.live_lanes.specs.declared.compute.flow.BlockFlow.{BlockFlow}
use Rattle.live_lanes.specs.declared.row.Cause.TheVariants as reasons
use Rattle.live_lanes.specs.declared.row.LaneRange.{LaneRange}
use Rattle.live_lanes.specs.declared.row.LaneUse.{LaneUse}
use Rattle.live_lanes.specs.declared.row.PieceEnd.TheVariants as ends
use Rattle.live_lanes.specs.Table.{Numbers, Seen, Begun}
use Rattle.live_lanes.specs.Entered.{Rises, Shape, IsNumbered, IsTableOf, rows_seen}
use Rattle.live_lanes.specs.Ordered.{times}
use Rattle.live_lanes.proofs.Basics.{none-among}
use Rattle.live_lanes.proofs.Numbered.{among-cases, among-left, among-right, among-split, rises-above, segments-rise}
use Rattle.edit_laws.specs.CarriedRows.{started}
use Rattle.edit_laws.specs.LaneSteps.{LaneStep, lane_step, StepsRise}
use Rattle.edit_laws.specs.Reasons.{Touched, AreEdited, edit_none, edit_stays, edit_comes, IsEditOf}
use Rattle.edit_laws.specs.Rebuilt.{rebuilt, HasPieces, IsRebuilt, made_anew}
use Rattle.edit_laws.proofs.CarriedRows.{found-first}
use Rattle.edit_laws.proofs.Rebuilt.{rebuilt-law, apart-of}
use Rattle.live_edits.specs.declared.cells.Note.{Note}
use Rattle.live_edits.specs.RemadeSteps.{noted_ids, has_note, noted_step}
use Rattle.live_edits.specs.Remade.{AreNotesOf}
use Rattle.live_edits.specs.Renoted.{Event, reads, writes, pieces_told, seen_told, use_told, def_told, all_told, lived, Lives, AllLive, KeepsFirst, NotesSeen, NotesAll}
use Rattle.live_edits.proofs.RenoteLives.{same-first, first-then}
use Rattle.live_edits.proofs.RenoteSteps.{def-of, use-of, is_read, rise-front, rise-back}
use Rattle.live_edits.proofs.RenoteShape.{told-starts, starts_told, steps-tell, own-readings, own-starts, lives_of, all-live, copied-pieces}

-- an instruction of the new code, what the cell tells of it, and what it told at first
record Item : Type 0 where
  now : LaneStep
  first : LaneStep
  step : Step

abbrev nows : List Item → List LaneStep
nows ts = map (λ t. t.now) ts

abbrev steps : List Item → List Step
steps ts = map (λ t. t.step) ts

module _ (l : ℕ) where
  -- what it tells is right where no note is to come, and what it told at first where one is
  record IsFit (ns : List Note) (t : Item) : Type 0 where
    ids : t.now.id ≡ t.step.id
    right : has_note ns t.step.id ≡ false → t.now ≡ lane_step l t.step
    kept : has_note ns t.step.id ≡ true → t.now.writing ≡ t.first.writing

  abbrev AllFit : List Note → List Item → Type 0
  AllFit ns ts = (t : Item) → Among t ts → IsFit ns t

  -- no life for instructions that didn't write at first
  abbrev AreNew : Lives → List Item → Type 0
  AreNew lives ts = (t : Item) → Among t ts → t.first.writing ≡ None → lives t.step.id ≡ (reasons.None, ends.Never)

  -- each instruction has one note
  abbrev Apart : List Note → Type 0
  Apart [] = Unit {0}
  Apart (n ∷ ns) = (has_note ns n.id ≡ false) × Apart ns

  -- each note says what an instruction does
  abbrev Does : List Note → List Step → Type 0
  Does ns ss = (n : Note) → Among n ns → (s : Step) × Among s ss × (lane_step l s ≡ noted_step n)

  abbrev SplitAt : List Item → Step → Type 0
  SplitAt ts s = (front : List Item) × (t : Item) × (back : List Item) × (ts ≡ front ++ t ∷ back) × (t.step ≡ s)

  split-at : (ts : List Item) (s : Step) → Among s (steps ts) → SplitAt ts s
  split-at [] s m = absurd (none-among s m)
  split-at (t ∷ ts) s m = go (among-cases s t.step (steps ts) m) (split-at ts s)
    where
      go : (s ≡ t.step) ⊎ Among s (steps ts) → (Among s (steps ts) → SplitAt ts s) → SplitAt (t ∷ ts) s
      go (inl e) further = ([], t, ts, refl, sym e)
      go (inr k) further = let z = further k in (t ∷ z.0, z.1, z.2, ap (λ xs. t ∷ xs) z.3, z.4)

  map-parts : {Y : Type 0} (f : Item → Y) (front : List Item) (t : Item) (back : List Item) → map f (front ++ t ∷ back) ≡ map f front ++ f t ∷ map f back
  map-parts f [] t back = refl
  map-parts f (x ∷ front) t back = ap (λ xs. f x ∷ xs) (map-parts f front t back)

  now-among : (ts : List Item) (t : Item) → Among t ts → Among t.now (nows ts)
  now-among [] t m = absurd (none-among t m)
  now-among (x ∷ ts) t here = here
  now-among (x ∷ ts) t (there m) = there (now-among ts t m)

  not-noted : (n : Note) (ns : List Note) (i : ℕ) (b : Bool) → nat_eq n.id i ≡ false → has_note ns i ≡ b → has_note (n ∷ ns) i ≡ b
  not-noted n ns i b e h = ap (λ u. u || has_note ns i) e ∙ h

  -- numbers rise where ids are the same
  rise-same : (slots : Numbers) (front : List LaneStep) (a c : LaneStep) (back : List LaneStep) → a.id ≡ c.id → StepsRise slots (front ++ a ∷ back) → StepsRise slots (front ++ c ∷ back)
  rise-same slots [] a c back e r = (λ d m. subst (λ i. number_of slots i < number_of slots d.id) e (r.0 d m), r.1)
  rise-same slots (x ∷ front) a c back e r = (λ d m. go d (among-split d front (c ∷ back) m), rise-same slots front a c back e r.1)
    where
      at : (d : LaneStep) → (d ≡ c) ⊎ Among d back → number_of slots x.id < number_of slots d.id
      at d (inl f) = subst (λ i. number_of slots x.id < number_of slots i) (e ∙ ap (λ (q : LaneStep). q.id) (sym f)) (r.0 a (among-right a front (a ∷ back) here))
      at d (inr k) = r.0 d (among-right d front (a ∷ back) (there k))

      go : (d : LaneStep) → Among d front ⊎ Among d (c ∷ back) → number_of slots x.id < number_of slots d.id
      go d (inl k) = r.0 d (among-left d front (a ∷ back) k)
      go d (inr k) = at d (among-cases d c back k)

  module _ (slots : Numbers) where
    -- one note
    module _ (n : Note) (ns : List Note) (front : List Item) (t : Item) (back : List Item) (fits : AllFit (n ∷ ns) (front ++ t ∷ back)) (rise : StepsRise slots (nows (front ++ t ∷ back))) (alone : has_note ns n.id ≡ false) (says : lane_step l t.step ≡ noted_step n) where
      abbrev noted : Item
      noted = record t { now = noted_step n }

      own-id : t.step.id ≡ n.id
      own-id = ap (λ (a : LaneStep). a.id) says

      own-fit : IsFit (n ∷ ns) t
      own-fit = fits t (among-right t front (t ∷ back) here)

      rises : StepsRise slots (nows front ++ t.now ∷ nows back)
      rises = subst (StepsRise slots) (map-parts (λ x. x.now) front t back) rise

      noted-rises : StepsRise slots (nows (front ++ noted ∷ back))
      noted-rises = subst (StepsRise slots) (sym (map-parts (λ x. x.now) front noted back)) (rise-same slots (nows front) t.now (noted_step n) (nows back) (own-fit.ids ∙ own-id) rises)

      other-id : (x : Item) → Among x front ⊎ Among x back → nat_eq n.id x.step.id ≡ false
      other-id x m = go (nat_eq n.id x.step.id) refl (fits x (place m)).ids (apart m)
        where
          place : Among x front ⊎ Among x back → Among x (front ++ t ∷ back)
          place (inl k) = among-left x front (t ∷ back) k
          place (inr k) = among-right x front (t ∷ back) (there k)

          apart : Among x front ⊎ Among x back → number_of slots x.now.id ≡ number_of slots t.now.id → ⊥
          apart (inl k) f = let h = rise-front slots (nows front) (nows back) t.now x.now rises (now-among front x k) in omega (arith, h, f)
          apart (inr k) f = let h = rise-back slots (nows front) (nows back) t.now x.now rises (now-among back x k) in omega (arith, h, f)

          go : (u : Bool) → nat_eq n.id x.step.id ≡ u → x.now.id ≡ x.step.id → (number_of slots x.now.id ≡ number_of slots t.now.id → ⊥) → u ≡ false
          go true e f differ = absurd (differ (ap (number_of slots) (f ∙ sym (eqb-true n.id x.step.id e) ∙ sym own-id ∙ sym own-fit.ids)))
          go false e f differ = refl

      still-fit : (x : Item) → Among x (front ++ t ∷ back) → nat_eq n.id x.step.id ≡ false → IsFit ns x
      still-fit x m e =
          let f = fits x m in
          record { ids = f.ids; right = λ h. f.right (not-noted n ns x.step.id false e h); kept = λ h. f.kept (not-noted n ns x.step.id true e h) }

      noted-fit : IsFit ns noted
      noted-fit = record {
        ids = sym own-id;
        right = λ h. sym says;
        kept = λ h. absurd (let z : true ≡ false = sym h ∙ (ap (has_note ns) own-id ∙ alone) in cc);
      }

      all-fit : AllFit ns (front ++ noted ∷ back)
      all-fit x m = go (among-split x front (noted ∷ back) m)
        where
          behind : (x ≡ noted) ⊎ Among x back → IsFit ns x
          behind (inl e) = subst (IsFit ns) (sym e) noted-fit
          behind (inr k) = still-fit x (among-right x front (t ∷ back) (there k)) (other-id x (inr k))

          go : Among x front ⊎ Among x (noted ∷ back) → IsFit ns x
          go (inl k) = still-fit x (among-left x front (t ∷ back) k) (other-id x (inl k))
          go (inr k) = behind (among-cases x noted back k)

      same-steps : steps (front ++ noted ∷ back) ≡ steps (front ++ t ∷ back)
      same-steps = map-parts (λ x. x.step) front noted back ∙ sym (map-parts (λ x. x.step) front t back)

      still-new : (lives : Lives) → AreNew lives (front ++ t ∷ back) → AreNew lives (front ++ noted ∷ back)
      still-new lives new x m = go (among-split x front (noted ∷ back) m)
        where
          behind : (x ≡ noted) ⊎ Among x back → x.first.writing ≡ None → lives x.step.id ≡ (reasons.None, ends.Never)
          behind (inl e) h = subst (λ (y : Item). y.first.writing ≡ None → lives y.step.id ≡ (reasons.None, ends.Never)) (sym e) (new t (among-right t front (t ∷ back) here)) h
          behind (inr k) h = new x (among-right x front (t ∷ back) (there k)) h

          go : Among x front ⊎ Among x (noted ∷ back) → x.first.writing ≡ None → lives x.step.id ≡ (reasons.None, ends.Never)
          go (inl k) h = new x (among-left x front (t ∷ back) k) h
          go (inr k) h = behind (among-cases x noted back k) h

      module _ (v u : Seen) (p : NotesSeen slots n v u) (is : seen_told v ≡ all_told (nows (front ++ t ∷ back))) where
        parts : seen_told v ≡ all_told (nows front ++ t.now ∷ nows back)
        parts = is ∙ ap all_told (map-parts (λ x. x.now) front t back)

        now-told : seen_told u ≡ all_told (nows (front ++ noted ∷ back))
        now-told = p.told (nows front) t.now (nows back) rises (own-fit.ids ∙ own-id) parts ∙ ap all_told (sym (map-parts (λ x. x.now) front noted back))

        now-live : (lives : Lives) → AreNew lives (front ++ t ∷ back) → AllLive lives (map lived v.segments) → AllLive lives (map lived u.segments)
        now-live lives new old =
            p.lives lives (nows front) t.now (nows back) rises (own-fit.ids ∙ own-id) parts
            (λ h. ap lives (sym own-id) ∙ new t (among-right t front (t ∷ back) here) (sym (own-fit.kept (ap (λ i. nat_eq n.id i || has_note ns t.step.id) own-id ∙ ap (λ u. u || has_note ns t.step.id) (eq-eqb n.id n.id refl))) ∙ h))
            old

    -- what all notes make of a cell
    record AreNoted (lives : Lives) (ss : List Step) (v w : Seen) : Type 0 where
      told : seen_told w ≡ all_told (map (lane_step l) ss)
      first : KeepsFirst v w
      live : AllLive lives (map lived w.segments)

    all-right : (ts : List Item) → AllFit [] ts → nows ts ≡ map (lane_step l) (steps ts)
    all-right [] fits = refl
    all-right (t ∷ ts) fits = λ i. (fits t here).right refl i ∷ all-right ts (λ x m. fits x (there m)) i

    all-noted : (lives : Lives) (ns : List Note) (ts : List Item) (v w : Seen) → NotesAll slots ns v w → Does ns (steps ts) → Apart ns → AllFit ns ts → AreNew lives ts → StepsRise slots (nows ts) → seen_told v ≡ all_told (nows ts) → AllLive lives (map lived v.segments) → AreNoted lives (steps ts) v w
    all-noted lives [] ts v w p does apart fits new rise is old =
        subst (AreNoted lives (steps ts) v) (sym p) (record { told = is ∙ ap all_told (all-right ts fits); first = same-first v; live = old })
    all-noted lives (n ∷ ns) ts v w p does apart fits new rise is old =
        let d = does n here in
        let z = split-at ts d.0 d.1 in
        let front = z.0 in
        let t = z.1 in
        let back = z.2 in
        let says : lane_step l t.step ≡ noted_step n = ap (lane_step l) z.4 ∙ d.2 in
        let fits' : AllFit (n ∷ ns) (front ++ t ∷ back) = subst (AllFit (n ∷ ns)) z.3 fits in
        let rise' : StepsRise slots (nows (front ++ t ∷ back)) = subst (λ xs. StepsRise slots (nows xs)) z.3 rise in
        let new' : AreNew lives (front ++ t ∷ back) = subst (AreNew lives) z.3 new in
        let is' : seen_told v ≡ all_told (nows (front ++ t ∷ back)) = is ∙ ap (λ xs. all_told (nows xs)) z.3 in
        let same = same-steps n ns front t back fits' rise' apart.0 says ∙ ap steps (sym z.3) in
        let further = all-noted lives ns (front ++ noted n ns front t back fits' rise' apart.0 says ∷ back) p.0 w p.2 (subst (Does ns) (sym same) (λ m k. does m (there k))) apart.1
        (all-fit n ns front t back fits' rise' apart.0 says) (still-new n ns front t back fits' rise' apart.0 says lives new')
        (noted-rises n ns front t back fits' rise' apart.0 says) (now-told n ns front t back fits' rise' apart.0 says v p.0 p.1 is')
        (now-live n ns front t back fits' rise' apart.0 says v p.0 p.1 is' lives new' old) in
        record { told = further.told ∙ ap (λ ss. all_told (map (lane_step l) ss)) same; first = first-then v p.0 w p.1.first further.first; live = further.live }

  -- what is there at first

  abbrev items : {told : ℕ → ℕ → Bool} {ss rs : List Step} → AreEdited told ss rs → List Item
  items edit_none = []
  items (edit_stays {s = s} {r = r} h a) =
      let x : LaneStep = record { id = r.id; used = use_of l s; writing = writing_of l s.writes } in
      record { now = x; first = x; step = r } ∷ items a
  items (edit_comes {r = r} h a) =
      let x : LaneStep = record { id = r.id; used = Unused; writing = None } in
      record { now = x; first = x; step = r } ∷ items a

  items-steps : {told : ℕ → ℕ → Bool} {ss rs : List Step} (a : AreEdited told ss rs) → steps (items a) ≡ rs
  items-steps edit_none = refl
  items-steps (edit_stays {r = r} h a) = ap (λ t. r ∷ t) (items-steps a)
  items-steps (edit_comes {r = r} h a) = ap (λ t. r ∷ t) (items-steps a)

  items-told : {told : ℕ → ℕ → Bool} {ss rs : List Step} (a : AreEdited told ss rs) → all_told (map (lane_step l) ss) ≡ all_told (nows (items a))
  items-told edit_none = refl
  items-told (edit_stays {s = s} h a) = λ i. use_told (h.id i) (use_of l s) ++ (def_told (h.id i) (writing_of l s.writes) ++ items-told a i)
  items-told (edit_comes h a) = items-told a

  -- it is as it was at first
  record IsFirst (t : Item) : Type 0 where
    same : t.now ≡ t.first
    ids : t.now.id ≡ t.step.id

  items-first : {told : ℕ → ℕ → Bool} {ss rs : List Step} (a : AreEdited told ss rs) (t : Item) → Among t (items a) → IsFirst t
  items-first edit_none t m = absurd (none-among t m)
  items-first (edit_stays {s = s} {r = r} h a) t m = go (among-cases t _ (items a) m) (items-first a t)
    where
      go : (t ≡ record { now = record { id = r.id; used = use_of l s; writing = writing_of l s.writes }; first = record { id = r.id; used = use_of l s; writing = writing_of l s.writes }; step = r }) ⊎ Among t (items a) → (Among t (items a) → IsFirst t) → IsFirst t
      go (inl e) further = subst IsFirst (sym e) (record { same = refl; ids = refl })
      go (inr k) further = further k
  items-first (edit_comes {r = r} h a) t m = go (among-cases t _ (items a) m) (items-first a t)
    where
      go : (t ≡ record { now = record { id = r.id; used = Unused; writing = None }; first = record { id = r.id; used = Unused; writing = None }; step = r }) ⊎ Among t (items a) → (Among t (items a) → IsFirst t) → IsFirst t
      go (inl e) further = subst IsFirst (sym e) (record { same = refl; ids = refl })
      go (inr k) further = further k

  abbrev absent : Option LaneDef → Type 0
  absent w = w ≡ None

  none-written : (w : Option LaneDef) → is_present w ≡ false → w ≡ None
  none-written None e = refl
  none-written (Some d) e = absurd (cc)

  items-right : {told : ℕ → ℕ → Bool} {ss rs : List Step} (a : AreEdited told ss rs) (t : Item) → Among t (items a) → told l t.step.id ≡ false → t.now ≡ lane_step l t.step
  items-right edit_none t m e = absurd (none-among t m)
  items-right {told} (edit_stays {s = s} {r = r} h a) t m e = go (among-cases t _ (items a) m) (items-right a t) e
    where
      go : (t ≡ record { now = record { id = r.id; used = use_of l s; writing = writing_of l s.writes }; first = record { id = r.id; used = use_of l s; writing = writing_of l s.writes }; step = r }) ⊎ Among t (items a) → (Among t (items a) → told l t.step.id ≡ false → t.now ≡ lane_step l t.step) → told l t.step.id ≡ false → t.now ≡ lane_step l t.step
      go (inl f) further = subst (λ (x : Item). told l x.step.id ≡ false → x.now ≡ lane_step l x.step) (sym f) (λ free i. record { id = r.id; used = h.used l free i; writing = h.writing l free i })
      go (inr k) further = further k
  items-right {told} (edit_comes {r = r} h a) t m e = go (among-cases t _ (items a) m) (items-right a t) e
    where
      go : (t ≡ record { now = record { id = r.id; used = Unused; writing = None }; first = record { id = r.id; used = Unused; writing = None }; step = r }) ⊎ Among t (items a) → (Among t (items a) → told l t.step.id ≡ false → t.now ≡ lane_step l t.step) → told l t.step.id ≡ false → t.now ≡ lane_step l t.step
      go (inl f) further = subst (λ (x : Item). told l x.step.id ≡ false → x.now ≡ lane_step l x.step) (sym f) (λ free i. record { id = r.id; used = sym (h.unused l free) i; writing = sym (none-written (writing_of l r.writes) (h.unwritten l free)) i })
      go (inr k) further = further k

  item-rise : (slots : Numbers) (n : ℕ) (ts : List Item) → ((t : Item) → Among t ts → t.now.id ≡ t.step.id) → Rises slots n (steps ts) → StepsRise slots (nows ts)
  item-rise slots n [] ids r = tt
  item-rise slots n (t ∷ ts) ids r = (λ c m. above c (now-of ts c m), item-rise slots (number_of slots t.step.id) ts (λ x m. ids x (there m)) r.2)
    where
      now-of : (ts : List Item) (c : LaneStep) → Among c (nows ts) → (x : Item) × Among x ts × (c ≡ x.now)
      now-of [] c m = absurd (none-among c m)
      now-of (x ∷ ts) c m = go (among-cases c x.now (nows ts) m) (now-of ts c)
        where
          go : (c ≡ x.now) ⊎ Among c (nows ts) → (Among c (nows ts) → (y : Item) × Among y ts × (c ≡ y.now)) → (y : Item) × Among y (x ∷ ts) × (c ≡ y.now)
          go (inl e) further = (x, here, e)
          go (inr k) further = let z = further k in (z.0, there z.1, z.2)

      step-among : (ts : List Item) (x : Item) → Among x ts → Among x.step (steps ts)
      step-among [] x m = absurd (none-among x m)
      step-among (y ∷ ts) x here = here
      step-among (y ∷ ts) x (there m) = there (step-among ts x m)

      above : (c : LaneStep) → (x : Item) × Among x ts × (c ≡ x.now) → number_of slots t.now.id < number_of slots c.id
      above c z =
          let h = rises-above slots (number_of slots t.step.id) (steps ts) z.0.step r.2 (step-among ts z.0 z.1) in
          let f : number_of slots t.now.id ≡ number_of slots t.step.id = ap (number_of slots) (ids t here) in
          let g : number_of slots c.id ≡ number_of slots z.0.step.id = ap (number_of slots) (ap (λ (a : LaneStep). a.id) z.2 ∙ ids z.0 (there z.1)) in
          omega (arith, f, g, h)

-- notes

has-noted : (ns : List Note) (i : ℕ) → has i (noted_ids ns) ≡ has_note ns i
has-noted [] i = refl
has-noted (n ∷ ns) i = go (nat_eq n.id i) (has-noted ns i)
  where
    go : (u : Bool) → has i (noted_ids ns) ≡ has_note ns i → cond u true (has i (noted_ids ns)) ≡ (u || has_note ns i)
    go true e = refl
    go false e = e

times-noted : (ns : List Note) (i : ℕ) → times i (noted_ids ns) ≤ 0 → has_note ns i ≡ false
times-noted [] i h = refl
times-noted (n ∷ ns) i h = go (nat_eq n.id i) (times-noted ns i) h
  where
    go : (u : Bool) → (times i (noted_ids ns) ≤ 0 → has_note ns i ≡ false) → cond u (suc (times i (noted_ids ns))) (times i (noted_ids ns)) ≤ 0 → (u || has_note ns i) ≡ false
    go true further h = absurd (omega (arith, h))
    go false further h = further h

all-apart : (l : ℕ) (ns : List Note) → ((i : ℕ) → times i (noted_ids ns) ≤ 1) → Apart l ns
all-apart l [] h = tt
all-apart l (n ∷ ns) h = (alone, all-apart l ns later)
  where
    alone : has_note ns n.id ≡ false
    alone =
        let one : cond true (suc (times n.id (noted_ids ns))) (times n.id (noted_ids ns)) ≤ 1 = subst (λ u. cond u (suc (times n.id (noted_ids ns))) (times n.id (noted_ids ns)) ≤ 1) (eq-eqb n.id n.id refl) (h n.id) in
        times-noted ns n.id (omega (arith, one))

    later : (i : ℕ) → times i (noted_ids ns) ≤ 1
    later i = go (nat_eq n.id i) (h i)
      where
        go : (u : Bool) → cond u (suc (times i (noted_ids ns))) (times i (noted_ids ns)) ≤ 1 → times i (noted_ids ns) ≤ 1
        go true k = omega (arith, k)
        go false k = k

-- instructions that begin no piece

started-none : (id : ℕ) (ss : List Begun) → ((s : Begun) → Among s ss → nat_eq s.start id ≡ false) → started id ss ≡ None
started-none id [] h = refl
started-none id (s ∷ ss) h = ap (λ u. cond u (Some s) (started id ss)) (h s here) ∙ started-none id ss (λ t m. h t (there m))

abbrev Writes : ℕ → List LaneStep → Type 0
Writes i ys = (c : LaneStep) × Among c ys × (c.id ≡ i) × (is_present c.writing ≡ true)

def-in : (xs : List LaneStep) (i : ℕ) (early : Bool) (from : Option ℕ) → Among (writes i early from) (all_told xs) → Writes i xs
def-in [] i early from m = absurd (none-among (writes i early from) m)
def-in (a ∷ xs) i early from m = go (among-split (writes i early from) (use_told a.id a.used) (def_told a.id a.writing ++ all_told xs) m) (def-in xs i early from)
  where
    written : (w : Option LaneDef) → Among (writes i early from) (def_told a.id w) → is_present w ≡ true
    written None k = absurd (none-among (writes i early from) k)
    written (Some w) k = refl

    id_or : Event → ℕ
    id_or (reads r) = r.id
    id_or (writes j e f) = j

    behind : Among (writes i early from) (def_told a.id a.writing) ⊎ Among (writes i early from) (all_told xs) → (Among (writes i early from) (all_told xs) → Writes i xs) → Writes i (a ∷ xs)
    behind (inl k) further = (a, here, sym (ap id_or (def-of a.id a.writing (writes i early from) k).2), written a.writing k)
    behind (inr k) further = let z = further k in (z.0, there z.1, z.2, z.3)

    go : Among (writes i early from) (use_told a.id a.used) ⊎ Among (writes i early from) (def_told a.id a.writing ++ all_told xs) → (Among (writes i early from) (all_told xs) → Writes i xs) → Writes i (a ∷ xs)
    go (inl k) further = absurd (let z = use-of a.id a.used (writes i early from) k in let f : false ≡ true = ap is_read z.1 in cc)
    go (inr k) further = behind (among-split (writes i early from) (def_told a.id a.writing) (all_told xs) k) further

same-by-id : (slots : Numbers) (xs : List LaneStep) (a c : LaneStep) → StepsRise slots xs → Among a xs → Among c xs → a.id ≡ c.id → a ≡ c
same-by-id slots [] a c r m k e = absurd (none-among a m)
same-by-id slots (x ∷ xs) a c r m k e = go (among-cases a x xs m) (among-cases c x xs k) (same-by-id slots xs a c r.1)
  where
    go : (a ≡ x) ⊎ Among a xs → (c ≡ x) ⊎ Among c xs → (Among a xs → Among c xs → a.id ≡ c.id → a ≡ c) → a ≡ c
    go (inl f) (inl g) further = f ∙ sym g
    go (inl f) (inr j) further = absurd (let h = r.0 c j in let z : number_of slots x.id ≡ number_of slots c.id = ap (number_of slots) (ap (λ (q : LaneStep). q.id) (sym f) ∙ e) in omega (arith, h, z))
    go (inr i) (inl g) further = absurd (let h = r.0 a i in let z : number_of slots x.id ≡ number_of slots a.id = ap (number_of slots) (ap (λ (q : LaneStep). q.id) (sym g) ∙ sym e) in omega (arith, h, z))
    go (inr i) (inr j) further = further i j e

writing-among : (s : Begun) (rs : List LaneUse) (ss : List Begun) → Among s ss → Among (writes s.start s.early s.from) (pieces_told rs ss)
writing-among s rs [] m = absurd (none-among s m)
writing-among s rs (t ∷ ss) here = among-right (writes s.start s.early s.from) (map reads rs) (writes s.start s.early s.from ∷ pieces_told s.readings ss) here
writing-among s rs (t ∷ ss) (there m) = among-right (writes s.start s.early s.from) (map reads rs) (writes t.start t.early t.from ∷ pieces_told t.readings ss) (there (writing-among s t.readings ss m))

-- the cell of a lane in a block
module _ (touched : Touched) (before code : Code) (was slots : Numbers) (flow : List BlockFlow) (rows : List LaneRange) (l b : ℕ) (notes : List Note) (t : IsTableOf before was flow rows) (e : IsEditOf touched before code) (numbered : IsNumbered code slots) (n : AreNotesOf touched code l b notes) where
  abbrev old : Seen
  old = rows_seen rows l b

  abbrev at_first : List Item
  at_first = items l (e.steps b)

  abbrev lives : Lives
  lives = lives_of old.segments

  old-told : seen_told old ≡ all_told (nows at_first)
  old-told =
      told-starts old.readings old.segments
      ∙ ((λ i. starts_told (ap (λ (s : Shape). s.readings) (t.entered l b) i) (ap (λ (s : Shape). s.segments) (t.entered l b) i))
      ∙ (steps-tell l (steps_of before b) ∙ items-told l (e.steps b)))

  first-rise : StepsRise slots (nows at_first)
  first-rise = item-rise l slots 0 at_first (λ x m. (items-first l (e.steps b) x m).ids) (subst (Rises slots 0) (sym (items-steps l (e.steps b))) (numbered b))

  first-fit : AllFit l notes at_first
  first-fit x m =
      let f = items-first l (e.steps b) x m in
      record {
        ids = f.ids;
        right = λ h. items-right l (e.steps b) x m (n.told x.step.id ∙ (has-noted notes x.step.id ∙ h));
        kept = λ h. ap (λ (a : LaneStep). a.writing) f.same;
      }

  first-new : AreNew l lives at_first
  first-new x m none =
      let f = items-first l (e.steps b) x m in
      let absent : started x.step.id old.segments ≡ None = started-none x.step.id old.segments (λ s k. go s k (nat_eq s.start x.step.id) refl) in
      ap (λ o. (Rattle.live_lanes.specs.Table.begun_cause o, Rattle.live_lanes.specs.Table.begun_end o)) absent
    where
      go : (s : Begun) → Among s old.segments → (u : Bool) → nat_eq s.start x.step.id ≡ u → u ≡ false
      go s k true q =
          let f = items-first l (e.steps b) x m in
          let z = def-in (nows at_first) s.start s.early s.from (subst (Among (writes s.start s.early s.from)) old-told (writing-among s old.readings old.segments k)) in
          let same : z.0 ≡ x.now = same-by-id slots (nows at_first) z.0 x.now first-rise z.1 (now-among l at_first x m) (z.2 ∙ (eqb-true s.start x.step.id q ∙ sym f.ids)) in
          absurd (let h : true ≡ false = sym z.3 ∙ ap is_present (ap (λ (a : LaneStep). a.writing) (same ∙ f.same) ∙ none) in cc)
      go s k false q = refl

  old-live : AllLive lives (map lived old.segments)
  old-live = all-live lives old.segments (λ k s h. ap (λ o. (Rattle.live_lanes.specs.Table.begun_cause o, Rattle.live_lanes.specs.Table.begun_end o)) (found-first was 0 old.segments k s (segments-rise was l 0 (steps_of before b) old.segments (t.numbered b) (ap (λ (s : Shape). s.segments) (t.entered l b))) h))

  pub notes-rebuilt : (now : Seen) → NotesAll slots notes old now → IsRebuilt before code l b old now
  notes-rebuilt now p =
      let does : Does l notes (steps at_first) = subst (Does l notes) (sym (items-steps l (e.steps b))) n.does in
      let a = all-noted l slots lives notes at_first old now p does (all-apart l notes n.single) first-fit first-new first-rise old-told old-live in
      let told : seen_told now ≡ all_told (map (lane_step l) (steps_of code b)) = a.told ∙ ap (λ ss. all_told (map (lane_step l) ss)) (items-steps l (e.steps b)) in
      let made : HasPieces l (steps_of code b) (rebuilt l (steps_of code b)) = rebuilt-law l (steps_of code b) (apart-of slots 0 (steps_of code b) (numbered b)) in
      let readings = own-readings l (steps_of code b) now.readings now.segments told ∙ sym made.readings in
      let segments = copied-pieces old now.segments (rebuilt l (steps_of code b)).segments (own-starts l (steps_of code b) now.readings now.segments told ∙ sym made.segments) a.live in
      made_anew (λ i. record { is_read_last = a.first.last i; cause = a.first.cause i; end = a.first.end i; readings = readings i; segments = segments i })
