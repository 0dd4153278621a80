-- A table tells of each lane in each block what the instructions do to it.
use Rattle.std.proofs.Common.{◌≡◌, ◌⊎◌, inl, inr, ◌∷◌, ◌++◌, ◌||◌, ◌∙◌, ℕ, Bool, true, false, cond, List, [], Option, Some, None, refl, sym, ap, subst, map, eq-eqb, eqb-true}
use Rattle.std.specs.Prelude.{nat_eq}
use Rattle.mir_meaning.specs.declared.writing.LaneDef.{LaneDef}
use Rattle.mir_meaning.specs.Paths.{Among, here, Step, Use, Unused, Certain, Into, has, is_present, steps_of, use_of, writing_of}
use Rattle.live_lanes.specs.declared.row.LaneUse.{LaneUse}
use Rattle.live_lanes.specs.Table.{unseen}
use Rattle.live_lanes.specs.Entered.{Shape, Start, reading, reading_of, readings_until, rows_seen, starts}
use Rattle.live_lanes.specs.Entering.{AreApart, enter_all}
use Rattle.edit_laws.specs.LaneSteps.{LaneStep, is_used, lane_steps, use_told, reading_told, writing_told, begun_told, steps_told, one_entered, AreMerged, ToldLaw, RemadeLaw}
use Rattle.edit_laws.specs.Rebuilt.{rebuilt, copied, made_anew}
use Rattle.edit_laws.proofs.ErasedLast.{has-first, has-later}
use Rattle.edit_laws.proofs.LaneSteps.{lane-steps-law, member-cases, merged-law}
use Rattle.edit_laws.proofs.Rebuilt.{apart-of}

own-lane : (l : ℕ) (ws : List LaneDef) (w : LaneDef) → writing_of l ws ≡ Some w → w.lane ≡ l
own-lane l [] w e = absurd (cc)
own-lane l (d ∷ ws) w e = go (nat_eq d.lane l) refl e (own-lane l ws w)
  where
    go : (u : Bool) → nat_eq d.lane l ≡ u → cond u (Some d) (writing_of l ws) ≡ Some w → (writing_of l ws ≡ Some w → w.lane ≡ l) → w.lane ≡ l
    go true f h rest = let same : d ≡ w = cc in ap (λ (c : LaneDef). c.lane) (sym same) ∙ eqb-true d.lane l f
    go false f h rest = rest h

-- pieces begin with instructions of the block
starts-in : (l : ℕ) (ss : List Step) (st : Start) → Among st (starts l ss) → has st.start (map (λ s. s.id) ss) ≡ true
starts-in l [] st m = elim m [ ]
starts-in l (s ∷ ss) st m = go (writing_of l s.writes) m (starts-in l ss st)
  where
    by : (w : LaneDef) → (st ≡ record { start = s.id; early = w.early; from = w.from; readings = readings_until l ss }) ⊎ Among st (starts l ss) → (Among st (starts l ss) → has st.start (map (λ (x : Step). x.id) ss) ≡ true) → has st.start (map (λ (x : Step). x.id) (s ∷ ss)) ≡ true
    by w (inl same) rest = ap (λ (x : Start). has x.start (s.id ∷ map (λ (y : Step). y.id) ss)) same ∙ has-first s.id (map (λ (y : Step). y.id) ss)
    by w (inr k) rest = has-later s.id (map (λ (y : Step). y.id) ss) st.start (rest k)

    go : (q : Option LaneDef) → Among st (elim q as (λ o. List Start) [ None ↦ starts l ss | Some w ↦ record { start = s.id; early = w.early; from = w.from; readings = readings_until l ss } ∷ starts l ss ])
        → (Among st (starts l ss) → has st.start (map (λ (x : Step). x.id) ss) ≡ true) → has st.start (map (λ (x : Step). x.id) (s ∷ ss)) ≡ true
    go None k rest = has-later s.id (map (λ (y : Step). y.id) ss) st.start (rest k)
    go (Some w) k rest = by w (member-cases st (record { start = s.id; early = w.early; from = w.from; readings = readings_until l ss }) (starts l ss) k) rest

starts-apart : (l : ℕ) (s : Step) (ss : List Step) → has s.id (map (λ x. x.id) ss) ≡ false → (st : Start) → Among st (starts l ss) → nat_eq s.id st.start ≡ false
starts-apart l s ss none st m = go (nat_eq s.id st.start) refl
  where
    go : (u : Bool) → nat_eq s.id st.start ≡ u → u ≡ false
    go true e =
        let there-too : has s.id (map (λ (x : Step). x.id) ss) ≡ true = ap (λ i. has i (map (λ (x : Step). x.id) ss)) (eqb-true s.id st.start e) ∙ starts-in l ss st m in
        sym there-too ∙ none
    go false e = refl

-- a reading in front, of an instruction that begins no piece behind it
reads-first : (l : ℕ) (r : LaneUse) (rs : List LaneUse) (ss : List Start) → ((s : Start) → Among s ss → nat_eq r.id s.start ≡ false) → steps_told l (r ∷ rs) ss ≡ reading_told r ∷ steps_told l rs ss
reads-first l r rs [] apart = refl
reads-first l r [] (s ∷ ss) apart = ap (λ t. cond t (writing_told l (use_told r.into) s ∷ []) (reading_told r ∷ writing_told l Unused s ∷ []) ++ steps_told l s.readings ss) (apart s here)
reads-first l r (q ∷ rs) (s ∷ ss) apart = refl

-- a reading of the instruction that begins the next piece
reads-last : (l : ℕ) (r : LaneUse) (s : Start) → r.id ≡ s.start → begun_told l (r ∷ []) s ≡ writing_told l (use_told r.into) s ∷ []
reads-last l r s e = ap (λ t. cond t (writing_told l (use_told r.into) s ∷ []) (reading_told r ∷ writing_told l Unused s ∷ [])) (eq-eqb r.id s.start e)

-- a writing as it is told
abbrev begins : Step → List LaneUse → LaneDef → Start
begins s rs w = record { start = s.id; early = w.early; from = w.from; readings = rs }

abbrev step : Step → Use → Option LaneDef → LaneStep
step s u q = record { id = s.id; used = u; writing = q }

told-writing : (l : ℕ) (s : Step) (u : Use) (rs : List LaneUse) (w : LaneDef) → w.lane ≡ l → writing_told l u (begins s rs w) ≡ step s u (Some w)
told-writing l s u rs w e = λ k. record { id = s.id; used = u; writing = Some (record { lane = sym e k; from = w.from; early = w.early }) }

told : (l : ℕ) (ss : List Step) → AreApart ss → steps_told l (readings_until l ss) (starts l ss) ≡ lane_steps l ss
told l [] apart = refl
told l (s ∷ ss) apart = go (use_of l s) (writing_of l s.writes) refl (told l ss apart.1)
  where
    go : (u : Use) (q : Option LaneDef) → writing_of l s.writes ≡ q → steps_told l (readings_until l ss) (starts l ss) ≡ lane_steps l ss
        → steps_told l (reading_of s.id u ++ cond (is_present q) [] (readings_until l ss)) (elim q as (λ o. List Start) [ None ↦ starts l ss | Some w ↦ begins s (readings_until l ss) w ∷ starts l ss ])
        ≡ cond (is_used u || is_present q) (step s u q ∷ lane_steps l ss) (lane_steps l ss)
    go Unused None e ih = ih
    go Certain None e ih = reads-first l (reading s.id None) (readings_until l ss) (starts l ss) (starts-apart l s ss apart.0) ∙ ap (λ xs. step s Certain None ∷ xs) ih
    go (Into a) None e ih = reads-first l (reading s.id (Some a)) (readings_until l ss) (starts l ss) (starts-apart l s ss apart.0) ∙ ap (λ xs. step s (Into a) None ∷ xs) ih
    go Unused (Some w) e ih = λ k. told-writing l s Unused (readings_until l ss) w (own-lane l s.writes w e) k ∷ ih k
    go Certain (Some w) e ih =
        ap (λ xs. xs ++ steps_told l (readings_until l ss) (starts l ss)) (reads-last l (reading s.id None) (begins s (readings_until l ss) w) refl)
        ∙ (λ k. told-writing l s Certain (readings_until l ss) w (own-lane l s.writes w e) k ∷ ih k)
    go (Into a) (Some w) e ih =
        ap (λ xs. xs ++ steps_told l (readings_until l ss) (starts l ss)) (reads-last l (reading s.id (Some a)) (begins s (readings_until l ss) w) refl)
        ∙ (λ k. told-writing l s (Into a) (readings_until l ss) w (own-lane l s.writes w e) k ∷ ih k)

pub told-law : ToldLaw
told-law code slots flow rows t l b = ap (λ (h : Shape). steps_told l h.readings h.segments) (t.entered l b) ∙ told l (steps_of code b) (apart-of slots 0 (steps_of code b) (t.numbered b))

pub remade-law : RemadeLaw
remade-law touched old new slots slots' flow x l b notes xs now t e numbered n m made =
    let same : xs ≡ lane_steps l (steps_of new b) = merged-law touched old new l b slots' notes xs e numbered n (subst (λ ys. AreMerged touched l b slots' ys notes xs) (told-law old slots flow x t l b) m) in
    let whole : enter_all one_entered xs unseen ≡ rebuilt l (steps_of new b) = ap (λ ys. enter_all one_entered ys unseen) same ∙ sym (lane-steps-law l (steps_of new b)) in
    made_anew (made ∙ ap (copied (rows_seen x l b)) whole)
