-- What acts and notes tell of what an instruction does to a lane.
use Rattle.std.proofs.Common.{◌≡◌, ℕ, Bool, true, false, cond, List, [], ◌∷◌, Option, None, Some, refl, sym, ap, ◌∙◌, map, find, eqb-true}
use Rattle.std.specs.Prelude.{nat_eq}
use Rattle.std.specs.Option.{option_or}
use Rattle.mir_func.specs.declared.func.Instr.{Instr}
use Rattle.mir_meaning.specs.declared.writing.LaneDef.{LaneDef}
use Rattle.mir_meaning.specs.Paths.{Step, Use, Unused, Certain, Into, has, use_of, move_of, writing_of, is_present, is_some_number, is_written}
use Rattle.instr_effects.specs.declared.lane_acts.LaneAct.{LaneAct}
use Rattle.instr_effects.specs.declared.lane_acts.LaneRead.{LaneRead}
use Rattle.instr_effects.specs.declared.lane_acts.LaneWrite.{LaneWrite}
use Rattle.instr_effects.specs.LaneActs.{first_of, read_at, move_at, write_at, lane_act, no_act, is_on, act_on}
use Rattle.live_lanes.specs.Coded.{Doing}
use Rattle.edit_laws.specs.Deferred.{idle, nothing}
use Rattle.edit_laws.specs.LaneSteps.{LaneStep, lane_step}
use Rattle.live_edits.specs.Remade.{use_of_read, def_of_write, noted_step}
use Rattle.live_edits.specs.NotedTable.{AreActs}

-- the reading and the writing of a lane

abbrev certain : LaneRead
certain = record { into = None }

abbrev moved : ℕ → LaneRead
moved a = record { into = Some a }

move-told : (l : ℕ) (ws : List LaneDef) → move_of l ws ≡ use_of_read (first_of (move_at l) ws)
move-told l [] = refl
move-told l (w ∷ ws) = go w.from (move-told l ws)
  where
    go : (o : Option ℕ) → move_of l ws ≡ use_of_read (first_of (move_at l) ws) → cond (is_some_number l o) (Into w.lane) (move_of l ws) ≡ use_of_read (option_or (elim o [ None ↦ None | Some n ↦ cond (nat_eq n l) (Some (moved w.lane)) None ]) (first_of (move_at l) ws))
    go None ih = ih
    go (Some n) ih = by (nat_eq n l)
      where
        by : (b : Bool) → cond b (Into w.lane) (move_of l ws) ≡ use_of_read (option_or (cond b (Some (moved w.lane)) None) (first_of (move_at l) ws))
        by true = refl
        by false = ih

read-told : (l : ℕ) (rs : List ℕ) (o : Option LaneRead) (u : Use) → u ≡ use_of_read o → cond (has l rs) Certain u ≡ use_of_read (option_or (first_of (read_at l) rs) o)
read-told l [] o u e = e
read-told l (n ∷ rs) o u e = go (nat_eq n l) (read-told l rs o u e)
  where
    go : (b : Bool) → cond (has l rs) Certain u ≡ use_of_read (option_or (first_of (read_at l) rs) o) → cond (cond b true (has l rs)) Certain u ≡ use_of_read (option_or (option_or (cond b (Some certain) None) (first_of (read_at l) rs)) o)
    go true ih = refl
    go false ih = ih

write-told : (l : ℕ) (ws : List LaneDef) → writing_of l ws ≡ def_of_write l (first_of (write_at l) ws)
write-told l [] = refl
write-told l (w ∷ ws) = go (nat_eq w.lane l) refl (write-told l ws)
  where
    own : ℕ → LaneDef
    own n = record { lane = n; from = w.from; early = w.early }

    as-write : LaneWrite
    as-write = record { from = w.from; early = w.early }

    go : (b : Bool) → nat_eq w.lane l ≡ b → writing_of l ws ≡ def_of_write l (first_of (write_at l) ws) → cond b (Some w) (writing_of l ws) ≡ def_of_write l (option_or (cond b (Some (record { from = w.from; early = w.early })) None) (first_of (write_at l) ws))
    go true e ih = λ k. Some (record { lane = eqb-true w.lane l e k; from = w.from; early = w.early })
    go false e ih = ih

pub note-step : (l : ℕ) (s : Step) → lane_step l s ≡ noted_step (record { id = s.id; act = lane_act s.reads s.writes l })
note-step l s = λ k. record { id = s.id; used = read-told l s.reads (first_of (move_at l) s.writes) (move_of l s.writes) (move-told l s.writes) k; writing = write-told l s.writes k }

-- acts that tell what an instruction does make its note
pub step-noted : (l : ℕ) (s : Step) (acts : List LaneAct) → AreActs s acts → lane_step l s ≡ noted_step (record { id = s.id; act = act_on acts l })
step-noted l s acts told = note-step l s ∙ ap (λ (a : LaneAct). noted_step (record { id = s.id; act = a })) (sym (told l))

-- a lane that no act names

pub none-on : (acts : List LaneAct) (l : ℕ) → has l (map (λ (a : LaneAct). a.lane) acts) ≡ false → act_on acts l ≡ no_act l
none-on [] l h = refl
none-on (a ∷ acts) l h = go (nat_eq a.lane l) h (none-on acts l)
  where
    go : (b : Bool) → cond b true (has l (map (λ (x : LaneAct). x.lane) acts)) ≡ false → (has l (map (λ (x : LaneAct). x.lane) acts) ≡ false → act_on acts l ≡ no_act l) → elim (cond b (Some a) (find (is_on l) acts)) [ None ↦ no_act l | Some x ↦ x ] ≡ no_act l
    go true h ih = absurd (let k : true ≡ false = h in cc)
    go false h ih = ih h

unnamed-step : (l : ℕ) (s : Step) (acts : List LaneAct) → AreActs s acts → has l (map (λ (a : LaneAct). a.lane) acts) ≡ false → lane_step l s ≡ record { id = s.id; used = Unused; writing = None }
unnamed-step l s acts told h = note-step l s ∙ ap (λ (a : LaneAct). noted_step (record { id = s.id; act = a })) (sym (told l) ∙ none-on acts l h)

-- A lane that is none of those of the acts is neither used nor written.
pub unnamed-unused : (l : ℕ) (s : Step) (acts : List LaneAct) → AreActs s acts → has l (map (λ (a : LaneAct). a.lane) acts) ≡ false → use_of l s ≡ Unused
unnamed-unused l s acts told h = ap (λ (a : LaneStep). a.used) (unnamed-step l s acts told h)

pub unnamed-writing : (l : ℕ) (s : Step) (acts : List LaneAct) → AreActs s acts → has l (map (λ (a : LaneAct). a.lane) acts) ≡ false → writing_of l s.writes ≡ None
unnamed-writing l s acts told h = ap (λ (a : LaneStep). a.writing) (unnamed-step l s acts told h)

pub unnamed-unwritten : (l : ℕ) (s : Step) (acts : List LaneAct) → AreActs s acts → has l (map (λ (a : LaneAct). a.lane) acts) ≡ false → is_written l s ≡ false
unnamed-unwritten l s acts told h = ap is_present (unnamed-writing l s acts told h)

-- instructions that are gone

module _ (gone : List ℕ) (doing : Doing) (i : Instr) where
  pub idle-id : (doing i).0.id ≡ i.id → ((idle gone doing) i).0.id ≡ i.id
  idle-id e = go (has i.id gone)
    where
      go : (b : Bool) → (cond b (nothing i.id) (doing i)).0.id ≡ i.id
      go true = refl
      go false = e

-- effects of an instruction make its acts
pub acts-done : (s : Step) (reads : List ℕ) (writes : List LaneDef) (acts : List LaneAct) → reads ≡ s.reads → writes ≡ s.writes → ((l : ℕ) → act_on acts l ≡ lane_act reads writes l) → AreActs s acts
acts-done s reads writes acts er ew told = λ l. told l ∙ (λ k. lane_act (er k) (ew k) l)
