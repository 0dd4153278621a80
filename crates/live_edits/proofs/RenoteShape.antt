-- What a cell tells, and the pieces that instructions give it.
use Rattle.std.proofs.Common.{◌≡◌, ◌∙◌, ℕ, cond, List, [], ◌∷◌, ◌++◌, Option, None, Some, map, refl, sym, ap, append_assoc}
use Rattle.std.specs.Prelude.{slice_get}
use Rattle.mir_meaning.specs.declared.writing.LaneDef.{LaneDef}
use Rattle.mir_meaning.specs.Paths.{Step, use_of, writing_of, is_present}
use Rattle.live_lanes.specs.declared.row.LaneUse.{LaneUse}
use Rattle.live_lanes.specs.Table.{Seen, Begun, begun_cause, begun_end}
use Rattle.live_lanes.specs.Entered.{Start, start_of, reading_of, readings_until, starts}
use Rattle.edit_laws.specs.CarriedRows.{started}
use Rattle.edit_laws.specs.LaneSteps.{lane_step}
use Rattle.edit_laws.specs.Rebuilt.{copied_piece}
use Rattle.live_edits.specs.Renoted.{Event, reads, writes, pieces_told, use_told, def_told, all_told, lived, Lives, AllLive}

-- what pieces tell, without their lives
abbrev pub starts_told : List LaneUse → List Start → List Event
starts_told rs [] = map reads rs
starts_told rs (s ∷ ss) = map reads rs ++ writes s.start s.early s.from ∷ starts_told s.readings ss

pub told-starts : (rs : List LaneUse) (ss : List Begun) → pieces_told rs ss ≡ starts_told rs (map start_of ss)
told-starts rs [] = refl
told-starts rs (s ∷ ss) = ap (λ t. map reads rs ++ writes s.start s.early s.from ∷ t) (told-starts s.readings ss)

map-two : (rs qs : List LaneUse) → map reads (rs ++ qs) ≡ map reads rs ++ map reads qs
map-two [] qs = refl
map-two (r ∷ rs) qs = ap (λ t. reads r ∷ t) (map-two rs qs)

starts-two : (rs qs : List LaneUse) (ss : List Start) → starts_told (rs ++ qs) ss ≡ map reads rs ++ starts_told qs ss
starts-two rs qs [] = map-two rs qs
starts-two rs qs (s ∷ ss) = ap (λ t. t ++ writes s.start s.early s.from ∷ starts_told s.readings ss) (map-two rs qs) ∙ append_assoc (map reads rs) (map reads qs) (writes s.start s.early s.from ∷ starts_told s.readings ss)

-- the pieces of instructions tell what these do
pub steps-tell : (l : ℕ) (ss : List Step) → starts_told (readings_until l ss) (starts l ss) ≡ all_told (map (lane_step l) ss)
steps-tell l [] = refl
steps-tell l (s ∷ ss) = go (writing_of l s.writes) (steps-tell l ss)
  where
    go : (w : Option LaneDef) → starts_told (readings_until l ss) (starts l ss) ≡ all_told (map (lane_step l) ss) → starts_told (reading_of s.id (use_of l s) ++ cond (is_present w) [] (readings_until l ss)) (elim w [ None ↦ starts l ss | Some d ↦ record { start = s.id; early = d.early; from = d.from; readings = readings_until l ss } ∷ starts l ss ]) ≡ use_told s.id (use_of l s) ++ (def_told s.id w ++ all_told (map (lane_step l) ss))
    go None further = starts-two (reading_of s.id (use_of l s)) (readings_until l ss) (starts l ss) ∙ ap (λ t. use_told s.id (use_of l s) ++ t) further
    go (Some d) further =
        starts-two (reading_of s.id (use_of l s)) [] (record { start = s.id; early = d.early; from = d.from; readings = readings_until l ss } ∷ starts l ss)
        ∙ ap (λ t. use_told s.id (use_of l s) ++ writes s.id d.early d.from ∷ t) further

-- the pieces that readings and writings make
abbrev Pieces : Type 0
Pieces = List LaneUse × List Start

abbrev one_more : Event → Pieces → Pieces
one_more (reads r) p = (r ∷ p.0, p.1)
one_more (writes id early from) p = ([], record { start = id; early = early; from = from; readings = p.0 } ∷ p.1)

abbrev pieces_of : List Event → Pieces
pieces_of [] = ([], [])
pieces_of (e ∷ es) = one_more e (pieces_of es)

of-reads : (rs : List LaneUse) (es : List Event) → pieces_of (map reads rs ++ es) ≡ (rs ++ (pieces_of es).0, (pieces_of es).1)
of-reads [] es = refl
of-reads (r ∷ rs) es = ap (λ (p : Pieces). (r ∷ p.0, p.1)) (of-reads rs es)

append-none : (rs : List LaneUse) → rs ++ [] ≡ rs
append-none [] = refl
append-none (r ∷ rs) = ap (λ t. r ∷ t) (append-none rs)

all-reads : (rs : List LaneUse) → pieces_of (map reads rs) ≡ (rs, [])
all-reads [] = refl
all-reads (r ∷ rs) = ap (λ (p : Pieces). (r ∷ p.0, p.1)) (all-reads rs)

pieces-back : (rs : List LaneUse) (ss : List Start) → pieces_of (starts_told rs ss) ≡ (rs, ss)
pieces-back rs [] = all-reads rs
pieces-back rs (s ∷ ss) =
    of-reads rs (writes s.start s.early s.from ∷ starts_told s.readings ss)
    ∙ ((λ i. (append-none rs i, record { start = s.start; early = s.early; from = s.from; readings = (pieces-back s.readings ss i).0 } ∷ (pieces-back s.readings ss i).1)))

-- a cell that tells what instructions do has their pieces
module _ (l : ℕ) (ss : List Step) (rs : List LaneUse) (ps : List Begun) (e : pieces_told rs ps ≡ all_told (map (lane_step l) ss)) where
  same-pieces : ◌≡◌ {A = Pieces} (rs, map start_of ps) (readings_until l ss, starts l ss)
  same-pieces = sym (pieces-back rs (map start_of ps)) ∙ (ap pieces_of (sym (told-starts rs ps) ∙ (e ∙ sym (steps-tell l ss))) ∙ pieces-back (readings_until l ss) (starts l ss))

  pub own-readings : rs ≡ readings_until l ss
  own-readings = ap (λ (p : Pieces). p.0) same-pieces

  pub own-starts : map start_of ps ≡ starts l ss
  own-starts = ap (λ (p : Pieces). p.1) same-pieces

-- lives of a cell of before, by the instruction
abbrev pub lives_of : List Begun → Lives
lives_of ss id = (begun_cause (started id ss), begun_end (started id ss))

pub all-live : (lives : Lives) (ss : List Begun) → ((k : ℕ) (s : Begun) → slice_get ss k ≡ Some s → lives s.start ≡ (s.cause, s.end)) → AllLive lives (map lived ss)
all-live lives [] h = tt
all-live lives (s ∷ ss) h = (ap (λ z. z.0) (sym (h 0 s refl)), ap (λ z. z.1) (sym (h 0 s refl)), all-live lives ss (λ k t e. h (Rattle.std.proofs.Common.suc k) t e))

abbrev first_start : Start → List Start → Start
first_start d [] = d
first_start d (s ∷ ss) = s

abbrev rest_starts : List Start → List Start
rest_starts [] = []
rest_starts (s ∷ ss) = ss

pub copied-pieces : (was : Seen) (ss qs : List Begun) → map start_of ss ≡ map start_of qs → AllLive (lives_of was.segments) (map lived ss) → ss ≡ map (copied_piece was) qs
copied-pieces was [] [] e live = refl
copied-pieces was [] (q ∷ qs) e live = absurd (cc)
copied-pieces was (s ∷ ss) [] e live = absurd (cc)
copied-pieces was (s ∷ ss) (q ∷ qs) e live =
    let own : start_of s ≡ start_of q = ap (first_start (start_of s)) e in
    let rest = copied-pieces was ss qs (ap rest_starts e) live.2 in
    λ i. record {
      start = (own i).start;
      early = (own i).early;
      from = (own i).from;
      cause = (live.0 ∙ ap (λ (t : Start). begun_cause (started t.start was.segments)) own) i;
      end = (live.1 ∙ ap (λ (t : Start). begun_end (started t.start was.segments)) own) i;
      readings = (own i).readings;
    } ∷ rest i
