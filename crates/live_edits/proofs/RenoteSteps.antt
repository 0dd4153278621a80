-- One note: an instruction reads and writes a lane as it says.
use Rattle.std.proofs.Common.{◌≡◌, ◌<◌, ◌∙◌, ◌⊎◌, inl, inr, ℕ, Bool, true, false, List, [], ◌∷◌, ◌++◌, Option, None, Some, refl, sym, ap, subst, arith, append_assoc, eqb-true}
use Rattle.std.specs.Prelude.{nat_eq, is_some}
use Rattle.std.proofs.lemmas.Bool.{le-ltb, lt-ltb, le-leb, leb-true}
use Rattle.slot_index.specs.Order.{number_of}
use Rattle.mir_meaning.specs.declared.writing.LaneDef.{LaneDef}
use Rattle.mir_meaning.specs.Paths.{Among, here, there, Use, Unused, Certain, Into}
use Rattle.live_lanes.specs.declared.row.LaneUse.{LaneUse}
use Rattle.live_lanes.specs.Table.{Numbers, Seen}
use Rattle.live_lanes.specs.Entered.{reading}
use Rattle.live_lanes.proofs.Basics.{none-among}
use Rattle.live_lanes.proofs.Numbered.{among-cases, among-right, among-split}
use Rattle.edit_laws.specs.LaneSteps.{LaneStep, StepsRise}
use Rattle.live_edits.specs.declared.cells.Note.{Note}
use Rattle.instr_effects.specs.declared.lane_acts.LaneWrite.{LaneWrite}
use Rattle.live_edits.specs.RemadeSteps.{use_of_read, def_of_write, noted_step}
use Rattle.live_edits.specs.Renoted.{Event, reads, writes, use_told, def_told, all_told, seen_told, not_over, before_entry, before_exit, AllPass, NonePass, NoReading, AllLive, NotesReading, NotesWriting, NotesSeen}
use Rattle.live_edits.specs.Told.{begun_left, untold, StaysOrShrinks}
use Rattle.live_edits.proofs.RenoteLives.{first-then}

abbrev pub is_read : Event → Bool
is_read (reads q) = true
is_read (writes i early from) = false

abbrev pub event_id : Event → ℕ
event_id (reads r) = r.id
event_id (writes i early from) = i

pub all-append : (xs ys : List LaneStep) → all_told (xs ++ ys) ≡ all_told xs ++ all_told ys
all-append [] ys = refl
all-append (a ∷ xs) ys =
    ap (λ t. use_told a.id a.used ++ (def_told a.id a.writing ++ t)) (all-append xs ys)
    ∙ (ap (λ t. use_told a.id a.used ++ t) (sym (append_assoc (def_told a.id a.writing) (all_told xs) (all_told ys)))
    ∙ sym (append_assoc (use_told a.id a.used) (def_told a.id a.writing ++ all_told xs) (all_told ys)))

one-of : (x e : Event) → Among e (x ∷ []) → e ≡ x
one-of x e m = go (among-cases e x [] m)
  where
    go : (e ≡ x) ⊎ Among e [] → e ≡ x
    go (inl f) = f
    go (inr k) = absurd (none-among e k)

pub use-of : (id : ℕ) (u : Use) (e : Event) → Among e (use_told id u) → (r : LaneUse) × (e ≡ reads r) × (r.id ≡ id)
use-of id Unused e m = absurd (none-among e m)
use-of id Certain e m = (reading id None, one-of (reads (reading id None)) e m, refl)
use-of id (Into a) e m = (reading id (Some a), one-of (reads (reading id (Some a))) e m, refl)

pub def-of : (id : ℕ) (d : Option LaneDef) (e : Event) → Among e (def_told id d) → (early : Bool) × (from : Option ℕ) × (e ≡ writes id early from)
def-of id None e m = absurd (none-among e m)
def-of id (Some w) e m = (w.early, w.from, one-of (writes id w.early w.from) e m)

pub told-of : (xs : List LaneStep) (e : Event) → Among e (all_told xs) → (c : LaneStep) × Among c xs × (event_id e ≡ c.id)
told-of [] e m = absurd (none-among e m)
told-of (a ∷ xs) e m = go (among-split e (use_told a.id a.used) (def_told a.id a.writing ++ all_told xs) m) (told-of xs e)
  where
    behind : Among e (def_told a.id a.writing) ⊎ Among e (all_told xs) → (Among e (all_told xs) → (c : LaneStep) × Among c xs × (event_id e ≡ c.id)) → (c : LaneStep) × Among c (a ∷ xs) × (event_id e ≡ c.id)
    behind (inl k) further = (a, here, ap event_id (def-of a.id a.writing e k).2)
    behind (inr k) further = let z = further k in (z.0, there z.1, z.2)

    go : Among e (use_told a.id a.used) ⊎ Among e (def_told a.id a.writing ++ all_told xs) → (Among e (all_told xs) → (c : LaneStep) × Among c xs × (event_id e ≡ c.id)) → (c : LaneStep) × Among c (a ∷ xs) × (event_id e ≡ c.id)
    go (inl k) further = let z = use-of a.id a.used e k in (a, here, ap event_id z.1 ∙ z.2)
    go (inr k) further = behind (among-split e (def_told a.id a.writing) (all_told xs) k) further

module _ (slots : Numbers) where
  pub rise-front : (xs ys : List LaneStep) (a c : LaneStep) → StepsRise slots (xs ++ a ∷ ys) → Among c xs → number_of slots c.id < number_of slots a.id
  rise-front [] ys a c r m = absurd (none-among c m)
  rise-front (x ∷ xs) ys a c r here = r.0 a (among-right a xs (a ∷ ys) here)
  rise-front (x ∷ xs) ys a c r (there m) = rise-front xs ys a c r.1 m

  pub rise-back : (xs ys : List LaneStep) (a c : LaneStep) → StepsRise slots (xs ++ a ∷ ys) → Among c ys → number_of slots a.id < number_of slots c.id
  rise-back [] ys a c r m = r.0 c m
  rise-back (x ∷ xs) ys a c r m = rise-back xs ys a c r.1 m

  module _ (id : ℕ) where
    abbrev Low : Event → Type 0
    Low e = number_of slots (event_id e) < number_of slots id

    abbrev High : Event → Type 0
    High e = number_of slots id < number_of slots (event_id e)

    not-over-high : (i : ℕ) → number_of slots id < number_of slots i → not_over slots id i ≡ false
    not-over-high i h = go (not_over slots id i) refl
      where
        go : (t : Bool) → not_over slots id i ≡ t → t ≡ false
        go true e = absurd (let k = leb-true (number_of slots i) (number_of slots id) e in omega (arith, h, k))
        go false e = refl

    other : (i : ℕ) → number_of slots id < number_of slots i → nat_eq i id ≡ false
    other i h = go (nat_eq i id) refl
      where
        go : (t : Bool) → nat_eq i id ≡ t → t ≡ false
        go true e = absurd (let k : number_of slots i ≡ number_of slots id = ap (number_of slots) (eqb-true i id e) in omega (arith, h, k))
        go false e = refl

    entry-low : (e : Event) → Low e → before_entry slots id e ≡ true
    entry-low (reads r) h = lt-ltb (number_of slots r.id) (number_of slots id) h
    entry-low (writes i early from) h = lt-ltb (number_of slots i) (number_of slots id) h

    entry-high : (e : Event) → High e → before_entry slots id e ≡ false
    entry-high (reads r) h = le-ltb (number_of slots r.id) (number_of slots id) (omega (arith, h))
    entry-high (writes i early from) h = le-ltb (number_of slots i) (number_of slots id) (omega (arith, h))

    exit-low : (e : Event) → Low e → before_exit slots id e ≡ true
    exit-low (reads r) h = le-leb (number_of slots r.id) (number_of slots id) (omega (arith, h))
    exit-low (writes i early from) h = lt-ltb (number_of slots i) (number_of slots id) h

    exit-high : (e : Event) → High e → before_exit slots id e ≡ false
    exit-high (reads r) h = not-over-high r.id h
    exit-high (writes i early from) h = le-ltb (number_of slots i) (number_of slots id) (omega (arith, h))

    module _ (front back : List Event) (low : (e : Event) → Among e front → Low e) (high : (e : Event) → Among e back → High e) (d : Option LaneDef) where
      none-behind : NonePass (before_entry slots id) (def_told id d ++ back)
      none-behind e m = go (among-split e (def_told id d) back m)
        where
          go : Among e (def_told id d) ⊎ Among e back → before_entry slots id e ≡ false
          go (inl k) = let z = def-of id d e k in ap (before_entry slots id) z.2 ∙ le-ltb (number_of slots id) (number_of slots id) (omega arith)
          go (inr k) = entry-high e (high e k)

      free-behind : NoReading id (def_told id d ++ back)
      free-behind r m = go (among-split (reads r) (def_told id d) back m)
        where
          go : Among (reads r) (def_told id d) ⊎ Among (reads r) back → nat_eq r.id id ≡ false
          go (inl k) = absurd (let z = def-of id d (reads r) k in let f : true ≡ false = ap is_read z.2 in cc)
          go (inr k) = other r.id (high (reads r) k)

      pass-through : (u : Use) → AllPass (before_exit slots id) (front ++ use_told id u)
      pass-through u e m = go (among-split e front (use_told id u) m)
        where
          go : Among e front ⊎ Among e (use_told id u) → before_exit slots id e ≡ true
          go (inl k) = exit-low e (low e k)
          go (inr k) = let z = use-of id u e k in ap (before_exit slots id) z.1 ∙ le-leb (number_of slots z.0.id) (number_of slots id) (let f : number_of slots z.0.id ≡ number_of slots id = ap (number_of slots) z.2 in omega (arith, f))

  -- the readings and writings of the instructions before it, and of those behind it
  module _ (n : Note) (front : List LaneStep) (a : LaneStep) (back : List LaneStep) (rise : StepsRise slots (front ++ a ∷ back)) (same : a.id ≡ n.id) where
    low : (e : Event) → Among e (all_told front) → number_of slots (event_id e) < number_of slots n.id
    low e m =
        let z = told-of front e m in
        let h = rise-front front back a z.0 rise z.1 in
        let f : number_of slots (event_id e) ≡ number_of slots z.0.id = ap (number_of slots) z.2 in
        let g : number_of slots a.id ≡ number_of slots n.id = ap (number_of slots) same in
        omega (arith, f, g, h)

    high : (e : Event) → Among e (all_told back) → number_of slots n.id < number_of slots (event_id e)
    high e m =
        let z = told-of back e m in
        let h = rise-back front back a z.0 rise z.1 in
        let f : number_of slots (event_id e) ≡ number_of slots z.0.id = ap (number_of slots) z.2 in
        let g : number_of slots a.id ≡ number_of slots n.id = ap (number_of slots) same in
        omega (arith, f, g, h)

    module _ (v u : Seen) (p : NotesReading slots n.id (use_of_read n.act.read) v u) (is : seen_told v ≡ all_told (front ++ a ∷ back)) where
      abbrev now : List Event
      now = use_told n.id (use_of_read n.act.read)

      read-first : seen_told u ≡ all_told front ++ (now ++ (def_told n.id a.writing ++ all_told back))
      read-first =
          p.told (all_told front) a.used (def_told n.id a.writing ++ all_told back)
          (is ∙ (all-append front (a ∷ back) ∙ ap (λ i. all_told front ++ (use_told i a.used ++ (def_told i a.writing ++ all_told back))) same))
          (λ e m. entry-low n.id e (low e m))
          (none-behind n.id (all_told front) (all_told back) low high a.writing)
          (free-behind n.id (all_told front) (all_told back) low high a.writing)

      then-written : seen_told u ≡ (all_told front ++ now) ++ (def_told n.id a.writing ++ all_told back)
      then-written = read-first ∙ sym (append_assoc (all_told front) now (def_told n.id a.writing ++ all_told back))

      module _ (w : Seen) (q : NotesWriting slots n.id (def_of_write n.act.lane n.act.write) u w) where
        both-told : seen_told w ≡ all_told (front ++ noted_step n ∷ back)
        both-told =
            q.told (all_told front ++ now) a.writing (all_told back) then-written
            (pass-through n.id (all_told front) (all_told back) low high a.writing (use_of_read n.act.read))
            (λ e m. exit-high n.id e (high e m))
            (λ i early from m. other n.id i (high (writes i early from) m))
            ∙ append_assoc (all_told front) now (def_told n.id (def_of_write n.act.lane n.act.write) ++ all_told back)
            ∙ sym (all-append front (noted_step n ∷ back))

  pub note-seen : (n : Note) (v u w : Seen) → NotesReading slots n.id (use_of_read n.act.read) v u → NotesWriting slots n.id (def_of_write n.act.lane n.act.write) u w → NotesSeen slots n v w
  note-seen n v u w p q = record {
    told = λ front a back rise same is. both-told n front a back rise same v u p is w q;
    first = first-then v u w p.first q.first;
    lives = λ lives front a back rise same is new old.
        q.lives lives (all_told front ++ use_told n.id (use_of_read n.act.read)) a.writing (all_told back) (then-written n front a back rise same v u p is)
        (pass-through n.id (all_told front) (all_told back) (low n front a back rise same) (high n front a back rise same) a.writing (use_of_read n.act.read))
        (λ e m. exit-high n.id e (high n front a back rise same e m))
        (λ i early from m. other n.id i (high n front a back rise same (writes i early from) m))
        new (subst (AllLive lives) (sym p.lives) old);
    untold = λ told h. subst (λ xs. StaysOrShrinks xs (begun_left told w)) (ap (untold told) p.extents) (q.untold told (λ e. h (written n.act.write e)));
  }
    where
      written : (o : Option LaneWrite) → is_some (def_of_write n.act.lane o) ≡ true → is_some o ≡ true
      written None e = absurd (cc)
      written (Some x) e = refl
