-- Notes of all touched instructions, the last one first.
use Rattle.std.proofs.Common.{◌≡◌, ◌<◌, ◌+◌, ◌&&◌, ℕ, Bool, true, false, length, List, [], ◌∷◌, None, Some, ◌⊎◌, inl, inr, ⊎_elim, get_or, take, refl, sym, ap, ◌∙◌, subst, eqb-true}
use Rattle.std.specs.Prelude.{nat_eq, slice_get}
use Rattle.std.specs.Ordering.{nat_cmp}
use Rattle.std.specs.BTreeMap.{get}
use Rattle.target_base.specs.declared.types.Target.{Target}
use Rattle.mir_func.specs.declared.func.Instr.{Instr}
use Rattle.mir_func.specs.Value.{Function}
use Rattle.mir_func.specs.At.{instr_at}
use Rattle.mir_meaning.specs.Paths.{Among, here, there, Step, has}
use Rattle.instr_effects.specs.declared.lane_acts.LaneAct.{LaneAct}
use Rattle.instr_effects.specs.Steps.{Numbering}
use Rattle.live_lanes.specs.Doing.{doing_of}
use Rattle.live_lanes.proofs.Basics.{none-among}
use Rattle.live_lanes.proofs.Cells.{both-left, both-right}
use Rattle.live_lanes.proofs.Coded.{has-among}
use Rattle.live_lanes.proofs.Numbered.{among-cases}
use Rattle.edit_laws.specs.Deferred.{idle}
use Rattle.edit_laws.specs.LaneSteps.{lane_step}
use Rattle.live_edits.specs.declared.cells.Note.{Note}
use Rattle.live_edits.specs.declared.cells.CellNotes.{CellNotes}
use Rattle.live_edits.specs.declared.notes.NoteTable.{NoteTable}
use Rattle.live_edits.specs.declared.notes.TouchedInstr.{TouchedInstr}
use Rattle.live_edits.specs.Remade.{noted_step}
use Rattle.live_edits.specs.Noted.{HasNotes, TellLatest, TellsAct, step_act, touched_lanes, touches, touched_at}
use Rattle.live_edits.specs.NotedTable.{cell_key, IsNoted, HasNote, AreFilled, AddsNotes, IsNoteTable, IsNoteOf}
use Rattle.live_edits.proofs.ActChanges.{lane-act, act-lane}
use Rattle.live_edits.proofs.AskMembers.{any-among}
use Rattle.live_edits.proofs.NotedActs.{note-step, idle-id}
use Rattle.live_edits.proofs.NotedLists.{among-get, get-among, some-same, note-has, taken-more, taken-own, taken-cases}
use Rattle.live_edits.proofs.NotedTable.{adds-both, note-stays, one-note}

-- the acts of one touched instruction

pub record ActsNoted (x : TouchedInstr) (old new : List CellNotes) (done : List LaneAct) : Type 0 where
  pub added : AddsNotes old new (IsNoteOf x done)
  pub noted : (a : LaneAct) → Among a done → HasNote new a.lane x.block x.id
  pub filled : AreFilled old → AreFilled new

pub no-acts : (x : TouchedInstr) (all : List CellNotes) → ActsNoted x all all []
no-acts x all = record { added = record { kept = λ l b n h. h; back = λ l b n h. inl h }; noted = λ a m. absurd (none-among a m); filled = λ f. f }

pub more-acts : (x : TouchedInstr) (old mid new : List CellNotes) (acts : List LaneAct) (k : ℕ) (a : LaneAct) (note : Note) → k < length acts → a ≡ get_or acts k a → note ≡ record { id = x.id; act = a }
    → AddsNotes mid new (λ l b n. (l ≡ a.lane) × (b ≡ x.block) × (n ≡ note)) → HasNote new a.lane x.block note.id → (AreFilled mid → AreFilled new) → ActsNoted x old mid (take k acts) → ActsNoted x old new (take (k + 1) acts)
more-acts x old mid new acts k a note h own is adds has-own fills before = record {
  added = adds-both old mid new (IsNoteOf x (take k acts)) (λ l b n. (l ≡ a.lane) × (b ≡ x.block) × (n ≡ note)) (IsNoteOf x (take (k + 1) acts))
      (λ l b n z. (z.0, taken-more acts k a h own z.0 z.1, z.2, z.3, z.4))
      (λ l b n z. (a, taken-own acts k a h own, z.0, z.1, z.2 ∙ is))
      before.added adds;
  noted = λ c m. ⊎_elim (λ b. note-stays mid new (λ l d n. (l ≡ a.lane) × (d ≡ x.block) × (n ≡ note)) adds c.lane x.block x.id (before.noted c b))
      (λ e. subst (λ (y : LaneAct). HasNote new y.lane x.block x.id) (sym e) (subst (λ id. HasNote new a.lane x.block id) (ap (λ (n : Note). n.id) is) has-own)) (taken-cases acts k a h own c m);
  filled = λ f. fills (before.filled f);
}

-- all touched instructions

-- the note is of the last edit that touched the instruction there
abbrev pub IsLatest : List TouchedInstr → ℕ → ℕ → Note → Type 0
IsLatest [] l b n = ⊥
IsLatest (x ∷ xs) l b n = ((touched_at xs l b x.id ≡ false) × IsNoteOf x x.acts.items l b n) ⊎ IsLatest xs l b n

pub record AllNoted (done : List TouchedInstr) (all : List CellNotes) : Type 0 where
  pub told : (l b : ℕ) (n : Note) → IsNoted all l b n → IsLatest done l b n
  pub whole : (x : TouchedInstr) → Among x done → (l : ℕ) → Among l (touched_lanes x) → HasNote all l x.block x.id
  pub filled : AreFilled all

pub none-touched : (all : List CellNotes) → all ≡ [] → AllNoted [] all
none-touched all none = record {
  told = λ l b n h. absurd (let z : None ≡ Some h.1 = sym (ap (λ (xs : List CellNotes). slice_get xs h.0) none) ∙ h.2 in cc);
  whole = λ x a. absurd (none-among x a);
  filled = λ k c h. absurd (let z : None ≡ Some c = sym (ap (λ (xs : List CellNotes). slice_get xs k) none) ∙ h in cc);
}

module _ (xs : List TouchedInstr) (x : TouchedInstr) (old : List CellNotes) (new : NoteTable) (table : IsNoteTable new) (one : ActsNoted x old new.all.items x.acts.items) (before : AllNoted xs old) where
  -- a lane at which it was touched later has a note already
  later-noted : (l b id : ℕ) → touched_at xs l b id ≡ true → HasNote old l b id
  later-noted l b id e =
      let z = any-among (λ (y : TouchedInstr). touches y l b id) xs e in
      let y = z.0 in
      let own : y.id ≡ id = eqb-true y.id id (both-left (nat_eq y.id id) (nat_eq y.block b && has l (touched_lanes y)) z.2) in
      let rest = both-right (nat_eq y.id id) (nat_eq y.block b && has l (touched_lanes y)) z.2 in
      let in-block : y.block ≡ b = eqb-true y.block b (both-left (nat_eq y.block b) (has l (touched_lanes y)) rest) in
      let lane = both-right (nat_eq y.block b) (has l (touched_lanes y)) rest in
      subst (λ c. HasNote old l c id) in-block (subst (λ k. HasNote old l y.block k) own (before.whole y z.1 l (has-among l (touched_lanes y) lane)))

  new-told : (l b : ℕ) (n : Note) → IsNoted new.all.items l b n → IsNoteOf x x.acts.items l b n → IsLatest (x ∷ xs) l b n
  new-told l b n there-now z = go (touched_at xs l b x.id) refl
    where
      go : (u : Bool) → touched_at xs l b x.id ≡ u → IsLatest (x ∷ xs) l b n
      go false e = inl (e, z)
      go true e =
          let w = later-noted l b x.id e in
          let same : n ≡ w.0 = one-note new table l b n w.0 there-now (one.added.kept l b w.0 w.1) (ap (λ (y : Note). y.id) z.4 ∙ sym w.2) in
          inr (before.told l b n (subst (λ (y : Note). IsNoted old l b y) (sym same) w.1))

  pub more-touched : AllNoted (x ∷ xs) new.all.items
  more-touched = record {
    told = λ l b n z. ⊎_elim (λ y. inr (before.told l b n y)) (λ y. new-told l b n z y) (one.added.back l b n z);
    whole = λ y a l m. ⊎_elim (λ e. subst (λ (z : TouchedInstr). HasNote new.all.items l z.block z.id) (sym e) (own l (subst (λ (z : TouchedInstr). Among l (touched_lanes z)) e m)))
        (λ c. note-stays old new.all.items (IsNoteOf x x.acts.items) one.added l y.block y.id (before.whole y c l m)) (among-cases y x xs a);
    filled = one.filled before.filled;
  }
    where
      own : (l : ℕ) → Among l (touched_lanes x) → HasNote new.all.items l x.block x.id
      own l m = let z = lane-act x.acts.items l m in subst (λ k. HasNote new.all.items k x.block x.id) z.2 (one.noted z.0 z.1)

-- what the notes tell in a function

latest-of : (xs : List TouchedInstr) (l b : ℕ) (n : Note) → IsLatest xs l b n → (x : TouchedInstr) × Among x xs × (x.id ≡ n.id) × (x.block ≡ b) × Among l (touched_lanes x)
latest-of [] l b n h = absurd h
latest-of (x ∷ xs) l b n (inl z) =
    let w : IsNoteOf x x.acts.items l b n = z.1 in
    (x, here, sym (ap (λ (y : Note). y.id) w.4), sym w.3, subst (λ k. Among k (touched_lanes x)) (sym w.2) (act-lane x.acts.items w.0 w.1))
latest-of (x ∷ xs) l b n (inr h) = let z = latest-of xs l b n h in (z.0, there z.1, z.2, z.3, z.4)

module _ (t : Target) (f : Function) (num : Numbering) (gone : List ℕ) where
  abbrev Acting : Instr → Step
  Acting i = ((idle gone (doing_of t f num)) i).0

  latest-tells : (xs : List TouchedInstr) (l b : ℕ) (n : Note) → TellLatest t f num gone xs → IsLatest xs l b n
      → (place : ℕ) × (i : Instr) × (instr_at f.blocks b place ≡ Some i) × (i.id ≡ n.id) × (n.act ≡ step_act (Acting i) l)
  latest-tells [] l b n tell h = absurd h
  latest-tells (x ∷ xs) l b n tell (inr h) = latest-tells xs l b n tell.1 h
  latest-tells (x ∷ xs) l b n tell (inl z) =
      let w : IsNoteOf x x.acts.items l b n = z.1 in
      let last : touched_at xs w.0.lane x.block x.id ≡ false = (λ u. touched_at xs (sym w.2 u) (sym w.3 u) x.id) ∙ z.0 in
      let a : TellsAct t f num gone x w.0 = tell.0 w.0 w.1 last in (
        a.0,
        a.1,
        ap (λ c. instr_at f.blocks c a.0) w.3 ∙ a.2,
        a.3 ∙ sym (ap (λ (y : Note). y.id) w.4),
        ap (λ (y : Note). y.act) w.4 ∙ (a.4 ∙ ap (step_act (Acting a.1)) (sym w.2)),
      )

  module _ (touched : List TouchedInstr) (table : NoteTable) (is : IsNoteTable table) (all : AllNoted touched table.all.items) where
    in-list : (c : CellNotes) → Among c table.all.items → (n : Note) → Among n c.notes.items → IsNoted table.all.items c.lane c.block n
    in-list c a n m = let z = among-get c table.all.items a in (z.0, c, z.1, refl, refl, m)

    each-note : TellLatest t f num gone touched → (c : CellNotes) → Among c table.all.items → (n : Note) → Among n c.notes.items → (place : ℕ) × (i : Instr) × (instr_at f.blocks c.block place ≡ Some i) × (lane_step c.lane (Acting i) ≡ noted_step n)
    each-note tell c a n m =
        let z = latest-tells touched c.lane c.block n tell (all.told c.lane c.block n (in-list c a n m)) in
        let same : (Acting z.1).id ≡ n.id = idle-id gone (doing_of t f num) z.1 refl ∙ z.3 in
        (z.0, z.1, z.2, note-step c.lane (Acting z.1) ∙ (λ k. noted_step (record { id = same k; act = (sym z.4) k })))

    pub has-notes : TellLatest t f num gone touched → HasNotes t f num gone touched table.all.items
    has-notes tell = record {
      each = each-note tell;
      filled = λ c a. let z = among-get c table.all.items a in all.filled z.0 c z.1;
      single = λ c a id. let z = among-get c table.all.items a in is.single z.0 c z.1 id;
      apart = λ i j c d e h l b. let same : cell_key c.lane c.block ≡ cell_key d.lane d.block = λ k. cell_key (l k) (b k) in some-same (sym (is.leads i c e) ∙ (ap (λ q. get nat_cmp table.places q) same ∙ is.leads j d h));
      whole = λ x a l m.
          let z = all.whole x a l m in
          let y = z.1 in
          (y.1, get-among y.1 table.all.items y.0 y.2, y.3, y.4, note-has z.0 x.id y.1.notes.items y.5 z.2);
      none = λ c a n m. latest-of touched c.lane c.block n (all.told c.lane c.block n (in-list c a n m));
    }
