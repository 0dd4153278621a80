-- Lists that come into a table of notes, and notes that come into its lists.
use Rattle.std.proofs.Common.{◌≡◌, ◌<◌, ◌≤◌, ℕ, Bool, true, false, length, List, [], ◌∷◌, ◌++◌, None, Some, ◌⊎◌, inl, inr, ⊎_elim, set, refl, sym, ap, ◌∙◌, subst, arith}
use Rattle.std.specs.Prelude.{slice_get}
use Rattle.std.specs.Ordering.{nat_cmp, is_eq}
use Rattle.std.specs.BTreeMap.{BTreeMap, get, is_at}
use Rattle.std.proofs.lemmas.Map.Lookups.{exact_unsigned}
use Rattle.std.proofs.lemmas.Map.Views.{tells_apart}
use Rattle.mir_meaning.specs.Paths.{Among}
use Rattle.live_lanes.specs.Ordered.{times}
use Rattle.live_lanes.proofs.Basics.{none-among}
use Rattle.live_edits.specs.declared.cells.Note.{Note}
use Rattle.live_edits.specs.declared.cells.CellNotes.{CellNotes}
use Rattle.live_edits.specs.declared.notes.NoteTable.{NoteTable}
use Rattle.live_edits.specs.Remade.{noted_ids}
use Rattle.live_edits.specs.NotedTable.{cell_key, with_note, IsListAt, IsNoted, HasNote, AreFilled, AreOld, AddsNotes, IsNoteTable}
use Rattle.live_edits.proofs.NotedLists.{push-kept, push-last, push-cases, set-here, set-other, set-cases, same-or-not, some-same, note-kept, note-back, note-there, note-single, one-of-id}

none-twice : 0 ≤ 1
none-twice = omega arith

-- keys

same-keys : (a b c d : ℕ) → cell_key a b ≡ cell_key c d → b < 4294967296 → d < 4294967296 → (a ≡ c) × (b ≡ d)
same-keys a b c d e h k = (omega (arith, e), omega (arith, e))

pub found-there : (x : NoteTable) (lane block place : ℕ) → IsNoteTable x → block < 4294967296 → get nat_cmp x.places (cell_key lane block) ≡ Some place → IsListAt x.all.items place lane block
found-there x lane block place table small e =
    let z = table.backs (cell_key lane block) place e in
    let same = same-keys z.0.lane z.0.block lane block z.2 z.3 small in
    (z.0, z.1, same.0, same.1)

pub no-notes : (x : NoteTable) → x.all.items ≡ [] → ((key : ℕ) → get nat_cmp x.places key ≡ None) → IsNoteTable x
no-notes x none empty = record {
  leads = λ k c h. absurd (let z : None ≡ Some c = sym (ap (λ (xs : List CellNotes). slice_get xs k) none) ∙ h in cc);
  backs = λ key k h. absurd (let z : None ≡ Some k = sym (empty key) ∙ h in cc);
  single = λ k c h. absurd (let z : None ≡ Some c = sym (ap (λ (xs : List CellNotes). slice_get xs k) none) ∙ h in cc);
}

-- a list without notes comes behind

module _ (old new : NoteTable) (c : CellNotes) (lists : new.all.items ≡ old.all.items ++ c ∷ []) (none : c.notes.items ≡ []) where
  pub list-added : AddsNotes old.all.items new.all.items (λ l b n. ⊥)
  list-added = record {
    kept = λ l b n h. (h.0, h.1, ap (λ (xs : List CellNotes). slice_get xs h.0) lists ∙ push-kept old.all.items c h.0 h.1 h.2, h.3, h.4, h.5);
    back = λ l b n h. ⊎_elim (λ g. inl (h.0, h.1, g, h.3, h.4, h.5)) (λ g. absurd (none-among n (subst (λ (ns : List Note). Among n ns) (ap (λ (d : CellNotes). d.notes.items) (sym g.1) ∙ none) h.5)))
        (push-cases old.all.items c h.0 h.1 (ap (λ (xs : List CellNotes). slice_get xs h.0) (sym lists) ∙ h.2));
  }

  pub list-there : slice_get new.all.items (length old.all.items) ≡ Some c
  list-there = ap (λ (xs : List CellNotes). slice_get xs (length old.all.items)) lists ∙ push-last old.all.items c

  pub list-others : (k : ℕ) → k ≡ length old.all.items → AreOld old.all.items new.all.items k
  list-others k e j d h = ⊎_elim (λ g. inl g) (λ g. inr (g.0 ∙ sym e)) (push-cases old.all.items c j d (ap (λ (xs : List CellNotes). slice_get xs j) (sym lists) ∙ h))

  module _ (key : ℕ) (own : key ≡ cell_key c.lane c.block) (small : c.block < 4294967296) (absent : get nat_cmp old.places key ≡ None) (there : get nat_cmp new.places key ≡ Some (length old.all.items))
      (others : (q : ℕ) → is_at (nat_cmp key) q ≡ false → get nat_cmp new.places q ≡ get nat_cmp old.places q) where
    at-or-not : (q : ℕ) → (key ≡ q) ⊎ (get nat_cmp new.places q ≡ get nat_cmp old.places q)
    at-or-not q = go (is_eq (nat_cmp key q)) refl
      where
        go : (b : Bool) → is_eq (nat_cmp key q) ≡ b → (key ≡ q) ⊎ (get nat_cmp new.places q ≡ get nat_cmp old.places q)
        go true e = inl (tells_apart exact_unsigned key q e)
        go false e = inr (others q e)

    cases : (k : ℕ) (d : CellNotes) → slice_get new.all.items k ≡ Some d → (slice_get old.all.items k ≡ Some d) ⊎ ((k ≡ length old.all.items) × (c ≡ d))
    cases k d h = push-cases old.all.items c k d (ap (λ (xs : List CellNotes). slice_get xs k) (sym lists) ∙ h)

    leads-old : IsNoteTable old → (k : ℕ) (d : CellNotes) → slice_get old.all.items k ≡ Some d → get nat_cmp new.places (cell_key d.lane d.block) ≡ Some k
    leads-old table k d h =
        let was : get nat_cmp old.places (cell_key d.lane d.block) ≡ Some k = table.leads k d h in
        ⊎_elim (λ e. absurd (let z : None ≡ Some k = sym absent ∙ ap (λ q. get nat_cmp old.places q) e ∙ was in cc)) (λ e. e ∙ was) (at-or-not (cell_key d.lane d.block))

    leads-new : (k : ℕ) (d : CellNotes) → k ≡ length old.all.items → c ≡ d → get nat_cmp new.places (cell_key d.lane d.block) ≡ Some k
    leads-new k d e f = subst (λ (x : CellNotes). get nat_cmp new.places (cell_key x.lane x.block) ≡ Some k) f (subst (λ q. get nat_cmp new.places q ≡ Some k) own (there ∙ ap (λ n. Some n) (sym e)))

    Backs : ℕ → ℕ → Type 0
    Backs q k = (d : CellNotes) × (slice_get new.all.items k ≡ Some d) × (cell_key d.lane d.block ≡ q) × (d.block < 4294967296)

    backs-new : (q k : ℕ) → key ≡ q → get nat_cmp new.places q ≡ Some k → Backs q k
    unfolding Backs
    backs-new q k e h =
        let same : length old.all.items ≡ k = some-same (sym there ∙ ap (λ x. get nat_cmp new.places x) e ∙ h) in
        (c, subst (λ n. slice_get new.all.items n ≡ Some c) same list-there, sym own ∙ e, small)

    backs-old : (q k : ℕ) → IsNoteTable old → get nat_cmp old.places q ≡ Some k → Backs q k
    unfolding Backs
    backs-old q k table h =
        let z = table.backs q k h in
        (z.0, ap (λ (xs : List CellNotes). slice_get xs k) lists ∙ push-kept old.all.items c k z.0 z.1, z.2, z.3)

    pub list-table : IsNoteTable old → IsNoteTable new
    unfolding Backs
    list-table table = record {
      leads = λ k d h. ⊎_elim (λ g. leads-old table k d g) (λ g. leads-new k d g.0 g.1) (cases k d h);
      backs = λ q k h. ⊎_elim (λ e. backs-new q k e h) (λ e. backs-old q k table (sym e ∙ h)) (at-or-not q);
      single = λ k d h id. ⊎_elim (λ g. table.single k d g id) (λ g. subst (λ (ns : List Note). times id (noted_ids ns) ≤ 1) (sym none ∙ ap (λ (x : CellNotes). x.notes.items) g.1) none-twice) (cases k d h);
    }

-- a note comes into a list

module _ (mid new : NoteTable) (note : Note) (place : ℕ) (c d : CellNotes) (stands : slice_get mid.all.items place ≡ Some c) (lane : d.lane ≡ c.lane) (block : d.block ≡ c.block)
    (notes : d.notes.items ≡ with_note note c.notes.items) (lists : new.all.items ≡ set mid.all.items place d) where
  cases-set : (k : ℕ) (e : CellNotes) → slice_get new.all.items k ≡ Some e → ((k ≡ place) × (d ≡ e)) ⊎ (slice_get mid.all.items k ≡ Some e)
  cases-set k e h = set-cases mid.all.items place k d e (ap (λ (xs : List CellNotes). slice_get xs k) (sym lists) ∙ h)

  here-set : slice_get new.all.items place ≡ Some d
  here-set = ap (λ (xs : List CellNotes). slice_get xs place) lists ∙ set-here mid.all.items place c d stands

  other-set : (k : ℕ) → (k ≡ place → ⊥) → slice_get new.all.items k ≡ slice_get mid.all.items k
  other-set k n = ap (λ (xs : List CellNotes). slice_get xs k) lists ∙ set-other mid.all.items place k d n

  -- a list at that place is c
  is-own : (k : ℕ) (e : CellNotes) → k ≡ place → slice_get mid.all.items k ≡ Some e → c ≡ e
  is-own k e f h = some-same (sym stands ∙ ap (λ n. slice_get mid.all.items n) (sym f) ∙ h)

  pub note-added : AddsNotes mid.all.items new.all.items (λ l b n. (l ≡ c.lane) × (b ≡ c.block) × (n ≡ note))
  note-added = record {
    kept = λ l b n h. ⊎_elim
        (λ f. let own = is-own h.0 h.1 f h.2 in (
          place,
          d,
          here-set,
          lane ∙ (ap (λ (x : CellNotes). x.lane) own ∙ h.3),
          block ∙ (ap (λ (x : CellNotes). x.block) own ∙ h.4),
          subst (λ (ns : List Note). Among n ns) (sym notes) (note-kept note n c.notes.items (subst (λ (x : CellNotes). Among n x.notes.items) (sym own) h.5)),
        ))
        (λ f. (h.0, h.1, other-set h.0 f ∙ h.2, h.3, h.4, h.5))
        (same-or-not h.0 place);
    back = λ l b n h. ⊎_elim
        (λ f. let a : Among n d.notes.items = subst (λ (x : CellNotes). Among n x.notes.items) (sym f.1) h.5 in
        let at : c.lane ≡ l = sym lane ∙ (ap (λ (x : CellNotes). x.lane) f.1 ∙ h.3) in
        let in-block : c.block ≡ b = sym block ∙ (ap (λ (x : CellNotes). x.block) f.1 ∙ h.4) in
        ⊎_elim (λ g. inl (place, c, stands, at, in-block, g)) (λ g. inr (sym at, sym in-block, g)) (note-back note n c.notes.items (subst (λ (ns : List Note). Among n ns) notes a)))
        (λ f. inl (h.0, h.1, f, h.3, h.4, h.5))
        (cases-set h.0 h.1 h.2);
  }

  pub note-noted : HasNote new.all.items c.lane c.block note.id
  note-noted =
      let z = note-there note c.notes.items in
      (z.0, (place, d, here-set, lane, block, subst (λ (ns : List Note). Among z.0 ns) (sym notes) z.1), z.2)

  own-filled : (j : ℕ) (e : CellNotes) → j ≡ place → slice_get new.all.items j ≡ Some e → (n : Note) × Among n e.notes.items
  own-filled j e f h =
      let z = note-there note c.notes.items in
      let same : d ≡ e = some-same (sym here-set ∙ (ap (λ n. slice_get new.all.items n) (sym f) ∙ h)) in
      (z.0, subst (λ (x : CellNotes). Among z.0 x.notes.items) same (subst (λ (ns : List Note). Among z.0 ns) (sym notes) z.1))

  pub note-filled : (old : List CellNotes) → AreOld old mid.all.items place → AreFilled old → AreFilled new.all.items
  note-filled old others filled j e h =
      ⊎_elim (λ f. own-filled j e f.0 h) (λ g. ⊎_elim (λ k. filled j e k) (λ f. own-filled j e f h) (others j e g)) (cases-set j e h)

  module _ (places : new.places ≡ mid.places) (table : IsNoteTable mid) where
    leads-set : (k : ℕ) (e : CellNotes) → ((k ≡ place) × (d ≡ e)) ⊎ (slice_get mid.all.items k ≡ Some e) → get nat_cmp mid.places (cell_key e.lane e.block) ≡ Some k
    leads-set k e (inl f) =
        let same : cell_key c.lane c.block ≡ cell_key e.lane e.block = λ i. cell_key ((sym lane ∙ ap (λ (x : CellNotes). x.lane) f.1) i) ((sym block ∙ ap (λ (x : CellNotes). x.block) f.1) i) in
        ap (λ q. get nat_cmp mid.places q) (sym same) ∙ (table.leads place c stands ∙ ap (λ n. Some n) (sym f.0))
    leads-set k e (inr h) = table.leads k e h

    backs-set : (q k : ℕ) → get nat_cmp mid.places q ≡ Some k → (e : CellNotes) × (slice_get new.all.items k ≡ Some e) × (cell_key e.lane e.block ≡ q) × (e.block < 4294967296)
    backs-set q k h =
        let z = table.backs q k h in
        ⊎_elim
        (λ f. let own = is-own k z.0 f z.1 in
        let same : cell_key d.lane d.block ≡ cell_key z.0.lane z.0.block = λ i. cell_key ((lane ∙ ap (λ (x : CellNotes). x.lane) own) i) ((block ∙ ap (λ (x : CellNotes). x.block) own) i) in
        (d, subst (λ n. slice_get new.all.items n ≡ Some d) (sym f) here-set, same ∙ z.2, subst (λ n. n < 4294967296) (sym (block ∙ ap (λ (x : CellNotes). x.block) own)) z.3))
        (λ f. (z.0, other-set k f ∙ z.1, z.2, z.3))
        (same-or-not k place)

    single-set : (k : ℕ) (e : CellNotes) → ((k ≡ place) × (d ≡ e)) ⊎ (slice_get mid.all.items k ≡ Some e) → (id : ℕ) → times id (noted_ids e.notes.items) ≤ 1
    single-set k e (inl f) id = subst (λ (x : CellNotes). times id (noted_ids x.notes.items) ≤ 1) f.1 (subst (λ (ns : List Note). times id (noted_ids ns) ≤ 1) (sym notes) (note-single note c.notes.items (table.single place c stands) id))
    single-set k e (inr h) id = table.single k e h id

    pub note-table : IsNoteTable new
    note-table = record {
      leads = λ k e h. ap (λ (m : BTreeMap ℕ ℕ). get nat_cmp m (cell_key e.lane e.block)) places ∙ leads-set k e (cases-set k e h);
      backs = λ q k h. backs-set q k (ap (λ (m : BTreeMap ℕ ℕ). get nat_cmp m q) (sym places) ∙ h);
      single = λ k e h id. single-set k e (cases-set k e h) id;
    }

-- what is added in two steps

module _ (old mid new : List CellNotes) (A B C : ℕ → ℕ → Note → Type 0) (left : (l b : ℕ) (n : Note) → A l b n → C l b n) (right : (l b : ℕ) (n : Note) → B l b n → C l b n) where
  pub adds-both : AddsNotes old mid A → AddsNotes mid new B → AddsNotes old new C
  adds-both x y = record {
    kept = λ l b n h. y.kept l b n (x.kept l b n h);
    back = λ l b n h. ⊎_elim (λ g. ⊎_elim (λ k. inl k) (λ k. inr (left l b n k)) (x.back l b n g)) (λ g. inr (right l b n g)) (y.back l b n h);
  }

pub note-stays : (old new : List CellNotes) (A : ℕ → ℕ → Note → Type 0) → AddsNotes old new A → (l b id : ℕ) → HasNote old l b id → HasNote new l b id
note-stays old new A x l b id h = (h.0, x.kept l b h.0 h.1, h.2)

-- a table has one note of an instruction at a lane
pub one-note : (x : NoteTable) → IsNoteTable x → (l b : ℕ) (n m : Note) → IsNoted x.all.items l b n → IsNoted x.all.items l b m → n.id ≡ m.id → n ≡ m
one-note x table l b n m y z same =
    let key : cell_key y.1.lane y.1.block ≡ cell_key z.1.lane z.1.block = λ i. cell_key ((y.3 ∙ sym z.3) i) ((y.4 ∙ sym z.4) i) in
    let place : y.0 ≡ z.0 = some-same (sym (table.leads y.0 y.1 y.2) ∙ (ap (λ q. get nat_cmp x.places q) key ∙ table.leads z.0 z.1 z.2)) in
    let own : z.1 ≡ y.1 = some-same (sym z.2 ∙ (ap (λ k. slice_get x.all.items k) (sym place) ∙ y.2)) in
    one-of-id m.id y.1.notes.items (table.single y.0 y.1 y.2 m.id) n m y.5 (subst (λ (c : CellNotes). Among m c.notes.items) own z.5) same refl
