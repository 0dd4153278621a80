-- What a cell tells where one of its instructions reads or writes the lane otherwise.
use Rattle.std.proofs.Common.{◌≡◌, ◌<◌, ◌≤◌, ◌∙◌, ◌⊎◌, inl, inr, ℕ, zero, suc, Bool, true, false, cond, length, List, [], ◌∷◌, ◌++◌, Option, None, Some, map, take, drop, refl, sym, ap, subst, arith, append_assoc, append-nil, eq-eqb}
use Rattle.std.specs.Prelude.{nat_eq}
use Rattle.std.proofs.lemmas.List.{map-append}
use Rattle.std.proofs.lemmas.Bool.{le-ltb, cases_lt}
use Rattle.slot_index.specs.Order.{number_of}
use Rattle.mir_meaning.specs.declared.writing.LaneDef.{LaneDef}
use Rattle.mir_meaning.specs.Paths.{Among, here, there, Use, Unused, Certain, Into}
use Rattle.instr_effects.specs.declared.lane_acts.LaneRead.{LaneRead}
use Rattle.instr_effects.specs.declared.lane_acts.LaneWrite.{LaneWrite}
use Rattle.live_lanes.specs.declared.row.LaneUse.{LaneUse}
use Rattle.live_lanes.specs.Table.{Numbers, Seen, Begun}
use Rattle.live_lanes.specs.Entered.{reading, reading_of}
use Rattle.live_lanes.proofs.Numbered.{among-right}
use Rattle.edit_laws.specs.LaneSteps as laws
use Rattle.live_edits.specs.CellChanges.{with_readings}
use Rattle.live_edits.specs.RemadeSteps.{use_of_read, def_of_write}
use Rattle.live_edits.specs.Renoted.{Event, reads, writes, seen_told, use_told, def_told, under, not_over, before_entry, before_exit, AllPass, NonePass, CutsReadings, CutsPieces, piece_readings, first_read, without_first, is_begun_by, rewritten, piece_joined, Begins, NoReading, NoWriting, NotesUse, NotesDef}
use Rattle.live_edits.proofs.RenoteTold.{writing, told_before, told_rest, told_after, with-told, begun-told, joined-told, begun-within, after-begun, rewritten-told}
use Rattle.live_edits.proofs.RenoteCut.{first_or, rest_of, find-cut}

take-front : {X : Type 0} (xs ys : List X) → take (length xs) (xs ++ ys) ≡ xs
take-front [] ys = refl
take-front (x ∷ xs) ys = ap (λ t. x ∷ t) (take-front xs ys)

drop-front : {X : Type 0} (xs ys : List X) → drop (length xs) (xs ++ ys) ≡ ys
drop-front [] ys = refl
drop-front (x ∷ xs) ys = drop-front xs ys

own-under : (slots : Numbers) (id : ℕ) → under slots id id ≡ false
own-under slots id = le-ltb (number_of slots id) (number_of slots id) (omega arith)

-- no readings stand first
abbrev StartsBy : List Event → Type 0
StartsBy es = (es ≡ []) ⊎ ((i : ℕ) × (early : Bool) × (from : Option ℕ) × (rest : List Event) × (es ≡ writes i early from ∷ rest))

rest-starts : (ss : List Begun) → StartsBy (told_rest ss)
rest-starts [] = inl refl
rest-starts (s ∷ ss) = inr (s.start, s.early, s.from, _, refl)

after-starts : (ss : List Begun) (k : ℕ) → StartsBy (told_after ss k)
after-starts ss zero = rest-starts ss
after-starts [] (suc k) = inl refl
after-starts (s ∷ ss) (suc k) = after-starts ss k

abbrev is_reading : Event → Bool
is_reading (reads r) = true
is_reading (writes i early from) = false

abbrev read_or : LaneUse → Event → LaneUse
read_or d (reads r) = r
read_or d (writes i early from) = d

-- the readings of a piece from the instruction on, and what it reads
abbrev Behind : ℕ → Use → List LaneUse → List Event → List Event → Type 0
Behind id u behind after back = (map reads (without_first id behind) ++ after ≡ back) × (use_of_read (first_read id behind) ≡ u)

module _ (id : ℕ) (after : List Event) (starts : StartsBy after) where
  no-first : (r : LaneUse) (back : List Event) → reads r ∷ back ≡ after → ⊥
  no-first r back e = go starts
    where
      go : StartsBy after → ⊥
      go (inl f) = let k : reads r ∷ back ≡ [] = e ∙ f in absurd (cc)
      go (inr z) = let k : true ≡ false = ap (λ t. is_reading (first_or (reads r) t)) (e ∙ z.4) in cc

  one-read : (o : Option ℕ) (behind : List LaneUse) (back : List Event) → reads (reading id o) ∷ back ≡ map reads behind ++ after → Behind id (laws.use_told o) behind after back
  one-read o [] back e = absurd (no-first (reading id o) back e)
  one-read o (b ∷ bs) back e =
      let own : reading id o ≡ b = ap (λ t. read_or b (first_or (reads b) t)) e in
      let same : nat_eq b.id id ≡ true = ap (λ (r : LaneUse). nat_eq r.id id) (sym own) ∙ eq-eqb id id refl in (
        ap (λ t. map reads (cond t bs (b ∷ bs)) ++ after) same ∙ sym (ap rest_of e),
        ap (λ t. use_of_read (cond t (Some (record { into = b.into })) None)) same ∙ ap (λ (r : LaneUse). laws.use_told r.into) (sym own),
      )

  behind-is : (u : Use) (behind : List LaneUse) (back : List Event) → use_told id u ++ back ≡ map reads behind ++ after → NoReading id back → Behind id u behind after back
  behind-is Unused [] back e free = (sym e, refl)
  behind-is Unused (b ∷ bs) back e free =
      let other : nat_eq b.id id ≡ false = free b (subst (Among (reads b)) (sym e) here) in
      (ap (λ t. map reads (cond t bs (b ∷ bs)) ++ after) other ∙ sym e, ap (λ t. use_of_read (cond t (Some (record { into = b.into })) None)) other)
  behind-is Certain behind back e free = one-read None behind back e
  behind-is (Into a) behind back e free = one-read (Some a) behind back e

module _ (slots : Numbers) (id : ℕ) (v : Seen) (k : ℕ) (within : k ≤ length v.segments) (cut : CutsPieces slots id v.segments k) where
  abbrev mid : List LaneUse
  mid = piece_readings v.readings v.segments k

  abbrev before_piece : List Event
  before_piece = told_before v.readings v.segments k

  abbrev after_piece : List Event
  after_piece = told_after v.segments k

  -- the readings of the piece are cut where the instruction stands
  record Found (test : ℕ → Bool) (front back : List Event) : Type 0 where
    before : List LaneUse
    behind : List LaneUse
    readings : mid ≡ before ++ behind
    all_before : AllPass (λ r. test r.id) before
    none_behind : NonePass (λ r. test r.id) behind
    left : front ≡ before_piece ++ map reads before
    right : back ≡ map reads behind ++ after_piece

  found : (test : ℕ → Bool) (front back : List Event) → seen_told v ≡ front ++ back → AllPass (λ e. Rattle.live_edits.specs.Renoted.event_test test (under slots id) e) front → NonePass (λ e. Rattle.live_edits.specs.Renoted.event_test test (under slots id) e) back → Found test front back
  found test front back e all none =
      let c = find-cut test (under slots id) v.readings v.segments front back e all none in
      let at : k ≡ length c.passing = cut c.passing c.failing c.pieces c.all_pass c.none_pass in
      record {
        before = c.before;
        behind = c.behind;
        readings = ap (piece_readings v.readings v.segments) at ∙ c.readings;
        all_before = c.all_before;
        none_behind = c.none_behind;
        left = c.left ∙ ap (λ n. told_before v.readings v.segments n ++ map reads c.before) (sym at);
        right = c.right ∙ ap (λ n. map reads c.behind ++ told_after v.segments n) (sym at);
      }

  no-use : (u : Use) (back : List Event) → NonePass (before_entry slots id) back → NonePass (before_entry slots id) (use_told id u ++ back)
  no-use Unused back none = none
  no-use Certain back none = λ e m. one e m
    where
      one : (e : Event) → Among e (reads (reading id None) ∷ back) → before_entry slots id e ≡ false
      one e here = own-under slots id
      one e (there m) = none e m
  no-use (Into a) back none = λ e m. one e m
    where
      one : (e : Event) → Among e (reads (reading id (Some a)) ∷ back) → before_entry slots id e ≡ false
      one e here = own-under slots id
      one e (there m) = none e m

  -- readings

  module _ (at : ℕ) (cut_readings : CutsReadings (under slots id) mid at) (read : Option LaneRead) where
    pub read-same : first_read id (drop at mid) ≡ read → NotesUse slots id (use_of_read read) (seen_told v) (seen_told v)
    read-same same front u back e all none free =
        let f = found (under slots id) front (use_told id u ++ back) e all (no-use u back none) in
        let n : at ≡ length f.before = cut_readings f.before f.behind f.readings f.all_before f.none_behind in
        let rest : drop at mid ≡ f.behind = (λ i. drop (n i) (f.readings i)) ∙ drop-front f.before f.behind in
        let b = behind-is id after_piece (after-starts v.segments k) u f.behind back f.right free in
        let used : u ≡ use_of_read read = sym b.1 ∙ ap use_of_read (ap (first_read id) (sym rest) ∙ same) in
        e ∙ ap (λ w. front ++ (use_told id w ++ back)) used

    pub read-new : (new : List LaneUse) → new ≡ take at mid ++ (reading_of id (use_of_read read) ++ without_first id (drop at mid)) → NotesUse slots id (use_of_read read) (seen_told v) (seen_told (with_readings v k new))
    read-new new is front u back e all none free =
        let f = found (under slots id) front (use_told id u ++ back) e all (no-use u back none) in
        let n : at ≡ length f.before = cut_readings f.before f.behind f.readings f.all_before f.none_behind in
        let rest : drop at mid ≡ f.behind = (λ i. drop (n i) (f.readings i)) ∙ drop-front f.before f.behind in
        let some : take at mid ≡ f.before = (λ i. take (n i) (f.readings i)) ∙ take-front f.before f.behind in
        let b = behind-is id after_piece (after-starts v.segments k) u f.behind back f.right free in
        let now : List LaneUse = reading_of id (use_of_read read) in
        let those : map reads new ≡ map reads f.before ++ (map reads now ++ map reads (without_first id f.behind)) =
        ap (map reads) (is ∙ (λ i. some i ++ (now ++ without_first id (rest i)))) ∙ map-append reads f.before (now ++ without_first id f.behind) ∙ ap (λ t. map reads f.before ++ t) (map-append reads now (without_first id f.behind)) in
        with-told v k new within
        ∙ ap (λ t. before_piece ++ (t ++ after_piece)) those
        ∙ ap (λ t. before_piece ++ t) (append_assoc (map reads f.before) (map reads now ++ map reads (without_first id f.behind)) after_piece)
        ∙ sym (append_assoc before_piece (map reads f.before) ((map reads now ++ map reads (without_first id f.behind)) ++ after_piece))
        ∙ (λ i. sym f.left i ++ append_assoc (map reads now) (map reads (without_first id f.behind)) after_piece i)
        ∙ ap (λ t. front ++ (map reads now ++ t)) b.0

  -- writings

  no-def : (w : Option LaneDef) (back : List Event) → NonePass (before_exit slots id) back → NonePass (before_exit slots id) (def_told id w ++ back)
  no-def None back none = none
  no-def (Some w) back none = λ e m. one e m
    where
      one : (e : Event) → Among e (writes id w.early w.from ∷ back) → before_exit slots id e ≡ false
      one e here = own-under slots id
      one e (there m) = none e m

  abbrev next : List LaneUse
  next = piece_readings v.readings v.segments (suc k)

  abbrev after_next : List Event
  after_next = told_after v.segments (suc k)

  -- where the piece behind begins with the instruction, this is its writing
  abbrev BegunBy : List Event → List LaneUse → List Event → Type 0
  BegunBy front behind back = (front ≡ before_piece ++ map reads mid) × (back ≡ map reads next ++ after_next)

  begun-by : is_begun_by id v.segments k ≡ true → (front : List Event) (w : Option LaneDef) (back : List Event) → Found (not_over slots id) front (def_told id w ++ back) → NoWriting id back → BegunBy front [] back
  begun-by begun front w back f free = go w f.right f.behind f.readings refl
    where
      s : (s : Begun) × (after_piece ≡ writing s ∷ (map reads next ++ after_next)) × ((i : ℕ) → is_begun_by i v.segments k ≡ nat_eq s.start i)
      s = after-begun v.readings v.segments k (begun-within id v.segments k begun)

      go : (w : Option LaneDef) → def_told id w ++ back ≡ map reads f.behind ++ after_piece → (behind : List LaneUse) → mid ≡ f.before ++ behind → f.behind ≡ behind → BegunBy front [] back
      go None e behind q same =
          let m : Among (writing s.0) back = subst (Among (writing s.0)) (sym (e ∙ ap (λ t. map reads f.behind ++ t) s.1)) (among-right (writing s.0) (map reads f.behind) (writing s.0 ∷ (map reads next ++ after_next)) here) in
          absurd (let z : true ≡ false = sym begun ∙ (s.2 id ∙ free s.0.start s.0.early s.0.from m) in cc)
      go (Some w) e [] q same =
          let those : f.before ≡ mid = sym (q ∙ append-nil f.before) in
          let t : writes id w.early w.from ∷ back ≡ after_piece = e ∙ ap (λ z. map reads z ++ after_piece) same in
          (f.left ∙ ap (λ z. before_piece ++ map reads z) those, ap rest_of (t ∙ s.1))
      go (Some w) e (b ∷ bs) q same =
          let t : writes id w.early w.from ∷ back ≡ reads b ∷ (map reads bs ++ after_piece) = e ∙ ap (λ z. map reads z ++ after_piece) same in
          absurd (let z : false ≡ true = ap (λ (y : List Event). is_reading (first_or (reads b) y)) t in cc)

  -- where it doesn't, there is none
  after-past : (ss : List Begun) (n : ℕ) → length ss ≤ n → told_after ss n ≡ []
  after-past [] zero h = refl
  after-past [] (suc n) h = refl
  after-past (s ∷ ss) zero h = absurd (omega arith)
  after-past (s ∷ ss) (suc n) h = after-past ss n (omega arith)

  written-here : (e : Bool) (o : Option ℕ) (back : List Event) → writes id e o ∷ back ≡ after_piece → is_begun_by id v.segments k ≡ true
  written-here e o back h = go (cases_lt k (length v.segments))
    where
      go : (k < length v.segments) ⊎ (length v.segments ≤ k) → is_begun_by id v.segments k ≡ true
      go (inl w) =
          let s = after-begun v.readings v.segments k w in
          let same : s.0.start ≡ id = ap (λ (t : List Event). start_or (first_or (writes 0 e o) t)) (sym s.1 ∙ sym h) in
          s.2 id ∙ (ap (λ n. nat_eq n id) same ∙ eq-eqb id id refl)
        where
          start_or : Event → ℕ
          start_or (reads r) = 0
          start_or (writes i early from) = i
      go (inr w) = absurd (let z : writes id e o ∷ back ≡ [] = h ∙ after-past v.segments k w in cc)

  not-begun : is_begun_by id v.segments k ≡ false → (front : List Event) (w : Option LaneDef) (back : List Event) → Found (not_over slots id) front (def_told id w ++ back) → w ≡ None
  not-begun other front None back f = refl
  not-begun other front (Some w) back f = go f.behind f.right
    where
      go : (behind : List LaneUse) → writes id w.early w.from ∷ back ≡ map reads behind ++ after_piece → Some w ≡ None
      go [] e = absurd (let z : true ≡ false = sym (written-here w.early w.from back e) ∙ other in cc)
      go (b ∷ bs) e = absurd (let z : false ≡ true = ap (λ (y : List Event). is_reading (first_or (reads b) y)) e in cc)

  module _ (begun : is_begun_by id v.segments k ≡ true) where
    pub write-again : (w' : LaneDef) → NotesDef slots id (Some w') (seen_told v) (seen_told (rewritten k w'.early w'.from v))
    write-again w' front w back e all none free =
        let f = found (not_over slots id) front (def_told id w ++ back) e all (no-def w back none) in
        let b = begun-by begun front w back f free in
        rewritten-told id v.readings v.segments k w'.early w'.from begun
        ∙ sym (append_assoc before_piece (map reads mid) (writes id w'.early w'.from ∷ (map reads next ++ after_next)))
        ∙ (λ i. sym b.0 i ++ writes id w'.early w'.from ∷ sym b.1 i)

    pub write-no-more : NotesDef slots id None (seen_told v) (seen_told (piece_joined k v))
    write-no-more front w back e all none free =
        let f = found (not_over slots id) front (def_told id w ++ back) e all (no-def w back none) in
        let b = begun-by begun front w back f free in
        joined-told v k (mid ++ next) (begun-within id v.segments k begun)
        ∙ ap (λ t. before_piece ++ (t ++ after_next)) (map-append reads mid next)
        ∙ ap (λ t. before_piece ++ t) (append_assoc (map reads mid) (map reads next) after_next)
        ∙ sym (append_assoc before_piece (map reads mid) (map reads next ++ after_next))
        ∙ (λ i. sym b.0 i ++ sym b.1 i)

  module _ (other : is_begun_by id v.segments k ≡ false) where
    pub write-none : NotesDef slots id None (seen_told v) (seen_told v)
    write-none front w back e all none free =
        let f = found (not_over slots id) front (def_told id w ++ back) e all (no-def w back none) in
        e ∙ ap (λ t. front ++ (def_told id t ++ back)) (not-begun other front w back f)

    pub write-begins : (w' : LaneWrite) (new : Seen) → Begins slots k id w' v new → (l : ℕ) → NotesDef slots id (def_of_write l (Some w')) (seen_told v) (seen_told new)
    write-begins w' new b l front w back e all none free =
        let f = found (not_over slots id) front (def_told id w ++ back) e all (no-def w back none) in
        let absent = not-begun other front w back f in
        let n : b.count ≡ length f.before = b.cut f.before f.behind f.readings f.all_before f.none_behind in
        let rest : drop b.count mid ≡ f.behind = (λ i. drop (n i) (f.readings i)) ∙ drop-front f.before f.behind in
        let some : take b.count mid ≡ f.before = (λ i. take (n i) (f.readings i)) ∙ take-front f.before f.behind in
        let right : back ≡ map reads f.behind ++ after_piece = ap (λ t. def_told id t ++ back) (sym absent) ∙ f.right in
        ap seen_told b.is
        ∙ begun-told v k _ (take b.count mid) within
        ∙ (λ i. before_piece ++ (map reads (some i) ++ (writes id w'.early w'.from ∷ (map reads (rest i) ++ after_piece))))
        ∙ sym (append_assoc before_piece (map reads f.before) (writes id w'.early w'.from ∷ (map reads f.behind ++ after_piece)))
        ∙ (λ i. sym f.left i ++ writes id w'.early w'.from ∷ sym right i)

    pub begins-new : (front : List Event) (w : Option LaneDef) (back : List Event) → seen_told v ≡ front ++ (def_told id w ++ back) → AllPass (before_exit slots id) front → NonePass (before_exit slots id) back → w ≡ None
    begins-new front w back e all none = not-begun other front w back (found (not_over slots id) front (def_told id w ++ back) e all (no-def w back none))
