-- The cells of a lane name the instructions that read or write it.
use Rattle.std.proofs.Common.{◌≡◌, ◌⊎◌, inl, inr, ◌<◌, ℕ, Bool, true, false, cond, List, [], ◌∷◌, ◌++◌, Option, Some, None, map, refl, sym, ap, ◌∙◌, subst, eqb-true, eq-eqb, arith}
use Rattle.std.specs.Prelude.{◌||◌, nat_eq, slice_get}
use Rattle.std.specs.List.{list_any}
use Rattle.std.proofs.lemmas.Bool.{ltb-true}
use Rattle.target_base.proofs.Tests.{first_of_both, second_of_both}
use Rattle.meaning.specs.Live.{Among as Member, here as first, there as later}
use Rattle.mir_meaning.specs.declared.writing.LaneDef.{LaneDef}
use Rattle.instr_effects.proofs.Members.{member-none, member-elim}
use Rattle.live_laws.proofs.Effects.Lists.{any-in}
use Rattle.live_lanes.specs.declared.row.DefPiece.{DefPiece}
use Rattle.live_lanes.specs.declared.row.Cell.{Cell}
use Rattle.live_lanes.specs.declared.row.LaneRange.{LaneRange}
use Rattle.mir_meaning.specs.Paths.{Step, Code, steps_of, Use, Unused, Certain, Into, use_of, writing_of, is_written, is_present}
use Rattle.live_lanes.specs.Table.{seen, seen_in, seen_cell, unseen, begun, find_cell, descends, is_below}
use Rattle.live_lanes.specs.Entered.{Shape, start_of, shape, reading_of, readings_until, starts, rows_seen, IsEntered}
use Rattle.live_lanes.specs.Touching.{reads_in, names_segment, names_cell, names_lane}

-- the step reads or moves the lane
abbrev pub is_used : Use → Bool
is_used Unused = false
is_used _ = true

-- the step reads, moves or writes the lane
abbrev pub names_step : ℕ → Step → Bool
names_step l s = is_used (use_of l s) || is_written l s

-- booleans

pub or-cases : (a b : Bool) → (a || b) ≡ true → (a ≡ true) ⊎ (b ≡ true)
or-cases true b e = inl refl
or-cases false b e = inr e

pub or-left : (a b : Bool) → a ≡ true → (a || b) ≡ true
or-left a b e = ap (λ x. x || b) e

pub or-right : (a b : Bool) → b ≡ true → (a || b) ≡ true
or-right true b e = refl
or-right false b e = e

pub any-of : {X : Type 0} (p : X → Bool) (xs : List X) → list_any p xs ≡ true → (x : X) × Member x xs × (p x ≡ true)
any-of p [] e = absurd (cc)
any-of {X} p (x ∷ xs) e = go (or-cases (p x) (list_any p xs) e) (any-of p xs)
  where
    go : (p x ≡ true) ⊎ (list_any p xs ≡ true) → (list_any p xs ≡ true → (y : X) × Member y xs × (p y ≡ true)) → (y : X) × Member y (x ∷ xs) × (p y ≡ true)
    go (inl f) ih = (x, first, f)
    go (inr f) ih = let z = ih f in (z.0, later z.1, z.2)

any-both : {X : Type 0} (p : X → Bool) (xs ys : List X) → list_any p (xs ++ ys) ≡ (list_any p xs || list_any p ys)
any-both p [] ys = refl
any-both p (x ∷ xs) ys = ap (λ b. p x || b) (any-both p xs ys) ∙ join (p x)
  where
    join : (b : Bool) → (b || (list_any p xs || list_any p ys)) ≡ ((b || list_any p xs) || list_any p ys)
    join true = refl
    join false = refl

-- what a shape names

abbrev named_in : ℕ → Shape → Bool
named_in id v = reads_in id v.readings || list_any (λ s. nat_eq s.start id || reads_in id s.readings) v.segments

segments-same : (id : ℕ) (ss : List DefPiece) → list_any (λ s. nat_eq s.start id || reads_in id s.readings) (map start_of (map begun ss)) ≡ list_any (names_segment id) ss
segments-same id [] = refl
segments-same id (s ∷ ss) = ap (λ b. names_segment id s || b) (segments-same id ss)

cell-same : (id : ℕ) (c : Cell) → named_in id (shape (seen_cell c)) ≡ names_cell id c
cell-same id c = ap (λ b. reads_in id c.first.readings.items || b) (segments-same id c.segments.items)

-- steps

abbrev named_by : ℕ → ℕ → List Step → Bool
named_by l id ss = reads_in id (readings_until l ss) || list_any (λ s. nat_eq s.start id || reads_in id s.readings) (starts l ss)

abbrev NamedBy : ℕ → ℕ → List Step → Type 0
NamedBy l id ss = (s : Step) × Member s ss × (s.id ≡ id) × (names_step l s ≡ true)

more-named : (l id : ℕ) (s : Step) (ss : List Step) → NamedBy l id ss → NamedBy l id (s ∷ ss)
more-named l id s ss z = (z.0, later z.1, z.2, z.3)

reading-named : (id n : ℕ) (u : Use) → reads_in id (reading_of n u) ≡ true → (n ≡ id) × (is_used u ≡ true)
reading-named id n Unused e = absurd (cc)
reading-named id n Certain e = (eqb-true n id (one (nat_eq n id) e), refl)
  where
    one : (b : Bool) → (b || false) ≡ true → b ≡ true
    one true f = refl
    one false f = f
reading-named id n (Into a) e = (eqb-true n id (one (nat_eq n id) e), refl)
  where
    one : (b : Bool) → (b || false) ≡ true → b ≡ true
    one true f = refl
    one false f = f

reading-there : (n : ℕ) (u : Use) → is_used u ≡ true → reads_in n (reading_of n u) ≡ true
reading-there n Unused e = absurd (cc)
reading-there n Certain e = or-left (nat_eq n n) false (eq-eqb n n refl)
reading-there n (Into a) e = or-left (nat_eq n n) false (eq-eqb n n refl)

readings-named : (l id : ℕ) (ss : List Step) → reads_in id (readings_until l ss) ≡ true → NamedBy l id ss
readings-named l id [] e = absurd (cc)
readings-named l id (s ∷ ss) e = go (or-cases (reads_in id (reading_of s.id (use_of l s))) (reads_in id (cond (is_written l s) [] (readings_until l ss))) (sym (any-both (λ r. nat_eq r.id id) (reading_of s.id (use_of l s)) (cond (is_written l s) [] (readings_until l ss))) ∙ e)) (readings-named l id ss)
  where
    rest : (b : Bool) → (reads_in id (readings_until l ss) ≡ true → NamedBy l id ss) → reads_in id (cond b [] (readings_until l ss)) ≡ true → NamedBy l id (s ∷ ss)
    rest true ih f = absurd (cc)
    rest false ih f = more-named l id s ss (ih f)

    go : (reads_in id (reading_of s.id (use_of l s)) ≡ true) ⊎ (reads_in id (cond (is_written l s) [] (readings_until l ss)) ≡ true) → (reads_in id (readings_until l ss) ≡ true → NamedBy l id ss) → NamedBy l id (s ∷ ss)
    go (inl f) ih = let z = reading-named id s.id (use_of l s) f in (s, first, z.0, or-left (is_used (use_of l s)) (is_written l s) z.1)
    go (inr f) ih = rest (is_written l s) ih f

starts-named : (l id : ℕ) (ss : List Step) → list_any (λ s. nat_eq s.start id || reads_in id s.readings) (starts l ss) ≡ true → NamedBy l id ss
starts-named l id [] e = absurd (cc)
starts-named l id (s ∷ ss) e = go (writing_of l s.writes) (starts-named l id ss) refl e
  where
    go : (q : Option LaneDef) → (list_any (λ s. nat_eq s.start id || reads_in id s.readings) (starts l ss) ≡ true → NamedBy l id ss) → writing_of l s.writes ≡ q → list_any (λ s. nat_eq s.start id || reads_in id s.readings) (elim q [ None ↦ starts l ss | Some w ↦ record { start = s.id; early = w.early; from = w.from; readings = readings_until l ss } ∷ starts l ss ]) ≡ true → NamedBy l id (s ∷ ss)
    go None ih g f = more-named l id s ss (ih f)
    go (Some w) ih g f = by (or-cases (nat_eq s.id id || reads_in id (readings_until l ss)) (list_any (λ s. nat_eq s.start id || reads_in id s.readings) (starts l ss)) f)
      where
        head : (nat_eq s.id id ≡ true) ⊎ (reads_in id (readings_until l ss) ≡ true) → NamedBy l id (s ∷ ss)
        head (inl h) = (s, first, eqb-true s.id id h, or-right (is_used (use_of l s)) (is_written l s) (ap is_present g))
        head (inr h) = more-named l id s ss (readings-named l id ss h)

        by : ((nat_eq s.id id || reads_in id (readings_until l ss)) ≡ true) ⊎ (list_any (λ s. nat_eq s.start id || reads_in id s.readings) (starts l ss) ≡ true) → NamedBy l id (s ∷ ss)
        by (inl h) = head (or-cases (nat_eq s.id id) (reads_in id (readings_until l ss)) h)
        by (inr h) = more-named l id s ss (ih h)

named-forth : (l id : ℕ) (ss : List Step) → named_by l id ss ≡ true → NamedBy l id ss
named-forth l id ss e = go (or-cases (reads_in id (readings_until l ss)) (list_any (λ s. nat_eq s.start id || reads_in id s.readings) (starts l ss)) e)
  where
    go : (reads_in id (readings_until l ss) ≡ true) ⊎ (list_any (λ s. nat_eq s.start id || reads_in id s.readings) (starts l ss) ≡ true) → NamedBy l id ss
    go (inl f) = readings-named l id ss f
    go (inr f) = starts-named l id ss f

-- what is named by the first step
head-back : (l : ℕ) (s : Step) (ss : List Step) → names_step l s ≡ true → named_by l s.id (s ∷ ss) ≡ true
head-back l s ss e = go (or-cases (is_used (use_of l s)) (is_written l s) e)
  where
    begins : (q : Option LaneDef) → is_present q ≡ true → list_any (λ r. nat_eq r.start s.id || reads_in s.id r.readings) (elim q [ None ↦ starts l ss | Some w ↦ record { start = s.id; early = w.early; from = w.from; readings = readings_until l ss } ∷ starts l ss ]) ≡ true
    begins None f = absurd (cc)
    begins (Some w) f = or-left (nat_eq s.id s.id || reads_in s.id (readings_until l ss)) (list_any (λ r. nat_eq r.start s.id || reads_in s.id r.readings) (starts l ss)) (or-left (nat_eq s.id s.id) (reads_in s.id (readings_until l ss)) (eq-eqb s.id s.id refl))

    go : (is_used (use_of l s) ≡ true) ⊎ (is_written l s ≡ true) → named_by l s.id (s ∷ ss) ≡ true
    go (inl f) = or-left (reads_in s.id (readings_until l (s ∷ ss))) (list_any (λ r. nat_eq r.start s.id || reads_in s.id r.readings) (starts l (s ∷ ss))) (any-both (λ r. nat_eq r.id s.id) (reading_of s.id (use_of l s)) (cond (is_written l s) [] (readings_until l ss)) ∙ or-left (reads_in s.id (reading_of s.id (use_of l s))) (reads_in s.id (cond (is_written l s) [] (readings_until l ss))) (reading-there s.id (use_of l s) f))
    go (inr f) = or-right (reads_in s.id (readings_until l (s ∷ ss))) (list_any (λ r. nat_eq r.start s.id || reads_in s.id r.readings) (starts l (s ∷ ss))) (begins (writing_of l s.writes) f)

-- what is named behind it
tail-back : (l id : ℕ) (s : Step) (ss : List Step) → named_by l id ss ≡ true → named_by l id (s ∷ ss) ≡ true
tail-back l id s ss e = go (writing_of l s.writes) refl (or-cases (reads_in id (readings_until l ss)) (list_any (λ r. nat_eq r.start id || reads_in id r.readings) (starts l ss)) e)
  where
    by : (q : Option LaneDef) → (reads_in id (readings_until l ss) ≡ true) ⊎ (list_any (λ r. nat_eq r.start id || reads_in id r.readings) (starts l ss) ≡ true) → (reads_in id (reading_of s.id (use_of l s) ++ cond (is_present q) [] (readings_until l ss)) || list_any (λ r. nat_eq r.start id || reads_in id r.readings) (elim q [ None ↦ starts l ss | Some w ↦ record { start = s.id; early = w.early; from = w.from; readings = readings_until l ss } ∷ starts l ss ])) ≡ true
    by None (inl f) = or-left (reads_in id (reading_of s.id (use_of l s) ++ readings_until l ss)) (list_any (λ r. nat_eq r.start id || reads_in id r.readings) (starts l ss)) (any-both (λ r. nat_eq r.id id) (reading_of s.id (use_of l s)) (readings_until l ss) ∙ or-right (reads_in id (reading_of s.id (use_of l s))) (reads_in id (readings_until l ss)) f)
    by None (inr f) = or-right (reads_in id (reading_of s.id (use_of l s) ++ readings_until l ss)) (list_any (λ r. nat_eq r.start id || reads_in id r.readings) (starts l ss)) f
    by (Some w) (inl f) = or-right (reads_in id (reading_of s.id (use_of l s) ++ [])) ((nat_eq s.id id || reads_in id (readings_until l ss)) || list_any (λ r. nat_eq r.start id || reads_in id r.readings) (starts l ss)) (or-left (nat_eq s.id id || reads_in id (readings_until l ss)) (list_any (λ r. nat_eq r.start id || reads_in id r.readings) (starts l ss)) (or-right (nat_eq s.id id) (reads_in id (readings_until l ss)) f))
    by (Some w) (inr f) = or-right (reads_in id (reading_of s.id (use_of l s) ++ [])) ((nat_eq s.id id || reads_in id (readings_until l ss)) || list_any (λ r. nat_eq r.start id || reads_in id r.readings) (starts l ss)) (or-right (nat_eq s.id id || reads_in id (readings_until l ss)) (list_any (λ r. nat_eq r.start id || reads_in id r.readings) (starts l ss)) f)

    go : (q : Option LaneDef) → writing_of l s.writes ≡ q → (reads_in id (readings_until l ss) ≡ true) ⊎ (list_any (λ r. nat_eq r.start id || reads_in id r.readings) (starts l ss) ≡ true) → named_by l id (s ∷ ss) ≡ true
    go q g h = by (writing_of l s.writes) h

named-back : (l : ℕ) (s : Step) (ss : List Step) → Member s ss → names_step l s ≡ true → named_by l s.id ss ≡ true
named-back l s [] m e = absurd (member-none s m)
named-back l s (x ∷ ss) m e = member-elim s x ss (λ g. subst (λ y. named_by l y.id (x ∷ ss) ≡ true) (sym g) (head-back l x ss (ap (names_step l) (sym g) ∙ e))) (λ k. tail-back l s.id x ss (named-back l s ss k e)) m

-- cells

all-below : (c : Cell) (n : ℕ) (ds : List Cell) → is_below n ds ≡ true → descends ds ≡ true → Member c ds → c.block < n
all-below c n [] e f k = absurd (member-none c k)
all-below c n (y ∷ ds) e f k =
    let lt : y.block < n = ltb-true y.block n e in
    member-elim c y ds (λ g. let s : c.block ≡ y.block = ap (λ z. z.block) g in omega (arith, lt, s)) (λ j. let h = all-below c y.block ds (first_of_both (is_below y.block ds) (descends ds) f) (second_of_both (is_below y.block ds) (descends ds) f) j in omega (arith, lt, h)) k

cell-found : (cs : List Cell) (c : Cell) → descends cs ≡ true → Member c cs → find_cell c.block cs ≡ Some c
cell-found [] c d m = absurd (member-none c m)
cell-found (x ∷ cs) c d m = member-elim c x cs (λ g. ap (λ b. cond b (Some x) (find_cell c.block cs)) (eq-eqb x.block c.block (ap (λ y. y.block) (sym g))) ∙ ap Some (sym g)) (λ k. past (all-below c x.block cs (first_of_both (is_below x.block cs) (descends cs) d) (second_of_both (is_below x.block cs) (descends cs) d) k) (cell-found cs c (second_of_both (is_below x.block cs) (descends cs) d) k)) m
  where
    past : c.block < x.block → find_cell c.block cs ≡ Some c → cond (nat_eq x.block c.block) (Some x) (find_cell c.block cs) ≡ Some c
    past lt ih = go (nat_eq x.block c.block) refl
      where
        go : (b : Bool) → nat_eq x.block c.block ≡ b → cond b (Some x) (find_cell c.block cs) ≡ Some c
        go true g = absurd (let s = eqb-true x.block c.block g in omega (arith, s, lt))
        go false g = ih

cell-there : (b : ℕ) (cs : List Cell) (c : Cell) → find_cell b cs ≡ Some c → Member c cs
cell-there b [] c e = absurd (cc)
cell-there b (x ∷ cs) c e = go (nat_eq x.block b) e (cell-there b cs c)
  where
    go : (t : Bool) → cond t (Some x) (find_cell b cs) ≡ Some c → (find_cell b cs ≡ Some c → Member c cs) → Member c (x ∷ cs)
    go true g ih = let s : x ≡ c = cc in subst (λ y. Member y (x ∷ cs)) s first
    go false g ih = later (ih g)

-- a lane's cells name an instruction just where a step of its id names the lane

pub lane-forth : (code : Code) (rows : List LaneRange) → IsEntered code rows → (l id : ℕ) → names_lane id rows l ≡ true → (b : ℕ) × (s : Step) × Member s (steps_of code b) × (s.id ≡ id) × (names_step l s ≡ true)
lane-forth code rows entered l id e = go (slice_get rows l) refl e
  where
    go : (q : Option LaneRange) → slice_get rows l ≡ q → list_any (names_cell id) (elim q [ None ↦ [] | Some r ↦ r.cells.items ]) ≡ true → (b : ℕ) × (s : Step) × Member s (steps_of code b) × (s.id ≡ id) × (names_step l s ≡ true)
    go None g h = absurd (cc)
    go (Some r) g h =
        let z = any-of (names_cell id) r.cells.items h in
        let c = z.0 in
        let found : rows_seen rows l c.block ≡ seen_cell c = ap (λ (q : Option LaneRange). elim q [ None ↦ unseen | Some r ↦ seen_in r.cells.items c.block ]) g ∙ ap seen (cell-found r.cells.items c r.sorted z.1) in
        let named : named_by l id (steps_of code c.block) ≡ true = ap (named_in id) (sym (entered l c.block) ∙ ap shape found) ∙ cell-same id c ∙ z.2 in
        let y = named-forth l id (steps_of code c.block) named in
        (c.block, y.0, y.1, y.2, y.3)

pub lane-back : (code : Code) (rows : List LaneRange) → IsEntered code rows → (l b : ℕ) (s : Step) → Member s (steps_of code b) → names_step l s ≡ true → names_lane s.id rows l ≡ true
lane-back code rows entered l b s m e = go (slice_get rows l) refl (ap (named_in s.id) (entered l b) ∙ named-back l s (steps_of code b) m e)
  where
    by : (r : LaneRange) (q : Option Cell) → find_cell b r.cells.items ≡ q → named_in s.id (shape (seen q)) ≡ true → list_any (names_cell s.id) r.cells.items ≡ true
    by r None g h = absurd (cc)
    by r (Some c) g h = any-in (names_cell s.id) c r.cells.items (cell-there b r.cells.items c g) (sym (cell-same s.id c) ∙ h)

    go : (q : Option LaneRange) → slice_get rows l ≡ q → named_in s.id (shape (rows_seen rows l b)) ≡ true → names_lane s.id rows l ≡ true
    go None g h = absurd (let z : false ≡ true = sym (ap (λ (q : Option LaneRange). named_in s.id (shape (elim q [ None ↦ unseen | Some r ↦ seen_in r.cells.items b ]))) g) ∙ h in cc)
    go (Some r) g h =
        ap (λ (q : Option LaneRange). list_any (names_cell s.id) (elim q [ None ↦ [] | Some x ↦ x.cells.items ])) g
        ∙ by r (find_cell b r.cells.items) refl (sym (ap (λ (q : Option LaneRange). named_in s.id (shape (elim q [ None ↦ unseen | Some r ↦ seen_in r.cells.items b ]))) g) ∙ h)
