-- The growth of a whole table.
use Rattle.std.proofs.Common.{◌≡◌, ◌<◌, ◌≤◌, ℕ, zero, suc, ◌+◌, Bool, true, false, cond, ◌&&◌, length, List, [], ◌∷◌, ◌++◌, ◌⊎◌, Option, None, Some, refl, sym, ap, ◌∙◌, subst, inl, inr, arith, get_or, take, reverse, eq-eqb}
use mathlib.Core.List.{reverse_aux}
use Rattle.std.specs.Prelude.{slice_get, nat_eq}
use Rattle.std.specs.List.{find}
use Rattle.std.proofs.lemmas.List.{length-map}
use Rattle.mir_meaning.specs.declared.writing.LaneDef.{LaneDef}
use Rattle.live_lanes.specs.declared.compute.flow.BlockFlow.{BlockFlow}
use Rattle.live_lanes.specs.declared.row.Cause.TheVariants as why
use Rattle.live_lanes.specs.declared.row.LaneUse.{LaneUse}
use Rattle.live_lanes.specs.declared.row.LaneRange.{LaneRange}
use Rattle.live_lanes.specs.declared.table.PieceSpot.{PieceSpot}
use Rattle.mir_meaning.specs.Paths.{Among, here, there, Step, Code, steps_of, last_of, has, Certain, use_of, writing_of, is_present}
use Rattle.live_lanes.specs.Graph.{is_live, writes_in, IsClosed, IsGrown}
use Rattle.live_lanes.specs.Table.{Numbers, is_certain, cause_of}
use Rattle.live_lanes.specs.Entered.{Start, start_of, shape, starts, readings_until, reading, reading_of, shape_of, rows_seen, causes, IsTableOf}
use Rattle.live_lanes.specs.Growth.{spot, Grew, SourcesLive, Done, RaisesSources}
use Rattle.live_lanes.proofs.Basics.{none-among, writes-append}
use Rattle.live_lanes.proofs.Exits.{table-kept, exits-kept}
use Rattle.live_lanes.proofs.Growth.{grew-trans}
use Rattle.live_lanes.proofs.Numbered.{among-left, among-right, among-cases}
use Rattle.live_lanes.proofs.Pieces.{certain-shape, done-kept, start_readings, shape_readings, shape_certain, length-starts}

pub sources-kept : (code : Code) (old new : List LaneRange) (x y : List PieceSpot) (l b n : ℕ) → Grew code old new x y → SourcesLive code (causes old) l b n → SourcesLive code (causes new) l b n
sources-kept code old new x y l b n g s = record {
  exits = λ z p a. exits-kept code old new x y l p g (s.exits z p a);
  move = λ a before i rest e u m. let h = s.move a before i rest e u m in ap is_live (g.kept a b (writes_in a before) h) ∙ h;
}

-- as far as the loop over the listed pieces has come
pub record SomeGrown (code : Code) (old new : List LaneRange) (k : ℕ) (risen : List PieceSpot) : Type 0 where
  pub grew : Grew code old new [] risen
  pub done : (l b n : ℕ) → n ≤ length (rows_seen old l b).segments → Done new l b n
  pub told : (x : PieceSpot) → Among x (take k risen) → SourcesLive code (causes new) x.lane x.block x.index

-- the first elements of a longer list
take-among : (x : PieceSpot) (xs ys : List PieceSpot) (k : ℕ) (d : PieceSpot) → k < length xs → Among x (take (suc k) (xs ++ ys)) → Among x (take k xs) ⊎ (x ≡ get_or xs k d)
take-among x [] ys k d h a = absurd (omega arith)
take-among x (z ∷ xs) ys zero d h a = go (among-cases x z [] a)
  where
    go : (x ≡ z) ⊎ Among x [] → Among x [] ⊎ (x ≡ z)
    go (inl e) = inr e
    go (inr b) = inl b
take-among x (z ∷ xs) ys (suc k) d h a = go (among-cases x z (take (suc k) (xs ++ ys)) a) (λ b. take-among x xs ys k d (omega arith) b)
  where
    more : Among x (take k xs) ⊎ (x ≡ get_or xs k d) → Among x (z ∷ take k xs) ⊎ (x ≡ get_or xs k d)
    more (inl b) = inl (there b)
    more (inr e) = inr e

    go : (x ≡ z) ⊎ Among x (take (suc k) (xs ++ ys)) → (Among x (take (suc k) (xs ++ ys)) → Among x (take k xs) ⊎ (x ≡ get_or xs k d)) → Among x (z ∷ take k xs) ⊎ (x ≡ get_or xs k d)
    go (inl e) f = inl (subst (λ y. Among x (y ∷ take k xs)) e here)
    go (inr b) f = more (f b)

get-among : (xs : List PieceSpot) (k : ℕ) (d : PieceSpot) → k < length xs → Among (get_or xs k d) xs
get-among [] k d h = absurd (omega arith)
get-among (x ∷ xs) zero d h = here
get-among (x ∷ xs) (suc k) d h = there (get-among xs k d (omega arith))

pub grown-more : (code : Code) (slots : Numbers) (flow : List BlockFlow) (old mid new : List LaneRange) (k : ℕ) (x : PieceSpot) (risen to : List PieceSpot) → IsTableOf code slots flow old → SomeGrown code old mid k risen → k < length risen → x ≡ get_or risen k x → RaisesSources slots flow mid new x risen to → SomeGrown code old new (k + 1) to
grown-more code slots flow old mid new k x risen to t so h is r = record {
  grew = grew-trans code old mid new [] risen to so.grew step.0;
  done = λ l b n w. done-kept code mid new risen to l b n step.0 (so.done l b n w);
  told = λ y a. go y (take-among y risen step.0.added k x h (subst (λ zs. Among y (take (suc k) zs)) step.0.list (subst (λ n. Among y (take n to)) (let n : k + 1 ≡ suc k = omega arith in n) a)));
}
  where
    live : is_live (causes mid x.lane x.block x.index) ≡ true
    live = so.grew.risen x (subst (Among x) so.grew.list (subst (λ z. Among z risen) (sym is) (get-among risen k x h)))

    step : Grew code mid new risen to × SourcesLive code (causes new) x.lane x.block x.index
    step = r code (table-kept code slots flow old mid [] risen t so.grew) live

    go : (y : PieceSpot) → Among y (take k risen) ⊎ (y ≡ get_or risen k x) → SourcesLive code (causes new) y.lane y.block y.index
    go y (inl a) = sources-kept code mid new risen to y.lane y.block y.index step.0 (so.told y a)
    go y (inr e) = subst (λ z. SourcesLive code (causes new) z.lane z.block z.index) (is ∙ sym e) step.1

take-all : (xs : List PieceSpot) (k : ℕ) → length xs ≤ k → take k xs ≡ xs
take-all [] zero h = refl
take-all [] (suc k) h = refl
take-all (x ∷ xs) zero h = absurd (omega arith)
take-all (x ∷ xs) (suc k) h = ap (λ t. x ∷ t) (take-all xs k (omega arith))

-- the readings of a piece, by its number
abbrev pub piece-readings : ℕ → List Step → ℕ → List LaneUse
piece-readings l steps zero = readings_until l steps
piece-readings l steps (suc k) = start_readings (slice_get (starts l steps) k)

pub readings-there : (l : ℕ) (r : LaneUse) (before : List Step) (s : Step) (rest : List Step) → Among r (reading_of s.id (use_of l s)) → Among r (piece-readings l (before ++ s ∷ rest) (writes_in l before))
readings-there l r [] s rest a = among-left r (reading_of s.id (use_of l s)) (cond (is_present (writing_of l s.writes)) [] (readings_until l rest)) a
readings-there l r (x ∷ before) s rest a = go (writing_of l x.writes) refl (writes_in l before) refl (readings-there l r before s rest a)
  where
    go : (o : Option LaneDef) → writing_of l x.writes ≡ o → (n : ℕ) → writes_in l before ≡ n → Among r (piece-readings l (before ++ s ∷ rest) (writes_in l before)) → Among r (piece-readings l (x ∷ (before ++ s ∷ rest)) (cond (is_present (writing_of l x.writes)) (suc (writes_in l before)) (writes_in l before)))
    go None e zero f ih = subst (λ o. Among r (piece-readings l (x ∷ (before ++ s ∷ rest)) (cond (is_present o) (suc (writes_in l before)) (writes_in l before)))) (sym e) (subst (λ n. Among r (piece-readings l (x ∷ (before ++ s ∷ rest)) n)) (sym f) (among-right r (reading_of x.id (use_of l x)) (cond (is_present (writing_of l x.writes)) [] (readings_until l (before ++ s ∷ rest))) (subst (λ o. Among r (cond (is_present o) [] (readings_until l (before ++ s ∷ rest)))) (sym e) (subst (λ n. Among r (piece-readings l (before ++ s ∷ rest) n)) f ih))))
    go None e (suc k) f ih = subst (λ o. Among r (piece-readings l (x ∷ (before ++ s ∷ rest)) (cond (is_present o) (suc (writes_in l before)) (writes_in l before)))) (sym e) (subst (λ n. Among r (piece-readings l (x ∷ (before ++ s ∷ rest)) n)) (sym f) (subst (λ o. Among r (start_readings (slice_get {X = Start} (elim o [ None ↦ starts l (before ++ s ∷ rest) | Some w ↦ record { start = x.id; early = w.early; from = w.from; readings = readings_until l (before ++ s ∷ rest) } ∷ starts l (before ++ s ∷ rest) ]) k))) (sym e) (subst (λ n. Among r (piece-readings l (before ++ s ∷ rest) n)) f ih)))
    go (Some w) e zero f ih = subst (λ o. Among r (piece-readings l (x ∷ (before ++ s ∷ rest)) (cond (is_present o) (suc (writes_in l before)) (writes_in l before)))) (sym e) (subst (λ n. Among r (piece-readings l (x ∷ (before ++ s ∷ rest)) (suc n))) (sym f) (subst (λ o. Among r (start_readings (slice_get {X = Start} (elim o [ None ↦ starts l (before ++ s ∷ rest) | Some v ↦ record { start = x.id; early = v.early; from = v.from; readings = readings_until l (before ++ s ∷ rest) } ∷ starts l (before ++ s ∷ rest) ]) 0))) (sym e) (subst (λ n. Among r (piece-readings l (before ++ s ∷ rest) n)) f ih)))
    go (Some w) e (suc k) f ih = subst (λ o. Among r (piece-readings l (x ∷ (before ++ s ∷ rest)) (cond (is_present o) (suc (writes_in l before)) (writes_in l before)))) (sym e) (subst (λ n. Among r (piece-readings l (x ∷ (before ++ s ∷ rest)) (suc n))) (sym f) (subst (λ o. Among r (start_readings (slice_get {X = Start} (elim o [ None ↦ starts l (before ++ s ∷ rest) | Some v ↦ record { start = x.id; early = v.early; from = v.from; readings = readings_until l (before ++ s ∷ rest) } ∷ starts l (before ++ s ∷ rest) ]) (suc k)))) (sym e) (subst (λ n. Among r (piece-readings l (before ++ s ∷ rest) n)) f ih)))

among-onto : (r : LaneUse) (xs ys : List LaneUse) → Among r xs ⊎ Among r ys → Among r (reverse_aux xs ys)
among-onto r [] ys (inl a) = absurd (none-among r a)
among-onto r [] ys (inr a) = a
among-onto r (x ∷ xs) ys a = among-onto r xs (x ∷ ys) (go a)
  where
    first : (r ≡ x) ⊎ Among r xs → Among r xs ⊎ Among r (x ∷ ys)
    first (inl e) = inr (subst (λ y. Among r (y ∷ ys)) e here)
    first (inr b) = inl b

    go : Among r (x ∷ xs) ⊎ Among r ys → Among r xs ⊎ Among r (x ∷ ys)
    go (inl b) = first (among-cases r x xs b)
    go (inr b) = inr (there b)

find-there : (test : LaneUse → Bool) (r : LaneUse) (xs : List LaneUse) → Among r xs → test r ≡ true → is_live (cause_of (find test xs)) ≡ true
find-there test r [] a e = absurd (none-among r a)
find-there test r (x ∷ xs) a e = go (test x) refl (among-cases r x xs a) (λ b. find-there test r xs b e)
  where
    go : (t : Bool) → test x ≡ t → (r ≡ x) ⊎ Among r xs → (Among r xs → is_live (cause_of (find test xs)) ≡ true) → is_live (cause_of (cond t (Some x) (find test xs))) ≡ true
    go true f b ih = refl
    go false f (inl g) ih = absurd (let k : false ≡ true = sym f ∙ ap test (sym g) ∙ e in cc)
    go false f (inr b) ih = ih b

module _ (code : Code) (l b : ℕ) where
  readings-are : (n : ℕ) → shape_readings (shape_of code l b) n ≡ piece-readings l (steps_of code b) n
  readings-are zero = refl
  readings-are (suc k) = refl

  certain-live : (before : List Step) (s : Step) (rest : List Step) → steps_of code b ≡ before ++ s ∷ rest → use_of l s ≡ Certain → is_live (shape_certain (shape_of code l b) (writes_in l before)) ≡ true
  certain-live before s rest e u = go (has l (last_of code b) && nat_eq (writes_in l before) (length (starts l (steps_of code b))))
    where
      here' : Among (reading s.id None) (reading_of s.id (use_of l s))
      here' = subst (λ v. Among (reading s.id None) (reading_of s.id v)) (sym u) here

      found : is_live (cause_of (find is_certain (reverse (shape_readings (shape_of code l b) (writes_in l before))))) ≡ true
      found = find-there is_certain (reading s.id None) (reverse (shape_readings (shape_of code l b) (writes_in l before))) (among-onto (reading s.id None) (shape_readings (shape_of code l b) (writes_in l before)) [] (inl (subst (Among (reading s.id None)) (sym (readings-are (writes_in l before))) (subst (λ ss. Among (reading s.id None) (piece-readings l ss (writes_in l before))) (sym e) (readings-there l (reading s.id None) before s rest here'))))) refl

      go : (t : Bool) → is_live (cond t why.Phi (cause_of (find is_certain (reverse (shape_readings (shape_of code l b) (writes_in l before)))))) ≡ true
      go true = refl
      go false = found

  among-has : (xs : List ℕ) → Among l xs → has l xs ≡ true
  among-has [] a = absurd (none-among l a)
  among-has (x ∷ xs) a = go (nat_eq x l) refl (among-cases l x xs a) (λ c. among-has xs c)
    where
      go : (t : Bool) → nat_eq x l ≡ t → (l ≡ x) ⊎ Among l xs → (Among l xs → has l xs ≡ true) → cond t true (has l xs) ≡ true
      go true f c ih = refl
      go false f (inl e) ih = absurd (let k : false ≡ true = sym f ∙ eq-eqb x l (sym e) in cc)
      go false f (inr c) ih = ih c

  phi-live : Among l (last_of code b) → is_live (shape_certain (shape_of code l b) (writes_in l (steps_of code b))) ≡ true
  phi-live a = go (has l (last_of code b)) (nat_eq (writes_in l (steps_of code b)) (length (starts l (steps_of code b)))) (among-has (last_of code b) a) (eq-eqb (writes_in l (steps_of code b)) (length (starts l (steps_of code b))) (sym (length-starts l (steps_of code b))))
    where
      go : (t u : Bool) → t ≡ true → u ≡ true → is_live (cond (t && u) why.Phi (cause_of (find is_certain (reverse (shape_readings (shape_of code l b) (writes_in l (steps_of code b))))))) ≡ true
      go true true f g = refl
      go true false f g = absurd (cc)
      go false u f g = absurd (cc)

writes-within : (l : ℕ) (before rest steps : List Step) → steps ≡ before ++ rest → writes_in l before ≤ writes_in l steps
writes-within l before rest steps e = let h = ap (writes_in l) e ∙ writes-append l before rest in omega arith

pub grown-all : (code : Code) (slots : Numbers) (flow : List BlockFlow) (old new : List LaneRange) (k : ℕ) (risen : List PieceSpot) → IsTableOf code slots flow old → ((l b n : ℕ) → is_live (causes old l b n) ≡ false) → length risen ≤ k → SomeGrown code old new k risen → ((l b : ℕ) → shape (rows_seen new l b) ≡ shape (rows_seen old l b)) × IsGrown code (causes new) × (length new ≡ length old)
grown-all code slots flow old new k risen t dead h so = (so.grew.shapes, record { closed = closed; founded = so.grew.founded (λ l b n e. absurd (alive l b n e)) }, so.grew.lanes)
  where
    alive : (l b n : ℕ) → is_live (causes old l b n) ≡ true → ⊥
    alive l b n e = let k' : false ≡ true = sym (dead l b n) ∙ e in cc

    told : (l b n : ℕ) → is_live (causes new l b n) ≡ true → SourcesLive code (causes new) l b n
    told l b n e = go (so.grew.listed l b n e)
      where
        go : (is_live (causes old l b n) ≡ true) ⊎ Among (spot l b n) so.grew.added → SourcesLive code (causes new) l b n
        go (inl f) = absurd (alive l b n f)
        go (inr a) = so.told (spot l b n) (subst (Among (spot l b n)) (sym (take-all risen k h)) (subst (Among (spot l b n)) (sym so.grew.list) a))

    within : (l b n : ℕ) → n ≤ writes_in l (steps_of code b) → n ≤ length (rows_seen old l b).segments
    within l b n w =
        let x = length-map (rows_seen old l b).segments start_of in
        let y = ap (λ s. length s.segments) (t.entered l b) in
        let z = length-starts l (steps_of code b) in
        omega arith

    certain : (l b n : ℕ) → n ≤ writes_in l (steps_of code b) → is_live (shape_certain (shape_of code l b) n) ≡ true → is_live (causes new l b n) ≡ true
    certain l b n w e = so.done l b n (within l b n w) (ap is_live (certain-shape (rows_seen new l b) n ∙ ap (λ s. shape_certain s n) (so.grew.shapes l b ∙ t.entered l b)) ∙ e)

    closed : IsClosed code (causes new)
    closed = record {
      reading = λ b l before s rest e u. certain l b (writes_in l before) (writes-within l before (s ∷ rest) (steps_of code b) e) (certain-live code l b before s rest e u);
      move = λ b l a before s rest e u f. (told a b (writes_in a (before ++ s ∷ [])) f).move l before s rest e u refl;
      exit = λ b l x before s rest e f a g. ((told l x 0 g).exits refl b a).exit before s rest e f;
      end = λ b l x a g. ((told l x 0 g).exits refl b a).end;
      phi = λ b l a. certain l b (writes_in l (steps_of code b)) (omega arith) (phi-live code l b a);
    }
