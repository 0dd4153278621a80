-- Where what a cell tells is cut between what passes a test and what doesn't.
use Rattle.std.proofs.Common.{◌≡◌, ◌<◌, ◌≤◌, ◌∙◌, ◌⊎◌, inl, inr, ℕ, zero, suc, Bool, true, false, cond, length, List, [], ◌∷◌, ◌++◌, map, get_or, refl, sym, ap, subst, arith, append_assoc, append-nil}
use Rattle.std.specs.List.{AllWithin}
use Rattle.std.proofs.lemmas.List.{length-map}
use Rattle.std.specs.List.Sorted.{IsPartitionedBy}
use Rattle.mir_meaning.specs.Paths.{Among, here, there}
use Rattle.live_lanes.specs.declared.row.LaneUse.{LaneUse}
use Rattle.live_lanes.specs.Table.{Begun, leading}
use Rattle.live_lanes.proofs.Cells.{partition-leading}
use Rattle.live_lanes.proofs.Numbered.{among-left, among-right}
use Rattle.live_edits.specs.Renoted.{Event, reads, event_test, pieces_told, piece_readings, AllPass, NonePass, Cuts}
use Rattle.live_edits.proofs.RenoteTold.{writing, told_before, told_after}

-- what a binary search finds

leading-all : {X : Type 0} (test : X → Bool) (xs ys : List X) → AllPass test xs → NonePass test ys → leading test (xs ++ ys) ≡ length xs
leading-all test [] [] all none = refl
leading-all test [] (y ∷ ys) all none = ap (λ t. cond t (suc (leading test ys)) 0) (none y here)
leading-all test (x ∷ xs) ys all none = ap (λ t. cond t (suc (leading test (xs ++ ys))) 0) (all x here) ∙ ap suc (leading-all test xs ys (λ z m. all z (there m)) none)

among-at : {X : Type 0} (xs : List X) (i : ℕ) (d : X) → i < length xs → Among (get_or xs i d) xs
among-at [] i d h = absurd (omega arith)
among-at (x ∷ xs) zero d h = here
among-at (x ∷ xs) (suc i) d h = there (among-at xs i d (omega arith))

parted : {X : Type 0} (test : X → Bool) (xs ys : List X) → AllPass test xs → NonePass test ys → IsPartitionedBy test (xs ++ ys)
parted test [] ys all none i j d h w e = absurd (let f = none (get_or ys j d) (among-at ys j d w) in let k : true ≡ false = sym e ∙ f in cc)
parted test (x ∷ xs) ys all none zero j d h w e = all x here
parted test (x ∷ xs) ys all none (suc i) zero d h w e = absurd (omega arith)
parted test (x ∷ xs) ys all none (suc i) (suc j) d h w e = parted test xs ys (λ z m. all z (there m)) none i j d (omega arith) (omega arith) e

pub cuts : {X : Type 0} (test : X → Bool) (xs : List X) (n : ℕ) → n ≤ length xs → (IsPartitionedBy test xs → AllWithin (λ y. test y ≡ true) xs 0 n × AllWithin (λ y. test y ≡ false) xs n (length xs)) → Cuts test xs n
cuts {X} test xs n bound found front back e all none =
    let part : IsPartitionedBy test xs = subst (IsPartitionedBy test) (sym e) (parted test front back all none) in
    let at = found part in
    partition-leading test xs n bound at.0 at.1 ∙ (ap (leading test) e ∙ leading-all test front back all none)

-- lists that are put together of two parts

abbrev pub first_or : {X : Type 0} → X → List X → X
first_or d [] = d
first_or d (x ∷ xs) = x

abbrev pub rest_of : {X : Type 0} → List X → List X
rest_of [] = []
rest_of (x ∷ xs) = xs

append-cases : {X : Type 0} (xs ys ps qs : List X) → xs ++ ys ≡ ps ++ qs → ((zs : List X) × (xs ≡ ps ++ zs) × (qs ≡ zs ++ ys)) ⊎ ((z : X) × (zs : List X) × (ps ≡ xs ++ z ∷ zs) × (ys ≡ z ∷ (zs ++ qs)))
append-cases [] ys [] qs e = inl ([], refl, sym e)
append-cases [] ys (a ∷ ps) qs e = inr (a, ps, refl, e)
append-cases (x ∷ xs) ys [] qs e = inl (x ∷ xs, refl, sym e)
append-cases {X} (x ∷ xs) ys (a ∷ ps) qs e = go (append-cases xs ys ps qs (ap rest_of e))
  where
    same : x ≡ a
    same = ap (first_or x) e

    go : ((zs : List X) × (xs ≡ ps ++ zs) × (qs ≡ zs ++ ys)) ⊎ ((z : X) × (zs : List X) × (ps ≡ xs ++ z ∷ zs) × (ys ≡ z ∷ (zs ++ qs))) → ((zs : List X) × (x ∷ xs ≡ a ∷ (ps ++ zs)) × (qs ≡ zs ++ ys)) ⊎ ((z : X) × (zs : List X) × (a ∷ ps ≡ x ∷ (xs ++ z ∷ zs)) × (ys ≡ z ∷ (zs ++ qs)))
    go (inl r) = inl (r.0, (λ i. same i ∷ r.1 i), r.2)
    go (inr r) = inr (r.0, r.1, (λ i. sym same i ∷ r.2 i), r.3)

map-split : {X Y : Type 0} (f : X → Y) (rs : List X) (ps qs : List Y) → map f rs ≡ ps ++ qs → (us : List X) × (vs : List X) × (rs ≡ us ++ vs) × (ps ≡ map f us) × (qs ≡ map f vs)
map-split f rs [] qs e = ([], rs, refl, refl, sym e)
map-split f [] (a ∷ ps) qs e = absurd (cc)
map-split f (r ∷ rs) (a ∷ ps) qs e =
    let z = map-split f rs ps qs (ap rest_of e) in
    (r ∷ z.0, z.1, ap (λ t. r ∷ t) z.2, (λ i. first_or a (sym e i) ∷ z.3 i), z.4)

map-member : {X Y : Type 0} (f : X → Y) (xs : List X) (x : X) → Among x xs → Among (f x) (map f xs)
map-member f [] x m = elim m [ ]
map-member f (y ∷ xs) x here = here
map-member f (y ∷ xs) x (there m) = there (map-member f xs x m)

pub cuts-mapped : {X Y : Type 0} (f : X → Y) (test : Y → Bool) (xs : List X) (n : ℕ) → Cuts (λ x. test (f x)) xs n → Cuts test (map f xs) n
cuts-mapped f test xs n cut front back e all none =
    let z = map-split f xs front back e in
    cut z.0 z.1 z.2 (λ x m. all (f x) (subst (Among (f x)) (sym z.3) (map-member f z.0 x m))) (λ x m. none (f x) (subst (Among (f x)) (sym z.4) (map-member f z.1 x m)))
    ∙ (sym (length-map z.0 f) ∙ ap length (sym z.3))

-- the readings and writings that pass the test are those of the pieces before one, and some readings of this one
module _ (reading writes_test : ℕ → Bool) where
  abbrev test : Event → Bool
  test = event_test reading writes_test

  pub record IsCut (rs : List LaneUse) (ss : List Begun) (front back : List Event) : Type 0 where
    pub passing : List Begun
    pub failing : List Begun
    pub pieces : ss ≡ passing ++ failing
    pub all_pass : AllPass (λ s. writes_test s.start) passing
    pub none_pass : NonePass (λ s. writes_test s.start) failing
    pub before : List LaneUse
    pub behind : List LaneUse
    pub readings : piece_readings rs ss (length passing) ≡ before ++ behind
    pub all_before : AllPass (λ r. reading r.id) before
    pub none_behind : NonePass (λ r. reading r.id) behind
    pub left : front ≡ told_before rs ss (length passing) ++ map reads before
    pub right : back ≡ map reads behind ++ told_after ss (length passing)

  mapped : (r : LaneUse) (rs : List LaneUse) → Among r rs → Among (reads r) (map reads rs)
  mapped r [] m = elim m [ ]
  mapped r (q ∷ rs) here = here
  mapped r (q ∷ rs) (there m) = there (mapped r rs m)

  writing-among : (s : Begun) (rs : List LaneUse) (ss : List Begun) → Among s ss → Among (writing s) (pieces_told rs ss)
  writing-among s rs [] m = elim m [ ]
  writing-among s rs (t ∷ ss) here = among-right (writing s) (map reads rs) (writing s ∷ pieces_told s.readings ss) here
  writing-among s rs (t ∷ ss) (there m) = among-right (writing s) (map reads rs) (writing t ∷ pieces_told t.readings ss) (there (writing-among s t.readings ss m))

  pub find-cut : (rs : List LaneUse) (ss : List Begun) (front back : List Event) → pieces_told rs ss ≡ front ++ back → AllPass test front → NonePass test back → IsCut rs ss front back
  find-cut rs [] front back e all none =
      let z = map-split reads rs front back e in
      record {
        passing = [];
        failing = [];
        pieces = refl;
        all_pass = λ s m. elim m [ ];
        none_pass = λ s m. elim m [ ];
        before = z.0;
        behind = z.1;
        readings = z.2;
        all_before = λ r m. all (reads r) (subst (Among (reads r)) (sym z.3) (mapped r z.0 m));
        none_behind = λ r m. none (reads r) (subst (Among (reads r)) (sym z.4) (mapped r z.1 m));
        left = z.3;
        right = z.4 ∙ sym (append-nil (map reads z.1));
      }
  find-cut rs (s ∷ ss) front back e all none = go (append-cases (map reads rs) (writing s ∷ pieces_told s.readings ss) front back e) (find-cut s.readings ss)
    where
      go : ((zs : List Event) × (map reads rs ≡ front ++ zs) × (back ≡ zs ++ writing s ∷ pieces_told s.readings ss)) ⊎ ((z : Event) × (zs : List Event) × (front ≡ map reads rs ++ z ∷ zs) × (writing s ∷ pieces_told s.readings ss ≡ z ∷ (zs ++ back))) → ((f b : List Event) → pieces_told s.readings ss ≡ f ++ b → AllPass test f → NonePass test b → IsCut s.readings ss f b) → IsCut rs (s ∷ ss) front back
      go (inl w) further =
          let z = map-split reads rs front w.0 w.1 in
          let right : back ≡ map reads z.1 ++ writing s ∷ pieces_told s.readings ss = w.2 ∙ ap (λ t. t ++ writing s ∷ pieces_told s.readings ss) z.4 in
          record {
            passing = [];
            failing = s ∷ ss;
            pieces = refl;
            all_pass = λ t m. elim m [ ];
            none_pass = λ t m. none (writing t) (subst (Among (writing t)) (sym right) (writing-among t z.1 (s ∷ ss) m));
            before = z.0;
            behind = z.1;
            readings = z.2;
            all_before = λ r m. all (reads r) (subst (Among (reads r)) (sym z.3) (mapped r z.0 m));
            none_behind = λ r m. none (reads r) (subst (Among (reads r)) (sym right) (among-left (reads r) (map reads z.1) (writing s ∷ pieces_told s.readings ss) (mapped r z.1 m)));
            left = z.3;
            right = right;
          }
      go (inr w) further =
          let own : w.0 ≡ writing s = sym (ap (first_or (writing s)) w.3) in
          let is : front ≡ map reads rs ++ writing s ∷ w.1 = w.2 ∙ ap (λ t. map reads rs ++ t ∷ w.1) own in
          let within : (x : Event) → Among x (writing s ∷ w.1) → test x ≡ true = λ x m. all x (subst (Among x) (sym is) (among-right x (map reads rs) (writing s ∷ w.1) m)) in
          let c = further w.1 back (ap rest_of w.3) (λ x m. within x (there m)) none in
          record {
            passing = s ∷ c.passing;
            failing = c.failing;
            pieces = ap (λ t. s ∷ t) c.pieces;
            all_pass = λ t m. pass t c.passing m (within (writing s) here) c.all_pass;
            none_pass = c.none_pass;
            before = c.before;
            behind = c.behind;
            readings = c.readings;
            all_before = c.all_before;
            none_behind = c.none_behind;
            left = is ∙ (ap (λ t. map reads rs ++ writing s ∷ t) c.left ∙ sym (append_assoc (map reads rs) (writing s ∷ told_before s.readings ss (length c.passing)) (map reads c.before)));
            right = c.right;
          }
        where
          pass : (t : Begun) (ts : List Begun) → Among t (s ∷ ts) → writes_test s.start ≡ true → AllPass (λ (x : Begun). writes_test x.start) ts → writes_test t.start ≡ true
          pass t ts here f rest = f
          pass t ts (there m) f rest = rest t m
