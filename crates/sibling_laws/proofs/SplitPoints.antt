-- At each point of a function with a range split lanes are live or occupied at most as at one point of the function, and of the
-- parts one alone is, where the range was.
use Rattle.std.proofs.Common.{◌≡◌, ◌<◌, ◌+◌, ◌⊎◌, inl, inr, ◌∙◌, ℕ, Bool, true, false, cond, List, [], ◌∷◌, length, refl, sym, ap, subst, arith}
use Rattle.std.specs.Prelude.{nat_eq, nat_lt}
use Rattle.std.proofs.lemmas.Bool.{eqb-false, ltb-false, ne_eqb}
use Rattle.target_base.specs.declared.types.Target.{Target}
use Rattle.meaning.specs.Code.{Code, Item, found}
use Rattle.meaning.specs.Lanes.{Writes, filled}
use Rattle.meaning.specs.Live.{Among as Member, here as first, there as later, Live, LiveAfter, OccupiedAfter, OccupiedBefore, after_leap, after_next, after_phi, exits_of, in_order, writes_of}
use Rattle.meaning.specs.Matched.{renamed, renamed_write}
use Rattle.meaning.specs.declared.types.Fill.TheVariants.{Moved}
use Rattle.meaning.specs.declared.types.Lane.{Lane}
use Rattle.meaning.specs.declared.types.Lane.TheVariants.{SlotLane, UnitLane, VirtualLane}
use Rattle.meaning.specs.declared.types.Source.TheVariants.{FromLane}
use Rattle.meaning.specs.declared.types.Write.{Write}
use Rattle.laws.proofs.Flow.{lane-inj}
use Rattle.mir_func.specs.Value.{Function}
use Rattle.mir_meaning.specs.Registers.{is_reserved, numbers, range_widths}
use Rattle.mir_meaning.specs.Points.{AtFirst, Entry, Exit, OccupiedAt, Point, RangePoint, Start, Tests, from_instr, point_item, points_of}
use Rattle.mir_meaning.specs.Renaming.{renamed_item}
use Rattle.instr_effects.proofs.Members.{member-elim, member-none}
use Rattle.live_lanes.specs.declared.ask.labels.Mark.{Mark}
use Rattle.lowering_laws.specs.Shapes.{IsLowered}
use Rattle.split_kit.specs.Split.{RangeLive, Split, greatest_label, part, split_by, start_label}
use Rattle.split_laws.specs.Laws.{IsOther, LabelsAgree}
use Rattle.split_laws.proofs.Copies.{moves}
use Rattle.split_laws.proofs.Facing.{Facing, Leads, back, faces, facing-same, own-back}
use Rattle.split_laws.proofs.Homes.{home-named, home-own, home_of, lane_home}
use Rattle.split_laws.proofs.Kept.{split_keeps_lowered}
use Rattle.split_laws.proofs.Labels.{start-fits}
use Rattle.split_laws.proofs.Others.{others_stay}
use Rattle.split_laws.proofs.Renamed.{bare-edge, exits-of, order-of, writes-of}
use Rattle.split_laws.proofs.Splitting.{suits}
use Rattle.split_laws.proofs.Suits.{Suits}
use Rattle.clear_laws.proofs.Places.{Place, code-behind, code-here, place-of}
use Rattle.sibling_laws.specs.Splits.{SplitPoint, SplitSharesPoints}
use Rattle.sibling_laws.proofs.SplitFaces.{Spot, all-spots, all-starts, copy_item, live-none, new, old}

source-same : (a b : Lane) → FromLane a ≡ FromLane b → a ≡ b
source-same a b e = cc

register-same : (x y j k : ℕ) → VirtualLane x j ≡ VirtualLane y k → x ≡ y
register-same x y j k e = cc

-- what a copy writes
copy-writes : (to from : ℕ) (ks : List ℕ) (w : Write) → Member w (moves to from ks) → ((k : ℕ) × (w.lane ≡ VirtualLane to k)) × (w.early ≡ false)
copy-writes to from [] w m = absurd (member-none w m)
copy-writes to from (k ∷ ks) w m =
    member-elim w (record { lane = VirtualLane to k; fill = Moved (FromLane (VirtualLane from k)); early = false }) (moves to from ks)
    (λ e. ((k, ap (λ (x : Write). x.lane) e), ap (λ (x : Write). x.early) e))
    (λ j. copy-writes to from ks w j) m

-- a write with other lanes
renamed-write : (m : Lane → Lane) (ws : Writes) (u : Write) → Member u (renamed m ws) → (w : Write) × Member w ws × (u ≡ renamed_write m w)
renamed-write m [] u x = absurd (member-none u x)
renamed-write m (w ∷ ws) u x = member-elim u (renamed_write m w) (renamed m ws) (λ e. (w, first, e)) (λ k. let z = renamed-write m ws u k in (z.0, later z.1, z.2)) x

module _ (t : Target) (f : Function) (v : ℕ) (ms : List Mark) (live : Point → Bool) (tests : Tests (RangeLive t f v) live) (low : IsLowered t f) (meet : LabelsAgree t f v ms) (is-range : v < length f.classes) where
  abbrev g : Function
  g = split_by live f v ms

  abbrev count : ℕ
  count = greatest_label ms + 1

  abbrev C : Code
  C = points_of t f

  abbrev D : Code
  D = points_of t g

  abbrev begin : ℕ → ℕ
  begin n = start_label ms n

  abbrev R : Lane → Bool
  R = is_reserved t

  abbrev M : ℕ → Lane → Lane
  M label = lane_home f v count label

  abbrev Faces : ℕ → Code → Code → Type 0
  Faces label p r = Facing t f v count C D begin label p r

  suit : Suits t f
  suit = suits t f low

  split : Split t f v ms g
  split = (live, tests, refl)

  low-split : IsLowered t g
  low-split = split_keeps_lowered t f g v ms low meet split

  starts : (n : ℕ) → Faces (begin n) (found n C) (found n D) ⊎ ((found n C ≡ []) × (found n D ≡ []))
  starts n = all-starts t f v ms live tests suit meet n

  fits : (n : ℕ) → begin n < count
  fits n = start-fits ms n

  -- homes

  other-home : (l : Lane) → IsOther f v l → (label : ℕ) → M label l ≡ l
  other-home (VirtualLane w k) o label = ap (λ x. VirtualLane x k) (home-named f v count label w (ne_eqb v w (λ e. o.1 (sym e))) o.0)
  other-home (UnitLane u) o label = refl
  other-home (SlotLane s k w) o label = refl

  not-home : (label : ℕ) (a : Lane) (k : ℕ) → M label a ≡ VirtualLane v k → ⊥
  not-home label (UnitLane u) k e = cc
  not-home label (SlotLane s j x) k e = cc
  not-home label (VirtualLane w j) k e = go (nat_eq v w) refl (nat_lt w (length f.classes)) refl (register-same (home_of f v count label w) v j k e)
    where
      go : (a : Bool) → nat_eq v w ≡ a → (b : Bool) → nat_lt w (length f.classes) ≡ b → cond a (part f label) (cond b w (w + count)) ≡ v → ⊥
      go true x b y z = omega (arith, z, is-range)
      go false x true y z = eqb-false v w x (sym z)
      go false x false y z = let l = ltb-false w (length f.classes) y in omega (arith, z, is-range, l)

  own-home : (label k : ℕ) → M label (VirtualLane v k) ≡ VirtualLane (part f label) k
  own-home label k = ap (λ x. VirtualLane x k) (home-own f v count label)

  -- what is live at a place that faces one of the function

  face-other : {label : ℕ} {p r : Code} → label < count → Faces label p r → (l : Lane) → IsOther f v l → Live R D r l → Live R C p l
  face-other h F l o x = (facing-same t f v count C D begin starts h F l (other-home l o)).1 x

  face-part : {label : ℕ} {p r : Code} → Faces label p r → (n k : ℕ) → n < count → Live R D r (VirtualLane (part f n) k) → Live R C p (VirtualLane v k) × (n ≡ label)
  face-part {label} {p} {r} F n k h x =
      let z = back t f v count C D begin starts x label p F in
      let y = own-back t f v count C D begin starts fits label n z.0 k h z.1 in
      (subst (Live R C p) y.0 z.2, y.1)

  face-gone : {label : ℕ} {p r : Code} → Faces label p r → (k : ℕ) → Live R D r (VirtualLane v k) → ⊥
  face-gone {label} {p} {r} F k x = let z = back t f v count C D begin starts x label p F in not-home label z.0 k z.1

  -- what is live or occupied at a point of the split function was so at a point of the function
  record WasAt (p : Point) : Type 0 where
    pub q : Point
    pub label : ℕ
    pub others : (l : Lane) → IsOther f v l → OccupiedAt t g p l → OccupiedAt t f q l
    pub parts : (n k : ℕ) → n < count → OccupiedAt t g p (VirtualLane (part f n) k) → RangePoint t f v q × (n ≡ label)
    pub gone : (k : ℕ) → OccupiedAt t g p (VirtualLane v k) → ⊥

  start-was : (n : ℕ) → WasAt (Start n)
  start-was n = go (starts n)
    where
      go : Faces (begin n) (found n C) (found n D) ⊎ ((found n C ≡ []) × (found n D ≡ [])) → WasAt (Start n)
      go (inl F) = record {
        q = Start n;
        label = begin n;
        others = λ l o x. face-other (fits n) F l o x;
        parts = λ m k h x. let z = face-part F m k h x in ((k, z.0), z.1);
        gone = λ k x. face-gone F k x;
      }
      go (inr z) = record { q = Start n; label = 0; others = λ l o x. absurd (live-none x z.1); parts = λ m k h x. absurd (live-none x z.1); gone = λ k x. live-none x z.1 }

  -- an instruction that the function had
  module _ (id to : ℕ) (i : Item) (p r : Code) (h : to < count) (below : id < f.next_id) (code : from_instr t f id f.blocks ≡ i ∷ p) (leads : Leads t f v count C D begin to i) (on : in_order i ≡ true → Faces to p r) where
    abbrev one : Item
    one = renamed_item (M to) i

    own : Faces to (i ∷ p) (one ∷ r)
    own = faces h (inl (refl, λ a k. refl)) leads on

    part-write : (u : Write) (n k : ℕ) → n < count → Member u (writes_of one) → u.lane ≡ VirtualLane (part f n) k → ((w : Write) × Member w (writes_of i) × (w.lane ≡ VirtualLane v k) × (w.early ≡ u.early)) × (n ≡ to)
    part-write u n k g m e =
        let z = renamed-write (M to) (writes_of i) u (subst (Member u) (writes-of (M to) i) m) in
        let y = own-back t f v count C D begin starts fits to n z.0.lane k g (sym (ap (λ (x : Write). x.lane) z.2) ∙ e) in
        ((z.0, z.1, y.0, sym (ap (λ (x : Write). x.early) z.2)), y.1)

    gone-write : (u : Write) (k : ℕ) → Member u (writes_of one) → u.lane ≡ VirtualLane v k → ⊥
    gone-write u k m e =
        let z = renamed-write (M to) (writes_of i) u (subst (Member u) (writes-of (M to) i) m) in
        not-home to z.0.lane k (sym (ap (λ (x : Write). x.lane) z.2) ∙ e)

    -- at its entry

    part-before : (n k : ℕ) → n < count → OccupiedBefore R D one r (VirtualLane (part f n) k) → OccupiedBefore R C i p (VirtualLane v k) × (n ≡ to)
    part-before n k g (inl x, free) = let z = face-part own n k g x in ((inl z.0, refl), z.1)
    part-before n k g (inr w, free) = let z = part-write w.0 n k g w.1 w.2 in ((inr (z.0.0, z.0.1, z.0.2, z.0.3 ∙ w.3), refl), z.1)

    gone-before : (k : ℕ) → OccupiedBefore R D one r (VirtualLane v k) → ⊥
    gone-before k (inl x, free) = face-gone own k x
    gone-before k (inr w, free) = gone-write w.0 k w.1 w.2

    -- and at its exit

    part-live : (n k : ℕ) → n < count → LiveAfter R D one r (VirtualLane (part f n) k) → LiveAfter R C i p (VirtualLane v k) × (n ≡ to)
    part-live n k g (after_next o x) =
        let o' : in_order i ≡ true = sym (order-of (M to) i) ∙ o in
        let z = face-part (on o') n k g x in
        (after_next o' z.0, z.1)
    part-live n k g (after_leap {e = e} {a = a} m x y) =
        let out : Member e (exits_of i) = subst (Member e) (exits-of (M to) i) m in
        let none : e.phis ≡ [] = bare-edge (exits_of i) e leads.0 out in
        let same : a ≡ VirtualLane (part f n) k = lane-inj a (VirtualLane (part f n) k) (sym (ap (λ ws. filled ws a) none) ∙ y) in
        let z = landed e.block (subst (Live R D (found e.block D)) same x) (starts e.block) in
        let two : part f to ≡ part f (begin e.block) = register-same (part f to) (part f (begin e.block)) k k (sym (own-home to k) ∙ (source-same (M to (VirtualLane v k)) (M (begin e.block) (VirtualLane v k)) (leads.1 e out (VirtualLane v k) (inl z.0)) ∙ own-home (begin e.block) k)) in
        (after_leap out z.0 (ap (λ ws. filled ws (VirtualLane v k)) none), (let l = z.1 in omega (arith, l, two)))
      where
        landed : (b : ℕ) → Live R D (found b D) (VirtualLane (part f n) k) → Faces (begin b) (found b C) (found b D) ⊎ ((found b C ≡ []) × (found b D ≡ [])) → Live R C (found b C) (VirtualLane v k) × (n ≡ begin b)
        landed b x (inl F) = face-part F n k g x
        landed b x (inr z) = absurd (live-none x z.1)
    part-live n k g (after_phi {e = e} {w = w} m x y) = absurd (member-none w (subst (Member w) (bare-edge (exits_of i) e leads.0 (subst (Member e) (exits-of (M to) i) m)) x))

    gone-live : (k : ℕ) → LiveAfter R D one r (VirtualLane v k) → ⊥
    gone-live k (after_next o x) = face-gone (on (sym (order-of (M to) i) ∙ o)) k x
    gone-live k (after_leap {e = e} {a = a} m x y) =
        let none : e.phis ≡ [] = bare-edge (exits_of i) e leads.0 (subst (Member e) (exits-of (M to) i) m) in
        let same : a ≡ VirtualLane v k = lane-inj a (VirtualLane v k) (sym (ap (λ ws. filled ws a) none) ∙ y) in
        landed e.block (subst (Live R D (found e.block D)) same x) (starts e.block)
      where
        landed : (b : ℕ) → Live R D (found b D) (VirtualLane v k) → Faces (begin b) (found b C) (found b D) ⊎ ((found b C ≡ []) × (found b D ≡ [])) → ⊥
        landed b x (inl F) = face-gone F k x
        landed b x (inr z) = live-none x z.1
    gone-live k (after_phi {e = e} {w = w} m x y) = member-none w (subst (Member w) (bare-edge (exits_of i) e leads.0 (subst (Member e) (exits-of (M to) i) m)) x)

    part-after : (n k : ℕ) → n < count → OccupiedAfter R D one r (VirtualLane (part f n) k) → OccupiedAfter R C i p (VirtualLane v k) × (n ≡ to)
    part-after n k g (inl x, free) = let z = part-live n k g x in ((inl z.0, refl), z.1)
    part-after n k g (inr w, free) = let z = part-write w.0 n k g w.1 w.2 in ((inr (z.0.0, z.0.1, z.0.2), refl), z.1)

    gone-after : (k : ℕ) → OccupiedAfter R D one r (VirtualLane v k) → ⊥
    gone-after k (inl x, free) = gone-live k x
    gone-after k (inr w, free) = gone-write w.0 k w.1 w.2

    module _ (code' : from_instr t g id g.blocks ≡ one ∷ r) where
      old-entry : WasAt (Entry id)
      old-entry = record {
        q = Entry id;
        label = to;
        others = λ l o x. (others_stay t f g v ms low meet split (Entry id) below l o).occupied.1 x;
        parts = λ n k g x.
            let z = part-before n k g (subst (AtFirst (λ j q. OccupiedBefore R D j q (VirtualLane (part f n) k))) code' x) in
            ((k, subst (AtFirst (λ j q. OccupiedBefore R C j q (VirtualLane v k))) (sym code) z.0), z.1);
        gone = λ k x. gone-before k (subst (AtFirst (λ j q. OccupiedBefore R D j q (VirtualLane v k))) code' x);
      }

      old-exit : WasAt (Exit id)
      old-exit = record {
        q = Exit id;
        label = to;
        others = λ l o x. (others_stay t f g v ms low meet split (Exit id) below l o).occupied.1 x;
        parts = λ n k g x.
            let z = part-after n k g (subst (AtFirst (λ j q. OccupiedAfter R D j q (VirtualLane (part f n) k))) code' x) in
            ((k, subst (AtFirst (λ j q. OccupiedAfter R C j q (VirtualLane v k))) (sym code) z.0), z.1);
        gone = λ k x. gone-after k (subst (AtFirst (λ j q. OccupiedAfter R D j q (VirtualLane v k))) code' x);
      }

  -- a copy
  module _ (id from to : ℕ) (p r : Code) (q : Point) (hf : from < count) (ht : to < count) (F : Faces from p (copy_item t f v count C D begin from to ∷ r)) (G : Faces to p r) (told : (l : Lane) → Live R C p l → OccupiedAt t f q l) (range : RangePoint t f v q) where
    abbrev copied : Item
    copied = copy_item t f v count C D begin from to

    not-early : (w : Write) → Member w (writes_of copied) → w.early ≡ true → ⊥
    not-early w m e = let z : true ≡ false = sym e ∙ (copy-writes (part f to) (part f from) (numbers 0 (length (range_widths t f v))) w m).1 in cc

    written-part : (w : Write) → Member w (writes_of copied) → (k : ℕ) × (w.lane ≡ VirtualLane (part f to) k)
    written-part w m = (copy-writes (part f to) (part f from) (numbers 0 (length (range_widths t f v))) w m).0

    not-other : (l : Lane) → IsOther f v l → (k : ℕ) → l ≡ VirtualLane (part f to) k → ⊥
    not-other (VirtualLane w j) o k e = let s = register-same w (part f to) j k e in let b = o.0 in omega (arith, s, b)
    not-other (UnitLane u) o k e = cc
    not-other (SlotLane s j w) o k e = cc

    behind-copy : (l : Lane) → LiveAfter R D copied r l → Live R D r l
    behind-copy l (after_next o x) = x
    behind-copy l (after_leap {e = e} m x y) = absurd (member-none e m)
    behind-copy l (after_phi {e = e} m x y) = absurd (member-none e m)

    module _ (code' : from_instr t g id g.blocks ≡ copied ∷ r) where
      new-entry : WasAt (Entry id)
      new-entry = record {
        q = q;
        label = from;
        others = λ l o x. other l o (subst (AtFirst (λ j q. OccupiedBefore R D j q l)) code' x);
        parts = λ n k g x. parted n k g (subst (AtFirst (λ j q. OccupiedBefore R D j q (VirtualLane (part f n) k))) code' x);
        gone = λ k x. gone-by k (subst (AtFirst (λ j q. OccupiedBefore R D j q (VirtualLane v k))) code' x);
      }
        where
          other : (l : Lane) → IsOther f v l → OccupiedBefore R D copied r l → OccupiedAt t f q l
          other l o (inl x, free) = told l (face-other hf F l o x)
          other l o (inr w, free) = absurd (not-early w.0 w.1 w.3)

          parted : (n k : ℕ) → n < count → OccupiedBefore R D copied r (VirtualLane (part f n) k) → RangePoint t f v q × (n ≡ from)
          parted n k g (inl x, free) = (range, (face-part F n k g x).1)
          parted n k g (inr w, free) = absurd (not-early w.0 w.1 w.3)

          gone-by : (k : ℕ) → OccupiedBefore R D copied r (VirtualLane v k) → ⊥
          gone-by k (inl x, free) = face-gone F k x
          gone-by k (inr w, free) = not-early w.0 w.1 w.3

      new-exit : WasAt (Exit id)
      new-exit = record {
        q = q;
        label = to;
        others = λ l o x. other l o (subst (AtFirst (λ j q. OccupiedAfter R D j q l)) code' x);
        parts = λ n k g x. parted n k g (subst (AtFirst (λ j q. OccupiedAfter R D j q (VirtualLane (part f n) k))) code' x);
        gone = λ k x. gone-by k (subst (AtFirst (λ j q. OccupiedAfter R D j q (VirtualLane v k))) code' x);
      }
        where
          other : (l : Lane) → IsOther f v l → OccupiedAfter R D copied r l → OccupiedAt t f q l
          other l o (inl x, free) = told l (face-other ht G l o (behind-copy l x))
          other l o (inr w, free) = let z = written-part w.0 w.1 in absurd (not-other l o z.0 (sym w.2 ∙ z.1))

          parted : (n k : ℕ) → n < count → OccupiedAfter R D copied r (VirtualLane (part f n) k) → RangePoint t f v q × (n ≡ to)
          parted n k g (inl x, free) = (range, (face-part G n k g (behind-copy (VirtualLane (part f n) k) x)).1)
          parted n k g (inr w, free) =
              let z = written-part w.0 w.1 in
              let s = register-same (part f n) (part f to) k z.0 (sym w.2 ∙ z.1) in
              (range, omega (arith, s))

          gone-by : (k : ℕ) → OccupiedAfter R D copied r (VirtualLane v k) → ⊥
          gone-by k (inl x, free) = face-gone G k (behind-copy (VirtualLane v k) x)
          gone-by k (inr w, free) =
              let z = written-part w.0 w.1 in
              let s = register-same v (part f to) k z.0 (sym w.2 ∙ z.1) in
              omega (arith, s, is-range)

  -- each place

  spot-was : (id : ℕ) (j : Item) (r : Code) → from_instr t g id g.blocks ≡ j ∷ r → Spot t f v count C D begin id j r → WasAt (Entry id) × WasAt (Exit id)
  spot-was id j r code (old to i p h below at item leads on) =
      let code' : from_instr t g id g.blocks ≡ renamed_item (M to) i ∷ r = code ∙ ap (λ y. y ∷ r) item in
      (old-entry id to i p r h below at leads on code', old-exit id to i p r h below at leads on code')
  spot-was id j r code (new from to p q hf ht item F G told range) =
      let code' : from_instr t g id g.blocks ≡ copy_item t f v count C D begin from to ∷ r = code ∙ ap (λ y. y ∷ r) item in
      let F' : Faces from p (copy_item t f v count C D begin from to ∷ r) = subst (λ y. Faces from p (y ∷ r)) item F in
      (new-entry id from to p r q hf ht F' G told range code', new-exit id from to p r q hf ht F' G told range code')

  instr-was : (id : ℕ) → WasAt (Entry id) × WasAt (Exit id)
  instr-was id = go (place-of t g id g.blocks)
    where
      go : (from_instr t g id g.blocks ≡ []) ⊎ Place id g.blocks → WasAt (Entry id) × WasAt (Exit id)
      go (inl e) = (
        record {
          q = Start 0;
          label = 0;
          others = λ l o x. absurd (subst (AtFirst (λ j q. OccupiedBefore R D j q l)) e x);
          parts = λ n k g x. absurd (subst (AtFirst (λ j q. OccupiedBefore R D j q (VirtualLane (part f n) k))) e x);
          gone = λ k x. subst (AtFirst (λ j q. OccupiedBefore R D j q (VirtualLane v k))) e x;
        },
        record {
          q = Start 0;
          label = 0;
          others = λ l o x. absurd (subst (AtFirst (λ j q. OccupiedAfter R D j q l)) e x);
          parts = λ n k g x. absurd (subst (AtFirst (λ j q. OccupiedAfter R D j q (VirtualLane (part f n) k))) e x);
          gone = λ k x. subst (AtFirst (λ j q. OccupiedAfter R D j q (VirtualLane v k))) e x;
        },
      )
      go (inr z) =
          subst (λ n. WasAt (Entry n) × WasAt (Exit n)) z.inside.named
          (spot-was z.inside.instr.id (point_item t g z.block z.inside.instr) (code-behind t g z.block z.after z.inside.back)
          (code-here t g low-split.function z.pre z.block z.after z.blocks z.inside.front z.inside.instr z.inside.back z.inside.whole)
          (all-spots t f v ms live tests suit meet z.pre z.block z.after z.blocks z.inside.front z.inside.instr z.inside.back z.inside.whole))

  was-at : (p : Point) → WasAt p
  was-at (Start n) = start-was n
  was-at (Entry id) = (instr-was id).0
  was-at (Exit id) = (instr-was id).1

pub split-shares-points : SplitSharesPoints
split-shares-points t f g v ms low h meet s p =
    let z = was-at t f v ms s.0 s.1 low meet h p in
    subst (λ q. SplitPoint t f q v ms p) (sym s.2) (record {
      at = z.q;
      label = z.label;
      others = z.others;
      shared = λ n k x. z.parts n x.0 k x.1;
      gone = λ x. z.gone x.0 x.1;
    })
