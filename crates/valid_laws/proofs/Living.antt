-- What is live in a code that is folded by a map of lanes without clashes: the images of what was live.
use Rattle.std.proofs.Common.{◌≡◌, ◌⊎◌, ℕ, Bool, true, false, cond, List, [], ◌∷◌, map, inl, inr, refl, sym, ap, ◌∙◌, subst}
use Rattle.std.specs.Prelude.{nat_eq}
use Rattle.target_base.proofs.Tests.{first_of_both, second_of_both}
use Rattle.meaning.specs.declared.types.Lane.{Lane}
use Rattle.meaning.specs.declared.types.Lane.TheVariants.{VirtualLane, UnitLane, SlotLane}
use Rattle.meaning.specs.declared.types.Source.{Source}
use Rattle.meaning.specs.declared.types.Source.TheVariants.{FromLane, Undef, Bits}
use Rattle.meaning.specs.declared.types.Fill.{Fill}
use Rattle.meaning.specs.declared.types.Fill.TheVariants.{Moved, Computed}
use Rattle.meaning.specs.declared.types.Write.{Write}
use Rattle.meaning.specs.Lanes.{Writes, Reads, filled, same_lane}
use Rattle.meaning.specs.Code.{Edge, Item, BlockStart, BlockEnd, Silent, Counted, Code, found}
use Rattle.meaning.specs.Fold.{Folded, QuietAt, copies, vanishes}
use Rattle.meaning.specs.Fold as fold
use Rattle.meaning.specs.Layout.{NoPhisAlong}
use Rattle.meaning.specs.Live.{Among as Member, here as first, there as later, reads_of, writes_of, exits_of, in_order, Feeds, is_slot, Live, read, next, leap, phi, store, kept, LiveAfter, after_next, after_leap}
use Rattle.meaning.specs.Matched.{image, image_fill, renamed, renamed_write, renamed_reads}
use Rattle.laws.proofs.Flow.{lane-inj}
use Rattle.laws.proofs.Quiet.{filled-here, filled-past, same-false, same-true, same_or_not, step_quiet}
use Rattle.mir_meaning.specs.Renaming.{renamed_item}
use Rattle.instr_effects.proofs.Members.{member-none, member-elim, map-in, map-of}

head-same : {X : Type 0} (x y : X) (xs ys : List X) → ◌≡◌ {A = List X} (x ∷ xs) (y ∷ ys) → x ≡ y
head-same x y xs ys e = cc

tail-same : {X : Type 0} (x y : X) (xs ys : List X) → ◌≡◌ {A = List X} (x ∷ xs) (y ∷ ys) → xs ≡ ys
tail-same x y xs ys e = cc

bare-among : (es : List Edge) (e : Edge) → NoPhisAlong es → Member e es → e.phis ≡ []
bare-among [] e z m = absurd (member-none e m)
bare-among (d ∷ es) e z m = member-elim e d es (λ g. ap (λ (x : Edge). x.phis) g ∙ z.0) (λ k. bare-among es e z.1 k) m

-- a silent item reads nothing but what it moves
abbrev pub MovesOnly : Item → Type 0
MovesOnly (BlockStart n) = Unit {0}
MovesOnly (BlockEnd falls exits) = Unit {0}
MovesOnly (Silent reads ws) = reads ≡ []
MovesOnly (Counted r reads ws target exits) = Unit {0}

-- at each item the map is quiet, and ways out have no phis
abbrev pub Clean : (Lane → Bool) → (Lane → Lane) → Code → Code → Type 0
Clean R m code [] = Unit {0}
Clean R m code (i ∷ p) = QuietAt R code m i p × NoPhisAlong (exits_of i) × MovesOnly i × Clean R m code p

-- what is asked of the map beside that
pub record Fixes (R : Lane → Bool) (m : Lane → Lane) : Type 0 where
  pub fixes : (l : Lane) → R l ≡ true → m l ≡ l
  pub only : (l : Lane) → R (m l) ≡ true → m l ≡ l
  pub slots : (s k w : ℕ) → m (SlotLane s k w) ≡ SlotLane s k w
  pub slot_only : (l : Lane) (s k w : ℕ) → m l ≡ SlotLane s k w → l ≡ SlotLane s k w

module _ (R : Lane → Bool) (m : Lane → Lane) (is : Fixes R m) where
  -- items with other lanes

  reads-of : (i : Item) → reads_of (renamed_item m i) ≡ renamed_reads m (reads_of i)
  reads-of (BlockStart n) = refl
  reads-of (BlockEnd falls exits) = refl
  reads-of (Silent reads ws) = refl
  reads-of (Counted r reads ws target exits) = refl

  writes-of : (i : Item) → writes_of (renamed_item m i) ≡ renamed m (writes_of i)
  writes-of (BlockStart n) = refl
  writes-of (BlockEnd falls exits) = refl
  writes-of (Silent reads ws) = refl
  writes-of (Counted r reads ws target exits) = refl

  exits-of : (i : Item) → exits_of (renamed_item m i) ≡ exits_of i
  exits-of (BlockStart n) = refl
  exits-of (BlockEnd falls exits) = refl
  exits-of (Silent reads ws) = refl
  exits-of (Counted r reads ws target exits) = refl

  order-of : (i : Item) → in_order (renamed_item m i) ≡ in_order i
  order-of (BlockStart n) = refl
  order-of (BlockEnd falls exits) = refl
  order-of (Silent reads ws) = refl
  order-of (Counted r reads ws target exits) = refl

  -- lanes and their images

  bool-false : (b : Bool) → (b ≡ true → ⊥) → b ≡ false
  bool-false true h = absurd (h refl)
  bool-false false h = refl

  free : (l : Lane) → R l ≡ false → R (m l) ≡ false
  free l r = bool-false (R (m l)) (λ e. let z : true ≡ false = sym e ∙ (ap R (is.only l e) ∙ r) in cc)

  free-back : (l b : Lane) → m l ≡ b → R b ≡ false → R l ≡ false
  free-back l b e r = bool-false (R l) (λ h. let z : true ≡ false = sym h ∙ (ap R (sym (is.fixes l h) ∙ e) ∙ r) in cc)

  slot-not : (a : Lane) → is_slot a ≡ true → is_slot (m a) ≡ true
  slot-not (SlotLane s k w) h = ap is_slot (is.slots s k w)
  slot-not (UnitLane u) h = absurd (cc)
  slot-not (VirtualLane v k) h = absurd (cc)

  unslotted : (l b : Lane) → m l ≡ b → is_slot b ≡ false → is_slot l ≡ false
  unslotted l b e n = bool-false (is_slot l) (λ h. let z : true ≡ false = sym (slot-not l h) ∙ (ap is_slot e ∙ n) in cc)

  slot-free : (l : Lane) → is_slot l ≡ false → is_slot (m l) ≡ false
  slot-free l n = go (m l) refl
    where
      go : (b : Lane) → m l ≡ b → is_slot b ≡ false
      go (SlotLane s k w) e = absurd (let z : is_slot l ≡ true = ap is_slot (is.slot_only l s k w e) in cc)
      go (UnitLane u) e = refl
      go (VirtualLane v k) e = refl

  lane-back : (s : Source) (b : Lane) → FromLane b ≡ image m s → (a : Lane) × (s ≡ FromLane a) × (m a ≡ b)
  lane-back (FromLane a) b e = (a, refl, lane-of a e)
    where
      lane-of : (a : Lane) → FromLane b ≡ FromLane (m a) → m a ≡ b
      lane-of a g = cc
  lane-back Undef b e = absurd (cc)
  lane-back (Bits c low w) b e = absurd (cc)

  moved-same : (s : Source) (b : Lane) → Moved s ≡ Moved (FromLane b) → FromLane b ≡ s
  moved-same s b e = cc

  fill-back : (f : Fill) (b : Lane) → image_fill m f ≡ Moved (FromLane b) → (a : Lane) × (f ≡ Moved (FromLane a)) × (m a ≡ b)
  fill-back (Moved s) b e = let z = lane-back s b (moved-same (image m s) b e) in (z.0, ap Moved z.1, z.2)
  fill-back (Computed n) b e = absurd (cc)

  -- what is read

  reads-in : (ss : List Source) (reads : Reads) → Member ss reads → Member (map (image m) ss) (renamed_reads m reads)
  reads-in ss [] x = absurd (member-none ss x)
  reads-in ss (rs ∷ reads) x = member-elim ss rs reads (λ e. subst (λ qs. Member (map (image m) ss) (map (image m) qs ∷ renamed_reads m reads)) e first) (λ k. later (reads-in ss reads k)) x

  reads-back : (qs : List Source) (reads : Reads) → Member qs (renamed_reads m reads) → (ss : List Source) × Member ss reads × (qs ≡ map (image m) ss)
  reads-back qs [] x = absurd (member-none qs x)
  reads-back qs (rs ∷ reads) x = member-elim qs (map (image m) rs) (renamed_reads m reads) (λ e. (rs, first, e)) (λ k. let z = reads-back qs reads k in (z.0, later z.1, z.2)) x

  -- what is written

  abbrev Renames : Item → Lane → Type 0
  Renames i a = image_fill m (filled (writes_of i) a) ≡ filled (renamed m (writes_of i)) (m a)

  alone-step : (a : Lane) (w : Write) (ws : Writes) → (m w.lane ≡ m a → w.lane ≡ a) → image_fill m (filled ws a) ≡ filled (renamed m ws) (m a) → (w.lane ≡ a) ⊎ (same_lane w.lane a ≡ false) → (m w.lane ≡ m a) ⊎ (same_lane (m w.lane) (m a) ≡ false) → image_fill m (filled (w ∷ ws) a) ≡ filled (renamed m (w ∷ ws)) (m a)
  alone-step a w ws k ih (inl e) o = ap (image_fill m) (filled-here a w ws e) ∙ sym (filled-here (m a) (renamed_write m w) (renamed m ws) (ap m e))
  alone-step a w ws k ih (inr e) (inl g) = absurd (same-false w.lane a e (k g))
  alone-step a w ws k ih (inr e) (inr g) = ap (image_fill m) (filled-past a w ws e) ∙ ih ∙ sym (filled-past (m a) (renamed_write m w) (renamed m ws) g)

  alone : (a : Lane) (ws : Writes) → ((w : Write) → Member w ws → m w.lane ≡ m a → w.lane ≡ a) → image_fill m (filled ws a) ≡ filled (renamed m ws) (m a)
  alone a [] k = refl
  alone a (w ∷ ws) k = alone-step a w ws (k w first) (alone a ws (λ v x. k v (later x))) (same_or_not w.lane a) (same_or_not (m w.lane) (m a))

  slot-fill : (i : Item) (s k w : ℕ) → Renames i (SlotLane s k w)
  slot-fill i s k w = alone (SlotLane s k w) (writes_of i) (λ v n e. is.slot_only v.lane s k w (e ∙ is.slots s k w))

  -- an item that vanishes moves lanes to lanes with the same image

  copied-from : (d : Lane) (f : Fill) → copies m d f ≡ true → (b : Lane) × (f ≡ Moved (FromLane b)) × (m b ≡ m d)
  copied-from d (Moved (FromLane l)) c = (l, refl, same-true (m l) (m d) c)
  copied-from d (Moved Undef) c = absurd (cc)
  copied-from d (Moved (Bits k low width)) c = absurd (cc)
  copied-from d (Computed i) c = absurd (cc)

  vanish-fill : (ws : Writes) → vanishes m ws ≡ true → (a : Lane) → (b : Lane) × (filled ws a ≡ Moved (FromLane b)) × (m b ≡ m a)
  vanish-fill [] e a = (a, refl, refl)
  vanish-fill (w ∷ ws) e a = go (same_or_not w.lane a) (vanish-fill ws (second_of_both (copies m w.lane w.fill) (vanishes m ws) e) a)
    where
      go : (w.lane ≡ a) ⊎ (same_lane w.lane a ≡ false) → ((b : Lane) × (filled ws a ≡ Moved (FromLane b)) × (m b ≡ m a)) → (b : Lane) × (filled (w ∷ ws) a ≡ Moved (FromLane b)) × (m b ≡ m a)
      go (inl h) ih = let z = copied-from w.lane w.fill (first_of_both (copies m w.lane w.fill) (vanishes m ws) e) in (z.0, filled-here a w ws h ∙ z.1, z.2 ∙ ap m h)
      go (inr h) ih = (ih.0, filled-past a w ws h ∙ ih.1, ih.2)

  fed-same : (ws : Writes) → vanishes m ws ≡ true → (l a : Lane) → filled ws a ≡ Moved (FromLane l) → m l ≡ m a
  fed-same ws e l a f = let z = vanish-fill ws e a in ap m (lane-inj l z.0 (sym f ∙ z.1)) ∙ z.2

  -- the item fills lane a with what fills its image in the item with other lanes
  fed : (j i : Item) (a c b : Lane) → j ≡ renamed_item m i → Renames i a → m a ≡ c → Feeds j b c → (l : Lane) × Feeds i l a × (m l ≡ b)
  fed j i a c b same whole at f =
      fill-back (filled (writes_of i) a) b
      (whole ∙ ap (λ ws. filled ws (m a)) (sym (writes-of i)) ∙ ap (λ x. filled (writes_of x) (m a)) (sym same) ∙ ap (filled (writes_of j)) at ∙ f)

  feeds-to : (i : Item) (a l : Lane) → Renames i a → Feeds i l a → Feeds (renamed_item m i) (m l) (m a)
  feeds-to i a l whole f = ap (λ ws. filled ws (m a)) (writes-of i) ∙ sym whole ∙ ap (image_fill m) f

  -- the first item of a folded code

  pub record Goes (i : Item) (p q : Code) : Type 0 where
    pub reads : Reads
    pub writes : Writes
    pub item : i ≡ Silent reads writes
    pub vanish : vanishes m writes ≡ true
    pub rest : Folded m p q

  pub record Stays (i : Item) (p q : Code) : Type 0 where
    pub rest : Code
    pub code : q ≡ renamed_item m i ∷ rest
    pub folded : Folded m p rest

  stays-as : (j i : Item) (p' p q q' : Code) → ◌≡◌ {A = Code} (j ∷ p') (i ∷ p) → q' ≡ renamed_item m j ∷ q → Folded m p' q → Stays i p q'
  stays-as j i p' p q q' e c g = record { rest = q; code = c ∙ ap (λ x. renamed_item m x ∷ q) (head-same j i p' p e); folded = subst (λ c. Folded m c q) (tail-same j i p' p e) g }

  first-item : {c q : Code} → Folded m c q → (i : Item) (p : Code) → c ≡ i ∷ p → Goes i p q ⊎ Stays i p q
  first-item fold.done i p e = absurd (cc)
  first-item (fold.start {n = n} {p = p'} {q = q} g) i p e = inr (stays-as (BlockStart n) i p' p q (BlockStart n ∷ q) e refl g)
  first-item (fold.end {falls = falls} {exits = exits} {p = p'} {q = q} g) i p e = inr (stays-as (BlockEnd falls exits) i p' p q (BlockEnd falls exits ∷ q) e refl g)
  first-item (fold.deleted {reads = reads} {ws = ws} {p = p'} {q = q} v g) i p e =
      inl (record { reads = reads; writes = ws; item = sym (head-same (Silent reads ws) i p' p e); vanish = v; rest = subst (λ c. Folded m c q) (tail-same (Silent reads ws) i p' p e) g })
  first-item (fold.silent {reads = reads} {ws = ws} {p = p'} {q = q} g) i p e = inr (stays-as (Silent reads ws) i p' p q (renamed_item m (Silent reads ws) ∷ q) e refl g)
  first-item (fold.counted {r = r} {reads = reads} {ws = ws} {target = target} {exits = exits} {p = p'} {q = q} g) i p e =
      inr (stays-as (Counted r reads ws target exits) i p' p q (renamed_item m (Counted r reads ws target exits) ∷ q) e refl g)

  -- blocks are found where they were

  found-folded : (n : ℕ) {p q : Code} → Folded m p q → Folded m (found n p) (found n q)
  found-folded n fold.done = fold.done
  found-folded n (fold.start {n = k} {p = p} {q = q} g) = go (nat_eq k n) (found-folded n g)
    where
      go : (b : Bool) → Folded m (found n p) (found n q) → Folded m (cond b p (found n p)) (cond b q (found n q))
      go true h = g
      go false h = h
  found-folded n (fold.end g) = found-folded n g
  found-folded n (fold.deleted v g) = found-folded n g
  found-folded n (fold.silent g) = found-folded n g
  found-folded n (fold.counted g) = found-folded n g

  module _ (code to : Code) (folded : Folded m code to) (clean : Clean R m code code) where
    found-clean : (n : ℕ) (p : Code) → Clean R m code p → Clean R m code (found n p)
    found-clean n [] c = c
    found-clean n (BlockStart k ∷ p) c = go (nat_eq k n) (found-clean n p c.3)
      where
        go : (b : Bool) → Clean R m code (found n p) → Clean R m code (cond b p (found n p))
        go true y = c.3
        go false y = y
    found-clean n (BlockEnd falls exits ∷ p) c = found-clean n p c.3
    found-clean n (Silent reads ws ∷ p) c = found-clean n p c.3
    found-clean n (Counted r reads ws target exits ∷ p) c = found-clean n p c.3

    -- a lane that is live behind an item, or reserved
    fill-after : (i : Item) (p : Code) → Clean R m code (i ∷ p) → (a : Lane) → LiveAfter R code i p a → Renames i a
    fill-after i p c a live = step_quiet R m code is.only is.fixes i p a c.0 (inl live)

    fill-reserved : (i : Item) (p : Code) → Clean R m code (i ∷ p) → (a : Lane) → R a ≡ true → Renames i a
    fill-reserved i p c a r = step_quiet R m code is.only is.fixes i p a c.0 (inr r)

    writes-gone : (i : Item) (p q : Code) (z : Goes i p q) (l a : Lane) → Feeds i l a → m l ≡ m a
    writes-gone i p q z l a f = fed-same z.writes z.vanish l a (ap (λ x. filled (writes_of x) a) (sym z.item) ∙ f)

    -- the image of a live lane is live

    abbrev Forth : Code → Lane → Type 0
    Forth p l = (q : Code) → Folded m p q → Clean R m code p → Live R to q (m l)

    forth-read : (i : Item) (p : Code) (ss : List Source) (l : Lane) → Member ss (reads_of i) → Member (FromLane l) ss → R l ≡ false → Forth (i ∷ p) l
    forth-read i p ss l x y r q g c = go (first-item g i p refl)
      where
        go : Goes i p q ⊎ Stays i p q → Live R to q (m l)
        go (inl z) = absurd (member-none ss (subst (Member ss) (nothing z.reads z.writes z.item) x))
          where
            nothing : (reads : Reads) (ws : Writes) → i ≡ Silent reads ws → reads_of i ≡ []
            nothing reads ws e = ap reads_of e ∙ subst MovesOnly e c.2
        go (inr z) =
            subst (λ k. Live R to k (m l)) (sym z.code)
            (read (subst (Member (map (image m) ss)) (sym (reads-of i)) (reads-in ss (reads_of i) x)) (map-in (image m) (FromLane l) ss y) (free l r))

    forth : {p : Code} {l : Lane} → Live R code p l → Forth p l
    forth (read {i = i} {p = p} {ss = ss} {l = l} x y r) q g c = forth-read i p ss l x y r q g c
    forth (next {i = i} {p = p} {l = l} {a = a} o live f r) q g c = go (first-item g i p refl) (λ k h. forth live k h c.3)
      where
        go : Goes i p q ⊎ Stays i p q → ((k : Code) → Folded m p k → Live R to k (m a)) → Live R to q (m l)
        go (inl z) ih = subst (Live R to q) (sym (writes-gone i p q z l a f)) (ih q z.rest)
        go (inr z) ih =
            subst (λ k. Live R to k (m l)) (sym z.code)
            (next (order-of i ∙ o) (ih z.rest z.folded) (feeds-to i a l (fill-after i p c a (after_next o live)) f) (free l r))
    forth (leap {i = i} {p = p} {e = e} {l = l} {a = a} {b = b} x live w f r) q g c = go (first-item g i p refl) (forth live (found e.block to) (found-folded e.block folded) (found-clean e.block code clean))
      where
        go : Goes i p q ⊎ Stays i p q → Live R to (found e.block to) (m a) → Live R to q (m l)
        go (inl z) ih = absurd (member-none e (subst (Member e) (ap exits_of z.item) x))
        go (inr z) ih =
            let none : e.phis ≡ [] = bare-among (exits_of i) e c.1 x in
            let same : a ≡ b = lane-inj a b (sym (ap (λ ws. filled ws a) none) ∙ w) in
            subst (λ k. Live R to k (m l)) (sym z.code)
            (leap (subst (Member e) (sym (exits-of i)) x) ih (ap (λ ws. filled ws (m a)) none ∙ ap (λ c. Moved (FromLane (m c))) same) (feeds-to i b l (fill-after i p c b (after_leap x live w)) f) (free l r))
    forth (phi {i = i} {p = p} {e = e} {w = w} x y v f r) q g c = absurd (member-none w (subst (Member w) (bare-among (exits_of i) e c.1 x) y))
    forth (store w {i = i} {p = p} {s = s} {k = k} {x = x} {l = l} o live f n r) q g c = go (first-item g i p refl) (λ d h. forth live d h c.3)
      where
        go : Goes i p q ⊎ Stays i p q → ((d : Code) → Folded m p d → Live R to d (m (SlotLane s k x))) → Live R to q (m l)
        go (inl z) ih =
            let e : m l ≡ SlotLane s k w = writes-gone i p q z l (SlotLane s k w) f ∙ is.slots s k w in
            absurd (let y : is_slot l ≡ true = ap is_slot (is.slot_only l s k w e) in cc)
        go (inr z) ih =
            subst (λ d. Live R to d (m l)) (sym z.code)
            (store w (order-of i ∙ o) (subst (Live R to z.rest) (is.slots s k x) (ih z.rest z.folded)) (subst (Feeds (renamed_item m i) (m l)) (is.slots s k w) (feeds-to i (SlotLane s k w) l (slot-fill i s k w) f)) (slot-free l n) (free l r))
    forth (kept {i = i} {p = p} {l = l} {a = a} s f r) q g c = go (first-item g i p refl)
      where
        go : Goes i p q ⊎ Stays i p q → Live R to q (m l)
        go (inl z) =
            let e : m l ≡ a = writes-gone i p q z l a f ∙ is.fixes a s in
            absurd (let y : true ≡ false = sym (ap R e ∙ s) ∙ free l r in cc)
        go (inr z) =
            subst (λ d. Live R to d (m l)) (sym z.code)
            (kept s (subst (Feeds (renamed_item m i) (m l)) (is.fixes a s) (feeds-to i a l (fill-reserved i p c a s) f)) (free l r))

    -- some lane with that image was live

    abbrev Back : Code → Lane → Type 0
    Back p b = (a : Lane) × (m a ≡ b) × Live R code p a

    -- the item that stands for an item of the folded code, behind items that vanish
    record Stands (p : Code) (j : Item) (q : Code) : Type 0 where
      pub item : Item
      pub rest : Code
      pub is_item : j ≡ renamed_item m item
      pub folded_rest : Folded m rest q
      pub clean_rest : Clean R m code (item ∷ rest)
      pub before : (b : Lane) → R b ≡ false → Back (item ∷ rest) b → Back p b

    at-once : (i j : Item) (p q q' : Code) → ◌≡◌ {A = Code} (renamed_item m i ∷ q') (j ∷ q) → Folded m p q' → Clean R m code (i ∷ p) → Stands (i ∷ p) j q
    at-once i j p q q' e g c = record {
      item = i;
      rest = p;
      is_item = sym (head-same (renamed_item m i) j q' q e);
      folded_rest = subst (Folded m p) (tail-same (renamed_item m i) j q' q e) g;
      clean_rest = c;
      before = λ b r z. z;
    }

    stands-for : {p d : Code} → Folded m p d → Clean R m code p → (j : Item) (q : Code) → d ≡ j ∷ q → Stands p j q
    stands-for fold.done c j q e = absurd (cc)
    stands-for (fold.start {n = n} {p = p} {q = q'} g) c j q e = at-once (BlockStart n) j p q q' e g c
    stands-for (fold.end {falls = falls} {exits = exits} {p = p} {q = q'} g) c j q e = at-once (BlockEnd falls exits) j p q q' e g c
    stands-for (fold.deleted {reads = reads} {ws = ws} {p = p} {q = q'} v g) c j q e =
        let z = stands-for g c.3 j q e in
        record {
          item = z.item;
          rest = z.rest;
          is_item = z.is_item;
          folded_rest = z.folded_rest;
          clean_rest = z.clean_rest;
          before = λ b r y.
              let a = z.before b r y in
              let l = vanish-fill ws v a.0 in
              (l.0, l.2 ∙ a.1, next {l = l.0} refl a.2 l.1 (free-back l.0 b (l.2 ∙ a.1) r));
        }
    stands-for (fold.silent {reads = reads} {ws = ws} {p = p} {q = q'} g) c j q e = at-once (Silent reads ws) j p q q' e g c
    stands-for (fold.counted {r = r} {reads = reads} {ws = ws} {target = target} {exits = exits} {p = p} {q = q'} g) c j q e = at-once (Counted r reads ws target exits) j p q q' e g c

    order-back : (j i : Item) → j ≡ renamed_item m i → in_order j ≡ true → in_order i ≡ true
    order-back j i e o = sym (order-of i) ∙ ap in_order (sym e) ∙ o

    back : {q : Code} {b : Lane} → Live R to q b → (p : Code) → Folded m p q → Clean R m code p → Back p b
    back (read {i = j} {p = q} {ss = ss} {l = b} x y r) p g c =
        let z = stands-for g c j q refl in
        let i = z.item in
        let rs = reads-back ss (reads_of i) (subst (Member ss) (reads-of i) (subst (λ c. Member ss (reads_of c)) z.is_item x)) in
        let l = map-of (image m) (FromLane b) rs.0 (subst (Member (FromLane b)) {y = map (image m) rs.0} rs.2 y) in
        let a = lane-back l.0 b l.2 in
        z.before b r (a.0, a.2, read {l = a.0} rs.1 (subst (λ c. Member c rs.0) a.1 l.1) (free-back a.0 b a.2 r))
    back (next {i = j} {p = q} {l = b} {a = d} o live f r) p g c =
        let z = stands-for g c j q refl in
        let on : in_order z.item ≡ true = order-back j z.item z.is_item o in
        let a = back live z.rest z.folded_rest z.clean_rest.3 in
        let l = fed j z.item a.0 d b z.is_item (fill-after z.item z.rest z.clean_rest a.0 (after_next on a.2)) a.1 f in
        z.before b r (l.0, l.2, next {l = l.0} on a.2 l.1 (free-back l.0 b l.2 r))
    back (leap {i = j} {p = q} {e = way} {l = b} {a = d} {b = h} x live w f r) p g c =
        let z = stands-for g c j q refl in
        let out : Member way (exits_of z.item) = subst (Member way) (ap exits_of z.is_item ∙ exits-of z.item) x in
        let none : way.phis ≡ [] = bare-among (exits_of z.item) way z.clean_rest.1 out in
        let one : d ≡ h = lane-inj d h (sym (ap (λ ws. filled ws d) none) ∙ w) in
        let a = back live (found way.block code) (found-folded way.block folded) (found-clean way.block code clean) in
        let stays : filled way.phis a.0 ≡ Moved (FromLane a.0) = ap (λ ws. filled ws a.0) none in
        let l = fed j z.item a.0 h b z.is_item (fill-after z.item z.rest z.clean_rest a.0 (after_leap out a.2 stays)) (a.1 ∙ one) f in
        z.before b r (l.0, l.2, leap {l = l.0} out a.2 stays l.1 (free-back l.0 b l.2 r))
    back (phi {i = j} {p = q} {e = way} {w = w} x y v f r) p g c =
        let z = stands-for g c j q refl in
        let out : Member way (exits_of z.item) = subst (Member way) (ap exits_of z.is_item ∙ exits-of z.item) x in
        absurd (member-none w (subst (Member w) (bare-among (exits_of z.item) way z.clean_rest.1 out) y))
    back (store w {i = j} {p = q} {s = s} {k = k} {x = x} {l = b} o live f n r) p g c =
        let z = stands-for g c j q refl in
        let on : in_order z.item ≡ true = order-back j z.item z.is_item o in
        let a = back live z.rest z.folded_rest z.clean_rest.3 in
        let lives : Live R code z.rest (SlotLane s k x) = subst (Live R code z.rest) (is.slot_only a.0 s k x a.1) a.2 in
        let l = fed j z.item (SlotLane s k w) (SlotLane s k w) b z.is_item (slot-fill z.item s k w) (is.slots s k w) f in
        z.before b r (l.0, l.2, store w {l = l.0} on lives l.1 (unslotted l.0 b l.2 n) (free-back l.0 b l.2 r))
    back (kept {i = j} {p = q} {l = b} {a = d} v f r) p g c =
        let z = stands-for g c j q refl in
        let l = fed j z.item d d b z.is_item (fill-reserved z.item z.rest z.clean_rest d v) (is.fixes d v) f in
        z.before b r (l.0, l.2, kept {l = l.0} v l.1 (free-back l.0 b l.2 r))

    -- at the starts of blocks

    pub live-to : (n : ℕ) (l : Lane) → Live R code (found n code) l → Live R to (found n to) (m l)
    live-to n l live = forth live (found n to) (found-folded n folded) (found-clean n code clean)

    pub live-from : (n : ℕ) (b : Lane) → Live R to (found n to) b → (a : Lane) × (m a ≡ b) × Live R code (found n code) a
    live-from n b live = back live (found n code) (found-folded n folded) (found-clean n code clean)
