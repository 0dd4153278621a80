-- What is live in a code whose slots went to others: the images of what was live.
use Rattle.std.proofs.Common.{◌≡◌, ◌⊎◌, ◌↔◌, ℕ, Bool, true, false, cond, List, [], ◌∷◌, map, inl, inr, refl, sym, ap, ◌∙◌, subst}
use Rattle.std.specs.Prelude.{nat_eq}
use Rattle.target_base.specs.declared.types.Target.{Target}
use Rattle.meaning.specs.declared.types.Lane.{Lane}
use Rattle.meaning.specs.declared.types.Lane.TheVariants.{VirtualLane, UnitLane, SlotLane}
use Rattle.meaning.specs.declared.types.Source.{Source}
use Rattle.meaning.specs.declared.types.Source.TheVariants.{FromLane, Undef, Bits}
use Rattle.meaning.specs.declared.types.Fill.{Fill}
use Rattle.meaning.specs.declared.types.Fill.TheVariants.{Moved, Computed}
use Rattle.meaning.specs.declared.types.Write.{Write}
use Rattle.meaning.specs.Lanes.{Writes, Reads, filled, same_lane}
use Rattle.meaning.specs.Code.{Edge, Item, BlockStart, BlockEnd, Silent, Counted, Code, found}
use Rattle.meaning.specs.Layout.{NoPhis, NoPhisAlong}
use Rattle.meaning.specs.Live.{Among as Member, here as first, there as later, reads_of, writes_of, exits_of, in_order, Feeds, is_slot, Live, read, next, leap, phi, store, kept, LiveAfter, after_next, after_leap}
use Rattle.meaning.specs.Matched.{image, image_fill, renamed, renamed_write, renamed_reads}
use Rattle.laws.proofs.Flow.{lane-inj}
use Rattle.laws.proofs.Quiet.{filled-here, filled-past, same-false, same_or_not}
use Rattle.mir_meaning.specs.Registers.{is_reserved}
use Rattle.mir_meaning.specs.Renaming.{renamed_item}
use Rattle.instr_effects.proofs.Members.{member-none, member-elim, map-in, map-of}
use Rattle.slot_laws.proofs.Clear.{AllQuiet, QuietSlots, merged-cases}
use Rattle.slot_laws.proofs.Refined.{fixes}
use Rattle.slot_laws.proofs.Still.{merged_lane}

head-same : {X : Type 0} (x y : X) (xs ys : List X) → ◌≡◌ {A = List X} (x ∷ xs) (y ∷ ys) → x ≡ y
head-same x y xs ys e = cc

tail-same : {X : Type 0} (x y : X) (xs ys : List X) → ◌≡◌ {A = List X} (x ∷ xs) (y ∷ ys) → xs ≡ ys
tail-same x y xs ys e = cc

-- ways without phis

bare-tail : (i : Item) (p : Code) → NoPhis (i ∷ p) → NoPhis p
bare-tail (BlockStart n) p z = z
bare-tail (BlockEnd falls exits) p z = z.2
bare-tail (Silent reads ws) p z = z
bare-tail (Counted r reads ws target exits) p z = z.2

bare-exits : (i : Item) (p : Code) → NoPhis (i ∷ p) → NoPhisAlong (exits_of i)
bare-exits (BlockStart n) p z = tt
bare-exits (BlockEnd falls exits) p z = z.1
bare-exits (Silent reads ws) p z = tt
bare-exits (Counted r reads ws target exits) p z = z.1

bare-among : (es : List Edge) (e : Edge) → NoPhisAlong es → Member e es → e.phis ≡ []
bare-among [] e z m = absurd (member-none e m)
bare-among (d ∷ es) e z m = member-elim e d es (λ g. ap (λ (x : Edge). x.phis) g ∙ z.0) (λ k. bare-among es e z.1 k) m

found-bare : (n : ℕ) (p : Code) → NoPhis p → NoPhis (found n p)
found-bare n [] z = z
found-bare n (BlockStart k ∷ p) z = go (nat_eq k n) (found-bare n p z)
  where
    go : (b : Bool) → NoPhis (found n p) → NoPhis (cond b p (found n p))
    go true y = z
    go false y = y
found-bare n (BlockEnd falls exits ∷ p) z = found-bare n p z.2
found-bare n (Silent reads ws ∷ p) z = found-bare n p z
found-bare n (Counted r reads ws target exits ∷ p) z = found-bare n p z.2

module _ (t : Target) (h : ℕ → ℕ) where
  abbrev m : Lane → Lane
  m = merged_lane h

  abbrev R : Lane → Bool
  R = is_reserved t

  -- items with other lanes

  reads-of : (i : Item) → reads_of (renamed_item m i) ≡ renamed_reads m (reads_of i)
  reads-of (BlockStart n) = refl
  reads-of (BlockEnd falls exits) = refl
  reads-of (Silent reads ws) = refl
  reads-of (Counted r reads ws target exits) = refl

  writes-of : (i : Item) → writes_of (renamed_item m i) ≡ renamed m (writes_of i)
  writes-of (BlockStart n) = refl
  writes-of (BlockEnd falls exits) = refl
  writes-of (Silent reads ws) = refl
  writes-of (Counted r reads ws target exits) = refl

  exits-of : (i : Item) → exits_of (renamed_item m i) ≡ exits_of i
  exits-of (BlockStart n) = refl
  exits-of (BlockEnd falls exits) = refl
  exits-of (Silent reads ws) = refl
  exits-of (Counted r reads ws target exits) = refl

  order-of : (i : Item) → in_order (renamed_item m i) ≡ in_order i
  order-of (BlockStart n) = refl
  order-of (BlockEnd falls exits) = refl
  order-of (Silent reads ws) = refl
  order-of (Counted r reads ws target exits) = refl

  found-renamed : (n : ℕ) (p : Code) → found n (map (renamed_item m) p) ≡ map (renamed_item m) (found n p)
  found-renamed n [] = refl
  found-renamed n (BlockStart k ∷ p) = go (nat_eq k n) (found-renamed n p)
    where
      go : (b : Bool) → found n (map (renamed_item m) p) ≡ map (renamed_item m) (found n p) → cond b (map (renamed_item m) p) (found n (map (renamed_item m) p)) ≡ map (renamed_item m) (cond b p (found n p))
      go true e = refl
      go false e = e
  found-renamed n (BlockEnd falls exits ∷ p) = found-renamed n p
  found-renamed n (Silent reads ws ∷ p) = found-renamed n p
  found-renamed n (Counted r reads ws target exits ∷ p) = found-renamed n p

  -- lanes and their images

  reserved-same : (l : Lane) → is_reserved t (merged_lane h l) ≡ is_reserved t l
  reserved-same (VirtualLane v k) = refl
  reserved-same (UnitLane u) = refl
  reserved-same (SlotLane s k w) = refl

  slot-same : (l : Lane) → is_slot (merged_lane h l) ≡ is_slot l
  slot-same (VirtualLane v k) = refl
  slot-same (UnitLane u) = refl
  slot-same (SlotLane s k w) = refl

  unslotted : (l : Lane) → is_reserved t l ≡ true → is_slot l ≡ false
  unslotted (VirtualLane v k) e = refl
  unslotted (UnitLane u) e = refl
  unslotted (SlotLane s k w) e = absurd (cc)

  free : (l : Lane) → R l ≡ false → R (m l) ≡ false
  free l r = reserved-same l ∙ r

  free-back : (l b : Lane) → m l ≡ b → R b ≡ false → R l ≡ false
  free-back l b e r = sym (reserved-same l) ∙ ap R e ∙ r

  lane-back : (s : Source) (b : Lane) → FromLane b ≡ image m s → (a : Lane) × (s ≡ FromLane a) × (m a ≡ b)
  lane-back (FromLane a) b e = (a, refl, lane-of a e)
    where
      lane-of : (a : Lane) → FromLane b ≡ FromLane (m a) → m a ≡ b
      lane-of a g = cc
  lane-back Undef b e = absurd (cc)
  lane-back (Bits c low w) b e = absurd (cc)

  moved-same : (s : Source) (b : Lane) → Moved s ≡ Moved (FromLane b) → FromLane b ≡ s
  moved-same s b e = cc

  fill-back : (f : Fill) (b : Lane) → image_fill m f ≡ Moved (FromLane b) → (a : Lane) × (f ≡ Moved (FromLane a)) × (m a ≡ b)
  fill-back (Moved s) b e = let z = lane-back s b (moved-same (image m s) b e) in (z.0, ap Moved z.1, z.2)
  fill-back (Computed n) b e = absurd (cc)

  slot-back : (a : Lane) (s k x : ℕ) → m a ≡ SlotLane s k x → (r : ℕ) × (a ≡ SlotLane r k x) × (h r ≡ s)
  slot-back (VirtualLane v j) s k x e = absurd (cc)
  slot-back (UnitLane u) s k x e = absurd (cc)
  slot-back (SlotLane r j y) s k x e =
      let one : j ≡ k = cc in
      let two : y ≡ x = cc in
      (r, (λ i. SlotLane r (one i) (two i)), cc)

  unit-back : (a : Lane) (u : ℕ) → m a ≡ UnitLane u → a ≡ UnitLane u
  unit-back (VirtualLane v j) u e = absurd (cc)
  unit-back (UnitLane w) u e = e
  unit-back (SlotLane r j y) u e = absurd (cc)

  -- what is read

  reads-in : (ss : List Source) (reads : Reads) → Member ss reads → Member (map (image m) ss) (renamed_reads m reads)
  reads-in ss [] x = absurd (member-none ss x)
  reads-in ss (rs ∷ reads) x = member-elim ss rs reads (λ e. subst (λ qs. Member (map (image m) ss) (map (image m) qs ∷ renamed_reads m reads)) e first) (λ k. later (reads-in ss reads k)) x

  reads-back : (qs : List Source) (reads : Reads) → Member qs (renamed_reads m reads) → (ss : List Source) × Member ss reads × (qs ≡ map (image m) ss)
  reads-back qs [] x = absurd (member-none qs x)
  reads-back qs (rs ∷ reads) x = member-elim qs (map (image m) rs) (renamed_reads m reads) (λ e. (rs, first, e)) (λ k. let z = reads-back qs reads k in (z.0, later z.1, z.2)) x

  -- what is written

  alone-step : (a : Lane) (w : Write) (ws : Writes) → (m w.lane ≡ m a → w.lane ≡ a) → image_fill m (filled ws a) ≡ filled (renamed m ws) (m a) → (w.lane ≡ a) ⊎ (same_lane w.lane a ≡ false) → (m w.lane ≡ m a) ⊎ (same_lane (m w.lane) (m a) ≡ false) → image_fill m (filled (w ∷ ws) a) ≡ filled (renamed m (w ∷ ws)) (m a)
  alone-step a w ws k ih (inl e) o = ap (image_fill m) (filled-here a w ws e) ∙ sym (filled-here (m a) (renamed_write m w) (renamed m ws) (ap m e))
  alone-step a w ws k ih (inr e) (inl g) = absurd (same-false w.lane a e (k g))
  alone-step a w ws k ih (inr e) (inr g) = ap (image_fill m) (filled-past a w ws e) ∙ ih ∙ sym (filled-past (m a) (renamed_write m w) (renamed m ws) g)

  alone : (a : Lane) (ws : Writes) → ((w : Write) → Member w ws → m w.lane ≡ m a → w.lane ≡ a) → image_fill m (filled ws a) ≡ filled (renamed m ws) (m a)
  alone a [] k = refl
  alone a (w ∷ ws) k = alone-step a w ws (k w first) (alone a ws (λ v x. k v (later x))) (same_or_not w.lane a) (same_or_not (m w.lane) (m a))

  still-fill : (i : Item) (a : Lane) → is_slot a ≡ false → image_fill m (filled (writes_of i) a) ≡ filled (renamed m (writes_of i)) (m a)
  still-fill i a still = alone a (writes_of i) (λ w x e. go w.lane (merged-cases h w.lane a e))
    where
      go : (l : Lane) → (l ≡ a) ⊎ ((s : ℕ) × (r : ℕ) × (k : ℕ) × (w : ℕ) × (l ≡ SlotLane s k w) × (a ≡ SlotLane r k w) × (h s ≡ h r)) → l ≡ a
      go l (inl g) = g
      go l (inr z) = absurd (let y : is_slot a ≡ true = ap is_slot z.5 in cc)

  -- the item fills lane a with what fills its image in the item with other lanes
  fed : (j i : Item) (a c b : Lane) → j ≡ renamed_item m i → image_fill m (filled (writes_of i) a) ≡ filled (renamed m (writes_of i)) (m a) → m a ≡ c → Feeds j b c → (l : Lane) × Feeds i l a × (m l ≡ b)
  fed j i a c b same whole at f =
      fill-back (filled (writes_of i) a) b
      (whole ∙ ap (λ ws. filled ws (m a)) (sym (writes-of i)) ∙ ap (λ x. filled (writes_of x) (m a)) (sym same) ∙ ap (filled (writes_of j)) at ∙ f)

  feeds-to : (i : Item) (a l : Lane) → image_fill m (filled (writes_of i) a) ≡ filled (renamed m (writes_of i)) (m a) → Feeds i l a → Feeds (renamed_item m i) (m l) (m a)
  feeds-to i a l whole f = ap (λ ws. filled ws (m a)) (writes-of i) ∙ sym whole ∙ ap (image_fill m) f

  module _ (code : Code) where
    found-quiet : (n : ℕ) (p : Code) → AllQuiet R h code p → AllQuiet R h code (found n p)
    found-quiet n [] q = q
    found-quiet n (BlockStart k ∷ p) q = go (nat_eq k n) (found-quiet n p q.1)
      where
        go : (b : Bool) → AllQuiet R h code (found n p) → AllQuiet R h code (cond b p (found n p))
        go true y = q.1
        go false y = y
    found-quiet n (BlockEnd falls exits ∷ p) q = found-quiet n p q.1
    found-quiet n (Silent reads ws ∷ p) q = found-quiet n p q.1
    found-quiet n (Counted r reads ws target exits ∷ p) q = found-quiet n p q.1

    -- a lane of a slot that is live behind the item, at any width
    slot-fill : (i : Item) (p : Code) → QuietSlots R h code i p → (s k x : ℕ) → LiveAfter R code i p (SlotLane s k x) → (y : ℕ) → image_fill m (filled (writes_of i) (SlotLane s k y)) ≡ filled (renamed m (writes_of i)) (SlotLane (h s) k y)
    slot-fill i p q s k x live y = alone (SlotLane s k y) (writes_of i) (λ w n e. go w n (merged-cases h w.lane (SlotLane s k y) e))
      where
        go : (w : Write) → Member w (writes_of i) → (w.lane ≡ SlotLane s k y) ⊎ ((a : ℕ) × (b : ℕ) × (j : ℕ) × (v : ℕ) × (w.lane ≡ SlotLane a j v) × (SlotLane s k y ≡ SlotLane b j v) × (h a ≡ h b)) → w.lane ≡ SlotLane s k y
        go w n (inl g) = g
        go w n (inr z) =
            let r : z.1 ≡ s = slot-of s k y z.1 z.2 z.3 z.5 in
            let one : z.0 ≡ s = q.after z.0 z.2 z.3 s k x (w, n, z.4) live (z.6 ∙ ap h r) in
            z.4 ∙ ap (λ c. SlotLane c z.2 z.3) one ∙ sym (z.5 ∙ ap (λ c. SlotLane c z.2 z.3) r)
          where
            slot-of : (s k y b j v : ℕ) → SlotLane s k y ≡ SlotLane b j v → b ≡ s
            slot-of s k y b j v e = cc

    live-fill : (i : Item) (p : Code) → QuietSlots R h code i p → (a : Lane) → LiveAfter R code i p a → image_fill m (filled (writes_of i) a) ≡ filled (renamed m (writes_of i)) (m a)
    live-fill i p q (VirtualLane v k) live = still-fill i (VirtualLane v k) refl
    live-fill i p q (UnitLane u) live = still-fill i (UnitLane u) refl
    live-fill i p q (SlotLane s k w) live = slot-fill i p q s k w live w

    module _ (quiet : AllQuiet R h code code) (bare : NoPhis code) where
      abbrev to : Code
      to = map (renamed_item m) code

      forth : {p : Code} {l : Lane} → Live R code p l → AllQuiet R h code p → NoPhis p → Live R to (map (renamed_item m) p) (m l)
      forth (read {i = i} {p = p} {ss = ss} {l = l} x y r) q z =
          read (subst (Member (map (image m) ss)) (sym (reads-of i)) (reads-in ss (reads_of i) x)) (map-in (image m) (FromLane l) ss y) (free l r)
      forth (next {i = i} {p = p} {l = l} {a = a} o live f r) q z =
          next (order-of i ∙ o) (forth live q.1 (bare-tail i p z)) (feeds-to i a l (live-fill i p q.0 a (after_next o live)) f) (free l r)
      forth (leap {i = i} {p = p} {e = e} {l = l} {a = a} {b = b} x live g f r) q z =
          let none : e.phis ≡ [] = bare-among (exits_of i) e (bare-exits i p z) x in
          let same : a ≡ b = lane-inj a b (sym (ap (λ ws. filled ws a) none) ∙ g) in
          leap (subst (Member e) (sym (exits-of i)) x) (subst (λ c. Live R to c (m a)) (sym (found-renamed e.block code)) (forth live (found-quiet e.block code quiet) (found-bare e.block code bare))) (ap (λ ws. filled ws (m a)) none ∙ ap (λ c. Moved (FromLane (m c))) same) (feeds-to i b l (live-fill i p q.0 b (after_leap x live g)) f) (free l r)
      forth (phi {i = i} {p = p} {e = e} {w = w} x y g f r) q z = absurd (member-none w (subst (Member w) (bare-among (exits_of i) e (bare-exits i p z) x) y))
      forth (store w {i = i} {p = p} {s = s} {k = k} {x = x} {l = l} o live f n r) q z =
          store w (order-of i ∙ o) (forth live q.1 (bare-tail i p z)) (feeds-to i (SlotLane s k w) l (slot-fill i p q.0 s k x (after_next o live) w) f) (slot-same l ∙ n) (free l r)
      forth (kept {i = i} {p = p} {l = l} {a = a} s f r) q z = kept (reserved-same a ∙ s) (feeds-to i a l (still-fill i a (unslotted a s)) f) (free l r)

      -- some lane with that image is live
      abbrev Back : Code → Lane → Type 0
      Back p b = (a : Lane) × (m a ≡ b) × Live R code p a

      order-back : (j i : Item) → j ≡ renamed_item m i → in_order j ≡ true → in_order i ≡ true
      order-back j i e o = sym (order-of i) ∙ ap in_order (sym e) ∙ o

      back : {q : Code} {b : Lane} → Live R to q b → (p : Code) → q ≡ map (renamed_item m) p → AllQuiet R h code p → NoPhis p → Back p b
      back (read {i = j} {p = q} {ss = ss} {l = b} x y r) (i ∷ p) e s z =
          let same : j ≡ renamed_item m i = head-same j (renamed_item m i) q (map (renamed_item m) p) e in
          let rs = reads-back ss (reads_of i) (subst (Member ss) (reads-of i) (subst (λ c. Member ss (reads_of c)) same x)) in
          let l = map-of (image m) (FromLane b) rs.0 (subst (Member (FromLane b)) rs.2 y) in
          let a = lane-back l.0 b l.2 in
          (a.0, a.2, read rs.1 (subst (λ c. Member c rs.0) a.1 l.1) (free-back a.0 b a.2 r))
      back (next {i = j} {p = q} {l = b} {a = c} o live f r) (i ∷ p) e s z =
          let same : j ≡ renamed_item m i = head-same j (renamed_item m i) q (map (renamed_item m) p) e in
          let on : in_order i ≡ true = order-back j i same o in
          let a = back live p (tail-same j (renamed_item m i) q (map (renamed_item m) p) e) s.1 (bare-tail i p z) in
          let l = fed j i a.0 c b same (live-fill i p s.0 a.0 (after_next on a.2)) a.1 f in
          (l.0, l.2, next on a.2 l.1 (free-back l.0 b l.2 r))
      back (leap {i = j} {p = q} {e = way} {l = b} {a = c} {b = d} x live g f r) (i ∷ p) e s z =
          let same : j ≡ renamed_item m i = head-same j (renamed_item m i) q (map (renamed_item m) p) e in
          let out : Member way (exits_of i) = subst (Member way) (ap exits_of same ∙ exits-of i) x in
          let none : way.phis ≡ [] = bare-among (exits_of i) way (bare-exits i p z) out in
          let one : c ≡ d = lane-inj c d (sym (ap (λ ws. filled ws c) none) ∙ g) in
          let a = back live (found way.block code) (found-renamed way.block code) (found-quiet way.block code quiet) (found-bare way.block code bare) in
          let stays : filled way.phis a.0 ≡ Moved (FromLane a.0) = ap (λ ws. filled ws a.0) none in
          let l = fed j i a.0 d b same (live-fill i p s.0 a.0 (after_leap out a.2 stays)) (a.1 ∙ one) f in
          (l.0, l.2, leap out a.2 stays l.1 (free-back l.0 b l.2 r))
      back (phi {i = j} {p = q} {e = way} {w = w} x y g f r) (i ∷ p) e s z =
          let same : j ≡ renamed_item m i = head-same j (renamed_item m i) q (map (renamed_item m) p) e in
          let out : Member way (exits_of i) = subst (Member way) (ap exits_of same ∙ exits-of i) x in
          absurd (member-none w (subst (Member w) (bare-among (exits_of i) way (bare-exits i p z) out) y))
      back (store w {i = j} {p = q} {s = c} {k = k} {x = x} {l = b} o live f n r) (i ∷ p) e s z =
          let same : j ≡ renamed_item m i = head-same j (renamed_item m i) q (map (renamed_item m) p) e in
          let on : in_order i ≡ true = order-back j i same o in
          let a = back live p (tail-same j (renamed_item m i) q (map (renamed_item m) p) e) s.1 (bare-tail i p z) in
          let slot = slot-back a.0 c k x a.1 in
          let lives : Live R code p (SlotLane slot.0 k x) = subst (Live R code p) slot.1 a.2 in
          let l = fed j i (SlotLane slot.0 k w) (SlotLane c k w) b same (slot-fill i p s.0 slot.0 k x (after_next on lives) w) (ap (λ v. SlotLane v k w) slot.2) f in
          (l.0, l.2, store w on lives l.1 (sym (slot-same l.0) ∙ ap is_slot l.2 ∙ n) (free-back l.0 b l.2 r))
      back (kept {i = j} {p = q} {l = b} {a = c} v f r) (i ∷ p) e s z =
          let same : j ≡ renamed_item m i = head-same j (renamed_item m i) q (map (renamed_item m) p) e in
          let l = fed j i c c b same (still-fill i c (unslotted c v)) (fixes t h c v) f in
          (l.0, l.2, kept v l.1 (free-back l.0 b l.2 r))
      back (read x y r) [] e s z = absurd (cc)
      back (next o live f r) [] e s z = absurd (cc)
      back (leap x live g f r) [] e s z = absurd (cc)
      back (phi x y g f r) [] e s z = absurd (cc)
      back (store w o live f n r) [] e s z = absurd (cc)
      back (kept v f r) [] e s z = absurd (cc)

      -- units are live at the starts of the same blocks
      pub units-live : (n u : ℕ) → Live R to (found n to) (UnitLane u) ↔ Live R code (found n code) (UnitLane u)
      units-live n u = (
        (λ live. let a = back live (found n code) (found-renamed n code) (found-quiet n code quiet) (found-bare n code bare) in subst (Live R code (found n code)) (unit-back a.0 u a.1) a.2),
        (λ live. subst (λ c. Live R to c (UnitLane u)) (sym (found-renamed n code)) (forth live (found-quiet n code quiet) (found-bare n code bare))),
      )
