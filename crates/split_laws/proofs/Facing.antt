-- What is live in a function with a range split: the homes of what is live in the function.
use Rattle.std.proofs.Common.{◌≡◌, ◌<◌, ◌⊎◌, inl, inr, ◌↔◌, ◌∙◌, ℕ, Bool, true, false, List, [], ◌∷◌, map, refl, sym, ap, subst, eqb-true, arith}
use Rattle.std.specs.Prelude.{nat_eq}
use Rattle.std.proofs.lemmas.Bool.{eqb-false}
use Rattle.target_base.specs.declared.types.Target.{Target}
use Rattle.meaning.specs.Code.{Code, Edge, Item, Silent, found}
use Rattle.meaning.specs.InStep.{Agree}
use Rattle.meaning.specs.Lanes.{Reads, Writes, filled, settled}
use Rattle.meaning.specs.Layout.{NoPhisAlong}
use Rattle.meaning.specs.Live.{Among as Member, here as first, there as later, Feeds, Kept, Live, LiveAfter, after_leap, after_next, after_phi, exits_of, in_order, is_slot, kept, leap, next, phi, read, reads_of, store, writes_of, OccupiedAfter, OccupiedBefore, Writing, WritingEarly}
use Rattle.meaning.specs.Matched.{image, image_fill, images, renamed, renamed_reads, renamed_write}
use Rattle.meaning.specs.declared.types.Fill.{Fill}
use Rattle.meaning.specs.declared.types.Fill.TheVariants.{Computed, Moved}
use Rattle.meaning.specs.declared.types.Lane.{Lane}
use Rattle.meaning.specs.declared.types.Lane.TheVariants.{SlotLane, UnitLane, VirtualLane}
use Rattle.meaning.specs.declared.types.Source.{Source}
use Rattle.meaning.specs.declared.types.Source.TheVariants.{Bits, FromLane, Undef}
use Rattle.meaning.specs.declared.types.Write.{Write}
use Rattle.laws.proofs.Flow.{lane-inj}
use Rattle.laws.proofs.Steps.{settled-from}
use Rattle.mir_func.specs.Value.{Function}
use Rattle.mir_meaning.specs.Registers.{is_reserved}
use Rattle.mir_meaning.specs.Points.{AtFirst}
use Rattle.mir_meaning.specs.Renaming.{renamed_item}
use Rattle.instr_effects.proofs.Members.{map-in, map-of, member-elim, member-none}
use Rattle.split_kit.specs.Split.{part}
use Rattle.split_laws.proofs.Renamed.{KeepsApart, alone, bare-edge, exits-of, order-of, reads-of, writes-of}
use Rattle.split_laws.proofs.Homes.{homes-apart, lane_home, home-beside, home-own, home_of}

head-same : {X : Type 0} (x y : X) (xs ys : List X) → ◌≡◌ {A = List X} (x ∷ xs) (y ∷ ys) → x ≡ y
head-same x y xs ys e = cc

tail-same : {X : Type 0} (x y : X) (xs ys : List X) → ◌≡◌ {A = List X} (x ∷ xs) (y ∷ ys) → xs ≡ ys
tail-same x y xs ys e = cc

source-inj : (a b : Lane) → FromLane a ≡ FromLane b → a ≡ b
source-inj a b e = cc

-- an item with other lanes
module _ (m : Lane → Lane) where
  reads-in : (ss : List Source) (reads : Reads) → Member ss reads → Member (map (image m) ss) (renamed_reads m reads)
  reads-in ss [] x = absurd (member-none ss x)
  reads-in ss (rs ∷ reads) x = member-elim ss rs reads (λ e. subst (λ qs. Member (map (image m) ss) (map (image m) qs ∷ renamed_reads m reads)) e first) (λ k. later (reads-in ss reads k)) x

  reads-back : (qs : List Source) (reads : Reads) → Member qs (renamed_reads m reads) → (ss : List Source) × Member ss reads × (qs ≡ map (image m) ss)
  reads-back qs [] x = absurd (member-none qs x)
  reads-back qs (rs ∷ reads) x = member-elim qs (map (image m) rs) (renamed_reads m reads) (λ e. (rs, first, e)) (λ k. let z = reads-back qs reads k in (z.0, later z.1, z.2)) x

  lane-back : (s : Source) (b : Lane) → FromLane b ≡ image m s → (a : Lane) × (s ≡ FromLane a) × (m a ≡ b)
  lane-back (FromLane a) b e = (a, refl, sym (source-inj b (m a) e))
  lane-back Undef b e = absurd (cc)
  lane-back (Bits c low w) b e = absurd (cc)

  moved-same : (s : Source) (b : Lane) → Moved s ≡ Moved (FromLane b) → FromLane b ≡ s
  moved-same s b e = cc

  fill-back : (x : Fill) (b : Lane) → image_fill m x ≡ Moved (FromLane b) → (a : Lane) × (x ≡ Moved (FromLane a)) × (m a ≡ b)
  fill-back (Moved s) b e = let z = lane-back s b (moved-same (image m s) b e) in (z.0, ap Moved z.1, z.2)
  fill-back (Computed n) b e = absurd (cc)

  module _ (apart : KeepsApart m) where
    feeds-to : (i : Item) (a l : Lane) → Feeds i l a → Feeds (renamed_item m i) (m l) (m a)
    feeds-to i a l f = ap (λ ws. filled ws (m a)) (writes-of m i) ∙ (sym (alone m apart (writes_of i) a) ∙ ap (image_fill m) f)

    -- the item fills lane a with what fills its image in the item with other lanes
    fed : (j i : Item) (a c b : Lane) → j ≡ renamed_item m i → m a ≡ c → Feeds j b c → (l : Lane) × Feeds i l a × (m l ≡ b)
    fed j i a c b same at f =
        fill-back (filled (writes_of i) a) b
        (alone m apart (writes_of i) a ∙ (ap (λ ws. filled ws (m a)) (sym (writes-of m i)) ∙ (ap (λ x. filled (writes_of x) (m a)) (sym same) ∙ (ap (filled (writes_of j)) at ∙ f))))

live-free : {reserved : Lane → Bool} {code p : Code} {l : Lane} → Live reserved code p l → reserved l ≡ false
live-free (read x y r) = r
live-free (next o live f r) = r
live-free (leap x live g f r) = r
live-free (phi x y g f r) = r
live-free (store w o live f n r) = r
live-free (kept s f r) = r

live-none : {reserved : Lane → Bool} {code p : Code} {l : Lane} → Live reserved code p l → p ≡ [] → ⊥
live-none (read x y r) e = cc
live-none (next o live f r) e = cc
live-none (leap x live g f r) e = cc
live-none (phi x y g f r) e = cc
live-none (store w o live f n r) e = cc
live-none (kept s f r) e = cc

-- f is split to a function with code D; blocks start with these labels
module _ (t : Target) (f : Function) (v count : ℕ) (C D : Code) (begin : ℕ → ℕ) where
  abbrev R : Lane → Bool
  R = is_reserved t

  abbrev M : ℕ → Lane → Lane
  M label = lane_home f v count label

  -- only virtual registers are written
  pub record Still (ws : Writes) : Type 0 where
    pub units : (u : ℕ) → filled ws (UnitLane u) ≡ Moved (FromLane (UnitLane u))
    pub slots : (s k w : ℕ) → filled ws (SlotLane s k w) ≡ Moved (FromLane (SlotLane s k w))

  -- a copy stands before q, or the homes agree
  abbrev pub Lead : ℕ → ℕ → Code → Code → Code → Type 0
  Lead label to p q r = ((r ≡ q) × Agree R C p (images (M label)) (images (M to))) ⊎ ((ws : Writes) × (r ≡ Silent [] ws ∷ q) × Still ws × ((a : Lane) → Kept R C p a → settled (filled ws (M to a)) ≡ FromLane (M label a)))

  -- ways lead to starts whose homes agree, and have no phis
  abbrev pub Leads : ℕ → Item → Type 0
  Leads to i = NoPhisAlong (exits_of i) × ((e : Edge) → Member e (exits_of i) → Agree R C (found e.block C) (images (M to)) (images (M (begin e.block))))

  -- from here on the second has the lanes of the first at their homes, this label holding before
  pub data Facing : ℕ → Code → Code → Type 0 where
    faces : {label to : ℕ} {i : Item} {p q r : Code} → to < count → Lead label to (i ∷ p) (renamed_item (M to) i ∷ q) r → Leads to i → (in_order i ≡ true → Facing to p q) → Facing label (i ∷ p) r

  -- from an instruction on that both have, or nowhere
  pub data At : Code → Code → Type 0 where
    at-none : At [] []
    at-both : {to : ℕ} {i : Item} {p q : Code} → to < count → Leads to i → (in_order i ≡ true → Facing to p q) → At (i ∷ p) (renamed_item (M to) i ∷ q)

  pub record Faced (label : ℕ) (i : Item) (p r : Code) : Type 0 where
    pub to : ℕ
    pub q : Code
    pub fits : to < count
    pub lead : Lead label to (i ∷ p) (renamed_item (M to) i ∷ q) r
    pub leads : Leads to i
    pub on : in_order i ≡ true → Facing to p q

  faced : {label : ℕ} {i : Item} {p r : Code} → Facing label (i ∷ p) r → Faced label i p r
  faced (faces {to = to} {q = q} h l d o) = record { to = to; q = q; fits = h; lead = l; leads = d; on = o }

  first-faced : {label : ℕ} {p r : Code} → Facing label p r → (i : Item) × (p' : Code) × (p ≡ i ∷ p') × Faced label i p' r
  first-faced (faces {to = to} {i = i} {p = p} {q = q} h l d o) = (i, p, refl, record { to = to; q = q; fits = h; lead = l; leads = d; on = o })

  -- homes keep units and slots

  reserved-same : (label : ℕ) (l : Lane) → R (M label l) ≡ R l
  reserved-same label (VirtualLane w k) = refl
  reserved-same label (UnitLane u) = refl
  reserved-same label (SlotLane s k w) = refl

  slot-same : (label : ℕ) (l : Lane) → is_slot (M label l) ≡ is_slot l
  slot-same label (VirtualLane w k) = refl
  slot-same label (UnitLane u) = refl
  slot-same label (SlotLane s k w) = refl

  fixed : (label : ℕ) (l : Lane) → R l ≡ true → M label l ≡ l
  fixed label (VirtualLane w k) e = absurd (cc)
  fixed label (UnitLane u) e = refl
  fixed label (SlotLane s k w) e = absurd (cc)

  free-back : (label : ℕ) (l b : Lane) → M label l ≡ b → R b ≡ false → R l ≡ false
  free-back label l b e r = sym (reserved-same label l) ∙ (ap R e ∙ r)

  slot-back : (label : ℕ) (a : Lane) (s k x : ℕ) → M label a ≡ SlotLane s k x → a ≡ SlotLane s k x
  slot-back label (VirtualLane w j) s k x e = absurd (cc)
  slot-back label (UnitLane u) s k x e = absurd (cc)
  slot-back label (SlotLane r j y) s k x e = e

  module _ (starts : (n : ℕ) → Facing (begin n) (found n C) (found n D) ⊎ ((found n C ≡ []) × (found n D ≡ []))) where
    lead-forth : (label to : ℕ) (p q r : Code) → Lead label to p q r → (a : Lane) → Live R C p a → Live R D q (M to a) → Live R D r (M label a)
    lead-forth label to p q r (inl z) a l h =
        subst (λ x. Live R D x (M label a)) (sym z.0) (subst (Live R D q) (source-inj (M to a) (M label a) (sym (z.1 a (inl l)))) h)
    lead-forth label to p q r (inr z) a l h =
        subst (λ x. Live R D x (M label a)) (sym z.1)
        (next refl h (settled-from (filled z.0 (M to a)) (M label a) (z.3 a (inl l))) (reserved-same label a ∙ live-free l))

    pub forth : {p : Code} {a : Lane} → Live R C p a → (label : ℕ) (r : Code) → Facing label p r → Live R D r (M label a)
    forth (read {i = i} {p = p} {ss = ss} {l = l} x y e) label r F =
        let z = faced F in
        let m = M z.to in
        lead-forth label z.to (i ∷ p) (renamed_item m i ∷ z.q) r z.lead l (read x y e)
        (read (subst (Member (map (image m) ss)) (sym (reads-of m i)) (reads-in m ss (reads_of i) x)) (map-in (image m) (FromLane l) ss y) (reserved-same z.to l ∙ e))
    forth (next {i = i} {p = p} {l = l} {a = a} o live g e) label r F =
        let z = faced F in
        let m = M z.to in
        lead-forth label z.to (i ∷ p) (renamed_item m i ∷ z.q) r z.lead l (next o live g e)
        (next (order-of m i ∙ o) (forth live z.to z.q (z.on o)) (feeds-to m (homes-apart f v count z.to z.fits) i a l g) (reserved-same z.to l ∙ e))
    forth (leap {i = i} {p = p} {e = way} {l = l} {a = a} {b = b} x live g h e) label r F =
        let z = faced F in
        let m = M z.to in
        let none : way.phis ≡ [] = bare-edge (exits_of i) way z.leads.0 x in
        let same : a ≡ b = lane-inj a b (sym (ap (λ ws. filled ws a) none) ∙ g) in
        lead-forth label z.to (i ∷ p) (renamed_item m i ∷ z.q) r z.lead l (leap x live g h e)
        (leap (subst (Member way) (sym (exits-of m i)) x)
        (landed way.block z.to a (starts way.block) (forth live (begin way.block) (found way.block D)) live (z.leads.1 way x a (inl live)))
        (ap (λ ws. filled ws (m a)) none ∙ ap (λ c. Moved (FromLane (m c))) same)
        (feeds-to m (homes-apart f v count z.to z.fits) i b l h) (reserved-same z.to l ∙ e))
      where
        landed : (n to : ℕ) (c : Lane) → Facing (begin n) (found n C) (found n D) ⊎ ((found n C ≡ []) × (found n D ≡ [])) → (Facing (begin n) (found n C) (found n D) → Live R D (found n D) (M (begin n) c)) → Live R C (found n C) c → FromLane (M to c) ≡ FromLane (M (begin n) c) → Live R D (found n D) (M to c)
        landed n to c (inl k) ih l q = subst (Live R D (found n D)) (sym (source-inj (M to c) (M (begin n) c) q)) (ih k)
        landed n to c (inr k) ih l q = absurd (live-none l k.0)
    forth (phi {i = i} {e = way} {w = w} x y g h e) label r F = absurd (member-none w (subst (Member w) (bare-edge (exits_of i) way (faced F).leads.0 x) y))
    forth (store w {i = i} {p = p} {s = s} {k = k} {x = x} {l = l} o live g n e) label r F =
        let z = faced F in
        let m = M z.to in
        lead-forth label z.to (i ∷ p) (renamed_item m i ∷ z.q) r z.lead l (store w o live g n e)
        (store w (order-of m i ∙ o) (forth live z.to z.q (z.on o)) (feeds-to m (homes-apart f v count z.to z.fits) i (SlotLane s k w) l g) (slot-same z.to l ∙ n) (reserved-same z.to l ∙ e))
    forth (kept {i = i} {p = p} {l = l} {a = a} s g e) label r F =
        let z = faced F in
        let m = M z.to in
        lead-forth label z.to (i ∷ p) (renamed_item m i ∷ z.q) r z.lead l (kept s g e)
        (kept (reserved-same z.to a ∙ s) (feeds-to m (homes-apart f v count z.to z.fits) i a l g) (reserved-same z.to l ∙ e))

    -- some lane with that home is live
    abbrev pub Back : ℕ → Code → Lane → Type 0
    Back label p b = (a : Lane) × (M label a ≡ b) × Live R C p a

    agreed-back : (label to : ℕ) (p : Code) (b : Lane) → Agree R C p (images (M label)) (images (M to)) → Back to p b → Back label p b
    agreed-back label to p b g z = (z.0, source-inj (M label z.0) (M to z.0) (g z.0 (inl z.2)) ∙ z.1, z.2)

    -- what is live behind the copy
    carried-back : (label to : ℕ) (p : Code) (ws : Writes) (c b : Lane) → ((a : Lane) → Kept R C p a → settled (filled ws (M to a)) ≡ FromLane (M label a)) → filled ws c ≡ Moved (FromLane b) → Back to p c → Back label p b
    carried-back label to p ws c b g h z =
        (z.0, source-inj (M label z.0) b (sym (g z.0 (inl z.2)) ∙ (ap (λ x. settled (filled ws x)) z.1 ∙ ap settled h)), z.2)

    again : {label : ℕ} {i : Item} {p r : Code} (z : Faced label i p r) → Facing z.to (i ∷ p) (renamed_item (M z.to) i ∷ z.q)
    again z = faces z.fits (inl (refl, (λ a k. refl))) z.leads z.on

    -- where the second's item is j, and r follows it
    module _ (label : ℕ) (i : Item) (p : Code) (j : Item) (r : Code) (b : Lane) (free : R b ≡ false) (z : Faced label i p (j ∷ r)) where
      abbrev m : Lane → Lane
      m = M z.to

      apart : KeepsApart m
      apart = homes-apart f v count z.to z.fits

      -- by whether that is the renamed item, or a copy before it
      by-lead : (j ≡ renamed_item m i → r ≡ z.q → Back z.to (i ∷ p) b) → ((ws : Writes) → j ≡ Silent [] ws → r ≡ renamed_item m i ∷ z.q → Still ws → ((a : Lane) → Kept R C (i ∷ p) a → settled (filled ws (M z.to a)) ≡ FromLane (M label a)) → Back label (i ∷ p) b) → Back label (i ∷ p) b
      by-lead one two = go z.lead
        where
          go : Lead label z.to (i ∷ p) (renamed_item m i ∷ z.q) (j ∷ r) → Back label (i ∷ p) b
          go (inl y) = agreed-back label z.to (i ∷ p) b y.1 (one (head-same j (renamed_item m i) r z.q y.0) (tail-same j (renamed_item m i) r z.q y.0))
          go (inr y) = two y.0 (head-same j (Silent [] y.0) r (renamed_item m i ∷ z.q) y.1) (tail-same j (Silent [] y.0) r (renamed_item m i ∷ z.q) y.1) y.2 y.3

      held : (rs : List Source) (s : Source) (a : Lane) → Member rs (reads_of i) → Member s rs → s ≡ FromLane a → m a ≡ b → Back z.to (i ∷ p) b
      held rs s a x y e h = (a, h, read x (subst (λ c. Member c rs) e y) (free-back z.to a b h free))

      back-read : (ss : List Source) → Member ss (reads_of j) → Member (FromLane b) ss → Back label (i ∷ p) b
      back-read ss x y =
          by-lead
          (λ e g.
          let rs = reads-back m ss (reads_of i) (subst (Member ss) (reads-of m i) (subst (λ c. Member ss (reads_of c)) e x)) in
          let l = map-of (image m) (FromLane b) rs.0 (subst (Member (FromLane b)) rs.2 y) in
          let a = lane-back m l.0 b l.2 in
          held rs.0 l.0 a.0 rs.1 l.1 a.1 a.2)
          (λ ws e g s h. absurd (member-none ss (subst (λ c. Member ss (reads_of c)) e x)))

      back-next : (c : Lane) → in_order j ≡ true → ((to : ℕ) (q : Code) → Facing to q r → Back to q c) → Feeds j b c → Back label (i ∷ p) b
      back-next c o ih h =
          by-lead
          (λ e g.
          let on : in_order i ≡ true = sym (order-of m i) ∙ (ap in_order (sym e) ∙ o) in
          let a = ih z.to p (subst (Facing z.to p) (sym g) (z.on on)) in
          let l = fed m apart j i a.0 c b e a.1 h in
          (l.0, l.2, next {l = l.0} on a.2 l.1 (free-back z.to l.0 b l.2 free)))
          (λ ws e g s k. carried-back label z.to (i ∷ p) ws c b k (sym (ap (λ x. filled (writes_of x) c) e) ∙ h) (ih z.to (i ∷ p) (subst (Facing z.to (i ∷ p)) (sym g) (again z))))

      back-leap : (way : Edge) (c d : Lane) → Member way (exits_of j) → (Facing (begin way.block) (found way.block C) (found way.block D) → Back (begin way.block) (found way.block C) c) → Live R D (found way.block D) c → filled way.phis c ≡ Moved (FromLane d) → Feeds j b d → Back label (i ∷ p) b
      back-leap way c d x ih live g h =
          by-lead
          (λ e k.
          let out : Member way (exits_of i) = subst (Member way) (ap exits_of e ∙ exits-of m i) x in
          let none : way.phis ≡ [] = bare-edge (exits_of i) way z.leads.0 out in
          let same : c ≡ d = lane-inj c d (sym (ap (λ ws. filled ws c) none) ∙ g) in
          let a = landed way (starts way.block) ih live (z.leads.1 way out) in
          let l = fed m apart j i a.0 d b e (a.1 ∙ same) h in
          (l.0, l.2, leap out a.2 (ap (λ ws. filled ws a.0) none) l.1 (free-back z.to l.0 b l.2 free)))
          (λ ws e k s y. absurd (member-none way (subst (λ c. Member way (exits_of c)) e x)))
        where
          landed : (way : Edge) → Facing (begin way.block) (found way.block C) (found way.block D) ⊎ ((found way.block C ≡ []) × (found way.block D ≡ [])) → (Facing (begin way.block) (found way.block C) (found way.block D) → Back (begin way.block) (found way.block C) c) → Live R D (found way.block D) c → Agree R C (found way.block C) (images (M z.to)) (images (M (begin way.block))) → Back z.to (found way.block C) c
          landed way (inl k) ih live g = agreed-back z.to (begin way.block) (found way.block C) c g (ih k)
          landed way (inr k) ih live g = absurd (live-none live k.1)

      back-phi : (way : Edge) (w : Write) → Member way (exits_of j) → Member w way.phis → Back label (i ∷ p) b
      back-phi way w x y =
          by-lead
          (λ e k. absurd (member-none w (subst (Member w) (bare-edge (exits_of i) way z.leads.0 (subst (Member way) (ap exits_of e ∙ exits-of m i) x)) y)))
          (λ ws e k s h. absurd (member-none way (subst (λ c. Member way (exits_of c)) e x)))

      back-store : (w s k x : ℕ) → in_order j ≡ true → ((to : ℕ) (q : Code) → Facing to q r → Back to q (SlotLane s k x)) → Feeds j b (SlotLane s k w) → is_slot b ≡ false → Back label (i ∷ p) b
      back-store w s k x o ih h n =
          by-lead
          (λ e g.
          let on : in_order i ≡ true = sym (order-of m i) ∙ (ap in_order (sym e) ∙ o) in
          let a = ih z.to p (subst (Facing z.to p) (sym g) (z.on on)) in
          let lives : Live R C p (SlotLane s k x) = subst (Live R C p) (slot-back z.to a.0 s k x a.1) a.2 in
          let l = fed m apart j i (SlotLane s k w) (SlotLane s k w) b e refl h in
          (l.0, l.2, store w on lives l.1 (sym (slot-same z.to l.0) ∙ (ap is_slot l.2 ∙ n)) (free-back z.to l.0 b l.2 free)))
          (λ ws e g y q.
          let same : SlotLane s k w ≡ b = lane-inj (SlotLane s k w) b (sym (y.slots s k w) ∙ (sym (ap (λ c. filled (writes_of c) (SlotLane s k w)) e) ∙ h)) in
          let slot : is_slot b ≡ true = ap is_slot (sym same) in
          absurd (cc))

      back-kept : (a : Lane) → R a ≡ true → Feeds j b a → Back label (i ∷ p) b
      back-kept a s h =
          by-lead
          (λ e g. let l = fed m apart j i a a b e (fixed z.to a s) h in (l.0, l.2, kept s l.1 (free-back z.to l.0 b l.2 free)))
          (λ ws e g y q. absurd (unit a s y (sym (ap (λ c. filled (writes_of c) a) e) ∙ h)))
        where
          unit : (a : Lane) → R a ≡ true → {ws : Writes} → Still ws → filled ws a ≡ Moved (FromLane b) → ⊥
          unit (VirtualLane w k) r y g = cc
          unit (UnitLane u) r y g = let same : R (UnitLane u) ≡ R b = ap R (lane-inj (UnitLane u) b (sym (y.units u) ∙ g)) in cc
          unit (SlotLane q k w) r y g = cc

    at-code : {label : ℕ} {p r : Code} {b : Lane} (F : Facing label p r) → ((i : Item) (p' : Code) → Faced label i p' r → Back label (i ∷ p') b) → Back label p b
    at-code {label} {p} {r} {b} F h = let z = first-faced F in subst (λ c. Back label c b) (sym z.2) (h z.0 z.1 z.3)

    pub back : {r : Code} {b : Lane} → Live R D r b → (label : ℕ) (p : Code) → Facing label p r → Back label p b
    back (read {i = j} {p = r} {ss = ss} {l = b} x y e) label p F = at-code F (λ i p' z. back-read label i p' j r b e z ss x y)
    back (next {i = j} {p = r} {l = b} {a = c} o live g e) label p F = at-code F (λ i p' z. back-next label i p' j r b e z c o (back live) g)
    back (leap {i = j} {p = r} {e = way} {l = b} {a = c} {b = d} x live g h e) label p F = at-code F (λ i p' z. back-leap label i p' j r b e z way c d x (back live (begin way.block) (found way.block C)) live g h)
    back (phi {i = j} {p = r} {e = way} {w = w} {l = b} x y g h e) label p F = at-code F (λ i p' z. back-phi label i p' j r b e z way w x y)
    back (store w {i = j} {p = r} {s = s} {k = k} {x = x} {l = b} o live g n e) label p F = at-code F (λ i p' z. back-store label i p' j r b e z w s k x o (back live) g n)
    back (kept {i = j} {p = r} {l = b} {a = a} s g e) label p F = at-code F (λ i p' z. back-kept label i p' j r b e z a s g)

    -- lanes that stay are live in both

    abbrev pub Stays : Lane → Type 0
    Stays l = (label : ℕ) → M label l ≡ l

    pub facing-same : {label : ℕ} {p r : Code} → label < count → Facing label p r → (l : Lane) → Stays l → Live R C p l ↔ Live R D r l
    facing-same {label} {p} {r} h F l s = (
      (λ x. subst (Live R D r) (s label) (forth x label r F)),
      (λ x. let z = back x label p F in subst (Live R C p) (homes-apart f v count label h z.0 l (z.1 ∙ sym (s label))) z.2),
    )

    none-same : {p r : Code} → p ≡ [] → r ≡ [] → (l : Lane) → Live R C p l ↔ Live R D r l
    none-same e g l = ((λ x. absurd (live-none x e)), (λ x. absurd (live-none x g)))

    module _ (fits : (n : ℕ) → begin n < count) where
      pub start-same : (n : ℕ) (l : Lane) → Stays l → Live R C (found n C) l ↔ Live R D (found n D) l
      start-same n l s = go (starts n)
        where
          go : Facing (begin n) (found n C) (found n D) ⊎ ((found n C ≡ []) × (found n D ≡ [])) → Live R C (found n C) l ↔ Live R D (found n D) l
          go (inl F) = facing-same (fits n) F l s
          go (inr z) = none-same z.0 z.1 l

      pub entry-same : {p r : Code} → At p r → (l : Lane) → Stays l → Live R C p l ↔ Live R D r l
      entry-same at-none l s = none-same refl refl l
      entry-same (at-both {to = to} h d o) l s = facing-same h (faces h (inl (refl, (λ a k. refl))) d o) l s

      after-forth : (to : ℕ) (i : Item) (p q : Code) → to < count → Leads to i → (in_order i ≡ true → Facing to p q) → (l : Lane) → Stays l → LiveAfter R C i p l → LiveAfter R D (renamed_item (M to) i) q l
      after-forth to i p q h d on l s (after_next o x) = after_next (order-of (M to) i ∙ o) ((facing-same h (on o) l s).0 x)
      after-forth to i p q h d on l s (after_leap {e = e} {a = a} m x g) =
          let none : e.phis ≡ [] = bare-edge (exits_of i) e d.0 m in
          let same : a ≡ l = lane-inj a l (sym (ap (λ ws. filled ws a) none) ∙ g) in
          after_leap (subst (Member e) (sym (exits-of (M to) i)) m) ((start-same e.block l s).0 (subst (Live R C (found e.block C)) same x)) (ap (λ ws. filled ws l) none)
      after-forth to i p q h d on l s (after_phi {e = e} {w = w} m k g) = absurd (member-none w (subst (Member w) (bare-edge (exits_of i) e d.0 m) k))

      after-back : (to : ℕ) (i : Item) (p q : Code) → to < count → Leads to i → (in_order i ≡ true → Facing to p q) → (l : Lane) → Stays l → LiveAfter R D (renamed_item (M to) i) q l → LiveAfter R C i p l
      after-back to i p q h d on l s (after_next o x) =
          let o' : in_order i ≡ true = sym (order-of (M to) i) ∙ o in
          after_next o' ((facing-same h (on o') l s).1 x)
      after-back to i p q h d on l s (after_leap {e = e} {a = a} m x g) =
          let out : Member e (exits_of i) = subst (Member e) (exits-of (M to) i) m in
          let none : e.phis ≡ [] = bare-edge (exits_of i) e d.0 out in
          let same : a ≡ l = lane-inj a l (sym (ap (λ ws. filled ws a) none) ∙ g) in
          after_leap out ((start-same e.block l s).1 (subst (Live R D (found e.block D)) same x)) (ap (λ ws. filled ws l) none)
      after-back to i p q h d on l s (after_phi {e = e} {w = w} m k g) = absurd (member-none w (subst (Member w) (bare-edge (exits_of i) e d.0 (subst (Member e) (exits-of (M to) i) m)) k))

      pub exit-same : {p r : Code} → At p r → (l : Lane) → Stays l → AtFirst (λ i c. LiveAfter R C i c l) p ↔ AtFirst (λ i c. LiveAfter R D i c l) r
      exit-same at-none l s = ((λ x. x), (λ x. x))
      exit-same (at-both {to = to} {i = i} {p = p} {q = q} h d o) l s = (after-forth to i p q h d o l s, after-back to i p q h d o l s)

      -- what is written

      renamed-in : (m : Lane → Lane) (ws : Writes) (w : Write) → Member w ws → Member (renamed_write m w) (renamed m ws)
      renamed-in m [] w x = absurd (member-none w x)
      renamed-in m (u ∷ ws) w x = member-elim w u ws (λ e. subst (λ y. Member (renamed_write m w) (renamed_write m y ∷ renamed m ws)) e first) (λ k. later (renamed-in m ws w k)) x

      renamed-back : (m : Lane → Lane) (ws : Writes) (u : Write) → Member u (renamed m ws) → (w : Write) × Member w ws × (u ≡ renamed_write m w)
      renamed-back m [] u x = absurd (member-none u x)
      renamed-back m (w ∷ ws) u x = member-elim u (renamed_write m w) (renamed m ws) (λ e. (w, first, e)) (λ k. let z = renamed-back m ws u k in (z.0, later z.1, z.2)) x

      write-forth : (to : ℕ) (i : Item) (l : Lane) → Stays l → (w : Write) → Member w (writes_of i) → w.lane ≡ l → (u : Write) × Member u (writes_of (renamed_item (M to) i)) × (u.lane ≡ l) × (u.early ≡ w.early)
      write-forth to i l s w x e = (renamed_write (M to) w, subst (Member (renamed_write (M to) w)) (sym (writes-of (M to) i)) (renamed-in (M to) (writes_of i) w x), ap (M to) e ∙ s to, refl)

      write-back : (to : ℕ) → to < count → (i : Item) (l : Lane) → Stays l → (u : Write) → Member u (writes_of (renamed_item (M to) i)) → u.lane ≡ l → (w : Write) × Member w (writes_of i) × (w.lane ≡ l) × (w.early ≡ u.early)
      write-back to h i l s u x e =
          let z = renamed-back (M to) (writes_of i) u (subst (Member u) (writes-of (M to) i) x) in
          let same : M to z.0.lane ≡ M to l = sym (ap (λ (y : Write). y.lane) z.2) ∙ (e ∙ sym (s to)) in
          (z.0, z.1, homes-apart f v count to h z.0.lane l same, sym (ap (λ (y : Write). y.early) z.2))

      pub entry-occupied : {p r : Code} → At p r → (l : Lane) → Stays l → AtFirst (λ i c. OccupiedBefore R C i c l) p ↔ AtFirst (λ i c. OccupiedBefore R D i c l) r
      entry-occupied at-none l s = ((λ x. x), (λ x. x))
      entry-occupied (at-both {to = to} {i = i} {p = p} {q = q} h d o) l s = ((λ x. (go x.0, x.1)), (λ x. (come x.0, x.1)))
        where
          same : Live R C (i ∷ p) l ↔ Live R D (renamed_item (M to) i ∷ q) l
          same = facing-same h (faces h (inl (refl, (λ a k. refl))) d o) l s

          go : Live R C (i ∷ p) l ⊎ WritingEarly i l → Live R D (renamed_item (M to) i ∷ q) l ⊎ WritingEarly (renamed_item (M to) i) l
          go (inl x) = inl (same.0 x)
          go (inr x) = let z = write-forth to i l s x.0 x.1 x.2 in inr (z.0, z.1, z.2, z.3 ∙ x.3)

          come : Live R D (renamed_item (M to) i ∷ q) l ⊎ WritingEarly (renamed_item (M to) i) l → Live R C (i ∷ p) l ⊎ WritingEarly i l
          come (inl x) = inl (same.1 x)
          come (inr x) = let z = write-back to h i l s x.0 x.1 x.2 in inr (z.0, z.1, z.2, z.3 ∙ x.3)

      pub exit-occupied : {p r : Code} → At p r → (l : Lane) → Stays l → AtFirst (λ i c. OccupiedAfter R C i c l) p ↔ AtFirst (λ i c. OccupiedAfter R D i c l) r
      exit-occupied at-none l s = ((λ x. x), (λ x. x))
      exit-occupied (at-both {to = to} {i = i} {p = p} {q = q} h d o) l s = ((λ x. (go x.0, x.1)), (λ x. (come x.0, x.1)))
        where
          go : LiveAfter R C i p l ⊎ Writing i l → LiveAfter R D (renamed_item (M to) i) q l ⊎ Writing (renamed_item (M to) i) l
          go (inl x) = inl (after-forth to i p q h d o l s x)
          go (inr x) = let z = write-forth to i l s x.0 x.1 x.2 in inr (z.0, z.1, z.2)

          come : LiveAfter R D (renamed_item (M to) i) q l ⊎ Writing (renamed_item (M to) i) l → LiveAfter R C i p l ⊎ Writing i l
          come (inl x) = inl (after-back to i p q h d o l s x)
          come (inr x) = let z = write-back to h i l s x.0 x.1 x.2 in inr (z.0, z.1, z.2)

      -- lanes of the range, and of its parts

      pub own-back : (label to : ℕ) (a : Lane) (k : ℕ) → to < count → M label a ≡ VirtualLane (part f to) k → (a ≡ VirtualLane v k) × (to ≡ label)
      own-back label to (VirtualLane w j) k h e = go (nat_eq v w) refl
        where
          number : (x y j k : ℕ) → VirtualLane x j ≡ VirtualLane y k → (x ≡ y) × (j ≡ k)
          number x y j k e = (cc, cc)

          same : (home_of f v count label w ≡ part f to) × (j ≡ k)
          same = number (home_of f v count label w) (part f to) j k e

          go : (b : Bool) → nat_eq v w ≡ b → (VirtualLane w j ≡ VirtualLane v k) × (to ≡ label)
          go true g =
              let one : v ≡ w = eqb-true v w g in
              let two : part f label ≡ part f to = sym (home-own f v count label) ∙ (ap (home_of f v count label) one ∙ same.0) in
              ((λ i. VirtualLane (sym one i) (same.1 i)), omega arith)
          go false g = absurd (eqb-false (part f to) (home_of f v count label w) (home-beside f v count label to w g h) (sym same.0))
      own-back label to (UnitLane u) k h e = absurd (cc)
      own-back label to (SlotLane s j x) k h e = absurd (cc)

      -- of the parts that of this label alone is live, where the range is
      pub record Shares (label : ℕ) (P Q : Lane → Type 0) : Type 0 where
        pub forth : (k : ℕ) → P (VirtualLane v k) → Q (VirtualLane (part f label) k)
        pub back : (to k : ℕ) → to < count → Q (VirtualLane (part f to) k) → P (VirtualLane v k) × (to ≡ label)

      own-home : (label k : ℕ) → M label (VirtualLane v k) ≡ VirtualLane (part f label) k
      own-home label k = ap (λ x. VirtualLane x k) (home-own f v count label)

      facing-shares : {label : ℕ} {p r : Code} → Facing label p r → Shares label (Live R C p) (Live R D r)
      facing-shares {label} {p} {r} F = record {
        forth = λ k x. subst (Live R D r) (own-home label k) (forth x label r F);
        back = λ to k h x. let z = back x label p F in let y = own-back label to z.0 k h z.1 in (subst (Live R C p) y.0 z.2, y.1);
      }

      pub start-shares : (n : ℕ) → Shares (begin n) (Live R C (found n C)) (Live R D (found n D))
      start-shares n = go (starts n)
        where
          go : Facing (begin n) (found n C) (found n D) ⊎ ((found n C ≡ []) × (found n D ≡ [])) → Shares (begin n) (Live R C (found n C)) (Live R D (found n D))
          go (inl F) = facing-shares F
          go (inr z) = record { forth = λ k x. absurd (live-none x z.0); back = λ to k h x. absurd (live-none x z.1) }

      -- some label
      abbrev pub SharesOne : (Lane → Type 0) → (Lane → Type 0) → Type 0
      SharesOne P Q = (label : ℕ) × (label < count) × Shares label P Q

      pub entry-shares : {p r : Code} → At p r → 0 < count → SharesOne (Live R C p) (Live R D r)
      entry-shares at-none z = (0, z, record { forth = λ k x. absurd (live-none x refl); back = λ to k h x. absurd (live-none x refl) })
      entry-shares (at-both {to = to} h d o) z = (to, h, facing-shares (faces h (inl (refl, (λ a k. refl))) d o))

      module _ (to : ℕ) (i : Item) (p q : Code) (h : to < count) (d : Leads to i) (on : in_order i ≡ true → Facing to p q) where
        led : (e : Edge) (k : ℕ) → Member e (exits_of i) → Live R C (found e.block C) (VirtualLane v k) → begin e.block ≡ to
        led e k m x =
            let same : part f to ≡ part f (begin e.block) = number (part f to) (part f (begin e.block)) k (sym (own-home to k) ∙ (source-inj (M to (VirtualLane v k)) (M (begin e.block) (VirtualLane v k)) (d.1 e m (VirtualLane v k) (inl x)) ∙ own-home (begin e.block) k)) in
            omega arith
          where
            number : (x y k : ℕ) → VirtualLane x k ≡ VirtualLane y k → x ≡ y
            number x y k e = cc

        after-to : (k : ℕ) → LiveAfter R C i p (VirtualLane v k) → LiveAfter R D (renamed_item (M to) i) q (VirtualLane (part f to) k)
        after-to k (after_next o x) = after_next (order-of (M to) i ∙ o) ((facing-shares (on o)).forth k x)
        after-to k (after_leap {e = e} {a = a} m x g) =
            let none : e.phis ≡ [] = bare-edge (exits_of i) e d.0 m in
            let same : a ≡ VirtualLane v k = lane-inj a (VirtualLane v k) (sym (ap (λ ws. filled ws a) none) ∙ g) in
            let live : Live R C (found e.block C) (VirtualLane v k) = subst (Live R C (found e.block C)) same x in
            after_leap (subst (Member e) (sym (exits-of (M to) i)) m) (subst (λ n. Live R D (found e.block D) (VirtualLane (part f n) k)) (led e k m live) ((start-shares e.block).forth k live)) (ap (λ ws. filled ws (VirtualLane (part f to) k)) none)
        after-to k (after_phi {e = e} {w = w} m x g) = absurd (member-none w (subst (Member w) (bare-edge (exits_of i) e d.0 m) x))

        after-from : (n k : ℕ) → n < count → LiveAfter R D (renamed_item (M to) i) q (VirtualLane (part f n) k) → LiveAfter R C i p (VirtualLane v k) × (n ≡ to)
        after-from n k g (after_next o x) =
            let o' : in_order i ≡ true = sym (order-of (M to) i) ∙ o in
            let z = (facing-shares (on o')).back n k g x in
            (after_next o' z.0, z.1)
        after-from n k g (after_leap {e = e} {a = a} m x y) =
            let out : Member e (exits_of i) = subst (Member e) (exits-of (M to) i) m in
            let none : e.phis ≡ [] = bare-edge (exits_of i) e d.0 out in
            let same : a ≡ VirtualLane (part f n) k = lane-inj a (VirtualLane (part f n) k) (sym (ap (λ ws. filled ws a) none) ∙ y) in
            let z = (start-shares e.block).back n k g (subst (Live R D (found e.block D)) same x) in
            (after_leap out z.0 (ap (λ ws. filled ws (VirtualLane v k)) none), z.1 ∙ led e k out z.0)
        after-from n k g (after_phi {e = e} {w = w} m x y) = absurd (member-none w (subst (Member w) (bare-edge (exits_of i) e d.0 (subst (Member e) (exits-of (M to) i) m)) x))

        after-shares : Shares to (LiveAfter R C i p) (LiveAfter R D (renamed_item (M to) i) q)
        after-shares = record { forth = after-to; back = λ n k g x. after-from n k g x }

      pub exit-shares : {p r : Code} → At p r → 0 < count → SharesOne (λ l. AtFirst (λ i c. LiveAfter R C i c l) p) (λ l. AtFirst (λ i c. LiveAfter R D i c l) r)
      exit-shares at-none z = (0, z, record { forth = λ k x. absurd x; back = λ to k h x. absurd x })
      exit-shares (at-both {to = to} {i = i} {p = p} {q = q} h d o) z = (to, h, after-shares to i p q h d o)
