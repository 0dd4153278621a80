-- Instructions at the end of a block, with tinies in place of the range, behind loads: what may be live before them, and at their points.
use Rattle.std.proofs.Common.{◌≡◌, ◌⊎◌, inl, inr, ◌++◌, ◌∙◌, Bool, true, false, ℕ, List, [], ◌∷◌, length, map, refl, sym, ap, subst, append_assoc}
use Rattle.target_base.specs.declared.types.Target.{Target}
use Rattle.meaning.specs.Code.{Code, Edge, Item, Silent, found}
use Rattle.meaning.specs.Lanes.{Writes, filled}
use Rattle.meaning.specs.Live.{Among as Member, here as first, there as later, Live, LiveAfter, Writing, WritingEarly, after_leap, exits_of, in_order, leap, next, read, writes_of}
use Rattle.meaning.specs.declared.types.Fill.TheVariants.{Moved}
use Rattle.meaning.specs.declared.types.Lane.{Lane}
use Rattle.meaning.specs.declared.types.Lane.TheVariants.{SlotLane, VirtualLane}
use Rattle.meaning.specs.declared.types.Source.TheVariants.{FromLane}
use Rattle.mir_func.specs.declared.func.Instr.{Instr}
use Rattle.mir_func.specs.declared.func.Block.{Block}
use Rattle.mir_func.specs.Value.{Function}
use Rattle.mir_meaning.specs.Points.{Entry, Exit, OccupiedAt, Point, from_instr, point_item}
use Rattle.instr_effects.proofs.Members.{member-elim, member-none}
use Rattle.split_laws.proofs.Splitting.{map-append}
use Rattle.clear_laws.proofs.SplitPoints.{free}
use Rattle.clear_laws.proofs.Bounds.{After, IsBounded, Makes, Through, along, at-phi, feeds, in-order, joins, keeps, leads, reads, stores}
use Rattle.clear_laws.proofs.PlaceBounds.{GoesOn, Wrote, as-itself, as-range, as-slot, is-further, unwritten}
use Rattle.clear_laws.proofs.PlacesKept.{PlaceKept, Told}
use Rattle.clear_laws.proofs.Replaced.{F, G, Held, IsKept, IsPlain, May, Told-of, X, after-told, behind-told, early-told, live-told, written-told}
use Rattle.clear_laws.proofs.Passed.{unlike-slot}
use Rattle.clear_laws.proofs.Seated.{IsFurther, ReadIn, bare-same, silents}

-- one of the items reads the lane
abbrev pub ReadAny : List Item → Lane → Type 0
ReadAny ys l = (y : Item) × Member y ys × ReadIn y l

-- what stands at a place of a list of images
unmapped : (h : Instr → Item) (is : List Instr) (front : List Item) (x : Item) (back : List Item) → front ++ x ∷ back ≡ map h is → (before : List Instr) × (i : Instr) × (after : List Instr) × (before ++ i ∷ after ≡ is) × (h i ≡ x) × (map h after ≡ back)
unmapped h [] [] x back e = absurd (cc)
unmapped h [] (z ∷ front) x back e = absurd (cc)
unmapped h (i ∷ is) [] x back e = ([], i, is, refl, cc, cc)
unmapped h (i ∷ is) (z ∷ front) x back e = let q = unmapped h is front x back (cc) in (i ∷ q.0, q.1, q.2, ap (λ js. i ∷ js) q.3, q.4, q.5)

module _ (t : Target) (f g : Function) (v slot : ℕ) (wide : ℕ → Type 0) (stored : Code → ℕ → Type 0) (on : GoesOn (X t f g v slot wide stored) (F t f g v slot wide stored) (G t f g v slot wide stored) (length f.classes) v slot wide stored) (p : Code) where
  abbrev R : Lane → Bool
  R = X t f g v slot wide stored

  abbrev C : Code
  C = F t f g v slot wide stored

  abbrev D : Code
  D = G t f g v slot wide stored

  abbrev Can : Code → Lane → Type 0
  Can q l = May t f g v slot wide stored q l

  abbrev Fine : Lane → Type 0
  Fine l = IsPlain t f g v slot wide stored l

  abbrev Kept : Code → Lane → Type 0
  Kept q l = Held t f g v slot wide stored q l

  abbrev Thru : List Item → Lane → Type 0
  Thru js l = Through R C D Can js (Can p) l

  abbrev Was-so : (Lane → Type 0) → Lane → Type 0
  Was-so P l = Told-of t f g v slot wide stored P l

  abbrev Keeps : Code → ℕ → Type 0
  Keeps q k = IsKept t f g v slot wide stored q k

  -- Item y stands for x, which doesn't write the range, with lanes of further ranges for those of the range.
  pub record IsEnd (x y : Item) : Type 0 where
    pub order : in_order x ≡ true
    pub exits : exits_of y ≡ exits_of x
    pub bare : (e : Edge) → Member e (exits_of x) → e.phis ≡ []
    pub own : (k : ℕ) → Writing x (VirtualLane v k) → ⊥
    pub slots : (k w : ℕ) → Writing x (SlotLane slot k w) → ⊥
    pub read_by : (l : Lane) → ReadIn y l → (Fine l × ReadIn x l) ⊎ IsFurther f l
    pub gives : (a l : Lane) → filled (writes_of y) a ≡ Moved (FromLane l) → (l ≡ a) × (Writing y a → ⊥)
    pub keeps : (a : Lane) → Fine a → Writing x a → Writing y a
    pub written : (l : Lane) → Writing y l → Was-so (Writing x) l
    pub early : (l : Lane) → WritingEarly y l → Was-so (WritingEarly x) l

  pub data AreEnds : List Item → List Item → Type 0 where
    no-ends : AreEnds [] []
    ends : {x y : Item} {xs ys : List Item} → IsEnd x y → AreEnds xs ys → AreEnds (x ∷ xs) (y ∷ ys)

  -- what may be live before the last of them
  pub data BeforeEnds (xs ys : List Item) (l : Lane) : Type 0 where
    plain : Fine l → Live R C (xs ++ p) l → BeforeEnds xs ys l
    held : Kept (xs ++ p) l → BeforeEnds xs ys l
    tiny : IsFurther f l → ReadAny ys l → BeforeEnds xs ys l

  module _ (x y : Item) (xs ys : List Item) (s : IsEnd x y) (h : (a : Lane) → Thru ys a → BeforeEnds xs ys a) (l : Lane) (z : Thru (y ∷ ys) l) where
    free-own : (k : ℕ) → filled (writes_of x) (VirtualLane v k) ≡ Moved (FromLane (VirtualLane v k))
    free-own k = unwritten (writes_of x) (VirtualLane v k) (s.own k)

    free-slot : (k w : ℕ) → filled (writes_of x) (SlotLane slot k w) ≡ Moved (FromLane (SlotLane slot k w))
    free-slot k w = unwritten (writes_of x) (SlotLane slot k w) (s.slots k w)

    quiet : (a : Lane) → Fine a → (Writing y a → ⊥) → filled (writes_of x) a ≡ Moved (FromLane a)
    quiet a q n = unwritten (writes_of x) a (λ w. n (s.keeps a q w))

    feed : (a : Lane) → l ≡ a → (Writing y a → ⊥) → BeforeEnds xs ys a → BeforeEnds (x ∷ xs) (y ∷ ys) l
    feed a e n (plain q r) = plain (subst Fine (sym e) q) (subst (Live R C (x ∷ (xs ++ p))) (sym e) (next s.order r (quiet a q n) (free r)))
    feed a e n (held q) = held (record { k = q.k; w = q.w; is = e ∙ q.is; fits = q.fits; from = go q.from })
      where
        go : Keeps (xs ++ p) q.k → Keeps (x ∷ (xs ++ p)) q.k
        go (inl z) = inl (z.0, z.1, next s.order z.2 (free-slot q.k z.0) refl)
        go (inr z) = inr (next s.order z.0 (free-own q.k) refl, on.back x (xs ++ p) q.k s.order (s.own q.k) z.1)
    feed a e n (tiny q r) = tiny (subst (IsFurther f) (sym e) q) (subst (ReadAny (y ∷ ys)) (sym e) (r.0, later r.1, r.2))

    jump : (e : Edge) (a b : Lane) → Member e (exits_of x) → Can (found e.block C) a → filled e.phis a ≡ Moved (FromLane b) → l ≡ b → (Writing y b → ⊥) → BeforeEnds (x ∷ xs) (y ∷ ys) l
    jump e a b m (inl c) k i n =
        let same : a ≡ b = bare-same e.phis a b (s.bare e m) k in
        let q : Fine b = subst Fine same c.0 in
        plain (subst Fine (sym i) q) (subst (Live R C (x ∷ (xs ++ p))) (sym i) (leap m c.1 k (quiet b q n) (subst (λ d. R d ≡ false) same (free c.1))))
    jump e a b m (inr c) k i n = held (record { k = c.k; w = c.w; is = i ∙ (sym same ∙ c.is); fits = c.fits; from = go c.from })
      where
        same : a ≡ b
        same = bare-same e.phis a b (s.bare e m) k

        go : Keeps (found e.block C) c.k → Keeps (x ∷ (xs ++ p)) c.k
        go (inl z) = inl (z.0, z.1, leap m z.2 (ap (λ ws. filled ws (SlotLane slot c.k z.0)) (s.bare e m)) (free-slot c.k z.0) refl)
        go (inr z) = inr (leap m z.0 (ap (λ ws. filled ws (VirtualLane v c.k)) (s.bare e m)) (free-own c.k) refl, on.along x (xs ++ p) e c.k m (s.own c.k) z.1)

    seen : ReadIn y l → (Fine l × ReadIn x l) ⊎ IsFurther f l → BeforeEnds (x ∷ xs) (y ∷ ys) l
    seen r (inl q) = plain q.0 (read q.1.1 q.1.2 z.1)
    seen r (inr q) = tiny q (y, first, r)

    end-step : BeforeEnds (x ∷ xs) (y ∷ ys) l
    end-step = go z.0
      where
        go : Makes R C D Can y (Thru ys) l → BeforeEnds (x ∷ xs) (y ∷ ys) l
        go (reads {ss = ss} a b) = seen (ss, a, b) (s.read_by l (ss, a, b))
        go (feeds {a = a} o c k) = let q = s.gives a l k in feed a q.0 q.1 (h a c)
        go (leads {e = e} {a = a} {b = b} m c k r) = let q = s.gives b l r in jump e a b (subst (Member e) s.exits m) c k q.0 q.1
        go (joins {e = e} {w = w} m c k q) = absurd (member-none w (subst (Member w) (s.bare e (subst (Member e) s.exits m)) c))
        go (stores w {n = n} {k = k} {x = u} o c q r) = absurd (unlike-slot l (SlotLane n k w) r refl (s.gives (SlotLane n k w) l q).0)
        go (keeps {a = a} q k) = absurd (let i : R l ≡ true = ap R (s.gives a l k).0 ∙ q in let j = z.1 in cc)

  before-ends : {xs ys : List Item} → AreEnds xs ys → (l : Lane) → Thru ys l → BeforeEnds xs ys l
  before-ends no-ends l (inl z) = plain z.0 z.1
  before-ends no-ends l (inr z) = held z
  before-ends (ends {x = x} {y = y} {xs = xs} {ys = ys} s more) l z = end-step x y xs ys s (before-ends more) l z

  -- loads before them
  module _ (xs ys : List Item) (loads : List Writes) where
    -- Loads give lanes of further ranges what the slot holds, and they give each that these items read.
    pub record AreLoaded : Type 0 where
      pub all : AreEnds xs ys
      pub load_lanes : (ws : Writes) (a : Lane) → Member ws loads → Wrote ws a → IsFurther f a
      pub load_gives : (ws : Writes) (a l : Lane) → Member ws loads → filled ws a ≡ Moved (FromLane l) → ((l ≡ a) × (Wrote ws a → ⊥)) ⊎ Kept (xs ++ p) l
      pub loaded : (a : Lane) → IsFurther f a → ReadAny ys a → (ws : Writes) × Member ws loads × Wrote ws a

    module _ (s : AreLoaded) where
      data BeforeLoads (ld : List Writes) (l : Lane) : Type 0 where
        plain' : Fine l → Live R C (xs ++ p) l → BeforeLoads ld l
        held' : Kept (xs ++ p) l → BeforeLoads ld l
        tiny' : IsFurther f l → ReadAny ys l → ((ws : Writes) → Member ws ld → Wrote ws l → ⊥) → BeforeLoads ld l

      load-step : (ws : Writes) (ld : List Writes) (rest : List Item) → Member ws loads → ((a : Lane) → Thru rest a → BeforeLoads ld a) → (l : Lane) → Thru (Silent [] ws ∷ rest) l → BeforeLoads (ws ∷ ld) l
      load-step ws ld rest m h l z = go z.0
        where
          more : (a : Lane) → l ≡ a → (Wrote ws a → ⊥) → BeforeLoads ld a → BeforeLoads (ws ∷ ld) l
          more a e n (plain' q r) = plain' (subst Fine (sym e) q) (subst (Live R C (xs ++ p)) (sym e) r)
          more a e n (held' q) = held' (subst (Kept (xs ++ p)) (sym e) q)
          more a e n (tiny' q r k) = tiny' (subst (IsFurther f) (sym e) q) (subst (ReadAny ys) (sym e) r) (λ us i w. member-elim us ws ld (λ j. n (subst (λ b. Wrote ws b) e (subst (λ vs. Wrote vs l) j w))) (λ j. k us j (subst (Wrote us) e w)) i)

          by : (a : Lane) → (l ≡ a → (Wrote ws a → ⊥) → BeforeLoads (ws ∷ ld) l) → ((l ≡ a) × (Wrote ws a → ⊥)) ⊎ Kept (xs ++ p) l → BeforeLoads (ws ∷ ld) l
          by a k (inl q) = k q.0 q.1
          by a k (inr q) = held' q

          go : Makes R C D Can (Silent [] ws) (Thru rest) l → BeforeLoads (ws ∷ ld) l
          go (reads {ss = ss} a b) = absurd (member-none ss a)
          go (feeds {a = a} o c k) = by a (λ e n. more a e n (h a c)) (s.load_gives ws a l m k)
          go (leads i c k q) = absurd (member-none _ i)
          go (joins i c k q) = absurd (member-none _ i)
          go (stores w {n = n} {k = k} {x = u} o c q r) = by (SlotLane n k w) (λ e i. absurd (unlike-slot l (SlotLane n k w) r refl e)) (s.load_gives ws (SlotLane n k w) l m q)
          go (keeps {a = a} q k) = by a (λ e n. absurd (let i : R l ≡ true = ap R e ∙ q in let j = z.1 in cc)) (s.load_gives ws a l m k)

      before-loads : (ld : List Writes) → ((ws : Writes) → Member ws ld → Member ws loads) → (l : Lane) → Thru (silents ld ++ ys) l → BeforeLoads ld l
      before-loads [] h l z = go (before-ends s.all l z)
        where
          go : BeforeEnds xs ys l → BeforeLoads [] l
          go (plain q r) = plain' q r
          go (held q) = held' q
          go (tiny q r) = tiny' q r (λ ws m. absurd (member-none ws m))
      before-loads (ws ∷ ld) h l z = load-step ws ld (silents ld ++ ys) (h ws first) (before-loads ld (λ us m. h us (later m))) l z

      pub ends-bounded : IsBounded R C D Can xs (silents loads ++ ys) p
      ends-bounded l z = go (before-loads loads (λ ws m. m) l z)
        where
          go : BeforeLoads loads l → Can (xs ++ p) l
          go (plain' q r) = inl (q, r)
          go (held' q) = inr q
          go (tiny' q r n) = absurd (let i = s.loaded l q r in n i.0 i.1 i.2)

      -- an item of the place: a load, or one of the ends
      data Stands (u : Item) (back : List Item) : Type 0 where
        loading : (ws : Writes) (ld : List Writes) → u ≡ Silent [] ws → Member ws loads → ((us : Writes) → Member us ld → Member us loads) → back ≡ silents ld ++ ys → Stands u back
        ending : (front : List Item) (x : Item) (rest : List Item) → front ++ x ∷ rest ≡ xs → IsEnd x u → AreEnds rest back → Stands u back

      in-ends : {xs' ys' : List Item} → AreEnds xs' ys' → (before : List Item) → before ++ xs' ≡ xs → (front : List Item) (u : Item) (back : List Item) → front ++ u ∷ back ≡ ys' → Stands u back
      in-ends no-ends before w [] u back e = absurd (cc)
      in-ends no-ends before w (z ∷ front) u back e = absurd (cc)
      in-ends (ends {x = x} {y = y} {xs = rest} {ys = others} k more) before w [] u back e =
          let one : u ≡ y = cc in let two : back ≡ others = cc in
          ending before x rest w (subst (IsEnd x) (sym one) k) (subst (AreEnds rest) (sym two) more)
      in-ends (ends {x = x} {xs = rest} k more) before w (z ∷ front) u back e = in-ends more (before ++ x ∷ []) (append_assoc before (x ∷ []) rest ∙ w) front u back (cc)

      in-place : (ld : List Writes) → ((us : Writes) → Member us ld → Member us loads) → (front : List Item) (u : Item) (back : List Item) → front ++ u ∷ back ≡ silents ld ++ ys → Stands u back
      in-place [] h front u back e = in-ends s.all [] refl front u back e
      in-place (ws ∷ ld) h [] u back e = loading ws ld (cc) (h ws first) (λ us m. h us (later m)) (cc)
      in-place (ws ∷ ld) h (z ∷ front) u back e = in-place ld (λ us m. h us (later m)) front u back (cc)

      module _ (b c : Block) (i : Instr) (is js : List Instr) (items : map (point_item t f b) (i ∷ is) ≡ xs) (now : map (point_item t g c) js ≡ silents loads ++ ys)
          (stands : (front : List Instr) (j : Instr) (back : List Instr) → front ++ j ∷ back ≡ i ∷ is → from_instr t f j.id f.blocks ≡ point_item t f b j ∷ (map (point_item t f b) back ++ p)) where
        abbrev IsTold : (Lane → Type 0) → Type 0
        IsTold P = Told t f g v slot wide stored P

        abbrev Behind : Item → List Item → Lane → Type 0
        Behind u back l = After R C D Can u (Thru back) l

        abbrev At : Point → Lane → Type 0
        At q l = Told-of t f g v slot wide stored (OccupiedAt t f q) l

        -- the first of them
        abbrev start : Item
        start = point_item t f b i

        abbrev others-on : Code
        others-on = map (point_item t f b) is ++ p

        first-stands : from_instr t f i.id f.blocks ≡ start ∷ others-on
        first-stands = stands [] i is refl

        -- what is live before it
        at-first : (l : Lane) → R l ≡ false → {ld : List Writes} → BeforeLoads ld l → At (Entry i.id) l
        at-first l r (plain' q h) = live-told t f g v slot wide stored i start others-on first-stands l r (inl (q, subst (λ k. Live R C (k ++ p) l) (sym items) h))
        at-first l r (held' q) = live-told t f g v slot wide stored i start others-on first-stands l r (inr (subst (λ k. Kept (k ++ p) l) (sym items) q))
        at-first l r (tiny' q h n) = is-further q

        more-of : {ws : Writes} {ld : List Writes} → Member ws loads → ((us : Writes) → Member us ld → Member us loads) → (us : Writes) → Member us (ws ∷ ld) → Member us loads
        more-of m h us first = m
        more-of m h us (later k) = h us k

        load-entry : (ws : Writes) (ld : List Writes) → Member ws loads → ((us : Writes) → Member us ld → Member us loads) → IsTold (λ l. Thru (Silent [] ws ∷ (silents ld ++ ys)) l ⊎ WritingEarly (Silent [] ws) l)
        load-entry ws ld m h = (Entry i.id, λ l r z. go l r z)
          where
            go : (l : Lane) → R l ≡ false → Thru (Silent [] ws ∷ (silents ld ++ ys)) l ⊎ WritingEarly (Silent [] ws) l → At (Entry i.id) l
            go l r (inl z) = at-first l r (before-loads (ws ∷ ld) (more-of m h) l z)
            go l r (inr z) = is-further (s.load_lanes ws l m (z.0, z.1, z.2))

        load-exit : (ws : Writes) (ld : List Writes) → Member ws loads → ((us : Writes) → Member us ld → Member us loads) → IsTold (λ l. Behind (Silent [] ws) (silents ld ++ ys) l ⊎ Writing (Silent [] ws) l)
        load-exit ws ld m h = (Entry i.id, λ l r z. go l r z)
          where
            go : (l : Lane) → R l ≡ false → Behind (Silent [] ws) (silents ld ++ ys) l ⊎ Writing (Silent [] ws) l → At (Entry i.id) l
            go l r (inl (in-order o z)) = at-first l r (before-loads ld h l z)
            go l r (inl (along k z q)) = absurd (member-none _ k)
            go l r (inl (at-phi k z q)) = absurd (member-none _ k)
            go l r (inr z) = is-further (s.load_lanes ws l m z)

        module _ (front : List Item) (x u : Item) (rest back : List Item) (w : front ++ x ∷ rest ≡ xs) (k : IsEnd x u) (more : AreEnds rest back) where
          at : (before : List Instr) × (j : Instr) × (after : List Instr) × (before ++ j ∷ after ≡ i ∷ is) × (point_item t f b j ≡ x) × (map (point_item t f b) after ≡ rest)
          at = unmapped (point_item t f b) (i ∷ is) front x rest (w ∙ sym items)

          here : from_instr t f at.1.id f.blocks ≡ x ∷ (rest ++ p)
          here = stands at.0 at.1 at.2 at.3 ∙ (λ q. at.4 q ∷ (at.5 q ++ p))

          -- what may be live before items of the place
          may : (l : Lane) → {us ws : List Item} → BeforeEnds us ws l → Can (us ++ p) l ⊎ IsFurther f l
          may l (plain q h) = inl (inl (q, h))
          may l {us} {ws} (held q) = inl (inr q)
          may l (tiny q h) = inr q

          end-entry : IsTold (λ l. Thru (u ∷ back) l ⊎ WritingEarly u l)
          end-entry = (Entry at.1.id, λ l r z. go l r z)
            where
              live : (l : Lane) → R l ≡ false → Can (x ∷ (rest ++ p)) l ⊎ IsFurther f l → At (Entry at.1.id) l
              live l r (inl c) = live-told t f g v slot wide stored at.1 x (rest ++ p) here l r c
              live l r (inr c) = is-further c

              go : (l : Lane) → R l ≡ false → Thru (u ∷ back) l ⊎ WritingEarly u l → At (Entry at.1.id) l
              go l r (inl z) = live l r (may l (before-ends (ends k more) l z))
              go l r (inr z) = early-told t f g v slot wide stored at.1 x (rest ++ p) here l r (k.early l z)

          end-exit : IsTold (λ l. Behind u back l ⊎ Writing u l)
          end-exit = (Exit at.1.id, λ l r z. go l r z)
            where
              after : (l : Lane) → R l ≡ false → Was-so (LiveAfter R C x (rest ++ p)) l → At (Exit at.1.id) l
              after l r z = after-told t f g v slot wide stored at.1 x (rest ++ p) here l r z

              live : (l : Lane) → R l ≡ false → Can (rest ++ p) l ⊎ IsFurther f l → At (Exit at.1.id) l
              live l r (inl c) = after l r (behind-told t f g v slot wide stored x (rest ++ p) k.order l c)
              live l r (inr c) = is-further c

              go : (l : Lane) → R l ≡ false → Behind u back l ⊎ Writing u l → At (Exit at.1.id) l
              go l r (inl (in-order o z)) = live l r (may l (before-ends more l z))
              go l r (inl (along {e = way} {a = a} m (inl z) q)) =
                  let n = subst (Member way) k.exits m in
                  after l r (as-itself (subst Fine (bare-same way.phis a l (k.bare way n) q) z.0) (after_leap n z.1 q))
              go l r (inl (along {e = way} {a = a} m (inr z) q)) = by z.from
                where
                  n : Member way (exits_of x)
                  n = subst (Member way) k.exits m

                  same-as : l ≡ SlotLane slot z.k z.w
                  same-as = sym (bare-same way.phis a l (k.bare way n) q) ∙ z.is

                  by : Keeps (found way.block C) z.k → At (Exit at.1.id) l
                  by (inl c) = after l r (as-slot z.k z.w c.0 same-as (after_leap n c.2 (ap (λ ws. filled ws (SlotLane slot z.k c.0)) (k.bare way n))))
                  by (inr c) = after l r (as-range z.k z.w same-as (after_leap n c.0 (ap (λ ws. filled ws (VirtualLane v z.k)) (k.bare way n))))
              go l r (inl (at-phi {e = way} {w = wr} m z q)) = absurd (member-none wr (subst (Member wr) (k.bare way (subst (Member way) k.exits m)) z))
              go l r (inr z) = written-told t f g v slot wide stored at.1 x (rest ++ p) here l r (k.written l z)

        entries : (u : Item) (back : List Item) → Stands u back → IsTold (λ l. Thru (u ∷ back) l ⊎ WritingEarly u l)
        entries u back (loading ws ld e m h q) = subst (λ w. IsTold (λ l. Thru (w ∷ back) l ⊎ WritingEarly w l)) (sym e) (subst (λ k. IsTold (λ l. Thru (Silent [] ws ∷ k) l ⊎ WritingEarly (Silent [] ws) l)) (sym q) (load-entry ws ld m h))
        entries u back (ending front x rest w k more) = end-entry front x u rest back w k more

        exits : (u : Item) (back : List Item) → Stands u back → IsTold (λ l. Behind u back l ⊎ Writing u l)
        exits u back (loading ws ld e m h q) = subst (λ w. IsTold (λ l. Behind w back l ⊎ Writing w l)) (sym e) (subst (λ k. IsTold (λ l. Behind (Silent [] ws) k l ⊎ Writing (Silent [] ws) l)) (sym q) (load-exit ws ld m h))
        exits u back (ending front x rest w k more) = end-exit front x u rest back w k more

        standing : (front : List Instr) (u : Instr) (back : List Instr) → front ++ u ∷ back ≡ js → Stands (point_item t g c u) (map (point_item t g c) back)
        standing front u back e =
            in-place loads (λ us m. m) (map (point_item t g c) front) (point_item t g c u) (map (point_item t g c) back)
            (sym (map-append (point_item t g c) front (u ∷ back)) ∙ (ap (map (point_item t g c)) e ∙ now))

        pub ends-kept : PlaceKept t f g v slot wide stored b c (i ∷ is) js p
        ends-kept = record {
          bounds = λ l z. subst (λ q. Can (q ++ p) l) (sym items) (ends-bounded l (subst (λ k. Thru k l) now z));
          entry = λ front u back e. entries (point_item t g c u) (map (point_item t g c) back) (standing front u back e);
          exit = λ front u back e. exits (point_item t g c u) (map (point_item t g c) back) (standing front u back e);
        }
