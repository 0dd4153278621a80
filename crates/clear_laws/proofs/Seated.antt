-- An instruction with tinies in place of the range, behind loads and before stores: what may be live before it.
use Rattle.std.proofs.Common.{◌≡◌, ◌≤◌, ◌⊎◌, inl, inr, ◌++◌, ◌∙◌, Bool, true, false, ℕ, List, [], ◌∷◌, length, refl, sym, ap, subst}
use Rattle.target_base.specs.declared.types.Target.{Target}
use Rattle.meaning.specs.Code.{Code, Edge, Item, Silent, found}
use Rattle.meaning.specs.Lanes.{Writes, filled}
use Rattle.meaning.specs.Live.{Among as Member, here as first, there as later, Live, Writing, WritingEarly, exits_of, in_order, is_slot, leap, next, read, reads_of, writes_of}
use Rattle.meaning.specs.declared.types.Fill.TheVariants.{Moved}
use Rattle.meaning.specs.declared.types.Lane.{Lane}
use Rattle.meaning.specs.declared.types.Lane.TheVariants.{SlotLane, VirtualLane}
use Rattle.meaning.specs.declared.types.Source.{Source}
use Rattle.meaning.specs.declared.types.Source.TheVariants.{FromLane}
use Rattle.laws.proofs.Flow.{lane-inj}
use Rattle.mir_func.specs.Value.{Function}
use Rattle.instr_effects.proofs.Members.{member-elim, member-none}
use Rattle.clear_laws.proofs.SplitPoints.{free}
use Rattle.clear_laws.proofs.Bounds.{IsBounded, Makes, Through, feeds, joins, keeps, leads, reads, stores}
use Rattle.clear_laws.proofs.PlaceBounds.{GoesOn, Wrote, unwritten}
use Rattle.clear_laws.proofs.Replaced.{F, G, Held, IsKept, IsPlain, May, Told-of, X}

abbrev pub silents : List Writes → List Item
silents [] = []
silents (ws ∷ wss) = Silent [] ws ∷ silents wss

-- the item reads the lane whatever is live behind it
abbrev pub ReadIn : Item → Lane → Type 0
ReadIn i l = (ss : List Source) × Member ss (reads_of i) × Member (FromLane l) ss

-- a lane of a further range
abbrev pub IsFurther : Function → Lane → Type 0
IsFurther f l = (c : ℕ) × (k : ℕ) × (l ≡ VirtualLane c k) × (length f.classes ≤ c)

not-slot : (l a : Lane) → is_slot l ≡ false → is_slot a ≡ true → l ≡ a → ⊥
not-slot l a e g h = let m : is_slot l ≡ true = ap is_slot h ∙ g in cc

pub bare-same : (ws : Writes) (a b : Lane) → ws ≡ [] → filled ws a ≡ Moved (FromLane b) → a ≡ b
bare-same ws a b none g = lane-inj a b (sym (ap (λ x. filled x a) none) ∙ g)

module _ (t : Target) (f g : Function) (v slot : ℕ) (wide : ℕ → Type 0) (stored : Code → ℕ → Type 0) (on : GoesOn (X t f g v slot wide stored) (F t f g v slot wide stored) (G t f g v slot wide stored) (length f.classes) v slot wide stored) (x y : Item) (p : Code) (loads saves : List Writes) where
  abbrev pub R : Lane → Bool
  R = X t f g v slot wide stored

  abbrev pub C : Code
  C = F t f g v slot wide stored

  abbrev pub D : Code
  D = G t f g v slot wide stored

  abbrev pub Can : Code → Lane → Type 0
  Can q l = May t f g v slot wide stored q l

  abbrev pub Fine : Lane → Type 0
  Fine l = IsPlain t f g v slot wide stored l

  abbrev Kept : Code → Lane → Type 0
  Kept q l = Held t f g v slot wide stored q l

  abbrev pub Thru : List Item → Lane → Type 0
  Thru js l = Through R C D Can js (Can p) l

  abbrev pub Was-so : (Lane → Type 0) → Lane → Type 0
  Was-so P l = Told-of t f g v slot wide stored P l

  abbrev Keeps : Code → ℕ → Type 0
  Keeps q k = IsKept t f g v slot wide stored q k

  -- Item y stands for x, with lanes of further ranges for those of the range; loads before it give these what the slot holds of
  -- lanes that x reads, and stores behind it give the slot what it writes to them.
  pub record IsSeated : Type 0 where
    pub order : in_order x ≡ true
    pub exits : exits_of y ≡ exits_of x
    pub bare : (e : Edge) → Member e (exits_of x) → e.phis ≡ []
    pub leaves : (e : Edge) (k : ℕ) → Member e (exits_of x) → Writing x (VirtualLane v k) → ⊥
    pub slots : (k w : ℕ) → Writing x (SlotLane slot k w) → ⊥
    pub read_by : (l : Lane) → ReadIn y l → (Fine l × ReadIn x l) ⊎ IsFurther f l
    pub gives : (a l : Lane) → filled (writes_of y) a ≡ Moved (FromLane l) → (l ≡ a) × (Writing y a → ⊥)
    pub keeps : (a : Lane) → Fine a → Writing x a → Writing y a
    pub written : (l : Lane) → Writing y l → Was-so (Writing x) l
    pub early : (l : Lane) → WritingEarly y l → Was-so (WritingEarly x) l
    pub load_lanes : (ws : Writes) (a : Lane) → Member ws loads → Wrote ws a → IsFurther f a
    pub load_gives : (ws : Writes) (a l : Lane) → Member ws loads → filled ws a ≡ Moved (FromLane l) → ((l ≡ a) × (Wrote ws a → ⊥)) ⊎ Kept (x ∷ p) l
    pub loaded : (a : Lane) → IsFurther f a → ReadIn y a → (ws : Writes) × Member ws loads × Wrote ws a
    pub save_lanes : (ws : Writes) (a : Lane) → Member ws saves → Wrote ws a → (k : ℕ) × (w : ℕ) × (a ≡ SlotLane slot k w) × Writing x (VirtualLane v k)
    pub save_gives : (ws : Writes) (a l : Lane) → Member ws saves → filled ws a ≡ Moved (FromLane l) → ((l ≡ a) × (Wrote ws a → ⊥)) ⊎ (IsFurther f l × Writing y l)
    pub saved : (k w : ℕ) → wide w → Writing x (VirtualLane v k) → Live R C p (VirtualLane v k) → stored p k → (ws : Writes) × Member ws saves × Wrote ws (SlotLane slot k w)

  module _ (s : IsSeated) where
    -- what may be live before the last of the stores
    pub data BeforeSaves (sv : List Writes) (l : Lane) : Type 0 where
      plain : Fine l → Live R C p l → BeforeSaves sv l
      held : Kept p l → ((ws : Writes) → Member ws sv → Wrote ws l → ⊥) → BeforeSaves sv l
      tiny : IsFurther f l → Writing y l → BeforeSaves sv l

    save-step : (ws : Writes) (sv : List Writes) → Member ws saves → ((a : Lane) → Thru (silents sv) a → BeforeSaves sv a) → (l : Lane) → Thru (Silent [] ws ∷ silents sv) l → BeforeSaves (ws ∷ sv) l
    save-step ws sv m h l z = go z.0
      where
        more : (a : Lane) → l ≡ a → (Wrote ws a → ⊥) → BeforeSaves sv a → BeforeSaves (ws ∷ sv) l
        more a e n (plain q r) = plain (subst Fine (sym e) q) (subst (Live R C p) (sym e) r)
        more a e n (held q r) = held (subst (Kept p) (sym e) q) (λ us k w. member-elim us ws sv (λ i. n (subst (λ b. Wrote ws b) e (subst (λ vs. Wrote vs l) i w))) (λ i. r us i (subst (Wrote us) e w)) k)
        more a e n (tiny q r) = tiny (subst (IsFurther f) (sym e) q) (subst (Writing y) (sym e) r)

        by : (a : Lane) → (l ≡ a → (Wrote ws a → ⊥) → BeforeSaves (ws ∷ sv) l) → ((l ≡ a) × (Wrote ws a → ⊥)) ⊎ (IsFurther f l × Writing y l) → BeforeSaves (ws ∷ sv) l
        by a k (inl q) = k q.0 q.1
        by a k (inr q) = tiny q.0 q.1

        go : Makes R C D Can (Silent [] ws) (Thru (silents sv)) l → BeforeSaves (ws ∷ sv) l
        go (reads {ss = ss} a b) = absurd (member-none ss a)
        go (feeds {a = a} o c k) = by a (λ e n. more a e n (h a c)) (s.save_gives ws a l m k)
        go (leads i c k q) = absurd (member-none _ i)
        go (joins i c k q) = absurd (member-none _ i)
        go (stores w {n = n} {k = k} {x = u} o c q r) = by (SlotLane n k w) (λ e i. absurd (not-slot l (SlotLane n k w) r refl e)) (s.save_gives ws (SlotLane n k w) l m q)
        go (keeps {a = a} q k) = by a (λ e n. absurd (let i : R l ≡ true = ap R e ∙ q in let j = z.1 in cc)) (s.save_gives ws a l m k)

    pub before-saves : (sv : List Writes) → ((ws : Writes) → Member ws sv → Member ws saves) → (l : Lane) → Thru (silents sv) l → BeforeSaves sv l
    before-saves [] h l (inl z) = plain z.0 z.1
    before-saves [] h l (inr z) = held z (λ ws m. absurd (member-none ws m))
    before-saves (ws ∷ sv) h l z = save-step ws sv (h ws first) (before-saves sv (λ us m. h us (later m))) l z

    -- what may be live before loads
    pub data BeforeLoads (ld : List Writes) (l : Lane) : Type 0 where
      plain : Fine l → Live R C (x ∷ p) l → BeforeLoads ld l
      held : Kept (x ∷ p) l → BeforeLoads ld l
      tiny : IsFurther f l → ReadIn y l → ((ws : Writes) → Member ws ld → Wrote ws l → ⊥) → BeforeLoads ld l

    free-own : (k : ℕ) → (Writing x (VirtualLane v k) → ⊥) → filled (writes_of x) (VirtualLane v k) ≡ Moved (FromLane (VirtualLane v k))
    free-own k n = unwritten (writes_of x) (VirtualLane v k) n

    free-slot : (k w : ℕ) → filled (writes_of x) (SlotLane slot k w) ≡ Moved (FromLane (SlotLane slot k w))
    free-slot k w = unwritten (writes_of x) (SlotLane slot k w) (s.slots k w)

    pub before-own : (l : Lane) → Thru (y ∷ silents saves) l → BeforeLoads [] l
    before-own l z = go z.0
      where
        quiet : (a : Lane) → Fine a → (Writing y a → ⊥) → filled (writes_of x) a ≡ Moved (FromLane a)
        quiet a q n = unwritten (writes_of x) a (λ w. n (s.keeps a q w))

        feed : (a : Lane) → l ≡ a → (Writing y a → ⊥) → BeforeSaves saves a → BeforeLoads [] l
        feed a e n (plain q r) = plain (subst Fine (sym e) q) (subst (Live R C (x ∷ p)) (sym e) (next s.order r (quiet a q n) (free r)))
        feed a e n (held q r) = held (record { k = q.k; w = q.w; is = e ∙ q.is; fits = q.fits; from = go q.from })
          where
            go : Keeps p q.k → Keeps (x ∷ p) q.k
            go (inl z) = inl (z.0, z.1, next s.order z.2 (free-slot q.k z.0) refl)
            go (inr z) =
                let none : Writing x (VirtualLane v q.k) → ⊥ = λ w. (let i = s.saved q.k q.w q.fits w z.0 z.1 in r i.0 i.1 (subst (Wrote i.0) (sym q.is) i.2)) in
                inr (next s.order z.0 (free-own q.k none) refl, on.back x p q.k s.order none z.1)
        feed a e n (tiny q r) = absurd (n r)

        jump : (e : Edge) (a b : Lane) → Member e (exits_of x) → Can (found e.block C) a → filled e.phis a ≡ Moved (FromLane b) → l ≡ b → (Writing y b → ⊥) → BeforeLoads [] l
        jump e a b m (inl c) h i n =
            let same : a ≡ b = bare-same e.phis a b (s.bare e m) h in
            let q : Fine b = subst Fine same c.0 in
            plain (subst Fine (sym i) q) (subst (Live R C (x ∷ p)) (sym i) (leap m c.1 h (quiet b q n) (subst (λ d. R d ≡ false) same (free c.1))))
        jump e a b m (inr c) h i n = held (record { k = c.k; w = c.w; is = i ∙ (sym same ∙ c.is); fits = c.fits; from = go c.from })
          where
            same : a ≡ b
            same = bare-same e.phis a b (s.bare e m) h

            go : Keeps (found e.block C) c.k → Keeps (x ∷ p) c.k
            go (inl z) = inl (z.0, z.1, leap m z.2 (ap (λ ws. filled ws (SlotLane slot c.k z.0)) (s.bare e m)) (free-slot c.k z.0) refl)
            go (inr z) = let none = s.leaves e c.k m in inr (leap m z.0 (ap (λ ws. filled ws (VirtualLane v c.k)) (s.bare e m)) (free-own c.k none) refl, on.along x p e c.k m none z.1)

        seen : ReadIn y l → (Fine l × ReadIn x l) ⊎ IsFurther f l → BeforeLoads [] l
        seen r (inl q) = plain q.0 (read q.1.1 q.1.2 z.1)
        seen r (inr q) = tiny q r (λ ws m. absurd (member-none ws m))

        go : Makes R C D Can y (Thru (silents saves)) l → BeforeLoads [] l
        go (reads {ss = ss} a b) = seen (ss, a, b) (s.read_by l (ss, a, b))
        go (feeds {a = a} o c k) = let q = s.gives a l k in feed a q.0 q.1 (before-saves saves (λ ws m. m) a c)
        go (leads {e = e} {a = a} {b = b} m c k r) = let q = s.gives b l r in jump e a b (subst (Member e) s.exits m) c k q.0 q.1
        go (joins {e = e} {w = w} m c k q) = absurd (member-none w (subst (Member w) (s.bare e (subst (Member e) s.exits m)) c))
        go (stores w {n = n} {k = k} {x = u} o c q r) = absurd (not-slot l (SlotLane n k w) r refl (s.gives (SlotLane n k w) l q).0)
        go (keeps {a = a} q k) = absurd (let i : R l ≡ true = ap R (s.gives a l k).0 ∙ q in let j = z.1 in cc)

    load-step : (ws : Writes) (ld : List Writes) (rest : List Item) → Member ws loads → ((a : Lane) → Thru rest a → BeforeLoads ld a) → (l : Lane) → Thru (Silent [] ws ∷ rest) l → BeforeLoads (ws ∷ ld) l
    load-step ws ld rest m h l z = go z.0
      where
        more : (a : Lane) → l ≡ a → (Wrote ws a → ⊥) → BeforeLoads ld a → BeforeLoads (ws ∷ ld) l
        more a e n (plain q r) = plain (subst Fine (sym e) q) (subst (Live R C (x ∷ p)) (sym e) r)
        more a e n (held q) = held (subst (Kept (x ∷ p)) (sym e) q)
        more a e n (tiny q r k) = tiny (subst (IsFurther f) (sym e) q) (subst (ReadIn y) (sym e) r) (λ us i w. member-elim us ws ld (λ j. n (subst (λ b. Wrote ws b) e (subst (λ vs. Wrote vs l) j w))) (λ j. k us j (subst (Wrote us) e w)) i)

        by : (a : Lane) → (l ≡ a → (Wrote ws a → ⊥) → BeforeLoads (ws ∷ ld) l) → ((l ≡ a) × (Wrote ws a → ⊥)) ⊎ Kept (x ∷ p) l → BeforeLoads (ws ∷ ld) l
        by a k (inl q) = k q.0 q.1
        by a k (inr q) = held q

        go : Makes R C D Can (Silent [] ws) (Thru rest) l → BeforeLoads (ws ∷ ld) l
        go (reads {ss = ss} a b) = absurd (member-none ss a)
        go (feeds {a = a} o c k) = by a (λ e n. more a e n (h a c)) (s.load_gives ws a l m k)
        go (leads i c k q) = absurd (member-none _ i)
        go (joins i c k q) = absurd (member-none _ i)
        go (stores w {n = n} {k = k} {x = u} o c q r) = by (SlotLane n k w) (λ e i. absurd (not-slot l (SlotLane n k w) r refl e)) (s.load_gives ws (SlotLane n k w) l m q)
        go (keeps {a = a} q k) = by a (λ e n. absurd (let i : R l ≡ true = ap R e ∙ q in let j = z.1 in cc)) (s.load_gives ws a l m k)

    pub before-loads : (ld : List Writes) → ((ws : Writes) → Member ws ld → Member ws loads) → (l : Lane) → Thru (silents ld ++ (y ∷ silents saves)) l → BeforeLoads ld l
    before-loads [] h l z = before-own l z
    before-loads (ws ∷ ld) h l z = load-step ws ld (silents ld ++ (y ∷ silents saves)) (h ws first) (before-loads ld (λ us m. h us (later m))) l z

    pub seated-bounded : IsBounded R C D Can (x ∷ []) (silents loads ++ (y ∷ silents saves)) p
    seated-bounded l z = go (before-loads loads (λ ws m. m) l z)
      where
        go : BeforeLoads loads l → Can (x ∷ p) l
        go (plain q r) = inl (q, r)
        go (held q) = inr q
        go (tiny q r n) = absurd (let i = s.loaded l q r in n i.0 i.1 i.2)
