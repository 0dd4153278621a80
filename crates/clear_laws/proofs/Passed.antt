-- Lanes of one slot that go to lanes of another through a further register, in place of an instruction that names the range.
use Rattle.std.proofs.Common.{◌≡◌, ◌<◌, ◌≤◌, ◌⊎◌, inl, inr, ◌++◌, ◌∙◌, Bool, true, false, ℕ, List, [], ◌∷◌, length, map, refl, sym, ap, subst, arith}
use Rattle.target_base.specs.declared.types.Target.{Target}
use Rattle.meaning.specs.Code.{Code, Item, Silent}
use Rattle.meaning.specs.Lanes.{Writes, filled}
use Rattle.meaning.specs.Live.{Writing, WritingEarly, is_slot}
use Rattle.meaning.specs.declared.types.Fill.TheVariants.{Moved}
use Rattle.meaning.specs.declared.types.Lane.{Lane}
use Rattle.meaning.specs.declared.types.Lane.TheVariants.{SlotLane, UnitLane, VirtualLane}
use Rattle.meaning.specs.declared.types.Source.TheVariants.{FromLane}
use Rattle.mir_func.specs.declared.func.Instr.{Instr}
use Rattle.mir_func.specs.declared.func.Block.{Block}
use Rattle.mir_func.specs.Value.{Function}
use Rattle.mir_meaning.specs.Points.{Entry, Exit, OccupiedAt, Point, from_instr, point_item}
use Rattle.instr_effects.proofs.Members.{member-none}
use Rattle.clear_laws.proofs.Bounds.{After, Makes, Through, along, at-phi, feeds, in-order, joins, keeps, leads, reads, stores}
use Rattle.clear_laws.proofs.PlaceBounds.{Wrote, is-further}
use Rattle.clear_laws.proofs.PlacesKept.{PlaceKept, Told}
use Rattle.clear_laws.proofs.Replaced.{F, G, IsPlain, May, Told-of, X, after-told, behind-told, live-told, written-told}
use Rattle.clear_laws.proofs.Seated.{IsFurther}

slot-form : (a : Lane) → is_slot a ≡ true → (n : ℕ) × (k : ℕ) × (w : ℕ) × (a ≡ SlotLane n k w)
slot-form (VirtualLane v k) e = absurd (cc)
slot-form (UnitLane u) e = absurd (cc)
slot-form (SlotLane n k w) e = (n, k, w, refl)

pub unlike-slot : (l a : Lane) → is_slot l ≡ false → is_slot a ≡ true → l ≡ a → ⊥
unlike-slot l a e g h = let m : is_slot l ≡ true = ap is_slot h ∙ g in cc

one-of-two : (front : List Instr) (u : Instr) (back : List Instr) (i j : Instr) → front ++ u ∷ back ≡ i ∷ j ∷ [] → ((u ≡ i) × (back ≡ j ∷ [])) ⊎ ((u ≡ j) × (back ≡ []))
one-of-two [] u back i j e = inl (cc, cc)
one-of-two (a ∷ []) u back i j e = inr (cc, cc)
one-of-two (a ∷ b ∷ []) u back i j e = absurd (cc)
one-of-two (a ∷ b ∷ c ∷ front) u back i j e = absurd (cc)

module _ (t : Target) (f g : Function) (v slot : ℕ) (wide : ℕ → Type 0) (stored : Code → ℕ → Type 0) (fs rs gs : Writes) (p : Code) where
  abbrev R : Lane → Bool
  R = X t f g v slot wide stored

  abbrev C : Code
  C = F t f g v slot wide stored

  abbrev D : Code
  D = G t f g v slot wide stored

  abbrev x : Item
  x = Silent [] fs

  abbrev load : Item
  load = Silent [] rs

  abbrev save : Item
  save = Silent [] gs

  abbrev Can : Code → Lane → Type 0
  Can q l = May t f g v slot wide stored q l

  abbrev Thru : List Item → Lane → Type 0
  Thru js l = Through R C D Can js (Can p) l

  -- The load writes lanes of a further range alone, from lanes of a slot, and the store lanes of a slot alone, from these.
  pub record IsPassed : Type 0 where
    pub load_lanes : (a : Lane) → Wrote rs a → IsFurther f a
    pub load_gives : (a l : Lane) → filled rs a ≡ Moved (FromLane l) → ((l ≡ a) × (Wrote rs a → ⊥)) ⊎ (Wrote rs a × (is_slot l ≡ true))
    pub save_lanes : (a : Lane) → Wrote gs a → is_slot a ≡ true
    -- what is stored was written
    pub saved : (a : Lane) → Wrote gs a → Told-of t f g v slot wide stored (Writing x) a
    pub save_gives : (b a : Lane) → filled gs b ≡ Moved (FromLane a) → ((a ≡ b) × (Wrote gs b → ⊥)) ⊎ (Wrote gs b × IsFurther f a × Wrote rs a)
    -- what may be live behind, and isn't stored, may be live before; and so may what the load reads for what is stored
    pub stays : (b : Lane) → Can p b → (Wrote gs b → ⊥) → Can (x ∷ p) b
    pub passes : (n k u w : ℕ) (a l : Lane) → Can p (SlotLane n k u) → filled gs (SlotLane n k w) ≡ Moved (FromLane a) → Wrote rs a → filled rs a ≡ Moved (FromLane l) → Can (x ∷ p) l

  module _ (s : IsPassed) where
    -- what may be live between the load and the store
    data Between (a : Lane) : Type 0 where
      still : Can p a → (Wrote gs a → ⊥) → Between a
      tiny : (n k u w : ℕ) → Can p (SlotLane n k u) → filled gs (SlotLane n k w) ≡ Moved (FromLane a) → IsFurther f a → Wrote rs a → Between a

    old : (a : Lane) → Can p a → IsFurther f a → ⊥
    old a (inl c) z =
        let h : IsPlain t f g v slot wide stored (VirtualLane z.0 z.1) = subst (IsPlain t f g v slot wide stored) z.2 c.0 in
        let i : z.0 < length f.classes = h.0 in let j : length f.classes ≤ z.0 = z.3 in omega arith
    old a (inr c) z = let e : VirtualLane z.0 z.1 ≡ SlotLane slot c.k c.w = sym z.2 ∙ c.is in cc

    before-save : (a : Lane) → Thru (save ∷ []) a → Between a
    before-save a z = go z.0
      where
        by : (b : Lane) → Can p b → filled gs b ≡ Moved (FromLane a) → ((a ≡ b) × (Wrote gs b → ⊥)) ⊎ (Wrote gs b × IsFurther f a × Wrote rs a) → Between a
        by b c h (inl q) = still (subst (Can p) (sym q.0) c) (λ w. q.1 (subst (Wrote gs) q.0 w))
        by b c h (inr q) =
            let i = slot-form b (s.save_lanes b q.0) in
            tiny i.0 i.1 i.2 i.2 (subst (Can p) i.3 c) (subst (λ d. filled gs d ≡ Moved (FromLane a)) i.3 h) q.1 q.2

        widened : (n k u w : ℕ) → Can p (SlotLane n k u) → filled gs (SlotLane n k w) ≡ Moved (FromLane a) → is_slot a ≡ false → ((a ≡ SlotLane n k w) × (Wrote gs (SlotLane n k w) → ⊥)) ⊎ (Wrote gs (SlotLane n k w) × IsFurther f a × Wrote rs a) → Between a
        widened n k u w c h e (inl q) = absurd (unlike-slot a (SlotLane n k w) e refl q.0)
        widened n k u w c h e (inr q) = tiny n k u w c h q.1 q.2

        reserved : (b : Lane) → R b ≡ true → ((a ≡ b) × (Wrote gs b → ⊥)) ⊎ (Wrote gs b × IsFurther f a × Wrote rs a) → Between a
        reserved b e (inl q) = absurd (let i : R a ≡ true = ap R q.0 ∙ e in let j = z.1 in cc)
        reserved b e (inr q) = absurd (let i = slot-form b (s.save_lanes b q.0) in let j : R b ≡ false = ap R i.3 in cc)

        go : Makes R C D Can save (Can p) a → Between a
        go (reads {ss = ss} b c) = absurd (member-none ss b)
        go (feeds {a = b} o c h) = by b c h (s.save_gives b a h)
        go (leads m c h k) = absurd (member-none _ m)
        go (joins m c h k) = absurd (member-none _ m)
        go (stores w {n = n} {k = k} {x = u} o c h e) = widened n k u w c h e (s.save_gives (SlotLane n k w) a h)
        go (keeps {a = b} q h) = reserved b q (s.save_gives b a h)

    before-load : (l : Lane) → Thru (load ∷ save ∷ []) l → Can (x ∷ p) l
    before-load l z = go z.0
      where
        by : (a : Lane) → Between a → filled rs a ≡ Moved (FromLane l) → ((l ≡ a) × (Wrote rs a → ⊥)) ⊎ (Wrote rs a × (is_slot l ≡ true)) → Can (x ∷ p) l
        by a (still c n) h (inl q) = subst (Can (x ∷ p)) (sym q.0) (s.stays a c n)
        by a (still c n) h (inr q) = absurd (old a c (s.load_lanes a q.0))
        by a (tiny m k u w c i j r) h q = s.passes m k u w a l c i r h

        widened : (n k w : ℕ) → is_slot l ≡ false → ((l ≡ SlotLane n k w) × (Wrote rs (SlotLane n k w) → ⊥)) ⊎ (Wrote rs (SlotLane n k w) × (is_slot l ≡ true)) → Can (x ∷ p) l
        widened n k w e (inl q) = absurd (unlike-slot l (SlotLane n k w) e refl q.0)
        widened n k w e (inr q) = absurd (let i = q.1 in cc)

        reserved : (a : Lane) → R a ≡ true → ((l ≡ a) × (Wrote rs a → ⊥)) ⊎ (Wrote rs a × (is_slot l ≡ true)) → Can (x ∷ p) l
        reserved a e (inl q) = absurd (let i : R l ≡ true = ap R q.0 ∙ e in let j = z.1 in cc)
        reserved a e (inr q) = absurd (let i = s.load_lanes a q.0 in let j : R a ≡ false = ap R i.2 in cc)

        go : Makes R C D Can load (Thru (save ∷ [])) l → Can (x ∷ p) l
        go (reads {ss = ss} b c) = absurd (member-none ss b)
        go (feeds {a = a} o c h) = by a (before-save a c) h (s.load_gives a l h)
        go (leads m c h k) = absurd (member-none _ m)
        go (joins m c h k) = absurd (member-none _ m)
        go (stores w {n = n} {k = k} {x = u} o c h e) = widened n k w e (s.load_gives (SlotLane n k w) l h)
        go (keeps {a = a} q h) = reserved a q (s.load_gives a l h)

    module _ (b c : Block) (i j m : Instr) (is : point_item t f b i ≡ x) (loads : point_item t g c j ≡ load) (saves : point_item t g c m ≡ save) (stands : from_instr t f i.id f.blocks ≡ x ∷ p) where
      abbrev IsTold : (Lane → Type 0) → Type 0
      IsTold P = Told t f g v slot wide stored P

      abbrev At : Point → Lane → Type 0
      At q l = Told-of t f g v slot wide stored (OccupiedAt t f q) l

      abbrev Behind : Item → List Item → Lane → Type 0
      Behind u js l = After R C D Can u (Thru js) l

      at-exit : (l : Lane) → R l ≡ false → Can p l → At (Exit i.id) l
      at-exit l r z = after-told t f g v slot wide stored i x p stands l r (behind-told t f g v slot wide stored x p refl l z)

      between : (l : Lane) → R l ≡ false → Between l → At (Exit i.id) l
      between l r (still z n) = at-exit l r z
      between l r (tiny n k u w z h q y) = is-further q

      load-entry : IsTold (λ l. Thru (load ∷ save ∷ []) l ⊎ WritingEarly load l)
      load-entry = (Entry i.id, λ l r z. go l r z)
        where
          go : (l : Lane) → R l ≡ false → Thru (load ∷ save ∷ []) l ⊎ WritingEarly load l → At (Entry i.id) l
          go l r (inl z) = live-told t f g v slot wide stored i x p stands l r (before-load l z)
          go l r (inr z) = is-further (s.load_lanes l (z.0, z.1, z.2))

      load-exit : IsTold (λ l. Behind load (save ∷ []) l ⊎ Writing load l)
      load-exit = (Exit i.id, λ l r z. go l r z)
        where
          go : (l : Lane) → R l ≡ false → Behind load (save ∷ []) l ⊎ Writing load l → At (Exit i.id) l
          go l r (inl (in-order o z)) = between l r (before-save l z)
          go l r (inl (along k z q)) = absurd (member-none _ k)
          go l r (inl (at-phi k z q)) = absurd (member-none _ k)
          go l r (inr z) = is-further (s.load_lanes l z)

      save-entry : IsTold (λ l. Thru (save ∷ []) l ⊎ WritingEarly save l)
      save-entry = (Exit i.id, λ l r z. go l r z)
        where
          go : (l : Lane) → R l ≡ false → Thru (save ∷ []) l ⊎ WritingEarly save l → At (Exit i.id) l
          go l r (inl z) = between l r (before-save l z)
          go l r (inr z) = written-told t f g v slot wide stored i x p stands l r (s.saved l (z.0, z.1, z.2))

      save-exit : IsTold (λ l. Behind save [] l ⊎ Writing save l)
      save-exit = (Exit i.id, λ l r z. go l r z)
        where
          go : (l : Lane) → R l ≡ false → Behind save [] l ⊎ Writing save l → At (Exit i.id) l
          go l r (inl (in-order o z)) = at-exit l r z
          go l r (inl (along k z q)) = absurd (member-none _ k)
          go l r (inl (at-phi k z q)) = absurd (member-none _ k)
          go l r (inr z) = written-told t f g v slot wide stored i x p stands l r (s.saved l z)

      abbrev item : Instr → Item
      item u = point_item t g c u

      entries : (u : Instr) (back : List Instr) → ((u ≡ j) × (back ≡ m ∷ [])) ⊎ ((u ≡ m) × (back ≡ [])) → IsTold (λ l. Thru (map item (u ∷ back)) l ⊎ WritingEarly (item u) l)
      entries u back (inl z) =
          subst (λ k. IsTold (λ l. Thru (item u ∷ map item k) l ⊎ WritingEarly (item u) l)) (sym z.1)
          (subst (λ k. IsTold (λ l. Thru (k ∷ item m ∷ []) l ⊎ WritingEarly k l)) (sym (ap item z.0 ∙ loads))
          (subst (λ k. IsTold (λ l. Thru (load ∷ k ∷ []) l ⊎ WritingEarly load l)) (sym saves) load-entry))
      entries u back (inr z) =
          subst (λ k. IsTold (λ l. Thru (item u ∷ map item k) l ⊎ WritingEarly (item u) l)) (sym z.1)
          (subst (λ k. IsTold (λ l. Thru (k ∷ []) l ⊎ WritingEarly k l)) (sym (ap item z.0 ∙ saves)) save-entry)

      exits : (u : Instr) (back : List Instr) → ((u ≡ j) × (back ≡ m ∷ [])) ⊎ ((u ≡ m) × (back ≡ [])) → IsTold (λ l. Behind (item u) (map item back) l ⊎ Writing (item u) l)
      exits u back (inl z) =
          subst (λ k. IsTold (λ l. Behind (item u) (map item k) l ⊎ Writing (item u) l)) (sym z.1)
          (subst (λ k. IsTold (λ l. Behind k (item m ∷ []) l ⊎ Writing k l)) (sym (ap item z.0 ∙ loads))
          (subst (λ k. IsTold (λ l. Behind load (k ∷ []) l ⊎ Writing load l)) (sym saves) load-exit))
      exits u back (inr z) =
          subst (λ k. IsTold (λ l. Behind (item u) (map item k) l ⊎ Writing (item u) l)) (sym z.1)
          (subst (λ k. IsTold (λ l. Behind k [] l ⊎ Writing k l)) (sym (ap item z.0 ∙ saves)) save-exit)

      pub passed-kept : PlaceKept t f g v slot wide stored b c (i ∷ []) (j ∷ m ∷ []) p
      passed-kept = record {
        bounds = λ l z. subst (λ k. Can (k ∷ p) l) (sym is) (before-load l (subst (λ k. Thru (k ∷ save ∷ []) l) loads (subst (λ k. Thru (item j ∷ k ∷ []) l) saves z)));
        entry = λ front u back e. entries u back (one-of-two front u back j m e);
        exit = λ front u back e. exits u back (one-of-two front u back j m e);
      }
