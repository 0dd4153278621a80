-- An instruction in another one's place: it stays, or lanes of the range go to its slot, or come from it.
use Rattle.std.proofs.Common.{◌≡◌, ◌⊎◌, inl, inr, ◌++◌, ◌∙◌, Bool, true, false, ℕ, List, [], ◌∷◌, length, map, sym, ap, subst}
use Rattle.target_base.specs.declared.types.Target.{Target}
use Rattle.meaning.specs.Code.{Code, Item}
use Rattle.meaning.specs.Live.{Live, LiveAfter, OccupiedAfter, OccupiedBefore, Writing, WritingEarly, after_next, in_order}
use Rattle.meaning.specs.declared.types.Lane.{Lane}
use Rattle.mir_func.specs.declared.func.Instr.{Instr}
use Rattle.mir_func.specs.declared.func.Block.{Block}
use Rattle.mir_func.specs.Value.{Function}
use Rattle.mir_meaning.specs.Points.{AtFirst, Entry, Exit, OccupiedAt, from_instr, point_item}
use Rattle.clear_laws.proofs.Bounds.{After, IsBounded, Through}
use Rattle.clear_laws.proofs.PlaceBounds.{GoesOn, IsHeld, KeptLane, Plain, StaysBeside, as-itself, stays-after, stays-bounded}
use Rattle.clear_laws.proofs.PlacesKept.{C, D, MayBe, PlaceKept, R, Told, WasSo, may-so, so-free, so-more}
use Rattle.clear_laws.specs.Spills.{HasEarlyReload}

only-one : (front : List Instr) (y : Instr) (back : List Instr) (j : Instr) → front ++ y ∷ back ≡ j ∷ [] → (y ≡ j) × (back ≡ [])
only-one [] y back j e = (cc, cc)
only-one (z ∷ front) y back j e = absurd (no-more front (cc))
  where
    no-more : (front : List Instr) → front ++ y ∷ back ≡ [] → ⊥
    no-more [] e = cc
    no-more (x ∷ front) e = cc

module _ (t : Target) (f g : Function) (v slot : ℕ) (wide : ℕ → Type 0) (stored : Code → ℕ → Type 0) where
  abbrev pub May : Code → Lane → Type 0
  May p l = MayBe t f g v slot wide stored p l

  abbrev pub X : Lane → Bool
  X = R t f g v slot wide stored

  abbrev pub F : Code
  F = C t f g v slot wide stored

  abbrev pub G : Code
  G = D t f g v slot wide stored

  abbrev pub Before : List Item → Code → Lane → Type 0
  Before js p l = Through X F G May js (May p) l

  abbrev pub Behind : Item → Code → Lane → Type 0
  Behind y p l = After X F G May y (May p) l

  abbrev pub Held : Code → Lane → Type 0
  Held p l = IsHeld X F G (length f.classes) v slot wide stored p l

  abbrev pub IsPlain : Lane → Type 0
  IsPlain l = Plain X F G (length f.classes) v slot wide stored l

  -- the slot holds lane k, or it is live there itself
  abbrev pub IsKept : Code → ℕ → Type 0
  IsKept p k = KeptLane X F G (length f.classes) v slot wide stored p k

  -- what held of lanes of f, told of lanes of g
  abbrev pub Told-of : (Lane → Type 0) → Lane → Type 0
  Told-of P l = WasSo t f g v slot wide stored P l

  pub told-more : (P Q : Lane → Type 0) → ((a : Lane) → P a → Q a) → (l : Lane) → Told-of P l → Told-of Q l
  told-more P Q h l z = so-more t f g v slot wide stored P Q h l z

  pub may-told : (p : Code) (l : Lane) → May p l → Told-of (Live X F p) l
  may-told p l z = may-so t f g v slot wide stored p l z

  -- what may be live behind an item in order was live behind it
  pub behind-told : (x : Item) (p : Code) → in_order x ≡ true → (l : Lane) → May p l → Told-of (LiveAfter X F x p) l
  behind-told x p o l z = told-more (Live X F p) (LiveAfter X F x p) (λ a h. after_next o h) l (may-told p l z)

  -- item y in the place of item x, which p follows
  pub record Replaces (x y : Item) (p : Code) : Type 0 where
    pub bounds : IsBounded X F G May (x ∷ []) (y ∷ []) p
    -- what lanes hold before it they held before x, or else behind x
    pub entry : ((l : Lane) → WritingEarly y l → Told-of (WritingEarly x) l) ⊎ ((l : Lane) → Before (y ∷ []) p l → Told-of (LiveAfter X F x p) l)
    pub after : (l : Lane) → Behind y p l → Told-of (LiveAfter X F x p) l
    pub writes : (l : Lane) → Writing y l → Told-of (Writing x) l

  module _ (i : Instr) (x : Item) (p : Code) (stands : from_instr t f i.id f.blocks ≡ x ∷ p) where
    -- what is live before the item, or written early, is occupied at the entry
    pub entry-told : (l : Lane) → X l ≡ false → Told-of (λ a. Live X F (x ∷ p) a ⊎ WritingEarly x a) l → Told-of (OccupiedAt t f (Entry i.id)) l
    entry-told l free h =
        told-more (λ a. (Live X F (x ∷ p) a ⊎ WritingEarly x a) × (X a ≡ false)) (OccupiedAt t f (Entry i.id)) (λ a z. subst (AtFirst (λ i p. OccupiedBefore X F i p a)) (sym stands) z) l
        (so-free t f g v slot wide stored (λ a. Live X F (x ∷ p) a ⊎ WritingEarly x a) l free h)

    pub live-told : (l : Lane) → X l ≡ false → May (x ∷ p) l → Told-of (OccupiedAt t f (Entry i.id)) l
    live-told l free h = entry-told l free (told-more (Live X F (x ∷ p)) (λ a. Live X F (x ∷ p) a ⊎ WritingEarly x a) (λ a z. inl z) l (may-told (x ∷ p) l h))

    pub early-told : (l : Lane) → X l ≡ false → Told-of (WritingEarly x) l → Told-of (OccupiedAt t f (Entry i.id)) l
    early-told l free h = entry-told l free (told-more (WritingEarly x) (λ a. Live X F (x ∷ p) a ⊎ WritingEarly x a) (λ a z. inr z) l h)

    -- what is live behind it, or written, at the exit
    exit-told : (l : Lane) → X l ≡ false → Told-of (λ a. LiveAfter X F x p a ⊎ Writing x a) l → Told-of (OccupiedAt t f (Exit i.id)) l
    exit-told l free h =
        told-more (λ a. (LiveAfter X F x p a ⊎ Writing x a) × (X a ≡ false)) (OccupiedAt t f (Exit i.id)) (λ a z. subst (AtFirst (λ i p. OccupiedAfter X F i p a)) (sym stands) z) l
        (so-free t f g v slot wide stored (λ a. LiveAfter X F x p a ⊎ Writing x a) l free h)

    pub after-told : (l : Lane) → X l ≡ false → Told-of (LiveAfter X F x p) l → Told-of (OccupiedAt t f (Exit i.id)) l
    after-told l free h = exit-told l free (told-more (LiveAfter X F x p) (λ a. LiveAfter X F x p a ⊎ Writing x a) (λ a z. inl z) l h)

    pub written-told : (l : Lane) → X l ≡ false → Told-of (Writing x) l → Told-of (OccupiedAt t f (Exit i.id)) l
    written-told l free h = exit-told l free (told-more (Writing x) (λ a. LiveAfter X F x p a ⊎ Writing x a) (λ a z. inr z) l h)

  module _ (b c : Block) (i j : Instr) (p : Code) (x y : Item) (is : point_item t f b i ≡ x) (now : point_item t g c j ≡ y) (stands : from_instr t f i.id f.blocks ≡ x ∷ p) (r : Replaces x y p) where
    at-entry : Told t f g v slot wide stored (λ l. Before (y ∷ []) p l ⊎ WritingEarly y l)
    at-entry = go r.entry
      where
        go : ((l : Lane) → WritingEarly y l → Told-of (WritingEarly x) l) ⊎ ((l : Lane) → Before (y ∷ []) p l → Told-of (LiveAfter X F x p) l) → Told t f g v slot wide stored (λ l. Before (y ∷ []) p l ⊎ WritingEarly y l)
        go (inl early) = (Entry i.id, λ l free h. by l free h)
          where
            by : (l : Lane) → X l ≡ false → Before (y ∷ []) p l ⊎ WritingEarly y l → Told-of (OccupiedAt t f (Entry i.id)) l
            by l free (inl h) = live-told i x p stands l free (r.bounds l h)
            by l free (inr h) = early-told i x p stands l free (early l h)
        go (inr late) = (Exit i.id, λ l free h. by l free h)
          where
            by : (l : Lane) → X l ≡ false → Before (y ∷ []) p l ⊎ WritingEarly y l → Told-of (OccupiedAt t f (Exit i.id)) l
            by l free (inl h) = after-told i x p stands l free (late l h)
            by l free (inr h) = written-told i x p stands l free (r.writes l (h.0, h.1, h.2))

    at-exit : Told t f g v slot wide stored (λ l. Behind y p l ⊎ Writing y l)
    at-exit = (Exit i.id, λ l free h. by l free h)
      where
        by : (l : Lane) → X l ≡ false → Behind y p l ⊎ Writing y l → Told-of (OccupiedAt t f (Exit i.id)) l
        by l free (inl h) = after-told i x p stands l free (r.after l h)
        by l free (inr h) = written-told i x p stands l free (r.writes l h)

    pub replaced-kept : PlaceKept t f g v slot wide stored b c (i ∷ []) (j ∷ []) p
    replaced-kept = record {
      bounds = λ l h. subst (λ z. May (z ∷ p) l) (sym is) (r.bounds l (subst (λ z. Before (z ∷ []) p l) now h));
      entry = λ front u back e. (let z = only-one front u back j e in
          let same : point_item t g c u ≡ y = ap (point_item t g c) z.0 ∙ now in
          (at-entry.0, λ l free h. at-entry.1 l free (subst (λ q. Before (q ∷ []) p l ⊎ WritingEarly q l) same (subst (λ us. Before (point_item t g c u ∷ map (point_item t g c) us) p l ⊎ WritingEarly (point_item t g c u) l) z.1 h))));
      exit = λ front u back e. (let z = only-one front u back j e in
          let same : point_item t g c u ≡ y = ap (point_item t g c) z.0 ∙ now in
          (at-exit.0, λ l free h. at-exit.1 l free (subst (λ q. Behind q p l ⊎ Writing q l) same (subst (λ us. After X F G May (point_item t g c u) (Before (map (point_item t g c) us) p) l ⊎ Writing (point_item t g c u) l) z.1 h))));
    }

  -- an instruction that goes
  pub gone-kept : (b c : Block) (i : Instr) (p : Code) → ((l : Lane) → May p l → May (point_item t f b i ∷ p) l) → PlaceKept t f g v slot wide stored b c (i ∷ []) [] p
  gone-kept b c i p h = record { bounds = h; entry = λ front u back e. absurd (no-place front u back e); exit = λ front u back e. absurd (no-place front u back e) }
    where
      no-place : (front : List Instr) (u : Instr) (back : List Instr) → front ++ u ∷ back ≡ [] → ⊥
      no-place [] u back e = cc
      no-place (z ∷ front) u back e = cc

  module _ (on : GoesOn X F G (length f.classes) v slot wide stored) where
    -- one that stays
    pub stays-replaces : (x : Item) (p : Code) → StaysBeside X F G (length f.classes) v slot wide stored x p → Replaces x x p
    stays-replaces x p z = record {
      bounds = stays-bounded X F G (length f.classes) v slot wide stored on x p z;
      entry = inl (λ l h. as-itself (z.writes l (h.0, h.1, h.2)) h);
      after = stays-after X F G (length f.classes) v slot wide stored on x p z (HasEarlyReload t);
      writes = λ l h. as-itself (z.writes l h) h;
    }
