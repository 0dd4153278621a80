-- Places of a function with a range spilled: what may be live before each, where this may be live behind it.
use Rattle.std.proofs.Common.{◌≡◌, ◌<◌, ◌≤◌, ◌⊎◌, inl, inr, ◌∙◌, Bool, true, false, cond, ℕ, List, [], ◌∷◌, refl, sym, ap, subst}
use Rattle.meaning.specs.Code.{Code, Edge, Item, found}
use Rattle.meaning.specs.Lanes.{Writes, filled, same_lane}
use Rattle.meaning.specs.Live.{Among as Member, here as first, there as later, Feeds, Live, LiveAfter, Writing, after_leap, after_next, exits_of, in_order, is_slot, kept, leap, next, read, reads_of, store, writes_of}
use Rattle.meaning.specs.declared.types.Fill.TheVariants.{Moved}
use Rattle.meaning.specs.declared.types.Lane.{Lane}
use Rattle.meaning.specs.declared.types.Lane.TheVariants.{SlotLane, UnitLane, VirtualLane}
use Rattle.meaning.specs.declared.types.Source.{Source}
use Rattle.meaning.specs.declared.types.Source.TheVariants.{FromLane}
use Rattle.meaning.specs.declared.types.Write.{Write}
use Rattle.laws.proofs.Flow.{filled-from, lane-inj}
use Rattle.laws.proofs.Quiet.{same-refl, same-true}
use Rattle.instr_effects.proofs.Members.{member-elim, member-none}
use Rattle.clear_laws.proofs.Bounds.{After, IsBounded, Makes, along, at-phi, feeds, in-order, joins, keeps, leads, reads, stores}
use Rattle.clear_laws.proofs.SplitPoints.{free}

-- these writes are of the lane
abbrev pub Wrote : Writes → Lane → Type 0
Wrote ws a = (w : Write) × Member w ws × (w.lane ≡ a)

-- one of the writes is of the lane, or none is
pub wrote-or-not : (ws : Writes) (a : Lane) → Wrote ws a ⊎ (Wrote ws a → ⊥)
wrote-or-not [] a = inr (λ z. member-none z.0 z.1)
wrote-or-not (w ∷ ws) a = go (same_lane w.lane a) refl (wrote-or-not ws a)
  where
    go : (b : Bool) → same_lane w.lane a ≡ b → Wrote ws a ⊎ (Wrote ws a → ⊥) → Wrote (w ∷ ws) a ⊎ (Wrote (w ∷ ws) a → ⊥)
    go true e ih = inl (w, first, same-true w.lane a e)
    go false e (inl z) = inl (z.0, later z.1, z.2)
    go false e (inr none) =
        inr (λ z. member-elim z.0 w ws
        (λ q. absurd (let h : same_lane w.lane a ≡ true = ap (λ b. same_lane b a) (sym (ap (λ (y : Write). y.lane) q) ∙ z.2) ∙ same-refl a in cc))
        (λ k. none (z.0, k, z.2)) z.1)

-- a lane that no write is of stays
pub unwritten : (ws : Writes) (a : Lane) → ((w : Write) × Member w ws × (w.lane ≡ a) → ⊥) → filled ws a ≡ Moved (FromLane a)
unwritten [] a h = refl
unwritten (w ∷ ws) a h = go (same_lane w.lane a) refl (unwritten ws a (λ z. h (z.0, later z.1, z.2)))
  where
    go : (b : Bool) → same_lane w.lane a ≡ b → filled ws a ≡ Moved (FromLane a) → cond b w.fill (filled ws a) ≡ Moved (FromLane a)
    go true e ih = absurd (h (w, first, same-true w.lane a e))
    go false e ih = ih

pub bare-phis : (ws : Writes) (a b : Lane) → ws ≡ [] → filled ws a ≡ Moved (FromLane b) → a ≡ b
bare-phis ws a b none g = lane-inj a b (sym (ap (λ x. filled x a) none) ∙ g)

pub slot-same : (n m k j w x : ℕ) → SlotLane n k w ≡ SlotLane m j x → (n ≡ m) × (k ≡ j)
slot-same n m k j w x e = (cc, cc)

-- Range v of a function with n ranges is spilled to the slot.
module _ (n v slot : ℕ) where
  -- a lane of another range of the function, a unit, or a lane of a slot
  abbrev pub PlainLane : Lane → Type 0
  PlainLane (VirtualLane w k) = (w < n) × (w ≡ v → ⊥)
  PlainLane (UnitLane u) = Unit {0}
  PlainLane (SlotLane s k w) = Unit {0}

  -- a lane of a further range
  abbrev pub FurtherLane : Lane → Type 0
  FurtherLane l = (c : ℕ) × (k : ℕ) × (l ≡ VirtualLane c k) × (n ≤ c)

  -- A statement on lanes before the spill, told of one behind it: it holds of the lane itself, or, for one of the slot, of the
  -- same lane of the range or of the slot at another width. Of lanes of further ranges nothing is told, nor, where E holds, of the
  -- slot's.
  pub data Was (E : Type 0) (P : Lane → Type 0) (l : Lane) : Type 0 where
    as-itself : PlainLane l → P l → Was E P l
    as-range : (k w : ℕ) → l ≡ SlotLane slot k w → P (VirtualLane v k) → Was E P l
    as-slot : (k w u : ℕ) → l ≡ SlotLane slot k w → P (SlotLane slot k u) → Was E P l
    is-further : FurtherLane l → Was E P l
    untold : E → (k w : ℕ) → l ≡ SlotLane slot k w → Was E P l

  pub was-more : (E : Type 0) (P Q : Lane → Type 0) → ((a : Lane) → P a → Q a) → (l : Lane) → Was E P l → Was E Q l
  was-more E P Q h l (as-itself z x) = as-itself z (h l x)
  was-more E P Q h l (as-range k w e x) = as-range k w e (h (VirtualLane v k) x)
  was-more E P Q h l (as-slot k w u e x) = as-slot k w u e (h (SlotLane slot k u) x)
  was-more E P Q h l (is-further z) = is-further z
  was-more E P Q h l (untold z k w e) = untold z k w e

-- `wide` tells the widths at which a store writes lanes of a slot, and `stored` at which places the slot holds a lane of the range.
module _ (R : Lane → Bool) (C D : Code) (n v slot : ℕ) (wide : ℕ → Type 0) (stored : Code → ℕ → Type 0) where
  abbrev pub Plain : Lane → Type 0
  Plain l = PlainLane n v slot l

  -- a lane of the slot is live at some width, or one of the range that it holds
  abbrev pub KeptLane : Code → ℕ → Type 0
  KeptLane p k = ((u : ℕ) × wide u × Live R C p (SlotLane slot k u)) ⊎ (Live R C p (VirtualLane v k) × stored p k)

  -- such a lane of the slot, at any of the widths
  pub record IsHeld (p : Code) (l : Lane) : Type 0 where
    pub k : ℕ
    pub w : ℕ
    pub is : l ≡ SlotLane slot k w
    pub fits : wide w
    pub from : KeptLane p k

  -- what may be live behind the spill
  abbrev pub May : Code → Lane → Type 0
  May p l = (Plain l × Live R C p l) ⊎ IsHeld p l

  -- the slot holds a lane before an instruction that doesn't write the range's, where it does behind it
  pub record GoesOn : Type 0 where
    pub back : (i : Item) (p : Code) (k : ℕ) → in_order i ≡ true → (Writing i (VirtualLane v k) → ⊥) → stored p k → stored (i ∷ p) k
    pub along : (i : Item) (p : Code) (e : Edge) (k : ℕ) → Member e (exits_of i) → (Writing i (VirtualLane v k) → ⊥) → stored (found e.block C) k → stored (i ∷ p) k

  -- An item, which p follows, that stays as it is: it names neither the range nor further ones. It writes no lane of the slot where
  -- the range's lane is live behind it, and where it writes one it does so at all widths, from a register.
  pub record StaysBeside (i : Item) (p : Code) : Type 0 where
    pub reads : (ss : List Source) (l : Lane) → Member ss (reads_of i) → Member (FromLane l) ss → Plain l
    pub moves : (w : Write) (l : Lane) → Member w (writes_of i) → w.fill ≡ Moved (FromLane l) → Plain l
    pub writes : (l : Lane) → Writing i l → Plain l
    pub bare : (e : Edge) → Member e (exits_of i) → e.phis ≡ []
    pub apart : (k w : ℕ) → LiveAfter R C i p (VirtualLane v k) → Writing i (SlotLane slot k w) → ⊥
    pub slots : (k u w : ℕ) → wide u → wide w → Writing i (SlotLane slot k u) → Writing i (SlotLane slot k w)
    pub registers : (k w : ℕ) (l : Lane) → Writing i (SlotLane slot k w) → filled (writes_of i) (SlotLane slot k w) ≡ Moved (FromLane l) → is_slot l ≡ false
    pub leaves : (e : Edge) (k w : ℕ) → Member e (exits_of i) → Writing i (SlotLane slot k w) → ⊥

  module _ (on : GoesOn) (i : Item) (p : Code) (x : StaysBeside i p) where
    own : (k : ℕ) → Writing i (VirtualLane v k) → ⊥
    own k z = (x.writes (VirtualLane v k) z).1 refl

    fed-plain : (l a : Lane) → Plain a → Feeds i l a → Plain l
    fed-plain l a h f = go (filled-from (writes_of i) a l f)
      where
        go : (l ≡ a) ⊎ ((w : Write) × Member w (writes_of i) × (w.fill ≡ Moved (FromLane l))) → Plain l
        go (inl e) = subst Plain (sym e) h
        go (inr z) = x.moves z.0 l z.1 z.2

    unwritten-slot : (k w : ℕ) → (Writing i (SlotLane slot k w) → ⊥) → filled (writes_of i) (SlotLane slot k w) ≡ Moved (FromLane (SlotLane slot k w))
    unwritten-slot k w none = unwritten (writes_of i) (SlotLane slot k w) none

    -- a lane that feeds one of the slot that isn't written is that one
    fed-same : (l : Lane) (k w : ℕ) → (Writing i (SlotLane slot k w) → ⊥) → Feeds i l (SlotLane slot k w) → l ≡ SlotLane slot k w
    fed-same l k w none f = sym (lane-inj (SlotLane slot k w) l (sym (unwritten-slot k w none) ∙ f))

    -- the slot's lane is held before it, where it is held behind it in order
    held-back : (l : Lane) (k w : ℕ) → R l ≡ false → in_order i ≡ true → wide w → KeptLane p k → Feeds i l (SlotLane slot k w) → May (i ∷ p) l
    held-back l k w r o fits (inr z) f =
        inr (record {
          k = k;
          w = w;
          is = fed-same l k w (x.apart k w (after_next o z.0)) f;
          fits = fits;
          from = inr (next o z.0 (unwritten (writes_of i) (VirtualLane v k) (own k)) (free z.0), on.back i p k o (own k) z.1);
        })
    held-back l k w r o fits (inl z) f = go (wrote-or-not (writes_of i) (SlotLane slot k z.0))
      where
        go : Writing i (SlotLane slot k z.0) ⊎ (Writing i (SlotLane slot k z.0) → ⊥) → May (i ∷ p) l
        go (inl y) = let u = x.slots k z.0 w z.1 fits y in inl (fed-plain l (SlotLane slot k w) tt f, store w o z.2 f (x.registers k w l u f) r)
        go (inr none) =
            inr (record {
              k = k;
              w = w;
              is = fed-same l k w (λ y. none (x.slots k w z.0 fits z.1 y)) f;
              fits = fits;
              from = inl (z.0, z.1, next o z.2 (unwritten-slot k z.0 none) (free z.2));
            })

    -- and where it is held on a way
    held-along : (l : Lane) (e : Edge) (k w : ℕ) → Member e (exits_of i) → wide w → KeptLane (found e.block C) k → Feeds i l (SlotLane slot k w) → May (i ∷ p) l
    held-along l e k w m fits h f =
        inr (record { k = k; w = w; is = fed-same l k w (x.leaves e k w m) f; fits = fits; from = go h })
      where
        go : KeptLane (found e.block C) k → KeptLane (i ∷ p) k
        go (inl z) = inl (z.0, z.1, leap m z.2 (ap (λ ws. filled ws (SlotLane slot k z.0)) (x.bare e m)) (unwritten-slot k z.0 (x.leaves e k z.0 m)) (free z.2))
        go (inr z) = inr (leap m z.0 (ap (λ ws. filled ws (VirtualLane v k)) (x.bare e m)) (unwritten (writes_of i) (VirtualLane v k) (own k)) (free z.0), on.along i p e k m (own k) z.1)

    -- a register that is stored where the slot's lane is held at some width
    stored-back : (l : Lane) (m k u w : ℕ) → R l ≡ false → in_order i ≡ true → (y : IsHeld p (SlotLane m k u)) → Feeds i l (SlotLane m k w) → is_slot l ≡ false → May (i ∷ p) l
    stored-back l m k u w r o y f s = go y.from
      where
        e : (m ≡ slot) × (k ≡ y.k)
        e = slot-same m slot k y.k u y.w y.is

        f' : Feeds i l (SlotLane slot y.k w)
        f' = subst (λ a. filled (writes_of i) a ≡ Moved (FromLane l)) (λ q. SlotLane (e.0 q) (e.1 q) w) f

        go : KeptLane p y.k → May (i ∷ p) l
        go (inl z) = inl (fed-plain l (SlotLane slot y.k w) tt f', store w o z.2 f' s r)
        go (inr z) = absurd (let g : is_slot l ≡ true = ap is_slot (fed-same l y.k w (x.apart y.k w (after_next o z.0)) f') in cc)

    made : (l : Lane) → R l ≡ false → Makes R C D May i (May p) l → May (i ∷ p) l
    made l r (reads y z) = inl (x.reads _ l y z, read y z r)
    made l r (feeds {a = a} o (inl y) f) = inl (fed-plain l a y.0 f, next o y.1 f r)
    made l r (feeds {a = a} o (inr y) f) = held-back l y.k y.w r o y.fits y.from (subst (λ c. Feeds i l c) y.is f)
    made l r (leads {e = e} {a = a} {b = b} m (inl y) g f) = inl (fed-plain l b (subst Plain (bare-phis e.phis a b (x.bare e m) g) y.0) f, leap m y.1 g f r)
    made l r (leads {e = e} {a = a} {b = b} m (inr y) g f) = held-along l e y.k y.w m y.fits y.from (subst (λ c. Feeds i l c) (sym (bare-phis e.phis a b (x.bare e m) g) ∙ y.is) f)
    made l r (joins {e = e} {w = w} m y g f) = absurd (member-none w (subst (Member w) (x.bare e m) y))
    made l r (stores w {n = m} {k = k} {x = u} o (inl y) f s) = inl (fed-plain l (SlotLane m k w) tt f, store w o y.1 f s r)
    made l r (stores w {n = m} {k = k} {x = u} o (inr y) f s) = stored-back l m k u w r o y f s
    made l r (keeps {a = a} q f) = inl (go (filled-from (writes_of i) a l f), kept q f r)
      where
        go : (l ≡ a) ⊎ ((w : Write) × Member w (writes_of i) × (w.fill ≡ Moved (FromLane l))) → Plain l
        go (inl e) = absurd (let z : R l ≡ true = ap R e ∙ q in cc)
        go (inr z) = x.moves z.0 l z.1 z.2

    pub stays-bounded : IsBounded R C D May (i ∷ []) (i ∷ []) p
    stays-bounded l z = made l z.1 z.0

    -- what may be live behind it in D was live behind it
    pub stays-after : (E : Type 0) (l : Lane) → After R C D May i (May p) l → Was n v slot E (LiveAfter R C i p) l
    stays-after E l (in-order o (inl y)) = as-itself y.0 (after_next o y.1)
    stays-after E l (in-order o (inr y)) = go y.from
      where
        go : KeptLane p y.k → Was n v slot E (LiveAfter R C i p) l
        go (inl z) = as-slot y.k y.w z.0 y.is (after_next o z.2)
        go (inr z) = as-range y.k y.w y.is (after_next o z.0)
    stays-after E l (along {e = e} {a = a} m (inl y) h) = as-itself (subst Plain (bare-phis e.phis a l (x.bare e m) h) y.0) (after_leap m y.1 h)
    stays-after E l (along {e = e} {a = a} m (inr y) h) = go y.from
      where
        is : l ≡ SlotLane slot y.k y.w
        is = sym (bare-phis e.phis a l (x.bare e m) h) ∙ y.is

        go : KeptLane (found e.block C) y.k → Was n v slot E (LiveAfter R C i p) l
        go (inl z) = as-slot y.k y.w z.0 is (after_leap m z.2 (ap (λ ws. filled ws (SlotLane slot y.k z.0)) (x.bare e m)))
        go (inr z) = as-range y.k y.w is (after_leap m z.0 (ap (λ ws. filled ws (VirtualLane v y.k)) (x.bare e m)))
    stays-after E l (at-phi {e = e} {w = w} m k h) = absurd (member-none w (subst (Member w) (x.bare e m) k))
