-- Moves between a range's slot and other registers, in place of copies of the range.
use Rattle.std.proofs.Common.{◌≡◌, ◌⊎◌, inl, inr, ◌∙◌, Bool, true, false, ℕ, [], ◌∷◌, length, refl, sym, ap, subst, eqb-true}
use Rattle.std.specs.Prelude.{nat_eq}
use Rattle.std.proofs.lemmas.Bool.{eqb-false}
use Rattle.target_base.specs.declared.types.Target.{Target}
use Rattle.meaning.specs.Code.{Code, Item, Silent}
use Rattle.meaning.specs.Lanes.{Writes, filled}
use Rattle.meaning.specs.Live.{Among as Member, KeptAfter, Live, LiveAfter, Writing, WritingEarly, after_next, is_slot, kept, next}
use Rattle.meaning.specs.declared.types.Fill.TheVariants.{Moved}
use Rattle.meaning.specs.declared.types.Lane.{Lane}
use Rattle.meaning.specs.declared.types.Lane.TheVariants.{SlotLane, UnitLane, VirtualLane}
use Rattle.meaning.specs.declared.types.Source.TheVariants.{FromLane}
use Rattle.meaning.specs.declared.types.Write.{Write}
use Rattle.laws.proofs.Flow.{lane-inj}
use Rattle.mir_func.specs.Value.{Function}
use Rattle.instr_effects.proofs.Members.{member-none}
use Rattle.clear_laws.specs.Spills.{HasEarlyReload}
use Rattle.clear_laws.proofs.Bounds.{Makes, along, at-phi, feeds, in-order, joins, keeps, leads, reads, stores}
use Rattle.clear_laws.proofs.PlaceBounds.{GoesOn, as-itself, as-range, as-slot, unwritten, untold}
use Rattle.clear_laws.proofs.Replaced.{Before, Behind, F, G, Held, IsKept, IsPlain, May, Replaces, Told-of, X, behind-told}

-- a lane is one of the slot's, or isn't
pub which : (slot : ℕ) (a : Lane) → ((k : ℕ) × (w : ℕ) × (a ≡ SlotLane slot k w)) ⊎ ((k w : ℕ) → a ≡ SlotLane slot k w → ⊥)
which slot (VirtualLane v k) = inr (λ j w e. (cc))
which slot (UnitLane u) = inr (λ j w e. (cc))
which slot (SlotLane n k w) = go (nat_eq n slot) refl
  where
    go : (b : Bool) → nat_eq n slot ≡ b → ((j : ℕ) × (x : ℕ) × (SlotLane n k w ≡ SlotLane slot j x)) ⊎ ((j x : ℕ) → SlotLane n k w ≡ SlotLane slot j x → ⊥)
    go true e = inl (k, w, ap (λ m. SlotLane m k w) (eqb-true n slot e))
    go false e = inr (λ j x q. eqb-false n slot e (cc))

same-lane-number : (n slot k j x w : ℕ) → SlotLane n k x ≡ SlotLane slot j w → (u : ℕ) → SlotLane n k u ≡ SlotLane slot j u
same-lane-number n slot k j x w e u = let one : n ≡ slot = cc in let two : k ≡ j = cc in λ i. SlotLane (one i) (two i) u

module _ (t : Target) (f g : Function) (v slot : ℕ) (wide : ℕ → Type 0) (stored : Code → ℕ → Type 0) (on : GoesOn (X t f g v slot wide stored) (F t f g v slot wide stored) (G t f g v slot wide stored) (length f.classes) v slot wide stored) (fs gs : Writes) (p : Code) where
  abbrev R : Lane → Bool
  R = X t f g v slot wide stored

  abbrev C : Code
  C = F t f g v slot wide stored

  abbrev D : Code
  D = G t f g v slot wide stored

  abbrev x : Item
  x = Silent [] fs

  abbrev y : Item
  y = Silent [] gs

  abbrev Can : Code → Lane → Type 0
  Can q l = May t f g v slot wide stored q l

  abbrev Fine : Lane → Type 0
  Fine l = IsPlain t f g v slot wide stored l

  abbrev Kept : Code → Lane → Type 0
  Kept q l = Held t f g v slot wide stored q l

  reserved-fine : (a : Lane) → R a ≡ true → Fine a × (is_slot a ≡ false)
  reserved-fine (VirtualLane w k) e = absurd (cc)
  reserved-fine (UnitLane u) e = (tt, refl)
  reserved-fine (SlotLane n k w) e = absurd (cc)

  abbrev HoldsLane : Code → ℕ → Type 0
  HoldsLane q k = IsKept t f g v slot wide stored q k

  abbrev Was-so : (Lane → Type 0) → Lane → Type 0
  Was-so P l = Told-of t f g v slot wide stored P l

  abbrev SlotsFree : Writes → ℕ → Type 0
  SlotsFree ws k = (u : ℕ) → filled ws (SlotLane slot k u) ≡ Moved (FromLane (SlotLane slot k u))

  -- the slot's lane stays where neither it nor the range's lane is written
  pass-by : (l : Lane) (k w : ℕ) → wide w → (Writing x (VirtualLane v k) → ⊥) → SlotsFree fs k → HoldsLane p k → l ≡ SlotLane slot k w → Can (x ∷ p) l
  pass-by l k w fits quiet slots from e = inr (record { k = k; w = w; is = e; fits = fits; from = go from })
    where
      go : HoldsLane p k → HoldsLane (x ∷ p) k
      go (inl z) = inl (z.0, z.1, next refl z.2 (slots z.0) refl)
      go (inr z) = inr (next refl z.0 (unwritten fs (VirtualLane v k) quiet) refl, on.back x p k refl quiet z.1)

  behind-live : (l : Lane) → Behind t f g v slot wide stored y p l → Was-so (LiveAfter R C x p) l
  behind-live l (in-order o z) = behind-told t f g v slot wide stored x p refl l z
  behind-live l (along m z h) = absurd (member-none _ m)
  behind-live l (at-phi m k h) = absurd (member-none _ m)

  -- Lanes of the range are given sources; a store gives their lanes of the slot the same. No lane of the slot is live behind
  -- where the instruction writes the range's.
  pub record IsStoring : Type 0 where
    pub others : (a : Lane) → Fine a → ((k w : ℕ) → a ≡ SlotLane slot k w → ⊥) → (filled gs a ≡ Moved (FromLane a)) × (filled fs a ≡ Moved (FromLane a))
    pub slots : (k : ℕ) → SlotsFree fs k
    -- each lane of the range is written or not; where it isn't, neither are its slot's
    pub own : (k : ℕ) → ((Writing x (VirtualLane v k) → ⊥) × SlotsFree gs k) ⊎ Writing x (VirtualLane v k)
    pub moves : (k w : ℕ) (l : Lane) → Writing x (VirtualLane v k) → filled gs (SlotLane slot k w) ≡ Moved (FromLane l) → is_slot l ≡ false → Fine l × (filled fs (VirtualLane v k) ≡ Moved (FromLane l))
    pub over : (k w : ℕ) (l : Lane) → wide w → Writing x (VirtualLane v k) → filled gs (SlotLane slot k w) ≡ Moved (FromLane l) → is_slot l ≡ false
    pub apart : (k w : ℕ) → Live R C p (SlotLane slot k w) → Writing x (VirtualLane v k) → ⊥
    pub stores : (w : Write) → Member w gs → (k : ℕ) × (u : ℕ) × (w.lane ≡ SlotLane slot k u) × Writing x (VirtualLane v k)
    pub late : (w : Write) → Member w gs → w.early ≡ false

  module _ (s : IsStoring) where
    -- a lane that feeds the slot's where the range's is live behind, or the slot's
    fed-own : (l : Lane) (k w : ℕ) → R l ≡ false → HoldsLane p k → filled gs (SlotLane slot k w) ≡ Moved (FromLane l) → is_slot l ≡ false → Can (x ∷ p) l
    fed-own l k w r from h q = go (s.own k) from
      where
        go : ((Writing x (VirtualLane v k) → ⊥) × SlotsFree gs k) ⊎ Writing x (VirtualLane v k) → HoldsLane p k → Can (x ∷ p) l
        go (inl z) c = absurd (let e : l ≡ SlotLane slot k w = lane-inj l (SlotLane slot k w) (sym h ∙ z.1 w) in let g : is_slot l ≡ true = ap is_slot e in cc)
        go (inr z) (inl c) = absurd (s.apart k c.0 c.2 z)
        go (inr z) (inr c) = let y = s.moves k w l z h q in inl (y.0, next refl c.0 y.1 r)

    fed-held : (l : Lane) (k w : ℕ) → R l ≡ false → wide w → HoldsLane p k → filled gs (SlotLane slot k w) ≡ Moved (FromLane l) → Can (x ∷ p) l
    fed-held l k w r fits from h = go (s.own k)
      where
        go : ((Writing x (VirtualLane v k) → ⊥) × SlotsFree gs k) ⊎ Writing x (VirtualLane v k) → Can (x ∷ p) l
        go (inl z) = pass-by l k w fits z.0 (s.slots k) from (lane-inj l (SlotLane slot k w) (sym h ∙ z.1 w))
        go (inr z) = fed-own l k w r from h (s.over k w l fits z h)

    -- where the slot's own lane is live behind, at some width
    fed-slot : (l : Lane) (k w u : ℕ) → Live R C p (SlotLane slot k u) → filled gs (SlotLane slot k w) ≡ Moved (FromLane l) → l ≡ SlotLane slot k w
    fed-slot l k w u live h = go (s.own k)
      where
        go : ((Writing x (VirtualLane v k) → ⊥) × SlotsFree gs k) ⊎ Writing x (VirtualLane v k) → l ≡ SlotLane slot k w
        go (inl z) = lane-inj l (SlotLane slot k w) (sym h ∙ z.1 w)
        go (inr z) = absurd (s.apart k u live z)

    store-made : (l : Lane) → R l ≡ false → Makes R C D Can y (Can p) l → Can (x ∷ p) l
    store-made l r (reads {ss = ss} a b) = absurd (member-none ss a)
    store-made l r (feeds {a = a} o (inr c) h) = fed-held l c.k c.w r c.fits c.from (subst (λ b. filled gs b ≡ Moved (FromLane l)) c.is h)
    store-made l r (feeds {a = a} o (inl c) h) = go (which slot a)
      where
        go : ((k : ℕ) × (w : ℕ) × (a ≡ SlotLane slot k w)) ⊎ ((k w : ℕ) → a ≡ SlotLane slot k w → ⊥) → Can (x ∷ p) l
        go (inl z) =
            let live : Live R C p (SlotLane slot z.0 z.1) = subst (Live R C p) z.2 c.1 in
            let e : l ≡ SlotLane slot z.0 z.1 = fed-slot l z.0 z.1 z.1 live (subst (λ b. filled gs b ≡ Moved (FromLane l)) z.2 h) in
            inl (subst Fine (sym e) tt, subst (Live R C (x ∷ p)) (sym e) (next refl live (s.slots z.0 z.1) refl))
        go (inr z) = let q = s.others a c.0 z in let e : l ≡ a = lane-inj l a (sym h ∙ q.0) in inl (subst Fine (sym e) c.0, next refl c.1 (q.1 ∙ ap (λ b. Moved (FromLane b)) (sym e)) r)
    store-made l r (leads m c h k) = absurd (member-none _ m)
    store-made l r (joins m c h k) = absurd (member-none _ m)
    store-made l r (stores w {n = n} {k = k} {x = u} o (inr c) h q) =
        fed-own l c.k w r c.from (subst (λ b. filled gs b ≡ Moved (FromLane l)) (same-lane-number n slot k c.k u c.w c.is w) h) q
    store-made l r (stores w {n = n} {k = k} {x = u} o (inl c) h q) = absurd (go (which slot (SlotLane n k u)))
      where
        no : (a : Lane) → is_slot a ≡ true → l ≡ a → ⊥
        no a g e = let m : is_slot l ≡ true = ap is_slot e ∙ g in cc

        go : ((j : ℕ) × (z : ℕ) × (SlotLane n k u ≡ SlotLane slot j z)) ⊎ ((j z : ℕ) → SlotLane n k u ≡ SlotLane slot j z → ⊥) → ⊥
        go (inl z) = no (SlotLane slot z.0 w) refl (fed-slot l z.0 w z.1 (subst (Live R C p) z.2 c.1) (subst (λ b. filled gs b ≡ Moved (FromLane l)) (same-lane-number n slot k z.0 u z.1 z.2 w) h))
        go (inr z) = no (SlotLane n k w) refl (lane-inj l (SlotLane n k w) (sym h ∙ (s.others (SlotLane n k w) tt (λ j y e. z j u (same-lane-number n slot k j w y e u))).0))
    store-made l r (keeps {a = a} q h) =
        let z = reserved-fine a q in
        absurd (let e : l ≡ a = lane-inj l a (sym h ∙ (s.others a z.0 (λ k w e. (let g : is_slot a ≡ true = ap is_slot e in let m = z.1 in cc))).0) in let g : R l ≡ true = ap R e ∙ q in cc)

    pub store-replaces : Replaces t f g v slot wide stored x y p
    store-replaces = record {
      bounds = λ l z. store-made l z.1 z.0;
      entry = inl (λ l h. absurd (let a = h.3 in let b = s.late h.0 h.1 in cc));
      after = behind-live;
      writes = λ l h. (let z = s.stores h.0 h.1 in as-range z.0 z.1 (sym h.2 ∙ z.2) z.3);
    }

  -- Lanes of the range go to others; a reload gives these their lanes of the slot.
  pub record IsReloading : Type 0 where
    pub own : (k : ℕ) → Writing x (VirtualLane v k) → ⊥
    pub others : (a : Lane) → Fine a → ((filled gs a ≡ Moved (FromLane a)) × (filled fs a ≡ Moved (FromLane a)))
        ⊎ ((is_slot a ≡ false) × ((l : Lane) → filled gs a ≡ Moved (FromLane l) → (k : ℕ) × (w : ℕ) × wide w × (l ≡ SlotLane slot k w) × (filled fs a ≡ Moved (FromLane (VirtualLane v k))) × (KeptAfter R C x p a → stored (x ∷ p) k)))
    pub writes : (l : Lane) → Writing y l → Fine l × Writing x l
    -- it writes nothing early, or reads nothing of a slot but where reloads may write so
    pub soon : ((w : Write) → Member w gs → w.early ≡ false) ⊎ ((a l : Lane) → filled gs a ≡ Moved (FromLane l) → is_slot a ≡ false → is_slot l ≡ true → HasEarlyReload t)

  module _ (s : IsReloading) where
    -- what a lane that isn't the range's holds behind it
    abbrev Comes : Lane → Lane → Type 0
    Comes l a = ((l ≡ a) × (filled fs a ≡ Moved (FromLane a))) ⊎ ((k : ℕ) × (w : ℕ) × wide w × (l ≡ SlotLane slot k w) × (filled fs a ≡ Moved (FromLane (VirtualLane v k))) × (KeptAfter R C x p a → stored (x ∷ p) k) × (is_slot a ≡ false))

    comes : (l a : Lane) → Fine a → filled gs a ≡ Moved (FromLane l) → Comes l a
    comes l a fine h = go (s.others a fine)
      where
        go : ((filled gs a ≡ Moved (FromLane a)) × (filled fs a ≡ Moved (FromLane a)))
            ⊎ ((is_slot a ≡ false) × ((l : Lane) → filled gs a ≡ Moved (FromLane l) → (k : ℕ) × (w : ℕ) × wide w × (l ≡ SlotLane slot k w) × (filled fs a ≡ Moved (FromLane (VirtualLane v k))) × (KeptAfter R C x p a → stored (x ∷ p) k))) → Comes l a
        go (inl z) = inl (lane-inj l a (sym h ∙ z.0), z.1)
        go (inr z) = let q = z.1 l h in inr (q.0, q.1, q.2, q.3, q.4, q.5, z.0)

    held-stays : (l : Lane) (k w : ℕ) → filled gs (SlotLane slot k w) ≡ Moved (FromLane l) → l ≡ SlotLane slot k w
    held-stays l k w h = go (comes l (SlotLane slot k w) tt h)
      where
        go : Comes l (SlotLane slot k w) → l ≡ SlotLane slot k w
        go (inl z) = z.0
        go (inr z) = absurd (let q = z.6 in cc)

    slots-free : (k : ℕ) → SlotsFree fs k
    slots-free k u = go (s.others (SlotLane slot k u) tt)
      where
        go : ((filled gs (SlotLane slot k u) ≡ Moved (FromLane (SlotLane slot k u))) × (filled fs (SlotLane slot k u) ≡ Moved (FromLane (SlotLane slot k u))))
            ⊎ ((is_slot (SlotLane slot k u) ≡ false) × ((l : Lane) → filled gs (SlotLane slot k u) ≡ Moved (FromLane l) → (j : ℕ) × (w : ℕ) × wide w × (l ≡ SlotLane slot j w) × (filled fs (SlotLane slot k u) ≡ Moved (FromLane (VirtualLane v j))) × (KeptAfter R C x p (SlotLane slot k u) → stored (x ∷ p) j))) → filled fs (SlotLane slot k u) ≡ Moved (FromLane (SlotLane slot k u))
        go (inl z) = z.1
        go (inr z) = absurd (let q = z.0 in cc)

    reload-made : (l : Lane) → R l ≡ false → Makes R C D Can y (Can p) l → Can (x ∷ p) l
    reload-made l r (reads {ss = ss} a b) = absurd (member-none ss a)
    reload-made l r (feeds {a = a} o (inl c) h) = go (comes l a c.0 h)
      where
        go : Comes l a → Can (x ∷ p) l
        go (inl z) = inl (subst Fine (sym z.0) c.0, next refl c.1 (z.1 ∙ ap (λ b. Moved (FromLane b)) (sym z.0)) r)
        go (inr z) = inr (record { k = z.0; w = z.1; is = z.3; fits = z.2; from = inr (next refl c.1 z.4 refl, z.5 (inl (after_next refl c.1))) })
    reload-made l r (feeds {a = a} o (inr c) h) =
        pass-by l c.k c.w c.fits (s.own c.k) (slots-free c.k) c.from (held-stays l c.k c.w (subst (λ b. filled gs b ≡ Moved (FromLane l)) c.is h))
    reload-made l r (leads m c h k) = absurd (member-none _ m)
    reload-made l r (joins m c h k) = absurd (member-none _ m)
    reload-made l r (stores w {n = n} {k = k} {x = u} o c h q) = go (comes l (SlotLane n k w) tt h)
      where
        go : Comes l (SlotLane n k w) → Can (x ∷ p) l
        go (inl z) = absurd (let g : is_slot l ≡ true = ap is_slot z.0 in cc)
        go (inr z) = absurd (let q = z.6 in cc)
    reload-made l r (keeps {a = a} q h) = go (comes l a (reserved-fine a q).0 h)
      where
        go : Comes l a → Can (x ∷ p) l
        go (inl z) = absurd (let g : R l ≡ true = ap R z.0 ∙ q in cc)
        go (inr z) = inr (record { k = z.0; w = z.1; is = z.3; fits = z.2; from = inr (kept q z.4 refl, z.5 (inr q)) })

    -- lanes that are live before the reload are live behind it, but those that it reads
    late : ((a l : Lane) → filled gs a ≡ Moved (FromLane l) → is_slot a ≡ false → is_slot l ≡ true → HasEarlyReload t) → (l : Lane) → Before t f g v slot wide stored (y ∷ []) p l → Was-so (LiveAfter R C x p) l
    late e l z = go z.0
      where
        read : (a : Lane) → filled gs a ≡ Moved (FromLane l) → (k w : ℕ) → l ≡ SlotLane slot k w → is_slot a ≡ false → Was-so (LiveAfter R C x p) l
        read a h k w is n = untold (e a l h n (ap is_slot is)) k w is

        still : (k w : ℕ) → HoldsLane p k → l ≡ SlotLane slot k w → Was-so (LiveAfter R C x p) l
        still k w (inl c) is = as-slot k w c.0 is (after_next refl c.2)
        still k w (inr c) is = as-range k w is (after_next refl c.0)

        go : Makes R C D Can y (Can p) l → Was-so (LiveAfter R C x p) l
        go (reads {ss = ss} q m) = absurd (member-none ss q)
        go (feeds {a = a} o (inl c) h) = by (comes l a c.0 h)
          where
            by : Comes l a → Was-so (LiveAfter R C x p) l
            by (inl q) = as-itself (subst Fine (sym q.0) c.0) (after_next refl (subst (Live R C p) (sym q.0) c.1))
            by (inr q) = read a h q.0 q.1 q.3 q.6
        go (feeds {a = a} o (inr c) h) = still c.k c.w c.from (held-stays l c.k c.w (subst (λ b. filled gs b ≡ Moved (FromLane l)) c.is h))
        go (leads m c h k) = absurd (member-none _ m)
        go (joins m c h k) = absurd (member-none _ m)
        go (stores w {n = n} {k = k} {x = u} o c h q) = by (comes l (SlotLane n k w) tt h)
          where
            by : Comes l (SlotLane n k w) → Was-so (LiveAfter R C x p) l
            by (inl z) = absurd (let g : is_slot l ≡ true = ap is_slot z.0 in cc)
            by (inr z) = absurd (let g = z.6 in cc)
        go (keeps {a = a} q h) = by (comes l a (reserved-fine a q).0 h)
          where
            by : Comes l a → Was-so (LiveAfter R C x p) l
            by (inl k) = absurd (let g : R l ≡ true = ap R k.0 ∙ q in let m = z.1 in cc)
            by (inr k) = read a h k.0 k.1 k.3 k.6

    pub reload-replaces : Replaces t f g v slot wide stored x y p
    reload-replaces = record {
      bounds = λ l z. reload-made l z.1 z.0;
      entry = go s.soon;
      after = behind-live;
      writes = λ l h. (let z = s.writes l h in as-itself z.0 z.1);
    }
      where
        go : ((w : Write) → Member w gs → w.early ≡ false) ⊎ ((a l : Lane) → filled gs a ≡ Moved (FromLane l) → is_slot a ≡ false → is_slot l ≡ true → HasEarlyReload t)
            → ((l : Lane) → WritingEarly y l → Was-so (WritingEarly x) l) ⊎ ((l : Lane) → Before t f g v slot wide stored (y ∷ []) p l → Was-so (LiveAfter R C x p) l)
        go (inl e) = inl (λ l h. absurd (let a = h.3 in let b = e h.0 h.1 in cc))
        go (inr e) = inr (late e)
