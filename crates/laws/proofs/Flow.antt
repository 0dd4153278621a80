-- What is kept after an item is kept before it.
use Rattle.std.proofs.Common.{◌≡◌, ◌∷◌, ◌⊎◌, ◌∙◌, ℕ, Bool, true, false, cond, List, Option, Some, refl, sym, ap, subst, inl, inr, []}
use Rattle.meaning.specs.Code.{BlockEnd, BlockStart, Code, Counted, Edge, Item, Silent, found}
use Rattle.meaning.specs.InStep.{Known}
use Rattle.meaning.specs.Lanes.{Writes, filled, same_lane}
use Rattle.meaning.specs.Layout.{FallsTo, LaidOut}
use Rattle.meaning.specs.Live.{Among, Feeds, Kept, KeptAfter, Live, LiveAfter, after_leap, after_next, after_phi, exits_of, here, in_order, is_slot, kept, leap, next, phi, read, reads_of, store, there}
use Rattle.meaning.specs.Perform.{width}
use Rattle.meaning.specs.declared.types.Fill.TheVariants.{Moved}
use Rattle.meaning.specs.declared.types.Lane.{Lane}
use Rattle.meaning.specs.declared.types.Lane.TheVariants.{SlotLane}
use Rattle.meaning.specs.declared.types.Source.{Source}
use Rattle.meaning.specs.declared.types.Source.TheVariants.{Bits, FromLane, Undef}
use Rattle.meaning.specs.declared.types.Write.{Write}

pub bool_cases : (b : Bool) → (b ≡ true) ⊎ (b ≡ false)
bool_cases true = inl refl
bool_cases false = inr refl

pub lane-inj : (a b : Lane) → Moved (FromLane a) ≡ Moved (FromLane b) → a ≡ b
lane-inj a b e = cc

pub none_among : {A : Type 0} (x : A) → Among x [] → ⊥
none_among x h = elim h [ ]

-- what a lane has after writes: what it had, or what one of them gives
pub filled-from : (ws : Writes) (a b : Lane) → filled ws a ≡ Moved (FromLane b) → (b ≡ a) ⊎ ((w : Write) × Among w ws × (w.fill ≡ Moved (FromLane b)))
filled-from [] a b e = inl (sym (lane-inj a b e))
filled-from (v ∷ ws) a b e = go (same_lane v.lane a) refl (filled-from ws a b)
  where
    more : (b ≡ a) ⊎ ((w : Write) × Among w ws × (w.fill ≡ Moved (FromLane b))) → (b ≡ a) ⊎ ((w : Write) × Among w (v ∷ ws) × (w.fill ≡ Moved (FromLane b)))
    more (inl h) = inl h
    more (inr h) = inr (h.0, there h.1, h.2)

    go : (t : Bool) → same_lane v.lane a ≡ t → (filled ws a ≡ Moved (FromLane b) → (b ≡ a) ⊎ ((w : Write) × Among w ws × (w.fill ≡ Moved (FromLane b)))) → (b ≡ a) ⊎ ((w : Write) × Among w (v ∷ ws) × (w.fill ≡ Moved (FromLane b)))
    go true t on = inr (v, here, sym (ap (λ c. cond c v.fill (filled ws a)) t) ∙ e)
    go false t on = more (on (sym (ap (λ c. cond c v.fill (filled ws a)) t) ∙ e))

module _ (reserved : Lane → Bool) (code : Code) where
  -- what feeds a lane that is kept after an item is kept before it
  pub flow : (i : Item) (p : Code) (a l : Lane) → KeptAfter reserved code i p a → Feeds i l a → Kept reserved code (i ∷ p) l
  flow i p a l k f = go (bool_cases (reserved l)) k
    where
      on : LiveAfter reserved code i p a → reserved l ≡ false → Live reserved code (i ∷ p) l
      on (after_next o h) r = next o h f r
      on (after_leap x h g) r = leap x h g f r
      on (after_phi x y g) r = phi x y g f r

      go : (reserved l ≡ true) ⊎ (reserved l ≡ false) → KeptAfter reserved code i p a → Kept reserved code (i ∷ p) l
      go (inl r) k' = inr r
      go (inr r) (inl h) = inl (on h r)
      go (inr r) (inr s) = inl (kept s f r)

  -- a source that is read is kept
  pub read_kept : (i : Item) (p : Code) (ss : List Source) (l : Lane) → Among ss (reads_of i) → Among (FromLane l) ss → Kept reserved code (i ∷ p) l
  read_kept i p ss l h g = go (bool_cases (reserved l))
    where
      go : (reserved l ≡ true) ⊎ (reserved l ≡ false) → Kept reserved code (i ∷ p) l
      go (inl r) = inr r
      go (inr r) = inl (read h g r)

  pub kept_next : (i : Item) (p : Code) (a : Lane) → in_order i ≡ true → Kept reserved code p a → KeptAfter reserved code i p a
  kept_next i p a o (inl h) = inl (after_next o h)
  kept_next i p a o (inr r) = inr r

  -- what feeds, by the phis of a way, a lane that is kept in the block is kept at the exit
  pub kept_along : (i : Item) (p : Code) (e : Edge) (a b : Lane) → Among e (exits_of i) → Kept reserved code (found e.block code) a → filled e.phis a ≡ Moved (FromLane b) → KeptAfter reserved code i p b
  kept_along i p e a b x (inl h) f = inl (after_leap x h f)
  kept_along i p e a b x (inr r) f = go (filled-from e.phis a b f)
    where
      go : (b ≡ a) ⊎ ((w : Write) × Among w e.phis × (w.fill ≡ Moved (FromLane b))) → KeptAfter reserved code i p b
      go (inl g) = inr (subst (λ l. reserved l ≡ true) (sym g) r)
      go (inr g) = inl (after_phi x g.1 g.2)

  -- what is live at a block's start is live behind it
  live_behind : (n : ℕ) (p : Code) (l : Lane) → Live reserved code (BlockStart n ∷ p) l → Live reserved code p l
  live_behind n p l (read {ss = ss} h g r) = absurd (none_among ss h)
  live_behind n p l (next {a = a} o h f r) = subst (Live reserved code p) (lane-inj a l f) h
  live_behind n p l (leap {e = e} x h g f r) = absurd (none_among e x)
  live_behind n p l (phi {e = e} x y g f r) = absurd (none_among e x)
  live_behind n p l (store w {s = s} {k = k} o h f t r) =
      let u : is_slot l ≡ true = subst (λ x. is_slot x ≡ true) (lane-inj (SlotLane s k w) l f) refl in
      absurd (cc)
  live_behind n p l (kept {a = a} s f r) =
      let t : reserved l ≡ true = subst (λ x. reserved x ≡ true) (lane-inj a l f) s in
      absurd (cc)

  pub kept_start : (n : ℕ) (p : Code) (a : Lane) → Kept reserved code p a → Kept reserved code (BlockStart n ∷ p) a
  kept_start n p a k = flow (BlockStart n) p a a (kept_next (BlockStart n) p a refl k) refl

  -- what feeds, by the phis, a lane that is kept where a block falls into is kept at the block's end
  pub kept_falls : (phis : Writes) (exits : List Edge) (p : Code) (a b : Lane) → FallsTo phis exits p → LaidOut code p → Kept reserved code p a → filled phis a ≡ Moved (FromLane b) → Kept reserved code (BlockEnd (Some phis) exits ∷ p) b
  kept_falls phis exits [] a b x s k f = absurd x
  kept_falls phis exits (BlockStart n ∷ p) a b x s k f =
      let i = BlockEnd (Some phis) exits in
      let e : Edge = record { block = n; phis = phis } in
      flow i (BlockStart n ∷ p) b b (kept_along i (BlockStart n ∷ p) e a b x (subst (λ q. Kept reserved code q a) (sym s.0) (behind k)) f) refl
    where
      behind : Kept reserved code (BlockStart n ∷ p) a → Kept reserved code p a
      behind (inl h) = inl (live_behind n p a h)
      behind (inr r) = inr r
  kept_falls phis exits (BlockEnd falls more ∷ p) a b x s k f = absurd x
  kept_falls phis exits (Silent reads ws ∷ p) a b x s k f = absurd x
  kept_falls phis exits (Counted r reads ws target more ∷ p) a b x s k f = absurd x

  pub kept_exit : (falls : Option Writes) (exits : List Edge) (p : Code) (e : Edge) (a b : Lane) → Among e exits → Kept reserved code (found e.block code) a → filled e.phis a ≡ Moved (FromLane b) → Kept reserved code (BlockEnd falls exits ∷ p) b
  kept_exit falls exits p e a b x k f = flow (BlockEnd falls exits) p b b (kept_along (BlockEnd falls exits) p e a b x k f) refl

  pub known-source : (p : Code) (s : Source) → ((l : Lane) → s ≡ FromLane l → Kept reserved code p l) → Known reserved code p s
  known-source p (FromLane l) h = h l refl
  known-source p Undef h = tt
  known-source p (Bits c low width) h = tt
