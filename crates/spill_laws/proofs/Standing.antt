-- Where lanes are found behind an instruction after a spill, they are found before it.
use Rattle.std.proofs.Common.{◌≡◌, ◌∷◌, ◌++◌, ◌⊎◌, inl, inr, ◌∙◌, ◌||◌, ℕ, Bool, true, false, List, None, length, refl, sym, ap, subst, arith, []}
use Rattle.std.specs.Prelude.{nat_eq}
use Rattle.meaning.specs.Code.{Code, Counted, Edge, Item, Silent, found}
use Rattle.meaning.specs.Lanes.{Reads, Writes, filled, same_lane, settled, through}
use Rattle.meaning.specs.Live.{Among, Feeds, KeptAfter, LiveAfter, Writing, after_leap, after_next, after_phi, exits_of, here, in_order, leap, next, phi, there, writes_of}
use Rattle.meaning.specs.Relations.{AlikeFill, AlikeOperands, Rel, Within, after_both, after_first}
use Rattle.meaning.specs.declared.types.Fill.{Fill}
use Rattle.meaning.specs.declared.types.Fill.TheVariants.{Computed, Moved}
use Rattle.meaning.specs.declared.types.Lane.{Lane}
use Rattle.meaning.specs.declared.types.Lane.TheVariants.{SlotLane, UnitLane, VirtualLane}
use Rattle.meaning.specs.declared.types.Rest.{Rest}
use Rattle.meaning.specs.declared.types.Source.{Source}
use Rattle.meaning.specs.declared.types.Source.TheVariants.{Bits, FromLane, Undef}
use Rattle.meaning.specs.declared.types.Write.{Write}
use Rattle.laws.proofs.Flow.{filled-from, flow, none_among}
use Rattle.laws.proofs.Quiet.{same-false}
use Rattle.mir_meaning.specs.Points.{AtFirst}
use Rattle.mir_meaning.specs.Registers.{is_reserved}
use Rattle.lowering_laws.proofs.Olds.{AllOld, filled-old, old_source}
use Rattle.lowering_laws.proofs.Stretches.{both-counted, first-silent, joined, lessened}
use Rattle.lowering_laws.proofs.Traced.{is_lane_of, is_written, second-silents, silents, traced, traced-bits}
use Rattle.spiller.specs.Reaching.{Brings, Leads, leaps, passes, stays}
use Rattle.spiller.specs.Setting.{Spilling}
use Rattle.spill_laws.specs.Standing.{IsBeside, IsBrought, LaneStands, LiveIn, OwnStands, PlaceStands, Stands, code_before, code_from, starts}

pub first-more : (P Q : Item → Code → Type 0) → ((i : Item) (q : Code) → P i q → Q i q) → (c : Code) → AtFirst P c → AtFirst Q c
first-more P Q h [] x = x
first-more P Q h (i ∷ q) x = h i q x

either-false : (a b : Bool) → (a || b) ≡ false → (a ≡ false) × (b ≡ false)
either-false true b h = absurd (cc)
either-false false b h = (refl, h)

-- no write is of a lane that isn't written
pub unwritten : (ws : Writes) (l : Lane) → is_written ws l ≡ false → (w : Write) → Among w ws → w.lane ≡ l → ⊥
unwritten [] l e w m q = none_among w m
unwritten (x ∷ ws) l e w here q = same-false x.lane l (either-false (same_lane x.lane l) (is_written ws l) e).0 q
unwritten (x ∷ ws) l e w (there m) q = unwritten ws l (either-false (same_lane x.lane l) (is_written ws l) e).1 w m q

-- a lane of the range
pub lane-own : (v : ℕ) (a : Lane) → is_lane_of v a ≡ true → (k : ℕ) × (a ≡ VirtualLane v k)
lane-own v (VirtualLane w k) e = (k, ap (λ x. VirtualLane x k) (sym (same v w e)))
  where
    same : (v w : ℕ) → nat_eq v w ≡ true → v ≡ w
    same v w e = grind (arith, e)
lane-own v (UnitLane u) e = absurd (cc)
lane-own v (SlotLane s k w) e = absurd (cc)

module _ (s : Spilling) where
  abbrev pub R : Lane → Bool
  R = is_reserved s.target

  abbrev pub C : Code
  C = code_before s

  abbrev pub v : ℕ
  v = s.range

  -- paths go on past an instruction that doesn't write the lane

  leads-on : (l : Lane) (i : Item) (q z : Code) → z ≡ i ∷ q → in_order i ≡ true → (Writing i l → ⊥) → {p : Code} → Leads C l p z → Leads C l p q
  leads-on l i q z e o n stays = subst (λ y. Leads C l y q) (sym e) (passes o n stays)
  leads-on l i q z e o n (passes p m x) = passes p m (leads-on l i q z e o n x)
  leads-on l i q z e o n (leaps p m x) = leaps p m (leads-on l i q z e o n x)

  leads-along : (l : Lane) (i : Item) (q z : Code) (w : Edge) → z ≡ i ∷ q → Among w (exits_of i) → (Writing i l → ⊥) → {p : Code} → Leads C l p z → Leads C l p (found w.block C)
  leads-along l i q z w e o n stays = subst (λ y. Leads C l y (found w.block C)) (sym e) (leaps o n stays)
  leads-along l i q z w e o n (passes p m x) = passes p m (leads-along l i q z w e o n x)
  leads-along l i q z w e o n (leaps p m x) = leaps p m (leads-along l i q z w e o n x)

  brought-by : (l : Lane) (y z : Code) → ((p : Code) → Leads C l p y → Leads C l p z) → (i : Item) (q : Code) → Brings C l i q y → Brings C l i q z
  brought-by l y z h i q (w, inl x) = (w, inl (x.0, h q x.1))
  brought-by l y z h i q (w, inr x) = (w, inr (x.0, x.1, h (found x.0.block C) x.2))

  module _ (i : Item) (q : Code) (k : ℕ) (free : Writing i (VirtualLane v k) → ⊥) where
    brought-on : in_order i ≡ true → (d : ℕ) → IsBrought s d k (i ∷ q) → IsBrought s d k q
    brought-on o d b =
        first-more (λ j r. Brings C (VirtualLane v k) j r (i ∷ q)) (λ j r. Brings C (VirtualLane v k) j r q)
        (brought-by (VirtualLane v k) (i ∷ q) q (λ y x. leads-on (VirtualLane v k) i q (i ∷ q) refl o free x)) (code_from s d) b

    brought-along : (e : Edge) → Among e (exits_of i) → (d : ℕ) → IsBrought s d k (i ∷ q) → IsBrought s d k (found e.block C)
    brought-along e m d b =
        first-more (λ j r. Brings C (VirtualLane v k) j r (i ∷ q)) (λ j r. Brings C (VirtualLane v k) j r (found e.block C))
        (brought-by (VirtualLane v k) (i ∷ q) (found e.block C) (λ y x. leads-along (VirtualLane v k) i q (i ∷ q) e refl m free x)) (code_from s d) b

    -- the range's lane is found before the instruction where it is behind it
    own-by : (z : Code) (source : Source) → ((d : ℕ) → IsBrought s d k (i ∷ q) → IsBrought s d k z) → OwnStands s z k source → OwnStands s (i ∷ q) k source
    own-by z source h (inl x) = inl ((λ d b g. x.0 d (h d b) g), x.1)
    own-by z source h (inr x) = inr (record { by = x.by; only = λ d b. x.only d (h d b); gives = x.gives; constant = x.constant })

    pub own-back : (source : Source) → in_order i ≡ true → OwnStands s q k source → OwnStands s (i ∷ q) k source
    own-back source o x = own-by q source (brought-on o) x

    pub own-from : (source : Source) (e : Edge) → Among e (exits_of i) → OwnStands s (found e.block C) k source → OwnStands s (i ∷ q) k source
    own-from source e m x = own-by (found e.block C) source (brought-along e m) x

  -- what the instruction of an id writes to the lane is there behind it

  pub brought-here : (d : ℕ) (i : Item) (q : Code) (k : ℕ) → code_from s d ≡ i ∷ q → Writing i (VirtualLane v k) → in_order i ≡ true → IsBrought s d k q
  brought-here d i q k e w o = subst (AtFirst (λ j r. Brings C (VirtualLane v k) j r q)) (sym e) (w, inl (o, stays))

  -- a lane of the range that an instruction leaves is live before it where it is behind it
  pub live-before : (i : Item) (q : Code) (k : ℕ) → Feeds i (VirtualLane v k) (VirtualLane v k) → LiveAfter R C i q (VirtualLane v k) → LiveIn s (i ∷ q) (VirtualLane v k)
  live-before i q k f (after_next o h) = next o h f refl
  live-before i q k f (after_leap m h g) = leap m h g f refl
  live-before i q k f (after_phi m y g) = phi m y g f refl

  -- places

  pub silent-place : (reads : Reads) (ws : Writes) (p : Code) (wss : List Writes)
      → ((a : Lane) (source : Source) → LaneStands s p a source → Stands s (Silent reads ws ∷ p) (settled (filled ws a)) (traced wss source))
      → PlaceStands s (Silent reads ws ∷ []) (silents wss) p
  silent-place reads ws p wss h =
      lessened (starts s) B T (Stands s p) (Silent reads ws ∷ []) (silents wss) within
      (joined (starts s) B (after_first ws B) T (Silent reads ws ∷ []) [] [] (silents wss) (first-silent (starts s) B reads ws) (second-silents (starts s) (after_first ws B) wss))
    where
      B : Rel
      B = Stands s (Silent reads ws ∷ p)

      T : Rel
      T x u = after_first ws B x (traced wss u)

      within : Within (Stands s p) T
      within (FromLane a) u k = h a u k
      within Undef u k = tt
      within (Bits c low width) u k = ap (traced wss) k ∙ traced-bits wss c low width

  -- what is found at a place before silent instructions, behind them
  abbrev pub Loaded : Code → List Writes → Rel
  Loaded p pre x u = Stands s p x (traced pre u)

  pub counted-place : (r : Rest) (reads reads' : Reads) (ws ws' : Writes) (p : Code) (pre post : List Writes)
      → AlikeOperands (Loaded (Counted r reads ws None [] ∷ p) pre) reads reads'
      → ((a : Lane) (source : Source) → LaneStands s p a source → AlikeFill (Loaded (Counted r reads ws None [] ∷ p) pre) (filled ws a) (through ws' (traced post source)))
      → PlaceStands s (Counted r reads ws None [] ∷ []) (silents pre ++ (Counted r reads' ws' None [] ∷ silents post)) p
  counted-place r reads reads' ws ws' p pre post alike h =
      lessened (starts s) B T (Stands s p) (x ∷ []) (silents pre ++ (y ∷ silents post)) within
      (joined (starts s) B L T [] (silents pre) (x ∷ []) (y ∷ silents post) (second-silents (starts s) B pre)
      (joined (starts s) L (after_both ws ws' L) T (x ∷ []) (y ∷ []) [] (silents post) (both-counted (starts s) L r reads reads' ws ws' None [] alike tt (λ e m. absurd (none_among e m)))
      (second-silents (starts s) (after_both ws ws' L) post)))
    where
      x : Item
      x = Counted r reads ws None []

      y : Item
      y = Counted r reads' ws' None []

      B : Rel
      B = Stands s (Counted r reads ws None [] ∷ p)

      L : Rel
      L = Loaded (Counted r reads ws None [] ∷ p) pre

      T : Rel
      T a u = after_both ws ws' (Loaded (Counted r reads ws None [] ∷ p) pre) a (traced post u)

      within : Within (Stands s p) T
      within (FromLane a) u k = h a u k
      within Undef u k = undef (through ws' (traced post u))
        where
          undef : (f : Fill) → AlikeFill (Loaded (Counted r reads ws None [] ∷ p) pre) (Moved Undef) f
          undef (Moved q) = tt
          undef (Computed n) = tt
      within (Bits c low width) u k =
          subst (λ q. AlikeFill (Loaded (Counted r reads ws None [] ∷ p) pre) (Moved (Bits c low width)) (through ws' q)) (sym (ap (traced post) k ∙ traced-bits post c low width)) (traced-bits pre c low width)

  -- what an instruction gives a lane beside the range is found before it, where it gives nothing of the range and nothing further
  abbrev pub GivesOthers : Writes → Type 0
  GivesOthers ws = (w : Write) (k : ℕ) → Among w ws → w.fill ≡ Moved (FromLane (VirtualLane v k)) → ⊥

  pub fed-beside : (i : Item) (p : Code) (a : Lane) → AllOld (length s.func.classes) (writes_of i) → GivesOthers (writes_of i) → IsBeside s a → KeptAfter R C i p a
      → Stands s (i ∷ p) (settled (filled (writes_of i) a)) (settled (filled (writes_of i) a))
  fed-beside i p a old gives b k = go (filled (writes_of i) a) refl
    where
      other : (c : Lane) → filled (writes_of i) a ≡ Moved (FromLane c) → (y : Bool) → is_lane_of v c ≡ y → is_lane_of v c ≡ false
      other c e false g = g
      other c e true g = absurd (one (filled-from (writes_of i) a c e) (lane-own v c g))
        where
          one : (c ≡ a) ⊎ ((w : Write) × Among w (writes_of i) × (w.fill ≡ Moved (FromLane c))) → (n : ℕ) × (c ≡ VirtualLane v n) → ⊥
          one (inl q) z = let x : is_lane_of v c ≡ is_lane_of v a = ap (is_lane_of v) q in let y = b.other in cc
          one (inr w) z = gives w.0 z.0 w.1 (w.2 ∙ ap (λ l. Moved (FromLane l)) z.1)

      go : (f : Fill) → filled (writes_of i) a ≡ f → Stands s (i ∷ p) (settled f) (settled f)
      go (Moved (FromLane c)) e = inl (
        record { other = other c e (is_lane_of v c) refl; old = subst (λ f. old_source (length s.func.classes) (settled f) ≡ true) e (filled-old (length s.func.classes) (writes_of i) old a b.old) },
        flow R C i p a c k e,
        refl,
      )
      go (Moved Undef) e = tt
      go (Moved (Bits c low width)) e = refl
      go (Computed n) e = tt
