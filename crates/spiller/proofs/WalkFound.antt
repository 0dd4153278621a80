-- A walk over the instructions that touch a range finds what paths of the code say, though it enters no block at whose start the lane is dead.
use Rattle.std.proofs.Common.{◌≡◌, ◌∙◌, ◌⊎◌, ℕ, zero, suc, Bool, true, false, not, List, [], ◌∷◌, Some, map, refl, sym, ap, subst, inl, inr}
use Rattle.std.specs.Prelude.{slice_get}
use Rattle.std.specs.Ordering.{nat_cmp}
use Rattle.std.specs.BTreeMap.{get}
use Rattle.target_base.specs.declared.types.Target.{Target}
use Rattle.meaning.specs.declared.types.Lane.{Lane}
use Rattle.meaning.specs.declared.types.Lane.TheVariants.{VirtualLane, SlotLane}
use Rattle.meaning.specs.declared.types.Fill.TheVariants.{Moved}
use Rattle.meaning.specs.declared.types.Source.TheVariants.{FromLane}
use Rattle.meaning.specs.declared.types.Write.{Write}
use Rattle.meaning.specs.Lanes.{filled}
use Rattle.meaning.specs.Code.{Edge, Item, Code, found}
use Rattle.meaning.specs.Live.{Among as Member, exits_of, writes_of, Feeds, Live, read, next, leap, phi, store, kept, KeptAfter, after_next, after_leap, after_phi, is_slot}
use Rattle.mir_func.specs.declared.func.Instr.{Instr}
use Rattle.mir_func.specs.declared.func.Block.{Block}
use Rattle.mir_func.specs.Value.{Function}
use Rattle.mir_meaning.specs.Registers.{is_reserved}
use Rattle.mir_meaning.specs.Rules.{V8}
use Rattle.mir_meaning.specs.Codes.{ways_out, blocks_code}
use Rattle.mir_meaning.specs.Points.{point_item, LiveAt, Start}
use Rattle.mir_meaning.specs.Paths.{has}
use Rattle.mir_meaning.specs.Stands.{Reaches as Fills}
use Rattle.instr_effects.specs.Numbered.{number_in}
use Rattle.instr_effects.specs.declared.owner.Owner.TheVariants as owners
use Rattle.instr_effects.proofs.Members.{member-none}
use Rattle.instr_effects.proofs.Plain.{filled-cases}
use Rattle.live_lanes.specs.declared.table.Table.{Table}
use Rattle.live_lanes.specs.Doing.{IsComputed}
use Rattle.live_lanes.specs.Marks.{marked_at}
use Rattle.live_lanes.specs.Ordered.{ids_of, AreRising}
use Rattle.live_lanes.specs.Ways.{successors}
use Rattle.live_laws.specs.Acts.{Reading}
use Rattle.live_laws.specs.Effects.Coded.{KeepsRules}
use Rattle.live_laws.proofs.Effects.Moving.{some-same}
use Rattle.live_laws.proofs.Effects.Whole.{is-out, points-are}
use Rattle.live_laws.proofs.Exact.Computed.{computed-law}
use Rattle.spiller.specs.declared.reaching.BlockTouches.{BlockTouches}
use Rattle.spiller.specs.declared.reaching.LaneTouch.{LaneTouch}
use Rattle.spiller.specs.Walks.{touch_of, touches_at, seen, keeps, is_open, Enters, leaves, goes_on, dead_at}
use Rattle.spiller.proofs.PathsFound.{Part, whole-part, part-more, Follows, sees, goes, keeps-head, numbered, From, goal-is, place, seen-cases, silent, orderly, out-back, block-start, reads-told}

-- a reading is a place where the lane is live

module _ (R : Lane → Bool) (C : Code) (i : Item) (p : Code) (l : Lane) (free : R l ≡ false) (unslotted : (s k w : ℕ) → R (SlotLane s k w) ≡ false) where
  fed-live : (a : Lane) → Feeds i l a → KeptAfter R C i p a → Live R C (i ∷ p) l
  fed-live a f (inl (after_next o h)) = next o h f free
  fed-live a f (inl (after_leap m h g)) = leap m h g f free
  fed-live a f (inl (after_phi m n g)) = phi m n g f free
  fed-live a f (inr r) = kept r f free

  none : {e : Edge} → Member e (exits_of i) → exits_of i ≡ [] → ⊥
  none {e} m q = member-none e (subst (Member e) q m)

  stored-live : (s k w x : ℕ) → Feeds i l (SlotLane s k w) → is_slot l ≡ false → exits_of i ≡ [] → KeptAfter R C i p (SlotLane s k x) → Live R C (i ∷ p) l
  stored-live s k w x f still q (inl (after_next o h)) = store w o h f still free
  stored-live s k w x f still q (inl (after_leap m h g)) = absurd (none m q)
  stored-live s k w x f still q (inl (after_phi m n g)) = absurd (none m q)
  stored-live s k w x f still q (inr r) = absurd (let e = unslotted s k x in cc)

  pub reading-live : Reading R C l i p → Live R C (i ∷ p) l
  reading-live (inl z) = read z.1 z.2 free
  reading-live (inr z) = go z.2 z.3
    where
      go : Fills i l z.0 → KeptAfter R C i p z.0 → Live R C (i ∷ p) l
      go (inl f) h = fed-live z.0 f h
      go (inr y) h = stored-live y.0 y.1 y.2 y.3 y.5 y.6 y.7 (subst (KeptAfter R C i p) y.4 h)

-- the walk enters blocks of the function

open-block : (x : Table) (v k : ℕ) (bs : List Block) (q : ℕ) → is_open (map (dead_at x v k) bs) q ≡ true → (c : Block) × (slice_get bs q ≡ Some c)
open-block x v k [] q h = absurd (cc)
open-block x v k (c ∷ bs) zero h = (c, refl)
open-block x v k (c ∷ bs) (suc q) h = open-block x v k bs q h

pub entered-block : (x : Table) (v k : ℕ) (bs : List Block) (ways : ℕ → List ℕ) (blocks : List BlockTouches) (dead : List Bool) (at : ℕ) (rest : List LaneTouch) (q : ℕ) → dead ≡ map (dead_at x v k) bs → Enters ways blocks dead at rest q → (c : Block) × (slice_get bs q ≡ Some c)
entered-block x v k bs ways blocks dead at rest q e (leaves h m n) = open-block x v k bs q (ap (λ ds. is_open ds q) (sym e) ∙ n)
entered-block x v k bs ways blocks dead at rest q e (goes_on g h m n) = open-block x v k bs q (ap (λ ds. is_open ds q) (sym e) ∙ n)

module _ (t : Target) (f : Function) (x : Table) (computed : IsComputed t f x) (rules : KeepsRules t f) (last : (b : Block) (j : ℕ) (i : Instr) → Member b f.blocks → slice_get b.instrs j ≡ Some i → V8 t b j i ≡ true) (ranked : (y : ℕ) (b : Block) → slice_get f.blocks y ≡ Some b → AreRising x.order.slots 0 (ids_of b.instrs)) (v k : ℕ) where
  abbrev R : Lane → Bool
  R = is_reserved t

  abbrev L : Lane
  L = VirtualLane v k

  abbrev C : Code
  C = blocks_code (point_item t f) t f f.blocks

  abbrev ways : ℕ → List ℕ
  ways y = successors x.flow.items y

  abbrev doing : List Instr → List LaneTouch
  doing is = map (λ i. touch_of x v k i.id) is

  abbrev stand : ℕ → Block → List Instr → Code
  stand y b is = place t f x computed rules last ranked v k y b is

  module _ (yo : ℕ) (bo : Block) (o : Instr) (os : List Instr) (po : Part f yo bo (o ∷ os)) (read-there : (touch_of x v k o.id).reads ≡ true) where
    goal-live : Live R C (stand yo bo (o ∷ os)) L
    goal-live =
        let z = (reads-told t f x computed rules last ranked v k yo bo o os po).0 read-there in
        reading-live R C (point_item t f bo o) (stand yo bo os) L refl (λ s n w. refl) (subst (λ c. Reading R c L (point_item t f bo o) (stand yo bo os)) (points-are t f (number_in x.lanes) rules (numbered t f x computed rules last ranked v k)) z)

    still-there : (y : ℕ) (b : Block) (j : Instr) (is : List Instr) → Part f y b (j ∷ is) → (touch_of x v k j.id).writes ≡ false → Feeds (point_item t f b j) L L
    still-there y b j is p e = go (filled-cases (writes_of (point_item t f b j)) L)
      where
        go : ((w : Write) × Member w (writes_of (point_item t f b j)) × (w.lane ≡ L) × (filled (writes_of (point_item t f b j)) L ≡ w.fill)) ⊎ ((filled (writes_of (point_item t f b j)) L ≡ Moved (FromLane L)) × ((w : Write) → Member w (writes_of (point_item t f b j)) → w.lane ≡ L → ⊥)) → Feeds (point_item t f b j) L L
        go (inl z) = absurd (silent t f x computed rules last ranked v k yo bo o os po read-there y b j is p e (z.0, z.1, z.2))
        go (inr z) = z.0

    pub seen-live : (y : ℕ) (b : Block) (is : List Instr) → Part f y b is → has o.id (seen (doing is)) ≡ true → Live R C (stand y b is) L
    seen-live y b [] p h = absurd (cc)
    seen-live y b (j ∷ is) p h = go (seen-cases t f x computed rules last ranked v k yo bo o os po read-there j is h) (seen-live y b is (part-more f y b j is p))
      where
        go : (j.id ≡ o.id) ⊎ (((touch_of x v k j.id).writes ≡ false) × (has o.id (seen (doing is)) ≡ true)) → (has o.id (seen (doing is)) ≡ true → Live R C (stand y b is) L) → Live R C (stand y b (j ∷ is)) L
        go (inl e) ih = subst (λ q. Live R C q L) (goal-is t f x computed rules last ranked v k yo bo o os po read-there y b j is p e) goal-live
        go (inr z) ih = next (orderly t f x computed rules last ranked v k yo bo o os po read-there y b j is p) (ih z.1) (still-there y b j is p z.0) refl

    keeps-live : (y : ℕ) (b : Block) (is : List Instr) → Part f y b is → keeps (doing is) ≡ true → (e : Edge) → Member e (ways_out t f b) → Live R C (found e.block C) L → Live R C (stand y b is) L
    keeps-live y b [] p h e m r =
        leap {b = L} m r ((is-out t f (number_in x.lanes) rules (numbered t f x computed rules last ranked v k) y b p.stands).through e L m r) refl refl
    keeps-live y b (j ∷ is) p h e m r =
        let z = keeps-head (touch_of x v k j.id).writes _ h in
        next (orderly t f x computed rules last ranked v k yo bo o os po read-there y b j is p) (keeps-live y b is (part-more f y b j is p) z.1 e m r) (still-there y b j is p z.0) refl

    -- the lane is live at the start of each block that flows on to the reading
    pub follows-live : (q : ℕ) → Follows f x v k o.id q → (c : Block) → slice_get f.blocks q ≡ Some c → Live R C (stand q c c.instrs) L
    follows-live q (sees {c = d} e h) c g = let same = some-same d c (sym e ∙ g) in seen-live q c c.instrs (whole-part f q c g) (subst (λ (b : Block). has o.id (seen (doing b.instrs)) ≡ true) same h)
    follows-live q (goes {r = r} {c = d} e h n w) c g =
        let same = some-same d c (sym e ∙ g) in
        let z = out-back t f x computed rules last ranked v k q c g r n in
        let start = ap (λ a. found a C) z.1.number ∙ block-start t f x computed rules last ranked v k r z.1.block z.1.stands in
        keeps-live q c c.instrs (whole-part f q c g) (subst (λ (b : Block). keeps (doing b.instrs) ≡ true) same h) z.0 z.1.out (subst (λ a. Live R C a L) (sym start) (follows-live r w z.1.block z.1.stands))

    -- a walk over what touches the range

    module _ (blocks : List BlockTouches) (dead : List Bool)
        (seen-same : (q : ℕ) (c : Block) → slice_get f.blocks q ≡ Some c → seen (touches_at blocks q) ≡ seen (doing c.instrs)) (keeps-same : (q : ℕ) (c : Block) → slice_get f.blocks q ≡ Some c → keeps (touches_at blocks q) ≡ keeps (doing c.instrs))
        (dead-there : dead ≡ map (dead_at x v k) f.blocks)
        (y : ℕ) (b : Block) (is : List Instr) (p : Part f y b is) (rest : List LaneTouch) (seen-rest : seen rest ≡ seen (doing is)) (keeps-rest : keeps rest ≡ keeps (doing is)) where
      live-open : (bs : List Block) (q : ℕ) (c : Block) → slice_get bs q ≡ Some c → dead_at x v k c ≡ false → is_open (map (dead_at x v k) bs) q ≡ true
      live-open [] q c e h = absurd (cc)
      live-open (d ∷ bs) zero c e h = ap not (ap (dead_at x v k) (some-same d c e) ∙ h)
      live-open (d ∷ bs) (suc q) c e h = live-open bs q c e h

      start-open : (q : ℕ) → Follows f x v k o.id q → is_open dead q ≡ true
      start-open q w =
          let c = block-of q w in
          let live = subst (λ a. Live R C a L) (sym (block-start t f x computed rules last ranked v k q c.0 c.1)) (follows-live q w c.0 c.1) in
          let there : LiveAt t f (Start c.0.number) L = subst (λ a. Live R a (found c.0.number a) L) (sym (points-are t f (number_in x.lanes) rules (numbered t f x computed rules last ranked v k))) live in
          let marked : marked_at x.rows.rows.items (number_in x.lanes (owners.Range v k)) (get nat_cmp x.order.positions c.0.number) ≡ true = (computed-law t f x computed rules last L refl q c.0 c.1).1 there in
          ap (λ ds. is_open ds q) dead-there ∙ live-open f.blocks q c.0 c.1 (ap not marked)
        where
          block-of : (q : ℕ) → Follows f x v k o.id q → (c : Block) × (slice_get f.blocks q ≡ Some c)
          block-of q (sees {c = c} e h) = (c, e)
          block-of q (goes {c = c} e h n w) = (c, e)

      abbrev Entered : ℕ → Type 0
      Entered q = Enters ways blocks dead y rest q

      -- the walk sees the reading
      abbrev pub Found : Type 0
      Found = (has o.id (seen rest) ≡ true) ⊎ ((q : ℕ) × Entered q × (has o.id (seen (touches_at blocks q)) ≡ true))

      walk-on : (q : ℕ) → Entered q → Follows f x v k o.id q → (r : ℕ) × Entered r × (has o.id (seen (touches_at blocks r)) ≡ true)
      walk-on q n (sees {c = c} e h) = (q, n, ap (has o.id) (seen-same q c e) ∙ h)
      walk-on q n (goes {r = r} {c = c} e h m w) = walk-on r (goes_on n (keeps-same q c e ∙ h) m (start-open r w)) w

      pub from-found : From t f x computed rules last ranked v k yo bo o os po read-there y is → Found
      from-found (inl h) = inl (ap (has o.id) seen-rest ∙ h)
      from-found (inr z) = inr (walk-on z.1 (leaves (keeps-rest ∙ z.0) z.2 (start-open z.1 z.3)) z.3)

      walk-back : (q : ℕ) → Entered q → Follows f x v k o.id q → From t f x computed rules last ranked v k yo bo o os po read-there y is
      walk-back q (leaves h m n) w = inr (sym keeps-rest ∙ h, q, m, w)
      walk-back q (goes_on {p = r} g h m n) w =
          let c = entered-block x v k f.blocks ways blocks dead y rest r dead-there g in
          walk-back r g (goes c.1 (sym (keeps-same r c.0 c.1) ∙ h) m w)

      pub found-from : Found → From t f x computed rules last ranked v k yo bo o os po read-there y is
      found-from (inl h) = inl (ap (has o.id) (sym seen-rest) ∙ h)
      found-from (inr z) = walk-back z.0 z.1 (let c = entered-block x v k f.blocks ways blocks dead y rest z.0 dead-there z.1 in sees c.1 (ap (has o.id) (sym (seen-same z.0 c.0 c.1)) ∙ z.2))
