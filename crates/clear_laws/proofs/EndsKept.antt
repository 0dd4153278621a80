-- Terminators with their tinies keep what their place has to: they define nothing of the range.
use Rattle.std.proofs.Common.{◌≡◌, ◌⊎◌, inl, inr, ◌+◌, ◌∷◌, ◌++◌, ◌∙◌, ◌&&◌, ℕ, Bool, true, false, cond, List, flat_map, length, map, refl, sym, ap, subst, append-nil, []}
use Rattle.target_base.specs.declared.types.Effect.{Effect}
use Rattle.target_base.specs.declared.types.Effect.TheVariants as effects
use Rattle.target_base.specs.declared.types.Target.{Target}
use Rattle.target_base.specs.Roles.{is_silent}
use Rattle.target_base.specs.Rules.{is_phi}
use Rattle.meaning.specs.Code.{Code, Edge, Item}
use Rattle.meaning.specs.Lanes.{Writes, filled}
use Rattle.meaning.specs.Live.{Among as Member, Writing, exits_of, here as first, in_order, next, there as later, writes_of}
use Rattle.meaning.specs.declared.types.Fill.TheVariants.{Moved}
use Rattle.meaning.specs.declared.types.Lane.{Lane}
use Rattle.meaning.specs.declared.types.Lane.TheVariants.{SlotLane, VirtualLane}
use Rattle.meaning.specs.declared.types.Source.TheVariants.{FromLane}
use Rattle.mir_func.specs.declared.func.Edge.{Edge as Successor}
use Rattle.mir_func.specs.declared.func.Instr.{Instr}
use Rattle.mir_func.specs.declared.func.Block.{Block}
use Rattle.mir_func.specs.Value.{Function}
use Rattle.mir_func.specs.Binding.{does, is_terminator, numbered, passes}
use Rattle.mir_meaning.specs.Codes.{item_of, way, ways_out}
use Rattle.mir_meaning.specs.Points.{point_item}
use Rattle.mir_meaning.specs.Rules.{V1}
use Rattle.instr_effects.proofs.Members.{map-of, member-elim, member-none}
use Rattle.split_laws.proofs.Splitting.{as-item}
use Rattle.spiller.specs.Rematerialised.{ways_read}
use Rattle.spiller.specs.Setting.{Spilling, is_own}
use Rattle.spiller.specs.Spilled.{Seats, place_change, seats_from, spilled, stored, with_tinies}
use Rattle.spill_laws.specs.Laws.{HasTinies}
use Rattle.spill_laws.specs.Standing.{IsSite, code_from}
use Rattle.spill_laws.specs.TinyPlaces.{AreAt, GetsTinies}
use Rattle.spill_laws.proofs.Blocks.{no-definitions, own-none}
use Rattle.spill_laws.proofs.TinyRules.{operand-there, rolled}
use Rattle.clear_laws.proofs.CountedSeats.{before-is, counted-as, early, gives, keeps, known, loaded, now-is, own-wrote, phi, place-plain, seen, slotless, written}
use Rattle.clear_laws.proofs.PlaceBounds.{Wrote, unwritten}
use Rattle.clear_laws.proofs.PlacesKept.{PlaceKept}
use Rattle.clear_laws.proofs.Replaced.{Held, IsKept}
use Rattle.clear_laws.proofs.Seated.{IsFurther, ReadIn, silents}
use Rattle.clear_laws.proofs.SeatedEnds.{AreEnds, AreLoaded, IsEnd, ReadAny, ends, ends-kept, no-ends}
use Rattle.clear_laws.proofs.SeatedLoads.{silent-items}
use Rattle.clear_laws.proofs.SpillPoints.{goes-on, is-stored, is-wide}
use Rattle.clear_laws.proofs.TinyItems.{numbered-by, numbered-items}
use Rattle.clear_laws.proofs.TinyLoads.{HeldAt, load-further, load-gives, load-item, loads}

ends-count : (e : Effect) → is_terminator e ≡ true → is_silent e ≡ false
ends-count effects.Copy h = absurd (cc)
ends-count effects.Phi h = absurd (cc)
ends-count effects.ImplicitDef h = absurd (cc)
ends-count effects.RegSequence h = absurd (cc)
ends-count effects.InsertSubreg h = absurd (cc)
ends-count effects.Const h = absurd (cc)
ends-count effects.Addr h = absurd (cc)
ends-count effects.Spill h = absurd (cc)
ends-count effects.Reload h = absurd (cc)
ends-count e h = refl

module _ (s : Spilling) (b c : Block) (is : List Instr) (p : Code) (n : ℕ) (gt : GetsTinies s (spilled s) b c is p n) (ending : (i : Instr) → Member i is → does is_terminator s.target i ≡ true) where
  abbrev t : Target
  t = s.target

  abbrev f : Function
  f = s.func

  abbrev g : Function
  g = spilled s

  abbrev h : HasTinies s (spilled s) n is
  h = gt.tinies

  abbrev z : Seats
  z = seats_from s n is

  each-counts : (j : Instr) → Member j is → does is_silent s.target j ≡ false
  each-counts j m =
      let r = rolled s g n is h j m in
      ap (passes is_silent) r.known ∙ ends-count r.effect (sym (ap (passes is_terminator) r.known) ∙ ending j m)

  rules : (d : Block) (i : Instr) → Member d s.func.blocks → Member i d.instrs → V1 s.target s.func i ≡ true
  rules d i md mi = (gt.setting.shaped d i md mi).operands

  abbrev Keeps : Code → Lane → Type 0
  Keeps q l = Held s.target s.func (spilled s) s.range s.slot (is-wide s) (is-stored s) q l

  -- one of them writes nothing of the range
  module _ (j : Instr) (mj : Member j is) where
    abbrev X : Item
    X = counted-as s b c is p n gt each-counts j mj j

    abbrev Y : Item
    Y = counted-as s b c is p n gt each-counts j mj (with_tinies s (seats_from s n is) j)

    own : (k : ℕ) → Writing (counted-as s b c is p n gt each-counts j mj j) (VirtualLane s.range k) → ⊥
    own k w =
        let o = own-wrote s b c is p n gt each-counts j mj k w in
        let there = operand-there s g n is h j mj o.k o.q o.operand o.own.among in
        let none = own-none s rules j (h.shaped j mj).operands (ending j mj) o.operand there in
        let both : (is_own s o.operand && o.operand.def) ≡ true = λ x. o.own.own x && o.def x in
        cc

    bare : (y : Edge) → Member y (exits_of (counted-as s b c is p n gt each-counts j mj j)) → y.phis ≡ []
    bare y m =
        let e = (rolled s g n is h j mj).effect in
        let ends-here : is_terminator e ≡ true = sym (ap (passes is_terminator) (known s b c is p n gt each-counts j mj)) ∙ ending j mj in
        let v = map-of (λ (x : Successor). way t g c.number x.block) y c.successors (subst (λ (x : Bool). Member y (cond x (ways_out t g c) [])) ends-here m) in
        ap (λ (x : Edge). x.phis) v.2 ∙ gt.blocks.bare_behind c.number v.0.block

    is-end : (q : Code) → IsSite s j.id (item_of t f b j) q → IsEnd s.target s.func (spilled s) s.range s.slot (is-wide s) (is-stored s) (goes-on s) p (item_of t f b j) (item_of t g c (with_tinies s z j))
    is-end q site =
        subst (λ y. IsEnd t f g s.range s.slot (is-wide s) (is-stored s) (goes-on s) p y (item_of t g c (with_tinies s z j))) (sym (before-is s b c is p n gt each-counts j mj))
        (subst (IsEnd t f g s.range s.slot (is-wide s) (is-stored s) (goes-on s) p X) (sym (now-is s b c is p n gt each-counts j mj))
        (record {
          order = ap in_order (sym (before-is s b c is p n gt each-counts j mj)) ∙ site.order;
          exits = refl;
          bare = bare;
          own = own;
          slots = λ k w y. slotless s b c is p n gt each-counts j mj s.slot k w y;
          read_by = seen s b c is p n gt each-counts j mj;
          gives = gives s b c is p n gt each-counts j mj;
          keeps = keeps s b c is p n gt each-counts j mj;
          written = written s b c is p n gt each-counts j mj;
          early = early s b c is p n gt each-counts j mj;
        }))

    -- what is held behind it is held before it
    back-one : (q : Code) → IsSite s j.id (item_of t f b j) q → (l : Lane) → Keeps q l → Keeps (item_of t f b j ∷ q) l
    back-one q site l k = record { k = k.k; w = k.w; is = k.is; fits = k.fits; from = go k.from }
      where
        wrote : (a : Lane) → Writing (item_of t f b j) a → Writing (counted-as s b c is p n gt each-counts j mj j) a
        wrote a w = subst (λ y. Writing y a) (before-is s b c is p n gt each-counts j mj) w

        go : IsKept s.target s.func (spilled s) s.range s.slot (is-wide s) (is-stored s) q k.k → IsKept s.target s.func (spilled s) s.range s.slot (is-wide s) (is-stored s) (item_of t f b j ∷ q) k.k
        go (inl y) = inl (y.0, y.1, next site.order y.2 (unwritten (writes_of (item_of t f b j)) (SlotLane s.slot k.k y.0) (λ w. slotless s b c is p n gt each-counts j mj s.slot k.k y.0 (wrote (SlotLane s.slot k.k y.0) w))) refl)
        go (inr y) =
            inr (
              next site.order y.0 (unwritten (writes_of (item_of t f b j)) (VirtualLane s.range k.k) (λ w. own k.k (wrote (VirtualLane s.range k.k) w))) refl,
              (goes-on s).back (item_of t f b j) q k.k site.order (λ w. own k.k (wrote (VirtualLane s.range k.k) w)) y.1,
            )

  -- all of them

  are-ends : (js : List Instr) → ((j : Instr) → Member j js → Member j is) → AreAt s b js p → AreEnds s.target s.func (spilled s) s.range s.slot (is-wide s) (is-stored s) (goes-on s) p (map (item_of t f b) js) (map (item_of t g c) (map (with_tinies s z) js))
  are-ends [] inside at = no-ends
  are-ends (j ∷ js) inside at = ends (is-end j (inside j first) (map (item_of t f b) js ++ p) at.0) (are-ends js (λ i m. inside i (later m)) at.2)

  held-first : (js : List Instr) → ((j : Instr) → Member j js → Member j is) → AreAt s b js p → (j : Instr) → Member j js → (l : Lane) → HeldAt s b c is p n gt (λ j o m there def. each-counts j m) j l → Keeps (map (item_of t f b) js ++ p) l
  held-first [] inside at j m l k = absurd (member-none j m)
  held-first (i ∷ js) inside at j m l k =
      member-elim j i js
      (λ q. subst (λ u. Keeps u l) at.0.from (subst (λ y. HeldAt s b c is p n gt (λ j o m there def. each-counts j m) y l) q k))
      (λ q. back-one i (inside i first) (map (item_of t f b) js ++ p) at.0 l (held-first js (λ y v. inside y (later v)) at.2 j q l k)) m

  given : (ws : Writes) (a l : Lane) → Member ws (loads s b c is p n gt (λ j o m there def. each-counts j m)) → filled ws a ≡ Moved (FromLane l) → ((l ≡ a) × (Wrote ws a → ⊥)) ⊎ Keeps (map (item_of t f b) is ++ p) l
  given ws a l m fed = go (load-gives s b c is p n gt (λ j o m there def. each-counts j m) ws m a l fed)
    where
      go : ((l ≡ a) × (Wrote ws a → ⊥)) ⊎ ((j : Instr) × Member j is × HeldAt s b c is p n gt (λ j o m there def. each-counts j m) j l) → ((l ≡ a) × (Wrote ws a → ⊥)) ⊎ Keeps (map (item_of t f b) is ++ p) l
      go (inl q) = inl q
      go (inr q) = inr (held-first is (λ j m. m) gt.at q.0 q.1 l q.2)

  all-loaded : (a : Lane) → IsFurther s.func a → ReadAny (map (item_of t g c) (map (with_tinies s z) is)) a → (ws : Writes) × Member ws (loads s b c is p n gt (λ j o m there def. each-counts j m)) × Wrote ws a
  all-loaded a far r =
      let x = map-of (item_of t g c) r.0 (map (with_tinies s z) is) r.1 in
      let y = map-of (with_tinies s z) x.0 is x.1 in
      let same : r.0 ≡ counted-as s b c is p n gt each-counts y.0 y.1 (with_tinies s (seats_from s n is) y.0) = x.2 ∙ (ap (item_of t g c) y.2 ∙ now-is s b c is p n gt each-counts y.0 y.1) in
      loaded s b c is p n gt each-counts y.0 y.1 a far (subst (λ u. ReadIn u a) same r.2)

  are-loaded : AreLoaded s.target s.func (spilled s) s.range s.slot (is-wide s) (is-stored s) (goes-on s) p (map (item_of t f b) is) (map (item_of t g c) (map (with_tinies s z) is)) (loads s b c is p n gt (λ j o m there def. each-counts j m))
  are-loaded = record {
    all = are-ends is (λ j m. m) gt.at;
    load_lanes = λ ws a m w. load-further s b c is p n gt (λ j o m there def. each-counts j m) ws a m w;
    load_gives = λ ws a l m q. given ws a l m q;
    loaded = all-loaded;
  }

  -- nothing is stored behind them
  none-behind : (place_change s n is).behind ≡ []
  none-behind = ap (λ ds. flat_map (stored s) (numbered (n + length (ways_read s is)) ds)) (no-definitions s rules is (λ i m. (h.shaped i m).operands) ending)

  no-phis : (i : Instr) → Member i is → does is_phi s.target i ≡ false
  no-phis i m = phi s b c is p n gt each-counts i m

  old-items : (js : List Instr) → ((j : Instr) → Member j js → Member j is) → map (point_item t f b) js ≡ map (item_of t f b) js
  old-items [] inside = refl
  old-items (j ∷ js) inside = λ k. as-item t f b j (no-phis j (inside j first)) k ∷ old-items js (λ i m. inside i (later m)) k

  stands : (js : List Instr) → ((j : Instr) → Member j js → Member j is) → AreAt s b js p → (front : List Instr) (j : Instr) (back : List Instr) → front ++ j ∷ back ≡ js → code_from s j.id ≡ point_item t f b j ∷ (map (point_item t f b) back ++ p)
  stands [] inside at [] j back e = absurd (cc)
  stands [] inside at (x ∷ front) j back e = absurd (cc)
  stands (i ∷ js) inside at [] j back e = go (cc) (cc)
    where
      go : i ≡ j → js ≡ back → code_from s j.id ≡ point_item t f b j ∷ (map (point_item t f b) back ++ p)
      go one rest =
          subst (λ ks. code_from s j.id ≡ point_item t f b j ∷ (map (point_item t f b) ks ++ p)) rest
          (subst (λ y. code_from s y.id ≡ point_item t f b y ∷ (map (point_item t f b) js ++ p)) one
          (at.0.from ∙ (λ k. sym (as-item t f b i (no-phis i (inside i first))) k ∷ (sym (old-items js (λ y m. inside y (later m))) k ++ p))))
  stands (i ∷ js) inside at (x ∷ front) j back e = stands js (λ y m. inside y (later m)) at.2 front j back (cc)

  now-items : (m : ℕ) → map (point_item t g c) (numbered-by m (place_change s n is)) ≡ silents (loads s b c is p n gt (λ j o m there def. each-counts j m)) ++ map (item_of t g c) (map (with_tinies s z) is)
  now-items m =
      numbered-items t g c m (place_change s n is) (place-plain s b c is p n gt)
      ∙ ((λ k. silent-items t g c (place_change s n is).before (load-item s b c is p n gt (λ j o m there def. each-counts j m)) k ++ (map (item_of t g c) (map (with_tinies s z) is) ++ map (item_of t g c) (none-behind k)))
      ∙ ap (λ xs. silents (loads s b c is p n gt (λ j o m there def. each-counts j m)) ++ xs) (append-nil (map (item_of t g c) (map (with_tinies s z) is))))

no-place : (front : List Instr) (y : Instr) (back : List Instr) → front ++ y ∷ back ≡ [] → ⊥
no-place [] y back e = cc
no-place (x ∷ front) y back e = cc

pub terminators-kept : (s : Spilling) (b c : Block) (is : List Instr) (p : Code) (n : ℕ) (gt : GetsTinies s (spilled s) b c is p n) → ((i : Instr) → Member i is → does is_terminator s.target i ≡ true) → (m : ℕ)
    → PlaceKept s.target s.func (spilled s) s.range s.slot (is-wide s) (is-stored s) b c is (numbered-by m (place_change s n is)) p
terminators-kept s b c [] p n gt ending m = record {
  bounds = λ l z. z;
  entry = λ front y back e. absurd (no-place front y back e);
  exit = λ front y back e. absurd (no-place front y back e);
}
terminators-kept s b c (i ∷ is) p n gt ending m =
    ends-kept s.target s.func (spilled s) s.range s.slot (is-wide s) (is-stored s) (goes-on s) p (map (item_of s.target s.func b) (i ∷ is)) (map (item_of s.target (spilled s) c) (map (with_tinies s (seats_from s n (i ∷ is))) (i ∷ is)))
    (loads s b c (i ∷ is) p n gt (λ j o k there def. each-counts s b c (i ∷ is) p n gt ending j k)) (are-loaded s b c (i ∷ is) p n gt ending) b c i is (numbered-by m (place_change s n (i ∷ is))) (old-items s b c (i ∷ is) p n gt ending (i ∷ is) (λ j m. m))
    (now-items s b c (i ∷ is) p n gt ending m) (stands s b c (i ∷ is) p n gt ending (i ∷ is) (λ j m. m) gt.at)
