-- What is loaded before a place with tinies is what the slot holds of lanes that the place reads.
use Rattle.std.proofs.Common.{◌≡◌, ◌⊎◌, inl, inr, ◌∷◌, ◌∙◌, ◌&&◌, not, ℕ, Bool, true, false, cond, List, Option, Some, None, flat_map, map, refl, sym, ap, subst, eq-eqb, []}
use Rattle.std.specs.Prelude.{filter, filter_map, nat_eq, option_and_then}
use Rattle.target_base.specs.declared.types.Effect.{Effect}
use Rattle.target_base.specs.declared.types.Effect.TheVariants as effects
use Rattle.target_base.specs.declared.types.Role.{Role}
use Rattle.target_base.specs.declared.types.Target.{Target}
use Rattle.target_base.specs.Roles.{is_silent}
use Rattle.target_base.proofs.Tests.{first_of_both, second_of_both}
use Rattle.meaning.specs.Code.{Code, Item, Silent}
use Rattle.meaning.specs.Lanes.{Writes, filled}
use Rattle.meaning.specs.Live.{Among as Member, here as first, read, reads_of, writes_of}
use Rattle.meaning.specs.declared.types.Fill.TheVariants.{Moved}
use Rattle.meaning.specs.declared.types.Lane.{Lane}
use Rattle.meaning.specs.declared.types.Lane.TheVariants.{VirtualLane}
use Rattle.meaning.specs.declared.types.Source.TheVariants.{FromLane, Undef}
use Rattle.mir_func.specs.declared.func.Loc.TheVariants.{Virtual}
use Rattle.mir_func.specs.declared.func.RegOp.{RegOp}
use Rattle.mir_func.specs.declared.func.Operand.TheVariants as operands
use Rattle.mir_func.specs.declared.func.Instr.{Instr}
use Rattle.mir_func.specs.declared.func.Block.{Block}
use Rattle.mir_func.specs.Value.{Function}
use Rattle.mir_func.specs.Binding.{TiedPair, does, effect_of, explicit_bound, explicit_operands, explicit_roles, immediate_of, implicit_registers, implicit_roles, passes, registers, roles_of, tied_number, tied_pair, tied_pairs}
use Rattle.mir_meaning.specs.Codes.{item_of}
use Rattle.mir_meaning.specs.Items.{Value, first_width, implicit_values, use_value, value_of, values}
use Rattle.mir_meaning.specs.Places.{Variable, is_defining}
use Rattle.mir_meaning.specs.Registers.{is_reserved, located_lanes, operand_lanes, use_sources}
use Rattle.instr_effects.proofs.Members.{either-elim, filter-in, filter-of, flat-in, flat-of, left-in, map-in, map-of, right-in}
use Rattle.live_laws.proofs.Effects.Shapes.{class-there, index-there}
use Rattle.lowering_laws.proofs.Formed.{tied-seat}
use Rattle.lowering_laws.proofs.Seated.{bound-operand, pair-of, pair_with, seated-use, told-in}
use Rattle.spiller.specs.Reaching.{Reads}
use Rattle.spiller.specs.Rematerialised.{tied_readings, ways_read}
use Rattle.spiller.specs.Setting.{Spilling, in_own_slot, is_own, own_lanes, plain_definition, reload}
use Rattle.spiller.specs.Spilled.{OwnDefinition, Seats, given, place_change, seats_from, spilled, tied_reload}
use Rattle.spill_laws.specs.Laws.{HasTinies, is_placed}
use Rattle.spill_laws.specs.Standing.{IsStored, code_before, code_from, slot_lane}
use Rattle.spill_laws.specs.TinyPlaces.{GetsTinies}
use Rattle.spill_laws.proofs.InForm.{place-in}
use Rattle.spill_laws.proofs.OwnOperands.{among}
use Rattle.spill_laws.proofs.PlaceReadings.{item-is}
use Rattle.spill_laws.proofs.Ranges.{numbered-of}
use Rattle.spill_laws.proofs.SameUses.{use-same}
use Rattle.spill_laws.proofs.SlotPlaces.{width}
use Rattle.spill_laws.proofs.SpillItems.{own-lanes-are, own-move}
use Rattle.spill_laws.proofs.TinyRules.{operand-there, rolled}
use Rattle.clear_laws.proofs.KnownReadings.{reader-in, tied-known, way-known}
use Rattle.clear_laws.proofs.PlaceBounds.{Wrote}
use Rattle.clear_laws.proofs.Replaced.{Held}
use Rattle.clear_laws.proofs.Seated.{IsFurther}
use Rattle.clear_laws.proofs.SeatedLoads.{writes-by, writes-in, writes-of}
use Rattle.clear_laws.proofs.SilentPlaces.{own-wide}
use Rattle.clear_laws.proofs.SpillPoints.{is-stored, is-wide}
use Rattle.clear_laws.proofs.TiedLoads.{TiedUse, by, tied-further, tied-given, tied-load, tied-loaded, tied-use}
use Rattle.clear_laws.proofs.TinyPlaces.{DefinedTiny, IsOwn, TiedTo, register-inside}
use Rattle.clear_laws.proofs.WayLoads.{ReadBy, read-by, way-further, way-given, way-gives, way-loaded}

module _ (s : Spilling) (b c : Block) (p : List Instr) (q : Code) (n : ℕ) (gt : GetsTinies s (spilled s) b c p q n) (counts : (i : Instr) (o : RegOp) → Member i p → Member (operands.Reg o) i.operands → o.def ≡ false → does is_silent s.target i ≡ false) where
  abbrev t : Target
  t = s.target

  abbrev f : Function
  f = s.func

  abbrev g : Function
  g = spilled s

  abbrev h : HasTinies s (spilled s) n p
  h = gt.tinies

  abbrev z : Seats
  z = seats_from s n p

  abbrev pub loads : List Writes
  loads = writes-by s.target (spilled s) c (place_change s n p).before

  -- readings at the place are known

  plain : (i : Instr) → p ≡ i ∷ [] → (effect_of t i ≡ Some effects.Copy → ⊥) × (effect_of t i ≡ Some effects.Spill → ⊥)
  plain i e = (λ k. (let a : passes is_placed (Some effects.Copy) ≡ true = ap (passes is_placed) (sym k) ∙ h.placed i inside in cc), λ k. (let a : passes is_placed (Some effects.Spill) ≡ true = ap (passes is_placed) (sym k) ∙ h.placed i inside in cc))
    where
      inside : Member i p
      inside = subst (Member i) (sym e) first

  -- an operand of the range is read

  module _ (i : Instr) (mi : Member i p) (k : ℕ) (r : Option Role) (o : RegOp) (own : IsOwn s g n p h i mi k r o) (def : o.def ≡ false) (undef : o.undef ≡ false) where
    abbrev e : Effect
    e = (rolled s (spilled s) n p gt.tinies i mi).effect

    known : effect_of t i ≡ Some (rolled s (spilled s) n p gt.tinies i mi).effect
    known = (rolled s g n p h i mi).known

    counted : is_silent (rolled s (spilled s) n p gt.tinies i mi).effect ≡ false
    counted = sym (ap (passes is_silent) known) ∙ counts i o mi (operand-there s g n p h i mi k r o own.among) def

    in-reads : Member (use_sources t f o) (reads_of (item_of t f b i))
    in-reads =
        let w = first_width t f (registers i.operands) in
        let there = bound-operand (explicit_roles (roles_of t i)) (explicit_operands i.operands) r (operands.Reg o) (among s g n p h i mi k r o own.among own.own) in
        let one : Member (use_value t f o) (filter_map (value_of t f e w) (explicit_operands i.operands)) = told-in (value_of t f e w) (use_value t f o) (operands.Reg o) (explicit_operands i.operands) there (λ j. cond (def j) None (Some (use_value t f o))) in
        let all : Member (use_value t f o) (values t f e i) =
        left-in (use_value t f o) (filter_map (value_of t f e w) (explicit_operands i.operands)) (implicit_values t f e (immediate_of i.operands) (implicit_roles (roles_of t i)) (filter (λ (o : RegOp). not o.def) (implicit_registers i.operands))) one in
        subst (Member (use_sources t f o)) (sym (ap reads_of (item-is s g b c p q n gt i mi e known counted))) (map-in (λ (v : Value). v.0) (use_value t f o) (values t f e i) all)

    in-sources : (j : ℕ) → Member j (own_lanes s o.index) → Member (FromLane (VirtualLane s.range j)) (use_sources t f o)
    in-sources j mj =
        subst (λ u. Member (FromLane (VirtualLane s.range j)) (map (cond u (λ l. Undef) FromLane) (operand_lanes t f o))) (sym undef)
        (map-in FromLane (VirtualLane s.range j) (operand_lanes t f o) (subst (Member (VirtualLane s.range j)) (sym (own-lanes-are s o own.own)) (map-in (VirtualLane s.range) j (own_lanes s o.index) mj)))

    reads-lane : (x : Code) (j : ℕ) → Member j (own_lanes s o.index) → Reads (is_reserved t) (code_before s) (VirtualLane s.range j) (item_of t f b i) x
    reads-lane x j mj = inl (use_sources t f o, in-reads, in-sources j mj)

    -- the slot's lane is held at the instruction
    lane-held : (x : Code) (j : ℕ) (l : Lane) → Member j (own_lanes s o.index) → l ≡ slot_lane s j → IsStored s j (item_of t f b i ∷ x) → Held t f g s.range s.slot (is-wide s) (is-stored s) (item_of t f b i ∷ x) l
    lane-held x j l mj is st =
        let there = register-inside s g n p h i mi k r o own in
        let shaped = h.shaped i mi in
        record {
          k = j;
          w = width s j;
          is = is;
          fits = own-wide s o.index (own-move s h.classes o.loc o.index own.own (class-there t f i shaped o there) (index-there t f i shaped o there)) j mj;
          from = inr (read in-reads (in-sources j mj) refl, st);
        }

  -- what a load gives

  abbrev pub HeldAt : Instr → Lane → Type 0
  HeldAt i l = Held s.target s.func (spilled s) s.range s.slot (is-wide s) (is-stored s) (code_from s i.id) l

  abbrev pub GivesHeld : Writes → Type 0
  GivesHeld ws = (a l : Lane) → filled ws a ≡ Moved (FromLane l) → ((l ≡ a) × (Wrote ws a → ⊥)) ⊎ ((i : Instr) × Member i p × HeldAt i l)

  stands : (i : Instr) → Member i p → (x : Code) × (code_from s i.id ≡ item_of t f b i ∷ x)
  stands i mi = gt.setting.stands b i gt.block (place-in s b p gt.place i mi)

  way-gives-held : (k : ℕ) (v : Variable) → Member (k, v) z.ways → GivesHeld (writes_of (item_of t g c (given s p (k, v))))
  way-gives-held k v m a l e =
      let r = numbered-of n (ways_read s p) (k, v) m in
      let w = read-by s n p h v r in
      let x = stands w.instr w.inside in
      let index : v.index ≡ w.operand.index = ap (λ (u : Variable). u.index) w.is in
      let kind : is_defining v.kind ≡ false = ap (λ (u : Variable). is_defining u.kind) w.is in
      let by = reader-in s p v v w.instr w.inside w.among (use-same v v (record { first_uses = kind; second_uses = kind; range = refl; index = refl; class = refl })) in
      go w x index (way-given s n p h gt.setting c (way-known s b p gt.block gt.place plain) k v m r w.instr (item_of t f b w.instr) x.0 x.1 by
      (λ j mj. reads-lane w.instr w.inside w.k w.q w.operand w.own w.used w.plain x.0 j (subst (λ y. Member j (own_lanes s y)) index mj)) a l e)
    where
      go : (w : ReadBy s n p h v) (x : (x : Code) × (code_from s w.instr.id ≡ item_of t f b w.instr ∷ x)) → v.index ≡ w.operand.index
          → ((l ≡ a) × (Wrote (writes_of (item_of t g c (given s p (k, v)))) a → ⊥)) ⊎ ((j : ℕ) × Member j (own_lanes s v.index) × (l ≡ slot_lane s j) × IsStored s j (item_of t f b w.instr ∷ x.0)) → ((l ≡ a) × (Wrote (writes_of (item_of t g c (given s p (k, v)))) a → ⊥)) ⊎ ((i : Instr) × Member i p × HeldAt i l)
      go w x index (inl y) = inl y
      go w x index (inr y) =
          inr (
            w.instr,
            w.inside,
            subst (λ u. Held t f g s.range s.slot (is-wide s) (is-stored s) u l) (sym x.1)
                (lane-held w.instr w.inside w.k w.q w.operand w.own w.used w.plain x.0 y.0 l (subst (λ u. Member y.0 (own_lanes s u)) index y.1) y.2 y.3),
          )

  tie-gives-held : (k : ℕ) (w : OwnDefinition) → Member (k, w) z.definitions → (j : Instr) → Member j (tied_reload s (k, w)) → GivesHeld (writes_of (item_of t g c j))
  tie-gives-held k w m j mj a l e =
      let y = tied-load s n p h gt.setting c k w m j mj in
      let i = (by s n p h gt.setting c k w m).instr in
      let mi = (by s n p h gt.setting c k w m).inside in
      let u = tied-use s n p h i mi y.pair y.among in
      let x = stands i mi in
      let tied = filter-of (λ (v : TiedPair). is_own s v.tied_use && not v.tied_use.undef) y.pair (tied_pairs t i) y.among in
      let undef = not-true y.pair.tied_use.undef (second_of_both (is_own s y.pair.tied_use) (not y.pair.tied_use.undef) tied.1) in
      let def = use-plain i mi y.pair tied.0 u.k u.q u.own u.ties in
      go i mi y.pair u def undef x
      (tied-given s n p h gt.setting c k w m j y (item_of t f b i) x.0 x.1 (tied-known s b p gt.block gt.place plain i y.pair mi y.among)
      (λ v mv. reads-lane i mi u.k u.q y.pair.tied_use u.own def undef x.0 v mv) a l e)
    where
      not-true : (b : Bool) → not b ≡ true → b ≡ false
      not-true true e = absurd (cc)
      not-true false e = refl

      use-plain : (i : Instr) (mi : Member i p) (y : TiedPair) → Member y (tied_pairs t i) → (k : ℕ) (r : Option Role) → IsOwn s g n p h i mi k r y.tied_use → option_and_then tied_number r ≡ Some y.number → y.tied_use.def ≡ false
      use-plain i mi y m k r own ties =
          let d = rolled s g n p h i mi in
          let at = (tied-seat t i y m).3 in
          let inside = told-in (tied_pair i.operands) y (r, operands.Reg y.tied_use) (explicit_bound (explicit_roles (roles_of t i)) i.operands) (numbered-of 0 (explicit_bound (explicit_roles (roles_of t i)) i.operands) (k, (r, operands.Reg y.tied_use)) own.among) (pair-of i.operands r y.tied_use y.number y.definition ties at) in
          not-true y.tied_use.def (first_of_both (not y.tied_use.def) (not y.tied_use.implicit) (seated-use t f i d.effect d.known d.rolled (h.shaped i mi).operands y inside))

      go : (i : Instr) (mi : Member i p) (y : TiedPair) (u : TiedUse s n p h i mi y) → y.tied_use.def ≡ false → y.tied_use.undef ≡ false → (x : (x : Code) × (code_from s i.id ≡ item_of t f b i ∷ x))
          → ((l ≡ a) × (Wrote (writes_of (item_of t g c j)) a → ⊥)) ⊎ ((v : ℕ) × Member v (own_lanes s y.tied_use.index) × (l ≡ slot_lane s v) × IsStored s v (item_of t f b i ∷ x.0)) → ((l ≡ a) × (Wrote (writes_of (item_of t g c j)) a → ⊥)) ⊎ ((i : Instr) × Member i p × HeldAt i l)
      go i mi y u def undef x (inl v) = inl v
      go i mi y u def undef x (inr v) =
          inr (
            i,
            mi,
            subst (λ w. Held t f g s.range s.slot (is-wide s) (is-stored s) w l) (sym x.1)
                (lane-held i mi u.k u.q y.tied_use u.own def undef x.0 v.0 l v.1 v.2 v.3),
          )

  -- each load is of a way of reading or of a tied use

  data LoadKind (j : Instr) : Type 0 where
    of-way : (k : ℕ) (v : Variable) → Member (k, v) z.ways → j ≡ given s p (k, v) → LoadKind j
    of-tie : (k : ℕ) (w : OwnDefinition) → Member (k, w) z.definitions → Member j (tied_reload s (k, w)) → LoadKind j

  kind : (j : Instr) → Member j (place_change s n p).before → LoadKind j
  kind j m =
      either-elim j (map (given s p) z.ways) (flat_map (tied_reload s) z.definitions)
      (λ k. let y = map-of (given s p) j z.ways k in of-way y.0.0 y.0.1 y.1 y.2)
      (λ k. let y = flat-of (tied_reload s) j z.definitions k in of-tie y.0.0 y.0.1 y.1 y.2) m

  pub load-gives : (ws : Writes) → Member ws loads → GivesHeld ws
  load-gives ws m = let y = writes-of t g c (place_change s n p).before ws m in subst GivesHeld (sym y.2) (go y.0 (kind y.0 y.1))
    where
      go : (j : Instr) → LoadKind j → GivesHeld (writes_of (item_of t g c j))
      go j (of-way k v x e) = subst (λ u. GivesHeld (writes_of (item_of t g c u))) (sym e) (way-gives-held k v x)
      go j (of-tie k w x e) = tie-gives-held k w x j e

  pub load-further : (ws : Writes) (a : Lane) → Member ws loads → Wrote ws a → IsFurther f a
  load-further ws a m w = let y = writes-of t g c (place_change s n p).before ws m in go y.0 (kind y.0 y.1) (subst (λ us. Wrote us a) y.2 w)
    where
      go : (j : Instr) → LoadKind j → Wrote (writes_of (item_of t g c j)) a → IsFurther f a
      go j (of-way k v x e) u = way-further s n p h gt.setting c (way-known s b p gt.block gt.place plain) k v x (numbered-of n (ways_read s p) (k, v) x) a (subst (λ y. Wrote (writes_of (item_of t g c y)) a) e u)
      go j (of-tie k w x e) u = tied-further s n p h gt.setting c k w x j (tied-load s n p h gt.setting c k w x j e) a u

  -- it is silent
  pub load-item : (j : Instr) → Member j (place_change s n p).before → item_of t g c j ≡ Silent [] (writes_of (item_of t g c j))
  load-item j m = go (kind j m)
    where
      by-writes : (y : Item) (ws : Writes) → y ≡ Silent [] ws → y ≡ Silent [] (writes_of y)
      by-writes y ws e = e ∙ ap (λ u. Silent [] (writes_of u)) (sym e)

      go : LoadKind j → item_of t g c j ≡ Silent [] (writes_of (item_of t g c j))
      go (of-way k v x e) =
          let y = way-gives s n p h gt.setting c (way-known s b p gt.block gt.place plain) k v x (numbered-of n (ways_read s p) (k, v) x) in
          by-writes (item_of t g c j) _ (ap (item_of t g c) e ∙ y.item)
      go (of-tie k w x e) = by-writes (item_of t g c j) _ (tied-load s n p h gt.setting c k w x j e).item

  -- the tinies that are read are loaded

  abbrev pub Loaded : ℕ → Type 0
  Loaded k = (l : Lane) → Member l (located_lanes s.target (spilled s) (Virtual k) None) → (ws : Writes) × Member ws loads × Wrote ws l

  pub ways-loaded : (k : ℕ) (v : Variable) → Member (k, v) z.ways → Member v (ways_read s p) → Loaded k
  ways-loaded k v m r l a = (
    writes_of (item_of t g c (given s p (k, v))),
    writes-in t g c (place_change s n p).before (given s p (k, v)) (left-in (given s p (k, v)) (map (given s p) z.ways) (flat_map (tied_reload s) z.definitions) (map-in (given s p) (k, v) z.ways m)),
    way-loaded s n p h gt.setting c (way-known s b p gt.block gt.place plain) k v m r l a,
  )

  pub ties-loaded : (i : Instr) (mi : Member i p) (k : ℕ) (r : Option Role) (o : RegOp) (own : IsOwn s g n p h i mi k r o) (j : ℕ) (w : TiedTo s g n p h i mi k r o own j) (m : ℕ) → o.def ≡ false → o.undef ≡ false → DefinedTiny s g n p h i mi j w.role w.operand w.is m → Loaded m
  ties-loaded i mi k r o own j w m def undef d l a =
      let pair = pair_with j w.operand o in
      let reading : Member pair (tied_readings s i) = filter-in (λ (y : TiedPair). is_own s y.tied_use && not y.tied_use.undef) pair (tied_pairs t i) w.pair (λ x. own.own x && not (undef x)) in
      let x = reload t d.by.class (plain_definition (Virtual m) None) (in_own_slot s o.index) in
      let there : Member x (tied_reload s (m, d.by)) =
      map-in (λ (y : TiedPair). reload t d.by.class (plain_definition (Virtual m) None) (in_own_slot s y.tied_use.index)) pair (filter (λ (y : TiedPair). nat_eq y.number d.by.number) (tied_readings s d.by.by))
      (filter-in (λ (y : TiedPair). nat_eq y.number d.by.number) pair (tied_readings s d.by.by) (subst (λ y. Member pair (tied_readings s y)) (sym d.instr) reading) (eq-eqb j d.by.number (sym d.number))) in (
        writes_of (item_of t g c x),
        writes-in t g c (place_change s n p).before x (right-in x (map (given s p) z.ways) (flat_map (tied_reload s) z.definitions) (flat-in (tied_reload s) x (m, d.by) z.definitions d.among there)),
        tied-loaded s n p h gt.setting c m d.by d.among x (tied-load s n p h gt.setting c m d.by d.among x there) l a,
      )
