-- A counted instruction with tinies in place of the range, between what is loaded before it and what is stored behind it.
use Rattle.std.proofs.Common.{◌≡◌, ◌∷◌, ◌++◌, ◌⊎◌, inl, inr, ◌∙◌, ◌&&◌, ◌+◌, not, ℕ, Bool, true, false, cond, List, Option, Some, None, filter, length, map, refl, sym, ap, subst, eq-eqb, []}
use Rattle.std.specs.Prelude.{is_some, option_map}
use Rattle.std.specs.List.{list_any}
use Rattle.target_base.specs.declared.types.Effect.{Effect}
use Rattle.target_base.specs.declared.types.Effect.TheVariants as effects
use Rattle.target_base.specs.declared.types.OpaqueKind.{OpaqueKind}
use Rattle.target_base.specs.declared.types.OpaqueKind.TheVariants as kinds
use Rattle.target_base.specs.declared.types.Role.{Role}
use Rattle.target_base.specs.declared.types.Target.{Target}
use Rattle.target_base.specs.Roles.{is_silent}
use Rattle.target_base.proofs.Tests.{first_of_both, second_of_both}
use Rattle.meaning.specs.Code.{Code, Counted, Item, Silent}
use Rattle.meaning.specs.Lanes.{Reads, Writes, filled, settled, through}
use Rattle.meaning.specs.Live.{Among as Member, here as first, there as later, is_slot, writes_of, after_next}
use Rattle.meaning.specs.Relations.{AlikeFill, AlikeOperands, AlikeReads, Rel}
use Rattle.meaning.specs.declared.types.Constant.{Constant}
use Rattle.meaning.specs.declared.types.Fill.{Fill}
use Rattle.meaning.specs.declared.types.Fill.TheVariants.{Computed, Moved}
use Rattle.meaning.specs.declared.types.Lane.{Lane}
use Rattle.meaning.specs.declared.types.Lane.TheVariants.{SlotLane, UnitLane, VirtualLane}
use Rattle.meaning.specs.declared.types.Source.{Source}
use Rattle.meaning.specs.declared.types.Source.TheVariants.{Bits, FromLane, Undef}
use Rattle.laws.proofs.Flow.{flow, kept_next, known-source, read_kept}
use Rattle.mir_func.specs.declared.func.RegOp.{RegOp}
use Rattle.mir_func.specs.declared.func.Operand.{Operand}
use Rattle.mir_func.specs.declared.func.Operand.TheVariants as operands
use Rattle.mir_func.specs.declared.func.Instr.{Instr}
use Rattle.mir_func.specs.declared.func.Block.{Block}
use Rattle.mir_func.specs.Value.{Function}
use Rattle.mir_func.specs.Binding.{Definition, class_of, definition_in, definitions, effect_of, explicit_bound, explicit_operands, explicit_roles, implicit_registers, implicit_roles, is_definition, is_early, is_early_clobber, is_implicit_operand, is_terminator, passes, registers, roles_of}
use Rattle.mir_meaning.specs.Codes.{item_of, target_of, way, ways_out}
use Rattle.mir_meaning.specs.Items.{all_lanes, answered, clobbered, computed, counted_writes, defined_lanes, further_writes, implicit_definitions, implicit_writes, is_flags, kept, opaque_clobbers, preserves, rest_of, results, silent_reads, silent_writes, undefined, unreserved, values}
use Rattle.mir_meaning.specs.Points.{AtFirst}
use Rattle.mir_meaning.specs.Registers.{is_reserved, numbers, operand_lanes, undefined_lanes, whole_lanes}
use Rattle.mir_meaning.specs.Renaming.{IsFixed}
use Rattle.mir_meaning.specs.Rules.{has_class}
use Rattle.instr_effects.proofs.Members.{filter-in, filter-of, flat-of, map-in, map-of, member-elim, member-none}
use Rattle.live_laws.proofs.Effects.Moving.{some-same}
use Rattle.lowering_laws.proofs.Filling.{Blank, NoneNames, fills, further-missed}
use Rattle.lowering_laws.proofs.Found.{computed-missed, misses, place, undefined-missed}
use Rattle.lowering_laws.proofs.Places.{Replaces, definitions-alike, further-same, reads-alike, rest-same, target-same}
use Rattle.laws.proofs.Quiet.{same-false}
use Rattle.lowering_laws.proofs.RulesStay.{lanes}
use Rattle.lowering_laws.proofs.Same.{counted-alike}
use Rattle.lowering_laws.proofs.Seated.{bound-operand, register-in, some-role, told-in, told-of}
use Rattle.lowering_laws.proofs.Traced.{filled-free, is_lane_of, is_one, is_written, lanes_by, silents, traced, traced-bits, written-append}
use Rattle.lowering_laws.proofs.Unmoved.{further-moves, moves-none}
use Rattle.spiller.specs.Setting.{Spilling, is_own, own_lanes}
use Rattle.spill_laws.specs.Standing.{IsBeside, IsConstant, IsRepeated, IsSite, IsStored, KeptIn, LaneStands, LiveIn, OwnStands, PlaceStands, Stands, code_before, code_from, slot_lane}
use Rattle.spill_laws.specs.Seats.{CountedSeatsStand, IsSeating, Load, Save, Seated}
use Rattle.spill_laws.proofs.Loads.{saved, saves-leave, tiny-beside}
use Rattle.spill_laws.proofs.SeatPlaces.{Comes, R, homed, loads-past, place-none, post, pre, seats-place, some-save, stayed}
use Rattle.spill_laws.proofs.SlotPlaces.{slot-apart, traced-constant, width}
use Rattle.spill_laws.proofs.SlotWrites.{not-written, one-of, write-of}
use Rattle.spill_laws.proofs.SpillItems.{item-known, lane-slotless, own-lanes-are}
use Rattle.spill_laws.proofs.Standing.{Loaded, brought-here, counted-place, live-before, own-back, unwritten}

pub place-some : (ls : List Lane) (a : Lane) → Member a ls → place ls a ≡ None → ⊥
place-some [] a m e = member-none a m
place-some (l ∷ ls) a m e = let z = misses l ls a e in member-elim a l ls (λ q. same-false l a z.0 (sym q)) (λ k. place-some ls a k z.1) m

-- what is written beside explicit definitions is no lane of a slot
module _ (t : Target) (f : Function) (n j w : ℕ) where
  slotless : (ls : List Lane) → ((l : Lane) → Member l ls → is_slot l ≡ false) → place ls (SlotLane n j w) ≡ None
  slotless ls h = place-none ls (SlotLane n j w) (λ l m g. let a = h l m in let b : is_slot l ≡ true = ap is_slot g in cc)

  all-slotless : (os : List RegOp) (l : Lane) → Member l (all_lanes t f os) → is_slot l ≡ false
  all-slotless os l m = let z = flat-of (operand_lanes t f) l os m in lane-slotless t f z.0.loc z.0.index l z.2

  free-slotless : (ls : List Lane) → ((l : Lane) → Member l ls → is_slot l ≡ false) → (l : Lane) → Member l (unreserved t ls) → is_slot l ≡ false
  free-slotless ls h l m = h l (filter-of (λ l. not (is_reserved t l)) l ls m).0

  clobbers-slotless : (os : List Operand) (l : Lane) → Member l (clobbered t os) → is_slot l ≡ false
  clobbers-slotless os l m = free-slotless (map UnitLane (filter (λ u. not (list_any (preserves t u) os)) (numbers 0 (length t.units)))) (λ l m. let z = map-of UnitLane l (filter (λ u. not (list_any (preserves t u) os)) (numbers 0 (length t.units))) m in ap is_slot z.2) l m

  implicit-slotless : (e : Effect) (rs : List Role) (os : List Operand) → is_written (implicit_writes t f e rs os) (SlotLane n j w) ≡ false
  implicit-slotless effects.Cmp rs os =
      let ds = implicit_definitions os in
      let ws = computed false 0 (all_lanes t f (filter (is_flags rs) ds)) ++ undefined false (all_lanes t f ds) in
      let none : is_written ws (SlotLane n j w) ≡ false =
      written-append (computed false 0 (all_lanes t f (filter (is_flags rs) ds))) (undefined false (all_lanes t f ds)) (SlotLane n j w)
      (computed-missed false 0 (all_lanes t f (filter (is_flags rs) ds)) (SlotLane n j w) (slotless (all_lanes t f (filter (is_flags rs) ds)) (all-slotless (filter (is_flags rs) ds))))
      (undefined-missed false (all_lanes t f ds) (SlotLane n j w) (slotless (all_lanes t f ds) (all-slotless ds))) in
      not-written (kept t ws) (SlotLane n j w) (λ u m g. unwritten ws (SlotLane n j w) none u (filter-of (λ w. not (is_reserved t w.lane)) u ws m).0 g)
  implicit-slotless effects.Call rs os =
      written-append (computed false 0 (answered t f os)) (undefined false (clobbered t os)) (SlotLane n j w)
      (computed-missed false 0 (answered t f os) (SlotLane n j w) (slotless (answered t f os) (free-slotless (all_lanes t f (implicit_definitions os)) (all-slotless (implicit_definitions os)))))
      (undefined-missed false (clobbered t os) (SlotLane n j w) (slotless (clobbered t os) (clobbers-slotless os)))
  implicit-slotless e rs os = undefined-missed false (unreserved t (all_lanes t f (implicit_definitions os))) (SlotLane n j w) (slotless (unreserved t (all_lanes t f (implicit_definitions os))) (free-slotless (all_lanes t f (implicit_definitions os)) (all-slotless (implicit_definitions os))))

  opaque-slotless : (kind : OpaqueKind) (os : List Operand) → is_written (opaque_clobbers t kind os) (SlotLane n j w) ≡ false
  opaque-slotless kinds.Call os = undefined-missed false (clobbered t os) (SlotLane n j w) (slotless (clobbered t os) (clobbers-slotless os))
  opaque-slotless kind os = refl

  pub further-slotless : (e : Effect) (i : Instr) → is_written (further_writes t f e i) (SlotLane n j w) ≡ false
  further-slotless (effects.Opaque kind) i =
      let m = length (defined_lanes t f (definitions (roles_of t i) i.operands)) in
      let ds = implicit_definitions i.operands in
      written-append (computed false m (all_lanes t f ds)) (opaque_clobbers t kind i.operands) (SlotLane n j w)
      (computed-missed false m (all_lanes t f ds) (SlotLane n j w) (slotless (all_lanes t f ds) (all-slotless ds)))
      (opaque-slotless kind i.operands)
  further-slotless e i = implicit-slotless e (implicit_roles (roles_of t i)) i.operands

  -- nor is what definitions write, where none names the lane
  pub results-missed : (a : Lane) (m : ℕ) (ds : List Definition) → ((d : Definition) → Member d ds → (place (operand_lanes t f d.1) a ≡ None) × (place (undefined_lanes t f d.1) a ≡ None)) → is_written (results t f m ds) a ≡ false
  results-missed a m [] h = refl
  results-missed a m (d ∷ ds) h =
      written-append (computed d.0 m (operand_lanes t f d.1) ++ undefined d.0 (undefined_lanes t f d.1)) (results t f (m + length (operand_lanes t f d.1)) ds) a
      (written-append (computed d.0 m (operand_lanes t f d.1)) (undefined d.0 (undefined_lanes t f d.1)) a (computed-missed d.0 m (operand_lanes t f d.1) a (h d first).0) (undefined-missed d.0 (undefined_lanes t f d.1) a (h d first).1))
      (results-missed a (m + length (operand_lanes t f d.1)) ds (λ c k. h c (later k)))

-- an explicit definition among operands

module _ (t : Target) (i : Instr) where
  pub record IsDefined (d : Definition) : Type 0 where
    pub inside : Member (operands.Reg d.1) i.operands
    pub is : is_definition d.1 ≡ true

  pub defined-is : (d : Definition) → Member d (definitions (roles_of t i) i.operands) → IsDefined d
  defined-is d m =
      let z = told-of definition_in d (explicit_bound (explicit_roles (roles_of t i)) (explicit_operands i.operands)) m in
      by z.0.0 z.0.1 (filter-of (λ o. not (is_implicit_operand o)) z.0.1 i.operands (bound-operand (explicit_roles (roles_of t i)) (explicit_operands i.operands) z.0.0 z.0.1 z.1)).0 z.2
    where
      by : (q : Option Role) (o : Operand) → Member o i.operands → definition_in (q, o) ≡ Some d → IsDefined d
      by q (operands.Reg o) m e = go (is_definition o) refl e
        where
          go : (y : Bool) → is_definition o ≡ y → cond y (Some (passes is_early q, o)) None ≡ Some d → IsDefined d
          go true g w = let same = some-same (passes is_early q, o) d w in record { inside = subst (λ (x : Definition). Member (operands.Reg x.1) i.operands) same m; is = subst (λ (x : Definition). is_definition x.1 ≡ true) same g }
          go false g w = absurd (cc)
      by q o m e = absurd (cc)

  pub definition-in-all : (o : RegOp) → Member (operands.Reg o) i.operands → is_definition o ≡ true → (x : Bool) × Member (x, o) (definitions (roles_of t i) i.operands)
  definition-in-all o m g =
      let explicit : not (is_implicit_operand (operands.Reg o)) ≡ true = second_of_both o.def (not o.implicit) g in
      let k = filter-in (λ x. not (is_implicit_operand x)) (operands.Reg o) i.operands m explicit in
      let z = some-role (explicit_roles (roles_of t i)) (explicit_operands i.operands) (operands.Reg o) k in
      (passes is_early z.0, told-in definition_in (passes is_early z.0, o) (z.0, operands.Reg o) (explicit_bound (explicit_roles (roles_of t i)) (explicit_operands i.operands)) z.1 (λ x. cond (g x) (Some (passes is_early z.0, o)) None))

module _ (s : Spilling) (h : Function) (stay : (w : ℕ) → is_some (class_of s.func w) ≡ true → class_of h w ≡ class_of s.func w) (i : Instr) (e : Effect) (p : Code) (os' : List Operand) (loads : List Load) (saves : List Save) where
  abbrev t : Target
  t = s.target

  abbrev new : Instr
  new = record i { operands = os' }

  abbrev cw : Writes
  cw = counted_writes s.target h e i

  -- the instruction as an item
  abbrev pub X : Item
  X = Counted (rest_of s.target h e i) (map (λ v. v.0) (values s.target h e i)) (counted_writes s.target h e i) None []

  module _ (seats : Seated s h X p loads saves i.operands os') (seating : IsSeating s X i.operands loads saves) (site : IsSite s i.id X p)
      (named : (o : RegOp) → Member o (registers i.operands) → has_class s.func o.loc ≡ true) (plain : (o : RegOp) → Member o (registers i.operands) → o.def ≡ true → o.undef ≡ false)
      (fixed : (o : RegOp) → Member o (implicit_registers i.operands) → IsFixed o.loc) where
    abbrev Q : Rel
    Q = R s h stay X p i.operands loads saves seating

    abbrev From : Lane → Lane → Type 0
    From = Comes s h stay X p i.operands loads saves seating

    abbrev before : List Writes
    before = pre s h stay X p i.operands loads saves seating

    abbrev behind : List Writes
    behind = post s h stay X p i.operands loads saves seating

    in-place : Replaces t h Q From i.operands os'
    in-place = seats-place s h stay X p i.operands loads saves seating named plain seats

    bits : (c : Constant) (low width : ℕ) → Q (Bits c low width) (Bits c low width)
    bits c low width k = traced-bits before c low width

    units : (u : ℕ) → Q (FromLane (UnitLane u)) (FromLane (UnitLane u))
    units u k = let b : IsBeside s (UnitLane u) = record { other = refl; old = refl } in inl (b, k, loads-past s h stay X p i.operands loads saves seating (UnitLane u) b)

    nothing-known : Q Undef Undef
    nothing-known k = tt

    abbrev L : Rel
    L = Loaded s (X ∷ p) before

    -- what is read is kept

    sources-known : (ss us : List Source) → ((a : Lane) → Member (FromLane a) ss → KeptIn s (X ∷ p) a) → AlikeReads Q ss us → AlikeReads L ss us
    sources-known [] [] k z = tt
    sources-known [] (u ∷ us) k z = absurd z
    sources-known (q ∷ ss) [] k z = absurd z
    sources-known (q ∷ ss) (u ∷ us) k z = (z.0 (known-source (is_reserved t) (code_before s) (X ∷ p) q (λ a g. k a (subst (λ y. Member y (q ∷ ss)) g first))), sources-known ss us (λ a m. k a (later m)) z.1)

    operands-known : (xs ys : Reads) → ((ss : List Source) (a : Lane) → Member ss xs → Member (FromLane a) ss → KeptIn s (X ∷ p) a) → AlikeOperands Q xs ys → AlikeOperands L xs ys
    operands-known [] [] k z = tt
    operands-known [] (y ∷ ys) k z = absurd z
    operands-known (q ∷ xs) [] k z = absurd z
    operands-known (q ∷ xs) (y ∷ ys) k z = (sources-known q y (λ a m. k q a first m) z.0, operands-known xs ys (λ ss a m n. k ss a (later m) n) z.1)

    alike : AlikeOperands L (map (λ v. v.0) (values t h e i)) (map (λ v. v.0) (values t h e new))
    alike = operands-known (map (λ v. v.0) (values t h e i)) (map (λ v. v.0) (values t h e new)) (λ ss a m n. read_kept (is_reserved t) (code_before s) X p ss a m n) (reads-alike t h Q From bits units nothing-known i os' in-place e fixed)

    -- what is given

    fill-known : (f g : Fill) → ((a : Lane) → f ≡ Moved (FromLane a) → KeptIn s (X ∷ p) a) → AlikeFill Q f g → AlikeFill L f g
    fill-known (Moved q) (Moved u) k z = z (known-source (is_reserved t) (code_before s) (X ∷ p) q (λ a g. k a (ap Moved g)))
    fill-known (Moved q) (Computed m) k z = z (known-source (is_reserved t) (code_before s) (X ∷ p) q (λ a g. k a (ap Moved g)))
    fill-known (Computed n) (Computed m) k z = z
    fill-known (Computed n) (Moved u) k z = z

    abbrev ds : List Definition
    ds = definitions (roles_of s.target i) i.operands

    abbrev F : Writes
    F = further_writes s.target h e i

    bare-definition : (d : Definition) → Member d ds → undefined_lanes t h d.1 ≡ []
    bare-definition d m =
        let z = defined-is t i d m in
        let def = first_of_both d.1.def (not d.1.implicit) z.is in
        (λ j. cond (def j && plain d.1 (register-in d.1 i.operands z.inside) def j) (whole_lanes t h d.1.loc) [])

    live-range : (k : ℕ) → KeptIn s (X ∷ p) (VirtualLane s.range k) → LiveIn s (X ∷ p) (VirtualLane s.range k)
    live-range k (inl l) = l
    live-range k (inr l) = absurd (cc)

    module _ (a a' : Lane) (came : From a a') (stored : (k : ℕ) → a ≡ VirtualLane s.range k → IsStored s k p) where
      blank-lane : (d : Definition) → Member d ds → (k : ℕ) → place (undefined_lanes t h d.1) a ≡ Some k → place (operand_lanes t h d.1) a ≡ None → Blank t h Q From a a' came ds F
      blank-lane d m k q r = absurd (let u : None ≡ Some k = ap (λ ls. place ls a) (sym (bare-definition d m)) ∙ q in cc)

      none-moved : (f : Fill) → settled f ≡ Undef → AlikeFill Q f f
      none-moved (Moved q) g = subst (λ z. Q z z) (sym g) nothing-known
      none-moved (Computed k) g = refl

      by-way : From a a' → NoneNames t h Q From a a' came ds → AlikeFill Q (filled F a) (filled F a')
      by-way (stayed b k g) none = subst (λ l. AlikeFill Q (filled F a) (filled F l)) (sym g) (go (is_written F a) refl)
        where
          go : (y : Bool) → is_written F a ≡ y → AlikeFill Q (filled F a) (filled F a)
          go true w = none-moved (filled F a) (moves-none F (further-moves t h e i) a w)
          go false w = subst (λ f. AlikeFill Q f f) (sym (filled-free F a w)) (λ known. inl (b, known, loads-past s h stay X p i.operands loads saves seating a b))
      by-way (homed k g l w) none =
          let gone = unnamed in
          let own-free : is_written F (VirtualLane s.range k) ≡ false = further-missed t h e i s.range k fixed in
          let all-free : is_written cw (VirtualLane s.range k) ≡ false = written-append (results t h 0 ds) F (VirtualLane s.range k) (results-missed t h 0 0 0 (VirtualLane s.range k) 0 ds (λ d m. subst (λ c. (place (operand_lanes t h d.1) c ≡ None) × (place (undefined_lanes t h d.1) c ≡ None)) g (none d m))) own-free in
          let same : a' ≡ slot_lane s k = lane-of a' (slot_lane s k) (sym w ∙ saves-leave s saves (slot_lane s k) (λ y j v m q r. gone y m (subst (λ n. Member n y.lanes) (number j v r) q))) in
          subst (λ c. AlikeFill Q (filled F c) (filled F a')) (sym g)
          (subst (λ f. AlikeFill Q f (filled F a')) (sym (filled-free F (VirtualLane s.range k) own-free))
          (subst (λ c. AlikeFill Q (Moved (FromLane (VirtualLane s.range k))) (filled F c)) (sym same)
          (subst (λ f. AlikeFill Q (Moved (FromLane (VirtualLane s.range k))) f) (sym (filled-free F (slot_lane s k) (further-slotless t h s.slot k (width s k) e i)))
          (λ known. inr (
            k,
            refl,
            live-range k known,
            subst (OwnStands s (X ∷ p) k) (sym (loads-past s h stay X p i.operands loads saves seating (slot_lane s k) (record { other = refl; old = refl })))
                (own-back s X p k (λ v. unwritten cw (VirtualLane s.range k) all-free v.0 v.1 v.2) (FromLane (slot_lane s k)) refl (inl (stored k g, refl))),
          )))))
        where
          lane-of : (x y : Lane) → FromLane x ≡ FromLane y → x ≡ y
          lane-of x y q = cc

          number : (j v : ℕ) → slot_lane s k ≡ SlotLane s.slot j v → j ≡ k
          number j v r = cc

          -- no stored lane has the number
          unnamed : (y : Save) → Member y saves → Member k y.lanes → ⊥
          unnamed y m q =
              let z = seating.saves_named y k m q in
              let d = definition-in-all t i z.0 z.1 z.2 in
              let n : place (operand_lanes t h z.0) (VirtualLane s.range k) ≡ None = subst (λ c. place (operand_lanes t h z.0) c ≡ None) g (none (d.0, z.0) d.1).0 in
              place-some (operand_lanes t h z.0) (VirtualLane s.range k) (subst (Member (VirtualLane s.range k)) (sym (own-lanes-of z.0 (register-in z.0 i.operands z.1) z.3)) (map-in (VirtualLane s.range) k (own_lanes s z.0.index) z.4)) n
            where
              own-lanes-of : (o : RegOp) → Member o (registers i.operands) → is_own s o ≡ true → operand_lanes t h o ≡ lanes_by s.range (own_lanes s o.index)
              own-lanes-of o m own = lanes t s.func h stay o.loc o.index (named o m) ∙ own-lanes-are s o own

      both-fill : AlikeFill Q (filled cw a) (filled (counted_writes t h e new) a')
      both-fill =
          subst (λ ws. AlikeFill Q (filled cw a) (filled (results t h 0 (definitions (roles_of t i) os') ++ ws) a')) (sym (further-same t h Q From i os' in-place e e))
          (fills t h Q From a a' came 0 ds (definitions (roles_of t i) os') (definitions-alike t h Q From i os' in-place e) F blank-lane (by-way came))

    -- where a lane of the range was before the stores
    post-lane : (k : ℕ) → (a' : Lane) × (traced behind (FromLane (slot_lane s k)) ≡ FromLane a')
    post-lane k = go (some-save s h stay X p i.operands loads saves seating saves k)
      where
        number : (j v : ℕ) → slot_lane s k ≡ SlotLane s.slot j v → j ≡ k
        number j v r = cc

        go : ((y : Save) × Member y saves × (is_one y.lanes k ≡ true)) ⊎ ((y : Save) → Member y saves → is_one y.lanes k ≡ false) → (a' : Lane) × (traced behind (FromLane (slot_lane s k)) ≡ FromLane a')
        go (inl z) = let w = tiny-beside s z.0.tiny z.0.lanes k z.2 in (VirtualLane z.0.tiny w.0, saved s saves k (λ u v a b c d. seating.saves_once u v k a b c d) z.0 z.1 z.2 ∙ w.1)
        go (inr z) = (slot_lane s k, saves-leave s saves (slot_lane s k) (λ y j v m q r. let u = z y m in let w : is_one y.lanes k ≡ true = subst (λ n. is_one y.lanes n ≡ true) (number j v r) (one-of y.lanes j q) in cc))

    -- a lane of the range that is found as a constant
    repeated-fill : (k : ℕ) (source : Source) → LiveIn s p (VirtualLane s.range k) → IsRepeated s k p source → AlikeFill L (filled cw (VirtualLane s.range k)) (Moved source)
    repeated-fill k source l o = go (is_written cw (VirtualLane s.range k)) refl
      where
        stands-itself : (q : Source) → IsConstant q → Stands s (X ∷ p) q (traced before q)
        stands-itself (Bits c low w) z = traced-bits before c low w
        stands-itself Undef z = absurd z
        stands-itself (FromLane a) z = absurd z

        go : (y : Bool) → is_written cw (VirtualLane s.range k) ≡ y → AlikeFill L (filled cw (VirtualLane s.range k)) (Moved source)
        go false w =
            subst (λ f. AlikeFill L f (Moved source)) (sym (filled-free cw (VirtualLane s.range k) w))
            (inr (
              k,
              refl,
              live-before s X p k (filled-free cw (VirtualLane s.range k) w) (after_next refl l),
              subst (OwnStands s (X ∷ p) k) (sym (traced-constant s before source o.constant)) (own-back s X p k (λ v. unwritten cw (VirtualLane s.range k) w v.0 v.1 v.2) source refl (inr o)),
            ))
        go true w =
            let y : i.id ≡ o.by = o.only i.id (brought-here s i.id X p k site.from (write-of cw (VirtualLane s.range k) w) refl) in
            let z : filled cw (VirtualLane s.range k) ≡ Moved source =
            subst (AtFirst (λ j q. filled (writes_of j) (VirtualLane s.range k) ≡ Moved source)) site.from (subst (λ n. AtFirst (λ j q. filled (writes_of j) (VirtualLane s.range k) ≡ Moved source) (code_from s n)) (sym y) o.gives) in
            subst (λ f. AlikeFill L f (Moved source)) (sym z) (stands-itself source o.constant)

    each-lane : (a : Lane) (source : Source) → LaneStands s p a source → AlikeFill L (filled cw a) (through (counted_writes t h e new) (traced behind source))
    each-lane a source (inl b) =
        let stays : traced behind (FromLane a) ≡ FromLane a = saves-leave s saves a (λ y k v m q g. slot-apart s i.id X p site k k v (inr (seating.saves_written y k m q)) a g b.1) in
        let after = kept_next (is_reserved t) (code_before s) X p a refl b.1 in
        subst (λ q. AlikeFill L (filled cw a) (through (counted_writes t h e new) q)) (sym (ap (traced behind) b.2 ∙ stays))
        (fill-known (filled cw a) (filled (counted_writes t h e new) a) (λ c g. flow (is_reserved t) (code_before s) X p a c after g)
        (both-fill a a (stayed b.0 b.1 refl) (λ k g. absurd (let q : is_lane_of s.range a ≡ true = ap (is_lane_of s.range) g ∙ eq-eqb s.range s.range refl in let u = b.0.other in cc))))
    each-lane a source (inr b) = subst (λ c. AlikeFill L (filled cw c) (through (counted_writes t h e new) (traced behind source))) (sym b.1) (by (subst (LiveIn s p) b.1 b.2) b.3)
      where
        number : (j k : ℕ) → VirtualLane s.range j ≡ VirtualLane s.range k → j ≡ k
        number j k g = cc

        by : LiveIn s p (VirtualLane s.range b.0) → OwnStands s p b.0 source → AlikeFill L (filled cw (VirtualLane s.range b.0)) (through (counted_writes t h e new) (traced behind source))
        by l (inl o) =
            let z = post-lane b.0 in
            let after = kept_next (is_reserved t) (code_before s) X p (VirtualLane s.range b.0) refl (inl l) in
            subst (λ q. AlikeFill L (filled cw (VirtualLane s.range b.0)) (through (counted_writes t h e new) q)) (sym (ap (traced behind) o.1 ∙ z.1))
            (fill-known (filled cw (VirtualLane s.range b.0)) (filled (counted_writes t h e new) z.0) (λ c g. flow (is_reserved t) (code_before s) X p (VirtualLane s.range b.0) c after g)
            (both-fill (VirtualLane s.range b.0) z.0 (homed b.0 refl l z.1) (λ k g. subst (λ j. IsStored s j p) (number b.0 k g) o.0)))
        by l (inr o) =
            subst (λ f. AlikeFill L (filled cw (VirtualLane s.range b.0)) f) (sym (ap (through (counted_writes t h e new)) (traced-constant s behind source o.constant) ∙ through-constant (counted_writes t h e new) source o.constant)) (repeated-fill b.0 source l o)
          where
            through-constant : (ws : Writes) (q : Source) → IsConstant q → through ws q ≡ Moved q
            through-constant ws (Bits c low w) z = refl
            through-constant ws Undef z = absurd z
            through-constant ws (FromLane a) z = absurd z

    seated : PlaceStands s (X ∷ []) (silents before ++ (Counted (rest_of t h e i) (map (λ v. v.0) (values t h e new)) (counted_writes t h e new) None [] ∷ silents behind)) p
    seated = counted-place s (rest_of t h e i) (map (λ v. v.0) (values t h e i)) (map (λ v. v.0) (values t h e new)) cw (counted_writes t h e new) p before behind alike each-lane

    -- the item after the spill
    module _ (g : Function) (classes : h.classes ≡ g.classes) (bare : (n m : ℕ) → (way t g n m).phis ≡ []) (known : effect_of t i ≡ Some e) (counts : is_silent e ≡ false) (goes : is_terminator e ≡ false) (to : target_of i.operands ≡ None)
        (fixed' : (o : RegOp) → Member o (registers os') → o.implicit ≡ true → IsFixed o.loc) (d : Block) where
      second-item : item_of t g d new ≡ Counted (rest_of t h e i) (map (λ v. v.0) (values t h e new)) (counted_writes t h e new) None []
      second-item =
          let same = counted-alike t h g classes bare new fixed' e known counts in
          item-known t g d new e known
          ∙ ((λ k. cond (counts k) (Silent (silent_reads t g e os') (silent_writes t g e (is_early_clobber (roles_of t i)) os')) (Counted (same.0 k) (same.1 k) (same.2 k) (option_map (way t g d.number) ((target-same t h Q From in-place ∙ to) k)) (cond (goes k) (ways_out t g d) [])))
          ∙ (λ k. Counted (rest-same t h Q From bits units nothing-known i os' in-place e fixed k) (map (λ v. v.0) (values t h e new)) (counted_writes t h e new) None []))

      pub seated-place : PlaceStands s (X ∷ []) (silents before ++ (item_of t g d new ∷ silents behind)) p
      seated-place = subst (λ y. PlaceStands s (X ∷ []) (silents before ++ (y ∷ silents behind)) p) (sym second-item) seated

pub counted_seats_stand : CountedSeatsStand
counted_seats_stand s g h c i e p os' loads saves z seats seating site =
    seated-place s h z.stay i e p os' loads saves seats seating site z.named z.plain z.fixed g z.classes z.bare z.known z.counts z.goes_on z.nowhere z.fixed_behind c
