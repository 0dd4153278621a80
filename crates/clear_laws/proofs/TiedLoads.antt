-- Tied uses of the range: the tinies of their definitions are loaded with what the slot holds.
use Rattle.std.proofs.Common.{◌≡◌, ◌⊎◌, inl, inr, ◌+◌, ◌∷◌, ◌∙◌, ◌&&◌, not, ℕ, Bool, true, List, Option, Some, None, length, map, refl, sym, ap, subst, eqb-true, []}
use Rattle.std.proofs.lemmas.List.{length-map}
use Rattle.std.specs.Prelude.{filter, nat_eq, option_and_then, option_map}
use Rattle.target_base.specs.declared.types.Role.{Role}
use Rattle.target_base.specs.declared.types.Target.{Target}
use Rattle.target_base.proofs.Tests.{first_of_both}
use Rattle.meaning.specs.Code.{Code, Item, Silent}
use Rattle.meaning.specs.Lanes.{filled}
use Rattle.meaning.specs.Live.{Among as Member, writes_of}
use Rattle.meaning.specs.declared.types.Fill.TheVariants.{Moved}
use Rattle.meaning.specs.declared.types.Lane.{Lane}
use Rattle.meaning.specs.declared.types.Lane.TheVariants.{VirtualLane}
use Rattle.meaning.specs.declared.types.Source.TheVariants.{FromLane}
use Rattle.mir_func.specs.declared.func.Loc.TheVariants.{Virtual}
use Rattle.mir_func.specs.declared.func.RegOp.{RegOp}
use Rattle.mir_func.specs.declared.func.Operand.{Operand}
use Rattle.mir_func.specs.declared.func.Operand.TheVariants as operands
use Rattle.mir_func.specs.declared.func.Instr.{Instr}
use Rattle.mir_func.specs.declared.func.Block.{Block}
use Rattle.mir_func.specs.Value.{Function}
use Rattle.mir_func.specs.Binding.{Bound, TiedPair, bound, explicit_bound, explicit_roles, paired_with, register_at, roles_of, tied_number, tied_pair, tied_pairs}
use Rattle.mir_meaning.specs.Codes.{item_of}
use Rattle.mir_meaning.specs.Registers.{is_reserved, located_lanes, numbers, range_widths}
use Rattle.instr_effects.proofs.Members.{filter-of, map-of}
use Rattle.live_laws.proofs.Effects.Moving.{some-same}
use Rattle.lowering_laws.proofs.RulesStay.{same-register}
use Rattle.lowering_laws.proofs.Seated.{told-of}
use Rattle.lowering_laws.proofs.Traced.{lanes_by}
use Rattle.spiller.specs.Reaching.{Reads}
use Rattle.spiller.specs.Rematerialised.{Never, all_readings, reading_of, tied_readings, ways_read}
use Rattle.spiller.specs.Setting.{Spilling, in_own_slot, is_own, own_lanes, plain_definition, reload}
use Rattle.spiller.specs.Spilled.{OwnDefinition, definitions_in, numbered_operands, spilled, tied_reload}
use Rattle.spill_laws.specs.Laws.{HasTinies}
use Rattle.spill_laws.specs.Seats.{Load, load_writes}
use Rattle.spill_laws.specs.Standing.{IsSetting, IsStored, code_before, code_from, slot_lane}
use Rattle.spill_laws.proofs.Beside.{definition-tiny}
use Rattle.spill_laws.proofs.Ranges.{numbered-of}
use Rattle.spill_laws.proofs.SlotPlaces.{width}
use Rattle.spill_laws.proofs.TinyMoves.{tiny_moves, unserved_stored}
use Rattle.spill_laws.proofs.TinyRules.{own-number}
use Rattle.spill_laws.proofs.TinySeats.{one-number, place_seats}
use Rattle.clear_laws.proofs.DefinitionTinies.{DefinedBy, defined-by, definition-widths}
use Rattle.clear_laws.proofs.PlaceBounds.{Wrote}
use Rattle.clear_laws.proofs.Seated.{IsFurther}
use Rattle.clear_laws.proofs.SeatedLoads.{load-all, load-given, load-lane}
use Rattle.clear_laws.proofs.TinyPlaces.{HasWidths, IsOwn, numbered-in, tied-to}

module _ (s : Spilling) (c : ℕ) (p : List Instr) (h : HasTinies s (spilled s) c p) where
  abbrev t : Target
  t = s.target

  abbrev f : Function
  f = s.func

  abbrev g : Function
  g = spilled s

  -- a tied use of the range by an instruction
  pub record TiedUse (i : Instr) (mi : Member i p) (y : TiedPair) : Type 0 where
    pub k : ℕ
    pub q : Option Role
    pub own : IsOwn s g c p h i mi k q y.tied_use
    pub ties : option_and_then tied_number q ≡ Some y.number

  pub tied-use : (i : Instr) (mi : Member i p) (y : TiedPair) → Member y (tied_readings s i) → TiedUse i mi y
  tied-use i mi y m =
      let a = filter-of (λ (x : TiedPair). is_own s x.tied_use && not x.tied_use.undef) y (tied_pairs t i) m in
      let w = told-of (tied_pair i.operands) y (bound t i) a.0 in
      go w.0.0 w.0.1 w.1 w.2 (first_of_both (is_own s y.tied_use) (not y.tied_use.undef) a.1)
    where
      go : (q : Option Role) (x : Operand) → Member (q, x) (bound t i) → tied_pair i.operands (q, x) ≡ Some y → is_own s y.tied_use ≡ true → TiedUse i mi y
      go q (operands.Reg u) n e own = at (option_and_then tied_number q) refl e
        where
          pair : (j : ℕ) (r : Option RegOp) → option_map (λ d. record { number = j; definition = d; tied_use = u }) r ≡ Some y → (y.number ≡ j) × (y.tied_use ≡ u)
          pair j None e = absurd (cc)
          pair j (Some d) e = let is = some-same (record { number = j; definition = d; tied_use = u }) y e in (ap (λ (x : TiedPair). x.number) (sym is), ap (λ (x : TiedPair). x.tied_use) (sym is))

          at : (x : Option ℕ) → option_and_then tied_number q ≡ x → paired_with i.operands u x ≡ Some y → TiedUse i mi y
          at None r e = absurd (cc)
          at (Some j) r e =
              let w = pair j (register_at i.operands j) e in
              let b = numbered-in 0 (bound t i) (q, operands.Reg u) n in
              let own' : is_own s u ≡ true = subst (λ x. is_own s x ≡ true) w.1 own in
              record {
                k = b.0;
                q = q;
                own = subst (IsOwn s g c p h i mi b.0 q) (sym w.1) (record { among = own-number s g c p h i mi b.0 q u b.1 own'; own = own' });
                ties = r ∙ ap Some (sym w.0);
              }
      go q x n e own = absurd (cc)

  module _ (z : IsSetting s (spilled s)) (d : Block) (n : ℕ) (w : OwnDefinition) (m : Member (n, w) (place_seats s g c p h).definitions) where
    pub by : DefinedBy s c p h w
    by = defined-by s c p h w (numbered-of (c + length (ways_read s p)) (definitions_in s p) (n, w) m)

    pub has : HasWidths s g c p h by.instr by.inside by.k by.q by.operand by.own n
    has = definition-widths s c p h n w m by

    -- a reload of its tiny
    pub record TiedLoad (j : Instr) : Type 0 where
      pub pair : TiedPair
      pub among : Member pair (tied_readings s by.instr)
      pub number : pair.number ≡ by.k
      pub early : Bool
      pub item : item_of t g d j ≡ Silent [] (load_writes (record { tiny = n; early = early; sources = map (λ k. FromLane (slot_lane s k)) (own_lanes s pair.tied_use.index) }))
      pub wide : range_widths t g n ≡ map (width s) (own_lanes s pair.tied_use.index)

    pub tied-load : (j : Instr) → Member j (tied_reload s (n, w)) → TiedLoad j
    tied-load j mj =
        let a = map-of (λ (x : TiedPair). reload s.target w.class (plain_definition (Virtual n) None) (in_own_slot s x.tied_use.index)) j (filter (λ (x : TiedPair). nat_eq x.number w.number) (tied_readings s w.by)) mj in
        let b = filter-of (λ (x : TiedPair). nat_eq x.number w.number) a.0 (tied_readings s w.by) a.1 in
        let y = a.0 in
        let inside : Member y (tied_readings s by.instr) = subst (λ x. Member y (tied_readings s x)) by.by b.0 in
        let number : y.number ≡ by.k = eqb-true y.number w.number b.1 ∙ by.number in
        let u = tied-use by.instr by.inside y inside in
        let v = tied-to s g c p h by.instr by.inside u.k u.q y.tied_use u.own y.number u.ties in
        let same = one-number 0 (explicit_bound (explicit_roles (roles_of t by.instr)) by.instr.operands) by.k (v.role, operands.Reg v.operand) (by.q, operands.Reg by.operand) (subst (λ x. Member (x, (v.role, operands.Reg v.operand)) (numbered_operands t by.instr)) number v.is.among) by.own.among in
        let operand = same-register v.operand by.operand (ap (λ (x : Bound). x.1) same) in
        let index = sym (ap (λ (x : RegOp). x.index) operand) ∙ v.index in
        let wide : range_widths t g n ≡ map (width s) (own_lanes s y.tied_use.index) = has.wide ∙ ap (λ x. map (width s) (own_lanes s x)) index in
        let class = sym (definition-tiny s g c p h.tinies (n, w) m) ∙ has.is in
        let moved = (tiny_moves s g d n has.class y.tied_use.index has.known wide).1 in
        record {
          pair = y;
          among = inside;
          number = number;
          early = moved.0;
          item = ap (item_of t g d) (a.2 ∙ ap (λ x. reload s.target x (plain_definition (Virtual n) None) (in_own_slot s y.tied_use.index)) class) ∙ moved.1;
          wide = wide;
        }

    module _ (j : Instr) (x : TiedLoad j) where
      abbrev load : Load
      load = record { tiny = n; early = x.early; sources = map (λ k. FromLane (slot_lane s k)) (own_lanes s x.pair.tied_use.index) }

      -- it writes all lanes of the tiny alone
      pub tied-loaded : (a : Lane) → Member a (located_lanes t g (Virtual n) None) → Wrote (writes_of (item_of t g d j)) a
      tied-loaded a q =
          let ks = own_lanes s x.pair.tied_use.index in
          let many : length (range_widths t g n) ≡ length load.sources = ap length x.wide ∙ (length-map ks (width s) ∙ sym (length-map ks (λ k. FromLane (slot_lane s k)))) in
          subst (λ u. Wrote (writes_of u) a) (sym x.item) (load-all load a (subst (Member a) (λ i. lanes_by n (numbers 0 (many i))) q))

      pub tied-further : (a : Lane) → Wrote (writes_of (item_of t g d j)) a → IsFurther f a
      tied-further a q = let v = load-lane load a (subst (λ u. Wrote (writes_of u) a) x.item q) in (n, v.0, v.1, has.further)

      -- from what the slot holds, where the instruction reads the range's lane
      pub tied-given : (y : Item) (q : Code) → code_from s by.instr.id ≡ y ∷ q → Member (reading_of s (by.instr ∷ []) x.pair.tied_use.index Never) (all_readings s)
          → ((k : ℕ) → Member k (own_lanes s x.pair.tied_use.index) → Reads (is_reserved t) (code_before s) (VirtualLane s.range k) y q) → (a b : Lane) → filled (writes_of (item_of t g d j)) a ≡ Moved (FromLane b)
          → ((b ≡ a) × (Wrote (writes_of (item_of t g d j)) a → ⊥)) ⊎ ((k : ℕ) × Member k (own_lanes s x.pair.tied_use.index) × (b ≡ slot_lane s k) × IsStored s k (y ∷ q))
      tied-given y q from known reads a b e = go (load-given load a b (subst (λ u. filled (writes_of u) a ≡ Moved (FromLane b)) x.item e))
        where
          inner : (a b : Lane) → FromLane a ≡ FromLane b → a ≡ b
          inner a b e = cc

          go : ((b ≡ a) × (Wrote (load_writes load) a → ⊥)) ⊎ Member (FromLane b) load.sources → ((b ≡ a) × (Wrote (writes_of (item_of t g d j)) a → ⊥)) ⊎ ((k : ℕ) × Member k (own_lanes s x.pair.tied_use.index) × (b ≡ slot_lane s k) × IsStored s k (y ∷ q))
          go (inl v) = inl (v.0, λ k. v.1 (subst (λ u. Wrote (writes_of u) a) x.item k))
          go (inr k) =
              let v = map-of (λ k. FromLane (slot_lane s k)) (FromLane b) (own_lanes s x.pair.tied_use.index) k in
              inr (v.0, v.1, inner b (slot_lane s v.0) v.2, unserved_stored s g by.instr x.pair.tied_use.index y q v.0 z from known v.1 (reads v.0 v.1))
