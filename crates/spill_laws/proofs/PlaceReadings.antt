-- What the instructions of a place with tinies read of the range is loaded before it.
use Rattle.std.proofs.Common.{◌≡◌, ◌∷◌, ◌∙◌, ◌&&◌, inl, not, ℕ, true, false, cond, List, Option, Some, None, flat_map, map, refl, sym, ap, subst, eq-eqb, []}
use Rattle.std.specs.Prelude.{filter, filter_map, nat_eq, option_and_then, option_map}
use Rattle.target_base.specs.declared.types.Effect.{Effect}
use Rattle.target_base.specs.declared.types.Effect.TheVariants as effects
use Rattle.target_base.specs.declared.types.Role.{Role}
use Rattle.target_base.specs.declared.types.Target.{Target}
use Rattle.target_base.specs.Roles.{is_silent}
use Rattle.meaning.specs.Code.{Code, Counted, Item, Silent}
use Rattle.meaning.specs.Live.{Among as Member, here as first, reads_of}
use Rattle.meaning.specs.declared.types.Lane.TheVariants.{VirtualLane}
use Rattle.meaning.specs.declared.types.Source.{Source}
use Rattle.meaning.specs.declared.types.Source.TheVariants.{FromLane, Undef}
use Rattle.mir_func.specs.declared.func.RegOp.{RegOp}
use Rattle.mir_func.specs.declared.func.Operand.{Operand}
use Rattle.mir_func.specs.declared.func.Operand.TheVariants as operands
use Rattle.mir_func.specs.declared.func.Instr.{Instr}
use Rattle.mir_func.specs.declared.func.Block.{Block}
use Rattle.mir_func.specs.Value.{Function}
use Rattle.mir_func.specs.Binding.{TiedPair, does, effect_of, explicit_operands, explicit_roles, immediate_of, implicit_registers, implicit_roles, is_early_clobber, is_terminator, registers, roles_of, tied_number, tied_pairs}
use Rattle.mir_meaning.specs.Codes.{item_of, target_of, way, ways_out}
use Rattle.mir_meaning.specs.Items.{Value, counted_writes, first_width, implicit_values, rest_of, silent_reads, silent_writes, use_value, value_of, values}
use Rattle.mir_meaning.specs.Places.{Variable}
use Rattle.mir_meaning.specs.Registers.{is_reserved, operand_lanes, range_widths, use_sources}
use Rattle.mir_meaning.specs.Rules.{spills_or_reloads}
use Rattle.instr_effects.proofs.Members.{filter-in, flat-in, left-in, map-in, right-in}
use Rattle.live_laws.proofs.Touch.Roles.{has_roles}
use Rattle.lowering_laws.proofs.Seated.{bound-operand, pair_with, told-in}
use Rattle.spiller.specs.Reaching.{Reads as Reading}
use Rattle.spiller.specs.Rematerialised.{Never, all_readings, effect_readings, operand_readings, place_readings, places_of, reading_of, tied_readings, way_reading, ways_read}
use Rattle.spiller.specs.Rematerialised as rematerialised
use Rattle.spiller.specs.Setting.{Spilling, is_own, own_lanes}
use Rattle.spiller.specs.Spilled.{OwnDefinition, Seats, numbered_operands, seats_from, tiny_defined, tiny_of, tiny_read}
use Rattle.spill_laws.specs.Laws.{HasTinies, is_placed}
use Rattle.spill_laws.specs.Standing.{OwnStands, code_before, code_from}
use Rattle.spill_laws.specs.Seats.{Load}
use Rattle.spill_laws.specs.TinyPlaces.{GetsTinies}
use Rattle.spill_laws.proofs.OwnOperands.{among, defined-site, definition-sized, read-site, tied-to, way-sized}
use Rattle.spill_laws.proofs.Ranges.{numbered-of}
use Rattle.spill_laws.proofs.SeatLoads.{GivesAll, loads, tied_load, tied_loads, tied_uses, way-load-in, way_loads}
use Rattle.spill_laws.proofs.SlotPlaces.{home, width}
use Rattle.spill_laws.proofs.SpillItems.{item-known, own-lanes-are}
use Rattle.spill_laws.proofs.TinyMoves.{unserved_stored}
use Rattle.spill_laws.proofs.TinySeats.{rolled-by}
use Rattle.spill_laws.proofs.WayLoads.{ways_load}

module _ (s : Spilling) (g : Function) (b c : Block) (is : List Instr) (p : Code) (n : ℕ) (gt : GetsTinies s g b c is p n) where
  abbrev t : Target
  t = s.target

  abbrev f : Function
  f = s.func

  abbrev h : HasTinies s g n is
  h = gt.tinies

  abbrev z : Seats
  z = seats_from s n is

  -- the readings at the place

  by-effect : (i : Instr) (e : Effect) → has_roles e ≡ true → spills_or_reloads e ≡ false → (os : List Operand) → effect_readings s i (Some e) os ≡ operand_readings s (i ∷ [])
  by-effect i effects.Copy rolled plain os = absurd (cc)
  by-effect i effects.Spill rolled plain os = absurd (cc)
  by-effect i e rolled plain os = refl

  readings-are : place_readings s is ≡ operand_readings s is
  readings-are = go is h.placed
    where
      go : (js : List Instr) → ((i : Instr) → Member i js → does is_placed t i ≡ true) → place_readings s js ≡ operand_readings s js
      go [] placed = refl
      go (i ∷ []) placed = let r = rolled-by t i (placed i first) in ap (λ q. effect_readings s i q i.operands) r.known ∙ by-effect i r.effect r.rolled r.unspilled i.operands
      go (i ∷ j ∷ js) placed = refl

  reading-known : (r : rematerialised.Reading) → Member r (operand_readings s is) → Member r (all_readings s)
  reading-known r m =
      flat-in (λ (d : Block). flat_map (place_readings s) (places_of t d)) r b f.blocks gt.block
      (flat-in (place_readings s) r is (places_of t b) gt.place (subst (Member r) (sym readings-are) m))

  way-known : (v : Variable) → Member v (ways_read s is) → Member (way_reading s is v) (all_readings s)
  way-known v m =
      reading-known (way_reading s is v)
      (left-in (way_reading s is v) (map (way_reading s is) (ways_read s is)) (flat_map (λ i. map (λ (q : TiedPair). reading_of s (i ∷ []) q.tied_use.index Never) (tied_readings s i)) is) (map-in (way_reading s is) v (ways_read s is) m))

  tie-known : (i : Instr) → Member i is → (w : TiedPair) → Member w (tied_readings s i) → Member (reading_of s (i ∷ []) w.tied_use.index Never) (all_readings s)
  tie-known i mi w m =
      let r = reading_of s (i ∷ []) w.tied_use.index Never in
      reading-known r
      (right-in r (map (way_reading s is) (ways_read s is)) (flat_map (λ j. map (λ (q : TiedPair). reading_of s (j ∷ []) q.tied_use.index Never) (tied_readings s j)) is)
      (flat-in (λ j. map (λ (q : TiedPair). reading_of s (j ∷ []) q.tied_use.index Never) (tied_readings s j)) r i is mi (map-in (λ (q : TiedPair). reading_of s (i ∷ []) q.tied_use.index Never) w (tied_readings s i) m)))

  -- each way of reading is given a load
  pub gives : GivesAll s g c n is z.ways
  gives x m = let w = way-sized s g n is h x m in ways_load s g c is x w.class gt.setting (way-known x.1 (numbered-of n (ways_read s is) x m)) w.is w.known w.wide

  abbrev pub place_loads : List Load
  place_loads = loads s g c n is h gives

  module _ (i : Instr) (mi : Member i is) (e : Effect) (known : effect_of t i ≡ Some e) (counts : is_silent e ≡ false) where
    abbrev X : Item
    X = item_of t f b i

    pub item-is : item_of t f b i ≡ Counted (rest_of t f e i) (map (λ (v : Value). v.0) (values t f e i)) (counted_writes t f e i) (option_map (way t f b.number) (target_of i.operands)) (cond (is_terminator e) (ways_out t f b) [])
    item-is =
        item-known t f b i e known
        ∙ (λ k. cond (counts k) (Silent (silent_reads t f e i.operands) (silent_writes t f e (is_early_clobber (roles_of t i)) i.operands))
        (Counted (rest_of t f e i) (map (λ (v : Value). v.0) (values t f e i)) (counted_writes t f e i) (option_map (way t f b.number) (target_of i.operands)) (cond (is_terminator e) (ways_out t f b) [])))

    module _ (k : ℕ) (r : Option Role) (o : RegOp) (m : Member (k, (r, operands.Reg o)) (numbered_operands t i)) (own : is_own s o ≡ true) (def : o.def ≡ false) where
      in-reads : Member (use_sources t f o) (reads_of (item_of t f b i))
      in-reads =
          let w = first_width t f (registers i.operands) in
          let there = bound-operand (explicit_roles (roles_of t i)) (explicit_operands i.operands) r (operands.Reg o) (among s g n is h i mi k r o m own) in
          let one : Member (use_value t f o) (filter_map (value_of t f e w) (explicit_operands i.operands)) = told-in (value_of t f e w) (use_value t f o) (operands.Reg o) (explicit_operands i.operands) there (λ j. cond (def j) None (Some (use_value t f o))) in
          let all : Member (use_value t f o) (values t f e i) =
          left-in (use_value t f o) (filter_map (value_of t f e w) (explicit_operands i.operands)) (implicit_values t f e (immediate_of i.operands) (implicit_roles (roles_of t i)) (filter (λ (o : RegOp). not o.def) (implicit_registers i.operands))) one in
          subst (Member (use_sources t f o)) (sym (ap reads_of item-is)) (map-in (λ (v : Value). v.0) (use_value t f o) (values t f e i) all)

      module _ (undef : o.undef ≡ false) where
        in-sources : (j : ℕ) → Member j (own_lanes s o.index) → Member (FromLane (VirtualLane s.range j)) (use_sources t f o)
        in-sources j mj =
            subst (λ u. Member (FromLane (VirtualLane s.range j)) (map (cond u (λ l. Undef) FromLane) (operand_lanes t f o))) (sym undef)
            (map-in FromLane (VirtualLane s.range j) (operand_lanes t f o) (subst (Member (VirtualLane s.range j)) (sym (own-lanes-are s o own)) (map-in (VirtualLane s.range) j (own_lanes s o.index) mj)))

        reads-lane : (q : Code) (j : ℕ) → Member j (own_lanes s o.index) → Reading (is_reserved t) (code_before s) (VirtualLane s.range j) (item_of t f b i) q
        reads-lane q j mj = inl (use_sources t f o, in-reads, in-sources j mj)

        -- the load of the tiny that it reads
        pub record ReadLoad (q : Code) : Type 0 where
          pub load : Load
          pub inside : Member load place_loads
          pub seat : tiny_of s z i k r o ≡ Some load.tiny
          pub found : ℕ → Source
          pub sources : load.sources ≡ map found (own_lanes s o.index)
          pub stands : (j : ℕ) → Member j (own_lanes s o.index) → OwnStands s (item_of t f b i ∷ q) j (found j)
          pub wide : range_widths t g load.tiny ≡ map (width s) (own_lanes s o.index)

        by-way : option_and_then tied_number r ≡ None → (q : Code) → code_from s i.id ≡ item_of t f b i ∷ q → ReadLoad q
        by-way free q from =
            let w = read-site s g n is h i mi k r o m own def undef free in
            let v = way-load-in s g c n is z.ways gives (w.tiny, w.way) w.among in
            let y = v.0 in
            let size = way-sized s g n is h (w.tiny, w.way) w.among in
            record {
              load = y.load;
              inside = left-in y.load (way_loads s g c n is z.ways gives) (tied_loads s g c n is z.definitions) v.1;
              seat = (λ j. cond (def j) (tiny_defined z i k) (elim (free j) as (λ a. Option ℕ) [ None ↦ cond (undef j) None (tiny_read s z r o) | Some a ↦ tiny_defined z i a ])) ∙ (w.is ∙ ap Some (sym y.tiny));
              found = y.found;
              sources = y.sources ∙ ap (λ x. map y.found (own_lanes s x)) w.index;
              stands = λ j mj. y.stands i (item_of t f b i) q from w.by j (subst (λ x. Member j (own_lanes s x)) (sym w.index) mj) (reads-lane q j mj);
              wide = ap (range_widths t g) y.tiny ∙ (size.wide ∙ ap (λ x. map (width s) (own_lanes s x)) w.index);
            }

        by-tie : (a : ℕ) → option_and_then tied_number r ≡ Some a → (q : Code) → code_from s i.id ≡ item_of t f b i ∷ q → ReadLoad q
        by-tie a ties q from =
            let w = tied-to s g n is h i mi k r o m own a ties in
            let d = defined-site s g n is h i mi a w.role w.definition w.among w.own w.def in
            let x : ℕ × OwnDefinition = (d.tiny, d.definition) in
            let index : d.definition.index ≡ o.index = d.index ∙ w.index in
            let pair = pair_with a w.definition o in
            let reading : Member pair (tied_readings s i) = filter-in (λ (y : TiedPair). is_own s y.tied_use && not y.tied_use.undef) pair (tied_pairs t i) w.pair (λ j. own j && not (undef j)) in
            let tie : Member pair (tied_uses s g c n is x) =
            filter-in (λ (y : TiedPair). nat_eq y.number d.definition.number) pair (tied_readings s d.definition.by) (subst (λ j. Member pair (tied_readings s j)) (sym d.by) reading) (eq-eqb a d.definition.number (sym d.number)) in
            let size = definition-sized s g n is h x d.among in
            record {
              load = tied_load s g c n is x;
              inside = right-in (tied_load s g c n is x) (way_loads s g c n is z.ways gives) (tied_loads s g c n is z.definitions)
                  (flat-in (λ y. map (λ (v : TiedPair). tied_load s g c n is y) (tied_uses s g c n is y)) (tied_load s g c n is x) x z.definitions d.among (map-in (λ (v : TiedPair). tied_load s g c n is x) pair (tied_uses s g c n is x) tie));
              seat = (λ j. cond (def j) (tiny_defined z i k) (elim (ties j) as (λ a. Option ℕ) [ None ↦ cond o.undef None (tiny_read s z r o) | Some a ↦ tiny_defined z i a ])) ∙ d.is;
              found = home s;
              sources = ap (λ y. map (home s) (own_lanes s y)) index;
              stands = λ j mj. inl (unserved_stored s g i o.index (item_of t f b i) q j gt.setting from (tie-known i mi pair reading) mj (reads-lane q j mj), refl);
              wide = size.wide ∙ ap (λ y. map (width s) (own_lanes s y)) index;
            }

        pub read-load : (q : Code) → code_from s i.id ≡ item_of t f b i ∷ q → ReadLoad q
        read-load q from = go (option_and_then tied_number r) refl
          where
            go : (a : Option ℕ) → option_and_then tied_number r ≡ a → ReadLoad q
            go None e = by-way e q from
            go (Some a) e = by-tie a e q from
