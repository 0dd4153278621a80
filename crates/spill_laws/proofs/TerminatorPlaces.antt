-- Terminators stand with their tinies.
use Rattle.std.proofs.Common.{◌≡◌, ◌∷◌, ◌++◌, ◌∙◌, ◌&&◌, ◌||◌, ◌+◌, ◌≤◌, inl, inr, not, ℕ, suc, zero, Bool, true, false, cond, List, Option, Some, None, append-nil, length, map, refl, sym, ap, subst, arith, eq-eqb, eqb-true, []}
use Rattle.std.proofs.lemmas.List.{length-map}
use Rattle.std.specs.Prelude.{filter_map, is_none, nat_eq, option_and_then, option_map}
use Rattle.std.specs.List.{cons_option}
use Rattle.target_base.specs.declared.types.Effect.{Effect}
use Rattle.target_base.specs.declared.types.Effect.TheVariants as effects
use Rattle.target_base.specs.declared.types.OpaqueKind.{OpaqueKind}
use Rattle.target_base.specs.declared.types.OpaqueKind.TheVariants as kinds
use Rattle.target_base.specs.declared.types.Role.{Role}
use Rattle.target_base.specs.declared.types.Target.{Target}
use Rattle.target_base.specs.Roles.{is_silent}
use Rattle.target_base.proofs.Tests.{first_of_both}
use Rattle.meaning.specs.Code.{Code, Counted, Item, Silent}
use Rattle.meaning.specs.InStep.{Known}
use Rattle.meaning.specs.Lanes.{Reads, Writes}
use Rattle.meaning.specs.Live.{Among as Member, here as first, there as later, writes_of}
use Rattle.meaning.specs.Relations.{AlikeOperands, AlikeReads, Rel}
use Rattle.meaning.specs.declared.types.Constant.{Constant}
use Rattle.meaning.specs.declared.types.Fill.TheVariants.{Computed, Moved}
use Rattle.meaning.specs.declared.types.Lane.{Lane}
use Rattle.meaning.specs.declared.types.Lane.TheVariants.{UnitLane, VirtualLane}
use Rattle.meaning.specs.declared.types.Source.{Source}
use Rattle.meaning.specs.declared.types.Source.TheVariants.{Bits, FromLane, Undef}
use Rattle.meaning.specs.declared.types.Write.{Write}
use Rattle.laws.proofs.Flow.{known-source, read_kept}
use Rattle.mir_func.specs.declared.func.RegOp.{RegOp}
use Rattle.mir_func.specs.declared.func.Operand.{Operand}
use Rattle.mir_func.specs.declared.func.Operand.TheVariants as operands
use Rattle.mir_func.specs.declared.func.Instr.{Instr}
use Rattle.mir_func.specs.declared.func.Block.{Block}
use Rattle.mir_func.specs.Value.{Function}
use Rattle.mir_func.specs.Binding.{Bound, Definition, definition_in, definitions, does, effect_of, explicit_bound, explicit_operands, explicit_roles, implicit_registers, is_definition, is_early, is_early_clobber, is_implicit_operand, is_terminator, is_virtual, numbered, passes, puts_together, registers, roles_of, takes_many, tied_number}
use Rattle.mir_meaning.specs.Codes.{item_of, target_of, way, ways_out}
use Rattle.mir_meaning.specs.Items.{Value, all_lanes, computed, counted_writes, defined_lanes, further_writes, implicit_definitions, opaque_clobbers, rest_of, results, silent_reads, silent_writes, undefined, unreserved, values}
use Rattle.mir_meaning.specs.Registers.{is_reserved, numbers, operand_lanes, range_widths, use_sources}
use Rattle.mir_meaning.specs.Renaming.{IsFixed}
use Rattle.mir_meaning.specs.Rules.{V1, is_free_undef}
use Rattle.instr_effects.proofs.Members.{either-elim, filter-in, filter-of, member-elim, member-none}
use Rattle.live_laws.proofs.Effects.Lists.{all-of}
use Rattle.live_laws.proofs.Effects.Shapes.{class-there}
use Rattle.live_laws.proofs.Touch.Roles.{fit, has_roles, met}
use Rattle.lowering_laws.proofs.Classes.{AreNamed}
use Rattle.lowering_laws.proofs.Filling.{further-missed}
use Rattle.lowering_laws.proofs.Lowering.{map-append}
use Rattle.lowering_laws.proofs.Olds.{AllOld, writes-are-old}
use Rattle.lowering_laws.proofs.Places.{AlikeDefinitions, InPlace, Replaces, definitions-alike, further-same, reads-alike, rest-same, target-same}
use Rattle.lowering_laws.proofs.Rolled.{terminator-plain}
use Rattle.lowering_laws.proofs.RulesStay.{lanes}
use Rattle.lowering_laws.proofs.Seated.{bound-operand, register-in}
use Rattle.lowering_laws.proofs.Stretches.{Stretch, joined, nothing, strengthened}
use Rattle.lowering_laws.proofs.Traced.{is_one, is_written, lanes_by, silents}
use Rattle.spiller.specs.Setting.{Spilling, is_own, own_lanes}
use Rattle.spiller.specs.Rematerialised.{ways_read}
use Rattle.spiller.specs.Spilled.{Seats, as_tiny, numbered_operands, place_change, seated, seated_operand, seats_from, tiny_of, with_tinies}
use Rattle.spill_laws.specs.Laws.{HasTinies}
use Rattle.spill_laws.specs.Standing.{IsBeside, IsInside, IsSite, KeptIn, LeavesRange, LiveIn, OwnStands, PlaceStands, Stands, code_before, instrs_of, slot_lane, starts}
use Rattle.spill_laws.specs.Seats.{Held, Load, load_writes, save_writes, source_at}
use Rattle.spill_laws.specs.TinyPlaces.{AreAt, GetsTinies, TerminatorPlacesStand}
use Rattle.spill_laws.proofs.Blocks.{no-definitions, own-none}
use Rattle.spill_laws.proofs.Chains.{tiny_lanes}
use Rattle.spill_laws.proofs.CountedPlaces.{fixed-of, no-parts}
use Rattle.spill_laws.proofs.InForm.{place-in}
use Rattle.spill_laws.proofs.ItemsStay.{item-stays}
use Rattle.spill_laws.proofs.OwnOperands.{explicit, in-bound, own-wide, tied-to}
use Rattle.spill_laws.proofs.PlaceReadings.{gives, place_loads, read-load}
use Rattle.spill_laws.proofs.Readers.{loads_hold, readers_hold}
use Rattle.spill_laws.proofs.SeatedPlaces.{further-slotless}
use Rattle.spill_laws.proofs.SeatLoads.{before-items, behind-items, loads-further, loads-once, loads-plain, saves_of}
use Rattle.spill_laws.proofs.SlotPlaces.{width}
use Rattle.spill_laws.proofs.SlotWrites.{of-one, undefined-lane}
use Rattle.spill_laws.proofs.SpillItems.{item-known, other-beside, own-lanes-are}
use Rattle.spill_laws.proofs.TinyRules.{operand-there, rolled}
use Rattle.spill_laws.proofs.Touched.{range-virtual}
use Rattle.spill_laws.proofs.Turned.{others-stay}

ends-count : (e : Effect) → is_terminator e ≡ true → is_silent e ≡ false
ends-count effects.Copy h = absurd (cc)
ends-count effects.Phi h = absurd (cc)
ends-count effects.ImplicitDef h = absurd (cc)
ends-count effects.RegSequence h = absurd (cc)
ends-count effects.InsertSubreg h = absurd (cc)
ends-count effects.Const h = absurd (cc)
ends-count effects.Addr h = absurd (cc)
ends-count effects.Spill h = absurd (cc)
ends-count effects.Reload h = absurd (cc)
ends-count e h = refl

-- a terminator moves no lane

computed-gives : (early : Bool) (m : ℕ) (ls : List Lane) (w : Write) → Member w (computed early m ls) → (l : Lane) → w.fill ≡ Moved (FromLane l) → ⊥
computed-gives early m [] w mw l e = member-none w mw
computed-gives early m (x ∷ ls) w mw l e = member-elim w (record { lane = x; fill = Computed m; early = early }) (computed early (suc m) ls) (λ q. let a : Computed m ≡ Moved (FromLane l) = sym (ap (λ (y : Write). y.fill) q) ∙ e in cc) (λ k. computed-gives early (suc m) ls w k l e) mw

undefined-gives : (early : Bool) (ls : List Lane) (w : Write) → Member w (undefined early ls) → (l : Lane) → w.fill ≡ Moved (FromLane l) → ⊥
undefined-gives early ls w mw l e = let q = (undefined-lane early ls w mw).1 in let a : Moved Undef ≡ Moved (FromLane l) = sym q ∙ e in cc

clobbers-give : (t : Target) (kind : OpaqueKind) (os : List Operand) (w : Write) → Member w (opaque_clobbers t kind os) → (l : Lane) → w.fill ≡ Moved (FromLane l) → ⊥
clobbers-give t kinds.Call os w mw l e = undefined-gives false _ w mw l e
clobbers-give t kind os w mw l e = member-none w mw

further-gives : (t : Target) (g : Function) (e : Effect) → is_terminator e ≡ true → (i : Instr) (w : Write) → Member w (further_writes t g e i) → (l : Lane) → w.fill ≡ Moved (FromLane l) → ⊥
further-gives t g effects.Cmp h i w mw l q = absurd (cc)
further-gives t g effects.Call h i w mw l q = absurd (cc)
further-gives t g (effects.Opaque kind) h i w mw l q =
    let m = length (defined_lanes t g (definitions (roles_of t i) i.operands)) in
    either-elim w (computed false m (all_lanes t g (implicit_definitions i.operands))) (opaque_clobbers t kind i.operands)
    (λ k. computed-gives false m (all_lanes t g (implicit_definitions i.operands)) w k l q) (λ k. clobbers-give t kind i.operands w k l q) mw
further-gives t g e h i w mw l q = undefined-gives false (unreserved t (all_lanes t g (implicit_definitions i.operands))) w mw l q

module _ (s : Spilling) (g : Function) (b c : Block) (is : List Instr) (p : Code) (n : ℕ) (gt : GetsTinies s g b c is p n) (ends : (i : Instr) → Member i is → does is_terminator s.target i ≡ true) where
  abbrev t : Target
  t = s.target

  abbrev f : Function
  f = s.func

  abbrev h : HasTinies s g n is
  h = gt.tinies

  abbrev z : Seats
  z = seats_from s n is

  abbrev loads : List Load
  loads = place_loads s g b c is p n gt

  rules : (d : Block) (i : Instr) → Member d f.blocks → Member i d.instrs → V1 t f i ≡ true
  rules d i md mi = (gt.setting.shaped d i md mi).operands

  module _ (j : Instr) (mj : Member j is) (q : Code) (site : IsSite s j.id (item_of t f b j) q) (inside : IsInside (item_of t f b j)) where
    abbrev e : Effect
    e = (rolled s g n is h j mj).effect

    known : effect_of t j ≡ Some e
    known = (rolled s g n is h j mj).known

    has-roles : has_roles e ≡ true
    has-roles = (rolled s g n is h j mj).rolled

    terminates : is_terminator e ≡ true
    terminates = sym (ap (passes is_terminator) known) ∙ ends j mj

    counts : is_silent e ≡ false
    counts = ends-count e terminates

    rule : V1 t f j ≡ true
    rule = (h.shaped j mj).operands

    abbrev behind : Instr
    behind = with_tinies s (seats_from s n is) j

    abbrev ws : Writes
    ws = counted_writes s.target g e j

    abbrev Y : Item
    Y = Counted (rest_of s.target g e j) (map (λ (v : Value). v.0) (values s.target g e j)) (counted_writes s.target g e j) (option_map (way s.target g c.number) (target_of j.operands)) (ways_out s.target g c)

    as-item : (x : Instr) → effect_of t x ≡ Some e → item_of t g c x ≡ Counted (rest_of t g e x) (map (λ (v : Value). v.0) (values t g e x)) (counted_writes t g e x) (option_map (way t g c.number) (target_of x.operands)) (ways_out t g c)
    as-item x k =
        item-known t g c x e k
        ∙ (λ i. cond (counts i) (Silent (silent_reads t g e x.operands) (silent_writes t g e (is_early_clobber (roles_of t x)) x.operands))
        (Counted (rest_of t g e x) (map (λ (v : Value). v.0) (values t g e x)) (counted_writes t g e x) (option_map (way t g c.number) (target_of x.operands)) (cond (terminates i) (ways_out t g c) [])))

    all-fixed : (o : RegOp) → Member o (implicit_registers j.operands) → IsFixed o.loc
    all-fixed o m =
        let d = (met t f j e known rule).0 in
        let all = (fit t f j e known rule has-roles).implicit in
        fixed-of o.loc (first_of_both (not (is_virtual o.loc)) (not (is_silent d.effect)) (all-of (λ (x : RegOp). not (is_virtual x.loc) && not (is_silent d.effect)) o (implicit_registers j.operands) m all))

    named : AreNamed f j.operands
    named o m = record { class = class-there t f j (h.shaped j mj) o m; fixed = λ u. all-fixed o (filter-in (λ (x : RegOp). x.implicit) o (registers j.operands) m u) }

    same : item_of t f b j ≡ Y
    same = sym (item-stays s g b c h.keeps gt.blocks j (ap (passes puts_together) known ∙ no-parts e has-roles) named) ∙ as-item j known

    -- it defines nothing

    plain : (o : RegOp) → Member (operands.Reg o) j.operands → is_definition o ≡ false
    plain o m = terminator-plain t f j e known has-roles rule terminates o m

    none-defined : definitions (roles_of t j) j.operands ≡ []
    none-defined = none (explicit_bound (explicit_roles (roles_of t j)) (explicit_operands j.operands)) (λ r o m. (filter-of (λ x. not (is_implicit_operand x)) o j.operands (bound-operand (explicit_roles (roles_of t j)) (explicit_operands j.operands) r o m)).0)
      where
        one : (r : Option Role) (o : Operand) → Member o j.operands → definition_in (r, o) ≡ None
        one r (operands.Reg o) m = ap (λ y. cond y (Some (passes is_early r, o)) None) (plain o m)
        one r o m = refl

        none : (bs : List Bound) → ((r : Option Role) (o : Operand) → Member (r, o) bs → Member o j.operands) → filter_map definition_in bs ≡ []
        none [] m = refl
        none ((r, o) ∷ bs) m = λ k. cons_option (one r o (m r o first) k) (none bs (λ r o a. m r o (later a)) k)

    writes-are : ws ≡ further_writes t g e j
    writes-are = ap (λ ds. results t g 0 ds ++ further_writes t g e j) none-defined

    leaves : LeavesRange s Y q
    leaves = record {
      inside = subst IsInside same inside;
      gives = λ w k m u. further-gives t g e terminates j w (subst (Member w) writes-are m) (VirtualLane s.range k) u;
      writes = λ k. ap (λ xs. is_written xs (VirtualLane s.range k)) writes-are ∙ further-missed t g e j s.range k all-fixed;
      apart = λ k l. ap (λ xs. is_written xs (slot_lane s k)) writes-are ∙ further-slotless t g s.slot k (width s k) e j;
      old = subst (λ y. AllOld (length f.classes) (writes_of y)) same (writes-are-old t f b j named);
    }

    free : (l : Load) (a : ℕ) → Member l loads → is_written ws (VirtualLane l.tiny a) ≡ false
    free l a m = ap (λ xs. is_written xs (VirtualLane l.tiny a)) writes-are ∙ further-missed t g e j l.tiny a all-fixed

    -- what is kept, and where it is held

    abbrev Q : Rel
    Q a u = Known (is_reserved s.target) (code_before s) (Y ∷ q) a → Held s (place_loads s g b c is p n gt) (Y ∷ q) a u

    abbrev From : Lane → Lane → Type 0
    From a a' = ⊥

    beside-held : (a : Lane) → IsBeside s a → Q (FromLane a) (FromLane a)
    beside-held a x k = inl (inl (x, k, refl))

    same-reads : (y : Bool) (ls : List Lane) → ((a : Lane) → Member a ls → IsBeside s a) → AlikeReads Q (map (cond y (λ l. Undef) FromLane) ls) (map (cond y (λ l. Undef) FromLane) ls)
    same-reads y [] x = tt
    same-reads true (l ∷ ls) x = ((λ k. inl tt), same-reads true ls (λ a m. x a (later m)))
    same-reads false (l ∷ ls) x = (beside-held l (x l first), same-reads false ls (λ a m. x a (later m)))

    -- a tiny that is read
    module _ (l : Load) (ml : Member l loads) where
      tiny-reads : (d : ℕ) (found : ℕ → Source) (ks : List ℕ) → ((a : ℕ) → Member a ks → OwnStands s (Y ∷ q) a (found a))
          → ((v : ℕ) → is_one (numbers d (length ks)) v ≡ true → (is_one (numbers 0 (length l.sources)) v ≡ true) × (source_at (numbers d (length ks)) (map found ks) v ≡ source_at (numbers 0 (length l.sources)) l.sources v))
          → AlikeReads Q (map FromLane (lanes_by s.range ks)) (map FromLane (tiny_lanes l.tiny d (length ks)))
      tiny-reads d found [] stands fact = tt
      tiny-reads d found (k ∷ ks) stands fact = (
        (λ live. inr (k, d, l, ml, refl, refl, (fact d front).0, its live, subst (OwnStands s (Y ∷ q) k) (sym at-front ∙ (fact d front).1) (stands k first))),
        tiny-reads (suc d) found ks (λ a m. stands a (later m)) (λ v u. ((fact v (either (nat_eq d v) u)).0, sym (ap (λ y. cond y (found k) (source_at (numbers (suc d) (length ks)) (map found ks) v)) (past v (of-one (numbers (suc d) (length ks)) v u))) ∙ (fact v (either (nat_eq d v) u)).1)),
      )
        where
          front : is_one (numbers d (length (k ∷ ks))) d ≡ true
          front = ap (λ y. y || is_one (numbers (suc d) (length ks)) d) (eq-eqb d d refl)

          at-front : source_at (numbers d (length (k ∷ ks))) (map found (k ∷ ks)) d ≡ found k
          at-front = ap (λ y. cond y (found k) (source_at (numbers (suc d) (length ks)) (map found ks) d)) (eq-eqb d d refl)

          its : KeptIn s (Y ∷ q) (VirtualLane s.range k) → LiveIn s (Y ∷ q) (VirtualLane s.range k)
          its (inl x) = x
          its (inr x) = absurd (cc)

          either : (y : Bool) {u : Bool} → u ≡ true → (y || u) ≡ true
          either true v = refl
          either false v = v

          low : (d n k : ℕ) → Member k (numbers d n) → d ≤ k
          low d zero k m = absurd (member-none k m)
          low d (suc n) k m = member-elim k d (numbers (suc d) n) (λ u. subst (λ v. d ≤ v) (sym u) (omega arith)) (λ a. let w = low (suc d) n k a in omega (arith, w)) m

          past : (v : ℕ) → Member v (numbers (suc d) (length ks)) → nat_eq d v ≡ false
          past v m = by (nat_eq d v) refl
            where
              by : (y : Bool) → nat_eq d v ≡ y → nat_eq d v ≡ false
              by false u = u
              by true u = let w = eqb-true d v u in let x = low (suc d) (length ks) v m in absurd (omega (arith, x, w))

      whole-reads : (found : ℕ → Source) (ks : List ℕ) → l.sources ≡ map found ks → ((a : ℕ) → Member a ks → OwnStands s (Y ∷ q) a (found a)) → AlikeReads Q (map FromLane (lanes_by s.range ks)) (map FromLane (tiny_lanes l.tiny 0 (length ks)))
      whole-reads found ks sources stands = tiny-reads 0 found ks stands (λ v.
          subst (λ k. is_one (numbers 0 k) v ≡ true → (is_one (numbers 0 (length l.sources)) v ≡ true) × (source_at (numbers 0 k) (map found ks) v ≡ source_at (numbers 0 (length l.sources)) l.sources v)) (length-map ks found)
          (subst (λ qs. is_one (numbers 0 (length qs)) v ≡ true → (is_one (numbers 0 (length l.sources)) v ≡ true) × (source_at (numbers 0 (length qs)) qs v ≡ source_at (numbers 0 (length l.sources)) l.sources v)) sources (λ u. (u, refl))))

    -- each operand and what stands in its place

    same-place : (o : RegOp) → Member (operands.Reg o) j.operands → is_own s o ≡ false → InPlace t g Q From o o
    same-place o m own =
        let class = class-there t f j (h.shaped j mj) o (register-in o j.operands m) in
        record {
          def = refl;
          implicit = refl;
          widths = refl;
          stays = λ x. refl;
          reads = λ x. same-reads o.undef (operand_lanes t g o) (λ a ma. other-beside s o.loc o.index own class a (subst (Member a) (lanes t f g h.keeps o.loc o.index class) ma));
          clear = λ x. absurd (let y = plain o m in cc);
          lanes = λ x a a' y. absurd y;
        }

    own-undefined : (o : RegOp) → Member (operands.Reg o) j.operands → is_own s o ≡ true → o.def ≡ false
    own-undefined o m own = by (is_own s o) o.def own (own-none s rules j rule (ends j mj) o m)
      where
        by : (x y : Bool) → x ≡ true → (x && y) ≡ false → y ≡ false
        by true y u v = v
        by false y u v = absurd (cc)

    module _ (k : ℕ) (r : Option Role) (o : RegOp) (m : Member (k, (r, operands.Reg o)) (numbered_operands t j)) (own : is_own s o ≡ true) where
      there : Member (operands.Reg o) j.operands
      there = operand-there s g n is h j mj k r o m

      def : o.def ≡ false
      def = own-undefined o there own

      -- it isn't `undef`
      not-undef : o.undef ≡ true → ⊥
      not-undef undef = go (option_and_then tied_number r) refl
        where
          go : (a : Option ℕ) → option_and_then tied_number r ≡ a → ⊥
          go None u =
              let v = range-virtual s.range o.loc own in
              let w : is_free_undef (r, operands.Reg o) ≡ true = λ x. not (def x) && undef x && is_none (u x) in
              let x = gt.undefs b j gt.block (place-in s b is gt.place j mj) r o (in-bound s g n is h j mj k r o m own) w in
              let y : is_virtual o.loc ≡ true = ap is_virtual v.1 in
              cc
          go (Some a) u =
              let w = tied-to s g n is h j mj k r o m own a u in
              let x = own-undefined w.definition (operand-there s g n is h j mj a w.role w.definition w.among) w.own in
              let y = w.def in
              cc

      seated-is : (x : ℕ) → tiny_of s z j k r o ≡ Some x → seated s z j k r o ≡ as_tiny o x
      seated-is x u = λ a. cond (own a) (elim (u a) as (λ y. RegOp) [ None ↦ o | Some y ↦ as_tiny o y ]) o

      tiny-place : o.undef ≡ false → InPlace t g Q From o (seated s z j k r o)
      tiny-place undef =
          let w = read-load s g b c is p n gt j mj e known counts k r o m own def undef q site.from in
          subst (InPlace t g Q From o) (sym (seated-is w.load.tiny w.seat))
          (record {
            def = refl;
            implicit = sym (explicit s g n is h j mj k r o m own);
            widths = w.wide ∙ sym (own-wide s g n is h j mj k r o m own);
            stays = λ x. absurd (let y = explicit s g n is h j mj k r o m own in cc);
            reads = λ x. subst (λ ss. AlikeReads Q ss (use_sources t g (as_tiny o w.load.tiny))) (sym first-sources)
                (subst (AlikeReads Q (map FromLane (lanes_by s.range (own_lanes s o.index)))) (sym (second-sources w.load.tiny w.wide))
                (whole-reads w.load w.inside w.found (own_lanes s o.index) w.sources (λ a ma. subst (λ y. OwnStands s (y ∷ q) a (w.found a)) same (w.stands a ma))));
            clear = λ x. absurd (let y = plain o there in cc);
            lanes = λ x a a' y. absurd y;
          })
        where
          first-sources : use_sources t g o ≡ map FromLane (lanes_by s.range (own_lanes s o.index))
          first-sources = λ a. map (cond (undef a) (λ l. Undef) FromLane) ((lanes t f g h.keeps o.loc o.index (class-there t f j (h.shaped j mj) o (register-in o j.operands there)) ∙ own-lanes-are s o own) a)

          second-sources : (x : ℕ) → range_widths t g x ≡ map (width s) (own_lanes s o.index) → use_sources t g (as_tiny o x) ≡ map FromLane (tiny_lanes x 0 (length (own_lanes s o.index)))
          second-sources x wide = λ a. map (cond (not (def a) && undef a) (λ l. Undef) FromLane) (lanes_by x (numbers 0 ((ap length wide ∙ length-map (own_lanes s o.index) (width s)) a)))

    seat-place : (k : ℕ) (r : Option Role) (o : RegOp) → Member (k, (r, operands.Reg o)) (numbered_operands t j) → InPlace t g Q From o (seated s z j k r o)
    seat-place k r o m = go (is_own s o) refl o.undef refl
      where
        go : (x : Bool) → is_own s o ≡ x → (y : Bool) → o.undef ≡ y → InPlace t g Q From o (seated s z j k r o)
        go false own y u = subst (InPlace t g Q From o) (sym (others-stay s z j k r o own)) (same-place o (operand-there s g n is h j mj k r o m) own)
        go true own true u = absurd (not-undef k r o m own u)
        go true own false u = tiny-place k r o m own u

    replaces : (d : ℕ) (rs : List Role) (os : List Operand) → ((x : ℕ × Bound) → Member x (numbered d (explicit_bound rs os)) → Member x (numbered_operands t j)) → Replaces t g Q From os (map (seated_operand s z j) (numbered d (explicit_bound rs os)))
    replaces d rs [] inside = Replaces.none
    replaces d [] (operands.Reg o ∷ os) inside = Replaces.register (seat-place d None o (inside (d, (None, operands.Reg o)) first)) (replaces (suc d) [] os (λ x m. inside x (later m)))
    replaces d (r ∷ rs) (operands.Reg o ∷ os) inside = Replaces.register (seat-place d (Some r) o (inside (d, (Some r, operands.Reg o)) first)) (replaces (suc d) (cond (takes_many r) (r ∷ rs) rs) os (λ x m. inside x (later m)))
    replaces d [] (y ∷ os) inside = Replaces.other refl (replaces (suc d) [] os (λ x m. inside x (later m)))
    replaces d (r ∷ rs) (y ∷ os) inside = Replaces.other refl (replaces (suc d) (cond (takes_many r) (r ∷ rs) rs) os (λ x m. inside x (later m)))

    all-replaced : Replaces t g Q From j.operands behind.operands
    all-replaced = replaces 0 (explicit_roles (roles_of t j)) j.operands (λ x m. m)

    -- the item behind

    bits : (a : Constant) (low width : ℕ) → Q (Bits a low width) (Bits a low width)
    bits a low width k = inl refl

    units : (u : ℕ) → Q (FromLane (UnitLane u)) (FromLane (UnitLane u))
    units u = beside-held (UnitLane u) (record { other = refl; old = refl })

    nothing-known : Q Undef Undef
    nothing-known k = inl tt

    none-behind : definitions (roles_of t j) behind.operands ≡ []
    none-behind = go (definitions (roles_of t j) behind.operands) (subst (λ ds. AlikeDefinitions t g Q From ds (definitions (roles_of t j) behind.operands)) none-defined (definitions-alike t g Q From j behind.operands all-replaced e))
      where
        go : (ds : List Definition) → AlikeDefinitions t g Q From [] ds → ds ≡ []
        go [] x = refl
        go (d ∷ ds) x = absurd x

    same-writes : counted_writes t g e behind ≡ ws
    same-writes =
        ap (λ ds. results t g 0 ds ++ further_writes t g e behind) none-behind
        ∙ (further-same t g Q From j behind.operands all-replaced e e ∙ sym writes-are)

    new-item : item_of t g c behind ≡ Counted (rest_of t g e j) (map (λ (v : Value). v.0) (values t g e behind)) ws (option_map (way t g c.number) (target_of j.operands)) (ways_out t g c)
    new-item =
        as-item behind known
        ∙ (λ k. Counted (rest-same t g Q From bits units nothing-known j behind.operands all-replaced e all-fixed k) (map (λ (v : Value). v.0) (values t g e behind)) (same-writes k) (option_map (way t g c.number) (target-same t g Q From all-replaced k)) (ways_out t g c))

    sources-known : (ss us : List Source) → ((a : Lane) → Member (FromLane a) ss → KeptIn s (Y ∷ q) a) → AlikeReads Q ss us → AlikeReads (Held s loads (Y ∷ q)) ss us
    sources-known [] [] k x = tt
    sources-known [] (u ∷ us) k x = absurd x
    sources-known (a ∷ ss) [] k x = absurd x
    sources-known (a ∷ ss) (u ∷ us) k x = (x.0 (known-source (is_reserved t) (code_before s) (Y ∷ q) a (λ d u. k d (subst (λ y. Member y (a ∷ ss)) u first))), sources-known ss us (λ d m. k d (later m)) x.1)

    operands-known : (xs ys : Reads) → ((ss : List Source) (a : Lane) → Member ss xs → Member (FromLane a) ss → KeptIn s (Y ∷ q) a) → AlikeOperands Q xs ys → AlikeOperands (Held s loads (Y ∷ q)) xs ys
    operands-known [] [] k x = tt
    operands-known [] (y ∷ ys) k x = absurd x
    operands-known (a ∷ xs) [] k x = absurd x
    operands-known (a ∷ xs) (y ∷ ys) k x = (sources-known a y (λ d m. k a d first m) x.0, operands-known xs ys (λ ss d m u. k ss d (later m) u) x.1)

    alike : AlikeOperands (Held s loads (Y ∷ q)) (map (λ (v : Value). v.0) (values t g e j)) (map (λ (v : Value). v.0) (values t g e behind))
    alike =
        operands-known (map (λ (v : Value). v.0) (values t g e j)) (map (λ (v : Value). v.0) (values t g e behind)) (λ ss a m u. read_kept (is_reserved t) (code_before s) Y q ss a m u)
        (reads-alike t g Q From bits units nothing-known j behind.operands all-replaced e all-fixed)

    reader : Stretch (starts s) (Held s loads (item_of t f b j ∷ q)) (Held s loads q) (item_of t f b j ∷ []) (item_of t g c behind ∷ [])
    reader =
        subst (λ y. Stretch (starts s) (Held s loads (y ∷ q)) (Held s loads q) (y ∷ []) (item_of t g c behind ∷ [])) (sym same)
        (subst (λ y. Stretch (starts s) (Held s loads (Y ∷ q)) (Held s loads q) (Y ∷ []) (y ∷ [])) (sym new-item)
        (readers_hold s loads (rest_of t g e j) (map (λ (v : Value). v.0) (values t g e j)) (map (λ (v : Value). v.0) (values t g e behind)) ws (option_map (way t g c.number) (target_of j.operands)) (ways_out t g c) q leaves free alike))

  -- all of them

  chain : (js : List Instr) → ((j : Instr) → Member j js → Member j is) → AreAt s b js p → Stretch (starts s) (Held s loads (map (item_of t f b) js ++ p)) (Stands s p) (map (item_of t f b) js) (map (item_of t g c) (map (with_tinies s z) js))
  chain [] inside at = strengthened (starts s) (Stands s p) (Stands s p) (Held s loads p) [] [] (λ a u k. inl k) (nothing (starts s) (Stands s p))
  chain (j ∷ js) inside at =
      let q = map (item_of t f b) js ++ p in
      joined (starts s) (Held s loads (item_of t f b j ∷ q)) (Held s loads q) (Stands s p) (item_of t f b j ∷ []) (item_of t g c (with_tinies s z j) ∷ []) (map (item_of t f b) js) (map (item_of t g c) (map (with_tinies s z) js))
      (reader j (inside j first) q at.0 at.1) (chain js (λ i m. inside i (later m)) at.2)

  none-stored : z.definitions ≡ []
  none-stored = ap (numbered (n + length (ways_read s is))) (no-definitions s rules is (λ i m. (h.shaped i m).operands) ends)

  behind-none : map (item_of t g c) (place_change s n is).behind ≡ []
  behind-none = behind-items s g c n is h ∙ ap (λ ds. silents (map (save_writes s) (saves_of s g c n is ds))) none-stored

  pub terminators-stand : PlaceStands s (map (item_of t f b) is) (map (item_of t g c) (instrs_of (place_change s n is))) p
  terminators-stand =
      let x = place_change s n is in
      let q = map (item_of t f b) is ++ p in
      let gv = gives s g b c is p n gt in
      subst (λ y. PlaceStands s (map (item_of t f b) is) y p)
      (sym (map-append (item_of t g c) x.before (x.own ++ x.behind) ∙ (λ k. before-items s g c n is h gv k ++ (map-append (item_of t g c) x.own x.behind ∙ (λ i. map (item_of t g c) x.own ++ behind-none i) ∙ append-nil (map (item_of t g c) x.own)) k)))
      (joined (starts s) (Stands s q) (Held s loads q) (Stands s p) [] (silents (map load_writes loads)) (map (item_of t f b) is) (map (item_of t g c) (map (with_tinies s z) is))
      (loads_hold s loads q (loads-further s g c n is h gv) (loads-once s g c n is h gv) (loads-plain s g c n is h gv))
      (chain is (λ j m. m) gt.at))

pub terminator_places_stand : TerminatorPlacesStand
terminator_places_stand s g b c is p n gt ends = terminators-stand s g b c is p n gt ends
