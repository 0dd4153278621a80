-- COPY, IMPLICIT_DEF, constants and addresses give behind lowering of ties what they gave.
use Rattle.std.proofs.Common.{◌≡◌, ◌∷◌, ◌++◌, ◌∙◌, ◌&&◌, ◌||◌, ◌≤◌, ◌+◌, not, ℕ, suc, Bool, true, false, cond, List, Option, Some, None, map, filter, flat_map, length, refl, sym, ap, subst, append-nil, eq-eqb, arith, []}
use Rattle.std.specs.Prelude.{nat_le, sum, slice_get}
use Rattle.std.specs.List.{list_all, list_any}
use Rattle.target_base.specs.declared.types.ClassId.{ClassId}
use Rattle.target_base.specs.declared.types.Effect.{Effect}
use Rattle.target_base.specs.declared.types.Effect.TheVariants as effects
use Rattle.target_base.specs.declared.types.IndexId.{IndexId}
use Rattle.target_base.specs.declared.types.Role.{Role}
use Rattle.target_base.specs.declared.types.Role.TheVariants as roles
use Rattle.target_base.specs.declared.types.Unit.{Unit as UnitNumber}
use Rattle.target_base.specs.declared.types.Target.{Target}
use Rattle.target_base.specs.Registers.{lanes_of, units_of}
use Rattle.target_base.specs.Roles.{is_definition as is_definition_role, is_frame_or_symbol, is_immediate, is_tied}
use Rattle.target_base.specs.Rules.{is_copy, is_insert_subreg, is_reg_sequence}
use Rattle.target_base.specs.Storage.{widths}
use Rattle.target_base.proofs.Tests.{first_of_both, second_of_both}
use Rattle.meaning.specs.Code.{Item, Silent}
use Rattle.meaning.specs.Environment.{constant_source}
use Rattle.meaning.specs.Lanes.{Writes, filled, settled}
use Rattle.meaning.specs.Live.{Among, here, there, writes_of}
use Rattle.meaning.specs.Relations.{Rel}
use Rattle.meaning.specs.declared.types.Constant.{Constant}
use Rattle.meaning.specs.declared.types.Constant.TheVariants.{Immediate}
use Rattle.meaning.specs.declared.types.Lane.{Lane}
use Rattle.meaning.specs.declared.types.Lane.TheVariants.{VirtualLane}
use Rattle.meaning.specs.declared.types.Source.{Source}
use Rattle.meaning.specs.declared.types.Source.TheVariants.{FromLane, Undef}
use Rattle.laws.proofs.Core.{Plan}
use Rattle.mir_func.specs.declared.func.Loc.{Loc}
use Rattle.mir_func.specs.declared.func.Loc.TheVariants.{Fixed, Virtual}
use Rattle.mir_func.specs.declared.func.RegOp.{RegOp}
use Rattle.mir_func.specs.declared.func.Operand.{Operand}
use Rattle.mir_func.specs.declared.func.Operand.TheVariants as operands
use Rattle.mir_func.specs.declared.func.Op.TheVariants as ops
use Rattle.mir_func.specs.declared.func.Instr.{Instr}
use Rattle.mir_func.specs.declared.func.Block.{Block}
use Rattle.mir_func.specs.Value.{Function}
use Rattle.mir_func.specs.Binding.{does, effect_of, ends_control, explicit_bound, explicit_roles, is_definition, is_early_clobber, is_terminator, is_use, is_virtual, numbered, passes, register_at, registers, roles_of, same_loc, takes_many}
use Rattle.mir_meaning.specs.Registers.{located_lanes, located_widths, numbers, operand_lanes, operand_widths, range_lanes, range_widths, undefined_lanes, unit_lanes, use_sources, whole_lanes}
use Rattle.mir_meaning.specs.Items.{constant_bits, constant_lanes, constant_of, copied, defined_undef, given_constant, moved, undefined}
use Rattle.mir_meaning.specs.Codes.{effect_item, item_of, way}
use Rattle.mir_meaning.specs.Rules.{V12, copy_fits, fits_role, has_class, implicit_def_fits, namings, undef_fits, widths_fit}
use Rattle.mir_meaning.specs.declared.Form.TheVariants as source_form
use Rattle.phi_elim.specs.Moves.{destination_of, implicit_def_op, undefining, whole_definition}
use Rattle.two_address.specs.Lowered.{copy_form, form_lowered, insertion_form, instr_lowered, part_of_two, sequence_form, ties_lowered, virtual_in}
use Rattle.two_address.specs.Ties.{copy_lowered, retied, retied_operand, retied_use, undefined_first, undefined_whole, with_ties}
use Rattle.two_address.specs.declared.forms.InstrLowering.TheVariants as forms
use Rattle.instr_effects.proofs.Members.{filter-in, member-elim, member-none}
use Rattle.live_laws.proofs.Effects.Lists.{all-of}
use Rattle.live_laws.proofs.Effects.Shapes.{lanes-there, same-lanes, widths-of}
use Rattle.live_laws.proofs.Touch.Roles.{TakeAll, Takes, addr-takes, const-takes, met}
use Rattle.lowering_laws.proofs.Alike.{Equal}
use Rattle.lowering_laws.proofs.Arrivals.{eqb-sym}
use Rattle.lowering_laws.proofs.Classes.{AllNamed, item-stays, lanes-stay}
use Rattle.lowering_laws.proofs.Lowering.{map-append}
use Rattle.lowering_laws.proofs.Olds.{AllOld, writes-are-old}
use Rattle.lowering_laws.proofs.Operands.{lanes-long, named, shaped}
use Rattle.lowering_laws.proofs.Placed.{undef-effect, undef-item}
use Rattle.lowering_laws.proofs.Plain.{is_undef, none-before, none-tied, other-form, same-classes, same-operands}
use Rattle.lowering_laws.proofs.Replaced.{EndsAlike, InstrStep, K, h, made}
use Rattle.lowering_laws.proofs.Ruled.{InstrRules}
use Rattle.lowering_laws.proofs.Same.{copied-alike, lanes-alike, undef-alike, widths-alike}
use Rattle.lowering_laws.proofs.Steps.{one-silent}
use Rattle.lowering_laws.proofs.Stretches.{Stretch}
use Rattle.lowering_laws.proofs.Traced.{is_lane_of, is_written, settled-none, silents}
use Rattle.lowering_laws.proofs.Undefs.{GivesAlike, Leaves, alone, apart-leaves, moved-among, moved-undef, undef-first, undefined-append, undefined-given}

not-true : (b : Bool) → not b ≡ true → b ≡ false
not-true true e = absurd (cc)
not-true false e = refl

pub same-own : (l : Loc) → same_loc l l ≡ true
same-own (Virtual v) = eq-eqb v v refl
same-own (Fixed r) = eq-eqb r.0 r.0 refl

-- a use stands in no definition's place
pub first-used : (s : RegOp) → is_use s ≡ true → undefined_first (operands.Reg s) ≡ []
first-used s e = λ k. cond ((not-true s.def (first_of_both (not s.def) (not s.implicit) e) k && not s.implicit) && s.undef) (undefined_whole s.loc) []

-- lanes of another register
pub lanes-apart : (t : Target) (f : Function) (v : ℕ) (l : Loc) (x : Option IndexId) → same_loc l (Virtual v) ≡ false → (a : Lane) → Among a (located_lanes t f l x) → is_lane_of v a ≡ false
lanes-apart t f v (Virtual w) x e a m = go x m
  where
    ranged : (ks : List ℕ) → Among a (map (VirtualLane w) ks) → is_lane_of v a ≡ false
    ranged [] m = absurd (member-none a m)
    ranged (k ∷ ks) m = member-elim a (VirtualLane w k) (map (VirtualLane w) ks) (λ q. ap (is_lane_of v) q ∙ (eqb-sym v w ∙ e)) (λ j. ranged ks j) m

    go : (x : Option IndexId) → Among a (located_lanes t f (Virtual w) x) → is_lane_of v a ≡ false
    go None m = ranged (numbers 0 (length (range_widths t f w))) m
    go (Some y) m = ranged (lanes_of t y) m
lanes-apart t f v (Fixed r) x e a m = units (units_of t r) m
  where
    units : (us : List UnitNumber) → Among a (unit_lanes us) → is_lane_of v a ≡ false
    units [] m = absurd (member-none a m)
    units (u ∷ us) m = member-elim a _ (unit_lanes us) (λ q. ap (is_lane_of v) q) (λ j. units us j) m

-- a register has as many lanes as widths
pub lanes-count : (t : Target) (f : Function) (l : Loc) (x : Option IndexId) → length (located_lanes t f l x) ≡ length (located_widths t f l x)
lanes-count t f (Virtual v) x = lanes-long t f (Virtual v) x refl
lanes-count t f (Fixed r) x = go (units_of t r)
  where
    go : (us : List UnitNumber) → length (unit_lanes us) ≡ length (widths t.units us)
    go [] = refl
    go (u ∷ us) = ap suc (go us)

-- what constants give

bits_by : List ℕ → Option Constant → List Source
bits_by ws None = []
bits_by ws (Some c) = constant_bits c 0 ws

bits-are : (t : Target) (f : Function) (d : RegOp) (q : Option Constant) → constant_lanes t f d q ≡ bits_by (operand_widths t f d) q
unfolding bits_by
bits-are t f d None = refl
bits-are t f d (Some c) = refl

source-leaves : (ls : List Lane) (c : Constant) (low width : ℕ) → Leaves ls (constant_source c low width)
source-leaves ls (Immediate n) low width = refl
source-leaves ls c low width = refl

bits-leave : (ls : List Lane) (c : Constant) (low : ℕ) (ws : List ℕ) (s : Source) → Among s (constant_bits c low ws) → Leaves ls s
bits-leave ls c low [] s m = absurd (member-none s m)
bits-leave ls c low (w ∷ ws) s m = member-elim s (constant_source c low w) (constant_bits c (low + w) ws) (λ e. subst (Leaves ls) (sym e) (source-leaves ls c low w)) (λ k. bits-leave ls c (low + w) ws s k) m

constants-leave : (t : Target) (f : Function) (ls : List Lane) (d : RegOp) (q : Option Constant) (s : Source) → Among s (constant_lanes t f d q) → Leaves ls s
constants-leave t f ls d None s m = absurd (member-none s m)
constants-leave t f ls d (Some c) s m = bits-leave ls c 0 (operand_widths t f d) s m

-- operands of an instruction without ties whose first is a definition

module _ (t : Target) (cs : List (Option ClassId)) where
  clear-first : (n : ℕ) (r : Option Role) (d : RegOp) → is_definition d ≡ true → retied t cs [] n r d ≡ record d { undef = false }
  clear-first n r d e = λ k. cond (e k) (record d { undef = false }) (retied_use t cs [] r d)

  definition-operands : (rs : List Role) (d : RegOp) (rest : List Operand) → is_definition d ≡ true → list_all (λ o. not (is_undef o)) rest ≡ true → map (retied_operand t cs []) (numbered 0 (explicit_bound rs (operands.Reg d ∷ rest))) ≡ operands.Reg (record d { undef = false }) ∷ rest
  definition-operands [] d rest e h = λ k. operands.Reg (clear-first 0 None d e k) ∷ same-operands t cs 1 [] rest h k
  definition-operands (r ∷ rs) d rest e h = λ k. operands.Reg (clear-first 0 (Some r) d e k) ∷ same-operands t cs 1 (cond (takes_many r) (r ∷ rs) rs) rest h k

module _ (t : Target) (f : Function) (bare' : (n m : ℕ) → (way t (ties_lowered t f) n m).phis ≡ []) (all : AllNamed f f.blocks) (b : Block) (i : Instr) (r : InstrRules t f i) where
  abbrev H : Function
  H = h t f

  abbrev G : Function
  G = ties_lowered t f

  abbrev n : ℕ
  n = length f.classes

  abbrev E : Rel
  E = Equal n

  abbrev P : Plan
  P = K t f

  abbrev whole : RegOp → List Lane
  whole d = whole_lanes t H d.loc

  -- what is written before a definition
  abbrev before_writes : RegOp → List Writes
  before_writes d = cond d.undef (undefined false (whole d) ∷ []) []

  -- the rule on `undef` definitions
  undef-fit : (d : RegOp) → Among d (registers i.operands) → d.def ≡ true → d.undef ≡ true → (is_virtual d.loc ≡ true) × (nat_le (length (filter (λ (o : RegOp). same_loc o.loc d.loc) (namings (registers i.operands)))) 1 ≡ true)
  unfolding V12
  undef-fit d m def e = go d.undef e (all-of (undef_fits source_form.Source (registers i.operands)) d (filter (λ (o : RegOp). o.def) (registers i.operands)) (filter-in (λ (o : RegOp). o.def) d (registers i.operands) m def) (first_of_both _ _ (first_of_both _ _ (first_of_both _ _ r.twelve))))
    where
      few : Bool
      few = nat_le (length (filter (λ (o : RegOp). same_loc o.loc d.loc) (namings (registers i.operands)))) 1

      go : (y : Bool) → y ≡ true → (not y || (is_virtual d.loc && few)) ≡ true → (is_virtual d.loc ≡ true) × (few ≡ true)
      go false e q = absurd (cc)
      go true e q = (first_of_both (is_virtual d.loc) few q, second_of_both (is_virtual d.loc) few q)

  -- no other operand that is read has the register of an `undef` definition
  undef-alone : (d : RegOp) (rest : List Operand) → i.operands ≡ operands.Reg d ∷ rest → d.def ≡ true → d.undef ≡ true → (o : RegOp) → Among o (registers rest) → o.undef ≡ false → same_loc o.loc d.loc ≡ false
  undef-alone d rest are def e o m plain =
      let there' : Among d (registers i.operands) = subst (λ os. Among d (registers os)) (sym are) here in
      let few = (undef-fit d there' def e).1 in
      alone (λ (p : RegOp). same_loc p.loc d.loc) d (registers rest) def (same-own d.loc) (subst (λ os. nat_le (length (filter (λ (p : RegOp). same_loc p.loc d.loc) (namings (registers os)))) 1 ≡ true) are few) o m plain

  -- a silent definition, whose instruction behind lowering gives what it gave, but for what `undef` adds
  module _ (d : RegOp) (rest : List Operand) (are : i.operands ≡ operands.Reg d ∷ rest) (is-def : is_definition d ≡ true) (early : Bool) (ws : Writes) (last : Instr) (c : ℕ) (lowered : instr_lowered t f.classes c i ≡ undefined_first (operands.Reg d) ++ last ∷ []) where
    def : d.def ≡ true
    def = first_of_both d.def (not d.implicit) is-def

    virtual : d.undef ≡ true → is_virtual d.loc ≡ true
    virtual e = (undef-fit d (subst (λ os. Among d (registers os)) (sym are) here) def e).0

    abbrev all_writes : Writes
    all_writes = ws ++ undefined early (undefined_lanes t H d)

    abbrev wss : List Writes
    wss = before_writes d ++ ws ∷ []

    alike : (d.undef ≡ true → (a : Lane) → is_written ws a ≡ true → Leaves (whole d) (settled (filled ws a))) → GivesAlike n all_writes wss
    alike leaves = subst (λ ls. GivesAlike n (ws ++ undefined early ls) wss) (λ k. cond (sym def k && d.undef) (whole d) []) (go d.undef refl)
      where
        go : (y : Bool) → d.undef ≡ y → GivesAlike n (ws ++ undefined early (cond y (whole d) [])) (cond y (undefined false (whole d) ∷ []) [] ++ ws ∷ [])
        go true e = undef-first n (whole d) early ws (ws ∷ []) (λ a o. refl) (leaves e)
        go false e = λ a o. ap (λ z. settled (filled z a)) (sym (append-nil ws))

    module _ (js : List Instr) where
      abbrev c' : Block
      c' = record b { instrs = js }

      first-items : map (item_of t G c') (undefined_first (operands.Reg d)) ≡ silents (before_writes d)
      first-items = (λ k. map (item_of t G c') (cond (is-def k && d.undef) (undefined_whole d.loc) [])) ∙ go d.undef refl
        where
          at : (l : Loc) → is_virtual l ≡ true → map (item_of t G c') (undefined_whole l) ≡ silents (undefined false (whole_lanes t H l) ∷ [])
          at (Virtual v) e = ap (λ x. x ∷ []) (undef-item t G c' (undefining (whole_definition v)) refl ∙ ap (λ ws. Silent [] ws) (undef-alike t H G (same-classes t f) (operands.Reg (whole_definition v) ∷ []) ∙ ap (undefined false) (append-nil (range_lanes t H v))))
          at (Fixed q) e = absurd (cc)

          go : (y : Bool) → d.undef ≡ y → map (item_of t G c') (cond (true && y) (undefined_whole d.loc) []) ≡ silents (cond y (undefined false (whole d) ∷ []) [])
          go true e = at d.loc (virtual e)
          go false e = refl

      keeps : item_of t H b i ≡ Silent [] all_writes → item_of t G c' last ≡ Silent [] ws → (d.undef ≡ true → (a : Lane) → is_written ws a ≡ true → Leaves (whole d) (settled (filled ws a))) → Stretch P E E (item_of t H b i ∷ []) (map (item_of t G c') (instr_lowered t f.classes c i))
      keeps own new leaves =
          subst (λ is. Stretch P E E (item_of t H b i ∷ []) (map (item_of t G c') is)) (sym lowered)
          (subst (λ q. Stretch P E E (item_of t H b i ∷ []) q) (sym items)
          (subst (λ p. Stretch P E E (p ∷ []) (silents wss)) (sym own)
          (one-silent P n [] all_writes wss old (alike leaves))))
        where
          old : AllOld n all_writes
          old = subst (λ y. AllOld n (writes_of y)) own (subst (λ y. AllOld n (writes_of y)) (sym (item-stays t f (made t f) all b i (λ o m. named t f i r o m))) (writes-are-old t f b i (λ o m. named t f i r o m)))

          items : map (item_of t G c') (undefined_first (operands.Reg d) ++ last ∷ []) ≡ silents wss
          items =
              map-append (item_of t G c') (undefined_first (operands.Reg d)) (last ∷ [])
              ∙ ((λ k. first-items k ++ (new k ∷ []))
              ∙ sym (map-append (λ ws. Silent [] ws) (before_writes d) (ws ∷ [])))

    ends-with : does ends_control t last ≡ does ends_control t i → does is_terminator t last ≡ does is_terminator t i → EndsAlike t i (instr_lowered t f.classes c i)
    ends-with x y = record { front = undefined_first (operands.Reg d); last = last; are = lowered; control = x; terminator = y }

  -- an instruction of known effect as an item
  known-item : (g : Function) (a : Block) (x : Instr) (e : Effect) → effect_of t x ≡ Some e → item_of t g a x ≡ effect_item t g a x e
  unfolding item_of
  known-item g a x e q = ap (λ z. elim z as (λ o. Item) [ None ↦ Silent [] [] | Some y ↦ effect_item t g a x y ]) q

  cleared : (g : Function) (d : RegOp) → d.def ≡ true → undefined_lanes t g (record d { undef = false }) ≡ []
  cleared g d e = λ k. cond (e k && false) (whole_lanes t g d.loc) []

  -- COPY

  module _ (known : effect_of t i ≡ Some effects.Copy) (c : ℕ) (d s : RegOp) (are : i.operands ≡ operands.Reg d ∷ operands.Reg s ∷ []) (is-def : is_definition d ≡ true) (used : is_use s ≡ true) where
    abbrev given : Writes
    given = moved false (operand_lanes t H d) (use_sources t H s)

    abbrev lowered_copy : Instr
    lowered_copy = copy_lowered i d s

    copy-lowers : instr_lowered t f.classes c i ≡ undefined_first (operands.Reg d) ++ lowered_copy ∷ []
    copy-lowers =
        (λ k. flat_map undefined_first (are k) ++ form_lowered t f.classes c i
        (cond (passes is_copy (known k)) (copy_form (register_at (are k) 0) (register_at (are k) 1))
        (cond (does is_reg_sequence t i) (sequence_form (virtual_in (register_at i.operands 0)))
        (cond (does is_insert_subreg t i) (insertion_form (virtual_in (register_at i.operands 0)) (register_at i.operands 1) (part_of_two (slice_get i.operands 2) (slice_get i.operands 3))) forms.Other))))
        ∙ ((λ k. (undefined_first (operands.Reg d) ++ (first-used s used k ++ [])) ++ lowered_copy ∷ [])
        ∙ ap (λ xs. xs ++ lowered_copy ∷ []) (append-nil (undefined_first (operands.Reg d))))

    d-there : Among d (registers i.operands)
    d-there = subst (λ os. Among d (registers os)) (sym are) here

    s-there : Among s (registers i.operands)
    s-there = subst (λ os. Among s (registers os)) (sym are) (there here)

    class-of : (o : RegOp) → Among o (registers i.operands) → has_class f o.loc ≡ true
    class-of o m = (named t f i r o m).class

    long : length (operand_lanes t H d) ≤ length (operand_lanes t H s)
    long =
        let fits : widths_fit t f effects.Copy (operands.Reg d ∷ operands.Reg s ∷ []) ≡ true = subst (λ os. widths_fit t f effects.Copy os ≡ true) are (widths-of t f i effects.Copy known r.two) in
        let same = same-lanes t f d s (lanes-there t f i (shaped t f i r) d d-there) (lanes-there t f i (shaped t f i r) s s-there) (first_of_both _ _ (first_of_both _ _ fits)) in
        let one = ap length (lanes-stay t f (made t f) d.loc d.index (class-of d d-there)) in
        let two = ap length (lanes-stay t f (made t f) s.loc s.index (class-of s s-there)) in
        let three = lanes-count t f d.loc d.index in
        let four = lanes-count t f s.loc s.index in
        omega (arith, same, one, two, three, four)

    d-def : d.def ≡ true
    d-def = first_of_both d.def (not d.implicit) is-def

    copy-own : item_of t H b i ≡ Silent [] (given ++ undefined false (undefined_lanes t H d))
    copy-own = known-item H b i effects.Copy known ∙ ap (λ os. Silent [] (copied t H os)) are

    copy-new : (a : Block) → item_of t G a lowered_copy ≡ Silent [] given
    copy-new a = go s.undef refl
      where
        x : Instr
        x = record i { op = ops.Known implicit_def_op; operands = operands.Reg (destination_of d) ∷ [] }

        y : Instr
        y = record i { operands = operands.Reg (record d { undef = false }) ∷ operands.Reg s ∷ [] }

        go : (u : Bool) → s.undef ≡ u → item_of t G a (cond u x y) ≡ Silent [] given
        go true e =
            undef-item t G a x refl
            ∙ ap (λ ws. Silent [] ws)
            (undef-alike t H G (same-classes t f) (operands.Reg (destination_of d) ∷ [])
            ∙ (ap (undefined false) (append-nil (operand_lanes t H d))
            ∙ (sym (moved-undef false (operand_lanes t H d) (operand_lanes t H s) long)
            ∙ (λ k. moved false (operand_lanes t H d) (map (cond (sym e k) (λ l. Undef) FromLane) (operand_lanes t H s))))))
        go false e =
            known-item G a y effects.Copy known
            ∙ ap (λ ws. Silent [] ws)
            (copied-alike t H G (same-classes t f) (operands.Reg (record d { undef = false }) ∷ operands.Reg s ∷ [])
            ∙ ((λ k. given ++ undefined false (cleared H d d-def k)) ∙ append-nil given))

    copy-leaves : d.undef ≡ true → (a : Lane) → is_written given a ≡ true → Leaves (whole d) (settled (filled given a))
    copy-leaves e a w = at d.loc refl
      where
        at : (l : Loc) → d.loc ≡ l → Leaves (whole_lanes t H l) (settled (filled given a))
        at (Fixed q) g = refl-leaves (settled (filled given a))
          where
            refl-leaves : (s : Source) → Leaves [] s
            refl-leaves s = settled-none s
        at (Virtual v) g =
            apart-leaves v (numbers 0 (length (range_widths t H v))) s.undef (operand_lanes t H s)
            (λ u l m. lanes-apart t H v s.loc s.index (subst (λ q. same_loc s.loc q ≡ false) g (undef-alone d (operands.Reg s ∷ []) are d-def e s here u)) l m)
            (settled (filled given a)) (moved-among false (operand_lanes t H d) (use_sources t H s) a w)

    copy-ends : does ends_control t lowered_copy ≡ does ends_control t i
    copy-ends = go s.undef ∙ sym (ap (passes ends_control) known)
      where
        go : (u : Bool) → does ends_control t (cond u (record i { op = ops.Known implicit_def_op; operands = operands.Reg (destination_of d) ∷ [] }) (record i { operands = operands.Reg (record d { undef = false }) ∷ operands.Reg s ∷ [] })) ≡ false
        go true = ap (passes ends_control) (undef-effect t (record i { op = ops.Known implicit_def_op; operands = operands.Reg (destination_of d) ∷ [] }) refl)
        go false = ap (passes ends_control) known

    copy-goes : does is_terminator t lowered_copy ≡ does is_terminator t i
    copy-goes = go s.undef ∙ sym (ap (passes is_terminator) known)
      where
        go : (u : Bool) → does is_terminator t (cond u (record i { op = ops.Known implicit_def_op; operands = operands.Reg (destination_of d) ∷ [] }) (record i { operands = operands.Reg (record d { undef = false }) ∷ operands.Reg s ∷ [] })) ≡ false
        go true = ap (passes is_terminator) (undef-effect t (record i { op = ops.Known implicit_def_op; operands = operands.Reg (destination_of d) ∷ [] }) refl)
        go false = ap (passes is_terminator) known

    copy-keeps : InstrStep t f b c i
    copy-keeps = record {
      keeps = λ js. keeps d (operands.Reg s ∷ []) are is-def false given lowered_copy c copy-lowers js copy-own (copy-new (record b { instrs = js })) copy-leaves;
      ends = ends-with d (operands.Reg s ∷ []) are is-def false given lowered_copy c copy-lowers copy-ends copy-goes;
    }

  pub copy-step : effect_of t i ≡ Some effects.Copy → (c : ℕ) → InstrStep t f b c i
  copy-step known c = by i.operands refl (met t f i effects.Copy known r.one).3
    where
      by : (os : List Operand) → i.operands ≡ os → copy_fits os ≡ true → InstrStep t f b c i
      by (operands.Reg d ∷ operands.Reg s ∷ []) are e = copy-keeps known c d s are (first_of_both _ _ e) (second_of_both _ _ e)
      by os are e = absurd (cc)

  -- IMPLICIT_DEF, constants and addresses: a definition, and what is no register

  module _ (e : Effect) (known : effect_of t i ≡ Some e) (plain : (is_copy e ≡ false) × ((is_reg_sequence e || is_insert_subreg e) ≡ false)) (untied : list_any is_tied (roles_of t i) ≡ false) (c : ℕ) (d : RegOp) (rest : List Operand) (are : i.operands ≡ operands.Reg d ∷ rest) (is-def : is_definition d ≡ true) (others : list_all (λ o. not (is_undef o)) rest ≡ true) where
    abbrev clear : Instr
    clear = record i { operands = operands.Reg (record d { undef = false }) ∷ rest }

    clear-lowers : instr_lowered t f.classes c i ≡ undefined_first (operands.Reg d) ++ clear ∷ []
    clear-lowers =
        (λ k. flat_map undefined_first (are k) ++ form_lowered t f.classes c i (other-form t i e known plain.0 plain.1 k))
        ∙ ((λ k. (undefined_first (operands.Reg d) ++ none-before rest others k) ++ with_ties t f.classes (none-tied t i e known c untied k) i)
        ∙ ((λ k. append-nil (undefined_first (operands.Reg d)) k ++ record i { operands = map (retied_operand t f.classes []) (numbered 0 (explicit_bound (explicit_roles (roles_of t i)) (are k))) } ∷ [])
        ∙ ap (λ os. undefined_first (operands.Reg d) ++ record i { operands = os } ∷ []) (definition-operands t f.classes (explicit_roles (roles_of t i)) d rest is-def others)))

    clear-step : (early : Bool) (ws : Writes) → item_of t H b i ≡ Silent [] (ws ++ undefined early (undefined_lanes t H d)) → ((a : Block) → item_of t G a clear ≡ Silent [] ws) → (d.undef ≡ true → (a : Lane) → is_written ws a ≡ true → Leaves (whole d) (settled (filled ws a))) → InstrStep t f b c i
    clear-step early ws own new leaves = record {
      keeps = λ js. keeps d rest are is-def early ws clear c clear-lowers js own (new (record b { instrs = js })) leaves;
      ends = ends-with d rest are is-def early ws clear c clear-lowers refl refl;
    }

  pub undef-step : effect_of t i ≡ Some effects.ImplicitDef → list_any is_tied (roles_of t i) ≡ false → (c : ℕ) → InstrStep t f b c i
  undef-step known untied c = by i.operands refl (met t f i effects.ImplicitDef known r.one).3
    where
      by : (os : List Operand) → i.operands ≡ os → implicit_def_fits os ≡ true → InstrStep t f b c i
      by (operands.Reg d ∷ []) are e =
          let def : d.def ≡ true = first_of_both d.def (not d.implicit) e in
          clear-step effects.ImplicitDef known (refl, refl) untied c d [] are e refl false (undefined false (operand_lanes t H d))
          (known-item H b i effects.ImplicitDef known ∙ (ap (λ os. Silent [] (defined_undef t H os)) are ∙ ap (λ ws. Silent [] ws) (undefined-append false (operand_lanes t H d) (undefined_lanes t H d))))
          (λ a. known-item G a (record i { operands = operands.Reg (record d { undef = false }) ∷ [] }) effects.ImplicitDef known ∙ ap (λ ws. Silent [] ws) (undef-alike t H G (same-classes t f) (operands.Reg (record d { undef = false }) ∷ []) ∙ ((λ k. undefined false (operand_lanes t H d ++ cleared H d def k)) ∙ ap (undefined false) (append-nil (operand_lanes t H d)))))
          (λ u a w. subst (Leaves (whole d)) (sym (undefined-given false (operand_lanes t H d) a w)) refl)
      by os are e = absurd (cc)

  module _ (untied : list_any is_tied (roles_of t i) ≡ false) (c : ℕ) (d : RegOp) (o : Operand) (are : i.operands ≡ operands.Reg d ∷ o ∷ []) (is-def : is_definition d ≡ true) (other : not (is_undef o) ≡ true) where
    abbrev early : Bool
    early = is_early_clobber (roles_of t i)

    abbrev constants : Function → List Source
    constants g = constant_lanes t g d (constant_of (sum (operand_widths t g d)) o)

    abbrev constant_writes : Writes
    constant_writes = moved early (operand_lanes t H d) (constants H)

    constants-alike : constants G ≡ constants H
    unfolding bits_by
    constants-alike =
        bits-are t G d (constant_of (sum (operand_widths t G d)) o)
        ∙ ((λ k. bits_by (widths-alike t H G (same-classes t f) d.loc d.index k) (constant_of (sum (widths-alike t H G (same-classes t f) d.loc d.index k)) o)) ∙ sym (bits-are t H d (constant_of (sum (operand_widths t H d)) o)))

    def' : d.def ≡ true
    def' = first_of_both d.def (not d.implicit) is-def

    new-constant : given_constant t G early (operands.Reg (record d { undef = false }) ∷ o ∷ []) ≡ constant_writes
    new-constant = (λ k. moved early (lanes-alike t H G (same-classes t f) d.loc d.index k) (constants-alike k) ++ undefined early (cleared G d def' k)) ∙ append-nil constant_writes

    constant-leaves : (a : Lane) → is_written constant_writes a ≡ true → Leaves (whole d) (settled (filled constant_writes a))
    constant-leaves a w = constants-leave t H (whole d) d (constant_of (sum (operand_widths t H d)) o) (settled (filled constant_writes a)) (moved-among early (operand_lanes t H d) (constants H) a w)

    others : list_all (λ x. not (is_undef x)) (o ∷ []) ≡ true
    others = ap (λ y. y && true) other

    const-keeps : effect_of t i ≡ Some effects.Const → InstrStep t f b c i
    const-keeps known =
        clear-step effects.Const known (refl, refl) untied c d (o ∷ []) are is-def others early constant_writes
        (known-item H b i effects.Const known ∙ ap (λ os. Silent [] (given_constant t H early os)) are)
        (λ a. known-item G a (record i { operands = operands.Reg (record d { undef = false }) ∷ o ∷ [] }) effects.Const known ∙ ap (λ ws. Silent [] ws) new-constant)
        (λ u a w. constant-leaves a w)

    addr-keeps : effect_of t i ≡ Some effects.Addr → InstrStep t f b c i
    addr-keeps known =
        clear-step effects.Addr known (refl, refl) untied c d (o ∷ []) are is-def others early constant_writes
        (known-item H b i effects.Addr known ∙ ap (λ os. Silent [] (given_constant t H early os)) are)
        (λ a. known-item G a (record i { operands = operands.Reg (record d { undef = false }) ∷ o ∷ [] }) effects.Addr known ∙ ap (λ ws. Silent [] ws) new-constant)
        (λ u a w. constant-leaves a w)

  -- a definition, as its role says
  takes-definition : (o : Operand) → Takes is_definition_role o → (d : RegOp) × (o ≡ operands.Reg d) × (is_definition d ≡ true)
  takes-definition o z = by o z.0 z.1 z.2
    where
      by : (o : Operand) (q : Role) → is_definition_role q ≡ true → fits_role q o ≡ true → (d : RegOp) × (o ≡ operands.Reg d) × (is_definition d ≡ true)
      by (operands.Reg d) (roles.Def k) p e = (d, refl, e)
      by (operands.Reg d) (roles.Early k) p e = (d, refl, e)
      by o (roles.Def k) p e = absurd (cc)
      by o (roles.Early k) p e = absurd (cc)
      by o q p e = absurd (cc)

  takes-immediate : (o : Operand) → Takes is_immediate o → not (is_undef o) ≡ true
  takes-immediate o z = by o z.0 z.1 z.2
    where
      by : (o : Operand) (q : Role) → is_immediate q ≡ true → fits_role q o ≡ true → not (is_undef o) ≡ true
      by (operands.Reg d) roles.Imm p e = absurd (cc)
      by o roles.Imm p e = refl
      by o q p e = absurd (cc)

  takes-object : (o : Operand) → Takes is_frame_or_symbol o → not (is_undef o) ≡ true
  takes-object o z = by o z.0 z.1 z.2
    where
      by : (o : Operand) (q : Role) → is_frame_or_symbol q ≡ true → fits_role q o ≡ true → not (is_undef o) ≡ true
      by (operands.Reg d) roles.Frame p e = absurd (cc)
      by (operands.Reg d) roles.Sym p e = absurd (cc)
      by o roles.Frame p e = refl
      by o roles.Sym p e = refl
      by o q p e = absurd (cc)

  pub const-step : effect_of t i ≡ Some effects.Const → list_any is_tied (roles_of t i) ≡ false → (c : ℕ) → InstrStep t f b c i
  const-step known untied c = by i.operands refl (const-takes t f i r.one known)
    where
      by : (os : List Operand) → i.operands ≡ os → TakeAll (is_definition_role ∷ is_immediate ∷ []) os → InstrStep t f b c i
      by [] are z = absurd (z)
      by (x ∷ []) are z = absurd (z.1)
      by (x ∷ o ∷ y ∷ os) are z = absurd (z.1.1)
      by (x ∷ o ∷ []) are z = let d = takes-definition x z.0 in const-keeps untied c d.0 o (are ∙ ap (λ y. y ∷ o ∷ []) d.1) d.2 (takes-immediate o z.1.0) known

  pub addr-step : effect_of t i ≡ Some effects.Addr → list_any is_tied (roles_of t i) ≡ false → (c : ℕ) → InstrStep t f b c i
  addr-step known untied c = by i.operands refl (addr-takes t f i r.one known)
    where
      by : (os : List Operand) → i.operands ≡ os → TakeAll (is_definition_role ∷ is_frame_or_symbol ∷ []) os → InstrStep t f b c i
      by [] are z = absurd (z)
      by (x ∷ []) are z = absurd (z.1)
      by (x ∷ o ∷ y ∷ os) are z = absurd (z.1.1)
      by (x ∷ o ∷ []) are z = let d = takes-definition x z.0 in addr-keeps untied c d.0 o (are ∙ ap (λ y. y ∷ o ∷ []) d.1) d.2 (takes-object o z.1.0) known
