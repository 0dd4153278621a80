-- Copies, stores, reloads and IMPLICIT_DEFs that don't name the range stay as they are.
use Rattle.std.proofs.Common.{◌≡◌, inl, inr, ◌∷◌, ◌++◌, ◌∙◌, ◌&&◌, ℕ, Bool, true, false, cond, List, Some, None, length, map, refl, sym, ap, subst, []}
use Rattle.std.specs.Prelude.{option_map, sum}
use Rattle.target_base.specs.declared.types.Effect.{Effect}
use Rattle.target_base.specs.declared.types.Effect.TheVariants as effects
use Rattle.target_base.specs.declared.types.Target.{Target}
use Rattle.target_base.specs.Roles.{is_silent}
use Rattle.meaning.specs.Code.{Code, Counted, Item, Silent}
use Rattle.meaning.specs.Lanes.{Writes, filled}
use Rattle.meaning.specs.Live.{Among as Member, exits_of, is_slot, writes_of}
use Rattle.meaning.specs.declared.types.Fill.TheVariants.{Moved}
use Rattle.meaning.specs.declared.types.Lane.{Lane}
use Rattle.meaning.specs.declared.types.Lane.TheVariants.{SlotLane}
use Rattle.meaning.specs.declared.types.Source.{Source}
use Rattle.meaning.specs.declared.types.Source.TheVariants.{FromLane, Undef}
use Rattle.meaning.specs.declared.types.Write.{Write}
use Rattle.mir_func.specs.declared.func.Loc.{Loc}
use Rattle.mir_func.specs.declared.func.Loc.TheVariants.{Fixed, Virtual}
use Rattle.mir_func.specs.declared.func.RegOp.{RegOp}
use Rattle.mir_func.specs.declared.func.Operand.{Operand}
use Rattle.mir_func.specs.declared.func.Operand.TheVariants as operands
use Rattle.mir_func.specs.declared.func.Instr.{Instr}
use Rattle.mir_func.specs.declared.func.Block.{Block}
use Rattle.mir_func.specs.Value.{Function}
use Rattle.mir_func.specs.Binding.{does, effect_of, is_early_clobber, is_terminator, puts_together, roles_of}
use Rattle.mir_meaning.specs.Codes.{item_of, target_of, way, ways_out}
use Rattle.mir_meaning.specs.Items.{at_all_widths, constant_lanes, constant_of, copied, counted_writes, defined, defined_undef, given_constant, lanes_beside, moved, reloaded, rest_of, silent_reads, silent_writes, spilled as store_given, undefined, values, widths_once}
use Rattle.mir_meaning.specs.Registers.{operand_lanes, operand_widths, slot_lane_numbers, undefined_lanes, use_sources, whole_lanes}
use Rattle.instr_effects.proofs.Members.{either-elim, map-of, member-none}
use Rattle.lowering_laws.proofs.Traced.{filled-left, filled-right, is_written}
use Rattle.spiller.specs.Setting.{Spilling}
use Rattle.spiller.specs.Spilled.{spilled}
use Rattle.spill_laws.specs.Standing.{IsSite}
use Rattle.spill_laws.proofs.SlotWrites.{moved-lane, undefined-lane, undefined-written, write-of, written-right}
use Rattle.spill_laws.proofs.SpillItems.{item-known, lane-slotless}
use Rattle.spill_laws.proofs.Standing.{unwritten as not-wrote}
use Rattle.clear_laws.proofs.PlaceBounds.{PlainLane, StaysBeside, Wrote, slot-same}
use Rattle.clear_laws.proofs.PlainItems.{Strange, strange-read, strange-write}
use Rattle.clear_laws.proofs.PlacesKept.{C, D, R}
use Rattle.clear_laws.proofs.SilentLists.{all-widths-in, all-widths-of, moved-out, undefined-in}
use Rattle.clear_laws.proofs.SlotMovePlaces.{slots-of}
use Rattle.clear_laws.proofs.SpillPoints.{is-stored, is-wide}
use Rattle.lowering_laws.proofs.Classes.{AreNamed}

-- a move between registers, to a slot, or from one, or of a constant
abbrev pub moves_lanes : Effect → Type 0
moves_lanes effects.Copy = Unit {0}
moves_lanes effects.ImplicitDef = Unit {0}
moves_lanes effects.Spill = Unit {0}
moves_lanes effects.Reload = Unit {0}
moves_lanes effects.Const = Unit {0}
moves_lanes effects.Addr = Unit {0}
moves_lanes e = ⊥

-- Writes of lanes of a slot are at all widths at which stores write, and give them lanes of registers.
pub record IsSlotted (t : Target) (slot : ℕ) (ws : Writes) : Type 0 where
  pub slots : (k u w : ℕ) → Member w (widths_once [] t.units) → Wrote ws (SlotLane slot k u) → Wrote ws (SlotLane slot k w)
  pub registers : (k w : ℕ) (l : Lane) → Wrote ws (SlotLane slot k w) → filled ws (SlotLane slot k w) ≡ Moved (FromLane l) → is_slot l ≡ false

pub slotless-slotted : (t : Target) (slot : ℕ) (ws : Writes) → ((w : Write) → Member w ws → is_slot w.lane ≡ false) → IsSlotted t slot ws
slotless-slotted t slot ws h = record {
  slots = λ k u w m z. absurd (no k u z);
  registers = λ k w l z e. absurd (no k w z);
}
  where
    no : (k w : ℕ) → Wrote ws (SlotLane slot k w) → ⊥
    no k w z = let a = h z.0 z.1 in let b : is_slot z.0.lane ≡ true = ap is_slot z.2 in cc

module _ (t : Target) (f : Function) where
  located-slotless : (o : RegOp) (a : Lane) → Member a (operand_lanes t f o) → is_slot a ≡ false
  located-slotless o a m = lane-slotless t f o.loc o.index a m

  undefined-slotless : (o : RegOp) (a : Lane) → Member a (undefined_lanes t f o) → is_slot a ≡ false
  undefined-slotless o a m = go (o.def && o.undef) m
    where
      whole : (l : Loc) → Member a (whole_lanes t f l) → is_slot a ≡ false
      whole (Virtual w) m = lane-slotless t f (Virtual w) None a m
      whole (Fixed r) m = absurd (member-none a m)

      go : (b : Bool) → Member a (cond b (whole_lanes t f o.loc) []) → is_slot a ≡ false
      go true m = whole o.loc m
      go false m = absurd (member-none a m)

  defined-slotless : (early : Bool) (d : RegOp) (ss : List Source) (w : Write) → Member w (defined t f early d ss) → is_slot w.lane ≡ false
  defined-slotless early d ss w m =
      either-elim w (moved early (operand_lanes t f d) ss) (undefined early (undefined_lanes t f d))
      (λ k. located-slotless d w.lane (moved-lane early (operand_lanes t f d) ss w k))
      (λ k. undefined-slotless d w.lane (undefined-lane early (undefined_lanes t f d) w k).0) m

  copied-slotless : (os : List Operand) (w : Write) → Member w (copied t f os) → is_slot w.lane ≡ false
  copied-slotless (operands.Reg d ∷ operands.Reg s ∷ os) w m = defined-slotless false d (use_sources t f s) w m
  copied-slotless os w m = absurd (member-none w m)

  undefs-slotless : (os : List Operand) (w : Write) → Member w (defined_undef t f os) → is_slot w.lane ≡ false
  undefs-slotless (operands.Reg d ∷ os) w m = either-elim w.lane (operand_lanes t f d) (undefined_lanes t f d) (located-slotless d w.lane) (undefined-slotless d w.lane) (undefined-lane false (operand_lanes t f d ++ undefined_lanes t f d) w m).0
  undefs-slotless os w m = absurd (member-none w m)

  reloads-slotless : (early : Bool) (os : List Operand) (w : Write) → Member w (reloaded t f early os) → is_slot w.lane ≡ false
  reloads-slotless early (operands.Reg o ∷ operands.Stack s ∷ k ∷ os) w m = defined-slotless early o (map FromLane (lanes_beside t f o s k)) w m
  reloads-slotless early os w m = absurd (member-none w m)

  constants-slotless : (early : Bool) (os : List Operand) (w : Write) → Member w (given_constant t f early os) → is_slot w.lane ≡ false
  constants-slotless early (operands.Reg d ∷ o ∷ os) w m = defined-slotless early d (constant_lanes t f d (constant_of (sum (operand_widths t f d)) o)) w m
  constants-slotless early os w m = absurd (member-none w m)

  -- a store
  module _ (slot : ℕ) (o : RegOp) (m : ℕ) (x : Operand) where
    abbrev js : List ℕ
    js = slot_lane_numbers t (operand_widths t f o) x

    abbrev beside : Writes
    beside = moved false (lanes_beside t f o m x) (use_sources t f o)

    abbrev around : Writes
    around = undefined false (at_all_widths t m (slot_lane_numbers t (operand_widths t f o) x))

    named-lane : (a : Lane) → Wrote (beside ++ around) a → (k : ℕ) × (w : ℕ) × Member k js × (a ≡ SlotLane m k w)
    named-lane a z =
        either-elim z.0 beside around
        (λ n. let y = slots-of m js (operand_widths t f o) z.0.lane (moved-lane false (lanes_beside t f o m x) (use_sources t f o) z.0 n) in (y.0, y.1, y.2, sym z.2 ∙ y.3))
        (λ n. let y = all-widths-of t m js z.0.lane (undefined-lane false (at_all_widths t m js) z.0 n).0 in (y.0, y.1, y.2, sym z.2 ∙ y.4)) z.1

    store-slotted : IsSlotted t slot (beside ++ around)
    store-slotted = record {
      slots = λ k u w wide z. (let y = named-lane (SlotLane slot k u) z in
          let q = slot-same slot m k y.0 u y.1 y.3 in
          let inside = all-widths-in t m js y.0 w y.2 wide in
          subst (Wrote (beside ++ around)) (λ i. SlotLane (sym q.0 i) (sym q.1 i) w) (write-of (beside ++ around) (SlotLane m y.0 w) (written-right beside around (SlotLane m y.0 w) (undefined-written false (at_all_widths t m js) (SlotLane m y.0 w) inside))));
      registers = λ k w l z e. from-register (SlotLane slot k w) l z e (is_written beside (SlotLane slot k w)) refl;
    }
      where
        source-slotless : (l : Lane) → Member (FromLane l) (use_sources t f o) → is_slot l ≡ false
        source-slotless l n = go o.undef n
          where
            inner : (a b : Lane) → FromLane a ≡ FromLane b → a ≡ b
            inner a b e = cc

            go : (b : Bool) → Member (FromLane l) (map (cond b (λ a. Undef) FromLane) (operand_lanes t f o)) → is_slot l ≡ false
            go true n = let y = map-of (λ (a : Lane). Undef) (FromLane l) (operand_lanes t f o) n in absurd (let q : FromLane l ≡ Undef = y.2 in cc)
            go false n = let y = map-of FromLane (FromLane l) (operand_lanes t f o) n in ap is_slot (inner l y.0 y.2) ∙ located-slotless o y.0 y.1

        from-register : (a l : Lane) → Wrote (beside ++ around) a → filled (beside ++ around) a ≡ Moved (FromLane l) → (b : Bool) → is_written beside a ≡ b → is_slot l ≡ false
        from-register a l z e true g = source-slotless l (moved-out false (lanes_beside t f o m x) (use_sources t f o) a l g (sym (filled-left beside around a g) ∙ e))
        from-register a l z e false g = either-elim z.0 beside around
            (λ n. absurd (let q = not-wrote beside a g z.0 n z.2 in q))
            (λ n. absurd (let inside = subst (λ b. Member b (at_all_widths t m js)) z.2 (undefined-lane false (at_all_widths t m js) z.0 n).0 in let q : Moved Undef ≡ Moved (FromLane l) = sym (undefined-in false (at_all_widths t m js) a inside) ∙ (sym (filled-right beside around a g) ∙ e) in cc)) z.1

  stores-slotted : (slot : ℕ) (os : List Operand) → IsSlotted t slot (store_given t f os)
  stores-slotted slot (operands.Reg o ∷ operands.Stack m ∷ x ∷ os) = store-slotted slot o m x
  stores-slotted slot os = slotless-slotted t slot [] (λ w m. absurd (member-none w m))

  pub moves-slotted : (slot : ℕ) (e : Effect) (early : Bool) (os : List Operand) → moves_lanes e → IsSlotted t slot (silent_writes t f e early os)
  moves-slotted slot effects.Copy early os h = slotless-slotted t slot (copied t f os) (copied-slotless os)
  moves-slotted slot effects.ImplicitDef early os h = slotless-slotted t slot (defined_undef t f os) (undefs-slotless os)
  moves-slotted slot effects.Spill early os h = stores-slotted slot os
  moves-slotted slot effects.Reload early os h = slotless-slotted t slot (reloaded t f early os) (reloads-slotless early os)
  moves-slotted slot effects.Const early os h = slotless-slotted t slot (given_constant t f early os) (constants-slotless early os)
  moves-slotted slot effects.Addr early os h = slotless-slotted t slot (given_constant t f early os) (constants-slotless early os)
  moves-slotted slot e early os h = absurd (h)

pub moves-silent : (e : Effect) → moves_lanes e → is_silent e ≡ true
moves-silent effects.Copy h = refl
moves-silent effects.ImplicitDef h = refl
moves-silent effects.Spill h = refl
moves-silent effects.Reload h = refl
moves-silent effects.Const h = refl
moves-silent effects.Addr h = refl
moves-silent e h = absurd (h)

-- an instruction that moves lanes, and names the range nowhere, stays
module _ (s : Spilling) (b c : Block) (i : Instr) (p : Code) (d : ℕ) (site : IsSite s d (item_of s.target s.func b i) p) (e : Effect) (known : effect_of s.target i ≡ Some e) (moves : moves_lanes e) (single : does puts_together s.target i ≡ false) (named : AreNamed s.func i.operands) (strange : Strange s.target s.func s.range i.operands) where
  abbrev x : Item
  x = item_of s.target s.func b i

  item-is : x ≡ Silent (silent_reads s.target s.func e i.operands) (silent_writes s.target s.func e (is_early_clobber (roles_of s.target i)) i.operands)
  item-is = item-known s.target s.func b i e known ∙ ap (λ q. cond q (Silent (silent_reads s.target s.func e i.operands) (silent_writes s.target s.func e (is_early_clobber (roles_of s.target i)) i.operands)) (Counted (rest_of s.target s.func e i) (map (λ v. v.0) (values s.target s.func e i)) (counted_writes s.target s.func e i) (option_map (way s.target s.func b.number) (target_of i.operands)) (cond (is_terminator e) (ways_out s.target s.func b) []))) (moves-silent e moves)

  no-exits : exits_of x ≡ []
  no-exits = ap exits_of item-is

  slotted : IsSlotted s.target s.slot (writes_of x)
  slotted = subst (λ y. IsSlotted s.target s.slot (writes_of y)) (sym item-is) (moves-slotted s.target s.func s.slot e (is_early_clobber (roles_of s.target i)) i.operands moves)

  pub move-stays : StaysBeside (R s.target s.func (spilled s) s.range s.slot (is-wide s) (is-stored s)) (C s.target s.func (spilled s) s.range s.slot (is-wide s) (is-stored s)) (D s.target s.func (spilled s) s.range s.slot (is-wide s) (is-stored s)) (length s.func.classes) s.range s.slot (is-wide s) (is-stored s) x p
  move-stays = record {
    reads = λ ss l m n. strange-read s.target s.func s.range b i single named strange s.slot ss l m n;
    moves = λ w l m h. (strange-write s.target s.func s.range b i single named strange s.slot w m).1 l h;
    writes = λ l z. subst (PlainLane (length s.func.classes) s.range s.slot) z.2 (strange-write s.target s.func s.range b i single named strange s.slot z.0 z.1).0;
    bare = λ w m. absurd (member-none w (subst (Member w) no-exits m));
    apart = λ k w la wr. site.apart k k w (inl la) (inr wr);
    slots = λ k u w wu ww z. slotted.slots k u w ww z;
    registers = slotted.registers;
    leaves = λ w k u m z. member-none w (subst (Member w) no-exits m);
  }
