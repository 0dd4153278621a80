-- Tinies of definitions of the range: they are stored where a lane is live behind, and loaded for uses that are tied to them.
use Rattle.std.proofs.Common.{◌≡◌, ◌⊎◌, inl, inr, ◌+◌, ◌∷◌, ◌++◌, ◌∙◌, ◌&&◌, ℕ, Bool, true, false, cond, List, Option, Some, None, length, map, refl, sym, ap, subst, arith, []}
use Rattle.std.specs.Prelude.{filter_map}
use Rattle.target_base.specs.declared.types.Role.{Role}
use Rattle.target_base.specs.declared.types.Target.{Target}
use Rattle.meaning.specs.Code.{Code, Item, Silent}
use Rattle.meaning.specs.Lanes.{Writes, filled}
use Rattle.meaning.specs.Live.{Among as Member, here as first, LiveAfter}
use Rattle.meaning.specs.declared.types.Fill.TheVariants.{Moved}
use Rattle.meaning.specs.declared.types.Lane.{Lane}
use Rattle.meaning.specs.declared.types.Lane.TheVariants.{SlotLane, VirtualLane}
use Rattle.meaning.specs.declared.types.Source.TheVariants.{FromLane}
use Rattle.laws.proofs.Flow.{lane-inj}
use Rattle.mir_func.specs.declared.func.Loc.TheVariants.{Virtual}
use Rattle.mir_func.specs.declared.func.RegOp.{RegOp}
use Rattle.mir_func.specs.declared.func.Operand.{Operand}
use Rattle.mir_func.specs.declared.func.Operand.TheVariants as operands
use Rattle.mir_func.specs.declared.func.Instr.{Instr}
use Rattle.mir_func.specs.declared.func.Block.{Block}
use Rattle.mir_func.specs.Value.{Function}
use Rattle.mir_func.specs.Binding.{operand_class}
use Rattle.mir_meaning.specs.Codes.{item_of}
use Rattle.mir_meaning.specs.Items.{at_all_widths, moved, undefined}
use Rattle.mir_meaning.specs.Points.{AtFirst}
use Rattle.mir_meaning.specs.Registers.{is_reserved, numbers}
use Rattle.instr_effects.proofs.Members.{flat-of, map-of, member-elim, member-none}
use Rattle.live_laws.proofs.Effects.Lists.{any-in}
use Rattle.live_laws.proofs.Effects.Moving.{some-same}
use Rattle.lowering_laws.proofs.Seated.{told-of}
use Rattle.lowering_laws.proofs.Traced.{filled-free, filled-left, filled-right, is_written, lanes_by, written-append}
use Rattle.spiller.specs.Rematerialised.{ways_read}
use Rattle.spiller.specs.Setting.{Spilling, in_own_slot, is_live_behind, is_own, own_lanes, plain_use, store}
use Rattle.spiller.specs.Spilled.{OwnDefinition, definitions_in, numbered_operands, own_definition, spilled, stored}
use Rattle.spill_laws.specs.Laws.{HasTinies}
use Rattle.spill_laws.specs.Seats.{Save, save_writes}
use Rattle.spill_laws.specs.Standing.{IsSetting, code_before, code_from}
use Rattle.spill_laws.proofs.Beside.{definition-tiny}
use Rattle.spill_laws.proofs.Ranges.{numbered-of}
use Rattle.spill_laws.proofs.SlotPlaces.{width}
use Rattle.spill_laws.proofs.SlotWrites.{slot_by, stored-lane, undefined-lane, undefined-written, write-of, written-right}
use Rattle.spill_laws.proofs.Standing.{unwritten as not-wrote}
use Rattle.spill_laws.proofs.TinyMoves.{tiny_moves}
use Rattle.spill_laws.proofs.TinySeats.{low-number, place_seats}
use Rattle.clear_laws.proofs.PlaceBounds.{Wrote}
use Rattle.clear_laws.proofs.SilentLists.{all-widths-in, moved-out, undefined-in}
use Rattle.clear_laws.proofs.SpillPoints.{is-wide}
use Rattle.clear_laws.proofs.TinyPlaces.{HasWidths, IsOwn, widths-by}

source-lane : (a b : Lane) → FromLane a ≡ FromLane b → a ≡ b
source-lane a b e = cc

-- what a save writes, and from what
module _ (s : Spilling) (y : Save) where
  abbrev tinies : List Lane
  tinies = lanes_by y.tiny (numbers 0 (length y.lanes))

  abbrev onto : Writes
  onto = moved false (slot_by s.slot (width s) y.lanes) (map FromLane tinies)

  abbrev around : Writes
  around = undefined false (at_all_widths s.target s.slot y.lanes)

  pub save-lane : (a : Lane) → Wrote (onto ++ around) a → (k : ℕ) × (u : ℕ) × Member k y.lanes × (a ≡ SlotLane s.slot k u)
  save-lane a z = let w = stored-lane s.slot (width s) s.target y.lanes (map FromLane tinies) z.0 z.1 in (w.0, w.1, w.2, sym z.2 ∙ w.3)

  pub save-all : (k u : ℕ) → Member k y.lanes → is-wide s u → Wrote (onto ++ around) (SlotLane s.slot k u)
  save-all k u m h = write-of (onto ++ around) (SlotLane s.slot k u) (written-right onto around (SlotLane s.slot k u) (undefined-written false (at_all_widths s.target s.slot y.lanes) (SlotLane s.slot k u) (all-widths-in s.target s.slot y.lanes k u m h)))

  pub save-given : (a b : Lane) → filled (onto ++ around) a ≡ Moved (FromLane b) → ((b ≡ a) × (Wrote (onto ++ around) a → ⊥)) ⊎ Member b tinies
  save-given a b h = go (is_written onto a) (is_written around a) refl refl
    where
      go : (x w : Bool) → is_written onto a ≡ x → is_written around a ≡ w → ((b ≡ a) × (Wrote (onto ++ around) a → ⊥)) ⊎ Member b tinies
      go true w e g =
          let v = map-of FromLane (FromLane b) tinies (moved-out false (slot_by s.slot (width s) y.lanes) (map FromLane tinies) a b e (sym (filled-left onto around a e) ∙ h)) in
          inr (subst (λ x. Member x tinies) (sym (source-lane b v.0 v.2)) v.1)
      go false true e g =
          let v = write-of around a g in
          let m = subst (λ x. Member x (at_all_widths s.target s.slot y.lanes)) v.2 (undefined-lane false (at_all_widths s.target s.slot y.lanes) v.0 v.1).0 in
          absurd (let q = sym (undefined-in false (at_all_widths s.target s.slot y.lanes) a m) ∙ (sym (filled-right onto around a e) ∙ h) in cc)
      go false false e g =
          let w = written-append onto around a e g in
          inl (lane-inj b a (sym h ∙ filled-free (onto ++ around) a w), λ z. not-wrote (onto ++ around) a w z.0 z.1 z.2)

module _ (s : Spilling) (c : ℕ) (p : List Instr) (h : HasTinies s (spilled s) c p) where
  abbrev t : Target
  t = s.target

  abbrev f : Function
  f = s.func

  abbrev g : Function
  g = spilled s

  -- the operand that a definition is
  pub record DefinedBy (w : OwnDefinition) : Type 0 where
    pub instr : Instr
    pub inside : Member instr p
    pub k : ℕ
    pub q : Option Role
    pub operand : RegOp
    pub own : IsOwn s g c p h instr inside k q operand
    pub def : operand.def ≡ true
    pub by : w.by ≡ instr
    pub number : w.number ≡ k
    pub index : w.index ≡ operand.index
    pub class : w.class ≡ operand_class t f q operand

  pub defined-by : (w : OwnDefinition) → Member w (definitions_in s p) → DefinedBy w
  defined-by w m =
      let b = flat-of (λ i. filter_map (own_definition s i) (numbered_operands s.target i)) w p m in
      let x = told-of (own_definition s b.0) w (numbered_operands s.target b.0) b.2 in
      go b.0 b.1 x.0.0 x.0.1.0 x.0.1.1 x.1 x.2
    where
      go : (i : Instr) (mi : Member i p) (k : ℕ) (q : Option Role) (x : Operand) → Member (k, (q, x)) (numbered_operands s.target i) → own_definition s i (k, (q, x)) ≡ Some w → DefinedBy w
      go i mi k q (operands.Reg o) n e = at (is_own s o) o.def refl refl e
        where
          at : (a d : Bool) → is_own s o ≡ a → o.def ≡ d → cond (a && d) (Some (record { by = i; number = k; index = o.index; class = operand_class s.target s.func q o })) None ≡ Some w → DefinedBy w
          at true true a d e =
              let is = some-same (record { by = i; number = k; index = o.index; class = operand_class s.target s.func q o }) w e in
              record {
                instr = i;
                inside = mi;
                k = k;
                q = q;
                operand = o;
                own = record { among = n; own = a };
                def = d;
                by = ap (λ (y : OwnDefinition). y.by) (sym is);
                number = ap (λ (y : OwnDefinition). y.number) (sym is);
                index = ap (λ (y : OwnDefinition). y.index) (sym is);
                class = ap (λ (y : OwnDefinition). y.class) (sym is);
              }
          at true false a d e = absurd (cc)
          at false d a b e = absurd (cc)
      go i mi k q x n e = absurd (cc)

  pub definition-widths : (n : ℕ) (w : OwnDefinition) → Member (n, w) (place_seats s g c p h).definitions → (x : DefinedBy w) → HasWidths s g c p h x.instr x.inside x.k x.q x.operand x.own n
  definition-widths n w m x =
      let low = low-number (c + length (ways_read s p)) (definitions_in s p) (n, w) m in
      widths-by s g c p h x.instr x.inside x.k x.q x.operand x.own n w.class (definition-tiny s g c p h.tinies (n, w) m) x.class (omega (arith, low))

  module _ (z : IsSetting s (spilled s)) (d : Block) where
    -- the store of a tiny is a save
    abbrev pub save-of : ℕ → OwnDefinition → Save
    save-of n w = record { tiny = n; lanes = own_lanes s w.index }

    pub stored-item : (n : ℕ) (w : OwnDefinition) → Member (n, w) (place_seats s g c p h).definitions → (j : Instr) → Member j (stored s (n, w)) → item_of t g d j ≡ Silent [] (save_writes s (save-of n w))
    stored-item n w m j mj = go (is_live_behind s w.by w.index) mj
      where
        x : DefinedBy w
        x = defined-by w (numbered-of (c + length (ways_read s p)) (definitions_in s p) (n, w) m)

        y : HasWidths s g c p h x.instr x.inside x.k x.q x.operand x.own n
        y = definition-widths n w m x

        class : w.class ≡ Some y.class
        class = sym (definition-tiny s g c p h.tinies (n, w) m) ∙ y.is

        go : (b : Bool) → Member j (cond b (store s.target w.class (plain_use (Virtual n) None) (in_own_slot s w.index) ∷ []) []) → item_of t g d j ≡ Silent [] (save_writes s (save-of n w))
        go true k =
            member-elim j (store s.target w.class (plain_use (Virtual n) None) (in_own_slot s w.index)) []
            (λ e. ap (item_of t g d) (e ∙ ap (λ q. store s.target q (plain_use (Virtual n) None) (in_own_slot s w.index)) class) ∙ (tiny_moves s g d n y.class w.index y.known (y.wide ∙ ap (λ q. map (width s) (own_lanes s q)) (sym x.index))).0)
            (λ q. absurd (member-none j q)) k
        go false k = absurd (member-none j k)

    -- it stands there where a lane is live behind
    pub stored-there : (n : ℕ) (w : OwnDefinition) (j : ℕ) (x : Item) (q : Code) → code_from s w.by.id ≡ x ∷ q → Member j (own_lanes s w.index) → LiveAfter (is_reserved t) (code_before s) x q (VirtualLane s.range j)
        → Member (store s.target w.class (plain_use (Virtual n) None) (in_own_slot s w.index)) (stored s (n, w))
    stored-there n w j x q from m live =
        let told : s.facts.live_behind w.by.id j ≡ true = (z.facts.live (w.by.id, j)).1 (subst (AtFirst (λ i r. LiveAfter (is_reserved t) (code_before s) i r (VirtualLane s.range j))) (sym from) live) in
        let any : is_live_behind s w.by w.index ≡ true = any-in (s.facts.live_behind w.by.id) j (own_lanes s w.index) m told in
        subst (λ b. Member (store s.target w.class (plain_use (Virtual n) None) (in_own_slot s w.index)) (cond b (store s.target w.class (plain_use (Virtual n) None) (in_own_slot s w.index) ∷ []) [])) (sym any) first
