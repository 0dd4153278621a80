-- A slot that no instruction names is apart from every range.
use Rattle.std.proofs.Common.{◌≡◌, ◌⊎◌, inl, inr, ◌∷◌, ◌++◌, ◌∙◌, ◌&&◌, ◌+◌, not, ℕ, zero, suc, Bool, true, false, cond, List, Option, Some, None, filter, map, refl, sym, ap, subst, eq-eqb, []}
use Rattle.std.specs.Prelude.{ℤ, filter_map, nat_abs, nat_eq, option_map, sum}
use Rattle.target_base.specs.declared.types.Effect.{Effect}
use Rattle.target_base.specs.declared.types.Effect.TheVariants as effects
use Rattle.target_base.specs.declared.types.Role.{Role}
use Rattle.target_base.specs.declared.types.Target.{Target}
use Rattle.target_base.specs.Roles.{is_silent}
use Rattle.meaning.specs.Code.{BlockEnd, BlockStart, Code, Counted, Edge, Item, Silent, found}
use Rattle.meaning.specs.Environment.{constant_source, residue}
use Rattle.meaning.specs.Perform.{condition_lane}
use Rattle.meaning.specs.Lanes.{Writes, filled, settled}
use Rattle.meaning.specs.Live.{Among as Member, here as first, there as later, Feeds, Live, LiveAfter, exits_of, is_slot, reads_of, writes_of}
use Rattle.meaning.specs.declared.types.Constant.{Constant}
use Rattle.meaning.specs.declared.types.Constant.TheVariants.{FixedStackAddress, Immediate, StackAddress, SymbolAddress}
use Rattle.meaning.specs.declared.types.Fill.TheVariants.{Moved}
use Rattle.meaning.specs.declared.types.Lane.{Lane}
use Rattle.meaning.specs.declared.types.Lane.TheVariants.{SlotLane, UnitLane, VirtualLane}
use Rattle.meaning.specs.declared.types.Source.{Source}
use Rattle.meaning.specs.declared.types.Source.TheVariants.{FromLane, Undef}
use Rattle.meaning.specs.declared.types.Write.{Write}
use Rattle.laws.proofs.Flow.{filled-from}
use Rattle.mir_func.specs.declared.func.Loc.{Loc}
use Rattle.mir_func.specs.declared.func.Loc.TheVariants.{Fixed, Virtual}
use Rattle.mir_func.specs.declared.func.RegOp.{RegOp}
use Rattle.mir_func.specs.declared.func.Operand.{Operand}
use Rattle.mir_func.specs.declared.func.Operand.TheVariants as operands
use Rattle.mir_func.specs.declared.func.Instr.{Instr}
use Rattle.mir_func.specs.declared.func.Block.{Block}
use Rattle.mir_func.specs.Value.{Function}
use Rattle.mir_func.specs.Binding.{definitions, effect_of, explicit_operands, immediate_of, implicit_registers, implicit_roles, is_early_clobber, is_terminator, puts_together, registers, roles_of}
use Rattle.mir_meaning.specs.Codes.{item_of, target_of, way, ways_out}
use Rattle.mir_meaning.specs.Items.{Value, at_all_widths, computes_with_immediates, constant_bits, constant_lanes, constant_of, copied, counted_writes, defined, defined_undef, first_width, flag_value, further_writes, given_constant, has_base, implicit_values, is_flags, lanes_beside, moved, pick, reloaded, rest_of, results, silent_reads, silent_writes, spilled, undefined, use_value, value_of, values, widths_once}
use Rattle.mir_meaning.specs.Registers.{is_reserved, operand_lanes, operand_widths, slot_lane_numbers, slot_lanes, undefined_lanes, use_sources, whole_lanes}
use Rattle.instr_effects.proofs.Members.{either-elim, flat-of, map-of, member-elim, member-none}
use Rattle.lowering_laws.proofs.Seated.{told-of}
use Rattle.lowering_laws.proofs.Traced.{filled-free, is_written, written-append}
use Rattle.lowering_laws.proofs.Unmoved.{counted-moves, moves-none}
use Rattle.spiller.specs.Spilled.{is_slot as is_that_slot}
use Rattle.spill_laws.proofs.SeatPlaces.{place-none}
use Rattle.spill_laws.proofs.SeatedPlaces.{further-slotless, results-missed}
use Rattle.spill_laws.proofs.SlotWrites.{moved-lane, moved-source, undefined-lane}
use Rattle.spill_laws.proofs.SpillItems.{item-known, lane-slotless}
use Rattle.spill_laws.proofs.Standing.{unwritten}

module _ (t : Target) (f : Function) (n : ℕ) where
  -- the lane isn't of the slot
  abbrev pub Other : Lane → Type 0
  Other l = (j w : ℕ) → l ≡ SlotLane n j w → ⊥

  no-slot : (l : Lane) → is_slot l ≡ false → Other l
  no-slot l e j w q = let a : is_slot l ≡ true = ap is_slot q in cc

  register-other : (o : RegOp) (l : Lane) → Member l (operand_lanes t f o) → Other l
  register-other o l m = no-slot l (lane-slotless t f o.loc o.index l m)

  whole-other : (o : RegOp) (l : Lane) → Member l (undefined_lanes t f o) → Other l
  whole-other o l m = go (o.def && o.undef) m
    where
      by : (x : Loc) → Member l (whole_lanes t f x) → Other l
      by (Virtual v) k = no-slot l (lane-slotless t f (Virtual v) None l k)
      by (Fixed r) k = absurd (member-none l k)

      go : (y : Bool) → Member l (cond y (whole_lanes t f o.loc) []) → Other l
      go true k = by o.loc k
      go false k = absurd (member-none l k)

  -- a source that is none of its lanes
  abbrev OtherSource : Source → Type 0
  OtherSource q = (l : Lane) → q ≡ FromLane l → Other l

  lane-same : (a b : Lane) → FromLane a ≡ FromLane b → a ≡ b
  lane-same a b e = cc

  use-other : (o : RegOp) (q : Source) → Member q (use_sources t f o) → OtherSource q
  use-other o q m l e = go o.undef m
    where
      go : (y : Bool) → Member q (map (cond y (λ (x : Lane). Undef) FromLane) (operand_lanes t f o)) → Other l
      go true k = let z = map-of (λ (x : Lane). Undef) q (operand_lanes t f o) k in absurd (let u = z.2 in cc)
      go false k = let z = map-of FromLane q (operand_lanes t f o) k in subst Other (lane-same z.0 l (sym z.2 ∙ e)) (register-other o z.0 z.1)

  -- what a write does with the slot: nothing
  abbrev Plain : Writes → Type 0
  Plain ws = (w : Write) → Member w ws → Other w.lane × ((l : Lane) → w.fill ≡ Moved (FromLane l) → Other l)

  none-plain : Plain []
  none-plain w m = absurd (member-none w m)

  append-plain : (xs ys : Writes) → Plain xs → Plain ys → Plain (xs ++ ys)
  append-plain xs ys a b w m = either-elim w xs ys (a w) (b w) m

  moved-plain : (early : Bool) (ls : List Lane) (ss : List Source) → ((l : Lane) → Member l ls → Other l) → ((q : Source) → Member q ss → OtherSource q) → Plain (moved early ls ss)
  moved-plain early ls ss a b w m = (
    a w.lane (moved-lane early ls ss w m),
    (λ l e. let z = moved-source early ls ss w m in b z.0 z.1 l (source (z.0) (FromLane l) (sym z.2 ∙ e))),
  )
    where
      source : (x y : Source) → Moved x ≡ Moved y → x ≡ y
      source x y e = cc

  undefined-plain : (early : Bool) (ls : List Lane) → ((l : Lane) → Member l ls → Other l) → Plain (undefined early ls)
  undefined-plain early ls a w m = let z = undefined-lane early ls w m in (a w.lane z.0, (λ l e. absurd (let u : Moved Undef ≡ Moved (FromLane l) = sym z.1 ∙ e in cc)))

  defined-plain : (early : Bool) (d : RegOp) (ss : List Source) → ((q : Source) → Member q ss → OtherSource q) → Plain (defined t f early d ss)
  defined-plain early d ss b = append-plain (moved early (operand_lanes t f d) ss) (undefined early (undefined_lanes t f d)) (moved-plain early (operand_lanes t f d) ss (register-other d) b) (undefined-plain early (undefined_lanes t f d) (whole-other d))

  -- constants

  constant-other : (c : Constant) (low w : ℕ) → OtherSource (constant_source c low w)
  constant-other (Immediate x) low w l e = absurd (cc)
  constant-other c low w l e = absurd (cc)

  bits-other : (c : Constant) (low : ℕ) (ws : List ℕ) (q : Source) → Member q (constant_bits c low ws) → OtherSource q
  bits-other c low [] q m = absurd (member-none q m)
  bits-other c low (w ∷ ws) q m = member-elim q (constant_source c low w) (constant_bits c (low + w) ws) (λ e. subst OtherSource (sym e) (constant-other c low w)) (λ k. bits-other c (low + w) ws q k) m

  lanes-other : (d : RegOp) (c : Option Constant) (q : Source) → Member q (constant_lanes t f d c) → OtherSource q
  lanes-other d None q m = absurd (member-none q m)
  lanes-other d (Some c) q m = bits-other c 0 (operand_widths t f d) q m

  -- lanes of another slot

  beside-other : (s : ℕ) → nat_eq s n ≡ false → (ks ws : List ℕ) (l : Lane) → Member l (slot_lanes s ks ws) → Other l
  beside-other s e [] ws l m = absurd (member-none l m)
  beside-other s e (k ∷ ks) [] l m = absurd (member-none l m)
  beside-other s e (k ∷ ks) (w ∷ ws) l m = member-elim l (SlotLane s k w) (slot_lanes s ks ws) (λ q. far k w q) (λ q. beside-other s e ks ws l q) m
    where
      number : (a b c d x y : ℕ) → SlotLane a b c ≡ SlotLane d x y → a ≡ d
      number a b c d x y e = cc

      far : (k w : ℕ) → l ≡ SlotLane s k w → Other l
      far k w q j v u = let same : s ≡ n = number s k w n j v (sym q ∙ u) in let a : nat_eq s n ≡ true = eq-eqb s n same in cc

  widths-other : (s : ℕ) → nat_eq s n ≡ false → (ks : List ℕ) (l : Lane) → Member l (at_all_widths t s ks) → Other l
  widths-other s e ks l m j v u =
      let z = flat-of (λ k. map (λ w. SlotLane s k w) (widths_once [] t.units)) l ks m in
      let y = map-of (λ w. SlotLane s z.0 w) l (widths_once [] t.units) z.2 in
      let same : s ≡ n = number s z.0 y.0 n j v (sym y.2 ∙ u) in
      let a : nat_eq s n ≡ true = eq-eqb s n same in
      cc
    where
      number : (a b c d x y : ℕ) → SlotLane a b c ≡ SlotLane d x y → a ≡ d
      number a b c d x y e = cc

  -- an instruction that doesn't name the slot

  abbrev pub Unnamed : List Operand → Type 0
  Unnamed os = (o : Operand) → Member o os → is_that_slot n o ≡ false

  copied-plain : (os : List Operand) → Plain (copied t f os)
  copied-plain (operands.Reg d ∷ operands.Reg s ∷ os) = defined-plain false d (use_sources t f s) (use-other s)
  copied-plain os = none-plain

  undef-plain : (os : List Operand) → Plain (defined_undef t f os)
  undef-plain (operands.Reg d ∷ os) = undefined-plain false (operand_lanes t f d ++ undefined_lanes t f d) (λ l m. either-elim l (operand_lanes t f d) (undefined_lanes t f d) (register-other d l) (whole-other d l) m)
  undef-plain os = none-plain

  given-plain : (early : Bool) (os : List Operand) → Plain (given_constant t f early os)
  given-plain early (operands.Reg d ∷ o ∷ os) = let c = constant_of (sum (operand_widths t f d)) o in defined-plain early d (constant_lanes t f d c) (lanes-other d c)
  given-plain early os = none-plain

  spilled-plain : (os : List Operand) → Unnamed os → Plain (spilled t f os)
  spilled-plain (operands.Reg o ∷ operands.Stack s ∷ k ∷ os) un =
      let e : nat_eq s n ≡ false = un (operands.Stack s) (later first) in
      append-plain (moved false (lanes_beside t f o s k) (use_sources t f o)) (undefined false (at_all_widths t s (slot_lane_numbers t (operand_widths t f o) k)))
      (moved-plain false (lanes_beside t f o s k) (use_sources t f o) (beside-other s e (slot_lane_numbers t (operand_widths t f o) k) (operand_widths t f o)) (use-other o))
      (undefined-plain false (at_all_widths t s (slot_lane_numbers t (operand_widths t f o) k)) (widths-other s e (slot_lane_numbers t (operand_widths t f o) k)))
  spilled-plain os un = none-plain

  reloaded-plain : (early : Bool) (os : List Operand) → Unnamed os → Plain (reloaded t f early os)
  reloaded-plain early (operands.Reg o ∷ operands.Stack s ∷ k ∷ os) un =
      let e : nat_eq s n ≡ false = un (operands.Stack s) (later first) in
      defined-plain early o (map FromLane (lanes_beside t f o s k)) (λ q m l u.
      let z = map-of FromLane q (lanes_beside t f o s k) m in
      subst Other (lane-same z.0 l (sym z.2 ∙ u)) (beside-other s e (slot_lane_numbers t (operand_widths t f o) k) (operand_widths t f o) z.0 z.1))
  reloaded-plain early os un = none-plain

  silent-plain : (e : Effect) (early : Bool) (os : List Operand) → puts_together e ≡ false → Unnamed os → Plain (silent_writes t f e early os)
  silent-plain effects.Copy early os single un = copied-plain os
  silent-plain effects.ImplicitDef early os single un = undef-plain os
  silent-plain effects.RegSequence early os single un = absurd (cc)
  silent-plain effects.InsertSubreg early os single un = absurd (cc)
  silent-plain effects.Const early os single un = given-plain early os
  silent-plain effects.Addr early os single un = given-plain early os
  silent-plain effects.Spill early os single un = spilled-plain os un
  silent-plain effects.Reload early os single un = reloaded-plain early os un
  silent-plain e early os single un = none-plain

  silent-none : (x : Effect) (os : List Operand) → puts_together x ≡ false → silent_reads t f x os ≡ []
  silent-none effects.RegSequence os h = absurd (cc)
  silent-none effects.InsertSubreg os h = absurd (cc)
  silent-none x os h = refl

  -- what counted instructions read

  abbrev OtherValue : Value → Type 0
  OtherValue v = (q : Source) → Member q v.0 → OtherSource q

  use-value : (o : RegOp) → OtherValue (use_value t f o)
  use-value o q m = use-other o q m

  picked : (k : ℕ) (qs : List Source) (q : Source) → Member q (pick k qs) → Member q qs
  picked k [] q m = absurd (member-none q m)
  picked zero (x ∷ qs) q m = member-elim q x [] (λ e. subst (λ y. Member y (x ∷ qs)) (sym e) first) (λ k. absurd (member-none q k)) m
  picked (suc k) (x ∷ qs) q m = later (picked k qs q m)

  constant-value : (c : Constant) (w : ℕ) → OtherValue (constant_source c 0 w ∷ [], w ∷ [])
  constant-value c w q m = member-elim q (constant_source c 0 w) [] (λ e. subst OtherSource (sym e) (constant-other c 0 w)) (λ k. absurd (member-none q k)) m

  same-value : (a b : Value) → Some a ≡ Some b → a ≡ b
  same-value a b e = cc

  chosen-value : (y : Bool) (c : Constant) (w : ℕ) (v : Value) → cond y (Some (constant_source c 0 w ∷ [], w ∷ [])) None ≡ Some v → OtherValue v
  chosen-value true c w v h = subst OtherValue (same-value (constant_source c 0 w ∷ [], w ∷ []) v h) (constant-value c w)
  chosen-value false c w v h = absurd (cc)

  value-other : (e : Effect) (w : ℕ) (o : Operand) (v : Value) → value_of t f e w o ≡ Some v → OtherValue v
  value-other e w (operands.Reg o) v h = go o.def h
    where
      go : (y : Bool) → cond y None (Some (use_value t f o)) ≡ Some v → OtherValue v
      go true h = absurd (cc)
      go false h = subst OtherValue (same-value (use_value t f o) v h) (use-value o)
  value-other e w (operands.Imm x) v h = chosen-value (computes_with_immediates e) (Immediate (residue x w)) w v h
  value-other e w (operands.Stack x) v h = chosen-value (has_base e) (StackAddress x) 64 v h
  value-other e w (operands.FixedStack x) v h = chosen-value (has_base e) (FixedStackAddress x) 64 v h
  value-other e w (operands.Symbol x) v h = chosen-value (has_base e) (SymbolAddress x) 64 v h
  value-other e w o v h = absurd (cc)

  flag-other : (c : ℤ) (o : RegOp) → OtherValue (flag_value t f c o)
  flag-other c o q m = use-other o q (picked (condition_lane (nat_abs c)) (use_sources t f o) q m)

  implicit-other : (e : Effect) (c : ℤ) (rs : List Role) (os : List RegOp) (v : Value) → Member v (implicit_values t f e c rs os) → OtherValue v
  implicit-other effects.Jcc c rs os v m =
      either-elim v (map (flag_value t f c) (filter (is_flags rs) os)) (map (use_value t f) (filter (λ o. not (is_flags rs o)) os))
      (λ k. let z = map-of (flag_value t f c) v (filter (is_flags rs) os) k in subst OtherValue (sym z.2) (flag-other c z.0))
      (λ k. let z = map-of (use_value t f) v (filter (λ o. not (is_flags rs o)) os) k in subst OtherValue (sym z.2) (use-value z.0)) m
  implicit-other e c rs os v m = let z = map-of (use_value t f) v os m in subst OtherValue (sym z.2) (use-value z.0)

  values-other : (e : Effect) (i : Instr) (v : Value) → Member v (values t f e i) → OtherValue v
  values-other e i v m =
      let w = first_width t f (registers i.operands) in
      let uses = filter (λ (o : RegOp). not o.def) (implicit_registers i.operands) in
      either-elim v (filter_map (value_of t f e w) (explicit_operands i.operands)) (implicit_values t f e (immediate_of i.operands) (implicit_roles (roles_of t i)) uses)
      (λ k. let z = told-of (value_of t f e w) v (explicit_operands i.operands) k in value-other e w z.0 v z.2)
      (λ k. implicit-other e (immediate_of i.operands) (implicit_roles (roles_of t i)) uses v k) m

  -- an item that has nothing to do with the slot
  pub record Clean (x : Item) : Type 0 where
    pub reads : (ss : List Source) (l : Lane) → Member ss (reads_of x) → Member (FromLane l) ss → Other l
    pub writes : (w : Write) → Member w (writes_of x) → Other w.lane
    pub feeds : (l a : Lane) → Feeds x l a → Other a → Other l
    pub bare : (y : Edge) → Member y (exits_of x) → y.phis ≡ []

  plain-feeds : (ws : Writes) → Plain ws → (l a : Lane) → filled ws a ≡ Moved (FromLane l) → Other a → Other l
  plain-feeds ws h l a e other = go (filled-from ws a l e)
    where
      go : (l ≡ a) ⊎ ((w : Write) × Member w ws × (w.fill ≡ Moved (FromLane l))) → Other l
      go (inl q) = subst Other (sym q) other
      go (inr z) = (h z.0 z.1).1 l z.2

  module _ (b : Block) (i : Instr) (e : Effect) (known : effect_of t i ≡ Some e) (single : puts_together e ≡ false) (un : Unnamed i.operands) (bare : (y : Edge) → Member y (ways_out t f b) → y.phis ≡ []) where
    abbrev as-silent : Item
    as-silent = Silent (silent_reads t f e i.operands) (silent_writes t f e (is_early_clobber (roles_of t i)) i.operands)

    abbrev as-counted : Item
    as-counted = Counted (rest_of t f e i) (map (λ (v : Value). v.0) (values t f e i)) (counted_writes t f e i) (option_map (way t f b.number) (target_of i.operands)) (cond (is_terminator e) (ways_out t f b) [])

    silent-clean : Clean as-silent
    silent-clean =
        let h = silent-plain e (is_early_clobber (roles_of t i)) i.operands single un in
        record {
          reads = λ ss l m k. absurd (member-none ss (subst (Member ss) (silent-none e i.operands single) m));
          writes = λ w m. (h w m).0;
          feeds = plain-feeds (silent_writes t f e (is_early_clobber (roles_of t i)) i.operands) h;
          bare = λ y m. absurd (member-none y m);
        }

    counted-free : (j w : ℕ) → is_written (counted_writes t f e i) (SlotLane n j w) ≡ false
    counted-free j w =
        let ds = definitions (roles_of t i) i.operands in
        written-append (results t f 0 ds) (further_writes t f e i) (SlotLane n j w)
        (results-missed t f n j w (SlotLane n j w) 0 ds (λ d m. (
          place-none (operand_lanes t f d.1) (SlotLane n j w) (λ l k q. register-other d.1 l k j w q),
          place-none (undefined_lanes t f d.1) (SlotLane n j w) (λ l k q. whole-other d.1 l k j w q),
        )))
        (further-slotless t f n j w e i)

    counted-clean : Clean as-counted
    counted-clean = record {
      reads = λ ss l m k.
          let z = map-of (λ (v : Value). v.0) ss (values t f e i) m in
          values-other e i z.0 z.1 (FromLane l) (subst (Member (FromLane l)) z.2 k) l refl;
      writes = λ w m j v q. unwritten (counted_writes t f e i) (SlotLane n j v) (counted-free j v) w m q;
      feeds = λ l a q other. go l a q other (is_written (counted_writes t f e i) a) refl;
      bare = λ y m. outs (is_terminator e) y m;
    }
      where
        outs : (c : Bool) (y : Edge) → Member y (cond c (ways_out t f b) []) → y.phis ≡ []
        outs true y m = bare y m
        outs false y m = absurd (member-none y m)

        go : (l a : Lane) → filled (counted_writes t f e i) a ≡ Moved (FromLane l) → Other a → (c : Bool) → is_written (counted_writes t f e i) a ≡ c → Other l
        go l a q other true u = absurd (let z : FromLane l ≡ Undef = sym (ap settled q) ∙ moves-none (counted_writes t f e i) (counted-moves t f e i) a u in cc)
        go l a q other false u = subst Other (same a l (sym (filled-free (counted_writes t f e i) a u) ∙ q)) other
          where
            same : (x y : Lane) → Moved (FromLane x) ≡ Moved (FromLane y) → x ≡ y
            same x y e = cc

    pub item-clean : Clean (item_of t f b i)
    item-clean = subst Clean (sym (item-known t f b i e known)) (go (is_silent e))
      where
        go : (c : Bool) → Clean (cond c as-silent as-counted)
        go true = silent-clean
        go false = counted-clean

  -- codes of such items

  abbrev pub AllClean : Code → Type 0
  AllClean [] = Unit {0}
  AllClean (x ∷ p) = Clean x × AllClean p

  pub found-clean : (m : ℕ) (p : Code) → AllClean p → AllClean (found m p)
  found-clean m [] a = tt
  found-clean m (BlockStart k ∷ p) a = go (nat_eq k m) (found-clean m p a.1)
    where
      go : (y : Bool) → AllClean (found m p) → AllClean (cond y p (found m p))
      go true w = a.1
      go false w = w
  found-clean m (BlockEnd falls exits ∷ p) a = found-clean m p a.1
  found-clean m (Silent rs ws ∷ p) a = found-clean m p a.1
  found-clean m (Counted r rs ws to exits ∷ p) a = found-clean m p a.1

  reserved-other : (a : Lane) → is_reserved t a ≡ true → Other a
  reserved-other (UnitLane u) e j w q = cc
  reserved-other (VirtualLane v k) e j w q = cc
  reserved-other (SlotLane m k x) e j w q = absurd (cc)

  module _ (code : Code) (all : AllClean code) where
    pub live-other : {p : Code} {l : Lane} → Live (is_reserved t) code p l → AllClean p → Other l
    live-other (Live.read {ss = ss} {l = l} m k r) a = a.0.reads ss l m k
    live-other (Live.next {l = l} {a = x} o z e r) a = a.0.feeds l x e (live-other z a.1)
    live-other (Live.leap {e = y} {l = l} {a = x} {b = c} m z g h r) a =
        a.0.feeds l c h (subst Other (sym (lane-same c x (sym (ap settled (sym (ap (λ ws. filled ws x) (a.0.bare y m)) ∙ g))))) (live-other z (found-clean y.block code all)))
    live-other (Live.phi {e = y} {w = w} m k g h r) a = absurd (member-none w (subst (Member w) (a.0.bare y m) k))
    live-other (Live.store w {l = l} o z e s r) a = no-slot l s
    live-other (Live.kept {l = l} {a = x} g e r) a = a.0.feeds l x e (reserved-other x g)

    pub after-other : (x : Item) (p : Code) (l : Lane) → LiveAfter (is_reserved t) code x p l → Clean x → AllClean p → Other l
    after-other x p l (LiveAfter.after_next o z) c a = live-other z a
    after-other x p l (LiveAfter.after_leap {e = y} {a = d} m z g) c a = subst Other (sym (lane-same l d (sym (ap settled (sym (ap (λ ws. filled ws d) (c.bare y m)) ∙ g))))) (live-other z (found-clean y.block code all))
    after-other x p l (LiveAfter.after_phi {e = y} {w = w} m k g) c a = absurd (member-none w (subst (Member w) (c.bare y m) k))
