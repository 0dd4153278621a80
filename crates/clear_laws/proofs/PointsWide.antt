-- The items of a function in lowered form move lanes of slots at the widths of units alone: only reloads read them.
use Rattle.std.proofs.Common.{◌≡◌, ◌+◌, ◌∷◌, ◌++◌, ◌∙◌, ◌&&◌, not, ℕ, suc, Bool, true, false, cond, List, Some, length, map, refl, sym, ap, subst, []}
use Rattle.std.specs.Prelude.{option_map, sum}
use Rattle.target_base.specs.declared.types.Effect.{Effect}
use Rattle.target_base.specs.declared.types.Effect.TheVariants as effects
use Rattle.target_base.specs.declared.types.Target.{Target}
use Rattle.target_base.specs.Roles.{is_silent}
use Rattle.target_base.specs.Rules.{is_phi}
use Rattle.target_base.proofs.Tests.{first_of_both}
use Rattle.meaning.specs.Code.{Code, Counted, Edge, Item, Silent}
use Rattle.meaning.specs.Lanes.{Writes}
use Rattle.meaning.specs.Live.{Among as Member, here as first, is_slot, there as later}
use Rattle.meaning.specs.Relations.{Rel}
use Rattle.meaning.specs.declared.types.Constant.{Constant}
use Rattle.meaning.specs.declared.types.Fill.TheVariants.{Computed, Moved}
use Rattle.meaning.specs.declared.types.Lane.{Lane}
use Rattle.meaning.specs.declared.types.Lane.TheVariants.{SlotLane, UnitLane}
use Rattle.meaning.specs.declared.types.Source.{Source}
use Rattle.meaning.specs.declared.types.Source.TheVariants.{Bits, FromLane, Undef}
use Rattle.meaning.specs.declared.types.Write.{Write}
use Rattle.mir_func.specs.declared.func.Edge.{Edge as Successor}
use Rattle.mir_func.specs.declared.func.RegOp.{RegOp}
use Rattle.mir_func.specs.declared.func.Operand.{Operand}
use Rattle.mir_func.specs.declared.func.Operand.TheVariants as operands
use Rattle.mir_func.specs.declared.func.Instr.{Instr}
use Rattle.mir_func.specs.declared.func.Block.{Block}
use Rattle.mir_func.specs.Value.{Function}
use Rattle.mir_func.specs.Binding.{Definition, definitions, does, effect_of, implicit_registers, is_early_clobber, is_terminator, is_virtual, puts_together, registers, roles_of}
use Rattle.mir_meaning.specs.Codes.{block_end, blocks_code, item_of, target_of, way, ways_out}
use Rattle.mir_meaning.specs.Items.{Value, computed, constant_lanes, constant_of, copied, counted_writes, defined, defined_undef, further_writes, given_constant, lanes_beside, moved, reloaded, rest_of, result_writes, results, silent_reads, silent_writes, spilled as store_given, undefined, values}
use Rattle.mir_meaning.specs.Points.{point_item, points_of}
use Rattle.mir_meaning.specs.Registers.{operand_lanes, operand_widths, slot_lanes, undefined_lanes, use_sources}
use Rattle.mir_meaning.specs.Renaming.{IsFixed}
use Rattle.instr_effects.proofs.Members.{either-elim, map-of, member-elim, member-none}
use Rattle.live_laws.proofs.Effects.Lists.{all-of}
use Rattle.live_laws.proofs.Touch.Roles.{fit, has_roles, met}
use Rattle.lowering_laws.specs.Form.{is_lowered, is_undef_definition}
use Rattle.lowering_laws.specs.Shapes.{IsLowered}
use Rattle.lowering_laws.proofs.Places.{InPlace, Replaces, reads-alike}
use Rattle.split_laws.proofs.Splitting.{as-item, suits}
use Rattle.spill_laws.proofs.Constants.{sources-are, sources-constant}
use Rattle.spill_laws.proofs.CopyPlaces.{none-of}
use Rattle.spill_laws.proofs.CountedPlaces.{fixed-of}
use Rattle.spill_laws.proofs.Following.{bare-ways-of}
use Rattle.spill_laws.proofs.Refining.{known-by, no-phi}
use Rattle.spill_laws.proofs.SlotWrites.{undefined-lane}
use Rattle.spill_laws.proofs.SpillItems.{item-known, lane-slotless}
use Rattle.spill_laws.proofs.TinyApart.{none-before}
use Rattle.clear_laws.proofs.CountedItems.{further-fits}
use Rattle.clear_laws.proofs.LiveWidths.{AllWide, MovesWide, Wide, register-wide}
use Rattle.clear_laws.proofs.Places.{code-behind}
use Rattle.clear_laws.proofs.SeatedPairs.{alike-operand, alike-self}

source-lane : (a b : Lane) → FromLane a ≡ FromLane b → a ≡ b
source-lane a b e = cc

counted-roles : (e : Effect) → is_silent e ≡ false → has_roles e ≡ true
counted-roles effects.Copy h = absurd (cc)
counted-roles effects.Phi h = absurd (cc)
counted-roles effects.ImplicitDef h = absurd (cc)
counted-roles effects.RegSequence h = absurd (cc)
counted-roles effects.InsertSubreg h = absurd (cc)
counted-roles e h = refl

-- the width of a lane of a slot among others
slot-width : (m : ℕ) (js ws : List ℕ) (n k u : ℕ) → Member (SlotLane n k u) (slot_lanes m js ws) → Member u ws
slot-width m [] ws n k u h = absurd (member-none (SlotLane n k u) h)
slot-width m (j ∷ js) [] n k u h = absurd (member-none (SlotLane n k u) h)
slot-width m (j ∷ js) (w ∷ ws) n k u h =
    member-elim (SlotLane n k u) (SlotLane m j w) (slot_lanes m js ws) (λ e. subst (λ x. Member x (w ∷ ws)) (width-of e) first) (λ q. later (slot-width m js ws n k u q)) h
  where
    width-of : SlotLane n k u ≡ SlotLane m j w → w ≡ u
    width-of e = cc

module _ (t : Target) where
  -- lanes of slots that these sources are, and that these writes move
  abbrev SourcesWide : List Source → Type 0
  SourcesWide ss = (n k u : ℕ) → Member (FromLane (SlotLane n k u)) ss → Wide t u

  abbrev FillsWide : Writes → Type 0
  FillsWide ws = (w : Write) (n k u : ℕ) → Member w ws → w.fill ≡ Moved (FromLane (SlotLane n k u)) → Wide t u

  moved-wide : (e : Bool) (ls : List Lane) (ss : List Source) → SourcesWide ss → FillsWide (moved e ls ss)
  moved-wide e [] ss h w n k u m f = absurd (member-none w m)
  moved-wide e (l ∷ ls) [] h w n k u m f = absurd (member-none w m)
  moved-wide e (l ∷ ls) (q ∷ ss) h w n k u m f =
      member-elim w (record { lane = l; fill = Moved q; early = e }) (moved e ls ss)
      (λ x. h n k u (subst (λ y. Member y (q ∷ ss)) (inner q (FromLane (SlotLane n k u)) (sym (ap (λ (y : Write). y.fill) x) ∙ f)) first))
      (λ x. moved-wide e ls ss (λ a b c y. h a b c (later y)) w n k u x f) m
    where
      inner : (a b : Source) → Moved a ≡ Moved b → a ≡ b
      inner a b e = cc

  undefined-wide : (e : Bool) (ls : List Lane) → FillsWide (undefined e ls)
  undefined-wide e ls w n k u m f = absurd (let q = (undefined-lane e ls w m).1 in let a : Moved Undef ≡ Moved (FromLane (SlotLane n k u)) = sym q ∙ f in cc)

  both-wide : (xs ys : Writes) → FillsWide xs → FillsWide ys → FillsWide (xs ++ ys)
  both-wide xs ys a b w n k u m f = either-elim w xs ys (λ q. a w n k u q f) (λ q. b w n k u q f) m

  none-wide : FillsWide []
  none-wide w n k u m f = absurd (member-none w m)

  module _ (f : Function) where
    -- registers are no slots
    use-slotless : (o : RegOp) (u : Source) (l : Lane) → Member u (use_sources t f o) → u ≡ FromLane l → is_slot l ≡ false
    use-slotless o u l m e = go o.undef m
      where
        go : (b : Bool) → Member u (map (cond b (λ a. Undef) FromLane) (operand_lanes t f o)) → is_slot l ≡ false
        go true m = absurd (let y = map-of (λ (a : Lane). Undef) u (operand_lanes t f o) m in let q : Undef ≡ FromLane l = sym y.2 ∙ e in cc)
        go false m = let y = map-of FromLane u (operand_lanes t f o) m in ap is_slot (sym (source-lane y.0 l (sym y.2 ∙ e))) ∙ lane-slotless t f o.loc o.index y.0 y.1

    uses-wide : (o : RegOp) → SourcesWide (use_sources t f o)
    uses-wide o n k u m = absurd (let a : is_slot (SlotLane n k u) ≡ false = use-slotless o (FromLane (SlotLane n k u)) (SlotLane n k u) m refl in cc)

    defined-wide : (early : Bool) (d : RegOp) (ss : List Source) → SourcesWide ss → FillsWide (defined t f early d ss)
    defined-wide early d ss h = both-wide (moved early (operand_lanes t f d) ss) (undefined early (undefined_lanes t f d)) (moved-wide early (operand_lanes t f d) ss h) (undefined-wide early (undefined_lanes t f d))

    copies-wide : (os : List Operand) → FillsWide (copied t f os)
    copies-wide (operands.Reg d ∷ operands.Reg s ∷ os) = defined-wide false d (use_sources t f s) (uses-wide s)
    copies-wide os = none-wide

    undefs-wide : (os : List Operand) → FillsWide (defined_undef t f os)
    undefs-wide (operands.Reg d ∷ os) = undefined-wide false (operand_lanes t f d ++ undefined_lanes t f d)
    undefs-wide os = none-wide

    constants-wide : (early : Bool) (os : List Operand) → FillsWide (given_constant t f early os)
    constants-wide early (operands.Reg d ∷ o ∷ os) =
        defined-wide early d (constant_lanes t f d (constant_of (sum (operand_widths t f d)) o))
        (λ n k u m. absurd (sources-constant o (operand_widths t f d) (FromLane (SlotLane n k u)) (subst (Member (FromLane (SlotLane n k u))) (sources-are t f d o) m)))
    constants-wide early os = none-wide

    stores-wide : (os : List Operand) → FillsWide (store_given t f os)
    stores-wide (operands.Reg o ∷ operands.Stack m ∷ x ∷ os) = both-wide (moved false (lanes_beside t f o m x) (use_sources t f o)) _ (moved-wide false (lanes_beside t f o m x) (use_sources t f o) (uses-wide o)) (undefined-wide false _)
    stores-wide os = none-wide

    reloads-wide : (early : Bool) (os : List Operand) → ((o : RegOp) → Member o (registers os) → (w : ℕ) → Member w (operand_widths t f o) → Wide t w) → FillsWide (reloaded t f early os)
    reloads-wide early (operands.Reg o ∷ operands.Stack s ∷ k ∷ os) h =
        defined-wide early o (map FromLane (lanes_beside t f o s k))
        (λ a b u m. (let y = map-of FromLane (FromLane (SlotLane a b u)) (lanes_beside t f o s k) m in
        h o first u (slot-width s _ (operand_widths t f o) a b u (subst (λ l. Member l (lanes_beside t f o s k)) (sym (source-lane (SlotLane a b u) y.0 y.2)) y.1))))
    reloads-wide early os h = none-wide

    silent-wide : (e : Effect) (early : Bool) (os : List Operand) → puts_together e ≡ false → ((o : RegOp) → Member o (registers os) → (w : ℕ) → Member w (operand_widths t f o) → Wide t w) → FillsWide (silent_writes t f e early os)
    silent-wide effects.Copy early os single h = copies-wide os
    silent-wide effects.ImplicitDef early os single h = undefs-wide os
    silent-wide effects.RegSequence early os single h = absurd (cc)
    silent-wide effects.InsertSubreg early os single h = absurd (cc)
    silent-wide effects.Const early os single h = constants-wide early os
    silent-wide effects.Addr early os single h = constants-wide early os
    silent-wide effects.Spill early os single h = stores-wide os
    silent-wide effects.Reload early os single h = reloads-wide early os h
    silent-wide e early os single h = none-wide

    silent-none : (e : Effect) (os : List Operand) → puts_together e ≡ false → silent_reads t f e os ≡ []
    silent-none effects.RegSequence os single = absurd (cc)
    silent-none effects.InsertSubreg os single = absurd (cc)
    silent-none e os single = refl

    -- counted instructions move no lanes

    computed-nothing : (early : Bool) (n : ℕ) (ls : List Lane) → FillsWide (computed early n ls)
    computed-nothing early n [] w a k u m e = absurd (member-none w m)
    computed-nothing early n (l ∷ ls) w a k u m e =
        member-elim w (record { lane = l; fill = Computed n; early = early }) (computed early (suc n) ls)
        (λ q. absurd (let x : Computed n ≡ Moved (FromLane (SlotLane a k u)) = sym (ap (λ (y : Write). y.fill) q) ∙ e in cc)) (λ q. computed-nothing early (suc n) ls w a k u q e) m

    results-wide : (n : ℕ) (ds : List Definition) → FillsWide (results t f n ds)
    results-wide n [] = none-wide
    results-wide n (d ∷ ds) =
        both-wide (result_writes t f d.0 n d.1) (results t f (n + length (operand_lanes t f d.1)) ds)
        (both-wide (computed d.0 n (operand_lanes t f d.1)) (undefined d.0 (undefined_lanes t f d.1)) (computed-nothing d.0 n (operand_lanes t f d.1)) (undefined-wide d.0 (undefined_lanes t f d.1)))
        (results-wide (n + length (operand_lanes t f d.1)) ds)

    further-wide : (e : Effect) (i : Instr) → ((o : RegOp) → Member o (implicit_registers i.operands) → IsFixed o.loc) → FillsWide (further_writes t f e i)
    further-wide e i fixed w n k u m g = absurd ((further-fits t f e i fixed w m).1 (SlotLane n k u) g)

    -- and read registers and constants

    abbrev Slotless : Rel
    Slotless a u = (l : Lane) → u ≡ FromLane l → is_slot l ≡ false

    abbrev Nothing-comes : Lane → Lane → Type 0
    Nothing-comes a b = ⊥

    in-place : (o : RegOp) → (o.def ≡ true → o.undef ≡ false) → InPlace t f Slotless Nothing-comes o o
    in-place o plain = record {
      def = refl;
      implicit = refl;
      widths = refl;
      stays = λ e. refl;
      reads = λ u. alike-self Slotless (use_sources t f o) (λ a m l e. use-slotless o a l m e);
      clear = λ d. plain (first_of_both o.def (not o.implicit) d);
      lanes = λ d a b y. absurd y;
    }

    all-in-place : (os : List Operand) → ((o : RegOp) → Member o (registers os) → o.def ≡ true → o.undef ≡ false) → Replaces t f Slotless Nothing-comes os os
    all-in-place [] h = Replaces.none
    all-in-place (operands.Reg o ∷ os) h = Replaces.register (in-place o (h o first)) (all-in-place os (λ p m. h p (later m)))
    all-in-place (operands.Imm y ∷ os) h = Replaces.other refl (all-in-place os h)
    all-in-place (operands.Block y ∷ os) h = Replaces.other refl (all-in-place os h)
    all-in-place (operands.Stack y ∷ os) h = Replaces.other refl (all-in-place os h)
    all-in-place (operands.FixedStack y ∷ os) h = Replaces.other refl (all-in-place os h)
    all-in-place (operands.Symbol y ∷ os) h = Replaces.other refl (all-in-place os h)
    all-in-place (operands.Index y ∷ os) h = Replaces.other refl (all-in-place os h)
    all-in-place (operands.Mask y ∷ os) h = Replaces.other refl (all-in-place os h)

    values-wide : (e : Effect) (i : Instr) → ((o : RegOp) → Member o (implicit_registers i.operands) → IsFixed o.loc) → ((o : RegOp) → Member o (registers i.operands) → o.def ≡ true → o.undef ≡ false)
        → (ss : List Source) → Member ss (map (λ (v : Value). v.0) (values t f e i)) → SourcesWide ss
    values-wide e i fixed plain ss m n k u q =
        let reads = map (λ (v : Value). v.0) (values t f e i) in
        let y = alike-operand Slotless reads reads (reads-alike t f Slotless Nothing-comes bits units blank i i.operands (all-in-place i.operands plain) e fixed) ss (FromLane (SlotLane n k u)) m q in
        absurd (let a : is_slot (SlotLane n k u) ≡ false = y.4 (SlotLane n k u) refl in cc)
      where
        bits : (b : Constant) (low w : ℕ) → Slotless (Bits b low w) (Bits b low w)
        bits b low w l e = absurd (cc)

        units : (x : ℕ) → Slotless (FromLane (UnitLane x)) (FromLane (UnitLane x))
        units x l e = ap is_slot (sym (source-lane (UnitLane x) l e))

        blank : Slotless Undef Undef
        blank l e = absurd (cc)

-- the function's code
module _ (t : Target) (f : Function) (low : IsLowered t f) (formed : (b : Block) (i : Instr) → Member b f.blocks → Member i b.instrs → is_lowered t i ≡ true) where
  no-phis : (b : Block) (i : Instr) → Member b f.blocks → Member i b.instrs → does is_phi t i ≡ false
  no-phis b i mb mi = no-phi t i (low.lowered b i mb mi)

  bare : (n m : ℕ) → (way t f n m).phis ≡ []
  bare = bare-ways-of t f no-phis

  bare-out : (b : Block) (e : Edge) → Member e (ways_out t f b) → e.phis ≡ []
  bare-out b e m = let z = map-of (λ (s : Successor). way t f b.number s.block) e b.successors m in ap (λ (w : Edge). w.phis) z.2 ∙ bare b.number z.0.block

  module _ (b : Block) (mb : Member b f.blocks) (i : Instr) (mi : Member i b.instrs) where
    operand-wide : (o : RegOp) → Member o (registers i.operands) → (w : ℕ) → Member w (operand_widths t f o) → Wide t w
    operand-wide o m = register-wide t f low.rules.classes o ((suits t f low).named b i o mb mi m)

    plain : (o : RegOp) → Member o (registers i.operands) → o.def ≡ true → o.undef ≡ false
    plain o m d = by o.def o.undef d (none-of is_undef_definition o (registers i.operands) (none-before t i (formed b i mb mi)) m)
      where
        by : (x y : Bool) → x ≡ true → (x && y) ≡ false → y ≡ false
        by true y h e = e
        by false y h e = absurd (cc)

    module _ (e : Effect) (known : effect_of t i ≡ Some e) (single : puts_together e ≡ false) where
      fixed : is_silent e ≡ false → (o : RegOp) → Member o (implicit_registers i.operands) → IsFixed o.loc
      fixed counts o m =
          let rule = (low.rules.shaped b i mb mi).operands in
          let d = (met t f i e known rule).0 in
          let all = (fit t f i e known rule (counted-roles e counts)).implicit in
          fixed-of o.loc (first_of_both (not (is_virtual o.loc)) (not (is_silent d.effect)) (all-of (λ (x : RegOp). not (is_virtual x.loc) && not (is_silent d.effect)) o (implicit_registers i.operands) m all))

      abbrev silent : Item
      silent = Silent (silent_reads t f e i.operands) (silent_writes t f e (is_early_clobber (roles_of t i)) i.operands)

      abbrev counted : Item
      counted = Counted (rest_of t f e i) (map (λ (v : Value). v.0) (values t f e i)) (counted_writes t f e i) (option_map (way t f b.number) (target_of i.operands)) (cond (is_terminator e) (ways_out t f b) [])

      by-item : (y : Bool) → is_silent e ≡ y → MovesWide t (cond y silent counted)
      by-item true h = record {
        fills = silent-wide t f e (is_early_clobber (roles_of t i)) i.operands single operand-wide;
        reads = λ ss n k u m q. absurd (member-none ss (subst (Member ss) (silent-none t f e i.operands single) m));
        bare = λ y m. absurd (member-none y m);
      }
      by-item false h = record {
        fills = both-wide t (results t f 0 (definitions (roles_of t i) i.operands)) (further_writes t f e i) (results-wide t f 0 (definitions (roles_of t i) i.operands)) (further-wide t f e i (fixed h));
        reads = λ ss n k u m q. values-wide t f e i (fixed h) plain ss m n k u q;
        bare = λ y m. bare-exit (is_terminator e) y m;
      }
        where
          bare-exit : (x : Bool) (y : Edge) → Member y (cond x (ways_out t f b) []) → y.phis ≡ []
          bare-exit true y m = bare-out b y m
          bare-exit false y m = absurd (member-none y m)

      known-wide : MovesWide t (item_of t f b i)
      known-wide = subst (MovesWide t) (sym (item-known t f b i e known)) (by-item (is_silent e) refl)

    item-wide : MovesWide t (point_item t f b i)
    item-wide = let z = known-by t i (low.lowered b i mb mi) in subst (MovesWide t) (sym (as-item t f b i (no-phis b i mb mi))) (known-wide z.effect z.known z.single)

  pub items-wide : (b : Block) → Member b f.blocks → (is : List Instr) → ((i : Instr) → Member i is → Member i b.instrs) → (p : Code) → AllWide t p → AllWide t (map (point_item t f b) is ++ p)
  items-wide b mb [] inside p h = h
  items-wide b mb (i ∷ is) inside p h = (item-wide b mb i (inside i first), items-wide b mb is (λ j m. inside j (later m)) p h)

  end-wide : (b : Block) (after : List Block) → MovesWide t (block_end t f b after)
  end-wide b after = record { fills = λ w n k u m e. absurd (member-none w m); reads = λ ss n k u m q. absurd (member-none ss m); bare = bare-out b }

  pub blocks-wide : (bs : List Block) → ((b : Block) → Member b bs → Member b f.blocks) → AllWide t (blocks_code (point_item t f) t f bs)
  blocks-wide [] inside = tt
  blocks-wide (b ∷ bs) inside = (
    record { fills = λ w n k u m e. absurd (member-none w m); reads = λ ss n k u m q. absurd (member-none ss m); bare = λ e m. absurd (member-none e m) },
    items-wide b (inside b first) b.instrs (λ i m. m) (block_end t f b bs ∷ blocks_code (point_item t f) t f bs) (end-wide b bs, blocks-wide bs (λ d m. inside d (later m))),
  )

  pub points-wide : AllWide t (points_of t f)
  unfolding points_of
  points-wide = blocks-wide f.blocks (λ b m. m)

  pub behind-wide : (b : Block) (after : List Block) → Member b f.blocks → ((d : Block) → Member d after → Member d f.blocks) → (is : List Instr) → ((i : Instr) → Member i is → Member i b.instrs) → AllWide t (code-behind t f b after is)
  behind-wide b after mb others is inside = items-wide b mb is inside (block_end t f b after ∷ blocks_code (point_item t f) t f after) (end-wide b after, blocks-wide after others)
