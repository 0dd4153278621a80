-- What an instruction does to lanes depends on the function by the classes of its ranges alone.
use Rattle.std.proofs.Common.{◌≡◌, ◌∷◌, ◌++◌, ◌&&◌, ◌∙◌, not, ℕ, ◌+◌, Bool, true, false, cond, List, [], Option, Some, None, refl, sym, ap, map, filter, filter_map, flat_map, sum, length}
use Rattle.std.specs.Prelude.{ℤ, nat_eq, nat_abs, slice_get, slice_index}
use Rattle.target_base.specs.declared.types.Effect.{Effect}
use Rattle.target_base.specs.declared.types.Effect.TheVariants as effects
use Rattle.target_base.specs.declared.types.IndexId.{IndexId}
use Rattle.target_base.specs.declared.types.Role.{Role}
use Rattle.target_base.specs.declared.types.Target.{Target}
use Rattle.target_base.specs.Registers.{lanes_of, widths_of_some}
use Rattle.target_base.specs.Roles.{is_silent}
use Rattle.target_base.specs.Rules.{is_phi}
use Rattle.meaning.specs.declared.types.Constant.{Constant}
use Rattle.meaning.specs.declared.types.Lane.TheVariants.{VirtualLane}
use Rattle.meaning.specs.declared.types.Source.{Source}
use Rattle.meaning.specs.declared.types.Source.TheVariants.{FromLane, Undef}
use Rattle.meaning.specs.Code.{Item, Silent, Counted, Edge}
use Rattle.meaning.specs.Live.{reads_of, writes_of, exits_of, in_order}
use Rattle.meaning.specs.Perform.{condition_lane}
use Rattle.mir_func.specs.declared.func.Block.{Block}
use Rattle.mir_func.specs.declared.func.Instr.{Instr}
use Rattle.mir_func.specs.declared.func.Loc.{Loc}
use Rattle.mir_func.specs.declared.func.Loc.TheVariants.{Fixed, Virtual}
use Rattle.mir_func.specs.declared.func.Operand.{Operand}
use Rattle.mir_func.specs.declared.func.Operand.TheVariants as operands
use Rattle.mir_func.specs.declared.func.RegOp.{RegOp}
use Rattle.mir_func.specs.Value.{Function}
use Rattle.mir_func.specs.Binding.{Definition, class_of, definitions, does, effect_of, explicit_operands, immediate_of, implicit_registers, implicit_roles, is_early_clobber, is_terminator, passes, registers, roles_of}
use Rattle.mir_meaning.specs.Registers.{located_lanes, located_widths, numbers, operand_lanes, operand_widths, range_lanes, range_widths, slot_lane_numbers, slot_lanes, undefined_lanes, use_sources, whole_lanes}
use Rattle.mir_meaning.specs.Items.{Value, all_lanes, at_all_widths, clobbered, computed, constant_bits, constant_lanes, constant_of, copied, counted_writes, defined, defined_lanes, defined_undef, first_width, flag_value, further_writes, given_constant, implicit_definitions, implicit_values, implicit_writes, inserted, is_flags, kept, lanes_beside, moved, opaque_clobbers, parts, pick, reloaded, rest_of, results, sequenced, silent_reads, silent_writes, spilled, undefined, unreserved, use_value, uses, value_of, values}
use Rattle.mir_meaning.specs.Codes.{effect_item, item_of, phi_operands, phi_pair, phi_writes, target_of, way, ways_out}
use Rattle.std.specs.Prelude.{option_map}
use Rattle.mir_meaning.specs.Points.{point_item}
use Rattle.edit_laws.proofs.Beside.{is_inside}

module _ (t : Target) (f g : Function) (same : f.classes ≡ g.classes) where
  -- operands

  class-same : (v : ℕ) → class_of f v ≡ class_of g v
  class-same v = λ k. elim (slice_get (same k) v) [ None ↦ None | Some c ↦ c ]

  widths-of-range : (v : ℕ) → range_widths t f v ≡ range_widths t g v
  widths-of-range v = ap (widths_of_some t) (class-same v)

  lanes-of-range : (v : ℕ) → range_lanes t f v ≡ range_lanes t g v
  lanes-of-range v = ap (λ ws. map (VirtualLane v) (numbers 0 (length ws))) (widths-of-range v)

  located : (p : Loc) (x : Option IndexId) → located_lanes t f p x ≡ located_lanes t g p x
  located (Virtual v) None = lanes-of-range v
  located (Virtual v) (Some x) = refl
  located (Fixed r) x = refl

  located-widths : (p : Loc) (x : Option IndexId) → located_widths t f p x ≡ located_widths t g p x
  located-widths (Virtual v) None = widths-of-range v
  located-widths (Virtual v) (Some x) = ap (λ ws. map (slice_index ws) (lanes_of t x)) (widths-of-range v)
  located-widths (Fixed r) x = refl

  pub lanes : (o : RegOp) → operand_lanes t f o ≡ operand_lanes t g o
  lanes o = located o.loc o.index

  widths : (o : RegOp) → operand_widths t f o ≡ operand_widths t g o
  widths o = located-widths o.loc o.index

  pub sources : (o : RegOp) → use_sources t f o ≡ use_sources t g o
  sources o = ap (map (cond o.undef (λ l. Undef) FromLane)) (lanes o)

  whole : (p : Loc) → whole_lanes t f p ≡ whole_lanes t g p
  whole (Virtual v) = lanes-of-range v
  whole (Fixed r) = refl

  others : (o : RegOp) → undefined_lanes t f o ≡ undefined_lanes t g o
  others o = ap (λ ls. cond (o.def && o.undef) ls []) (whole o.loc)

  -- silent instructions

  defined-same : (early : Bool) (d : RegOp) (ss rs : List Source) → ss ≡ rs → defined t f early d ss ≡ defined t g early d rs
  defined-same early d ss rs e = λ k. moved early (lanes d k) (e k) ++ undefined early (others d k)

  copied-same : (os : List Operand) → copied t f os ≡ copied t g os
  copied-same (operands.Reg d ∷ operands.Reg s ∷ os) = defined-same false d (use_sources t f s) (use_sources t g s) (sources s)
  copied-same _ = refl

  pub undef-same : (os : List Operand) → defined_undef t f os ≡ defined_undef t g os
  undef-same (operands.Reg d ∷ os) = λ k. undefined false (lanes d k ++ others d k)
  undef-same _ = refl

  parts-same : (d : RegOp) (os : List Operand) → parts t f d os ≡ parts t g d os
  parts-same d (operands.Reg s ∷ operands.Index x ∷ os) = λ k. moved false (located d.loc (Some x) k) (sources s k) ++ parts-same d os k
  parts-same d _ = refl

  sequenced-same : (os : List Operand) → sequenced t f os ≡ sequenced t g os
  sequenced-same (operands.Reg d ∷ os) = λ k. parts-same d os k ++ undefined false (lanes d k)
  sequenced-same _ = refl

  inserted-same : (os : List Operand) → inserted t f os ≡ inserted t g os
  inserted-same (operands.Reg d ∷ operands.Reg a ∷ operands.Reg b ∷ operands.Index x ∷ os) = λ k. moved false (located d.loc (Some x) k) (sources b k) ++ moved false (lanes d k) (sources a k)
  inserted-same _ = refl

  constants-same : (d : RegOp) (c : Option Constant) → constant_lanes t f d c ≡ constant_lanes t g d c
  constants-same d None = refl
  constants-same d (Some c) = ap (constant_bits c 0) (widths d)

  given-same : (early : Bool) (os : List Operand) → given_constant t f early os ≡ given_constant t g early os
  given-same early (operands.Reg d ∷ o ∷ os) =
      defined-same early d (constant_lanes t f d (constant_of (sum (operand_widths t f d)) o)) (constant_lanes t g d (constant_of (sum (operand_widths t g d)) o))
      ((λ k. constant_lanes t f d (constant_of (sum (widths d k)) o)) ∙ constants-same d (constant_of (sum (operand_widths t g d)) o))
  given-same early _ = refl

  pub beside-same : (o : RegOp) (s : ℕ) (k : Operand) → lanes_beside t f o s k ≡ lanes_beside t g o s k
  beside-same o s k = λ i. slot_lanes s (slot_lane_numbers t (widths o i) k) (widths o i)

  spilled-same : (os : List Operand) → spilled t f os ≡ spilled t g os
  spilled-same (operands.Reg o ∷ operands.Stack s ∷ k ∷ os) = λ i. moved false (beside-same o s k i) (sources o i) ++ undefined false (at_all_widths t s (slot_lane_numbers t (widths o i) k))
  spilled-same _ = refl

  reloaded-same : (early : Bool) (os : List Operand) → reloaded t f early os ≡ reloaded t g early os
  reloaded-same early (operands.Reg o ∷ operands.Stack s ∷ k ∷ os) = defined-same early o (map FromLane (lanes_beside t f o s k)) (map FromLane (lanes_beside t g o s k)) (ap (map FromLane) (beside-same o s k))
  reloaded-same early _ = refl

  pub silent-writes : (e : Effect) (early : Bool) (os : List Operand) → silent_writes t f e early os ≡ silent_writes t g e early os
  silent-writes effects.Copy early os = copied-same os
  silent-writes effects.ImplicitDef early os = undef-same os
  silent-writes effects.RegSequence early os = sequenced-same os
  silent-writes effects.InsertSubreg early os = inserted-same os
  silent-writes effects.Const early os = given-same early os
  silent-writes effects.Addr early os = given-same early os
  silent-writes effects.Spill early os = spilled-same os
  silent-writes effects.Reload early os = reloaded-same early os
  silent-writes _ early os = refl

  pub silent-reads : (e : Effect) (os : List Operand) → silent_reads t f e os ≡ silent_reads t g e os
  silent-reads effects.RegSequence os = λ k. map (λ o. sources o k) (uses os)
  silent-reads effects.InsertSubreg os = λ k. map (λ o. sources o k) (uses os)
  silent-reads _ os = refl

  -- counted ones

  use-same : (o : RegOp) → use_value t f o ≡ use_value t g o
  use-same o = λ k. (sources o k, widths o k)

  value-same : (e : Effect) (w : ℕ) (o : Operand) → value_of t f e w o ≡ value_of t g e w o
  value-same e w (operands.Reg o) = λ k. cond o.def None (Some (use-same o k))
  value-same e w (operands.Imm z) = refl
  value-same e w (operands.Stack n) = refl
  value-same e w (operands.FixedStack n) = refl
  value-same e w (operands.Symbol name) = refl
  value-same e w _ = refl

  first-same : (os : List RegOp) → first_width t f os ≡ first_width t g os
  first-same [] = refl
  first-same (o ∷ os) = ap sum (widths o)

  flag-same : (c : ℤ) (o : RegOp) → flag_value t f c o ≡ flag_value t g c o
  flag-same c o = λ k. (pick (condition_lane (nat_abs c)) (sources o k), pick (condition_lane (nat_abs c)) (widths o k))

  implicit-same : (e : Effect) (c : ℤ) (rs : List Role) (os : List RegOp) → implicit_values t f e c rs os ≡ implicit_values t g e c rs os
  implicit-same effects.Jcc c rs os = λ k. map (λ o. flag-same c o k) (filter (is_flags rs) os) ++ map (λ o. use-same o k) (filter (λ o. not (is_flags rs o)) os)
  implicit-same _ c rs os = λ k. map (λ o. use-same o k) os

  pub values-same : (e : Effect) (i : Instr) → values t f e i ≡ values t g e i
  values-same e i =
      let os = explicit_operands i.operands in
      let read = filter (λ o. not o.def) (implicit_registers i.operands) in
      let c = immediate_of i.operands in
      let rs = implicit_roles (roles_of t i) in
      (λ k. filter_map (value_of t f e (first-same (registers i.operands) k)) os ++ implicit_values t f e c rs read)
      ∙ (λ k. filter_map (λ o. value-same e (first_width t g (registers i.operands)) o k) os ++ implicit-same e c rs read k)

  pub all-same : (os : List RegOp) → all_lanes t f os ≡ all_lanes t g os
  all-same os = λ k. flat_map (λ o. lanes o k) os

  implicit-writes : (e : Effect) (rs : List Role) (os : List Operand) → implicit_writes t f e rs os ≡ implicit_writes t g e rs os
  implicit-writes effects.Cmp rs os = λ k. kept t (computed false 0 (all-same (filter (is_flags rs) (implicit_definitions os)) k) ++ undefined false (all-same (implicit_definitions os) k))
  implicit-writes effects.Call rs os = λ k. computed false 0 (unreserved t (all-same (implicit_definitions os) k)) ++ undefined false (clobbered t os)
  implicit-writes _ rs os = λ k. undefined false (unreserved t (all-same (implicit_definitions os) k))

  pub results-same : (n : ℕ) (ds : List Definition) → results t f n ds ≡ results t g n ds
  results-same n [] = refl
  results-same n (d ∷ ds) =
      λ k. (computed d.0 n (lanes d.1 k) ++ undefined d.0 (others d.1 k)) ++ (ap (λ ls. results t f (n + length ls) ds) (lanes d.1) ∙ results-same (n + length (operand_lanes t g d.1)) ds) k

  defined-lanes : (ds : List Definition) → defined_lanes t f ds ≡ defined_lanes t g ds
  defined-lanes ds = λ k. flat_map (λ (d : Definition). lanes d.1 k) ds

  further-same : (e : Effect) (i : Instr) → further_writes t f e i ≡ further_writes t g e i
  further-same (effects.Opaque kind) i =
      λ k. computed false (length (defined-lanes (definitions (roles_of t i) i.operands) k)) (all-same (implicit_definitions i.operands) k) ++ opaque_clobbers t kind i.operands
  further-same e i = implicit-writes e (implicit_roles (roles_of t i)) i.operands

  counted-writes : (e : Effect) (i : Instr) → counted_writes t f e i ≡ counted_writes t g e i
  counted-writes e i = λ k. results-same 0 (definitions (roles_of t i) i.operands) k ++ further-same e i k

  -- phis, on the ways into their blocks

  pair-same : (n : ℕ) (d : RegOp) (os : List Operand) → phi_pair t f n d os ≡ phi_pair t g n d os
  pair-same n d (operands.Reg s ∷ operands.Block m ∷ os) = λ k. cond (nat_eq m n) (defined-same false d (use_sources t f s) (use_sources t g s) (sources s) k) (pair-same n d os k)
  pair-same n d _ = refl

  pairs-same : (n : ℕ) (os : List Operand) → phi_operands t f n os ≡ phi_operands t g n os
  pairs-same n (operands.Reg d ∷ os) = pair-same n d os
  pairs-same n _ = refl

  pub phi-same : (n : ℕ) (i : Instr) → phi_writes t f n i ≡ phi_writes t g n i
  phi-same n i = ap (λ ws. cond (does is_phi t i) ws []) (pairs-same n i.operands)

  -- items

  module _ (b c : Block) (i : Instr) where
    abbrev silent : Function → Effect → Item
    silent h e = Silent (silent_reads t h e i.operands) (silent_writes t h e (is_early_clobber (roles_of t i)) i.operands)

    abbrev counted : Function → Block → Effect → Item
    counted h d e = Counted (rest_of t h e i) (map (λ v. v.0) (values t h e i)) (counted_writes t h e i) (option_map (way t h d.number) (target_of i.operands)) (cond (is_terminator e) (ways_out t h d) [])

    abbrev known : Function → Block → Option Effect → Item
    known h d o = elim o as (λ o. Item) [ None ↦ Silent [] [] | Some e ↦ effect_item t h d i e ]

    reads-chosen : (e : Effect) (u : Bool) → reads_of (cond u (silent f e) (counted f b e)) ≡ reads_of (cond u (silent g e) (counted g c e))
    reads-chosen e true = silent-reads e i.operands
    reads-chosen e false = λ k. map (λ (v : Value). v.0) (values-same e i k)

    reads-known : (o : Option Effect) → reads_of (known f b o) ≡ reads_of (known g c o)
    reads-known None = refl
    reads-known (Some e) = reads-chosen e (is_silent e)

    reads-item : reads_of (item_of t f b i) ≡ reads_of (item_of t g c i)
    unfolding item_of
    reads-item = reads-known (effect_of t i)

    pub reads-same : reads_of (point_item t f b i) ≡ reads_of (point_item t g c i)
    unfolding point_item
    reads-same = go (does is_phi t i)
      where
        go : (u : Bool) → reads_of (cond u (Silent [] (defined_undef t f i.operands)) (item_of t f b i)) ≡ reads_of (cond u (Silent [] (defined_undef t g i.operands)) (item_of t g c i))
        go true = refl
        go false = reads-item

    writes-chosen : (e : Effect) (u : Bool) → writes_of (cond u (silent f e) (counted f b e)) ≡ writes_of (cond u (silent g e) (counted g c e))
    writes-chosen e true = silent-writes e (is_early_clobber (roles_of t i)) i.operands
    writes-chosen e false = counted-writes e i

    writes-known : (o : Option Effect) → writes_of (known f b o) ≡ writes_of (known g c o)
    writes-known None = refl
    writes-known (Some e) = writes-chosen e (is_silent e)

    writes-item : writes_of (item_of t f b i) ≡ writes_of (item_of t g c i)
    unfolding item_of
    writes-item = writes-known (effect_of t i)

    pub writes-same : writes_of (point_item t f b i) ≡ writes_of (point_item t g c i)
    unfolding point_item
    writes-same = go (does is_phi t i)
      where
        go : (u : Bool) → writes_of (cond u (Silent [] (defined_undef t f i.operands)) (item_of t f b i)) ≡ writes_of (cond u (Silent [] (defined_undef t g i.operands)) (item_of t g c i))
        go true = undef-same i.operands
        go false = writes-item

-- paths from an instruction

silent-stays : (e : Effect) → is_silent e ≡ true → is_terminator e ≡ false
silent-stays effects.Copy h = refl
silent-stays effects.Phi h = refl
silent-stays effects.ImplicitDef h = refl
silent-stays effects.RegSequence h = refl
silent-stays effects.InsertSubreg h = refl
silent-stays effects.Const h = refl
silent-stays effects.Addr h = refl
silent-stays effects.Spill h = refl
silent-stays effects.Reload h = refl
silent-stays _ h = absurd (cc)

phi-stays : (e : Effect) → is_phi e ≡ true → is_terminator e ≡ false
phi-stays effects.Phi h = refl
phi-stays _ h = absurd (cc)

module _ (t : Target) (f : Function) (b : Block) (i : Instr) where
  abbrev out : Bool → List Edge
  out u = cond u (ways_out t f b) []

  effect-exits : (e : Effect) (u : Bool) → is_silent e ≡ u → exits_of (cond u (Silent (silent_reads t f e i.operands) (silent_writes t f e (is_early_clobber (roles_of t i)) i.operands)) (Counted (rest_of t f e i) (map (λ v. v.0) (values t f e i)) (counted_writes t f e i) (option_map (way t f b.number) (target_of i.operands)) (out (is_terminator e)))) ≡ out (is_terminator e)
  effect-exits e true h = sym (ap out (silent-stays e h))
  effect-exits e false h = refl

  known-exits : (o : Option Effect) → exits_of (elim o as (λ o. Item) [ None ↦ Silent [] [] | Some e ↦ effect_item t f b i e ]) ≡ out (passes is_terminator o)
  known-exits None = refl
  known-exits (Some e) = effect-exits e (is_silent e) refl

  item-exits : exits_of (item_of t f b i) ≡ out (does is_terminator t i)
  unfolding item_of
  item-exits = known-exits (effect_of t i)

  phi-exits : (o : Option Effect) → passes is_phi o ≡ true → [] ≡ out (passes is_terminator o)
  phi-exits None h = absurd (cc)
  phi-exits (Some e) h = sym (ap out (phi-stays e h))

  pub exits-are : exits_of (point_item t f b i) ≡ cond (does is_terminator t i) (ways_out t f b) []
  unfolding point_item
  exits-are = go (does is_phi t i) refl
    where
      go : (u : Bool) → does is_phi t i ≡ u → exits_of (cond u (Silent [] (defined_undef t f i.operands)) (item_of t f b i)) ≡ out (does is_terminator t i)
      go true h = phi-exits (effect_of t i) h
      go false h = item-exits

  effect-plain : (e : Effect) (u : Bool) → (in_order (cond u (Silent (silent_reads t f e i.operands) (silent_writes t f e (is_early_clobber (roles_of t i)) i.operands)) (Counted (rest_of t f e i) (map (λ v. v.0) (values t f e i)) (counted_writes t f e i) (option_map (way t f b.number) (target_of i.operands)) (out (is_terminator e)))) ≡ true) × (is_inside (cond u (Silent (silent_reads t f e i.operands) (silent_writes t f e (is_early_clobber (roles_of t i)) i.operands)) (Counted (rest_of t f e i) (map (λ v. v.0) (values t f e i)) (counted_writes t f e i) (option_map (way t f b.number) (target_of i.operands)) (out (is_terminator e)))) ≡ true)
  effect-plain e true = (refl, refl)
  effect-plain e false = (refl, refl)

  known-plain : (o : Option Effect) → (in_order (elim o as (λ o. Item) [ None ↦ Silent [] [] | Some e ↦ effect_item t f b i e ]) ≡ true) × (is_inside (elim o as (λ o. Item) [ None ↦ Silent [] [] | Some e ↦ effect_item t f b i e ]) ≡ true)
  known-plain None = (refl, refl)
  known-plain (Some e) = effect-plain e (is_silent e)

  item-plain : (in_order (item_of t f b i) ≡ true) × (is_inside (item_of t f b i) ≡ true)
  unfolding item_of
  item-plain = known-plain (effect_of t i)

  -- paths go on from it in order, and no block begins with it
  pub is-plain : (in_order (point_item t f b i) ≡ true) × (is_inside (point_item t f b i) ≡ true)
  unfolding point_item
  is-plain = go (does is_phi t i)
    where
      go : (u : Bool) → (in_order (cond u (Silent [] (defined_undef t f i.operands)) (item_of t f b i)) ≡ true) × (is_inside (cond u (Silent [] (defined_undef t f i.operands)) (item_of t f b i)) ≡ true)
      go true = (refl, refl)
      go false = item-plain
