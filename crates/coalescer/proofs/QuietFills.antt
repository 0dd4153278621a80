-- No instruction but a copy moves the value of a lane of a range to a lane of a range.
use Rattle.std.proofs.Common.{◌≡◌, ◌∷◌, ◌++◌, ◌+◌, ◌∙◌, not, ℕ, zero, suc, Bool, true, false, cond, List, [], Option, Some, None, map, filter, length, refl, sym, ap, subst}
use Rattle.std.specs.Prelude.{option_map, slice_get}
use Rattle.target_base.specs.declared.types.Effect.{Effect}
use Rattle.target_base.specs.declared.types.Effect.TheVariants as effects
use Rattle.target_base.specs.declared.types.OpaqueKind.{OpaqueKind}
use Rattle.target_base.specs.declared.types.OpaqueKind.TheVariants as kinds
use Rattle.target_base.specs.declared.types.Role.{Role}
use Rattle.target_base.specs.declared.types.Target.{Target}
use Rattle.target_base.specs.Roles.{is_silent}
use Rattle.target_base.specs.Rules.{is_copy}
use Rattle.meaning.specs.declared.types.Lane.{Lane}
use Rattle.meaning.specs.declared.types.Lane.TheVariants.{SlotLane}
use Rattle.meaning.specs.declared.types.Constant.{Constant}
use Rattle.meaning.specs.declared.types.Constant.TheVariants.{FixedStackAddress, Immediate, StackAddress, SymbolAddress}
use Rattle.meaning.specs.declared.types.Source.{Source}
use Rattle.meaning.specs.declared.types.Source.TheVariants.{FromLane, Undef}
use Rattle.meaning.specs.declared.types.Fill.TheVariants.{Computed, Moved}
use Rattle.meaning.specs.declared.types.Write.{Write}
use Rattle.meaning.specs.Environment.{constant_source}
use Rattle.meaning.specs.Lanes.{Writes}
use Rattle.meaning.specs.Code.{Counted, Item, Silent}
use Rattle.meaning.specs.Live.{Among as Member, writes_of}
use Rattle.mir_func.specs.declared.func.RegOp.{RegOp}
use Rattle.mir_func.specs.declared.func.Operand.{Operand}
use Rattle.mir_func.specs.declared.func.Operand.TheVariants as operands
use Rattle.mir_func.specs.declared.func.Instr.{Instr}
use Rattle.mir_func.specs.declared.func.Block.{Block}
use Rattle.mir_func.specs.Value.{Function}
use Rattle.mir_func.specs.Binding.{Definition, definitions, effect_of, implicit_roles, is_early_clobber, is_lowered_away, is_terminator, roles_of}
use Rattle.mir_meaning.specs.Codes.{effect_item, item_of, target_of, way, ways_out}
use Rattle.mir_meaning.specs.Items.{all_lanes, answered, at_all_widths, clobbered, computed, constant_bits, constant_lanes, constant_of, counted_writes, defined_lanes, defined_undef, further_writes, given_constant, implicit_definitions, implicit_writes, is_flags, kept, lanes_beside, moved, opaque_clobbers, reloaded, rest_of, results, silent_reads, silent_writes, spilled, undefined, unreserved, values, write}
use Rattle.mir_meaning.specs.Registers.{is_reserved, operand_lanes, operand_widths, slot_lane_numbers, slot_lanes, undefined_lanes, use_sources}
use Rattle.instr_effects.proofs.Members.{either-elim, filter-of, map-of, member-elim, member-none}
use Rattle.live_laws.proofs.Effects.Blocks.{slice-member}
use Rattle.live_laws.proofs.Exact.Quiet.{is_range_lane}

-- what is written at a place of a move
pub record IsMove (ls : List Lane) (ss : List Source) (w : Write) : Type 0 where
  pub place : ℕ
  pub source : Source
  pub lane : slice_get ls place ≡ Some w.lane
  pub from : slice_get ss place ≡ Some source
  pub fill : w.fill ≡ Moved source

pub move-at : (early : Bool) (ls : List Lane) (ss : List Source) (w : Write) → Member w (moved early ls ss) → IsMove ls ss w
move-at early [] ss w m = absurd (member-none w m)
move-at early (l ∷ ls) [] w m = absurd (member-none w m)
move-at early (l ∷ ls) (s ∷ ss) w m =
    member-elim w (write early l (Moved s)) (moved early ls ss)
    (λ e. record { place = zero; source = s; lane = ap (λ (v : Write). Some v.lane) (sym e); from = refl; fill = ap (λ (v : Write). v.fill) e })
    (λ k. let z = move-at early ls ss w k in record { place = suc z.place; source = z.source; lane = z.lane; from = z.from; fill = z.fill }) m

-- a lane of a range gets no value that a lane of a range held
abbrev pub IsFresh : Write → Type 0
IsFresh w = (l : Lane) → w.fill ≡ Moved (FromLane l) → is_range_lane w.lane ≡ true → is_range_lane l ≡ false

abbrev AreFresh : Writes → Type 0
AreFresh ws = (w : Write) → Member w ws → IsFresh w

none-fresh : AreFresh []
none-fresh w m = absurd (member-none w m)

join-fresh : (ws vs : Writes) → AreFresh ws → AreFresh vs → AreFresh (ws ++ vs)
join-fresh ws vs h g w m = either-elim w ws vs (λ k. h w k) (λ k. g w k) m

undefined-fresh : (early : Bool) (ls : List Lane) → AreFresh (undefined early ls)
undefined-fresh early ls w m l e r =
    let z = map-of (λ x. write early x (Moved Undef)) w ls m in
    let same : Moved Undef ≡ Moved (FromLane l) = sym (ap (λ (v : Write). v.fill) z.2) ∙ e in
    absurd (cc)

computed-fresh : (early : Bool) (n : ℕ) (ls : List Lane) → AreFresh (computed early n ls)
computed-fresh early n [] w m = absurd (member-none w m)
computed-fresh early n (x ∷ ls) w m =
    member-elim w (write early x (Computed n)) (computed early (suc n) ls)
    (λ e l g r. absurd (let same : Computed n ≡ Moved (FromLane l) = sym (ap (λ (v : Write). v.fill) e) ∙ g in cc))
    (λ k. computed-fresh early (suc n) ls w k) m

-- where no source is a lane of a range
moved-fresh : (early : Bool) (ls : List Lane) (ss : List Source) → ((l : Lane) → Member (FromLane l) ss → is_range_lane l ≡ false) → AreFresh (moved early ls ss)
moved-fresh early ls ss h w m l e r =
    let z = move-at early ls ss w m in
    let same : z.source ≡ FromLane l = (let both : Moved z.source ≡ Moved (FromLane l) = sym z.fill ∙ e in cc) in
    h l (slice-member ss z.place (FromLane l) (z.from ∙ ap Some same))

-- where no lane of a range is written
elsewhere-fresh : (early : Bool) (ls : List Lane) (ss : List Source) → ((l : Lane) → Member l ls → is_range_lane l ≡ false) → AreFresh (moved early ls ss)
elsewhere-fresh early ls ss h w m l e r =
    let z = move-at early ls ss w m in
    let not-range : is_range_lane w.lane ≡ false = h w.lane (slice-member ls z.place w.lane z.lane) in
    absurd (let both : true ≡ false = sym r ∙ not-range in cc)

slots-only : (s : ℕ) (ks ws : List ℕ) (l : Lane) → Member l (slot_lanes s ks ws) → is_range_lane l ≡ false
slots-only s [] ws l m = absurd (member-none l m)
slots-only s (k ∷ ks) [] l m = absurd (member-none l m)
slots-only s (k ∷ ks) (w ∷ ws) l m = member-elim l (SlotLane s k w) (slot_lanes s ks ws) (λ e. ap is_range_lane e) (λ j. slots-only s ks ws l j) m

one-constant : (c : Constant) (low w : ℕ) (l : Lane) → constant_source c low w ≡ FromLane l → ⊥
one-constant (Immediate z) low w l e = cc
one-constant (StackAddress n) low w l e = cc
one-constant (FixedStackAddress n) low w l e = cc
one-constant (SymbolAddress name) low w l e = cc

no-lane : (c : Constant) (low : ℕ) (ws : List ℕ) (l : Lane) → Member (FromLane l) (constant_bits c low ws) → ⊥
no-lane c low [] l m = member-none (FromLane l) m
no-lane c low (w ∷ ws) l m = member-elim (FromLane l) (constant_source c low w) (constant_bits c (low + w) ws) (λ e. one-constant c low w l (sym e)) (λ k. no-lane c (low + w) ws l k) m

module _ (t : Target) (f : Function) where
  undef-fresh : (os : List Operand) → AreFresh (defined_undef t f os)
  undef-fresh [] = none-fresh
  undef-fresh (operands.Reg d ∷ os) = undefined-fresh false (operand_lanes t f d ++ undefined_lanes t f d)
  undef-fresh (o ∷ os) = none-fresh

  no-constant : (d : RegOp) (q : Option Constant) (l : Lane) → Member (FromLane l) (constant_lanes t f d q) → ⊥
  no-constant d None l m = member-none (FromLane l) m
  no-constant d (Some c) l m = no-lane c 0 (operand_widths t f d) l m

  constant-fresh : (early : Bool) (os : List Operand) → AreFresh (given_constant t f early os)
  constant-fresh early [] = none-fresh
  constant-fresh early (operands.Reg d ∷ []) = none-fresh
  constant-fresh early (operands.Reg d ∷ o ∷ os) =
      join-fresh (moved early (operand_lanes t f d) (constant_lanes t f d (constant_of _ o))) (undefined early (undefined_lanes t f d))
      (moved-fresh early (operand_lanes t f d) (constant_lanes t f d (constant_of _ o)) (λ l m. absurd (no-constant d (constant_of _ o) l m)))
      (undefined-fresh early (undefined_lanes t f d))
  constant-fresh early (o ∷ os) = none-fresh

  beside : (o : RegOp) (s : ℕ) (k : Operand) (l : Lane) → Member l (lanes_beside t f o s k) → is_range_lane l ≡ false
  beside o s k l m = slots-only s (slot_lane_numbers t (operand_widths t f o) k) (operand_widths t f o) l m

  spill-fresh : (os : List Operand) → AreFresh (spilled t f os)
  spill-fresh (operands.Reg o ∷ operands.Stack s ∷ k ∷ os) =
      join-fresh (moved false (lanes_beside t f o s k) (use_sources t f o)) (undefined false (at_all_widths t s (slot_lane_numbers t (operand_widths t f o) k)))
      (elsewhere-fresh false (lanes_beside t f o s k) (use_sources t f o) (λ l m. beside o s k l m))
      (undefined-fresh false (at_all_widths t s (slot_lane_numbers t (operand_widths t f o) k)))
  spill-fresh os = none-fresh

  reload-fresh : (early : Bool) (os : List Operand) → AreFresh (reloaded t f early os)
  reload-fresh early (operands.Reg o ∷ operands.Stack s ∷ k ∷ os) =
      join-fresh (moved early (operand_lanes t f o) (map FromLane (lanes_beside t f o s k))) (undefined early (undefined_lanes t f o))
      (moved-fresh early (operand_lanes t f o) (map FromLane (lanes_beside t f o s k)) from)
      (undefined-fresh early (undefined_lanes t f o))
    where
      from : (l : Lane) → Member (FromLane l) (map FromLane (lanes_beside t f o s k)) → is_range_lane l ≡ false
      from l m =
          let z = map-of FromLane (FromLane l) (lanes_beside t f o s k) m in
          let same : l ≡ z.0 = (let both : FromLane l ≡ FromLane z.0 = z.2 in cc) in
          ap is_range_lane same ∙ beside o s k z.0 z.1
  reload-fresh early os = none-fresh

  silent-fresh : (e : Effect) (early : Bool) (os : List Operand) → is_copy e ≡ false → is_lowered_away e ≡ false → AreFresh (silent_writes t f e early os)
  silent-fresh effects.Copy early os c l = absurd (cc)
  silent-fresh effects.ImplicitDef early os c l = undef-fresh os
  silent-fresh effects.RegSequence early os c l = absurd (cc)
  silent-fresh effects.InsertSubreg early os c l = absurd (cc)
  silent-fresh effects.Const early os c l = constant-fresh early os
  silent-fresh effects.Addr early os c l = constant-fresh early os
  silent-fresh effects.Spill early os c l = spill-fresh os
  silent-fresh effects.Reload early os c l = reload-fresh early os
  silent-fresh e early os c l = none-fresh

  results-fresh : (n : ℕ) (ds : List Definition) → AreFresh (results t f n ds)
  results-fresh n [] = none-fresh
  results-fresh n (d ∷ ds) =
      let own = computed d.0 n (operand_lanes t f d.1) in
      let others = undefined d.0 (undefined_lanes t f d.1) in
      let rest = results t f (n + length (operand_lanes t f d.1)) ds in
      join-fresh (own ++ others) rest (join-fresh own others (computed-fresh d.0 n (operand_lanes t f d.1)) (undefined-fresh d.0 (undefined_lanes t f d.1))) (results-fresh (n + length (operand_lanes t f d.1)) ds)

  kept-fresh : (ws : Writes) → AreFresh ws → AreFresh (kept t ws)
  kept-fresh ws h w m = h w (filter-of (λ v. not (is_reserved t v.lane)) w ws m).0

  implicit-fresh : (e : Effect) (rs : List Role) (os : List Operand) → AreFresh (implicit_writes t f e rs os)
  implicit-fresh effects.Cmp rs os =
      let flags = all_lanes t f (filter (is_flags rs) (implicit_definitions os)) in
      let lanes = all_lanes t f (implicit_definitions os) in
      kept-fresh (computed false 0 flags ++ undefined false lanes) (join-fresh (computed false 0 flags) (undefined false lanes) (computed-fresh false 0 flags) (undefined-fresh false lanes))
  implicit-fresh effects.Call rs os = join-fresh (computed false 0 (answered t f os)) (undefined false (clobbered t os)) (computed-fresh false 0 (answered t f os)) (undefined-fresh false (clobbered t os))
  implicit-fresh e rs os = undefined-fresh false (unreserved t (all_lanes t f (implicit_definitions os)))

  clobbers-fresh : (kind : OpaqueKind) (os : List Operand) → AreFresh (opaque_clobbers t kind os)
  clobbers-fresh kinds.Call os = undefined-fresh false (clobbered t os)
  clobbers-fresh kind os = none-fresh

  further-fresh : (e : Effect) (i : Instr) → AreFresh (further_writes t f e i)
  further-fresh (effects.Opaque kind) i =
      let n = length (defined_lanes t f (definitions (roles_of t i) i.operands)) in
      let lanes = all_lanes t f (implicit_definitions i.operands) in
      join-fresh (computed false n lanes) (opaque_clobbers t kind i.operands) (computed-fresh false n lanes) (clobbers-fresh kind i.operands)
  further-fresh e i = implicit-fresh e (implicit_roles (roles_of t i)) i.operands

  counted-fresh : (e : Effect) (i : Instr) → AreFresh (counted_writes t f e i)
  counted-fresh e i = join-fresh (results t f 0 (definitions (roles_of t i) i.operands)) (further_writes t f e i) (results-fresh 0 (definitions (roles_of t i) i.operands)) (further-fresh e i)

  -- so it is of each instruction of lowered form but copies
  pub item-fresh : (b : Block) (i : Instr) (e : Effect) → effect_of t i ≡ Some e → is_copy e ≡ false → is_lowered_away e ≡ false → AreFresh (writes_of (item_of t f b i))
  unfolding item_of
  item-fresh b i e known c l w m = go (is_silent e) (subst (λ q. Member w (writes_of (elim q as (λ o. Item) [ None ↦ Silent [] [] | Some x ↦ effect_item t f b i x ]))) known m)
    where
      go : (s : Bool) → Member w (writes_of (cond s (Silent (silent_reads t f e i.operands) (silent_writes t f e (is_early_clobber (roles_of t i)) i.operands)) (Counted (rest_of t f e i) (map (λ v. v.0) (values t f e i)) (counted_writes t f e i) (option_map (way t f b.number) (target_of i.operands)) (cond (is_terminator e) (ways_out t f b) [])))) → IsFresh w
      go true k = silent-fresh e (is_early_clobber (roles_of t i)) i.operands c l w k
      go false k = counted-fresh e i w k
