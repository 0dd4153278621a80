-- What instructions give to reserved lanes and to lanes of slots.
use Rattle.std.proofs.Common.{◌≡◌, ◌⊎◌, inl, inr, ◌∷◌, ◌++◌, ◌+◌, ◌∙◌, ◌&&◌, not, ℕ, suc, Bool, true, false, cond, List, [], Option, Some, None, map, filter, length, refl, sym, ap, subst}
use Rattle.std.specs.Prelude.{option_map}
use Rattle.target_base.specs.declared.types.Effect.{Effect}
use Rattle.target_base.specs.declared.types.Effect.TheVariants as effects
use Rattle.target_base.specs.declared.types.IndexId.{IndexId}
use Rattle.target_base.specs.declared.types.OpaqueKind.{OpaqueKind}
use Rattle.target_base.specs.declared.types.OpaqueKind.TheVariants as kinds
use Rattle.target_base.specs.declared.types.Role.{Role}
use Rattle.target_base.specs.declared.types.Target.{Target}
use Rattle.target_base.specs.Registers.{lanes_of, units_of}
use Rattle.target_base.specs.Roles.{is_silent}
use Rattle.target_base.specs.Rules.{is_copy}
use Rattle.meaning.specs.declared.types.Lane.{Lane}
use Rattle.meaning.specs.declared.types.Lane.TheVariants.{SlotLane, UnitLane, VirtualLane}
use Rattle.meaning.specs.declared.types.Constant.{Constant}
use Rattle.meaning.specs.declared.types.Constant.TheVariants.{FixedStackAddress, Immediate, StackAddress, SymbolAddress}
use Rattle.meaning.specs.declared.types.Source.{Source}
use Rattle.meaning.specs.declared.types.Source.TheVariants.{FromLane, Undef}
use Rattle.meaning.specs.declared.types.Fill.TheVariants.{Computed, Moved}
use Rattle.meaning.specs.declared.types.Write.{Write}
use Rattle.meaning.specs.Environment.{constant_source}
use Rattle.meaning.specs.Lanes.{Writes, filled, same_lane}
use Rattle.meaning.specs.Code.{BlockEnd, BlockStart, Counted, Item, Silent}
use Rattle.meaning.specs.Live.{Among as Member, here as first, there as later, is_slot, writes_of}
use Rattle.laws.proofs.Flow.{filled-from, lane-inj}
use Rattle.laws.proofs.Quiet.{same-true}
use Rattle.mir_func.specs.declared.func.Edge.{Edge as Successor}
use Rattle.mir_func.specs.declared.func.Loc.{Loc}
use Rattle.mir_func.specs.declared.func.Loc.TheVariants.{Fixed, Virtual}
use Rattle.mir_func.specs.declared.func.RegOp.{RegOp}
use Rattle.mir_func.specs.declared.func.Operand.{Operand}
use Rattle.mir_func.specs.declared.func.Operand.TheVariants as operands
use Rattle.mir_func.specs.declared.func.Instr.{Instr}
use Rattle.mir_func.specs.declared.func.Block.{Block}
use Rattle.mir_func.specs.Value.{Function}
use Rattle.mir_func.specs.Binding.{Definition, definitions, effect_of, implicit_roles, is_early_clobber, is_terminator, puts_together, roles_of}
use Rattle.mir_meaning.specs.Codes.{effect_item, item_of, target_of, way, ways_out}
use Rattle.mir_meaning.specs.Items.{all_lanes, answered, clobbered, computed, constant_bits, constant_lanes, constant_of, copied, counted_writes, defined_lanes, defined_undef, further_writes, given_constant, implicit_definitions, implicit_writes, is_flags, kept, moved, opaque_clobbers, rest_of, results, silent_reads, silent_writes, undefined, unreserved, values, write}
use Rattle.mir_meaning.specs.Registers.{is_reserved, located_lanes, numbers, operand_lanes, operand_widths, range_widths, undefined_lanes, use_sources, whole_lanes}
use Rattle.mir_meaning.specs.Rules.{spills_or_reloads}
use Rattle.instr_effects.proofs.Members.{either-elim, filter-of, map-of, member-elim, member-none}
use Rattle.ready_laws.proofs.Lived.{AllBare, Fine, KeepsNone, NoStores}

-- no write gives a lane's value
abbrev pub GivesNone : Writes → Type 0
GivesNone ws = (w : Write) → Member w ws → (l : Lane) → w.fill ≡ Moved (FromLane l) → ⊥

none-given : GivesNone []
none-given w m = absurd (member-none w m)

join-none : (ws vs : Writes) → GivesNone ws → GivesNone vs → GivesNone (ws ++ vs)
join-none ws vs h g w m = either-elim w ws vs (λ k. h w k) (λ k. g w k) m

undefined-none : (early : Bool) (ls : List Lane) → GivesNone (undefined early ls)
undefined-none early ls w m l e =
    let z = map-of (λ x. write early x (Moved Undef)) w ls m in
    let same : Moved Undef ≡ Moved (FromLane l) = sym (ap (λ (v : Write). v.fill) z.2) ∙ e in
    absurd (cc)

computed-none : (early : Bool) (n : ℕ) (ls : List Lane) → GivesNone (computed early n ls)
computed-none early n [] w m = absurd (member-none w m)
computed-none early n (x ∷ ls) w m =
    member-elim w (write early x (Computed n)) (computed early (suc n) ls)
    (λ e l g. absurd (let same : Computed n ≡ Moved (FromLane l) = sym (ap (λ (v : Write). v.fill) e) ∙ g in cc))
    (λ k. computed-none early (suc n) ls w k) m

-- where no source is a lane
moved-none : (early : Bool) (ls : List Lane) (ss : List Source) → ((s : Source) (l : Lane) → Member s ss → s ≡ FromLane l → ⊥) → GivesNone (moved early ls ss)
moved-none early [] ss h w m = absurd (member-none w m)
moved-none early (l ∷ ls) [] h w m = absurd (member-none w m)
moved-none early (l ∷ ls) (s ∷ ss) h w m =
    member-elim w (write early l (Moved s)) (moved early ls ss)
    (λ e k g. h s k first (let both : Moved s ≡ Moved (FromLane k) = sym (ap (λ (v : Write). v.fill) e) ∙ g in cc))
    (λ j. moved-none early ls ss (λ q k n. h q k (later n)) w j) m

one-constant : (c : Constant) (low w : ℕ) (l : Lane) → constant_source c low w ≡ FromLane l → ⊥
one-constant (Immediate z) low w l e = cc
one-constant (StackAddress n) low w l e = cc
one-constant (FixedStackAddress n) low w l e = cc
one-constant (SymbolAddress name) low w l e = cc

bits-none : (c : Constant) (low : ℕ) (ws : List ℕ) (s : Source) (l : Lane) → Member s (constant_bits c low ws) → s ≡ FromLane l → ⊥
bits-none c low [] s l m e = member-none s m
bits-none c low (w ∷ ws) s l m e = member-elim s (constant_source c low w) (constant_bits c (low + w) ws) (λ q. one-constant c low w l (sym q ∙ e)) (λ k. bits-none c (low + w) ws s l k e) m

-- a lane is given another one's value only by a write of it
given-by : (ws : Writes) (a l : Lane) → filled ws a ≡ Moved (FromLane l) → (l ≡ a) ⊎ ((w : Write) × Member w ws × (w.lane ≡ a))
given-by [] a l e = inl (sym (lane-inj a l e))
given-by (v ∷ ws) a l e = go (same_lane v.lane a) refl (given-by ws a l)
  where
    more : (l ≡ a) ⊎ ((w : Write) × Member w ws × (w.lane ≡ a)) → (l ≡ a) ⊎ ((w : Write) × Member w (v ∷ ws) × (w.lane ≡ a))
    more (inl h) = inl h
    more (inr h) = inr (h.0, later h.1, h.2)

    go : (b : Bool) → same_lane v.lane a ≡ b → (filled ws a ≡ Moved (FromLane l) → (l ≡ a) ⊎ ((w : Write) × Member w ws × (w.lane ≡ a))) → (l ≡ a) ⊎ ((w : Write) × Member w (v ∷ ws) × (w.lane ≡ a))
    go true q on = inr (v, first, same-true v.lane a q)
    go false q on = more (on (sym (ap (λ c. cond c v.fill (filled ws a)) q) ∙ e))

pub none-keeps : (R : Lane → Bool) (ws : Writes) → GivesNone ws → KeepsNone R ws
none-keeps R ws none a l r e = go (filled-from ws a l e)
  where
    go : (l ≡ a) ⊎ ((w : Write) × Member w ws × (w.fill ≡ Moved (FromLane l))) → R l ≡ true
    go (inl q) = ap R q ∙ r
    go (inr z) = absurd (none z.0 z.1 l z.2)

pub none-stores : (ws : Writes) → GivesNone ws → NoStores ws
none-stores ws none s k w l e = go (filled-from ws (SlotLane s k w) l e)
  where
    go : (l ≡ SlotLane s k w) ⊎ ((v : Write) × Member v ws × (v.fill ≡ Moved (FromLane l))) → is_slot l ≡ true
    go (inl q) = ap is_slot q
    go (inr z) = absurd (none z.0 z.1 l z.2)

-- where no lane of a slot is written
beside-stores : (ws : Writes) → ((w : Write) → Member w ws → is_slot w.lane ≡ false) → NoStores ws
beside-stores ws h s k w l e = go (given-by ws (SlotLane s k w) l e)
  where
    go : (l ≡ SlotLane s k w) ⊎ ((v : Write) × Member v ws × (v.lane ≡ SlotLane s k w)) → is_slot l ≡ true
    go (inl q) = ap is_slot q
    go (inr z) = absurd (let y : true ≡ false = sym (ap is_slot z.2) ∙ h z.0 z.1 in cc)

-- where no reserved lane is written
beside-keeps : (R : Lane → Bool) (ws : Writes) → ((w : Write) → Member w ws → R w.lane ≡ false) → KeepsNone R ws
beside-keeps R ws h a l r e = go (given-by ws a l e)
  where
    go : (l ≡ a) ⊎ ((v : Write) × Member v ws × (v.lane ≡ a)) → R l ≡ true
    go (inl q) = ap R q ∙ r
    go (inr z) = absurd (let y : true ≡ false = sym r ∙ (sym (ap R z.2) ∙ h z.0 z.1) in cc)

moved-lane : (early : Bool) (ls : List Lane) (ss : List Source) (P : Lane → Type 0) → ((a : Lane) → Member a ls → P a) → (w : Write) → Member w (moved early ls ss) → P w.lane
moved-lane early [] ss P h w m = absurd (member-none w m)
moved-lane early (l ∷ ls) [] P h w m = absurd (member-none w m)
moved-lane early (l ∷ ls) (s ∷ ss) P h w m =
    member-elim w (write early l (Moved s)) (moved early ls ss)
    (λ e. subst P (sym (ap (λ (v : Write). v.lane) e)) (h l first))
    (λ k. moved-lane early ls ss P (λ a n. h a (later n)) w k) m

undefined-lane : (early : Bool) (ls : List Lane) (P : Lane → Type 0) → ((a : Lane) → Member a ls → P a) → (w : Write) → Member w (undefined early ls) → P w.lane
undefined-lane early ls P h w m = let z = map-of (λ x. write early x (Moved Undef)) w ls m in subst P (sym (ap (λ (v : Write). v.lane) z.2)) (h z.0 z.1)

module _ (t : Target) (g : Function) where
  abbrev R : Lane → Bool
  R = is_reserved t

  -- lanes of operands

  range-lane : (v : ℕ) (P : Lane → Type 0) → ((k : ℕ) → P (VirtualLane v k)) → (x : Option IndexId) (a : Lane) → Member a (located_lanes t g (Virtual v) x) → P a
  range-lane v P h None a m = let z = map-of (VirtualLane v) a (numbers 0 (length (range_widths t g v))) m in subst P (sym z.2) (h z.0)
  range-lane v P h (Some x) a m = let z = map-of (VirtualLane v) a (lanes_of t x) m in subst P (sym z.2) (h z.0)

  no-slot : (l : Loc) (x : Option IndexId) (a : Lane) → Member a (located_lanes t g l x) → is_slot a ≡ false
  no-slot (Virtual v) x a m = range-lane v (λ q. is_slot q ≡ false) (λ k. refl) x a m
  no-slot (Fixed r) x a m = let z = map-of (λ u. UnitLane u.0) a (units_of t r) m in ap is_slot z.2

  whole-lane : (l : Loc) (P : Lane → Type 0) → ((x : Option IndexId) (a : Lane) → Member a (located_lanes t g l x) → P a) → (a : Lane) → Member a (whole_lanes t g l) → P a
  whole-lane (Virtual v) P h a m = h None a m
  whole-lane (Fixed r) P h a m = absurd (member-none a m)

  undefined-lanes : (d : RegOp) (P : Lane → Type 0) → ((x : Option IndexId) (a : Lane) → Member a (located_lanes t g d.loc x) → P a) → (a : Lane) → Member a (undefined_lanes t g d) → P a
  undefined-lanes d P h a m = go (d.def && d.undef) m
    where
      go : (b : Bool) → Member a (cond b (whole_lanes t g d.loc) []) → P a
      go true k = whole-lane d.loc P h a k
      go false k = absurd (member-none a k)

  copied-lane : (os : List Operand) (P : Lane → Type 0) → ((d : RegOp) → Member (operands.Reg d) os → (x : Option IndexId) (a : Lane) → Member a (located_lanes t g d.loc x) → P a) → (w : Write) → Member w (copied t g os) → P w.lane
  copied-lane (operands.Reg d ∷ operands.Reg s ∷ os) P h w m =
      let own = h d first in
      either-elim w (moved false (operand_lanes t g d) (use_sources t g s)) (undefined false (undefined_lanes t g d))
      (λ k. moved-lane false (operand_lanes t g d) (use_sources t g s) P (λ a n. own d.index a n) w k)
      (λ k. undefined-lane false (undefined_lanes t g d) P (undefined-lanes d P own) w k) m
  copied-lane os P h w m = absurd (member-none w m)

  -- what other instructions write

  undef-none : (os : List Operand) → GivesNone (defined_undef t g os)
  undef-none [] = none-given
  undef-none (operands.Reg d ∷ os) = undefined-none false (operand_lanes t g d ++ undefined_lanes t g d)
  undef-none (o ∷ os) = none-given

  lanes-none : (d : RegOp) (q : Option Constant) (s : Source) (l : Lane) → Member s (constant_lanes t g d q) → s ≡ FromLane l → ⊥
  lanes-none d None s l m e = member-none s m
  lanes-none d (Some c) s l m e = bits-none c 0 (operand_widths t g d) s l m e

  constant-none : (early : Bool) (os : List Operand) → GivesNone (given_constant t g early os)
  constant-none early [] = none-given
  constant-none early (operands.Reg d ∷ []) = none-given
  constant-none early (operands.Reg d ∷ o ∷ os) =
      join-none (moved early (operand_lanes t g d) (constant_lanes t g d (constant_of _ o))) (undefined early (undefined_lanes t g d))
      (moved-none early (operand_lanes t g d) (constant_lanes t g d (constant_of _ o)) (λ s l m. lanes-none d (constant_of _ o) s l m))
      (undefined-none early (undefined_lanes t g d))
  constant-none early (o ∷ os) = none-given

  silent-none : (e : Effect) (early : Bool) (os : List Operand) → is_copy e ≡ false → puts_together e ≡ false → spills_or_reloads e ≡ false → GivesNone (silent_writes t g e early os)
  silent-none effects.Copy early os c l s = absurd (cc)
  silent-none effects.ImplicitDef early os c l s = undef-none os
  silent-none effects.RegSequence early os c l s = absurd (cc)
  silent-none effects.InsertSubreg early os c l s = absurd (cc)
  silent-none effects.Const early os c l s = constant-none early os
  silent-none effects.Addr early os c l s = constant-none early os
  silent-none effects.Spill early os c l s = absurd (cc)
  silent-none effects.Reload early os c l s = absurd (cc)
  silent-none e early os c l s = none-given

  results-none : (n : ℕ) (ds : List Definition) → GivesNone (results t g n ds)
  results-none n [] = none-given
  results-none n (d ∷ ds) =
      let own = computed d.0 n (operand_lanes t g d.1) in
      let others = undefined d.0 (undefined_lanes t g d.1) in
      let rest = results t g (n + length (operand_lanes t g d.1)) ds in
      join-none (own ++ others) rest (join-none own others (computed-none d.0 n (operand_lanes t g d.1)) (undefined-none d.0 (undefined_lanes t g d.1))) (results-none (n + length (operand_lanes t g d.1)) ds)

  kept-none : (ws : Writes) → GivesNone ws → GivesNone (kept t ws)
  kept-none ws h w m = h w (filter-of (λ v. not (is_reserved t v.lane)) w ws m).0

  implicit-none : (e : Effect) (rs : List Role) (os : List Operand) → GivesNone (implicit_writes t g e rs os)
  implicit-none effects.Cmp rs os =
      let flags = all_lanes t g (filter (is_flags rs) (implicit_definitions os)) in
      let lanes = all_lanes t g (implicit_definitions os) in
      kept-none (computed false 0 flags ++ undefined false lanes) (join-none (computed false 0 flags) (undefined false lanes) (computed-none false 0 flags) (undefined-none false lanes))
  implicit-none effects.Call rs os = join-none (computed false 0 (answered t g os)) (undefined false (clobbered t os)) (computed-none false 0 (answered t g os)) (undefined-none false (clobbered t os))
  implicit-none e rs os = undefined-none false (unreserved t (all_lanes t g (implicit_definitions os)))

  clobbers-none : (kind : OpaqueKind) (os : List Operand) → GivesNone (opaque_clobbers t kind os)
  clobbers-none kinds.Call os = undefined-none false (clobbered t os)
  clobbers-none kind os = none-given

  further-none : (e : Effect) (i : Instr) → GivesNone (further_writes t g e i)
  further-none (effects.Opaque kind) i =
      let n = length (defined_lanes t g (definitions (roles_of t i) i.operands)) in
      let lanes = all_lanes t g (implicit_definitions i.operands) in
      join-none (computed false n lanes) (opaque_clobbers t kind i.operands) (computed-none false n lanes) (clobbers-none kind i.operands)
  further-none e i = implicit-none e (implicit_roles (roles_of t i)) i.operands

  counted-none : (e : Effect) (i : Instr) → GivesNone (counted_writes t g e i)
  counted-none e i = join-none (results t g 0 (definitions (roles_of t i) i.operands)) (further_writes t g e i) (results-none 0 (definitions (roles_of t i) i.operands)) (further-none e i)

  -- instructions

  -- it reads nothing by itself and stores no register, and its ways have no phis
  abbrev pub IsStill : Item → Type 0
  IsStill (BlockStart n) = ⊥
  IsStill (BlockEnd falls exits) = ⊥
  IsStill (Silent reads ws) = (reads ≡ []) × NoStores ws
  IsStill (Counted r reads ws target exits) = AllBare exits × NoStores ws

  -- and it gives no register to a reserved lane
  abbrev pub IsCalm : Item → Type 0
  IsCalm x = IsStill x × KeepsNone R (writes_of x)

  reads-none : (e : Effect) (os : List Operand) → puts_together e ≡ false → silent_reads t g e os ≡ []
  reads-none effects.RegSequence os n = absurd (cc)
  reads-none effects.InsertSubreg os n = absurd (cc)
  reads-none e os n = refl

  module _ (bare : (n m : ℕ) → (way t g n m).phis ≡ []) (b : Block) where
    bare-ways : (n : ℕ) (ss : List Successor) → AllBare (map (λ e. way t g n e.block) ss)
    bare-ways n ss e m = let z = map-of (λ (s : Successor). way t g n s.block) e ss m in ap (λ x. x.phis) z.2 ∙ bare n z.0.block

    bare-if : (y : Bool) → AllBare (cond y (ways_out t g b) [])
    bare-if true = bare-ways b.number b.successors
    bare-if false = λ e m. absurd (member-none e m)

    item-is : (i : Instr) (e : Effect) → effect_of t i ≡ Some e → item_of t g b i ≡ effect_item t g b i e
    unfolding item_of
    item-is i e known = ap (λ q. elim q as (λ o. Item) [ None ↦ Silent [] [] | Some x ↦ effect_item t g b i x ]) known

    effect-calm : (i : Instr) (e : Effect) → is_copy e ≡ false → puts_together e ≡ false → spills_or_reloads e ≡ false → IsCalm (effect_item t g b i e)
    effect-calm i e one two three = go (is_silent e)
      where
        early : Bool
        early = is_early_clobber (roles_of t i)

        go : (y : Bool) → IsCalm (cond y (Silent (silent_reads t g e i.operands) (silent_writes t g e (is_early_clobber (roles_of t i)) i.operands)) (Counted (rest_of t g e i) (map (λ v. v.0) (values t g e i)) (counted_writes t g e i) (option_map (way t g b.number) (target_of i.operands)) (cond (is_terminator e) (ways_out t g b) [])))
        go true =
            let none = silent-none e (is_early_clobber (roles_of t i)) i.operands one two three in
            ((reads-none e i.operands two, none-stores _ none), none-keeps R _ none)
        go false =
            let none = counted-none e i in
            ((bare-if (is_terminator e), none-stores _ none), none-keeps R _ none)

    pub calm : (i : Instr) (e : Effect) → effect_of t i ≡ Some e → is_copy e ≡ false → puts_together e ≡ false → spills_or_reloads e ≡ false → IsCalm (item_of t g b i)
    calm i e known one two three = subst IsCalm (sym (item-is i e known)) (effect-calm i e one two three)

    pub copy-still : (i : Instr) → effect_of t i ≡ Some effects.Copy → IsStill (item_of t g b i)
    copy-still i known =
        subst IsStill (sym (item-is i effects.Copy known))
        (refl, beside-stores (copied t g i.operands) (copied-lane i.operands (λ a. is_slot a ≡ false) (λ d m x a n. no-slot d.loc x a n)))

    -- any copy, where nothing follows it
    pub copy-fine : (i : Instr) → effect_of t i ≡ Some effects.Copy → Fine R (item_of t g b i ∷ [])
    copy-fine i known =
        subst (λ x. Fine R (x ∷ [])) (sym (item-is i effects.Copy known))
        (refl, beside-stores (copied t g i.operands) (copied-lane i.operands (λ a. is_slot a ≡ false) (λ d m x a n. no-slot d.loc x a n)), inr refl, tt)

    -- a copy into a virtual register
    pub copy-calm : (i : Instr) (d s : RegOp) (v : ℕ) → effect_of t i ≡ Some effects.Copy → i.operands ≡ operands.Reg d ∷ operands.Reg s ∷ [] → d.loc ≡ Virtual v → IsCalm (item_of t g b i)
    copy-calm i d s v known are loc = (
      copy-still i known,
      subst (λ x. KeepsNone R (writes_of x)) (sym (item-is i effects.Copy known))
          (subst (λ os. KeepsNone R (copied t g os)) (sym are) (beside-keeps R (copied t g (operands.Reg d ∷ operands.Reg s ∷ [])) free)),
    )
      where
        own : (a : Lane) (x : Option IndexId) → Member a (located_lanes t g d.loc x) → R a ≡ false
        own a x m = range-lane v (λ q. R q ≡ false) (λ k. refl) x a (subst (λ l. Member a (located_lanes t g l x)) loc m)

        free : (w : Write) → Member w (copied t g (operands.Reg d ∷ operands.Reg s ∷ [])) → R w.lane ≡ false
        free w m =
            either-elim w (moved false (operand_lanes t g d) (use_sources t g s)) (undefined false (undefined_lanes t g d))
            (λ k. moved-lane false (operand_lanes t g d) (use_sources t g s) (λ a. R a ≡ false) (λ a n. own a d.index n) w k)
            (λ k. undefined-lane false (undefined_lanes t g d) (λ a. R a ≡ false) (undefined-lanes d (λ a. R a ≡ false) (λ x a n. own a x n)) w k) m
