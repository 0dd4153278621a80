-- What counted instructions write of units, by their operands.
use Rattle.std.proofs.Common.{◌≡◌, ◌⊎◌, ◌∙◌, ◌<◌, ℕ, suc, Bool, true, false, cond, not, List, [], ◌∷◌, ◌++◌, Option, Some, None, refl, sym, ap, subst, map, length, inl, inr, arith, eq-eqb, eqb-true}
use Rattle.std.specs.Prelude.{◌↔◌, ◌&&◌, ◌||◌, ◌==◌, option_map}
use Rattle.std.specs.List.{list_any}
use Rattle.target_base.specs.declared.types.Effect.{Effect}
use Rattle.target_base.specs.declared.types.Effect.TheVariants as effects
use Rattle.target_base.specs.declared.types.IndexId.{IndexId}
use Rattle.target_base.specs.declared.types.Unit.{Unit as UnitNumber}
use Rattle.target_base.specs.declared.types.Target.{Target}
use Rattle.target_base.specs.Numbers.{unit_number}
use Rattle.target_base.specs.Registers.{units_of, lanes_of, is_reserved_unit}
use Rattle.target_base.specs.Roles.{is_silent}
use Rattle.target_base.specs.Rules.{is_phi}
use Rattle.target_base.proofs.Tests.{first_of_both, second_of_both}
use Rattle.meaning.specs.declared.types.Lane.{Lane}
use Rattle.meaning.specs.declared.types.Lane.TheVariants.{VirtualLane, UnitLane}
use Rattle.meaning.specs.declared.types.Fill.TheVariants.{Computed}
use Rattle.meaning.specs.declared.types.Write.{Write}
use Rattle.meaning.specs.Lanes.{Writes}
use Rattle.meaning.specs.Code.{Silent, Counted}
use Rattle.meaning.specs.Live.{Among as Member, here as first, there as later, Writing, WritingEarly, writes_of}
use Rattle.mir_func.specs.declared.func.Loc.{Loc}
use Rattle.mir_func.specs.declared.func.Loc.TheVariants.{Virtual, Fixed}
use Rattle.mir_func.specs.declared.func.RegOp.{RegOp}
use Rattle.mir_func.specs.declared.func.Operand.{Operand}
use Rattle.mir_func.specs.declared.func.Operand.TheVariants as operands
use Rattle.mir_func.specs.declared.func.Instr.{Instr}
use Rattle.mir_func.specs.declared.func.Block.{Block}
use Rattle.mir_func.specs.Value.{Function}
use Rattle.mir_func.specs.Binding.{Definition, as_register, definitions, does, effect_of, implicit_registers, implicit_roles, is_early_clobber, is_terminator, passes, registers, roles_of}
use Rattle.mir_meaning.specs.Items.{all_lanes, computed, counted_writes, defined_undef, rest_of, silent_reads, silent_writes, values, implicit_definitions, further_writes, preserves, results, undefined, write}
use Rattle.mir_meaning.specs.Points.{point_item}
use Rattle.mir_meaning.specs.Codes.{effect_item, item_of, target_of, way, ways_out}
use Rattle.mir_meaning.specs.Registers.{is_reserved, located_lanes, numbers, operand_lanes, range_widths, undefined_lanes, whole_lanes}
use Rattle.instr_effects.specs.Acts.{silent_acts, call_writes, counted_acts, effect_acts, entered_writes, is_call, unpreserved}
use Rattle.instr_effects.specs.Steps.{Numbering}
use Rattle.instr_effects.specs.Stepping.{tag_of}
use Rattle.instr_effects.specs.declared.owner.Owner.TheVariants as owners
use Rattle.instr_effects.proofs.CountedSteps.{counted-law}
use Rattle.instr_effects.proofs.Defined.{definition-in, definition-of, results-in, results-of}
use Rattle.live_laws.specs.Effects.Shaped.{is_proper}
use Rattle.instr_effects.proofs.Members.{member-none, member-elim, left-in, right-in, in-either, flat-of, flat-in, filter-of, filter-in, map-of, map-in}
use Rattle.live_laws.specs.Effects.Coded.{KeepsRules, IsNumbered}
use Rattle.live_laws.proofs.Effects.Blocks.{filtered-of, filtered-in}
use Rattle.live_laws.proofs.Effects.Flags.{Wrote}
use Rattle.live_laws.proofs.Effects.Definitions.{Reaches, result-reaches}
use Rattle.live_laws.proofs.Effects.FlagsOf.{uniform-further}
use Rattle.live_laws.proofs.Effects.Instrs.{same-law}
use Rattle.live_laws.proofs.Effects.Lists.{any-in}
use Rattle.live_laws.proofs.Effects.Moved.{undefined-lane, undefined-in}
use Rattle.live_laws.proofs.Effects.Shapes.{numbers-in}
use Rattle.place_solve.specs.Positions.{has_unit, keeps_unit, defines, defines_early, clobbers, writes, writes_early}

pub any-of : {X : Type 0} (p : X → Bool) (xs : List X) → list_any p xs ≡ true → (x : X) × Member x xs × (p x ≡ true)
any-of p [] e = absurd (cc)
any-of {X} p (x ∷ xs) e = go (p x) refl e (any-of p xs)
  where
    go : (b : Bool) → p x ≡ b → (b || list_any p xs) ≡ true → (list_any p xs ≡ true → (y : X) × Member y xs × (p y ≡ true)) → (y : X) × Member y (x ∷ xs) × (p y ≡ true)
    go true g h ih = (x, first, g)
    go false g h ih = let z = ih h in (z.0, later z.1, z.2)

any-alike : {X : Type 0} (p q : X → Bool) → ((x : X) → p x ≡ q x) → (xs : List X) → list_any p xs ≡ list_any q xs
any-alike p q h [] = refl
any-alike p q h (x ∷ xs) = ap (λ b. b || list_any p xs) (h x) ∙ ap (λ b. q x || b) (any-alike p q h xs)

pub either-true : (a b : Bool) → (a || b) ≡ true → (a ≡ true) ⊎ (b ≡ true)
either-true true b e = inl refl
either-true false b e = inr e

pub or-left : (a b : Bool) → a ≡ true → (a || b) ≡ true
or-left true b e = refl
or-left false b e = absurd (cc)

pub or-right : (a b : Bool) → b ≡ true → (a || b) ≡ true
or-right true b e = refl
or-right false b e = e

pub both : (a b : Bool) → a ≡ true → b ≡ true → (a && b) ≡ true
both true b e h = h
both false b e h = absurd (cc)

unit-same : (u w : ℕ) → UnitLane u ≡ UnitLane w → u ≡ w
unit-same u w e = cc

computed-lane : (b : Bool) (n : ℕ) (ls : List Lane) (w : Write) → Member w (computed b n ls) → Member w.lane ls
computed-lane b n [] w m = absurd (member-none w m)
computed-lane b n (l ∷ ls) w m = member-elim w (write b l (Computed n)) (computed b (suc n) ls) (λ e. subst (λ k. Member k (l ∷ ls)) (sym (ap (λ v. v.lane) e)) first) (λ k. later (computed-lane b (suc n) ls w k)) m

computed-in : (b : Bool) (n : ℕ) (ls : List Lane) (l : Lane) → Member l ls → (w : Write) × Member w (computed b n ls) × (w.lane ≡ l) × (w.early ≡ b)
computed-in b n [] l m = absurd (member-none l m)
computed-in b n (k ∷ ls) l m = member-elim l k ls (λ e. (write b k (Computed n), first, sym e, refl)) (λ j. let z = computed-in b (suc n) ls l j in (z.0, later z.1, z.2, z.3)) m

-- register operands

register-of : (os : List Operand) (d : RegOp) → Member d (registers os) → Member (operands.Reg d) os
register-of os d m = let z = filtered-of as_register d os m in subst (λ o. Member o os) (go z.0 z.2) z.1
  where
    go : (o : Operand) → as_register o ≡ Some d → o ≡ operands.Reg d
    go (operands.Reg x) e = let s : x ≡ d = cc in ap (λ y. operands.Reg y) s
    go (operands.Imm x) e = absurd (cc)
    go (operands.Block x) e = absurd (cc)
    go (operands.Stack x) e = absurd (cc)
    go (operands.FixedStack x) e = absurd (cc)
    go (operands.Symbol x) e = absurd (cc)
    go (operands.Index x) e = absurd (cc)
    go (operands.Mask x) e = absurd (cc)

module _ (t : Target) (f : Function) where
  pub unit-of : (x : Loc) (q : Option IndexId) (u : ℕ) → Member (UnitLane u) (located_lanes t f x q) → has_unit t x (unit_number u) ≡ true
  unit-of (Virtual v) None u m = let z = map-of (VirtualLane v) (UnitLane u) (numbers 0 (length (range_widths t f v))) m in absurd (let h = z.2 in cc)
  unit-of (Virtual v) (Some i) u m = let z = map-of (VirtualLane v) (UnitLane u) (lanes_of t i) m in absurd (let h = z.2 in cc)
  unit-of (Fixed r) q u m =
      let z = map-of (λ w. UnitLane w.0) (UnitLane u) (units_of t r) m in
      any-in (λ v. v.0 == u) z.0 (units_of t r) z.1 (eq-eqb z.0.0 u (sym (unit-same u z.0.0 z.2)))

  pub unit-in : (x : Loc) (q : Option IndexId) (u : ℕ) → has_unit t x (unit_number u) ≡ true → Member (UnitLane u) (located_lanes t f x q)
  unit-in (Virtual v) q u e = absurd (cc)
  unit-in (Fixed r) q u e =
      let z = any-of (λ v. v.0 == u) (units_of t r) e in
      subst (λ k. Member (UnitLane k) (located_lanes t f (Fixed r) q)) (eqb-true z.0.0 u z.2) (map-in (λ w. UnitLane w.0) z.0 (units_of t r) z.1)

  pub no-other : (d : RegOp) (u : ℕ) → Member (UnitLane u) (undefined_lanes t f d) → ⊥
  no-other d u m = go (d.def && d.undef) d.loc m
    where
      go : (b : Bool) (x : Loc) → Member (UnitLane u) (cond b (whole_lanes t f x) []) → ⊥
      go true (Virtual v) m = let z = map-of (VirtualLane v) (UnitLane u) (numbers 0 (length (range_widths t f v))) m in let h = z.2 in cc
      go true (Fixed r) m = member-none (UnitLane u) m
      go false x m = member-none (UnitLane u) m

  -- the definition of the unit

  pub defined-of : (u : UnitNumber) (os : List Operand) → list_any (defines t u) os ≡ true → (d : RegOp) × Member d (registers os) × (d.def ≡ true) × (has_unit t d.loc u ≡ true)
  unfolding defines
  defined-of u os e = let z = any-of (defines t u) os e in go z.0 z.1 z.2
    where
      go : (o : Operand) → Member o os → defines t u o ≡ true → (d : RegOp) × Member d (registers os) × (d.def ≡ true) × (has_unit t d.loc u ≡ true)
      go (operands.Reg d) m h = (d, filtered-in as_register (operands.Reg d) d os m refl, first_of_both d.def (has_unit t d.loc u) h, second_of_both d.def (has_unit t d.loc u) h)
      go (operands.Imm x) m h = absurd (cc)
      go (operands.Block x) m h = absurd (cc)
      go (operands.Stack x) m h = absurd (cc)
      go (operands.FixedStack x) m h = absurd (cc)
      go (operands.Symbol x) m h = absurd (cc)
      go (operands.Index x) m h = absurd (cc)
      go (operands.Mask x) m h = absurd (cc)

  pub defined-in : (u : UnitNumber) (os : List Operand) (d : RegOp) → Member d (registers os) → d.def ≡ true → has_unit t d.loc u ≡ true → list_any (defines t u) os ≡ true
  unfolding defines
  defined-in u os d m e h = any-in (defines t u) (operands.Reg d) os (register-of os d m) (both d.def (has_unit t d.loc u) e h)

  -- masks

  kept-same : (u : ℕ) (o : Operand) → keeps_unit t (unit_number u) o ≡ preserves t u o
  unfolding keeps_unit
  kept-same u o = refl

  not-phi : (e : Effect) → is_silent e ≡ false → is_phi e ≡ false
  not-phi effects.Phi h = absurd (cc)
  not-phi e h = refl

  module _ (i : Instr) (e : Effect) (known : effect_of t i ≡ Some e) (counted : is_silent e ≡ false) where
    abbrev os : List Operand
    os = i.operands

    abbrev early : Bool
    early = is_early_clobber (roles_of t i)

    abbrev ds : List Definition
    ds = definitions (roles_of t i) os

    abbrev X : Writes
    X = results t f 0 ds

    abbrev Y : Writes
    Y = undefined false (all_lanes t f (implicit_definitions os))

    calls : does is_call t i ≡ is_call e
    calls = ap (passes is_call) known

    acts-are : entered_writes t f i ≡ X ++ (Y ++ call_writes t e os)
    unfolding entered_writes
    acts-are = ap (λ (o : Option Effect). elim o [ None ↦ [] | Some x ↦ effect_acts t f x (roles_of t i) os ]) known ∙ ap (λ s. cond s (silent_acts t f e early os) (counted_acts t f e (roles_of t i) os)) counted

    item-is : (b : Block) → writes_of (point_item t f b i) ≡ counted_writes t f e i
    unfolding point_item item_of
    item-is b =
        ap (λ q. writes_of (cond q (Silent [] (defined_undef t f os)) (elim (effect_of t i) [ None ↦ Silent [] [] | Some x ↦ effect_item t f b i x ]))) (ap (passes is_phi) known ∙ not-phi e counted)
        ∙ ap (λ (o : Option Effect). writes_of (elim o [ None ↦ Silent [] [] | Some x ↦ effect_item t f b i x ])) known
        ∙ ap (λ s. writes_of (cond s (Silent (silent_reads t f e os) (silent_writes t f e early os)) (Counted (rest_of t f e i) (map (λ v. v.0) (values t f e i)) (counted_writes t f e i) (option_map (way t f b.number) (target_of os)) (cond (is_terminator e) (ways_out t f b) [])))) counted

    -- an explicit definition's lane
    result-of : (w : Write) (u : ℕ) → Member w X → w.lane ≡ UnitLane u → (d : Definition) × Member d ds × (has_unit t d.1.loc (unit_number u) ≡ true) × (w.early ≡ d.0)
    result-of w u m e =
        let z = results-of t f 0 ds w m in
        let r = result-reaches t f z.0.0 z.1 z.0.1 w z.3 in
        (z.0, z.2, unit z.0.1 r.0, r.1)
      where
        unit : (d : RegOp) → Reaches t f d w.lane → has_unit t d.loc (unit_number u) ≡ true
        unit d (inl j) = unit-of d.loc d.index u (subst (λ l. Member l (operand_lanes t f d)) e j)
        unit d (inr j) = absurd (no-other d u (subst (λ l. Member l (undefined_lanes t f d)) e j))

    result-in : (d : Definition) (u : ℕ) → Member d ds → has_unit t d.1.loc (unit_number u) ≡ true → (w : Write) × Member w X × (w.lane ≡ UnitLane u) × (w.early ≡ d.0)
    result-in d u m h =
        let k = results-in t f 0 ds d m in
        let z = computed-in d.0 k.0 (operand_lanes t f d.1) (UnitLane u) (unit-in d.1.loc d.1.index u h) in
        (z.0, k.1 z.0 (left-in z.0 (computed d.0 k.0 (operand_lanes t f d.1)) (undefined d.0 (undefined_lanes t f d.1)) z.1), z.2, z.3)

    write-forth : (u : ℕ) → Wrote (UnitLane u) (X ++ (Y ++ call_writes t e os)) → writes t i (unit_number u) ≡ true
    write-forth u (w, m, h) = go (in-either w X (Y ++ call_writes t e os) m)
      where
        left : list_any (defines t (unit_number u)) os ≡ true → writes t i (unit_number u) ≡ true
        left g = or-left (list_any (defines t (unit_number u)) os) (clobbers t i (unit_number u)) g

        call : (b : Bool) → is_call e ≡ b → Member w (cond b (undefined false (map UnitLane (unpreserved t os))) []) → writes t i (unit_number u) ≡ true
        call true g k =
            let z = map-of UnitLane w.lane (unpreserved t os) (undefined-lane false w (map UnitLane (unpreserved t os)) k) in
            let same : u ≡ z.0 = unit-same u z.0 (sym h ∙ z.2) in
            let y = filter-of (λ v. not (list_any (preserves t v) os)) z.0 (numbers 0 (length t.units)) z.1 in
            let n : not (list_any (keeps_unit t (unit_number u)) os) ≡ true = ap not (any-alike (keeps_unit t (unit_number u)) (preserves t u) (kept-same u) os) ∙ ap (λ v. not (list_any (preserves t v) os)) same ∙ y.1 in
            or-right (list_any (defines t (unit_number u)) os) (clobbers t i (unit_number u)) (both (does is_call t i) (not (list_any (keeps_unit t (unit_number u)) os)) (calls ∙ g) n)
        call false g k = absurd (member-none w k)

        rest : Member w Y ⊎ Member w (call_writes t e os) → writes t i (unit_number u) ≡ true
        rest (inl k) =
            let z = flat-of (operand_lanes t f) w.lane (implicit_definitions os) (undefined-lane false w (all_lanes t f (implicit_definitions os)) k) in
            let d = filter-of (λ o. o.def) z.0 (implicit_registers os) z.1 in
            let r = filter-of (λ o. o.implicit) z.0 (registers os) d.0 in
            left (defined-in (unit_number u) os z.0 r.0 d.1 (unit-of z.0.loc z.0.index u (subst (λ l. Member l (operand_lanes t f z.0)) h z.2)))
        rest (inr k) = call (is_call e) refl k

        go : Member w X ⊎ Member w (Y ++ call_writes t e os) → writes t i (unit_number u) ≡ true
        go (inl k) =
            let z = result-of w u k h in
            let d = filter-of (λ o. o.def && not o.implicit) z.0.1 (registers os) (definition-of (roles_of t i) os z.0 z.1) in
            left (defined-in (unit_number u) os z.0.1 d.0 (first_of_both z.0.1.def (not z.0.1.implicit) d.1) z.2)
        go (inr k) = rest (in-either w Y (call_writes t e os) k)

    write-back : (u : ℕ) → u < length t.units → writes t i (unit_number u) ≡ true → Wrote (UnitLane u) (X ++ (Y ++ call_writes t e os))
    write-back u few g = go (either-true (list_any (defines t (unit_number u)) os) (clobbers t i (unit_number u)) g)
      where
        implicit : (d : RegOp) → Member d (registers os) → d.def ≡ true → has_unit t d.loc (unit_number u) ≡ true → (b : Bool) → d.implicit ≡ b → Wrote (UnitLane u) (X ++ (Y ++ call_writes t e os))
        implicit d m e' h true k =
            let j = filter-in (λ o. o.def) d (implicit_registers os) (filter-in (λ o. o.implicit) d (registers os) m k) e' in
            let z = undefined-in false (UnitLane u) (all_lanes t f (implicit_definitions os)) (flat-in (operand_lanes t f) (UnitLane u) d (implicit_definitions os) j (unit-in d.loc d.index u h)) in
            (z.0, right-in z.0 X (Y ++ call_writes t e os) (left-in z.0 Y (call_writes t e os) z.1), z.2)
        implicit d m e' h false k =
            let j = definition-in (roles_of t i) os d (filter-in (λ o. o.def && not o.implicit) d (registers os) m (both d.def (not d.implicit) e' (ap not k))) in
            let z = result-in j.0 u j.1 (subst (λ x. has_unit t x.loc (unit_number u) ≡ true) j.2 h) in
            (z.0, left-in z.0 X (Y ++ call_writes t e os) z.1, z.2)

        go : (list_any (defines t (unit_number u)) os ≡ true) ⊎ (clobbers t i (unit_number u) ≡ true) → Wrote (UnitLane u) (X ++ (Y ++ call_writes t e os))
        go (inl h) = let z = defined-of (unit_number u) os h in implicit z.0 z.1 z.2 z.3 z.0.implicit refl
        go (inr h) =
            let c : is_call e ≡ true = sym calls ∙ first_of_both (does is_call t i) (not (list_any (keeps_unit t (unit_number u)) os)) h in
            let n : not (list_any (preserves t u) os) ≡ true = sym (ap not (any-alike (keeps_unit t (unit_number u)) (preserves t u) (kept-same u) os)) ∙ second_of_both (does is_call t i) (not (list_any (keeps_unit t (unit_number u)) os)) h in
            let m : Member u (unpreserved t os) = filter-in (λ v. not (list_any (preserves t v) os)) u (numbers 0 (length t.units)) (numbers-in u 0 (length t.units) (omega arith) (omega (arith, few))) n in
            let z = undefined-in false (UnitLane u) (map UnitLane (unpreserved t os)) (map-in UnitLane u (unpreserved t os) m) in
            let k : Member z.0 (call_writes t e os) = subst (λ b. Member z.0 (cond b (undefined false (map UnitLane (unpreserved t os))) [])) (sym c) z.1 in
            (z.0, right-in z.0 X (Y ++ call_writes t e os) (right-in z.0 Y (call_writes t e os) k), z.2)

    -- early-clobber definitions
    early-forth : (b : Block) (u : ℕ) → WritingEarly (point_item t f b i) (UnitLane u) → writes_early t i (unit_number u) ≡ true
    early-forth b u (w, m, h, g) = go (in-either w X (further_writes t f e i) (subst (Member w) (item-is b) m))
      where
        go : Member w X ⊎ Member w (further_writes t f e i) → writes_early t i (unit_number u) ≡ true
        go (inl k) = let z = result-of w u k h in any-in (defines_early t (unit_number u)) z.0 ds z.1 (both z.0.0 (has_unit t z.0.1.loc (unit_number u)) (sym z.3 ∙ g) z.2)
        go (inr k) = absurd (let n : false ≡ true = sym (uniform-further t f e i w k) ∙ g in cc)

    early-back : (b : Block) (u : ℕ) → writes_early t i (unit_number u) ≡ true → WritingEarly (point_item t f b i) (UnitLane u)
    early-back b u g =
        let z = any-of (defines_early t (unit_number u)) ds g in
        let w = result-in z.0 u z.1 (second_of_both z.0.0 (has_unit t z.0.1.loc (unit_number u)) z.2) in
        (w.0, subst (Member w.0) (sym (item-is b)) (left-in w.0 X (further_writes t f e i) w.1), w.2, w.3 ∙ first_of_both z.0.0 (has_unit t z.0.1.loc (unit_number u)) z.2)

    pub early-told : (b : Block) (u : ℕ) → (writes_early t i (unit_number u) ≡ true) ↔ WritingEarly (point_item t f b i) (UnitLane u)
    early-told b u = (early-back b u, early-forth b u)

    pub told : (num : Numbering) → KeepsRules t f → IsNumbered t f num → (b : Block) → Member b f.blocks → Member i b.instrs → (u : ℕ) → u < length t.units → is_reserved_unit t u ≡ false → (writes t i (unit_number u) ≡ true) ↔ Writing (point_item t f b i) (UnitLane u)
    told num rules numbered b mb mi u few free =
        let same = same-law t f num rules numbered b i mb mi in
        let n = (numbered.names b i mb mi).units u few free in (
          (λ g. same.back (UnitLane u) n.0 n.1 refl (subst (Wrote (UnitLane u)) (sym acts-are) (write-back u few g))),
          (λ w. write-forth u (subst (Wrote (UnitLane u)) acts-are (same.forth (UnitLane u) n.0 n.1 refl w))),
        )

    -- a written unit has a number
    pub numbered-written : (num : Numbering) → IsNumbered t f num → (b : Block) → Member b f.blocks → Member i b.instrs → (u : ℕ) → is_reserved_unit t u ≡ false → Writing (point_item t f b i) (UnitLane u) → (n : ℕ) × (num (owners.Unit u) ≡ Some n)
    numbered-written num numbered b mb mi u free (w, m, h) =
        let plain = counted-law t f (tag_of num (is_proper t)) b i e known counted (numbered.names b i mb mi) in
        let unreserved : (l : Lane) → l ≡ UnitLane u → is_reserved t l ≡ false = λ l g. ap (is_reserved t) g ∙ free in
        let v = plain.covered w m (unreserved w.lane h) in
        let n = plain.written v.0 v.1 (unreserved v.0.lane (v.2 ∙ h)) in
        (n.0, ap (tag_of num (is_proper t)) (sym (v.2 ∙ h)) ∙ n.1)

-- the tests tell what the instruction writes of units
pub record IsExact (t : Target) (f : Function) (b : Block) (i : Instr) : Type 0 where
  pub written : (u : ℕ) → u < length t.units → is_reserved_unit t u ≡ false → (writes t i (unit_number u) ≡ true) ↔ Writing (point_item t f b i) (UnitLane u)
  pub early : (u : ℕ) → u < length t.units → is_reserved_unit t u ≡ false → (writes_early t i (unit_number u) ≡ true) ↔ WritingEarly (point_item t f b i) (UnitLane u)
  pub few : (u : ℕ) → is_reserved_unit t u ≡ false → Writing (point_item t f b i) (UnitLane u) → u < length t.units
