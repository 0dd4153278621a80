-- A counted instruction is a plain step: it gives its lanes nothing that another lane held.
use Rattle.std.proofs.Common.{◌≡◌, ◌<◌, ◌⊎◌, ℕ, zero, suc, ◌+◌, Bool, true, false, cond, not, ◌&&◌, List, [], ◌∷◌, ◌++◌, Option, Some, None, map, filter, filter_map, length, refl, sym, ap, ◌∙◌, subst, inl, inr, ℤ, nat_abs, arith}
use Rattle.std.specs.Prelude.{option_map}
use Rattle.std.specs.List.{cons_option, list_any}
use Rattle.target_base.specs.declared.types.Effect.{Effect}
use Rattle.target_base.specs.declared.types.Effect.TheVariants as effects
use Rattle.target_base.specs.declared.types.OpaqueKind.{OpaqueKind}
use Rattle.target_base.specs.declared.types.OpaqueKind.TheVariants as kinds
use Rattle.target_base.specs.declared.types.Role.{Role}
use Rattle.target_base.specs.declared.types.Target.{Target}
use Rattle.target_base.specs.declared.types.IndexId.{IndexId}
use Rattle.target_base.specs.Registers.{units_of, lanes_of}
use Rattle.target_base.specs.Roles.{is_silent}
use Rattle.target_base.specs.Rules.{is_phi}
use Rattle.meaning.specs.declared.types.Lane.{Lane}
use Rattle.meaning.specs.declared.types.Lane.TheVariants.{VirtualLane, UnitLane}
use Rattle.meaning.specs.declared.types.Constant.{Constant}
use Rattle.meaning.specs.declared.types.Constant.TheVariants.{Immediate, StackAddress, FixedStackAddress, SymbolAddress}
use Rattle.meaning.specs.declared.types.Source.{Source}
use Rattle.meaning.specs.declared.types.Source.TheVariants.{FromLane, Undef}
use Rattle.meaning.specs.declared.types.Fill.TheVariants.{Moved, Computed}
use Rattle.meaning.specs.declared.types.Write.{Write}
use Rattle.meaning.specs.Lanes.{Writes}
use Rattle.meaning.specs.Environment.{constant_source, residue}
use Rattle.meaning.specs.Perform.{condition_lane}
use Rattle.meaning.specs.Code.{Item, Counted, Silent}
use Rattle.meaning.specs.Live.{Among as Member, here as first, there as later, reads_of, writes_of, in_order, is_slot}
use Rattle.mir_func.specs.declared.func.Loc.{Loc}
use Rattle.mir_func.specs.declared.func.Loc.TheVariants.{Virtual, Fixed}
use Rattle.mir_func.specs.declared.func.RegOp.{RegOp}
use Rattle.mir_func.specs.declared.func.Operand.{Operand}
use Rattle.mir_func.specs.declared.func.Operand.TheVariants as operands
use Rattle.mir_func.specs.declared.func.Instr.{Instr}
use Rattle.mir_func.specs.declared.func.Block.{Block}
use Rattle.mir_func.specs.Value.{Function}
use Rattle.mir_func.specs.Binding.{registers, explicit_operands, implicit_registers, implicit_roles, roles_of, is_early_clobber, Definition, definitions, effect_of, passes, is_terminator, immediate_of}
use Rattle.mir_meaning.specs.Registers.{numbers, operand_lanes, located_lanes, whole_lanes, undefined_lanes, use_sources, range_widths, is_reserved}
use Rattle.mir_meaning.specs.Items.{write, undefined, computed, Value, value_of, values, use_value, flag_value, constant_value, computes_with_immediates, has_base, implicit_values, is_flags, pick, first_width, results, counted_writes, defined_lanes, implicit_writes, further_writes, opaque_clobbers, opaque_implicit, explicit_definitions, implicit_definitions, all_lanes, answered, unreserved, clobbered, kept, preserves, rest_of, defined_undef, silent_reads, silent_writes}
use Rattle.mir_meaning.specs.Codes.{item_of, effect_item, way, ways_out, target_of}
use Rattle.mir_meaning.specs.Points.{point_item}
use Rattle.mir_meaning.specs.Stands.{Tags}
use Rattle.instr_effects.specs.Owners.{fill_owner}
use Rattle.instr_effects.specs.Acts.{counted_acts, call_writes, unpreserved, entered_writes, effect_acts, silent_acts}
use Rattle.instr_effects.specs.Laws.{CountedLaw}
use Rattle.instr_effects.specs.Stepping.{IsPlain, NamesTagged}
use Rattle.instr_effects.proofs.Defined.{results-of, definition-of}
use Rattle.instr_effects.proofs.Members.{member-none, member-cases, member-elim, left-in, right-in, in-either, flat-of, flat-in, filter-of, filter-in, map-of, map-in}

-- the lane is written
abbrev LaneIn : Lane → Writes → Type 0
LaneIn l ws = (w : Write) × Member w ws × (w.lane ≡ l)

lane-left : (l : Lane) (ws vs : Writes) → LaneIn l ws → LaneIn l (ws ++ vs)
lane-left l ws vs z = (z.0, left-in z.0 ws vs z.1, z.2)

lane-right : (l : Lane) (ws vs : Writes) → LaneIn l vs → LaneIn l (ws ++ vs)
lane-right l ws vs z = (z.0, right-in z.0 ws vs z.1, z.2)

in-undefined : (early : Bool) (l : Lane) (ls : List Lane) → Member l ls → LaneIn l (undefined early ls)
in-undefined early l ls m = (write early l (Moved Undef), map-in (λ k. write early k (Moved Undef)) l ls m, refl)

of-undefined : (early : Bool) (w : Write) (ls : List Lane) → Member w (undefined early ls) → Member w.lane ls × (fill_owner w.fill ≡ None)
of-undefined early w ls m = let z = map-of (λ k. write early k (Moved Undef)) w ls m in (subst (λ x. Member x ls) (sym (ap (λ v. v.lane) z.2)) z.1, ap (λ v. fill_owner v.fill) z.2)

in-computed : (early : Bool) (n : ℕ) (l : Lane) (ls : List Lane) → Member l ls → LaneIn l (computed early n ls)
in-computed early n l [] m = absurd (member-none l m)
in-computed early n l (k ∷ ls) m = member-elim l k ls (λ e. (write early k (Computed n), first, sym e)) (λ j. let z = in-computed early (suc n) l ls j in (z.0, later z.1, z.2)) m

of-computed : (early : Bool) (n : ℕ) (w : Write) (ls : List Lane) → Member w (computed early n ls) → Member w.lane ls × (fill_owner w.fill ≡ None)
of-computed early n w [] m = absurd (member-none w m)
of-computed early n w (k ∷ ls) m =
    member-elim w (write early k (Computed n)) (computed early (suc n) ls) (λ e. (subst (λ x. Member x (k ∷ ls)) (sym (ap (λ v. v.lane) e)) first, ap (λ v. fill_owner v.fill) e))
    (λ j. let z = of-computed early (suc n) w ls j in (later z.0, z.1)) m

-- what a list of writes may be: each writes a lane of the first kind, and moves none
abbrev Fills : (Lane → Type 0) → Writes → Type 0
Fills P ws = (w : Write) → Member w ws → P w.lane × (fill_owner w.fill ≡ None)

fills-join : (P : Lane → Type 0) (ws vs : Writes) → Fills P ws → Fills P vs → Fills P (ws ++ vs)
fills-join P ws vs f g w m = go (in-either w ws vs m)
  where
    go : Member w ws ⊎ Member w vs → P w.lane × (fill_owner w.fill ≡ None)
    go (inl k) = f w k
    go (inr k) = g w k

fills-undefined : (P : Lane → Type 0) (early : Bool) (ls : List Lane) → ((l : Lane) → Member l ls → P l) → Fills P (undefined early ls)
fills-undefined P early ls f w m = let z = of-undefined early w ls m in (f w.lane z.0, z.1)

fills-computed : (P : Lane → Type 0) (early : Bool) (n : ℕ) (ls : List Lane) → ((l : Lane) → Member l ls → P l) → Fills P (computed early n ls)
fills-computed P early n ls f w m = let z = of-computed early n w ls m in (f w.lane z.0, z.1)

module _ (t : Target) (f : Function) where
  -- a lane of a register operand, or one that it makes undefined
  abbrev LaneOf : List RegOp → Lane → Type 0
  LaneOf os l = (o : RegOp) × Member o os × (Member l (operand_lanes t f o) ⊎ Member l (undefined_lanes t f o))

  -- a lane that an instruction with these operands may write
  abbrev LaneNamed : List Operand → Lane → Type 0
  LaneNamed os l = LaneOf (registers os) l ⊎ ((u : ℕ) × (u < length t.units) × (l ≡ UnitLane u))

  lane-of-less : (p : RegOp → Bool) (os : List RegOp) (l : Lane) → LaneOf (filter p os) l → LaneOf os l
  lane-of-less p os l z = (z.0, (filter-of p z.0 os z.1).0, z.2)

  fills-results : (n : ℕ) (rs : List Role) (os : List Operand) → Fills (LaneOf (explicit_definitions os)) (results t f n (definitions rs os))
  fills-results n rs os w m =
      let z = results-of t f n (definitions rs os) w m in
      go z.0 z.1 (definition-of rs os z.0 z.2) (in-either w (computed z.0.0 z.1 (operand_lanes t f z.0.1)) (undefined z.0.0 (undefined_lanes t f z.0.1)) z.3)
    where
      go : (d : Definition) (k : ℕ) → Member d.1 (explicit_definitions os) → Member w (computed d.0 k (operand_lanes t f d.1)) ⊎ Member w (undefined d.0 (undefined_lanes t f d.1)) → LaneOf (explicit_definitions os) w.lane × (fill_owner w.fill ≡ None)
      go d k stands (inl j) = let y = of-computed d.0 k w (operand_lanes t f d.1) j in ((d.1, stands, inl y.0), y.1)
      go d k stands (inr j) = let y = of-undefined d.0 w (undefined_lanes t f d.1) j in ((d.1, stands, inr y.0), y.1)

  all-of : (ds : List RegOp) (l : Lane) → Member l (all_lanes t f ds) → LaneOf ds l
  all-of ds l m = let z = flat-of (operand_lanes t f) l ds m in (z.0, z.1, inl z.2)

  unreserved-of : (l : Lane) (ls : List Lane) → Member l (unreserved t ls) → Member l ls × (is_reserved t l ≡ false)
  unreserved-of l ls m = let z = filter-of (λ k. not (is_reserved t k)) l ls m in (z.0, not-true (is_reserved t l) z.1)
    where
      not-true : (b : Bool) → not b ≡ true → b ≡ false
      not-true true e = absurd (cc)
      not-true false e = refl

  unreserved-in : (l : Lane) (ls : List Lane) → Member l ls → is_reserved t l ≡ false → Member l (unreserved t ls)
  unreserved-in l ls m e = filter-in (λ k. not (is_reserved t k)) l ls m (ap not e)

  numbers-below : (u n k : ℕ) → Member u (numbers n k) → u < n + k
  numbers-below u n zero m = absurd (member-none u m)
  numbers-below u n (suc k) m = member-elim u n (numbers (suc n) k) (λ e. omega (arith, e)) (λ j. let h = numbers-below u (suc n) k j in omega arith) m

  clobbered-of : (os : List Operand) (l : Lane) → Member l (map UnitLane (unpreserved t os)) → (u : ℕ) × (u < length t.units) × (l ≡ UnitLane u)
  clobbered-of os l m =
      let z = map-of UnitLane l (unpreserved t os) m in
      let y = filter-of (λ u. not (list_any (preserves t u) os)) z.0 (numbers 0 (length t.units)) z.1 in
      (z.0, (let h = numbers-below z.0 0 (length t.units) y.0 in omega arith), z.2)

  -- the writes of a counted instruction, as they are and as they are entered

  implicit-named : (os : List Operand) (l : Lane) → Member l (all_lanes t f (implicit_definitions os)) → LaneNamed os l
  implicit-named os l m = inl (lane-of-less (λ o. o.implicit) (registers os) l (lane-of-less (λ o. o.def) (implicit_registers os) l (all-of (implicit_definitions os) l m)))

  flags-less : (p : RegOp → Bool) (ds : List RegOp) (l : Lane) → Member l (all_lanes t f (filter p ds)) → Member l (all_lanes t f ds)
  flags-less p ds l m = let z = flat-of (operand_lanes t f) l (filter p ds) m in flat-in (operand_lanes t f) l z.0 ds (filter-of p z.0 ds z.1).0 z.2

  kept-of : (P : Lane → Type 0) (ws : Writes) → Fills P ws → Fills P (kept t ws)
  kept-of P ws g w m = g w (filter-of (λ v. not (is_reserved t v.lane)) w ws m).0

  kept-in : (l : Lane) (ws : Writes) → LaneIn l ws → is_reserved t l ≡ false → LaneIn l (kept t ws)
  kept-in l ws z e = (z.0, filter-in (λ v. not (is_reserved t v.lane)) z.0 ws z.1 (ap not (ap (is_reserved t) z.2 ∙ e)), z.2)

  entered-named : (e : Effect) (rs : List Role) (os : List Operand) → Fills (LaneNamed os) (counted_acts t f e rs os)
  entered-named e rs os =
      fills-join (LaneNamed os) (results t f 0 (definitions rs os)) (undefined false (all_lanes t f (implicit_definitions os)) ++ call_writes t e os)
      (λ w m. let z = fills-results 0 rs os w m in (inl (lane-of-less (λ o. o.def && not o.implicit) (registers os) w.lane z.0), z.1))
      (fills-join (LaneNamed os) (undefined false (all_lanes t f (implicit_definitions os))) (call_writes t e os) (fills-undefined (LaneNamed os) false (all_lanes t f (implicit_definitions os)) (implicit-named os)) (call e))
    where
      call : (e : Effect) → Fills (LaneNamed os) (call_writes t e os)
      call effects.Call = fills-undefined (LaneNamed os) false (map UnitLane (unpreserved t os)) (λ l m. inr (clobbered-of os l m))
      call (effects.Opaque kinds.Call) = fills-undefined (LaneNamed os) false (map UnitLane (unpreserved t os)) (λ l m. inr (clobbered-of os l m))
      call e = λ w m. absurd (member-none w m)

  -- what a call makes undefined is entered
  clobber-covered : (os : List Operand) (w : Write) → Member w (undefined false (clobbered t os)) → LaneIn w.lane (undefined false (map UnitLane (unpreserved t os))) × (fill_owner w.fill ≡ None)
  clobber-covered os w m =
      let z = of-undefined false w (clobbered t os) m in
      (in-undefined false w.lane (map UnitLane (unpreserved t os)) (unreserved-of w.lane (map UnitLane (unpreserved t os)) z.0).0, z.1)

  -- each lane that is written implicitly is entered
  implicit-covered : (e : Effect) (rs : List Role) (os : List Operand) (w : Write) → Member w (implicit_writes t f e rs os) → (Member w.lane (all_lanes t f (implicit_definitions os)) ⊎ LaneIn w.lane (call_writes t e os)) × (fill_owner w.fill ≡ None)
  implicit-covered effects.Cmp rs os w m =
      let all = all_lanes t f (implicit_definitions os) in
      let flags = all_lanes t f (filter (is_flags rs) (implicit_definitions os)) in
      go (in-either w (computed false 0 flags) (undefined false all) (filter-of (λ v. not (is_reserved t v.lane)) w (computed false 0 flags ++ undefined false all) m).0)
    where
      go : Member w (computed false 0 (all_lanes t f (filter (is_flags rs) (implicit_definitions os)))) ⊎ Member w (undefined false (all_lanes t f (implicit_definitions os))) → (Member w.lane (all_lanes t f (implicit_definitions os)) ⊎ LaneIn w.lane (call_writes t effects.Cmp os)) × (fill_owner w.fill ≡ None)
      go (inl k) = let z = of-computed false 0 w (all_lanes t f (filter (is_flags rs) (implicit_definitions os))) k in (inl (flags-less (is_flags rs) (implicit_definitions os) w.lane z.0), z.1)
      go (inr k) = let z = of-undefined false w (all_lanes t f (implicit_definitions os)) k in (inl z.0, z.1)
  implicit-covered effects.Call rs os w m = go (in-either w (computed false 0 (answered t f os)) (undefined false (clobbered t os)) m)
    where
      go : Member w (computed false 0 (answered t f os)) ⊎ Member w (undefined false (clobbered t os)) → (Member w.lane (all_lanes t f (implicit_definitions os)) ⊎ LaneIn w.lane (call_writes t effects.Call os)) × (fill_owner w.fill ≡ None)
      go (inl k) = let z = of-computed false 0 w (answered t f os) k in (inl (unreserved-of w.lane (all_lanes t f (implicit_definitions os)) z.0).0, z.1)
      go (inr k) = let z = clobber-covered os w k in (inr z.0, z.1)
  implicit-covered e rs os w m = let z = of-undefined false w (unreserved t (all_lanes t f (implicit_definitions os))) m in (inl (unreserved-of w.lane (all_lanes t f (implicit_definitions os)) z.0).0, z.1)

  opaque-covered : (kind : OpaqueKind) (n : ℕ) (os : List Operand) (w : Write) → Member w (opaque_implicit t f kind n os) → (Member w.lane (all_lanes t f (implicit_definitions os)) ⊎ LaneIn w.lane (call_writes t (effects.Opaque kind) os)) × (fill_owner w.fill ≡ None)
  opaque-covered kind n os w m = go (in-either w (computed false n (all_lanes t f (implicit_definitions os))) (opaque_clobbers t kind os) m)
    where
      clobber : (kind : OpaqueKind) → Member w (opaque_clobbers t kind os) → LaneIn w.lane (call_writes t (effects.Opaque kind) os) × (fill_owner w.fill ≡ None)
      clobber kinds.Call k = clobber-covered os w k
      clobber kind k = absurd (member-none w k)

      go : Member w (computed false n (all_lanes t f (implicit_definitions os))) ⊎ Member w (opaque_clobbers t kind os) → (Member w.lane (all_lanes t f (implicit_definitions os)) ⊎ LaneIn w.lane (call_writes t (effects.Opaque kind) os)) × (fill_owner w.fill ≡ None)
      go (inl k) = let z = of-computed false n w (all_lanes t f (implicit_definitions os)) k in (inl z.0, z.1)
      go (inr k) = let z = clobber kind k in (inr z.0, z.1)

  further-covered : (e : Effect) (i : Instr) (w : Write) → Member w (further_writes t f e i) → (Member w.lane (all_lanes t f (implicit_definitions i.operands)) ⊎ LaneIn w.lane (call_writes t e i.operands)) × (fill_owner w.fill ≡ None)
  further-covered (effects.Opaque kind) i w m = opaque-covered kind (length (defined_lanes t f (definitions (roles_of t i) i.operands))) i.operands w m
  further-covered e i w m = implicit-covered e (implicit_roles (roles_of t i)) i.operands w m

  -- each lane of an implicit definition that isn't reserved is written
  implicit-covers : (e : Effect) (rs : List Role) (os : List Operand) (l : Lane) → is_reserved t l ≡ false → Member l (all_lanes t f (implicit_definitions os)) → LaneIn l (implicit_writes t f e rs os)
  implicit-covers effects.Cmp rs os l r m = kept-in l (computed false 0 (all_lanes t f (filter (is_flags rs) (implicit_definitions os))) ++ undefined false (all_lanes t f (implicit_definitions os))) (lane-right l (computed false 0 (all_lanes t f (filter (is_flags rs) (implicit_definitions os)))) (undefined false (all_lanes t f (implicit_definitions os))) (in-undefined false l (all_lanes t f (implicit_definitions os)) m)) r
  implicit-covers effects.Call rs os l r m = lane-left l (computed false 0 (answered t f os)) (undefined false (clobbered t os)) (in-computed false 0 l (answered t f os) (unreserved-in l (all_lanes t f (implicit_definitions os)) m r))
  implicit-covers e rs os l r m = in-undefined false l (unreserved t (all_lanes t f (implicit_definitions os))) (unreserved-in l (all_lanes t f (implicit_definitions os)) m r)

  -- what is entered of a call, and isn't reserved, is made undefined
  clobber-covers : (os : List Operand) (l : Lane) → is_reserved t l ≡ false → LaneIn l (undefined false (map UnitLane (unpreserved t os))) → LaneIn l (undefined false (clobbered t os))
  clobber-covers os l r z =
      let y = of-undefined false z.0 (map UnitLane (unpreserved t os)) z.1 in
      in-undefined false l (clobbered t os) (unreserved-in l (map UnitLane (unpreserved t os)) (subst (λ x. Member x (map UnitLane (unpreserved t os))) z.2 y.0) r)

  -- each lane that is entered, and isn't reserved, is written beside explicit definitions
  further-covers : (e : Effect) (i : Instr) (l : Lane) → is_reserved t l ≡ false → Member l (all_lanes t f (implicit_definitions i.operands)) ⊎ LaneIn l (call_writes t e i.operands) → LaneIn l (further_writes t f e i)
  further-covers (effects.Opaque kind) i l r (inl m) =
      let n = length (defined_lanes t f (definitions (roles_of t i) i.operands)) in
      lane-left l (computed false n (all_lanes t f (implicit_definitions i.operands))) (opaque_clobbers t kind i.operands) (in-computed false n l (all_lanes t f (implicit_definitions i.operands)) m)
  further-covers (effects.Opaque kinds.Call) i l r (inr z) =
      lane-right l (computed false (length (defined_lanes t f (definitions (roles_of t i) i.operands))) (all_lanes t f (implicit_definitions i.operands))) (undefined false (clobbered t i.operands)) (clobber-covers i.operands l r z)
  further-covers effects.Call i l r (inr z) = lane-right l (computed false 0 (answered t f i.operands)) (undefined false (clobbered t i.operands)) (clobber-covers i.operands l r z)
  further-covers e i l r (inl m) = implicit-covers e (implicit_roles (roles_of t i)) i.operands l r m
  further-covers e i l r (inr z) = absurd (member-none z.0 z.1)

  -- what a counted instruction reads are lanes of its register operands

  use-lane : (o : RegOp) (l : Lane) → Member (FromLane l) (use_sources t f o) → Member l (operand_lanes t f o)
  use-lane o l m = go o.undef (operand_lanes t f o) m
    where
      from-same : (a c : Lane) → FromLane a ≡ FromLane c → a ≡ c
      from-same a c e = cc

      go : (b : Bool) (ls : List Lane) → Member (FromLane l) (map (cond b (λ k. Undef) FromLane) ls) → Member l ls
      go true ls k = let z = map-of (λ k. Undef) (FromLane l) ls k in absurd (let e = z.2 in cc)
      go false ls k = let z = map-of FromLane (FromLane l) ls k in subst (λ x. Member x ls) (sym (from-same l z.0 z.2)) z.1

  pick-of : {X : Type 0} (x : X) (k : ℕ) (xs : List X) → Member x (pick k xs) → Member x xs
  pick-of x k [] m = absurd (member-none x m)
  pick-of x zero (y ∷ xs) m = member-elim x y [] (λ e. subst (λ z. Member x (z ∷ xs)) e first) (λ j. absurd (member-none x j)) m
  pick-of x (suc k) (y ∷ xs) m = later (pick-of x k xs m)

  -- the sources of a value are those of a register operand that is used, if they name lanes
  abbrev ReadOf : List Operand → List Source → Type 0
  ReadOf os ss = (l : Lane) → Member (FromLane l) ss → (o : RegOp) × Member o (registers os) × Member l (operand_lanes t f o)

  no-lane : (c : Constant) (w : ℕ) (l : Lane) → Member (FromLane l) ((constant_value c w).0) → ⊥
  no-lane c w l m = go (member-cases (FromLane l) (constant_source c 0 w) [] m)
    where
      apart : (c : Constant) → FromLane l ≡ constant_source c 0 w → ⊥
      apart (Immediate z) e = cc
      apart (StackAddress n) e = cc
      apart (FixedStackAddress n) e = cc
      apart (SymbolAddress name) e = cc

      go : (FromLane l ≡ constant_source c 0 w) ⊎ Member (FromLane l) [] → ⊥
      go (inl e) = apart c e
      go (inr k) = member-none (FromLane l) k

  register-later : (p : Operand) (os : List Operand) {x : RegOp} → Member x (registers os) → Member x (registers (p ∷ os))
  register-later (operands.Reg r) os j = later j
  register-later (operands.Imm z) os j = j
  register-later (operands.Block n) os j = j
  register-later (operands.Stack n) os j = j
  register-later (operands.FixedStack n) os j = j
  register-later (operands.Symbol name) os j = j
  register-later (operands.Index x) os j = j
  register-later (operands.Mask x) os j = j

  read-later : (p : Operand) (os : List Operand) (ss : List Source) → ReadOf os ss → ReadOf (p ∷ os) ss
  read-later p os ss h l k = let z = h l k in (z.0, register-later p os z.1, z.2)

  constant-read : (p : Operand) (os : List Operand) (vs : List Value) (v : Value) (c : Constant) (u : ℕ) (b : Bool) → (Member v vs → ReadOf os v.0) → Member v (cons_option (cond b (Some (constant_value c u)) None) vs) → ReadOf (p ∷ os) v.0
  constant-read p os vs v c u false ih k = read-later p os v.0 (ih k)
  constant-read p os vs v c u true ih k = member-elim v (constant_value c u) vs (λ g l j. absurd (no-lane c u l (subst (λ x. Member (FromLane l) x.0) g j))) (λ j. read-later p os v.0 (ih j)) k

  value-read : (e : Effect) (w : ℕ) (os : List Operand) (v : Value) → Member v (filter_map (value_of t f e w) (explicit_operands os)) → ReadOf os v.0
  value-read e w [] v m = absurd (member-none v m)
  value-read e w (operands.Reg r ∷ os) v m = register r.implicit r.def refl (λ k. value-read e w os v k) m
    where
      register : (i d : Bool) → r.def ≡ d → (Member v (filter_map (value_of t f e w) (explicit_operands os)) → ReadOf os v.0) → Member v (filter_map (value_of t f e w) (cond (not i) (operands.Reg r ∷ explicit_operands os) (explicit_operands os))) → ReadOf (operands.Reg r ∷ os) v.0
      register true d q ih k = read-later (operands.Reg r) os v.0 (ih k)
      register false true q ih k = read-later (operands.Reg r) os v.0 (ih (subst (λ b. Member v (cons_option (cond b None (Some (use_value t f r))) (filter_map (value_of t f e w) (explicit_operands os)))) q k))
      register false false q ih k =
          member-elim v (use_value t f r) (filter_map (value_of t f e w) (explicit_operands os)) (λ g l j. (r, first, use-lane r l (subst (λ x. Member (FromLane l) x.0) g j))) (λ j. read-later (operands.Reg r) os v.0 (ih j))
          (subst (λ b. Member v (cons_option (cond b None (Some (use_value t f r))) (filter_map (value_of t f e w) (explicit_operands os)))) q k)
  value-read e w (operands.Imm z ∷ os) v m = constant-read (operands.Imm z) os (filter_map (value_of t f e w) (explicit_operands os)) v (Immediate (residue z w)) w (computes_with_immediates e) (λ k. value-read e w os v k) m
  value-read e w (operands.Block n ∷ os) v m = read-later (operands.Block n) os v.0 (value-read e w os v m)
  value-read e w (operands.Stack n ∷ os) v m = constant-read (operands.Stack n) os (filter_map (value_of t f e w) (explicit_operands os)) v (StackAddress n) 64 (has_base e) (λ k. value-read e w os v k) m
  value-read e w (operands.FixedStack n ∷ os) v m = constant-read (operands.FixedStack n) os (filter_map (value_of t f e w) (explicit_operands os)) v (FixedStackAddress n) 64 (has_base e) (λ k. value-read e w os v k) m
  value-read e w (operands.Symbol name ∷ os) v m = constant-read (operands.Symbol name) os (filter_map (value_of t f e w) (explicit_operands os)) v (SymbolAddress name) 64 (has_base e) (λ k. value-read e w os v k) m
  value-read e w (operands.Index x ∷ os) v m = read-later (operands.Index x) os v.0 (value-read e w os v m)
  value-read e w (operands.Mask x ∷ os) v m = read-later (operands.Mask x) os v.0 (value-read e w os v m)

  -- of registers that are used
  abbrev UseOf : List RegOp → List Source → Type 0
  UseOf us ss = (l : Lane) → Member (FromLane l) ss → (o : RegOp) × Member o us × Member l (operand_lanes t f o)

  uses-read : (us : List RegOp) (v : Value) → Member v (map (use_value t f) us) → UseOf us v.0
  uses-read us v m l k = let z = map-of (use_value t f) v us m in (z.0, z.1, use-lane z.0 l (subst (λ x. Member (FromLane l) x.0) z.2 k))

  flags-read : (c : ℤ) (us : List RegOp) (v : Value) → Member v (map (flag_value t f c) us) → UseOf us v.0
  flags-read c us v m l k = let z = map-of (flag_value t f c) v us m in (z.0, z.1, use-lane z.0 l (pick-of (FromLane l) (condition_lane (nat_abs c)) (use_sources t f z.0) (subst (λ x. Member (FromLane l) x.0) z.2 k)))

  use-less : (p : RegOp → Bool) (us : List RegOp) (ss : List Source) → UseOf (filter p us) ss → UseOf us ss
  use-less p us ss h l k = let z = h l k in (z.0, (filter-of p z.0 us z.1).0, z.2)

  implicit-read : (e : Effect) (c : ℤ) (rs : List Role) (us : List RegOp) (v : Value) → Member v (implicit_values t f e c rs us) → UseOf us v.0
  implicit-read effects.Jcc c rs us v m = go (in-either v (map (flag_value t f c) (filter (is_flags rs) us)) (map (use_value t f) (filter (λ o. not (is_flags rs o)) us)) m)
    where
      go : Member v (map (flag_value t f c) (filter (is_flags rs) us)) ⊎ Member v (map (use_value t f) (filter (λ o. not (is_flags rs o)) us)) → UseOf us v.0
      go (inl k) = use-less (is_flags rs) us v.0 (flags-read c (filter (is_flags rs) us) v k)
      go (inr k) = use-less (λ o. not (is_flags rs o)) us v.0 (uses-read (filter (λ o. not (is_flags rs o)) us) v k)
  implicit-read e c rs us v m = uses-read us v m

  values-read : (e : Effect) (i : Instr) (ss : List Source) → Member ss (map (λ v. v.0) (values t f e i)) → ReadOf i.operands ss
  values-read e i ss m =
      let z = map-of (λ v. v.0) ss (values t f e i) m in
      λ l k. go z.0 (in-either z.0 (filter_map (value_of t f e (first_width t f (registers i.operands))) (explicit_operands i.operands)) (implicit_values t f e (immediate_of i.operands) (implicit_roles (roles_of t i)) (filter (λ o. not o.def) (implicit_registers i.operands))) z.1) l (subst (λ x. Member (FromLane l) x) z.2 k)
    where
      go : (v : Value) → Member v (filter_map (value_of t f e (first_width t f (registers i.operands))) (explicit_operands i.operands)) ⊎ Member v (implicit_values t f e (immediate_of i.operands) (implicit_roles (roles_of t i)) (filter (λ o. not o.def) (implicit_registers i.operands))) → ReadOf i.operands v.0
      go v (inl k) = value-read e (first_width t f (registers i.operands)) i.operands v k
      go v (inr k) = use-less (λ o. o.implicit) (registers i.operands) v.0 (use-less (λ o. not o.def) (implicit_registers i.operands) v.0 (implicit-read e (immediate_of i.operands) (implicit_roles (roles_of t i)) (filter (λ o. not o.def) (implicit_registers i.operands)) v k))

  -- lanes of operands are no slots'

  located-still : (x : Loc) (q : Option IndexId) (l : Lane) → Member l (located_lanes t f x q) → is_slot l ≡ false
  located-still (Virtual v) None l m = let z = map-of (VirtualLane v) l (numbers 0 (length (range_widths t f v))) m in ap is_slot z.2
  located-still (Virtual v) (Some x) l m = let z = map-of (VirtualLane v) l (lanes_of t x) m in ap is_slot z.2
  located-still (Fixed r) q l m = let z = map-of (λ u. UnitLane u.0) l (units_of t r) m in ap is_slot z.2

  others-still : (o : RegOp) (l : Lane) → Member l (undefined_lanes t f o) → is_slot l ≡ false
  others-still o l m = go (o.def && o.undef) o.loc m
    where
      whole : (x : Loc) → Member l (whole_lanes t f x) → is_slot l ≡ false
      whole (Virtual v) k = located-still (Virtual v) None l k
      whole (Fixed r) k = absurd (member-none l k)

      go : (b : Bool) (x : Loc) → Member l (cond b (whole_lanes t f x) []) → is_slot l ≡ false
      go true x k = whole x k
      go false x k = absurd (member-none l k)

  named-still : (os : List Operand) (l : Lane) → LaneNamed os l → is_slot l ≡ false
  named-still os l (inl z) = go z.2
    where
      go : Member l (operand_lanes t f z.0) ⊎ Member l (undefined_lanes t f z.0) → is_slot l ≡ false
      go (inl k) = located-still z.0.loc z.0.index l k
      go (inr k) = others-still z.0 l k
  named-still os l (inr z) = ap is_slot z.2

  moves-none : (w : Write) (l : Lane) → fill_owner w.fill ≡ None → w.fill ≡ Moved (FromLane l) → ⊥
  moves-none w l e g = let h = ap fill_owner g in cc

  module _ (tag : Tags) (b : Block) (i : Instr) (e : Effect) (known : effect_of t i ≡ Some e) (counted : is_silent e ≡ false) (names : NamesTagged t f tag i) where
    abbrev W : Writes
    W = counted_writes t f e i

    abbrev E : Writes
    E = counted_acts t f e (roles_of t i) i.operands

    abbrev X : Writes
    X = results t f 0 (definitions (roles_of t i) i.operands)

    named-tag : (l : Lane) → LaneNamed i.operands l → is_reserved t l ≡ false → (n : ℕ) × (tag l ≡ Some n)
    named-tag l (inl z) r = names.lanes z.0 l z.1 z.2 r
    named-tag l (inr z) r = let y = names.units z.0 z.1 (ap (is_reserved t) (sym z.2) ∙ r) in (y.0, ap tag z.2 ∙ y.1)

    covered-by : (w : Write) → Member w X ⊎ Member w (further_writes t f e i) → LaneIn w.lane E × (fill_owner w.fill ≡ None)
    covered-by w (inl m) = (lane-left w.lane X (undefined false (all_lanes t f (implicit_definitions i.operands)) ++ call_writes t e i.operands) (w, m, refl), (fills-results 0 (roles_of t i) i.operands w m).1)
    covered-by w (inr m) =
        let z = further-covered e i w m in
        (lane-right w.lane X (undefined false (all_lanes t f (implicit_definitions i.operands)) ++ call_writes t e i.operands) (go z.0), z.1)
      where
        go : Member w.lane (all_lanes t f (implicit_definitions i.operands)) ⊎ LaneIn w.lane (call_writes t e i.operands) → LaneIn w.lane (undefined false (all_lanes t f (implicit_definitions i.operands)) ++ call_writes t e i.operands)
        go (inl k) = lane-left w.lane (undefined false (all_lanes t f (implicit_definitions i.operands))) (call_writes t e i.operands) (in-undefined false w.lane (all_lanes t f (implicit_definitions i.operands)) k)
        go (inr k) = lane-right w.lane (undefined false (all_lanes t f (implicit_definitions i.operands))) (call_writes t e i.operands) k

    covered : (w : Write) → Member w W → LaneIn w.lane E × (fill_owner w.fill ≡ None)
    covered w m = covered-by w (in-either w X (further_writes t f e i) m)

    covers : (v : Write) → Member v E → is_reserved t v.lane ≡ false → LaneIn v.lane W
    covers v m r = go (in-either v X (undefined false (all_lanes t f (implicit_definitions i.operands)) ++ call_writes t e i.operands) m)
      where
        more : Member v (undefined false (all_lanes t f (implicit_definitions i.operands))) ⊎ Member v (call_writes t e i.operands) → LaneIn v.lane W
        more (inl k) = lane-right v.lane X (further_writes t f e i) (further-covers e i v.lane r (inl (of-undefined false v (all_lanes t f (implicit_definitions i.operands)) k).0))
        more (inr k) = lane-right v.lane X (further_writes t f e i) (further-covers e i v.lane r (inr (v, k, refl)))

        go : Member v X ⊎ Member v (undefined false (all_lanes t f (implicit_definitions i.operands)) ++ call_writes t e i.operands) → LaneIn v.lane W
        go (inl k) = lane-left v.lane X (further_writes t f e i) (v, k, refl)
        go (inr k) = more (in-either v (undefined false (all_lanes t f (implicit_definitions i.operands))) (call_writes t e i.operands) k)

    abbrev acts-in : Option Effect → Writes
    acts-in o = elim o [ None ↦ [] | Some x ↦ effect_acts t f x (roles_of t i) i.operands ]

    entered-is : entered_writes t f i ≡ E
    unfolding entered_writes
    entered-is = ap (λ (o : Option Effect). acts-in o) known ∙ ap (λ (s : Bool). cond s (silent_acts t f e (is_early_clobber (roles_of t i)) i.operands) E) counted

    plain-of : (x : Item) → in_order x ≡ true → reads_of x ≡ map (λ v. v.0) (values t f e i) → writes_of x ≡ W → IsPlain (is_reserved t) tag x E
    plain-of x o rs ws = record {
      ordered = o;
      unmoved = λ w m. (entered-named e (roles_of t i) i.operands w m).1;
      covered = λ w m r. let z = (covered w (subst (Member w) ws m)).0 in (z.0, z.1, z.2);
      covers = λ v m r. let z = covers v m r in (z.0, subst (Member z.0) (sym ws) z.1, z.2);
      read = λ w l m g r. absurd (moves-none w l (covered w (subst (Member w) ws m)).1 g);
      numbered = λ l ss m k r. let z = values-read e i ss (subst (Member ss) rs m) l k in names.lanes z.0 l z.1 (inl z.2) r;
      written = λ v m r. named-tag v.lane (entered-named e (roles_of t i) i.operands v m).0 r;
      unslotted = λ v m. named-still i.operands v.lane (entered-named e (roles_of t i) i.operands v m).0;
      still = λ w m. still w (subst (Member w) ws m) (is_slot w.lane) refl;
      proper = λ l ss m k. let z = values-read e i ss (subst (Member ss) rs m) l k in located-still z.0.loc z.0.index l z.2;
    }
      where
        still : (w : Write) → Member w W → (s : Bool) → is_slot w.lane ≡ s → is_slot w.lane ≡ false
        still w m false q = q
        still w m true q = let z = (covered w m).0 in ap is_slot (sym z.2) ∙ named-still i.operands z.0.lane (entered-named e (roles_of t i) i.operands z.0 z.1).0

    abbrev C : Item
    C = Counted (rest_of t f e i) (map (λ v. v.0) (values t f e i)) W (option_map (way t f b.number) (target_of i.operands)) (cond (is_terminator e) (ways_out t f b) [])

    no-phi : (e : Effect) → is_silent e ≡ false → is_phi e ≡ false
    no-phi effects.Phi h = absurd (cc)
    no-phi e h = refl

    item-is : point_item t f b i ≡ C
    unfolding point_item item_of
    item-is =
        ap (λ (o : Option Effect). cond (passes is_phi o) (Silent [] (defined_undef t f i.operands)) (elim o [ None ↦ Silent [] [] | Some x ↦ effect_item t f b i x ])) known
        ∙ ap (λ (s : Bool). cond s (Silent [] (defined_undef t f i.operands)) (effect_item t f b i e)) (no-phi e counted)
        ∙ ap (λ (s : Bool). cond s (Silent (silent_reads t f e i.operands) (silent_writes t f e (is_early_clobber (roles_of t i)) i.operands)) C) counted

    pub counted-plain : IsPlain (is_reserved t) tag (point_item t f b i) (entered_writes t f i)
    counted-plain = subst (λ x. IsPlain (is_reserved t) tag (point_item t f b i) x) (sym entered-is) (subst (λ x. IsPlain (is_reserved t) tag x E) (sym item-is) (plain-of C refl refl refl))

pub counted-law : CountedLaw
counted-law t f tag b i e known counted names = counted-plain t f tag b i e known counted names
