-- What a constant or an address writes of units, by its operands.
use Rattle.std.proofs.Common.{◌≡◌, ◌⊎◌, ◌∙◌, ◌<◌, ◌≤◌, ◌+◌, ℕ, zero, suc, Bool, true, false, cond, not, List, [], ◌∷◌, ◌++◌, Option, Some, None, refl, sym, ap, subst, map, drop, length, inl, inr, arith, sum}
use Rattle.std.specs.Prelude.{◌&&◌, ◌||◌, ◌==◌, option_map, slice_get}
use Rattle.std.specs.List.{cons_option, filter_map, list_all, list_any}
use Rattle.std.proofs.Common.{eqb-true}
use Rattle.target_base.specs.declared.types.Effect.{Effect}
use Rattle.target_base.specs.declared.types.Effect.TheVariants as effects
use Rattle.target_base.specs.declared.types.OpcodeDesc.{OpcodeDesc}
use Rattle.target_base.specs.declared.types.Role.{Role}
use Rattle.target_base.specs.declared.types.Role.TheVariants as roles
use Rattle.target_base.specs.declared.types.Target.{Target}
use Rattle.target_base.specs.Numbers.{unit_number}
use Rattle.target_base.specs.Registers.{units_of}
use Rattle.target_base.specs.Roles.{is_silent, is_implicit, has_shape, roles_fit, is_immediate, is_frame_or_symbol, is_definition as is_definition_role}
use Rattle.target_base.specs.Rules.{is_phi}
use Rattle.target_base.specs.Storage.{unit_width}
use Rattle.target_base.proofs.Tests.{first_of_both, second_of_both}
use Rattle.meaning.specs.declared.types.Constant.{Constant}
use Rattle.meaning.specs.declared.types.Fill.TheVariants.{Moved}
use Rattle.meaning.specs.declared.types.Lane.{Lane}
use Rattle.meaning.specs.declared.types.Lane.TheVariants.{UnitLane}
use Rattle.meaning.specs.declared.types.Source.{Source}
use Rattle.meaning.specs.declared.types.Write.{Write}
use Rattle.meaning.specs.Code.{Silent, Counted}
use Rattle.meaning.specs.Lanes.{Writes}
use Rattle.meaning.specs.Live.{Among as Member, here as first, there as later, writes_of}
use Rattle.mir_func.specs.declared.func.Loc.{Loc}
use Rattle.mir_func.specs.declared.func.Loc.TheVariants.{Virtual, Fixed}
use Rattle.mir_func.specs.declared.func.RegOp.{RegOp}
use Rattle.mir_func.specs.declared.func.Operand.{Operand}
use Rattle.mir_func.specs.declared.func.Operand.TheVariants as operands
use Rattle.mir_func.specs.declared.func.Instr.{Instr}
use Rattle.mir_func.specs.declared.func.Block.{Block}
use Rattle.mir_func.specs.Value.{Function}
use Rattle.mir_func.specs.Binding.{after_first, definition_in, definitions, does, effect_of, explicit_bound, explicit_operands, explicit_roles, first_role, implicit_registers, is_early, is_early_clobber, is_terminator, passes, registers, roles_of, is_definition}
use Rattle.mir_func.proofs.Bound.{bound_none, bound_step}
use Rattle.mir_meaning.specs.Codes.{effect_item, item_of, target_of, way, ways_out}
use Rattle.mir_meaning.specs.Items.{constant_bits, constant_lanes, constant_of, counted_writes, defined_undef, given_constant, moved, rest_of, silent_reads, silent_writes, undefined, values, write}
use Rattle.mir_meaning.specs.Points.{point_item}
use Rattle.mir_meaning.specs.Registers.{located_lanes, located_widths, operand_lanes, operand_widths, undefined_lanes}
use Rattle.mir_meaning.specs.Rules.{V1, fits_role}
use Rattle.instr_effects.specs.Acts.{is_call}
use Rattle.instr_effects.proofs.Members.{member-none, member-elim, left-in, in-either}
use Rattle.live_laws.proofs.Effects.FlagsOf.{uniform-constant}
use Rattle.live_laws.proofs.Effects.Moved.{moved-of, undefined-lane}
use Rattle.live_laws.proofs.Effects.Silent.{map-long}
use Rattle.live_laws.proofs.Touch.Effects.{defined-by}
use Rattle.live_laws.proofs.Touch.Roles.{TakeAll, addr-takes, all-explicit, const-takes, fit, has_roles, known-shape, met, no-implicit, none-explicit, roles-sound}
use Rattle.place_solve.specs.Positions.{has_unit, keeps_unit, defines, defines_early, clobbers, writes, writes_early}
use Rattle.place_solve.proofs.Solved.{units-within}
use Rattle.place_solve.proofs.Writes.{IsExact, any-of, both, either-true, or-left, unit-of, unit-in, no-other, defined-of, defined-in}

-- a constant or an address
abbrev pub is_given : Effect → Bool
is_given effects.Const = true
is_given effects.Addr = true
is_given _ = false

given-roles : (e : Effect) → is_given e ≡ true → has_roles e ≡ true
given-roles effects.Const h = refl
given-roles effects.Addr h = refl
given-roles e h = absurd (cc)

-- the operand is a constant, of whatever width
abbrev IsConstant : Operand → Type 0
IsConstant o = (w : ℕ) → (c : Constant) × (constant_of w o ≡ Some c)

-- roles that pass the test are explicit, and their operands constants
abbrev IsGiving : (Role → Bool) → Type 0
IsGiving test = (q : Role) → test q ≡ true → (is_implicit q ≡ false) × ((o : Operand) → fits_role q o ≡ true → IsConstant o)

immediate-gives : IsGiving is_immediate
immediate-gives roles.Imm e = (refl, of)
  where
    of : (o : Operand) → fits_role roles.Imm o ≡ true → IsConstant o
    of (operands.Imm z) h = λ w. (_, refl)
    of o h = absurd (cc)
immediate-gives r e = absurd (cc)

object-gives : IsGiving is_frame_or_symbol
object-gives roles.Frame e = (refl, of)
  where
    of : (o : Operand) → fits_role roles.Frame o ≡ true → IsConstant o
    of (operands.Stack n) h = λ w. (_, refl)
    of (operands.FixedStack n) h = λ w. (_, refl)
    of o h = absurd (cc)
object-gives roles.Sym e = (refl, of)
  where
    of : (o : Operand) → fits_role roles.Sym o ≡ true → IsConstant o
    of (operands.Symbol n) h = λ w. (_, refl)
    of o h = absurd (cc)
object-gives r e = absurd (cc)

-- a definition's role, which is the first of all, and one more
abbrev TwoRoles : List Role → Type 0
TwoRoles rs = (r : Role) × (q : Role) × (explicit_roles rs ≡ r ∷ q ∷ []) × (is_early r ≡ is_early_clobber rs)

early-first : (r : Role) (rs : List Role) → is_early r ≡ is_early_clobber (r ∷ rs)
early-first (roles.Early k) rs = refl
early-first r rs = refl

definition-explicit : (r : Role) → is_definition_role r ≡ true → is_implicit r ≡ false
definition-explicit (roles.Def k) e = refl
definition-explicit (roles.Early k) e = refl
definition-explicit r e = absurd (cc)

two-roles : (test : Role → Bool) → IsGiving test → (rs : List Role) → has_shape (is_definition_role ∷ test ∷ []) rs ≡ true → TwoRoles rs
two-roles test gives [] e = absurd (cc)
two-roles test gives (r ∷ []) e = absurd (let h = second_of_both (is_definition_role r) false e in cc)
two-roles test gives (r ∷ q ∷ rs) e =
    let d = first_of_both (is_definition_role r) (test q && list_all is_implicit rs) e in
    let rest = second_of_both (is_definition_role r) (test q && list_all is_implicit rs) e in
    let g = (gives q (first_of_both (test q) (list_all is_implicit rs) rest)).0 in
    (r, q, ap (λ b. cond (not b) (r ∷ explicit_roles (q ∷ rs)) (explicit_roles (q ∷ rs))) (definition-explicit r d) ∙ ap (λ b. r ∷ cond (not b) (q ∷ explicit_roles rs) (explicit_roles rs)) g ∙ ap (λ ys. r ∷ q ∷ ys) (none-explicit rs (second_of_both (test q) (list_all is_implicit rs) rest)), early-first r (q ∷ rs))

roles-of-given : (t : Target) (e : Effect) (rs : List Role) → is_given e ≡ true → roles_fit t.units t.regs t.classes e rs ≡ true → TwoRoles rs
roles-of-given t effects.Const rs g h = two-roles is_immediate immediate-gives rs (known-shape t effects.Const rs (is_definition_role ∷ is_immediate ∷ []) refl h)
roles-of-given t effects.Addr rs g h = two-roles is_frame_or_symbol object-gives rs (known-shape t effects.Addr rs (is_definition_role ∷ is_frame_or_symbol ∷ []) refl h)
roles-of-given t e rs g h = absurd (cc)

-- operands

abbrev TwoOperands : List Operand → Type 0
TwoOperands os = (d : RegOp) × (o : Operand) × (os ≡ operands.Reg d ∷ o ∷ []) × (is_definition d ≡ true) × IsConstant o

two-operands : (test : Role → Bool) → IsGiving test → (os : List Operand) → TakeAll (is_definition_role ∷ test ∷ []) os → TwoOperands os
two-operands test gives [] e = absurd e
two-operands test gives (a ∷ []) e = absurd e.1
two-operands test gives (a ∷ o ∷ []) e =
    let x = defined-by e.0.0 a e.0.1 e.0.2 in
    (x.0, o, ap (λ y. y ∷ o ∷ []) x.1, x.2, (gives e.1.0.0 e.1.0.1).1 o e.1.0.2)
two-operands test gives (a ∷ o ∷ p ∷ os) e = absurd e.1.1

-- the operand is no definition, whatever its role
not-defined : (c : Operand) (r : Option Role) → IsConstant c → definition_in (r, c) ≡ None
not-defined (operands.Reg x) r k = absurd (let h = (k 0).1 in cc)
not-defined c r k = refl

-- a definition and a constant
one-definition : (qs : List Role) (d : RegOp) (o : Operand) → is_definition d ≡ true → IsConstant o → filter_map definition_in (explicit_bound qs (operands.Reg d ∷ o ∷ [])) ≡ (passes is_early (first_role qs), d) ∷ []
one-definition qs d o h k =
    let rs = after_first qs in
    ap (filter_map definition_in) (bound_step qs (operands.Reg d) (o ∷ []) ∙ ap (λ bs. (first_role qs, operands.Reg d) ∷ bs) (bound_step rs o [] ∙ ap (λ bs. (first_role rs, o) ∷ bs) (bound_none (after_first rs))))
    ∙ ap (λ b. cons_option (cond b (Some (passes is_early (first_role qs), d)) None) (cons_option (definition_in (first_role rs, o)) [])) h
    ∙ ap (λ m. (passes is_early (first_role qs), d) ∷ cons_option m []) (not-defined o (first_role rs) k)

given-silent : (e : Effect) → is_given e ≡ true → (is_silent e ≡ true) × (is_phi e ≡ false) × (is_call e ≡ false)
given-silent effects.Const h = (refl, refl, refl)
given-silent effects.Addr h = (refl, refl, refl)
given-silent e h = absurd (cc)

moved-in : (b : Bool) (ds : List Lane) (ss : List Source) (l : Lane) → length ds ≤ length ss → Member l ds → (w : Write) × Member w (moved b ds ss) × (w.lane ≡ l)
moved-in b [] ss l h m = absurd (member-none l m)
moved-in b (d ∷ ds) [] l h m = absurd (omega arith)
moved-in b (d ∷ ds) (s ∷ ss) l h m = member-elim l d ds (λ e. (write b d (Moved s), first, sym e)) (λ k. let z = moved-in b ds ss l (omega arith) k in (z.0, later z.1, z.2)) m

bits-long : (c : Constant) (low : ℕ) (ws : List ℕ) → length (constant_bits c low ws) ≡ length ws
bits-long c low [] = refl
bits-long c low (w ∷ ws) = ap (λ n. suc n) (bits-long c (low + w) ws)

module _ (t : Target) (f : Function) (i : Instr) (e : Effect) (known : effect_of t i ≡ Some e) (given : is_given e ≡ true) (rule : V1 t f i ≡ true) where
  abbrev early : Bool
  early = is_early_clobber (roles_of t i)

  its-roles : TwoRoles (roles_of t i)
  its-roles =
      let desc = met t f i e known rule in
      subst (λ rs. TwoRoles rs) (sym (ap (λ (q : Option OpcodeDesc). elim q [ None ↦ [] | Some x ↦ x.roles ]) desc.1)) (roles-of-given t e desc.0.roles given (roles-sound t f i e known rule (given-roles e given)))

  whole : explicit_operands i.operands ≡ i.operands
  whole =
      let desc = met t f i e known rule in
      all-explicit i.operands (no-implicit desc.0 (implicit_registers i.operands) (ap is_silent desc.2 ∙ (given-silent e given).0) (fit t f i e known rule (given-roles e given)).implicit)

  two : TwoOperands i.operands
  two = go e given known
    where
      go : (e : Effect) → is_given e ≡ true → effect_of t i ≡ Some e → TwoOperands i.operands
      go effects.Const g k = two-operands is_immediate immediate-gives i.operands (const-takes t f i rule k)
      go effects.Addr g k = two-operands is_frame_or_symbol object-gives i.operands (addr-takes t f i rule k)
      go x g k = absurd (cc)

  abbrev d : RegOp
  d = two.0

  abbrev o : Operand
  o = two.1

  alone : definitions (roles_of t i) i.operands ≡ (early, d) ∷ []
  alone =
      ap (λ os. filter_map definition_in (explicit_bound (explicit_roles (roles_of t i)) os)) (whole ∙ two.2)
      ∙ one-definition (explicit_roles (roles_of t i)) d o two.3 two.4
      ∙ ap (λ b. (b, d) ∷ []) (ap (λ qs. passes is_early (first_role qs)) its-roles.2 ∙ its-roles.3)

  abbrev ss : List Source
  ss = constant_lanes t f d (constant_of (sum (operand_widths t f d)) o)

  abbrev W : Writes
  W = moved early (operand_lanes t f d) ss ++ undefined early (undefined_lanes t f d)

  writes-given : (e : Effect) → is_given e ≡ true → silent_writes t f e early i.operands ≡ given_constant t f early i.operands
  writes-given effects.Const h = refl
  writes-given effects.Addr h = refl
  writes-given e h = absurd (cc)

  item-given : (b : Block) → writes_of (point_item t f b i) ≡ given_constant t f early i.operands
  unfolding point_item item_of
  item-given b =
      ap (λ q. writes_of (cond q (Silent [] (defined_undef t f i.operands)) (elim (effect_of t i) [ None ↦ Silent [] [] | Some x ↦ effect_item t f b i x ]))) (ap (passes is_phi) known ∙ (given-silent e given).1)
      ∙ ap (λ (o : Option Effect). writes_of (elim o [ None ↦ Silent [] [] | Some x ↦ effect_item t f b i x ])) known
      ∙ ap (λ s. writes_of (cond s (Silent (silent_reads t f e i.operands) (silent_writes t f e early i.operands)) (Counted (rest_of t f e i) (map (λ v. v.0) (values t f e i)) (counted_writes t f e i) (option_map (way t f b.number) (target_of i.operands)) (cond (is_terminator e) (ways_out t f b) [])))) (given-silent e given).0
      ∙ writes-given e given

  item-is : (b : Block) → writes_of (point_item t f b i) ≡ W
  item-is b = item-given b ∙ ap (given_constant t f early) two.2

  -- the lanes of a physical register are as many as their widths
  fixed-long : (x : RegOp) (u : ℕ) → has_unit t x.loc (unit_number u) ≡ true → length (operand_lanes t f x) ≡ length (operand_widths t f x)
  fixed-long x u h = go x.loc h
    where
      go : (l : Loc) → has_unit t l (unit_number u) ≡ true → length (located_lanes t f l x.index) ≡ length (located_widths t f l x.index)
      go (Virtual v) h = absurd (cc)
      go (Fixed r) h = map-long (λ w. UnitLane w.0) (units_of t r) ∙ sym (map-long (unit_width t.units) (units_of t r))

  lane-of : (w : Write) (u : ℕ) → Member w W → w.lane ≡ UnitLane u → has_unit t d.loc (unit_number u) ≡ true
  lane-of w u m g = go (in-either w (moved early (operand_lanes t f d) ss) (undefined early (undefined_lanes t f d)) m)
    where
      go : Member w (moved early (operand_lanes t f d) ss) ⊎ Member w (undefined early (undefined_lanes t f d)) → has_unit t d.loc (unit_number u) ≡ true
      go (inl k) = unit-of t f d.loc d.index u (subst (λ l. Member l (operand_lanes t f d)) g (moved-of early w (operand_lanes t f d) ss k).1)
      go (inr k) = absurd (no-other t f d u (subst (λ l. Member l (undefined_lanes t f d)) g (undefined-lane early w (undefined_lanes t f d) k)))

  lane-in : (u : ℕ) → has_unit t d.loc (unit_number u) ≡ true → (w : Write) × Member w W × (w.lane ≡ UnitLane u)
  lane-in u h =
      let c = two.4 (sum (operand_widths t f d)) in
      let long : length ss ≡ length (operand_widths t f d) = ap (λ q. length (constant_lanes t f d q)) c.1 ∙ bits-long c.0 0 (operand_widths t f d) in
      let l = fixed-long d u h in
      let z = moved-in early (operand_lanes t f d) ss (UnitLane u) (omega (arith, long, l)) (unit-in t f d.loc d.index u h) in
      (z.0, left-in z.0 (moved early (operand_lanes t f d) ss) (undefined early (undefined_lanes t f d)) z.1, z.2)

  early-of : (w : Write) → Member w W → w.early ≡ early
  early-of w m = uniform-constant t f early i.operands w (subst (Member w) (sym (ap (given_constant t f early) two.2)) m)

  defining : d.def ≡ true
  defining = first_of_both d.def (not d.implicit) two.3

  not-register : (c : Operand) → IsConstant c → registers (c ∷ []) ≡ []
  not-register (operands.Reg x) k = absurd (let h = (k 0).1 in cc)
  not-register (operands.Imm x) k = refl
  not-register (operands.Block x) k = refl
  not-register (operands.Stack x) k = refl
  not-register (operands.FixedStack x) k = refl
  not-register (operands.Symbol x) k = refl
  not-register (operands.Index x) k = refl
  not-register (operands.Mask x) k = refl

  one : registers i.operands ≡ d ∷ []
  one = ap registers two.2 ∙ ap (λ xs. d ∷ xs) (not-register o two.4)

  only : (x : RegOp) → Member x (registers i.operands) → x ≡ d
  only x m = member-elim x d [] (λ g. g) (λ k. absurd (member-none x k)) (subst (Member x) one m)

  here : Member d (registers i.operands)
  here = subst (Member d) (sym one) first

  not-call : does is_call t i ≡ false
  not-call = ap (passes is_call) known ∙ (given-silent e given).2

  forth : (u : ℕ) → writes t i (unit_number u) ≡ true → has_unit t d.loc (unit_number u) ≡ true
  forth u g = go (either-true (list_any (defines t (unit_number u)) i.operands) (clobbers t i (unit_number u)) g)
    where
      go : (list_any (defines t (unit_number u)) i.operands ≡ true) ⊎ (clobbers t i (unit_number u) ≡ true) → has_unit t d.loc (unit_number u) ≡ true
      go (inl h) = let z = defined-of t f (unit_number u) i.operands h in subst (λ x. has_unit t x.loc (unit_number u) ≡ true) (only z.0 z.1) z.3
      go (inr h) = absurd (let n : false ≡ true = sym not-call ∙ first_of_both (does is_call t i) (not (list_any (keeps_unit t (unit_number u)) i.operands)) h in cc)

  back : (u : ℕ) → has_unit t d.loc (unit_number u) ≡ true → writes t i (unit_number u) ≡ true
  back u h = or-left (list_any (defines t (unit_number u)) i.operands) (clobbers t i (unit_number u)) (defined-in t f (unit_number u) i.operands d here defining h)

  early-is : (u : ℕ) → writes_early t i (unit_number u) ≡ (early && has_unit t d.loc (unit_number u))
  early-is u = ap (list_any (defines_early t (unit_number u))) alone ∙ or-none (early && has_unit t d.loc (unit_number u))
    where
      or-none : (b : Bool) → (b || false) ≡ b
      or-none true = refl
      or-none false = refl

  unit-few : (u : ℕ) → has_unit t d.loc (unit_number u) ≡ true → u < length t.units
  unit-few u h = go d.loc h
    where
      go : (l : Loc) → has_unit t l (unit_number u) ≡ true → u < length t.units
      go (Virtual v) h = absurd (cc)
      go (Fixed r) h = let z = any-of (λ v. v.0 == u) (units_of t r) h in subst (λ n. n < length t.units) (eqb-true z.0.0 u z.2) (units-within t r z.0 z.1)

  pub exact : (b : Block) → IsExact t f b i
  exact b = record {
    written = λ u few free. (
      (λ g. let z = lane-in u (forth u g) in (z.0, subst (Member z.0) (sym (item-is b)) z.1, z.2)),
      (λ w. back u (lane-of w.0 u (subst (Member w.0) (item-is b) w.1) w.2)),
    );
    early = λ u few free. (
      (λ g.
          let h = sym (early-is u) ∙ g in
          let z = lane-in u (second_of_both early (has_unit t d.loc (unit_number u)) h) in
          (z.0, subst (Member z.0) (sym (item-is b)) z.1, z.2, early-of z.0 z.1 ∙ first_of_both early (has_unit t d.loc (unit_number u)) h)),
      (λ w. let m = subst (Member w.0) (item-is b) w.1 in early-is u ∙ both early (has_unit t d.loc (unit_number u)) (sym (early-of w.0 m) ∙ w.3) (lane-of w.0 u m w.2)),
    );
    few = λ u free w. unit-few u (lane-of w.0 u (subst (Member w.0) (item-is b) w.1) w.2);
  }

pub exact-given : (t : Target) (f : Function) (i : Instr) (e : Effect) → effect_of t i ≡ Some e → is_given e ≡ true → V1 t f i ≡ true → (b : Block) → IsExact t f b i
exact-given t f i e known given rule b = exact t f i e known given rule b
