-- An instruction with other uses in the places of its own, each as wide, does the same with what these read.
use Rattle.std.proofs.Common.{◌≡◌, ◌∷◌, ◌++◌, ◌∙◌, ◌&&◌, ◌||◌, append_assoc, arith, length-append, not, ℕ, zero, suc, Bool, true, false, cond, List, Option, Some, None, map, filter, flat_map, length, refl, sym, ap, subst, []}
use Rattle.std.specs.Prelude.{filter_map, pos, sum}
use Rattle.std.specs.List.{cons_option, list_any}
use Rattle.target_base.specs.declared.types.Effect.{Effect}
use Rattle.target_base.specs.declared.types.Effect.TheVariants as effects
use Rattle.target_base.specs.declared.types.OpaqueKind.{OpaqueKind}
use Rattle.target_base.specs.declared.types.OpaqueKind.TheVariants as kinds
use Rattle.target_base.specs.declared.types.Role.{Role}
use Rattle.target_base.specs.declared.types.Unit.{Unit as UnitNumber}
use Rattle.target_base.specs.declared.types.Target.{Target}
use Rattle.target_base.specs.Registers.{units_of}
use Rattle.target_base.specs.Roles.{is_address}
use Rattle.std.specs.Prelude.{ℤ, nat_abs}
use Rattle.meaning.specs.Live.{Among, here, there}
use Rattle.meaning.specs.Environment.{constant_source}
use Rattle.meaning.specs.Perform.{condition_lane}
use Rattle.meaning.specs.Relations.{AlikeOperands, AlikeReads, Rel}
use Rattle.meaning.specs.declared.types.Constant.{Constant}
use Rattle.meaning.specs.declared.types.Constant.TheVariants.{FixedStackAddress, Immediate, StackAddress, SymbolAddress}
use Rattle.meaning.specs.declared.types.Lane.{Lane}
use Rattle.meaning.specs.declared.types.Lane.TheVariants.{UnitLane}
use Rattle.meaning.specs.declared.types.Source.{Source}
use Rattle.meaning.specs.declared.types.Source.TheVariants.{Bits, FromLane, Undef}
use Rattle.mir_func.specs.declared.func.Loc.{Loc}
use Rattle.mir_func.specs.declared.func.Loc.TheVariants.{Fixed, Virtual}
use Rattle.mir_func.specs.declared.func.RegOp.{RegOp}
use Rattle.mir_func.specs.declared.func.Operand.{Operand}
use Rattle.mir_func.specs.declared.func.Operand.TheVariants as operands
use Rattle.mir_func.specs.declared.func.Instr.{Instr}
use Rattle.mir_func.specs.Value.{Function}
use Rattle.mir_func.specs.Binding.{Bound, Definition, is_definition, as_register, definition_in, definitions, explicit_bound, explicit_operands, explicit_roles, immediate_of, implicit_registers, implicit_roles, is_early, is_implicit_operand, passes, registers, roles_of, takes_many}
use Rattle.mir_func.specs.Spelling.{op_name, word_of}
use Rattle.mir_meaning.specs.Registers.{located_lanes, numbers, operand_lanes, operand_widths, unit_lanes, use_sources}
use Rattle.mir_meaning.specs.Items.{Value, all_lanes, clobbered, computed, computes_with_immediates, defined_lanes, explicit_definitions, first_width, flag_value, further_writes, has_base, implicit_definitions, implicit_values, implicit_writes, is_flags, kept, lane_width, named_symbol, needed_of, needs_value, opaque_clobbers, pick, preserves, read_widths, rest_of, result_widths, symbol_of, undefined, unreserved, use_value, value_of, values}
use Rattle.mir_meaning.specs.Codes.{target_of}
use Rattle.mir_meaning.specs.Renaming.{IsFixed}
use Rattle.instr_effects.proofs.Members.{filter-of}
use Rattle.lowering_laws.proofs.Found.{place}
use Rattle.lowering_laws.proofs.Silently.{lanes-count}

module _ (t : Target) (f : Function) (R : Rel) (Comes : Lane → Lane → Type 0) where
  -- An operand in the place of another, as wide: a use reads what is related to what the other reads, and a lane that comes
  -- from one has the place in an explicit definition that this one has in the other. Implicit operands stay.
  pub record InPlace (o o' : RegOp) : Type 0 where
    pub def : o'.def ≡ o.def
    pub implicit : o'.implicit ≡ o.implicit
    pub widths : operand_widths t f o' ≡ operand_widths t f o
    pub stays : o.implicit ≡ true → o' ≡ o
    pub reads : o.def ≡ false → AlikeReads R (use_sources t f o) (use_sources t f o')
    pub clear : is_definition o ≡ true → o'.undef ≡ false
    pub lanes : is_definition o ≡ true → (a a' : Lane) → Comes a a' → place (operand_lanes t f o) a ≡ place (operand_lanes t f o') a'

  -- it has as many lanes
  pub lanes-long : {o o' : RegOp} → InPlace o o' → length (operand_lanes t f o') ≡ length (operand_lanes t f o)
  lanes-long {o = o} {o' = o'} z = lanes-count t f o'.loc o'.index ∙ (ap length z.widths ∙ sym (lanes-count t f o.loc o.index))

  -- operands in the places of others
  pub data Replaces : List Operand → List Operand → Type 0 where
    none : Replaces [] []
    register : {o o' : RegOp} {os os' : List Operand} → InPlace o o' → Replaces os os' → Replaces (operands.Reg o ∷ os) (operands.Reg o' ∷ os')
    other : {x : Operand} {os os' : List Operand} → as_register x ≡ None → Replaces os os' → Replaces (x ∷ os) (x ∷ os')

  abbrev pub AllInPlace : List RegOp → List RegOp → Type 0
  AllInPlace [] [] = Unit {0}
  AllInPlace (o ∷ os) (p ∷ ps) = InPlace o p × AllInPlace os ps
  AllInPlace [] (p ∷ ps) = ⊥
  AllInPlace (o ∷ os) [] = ⊥

  pub registers-in : {os os' : List Operand} → Replaces os os' → AllInPlace (registers os) (registers os')
  registers-in none = tt
  registers-in (register z xs) = (z, registers-in xs)
  registers-in (other {os = os} {os' = os'} e xs) = subst (λ q. AllInPlace (cons_option q (registers os)) (cons_option q (registers os'))) (sym e) (registers-in xs)

  implicit-in : (os ps : List RegOp) → AllInPlace os ps → filter (λ o. o.implicit) ps ≡ filter (λ o. o.implicit) os
  implicit-in [] [] z = refl
  implicit-in [] (p ∷ ps) z = absurd (z)
  implicit-in (o ∷ os) [] z = absurd (z)
  implicit-in (o ∷ os) (p ∷ ps) z = (λ k. cond (z.0.implicit k) (p ∷ filter (λ q. q.implicit) ps) (filter (λ q. q.implicit) ps)) ∙ go o.implicit refl (implicit-in os ps z.1)
    where
      go : (b : Bool) → o.implicit ≡ b → filter (λ q. q.implicit) ps ≡ filter (λ q. q.implicit) os → cond b (p ∷ filter (λ q. q.implicit) ps) (filter (λ q. q.implicit) ps) ≡ cond b (o ∷ filter (λ q. q.implicit) os) (filter (λ q. q.implicit) os)
      go true e ih = λ k. z.0.stays e k ∷ ih k
      go false e ih = ih

  explicit-in : (os ps : List RegOp) → AllInPlace os ps → flat_map (operand_widths t f) (filter (λ o. o.def && not o.implicit) ps) ≡ flat_map (operand_widths t f) (filter (λ o. o.def && not o.implicit) os)
  explicit-in [] [] z = refl
  explicit-in [] (p ∷ ps) z = absurd (z)
  explicit-in (o ∷ os) [] z = absurd (z)
  explicit-in (o ∷ os) (p ∷ ps) z = (λ k. flat_map (operand_widths t f) (cond (z.0.def k && not (z.0.implicit k)) (p ∷ its) its)) ∙ go (o.def && not o.implicit) (explicit-in os ps z.1)
    where
      mine : List RegOp
      mine = filter (λ q. q.def && not q.implicit) os

      its : List RegOp
      its = filter (λ q. q.def && not q.implicit) ps

      go : (b : Bool) → flat_map (operand_widths t f) its ≡ flat_map (operand_widths t f) mine → flat_map (operand_widths t f) (cond b (p ∷ its) its) ≡ flat_map (operand_widths t f) (cond b (o ∷ mine) mine)
      go true ih = λ k. z.0.widths k ++ ih k
      go false ih = ih

  flat-append : {A B : Type 0} (g : A → List B) (xs ys : List A) → flat_map g (xs ++ ys) ≡ flat_map g xs ++ flat_map g ys
  flat-append g [] ys = refl
  flat-append g (x ∷ xs) ys = ap (λ zs. g x ++ zs) (flat-append g xs ys) ∙ sym (append_assoc (g x) (flat_map g xs) (flat_map g ys))

  module _ {os os' : List Operand} (xs : Replaces os os') where
    implicit-same : implicit_registers os' ≡ implicit_registers os
    implicit-same = implicit-in (registers os) (registers os') (registers-in xs)

    explicit-same : flat_map (operand_widths t f) (explicit_definitions os') ≡ flat_map (operand_widths t f) (explicit_definitions os)
    explicit-same = explicit-in (registers os) (registers os') (registers-in xs)

    implicit-definitions-same : implicit_definitions os' ≡ implicit_definitions os
    implicit-definitions-same = ap (filter (λ o. o.def)) implicit-same

    width-same : first_width t f (registers os') ≡ first_width t f (registers os)
    width-same = go (registers os) (registers os') (registers-in xs)
      where
        go : (ms ns : List RegOp) → AllInPlace ms ns → first_width t f ns ≡ first_width t f ms
        go [] [] z = refl
        go [] (b ∷ ns) z = absurd (z)
        go (a ∷ ms) [] z = absurd (z)
        go (a ∷ ms) (b ∷ ns) z = ap sum z.0.widths

  explicit-replaces : {os os' : List Operand} → Replaces os os' → Replaces (explicit_operands os) (explicit_operands os')
  explicit-replaces none = none
  explicit-replaces (register {o = o} {o' = o'} {os = os} {os' = os'} z xs) =
      subst (λ b. Replaces (cond (not o.implicit) (operands.Reg o ∷ explicit_operands os) (explicit_operands os)) (cond (not b) (operands.Reg o' ∷ explicit_operands os') (explicit_operands os'))) (sym z.implicit) (go o.implicit (explicit-replaces xs))
    where
      go : (b : Bool) → Replaces (explicit_operands os) (explicit_operands os') → Replaces (cond (not b) (operands.Reg o ∷ explicit_operands os) (explicit_operands os)) (cond (not b) (operands.Reg o' ∷ explicit_operands os') (explicit_operands os'))
      go true ih = ih
      go false ih = register z ih
  explicit-replaces (other {x = x} {os = os} {os' = os'} e xs) = go (is_implicit_operand x) (explicit-replaces xs)
    where
      go : (b : Bool) → Replaces (explicit_operands os) (explicit_operands os') → Replaces (cond (not b) (x ∷ explicit_operands os) (explicit_operands os)) (cond (not b) (x ∷ explicit_operands os') (explicit_operands os'))
      go true ih = ih
      go false ih = other e ih

  -- what is told of each operand by its role and its kind
  told-same : {X : Type 0} (g : Bound → Option X) → ((r : Option Role) (o o' : RegOp) → InPlace o o' → g (r, operands.Reg o') ≡ g (r, operands.Reg o)) → (rs : List Role) {os os' : List Operand} → Replaces os os' → filter_map g (explicit_bound rs os') ≡ filter_map g (explicit_bound rs os)
  told-same g h rs none = refl
  told-same g h [] (register {o = o} {o' = o'} z xs) = λ k. cons_option (h None o o' z k) (told-same g h [] xs k)
  told-same g h (r ∷ rs) (register {o = o} {o' = o'} z xs) = λ k. cons_option (h (Some r) o o' z k) (told-same g h (cond (takes_many r) (r ∷ rs) rs) xs k)
  told-same g h [] (other {x = x} e xs) = ap (cons_option (g (None, x))) (told-same g h [] xs)
  told-same g h (r ∷ rs) (other {x = x} e xs) = ap (cons_option (g (Some r, x))) (told-same g h (cond (takes_many r) (r ∷ rs) rs) xs)

  -- explicit definitions in the places of others, and whether each is an early-clobber one
  abbrev pub AlikeDefinitions : List Definition → List Definition → Type 0
  AlikeDefinitions [] [] = Unit {0}
  AlikeDefinitions [] (d' ∷ ds') = ⊥
  AlikeDefinitions (d ∷ ds) [] = ⊥
  AlikeDefinitions (d ∷ ds) (d' ∷ ds') = InPlace d.1 d'.1 × (is_definition d.1 ≡ true) × AlikeDefinitions ds ds'

  told-definition : (r : Option Role) (o o' : RegOp) (ds ds' : List Definition) → InPlace o o' → AlikeDefinitions ds ds' → AlikeDefinitions (cons_option (definition_in (r, operands.Reg o)) ds) (cons_option (definition_in (r, operands.Reg o')) ds')
  told-definition r o o' ds ds' z m = subst (λ (b : Bool). AlikeDefinitions (cons_option (definition_in (r, operands.Reg o)) ds) (cons_option (cond b (Some (passes is_early r, o')) None) ds')) (λ k. sym z.def k && not (sym z.implicit k)) (go (is_definition o) refl)
    where
      go : (b : Bool) → is_definition o ≡ b → AlikeDefinitions (cons_option (cond b (Some (passes is_early r, o)) None) ds) (cons_option (cond b (Some (passes is_early r, o')) None) ds')
      go true e = (z, e, m)
      go false e = m

  other-definition : (r : Option Role) (x : Operand) (ds ds' : List Definition) → as_register x ≡ None → AlikeDefinitions ds ds' → AlikeDefinitions (cons_option (definition_in (r, x)) ds) (cons_option (definition_in (r, x)) ds')
  other-definition r (operands.Reg o) ds ds' e m = absurd (cc)
  other-definition r x ds ds' e m = m

  told-definitions : (rs : List Role) {os os' : List Operand} → Replaces os os' → AlikeDefinitions (filter_map definition_in (explicit_bound rs os)) (filter_map definition_in (explicit_bound rs os'))
  told-definitions rs none = tt
  told-definitions [] (register {o = o} {o' = o'} {os = os} {os' = os'} z xs) = told-definition None o o' (filter_map definition_in (explicit_bound [] os)) (filter_map definition_in (explicit_bound [] os')) z (told-definitions [] xs)
  told-definitions (r ∷ rs) (register {o = o} {o' = o'} {os = os} {os' = os'} z xs) =
      let rest = cond (takes_many r) (r ∷ rs) rs in
      told-definition (Some r) o o' (filter_map definition_in (explicit_bound rest os)) (filter_map definition_in (explicit_bound rest os')) z (told-definitions rest xs)
  told-definitions [] (other {x = x} {os = os} {os' = os'} e xs) = other-definition None x (filter_map definition_in (explicit_bound [] os)) (filter_map definition_in (explicit_bound [] os')) e (told-definitions [] xs)
  told-definitions (r ∷ rs) (other {x = x} {os = os} {os' = os'} e xs) =
      let rest = cond (takes_many r) (r ∷ rs) rs in
      other-definition (Some r) x (filter_map definition_in (explicit_bound rest os)) (filter_map definition_in (explicit_bound rest os')) e (told-definitions rest xs)

  -- they have as many lanes
  defined-long : (ds ds' : List Definition) → AlikeDefinitions ds ds' → length (defined_lanes t f ds') ≡ length (defined_lanes t f ds)
  defined-long [] [] z = refl
  defined-long [] (d' ∷ ds') z = absurd (z)
  defined-long (d ∷ ds) [] z = absurd (z)
  defined-long (d ∷ ds) (d' ∷ ds') z =
      let one = length-append (operand_lanes t f d'.1) (defined_lanes t f ds') in
      let two = length-append (operand_lanes t f d.1) (defined_lanes t f ds) in
      let three = lanes-long z.0 in
      let four = defined-long ds ds' z.2 in
      omega (arith, one, two, three, four)

  needs-same : (r : Option Role) (o o' : RegOp) → InPlace o o' → needs_value (r, operands.Reg o') ≡ needs_value (r, operands.Reg o)
  needs-same r o o' z = λ k. cond (z.def k) None (Some (passes is_address r))

  -- what other operands tell

  immediate-same : {os os' : List Operand} → Replaces os os' → immediate_of os' ≡ immediate_of os
  immediate-same none = refl
  immediate-same (register z xs) = immediate-same xs
  immediate-same (other {x = operands.Reg o} e xs) = absurd (cc)
  immediate-same (other {x = operands.Imm z} e xs) = refl
  immediate-same (other {x = operands.Block z} e xs) = immediate-same xs
  immediate-same (other {x = operands.Stack z} e xs) = immediate-same xs
  immediate-same (other {x = operands.FixedStack z} e xs) = immediate-same xs
  immediate-same (other {x = operands.Symbol z} e xs) = immediate-same xs
  immediate-same (other {x = operands.Index z} e xs) = immediate-same xs
  immediate-same (other {x = operands.Mask z} e xs) = immediate-same xs

  symbol-same : {os os' : List Operand} → Replaces os os' → symbol_of os' ≡ symbol_of os
  symbol-same none = refl
  symbol-same (register z xs) = symbol-same xs
  symbol-same (other {x = operands.Reg o} e xs) = absurd (cc)
  symbol-same (other {x = operands.Imm z} e xs) = symbol-same xs
  symbol-same (other {x = operands.Block z} e xs) = symbol-same xs
  symbol-same (other {x = operands.Stack z} e xs) = symbol-same xs
  symbol-same (other {x = operands.FixedStack z} e xs) = symbol-same xs
  symbol-same (other {x = operands.Symbol z} e xs) = refl
  symbol-same (other {x = operands.Index z} e xs) = symbol-same xs
  symbol-same (other {x = operands.Mask z} e xs) = symbol-same xs

  pub target-same : {os os' : List Operand} → Replaces os os' → target_of os' ≡ target_of os
  target-same none = refl
  target-same (register z xs) = target-same xs
  target-same (other {x = operands.Reg o} e xs) = absurd (cc)
  target-same (other {x = operands.Imm z} e xs) = target-same xs
  target-same (other {x = operands.Block z} e xs) = refl
  target-same (other {x = operands.Stack z} e xs) = target-same xs
  target-same (other {x = operands.FixedStack z} e xs) = target-same xs
  target-same (other {x = operands.Symbol z} e xs) = target-same xs
  target-same (other {x = operands.Index z} e xs) = target-same xs
  target-same (other {x = operands.Mask z} e xs) = target-same xs

  words-same : {os os' : List Operand} → Replaces os os' → flat_map (word_of t) os' ≡ flat_map (word_of t) os
  words-same none = refl
  words-same (register z xs) = words-same xs
  words-same (other {x = x} e xs) = ap (λ ys. word_of t x ++ ys) (words-same xs)

  preserved-same : (u : ℕ) {os os' : List Operand} → Replaces os os' → list_any (preserves t u) os' ≡ list_any (preserves t u) os
  preserved-same u none = refl
  preserved-same u (register z xs) = preserved-same u xs
  preserved-same u (other {x = x} e xs) = ap (λ b. preserves t u x || b) (preserved-same u xs)

  clobbered-same : {os os' : List Operand} → Replaces os os' → clobbered t os' ≡ clobbered t os
  clobbered-same xs = λ k. unreserved t (map UnitLane (filter (λ u. not (preserved-same u xs k)) (numbers 0 (length t.units))))

  -- writes

  implicit-writes-same : (e : Effect) (rs : List Role) {os os' : List Operand} → Replaces os os' → implicit_writes t f e rs os' ≡ implicit_writes t f e rs os
  implicit-writes-same effects.Cmp rs xs = ap (λ ds. kept t (computed false 0 (all_lanes t f (filter (is_flags rs) ds)) ++ undefined false (all_lanes t f ds))) (implicit-definitions-same xs)
  implicit-writes-same effects.Call rs xs = λ k. computed false 0 (unreserved t (all_lanes t f (implicit-definitions-same xs k))) ++ undefined false (clobbered-same xs k)
  implicit-writes-same e rs xs = ap (λ ds. undefined false (unreserved t (all_lanes t f ds))) (implicit-definitions-same xs)

  clobbers-same : (kind : OpaqueKind) {os os' : List Operand} → Replaces os os' → opaque_clobbers t kind os' ≡ opaque_clobbers t kind os
  clobbers-same kinds.Call xs = ap (undefined false) (clobbered-same xs)
  clobbers-same kind xs = refl

  module _ (i : Instr) (os' : List Operand) (xs : Replaces i.operands os') (e : Effect) where
    abbrev i' : Instr
    i' = record i { operands = os' }

    pub definitions-alike : AlikeDefinitions (definitions (roles_of t i) i.operands) (definitions (roles_of t i) os')
    definitions-alike = told-definitions (explicit_roles (roles_of t i)) (explicit-replaces xs)

    pub further-same : (x : Effect) → further_writes t f x i' ≡ further_writes t f x i
    further-same (effects.Opaque kind) = λ k. computed false (defined-long (definitions (roles_of t i) i.operands) (definitions (roles_of t i) os') definitions-alike k) (all_lanes t f (implicit-definitions-same xs k)) ++ clobbers-same kind xs k
    further-same x = implicit-writes-same x (implicit_roles (roles_of t i)) xs

    symbols-same : (x : Effect) → named_symbol t x i' ≡ named_symbol t x i
    symbols-same effects.Call = symbol-same xs
    symbols-same (effects.Opaque kind) = ap (λ ws. op_name t i.op ++ ws) (words-same xs)
    symbols-same x = refl

    needed-same : (x : Effect) → needed_of t x i' ≡ needed_of t x i
    needed-same (effects.Opaque kind) = told-same needs_value needs-same (explicit_roles (roles_of t i)) (explicit-replaces xs)
    needed-same x = refl

    result-same : (x : Effect) → result_widths t f x os' ≡ result_widths t f x i.operands
    result-same effects.Call = ap (λ ds. map (lane_width t) (unreserved t (all_lanes t f ds))) (implicit-definitions-same xs)
    result-same (effects.Opaque kind) =
        flat-append (operand_widths t f) (explicit_definitions os') (implicit_definitions os')
        ∙ ((λ k. explicit-same xs k ++ flat_map (operand_widths t f) (implicit-definitions-same xs k))
        ∙ sym (flat-append (operand_widths t f) (explicit_definitions i.operands) (implicit_definitions i.operands)))
    result-same x = explicit-same xs

  -- reads

  abbrev AlikeValues : List Value → List Value → Type 0
  AlikeValues [] [] = Unit {0}
  AlikeValues (v ∷ vs) (w ∷ ws) = (w.1 ≡ v.1) × AlikeReads R v.0 w.0 × AlikeValues vs ws
  AlikeValues [] (w ∷ ws) = ⊥
  AlikeValues (v ∷ vs) [] = ⊥

  alike-widths : (vs ws : List Value) → AlikeValues vs ws → map (λ v. v.1) ws ≡ map (λ v. v.1) vs
  alike-widths [] [] z = refl
  alike-widths [] (w ∷ ws) z = absurd (z)
  alike-widths (v ∷ vs) [] z = absurd (z)
  alike-widths (v ∷ vs) (w ∷ ws) z = λ k. z.0 k ∷ alike-widths vs ws z.2 k

  alike-reads : (vs ws : List Value) → AlikeValues vs ws → AlikeOperands R (map (λ v. v.0) vs) (map (λ v. v.0) ws)
  alike-reads [] [] z = tt
  alike-reads [] (w ∷ ws) z = absurd (z)
  alike-reads (v ∷ vs) [] z = absurd (z)
  alike-reads (v ∷ vs) (w ∷ ws) z = (z.1, alike-reads vs ws z.2)

  append-alike : (ms ns ms' ns' : List Value) → AlikeValues ms ms' → AlikeValues ns ns' → AlikeValues (ms ++ ns) (ms' ++ ns')
  append-alike [] ns [] ns' z y = y
  append-alike [] ns (w ∷ ms') ns' z y = absurd (z)
  append-alike (v ∷ ms) ns [] ns' z y = absurd (z)
  append-alike (v ∷ ms) ns (w ∷ ms') ns' z y = (z.0, z.1, append-alike ms ns ms' ns' z.2 y)

  module _ (bits : (c : Constant) (low width : ℕ) → R (Bits c low width) (Bits c low width)) (units : (u : ℕ) → R (FromLane (UnitLane u)) (FromLane (UnitLane u))) (undef : R Undef Undef) where
    constant-alike : (c : Constant) (w : ℕ) → R (constant_source c 0 w) (constant_source c 0 w)
    constant-alike (Immediate n) w = bits (Immediate _) 0 w
    constant-alike c w = bits c 0 w

    constant-value : (y : Bool) (c : Constant) (w : ℕ) (vs ws : List Value) → AlikeValues vs ws → AlikeValues (cons_option (cond y (Some (constant_source c 0 w ∷ [], w ∷ [])) None) vs) (cons_option (cond y (Some (constant_source c 0 w ∷ [], w ∷ [])) None) ws)
    constant-value true c w vs ws z = (refl, (constant-alike c w, tt), z)
    constant-value false c w vs ws z = z

    other-value : (e : Effect) (w : ℕ) (x : Operand) → as_register x ≡ None → (vs ws : List Value) → AlikeValues vs ws → AlikeValues (cons_option (value_of t f e w x) vs) (cons_option (value_of t f e w x) ws)
    other-value e w (operands.Reg o) h vs ws z = absurd (cc)
    other-value e w (operands.Imm n) h vs ws z = constant-value (computes_with_immediates e) (Immediate _) w vs ws z
    other-value e w (operands.Stack n) h vs ws z = constant-value (has_base e) (StackAddress n) 64 vs ws z
    other-value e w (operands.FixedStack n) h vs ws z = constant-value (has_base e) (FixedStackAddress n) 64 vs ws z
    other-value e w (operands.Symbol name) h vs ws z = constant-value (has_base e) (SymbolAddress name) 64 vs ws z
    other-value e w (operands.Block n) h vs ws z = z
    other-value e w (operands.Index n) h vs ws z = z
    other-value e w (operands.Mask n) h vs ws z = z

    register-value : (o o' : RegOp) → InPlace o o' → (vs ws : List Value) → AlikeValues vs ws → AlikeValues (cons_option (cond o.def None (Some (use_value t f o))) vs) (cons_option (cond o'.def None (Some (use_value t f o'))) ws)
    register-value o o' z vs ws y = subst (λ b. AlikeValues (cons_option (cond o.def None (Some (use_value t f o))) vs) (cons_option (cond b None (Some (use_value t f o'))) ws)) (sym z.def) (go o.def refl)
      where
        go : (b : Bool) → o.def ≡ b → AlikeValues (cons_option (cond b None (Some (use_value t f o))) vs) (cons_option (cond b None (Some (use_value t f o'))) ws)
        go true e = y
        go false e = (z.widths, z.reads e, y)

    explicit-values : (e : Effect) (w : ℕ) {os os' : List Operand} → Replaces os os' → AlikeValues (filter_map (value_of t f e w) os) (filter_map (value_of t f e w) os')
    explicit-values e w none = tt
    explicit-values e w (register {o = o} {o' = o'} {os = os} {os' = os'} z xs) = register-value o o' z (filter_map (value_of t f e w) os) (filter_map (value_of t f e w) os') (explicit-values e w xs)
    explicit-values e w (other {x = x} {os = os} {os' = os'} h xs) = other-value e w x h (filter_map (value_of t f e w) os) (filter_map (value_of t f e w) os') (explicit-values e w xs)

    unit-reads : (y : Bool) (us : List UnitNumber) → AlikeReads R (map (cond y (λ l. Undef) FromLane) (unit_lanes us)) (map (cond y (λ l. Undef) FromLane) (unit_lanes us))
    unit-reads y [] = tt
    unit-reads true (u ∷ us) = (undef, unit-reads true us)
    unit-reads false (u ∷ us) = (units u.0, unit-reads false us)

    fixed-reads : (o : RegOp) → IsFixed o.loc → AlikeReads R (use_sources t f o) (use_sources t f o)
    fixed-reads o e = go o.loc e
      where
        go : (l : Loc) → IsFixed l → AlikeReads R (map (cond o.undef (λ l. Undef) FromLane) (located_lanes t f l o.index)) (map (cond o.undef (λ l. Undef) FromLane) (located_lanes t f l o.index))
        go (Virtual v) e = absurd (e)
        go (Fixed r) e = unit-reads o.undef (units_of t r)

    pick-reads : (k : ℕ) (ss : List Source) → AlikeReads R ss ss → AlikeReads R (pick k ss) (pick k ss)
    pick-reads k [] z = tt
    pick-reads zero (s ∷ ss) z = (z.0, tt)
    pick-reads (suc k) (s ∷ ss) z = pick-reads k ss z.1

    abbrev AllFixed : List RegOp → Type 0
    AllFixed os = (o : RegOp) → Among o os → IsFixed o.loc

    fixed-values : (os : List RegOp) → AllFixed os → AlikeValues (map (use_value t f) os) (map (use_value t f) os)
    fixed-values [] h = tt
    fixed-values (o ∷ os) h = (refl, fixed-reads o (h o here), fixed-values os (λ p m. h p (there m)))

    flag-values : (c : ℤ) (os : List RegOp) → AllFixed os → AlikeValues (map (flag_value t f c) os) (map (flag_value t f c) os)
    flag-values c [] h = tt
    flag-values c (o ∷ os) h = (refl, pick-reads (condition_lane (nat_abs c)) (use_sources t f o) (fixed-reads o (h o here)), flag-values c os (λ p m. h p (there m)))

    implicit-alike : (e : Effect) (c : ℤ) (rs : List Role) (os : List RegOp) → AllFixed os → AlikeValues (implicit_values t f e c rs os) (implicit_values t f e c rs os)
    implicit-alike effects.Jcc c rs os h =
        let one = filter (is_flags rs) os in
        let two = filter (λ o. not (is_flags rs o)) os in
        append-alike (map (flag_value t f c) one) (map (use_value t f) two) (map (flag_value t f c) one) (map (use_value t f) two) (flag-values c one (λ o m. h o (filter-of (is_flags rs) o os m).0)) (fixed-values two (λ o m. h o (filter-of (λ p. not (is_flags rs p)) o os m).0))
    implicit-alike e c rs os h = fixed-values os h

    module _ (i : Instr) (os' : List Operand) (xs : Replaces i.operands os') (e : Effect) (fixed : AllFixed (implicit_registers i.operands)) where
      values-alike : AlikeValues (values t f e i) (values t f e (i' i os' xs e))
      values-alike =
          let w = first_width t f (registers i.operands) in
          let front = filter_map (value_of t f e w) (explicit_operands i.operands) in
          let rs = implicit_roles (roles_of t i) in
          let uses = filter (λ o. not o.def) (implicit_registers i.operands) in
          let back = implicit_values t f e (immediate_of i.operands) rs uses in
          subst (λ y. AlikeValues (front ++ back) (filter_map (value_of t f e y) (explicit_operands os') ++ implicit_values t f e (immediate_of os') rs (filter (λ o. not o.def) (implicit_registers os')))) (sym (width-same xs))
          (subst (λ z. AlikeValues (front ++ back) (filter_map (value_of t f e w) (explicit_operands os') ++ z)) (λ k. implicit_values t f e (sym (immediate-same xs) k) rs (filter (λ o. not o.def) (sym (implicit-same xs) k)))
          (append-alike front back (filter_map (value_of t f e w) (explicit_operands os')) back (explicit-values e w (explicit-replaces xs)) (implicit-alike e (immediate_of i.operands) rs uses (λ o m. fixed o (filter-of (λ p. not p.def) o (implicit_registers i.operands) m).0))))

      -- what is read is alike
      pub reads-alike : AlikeOperands R (map (λ v. v.0) (values t f e i)) (map (λ v. v.0) (values t f e (i' i os' xs e)))
      reads-alike = alike-reads (values t f e i) (values t f e (i' i os' xs e)) values-alike

      read-widths-same : (x : Effect) → read_widths x (values t f e (i' i os' xs e)) ≡ read_widths x (values t f e i)
      read-widths-same effects.Marker = refl
      read-widths-same x = alike-widths (values t f e i) (values t f e (i' i os' xs e)) values-alike

      -- all but registers is the same
      pub rest-same : rest_of t f e (i' i os' xs e) ≡ rest_of t f e i
      rest-same = λ k. record {
        effect = e;
        widths = read-widths-same e k;
        result = result-same i os' xs e e k;
        immediate = cond (computes_with_immediates e) (pos 0) (immediate-same xs k);
        symbol = symbols-same i os' xs e e k;
        needed = needed-same i os' xs e e k;
      }
