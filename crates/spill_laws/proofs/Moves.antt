-- A store to a slot, or a reload, of a register that lies in its class: it keeps the rules on its operands, and is in lowered form.
use Rattle.std.proofs.Common.{◌≡◌, ◌∙◌, ◌++◌, ◌&&◌, ◌||◌, not, ℕ, Bool, true, false, cond, List, [], ◌∷◌, Option, Some, None, filter, length, map, refl, sym, ap, subst, arith, eqb-true}
use Rattle.std.specs.Prelude.{◌==◌, count_by, filter_map, nat_eq, nat_le, option_map, slice_get}
use Rattle.std.specs.List.{cons_option, list_all, list_any}
use Rattle.target_base.specs.declared.types.ClassId.{ClassId}
use Rattle.target_base.specs.declared.types.Effect.{Effect}
use Rattle.target_base.specs.declared.types.Effect.TheVariants as effects
use Rattle.target_base.specs.declared.types.IndexId.{IndexId}
use Rattle.target_base.specs.declared.types.OpcodeDesc.{OpcodeDesc}
use Rattle.target_base.specs.declared.types.Role.{Role}
use Rattle.target_base.specs.declared.types.Role.TheVariants as roles
use Rattle.target_base.specs.declared.types.Target.{Target}
use Rattle.target_base.specs.Numbers.{op_number}
use Rattle.target_base.specs.Registers.{regs_of}
use Rattle.target_base.specs.Roles.{first_class, has_shape, is_definition as is_definition_role, is_implicit, is_lanes, is_silent, is_slot, is_tied, is_use as is_use_role, roles_fit, tie_fits, ties_fit}
use Rattle.target_base.specs.Rules.{is_copy, operand_regs, regs_of_some}
use Rattle.target_base.specs.Storage.{is_within}
use Rattle.target_base.proofs.Tests.{first_of_both, second_of_both}
use Rattle.mir_func.specs.declared.func.Loc.{Loc}
use Rattle.mir_func.specs.declared.func.RegOp.{RegOp}
use Rattle.mir_func.specs.declared.func.Op.TheVariants as ops
use Rattle.mir_func.specs.declared.func.Operand.{Operand}
use Rattle.mir_func.specs.declared.func.Operand.TheVariants as operands
use Rattle.mir_func.specs.declared.func.Instr.{Instr}
use Rattle.mir_func.specs.Value.{Function}
use Rattle.mir_func.specs.Edits.{made}
use Rattle.mir_func.specs.Binding.{Bound, as_register, bound, does, effect_of, explicit_bound, explicit_operands, explicit_roles, implicit_bound, implicit_registers, implicit_roles, is_implicit_operand, is_lowered_away, is_virtual, numbered, passes, puts_together, registers, roles_of, takes_role, tied_pair, tied_pairs}
use Rattle.mir_meaning.specs.declared.Form.TheVariants as forms
use Rattle.mir_meaning.specs.Rules.{V1, V2, V3, V4, V12, clashing_lanes, defined_lanes, early_fits, explicit_fit, fits_opaque, fits_role, has_class, has_lanes, implicit_fit, implicit_last, in_operand_class, index_fits, is_opaque, is_taken_reserved, lanes_fit, no_two_share, operands_fit, readings, register_lies_in, same_role, share_a_lane, subregs_fit, undef_fits, undef_uses_fit, widths_fit}
use Rattle.live_laws.specs.Effects.Shaped.{IsShaped}
use Rattle.live_laws.proofs.Touch.Roles.{has_roles, known-desc, known-shape}
use Rattle.lowering_laws.specs.Form.{is_lowered, is_undef_definition, is_undef_use, shares_register}
use Rattle.spill_laws.proofs.Opcodes.{Moves}

-- the roles of a store are a use, a slot and lanes, and those of a reload a definition, a slot and lanes

slot-is : (r : Role) → is_slot r ≡ true → r ≡ roles.Slot
slot-is roles.Slot h = refl
slot-is r h = absurd (cc)

lanes-is : (r : Role) → is_lanes r ≡ true → r ≡ roles.Lanes
lanes-is roles.Lanes h = refl
lanes-is r h = absurd (cc)

pub none-left : (rs : List Role) → list_all is_implicit rs ≡ true → nat_eq (length (filter is_implicit rs)) 0 ≡ true → rs ≡ []
none-left [] h e = refl
none-left (r ∷ rs) h e = absurd (let z : filter is_implicit (r ∷ rs) ≡ r ∷ filter is_implicit rs = ap (λ b. cond b (r ∷ filter is_implicit rs) (filter is_implicit rs)) (first_of_both (is_implicit r) (list_all is_implicit rs) h) in let y : nat_eq (length (r ∷ filter is_implicit rs)) 0 ≡ true = sym (ap (λ qs. nat_eq (length qs) 0) z) ∙ e in let w = eqb-true (length (r ∷ filter is_implicit rs)) 0 y in omega arith)

pub behind-plain : (r : Role) (rs : List Role) → is_implicit r ≡ false → nat_eq (length (filter is_implicit (r ∷ rs))) 0 ≡ true → nat_eq (length (filter is_implicit rs)) 0 ≡ true
behind-plain r rs h e = sym (ap (λ b. nat_eq (length (cond b (r ∷ filter is_implicit rs) (filter is_implicit rs))) 0) h) ∙ e

two-left : (rs : List Role) → has_shape (is_slot ∷ is_lanes ∷ []) rs ≡ true → nat_eq (length (filter is_implicit rs)) 0 ≡ true → rs ≡ roles.Slot ∷ roles.Lanes ∷ []
two-left [] h e = absurd (cc)
two-left (q ∷ []) h e = absurd (let z = second_of_both (is_slot q) false h in cc)
two-left (q ∷ r ∷ rs) h e =
    let one = slot-is q (first_of_both (is_slot q) (is_lanes r && list_all is_implicit rs) h) in
    let more = second_of_both (is_slot q) (is_lanes r && list_all is_implicit rs) h in
    let two = lanes-is r (first_of_both (is_lanes r) (list_all is_implicit rs) more) in
    let left = behind-plain r rs (ap is_implicit two) (behind-plain q (r ∷ rs) (ap is_implicit one) e) in
    λ k. one k ∷ two k ∷ none-left rs (second_of_both (is_lanes r) (list_all is_implicit rs) more) left k

-- the first role, whether the register is a definition and `undef`, the effect, and the class of the role
pub data Kind : Role → Bool → Bool → Effect → ClassId → Type 0 where
  storing : (k : ClassId) (undef : Bool) → Kind (roles.Read k) false undef effects.Spill k
  loading : (k : ClassId) → Kind (roles.Def k) true false effects.Reload k
  loading_early : (k : ClassId) → Kind (roles.Early k) true false effects.Reload k

-- an opcode of this kind
pub record Opcode (t : Target) (def undef : Bool) (e : Effect) (n : ℕ) (within : ClassId) : Type 0 where
  pub desc : OpcodeDesc
  pub there : slice_get t.opcodes n ≡ Some desc
  pub effect : desc.effect ≡ e
  pub class : ClassId
  pub role : Role
  pub kind : Kind role def undef e class
  pub roles_are : desc.roles ≡ role ∷ roles.Slot ∷ roles.Lanes ∷ []
  pub holds : is_within (regs_of t within) (regs_of t class) ≡ true

module _ (t : Target) where
  store-roles : (rs : List Role) → has_shape (is_use_role ∷ is_slot ∷ is_lanes ∷ []) rs ≡ true → ties_fit rs ≡ true → nat_eq (length (filter is_implicit rs)) 0 ≡ true → (k : ClassId) × (rs ≡ roles.Read k ∷ roles.Slot ∷ roles.Lanes ∷ [])
  store-roles [] h g e = absurd (cc)
  store-roles (roles.Read k ∷ rs) h g e = (k, ap (λ qs. roles.Read k ∷ qs) (two-left rs h e))
  store-roles (roles.Tied k n ∷ rs) h g e = absurd (let z : false ≡ true = second_of_both (nat_eq n 0) false (first_of_both (nat_eq n 0 && false) (list_all (tie_fits (roles.Tied k n ∷ rs)) rs) (second_of_both (nat_le (count_by is_tied (roles.Tied k n ∷ rs)) 1) (list_all (tie_fits (roles.Tied k n ∷ rs)) (roles.Tied k n ∷ rs)) g)) in cc)
  store-roles (r ∷ rs) h g e = absurd (cc)

  load-roles : (rs : List Role) → has_shape (is_definition_role ∷ is_slot ∷ is_lanes ∷ []) rs ≡ true → nat_eq (length (filter is_implicit rs)) 0 ≡ true → (k : ClassId) × (r : Role) × Kind r true false effects.Reload k × (rs ≡ r ∷ roles.Slot ∷ roles.Lanes ∷ [])
  load-roles [] h e = absurd (cc)
  load-roles (roles.Def k ∷ rs) h e = (k, roles.Def k, loading k, ap (λ qs. roles.Def k ∷ qs) (two-left rs h e))
  load-roles (roles.Early k ∷ rs) h e = (k, roles.Early k, loading_early k, ap (λ qs. roles.Early k ∷ qs) (two-left rs h e))
  load-roles (r ∷ rs) h e = absurd (cc)

  first-regs : {r : Role} {def undef : Bool} {e : Effect} {k : ClassId} → Kind r def undef e k → (d : OpcodeDesc) → d.roles ≡ r ∷ roles.Slot ∷ roles.Lanes ∷ [] → operand_regs t.classes d ≡ regs_of t k
  first-regs (storing k u) d e = ap (λ rs. regs_of_some t.classes (first_class rs)) e
  first-regs (loading k) d e = ap (λ rs. regs_of_some t.classes (first_class rs)) e
  first-regs (loading_early k) d e = ap (λ rs. regs_of_some t.classes (first_class rs)) e

  pub store-opcode : (k : ClassId) (n : ℕ) → Moves t effects.Spill k n → (undef : Bool) → Opcode t false undef effects.Spill n k
  store-opcode k n m undef =
      let fits : roles_fit t.units t.regs t.classes effects.Spill m.desc.roles ≡ true = subst (λ x. roles_fit t.units t.regs t.classes x m.desc.roles ≡ true) m.effect (known-desc t (ops.Known (op_number n)) m.desc m.there (ap has_roles m.effect)) in
      let shape = known-shape t effects.Spill m.desc.roles (is_use_role ∷ is_slot ∷ is_lanes ∷ []) refl fits in
      let ties = second_of_both _ _ (first_of_both _ _ (first_of_both _ _ (first_of_both _ _ (first_of_both _ _ fits)))) in
      let left = second_of_both _ _ (first_of_both _ _ fits) in
      let z = store-roles m.desc.roles shape ties left in
      record { desc = m.desc; there = m.there; effect = m.effect; class = z.0; role = roles.Read z.0; kind = storing z.0 undef; roles_are = z.1; holds = subst (λ rs. is_within (regs_of t k) rs ≡ true) (first-regs (storing z.0 undef) m.desc z.1) m.within }

  pub load-opcode : (k : ClassId) (n : ℕ) → Moves t effects.Reload k n → Opcode t true false effects.Reload n k
  load-opcode k n m =
      let fits : roles_fit t.units t.regs t.classes effects.Reload m.desc.roles ≡ true = subst (λ x. roles_fit t.units t.regs t.classes x m.desc.roles ≡ true) m.effect (known-desc t (ops.Known (op_number n)) m.desc m.there (ap has_roles m.effect)) in
      let shape = known-shape t effects.Reload m.desc.roles (is_definition_role ∷ is_slot ∷ is_lanes ∷ []) refl fits in
      let left = second_of_both _ _ (first_of_both _ _ fits) in
      let z = load-roles m.desc.roles shape left in
      record { desc = m.desc; there = m.there; effect = m.effect; class = z.0; role = z.1; kind = z.2; roles_are = z.3; holds = subst (λ rs. is_within (regs_of t k) rs ≡ true) (first-regs z.2 m.desc z.3) m.within }

or-true : (b : Bool) → (b || true) ≡ true
or-true true = refl
or-true false = refl

-- lanes of a slot are no register
lanes-explicit : (x : Operand) → fits_role roles.Lanes x ≡ true → (is_implicit_operand x ≡ false) × (as_register x ≡ None)
lanes-explicit (operands.Imm z) h = (refl, refl)
lanes-explicit (operands.Index y) h = (refl, refl)
lanes-explicit x h = absurd (cc)

module _ (t : Target) (def undef : Bool) (e : Effect) (n : ℕ) (within : ClassId) (p : Opcode t def undef e n within) (l : Loc) (x : Option IndexId) (m : ℕ) (lanes : Operand) (fits : fits_role roles.Lanes lanes ≡ true) where
  abbrev o : RegOp
  o = record { loc = l; index = x; def = def; implicit = false; undef = undef; early = false; renamable = false; tie = None }

  abbrev os : List Operand
  os = operands.Reg o ∷ operands.Stack m ∷ lanes ∷ []

  abbrev pub moving : Instr
  moving = made 0 (op_number n) os

  abbrev bs : List Bound
  bs = (Some p.role, operands.Reg o) ∷ (Some roles.Slot, operands.Stack m) ∷ (Some roles.Lanes, lanes) ∷ []

  explicit : explicit_operands os ≡ os
  explicit = λ k. operands.Reg o ∷ operands.Stack m ∷ cond (not ((lanes-explicit lanes fits).0 k)) (lanes ∷ []) []

  regs-are : registers os ≡ o ∷ []
  regs-are = λ k. o ∷ cons_option ((lanes-explicit lanes fits).1 k) []

  pub known : effect_of t moving ≡ Some e
  known = ap (option_map (λ (d : OpcodeDesc). d.effect)) p.there ∙ ap Some p.effect

  roles-is : roles_of t moving ≡ p.role ∷ roles.Slot ∷ roles.Lanes ∷ []
  roles-is = ap (λ q. elim q as (λ q. List Role) [ None ↦ [] | Some d ↦ d.roles ]) p.there ∙ p.roles_are

  pub bound-is : bound t moving ≡ bs
  bound-is = (λ k. explicit_bound (explicit_roles (roles-is k)) (explicit k) ++ map (implicit_bound (implicit_roles (roles-is k))) (filter (λ (q : RegOp). q.implicit) (regs-are k))) ∙ go p.kind
    where
      go : {r : Role} {a b : Bool} {f : Effect} {c : ClassId} → Kind r a b f c → explicit_bound (explicit_roles (r ∷ roles.Slot ∷ roles.Lanes ∷ [])) os ++ [] ≡ (Some r, operands.Reg o) ∷ (Some roles.Slot, operands.Stack m) ∷ (Some roles.Lanes, lanes) ∷ []
      go (storing c u) = refl
      go (loading c) = refl
      go (loading_early c) = refl

  -- it is in lowered form

  untied : tied_pairs t moving ≡ []
  untied = ap (filter_map (tied_pair os)) bound-is ∙ (go p.kind)
    where
      none : (x : Operand) → fits_role roles.Lanes x ≡ true → tied_pair os (Some roles.Lanes, x) ≡ None
      none (operands.Imm z) h = refl
      none (operands.Index y) h = refl
      none x h = absurd (cc)

      go : {r : Role} {a b : Bool} {f : Effect} {c : ClassId} → Kind r a b f c → filter_map (tied_pair os) ((Some r, operands.Reg o) ∷ (Some roles.Slot, operands.Stack m) ∷ (Some roles.Lanes, lanes) ∷ []) ≡ []
      go (storing c u) = ap (λ q. cons_option q []) (none lanes fits)
      go (loading c) = ap (λ q. cons_option q []) (none lanes fits)
      go (loading_early c) = ap (λ q. cons_option q []) (none lanes fits)

  pub moving-lowered : does (λ f. not (is_lowered_away f)) t moving ≡ true
  moving-lowered = ap (passes (λ f. not (is_lowered_away f))) known ∙ go p.kind
    where
      go : {r : Role} {a b : Bool} {f : Effect} {c : ClassId} → Kind r a b f c → not (is_lowered_away f) ≡ true
      go (storing c u) = refl
      go (loading c) = refl
      go (loading_early c) = refl

  pub moving-formed : is_lowered t moving ≡ true
  moving-formed =
      (λ k. not (passes is_lowered_away (known k)) && not (list_any is_undef_definition (regs-are k)) && not (passes is_copy (known k) && list_any is_undef_use (regs-are k)) && list_all shares_register (untied k))
      ∙ go p.kind
    where
      go : {r : Role} {a b : Bool} {f : Effect} {c : ClassId} → Kind r a b f c → (not (is_lowered_away f) && not ((a && b) || false) && not (is_copy f && ((not a && b) || false)) && true) ≡ true
      go (storing c u) = refl
      go (loading c) = refl
      go (loading_early c) = refl

  -- it keeps the rules, where the register lies in the class of the role, and there are as many lanes

  module _ (g : Function) (class : has_class g l ≡ true) (index : index_fits t g l x ≡ true) (lies : register_lies_in t g p.class l x ≡ true) (long : lanes_fit t g os ≡ true) where
    last : implicit_last os ≡ true
    last = λ k. cond ((lanes-explicit lanes fits).0 k) true true

    implicit : implicit_fit p.desc (implicit_registers os) ≡ true
    implicit =
        (λ k. list_all (λ (q : RegOp). not (is_virtual q.loc) && not (is_silent p.desc.effect)) (filter (λ (q : RegOp). q.implicit) (regs-are k))
        && list_all (λ r. count_by (λ q. takes_role q r) (filter (λ (q : RegOp). q.implicit) (regs-are k)) == count_by (same_role r) p.desc.roles) (implicit_roles (p.roles_are k)))
        ∙ go p.kind
      where
        go : {r : Role} {a b : Bool} {f : Effect} {c : ClassId} → Kind r a b f c → list_all (λ r. count_by (λ q. takes_role q r) [] == count_by (same_role r) p.desc.roles) (implicit_roles (r ∷ roles.Slot ∷ roles.Lanes ∷ [])) ≡ true
        go (storing c u) = refl
        go (loading c) = refl
        go (loading_early c) = refl

    takes : explicit_fit t e (explicit_roles p.desc.roles) (explicit_operands os) ≡ true
    takes = (λ k. explicit_fit t e (explicit_roles (p.roles_are k)) (explicit k)) ∙ go p.kind
      where
        go : {r : Role} {a b : Bool} {f : Effect} {c : ClassId} → Kind r a b f c → explicit_fit t f (explicit_roles (r ∷ roles.Slot ∷ roles.Lanes ∷ [])) (operands.Reg (record o { def = a; undef = b }) ∷ operands.Stack m ∷ lanes ∷ []) ≡ true
        go (storing c u) = λ k. (fits k || (false && fits_opaque t roles.Lanes lanes)) && true
        go (loading c) = λ k. (fits k || (false && fits_opaque t roles.Lanes lanes)) && true
        go (loading_early c) = λ k. (fits k || (false && fits_opaque t roles.Lanes lanes)) && true

    one : V1 t g moving ≡ true
    unfolding V1
    one =
        ap (λ q. elim q as (λ q. Bool) [ None ↦ true | Some z ↦ operands_fit t g z os z.effect ]) p.there
        ∙ (ap (operands_fit t g p.desc os) p.effect ∙ go p.kind takes)
      where
        go : {r : Role} {a b : Bool} {f : Effect} {c : ClassId} → Kind r a b f c → explicit_fit t f (explicit_roles p.desc.roles) (explicit_operands os) ≡ true → operands_fit t g p.desc os f ≡ true
        go (storing c u) h = λ k. last k && h k && implicit k && long k
        go (loading c) h = λ k. last k && h k && implicit k && long k
        go (loading_early c) h = λ k. last k && h k && implicit k && long k

    lane-class : (f : Effect) (y : Operand) → fits_role roles.Lanes y ≡ true → in_operand_class t g f (Some roles.Lanes, y) ≡ true
    lane-class f (operands.Imm z) h = refl
    lane-class f (operands.Index y) h = refl
    lane-class f y h = absurd (cc)

    two : V2 t g moving ≡ true
    unfolding V2
    two =
        ap (λ q. elim q as (λ q. Bool) [ None ↦ true | Some z ↦ list_all (in_operand_class t g z.effect) (bound t moving) && widths_fit t g z.effect os ]) p.there
        ∙ ((λ k. list_all (in_operand_class t g (p.effect k)) (bound-is k) && widths_fit t g (p.effect k) os) ∙ go p.kind lies)
      where
        go : {r : Role} {a b : Bool} {f : Effect} {c : ClassId} → Kind r a b f c → register_lies_in t g c l x ≡ true → (list_all (in_operand_class t g f) ((Some r, operands.Reg o) ∷ (Some roles.Slot, operands.Stack m) ∷ (Some roles.Lanes, lanes) ∷ []) && widths_fit t g f os) ≡ true
        go (storing c u) h = (λ k. ((not (has_lanes t g o) || is_taken_reserved t effects.Spill (Some (roles.Read c)) l || (h k && true)) && (lane-class effects.Spill lanes fits k && true)) && true) ∙ ap (λ y. (y && true) && true) (or-true (not (has_lanes t g o) || is_taken_reserved t effects.Spill (Some (roles.Read c)) l))
        go (loading c) h = (λ k. ((not (has_lanes t g o) || is_taken_reserved t effects.Reload (Some (roles.Def c)) l || (h k && true)) && (lane-class effects.Reload lanes fits k && true)) && true) ∙ ap (λ y. (y && true) && true) (or-true (not (has_lanes t g o) || is_taken_reserved t effects.Reload (Some (roles.Def c)) l))
        go (loading_early c) h = (λ k. ((not (has_lanes t g o) || is_taken_reserved t effects.Reload (Some (roles.Early c)) l || (h k && true)) && (lane-class effects.Reload lanes fits k && true)) && true) ∙ ap (λ y. (y && true) && true) (or-true (not (has_lanes t g o) || is_taken_reserved t effects.Reload (Some (roles.Early c)) l))

    three : V3 g moving ≡ true
    unfolding V3
    three = ap (list_all (λ (q : RegOp). has_class g q.loc)) regs-are ∙ (λ k. class k && true)

    four : V4 t g moving ≡ true
    unfolding V4
    four =
        (λ k. list_all (λ (q : RegOp). index_fits t g q.loc q.index) (regs-are k) && (not (passes puts_together (known k)) || subregs_fit t g os))
        ∙ ((λ k. (index k && true) && (not (puts_together e) || subregs_fit t g os)) ∙ go p.kind)
      where
        go : {r : Role} {a b : Bool} {f : Effect} {c : ClassId} → Kind r a b f c → (not (puts_together f) || subregs_fit t g os) ≡ true
        go (storing c u) = refl
        go (loading c) = refl
        go (loading_early c) = refl

    lane-early : (cs : List Bound) (n : ℕ) (y : Operand) → fits_role roles.Lanes y ≡ true → early_fits t g cs (n, (Some roles.Lanes, y)) ≡ true
    lane-early cs n (operands.Imm z) h = refl
    lane-early cs n (operands.Index y) h = refl
    lane-early cs n y h = absurd (cc)

    abbrev register : Bool → Bool → RegOp
    register a b = record o { def = a; undef = b }

    abbrev bound-as : Role → Bool → Bool → List Bound
    bound-as r a b = (Some r, operands.Reg (register a b)) ∷ (Some roles.Slot, operands.Stack m) ∷ (Some roles.Lanes, lanes) ∷ []

    abbrev defined : List RegOp → List RegOp
    defined qs = filter (λ (q : RegOp). q.def) qs

    abbrev Apart : Role → Bool → Bool → Effect → Type 0
    Apart r a b f =
        (list_all (undef_fits forms.Source (register a b ∷ [])) (defined (register a b ∷ []))
        && no_two_share (map (defined_lanes t g (is_opaque f)) (defined (register a b ∷ [])))
        && list_all (early_fits t g (bound-as r a b)) (numbered 0 (bound-as r a b))
        && undef_uses_fit (is_opaque f) (bound-as r a b)) ≡ true

    apart : {r : Role} {a b : Bool} {f : Effect} {c : ClassId} → Kind r a b f c → Apart r a b f
    apart (storing c u) = λ k. (lane-early (bound-as (roles.Read c) false u) 2 lanes fits k && true) && true
    apart (loading c) = λ k. (lane-early (bound-as (roles.Def c) true false) 2 lanes fits k && true) && true
    apart (loading_early c) =
        λ k. (not (list_any (λ (u : RegOp). share_a_lane (clashing_lanes t g (register true false)) (clashing_lanes t g u)) (readings (register true false ∷ cons_option ((lanes-explicit lanes fits).1 k) [])))
        && (lane-early (bound-as (roles.Early c) true false) 2 lanes fits k && true)) && true

    twelve : V12 t forms.Source g moving ≡ true
    unfolding V12
    twelve =
        (λ k. list_all (undef_fits forms.Source (regs-are k)) (defined (regs-are k))
        && no_two_share (map (defined_lanes t g (passes is_opaque (known k))) (defined (regs-are k)))
        && list_all (early_fits t g (bound-is k)) (numbered 0 (bound-is k))
        && undef_uses_fit (passes is_opaque (known k)) (bound-is k))
        ∙ apart p.kind

    pub moving-shaped : IsShaped t g moving
    moving-shaped = record { operands = one; widths = two; classes = three; indexes = four; definitions = twelve }
