-- A constant or an address that is repeated for a register that lies in its class keeps the rules, and is in lowered form.
use Rattle.std.proofs.Common.{◌≡◌, ◌∙◌, ◌++◌, ◌&&◌, ◌||◌, not, ℕ, Bool, true, false, cond, List, [], ◌∷◌, Option, Some, None, drop, filter, length, map, refl, sym, ap, subst}
use Rattle.std.specs.Prelude.{◌==◌, count_by, filter_map, nat_eq, option_map}
use Rattle.std.specs.List.{cons_option, list_all, list_any}
use Rattle.target_base.specs.declared.types.ClassId.{ClassId}
use Rattle.target_base.specs.declared.types.Effect.{Effect}
use Rattle.target_base.specs.declared.types.Effect.TheVariants as effects
use Rattle.target_base.specs.declared.types.IndexId.{IndexId}
use Rattle.target_base.specs.declared.types.OpcodeDesc.{OpcodeDesc}
use Rattle.target_base.specs.declared.types.Role.{Role}
use Rattle.target_base.specs.declared.types.Role.TheVariants as roles
use Rattle.target_base.specs.declared.types.Target.{Target}
use Rattle.target_base.specs.Roles.{has_shape, is_definition as is_definition_role, is_frame_or_symbol, is_immediate, is_implicit, is_silent}
use Rattle.target_base.specs.Rules.{is_copy}
use Rattle.target_base.proofs.Tests.{first_of_both, second_of_both}
use Rattle.mir_func.specs.declared.func.Loc.{Loc}
use Rattle.mir_func.specs.declared.func.RegOp.{RegOp}
use Rattle.mir_func.specs.declared.func.Operand.{Operand}
use Rattle.mir_func.specs.declared.func.Operand.TheVariants as operands
use Rattle.mir_func.specs.declared.func.Instr.{Instr}
use Rattle.mir_func.specs.Value.{Function}
use Rattle.mir_func.specs.Binding.{Bound, as_register, bound, does, effect_of, explicit_bound, explicit_operands, explicit_roles, implicit_bound, implicit_registers, implicit_roles, is_implicit_operand, is_lowered_away, is_virtual, known_opcode, numbered, passes, puts_together, registers, roles_of, takes_role, tied_pair, tied_pairs}
use Rattle.mir_meaning.specs.declared.Form.TheVariants as forms
use Rattle.mir_meaning.specs.Rules.{V1, V2, V3, V4, V12, clashing_lanes, defined_lanes, early_fits, explicit_fit, fits_at, fits_opaque, fits_role, has_class, has_lanes, implicit_fit, implicit_last, in_operand_class, index_fits, is_opaque, is_taken_reserved, no_two_share, operands_fit, readings, register_lies_in, same_role, share_a_lane, subregs_fit, undef_fits, undef_uses_fit, widths_fit}
use Rattle.live_laws.specs.Effects.Shaped.{IsShaped}
use Rattle.live_laws.proofs.Effects.Moving.{some-same}
use Rattle.live_laws.proofs.Touch.Roles.{TakeAll, addr-takes, all-explicit, const-takes, fit, has_roles, known-shape, met, no-implicit, roles-sound}
use Rattle.lowering_laws.specs.Form.{is_lowered, is_undef_definition, is_undef_use, shares_register}
use Rattle.spiller.specs.Setting.{plain_definition}
use Rattle.spiller.specs.Rematerialised.{definition_class, is_constant, repeatable_class, repeated, whole_class}
use Rattle.spill_laws.specs.Laws.{IsInForm, LiesIn, RepeatsKeepRules}
use Rattle.spill_laws.proofs.Moves.{behind-plain, none-left}

-- the two roles of a constant or an address, its effect, and the class of its definition
data Kind : Role → Role → Effect → ClassId → Type 0 where
  number : (k : ClassId) → Kind (roles.Def k) roles.Imm effects.Const k
  number_early : (k : ClassId) → Kind (roles.Early k) roles.Imm effects.Const k
  object : (k : ClassId) → Kind (roles.Def k) roles.Frame effects.Addr k
  object_early : (k : ClassId) → Kind (roles.Early k) roles.Frame effects.Addr k
  symbol : (k : ClassId) → Kind (roles.Def k) roles.Sym effects.Addr k
  symbol_early : (k : ClassId) → Kind (roles.Early k) roles.Sym effects.Addr k

immediate-is : (r : Role) → is_immediate r ≡ true → r ≡ roles.Imm
immediate-is roles.Imm h = refl
immediate-is r h = absurd (cc)

left : (test : Role → Bool) → ((q : Role) → test q ≡ true → is_implicit q ≡ false) → (r q : Role) (rs : List Role) → is_implicit r ≡ false → (test q && list_all is_implicit rs) ≡ true → nat_eq (length (filter is_implicit (r ∷ q ∷ rs))) 0 ≡ true → rs ≡ []
left test plain r q rs n h e = none-left rs (second_of_both (test q) (list_all is_implicit rs) h) (behind-plain q rs (plain q (first_of_both (test q) (list_all is_implicit rs) h)) (behind-plain r (q ∷ rs) n e))

immediate-plain : (q : Role) → is_immediate q ≡ true → is_implicit q ≡ false
immediate-plain roles.Imm h = refl
immediate-plain q h = absurd (cc)

object-plain : (q : Role) → is_frame_or_symbol q ≡ true → is_implicit q ≡ false
object-plain roles.Frame h = refl
object-plain roles.Sym h = refl
object-plain q h = absurd (cc)

-- the roles by their kind
record Roles (rs : List Role) (e : Effect) : Type 0 where
  pub class : ClassId
  pub role : Role
  pub other : Role
  pub kind : Kind role other e class
  pub are : rs ≡ role ∷ other ∷ []

const-roles : (rs : List Role) → has_shape (is_definition_role ∷ is_immediate ∷ []) rs ≡ true → nat_eq (length (filter is_implicit rs)) 0 ≡ true → Roles rs effects.Const
const-roles [] h e = absurd (cc)
const-roles (roles.Def k ∷ []) h e = absurd (cc)
const-roles (roles.Early k ∷ []) h e = absurd (cc)
const-roles (roles.Def k ∷ q ∷ rs) h e = record { class = k; role = roles.Def k; other = roles.Imm; kind = number k; are = λ i. roles.Def k ∷ immediate-is q (first_of_both (is_immediate q) (list_all is_implicit rs) h) i ∷ left is_immediate immediate-plain (roles.Def k) q rs refl h e i }
const-roles (roles.Early k ∷ q ∷ rs) h e = record { class = k; role = roles.Early k; other = roles.Imm; kind = number_early k; are = λ i. roles.Early k ∷ immediate-is q (first_of_both (is_immediate q) (list_all is_implicit rs) h) i ∷ left is_immediate immediate-plain (roles.Early k) q rs refl h e i }
const-roles (r ∷ rs) h e = absurd (cc)

addr-roles : (rs : List Role) → has_shape (is_definition_role ∷ is_frame_or_symbol ∷ []) rs ≡ true → nat_eq (length (filter is_implicit rs)) 0 ≡ true → Roles rs effects.Addr
addr-roles [] h e = absurd (cc)
addr-roles (roles.Def k ∷ []) h e = absurd (cc)
addr-roles (roles.Early k ∷ []) h e = absurd (cc)
addr-roles (roles.Def k ∷ roles.Frame ∷ rs) h e = record { class = k; role = roles.Def k; other = roles.Frame; kind = object k; are = λ i. roles.Def k ∷ roles.Frame ∷ left is_frame_or_symbol object-plain (roles.Def k) roles.Frame rs refl h e i }
addr-roles (roles.Def k ∷ roles.Sym ∷ rs) h e = record { class = k; role = roles.Def k; other = roles.Sym; kind = symbol k; are = λ i. roles.Def k ∷ roles.Sym ∷ left is_frame_or_symbol object-plain (roles.Def k) roles.Sym rs refl h e i }
addr-roles (roles.Early k ∷ roles.Frame ∷ rs) h e = record { class = k; role = roles.Early k; other = roles.Frame; kind = object_early k; are = λ i. roles.Early k ∷ roles.Frame ∷ left is_frame_or_symbol object-plain (roles.Early k) roles.Frame rs refl h e i }
addr-roles (roles.Early k ∷ roles.Sym ∷ rs) h e = record { class = k; role = roles.Early k; other = roles.Sym; kind = symbol_early k; are = λ i. roles.Early k ∷ roles.Sym ∷ left is_frame_or_symbol object-plain (roles.Early k) roles.Sym rs refl h e i }
addr-roles (roles.Def k ∷ q ∷ rs) h e = absurd (cc)
addr-roles (roles.Early k ∷ q ∷ rs) h e = absurd (cc)
addr-roles (r ∷ rs) h e = absurd (cc)

or-true : (b : Bool) → (b || true) ≡ true
or-true true = refl
or-true false = refl

-- what is loaded is no register
record NoRegister (y : Operand) : Type 0 where
  pub explicit : is_implicit_operand y ≡ false
  pub register : as_register y ≡ None
  pub class : (t : Target) (g : Function) (e : Effect) (q : Role) → in_operand_class t g e (Some q, y) ≡ true
  pub untied : (os : List Operand) (q : Role) → tied_pair os (Some q, y) ≡ None
  pub early : (t : Target) (g : Function) (cs : List Bound) (n : ℕ) (q : Role) → early_fits t g cs (n, (Some q, y)) ≡ true

no-register : {r q : Role} {e : Effect} {k : ClassId} → Kind r q e k → (y : Operand) → fits_role q y ≡ true → NoRegister y
no-register (number k) (operands.Imm z) h = record { explicit = refl; register = refl; class = λ t g e q. refl; untied = λ os q. refl; early = λ t g cs n q. refl }
no-register (number k) y h = absurd (cc)
no-register (number_early k) (operands.Imm z) h = record { explicit = refl; register = refl; class = λ t g e q. refl; untied = λ os q. refl; early = λ t g cs n q. refl }
no-register (number_early k) y h = absurd (cc)
no-register (object k) (operands.Stack z) h = record { explicit = refl; register = refl; class = λ t g e q. refl; untied = λ os q. refl; early = λ t g cs n q. refl }
no-register (object k) (operands.FixedStack z) h = record { explicit = refl; register = refl; class = λ t g e q. refl; untied = λ os q. refl; early = λ t g cs n q. refl }
no-register (object k) y h = absurd (cc)
no-register (object_early k) (operands.Stack z) h = record { explicit = refl; register = refl; class = λ t g e q. refl; untied = λ os q. refl; early = λ t g cs n q. refl }
no-register (object_early k) (operands.FixedStack z) h = record { explicit = refl; register = refl; class = λ t g e q. refl; untied = λ os q. refl; early = λ t g cs n q. refl }
no-register (object_early k) y h = absurd (cc)
no-register (symbol k) (operands.Symbol z) h = record { explicit = refl; register = refl; class = λ t g e q. refl; untied = λ os q. refl; early = λ t g cs n q. refl }
no-register (symbol k) y h = absurd (cc)
no-register (symbol_early k) (operands.Symbol z) h = record { explicit = refl; register = refl; class = λ t g e q. refl; untied = λ os q. refl; early = λ t g cs n q. refl }
no-register (symbol_early k) y h = absurd (cc)

module _ (t : Target) (d : Instr) (e : Effect) (desc : OpcodeDesc) (there : known_opcode t d.op ≡ Some desc) (effect : desc.effect ≡ e) (p : Roles desc.roles e) (l : Loc) (x : Option IndexId) (y : Operand) (fits : fits_role p.other y ≡ true) where
  abbrev o : RegOp
  o = plain_definition l x

  abbrev os : List Operand
  os = operands.Reg o ∷ y ∷ []

  abbrev again : Instr
  again = record { id = 0; op = d.op; flags = []; operands = os; tail = [] }

  abbrev bs : List Bound
  bs = (Some p.role, operands.Reg o) ∷ (Some p.other, y) ∷ []

  none : NoRegister y
  none = no-register p.kind y fits

  explicit : explicit_operands os ≡ os
  explicit = λ k. operands.Reg o ∷ cond (not (none.explicit k)) (y ∷ []) []

  regs-are : registers os ≡ o ∷ []
  regs-are = λ k. o ∷ cons_option (none.register k) []

  known : effect_of t again ≡ Some e
  known = ap (option_map (λ (z : OpcodeDesc). z.effect)) there ∙ ap Some effect

  roles-is : roles_of t again ≡ p.role ∷ p.other ∷ []
  roles-is = ap (λ q. elim q as (λ q. List Role) [ None ↦ [] | Some z ↦ z.roles ]) there ∙ p.are

  bound-is : bound t again ≡ bs
  bound-is = (λ k. explicit_bound (explicit_roles (roles-is k)) (explicit k) ++ map (implicit_bound (implicit_roles (roles-is k))) (filter (λ (q : RegOp). q.implicit) (regs-are k))) ∙ go p.kind
    where
      go : {r q : Role} {f : Effect} {c : ClassId} → Kind r q f c → explicit_bound (explicit_roles (r ∷ q ∷ [])) os ++ [] ≡ (Some r, operands.Reg o) ∷ (Some q, y) ∷ []
      go (number c) = refl
      go (number_early c) = refl
      go (object c) = refl
      go (object_early c) = refl
      go (symbol c) = refl
      go (symbol_early c) = refl

  untied : tied_pairs t again ≡ []
  untied = ap (filter_map (tied_pair os)) bound-is ∙ go p.kind
    where
      go : {r q : Role} {f : Effect} {c : ClassId} → Kind r q f c → filter_map (tied_pair os) ((Some r, operands.Reg o) ∷ (Some q, y) ∷ []) ≡ []
      go (number c) = ap (λ z. cons_option z []) (none.untied os roles.Imm)
      go (number_early c) = ap (λ z. cons_option z []) (none.untied os roles.Imm)
      go (object c) = ap (λ z. cons_option z []) (none.untied os roles.Frame)
      go (object_early c) = ap (λ z. cons_option z []) (none.untied os roles.Frame)
      go (symbol c) = ap (λ z. cons_option z []) (none.untied os roles.Sym)
      go (symbol_early c) = ap (λ z. cons_option z []) (none.untied os roles.Sym)

  again-lowered : does (λ f. not (is_lowered_away f)) t again ≡ true
  again-lowered = ap (passes (λ f. not (is_lowered_away f))) known ∙ go p.kind
    where
      go : {r q : Role} {f : Effect} {c : ClassId} → Kind r q f c → not (is_lowered_away f) ≡ true
      go (number c) = refl
      go (number_early c) = refl
      go (object c) = refl
      go (object_early c) = refl
      go (symbol c) = refl
      go (symbol_early c) = refl

  again-formed : is_lowered t again ≡ true
  again-formed =
      (λ k. not (passes is_lowered_away (known k)) && not (list_any is_undef_definition (regs-are k)) && not (passes is_copy (known k) && list_any is_undef_use (regs-are k)) && list_all shares_register (untied k))
      ∙ go p.kind
    where
      go : {r q : Role} {f : Effect} {c : ClassId} → Kind r q f c → (not (is_lowered_away f) && true && not (is_copy f && false) && true) ≡ true
      go (number c) = refl
      go (number_early c) = refl
      go (object c) = refl
      go (object_early c) = refl
      go (symbol c) = refl
      go (symbol_early c) = refl

  module _ (g : Function) (class : has_class g l ≡ true) (index : index_fits t g l x ≡ true) (lies : register_lies_in t g p.class l x ≡ true) where
    last : implicit_last os ≡ true
    last = λ k. cond (none.explicit k) true true

    implicit : implicit_fit desc (implicit_registers os) ≡ true
    implicit =
        (λ k. list_all (λ (q : RegOp). not (is_virtual q.loc) && not (is_silent desc.effect)) (filter (λ (q : RegOp). q.implicit) (regs-are k))
        && list_all (λ r. count_by (λ q. takes_role q r) (filter (λ (q : RegOp). q.implicit) (regs-are k)) == count_by (same_role r) desc.roles) (implicit_roles (p.are k)))
        ∙ go p.kind
      where
        go : {r q : Role} {f : Effect} {c : ClassId} → Kind r q f c → list_all (λ r. count_by (λ q. takes_role q r) [] == count_by (same_role r) desc.roles) (implicit_roles (r ∷ q ∷ [])) ≡ true
        go (number c) = refl
        go (number_early c) = refl
        go (object c) = refl
        go (object_early c) = refl
        go (symbol c) = refl
        go (symbol_early c) = refl

    takes : explicit_fit t e (explicit_roles desc.roles) (explicit_operands os) ≡ true
    takes = (λ k. explicit_fit t e (explicit_roles (p.are k)) (explicit k)) ∙ go p.kind fits
      where
        go : {r q : Role} {f : Effect} {c : ClassId} → Kind r q f c → fits_role q y ≡ true → explicit_fit t f (explicit_roles (r ∷ q ∷ [])) os ≡ true
        go (number c) h = λ k. (h k || (false && fits_opaque t roles.Imm y)) && true
        go (number_early c) h = λ k. (h k || (false && fits_opaque t roles.Imm y)) && true
        go (object c) h = λ k. (h k || (false && fits_opaque t roles.Frame y)) && true
        go (object_early c) h = λ k. (h k || (false && fits_opaque t roles.Frame y)) && true
        go (symbol c) h = λ k. (h k || (false && fits_opaque t roles.Sym y)) && true
        go (symbol_early c) h = λ k. (h k || (false && fits_opaque t roles.Sym y)) && true

    one : V1 t g again ≡ true
    unfolding V1
    one =
        ap (λ q. elim q as (λ q. Bool) [ None ↦ true | Some z ↦ operands_fit t g z os z.effect ]) there
        ∙ (ap (operands_fit t g desc os) effect ∙ go p.kind takes)
      where
        go : {r q : Role} {f : Effect} {c : ClassId} → Kind r q f c → explicit_fit t f (explicit_roles desc.roles) (explicit_operands os) ≡ true → operands_fit t g desc os f ≡ true
        go (number c) h = λ k. last k && h k && implicit k && true
        go (number_early c) h = λ k. last k && h k && implicit k && true
        go (object c) h = λ k. last k && h k && implicit k && true
        go (object_early c) h = λ k. last k && h k && implicit k && true
        go (symbol c) h = λ k. last k && h k && implicit k && true
        go (symbol_early c) h = λ k. last k && h k && implicit k && true

    two : V2 t g again ≡ true
    unfolding V2
    two =
        ap (λ q. elim q as (λ q. Bool) [ None ↦ true | Some z ↦ list_all (in_operand_class t g z.effect) (bound t again) && widths_fit t g z.effect os ]) there
        ∙ ((λ k. list_all (in_operand_class t g (effect k)) (bound-is k) && widths_fit t g (effect k) os) ∙ go p.kind lies)
      where
        go : {r q : Role} {f : Effect} {c : ClassId} → Kind r q f c → register_lies_in t g c l x ≡ true → (list_all (in_operand_class t g f) ((Some r, operands.Reg o) ∷ (Some q, y) ∷ []) && widths_fit t g f os) ≡ true
        go (number c) h = (λ k. ((not (has_lanes t g o) || is_taken_reserved t effects.Const (Some (roles.Def c)) l || (h k && true)) && (none.class t g effects.Const roles.Imm k && true)) && true) ∙ ap (λ z. (z && true) && true) (or-true (not (has_lanes t g o) || is_taken_reserved t effects.Const (Some (roles.Def c)) l))
        go (number_early c) h = (λ k. ((not (has_lanes t g o) || is_taken_reserved t effects.Const (Some (roles.Early c)) l || (h k && true)) && (none.class t g effects.Const roles.Imm k && true)) && true) ∙ ap (λ z. (z && true) && true) (or-true (not (has_lanes t g o) || is_taken_reserved t effects.Const (Some (roles.Early c)) l))
        go (object c) h = (λ k. ((not (has_lanes t g o) || is_taken_reserved t effects.Addr (Some (roles.Def c)) l || (h k && true)) && (none.class t g effects.Addr roles.Frame k && true)) && true) ∙ ap (λ z. (z && true) && true) (or-true (not (has_lanes t g o) || is_taken_reserved t effects.Addr (Some (roles.Def c)) l))
        go (object_early c) h = (λ k. ((not (has_lanes t g o) || is_taken_reserved t effects.Addr (Some (roles.Early c)) l || (h k && true)) && (none.class t g effects.Addr roles.Frame k && true)) && true) ∙ ap (λ z. (z && true) && true) (or-true (not (has_lanes t g o) || is_taken_reserved t effects.Addr (Some (roles.Early c)) l))
        go (symbol c) h = (λ k. ((not (has_lanes t g o) || is_taken_reserved t effects.Addr (Some (roles.Def c)) l || (h k && true)) && (none.class t g effects.Addr roles.Sym k && true)) && true) ∙ ap (λ z. (z && true) && true) (or-true (not (has_lanes t g o) || is_taken_reserved t effects.Addr (Some (roles.Def c)) l))
        go (symbol_early c) h = (λ k. ((not (has_lanes t g o) || is_taken_reserved t effects.Addr (Some (roles.Early c)) l || (h k && true)) && (none.class t g effects.Addr roles.Sym k && true)) && true) ∙ ap (λ z. (z && true) && true) (or-true (not (has_lanes t g o) || is_taken_reserved t effects.Addr (Some (roles.Early c)) l))

    three : V3 g again ≡ true
    unfolding V3
    three = ap (list_all (λ (q : RegOp). has_class g q.loc)) regs-are ∙ (λ k. class k && true)

    four : V4 t g again ≡ true
    unfolding V4
    four =
        (λ k. list_all (λ (q : RegOp). index_fits t g q.loc q.index) (regs-are k) && (not (passes puts_together (known k)) || subregs_fit t g os))
        ∙ ((λ k. (index k && true) && (not (puts_together e) || subregs_fit t g os)) ∙ go p.kind)
      where
        go : {r q : Role} {f : Effect} {c : ClassId} → Kind r q f c → (not (puts_together f) || subregs_fit t g os) ≡ true
        go (number c) = refl
        go (number_early c) = refl
        go (object c) = refl
        go (object_early c) = refl
        go (symbol c) = refl
        go (symbol_early c) = refl

    abbrev bound-as : Role → Role → List Bound
    bound-as r q = (Some r, operands.Reg o) ∷ (Some q, y) ∷ []

    abbrev defined : List RegOp → List RegOp
    defined qs = filter (λ (q : RegOp). q.def) qs

    apart : {r q : Role} {f : Effect} {c : ClassId} → Kind r q f c →
        (list_all (undef_fits forms.Source (o ∷ [])) (defined (o ∷ []))
        && no_two_share (map (defined_lanes t g (is_opaque f)) (defined (o ∷ [])))
        && list_all (early_fits t g (bound-as r q)) (numbered 0 (bound-as r q))
        && undef_uses_fit (is_opaque f) (bound-as r q)) ≡ true
    apart (number c) = λ k. (none.early t g (bound-as (roles.Def c) roles.Imm) 1 roles.Imm k && true) && true
    apart (number_early c) = λ k. (not (list_any (λ (u : RegOp). share_a_lane (clashing_lanes t g o) (clashing_lanes t g u)) (readings (o ∷ cons_option (none.register k) []))) && (none.early t g (bound-as (roles.Early c) roles.Imm) 1 roles.Imm k && true)) && true
    apart (object c) = λ k. (none.early t g (bound-as (roles.Def c) roles.Frame) 1 roles.Frame k && true) && true
    apart (object_early c) = λ k. (not (list_any (λ (u : RegOp). share_a_lane (clashing_lanes t g o) (clashing_lanes t g u)) (readings (o ∷ cons_option (none.register k) []))) && (none.early t g (bound-as (roles.Early c) roles.Frame) 1 roles.Frame k && true)) && true
    apart (symbol c) = λ k. (none.early t g (bound-as (roles.Def c) roles.Sym) 1 roles.Sym k && true) && true
    apart (symbol_early c) = λ k. (not (list_any (λ (u : RegOp). share_a_lane (clashing_lanes t g o) (clashing_lanes t g u)) (readings (o ∷ cons_option (none.register k) []))) && (none.early t g (bound-as (roles.Early c) roles.Sym) 1 roles.Sym k && true)) && true

    twelve : V12 t forms.Source g again ≡ true
    unfolding V12
    twelve =
        (λ k. list_all (undef_fits forms.Source (regs-are k)) (defined (regs-are k))
        && no_two_share (map (defined_lanes t g (passes is_opaque (known k))) (defined (regs-are k)))
        && list_all (early_fits t g (bound-is k)) (numbered 0 (bound-is k))
        && undef_uses_fit (passes is_opaque (known k)) (bound-is k))
        ∙ apart p.kind

    again-good : IsInForm t g again
    again-good = record { shaped = record { operands = one; widths = two; classes = three; indexes = four; definitions = twelve }; opcode = again-lowered; lowered = again-formed }

module _ (t : Target) (f g : Function) (d : Instr) (shaped : IsShaped t f d) (k : ClassId) (l : Loc) (x : Option IndexId) (w : LiesIn t g k l x) (repeatable : repeatable_class t d ≡ Some k) where
  by-operands : (os : List Operand) → whole_class t d os ≡ Some k → definition_class (roles_of t d) ≡ Some k
  by-operands [] h = absurd (cc)
  by-operands (operands.Reg q ∷ os) h = go q.index h
    where
      go : (z : Option IndexId) → elim z as (λ z. Option ClassId) [ None ↦ definition_class (roles_of t d) | Some v ↦ None ] ≡ Some k → definition_class (roles_of t d) ≡ Some k
      go None h = h
      go (Some v) h = absurd (cc)
  by-operands (q ∷ os) h = absurd (cc)

  defining : definition_class (roles_of t d) ≡ Some k
  defining = go (does is_constant t d) repeatable
    where
      go : (b : Bool) → cond b (whole_class t d d.operands) None ≡ Some k → definition_class (roles_of t d) ≡ Some k
      go true h = by-operands d.operands h
      go false h = absurd (cc)

  class-is : {r q : Role} {e : Effect} {c : ClassId} → Kind r q e c → definition_class (r ∷ q ∷ []) ≡ Some k → c ≡ k
  class-is (number c) h = some-same c k h
  class-is (number_early c) h = some-same c k h
  class-is (object c) h = some-same c k h
  class-is (object_early c) h = some-same c k h
  class-is (symbol c) h = some-same c k h
  class-is (symbol_early c) h = some-same c k h

  two-operands : (test : Role → Bool) (os : List Operand) → TakeAll (is_definition_role ∷ test ∷ []) os → (z : Operand) × (y : Operand) × (os ≡ z ∷ y ∷ [])
  two-operands test [] a = absurd a
  two-operands test (z ∷ []) a = absurd a.1
  two-operands test (z ∷ y ∷ []) a = (z, y, refl)
  two-operands test (z ∷ y ∷ v ∷ vs) a = absurd a.1.1

  plain-or : (a : Bool) → (a || false) ≡ true → a ≡ true
  plain-or true h = refl
  plain-or false h = h

  second-fits : {r q : Role} {e : Effect} {c : ClassId} → Kind r q e c → (z y : Operand) → explicit_fit t e (explicit_roles (r ∷ q ∷ [])) (z ∷ y ∷ []) ≡ true → fits_role q y ≡ true
  second-fits (number c) z y h = plain-or (fits_role roles.Imm y) (first_of_both (fits_at t effects.Const roles.Imm y) true (second_of_both (fits_at t effects.Const (roles.Def c) z) (fits_at t effects.Const roles.Imm y && true) h))
  second-fits (number_early c) z y h = plain-or (fits_role roles.Imm y) (first_of_both (fits_at t effects.Const roles.Imm y) true (second_of_both (fits_at t effects.Const (roles.Early c) z) (fits_at t effects.Const roles.Imm y && true) h))
  second-fits (object c) z y h = plain-or (fits_role roles.Frame y) (first_of_both (fits_at t effects.Addr roles.Frame y) true (second_of_both (fits_at t effects.Addr (roles.Def c) z) (fits_at t effects.Addr roles.Frame y && true) h))
  second-fits (object_early c) z y h = plain-or (fits_role roles.Frame y) (first_of_both (fits_at t effects.Addr roles.Frame y) true (second_of_both (fits_at t effects.Addr (roles.Early c) z) (fits_at t effects.Addr roles.Frame y && true) h))
  second-fits (symbol c) z y h = plain-or (fits_role roles.Sym y) (first_of_both (fits_at t effects.Addr roles.Sym y) true (second_of_both (fits_at t effects.Addr (roles.Def c) z) (fits_at t effects.Addr roles.Sym y && true) h))
  second-fits (symbol_early c) z y h = plain-or (fits_role roles.Sym y) (first_of_both (fits_at t effects.Addr roles.Sym y) true (second_of_both (fits_at t effects.Addr (roles.Early c) z) (fits_at t effects.Addr roles.Sym y && true) h))

  finish : (e : Effect) (known : effect_of t d ≡ Some e) → has_roles e ≡ true → is_silent e ≡ true → Roles (met t f d e known shaped.operands).0.roles e → (z y : Operand) → d.operands ≡ z ∷ y ∷ [] → IsInForm t g (repeated d (plain_definition l x))
  finish e known rolled silent p z y are =
      let m = met t f d e known shaped.operands in
      let h = fit t f d e known shaped.operands rolled in
      let bare = no-implicit m.0 (implicit_registers d.operands) (ap is_silent m.2 ∙ silent) h.implicit in
      let explicit : explicit_operands d.operands ≡ z ∷ y ∷ [] = all-explicit d.operands bare ∙ are in
      let fits = second-fits p.kind z y (sym (λ i. explicit_fit t e (explicit_roles (p.are i)) (explicit i)) ∙ h.explicit) in
      let roles-are : roles_of t d ≡ p.role ∷ p.other ∷ [] = ap (λ q. elim q as (λ q. List Role) [ None ↦ [] | Some v ↦ v.roles ]) m.1 ∙ p.are in
      let same : p.class ≡ k = class-is p.kind (sym (ap definition_class roles-are) ∙ defining) in
      subst (IsInForm t g) (sym (λ i. record { id = 0; op = d.op; flags = []; operands = operands.Reg (plain_definition l x) ∷ drop 1 (are i); tail = [] }))
      (again-good t d e m.0 m.1 m.2 p l x y fits g w.class w.index (subst (λ c. register_lies_in t g c l x ≡ true) (sym same) w.lies))

  pub repeated-good : does is_constant t d ≡ true → IsInForm t g (repeated d (plain_definition l x))
  repeated-good h = go (effect_of t d) refl h
    where
      go : (q : Option Effect) → effect_of t d ≡ q → passes is_constant q ≡ true → IsInForm t g (repeated d (plain_definition l x))
      go None e h = absurd (cc)
      go (Some effects.Const) e h =
          let sound = roles-sound t f d effects.Const e shaped.operands refl in
          let rs = (met t f d effects.Const e shaped.operands).0.roles in
          let two = two-operands is_immediate d.operands (const-takes t f d shaped.operands e) in
          finish effects.Const e refl refl (const-roles rs (known-shape t effects.Const rs (is_definition_role ∷ is_immediate ∷ []) refl sound) (second_of_both _ _ (first_of_both _ _ sound))) two.0 two.1 two.2
      go (Some effects.Addr) e h =
          let sound = roles-sound t f d effects.Addr e shaped.operands refl in
          let rs = (met t f d effects.Addr e shaped.operands).0.roles in
          let two = two-operands is_frame_or_symbol d.operands (addr-takes t f d shaped.operands e) in
          finish effects.Addr e refl refl (addr-roles rs (known-shape t effects.Addr rs (is_definition_role ∷ is_frame_or_symbol ∷ []) refl sound) (second_of_both _ _ (first_of_both _ _ sound))) two.0 two.1 two.2
      go (Some e) g h = absurd (cc)

pub repeats_keep_rules : RepeatsKeepRules
repeats_keep_rules t f g d k l x shaped constant repeatable w = repeated-good t f g d shaped k l x w repeatable constant
