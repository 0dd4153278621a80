-- What is read, lane by lane.
use Rattle.std.proofs.Common.{◌≡◌, ℕ, Bool, true, false, cond, not, ◌&&◌, List, [], ◌∷◌, ◌++◌, Option, Some, None, map, flat_map, filter, filter_map, find, refl, sym, ap, ap₂, ◌∙◌, append_assoc, nat_abs, ℤ}
use Rattle.std.specs.List.{cons_option}
use Rattle.target_base.specs.declared.types.Effect.{Effect}
use Rattle.target_base.specs.declared.types.Effect.TheVariants as effects
use Rattle.target_base.specs.declared.types.Role.{Role}
use Rattle.target_base.specs.declared.types.Target.{Target}
use Rattle.target_base.specs.Roles.{is_implicit}
use Rattle.meaning.specs.declared.types.Constant.{Constant}
use Rattle.meaning.specs.declared.types.Constant.TheVariants.{Immediate, StackAddress, FixedStackAddress, SymbolAddress}
use Rattle.meaning.specs.Lanes.{Reads}
use Rattle.meaning.specs.Environment.{residue}
use Rattle.meaning.specs.Perform.{condition_lane}
use Rattle.mir_func.specs.declared.func.RegOp.{RegOp}
use Rattle.mir_func.specs.declared.func.Operand.{Operand}
use Rattle.mir_func.specs.declared.func.Operand.TheVariants as operands
use Rattle.mir_func.specs.declared.func.Instr.{Instr}
use Rattle.mir_func.specs.Value.{Function}
use Rattle.mir_func.specs.Binding.{registers, explicit_operands, implicit_roles, roles_of, immediate_of, puts_together}
use Rattle.mir_meaning.specs.Registers.{use_sources}
use Rattle.mir_meaning.specs.Items.{Value, value_of, values, use_value, flag_value, constant_value, computes_with_immediates, has_base, implicit_values, is_flags, first_width, silent_reads, uses}
use Rattle.instr_effects.specs.Owners.{owners_read}
use Rattle.instr_effects.specs.Acts.{use_owners, read_owners, explicit_uses, implicit_uses, takes_some, flag_owners, tested_role, implicit_owners, counted_owners}

-- the sources of values
abbrev value_reads : List Value → Reads
value_reads vs = map (λ v. v.0) vs

reads-join : (rs qs : Reads) → read_owners (rs ++ qs) ≡ read_owners rs ++ read_owners qs
reads-join [] qs = refl
reads-join (r ∷ rs) qs = ap (λ t. owners_read r ++ t) (reads-join rs qs) ∙ sym (append_assoc (owners_read r) (read_owners rs) (read_owners qs))

map-join : {X Y : Type 0} (f : X → Y) (xs ys : List X) → map f (xs ++ ys) ≡ map f xs ++ map f ys
map-join f [] ys = refl
map-join f (x ∷ xs) ys = ap (λ t. f x ∷ t) (map-join f xs ys)

-- uses read their lanes
pub uses-read : (t : Target) (f : Function) (us : List RegOp) → read_owners (map (use_sources t f) us) ≡ flat_map (use_owners t f) us
uses-read t f [] = refl
uses-read t f (u ∷ us) = ap (λ x. use_owners t f u ++ x) (uses-read t f us)

values-read : (t : Target) (f : Function) (us : List RegOp) → read_owners (value_reads (map (use_value t f) us)) ≡ flat_map (use_owners t f) us
values-read t f [] = refl
values-read t f (u ∷ us) = ap (λ x. use_owners t f u ++ x) (values-read t f us)

flags-read : (t : Target) (f : Function) (c : ℤ) (us : List RegOp) → read_owners (value_reads (map (flag_value t f c) us)) ≡ flat_map (flag_owners t f (condition_lane (nat_abs c))) us
flags-read t f c [] = refl
flags-read t f c (u ∷ us) = ap (λ x. flag_owners t f (condition_lane (nat_abs c)) u ++ x) (flags-read t f c us)

constant-unread : (c : Constant) (w : ℕ) (b : Bool) (vs : List Value) → read_owners (value_reads (cons_option (cond b (Some (constant_value c w)) None) vs)) ≡ read_owners (value_reads vs)
constant-unread (Immediate z) w true vs = refl
constant-unread (StackAddress n) w true vs = refl
constant-unread (FixedStackAddress n) w true vs = refl
constant-unread (SymbolAddress name) w true vs = refl
constant-unread c w false vs = refl

-- explicit operands read the lanes of those that are uses
module _ (t : Target) (f : Function) (e : Effect) (w : ℕ) where
  abbrev V : Operand → Option Value
  V o = value_of t f e w o

  register-read : (o : RegOp) (es : List Operand) (us : List RegOp) (i d : Bool) → read_owners (value_reads (filter_map V es)) ≡ flat_map (use_owners t f) us → o.def ≡ d → read_owners (value_reads (filter_map V (cond (not i) (operands.Reg o ∷ es) es))) ≡ flat_map (use_owners t f) (cond (not d && not i) (o ∷ us) us)
  register-read o es us true true h q = h
  register-read o es us true false h q = h
  register-read o es us false true h q = ap (λ b. read_owners (value_reads (cons_option (cond b None (Some (use_value t f o))) (filter_map V es)))) q ∙ h
  register-read o es us false false h q = ap (λ b. read_owners (value_reads (cons_option (cond b None (Some (use_value t f o))) (filter_map V es)))) q ∙ ap (λ x. use_owners t f o ++ x) h

  explicit-read : (os : List Operand) → read_owners (value_reads (filter_map V (explicit_operands os))) ≡ flat_map (use_owners t f) (explicit_uses os)
  explicit-read [] = refl
  explicit-read (operands.Reg o ∷ os) = register-read o (explicit_operands os) (explicit_uses os) o.implicit o.def (explicit-read os) refl
  explicit-read (operands.Imm z ∷ os) = constant-unread (Immediate (residue z w)) w (computes_with_immediates e) (filter_map V (explicit_operands os)) ∙ explicit-read os
  explicit-read (operands.Block n ∷ os) = explicit-read os
  explicit-read (operands.Stack n ∷ os) = constant-unread (StackAddress n) 64 (has_base e) (filter_map V (explicit_operands os)) ∙ explicit-read os
  explicit-read (operands.FixedStack n ∷ os) = constant-unread (FixedStackAddress n) 64 (has_base e) (filter_map V (explicit_operands os)) ∙ explicit-read os
  explicit-read (operands.Symbol name ∷ os) = constant-unread (SymbolAddress name) 64 (has_base e) (filter_map V (explicit_operands os)) ∙ explicit-read os
  explicit-read (operands.Index x ∷ os) = explicit-read os
  explicit-read (operands.Mask m ∷ os) = explicit-read os

filter-same : {X : Type 0} (p q : X → Bool) → ((x : X) → p x ≡ q x) → (xs : List X) → filter p xs ≡ filter q xs
filter-same p q h [] = refl
filter-same p q h (x ∷ xs) = ap₂ (λ b t. cond b (x ∷ t) t) (h x) (filter-same p q h xs)

-- the first implicit role is found by a search
first-implicit : (rs : List Role) (o : RegOp) → is_flags (filter is_implicit rs) o ≡ takes_some (find is_implicit rs) o
first-implicit [] o = refl
first-implicit (r ∷ rs) o = go (is_implicit r) (first-implicit rs o)
  where
    go : (b : Bool) → is_flags (filter is_implicit rs) o ≡ takes_some (find is_implicit rs) o → is_flags (cond b (r ∷ filter is_implicit rs) (filter is_implicit rs)) o ≡ takes_some (cond b (Some r) (find is_implicit rs)) o
    go true h = refl
    go false h = h

none-taken : (us : List RegOp) → filter (λ o. not (takes_some None o)) us ≡ us
none-taken [] = refl
none-taken (u ∷ us) = ap (λ t. u ∷ t) (none-taken us)

no-flags : (us : List RegOp) → filter (takes_some None) us ≡ []
no-flags [] = refl
no-flags (u ∷ us) = no-flags us

module _ (t : Target) (f : Function) (c : ℤ) (rs : List Role) (us : List RegOp) where
  abbrev K : ℕ
  K = condition_lane (nat_abs c)

  tested-read : read_owners (value_reads (implicit_values t f effects.Jcc c (filter is_implicit rs) us)) ≡ implicit_owners t f (find is_implicit rs) K us
  tested-read =
      ap read_owners (map-join (λ v. v.0) (map (flag_value t f c) (filter (is_flags (filter is_implicit rs)) us)) (map (use_value t f) (filter (λ o. not (is_flags (filter is_implicit rs) o)) us)))
      ∙ reads-join (value_reads (map (flag_value t f c) (filter (is_flags (filter is_implicit rs)) us))) (value_reads (map (use_value t f) (filter (λ o. not (is_flags (filter is_implicit rs) o)) us)))
      ∙ ap₂ (λ x y. x ++ y)
      (flags-read t f c (filter (is_flags (filter is_implicit rs)) us) ∙ ap (flat_map (flag_owners t f K)) (filter-same (is_flags (filter is_implicit rs)) (takes_some (find is_implicit rs)) (first-implicit rs) us))
      (values-read t f (filter (λ o. not (is_flags (filter is_implicit rs) o)) us) ∙ ap (flat_map (use_owners t f)) (filter-same (λ o. not (is_flags (filter is_implicit rs) o)) (λ o. not (takes_some (find is_implicit rs) o)) (λ o. ap not (first-implicit rs o)) us))

  untested-read : read_owners (value_reads (map (use_value t f) us)) ≡ implicit_owners t f None K us
  untested-read = values-read t f us ∙ ap (flat_map (use_owners t f)) (sym (none-taken us)) ∙ ap (λ x. flat_map (flag_owners t f K) x ++ flat_map (use_owners t f) (filter (λ o. not (takes_some None o)) us)) (sym (no-flags us))

  implicit-read : (e : Effect) → read_owners (value_reads (implicit_values t f e c (filter is_implicit rs) us)) ≡ implicit_owners t f (tested_role e rs) K us
  implicit-read effects.Jcc = tested-read
  implicit-read e = untested-read

-- a counted instruction reads these lanes
pub counted-read : (t : Target) (f : Function) (e : Effect) (i : Instr) → read_owners (map (λ v. v.0) (values t f e i)) ≡ counted_owners t f e (roles_of t i) i.operands
counted-read t f e i =
    let w = first_width t f (registers i.operands) in
    let explicit : List Value = filter_map (value_of t f e w) (explicit_operands i.operands) in
    let implicit : List Value = implicit_values t f e (immediate_of i.operands) (implicit_roles (roles_of t i)) (implicit_uses i.operands) in
    ap read_owners (map-join (λ v. v.0) explicit implicit)
    ∙ reads-join (map (λ v. v.0) explicit) (map (λ v. v.0) implicit)
    ∙ ap₂ (λ x y. x ++ y) (explicit-read t f e w i.operands) (implicit-read t f (immediate_of i.operands) (roles_of t i) (implicit_uses i.operands) e)

module _ (t : Target) (f : Function) where
  pub together_read : (e : Effect) (os : List Operand) → puts_together e ≡ true → read_owners (silent_reads t f e os) ≡ flat_map (use_owners t f) (uses os)
  together_read effects.RegSequence os h = uses-read t f (uses os)
  together_read effects.InsertSubreg os h = uses-read t f (uses os)
  together_read e os h = absurd (cc)

  pub other_read : (e : Effect) (os : List Operand) → puts_together e ≡ false → read_owners (silent_reads t f e os) ≡ []
  other_read effects.RegSequence os h = absurd (cc)
  other_read effects.InsertSubreg os h = absurd (cc)
  other_read e os h = refl
