-- Operands that name other slots are registers, blocks and indexes as before, and meet the same roles.
use Rattle.std.proofs.Common.{◌≡◌, ℕ, zero, suc, Bool, true, false, cond, not, ◌&&◌, ◌||◌, List, [], ◌∷◌, ◌++◌, Some, None, map, filter, take, drop, length, refl, sym, ap, ◌∙◌}
use Rattle.std.specs.Prelude.{Option, filter_map, flat_map, option_and_then, option_map, slice_get}
use Rattle.std.specs.List.{cons_option, list_all, list_any}
use Rattle.std.proofs.lemmas.Option.{slice_get-map}
use Rattle.target_base.specs.declared.types.Effect.{Effect}
use Rattle.target_base.specs.declared.types.Role.{Role}
use Rattle.target_base.specs.declared.types.Role.TheVariants as roles
use Rattle.target_base.specs.declared.types.Target.{Target}
use Rattle.mir_func.specs.declared.func.RegOp.{RegOp}
use Rattle.mir_func.specs.declared.func.Operand.{Operand}
use Rattle.mir_func.specs.declared.func.Operand.TheVariants as operands
use Rattle.mir_func.specs.declared.func.Instr.{Instr}
use Rattle.mir_func.specs.Binding.{Bound, as_register, bound, explicit_bound, explicit_operands, explicit_roles, implicit_bound, implicit_registers, implicit_roles, immediate_of, is_implicit_operand, numbered, paired_with, passes, register_at, registers, roles_of, takes_many, tied_number, tied_pair, tied_pairs, ties_to}
use Rattle.mir_meaning.specs.Rules.{block_of, copy_fits, explicit_fit, fits_opaque, fits_role, implicit_def_fits, implicit_last, is_opaque, named_blocks, readings, readings_besides}
use Rattle.slot_laws.specs.Homes.{instr_moved, slot_moved}
use Rattle.slot_laws.proofs.Merged.{map-append}

-- lists that are changed element by element

pub take-map : {X Y : Type 0} (g : X → Y) (k : ℕ) (xs : List X) → take k (map g xs) ≡ map g (take k xs)
take-map g zero [] = refl
take-map g zero (x ∷ xs) = refl
take-map g (suc k) [] = refl
take-map g (suc k) (x ∷ xs) = ap (λ ys. g x ∷ ys) (take-map g k xs)

pub drop-map : {X Y : Type 0} (g : X → Y) (k : ℕ) (xs : List X) → drop k (map g xs) ≡ map g (drop k xs)
drop-map g zero [] = refl
drop-map g zero (x ∷ xs) = refl
drop-map g (suc k) [] = refl
drop-map g (suc k) (x ∷ xs) = drop-map g k xs

pub length-of-map : {X Y : Type 0} (g : X → Y) (xs : List X) → length (map g xs) ≡ length xs
length-of-map g [] = refl
length-of-map g (x ∷ xs) = ap (λ n. suc n) (length-of-map g xs)

pub filter-map : {X Y : Type 0} (p : X → Bool) (q : Y → Bool) (g : X → Y) → ((x : X) → q (g x) ≡ p x) → (xs : List X) → filter q (map g xs) ≡ map g (filter p xs)
filter-map p q g e [] = refl
filter-map p q g e (x ∷ xs) = ap (λ b. cond b (g x ∷ filter q (map g xs)) (filter q (map g xs))) (e x) ∙ go (p x) (filter-map p q g e xs)
  where
    go : (b : Bool) → filter q (map g xs) ≡ map g (filter p xs) → cond b (g x ∷ filter q (map g xs)) (filter q (map g xs)) ≡ map g (cond b (x ∷ filter p xs) (filter p xs))
    go true ih = ap (λ ys. g x ∷ ys) ih
    go false ih = ih

pub any-map : {X Y : Type 0} (p : X → Bool) (q : Y → Bool) (g : X → Y) → ((x : X) → q (g x) ≡ p x) → (xs : List X) → list_any q (map g xs) ≡ list_any p xs
any-map p q g e [] = refl
any-map p q g e (x ∷ xs) = λ k. e x k || any-map p q g e xs k

pub all-map : {X Y : Type 0} (p : X → Bool) (q : Y → Bool) (g : X → Y) → ((x : X) → q (g x) ≡ p x) → (xs : List X) → list_all q (map g xs) ≡ list_all p xs
all-map p q g e [] = refl
all-map p q g e (x ∷ xs) = λ k. e x k && all-map p q g e xs k

pub all-alike : {X : Type 0} (p q : X → Bool) → ((x : X) → q x ≡ p x) → (xs : List X) → list_all q xs ≡ list_all p xs
all-alike p q e [] = refl
all-alike p q e (x ∷ xs) = λ k. e x k && all-alike p q e xs k

pub any-alike : {X : Type 0} (p q : X → Bool) → ((x : X) → q x ≡ p x) → (xs : List X) → list_any q xs ≡ list_any p xs
any-alike p q e [] = refl
any-alike p q e (x ∷ xs) = λ k. e x k || any-alike p q e xs k

module _ (home : ℕ → ℕ) where
  pub registers-stay : (os : List Operand) → registers (map (slot_moved home) os) ≡ registers os
  registers-stay [] = refl
  registers-stay (operands.Reg o ∷ os) = ap (λ rs. o ∷ rs) (registers-stay os)
  registers-stay (x ∷ os) = registers-stay os

  pub implicit-stay : (os : List Operand) → implicit_registers (map (slot_moved home) os) ≡ implicit_registers os
  implicit-stay os = ap (filter (λ (o : RegOp). o.implicit)) (registers-stay os)

  implicit-same : (o : Operand) → is_implicit_operand (slot_moved home o) ≡ is_implicit_operand o
  implicit-same (operands.Reg o) = refl
  implicit-same _ = refl

  pub explicit-renamed : (os : List Operand) → explicit_operands (map (slot_moved home) os) ≡ map (slot_moved home) (explicit_operands os)
  explicit-renamed os = filter-map (λ o. not (is_implicit_operand o)) (λ o. not (is_implicit_operand o)) (slot_moved home) (λ o. ap not (implicit-same o)) os

  block-same : (o : Operand) → block_of (slot_moved home o) ≡ block_of o
  block-same (operands.Block n) = refl
  block-same _ = refl

  pub blocks-stay : (os : List Operand) → flat_map block_of (map (slot_moved home) os) ≡ flat_map block_of os
  blocks-stay [] = refl
  blocks-stay (o ∷ os) = λ k. block-same o k ++ blocks-stay os k

  pub named-stay : (is : List Instr) → flat_map named_blocks (map (instr_moved home) is) ≡ flat_map named_blocks is
  named-stay [] = refl
  named-stay (i ∷ is) = λ k. blocks-stay i.operands k ++ named-stay is k

  pub immediate-stays : (os : List Operand) → immediate_of (map (slot_moved home) os) ≡ immediate_of os
  immediate-stays [] = refl
  immediate-stays (operands.Imm z ∷ os) = refl
  immediate-stays (x ∷ os) = immediate-stays os

  -- shapes

  pub copy-fits : (os : List Operand) → copy_fits (map (slot_moved home) os) ≡ copy_fits os
  copy-fits (operands.Reg d ∷ operands.Reg s ∷ []) = refl
  copy-fits _ = refl

  pub undef-fits : (os : List Operand) → implicit_def_fits (map (slot_moved home) os) ≡ implicit_def_fits os
  undef-fits (operands.Reg d ∷ []) = refl
  undef-fits _ = refl

  stack-fits : (r : Role) (a b : ℕ) → fits_role r (operands.Stack a) ≡ fits_role r (operands.Stack b)
  stack-fits roles.Slot a b = refl
  stack-fits r a b = refl

  role-fits : (r : Role) (o : Operand) → fits_role r (slot_moved home o) ≡ fits_role r o
  role-fits r (operands.Stack n) = stack-fits r (home n) n
  role-fits r _ = refl

  opaque-fits : (t : Target) (r : Role) (o : Operand) → fits_opaque t r (slot_moved home o) ≡ fits_opaque t r o
  opaque-fits t (roles.Value None) (operands.Stack n) = refl
  opaque-fits t (roles.Value (Some c)) (operands.Stack n) = refl
  opaque-fits t roles.Any (operands.Stack n) = refl
  opaque-fits t r (operands.Stack n) = refl
  opaque-fits t r _ = refl

  pub explicit-fits : (t : Target) (e : Effect) (rs : List Role) (os : List Operand) → explicit_fit t e rs (map (slot_moved home) os) ≡ explicit_fit t e rs os
  explicit-fits t e rs [] = refl
  explicit-fits t e [] (o ∷ os) = refl
  explicit-fits t e (r ∷ rs) (o ∷ os) = λ k. (role-fits r o k || (is_opaque e && opaque-fits t r o k)) && explicit-fits t e (cond (takes_many r) (r ∷ rs) rs) os k

  pub last-fits : (os : List Operand) → implicit_last (map (slot_moved home) os) ≡ implicit_last os
  last-fits [] = refl
  last-fits (o ∷ os) = λ k. cond (implicit-same o k) (all-map is_implicit_operand is_implicit_operand (slot_moved home) implicit-same os k) (last-fits os k)

  -- operands with their roles

  abbrev pub bound_moved : Bound → Bound
  bound_moved b = (b.0, slot_moved home b.1)

  bound-explicit : (rs : List Role) (os : List Operand) → explicit_bound rs (map (slot_moved home) os) ≡ map bound_moved (explicit_bound rs os)
  bound-explicit rs [] = refl
  bound-explicit [] (o ∷ os) = ap (λ bs. (None, slot_moved home o) ∷ bs) (bound-explicit [] os)
  bound-explicit (r ∷ rs) (o ∷ os) = ap (λ bs. (Some r, slot_moved home o) ∷ bs) (bound-explicit (cond (takes_many r) (r ∷ rs) rs) os)

  bound-implicit : (rs : List Role) (os : List RegOp) → map (implicit_bound rs) os ≡ map bound_moved (map (implicit_bound rs) os)
  bound-implicit rs [] = refl
  bound-implicit rs (o ∷ os) = ap (λ bs. implicit_bound rs o ∷ bs) (bound-implicit rs os)

  pub bound-renamed : (t : Target) (i : Instr) → bound t (instr_moved home i) ≡ map bound_moved (bound t i)
  bound-renamed t i =
      let rs = explicit_roles (roles_of t i) in
      let qs = implicit_roles (roles_of t i) in
      (λ k. explicit_bound rs (explicit-renamed i.operands k) ++ map (implicit_bound qs) (implicit-stay i.operands k))
      ∙ (λ k. bound-explicit rs (explicit_operands i.operands) k ++ bound-implicit qs (implicit_registers i.operands) k)
      ∙ sym (map-append bound_moved (explicit_bound rs (explicit_operands i.operands)) (map (implicit_bound qs) (implicit_registers i.operands)))

  seconds : (bs : List Bound) → map (λ (b : Bound). b.1) (map bound_moved bs) ≡ map (slot_moved home) (map (λ (b : Bound). b.1) bs)
  seconds [] = refl
  seconds (b ∷ bs) = ap (λ os. slot_moved home b.1 ∷ os) (seconds bs)

  register-same : (o : Operand) → as_register (slot_moved home o) ≡ as_register o
  register-same (operands.Reg r) = refl
  register-same _ = refl

  register-at-stays : (os : List Operand) (n : ℕ) → register_at (map (slot_moved home) os) n ≡ register_at os n
  register-at-stays os n = ap (option_and_then as_register) (slice_get-map (slot_moved home) os n) ∙ at (slice_get os n)
    where
      at : (o : Option Operand) → option_and_then as_register (option_map (slot_moved home) o) ≡ option_and_then as_register o
      at None = refl
      at (Some o) = register-same o

  paired-stay : (os : List Operand) (u : RegOp) (n : Option ℕ) → paired_with (map (slot_moved home) os) u n ≡ paired_with os u n
  paired-stay os u None = refl
  paired-stay os u (Some n) = ap (option_map (λ (d : RegOp). record { number = n; definition = d; tied_use = u })) (register-at-stays os n)

  pair-stays : (os : List Operand) (b : Bound) → tied_pair (map (slot_moved home) os) (bound_moved b) ≡ tied_pair os b
  pair-stays os (r, operands.Reg u) = paired-stay os u (option_and_then tied_number r)
  pair-stays os (r, _) = refl

  pairs-stay : (os : List Operand) (bs : List Bound) → filter_map (tied_pair (map (slot_moved home) os)) (map bound_moved bs) ≡ filter_map (tied_pair os) bs
  pairs-stay os [] = refl
  pairs-stay os (b ∷ bs) = λ k. cons_option (pair-stays os b k) (pairs-stay os bs k)

  pub ties-stay : (t : Target) (i : Instr) → tied_pairs t (instr_moved home i) ≡ tied_pairs t i
  ties-stay t i = ap (filter_map (tied_pair (map (slot_moved home) i.operands))) (bound-renamed t i) ∙ pairs-stay i.operands (bound t i)

  pub besides-stay : (n : ℕ) (bs : List Bound) → readings_besides n (map bound_moved bs) ≡ readings_besides n bs
  besides-stay n bs =
      ap (λ (cs : List Bound). readings (registers (map (λ (b : Bound). b.1) cs))) (filter-map (λ (b : Bound). not (passes (ties_to n) b.0)) (λ (b : Bound). not (passes (ties_to n) b.0)) bound_moved (λ b. refl) bs)
      ∙ ap (λ os. readings (registers os)) (seconds (filter (λ (b : Bound). not (passes (ties_to n) b.0)) bs))
      ∙ ap readings (registers-stay (map (λ (b : Bound). b.1) (filter (λ (b : Bound). not (passes (ties_to n) b.0)) bs)))

  pub numbered-stay : (n : ℕ) (bs : List Bound) → numbered n (map bound_moved bs) ≡ map (λ (p : ℕ × Bound). (p.0, bound_moved p.1)) (numbered n bs)
  numbered-stay n [] = refl
  numbered-stay n (b ∷ bs) = ap (λ ps. (n, bound_moved b) ∷ ps) (numbered-stay (suc n) bs)
