-- Tied pairs, what is read besides tied uses, and spill slots, one after the other.
use Rattle.std.proofs.Common.{◌≡◌, ◌∙◌, ℕ, List, [], ◌∷◌, ◌++◌, Bool, true, false, refl, ap, cond, arith}
use Rattle.std.specs.Prelude.{◌&&◌, ◌||◌, nat_eq, filter_map, Option, Some, None, option_to_list}
use Rattle.std.specs.List.{cons_option, list_all, list_any}
use Rattle.std.specs.Option.{option_map_or}
use Rattle.std.proofs.lemmas.List.Folds.{list_any-append}
use Rattle.std.proofs.lemmas.Bool.Decides.{nat_tests}
use Rattle.mir_func.specs.declared.func.RegOp.{RegOp}
use Rattle.mir_meaning.specs.Registers.{has_number}
use Rattle.machine_verify.specs.Ties.{spill_numbers}
use Rattle.mir_func.specs.declared.func.Operand.{Operand}
use Rattle.mir_func.specs.declared.func.Operand.TheVariants as operands
use Rattle.target_base.specs.declared.types.Role.{Role}
use Rattle.mir_func.specs.Binding.{Bound, passes, ties_to}
use Rattle.mir_meaning.specs.Rules.{readings_besides}
use Rattle.machine_verify.specs.Ties.{reading_besides}

-- where all that is made of things passes, what is made of the first does, and what is made of the others
pub made_step : {X Y : Type 0} (passes_it : Y → Bool) (made : X → Option Y) (x : X) (xs : List X) → list_all passes_it (filter_map made (x ∷ xs)) ≡ (option_map_or passes_it (made x) true && list_all passes_it (filter_map made xs))
made_step {Y = Y} passes_it made x xs = by (made x)
  where
    by : (o : Option Y) → list_all passes_it (cons_option o (filter_map made xs)) ≡ (option_map_or passes_it o true && list_all passes_it (filter_map made xs))
    by None = refl
    by (Some y) = refl

of_reg : (n : ℕ) (bs : List Bound) (o : RegOp) (tied def undef : Bool) (r : Option Role) → passes (ties_to n) r ≡ tied → o.def ≡ def → o.undef ≡ undef → readings_besides n ((r, operands.Reg o) ∷ bs) ≡ (option_to_list (reading_besides n (r, operands.Reg o)) ++ readings_besides n bs)
of_reg n bs o true def undef r e g h = rw e refl
of_reg n bs o false true undef r e g h = rw (e, g) refl
of_reg n bs o false false true r e g h = rw (e, g, h) refl
of_reg n bs o false false false r e g h = rw (e, g, h) refl

pub besides_at : (n : ℕ) (bs : List Bound) (r : Option Role) (o : Operand) (tied : Bool) → passes (ties_to n) r ≡ tied → readings_besides n ((r, o) ∷ bs) ≡ (option_to_list (reading_besides n (r, o)) ++ readings_besides n bs)
besides_at n bs r (operands.Reg o) tied e = of_reg n bs o tied o.def o.undef r e refl refl
besides_at n bs r (operands.Imm z) true e = rw e refl
besides_at n bs r (operands.Imm z) false e = rw e refl
besides_at n bs r (operands.Block m) true e = rw e refl
besides_at n bs r (operands.Block m) false e = rw e refl
besides_at n bs r (operands.Stack m) true e = rw e refl
besides_at n bs r (operands.Stack m) false e = rw e refl
besides_at n bs r (operands.FixedStack m) true e = rw e refl
besides_at n bs r (operands.FixedStack m) false e = rw e refl
besides_at n bs r (operands.Symbol w) true e = rw e refl
besides_at n bs r (operands.Symbol w) false e = rw e refl
besides_at n bs r (operands.Index x) true e = rw e refl
besides_at n bs r (operands.Index x) false e = rw e refl
besides_at n bs r (operands.Mask m) true e = rw e refl
besides_at n bs r (operands.Mask m) false e = rw e refl

pub besides_step : (n : ℕ) (b : Bound) (bs : List Bound) → readings_besides n (b ∷ bs) ≡ (option_to_list (reading_besides n b) ++ readings_besides n bs)
besides_step n b bs = besides_at n bs b.0 b.1 (passes (ties_to n) b.0) refl

pub besides_any : (p : RegOp → Bool) (n : ℕ) (b : Bound) (bs : List Bound) → list_any p (readings_besides n (b ∷ bs)) ≡ (list_any p (option_to_list (reading_besides n b)) || list_any p (readings_besides n bs))
besides_any p n b bs = ap (list_any p) (besides_step n b bs) ∙ list_any-append p (option_to_list (reading_besides n b)) (readings_besides n bs)

same_either_way : (m n : ℕ) → nat_eq m n ≡ nat_eq n m
same_either_way m n = grind (arith, nat_tests)

slot_here : (m n : ℕ) (is_spill a b : Bool) → a ≡ b → (cond is_spill (nat_eq n m || a) a) ≡ ((nat_eq m n && is_spill) || b)
slot_here m n true a b e = rw (same_either_way m n, e) (or_and (nat_eq n m) b)
  where
    or_and : (x y : Bool) → (x || y) ≡ ((x && true) || y)
    or_and true y = refl
    or_and false y = refl
slot_here m n false a b e = rw e (or_none (nat_eq m n) b)
  where
    or_none : (x y : Bool) → y ≡ ((x && false) || y)
    or_none true y = refl
    or_none false y = refl

has_cond : (c : Bool) (m : ℕ) (ns : List ℕ) (n : ℕ) → has_number (cond c (m ∷ ns) ns) n ≡ cond c (nat_eq n m || has_number ns n) (has_number ns n)
has_cond true m ns n = refl
has_cond false m ns n = refl

pub slots_among : (os : List (ℕ × Bool)) (n : ℕ) → has_number (spill_numbers os) n ≡ list_any (λ o. nat_eq o.0 n && o.1) os
slots_among [] n = refl
slots_among (o ∷ os) n = has_cond o.1 o.0 (spill_numbers os) n ∙ slot_here o.0 n o.1 _ _ (slots_among os n)
