-- The definitions to which operands are tied.
use Rattle.std.proofs.Common.{◌≡◌, ℕ, Bool, ◌||◌, List, [], ◌∷◌, Option, Some, None, nat_eq, refl, ap}
use Rattle.std.specs.Prelude.{option_and_then}
use Rattle.std.specs.List.{list_any, cons_option}
use Rattle.target_base.specs.declared.types.Role.{Role}
use Rattle.mir_func.specs.Binding.{Bound, passes, ties_to, tied_number}
use Rattle.place_solve.specs.Once.{tied_numbers}

-- the same with one number more, if there is one
number_more : (n : ℕ) (k : Option ℕ) (ns : List ℕ) (b : Bool) → list_any (nat_eq n) ns ≡ b → list_any (nat_eq n) (cons_option k ns) ≡ (passes (nat_eq n) k || b)
number_more n None ns b e = e
number_more n (Some m) ns b e = ap (λ z. nat_eq n m || z) e

tied_more : (n : ℕ) (r : Option Role) (ns : List ℕ) (b : Bool) → list_any (nat_eq n) ns ≡ b → list_any (nat_eq n) (cons_option (option_and_then tied_number r) ns) ≡ (passes (ties_to n) r || b)
tied_more n None ns b e = e
tied_more n (Some role) ns b e = number_more n (tied_number role) ns b e

-- a number is among those to which operands are tied exactly where one of them is tied to it
pub tied_among : (n : ℕ) (bs : List Bound) → list_any (nat_eq n) (tied_numbers bs) ≡ list_any (λ b. passes (ties_to n) b.0) bs
tied_among n [] = refl
tied_among n (b ∷ bs) = tied_more n b.0 (tied_numbers bs) (list_any (λ c. passes (ties_to n) c.0) bs) (tied_among n bs)
