-- The place of a register among the entries.
use Rattle.std.proofs.Common.{◌≡◌, ℕ, ◌+◌, ◌<◌, ◌≤◌, ◌==◌, nat_le, suc, Bool, true, false, cond, List, [], ◌∷◌, ◌++◌, take, drop, length, Some, None, not, refl, sym, ◌∙◌, ap, arith, get_or, set}
use Rattle.std.specs.List.{position, position_or_len}
use Rattle.std.proofs.lemmas.Grind.{common_steps}
use Rattle.std.proofs.lemmas.List.{set_split, take_all, drop_all, drop_more}
use Rattle.target_base.specs.declared.types.Target.{Target}
use Rattle.target_base.specs.declared.types.Reg.{Reg}
use Rattle.watchers.specs.declared.pressure.RegisterCount.{RegisterCount}
use Rattle.watchers.specs.RegisterCounts.{first_given, given_again, given_once}

-- the entry isn't of an earlier register
abbrev pub is_behind : Reg → RegisterCount → Bool
is_behind r g = nat_le r.0 g.register.0

-- what becomes of the entries from the first that isn't of an earlier register
abbrev pub from_place : Target → List RegisterCount → Reg → List RegisterCount
from_place t [] r = first_given t r ∷ []
from_place t (g ∷ gs) r = cond (g.register.0 == r.0) (given_again g ∷ gs) (first_given t r ∷ g ∷ gs)

more_before : (t : Target) (g : RegisterCount) (gs : List RegisterCount) (r : Reg) (n : ℕ) (b : Bool) → given_once t gs r ≡ take n gs ++ from_place t (drop n gs) r
    → cond b (from_place t (g ∷ gs) r) (g ∷ given_once t gs r) ≡ take (cond (not b) (1 + n) 0) (g ∷ gs) ++ from_place t (drop (cond (not b) (1 + n) 0) (g ∷ gs)) r
more_before t g gs r n true h = refl
more_before t g gs r n false h =
    let e : suc n ≡ 1 + n = omega arith in
    ap (λ l. g ∷ l) h ∙ ap (λ m. take m (g ∷ gs) ++ from_place t (drop m (g ∷ gs)) r) e

-- those before it stay
once_split : (t : Target) (gs : List RegisterCount) (r : Reg) → given_once t gs r ≡ take (position_or_len (is_behind r) gs) gs ++ from_place t (drop (position_or_len (is_behind r) gs) gs) r
once_split t [] r = refl
once_split t (g ∷ gs) r = more_before t g gs r (position_or_len (is_behind r) gs) (is_behind r g) (once_split t gs r)

pub once_last : (t : Target) (gs : List RegisterCount) (r : Reg) → position (is_behind r) gs ≡ None → given_once t gs r ≡ gs ++ first_given t r ∷ []
once_last t gs r e =
    let long : length gs ≤ position_or_len (is_behind r) gs = grind (arith, common_steps) in
    once_split t gs r ∙ (λ k. take_all _ gs long k ++ from_place t (drop_all _ gs long k) r)

once_at : (t : Target) (gs : List RegisterCount) (r : Reg) (k : ℕ) (d : RegisterCount) → position (is_behind r) gs ≡ Some k → given_once t gs r ≡ take k gs ++ from_place t (get_or gs k d ∷ drop (k + 1) gs) r
once_at t gs r k d e =
    let at : position_or_len (is_behind r) gs ≡ k = grind (arith, common_steps) in
    let inside : k < length gs = grind (arith, common_steps) in
    once_split t gs r ∙ ap (λ m. take m gs ++ from_place t (drop m gs) r) at ∙ ap (λ l. take k gs ++ from_place t l r) (drop_more gs k d inside)

pub once_again : (t : Target) (gs : List RegisterCount) (r : Reg) (k : ℕ) (d : RegisterCount) → position (is_behind r) gs ≡ Some k → ((get_or gs k d).register.0 == r.0) ≡ true → set gs k (given_again (get_or gs k d)) ≡ given_once t gs r
once_again t gs r k d e same =
    let inside : k < length gs = grind (arith, common_steps) in
    let more : suc k ≡ k + 1 = omega arith in
    set_split gs k (given_again (get_or gs k d)) inside ∙ ap (λ m. take k gs ++ given_again (get_or gs k d) ∷ drop m gs) more
    ∙ sym (once_at t gs r k d e ∙ ap (λ b. take k gs ++ cond b (given_again (get_or gs k d) ∷ drop (k + 1) gs) (first_given t r ∷ get_or gs k d ∷ drop (k + 1) gs)) same)

pub once_between : (t : Target) (gs : List RegisterCount) (r : Reg) (k : ℕ) (d : RegisterCount) → position (is_behind r) gs ≡ Some k → ((get_or gs k d).register.0 == r.0) ≡ false → take k gs ++ first_given t r ∷ drop k gs ≡ given_once t gs r
once_between t gs r k d e other =
    let inside : k < length gs = grind (arith, common_steps) in
    ap (λ l. take k gs ++ first_given t r ∷ l) (drop_more gs k d inside)
    ∙ sym (once_at t gs r k d e ∙ ap (λ b. take k gs ++ cond b (given_again (get_or gs k d) ∷ drop (k + 1) gs) (first_given t r ∷ get_or gs k d ∷ drop (k + 1) gs)) other)
