-- Live-ins: numbers in a row, listed units, and the cover.
use Rattle.std.proofs.Common.{◌≡◌, ◌∙◌, ℕ, suc, ◌+◌, ◌-◌, ◌<◌, ◌≤◌, List, [], ◌∷◌, ◌++◌, Bool, true, false, cond, refl, sym, ap, arith, length, map, append_assoc}
use Rattle.std.specs.Prelude.{◌&&◌, ◌||◌, nat_eq, filter, Option, Some, None, option_to_list}
use Rattle.std.specs.List.{list_any}
use Rattle.std.proofs.lemmas.Bool.Decides.{nat_tests}
use Rattle.std.proofs.lemmas.List.Folds.{list_any-append}
use Rattle.target_base.specs.declared.types.Reg.{Reg}
use Rattle.target_base.specs.declared.types.Target.{Target}
use Rattle.target_base.specs.Storage.{same_numbers}
use Rattle.target_base.proofs.Sound.{regs_count}
use Rattle.mir_func.specs.Binding.{passes}
use Rattle.mir_meaning.specs.Registers.{numbers}
use Rattle.mir_meaning.specs.Valid.{cover, unreserved_registers}
use Rattle.target_base.specs.Storage.{is_unreserved}
use Rattle.target_base.specs.Numbers.{reg_number}
use Rattle.std.proofs.Common.{drop}
use Rattle.std.proofs.lemmas.List.{drop_all}
use Rattle.machine_verify.specs.Liveins.{wanted, wanted_at, chosen_of, standing, register_numbers}

pub numbers_step : (k n : ℕ) → k < n → numbers k (n - k) ≡ (k ∷ numbers (k + 1) (n - (k + 1)))
numbers_step k n h =
    let e : n - k ≡ suc (n - (k + 1)) = omega arith in
    let f : suc k ≡ k + 1 = omega arith in
    rw e (rw f refl)

pub numbers_end : (k n : ℕ) → n ≤ k → numbers k (n - k) ≡ []
numbers_end k n h = let e : n - k ≡ 0 = omega arith in rw e refl

pub few_regs : (t : Target) → length t.regs ≤ 512
few_regs t = regs_count t.name t.version t.units t.regs t.reserved t.indexes t.classes t.masks t.opcodes t.sound

-- a list of numbers of what is joined is joined
pub numbers_joined : {X : Type 0} (f : X → ℕ) (xs ys : List X) → map f (xs ++ ys) ≡ map f xs ++ map f ys
numbers_joined f [] ys = refl
numbers_joined f (x ∷ xs) ys = ap (λ ns. f x ∷ ns) (numbers_joined f xs ys)

-- a register stands for one of the units just where it is wanted
one_wanted : (p : Reg → Bool) (here : Bool) (o : Option Reg) → list_any p (cond here (option_to_list o) []) ≡ (here && passes p o)
one_wanted p true None = refl
one_wanted p true (Some r) = or_false (p r)
  where
    or_false : (b : Bool) → (b || false) ≡ b
    or_false true = refl
    or_false false = refl
one_wanted p false o = refl

wanted_is : (t : Target) (rs : List Reg) (live : ℕ → Bool) (p : Reg → Bool) (us : List ℕ) → list_any p (wanted t rs live us) ≡ list_any (λ u. live u && passes p (chosen_of t rs live u)) us
wanted_is t rs live p [] = refl
wanted_is t rs live p (u ∷ us) =
    list_any-append p (wanted_at t rs live u) (wanted t rs live us)
    ∙ (ap (λ b. b || list_any p (wanted t rs live us)) (one_wanted p (live u) (chosen_of t rs live u))
    ∙ ap (λ b. (live u && passes p (chosen_of t rs live u)) || b) (wanted_is t rs live p us))

filter_alike : {X : Type 0} (p q : X → Bool) → ((x : X) → p x ≡ q x) → (xs : List X) → filter p xs ≡ filter q xs
filter_alike p q h [] = refl
filter_alike p q h (x ∷ xs) = ap (λ b. cond b (x ∷ filter p xs) (filter p xs)) (h x) ∙ ap (λ ys. cond (q x) (x ∷ ys) ys) (filter_alike p q h xs)

pub cover_is : (t : Target) (live : ℕ → Bool) → standing (wanted t (unreserved_registers t) live (numbers 0 (length t.units))) (unreserved_registers t) ≡ cover t live
unfolding cover
cover_is t live = filter_alike _ _ (λ r. wanted_is t (unreserved_registers t) live (λ q. nat_eq r.0 q.0) (numbers 0 (length t.units))) (unreserved_registers t)

filter_one : {X : Type 0} (p : X → Bool) (x : X) (xs : List X) → filter p (x ∷ xs) ≡ filter p (x ∷ []) ++ filter p xs
filter_one p x xs = either (p x)
  where
    either : (b : Bool) → cond b (x ∷ filter p xs) (filter p xs) ≡ cond b (x ∷ []) [] ++ filter p xs
    either true = refl
    either false = refl

-- one more register is looked at
pub kept_step : (t : Target) (made more whole : List Reg) (k n : ℕ) → k < n → more ≡ made ++ filter (is_unreserved t.reserved t.regs) (reg_number k ∷ []) → made ++ filter (is_unreserved t.reserved t.regs) (map reg_number (numbers k (n - k))) ≡ whole → more ++ filter (is_unreserved t.reserved t.regs) (map reg_number (numbers (k + 1) (n - (k + 1)))) ≡ whole
kept_step t made more whole k n h e q =
    let p = is_unreserved t.reserved t.regs in
    let rest = map reg_number (numbers (k + 1) (n - (k + 1))) in
    ap (λ xs. xs ++ filter p rest) e
    ∙ (append_assoc made (filter p (reg_number k ∷ [])) (filter p rest)
    ∙ (ap (λ xs. made ++ xs) (sym (filter_one p (reg_number k) rest) ∙ ap (λ ns. filter p (map reg_number ns)) (sym (numbers_step k n h)))
    ∙ q))

-- one more unit is looked at
pub wanted_step : (t : Target) (rs : List Reg) (live : ℕ → Bool) (made more whole : List Reg) (u n : ℕ) → u < n → more ≡ made ++ wanted_at t rs live u → made ++ wanted t rs live (numbers u (n - u)) ≡ whole → more ++ wanted t rs live (numbers (u + 1) (n - (u + 1))) ≡ whole
wanted_step t rs live made more whole u n h e q =
    let rest = wanted t rs live (numbers (u + 1) (n - (u + 1))) in
    ap (λ xs. xs ++ rest) e
    ∙ (append_assoc made (wanted_at t rs live u) rest
    ∙ (ap (λ us. made ++ wanted t rs live us) (sym (numbers_step u n h)) ∙ q))

-- no register is left to list
pub cover_end : (ws ls rs : List Reg) (i : ℕ) → length rs ≤ i → same_numbers (register_numbers ls) (register_numbers (standing ws (drop i rs))) ≡ nat_eq (length ls) 0
cover_end ws ls rs i h = ap (λ xs. same_numbers (register_numbers ls) (register_numbers (standing ws xs))) (drop_all i rs h) ∙ none_left ls
  where
    none_left : (xs : List Reg) → same_numbers (register_numbers xs) [] ≡ nat_eq (length xs) 0
    none_left [] = refl
    none_left (x ∷ xs) = let e : nat_eq (length (x ∷ xs)) 0 ≡ false = grind (arith, nat_tests) in sym e
