-- Walks over operands with their roles, and over lists, one step after the other.
use Rattle.std.proofs.Common.{◌≡◌, ◌∙◌, ℕ, ◌+◌, ◌<◌, ◌≤◌, Bool, true, false, cond, ◌||◌, List, [], ◌∷◌, ◌++◌, Option, get_or, drop, length, refl, sym, ap, append_assoc, add-one}
use Rattle.std.specs.Prelude.{filter_map}
use Rattle.std.specs.List.{cons_option, list_any}
use Rattle.std.proofs.lemmas.List.{append-nil, drop_more}
use Rattle.target_base.specs.declared.types.Role.{Role}
use Rattle.mir_func.specs.declared.func.Operand.{Operand}
use Rattle.mir_func.specs.Binding.{Bound, after_first, explicit_bound, first_role, numbered}
use Rattle.mir_func.proofs.Bound.{bound_step, bound_none}
use Rattle.phi_elim.proofs.Walks.{drop_all}
use Rattle.mir_meaning.specs.Places.{Variable, each_once, same_use}
use Rattle.spiller.proofs.OwnUses.{seen-alike}
use Rattle.spiller.proofs.Basics.{or-swapped}

-- one operand more
pub bound-more : (qs next : List Role) (r : Option Role) (k : ℕ) (os : List Operand) (o : Operand) → k < length os → o ≡ get_or os k o → r ≡ first_role qs → next ≡ after_first qs → explicit_bound qs (drop k os) ≡ (r, o) ∷ explicit_bound next (drop (k + 1) os)
bound-more qs next r k os o h at role left = rw (drop_more os k o h, ← at, role, left) (bound_step qs o (drop (k + 1) os))

-- no operand more
pub bound-all : (qs : List Role) (k : ℕ) (os : List Operand) → length os ≤ k → explicit_bound qs (drop k os) ≡ []
bound-all qs k os h = rw (drop_all k os h) (bound_none qs)

-- what is told of the operands that are left

pub told-more : {X : Type 0} (g : Bound → Option X) (qs next : List Role) (r : Option Role) (k : ℕ) (os : List Operand) (o : Operand) → k < length os → o ≡ get_or os k o → r ≡ first_role qs → next ≡ after_first qs → filter_map g (explicit_bound qs (drop k os)) ≡ cons_option (g (r, o)) (filter_map g (explicit_bound next (drop (k + 1) os)))
told-more g qs next r k os o h at role left = ap (filter_map g) (bound-more qs next r k os o h at role left)

pub told-all : {X : Type 0} (g : Bound → Option X) (qs : List Role) (k : ℕ) (os : List Operand) → length os ≤ k → filter_map g (explicit_bound qs (drop k os)) ≡ []
told-all g qs k os h = ap (filter_map g) (bound-all qs k os h)

-- the same of operands with their numbers

pub counted-more : {X : Type 0} (g : ℕ × Bound → Option X) (qs next : List Role) (r : Option Role) (k : ℕ) (os : List Operand) (o : Operand) → k < length os → o ≡ get_or os k o → r ≡ first_role qs → next ≡ after_first qs → filter_map g (numbered k (explicit_bound qs (drop k os))) ≡ cons_option (g (k, (r, o))) (filter_map g (numbered (k + 1) (explicit_bound next (drop (k + 1) os))))
counted-more g qs next r k os o h at role left = rw (bound-more qs next r k os o h at role left, add-one) refl

pub counted-all : {X : Type 0} (g : ℕ × Bound → Option X) (qs : List Role) (k : ℕ) (os : List Operand) → length os ≤ k → filter_map g (numbered k (explicit_bound qs (drop k os))) ≡ []
counted-all g qs k os h = ap (λ bs. filter_map g (numbered k bs)) (bound-all qs k os h)

-- variables once each

any-moved : (v x : Variable) (xs ys : List Variable) → list_any (same_use v) ((x ∷ xs) ++ ys) ≡ list_any (same_use v) (xs ++ x ∷ ys)
any-moved v x [] ys = refl
any-moved v x (z ∷ xs) ys = or-swapped (same_use v x) (same_use v z) (list_any (same_use v) (xs ++ ys)) ∙ ap (λ b. same_use v z || b) (any-moved v x xs ys)

-- those of further ones stand behind
pub once-append : (seen xs ys : List Variable) → each_once seen (xs ++ ys) ≡ each_once seen xs ++ each_once (seen ++ each_once seen xs) ys
once-append seen [] ys = ap (λ zs. each_once zs ys) (sym (append-nil seen))
once-append seen (x ∷ xs) ys = go (list_any (same_use x) seen) (once-append seen xs ys) (once-append (x ∷ seen) xs ys)
  where
    go : (b : Bool) → each_once seen (xs ++ ys) ≡ each_once seen xs ++ each_once (seen ++ each_once seen xs) ys → each_once (x ∷ seen) (xs ++ ys) ≡ each_once (x ∷ seen) xs ++ each_once ((x ∷ seen) ++ each_once (x ∷ seen) xs) ys
        → cond b (each_once seen (xs ++ ys)) (x ∷ each_once (x ∷ seen) (xs ++ ys)) ≡ cond b (each_once seen xs) (x ∷ each_once (x ∷ seen) xs) ++ each_once (seen ++ cond b (each_once seen xs) (x ∷ each_once (x ∷ seen) xs)) ys
    go true h k = h
    go false h k = ap (λ zs. x ∷ zs) (k ∙ ap (λ zs. each_once (x ∷ seen) xs ++ zs) (seen-alike ((x ∷ seen) ++ each_once (x ∷ seen) xs) (seen ++ x ∷ each_once (x ∷ seen) xs) ys (λ v. any-moved v x seen (each_once (x ∷ seen) xs))))

-- those that were found and those that are left
pub once-further : (seen xs ys : List Variable) → (seen ++ each_once seen xs) ++ each_once (seen ++ each_once seen xs) ys ≡ seen ++ each_once seen (xs ++ ys)
once-further seen xs ys = append_assoc seen (each_once seen xs) (each_once (seen ++ each_once seen xs) ys) ∙ ap (λ zs. seen ++ zs) (sym (once-append seen xs ys))

-- one that was found already
pub once-known : (seen : List Variable) (x : Variable) (xs : List Variable) → list_any (same_use x) seen ≡ true → each_once seen (x ∷ xs) ≡ each_once seen xs
once-known seen x xs e = ap (λ b. cond b (each_once seen xs) (x ∷ each_once (x ∷ seen) xs)) e

-- a new one
pub once-new : (seen : List Variable) (x : Variable) (xs : List Variable) → list_any (same_use x) seen ≡ false → seen ++ each_once seen (x ∷ xs) ≡ (seen ++ x ∷ []) ++ each_once (seen ++ x ∷ []) xs
once-new seen x xs e =
    ap (λ b. seen ++ cond b (each_once seen xs) (x ∷ each_once (x ∷ seen) xs)) e
    ∙ (ap (λ zs. seen ++ x ∷ zs) (seen-alike (x ∷ seen) (seen ++ x ∷ []) xs (λ v. alike v))
    ∙ sym (append_assoc seen (x ∷ []) (each_once (seen ++ x ∷ []) xs)))
  where
    alike : (v : Variable) → list_any (same_use v) (x ∷ seen) ≡ list_any (same_use v) (seen ++ x ∷ [])
    alike v = ap (λ zs. list_any (same_use v) (x ∷ zs)) (sym (append-nil seen)) ∙ any-moved v x seen []
