-- The unreserved registers of a class.
use Rattle.std.proofs.Common.{◌≡◌, ◌∙◌, ◌+◌, ◌<◌, ◌≤◌, ℕ, Bool, true, false, cond, List, [], ◌∷◌, ◌++◌, length, get_or, take, refl, sym, ap, append_assoc}
use Rattle.std.specs.Prelude.{◌==◌, ◌&&◌, not, filter, slice_get, Option, Some, None}
use Rattle.std.specs.Option.{option_to_list}
use Rattle.std.specs.List.{list_any, list_all}
use Rattle.std.proofs.lemmas.Map.Views.{any-filter_same}
use Rattle.std.proofs.lemmas.Bool.{eqb-true}
use Rattle.target_base.specs.declared.types.Reg.{Reg}
use Rattle.target_base.specs.declared.types.ClassId.{ClassId}
use Rattle.target_base.specs.declared.types.RegDesc.{RegDesc}
use Rattle.target_base.specs.declared.types.Unit.{Unit as UnitNumber}
use Rattle.target_base.specs.declared.types.Target.{Target}
use Rattle.target_base.specs.Storage.{holds_reg, is_unreserved, units_in, is_among}
use Rattle.target_base.specs.Rules.{regs_of_some}
use Rattle.std.proofs.lemmas.List.{take_more, take_all}
use Rattle.std.proofs.lemmas.List.Elements.{filter-append}
use Rattle.mir_meaning.specs.Places.{domain}
use Rattle.evictor.specs.Candidates.{with_first}
use Rattle.evictor.specs.Hints.{is_other, follows}

domain_is : (t : Target) (c : Option ClassId) → domain t c ≡ filter (is_unreserved t.reserved t.regs) (regs_of_some t.classes c)
domain_is t None = refl
domain_is t (Some c) = refl

both_unreserved : (us : List UnitNumber) (rs : List RegDesc) (q r : Reg) → (q.0 == r.0) ≡ true → is_unreserved us rs q ≡ is_unreserved us rs r
both_unreserved us rs q r e = ap (λ (n : ℕ). list_all (λ u. not (is_among us u)) (units_in (slice_get rs n))) (eqb-true q.0 r.0 e)

pub domain_holds : (t : Target) (c : Option ClassId) (r : Reg) → holds_reg (domain t c) r ≡ (is_unreserved t.reserved t.regs r && holds_reg (regs_of_some t.classes c) r)
domain_holds t c r = ap (λ rs. holds_reg rs r) (domain_is t c) ∙ any-filter_same (λ q. q.0 == r.0) (is_unreserved t.reserved t.regs) (is_unreserved t.reserved t.regs r) (λ q e. both_unreserved t.reserved t.regs q r e) (regs_of_some t.classes c)

pub reserved_fails : (t : Target) (c : Option ClassId) (r : Reg) (u : Bool) → u ≡ is_unreserved t.reserved t.regs r → u ≡ false → false ≡ holds_reg (domain t c) r
reserved_fails t c r u is fails = sym (domain_holds t c r ∙ ap (λ b. b && holds_reg (regs_of_some t.classes c) r) (sym is ∙ fails))

pub unreserved_is : (t : Target) (c : Option ClassId) (r : Reg) (rs : List Reg) (u found : Bool) → u ≡ is_unreserved t.reserved t.regs r → u ≡ true → rs ≡ regs_of_some t.classes c → found ≡ holds_reg rs r → found ≡ holds_reg (domain t c) r
unreserved_is t c r rs u found is passes own held = held ∙ ap (λ qs. holds_reg qs r) own ∙ sym (domain_holds t c r ∙ ap (λ b. b && holds_reg (regs_of_some t.classes c) r) (sym is ∙ passes))

pub ruleset held = (reserved_fails, unreserved_is)

-- a register first, and then the others

both_kept : {X : Type 0} (p q : X → Bool) (xs : List X) → filter (λ x. p x && q x) xs ≡ filter q (filter p xs)
both_kept p q [] = refl
both_kept {X} p q (x ∷ xs) = go (p x) (both_kept p q xs)
  where
    go : (b : Bool) → filter (λ x. p x && q x) xs ≡ filter q (filter p xs) → cond (b && q x) (x ∷ filter (λ x. p x && q x) xs) (filter (λ x. p x && q x) xs) ≡ filter q (cond b (x ∷ filter p xs) (filter p xs))
    go true rest = ap (λ ys. cond (q x) (x ∷ ys) ys) rest
    go false rest = rest

all_kept : {X : Type 0} (xs : List X) → filter (λ x. true) xs ≡ xs
all_kept [] = refl
all_kept (x ∷ xs) = ap (λ ys. x ∷ ys) (all_kept xs)

pub first_followed : (t : Target) (c : Option ClassId) (q : Option Reg) (rs : List Reg) → rs ≡ regs_of_some t.classes c → option_to_list q ++ filter (follows t q) rs ≡ with_first q (domain t c)
first_followed t c None rs own = both_kept (is_unreserved t.reserved t.regs) (is_other None) rs ∙ (all_kept (filter (is_unreserved t.reserved t.regs) rs) ∙ (ap (filter (is_unreserved t.reserved t.regs)) own ∙ sym (domain_is t c)))
first_followed t c (Some r) rs own = ap (λ qs. r ∷ qs) (both_kept (is_unreserved t.reserved t.regs) (is_other (Some r)) rs ∙ ap (filter (is_other (Some r))) (ap (filter (is_unreserved t.reserved t.regs)) own ∙ sym (domain_is t c)))

-- one register more

pub follows_more : (t : Target) (q : Option Reg) (rs found next : List Reg) (k : ℕ) (r : Reg) → k < length rs → r ≡ get_or rs k r → found ≡ option_to_list q ++ filter (follows t q) (take k rs) → next ≡ found ++ filter (follows t q) (r ∷ []) → next ≡ option_to_list q ++ filter (follows t q) (take (k + 1) rs)
follows_more t q rs found next k r h at was is =
    is ∙ (ap (λ ys. ys ++ filter (follows t q) (r ∷ [])) was ∙ (append_assoc (option_to_list q) (filter (follows t q) (take k rs)) (filter (follows t q) (r ∷ [])) ∙ ap (λ ys. option_to_list q ++ ys) (sym (ap (filter (follows t q)) (take_more rs k r h ∙ ap (λ x. take k rs ++ x ∷ []) (sym at)) ∙ filter-append (follows t q) (take k rs) (r ∷ [])))))

pub follows_all : (t : Target) (q : Option Reg) (rs found : List Reg) (k : ℕ) → length rs ≤ k → found ≡ option_to_list q ++ filter (follows t q) (take k rs) → found ≡ option_to_list q ++ filter (follows t q) rs
follows_all t q rs found k h was = was ∙ ap (λ ys. option_to_list q ++ filter (follows t q) ys) (take_all k rs h)

pub ruleset followed = (follows_more, follows_all)
