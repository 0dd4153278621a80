-- All registers of a class lie in it.
use Rattle.std.proofs.Common.{◌≡◌, List, [], ◌∷◌, Bool, true, false, refl, eq-eqb}
use Rattle.std.specs.Prelude.{◌==◌}
use Rattle.std.proofs.lemmas.Bool.{and_parts, and_from, or_left, or_right}
use Rattle.target_base.specs.declared.types.Reg.{Reg}
use Rattle.target_base.specs.Storage.{holds_reg, is_within}

within_more : (rs qs : List Reg) (q : Reg) → is_within rs qs ≡ true → is_within rs (q ∷ qs) ≡ true
within_more [] qs q e = refl
within_more (r ∷ rs) qs q e =
    let p = and_parts (holds_reg qs r) (is_within rs qs) e in
    and_from (holds_reg (q ∷ qs) r) (is_within rs (q ∷ qs)) (or_right (q.0 == r.0) (holds_reg qs r) p.0) (within_more rs qs q p.1)

pub within_self : (rs : List Reg) → is_within rs rs ≡ true
within_self [] = refl
within_self (r ∷ rs) = and_from (holds_reg (r ∷ rs) r) (is_within rs (r ∷ rs)) (or_left (r.0 == r.0) (holds_reg rs r) (eq-eqb r.0 r.0 refl)) (within_more rs rs r (within_self rs))
