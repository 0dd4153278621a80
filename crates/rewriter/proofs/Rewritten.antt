-- From the units that are found live to those that the table tells.
use Rattle.std.proofs.Common.{◌≡◌, ◌∙◌, ℕ, ◌+◌, ◌-◌, ◌<◌, ◌≤◌, Bool, List, [], ◌∷◌, ◌++◌, map, sym, ap, append_assoc, append-nil}
use Rattle.target_base.specs.declared.types.ClassId.{ClassId}
use Rattle.target_base.specs.declared.types.Target.{Target}
use Rattle.mir_func.specs.Value.{Function}
use Rattle.mir_meaning.specs.Registers.{numbers}
use Rattle.machine_verify.proofs.Lived.{numbers_step, numbers_end}
use Rattle.live_lanes.specs.declared.live.LiveFunc.{LiveFunc}
use Rattle.rewriter.specs.declared.live_units.LiveUnits.{LiveUnits}
use Rattle.rewriter.specs.LiveUnits.{live_into, is_live_unit}
use Rattle.rewriter.specs.Physical.{Assignment, physical_form}

-- one number more
pub each_more : {X : Type 0} (f : ℕ → X) (n k : ℕ) (made new total : List X) (x : X) → k < n → x ≡ f k → new ≡ made ++ x ∷ [] → made ++ map f (numbers k (n - k)) ≡ total → new ++ map f (numbers (k + 1) (n - (k + 1))) ≡ total
each_more f n k made new total x h is grown was =
    let rest = map f (numbers (k + 1) (n - (k + 1))) in
    ap (λ xs. xs ++ rest) grown
    ∙ (append_assoc made (x ∷ []) rest
    ∙ (ap (λ y. made ++ y ∷ rest) is
    ∙ (ap (λ ns. made ++ map f ns) (sym (numbers_step k n h)) ∙ was)))

pub each_all : {X : Type 0} (f : ℕ → X) (n k : ℕ) (made total : List X) → n ≤ k → made ++ map f (numbers k (n - k)) ≡ total → made ≡ total
each_all f n k made total h was = sym (append-nil made) ∙ (ap (λ ns. made ++ map f ns) (sym (numbers_end k n h)) ∙ was)

-- tests that answer alike are one
same_tests : (s t : ℕ → ℕ → Bool) → ((p u : ℕ) → s p u ≡ t p u) → s ≡ t
same_tests s t h = λ i p u. h p u i

pub rewritten : (t : Target) (rs qs : Assignment) (given slots : List (ℕ × ClassId)) (live : LiveUnits) (x : LiveFunc) (f g : Function) → rs ≡ qs → given ≡ slots → f ≡ x.func → ((p u : ℕ) → live_into live p u ≡ is_live_unit x rs p u) → g ≡ physical_form t rs given (live_into live) f → g ≡ physical_form t qs slots (is_live_unit x qs) x.func
rewritten t rs qs given slots live x f g r s of told e =
    e
    ∙ (ap (λ l. physical_form t rs given l f) (same_tests (live_into live) (is_live_unit x rs) told)
    ∙ (ap (λ q. physical_form t q given (is_live_unit x q) f) r
    ∙ (ap (λ ss. physical_form t qs ss (is_live_unit x qs) f) s
    ∙ ap (λ h. physical_form t qs slots (is_live_unit x qs) h) of)))
