-- The first of the registers that pass a test is the one that a search for it finds.
use Rattle.std.proofs.Common.{◌≡◌, ◌∙◌, Bool, true, false, cond, List, [], ◌∷◌, refl, sym, ap}
use Rattle.std.specs.Prelude.{Option, Some, unwrap_or, find, filter}
use Rattle.target_base.specs.declared.types.Reg.{Reg}
use Rattle.target_base.specs.declared.types.ClassId.{ClassId}
use Rattle.target_base.specs.declared.types.Target.{Target}
use Rattle.target_base.specs.Numbers.{reg_number}
use Rattle.target_base.specs.Registers.{regs_of}
use Rattle.target_base.specs.Storage.{is_unreserved}
use Rattle.mir_meaning.specs.Places.{domain}
use Rattle.spiller.specs.Setting.{first_of}

found-first : (p : Reg → Bool) (rs : List Reg) → unwrap_or (find p rs) (reg_number 0) ≡ first_of (filter p rs)
found-first p [] = refl
found-first p (r ∷ rs) = go (p r) (found-first p rs)
  where
    go : (b : Bool) → unwrap_or (find p rs) (reg_number 0) ≡ first_of (filter p rs) → unwrap_or (cond b (Some r) (find p rs)) (reg_number 0) ≡ first_of (cond b (r ∷ filter p rs) (filter p rs))
    go true h = refl
    go false h = h

-- what a search of the registers of a class finds is the first unreserved one
pub found-unreserved : (t : Target) (k : Option ClassId) (c : ClassId) (rs : List Reg) (found : Option Reg) → k ≡ Some c → rs ≡ regs_of t c → found ≡ find (is_unreserved t.reserved t.regs) rs → unwrap_or found (reg_number 0) ≡ first_of (domain t k)
found-unreserved t k c rs found of_class own searched =
    ap (λ o. unwrap_or o (reg_number 0)) searched
    ∙ found-first (is_unreserved t.reserved t.regs) rs
    ∙ ap (λ qs. first_of (filter (is_unreserved t.reserved t.regs) qs)) own
    ∙ ap (λ o. first_of (domain t o)) (sym of_class)
