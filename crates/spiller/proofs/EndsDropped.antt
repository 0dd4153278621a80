-- The terminators of a block are what stands from its first terminator on.
use Rattle.std.proofs.Common.{◌≡◌, ◌∙◌, ◌+◌, Bool, true, false, cond, not, List, [], ◌∷◌, Option, None, drop, length, refl, sym, ap, arith, one-add}
use Rattle.std.specs.Prelude.{position}
use Rattle.std.specs.List.{position_or_len}
use Rattle.target_base.specs.declared.types.Target.{Target}
use Rattle.mir_func.specs.declared.func.Instr.{Instr}
use Rattle.mir_func.specs.Binding.{does, is_terminator}
use Rattle.mir_func.proofs.Places.{position_or_len-le, position-None_is}
use Rattle.spiller.specs.Ends.{ends_of}

pub none-behind : {X : Type 0} (p : X → Bool) (xs : List X) → None ≡ position p xs → length xs ≡ position_or_len p xs
none-behind p xs e = omega (arith, position_or_len-le p xs, position-None_is p xs (sym e))

pub ends-dropped : (t : Target) (is : List Instr) → drop (position_or_len (does is_terminator t) is) is ≡ ends_of t is
ends-dropped t [] = refl
ends-dropped t (i ∷ is) = go (does is_terminator t i) (ends-dropped t is)
  where
    go : (u : Bool) → drop (position_or_len (does is_terminator t) is) is ≡ ends_of t is → drop (cond (not u) (1 + position_or_len (does is_terminator t) is) 0) (i ∷ is) ≡ cond u (i ∷ is) (ends_of t is)
    go true h = refl
    go false h = ap (λ n. drop n (i ∷ is)) (one-add (position_or_len (does is_terminator t) is)) ∙ h
