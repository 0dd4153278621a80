-- Splits one after the other keep the meaning.
use Rattle.std.proofs.Common.{ℕ, List, [], ◌∷◌, sym, subst}
use Rattle.target_base.specs.declared.types.Target.{Target}
use Rattle.mir_func.specs.Value.{Function}
use Rattle.mir_meaning.specs.Codes.{meaning_of, refines}
use Rattle.laws.proofs.Refines.{refines_refl, refines_trans}
use Rattle.live_lanes.specs.declared.ask.labels.Mark.{Mark}
use Rattle.two_address.specs.Lowered.{lowered}
use Rattle.lowering_laws.specs.Shapes.{IsLowered}
use Rattle.lowering_laws.proofs.Both.{lowered_refine}
use Rattle.lowering_laws.proofs.LoweredRules.{lowered_is_splittable}
use Rattle.split_laws.specs.Laws.{LoweredSplitsRefine, SplitInTurn, SplitsRefine}
use Rattle.split_laws.proofs.Kept.{split_keeps_lowered}
use Rattle.split_laws.proofs.Splitting.{split_refines}

in-turn : (t : Target) (g : Function) (splits : List (ℕ × List Mark)) (f : Function) → IsLowered t f → SplitInTurn t f splits g → refines t f g × IsLowered t g
in-turn t g [] f low e = (subst (refines t f) (sym e) (refines_refl (meaning_of t f)), subst (IsLowered t) (sym e) low)
in-turn t g (s ∷ splits) f low z =
    let on = in-turn t g splits z.0 (split_keeps_lowered t f z.0 s.0 s.1 low z.1 z.2) z.3 in
    (refines_trans (meaning_of t f) (meaning_of t z.0) (meaning_of t g) (split_refines t f z.0 s.0 s.1 low z.1 z.2) on.0, on.1)

pub splits_refine : SplitsRefine
splits_refine t f g splits low z = in-turn t g splits f low z

pub lowered_splits_refine : LoweredSplitsRefine
lowered_splits_refine t f g splits valid classes some z =
    refines_trans (meaning_of t f) (meaning_of t (lowered t f)) (meaning_of t g) (lowered_refine t f valid classes) (splits_refine t (lowered t f) g splits (lowered_is_splittable t f valid classes some) z).0
