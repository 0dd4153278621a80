-- Live lanes of the functions.
use Rattle.std.proofs.Common.{◌≡◌, ◌∷◌, ◌++◌, true, false, drop, refl, inr, subst, []}
use Rattle.laws.proofs.Flow.{none_among}
use Rattle.meaning.specs.Code.{BlockStart, Code, Item}
use Rattle.target_base.specs.Mini.{mini_target}
use Rattle.meaning.specs.Live.{Among, Live, LiveAfter, after_leap, after_next, after_phi, exits_of, here, there}
use Rattle.meaning.specs.declared.types.Fill.TheVariants.{Moved}
use Rattle.meaning.specs.declared.types.Source.TheVariants.{Undef}
use Rattle.meaning.specs.declared.types.Lane.TheVariants.{UnitLane, VirtualLane}
use Rattle.mir_meaning.specs.Items.{write}
use Rattle.meaning.specs.declared.types.Lane.{Lane}
use Rattle.mir_meaning.specs.Codes.{item_of}
use Rattle.mir_meaning.specs.Points.{point_item, points_of}
use Rattle.mir_meaning.specs.Registers.{is_reserved}
use Rattle.worked_examples.proofs.MachineCodeLemmas.Decided.{decided}
use Rattle.worked_examples.specs.MachineCode.Functions.{begins, call_in_loop, idle_loop, swap, tied_add, two_lanes}
use Rattle.worked_examples.specs.MachineCode.Liveness.{CallInLoopLives, DeadFlags, IdleLoopLives, SwapLives, TwoLanesLive, UndefBegins, eax_units, three}
use Rattle.worked_examples.specs.MachineCode.Sample.{as_undef}

pub idle : IdleLoopLives
unfolding mini_target points_of point_item item_of
idle =
    let at = decided (is_reserved mini_target) (points_of mini_target idle_loop) 6 in
    (at 1 [] refl refl refl, at 4 [] refl refl refl, at 5 [] refl refl refl)

pub swaps : SwapLives
unfolding mini_target points_of point_item item_of
swaps =
    let at = decided (is_reserved mini_target) (points_of mini_target swap) 5 in (
      at 2 (three 0 ++ (UnitLane 3 ∷ UnitLane 4 ∷ UnitLane 5 ∷ [])) refl refl refl,
      at 5 [] refl refl refl,
      at 6 (three 2) refl refl refl,
      at 7 (three 2 ++ three 3) refl refl refl,
      at 8 (three 2 ++ three 3) refl refl refl,
    )

pub lanes : TwoLanesLive
unfolding mini_target points_of point_item item_of
lanes =
    let at = decided (is_reserved mini_target) (points_of mini_target two_lanes) 5 in (
      at 1 (UnitLane 0 ∷ UnitLane 1 ∷ []) refl refl refl,
      at 2 (VirtualLane 0 0 ∷ UnitLane 1 ∷ []) refl refl refl,
      at 3 (VirtualLane 0 0 ∷ VirtualLane 1 0 ∷ []) refl refl refl,
      at 4 (VirtualLane 2 0 ∷ []) refl refl refl,
    )

pub loop : CallInLoopLives
unfolding mini_target points_of point_item item_of
loop =
    let at = decided (is_reserved mini_target) (points_of mini_target call_in_loop) 5 in (
      at 4 (three 0) refl refl refl,
      at 5 (three 0 ++ eax_units) refl refl refl,
      at 7 (three 0 ++ (UnitLane 12 ∷ [])) refl refl refl,
      at 10 (three 0) refl refl refl,
    )

pub undef_begins : UndefBegins
unfolding mini_target points_of point_item item_of
undef_begins = (
  decided (is_reserved mini_target) (points_of mini_target (begins as_undef)) 4 1 [] refl refl refl,
  decided (is_reserved mini_target) (points_of mini_target (begins (λ o. o))) 4 1 (VirtualLane 0 1 ∷ VirtualLane 0 2 ∷ []) refl refl refl,
  decided (is_reserved mini_target) (points_of mini_target (begins as_undef)) 4 2 (three 0) refl refl refl,
)

flags_are_dead : (i : Item) (p : Code) (l : Lane) → exits_of i ≡ [] → (Live (is_reserved mini_target) (points_of mini_target tied_add) p l → ⊥) → LiveAfter (is_reserved mini_target) (points_of mini_target tied_add) i p l → ⊥
flags_are_dead i p l e not_live (after_next o h) = not_live h
flags_are_dead i p l e not_live (after_leap {e = w} x h f) = none_among w (subst (Among w) e x)
flags_are_dead i p l e not_live (after_phi {e = w} x y f) = none_among w (subst (Among w) e x)

after_add : Live (is_reserved mini_target) (points_of mini_target tied_add) (drop 3 (points_of mini_target tied_add)) (UnitLane 12) → ⊥
unfolding mini_target points_of point_item item_of
after_add h =
    let x : false ≡ true = (decided (is_reserved mini_target) (points_of mini_target tied_add) 4 3 (three 1) refl refl refl (UnitLane 12)).1 h in
    absurd (cc)

pub dead : DeadFlags
unfolding mini_target points_of point_item item_of
dead = (
  (inr (write false (UnitLane 12) (Moved Undef), there (there (there here)), refl), refl),
  (λ h. flags_are_dead (first_item (drop 2 (points_of mini_target tied_add))) (drop 3 (points_of mini_target tied_add)) (UnitLane 12) refl after_add h),
)
  where
    first_item : Code → Item
    first_item [] = BlockStart 0
    first_item (i ∷ p) = i
