-- What the places admit.
use Rattle.std.proofs.Common.{◌≡◌, ◌∷◌, ◌++◌, ℕ, Bool, true, false, List, drop, filter, refl, subst, inl, inr, []}
use Rattle.std.specs.Prelude.{Decides}
use Rattle.target_base.specs.Mini.{mini_target}
use Rattle.laws.proofs.Flow.{none_among}
use Rattle.meaning.specs.Code.{BlockStart, Code, Item}
use Rattle.meaning.specs.Live.{Among, here, there}
use Rattle.meaning.specs.declared.types.Lane.{Lane}
use Rattle.meaning.specs.declared.types.Lane.TheVariants.{UnitLane}
use Rattle.mir_meaning.specs.Codes.{item_of}
use Rattle.mir_meaning.specs.Places.{Admits, AtEntry, AtExit, reaches_back, solutions}
use Rattle.mir_meaning.specs.Points.{Entry, Exit, OccupiedAt, Point, Tests, point_item, points_of}
use Rattle.mir_meaning.specs.Registers.{is_reserved}
use Rattle.worked_examples.proofs.MachineCodeLemmas.Decided.{decided}
use Rattle.worked_examples.proofs.MachineCodeLemmas.Faults.{same_tests}
use Rattle.worked_examples.proofs.MachineCodeLemmas.Occupied.{occupied_after, occupied_after_test, occupied_before, occupied_before_test}
use Rattle.worked_examples.specs.MachineCode.Choices.{FirstChoices, NothingServes, chosen_function, chosen_place, first_choice}
use Rattle.worked_examples.specs.MachineCode.Liveness.{three}

pub nothing_serves : NothingServes
unfolding mini_target solutions
nothing_serves h =
    let x : false ≡ true = h.3 in
    absurd (cc)

abbrev reserved : Lane → Bool
reserved = is_reserved mini_target

abbrev code : Code
code = points_of mini_target chosen_function

abbrev first_item : Code → Item
first_item [] = BlockStart 0
first_item (i ∷ p) = i

abbrev item : Item
item = first_item (drop 4 code)

abbrev used : List Lane
used = three 0 ++ (three 1 ++ three 2)

abbrev entry_test : ℕ → Bool
entry_test u = occupied_before_test reserved code item (drop 5 code) used (UnitLane u)

abbrev exit_test : ℕ → Bool
exit_test u = occupied_after_test reserved code item (drop 5 code) [] (UnitLane u)

at_entry : (u : ℕ) → Decides (entry_test u) (OccupiedAt mini_target chosen_function (Entry 3) (UnitLane u))
unfolding mini_target points_of point_item item_of
at_entry u = occupied_before reserved code item (drop 5 code) used (UnitLane u) (decided reserved code 5 4 used refl refl refl (UnitLane u))

at_exit : (u : ℕ) → Decides (exit_test u) (OccupiedAt mini_target chosen_function (Exit 3) (UnitLane u))
unfolding mini_target points_of point_item item_of
at_exit u = occupied_after reserved code item (drop 5 code) refl refl [] (UnitLane u) (decided reserved code 5 5 [] refl refl refl (UnitLane u))

-- the only point of a list
only : (q p : Point) → Among q (p ∷ []) → q ≡ p
only q p here = refl
only q p (there a) = absurd (none_among q a)

entry_units : Tests (AtEntry mini_target chosen_function chosen_place) entry_test
entry_units u = ((λ e. inl (Entry 3, here, (at_entry u).0 e)), back)
  where
    back : AtEntry mini_target chosen_function chosen_place u → entry_test u ≡ true
    back (inl h) = (at_entry u).1 (subst (λ q. OccupiedAt mini_target chosen_function q (UnitLane u)) (only h.0 (Entry 3) h.1) h.2)
    back (inr h) = absurd (none_among h.0 h.1)

exit_units : Tests (AtExit mini_target chosen_function chosen_place) exit_test
exit_units u =
    ((λ e. (Exit 3, here, (at_exit u).0 e)), (λ h. (at_exit u).1 (subst (λ q. OccupiedAt mini_target chosen_function q (UnitLane u)) (only h.0 (Exit 3) h.1) h.2)))

all_choices : first_choice (solutions mini_target entry_test exit_test chosen_place.variables) ≡ 0 ∷ 2 ∷ 0 ∷ 1 ∷ []
unfolding mini_target points_of point_item item_of solutions
all_choices = refl

use_choices : first_choice (solutions mini_target entry_test exit_test (filter (λ v. reaches_back v.kind) chosen_place.variables)) ≡ 2 ∷ 0 ∷ 1 ∷ []
unfolding mini_target points_of point_item item_of solutions
use_choices = refl

admits : Admits mini_target chosen_function chosen_place
unfolding mini_target points_of point_item item_of solutions
admits = (entry_test, exit_test, (entry_units, exit_units), refl)

pub first_choices : FirstChoices
first_choices = (
  admits,
  (λ entry exit h. subst (λ e. first_choice (solutions mini_target e exit chosen_place.variables) ≡ 0 ∷ 2 ∷ 0 ∷ 1 ∷ []) (same_tests entry_test entry entry_units h.0) (subst (λ x. first_choice (solutions mini_target entry_test x chosen_place.variables) ≡ 0 ∷ 2 ∷ 0 ∷ 1 ∷ []) (same_tests exit_test exit exit_units h.1) all_choices)),
  (λ entry exit h. subst (λ e. first_choice (solutions mini_target e exit (filter (λ v. reaches_back v.kind) chosen_place.variables)) ≡ 2 ∷ 0 ∷ 1 ∷ []) (same_tests entry_test entry entry_units h.0) (subst (λ x. first_choice (solutions mini_target entry_test x (filter (λ v. reaches_back v.kind) chosen_place.variables)) ≡ 2 ∷ 0 ∷ 1 ∷ []) (same_tests exit_test exit exit_units h.1) use_choices)),
)
