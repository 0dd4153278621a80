-- Each law speaks of something, and each premise is needed: pairs of codes that meet all others and don't refine.
use Rattle.std.specs.Prelude.{◌≡◌, pos, Bool, true, false, [], ◌∷◌, Some, None}
use Rattle.target_base.specs.declared.types.Effect.TheVariants as effects
use Rattle.meaning.specs.declared.types.Lane.{Lane}
use Rattle.meaning.specs.declared.types.Source.TheVariants.{FromLane}
use Rattle.meaning.specs.Lanes.{Homes}
use Rattle.meaning.specs.Environment.{Environment}
use Rattle.meaning.specs.Perform.{Outside, perform}
use Rattle.meaning.specs.Code.{Function, start_state}
use Rattle.meaning.specs.Refines.{Refines}
use Rattle.meaning.specs.Live.{Kept}
use Rattle.meaning.specs.Layout.{LaidOut, NoPhis}
use Rattle.meaning.specs.InStep.{StartsAlike, InStep}
use Rattle.meaning.specs.Matched.{Fits}
use Rattle.meaning.specs.Clash.{NoClash, Rewrites}
use Rattle.meaning.specs.Fold.{Folded, Quiet, Folds}
use Rattle.meaning.specs.Agree.{agrees}
use Rattle.laws.specs.Monotone.{PerformedAtLeast}
use Rattle.worked_examples.specs.Code.Samples.{given_all, given_none, function, nothing, op, byte, reg, number}
use Rattle.worked_examples.specs.Code.Refuted.{DoesNotRefine}
use Rattle.worked_examples.specs.Code.Codes.{unreserved, reserves_sp, stays, joins, takes_sp, goes_to_sp, one_to_two, chain, folded_chain, both_read, both_joined, goes_to_al, chain_in_al, both_in_al, reads_sp, reads_another, beside_sp, over_sp, unlisted, phi_read, reads_eax, over_call, spilled, with_phi, allocated_loop, family}

abbrev pub StartsEqual : (Lane → Bool) → (Lane → Lane) → Function → Function → Type 0
StartsEqual reserved m f g = (env : Environment) (l : Lane) → Kept reserved f.code f.code l → start_state env f.given l ≡ start_state env g.given (m l)

abbrev pub Fixes : (Lane → Bool) → (Lane → Lane) → Type 0
Fixes reserved m = (l : Lane) → reserved l ≡ true → m l ≡ l

abbrev pub NothingElse : (Lane → Bool) → (Lane → Lane) → Type 0
NothingElse reserved m = (l : Lane) → reserved (m l) ≡ true → m l ≡ l

-- the fold of a copy, and so both refine each other
abbrev pub FoldsACopy : Type 0
FoldsACopy = Folds unreserved joins chain folded_chain × Refines chain folded_chain × Refines folded_chain chain

-- registers that are both read can't be one
abbrev pub QuietMatters : Type 0
QuietMatters =
    StartsEqual unreserved joins both_read both_joined × LaidOut both_read.code both_read.code × NoPhis both_read.code × Fixes unreserved joins × NothingElse unreserved joins
    × Folded joins both_read.code both_joined.code × DoesNotRefine both_read both_joined

-- a choice of registers: two ranges that never live at once have one unit, and the copy between them goes
abbrev pub RewritesACopy : Type 0
RewritesACopy = Rewrites reserves_sp goes_to_al chain chain_in_al × Refines chain chain_in_al × Refines chain_in_al chain

-- of two ranges that live at once only one can have the unit
abbrev pub ClashMatters : Type 0
ClashMatters =
    Fits reserves_sp goes_to_al both_read both_in_al × Fixes reserves_sp goes_to_al × NothingElse reserves_sp goes_to_al × Folded goes_to_al both_read.code both_in_al.code
    × (NoClash reserves_sp both_read.code goes_to_al both_read.code → ⊥) × DoesNotRefine both_read both_in_al

-- a reserved unit isn't moved
abbrev pub FixesMatters : Type 0
FixesMatters =
    StartsEqual reserves_sp takes_sp reads_sp reads_another × LaidOut reads_sp.code reads_sp.code × NoPhis reads_sp.code × NothingElse reserves_sp takes_sp
    × Quiet reserves_sp reads_sp.code takes_sp reads_sp.code × Folded takes_sp reads_sp.code reads_another.code × DoesNotRefine reads_sp reads_another

-- nothing goes to a reserved unit
abbrev pub OnlyMatters : Type 0
OnlyMatters =
    StartsEqual reserves_sp goes_to_sp beside_sp over_sp × LaidOut beside_sp.code beside_sp.code × NoPhis beside_sp.code × Fixes reserves_sp goes_to_sp
    × Quiet reserves_sp beside_sp.code goes_to_sp beside_sp.code × Folded goes_to_sp beside_sp.code over_sp.code × DoesNotRefine beside_sp over_sp

abbrev pub falls_unlisted : Function
falls_unlisted = function given_none (unlisted (number 5) (number 6) (reg 1))

abbrev pub falls_joined : Function
falls_joined = function given_none (unlisted (number 5) (number 6) (reg 0))

-- a block that is fallen into is a successor
abbrev pub LayoutMatters : Type 0
LayoutMatters =
    StartsEqual unreserved joins falls_unlisted falls_joined × NoPhis falls_unlisted.code × Fixes unreserved joins × NothingElse unreserved joins
    × Quiet unreserved falls_unlisted.code joins falls_unlisted.code × Folded joins falls_unlisted.code falls_joined.code × DoesNotRefine falls_unlisted falls_joined

-- a fold renames no phis
abbrev pub NoPhisMatters : Type 0
NoPhisMatters =
    StartsEqual unreserved one_to_two (phi_read 1) (phi_read 2) × LaidOut (phi_read 1).code (phi_read 1).code × Fixes unreserved one_to_two × NothingElse unreserved one_to_two
    × Quiet unreserved (phi_read 1).code one_to_two (phi_read 1).code × Folded one_to_two (phi_read 1).code (phi_read 2).code × DoesNotRefine (phi_read 1) (phi_read 2)

abbrev pub given_eax : Function
given_eax = function given_all reads_eax

abbrev pub not_given : Function
not_given = function given_none reads_eax

-- what is live at the start starts alike
abbrev pub StartsMatter : Type 0
StartsMatter =
    LaidOut reads_eax reads_eax × NoPhis reads_eax × Fixes unreserved stays × NothingElse unreserved stays
    × Quiet unreserved reads_eax stays reads_eax × Folded stays reads_eax reads_eax × DoesNotRefine given_eax not_given

abbrev pub at_home : Homes
at_home l = FromLane l

-- a register that lives in a slot over a call
abbrev pub SpillsInStep : Type 0
SpillsInStep =
    LaidOut over_call.code over_call.code × StartsAlike unreserved at_home over_call spilled × InStep unreserved over_call.code (λ n. at_home) at_home over_call.code spilled.code
    × Refines over_call spilled

-- codes in step from another start
abbrev pub StepsFromAnotherStart : Type 0
StepsFromAnotherStart = LaidOut reads_eax reads_eax × InStep unreserved reads_eax (λ n. at_home) at_home reads_eax reads_eax × DoesNotRefine given_eax not_given

-- a loop with a phi, and its form with a spill, a reload and a constant made again; with the reload at another width
-- the family doesn't show agreement, and there is no refinement
abbrev pub AgreesOverALoop : Type 0
AgreesOverALoop =
    (agrees with_phi (allocated_loop 8) family ≡ true) × Refines with_phi (allocated_loop 8)
    × (agrees with_phi (allocated_loop 16) family ≡ false) × DoesNotRefine with_phi (allocated_loop 16)

abbrev pub fresh : Outside
fresh = record { bytes = []; calls = 0 }

-- a branch on Undef, and on 0: operations are monotone only where the first is defined
abbrev pub FineMatters : Type 0
FineMatters =
    let r = op effects.Jnz (byte ∷ []) [] (pos 0) in
    PerformedAtLeast (perform r nothing fresh ((None ∷ []) ∷ [])) (perform r nothing fresh ((Some 0 ∷ []) ∷ [])) → ⊥
