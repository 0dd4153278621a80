-- A spill over a call is in step; so is a code with itself, from any start.
-- what a list names has its home
use Rattle.std.proofs.Common.{◌≡◌, ◌∷◌, ⊎_elim, ℕ, true, false, cond, List, None, refl, subst, inl, inr, length, nat_lt, []}
use Rattle.std.specs.Prelude.{nat_eq, pos}
use Rattle.meaning.specs.Code.{BlockEnd, Code, Item}
use Rattle.meaning.specs.InStep.{Graph, Holds, InStep, StartsAlike, done, place, start}
use Rattle.meaning.specs.Lanes.{Homes, Writes, same_lane}
use Rattle.meaning.specs.Live.{Live, here, next, read}
use Rattle.meaning.specs.Perform.{perform}
use Rattle.meaning.specs.Relations.{Rel, after_both, after_first, after_second}
use Rattle.meaning.specs.declared.types.Constant.{Constant}
use Rattle.meaning.specs.declared.types.Lane.{Lane}
use Rattle.meaning.specs.declared.types.Lane.TheVariants.{UnitLane, VirtualLane}
use Rattle.meaning.specs.declared.types.Row.TheVariants.{BothCounted, BothEnd, FirstSilent, SecondSilent}
use Rattle.meaning.specs.declared.types.Source.TheVariants.{Bits, FromLane, Undef}
use Rattle.laws.proofs.Agreement.{agreement_refines}
use Rattle.laws.proofs.Flow.{none_among}
use Rattle.laws.proofs.Least.{Ends, behind, whole}
use Rattle.laws.proofs.Places.{law_of_places}
use Rattle.laws.proofs.Quiet.{same_or_not}
use Rattle.laws.proofs.Tables.{live-listed, or-true}
use Rattle.laws.specs.Tables.{LiveTable, code_listed, lists}
use Rattle.worked_examples.proofs.CodeLemmas.Folds.{lost, lost_eax}
use Rattle.worked_examples.specs.Code.Codes.{allocated_loop, clobbering, family, over_call, reads_eax, slot, spilled, unreserved, with_phi}
use Rattle.worked_examples.specs.Code.Premises.{AgreesOverALoop, FineMatters, SpillsInStep, StepsFromAnotherStart, at_home}
use Rattle.worked_examples.specs.Code.Refuted.{DoesNotRefine}
use Rattle.worked_examples.specs.Code.Samples.{from, move, nothing, op, reg, ret, write}
use Rattle.target_base.specs.declared.types.Effect.TheVariants as effects

abbrev AllHome : Homes → List Lane → Rel → Type 0
AllHome h [] R = Unit {0}
AllHome h (a ∷ bs) R = R (FromLane a) (h a) × AllHome h bs R

listed-home : (h : Homes) (bs : List Lane) (R : Rel) (l : Lane) → AllHome h bs R → lists bs l ≡ true → R (FromLane l) (h l)
listed-home h [] R l k e = absurd (cc)
listed-home h (a ∷ bs) R l k e = ⊎_elim (λ g. subst (λ x. R (FromLane x) (h x)) g k.0) (λ g. listed-home h bs R l k.1 (or-true (same_lane a l) (lists bs l) e g)) (same_or_not a l)

module _ (code : Code) (table : LiveTable) (tested : code_listed unreserved code table code ≡ true) where
  holds : (h : Homes) (p : Code) (R : Rel) → Ends code p → R Undef Undef → ((c : Constant) (low width : ℕ) → R (Bits c low width) (Bits c low width)) → AllHome h (table (length p)) R → Holds unreserved code h p R
  holds h p R e u b k (FromLane l) (inl live) = listed-home h (table (length p)) R l k (live-listed unreserved code table tested live e)
  holds h p R e u b k (FromLane l) (inr r) = let x : false ≡ true = r in absurd (cc)
  holds h p R e u b k Undef x = u
  holds h p R e u b k (Bits c low width) x = b c low width

-- over the call the register lives in the slot, before it and behind it in itself
abbrev in_slot : Homes
in_slot (VirtualLane v k) = FromLane slot
in_slot l = FromLane l

abbrev call_table : LiveTable
call_table n = cond (nat_eq n 5) (UnitLane 0 ∷ []) (cond (nat_eq n 4) (UnitLane 0 ∷ []) (cond (nat_eq n 3) (reg 0 ∷ []) (cond (nat_eq n 2) (reg 0 ∷ []) [])))

abbrev c : Code
c = over_call.code

abbrev from_eax : Item
from_eax = move (reg 0) (FromLane (UnitLane 0))

abbrev ret_item : Item
ret_item = ret (from (reg 0) ∷ [])

abbrev p1 : Code
p1 = clobbering ∷ ret_item ∷ BlockEnd None [] ∷ []

abbrev p2 : Code
p2 = ret_item ∷ BlockEnd None [] ∷ []

abbrev p3 : Code
p3 = BlockEnd None [] ∷ []

abbrev clobbers : Writes
clobbers = write (UnitLane 0) Undef ∷ write (UnitLane 3) Undef ∷ []

-- what is known behind each place
abbrev store_rel : Rel
store_rel = after_second (write slot (FromLane (UnitLane 0)) ∷ []) (after_first (write (reg 0) (FromLane (UnitLane 0)) ∷ []) (Graph unreserved c at_home (from_eax ∷ p1)))

abbrev call_rel : Rel
call_rel = after_both clobbers clobbers (Graph unreserved c in_slot p1)

abbrev ret_rel : Rel
ret_rel = after_both [] [] (after_second (write (UnitLane 3) (FromLane slot) ∷ []) (Graph unreserved c in_slot p2))

abbrev eax_rel : Rel
eax_rel = after_both [] [] (Graph unreserved reads_eax at_home (ret (from (UnitLane 0) ∷ []) ∷ p3))

live_end : Live unreserved c p2 (reg 0)
live_end = read here here refl

live_call : Live unreserved c p1 (reg 0)
live_call = next refl live_end refl refl

live_eax : Live unreserved c (from_eax ∷ p1) (UnitLane 0)
live_eax = next refl live_call refl refl

end_step : InStep unreserved c (λ n. at_home) at_home p3 p3
end_step = place {h' = at_home} (BothEnd None [] ∷ []) ((λ e x. absurd (none_among e x)), (λ s k. tt)) done

ret_step : InStep unreserved c (λ n. at_home) in_slot p2 (move (UnitLane 3) (FromLane slot) ∷ ret (from (UnitLane 3) ∷ []) ∷ p3)
ret_step =
    place (SecondSilent [] (write (UnitLane 3) (FromLane slot) ∷ []) ∷ BothCounted (op effects.Ret [] [] (pos 0)) (from (reg 0) ∷ []) (from (UnitLane 3) ∷ []) [] [] None [] ∷ []) (
      (((inl live_end, refl), tt), tt),
      tt,
      (λ e x. absurd (none_among e x)),
      holds c call_table refl at_home p3 ret_rel (behind (behind (behind (behind whole)))) (tt, refl) (λ n low width. (tt, refl)) tt,
    )
    end_step

call_step : InStep unreserved c (λ n. at_home) in_slot p1 (clobbering ∷ move (UnitLane 3) (FromLane slot) ∷ ret (from (UnitLane 3) ∷ []) ∷ p3)
call_step =
    place (BothCounted (op effects.Call [] [] (pos 0)) [] [] (write (UnitLane 0) Undef ∷ write (UnitLane 3) Undef ∷ []) (write (UnitLane 0) Undef ∷ write (UnitLane 3) Undef ∷ []) None [] ∷ []) (
      tt,
      tt,
      (λ e x. absurd (none_among e x)),
      holds c call_table refl in_slot p2 call_rel (behind (behind (behind whole))) (tt, refl) (λ n low width. (tt, refl)) ((inl live_call, refl), tt),
    )
    ret_step

store_step : InStep unreserved c (λ n. at_home) at_home c spilled.code
store_step =
    start (λ l k. refl) (
    place (FirstSilent [] (write (reg 0) (FromLane (UnitLane 0)) ∷ []) ∷ SecondSilent [] (write slot (FromLane (UnitLane 0)) ∷ []) ∷ [])
    (holds c call_table refl in_slot p1 store_rel (behind (behind whole)) (tt, refl) (λ n low width. (tt, refl)) ((inl live_eax, refl), tt))
    call_step
    )

starts_alike : StartsAlike unreserved at_home over_call spilled
starts_alike env l k = refl

pub spills : SpillsInStep
spills = ((refl, tt), starts_alike, store_step, law_of_places unreserved over_call spilled (λ n. at_home) at_home (refl, tt) starts_alike store_step)

eax_step : InStep unreserved reads_eax (λ n. at_home) at_home reads_eax reads_eax
eax_step =
    start (λ l k. refl) (
    place (BothCounted (op effects.Ret [] [] (pos 0)) (from (UnitLane 0) ∷ []) (from (UnitLane 0) ∷ []) [] [] None [] ∷ []) (
      (((inl (read here here refl), refl), tt), tt),
      tt,
      (λ e x. absurd (none_among e x)),
      holds reads_eax (λ n. cond (nat_lt n 2) [] (UnitLane 0 ∷ [])) refl at_home p3 eax_rel (behind (behind whole)) (tt, refl) (λ n low width. (tt, refl)) tt,
    )
    (place {h' = at_home} (BothEnd None [] ∷ []) ((λ e x. absurd (none_among e x)), (λ s k. tt)) done)
    )

pub another_start : StepsFromAnotherStart
another_start = ((refl, tt), eax_step, lost_eax)

-- agreement over a loop
lost_answer : DoesNotRefine with_phi (allocated_loop 16)
unfolding perform
lost_answer r = lost 0 (r nothing 9 ((λ e. absurd (cc)), refl)).events.1.1.0.0

pub over_a_loop : AgreesOverALoop
over_a_loop = (refl, agreement_refines with_phi (allocated_loop 8) family refl, refl, lost_answer)

pub fine_matters : FineMatters
unfolding perform
fine_matters h = let e = h.control in absurd (cc)
