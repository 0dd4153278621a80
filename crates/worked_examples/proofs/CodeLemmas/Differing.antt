-- Pairs that don't refine, by one run each.
use Rattle.std.proofs.Common.{◌≡◌, ℕ, zero, suc, true, false, List, [], ◌∷◌, Some, None, refl}
use Rattle.meaning.specs.declared.types.Source.TheVariants.{Undef}
use Rattle.meaning.specs.Perform.{perform, Steps}
use Rattle.meaning.specs.Code.{ended}
use Rattle.meaning.specs.Refines.{Refines}
use Rattle.laws.proofs.Agreement.{agreement_refines}
use Rattle.laws.proofs.Refines.{does-refl}
use Rattle.worked_examples.specs.Code.Samples.{nothing, number, returning, dividing, marking, storing, calling_name, branching}
use Rattle.worked_examples.specs.Code.Refuted.{DoesNotRefine, LanesStay, EventsStay, EndsStay, CountsStay, DivisorsStay, UndefinedAsksNothing}

names_apart : (x y : List ℕ) → x ≡ y → x ≡ 1 ∷ [] → y ≡ 2 ∷ [] → ⊥
names_apart x y e f g = absurd (cc)

numbers_apart : (m n : ℕ) → m ≡ n → m ≡ 0 → n ≡ 1 → ⊥
numbers_apart m n e f g = absurd (cc)

more_defined : Refines (returning Undef) (returning (number 1))
more_defined = agreement_refines (returning Undef) (returning (number 1)) [] refl

other_lane : DoesNotRefine (returning (number 1)) (returning (number 2))
unfolding perform
other_lane r = let d = r nothing 1 ((λ e. absurd (cc)), refl) in let e : Some 2 ≡ Some 1 = d.events.0.0 in absurd (cc)

lost_lane : DoesNotRefine (returning (number 1)) (returning Undef)
unfolding perform
lost_lane r = let d = r nothing 1 ((λ e. absurd (cc)), refl) in let e : None ≡ Some 1 = d.events.0.0 in absurd (cc)

pub lanes : LanesStay
lanes = (other_lane, lost_lane, more_defined)

dropped_event : DoesNotRefine (calling_name (1 ∷ [])) (marking 1)
unfolding perform
dropped_event r = (r nothing 1 ((λ e. absurd (cc)), refl)).events

new_event : DoesNotRefine (marking 1) (calling_name (1 ∷ []))
unfolding perform
new_event r = (r nothing 1 ((λ e. absurd (cc)), refl)).events

other_name : DoesNotRefine (calling_name (1 ∷ [])) (calling_name (2 ∷ []))
unfolding perform
other_name r = names_apart (1 ∷ []) (2 ∷ []) (r nothing 1 ((λ e. absurd (cc)), refl)).events.0.0 refl refl

other_address : DoesNotRefine (storing 0) (storing 1)
unfolding perform
other_address r = numbers_apart 0 1 (r nothing 1 ((λ e. absurd (cc)), refl)).events.0.0 refl refl

pub events : EventsStay
events = (dropped_event, new_event, other_name, other_address)

new_trap : DoesNotRefine (dividing (number 7) (number 2)) (dividing (number 7) (number 0))
unfolding perform
new_trap r = let e = (r nothing 1 ((λ e. absurd (cc)), refl)).end in absurd (cc)

lost_trap : DoesNotRefine (dividing (number 7) (number 0)) (dividing (number 7) (number 2))
unfolding perform
lost_trap r = let e = (r nothing 1 ((λ e. absurd (cc)), refl)).end in absurd (cc)

now_undefined : DoesNotRefine (marking 1) branching
unfolding perform
now_undefined r = let e = (r nothing 1 ((λ e. absurd (cc)), refl)).end in absurd (cc)

pub ends : EndsStay
ends = (new_trap, lost_trap, now_undefined)

fewer : DoesNotRefine (marking 2) (marking 1)
unfolding perform
fewer r = let e = (r nothing 2 ((λ e. absurd (cc)), refl)).end in absurd (cc)

more : DoesNotRefine (marking 1) (marking 2)
unfolding perform
more r = let e = (r nothing 2 ((λ e. absurd (cc)), refl)).end in absurd (cc)

pub counts : CountsStay
counts = (fewer, more)

pub divisors : DivisorsStay
unfolding perform
divisors r = let e : false ≡ true = (r nothing 1 ((λ e. absurd (cc)), refl)).defined.1 in absurd (cc)

undefined_branch : Refines branching (returning (number 1))
unfolding perform
undefined_branch env zero d = does-refl (ended Steps) d
undefined_branch env (suc n) d = absurd (d.0 refl)

undefined_divisor : Refines (dividing (number 7) Undef) (marking 1)
unfolding perform
undefined_divisor env zero d = does-refl (ended Steps) d
undefined_divisor env (suc n) d = let e : false ≡ true = d.1 in absurd (cc)

pub asks_nothing : UndefinedAsksNothing
asks_nothing = (undefined_branch, undefined_divisor)
