-- Refinement is a preorder, and equal runs refine both ways.
use Rattle.std.proofs.Common.{◌∷◌, ◌∙◌, List, Some, None, refl, []}
use Rattle.meaning.specs.Code.{Function, Run, run}
use Rattle.meaning.specs.Environment.{Value}
use Rattle.meaning.specs.Perform.{CallEvent, Event, OpaqueEvent, ReturnEvent, StoreEvent}
use Rattle.meaning.specs.Refines.{AllAtLeast, AtLeast, Does, IsDefined, Refines, SameEvent, SameEvents}
use Rattle.laws.specs.Preorder.{RefinementComposes}

value-trans : (u v w : Value) → AtLeast u v → AtLeast v w → AtLeast u w
value-trans None v w a b = tt
value-trans (Some n) None w a b = absurd (cc)
value-trans (Some n) (Some m) w a b = cc

values-trans : (us vs ws : List Value) → AllAtLeast us vs → AllAtLeast vs ws → AllAtLeast us ws
values-trans [] [] ws a b = b
values-trans [] (v ∷ vs) ws a b = absurd a
values-trans (u ∷ us) [] ws a b = absurd a
values-trans (u ∷ us) (v ∷ vs) [] a b = absurd b
values-trans (u ∷ us) (v ∷ vs) (w ∷ ws) a b = (value-trans u v w a.0 b.0, values-trans us vs ws a.1 b.1)

value-refl : (v : Value) → AtLeast v v
value-refl None = tt
value-refl (Some n) = refl

values-refl : (vs : List Value) → AllAtLeast vs vs
values-refl [] = tt
values-refl (v ∷ vs) = (value-refl v, values-refl vs)

event-trans : (e f g : Event) → SameEvent e f → SameEvent f g → SameEvent e g
event-trans (CallEvent a us) (CallEvent b vs) (CallEvent c ws) h k = (h.0 ∙ k.0, values-trans us vs ws h.1 k.1)
event-trans (CallEvent a us) (CallEvent b vs) (StoreEvent c ws) h k = absurd k
event-trans (CallEvent a us) (CallEvent b vs) (ReturnEvent ws) h k = absurd k
event-trans (CallEvent a us) (CallEvent b vs) (OpaqueEvent c ws) h k = absurd k
event-trans (CallEvent a us) (StoreEvent b vs) g h k = absurd h
event-trans (CallEvent a us) (ReturnEvent vs) g h k = absurd h
event-trans (CallEvent a us) (OpaqueEvent b vs) g h k = absurd h
event-trans (StoreEvent a us) (CallEvent b vs) g h k = absurd h
event-trans (StoreEvent a us) (StoreEvent b vs) (CallEvent c ws) h k = absurd k
event-trans (StoreEvent a us) (StoreEvent b vs) (StoreEvent c ws) h k = (h.0 ∙ k.0, values-trans us vs ws h.1 k.1)
event-trans (StoreEvent a us) (StoreEvent b vs) (ReturnEvent ws) h k = absurd k
event-trans (StoreEvent a us) (StoreEvent b vs) (OpaqueEvent c ws) h k = absurd k
event-trans (StoreEvent a us) (ReturnEvent vs) g h k = absurd h
event-trans (StoreEvent a us) (OpaqueEvent b vs) g h k = absurd h
event-trans (ReturnEvent us) (CallEvent b vs) g h k = absurd h
event-trans (ReturnEvent us) (StoreEvent b vs) g h k = absurd h
event-trans (ReturnEvent us) (ReturnEvent vs) (CallEvent c ws) h k = absurd k
event-trans (ReturnEvent us) (ReturnEvent vs) (StoreEvent c ws) h k = absurd k
event-trans (ReturnEvent us) (ReturnEvent vs) (ReturnEvent ws) h k = values-trans us vs ws h k
event-trans (ReturnEvent us) (ReturnEvent vs) (OpaqueEvent c ws) h k = absurd k
event-trans (ReturnEvent us) (OpaqueEvent b vs) g h k = absurd h
event-trans (OpaqueEvent a us) (CallEvent b vs) g h k = absurd h
event-trans (OpaqueEvent a us) (StoreEvent b vs) g h k = absurd h
event-trans (OpaqueEvent a us) (ReturnEvent vs) g h k = absurd h
event-trans (OpaqueEvent a us) (OpaqueEvent b vs) (CallEvent c ws) h k = absurd k
event-trans (OpaqueEvent a us) (OpaqueEvent b vs) (StoreEvent c ws) h k = absurd k
event-trans (OpaqueEvent a us) (OpaqueEvent b vs) (ReturnEvent ws) h k = absurd k
event-trans (OpaqueEvent a us) (OpaqueEvent b vs) (OpaqueEvent c ws) h k = (h.0 ∙ k.0, values-trans us vs ws h.1 k.1)

event-refl : (e : Event) → SameEvent e e
event-refl (CallEvent a us) = (refl, values-refl us)
event-refl (StoreEvent a us) = (refl, values-refl us)
event-refl (ReturnEvent us) = values-refl us
event-refl (OpaqueEvent a us) = (refl, values-refl us)

events-trans : (es fs gs : List Event) → SameEvents es fs → SameEvents fs gs → SameEvents es gs
events-trans [] [] gs a b = b
events-trans [] (f ∷ fs) gs a b = absurd a
events-trans (e ∷ es) [] gs a b = absurd a
events-trans (e ∷ es) (f ∷ fs) [] a b = absurd b
events-trans (e ∷ es) (f ∷ fs) (g ∷ gs) a b = (event-trans e f g a.0 b.0, events-trans es fs gs a.1 b.1)

events-refl : (es : List Event) → SameEvents es es
events-refl [] = tt
events-refl (e ∷ es) = (event-refl e, events-refl es)

does-trans : (r s t : Run) → Does r s → Does s t → Does r t
does-trans r s t a b = record {
  defined = b.defined;
  end = b.end ∙ a.end;
  events = events-trans r.events s.events t.events a.events b.events;
}

pub refines_trans : RefinementComposes
refines_trans f g h a b env n d =
    let x = a env n d in
    does-trans (run f env n) (run g env n) (run h env n) x (b env n x.defined)

pub does-refl : (r : Run) → IsDefined r → Does r r
does-refl r d = record { defined = d; end = refl; events = events-refl r.events }

pub refines_refl : (f : Function) → Refines f f
refines_refl f env n d = does-refl (run f env n) d
