-- A counted instruction in the course of a run.
use Rattle.std.proofs.Common.{◌≡◌, ℕ, List, [], ◌∷◌, ◌++◌, map, refl, sym, ap, ◌∙◌, subst, drop, append_assoc}
use Rattle.std.specs.Prelude.{Option, Result}
use Rattle.meaning.specs.Environment.{Environment, Value}
use Rattle.meaning.specs.State.{State, written, values}
use Rattle.meaning.specs.Lanes.{Writes, Reads}
use Rattle.meaning.specs.declared.types.Rest.{Rest}
use Rattle.meaning.specs.Perform.{perform}
use Rattle.meaning.specs.Perform as meaning
use Rattle.meaning.specs.Code.{Edge, Counted, Code, Goes, Run, walk, extended, continued, entered, target_place}
use Rattle.mir_interp.specs.declared.types.Event.{Event}
use Rattle.mir_interp.specs.declared.types.End.{End}
use Rattle.mir_interp.specs.declared.perform.Control.{Control}
use Rattle.mir_interp.specs.declared.machine.Machine.{Machine}
use Rattle.mir_interp.specs.Holds.{held_by}
use Rattle.mir_interp.specs.Stands.{event_of}
use Rattle.mir_interp.specs.Kinds.{control_of, Did}
use Rattle.mir_interp.specs.Running.{Continues, Stepped, onward}

pub continues_further : (a b c : List Event) (x y z : Run) → Continues a x b y → Continues b y c z → Continues a x c z
continues_further a b c x y z p q = record { events = p.events ∙ q.events; end = p.end ∙ q.end }

pub continues_still : (a : List Event) (x y : Run) → x ≡ y → Continues a x a y
continues_still a x y e = record { events = ap (λ r. map event_of a ++ r.events) e; end = ap (λ r. r.end) e }

did_continues : (old new : List Event) (d : meaning.Performed) (y : Run) → map event_of new ≡ map event_of old ++ d.events → Continues old (extended d y) new y
did_continues old new d y e = record {
  events = sym (append_assoc (map event_of old) d.events y.events) ∙ ap (λ t. t ++ y.events) (sym e);
  end = refl;
}

pub stepped : (env : Environment) (code p : Code) (next : Goes) (at : ℕ) (old : Machine) (r : Result ℕ End) (new : Machine) (o : meaning.Outside) (rest : Rest) (reads : Reads) (ws : Writes) (target : Option Edge) (pr : List Value × Control) (after : State) → drop at code ≡ (Counted rest reads ws target [] ∷ p) → Did env pr new.outside old.events new.events (perform rest env o (values env (held_by old.store) reads)) → after ≡ written env pr.0 ws (held_by old.store) → ((o' : meaning.Outside) → continued (control_of pr.1) (next p after o') (next (target_place code target) (entered env target after) o') ≡ onward code next r (held_by new.store) o') → Stepped env code next at old r new o
stepped env code p next at old r new o rest reads ws target pr after here did state goes =
    let d = perform rest env o (values env (held_by old.store) reads) in
    let same : written env d.results ws (held_by old.store) ≡ after = ap (λ rs. written env rs ws (held_by old.store)) (sym did.results) ∙ sym state in
    let whole : walk env code next (drop at code) (held_by old.store) o ≡ extended d (onward code next r (held_by new.store) d.outside) =
    ap (λ q. walk env code next q (held_by old.store) o) here
    ∙ ap (extended d) (
    ap (λ s. continued d.control (next p s d.outside) (next (target_place code target) (entered env target s) d.outside)) same
    ∙ (ap (λ k. continued k (next p after d.outside) (next (target_place code target) (entered env target after) d.outside)) (sym did.control)
    ∙ goes d.outside)
    )
    in
    record {
      outside = d.outside;
      remembers = did.outside;
      continues = subst (λ w. Continues old.events w new.events (onward code next r (held_by new.store) d.outside)) (sym whole) (did_continues old.events new.events d (onward code next r (held_by new.store) d.outside) did.events);
    }
