-- What an interpreter's loop uses: the run goes on by one item.
use Rattle.std.proofs.Common.{◌≡◌, ◌∷◌, ◌++◌, ◌&&◌, ◌∙◌, ℕ, suc, true, List, Option, Some, refl, sym, ap, append_assoc, []}
use Rattle.meaning.specs.Code.{BlockEnd, BlockStart, Code, Counted, Edge, Run, Silent, continued, ended, entered, extended, runs, target_place}
use Rattle.meaning.specs.Environment.{Environment}
use Rattle.meaning.specs.Lanes.{Reads, Writes}
use Rattle.meaning.specs.Perform.{End, Event, Next, Outside, Performed, Stop, Taken, perform}
use Rattle.meaning.specs.State.{State, values, written}
use Rattle.meaning.specs.declared.types.Rest.{Rest}

module _ (env : Environment) (code p : Code) (n : ℕ) (state : State) (o : Outside) where
  pub at-start : (m : ℕ) → runs env code (suc n) (BlockStart m ∷ p) state o ≡ runs env code (suc n) p state o
  at-start m = refl

  pub at-end : (phis : Writes) (exits : List Edge) → runs env code (suc n) (BlockEnd (Some phis) exits ∷ p) state o ≡ runs env code (suc n) p (written env [] phis state) o
  at-end phis exits = refl

  pub at-silent : (reads : Reads) (ws : Writes) → runs env code (suc n) (Silent reads ws ∷ p) state o ≡ runs env code (suc n) p (written env [] ws state) o
  at-silent reads ws = refl

  module _ (r : Rest) (reads : Reads) (ws : Writes) (target : Option Edge) (exits : List Edge) (did : Performed) (e : perform r env o (values env state reads) ≡ did) where
    after : State
    after = written env did.results ws state

    counted : runs env code (suc n) (Counted r reads ws target exits ∷ p) state o ≡ extended did (continued did.control (runs env code n p after did.outside) (runs env code n (target_place code target) (entered env target after) did.outside))
    unfolding after
    counted = ap (λ x. extended x (continued x.control (runs env code n p (written env x.results ws state) x.outside) (runs env code n (target_place code target) (entered env target (written env x.results ws state)) x.outside))) e

    pub at-next : did.control ≡ Next → runs env code (suc n) (Counted r reads ws target exits ∷ p) state o ≡ extended did (runs env code n p (written env did.results ws state) did.outside)
    unfolding after
    at-next w = counted ∙ ap (λ y. extended did (continued y (runs env code n p after did.outside) (runs env code n (target_place code target) (entered env target after) did.outside))) w

    pub at-taken : did.control ≡ Taken → runs env code (suc n) (Counted r reads ws target exits ∷ p) state o ≡ extended did (runs env code n (target_place code target) (entered env target (written env did.results ws state)) did.outside)
    unfolding after
    at-taken w = counted ∙ ap (λ y. extended did (continued y (runs env code n p after did.outside) (runs env code n (target_place code target) (entered env target after) did.outside))) w

    pub at-stop : (end : End) → did.control ≡ Stop end → runs env code (suc n) (Counted r reads ws target exits ∷ p) state o ≡ extended did (ended end)
    unfolding after
    at-stop end w = counted ∙ ap (λ y. extended did (continued y (runs env code n p after did.outside) (runs env code n (target_place code target) (entered env target after) did.outside))) w

-- events so far before a run
abbrev pub before : List Event → Run → Run
before es r = record { events = es ++ r.events; end = r.end; divisors_defined = r.divisors_defined }

pub before-more : (es : List Event) (did : Performed) (r : Run) → did.divisor_defined ≡ true → before es (extended did r) ≡ before (es ++ did.events) r
before-more es did r s =
    (λ i. record { events = sym (append_assoc es did.events r.events) i; end = r.end; divisors_defined = (extended did r).divisors_defined })
    ∙ ap (λ b. record { events = (es ++ did.events) ++ r.events; end = r.end; divisors_defined = b && r.divisors_defined }) s
