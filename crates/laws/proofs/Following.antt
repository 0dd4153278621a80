-- A run that does what another does, as far as that one is defined.
use Rattle.std.proofs.Common.{◌≡◌, ◌∷◌, ◌++◌, ◌&&◌, ◌∙◌, Bool, true, false, List, refl, sym, ap, subst, []}
use Rattle.meaning.specs.Code.{Run, continued, ended, extended}
use Rattle.meaning.specs.Perform.{Control, Event, Next, Performed, Stop, Taken, Undefined}
use Rattle.meaning.specs.Refines.{Does, IsDefined, SameEvents}
use Rattle.laws.proofs.Refines.{does-refl}
use Rattle.laws.specs.Monotone.{IsFine, PerformedAtLeast}

-- as far as the first run is defined, the second does the same
abbrev pub IfDefined : Run → Run → Type 0
IfDefined r s = IsDefined r → Does r s

pub never : (s : Run) → IfDefined (ended Undefined) s
never s d = absurd (d.0 refl)

pub both-true : (a b : Bool) → a && b ≡ true → (a ≡ true) × (b ≡ true)
both-true true b e = (refl, e)
both-true false b e = absurd (cc)

events-append : (es fs es' fs' : List Event) → SameEvents es fs → SameEvents es' fs' → SameEvents (es ++ es') (fs ++ fs')
events-append [] [] es' fs' h k = k
events-append [] (f ∷ fs) es' fs' h k = absurd h
events-append (e ∷ es) [] es' fs' h k = absurd h
events-append (e ∷ es) (f ∷ fs) es' fs' h k = (h.0, events-append es fs es' fs' h.1 k)

-- what an instruction did, and what comes after it
module _ (d d' : Performed) (leads : IsFine d → PerformedAtLeast d d') where
  continued-does : (w : Control) (a b a' b' : Run) → IfDefined a a' → IfDefined b b' → IfDefined (continued w a b) (continued w a' b')
  continued-does Next a b a' b' h k x = h x
  continued-does Taken a b a' b' h k x = k x
  continued-does (Stop e) a b a' b' h k x = does-refl (ended e) x

  extended-does : (r s : Run) → SameEvents d.events d'.events → d'.divisor_defined ≡ true → IfDefined r s → IfDefined (extended d r) (extended d' s)
  extended-does r s e t h x =
      let y = h (x.0, (both-true d.divisor_defined r.divisors_defined x.1).1) in
      record {
        defined = (y.defined.0, ap (λ b. b && s.divisors_defined) t ∙ y.defined.1);
        end = y.end;
        events = events-append d.events d'.events r.events s.events e y.events;
      }

  fine : (a b : Run) → IsDefined (extended d (continued d.control a b)) → IsFine d
  fine a b x = ((λ e. x.0 (ap (λ w. (continued w a b).end) e)), (both-true d.divisor_defined (continued d.control a b).divisors_defined x.1).0)

  pub extended-does-more : (a b a' b' : Run) → (PerformedAtLeast d d' → IfDefined a a') → (PerformedAtLeast d d' → IfDefined b b') → IfDefined (extended d (continued d.control a b)) (extended d' (continued d'.control a' b'))
  extended-does-more a b a' b' h k x =
      let l = leads (fine a b x) in
      subst (λ w. Does (extended d (continued d.control a b)) (extended d' (continued w a' b'))) (sym l.control) (extended-does (continued d.control a b) (continued d.control a' b') l.events l.divisor_defined (continued-does d.control a b a' b' (h l) (k l)) x)
