-- A function whose classes are tested fits the target, and then what the verifier accepts is valid.
use Rattle.std.proofs.Common.{◌≡◌, ◌≤◌, ℕ, zero, suc, true, List, [], ◌∷◌, Option, Some, None, length, refl, sym, ap, ◌∙◌, lt-ltb, ltb-true}
use Rattle.std.specs.Prelude.{slice_get}
use Rattle.std.specs.List.{list_all}
use Rattle.target_base.specs.declared.types.ClassId.{ClassId}
use Rattle.target_base.specs.declared.types.Target.{Target}
use Rattle.target_base.specs.Registers.{IsClass}
use Rattle.mir_func.specs.Value.{Function}
use Rattle.mir_meaning.specs.declared.Form.{Form}
use Rattle.mir_meaning.specs.Valid.{Fault, FirstFault, IsValid}
use Rattle.mir_meaning.specs.Valid as firsts
use Rattle.machine_verify.specs.Lives.{FitsTarget}
use Rattle.machine_verify.specs.Verdict.{IsAccepted, IsFault, of_shape, of_liveness}
use Rattle.std.proofs.lemmas.Bool.{and_from}
use Rattle.laws.proofs.Following.{both-true}
use Rattle.alloc_check.specs.Fitting.{is_class}

class_in : (t : Target) (q : Option ClassId) (c : ClassId) → is_class t q ≡ true → q ≡ Some c → IsClass t c
class_in t q c e g = ltb-true c.0 (length t.classes) (sym (ap (is_class t) g) ∙ e)

in_all : (t : Target) (cs : List (Option ClassId)) (v : ℕ) (c : ClassId) → list_all (is_class t) cs ≡ true → elim (slice_get cs v) [ None ↦ None | Some q ↦ q ] ≡ Some c → IsClass t c
in_all t [] v c e g = absurd (cc)
in_all t (q ∷ cs) zero c e g = class_in t q c (both-true (is_class t q) (list_all (is_class t) cs) e).0 g
in_all t (q ∷ cs) (suc v) c e g = in_all t cs v c (both-true (is_class t q) (list_all (is_class t) cs) e).1 g

pub fits_of : (t : Target) (f : Function) → length f.classes ≤ 4294967296 → list_all (is_class t) f.classes ≡ true → FitsTarget t f
fits_of t f few all = record { classes = λ v c e. in_all t f.classes v c all e; few = few }

pub valid_of : (t : Target) (form : Form) (f : Function) → FitsTarget t f → IsAccepted t form f → IsValid t form f
valid_of t form f fits accepted = accepted.valid fits

-- and the other way
is-class : (t : Target) (q : Option ClassId) → ((c : ClassId) → q ≡ Some c → IsClass t c) → is_class t q ≡ true
is-class t None h = refl
is-class t (Some c) h = lt-ltb c.0 (length t.classes) (h c refl)

all-in : (t : Target) (cs : List (Option ClassId)) → ((v : ℕ) (c : ClassId) → elim (slice_get cs v) as (λ o. Option ClassId) [ None ↦ None | Some q ↦ q ] ≡ Some c → IsClass t c) → list_all (is_class t) cs ≡ true
all-in t [] h = refl
all-in t (q ∷ cs) h = and_from (is_class t q) (list_all (is_class t) cs) (is-class t q (λ c e. h zero c e)) (all-in t cs (λ v c e. h (suc v) c e))

pub few_of : (t : Target) (f : Function) → FitsTarget t f → length f.classes ≤ 4294967296
few_of t f fits = fits.few

pub classes_of : (t : Target) (f : Function) → FitsTarget t f → list_all (is_class t) f.classes ≡ true
classes_of t f fits = all-in t f.classes fits.classes

-- a fault that is found is the first
pub first_of : (t : Target) (form : Form) (f : Function) (fault : Fault) → FitsTarget t f → IsFault t form f fault → FirstFault t form f fault
first_of t form f fault fits (of_shape e) = firsts.of_shape e
first_of t form f fault fits (of_liveness e late h) = firsts.of_liveness e (h fits)
