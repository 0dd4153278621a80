-- A way of reading that a search finds among the tinies of a place is the one that the definition finds.
use Rattle.std.proofs.Common.{◌≡◌, ℕ, Bool, true, false, cond, List, [], ◌∷◌, refl, ap}
use Rattle.std.proofs.lemmas.Bool.{eq-eqb}
use Rattle.std.specs.Prelude.{◌&&◌, Some, option_map, find}
use Rattle.mir_func.specs.Binding.{same_index}
use Rattle.mir_meaning.specs.Places.{Variable, same_class, same_use}
use Rattle.spiller.specs.declared.seats.ReadTiny.{ReadTiny}
use Rattle.spiller.specs.declared.roles.IndexedClass.{IndexedClass}
use Rattle.spiller.specs.Views.{way_of, same_way, ways_of, tiny_of_way}

-- uses of one range are one variable where they name it alike
pub one-use : (v : ℕ) (a b : IndexedClass) → same_use (way_of v a) (way_of v b) ≡ same_way a b
one-use v a b = ap (λ w. w && same_index a.index b.index && same_class a.class b.class) (eq-eqb v v refl)

pub way-found : (v : ℕ) (n : IndexedClass) (xs : List ReadTiny) → option_map (λ x. x.range) (find (λ x. same_way n x.indexed_class) xs) ≡ tiny_of_way v n (ways_of v xs)
way-found v n [] = refl
way-found v n (x ∷ xs) = step (same_way n x.indexed_class) (same_use (way_of v n) (way_of v x.indexed_class)) (one-use v n x.indexed_class) (way-found v n xs)
  where
    step : (b c : Bool) → c ≡ b → option_map (λ y. y.range) (find (λ y. same_way n y.indexed_class) xs) ≡ tiny_of_way v n (ways_of v xs) → option_map (λ (y : ReadTiny). y.range) (cond b (Some x) (find (λ y. same_way n y.indexed_class) xs)) ≡ option_map (λ (p : ℕ × Variable). p.0) (cond c (Some (x.range, way_of v x.indexed_class)) (find (λ p. same_use (way_of v n) p.1) (ways_of v xs)))
    step true true e h = refl
    step false false e h = h
    step true false e h = absurd (let z : false ≡ true = e in cc)
    step false true e h = absurd (let z : true ≡ false = e in cc)
