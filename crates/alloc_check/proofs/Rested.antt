-- Tests that are put together.
use Rattle.std.proofs.Common.{◌≡◌, ◌∷◌, ◌∙◌, ◌&&◌, ℕ, suc, Bool, true, false, cond, List, [], Some, None, length, refl, sym, ap}
use Rattle.std.proofs.lemmas.Bool.{and_from, eq-eqb}
use Rattle.std.specs.Bool.{beq}
use Rattle.std.specs.Ordering.{int_eq}
use Rattle.target_base.specs.Storage.{same_numbers, unit_width}
use Rattle.target_base.specs.Numbers.{unit_number}
use Rattle.target_base.specs.declared.types.Target.{Target}
use Rattle.meaning.specs.declared.types.Rest.{Rest}
use Rattle.meaning.specs.declared.types.Source.{Source}
use Rattle.meaning.specs.declared.types.Source.TheVariants.{FromLane}
use Rattle.meaning.specs.declared.types.Lane.TheVariants.{UnitLane}
use Rattle.meaning.specs.Facts.{known_at_start, known_unit}
use Rattle.meaning.specs.Sameness.{same_effect, same_list, same_rest, same_source}
use Rattle.mir_func.specs.Value.{Function}
use Rattle.mir_meaning.specs.Codes.{is_given, given_of}
use Rattle.laws.proofs.Same.{rest-true}

pub rest_of_tests : (r s : Rest) → same_effect r.effect s.effect ≡ true → same_list same_numbers r.widths s.widths ≡ true → same_numbers r.result s.result ≡ true → int_eq r.immediate s.immediate ≡ true → same_numbers r.symbol s.symbol ≡ true → same_list beq r.needed s.needed ≡ true → r ≡ s
rest_of_tests r s a b c d e n = rest-true r s (and_from _ _ a (and_from _ _ b (and_from _ _ c (and_from _ _ d (and_from _ _ e n)))))

-- a unit that isn't given is Undef
pub unit_free : (t : Target) (f g : Function) (u : ℕ) (s : Source) → is_given t f.blocks u ≡ false → known_at_start (given_of t f) (given_of t g) (FromLane (UnitLane u)) s ≡ true
unit_free t f g u s e = ap (λ b. known_unit (cond b (Some (unit_width t.units (unit_number u))) None) (given_of t g u) u s) e

-- one that only the first function is given has no fact
pub unit_apart : (t : Target) (f g : Function) (u : ℕ) (s : Source) → is_given t f.blocks u ≡ true → is_given t g.blocks u ≡ false → known_at_start (given_of t f) (given_of t g) (FromLane (UnitLane u)) s ≡ false
unit_apart t f g u s e h =
    (λ i. known_unit (cond (e i) (Some (unit_width t.units (unit_number u))) None) (cond (h i) (Some (unit_width t.units (unit_number u))) None) u s)
    ∙ never (same_source (FromLane (UnitLane u)) s)
  where
    never : (b : Bool) → b && false ≡ false
    never true = refl
    never false = refl

pub unit_given :
    (t : Target) (f g : Function) (u : ℕ) (s : Source) → is_given t f.blocks u ≡ true → is_given t g.blocks u ≡ true → known_at_start (given_of t f) (given_of t g) (FromLane (UnitLane u)) s ≡ same_source (FromLane (UnitLane u)) s
unit_given t f g u s e h =
    let w = unit_width t.units (unit_number u) in
    (λ i. known_unit (cond (e i) (Some w) None) (cond (h i) (Some w) None) u s)
    ∙ (ap (λ b. same_source (FromLane (UnitLane u)) s && b) (eq-eqb w w refl) ∙ always (same_source (FromLane (UnitLane u)) s))
  where
    always : (b : Bool) → b && true ≡ b
    always true = refl
    always false = refl

and-left : (a b : Bool) → a ≡ false → a && b ≡ false
and-left a b e = ap (λ x. x && b) e

and-right : (a b : Bool) → b ≡ false → a && b ≡ false
and-right true b e = e
and-right false b e = refl

-- lists of other lengths differ
pub lists-apart : {A : Type 0} (eq : A → A → Bool) (xs ys : List A) → (length xs ≡ length ys → ⊥) → same_list eq xs ys ≡ false
lists-apart eq [] [] h = absurd (h refl)
lists-apart eq [] (y ∷ ys) h = refl
lists-apart eq (x ∷ xs) [] h = refl
lists-apart eq (x ∷ xs) (y ∷ ys) h = and-right (eq x y) (same_list eq xs ys) (lists-apart eq xs ys (λ e. h (ap suc e)))

-- a part that differs
module _ (r s : Rest) where
  abbrev effects : Bool
  effects = same_effect r.effect s.effect

  abbrev widths : Bool
  widths = same_list same_numbers r.widths s.widths

  abbrev results : Bool
  results = same_numbers r.result s.result

  abbrev immediates : Bool
  immediates = int_eq r.immediate s.immediate

  abbrev symbols : Bool
  symbols = same_numbers r.symbol s.symbol

  abbrev needs : Bool
  needs = same_list beq r.needed s.needed

  pub effects-differ : effects ≡ false → same_rest r s ≡ false
  effects-differ e = and-left effects (widths && (results && (immediates && (symbols && needs)))) e

  pub widths-differ : widths ≡ false → same_rest r s ≡ false
  widths-differ e = and-right effects (widths && (results && (immediates && (symbols && needs)))) (and-left widths (results && (immediates && (symbols && needs))) e)

  pub results-differ : results ≡ false → same_rest r s ≡ false
  results-differ e = and-right effects (widths && (results && (immediates && (symbols && needs)))) (and-right widths (results && (immediates && (symbols && needs))) (and-left results (immediates && (symbols && needs)) e))

  immediates-false : immediates && (symbols && needs) ≡ false → same_rest r s ≡ false
  immediates-false e = and-right effects (widths && (results && (immediates && (symbols && needs)))) (and-right widths (results && (immediates && (symbols && needs))) (and-right results (immediates && (symbols && needs)) e))

  pub immediates-differ : immediates ≡ false → same_rest r s ≡ false
  immediates-differ e = immediates-false (and-left immediates (symbols && needs) e)

  pub needs-differ : needs ≡ false → same_rest r s ≡ false
  needs-differ e = immediates-false (and-right immediates (symbols && needs) (and-right symbols needs e))

  -- all but the symbols are alike
  pub symbols-decide : effects ≡ true → widths ≡ true → results ≡ true → immediates ≡ true → needs ≡ true → symbols ≡ same_rest r s
  symbols-decide a b c d e = sym ((λ i. a i && (b i && (c i && (d i && (symbols && e i))))) ∙ alone symbols)
    where
      alone : (x : Bool) → true && (true && (true && (true && (x && true)))) ≡ x
      alone true = refl
      alone false = refl
