-- States that a relation between sources holds of, before and after an instruction.
use Rattle.std.proofs.Common.{◌≡◌, ◌∷◌, ◌∙◌, List, Some, None, refl, subst, map, []}
use Rattle.meaning.specs.Environment.{Environment, Value}
use Rattle.meaning.specs.Lanes.{Reads, Writes, settled, through}
use Rattle.meaning.specs.Perform.{width}
use Rattle.meaning.specs.Refines.{AllAtLeast, AtLeast}
use Rattle.meaning.specs.Relations.{AlikeFill, AlikeOperands, AlikeReads, Rel, Within, after_both, after_first, after_second}
use Rattle.meaning.specs.State.{State, fetch, fill, nth, written}
use Rattle.meaning.specs.declared.types.Fill.{Fill}
use Rattle.meaning.specs.declared.types.Fill.TheVariants.{Computed, Moved}
use Rattle.meaning.specs.declared.types.Source.{Source}
use Rattle.meaning.specs.declared.types.Source.TheVariants.{Bits, FromLane, Undef}
use Rattle.laws.specs.Monotone.{ByPlace, OperandsAtLeast}

-- of sources that are related the second is at least as defined
abbrev pub Agrees : Environment → Rel → State → State → Type 0
Agrees env R state state' = (s t : Source) → R s t → AtLeast (fetch env state s) (fetch env state' t)

settled-fetch : (env : Environment) (state : State) (f : Fill) → fetch env state (settled f) ≡ fill env [] state f
settled-fetch env state (Moved s) = refl
settled-fetch env state (Computed i) = refl

through-fetch : (env : Environment) (results : List Value) (ws : Writes) (state : State) (s : Source) → fill env results state (through ws s) ≡ fetch env (written env results ws state) s
through-fetch env results ws state (FromLane a) = refl
through-fetch env results ws state Undef = refl
through-fetch env results ws state (Bits c low width) = refl

settled-through : (env : Environment) (ws : Writes) (state : State) (s : Source) → fetch env state (settled (through ws s)) ≡ fetch env (written env [] ws state) s
settled-through env ws state s = settled-fetch env state (through ws s) ∙ through-fetch env [] ws state s

none-least : (v u : Value) → AtLeast v None → AtLeast v u
none-least None u h = tt
none-least (Some n) u h = absurd (cc)

module _ (env : Environment) (R : Rel) (state state' : State) (agrees : Agrees env R state state') where
  alike-fill : (results results' : List Value) → ByPlace results results' → (s t : Fill) → AlikeFill R s t → AtLeast (fill env results state s) (fill env results' state' t)
  alike-fill results results' k (Moved s) (Moved t) h = agrees s t h
  alike-fill results results' k (Computed i) (Computed j) h = subst (λ x. AtLeast (nth results i) (nth results' x)) h (k i)
  alike-fill results results' k (Moved s) (Computed j) h = none-least (fetch env state s) (nth results' j) (agrees s Undef h)
  alike-fill results results' k (Computed i) (Moved t) h = absurd h

  pub agrees-first : (ws : Writes) → Agrees env (after_first ws R) (written env [] ws state) state'
  agrees-first ws s t h = subst (λ v. AtLeast v (fetch env state' t)) (settled-through env ws state s) (agrees (settled (through ws s)) t h)

  pub agrees-second : (ws : Writes) → Agrees env (after_second ws R) state (written env [] ws state')
  agrees-second ws s t h = subst (AtLeast (fetch env state s)) (settled-through env ws state' t) (agrees s (settled (through ws t)) h)

  pub agrees-both : (results results' : List Value) → ByPlace results results' → (ws ws' : Writes) → Agrees env (after_both ws ws' R) (written env results ws state) (written env results' ws' state')
  agrees-both results results' k ws ws' s t h =
      let e : AtLeast (fill env results state (through ws s)) (fill env results' state' (through ws' t)) = alike-fill results results' k (through ws s) (through ws' t) h in
      subst (λ v. AtLeast v (fetch env (written env results' ws' state') t)) (through-fetch env results ws state s) (subst (AtLeast (fill env results state (through ws s))) (through-fetch env results' ws' state' t) e)

  alike-values : (ss ts : List Source) → AlikeReads R ss ts → AllAtLeast (map (fetch env state) ss) (map (fetch env state') ts)
  alike-values [] [] h = tt
  alike-values [] (t ∷ ts) h = absurd h
  alike-values (s ∷ ss) [] h = absurd h
  alike-values (s ∷ ss) (t ∷ ts) h = (agrees s t h.0, alike-values ss ts h.1)

  pub alike-operands : (ss ts : Reads) → AlikeOperands R ss ts → OperandsAtLeast (map (λ xs. map (fetch env state) xs) ss) (map (λ xs. map (fetch env state') xs) ts)
  alike-operands [] [] h = tt
  alike-operands [] (t ∷ ts) h = absurd h
  alike-operands (s ∷ ss) [] h = absurd h
  alike-operands (s ∷ ss) (t ∷ ts) h = (alike-values s t h.0, alike-operands ss ts h.1)

pub narrowed : (env : Environment) (R S : Rel) (state state' : State) → Within S R → Agrees env R state state' → Agrees env S state state'
narrowed env R S state state' w agrees s t h = agrees s t (w s t h)
