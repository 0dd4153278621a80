-- Two codes in step, under any relation between sources of the first and of the second: the second refines the first.
use Rattle.std.proofs.Common.{◌≡◌, ◌∷◌, ◌∙◌, ℕ, zero, suc, Bool, true, false, cond, eqb, List, Option, Some, None, refl, ap, subst, []}
use Rattle.std.proofs.lemmas.Bool.{eqb-true}
use Rattle.meaning.specs.Code.{Function, Goes, ended, entered, found, run, runs, start_state, target_place, walk}
use Rattle.meaning.specs.Environment.{Environment}
use Rattle.meaning.specs.Live.{Among}
use Rattle.meaning.specs.Perform.{Outside, Steps, Undefined, perform}
use Rattle.meaning.specs.Refines.{Refines}
use Rattle.meaning.specs.Relations.{AlikeOperands, Everything, Nothing, Rel, Within, after_both, after_first, after_second, along}
use Rattle.meaning.specs.Rows.{first_of_rows, first_target, found_row, second_of_rows, second_target}
use Rattle.meaning.specs.State.{State, values, written}
use Rattle.meaning.specs.declared.types.Row.{Row}
use Rattle.meaning.specs.declared.types.Row.TheVariants.{BothCounted, BothEnd, BothStart, FirstSilent, SecondSilent}
use Rattle.meaning.specs.declared.types.EdgePair.{EdgePair}
use Rattle.laws.proofs.Agreeing.{Agrees, agrees-both, agrees-first, agrees-second, alike-operands, narrowed}
use Rattle.laws.proofs.Following.{IfDefined, never, extended-does-more}
use Rattle.laws.proofs.Monotone.{monotone}
use Rattle.laws.proofs.Refines.{does-refl}
use Rattle.laws.specs.Monotone.{OutsideAtLeast, PerformedAtLeast}

-- what holds at the start of each block, by its number
abbrev pub Plan : Type 1
Plan = ℕ → Rel

abbrev pub Reaches : Plan → Option EdgePair → Rel → Type 0
Reaches K None R = Unit {0}
Reaches K (Some e) R = Within (K e.block) (along e R)

-- the same along each path from an exit
abbrev pub Exits : Plan → List EdgePair → Rel → Type 0
Exits K exits R = (e : EdgePair) → Among e exits → Within (K e.block) (along e R)

abbrev pub Coupled : Plan → List Row → Rel → Type 0
Coupled K [] R = Unit {0}
Coupled K (BothStart n ∷ rows) R = Within (K n) R × Coupled K rows (K n)
Coupled K (BothEnd (Some e) exits ∷ rows) R = Exits K exits R × Coupled K rows (after_second e.1 (after_first e.0 R))
Coupled K (BothEnd None exits ∷ rows) R = Exits K exits R × Coupled K rows Everything
Coupled K (FirstSilent reads ws ∷ rows) R = Coupled K rows (after_first ws R)
Coupled K (SecondSilent reads ws ∷ rows) R = Coupled K rows (after_second ws R)
Coupled K (BothCounted r reads reads' ws ws' target exits ∷ rows) R =
    AlikeOperands R reads reads' × Reaches K target (after_both ws ws' R) × Exits K exits (after_both ws ws' R) × Coupled K rows (after_both ws ws' R)

first-choice : (b : Bool) (rows rest : List Row) → first_of_rows (cond b rows rest) ≡ cond b (first_of_rows rows) (first_of_rows rest)
first-choice true rows rest = refl
first-choice false rows rest = refl

second-choice : (b : Bool) (rows rest : List Row) → second_of_rows (cond b rows rest) ≡ cond b (second_of_rows rows) (second_of_rows rest)
second-choice true rows rest = refl
second-choice false rows rest = refl

pub found-first : (n : ℕ) (rows : List Row) → first_of_rows (found_row n rows) ≡ found n (first_of_rows rows)
found-first n [] = refl
found-first n (BothStart m ∷ rows) = first-choice (eqb m n) rows (found_row n rows) ∙ ap (λ p. cond (eqb m n) (first_of_rows rows) p) (found-first n rows)
found-first n (BothEnd falls exits ∷ rows) = found-first n rows
found-first n (FirstSilent reads ws ∷ rows) = found-first n rows
found-first n (SecondSilent reads ws ∷ rows) = found-first n rows
found-first n (BothCounted r reads reads' ws ws' target exits ∷ rows) = found-first n rows

pub found-second : (n : ℕ) (rows : List Row) → second_of_rows (found_row n rows) ≡ found n (second_of_rows rows)
found-second n [] = refl
found-second n (BothStart m ∷ rows) = second-choice (eqb m n) rows (found_row n rows) ∙ ap (λ p. cond (eqb m n) (second_of_rows rows) p) (found-second n rows)
found-second n (BothEnd falls exits ∷ rows) = found-second n rows
found-second n (FirstSilent reads ws ∷ rows) = found-second n rows
found-second n (SecondSilent reads ws ∷ rows) = found-second n rows
found-second n (BothCounted r reads reads' ws ws' target exits ∷ rows) = found-second n rows

module _ (K : Plan) where
  coupled-choice : (m n : ℕ) (rows rest : List Row) → Coupled K rows (K m) → Coupled K rest (K n) → (b : Bool) → eqb m n ≡ b → Coupled K (cond b rows rest) (K n)
  coupled-choice m n rows rest c d true e = subst (λ x. Coupled K rows (K x)) (eqb-true m n e) c
  coupled-choice m n rows rest c d false e = d

  -- what begins at a head is coupled by the plan
  pub found-coupled : (n : ℕ) (rows : List Row) (R : Rel) → Coupled K rows R → Coupled K (found_row n rows) (K n)
  found-coupled n [] R c = tt
  found-coupled n (BothStart m ∷ rows) R c = coupled-choice m n rows (found_row n rows) c.1 (found-coupled n rows (K m) c.1) (eqb m n) refl
  found-coupled n (BothEnd (Some e) exits ∷ rows) R c = found-coupled n rows (after_second e.1 (after_first e.0 R)) c.1
  found-coupled n (BothEnd None exits ∷ rows) R c = found-coupled n rows Everything c.1
  found-coupled n (FirstSilent reads ws ∷ rows) R c = found-coupled n rows (after_first ws R) c
  found-coupled n (SecondSilent reads ws ∷ rows) R c = found-coupled n rows (after_second ws R) c
  found-coupled n (BothCounted r reads reads' ws ws' target exits ∷ rows) R c = found-coupled n rows (after_both ws ws' R) c.3

agrees-along : (env : Environment) (e : EdgePair) (R : Rel) (state state' : State) → Agrees env R state state' → Agrees env (along e R) (written env [] e.first state) (written env [] e.second state')
agrees-along env e R state state' agrees =
    agrees-second env (after_first e.first R) (written env [] e.first state) state' (agrees-first env R state state' agrees e.first) e.second

-- from coupled codes the next stretch of the second does what that of the first does
abbrev pub Follows : Environment → Plan → Goes → Goes → Type 1
Follows env K next next' =
    (rows : List Row) (R : Rel) → Coupled K rows R → (state state' : State) (o o' : Outside) → OutsideAtLeast o o' → Agrees env R state state' → IfDefined (next (first_of_rows rows) state o) (next' (second_of_rows rows) state' o')

module _ (env : Environment) (K : Plan) (all : List Row) (coupled_all : (n : ℕ) → Coupled K (found_row n all) (K n)) (next next' : Goes) (follows : Follows env K next next') where
  leaps : (target : Option EdgePair) (R : Rel) → Reaches K target R → (state state' : State) (o o' : Outside) → OutsideAtLeast o o' → Agrees env R state state' → IfDefined (next (target_place (first_of_rows all) (first_target target)) (entered env (first_target target) state) o) (next' (target_place (second_of_rows all) (second_target target)) (entered env (second_target target) state') o')
  leaps None R h state state' o o' l agrees = follows [] Nothing tt state state' o o' l (λ s t e. absurd e)
  leaps (Some e) R h state state' o o' l agrees =
      let n = e.block in
      let rows = found_row n all in
      let s = written env [] e.first state in
      let s' = written env [] e.second state' in
      let x = follows rows (K n) (coupled_all n) s s' o o' l (narrowed env (along e R) (K n) s s' h (agrees-along env e R state state' agrees)) in
      subst (λ p. IfDefined (next p s o) (next' (found n (second_of_rows all)) s' o')) (found-first n all) (subst (λ q. IfDefined (next (first_of_rows rows) s o) (next' q s' o')) (found-second n all) x)

  walks : (rows : List Row) (R : Rel) → Coupled K rows R → (state state' : State) (o o' : Outside) → OutsideAtLeast o o' → Agrees env R state state' → IfDefined (walk env (first_of_rows all) next (first_of_rows rows) state o) (walk env (second_of_rows all) next' (second_of_rows rows) state' o')
  walks [] R c state state' o o' l agrees = never (ended Undefined)
  walks (BothStart n ∷ rows) R c state state' o o' l agrees = walks rows (K n) c.1 state state' o o' l (narrowed env R (K n) state state' c.0 agrees)
  walks (BothEnd (Some e) exits ∷ rows) R c state state' o o' l agrees =
      walks rows (after_second e.1 (after_first e.0 R)) c.1 (written env [] e.0 state) (written env [] e.1 state') o o' l (agrees-second env (after_first e.0 R) (written env [] e.0 state) state' (agrees-first env R state state' agrees e.0) e.1)
  walks (BothEnd None exits ∷ rows) R c state state' o o' l agrees = never (ended Undefined)
  walks (FirstSilent reads ws ∷ rows) R c state state' o o' l agrees =
      walks rows (after_first ws R) c (written env [] ws state) state' o o' l (agrees-first env R state state' agrees ws)
  walks (SecondSilent reads ws ∷ rows) R c state state' o o' l agrees =
      walks rows (after_second ws R) c state (written env [] ws state') o o' l (agrees-second env R state state' agrees ws)
  walks (BothCounted r reads reads' ws ws' target exits ∷ rows) R c state state' o o' l agrees =
      let vs = values env state reads in
      let us = values env state' reads' in
      let d = perform r env o vs in
      let d' = perform r env o' us in
      let R' = after_both ws ws' R in
      let s = written env d.results ws state in
      let s' = written env d'.results ws' state' in
      let agrees' : PerformedAtLeast d d' → Agrees env R' s s' = λ x. agrees-both env R state state' agrees d.results d'.results x.results ws ws' in
      extended-does-more d d' (monotone r env o o' vs us l (alike-operands env R state state' agrees reads reads' c.0))
      (next (first_of_rows rows) s d.outside) (next (target_place (first_of_rows all) (first_target target)) (entered env (first_target target) s) d.outside)
      (next' (second_of_rows rows) s' d'.outside) (next' (target_place (second_of_rows all) (second_target target)) (entered env (second_target target) s') d'.outside)
      (λ x. follows rows R' c.3 s s' d.outside d'.outside x.outside (agrees' x))
      (λ x. leaps target R' c.1 s s' d.outside d'.outside x.outside (agrees' x))

runs-follow : (env : Environment) (K : Plan) (all : List Row) → ((n : ℕ) → Coupled K (found_row n all) (K n)) → (n : ℕ) → Follows env K (runs env (first_of_rows all) n) (runs env (second_of_rows all) n)
runs-follow env K all coupled_all zero rows R c state state' o o' l agrees = does-refl (ended Steps)
runs-follow env K all coupled_all (suc n) rows R c state state' o o' l agrees =
    walks env K all coupled_all (runs env (first_of_rows all) n) (runs env (second_of_rows all) n) (runs-follow env K all coupled_all n) rows R c state state' o o' l agrees

-- The general law: rows, a relation for the start of each block, and one for the start of the run.
pub law_of_rows : (f g : Function) (K : Plan) (all : List Row) (R : Rel) → first_of_rows all ≡ f.code → second_of_rows all ≡ g.code → Coupled K all R → ((env : Environment) → Agrees env R (start_state env f.given) (start_state env g.given)) → Refines f g
law_of_rows f g K all R e e' c agrees env n =
    let o : Outside = record { bytes = []; calls = 0 } in
    let x = runs-follow env K all (λ m. found-coupled K m all R c) n all R c (start_state env f.given) (start_state env g.given) o o (record { bytes = tt; calls = refl }) (agrees env) in
    subst (λ p. IfDefined (runs env p n p (start_state env f.given) o) (run g env n)) e (subst (λ q. IfDefined (runs env (first_of_rows all) n (first_of_rows all) (start_state env f.given) o) (runs env q n q (start_state env g.given) o)) e' x)
