-- A bare code runs as the code does.
use Rattle.std.proofs.Common.{◌≡◌, ◌∷◌, ◌∙◌, ℕ, zero, suc, Bool, true, false, cond, [], Option, Some, None, refl, sym, ap, subst}
use Rattle.std.specs.Prelude.{nat_eq}
use Rattle.target_base.specs.declared.types.Effect.{Effect}
use Rattle.target_base.specs.declared.types.Effect.TheVariants as effects
use Rattle.meaning.specs.declared.types.Rest.{Rest}
use Rattle.meaning.specs.Code.{BlockStart, BlockEnd, Silent, Counted, Code, Edge, Function, Goes, Run, found, target_place, walk, runs, run, extended, continued, entered, start_state}
use Rattle.meaning.specs.Environment.{Environment}
use Rattle.meaning.specs.Lanes.{Reads}
use Rattle.meaning.specs.State.{State, values, written}
use Rattle.meaning.specs.Perform.{Outside, Performed, perform}
use Rattle.meaning.specs.Refines.{Refines, IsDefined, Does}
use Rattle.alloc_check.specs.Bare.{bare, used_reads}

bare-choice : (b : Bool) (p q : Code) → bare (cond b p q) ≡ cond b (bare p) (bare q)
bare-choice true p q = refl
bare-choice false p q = refl

found-bare : (n : ℕ) (code : Code) → found n (bare code) ≡ bare (found n code)
found-bare n [] = refl
found-bare n (BlockStart m ∷ p) = ap (λ q. cond (nat_eq m n) (bare p) q) (found-bare n p) ∙ sym (bare-choice (nat_eq m n) p (found n p))
found-bare n (BlockEnd falls exits ∷ p) = found-bare n p
found-bare n (Silent reads ws ∷ p) = found-bare n p
found-bare n (Counted r reads ws target exits ∷ p) = found-bare n p

target-bare : (code : Code) (target : Option Edge) → target_place (bare code) target ≡ bare (target_place code target)
target-bare code None = refl
target-bare code (Some e) = found-bare e.block code

abbrev with_effect : Rest → Effect → Rest
with_effect r e = record { effect = e; widths = r.widths; result = r.result; immediate = r.immediate; symbol = r.symbol; needed = r.needed }

-- a marker does the same whatever it reads
performs-used :
    (r : Rest) (env : Environment) (s : State) (o : Outside) (reads : Reads) (e : Effect) →
    perform (with_effect r e) env o (values env s (used_reads e reads)) ≡ perform (with_effect r e) env o (values env s reads)
unfolding perform
performs-used r env s o reads effects.Marker = refl
performs-used r env s o reads _ = refl

module _ (env : Environment) (code : Code) where
  walk-bare : (next next' : Goes) → ((p : Code) (s : State) (o : Outside) → next' (bare p) s o ≡ next p s o) → (p : Code) (s : State) (o : Outside) → walk env (bare code) next' (bare p) s o ≡ walk env code next p s o
  walk-bare next next' h [] s o = refl
  walk-bare next next' h (BlockStart n ∷ p) s o = walk-bare next next' h p s o
  walk-bare next next' h (BlockEnd (Some phis) exits ∷ p) s o = walk-bare next next' h p (written env [] phis s) o
  walk-bare next next' h (BlockEnd None exits ∷ p) s o = refl
  walk-bare next next' h (Silent reads ws ∷ p) s o = walk-bare next next' h p (written env [] ws s) o
  walk-bare next next' h (Counted r reads ws target exits ∷ p) s o =
      let does : Performed → Run = λ did.
      let after = written env did.results ws s in
      extended did (continued did.control (next' (bare p) after did.outside) (next' (target_place (bare code) target) (entered env target after) did.outside)) in
      let did = perform r env o (values env s reads) in
      let after = written env did.results ws s in
      let one : next' (bare p) after did.outside ≡ next p after did.outside = h p after did.outside in
      let two : next' (target_place (bare code) target) (entered env target after) did.outside ≡ next (target_place code target) (entered env target after) did.outside =
      ap (λ q. next' q (entered env target after) did.outside) (target-bare code target) ∙ h (target_place code target) (entered env target after) did.outside in
      ap does (performs-used r env s o reads r.effect)
      ∙ (ap (λ x. extended did (continued did.control x (next' (target_place (bare code) target) (entered env target after) did.outside))) one
      ∙ ap (λ y. extended did (continued did.control (next p after did.outside) y)) two)

  runs-bare : (n : ℕ) (p : Code) (s : State) (o : Outside) → runs env (bare code) n (bare p) s o ≡ runs env code n p s o
  runs-bare zero p s o = refl
  runs-bare (suc n) p s o = walk-bare (runs env code n) (runs env (bare code) n) (runs-bare n) p s o

-- functions with one bare code and the same given units run alike
pub same-bare : (f g : Function) → bare f.code ≡ bare g.code → f.given ≡ g.given → (env : Environment) (n : ℕ) → run f env n ≡ run g env n
same-bare f g e h env n =
    let start : Outside = record { bytes = []; calls = 0 } in
    sym (runs-bare env f.code n f.code (start_state env f.given) start)
    ∙ (ap (λ c. runs env c n c (start_state env f.given) start) e
    ∙ (ap (λ x. runs env (bare g.code) n (bare g.code) (start_state env x) start) h
    ∙ runs-bare env g.code n g.code (start_state env g.given) start))

pub bare-refines : (f g f' g' : Function) → bare f'.code ≡ bare f.code → f'.given ≡ f.given → bare g'.code ≡ bare g.code → g'.given ≡ g.given → Refines f' g' → Refines f g
bare-refines f g f' g' a b c d refines env n defined =
    let x : run f' env n ≡ run f env n = same-bare f' f a b env n in
    let y : run g' env n ≡ run g env n = same-bare g' g c d env n in
    subst (λ r. Does r (run g env n)) x (subst (λ s. Does (run f' env n) s) y (refines env n (subst IsDefined (sym x) defined)))
