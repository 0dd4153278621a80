-- A run doesn't ask for what liveness alone asks for.
use Rattle.std.proofs.Common.{◌≡◌, ℕ, suc, zero, [], ◌∷◌, Some, None, Bool, true, false, cond, map, refl, ap, ◌∙◌}
use Rattle.std.specs.Prelude.{Option, nat_eq}
use Rattle.meaning.specs.Environment.{Environment}
use Rattle.meaning.specs.State.{State, written, values}
use Rattle.meaning.specs.Perform.{Outside, perform}
use Rattle.meaning.specs.Code.{Edge, BlockStart, BlockEnd, Silent, Counted, Code, Goes, found, target_place, entered, extended, continued, walk, runs}
use Rattle.mir_interp.specs.Decoded.{bare}

chosen : (b : Bool) (p q q' : Code) → q' ≡ map bare q → cond b (map bare p) q' ≡ map bare (cond b p q)
chosen true p q q' e = refl
chosen false p q q' e = e

bare_found : (n : ℕ) (p : Code) → found n (map bare p) ≡ map bare (found n p)
bare_found n [] = refl
bare_found n (BlockStart m ∷ p) = chosen (nat_eq m n) p (found n p) (found n (map bare p)) (bare_found n p)
bare_found n (BlockEnd falls exits ∷ p) = bare_found n p
bare_found n (Silent reads ws ∷ p) = bare_found n p
bare_found n (Counted r reads ws target exits ∷ p) = bare_found n p

bare_target : (code : Code) (target : Option Edge) → target_place (map bare code) target ≡ map bare (target_place code target)
bare_target code None = refl
bare_target code (Some e) = bare_found e.block code

bare_walk : (env : Environment) (code : Code) (next next' : Goes) → ((p : Code) (st : State) (o : Outside) → next' (map bare p) st o ≡ next p st o) → (p : Code) (st : State) (o : Outside) → walk env (map bare code) next' (map bare p) st o ≡ walk env code next p st o
bare_walk env code next next' h [] st o = refl
bare_walk env code next next' h (BlockStart n ∷ p) st o = bare_walk env code next next' h p st o
bare_walk env code next next' h (BlockEnd (Some phis) exits ∷ p) st o = bare_walk env code next next' h p (written env [] phis st) o
bare_walk env code next next' h (BlockEnd None exits ∷ p) st o = refl
bare_walk env code next next' h (Silent reads ws ∷ p) st o = bare_walk env code next next' h p (written env [] ws st) o
bare_walk env code next next' h (Counted r reads ws target exits ∷ p) st o =
    let did = perform r env o (values env st reads) in
    let after = written env did.results ws st in
    ap (λ x. extended did (continued did.control x (next' (target_place (map bare code) target) (entered env target after) did.outside))) (h p after did.outside)
    ∙ ap (λ x. extended did (continued did.control (next p after did.outside) x))
    (ap (λ q. next' q (entered env target after) did.outside) (bare_target code target) ∙ h (target_place code target) (entered env target after) did.outside)

pub bare_runs : (env : Environment) (code : Code) (n : ℕ) (p : Code) (st : State) (o : Outside) → runs env (map bare code) n (map bare p) st o ≡ runs env code n p st o
bare_runs env code zero p st o = refl
bare_runs env code (suc n) p st o = bare_walk env code (runs env code n) (runs env (map bare code) n) (bare_runs env code n) p st o
