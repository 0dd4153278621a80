-- Runs from one counted instruction to the next.
use Rattle.std.proofs.Common.{◌≡◌, ℕ, suc, List, [], ◌++◌, Some, None, map, sym, ap, ◌∙◌, drop, append-nil}
use Rattle.std.specs.Prelude.{Option}
use Rattle.target_base.specs.declared.types.Target.{Target}
use Rattle.mir_func.specs.Value.{Function}
use Rattle.meaning.specs.Environment.{Environment}
use Rattle.meaning.specs.State.{State}
use Rattle.meaning.specs.Perform.{Outside, Undefined, Steps}
use Rattle.meaning.specs.Code.{Code, walk, runs, run, ended, start_state}
use Rattle.mir_meaning.specs.Codes.{code_of, given_of, meaning_of}
use Rattle.mir_interp.specs.declared.types.Event.{Event}
use Rattle.mir_interp.specs.declared.types.End.{End}
use Rattle.mir_interp.specs.Decoded.{bare}
use Rattle.mir_interp.specs.Stands.{event_of, end_of, Answers}
use Rattle.mir_interp.specs.Running.{Continues, gone_on}
use Rattle.mir_interp.proofs.Bare.{bare_runs}

pub stops_there : (env : Environment) (code p : Code) (st st' : State) (q : Outside) (k j : ℕ) (r : Option ℕ) → k ≡ suc j → walk env code (runs env code j) p st q ≡ gone_on env code (runs env code j) code r st' q → r ≡ None → runs env code k p st q ≡ ended Undefined
stops_there env code p st st' q k j r e h is = ap (λ t. runs env code t p st q) e ∙ (h ∙ ap (λ t. gone_on env code (runs env code j) code t st' q) is)

pub goes_there : (env : Environment) (code p : Code) (st st' : State) (q : Outside) (k j here : ℕ) (r : Option ℕ) → k ≡ suc j → walk env code (runs env code j) p st q ≡ gone_on env code (runs env code j) code r st' q → r ≡ Some here → runs env code k p st q ≡ walk env code (runs env code j) (drop here code) st' q
goes_there env code p st st' q k j here r e h is = ap (λ t. runs env code t p st q) e ∙ (h ∙ ap (λ t. gone_on env code (runs env code j) code t st' q) is)

pub all_done : (env : Environment) (code p : Code) (st : State) (q : Outside) (k : ℕ) → k ≡ 0 → runs env code k p st q ≡ ended Steps
all_done env code p st q k e = ap (λ t. runs env code t p st q) e

pub ran : (t : Target) (f : Function) (env : Environment) (n : ℕ) (code : Code) (st : State) (old new : List Event) (e : End) → code ≡ map bare (code_of t f) → st ≡ start_state env (given_of t f) → old ≡ [] → Continues old (runs env code n code st (record { bytes = []; calls = 0 })) new (ended (end_of e)) → Answers (record { events = new; end = e }) (run (meaning_of t f) env n)
unfolding meaning_of
ran t f env n code st old new e ec es eo cont =
    let o : Outside = record { bytes = []; calls = 0 } in
    let same : runs env code n code st o ≡ runs env (code_of t f) n (code_of t f) (start_state env (given_of t f)) o =
    ap (λ c. runs env c n c st o) ec
    ∙ (ap (λ s. runs env (map bare (code_of t f)) n (map bare (code_of t f)) s o) es
    ∙ bare_runs env (code_of t f) n (code_of t f) (start_state env (given_of t f)) o)
    in
    record {
      events = sym (append-nil (map event_of new)) ∙ (sym cont.events ∙ (ap (λ x. map event_of x ++ (runs env code n code st o).events) eo ∙ ap (λ r. r.events) same));
      end = sym cont.end ∙ ap (λ r. r.end) same;
    }
