use Rattle.std.proofs.Common.{◌≡◌, ◌∙◌, ℕ, Option, Some, None, refl, ap}
use Rattle.std.proofs.lemmas.Result.{IfOk-weaker}
use Rattle.target_base.specs.declared.types.Target.{Target}
use Rattle.mir_func.specs.declared.func.Instr.{Instr}
use Rattle.mir_func.specs.Value.{Function}
use Rattle.live_edits.specs.declared.fold.Join.{Join}
use Rattle.live_edits.specs.Folded.{copy_sides}
use Rattle.join_laws.specs.Joined.{join_at, sides_join}
use Rattle.coalescer.specs.Coalescing.{MayCoalesce, instr_of, sides_in}
use Rattle.coalescer.proofs.joins.join_at.Goals as goal

by-sides : (t : Target) (f : Function) (id : ℕ) → sides_join t f (sides_in t (instr_of f id)) ≡ join_at t f id
by-sides t f id = go (instr_of f id)
  where
    go : (q : Option Instr) → sides_join t f (sides_in t q) ≡ elim q as (λ q. Option Join) [ None ↦ None | Some i ↦ sides_join t f (copy_sides t i) ]
    go None = refl
    go (Some i) = refl

pub returns-in-Some : goal.returns-in-Some
returns-in-Some c =
    let t = c.args.target.now in
    let f = c.args.live.now.func in
    IfOk-weaker c.sides_join.result (λ made. MayCoalesce t c.args.live.now → made ≡ sides_join t f (Some c.in-Some.sides)) (λ made. MayCoalesce t c.args.live.now → made ≡ join_at t f c.args.id)
    (λ made h may. h may ∙ ap (sides_join t f) (c.in-Some.ensures may) ∙ by-sides t f c.args.id) c.sides_join.ensures

pub returns-in-None : goal.returns-in-None
returns-in-None c = λ may. ap (sides_join c.args.target.now c.args.live.now.func) (c.in-None.ensures may) ∙ by-sides c.args.target.now c.args.live.now.func c.args.id
