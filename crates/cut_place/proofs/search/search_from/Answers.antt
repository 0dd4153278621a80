use Rattle.std.proofs.Common.{refl, ◌≡◌, ◌<◌, ◌≤◌, ◌+◌, ◌∷◌, ◌++◌, [], List, ℕ, length, arith, subst, sym, ap, ◌∙◌, get_or, replicate}
use Rattle.std.proofs.Math.ListN.{set}
use Rattle.std.proofs.lemmas.Grind.{common_steps}
use Rattle.cut_place.specs.declared.steps.ResidualArc.{ResidualArc}
use Rattle.cut_place.specs.Trails.{no_step}
use Rattle.cut_place.specs.Searches.{IsSearch}
use Rattle.cut_place.proofs.Rounds.{search_starts}
use Rattle.cut_place.proofs.search.search_from.Goals as goal

pub spread-requires-clause-search : goal.spread-requires-clause-search
spread-requires-clause-search c =
    let n : ℕ = c.args.links.now.nodes in
    let far : ℕ = 4096 in
    let zero_list : List ℕ = 0 ∷ [] in
    let levels : c.in_ok-levels.levels.items ≡ replicate n far = grind (arith, common_steps) in
    let before : c.in_ok-before.before.items ≡ replicate n no_step = grind (arith, common_steps) in
    let queue : c.push.new.self.items ≡ zero_list = grind (arith, common_steps) in
    subst (λ (l : List ℕ). IsSearch c.args.arcs.now c.args.flow.now (set l 0 0) c.in_ok-before.before.items c.push.new.self.items) (sym levels)
    (subst (λ (l : List ResidualArc). IsSearch c.args.arcs.now c.args.flow.now (set (replicate n far) 0 0) l c.push.new.self.items) (sym before)
    (subst (λ (l : List ℕ). IsSearch c.args.arcs.now c.args.flow.now (set (replicate n far) 0 0) (replicate n no_step) l) (sym queue)
    (search_starts c.args.arcs.now c.args.flow.now n c.requires.nodes c.requires.most)))
