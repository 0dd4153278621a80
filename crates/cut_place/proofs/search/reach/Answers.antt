use Rattle.std.proofs.Common.{refl, ◌≡◌, ◌<◌, ◌≤◌, ◌+◌, ◌∷◌, ◌++◌, [], List, ℕ, length, arith, subst, sym, ap, ◌∙◌, get_or}
use Rattle.std.proofs.lemmas.Grind.{common_steps}
use Rattle.cut_place.specs.Residual.{tail_of, head_of, residual_of}
use Rattle.cut_place.proofs.Facts.{tail_node, head_node}
use Rattle.cut_place.proofs.Searches.{search_then, fewer_then}
use Rattle.cut_place.proofs.search.reach.Goals as goal

pub returns-clause-search : goal.returns-clause-search
returns-clause-search c =
    let tail : tail_of c.args.arcs.now c.args.step < length c.args.search.now.levels.items = tail_node _ c.args.arcs.now c.args.step c.requires.ends c.requires.inside in
    let head : head_of c.args.arcs.now c.args.step < length c.args.search.now.levels.items = head_node _ c.args.arcs.now c.args.step c.requires.ends c.requires.inside in
    let to : c.head-to.result ≡ head_of c.args.arcs.now c.args.step = c.head-to.ensures in
    let from : c.tail-from.result ≡ tail_of c.args.arcs.now c.args.step = c.tail-from.ensures in
    let level : c.index-level.result.now ≡ get_or c.args.search.now.levels.items (tail_of c.args.arcs.now c.args.step) 0 = grind (arith, common_steps) in
    let there : c.index-there.result.now ≡ get_or c.args.search.now.levels.items (head_of c.args.arcs.now c.args.step) 0 = grind (arith, common_steps) in
    let queue : c.push.new.self.items ≡ c.args.search.now.queue.items ++ c.head-to.result ∷ [] = grind (arith, common_steps) in
    search_then c.args.arcs.now c.args.flow.now c.args.search.now.levels.items c.args.search.now.before.items c.args.search.now.queue.items c.args.step
    c.requires.search c.requires.ends c.requires.inside (omega arith) (omega arith) (omega (arith, c.residual-room.ensures))
    c.head-to.result c.index-level.result.now c.push.new.self.items to level queue

pub returns-clause-more : goal.returns-clause-more
returns-clause-more c _ =
    let tail : tail_of c.args.arcs.now c.args.step < length c.args.search.now.levels.items = tail_node _ c.args.arcs.now c.args.step c.requires.ends c.requires.inside in
    let head : head_of c.args.arcs.now c.args.step < length c.args.search.now.levels.items = head_node _ c.args.arcs.now c.args.step c.requires.ends c.requires.inside in
    let to : c.head-to.result ≡ head_of c.args.arcs.now c.args.step = c.head-to.ensures in
    let from : c.tail-from.result ≡ tail_of c.args.arcs.now c.args.step = c.tail-from.ensures in
    let level : c.index-level.result.now ≡ get_or c.args.search.now.levels.items (tail_of c.args.arcs.now c.args.step) 0 = grind (arith, common_steps) in
    let there : c.index-there.result.now ≡ get_or c.args.search.now.levels.items (head_of c.args.arcs.now c.args.step) 0 = grind (arith, common_steps) in
    fewer_then c.args.arcs.now c.args.flow.now c.args.search.now.levels.items c.args.search.now.before.items c.args.search.now.queue.items c.args.step
    c.requires.search c.requires.ends c.requires.inside (omega arith) (omega arith) (omega (arith, c.residual-room.ensures))
    c.head-to.result c.index-level.result.now to level
