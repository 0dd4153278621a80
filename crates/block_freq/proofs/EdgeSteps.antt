-- The edges of the blocks so far, and of one block more.
use Rattle.std.proofs.Common.{◌≡◌, ℕ, ◌+◌, ◌<◌, List, [], ◌∷◌, ◌++◌, length, get_or, take, drop, map, refl}
use Rattle.std.proofs.lemmas.List.{drop_more, map_more}
use Rattle.mir_func.specs.declared.func.Edge.{Edge}
use Rattle.mir_func.specs.declared.func.Block.{Block}
use Rattle.mir_func.specs.Edits.{block_place}
use Rattle.block_freq.specs.declared.edges.BlockEdge.{BlockEdge}
use Rattle.block_freq.specs.Frequencies.{edges_from, edges_after}

pub edges_from_more : (all : List Block) (from i : ℕ) (es : List Edge) (e : Edge) → i < length es → e ≡ get_or es i e → edges_from all from (take (i + 1) es) ≡ edges_from all from (take i es) ++ record { from = from; to = block_place e.block all; prob = e.prob } ∷ []
edges_from_more all from i es e h is =
    let m = map_more (λ (x : Edge). let made : BlockEdge = record { from = from; to = block_place x.block all; prob = x.prob } in made) es i e h in
    rw (← is) at m

pub edges_after_more : (all : List Block) (k : ℕ) (b : Block) → k < length all → b ≡ get_or all k b → edges_after all k (drop k all) ≡ edges_from all k b.successors ++ edges_after all (k + 1) (drop (k + 1) all)
edges_after_more all k b h is = rw (drop_more all k b h, ← is) refl

pub ruleset edge_steps = (edges_from_more, edges_after_more)
