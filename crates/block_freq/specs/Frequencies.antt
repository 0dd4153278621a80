-- Block frequencies: how often each block is entered, by the probabilities of its edges.
use Rattle.std.specs.Prelude.{ℕ, zero, suc, ◌+◌, ◌*◌, ◌/◌, ◌^◌, ◌==◌, cond, min, List, [], ◌∷◌, ◌++◌, map, length, replicate, slice_index}
use Rattle.std.specs.List.{sum_by, range_with_len}
use Rattle.mir_func.specs.declared.func.Edge.{Edge}
use Rattle.mir_func.specs.declared.func.Block.{Block}
use Rattle.mir_func.specs.Edits.{block_place}
use Rattle.block_freq.specs.declared.edges.BlockEdge.{BlockEdge}

-- the edges out of the block at a place; each leads to the first block of its number
abbrev pub edges_from : List Block → ℕ → List Edge → List BlockEdge
edges_from all from es = map (λ e. record { from = from; to = block_place e.block all; prob = e.prob }) es

-- the edges out of the blocks from a place on
abbrev pub edges_after : List Block → ℕ → List Block → List BlockEdge
edges_after all k [] = []
edges_after all k (b ∷ bs) = edges_from all k b.successors ++ edges_after all (k + 1) bs

-- all edges
abbrev pub all_edges : List Block → List BlockEdge
all_edges bs = edges_after bs 0 bs

-- what a block has by itself: the entry block is entered 16,384 times
abbrev pub entry_frequency : ℕ → ℕ
entry_frequency b = cond (b == 0) 16384 0

-- what an edge carries of the frequency of the block that it leaves
abbrev pub share : List ℕ → BlockEdge → ℕ
share fs e = slice_index fs e.from * e.prob / 2 ^ 31

-- what it carries into block b
abbrev pub carried : List ℕ → ℕ → BlockEdge → ℕ
carried fs b e = cond (e.to == b) (share fs e) 0

-- what block b takes in a round: its own and what all edges carry into it, at most 2 ^ 40
abbrev pub next_frequency : List BlockEdge → List ℕ → ℕ → ℕ
next_frequency es fs b = min (entry_frequency b + sum_by (carried fs b) es) (2 ^ 40)

-- a round: all blocks at once
abbrev pub round : List BlockEdge → List ℕ → List ℕ
round es fs = map (next_frequency es fs) (range_with_len 0 (length fs))

-- so many rounds
unfoldable pub rounds : List BlockEdge → ℕ → List ℕ → List ℕ
rounds es zero fs = fs
rounds es (suc n) fs = round es (rounds es n fs)

-- the frequencies of blocks: 64 rounds, from 0 everywhere
abbrev pub frequencies_of : List Block → List ℕ
frequencies_of bs = rounds (all_edges bs) 64 (replicate (length bs) 0)
