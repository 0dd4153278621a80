-- Links that are added behind others.
use Rattle.std.proofs.Common.{◌≡◌, ℕ, ◌+◌, ◌<◌, ◌≤◌, zero, suc, List, [], ◌∷◌, ◌++◌, length, get_or, arith}
use Rattle.cut_place.specs.declared.links.Link.{Link}
use Rattle.cut_place.specs.Links.{AreLinks}

-- one more link
pub links_more : (nodes arcs : ℕ) (links : List Link) (link : Link) → AreLinks nodes arcs links → link.to < nodes → link.step.arc < arcs
    → AreLinks nodes arcs (links ++ link ∷ [])
links_more nodes arcs [] link f to arc zero h = (to, arc)
links_more nodes arcs [] link f to arc (suc k) h = absurd (omega arith)
links_more nodes arcs (l ∷ links) link f to arc zero h = f 0 (omega arith)
links_more nodes arcs (l ∷ links) link f to arc (suc k) h =
    links_more nodes arcs links link (λ j lt. f (suc j) (omega arith)) to arc k (omega arith)

-- places up to a number
abbrev pub AreWithin : List ℕ → ℕ → Type 0
AreWithin places most = (k : ℕ) → k < length places → get_or places k 0 ≤ most

pub within_more : (places : List ℕ) (place most more : ℕ) → AreWithin places most → most ≤ more → place ≤ more → AreWithin (places ++ place ∷ []) more
within_more [] place most more f le last zero h = last
within_more [] place most more f le last (suc k) h = absurd (omega arith)
within_more (p ∷ places) place most more f le last zero h = let here : p ≤ most = f 0 (omega arith) in omega arith
within_more (p ∷ places) place most more f le last (suc k) h =
    within_more places place most more (λ j lt. f (suc j) (omega arith)) le last k (omega arith)
