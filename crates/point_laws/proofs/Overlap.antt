-- Two stretches that begin at points of a block.
use Rattle.std.proofs.Common.{◌≡◌, ℕ, Bool, true, false, refl, subst, sym, arith}
use Rattle.std.specs.Prelude.{nat_le}
use Rattle.std.proofs.lemmas.Bool.{leb-true, leb-false}
use Rattle.meaning.specs.Live.{Among as Member}
use Rattle.mir_func.specs.declared.func.Block.{Block}
use Rattle.mir_meaning.specs.Points.{Point, block_points}
use Rattle.live_lanes.specs.declared.ask.extent.Stretch.{Stretch}
use Rattle.live_lanes.specs.Table.{Numbers}
use Rattle.point_laws.specs.Covered.{IsRank, LiesIn, rank_of}
use Rattle.point_laws.specs.Laws.{OverlapLaw}

module _ (slots : Numbers) (b : Block) (s r : Stretch) where
  abbrev Shared : Type 0
  Shared = (p : Point) × Member p (block_points b) × LiesIn s (rank_of slots p) × LiesIn r (rank_of slots p)

  shared : (at : ℕ) → IsRank slots b at → LiesIn s at → LiesIn r at → Shared
  shared at z h g = (z.0, z.1, subst (LiesIn s) (sym z.2) h, subst (LiesIn r) (sym z.2) g)

  -- the later one of the two first numbers lies in both
  pub meet : IsRank slots b s.first → IsRank slots b r.first → (at : ℕ) → LiesIn s at → LiesIn r at → Shared
  meet u v at h g = go (nat_le s.first r.first) refl
    where
      go : (q : Bool) → nat_le s.first r.first ≡ q → Shared
      go true e = let le = leb-true s.first r.first e in shared r.first v (omega (arith, le), omega (arith, h, g)) (omega arith, omega (arith, h, g))
      go false e = let lt = leb-false s.first r.first e in shared s.first u (omega arith, omega (arith, h, g)) (omega (arith, lt), omega (arith, h, g))

pub overlap-law : OverlapLaw
overlap-law slots b s r u v = ((λ z. meet slots b s r u v z.0 z.1 z.2), (λ z. (rank_of slots z.0, z.2, z.3)))
