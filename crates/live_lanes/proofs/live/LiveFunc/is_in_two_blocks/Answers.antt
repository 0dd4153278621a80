use Rattle.std.proofs.Common.{◌≡◌, ◌≢◌, ◌⊎◌, ◌∙◌, inl, inr, ℕ, sym}
use Rattle.std.proofs.lemmas.Bool.{cases_eq}
use Rattle.live_lanes.specs.declared.table.Table.{Table}
use Rattle.live_lanes.specs.Spread.{HasPoints, IsInTwoBlocks}
use Rattle.live_lanes.proofs.live.LiveFunc.is_in_two_blocks.Goals as goal

other-block : (x : Table) (v first : ℕ) → IsInTwoBlocks x v → (b : ℕ) × (b ≢ first) × HasPoints x v b
other-block x v first (a, b, ne, ha, hb) = go (cases_eq a first)
  where
    go : (a ≡ first) ⊎ (a ≡ first → ⊥) → (b : ℕ) × (b ≢ first) × HasPoints x v b
    go (inl e) = (b, λ g. ne (e ∙ sym g), hb)
    go (inr n) = (a, n, ha)

pub returns-in-Some : goal.returns-in-Some
returns-in-Some c =
    let x = c.args.self.now.table in
    let first = c.in-Some.first in
    (λ t. let z = c.is_in_another.ensures.0 t in (z.0, first, z.1, z.2, c.in-Some.ensures.0), λ two. c.is_in_another.ensures.1 (other-block x c.args.v first two))

pub returns-in-None : goal.returns-in-None
returns-in-None c = (λ t. absurd (cc), λ (a, b, ne, ha, hb). absurd (c.in-None.ensures a ha))
