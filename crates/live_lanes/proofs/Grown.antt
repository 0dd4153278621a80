-- A table of causes that is grown marks exactly the pieces at whose start the lane is live.
use Rattle.std.proofs.Common.{◌≡◌, ℕ, true, List, [], ◌∷◌, ◌++◌, refl}
use Rattle.live_lanes.specs.Graph.{Causes, is_live, writes_in}
use Rattle.live_lanes.specs.Laws.{StartLaw, WritingLaw}
use Rattle.live_lanes.proofs.Sound.{founded-live}
use Rattle.live_lanes.proofs.Complete.{live-marked}

pub start-law : StartLaw
start-law code why matched grown l b = (
  (λ h. (founded-live code why (grown.founded l b 0 h)).0 refl),
  (λ h. live-marked code why grown.closed h [] refl),
)

pub writing-law : WritingLaw
writing-law code why matched grown l b before s rest e w = (
  (λ h. (founded-live code why (grown.founded l b (writes_in l (before ++ s ∷ [])) h)).1 before s rest e w refl),
  (λ h. live-marked code why grown.closed h before e),
)
