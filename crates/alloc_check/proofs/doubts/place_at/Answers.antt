use Rattle.alloc_check.proofs.Places.{nth-past, nth-within}
use Rattle.alloc_check.proofs.doubts.place_at.Goals as goal

pub returns-then-n-places : goal.returns-then-n-places
returns-then-n-places c q e = nth-within c.args.places.now c.args.n _ q e

pub returns : goal.returns
returns c q e = absurd (nth-past c.args.places.now c.args.n q c.if-n-places.false e)
