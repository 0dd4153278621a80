use Rattle.coalescer.proofs.QuietCopies.{by-sides}
use Rattle.coalescer.proofs.QuietLanes.{asked-of}
use Rattle.coalescer.proofs.quiet_laws.quiet_copies_law.Goals as goal

pub returns : goal.returns
returns c t x id j may e b i w mb mi mw v k o at side q = by-sides t x may j (asked-of t x may id j e) b i mb mi w mw v k o at side q
