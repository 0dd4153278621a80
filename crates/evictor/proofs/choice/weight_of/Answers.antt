use Rattle.evictor.proofs.choice.weight_of.Goals as goal

pub returns : goal.returns
returns c = λ weighs. (rw (c.live.ensures, c.known_uses-known.ensures) at c.in_ok-own.ensures) weighs.order weighs.tells (weighs.known c.args.w) (weighs.points c.args.w) (weighs.uses c.args.w)
