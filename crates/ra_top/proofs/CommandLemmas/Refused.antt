-- A piece that spells no document is refused by every command.
use Rattle.std.proofs.Common.{ℕ, List, inl}
use Rattle.target_base.specs.declared.types.Target.{Target}
use Rattle.ra_top.specs.declared.commands.answer.Job.{Job}
use Rattle.ra_top.specs.declared.commands.spot.DocStart.{DocStart}
use Rattle.ra_top.specs.declared.commands.status.Status.{Status}
use Rattle.ra_top.specs.declared.commands.status.Status.TheVariants as status
use Rattle.ra_top.specs.Commands.Answer.{Refuses}
use Rattle.ra_top.specs.Commands.Piece.{IsUnspelled}

pub unspelled : (job : Job) (t : Target) (spot : DocStart) (piece : List ℕ) (s : Status) (detail : List ℕ) → IsUnspelled t spot piece s detail → Refuses job t spot piece s detail
unspelled job t spot piece (status.Limit l) detail is = inl is
unspelled job t spot piece (status.Text f) detail is = is
unspelled job t spot piece status.Done detail is = absurd is
unspelled job t spot piece status.Usage detail is = absurd is
unspelled job t spot piece (status.Target f) detail is = absurd is
unspelled job t spot piece (status.Invalid x) detail is = absurd is
unspelled job t spot piece (status.Unassignable p) detail is = absurd is
unspelled job t spot piece status.ReadFault detail is = absurd is
unspelled job t spot piece status.WriteFault detail is = absurd is
unspelled job t spot piece status.Memory detail is = absurd is
unspelled job t spot piece status.NotYet detail is = absurd is
