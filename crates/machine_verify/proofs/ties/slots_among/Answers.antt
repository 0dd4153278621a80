use Rattle.std.proofs.Common.{◌∙◌, ap}
use Rattle.mir_meaning.specs.Registers.{has_number}
use Rattle.machine_verify.proofs.Apart.{slots_among}
use Rattle.machine_verify.proofs.ties.slots_among.Goals as goal

pub returns : goal.returns
returns c n =
    c.in_ok-set.ensures n
    ∙ (ap (λ ns. has_number ns n) (c.as_slice.ensures.value ∙ c.in_ok-numbers.ensures)
    ∙ slots_among c.args.frames.now n)
