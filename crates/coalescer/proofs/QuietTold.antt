-- The table tells exactly of each join that a copy asks for whether it loses a value.
use Rattle.coalescer.specs.Asked.{TellsQuiet}
use Rattle.coalescer.proofs.QuietAsked.{asked-instrs}
use Rattle.coalescer.proofs.QuietPoints.{instrs-quiet, quiet-instrs}

pub tells-quiet : TellsQuiet
tells-quiet t x id j may join =
    let asked = asked-instrs t x id j may join in
    ((λ h. instrs-quiet t x j may (asked.0 h)), (λ h. asked.1 (quiet-instrs t x j may h)))
