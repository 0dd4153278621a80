use Rattle.std.proofs.Common.{◌∙◌, sym, ap}
use Rattle.std.specs.Prelude.{option_map}
use Rattle.spiller.specs.declared.seats.ReadTiny.{ReadTiny}
use Rattle.spiller.specs.Views.{ways_of, tiny_of_way}
use Rattle.spiller.proofs.WaysFound.{way-found}
use Rattle.spiller.proofs.seats.PlaceTinies.tiny_read.Goals as goal

pub returns-in-None : goal.returns-in-None
returns-in-None c v =
    ap (λ o. option_map (λ (x : ReadTiny). x.range) o) (sym c.in-None.is ∙ c.find_way.ensures)
    ∙ way-found v c.args.indexed_class c.as_slice.result.now
    ∙ ap (λ xs. tiny_of_way v c.args.indexed_class (ways_of v xs)) c.as_slice.ensures.value

pub returns-in-Some : goal.returns-in-Some
returns-in-Some c v =
    ap (λ o. option_map (λ (x : ReadTiny). x.range) o) (sym c.in-Some.is ∙ c.find_way.ensures)
    ∙ way-found v c.args.indexed_class c.as_slice.result.now
    ∙ ap (λ xs. tiny_of_way v c.args.indexed_class (ways_of v xs)) c.as_slice.ensures.value
