use Rattle.std.proofs.Common.{◌≡◌, ◌∙◌, ap, length, arith}
use Rattle.std.proofs.lemmas.List.{length-map}
use Rattle.interference.specs.Clashes.{part_of}
use Rattle.interference.specs.Parts.{parts_of}
use Rattle.interference.specs.SavedLists.{without_behind}
use Rattle.interference.specs.declared.held.SavedParts.TheVariants as saveds
use Rattle.interference.proofs.PutBack.{logs-one, put-undone}
use Rattle.interference.proofs.held.HeldList.insert_saved.Goals as goal

pub returns-clause-logged : goal.returns-clause-logged
returns-clause-logged c = λ low within.
    let ps = parts_of c.args.self.now in
    let long : length ps ≡ length c.args.self.now.parts.items = length-map c.args.self.now.parts.items part_of in
    logs-one c.args.at.now c.args.log.now.items c.push.new.self.items c.args.self.now c.insert.new.self (saveds.Less c.args.gap) c.in_ok-push.ensures.items (ap (without_behind c.args.gap) (c.in_default.ensures.put low within) ∙ put-undone ps c.args.gap c.args.held (omega arith) within)
