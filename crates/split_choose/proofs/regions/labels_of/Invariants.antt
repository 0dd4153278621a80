use Rattle.std.proofs.Common.{◌≡◌, ℕ, true, take, map}
use Rattle.std.specs.List.{list_all}
use Rattle.split_choose.specs.declared.spans.Span.{Span}
use Rattle.split_choose.specs.declared.regions.InsidePart.{InsidePart}
use Rattle.split_choose.specs.Offers.{View}
use Rattle.split_choose.specs.Seen.{ends_in_terminators}
use Rattle.split_choose.specs.Parts.{marks_of}
use Rattle.split_choose.proofs.regions.labels_of.Given as goal

abbrev pub invariant-spans : goal.invariant-spans
invariant-spans l = (v : ℕ) (offers : View) (inside : Span → InsidePart) → list_all (λ b. ends_in_terminators l.view.m.now.live.target b.instrs) l.view.m.now.live.func.blocks ≡ true
    → l.offer.insides.items ≡ map inside l.view.spans.now → l.labels ≡ marks_of l.view.m.now.live.target l.view.m.now.live.func v offers inside (take l.k l.view.spans.now)
