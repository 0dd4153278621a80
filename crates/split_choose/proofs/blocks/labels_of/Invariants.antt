use Rattle.std.proofs.Common.{◌≡◌, true, [], None, take}
use Rattle.std.specs.Prelude.{fold}
use Rattle.std.specs.List.{list_all}
use Rattle.split_choose.specs.Seen.{ends_in_terminators}
use Rattle.split_choose.specs.Blocks.{labelled}
use Rattle.split_choose.proofs.blocks.labels_of.Given as goal

abbrev pub invariant-places : goal.invariant-places
invariant-places l = list_all (λ b. ends_in_terminators l.live.target b.instrs) l.live.func.blocks ≡ true
    → l.all ≡ fold (labelled l.live.target l.live.func.blocks) (record { labels = []; label = 0; last = None; before = None }) (take l.place-index l.places)
