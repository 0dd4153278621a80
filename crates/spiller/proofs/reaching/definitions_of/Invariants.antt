use Rattle.std.proofs.Common.{◌≡◌, map, take}
use Rattle.meaning.specs.Live.{Among as Member}
use Rattle.live_lanes.specs.Looks.{InOrder}
use Rattle.spiller.specs.declared.reaching.Definition.{Definition}
use Rattle.spiller.specs.Readings.{TellConstants}
use Rattle.spiller.specs.Walks.{ListsFlows}
use Rattle.spiller.proofs.reaching.definitions_of.Given as goal

abbrev pub invariant-touched : goal.invariant-touched
invariant-touched l = record {
  constants : TellConstants l.view.target.now l.view.live.now.func l.view.live.now.table l.definitions.items;
  ids : map (λ (d : Definition). d.id) l.definitions.items ≡ take l.id-index l.touched;
  each : InOrder l.view.live.now.table → (d : Definition) → Member d l.definitions.items → ListsFlows l.view.live.now.table l.view.v l.flows.items d;
}
