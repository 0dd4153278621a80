use Rattle.std.proofs.Common.{◌≡◌, flat_map, subst}
use Rattle.std.specs.Prelude.{OnOk}
use Rattle.mir_func.specs.declared.func.Gap.{Gap}
use Rattle.spiller.specs.Views.{own_setting, planned}
use Rattle.spiller.specs.Additions.{put_into, with_addition}
use Rattle.spiller.specs.Seating.{stored_tiny}
use Rattle.spiller.proofs.seats.PlaceTinies.store_all.Goals as goal

pub returns : goal.returns
returns c ordered gap behind = subst (λ (g : Gap). OnOk c.put_stores.result (planned c.put_stores.new.plan ≡ with_addition (put_into (own_setting c.args.view) g (flat_map (stored_tiny (own_setting c.args.view)) c.args.self.now.definitions.items)) (planned c.args.plan.now))) (c.gap_behind.ensures gap behind) (c.put_stores.ensures ordered)
