use Rattle.live_laws.proofs.Effects.Tabled.{table-law}
use Rattle.live_laws.proofs.effect_laws.table_law.Goals as goal

pub returns : goal.returns
returns c = table-law
