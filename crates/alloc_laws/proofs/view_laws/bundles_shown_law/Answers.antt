use Rattle.alloc_laws.proofs.Views.Bundled.{bundles-shown}
use Rattle.alloc_laws.proofs.view_laws.bundles_shown_law.Goals as goal

pub returns : goal.returns
returns c = bundles-shown
