use Rattle.std.proofs.Common.{◌∙◌, ◌++◌, sym, ap}
use Rattle.meaning.specs.Perform.{loaded}
use Rattle.mir_interp.proofs.Performing.{pure_empty, no_base_pure, load_pure}
use Rattle.mir_interp.proofs.perform.Executor.load.Goals as goal

pub returns-in_default : goal.returns-in_default
returns-in_default g c = λ n env h o r. pure_empty _ _ o _ c.new-nowhere.ensures (no_base_pure c.args.self.now.rest.now c.args.scale env o _ c.requires (sym (c.in_ok-operand.ensures n env h) ∙ c.in_default.is))

pub returns : goal.returns
returns g c = λ n env h o r.
    load_pure c.args.self.now.rest.now c.args.scale env o _ c.as_slice-result.result.now _ c.in-Some.base c.address-a.result c.in_ok-w.w c.requires
    (sym (c.in_ok-operand.ensures n env h) ∙ c.in-Some.is) c.as_slice-result.ensures c.in_ok-w.ensures.0 c.address-a.ensures
    (c.in_ok-push_loaded.ensures c.args.self.now.around.now.symbols.now n env h o r ∙ ap (λ t. t ++ loaded env o c.in_ok-w.w c.address-a.result c.as_slice-result.result.now) c.new-lanes.ensures)
