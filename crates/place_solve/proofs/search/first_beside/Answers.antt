use Rattle.place_solve.proofs.Firsts.{first_start}
use Rattle.place_solve.proofs.search.first_beside.Goals as goal

pub each-init : goal.each-init
each-init c = λ o. first_start c.args.live.now.target c.args.live.now.table c.args.around c.args.variables.now c.args.chosen.now c.args.v c.regs_at-r-items.result.now (cc)
