use Rattle.std.proofs.Common.{◌≡◌, ◌∙◌, ℕ, sym, ap, Bool, true, false, Some, None, slice_get, List}
use Rattle.target_base.specs.declared.types.Target.{Target}
use Rattle.mir_func.specs.Binding.{does, is_terminator}
use Rattle.mir_func.specs.declared.func.Instr.{Instr}
use Rattle.mir_func.specs.declared.func.Block.{Block}
use Rattle.split_choose.specs.declared.places.TouchedPlace.{TouchedPlace}
use Rattle.split_choose.specs.Places.{Site, ending}
use Rattle.split_choose.specs.Seen.{ends_in_terminators}
use Rattle.split_choose.proofs.Placed.{home-of, stands-there, alone, among-ends}
use Rattle.split_choose.proofs.places.place_of.Goals as goal

-- what was tested of the instruction that was found
tested : (t u : Target) (i j : Instr) (b c : Bool) → u ≡ t → Some i ≡ Some j → b ≡ does is_terminator u i → b ≡ c → does is_terminator t j ≡ c
tested t u i j b c at found e f =
    let same : j ≡ i = cc in
    ap (does is_terminator t) same ∙ (ap (λ r. does is_terminator r i) (sym at) ∙ (sym e ∙ f))

whole : (t u : Target) (s : Site) (k : ℕ) (is : List Instr) (p : TouchedPlace) → u ≡ t → is ≡ s.among → k ≡ s.position → ends_in_terminators t s.among ≡ true → (ends_in_terminators u is ≡ true → p ≡ ending u k is s.instr) → p ≡ ending t s.position s.among s.instr
whole t u s k is p at here home ended made =
    made (ap (λ r. ends_in_terminators r is) at ∙ (ap (ends_in_terminators t) here ∙ ended))
    ∙ (ap (λ r. ending r k is s.instr) at ∙ (ap (λ js. ending t k js s.instr) here ∙ ap (λ n. ending t n s.among s.instr) home))

pub returns-then-not-is_terminator : goal.returns-then-not-is_terminator
returns-then-not-is_terminator c finds s site at =
    let t = c.args.live.now.target in
    let there = c.in_ok-instr.ensures finds s.position site.place site.block s.instr site.found (stands-there t c.args.live.now.table c.args.live.now.func.blocks s finds site) at in
    alone t s c.position_of-position.result c.args.id (tested t c.target.result.now c.in_ok-instr.instr.now s.instr c.is_terminator.result false c.target.ensures there c.is_terminator.ensures c.if-not-is_terminator.true)
    (c.position_of-position.ensures ∙ home-of t c.args.live.now.table c.args.live.now.func.blocks s finds site c.args.id at) at

pub returns-in_err-block : goal.returns-in_err-block
returns-in_err-block c finds s site at =
    let home = c.position_of-position.ensures ∙ home-of c.args.live.now.target c.args.live.now.table c.args.live.now.func.blocks s finds site c.args.id at in
    let there : None ≡ Some site.block = c.in_err-block.ensures ∙ (ap (slice_get c.args.live.now.func.blocks) home ∙ site.found) in
    cc

pub returns : goal.returns
returns c finds s site at =
    let t = c.args.live.now.target in
    let home = c.position_of-position.ensures ∙ home-of t c.args.live.now.table c.args.live.now.func.blocks s finds site c.args.id at in
    let found = c.in_ok-instr.ensures finds s.position site.place site.block s.instr site.found (stands-there t c.args.live.now.table c.args.live.now.func.blocks s finds site) at in
    let term = tested t c.target.result.now c.in_ok-instr.instr.now s.instr c.is_terminator.result true c.target.ensures found c.is_terminator.ensures c.if-not-is_terminator.false in
    let there : Some c.in_ok-block.block.now ≡ Some site.block = c.in_ok-block.ensures ∙ (ap (slice_get c.args.live.now.func.blocks) home ∙ site.found) in
    let same : c.in_ok-block.block.now ≡ site.block = cc in
    let here = c.as_slice.ensures ∙ (ap (λ (b : Block). b.instrs) same ∙ site.same) in
    ap (λ (p : TouchedPlace). Some p) (whole t c.target-2.result.now s c.position_of-position.result c.as_slice.result.now c.terminators_place.result c.target-2.ensures here home site.ended (c.terminators_place.ensures s.instr at) ∙ among-ends t s term)
