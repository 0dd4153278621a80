use Rattle.std.proofs.Common.{◌++◌, ◌∙◌, sym, ap, subst, map}
use Rattle.std.specs.List.{AllByRecursion}
use Rattle.std.proofs.lemmas.Result.{on_ok_weaker}
use Rattle.mir_func.specs.Binding.{numbered}
use Rattle.mir_meaning.specs.Places.{each_once}
use Rattle.spiller.specs.Views.{gap_before, own_setting, planned, way_of}
use Rattle.spiller.specs.Readings.{source_in}
use Rattle.spiller.specs.Additions.{own_definitions, own_uses, ways_given, with_addition}
use Rattle.spiller.specs.Seating.{IsGiven, defined_tiny, read_tiny}
use Rattle.spiller.proofs.PlacePlanned.{single-planned}
use Rattle.spiller.proofs.seats.change_instr.Goals as goal

pub returns : goal.returns
returns c facts gap known =
    let view = c.args.view in
    let v = view.v in
    let i = c.args.instr.now in
    let u = own_setting view in
    let p0 = planned c.args.plan.now in
    let p1 = planned c.give_ways.new.plan in
    let ways = c.add_ways.new.ways.items in
    let slice = c.as_slice.ensures.value in
    let found = c.in_ok-add_ways.ensures ∙ ap (λ xs. map (way_of v) xs ++ each_once (map (way_of v) xs) (own_uses view.target.now view.live.now.func v i)) c.new-ways.ensures.items in
    let reads = (λ k. ((c.in_ok-define.ensures.reads ∙ c.new-tinies.ensures.reads) k).items) ∙ (c.in_ok-reads.ensures.tinies ∙ ap (λ xs. map read_tiny (numbered p0.next_range (map (way_of v) xs))) slice) in
    let made = c.in_ok-define.ensures.tinies ∙ ap (λ xs. xs ++ map defined_tiny (numbered p1.next_range (own_definitions u i))) c.new-tinies.ensures.definitions in
    on_ok_weaker c.store_all.result (λ four. single-planned view facts (source_in c.args.remat.now) i i.id gap known p0 p1 (planned c.define.new.plan) (planned c.seat.new.plan) (planned c.store_all.new.plan) ways c.define.new.self.reads.items c.define.new.self.definitions.items
    found reads
    (λ sources given. c.in_ok-reads.ensures.plan known.finds sources (subst (λ xs. AllByRecursion (IsGiven view.live.now.func (source_in c.args.remat.now) i.id sources) (map (way_of v) xs)) (sym slice) given) ∙ ap (λ xs. with_addition (ways_given u (gap_before view i.id) i.id sources (numbered p0.next_range (map (way_of v) xs))) p0) slice)
    made c.in_ok-define.ensures.plan c.in_ok-seat.ensures four)
    (c.store_all.ensures known.ordered gap known.behind)
