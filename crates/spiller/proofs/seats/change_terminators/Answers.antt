use Rattle.std.proofs.Common.{◌++◌, ◌∙◌, None, sym, ap, subst, flat_map, map}
use Rattle.std.specs.List.{AllByRecursion}
use Rattle.std.proofs.lemmas.Result.{on_ok_weaker}
use Rattle.mir_func.specs.Binding.{numbered}
use Rattle.mir_meaning.specs.Places.{each_once}
use Rattle.spiller.specs.Views.{gap_before, gap_behind, own_setting, planned, spilling_of, way_of}
use Rattle.spiller.specs.Readings.{goes_in, source_in}
use Rattle.spiller.proofs.Moves.{then-swapped}
use Rattle.spiller.specs.Spilled.{change, place_change, place_name}
use Rattle.spiller.proofs.Terminators.{terminators-are, terminators-known}
use Rattle.spiller.specs.Additions.{own_definitions, own_uses, ways_given, with_addition}
use Rattle.spiller.specs.Placing.{last_name}
use Rattle.spiller.specs.Seating.{IsBehind, IsGiven, defined_tiny, read_tiny}
use Rattle.spiller.proofs.PlacePlanned.{named-planned}
use Rattle.spiller.proofs.seats.change_terminators.Goals as goal

pub returns-clause-place : goal.returns-clause-place
returns-clause-place c facts gap known =
    let view = c.args.view in
    let v = view.v in
    let is = c.args.instrs.now in
    let name = c.place_name-at.result in
    let u = own_setting view in
    let p0 = planned c.args.plan.now in
    let p1 = planned c.give_ways.new.plan in
    let ways = c.add_all_ways.new.ways.items in
    let slice = c.as_slice.ensures.value in
    let found = c.in_ok-add_all_ways.ensures ∙ ap (λ xs. map (way_of v) xs ++ each_once (map (way_of v) xs) (flat_map (own_uses view.target.now view.live.now.func v) is)) c.new-ways.ensures.items in
    let reads = (λ k. ((c.in_ok-define_all.ensures.reads ∙ c.new-tinies.ensures.reads) k).items) ∙ (c.in_ok-reads.ensures.tinies ∙ ap (λ xs. map read_tiny (numbered p0.next_range (map (way_of v) xs))) slice) in
    let made = c.in_ok-define_all.ensures.tinies ∙ ap (λ xs. xs ++ map defined_tiny (numbered p1.next_range (flat_map (own_definitions u) is))) c.new-tinies.ensures.definitions in
    on_ok_weaker c.store_all.result (λ four. named-planned view facts (source_in c.args.remat.now) is (last_name is) gap known name c.place_name-at.ensures p0 p1 (planned c.define_all.new.plan) (planned c.seat_all.new.plan) (planned c.store_all.new.plan) ways c.define_all.new.self.reads.items c.define_all.new.self.definitions.items
    found reads
    (λ sources given. c.in_ok-reads.ensures.plan known.finds sources (subst (λ xs. AllByRecursion (IsGiven view.live.now.func (source_in c.args.remat.now) name sources) (map (way_of v) xs)) (sym slice) given) ∙ ap (λ xs. with_addition (ways_given u (gap_before view name) name sources (numbered p0.next_range (map (way_of v) xs))) p0) slice)
    made c.in_ok-define_all.ensures.plan c.in_ok-seat_all.ensures four)
    (c.store_all.ensures known.ordered gap (subst (λ n. IsBehind view n gap) (sym c.last_name.ensures) known.behind))

pub returns-clause-terminators : goal.returns-clause-terminators
returns-clause-terminators c facts w p b is_block are =
    let view = c.args.view in
    let is = c.args.instrs.now in
    let s = spilling_of view view.slot facts in
    let p0 = planned c.args.plan.now in
    then-swapped c.store_all.result s (gap_before view (place_name is)) (gap_behind b None) is (change s c.args.plan.now.next_id c.args.plan.now.next_range is) (place_change s c.args.plan.now.next_range is) p0 (planned c.store_all.new.plan) (terminators-are s c.args.plan.now.next_id c.args.plan.now.next_range is are.all)
    (returns-clause-place c facts (gap_behind b None) (terminators-known view facts (source_in c.args.remat.now) (goes_in c.args.remat.now) w p b is_block is are))
