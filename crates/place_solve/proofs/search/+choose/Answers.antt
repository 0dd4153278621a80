use Rattle.std.proofs.Common.{◌≡◌, ◌∙◌, ◌<◌, ap, sym, subst, arith, get_or, length, option_map, Some}
use Rattle.std.proofs.lemmas.List.{get_or_default}
use Rattle.place_solve.specs.Choice.{IsNogood, needs_left, choices_apart, first}
use Rattle.place_solve.proofs.Narrowing.{behind_length, nogood_more, begun_found, begun_none, some_left, nogood_if_not_found, nogoods_more}
use Rattle.place_solve.proofs.search.+choose.Goals as goal

pub each-preserved-then-seen : goal.each-preserved-then-seen
each-preserved-then-seen t c =
    let left = c.args.left.now in
    let some : 0 < length left = some_left left c.is_empty.result c.is_empty.ensures c.if-is_empty.false in
    let here = c.as_slice-here.result.now in
    let at : here ≡ get_or left 0 here = c.as_slice-here.ensures ∙ (c.index-left-0.is ∙ get_or_default left 0 c.index-left-0.result here some) in
    let nogood : IsNogood c.args.target.now c.args.variables.now c.in_ok-behind.behind = subst (IsNogood c.args.target.now c.args.variables.now) c.as_slice.ensures (c.in_ok-seen.ensures c.if-seen.true) in
    record {
      known = c.each.invariant.known;
      tried = nogood_more c.args.target.now c.args.variables.now left here c.requires.few some at _ c.each.r-index _ c.in_ok-behind.behind (omega arith) c.in_ok-behind.ensures nogood c.each.invariant.tried;
    }

pub is_nogood-requires-clause-few : goal.is_nogood-requires-clause-few
is_nogood-requires-clause-few t c =
    let left = c.args.left.now in
    let some : 0 < length left = some_left left c.is_empty.result c.is_empty.ensures c.if-is_empty.false in
    let here = c.as_slice-here.result.now in
    let at : here ≡ get_or left 0 here = c.as_slice-here.ensures ∙ (c.index-left-0.is ∙ get_or_default left 0 c.index-left-0.result here some) in
    let shorter = behind_length c.args.target.now c.args.variables.now left here c.requires.few some at _ c.each.r-index _ c.in_ok-behind.behind (omega arith) c.in_ok-behind.ensures in
    let same = ap length c.as_slice.ensures in
    omega (arith, shorter, same, c.requires.few)

pub choose-requires : goal.choose-requires
choose-requires t c =
    let left = c.args.left.now in
    let some : 0 < length left = some_left left c.is_empty.result c.is_empty.ensures c.if-is_empty.false in
    let here = c.as_slice-here.result.now in
    let at : here ≡ get_or left 0 here = c.as_slice-here.ensures ∙ (c.index-left-0.is ∙ get_or_default left 0 c.index-left-0.result here some) in
    let shorter = behind_length c.args.target.now c.args.variables.now left here c.requires.few some at _ c.each.r-index _ c.in_ok-behind.behind (omega arith) c.in_ok-behind.ensures in
    let same = ap length c.as_slice-in-each.ensures in
    (omega (arith, shorter, same), (omega (arith, shorter, same, c.requires.few), c.each.invariant.known))

pub returns-in-Some-clause-first : goal.returns-in-Some-clause-first
returns-in-Some-clause-first t c =
    let left = c.args.left.now in
    let some : 0 < length left = some_left left c.is_empty.result c.is_empty.ensures c.if-is_empty.false in
    let here = c.as_slice-here.result.now in
    let at : here ≡ get_or left 0 here = c.as_slice-here.ensures ∙ (c.index-left-0.is ∙ get_or_default left 0 c.index-left-0.result here some) in
    let told : first (choices_apart c.args.target.now (needs_left c.args.variables.now c.as_slice-in-each.result.now) c.as_slice-in-each.result.now) ≡ Some c.in-Some.others.items = sym c.in_ok-found.ensures.first ∙ ap (option_map (λ v. v.items)) c.in-Some.is in
    let found = rw c.as_slice-in-each.ensures at told in
    ap Some c.in_ok-put_first-in-Some.ensures ∙ sym (begun_found c.args.target.now c.args.variables.now left here c.requires.few some at _ c.each.r-index _ c.in_ok-behind.behind (omega arith) c.in_ok-behind.ensures c.in-Some.others.items found c.each.invariant.tried)

pub each-preserved : goal.each-preserved
each-preserved t c =
    let left = c.args.left.now in
    let some : 0 < length left = some_left left c.is_empty.result c.is_empty.ensures c.if-is_empty.false in
    let here = c.as_slice-here.result.now in
    let at : here ≡ get_or left 0 here = c.as_slice-here.ensures ∙ (c.index-left-0.is ∙ get_or_default left 0 c.index-left-0.result here some) in
    let none = nogood_if_not_found c.args.target.now c.args.variables.now c.as_slice-in-each.result.now (sym c.in_ok-found.ensures.first ∙ ap (option_map (λ v. v.items)) c.in-None.is) in
    let nogood : IsNogood c.args.target.now c.args.variables.now c.in_ok-behind.behind = subst (IsNogood c.args.target.now c.args.variables.now) c.as_slice-in-each.ensures none in
    record {
      known = nogoods_more c.args.target.now c.args.variables.now _ c.add.new.self.lists c.in_ok-behind.behind c.in_ok-found.ensures.known nogood c.in_ok-add-in-None.ensures;
      tried = nogood_more c.args.target.now c.args.variables.now left here c.requires.few some at _ c.each.r-index _ c.in_ok-behind.behind (omega arith) c.in_ok-behind.ensures nogood c.each.invariant.tried;
    }

pub returns-clause-first : goal.returns-clause-first
returns-clause-first t c =
    let left = c.args.left.now in
    let some : 0 < length left = some_left left c.is_empty.result c.is_empty.ensures c.if-is_empty.false in
    let here = c.as_slice-here.result.now in
    let at : here ≡ get_or left 0 here = c.as_slice-here.ensures ∙ (c.index-left-0.is ∙ get_or_default left 0 c.index-left-0.result here some) in
    sym (begun_none c.args.target.now c.args.variables.now left here c.requires.few some at c.each.r-index (omega arith) c.each.invariant.tried)
