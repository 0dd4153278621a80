use Rattle.std.proofs.Common.{◌≡◌, ◌==◌, ◌∷◌, [], ◌++◌, take, drop, set, get_or, true, false, sym, ◌∙◌, ap, arith}
use Rattle.std.specs.List.{position}
use Rattle.std.proofs.lemmas.Grind.{common_steps}
use Rattle.watchers.specs.RegisterCounts.{given_again}
use Rattle.watchers.proofs.RegisterCounts.{is_behind, once_last, once_again, once_between}
use Rattle.watchers.proofs.pressure.give.Goals as goal

pub returns-in_default-clause-ok : goal.returns-in_default-clause-ok
returns-in_default-clause-ok c =
    let at = ap (position (is_behind c.args.r)) (sym c.as_slice.ensures.value) ∙ sym c.place_of.ensures ∙ c.in_default.is in
    c.in_ok-push.ensures.items ∙ ap (λ g. c.args.given.now.items ++ g ∷ []) c.in_ok-first_given.ensures
    ∙ sym (once_last c.args.target.now c.args.given.now.items c.args.r at)

pub returns-then-index-r-clause-ok : goal.returns-then-index-r-clause-ok
returns-then-index-r-clause-ok c =
    let at = ap (position (is_behind c.args.r)) (sym c.as_slice.ensures.value) ∙ sym c.place_of.ensures ∙ c.in-Some.is in
    let found = c.index_mut-entry.result.now in
    let same : ((get_or c.args.given.now.items c.in-Some.place found).register.0 == c.args.r.0) ≡ true = grind (arith, common_steps) in
    ap (λ n. set c.args.given.now.items c.in-Some.place (record found { count = n })) c.next_count-entry.ensures
    ∙ ap (λ g. set c.args.given.now.items c.in-Some.place (given_again g)) c.index_mut-entry.ensures.value
    ∙ once_again c.args.target.now c.args.given.now.items c.args.r c.in-Some.place found at same

pub returns-clause-ok : goal.returns-clause-ok
returns-clause-ok c =
    let at = ap (position (is_behind c.args.r)) (sym c.as_slice.ensures.value) ∙ sym c.place_of.ensures ∙ c.in-Some.is in
    let found = c.index.result.now in
    let other : ((get_or c.args.given.now.items c.in-Some.place found).register.0 == c.args.r.0) ≡ false = grind (arith, common_steps) in
    c.in_ok-insert.ensures.items ∙ ap (λ g. take c.in-Some.place c.args.given.now.items ++ g ∷ drop c.in-Some.place c.args.given.now.items) c.in_ok-first_given-2.ensures
    ∙ once_between c.args.target.now c.args.given.now.items c.args.r c.in-Some.place found at other
