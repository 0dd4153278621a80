use Rattle.std.proofs.Common.{◌≡◌, ◌++◌, ◌∷◌, [], ◌+◌, ◌<◌, ◌≤◌, ℕ, List, true, false, Some, None, IfSome, drop, get_or, length, map, refl, sym, ap, subst, ◌∙◌, arith}
use Rattle.meaning.specs.Code.{BlockEnd, Code}
use Rattle.mir_func.specs.declared.func.Instr.{Instr}
use Rattle.mir_meaning.specs.Agreement.{is_counted}
use Rattle.mir_meaning.specs.Codes.{item_of}
use Rattle.alloc_check.specs.Bare.{first_bare, second_bare, items, bare_item, Stepped}
use Rattle.alloc_check.specs.Compared.{Goes, GoesOn, compared, in_order, ordered, first_items, second_items}
use Rattle.alloc_check.proofs.Pairs.{grown-rest, items-at}
use Rattle.alloc_check.proofs.Comparing.{goes-never, goes-then}
use Rattle.alloc_check.proofs.Stepping.{end-unmet, firsts-end, instr-at, map-at, seconds-end}
use Rattle.alloc_check.proofs.rows.push_instrs.Goals as goal

pub loop-i-preserved : goal.loop-i-preserved
loop-i-preserved c =
    let t = c.args.t.now in
    let f = c.args.pair.now.f.now in
    let g = c.args.pair.now.g.now in
    let b = c.args.pair.now.b.now in
    let d = c.args.pair.now.c.now in
    let i = c.get-i.result.now in
    let n = c.loop-i.i-index in
    let j = c.loop-i.j in
    let to = c.in-Some.next in
    let r0 = c.args.rows.now in
    let old = c.loop-i.rows in
    let new = c.push_next.new.rows in
    let inv = c.loop-i.invariant in
    let lt : n < length b.instrs = omega (arith, ap (λ (is : List Instr). length is) c.as_slice-i-items.ensures) in
    let found : c.i-item.result ≡ get_or b.instrs n c.i-item.result = c.i-item.is ∙ ap (λ (is : List Instr). get_or is n c.i-item.result) c.as_slice-i-items.ensures in
    let at : i ≡ get_or b.instrs n i = subst (λ x. x ≡ get_or b.instrs n x) (sym c.get-i.ensures) found in
    let step : Stepped t f g b d i j to old new = subst (λ o. IfSome o (λ k. Stepped t f g b d i j k old new)) c.in-Some.is c.in_ok-push_next.ensures.sides in (
      step.within,
      grown-rest (first_bare new) (first_bare old) (bare_item (item_of t f b i)) (items t f b (drop (n + 1) b.instrs)) (items t f b (drop n b.instrs)) step.first (items-at t f b b.instrs n i lt at) ∙ inv.1,
      step.second ∙ inv.2,
      λ alike p q.
          let P = first_items t f b (drop (n + 1) b.instrs) ++ p in
          let S : ℕ → Code = λ k. second_items t f g b d (drop k d.instrs) ++ q in
          let on : GoesOn t f g b d i j old new (Some to) = subst (GoesOn t f g b d i j old new) c.in-Some.is (c.in_ok-push_next.ensures.exact alike) in
          let here : Goes true old (first_items t f b (drop n b.instrs) ++ p) (S j) new P (S to) =
          subst (λ xs. Goes true old (xs ++ p) (S j) new P (S to)) (sym (map-at (item_of t f b) b.instrs n i lt at)) (on P q) in
          goes-then r0 old new (first_items t f b b.instrs ++ p) (second_items t f g b d d.instrs ++ q) (first_items t f b (drop n b.instrs) ++ p) (S j) P (S to) (inv.3 alike p q) here,
    )

pub returns-in-None-clause-exact : goal.returns-in-None-clause-exact
returns-in-None-clause-exact c alike p q falls falls' exits exits' =
    let t = c.args.t.now in
    let f = c.args.pair.now.f.now in
    let g = c.args.pair.now.g.now in
    let b = c.args.pair.now.b.now in
    let d = c.args.pair.now.c.now in
    let i = c.get-i.result.now in
    let n = c.loop-i.i-index in
    let j = c.loop-i.j in
    let r0 = c.args.rows.now in
    let old = c.loop-i.rows in
    let new = c.push_next.new.rows in
    let lt : n < length b.instrs = omega (arith, ap (λ (is : List Instr). length is) c.as_slice-i-items.ensures) in
    let found : c.i-item.result ≡ get_or b.instrs n c.i-item.result = c.i-item.is ∙ ap (λ (is : List Instr). get_or is n c.i-item.result) c.as_slice-i-items.ensures in
    let at : i ≡ get_or b.instrs n i = subst (λ x. x ≡ get_or b.instrs n x) (sym c.get-i.ensures) found in
    let E = BlockEnd falls exits ∷ p in
    let E' = BlockEnd falls' exits' ∷ q in
    let P = first_items t f b (drop (n + 1) b.instrs) ++ E in
    let S = second_items t f g b d (drop j d.instrs) ++ E' in
    let on : GoesOn t f g b d i j old new None = subst (GoesOn t f g b d i j old new) c.in-None.is (c.in_ok-push_next.ensures.exact alike) in
    goes-never r0 old (first_items t f b b.instrs ++ E) (second_items t f g b d d.instrs ++ E') (first_items t f b (drop n b.instrs) ++ E) S (c.loop-i.invariant.3 alike E E')
    (subst (λ xs. compared (xs ++ E) S ≡ None) (sym (map-at (item_of t f b) b.instrs n i lt at)) (on P q falls' exits'))

pub returns-then-end-len-clause-exact : goal.returns-then-end-len-clause-exact
returns-then-end-len-clause-exact c alike p q falls falls' exits exits' =
    let t = c.args.t.now in
    let f = c.args.pair.now.f.now in
    let g = c.args.pair.now.g.now in
    let b = c.args.pair.now.b.now in
    let d = c.args.pair.now.c.now in
    let n = c.loop-i.i-index in
    let j = c.loop-i.j in
    let r0 = c.args.rows.now in
    let old = c.loop-i.rows in
    let new = c.push_seconds.new.rows in
    let at = c.in_ok-end.end in
    let E = BlockEnd falls exits ∷ p in
    let E' = BlockEnd falls' exits' ∷ q in
    let S : ℕ → Code = λ k. second_items t f g b d (drop k d.instrs) ++ E' in
    let lt : at < length d.instrs = omega arith in
    let x = instr-at d.instrs at lt in
    let passes = c.in_ok-end.ensures.exact in
    let counts : is_counted t x.0 ≡ true = ap (is_counted t) x.1 ∙ passes.next x.0 lt in
    let apart : compared E (S at) ≡ None = subst (λ xs. compared E (xs ++ E') ≡ None) (sym (map-at (item_of t (ordered f g) (in_order b d)) d.instrs at x.0 lt x.1)) (end-unmet t (ordered f g) (in_order b d) x.0 counts falls exits p (second_items t f g b d (drop (at + 1) d.instrs) ++ E')) in
    let before : compared E (S j) ≡ None = goes-never old new E (S j) E (S at) (passes.goes f b (BlockEnd falls exits) p E' refl) apart in
    goes-never r0 old (first_items t f b b.instrs ++ E) (second_items t f g b d d.instrs ++ E') (first_items t f b (drop n b.instrs) ++ E) (S j) (c.loop-i.invariant.3 alike E E')
    (subst (λ z. compared z (S j) ≡ None) (sym (firsts-end t f b n (omega (arith, ap (λ (is : List Instr). length is) c.as_slice-i-items.ensures)) E)) before)

pub returns-clause-exact : goal.returns-clause-exact
returns-clause-exact c alike p q falls falls' exits exits' =
    let t = c.args.t.now in
    let f = c.args.pair.now.f.now in
    let g = c.args.pair.now.g.now in
    let b = c.args.pair.now.b.now in
    let d = c.args.pair.now.c.now in
    let n = c.loop-i.i-index in
    let j = c.loop-i.j in
    let r0 = c.args.rows.now in
    let old = c.loop-i.rows in
    let new = c.push_seconds.new.rows in
    let at = c.in_ok-end.end in
    let E = BlockEnd falls exits ∷ p in
    let E' = BlockEnd falls' exits' ∷ q in
    let S : ℕ → Code = λ k. second_items t f g b d (drop k d.instrs) ++ E' in
    let passes : Goes true old E (S j) new E (S at) = c.in_ok-end.ensures.exact.goes f b (BlockEnd falls exits) p E' refl in
    let last : Goes true old E (S j) new E E' = subst (λ z. Goes true old E (S j) new E z) (seconds-end t f g b d at (omega arith) E') passes in
    let first : Goes true r0 (first_items t f b b.instrs ++ E) (second_items t f g b d d.instrs ++ E') old E (S j) =
    subst (λ z. Goes true r0 (first_items t f b b.instrs ++ E) (second_items t f g b d d.instrs ++ E') old z (S j)) (firsts-end t f b n (omega (arith, ap (λ (is : List Instr). length is) c.as_slice-i-items.ensures)) E) (c.loop-i.invariant.3 alike E E') in
    goes-then r0 old new (first_items t f b b.instrs ++ E) (second_items t f g b d d.instrs ++ E') E (S j) E E' first last
