use Rattle.std.proofs.Common.{◌≡◌, ◌++◌, ◌∷◌, [], ◌+◌, ◌<◌, ◌≤◌, ℕ, None, drop, length, true, false, sym, ap, subst, ◌∙◌, arith}
use Rattle.alloc_check.specs.Bare.{first_bare, second_bare, items, bare_item, InFirst}
use Rattle.mir_meaning.specs.Codes.{item_of}
use Rattle.alloc_check.proofs.Pairs.{grown-more, grown-none, items-at}
use Rattle.meaning.specs.Code.{BlockEnd, Code}
use Rattle.mir_meaning.specs.Agreement.{is_counted}
use Rattle.alloc_check.specs.Compared.{AddsFirst, PairGoes, Goes, compared, in_order, ordered, second_items}
use Rattle.alloc_check.proofs.Comparing.{goes-never, goes-then}
use Rattle.alloc_check.proofs.Stepping.{counted-unmet, first-goes, loud-item, map-at, seconds-end}
use Rattle.alloc_check.proofs.rows.push_next.Goals as goal

pub returns-then-branch-clause-sides : goal.returns-then-branch-clause-sides
returns-then-branch-clause-sides c =
    let t = c.args.t.now in
    let d = c.args.pair.now.c.now in
    let old = c.args.rows.now in
    let new = c.push_first.new.rows in
    let grown : InFirst t c.args.pair.now.f.now c.args.pair.now.b.now c.args.i.now old new true = subst (InFirst t c.args.pair.now.f.now c.args.pair.now.b.now c.args.i.now old new) c.if-branch.true c.in_ok-push_first.ensures.sides in
    record {
      within = c.requires.within;
      first = grown.first;
      second = grown-none (second_bare new) (second_bare old) (items t c.args.pair.now.g.now d (drop c.args.j d.instrs)) grown.second;
    }

pub returns-clause-sides : goal.returns-clause-sides
returns-clause-sides c =
    let t = c.args.t.now in
    let f = c.args.pair.now.f.now in
    let g = c.args.pair.now.g.now in
    let b = c.args.pair.now.b.now in
    let d = c.args.pair.now.c.now in
    let i = c.args.i.now in
    let r0 = c.args.rows.now in
    let r1 = c.push_first.new.rows in
    let r2 = c.push_seconds.new.rows in
    let r3 = c.push_pair.new.rows in
    let at = c.in_ok-at.at in
    let x = c.get.result.now in
    let same : r1 ≡ r0 = subst (InFirst t f b i r0 r1) c.if-branch.false c.in_ok-push_first.ensures.sides in
    let passed = c.in_ok-at.ensures.sides in
    let grown = c.in_ok-push_pair.ensures.sides c.if-not-branch.false in
    record {
      within = omega arith;
      first = grown.first ∙ ap (λ p. p ++ bare_item (item_of t f b i) ∷ []) (passed.first ∙ ap first_bare same);
      second = grown-more (second_bare r3) (second_bare r2) (bare_item (item_of t g d x) ∷ []) (items t g d (drop (at + 1) d.instrs)) (items t g d (drop at d.instrs)) grown.second (items-at t g d d.instrs at x (omega arith) c.get.ensures) ∙ (passed.second ∙ ap (λ r. second_bare r ++ items t g d (drop c.args.j d.instrs)) same);
    }

pub returns-then-branch-clause-exact : goal.returns-then-branch-clause-exact
returns-then-branch-clause-exact c alike p q =
    let t = c.args.t.now in
    let f = c.args.pair.now.f.now in
    let g = c.args.pair.now.g.now in
    let b = c.args.pair.now.b.now in
    let d = c.args.pair.now.c.now in
    let i = c.args.i.now in
    let old = c.args.rows.now in
    let new = c.push_first.new.rows in
    let adds : AddsFirst t f i old new true = subst (AddsFirst t f i old new) c.if-branch.true c.in_ok-push_first.ensures.exact in
    first-goes t f b i old new adds.0 adds.1 p (second_items t f g b d (drop c.args.j d.instrs) ++ q)

pub returns-then-not-branch-clause-exact : goal.returns-then-not-branch-clause-exact
returns-then-not-branch-clause-exact c alike p q falls exits =
    let t = c.args.t.now in
    let f = c.args.pair.now.f.now in
    let g = c.args.pair.now.g.now in
    let b = c.args.pair.now.b.now in
    let d = c.args.pair.now.c.now in
    let i = c.args.i.now in
    let r0 = c.args.rows.now in
    let r1 = c.push_first.new.rows in
    let r2 = c.push_seconds.new.rows in
    let at = c.in_ok-at.at in
    let x = c.get.result.now in
    let adds : AddsFirst t f i r0 r1 false = subst (AddsFirst t f i r0 r1) c.if-branch.false c.in_ok-push_first.ensures.exact in
    let passes = c.in_ok-at.ensures.exact in
    let lt : at < length d.instrs = omega arith in
    let counts : is_counted t x ≡ true = ap (is_counted t) c.get.ensures ∙ passes.next x lt in
    let item = item_of t f b i in
    let end = BlockEnd falls exits ∷ q in
    let rest = second_items t f g b d (drop (at + 1) d.instrs) ++ end in
    let apart : compared (item ∷ p) (item_of t (ordered f g) (in_order b d) x ∷ rest) ≡ None = (subst (PairGoes t f g b d i x r2 c.push_pair.new.rows) c.if-not-branch.true c.in_ok-push_pair.ensures.exact) adds.0 counts alike p rest in
    goes-never r1 r2 (item ∷ p) (second_items t f g b d (drop c.args.j d.instrs) ++ end) (item ∷ p) (second_items t f g b d (drop at d.instrs) ++ end)
    (passes.goes f b item p end (loud-item t f b i adds.0))
    (subst (λ xs. compared (item ∷ p) (xs ++ end) ≡ None) (sym (map-at (item_of t (ordered f g) (in_order b d)) d.instrs at x lt c.get.ensures)) apart)

pub returns-clause-exact : goal.returns-clause-exact
returns-clause-exact c alike p q =
    let t = c.args.t.now in
    let f = c.args.pair.now.f.now in
    let g = c.args.pair.now.g.now in
    let b = c.args.pair.now.b.now in
    let d = c.args.pair.now.c.now in
    let i = c.args.i.now in
    let r0 = c.args.rows.now in
    let r1 = c.push_first.new.rows in
    let r2 = c.push_seconds.new.rows in
    let r3 = c.push_pair.new.rows in
    let at = c.in_ok-at.at in
    let x = c.get.result.now in
    let adds : AddsFirst t f i r0 r1 false = subst (AddsFirst t f i r0 r1) c.if-branch.false c.in_ok-push_first.ensures.exact in
    let passes = c.in_ok-at.ensures.exact in
    let lt : at < length d.instrs = omega arith in
    let counts : is_counted t x ≡ true = ap (is_counted t) c.get.ensures ∙ passes.next x lt in
    let item = item_of t f b i in
    let S : ℕ → Code = λ k. second_items t f g b d (drop k d.instrs) ++ q in
    let pair : Goes true r2 (item ∷ p) (item_of t (ordered f g) (in_order b d) x ∷ S (at + 1)) r3 p (S (at + 1)) = (subst (PairGoes t f g b d i x r2 r3) c.if-not-branch.false c.in_ok-push_pair.ensures.exact) adds.0 counts alike p (S (at + 1)) in
    let second : Goes true r2 (item ∷ p) (S at) r3 p (S (at + 1)) = subst (λ xs. Goes true r2 (item ∷ p) (xs ++ q) r3 p (S (at + 1))) (sym (map-at (item_of t (ordered f g) (in_order b d)) d.instrs at x lt c.get.ensures)) pair in
    let first : Goes true r0 (item ∷ p) (S c.args.j) r2 (item ∷ p) (S at) = subst (λ r. Goes true r (item ∷ p) (S c.args.j) r2 (item ∷ p) (S at)) adds.1 (passes.goes f b item p q (loud-item t f b i adds.0)) in
    goes-then r0 r2 r3 (item ∷ p) (S c.args.j) (item ∷ p) (S at) p (S (at + 1)) first second

pub returns-then-at-len-clause-exact : goal.returns-then-at-len-clause-exact
returns-then-at-len-clause-exact c alike p q falls exits =
    let t = c.args.t.now in
    let f = c.args.pair.now.f.now in
    let g = c.args.pair.now.g.now in
    let b = c.args.pair.now.b.now in
    let d = c.args.pair.now.c.now in
    let i = c.args.i.now in
    let r0 = c.args.rows.now in
    let r1 = c.push_first.new.rows in
    let r2 = c.push_seconds.new.rows in
    let at = c.in_ok-at.at in
    let adds : AddsFirst t f i r0 r1 false = subst (AddsFirst t f i r0 r1) c.if-branch.false c.in_ok-push_first.ensures.exact in
    let item = item_of t f b i in
    let end = BlockEnd falls exits ∷ q in
    let past : length d.instrs ≤ at = omega arith in
    goes-never r1 r2 (item ∷ p) (second_items t f g b d (drop c.args.j d.instrs) ++ end) (item ∷ p) (second_items t f g b d (drop at d.instrs) ++ end)
    (c.in_ok-at.ensures.exact.goes f b item p end (loud-item t f b i adds.0))
    (subst (λ z. compared (item ∷ p) z ≡ None) (sym (seconds-end t f g b d at past end)) (counted-unmet t f b i adds.0 falls exits p q))
