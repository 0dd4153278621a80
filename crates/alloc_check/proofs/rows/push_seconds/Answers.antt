use Rattle.std.proofs.Common.{◌≡◌, ◌++◌, ◌∷◌, [], ◌+◌, ℕ, drop, true, false, sym, ap, subst, ◌∙◌, arith}
use Rattle.std.proofs.lemmas.List.{append-nil}
use Rattle.meaning.specs.Code.{Code}
use Rattle.alloc_check.specs.Bare.{first_bare, second_bare, items, bare_item, InSecond}
use Rattle.std.proofs.lemmas.List.{get_or_default}
use Rattle.mir_meaning.specs.Codes.{item_of}
use Rattle.mir_meaning.specs.Agreement.{is_counted}
use Rattle.alloc_check.specs.Compared.{AddsSecond, second_items}
use Rattle.alloc_check.proofs.Pairs.{grown-more, items-at}
use Rattle.alloc_check.proofs.Comparing.{goes-then, goes-none}
use Rattle.alloc_check.proofs.Stepping.{second-goes}
use Rattle.alloc_check.proofs.rows.push_seconds.Goals as goal

pub loop-j-preserved : goal.loop-j-preserved
loop-j-preserved c =
    let t = c.args.t.now in
    let g = c.args.g.now in
    let d = c.args.c.now in
    let old = c.loop-j.rows in
    let new = c.push_second.new.rows in
    let j = c.loop-j.j in
    let i = c.get.result.now in
    let inv = c.loop-j.invariant in
    let grown : InSecond t g d i old new true = subst (InSecond t g d i old new) c.if-not-branch.false c.in_ok-push_second.ensures.sides in
    let adds : AddsSecond t g i old new true = subst (AddsSecond t g i old new) c.if-not-branch.false c.in_ok-push_second.ensures.exact in (
      omega (arith, inv.0),
      omega (arith, c.loop-j-test.true),
      grown.first ∙ (append-nil (first_bare old) ∙ inv.2),
      grown-more (second_bare new) (second_bare old) (bare_item (item_of t g d i) ∷ []) (items t g d (drop (j + 1) d.instrs)) (items t g d (drop j d.instrs)) grown.second (items-at t g d d.instrs j i (omega (arith, c.loop-j-test.true)) c.get.ensures) ∙ inv.3,
      λ f b x p q loud.
          let S : ℕ → Code = λ k. second_items t f g b d (drop k d.instrs) ++ q in
          goes-then c.args.rows.now old new (x ∷ p) (S c.args.from) (x ∷ p) (S j) (x ∷ p) (S (j + 1)) (inv.4 f b x p q loud) (second-goes t f g b d j i old new (omega (arith, c.loop-j-test.true)) c.get.ensures adds.0 adds.1 x p q loud),
    )

pub returns-then-not-branch-clause-sides : goal.returns-then-not-branch-clause-sides
returns-then-not-branch-clause-sides c =
    let t = c.args.t.now in
    let g = c.args.g.now in
    let d = c.args.c.now in
    let inv = c.loop-j.invariant in
    let same : c.push_second.new.rows ≡ c.loop-j.rows = subst (InSecond t g d c.get.result.now c.loop-j.rows c.push_second.new.rows) c.if-not-branch.true c.in_ok-push_second.ensures.sides in
    record {
      least = inv.0;
      most = inv.1;
      first = ap first_bare same ∙ inv.2;
      second = ap (λ r. second_bare r ++ items t g d (drop c.loop-j.j d.instrs)) same ∙ inv.3;
    }

pub returns-then-not-branch-clause-exact : goal.returns-then-not-branch-clause-exact
returns-then-not-branch-clause-exact c =
    let t = c.args.t.now in
    let g = c.args.g.now in
    let d = c.args.c.now in
    let old = c.loop-j.rows in
    let new = c.push_second.new.rows in
    let x = c.get.result.now in
    let adds : AddsSecond t g x old new false = subst (AddsSecond t g x old new) c.if-not-branch.true c.in_ok-push_second.ensures.exact in
    record {
      next = λ y lt. ap (is_counted t) (get_or_default d.instrs c.loop-j.j y x lt ∙ sym c.get.ensures) ∙ adds.0;
      goes = λ f b i p q loud.
          let S : ℕ → Code = λ k. second_items t f g b d (drop k d.instrs) ++ q in
          goes-then c.args.rows.now old new (i ∷ p) (S c.args.from) (i ∷ p) (S c.loop-j.j) (i ∷ p) (S c.loop-j.j) (c.loop-j.invariant.4 f b i p q loud) (goes-none old new (i ∷ p) (second_items t f g b d (drop c.loop-j.j d.instrs) ++ q) adds.1);
    }

pub returns-clause-exact : goal.returns-clause-exact
returns-clause-exact c = record { next = λ y lt. absurd (let x : ⊥ = omega (arith, lt) in x); goes = c.loop-j.invariant.4 }
