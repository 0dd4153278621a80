use Rattle.std.proofs.Common.{◌≡◌, ◌≤◌, ◌+◌, [], true, false, drop, length, sym, subst, arith, ◌∙◌}
use Rattle.mir_meaning.specs.Codes.{code_of}
use Rattle.alloc_check.specs.Bare.{first_bare, second_bare, blocks_bare, block_bare}
use Rattle.alloc_check.proofs.Pairs.{grown-more, blocks-at, sides-whole}
use Rattle.alloc_check.specs.Compared.{BlockGoes, Goes, first_from, second_from}
use Rattle.alloc_check.proofs.Comparing.{goes-never, goes-then}
use Rattle.alloc_check.proofs.Ordered.{lengths-alike}
use Rattle.alloc_check.proofs.Blocks.{from-end, from-end', whole-goes}
use Rattle.alloc_check.proofs.rows.rows_of.Goals as goal

pub loop-k-preserved : goal.loop-k-preserved
loop-k-preserved c =
    let t = c.args.t.now in
    let f = c.args.f.now in
    let g = c.args.g.now in
    let k = c.loop-k.k in
    let b = c.block_at-b.result.now in
    let d = c.block_at-c.result.now in
    let old = c.loop-k.rows in
    let new = c.push_block.new.rows in
    let inv = c.loop-k.invariant in
    let grown = c.in_ok-push_block.ensures.sides c.if-not-branch.false in
    let goes : BlockGoes t f g k b d old new true = subst (BlockGoes t f g k b d old new) c.if-not-branch.false c.in_ok-push_block.ensures.exact in (
      grown-more (first_bare new) (first_bare old) (block_bare t f b (drop (k + 1) f.blocks)) (blocks_bare t f (drop (k + 1) f.blocks)) (blocks_bare t f (drop k f.blocks)) grown.first (blocks-at t f f.blocks k b (omega arith) c.block_at-b.ensures) ∙ inv.0,
      grown-more (second_bare new) (second_bare old) (block_bare t g d (drop (k + 1) g.blocks)) (blocks_bare t g (drop (k + 1) g.blocks)) (blocks_bare t g (drop k g.blocks)) grown.second (blocks-at t g g.blocks k d (omega arith) c.block_at-c.ensures) ∙ inv.1,
      λ alike. goes-then [] old new (first_from t f 0) (second_from t f g 0) (first_from t f k) (second_from t f g k) (first_from t f (k + 1)) (second_from t f g (k + 1)) (inv.2 alike) (goes alike c.block_at-b.ensures c.block_at-c.ensures),
    )

pub returns-clause-sides : goal.returns-clause-sides
returns-clause-sides c =
    let t = c.args.t.now in
    let f = c.args.f.now in
    let g = c.args.g.now in
    let rows = c.loop-k.rows in
    record {
      first = sides-whole t f (first_bare rows) c.loop-k.k (omega arith) c.loop-k.invariant.0;
      second = sides-whole t g (second_bare rows) c.loop-k.k (omega arith) c.loop-k.invariant.1;
    }

pub returns-clause-exact : goal.returns-clause-exact
unfolding code_of
returns-clause-exact c alike =
    let t = c.args.t.now in
    let f = c.args.f.now in
    let g = c.args.g.now in
    let k = c.loop-k.k in
    let le : length f.blocks ≤ k = omega arith in
    let le' : length g.blocks ≤ k = omega (arith, lengths-alike f.blocks g.blocks alike) in
    whole-goes c.loop-k.rows (first_from t f 0) (second_from t f g 0)
    (subst (λ p. Goes true [] (first_from t f 0) (second_from t f g 0) c.loop-k.rows p []) (from-end t f k le)
    (subst (λ q. Goes true [] (first_from t f 0) (second_from t f g 0) c.loop-k.rows (first_from t f k) q) (from-end' t f g k le) (c.loop-k.invariant.2 alike)))

pub returns-then-not-branch-clause-exact : goal.returns-then-not-branch-clause-exact
unfolding code_of
returns-then-not-branch-clause-exact c alike =
    let t = c.args.t.now in
    let f = c.args.f.now in
    let g = c.args.g.now in
    let k = c.loop-k.k in
    let b = c.block_at-b.result.now in
    let d = c.block_at-c.result.now in
    let old = c.loop-k.rows in
    let new = c.push_block.new.rows in
    let goes : BlockGoes t f g k b d old new false = subst (BlockGoes t f g k b d old new) c.if-not-branch.true c.in_ok-push_block.ensures.exact in
    sym (goes-never [] old (first_from t f 0) (second_from t f g 0) (first_from t f k) (second_from t f g k) (c.loop-k.invariant.2 alike) (goes alike c.block_at-b.ensures c.block_at-c.ensures))

pub returns-then-block_count-clause-exact : goal.returns-then-block_count-clause-exact
returns-then-block_count-clause-exact c alike = absurd (c.if-block_count.true (c.block_count.ensures.value ∙ (lengths-alike c.args.f.now.blocks c.args.g.now.blocks alike ∙ sym c.block_count-2.ensures.value)))
