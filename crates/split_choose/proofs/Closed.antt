-- The ways between blocks lead to blocks of the function.
use Rattle.std.proofs.Common.{◌≡◌, ◌∙◌, ℕ, zero, suc, ◌<◌, ◌≤◌, List, [], ◌∷◌, Bool, true, false, refl, sym, ap, subst, length, arith, Option, None, Some}
use Rattle.std.specs.Prelude.{slice_get}
use Rattle.std.proofs.lemmas.Bool.{false≢true}
use Rattle.mir_func.specs.declared.func.Block.{Block}
use Rattle.mir_func.specs.Value.{Function}
use Rattle.live_lanes.specs.declared.table.Table.{Table}
use Rattle.mir_meaning.specs.Paths.{has}
use Rattle.live_lanes.specs.Ordered.{place_of}
use Rattle.live_lanes.specs.Flowing.{edge_places}
use Rattle.live_lanes.specs.Ways.{successors}
use Rattle.split_choose.specs.Bundles.{IsClosed}
use Rattle.split_choose.specs.Seen.{FindsWays}
use Rattle.split_choose.proofs.Bordered.{edge-at, place-block}

got-within : {X : Type 0} (xs : List X) (k : ℕ) (x : X) → slice_get xs k ≡ Some x → k < length xs
got-within [] k x e = absurd (cc)
got-within (y ∷ xs) zero x e = omega arith
got-within (y ∷ xs) (suc k) x e = let h : k < length xs = got-within xs k x e in omega arith

got-none : {X : Type 0} (xs : List X) (k : ℕ) → length xs ≤ k → slice_get xs k ≡ None
got-none [] k h = refl
got-none (x ∷ xs) zero h = absurd (omega arith)
got-none (x ∷ xs) (suc k) h = got-none xs k (omega arith)

module _ (f : Function) (x : Table) (ways : FindsWays f x) where
  exits : ℕ → List ℕ
  exits k = elim (slice_get f.blocks k) [ None ↦ [] | Some b ↦ edge_places (λ m. place_of m f.blocks) b.successors ]

  leads : (k n : ℕ) → has n (exits k) ≡ true → n < length f.blocks
  unfolding exits
  leads k n h = go (slice_get f.blocks k) h
    where
      go : (o : Option Block) → has n (elim o [ None ↦ [] | Some b ↦ edge_places (λ m. place_of m f.blocks) b.successors ]) ≡ true → n < length f.blocks
      go None h = absurd (false≢true h)
      go (Some b) h = let e = edge-at f.blocks b.successors n h in let at = place-block e.0.block f.blocks n e.2 in got-within f.blocks n at.0 at.1

  pub closed : IsClosed (successors x.flow.items) (length f.blocks)
  unfolding exits
  closed = record {
    few = ways.few;
    within = λ k lt n h. leads k n (sym (ways.ways k n) ∙ h);
    ends = λ k le n h. absurd (false≢true (sym (ap (λ (o : Option Block). has n (elim o [ None ↦ [] | Some b ↦ edge_places (λ m. place_of m f.blocks) b.successors ])) (got-none f.blocks k le)) ∙ (sym (ways.ways k n) ∙ h)));
  }
