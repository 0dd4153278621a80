-- Writings of a lane one by one.
use Rattle.std.proofs.Common.{◌≡◌, ◌∙◌, ◌&&◌, ◌+◌, ◌<◌, ◌≤◌, ℕ, Bool, true, false, List, map, length, take, get_or, sym, ap, arith}
use Rattle.std.specs.List.{list_all}
use Rattle.std.proofs.lemmas.List.{get_or-map, length-map, take_all}
use Rattle.std.proofs.lemmas.List.Folds.{list_all_at, list_all_more}
use Rattle.live_lanes.specs.declared.row.DefPiece.{DefPiece}
use Rattle.live_lanes.specs.Table.{Begun, begun}

module _ (test : Begun → Bool) (items : List DefPiece) where
  pub at-writing : (k : ℕ) (d : DefPiece) → k < length items → d ≡ get_or items k d → get_or (map begun items) k (begun d) ≡ begun d
  at-writing k d h own = get_or-map begun items k d (begun d) h ∙ ap begun (sym own)

  pub writing-more : (k : ℕ) (d : DefPiece) → k < length items → d ≡ get_or items k d → list_all test (take k (map begun items)) ≡ true → test (begun d) ≡ true → list_all test (take (k + 1) (map begun items)) ≡ true
  writing-more k d h own a b = list_all_more test (map begun items) k (begun d) (let l = length-map items begun in omega (arith, l, h)) ∙ (λ i. a i && (ap test (at-writing k d h own) ∙ b) i)

  pub writing-fails : (k : ℕ) (d : DefPiece) → k < length items → d ≡ get_or items k d → test (begun d) ≡ false → list_all test (map begun items) ≡ false
  writing-fails k d h own b = list_all_at test (map begun items) k (begun d) (let l = length-map items begun in omega (arith, l, h)) (ap test (at-writing k d h own) ∙ b)

  pub all-writings : (k : ℕ) → length items ≤ k → list_all test (take k (map begun items)) ≡ true → list_all test (map begun items) ≡ true
  all-writings k h a = sym (ap (list_all test) (take_all k (map begun items) (let l = length-map items begun in omega (arith, l, h)))) ∙ a
