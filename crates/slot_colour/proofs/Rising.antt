-- Numbers put into a list that rises.
use Rattle.std.proofs.Common.{◌≡◌, ℕ, suc, ◌+◌, Bool, true, false, cond, List, [], ◌∷◌, refl, ap, arith}
use Rattle.std.specs.Prelude.{nat_le}
use Rattle.std.specs.List.{position_or_len, insert}
use Rattle.slot_colour.specs.Colouring.{put_rising}

pub insert_rising : (n : ℕ) (xs : List ℕ) → insert xs (position_or_len (nat_le n) xs) n ≡ put_rising n xs
insert_rising n [] = refl
insert_rising n (x ∷ xs) = go (nat_le n x) refl (insert_rising n xs)
  where
    go : (b : Bool) → nat_le n x ≡ b → insert xs (position_or_len (nat_le n) xs) n ≡ put_rising n xs → insert (x ∷ xs) (position_or_len (nat_le n) (x ∷ xs)) n ≡ cond b (n ∷ x ∷ xs) (x ∷ put_rising n xs)
    go true e ih = rw e refl
    go false e ih = let q : 1 + position_or_len (nat_le n) xs ≡ suc (position_or_len (nat_le n) xs) = omega arith in rw (e, q) (ap (λ ys. x ∷ ys) ih)
