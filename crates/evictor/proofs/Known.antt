-- A range in the way has a number below that of the ranges.
use Rattle.std.proofs.Common.{◌≡◌, ◌⊎◌, inl, inr, ℕ, ◌<◌, ◌≤◌, List, [], ◌∷◌, Bool, true, false, length, arith}
use Rattle.std.specs.Prelude.{◌&&◌, ◌||◌, not, nat_eq, nat_le}
use Rattle.std.specs.List.{list_any}
use Rattle.std.proofs.lemmas.Bool.{or_parts, or_cases, eqb-true, ltb-true}
use Rattle.std.proofs.lemmas.Bool.Decides.{nat_tests}
use Rattle.target_base.specs.declared.types.Reg.{Reg}
use Rattle.interference.specs.declared.matrix.Matrix.{Matrix}
use Rattle.interference.specs.Clashes.{IsOrdered, Points, holds, touches, is_taken_at, points_in, is_in_way}
use Rattle.interference.specs.declared.held.RangeExtent.{RangeExtent}
use Rattle.evictor.proofs.Tops.{and_parts}

above : (n r : ℕ) → nat_le n r ≡ false → r < n
above n r h = grind (arith, nat_tests)

-- where no range of a list is too great, and one of them is w
held_known : {X : Type 0} (range : X → ℕ) (g : X → Bool) (n w : ℕ) (hs : List X) → list_any (λ h. nat_le n (range h)) hs ≡ false → list_any (λ h. nat_eq (range h) w && g h) hs ≡ true → w < n
held_known range g n w [] k t = cc
held_known {X} range g n w (h ∷ hs) k t = go (or_cases (nat_eq (range h) w && g h) (list_any (λ h. nat_eq (range h) w && g h) hs) t) (held_known range g n w hs parts.1)
  where
    parts : (nat_le n (range h) ≡ false) × (list_any (λ h. nat_le n (range h)) hs ≡ false)
    parts = or_parts (nat_le n (range h)) (list_any (λ h. nat_le n (range h)) hs) k

    go : ((nat_eq (range h) w && g h) ≡ true) ⊎ (list_any (λ h. nat_eq (range h) w && g h) hs ≡ true) → (list_any (λ h. nat_eq (range h) w && g h) hs ≡ true → w < n) → w < n
    go (inl e) rest = let same = eqb-true (range h) w (and_parts (nat_eq (range h) w) (g h) e).0 in let less = above n (range h) parts.0 in omega arith
    go (inr e) rest = rest e

-- the same of several lists
some_known : {P X : Type 0} (range : X → ℕ) (hold : P → List X) (g : P → X → Bool) (n w : ℕ) → ((p : P) → list_any (λ h. nat_le n (range h)) (hold p) ≡ false) → (ps : List P) → list_any (λ p. list_any (λ h. nat_eq (range h) w && g p h) (hold p)) ps ≡ true → w < n
some_known range hold g n w all [] t = cc
some_known range hold g n w all (p ∷ ps) t = go (or_cases (list_any (λ h. nat_eq (range h) w && g p h) (hold p)) (list_any (λ p. list_any (λ h. nat_eq (range h) w && g p h) (hold p)) ps) t) (some_known range hold g n w all ps)
  where
    go : (list_any (λ h. nat_eq (range h) w && g p h) (hold p) ≡ true) ⊎ (list_any (λ p. list_any (λ h. nat_eq (range h) w && g p h) (hold p)) ps ≡ true) → (list_any (λ p. list_any (λ h. nat_eq (range h) w && g p h) (hold p)) ps ≡ true → w < n) → w < n
    go (inl e) rest = held_known range (g p) n w (hold p) (all p) e
    go (inr e) rest = rest e

pub way_known : (m : Matrix) (v w : ℕ) (p : Reg) → IsOrdered m → is_in_way m v p w ≡ true → w < length m.live.func.classes
way_known m v w p o h =
    let taken = and_parts (not (nat_eq w v)) (list_any (is_taken_at m w) (points_in m v p)) h in
    let less = some_known (λ (x : RangeExtent). x.range) (λ (s : Points). holds m s.unit s.block) (λ (s : Points). touches m.live.table.order.slots s.at) (length m.registers.items) w (λ s. o.known s.unit s.block) (points_in m v p) taken.1 in
    omega (arith, o.registers)
