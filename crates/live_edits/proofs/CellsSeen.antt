-- What the cell of a lane in a block tells, as it is found, and what is so where there is none.
use Rattle.std.proofs.Common.{◌≡◌, inl, inr, ℕ, zero, suc, true, false, nat_eq, List, [], None, Some, refl, sym, ap, ◌∙◌, eqb-true, eq-eqb, reverse}
use Rattle.std.specs.Prelude.{find}
use Rattle.live_lanes.specs.declared.compute.flow.BlockFlow.{BlockFlow}
use Rattle.live_lanes.specs.declared.row.Cause.TheVariants as reasons
use Rattle.live_lanes.specs.declared.row.Cell.{Cell}
use Rattle.live_lanes.specs.declared.row.LaneRange.{LaneRange}
use Rattle.live_lanes.specs.Graph.{is_live}
use Rattle.live_lanes.specs.Table.{Numbers, unseen, seen, seen_cell, find_cell, cause_in, readings_in, certain_cause, cause_of, is_certain}
use Rattle.live_lanes.specs.Entered.{rows_seen, cells_of, causes}
use Rattle.live_lanes.proofs.Alike.{seen-cells}
use Rattle.live_edits.specs.Updated.{LeadsOut}

pub found-seen : (rows : List LaneRange) (l b : ℕ) (c : Cell) → Some c ≡ find_cell b (cells_of rows l) → seen_cell c ≡ rows_seen rows l b
found-seen rows l b c e = ap seen e ∙ sym (seen-cells rows l b)

pub none-seen : (rows : List LaneRange) (l b : ℕ) → None ≡ find_cell b (cells_of rows l) → unseen ≡ rows_seen rows l b
none-seen rows l b e = ap seen e ∙ sym (seen-cells rows l b)

-- where there is no cell

unseen-dead : (n : ℕ) → is_live (cause_in unseen n) ≡ false
unseen-dead zero = refl
unseen-dead (suc zero) = refl
unseen-dead (suc (suc n)) = refl

unseen-readings : (n : ℕ) → readings_in unseen n ≡ []
unseen-readings zero = refl
unseen-readings (suc zero) = refl
unseen-readings (suc (suc n)) = refl

unseen-certain : (n : ℕ) → reasons.None ≡ certain_cause unseen n
unseen-certain n = sym (ap (λ rs. cause_of (find is_certain (reverse rs))) (unseen-readings n))

module _ (rows : List LaneRange) (l b n : ℕ) (e : unseen ≡ rows_seen rows l b) where
  pub none-dead : is_live (causes rows l b n) ≡ false
  none-dead = ap (λ v. is_live (cause_in v n)) (sym e) ∙ unseen-dead n

  pub none-read : readings_in (rows_seen rows l b) n ≡ []
  none-read = ap (λ v. readings_in v n) (sym e) ∙ unseen-readings n

  pub none-certain : reasons.None ≡ certain_cause (rows_seen rows l b) n
  none-certain = unseen-certain n ∙ ap (λ v. certain_cause v n) e

-- the one piece there lasts to the end of the block
pub unseen-leads : (slots : Numbers) (flow : List BlockFlow) (b n : ℕ) → nat_eq n 0 ≡ true → LeadsOut slots flow unseen b n
unseen-leads slots flow b n e = inl (sym (eqb-true n 0 e))

pub unseen-first : (slots : Numbers) (flow : List BlockFlow) (b n : ℕ) → LeadsOut slots flow unseen b n → nat_eq n 0 ≡ true
unseen-first slots flow b n (inl e) = eq-eqb n 0 (sym e)
unseen-first slots flow b n (inr z) = eq-eqb n 0 (sym z.2)
