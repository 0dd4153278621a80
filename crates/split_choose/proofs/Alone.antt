-- A stretch of several at which a unit is held.
use Rattle.std.proofs.Common.{◌≡◌, ℕ, ◌+◌, ◌<◌, ◌≤◌, List, Bool, true, false, length, take, get_or}
use Rattle.std.specs.Prelude.{nat_le}
use Rattle.std.proofs.lemmas.Bool.{leb-true}
use Rattle.std.proofs.lemmas.List.{get_or_default}
use Rattle.target_base.specs.declared.types.Unit.{Unit as UnitNumber}
use Rattle.live_lanes.specs.declared.ask.extent.Stretch.{Stretch}
use Rattle.interference.specs.declared.matrix.Matrix.{Matrix}
use Rattle.interference.specs.Clashes.{IsOrdered, is_held}
use Rattle.split_choose.specs.Spans.{AreStretches, is_held_in}
use Rattle.split_choose.proofs.Walks.{any_next, any_found, all_at}

module _ (m : Matrix) (v position : ℕ) (ss : List Stretch) (u : UnitNumber) (k : ℕ) (d : Stretch) (result : Bool) (h : k < length ss) (told : IsOrdered m → (get_or ss k d).first ≤ (get_or ss k d).last → result ≡ is_held m u.0 v position (get_or ss k d)) (ordered : IsOrdered m) (stretches : AreStretches ss) where
  read : get_or ss k d ≡ get_or ss k (get_or ss k d)
  read = get_or_default ss k d (get_or ss k d) h

  tells : result ≡ is_held m u.0 v position (get_or ss k d)
  tells = told ordered (leb-true _ _ (all_at (λ (s : Stretch). nat_le s.first s.last) ss k (get_or ss k d) stretches h read))

  pub held_found : result ≡ true → true ≡ is_held_in m v position ss u
  held_found e = any_found (λ (s : Stretch). is_held m u.0 v position s) ss k (get_or ss k d) result h read tells e

  pub held_next : result ≡ false → is_held_in m v position (take k ss) u ≡ false → is_held_in m v position (take (k + 1) ss) u ≡ false
  held_next e was = any_next (λ (s : Stretch). is_held m u.0 v position s) ss k (get_or ss k d) result h read tells e was
