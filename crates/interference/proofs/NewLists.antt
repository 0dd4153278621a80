-- A matrix without assigned ranges keeps its lists: there is one for each unit and each block, and it is empty.
use Rattle.std.proofs.Common.{◌≡◌, ◌<◌, ℕ, zero, suc, Bool, true, false, ◌&&◌, length, List, [], ◌∷◌, ◌++◌, Option, None, Some, refl, sym, ap, ◌∙◌, arith, eqb-true}
use Rattle.std.specs.Prelude.{slice_get, is_some}
use Rattle.std.specs.List.{list_any, list_all}
use Rattle.std.proofs.lemmas.List.Folds.{list_all-append}
use Rattle.target_base.specs.declared.types.Reg.{Reg}
use Rattle.live_lanes.proofs.Cells.{both, both-left, both-right}
use Rattle.interference.specs.declared.held.HeldList.{HeldList}
use Rattle.interference.specs.declared.unit_table.UnitTable.{UnitTable}
use Rattle.interference.specs.declared.unit_table.UnitExtents.{UnitExtents}
use Rattle.interference.specs.declared.matrix.Matrix.{Matrix}
use Rattle.interference.specs.Clashes.{IsOrdered, register_in, list_in}
use Rattle.interference.specs.Parts.{has_lists}
use Rattle.interference.specs.Changes.{own_of}
use Rattle.interference.specs.Listed.{KeepsLists, extents_by}
use Rattle.interference.specs.Wide.{is_wide}
use Rattle.interference.proofs.Empty.{nothing-held}

-- one more that passes
pub all_more : {X : Type 0} (p : X → Bool) (xs ys : List X) (x : X) → ys ≡ xs ++ x ∷ [] → list_all p xs ≡ true → p x ≡ true → list_all p ys ≡ true
all_more p xs ys x e was here = ap (list_all p) e ∙ list_all-append p xs (x ∷ []) ∙ both (list_all p xs) (p x && true) was (both (p x) true here refl)

wide-at : (n : ℕ) (rs : List UnitExtents) (k : ℕ) (r : UnitExtents) → list_all (is_wide n) rs ≡ true → slice_get rs k ≡ Some r → length r.blocks.items ≡ n
wide-at n [] k r e at = absurd (cc)
wide-at n (y ∷ ys) zero r e at = let same : y ≡ r = cc in ap (λ (x : UnitExtents). length x.blocks.items) (sym same) ∙ eqb-true (length y.blocks.items) n (both-left (is_wide n y) (list_all (is_wide n) ys) e)
wide-at n (y ∷ ys) (suc k) r e at = wide-at n ys k r (both-right (is_wide n y) (list_all (is_wide n) ys) e) at

some-at : {X : Type 0} (xs : List X) (k : ℕ) → k < length xs → is_some (slice_get xs k) ≡ true
some-at [] k h = absurd (omega arith)
some-at (x ∷ xs) zero h = refl
some-at (x ∷ xs) (suc k) h = some-at xs k (omega arith)

list-there : (a : UnitTable) (n : ℕ) → list_all (is_wide n) a.units.items ≡ true → (u b : ℕ) → u < length a.units.items → b < n → is_some (list_in a u b) ≡ true
list-there a n wide u b hu hb = go (slice_get a.units.items u) refl (some-at a.units.items u hu)
  where
    go : (o : Option UnitExtents) → slice_get a.units.items u ≡ o → is_some o ≡ true → is_some (elim o as (λ t. Option HeldList) [ None ↦ None | Some r ↦ slice_get r.blocks.items b ]) ≡ true
    go None e s = absurd (cc)
    go (Some r) e s = some-at r.blocks.items b (let z = wide-at n a.units.items u r wide e in omega arith)

pub new_keeps : (m : Matrix) → IsOrdered m → ((v : ℕ) → register_in m.registers.items v ≡ None) → list_any has_lists m.held.units.items ≡ false → length m.held.units.items ≡ length m.live.target.units → list_all (is_wide (length m.live.func.blocks)) m.held.units.items ≡ true → KeepsLists m
new_keeps m ordered none empty units wide = record {
  ordered = ordered;
  listed = λ v u b. ap (own_of v) (nothing-held m.held empty u b) ∙ sym (ap (λ (q : Option Reg). extents_by m.live.target m.live.table v q u b) (none v));
  lists = λ u b hu hb. list-there m.held (length m.live.func.blocks) wide u b (omega (arith, units)) hb;
}
