-- A matrix in which nothing is held is in order.
use Rattle.std.proofs.Common.{◌≡◌, ℕ, zero, suc, Bool, true, false, length, List, [], ◌∷◌, ◌++◌, Option, None, Some, refl, sym, ap, ◌∙◌, subst, arith}
use Rattle.std.specs.Prelude.{◌||◌, nat_lt, slice_get}
use Rattle.std.specs.List.{list_any}
use Rattle.std.proofs.lemmas.Bool.{ltb-false}
use Rattle.std.proofs.lemmas.List.Folds.{list_any-append}
use Rattle.target_base.specs.declared.types.Reg.{Reg}
use Rattle.live_lanes.specs.Looks.{InOrder}
use Rattle.live_lanes.proofs.Held.{or-none}
use Rattle.interference.specs.declared.held.HeldList.{HeldList}
use Rattle.interference.specs.declared.unit_table.UnitTable.{UnitTable}
use Rattle.interference.specs.declared.unit_table.UnitExtents.{UnitExtents}
use Rattle.interference.specs.declared.matrix.Matrix.{Matrix}
use Rattle.interference.specs.Clashes.{IsOrdered, AreApart, AreKnown, register_in, part_of, held_of_some, list_in}
use Rattle.interference.specs.Parts.{has_parts, has_lists}
use Rattle.std.specs.Prelude.{flat_map}

-- one more that doesn't pass
pub none_more : {X : Type 0} (p : X → Bool) (xs ys : List X) (x : X) → ys ≡ xs ++ x ∷ [] → list_any p xs ≡ false → p x ≡ false → list_any p ys ≡ false
none_more p xs ys x e was here = ap (list_any p) e ∙ list_any-append p xs (x ∷ []) ∙ or-none (list_any p xs) (p x || false) was (or-none (p x) false here refl)

-- one more range has no register either
pub no-more : (rs all : List (Option Reg)) → all ≡ rs ++ None ∷ [] → ((v : ℕ) → register_in rs v ≡ None) → (v : ℕ) → register_in all v ≡ None
no-more rs all e none v = ap (λ xs. register_in xs v) e ∙ go rs none v
  where
    go : (xs : List (Option Reg)) → ((v : ℕ) → register_in xs v ≡ None) → (v : ℕ) → register_in (xs ++ None ∷ []) v ≡ None
    go [] h zero = refl
    go [] h (suc v) = refl
    go (x ∷ xs) h zero = h 0
    go (x ∷ xs) h (suc v) = go xs (λ w. h (suc w)) v

pub no_parts : (h : HeldList) → h.parts.items ≡ [] → has_parts h ≡ false
no_parts h e = ap (λ ps. nat_lt 0 (length ps)) e

pub ruleset empties = (none_more, no_parts)

none-at : {X : Type 0} (p : X → Bool) (xs : List X) (k : ℕ) (x : X) → list_any p xs ≡ false → slice_get xs k ≡ Some x → p x ≡ false
none-at p [] k x e at = absurd (cc)
none-at p (y ∷ ys) zero x e at = let same : y ≡ x = cc in ap p (sym same) ∙ left (p y) (list_any p ys) e
  where
    left : (a b : Bool) → (a || b) ≡ false → a ≡ false
    left true b h = h
    left false b h = refl
none-at p (y ∷ ys) (suc k) x e at = none-at p ys k x (right (p y) (list_any p ys) e) at
  where
    right : (a b : Bool) → (a || b) ≡ false → b ≡ false
    right true b h = absurd (cc)
    right false b h = h

no-items : {X : Type 0} (xs : List X) → nat_lt 0 (length xs) ≡ false → xs ≡ []
no-items [] e = refl
no-items (x ∷ xs) e = absurd (let h = ltb-false 0 (length (x ∷ xs)) e in omega arith)

module _ (a : UnitTable) (none : list_any has_lists a.units.items ≡ false) where
  empty-list : (u b : ℕ) (h : HeldList) → list_in a u b ≡ Some h → h.parts.items ≡ []
  empty-list u b h e = go (slice_get a.units.items u) refl e
    where
      go : (o : Option UnitExtents) → slice_get a.units.items u ≡ o → elim o [ None ↦ None | Some r ↦ slice_get r.blocks.items b ] ≡ Some h → h.parts.items ≡ []
      go None f g = absurd (cc)
      go (Some r) f g = no-items h.parts.items (none-at has_parts r.blocks.items b h (none-at has_lists a.units.items u r none f) g)

  pub nothing-held : (u b : ℕ) → held_of_some (list_in a u b) ≡ []
  nothing-held u b = go (list_in a u b) refl
    where
      go : (o : Option HeldList) → list_in a u b ≡ o → held_of_some o ≡ []
      go None e = refl
      go (Some h) e = ap (flat_map part_of) (empty-list u b h e)

pub new_ordered : (m : Matrix) → InOrder m.live.table → length m.registers.items ≡ length m.live.func.classes → list_any has_lists m.held.units.items ≡ false → IsOrdered m
new_ordered m order long none = record {
  table = order;
  registers = long;
  filled = λ u b h e more. absurd (let z = ap length (empty-list m.held none u b h e) in omega (arith, z, more));
  apart = λ u b. subst (AreApart m.live.table.order.slots 0) (sym (nothing-held m.held none u b)) tt;
  known = λ u b. subst (AreKnown (length m.registers.items)) (sym (nothing-held m.held none u b)) refl;
}
