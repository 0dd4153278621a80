-- The lanes of operands.
use Rattle.std.proofs.Common.{◌≡◌, ℕ, zero, suc, Bool, true, false, cond, ◌&&◌, List, [], ◌∷◌, Some, None, map, filter_map, refl, ap, ◌∙◌}
use Rattle.target_base.specs.declared.types.Target.{Target}
use Rattle.meaning.specs.declared.types.Lane.{Lane}
use Rattle.meaning.specs.declared.types.Source.TheVariants.{FromLane, Undef}
use Rattle.mir_func.specs.declared.func.RegOp.{RegOp}
use Rattle.mir_func.specs.Value.{Function}
use Rattle.mir_meaning.specs.Registers.{use_sources, undefined_lanes, whole_lanes, operand_lanes}
use Rattle.instr_effects.specs.Owners.{owner_of, source_owner, operand_owners}
use Rattle.mir_meaning.specs.Items.{pick}
use Rattle.instr_effects.specs.Acts.{use_owners, flag_owners}

read_lanes : (b : Bool) (ls : List Lane) → filter_map source_owner (map (cond b (λ l. Undef) FromLane) ls) ≡ cond b [] (map owner_of ls)
read_lanes true [] = refl
read_lanes true (l ∷ ls) = read_lanes true ls
read_lanes false [] = refl
read_lanes false (l ∷ ls) = ap (λ t. owner_of l ∷ t) (read_lanes false ls)

-- a use that isn't undef reads its lanes
pub read_owners_of : (t : Target) (f : Function) (o : RegOp) → use_owners t f o ≡ cond o.undef [] (operand_owners t f o)
read_owners_of t f o = read_lanes o.undef (operand_lanes t f o)

given_lanes : (b : Bool) (ls : List Lane) → map source_owner (map (cond b (λ l. Undef) FromLane) ls) ≡ cond b (map (λ o. None) (map owner_of ls)) (map Some (map owner_of ls))
given_lanes true [] = refl
given_lanes true (l ∷ ls) = ap (λ t. None ∷ t) (given_lanes true ls)
given_lanes false [] = refl
given_lanes false (l ∷ ls) = ap (λ t. Some (owner_of l) ∷ t) (given_lanes false ls)

pub given_owners_of : (t : Target) (f : Function) (o : RegOp) → map source_owner (use_sources t f o) ≡ cond o.undef (map (λ x. None) (operand_owners t f o)) (map Some (operand_owners t f o))
given_owners_of t f o = given_lanes o.undef (operand_lanes t f o)

-- the other lanes of an undef definition
pub other_owners_of : (t : Target) (f : Function) (o : RegOp) → map owner_of (undefined_lanes t f o) ≡ cond (o.def && o.undef) (map owner_of (whole_lanes t f o.loc)) []
other_owners_of t f o = go (o.def && o.undef)
  where
    go : (b : Bool) → map owner_of (cond b (whole_lanes t f o.loc) []) ≡ cond b (map owner_of (whole_lanes t f o.loc)) []
    go true = refl
    go false = refl

-- the lane of a tested register at a place

pub picked : (k : ℕ) (b : Bool) (ls : List Lane) → filter_map source_owner (pick k (map (cond b (λ l. Undef) FromLane) ls)) ≡ cond b [] (pick k (map owner_of ls))
picked k true [] = refl
picked k false [] = refl
picked zero true (l ∷ ls) = refl
picked zero false (l ∷ ls) = refl
picked (suc k) true (l ∷ ls) = picked k true ls
picked (suc k) false (l ∷ ls) = picked k false ls

module _ (t : Target) (f : Function) (k : ℕ) (o : RegOp) where
  pub flag_none : o.undef ≡ true → flag_owners t f k o ≡ []
  flag_none e = picked k o.undef (operand_lanes t f o) ∙ ap (λ b. cond b [] (pick k (operand_owners t f o))) e
