-- Lanes as the keys of a map.
use Rattle.std.proofs.Common.{◌≡◌, Bool, true, false, cond, Some, refl, ◌∙◌}
use Rattle.std.specs.Prelude.{Option, ◌&&◌, nat_eq}
use Rattle.meaning.specs.declared.types.Lane.{Lane}
use Rattle.meaning.specs.declared.types.Lane.TheVariants.{VirtualLane, UnitLane, SlotLane}
use Rattle.meaning.specs.Lanes.{same_lane}
use Rattle.meaning.specs.Environment.{Value}
use Rattle.mir_interp.specs.Holds.{key_of, same_key, unless_absent}

and_true : (b : Bool) → (b && true) ≡ b
and_true true = refl
and_true false = refl

and_assoc : (a b c : Bool) → ((a && b) && c) ≡ (a && (b && c))
and_assoc true b c = refl
and_assoc false b c = refl

pub same_keys : (a b : Lane) → same_key (key_of a) (key_of b) ≡ same_lane a b
same_keys (VirtualLane v k) (VirtualLane w l) = and_true (nat_eq v w && nat_eq k l)
same_keys (VirtualLane v k) (UnitLane u) = refl
same_keys (VirtualLane v k) (SlotLane s j a) = refl
same_keys (UnitLane u) (VirtualLane v k) = refl
same_keys (UnitLane u) (UnitLane w) = and_true (nat_eq u w && true) ∙ and_true (nat_eq u w)
same_keys (UnitLane u) (SlotLane s j a) = refl
same_keys (SlotLane s j a) (VirtualLane v k) = refl
same_keys (SlotLane s j a) (UnitLane u) = refl
same_keys (SlotLane s j a) (SlotLane t k b) = and_assoc (nat_eq s t) (nat_eq j k) (nat_eq a b)

pub put_or_left : (b : Bool) (v : Value) (x : Option Value) → unless_absent (cond b (Some v) x) ≡ cond b v (unless_absent x)
put_or_left true v x = refl
put_or_left false v x = refl
