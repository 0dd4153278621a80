-- Where lanes are found at the ends of blocks, and at the start of a run.
use Rattle.std.proofs.Common.{◌≡◌, ◌∷◌, inl, inr, ◌∙◌, List, Option, refl, sym, ap, subst, []}
use Rattle.meaning.specs.Code.{BlockEnd, Code, Edge, Item, found, start_state}
use Rattle.meaning.specs.Lanes.{Writes}
use Rattle.meaning.specs.Live.{Among as Member, leap}
use Rattle.meaning.specs.Refines.{AtLeast}
use Rattle.meaning.specs.State.{fetch}
use Rattle.meaning.specs.declared.types.Lane.{Lane}
use Rattle.meaning.specs.declared.types.Lane.TheVariants.{SlotLane, UnitLane, VirtualLane}
use Rattle.meaning.specs.declared.types.Source.{Source}
use Rattle.meaning.specs.declared.types.Source.TheVariants.{Bits, FromLane, Undef}
use Rattle.laws.proofs.Defined.{value-same}
use Rattle.laws.proofs.Flow.{kept_exit, none_among}
use Rattle.laws.proofs.Steps.{filled-none}
use Rattle.mir_meaning.specs.Codes.{given_of}
use Rattle.mir_meaning.specs.Registers.{is_reserved}
use Rattle.spiller.specs.Setting.{Spilling}
use Rattle.spill_laws.specs.Standing.{EndsStand, LiveIn, Stands, StartsStand, code_before}
use Rattle.spill_laws.proofs.Standing.{own-from}

module _ (s : Spilling) (falls : Option Writes) (exits : List Edge) (p : Code) (e : Edge) (m : Member e exits) (bare : e.phis ≡ []) where
  abbrev i : Item
  i = BlockEnd falls exits

  ends-stand : (a : Source) (u : Source) → Stands s (found e.block (code_before s)) a u → Stands s (BlockEnd falls exits ∷ p) a u
  ends-stand (FromLane a) u (inl b) = inl (b.0, kept_exit (is_reserved s.target) (code_before s) falls exits p e a a m b.1 (filled-none e.phis a bare), b.2)
  ends-stand (FromLane a) u (inr b) = inr (b.0, b.1, subst (LiveIn s (BlockEnd falls exits ∷ p)) (sym b.1) (leap m (subst (LiveIn s (found e.block (code_before s))) b.1 b.2) (filled-none e.phis (VirtualLane s.range b.0) bare) refl refl), own-from s i p b.0 (λ w. none_among w.0 w.1) u e m b.3)
  ends-stand Undef u k = tt
  ends-stand (Bits c low w) u k = k

pub ends_stand : EndsStand
ends_stand s falls exits p e m bare a u k = ends-stand s falls exits p e m bare a u k

pub starts_stand : StartsStand
starts_stand s given p same env a u k = go a k
  where
    alike : (l : Lane) → fetch env (start_state env (given_of s.target s.func)) (FromLane l) ≡ fetch env (start_state env given) (FromLane l)
    alike (VirtualLane v k) = refl
    alike (UnitLane n) = λ j. start_state env (λ w. sym (same w) j) (UnitLane n)
    alike (SlotLane n k w) = refl

    go : (a : Source) → Stands s p a u → AtLeast (fetch env (start_state env (given_of s.target s.func)) a) (fetch env (start_state env given) u)
    go (FromLane a) (inl b) = value-same (fetch env (start_state env (given_of s.target s.func)) (FromLane a)) (fetch env (start_state env given) u) (alike a ∙ ap (fetch env (start_state env given)) (sym b.2))
    go (FromLane a) (inr b) = subst (λ l. AtLeast (start_state env (given_of s.target s.func) l) (fetch env (start_state env given) u)) (sym b.1) tt
    go Undef k = tt
    go (Bits c low w) k = value-same (fetch env (start_state env (given_of s.target s.func)) (Bits c low w)) (fetch env (start_state env given) u) (ap (fetch env (start_state env given)) (sym k))
