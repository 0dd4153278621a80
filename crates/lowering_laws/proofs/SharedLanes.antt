-- Lists of lanes that share none, and definitions that share none, by their places among operands.
use Rattle.std.proofs.Common.{◌≡◌, ◌<◌, ◌∙◌, ◌&&◌, ◌∷◌, not, ℕ, zero, suc, Bool, true, false, cond, List, Some, map, filter, refl, sym, ap, subst, arith, eq-eqb, []}
use Rattle.std.specs.Prelude.{option_and_then}
use Rattle.std.specs.List.{list_any}
use Rattle.target_base.proofs.Tests.{first_of_both, second_of_both}
use Rattle.meaning.specs.Live.{Among}
use Rattle.meaning.specs.Lanes.{same_lane}
use Rattle.meaning.specs.declared.types.Lane.{Lane}
use Rattle.meaning.specs.declared.types.Lane.TheVariants.{SlotLane, UnitLane, VirtualLane}
use Rattle.mir_func.specs.declared.func.Operand.{Operand}
use Rattle.mir_func.specs.declared.func.Operand.TheVariants as operands
use Rattle.mir_func.specs.declared.func.RegOp.{RegOp}
use Rattle.mir_func.specs.Binding.{as_register, register_at, registers}
use Rattle.mir_meaning.specs.Rules.{no_two_share, share_a_lane}
use Rattle.instr_effects.proofs.Members.{filter-in, filter-of, map-in, map-of}
use Rattle.live_laws.proofs.Effects.Blocks.{member-slice}
use Rattle.live_laws.proofs.Effects.Lists.{any-in}
use Rattle.lowering_laws.proofs.Formed.{none-by}
use Rattle.lowering_laws.proofs.Found.{same-is}
use Rattle.lowering_laws.proofs.Seated.{register-in, register-of, register-there, told-of}

lane-own : (l : Lane) → same_lane l l ≡ true
lane-own (VirtualLane v k) = λ x. eq-eqb v v refl x && eq-eqb k k refl x
lane-own (UnitLane u) = eq-eqb u u refl
lane-own (SlotLane s k w) = λ x. eq-eqb s s refl x && (eq-eqb k k refl x && eq-eqb w w refl x)

pub none-shared : (ls ms : List Lane) → ((l : Lane) → Among l ls → Among l ms → ⊥) → share_a_lane ls ms ≡ false
none-shared ls ms h = none-by (λ l. list_any (same_lane l) ms) ls (λ l m. none-by (same_lane l) ms (λ k n. differ l k m n (same_lane l k) refl))
  where
    differ : (l k : Lane) → Among l ls → Among k ms → (b : Bool) → same_lane l k ≡ b → same_lane l k ≡ false
    differ l k m n false e = e
    differ l k m n true e = absurd (h l m (subst (λ x. Among x ms) (sym (same-is l k e)) n))

pub apart-lanes : (ls ms : List Lane) → share_a_lane ls ms ≡ false → (l : Lane) → Among l ls → Among l ms → ⊥
apart-lanes ls ms e l a b = let x = any-in (λ k. list_any (same_lane k) ms) l ls a (any-in (same_lane l) l ms b (lane-own l)) in cc

module _ (L : RegOp → List Lane) where
  abbrev pub defs : List Operand → List RegOp
  defs os = filter (λ (o : RegOp). o.def) (registers os)

  -- any two definitions share none
  abbrev pub AtPlaces : List Operand → Type 0
  AtPlaces os = (a b : ℕ) (d e : RegOp) → a < b → register_at os a ≡ Some d → register_at os b ≡ Some e → d.def ≡ true → e.def ≡ true → share_a_lane (L d) (L e) ≡ false

  tail-apart : (y : Operand) (os : List Operand) → no_two_share (map L (defs (y ∷ os))) ≡ true → no_two_share (map L (defs os)) ≡ true
  tail-apart (operands.Reg o) os w = go o.def w
    where
      go : (b : Bool) → no_two_share (map L (cond b (o ∷ defs os) (defs os))) ≡ true → no_two_share (map L (defs os)) ≡ true
      go true w = second_of_both (not (list_any (share_a_lane (L o)) (map L (defs os)))) (no_two_share (map L (defs os))) w
      go false w = w
  tail-apart y os w = w

  first-apart : (y : Operand) (os : List Operand) → no_two_share (map L (defs (y ∷ os))) ≡ true → (d e : RegOp) → as_register y ≡ Some d → d.def ≡ true → Among e (defs os) → share_a_lane (L d) (L e) ≡ false
  first-apart y os w d e p x m = go (share_a_lane (L d) (L e)) refl
    where
      kept : no_two_share (map L (defs (operands.Reg d ∷ os))) ≡ true
      kept = subst (λ z. no_two_share (map L (defs (z ∷ os))) ≡ true) (register-of y d p) w

      none : not (list_any (share_a_lane (L d)) (map L (defs os))) ≡ true
      none = first_of_both (not (list_any (share_a_lane (L d)) (map L (defs os)))) (no_two_share (map L (defs os))) (subst (λ (b : Bool). no_two_share (map L (cond b (d ∷ defs os) (defs os))) ≡ true) x kept)

      go : (b : Bool) → share_a_lane (L d) (L e) ≡ b → share_a_lane (L d) (L e) ≡ false
      go false g = g
      go true g = absurd (let z = any-in (share_a_lane (L d)) (L e) (map L (defs os)) (map-in L e (defs os) m) g in let y = none in cc)

  pub to-places : (os : List Operand) → no_two_share (map L (defs os)) ≡ true → AtPlaces os
  to-places [] w a b d e lt p q x z = absurd (cc)
  to-places (y ∷ os) w zero zero d e lt p q x z = absurd (omega arith)
  to-places (y ∷ os) w zero (suc b) d e lt p q x z = first-apart y os w d e p x (filter-in (λ (o : RegOp). o.def) e (registers os) (register-in e os (register-there os b e q)) z)
  to-places (y ∷ os) w (suc a) zero d e lt p q x z = absurd (omega arith)
  to-places (y ∷ os) w (suc a) (suc b) d e lt p q x z = to-places os (tail-apart y os w) a b d e (omega arith) p q x z

  register-place : (os : List Operand) (o : RegOp) → Among o (registers os) → (k : ℕ) × (register_at os k ≡ Some o)
  register-place os o m =
      let z = told-of as_register o os m in
      let w = member-slice z.0 os z.1 in
      (w.0, ap (option_and_then as_register) w.1 ∙ z.2)

  head-on : (y : Operand) (os : List Operand) → AtPlaces (y ∷ os) → no_two_share (map L (defs os)) ≡ true → no_two_share (map L (defs (y ∷ os))) ≡ true
  head-on (operands.Reg o) os h w = go o.def refl
    where
      none : o.def ≡ true → list_any (share_a_lane (L o)) (map L (defs os)) ≡ false
      none g = none-by (share_a_lane (L o)) (map L (defs os)) (λ ls m.
          let y = map-of L ls (defs os) m in
          let z = filter-of (λ (x : RegOp). x.def) y.0 (registers os) y.1 in
          let p = register-place os y.0 z.0 in
          subst (λ q. share_a_lane (L o) q ≡ false) (sym y.2) (h 0 (suc p.0) o y.0 (omega arith) refl p.1 g z.1))

      go : (b : Bool) → o.def ≡ b → no_two_share (map L (cond b (o ∷ defs os) (defs os))) ≡ true
      go true g = λ k. not (none g k) && w k
      go false g = w
  head-on y os h w = w

  pub from-places : (os : List Operand) → AtPlaces os → no_two_share (map L (defs os)) ≡ true
  from-places [] h = refl
  from-places (y ∷ os) h = head-on y os h (from-places os (λ a b d e lt p q x z. h (suc a) (suc b) d e (omega (arith, lt)) p q x z))
