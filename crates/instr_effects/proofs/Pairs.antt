-- The pairs of a phi, one after the other.
use Rattle.std.proofs.Common.{◌≡◌, ◌≤◌, ℕ, true, false, cond, List, [], ◌∷◌, ◌++◌, Some, None, map, drop, length, refl, sym, ap, subst, ◌∙◌, append_assoc, append-nil, arith}
use Rattle.std.specs.Prelude.{option_map}
use Rattle.target_base.specs.declared.types.OpcodeDesc.{OpcodeDesc}
use Rattle.target_base.specs.declared.types.Target.{Target}
use Rattle.target_base.specs.Rules.{is_phi}
use Rattle.meaning.specs.declared.types.Write.{Write}
use Rattle.meaning.specs.Live.{Among as Member, here as first, there as later}
use Rattle.mir_func.specs.declared.func.RegOp.{RegOp}
use Rattle.mir_func.specs.declared.func.Operand.{Operand}
use Rattle.mir_func.specs.declared.func.Operand.TheVariants as operands
use Rattle.mir_func.specs.declared.func.Instr.{Instr}
use Rattle.mir_func.specs.Value.{Function}
use Rattle.mir_meaning.specs.Codes.{phi_operands, phi_pair, phi_writes, phis_written}
use Rattle.mir_func.specs.Binding.{known_opcode, passes, register_at}
use Rattle.instr_effects.proofs.Members.{member-none, member-elim, left-in, right-in, either-elim}
use Rattle.instr_effects.specs.Ends.{pairs_of, pairs_behind, end_uses, first_pair}

-- a pair that stands first is the first of the pairs
pub first_step : (os : List Operand) (p : RegOp × ℕ) → first_pair os ≡ Some p → pairs_of os ≡ p ∷ pairs_of (drop 2 os)
first_step [] p e = absurd (cc)
first_step (operands.Reg s ∷ []) p e = absurd (cc)
first_step (operands.Reg s ∷ operands.Block n ∷ os) p e = ap (λ q. q ∷ pairs_of os) (some-same (s, n) p e)
  where
    some-same : (x y : RegOp × ℕ) → Some x ≡ Some y → x ≡ y
    some-same x y e = cc
first_step (operands.Reg s ∷ o ∷ os) p e = absurd (cc)
first_step (o ∷ os) p e = absurd (cc)

pub pairs_long : (os : List Operand) (p : RegOp × ℕ) → first_pair os ≡ Some p → 2 ≤ length os
pairs_long [] p e = absurd (cc)
pairs_long (operands.Reg s ∷ []) p e = absurd (cc)
pairs_long (operands.Reg s ∷ o ∷ os) p e = omega arith
pairs_long (o ∷ os) p e = absurd (cc)

no_first : (os : List Operand) → first_pair os ≡ None → pairs_of os ≡ []
no_first [] e = refl
no_first (operands.Reg s ∷ []) e = refl
no_first (operands.Reg s ∷ operands.Block n ∷ os) e = absurd (cc)
no_first (operands.Reg s ∷ o ∷ os) e = refl
no_first (o ∷ os) e = refl

-- a read pair goes from the pairs to what is read
pub pairs_step : {Y : Type 0} (g : RegOp × ℕ → Y) (done : List Y) (all os : List Operand) (p : RegOp × ℕ) (y : Y) → first_pair os ≡ Some p → y ≡ g p → done ++ map g (pairs_of os) ≡ map g (pairs_of all) → (done ++ y ∷ []) ++ map g (pairs_of (drop 2 os)) ≡ map g (pairs_of all)
pairs_step g done all os p y e f so = append_assoc done (y ∷ []) (map g (pairs_of (drop 2 os))) ∙ ap (λ z. done ++ z ∷ map g (pairs_of (drop 2 os))) f ∙ ap (λ t. done ++ map g t) (sym (first_step os p e)) ∙ so

pub pairs_none : {Y : Type 0} (g : RegOp × ℕ → Y) (done : List Y) (all os : List Operand) → first_pair os ≡ None → done ++ map g (pairs_of os) ≡ map g (pairs_of all) → done ≡ map g (pairs_of all)
pairs_none g done all os e so = sym (ap (λ t. done ++ map g t) (no_first os e) ∙ append-nil done) ∙ so

pub behind_some : (os : List Operand) (s : RegOp) → register_at os 0 ≡ Some s → pairs_behind os ≡ pairs_of (drop 1 os)
behind_some [] s e = absurd (cc)
behind_some (operands.Reg d ∷ os) s e = refl
behind_some (o ∷ os) s e = absurd (cc)

pub behind_long : (os : List Operand) (s : RegOp) → register_at os 0 ≡ Some s → 1 ≤ length os
behind_long [] s e = absurd (cc)
behind_long (o ∷ os) s e = omega arith

pub behind_none : (os : List Operand) → register_at os 0 ≡ None → pairs_behind os ≡ []
behind_none [] e = refl
behind_none (operands.Reg d ∷ os) e = absurd (cc)
behind_none (o ∷ os) e = refl

-- what a phi writes by its operands
pub phi_behind : (t : Target) (f : Function) (n : ℕ) (os : List Operand) (d : RegOp) → register_at os 0 ≡ Some d → phi_operands t f n os ≡ phi_pair t f n d (drop 1 os)
phi_behind t f n [] d e = absurd (cc)
phi_behind t f n (operands.Reg s ∷ os) d e = ap (λ x. phi_pair t f n x os) (some-register s d e)
  where
    some-register : (a b : RegOp) → Some a ≡ Some b → a ≡ b
    some-register a b e = cc
phi_behind t f n (o ∷ os) d e = absurd (cc)

pub phi_nothing : (t : Target) (f : Function) (n : ℕ) (os : List Operand) → register_at os 0 ≡ None → phi_operands t f n os ≡ []
phi_nothing t f n [] e = refl
phi_nothing t f n (operands.Reg d ∷ os) e = absurd (cc)
phi_nothing t f n (o ∷ os) e = refl

pub no_uses : (t : Target) (i : Instr) → known_opcode t i.op ≡ None → end_uses t i ≡ []
no_uses t i e = ap (λ q. cond (passes is_phi (option_map (λ (d : OpcodeDesc). d.effect) q)) (pairs_behind i.operands) []) e

pub phi_uses : (t : Target) (i : Instr) (d : OpcodeDesc) → known_opcode t i.op ≡ Some d → is_phi d.effect ≡ true → end_uses t i ≡ pairs_behind i.operands
phi_uses t i d e h = ap (λ q. cond (passes is_phi (option_map (λ (x : OpcodeDesc). x.effect) q)) (pairs_behind i.operands) []) e ∙ ap (λ b. cond b (pairs_behind i.operands) []) h

pub other_uses : (t : Target) (i : Instr) (d : OpcodeDesc) → known_opcode t i.op ≡ Some d → is_phi d.effect ≡ false → end_uses t i ≡ []
other_uses t i d e h = ap (λ q. cond (passes is_phi (option_map (λ (x : OpcodeDesc). x.effect) q)) (pairs_behind i.operands) []) e ∙ ap (λ b. cond b (pairs_behind i.operands) []) h

-- a write of phis is one of a phi among them
pub written-of : (t : Target) (f : Function) (n : ℕ) (w : Write) (is : List Instr) → Member w (phis_written t f n is) → (i : Instr) × Member i is × Member w (phi_writes t f n i)
written-of t f n w [] m = absurd (member-none w m)
written-of t f n w (i ∷ is) m =
    either-elim w (phis_written t f n is) (phi_writes t f n i) (λ k. let z = written-of t f n w is k in (z.0, later z.1, z.2)) (λ k. (i, first, k)) m

pub written-in : (t : Target) (f : Function) (n : ℕ) (w : Write) (i : Instr) (is : List Instr) → Member i is → Member w (phi_writes t f n i) → Member w (phis_written t f n is)
written-in t f n w i [] m k = absurd (member-none i m)
written-in t f n w i (x ∷ is) m k =
    member-elim i x is
    (λ e. right-in w (phis_written t f n is) (phi_writes t f n x) (subst (λ y. Member w (phi_writes t f n y)) e k))
    (λ j. left-in w (phis_written t f n is) (phi_writes t f n x) (written-in t f n w i is j k))
    m
