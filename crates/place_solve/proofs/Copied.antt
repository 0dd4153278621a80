-- Each place of a copy that lowering makes is that of a copy at a point.
use Rattle.std.proofs.Common.{◌≡◌, ℕ, Bool, true, false, cond, List, [], ◌∷◌, ◌++◌, Option, Some, None, map}
use Rattle.target_base.specs.declared.types.Effect.{Effect}
use Rattle.target_base.specs.declared.types.Effect.TheVariants as effects
use Rattle.target_base.specs.declared.types.Target.{Target}
use Rattle.meaning.specs.Live.{Among as Member, here as first, there as later}
use Rattle.mir_func.specs.declared.func.RegOp.{RegOp}
use Rattle.mir_func.specs.declared.func.Operand.{Operand}
use Rattle.mir_func.specs.declared.func.Operand.TheVariants as operands
use Rattle.mir_func.specs.declared.func.Instr.{Instr}
use Rattle.mir_func.specs.Value.{Function}
use Rattle.mir_func.specs.Binding.{TiedPair, bound, effect_of, registers, tied_pairs}
use Rattle.mir_meaning.specs.Points.{Point, Entry, Exit}
use Rattle.mir_meaning.specs.Rules.{readings, readings_besides}
use Rattle.mir_meaning.specs.Places.{Needs, copied_at, defines_and_reads, effect_copies, input_copies, lowering_places, phi_copies, phi_point, tied_copies}
use Rattle.instr_effects.specs.Ends.{pairs_of, pairs_behind}
use Rattle.instr_effects.proofs.Members.{member-none, member-elim, either-elim, flat-of, map-of}
use Rattle.place_solve.specs.Copies.{is_in_place}

module _ (t : Target) (f : Function) (P : Point → Type 0) where
  -- the place is that of a copy at such a point
  abbrev pub Copied : Needs → Type 0
  Copied p = (q : Point) × (o : RegOp) × P q × (p ≡ copied_at t f q o)

  at-point : (q : Point) (o : RegOp) (p : Needs) → P q → p ≡ copied_at t f q o → Copied p
  at-point q o p s e = (q, o, s, e)

  of-one : (q : Point) (o : RegOp) (p : Needs) → P q → Member p (copied_at t f q o ∷ []) → Copied p
  of-one q o p s m = member-elim p (copied_at t f q o) [] (λ e. at-point q o p s e) (λ k. absurd (member-none p k)) m

  of-if : (b : Bool) (q : Point) (o : RegOp) (p : Needs) → P q → Member p (cond b (copied_at t f q o ∷ []) []) → Copied p
  of-if true q o p s m = of-one q o p s m
  of-if false q o p s m = absurd (member-none p m)

  of-pairs : (os : List Operand) (p : Needs) → ((o : RegOp) (n : ℕ) → Member (o, n) (pairs_of os) → P (phi_point t f n)) → Member p (phi_copies t f os) → Copied p
  of-pairs [] p h m = absurd (member-none p m)
  of-pairs (operands.Reg s ∷ operands.Block n ∷ os) p h m = go s.undef m (of-pairs os p (λ o k j. h o k (later j)))
    where
      go : (b : Bool) → Member p (cond b (phi_copies t f os) (copied_at t f (phi_point t f n) s ∷ phi_copies t f os)) → (Member p (phi_copies t f os) → Copied p) → Copied p
      go true k ih = ih k
      go false k ih = member-elim p (copied_at t f (phi_point t f n) s) (phi_copies t f os) (λ e. at-point (phi_point t f n) s p (h s n first) e) ih k
  of-pairs os p h m = absurd (member-none p m)

  of-inputs : (q : Point) (d : RegOp) (inputs overwritten : List RegOp) (p : Needs) → P q → Member p (input_copies t f q d inputs overwritten) → Copied p
  of-inputs q d inputs overwritten p s m =
      either-elim p (map (copied_at t f q) (readings inputs)) (cond (defines_and_reads d overwritten) (copied_at t f q d ∷ []) [])
      (λ k. let z = map-of (copied_at t f q) p (readings inputs) k in at-point q z.0 p s z.2)
      (of-if (defines_and_reads d overwritten) q d p s) m

  module _ (i : Instr) (entry : P (Entry i.id)) (exit : P (Exit i.id)) where
    of-tied : (z : TiedPair) (p : Needs) → Member p (tied_copies t f i z) → Copied p
    of-tied z p m = go (is_in_place z) (defines_and_reads d (readings_besides z.number (bound t i))) m
      where
        d : RegOp
        d = z.definition

        go : (there read : Bool) → Member p (cond there [] (copied_at t f (Entry i.id) d ∷ cond read (copied_at t f (Exit i.id) d ∷ []) [])) → Copied p
        go true read k = absurd (member-none p k)
        go false read k = member-elim p (copied_at t f (Entry i.id) d) (cond read (copied_at t f (Exit i.id) d ∷ []) []) (λ e. at-point (Entry i.id) d p entry e) (of-if read (Exit i.id) d p exit) k

    of-phi : (d : RegOp) (os : List Operand) (p : Needs) → ((o : RegOp) (n : ℕ) → Member (o, n) (pairs_of os) → P (phi_point t f n)) → Member p (phi_copies t f os ++ (copied_at t f (Entry i.id) d ∷ [])) → Copied p
    of-phi d os p h m = either-elim p (phi_copies t f os) (copied_at t f (Entry i.id) d ∷ []) (of-pairs os p h) (of-one (Entry i.id) d p entry) m

    of-effect : (os : List Operand) (e : Effect) (p : Needs) → ((o : RegOp) (n : ℕ) → Member (o, n) (pairs_behind os) → P (phi_point t f n)) → Member p (effect_copies t f i os e) → Copied p
    of-effect (operands.Reg d ∷ []) effects.Phi p h m = of-phi d [] p h m
    of-effect (operands.Reg d ∷ o ∷ os) effects.Phi p h m = of-phi d (o ∷ os) p h m
    of-effect (operands.Reg d ∷ []) effects.RegSequence p h m = of-inputs (Entry i.id) d (registers []) (registers []) p entry m
    of-effect (operands.Reg d ∷ o ∷ os) effects.RegSequence p h m = of-inputs (Entry i.id) d (registers (o ∷ os)) (registers (o ∷ os)) p entry m
    of-effect (operands.Reg d ∷ o ∷ os) effects.InsertSubreg p h m = of-inputs (Entry i.id) d (registers (o ∷ os)) (registers os) p entry m
    of-effect os e p h m = let z = flat-of (tied_copies t f i) p (tied_pairs t i) m in of-tied z.0 p z.2

    pub lowered : (p : Needs) → ((o : RegOp) (n : ℕ) → Member (o, n) (pairs_behind i.operands) → P (phi_point t f n)) → Member p (lowering_places t f i) → Copied p
    lowered p h m = go (effect_of t i) m
      where
        go : (q : Option Effect) → Member p (elim q [ None ↦ [] | Some e ↦ effect_copies t f i i.operands e ]) → Copied p
        go None k = absurd (member-none p k)
        go (Some e) k = of-effect i.operands e p h k
