-- A function whose ranges stand in registers without clashes does what it did.
use Rattle.std.proofs.Common.{◌≡◌, ◌⊎◌, inl, inr, ◌∙◌, ℕ, Bool, true, false, cond, List, [], ◌∷◌, Some, None, map, refl, sym, ap, subst}
use Rattle.target_base.specs.declared.types.ClassId.{ClassId}
use Rattle.target_base.specs.declared.types.Target.{Target}
use Rattle.target_base.specs.Numbers.{unit_number}
use Rattle.target_base.specs.Registers.{regs_of}
use Rattle.target_base.specs.Storage.{is_unreserved, unit_width}
use Rattle.meaning.specs.Clash.{NoClash}
use Rattle.meaning.specs.Code.{entry_lane, start_state}
use Rattle.meaning.specs.Environment.{Environment}
use Rattle.meaning.specs.Layout.{LaidOut, NoPhis}
use Rattle.meaning.specs.Matched.{Matched}
use Rattle.meaning.specs.Refines.{AtLeast, Refines}
use Rattle.meaning.specs.declared.types.Lane.{Lane}
use Rattle.meaning.specs.declared.types.Lane.TheVariants.{SlotLane, UnitLane, VirtualLane}
use Rattle.laws.proofs.Clash.{no-clash-quiet}
use Rattle.laws.proofs.Defined.{value-same}
use Rattle.laws.proofs.Quiet.{fold_matches}
use Rattle.mir_func.specs.declared.func.Block.{Block}
use Rattle.mir_func.specs.Value.{Function}
use Rattle.mir_meaning.specs.Codes.{code_of, given_of, is_given, meaning_of}
use Rattle.mir_meaning.specs.Points.{points_of}
use Rattle.mir_meaning.specs.Registers.{is_reserved}
use Rattle.mir_meaning.proofs.Points.{points_are_code}
use Rattle.instr_effects.proofs.Members.{filter-of}
use Rattle.lowering_laws.specs.Shapes.{IsLowered}
use Rattle.join_laws.specs.Laws.{HasPlainUndefs}
use Rattle.join_laws.proofs.Laid.{points-laid}
use Rattle.phi_elim.specs.Numbered.{blocks_numbered}
use Rattle.rewriter.specs.Physical.{Assignment, physical_block, physical_form, physical_liveins, with_liveins}
use Rattle.rewrite_laws.specs.Laws.{IsClear, RewriteRefines}
use Rattle.rewrite_laws.proofs.Bare.{bare-blocks}
use Rattle.rewrite_laws.proofs.Clear.{GoesTo, goes, no-clash, where-to}
use Rattle.rewrite_laws.proofs.Folding.{code-folds, none}
use Rattle.rewrite_laws.proofs.Forward.{refines-forward}
use Rattle.rewrite_laws.proofs.Operands.{image}
use Rattle.rewrite_laws.proofs.Units.{unit-free}

module _ (t : Target) (f : Function) (rs : Assignment) (slots : List (ℕ × ClassId)) (live : ℕ → ℕ → Bool) (low : IsLowered t f) (plain : HasPlainUndefs t f) (clear : IsClear t f rs) where
  abbrev g : Function
  g = physical_form t rs slots live f

  abbrev m : Lane → Lane
  m = image t rs

  abbrev R : Lane → Bool
  R = is_reserved t

  points-same : points_of t f ≡ code_of t f
  points-same = points_are_code t f (none t f rs slots live clear low plain)

  code-bare : NoPhis (code_of t f)
  unfolding code_of
  code-bare = bare-blocks t f (none t f rs slots live clear low plain) f.blocks

  -- the first block keeps its live-ins
  given-same : (u : ℕ) → given_of t f u ≡ given_of t g u
  given-same u = ap (λ b. cond b (Some (unit_width t.units (unit_number u))) None) (go f.blocks)
    where
      go : (bs : List Block) → is_given t bs u ≡ is_given t (with_liveins (physical_liveins t live (blocks_numbered 0 (map (physical_block t rs) bs))) (blocks_numbered 0 (map (physical_block t rs) bs))) u
      go [] = refl
      go (b ∷ bs) = refl

  -- what a range holds at the start is Undef, whatever its unit holds
  starts : (env : Environment) (l : Lane) → AtLeast (start_state env (given_of t f) l) (start_state env (given_of t g) (m l))
  starts env (VirtualLane v k) = tt
  starts env (UnitLane u) = value-same (entry_lane env u (given_of t f u)) (entry_lane env u (given_of t g u)) (ap (entry_lane env u) (given-same u))
  starts env (SlotLane s k w) = tt

  fixes : (l : Lane) → R l ≡ true → m l ≡ l
  fixes (VirtualLane v k) e = absurd (cc)
  fixes (UnitLane u) e = refl
  fixes (SlotLane s k w) e = refl

  -- no range stands in a reserved unit
  only : (l : Lane) → R (m l) ≡ true → m l ≡ l
  only l e = go (where-to t f rs clear l)
    where
      free : (z : GoesTo t f rs clear l) → R (m l) ≡ false
      free z =
          let c = clear.classes z.v z.r z.reg in
          ap R (goes t f rs clear l z) ∙ unit-free t z.r (filter-of (is_unreserved t.reserved t.regs) z.r (regs_of t c.0) c.2).1 z.k z.u z.unit

      go : (m l ≡ l) ⊎ GoesTo t f rs clear l → m l ≡ l
      go (inl h) = h
      go (inr z) = absurd (let n : true ≡ false = sym e ∙ free z in cc)

  matches : Matched R m (code_of t f) (code_of t f) (code_of t g)
  matches =
      let clear-code = subst (λ c. NoClash R c m c) points-same (no-clash t f rs clear low) in
      fold_matches R m (code_of t f) only fixes (code-folds t f rs slots live clear low plain) (no-clash-quiet R (code_of t f) m fixes only (code_of t f) clear-code)

  refines-it : Refines (meaning_of t f) (meaning_of t g)
  unfolding meaning_of
  refines-it = refines-forward R m (meaning_of t f) (meaning_of t g) (λ env l k. starts env l) (subst (λ c. LaidOut c c) points-same (points-laid t f low)) code-bare matches

pub rewrite-refines : RewriteRefines
rewrite-refines t f rs slots live low plain clear = refines-it t f rs slots live low plain clear
