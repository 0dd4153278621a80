-- A function whose slots went to others does what it did.
use Rattle.std.proofs.Common.{◌≡◌, ℕ, true, false, cond, List, [], ◌∷◌, Some, None, map, refl, sym, ap, ◌∙◌, subst}
use Rattle.std.specs.Prelude.{option_map, slice_get}
use Rattle.std.specs.List.{list_any}
use Rattle.target_base.specs.declared.types.OpcodeDesc.{OpcodeDesc}
use Rattle.target_base.specs.declared.types.Target.{Target}
use Rattle.target_base.specs.Numbers.{unit_number}
use Rattle.target_base.specs.Storage.{unit_width}
use Rattle.meaning.specs.declared.types.Lane.{Lane}
use Rattle.meaning.specs.declared.types.Lane.TheVariants.{VirtualLane, UnitLane, SlotLane}
use Rattle.meaning.specs.Code.{entry_lane, start_state}
use Rattle.meaning.specs.Environment.{Environment}
use Rattle.meaning.specs.Fold.{Folded, Folds, Quiet}
use Rattle.meaning.specs.Live.{Among as Member}
use Rattle.laws.proofs.Quiet.{law_of_folds}
use Rattle.mir_func.specs.declared.func.Loc.{Loc}
use Rattle.mir_func.specs.declared.func.Loc.TheVariants.{Virtual, Fixed}
use Rattle.mir_func.specs.declared.func.RegOp.{RegOp}
use Rattle.mir_func.specs.declared.func.Instr.{Instr}
use Rattle.mir_func.specs.declared.func.Block.{Block}
use Rattle.mir_func.specs.Value.{Function}
use Rattle.mir_func.specs.Binding.{effect_of, is_lowered_away, is_virtual, passes, registers}
use Rattle.mir_meaning.specs.Registers.{is_reserved}
use Rattle.mir_meaning.specs.Codes.{code_of, given_of, is_given, meaning_of}
use Rattle.mir_meaning.specs.Points.{has_no_phis, points_of}
use Rattle.mir_meaning.specs.Renaming.{IsFixed}
use Rattle.mir_meaning.specs.Rules.{spills_or_reloads}
use Rattle.mir_meaning.specs.Valid.{names_virtual}
use Rattle.mir_meaning.proofs.Points.{points_are_code}
use Rattle.slot_laws.specs.Homes.{AreHomes, IsAllocated, MovingRefines, block_moved, function_moved}
use Rattle.slot_laws.proofs.Lists.{any-none}
use Rattle.slot_laws.proofs.Clear.{all-quiet, points-quiet}
use Rattle.slot_laws.proofs.Laid.{code-bare, code-laid, lowered, no-phis, rules-at}
use Rattle.slot_laws.proofs.Merged.{IsPlain, PlainBlocks, code-merged, folded-renamed, renamed_code}
use Rattle.slot_laws.proofs.Ruled.{AllRules, all-rules}
use Rattle.slot_laws.proofs.Shaped.{instr-stays}
use Rattle.slot_laws.proofs.Still.{merged_lane}

fixed-loc : (l : Loc) → is_virtual l ≡ false → IsFixed l
fixed-loc (Virtual v) e = absurd (cc)
fixed-loc (Fixed r) e = tt

-- reserved units stay, and nothing goes to one

pub fixes : (t : Target) (h : ℕ → ℕ) (l : Lane) → is_reserved t l ≡ true → merged_lane h l ≡ l
fixes t h (VirtualLane v k) e = refl
fixes t h (UnitLane u) e = refl
fixes t h (SlotLane s k w) e = absurd (cc)

pub only : (t : Target) (h : ℕ → ℕ) (l : Lane) → is_reserved t (merged_lane h l) ≡ true → merged_lane h l ≡ l
only t h (VirtualLane v k) e = refl
only t h (UnitLane u) e = refl
only t h (SlotLane s k w) e = absurd (cc)

module _ (t : Target) (home : ℕ → ℕ) (head : List ℕ) (f : Function) (allocated : IsAllocated t f) (homes : AreHomes t f home) where
  abbrev g : Function
  g = function_moved home head f

  abbrev m : Lane → Lane
  m = merged_lane home

  pub rules : (n : ℕ) (b : Block) → slice_get f.blocks n ≡ Some b → AllRules t f n b
  rules = all-rules t f allocated.valid.shape

  pub none : has_no_phis t f.blocks ≡ true
  none = no-phis t f rules

  pub fixed : (b : Block) (i : Instr) → Member b f.blocks → Member i b.instrs → (o : RegOp) → Member o (registers i.operands) → IsFixed o.loc
  fixed b i mb mi o mo =
      let one : names_virtual b ≡ false = any-none names_virtual b f.blocks mb allocated.valid.starts in
      let two : list_any (λ (p : RegOp). is_virtual p.loc) (registers i.operands) ≡ false = any-none (λ (x : Instr). list_any (λ (p : RegOp). is_virtual p.loc) (registers x.operands)) i b.instrs mi one in
      fixed-loc o.loc (any-none (λ (p : RegOp). is_virtual p.loc) o (registers i.operands) mo two)

  pub plain-instr : (b : Block) (i : Instr) → Member b f.blocks → Member i b.instrs → IsPlain t home i
  plain-instr b i mb mi =
      let r = (rules-at t f rules b i mb mi).2 in
      let known : effect_of t i ≡ Some r.known.0.effect = ap (option_map (λ (d : OpcodeDesc). d.effect)) r.known.1 in
      let low = lowered t f rules b i mb mi in
      record {
        lowered = low;
        stays = λ s. instr-stays home t f i r.known.0.effect known r.one r.fifteen (sym (ap (passes spills_or_reloads) known) ∙ s) (sym (ap (passes is_lowered_away) known) ∙ low) homes.stays;
        fixed = fixed b i mb mi;
      }

  pub plain : PlainBlocks t home head f none f.blocks
  plain b mb i mi = plain-instr b i mb mi

  pub merged-code : code_of t g ≡ renamed_code t home head f none (code_of t f)
  merged-code = code-merged t home head f none plain

  given-blocks : (u : ℕ) (bs : List Block) → is_given t (map (block_moved home) bs) u ≡ is_given t bs u
  given-blocks u [] = refl
  given-blocks u (b ∷ bs) = refl

  given-same : (u : ℕ) → given_of t g u ≡ given_of t f u
  given-same u = ap (λ b. cond b (Some (unit_width t.units (unit_number u))) None) (given-blocks u f.blocks)

  starts : (env : Environment) (l : Lane) → start_state env (given_of t f) l ≡ start_state env (given_of t g) (m l)
  starts env (VirtualLane v k) = refl
  starts env (UnitLane u) = ap (entry_lane env u) (sym (given-same u))
  starts env (SlotLane s k w) = refl

  folded : Folded m (code_of t f) (code_of t g)
  folded = subst (Folded m (code_of t f)) (sym merged-code) (folded-renamed m (code_of t f))

  quiet : Quiet (is_reserved t) (code_of t f) m (code_of t f)
  quiet = subst (λ c. Quiet (is_reserved t) c m c) (points_are_code t f none) (all-quiet (is_reserved t) home (points_of t f) (points_of t f) (points-quiet t f home allocated.function homes))

  folds : Folds (is_reserved t) m (meaning_of t f) (meaning_of t g)
  unfolding meaning_of
  folds = record {
    fits = record { starts = λ env l k. starts env l; laid_out = code-laid t f rules; no_phis = code-bare t f rules };
    fixes = fixes t home;
    only = only t home;
    quiet = quiet;
    folded = folded;
  }

pub moving-refines : MovingRefines
moving-refines t home head f allocated homes = law_of_folds (is_reserved t) (merged_lane home) (meaning_of t f) (meaning_of t (function_moved home head f)) (folds t home head f allocated homes)
