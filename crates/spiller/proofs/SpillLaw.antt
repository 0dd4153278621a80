-- The edits of the plan for a whole function spill the range.
use Rattle.std.proofs.Common.{◌≡◌, ◌∙◌, ◌⊎◌, inl, inr, Bool, true, false, List, [], refl, sym, ap, subst}
use Rattle.std.specs.Prelude.{length}
use Rattle.meaning.specs.Live.{Among}
use Rattle.mir_func.specs.declared.func.Block.{Block}
use Rattle.mir_func.specs.declared.func.Instr.{Instr}
use Rattle.mir_func.specs.Value.{Function}
use Rattle.mir_meaning.specs.Points.{touches}
use Rattle.edit_laws.specs.Further.{with_classes}
use Rattle.live_edits.specs.Runs.{edits_of}
use Rattle.live_laws.proofs.Effects.Lists.{any-in}
use Rattle.lowering_laws.specs.Named.{TouchesItsRanges}
use Rattle.lowering_laws.specs.Shapes.{IsLowered}
use Rattle.spiller.specs.EditLaw.{DoSpill, PlansSpill, SpillEditsLaw, tiny_classes}
use Rattle.spiller.specs.Setting.{Spilling}
use Rattle.spiller.specs.Rematerialised.{is_needless, places_of}
use Rattle.spiller.specs.Spilled.{names_slot, spilled}
use Rattle.spiller.specs.Planned.{names_own}
use Rattle.spiller.specs.Views.{Planned}
use Rattle.spiller.specs.WholePlan.{touches_place, whole_plan}
use Rattle.spiller.proofs.BlockEdits.{Spills, all-lead, all_edits}
use Rattle.spiller.proofs.ChangeFits.{place-fits, place-in}
use Rattle.spiller.proofs.EditMoves.{After, after-all, after-places, after-spares}
use Rattle.spiller.proofs.Unnamed.{strange-of, unnamed-change}
use Rattle.spiller.proofs.NeedlessTouched.{needless-touch}
use Rattle.spiller.proofs.SlotsUsed.{slot-known, slot-used}
use Rattle.spiller.proofs.WholePlans.{StayUntouched, blocks_use, classes-are, edits-are, tinies-are, whole-plan}

-- instructions that are needed no more touch the range
abbrev pub NeedlessTouch : Spilling → Type 0
NeedlessTouch s = (b : Block) (i : Instr) → Among b s.func.blocks → Among i b.instrs → is_needless s i ≡ true → touches s.range i ≡ true

module _ (s : Spilling) (low : IsLowered s.target s.func) (named : (b : Block) (i : Instr) → Among b s.func.blocks → Among i b.instrs → TouchesItsRanges i) (needless : NeedlessTouch s) where
  untouched : (is : List Instr) → touches_place s is ≡ false → (i : Instr) → Among i is → touches s.range i ≡ false
  untouched is e i m = go (touches s.range i) refl
    where
      go : (u : Bool) → touches s.range i ≡ u → u ≡ false
      go true h = absurd (let z : true ≡ false = sym (any-in (touches s.range) i is m h) ∙ e in cc)
      go false h = refl

  not-so : (u : Bool) (w : Bool) → w ≡ false → (u ≡ true → w ≡ true) → u ≡ false
  not-so true w e h = absurd (let z : true ≡ false = sym (h refl) ∙ e in cc)
  not-so false w e h = refl

  pub stay : (b : Block) → Among b s.func.blocks → StayUntouched s (places_of s.target b)
  stay b mb p mp e =
      let there : (i : Instr) → Among i p → Among i b.instrs = (λ i m. place-in s b.instrs p mp i m) in
      let unnamed : (i : Instr) → Among i p → names_own s i ≡ false = (λ i m. not-so (names_own s i) (touches s.range i) (untouched p e i m) (named b i mb (there i m) s.range)) in
      record {
        change_is = λ n c. unnamed-change s n c p (λ i m. strange-of s i (unnamed i m)) (λ i m. not-so (is_needless s i) (touches s.range i) (untouched p e i m) (needless b i mb (there i m)));
        unnamed = unnamed;
      }

  leads : let g = with_classes s.func (tiny_classes s) in After s.target (Spills s) (edits_of (all_edits s)) [] g g
  leads = all-lead s low.function low.rules.blocks (λ b mb p mp n c. place-fits s low b mb p mp n c)

  pub do-spill : DoSpill s (with_classes s.func (whole_plan s).classes) (edits_of (whole_plan s).edits)
  do-spill =
      let g : Function = with_classes s.func (tiny_classes s) in
      let es = edits_of (all_edits s) in
      subst (λ cs. DoSpill s (with_classes s.func cs) (edits_of (whole_plan s).edits)) (sym (classes-are s stay))
      (subst (λ ks. DoSpill s g (edits_of ks)) (sym (edits-are s stay))
      (record {
        done = after-all s.target (Spills s) (spilled s) es [] g g (λ ds d f h. h) leads;
        places = after-places s.target (Spills s) es [] g g leads;
        spare = after-spares s.target (Spills s) es [] g g leads;
      }))

  pub plans-spill : PlansSpill s (whole_plan s)
  plans-spill =
      let used : (whole_plan s).uses_slot ≡ blocks_use s s.func.next_id (length s.func.classes) s.func.blocks = ap (λ (p : Planned). p.uses_slot) (whole-plan s stay) in
      record {
        edits = do-spill;
        classes_are = classes-are s stay;
        tinies_are = tinies-are s stay;
        slot_used = λ e. slot-used s (sym used ∙ e);
        slot_known = λ e. still (blocks_use s s.func.next_id (length s.func.classes) s.func.blocks) (whole_plan s).uses_slot (sym used) (slot-known s stay e);
      }
    where
      still : (u w : Bool) → u ≡ w → (u ≡ true) ⊎ (names_slot s.slot s.func ≡ true) → (w ≡ true) ⊎ (names_slot s.slot s.func ≡ true)
      still u w e (inl k) = inl (sym e ∙ k)
      still u w e (inr k) = inr k

pub spill-edits-law : SpillEditsLaw
spill-edits-law s x may facts = plans-spill s may.lowered may.named (needless-touch s x may facts)
