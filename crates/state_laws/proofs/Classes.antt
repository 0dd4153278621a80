-- Ranges keep their classes in each step, and those that a spill adds have classes of the target.
use Rattle.std.proofs.Common.{◌≡◌, ◌<◌, ◌+◌, ◌++◌, ◌∙◌, ℕ, Bool, true, List, Option, length, replicate, sym, ap, subst, arith}
use Rattle.std.specs.Prelude.{is_some}
use Rattle.std.proofs.lemmas.List.{length-append}
use Rattle.std.proofs.lemmas.Option.{slice_get_within}
use Rattle.target_base.specs.declared.types.ClassId.{ClassId}
use Rattle.target_base.specs.declared.types.Target.{Target}
use Rattle.mir_func.specs.Value.{Function}
use Rattle.mir_func.specs.Binding.{class_of}
use Rattle.mir_meaning.specs.Points.{Point}
use Rattle.live_lanes.specs.declared.ask.labels.Mark.{Mark}
use Rattle.live_laws.proofs.Effects.Blocks.{member-slice}
use Rattle.lowering_laws.specs.Shapes.{IsLowered}
use Rattle.lowering_laws.proofs.Classes.{class-stays}
use Rattle.spiller.specs.EditLaw.{tiny_classes}
use Rattle.spiller.specs.Growing.{AreGiven}
use Rattle.spiller.specs.Setting.{Spilling}
use Rattle.spiller.specs.Spilled.{setting_of, spilled}
use Rattle.spill_laws.proofs.FurtherClasses.{further-class}
use Rattle.spill_laws.proofs.Ranges.{classes-are, classes-stay, has-made, made}
use Rattle.split_kit.specs.Split.{greatest_label, split_by}
use Rattle.run_end_laws.specs.Allocating.{assigns, spills, splits, unassigns}
use Rattle.state_laws.specs.Passes.{StepKeepsClasses}

-- steps

split-class : (t : Target) (f : Function) (v : ℕ) (ms : List Mark) (live : Point → Bool) (w : ℕ) → is_some (class_of f w) ≡ true → class_of (split_by live f v ms) w ≡ class_of f w
unfolding split_by
split-class t f v ms live w h = class-stays t f (replicate (greatest_label ms + 1) (class_of f v)) w h

still : {X : Type 0} (old new : Option X) → new ≡ old → is_some old ≡ true → is_some new ≡ true
still old new e h = ap (λ q. is_some q) e ∙ h

pub step-keeps-classes : StepKeepsClasses
step-keeps-classes t f g s r rs new w (assigns v q free c) h = h
step-keeps-classes t f g s r rs new w (unassigns v c) h = h
step-keeps-classes t f g s r rs new w (splits v ms left meet z e) h = still (class_of f w) (class_of g w) (ap (λ (k : Function). class_of k w) z.2 ∙ split-class t f v ms z.0 w h) h
step-keeps-classes t f g s r rs new w (spills v tinies left z) h = still (class_of f w) (class_of g w) (ap (λ (k : Function). class_of k w) z.func ∙ classes-stay (setting_of t f s v z.facts) w h) h

-- the further ranges of a spill

within-both : {X : Type 0} (xs ys : List X) (j : ℕ) → j < length ys → length xs + j < length (xs ++ ys)
within-both xs ys j h = omega (arith, length-append xs ys)

module _ (s : Spilling) (low : IsLowered s.target s.func) where
  further-within : (j : ℕ) → j < length (made s) → length s.func.classes + j < length (spilled s).classes
  further-within j h = subst (λ (cs : List (Option ClassId)). length s.func.classes + j < length cs) (sym (classes-are s)) (within-both s.func.classes (made s) j h)

  pub tinies-are-given : AreGiven s.target (tiny_classes s)
  tinies-are-given q m =
      let at = member-slice q (made s) m in
      let known = further-class s low (length s.func.classes + at.0) (omega arith) (further-within at.0 (slice_get_within (made s) at.0 q at.1)) in
      (known.0, sym (has-made s at.0 q at.1) ∙ known.1, known.2)
