-- A run keeps what rewriting asks of its function.
use Rattle.std.proofs.Common.{◌≡◌, ◌||◌, ◌∙◌, ℕ, cond, List, [], ◌∷◌, map, refl, sym, ap, subst, arith}
use Rattle.std.specs.Prelude.{nat_eq}
use Rattle.std.proofs.lemmas.Bool.Decides.{nat_tests}
use Rattle.target_base.specs.declared.types.ClassId.{ClassId}
use Rattle.target_base.specs.declared.types.Target.{Target}
use Rattle.mir_func.specs.declared.func.Operand.TheVariants as operands
use Rattle.mir_func.specs.Value.{Function}
use Rattle.mir_func.specs.Binding.{does}
use Rattle.mir_meaning.specs.Registers.{has_number}
use Rattle.mir_meaning.specs.Rules.{spills_or_reloads}
use Rattle.live_lanes.specs.declared.ask.labels.Mark.{Mark}
use Rattle.live_laws.proofs.Effects.Lists.{all-of}
use Rattle.lowering_laws.specs.Shapes.{IsLowered}
use Rattle.two_address.specs.Lowered.{lowered}
use Rattle.spiller.specs.Slots.{Slots}
use Rattle.spill_laws.proofs.InTurn.{form_has_plain_undefs}
use Rattle.split_laws.specs.Laws.{SplitInTurn}
use Rattle.split_laws.proofs.Kept.{split_keeps_lowered}
use Rattle.run_laws.specs.Runs.{IsReached}
use Rattle.run_laws.specs.Runs as plain
use Rattle.run_laws.proofs.Runs.{joined_is_in_run, lowered_is_in_run, step_is_in_run}
use Rattle.valid_laws.specs.Rules.{HasStart, is_given_slot}
use Rattle.valid_laws.proofs.EndsKept.{lowered-has-blocks}
use Rattle.valid_laws.proofs.JoinsKeep.{joined-keeps-blocks}
use Rattle.valid_laws.proofs.LoweredFlags.{lowered-has-flags}
use Rattle.valid_laws.proofs.SpillFlags.{spill-keeps-flags}
use Rattle.valid_laws.proofs.SplitFlags.{split-keeps-flags}
use Rattle.ready_laws.specs.Frames.{HasFrames, names_own}
use Rattle.ready_laws.specs.Runs.{ComputedRunIsReady, IsReachedWith, IsSlotStep, JoinedIsReady, KeepsReady, ReachedWithIsReached, RunIsReady, RunWithoutSpillsIsListed, SplitsKeepStart, StepKeepsReady, spills, splits, start, step}
use Rattle.ready_laws.specs.Starts.{ListsStart}
use Rattle.ready_laws.proofs.Frames.{all-own, first-has-frames, frames-fit, split-keeps-frames}
use Rattle.ready_laws.proofs.JoinStarts.{joined-keeps-listed}
use Rattle.ready_laws.proofs.NoSlots.{joined-has-no-slots, lowered-has-no-slots}
use Rattle.ready_laws.proofs.SpillFrames.{spill-keeps-frames}
use Rattle.ready_laws.proofs.SplitStarts.{split-keeps-listed, split-keeps-start}
use Rattle.ready_laws.proofs.Starts.{listed-has-start}
use Rattle.ready_laws.proofs.StepBlocks.{spill-keeps-blocks, split-keeps-blocks}

-- steps without what is known of slots

forgets : {t : Target} {f g : Function} {s r : Slots} → IsSlotStep t f s g r → plain.IsStep t f g
forgets (splits v ms meet z given taken) = plain.splits v ms meet z
forgets {s = s} {r = r} (spills v made z) = plain.spills s r v made z

reached : {t : Target} {f : Function} {s : Slots} {g : Function} {r : Slots} → IsReachedWith t f s g r → IsReached t f g
reached start = plain.start
reached (step on z) = plain.step (reached on) (forgets z)

pub reached-with-is-reached : ReachedWithIsReached
reached-with-is-reached t f g s r on = reached on

-- steps

-- only the slots that were given, and the frame objects of the prepared function, count
other-originals : (t : Target) (f : Function) (s r : Slots) → r.given ≡ s.given → r.taken ≡ s.taken → HasFrames t f s → HasFrames t f r
other-originals t f s r given taken has = record {
  frames = has.frames;
  operands = λ b i mb mi. all-own t r i (λ n m.
      (λ k. cond (does spills_or_reloads t i) (has_number (map (λ (p : ℕ × ℕ). p.1) (given k)) n) (has_number (taken k) n))
      ∙ all-of (names_own t s i) (operands.Stack n) i.operands m (has.operands b i mb mi));
  apart = λ n h. ap (λ ns. has_number ns n) taken ∙ has.apart n (sym (ap (λ (gs : List (ℕ × ℕ)). has_number (map (λ (p : ℕ × ℕ). p.1) gs) n) given) ∙ h);
}

pub step-keeps-ready : StepKeepsReady
step-keeps-ready t f g s r k (splits v ms meet z given taken) = record {
  run = step_is_in_run t f g k.run (plain.splits v ms meet z);
  blocks = split-keeps-blocks t f g v ms meet z k.blocks;
  flags = split-keeps-flags t f g v ms z k.flags;
  frames = other-originals t g s r given taken (split-keeps-frames t f g s v ms z k.frames);
}
step-keeps-ready t f g s r k (spills v made z) =
    let run = step_is_in_run t f g k.run (plain.spills s r v made z) in
    record {
      run = run;
      blocks = spill-keeps-blocks t f g s r v made k.run.lowered z k.blocks;
      flags = spill-keeps-flags t f g s r v made k.run.lowered z k.flags;
      frames = spill-keeps-frames t f g s r v made k.run.lowered run.lowered z k.frames;
    }

keeps : {t : Target} {f : Function} {s : Slots} {g : Function} {r : Slots} → KeepsReady t f s → IsReachedWith t f s g r → KeepsReady t g r
keeps k start = k
keeps {t = t} k (step {g = g} {h = h} {r = r} {q = q} on z) = step-keeps-ready t g h r q (keeps k on) z

-- lowering and joins

pub joined-is-ready : JoinedIsReady
joined-is-ready t freqs f g js s valid classes some z first =
    let run = lowered_is_in_run t f valid classes some in
    let kept = joined-keeps-blocks t freqs (lowered t f) g js run.lowered (form_has_plain_undefs t (lowered t f) run.instrs) z (lowered-has-blocks t f valid classes) (lowered-has-flags t f valid) in
    record {
      run = joined_is_in_run t freqs (lowered t f) g js run z;
      blocks = kept.0;
      flags = kept.1;
      frames = first-has-frames t g s (joined-has-no-slots t freqs (lowered t f) g js z (lowered-has-no-slots t f valid some)) first;
    }

-- the end of a run

equal-turned : (a b : ℕ) → nat_eq a b ≡ nat_eq b a
equal-turned a b = grind (arith, nat_tests)

given-numbers : (slots : List (ℕ × ClassId)) (n : ℕ) → is_given_slot slots n ≡ has_number (map (λ p. p.0) slots) n
given-numbers [] n = refl
given-numbers (x ∷ slots) n = λ k. equal-turned x.0 n k || given-numbers slots n k

pub run-is-ready : RunIsReady
run-is-ready t freqs f g h js s r rs slots valid classes some z first on same clear begin =
    let k = keeps (joined-is-ready t freqs f g js s valid classes some z first) on in
    record {
      lowered = k.run.lowered;
      formed = k.run.instrs;
      clear = clear;
      blocks = k.blocks;
      flags = k.flags;
      frames = frames-fit t h r slots k.run.lowered k.frames (λ n. given-numbers slots n ∙ ap (λ ns. has_number ns n) same);
      start = begin;
    }

pub splits-keep-start : SplitsKeepStart
splits-keep-start t f g [] low z begin = subst (λ h. HasStart t h) (sym z) begin
splits-keep-start t f g (s ∷ parted) low z begin =
    splits-keep-start t z.0 g parted (split_keeps_lowered t f z.0 s.0 s.1 low z.1 z.2) z.3 (split-keeps-start t f z.0 s.0 s.1 low z.1 z.2 begin)

pub computed-run-is-ready : ComputedRunIsReady
computed-run-is-ready live freqs f g js s r rs slots valid classes some z first on same clear computed l =
    let k = keeps (joined-is-ready live.target freqs f g js s valid classes some z first) on in
    run-is-ready live.target freqs f g live.func js s r rs slots valid classes some z first on same clear (listed-has-start live computed k.run.lowered l)

splits-keep-listed : (t : Target) (f g : Function) (parted : List (ℕ × List Mark)) → IsLowered t f → SplitInTurn t f parted g → ListsStart t f → ListsStart t g
splits-keep-listed t f g [] low z l = subst (λ h. ListsStart t h) (sym z) l
splits-keep-listed t f g (s ∷ parted) low z l =
    splits-keep-listed t z.0 g parted (split_keeps_lowered t f z.0 s.0 s.1 low z.1 z.2) z.3 (split-keeps-listed t f z.0 s.0 s.1 low z.1 z.2 l)

pub run-without-spills-is-listed : RunWithoutSpillsIsListed
run-without-spills-is-listed t freqs f g h js parted valid classes some z s l =
    let run = lowered_is_in_run t f valid classes some in
    splits-keep-listed t g h parted (joined_is_in_run t freqs (lowered t f) g js run z).lowered s
    (joined-keeps-listed t freqs (lowered t f) g js run.lowered (form_has_plain_undefs t (lowered t f) run.instrs) z l)
