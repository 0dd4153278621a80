-- A run keeps what is live where its function begins: no range, and the units that the first block lists.
use Rattle.std.proofs.Common.{◌≡◌, ℕ, List, [], ◌∷◌, Some, length, map, refl, sym, ap, subst}
use Rattle.std.specs.Prelude.{slice_get}
use Rattle.std.specs.List.{zip}
use Rattle.target_base.specs.declared.types.Target.{Target}
use Rattle.meaning.specs.declared.types.Lane.TheVariants.{UnitLane, VirtualLane}
use Rattle.mir_func.specs.declared.func.Block.{Block}
use Rattle.mir_func.specs.Value.{Function}
use Rattle.mir_meaning.specs.Points.{LiveAt, Start}
use Rattle.live_laws.proofs.Effects.Moving.{some-same}
use Rattle.two_address.specs.Lowered.{lowered}
use Rattle.spiller.specs.Setting.{Spilling}
use Rattle.spiller.specs.Slots.{Slots}
use Rattle.spiller.specs.Spilled.{block_changes, setting_of, spilled, spilled_block}
use Rattle.spill_laws.proofs.InTurn.{form_has_plain_undefs}
use Rattle.run_laws.specs.Form.{IsInRun}
use Rattle.run_laws.specs.Runs as plain
use Rattle.run_laws.proofs.Runs.{joined_is_in_run, lowered_is_in_run, step_is_in_run}
use Rattle.clear_laws.specs.Spills.{KeepsStarts}
use Rattle.clear_laws.proofs.SpillKept.{places_are_kept}
use Rattle.clear_laws.proofs.Starts.{spill_starts_by}
use Rattle.ready_laws.specs.Listed.{ApartIsReached, ApartRunIsReady, IsReachedApart, RunIsListed, SpillKeepsListed, SpillsApart}
use Rattle.ready_laws.specs.Listed as apart
use Rattle.ready_laws.specs.Runs.{IsReachedWith, IsSlotStep, spills, splits}
use Rattle.ready_laws.specs.Runs as runs
use Rattle.ready_laws.specs.Starts.{BeginsWithin, ListsStart}
use Rattle.ready_laws.proofs.JoinStarts.{joined-keeps-listed}
use Rattle.ready_laws.proofs.LoweredStarts.{lowered-is-listed}
use Rattle.ready_laws.proofs.Runs.{computed-run-is-ready}
use Rattle.ready_laws.proofs.SplitStarts.{split-keeps-listed}
use Rattle.ready_laws.proofs.Starts.{within-keeps-listed}

-- the first block behind a spill is the first before it, with other instructions
first-block : (s : Spilling) (n c : ℕ) (bs : List Block) (d : Block) → slice_get (map spilled_block (zip bs (block_changes s n c bs))) 0 ≡ Some d → (b : Block) × (slice_get bs 0 ≡ Some b) × (d.number ≡ b.number) × (d.liveins ≡ b.liveins)
first-block s n c [] d e = absurd (cc)
first-block s n c (b ∷ bs) d e = let z = some-same _ d e in (b, refl, sym (ap (λ (x : Block). x.number) z), sym (ap (λ (x : Block). x.liveins) z))

first-spilled : (s : Spilling) (d : Block) → slice_get (spilled s).blocks 0 ≡ Some d → (b : Block) × (slice_get s.func.blocks 0 ≡ Some b) × (d.number ≡ b.number) × (d.liveins ≡ b.liveins)
unfolding spilled
first-spilled s d e = first-block s s.func.next_id (length s.func.classes) s.func.blocks d e

spilled-listed : (s : Spilling) → KeepsStarts s.target s.func (spilled s) → ListsStart s.target s.func → ListsStart s.target (spilled s)
spilled-listed s keeps l = within-keeps-listed s.target s.func (spilled s) begins l
  where
    begins : (c : Block) → slice_get (spilled s).blocks 0 ≡ Some c → (b : Block) × BeginsWithin s.target s.func (spilled s) b c
    begins c e =
        let z = first-spilled s c e in (
          z.0,
          record {
            there = z.1;
            number = z.2;
            liveins = z.3;
            units = λ u h. keeps.units z.0.number u (subst (λ n. LiveAt s.target (spilled s) (Start n) (UnitLane u)) z.2 h);
            ranges = λ w k h. (w, k, keeps.ranges z.0.number w k (subst (λ n. LiveAt s.target (spilled s) (Start n) (VirtualLane w k)) z.2 h));
          },
        )

pub spill-keeps-listed : SpillKeepsListed
spill-keeps-listed t f g slots new v made z keeps l =
    let s = setting_of t f slots v z.facts in
    subst (ListsStart t) (sym z.func) (spilled-listed s (subst (KeepsStarts t f) z.func keeps) l)

apart-with : {t : Target} {f : Function} {s : Slots} {g : Function} {r : Slots} → IsReachedApart t f s g r → IsReachedWith t f s g r
apart-with apart.start = runs.start
apart-with (apart.step on z a) = runs.step (apart-with on) z

pub apart-is-reached : ApartIsReached
apart-is-reached t f g s r on = apart-with on

-- one step, from a function of a run
step-listed : {t : Target} {f : Function} {s : Slots} {g : Function} {r : Slots} → IsInRun t f → (z : IsSlotStep t f s g r) → SpillsApart z → ListsStart t f → ListsStart t g
step-listed {t = t} {f = f} {g = g} run (splits v ms meet z given taken) a l = split-keeps-listed t f g v ms run.lowered meet z l
step-listed {t = t} {f = f} {s = s} {g = g} {r = r} run (spills v made z) a l =
    spill-keeps-listed t f g s r v made z (spill_starts_by places_are_kept t f g s r v made run.lowered run.instrs run.undefs a z) l

plain-step : {t : Target} {f : Function} {s : Slots} {g : Function} {r : Slots} → IsSlotStep t f s g r → plain.IsStep t f g
plain-step (splits v ms meet z given taken) = plain.splits v ms meet z
plain-step {s = s} {r = r} (spills v made z) = plain.spills s r v made z

steps-listed : {t : Target} {f : Function} {s : Slots} {g : Function} {r : Slots} → IsInRun t f → ListsStart t f → IsReachedApart t f s g r → IsInRun t g × ListsStart t g
steps-listed run l apart.start = (run, l)
steps-listed {t = t} run l (apart.step {g = g} {h = h} on z a) =
    let k = steps-listed run l on in
    (step_is_in_run t g h k.0 (plain-step z), step-listed k.0 z a k.1)

pub run-is-listed : RunIsListed
run-is-listed t freqs f g h js s r valid classes some z on =
    let run = lowered_is_in_run t f valid classes some in
    (steps-listed (joined_is_in_run t freqs (lowered t f) g js run z)
    (joined-keeps-listed t freqs (lowered t f) g js run.lowered (form_has_plain_undefs t (lowered t f) run.instrs) z (lowered-is-listed t f valid classes)) on).1

pub apart-run-is-ready : ApartRunIsReady
apart-run-is-ready live freqs f g js s r rs slots valid classes some z first on same clear computed =
    computed-run-is-ready live freqs f g js s r rs slots valid classes some z first (apart-with on) same clear computed
    (run-is-listed live.target freqs f g live.func js s r valid classes some z on)
