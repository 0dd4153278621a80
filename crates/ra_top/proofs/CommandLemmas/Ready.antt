-- What `intervals` tells of a function that was made ready is what is due for the function of the document.
use Rattle.std.proofs.Common.{◌≡◌, ◌≤◌, ◌<◌, ◌^◌, ℕ, Bool, true, false, List, length, refl, sym, subst, arith}
use Rattle.std.specs.Prelude.{Option, None, Some, nat_lt, if◌then◌else◌}
use Rattle.std.proofs.lemmas.Bool.Decides.{nat_tests}
use Rattle.target_base.specs.declared.types.Target.{Target}
use Rattle.mir_func.specs.Value.{Function}
use Rattle.mir_meaning.specs.declared.Form.TheVariants as forms
use Rattle.mir_meaning.specs.Valid.{IsValid}
use Rattle.live_laws.specs.Effects.Shaped.{AreClasses}
use Rattle.live_lanes.specs.declared.live.LiveFunc.{LiveFunc}
use Rattle.machine_verify.specs.Lives.{FitsTarget}
use Rattle.block_freq.specs.Frequencies.{frequencies_of}
use Rattle.phi_elim.specs.Bulk.{bulk}
use Rattle.two_address.specs.Lowered.{lowered}
use Rattle.pipeline.specs.declared.guarded.stop.LimitName.{LimitName}
use Rattle.pipeline.specs.declared.guarded.stop.LimitName.TheVariants as limits
use Rattle.pipeline.specs.declared.passes.ready.PreparedFunc.{PreparedFunc}
use Rattle.pipeline.specs.Guarded.Function.{IsTaken}
use Rattle.pipeline.specs.Guarded.Limits.{passed_limit}
use Rattle.pipeline.specs.Passes.Ready.{IsPrepared, MayPrepare}
use Rattle.ra_top.specs.Report.Intervals.Lines.{IsLiveText}
use Rattle.ra_top.specs.Commands.Documents.{IsIntervals}

-- the first of the limits isn't passed
few : (n : ℕ) (later : Option LimitName) → (if nat_lt 1024 n then Some limits.Blocks else later) ≡ None → n ≤ 1024
few n later h = go (nat_lt 1024 n) refl h
  where
    go : (b : Bool) → nat_lt 1024 n ≡ b → (if b then Some limits.Blocks else later) ≡ None → n ≤ 1024
    go true e h = absurd (cc)
    go false e h = grind (arith, nat_tests)

blocks-few : (f : Function) → passed_limit f ≡ None → length f.blocks < 4294967296
blocks-few f h = let n : length f.blocks ≤ 1024 = few (length f.blocks) _ h in omega arith

-- a taken function can be made ready
pub may-prepare : (t : Target) (f : Function) (x : LiveFunc) → FitsTarget t f → bulk f ≤ 2 ^ 24 → IsTaken t f → x.func ≡ f → x.target ≡ t → MayPrepare t x
may-prepare t f x fits small taken same target = record {
  target = target;
  classes = subst (λ (g : Function). AreClasses t g) (sym same) fits.classes;
  valid = subst (λ (g : Function). IsValid t forms.Source g) (sym same) taken.valid;
  bulk = subst (λ (g : Function). bulk g ≤ 2 ^ 24) (sym same) small;
  blocks = subst (λ (g : Function). length g.blocks < 4294967296) (sym same) (blocks-few f taken.fits);
}

pub shows : (t : Target) (f g : Function) (made : PreparedFunc) (name text : List ℕ) → g ≡ f → name ≡ f.name → IsPrepared t g made → IsLiveText t name made.freqs made.live.func text → IsIntervals t f f.name text
shows t f g made name text same named h told =
    let own : IsPrepared t f made = subst (λ (s : Function). IsPrepared t s made) same h in
    record {
      func = made.live.func;
      joins = own.joins;
      joined = own.joined;
      refines = own.refines;
      is = subst (λ (n : List ℕ). IsLiveText t n (frequencies_of (lowered t f).blocks) made.live.func text) named (subst (λ (fs : List ℕ). IsLiveText t name fs made.live.func text) own.freqs told);
    }
