-- The parts of the whole text.
use Rattle.std.proofs.Common.{◌≡◌, ℕ, ◌+◌, ◌*◌, ◌/◌, true, false, cond, min, List, [], ◌++◌, length, sym, ap, ◌∙◌, subst, append_assoc, append-nil}
use Rattle.std.specs.Prelude.{slice_get}
use Rattle.std.specs.List.{flat_map}
use Rattle.target_base.specs.declared.types.Target.{Target}
use Rattle.mir_func.specs.Value.{Function}
use Rattle.mir_func.specs.Binding.{class_of}
use Rattle.mir_meaning.specs.Registers.{numbers}
use Rattle.live_lanes.specs.declared.table.Table.{Table}
use Rattle.live_lanes.specs.Extents.{lanes_count}
use Rattle.live_lanes.specs.Held.{range_held}
use Rattle.ra_top.specs.declared.report.intervals.uses.Use.{Use}
use Rattle.ra_top.specs.Report.Intervals.Lines.{function_line, block_lines, range_line, lane_line, class_text}
use Rattle.ra_top.specs.Report.Intervals.Told.{most, range_segments, named_lines, used_lines, uses_lines, AreUses, AreRangeLines, IsToldText}

module _ (t : Target) (x : Table) (f : Function) where
  -- the line of a range, and behind it those of its lanes
  pub named-text : (v sum : ℕ) (out mid new class : List ℕ) (w points : ℕ) → mid ≡ out ++ range_line v class w → class ≡ class_text t (class_of f v) → w ≡ min (sum * 1024) most / (points + 8) → points ≡ range_held x f.blocks v → new ≡ mid ++ flat_map (λ k. lane_line k (range_segments x f.blocks v k)) (numbers 0 (lanes_count (slice_get x.lanes.ranges.items v))) → new ≡ out ++ named_lines t x f v sum
  named-text v sum out mid new class w points head name weighs held e =
      e
      ∙ ap (λ ls. ls ++ lanes) head
      ∙ append_assoc out (range_line v class w) lanes
      ∙ ap (λ n. out ++ (range_line v n w ++ lanes)) name
      ∙ ap (λ n. out ++ (range_line v (class_text t (class_of f v)) n ++ lanes)) weighs
      ∙ ap (λ n. out ++ (range_line v (class_text t (class_of f v)) (min (sum * 1024) most / (n + 8)) ++ lanes)) held
    where
      lanes : List ℕ
      lanes = flat_map (λ k. lane_line k (range_segments x f.blocks v k)) (numbers 0 (lanes_count (slice_get x.lanes.ranges.items v)))

  pub used-text : (v : ℕ) (own : Use) (out new : List ℕ) → own.is_named ≡ true → new ≡ out ++ named_lines t x f v own.sum → new ≡ out ++ used_lines t x f v own
  used-text v own out new named e = e ∙ ap (λ b. out ++ cond b (named_lines t x f v own.sum) []) (sym named)

  pub unused-text : (v : ℕ) (own : Use) (out : List ℕ) → own.is_named ≡ false → out ≡ out ++ used_lines t x f v own
  unused-text v own out named = sym (append-nil out) ∙ ap (λ b. out ++ cond b (named_lines t x f v own.sum) []) (sym named)

  -- the lines of all ranges, put behind nothing
  pub ranges-text : (g : Function) (freqs fs first text : List ℕ) (uses us : List Use) → g ≡ f → fs ≡ freqs → AreUses fs g.blocks uses → length uses ≡ length g.classes → us ≡ uses → first ≡ [] → text ≡ first ++ uses_lines t x f 0 us → AreRangeLines t x f freqs text
  ranges-text g freqs fs first text uses us same given right all read none e = record {
    uses = uses;
    right = subst (λ (h : Function). AreUses freqs h.blocks uses) same (subst (λ ns. AreUses ns g.blocks uses) given right);
    all = all ∙ ap (λ (h : Function). length h.classes) same;
    is = e ∙ ap (λ ls. ls ++ uses_lines t x f 0 us) none ∙ ap (λ (xs : List Use). uses_lines t x f 0 xs) read;
  }

  -- the line of the function, those of its blocks and those of its ranges, put behind nothing
  pub whole-text : (g : Function) (name freqs ranges read first one two text : List ℕ) → AreRangeLines t x f freqs ranges → g ≡ f → read ≡ ranges → first ≡ [] → one ≡ first ++ function_line name → two ≡ one ++ block_lines freqs g.blocks → text ≡ two ++ read → IsToldText t x f name freqs text
  whole-text g name freqs ranges read first one two text lines same given none e1 e2 e3 = record {
    ranges = ranges;
    lines = lines;
    is =
        e3
        ∙ ap (λ ls. two ++ ls) given
        ∙ ap (λ ls. ls ++ ranges) (e2 ∙ ap (λ ls. ls ++ block_lines freqs g.blocks) (e1 ∙ ap (λ ls. ls ++ function_line name) none) ∙ ap (λ (h : Function). function_line name ++ block_lines freqs h.blocks) same)
        ∙ append_assoc (function_line name) (block_lines freqs f.blocks) ranges;
  }
