-- What is told of a computed table is what live points say.
use Rattle.std.proofs.Common.{◌≡◌, ◌≤◌, ◌<◌, ℕ, zero, suc, ◌+◌, ◌*◌, ◌/◌, ◌^◌, ◌-◌, true, cond, min, List, [], ◌∷◌, ◌++◌, length, Option, None, Some, refl, sym, ap, ◌∙◌, arith, length-append}
use Rattle.std.specs.Prelude.{slice_get}
use Rattle.std.specs.List.{flat_map}
use Rattle.std.proofs.lemmas.Bool.{lt-ltb}
use Rattle.target_base.specs.declared.types.ClassId.{ClassId}
use Rattle.target_base.specs.declared.types.Target.{Target}
use Rattle.target_base.specs.Registers.{widths_of_some}
use Rattle.meaning.specs.declared.types.Lane.TheVariants.{VirtualLane}
use Rattle.meaning.specs.Live.{Among as Member}
use Rattle.mir_func.specs.declared.func.Block.{Block}
use Rattle.mir_func.specs.declared.func.Instr.{Instr}
use Rattle.mir_func.specs.Value.{Function}
use Rattle.mir_func.specs.Binding.{class_of}
use Rattle.mir_meaning.specs.Points.{Entry, Exit, block_points}
use Rattle.mir_meaning.specs.Registers.{numbers, range_widths}
use Rattle.mir_meaning.specs.Rules.{V8}
use Rattle.instr_effects.specs.declared.row.LaneSpan.{LaneSpan}
use Rattle.instr_effects.specs.declared.owner.Owner.TheVariants as owners
use Rattle.instr_effects.specs.Numbers.{row_number_in}
use Rattle.instr_effects.specs.Numbered.{number_in, counts, class_counts}
use Rattle.live_laws.specs.Effects.Coded.{KeepsRules}
use Rattle.live_laws.specs.Exact.Occupied.{TellsPoints}
use Rattle.live_laws.proofs.Exact.Pointed.{points-law}
use Rattle.live_lanes.specs.declared.table.Table.{Table}
use Rattle.live_lanes.specs.Doing.{IsComputed}
use Rattle.live_lanes.specs.Extents.{lanes_count}
use Rattle.live_lanes.specs.Held.{range_held}
use Rattle.block_freq.specs.Weights.{use_sum}
use Rattle.interval_laws.specs.Segments.{Segment, lane_segments}
use Rattle.interval_laws.specs.Told.{start_number, told_live, told_segments}
use Rattle.interval_laws.specs.Laws.{TellsSegments}
use Rattle.interval_laws.proofs.Law.{segments-law}
use Rattle.pipeline.specs.declared.passes.ready.PreparedFunc.{PreparedFunc}
use Rattle.pipeline.specs.Passes.Ready.{IsLive}
use Rattle.ra_top.specs.declared.report.intervals.uses.Use.{Use}
use Rattle.ra_top.specs.Report.Intervals.Lines.{function_line, block_lines, lane_line, range_line, class_text, is_named, weight, range_lines, IsLiveText}
use Rattle.ra_top.specs.Report.Intervals.Told.{most, IsReady, range_segments, used_lines, uses_lines, IsToldText}

-- all numbers that are written fit

length-points : (is : List Instr) → length (flat_map (λ (i : Instr). Entry i.id ∷ Exit i.id ∷ []) is) ≡ 2 * length is
length-points [] = refl
length-points (i ∷ is) = let ih = length-points is in omega (arith, ih)

starts-few : (bs : List Block) → start_number bs (length bs) ≤ 16 * length (flat_map block_points bs)
starts-few [] = omega arith
starts-few (b ∷ bs) =
    let ih = starts-few bs in
    let own = length-points b.instrs in
    let both = length-append (flat_map (λ (i : Instr). Entry i.id ∷ Exit i.id ∷ []) b.instrs) (flat_map block_points bs) in
    omega (arith, ih, own, both)

-- the lanes of a range

lanes-few : (t : Target) (rs : List LaneSpan) (cs : List (Option ClassId)) (v : ℕ) → counts rs ≡ class_counts t cs → lanes_count (slice_get rs v) ≡ length (widths_of_some t (elim (slice_get cs v) [ None ↦ None | Some c ↦ c ]))
lanes-few t [] [] v e = refl
lanes-few t [] (c ∷ cs) v e = absurd (cc)
lanes-few t (r ∷ rs) [] v e = absurd (cc)
lanes-few t (r ∷ rs) (c ∷ cs) zero e = head-of r.count _ (counts rs) _ e
  where
    head-of : (a b : ℕ) (xs ys : List ℕ) → a ∷ xs ≡ b ∷ ys → a ≡ b
    head-of a b xs ys h = cc
lanes-few t (r ∷ rs) (c ∷ cs) (suc v) e = lanes-few t rs cs v (tail-of r.count _ (counts rs) _ e)
  where
    tail-of : (a b : ℕ) (xs ys : List ℕ) → a ∷ xs ≡ b ∷ ys → xs ≡ ys
    tail-of a b xs ys h = cc

-- a text over numbers that stand in a row
same-over : (g h : ℕ → List ℕ) (from n : ℕ) → ((j : ℕ) → j < n → g (from + j) ≡ h (from + j)) → flat_map g (numbers from n) ≡ flat_map h (numbers from n)
same-over g h from zero e = refl
same-over g h from (suc n) e =
    let here : from ≡ from + 0 = omega arith in
    ap (λ xs. xs ++ flat_map g (numbers (suc from) n)) (ap g here ∙ e 0 (omega arith) ∙ ap h (sym here))
    ∙ ap (λ xs. h from ++ xs) (same-over g h (suc from) n (λ j lt. let on : suc from + j ≡ from + suc j = omega arith in ap g on ∙ e (suc j) (omega (arith, lt)) ∙ ap h (sym on)))

module _ (t : Target) (f : Function) (x : Table) (computed : IsComputed t f x) (rules : KeepsRules t f) (last : (b : Block) (j : ℕ) (i : Instr) → Member b f.blocks → slice_get b.instrs j ≡ Some i → V8 t b j i ≡ true) where
  tells : TellsSegments t f x
  tells = segments-law t f x computed rules last

  counted : TellsPoints t f x
  counted = points-law t f x computed rules last

  abbrev segments : ℕ → ℕ → List Segment
  segments v k = lane_segments t f (VirtualLane v k) (told_live x f.blocks v k)

  numbered : (v k : ℕ) → k < lanes_count (slice_get x.lanes.ranges.items v) → range_segments x f.blocks v k ≡ segments v k
  numbered v k lt = go (slice_get x.lanes.ranges.items v) refl lt
    where
      go : (o : Option LaneSpan) → slice_get x.lanes.ranges.items v ≡ o → k < lanes_count o → range_segments x f.blocks v k ≡ segments v k
      go None e h = absurd (omega (arith, h))
      go (Some own) e h =
          let number : number_in x.lanes (owners.Range v k) ≡ Some (own.first + k) = ap (λ q. row_number_in q k) e ∙ ap (λ u. cond u (Some (own.first + k)) None) (lt-ltb k own.count h) in
          ap (λ o. elim o [ None ↦ [] | Some n ↦ told_segments x f.blocks n ]) number ∙ tells.segments v k (own.first + k) number

  lanes-same : (v : ℕ) → flat_map (λ k. lane_line k (range_segments x f.blocks v k)) (numbers 0 (lanes_count (slice_get x.lanes.ranges.items v))) ≡ flat_map (λ k. lane_line k (segments v k)) (numbers 0 (length (range_widths t f v)))
  lanes-same v =
      same-over (λ k. lane_line k (range_segments x f.blocks v k)) (λ k. lane_line k (segments v k)) 0 (lanes_count (slice_get x.lanes.ranges.items v)) (λ j lt. ap (lane_line (0 + j)) (numbered v (0 + j) (let on : 0 + j ≡ j = omega arith in omega (arith, lt, on))))
      ∙ ap (λ n. flat_map (λ k. lane_line k (segments v k)) (numbers 0 n)) (lanes-few t x.lanes.ranges.items f.classes v computed.numbers.ranges)

  product : (s : ℕ) → min (min s most * 1024) most ≡ min (1024 * s) (2 ^ 128 - 1)
  product s = bounded s most
    where
      bounded : (s m : ℕ) → min (min s m * 1024) m ≡ min (1024 * s) m
      bounded s m = omega arith

  used-same : (freqs : List ℕ) (v : ℕ) → used_lines t x f v (record { is_named = is_named v f.blocks; sum = min (use_sum f.blocks freqs v) most }) ≡ range_lines t freqs f segments (λ w. range_held x f.blocks w) v
  used-same freqs v =
      ap (λ n. cond (is_named v f.blocks) (range_line v (class_text t (class_of f v)) (n / (range_held x f.blocks v + 8)) ++ flat_map (λ k. lane_line k (range_segments x f.blocks v k)) (numbers 0 (lanes_count (slice_get x.lanes.ranges.items v)))) []) (product (use_sum f.blocks freqs v))
      ∙ ap (λ ls. cond (is_named v f.blocks) (range_line v (class_text t (class_of f v)) (weight freqs f.blocks v (range_held x f.blocks v)) ++ ls) []) (lanes-same v)

  abbrev use-at : List ℕ → ℕ → Use
  use-at freqs n = record { is_named = is_named n f.blocks; sum = min (use_sum f.blocks freqs n) most }

  uses-same : (freqs : List ℕ) (uses : List Use) (v : ℕ) → ((j : ℕ) → j < length uses → slice_get uses j ≡ Some (record { is_named = is_named (v + j) f.blocks; sum = min (use_sum f.blocks freqs (v + j)) most })) → uses_lines t x f v uses ≡ flat_map (range_lines t freqs f segments (λ w. range_held x f.blocks w)) (numbers v (length uses))
  uses-same freqs [] v h = refl
  uses-same freqs (own ∷ uses) v h =
      let here : v + 0 ≡ v = omega arith in
      ap (λ u. used_lines t x f v u ++ uses_lines t x f (suc v) uses) (first-is (h 0 (omega arith)) ∙ ap (use-at freqs) here)
      ∙ ap (λ ls. ls ++ uses_lines t x f (suc v) uses) (used-same freqs v)
      ∙ ap (λ ls. range_lines t freqs f segments (λ w. range_held x f.blocks w) v ++ ls) (uses-same freqs uses (suc v) (λ j lt. let on : v + suc j ≡ suc v + j = omega arith in h (suc j) (omega (arith, lt)) ∙ ap (λ n. Some (use-at freqs n)) on))
    where
      first-is : {a b : Use} → Some a ≡ Some b → a ≡ b
      first-is e = cc

  text-told : (name freqs text : List ℕ) → IsToldText t x f name freqs text → IsLiveText t name freqs f text
  text-told name freqs text h = record {
    live = λ v k. told_live x f.blocks v k;
    tests = λ v k. tells.live v k;
    points = λ v. range_held x f.blocks v;
    counts = λ v. counted.count v;
    is =
        h.is
        ∙ ap (λ ls. function_line name ++ (block_lines freqs f.blocks ++ ls))
        (h.lines.is ∙ uses-same freqs h.lines.uses 0 (λ j lt. let on : j ≡ 0 + j = omega arith in h.lines.right j lt ∙ ap (λ (n : ℕ). Some (use-at freqs n)) on)
        ∙ ap (λ n. flat_map (range_lines t freqs f segments (λ w. range_held x f.blocks w)) (numbers 0 n)) h.lines.all);
  }

  ready : IsReady x f.blocks
  ready = record {
    ordered = counted.ordered;
    ranked = counted.ranked;
    few = λ v. counted.few v;
    short = let z = starts-few f.blocks in let few = computed.few in omega (arith, z, few);
  }

-- of a function that was made ready
module _ (t : Target) (p : PreparedFunc) (h : IsLive t p) where
  pub ready-of : IsReady p.live.table p.live.func.blocks
  ready-of = ready t p.live.func p.live.table h.computed h.rules h.terminators

  pub told-of : (name freqs text : List ℕ) → IsToldText t p.live.table p.live.func name freqs text → IsLiveText t name freqs p.live.func text
  told-of name freqs text told = text-told t p.live.func p.live.table h.computed h.rules h.terminators name freqs text told
