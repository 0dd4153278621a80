-- A valid function whose slots went to others is valid.
use Rattle.std.proofs.Common.{◌≡◌, ◌↔◌, ℕ, zero, suc, Bool, true, false, not, ◌&&◌, ◌||◌, List, [], ◌∷◌, ◌++◌, Option, Some, None, map, filter, take, drop, length, refl, sym, ap, ◌∙◌, subst}
use Rattle.std.specs.Prelude.{nat_eq, nat_lt, option_map, option_to_list, slice_get, flat_map}
use Rattle.std.specs.List.{list_all, list_any}
use Rattle.std.proofs.lemmas.Bool.{and_right}
use Rattle.target_base.specs.declared.types.Target.{Target}
use Rattle.meaning.specs.declared.types.Lane.TheVariants.{UnitLane}
use Rattle.meaning.specs.Code.{found}
use Rattle.meaning.specs.Layout.{NoPhis}
use Rattle.meaning.specs.Live.{Among as Member, Live}
use Rattle.mir_func.specs.declared.func.RegOp.{RegOp}
use Rattle.mir_func.specs.declared.func.Instr.{Instr}
use Rattle.mir_func.specs.declared.func.Block.{Block}
use Rattle.mir_func.specs.Value.{Function}
use Rattle.mir_func.specs.Binding.{does, is_branch, is_virtual, registers}
use Rattle.mir_meaning.specs.declared.Form.TheVariants as forms
use Rattle.mir_meaning.specs.Registers.{has_number, is_reserved}
use Rattle.mir_meaning.specs.Codes.{fallen_into, is_open}
use Rattle.mir_meaning.specs.Points.{LiveAt, Start, points_of}
use Rattle.mir_meaning.specs.Rules.{V1, V5, V6, V9, V10, V16, block_numbers, branch_targets, lists_once, named_blocks, successors_of}
use Rattle.mir_meaning.specs.Valid.{IsValid, LiveInto, V13, V13_before, liveins_fit, names_virtual, shape_fault}
use Rattle.mir_meaning.proofs.Points.{points_are_code}
use Rattle.live_laws.proofs.Effects.Blocks.{slice-map, slice-member}
use Rattle.live_laws.proofs.Effects.Moving.{some-same}
use Rattle.slot_laws.specs.Homes.{AreHomes, IsAllocated, MovingKeepsValid, block_moved, function_moved, instr_moved}
use Rattle.slot_laws.proofs.Clear.{points-quiet}
use Rattle.slot_laws.proofs.Laid.{code-bare, lowered, none-of, rule-one}
use Rattle.slot_laws.proofs.Living.{units-live}
use Rattle.slot_laws.proofs.Merged.{fallen-stays, falls-stay, none-merged, open-stays, renamed_code}
use Rattle.slot_laws.proofs.Obeyed.{instr-obeys}
use Rattle.slot_laws.proofs.Operands.{any-map, drop-map, filter-map, length-of-map, named-stay, registers-stay, take-map}
use Rattle.slot_laws.proofs.Refined.{merged-code, none, rules}
use Rattle.slot_laws.proofs.Ruled.{AllRules, BlockRules, InstrRules, shape-none}

-- an element of a list that is changed element by element
mapped : {X Y : Type 0} (g : X → Y) (xs : List X) (k : ℕ) (y : Y) → slice_get (map g xs) k ≡ Some y → (x : X) × (slice_get xs k ≡ Some x) × (g x ≡ y)
mapped {X} {Y} g xs k y e = go (slice_get xs k) refl (sym (slice-map g xs k) ∙ e)
  where
    go : (q : Option X) → slice_get xs k ≡ q → option_map g q ≡ Some y → (x : X) × (slice_get xs k ≡ Some x) × (g x ≡ y)
    go None h i = absurd (cc)
    go (Some x) h i = (x, h, some-same (g x) y i)

or-behind : (a b c : Bool) → (b || c) ≡ true → (a || b || c) ≡ true
or-behind true b c e = refl
or-behind false b c e = e

module _ (t : Target) (home : ℕ → ℕ) (head : List ℕ) (f : Function) where
  abbrev g : Function
  g = function_moved home head f

  numbers-stay : (bs : List Block) → block_numbers (map (block_moved home) bs) ≡ block_numbers bs
  numbers-stay [] = refl
  numbers-stay (b ∷ bs) = ap (λ ns. b.number ∷ ns) (numbers-stay bs)

  targets-stay : (is : List Instr) → branch_targets t (map (instr_moved home) is) ≡ branch_targets t is
  targets-stay is = ap (flat_map named_blocks) (filter-map (does is_branch t) (does is_branch t) (instr_moved home) (λ i. refl) is) ∙ named-stay home (filter (does is_branch t) is)

  module _ (n : ℕ) (b : Block) (r : AllRules t f n b) where
    five-kept : V5 g n (block_moved home b) ≡ true
    unfolding V5
    five-kept =
        (λ k. not (has_number ((ap block_numbers (take-map (block_moved home) n f.blocks) ∙ numbers-stay (take n f.blocks)) k) b.number)
        && list_all (has_number (numbers-stay f.blocks k)) (successors_of b ++ named-stay home b.instrs k))
        ∙ r.block.five

    six-kept : V6 g n (block_moved home b) ≡ true
    unfolding V6
    six-kept =
        (λ k. not (nat_eq n 0) || nat_eq (length ((ap block_numbers (filter-map (λ c. has_number (successors_of c) b.number) (λ c. has_number (successors_of c) b.number) (block_moved home) (λ c. refl) f.blocks) ∙ numbers-stay (filter (λ c. has_number (successors_of c) b.number) f.blocks)) k)) 0)
        ∙ r.block.six

    -- the block is open, or the successors are the branch targets and the block that is fallen into
    follow : ((i : Instr) → Member i b.instrs → V1 t f i ≡ true) → (is_open t b || lists_once (successors_of b) (branch_targets t b.instrs ++ option_to_list (fallen_into t b (drop (suc n) f.blocks)))) ≡ true
    unfolding V9
    follow ones =
        sym (ap (λ c. c || is_open t b || lists_once (successors_of b) (branch_targets t b.instrs ++ option_to_list (fallen_into t b (drop (suc n) f.blocks)))) (none-of (λ i. does is_branch t i && not (V1 t f i)) b.instrs (λ i m. and_right (does is_branch t i) (not (V1 t f i)) (ap not (ones i m)))))
        ∙ r.block.nine

    nine-kept : ((i : Instr) → Member i b.instrs → V1 t f i ≡ true) → V9 t g n (block_moved home b) ≡ true
    unfolding V9
    nine-kept ones =
        or-behind (list_any (λ i. does is_branch t i && not (V1 t g i)) (block_moved home b).instrs) (is_open t (block_moved home b)) (lists_once (successors_of b) (branch_targets t (map (instr_moved home) b.instrs) ++ option_to_list (fallen_into t (block_moved home b) (drop (suc n) (map (block_moved home) f.blocks)))))
        ((λ k. open-stays t home b k || lists_once (successors_of b) (targets-stay b.instrs k ++ option_to_list ((ap (fallen_into t (block_moved home b)) (drop-map (block_moved home) (suc n) f.blocks) ∙ fallen-stays t home b (drop (suc n) f.blocks)) k)))
        ∙ follow ones)

    ten-kept : V10 t g n (block_moved home b) ≡ true
    unfolding V10
    ten-kept = (λ k. nat_lt (suc n) (length-of-map (block_moved home) f.blocks k) || not (falls-stay t home b.instrs k) || open-stays t home b k) ∙ r.block.ten

    sixteen-kept : V16 (block_moved home b) ≡ true
    unfolding V16
    sixteen-kept = r.block.sixteen

    block-obeys : ((i : Instr) → Member i b.instrs → V1 t f i ≡ true) → BlockRules t g n (block_moved home b)
    block-obeys ones = record { five = five-kept; six = six-kept; nine = nine-kept ones; ten = ten-kept; sixteen = sixteen-kept }

  -- no virtual register is named

  virtual-stays : (b : Block) → names_virtual (block_moved home b) ≡ names_virtual b
  virtual-stays b =
      any-map (λ (i : Instr). list_any (λ (o : RegOp). is_virtual o.loc) (registers i.operands)) (λ (i : Instr). list_any (λ (o : RegOp). is_virtual o.loc) (registers i.operands)) (instr_moved home) (λ i. ap (list_any (λ (o : RegOp). is_virtual o.loc)) (registers-stay home i.operands)) b.instrs

  starts-kept : list_any names_virtual f.blocks ≡ false → list_any names_virtual g.blocks ≡ false
  starts-kept e = any-map names_virtual names_virtual (block_moved home) virtual-stays f.blocks ∙ e

module _ (t : Target) (home : ℕ → ℕ) (head : List ℕ) (f : Function) (allocated : IsAllocated t f) (homes : AreHomes t f home) where
  abbrev made : Function
  made = function_moved home head f

  instr-rules : (n : ℕ) (b : Block) → slice_get f.blocks n ≡ Some b → (j : ℕ) (i : Instr) → slice_get b.instrs j ≡ Some i → InstrRules t made n (block_moved home b) j (instr_moved home i)
  instr-rules n b e j i h =
      let r = rules t home head f allocated homes in
      instr-obeys t home head f homes.settled homes.stays homes.spills n b j i (lowered t f r b i (slice-member f.blocks n b e) (slice-member b.instrs j i h)) ((r n b e).instrs j i h)

  all-obey : (n : ℕ) (c : Block) → slice_get made.blocks n ≡ Some c → AllRules t made n c
  all-obey n c e =
      let z = mapped (block_moved home) f.blocks n c e in
      let r = rules t home head f allocated homes in
      subst (AllRules t made n) z.2 (record {
        block = block-obeys t home head f n z.0 (r n z.0 z.1) (λ i m. rule-one t f r z.0 i (slice-member f.blocks n z.0 z.1) m);
        instrs = λ j i h. let y = mapped (instr_moved home) z.0.instrs j i h in subst (InstrRules t made n (block_moved home z.0) j) y.2 (instr-rules n z.0 z.1 j y.0 y.1);
      })

  pub shape-kept : shape_fault t forms.Allocated made ≡ None
  shape-kept = shape-none t made all-obey

  -- live units

  points-merged : points_of t made ≡ renamed_code t home head f (none t home head f allocated homes) (points_of t f)
  points-merged =
      points_are_code t made (none-merged t home head f (none t home head f allocated homes)) ∙ merged-code t home head f allocated homes
      ∙ ap (renamed_code t home head f (none t home head f allocated homes)) (sym (points_are_code t f (none t home head f allocated homes)))

  points-bare : NoPhis (points_of t f)
  points-bare = subst NoPhis (sym (points_are_code t f (none t home head f allocated homes))) (code-bare t f (rules t home head f allocated homes))

  units-same : (n u : ℕ) → LiveAt t made (Start n) (UnitLane u) ↔ LiveAt t f (Start n) (UnitLane u)
  units-same n u =
      subst (λ c. Live (is_reserved t) c (found n c) (UnitLane u) ↔ LiveAt t f (Start n) (UnitLane u)) (sym points-merged)
      (units-live t home (points_of t f) (points-quiet t f home allocated.function homes) points-bare n u)

  into-kept : (n : ℕ) (live : ℕ → Bool) → LiveInto t f n live → LiveInto t made n live
  into-kept n live h u = let z = units-same n u in ((λ e. z.1 ((h u).0 e)), (λ l. (h u).1 (z.0 l)))

  fit-kept : (j : ℕ) (b : Block) (live : ℕ → Bool) → liveins_fit t forms.Allocated j b live ≡ true → liveins_fit t forms.Allocated j (block_moved home b) live ≡ true
  fit-kept zero b live e = e
  fit-kept (suc j) b live e = e

  liveins-kept : V13_before t forms.Allocated made (length made.blocks)
  liveins-kept j c e =
      let whole : take (length made.blocks) made.blocks ≡ map (block_moved home) (take (length f.blocks) f.blocks) = ap (λ k. take k made.blocks) (length-of-map (block_moved home) f.blocks) ∙ take-map (block_moved home) (length f.blocks) f.blocks in
      let z = mapped (block_moved home) (take (length f.blocks) f.blocks) j c (ap (λ bs. slice_get bs j) (sym whole) ∙ e) in
      let v = allocated.valid.liveins j z.0 z.1 in
      subst (V13 t forms.Allocated made j) z.2 (v.0, into-kept z.0.number v.0 v.1, fit-kept j z.0 v.0 v.2)

  pub valid : IsValid t forms.Allocated made
  valid = record { shape = shape-kept; liveins = liveins-kept; starts = starts-kept t home head f allocated.valid.starts }

pub moving-keeps-valid : MovingKeepsValid
moving-keeps-valid t home head f allocated homes = valid t home head f allocated homes
