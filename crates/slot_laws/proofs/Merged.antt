-- The code of a function whose slots went to others is its code with the lanes of these slots renamed.
use Rattle.std.proofs.Common.{◌≡◌, ℕ, Bool, true, false, cond, not, ◌&&◌, List, [], ◌∷◌, ◌++◌, Option, Some, None, map, length, refl, sym, ap, ◌∙◌}
use Rattle.std.specs.Prelude.{option_map, nat_eq, find}
use Rattle.std.specs.List.{list_all}
use Rattle.std.proofs.lemmas.Bool.{or_parts}
use Rattle.target_base.specs.declared.types.Effect.{Effect}
use Rattle.target_base.specs.declared.types.Effect.TheVariants as effects
use Rattle.target_base.specs.declared.types.Target.{Target}
use Rattle.target_base.specs.Roles.{is_silent}
use Rattle.target_base.specs.Rules.{is_phi, is_spill, is_reload}
use Rattle.meaning.specs.declared.types.Lane.{Lane}
use Rattle.meaning.specs.declared.types.Lane.TheVariants.{SlotLane}
use Rattle.meaning.specs.declared.types.Source.{Source}
use Rattle.meaning.specs.declared.types.Source.TheVariants.{FromLane, Undef}
use Rattle.meaning.specs.declared.types.Fill.TheVariants.{Moved}
use Rattle.meaning.specs.Lanes.{Writes}
use Rattle.meaning.specs.Code.{Edge, Item, BlockStart, BlockEnd, Silent, Counted, Code}
use Rattle.meaning.specs.Live.{Among as Member, here as first, there as later}
use Rattle.meaning.specs.Fold.{Folded}
use Rattle.meaning.specs.Fold as fold
use Rattle.meaning.specs.Matched.{image, renamed as renamed_writes, renamed_write}
use Rattle.mir_func.specs.declared.func.RegOp.{RegOp}
use Rattle.mir_func.specs.declared.func.Operand.{Operand}
use Rattle.mir_func.specs.declared.func.Operand.TheVariants as operands
use Rattle.mir_func.specs.declared.func.Instr.{Instr}
use Rattle.mir_func.specs.declared.func.Block.{Block}
use Rattle.mir_func.specs.Value.{Function}
use Rattle.mir_func.specs.Binding.{effect_of, does, is_early_clobber, is_lowered_away, is_terminator, passes, puts_together, registers, roles_of}
use Rattle.mir_meaning.specs.Registers.{operand_lanes, operand_widths, undefined_lanes, use_sources, slot_lane_numbers, slot_lanes}
use Rattle.mir_meaning.specs.Items.{write, moved, undefined, at_all_widths, lanes_beside, spilled, reloaded, silent_reads, silent_writes, rest_of, values, counted_writes, widths_once}
use Rattle.mir_meaning.specs.Codes.{block_end, blocks_code, code_of, effect_item, ends_without_terminator, fallen_into, is_open, falls_through, first_number, item_of, phi_operands, phis_written, target_of, way, ways_out}
use Rattle.mir_meaning.specs.Points.{has_no_phis}
use Rattle.mir_meaning.specs.Renaming.{IsFixed, renamed_item}
use Rattle.mir_meaning.specs.Rules.{spills_or_reloads}
use Rattle.instr_effects.proofs.Members.{member-none}
use Rattle.live_laws.proofs.Effects.Lists.{all-of}
use Rattle.slot_laws.specs.Homes.{block_moved, function_moved, instr_moved, slot_moved}
use Rattle.mir_meaning.proofs.Renaming.{law_of_renaming}
use Rattle.slot_laws.proofs.Alike.{lanes-alike, widths-alike, undefined-alike, uses-alike, renames-all, same-instr, item-itself}
use Rattle.slot_laws.proofs.Lists.{found-in}
use Rattle.slot_laws.proofs.Still.{StillReads, merged_lane, lanes-stay, sources-stay, writes-stay, reads-stay, lanes-still, undefined-lanes-still, uses-still, silent-still, counted-still, counted-reads-still}

pub map-append : {A B : Type 0} (f : A → B) (xs ys : List A) → map f (xs ++ ys) ≡ map f xs ++ map f ys
map-append f [] ys = refl
map-append f (x ∷ xs) ys = ap (λ zs. f x ∷ zs) (map-append f xs ys)

-- writes by their kinds, renamed
module _ (m : Lane → Lane) where
  renamed-append : (ws vs : Writes) → renamed_writes m (ws ++ vs) ≡ renamed_writes m ws ++ renamed_writes m vs
  renamed-append [] vs = refl
  renamed-append (w ∷ ws) vs = ap (λ us. renamed_write m w ∷ us) (renamed-append ws vs)

  renamed-moved : (early : Bool) (ls : List Lane) (ss : List Source) → renamed_writes m (moved early ls ss) ≡ moved early (map m ls) (map (image m) ss)
  renamed-moved early [] ss = refl
  renamed-moved early (l ∷ ls) [] = refl
  renamed-moved early (l ∷ ls) (s ∷ ss) = ap (λ us. renamed_write m (write early l (Moved s)) ∷ us) (renamed-moved early ls ss)

  renamed-undefined : (early : Bool) (ls : List Lane) → renamed_writes m (undefined early ls) ≡ undefined early (map m ls)
  renamed-undefined early [] = refl
  renamed-undefined early (l ∷ ls) = ap (λ us. renamed_write m (write early l (Moved Undef)) ∷ us) (renamed-undefined early ls)

  renamed-defined : (early : Bool) (ls ks : List Lane) (ss : List Source) → renamed_writes m (moved early ls ss ++ undefined early ks) ≡ moved early (map m ls) (map (image m) ss) ++ undefined early (map m ks)
  renamed-defined early ls ks ss = renamed-append (moved early ls ss) (undefined early ks) ∙ (λ i. renamed-moved early ls ss i ++ renamed-undefined early ks i)

  from-lanes : (ls : List Lane) → map FromLane (map m ls) ≡ map (image m) (map FromLane ls)
  from-lanes [] = refl
  from-lanes (l ∷ ls) = ap (λ ss. FromLane (m l) ∷ ss) (from-lanes ls)

-- lanes of slots
module _ (h : ℕ → ℕ) where
  slots-merged : (s : ℕ) (ks ws : List ℕ) → map (merged_lane h) (slot_lanes s ks ws) ≡ slot_lanes (h s) ks ws
  slots-merged s [] ws = refl
  slots-merged s (k ∷ ks) [] = refl
  slots-merged s (k ∷ ks) (w ∷ ws) = ap (λ ls. SlotLane (h s) k w ∷ ls) (slots-merged s ks ws)

  widths-merged : (s k : ℕ) (ws : List ℕ) → map (merged_lane h) (map (λ w. SlotLane s k w) ws) ≡ map (λ w. SlotLane (h s) k w) ws
  widths-merged s k [] = refl
  widths-merged s k (w ∷ ws) = ap (λ ls. SlotLane (h s) k w ∷ ls) (widths-merged s k ws)

  all-widths-merged : (t : Target) (s : ℕ) (ks : List ℕ) → map (merged_lane h) (at_all_widths t s ks) ≡ at_all_widths t (h s) ks
  all-widths-merged t s [] = refl
  all-widths-merged t s (k ∷ ks) =
      let ws = widths_once [] t.units in
      map-append (merged_lane h) (map (λ w. SlotLane s k w) ws) (at_all_widths t s ks) ∙ (λ i. widths-merged s k ws i ++ all-widths-merged t s ks i)

module _ (t : Target) (home : ℕ → ℕ) (head : List ℕ) (f : Function) where
  abbrev g : Function
  g = function_moved home head f

  abbrev m : Lane → Lane
  m = merged_lane home

  numbers-stay : (ws : List ℕ) (k : Operand) → slot_lane_numbers t ws (slot_moved home k) ≡ slot_lane_numbers t ws k
  numbers-stay ws (operands.Index x) = refl
  numbers-stay ws _ = refl

  numbers-merged : (o : RegOp) (k : Operand) → slot_lane_numbers t (operand_widths t g o) (slot_moved home k) ≡ slot_lane_numbers t (operand_widths t f o) k
  numbers-merged o k = ap (λ ws. slot_lane_numbers t ws (slot_moved home k)) (widths-alike t home head f o) ∙ numbers-stay (operand_widths t f o) k

  beside-merged : (o : RegOp) (s : ℕ) (k : Operand) → lanes_beside t g o (home s) (slot_moved home k) ≡ map m (lanes_beside t f o s k)
  beside-merged o s k = (λ i. slot_lanes (home s) (numbers-merged o k i) (widths-alike t home head f o i)) ∙ sym (slots-merged home s (slot_lane_numbers t (operand_widths t f o) k) (operand_widths t f o))

  uses-merged : (o : RegOp) → use_sources t g o ≡ map (image m) (use_sources t f o)
  uses-merged o = uses-alike t home head f o ∙ sym (sources-stay home (use_sources t f o) (uses-still t f o))

  spilled-merged : (os : List Operand) → spilled t g (map (slot_moved home) os) ≡ renamed_writes m (spilled t f os)
  spilled-merged (operands.Reg o ∷ operands.Stack s ∷ k ∷ os) =
      let ks = slot_lane_numbers t (operand_widths t f o) k in
      (λ i. moved false (beside-merged o s k i) (uses-merged o i) ++ undefined false ((ap (at_all_widths t (home s)) (numbers-merged o k) ∙ sym (all-widths-merged home t s ks)) i))
      ∙ sym (renamed-defined m false (lanes_beside t f o s k) (at_all_widths t s ks) (use_sources t f o))
  spilled-merged _ = refl

  reloaded-merged : (early : Bool) (os : List Operand) → reloaded t g early (map (slot_moved home) os) ≡ renamed_writes m (reloaded t f early os)
  reloaded-merged early (operands.Reg o ∷ operands.Stack s ∷ k ∷ os) =
      let ls = lanes_beside t f o s k in
      (λ i. moved early ((lanes-alike t home head f o ∙ sym (lanes-stay home (operand_lanes t f o) (lanes-still t f o))) i) ((ap (map FromLane) (beside-merged o s k) ∙ from-lanes m ls) i) ++ undefined early ((undefined-alike t home head f o ∙ sym (lanes-stay home (undefined_lanes t f o) (undefined-lanes-still t f o))) i))
      ∙ sym (renamed-defined m early (operand_lanes t f o) (undefined_lanes t f o) (map FromLane ls))
  reloaded-merged early _ = refl

-- without phis, ways into blocks write nothing

abbrev pub edge : ℕ → Writes → Edge
edge n ws = record { block = n; phis = ws }

module _ (t : Target) where
  quiet-phis : (q : Function) (n : ℕ) (is : List Instr) → list_all (λ i. not (does is_phi t i)) is ≡ true → phis_written t q n is ≡ []
  quiet-phis q n [] e = refl
  quiet-phis q n (i ∷ is) e = go (does is_phi t i) e (quiet-phis q n is)
    where
      go : (b : Bool) → (not b && list_all (λ i. not (does is_phi t i)) is) ≡ true → (list_all (λ i. not (does is_phi t i)) is ≡ true → phis_written t q n is ≡ []) → phis_written t q n is ++ cond b (phi_operands t q n i.operands) [] ≡ []
      go true k ih = absurd (cc)
      go false k ih = ap (λ ws. ws ++ []) (ih k)

  abbrev philess : Block → Bool
  philess b = list_all (λ i. not (does is_phi t i)) b.instrs

  pub way-bare : (q : Function) → has_no_phis t q.blocks ≡ true → (n k : ℕ) → way t q n k ≡ edge k []
  way-bare q none n k = ap (edge k) (go (find (λ (b : Block). nat_eq b.number k) q.blocks) refl)
    where
      go : (r : Option Block) → find (λ (b : Block). nat_eq b.number k) q.blocks ≡ r → phis_written t q n (elim r [ None ↦ [] | Some b ↦ b.instrs ]) ≡ []
      go None e = refl
      go (Some b) e = quiet-phis q n b.instrs (all-of philess b q.blocks (found-in (λ (b : Block). nat_eq b.number k) q.blocks b e).0 none)

  module _ (home : ℕ → ℕ) where
    phis-stay : (is : List Instr) → list_all (λ i. not (does is_phi t i)) (map (instr_moved home) is) ≡ list_all (λ i. not (does is_phi t i)) is
    phis-stay [] = refl
    phis-stay (i ∷ is) = ap (λ b. not (does is_phi t i) && b) (phis-stay is)

    pub no-phis-stay : (bs : List Block) → has_no_phis t (map (block_moved home) bs) ≡ has_no_phis t bs
    no-phis-stay [] = refl
    no-phis-stay (b ∷ bs) = λ k. phis-stay b.instrs k && no-phis-stay bs k

    pub falls-stay : (is : List Instr) → falls_through t (map (instr_moved home) is) ≡ falls_through t is
    falls-stay [] = refl
    falls-stay (i ∷ []) = refl
    falls-stay (i ∷ j ∷ is) = falls-stay (j ∷ is)

    first-stays : (bs : List Block) → first_number (map (block_moved home) bs) ≡ first_number bs
    first-stays [] = refl
    first-stays (b ∷ bs) = refl

    ends-stay : (is : List Instr) → ends_without_terminator t (map (instr_moved home) is) ≡ ends_without_terminator t is
    ends-stay [] = refl
    ends-stay (i ∷ []) = refl
    ends-stay (i ∷ j ∷ is) = ends-stay (j ∷ is)

    pub open-stays : (b : Block) → is_open t (block_moved home b) ≡ is_open t b
    open-stays b = λ k. t.options.open_blocks && nat_eq (length b.successors) 0 && ends-stay b.instrs k

    pub fallen-stays : (b : Block) (bs : List Block) → fallen_into t (block_moved home b) (map (block_moved home) bs) ≡ fallen_into t b bs
    fallen-stays b bs = λ k. cond (falls-stay b.instrs k && not (open-stays b k)) (first-stays bs k) None

pub map-alike : {A B : Type 0} (f g : A → B) → ((x : A) → f x ≡ g x) → (xs : List A) → map f xs ≡ map g xs
map-alike f g e [] = refl
map-alike f g e (x ∷ xs) = λ k. e x k ∷ map-alike f g e xs k

-- what colouring asks of an instruction: it is lowered, and unless it is a store to a slot or a reload its operands stay
pub record IsPlain (t : Target) (home : ℕ → ℕ) (i : Instr) : Type 0 where
  pub lowered : does is_lowered_away t i ≡ false
  pub stays : does spills_or_reloads t i ≡ false → map (slot_moved home) i.operands ≡ i.operands
  pub fixed : (o : RegOp) → Member o (registers i.operands) → IsFixed o.loc

module _ (t : Target) (home : ℕ → ℕ) (head : List ℕ) (f : Function) (none : has_no_phis t f.blocks ≡ true) where
  abbrev made : Function
  made = function_moved home head f

  abbrev to : Lane → Lane
  to = merged_lane home

  pub none-merged : has_no_phis t made.blocks ≡ true
  none-merged = no-phis-stay t home f.blocks ∙ none

  way-same : (n k : ℕ) → way t made n k ≡ way t f n k
  way-same n k = way-bare t made none-merged n k ∙ sym (way-bare t f none n k)

  ways-same : (b : Block) → ways_out t made (block_moved home b) ≡ ways_out t f b
  ways-same b = map-alike (λ e. way t made b.number e.block) (λ e. way t f b.number e.block) (λ e. way-same b.number e.block) b.successors

  module _ (b : Block) (i : Instr) (plain : IsPlain t home i) where
    -- an instruction that stays
    same-item : does puts_together t i ≡ false → item_of t made (block_moved home b) i ≡ item_of t f b i
    same-item n =
        ap (item_of t made (block_moved home b)) (sym (same-instr i))
        ∙ law_of_renaming t f made (λ l. l) (λ o. o) (record { units = λ u. refl; slots = λ s k w. refl }) b (block_moved home b) (λ k. way-same b.number k) (ways-same b) i n (renames-all t home head f i.operands plain.fixed)
        ∙ item-itself (item_of t f b i)

    stays-silent : (e : Effect) → puts_together e ≡ false → StillReads (silent_reads t f e i.operands)
    stays-silent effects.RegSequence n ss k = absurd (cc)
    stays-silent effects.InsertSubreg n ss k = absurd (cc)
    stays-silent e n ss k = absurd (member-none ss k)

    stays-effect : (e : Effect) → puts_together e ≡ false → is_spill e ≡ false → is_reload e ≡ false → renamed_item to (effect_item t f b i e) ≡ effect_item t f b i e
    stays-effect e n p r = go (is_silent e)
      where
        early : Bool
        early = is_early_clobber (roles_of t i)

        go : (s : Bool) →
            renamed_item to (cond s (Silent (silent_reads t f e i.operands) (silent_writes t f e (is_early_clobber (roles_of t i)) i.operands)) (Counted (rest_of t f e i) (map (λ v. v.0) (values t f e i)) (counted_writes t f e i) (option_map (way t f b.number) (target_of i.operands)) (cond (is_terminator e) (ways_out t f b) [])))
            ≡ cond s (Silent (silent_reads t f e i.operands) (silent_writes t f e (is_early_clobber (roles_of t i)) i.operands)) (Counted (rest_of t f e i) (map (λ v. v.0) (values t f e i)) (counted_writes t f e i) (option_map (way t f b.number) (target_of i.operands)) (cond (is_terminator e) (ways_out t f b) []))
        go true = λ k. Silent (reads-stay home (silent_reads t f e i.operands) (stays-silent e n) k) (writes-stay home (silent_writes t f e (is_early_clobber (roles_of t i)) i.operands) (silent-still t f e (is_early_clobber (roles_of t i)) i.operands n p r) k)
        go false = λ k. Counted (rest_of t f e i) (reads-stay home (map (λ v. v.0) (values t f e i)) (counted-reads-still t f e i) k) (writes-stay home (counted_writes t f e i) (counted-still t f e i) k) (option_map (way t f b.number) (target_of i.operands)) (cond (is_terminator e) (ways_out t f b) [])

    stays-item : does puts_together t i ≡ false → does spills_or_reloads t i ≡ false → renamed_item to (item_of t f b i) ≡ item_of t f b i
    unfolding item_of
    stays-item n s = go (effect_of t i) n s
      where
        go : (q : Option Effect) → passes puts_together q ≡ false → passes spills_or_reloads q ≡ false → renamed_item to (elim q as (λ o. Item) [ None ↦ Silent [] [] | Some e ↦ effect_item t f b i e ]) ≡ elim q as (λ o. Item) [ None ↦ Silent [] [] | Some e ↦ effect_item t f b i e ]
        go None k j = refl
        go (Some e) k j = let z = or_parts (is_spill e) (is_reload e) j in stays-effect e k z.0 z.1

    abbrev Renamed : Type 0
    Renamed = item_of t made (block_moved home b) (instr_moved home i) ≡ renamed_item to (item_of t f b i)

    other-item : does puts_together t i ≡ false → does spills_or_reloads t i ≡ false → Renamed
    other-item n s = ap (item_of t made (block_moved home b)) (ap (λ os. record i { operands = os }) (plain.stays s)) ∙ same-item n ∙ sym (stays-item n s)

    spill-item : effect_of t i ≡ Some effects.Spill → Renamed
    unfolding item_of
    spill-item e =
        ap (λ (q : Option Effect). elim q as (λ o. Item) [ None ↦ Silent [] [] | Some x ↦ effect_item t made (block_moved home b) (instr_moved home i) x ]) e
        ∙ ap (Silent []) (spilled-merged t home head f i.operands)
        ∙ ap (λ (q : Option Effect). renamed_item to (elim q as (λ o. Item) [ None ↦ Silent [] [] | Some x ↦ effect_item t f b i x ])) (sym e)

    reload-item : effect_of t i ≡ Some effects.Reload → Renamed
    unfolding item_of
    reload-item e =
        ap (λ (q : Option Effect). elim q as (λ o. Item) [ None ↦ Silent [] [] | Some x ↦ effect_item t made (block_moved home b) (instr_moved home i) x ]) e
        ∙ ap (Silent []) (reloaded-merged t home head f (is_early_clobber (roles_of t i)) i.operands)
        ∙ ap (λ (q : Option Effect). renamed_item to (elim q as (λ o. Item) [ None ↦ Silent [] [] | Some x ↦ effect_item t f b i x ])) (sym e)

    pub item-merged : Renamed
    item-merged = go (effect_of t i) refl
      where
        apart : (q : Option Effect) → passes is_lowered_away q ≡ false → passes puts_together q ≡ false
        apart None e = refl
        apart (Some x) e = (or_parts (is_phi x) (puts_together x) e).1

        other : (q : Option Effect) → effect_of t i ≡ q → passes spills_or_reloads q ≡ false → Renamed
        other q e s = other-item (apart (effect_of t i) plain.lowered) (ap (passes spills_or_reloads) e ∙ s)

        go : (q : Option Effect) → effect_of t i ≡ q → Renamed
        go (Some effects.Spill) e = spill-item e
        go (Some effects.Reload) e = reload-item e
        go q e = other q e refl

  -- the code

  abbrev pub renamed_code : Code → Code
  renamed_code p = map (renamed_item to) p

  abbrev pub PlainInstrs : List Instr → Type 0
  PlainInstrs is = (i : Instr) → Member i is → IsPlain t home i

  abbrev pub PlainBlocks : List Block → Type 0
  PlainBlocks bs = (b : Block) → Member b bs → PlainInstrs b.instrs

  items-merged : (b : Block) (is : List Instr) (p q : Code) → PlainInstrs is → q ≡ renamed_code p → map (item_of t made (block_moved home b)) (map (instr_moved home) is) ++ q ≡ renamed_code (map (item_of t f b) is ++ p)
  items-merged b [] p q plain e = e
  items-merged b (i ∷ is) p q plain e = λ k. item-merged b i (plain i first) k ∷ items-merged b is p q (λ j n. plain j (later n)) e k

  end-merged : (b : Block) (bs : List Block) → block_end t made (block_moved home b) (map (block_moved home) bs) ≡ block_end t f b bs
  end-merged b bs = λ k. BlockEnd (falls k) (ways-same b k)
    where
      below : (o : Option ℕ) → option_map (λ n. (way t made b.number n).phis) o ≡ option_map (λ n. (way t f b.number n).phis) o
      below None = refl
      below (Some n) = ap (λ (e : Edge). Some e.phis) (way-same b.number n)

      falls : option_map (λ n. (way t made b.number n).phis) (fallen_into t (block_moved home b) (map (block_moved home) bs)) ≡ option_map (λ n. (way t f b.number n).phis) (fallen_into t b bs)
      falls = ap (option_map (λ n. (way t made b.number n).phis)) (fallen-stays t home b bs) ∙ below (fallen_into t b bs)

  blocks-merged : (bs : List Block) → PlainBlocks bs → blocks_code (item_of t made) t made (map (block_moved home) bs) ≡ renamed_code (blocks_code (item_of t f) t f bs)
  blocks-merged [] plain = refl
  blocks-merged (b ∷ bs) plain =
      ap (λ p. BlockStart b.number ∷ p)
      (items-merged b b.instrs (block_end t f b bs ∷ blocks_code (item_of t f) t f bs) (block_end t made (block_moved home b) (map (block_moved home) bs) ∷ blocks_code (item_of t made) t made (map (block_moved home) bs)) (plain b first) (λ k. end-merged b bs k ∷ blocks-merged bs (λ c n. plain c (later n)) k))

  pub code-merged : PlainBlocks f.blocks → code_of t made ≡ renamed_code (code_of t f)
  unfolding code_of
  code-merged plain = blocks-merged f.blocks plain

-- a code and the same with other lanes
pub folded-renamed : (m : Lane → Lane) (p : Code) → Folded m p (map (renamed_item m) p)
folded-renamed m [] = fold.done
folded-renamed m (BlockStart n ∷ p) = fold.start (folded-renamed m p)
folded-renamed m (BlockEnd falls exits ∷ p) = fold.end (folded-renamed m p)
folded-renamed m (Silent reads ws ∷ p) = fold.silent (folded-renamed m p)
folded-renamed m (Counted r reads ws target exits ∷ p) = fold.counted (folded-renamed m p)
