-- A slot that is anywhere is named by a store or a reload.
use Rattle.std.proofs.Common.{◌≡◌, ◌⊎◌, inl, inr, ◌++◌, ◌∙◌, ℕ, Bool, true, false, cond, List, [], ◌∷◌, Option, Some, None, map, refl, sym, ap, subst}
use Rattle.std.specs.Prelude.{nat_eq, option_map}
use Rattle.target_base.specs.declared.types.Effect.{Effect}
use Rattle.target_base.specs.declared.types.Effect.TheVariants as effects
use Rattle.target_base.specs.declared.types.Target.{Target}
use Rattle.target_base.specs.Roles.{is_silent}
use Rattle.meaning.specs.Code.{BlockEnd, BlockStart, Code, Counted, Edge, Item, Silent, found}
use Rattle.meaning.specs.Lanes.{Writes, filled}
use Rattle.meaning.specs.Layout.{NoPhisAlong}
use Rattle.meaning.specs.Live.{Among as Member, here as first, there as later, Feeds, Live, LiveAfter, OccupiedAfter, OccupiedBefore, after_leap, after_next, after_phi, exits_of, is_slot, kept, leap, next, phi, read, reads_of, store, writes_of}
use Rattle.meaning.specs.declared.types.Fill.TheVariants.{Moved}
use Rattle.meaning.specs.declared.types.Lane.{Lane}
use Rattle.meaning.specs.declared.types.Lane.TheVariants.{SlotLane, UnitLane, VirtualLane}
use Rattle.meaning.specs.declared.types.Source.{Source}
use Rattle.meaning.specs.declared.types.Source.TheVariants.{FromLane, Undef}
use Rattle.meaning.specs.declared.types.Write.{Write}
use Rattle.laws.proofs.Flow.{filled-from, lane-inj}
use Rattle.mir_func.specs.declared.func.Edge.{Edge as Successor}
use Rattle.mir_func.specs.declared.func.Operand.{Operand}
use Rattle.mir_func.specs.declared.func.Operand.TheVariants as operands
use Rattle.mir_func.specs.declared.func.RegOp.{RegOp}
use Rattle.mir_func.specs.declared.func.Instr.{Instr}
use Rattle.mir_func.specs.declared.func.Block.{Block}
use Rattle.mir_func.specs.Value.{Function}
use Rattle.mir_func.specs.Binding.{does, effect_of, is_early_clobber, is_terminator, passes, puts_together, roles_of}
use Rattle.mir_meaning.specs.Registers.{is_reserved, operand_lanes, operand_widths, slot_lane_numbers, slot_lanes, undefined_lanes, use_sources}
use Rattle.mir_meaning.specs.Items.{at_all_widths, counted_writes, lanes_beside, moved, reloaded, rest_of, silent_reads, silent_writes, spilled, undefined, values, widths_once}
use Rattle.mir_meaning.specs.Codes.{block_end, blocks_code, effect_item, item_of, target_of, way, ways_out}
use Rattle.mir_meaning.specs.Points.{AtFirst, Entry, Exit, Point, Start, from_instr, point_item, points_of}
use Rattle.mir_meaning.specs.Rules.{spills_or_reloads}
use Rattle.instr_effects.proofs.Members.{either-elim, flat-of, map-of, member-elim, member-none, right-in}
use Rattle.live_laws.proofs.Effects.Moved.{moved-of, undefined-fill, undefined-lane}
use Rattle.lowering_laws.specs.Shapes.{IsLowered}
use Rattle.split_laws.proofs.Renamed.{bare-edge}
use Rattle.split_laws.proofs.Splitting.{all-without-phis, as-item, member-behind, not-phi, suits, way-bare}
use Rattle.split_laws.proofs.Suits.{Suits}
use Rattle.clear_laws.proofs.Places.{Place, code-behind, code-here, place-of}
use Rattle.slot_laws.proofs.Still.{StillReads, StillWrites, counted-reads-still, counted-still, lanes-still, silent-still, undefined-lanes-still, uses-still}
use Rattle.sibling_laws.specs.Siblings.{SlotPoint}

-- a store or a reload of the function names the slot
pub record IsNamed (t : Target) (f : Function) (n : ℕ) : Type 0 where
  pub block : Block
  pub instr : Instr
  pub in_function : Member block f.blocks
  pub in_block : Member instr block.instrs
  pub moves : does spills_or_reloads t instr ≡ true
  pub names : Member (operands.Stack n) instr.operands

beside-lane : (n : ℕ) (ks ws : List ℕ) (l : Lane) → Member l (slot_lanes n ks ws) → (k : ℕ) × (w : ℕ) × (l ≡ SlotLane n k w)
beside-lane n [] ws l m = absurd (member-none l m)
beside-lane n (k ∷ ks) [] l m = absurd (member-none l m)
beside-lane n (k ∷ ks) (w ∷ ws) l m = member-elim l (SlotLane n k w) (slot_lanes n ks ws) (λ e. (k, w, e)) (λ j. beside-lane n ks ws l j) m

module _ (t : Target) (f : Function) where
  abbrev R : Lane → Bool
  R = is_reserved t

  abbrev D : Code
  D = points_of t f

  -- a lane of a slot is one of a slot that is named
  abbrev IsOfNamed : Lane → Type 0
  IsOfNamed (SlotLane n k w) = IsNamed t f n
  IsOfNamed (VirtualLane v k) = Unit {0}
  IsOfNamed (UnitLane u) = Unit {0}

  still-named : (l : Lane) → is_slot l ≡ false → IsOfNamed l
  still-named (SlotLane n k w) e = absurd (cc)
  still-named (VirtualLane v k) e = tt
  still-named (UnitLane u) e = tt

  reserved-still : (l : Lane) → R l ≡ true → is_slot l ≡ false
  reserved-still (SlotLane n k w) e = absurd (cc)
  reserved-still (VirtualLane v k) e = refl
  reserved-still (UnitLane u) e = refl

  record NamesAll (i : Item) : Type 0 where
    pub reads : (ss : List Source) (l : Lane) → Member ss (reads_of i) → Member (FromLane l) ss → IsOfNamed l
    pub moves : (w : Write) (l : Lane) → Member w (writes_of i) → w.fill ≡ Moved (FromLane l) → IsOfNamed l
    pub writes : (w : Write) → Member w (writes_of i) → IsOfNamed w.lane
    pub bare : NoPhisAlong (exits_of i)

  abbrev AllNamed : Code → Type 0
  AllNamed [] = Unit {0}
  AllNamed (i ∷ p) = NamesAll i × AllNamed p

  found-named : (n : ℕ) (p : Code) → AllNamed p → AllNamed (found n p)
  found-named n [] h = h
  found-named n (BlockStart k ∷ p) h = go (nat_eq k n) (found-named n p h.1)
    where
      go : (b : Bool) → AllNamed (found n p) → AllNamed (cond b p (found n p))
      go true y = h.1
      go false y = y
  found-named n (BlockEnd falls exits ∷ p) h = found-named n p h.1
  found-named n (Silent reads ws ∷ p) h = found-named n p h.1
  found-named n (Counted r reads ws target exits ∷ p) h = found-named n p h.1

  fed : (i : Item) → NamesAll i → (l a : Lane) → Feeds i l a → IsOfNamed a → IsOfNamed l
  fed i k l a g p = go (filled-from (writes_of i) a l g)
    where
      go : (l ≡ a) ⊎ ((w : Write) × Member w (writes_of i) × (w.fill ≡ Moved (FromLane l))) → IsOfNamed l
      go (inl e) = subst IsOfNamed (sym e) p
      go (inr z) = k.moves z.0 l z.1 z.2

  module _ (all : AllNamed D) where
    live-named : {p : Code} {l : Lane} → Live R D p l → AllNamed p → IsOfNamed l
    live-named (read {ss = ss} {l = l} x y r) h = h.0.reads ss l x y
    live-named (next {i = i} {l = l} {a = a} o live g r) h = fed i h.0 l a g (live-named live h.1)
    live-named (leap {i = i} {e = e} {l = l} {a = a} {b = b} x live g k r) h =
        let none : e.phis ≡ [] = bare-edge (exits_of i) e h.0.bare x in
        let same : a ≡ b = lane-inj a b (sym (ap (λ ws. filled ws a) none) ∙ g) in
        fed i h.0 l b k (subst IsOfNamed same (live-named live (found-named e.block D all)))
    live-named (phi {i = i} {e = e} {w = w} x y g k r) h = absurd (member-none w (subst (Member w) (bare-edge (exits_of i) e h.0.bare x) y))
    live-named (store w {l = l} o live g n r) h = still-named l n
    live-named (kept {i = i} {l = l} {a = a} s g r) h = fed i h.0 l a g (still-named a (reserved-still a s))

    after-named : (i : Item) (p : Code) → AllNamed (i ∷ p) → (l : Lane) → LiveAfter R D i p l → IsOfNamed l
    after-named i p h l (after_next o live) = live-named live h.1
    after-named i p h l (after_leap {e = e} {a = a} x live g) =
        let none : e.phis ≡ [] = bare-edge (exits_of i) e h.0.bare x in
        let same : a ≡ l = lane-inj a l (sym (ap (λ ws. filled ws a) none) ∙ g) in
        subst IsOfNamed same (live-named live (found-named e.block D all))
    after-named i p h l (after_phi {e = e} {w = w} x y g) = absurd (member-none w (subst (Member w) (bare-edge (exits_of i) e h.0.bare x) y))

    before-named : (p : Code) → AllNamed p → (l : Lane) → AtFirst (λ i q. OccupiedBefore R D i q l) p → IsOfNamed l
    before-named [] h l o = absurd o
    before-named (i ∷ p) h l (inl live, r) = live-named live h
    before-named (i ∷ p) h l (inr z, r) = subst IsOfNamed z.2 (h.0.writes z.0 z.1)

    behind-named : (p : Code) → AllNamed p → (l : Lane) → AtFirst (λ i q. OccupiedAfter R D i q l) p → IsOfNamed l
    behind-named [] h l o = absurd o
    behind-named (i ∷ p) h l (inl live, r) = after-named i p h l live
    behind-named (i ∷ p) h l (inr z, r) = subst IsOfNamed z.2 (h.0.writes z.0 z.1)

  -- items

  module _ (low : Suits t f) where
    bare-ways : (n : ℕ) (es : List Successor) → NoPhisAlong (map (λ e. way t f n e.block) es)
    bare-ways n [] = tt
    bare-ways n (e ∷ es) = (ap (λ (w : Edge). w.phis) (way-bare t f (all-without-phis t f.blocks (λ c j mc mj. (not-phi t j (low.lowered c j mc mj)).0)) n e.block), bare-ways n es)

  record Writes' (ws : Writes) : Type 0 where
    pub moves : (w : Write) (l : Lane) → Member w ws → w.fill ≡ Moved (FromLane l) → IsOfNamed l
    pub writes : (w : Write) → Member w ws → IsOfNamed w.lane

  still-writes : (ws : Writes) → StillWrites ws → Writes' ws
  still-writes ws h = record {
    moves = λ w l m e. still-named l ((h w m).1 l e);
    writes = λ w m. still-named w.lane (h w m).0;
  }

  module _ (b : Block) (i : Instr) (mb : Member b f.blocks) (mi : Member i b.instrs) where
    named-here : does spills_or_reloads t i ≡ true → (n : ℕ) → Member (operands.Stack n) i.operands → IsNamed t f n
    named-here h n m = record { block = b; instr = i; in_function = mb; in_block = mi; moves = h; names = m }

    -- lanes that a store or a reload names
    module _ (move : does spills_or_reloads t i ≡ true) where
      beside-named : (o : RegOp) (n : ℕ) (k : Operand) → Member (operands.Stack n) i.operands → (l : Lane) → Member l (lanes_beside t f o n k) → IsOfNamed l
      beside-named o n k m l h =
          let z = beside-lane n (slot_lane_numbers t (operand_widths t f o) k) (operand_widths t f o) l h in
          subst IsOfNamed (sym z.2) (named-here move n m)

      widths-named : (n : ℕ) (ks : List ℕ) → Member (operands.Stack n) i.operands → (l : Lane) → Member l (at_all_widths t n ks) → IsOfNamed l
      widths-named n ks m l h =
          let z = flat-of (λ k. map (λ w. SlotLane n k w) (widths_once [] t.units)) l ks h in
          let y = map-of (λ w. SlotLane n z.0 w) l (widths_once [] t.units) z.2 in
          subst IsOfNamed (sym y.2) (named-here move n m)

      moved-named : (early : Bool) (ls : List Lane) (ss : List Source) → ((l : Lane) → Member l ls → IsOfNamed l) → ((l : Lane) → Member (FromLane l) ss → IsOfNamed l) → Writes' (moved early ls ss)
      moved-named early ls ss g k = record {
        moves = λ w l m e. let z = moved-of early w ls ss m in k l (subst (λ x. Member x ss) (same-source z.0 l (sym z.3 ∙ e)) z.2);
        writes = λ w m. g w.lane (moved-of early w ls ss m).1;
      }
        where
          same-source : (s : Source) (l : Lane) → Moved s ≡ Moved (FromLane l) → s ≡ FromLane l
          same-source s l e = cc

      undefined-named : (early : Bool) (ls : List Lane) → ((l : Lane) → Member l ls → IsOfNamed l) → Writes' (undefined early ls)
      undefined-named early ls g = record {
        moves = λ w l m e. absurd (not-undefined w l (undefined-fill early w ls m) e);
        writes = λ w m. g w.lane (undefined-lane early w ls m);
      }
        where
          not-undefined : (w : Write) (l : Lane) → w.fill ≡ Moved Undef → w.fill ≡ Moved (FromLane l) → ⊥
          not-undefined w l e g = cc

      both-named : (ws vs : Writes) → Writes' ws → Writes' vs → Writes' (ws ++ vs)
      both-named ws vs a b' = record {
        moves = λ w l m e. either-elim w ws vs (λ k. a.moves w l k e) (λ k. b'.moves w l k e) m;
        writes = λ w m. either-elim w ws vs (a.writes w) (b'.writes w) m;
      }

      none-named : Writes' []
      none-named = record { moves = λ w l m e. absurd (member-none w m); writes = λ w m. absurd (member-none w m) }

      from-of : (ls : List Lane) (l : Lane) → Member (FromLane l) (map FromLane ls) → Member l ls
      from-of ls l m = let z = map-of FromLane (FromLane l) ls m in subst (λ a. Member a ls) (inner z.0 l (sym z.2)) z.1
        where
          inner : (a b : Lane) → FromLane a ≡ FromLane b → a ≡ b
          inner a b e = cc

      stored-named : (os : List Operand) → ((n : ℕ) → Member (operands.Stack n) os → Member (operands.Stack n) i.operands) → Writes' (spilled t f os)
      stored-named (operands.Reg o ∷ operands.Stack n ∷ k ∷ os) h =
          let ks = slot_lane_numbers t (operand_widths t f o) k in
          let m = h n (later first) in
          both-named (moved false (lanes_beside t f o n k) (use_sources t f o)) (undefined false (at_all_widths t n ks))
          (moved-named false (lanes_beside t f o n k) (use_sources t f o) (beside-named o n k m) (λ l j. still-named l (uses-still t f o l j)))
          (undefined-named false (at_all_widths t n ks) (widths-named n ks m))
      stored-named _ h = none-named

      loaded-named : (early : Bool) (os : List Operand) → ((n : ℕ) → Member (operands.Stack n) os → Member (operands.Stack n) i.operands) → Writes' (reloaded t f early os)
      loaded-named early (operands.Reg o ∷ operands.Stack n ∷ k ∷ os) h =
          let m = h n (later first) in
          both-named (moved early (operand_lanes t f o) (map FromLane (lanes_beside t f o n k))) (undefined early (undefined_lanes t f o))
          (moved-named early (operand_lanes t f o) (map FromLane (lanes_beside t f o n k)) (λ l j. still-named l (lanes-still t f o l j)) (λ l j. beside-named o n k m l (from-of (lanes_beside t f o n k) l j)))
          (undefined-named early (undefined_lanes t f o) (λ l j. still-named l (undefined-lanes-still t f o l j)))
      loaded-named early _ h = none-named

    silent-named : (e : Effect) → effect_of t i ≡ Some e → puts_together e ≡ false → Writes' (silent_writes t f e (is_early_clobber (roles_of t i)) i.operands)
    silent-named effects.Spill known n = stored-named (ap (passes spills_or_reloads) known) i.operands (λ k m. m)
    silent-named effects.Reload known n = loaded-named (ap (passes spills_or_reloads) known) (is_early_clobber (roles_of t i)) i.operands (λ k m. m)
    silent-named effects.RegSequence known n = absurd (cc)
    silent-named effects.InsertSubreg known n = absurd (cc)
    silent-named e known n = still-writes (silent_writes t f e (is_early_clobber (roles_of t i)) i.operands) (silent-still t f e (is_early_clobber (roles_of t i)) i.operands n refl refl)

    silent-reads-none : (e : Effect) → puts_together e ≡ false → StillReads (silent_reads t f e i.operands)
    silent-reads-none effects.RegSequence n ss k = absurd (cc)
    silent-reads-none effects.InsertSubreg n ss k = absurd (cc)
    silent-reads-none e n ss k = absurd (member-none ss k)

    module _ (low : Suits t f) where
      outs : (d : Bool) → NoPhisAlong (cond d (ways_out t f b) [])
      outs true = bare-ways low b.number b.successors
      outs false = tt

      by-effect : (e : Effect) → effect_of t i ≡ Some e → puts_together e ≡ false → NamesAll (effect_item t f b i e)
      by-effect e known n = go (is_silent e)
        where
          go : (s : Bool) → NamesAll (cond s (Silent (silent_reads t f e i.operands) (silent_writes t f e (is_early_clobber (roles_of t i)) i.operands)) (Counted (rest_of t f e i) (map (λ x. x.0) (values t f e i)) (counted_writes t f e i) (option_map (way t f b.number) (target_of i.operands)) (cond (is_terminator e) (ways_out t f b) [])))
          go true = let z = silent-named e known n in record { reads = λ ss l x y. still-named l (silent-reads-none e n ss x l y); moves = z.moves; writes = z.writes; bare = tt }
          go false =
              let z = still-writes (counted_writes t f e i) (counted-still t f e i) in
              record { reads = λ ss l x y. still-named l (counted-reads-still t f e i ss x l y); moves = z.moves; writes = z.writes; bare = outs (is_terminator e) }

      item-named : NamesAll (item_of t f b i)
      unfolding item_of
      item-named = go (effect_of t i) refl (not-phi t i (low.lowered b i mb mi)).1
        where
          go : (q : Option Effect) → effect_of t i ≡ q → passes puts_together q ≡ false → NamesAll (elim q as (λ o. Item) [ None ↦ Silent [] [] | Some e ↦ effect_item t f b i e ])
          go None known n = record { reads = λ ss l x y. absurd (member-none ss x); moves = λ w l m e. absurd (member-none w m); writes = λ w m. absurd (member-none w m); bare = tt }
          go (Some e) known n = by-effect e known n

      point-named : NamesAll (point_item t f b i)
      point-named = subst NamesAll (sym (as-item t f b i (not-phi t i (low.lowered b i mb mi)).0)) item-named

  -- code of blocks of the function

  module _ (low : Suits t f) where
    items-named : (b : Block) → Member b f.blocks → (is : List Instr) → ((i : Instr) → Member i is → Member i b.instrs) → (p : Code) → AllNamed p → AllNamed (map (point_item t f b) is ++ p)
    items-named b mb [] h p k = k
    items-named b mb (i ∷ is) h p k = (point-named b i mb (h i first) low, items-named b mb is (λ j m. h j (later m)) p k)

    end-named : (b : Block) (after : List Block) → NamesAll (block_end t f b after)
    end-named b after = record { reads = λ ss l x y. absurd (member-none ss x); moves = λ w l m e. absurd (member-none w m); writes = λ w m. absurd (member-none w m); bare = bare-ways low b.number b.successors }

    blocks-named : (bs : List Block) → ((b : Block) → Member b bs → Member b f.blocks) → AllNamed (blocks_code (point_item t f) t f bs)
    blocks-named [] h = tt
    blocks-named (b ∷ bs) h = (
      record { reads = λ ss l x y. absurd (member-none ss x); moves = λ w l m e. absurd (member-none w m); writes = λ w m. absurd (member-none w m); bare = tt },
      items-named b (h b first) b.instrs (λ i m. m) (block_end t f b bs ∷ blocks_code (point_item t f) t f bs) (end-named b bs, blocks-named bs (λ c m. h c (later m))),
    )

    all-named : AllNamed D
    unfolding points_of
    all-named = blocks-named f.blocks (λ b m. m)

    -- the code from an instruction on
    at-named : (pre : List Block) (b : Block) (after : List Block) → pre ++ b ∷ after ≡ f.blocks → (is : List Instr) → ((i : Instr) → Member i is → Member i b.instrs) → AllNamed (code-behind t f b after is)
    at-named pre b after e is h =
        items-named b (member-behind pre b after f.blocks e) is h (block_end t f b after ∷ blocks_code (point_item t f) t f after)
        (end-named b after, blocks-named after (λ c m. subst (Member c) e (right-in c pre (b ∷ after) (later m))))

    from-named : (id : ℕ) → AllNamed (from_instr t f id f.blocks)
    from-named id = go (place-of t f id f.blocks)
      where
        go : (from_instr t f id f.blocks ≡ []) ⊎ Place id f.blocks → AllNamed (from_instr t f id f.blocks)
        go (inl e) = subst AllNamed (sym e) tt
        go (inr z) =
            let is = z.inside.instr ∷ z.inside.back in
            subst (λ n. AllNamed (from_instr t f n f.blocks)) z.inside.named
            (subst AllNamed (sym (code-here t f low.function z.pre z.block z.after z.blocks z.inside.front z.inside.instr z.inside.back z.inside.whole))
            (at-named z.pre z.block z.after z.blocks is (λ i m. subst (Member i) z.inside.whole (right-in i z.inside.front is m))))

pub occupied-named : (t : Target) (f : Function) → IsLowered t f → (n : ℕ) (p : Point) → SlotPoint t f n p → IsNamed t f n
occupied-named t f low n (Start m) h = let s = suits t f low in live-named t f (all-named t f s) h.2 (found-named t f m (points_of t f) (all-named t f s))
occupied-named t f low n (Entry id) h = let s = suits t f low in before-named t f (all-named t f s) (from_instr t f id f.blocks) (from-named t f s id) (SlotLane n h.0 h.1) h.2
occupied-named t f low n (Exit id) h = let s = suits t f low in behind-named t f (all-named t f s) (from_instr t f id f.blocks) (from-named t f s id) (SlotLane n h.0 h.1) h.2
