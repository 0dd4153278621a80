-- Behind a join a writable function stays writable.
use Rattle.std.proofs.Common.{◌≡◌, ◌∷◌, ◌≤◌, ◌&&◌, ◌||◌, not, ℕ, Bool, true, false, cond, List, Option, Some, None, filter, map, refl, sym, subst, []}
use Rattle.std.specs.Prelude.{find, max, min, nat_eq, option_map, position}
use Rattle.std.specs.List.{list_all}
use Rattle.std.proofs.lemmas.List.{length-set}
use Rattle.target_base.specs.Numbers.{index_number}
use Rattle.target_base.specs.Registers.{HasIndex, lanes_of}
use Rattle.target_base.specs.Storage.{holds_subs}
use Rattle.target_base.specs.Rules.{is_copy}
use Rattle.target_base.specs.declared.types.IndexDesc.{IndexDesc}
use Rattle.target_base.specs.declared.types.IndexId.{IndexId}
use Rattle.target_base.specs.declared.types.Target.{Target}
use Rattle.target_base.proofs.Tests.{position_within}
use Rattle.meaning.specs.Live.{Among, here, there}
use Rattle.mir_func.specs.declared.func.Loc.{Loc}
use Rattle.mir_func.specs.declared.func.Loc.TheVariants.{Fixed, Virtual}
use Rattle.mir_func.specs.declared.func.RegOp.{RegOp}
use Rattle.mir_func.specs.declared.func.Operand.{Operand}
use Rattle.mir_func.specs.declared.func.Operand.TheVariants as operands
use Rattle.mir_func.specs.declared.func.Instr.{Instr}
use Rattle.mir_func.specs.declared.func.Block.{Block}
use Rattle.mir_func.specs.Value.{Function}
use Rattle.mir_func.specs.Binding.{does, is_definition}
use Rattle.mir_meaning.specs.Points.{is_range}
use Rattle.instr_effects.proofs.Members.{filter-of, flat-of, map-of}
use Rattle.live_edits.specs.declared.fold.Join.{Join}
use Rattle.live_edits.specs.Folded.{all_instrs, are_picked, becomes_identity, composed, copy_sides, folded, folded_block, index_within, is_narrower, joined_class, joined_instr, joined_operand, registers_of, two_sides}
use Rattle.lowering_laws.specs.Shapes.{IsLowered}
use Rattle.join_laws.specs.Joined.{Tried, done, fits_range, indexed_join, indexes_on, join_at, joins, sides_join, stays, two_ranges}
use Rattle.join_laws.specs.Laws.{HasPlainUndefs}
use Rattle.join_laws.proofs.Trying.{join_keeps_lowered}
use Rattle.writable_laws.specs.Laws.{JoinStaysWritable, JoinedStaysWritable}
use Rattle.writable_laws.specs.Writable.{IsWritable}
use Rattle.writable_laws.proofs.Fitting.{InstrsFit, InstrFits, BlockFits, OperandFits, RegisterFits, block-with, renamed-fits}
use Rattle.writable_laws.proofs.PhisFit.{found-among}
use Rattle.writable_laws.proofs.Lowered.{lowered-fits}
use Rattle.writable_laws.proofs.Whole.{writable-behind}

module _ (t : Target) where
  -- the index of a join is one of the target's

  some-join : (b : Bool) (x j : Join) → cond b (Some x) None ≡ Some j → x ≡ j
  some-join true x j e = cc
  some-join false x j e = absurd (cc)

  module _ (f : Function) (j : Join) where
    by-indexes : (a b : ℕ) (x y : Option IndexId) → HasIndex t x → HasIndex t y → indexed_join t f a x b y ≡ Some j → HasIndex t j.index
    by-indexes a b None None h g e = subst (λ (z : Join). HasIndex t z.index) (some-join (is_narrower t f a b || is_narrower t f b a) (record { keep = min a b; gone = max a b; index = None }) j e) tt
    by-indexes a b (Some x) None h g e = subst (λ (z : Join). HasIndex t z.index) (some-join (holds_subs t.regs (lanes_of t x) (registers_of t f a) (registers_of t f b) && list_all (λ y. fits_range t f a (composed t x y)) (indexes_on f b)) (record { keep = a; gone = b; index = Some x }) j e) h
    by-indexes a b None (Some x) h g e = subst (λ (z : Join). HasIndex t z.index) (some-join (holds_subs t.regs (lanes_of t x) (registers_of t f b) (registers_of t f a) && list_all (λ y. fits_range t f b (composed t x y)) (indexes_on f a)) (record { keep = b; gone = a; index = Some x }) j e) g
    by-indexes a b (Some x) (Some y) h g e = absurd (cc)

    by-sides : (l m : Loc) (x y : Option IndexId) → RegisterFits t l x → RegisterFits t m y → elim (two_ranges l m) as (λ q. Option Join) [ None ↦ None | Some p ↦ indexed_join t f p.0 x p.1 y ] ≡ Some j → HasIndex t j.index
    by-sides (Virtual a) (Virtual b) x y h g e = go (nat_eq a b) e
      where
        go : (c : Bool) → elim (cond {A = Option (ℕ × ℕ)} c None (Some (a, b))) as (λ q. Option Join) [ None ↦ None | Some p ↦ indexed_join t f p.0 x p.1 y ] ≡ Some j → HasIndex t j.index
        go true e = absurd (cc)
        go false e = by-indexes a b x y h g e
    by-sides (Virtual a) (Fixed r) x y h g e = absurd (cc)
    by-sides (Fixed r) m x y h g e = absurd (cc)

    by-instr : (i : Instr) → InstrFits t i → sides_join t f (copy_sides t i) ≡ Some j → HasIndex t j.index
    by-instr i z e = go (does is_copy t i) e
      where
        by : (os : List Operand) → ((o : Operand) → Among o os → OperandFits t o) → sides_join t f (two_sides os) ≡ Some j → HasIndex t j.index
        by (operands.Reg d ∷ operands.Reg s ∷ []) h e = by-sides d.loc s.loc d.index s.index (h (operands.Reg d) here) (h (operands.Reg s) (there here)) e
        by os h e = absurd (cc)

        go : (c : Bool) → sides_join t f (cond c (two_sides i.operands) None) ≡ Some j → HasIndex t j.index
        go true e = by i.operands z.operands e
        go false e = absurd (cc)

    join-index : (id : ℕ) → InstrsFit t (all_instrs f) → join_at t f id ≡ Some j → HasIndex t j.index
    join-index id each e = go (find (λ (i : Instr). nat_eq i.id id) (all_instrs f)) refl e
      where
        go : (q : Option Instr) → find (λ (i : Instr). nat_eq i.id id) (all_instrs f) ≡ q → elim q as (λ q. Option Join) [ None ↦ None | Some i ↦ sides_join t f (copy_sides t i) ] ≡ Some j → HasIndex t j.index
        go None g h = absurd (cc)
        go (Some i) g h = by-instr i (each i (found-among (λ (i : Instr). nat_eq i.id id) (all_instrs f) i g)) h

  -- operands behind a join

  index-there : (x y : Option IndexId) → HasIndex t x → HasIndex t y → HasIndex t (index_within t x y)
  index-there None y h g = g
  index-there (Some x) None h g = h
  index-there (Some x) (Some y) h g = go (position (λ (d : IndexDesc). are_picked (lanes_of t x) (lanes_of t y) d.lanes) t.indexes) refl
    where
      go : (q : Option ℕ) → position (λ (d : IndexDesc). are_picked (lanes_of t x) (lanes_of t y) d.lanes) t.indexes ≡ q → HasIndex t (option_map index_number q)
      go None e = tt
      go (Some n) e = position_within (λ (d : IndexDesc). are_picked (lanes_of t x) (lanes_of t y) d.lanes) t.indexes n e

  joined-place : (j : Join) → HasIndex t j.index → (o : RegOp) → RegisterFits t o.loc o.index → RegisterFits t (joined_operand t j o).loc (joined_operand t j o).index × (is_definition (joined_operand t j o) ≡ is_definition o)
  joined-place j known o h = at o.loc refl h
    where
      at : (l : Loc) → o.loc ≡ l → RegisterFits t l o.index → RegisterFits t (joined_operand t j o).loc (joined_operand t j o).index × (is_definition (joined_operand t j o) ≡ is_definition o)
      at (Virtual v) e g = go (is_range j.gone o.loc)
        where
          go : (c : Bool) → RegisterFits t (cond c (record o { loc = Virtual j.keep; index = index_within t j.index o.index }) o).loc (cond c (record o { loc = Virtual j.keep; index = index_within t j.index o.index }) o).index × (is_definition (cond c (record o { loc = Virtual j.keep; index = index_within t j.index o.index }) o) ≡ is_definition o)
          go true = (index-there j.index o.index known g, refl)
          go false = (subst (λ l. RegisterFits t l o.index) (sym e) g, refl)
      at (Fixed r) e g =
          let same : joined_operand t j o ≡ o = λ k. cond (is_range j.gone (e k)) (record o { loc = Virtual j.keep; index = index_within t j.index o.index }) o in
          subst (λ p. RegisterFits t p.loc p.index × (is_definition p ≡ is_definition o)) (sym same) (subst (λ l. RegisterFits t l o.index) (sym e) g, refl)

  blocks-fits : (f : Function) (j : Join) → HasIndex t j.index → ((b : Block) → Among b f.blocks → BlockFits t b) → (d : Block) → Among d (folded t j f).blocks → BlockFits t d
  blocks-fits f j known w d m =
      let z = map-of (folded_block t f j) d f.blocks m in
      let b = w z.0 z.1 in
      let stays = filter (λ i. not (becomes_identity t f j i)) z.0.instrs in
      subst (BlockFits t) (sym z.2) (block-with t z.0 (map (joined_instr t j) stays) b.header
      (λ x k. (let y = map-of (joined_instr t j) x stays k in subst (InstrFits t) (sym y.2) (renamed-fits t (joined_operand t j) y.0 (b.instrs y.0 (filter-of (λ i. not (becomes_identity t f j i)) y.0 z.0.instrs y.1).0) (joined-place j known)))))

pub join_stays_writable : JoinStaysWritable
join_stays_writable t f id j low plain join w =
    let g = folded t j f in
    let kept = (join_keeps_lowered t f id j low plain join).0 in
    let fits = lowered-fits t f low w in
    let each : InstrsFit t (all_instrs f) = λ i m. (let z = flat-of (λ (b : Block). b.instrs) i f.blocks m in (fits z.0 z.1).instrs i z.2) in
    writable-behind t f g w refl refl refl (subst (λ n. n ≤ 2147483648) (sym (length-set f.classes j.keep (joined_class t f j j.index))) w.ranges) kept.rules.classes kept.function.nonempty
    (blocks-fits t f j (join-index t f j id each join.0) fits)
    (λ b i mb mi. (kept.rules.shaped b i mb mi).operands)
    (λ b i mb mi. (kept.rules.shaped b i mb mi).classes)
    (λ k b e. kept.successors k b e)

tried-stays : (t : Target) {ids : List ℕ} {f : Function} {js : List Join} {g : Function} → Tried t ids f js g → IsLowered t f → HasPlainUndefs t f → IsWritable t f → IsWritable t g
tried-stays t done low plain w = w
tried-stays t (joins {f = f} {id = id} {j = j} join on) low plain w =
    let kept = join_keeps_lowered t f id j low plain join in
    tried-stays t on kept.0 kept.1 (join_stays_writable t f id j low plain join w)
tried-stays t (stays fails on) low plain w = tried-stays t on low plain w

pub joined_stays_writable : JoinedStaysWritable
joined_stays_writable t freqs f g js low plain joined w = tried-stays t joined low plain w
