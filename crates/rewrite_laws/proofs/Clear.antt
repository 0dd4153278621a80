-- No two lanes with one image are occupied at one point, at no item of the code.
use Rattle.std.proofs.Common.{◌≡◌, ◌≢◌, ◌⊎◌, inl, inr, ◌∷◌, ◌++◌, ◌∙◌, ℕ, Bool, true, false, cond, List, [], Option, Some, None, map, refl, sym, ap, subst, append_assoc, eqb-true}
use Rattle.std.specs.Prelude.{nat_eq, option_map, slice_get}
use Rattle.std.proofs.lemmas.Bool.{eqb-false}
use Rattle.target_base.specs.declared.types.Effect.{Effect}
use Rattle.target_base.specs.declared.types.Reg.{Reg}
use Rattle.target_base.specs.declared.types.Target.{Target}
use Rattle.target_base.specs.declared.types.Unit.{Unit as UnitNumber}
use Rattle.target_base.specs.Numbers.{unit_number}
use Rattle.target_base.specs.Registers.{units_of}
use Rattle.target_base.specs.Roles.{is_silent}
use Rattle.target_base.specs.Rules.{is_phi}
use Rattle.meaning.specs.Clash.{NoClash, NoClashAt}
use Rattle.meaning.specs.Code.{BlockEnd, BlockStart, Code, Counted, Edge, Item, Silent, found}
use Rattle.meaning.specs.Lanes.{Writes}
use Rattle.meaning.specs.Live.{Live, OccupiedAfter, OccupiedBefore, after_leap, after_next, after_phi, in_order, is_slot, kept, leap, next, phi, read, store}
use Rattle.meaning.specs.declared.types.Lane.{Lane}
use Rattle.meaning.specs.declared.types.Lane.TheVariants.{SlotLane, UnitLane, VirtualLane}
use Rattle.mir_func.specs.declared.func.Instr.{Instr}
use Rattle.mir_func.specs.declared.func.Block.{Block}
use Rattle.mir_func.specs.Value.{Function}
use Rattle.mir_func.specs.Binding.{does, effect_of, is_early_clobber, is_terminator, roles_of}
use Rattle.mir_meaning.specs.Codes.{block_end, blocks_code, effect_item, item_of, target_of, way, ways_out}
use Rattle.mir_meaning.specs.Items.{counted_writes, defined_undef, rest_of, silent_reads, silent_writes, values}
use Rattle.mir_meaning.specs.Points.{AtFirst, Entry, Exit, HeldIn, OccupiedAt, Point, Start, from_instr, point_item, points_of}
use Rattle.mir_meaning.specs.Registers.{is_reserved}
use Rattle.mir_meaning.specs.Rules.{block_numbers}
use Rattle.instr_effects.proofs.Members.{member-none}
use Rattle.instr_effects.proofs.Plain.{moved-same}
use Rattle.live_laws.proofs.Effects.Blocks.{block_code, numbers-apart}
use Rattle.live_laws.proofs.Effects.Moved.{Apart}
use Rattle.live_laws.proofs.Effects.Moving.{some-same}
use Rattle.lowering_laws.specs.Shapes.{IsLowered}
use Rattle.join_laws.proofs.Laid.{found-at}
use Rattle.rewriter.specs.Physical.{Assignment, register_of}
use Rattle.rewrite_laws.specs.Laws.{IsClear}
use Rattle.rewrite_laws.proofs.Operands.{goes-to, image, lane_in, unit_or}
use Rattle.rewrite_laws.proofs.Spots.{code-at}
use Rattle.rewrite_laws.proofs.Units.{unit-once}

-- at one point

same-unit : (u w : ℕ) → UnitLane u ≡ UnitLane w → u ≡ w
same-unit u w e = cc

module _ (t : Target) (f : Function) (rs : Assignment) (clear : IsClear t f rs) where
  abbrev m : Lane → Lane
  m = image t rs

  -- the lane of a range that goes to a unit
  pub record GoesTo (l : Lane) : Type 0 where
    pub v : ℕ
    pub k : ℕ
    pub r : Reg
    pub u : UnitNumber
    pub is : l ≡ VirtualLane v k
    pub reg : register_of rs v ≡ Some r
    pub unit : slice_get (units_of t r) k ≡ Some u

  pub where-to : (l : Lane) → (m l ≡ l) ⊎ GoesTo l
  where-to (UnitLane u) = inl refl
  where-to (SlotLane s k w) = inl refl
  where-to (VirtualLane v k) = go (register_of rs v) refl
    where
      by : (r : Reg) → register_of rs v ≡ Some r → (o : Option UnitNumber) → slice_get (units_of t r) k ≡ o → (m (VirtualLane v k) ≡ VirtualLane v k) ⊎ GoesTo (VirtualLane v k)
      by r e None g = inl (ap (lane_in t (VirtualLane v k) k) e ∙ ap (unit_or (VirtualLane v k)) g)
      by r e (Some u) g = inr (record { v = v; k = k; r = r; u = u; is = refl; reg = e; unit = g })

      go : (o : Option Reg) → register_of rs v ≡ o → (m (VirtualLane v k) ≡ VirtualLane v k) ⊎ GoesTo (VirtualLane v k)
      go None e = inl (ap (lane_in t (VirtualLane v k) k) e)
      go (Some r) e = by r e (slice_get (units_of t r) k) refl

  pub goes : (l : Lane) (z : GoesTo l) → m l ≡ UnitLane z.u.0
  goes l z = ap m z.is ∙ goes-to t rs z.v z.k z.r z.u z.reg z.unit

  held : (x : Point) (l : Lane) (z : GoesTo l) → OccupiedAt t f x l → HeldIn t f z.v z.r x z.u
  held x l z o = record { k = z.k; occupied = subst (OccupiedAt t f x) z.is o; unit = z.unit }

  -- a lane that stays where another goes is a unit that clashes
  no-unit : (x : Point) (a b : Lane) → m a ≡ a → GoesTo b → OccupiedAt t f x a → OccupiedAt t f x b → m a ≡ m b → ⊥
  no-unit x a b s z oa ob e = clear.units z.v z.r z.u z.reg (x, held x b z ob, subst (OccupiedAt t f x) (sym s ∙ (e ∙ goes b z)) oa)

  two-ranges : (x : Point) (a b : Lane) (y : GoesTo a) (z : GoesTo b) → OccupiedAt t f x a → OccupiedAt t f x b → m a ≡ m b → a ≡ b
  two-ranges x a b y z oa ob e = go (nat_eq y.v z.v) refl
    where
      units : y.u ≡ z.u
      units = let n : y.u.0 ≡ z.u.0 = same-unit y.u.0 z.u.0 (sym (goes a y) ∙ (e ∙ goes b z)) in ap unit_number n

      one : y.v ≡ z.v → a ≡ b
      one same =
          let regs : z.r ≡ y.r = some-same z.r y.r (sym z.reg ∙ (ap (register_of rs) (sym same) ∙ y.reg)) in
          let there : slice_get (units_of t y.r) z.k ≡ Some y.u = ap (λ r. slice_get (units_of t r) z.k) (sym regs) ∙ (z.unit ∙ ap Some (sym units)) in
          let lanes : y.k ≡ z.k = unit-once t y.r y.k z.k y.u y.unit there in
          y.is ∙ ((λ i. VirtualLane (same i) (lanes i)) ∙ sym z.is)

      go : (q : Bool) → nat_eq y.v z.v ≡ q → a ≡ b
      go true h = one (eqb-true y.v z.v h)
      go false h =
          let apart : y.v ≢ z.v = eqb-false y.v z.v h in
          absurd (clear.ranges y.v z.v y.r z.r apart y.reg z.reg (x, y.u, held x a y oa, subst (HeldIn t f z.v z.r x) (sym units) (held x b z ob)))

  pub apart-at : (x : Point) (a b : Lane) → OccupiedAt t f x a → OccupiedAt t f x b → m a ≡ m b → a ≡ b
  apart-at x a b oa ob e = go (where-to a) (where-to b)
    where
      go : (m a ≡ a) ⊎ GoesTo a → (m b ≡ b) ⊎ GoesTo b → a ≡ b
      go (inl p) (inl q) = sym p ∙ (e ∙ q)
      go (inl p) (inr z) = absurd (no-unit x a b p z oa ob e)
      go (inr y) (inl q) = absurd (no-unit x b a q y ob oa (sym e))
      go (inr y) (inr z) = two-ranges x a b y z oa ob e

-- items that write nothing

module _ (R : Lane → Bool) (code : Code) where
  live-behind : (n : ℕ) (p : Code) (l : Lane) → Live R code (BlockStart n ∷ p) l → Live R code p l
  live-behind n p l (read {ss = ss} h g r) = absurd (member-none ss h)
  live-behind n p l (next {a = a} o h f r) = subst (Live R code p) (moved-same a l f) h
  live-behind n p l (leap {e = e} x h g f r) = absurd (member-none e x)
  live-behind n p l (phi {e = e} x y g f r) = absurd (member-none e x)
  live-behind n p l (store w {s = s} {k = k} o h f t r) =
      let u : is_slot l ≡ true = subst (λ x. is_slot x ≡ true) (moved-same (SlotLane s k w) l f) refl in
      absurd (cc)
  live-behind n p l (kept {a = a} s f r) =
      let t : R l ≡ true = subst (λ x. R x ≡ true) (moved-same a l f) s in
      absurd (cc)

  start-entry : (n : ℕ) (p : Code) (l : Lane) → OccupiedBefore R code (BlockStart n) p l → Live R code p l
  start-entry n p l (inl h, r) = live-behind n p l h
  start-entry n p l (inr h, r) = absurd (member-none h.0 h.1)

  start-exit : (n : ℕ) (p : Code) (l : Lane) → OccupiedAfter R code (BlockStart n) p l → Live R code p l
  start-exit n p l (inl (after_next o h), r) = h
  start-exit n p l (inl (after_leap {e = e} x h g), r) = absurd (member-none e x)
  start-exit n p l (inl (after_phi {e = e} x y g), r) = absurd (member-none e x)
  start-exit n p l (inr h, r) = absurd (member-none h.0 h.1)

  end-entry : (falls : Option Writes) (exits : List Edge) (p : Code) (l : Lane) → OccupiedBefore R code (BlockEnd falls exits) p l → Live R code (BlockEnd falls exits ∷ p) l
  end-entry falls exits p l (inl h, r) = h
  end-entry falls exits p l (inr h, r) = absurd (member-none h.0 h.1)

  end-exit : (falls : Option Writes) (exits : List Edge) (p : Code) (l : Lane) → OccupiedAfter R code (BlockEnd falls exits) p l → Live R code (BlockEnd falls exits ∷ p) l
  end-exit falls exits p l (inl (after_next o h), r) = absurd (cc)
  end-exit falls exits p l (inl (after_leap x h g), r) = leap x h g refl r
  end-exit falls exits p l (inl (after_phi x y g), r) = phi x y g refl r
  end-exit falls exits p l (inr h, r) = absurd (member-none h.0 h.1)

-- behind an instruction control goes on in order
goes-on : (t : Target) (f : Function) (b : Block) (i : Instr) → in_order (point_item t f b i) ≡ true
unfolding point_item item_of
goes-on t f b i = go (does is_phi t i) (effect_of t i)
  where
    by : (s : Bool) (e : Effect) → in_order (cond s (Silent (silent_reads t f e i.operands) (silent_writes t f e (is_early_clobber (roles_of t i)) i.operands)) (Counted (rest_of t f e i) (map (λ v. v.0) (values t f e i)) (counted_writes t f e i) (option_map (way t f b.number) (target_of i.operands)) (cond (is_terminator e) (ways_out t f b) []))) ≡ true
    by true e = refl
    by false e = refl

    go : (p : Bool) (q : Option Effect) → in_order (cond p (Silent [] (defined_undef t f i.operands)) (elim q [ None ↦ Silent [] [] | Some e ↦ effect_item t f b i e ])) ≡ true
    go true q = refl
    go false None = refl
    go false (Some e) = by (is_silent e) e

module _ (t : Target) (f : Function) (rs : Assignment) (clear : IsClear t f rs) (low : IsLowered t f) where
  abbrev R : Lane → Bool
  R = is_reserved t

  abbrev P : Code
  P = points_of t f

  points-are : P ≡ blocks_code (point_item t f) t f f.blocks
  unfolding points_of
  points-are = refl

  -- what is occupied at the entry and at the exit of an item is occupied at two points
  by-points : (i : Item) (p : Code) (x y : Point) → ((l : Lane) → OccupiedBefore R P i p l → OccupiedAt t f x l) → ((l : Lane) → OccupiedAfter R P i p l → OccupiedAt t f y l) → NoClashAt R P (image t rs) i p
  by-points i p x y before after = record {
    entry = λ a b oa ob e. apart-at t f rs clear x a b (before a oa) (before b ob) e;
    exit = λ a b oa ob e. apart-at t f rs clear y a b (after a oa) (after b ob) e;
  }

  module _ (pre : List Block) (b : Block) (behind : List Block) (whole : pre ++ b ∷ behind ≡ f.blocks) where
    abbrev tail : Code
    tail = block_end t f b behind ∷ blocks_code (point_item t f) t f behind

    found-here : found b.number P ≡ block_code t f b behind
    found-here =
        ap (found b.number) points-are
        ∙ (ap (λ bs. found b.number (blocks_code (point_item t f) t f bs)) (sym whole)
        ∙ found-at t f low pre b behind (subst (λ bs. Apart (block_numbers bs)) (sym whole) (numbers-apart f low.rules.blocks)))

    -- what is live here is occupied at the point
    abbrev LiveTo : Point → Code → Type 0
    LiveTo x p = (l : Lane) → Live R P p l → R l ≡ false → OccupiedAt t f x l

    at-start : (l : Lane) → Live R P (block_code t f b behind) l → OccupiedAt t f (Start b.number) l
    at-start l h = subst (λ p. Live R P p l) (sym found-here) h

    end-clear : (x : Point) → LiveTo x tail → NoClashAt R P (image t rs) (block_end t f b behind) (blocks_code (point_item t f) t f behind)
    end-clear x h =
        by-points (block_end t f b behind) (blocks_code (point_item t f) t f behind) x x
        (λ l o. h l (end-entry R P _ _ (blocks_code (point_item t f) t f behind) l o) o.1)
        (λ l o. h l (end-exit R P _ _ (blocks_code (point_item t f) t f behind) l o) o.1)

    items-clear : (front is : List Instr) → front ++ is ≡ b.instrs → (x : Point) → LiveTo x (map (point_item t f b) is ++ tail) → NoClash R P (image t rs) (blocks_code (point_item t f) t f behind) → NoClash R P (image t rs) (map (point_item t f b) is ++ tail)
    items-clear front [] e x h rest = (end-clear x h, rest)
    items-clear front (i ∷ is) e x h rest =
        let p = map (point_item t f b) is ++ tail in
        let code : from_instr t f i.id f.blocks ≡ point_item t f b i ∷ p = code-at t f low.function pre b behind whole front i is e in
        let entry : (l : Lane) → OccupiedBefore R P (point_item t f b i) p l → OccupiedAt t f (Entry i.id) l = λ l o. subst (AtFirst (λ y q. OccupiedBefore R P y q l)) (sym code) o in
        let exit : (l : Lane) → OccupiedAfter R P (point_item t f b i) p l → OccupiedAt t f (Exit i.id) l = λ l o. subst (AtFirst (λ y q. OccupiedAfter R P y q l)) (sym code) o in (
          by-points (point_item t f b i) p (Entry i.id) (Exit i.id) entry exit,
          items-clear (front ++ i ∷ []) is (append_assoc front (i ∷ []) is ∙ e) (Exit i.id) (λ l k free. exit l (inl (after_next (goes-on t f b i) k), free)) rest,
        )

    block-clear : NoClash R P (image t rs) (blocks_code (point_item t f) t f behind) → NoClash R P (image t rs) (blocks_code (point_item t f) t f (b ∷ behind))
    block-clear rest =
        let p = block_code t f b behind in (
          by-points (BlockStart b.number) p (Start b.number) (Start b.number) (λ l o. at-start l (start-entry R P b.number p l o)) (λ l o. at-start l (start-exit R P b.number p l o)),
          items-clear [] b.instrs refl (Start b.number) (λ l k free. at-start l k) rest,
        )

  blocks-clear : (pre bs : List Block) → pre ++ bs ≡ f.blocks → NoClash R P (image t rs) (blocks_code (point_item t f) t f bs)
  blocks-clear pre [] e = tt
  blocks-clear pre (b ∷ bs) e = block-clear pre b bs e (blocks-clear (pre ++ b ∷ []) bs (append_assoc pre (b ∷ []) bs ∙ e))

  pub no-clash : NoClash R P (image t rs) P
  no-clash = subst (NoClash R P (image t rs)) (sym points-are) (blocks-clear [] f.blocks refl)
