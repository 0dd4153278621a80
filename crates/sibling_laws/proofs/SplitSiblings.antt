-- Splits keep siblings apart, where the parts have the range's original.
use Rattle.std.proofs.Common.{◌≡◌, ◌≢◌, ◌<◌, ◌+◌, ◌-◌, ◌⊎◌, inl, inr, ◌∙◌, ℕ, Bool, true, false, List, Some, length, replicate, refl, sym, ap, subst, arith, eqb-true}
use Rattle.std.specs.Prelude.{nat_eq, nat_lt}
use Rattle.std.proofs.lemmas.Bool.{eqb-false, ltb-false, ltb-true}
use Rattle.std.proofs.lemmas.List.{length-append, length-replicate}
use Rattle.target_base.specs.declared.types.Target.{Target}
use Rattle.meaning.specs.declared.types.Lane.TheVariants.{SlotLane, VirtualLane}
use Rattle.mir_func.specs.Value.{Function}
use Rattle.mir_func.specs.Binding.{class_of}
use Rattle.mir_meaning.specs.Points.{Point, RangePoint, Tests}
use Rattle.instr_effects.proofs.Members.{either-elim}
use Rattle.live_lanes.specs.declared.ask.labels.Mark.{Mark}
use Rattle.lowering_laws.specs.Shapes.{IsLowered}
use Rattle.spiller.specs.Slots.{Slots, original_of, slot_among, slot_of}
use Rattle.spill_laws.specs.Refined.{SlotApart}
use Rattle.split_kit.specs.Split.{RangeLive, greatest_label, part, split_by}
use Rattle.split_laws.specs.Laws.{LabelsAgree}
use Rattle.sibling_laws.specs.Siblings.{AreSiblingsApart, KnowsOriginals, SlotPoint}
use Rattle.sibling_laws.specs.Splits.{SplitKeepsSiblings, SplitPoint, with_parts}
use Rattle.sibling_laws.proofs.Originals.{get-replicate, original-further, original-in, original-old, same-of}
use Rattle.sibling_laws.proofs.SplitPoints.{split-shares-points}

module _ (t : Target) (f : Function) (v : ℕ) (ms : List Mark) (live : Point → Bool) (tests : Tests (RangeLive t f v) live) (low : IsLowered t f) (meet : LabelsAgree t f v ms) (is-range : v < length f.classes) (s : Slots) (knows : KnowsOriginals f s) where
  abbrev g : Function
  g = split_by live f v ms

  abbrev many : ℕ
  many = greatest_label ms + 1

  abbrev r : Slots
  r = with_parts s v many

  classes-are : length g.classes ≡ length f.classes + many
  unfolding split_by
  classes-are = length-append f.classes (replicate many (class_of f v)) ∙ ap (λ k. length f.classes + k) (length-replicate many (class_of f v))

  -- originals

  known : (w : ℕ) → w < length f.classes → w < length s.originals
  known w h = let e = knows.each in omega (arith, h, e)

  own-original : original_of s v < length f.classes
  own-original = knows.within (original_of s v) (original-in s v (known v is-range))

  original-stays : (w : ℕ) → w < length f.classes → original_of r w ≡ original_of s w
  original-stays w h = original-old s r (replicate many (original_of s v)) refl w (known w h)

  original-part : (k : ℕ) → k < many → original_of r (part f k) ≡ original_of s v
  original-part k h =
      subst (λ l. original_of r (l + k) ≡ original_of s v) knows.each
      (original-further s r (replicate many (original_of s v)) refl k (original_of s v) (get-replicate many (original_of s v) k h))

  parts-known : KnowsOriginals g r
  parts-known = record {
    each =
        length-append s.originals (replicate many (original_of s v))
        ∙ ((let a = length-replicate many (original_of s v) in let b = knows.each in omega (arith, a, b)) ∙ sym classes-are);
    within = λ o m. either-elim o s.originals (replicate many (original_of s v))
        (λ k. let a = knows.within o k in let b = classes-are in omega (arith, a, b))
        (λ k. let a = same-of many (original_of s v) o k in let b = classes-are in let c = own-original in omega (arith, a, b, c)) m;
    owners = λ x m. let a = knows.owners x m in let b = classes-are in omega (arith, a, b);
    once = λ x y mx my e. knows.once x y mx my e;
  }

  -- a range of the function, or a part

  abbrev OldOrPart : ℕ → Type 0
  OldOrPart w = (w < length f.classes) ⊎ ((k : ℕ) × (k < many) × (w ≡ part f k))

  old-or-part : (w : ℕ) → w < length g.classes → OldOrPart w
  old-or-part w h = go (nat_lt w (length f.classes)) refl
    where
      go : (b : Bool) → nat_lt w (length f.classes) ≡ b → OldOrPart w
      go true e = inl (ltb-true w (length f.classes) e)
      go false e = let low = ltb-false w (length f.classes) e in inr (w - length f.classes, (let c = classes-are in omega (arith, c, h, low)), omega (arith, low))

  was : (p : Point) → SplitPoint t f g v ms p
  was p = split-shares-points t f g v ms low is-range meet (live, tests, refl) p

  -- What a range at a point was: itself, and not the one that is split; or that one, where the range is its only part there.
  record Traced (w : ℕ) (p : Point) : Type 0 where
    pub range : ℕ
    pub within : range < length f.classes
    pub there : RangePoint t f range ((was p).at)
    pub original : original_of r w ≡ original_of s range
    pub either : ((range ≡ w) × (w ≡ v → ⊥)) ⊎ ((range ≡ v) × (w ≡ part f (was p).label))

  trace : (w : ℕ) → w < length g.classes → (p : Point) → RangePoint t g w p → Traced w p
  trace w h p z = go (old-or-part w h)
    where
      go : OldOrPart w → Traced w p
      go (inl x) = by (nat_eq w v) refl
        where
          by : (b : Bool) → nat_eq w v ≡ b → Traced w p
          by true e = absurd ((was p).gone (subst (λ u. RangePoint t g u p) (eqb-true w v e) z))
          by false e = record {
            range = w;
            within = x;
            there = (z.0, (was p).others (VirtualLane w z.0) (x, eqb-false w v e) z.1);
            original = original-stays w x;
            either = inl (refl, eqb-false w v e);
          }
      go (inr x) =
          let y = (was p).shared x.0 x.1 (subst (λ u. RangePoint t g u p) x.2 z) in
          record {
            range = v;
            within = is-range;
            there = y.0;
            original = ap (original_of r) x.2 ∙ original-part x.0 x.1;
            either = inr (refl, x.2 ∙ ap (part f) y.1);
          }

  slot-was : (m : ℕ) (p : Point) → SlotPoint t g m p → SlotPoint t f m ((was p).at)
  slot-was m p z = (z.0, z.1, (was p).others (SlotLane m z.0 z.1) tt z.2)

  module _ (apart : AreSiblingsApart t f s) where
    part-ranges : (a b : ℕ) → a < length g.classes → b < length g.classes → a ≢ b → original_of r a ≡ original_of r b → (p : Point) → RangePoint t g a p → RangePoint t g b p → ⊥
    part-ranges a b ha hb other same p pa pb = go (nat_eq x.range y.range) refl
      where
        x : Traced a p
        x = trace a ha p pa

        y : Traced b p
        y = trace b hb p pb

        one : x.range ≡ y.range → a ≡ b
        one e = by x.either y.either
          where
            by : ((x.range ≡ a) × (a ≡ v → ⊥)) ⊎ ((x.range ≡ v) × (a ≡ part f (was p).label)) → ((y.range ≡ b) × (b ≡ v → ⊥)) ⊎ ((y.range ≡ v) × (b ≡ part f (was p).label)) → a ≡ b
            by (inl c) (inl d) = sym c.0 ∙ (e ∙ d.0)
            by (inl c) (inr d) = absurd (c.1 (sym c.0 ∙ (e ∙ d.0)))
            by (inr c) (inl d) = absurd (d.1 (sym d.0 ∙ (sym e ∙ c.0)))
            by (inr c) (inr d) = c.1 ∙ sym d.1

        go : (q : Bool) → nat_eq x.range y.range ≡ q → ⊥
        go true e = other (one (eqb-true x.range y.range e))
        go false e = apart.ranges x.range y.range x.within y.within (eqb-false x.range y.range e) (sym x.original ∙ (same ∙ y.original)) ((was p).at) x.there y.there

    part-slots : (w m : ℕ) → w < length g.classes → slot_of r w ≡ Some m → SlotApart t g w m
    part-slots w m h e p k j u a b =
        let x = trace w h p (k, a) in
        let y = slot-was m p (j, u, b) in
        apart.slots x.range m x.within (ap (slot_among s.given) (sym x.original) ∙ e) ((was p).at) x.there.0 y.0 y.1 x.there.1 y.2

    parts-apart : AreSiblingsApart t g r
    parts-apart = record { ranges = part-ranges; slots = part-slots; given = λ m p z. apart.given m ((was p).at) (slot-was m p z) }

pub split-keeps-siblings : SplitKeepsSiblings
split-keeps-siblings t f g s v ms low h meet split knows apart =
    subst (λ q. KnowsOriginals q (with_parts s v (greatest_label ms + 1)) × AreSiblingsApart t q (with_parts s v (greatest_label ms + 1))) (sym split.2) (
      parts-known t f v ms split.0 split.1 low meet h s knows,
      parts-apart t f v ms split.0 split.1 low meet h s knows apart,
    )
