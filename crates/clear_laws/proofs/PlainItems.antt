-- Instructions that don't name a range: their lanes are of other ranges of the function, units, or of slots.
use Rattle.std.proofs.Common.{◌≡◌, ◌<◌, ◌∷◌, ◌∙◌, ◌&&◌, not, ℕ, Bool, true, false, cond, List, Option, Some, None, length, map, refl, sym, ap, subst, eq-eqb, []}
use Rattle.std.proofs.lemmas.Bool.{ltb-true}
use Rattle.std.specs.Prelude.{is_some, nat_eq, nat_lt}
use Rattle.target_base.specs.declared.types.IndexId.{IndexId}
use Rattle.target_base.specs.declared.types.Target.{Target}
use Rattle.target_base.specs.declared.types.Unit.{Unit as UnitNumber}
use Rattle.target_base.specs.Registers.{lanes_of, units_of}
use Rattle.meaning.specs.Code.{BlockEnd, BlockStart, Counted, Item, Silent}
use Rattle.meaning.specs.Lanes.{Reads, Writes}
use Rattle.meaning.specs.Live.{Among as Member, here as first, there as later, reads_of, writes_of}
use Rattle.meaning.specs.Matched.{image, image_fill, renamed, renamed_reads, renamed_write}
use Rattle.meaning.specs.declared.types.Fill.{Fill}
use Rattle.meaning.specs.declared.types.Fill.TheVariants.{Computed, Moved}
use Rattle.meaning.specs.declared.types.Lane.{Lane}
use Rattle.meaning.specs.declared.types.Lane.TheVariants.{SlotLane, UnitLane, VirtualLane}
use Rattle.meaning.specs.declared.types.Source.{Source}
use Rattle.meaning.specs.declared.types.Source.TheVariants.{FromLane}
use Rattle.meaning.specs.declared.types.Write.{Write}
use Rattle.mir_func.specs.declared.func.Loc.{Loc}
use Rattle.mir_func.specs.declared.func.Loc.TheVariants.{Fixed, Virtual}
use Rattle.mir_func.specs.declared.func.RegOp.{RegOp}
use Rattle.mir_func.specs.declared.func.Operand.{Operand}
use Rattle.mir_func.specs.declared.func.Operand.TheVariants as operands
use Rattle.mir_func.specs.declared.func.Instr.{Instr}
use Rattle.mir_func.specs.declared.func.Block.{Block}
use Rattle.mir_func.specs.Value.{Function}
use Rattle.mir_func.specs.Binding.{class_of, does, puts_together, registers}
use Rattle.mir_meaning.specs.Codes.{item_of, way, ways_out}
use Rattle.mir_meaning.specs.Points.{is_range}
use Rattle.mir_meaning.specs.Registers.{located_lanes, numbers, range_widths, undefined_lanes, unit_lanes, whole_lanes}
use Rattle.mir_meaning.specs.Renaming.{RenamesAll, renamed_item}
use Rattle.mir_meaning.specs.Rules.{has_class}
use Rattle.mir_meaning.proofs.Renaming.{law_of_renaming}
use Rattle.instr_effects.proofs.Members.{member-elim, member-none}
use Rattle.lowering_laws.proofs.Classes.{AreNamed, instr-same, item-same, lanes-same, same-lane, same-operand}
use Rattle.lowering_laws.proofs.Olds.{class-old}
use Rattle.lowering_laws.proofs.RulesStay.{lanes, widths}
use Rattle.clear_laws.proofs.PlaceBounds.{PlainLane}

-- lanes of the range, and of further ones, become a unit
abbrev plain_only : ℕ → ℕ → Lane → Lane
plain_only n v (VirtualLane w k) = cond (nat_lt w n && not (nat_eq v w)) (VirtualLane w k) (UnitLane 0)
plain_only n v (UnitLane u) = UnitLane u
plain_only n v (SlotLane s k w) = SlotLane s k w

module _ (n v slot : ℕ) where
  stays-plain : (a : Lane) → plain_only n v a ≡ a → PlainLane n v slot a
  stays-plain (UnitLane u) e = tt
  stays-plain (SlotLane s k w) e = tt
  stays-plain (VirtualLane w k) e = go (nat_lt w n) (nat_eq v w) refl refl e
    where
      go : (x y : Bool) → nat_lt w n ≡ x → nat_eq v w ≡ y → cond (x && not y) (VirtualLane w k) (UnitLane 0) ≡ VirtualLane w k → (w < n) × (w ≡ v → ⊥)
      go true false p q e = (ltb-true w n p, λ s. (let z : nat_eq v w ≡ true = eq-eqb v w (sym s) in cc))
      go true true p q e = absurd (cc)
      go false y p q e = absurd (cc)

  source-plain : (q : Source) (a : Lane) → q ≡ image (plain_only n v) q → q ≡ FromLane a → PlainLane n v slot a
  source-plain q a e g = stays-plain a (sym (inner a (plain_only n v a) (sym g ∙ (e ∙ ap (image (plain_only n v)) g))))
    where
      inner : (a b : Lane) → FromLane a ≡ FromLane b → a ≡ b
      inner a b e = cc

  fill-plain : (f : Fill) (a : Lane) → f ≡ image_fill (plain_only n v) f → f ≡ Moved (FromLane a) → PlainLane n v slot a
  fill-plain (Moved q) a e g = source-plain q a (inner q (image (plain_only n v) q) e) (inner q (FromLane a) g)
    where
      inner : (a b : Source) → Moved a ≡ Moved b → a ≡ b
      inner a b e = cc
  fill-plain (Computed k) a e g = absurd (cc)

  head-write : (a b : Write) (xs ys : Writes) → a ∷ xs ≡ b ∷ ys → (a ≡ b) × (xs ≡ ys)
  head-write a b xs ys e = (cc, cc)

  write-plain : (ws : Writes) → ws ≡ renamed (plain_only n v) ws → (w : Write) → Member w ws → PlainLane n v slot w.lane × ((a : Lane) → w.fill ≡ Moved (FromLane a) → PlainLane n v slot a)
  write-plain [] e w m = absurd (member-none w m)
  write-plain (x ∷ ws) e w m =
      let z = head-write x (renamed_write (plain_only n v) x) ws (renamed (plain_only n v) ws) e in
      member-elim w x ws (λ q. subst (λ (y : Write). PlainLane n v slot y.lane × ((a : Lane) → y.fill ≡ Moved (FromLane a) → PlainLane n v slot a)) (sym q) (one x z.0)) (λ k. write-plain ws z.1 w k) m
    where
      one : (y : Write) → y ≡ renamed_write (plain_only n v) y → PlainLane n v slot y.lane × ((a : Lane) → y.fill ≡ Moved (FromLane a) → PlainLane n v slot a)
      one y g = (stays-plain y.lane (sym (ap (λ (z : Write). z.lane) g)), λ a h. fill-plain y.fill a (ap (λ (z : Write). z.fill) g) h)

  head-read : (a b : List Source) (xs ys : Reads) → a ∷ xs ≡ b ∷ ys → (a ≡ b) × (xs ≡ ys)
  head-read a b xs ys e = (cc, cc)

  head-source : (a b : Source) (xs ys : List Source) → a ∷ xs ≡ b ∷ ys → (a ≡ b) × (xs ≡ ys)
  head-source a b xs ys e = (cc, cc)

  sources-plain : (xs : List Source) → xs ≡ map (image (plain_only n v)) xs → (a : Lane) → Member (FromLane a) xs → PlainLane n v slot a
  sources-plain [] e a m = absurd (member-none (FromLane a) m)
  sources-plain (x ∷ xs) e a m =
      let z = head-source x (image (plain_only n v) x) xs (map (image (plain_only n v)) xs) e in
      member-elim (FromLane a) x xs (λ q. source-plain x a z.0 (sym q)) (λ k. sources-plain xs z.1 a k) m

  read-plain : (reads : Reads) → reads ≡ renamed_reads (plain_only n v) reads → (ss : List Source) (a : Lane) → Member ss reads → Member (FromLane a) ss → PlainLane n v slot a
  read-plain [] e ss a m k = absurd (member-none ss m)
  read-plain (xs ∷ reads) e ss a m k =
      let z = head-read xs (map (image (plain_only n v)) xs) reads (renamed_reads (plain_only n v) reads) e in
      member-elim ss xs reads (λ q. sources-plain xs z.0 a (subst (Member (FromLane a)) q k)) (λ j. read-plain reads z.1 ss a j k) m

module _ (t : Target) (f : Function) (v : ℕ) where
  abbrev only : Lane → Lane
  only = plain_only (length f.classes) v

  range-stays : (w : ℕ) (ks : List ℕ) → nat_lt w (length f.classes) ≡ true → nat_eq v w ≡ false → map (VirtualLane w) ks ≡ map only (map (VirtualLane w) ks)
  range-stays w [] g h = refl
  range-stays w (k ∷ ks) g h = λ i. cond (sym g i && not (sym h i)) (VirtualLane w k) (UnitLane 0) ∷ range-stays w ks g h i

  units-stay : (us : List UnitNumber) → unit_lanes us ≡ map only (unit_lanes us)
  units-stay [] = refl
  units-stay (u ∷ us) = ap (λ q. UnitLane u.0 ∷ q) (units-stay us)

  lanes-stay : (l : Loc) (x : Option IndexId) → is_range v l ≡ false → has_class f l ≡ true → located_lanes t f l x ≡ map only (located_lanes t f l x)
  lanes-stay (Virtual w) None h c = range-stays w (numbers 0 (length (range_widths t f w))) (class-old f w c) h
  lanes-stay (Virtual w) (Some x) h c = range-stays w (lanes_of t x) (class-old f w c) h
  lanes-stay (Fixed r) x h c = units-stay (units_of t r)

  whole-stays : (l : Loc) → is_range v l ≡ false → has_class f l ≡ true → whole_lanes t f l ≡ map only (whole_lanes t f l)
  whole-stays (Virtual w) h c = lanes-stay (Virtual w) None h c
  whole-stays (Fixed r) h c = refl

  undefined-stay : (o : RegOp) → is_range v o.loc ≡ false → has_class f o.loc ≡ true → undefined_lanes t f o ≡ map only (undefined_lanes t f o)
  undefined-stay o h c = go (o.def && o.undef)
    where
      go : (y : Bool) → cond y (whole_lanes t f o.loc) [] ≡ map only (cond y (whole_lanes t f o.loc) [])
      go true = whole-stays o.loc h c
      go false = refl

  abbrev pub Strange : List Operand → Type 0
  Strange os = (o : RegOp) → Member o (registers os) → is_range v o.loc ≡ false

  renames-plain : (os : List Operand) → AreNamed f os → Strange os → RenamesAll t f f only same-operand os
  renames-plain [] n h = tt
  renames-plain (operands.Reg o ∷ os) n h = (
    record {
      def = refl;
      implicit = refl;
      undef = refl;
      lanes = lanes-stay o.loc o.index (h o first) (n o first).class;
      widths = refl;
      others = undefined-stay o (h o first) (n o first).class;
      stays = λ e. refl;
      fixed = (n o first).fixed;
    },
    renames-plain os (λ p m. n p (later m)) (λ p m. h p (later m)),
  )
  renames-plain (operands.Imm z ∷ os) n h = renames-plain os n h
  renames-plain (operands.Block z ∷ os) n h = renames-plain os n h
  renames-plain (operands.Stack z ∷ os) n h = renames-plain os n h
  renames-plain (operands.FixedStack z ∷ os) n h = renames-plain os n h
  renames-plain (operands.Symbol z ∷ os) n h = renames-plain os n h
  renames-plain (operands.Index z ∷ os) n h = renames-plain os n h
  renames-plain (operands.Mask z ∷ os) n h = renames-plain os n h

  module _ (b : Block) (i : Instr) (single : does puts_together t i ≡ false) (named : AreNamed f i.operands) (strange : Strange i.operands) where
    abbrev x : Item
    x = item_of t f b i

    plain-item : x ≡ renamed_item only x
    plain-item =
        ap (item_of t f b) (sym (instr-same i))
        ∙ law_of_renaming t f f only same-operand (record { units = λ u. refl; slots = λ s k w. refl }) b b (λ m. refl) refl i single (renames-plain i.operands named strange)

    writes-renamed : (y : Item) → writes_of (renamed_item only y) ≡ renamed only (writes_of y)
    writes-renamed (BlockStart k) = refl
    writes-renamed (BlockEnd falls exits) = refl
    writes-renamed (Silent reads ws) = refl
    writes-renamed (Counted r reads ws target exits) = refl

    reads-renamed : (y : Item) → reads_of (renamed_item only y) ≡ renamed_reads only (reads_of y)
    reads-renamed (BlockStart k) = refl
    reads-renamed (BlockEnd falls exits) = refl
    reads-renamed (Silent reads ws) = refl
    reads-renamed (Counted r reads ws target exits) = refl

    -- what it writes, and what it moves there
    pub strange-write : (slot : ℕ) (w : Write) → Member w (writes_of x) → PlainLane (length f.classes) v slot w.lane × ((a : Lane) → w.fill ≡ Moved (FromLane a) → PlainLane (length f.classes) v slot a)
    strange-write slot w m = write-plain (length f.classes) v slot (writes_of x) (ap writes_of plain-item ∙ writes-renamed x) w m

    pub strange-read : (slot : ℕ) (ss : List Source) (a : Lane) → Member ss (reads_of x) → Member (FromLane a) ss → PlainLane (length f.classes) v slot a
    strange-read slot ss a m k = read-plain (length f.classes) v slot (reads_of x) (ap reads_of plain-item ∙ reads-renamed x) ss a m k

-- An instruction whose registers have their classes is the same item in a function with these classes, where the ways out of its
-- block are the same.
module _ (t : Target) (f g : Function) (stay : (w : ℕ) → is_some (class_of f w) ≡ true → class_of g w ≡ class_of f w) where
  undefined-same : (o : RegOp) → has_class f o.loc ≡ true → undefined_lanes t g o ≡ undefined_lanes t f o
  undefined-same o c = ap (λ ls. cond (o.def && o.undef) ls []) (go o.loc c)
    where
      go : (l : Loc) → has_class f l ≡ true → whole_lanes t g l ≡ whole_lanes t f l
      go (Virtual w) c = lanes t f g stay (Virtual w) None c
      go (Fixed r) c = refl

  renames-same : (os : List Operand) → AreNamed f os → RenamesAll t f g same-lane same-operand os
  renames-same [] n = tt
  renames-same (operands.Reg o ∷ os) n = (
    record {
      def = refl;
      implicit = refl;
      undef = refl;
      lanes = lanes t f g stay o.loc o.index (n o first).class ∙ sym (lanes-same (located_lanes t f o.loc o.index));
      widths = widths t f g stay o.loc o.index (n o first).class;
      others = undefined-same o (n o first).class ∙ sym (lanes-same (undefined_lanes t f o));
      stays = λ e. refl;
      fixed = (n o first).fixed;
    },
    renames-same os (λ p m. n p (later m)),
  )
  renames-same (operands.Imm z ∷ os) n = renames-same os n
  renames-same (operands.Block z ∷ os) n = renames-same os n
  renames-same (operands.Stack z ∷ os) n = renames-same os n
  renames-same (operands.FixedStack z ∷ os) n = renames-same os n
  renames-same (operands.Symbol z ∷ os) n = renames-same os n
  renames-same (operands.Index z ∷ os) n = renames-same os n
  renames-same (operands.Mask z ∷ os) n = renames-same os n

  pub same-item : (b d : Block) → ((n : ℕ) → way t g d.number n ≡ way t f b.number n) → ways_out t g d ≡ ways_out t f b → (i : Instr) → does puts_together t i ≡ false → AreNamed f i.operands → item_of t g d i ≡ item_of t f b i
  same-item b d ways outs i single named =
      ap (item_of t g d) (sym (instr-same i))
      ∙ (law_of_renaming t f g same-lane same-operand (record { units = λ u. refl; slots = λ s k w. refl }) b d ways outs i single (renames-same i.operands named)
      ∙ item-same (item_of t f b i))
