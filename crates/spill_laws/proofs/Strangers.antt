-- An instruction that doesn't name the range is a bystander.
use Rattle.std.proofs.Common.{◌≡◌, ◌∷◌, inl, inr, ◌∙◌, ◌&&◌, ℕ, Bool, true, false, cond, List, Option, Some, None, length, map, refl, sym, ap, subst, eq-eqb, []}
use Rattle.std.specs.Prelude.{nat_eq}
use Rattle.target_base.specs.declared.types.IndexId.{IndexId}
use Rattle.target_base.specs.declared.types.Target.{Target}
use Rattle.target_base.specs.declared.types.Unit.{Unit as UnitNumber}
use Rattle.target_base.specs.Registers.{lanes_of, units_of}
use Rattle.meaning.specs.Code.{BlockEnd, BlockStart, Code, Counted, Item, Silent}
use Rattle.meaning.specs.Lanes.{Reads, Writes}
use Rattle.meaning.specs.Live.{Among as Member, here as first, there as later, reads_of, writes_of}
use Rattle.meaning.specs.Matched.{image, image_fill, renamed, renamed_reads, renamed_write}
use Rattle.meaning.specs.declared.types.Fill.{Fill}
use Rattle.meaning.specs.declared.types.Fill.TheVariants.{Computed, Moved}
use Rattle.meaning.specs.declared.types.Lane.{Lane}
use Rattle.meaning.specs.declared.types.Lane.TheVariants.{SlotLane, UnitLane, VirtualLane}
use Rattle.meaning.specs.declared.types.Source.{Source}
use Rattle.meaning.specs.declared.types.Source.TheVariants.{FromLane}
use Rattle.meaning.specs.declared.types.Write.{Write}
use Rattle.mir_func.specs.declared.func.Loc.{Loc}
use Rattle.mir_func.specs.declared.func.Loc.TheVariants.{Fixed, Virtual}
use Rattle.mir_func.specs.declared.func.RegOp.{RegOp}
use Rattle.mir_func.specs.declared.func.Operand.{Operand}
use Rattle.mir_func.specs.declared.func.Operand.TheVariants as operands
use Rattle.mir_func.specs.declared.func.Instr.{Instr}
use Rattle.mir_func.specs.declared.func.Block.{Block}
use Rattle.mir_func.specs.Value.{Function}
use Rattle.mir_func.specs.Binding.{does, puts_together, registers}
use Rattle.mir_meaning.specs.Codes.{item_of}
use Rattle.mir_meaning.specs.Points.{is_range}
use Rattle.mir_meaning.specs.Registers.{located_lanes, numbers, range_widths, undefined_lanes, unit_lanes, whole_lanes}
use Rattle.mir_meaning.specs.Renaming.{RenamesAll, renamed_item}
use Rattle.mir_meaning.proofs.Renaming.{law_of_renaming}
use Rattle.instr_effects.proofs.Members.{member-elim, member-none}
use Rattle.lowering_laws.proofs.Classes.{AreNamed, instr-same, same-operand}
use Rattle.lowering_laws.proofs.Olds.{reads-are-old, writes-are-old}
use Rattle.lowering_laws.proofs.Traced.{is_lane_of}
use Rattle.spiller.specs.Setting.{Spilling, is_own}
use Rattle.spill_laws.specs.Standing.{IsBystander, IsInside, IsSite, StrangersPass, slot_lane}
use Rattle.spill_laws.proofs.SlotWrites.{not-written}

-- lanes of the range become a unit
abbrev aside : ℕ → Lane → Lane
aside v (VirtualLane w k) = cond (nat_eq v w) (UnitLane 0) (VirtualLane w k)
aside v (UnitLane u) = UnitLane u
aside v (SlotLane s k w) = SlotLane s k w

-- what stays isn't the range's
stays-other : (v : ℕ) (a : Lane) → aside v a ≡ a → is_lane_of v a ≡ false
stays-other v (UnitLane u) e = refl
stays-other v (SlotLane s k w) e = refl
stays-other v (VirtualLane w k) e = go (nat_eq v w) e
  where
    go : (y : Bool) → cond y (UnitLane 0) (VirtualLane w k) ≡ VirtualLane w k → y ≡ false
    go true h = absurd (cc)
    go false h = refl

source-stays : (v k : ℕ) (q : Source) → q ≡ image (aside v) q → q ≡ FromLane (VirtualLane v k) → ⊥
source-stays v k q e g =
    let z : FromLane (VirtualLane v k) ≡ FromLane (aside v (VirtualLane v k)) = sym g ∙ (e ∙ ap (image (aside v)) g) in
    let w : aside v (VirtualLane v k) ≡ UnitLane 0 = ap (λ y. cond y (UnitLane 0) (VirtualLane v k)) (eq-eqb v v refl) in
    no (z ∙ ap FromLane w)
  where
    no : FromLane (VirtualLane v k) ≡ FromLane (UnitLane 0) → ⊥
    no e = cc

write-stays : (v : ℕ) (ws : Writes) → ws ≡ renamed (aside v) ws → (w : Write) → Member w ws → (is_lane_of v w.lane ≡ false) × ((k : ℕ) → w.fill ≡ Moved (FromLane (VirtualLane v k)) → ⊥)
write-stays v [] e w m = absurd (member-none w m)
write-stays v (x ∷ ws) e w m = member-elim w x ws (λ q. subst (λ (y : Write). (is_lane_of v y.lane ≡ false) × ((k : ℕ) → y.fill ≡ Moved (FromLane (VirtualLane v k)) → ⊥)) (sym q) (one x (head x (renamed_write (aside v) x) ws (renamed (aside v) ws) e))) (λ k. write-stays v ws (tail x (renamed_write (aside v) x) ws (renamed (aside v) ws) e) w k) m
  where
    head : (a b : Write) (xs ys : Writes) → a ∷ xs ≡ b ∷ ys → a ≡ b
    head a b xs ys e = cc

    tail : (a b : Write) (xs ys : Writes) → a ∷ xs ≡ b ∷ ys → xs ≡ ys
    tail a b xs ys e = cc

    of-fill : (f : Fill) → f ≡ image_fill (aside v) f → (k : ℕ) → f ≡ Moved (FromLane (VirtualLane v k)) → ⊥
    of-fill (Moved q) e k g = source-stays v k q (inner q (image (aside v) q) e) (inner q (FromLane (VirtualLane v k)) g)
      where
        inner : (a b : Source) → Moved a ≡ Moved b → a ≡ b
        inner a b e = cc
    of-fill (Computed n) e k g = cc

    one : (y : Write) → y ≡ renamed_write (aside v) y → (is_lane_of v y.lane ≡ false) × ((k : ℕ) → y.fill ≡ Moved (FromLane (VirtualLane v k)) → ⊥)
    one y g = (stays-other v y.lane (sym (ap (λ (z : Write). z.lane) g)), of-fill y.fill (ap (λ (z : Write). z.fill) g))

read-stays : (v : ℕ) (reads : Reads) → reads ≡ renamed_reads (aside v) reads → (ss : List Source) (k : ℕ) → Member ss reads → Member (FromLane (VirtualLane v k)) ss → ⊥
read-stays v [] e ss k m n = member-none ss m
read-stays v (xs ∷ reads) e ss k m n = member-elim ss xs reads (λ q. inside xs (head xs (map (image (aside v)) xs) reads (renamed_reads (aside v) reads) e) (subst (Member (FromLane (VirtualLane v k))) q n)) (λ j. read-stays v reads (tail xs (map (image (aside v)) xs) reads (renamed_reads (aside v) reads) e) ss k j n) m
  where
    head : (a b : List Source) (xs ys : Reads) → a ∷ xs ≡ b ∷ ys → a ≡ b
    head a b xs ys e = cc

    tail : (a b : List Source) (xs ys : Reads) → a ∷ xs ≡ b ∷ ys → xs ≡ ys
    tail a b xs ys e = cc

    inside : (xs : List Source) → xs ≡ map (image (aside v)) xs → Member (FromLane (VirtualLane v k)) xs → ⊥
    inside [] e m = member-none (FromLane (VirtualLane v k)) m
    inside (x ∷ xs) e m = member-elim (FromLane (VirtualLane v k)) x xs (λ q. source-stays v k x (front x (image (aside v) x) xs (map (image (aside v)) xs) e) (sym q)) (λ j. inside xs (back x (image (aside v) x) xs (map (image (aside v)) xs) e) j) m
      where
        front : (a b : Source) (xs ys : List Source) → a ∷ xs ≡ b ∷ ys → a ≡ b
        front a b xs ys e = cc

        back : (a b : Source) (xs ys : List Source) → a ∷ xs ≡ b ∷ ys → xs ≡ ys
        back a b xs ys e = cc

module _ (t : Target) (f : Function) (v : ℕ) where
  range-stays : (w : ℕ) (ks : List ℕ) → nat_eq v w ≡ false → map (VirtualLane w) ks ≡ map (aside v) (map (VirtualLane w) ks)
  range-stays w [] h = refl
  range-stays w (k ∷ ks) h = λ i. cond (sym h i) (UnitLane 0) (VirtualLane w k) ∷ range-stays w ks h i

  units-stay : (us : List UnitNumber) → unit_lanes us ≡ map (aside v) (unit_lanes us)
  units-stay [] = refl
  units-stay (u ∷ us) = ap (λ q. UnitLane u.0 ∷ q) (units-stay us)

  lanes-stay : (l : Loc) (x : Option IndexId) → is_range v l ≡ false → located_lanes t f l x ≡ map (aside v) (located_lanes t f l x)
  lanes-stay (Virtual w) None h = range-stays w (numbers 0 (length (range_widths t f w))) h
  lanes-stay (Virtual w) (Some x) h = range-stays w (lanes_of t x) h
  lanes-stay (Fixed r) x h = units-stay (units_of t r)

  whole-stays : (l : Loc) → is_range v l ≡ false → whole_lanes t f l ≡ map (aside v) (whole_lanes t f l)
  whole-stays (Virtual w) h = lanes-stay (Virtual w) None h
  whole-stays (Fixed r) h = refl

  undefined-stay : (o : RegOp) → is_range v o.loc ≡ false → undefined_lanes t f o ≡ map (aside v) (undefined_lanes t f o)
  undefined-stay o h = go (o.def && o.undef)
    where
      go : (y : Bool) → cond y (whole_lanes t f o.loc) [] ≡ map (aside v) (cond y (whole_lanes t f o.loc) [])
      go true = whole-stays o.loc h
      go false = refl

  abbrev Strange : List Operand → Type 0
  Strange os = (o : RegOp) → Member o (registers os) → is_range v o.loc ≡ false

  renames-all : (os : List Operand) → AreNamed f os → Strange os → RenamesAll t f f (aside v) same-operand os
  renames-all [] n h = tt
  renames-all (operands.Reg o ∷ os) n h = (record { def = refl; implicit = refl; undef = refl; lanes = lanes-stay o.loc o.index (h o first); widths = refl; others = undefined-stay o (h o first); stays = λ e. refl; fixed = (n o first).fixed }, renames-all os (λ p m. n p (later m)) (λ p m. h p (later m)))
  renames-all (operands.Imm z ∷ os) n h = renames-all os n h
  renames-all (operands.Block z ∷ os) n h = renames-all os n h
  renames-all (operands.Stack z ∷ os) n h = renames-all os n h
  renames-all (operands.FixedStack z ∷ os) n h = renames-all os n h
  renames-all (operands.Symbol z ∷ os) n h = renames-all os n h
  renames-all (operands.Index z ∷ os) n h = renames-all os n h
  renames-all (operands.Mask z ∷ os) n h = renames-all os n h

  item-stays : (b : Block) (i : Instr) → does puts_together t i ≡ false → AreNamed f i.operands → Strange i.operands → item_of t f b i ≡ renamed_item (aside v) (item_of t f b i)
  item-stays b i e n h =
      ap (item_of t f b) (sym (instr-same i))
      ∙ law_of_renaming t f f (aside v) same-operand (record { units = λ u. refl; slots = λ s k w. refl }) b b (λ m. refl) refl i e (renames-all i.operands n h)

  writes-renamed : (x : Item) → writes_of (renamed_item (aside v) x) ≡ renamed (aside v) (writes_of x)
  writes-renamed (BlockStart k) = refl
  writes-renamed (BlockEnd falls exits) = refl
  writes-renamed (Silent reads ws) = refl
  writes-renamed (Counted r reads ws target exits) = refl

  reads-renamed : (x : Item) → reads_of (renamed_item (aside v) x) ≡ renamed_reads (aside v) (reads_of x)
  reads-renamed (BlockStart k) = refl
  reads-renamed (BlockEnd falls exits) = refl
  reads-renamed (Silent reads ws) = refl
  reads-renamed (Counted r reads ws target exits) = refl

-- An instruction that names the range nowhere, at its place.
module _ (s : Spilling) (b : Block) (i : Instr) (p : Code) (single : does puts_together s.target i ≡ false) (named : AreNamed s.func i.operands) (strange : (o : RegOp) → Member o (registers i.operands) → is_own s o ≡ false) (inside : IsInside (item_of s.target s.func b i)) (site : IsSite s i.id (item_of s.target s.func b i) p) where
  abbrev x : Item
  x = item_of s.target s.func b i

  same : x ≡ renamed_item (aside s.range) x
  same = item-stays s.target s.func s.range b i single named strange

  each-write : (w : Write) → Member w (writes_of x) → (is_lane_of s.range w.lane ≡ false) × ((k : ℕ) → w.fill ≡ Moved (FromLane (VirtualLane s.range k)) → ⊥)
  each-write w m = write-stays s.range (writes_of x) (ap writes_of same ∙ writes-renamed s.target s.func s.range x) w m

  pub stranger : IsBystander s x p
  stranger = record {
    leaves = record {
      inside = inside;
      gives = λ w k m e. (each-write w m).1 k e;
      writes = λ k. not-written (writes_of x) (VirtualLane s.range k) (λ w m e. let a = (each-write w m).0 in let q : is_lane_of s.range w.lane ≡ true = ap (is_lane_of s.range) e ∙ eq-eqb s.range s.range refl in cc);
      apart = λ k l. not-written (writes_of x) (slot_lane s k) (λ w m e. site.apart k k _ (inl l) (inr (w, m, e)));
      old = writes-are-old s.target s.func b i named;
    };
    reads = read-stays s.range (reads_of x) (ap reads_of same ∙ reads-renamed s.target s.func s.range x);
    old_reads = reads-are-old s.target s.func b i single named;
  }

pub strangers_pass : StrangersPass
strangers_pass s b i p single named strange inside site = stranger s b i p single named strange inside site
