-- What instructions give to lanes stands in lanes of registers that have classes.
use Rattle.std.proofs.Common.{◌≡◌, ◌⊎◌, inl, inr, ◌∷◌, ◌++◌, ◌∙◌, ◌&&◌, ℕ, Bool, true, false, cond, List, Option, Some, None, map, length, refl, sym, ap, subst, []}
use Rattle.std.specs.Prelude.{is_some, nat_lt, slice_get}
use Rattle.std.proofs.lemmas.Bool.{lt-ltb}
use Rattle.std.proofs.lemmas.Option.{slice_get_within}
use Rattle.target_base.specs.declared.types.ClassId.{ClassId}
use Rattle.target_base.specs.declared.types.Effect.{Effect}
use Rattle.target_base.specs.declared.types.Effect.TheVariants as effects
use Rattle.target_base.specs.declared.types.IndexId.{IndexId}
use Rattle.target_base.specs.declared.types.Unit.{Unit as UnitNumber}
use Rattle.target_base.specs.declared.types.Target.{Target}
use Rattle.target_base.specs.Registers.{lanes_of, units_of}
use Rattle.meaning.specs.Code.{BlockEnd, BlockStart, Counted, Item, Silent}
use Rattle.meaning.specs.Lanes.{Reads, Writes, filled, same_lane, settled, through}
use Rattle.meaning.specs.Live.{Among, here, there, reads_of, writes_of}
use Rattle.meaning.specs.Matched.{image, image_fill, renamed, renamed_reads, renamed_write}
use Rattle.meaning.specs.Relations.{AlikeOperands, AlikeReads, Rel}
use Rattle.meaning.specs.declared.types.Fill.{Fill}
use Rattle.meaning.specs.declared.types.Fill.TheVariants.{Computed, Moved}
use Rattle.meaning.specs.declared.types.Lane.{Lane}
use Rattle.meaning.specs.declared.types.Lane.TheVariants.{SlotLane, UnitLane, VirtualLane}
use Rattle.meaning.specs.declared.types.Source.{Source}
use Rattle.meaning.specs.declared.types.Source.TheVariants.{Bits, FromLane, Undef}
use Rattle.meaning.specs.declared.types.Write.{Write}
use Rattle.mir_func.specs.declared.func.Loc.{Loc}
use Rattle.mir_func.specs.declared.func.Loc.TheVariants.{Fixed, Virtual}
use Rattle.mir_func.specs.declared.func.RegOp.{RegOp}
use Rattle.mir_func.specs.declared.func.Operand.{Operand}
use Rattle.mir_func.specs.declared.func.Operand.TheVariants as operands
use Rattle.mir_func.specs.declared.func.Instr.{Instr}
use Rattle.mir_func.specs.declared.func.Block.{Block}
use Rattle.mir_func.specs.Value.{Function}
use Rattle.mir_func.specs.Binding.{class_of, does, effect_of, passes, puts_together}
use Rattle.mir_meaning.specs.Registers.{located_lanes, numbers, operand_lanes, range_widths, undefined_lanes, unit_lanes, use_sources, whole_lanes}
use Rattle.mir_meaning.specs.Items.{inserted, moved, parts, sequenced, undefined}
use Rattle.mir_meaning.specs.Codes.{effect_item, item_of}
use Rattle.mir_meaning.specs.Renaming.{Renames, RenamesAll, renamed_item}
use Rattle.mir_meaning.specs.Rules.{has_class}
use Rattle.mir_meaning.proofs.Renaming.{law_of_renaming}
use Rattle.lowering_laws.proofs.Classes.{AreNamed, IsNamed, among-cases, instr-same, none-among, same-operand}

-- no lane of a register from number n on
abbrev pub is_old : ℕ → Lane → Bool
is_old n (VirtualLane v k) = nat_lt v n
is_old n (UnitLane u) = true
is_old n (SlotLane s k w) = true

abbrev pub old_source : ℕ → Source → Bool
old_source n (FromLane l) = is_old n l
old_source n Undef = true
old_source n (Bits c low width) = true

-- all that these writes give is old
abbrev pub AllOld : ℕ → Writes → Type 0
AllOld n [] = Unit {0}
AllOld n (w ∷ ws) = (old_source n (settled w.fill) ≡ true) × AllOld n ws

pub filled-old : (n : ℕ) (ws : Writes) → AllOld n ws → (l : Lane) → is_old n l ≡ true → old_source n (settled (filled ws l)) ≡ true
filled-old n [] h l e = e
filled-old n (w ∷ ws) h l e = go (same_lane w.lane l) (filled-old n ws h.1 l e)
  where
    go : (b : Bool) → old_source n (settled (filled ws l)) ≡ true → old_source n (settled (cond b w.fill (filled ws l))) ≡ true
    go true ih = h.0
    go false ih = ih

pub through-old : (n : ℕ) (ws : Writes) → AllOld n ws → (s : Source) → old_source n s ≡ true → old_source n (settled (through ws s)) ≡ true
through-old n ws h (FromLane l) e = filled-old n ws h l e
through-old n ws h Undef e = refl
through-old n ws h (Bits c low width) e = refl

pub old-append : (n : ℕ) (xs ys : Writes) → AllOld n xs → AllOld n ys → AllOld n (xs ++ ys)
old-append n [] ys h g = g
old-append n (w ∷ xs) ys h g = (h.0, old-append n xs ys h.1 g)

abbrev pub SourcesOld : ℕ → List Source → Type 0
SourcesOld n ss = (s : Source) → Among s ss → old_source n s ≡ true

pub old-moved : (n : ℕ) (early : Bool) (ls : List Lane) (ss : List Source) → SourcesOld n ss → AllOld n (moved early ls ss)
old-moved n early [] ss h = tt
old-moved n early (l ∷ ls) [] h = tt
old-moved n early (l ∷ ls) (s ∷ ss) h = (h s here, old-moved n early ls ss (λ q m. h q (there m)))

pub old-undefined : (n : ℕ) (early : Bool) (ls : List Lane) → AllOld n (undefined early ls)
old-undefined n early [] = tt
old-undefined n early (l ∷ ls) = (refl, old-undefined n early ls)

-- a register with a class is old

pub class-old : (f : Function) (v : ℕ) → is_some (class_of f v) ≡ true → nat_lt v (length f.classes) ≡ true
class-old f v h = go (slice_get f.classes v) refl h
  where
    go : (q : Option (Option ClassId)) → slice_get f.classes v ≡ q → is_some (elim q as (λ q. Option ClassId) [ None ↦ None | Some c ↦ c ]) ≡ true → nat_lt v (length f.classes) ≡ true
    go None e k = absurd (cc)
    go (Some c) e k = lt-ltb v (length f.classes) (slice_get_within f.classes v c e)

-- every other lane becomes a unit
abbrev pub gathered : ℕ → Lane → Lane
gathered n (VirtualLane v k) = cond (nat_lt v n) (VirtualLane v k) (UnitLane 0)
gathered n (UnitLane u) = UnitLane u
gathered n (SlotLane s k w) = SlotLane s k w

fixed-old : (n : ℕ) (x : Fill) → x ≡ image_fill (gathered n) x → old_source n (settled x) ≡ true
fixed-old n (Computed i) e = refl
fixed-old n (Moved Undef) e = refl
fixed-old n (Moved (Bits c low width)) e = refl
fixed-old n (Moved (FromLane (UnitLane u))) e = refl
fixed-old n (Moved (FromLane (SlotLane s k w))) e = refl
fixed-old n (Moved (FromLane (VirtualLane v k))) e = go (nat_lt v n) e
  where
    go : (b : Bool) → Moved (FromLane (VirtualLane v k)) ≡ Moved (FromLane (cond b (VirtualLane v k) (UnitLane 0))) → b ≡ true
    go true h = refl
    go false h = absurd (cc)

writes-old : (n : ℕ) (ws : Writes) → ws ≡ renamed (gathered n) ws → AllOld n ws
writes-old n [] e = tt
writes-old n (w ∷ ws) e = (fixed-old n w.fill (ap (λ x. x.fill) (head w (renamed_write (gathered n) w) ws (renamed (gathered n) ws) e)), writes-old n ws (tail w (renamed_write (gathered n) w) ws (renamed (gathered n) ws) e))
  where
    head : (a b : Write) (xs ys : Writes) → a ∷ xs ≡ b ∷ ys → a ≡ b
    head a b xs ys e = cc

    tail : (a b : Write) (xs ys : Writes) → a ∷ xs ≡ b ∷ ys → xs ≡ ys
    tail a b xs ys e = cc

-- all that is read is old
abbrev pub ReadsOld : ℕ → Reads → Type 0
ReadsOld n [] = Unit {0}
ReadsOld n (ss ∷ reads) = SourcesOld n ss × ReadsOld n reads

source-list-old : (n : ℕ) (ss : List Source) → ss ≡ map (image (gathered n)) ss → SourcesOld n ss
source-list-old n [] e s m = absurd (none-among s m)
source-list-old n (x ∷ ss) e s m = go (among-cases s x ss m) (λ k. source-list-old n ss (tail x (image (gathered n) x) ss (map (image (gathered n)) ss) e) s k)
  where
    head : (a b : Source) (xs ys : List Source) → a ∷ xs ≡ b ∷ ys → a ≡ b
    head a b xs ys e = cc

    tail : (a b : Source) (xs ys : List Source) → a ∷ xs ≡ b ∷ ys → xs ≡ ys
    tail a b xs ys e = cc

    go : (s ≡ x) ⊎ Among s ss → (Among s ss → old_source n s ≡ true) → old_source n s ≡ true
    go (inl q) ih = subst (λ z. old_source n z ≡ true) (sym q) (fixed-old n (Moved x) (ap Moved (head x (image (gathered n) x) ss (map (image (gathered n)) ss) e)))
    go (inr k) ih = ih k

reads-old : (n : ℕ) (reads : Reads) → reads ≡ renamed_reads (gathered n) reads → ReadsOld n reads
reads-old n [] e = tt
reads-old n (ss ∷ reads) e = (source-list-old n ss (head ss (map (image (gathered n)) ss) reads (renamed_reads (gathered n) reads) e), reads-old n reads (tail ss (map (image (gathered n)) ss) reads (renamed_reads (gathered n) reads) e))
  where
    head : (a b : List Source) (xs ys : Reads) → a ∷ xs ≡ b ∷ ys → a ≡ b
    head a b xs ys e = cc

    tail : (a b : List Source) (xs ys : Reads) → a ∷ xs ≡ b ∷ ys → xs ≡ ys
    tail a b xs ys e = cc

-- what is read is alike where each old source is related to itself

alike-sources : (n : ℕ) (R : Rel) (ss : List Source) → ((s : Source) → old_source n s ≡ true → R s s) → SourcesOld n ss → AlikeReads R ss ss
alike-sources n R [] r h = tt
alike-sources n R (s ∷ ss) r h = (r s (h s here), alike-sources n R ss r (λ q m. h q (there m)))

pub alike-operands : (n : ℕ) (R : Rel) (reads : Reads) → ((s : Source) → old_source n s ≡ true → R s s) → ReadsOld n reads → AlikeOperands R reads reads
alike-operands n R [] r h = tt
alike-operands n R (ss ∷ reads) r h = (alike-sources n R ss r h.0, alike-operands n R reads r h.1)

module _ (t : Target) (f : Function) where
  abbrev n : ℕ
  n = length f.classes

  range-stays : (v : ℕ) (ks : List ℕ) → nat_lt v n ≡ true → map (VirtualLane v) ks ≡ map (gathered n) (map (VirtualLane v) ks)
  range-stays v [] h = refl
  range-stays v (k ∷ ks) h = λ i. cond (sym h i) (VirtualLane v k) (UnitLane 0) ∷ range-stays v ks h i

  units-stay : (us : List UnitNumber) → unit_lanes us ≡ map (gathered n) (unit_lanes us)
  units-stay [] = refl
  units-stay (u ∷ us) = ap (λ q. UnitLane u.0 ∷ q) (units-stay us)

  lanes-gathered : (l : Loc) (x : Option IndexId) → has_class f l ≡ true → located_lanes t f l x ≡ map (gathered n) (located_lanes t f l x)
  lanes-gathered (Virtual v) None h = range-stays v (numbers 0 (length (range_widths t f v))) (class-old f v h)
  lanes-gathered (Virtual v) (Some x) h = range-stays v (lanes_of t x) (class-old f v h)
  lanes-gathered (Fixed r) x h = units-stay (units_of t r)

  whole-gathered : (l : Loc) → has_class f l ≡ true → whole_lanes t f l ≡ map (gathered n) (whole_lanes t f l)
  whole-gathered (Virtual v) h = lanes-gathered (Virtual v) None h
  whole-gathered (Fixed r) h = refl

  undefined-gathered : (o : RegOp) → has_class f o.loc ≡ true → undefined_lanes t f o ≡ map (gathered n) (undefined_lanes t f o)
  undefined-gathered o h = go (o.def && o.undef)
    where
      go : (b : Bool) → cond b (whole_lanes t f o.loc) [] ≡ map (gathered n) (cond b (whole_lanes t f o.loc) [])
      go true = whole-gathered o.loc h
      go false = refl

  renames : (o : RegOp) → IsNamed f o → Renames t f f (gathered n) same-operand o
  renames o h = record {
    def = refl;
    implicit = refl;
    undef = refl;
    lanes = lanes-gathered o.loc o.index h.class;
    widths = refl;
    others = undefined-gathered o h.class;
    stays = λ e. refl;
    fixed = h.fixed;
  }

  renames-all : (os : List Operand) → AreNamed f os → RenamesAll t f f (gathered n) same-operand os
  renames-all [] h = tt
  renames-all (operands.Reg o ∷ os) h = (renames o (h o here), renames-all os (λ p m. h p (there m)))
  renames-all (operands.Imm z ∷ os) h = renames-all os h
  renames-all (operands.Block z ∷ os) h = renames-all os h
  renames-all (operands.Stack z ∷ os) h = renames-all os h
  renames-all (operands.FixedStack z ∷ os) h = renames-all os h
  renames-all (operands.Symbol z ∷ os) h = renames-all os h
  renames-all (operands.Index z ∷ os) h = renames-all os h
  renames-all (operands.Mask z ∷ os) h = renames-all os h

  -- the sources of a use are old
  lane-old : (v k : ℕ) → gathered n (VirtualLane v k) ≡ VirtualLane v k → nat_lt v n ≡ true
  lane-old v k e = go (nat_lt v n) e
    where
      go : (b : Bool) → cond b (VirtualLane v k) (UnitLane 0) ≡ VirtualLane v k → b ≡ true
      go true h = refl
      go false h = absurd (cc)

  mapped-old : (undef : Bool) (ls : List Lane) → ls ≡ map (gathered n) ls → SourcesOld n (map (cond undef (λ l. Undef) FromLane) ls)
  mapped-old true ls e = all ls
    where
      all : (ls : List Lane) → SourcesOld n (map (λ (l : Lane). Undef) ls)
      all [] s m = absurd (none-among s m)
      all (l ∷ ls) s m = go (among-cases s Undef (map (λ (l : Lane). Undef) ls) m) (all ls s)
        where
          go : (s ≡ Undef) ⊎ Among s (map (λ (l : Lane). Undef) ls) → (Among s (map (λ (l : Lane). Undef) ls) → old_source n s ≡ true) → old_source n s ≡ true
          go (inl q) ih = ap (old_source n) q
          go (inr k) ih = ih k
  mapped-old false ls e = source-list-old n (map FromLane ls) (sources ls e)
    where
      head : (a b : Lane) (xs ys : List Lane) → a ∷ xs ≡ b ∷ ys → a ≡ b
      head a b xs ys e = cc

      tail : (a b : Lane) (xs ys : List Lane) → a ∷ xs ≡ b ∷ ys → xs ≡ ys
      tail a b xs ys e = cc

      sources : (ls : List Lane) → ls ≡ map (gathered n) ls → map FromLane ls ≡ map (image (gathered n)) (map FromLane ls)
      sources [] e = refl
      sources (l ∷ ls) e = λ i. FromLane (head l (gathered n l) ls (map (gathered n) ls) e i) ∷ sources ls (tail l (gathered n l) ls (map (gathered n) ls) e) i

  pub use-old : (o : RegOp) → has_class f o.loc ≡ true → SourcesOld n (use_sources t f o)
  use-old o h = mapped-old o.undef (operand_lanes t f o) (lanes-gathered o.loc o.index h)

  parts-old : (d : RegOp) (os : List Operand) → AreNamed f os → AllOld n (parts t f d os)
  parts-old d [] h = tt
  parts-old d (operands.Reg s ∷ operands.Index x ∷ os) h =
      old-append n (moved false (located_lanes t f d.loc (Some x)) (use_sources t f s)) (parts t f d os) (old-moved n false (located_lanes t f d.loc (Some x)) (use_sources t f s) (use-old s (h s here).class)) (parts-old d os (λ p m. h p (there m)))
  parts-old d os h = tt

  sequence-old : (os : List Operand) → AreNamed f os → AllOld n (sequenced t f os)
  sequence-old (operands.Reg d ∷ os) h = old-append n (parts t f d os) (undefined false (operand_lanes t f d)) (parts-old d os (λ p m. h p (there m))) (old-undefined n false (operand_lanes t f d))
  sequence-old os h = tt

  insertion-old : (os : List Operand) → AreNamed f os → AllOld n (inserted t f os)
  insertion-old (operands.Reg d ∷ operands.Reg a ∷ operands.Reg b ∷ operands.Index x ∷ os) h =
      old-append n (moved false (located_lanes t f d.loc (Some x)) (use_sources t f b)) (moved false (operand_lanes t f d) (use_sources t f a))
      (old-moved n false (located_lanes t f d.loc (Some x)) (use_sources t f b) (use-old b (h b (there (there here))).class))
      (old-moved n false (operand_lanes t f d) (use_sources t f a) (use-old a (h a (there here)).class))
  insertion-old os h = tt

  together-old : (b : Block) (i : Instr) (e : Effect) → puts_together e ≡ true → AreNamed f i.operands → AllOld n (writes_of (effect_item t f b i e))
  together-old b i effects.RegSequence p h = sequence-old i.operands h
  together-old b i effects.InsertSubreg p h = insertion-old i.operands h
  together-old b i e p h = absurd (cc)

  plain-same : (b : Block) (i : Instr) → does puts_together t i ≡ false → AreNamed f i.operands → item_of t f b i ≡ renamed_item (gathered n) (item_of t f b i)
  plain-same b i e h =
      ap (item_of t f b) (sym (instr-same i))
      ∙ law_of_renaming t f f (gathered n) same-operand (record { units = λ u. refl; slots = λ s k w. refl }) b b (λ m. refl) refl i e (renames-all i.operands h)

  renamed-writes : (x : Item) → writes_of (renamed_item (gathered n) x) ≡ renamed (gathered n) (writes_of x)
  renamed-writes (BlockStart k) = refl
  renamed-writes (BlockEnd falls exits) = refl
  renamed-writes (Silent reads ws) = refl
  renamed-writes (Counted r reads ws target exits) = refl

  renamed-readings : (x : Item) → reads_of (renamed_item (gathered n) x) ≡ renamed_reads (gathered n) (reads_of x)
  renamed-readings (BlockStart k) = refl
  renamed-readings (BlockEnd falls exits) = refl
  renamed-readings (Silent reads ws) = refl
  renamed-readings (Counted r reads ws target exits) = refl

  -- what an instruction gives is old
  pub writes-are-old : (b : Block) (i : Instr) → AreNamed f i.operands → AllOld n (writes_of (item_of t f b i))
  unfolding item_of
  writes-are-old b i h = go (does puts_together t i) refl
    where
      by : (q : Option Effect) → passes puts_together q ≡ true → AllOld n (writes_of (elim q as (λ o. Item) [ None ↦ Silent [] [] | Some e ↦ effect_item t f b i e ]))
      by None p = tt
      by (Some e) p = together-old b i e p h

      go : (y : Bool) → does puts_together t i ≡ y → AllOld n (writes_of (item_of t f b i))
      go true e = by (effect_of t i) e
      go false e = writes-old n (writes_of (item_of t f b i)) (ap writes_of (plain-same b i e h) ∙ renamed-writes (item_of t f b i))

  -- what it reads is old
  pub reads-are-old : (b : Block) (i : Instr) → does puts_together t i ≡ false → AreNamed f i.operands → ReadsOld n (reads_of (item_of t f b i))
  reads-are-old b i e h = reads-old n (reads_of (item_of t f b i)) (ap reads_of (plain-same b i e h) ∙ renamed-readings (item_of t f b i))
