-- A range that no instruction names is live at no start of a block.
use Rattle.std.proofs.Common.{◌≡◌, ◌++◌, ◌&&◌, ℕ, Bool, true, false, cond, List, [], ◌∷◌, Option, Some, None, map, length, refl, sym, ap, ◌∙◌, subst, eq-eqb}
use Rattle.std.specs.Prelude.{nat_eq}
use Rattle.target_base.specs.declared.types.IndexId.{IndexId}
use Rattle.target_base.specs.declared.types.Target.{Target}
use Rattle.target_base.specs.declared.types.Unit.{Unit as UnitNumber}
use Rattle.target_base.specs.Registers.{lanes_of, units_of}
use Rattle.meaning.specs.Code.{BlockEnd, BlockStart, Code, Counted, Item, Silent, found}
use Rattle.meaning.specs.Lanes.{Reads, Writes}
use Rattle.meaning.specs.Layout.{NoPhis, NoPhisAlong}
use Rattle.meaning.specs.Live.{Among as Member, here as first, there as later, Live, exits_of, reads_of, writes_of}
use Rattle.meaning.specs.Matched.{image, image_fill, renamed, renamed_reads, renamed_write}
use Rattle.meaning.specs.declared.types.Fill.{Fill}
use Rattle.meaning.specs.declared.types.Fill.TheVariants.{Computed, Moved}
use Rattle.meaning.specs.declared.types.Lane.{Lane}
use Rattle.meaning.specs.declared.types.Lane.TheVariants.{SlotLane, UnitLane, VirtualLane}
use Rattle.meaning.specs.declared.types.Source.{Source}
use Rattle.meaning.specs.declared.types.Source.TheVariants.{Bits, FromLane, Undef}
use Rattle.meaning.specs.declared.types.Write.{Write}
use Rattle.mir_func.specs.declared.func.Loc.{Loc}
use Rattle.mir_func.specs.declared.func.Loc.TheVariants.{Fixed, Virtual}
use Rattle.mir_func.specs.declared.func.RegOp.{RegOp}
use Rattle.mir_func.specs.declared.func.Operand.{Operand}
use Rattle.mir_func.specs.declared.func.Operand.TheVariants as operands
use Rattle.mir_func.specs.declared.func.Instr.{Instr}
use Rattle.mir_func.specs.declared.func.Block.{Block}
use Rattle.mir_func.specs.Value.{Function}
use Rattle.mir_func.specs.Binding.{registers}
use Rattle.mir_meaning.specs.Codes.{block_end, blocks_code, code_of, item_of}
use Rattle.mir_meaning.specs.Points.{LiveAt, Start, has_no_phis, is_range}
use Rattle.mir_meaning.specs.Registers.{is_reserved, located_lanes, numbers, range_widths, unit_lanes, whole_lanes}
use Rattle.mir_meaning.specs.Renaming.{IsFixed, Renames, RenamesAll, renamed_instr, renamed_item, renamed_operand}
use Rattle.mir_meaning.proofs.Points.{points_are_code}
use Rattle.mir_meaning.proofs.Renaming.{law_of_renaming}
use Rattle.instr_effects.proofs.Members.{map-of, member-elim, member-none}
use Rattle.lowering_laws.specs.Shapes.{IsLowered}
use Rattle.rewrite_laws.proofs.Bare.{all-without-phis, bare-blocks}
use Rattle.split_laws.proofs.Renamed.{reads-of, writes-of}
use Rattle.split_laws.proofs.Splitting.{not-phi, suits}
use Rattle.split_laws.proofs.Suits.{Suits}
use Rattle.split_laws.proofs.Within.{AllKeep, Keeps, found-keep, live-keeps}

-- lanes that a renamed item reads or gives are images

lane-of : (s : Source) (m : Lane → Lane) (l : Lane) → FromLane l ≡ image m s → (a : Lane) × (m a ≡ l)
lane-of (FromLane a) m l e = (a, one a e)
  where
    one : (a : Lane) → FromLane l ≡ FromLane (m a) → m a ≡ l
    one a g = cc
lane-of Undef m l e = absurd (cc)
lane-of (Bits c low w) m l e = absurd (cc)

fill-of : (x : Fill) (m : Lane → Lane) (l : Lane) → image_fill m x ≡ Moved (FromLane l) → (a : Lane) × (m a ≡ l)
fill-of (Moved s) m l e = lane-of s m l (one (image m s) e)
  where
    one : (s : Source) → Moved s ≡ Moved (FromLane l) → FromLane l ≡ s
    one s g = cc
fill-of (Computed n) m l e = absurd (cc)

read-image : (m : Lane → Lane) (reads : Reads) (ss : List Source) (l : Lane) → Member ss (renamed_reads m reads) → Member (FromLane l) ss → (a : Lane) × (m a ≡ l)
read-image m [] ss l x y = absurd (member-none ss x)
read-image m (rs ∷ reads) ss l x y =
    member-elim ss (map (image m) rs) (renamed_reads m reads)
    (λ e. let z = map-of (image m) (FromLane l) rs (subst (Member (FromLane l)) e y) in lane-of z.0 m l z.2)
    (λ k. read-image m reads ss l k y) x

write-image : (m : Lane → Lane) (ws : Writes) (w : Write) (l : Lane) → Member w (renamed m ws) → w.fill ≡ Moved (FromLane l) → (a : Lane) × (m a ≡ l)
write-image m [] w l x e = absurd (member-none w x)
write-image m (u ∷ ws) w l x e =
    member-elim w (renamed_write m u) (renamed m ws)
    (λ g. fill-of u.fill m l (sym (ap (λ (y : Write). y.fill) g) ∙ e))
    (λ k. write-image m ws w l k e) x

operand-same : (o : Operand) → renamed_operand (λ p. p) o ≡ o
operand-same (operands.Reg o) = refl
operand-same o = refl

operands-same : (os : List Operand) → map (renamed_operand (λ p. p)) os ≡ os
operands-same [] = refl
operands-same (o ∷ os) = λ i. operand-same o i ∷ operands-same os i

instr-same : (i : Instr) → renamed_instr (λ p. p) i ≡ i
instr-same i = λ k. record i { operands = operands-same i.operands k }

-- ways out of an item have no phis, and what follows has none
bare-of : (i : Item) (p : Code) → NoPhis (i ∷ p) → NoPhisAlong (exits_of i) × NoPhis p
bare-of (BlockStart n) p z = (tt, z)
bare-of (BlockEnd falls exits) p z = (z.1, z.2)
bare-of (Silent reads ws) p z = (tt, z)
bare-of (Counted r reads ws target exits) p z = (z.1, z.2)

module _ (w : ℕ) where
  -- the lane isn't of the range
  abbrev IsNot : Lane → Type 0
  IsNot (VirtualLane x k) = nat_eq w x ≡ false
  IsNot (UnitLane u) = Unit {0}
  IsNot (SlotLane s k x) = Unit {0}

  -- lanes of the range go to a unit
  abbrev aside : Lane → Lane
  aside (VirtualLane x k) = cond (nat_eq w x) (UnitLane 0) (VirtualLane x k)
  aside (UnitLane u) = UnitLane u
  aside (SlotLane s k x) = SlotLane s k x

  aside-not : (l : Lane) → IsNot (aside l)
  aside-not (VirtualLane x k) = go (nat_eq w x) refl
    where
      go : (b : Bool) → nat_eq w x ≡ b → IsNot (cond b (UnitLane 0) (VirtualLane x k))
      go true e = tt
      go false e = e
  aside-not (UnitLane u) = tt
  aside-not (SlotLane s k x) = tt

  stays-all : (x : ℕ) → nat_eq w x ≡ false → (ks : List ℕ) → map (VirtualLane x) ks ≡ map aside (map (VirtualLane x) ks)
  stays-all x e [] = refl
  stays-all x e (k ∷ ks) = λ i. cond (sym e i) (UnitLane 0) (VirtualLane x k) ∷ stays-all x e ks i

  units-stay : (us : List UnitNumber) → unit_lanes us ≡ map aside (unit_lanes us)
  units-stay [] = refl
  units-stay (u ∷ us) = ap (λ ls. UnitLane u.0 ∷ ls) (units-stay us)

  -- no instruction names the range
  abbrev pub IsUnnamed : Function → Type 0
  IsUnnamed f = (b : Block) (i : Instr) (o : RegOp) → Member b f.blocks → Member i b.instrs → Member o (registers i.operands) → is_range w o.loc ≡ false

  module _ (t : Target) (f : Function) where
    lanes-stay : (l : Loc) (q : Option IndexId) → is_range w l ≡ false → located_lanes t f l q ≡ map aside (located_lanes t f l q)
    lanes-stay (Virtual x) None e = stays-all x e (numbers 0 (length (range_widths t f x)))
    lanes-stay (Virtual x) (Some y) e = stays-all x e (lanes_of t y)
    lanes-stay (Fixed r) q e = units-stay (units_of t r)

    whole-stays : (l : Loc) → is_range w l ≡ false → whole_lanes t f l ≡ map aside (whole_lanes t f l)
    whole-stays (Virtual x) e = lanes-stay (Virtual x) None e
    whole-stays (Fixed r) e = refl

    chosen : (b : Bool) (ls : List Lane) → ls ≡ map aside ls → cond b ls [] ≡ map aside (cond b ls [])
    chosen true ls e = e
    chosen false ls e = refl

    renames : (o : RegOp) → is_range w o.loc ≡ false → (o.implicit ≡ true → IsFixed o.loc) → Renames t f f aside (λ p. p) o
    renames o e fixed = record {
      def = refl;
      implicit = refl;
      undef = refl;
      lanes = lanes-stay o.loc o.index e;
      widths = refl;
      others = chosen (o.def && o.undef) (whole_lanes t f o.loc) (whole-stays o.loc e);
      stays = λ e. refl;
      fixed = fixed;
    }

    renames-all : (os : List Operand) → ((o : RegOp) → Member o (registers os) → is_range w o.loc ≡ false) → ((o : RegOp) → Member o (registers os) → o.implicit ≡ true → IsFixed o.loc) → RenamesAll t f f aside (λ p. p) os
    renames-all [] n x = tt
    renames-all (operands.Reg o ∷ os) n x = (renames o (n o first) (x o first), renames-all os (λ p m. n p (later m)) (λ p m. x p (later m)))
    renames-all (operands.Imm z ∷ os) n x = renames-all os n x
    renames-all (operands.Block z ∷ os) n x = renames-all os n x
    renames-all (operands.Stack z ∷ os) n x = renames-all os n x
    renames-all (operands.FixedStack z ∷ os) n x = renames-all os n x
    renames-all (operands.Symbol z ∷ os) n x = renames-all os n x
    renames-all (operands.Index z ∷ os) n x = renames-all os n x
    renames-all (operands.Mask z ∷ os) n x = renames-all os n x

    module _ (low : IsLowered t f) (unnamed : IsUnnamed f) where
      suit : Suits t f
      suit = suits t f low

      itself : (b : Block) (i : Instr) → Member b f.blocks → Member i b.instrs → item_of t f b i ≡ renamed_item aside (item_of t f b i)
      itself b i mb mi =
          ap (item_of t f b) (sym (instr-same i))
          ∙ law_of_renaming t f f aside (λ p. p) (record { units = λ u. refl; slots = λ s k w. refl }) b b (λ n. refl) refl i (not-phi t i (suit.lowered b i mb mi)).1
          (renames-all i.operands (λ o m. unnamed b i o mb mi m) (λ o m. (suit.named b i o mb mi m).implicit))

      abbrev Kept : Code → Type 0
      Kept p = AllKeep IsNot (λ s k w. tt) p

      item-keeps : (b : Block) (i : Instr) → Member b f.blocks → Member i b.instrs → NoPhisAlong (exits_of (item_of t f b i)) → Keeps IsNot (λ s k w. tt) (item_of t f b i)
      item-keeps b i mb mi bare = record {
        reads = λ ss l x y. let z = read-image aside (reads_of (item_of t f b i)) ss l (subst (Member ss) (ap reads_of (itself b i mb mi) ∙ reads-of aside (item_of t f b i)) x) y in subst IsNot z.1 (aside-not z.0);
        writes = λ w l x e. let z = write-image aside (writes_of (item_of t f b i)) w l (subst (Member w) (ap writes_of (itself b i mb mi) ∙ writes-of aside (item_of t f b i)) x) e in subst IsNot z.1 (aside-not z.0);
        bare = bare;
      }

      keep-items : (b : Block) → Member b f.blocks → (is : List Instr) → ((i : Instr) → Member i is → Member i b.instrs) → (p : Code) → (NoPhis p → Kept p) → NoPhis (map (item_of t f b) is ++ p) → Kept (map (item_of t f b) is ++ p)
      keep-items b mb [] h p k z = k z
      keep-items b mb (i ∷ is) h p k z =
          let y = bare-of (item_of t f b i) (map (item_of t f b) is ++ p) z in
          (item-keeps b i mb (h i first) y.0, keep-items b mb is (λ j m. h j (later m)) p k y.1)

      keep-blocks : (bs : List Block) → ((b : Block) → Member b bs → Member b f.blocks) → NoPhis (blocks_code (item_of t f) t f bs) → Kept (blocks_code (item_of t f) t f bs)
      keep-blocks [] h z = tt
      keep-blocks (b ∷ bs) h z = (
        record { reads = λ ss l x y. absurd (member-none ss x); writes = λ w l x e. absurd (member-none w x); bare = tt },
        keep-items b (h b first) b.instrs (λ i m. m) (block_end t f b bs ∷ blocks_code (item_of t f) t f bs)
            (λ y. (record { reads = λ ss l x y. absurd (member-none ss x); writes = λ w l x e. absurd (member-none w x); bare = y.1 }, keep-blocks bs (λ c m. h c (later m)) y.2)) z,
      )

      none : has_no_phis t f.blocks ≡ true
      none = all-without-phis t f.blocks (λ b i mb mi. (not-phi t i (suit.lowered b i mb mi)).0)

      keep-all : Kept (code_of t f)
      unfolding code_of
      keep-all = keep-blocks f.blocks (λ b m. m) (bare-blocks t f none f.blocks)

      pub unnamed-dead : (n k : ℕ) → LiveAt t f (Start n) (VirtualLane w k) → ⊥
      unnamed-dead n k h =
          let live = subst (λ c. Live (is_reserved t) c (found n c) (VirtualLane w k)) (points_are_code t f none) h in
          let not : nat_eq w w ≡ false = live-keeps IsNot (λ s k w. tt) (is_reserved t) (code_of t f) keep-all live (found-keep IsNot (λ s k w. tt) n (code_of t f) keep-all) in
          let z : true ≡ false = sym (eq-eqb w w refl) ∙ not in
          cc
