-- Of a range only those lanes are live that its class has.
use Rattle.std.proofs.Common.{◌≡◌, ◌<◌, ◌⊎◌, inl, inr, not, ◌&&◌, ℕ, Bool, true, false, cond, List, [], ◌∷◌, Option, Some, None, map, length, refl, sym, ap, ◌∙◌, subst, arith, eqb-true}
use Rattle.std.specs.Prelude.{nat_eq, nat_lt}
use Rattle.std.proofs.lemmas.Bool.{eq-eqb, lt-ltb, ltb-true}
use Rattle.target_base.specs.declared.types.IndexId.{IndexId}
use Rattle.target_base.specs.declared.types.Target.{Target}
use Rattle.target_base.specs.declared.types.Unit.{Unit as UnitNumber}
use Rattle.target_base.specs.Registers.{lanes_of, units_of}
use Rattle.meaning.specs.Code.{BlockEnd, BlockStart, Code, Counted, Item, Silent, found}
use Rattle.meaning.specs.Lanes.{Reads, Writes, filled}
use Rattle.meaning.specs.Layout.{NoPhisAlong}
use Rattle.meaning.specs.Live.{Among as Member, here as first, there as later, Feeds, Live, exits_of, kept, leap, next, phi, read, reads_of, store, writes_of}
use Rattle.meaning.specs.Matched.{image, image_fill, renamed, renamed_reads, renamed_write}
use Rattle.meaning.specs.declared.types.Fill.{Fill}
use Rattle.meaning.specs.declared.types.Fill.TheVariants.{Computed, Moved}
use Rattle.meaning.specs.declared.types.Lane.{Lane}
use Rattle.meaning.specs.declared.types.Lane.TheVariants.{SlotLane, UnitLane, VirtualLane}
use Rattle.meaning.specs.declared.types.Source.{Source}
use Rattle.meaning.specs.declared.types.Source.TheVariants.{Bits, FromLane, Undef}
use Rattle.meaning.specs.declared.types.Write.{Write}
use Rattle.laws.proofs.Flow.{filled-from, lane-inj}
use Rattle.mir_func.specs.declared.func.Loc.{Loc}
use Rattle.mir_func.specs.declared.func.Loc.TheVariants.{Fixed, Virtual}
use Rattle.mir_func.specs.declared.func.RegOp.{RegOp}
use Rattle.mir_func.specs.declared.func.Operand.{Operand}
use Rattle.mir_func.specs.declared.func.Operand.TheVariants as operands
use Rattle.mir_func.specs.declared.func.Instr.{Instr}
use Rattle.mir_func.specs.declared.func.Block.{Block}
use Rattle.mir_func.specs.Value.{Function}
use Rattle.mir_func.specs.Binding.{does, puts_together, registers}
use Rattle.mir_meaning.specs.Registers.{located_lanes, numbers, range_widths, unit_lanes, whole_lanes}
use Rattle.mir_meaning.specs.Codes.{item_of}
use Rattle.mir_meaning.specs.Renaming.{Renames, RenamesAll, renamed_instr, renamed_item, renamed_operand}
use Rattle.mir_meaning.proofs.Renaming.{law_of_renaming}
use Rattle.instr_effects.proofs.Members.{map-of, member-elim, member-none}
use Rattle.split_laws.proofs.Suits.{IsNamed}
use Rattle.split_laws.proofs.Copies.{number-below}
use Rattle.split_laws.proofs.Renamed.{bare-edge, reads-of, writes-of}

lane-below : (n k : ℕ) → Member k (numbers 0 n) → k < n
lane-below n k m = let h = number-below 0 n k m in omega arith

lane-of : (s : Source) (m : Lane → Lane) (l : Lane) → FromLane l ≡ image m s → (a : Lane) × (m a ≡ l)
lane-of (FromLane a) m l e = (a, one a e)
  where
    one : (a : Lane) → FromLane l ≡ FromLane (m a) → m a ≡ l
    one a g = cc
lane-of Undef m l e = absurd (cc)
lane-of (Bits c low w) m l e = absurd (cc)

fill-of : (x : Fill) (m : Lane → Lane) (l : Lane) → image_fill m x ≡ Moved (FromLane l) → (a : Lane) × (m a ≡ l)
fill-of (Moved s) m l e = lane-of s m l (one (image m s) e)
  where
    one : (s : Source) → Moved s ≡ Moved (FromLane l) → FromLane l ≡ s
    one s g = cc
fill-of (Computed n) m l e = absurd (cc)

-- lanes that a renamed item reads or gives are images

read-image : (m : Lane → Lane) (reads : Reads) (ss : List Source) (l : Lane) → Member ss (renamed_reads m reads) → Member (FromLane l) ss → (a : Lane) × (m a ≡ l)
read-image m [] ss l x y = absurd (member-none ss x)
read-image m (rs ∷ reads) ss l x y =
    member-elim ss (map (image m) rs) (renamed_reads m reads)
    (λ e. let z = map-of (image m) (FromLane l) rs (subst (Member (FromLane l)) e y) in lane-of z.0 m l z.2)
    (λ k. read-image m reads ss l k y) x

write-image : (m : Lane → Lane) (ws : Writes) (w : Write) (l : Lane) → Member w (renamed m ws) → w.fill ≡ Moved (FromLane l) → (a : Lane) × (m a ≡ l)
write-image m [] w l x e = absurd (member-none w x)
write-image m (u ∷ ws) w l x e =
    member-elim w (renamed_write m u) (renamed m ws)
    (λ g. fill-of u.fill m l (sym (ap (λ (y : Write). y.fill) g) ∙ e))
    (λ k. write-image m ws w l k e) x

-- a lane's statement that holds of what items read and give holds of what is live
module _ (P : Lane → Type 0) (slots : (s k w : ℕ) → P (SlotLane s k w)) where
  pub record Keeps (i : Item) : Type 0 where
    pub reads : (ss : List Source) (l : Lane) → Member ss (reads_of i) → Member (FromLane l) ss → P l
    pub writes : (w : Write) (l : Lane) → Member w (writes_of i) → w.fill ≡ Moved (FromLane l) → P l
    pub bare : NoPhisAlong (exits_of i)

  abbrev pub AllKeep : Code → Type 0
  AllKeep [] = Unit {0}
  AllKeep (i ∷ p) = Keeps i × AllKeep p

  pub found-keep : (n : ℕ) (p : Code) → AllKeep p → AllKeep (found n p)
  found-keep n [] h = h
  found-keep n (BlockStart k ∷ p) h = go (nat_eq k n) (found-keep n p h.1)
    where
      go : (b : Bool) → AllKeep (found n p) → AllKeep (cond b p (found n p))
      go true y = h.1
      go false y = y
  found-keep n (BlockEnd falls exits ∷ p) h = found-keep n p h.1
  found-keep n (Silent reads ws ∷ p) h = found-keep n p h.1
  found-keep n (Counted r reads ws target exits ∷ p) h = found-keep n p h.1

  fed : (i : Item) → Keeps i → (l a : Lane) → Feeds i l a → P a → P l
  fed i k l a f p = go (filled-from (writes_of i) a l f)
    where
      go : (l ≡ a) ⊎ ((w : Write) × Member w (writes_of i) × (w.fill ≡ Moved (FromLane l))) → P l
      go (inl e) = subst P (sym e) p
      go (inr z) = k.writes z.0 l z.1 z.2

  module _ (reserved : Lane → Bool) (code : Code) (all : AllKeep code) where
    pub live-keeps : {p : Code} {l : Lane} → Live reserved code p l → AllKeep p → P l
    live-keeps (read {ss = ss} {l = l} x y r) h = h.0.reads ss l x y
    live-keeps (next {i = i} {l = l} {a = a} o live f r) h = fed i h.0 l a f (live-keeps live h.1)
    live-keeps (leap {i = i} {e = e} {l = l} {a = a} {b = b} x live g f r) h =
        let none : e.phis ≡ [] = bare-edge (exits_of i) e h.0.bare x in
        let same : a ≡ b = lane-inj a b (sym (ap (λ ws. filled ws a) none) ∙ g) in
        fed i h.0 l b f (subst P same (live-keeps live (found-keep e.block code all)))
    live-keeps (phi {i = i} {e = e} {w = w} x y g f r) h = absurd (member-none w (subst (Member w) (bare-edge (exits_of i) e h.0.bare x) y))
    live-keeps (store w {i = i} {s = s} {k = k} {l = l} o live f n r) h = fed i h.0 l (SlotLane s k w) f (slots s k w)
    live-keeps (kept {i = i} {l = l} {a = a} s f r) h = go (filled-from (writes_of i) a l f)
      where
        go : (l ≡ a) ⊎ ((w : Write) × Member w (writes_of i) × (w.fill ≡ Moved (FromLane l))) → P l
        go (inl e) = absurd (let q : reserved l ≡ reserved a = ap reserved e in cc)
        go (inr z) = h.0.writes z.0 l z.1 z.2

-- nothing is renamed

operand-same : (o : Operand) → renamed_operand (λ p. p) o ≡ o
operand-same (operands.Reg o) = refl
operand-same o = refl

operands-same : (os : List Operand) → map (renamed_operand (λ p. p)) os ≡ os
operands-same [] = refl
operands-same (o ∷ os) = λ i. operand-same o i ∷ operands-same os i

instr-same : (i : Instr) → renamed_instr (λ p. p) i ≡ i
instr-same i = λ k. record i { operands = operands-same i.operands k }

module _ (t : Target) (f : Function) (v : ℕ) where
  abbrev count : ℕ
  count = length (range_widths t f v)

  -- a lane of the range is one that it has
  abbrev pub IsOwn : Lane → Type 0
  IsOwn (VirtualLane w k) = w ≡ v → k < count
  IsOwn (UnitLane u) = Unit {0}
  IsOwn (SlotLane s k w) = Unit {0}

  -- lanes of the range that it hasn't go to a unit
  abbrev aside : Lane → Lane
  aside (VirtualLane w k) = cond (nat_eq v w && not (nat_lt k count)) (UnitLane 0) (VirtualLane w k)
  aside (UnitLane u) = UnitLane u
  aside (SlotLane s k w) = SlotLane s k w

  aside-own : (l : Lane) → IsOwn (aside l)
  aside-own (VirtualLane w k) = go (nat_eq v w && not (nat_lt k count)) refl
    where
      below : (b : Bool) → nat_lt k count ≡ b → (true && not b) ≡ false → k < count
      below true e h = ltb-true k count e
      below false e h = absurd (cc)

      go : (b : Bool) → (nat_eq v w && not (nat_lt k count)) ≡ b → IsOwn (cond b (UnitLane 0) (VirtualLane w k))
      go true e = tt
      go false e = λ s. below (nat_lt k count) refl (sym (ap (λ b. b && not (nat_lt k count)) (eq-eqb v w (sym s))) ∙ e)
  aside-own (UnitLane u) = tt
  aside-own (SlotLane s k w) = tt

  own-stays : (w k : ℕ) → (w ≡ v → k < count) → aside (VirtualLane w k) ≡ VirtualLane w k
  own-stays w k h = ap (λ b. cond b (UnitLane 0) (VirtualLane w k)) (go (nat_eq v w) refl)
    where
      go : (b : Bool) → nat_eq v w ≡ b → (b && not (nat_lt k count)) ≡ false
      go true e = ap not (lt-ltb k count (h (sym (eqb-true v w e))))
      go false e = refl

  stays-all : (w : ℕ) (ks : List ℕ) → ((k : ℕ) → Member k ks → w ≡ v → k < count) → map (VirtualLane w) ks ≡ map aside (map (VirtualLane w) ks)
  stays-all w [] h = refl
  stays-all w (k ∷ ks) h = λ i. sym (own-stays w k (h k first)) i ∷ stays-all w ks (λ j m. h j (later m)) i

  units-stay : (us : List UnitNumber) → unit_lanes us ≡ map aside (unit_lanes us)
  units-stay [] = refl
  units-stay (u ∷ us) = ap (λ ls. UnitLane u.0 ∷ ls) (units-stay us)

  lanes-stay : (l : Loc) (q : Option IndexId) → ((w : ℕ) (x : IndexId) (k : ℕ) → l ≡ Virtual w → q ≡ Some x → Member k (lanes_of t x) → k < length (range_widths t f w)) → located_lanes t f l q ≡ map aside (located_lanes t f l q)
  lanes-stay (Virtual w) None h = stays-all w (numbers 0 (length (range_widths t f w))) (λ k m e. subst (λ x. k < length (range_widths t f x)) e (lane-below (length (range_widths t f w)) k m))
  lanes-stay (Virtual w) (Some x) h = stays-all w (lanes_of t x) (λ k m e. subst (λ x. k < length (range_widths t f x)) e (h w x k refl refl m))
  lanes-stay (Fixed r) q h = units-stay (units_of t r)

  whole-stays : (l : Loc) → whole_lanes t f l ≡ map aside (whole_lanes t f l)
  whole-stays (Virtual w) = lanes-stay (Virtual w) None (λ w x k e g m. absurd (none-some x g))
    where
      none-some : (x : IndexId) → None ≡ Some x → ⊥
      none-some x g = cc
  whole-stays (Fixed r) = refl

  chosen : (b : Bool) (ls : List Lane) → ls ≡ map aside ls → cond b ls [] ≡ map aside (cond b ls [])
  chosen true ls e = e
  chosen false ls e = refl

  renames : (o : RegOp) → IsNamed t f o → Renames t f f aside (λ p. p) o
  renames o n = record {
    def = refl;
    implicit = refl;
    undef = refl;
    lanes = lanes-stay o.loc o.index n.index;
    widths = refl;
    others = chosen (o.def && o.undef) (whole_lanes t f o.loc) (whole-stays o.loc);
    stays = λ e. refl;
    fixed = n.implicit;
  }

  renames-all : (os : List Operand) → ((o : RegOp) → Member o (registers os) → IsNamed t f o) → RenamesAll t f f aside (λ p. p) os
  renames-all [] n = tt
  renames-all (operands.Reg o ∷ os) n = (renames o (n o first), renames-all os (λ p m. n p (later m)))
  renames-all (operands.Imm z ∷ os) n = renames-all os n
  renames-all (operands.Block z ∷ os) n = renames-all os n
  renames-all (operands.Stack z ∷ os) n = renames-all os n
  renames-all (operands.FixedStack z ∷ os) n = renames-all os n
  renames-all (operands.Symbol z ∷ os) n = renames-all os n
  renames-all (operands.Index z ∷ os) n = renames-all os n
  renames-all (operands.Mask z ∷ os) n = renames-all os n

  module _ (b : Block) (i : Instr) (plain : does puts_together t i ≡ false) (named : (o : RegOp) → Member o (registers i.operands) → IsNamed t f o) where
    itself : item_of t f b i ≡ renamed_item aside (item_of t f b i)
    itself =
        ap (item_of t f b) (sym (instr-same i))
        ∙ law_of_renaming t f f aside (λ p. p) (record { units = λ u. refl; slots = λ s k w. refl }) b b (λ n. refl) refl i plain (renames-all i.operands named)

    pub item-keeps : NoPhisAlong (exits_of (item_of t f b i)) → Keeps IsOwn (λ s k w. tt) (item_of t f b i)
    item-keeps bare = record {
      reads = λ ss l x y. let z = read-image aside (reads_of (item_of t f b i)) ss l (subst (Member ss) (ap reads_of itself ∙ reads-of aside (item_of t f b i)) x) y in subst IsOwn z.1 (aside-own z.0);
      writes = λ w l x e. let z = write-image aside (writes_of (item_of t f b i)) w l (subst (Member w) (ap writes_of itself ∙ writes-of aside (item_of t f b i)) x) e in subst IsOwn z.1 (aside-own z.0);
      bare = bare;
    }
