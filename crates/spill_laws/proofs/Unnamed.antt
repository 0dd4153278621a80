-- A spill to a slot that no instruction names keeps what the function does.
use Rattle.std.proofs.Common.{◌≡◌, ◌⊎◌, inl, inr, ◌∷◌, ◌++◌, ◌∙◌, ℕ, zero, suc, Bool, true, false, cond, List, drop, map, refl, sym, ap, subst, []}
use Rattle.std.specs.List.{list_any}
use Rattle.target_base.specs.declared.types.Target.{Target}
use Rattle.meaning.specs.Code.{BlockStart, Code, Edge}
use Rattle.meaning.specs.Live.{Among as Member, here as first, there as later, Live, LiveAfter, OccupiedAfter, OccupiedBefore, Writing, WritingEarly}
use Rattle.meaning.specs.declared.types.Fill.TheVariants.{Moved}
use Rattle.meaning.specs.declared.types.Lane.{Lane}
use Rattle.meaning.specs.declared.types.Lane.TheVariants.{SlotLane}
use Rattle.meaning.specs.declared.types.Source.TheVariants.{FromLane}
use Rattle.mir_func.specs.declared.func.Edge.{Edge as Successor}
use Rattle.mir_func.specs.declared.func.Operand.{Operand}
use Rattle.mir_func.specs.declared.func.Instr.{Instr}
use Rattle.mir_func.specs.declared.func.Block.{Block}
use Rattle.mir_func.specs.Value.{Function}
use Rattle.mir_func.specs.Edits.{instr_place}
use Rattle.mir_meaning.specs.Codes.{block_end, blocks_code, way, ways_out}
use Rattle.mir_meaning.specs.Points.{AtFirst, Entry, Exit, OccupiedAt, Point, Start, block_rest, from_instr, has_instr, point_item, points_of}
use Rattle.mir_meaning.specs.Registers.{is_reserved}
use Rattle.instr_effects.proofs.Members.{map-of, member-none}
use Rattle.lowering_laws.specs.Shapes.{IsLowered}
use Rattle.spiller.specs.Slots.{own_slot}
use Rattle.spiller.specs.Spilled.{is_slot, names_slot}
use Rattle.spill_laws.specs.Refined.{SlotApart}
use Rattle.spill_laws.specs.SpillRefines.{SpillToNewSlotRefines}
use Rattle.spill_laws.proofs.CopyPlaces.{none-of}
use Rattle.spill_laws.proofs.Following.{bare-ways-of}
use Rattle.spill_laws.proofs.NewSlots.{AllClean, Clean, after-other, found-clean, item-clean, live-other}
use Rattle.spill_laws.proofs.Positions.{point-same}
use Rattle.spill_laws.proofs.Refining.{known-by, no-phi, spill_refines}

drop-in : {X : Type 0} (k : ℕ) (xs : List X) (x : X) → Member x (drop k xs) → Member x xs
drop-in zero xs x m = m
drop-in (suc k) [] x m = m
drop-in (suc k) (y ∷ xs) x m = later (drop-in k xs x m)

module _ (t : Target) (f : Function) (n : ℕ) (low : IsLowered t f) (unnamed : names_slot n f ≡ false) where
  named-none : (b : Block) (i : Instr) → Member b f.blocks → Member i b.instrs → (o : Operand) → Member o i.operands → is_slot n o ≡ false
  named-none b i mb mi o mo =
      none-of (is_slot n) o i.operands
      (none-of (λ (j : Instr). list_any (is_slot n) j.operands) i b.instrs
      (none-of (λ (d : Block). list_any (λ (j : Instr). list_any (is_slot n) j.operands) d.instrs) b f.blocks unnamed mb) mi) mo

  bare : (k m : ℕ) → (way t f k m).phis ≡ []
  bare = bare-ways-of t f (λ b i mb mi. no-phi t i (low.lowered b i mb mi))

  outs-bare : (b : Block) (y : Edge) → Member y (ways_out t f b) → y.phis ≡ []
  outs-bare b y m = let z = map-of (λ (e : Successor). way t f b.number e.block) y b.successors m in ap (λ (e : Edge). e.phis) z.2 ∙ bare b.number z.0.block

  point-clean : (b : Block) (i : Instr) → Member b f.blocks → Member i b.instrs → Clean t f n (point_item t f b i)
  point-clean b i mb mi =
      let z = known-by t i (low.lowered b i mb mi) in
      subst (Clean t f n) (sym (point-same t f low.function (λ b i mb mi. no-phi t i (low.lowered b i mb mi)) b i (no-phi t i (low.lowered b i mb mi))))
      (item-clean t f n b i z.effect z.known z.single (named-none b i mb mi) (outs-bare b))

  items-clean : (b : Block) → Member b f.blocks → (is : List Instr) → ((i : Instr) → Member i is → Member i b.instrs) → (p : Code) → AllClean t f n p → AllClean t f n (map (point_item t f b) is ++ p)
  items-clean b mb [] h p a = a
  items-clean b mb (i ∷ is) h p a = (point-clean b i mb (h i first), items-clean b mb is (λ j m. h j (later m)) p a)

  end-clean : (b : Block) (after : List Block) → Clean t f n (block_end t f b after)
  end-clean b after = record {
    reads = λ ss l m k. absurd (member-none ss m);
    writes = λ w m. absurd (member-none w m);
    feeds = λ l a e other. subst (λ (x : Lane). (j w : ℕ) → x ≡ SlotLane n j w → ⊥) (same a l e) other;
    bare = outs-bare b;
  }
    where
      same : (a l : Lane) → Moved (FromLane a) ≡ Moved (FromLane l) → a ≡ l
      same a l e = cc

  start-clean : (m : ℕ) → Clean t f n (BlockStart m)
  start-clean m = record {
    reads = λ ss l m k. absurd (member-none ss m);
    writes = λ w m. absurd (member-none w m);
    feeds = λ l a e other. subst (λ (x : Lane). (j w : ℕ) → x ≡ SlotLane n j w → ⊥) (same a l e) other;
    bare = λ y m. absurd (member-none y m);
  }
    where
      same : (a l : Lane) → Moved (FromLane a) ≡ Moved (FromLane l) → a ≡ l
      same a l e = cc

  blocks-clean : (bs : List Block) → ((b : Block) → Member b bs → Member b f.blocks) → AllClean t f n (blocks_code (point_item t f) t f bs)
  blocks-clean [] w = tt
  blocks-clean (b ∷ bs) w =
      (start-clean b.number, items-clean b (w b first) b.instrs (λ i m. m) (block_end t f b bs ∷ blocks_code (point_item t f) t f bs) (end-clean b bs, blocks-clean bs (λ c m. w c (later m))))

  from-clean : (id : ℕ) (bs : List Block) → ((b : Block) → Member b bs → Member b f.blocks) → AllClean t f n (from_instr t f id bs)
  from-clean id [] w = tt
  from-clean id (b ∷ bs) w = go (has_instr id b) (from-clean id bs (λ c m. w c (later m)))
    where
      go : (y : Bool) → AllClean t f n (from_instr t f id bs) → AllClean t f n (cond y (block_rest t f b bs (instr_place id b.instrs)) (from_instr t f id bs))
      go true a = items-clean b (w b first) (drop (instr_place id b.instrs) b.instrs) (λ i m. drop-in (instr_place id b.instrs) b.instrs i m) (block_end t f b bs ∷ blocks_code (point_item t f) t f bs) (end-clean b bs, blocks-clean bs (λ c m. w c (later m)))
      go false a = a

  all-clean : AllClean t f n (points_of t f)
  unfolding points_of
  all-clean = blocks-clean f.blocks (λ b m. m)

  before-none : (p : Code) (j w : ℕ) → AllClean t f n p → AtFirst (λ x q. OccupiedBefore (is_reserved t) (points_of t f) x q (SlotLane n j w)) p → ⊥
  before-none [] j w a h = h
  before-none (x ∷ q) j w a h = go h.0
    where
      go : Live (is_reserved t) (points_of t f) (x ∷ q) (SlotLane n j w) ⊎ WritingEarly x (SlotLane n j w) → ⊥
      go (inl z) = live-other t f n (points_of t f) all-clean z a j w refl
      go (inr z) = a.0.writes z.0 z.1 j w z.2

  after-none : (p : Code) (j w : ℕ) → AllClean t f n p → AtFirst (λ x q. OccupiedAfter (is_reserved t) (points_of t f) x q (SlotLane n j w)) p → ⊥
  after-none [] j w a h = h
  after-none (x ∷ q) j w a h = go h.0
    where
      go : LiveAfter (is_reserved t) (points_of t f) x q (SlotLane n j w) ⊎ Writing x (SlotLane n j w) → ⊥
      go (inl z) = after-other t f n (points_of t f) all-clean x q (SlotLane n j w) z a.0 a.1 j w refl
      go (inr z) = a.0.writes z.0 z.1 j w z.2

  none-occupied : (p : Point) (j w : ℕ) → OccupiedAt t f p (SlotLane n j w) → ⊥
  none-occupied (Start m) j w h = live-other t f n (points_of t f) all-clean h (found-clean t f n m (points_of t f) all-clean) j w refl
  none-occupied (Entry id) j w h = before-none (from_instr t f id f.blocks) j w (from-clean id f.blocks (λ b m. m)) h
  none-occupied (Exit id) j w h = after-none (from_instr t f id f.blocks) j w (from-clean id f.blocks (λ b m. m)) h

  pub unnamed-apart : (v : ℕ) → SlotApart t f v n
  unnamed-apart v p k j w own h = none-occupied p j w h

pub spill_to_new_slot_refines : SpillToNewSlotRefines
spill_to_new_slot_refines t f g slots new v made low formed fixed unnamed z = spill_refines t f g slots new v made low formed fixed (unnamed-apart t f (own_slot slots v) low unnamed v) z
