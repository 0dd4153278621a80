-- A writable function in physical form is writable, where its key lines give its frame objects.
use Rattle.std.proofs.Common.{◌≡◌, ◌∷◌, ◌++◌, ◌+◌, ◌<◌, ◌∙◌, ◌||◌, not, ℕ, zero, suc, Bool, true, false, cond, List, Option, Some, None, map, length, refl, sym, ap, subst, arith, []}
use Rattle.std.specs.Prelude.{option_map, position, slice_get}
use Rattle.std.specs.List.{list_any}
use Rattle.target_base.specs.Numbers.{reg_number}
use Rattle.target_base.specs.Registers.{IsReg, lanes_of, sub_of, units_of}
use Rattle.target_base.specs.Storage.{is_picked, is_unreserved}
use Rattle.target_base.specs.declared.types.IndexId.{IndexId}
use Rattle.target_base.specs.declared.types.OpcodeDesc.{OpcodeDesc}
use Rattle.target_base.specs.declared.types.Reg.{Reg}
use Rattle.target_base.specs.declared.types.RegDesc.{RegDesc}
use Rattle.target_base.specs.declared.types.Target.{Target}
use Rattle.target_base.proofs.Tests.{position_within}
use Rattle.meaning.specs.Live.{Among, here, there}
use Rattle.mir_func.specs.declared.func.Loc.{Loc}
use Rattle.mir_func.specs.declared.func.Loc.TheVariants.{Fixed, Virtual}
use Rattle.mir_func.specs.declared.func.RegOp.{RegOp}
use Rattle.mir_func.specs.declared.func.Operand.{Operand}
use Rattle.mir_func.specs.declared.func.Operand.TheVariants as operands
use Rattle.mir_func.specs.declared.func.Instr.{Instr}
use Rattle.mir_func.specs.declared.func.Block.{Block}
use Rattle.mir_func.specs.Value.{Function}
use Rattle.mir_func.specs.Binding.{is_definition, is_virtual, known_opcode, registers}
use Rattle.mir_meaning.specs.declared.Form.TheVariants as forms
use Rattle.mir_meaning.specs.Registers.{numbers}
use Rattle.mir_meaning.specs.Rules.{V1, V2, V3, V4, V5, V6, V7, V8, V9, V11, V12, V15, has_class}
use Rattle.mir_meaning.specs.Valid.{IsValid, block_fault, cover, first_failing, instr_fault, names_virtual, unreserved_registers}
use Rattle.mir_text.specs.Print.{is_explicit_def}
use Rattle.phi_elim.specs.Numbered.{blocks_numbered, numbered}
use Rattle.instr_effects.proofs.Members.{filter-of, map-of, member-elim, member-none}
use Rattle.live_laws.proofs.Effects.Blocks.{member-slice, slice-member}
use Rattle.live_laws.proofs.Effects.Valid.{all-clean}
use Rattle.lowering_laws.proofs.Formed.{all-by}
use Rattle.rewriter.specs.Physical.{Assignment, in_register, is_identity, part_of, physical, physical_at, physical_block, physical_form, physical_instr, physical_instrs, physical_liveins, register_of, with_liveins, without_ranges}
use Rattle.writable_laws.specs.Laws.{PhysicalStaysWritable, PhysicalWithoutSlots}
use Rattle.writable_laws.proofs.Lowered.{lowered-fits}
use Rattle.writable_laws.proofs.Fitting.{InstrsFit, InstrFits, BlockFits, OperandFits, RegisterFits, block-with, map-ordered, numbered-each, spelled-of}
use Rattle.writable_laws.proofs.Whole.{head-stays, none-due}

numbers-below : (u n k : ℕ) → Among u (numbers n k) → u < n + k
numbers-below u n zero m = absurd (member-none u m)
numbers-below u n (suc k) m = member-elim u n (numbers (suc n) k) (λ e. omega (arith, e)) (λ j. let h = numbers-below u (suc n) k j in omega arith) m

first-below : (u k : ℕ) → Among u (numbers 0 k) → u < k
first-below u k m = let h = numbers-below u 0 k m in omega arith

none-is : {X : Type 0} (p : X → Bool) (x : X) (xs : List X) → list_any p xs ≡ false → Among x xs → p x ≡ false
none-is p x [] e m = absurd (member-none x m)
none-is p x (y ∷ xs) e m = member-elim x y xs (λ q. ap p q ∙ left (p y) (list_any p xs) e) (λ k. none-is p x xs (right (p y) (list_any p xs) e) k) m
  where
    left : (a b : Bool) → (a || b) ≡ false → a ≡ false
    left true b e = absurd (cc)
    left false b e = refl

    right : (a b : Bool) → (a || b) ≡ false → b ≡ false
    right true b e = absurd (cc)
    right false b e = e

module _ (t : Target) (rs : Assignment) (known : (r : Reg) → Among (Some r) rs → IsReg t r) where
  sub-known : (r : Reg) (x : IndexId) (q : Reg) → sub_of t r x ≡ Some q → IsReg t q
  sub-known r x q e = go (position (λ (d : RegDesc). is_picked (units_of t r) (lanes_of t x) d.units) t.regs) refl e
    where
      same : (a b : Reg) → Some a ≡ Some b → a ≡ b
      same a b e = cc

      go : (p : Option ℕ) → position (λ (d : RegDesc). is_picked (units_of t r) (lanes_of t x) d.units) t.regs ≡ p → option_map reg_number p ≡ Some q → IsReg t q
      go None e h = absurd (cc)
      go (Some n) e h = subst (IsReg t) (same (reg_number n) q h) (position_within (λ (d : RegDesc). is_picked (units_of t r) (lanes_of t x) d.units) t.regs n e)

  register-known : (v : ℕ) (r : Reg) → register_of rs v ≡ Some r → IsReg t r
  register-known v r e = go (slice_get rs v) refl e
    where
      go : (q : Option (Option Reg)) → slice_get rs v ≡ q → elim q as (λ q. Option Reg) [ None ↦ None | Some r ↦ r ] ≡ Some r → IsReg t r
      go None e h = absurd (cc)
      go (Some q) e h = known r (slice-member rs v (Some r) (e ∙ ap Some h))

  part-known : (q : Option Reg) → ((r : Reg) → q ≡ Some r → IsReg t r) → (x : Option IndexId) (r : Reg) → part_of t q x ≡ Some r → IsReg t r
  part-known None h x r e = absurd (cc)
  part-known (Some p) h None r e = h r e
  part-known (Some p) h (Some x) r e = sub-known p x r e

  in-stays : (o : RegOp) → RegisterFits t o.loc o.index → (q : Option Reg) → ((r : Reg) → q ≡ Some r → IsReg t r) → RegisterFits t (in_register o q).loc (in_register o q).index × (is_definition (in_register o q) ≡ is_definition o)
  in-stays o h None f = (h, refl)
  in-stays o h (Some r) f = ((f r refl, refl), refl)

  at-stays : (o : RegOp) → RegisterFits t o.loc o.index → (l : Loc) → o.loc ≡ l → RegisterFits t (physical_at t rs o l).loc (physical_at t rs o l).index × (is_definition (physical_at t rs o l) ≡ is_definition o)
  at-stays o h (Virtual v) e = in-stays o h (part_of t (register_of rs v) o.index) (part-known (register_of rs v) (register-known v) o.index)
  at-stays o h (Fixed r) e = (h, refl)

  physical-fits : (o : Operand) → OperandFits t o → OperandFits t (physical t rs o) × (is_explicit_def (physical t rs o) ≡ is_explicit_def o)
  physical-fits (operands.Reg o) h = at-stays o h o.loc refl
  physical-fits o h = (h, refl)

  instr-fits : (i : Instr) → InstrFits t i → InstrFits t (physical_instr t rs i)
  instr-fits i z =
      let w = map-ordered t (physical t rs) i.operands (λ o m. physical-fits o (z.operands o m)) in
      record { opcode = z.opcode; flags = z.flags; order = w.order ∙ z.order; operands = w.fits; tail = z.tail }

  instrs-fits : (is : List Instr) → InstrsFit t is → InstrsFit t (physical_instrs t rs is)
  instrs-fits is h x m =
      let a = (filter-of (λ i. not (is_identity t i)) x (map (physical_instr t rs) is) m).0 in
      let b = map-of (physical_instr t rs) x is a in
      subst (InstrFits t) (sym b.2) (instr-fits b.0 (h b.0 b.1))

  blocks-fits : (n : ℕ) (bs : List Block) → ((b : Block) → Among b bs → BlockFits t b) → (d : Block) → Among d (blocks_numbered n (map (physical_block t rs) bs)) → BlockFits t d
  blocks-fits n [] w d m = absurd (member-none d m)
  blocks-fits n (b ∷ bs) w d m =
      let L = physical_instrs t rs b.instrs in
      let z = w b here in
      member-elim d (record b { instrs = numbered n L }) (blocks_numbered (n + length L) (map (physical_block t rs) bs))
      (λ e. subst (BlockFits t) (sym e) (block-with t b (numbered n L) z.header (numbered-each t n L (instrs-fits b.instrs z.instrs))))
      (λ k. blocks-fits (n + length L) bs (λ x q. w x (there q)) d k) m

-- live-ins

module _ (t : Target) where
  abbrev AreKnown : List Reg → Type 0
  AreKnown rs = (r : Reg) → Among r rs → IsReg t r

  cover-known : (live : ℕ → Bool) → AreKnown (cover t live)
  unfolding cover
  cover-known live r m =
      let a = (filter-of _ r (unreserved_registers t) m).0 in
      let b = (filter-of (is_unreserved t.reserved t.regs) r (map reg_number (numbers 0 (length t.regs))) a).0 in
      let c = map-of reg_number r (numbers 0 (length t.regs)) b in
      subst (IsReg t) (sym c.2) (first-below c.0 (length t.regs) c.1)

  listed-known : (live : ℕ → ℕ → Bool) (bs : List Block) → ((b : Block) → Among b bs → BlockFits t b) → (rs : List Reg) → Among rs (physical_liveins t live bs) → AreKnown rs
  listed-known live [] w rs m = absurd (member-none rs m)
  listed-known live (b ∷ bs) w rs m =
      member-elim rs b.liveins (map (λ p. cover t (live p)) (numbers 1 (length bs)))
      (λ e. subst AreKnown (sym e) (w b here).header.liveins)
      (λ k. let z = map-of (λ p. cover t (live p)) rs (numbers 1 (length bs)) k in subst AreKnown (sym z.2) (cover-known (live z.0))) m

  liveins-fits : (rss : List (List Reg)) → ((rs : List Reg) → Among rs rss → AreKnown rs) → (bs : List Block) → ((b : Block) → Among b bs → BlockFits t b) → (d : Block) → Among d (with_liveins rss bs) → BlockFits t d
  liveins-fits [] k bs w d m = w d m
  liveins-fits (rs ∷ rss) k [] w d m = absurd (member-none d m)
  liveins-fits (rs ∷ rss) k (b ∷ bs) w d m =
      let z = w b here in
      let h = z.header in
      member-elim d (record b { liveins = rs }) (with_liveins rss bs)
      (λ e. subst (BlockFits t) (sym e) (record {
        header = record { number = h.number; name = h.name; attributes = h.attributes; successors = h.successors; liveins = k rs here };
        instrs = z.instrs;
      }))
      (λ j. liveins-fits rss (λ x q. k x (there q)) bs (λ x q. w x (there q)) d j) m

-- the rules of an allocated function

step : (b : Bool) (x : Option ℕ) (r : ℕ) → cond b x (Some r) ≡ None → (b ≡ true) × (x ≡ None)
step true x r e = (refl, e)
step false x r e = absurd (cc)

module _ (t : Target) (g : Function) (valid : IsValid t forms.Allocated g) where
  one : (b : Block) (i : Instr) → Among b g.blocks → Among i b.instrs → V1 t g i ≡ true
  unfolding instr_fault
  one b i mb mi =
      let k = member-slice b g.blocks mb in
      let j = member-slice i b.instrs mi in
      go k.0 j.0 (known_opcode t i.op) ((all-clean t forms.Allocated g valid.shape k.0 b k.1).1 j.0 i j.1)
    where
      go : (k j : ℕ) (q : Option OpcodeDesc) → elim q as (λ q. Option ℕ) [ None ↦ Some 16 | Some d ↦ cond (V1 t g i) (first_failing ((2, V2 t g i) ∷ (3, V3 g i) ∷ (4, V4 t g i) ∷ (7, V7 t forms.Allocated g k b j i) ∷ (8, V8 t b j i) ∷ (11, V11 t forms.Allocated g i) ∷ (12, V12 t forms.Allocated g i) ∷ (15, V15 t forms.Allocated g i) ∷ [])) (Some 1) ] ≡ None → V1 t g i ≡ true
      go k j None e = absurd (cc)
      go k j (Some d) e = (step (V1 t g i) _ 1 e).0

  nine : (k : ℕ) (b : Block) → slice_get g.blocks k ≡ Some b → V9 t g k b ≡ true
  unfolding block_fault
  nine k b e =
      let z = (all-clean t forms.Allocated g valid.shape k b e).0 in
      (step (V9 t g k b) _ 9 (step (V6 g k b) _ 6 (step (V5 g k b) _ 5 z).1).1).0

  three : (b : Block) (i : Instr) → Among b g.blocks → Among i b.instrs → V3 g i ≡ true
  unfolding V3
  three b i mb mi = all-by (λ (o : RegOp). has_class g o.loc) (registers i.operands) (λ o m. fixed o.loc (none-is (λ (x : RegOp). is_virtual x.loc) o (registers i.operands) (none-is (λ (x : Instr). list_any (λ (o : RegOp). is_virtual o.loc) (registers x.operands)) i b.instrs (none-is names_virtual b g.blocks valid.starts mb) mi) m))
    where
      fixed : (l : Loc) → is_virtual l ≡ false → has_class g l ≡ true
      fixed (Virtual v) e = absurd (cc)
      fixed (Fixed r) e = refl

some-more : (rss : List (List Reg)) (bs : List Block) → 0 < length bs → 0 < length (with_liveins rss bs)
some-more [] bs h = h
some-more (rs ∷ rss) [] h = h
some-more (rs ∷ rss) (b ∷ bs) h = omega arith

some-blocks : (t : Target) (rs : Assignment) (n : ℕ) (bs : List Block) → 0 < length bs → 0 < length (blocks_numbered n (map (physical_block t rs) bs))
some-blocks t rs n [] h = h
some-blocks t rs n (b ∷ bs) h = omega arith

pub physical_stays_writable : PhysicalStaysWritable
physical_stays_writable t rs slots live f low w known head valid =
    let g = physical_form t rs slots live f in
    let h = without_ranges t rs slots f in
    let fits = blocks-fits t rs known 0 f.blocks (lowered-fits t f low w) in
    let all = liveins-fits t (physical_liveins t live h.blocks) (listed-known t live h.blocks fits) h.blocks fits in
    record {
      names = w.names;
      head = head;
      ranges = omega arith;
      classes = λ v c e. absurd (cc);
      begun = some-more (physical_liveins t live h.blocks) h.blocks (some-blocks t rs 0 f.blocks w.begun);
      headers = λ b m. (all b m).header;
      instrs = λ b i mb mi. spelled-of t g i ((all b mb).instrs i mi) (three t g valid b i mb mi);
      successors = λ k b e. record {
        nine = nine t g valid k b e;
        unwritten = none-due t g k b (nine t g valid k b e) (λ i m. one t g valid b i (slice-member g.blocks k b e) m);
      };
    }

append-none : {X : Type 0} (xs : List X) → xs ++ [] ≡ xs
append-none [] = refl
append-none (x ∷ xs) = ap (λ ys. x ∷ ys) (append-none xs)

pub physical_without_slots : PhysicalWithoutSlots
physical_without_slots t rs live f low w known valid = physical_stays_writable t rs [] live f low w known (head-stays t f (physical_form t rs [] live f) refl refl (append-none f.frames) w.head) valid
