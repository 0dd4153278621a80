-- Instructions that don't name the range that goes stay as they are by a join.
use Rattle.std.proofs.Common.{◌≡◌, ◌∷◌, ◌++◌, ◌∙◌, not, ℕ, Bool, true, false, cond, List, [], Option, Some, None, refl, sym, ap, map, length, ◌&&◌, ◌||◌, eq-eqb, eqb-true}
use Rattle.std.specs.Prelude.{filter, flat_map, nat_eq}
use Rattle.target_base.specs.declared.types.IndexId.{IndexId}
use Rattle.target_base.specs.declared.types.Target.{Target}
use Rattle.target_base.specs.declared.types.Unit.{Unit as UnitNumber}
use Rattle.target_base.specs.Registers.{lanes_of, units_of}
use Rattle.target_base.specs.Rules.{is_copy}
use Rattle.meaning.specs.declared.types.Lane.{Lane}
use Rattle.meaning.specs.declared.types.Lane.TheVariants.{VirtualLane, UnitLane}
use Rattle.meaning.specs.Live.{Among, here, there}
use Rattle.mir_func.specs.declared.func.Block.{Block}
use Rattle.mir_func.specs.declared.func.Instr.{Instr}
use Rattle.mir_func.specs.declared.func.Loc.{Loc}
use Rattle.mir_func.specs.declared.func.Loc.TheVariants.{Virtual, Fixed}
use Rattle.mir_func.specs.declared.func.Operand.{Operand}
use Rattle.mir_func.specs.declared.func.Operand.TheVariants as operands
use Rattle.mir_func.specs.declared.func.RegOp.{RegOp}
use Rattle.mir_func.specs.Value.{Function}
use Rattle.mir_func.specs.Binding.{does, registers}
use Rattle.mir_meaning.specs.Points.{is_range}
use Rattle.mir_meaning.specs.Registers.{numbers, range_widths, located_lanes, operand_lanes, unit_lanes}
use Rattle.mir_meaning.specs.Renaming.{renamed_operand}
use Rattle.std.specs.List.{list_any}
use Rattle.live_edits.specs.declared.fold.Join.{Join}
use Rattle.live_edits.specs.Folded.{lane_within, image, index_within, joined_operand, joined_instr, same_lanes, two_sides, unites, becomes_identity, folded_block, names_range}
use Rattle.live_edits.proofs.JoiningEdits.{each}
use Rattle.live_edits.proofs.JoiningMembers.{among-first, among-later}

neither : (u v : Bool) → u || v ≡ false → (u ≡ false) × (v ≡ false)
neither true v h = absurd (let z : true ≡ false = h in cc)
neither false v h = (refl, h)

other-way : (a b : ℕ) → nat_eq a b ≡ false → nat_eq b a ≡ false
other-way a b e = go (nat_eq b a) refl
  where
    go : (u : Bool) → nat_eq b a ≡ u → u ≡ false
    go true d = absurd (let z : true ≡ false = sym (eq-eqb a b (sym (eqb-true b a d))) ∙ e in cc)
    go false d = refl

module _ (t : Target) (f : Function) (j : Join) where
  -- lanes

  other-image : (v k : ℕ) → nat_eq v j.gone ≡ false → image t j (VirtualLane v k) ≡ VirtualLane v k
  other-image v k e = ap (λ u. cond u (VirtualLane j.keep (lane_within t j.index k)) (VirtualLane v k)) e

  other-lanes : (v : ℕ) (ks : List ℕ) → nat_eq v j.gone ≡ false → map (image t j) (map (VirtualLane v) ks) ≡ map (VirtualLane v) ks
  other-lanes v [] e = refl
  other-lanes v (k ∷ ks) e = λ i. other-image v k e i ∷ other-lanes v ks e i

  units-stay : (us : List UnitNumber) → map (image t j) (unit_lanes us) ≡ unit_lanes us
  units-stay [] = refl
  units-stay (u ∷ us) = ap (λ ls. UnitLane u.0 ∷ ls) (units-stay us)

  located-stay : (loc : Loc) (x : Option IndexId) → is_range j.gone loc ≡ false → map (image t j) (located_lanes t f loc x) ≡ located_lanes t f loc x
  located-stay (Virtual v) None e = other-lanes v (numbers 0 (length (range_widths t f v))) (other-way j.gone v e)
  located-stay (Virtual v) (Some x) e = other-lanes v (lanes_of t x) (other-way j.gone v e)
  located-stay (Fixed r) x e = units-stay (units_of t r)

  -- copies

  both-or-not : (u : Bool) → not u && u ≡ false
  both-or-not true = refl
  both-or-not false = refl

  other-sides : (d s : RegOp) → is_range j.gone d.loc ≡ false → is_range j.gone s.loc ≡ false → unites t f (image t j) (Some (d, s)) ≡ false
  other-sides d s p q =
      let ds : List Lane = operand_lanes t f d in
      let ss : List Lane = operand_lanes t f s in
      (λ k. not (same_lanes ds ss) && same_lanes (located-stay d.loc d.index p k) (located-stay s.loc s.index q k))
      ∙ both-or-not (same_lanes ds ss)

  abbrev names : List Operand → Bool
  names os = list_any (λ (o : RegOp). is_range j.gone o.loc) (registers os)

  other-two : (os : List Operand) → names os ≡ false → unites t f (image t j) (two_sides os) ≡ false
  other-two (operands.Reg d ∷ operands.Reg s ∷ []) h =
      let p = neither (is_range j.gone d.loc) (is_range j.gone s.loc || false) h in
      other-sides d s p.0 (neither (is_range j.gone s.loc) false p.1).0
  other-two os h = refl

  other-copy : (i : Instr) → names_range j.gone i ≡ false → becomes_identity t f j i ≡ false
  other-copy i h = go (does is_copy t i)
    where
      go : (u : Bool) → unites t f (image t j) (cond u (two_sides i.operands) None) ≡ false
      go true = other-two i.operands h
      go false = refl

  -- operands

  other-register : (o : RegOp) → is_range j.gone o.loc ≡ false → joined_operand t j o ≡ o
  other-register o e = ap (λ u. cond u (record o { loc = Virtual j.keep; index = index_within t j.index o.index }) o) e

  other-operands : (os : List Operand) → names os ≡ false → map (renamed_operand (joined_operand t j)) os ≡ os
  other-operands [] h = refl
  other-operands (operands.Reg o ∷ os) h =
      let p = neither (is_range j.gone o.loc) (names os) h in
      λ k. operands.Reg (other-register o p.0 k) ∷ other-operands os p.1 k
  other-operands (o ∷ os) h = ap (λ xs. o ∷ xs) (other-operands os h)

  other-instr : (i : Instr) → names_range j.gone i ≡ false → joined_instr t j i ≡ i
  other-instr i h = ap (λ os. record i { operands = os }) (other-operands i.operands h)

  -- blocks in which the instructions that the test tells are joined, where it tells all that name the range

  abbrev made : (Instr → Bool) → Instr → List Instr
  made test i = cond (test i) (cond (becomes_identity t f j i) [] (joined_instr t j i ∷ [])) (i ∷ [])

  made-is : (test : Instr → Bool) (i : Instr) → (names_range j.gone i ≡ true → test i ≡ true) → made test i ≡ cond (becomes_identity t f j i) [] (joined_instr t j i ∷ [])
  made-is test i named = go (test i) refl (names_range j.gone i) refl
    where
      go : (u : Bool) → test i ≡ u → (v : Bool) → names_range j.gone i ≡ v → cond u (cond (becomes_identity t f j i) [] (joined_instr t j i ∷ [])) (i ∷ []) ≡ cond (becomes_identity t f j i) [] (joined_instr t j i ∷ [])
      go true e v d = refl
      go false e true d = absurd (let z : true ≡ false = sym (named d) ∙ e in cc)
      go false e false d = sym ((λ k. cond (other-copy i d k) [] (other-instr i d k ∷ [])))

  abbrev left : List Instr → List Instr
  left is = filter (λ (x : Instr). not (becomes_identity t f j x)) is

  after-step : (i : Instr) (is : List Instr) → cond (becomes_identity t f j i) [] (joined_instr t j i ∷ []) ++ map (joined_instr t j) (left is) ≡ map (joined_instr t j) (left (i ∷ is))
  after-step i is = go (becomes_identity t f j i)
    where
      go : (u : Bool) → cond u [] (joined_instr t j i ∷ []) ++ map (joined_instr t j) (left is) ≡ map (joined_instr t j) (cond (not u) (i ∷ left is) (left is))
      go true = refl
      go false = refl

  folded-instrs : (test : Instr → Bool) (is : List Instr) → ((i : Instr) → Among i is → names_range j.gone i ≡ true → test i ≡ true)
      → flat_map (made test) is ≡ map (joined_instr t j) (left is)
  folded-instrs test [] named = refl
  folded-instrs test (i ∷ is) named = (λ k. made-is test i (named i here) k ++ folded-instrs test is (λ x m. named x (there m)) k) ∙ after-step i is

  pub folded-blocks : (test : Instr → Bool) (bs : List Block) → ((i : Instr) → Among i (flat_map (λ (b : Block). b.instrs) bs) → names_range j.gone i ≡ true → test i ≡ true)
      → map (each (made test)) bs ≡ map (folded_block t f j) bs
  folded-blocks test [] named = refl
  folded-blocks test (b ∷ bs) named =
      λ k. (record b { instrs = folded-instrs test b.instrs (λ i m. named i (among-first i b.instrs (flat_map (λ (c : Block). c.instrs) bs) m)) k })
      ∷ folded-blocks test bs (λ i m. named i (among-later i b.instrs (flat_map (λ (c : Block). c.instrs) bs) m)) k
