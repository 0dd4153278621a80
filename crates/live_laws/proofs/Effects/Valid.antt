-- Functions in which no rule but those on live points fails keep the rules that liveness rests on.
use Rattle.std.proofs.Common.{◌≡◌, ℕ, zero, suc, ◌+◌, Bool, true, false, cond, not, ◌&&◌, ◌||◌, List, [], ◌∷◌, Option, Some, None, map, filter, length, refl, ap, subst, arith}
use Rattle.std.specs.Prelude.{nat_eq, nat_le, slice_get, option_map}
use Rattle.std.specs.List.{list_all}
use Rattle.std.proofs.lemmas.Bool.{and_from}
use Rattle.std.specs.Option.{option_or}
use Rattle.target_base.specs.declared.types.Effect.{Effect}
use Rattle.target_base.specs.declared.types.Effect.TheVariants as effects
use Rattle.target_base.specs.declared.types.OpcodeDesc.{OpcodeDesc}
use Rattle.target_base.specs.declared.types.Target.{Target}
use Rattle.target_base.specs.Rules.{is_phi}
use Rattle.target_base.proofs.Tests.{first_of_both, second_of_both}
use Rattle.meaning.specs.Live.{Among as Member}
use Rattle.mir_func.specs.declared.func.Instr.{Instr}
use Rattle.mir_func.specs.declared.func.RegOp.{RegOp}
use Rattle.mir_func.specs.declared.func.Block.{Block}
use Rattle.mir_func.specs.Value.{Function}
use Rattle.mir_meaning.specs.declared.Form.{Form}
use Rattle.mir_meaning.specs.declared.Form.TheVariants as forms
use Rattle.mir_func.specs.Binding.{bound, known_opcode, effect_of, numbered, passes, registers, is_lowered_away, is_virtual, same_loc, does}
use Rattle.mir_meaning.specs.Rules.{V1, V2, V3, V4, V5, V6, V7, V8, V9, V10, V11, V12, V15, V15_frame, V16, early_fits, namings, no_two_share, phi_stands, undef_fits, defined_lanes, is_opaque, undef_uses_fit}
use Rattle.mir_meaning.specs.Valid.{first_failing, instr_fault, block_fault, least, fault_at, instrs_fault, fault_in, blocks_fault, shape_fault}
use Rattle.live_laws.specs.Effects.Shaped.{AreClasses}
use Rattle.live_laws.specs.Effects.Coded.{KeepsRules}
use Rattle.live_laws.specs.Effects.Laws.{ValidLaw}
use Rattle.live_laws.proofs.Effects.Moving.{some-same}
use Rattle.live_laws.proofs.Effects.Blocks.{member-slice}

or-first : {X : Type 0} (a b : Option X) → option_or a b ≡ None → a ≡ None
or-first None b e = refl
or-first (Some x) b e = absurd (cc)

or-second : {X : Type 0} (a b : Option X) → option_or a b ≡ None → b ≡ None
or-second None b e = e
or-second (Some x) b e = absurd (cc)

none-mapped : {X Y : Type 0} (g : X → Y) (q : Option X) → option_map g q ≡ None → q ≡ None
none-mapped g None e = refl
none-mapped g (Some x) e = absurd (cc)

least-first : (a b : Option ℕ) → least a b ≡ None → a ≡ None
least-first None b e = refl
least-first (Some x) None e = absurd (cc)
least-first (Some x) (Some y) e = absurd (cc)

least-second : (a b : Option ℕ) → least a b ≡ None → b ≡ None
least-second None b e = e
least-second (Some x) None e = absurd (cc)
least-second (Some x) (Some y) e = absurd (cc)

-- the first of these rules holds, and so do the others
holds : (rule : ℕ) (b : Bool) (rest : List (ℕ × Bool)) → first_failing ((rule, b) ∷ rest) ≡ None → (b ≡ true) × (first_failing rest ≡ None)
holds rule true rest e = (refl, e)
holds rule false rest e = absurd (cc)

module _ (t : Target) (form : Form) (f : Function) where
  -- no rule of the block and of its instructions fails
  abbrev pub Clean : ℕ → Block → Type 0
  Clean k b = (block_fault t form f k b ≡ None) × ((j : ℕ) (i : Instr) → slice_get b.instrs j ≡ Some i → instr_fault t form f k b j i ≡ None)

  instrs-clean : (k : ℕ) (b : Block) (j : ℕ) (is : List Instr) → instrs_fault t form f k b j is ≡ None → (n : ℕ) (i : Instr) → slice_get is n ≡ Some i → instr_fault t form f k b (j + n) i ≡ None
  instrs-clean k b j [] e n i g = absurd (cc)
  instrs-clean k b j (x ∷ is) e zero i g =
      let same : x ≡ i = some-same x i g in
      let z : j ≡ j + 0 = omega arith in
      subst (λ m. instr_fault t form f k b m i ≡ None) z (subst (λ y. instr_fault t form f k b j y ≡ None) same (none-mapped (fault_at b j) (instr_fault t form f k b j x) (or-first (option_map (fault_at b j) (instr_fault t form f k b j x)) (instrs_fault t form f k b (suc j) is) e)))
  instrs-clean k b j (x ∷ is) e (suc n) i g =
      let z : suc j + n ≡ j + suc n = omega arith in
      subst (λ m. instr_fault t form f k b m i ≡ None) z (instrs-clean k b (suc j) is (or-second (option_map (fault_at b j) (instr_fault t form f k b j x)) (instrs_fault t form f k b (suc j) is) e) n i g)

  block-clean : (k : ℕ) (b : Block) (is : List Instr) → fault_in t form f k b is ≡ None → (block_fault t form f k b ≡ None) × ((j : ℕ) (i : Instr) → slice_get is j ≡ Some i → instr_fault t form f k b j i ≡ None)
  block-clean k b [] e = (none-mapped (fault_at b 0) (block_fault t form f k b) e, λ j i g. absurd (cc))
  block-clean k b (x ∷ is) e = (least-first (block_fault t form f k b) (instr_fault t form f k b 0 x) head, at)
    where
      head : least (block_fault t form f k b) (instr_fault t form f k b 0 x) ≡ None
      head = none-mapped (fault_at b 0) (least (block_fault t form f k b) (instr_fault t form f k b 0 x)) (or-first (option_map (fault_at b 0) (least (block_fault t form f k b) (instr_fault t form f k b 0 x))) (instrs_fault t form f k b 1 is) e)

      at : (j : ℕ) (i : Instr) → slice_get (x ∷ is) j ≡ Some i → instr_fault t form f k b j i ≡ None
      at zero i g = subst (λ y. instr_fault t form f k b 0 y ≡ None) (some-same x i g) (least-second (block_fault t form f k b) (instr_fault t form f k b 0 x) (none-mapped (fault_at b 0) (least (block_fault t form f k b) (instr_fault t form f k b 0 x)) (or-first (option_map (fault_at b 0) (least (block_fault t form f k b) (instr_fault t form f k b 0 x))) (instrs_fault t form f k b 1 is) e)))
      at (suc j) i g =
          let z : 1 + j ≡ suc j = omega arith in
          subst (λ m. instr_fault t form f k b m i ≡ None) z (instrs-clean k b 1 is (or-second (option_map (fault_at b 0) (least (block_fault t form f k b) (instr_fault t form f k b 0 x))) (instrs_fault t form f k b 1 is) e) j i g)

  blocks-clean : (k : ℕ) (bs : List Block) → blocks_fault t form f k bs ≡ None → (n : ℕ) (b : Block) → slice_get bs n ≡ Some b → Clean (k + n) b
  blocks-clean k [] e n b g = absurd (cc)
  blocks-clean k (c ∷ bs) e zero b g =
      let same : c ≡ b = some-same c b g in
      let z : k ≡ k + 0 = omega arith in
      subst (λ m. Clean m b) z (subst (λ y. Clean k y) same (block-clean k c c.instrs (or-first (fault_in t form f k c c.instrs) (blocks_fault t form f (suc k) bs) e)))
  blocks-clean k (c ∷ bs) e (suc n) b g =
      let z : suc k + n ≡ k + suc n = omega arith in
      subst (λ m. Clean m b) z (blocks-clean (suc k) bs (or-second (fault_in t form f k c c.instrs) (blocks_fault t form f (suc k) bs) e) n b g)

  module _ (clean : shape_fault t form f ≡ None) where
    pub all-clean : (n : ℕ) (b : Block) → slice_get f.blocks n ≡ Some b → Clean n b
    unfolding shape_fault
    all-clean n b g = let z : 0 + n ≡ n = omega arith in subst (λ m. Clean m b) z (blocks-clean 0 f.blocks clean n b g)

    block-five : (k : ℕ) (b : Block) → slice_get f.blocks k ≡ Some b → V5 f k b ≡ true
    unfolding block_fault
    block-five k b g = (holds 5 (V5 f k b) ((6, V6 f k b) ∷ (9, V9 t f k b) ∷ (10, V10 t f k b) ∷ (15, not (nat_eq k 0) || V15_frame form f) ∷ (16, V16 b) ∷ []) (all-clean k b g).0).0

    abbrev Seven : ℕ → Block → ℕ → Instr → Type 0
    Seven k b j i = (V1 t f i ≡ true) × (V2 t f i ≡ true) × (V3 f i ≡ true) × (V4 t f i ≡ true) × (V7 t form f k b j i ≡ true) × (V8 t b j i ≡ true) × (V12 t form f i ≡ true)

    abbrev checks : ℕ → Block → ℕ → Instr → List (ℕ × Bool)
    checks k b j i = (2, V2 t f i) ∷ (3, V3 f i) ∷ (4, V4 t f i) ∷ (7, V7 t form f k b j i) ∷ (8, V8 t b j i) ∷ (11, V11 t form f i) ∷ (12, V12 t form f i) ∷ (15, V15 t form f i) ∷ []

    abbrev fault-by : ℕ → Block → ℕ → Instr → Option OpcodeDesc → Option ℕ
    fault-by k b j i q = elim q [ None ↦ Some 16 | Some d ↦ cond (V1 t f i) (first_failing (checks k b j i)) (Some 1) ]

    by-first : (k : ℕ) (b : Block) (j : ℕ) (i : Instr) (v : Bool) → V1 t f i ≡ v → cond v (first_failing (checks k b j i)) (Some 1) ≡ None → Seven k b j i
    by-first k b j i false g h = absurd (cc)
    by-first k b j i true g h =
        let a = holds 2 (V2 t f i) ((3, V3 f i) ∷ (4, V4 t f i) ∷ (7, V7 t form f k b j i) ∷ (8, V8 t b j i) ∷ (11, V11 t form f i) ∷ (12, V12 t form f i) ∷ (15, V15 t form f i) ∷ []) h in
        let c = holds 3 (V3 f i) ((4, V4 t f i) ∷ (7, V7 t form f k b j i) ∷ (8, V8 t b j i) ∷ (11, V11 t form f i) ∷ (12, V12 t form f i) ∷ (15, V15 t form f i) ∷ []) a.1 in
        let d = holds 4 (V4 t f i) ((7, V7 t form f k b j i) ∷ (8, V8 t b j i) ∷ (11, V11 t form f i) ∷ (12, V12 t form f i) ∷ (15, V15 t form f i) ∷ []) c.1 in
        let p = holds 7 (V7 t form f k b j i) ((8, V8 t b j i) ∷ (11, V11 t form f i) ∷ (12, V12 t form f i) ∷ (15, V15 t form f i) ∷ []) d.1 in
        let e = holds 8 (V8 t b j i) ((11, V11 t form f i) ∷ (12, V12 t form f i) ∷ (15, V15 t form f i) ∷ []) p.1 in
        let q = holds 11 (V11 t form f i) ((12, V12 t form f i) ∷ (15, V15 t form f i) ∷ []) e.1 in
        let r = holds 12 (V12 t form f i) ((15, V15 t form f i) ∷ []) q.1 in
        (g, a.0, c.0, d.0, p.0, e.0, r.0)

    by-opcode : (k : ℕ) (b : Block) (j : ℕ) (i : Instr) (q : Option OpcodeDesc) → fault-by k b j i q ≡ None → Seven k b j i
    by-opcode k b j i None h = absurd (cc)
    by-opcode k b j i (Some d) h = by-first k b j i (V1 t f i) refl h

    rules-of : (k : ℕ) (b : Block) (j : ℕ) (i : Instr) → instr_fault t form f k b j i ≡ None → Seven k b j i
    unfolding instr_fault
    rules-of k b j i e = by-opcode k b j i (known_opcode t i.op) e

    -- a function in either form has phis only as a source may have them
    source-seven : (form : Form) (k : ℕ) (b : Block) (j : ℕ) (i : Instr) → V7 t form f k b j i ≡ true → V7 t forms.Source f k b j i ≡ true
    unfolding V7
    source-seven forms.Source k b j i h = h
    source-seven forms.Allocated k b j i h = go (effect_of t i) h
      where
        by : (e : Effect) → not (is_lowered_away e) ≡ true → (not (is_phi e) || phi_stands t f k b j i) ≡ true
        by effects.Phi g = absurd (cc)
        by e g = refl

        go : (q : Option Effect) → not (passes is_lowered_away q) ≡ true → (not (passes is_phi q) || phi_stands t f k b j i) ≡ true
        go None g = refl
        go (Some e) g = by e g

    -- it has `undef` definitions only as a source may have them
    source-twelve : (form : Form) (i : Instr) → V12 t form f i ≡ true → V12 t forms.Source f i ≡ true
    unfolding V12
    source-twelve forms.Source i h = h
    source-twelve forms.Allocated i h =
        let os = registers i.operands in
        let ds = filter (λ (o : RegOp). o.def) os in
        let early = list_all (early_fits t f (bound t i)) (numbered 0 (bound t i)) in
        let apart = no_two_share (map (defined_lanes t f (does is_opaque t i)) ds) in
        let first = list_all (undef_fits forms.Allocated os) ds in
        let uses = undef_uses_fit (does is_opaque t i) (bound t i) in
        let three = first_of_both (first && apart && early) uses h in
        let both = first_of_both (first && apart) early three in
        and_from _ _ (and_from _ _ (and_from _ _ (fewer os ds (first_of_both first apart both)) (second_of_both first apart both)) (second_of_both (first && apart) early three)) (second_of_both (first && apart && early) uses h)
      where
        fewer : (os ds : List RegOp) → list_all (undef_fits forms.Allocated os) ds ≡ true → list_all (undef_fits forms.Source os) ds ≡ true
        fewer os [] g = refl
        fewer os (d ∷ ds) g = and_from _ _ (ap (λ b. b || (is_virtual d.loc && nat_le (length (filter (λ o. same_loc o.loc d.loc) (namings os))) 1)) (first_of_both (not d.undef) (list_all (undef_fits forms.Allocated os) ds) g)) (fewer os ds (second_of_both (not d.undef) (list_all (undef_fits forms.Allocated os) ds) g))

    here : (b : Block) (i : Instr) → Member b f.blocks → Member i b.instrs → (k : ℕ) × (j : ℕ) × Seven k b j i
    here b i mb mi =
        let k = member-slice b f.blocks mb in
        let j = member-slice i b.instrs mi in
        (k.0, j.0, rules-of k.0 b j.0 i ((all-clean k.0 b k.1).1 j.0 i j.1))

    -- terminators stand last in their blocks
    pub ends : (b : Block) (j : ℕ) (i : Instr) → Member b f.blocks → slice_get b.instrs j ≡ Some i → V8 t b j i ≡ true
    ends b j i mb g = let k = member-slice b f.blocks mb in (rules-of k.0 b j i ((all-clean k.0 b k.1).1 j i g)).5

    pub keeps : AreClasses t f → KeepsRules t f
    keeps classes = record {
      classes = classes;
      shaped = λ b i mb mi. let z = (here b i mb mi).2 in record { operands = z.0; widths = z.1; classes = z.2; indexes = z.3; definitions = source-twelve form i z.6 };
      blocks = block-five;
      phis = λ k b j i g h. source-seven form k b j i (rules-of k b j i ((all-clean k b g).1 j i h)).4;
    }

pub valid-law : ValidLaw
valid-law t form f clean classes = keeps t form f clean classes
