-- A function after a join is in the form in which ranges are joined and split.
use Rattle.std.proofs.Common.{◌≡◌, ◌<◌, ◌≤◌, not, ◌||◌, ◌&&◌, ◌∙◌, ℕ, suc, Bool, true, false, cond, List, [], ◌∷◌, Option, Some, None, map, filter, length, refl, sym, ap, subst, arith}
use Rattle.std.specs.Prelude.{slice_get}
use Rattle.std.specs.List.{list_any}
use Rattle.std.proofs.lemmas.Bool.{and_right}
use Rattle.std.proofs.lemmas.Option.{same_Some}
use Rattle.target_base.specs.declared.types.Target.{Target}
use Rattle.target_base.specs.Rules.{is_copy}
use Rattle.meaning.specs.Live.{Among as Member, here as first, there as later}
use Rattle.mir_func.specs.declared.func.Instr.{Instr}
use Rattle.mir_func.specs.declared.func.Block.{Block}
use Rattle.mir_func.specs.Value.{Function, IsFunction, id_count, id_total}
use Rattle.mir_func.specs.Binding.{does, is_branch, is_lowered_away, registers}
use Rattle.mir_meaning.specs.declared.Form.TheVariants as forms
use Rattle.mir_meaning.specs.Rules.{V1, V5, V7, V8, V9, phi_stands}
use Rattle.instr_effects.proofs.Members.{filter-of, map-of}
use Rattle.live_laws.specs.Effects.Shaped.{IsShaped}
use Rattle.live_laws.proofs.Effects.Blocks.{slice-map, slice-member}
use Rattle.lowering_laws.specs.Form.{is_undef_definition, is_undef_use}
use Rattle.lowering_laws.specs.Shapes.{IsLowered}
use Rattle.edit_laws.proofs.ErasedLast.{total-step}
use Rattle.live_edits.specs.declared.fold.Join.{Join}
use Rattle.live_edits.specs.Folded.{becomes_identity, folded, folded_block, joined_instr, joined_operand}
use Rattle.live_edits.proofs.JoiningEdits.{count-step}
use Rattle.join_laws.specs.Laws.{HasPlainUndefs}
use Rattle.join_laws.specs.Quiet.{IsQuiet}
use Rattle.join_laws.proofs.Asked.{IsAsked}
use Rattle.join_laws.proofs.Apart.{twelve}
use Rattle.join_laws.proofs.Ends.{eight, first-behind, five, keep, nine}
use Rattle.join_laws.proofs.Named.{known, named, not-phi}
use Rattle.join_laws.proofs.Operands.{field-stays}
use Rattle.join_laws.proofs.Rules.{any-map, four, one, regs, three, two}
use Rattle.join_laws.proofs.Widths.{classes-after}

none-wrong : (t : Target) (f : Function) (is : List Instr) → ((i : Instr) → Member i is → V1 t f i ≡ true) → list_any (λ i. does is_branch t i && not (V1 t f i)) is ≡ false
none-wrong t f [] h = refl
none-wrong t f (i ∷ is) h = λ k. and_right (does is_branch t i) (not (V1 t f i)) (ap not (h i first)) k || none-wrong t f is (λ j m. h j (later m)) k

-- ids

module _ (t : Target) (f : Function) (j : Join) where
  count-left : (id : ℕ) (is : List Instr) → id_count id (map (joined_instr t j) (filter (keep t f j) is)) ≤ id_count id is
  count-left id [] = omega arith
  count-left id (i ∷ is) = go (becomes_identity t f j i) (count-left id is)
    where
      go : (u : Bool) → id_count id (map (joined_instr t j) (filter (keep t f j) is)) ≤ id_count id is → id_count id (map (joined_instr t j) (cond (not u) (i ∷ filter (keep t f j) is) (filter (keep t f j) is))) ≤ id_count id (i ∷ is)
      go true h = omega (arith, h, count-step id i is)
      go false h = omega (arith, h, count-step id i is, count-step id (joined_instr t j i) (map (joined_instr t j) (filter (keep t f j) is)))

  total-left : (id : ℕ) (bs : List Block) → id_total id (map (folded_block t f j) bs) ≤ id_total id bs
  total-left id [] = omega arith
  total-left id (b ∷ bs) = omega (arith, total-step id (folded_block t f j b) (map (folded_block t f j) bs), total-step id b bs, count-left id b.instrs, total-left id bs)

  blocks-left : (bs : List Block) → length (map (folded_block t f j) bs) ≡ length bs
  blocks-left [] = refl
  blocks-left (b ∷ bs) = ap suc (blocks-left bs)

  function-left : IsFunction f.blocks f.next_id → IsFunction (folded t j f).blocks (folded t j f).next_id
  function-left is = record {
    nonempty = subst (λ n. 0 < n) (sym (blocks-left f.blocks)) is.nonempty;
    once = λ id. omega (arith, total-left id f.blocks, is.once id);
  }

module _ (t : Target) (f : Function) (j : Join) (a : IsAsked t f j) (low : IsLowered t f) (plain : HasPlainUndefs t f) (quiet : IsQuiet t f j) where
  abbrev g : Function
  g = folded t j f

  -- an instruction that stays, as it was
  record IsOf (c : Block) (x : Instr) : Type 0 where
    pub block : Block
    pub instr : Instr
    pub there : Member block f.blocks
    pub inside : Member instr block.instrs
    pub is : x ≡ joined_instr t j instr

  of : (c : Block) (x : Instr) → Member c g.blocks → Member x c.instrs → IsOf c x
  of c x mc mx =
      let b = map-of (folded_block t f j) c f.blocks mc in
      let i = map-of (joined_instr t j) x (filter (keep t f j) b.0.instrs) (subst (λ (d : Block). Member x d.instrs) b.2 mx) in
      record { block = b.0; instr = i.0; there = b.1; inside = (filter-of (keep t f j) i.0 b.0.instrs i.1).0; is = i.2 }

  shape-kept : (b : Block) (i : Instr) → Member b f.blocks → Member i b.instrs → IsShaped t g (joined_instr t j i)
  shape-kept b i mb mi =
      let n = named t f j a low plain b i mb mi in
      let away = (known t i (low.lowered b i mb mi)).1 in
      let s = low.rules.shaped b i mb mi in
      record {
        operands = one t f j a i n away s;
        widths = two t f j a i n away s;
        classes = three t f j a i n away s;
        indexes = four t f j a i n away s;
        definitions = twelve t f j a low plain quiet b i mb mi;
      }

  shaped : (c : Block) (x : Instr) → Member c g.blocks → Member x c.instrs → IsShaped t g x
  shaped c x mc mx = let z = of c x mc mx in subst (IsShaped t g) (sym z.is) (shape-kept z.block z.instr z.there z.inside)

  lowered : (c : Block) (x : Instr) → Member c g.blocks → Member x c.instrs → does (λ e. not (is_lowered_away e)) t x ≡ true
  lowered c x mc mx = let z = of c x mc mx in ap (does (λ e. not (is_lowered_away e)) t) z.is ∙ low.lowered z.block z.instr z.there z.inside

  -- blocks

  at : (k : ℕ) (c : Block) → slice_get g.blocks k ≡ Some c → (b : Block) × (slice_get f.blocks k ≡ Some b) × (c ≡ folded_block t f j b)
  at k c e = go (slice_get f.blocks k) refl (sym (slice-map (folded_block t f j) f.blocks k) ∙ e)
    where
      go : (q : Option Block) → slice_get f.blocks k ≡ q → elim q as (λ q. Option Block) [ None ↦ None | Some b ↦ Some (folded_block t f j b) ] ≡ Some c → (b : Block) × (slice_get f.blocks k ≡ Some b) × (c ≡ folded_block t f j b)
      go None h p = absurd (cc)
      go (Some b) h p = (b, h, sym (same_Some (folded_block t f j b) c p))

  rule-five : (k : ℕ) (c : Block) → slice_get g.blocks k ≡ Some c → V5 g k c ≡ true
  rule-five k c e = let z = at k c e in subst (λ d. V5 g k d ≡ true) (sym z.2) (five t f j z.0 k ∙ low.rules.blocks k z.0 z.1)

  rule-seven : (k : ℕ) (c : Block) (n : ℕ) (x : Instr) → slice_get g.blocks k ≡ Some c → slice_get c.instrs n ≡ Some x → V7 t forms.Source g k c n x ≡ true
  unfolding V7
  rule-seven k c n x e q =
      let z = known t x (lowered c x (slice-member g.blocks k c e) (slice-member c.instrs n x q)) in
      ap (λ u. not u || phi_stands t g k c n x) (not-phi t x z.1).0

  rule-eight : (c : Block) (n : ℕ) (x : Instr) → Member c g.blocks → slice_get c.instrs n ≡ Some x → V8 t c n x ≡ true
  rule-eight c n x mc =
      let z = map-of (folded_block t f j) c f.blocks mc in
      subst (λ (d : Block). slice_get d.instrs n ≡ Some x → V8 t d n x ≡ true) (sym z.2) (eight t f j z.0 (λ k i e. low.terminators z.0 k i z.1 e) n x)

  rule-nine : (k : ℕ) (c : Block) → slice_get g.blocks k ≡ Some c → V9 t g k c ≡ true
  rule-nine k c e =
      let z = at k c e in
      let mb : Member z.0 f.blocks = slice-member f.blocks k z.0 z.1 in
      let right : list_any (λ i. does is_branch t i && not (V1 t g i)) c.instrs ≡ false = none-wrong t g c.instrs (λ i m. (shaped c i (slice-member g.blocks k c e) m).operands) in
      subst (λ d. V9 t g k d ≡ true) (sym z.2)
      (nine t f j z.0 (λ n i q. low.terminators z.0 n i mb q) g k (first-behind t f j (suc k) f.blocks)
      (subst (λ (d : Block). list_any (λ i. does is_branch t i && not (V1 t g i)) d.instrs ≡ false) z.2 right)
      (none-wrong t f z.0.instrs (λ i m. (low.rules.shaped z.0 i mb m).operands))
      ∙ low.successors k z.0 z.1)

  pub join-lowered : IsLowered t g
  join-lowered = record {
    function = function-left t f j low.function;
    rules = record { classes = classes-after t f j a low.rules.classes; shaped = shaped; blocks = rule-five; phis = rule-seven };
    lowered = lowered;
    terminators = rule-eight;
    successors = rule-nine;
  }

  -- `undef` marks stay

  definitions-same : (i : Instr) → list_any is_undef_definition (registers (joined_instr t j i).operands) ≡ list_any is_undef_definition (registers i.operands)
  definitions-same i = ap (list_any is_undef_definition) (regs t f j a i.operands) ∙ any-map is_undef_definition is_undef_definition (joined_operand t j) (λ o. field-stays t f j a is_undef_definition o refl) (registers i.operands)

  uses-same : (i : Instr) → list_any is_undef_use (registers (joined_instr t j i).operands) ≡ list_any is_undef_use (registers i.operands)
  uses-same i = ap (list_any is_undef_use) (regs t f j a i.operands) ∙ any-map is_undef_use is_undef_use (joined_operand t j) (λ o. field-stays t f j a is_undef_use o refl) (registers i.operands)

  pub join-plain : HasPlainUndefs t g
  join-plain c x mc mx =
      let z = of c x mc mx in
      let p = plain z.block z.instr z.there z.inside in
      subst (λ y. (list_any is_undef_definition (registers y.operands) ≡ false) × ((does is_copy t y && list_any is_undef_use (registers y.operands)) ≡ false)) (sym z.is)
      (definitions-same z.instr ∙ p.0, (λ k. does is_copy t z.instr && uses-same z.instr k) ∙ p.1)
