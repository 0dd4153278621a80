-- What instructions become in two-address form gives no register to a reserved lane, but for copies of the function itself.
use Rattle.std.proofs.Common.{◌≡◌, inl, ◌∷◌, ◌++◌, ◌∙◌, ◌&&◌, not, ℕ, Bool, true, false, cond, List, [], Option, Some, None, map, flat_map, length, refl, sym, ap, subst}
use Rattle.std.specs.Prelude.{drop, filter_map, slice_get}
use Rattle.std.specs.List.{list_any}
use Rattle.target_base.specs.declared.types.ClassId.{ClassId}
use Rattle.target_base.specs.declared.types.Effect.{Effect}
use Rattle.target_base.specs.declared.types.Effect.TheVariants as effects
use Rattle.target_base.specs.declared.types.IndexId.{IndexId}
use Rattle.target_base.specs.declared.types.Target.{Target}
use Rattle.target_base.specs.Roles.{is_silent, is_tied}
use Rattle.target_base.specs.Rules.{is_copy, is_insert_subreg, is_phi, is_reg_sequence}
use Rattle.target_base.proofs.Tests.{first_of_both, second_of_both}
use Rattle.meaning.specs.Code.{BlockEnd, BlockStart, Code, Counted, Item, Silent}
use Rattle.meaning.specs.Live.{Among, here, there}
use Rattle.meaning.specs.declared.types.Lane.{Lane}
use Rattle.mir_func.specs.declared.func.Loc.{Loc}
use Rattle.mir_func.specs.declared.func.Loc.TheVariants.{Fixed, Virtual}
use Rattle.mir_func.specs.declared.func.RegOp.{RegOp}
use Rattle.mir_func.specs.declared.func.Operand.{Operand}
use Rattle.mir_func.specs.declared.func.Operand.TheVariants as operands
use Rattle.mir_func.specs.declared.func.Op.TheVariants as ops
use Rattle.mir_func.specs.declared.func.Instr.{Instr}
use Rattle.mir_func.specs.declared.func.Block.{Block}
use Rattle.mir_func.specs.Value.{Function}
use Rattle.mir_func.specs.Binding.{TiedPair, does, effect_of, is_definition, is_virtual, passes, puts_together, register_at, roles_of, tied_pair}
use Rattle.mir_meaning.specs.Codes.{item_of, way}
use Rattle.mir_meaning.specs.Registers.{is_reserved}
use Rattle.mir_meaning.specs.Rules.{V15, copy_fits, index_pairs, insertion, is_whole_definition, result_and, spills_or_reloads}
use Rattle.phi_elim.specs.Moves.{copy_of, destination_of, implicit_def_op, move_of, source_of, undefining, whole_definition, whole_use}
use Rattle.two_address.specs.Classes.{seated}
use Rattle.two_address.specs.Lowered.{copy_form, form_classes, form_lowered, form_of, instr_classes, instr_lowered, insertion_form, part_of_two, sequence_form, virtual_in, virtual_loc}
use Rattle.two_address.specs.Sequences.{at_last, beginning, built, fill_all, into_part, is_input, keeping_text, parts_of}
use Rattle.two_address.specs.Ties.{copies, ties_in, undefined_first, undefined_whole, with_operands}
use Rattle.two_address.specs.declared.forms.InstrLowering.{InstrLowering}
use Rattle.two_address.specs.declared.forms.InstrLowering.TheVariants as forms
use Rattle.two_address.specs.declared.sequences.SubregInput.{SubregInput}
use Rattle.two_address.specs.declared.ties.Tie.{Tie}
use Rattle.instr_effects.proofs.Members.{member-none}
use Rattle.live_laws.specs.Effects.Shaped.{AreClasses}
use Rattle.live_laws.proofs.Touch.Roles.{has_roles, met}
use Rattle.lowering_laws.proofs.Counted.{CountedInstr, tie-is, virtual}
use Rattle.lowering_laws.proofs.Made.{Stands}
use Rattle.lowering_laws.proofs.Operands.{known-effect}
use Rattle.lowering_laws.proofs.Placed.{copy-effect, undef-effect}
use Rattle.lowering_laws.proofs.Plain.{none-tied, other-form}
use Rattle.lowering_laws.proofs.Replaced.{h}
use Rattle.lowering_laws.proofs.Rolled.{addr-untied, const-untied, undef-untied}
use Rattle.lowering_laws.proofs.Ruled.{InstrRules}
use Rattle.lowering_laws.proofs.Tying.{IsTie, Kind, aside, blank, copied as copied_kind, fixed, is_read, own}
use Rattle.ready_laws.proofs.Given.{IsCalm, calm, copy-calm, copy-fine}
use Rattle.ready_laws.proofs.Lived.{Fine}

not-true : (b : Bool) → not b ≡ true → b ≡ false
not-true true e = absurd (cc)
not-true false e = refl

module _ (t : Target) (g : Function) (bare : (n m : ℕ) → (way t g n m).phis ≡ []) where
  -- the item of the instruction is calm, in whatever block and with whatever flags and tail
  abbrev Calms : Instr → Type 0
  Calms x = (b : Block) (j : Instr) → IsCalm t g (item_of t g b (record x { flags = j.flags; tail = j.tail }))

  abbrev pub AllCalm : List Instr → Type 0
  AllCalm [] = Unit {0}
  AllCalm (x ∷ xs) = Calms x × AllCalm xs

  abbrev R : Lane → Bool
  R = is_reserved t

  one-fine : (x : Item) (p : Code) → IsCalm t g x → Fine R p → Fine R (x ∷ p)
  one-fine (BlockStart n) p z f = absurd z.0
  one-fine (BlockEnd falls exits) p z f = absurd z.0
  one-fine (Silent reads ws) p z f = (z.0.0, z.0.1, inl z.1, f)
  one-fine (Counted r reads ws target exits) p z f = (z.0.0, z.0.1, z.1, f)

  pub all-fine : (b : Block) (xs : List Instr) → AllCalm xs → Fine R (map (item_of t g b) xs)
  all-fine b [] a = tt
  all-fine b (x ∷ xs) a = one-fine (item_of t g b x) (map (item_of t g b) xs) (a.0 b x) (all-fine b xs a.1)

  before-fine : (b : Block) (xs : List Instr) (p : Code) → AllCalm xs → Fine R p → Fine R (map (item_of t g b) xs ++ p)
  before-fine b [] p a f = f
  before-fine b (x ∷ xs) p a f = one-fine (item_of t g b x) (map (item_of t g b) xs ++ p) (a.0 b x) (before-fine b xs p a.1 f)

  calm-append : (xs ys : List Instr) → AllCalm xs → AllCalm ys → AllCalm (xs ++ ys)
  calm-append [] ys a b = b
  calm-append (x ∷ xs) ys a b = (a.0, calm-append xs ys a.1 b)

  calm-flat : {A : Type 0} (make : A → List Instr) (xs : List A) → ((x : A) → Among x xs → AllCalm (make x)) → AllCalm (flat_map make xs)
  calm-flat make [] a = tt
  calm-flat make (x ∷ xs) a = calm-append (make x) (flat_map make xs) (a x here) (calm-flat make xs (λ y m. a y (there m)))

  -- what lowering makes

  undefining-calm : (d : RegOp) → Calms (undefining d)
  undefining-calm d b j =
      let x : Instr = record (undefining d) { flags = j.flags; tail = j.tail } in
      calm t g bare b x effects.ImplicitDef (undef-effect t x refl) refl refl refl

  copying-calm : (d s : RegOp) (v : ℕ) → d.loc ≡ Virtual v → Calms (copy_of d s)
  copying-calm d s v loc b j =
      let x : Instr = record (copy_of d s) { flags = j.flags; tail = j.tail } in
      copy-calm t g bare b x d s v (copy-effect t x refl) refl loc

  move-calm : (d s : RegOp) (v : ℕ) → d.loc ≡ Virtual v → Calms (move_of d s)
  move-calm d s v loc = go s.undef
    where
      go : (y : Bool) → Calms (cond y (undefining d) (copy_of d (source_of s)))
      go true = undefining-calm d
      go false = copying-calm d (source_of s) v loc

  first-calm : (x : Operand) → AllCalm (undefined_first x)
  first-calm (operands.Reg p) = go (is_definition p && p.undef)
    where
      whole : (l : Loc) → AllCalm (undefined_whole l)
      whole (Virtual v) = (undefining-calm (whole_definition v), tt)
      whole (Fixed q) = tt

      go : (y : Bool) → AllCalm (cond y (undefined_whole p.loc) [])
      go true = whole p.loc
      go false = tt
  first-calm x = tt

  firsts-calm : (os : List Operand) → AllCalm (flat_map undefined_first os)
  firsts-calm os = calm-flat undefined_first os (λ x m. first-calm x)

  parts-calm : (to : ℕ) (ps : List SubregInput) → AllCalm (map (into_part to) ps)
  parts-calm to [] = tt
  parts-calm to (p ∷ ps) = (move-calm (record (whole_definition to) { index = Some p.index }) p.input to refl, parts-calm to ps)

  last-calm : (c v : ℕ) (ps : List SubregInput) → AllCalm (at_last c v ps)
  last-calm c v ps = go (is_input (Virtual v) ps)
    where
      go : (y : Bool) → AllCalm (cond y (copy_of (whole_definition v) (whole_use c) ∷ []) [])
      go true = (copying-calm (whole_definition v) (whole_use c) v refl, tt)
      go false = tt

  begun-calm : (k : Option ClassId) (to : ℕ) (ps : List SubregInput) → AllCalm (beginning t k to ps)
  begun-calm k to ps = go (fill_all t k ps)
    where
      go : (y : Bool) → AllCalm (cond y [] (undefining (whole_definition to) ∷ []))
      go true = tt
      go false = (undefining-calm (whole_definition to), tt)

  text-calm : (i : Instr) (xs : List Instr) → AllCalm xs → AllCalm (keeping_text i xs)
  text-calm i [] a = tt
  text-calm i (x ∷ xs) a = ((λ b j. a.0 b j), a.1)

-- instructions of the function
module _ (t : Target) (f : Function) (g : Function) (bare : (n m : ℕ) → (way t g n m).phis ≡ []) (classes : AreClasses t f) (i : Instr) (r : InstrRules t f i) (no-phi : does is_phi t i ≡ false) (c : ℕ) (stands : Stands (h t f).classes (length f.classes) c (instr_classes t f.classes c i)) where
  abbrev Q : Lane → Bool
  Q = is_reserved t

  abbrev Calmly : List Instr → Type 0
  Calmly xs = AllCalm t g bare xs

  abbrev Lowers : Type 0
  Lowers = (b : Block) → Fine Q (map (item_of t g b) (instr_lowered t f.classes c i))

  by-form : (x : InstrLowering) → form_of t i ≡ x → Calmly (form_lowered t f.classes c i x) → Lowers
  by-form x e a b = all-fine t g bare b (instr_lowered t f.classes c i) (calm-append t g bare (flat_map undefined_first i.operands) (form_lowered t f.classes c i (form_of t i)) (firsts-calm t g bare i.operands) (subst (λ y. Calmly (form_lowered t f.classes c i y)) (sym e) a))

  append-map : {A B : Type 0} (make : A → B) (xs ys : List A) → map make (xs ++ ys) ≡ map make xs ++ map make ys
  append-map make [] ys = refl
  append-map make (x ∷ xs) ys = ap (λ zs. make x ∷ zs) (append-map make xs ys)

  copy-fine' : effect_of t i ≡ Some effects.Copy → Lowers
  copy-fine' known b = by i.operands refl (met t f i effects.Copy known r.one).3
    where
      last : (d s : RegOp) (y : Bool) → Fine Q (item_of t g b (cond y (record i { op = ops.Known implicit_def_op; operands = operands.Reg (destination_of d) ∷ [] }) (record i { operands = operands.Reg (record d { undef = false }) ∷ operands.Reg s ∷ [] })) ∷ [])
      last d s true =
          let x : Instr = record i { op = ops.Known implicit_def_op; operands = operands.Reg (destination_of d) ∷ [] } in
          one-fine t g bare (item_of t g b x) [] (calm t g bare b x effects.ImplicitDef (undef-effect t x refl) refl refl refl) tt
      last d s false = copy-fine t g bare b (record i { operands = operands.Reg (record d { undef = false }) ∷ operands.Reg s ∷ [] }) known

      by : (os : List Operand) → i.operands ≡ os → copy_fits os ≡ true → Fine Q (map (item_of t g b) (instr_lowered t f.classes c i))
      by (operands.Reg d ∷ operands.Reg s ∷ []) are e =
          let form : form_of t i ≡ forms.Copy d s =
          λ k. cond (passes is_copy (known k)) (copy_form (register_at (are k) 0) (register_at (are k) 1))
          (cond (does is_reg_sequence t i) (sequence_form (virtual_in (register_at i.operands 0)))
          (cond (does is_insert_subreg t i) (insertion_form (virtual_in (register_at i.operands 0)) (register_at i.operands 1) (part_of_two (slice_get i.operands 2) (slice_get i.operands 3))) forms.Other)) in
          subst (λ x. Fine Q (map (item_of t g b) (flat_map undefined_first i.operands ++ form_lowered t f.classes c i x))) (sym form)
          (subst (Fine Q) (sym (append-map (item_of t g b) (flat_map undefined_first i.operands) (form_lowered t f.classes c i (forms.Copy d s))))
          (before-fine t g bare b (flat_map undefined_first i.operands) (map (item_of t g b) (form_lowered t f.classes c i (forms.Copy d s))) (firsts-calm t g bare i.operands) (last d s s.undef)))
      by _ are e = absurd (cc)

  sequence-fine : effect_of t i ≡ Some effects.RegSequence → Lowers
  sequence-fine known = by i.operands refl (met t f i effects.RegSequence known r.one).3
    where
      at : (d : RegOp) (rest : List Operand) → i.operands ≡ operands.Reg d ∷ rest → (l : Loc) → d.loc ≡ l → is_virtual l ≡ true → Lowers
      at d rest are (Virtual v) loc e =
          let form : form_of t i ≡ forms.Sequence v =
          (λ k. cond (passes is_copy (known k)) (copy_form (register_at i.operands 0) (register_at i.operands 1))
          (cond (passes is_reg_sequence (known k)) (sequence_form (virtual_in (register_at (are k) 0)))
          (cond (does is_insert_subreg t i) (insertion_form (virtual_in (register_at i.operands 0)) (register_at i.operands 1) (part_of_two (slice_get i.operands 2) (slice_get i.operands 3))) forms.Other)))
          ∙ (λ k. sequence_form (virtual_loc (loc k))) in
          let ps = parts_of (drop 1 i.operands) in
          let to = built c v ps in
          by-form (forms.Sequence v) form
          (text-calm t g bare i (beginning t (elim (slice_get f.classes v) as (λ q. Option ClassId) [ None ↦ None | Some k ↦ k ]) to ps ++ (map (into_part to) ps ++ at_last c v ps))
          (calm-append t g bare _ _ (begun-calm t g bare _ to ps) (calm-append t g bare _ _ (parts-calm t g bare to ps) (last-calm t g bare c v ps))))
      at d rest are (Fixed q) loc e = absurd (cc)

      by : (os : List Operand) → i.operands ≡ os → result_and index_pairs os ≡ true → Lowers
      by (operands.Reg d ∷ rest) are e = at d rest are d.loc refl (second_of_both (is_definition d) (is_virtual d.loc) (first_of_both _ _ (first_of_both (is_whole_definition d) (index_pairs rest) e)))
      by os are e = absurd (cc)

  insertion-fine : effect_of t i ≡ Some effects.InsertSubreg → Lowers
  insertion-fine known = by i.operands refl (met t f i effects.InsertSubreg known r.one).3
    where
      at : (d a s : RegOp) (x : IndexId) → i.operands ≡ operands.Reg d ∷ operands.Reg a ∷ operands.Reg s ∷ operands.Index x ∷ [] → (l : Loc) → d.loc ≡ l → is_virtual l ≡ true → Lowers
      at d a s x are (Virtual v) loc e =
          let p : SubregInput = record { input = s; index = x } in
          let form : form_of t i ≡ forms.Insertion v a p =
          (λ k. cond (passes is_copy (known k)) (copy_form (register_at i.operands 0) (register_at i.operands 1))
          (cond (passes is_reg_sequence (known k)) (sequence_form (virtual_in (register_at i.operands 0)))
          (cond (passes is_insert_subreg (known k)) (insertion_form (virtual_in (register_at (are k) 0)) (register_at (are k) 1) (part_of_two (slice_get (are k) 2) (slice_get (are k) 3))) forms.Other)))
          ∙ (λ k. insertion_form (virtual_loc (loc k)) (Some a) (p ∷ [])) in
          let to = built c v (p ∷ []) in
          by-form (forms.Insertion v a p) form
          (text-calm t g bare i (move_of (whole_definition to) a ∷ into_part to p ∷ at_last c v (p ∷ []))
          (move-calm t g bare (whole_definition to) a to refl, (move-calm t g bare (record (whole_definition to) { index = Some p.index }) p.input to refl, last-calm t g bare c v (p ∷ []))))
      at d a s x are (Fixed q) loc e = absurd (cc)

      rest : (d : RegOp) (os : List Operand) → i.operands ≡ operands.Reg d ∷ os → is_virtual d.loc ≡ true → insertion os ≡ true → Lowers
      rest d (operands.Reg a ∷ operands.Reg s ∷ operands.Index x ∷ []) are w e = at d a s x are d.loc refl w
      rest d os are w e = absurd (cc)

      by : (os : List Operand) → i.operands ≡ os → result_and insertion os ≡ true → Lowers
      by (operands.Reg d ∷ os) are e =
          let whole = first_of_both (is_whole_definition d) (insertion os) e in
          rest d os are (second_of_both (is_definition d) (is_virtual d.loc) (first_of_both _ _ whole)) (second_of_both (is_whole_definition d) (insertion os) e)
      by os are e = absurd (cc)

  -- others

  abbrev CopiesCalm : Tie → Type 0
  CopiesCalm tie = Calmly (copies tie.before) × Calmly (copies tie.after)

  module _ (e : Effect) (q : effect_of t i ≡ Some e) (one : is_copy e ≡ false) (two : puts_together e ≡ false) (quiet : spills_or_reloads e ≡ false) where
    ties-fine : ((tie : Tie) → Among tie (ties_in t c i) → CopiesCalm tie) → Lowers
    ties-fine all =
        let T = ties_in t c i in
        by-form forms.Other (other-form t i e q one two)
        (calm-append t g bare (flat_map (λ (tie : Tie). copies tie.before) T) (with_operands t f.classes T i ∷ flat_map (λ (tie : Tie). copies tie.after) T)
        (calm-flat t g bare (λ (tie : Tie). copies tie.before) T (λ x m. (all x m).0))
        ((λ b j. calm t g bare b (record (with_operands t f.classes T i) { flags = j.flags; tail = j.tail }) e q one two quiet), calm-flat t g bare (λ (tie : Tie). copies tie.after) T (λ x m. (all x m).1)))

    none-fine : list_any is_tied (roles_of t i) ≡ false → Lowers
    none-fine none = ties-fine (λ tie m. absurd (member-none tie (subst (Among tie) (none-tied t i e q c none) m)))

    module _ (three : is_silent e ≡ false) (rolled : has_roles e ≡ true) where
      site : CountedInstr
      site = record { t = t; f = f; classes = classes; i = i; r = r; e = e; known = q; counts = three; rolled = rolled; form = (one, two); c = c; stands = subst (λ x. Stands (h t f).classes (length f.classes) c (form_classes t f.classes c i x)) (other-form t i e q one two) stands }

      d-virtual : (p : TiedPair) → Among p (filter_map (tied_pair i.operands) (seated t i)) → is_virtual p.tied_use.loc ≡ true → (v : ℕ) × (p.definition.loc ≡ Virtual v)
      unfolding site
      d-virtual p m a = let z = virtual site p m a in (z.0, z.1)

      tie-calm : (tie : Tie) → Among tie (ties_in t c i) → CopiesCalm tie
      unfolding site
      tie-calm tie m = by (tie-is site tie m) (tie-is site tie m).kind
        where
          by : (z : IsTie (seated t i) (h t f) (roles_of t i) (length f.classes) (filter_map (tied_pair i.operands) (seated t i)) tie) → Kind z.new z.pair (is_read (seated t i) z.pair) tie → CopiesCalm tie
          by z (fixed a k) = subst CopiesCalm (sym k) (tt, tt)
          by z (blank a u k) = subst CopiesCalm (sym k) (tt, tt)
          by z (own a u l w k) = subst CopiesCalm (sym k) (tt, tt)
          by z (copied_kind a u w k) =
              let d = z.pair.definition in
              let y = d-virtual z.pair z.member a in
              subst CopiesCalm (sym k) ((copying-calm t g bare (destination_of d) (source_of z.pair.tied_use) y.0 y.1, tt), tt)
          by z (aside a u k) =
              let d = z.pair.definition in
              let y = d-virtual z.pair z.member a in
              subst CopiesCalm (sym k) ((copying-calm t g bare (whole_definition z.new) (source_of z.pair.tied_use) z.new refl, tt), (copying-calm t g bare (destination_of d) (whole_use z.new) y.0 y.1, tt))

      counted-fine : Lowers
      counted-fine = ties-fine tie-calm

  none-spilled : does spills_or_reloads t i ≡ false
  unfolding V15
  none-spilled = not-true (does spills_or_reloads t i) r.fifteen

  by-effect : (e : Effect) → effect_of t i ≡ Some e → Lowers
  by-effect effects.Copy q = copy-fine' q
  by-effect effects.ImplicitDef q = none-fine effects.ImplicitDef q refl refl refl (undef-untied t i q)
  by-effect effects.Const q = none-fine effects.Const q refl refl refl (const-untied t f i q r.one)
  by-effect effects.Addr q = none-fine effects.Addr q refl refl refl (addr-untied t f i q r.one)
  by-effect effects.Phi q = absurd (let x : true ≡ false = ap (passes is_phi) (sym q) ∙ no-phi in cc)
  by-effect effects.RegSequence q = sequence-fine q
  by-effect effects.InsertSubreg q = insertion-fine q
  by-effect effects.Spill q = absurd (let x : true ≡ false = ap (passes spills_or_reloads) (sym q) ∙ none-spilled in cc)
  by-effect effects.Reload q = absurd (let x : true ≡ false = ap (passes spills_or_reloads) (sym q) ∙ none-spilled in cc)
  by-effect e q = counted-fine e q refl refl refl refl refl

  -- what the instruction becomes
  pub instr-fine : Lowers
  instr-fine = let e = known-effect t f i r in by-effect e.0 e.1
