-- Behind lowering flags and ties that are written are still the opcode's.
use Rattle.std.proofs.Common.{◌≡◌, ◌⊎◌, inl, inr, ◌∷◌, ◌++◌, ◌∙◌, ◌&&◌, ◌+◌, not, ℕ, Bool, true, false, cond, List, [], Option, Some, None, map, flat_map, length, drop, refl, sym, ap, subst}
use Rattle.std.specs.Prelude.{filter_map, is_none, option_and_then, slice_get, unwrap_or}
use Rattle.std.specs.List.{list_all}
use Rattle.std.proofs.lemmas.Bool.{not-true}
use Rattle.target_base.specs.declared.types.ClassId.{ClassId}
use Rattle.target_base.specs.declared.types.Effect.{Effect}
use Rattle.target_base.specs.declared.types.Effect.TheVariants as effects
use Rattle.target_base.specs.declared.types.IndexId.{IndexId}
use Rattle.target_base.specs.declared.types.Reg.{Reg}
use Rattle.target_base.specs.declared.types.Role.{Role}
use Rattle.target_base.specs.declared.types.Target.{Target}
use Rattle.target_base.specs.Rules.{is_copy, is_insert_subreg, is_phi, is_reg_sequence}
use Rattle.target_base.proofs.Tests.{first_of_both, second_of_both}
use Rattle.meaning.specs.Live.{Among as Member, here as first, there as later}
use Rattle.mir_func.specs.declared.func.Loc.{Loc}
use Rattle.mir_func.specs.declared.func.Loc.TheVariants.{Fixed, Virtual}
use Rattle.mir_func.specs.declared.func.RegOp.{RegOp}
use Rattle.mir_func.specs.declared.func.Operand.{Operand}
use Rattle.mir_func.specs.declared.func.Operand.TheVariants as operands
use Rattle.mir_func.specs.declared.func.Op.TheVariants as ops
use Rattle.mir_func.specs.declared.func.Instr.{Instr}
use Rattle.mir_func.specs.declared.func.Block.{Block}
use Rattle.mir_func.specs.Value.{Function}
use Rattle.mir_func.specs.Binding.{TiedPair, bound, does, effect_of, explicit_bound, explicit_roles, is_definition, is_virtual, numbered as with_numbers, passes, puts_together, register_at, registers, roles_of, tied_number, tied_pair}
use Rattle.mir_meaning.specs.Points.{has_no_phis}
use Rattle.mir_meaning.specs.Rules.{V11, copy_fits, flags_fit, implicit_def_fits, index_pairs, insertion, is_whole_definition, result_and}
use Rattle.phi_elim.specs.Moves.{copy_of, destination_of, implicit_def_op, move_of, source_of, undefining, whole_definition, whole_use}
use Rattle.phi_elim.specs.Numbered.{blocks_numbered, numbered}
use Rattle.phi_elim.specs.Phis.{located_class, phis_lowered}
use Rattle.two_address.specs.Classes.{class_asked, first_register, seated}
use Rattle.two_address.specs.Lowered.{blocks_lowered, classes_made, copy_form, form_lowered, form_of, instr_lowered, instrs_lowered, insertion_form, next_range, part_of_two, sequence_form, ties_lowered, virtual_in, virtual_loc}
use Rattle.two_address.specs.Sequences.{at_last, beginning, built, fill_all, into_part, is_input, keeping_text, parts_of}
use Rattle.two_address.specs.Ties.{copies, copy_lowered, defined_aside, defined_use, retied_operand, retied_use, tie_to, tied_lowered, ties_in, undef_fixed, undef_use_of, untied, undefined_first, undefined_whole, use_of, with_operands, with_ties}
use Rattle.two_address.specs.declared.forms.InstrLowering.TheVariants as forms
use Rattle.two_address.specs.declared.sequences.SubregInput.{SubregInput}
use Rattle.two_address.specs.declared.ties.Tie.{Tie}
use Rattle.instr_effects.proofs.Members.{member-elim, member-none}
use Rattle.live_laws.proofs.Effects.Lists.{all-of}
use Rattle.live_laws.proofs.Touch.Roles.{has_roles, met}
use Rattle.lowering_laws.proofs.Blocks.{phis_are_gone}
use Rattle.lowering_laws.proofs.Eliminated.{eliminated-rules}
use Rattle.lowering_laws.proofs.FormedTies.{each-tie, register-from, stay-implicit}
use Rattle.lowering_laws.proofs.Operands.{known-effect}
use Rattle.lowering_laws.proofs.Plain.{none-tied, other-form}
use Rattle.lowering_laws.proofs.Rolled.{bare-roles, fit-operands, undef-untied}
use Rattle.lowering_laws.proofs.Ruled.{EachRules, InstrRules, all-rules, each-rules}
use Rattle.lowering_laws.proofs.Tying.{Kind, aside, blank, copied, fixed, found-or, is_read, own}
use Rattle.valid_laws.specs.Kept.{LoweredHasFlags}
use Rattle.valid_laws.proofs.Marks.{AllMarked, IsPlain, KeepsMarks, Marked, StaysOrPlain, bare-operand, changed-marked, fits-or, marked-append, marked-flat, marked-numbered, marked-of, one-marked, two-marked}

-- instructions that lowering makes

module _ (t : Target) where
  move-marked : (to from : RegOp) → IsPlain to → Marked t (move_of to from)
  move-marked to from p = go from.undef
    where
      go : (y : Bool) → Marked t (cond y (undefining to) (copy_of to (source_of from)))
      go true = one-marked t (undefining to) to refl p
      go false = two-marked t (copy_of to (source_of from)) to (source_of from) refl p (refl, refl)

  first-marked : (o : Operand) → AllMarked t (undefined_first o)
  first-marked (operands.Reg p) = go (is_definition p && p.undef)
    where
      whole : (l : Loc) → AllMarked t (undefined_whole l)
      whole (Virtual v) = (one-marked t (undefining (whole_definition v)) (whole_definition v) refl (refl, refl), tt)
      whole (Fixed r) = tt

      go : (y : Bool) → AllMarked t (cond y (undefined_whole p.loc) [])
      go true = whole p.loc
      go false = tt
  first-marked o = tt

  parts-marked : (to : ℕ) (ps : List SubregInput) → AllMarked t (map (into_part to) ps)
  parts-marked to [] = tt
  parts-marked to (p ∷ ps) = (move-marked (record (whole_definition to) { index = Some p.index }) p.input (refl, refl), parts-marked to ps)

  last-marked : (c v : ℕ) (ps : List SubregInput) → AllMarked t (at_last c v ps)
  last-marked c v ps = go (is_input (Virtual v) ps)
    where
      go : (y : Bool) → AllMarked t (cond y (copy_of (whole_definition v) (whole_use c) ∷ []) [])
      go true = (two-marked t (copy_of (whole_definition v) (whole_use c)) (whole_definition v) (whole_use c) refl (refl, refl) (refl, refl), tt)
      go false = tt

  begun-marked : (k : Option ClassId) (to : ℕ) (ps : List SubregInput) → AllMarked t (beginning t k to ps)
  begun-marked k to ps = go (fill_all t k ps)
    where
      go : (y : Bool) → AllMarked t (cond y [] (undefining (whole_definition to) ∷ []))
      go true = tt
      go false = (one-marked t (undefining (whole_definition to)) (whole_definition to) refl (refl, refl), tt)

  kept-marked : (i : Instr) (xs : List Instr) → AllMarked t xs → AllMarked t (keeping_text i xs)
  kept-marked i [] m = tt
  kept-marked i (x ∷ xs) m = m

-- an instruction with its ties lowered

module _ (t : Target) (f : Function) (i : Instr) (r : InstrRules t f i) (e : Effect) (known : effect_of t i ≡ Some e) (rolled : has_roles e ≡ true) (cs : List (Option ClassId)) (c : ℕ) (marks : Marked t i) where
  abbrev rs : List Role
  rs = explicit_roles (roles_of t i)

  abbrev ps : List TiedPair
  ps = filter_map (tied_pair i.operands) (seated t i)

  abbrev T : List Tie
  T = ties_in t c i

  abbrev new : Instr
  new = with_operands t cs T i

  -- what a tie reads has no flags

  abbrev ReadsPlain : Option RegOp → Type 0
  ReadsPlain q = (q ≡ None) ⊎ ((v : RegOp) × (q ≡ Some v) × IsPlain v)

  kind-plain : (x : ℕ) (p : TiedPair) (read : Bool) (tie : Tie) → Kind x p read tie → ReadsPlain tie.reading
  kind-plain x p read tie (fixed g q) = inl (ap (λ (z : Tie). z.reading) q)
  kind-plain x p read tie (blank g u q) = inr (undef_use_of p.definition, ap (λ (z : Tie). z.reading) q, (refl, refl))
  kind-plain x p read tie (own g u l w q) = inr (use_of p.definition, ap (λ (z : Tie). z.reading) q, (refl, refl))
  kind-plain x p read tie (aside g u q) = inr (whole_use x, ap (λ (z : Tie). z.reading) q, (refl, refl))
  kind-plain x p read tie (copied g u w q) = inr (use_of p.definition, ap (λ (z : Tie). z.reading) q, (refl, refl))

  reads-plain : (k : ℕ) → ReadsPlain (tie_to k T).reading
  reads-plain k = by (found-or k T)
    where
      by : (tie_to k T ≡ untied k) ⊎ ((tie : Tie) × Member tie T × (tie.number ≡ k) × (tie_to k T ≡ tie)) → ReadsPlain (tie_to k T).reading
      by (inl z) = inl (ap (λ (x : Tie). x.reading) z)
      by (inr z) =
          let y = each-tie (seated t i) c ps z.0 z.1 in
          subst (λ (x : Tie). ReadsPlain x.reading) (sym z.3) (kind-plain y.2 y.0 (is_read (seated t i) y.0) z.0 y.3)

  -- a use stays, or has no flags

  read-or : (o : RegOp) (q : Option RegOp) → ReadsPlain q → StaysOrPlain o (unwrap_or q o)
  read-or o q (inl z) = inl (ap (λ x. unwrap_or x o) z)
  read-or o q (inr z) = inr (subst (λ x. IsPlain (unwrap_or x o)) (sym z.1) z.2)

  defined-or : (q : Option Role) (o : RegOp) → StaysOrPlain o (defined_use t cs q o)
  defined-or q o = go (is_virtual o.loc && not o.def && o.undef)
    where
      at : (x : Option Reg) → StaysOrPlain o (undef_fixed o x)
      at None = inl refl
      at (Some x) = inr (refl, refl)

      go : (b : Bool) → StaysOrPlain o (cond b (undef_fixed o (first_register t (class_asked t cs q o))) o)
      go true = at (first_register t (class_asked t cs q o))
      go false = inl refl

  use-or : (q : Option Role) (o : RegOp) → StaysOrPlain o (retied_use t cs T q o)
  use-or q o = go (option_and_then tied_number q)
    where
      go : (n : Option ℕ) → StaysOrPlain o (elim n as (λ n. RegOp) [ None ↦ defined_use t cs q o | Some n ↦ unwrap_or (tie_to n T).reading o ])
      go None = defined-or q o
      go (Some n) = read-or o (tie_to n T).reading (reads-plain n)

  aside-fits : (q : Option Role) (o : RegOp) (a : Option ℕ) → flags_fit (q, operands.Reg o) ≡ true → flags_fit (q, operands.Reg (defined_aside a o)) ≡ true
  aside-fits q o None h = h
  aside-fits q o (Some v) h = h

  retied-fits : (k : ℕ) (q : Option Role) (y : Operand) → flags_fit (q, y) ≡ true → flags_fit (q, retied_operand t cs T (k, (q, y))) ≡ true
  retied-fits k q (operands.Reg o) h = go (is_definition o)
    where
      go : (b : Bool) → flags_fit (q, operands.Reg (cond b (defined_aside (tie_to k T).aside o) (retied_use t cs T q o))) ≡ true
      go true = aside-fits q o (tie_to k T).aside h
      go false = fits-or q o (retied_use t cs T q o) (use-or q o) h
  retied-fits k q (operands.Imm z) h = h
  retied-fits k q (operands.Block z) h = h
  retied-fits k q (operands.Stack z) h = h
  retied-fits k q (operands.FixedStack z) h = h
  retied-fits k q (operands.Symbol z) h = h
  retied-fits k q (operands.Index z) h = h
  retied-fits k q (operands.Mask z) h = h

  marks-kept : KeepsMarks (retied_operand t cs T) t i
  marks-kept = record {
    fits = retied-fits;
    stay = stay-implicit t f i r e known rolled cs c;
    register = λ k q y o same.
        let z = register-from t cs T k q y o same in
        (z.0, z.1, λ marked. subst (StaysOrPlain z.0) (sym (z.2 ∙ (λ j. cond (use-only z.0 marked j) (defined_aside (tie_to k T).aside z.0) (retied_use t cs T q z.0)))) (use-or q z.0));
    ordered = (fit-operands t f i e known rolled r.one).0;
  }
    where
      and-false : (b : Bool) → (b && false) ≡ false
      and-false true = refl
      and-false false = refl

      use-only : (d : RegOp) → d.implicit ≡ true → is_definition d ≡ false
      use-only d marked = (λ j. d.def && not (marked j)) ∙ and-false d.def

  new-marked : Marked t new
  new-marked = changed-marked (retied_operand t cs T) t i marks-kept marks

  -- copies beside it

  kind-copies : (x : ℕ) (p : TiedPair) (read : Bool) (tie : Tie) → Kind x p read tie → AllMarked t (copies tie.before) × AllMarked t (copies tie.after)
  kind-copies x p read tie (fixed g q) = subst (λ (z : Tie). AllMarked t (copies z.before) × AllMarked t (copies z.after)) (sym q) (tt, tt)
  kind-copies x p read tie (blank g u q) = subst (λ (z : Tie). AllMarked t (copies z.before) × AllMarked t (copies z.after)) (sym q) (tt, tt)
  kind-copies x p read tie (own g u l w q) = subst (λ (z : Tie). AllMarked t (copies z.before) × AllMarked t (copies z.after)) (sym q) (tt, tt)
  kind-copies x p read tie (aside g u q) =
      subst (λ (z : Tie). AllMarked t (copies z.before) × AllMarked t (copies z.after)) (sym q) (
        (two-marked t (copy_of (whole_definition x) (source_of p.tied_use)) (whole_definition x) (source_of p.tied_use) refl (refl, refl) (refl, refl), tt),
        (two-marked t (copy_of (destination_of p.definition) (whole_use x)) (destination_of p.definition) (whole_use x) refl (refl, refl) (refl, refl), tt),
      )
  kind-copies x p read tie (copied g u w q) =
      subst (λ (z : Tie). AllMarked t (copies z.before) × AllMarked t (copies z.after)) (sym q)
      ((two-marked t (copy_of (destination_of p.definition) (source_of p.tied_use)) (destination_of p.definition) (source_of p.tied_use) refl (refl, refl) (refl, refl), tt), tt)

  pub tied-marked : AllMarked t (tied_lowered t cs c i)
  tied-marked =
      let each = λ (tie : Tie) (m : Member tie T). let z = each-tie (seated t i) c ps tie m in kind-copies z.2 z.0 (is_read (seated t i) z.0) tie z.3 in
      marked-append t (flat_map (λ (tie : Tie). copies tie.before) T) (new ∷ flat_map (λ (tie : Tie). copies tie.after) T)
      (marked-flat t (λ (tie : Tie). copies tie.before) T (λ tie m. (each tie m).0))
      (new-marked, marked-flat t (λ (tie : Tie). copies tie.after) T (λ tie m. (each tie m).1))

-- any instruction

module _ (t : Target) (cs : List (Option ClassId)) (f : Function) (i : Instr) (r : InstrRules t f i) (c : ℕ) where
  abbrev Lowers : Type 0
  Lowers = AllMarked t (form_lowered t cs c i (form_of t i))

  marks : Marked t i
  unfolding V11
  marks = first_of_both (list_all flags_fit (bound t i)) _ r.eleven

  copy-lowered-marked : (d s : RegOp) → IsPlain d → IsPlain s → Marked t (copy_lowered i d s)
  copy-lowered-marked d s p q = go s.undef
    where
      go : (y : Bool) → Marked t (cond y (record i { op = ops.Known implicit_def_op; operands = operands.Reg (destination_of d) ∷ [] }) (record i { operands = operands.Reg (record d { undef = false }) ∷ operands.Reg s ∷ [] }))
      go true = one-marked t (record i { op = ops.Known implicit_def_op; operands = operands.Reg (destination_of d) ∷ [] }) (destination_of d) refl (refl, refl)
      go false = two-marked t (record i { operands = operands.Reg (record d { undef = false }) ∷ operands.Reg s ∷ [] }) (record d { undef = false }) s refl p q

  copy-form-marked : effect_of t i ≡ Some effects.Copy → Lowers
  copy-form-marked known = by i.operands refl (met t f i effects.Copy known r.one).3
    where
      by : (os : List Operand) → i.operands ≡ os → copy_fits os ≡ true → Lowers
      by (operands.Reg d ∷ operands.Reg s ∷ []) are e =
          let form : form_of t i ≡ forms.Copy d s =
          λ k. cond (passes is_copy (known k)) (copy_form (register_at (are k) 0) (register_at (are k) 1))
          (cond (does is_reg_sequence t i) (sequence_form (virtual_in (register_at i.operands 0)))
          (cond (does is_insert_subreg t i) (insertion_form (virtual_in (register_at i.operands 0)) (register_at i.operands 1) (part_of_two (slice_get i.operands 2) (slice_get i.operands 3))) forms.Other)) in
          let bare = bare-operand t i (bare-roles t i effects.Copy known refl) marks in
          let dp = bare d (subst (λ os. Member d (registers os)) (sym are) first) in
          let sp = bare s (subst (λ os. Member s (registers os)) (sym are) (later first)) in
          subst (λ x. AllMarked t (form_lowered t cs c i x)) (sym form) (copy-lowered-marked d s dp sp, tt)
      by _ are e = absurd (cc)

  undef-form-marked : effect_of t i ≡ Some effects.ImplicitDef → Lowers
  undef-form-marked known = by i.operands refl (met t f i effects.ImplicitDef known r.one).3
    where
      by : (os : List Operand) → i.operands ≡ os → implicit_def_fits os ≡ true → Lowers
      by (operands.Reg d ∷ []) are e =
          let x : Instr = record i { operands = operands.Reg (record d { undef = false }) ∷ [] } in
          let made : tied_lowered t cs c i ≡ x ∷ [] =
          (λ k. with_ties t cs (none-tied t i effects.ImplicitDef known c (undef-untied t i known) k) i)
          ∙ ((λ k. record i { operands = map (retied_operand t cs []) (with_numbers 0 (explicit_bound (explicit_roles (bare-roles t i effects.ImplicitDef known refl k)) (are k))) } ∷ [])
          ∙ (λ k. record i { operands = operands.Reg (cond (e k) (record d { undef = false }) (retied_use t cs [] None d)) ∷ [] } ∷ [])) in
          let dp = bare-operand t i (bare-roles t i effects.ImplicitDef known refl) marks d (subst (λ os. Member d (registers os)) (sym are) first) in
          subst (λ y. AllMarked t (form_lowered t cs c i y)) (sym (other-form t i effects.ImplicitDef known refl refl))
          (subst (AllMarked t) (sym made) (one-marked t x (record d { undef = false }) refl dp, tt))
      by _ are e = absurd (cc)

  sequence-marked : (v : ℕ) → AllMarked t (form_lowered t cs c i (forms.Sequence v))
  sequence-marked v =
      let ps = parts_of (drop 1 i.operands) in
      let to = built c v ps in
      let k = located_class cs (Virtual v) in
      kept-marked t i (beginning t k to ps ++ (map (into_part to) ps ++ at_last c v ps)) (marked-append t (beginning t k to ps) (map (into_part to) ps ++ at_last c v ps) (begun-marked t k to ps) (marked-append t (map (into_part to) ps) (at_last c v ps) (parts-marked t to ps) (last-marked t c v ps)))

  insertion-marked : (v : ℕ) (a : RegOp) (p : SubregInput) → AllMarked t (form_lowered t cs c i (forms.Insertion v a p))
  insertion-marked v a p =
      let to = built c v (p ∷ []) in
      kept-marked t i (move_of (whole_definition to) a ∷ into_part to p ∷ at_last c v (p ∷ [])) (move-marked t (whole_definition to) a (refl, refl), (move-marked t (record (whole_definition to) { index = Some p.index }) p.input (refl, refl), last-marked t c v (p ∷ [])))

  sequence-form-marked : effect_of t i ≡ Some effects.RegSequence → Lowers
  sequence-form-marked known = by i.operands refl (met t f i effects.RegSequence known r.one).3
    where
      at : (d : RegOp) (rest : List Operand) → i.operands ≡ operands.Reg d ∷ rest → (l : Loc) → d.loc ≡ l → is_virtual l ≡ true → Lowers
      at d rest are (Virtual v) loc e =
          let form : form_of t i ≡ forms.Sequence v =
          (λ k. cond (passes is_copy (known k)) (copy_form (register_at i.operands 0) (register_at i.operands 1))
          (cond (passes is_reg_sequence (known k)) (sequence_form (virtual_in (register_at (are k) 0)))
          (cond (does is_insert_subreg t i) (insertion_form (virtual_in (register_at i.operands 0)) (register_at i.operands 1) (part_of_two (slice_get i.operands 2) (slice_get i.operands 3))) forms.Other)))
          ∙ (λ k. sequence_form (virtual_loc (loc k))) in
          subst (λ x. AllMarked t (form_lowered t cs c i x)) (sym form) (sequence-marked v)
      at d rest are (Fixed q) loc e = absurd (cc)

      by : (os : List Operand) → i.operands ≡ os → result_and index_pairs os ≡ true → Lowers
      by (operands.Reg d ∷ rest) are e = at d rest are d.loc refl (second_of_both (is_definition d) (is_virtual d.loc) (first_of_both (is_definition d && is_virtual d.loc) (is_none d.index) (first_of_both (is_whole_definition d) (index_pairs rest) e)))
      by os are e = absurd (cc)

  insertion-form-marked : effect_of t i ≡ Some effects.InsertSubreg → Lowers
  insertion-form-marked known = by i.operands refl (met t f i effects.InsertSubreg known r.one).3
    where
      at : (d a s : RegOp) (x : IndexId) → i.operands ≡ operands.Reg d ∷ operands.Reg a ∷ operands.Reg s ∷ operands.Index x ∷ [] → (l : Loc) → d.loc ≡ l → is_virtual l ≡ true → Lowers
      at d a s x are (Virtual v) loc e =
          let p : SubregInput = record { input = s; index = x } in
          let form : form_of t i ≡ forms.Insertion v a p =
          (λ k. cond (passes is_copy (known k)) (copy_form (register_at i.operands 0) (register_at i.operands 1))
          (cond (passes is_reg_sequence (known k)) (sequence_form (virtual_in (register_at i.operands 0)))
          (cond (passes is_insert_subreg (known k)) (insertion_form (virtual_in (register_at (are k) 0)) (register_at (are k) 1) (part_of_two (slice_get (are k) 2) (slice_get (are k) 3))) forms.Other)))
          ∙ (λ k. insertion_form (virtual_loc (loc k)) (Some a) (p ∷ [])) in
          subst (λ z. AllMarked t (form_lowered t cs c i z)) (sym form) (insertion-marked v a p)
      at d a s x are (Fixed q) loc e = absurd (cc)

      rest : (d : RegOp) (os : List Operand) → i.operands ≡ operands.Reg d ∷ os → is_virtual d.loc ≡ true → insertion os ≡ true → Lowers
      rest d (operands.Reg a ∷ operands.Reg s ∷ operands.Index x ∷ []) are w e = at d a s x are d.loc refl w
      rest d os are w e = absurd (cc)

      by : (os : List Operand) → i.operands ≡ os → result_and insertion os ≡ true → Lowers
      by (operands.Reg d ∷ os) are e = rest d os are (second_of_both (is_definition d) (is_virtual d.loc) (first_of_both (is_definition d && is_virtual d.loc) (is_none d.index) (first_of_both (is_whole_definition d) (insertion os) e))) (second_of_both (is_whole_definition d) (insertion os) e)
      by os are e = absurd (cc)

  other-marked : (e : Effect) → effect_of t i ≡ Some e → is_copy e ≡ false → puts_together e ≡ false → has_roles e ≡ true → Lowers
  other-marked e known one two rolled = subst (λ x. AllMarked t (form_lowered t cs c i x)) (sym (other-form t i e known one two)) (tied-marked t f i r e known rolled cs c marks)

  by-effect : (e : Effect) → effect_of t i ≡ Some e → is_phi e ≡ false → Lowers
  by-effect effects.Copy q p = copy-form-marked q
  by-effect effects.ImplicitDef q p = undef-form-marked q
  by-effect effects.Phi q p = absurd (cc)
  by-effect effects.RegSequence q p = sequence-form-marked q
  by-effect effects.InsertSubreg q p = insertion-form-marked q
  by-effect e q p = other-marked e q refl refl refl

  instr-marked : does is_phi t i ≡ false → AllMarked t (instr_lowered t cs c i)
  instr-marked plain =
      let e = known-effect t f i r in
      marked-append t (flat_map undefined_first i.operands) (form_lowered t cs c i (form_of t i)) (marked-flat t undefined_first i.operands (λ o m. first-marked t o)) (by-effect e.0 e.1 (sym (ap (passes is_phi) e.1) ∙ plain))

-- blocks

module _ (t : Target) (f : Function) (plain : has_no_phis t f.blocks ≡ true) (rules : EachRules t f) where
  instrs-marked : (b : Block) → Member b f.blocks → (c : ℕ) (is : List Instr) → ((i : Instr) → Member i is → Member i b.instrs) → AllMarked t (instrs_lowered t f.classes c is)
  instrs-marked b mb c [] w = tt
  instrs-marked b mb c (i ∷ is) w =
      let no-phi = not-true (does is_phi t i) (all-of (λ x. not (does is_phi t x)) i b.instrs (w i first) (all-of (λ (d : Block). list_all (λ x. not (does is_phi t x)) d.instrs) b f.blocks mb plain)) in
      marked-append t (instr_lowered t f.classes c i) (instrs_lowered t f.classes (next_range t f.classes c i) is) (instr-marked t f.classes f i (rules b i mb (w i first)) c no-phi) (instrs-marked b mb (next_range t f.classes c i) is (λ x m. w x (later m)))

  blocks-marked : (n c : ℕ) (bs : List Block) → ((b : Block) → Member b bs → Member b f.blocks) → (d : Block) (x : Instr) → Member d (blocks_numbered n (blocks_lowered t f.classes c bs)) → Member x d.instrs → Marked t x
  blocks-marked n c [] w d x md mx = absurd (member-none d md)
  blocks-marked n c (b ∷ bs) w d x md mx =
      let L = instrs_lowered t f.classes c b.instrs in
      member-elim d (record b { instrs = numbered n L }) (blocks_numbered (n + length L) (blocks_lowered t f.classes (c + length (classes_made t f.classes c b.instrs)) bs))
      (λ e. marked-of t x (numbered n L) (marked-numbered t n L (instrs-marked b (w b first) c b.instrs (λ i m. m))) (subst (λ (q : Block). Member x q.instrs) e mx))
      (λ k. blocks-marked (n + length L) (c + length (classes_made t f.classes c b.instrs)) bs (λ y m. w y (later m)) d x k mx) md

  pub ties-marked : (d : Block) (x : Instr) → Member d (ties_lowered t f).blocks → Member x d.instrs → Marked t x
  unfolding ties_lowered
  ties-marked d x md mx = blocks-marked 0 (length f.classes) f.blocks (λ b m. m) d x md mx

pub lowered-has-flags : LoweredHasFlags
lowered-has-flags t f valid b i mb mi = ties-marked t (phis_lowered t f) (phis_are_gone t f) (eliminated-rules t f (each-rules t f (all-rules t f valid.shape))) b i mb mi
