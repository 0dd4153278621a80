-- What holds of each instruction that lowering of ties makes: of a COPY, of an IMPLICIT_DEF, and of an instruction whose ties
-- are lowered.
use Rattle.std.proofs.Common.{◌≡◌, not, ◌&&◌, ◌||◌, ◌++◌, ◌+◌, ◌∙◌, ℕ, Bool, true, false, cond, List, [], ◌∷◌, Option, Some, None, drop, flat_map, length, map, refl, sym, ap, subst, eq-eqb}
use Rattle.std.specs.Prelude.{◌==◌, filter_map, is_none, is_some, slice_get, slice_index}
use Rattle.std.specs.List.{list_all, list_any}
use Rattle.target_base.specs.declared.types.ClassId.{ClassId}
use Rattle.target_base.specs.declared.types.Effect.{Effect}
use Rattle.target_base.specs.declared.types.Effect.TheVariants as effects
use Rattle.target_base.specs.declared.types.IndexId.{IndexId}
use Rattle.target_base.specs.declared.types.Target.{Target}
use Rattle.target_base.specs.Registers.{fits, lanes_of, widths_of_some}
use Rattle.target_base.specs.Roles.{is_silent, is_tied}
use Rattle.target_base.specs.Rules.{is_copy, is_insert_subreg, is_phi, is_reg_sequence}
use Rattle.target_base.specs.Storage.{same_numbers}
use Rattle.target_base.proofs.Tests.{first_of_both, second_of_both}
use Rattle.meaning.specs.Live.{Among, here, there}
use Rattle.mir_func.specs.declared.func.Block.{Block}
use Rattle.mir_func.specs.declared.func.Loc.{Loc}
use Rattle.mir_func.specs.declared.func.Loc.TheVariants.{Fixed, Virtual}
use Rattle.mir_func.specs.declared.func.Op.TheVariants as ops
use Rattle.mir_func.specs.declared.func.RegOp.{RegOp}
use Rattle.mir_func.specs.declared.func.Operand.{Operand}
use Rattle.mir_func.specs.declared.func.Operand.TheVariants as operands
use Rattle.mir_func.specs.declared.func.Instr.{Instr}
use Rattle.mir_func.specs.Value.{Function}
use Rattle.mir_func.specs.Binding.{TiedPair, class_of, does, effect_of, explicit_bound, explicit_roles, is_definition, is_use, is_virtual, numbered as with_numbers, passes, puts_together, register_at, roles_of, tied_pair}
use Rattle.mir_meaning.specs.Points.{has_no_phis}
use Rattle.mir_meaning.specs.Registers.{located_widths, operand_widths}
use Rattle.mir_meaning.specs.Rules.{V15, at_index, copy_fits, has_class, has_home, has_lanes, has_lanes_at, implicit_def_fits, index_pairs, insertion, is_virtual_use, is_whole_definition, parts_fit, result_and, same_widths, spills_or_reloads, widths_fit}
use Rattle.phi_elim.specs.Moves.{copy_of, destination_of, implicit_def_op, move_of, source_of, undefining, whole_definition, whole_use}
use Rattle.phi_elim.specs.Numbered.{blocks_numbered, numbered}
use Rattle.phi_elim.specs.Phis.{all_instrs}
use Rattle.two_address.specs.Classes.{seated}
use Rattle.two_address.specs.Lowered.{blocks_lowered, class_aside, class_if, classes_made, copy_form, form_classes, form_lowered, form_of, instr_classes, instr_lowered, insertion_form, instrs_lowered, next_range, part_of_two, sequence_form, ties_lowered, virtual_in, virtual_loc}
use Rattle.two_address.specs.Sequences.{at_last, beginning, built, fill_all, into_part, is_input, keeping_text, parts_of, sequence_lowered}
use Rattle.two_address.specs.Ties.{copies, retied_operand, retied_use, ties_in, tied_lowered, undefined_first, undefined_whole, with_operands, with_ties}
use Rattle.two_address.specs.declared.forms.InstrLowering.{InstrLowering}
use Rattle.two_address.specs.declared.forms.InstrLowering.TheVariants as forms
use Rattle.two_address.specs.declared.sequences.SubregInput.{SubregInput}
use Rattle.two_address.specs.declared.ties.Tie.{Tie}
use Rattle.instr_effects.proofs.Members.{member-elim, member-none}
use Rattle.live_laws.specs.Effects.Shaped.{AreClasses}
use Rattle.live_laws.proofs.Effects.Lists.{all-of}
use Rattle.live_laws.proofs.Effects.Shapes.{widths-of}
use Rattle.live_laws.proofs.Touch.Roles.{has_roles, met}
use Rattle.lowering_laws.proofs.Classes.{class-stays}
use Rattle.lowering_laws.proofs.Counted.{CountedInstr, aside-wide, tie-is, virtual, wide as ties-wide}
use Rattle.lowering_laws.proofs.Made.{Stands, all-stand, made-append, stands-class, stands-left, stands-right}
use Rattle.lowering_laws.proofs.Operands.{known-effect, named}
use Rattle.lowering_laws.proofs.Placed.{copy-effect, undef-effect}
use Rattle.lowering_laws.proofs.Plain.{none-tied, other-form}
use Rattle.lowering_laws.proofs.Replaced.{bound, h, made}
use Rattle.lowering_laws.proofs.Rolled.{addr-untied, bare-roles, const-untied, undef-untied}
use Rattle.lowering_laws.proofs.Ruled.{EachRules, InstrRules}
use Rattle.lowering_laws.proofs.RulesStay.{has-lanes, wide, widths}
use Rattle.lowering_laws.proofs.Seated.{register-in, same-numbers}
use Rattle.lowering_laws.proofs.Tying.{IsTie, Kind, aside, blank, copied as copied_kind, fixed, is_read, own}

not-true : (b : Bool) → not b ≡ true → b ≡ false
not-true true e = absurd (cc)
not-true false e = refl

or-true : (b : Bool) → (b || true) ≡ true
or-true true = refl
or-true false = refl

own-numbers : (ns : List ℕ) → same_numbers ns ns ≡ true
own-numbers [] = refl
own-numbers (n ∷ ns) = λ k. number n k && own-numbers ns k
  where
    number : (n : ℕ) → (n == n) ≡ true
    number n = eq-eqb n n refl

module _ (t : Target) (g : Function) where
  -- operands of the same widths
  pub as-wide : (a b : RegOp) → operand_widths t g a ≡ operand_widths t g b → same_widths t g a b ≡ true
  as-wide a b e = (λ k. not (has_lanes t g a && has_lanes t g b) || same_numbers (e k) (operand_widths t g b)) ∙ ((λ k. not (has_lanes t g a && has_lanes t g b) || own-numbers (operand_widths t g b) k) ∙ or-true (not (has_lanes t g a && has_lanes t g b)))

  pub wide-turned : (a b : RegOp) → same_widths t g a b ≡ true → same_widths t g b a ≡ true
  wide-turned a b e = go (has_lanes t g a) (has_lanes t g b) e
    where
      go : (x y : Bool) → (not (x && y) || same_numbers (operand_widths t g a) (operand_widths t g b)) ≡ true → (not (y && x) || same_numbers (operand_widths t g b) (operand_widths t g a)) ≡ true
      go true true h = (λ k. same_numbers (operand_widths t g b) (same-numbers (operand_widths t g a) (operand_widths t g b) h k)) ∙ own-numbers (operand_widths t g b)
      go true false h = refl
      go false true h = refl
      go false false h = refl

-- virtual registers need no home
pub home : (t : Target) (l m : Loc) → is_virtual l ≡ true → is_virtual m ≡ true → has_home t l m ≡ true
home t (Virtual v) (Virtual w) h g = refl
home t l m h g = absurd (cc)

-- an IMPLICIT_DEF of one definition
pub record IsUndefining (t : Target) (x : Instr) : Type 0 where
  pub d : RegOp
  pub effect : effect_of t x ≡ Some effects.ImplicitDef
  pub are : x.operands ≡ operands.Reg d ∷ []
  pub is : is_definition d ≡ true
  pub whole : d.undef ≡ false

-- a COPY between operands of the same widths
pub record IsCopying (t : Target) (g : Function) (x : Instr) : Type 0 where
  pub d : RegOp
  pub s : RegOp
  pub effect : effect_of t x ≡ Some effects.Copy
  pub are : x.operands ≡ operands.Reg d ∷ operands.Reg s ∷ []
  pub is : is_definition d ≡ true
  pub whole : d.undef ≡ false
  pub reads : is_use s ≡ true
  pub wide : same_widths t g d s ≡ true
  pub home : has_home t d.loc s.loc ≡ true
  pub source_home : has_home t s.loc d.loc ≡ true

-- an instruction whose opcode has roles, and where the classes of the registers stand that its ties need
pub record TiedInstr (t : Target) (f : Function) : Type 0 where
  pub classes : AreClasses t f
  pub i : Instr
  pub r : InstrRules t f i
  pub e : Effect
  pub known : effect_of t i ≡ Some e
  pub rolled : has_roles e ≡ true
  pub unspilled : spills_or_reloads e ≡ false
  pub c : ℕ
  pub stands : Stands (h t f).classes (length f.classes) c (flat_map (class_aside (roles_of t i)) (ties_in t c i))

-- what is asked of the instructions that lowering makes: it doesn't depend on ids, flags and tails
pub record Holds (t : Target) (f : Function) (P : Instr → Type 0) : Type 0 where
  pub numbers : (n : ℕ) (x : Instr) → P x → P (record x { id = n })
  pub texts : (i x : Instr) → P x → P (record x { flags = i.flags; tail = i.tail })
  pub undefines : (x : Instr) → IsUndefining t x → P x
  pub copies : (x : Instr) → IsCopying t (h t f) x → P x
  pub ties : (z : TiedInstr t f) → P (with_operands t f.classes (ties_in t z.c z.i) z.i)

module _ (t : Target) (f : Function) (P : Instr → Type 0) (holds : Holds t f P) where
  abbrev H : Function
  H = h t f

  abbrev Each : List Instr → Type 0
  Each [] = Unit {0}
  Each (x ∷ xs) = P x × Each xs

  each-append : (xs ys : List Instr) → Each xs → Each ys → Each (xs ++ ys)
  each-append [] ys a b = b
  each-append (x ∷ xs) ys a b = (a.0, each-append xs ys a.1 b)

  each-flat : {A : Type 0} (g : A → List Instr) (xs : List A) → ((x : A) → Among x xs → Each (g x)) → Each (flat_map g xs)
  each-flat g [] a = tt
  each-flat g (x ∷ xs) a = each-append (g x) (flat_map g xs) (a x here) (each-flat g xs (λ y m. a y (there m)))

  undefining-holds : (d : RegOp) → is_definition d ≡ true → d.undef ≡ false → P (undefining d)
  undefining-holds d e u = holds.undefines (undefining d) (record { d = d; effect = undef-effect t (undefining d) refl; are = refl; is = e; whole = u })

  copying-holds : (d s : RegOp) → is_definition d ≡ true → d.undef ≡ false → is_use s ≡ true → same_widths t H d s ≡ true → is_virtual d.loc ≡ true → is_virtual s.loc ≡ true → P (copy_of d s)
  copying-holds d s e u w same a b = holds.copies (copy_of d s) (record { d = d; s = s; effect = copy-effect t (copy_of d s) refl; are = refl; is = e; whole = u; reads = w; wide = same; home = home t d.loc s.loc a b; source_home = home t s.loc d.loc b a })

  move-holds : (to from : RegOp) → is_definition to ≡ true → to.undef ≡ false → same_widths t H to from ≡ true → is_virtual to.loc ≡ true → is_virtual from.loc ≡ true → P (move_of to from)
  move-holds to from e u same a b = go from.undef
    where
      go : (y : Bool) → P (cond y (undefining to) (copy_of to (source_of from)))
      go true = undefining-holds to e u
      go false = copying-holds to (source_of from) e u refl same a b

  module _ (i : Instr) (r : InstrRules t f i) (c : ℕ) (stands : Stands H.classes (length f.classes) c (instr_classes t f.classes c i)) where
    still : (v : ℕ) → is_some (class_of f v) ≡ true → class_of H v ≡ class_of f v
    still v e = class-stays t f (made t f) v e

    class-named : (o : RegOp) → Among (operands.Reg o) i.operands → has_class f o.loc ≡ true
    class-named o m = (named t f i r o (register-in o i.operands m)).class

    first-holds : (x : Operand) → Each (undefined_first x)
    first-holds (operands.Reg p) = go (is_definition p && p.undef)
      where
        whole-holds : (l : Loc) → Each (undefined_whole l)
        whole-holds (Virtual v) = (undefining-holds (whole_definition v) refl refl, tt)
        whole-holds (Fixed q) = tt

        go : (y : Bool) → Each (cond y (undefined_whole p.loc) [])
        go true = whole-holds p.loc
        go false = tt
    first-holds x = tt

    abbrev Lowers : Type 0
    Lowers = Each (form_lowered t f.classes c i (form_of t i))

    abbrev StandsFor : InstrLowering → Type 0
    StandsFor x = Stands H.classes (length f.classes) c (form_classes t f.classes c i x)

    -- COPY and IMPLICIT_DEF

    copy-so : effect_of t i ≡ Some effects.Copy → Lowers
    copy-so known = by i.operands refl (met t f i effects.Copy known r.one).3 (widths-of t f i effects.Copy known r.two)
      where
        go : (d s : RegOp) → Among (operands.Reg d) i.operands → Among (operands.Reg s) i.operands → is_definition d ≡ true → is_use s ≡ true → same_widths t f d s ≡ true → has_home t d.loc s.loc ≡ true → has_home t s.loc d.loc ≡ true → (y : Bool) → P (cond y (record i { op = ops.Known implicit_def_op; operands = operands.Reg (destination_of d) ∷ [] }) (record i { operands = operands.Reg (record d { undef = false }) ∷ operands.Reg s ∷ [] }))
        go d s md ms e u same a b true = holds.undefines (record i { op = ops.Known implicit_def_op; operands = operands.Reg (destination_of d) ∷ [] }) (record { d = destination_of d; effect = undef-effect t (record i { op = ops.Known implicit_def_op; operands = operands.Reg (destination_of d) ∷ [] }) refl; are = refl; is = refl; whole = refl })
        go d s md ms e u same a b false = holds.copies (record i { operands = operands.Reg (record d { undef = false }) ∷ operands.Reg s ∷ [] }) (record { d = record d { undef = false }; s = s; effect = known; are = refl; is = e; whole = refl; reads = u; wide = wide t f H still d s (class-named d md) (class-named s ms) ∙ same; home = a; source_home = b })

        by : (os : List Operand) → i.operands ≡ os → copy_fits os ≡ true → widths_fit t f effects.Copy i.operands ≡ true → Lowers
        by (operands.Reg d ∷ operands.Reg s ∷ []) are e w =
            let form : form_of t i ≡ forms.Copy d s =
            λ k. cond (passes is_copy (known k)) (copy_form (register_at (are k) 0) (register_at (are k) 1))
            (cond (does is_reg_sequence t i) (sequence_form (virtual_in (register_at i.operands 0)))
            (cond (does is_insert_subreg t i) (insertion_form (virtual_in (register_at i.operands 0)) (register_at i.operands 1) (part_of_two (slice_get i.operands 2) (slice_get i.operands 3))) forms.Other)) in
            let w' : (same_widths t f d s && has_home t d.loc s.loc && has_home t s.loc d.loc) ≡ true = subst (λ os. widths_fit t f effects.Copy os ≡ true) are w in
            let first = first_of_both (same_widths t f d s && has_home t d.loc s.loc) (has_home t s.loc d.loc) w' in
            let last = second_of_both (same_widths t f d s && has_home t d.loc s.loc) (has_home t s.loc d.loc) w' in
            let md = subst (λ os. Among (operands.Reg d) os) (sym are) here in
            let ms = subst (λ os. Among (operands.Reg s) os) (sym are) (there here) in
            subst (λ x. Each (form_lowered t f.classes c i x)) (sym form) (go d s md ms (first_of_both (is_definition d) (is_use s) e) (second_of_both (is_definition d) (is_use s) e) (first_of_both (same_widths t f d s) (has_home t d.loc s.loc) first) (second_of_both (same_widths t f d s) (has_home t d.loc s.loc) first) last s.undef, tt)
        by _ are e w = absurd (cc)

    undef-so : effect_of t i ≡ Some effects.ImplicitDef → Lowers
    undef-so known = by i.operands refl (met t f i effects.ImplicitDef known r.one).3
      where
        by : (os : List Operand) → i.operands ≡ os → implicit_def_fits os ≡ true → Lowers
        by (operands.Reg d ∷ []) are e =
            let x : Instr = record i { operands = operands.Reg (record d { undef = false }) ∷ [] } in
            let lowered : tied_lowered t f.classes c i ≡ x ∷ [] =
            (λ k. with_ties t f.classes (none-tied t i effects.ImplicitDef known c (undef-untied t i known) k) i)
            ∙ ((λ k. record i { operands = map (retied_operand t f.classes []) (with_numbers 0 (explicit_bound (explicit_roles (bare-roles t i effects.ImplicitDef known refl k)) (are k))) } ∷ [])
            ∙ (λ k. record i { operands = operands.Reg (cond (e k) (record d { undef = false }) (retied_use t f.classes [] None d)) ∷ [] } ∷ [])) in
            subst (λ y. Each (form_lowered t f.classes c i y)) (sym (other-form t i effects.ImplicitDef known refl refl))
            (subst Each (sym lowered) (holds.undefines x (record { d = record d { undef = false }; effect = known; are = refl; is = e; whole = refl }), tt))
        by _ are e = absurd (cc)

    -- REG_SEQUENCE and INSERT_SUBREG

    module _ (v : ℕ) (cv : is_some (class_of f v) ≡ true) (ps : List SubregInput) (own-stands : Stands H.classes (length f.classes) c (class_if (is_input (Virtual v) ps) (class_of f v))) where
      abbrev to : ℕ
      to = built c v ps

      class-new : is_input (Virtual v) ps ≡ true → class_of H c ≡ class_of f v
      class-new e = stands-class H (length f.classes) c (class_of f v) [] (subst (λ y. Stands H.classes (length f.classes) c (class_if y (class_of f v))) e own-stands)

      class-to : class_of H to ≡ class_of f v
      class-to = go (is_input (Virtual v) ps) class-new
        where
          go : (y : Bool) → (y ≡ true → class_of H c ≡ class_of f v) → class_of H (cond y c v) ≡ class_of f v
          go true a = a refl
          go false a = still v cv

      -- what the defined register holds so wide, the register that is built does
      to-wide : (x : Option IndexId) (d s : RegOp) → d.loc ≡ Virtual v → has_class f s.loc ≡ true → same_widths t f s (record d { index = x }) ≡ true → same_widths t H (record (whole_definition to) { index = x }) s ≡ true
      to-wide x d s loc cs e = moved x ∙ wide-turned t f s (record (whole_definition v) { index = x }) (subst (λ l. same_widths t f s (record d { loc = l; index = x }) ≡ true) loc e)
        where
          lanes-so : (x : Option IndexId) → has_lanes_at t H (Virtual to) x ≡ has_lanes_at t f (Virtual v) x
          lanes-so x = ap (passes (λ k. fits t k x)) class-to

          widths-so : (x : Option IndexId) → located_widths t H (Virtual to) x ≡ located_widths t f (Virtual v) x
          widths-so None = ap (widths_of_some t) class-to
          widths-so (Some y) = ap (λ q. map (slice_index (widths_of_some t q)) (lanes_of t y)) class-to

          moved : (x : Option IndexId) → same_widths t H (record (whole_definition to) { index = x }) s ≡ same_widths t f (record (whole_definition v) { index = x }) s
          moved x = λ k. not (lanes-so x k && has-lanes t f H still s.loc s.index cs k) || same_numbers (widths-so x k) (widths t f H still s.loc s.index cs k)

      abbrev PartsHold : List SubregInput → Type 0
      PartsHold [] = Unit {0}
      PartsHold (p ∷ qs) = P (into_part to p) × PartsHold qs

      parts-hold : (qs : List SubregInput) → PartsHold qs → Each (map (into_part to) qs)
      parts-hold [] a = tt
      parts-hold (p ∷ qs) a = (a.0, parts-hold qs a.1)

      last-holds : Each (at_last c v ps)
      last-holds = go (is_input (Virtual v) ps) class-new
        where
          go : (y : Bool) → (y ≡ true → class_of H c ≡ class_of f v) → Each (cond y (copy_of (whole_definition v) (whole_use c) ∷ []) [])
          go true a = (copying-holds (whole_definition v) (whole_use c) refl refl refl (as-wide t H (whole_definition v) (whole_use c) (ap (widths_of_some t) (still v cv ∙ sym (a refl)))) refl refl, tt)
          go false a = tt

      begun-holds : (k : Option ClassId) → Each (beginning t k to ps)
      begun-holds k = go (fill_all t k ps)
        where
          go : (y : Bool) → Each (cond y [] (undefining (whole_definition to) ∷ []))
          go true = tt
          go false = (undefining-holds (whole_definition to) refl refl, tt)

      kept-holds : (xs : List Instr) → Each xs → Each (keeping_text i xs)
      kept-holds [] a = tt
      kept-holds (x ∷ xs) a = (holds.texts i x a.0, a.1)

      sequence-holds : PartsHold ps → (k : Option ClassId) → Each (keeping_text i (beginning t k to ps ++ (map (into_part to) ps ++ at_last c v ps)))
      sequence-holds a k =
          kept-holds (beginning t k to ps ++ (map (into_part to) ps ++ at_last c v ps))
          (each-append (beginning t k to ps) (map (into_part to) ps ++ at_last c v ps) (begun-holds k) (each-append (map (into_part to) ps) (at_last c v ps) (parts-hold ps a) last-holds))

      part-holds : (d s : RegOp) (x : IndexId) → d.loc ≡ Virtual v → has_class f s.loc ≡ true → is_virtual s.loc ≡ true → same_widths t f s (at_index d x) ≡ true → P (into_part to (record { input = s; index = x }))
      part-holds d s x loc cs vs e = move-holds (record (whole_definition to) { index = Some x }) s refl refl (to-wide (Some x) d s loc cs e) refl vs

      parts-from : (d : RegOp) (os : List Operand) → d.loc ≡ Virtual v → index_pairs os ≡ true → ((o : RegOp) → Among (operands.Reg o) os → has_class f o.loc ≡ true) → parts_fit t f d os ≡ true → PartsHold (parts_of os)
      parts-from d [] loc e a w = tt
      parts-from d (operands.Reg s ∷ operands.Index x ∷ os) loc e a w = (
        part-holds d s x loc (a s here) (second_of_both (is_use s) (is_virtual s.loc) (first_of_both (is_virtual_use s) (index_pairs os) e)) (first_of_both (same_widths t f s (at_index d x)) (parts_fit t f d os) w),
        parts-from d os loc (second_of_both (is_virtual_use s) (index_pairs os) e) (λ o m. a o (there (there m))) (second_of_both (same_widths t f s (at_index d x)) (parts_fit t f d os) w),
      )
      parts-from d os loc e a w = absurd (cc)

    virtual-class : (d : RegOp) → Among (operands.Reg d) i.operands → (v : ℕ) → d.loc ≡ Virtual v → is_some (class_of f v) ≡ true
    virtual-class d m v loc = sym (ap (has_class f) loc) ∙ class-named d m

    sequence-so : effect_of t i ≡ Some effects.RegSequence → Lowers
    sequence-so known = by i.operands refl (met t f i effects.RegSequence known r.one).3 (widths-of t f i effects.RegSequence known r.two)
      where
        at : (d : RegOp) (rest : List Operand) → i.operands ≡ operands.Reg d ∷ rest → index_pairs rest ≡ true → parts_fit t f d rest ≡ true → (l : Loc) → d.loc ≡ l → is_virtual l ≡ true → Lowers
        at d rest are pairs w (Virtual v) loc e =
            let form : form_of t i ≡ forms.Sequence v =
            (λ k. cond (passes is_copy (known k)) (copy_form (register_at i.operands 0) (register_at i.operands 1))
            (cond (passes is_reg_sequence (known k)) (sequence_form (virtual_in (register_at (are k) 0)))
            (cond (does is_insert_subreg t i) (insertion_form (virtual_in (register_at i.operands 0)) (register_at i.operands 1) (part_of_two (slice_get i.operands 2) (slice_get i.operands 3))) forms.Other)))
            ∙ (λ k. sequence_form (virtual_loc (loc k))) in
            let cv = virtual-class d (subst (λ os. Among (operands.Reg d) os) (sym are) here) v loc in
            let st : Stands H.classes (length f.classes) c (class_if (is_input (Virtual v) (parts_of rest)) (class_of f v)) = subst (λ os. Stands H.classes (length f.classes) c (class_if (is_input (Virtual v) (parts_of (drop 1 os))) (class_of f v))) are (subst StandsFor form stands) in
            let parts = parts-from v cv (parts_of rest) st d rest loc pairs (λ o m. class-named o (subst (λ os. Among (operands.Reg o) os) (sym are) (there m))) w in
            subst (λ x. Each (form_lowered t f.classes c i x)) (sym form)
            (subst (λ os. Each (sequence_lowered t f.classes c i v (parts_of (drop 1 os)))) (sym are) (sequence-holds v cv (parts_of rest) st parts (class_of f v)))
        at d rest are pairs w (Fixed q) loc e = absurd (cc)

        by : (os : List Operand) → i.operands ≡ os → result_and index_pairs os ≡ true → widths_fit t f effects.RegSequence i.operands ≡ true → Lowers
        by (operands.Reg d ∷ rest) are e w = at d rest are (second_of_both (is_whole_definition d) (index_pairs rest) e) (second_of_both _ (parts_fit t f d rest) (subst (λ os. widths_fit t f effects.RegSequence os ≡ true) are w)) d.loc refl (second_of_both (is_definition d) (is_virtual d.loc) (first_of_both _ _ (first_of_both (is_whole_definition d) (index_pairs rest) e)))
        by os are e w = absurd (cc)

    insertion-so : effect_of t i ≡ Some effects.InsertSubreg → Lowers
    insertion-so known = by i.operands refl (met t f i effects.InsertSubreg known r.one).3 (widths-of t f i effects.InsertSubreg known r.two)
      where
        none-there : (x : Option IndexId) → is_none x ≡ true → x ≡ None
        none-there None e = refl
        none-there (Some x) e = absurd (cc)

        at : (d a s : RegOp) (x : IndexId) → i.operands ≡ operands.Reg d ∷ operands.Reg a ∷ operands.Reg s ∷ operands.Index x ∷ [] → is_none d.index ≡ true → is_virtual a.loc ≡ true → is_virtual s.loc ≡ true → same_widths t f a d ≡ true → same_widths t f s (at_index d x) ≡ true → (l : Loc) → d.loc ≡ l → is_virtual l ≡ true → Lowers
        at d a s x are none va vs wa ws (Virtual v) loc e =
            let p : SubregInput = record { input = s; index = x } in
            let form : form_of t i ≡ forms.Insertion v a p =
            (λ k. cond (passes is_copy (known k)) (copy_form (register_at i.operands 0) (register_at i.operands 1))
            (cond (passes is_reg_sequence (known k)) (sequence_form (virtual_in (register_at i.operands 0)))
            (cond (passes is_insert_subreg (known k)) (insertion_form (virtual_in (register_at (are k) 0)) (register_at (are k) 1) (part_of_two (slice_get (are k) 2) (slice_get (are k) 3))) forms.Other)))
            ∙ (λ k. insertion_form (virtual_loc (loc k)) (Some a) (p ∷ [])) in
            let class-so = λ (o : RegOp) (m : Among (operands.Reg o) (operands.Reg d ∷ operands.Reg a ∷ operands.Reg s ∷ operands.Index x ∷ [])). class-named o (subst (λ os. Among (operands.Reg o) os) (sym are) m) in
            let cv = virtual-class d (subst (λ os. Among (operands.Reg d) os) (sym are) here) v loc in
            let st = subst StandsFor form stands in
            let whole : same_widths t f a (record d { index = None }) ≡ true = subst (λ y. same_widths t f a (record d { index = y }) ≡ true) (none-there d.index none) wa in
            subst (λ z. Each (form_lowered t f.classes c i z)) (sym form)
            (kept-holds v cv (p ∷ []) st (move_of (whole_definition (built c v (p ∷ []))) a ∷ into_part (built c v (p ∷ [])) p ∷ at_last c v (p ∷ [])) (
              move-holds (whole_definition (built c v (p ∷ []))) a refl refl (to-wide v cv (p ∷ []) st None d a loc (class-so a (there here)) whole) refl va,
              (part-holds v cv (p ∷ []) st d s x loc (class-so s (there (there here))) vs ws, last-holds v cv (p ∷ []) st),
            ))
        at d a s x are none va vs wa ws (Fixed q) loc e = absurd (cc)

        rest : (d : RegOp) (os : List Operand) → i.operands ≡ operands.Reg d ∷ os → is_none d.index ≡ true → is_virtual d.loc ≡ true → insertion os ≡ true → widths_fit t f effects.InsertSubreg (operands.Reg d ∷ os) ≡ true → Lowers
        rest d (operands.Reg a ∷ operands.Reg s ∷ operands.Index x ∷ []) are none w e fit =
            at d a s x are none (second_of_both (is_use a) (is_virtual a.loc) (first_of_both (is_virtual_use a) (is_virtual_use s) e)) (second_of_both (is_use s) (is_virtual s.loc) (second_of_both (is_virtual_use a) (is_virtual_use s) e))
            (first_of_both (same_widths t f a d) (same_widths t f s (at_index d x)) fit) (second_of_both (same_widths t f a d) (same_widths t f s (at_index d x)) fit) d.loc refl w
        rest d os are none w e fit = absurd (cc)

        by : (os : List Operand) → i.operands ≡ os → result_and insertion os ≡ true → widths_fit t f effects.InsertSubreg i.operands ≡ true → Lowers
        by (operands.Reg d ∷ os) are e w =
            let whole = first_of_both (is_whole_definition d) (insertion os) e in
            rest d os are (second_of_both (is_definition d && is_virtual d.loc) (is_none d.index) whole) (second_of_both (is_definition d) (is_virtual d.loc) (first_of_both (is_definition d && is_virtual d.loc) (is_none d.index) whole)) (second_of_both (is_whole_definition d) (insertion os) e) (subst (λ os. widths_fit t f effects.InsertSubreg os ≡ true) are w)
        by os are e w = absurd (cc)

    -- others

    abbrev CopiesHold : Tie → Type 0
    CopiesHold tie = Each (copies tie.before) × Each (copies tie.after)

    module _ (classes : AreClasses t f) where
      tied-so : (e : Effect) → effect_of t i ≡ Some e → is_copy e ≡ false → puts_together e ≡ false → has_roles e ≡ true → spills_or_reloads e ≡ false → ((tie : Tie) → Among tie (ties_in t c i) → CopiesHold tie) → Lowers
      tied-so e q one two rolled quiet all =
          let T = ties_in t c i in
          let form = other-form t i e q one two in
          let z : TiedInstr t f = record { classes = classes; i = i; r = r; e = e; known = q; rolled = rolled; unspilled = quiet; c = c; stands = subst StandsFor form stands } in
          subst (λ x. Each (form_lowered t f.classes c i x)) (sym form)
          (each-append (flat_map (λ (tie : Tie). copies tie.before) T) (with_operands t f.classes T i ∷ flat_map (λ (tie : Tie). copies tie.after) T)
          (each-flat (λ (tie : Tie). copies tie.before) T (λ x m. (all x m).0))
          (holds.ties z, each-flat (λ (tie : Tie). copies tie.after) T (λ x m. (all x m).1)))

      none-so : (e : Effect) → effect_of t i ≡ Some e → is_copy e ≡ false → puts_together e ≡ false → has_roles e ≡ true → spills_or_reloads e ≡ false → list_any is_tied (roles_of t i) ≡ false → Lowers
      none-so e q one two rolled quiet none = tied-so e q one two rolled quiet (λ tie m. absurd (member-none tie (subst (Among tie) (none-tied t i e q c none) m)))

      module _ (e : Effect) (q : effect_of t i ≡ Some e) (one : is_copy e ≡ false) (two : puts_together e ≡ false) (three : is_silent e ≡ false) (rolled : has_roles e ≡ true) where
        site : CountedInstr
        site = record { t = t; f = f; classes = classes; i = i; r = r; e = e; known = q; counts = three; rolled = rolled; form = (one, two); c = c; stands = subst StandsFor (other-form t i e q one two) stands }

        d-virtual : (p : TiedPair) → Among p (filter_map (tied_pair i.operands) (seated t i)) → is_virtual p.tied_use.loc ≡ true → is_virtual p.definition.loc ≡ true
        unfolding site
        d-virtual p m a = let z = virtual site p m a in ap is_virtual z.1

        tie-so : (tie : Tie) → Among tie (ties_in t c i) → CopiesHold tie
        unfolding site
        tie-so tie m = by (tie-is site tie m) (tie-is site tie m).kind
          where
            by : (z : IsTie (seated t i) H (roles_of t i) (length f.classes) (filter_map (tied_pair i.operands) (seated t i)) tie) → Kind z.new z.pair (is_read (seated t i) z.pair) tie → CopiesHold tie
            by z (fixed a g) = subst CopiesHold (sym g) (tt, tt)
            by z (blank a u g) = subst CopiesHold (sym g) (tt, tt)
            by z (own a u l w g) = subst CopiesHold (sym g) (tt, tt)
            by z (copied_kind a u w g) =
                let d = z.pair.definition in
                let s = z.pair.tied_use in
                subst CopiesHold (sym g) ((copying-holds (destination_of d) (source_of s) refl refl refl (as-wide t H (destination_of d) (source_of s) (ties-wide site z.pair z.member a)) (d-virtual z.pair z.member a) a, tt), tt)
            by z (aside a u g) =
                let d = z.pair.definition in
                let s = z.pair.tied_use in
                let is = (z.class (ap (λ (k : Tie). k.aside) g)).1 in
                let new = aside-wide site z.pair z.member a z.new is in
                subst CopiesHold (sym g) (
                  (copying-holds (whole_definition z.new) (source_of s) refl refl refl (as-wide t H (whole_definition z.new) (source_of s) (new ∙ ties-wide site z.pair z.member a)) refl a, tt),
                  (copying-holds (destination_of d) (whole_use z.new) refl refl refl (as-wide t H (destination_of d) (whole_use z.new) (sym new)) (d-virtual z.pair z.member a) refl, tt),
                )

        counted-so : spills_or_reloads e ≡ false → Lowers
        counted-so quiet = tied-so e q one two rolled quiet tie-so

      module _ (no-phi : does is_phi t i ≡ false) where
        none-spilled : does spills_or_reloads t i ≡ false
        unfolding V15
        none-spilled = not-true (does spills_or_reloads t i) r.fifteen

        by-effect : (e : Effect) → effect_of t i ≡ Some e → Lowers
        by-effect effects.Copy q = copy-so q
        by-effect effects.ImplicitDef q = undef-so q
        by-effect effects.Const q = none-so effects.Const q refl refl refl refl (const-untied t f i q r.one)
        by-effect effects.Addr q = none-so effects.Addr q refl refl refl refl (addr-untied t f i q r.one)
        by-effect effects.Phi q = absurd (let x : true ≡ false = ap (passes is_phi) (sym q) ∙ no-phi in cc)
        by-effect effects.RegSequence q = sequence-so q
        by-effect effects.InsertSubreg q = insertion-so q
        by-effect effects.Spill q = absurd (let x : true ≡ false = ap (passes spills_or_reloads) (sym q) ∙ none-spilled in cc)
        by-effect effects.Reload q = absurd (let x : true ≡ false = ap (passes spills_or_reloads) (sym q) ∙ none-spilled in cc)
        by-effect e q = counted-so e q refl refl refl refl refl

        instr-holds : Each (instr_lowered t f.classes c i)
        instr-holds =
            let e = known-effect t f i r in
            each-append (flat_map undefined_first i.operands) (form_lowered t f.classes c i (form_of t i)) (each-flat undefined_first i.operands (λ x m. first-holds x)) (by-effect e.0 e.1)

  -- all of them

  each-of : (xs : List Instr) → Each xs → (x : Instr) → Among x xs → P x
  each-of [] a x m = absurd (member-none x m)
  each-of (y ∷ xs) a x m = member-elim x y xs (λ e. subst P (sym e) a.0) (λ k. each-of xs a.1 x k) m

  each-numbered : (n : ℕ) (xs : List Instr) → Each xs → Each (numbered n xs)
  each-numbered n [] a = tt
  each-numbered n (x ∷ xs) a = (holds.numbers n x a.0, each-numbered (n + 1) xs a.1)

  module _ (plain : has_no_phis t f.blocks ≡ true) (classes : AreClasses t f) (rules : EachRules t f) where
    abbrev StandsAt : ℕ → List (Option ClassId) → Type 0
    StandsAt c xs = Stands H.classes (bound t f) c xs

    instrs-hold : (b : Block) → Among b f.blocks → (c : ℕ) (is : List Instr) → ((i : Instr) → Among i is → Among i b.instrs) → StandsAt c (classes_made t f.classes c is) → Each (instrs_lowered t f.classes c is)
    instrs-hold b mb c [] w s = tt
    instrs-hold b mb c (i ∷ is) w s =
        let r = rules b i mb (w i here) in
        let no-phi = not-true (does is_phi t i) (all-of (λ x. not (does is_phi t x)) i b.instrs (w i here) (all-of (λ (d : Block). list_all (λ x. not (does is_phi t x)) d.instrs) b f.blocks mb plain)) in
        let xs = instr_classes t f.classes c i in
        let ys = classes_made t f.classes (next_range t f.classes c i) is in
        each-append (instr_lowered t f.classes c i) (instrs_lowered t f.classes (next_range t f.classes c i) is)
        (instr-holds i r c (stands-left H.classes (bound t f) c xs ys s) classes no-phi)
        (instrs-hold b mb (next_range t f.classes c i) is (λ x m. w x (there m)) (stands-right H.classes (bound t f) c xs ys s))

    blocks-hold : (n c : ℕ) (bs : List Block) → ((b : Block) → Among b bs → Among b f.blocks) → StandsAt c (classes_made t f.classes c (all_instrs bs)) → (d : Block) (x : Instr) → Among d (blocks_numbered n (blocks_lowered t f.classes c bs)) → Among x d.instrs → P x
    blocks-hold n c [] w s d x md mx = absurd (member-none d md)
    blocks-hold n c (b ∷ bs) w s d x md mx =
        let L = instrs_lowered t f.classes c b.instrs in
        let xs = classes_made t f.classes c b.instrs in
        let ys = classes_made t f.classes (c + length xs) (all_instrs bs) in
        let s' : StandsAt c (xs ++ ys) = subst (StandsAt c) (made-append t f.classes c b.instrs (all_instrs bs)) s in
        member-elim d (record b { instrs = numbered n L }) (blocks_numbered (n + length L) (blocks_lowered t f.classes (c + length xs) bs))
        (λ e. each-of (numbered n L) (each-numbered n L (instrs-hold b (w b here) c b.instrs (λ i m. m) (stands-left H.classes (bound t f) c xs ys s'))) x (subst (λ (q : Block). Among x q.instrs) e mx))
        (λ k. blocks-hold (n + length L) (c + length xs) bs (λ y m. w y (there m)) (stands-right H.classes (bound t f) c xs ys s') d x k mx) md

    pub each-holds : (d : Block) (x : Instr) → Among d (ties_lowered t f).blocks → Among x d.instrs → P x
    unfolding ties_lowered
    each-holds d x md mx = blocks-hold 0 (bound t f) f.blocks (λ b m. m) (all-stand t f) d x md mx
