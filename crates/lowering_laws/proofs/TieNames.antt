-- Behind lowering each register that is named has a class, and its index fits it.
use Rattle.std.proofs.Common.{◌≡◌, ◌⊎◌, inl, inr, not, ◌&&◌, ◌||◌, ◌++◌, ◌∙◌, ℕ, suc, Bool, true, false, cond, List, [], ◌∷◌, Option, Some, None, drop, flat_map, length, map, refl, sym, ap, subst}
use Rattle.std.specs.Prelude.{filter_map, is_some, option_and_then, slice_get, unwrap_or}
use Rattle.std.specs.List.{list_all, list_any}
use Rattle.target_base.specs.declared.types.ClassId.{ClassId}
use Rattle.target_base.specs.declared.types.Effect.{Effect}
use Rattle.target_base.specs.declared.types.Effect.TheVariants as effects
use Rattle.target_base.specs.declared.types.IndexId.{IndexId}
use Rattle.target_base.specs.declared.types.Reg.{Reg}
use Rattle.target_base.specs.declared.types.Role.{Role}
use Rattle.target_base.specs.declared.types.Role.TheVariants as roles
use Rattle.target_base.specs.declared.types.Target.{Target}
use Rattle.target_base.specs.Registers.{fits}
use Rattle.target_base.specs.Roles.{is_definition as is_definition_role, is_silent, is_tied, role_class}
use Rattle.target_base.specs.Rules.{is_copy, is_insert_subreg, is_phi, is_reg_sequence}
use Rattle.target_base.proofs.Tests.{first_of_both, second_of_both}
use Rattle.meaning.specs.Live.{Among, here, there}
use Rattle.mir_func.specs.declared.func.Loc.{Loc}
use Rattle.mir_func.specs.declared.func.Loc.TheVariants.{Fixed, Virtual}
use Rattle.mir_func.specs.declared.func.Op.TheVariants as ops
use Rattle.mir_func.specs.declared.func.RegOp.{RegOp}
use Rattle.mir_func.specs.declared.func.Operand.{Operand}
use Rattle.mir_func.specs.declared.func.Operand.TheVariants as operands
use Rattle.mir_func.specs.declared.func.Instr.{Instr}
use Rattle.mir_func.specs.Value.{Function}
use Rattle.mir_func.specs.Binding.{class_of, does, effect_of, explicit_bound, explicit_roles, is_definition, is_virtual, numbered as with_numbers, passes, puts_together, register_at, registers, roles_of, takes_many, tied_number, tied_pair}
use Rattle.mir_meaning.specs.Rules.{V4, V15, copy_fits, has_class, index_fits, index_of, index_pairs, insertion, is_whole_definition, result_and, spills_or_reloads, subregs_fit}
use Rattle.phi_elim.specs.Moves.{copy_of, destination_of, implicit_def_op, move_of, source_of, undefining, whole_definition, whole_use}
use Rattle.two_address.specs.Classes.{class_asked, first_register, seated}
use Rattle.two_address.specs.Lowered.{class_if, copy_form, form_classes, form_lowered, form_of, instr_classes, instr_lowered, insertion_form, part_of_two, sequence_form, virtual_in, virtual_loc}
use Rattle.two_address.specs.Sequences.{at_last, beginning, built, fill_all, into_part, is_input, keeping_text, parts_of, sequence_lowered}
use Rattle.two_address.specs.Ties.{copies, defined_aside, defined_use, retied, retied_operand, retied_use, tie_to, ties_in, undef_fixed, undef_use_of, undefined_first, undefined_whole, untied, use_of, with_operands, with_ties}
use Rattle.two_address.specs.declared.forms.InstrLowering.{InstrLowering}
use Rattle.two_address.specs.declared.forms.InstrLowering.TheVariants as forms
use Rattle.two_address.specs.declared.sequences.SubregInput.{SubregInput}
use Rattle.two_address.specs.declared.ties.Move.{Move}
use Rattle.two_address.specs.declared.ties.Tie.{Tie}
use Rattle.instr_effects.proofs.Members.{member-none}
use Rattle.live_laws.specs.Effects.Shaped.{AreClasses}
use Rattle.live_laws.proofs.Effects.Lists.{all-of}
use Rattle.live_laws.proofs.Effects.Shapes.{index-there}
use Rattle.live_laws.proofs.Touch.Roles.{has_roles, met}
use Rattle.lowering_laws.proofs.Classes.{class-stays}
use Rattle.lowering_laws.proofs.Counted.{CountedInstr, d-there, defines, tie-is, u-there}
use Rattle.lowering_laws.proofs.Made.{Stands, stands-class}
use Rattle.lowering_laws.proofs.Operands.{known-effect, named, shaped}
use Rattle.lowering_laws.proofs.Plain.{none-tied, other-form}
use Rattle.lowering_laws.proofs.Replaced.{h, made}
use Rattle.lowering_laws.proofs.Rolled.{addr-untied, const-untied, undef-untied}
use Rattle.lowering_laws.proofs.Ruled.{InstrRules}
use Rattle.lowering_laws.proofs.RulesStay.{class-stays as has-class-still, index-stays}
use Rattle.lowering_laws.proofs.Seated.{register-in}
use Rattle.lowering_laws.proofs.Tying.{IsTie, Kind, aside, blank, copied as copied_kind, fixed, found-or, is_read, own}

not-true : (b : Bool) → not b ≡ true → b ≡ false
not-true true e = absurd (cc)
not-true false e = refl

some-class : (q : Role) → is_definition_role q ≡ true → is_some (role_class q) ≡ true
some-class (roles.Def k) e = refl
some-class (roles.Early k) e = refl
some-class q e = absurd (cc)

any-index : (t : Target) (q : Option ClassId) → elim q as (λ q. Bool) [ None ↦ true | Some c ↦ fits t c None ] ≡ true
any-index t None = refl
any-index t (Some c) = refl

module _ (t : Target) (f : Function) where
  abbrev pub H : Function
  H = h t f

  -- the operand's register has a class, which its index fits
  pub record Fits (o : RegOp) : Type 0 where
    pub class : has_class H o.loc ≡ true
    pub index : index_fits t H o.loc o.index ≡ true

  abbrev pub AllFit : List RegOp → Type 0
  AllFit [] = Unit {0}
  AllFit (o ∷ os) = Fits o × AllFit os

  abbrev pub Fitted : List Instr → Type 0
  Fitted [] = Unit {0}
  Fitted (x ∷ xs) = AllFit (registers x.operands) × Fitted xs

  pub fitted-append : (xs ys : List Instr) → Fitted xs → Fitted ys → Fitted (xs ++ ys)
  fitted-append [] ys a b = b
  fitted-append (x ∷ xs) ys a b = (a.0, fitted-append xs ys a.1 b)

  fitted-flat : {A : Type 0} (g : A → List Instr) (xs : List A) → ((x : A) → Among x xs → Fitted (g x)) → Fitted (flat_map g xs)
  fitted-flat g [] a = tt
  fitted-flat g (x ∷ xs) a = fitted-append (g x) (flat_map g xs) (a x here) (fitted-flat g xs (λ y m. a y (there m)))

  alike : (o p : RegOp) → p.loc ≡ o.loc → p.index ≡ o.index → Fits o → Fits p
  alike o p l x a = record { class = ap (has_class H) l ∙ a.class; index = (λ k. index_fits t H (l k) (x k)) ∙ a.index }

  whole : (p : RegOp) (v : ℕ) → p.loc ≡ Virtual v → p.index ≡ None → is_some (class_of H v) ≡ true → Fits p
  whole p v l x e = record { class = ap (has_class H) l ∙ e; index = (λ k. index_fits t H (l k) (x k)) ∙ any-index t (class_of H v) }

  move-fits : (to from : RegOp) → Fits to → Fits from → AllFit (registers (move_of to from).operands)
  move-fits to from a b = go from.undef
    where
      go : (y : Bool) → AllFit (registers (cond y (undefining to) (copy_of to (source_of from))).operands)
      go true = (a, tt)
      go false = (a, (alike from (source_of from) refl refl b, tt))

  -- what ties say

  abbrev MoveFits : Option Move → Type 0
  MoveFits None = Unit {0}
  MoveFits (Some m) = Fits m.to × Fits m.from

  abbrev ReadFits : Option RegOp → Type 0
  ReadFits None = Unit {0}
  ReadFits (Some o) = Fits o

  abbrev AsideFits : Option ℕ → Type 0
  AsideFits None = Unit {0}
  AsideFits (Some x) = is_some (class_of H x) ≡ true

  record TieFits (tie : Tie) : Type 0 where
    pub before : MoveFits tie.before
    pub after : MoveFits tie.after
    pub reading : ReadFits tie.reading
    pub new : AsideFits tie.aside

  untied-fits : (n : ℕ) → TieFits (untied n)
  untied-fits n = record { before = tt; after = tt; reading = tt; new = tt }

  copies-fitted : (m : Option Move) → MoveFits m → Fitted (copies m)
  copies-fitted None a = tt
  copies-fitted (Some m) a = ((a.0, (a.1, tt)), tt)

  aside-fits : (q : Option ℕ) (p : RegOp) → AsideFits q → Fits p → Fits (defined_aside q p)
  aside-fits None p a b = alike p (defined_aside None p) refl refl b
  aside-fits (Some x) p a b = whole (defined_aside (Some x) p) x refl refl a

  read-fits : (q : Option RegOp) (p : RegOp) → ReadFits q → Fits p → Fits (unwrap_or q p)
  read-fits None p a b = b
  read-fits (Some o) p a b = a

  fixed-fits : (p : RegOp) (q : Option Reg) → Fits p → Fits (undef_fixed p q)
  fixed-fits p None b = b
  fixed-fits p (Some r) b = record { class = refl; index = refl }

  module _ (T : List Tie) (all : (tie : Tie) → Among tie T → TieFits tie) where
    tie-fits : (n : ℕ) → TieFits (tie_to n T)
    tie-fits n = go (found-or n T)
      where
        go : (tie_to n T ≡ untied n) ⊎ ((tie : Tie) × Among tie T × (tie.number ≡ n) × (tie_to n T ≡ tie)) → TieFits (tie_to n T)
        go (inl e) = subst TieFits (sym e) (untied-fits n)
        go (inr z) = subst TieFits (sym z.3) (all z.0 z.1)

    defined-fits : (r : Option Role) (p : RegOp) → Fits p → Fits (defined_use t f.classes r p)
    defined-fits r p b = go (is_virtual p.loc && not p.def && p.undef)
      where
        go : (y : Bool) → Fits (cond y (undef_fixed p (first_register t (class_asked t f.classes r p))) p)
        go true = fixed-fits p (first_register t (class_asked t f.classes r p)) b
        go false = b

    use-fits : (r : Option Role) (p : RegOp) → Fits p → Fits (retied_use t f.classes T r p)
    use-fits r p b = go (option_and_then tied_number r)
      where
        go : (q : Option ℕ) → Fits (elim q as (λ q. RegOp) [ None ↦ defined_use t f.classes r p | Some n ↦ unwrap_or (tie_to n T).reading p ])
        go None = defined-fits r p b
        go (Some n) = read-fits (tie_to n T).reading p (tie-fits n).reading b

    retied-fits : (n : ℕ) (r : Option Role) (p : RegOp) → Fits p → Fits (retied t f.classes T n r p)
    retied-fits n r p b = go (is_definition p)
      where
        go : (y : Bool) → Fits (cond y (defined_aside (tie_to n T).aside p) (retied_use t f.classes T r p))
        go true = aside-fits (tie_to n T).aside p (tie-fits n).new b
        go false = use-fits r p b

    add : (n : ℕ) (r : Option Role) (o : Operand) (xs : List Operand) → ((p : RegOp) → o ≡ operands.Reg p → Fits p) → AllFit (registers xs) → AllFit (registers (retied_operand t f.classes T (n, (r, o)) ∷ xs))
    add n r (operands.Reg p) xs a b = (retied-fits n r p (a p refl), b)
    add n r o xs a b = b

    operands-fit : (n : ℕ) (rs : List Role) (os : List Operand) → ((p : RegOp) → Among (operands.Reg p) os → Fits p) → AllFit (registers (map (retied_operand t f.classes T) (with_numbers n (explicit_bound rs os))))
    operands-fit n rs [] a = tt
    operands-fit n [] (o ∷ os) a = add n None o (map (retied_operand t f.classes T) (with_numbers (suc n) (explicit_bound [] os))) (λ p e. a p (subst (λ x. Among x (o ∷ os)) e here)) (operands-fit (suc n) [] os (λ p m. a p (there m)))
    operands-fit n (r ∷ rs) (o ∷ os) a = add n (Some r) o (map (retied_operand t f.classes T) (with_numbers (suc n) (explicit_bound (cond (takes_many r) (r ∷ rs) rs) os))) (λ p e. a p (subst (λ x. Among x (o ∷ os)) e here)) (operands-fit (suc n) (cond (takes_many r) (r ∷ rs) rs) os (λ p m. a p (there m)))

    ties-fitted : (i : Instr) → ((p : RegOp) → Among (operands.Reg p) i.operands → Fits p) → Fitted (with_ties t f.classes T i)
    ties-fitted i a =
        fitted-append (flat_map (λ (tie : Tie). copies tie.before) T) (with_operands t f.classes T i ∷ flat_map (λ (tie : Tie). copies tie.after) T)
        (fitted-flat (λ (tie : Tie). copies tie.before) T (λ x m. copies-fitted x.before (all x m).before))
        (operands-fit 0 (explicit_roles (roles_of t i)) i.operands a, fitted-flat (λ (tie : Tie). copies tie.after) T (λ x m. copies-fitted x.after (all x m).after))

  -- an instruction

  module _ (i : Instr) (r : InstrRules t f i) (c : ℕ) (stands : Stands H.classes (length f.classes) c (instr_classes t f.classes c i)) where
    still : (v : ℕ) → is_some (class_of f v) ≡ true → class_of H v ≡ class_of f v
    still v e = class-stays t f (made t f) v e

    fits-own : (o : RegOp) → Among (operands.Reg o) i.operands → Fits o
    fits-own o m =
        let w = register-in o i.operands m in
        let k = (named t f i r o w).class in
        record { class = has-class-still t f H still o.loc k; index = index-stays t f H still o.loc o.index k ∙ index-there t f i (shaped t f i r) o w }

    whole-fitted : (l : Loc) → has_class H l ≡ true → Fitted (undefined_whole l)
    whole-fitted (Virtual v) e = ((whole (whole_definition v) v refl refl e, tt), tt)
    whole-fitted (Fixed q) e = tt

    first-fitted : (x : Operand) → Among x i.operands → Fitted (undefined_first x)
    first-fitted (operands.Reg p) m = go (is_definition p && p.undef)
      where
        go : (y : Bool) → Fitted (cond y (undefined_whole p.loc) [])
        go true = whole-fitted p.loc (fits-own p m).class
        go false = tt
    first-fitted x m = tt

    abbrev Lowers : Type 0
    Lowers = Fitted (form_lowered t f.classes c i (form_of t i))

    abbrev StandsFor : InstrLowering → Type 0
    StandsFor x = Stands H.classes (length f.classes) c (form_classes t f.classes c i x)

    -- COPY

    copy-fits-so : effect_of t i ≡ Some effects.Copy → Lowers
    copy-fits-so known = by i.operands refl (met t f i effects.Copy known r.one).3
      where
        go : (d s : RegOp) → Fits d → Fits s → (y : Bool) → AllFit (registers (cond y (record i { op = ops.Known implicit_def_op; operands = operands.Reg (destination_of d) ∷ [] }) (record i { operands = operands.Reg (record d { undef = false }) ∷ operands.Reg s ∷ [] })).operands)
        go d s a b true = (alike d (destination_of d) refl refl a, tt)
        go d s a b false = (alike d (record d { undef = false }) refl refl a, (b, tt))

        by : (os : List Operand) → i.operands ≡ os → copy_fits os ≡ true → Lowers
        by (operands.Reg d ∷ operands.Reg s ∷ []) are e =
            let form : form_of t i ≡ forms.Copy d s =
            λ k. cond (passes is_copy (known k)) (copy_form (register_at (are k) 0) (register_at (are k) 1))
            (cond (does is_reg_sequence t i) (sequence_form (virtual_in (register_at i.operands 0)))
            (cond (does is_insert_subreg t i) (insertion_form (virtual_in (register_at i.operands 0)) (register_at i.operands 1) (part_of_two (slice_get i.operands 2) (slice_get i.operands 3))) forms.Other)) in
            let fd = fits-own d (subst (λ os. Among (operands.Reg d) os) (sym are) here) in
            let fs = fits-own s (subst (λ os. Among (operands.Reg s) os) (sym are) (there here)) in
            subst (λ x. Fitted (form_lowered t f.classes c i x)) (sym form) (go d s fd fs s.undef, tt)
        by _ are e = absurd (cc)

    -- REG_SEQUENCE and INSERT_SUBREG

    module _ (v : ℕ) (cv : is_some (class_of f v) ≡ true) (ps : List SubregInput) (own-stands : Stands H.classes (length f.classes) c (class_if (is_input (Virtual v) ps) (class_of f v))) where
      abbrev to : ℕ
      to = built c v ps

      class-new : is_input (Virtual v) ps ≡ true → class_of H c ≡ class_of f v
      class-new e = stands-class H (length f.classes) c (class_of f v) [] (subst (λ y. Stands H.classes (length f.classes) c (class_if y (class_of f v))) e own-stands)

      class-to : class_of H to ≡ class_of f v
      class-to = go (is_input (Virtual v) ps) class-new
        where
          go : (y : Bool) → (y ≡ true → class_of H c ≡ class_of f v) → class_of H (cond y c v) ≡ class_of f v
          go true a = a refl
          go false a = still v cv

      some-to : is_some (class_of H to) ≡ true
      some-to = ap is_some class-to ∙ cv

      abbrev PartsFit : List SubregInput → Type 0
      PartsFit [] = Unit {0}
      PartsFit (p ∷ qs) = (Fits p.input × (index_fits t f (Virtual v) (Some p.index) ≡ true)) × PartsFit qs

      part-fits : (x : IndexId) → index_fits t f (Virtual v) (Some x) ≡ true → Fits (record (whole_definition to) { index = Some x })
      part-fits x e = record { class = some-to; index = ap (λ q. elim q as (λ q. Bool) [ None ↦ true | Some k ↦ fits t k (Some x) ]) class-to ∙ e }

      parts-fitted : (qs : List SubregInput) → PartsFit qs → Fitted (map (into_part to) qs)
      parts-fitted [] a = tt
      parts-fitted (p ∷ qs) a = (move-fits (record (whole_definition to) { index = Some p.index }) p.input (part-fits p.index a.0.1) a.0.0, parts-fitted qs a.1)

      last-fitted : Fitted (at_last c v ps)
      last-fitted = go (is_input (Virtual v) ps) class-new
        where
          go : (y : Bool) → (y ≡ true → class_of H c ≡ class_of f v) → Fitted (cond y (copy_of (whole_definition v) (whole_use c) ∷ []) [])
          go true a = ((whole (whole_definition v) v refl refl (ap is_some (still v cv) ∙ cv), (whole (whole_use c) c refl refl (ap is_some (a refl) ∙ cv), tt)), tt)
          go false a = tt

      begun-fitted : (k : Option ClassId) → Fitted (beginning t k to ps)
      begun-fitted k = go (fill_all t k ps)
        where
          go : (y : Bool) → Fitted (cond y [] (undefining (whole_definition to) ∷ []))
          go true = tt
          go false = ((whole (whole_definition to) to refl refl some-to, tt), tt)

      kept-fitted : (xs : List Instr) → Fitted xs → Fitted (keeping_text i xs)
      kept-fitted [] a = tt
      kept-fitted (x ∷ xs) a = a

      sequence-fitted : PartsFit ps → (k : Option ClassId) → Fitted (keeping_text i (beginning t k to ps ++ (map (into_part to) ps ++ at_last c v ps)))
      sequence-fitted a k =
          kept-fitted (beginning t k to ps ++ (map (into_part to) ps ++ at_last c v ps))
          (fitted-append (beginning t k to ps) (map (into_part to) ps ++ at_last c v ps) (begun-fitted k) (fitted-append (map (into_part to) ps) (at_last c v ps) (parts-fitted ps a) last-fitted))

      insertion-fitted : (a : RegOp) (p : SubregInput) → Fits a → Fits p.input → index_fits t f (Virtual v) (Some p.index) ≡ true → Fitted (keeping_text i (move_of (whole_definition to) a ∷ into_part to p ∷ at_last c v ps))
      insertion-fitted a p fa fp e =
          kept-fitted (move_of (whole_definition to) a ∷ into_part to p ∷ at_last c v ps)
          (move-fits (whole_definition to) a (whole (whole_definition to) to refl refl some-to) fa, (move-fits (record (whole_definition to) { index = Some p.index }) p.input (part-fits p.index e) fp, last-fitted))

      parts-from : (os : List Operand) → index_pairs os ≡ true → ((o : RegOp) → Among (operands.Reg o) os → Fits o) → ((x : IndexId) → Among x (flat_map index_of os) → index_fits t f (Virtual v) (Some x) ≡ true) → PartsFit (parts_of os)
      parts-from [] e a b = tt
      parts-from (operands.Reg s ∷ operands.Index x ∷ os) e a b = ((a s here, b x here), parts-from os (second_of_both _ (index_pairs os) e) (λ o m. a o (there (there m))) (λ y m. b y (there m)))
      parts-from os e a b = absurd (cc)

    subregs : (e : Effect) → effect_of t i ≡ Some e → puts_together e ≡ true → subregs_fit t f i.operands ≡ true
    unfolding V4
    subregs e q p = go (does puts_together t i) (ap (passes puts_together) q ∙ p) (second_of_both _ _ r.four)
      where
        go : (y : Bool) → y ≡ true → (not y || subregs_fit t f i.operands) ≡ true → subregs_fit t f i.operands ≡ true
        go true h w = w
        go false h w = absurd (cc)

    virtual-class : (d : RegOp) → Among (operands.Reg d) i.operands → (v : ℕ) → d.loc ≡ Virtual v → is_some (class_of f v) ≡ true
    virtual-class d m v loc = sym (ap (has_class f) loc) ∙ (named t f i r d (register-in d i.operands m)).class

    sequence-so : effect_of t i ≡ Some effects.RegSequence → Lowers
    sequence-so known = by i.operands refl (met t f i effects.RegSequence known r.one).3
      where
        at : (d : RegOp) (rest : List Operand) → i.operands ≡ operands.Reg d ∷ rest → index_pairs rest ≡ true → (l : Loc) → d.loc ≡ l → is_virtual l ≡ true → Lowers
        at d rest are pairs (Virtual v) loc e =
            let form : form_of t i ≡ forms.Sequence v =
            (λ k. cond (passes is_copy (known k)) (copy_form (register_at i.operands 0) (register_at i.operands 1))
            (cond (passes is_reg_sequence (known k)) (sequence_form (virtual_in (register_at (are k) 0)))
            (cond (does is_insert_subreg t i) (insertion_form (virtual_in (register_at i.operands 0)) (register_at i.operands 1) (part_of_two (slice_get i.operands 2) (slice_get i.operands 3))) forms.Other)))
            ∙ (λ k. sequence_form (virtual_loc (loc k))) in
            let cv = virtual-class d (subst (λ os. Among (operands.Reg d) os) (sym are) here) v loc in
            let st : Stands H.classes (length f.classes) c (class_if (is_input (Virtual v) (parts_of rest)) (class_of f v)) = subst (λ os. Stands H.classes (length f.classes) c (class_if (is_input (Virtual v) (parts_of (drop 1 os))) (class_of f v))) are (subst StandsFor form stands) in
            let indexes : list_all (λ x. index_fits t f d.loc (Some x)) (flat_map index_of rest) ≡ true = subst (λ os. subregs_fit t f os ≡ true) are (subregs effects.RegSequence known refl) in
            let parts = parts-from v cv (parts_of rest) st rest pairs (λ o m. fits-own o (subst (λ os. Among (operands.Reg o) os) (sym are) (there m))) (λ x m. subst (λ l. index_fits t f l (Some x) ≡ true) loc (all-of (λ x. index_fits t f d.loc (Some x)) x (flat_map index_of rest) m indexes)) in
            subst (λ x. Fitted (form_lowered t f.classes c i x)) (sym form)
            (subst (λ os. Fitted (sequence_lowered t f.classes c i v (parts_of (drop 1 os)))) (sym are) (sequence-fitted v cv (parts_of rest) st parts (class_of f v)))
        at d rest are pairs (Fixed q) loc e = absurd (cc)

        by : (os : List Operand) → i.operands ≡ os → result_and index_pairs os ≡ true → Lowers
        by (operands.Reg d ∷ rest) are e = at d rest are (second_of_both (is_whole_definition d) (index_pairs rest) e) d.loc refl (second_of_both (is_definition d) (is_virtual d.loc) (first_of_both _ _ (first_of_both (is_whole_definition d) (index_pairs rest) e)))
        by os are e = absurd (cc)

    insertion-so : effect_of t i ≡ Some effects.InsertSubreg → Lowers
    insertion-so known = by i.operands refl (met t f i effects.InsertSubreg known r.one).3
      where
        at : (d a s : RegOp) (x : IndexId) → i.operands ≡ operands.Reg d ∷ operands.Reg a ∷ operands.Reg s ∷ operands.Index x ∷ [] → (l : Loc) → d.loc ≡ l → is_virtual l ≡ true → Lowers
        at d a s x are (Virtual v) loc e =
            let p : SubregInput = record { input = s; index = x } in
            let form : form_of t i ≡ forms.Insertion v a p =
            (λ k. cond (passes is_copy (known k)) (copy_form (register_at i.operands 0) (register_at i.operands 1))
            (cond (passes is_reg_sequence (known k)) (sequence_form (virtual_in (register_at i.operands 0)))
            (cond (passes is_insert_subreg (known k)) (insertion_form (virtual_in (register_at (are k) 0)) (register_at (are k) 1) (part_of_two (slice_get (are k) 2) (slice_get (are k) 3))) forms.Other)))
            ∙ (λ k. insertion_form (virtual_loc (loc k)) (Some a) (p ∷ [])) in
            let there-so = λ (o : RegOp) (m : Among (operands.Reg o) (operands.Reg d ∷ operands.Reg a ∷ operands.Reg s ∷ operands.Index x ∷ [])). subst (λ os. Among (operands.Reg o) os) (sym are) m in
            let cv = virtual-class d (there-so d here) v loc in
            let indexes : list_all (λ y. index_fits t f d.loc (Some y)) (x ∷ []) ≡ true = subst (λ os. subregs_fit t f os ≡ true) are (subregs effects.InsertSubreg known refl) in
            let index : index_fits t f (Virtual v) (Some x) ≡ true = subst (λ l. index_fits t f l (Some x) ≡ true) loc (all-of (λ y. index_fits t f d.loc (Some y)) x (x ∷ []) here indexes) in
            subst (λ z. Fitted (form_lowered t f.classes c i z)) (sym form)
            (insertion-fitted v cv (p ∷ []) (subst StandsFor form stands) a p (fits-own a (there-so a (there here))) (fits-own s (there-so s (there (there here)))) index)
        at d a s x are (Fixed q) loc e = absurd (cc)

        rest : (d : RegOp) (os : List Operand) → i.operands ≡ operands.Reg d ∷ os → is_virtual d.loc ≡ true → insertion os ≡ true → Lowers
        rest d (operands.Reg a ∷ operands.Reg s ∷ operands.Index x ∷ []) are w e = at d a s x are d.loc refl w
        rest d os are w e = absurd (cc)

        by : (os : List Operand) → i.operands ≡ os → result_and insertion os ≡ true → Lowers
        by (operands.Reg d ∷ os) are e = rest d os are (second_of_both (is_definition d) (is_virtual d.loc) (first_of_both _ _ (first_of_both (is_whole_definition d) (insertion os) e))) (second_of_both (is_whole_definition d) (insertion os) e)
        by os are e = absurd (cc)

    -- others

    tied-so : (e : Effect) → effect_of t i ≡ Some e → is_copy e ≡ false → puts_together e ≡ false → ((tie : Tie) → Among tie (ties_in t c i) → TieFits tie) → Lowers
    tied-so e q one two all = subst (λ x. Fitted (form_lowered t f.classes c i x)) (sym (other-form t i e q one two)) (ties-fitted (ties_in t c i) all i fits-own)

    none-so : (e : Effect) → effect_of t i ≡ Some e → is_copy e ≡ false → puts_together e ≡ false → list_any is_tied (roles_of t i) ≡ false → Lowers
    none-so e q one two none = tied-so e q one two (λ tie m. absurd (member-none tie (subst (Among tie) (none-tied t i e q c none) m)))

    module _ (classes : AreClasses t f) (e : Effect) (q : effect_of t i ≡ Some e) (one : is_copy e ≡ false) (two : puts_together e ≡ false) (three : is_silent e ≡ false) (rolled : has_roles e ≡ true) where
      site : CountedInstr
      site = record { t = t; f = f; classes = classes; i = i; r = r; e = e; known = q; counts = three; rolled = rolled; form = (one, two); c = c; stands = subst StandsFor (other-form t i e q one two) stands }

      tie-so : (tie : Tie) → Among tie (ties_in t c i) → TieFits tie
      unfolding site
      tie-so tie m = by (tie-is site tie m) (tie-is site tie m).kind
        where
          by : (z : IsTie (seated t i) H (roles_of t i) (length f.classes) (filter_map (tied_pair i.operands) (seated t i)) tie) → Kind z.new z.pair (is_read (seated t i) z.pair) tie → TieFits tie
          by z (fixed a g) = subst TieFits (sym g) (untied-fits z.pair.number)
          by z (blank a u g) = subst TieFits (sym g) (record { before = tt; after = tt; reading = alike z.pair.definition (undef_use_of z.pair.definition) refl refl (fits-own z.pair.definition (d-there site z.pair z.member)); new = tt })
          by z (own a u l w g) = subst TieFits (sym g) (record { before = tt; after = tt; reading = alike z.pair.definition (use_of z.pair.definition) refl refl (fits-own z.pair.definition (d-there site z.pair z.member)); new = tt })
          by z (copied_kind a u w g) =
              let fd = fits-own z.pair.definition (d-there site z.pair z.member) in
              let fu = fits-own z.pair.tied_use (u-there site z.pair z.member) in
              subst TieFits (sym g) (record { before = (alike z.pair.definition (destination_of z.pair.definition) refl refl fd, alike z.pair.tied_use (source_of z.pair.tied_use) refl refl fu); after = tt; reading = alike z.pair.definition (use_of z.pair.definition) refl refl fd; new = tt })
          by z (aside a u g) =
              let fd = fits-own z.pair.definition (d-there site z.pair z.member) in
              let fu = fits-own z.pair.tied_use (u-there site z.pair z.member) in
              let d = defines site z.pair z.member in
              let is = (z.class (ap (λ (k : Tie). k.aside) g)).1 in
              let x : is_some (class_of H z.new) ≡ true = ap is_some (is ∙ ap (option_and_then role_class) d.at) ∙ some-class d.role d.defines in
              subst TieFits (sym g) (record {
                before = (whole (whole_definition z.new) z.new refl refl x, alike z.pair.tied_use (source_of z.pair.tied_use) refl refl fu);
                after = (alike z.pair.definition (destination_of z.pair.definition) refl refl fd, whole (whole_use z.new) z.new refl refl x);
                reading = whole (whole_use z.new) z.new refl refl x;
                new = x;
              })

      counted-so : Lowers
      counted-so = tied-so e q one two tie-so

    module _ (classes : AreClasses t f) (no-phi : does is_phi t i ≡ false) where
      none-spilled : does spills_or_reloads t i ≡ false
      unfolding V15
      none-spilled = not-true (does spills_or_reloads t i) r.fifteen

      by-effect : (e : Effect) → effect_of t i ≡ Some e → Lowers
      by-effect effects.Copy q = copy-fits-so q
      by-effect effects.ImplicitDef q = none-so effects.ImplicitDef q refl refl (undef-untied t i q)
      by-effect effects.Const q = none-so effects.Const q refl refl (const-untied t f i q r.one)
      by-effect effects.Addr q = none-so effects.Addr q refl refl (addr-untied t f i q r.one)
      by-effect effects.Phi q = absurd (let x : true ≡ false = ap (passes is_phi) (sym q) ∙ no-phi in cc)
      by-effect effects.RegSequence q = sequence-so q
      by-effect effects.InsertSubreg q = insertion-so q
      by-effect effects.Spill q = absurd (let x : true ≡ false = ap (passes spills_or_reloads) (sym q) ∙ none-spilled in cc)
      by-effect effects.Reload q = absurd (let x : true ≡ false = ap (passes spills_or_reloads) (sym q) ∙ none-spilled in cc)
      by-effect e q = counted-so classes e q refl refl refl refl

      pub instr-fitted : Fitted (instr_lowered t f.classes c i)
      instr-fitted =
          let e = known-effect t f i r in
          fitted-append (flat_map undefined_first i.operands) (form_lowered t f.classes c i (form_of t i)) (fitted-flat undefined_first i.operands first-fitted) (by-effect e.0 e.1)
