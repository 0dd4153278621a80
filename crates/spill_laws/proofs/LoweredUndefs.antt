-- Behind lowering `undef` uses are physical registers or tied.
use Rattle.std.proofs.Common.{◌≡◌, inl, ◌∙◌, ◌&&◌, not, ℕ, Bool, true, false, cond, List, [], ◌∷◌, Option, Some, None, length, refl, sym, ap, subst}
use Rattle.std.specs.Prelude.{is_none, option_and_then, unwrap_or}
use Rattle.std.specs.List.{list_all}
use Rattle.target_base.specs.declared.types.Reg.{Reg}
use Rattle.target_base.specs.declared.types.Role.{Role}
use Rattle.target_base.specs.declared.types.Target.{Target}
use Rattle.target_base.specs.Roles.{is_implicit, role_known}
use Rattle.target_base.specs.Rules.{is_copy}
use Rattle.target_base.proofs.Tests.{first_of_both, second_of_both}
use Rattle.meaning.specs.Live.{Among as Member, here as first, there as later}
use Rattle.mir_func.specs.declared.func.Loc.{Loc}
use Rattle.mir_func.specs.declared.func.Loc.TheVariants.{Fixed, Virtual}
use Rattle.mir_func.specs.declared.func.RegOp.{RegOp}
use Rattle.mir_func.specs.declared.func.Operand.{Operand}
use Rattle.mir_func.specs.declared.func.Operand.TheVariants as operands
use Rattle.mir_func.specs.declared.func.Instr.{Instr}
use Rattle.mir_func.specs.declared.func.Block.{Block}
use Rattle.mir_func.specs.Value.{Function}
use Rattle.mir_func.specs.Binding.{explicit_operands, explicit_roles, does, is_definition, is_virtual, passes, registers, roles_of, tied_number}
use Rattle.mir_meaning.specs.Points.{has_no_phis}
use Rattle.mir_meaning.specs.Renaming.{IsFixed}
use Rattle.mir_meaning.specs.Rules.{V4, index_fits, is_free_undef}
use Rattle.two_address.specs.Classes.{class_asked, first_register, seated}
use Rattle.two_address.specs.Lowered.{ties_lowered}
use Rattle.two_address.specs.Ties.{defined_aside, defined_use, retied, retied_use, tie_to, ties_in, undef_fixed, with_operands}
use Rattle.two_address.specs.declared.ties.Tie.{Tie}
use Rattle.instr_effects.proofs.Members.{filter-of, member-elim, member-none}
use Rattle.live_laws.specs.Effects.Shaped.{AreClasses}
use Rattle.live_laws.proofs.Effects.Lists.{all-of, any-in}
use Rattle.lowering_laws.specs.Form.{is_lowered, is_undef_use}
use Rattle.lowering_laws.proofs.Blocks.{phis_are_gone}
use Rattle.lowering_laws.proofs.CountedOperands.{plain-bound}
use Rattle.lowering_laws.proofs.EachBehind.{Holds, IsCopying, IsUndefining, TiedInstr, each-holds}
use Rattle.lowering_laws.proofs.Eliminated.{eliminated-classes, eliminated-rules}
use Rattle.lowering_laws.proofs.FirstRegisters.{register-asked}
use Rattle.lowering_laws.proofs.FormedTies.{register-from}
use Rattle.lowering_laws.proofs.LoweredForm.{lowered_form}
use Rattle.lowering_laws.proofs.Operands.{named}
use Rattle.lowering_laws.proofs.Rolled.{fit-operands}
use Rattle.lowering_laws.proofs.Ruled.{EachRules, all-rules, each-rules}
use Rattle.lowering_laws.proofs.RulesStay.{same-register}
use Rattle.lowering_laws.proofs.Seated.{bound-operand, bound-role, register-in}
use Rattle.lowering_laws.proofs.Seats.{Seat, all-pairs, explicit, implicit, pairs-of}
use Rattle.spill_laws.specs.Named.{LoweredHasFixedUndefs}
use Rattle.spill_laws.proofs.FixedUndefs.{Clear, clear-fixed, free-undef, single-fixed}
use Rattle.spill_laws.proofs.Ranges.{roles-known}
use Rattle.spill_laws.proofs.Seated.{fits-role}
use Rattle.spill_laws.proofs.Touched.{UndefsFixed, low-copies}

not-true : (b : Bool) → not b ≡ true → b ≡ false
not-true true e = absurd (cc)
not-true false e = refl

never-both : (b : Bool) → b ≡ true → b ≡ false → ⊥
never-both b e h = let c : true ≡ false = sym e ∙ h in cc

-- instructions that lowering makes

undefining-fixed : (t : Target) (x : Instr) → IsUndefining t x → UndefsFixed t x
undefining-fixed t x u = single-fixed t x u.d [] u.are refl (inl u.whole)

copying-fixed : (t : Target) (g : Function) (x : Instr) → IsCopying t g x → is_lowered t x ≡ true → UndefsFixed t x
copying-fixed t g x u low = clear-fixed t x (λ o m. member-elim o u.d (u.s ∷ []) (λ e. subst Clear (sym e) (inl u.whole)) (λ k. member-elim o u.s [] (λ e. subst Clear (sym e) (inl (plain u.s.undef refl))) (λ j. absurd (member-none o j)) k) (subst (λ os. Member o (registers os)) u.are m))
  where
    used : u.s.def ≡ false
    used = not-true u.s.def (first_of_both (not u.s.def) (not u.s.implicit) u.reads)

    plain : (b : Bool) → u.s.undef ≡ b → u.s.undef ≡ false
    plain false e = e
    plain true e =
        let there : Member u.s (registers x.operands) = subst (λ os. Member u.s (registers os)) (sym u.are) (later first) in
        let any = any-in is_undef_use u.s (registers x.operands) there (λ k. not (used k) && e k) in
        let copies : does is_copy t x ≡ true = ap (passes is_copy) u.effect in
        absurd (let c : true ≡ false = (λ k. sym copies k && sym any k) ∙ low-copies t x low in cc)

-- an instruction whose ties are lowered

module _ (t : Target) (f : Function) (z : TiedInstr t f) where
  open z use {classes, i, r, e, known, rolled, c}

  abbrev T : List Tie
  T = ties_in t c i

  abbrev es : List Role
  es = explicit_roles (roles_of t i)

  there-is : (q : Option Role) (o : RegOp) → Member (q, operands.Reg o) (seated t i) → Member o (registers i.operands)
  there-is q o m = register-in o i.operands (bound-operand es i.operands q (operands.Reg o) m)

  fixed-not : (l : Loc) → IsFixed l → is_virtual l ≡ false
  fixed-not (Virtual v) w = absurd w
  fixed-not (Fixed p) w = refl

  virtual-explicit : (q : Option Role) (o : RegOp) → Member (q, operands.Reg o) (seated t i) → is_virtual o.loc ≡ true → o.implicit ≡ false
  virtual-explicit q o m v = go o.implicit refl
    where
      go : (b : Bool) → o.implicit ≡ b → o.implicit ≡ false
      go false w = w
      go true w = absurd (never-both (is_virtual o.loc) v (fixed-not o.loc ((named t f i r o (there-is q o m)).fixed w)))

  -- an `undef` use that isn't tied has a physical register to become
  stands : (q : Option Role) (o : RegOp) → Member (q, operands.Reg o) (seated t i) → is_virtual o.loc ≡ true → o.def ≡ false → option_and_then tied_number q ≡ None → (p : Reg) × (first_register t (class_asked t f.classes q o) ≡ Some p)
  unfolding V4
  stands q o m v def free =
      let fits = fit-operands t f i e known rolled r.one in
      let w = fits-role t e es (explicit_operands i.operands) q (operands.Reg o) fits.1 (plain-bound es i.operands q (operands.Reg o) fits.0 (virtual-explicit q o m v) m) in
      let role = (filter-of (λ (s : Role). not (is_implicit s)) w.0 (roles_of t i) (bound-role es i.operands w.0 (operands.Reg o) (subst (λ s. Member (s, operands.Reg o) (seated t i)) w.1 m))).0 in
      let seen = all-of (role_known (length t.classes) (length t.regs)) w.0 (roles_of t i) role (roles-known t i) in
      let there' = there-is q o m in
      let index = all-of (λ (p : RegOp). index_fits t f p.loc p.index) o (registers i.operands) there' (first_of_both _ _ r.four) in
      let y = register-asked t f classes e w.0 o v def (subst (λ s. option_and_then tied_number s ≡ None) w.1 free) w.2 seen (named t f i r o there').class index in
      (y.0, ap (λ s. first_register t (class_asked t f.classes s o)) w.1 ∙ y.1)

  defined-clear : (x : Option ℕ) (o : RegOp) → (defined_aside x o).undef ≡ false
  defined-clear None o = refl
  defined-clear (Some n) o = refl

  -- what an operand has become, where it is an `undef` use that isn't tied
  free-fixed : (k : ℕ) (q : Option Role) (o o' : RegOp) → Member (q, operands.Reg o) (seated t i) → o' ≡ retied t f.classes T k q o → is_free_undef (q, operands.Reg o') ≡ true → is_virtual o'.loc ≡ false
  free-fixed k q o o' m is free = by (is_definition o) refl
    where
      undef : o'.undef ≡ true
      undef = free-undef q o' free

      used : o'.def ≡ false
      used = not-true o'.def (first_of_both (not o'.def) o'.undef (first_of_both (not o'.def && o'.undef) (is_none (option_and_then tied_number q)) free))

      untied : option_and_then tied_number q ≡ None
      untied = go (option_and_then tied_number q) (second_of_both (not o'.def && o'.undef) (is_none (option_and_then tied_number q)) free)
        where
          go : (x : Option ℕ) → is_none x ≡ true → x ≡ None
          go None w = refl
          go (Some n) w = absurd (cc)

      plain : (a : Bool) → is_virtual o.loc ≡ a → (b : Bool) → not o.def ≡ b → (u : Bool) → o.undef ≡ u → o' ≡ cond (a && b && u) (undef_fixed o (first_register t (class_asked t f.classes q o))) o → is_virtual o'.loc ≡ false
      plain true v true d true u w = let p = stands q o m v (not-true o.def d) untied in ap (λ (x : RegOp). is_virtual x.loc) (w ∙ ap (undef_fixed o) p.1)
      plain true v true d false u w = absurd (never-both o'.undef undef (ap (λ (y : RegOp). y.undef) w ∙ u))
      plain true v false d u h w = absurd (never-both (not o'.def) (λ j. not (used j)) (ap (λ (y : RegOp). not y.def) w ∙ d))
      plain false v b d u h w = ap (λ (x : RegOp). is_virtual x.loc) w ∙ v

      by : (b : Bool) → is_definition o ≡ b → is_virtual o'.loc ≡ false
      by true d = absurd (never-both o'.undef undef (ap (λ (y : RegOp). y.undef) (is ∙ (λ j. cond (d j) (defined_aside (tie_to k T).aside o) (retied_use t f.classes T q o))) ∙ defined-clear (tie_to k T).aside o))
      by false d =
          plain (is_virtual o.loc) refl (not o.def) refl o.undef refl
          (is ∙ ((λ j. cond (d j) (defined_aside (tie_to k T).aside o) (retied_use t f.classes T q o)) ∙ (λ j. elim (untied j) as (λ x. RegOp) [ None ↦ defined_use t f.classes q o | Some w ↦ unwrap_or (tie_to w T).reading o ])))

  tied-fixed : UndefsFixed t (with_operands t f.classes T i)
  tied-fixed q o' m free = let w = pairs-of t f z (all-pairs t f z) q (operands.Reg o') m in by w.0 w.1 w.2
    where
      by : (k : ℕ) (x : Operand) → Seat t f z k q x (operands.Reg o') → is_virtual o'.loc ≡ false
      by k x (implicit o are imp at late is) =
          let one : o' ≡ o = same-register o' o (is ∙ are) in
          ap (λ (y : RegOp). is_virtual y.loc) one ∙ fixed-not o.loc ((named t f i r o at).fixed imp)
      by k x (explicit among at place plain is) =
          let w = register-from t f.classes T k q x o' is in
          free-fixed k q w.0 o' (subst (λ y. Member (q, y) (seated t i)) w.1 among) w.2 free

abbrev FormedFixed : Target → Instr → Type 0
FormedFixed t x = is_lowered t x ≡ true → UndefsFixed t x

each-fixed : (t : Target) (f : Function) → Holds t f (FormedFixed t)
each-fixed t f = record {
  numbers = λ n x h. h;
  texts = λ i x h. h;
  undefines = λ x u low. undefining-fixed t x u;
  copies = λ x u low. copying-fixed t _ x u low;
  ties = λ z low. tied-fixed t f z;
}

behind-fixed : (t : Target) (f : Function) → has_no_phis t f.blocks ≡ true → AreClasses t f → EachRules t f → list_all (λ b. list_all (is_lowered t) b.instrs) (ties_lowered t f).blocks ≡ true
    → (b : Block) (i : Instr) → Member b (ties_lowered t f).blocks → Member i b.instrs → UndefsFixed t i
behind-fixed t f plain classes rules formed b i mb mi =
    each-holds t f (FormedFixed t) (each-fixed t f) plain classes rules b i mb mi
    (all-of (is_lowered t) i b.instrs mi (all-of (λ (d : Block). list_all (is_lowered t) d.instrs) b (ties_lowered t f).blocks mb formed))

pub lowered_has_fixed_undefs : LoweredHasFixedUndefs
lowered_has_fixed_undefs t f valid classes b i mb mi =
    behind-fixed t _ (phis_are_gone t f) (eliminated-classes t f classes) (eliminated-rules t f (each-rules t f (all-rules t f valid.shape))) (lowered_form t f valid) b i mb mi
