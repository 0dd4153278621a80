-- An instruction that names one range instead of another stays in lowered form, and its `undef` uses stay physical or tied.
use Rattle.std.proofs.Common.{◌≡◌, ◌∷◌, ◌++◌, ◌∙◌, ◌&&◌, not, ℕ, zero, suc, Bool, true, false, cond, List, Option, Some, None, map, filter, refl, sym, ap, subst, eq-eqb, []}
use Rattle.std.specs.Prelude.{filter_map, find, option_and_then, option_map}
use Rattle.std.specs.List.{cons_option, list_all, list_any}
use Rattle.target_base.specs.declared.types.IndexId.{IndexId}
use Rattle.target_base.specs.declared.types.Role.{Role}
use Rattle.target_base.specs.declared.types.Role.TheVariants as roles
use Rattle.target_base.specs.declared.types.Target.{Target}
use Rattle.target_base.specs.Rules.{is_copy}
use Rattle.target_base.proofs.Tests.{first_of_both, second_of_both}
use Rattle.meaning.specs.Live.{Among as Member}
use Rattle.mir_func.specs.declared.func.Loc.{Loc}
use Rattle.mir_func.specs.declared.func.Loc.TheVariants.{Virtual}
use Rattle.mir_func.specs.declared.func.RegOp.{RegOp}
use Rattle.mir_func.specs.declared.func.Operand.{Operand}
use Rattle.mir_func.specs.declared.func.Operand.TheVariants as operands
use Rattle.mir_func.specs.declared.func.Instr.{Instr}
use Rattle.mir_func.specs.Binding.{Bound, TiedPair, bound, does, explicit_bound, explicit_operands, explicit_roles, implicit_bound, implicit_registers, implicit_roles, is_implicit_operand, is_lowered_away, is_virtual, paired_with, register_at, registers, roles_of, same_fixed, same_index, same_loc, takes_many, takes_role, tied_number, tied_pair, tied_pairs}
use Rattle.mir_meaning.specs.Points.{is_range}
use Rattle.mir_meaning.specs.Renaming.{renamed_instr, renamed_operand}
use Rattle.mir_meaning.specs.Rules.{is_free_undef}
use Rattle.instr_effects.proofs.Members.{map-of}
use Rattle.live_laws.proofs.Effects.Lists.{all-of}
use Rattle.lowering_laws.specs.Form.{is_lowered, is_undef_definition, is_undef_use, shares_register}
use Rattle.lowering_laws.proofs.RulesStay.{same-register}
use Rattle.lowering_laws.proofs.Silently.{same-own}
use Rattle.lowering_laws.proofs.Tied.{one-index, one-loc}
use Rattle.join_laws.proofs.Rules.{all-more}
use Rattle.spill_laws.proofs.Touched.{UndefsFixed, range-virtual}
use Rattle.split_laws.proofs.MappedLists.{any-map, filter-map, map-append}

index-own : (x : Option IndexId) → same_index x x ≡ true
index-own None = refl
index-own (Some x) = eq-eqb x.0 x.0 refl

own-shares : (l : Loc) (x : Option IndexId) → (same_loc l l && same_index x x) ≡ true
own-shares l x = λ k. same-own l k && index-own x k

-- operands that name range v name range n instead, with another index
module _ (v n : ℕ) (to : Option IndexId → Option IndexId) where
  -- the operand with range n, where it is to change
  abbrev moved : Bool → RegOp → RegOp
  moved q o = cond q (record o { loc = Virtual n; index = to o.index }) o

  abbrev pub renames : RegOp → RegOp
  renames o = moved (is_range v o.loc) o

  -- what doesn't depend on the number of the range and the index stays
  stays : {X : Type 0} (p : RegOp → X) (o : RegOp) → ((w : ℕ) → o.loc ≡ Virtual w → p (record o { loc = Virtual n; index = to o.index }) ≡ p o) → p (renames o) ≡ p o
  stays {X} p o h = go (is_range v o.loc) refl
    where
      go : (q : Bool) → is_range v o.loc ≡ q → p (cond q (record o { loc = Virtual n; index = to o.index }) o) ≡ p o
      go true e = let w = range-virtual v o.loc e in h w.0 w.1
      go false e = refl

  takes : (o : RegOp) (r : Role) → takes_role (renames o) r ≡ takes_role o r
  takes o (roles.ImpDef r) = stays (λ p. p.def && same_fixed r p.loc) o (λ w e. ap (λ b. o.def && b) (sym (ap (same_fixed r) e)))
  takes o (roles.ImpRead r) = stays (λ p. not p.def && same_fixed r p.loc) o (λ w e. ap (λ b. not o.def && b) (sym (ap (same_fixed r) e)))
  takes o r = refl

  -- operands keep their roles

  abbrev move : Operand → Operand
  move = renamed_operand renames

  abbrev move-bound : Bound → Bound
  move-bound b = (b.0, move b.1)

  regs : (os : List Operand) → registers (map move os) ≡ map renames (registers os)
  regs [] = refl
  regs (operands.Reg o ∷ os) = ap (λ ps. renames o ∷ ps) (regs os)
  regs (o ∷ os) = regs os

  implicit-same : (o : Operand) → is_implicit_operand (move o) ≡ is_implicit_operand o
  implicit-same (operands.Reg o) = stays (λ p. p.implicit) o (λ w e. refl)
  implicit-same o = refl

  explicits : (os : List Operand) → explicit_operands (map move os) ≡ map move (explicit_operands os)
  explicits os = filter-map (λ o. not (is_implicit_operand o)) (λ o. not (is_implicit_operand o)) move (λ o. ap not (implicit-same o)) os

  implicits : (os : List Operand) → implicit_registers (map move os) ≡ map renames (implicit_registers os)
  implicits os = ap (filter (λ (o : RegOp). o.implicit)) (regs os) ∙ filter-map (λ (o : RegOp). o.implicit) (λ (o : RegOp). o.implicit) renames (λ o. stays (λ p. p.implicit) o (λ w e. refl)) (registers os)

  bound-explicit : (rs : List Role) (os : List Operand) → explicit_bound rs (map move os) ≡ map move-bound (explicit_bound rs os)
  bound-explicit rs [] = refl
  bound-explicit [] (o ∷ os) = ap (λ bs. (None, move o) ∷ bs) (bound-explicit [] os)
  bound-explicit (r ∷ rs) (o ∷ os) = ap (λ bs. (Some r, move o) ∷ bs) (bound-explicit (cond (takes_many r) (r ∷ rs) rs) os)

  bound-implicit : (rs : List Role) (os : List RegOp) → map (implicit_bound rs) (map renames os) ≡ map move-bound (map (implicit_bound rs) os)
  bound-implicit rs [] = refl
  bound-implicit rs (o ∷ os) = λ k. (find (λ r. takes o r k) rs, operands.Reg (renames o)) ∷ bound-implicit rs os k

  -- tied pairs

  move-pair : TiedPair → TiedPair
  move-pair p = record { number = p.number; definition = renames p.definition; tied_use = renames p.tied_use }

  at-place : (os : List Operand) (k : ℕ) → register_at (map move os) k ≡ option_map renames (register_at os k)
  at-place [] k = refl
  at-place (operands.Reg o ∷ os) zero = refl
  at-place (o ∷ os) zero = refl
  at-place (o ∷ os) (suc k) = at-place os k

  pair-same : (os : List Operand) (b : Bound) → tied_pair (map move os) (move-bound b) ≡ option_map move-pair (tied_pair os b)
  unfolding move-pair
  pair-same os (r, operands.Reg u) = by (option_and_then tied_number r)
    where
      over : (m : ℕ) (q : Option RegOp) → option_map (λ d. record { number = m; definition = d; tied_use = renames u }) (option_map renames q) ≡ option_map move-pair (option_map (λ d. record { number = m; definition = d; tied_use = u }) q)
      over m None = refl
      over m (Some d) = refl

      by : (q : Option ℕ) → paired_with (map move os) (renames u) q ≡ option_map move-pair (paired_with os u q)
      by None = refl
      by (Some m) = ap (option_map (λ d. record { number = m; definition = d; tied_use = renames u })) (at-place os m) ∙ over m (register_at os m)
  pair-same os (r, o) = refl

  pairs-moved : (os : List Operand) (bs : List Bound) → filter_map (tied_pair (map move os)) (map move-bound bs) ≡ map move-pair (filter_map (tied_pair os) bs)
  pairs-moved os [] = refl
  pairs-moved os (b ∷ bs) = (λ k. cons_option (pair-same os b k) (pairs-moved os bs k)) ∙ kept (tied_pair os b) (filter_map (tied_pair os) bs)
    where
      kept : (q : Option TiedPair) (ps : List TiedPair) → cons_option (option_map move-pair q) (map move-pair ps) ≡ map move-pair (cons_option q ps)
      kept None ps = refl
      kept (Some p) ps = refl

  same-at : (d u : RegOp) → d.loc ≡ u.loc → d.index ≡ u.index → (same_loc (renames d).loc (renames u).loc && same_index (renames d).index (renames u).index) ≡ true
  same-at d u l x = go (is_range v d.loc) (is_range v u.loc) (ap (is_range v) l)
    where
      go : (a b : Bool) → a ≡ b → (same_loc (moved a d).loc (moved b u).loc && same_index (moved a d).index (moved b u).index) ≡ true
      go true true e = ap (λ y. same_loc (Virtual n) (Virtual n) && same_index (to d.index) (to y)) (sym x) ∙ own-shares (Virtual n) (to d.index)
      go false false e = (λ k. same_loc d.loc (sym l k) && same_index d.index (sym x k)) ∙ own-shares d.loc d.index
      go true false e = absurd (cc)
      go false true e = absurd (cc)

  shares : (p : TiedPair) → shares_register p ≡ true → shares_register (move-pair p) ≡ true
  unfolding move-pair
  shares p h =
      same-at p.definition p.tied_use (one-loc p.definition.loc p.tied_use.loc (first_of_both (same_loc p.definition.loc p.tied_use.loc) (same_index p.definition.index p.tied_use.index) h))
      (one-index p.definition.index p.tied_use.index (second_of_both (same_loc p.definition.loc p.tied_use.loc) (same_index p.definition.index p.tied_use.index) h))

  module _ (t : Target) (i : Instr) where
    abbrev new : Instr
    new = renamed_instr renames i

    bound-same : bound t new ≡ map move-bound (bound t i)
    bound-same =
        let es = explicit_roles (roles_of t i) in
        let is = implicit_roles (roles_of t i) in
        (λ k. (ap (explicit_bound es) (explicits i.operands) ∙ bound-explicit es (explicit_operands i.operands)) k ++ (ap (map (implicit_bound is)) (implicits i.operands) ∙ bound-implicit is (implicit_registers i.operands)) k)
        ∙ sym (map-append move-bound (explicit_bound es (explicit_operands i.operands)) (map (implicit_bound is) (implicit_registers i.operands)))

    pairs-same : tied_pairs t new ≡ map move-pair (tied_pairs t i)
    pairs-same = ap (filter_map (tied_pair new.operands)) bound-same ∙ pairs-moved i.operands (bound t i)

    definitions-same : list_any is_undef_definition (registers new.operands) ≡ list_any is_undef_definition (registers i.operands)
    definitions-same = ap (list_any is_undef_definition) (regs i.operands) ∙ any-map is_undef_definition is_undef_definition renames (λ o. stays is_undef_definition o (λ w e. refl)) (registers i.operands)

    uses-same : list_any is_undef_use (registers new.operands) ≡ list_any is_undef_use (registers i.operands)
    uses-same = ap (list_any is_undef_use) (regs i.operands) ∙ any-map is_undef_use is_undef_use renames (λ o. stays is_undef_use o (λ w e. refl)) (registers i.operands)

    pub form-renamed : is_lowered t i ≡ true → is_lowered t new ≡ true
    form-renamed low =
        let before : Bool = not (does is_lowered_away t i) && not (list_any is_undef_definition (registers i.operands)) && not (does is_copy t i && list_any is_undef_use (registers i.operands)) in
        let three = first_of_both before (list_all shares_register (tied_pairs t i)) low in
        let ties = second_of_both before (list_all shares_register (tied_pairs t i)) low in
        (λ k. not (does is_lowered_away t i) && not (definitions-same k) && not (does is_copy t i && uses-same k) && (ap (list_all shares_register) pairs-same ∙ all-more shares_register move-pair (tied_pairs t i) (λ p m. shares p (all-of shares_register p (tied_pairs t i) m ties))) k)
        ∙ (λ k. three k && true)

    pub undefs-renamed : UndefsFixed t i → UndefsFixed t new
    undefs-renamed old q o' m free =
        let z = map-of move-bound (q, operands.Reg o') (bound t i) (subst (Member (q, operands.Reg o')) bound-same m) in
        go z.0.0 z.0.1 z.1 (ap (λ (b : Bound). b.0) z.2) (ap (λ (b : Bound). b.1) z.2)
      where
        go : (r : Option Role) (x : Operand) → Member (r, x) (bound t i) → q ≡ r → operands.Reg o' ≡ move x → is_virtual o'.loc ≡ false
        go r (operands.Reg o) mb role e =
            let same : o' ≡ renames o = same-register o' (renames o) e in
            let was = stays (λ p. is_free_undef (r, operands.Reg p)) o (λ w h. refl) in
            let free' : is_free_undef (r, operands.Reg o) ≡ true = sym was ∙ ((λ k. is_free_undef (sym role k, operands.Reg (sym same k))) ∙ free) in
            ap (λ (p : RegOp). is_virtual p.loc) same ∙ (stays (λ p. is_virtual p.loc) o (λ w h. sym (ap is_virtual h)) ∙ old r o mb free')
        go r x mb role e = absurd (cc)
