-- An instruction whose ties are lowered, and the copies beside it, can be spelled.
use Rattle.std.proofs.Common.{◌≡◌, ◌⊎◌, inl, inr, ◌∷◌, ◌∙◌, ◌&&◌, not, ℕ, suc, Bool, true, false, cond, List, Option, Some, None, flat_map, map, length, refl, sym, subst, []}
use Rattle.std.specs.Prelude.{filter_map, option_and_then, slice_get, unwrap_or}
use Rattle.std.specs.List.{list_any}
use Rattle.std.proofs.lemmas.Bool.{ltb-true}
use Rattle.target_base.specs.Registers.{IsReg, regs_of}
use Rattle.target_base.specs.Rules.{is_class_desc}
use Rattle.target_base.specs.Storage.{is_unreserved, regs_in}
use Rattle.target_base.specs.declared.types.ClassDesc.{ClassDesc}
use Rattle.target_base.specs.declared.types.ClassId.{ClassId}
use Rattle.target_base.specs.declared.types.Reg.{Reg}
use Rattle.target_base.specs.declared.types.Role.{Role}
use Rattle.target_base.specs.declared.types.Target.{Target}
use Rattle.target_base.proofs.Sound.{classes_sound}
use Rattle.target_base.proofs.Tests.{first_of_both, second_of_both}
use Rattle.meaning.specs.Live.{Among, here, there}
use Rattle.mir_func.specs.declared.func.RegOp.{RegOp}
use Rattle.mir_func.specs.declared.func.Operand.{Operand}
use Rattle.mir_func.specs.declared.func.Operand.TheVariants as operands
use Rattle.mir_func.specs.declared.func.Instr.{Instr}
use Rattle.mir_func.specs.Binding.{Bound, TiedPair, explicit_bound, explicit_roles, is_definition, is_virtual, numbered as with_numbers, roles_of, takes_many, tied_number, tied_pair}
use Rattle.mir_text.specs.Print.{is_explicit_def}
use Rattle.two_address.specs.Classes.{class_asked, first_register, seated}
use Rattle.two_address.specs.Ties.{copies, defined_aside, defined_use, number_behind, reads_besides, retied, retied_operand, retied_use, tie_among, tie_of, tie_to, ties_among, ties_in, undef_fixed, untied, with_operands, with_ties}
use Rattle.two_address.specs.declared.ties.Move.{Move}
use Rattle.two_address.specs.declared.ties.Tie.{Tie}
use Rattle.instr_effects.proofs.Members.{member-elim, member-none}
use Rattle.live_laws.proofs.Effects.Blocks.{slice-member}
use Rattle.live_laws.proofs.Effects.Lists.{all-of}
use Rattle.lowering_laws.proofs.Seated.{bound-operand, pair-is, register-there, told-of}
use Rattle.lowering_laws.proofs.Tying.{Kind, aside, blank, copied, fixed, found-or, kind-of, own}
use Rattle.writable_laws.proofs.PhisFit.{found-among}
use Rattle.writable_laws.proofs.Fitting.{OperandsFit, InstrsFit, InstrFits, KeepsOrder, OperandFits, RegisterFits, append-each, copy-fits, defined-first, flat-each, next-each, next-ordered, none-each, none-ordered}

-- the first unreserved register of a class is one of the target's

module _ (t : Target) where
  pub class-registers : (q : Option ClassDesc) (k : ℕ) → slice_get t.classes k ≡ q → (r : Reg) → Among r (regs_in q) → IsReg t r
  class-registers None k g r m = absurd (member-none r m)
  class-registers (Some d) k g r m =
      let sound = classes_sound t.name t.version t.units t.regs t.reserved t.indexes t.classes t.masks t.opcodes t.sound in
      let good = all-of (is_class_desc t.units t.regs) d t.classes (slice-member t.classes k d g) (second_of_both _ _ (first_of_both _ _ sound)) in
      ltb-true r.0 (length t.regs) (all-of _ r d.regs m (second_of_both _ _ (first_of_both _ _ (first_of_both _ _ good))))

  pub first-is : (c : Option ClassId) (r : Reg) → first_register t c ≡ Some r → IsReg t r
  first-is None r e = absurd (cc)
  first-is (Some c) r e = class-registers (slice_get t.classes c.0) c.0 refl r (found-among (is_unreserved t.reserved t.regs) (regs_of t c) r e)

  -- what ties say

  abbrev RegOpFits : RegOp → Type 0
  RegOpFits o = RegisterFits t o.loc o.index

  abbrev MoveFits : Option Move → Type 0
  MoveFits None = Unit {0}
  MoveFits (Some m) = RegOpFits m.to × RegOpFits m.from × (is_definition m.to ≡ true)

  abbrev ReadingFits : Option RegOp → Type 0
  ReadingFits None = Unit {0}
  ReadingFits (Some o) = RegOpFits o × (is_definition o ≡ false)

  record TieFits (tie : Tie) : Type 0 where
    pub before : MoveFits tie.before
    pub after : MoveFits tie.after
    pub reading : ReadingFits tie.reading

  copies-fits : (m : Option Move) → MoveFits m → InstrsFit t (copies m)
  copies-fits None h = none-each t
  copies-fits (Some m) h = next-each t _ [] (copy-fits t m.to m.from h.0 h.1 (defined-first (operands.Reg m.to) (operands.Reg m.from) h.2)) (none-each t)

  untied-fits : (n : ℕ) → TieFits (untied n)
  untied-fits n = record { before = tt; after = tt; reading = tt }

  pair-tie : (c : ℕ) (p : TiedPair) (read : Bool) → RegOpFits p.definition → RegOpFits p.tied_use → TieFits (tie_of c p read)
  pair-tie c p read d u = by (tie_of c p read) (kind-of c p read)
    where
      by : (tie : Tie) → Kind c p read tie → TieFits tie
      by tie (fixed g e) = subst TieFits (sym e) (untied-fits p.number)
      by tie (blank g w e) = subst TieFits (sym e) (record { before = tt; after = tt; reading = (d, refl) })
      by tie (own g w l i e) = subst TieFits (sym e) (record { before = tt; after = tt; reading = (d, refl) })
      by tie (aside g w e) = subst TieFits (sym e) (record { before = (tt, u, refl); after = (d, tt, refl); reading = (tt, refl) })
      by tie (copied g w r e) = subst TieFits (sym e) (record { before = (d, u, refl); after = tt; reading = (d, refl) })

  module _ (bs : List Bound) where
    ties-fits : (c : ℕ) (ps : List TiedPair) → ((p : TiedPair) → Among p ps → RegOpFits p.definition × RegOpFits p.tied_use) → (tie : Tie) → Among tie (ties_among bs c ps) → TieFits tie
    ties-fits c [] h tie m = absurd (member-none tie m)
    ties-fits c (p ∷ ps) h tie m =
        let one = tie_among bs c p in
        let z = h p here in
        member-elim tie one (ties_among bs (number_behind c one) ps)
        (λ e. subst TieFits (sym e) (pair-tie c p (list_any (reads_besides p.number p.definition.loc) bs) z.0 z.1))
        (λ k. ties-fits (number_behind c one) ps (λ q j. h q (there j)) tie k) m

  -- operands behind the pass

  module _ (cs : List (Option ClassId)) (T : List Tie) (all : (tie : Tie) → Among tie T → TieFits tie) where
    tie-fits : (n : ℕ) → TieFits (tie_to n T)
    tie-fits n = go (found-or n T)
      where
        go : (tie_to n T ≡ untied n) ⊎ ((tie : Tie) × Among tie T × (tie.number ≡ n) × (tie_to n T ≡ tie)) → TieFits (tie_to n T)
        go (inl e) = subst TieFits (sym e) (untied-fits n)
        go (inr z) = subst TieFits (sym z.3) (all z.0 z.1)

    -- a register operand stays a definition or none, and can be spelled
    abbrev Stays : RegOp → RegOp → Type 0
    Stays o p = RegOpFits p × (is_definition p ≡ is_definition o)

    aside-stays : (o : RegOp) (q : Option ℕ) → RegOpFits o → Stays o (defined_aside q o)
    aside-stays o None h = (h, refl)
    aside-stays o (Some c) h = (tt, refl)

    fixed-stays : (o : RegOp) → is_definition o ≡ false → RegOpFits o → (q : Option Reg) → ((r : Reg) → q ≡ Some r → IsReg t r) → Stays o (undef_fixed o q)
    fixed-stays o e h None g = (h, refl)
    fixed-stays o e h (Some r) g = ((g r refl, refl), sym e)

    use-stays : (r : Option Role) (o : RegOp) → is_definition o ≡ false → RegOpFits o → Stays o (defined_use t cs r o)
    use-stays r o e h = go (is_virtual o.loc && not o.def && o.undef)
      where
        go : (y : Bool) → Stays o (cond y (undef_fixed o (first_register t (class_asked t cs r o))) o)
        go true = fixed-stays o e h (first_register t (class_asked t cs r o)) (λ q g. first-is (class_asked t cs r o) q g)
        go false = (h, refl)

    read-stays : (q : Option RegOp) (o : RegOp) → is_definition o ≡ false → RegOpFits o → ReadingFits q → Stays o (unwrap_or q o)
    read-stays None o e h g = (h, refl)
    read-stays (Some p) o e h g = (g.0, g.1 ∙ sym e)

    retied-use-stays : (r : Option Role) (o : RegOp) → is_definition o ≡ false → RegOpFits o → Stays o (retied_use t cs T r o)
    retied-use-stays r o e h = go (option_and_then tied_number r)
      where
        go : (q : Option ℕ) → Stays o (elim q as (λ q. RegOp) [ None ↦ defined_use t cs r o | Some n ↦ unwrap_or (tie_to n T).reading o ])
        go None = use-stays r o e h
        go (Some n) = read-stays (tie_to n T).reading o e h (tie-fits n).reading

    retied-stays : (n : ℕ) (r : Option Role) (o : RegOp) → RegOpFits o → Stays o (retied t cs T n r o)
    retied-stays n r o h = go (is_definition o) refl
      where
        go : (y : Bool) → is_definition o ≡ y → Stays o (cond y (defined_aside (tie_to n T).aside o) (retied_use t cs T r o))
        go true e = aside-stays o (tie_to n T).aside h
        go false e = retied-use-stays r o e h

    operand-fits : (n : ℕ) (r : Option Role) (o : Operand) → OperandFits t o → OperandFits t (retied_operand t cs T (n, (r, o))) × (is_explicit_def (retied_operand t cs T (n, (r, o))) ≡ is_explicit_def o)
    operand-fits n r (operands.Reg o) h = retied-stays n r o h
    operand-fits n r o h = (h, refl)

    -- operands one by one

    in-order : (n : ℕ) (rs : List Role) (os : List Operand) → OperandsFit t os → KeepsOrder t os (map (retied_operand t cs T) (with_numbers n (explicit_bound rs os)))
    in-order n rs [] h = none-ordered t
    in-order n [] (o ∷ os) h =
        let z = operand-fits n None o (h o here) in
        next-ordered t o (retied_operand t cs T (n, (None, o))) os (map (retied_operand t cs T) (with_numbers (suc n) (explicit_bound [] os))) z.0 z.1 (in-order (suc n) [] os (λ x m. h x (there m)))
    in-order n (r ∷ rs) (o ∷ os) h =
        let z = operand-fits n (Some r) o (h o here) in
        let rest = cond (takes_many r) (r ∷ rs) rs in
        next-ordered t o (retied_operand t cs T (n, (Some r, o))) os (map (retied_operand t cs T) (with_numbers (suc n) (explicit_bound rest os))) z.0 z.1 (in-order (suc n) rest os (λ x m. h x (there m)))

    with-ties-fits : (i : Instr) → InstrFits t i → InstrsFit t (with_ties t cs T i)
    with-ties-fits i h =
        let z = in-order 0 (explicit_roles (roles_of t i)) i.operands h.operands in
        append-each t (flat_map (λ (tie : Tie). copies tie.before) T) (with_operands t cs T i ∷ flat_map (λ (tie : Tie). copies tie.after) T)
        (flat-each t (λ (tie : Tie). copies tie.before) T (λ x m. copies-fits x.before (all x m).before))
        (next-each t (with_operands t cs T i) (flat_map (λ (tie : Tie). copies tie.after) T)
        (record { opcode = h.opcode; flags = h.flags; order = z.order ∙ h.order; operands = z.fits; tail = h.tail })
        (flat-each t (λ (tie : Tie). copies tie.after) T (λ x m. copies-fits x.after (all x m).after)))

  pub tied-fits : (cs : List (Option ClassId)) (c : ℕ) (i : Instr) → InstrFits t i → InstrsFit t (with_ties t cs (ties_in t c i) i)
  tied-fits cs c i h = with-ties-fits cs (ties_in t c i) ties i h
    where
      ps : List TiedPair
      ps = filter_map (tied_pair i.operands) (seated t i)

      pairs : (p : TiedPair) → Among p (filter_map (tied_pair i.operands) (seated t i)) → RegOpFits p.definition × RegOpFits p.tied_use
      pairs p m =
          let z = told-of (tied_pair i.operands) p (seated t i) m in
          let w = pair-is i.operands z.0.0 z.0.1 p z.2 in
          let mu = subst (λ o. Among o i.operands) w.0 (bound-operand (explicit_roles (roles_of t i)) i.operands z.0.0 z.0.1 z.1) in
          (h.operands (operands.Reg p.definition) (register-there i.operands p.number p.definition w.2), h.operands (operands.Reg p.tied_use) mu)

      ties : (tie : Tie) → Among tie (ties_in t c i) → TieFits tie
      ties tie m = ties-fits (seated t i) c (filter_map (tied_pair i.operands) (seated t i)) pairs tie m
