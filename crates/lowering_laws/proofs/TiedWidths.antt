-- Rule 2 of an instruction whose ties are lowered: its registers lie in the classes that the roles of its opcode ask for.
use Rattle.std.proofs.Common.{◌≡◌, ◌∙◌, ◌&&◌, ◌||◌, ◌∷◌, not, ℕ, suc, Bool, true, false, cond, List, Option, Some, None, map, refl, sym, ap, subst, eqb-true, eq-eqb, []}
use Rattle.std.specs.Prelude.{◌==◌, filter_map, is_some, nat_eq, nat_lt, option_and_then, option_to_list, slice_get}
use Rattle.std.specs.List.{list_all, list_any}
use Rattle.target_base.specs.declared.types.ClassId.{ClassId}
use Rattle.target_base.specs.declared.types.Effect.{Effect}
use Rattle.target_base.specs.declared.types.Effect.TheVariants as effects
use Rattle.target_base.specs.declared.types.IndexId.{IndexId}
use Rattle.target_base.specs.declared.types.Reg.{Reg}
use Rattle.target_base.specs.declared.types.Role.{Role}
use Rattle.target_base.specs.declared.types.Role.TheVariants as roles
use Rattle.target_base.specs.declared.types.Target.{Target}
use Rattle.target_base.specs.Numbers.{reg_number}
use Rattle.target_base.specs.Registers.{lanes_of, regs_of}
use Rattle.target_base.specs.Roles.{defines, defines_within, is_definition as is_definition_role, is_implicit, opaque_tie_fits, role_class, roles_fit, tie_fits, ties_fit}
use Rattle.target_base.specs.Storage.{holds_place, holds_reg, is_unreserved, is_within, reg_units, regs_in, sub_place}
use Rattle.target_base.proofs.Tests.{first_of_both, second_of_both}
use Rattle.meaning.specs.Live.{Among}
use Rattle.mir_func.specs.declared.func.Loc.{Loc}
use Rattle.mir_func.specs.declared.func.Loc.TheVariants.{Fixed, Virtual}
use Rattle.mir_func.specs.declared.func.Operand.{Operand}
use Rattle.mir_func.specs.declared.func.Operand.TheVariants as operands
use Rattle.mir_func.specs.declared.func.RegOp.{RegOp}
use Rattle.mir_func.specs.Value.{Function}
use Rattle.mir_func.specs.Binding.{Bound, TiedPair, asked_class, bound, class_of, explicit_bound, explicit_operands, explicit_roles, implicit_bound, implicit_registers, implicit_roles, is_implicit_operand, passes, registers, roles_of, tied_number, tied_pair}
use Rattle.mir_meaning.specs.Rules.{V2, has_class, has_lanes, in_operand_class, is_opaque, is_taken_reserved, lies_in, register_lies_in, takes_reserved, widths_fit}
use Rattle.phi_elim.specs.Moves.{whole_use}
use Rattle.two_address.specs.Classes.{class_asked, first_register, seated}
use Rattle.two_address.specs.Ties.{definition_class, retied, retied_operand, ties_in, undef_fixed, with_operands}
use Rattle.two_address.specs.declared.ties.Tie.{Tie}
use Rattle.instr_effects.proofs.Members.{filter-of, left-in}
use Rattle.live_laws.proofs.Effects.Lists.{all-of, any-in}
use Rattle.live_laws.proofs.Effects.Shapes.{lanes-there}
use Rattle.live_laws.proofs.Touch.Cells.{any-of}
use Rattle.live_laws.proofs.Touch.Roles.{has_roles, met}
use Rattle.lowering_laws.proofs.Classes.{class-stays}
use Rattle.lowering_laws.proofs.Counted.{definition-class, operand-class}
use Rattle.lowering_laws.proofs.EachBehind.{TiedInstr}
use Rattle.lowering_laws.proofs.Formed.{all-by}
use Rattle.lowering_laws.proofs.Operands.{named, shaped}
use Rattle.lowering_laws.proofs.Replaced.{h, made}
use Rattle.lowering_laws.proofs.Rolled.{Leads, defined-by, definition-explicit, first, fit-roles, later, leads-at, leads-definition, pair-leads, tied-role}
use Rattle.lowering_laws.proofs.RulesStay.{in-class, lies-within}
use Rattle.lowering_laws.proofs.Seated.{bound-operand, bound-role, register-in, role-tied}
use Rattle.lowering_laws.proofs.Seats.{Seat, all-pairs, explicit, implicit, pairs-all}
use Rattle.lowering_laws.proofs.Turns.{Turns, new_register, own_register, reads_definition, reads_fixed, reads_new_register, turns, unchanged}
use Rattle.lowering_laws.proofs.Widths.{find-in}

or-true : (b : Bool) → (b || true) ≡ true
or-true true = refl
or-true false = refl

-- classes within classes

holds-same : (rs : List Reg) (q r : Reg) → (q.0 == r.0) ≡ true → holds_reg rs q ≡ true → holds_reg rs r ≡ true
holds-same rs q r e w = subst (λ n. list_any (λ (p : Reg). p.0 == n) rs ≡ true) (eqb-true q.0 r.0 e) w

holds-more : (rs qs : List Reg) → is_within rs qs ≡ true → (r : Reg) → holds_reg rs r ≡ true → holds_reg qs r ≡ true
holds-more rs qs w r e = let z = any-of (λ (q : Reg). q.0 == r.0) rs e in holds-same qs z.0 r z.2 (all-of (holds_reg qs) z.0 rs z.1 w)

within-own : (rs : List Reg) → is_within rs rs ≡ true
within-own rs = all-by (holds_reg rs) rs (λ r m. any-in (λ (q : Reg). q.0 == r.0) r rs m (eq-eqb r.0 r.0 refl))

within-more : (rs qs ps : List Reg) → is_within qs ps ≡ true → is_within rs qs ≡ true → is_within rs ps ≡ true
within-more rs qs ps w e = all-by (holds_reg ps) rs (λ r m. holds-more qs ps w r (all-of (holds_reg qs) r rs m e))

place-more : (qs ps : List Reg) → is_within qs ps ≡ true → (k : Option ℕ) → holds_place qs k ≡ true → holds_place ps k ≡ true
place-more qs ps w None e = absurd (cc)
place-more qs ps w (Some k) e = holds-more qs ps w (reg_number k) e

module _ (t : Target) where
  -- what lies in a class lies in each that holds it
  lies-more : (k m c : ClassId) → is_within (regs_of t k) (regs_of t m) ≡ true → (x : Option IndexId) → lies_in t k c x ≡ true → lies_in t m c x ≡ true
  lies-more k m c w None e = within-more (regs_of t c) (regs_of t k) (regs_of t m) w e
  lies-more k m c w (Some x) e =
      all-by (λ (r : Reg). holds_place (regs_of t m) (sub_place t.regs (reg_units t.regs r) (lanes_of t x))) (regs_of t c)
      (λ r a. place-more (regs_of t k) (regs_of t m) w (sub_place t.regs (reg_units t.regs r) (lanes_of t x)) (all-of (λ (r : Reg). holds_place (regs_of t k) (sub_place t.regs (reg_units t.regs r) (lanes_of t x))) r (regs_of t c) a e))

  -- the class of a tied role holds that of its definition
  abbrev Holds : ClassId → ℕ → List Role → Type 0
  Holds k n rs = (r : Role) (c : ClassId) → slice_get rs n ≡ Some r → role_class r ≡ Some c → is_within (regs_of t c) (regs_of t k) ≡ true

  same-class : (a c : ClassId) → Some a ≡ Some c → a ≡ c
  same-class a c e = cc

  same-role : (a c : Role) → Some a ≡ Some c → a ≡ c
  same-role a c e = cc

  by-number : (k c : ClassId) → (k.0 == c.0) ≡ true → is_within (regs_of t c) (regs_of t k) ≡ true
  by-number k c e = (λ s. is_within (regs_of t c) (regs_in (slice_get t.classes (eqb-true k.0 c.0 e s)))) ∙ within-own (regs_of t c)

  first-holds : (k : ClassId) (rs : List Role) → defines k rs ≡ true → Holds k 0 rs
  first-holds k (roles.Def a ∷ rs) e r c g w = by-number k c (subst (λ (x : ClassId). (k.0 == x.0) ≡ true) (same-class a c (ap role_class (same-role (roles.Def a) r g) ∙ w)) e)
  first-holds k (roles.Early a ∷ rs) e r c g w = by-number k c (subst (λ (x : ClassId). (k.0 == x.0) ≡ true) (same-class a c (ap role_class (same-role (roles.Early a) r g) ∙ w)) e)
  first-holds k rs e r c g w = absurd (cc)

  within-holds : (k : ClassId) (q : Option Role) → defines_within t.classes k q ≡ true → (r : Role) (c : ClassId) → q ≡ Some r → role_class r ≡ Some c → is_within (regs_of t c) (regs_of t k) ≡ true
  within-holds k (Some (roles.Def a)) e r c g w = subst (λ (x : ClassId). is_within (regs_of t x) (regs_of t k) ≡ true) (same-class a c (ap role_class (same-role (roles.Def a) r g) ∙ w)) e
  within-holds k (Some (roles.Early a)) e r c g w = subst (λ (x : ClassId). is_within (regs_of t x) (regs_of t k) ≡ true) (same-class a c (ap role_class (same-role (roles.Early a) r g) ∙ w)) e
  within-holds k q e r c g w = absurd (cc)

  tied-holds : (rs : List Role) (k : ClassId) (n : ℕ) → Among (roles.Tied k n) rs → ties_fit rs ≡ true → Holds k n rs
  tied-holds rs k n m e =
      let z = all-of (tie_fits rs) (roles.Tied k n) rs m (second_of_both _ (list_all (tie_fits rs) rs) e) in
      subst (λ x. Holds k x rs) (sym (eqb-true n 0 (first_of_both (nat_eq n 0) (defines k rs) z))) (first-holds k rs (second_of_both (nat_eq n 0) (defines k rs) z))

  pub tie-holds : (e : Effect) (rs : List Role) → roles_fit t.units t.regs t.classes e rs ≡ true → has_roles e ≡ true → (k : ClassId) (n : ℕ) → Among (roles.Tied k n) rs → Holds k n rs
  tie-holds effects.Copy rs h g k n m = absurd (cc)
  tie-holds effects.Phi rs h g k n m = absurd (cc)
  tie-holds effects.ImplicitDef rs h g k n m = absurd (cc)
  tie-holds effects.RegSequence rs h g k n m = absurd (cc)
  tie-holds effects.InsertSubreg rs h g k n m = absurd (cc)
  tie-holds (effects.Opaque kind) rs h g k n m = within-holds k (slice_get rs n) (second_of_both (nat_lt n 255) (defines_within t.classes k (slice_get rs n)) (all-of (opaque_tie_fits t.classes rs) (roles.Tied k n) rs m (second_of_both _ _ (first_of_both _ _ h))))
  tie-holds e rs h g k n m = tied-holds rs k n m (second_of_both _ _ (first_of_both _ _ (first_of_both _ _ (first_of_both _ _ (first_of_both _ _ h)))))

  -- a definition's role is that of the operand of its number
  pub lead-seat : {n : ℕ} {rs : List Role} {r : Role} → Leads n rs r → (os : List Operand) (q : Option Role) (x : Operand) → slice_get (explicit_bound (explicit_roles rs) os) n ≡ Some (q, x) → q ≡ Some r
  lead-seat l [] q x e = absurd (cc)
  lead-seat (first {r = r} {rs = rs} g) (y ∷ os) q x e = role-of (Some r, y) (q, x) (subst (λ (b : Bool). slice_get (explicit_bound (cond (not b) (r ∷ explicit_roles rs) (explicit_roles rs)) (y ∷ os)) 0 ≡ Some (q, x)) (definition-explicit r g).0 e)
    where
      same : (a b : Bound) → Some a ≡ Some b → a ≡ b
      same a b e = cc

      role-of : (a b : Bound) → Some a ≡ Some b → b.0 ≡ a.0
      role-of a b e = ap (λ (x : Bound). x.0) (sym (same a b e))
  lead-seat (later {n = n} {q = s} {r = r} {rs = rs} g l) (y ∷ os) q x e =
      let z = subst (λ (b : Bool). slice_get (explicit_bound (cond (not b) (s ∷ explicit_roles rs) (explicit_roles rs)) (y ∷ os)) (suc n) ≡ Some (q, x)) (definition-explicit s g).0 e in
      lead-seat l os q x (subst (λ (b : Bool). slice_get (explicit_bound (cond b (s ∷ explicit_roles rs) (explicit_roles rs)) os) n ≡ Some (q, x)) (definition-explicit s g).1 z)

  -- the first unreserved register of the class that is asked for lies in it
  fixed-lies : (cs : List (Option ClassId)) (g : Function) (q : Option Role) (o : RegOp) (p : Reg) → first_register t (class_asked t cs q o) ≡ Some p → list_all (λ k. register_lies_in t g k (Fixed p) None) (option_to_list (option_and_then asked_class q)) ≡ true
  fixed-lies cs g None o p e = refl
  fixed-lies cs g (Some roles.Any) o p e = refl
  fixed-lies cs g (Some s) o p e = by (asked_class s) e
    where
      by : (c : Option ClassId) → first_register t c ≡ Some p → list_all (λ k. register_lies_in t g k (Fixed p) None) (option_to_list c) ≡ true
      by None e = absurd (cc)
      by (Some k) e = λ s. any-in (λ (r : Reg). r.0 == p.0) p (regs_of t k) (find-in (is_unreserved t.reserved t.regs) (regs_of t k) p e) (eq-eqb p.0 p.0 refl) s && true

no-widths : (t : Target) (g : Function) (e : Effect) (os : List Operand) → has_roles e ≡ true → widths_fit t g e os ≡ true
no-widths t g effects.Copy os h = absurd (cc)
no-widths t g effects.Phi os h = absurd (cc)
no-widths t g effects.ImplicitDef os h = absurd (cc)
no-widths t g effects.RegSequence os h = absurd (cc)
no-widths t g effects.InsertSubreg os h = absurd (cc)
no-widths t g e os h = refl

module _ (t : Target) (f : Function) (z : TiedInstr t f) where
  open z use {i, r, e, known, rolled, c}

  abbrev H : Function
  H = h t f

  abbrev os : List Operand
  os = i.operands

  abbrev rs : List Role
  rs = roles_of t i

  abbrev es : List Role
  es = explicit_roles (roles_of t i)

  abbrev T : List Tie
  T = ties_in t c i

  abbrev ps : List TiedPair
  ps = filter_map (tied_pair i.operands) (seated t i)

  still : (v : ℕ) → is_some (class_of f v) ≡ true → class_of H v ≡ class_of f v
  still v w = class-stays t f (made t f) v w

  class-named : (o : RegOp) → Among o (registers os) → has_class f o.loc ≡ true
  class-named o m = (named t f i r o m).class

  -- where the register lies in the class that is asked for
  lying : (q : Option Role) (o : RegOp) → list_all (λ k. register_lies_in t H k o.loc o.index) (option_to_list (option_and_then asked_class q)) ≡ true → in_operand_class t H e (q, operands.Reg o) ≡ true
  lying q o w = (λ k. not (has_lanes t H o) || is_taken_reserved t e q o.loc || w k) ∙ or-true (not (has_lanes t H o) || is_taken_reserved t e q o.loc)

  -- an operand that keeps its register and its index
  own-class : (q : Option Role) (o o' : RegOp) → Among o (registers os) → o'.loc ≡ o.loc → o'.index ≡ o.index → in_operand_class t f e (q, operands.Reg o) ≡ true → in_operand_class t H e (q, operands.Reg o') ≡ true
  own-class q o o' m l x w =
      (λ k. in_operand_class t H e (q, operands.Reg (record o' { loc = l k; index = x k })))
      ∙ (in-class t f H still e (q, operands.Reg o) (λ p g. subst (λ (y : RegOp). has_class f y.loc ≡ true) (same-register o p g) (class-named o m)) ∙ w)
    where
      same-register : (a b : RegOp) → operands.Reg a ≡ operands.Reg b → a ≡ b
      same-register a b g = cc

  -- a register that stands in, in the class of its definition
  new-lies : (x : ℕ) (s : Role) (n : ℕ) → slice_get rs n ≡ Some s → is_definition_role s ≡ true → class_of H x ≡ definition_class rs n → (k : ClassId) → ((d : ClassId) → role_class s ≡ Some d → is_within (regs_of t d) (regs_of t k) ≡ true) → register_lies_in t H k (Virtual x) None ≡ true
  new-lies x s n at d class k within =
      let y = definition-class s d in
      ap (passes (λ c. lies_in t k c None)) (class ∙ (ap (option_and_then role_class) at ∙ y.1)) ∙ within y.0 y.1

  -- the class of a tied use holds that of its definition
  tied-within : (q : Option Role) (x : Operand) → Among (q, x) (seated t i) → (n : ℕ) → option_and_then tied_number q ≡ Some n → (k : ClassId) × (q ≡ Some (roles.Tied k n)) × Holds t k n rs
  tied-within q x m n g =
      let w = role-tied q n g in
      let v = tied-role w.0 n (subst (λ y. option_and_then tied_number y ≡ Some n) w.1 g) in
      let is : q ≡ Some (roles.Tied v.0 n) = w.1 ∙ ap Some v.1 in
      let there' : Among (roles.Tied v.0 n) es = bound-role es os (roles.Tied v.0 n) x (subst (λ y. Among (y, x) (seated t i)) is m) in
      (v.0, is, tie-holds t e rs (fit-roles t f i e known rolled r.one) rolled v.0 n (filter-of (λ (y : Role). not (is_implicit y)) (roles.Tied v.0 n) rs there').0)

  -- a definition to which a use is tied lies in the class of its role
  definition-lies : (p : TiedPair) → Among p ps → (v : ℕ) → p.definition.loc ≡ Virtual v → (k : ClassId) → Holds t k p.number rs → register_lies_in t H k p.definition.loc p.definition.index ≡ true
  definition-lies p m v at k holds =
      let d = defined-by t f i e known rolled r.one p m in
      let y = definition-class d.role d.defines in
      let o = p.definition in
      let there' = filter-of (λ (x : Operand). not (is_implicit_operand x)) (operands.Reg o) os (bound-operand es (explicit_operands os) (Some d.role) (operands.Reg o) d.takes) in
      let o-there = register-in o os there'.0 in
      let bound-there = left-in (Some d.role, operands.Reg o) (explicit_bound es (explicit_operands os)) (map (implicit_bound (implicit_roles rs)) (implicit_registers os)) d.takes in
      let fits = operand-class t f i e known r.two (Some d.role, operands.Reg o) bound-there in
      let own = asked (has_lanes t f o) (lanes-there t f i (shaped t f i r) o o-there) (is_taken_reserved t e (Some d.role) o.loc) ((λ j. is_taken_reserved t e (Some d.role) (at j)) ∙ none (is_opaque e) (takes_reserved d.role)) o d.role y.0 y.2 fits in
      lies-within t f H still k o.loc o.index (class-named o o-there) ∙ up o.loc v at o.index y.0 k (holds d.role y.0 d.at y.1) own
    where
      none : (a b : Bool) → (a && b && false) ≡ false
      none true true = refl
      none true false = refl
      none false b = refl

      asked : (a : Bool) → a ≡ true → (b : Bool) → b ≡ false → (o : RegOp) (s : Role) (d : ClassId) → asked_class s ≡ Some d → (not a || b || list_all (λ c. register_lies_in t f c o.loc o.index) (option_to_list (asked_class s))) ≡ true → register_lies_in t f d o.loc o.index ≡ true
      asked true g false q o s d asks w = first_of_both (register_lies_in t f d o.loc o.index) true (subst (λ u. list_all (λ c. register_lies_in t f c o.loc o.index) (option_to_list u) ≡ true) asks w)
      asked true g true q o s d asks w = absurd (cc)
      asked false g b q o s d asks w = absurd (cc)

      up : (l : Loc) (v : ℕ) → l ≡ Virtual v → (x : Option IndexId) (d k : ClassId) → is_within (regs_of t d) (regs_of t k) ≡ true → register_lies_in t f d l x ≡ true → register_lies_in t f k l x ≡ true
      up l v at x d k w own = subst (λ u. register_lies_in t f k u x ≡ true) (sym at) (go (class_of f v) (subst (λ u. register_lies_in t f d u x ≡ true) at own))
        where
          go : (q : Option ClassId) → passes (λ c. lies_in t d c x) q ≡ true → passes (λ c. lies_in t k c x) q ≡ true
          go None h = absurd (cc)
          go (Some c) h = lies-more t d k c w x h

  one-class : (k : ClassId) (o : RegOp) → register_lies_in t H k o.loc o.index ≡ true → list_all (λ c. register_lies_in t H c o.loc o.index) (k ∷ []) ≡ true
  one-class k o w = λ s. w s && true

  turned-class : (k : ℕ) (q : Option Role) (o o' : RegOp) → Among (q, operands.Reg o) (seated t i) → slice_get (seated t i) k ≡ Some (q, operands.Reg o) → Turns t f z k q o o' → in_operand_class t f e (q, operands.Reg o) ≡ true → in_operand_class t H e (q, operands.Reg o') ≡ true
  turned-class k q o o' m at turn w = by turn
    where
      o-there : Among o (registers os)
      o-there = register-in o os (bound-operand es os q (operands.Reg o) m)

      by : Turns t f z k q o o' → in_operand_class t H e (q, operands.Reg o') ≡ true
      by (own_register d is) = own-class q o o' o-there (ap (λ (y : RegOp). y.loc) is) (ap (λ (y : RegOp). y.index) is) w
      by (unchanged d is) = own-class q o o' o-there (ap (λ (y : RegOp). y.loc) is) (ap (λ (y : RegOp). y.index) is) w
      by (new_register x p mp same d a low class is) =
          let leads = (pair-leads t f i e known rolled r.one p mp).0 in
          let l = subst (λ n. Leads n rs leads.0) same leads.1 in
          let y = definition-class leads.0 (leads-definition l) in
          let q-is : q ≡ Some leads.0 = lead-seat t l os q (operands.Reg o) at in
          let new = new-lies x leads.0 k (leads-at l) (leads-definition l) class y.0 (λ d' g. subst (λ (u : ClassId). is_within (regs_of t d') (regs_of t u) ≡ true) (same-class t d' y.0 (sym g ∙ y.1)) (within-own (regs_of t d'))) in
          let one = one-class y.0 (record o { loc = Virtual x; index = None; undef = false }) new in
          subst (λ u. in_operand_class t H e (u, operands.Reg o') ≡ true) (sym q-is)
          (subst (λ u. in_operand_class t H e (Some leads.0, operands.Reg u) ≡ true) (sym is)
          (lying (Some leads.0) (record o { loc = Virtual x; index = None; undef = false }) (subst (λ u. list_all (λ c. register_lies_in t H c (Virtual x) None) (option_to_list u) ≡ true) (sym y.2) one)))
      by (reads_definition p mp u v g n at' l x def imp) =
          let tied = tied-within q (operands.Reg o) m p.number g in
          let own = definition-lies p mp n at' tied.0 tied.2 in
          subst (λ y. in_operand_class t H e (y, operands.Reg o') ≡ true) (sym tied.1)
          (lying (Some (roles.Tied tied.0 p.number)) o' (one-class tied.0 o' ((λ s. register_lies_in t H tied.0 (l s) (x s)) ∙ own)))
      by (reads_new_register x p mp u v g a low class is) =
          let tied = tied-within q (operands.Reg o) m p.number g in
          let d = defined-by t f i e known rolled r.one p mp in
          let new = new-lies x d.role p.number d.at d.defines class tied.0 (λ c y. tied.2 d.role c d.at y) in
          subst (λ y. in_operand_class t H e (y, operands.Reg o') ≡ true) (sym tied.1)
          (subst (λ y. in_operand_class t H e (Some (roles.Tied tied.0 p.number), operands.Reg y) ≡ true) (sym is)
          (lying (Some (roles.Tied tied.0 p.number)) (whole_use x) (one-class tied.0 (whole_use x) new)))
      by (reads_fixed p u v w' g found is) = subst (λ y. in_operand_class t H e (q, operands.Reg y) ≡ true) (sym is) (lying q (undef_fixed o (Some p)) (fixed-lies t f.classes H q o p found))

  explicit-class : (k : ℕ) (q : Option Role) (x : Operand) → Among (q, x) (seated t i) → slice_get (seated t i) k ≡ Some (q, x) → in_operand_class t f e (q, x) ≡ true → in_operand_class t H e (q, retied_operand t f.classes T (k, (q, x))) ≡ true
  explicit-class k q (operands.Reg o) m at w = turned-class k q o (retied t f.classes T k q o) m at (turns t f z k q o m) w
  explicit-class k q x m at w = refl

  seat-class : (k : ℕ) (q : Option Role) (x x' : Operand) → Seat t f z k q x x' → in_operand_class t f e (q, x) ≡ true → in_operand_class t H e (q, x') ≡ true
  seat-class k q x x' (explicit m at place plain is) w = subst (λ y. in_operand_class t H e (q, y) ≡ true) (sym is) (explicit-class k q x m at w)
  seat-class k q x x' (implicit o are imp m roles-so is) w =
      let w' = subst (λ y. in_operand_class t f e (q, y) ≡ true) are w in
      subst (λ y. in_operand_class t H e (q, y) ≡ true) (sym (is ∙ are)) (own-class q o o m refl refl w')

  pub tied-two : V2 t H (with_operands t f.classes T i) ≡ true
  unfolding V2
  tied-two =
      let w = met t f i e known r.one in
      let new = with_operands t f.classes T i in
      let old : list_all (in_operand_class t f e) (bound t i) ≡ true = all-by (in_operand_class t f e) (bound t i) (λ x m. operand-class t f i e known r.two x m) in
      let all = pairs-all t f z (in_operand_class t f e) (in_operand_class t H e) seat-class (all-pairs t f z) old in
      subst (λ q. elim q as (λ q. Bool) [ None ↦ true | Some d ↦ list_all (in_operand_class t H d.effect) (bound t new) && widths_fit t H d.effect new.operands ] ≡ true) (sym w.1)
      ((λ k. list_all (in_operand_class t H (w.2 k)) (bound t new) && widths_fit t H (w.2 k) new.operands)
      ∙ (λ k. all k && no-widths t H e new.operands rolled k))
