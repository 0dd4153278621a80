-- An instruction whose ties are lowered is in lowered form: each tied use has become its definition's register.
use Rattle.std.proofs.Common.{◌≡◌, ◌⊎◌, inl, inr, ◌∷◌, ◌++◌, ◌∙◌, ◌&&◌, ◌+◌, not, ℕ, zero, suc, Bool, true, false, cond, List, Option, Some, None, map, flat_map, refl, sym, ap, subst, eq-eqb, arith, []}
use Rattle.std.specs.Prelude.{filter_map, is_none, option_and_then, unwrap_or}
use Rattle.std.specs.List.{list_all, list_any}
use Rattle.target_base.specs.declared.types.ClassId.{ClassId}
use Rattle.target_base.specs.declared.types.Effect.{Effect}
use Rattle.target_base.specs.declared.types.Effect.TheVariants as effects
use Rattle.target_base.specs.declared.types.IndexId.{IndexId}
use Rattle.target_base.specs.declared.types.Reg.{Reg}
use Rattle.target_base.specs.declared.types.Role.{Role}
use Rattle.target_base.specs.declared.types.Target.{Target}
use Rattle.target_base.specs.Rules.{is_copy}
use Rattle.target_base.proofs.Tests.{first_of_both, second_of_both}
use Rattle.meaning.specs.Live.{Among, here, there}
use Rattle.mir_func.specs.declared.func.Loc.{Loc}
use Rattle.mir_func.specs.declared.func.Loc.TheVariants.{Fixed, Virtual}
use Rattle.mir_func.specs.declared.func.RegOp.{RegOp}
use Rattle.mir_func.specs.declared.func.Operand.{Operand}
use Rattle.mir_func.specs.declared.func.Operand.TheVariants as operands
use Rattle.mir_func.specs.declared.func.Instr.{Instr}
use Rattle.mir_func.specs.Value.{Function}
use Rattle.mir_func.specs.Binding.{Bound, TiedPair, as_register, effect_of, explicit_bound, explicit_operands, explicit_roles, is_definition, is_implicit_operand, is_lowered_away, is_use, is_virtual, numbered, passes, register_at, registers, roles_of, same_index, same_loc, takes_many, tied_number, tied_pair, tied_pairs}
use Rattle.mir_meaning.specs.Renaming.{IsFixed}
use Rattle.mir_meaning.specs.Rules.{implicit_last, index_fits, same_widths}
use Rattle.phi_elim.specs.Moves.{destination_of, source_of, whole_definition, whole_use}
use Rattle.two_address.specs.Classes.{class_asked, first_register, seated}
use Rattle.two_address.specs.Ties.{copies, defined_aside, defined_use, number_behind, retied, retied_operand, retied_use, tie_among, tie_to, ties_among, ties_in, undef_fixed, undef_use_of, untied, use_of, with_operands}
use Rattle.two_address.specs.declared.ties.Tie.{Tie}
use Rattle.instr_effects.proofs.Members.{map-of, member-elim, member-none}
use Rattle.live_laws.proofs.Effects.Moved.{Apart}
use Rattle.live_laws.proofs.Effects.Shapes.{index-there}
use Rattle.live_laws.proofs.Touch.Roles.{has_roles}
use Rattle.lowering_laws.specs.Form.{is_undef_definition, is_undef_use, shares_register}
use Rattle.lowering_laws.proofs.Defined.{undef-virtual}
use Rattle.lowering_laws.proofs.Formed.{AllFormed, Formed, all-by, copying-formed, formed-append, formed-flat, none-by, tied-seat}
use Rattle.lowering_laws.proofs.Operands.{named, shaped}
use Rattle.lowering_laws.proofs.Rolled.{defined-by, fit-operands, numbers-differ}
use Rattle.lowering_laws.proofs.Ruled.{InstrRules}
use Rattle.lowering_laws.proofs.RulesStay.{numbered-of, same-register}
use Rattle.lowering_laws.proofs.Seated.{bound-operand, none-explicit, pair-fits, pair-is, pair-of, pair_with, register-in, register-of, register-there, seated-pair, seated-use, told-in, told-of}
use Rattle.lowering_laws.proofs.Silently.{same-own}
use Rattle.lowering_laws.proofs.Tying.{Kind, aside, blank, copied, fixed, found-or, is_read, kind-number, kind-of, numbers-apart, own, tie-found, tie_numbers}

not-true : (b : Bool) → not b ≡ true → b ≡ false
not-true true e = absurd (cc)
not-true false e = refl

-- ties and pairs

module _ (bs : List Bound) where
  -- each tie is one of a pair
  pub each-tie : (c : ℕ) (ps : List TiedPair) (tie : Tie) → Among tie (ties_among bs c ps) → (p : TiedPair) × Among p ps × (x : ℕ) × Kind x p (is_read bs p) tie
  each-tie c [] tie m = absurd (member-none tie m)
  each-tie c (p ∷ ps) tie m =
      member-elim tie (tie_among bs c p) (ties_among bs (number_behind c (tie_among bs c p)) ps)
      (λ q. (p, here, c, subst (Kind c p (is_read bs p)) (sym q) (kind-of c p (is_read bs p))))
      (λ k. let z = each-tie (number_behind c (tie_among bs c p)) ps tie k in (z.0, there z.1, z.2, z.3)) m

  -- and each pair has one
  pub each-pair : (c : ℕ) (ps : List TiedPair) (p : TiedPair) → Among p ps → (tie : Tie) × Among tie (ties_among bs c ps) × (x : ℕ) × Kind x p (is_read bs p) tie
  each-pair c [] p m = absurd (member-none p m)
  each-pair c (q ∷ ps) p m =
      member-elim p q ps
      (λ e. (tie_among bs c q, here, c, subst (λ z. Kind c z (is_read bs z) (tie_among bs c q)) (sym e) (kind-of c q (is_read bs q))))
      (λ k. let z = each-pair (number_behind c (tie_among bs c q)) ps p k in (z.0, there z.1, z.2, z.3)) m

-- operands behind the pass, from the m-th on

module _ (t : Target) (cs : List (Option ClassId)) (ties : List Tie) where
  abbrev pub after : ℕ → List Role → List Operand → List Operand
  after m rs os = map (retied_operand t cs ties) (numbered m (explicit_bound rs os))

  pub register-from : (k : ℕ) (q : Option Role) (y : Operand) (o : RegOp) → operands.Reg o ≡ retied_operand t cs ties (k, (q, y)) → (d : RegOp) × (y ≡ operands.Reg d) × (o ≡ retied t cs ties k q d)
  register-from k q (operands.Reg d) o e = (d, refl, same-register o (retied t cs ties k q d) e)
  register-from k q y o e = absurd (cc)

  pub seat-of : (m : ℕ) (rs : List Role) (os : List Operand) (q : Option Role) (x : Operand) → Among (q, x) (explicit_bound rs (after m rs os)) → (k : ℕ) × (y : Operand) × Among (q, y) (explicit_bound rs os) × (x ≡ retied_operand t cs ties (k, (q, y)))
  seat-of m rs [] q x k = absurd (member-none (q, x) k)
  seat-of m [] (y ∷ os) q x k =
      member-elim (q, x) (None, retied_operand t cs ties (m, (None, y))) (explicit_bound [] (after (suc m) [] os))
      (λ e.
      let r : q ≡ None = ap (λ (b : Bound). b.0) e in
      (m, y, subst (λ z. Among (z, y) ((None, y) ∷ explicit_bound [] os)) (sym r) here, ap (λ (b : Bound). b.1) e ∙ (λ i. retied_operand t cs ties (m, (sym r i, y)))))
      (λ j. let z = seat-of (suc m) [] os q x j in (z.0, z.1, there z.2, z.3)) k
  seat-of m (s ∷ rs) (y ∷ os) q x k =
      let rest = cond (takes_many s) (s ∷ rs) rs in
      member-elim (q, x) (Some s, retied_operand t cs ties (m, (Some s, y))) (explicit_bound rest (after (suc m) rest os))
      (λ e.
      let r : q ≡ Some s = ap (λ (b : Bound). b.0) e in
      (m, y, subst (λ z. Among (z, y) ((Some s, y) ∷ explicit_bound rest os)) (sym r) here, ap (λ (b : Bound). b.1) e ∙ (λ i. retied_operand t cs ties (m, (sym r i, y)))))
      (λ j. let z = seat-of (suc m) rest os q x j in (z.0, z.1, there z.2, z.3)) k

  -- a register among them
  pub registers-of : (m : ℕ) (rs : List Role) (os : List Operand) (o : RegOp) → Among o (registers (after m rs os)) → (k : ℕ) × (q : Option Role) × (d : RegOp) × Among (q, operands.Reg d) (explicit_bound rs os) × (o ≡ retied t cs ties k q d)
  registers-of m rs os o a =
      let z = told-of as_register o (after m rs os) a in
      let y = map-of (retied_operand t cs ties) z.0 (numbered m (explicit_bound rs os)) z.1 in
      let w = register-from y.0.0 y.0.1.0 y.0.1.1 o (sym (register-of z.0 o z.2) ∙ y.2) in
      (y.0.0, y.0.1.0, w.0, subst (λ (x : Operand). Among (y.0.1.0, x) (explicit_bound rs os)) w.1 (numbered-of m (explicit_bound rs os) y.0 y.1), w.2)

  -- the register at a number
  pub number-of : (m : ℕ) (rs : List Role) (os : List Operand) (k : ℕ) (o : RegOp) → register_at (after m rs os) k ≡ Some o → (q : Option Role) × (d : RegOp) × (n : ℕ) × (n ≡ m + k) × (register_at os k ≡ Some d) × (o ≡ retied t cs ties n q d)
  number-of m rs [] k o e = absurd (cc)
  number-of m [] (y ∷ os) zero o e = let z = register-from m None y o (sym (register-of (retied_operand t cs ties (m, (None, y))) o e)) in (None, z.0, m, omega arith, ap as_register z.1, z.2)
  number-of m [] (y ∷ os) (suc k) o e = let z = number-of (suc m) [] os k o e in let same = z.3 in (z.0, z.1, z.2, omega (arith, same), z.4, z.5)
  number-of m (s ∷ rs) (y ∷ os) zero o e = let z = register-from m (Some s) y o (sym (register-of (retied_operand t cs ties (m, (Some s, y))) o e)) in (Some s, z.0, m, omega arith, ap as_register z.1, z.2)
  number-of m (s ∷ rs) (y ∷ os) (suc k) o e = let z = number-of (suc m) (cond (takes_many s) (s ∷ rs) rs) os k o e in let same = z.3 in (z.0, z.1, z.2, omega (arith, same), z.4, z.5)

  -- implicit operands stay so, and the others too
  abbrev pub Stay : List Role → List Operand → Type 0
  Stay rs os = (k : ℕ) (q : Option Role) (y : Operand) → Among (q, y) (explicit_bound rs os) → is_implicit_operand (retied_operand t cs ties (k, (q, y))) ≡ is_implicit_operand y

  pub all-stay : (m : ℕ) (rs : List Role) (os : List Operand) → Stay rs os → list_all is_implicit_operand (after m rs os) ≡ list_all is_implicit_operand os
  all-stay m rs [] h = refl
  all-stay m [] (y ∷ os) h = λ i. h m None y here i && all-stay (suc m) [] os (λ k q x a. h k q x (there a)) i
  all-stay m (s ∷ rs) (y ∷ os) h = λ i. h m (Some s) y here i && all-stay (suc m) (cond (takes_many s) (s ∷ rs) rs) os (λ k q x a. h k q x (there a)) i

  pub last-stays : (m : ℕ) (rs : List Role) (os : List Operand) → Stay rs os → implicit_last (after m rs os) ≡ implicit_last os
  last-stays m rs [] h = refl
  last-stays m [] (y ∷ os) h = λ i. cond (h m None y here i) (all-stay (suc m) [] os (λ k q x a. h k q x (there a)) i) (last-stays (suc m) [] os (λ k q x a. h k q x (there a)) i)
  last-stays m (s ∷ rs) (y ∷ os) h =
      let rest = cond (takes_many s) (s ∷ rs) rs in
      λ i. cond (h m (Some s) y here i) (all-stay (suc m) rest os (λ k q x a. h k q x (there a)) i) (last-stays (suc m) rest os (λ k q x a. h k q x (there a)) i)

-- what takes a role among explicit operands takes it among all
pub seat-all : (rs : List Role) (os : List Operand) (q : Option Role) (x : Operand) → implicit_last os ≡ true → Among (q, x) (explicit_bound rs (explicit_operands os)) → Among (q, x) (explicit_bound rs os)
seat-all rs [] q x last m = m
seat-all rs (y ∷ os) q x last m = go (is_implicit_operand y) refl (λ ss later k. seat-all ss os q x later k)
  where
    Later : Type 0
    Later = (ss : List Role) → implicit_last os ≡ true → Among (q, x) (explicit_bound ss (explicit_operands os)) → Among (q, x) (explicit_bound ss os)

    by : (rs : List Role) → implicit_last os ≡ true → Later → Among (q, x) (explicit_bound rs (y ∷ explicit_operands os)) → Among (q, x) (explicit_bound rs (y ∷ os))
    by [] later ih k = member-elim (q, x) (None, y) (explicit_bound [] (explicit_operands os)) (λ e. subst (λ (b : Bound). Among b ((None, y) ∷ explicit_bound [] os)) (sym e) here) (λ j. there (ih [] later j)) k
    by (s ∷ ss) later ih k =
        let rest = cond (takes_many s) (s ∷ ss) ss in
        member-elim (q, x) (Some s, y) (explicit_bound rest (explicit_operands os)) (λ e. subst (λ (b : Bound). Among b ((Some s, y) ∷ explicit_bound rest os)) (sym e) here) (λ j. there (ih rest later j)) k

    go : (b : Bool) → is_implicit_operand y ≡ b → Later → Among (q, x) (explicit_bound rs (y ∷ os))
    go true g ih =
        let all : list_all is_implicit_operand os ≡ true = subst (λ (b : Bool). cond b (list_all is_implicit_operand os) (implicit_last os) ≡ true) g last in
        absurd (member-none (q, x) (subst (λ ys. Among (q, x) (explicit_bound rs ys)) (none-explicit (y ∷ os) (λ k. g k && all k)) m))
    go false g ih =
        let later : implicit_last os ≡ true = subst (λ (b : Bool). cond b (list_all is_implicit_operand os) (implicit_last os) ≡ true) g last in
        by rs later ih (subst (λ ys. Among (q, x) (explicit_bound rs ys)) (λ k. cond (not (g k)) (y ∷ explicit_operands os) (explicit_operands os)) m)

-- opcodes with roles

pub roles-kept : (e : Effect) → has_roles e ≡ true → (is_lowered_away e ≡ false) × (is_copy e ≡ false)
roles-kept effects.Copy h = absurd (cc)
roles-kept effects.Phi h = absurd (cc)
roles-kept effects.ImplicitDef h = absurd (cc)
roles-kept effects.RegSequence h = absurd (cc)
roles-kept effects.InsertSubreg h = absurd (cc)
roles-kept e h = (refl, refl)

and-none : (a : Bool) → (a && false) ≡ false
and-none true = refl
and-none false = refl

index-own : (x : Option IndexId) → same_index x x ≡ true
index-own None = refl
index-own (Some x) = eq-eqb x.0 x.0 refl

module _ (t : Target) (f : Function) (i : Instr) (r : InstrRules t f i) (e : Effect) (known : effect_of t i ≡ Some e) (rolled : has_roles e ≡ true) (cs : List (Option ClassId)) (c : ℕ) where
  abbrev os : List Operand
  os = i.operands

  abbrev rs : List Role
  rs = explicit_roles (roles_of t i)

  abbrev bs : List Bound
  bs = seated t i

  abbrev ps : List TiedPair
  ps = filter_map (tied_pair i.operands) (seated t i)

  abbrev T : List Tie
  T = ties_in t c i

  apart : Apart (tie_numbers T)
  apart = numbers-apart bs c ps (numbers-differ t f i e known rolled r.one)

  there-is : (q : Option Role) (o : RegOp) → Among (q, operands.Reg o) bs → Among o (registers os)
  there-is q o m = register-in o os (bound-operand rs os q (operands.Reg o) m)

  fixed-there : (q : Option Role) (o : RegOp) → Among (q, operands.Reg o) bs → o.implicit ≡ true → IsFixed o.loc
  fixed-there q o m = (named t f i r o (there-is q o m)).fixed

  virtual-explicit : (l : Loc) → is_virtual l ≡ true → IsFixed l → ⊥
  virtual-explicit (Virtual v) g z = z
  virtual-explicit (Fixed q) g z = cc

  -- an operand and what becomes of it
  record Becomes (o o' : RegOp) : Type 0 where
    pub clear : is_undef_definition o' ≡ false
    pub implicit : o'.implicit ≡ o.implicit

  stays : (q : Option Role) (o : RegOp) → Among (q, operands.Reg o) bs → is_definition o ≡ false → Becomes o o
  stays q o m plain = record { clear = go o.def refl o.undef refl o.implicit refl; implicit = refl }
    where
      go : (x : Bool) → o.def ≡ x → (y : Bool) → o.undef ≡ y → (z : Bool) → o.implicit ≡ z → (x && y) ≡ false
      go false d y u z w = refl
      go true d false u z w = refl
      go true d true u true w = absurd (virtual-explicit o.loc (undef-virtual t f i r.twelve o (there-is q o m) d u) (fixed-there q o m w))
      go true d true u false w = absurd (let x : true ≡ false = (λ k. sym d k && not (sym w k)) ∙ plain in cc)

  -- what a tie has its use read is a use
  pub kind-reading : (x : ℕ) (p : TiedPair) (read : Bool) (tie : Tie) → Kind x p read tie → (tie.reading ≡ None) ⊎ ((v : RegOp) × (tie.reading ≡ Some v) × (v.def ≡ false) × (v.implicit ≡ false))
  kind-reading x p read tie (fixed g q) = inl (ap (λ (z : Tie). z.reading) q)
  kind-reading x p read tie (blank g u q) = inr (undef_use_of p.definition, ap (λ (z : Tie). z.reading) q, refl, refl)
  kind-reading x p read tie (own g u l w q) = inr (use_of p.definition, ap (λ (z : Tie). z.reading) q, refl, refl)
  kind-reading x p read tie (aside g u q) = inr (whole_use x, ap (λ (z : Tie). z.reading) q, refl, refl)
  kind-reading x p read tie (copied g u w q) = inr (use_of p.definition, ap (λ (z : Tie). z.reading) q, refl, refl)

  -- the use that a role ties to the definition of a number that some pair has is explicit
  tied-use : (q : Option Role) (o : RegOp) (k : ℕ) → Among (q, operands.Reg o) bs → option_and_then tied_number q ≡ Some k → (p : TiedPair) → Among p ps → p.number ≡ k → is_use o ≡ true
  tied-use q o k m g p mp same =
      let z = told-of (tied_pair os) p bs mp in
      let at = (pair-is os z.0.0 z.0.1 p z.2).2 in
      let d = p.definition in
      let member = told-in (tied_pair os) (pair_with k d o) (q, operands.Reg o) bs m (pair-of os q o k d g (ap (register_at os) (sym same) ∙ at)) in
      seated-use t f i e known rolled r.one (pair_with k d o) member

  tied-becomes : (q : Option Role) (o : RegOp) (k : ℕ) → Among (q, operands.Reg o) bs → is_definition o ≡ false → option_and_then tied_number q ≡ Some k → Becomes o (unwrap_or (tie_to k T).reading o)
  tied-becomes q o k m plain g = by (found-or k T)
    where
      at : (tie : Tie) → tie_to k T ≡ tie → is_use o ≡ true → (tie.reading ≡ None) ⊎ ((v : RegOp) × (tie.reading ≡ Some v) × (v.def ≡ false) × (v.implicit ≡ false)) → Becomes o (unwrap_or (tie_to k T).reading o)
      at tie same used (inl z) = subst (λ w. Becomes o (unwrap_or w o)) (sym (ap (λ (x : Tie). x.reading) same ∙ z)) (stays q o m plain)
      at tie same used (inr z) =
          subst (λ w. Becomes o (unwrap_or w o)) (sym (ap (λ (x : Tie). x.reading) same ∙ z.1))
          (record { clear = λ j. z.2 j && z.0.undef; implicit = z.3 ∙ sym (not-true o.implicit (second_of_both (not o.def) (not o.implicit) used)) })

      by : (tie_to k T ≡ untied k) ⊎ ((tie : Tie) × Among tie T × (tie.number ≡ k) × (tie_to k T ≡ tie)) → Becomes o (unwrap_or (tie_to k T).reading o)
      by (inl z) = subst (λ w. Becomes o (unwrap_or w o)) (sym (ap (λ (x : Tie). x.reading) z)) (stays q o m plain)
      by (inr z) =
          let y = each-tie bs c ps z.0 z.1 in
          at z.0 z.3 (tied-use q o k m g y.0 y.1 (sym (kind-number y.2 y.0 (is_read bs y.0) z.0 y.3) ∙ z.2)) (kind-reading y.2 y.0 (is_read bs y.0) z.0 y.3)

  free-becomes : (q : Option Role) (o : RegOp) → Among (q, operands.Reg o) bs → is_definition o ≡ false → Becomes o (defined_use t cs q o)
  free-becomes q o m plain = by (is_virtual o.loc) refl (not o.def) o.undef
    where
      explicit : is_virtual o.loc ≡ true → o.implicit ≡ false
      explicit v = go o.implicit refl
        where
          go : (y : Bool) → o.implicit ≡ y → o.implicit ≡ false
          go false w = w
          go true w = absurd (virtual-explicit o.loc v (fixed-there q o m w))

      at : is_virtual o.loc ≡ true → (x : Option Reg) → Becomes o (undef_fixed o x)
      at v None = stays q o m plain
      at v (Some x) = record { clear = refl; implicit = sym (explicit v) }

      by : (x : Bool) → is_virtual o.loc ≡ x → (y z : Bool) → Becomes o (cond (x && y && z) (undef_fixed o (first_register t (class_asked t cs q o))) o)
      by true v true true = at v (first_register t (class_asked t cs q o))
      by true v true false = stays q o m plain
      by true v false z = stays q o m plain
      by false v y z = stays q o m plain

  becomes : (n : ℕ) (q : Option Role) (o : RegOp) → Among (q, operands.Reg o) bs → Becomes o (retied t cs T n q o)
  becomes n q o m = by (is_definition o) refl
    where
      defined : (x : Option ℕ) → Becomes o (defined_aside x o)
      defined None = record { clear = and-none o.def; implicit = refl }
      defined (Some x) = record { clear = and-none o.def; implicit = refl }

      by-role : (x : Option ℕ) → option_and_then tied_number q ≡ x → is_definition o ≡ false → Becomes o (elim x as (λ z. RegOp) [ None ↦ defined_use t cs q o | Some w ↦ unwrap_or (tie_to w T).reading o ])
      by-role None g plain = free-becomes q o m plain
      by-role (Some w) g plain = tied-becomes q o w m plain g

      by : (y : Bool) → is_definition o ≡ y → Becomes o (cond y (defined_aside (tie_to n T).aside o) (retied_use t cs T q o))
      by true g = defined (tie_to n T).aside
      by false g = by-role (option_and_then tied_number q) refl g

  abbrev new : Instr
  new = with_operands t cs T i

  pub stay-implicit : (k : ℕ) (q : Option Role) (y : Operand) → Among (q, y) bs → is_implicit_operand (retied_operand t cs T (k, (q, y))) ≡ is_implicit_operand y
  stay-implicit k q (operands.Reg o) m = (becomes k q o m).implicit
  stay-implicit k q y m = refl

  pub last : implicit_last new.operands ≡ true
  last = last-stays t cs T 0 rs os stay-implicit ∙ (fit-operands t f i e known rolled r.one).0

  -- ties

  abbrev Shares : RegOp → RegOp → Type 0
  Shares d u = (same_loc d.loc u.loc && same_index d.index u.index) ≡ true

  own-shares : (l : Loc) (x : Option IndexId) → (same_loc l l && same_index x x) ≡ true
  own-shares l x = λ k. same-own l k && index-own x k

  -- a physical register is tied to itself
  fixed-shares : (p : TiedPair) → Among p ps → is_virtual p.tied_use.loc ≡ false → Shares p.definition p.tied_use
  fixed-shares p m g =
      let d = p.definition in
      let u = p.tied_use in
      let z = told-of (tied_pair os) p bs m in
      let y = pair-is os z.0.0 z.0.1 p z.2 in
      let fits = at d.loc u.loc (same_widths t f d u) g (pair-fits t f i p r.eleven (seated-pair t f i e known rolled r.one p m)) in
      let du = index-there t f i (shaped t f i r) in
      let d-none = no-index d.loc d.index fits.1 (du d (register-in d os (d-there y.2))) in
      let u-none = no-index u.loc u.index g (du u (there-is z.0.0 u (subst (λ x. Among (z.0.0, x) bs) y.0 z.1))) in
      λ k. fits.0 k && same_index (d-none k) (u-none k)
    where
      at : (l m : Loc) (w : Bool) → is_virtual m ≡ false → cond (is_virtual l && is_virtual m) w (same_loc l m) ≡ true → (same_loc l m ≡ true) × (is_virtual l ≡ false)
      at (Fixed a) (Fixed b) w g h = (h, refl)
      at (Virtual v) (Fixed b) w g h = absurd (cc)
      at l (Virtual v) w g h = absurd (cc)

      none-there : (x : Option IndexId) → is_none x ≡ true → x ≡ None
      none-there None h = refl
      none-there (Some x) h = absurd (cc)

      no-index : (l : Loc) (x : Option IndexId) → is_virtual l ≡ false → index_fits t f l x ≡ true → x ≡ None
      no-index (Fixed q) x g h = none-there x h
      no-index (Virtual v) x g h = absurd (cc)

      d-there : register_at os p.number ≡ Some p.definition → Among (operands.Reg p.definition) os
      d-there e = register-there os p.number p.definition e

  kind-shares : (x : ℕ) (p : TiedPair) → Among p ps → (read : Bool) (tie : Tie) → Kind x p read tie → Shares (defined_aside tie.aside p.definition) (unwrap_or tie.reading p.tied_use)
  kind-shares x p m read tie (fixed g q) = subst (λ (z : Tie). Shares (defined_aside z.aside p.definition) (unwrap_or z.reading p.tied_use)) (sym q) (fixed-shares p m g)
  kind-shares x p m read tie (blank g u q) = subst (λ (z : Tie). Shares (defined_aside z.aside p.definition) (unwrap_or z.reading p.tied_use)) (sym q) (own-shares p.definition.loc p.definition.index)
  kind-shares x p m read tie (own g u l w q) = subst (λ (z : Tie). Shares (defined_aside z.aside p.definition) (unwrap_or z.reading p.tied_use)) (sym q) (own-shares p.definition.loc p.definition.index)
  kind-shares x p m read tie (aside g u q) = subst (λ (z : Tie). Shares (defined_aside z.aside p.definition) (unwrap_or z.reading p.tied_use)) (sym q) (own-shares (Virtual x) None)
  kind-shares x p m read tie (copied g u w q) = subst (λ (z : Tie). Shares (defined_aside z.aside p.definition) (unwrap_or z.reading p.tied_use)) (sym q) (own-shares p.definition.loc p.definition.index)

  -- a use and its definition become one register
  pair-shares : (p : TiedPair) → Among p ps → (q : Role) → tied_number q ≡ Some p.number → (k n : ℕ) → n ≡ p.number → (s : Option Role) → Shares (retied t cs T n s p.definition) (retied t cs T k (Some q) p.tied_use)
  pair-shares p m q g k n same s =
      let z = each-pair bs c ps p m in
      let tie = z.0 in
      let numbered-so : tie.number ≡ p.number = kind-number z.2 p (is_read bs p) tie z.3 in
      let found : tie_to p.number T ≡ tie = ap (λ x. tie_to x T) (sym numbered-so) ∙ tie-found T tie apart z.1 in
      let d-is : is_definition p.definition ≡ true = (defined-by t f i e known rolled r.one p m).is in
      let u-is : is_definition p.tied_use ≡ false = use-plain p.tied_use (seated-use t f i e known rolled r.one p m) in
      let d-same : retied t cs T n s p.definition ≡ defined_aside tie.aside p.definition =
      (λ j. cond (d-is j) (defined_aside (tie_to n T).aside p.definition) (retied_use t cs T s p.definition)) ∙ (ap (λ x. defined_aside (tie_to x T).aside p.definition) same ∙ ap (λ (x : Tie). defined_aside x.aside p.definition) found) in
      let u-same : retied t cs T k (Some q) p.tied_use ≡ unwrap_or tie.reading p.tied_use =
      (λ j. cond (u-is j) (defined_aside (tie_to k T).aside p.tied_use) (retied_use t cs T (Some q) p.tied_use))
      ∙ (ap (λ x. elim x as (λ x. RegOp) [ None ↦ defined_use t cs (Some q) p.tied_use | Some w ↦ unwrap_or (tie_to w T).reading p.tied_use ]) g ∙ ap (λ (x : Tie). unwrap_or x.reading p.tied_use) found) in
      subst (λ d. Shares d (retied t cs T k (Some q) p.tied_use)) (sym d-same) (subst (Shares (defined_aside tie.aside p.definition)) (sym u-same) (kind-shares z.2 p m (is_read bs p) tie z.3))
    where
      use-plain : (o : RegOp) → is_use o ≡ true → is_definition o ≡ false
      use-plain o e = λ j. not-true o.def (first_of_both (not o.def) (not o.implicit) e) j && not o.implicit

  each-shares : (p : TiedPair) → Among p (tied_pairs t new) → shares_register p ≡ true
  each-shares p m =
      let z = tied-seat t new p m in
      let w = seat-all rs new.operands (Some z.0) (operands.Reg p.tied_use) last z.1 in
      let s = seat-of t cs T 0 rs os (Some z.0) (operands.Reg p.tied_use) w in
      let u = register-from t cs T s.0 (Some z.0) s.1 p.tied_use s.3 in
      let d = number-of t cs T 0 rs os p.number p.definition z.3 in
      let pair = pair_with p.number d.1 u.0 in
      let member = told-in (tied_pair os) pair (Some z.0, operands.Reg u.0) bs (subst (λ (x : Operand). Among (Some z.0, x) bs) u.1 s.2) (pair-of os (Some z.0) u.0 p.number d.1 z.2 d.4) in
      let same = d.3 in
      let n-is : d.2 ≡ p.number = omega (arith, same) in
      subst (λ x. Shares x p.tied_use) (sym d.5) (subst (Shares (retied t cs T d.2 d.0 d.1)) (sym u.2) (pair-shares pair member z.0 z.2 s.0 d.2 n-is d.0))

  pub new-formed : Formed t new
  new-formed =
      let kept = roles-kept e rolled in
      λ k. not ((ap (passes is_lowered_away) known ∙ kept.0) k)
      && not (none-by is_undef_definition (registers new.operands) (λ o m. let z = registers-of t cs T 0 rs os o m in subst (λ x. is_undef_definition x ≡ false) (sym z.4) (becomes z.0 z.1 z.2 z.3).clear) k)
      && not ((ap (passes is_copy) known ∙ kept.1) k && list_any is_undef_use (registers new.operands))
      && all-by shares_register (tied_pairs t new) each-shares k

  -- copies beside it

  kind-copies : (x : ℕ) (p : TiedPair) (read : Bool) (tie : Tie) → Kind x p read tie → AllFormed t (copies tie.before) × AllFormed t (copies tie.after)
  kind-copies x p read tie (fixed g q) = subst (λ (z : Tie). AllFormed t (copies z.before) × AllFormed t (copies z.after)) (sym q) (tt, tt)
  kind-copies x p read tie (blank g u q) = subst (λ (z : Tie). AllFormed t (copies z.before) × AllFormed t (copies z.after)) (sym q) (tt, tt)
  kind-copies x p read tie (own g u l w q) = subst (λ (z : Tie). AllFormed t (copies z.before) × AllFormed t (copies z.after)) (sym q) (tt, tt)
  kind-copies x p read tie (aside g u q) = subst (λ (z : Tie). AllFormed t (copies z.before) × AllFormed t (copies z.after)) (sym q) ((copying-formed t (whole_definition x) (source_of p.tied_use) refl u, tt), (copying-formed t (destination_of p.definition) (whole_use x) refl refl, tt))
  kind-copies x p read tie (copied g u w q) = subst (λ (z : Tie). AllFormed t (copies z.before) × AllFormed t (copies z.after)) (sym q) ((copying-formed t (destination_of p.definition) (source_of p.tied_use) refl u, tt), tt)

  pub tied-formed : AllFormed t (flat_map (λ (tie : Tie). copies tie.before) T ++ (new ∷ flat_map (λ (tie : Tie). copies tie.after) T))
  tied-formed =
      let each = λ (tie : Tie) (m : Among tie T). let z = each-tie bs c ps tie m in kind-copies z.2 z.0 (is_read bs z.0) tie z.3 in
      formed-append t (flat_map (λ (tie : Tie). copies tie.before) T) (new ∷ flat_map (λ (tie : Tie). copies tie.after) T)
      (formed-flat t (λ (tie : Tie). copies tie.before) T (λ tie m. (each tie m).0))
      (new-formed, formed-flat t (λ (tie : Tie). copies tie.after) T (λ tie m. (each tie m).1))
