-- What each register operand turns into where the ties of its instruction are lowered.
use Rattle.std.proofs.Common.{◌≡◌, ◌⊎◌, inl, inr, ◌≤◌, not, ◌&&◌, ◌∙◌, ℕ, Bool, true, false, cond, List, Option, Some, None, length, refl, sym, ap, subst}
use Rattle.std.specs.Prelude.{filter_map, option_and_then, unwrap_or}
use Rattle.target_base.specs.declared.types.Reg.{Reg}
use Rattle.target_base.specs.declared.types.Role.{Role}
use Rattle.target_base.specs.declared.types.Target.{Target}
use Rattle.meaning.specs.Live.{Among}
use Rattle.mir_func.specs.declared.func.Loc.{Loc}
use Rattle.mir_func.specs.declared.func.Loc.TheVariants.{Fixed, Virtual}
use Rattle.mir_func.specs.declared.func.Operand.{Operand}
use Rattle.mir_func.specs.declared.func.Operand.TheVariants as operands
use Rattle.mir_func.specs.declared.func.RegOp.{RegOp}
use Rattle.mir_func.specs.Value.{Function}
use Rattle.mir_func.specs.Binding.{Bound, TiedPair, class_of, explicit_roles, is_definition, is_use, is_virtual, register_at, registers, roles_of, same_loc, tied_number, tied_pair}
use Rattle.mir_meaning.specs.Renaming.{IsFixed}
use Rattle.mir_meaning.specs.Rules.{same_widths}
use Rattle.two_address.specs.Classes.{class_asked, first_register, seated}
use Rattle.two_address.specs.Ties.{defined_aside, defined_use, definition_class, retied, retied_use, tie_aside, tie_to, ties_in, undef_fixed, undef_use_of, untied, use_of}
use Rattle.two_address.specs.declared.ties.Tie.{Tie}
use Rattle.phi_elim.specs.Moves.{destination_of, source_of, whole_use}
use Rattle.lowering_laws.proofs.CountedOperands.{same-number}
use Rattle.lowering_laws.proofs.EachBehind.{TiedInstr}
use Rattle.lowering_laws.proofs.Operands.{named}
use Rattle.lowering_laws.proofs.Replaced.{h}
use Rattle.lowering_laws.proofs.Rolled.{numbers-differ}
use Rattle.lowering_laws.proofs.Seated.{bound-operand, pair-fits, pair-is, pair-of, pair_with, register-in, seated-pair, seated-use, told-in, told-of}
use Rattle.lowering_laws.proofs.Tying.{IsTie, Kind, aside, blank, copied as copied_kind, fixed, found-or, is_read, own, ties-are}

not-true : (b : Bool) → not b ≡ true → b ≡ false
not-true true e = absurd (cc)
not-true false e = refl

module _ (t : Target) (f : Function) (z : TiedInstr t f) where
  open z use {classes, i, r, e, known, rolled, c, stands}

  abbrev H : Function
  H = h t f

  abbrev n : ℕ
  n = length f.classes

  abbrev os : List Operand
  os = i.operands

  abbrev rs : List Role
  rs = roles_of t i

  abbrev bs : List Bound
  bs = seated t i

  abbrev ps : List TiedPair
  ps = filter_map (tied_pair i.operands) (seated t i)

  abbrev T : List Tie
  T = ties_in t c i

  pub each-tie-is : (tie : Tie) → Among tie T → IsTie bs H rs n ps tie
  each-tie-is tie m = ties-are bs H rs n ps c ps (λ p k. k) stands tie m

  -- what becomes of operand o, of number k and role q: a definition keeps its register or has one that stands in for it;
  -- another operand stays, or is a use that reads_definition what a definition has, or a physical register in place of what is undefined
  pub data Turns (k : ℕ) (q : Option Role) (o o' : RegOp) : Type 0 where
    own_register : is_definition o ≡ true → o' ≡ record o { undef = false } → Turns k q o o'
    new_register : (x : ℕ) (p : TiedPair) → Among p ps → p.number ≡ k → is_definition o ≡ true → (tie_to k T).aside ≡ Some x → n ≤ x → class_of H x ≡ definition_class rs k → o' ≡ record o { loc = Virtual x; index = None; undef = false } → Turns k q o o'
    unchanged : is_definition o ≡ false → o' ≡ o → Turns k q o o'
    reads_definition : (p : TiedPair) → Among p ps → is_use o ≡ true → is_virtual o.loc ≡ true → option_and_then tied_number q ≡ Some p.number → (v : ℕ) → p.definition.loc ≡ Virtual v → o'.loc ≡ p.definition.loc → o'.index ≡ p.definition.index → o'.def ≡ false → o'.implicit ≡ false → Turns k q o o'
    reads_new_register : (x : ℕ) (p : TiedPair) → Among p ps → is_use o ≡ true → is_virtual o.loc ≡ true → option_and_then tied_number q ≡ Some p.number → (tie_to p.number T).aside ≡ Some x → n ≤ x → class_of H x ≡ definition_class rs p.number → o' ≡ whole_use x → Turns k q o o'
    reads_fixed : (p : Reg) → is_use o ≡ true → is_virtual o.loc ≡ true → o.undef ≡ true → option_and_then tied_number q ≡ None → first_register t (class_asked t f.classes q o) ≡ Some p → o' ≡ undef_fixed o (Some p) → Turns k q o o'

  there-is : (q : Option Role) (o : RegOp) → Among (q, operands.Reg o) bs → Among o (registers os)
  there-is q o m = register-in o os (bound-operand (explicit_roles rs) os q (operands.Reg o) m)

  -- a virtual use that is no definition is explicit
  plain-use : (q : Option Role) (o : RegOp) → Among (q, operands.Reg o) bs → is_virtual o.loc ≡ true → o.implicit ≡ false
  plain-use q o m v = by o.loc v o.implicit refl
    where
      by : (l : Loc) → is_virtual l ≡ true → (y : Bool) → o.implicit ≡ y → o.implicit ≡ false
      by l g false w = w
      by l g true w = absurd (fixed-not o.loc v ((named t f i r o (there-is q o m)).fixed w))
        where
          fixed-not : (l : Loc) → is_virtual l ≡ true → IsFixed l → ⊥
          fixed-not (Virtual v) g z = z
          fixed-not (Fixed p) g z = cc

  -- the definition of a pair whose use is virtual
  pair-virtual : (p : TiedPair) → Among p ps → is_virtual p.tied_use.loc ≡ true → (v : ℕ) × (p.definition.loc ≡ Virtual v)
  pair-virtual p m g = by p.definition.loc p.tied_use.loc (same_widths t f p.definition p.tied_use) g (pair-fits t f i p r.eleven (seated-pair t f i e known rolled r.one p m))
    where
      by : (l k : Loc) (w : Bool) → is_virtual k ≡ true → cond (is_virtual l && is_virtual k) w (same_loc l k) ≡ true → (v : ℕ) × (l ≡ Virtual v)
      by (Virtual v) (Virtual x) w g q = (v, refl)
      by (Fixed x) (Virtual y) w g q = absurd (cc)
      by l (Fixed x) w g q = absurd (cc)

  -- the pair of a tie to the definition of number j is that of the use that is tied to it
  one-pair : (q : Option Role) (o : RegOp) (j : ℕ) → Among (q, operands.Reg o) bs → option_and_then tied_number q ≡ Some j → (p : TiedPair) → Among p ps → p.number ≡ j → (p.tied_use ≡ o) × (register_at os j ≡ Some p.definition)
  one-pair q o j m g p mp same =
      let y = told-of (tied_pair os) p bs mp in
      let at = (pair-is os y.0.0 y.0.1 p y.2).2 in
      let d-at : register_at os j ≡ Some p.definition = ap (register_at os) (sym same) ∙ at in
      let mine = pair_with j p.definition o in
      let there' = told-in (tied_pair os) mine (q, operands.Reg o) bs m (pair-of os q o j p.definition g d-at) in
      (ap (λ (x : TiedPair). x.tied_use) (same-number ps p mine (numbers-differ t f i e known rolled r.one) mp there' same), d-at)

  tied-turns : (k : ℕ) (q : Option Role) (o : RegOp) (j : ℕ) → Among (q, operands.Reg o) bs → is_definition o ≡ false → option_and_then tied_number q ≡ Some j → Turns k q o (unwrap_or (tie_to j T).reading o)
  tied-turns k q o j m plain g = by (found-or j T)
    where
      by : (tie_to j T ≡ untied j) ⊎ ((tie : Tie) × Among tie T × (tie.number ≡ j) × (tie_to j T ≡ tie)) → Turns k q o (unwrap_or (tie_to j T).reading o)
      by (inl y) = unchanged plain (ap (λ (x : Tie). unwrap_or x.reading o) y)
      by (inr y) = kinds (each-tie-is y.0 y.1).kind
        where
          tie : Tie
          tie = y.0

          it : IsTie bs H rs n ps tie
          it = each-tie-is y.0 y.1

          p : TiedPair
          p = it.pair

          one : (p.tied_use ≡ o) × (register_at os j ≡ Some p.definition)
          one = one-pair q o j m g p it.member (sym it.number ∙ y.2)

          used : is_use o ≡ true
          used = ap is_use (sym one.0) ∙ seated-use t f i e known rolled r.one p it.member

          virtual-so : is_virtual p.tied_use.loc ≡ true → is_virtual o.loc ≡ true
          virtual-so v = ap (λ (x : RegOp). is_virtual x.loc) (sym one.0) ∙ v

          number-is : j ≡ p.number
          number-is = sym y.2 ∙ it.number

          g' : option_and_then tied_number q ≡ Some p.number
          g' = g ∙ ap Some number-is

          found : (x : Tie) → tie ≡ x → tie_to j T ≡ x
          found x w = y.3 ∙ w

          reading-is : (x : Tie) → tie ≡ x → unwrap_or (tie_to j T).reading o ≡ unwrap_or x.reading o
          reading-is x w = ap (λ (u : Tie). unwrap_or u.reading o) (found x w)

          kinds : Kind it.new p (is_read bs p) tie → Turns k q o (unwrap_or (tie_to j T).reading o)
          kinds (fixed v w) = unchanged plain (reading-is (untied p.number) w)
          kinds (blank v u w) =
              let d = pair-virtual p it.member v in
              let is = reading-is (record (untied p.number) { reading = Some (undef_use_of p.definition) }) w in
              reads_definition p it.member used (virtual-so v) g' d.0 d.1 (ap (λ (x : RegOp). x.loc) is) (ap (λ (x : RegOp). x.index) is) (ap (λ (x : RegOp). x.def) is) (ap (λ (x : RegOp). x.implicit) is)
          kinds (own v u l x w) =
              let d = pair-virtual p it.member v in
              let is = reading-is (record (untied p.number) { reading = Some (use_of p.definition) }) w in
              reads_definition p it.member used (virtual-so v) g' d.0 d.1 (ap (λ (x : RegOp). x.loc) is) (ap (λ (x : RegOp). x.index) is) (ap (λ (x : RegOp). x.def) is) (ap (λ (x : RegOp). x.implicit) is)
          kinds (copied_kind v u a w) =
              let d = pair-virtual p it.member v in
              let is = reading-is (record (untied p.number) { reading = Some (use_of p.definition); before = Some (record { to = destination_of p.definition; from = source_of p.tied_use }) }) w in
              reads_definition p it.member used (virtual-so v) g' d.0 d.1 (ap (λ (x : RegOp). x.loc) is) (ap (λ (x : RegOp). x.index) is) (ap (λ (x : RegOp). x.def) is) (ap (λ (x : RegOp). x.implicit) is)
          kinds (aside v u w) =
              let stands-in : tie.aside ≡ Some it.new = ap (λ (x : Tie). x.aside) w in
              let class = it.class stands-in in
              reads_new_register it.new p it.member used (virtual-so v) g' (ap (λ (m : ℕ). (tie_to m T).aside) (sym number-is) ∙ (ap (λ (x : Tie). x.aside) y.3 ∙ stands-in)) class.0 class.1 (reading-is (tie_aside it.new p) w)

  free-turns : (k : ℕ) (q : Option Role) (o : RegOp) → Among (q, operands.Reg o) bs → is_definition o ≡ false → option_and_then tied_number q ≡ None → Turns k q o (defined_use t f.classes q o)
  free-turns k q o m plain g = by (is_virtual o.loc) refl (not o.def) refl o.undef refl
    where
      at : is_virtual o.loc ≡ true → not o.def ≡ true → o.undef ≡ true → (x : Option Reg) → first_register t (class_asked t f.classes q o) ≡ x → Turns k q o (undef_fixed o x)
      at v d u None w = unchanged plain refl
      at v d u (Some p) w = reads_fixed p (λ s. d s && not (plain-use q o m v s)) v u g w refl

      by : (x : Bool) → is_virtual o.loc ≡ x → (y : Bool) → not o.def ≡ y → (w : Bool) → o.undef ≡ w → Turns k q o (cond (x && y && w) (undef_fixed o (first_register t (class_asked t f.classes q o))) o)
      by true v true d true u = at v d u (first_register t (class_asked t f.classes q o)) refl
      by true v true d false u = unchanged plain refl
      by true v false d w u = unchanged plain refl
      by false v y d w u = unchanged plain refl

  defined-turns : (k : ℕ) (q : Option Role) (o : RegOp) → is_definition o ≡ true → (x : Option ℕ) → (tie_to k T).aside ≡ x → Turns k q o (defined_aside x o)
  defined-turns k q o d None w = own_register d refl
  defined-turns k q o d (Some x) w = by (found-or k T)
    where
      by : (tie_to k T ≡ untied k) ⊎ ((tie : Tie) × Among tie T × (tie.number ≡ k) × (tie_to k T ≡ tie)) → Turns k q o (defined_aside (Some x) o)
      by (inl y) = absurd (let none : None ≡ Some x = sym (ap (λ (u : Tie). u.aside) y) ∙ w in cc)
      by (inr y) =
          let it = each-tie-is y.0 y.1 in
          let stands-in : y.0.aside ≡ Some x = sym (ap (λ (u : Tie). u.aside) y.3) ∙ w in
          let new = it.stands x stands-in in
          let class = it.class (stands-in ∙ ap Some (sym new)) in
          new_register x it.pair it.member (sym it.number ∙ y.2) d w (subst (λ u. n ≤ u) new class.0) (ap (class_of H) (sym new) ∙ (class.1 ∙ ap (definition_class rs) (sym it.number ∙ y.2))) refl

  pub turns : (k : ℕ) (q : Option Role) (o : RegOp) → Among (q, operands.Reg o) bs → Turns k q o (retied t f.classes T k q o)
  turns k q o m = by (is_definition o) refl
    where
      by-role : is_definition o ≡ false → (x : Option ℕ) → option_and_then tied_number q ≡ x → Turns k q o (elim x as (λ x. RegOp) [ None ↦ defined_use t f.classes q o | Some w ↦ unwrap_or (tie_to w T).reading o ])
      by-role plain None g = free-turns k q o m plain g
      by-role plain (Some w) g = tied-turns k q o w m plain g

      by : (y : Bool) → is_definition o ≡ y → Turns k q o (cond y (defined_aside (tie_to k T).aside o) (retied_use t f.classes T q o))
      by true g = defined-turns k q o g (tie_to k T).aside refl
      by false g = by-role g (option_and_then tied_number q) refl
