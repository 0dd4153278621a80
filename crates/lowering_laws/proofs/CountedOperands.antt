-- The operands of a counted instruction whose ties are lowered: each is in its place.
use Rattle.std.proofs.Common.{◌≡◌, ◌⊎◌, inl, inr, ◌∷◌, ◌++◌, ◌∙◌, ◌&&◌, ◌+◌, ◌≤◌, not, ℕ, suc, Bool, true, false, cond, List, Option, Some, None, map, flat_map, length, refl, sym, ap, subst, arith, []}
use Rattle.std.specs.Prelude.{filter_map, nat_eq, option_and_then, slice_get, unwrap_or}
use Rattle.std.specs.List.{list_all}
use Rattle.target_base.specs.declared.types.Reg.{Reg}
use Rattle.target_base.specs.declared.types.Role.{Role}
use Rattle.target_base.specs.Registers.{units_of}
use Rattle.target_base.specs.Storage.{widths}
use Rattle.target_base.proofs.Tests.{first_of_both, second_of_both}
use Rattle.meaning.specs.Lanes.{Writes}
use Rattle.meaning.specs.Live.{Among, here, there}
use Rattle.meaning.specs.Relations.{AlikeReads, Rel}
use Rattle.meaning.specs.declared.types.Lane.{Lane}
use Rattle.meaning.specs.declared.types.Source.TheVariants.{FromLane, Undef}
use Rattle.laws.proofs.Core.{Plan}
use Rattle.mir_func.specs.declared.func.Loc.{Loc}
use Rattle.mir_func.specs.declared.func.Loc.TheVariants.{Fixed, Virtual}
use Rattle.mir_func.specs.declared.func.RegOp.{RegOp}
use Rattle.mir_func.specs.declared.func.Operand.{Operand}
use Rattle.mir_func.specs.declared.func.Operand.TheVariants as operands
use Rattle.mir_func.specs.declared.func.Instr.{Instr}
use Rattle.mir_func.specs.Value.{Function}
use Rattle.mir_func.specs.Binding.{Bound, TiedPair, bound, class_of, explicit_bound, explicit_operands, explicit_roles, implicit_bound, implicit_registers, implicit_roles, is_definition, is_implicit_operand, is_use, is_virtual, numbered, passes, register_at, roles_of, takes_many, tied_number, tied_pair, ties_to}
use Rattle.mir_meaning.specs.Registers.{located_lanes, operand_lanes, operand_widths, use_sources}
use Rattle.mir_meaning.specs.Renaming.{IsFixed}
use Rattle.mir_meaning.specs.Rules.{implicit_last}
use Rattle.phi_elim.specs.Moves.{destination_of, source_of, whole_definition, whole_use}
use Rattle.two_address.specs.Classes.{class_asked, first_register, seated}
use Rattle.two_address.specs.Ties.{defined_aside, defined_use, definition_class, retied, retied_operand, retied_use, tie_to, ties_in, undef_fixed, undef_use_of, untied, use_of, with_operands}
use Rattle.two_address.specs.declared.ties.Move.{Move}
use Rattle.two_address.specs.declared.ties.Tie.{Tie}
use Rattle.instr_effects.proofs.Members.{left-in, map-in, member-elim, member-none}
use Rattle.live_laws.proofs.Effects.Lists.{all-of}
use Rattle.live_laws.proofs.Effects.Moved.{Apart}
use Rattle.lowering_laws.proofs.Places.{InPlace, Replaces}
use Rattle.lowering_laws.proofs.Replaced.{K, h}
use Rattle.lowering_laws.proofs.Rolled.{fit-operands}
use Rattle.lowering_laws.proofs.Seated.{bound-operand, pair-of, pair_with, told-in}
use Rattle.lowering_laws.proofs.Silently.{lanes-count}
use Rattle.lowering_laws.proofs.Steps.{Before}
use Rattle.lowering_laws.proofs.Tying.{IsTie, Kind, all-placed, aside, blank, copied as copied_kind, fixed, found-or, is_read, own}
use Rattle.lowering_laws.proofs.Widths.{stands-wide}
use Rattle.lowering_laws.proofs.Counted.{CountedInstr, aside-wide, d-at, fixed-there, from, known-lanes, move-is, numbers-apart-all, operand-class, says, the-tie, tie-is, u-bound, u-def, u-plain, used, wide, widths-own}
use Rattle.lowering_laws.proofs.CopiesBefore.{befores, copy-reads, own-reads, ties-other, undef-same, undef_writes}
use Rattle.lowering_laws.proofs.CopiesBehind.{Comes, aside-at, definition-lanes, tie-at}

not-true : (b : Bool) → not b ≡ true → b ≡ false
not-true true e = absurd (cc)
not-true false e = refl

undef-reads : (R : Rel) (ls ms : List Lane) → R Undef Undef → length ls ≡ length ms → AlikeReads R (map (λ (l : Lane). Undef) ls) (map (λ (l : Lane). Undef) ms)
undef-reads R [] [] z e = tt
undef-reads R [] (m ∷ ms) z e = absurd (cc)
undef-reads R (l ∷ ls) [] z e = absurd (cc)
undef-reads R (l ∷ ls) (m ∷ ms) z e = (z, undef-reads R ls ms z (less (length ls) (length ms) e))
  where
    less : (a b : ℕ) → suc a ≡ suc b → a ≡ b
    less a b q = cc

ties-none : (r : Option Role) (m : ℕ) → option_and_then tied_number r ≡ None → passes (ties_to m) r ≡ false
ties-none None m e = refl
ties-none (Some q) m e = λ k. passes (nat_eq m) (e k)

pub same-number : (ps : List TiedPair) (p q : TiedPair) → Apart (map (λ (x : TiedPair). x.number) ps) → Among p ps → Among q ps → p.number ≡ q.number → p ≡ q
same-number [] p q a m k e = absurd (member-none p m)
same-number (x ∷ ps) p q a m k e =
    member-elim p x ps
    (λ y. member-elim q x ps (λ z. y ∙ sym z) (λ j. absurd (a.0 (subst (λ n. Among n (map (λ (w : TiedPair). w.number) ps)) (sym e ∙ ap (λ (w : TiedPair). w.number) y) (map-in (λ (w : TiedPair). w.number) q ps j)))) k)
    (λ i. member-elim q x ps (λ z. absurd (a.0 (subst (λ n. Among n (map (λ (w : TiedPair). w.number) ps)) (e ∙ ap (λ (w : TiedPair). w.number) z) (map-in (λ (w : TiedPair). w.number) p ps i)))) (λ j. same-number ps p q a.1 i j e) k)
    m

-- an explicit operand takes its role among explicit ones
pub plain-bound : (rs : List Role) (os : List Operand) (r : Option Role) (o : Operand) → implicit_last os ≡ true → is_implicit_operand o ≡ false → Among (r, o) (explicit_bound rs os) → Among (r, o) (explicit_bound rs (explicit_operands os))
plain-bound rs [] r o last e m = absurd (member-none (r, o) m)
plain-bound rs (x ∷ os) r o last e m = go (is_implicit_operand x) refl (λ qs later k. plain-bound qs os r o later e k)
  where
    implicit-all : (qs : List Role) (ys : List Operand) → list_all is_implicit_operand ys ≡ true → Among (r, o) (explicit_bound qs ys) → ⊥
    implicit-all qs ys all k = let z = all-of is_implicit_operand o ys (bound-operand qs ys r o k) all in cc

    by : (rs : List Role) → Among (r, o) (explicit_bound rs (x ∷ os)) → ((qs : List Role) → Among (r, o) (explicit_bound qs os) → Among (r, o) (explicit_bound qs (explicit_operands os))) → Among (r, o) (explicit_bound rs (x ∷ explicit_operands os))
    by [] k ih = member-elim (r, o) (None, x) (explicit_bound [] os) (λ q. subst (λ b. Among b ((None, x) ∷ explicit_bound [] (explicit_operands os))) (sym q) here) (λ j. there (ih [] j)) k
    by (s ∷ rs) k ih =
        let rest = cond (takes_many s) (s ∷ rs) rs in
        member-elim (r, o) (Some s, x) (explicit_bound rest os) (λ q. subst (λ b. Among b ((Some s, x) ∷ explicit_bound rest (explicit_operands os))) (sym q) here) (λ j. there (ih rest j)) k

    go : (y : Bool) → is_implicit_operand x ≡ y → ((qs : List Role) → implicit_last os ≡ true → Among (r, o) (explicit_bound qs os) → Among (r, o) (explicit_bound qs (explicit_operands os))) → Among (r, o) (explicit_bound rs (explicit_operands (x ∷ os)))
    go true q ih = absurd (implicit-all rs (x ∷ os) (λ k. q k && subst (λ (b : Bool). cond b (list_all is_implicit_operand os) (implicit_last os) ≡ true) q last k) m)
    go false q ih =
        let later : implicit_last os ≡ true = subst (λ (b : Bool). cond b (list_all is_implicit_operand os) (implicit_last os) ≡ true) q last in
        subst (λ qs. Among (r, o) (explicit_bound rs qs)) (sym (λ k. cond (not (q k)) (x ∷ explicit_operands os) (explicit_operands os))) (by rs m (λ qs k. ih qs later k))

module _ (site : CountedInstr) where
  open site use {t, f, classes, i, r, e, known, rolled, c}

  abbrev H : Function
  H = h t f

  abbrev n : ℕ
  n = length f.classes

  abbrev P : Plan
  P = K t f

  abbrev os : List Operand
  os = i.operands

  abbrev rs : List Role
  rs = roles_of t i

  abbrev bs : List Bound
  bs = seated t i

  abbrev ps : List TiedPair
  ps = filter_map (tied_pair i.operands) (seated t i)

  abbrev T : List Tie
  T = ties_in t c i

  abbrev undefs : List Writes
  undefs = flat_map (undef_writes site) os

  abbrev pre : List Writes
  pre = undefs ++ befores site T

  abbrev R : Rel
  R = Before P n pre

  -- operands in their places

  abbrev new_operand : ℕ → Option Role → RegOp → RegOp
  new_operand m q o = retied t f.classes T m q o

  abbrev Placed : RegOp → RegOp → Type 0
  Placed o o' = InPlace t H R (Comes site) o o'

  definition-placed : (m : ℕ) (o : RegOp) → register_at os m ≡ Some o → is_definition o ≡ true → (q : Option ℕ) → (tie_to m T).aside ≡ q → Placed o (defined_aside q o)
  definition-placed m o at g None e = record {
    def = refl;
    implicit = refl;
    widths = refl;
    stays = λ z. absurd (let y = not-true o.implicit (second_of_both o.def (not o.implicit) g) in cc);
    reads = λ z. absurd (let y = first_of_both o.def (not o.implicit) g in cc);
    clear = λ z. refl;
    lanes = λ z a a' y. definition-lanes site m o at g None e a a' y;
  }
  definition-placed m o at g (Some x) e =
      let z = aside-at site m x e in
      let d = tie-at site z.0 x z.2 o (ap (register_at os) z.3 ∙ at) in
      record {
        def = refl;
        implicit = refl;
        widths = aside-wide site z.2.pair z.2.member z.2.virtual_use x z.2.class ∙ ap (operand_widths t H) d;
        stays = λ z. absurd (let y = not-true o.implicit (second_of_both o.def (not o.implicit) g) in cc);
        reads = λ z. absurd (let y = first_of_both o.def (not o.implicit) g in cc);
        clear = λ z. refl;
        lanes = λ z a a' y. definition-lanes site m o at g (Some x) e a a' y;
      }

  -- an operand that stays, where it is no explicit definition
  same-placed : (q : Option Role) (o : RegOp) → Among (q, operands.Reg o) bs → is_definition o ≡ false → ((tie : Tie) → Among tie T → (m : Move) → tie.before ≡ Some m → passes (ties_to tie.number) q ≡ false) → Placed o o
  same-placed q o m plain far = record {
    def = refl;
    implicit = refl;
    widths = refl;
    stays = λ z. refl;
    reads = λ z. own-reads site q o m z far;
    clear = λ z. absurd (cc);
    lanes = λ z. absurd (cc);
  }

  -- a use as wide
  use-placed : (o o' : RegOp) → is_use o ≡ true → o'.def ≡ false → o'.implicit ≡ false → operand_widths t H o' ≡ operand_widths t H o → AlikeReads R (use_sources t H o) (use_sources t H o') → Placed o o'
  use-placed o o' g d w wide' reads =
      let def = not-true o.def (first_of_both (not o.def) (not o.implicit) g) in
      let implicit = not-true o.implicit (second_of_both (not o.def) (not o.implicit) g) in
      record {
        def = d ∙ sym def;
        implicit = w ∙ sym implicit;
        widths = wide';
        stays = λ z. absurd (cc);
        reads = λ z. reads;
        clear = λ z. absurd (let y = first_of_both o.def (not o.implicit) z in cc);
        lanes = λ z. absurd (let y = first_of_both o.def (not o.implicit) z in cc);
      }

  -- an `undef` use that isn't tied
  undef-placed : (q : Option Role) (o : RegOp) → Among (q, operands.Reg o) bs → o.def ≡ false → is_virtual o.loc ≡ true → o.undef ≡ true → ((tie : Tie) → Among tie T → (m : Move) → tie.before ≡ Some m → passes (ties_to tie.number) q ≡ false) → (x : Option Reg) → first_register t (class_asked t f.classes q o) ≡ x → Placed o (undef_fixed o x)
  undef-placed q o m def g u far None first = same-placed q o m (λ k. def k && not o.implicit) far
  undef-placed q o m def g u far (Some reg) first = use-placed o (undef_fixed o (Some reg)) (λ k. not (def k) && not (explicit k)) refl refl wide' reads
    where
      o-there : Among (operands.Reg o) os
      o-there = bound-operand (explicit_roles rs) os q (operands.Reg o) m

      loc : (v : ℕ) × (o.loc ≡ Virtual v)
      loc = by o.loc refl g
        where
          by : (l : Loc) → o.loc ≡ l → is_virtual l ≡ true → (v : ℕ) × (o.loc ≡ Virtual v)
          by (Virtual v) at h = (v, at)
          by (Fixed x) at h = absurd (cc)

      explicit : o.implicit ≡ false
      explicit = by o.implicit refl
        where
          by : (y : Bool) → o.implicit ≡ y → o.implicit ≡ false
          by false h = h
          by true h = absurd (subst IsFixed loc.1 (fixed-there site o o-there h))

      last : implicit_last os ≡ true
      last = (fit-operands t f i e known rolled r.one).0

      bound-there : Among (q, operands.Reg o) (bound t i)
      bound-there = left-in (q, operands.Reg o) (explicit_bound (explicit_roles rs) (explicit_operands os)) (map (implicit_bound (implicit_roles rs)) (implicit_registers os)) (plain-bound (explicit_roles rs) os q (operands.Reg o) last explicit m)

      wide' : widths t.units (units_of t reg) ≡ operand_widths t H o
      wide' = stands-wide t f classes e q o loc.0 reg loc.1 first (known-lanes site o o-there) (operand-class t f i e known r.two (q, operands.Reg o) bound-there) ∙ sym (widths-own site o o-there)

      reads : AlikeReads R (use_sources t H o) (use_sources t H (undef_fixed o (Some reg)))
      reads =
          let one = lanes-count t H o.loc o.index in
          let two = lanes-count t H (Fixed reg) None in
          let three = ap length wide' in
          subst (λ (y : Bool). AlikeReads R (map (cond y (λ (l : Lane). Undef) FromLane) (operand_lanes t H o)) (use_sources t H (undef_fixed o (Some reg)))) (sym u)
          (undef-reads R (operand_lanes t H o) (located_lanes t H (Fixed reg) None) (undef-same site) (omega (arith, one, two, three)))

  untied-placed : (q : Option Role) (o : RegOp) → Among (q, operands.Reg o) bs → is_definition o ≡ false → option_and_then tied_number q ≡ None → Placed o (defined_use t f.classes q o)
  untied-placed q o m plain g = by (is_virtual o.loc) refl (not o.def) refl o.undef refl
    where
      far : (tie : Tie) → Among tie T → (m : Move) → tie.before ≡ Some m → passes (ties_to tie.number) q ≡ false
      far tie a y k = ties-none q tie.number g

      by : (x : Bool) → is_virtual o.loc ≡ x → (y : Bool) → not o.def ≡ y → (z : Bool) → o.undef ≡ z → Placed o (cond (x && y && z) (undef_fixed o (first_register t (class_asked t f.classes q o))) o)
      by true v true d true u = undef-placed q o m (not-true o.def d) v u far (first_register t (class_asked t f.classes q o)) refl
      by true v true d false u = same-placed q o m plain far
      by true v false d z u = same-placed q o m plain far
      by false v y d z u = same-placed q o m plain far

  -- a tied use, by its tie
  tied-placed : (tie : Tie) (a : Among tie T) (p : TiedPair) (m : Among p ps) → tie.number ≡ p.number → Placed p.tied_use (unwrap_or tie.reading p.tied_use)
  tied-placed tie a p m same = by (tie-is site tie a) (tie-is site tie a).kind
    where
      u : RegOp
      u = p.tied_use

      -- no copy before is of another tie to its definition
      far : tie.before ≡ None → (x : Tie) → Among x T → (y : Move) → x.before ≡ Some y → passes (ties_to x.number) (from site p m).0.0 ≡ false
      far none x k y g =
          ties-other (from site p m).0.0 p.number x.number (says site p m).1
          (λ w. let one : x ≡ tie = sym (the-tie site x k) ∙ (ap (λ n. tie_to n T) (w ∙ sym same) ∙ the-tie site tie a) in let z : Some y ≡ None = sym g ∙ (ap (λ (d : Tie). d.before) one ∙ none) in cc)

      same-pair : (z : IsTie bs H rs n ps tie) → z.pair ≡ p
      same-pair z = same-number ps z.pair p (numbers-apart-all site) z.member m (sym z.number ∙ same)

      by : (z : IsTie bs H rs n ps tie) → Kind z.new z.pair (is_read bs z.pair) tie → Placed u (unwrap_or tie.reading u)
      by z k = subst (λ (q : TiedPair). Kind z.new q (is_read bs q) tie → Placed u (unwrap_or tie.reading u)) (sym (same-pair z)) (λ w. kinds z.new (z.class) w) k
        where
          kinds : (x : ℕ) → (tie.aside ≡ Some x → (n ≤ x) × (class_of H x ≡ definition_class rs z.pair.number)) → Kind x p (is_read bs p) tie → Placed u (unwrap_or tie.reading u)
          kinds x class (fixed v q) = subst (λ (y : Tie). Placed u (unwrap_or y.reading u)) (sym q) (same-placed (from site p m).0.0 u (u-bound site p m) (u-plain site p m) (far (ap (λ (y : Tie). y.before) q)))
          kinds x class (blank v w q) = subst (λ (y : Tie). Placed u (unwrap_or y.reading u)) (sym q) (use-placed u (undef_use_of p.definition) (used site p m) refl refl (wide site p m v) (blank-reads w))
            where
              blank-reads : u.undef ≡ true → AlikeReads R (use_sources t H u) (use_sources t H (undef_use_of p.definition))
              blank-reads w =
                  let one = lanes-count t H u.loc u.index in
                  let two = lanes-count t H p.definition.loc p.definition.index in
                  let three = ap length (wide site p m v) in
                  subst (λ (y : Bool). AlikeReads R (map (cond y (λ (l : Lane). Undef) FromLane) (operand_lanes t H u)) (use_sources t H (undef_use_of p.definition))) (sym w)
                  (undef-reads R (operand_lanes t H u) (operand_lanes t H p.definition) (undef-same site) (omega (arith, one, two, three)))
          kinds x class (own v w l y q) = subst (λ (z : Tie). Placed u (unwrap_or z.reading u)) (sym q) (use-placed u (use_of p.definition) (used site p m) refl refl (wide site p m v) own-use)
            where
              own-use : AlikeReads R (use_sources t H u) (use_sources t H (use_of p.definition))
              own-use = subst (AlikeReads R (use_sources t H u)) (λ k. map (cond (w k) (λ (l : Lane). Undef) FromLane) (located_lanes t H (sym l k) (sym y k))) (own-reads site (from site p m).0.0 u (u-bound site p m) (u-def site p m) (far (ap (λ (z : Tie). z.before) q)))
          kinds x class (aside v w q) = subst (λ (y : Tie). Placed u (unwrap_or y.reading u)) (sym q) (use-placed u (whole_use x) (used site p m) refl refl (aside-wide site p m v x is-class ∙ wide site p m v) new-use)
            where
              stood : tie.aside ≡ Some x
              stood = ap (λ (y : Tie). y.aside) q

              is-class : class_of H x ≡ definition_class rs p.number
              is-class = (class stood).1 ∙ ap (λ (d : TiedPair). definition_class rs d.number) (same-pair z)

              before : tie.before ≡ Some (record { to = whole_definition x; from = source_of u })
              before = ap (λ (y : Tie). y.before) q

              new-use : AlikeReads R (use_sources t H u) (use_sources t H (whole_use x))
              new-use = copy-reads site tie a (record { to = whole_definition x; from = source_of u }) before (move-is site tie a (record { to = whole_definition x; from = source_of u }) before)
          kinds x class (copied_kind v w alone q) = subst (λ (y : Tie). Placed u (unwrap_or y.reading u)) (sym q) (use-placed u (use_of p.definition) (used site p m) refl refl (wide site p m v) new-use)
            where
              before : tie.before ≡ Some (record { to = destination_of p.definition; from = source_of u })
              before = ap (λ (y : Tie). y.before) q

              new-use : AlikeReads R (use_sources t H u) (use_sources t H (use_of p.definition))
              new-use = copy-reads site tie a (record { to = destination_of p.definition; from = source_of u }) before (move-is site tie a (record { to = destination_of p.definition; from = source_of u }) before)

  -- a use whose role ties it to a definition
  role-placed : (q : Option Role) (o : RegOp) → Among (q, operands.Reg o) bs → is_definition o ≡ false → (k : ℕ) → option_and_then tied_number q ≡ Some k → Placed o (unwrap_or (tie_to k T).reading o)
  role-placed q o m plain k g = by (found-or k T)
    where
      by : (tie_to k T ≡ untied k) ⊎ ((tie : Tie) × Among tie T × (tie.number ≡ k) × (tie_to k T ≡ tie)) → Placed o (unwrap_or (tie_to k T).reading o)
      by (inl none) = subst (λ (y : Tie). Placed o (unwrap_or y.reading o)) (sym none) (same-placed q o m plain (λ x a y w. ties-other q k x.number g (λ z. let same : x ≡ untied k = sym (the-tie site x a) ∙ (ap (λ n. tie_to n T) z ∙ none) in let v : Some y ≡ None = sym w ∙ ap (λ (d : Tie). d.before) same in cc)))
      by (inr z) =
          let tie = z.0 in
          let y = tie-is site tie z.1 in
          let at : register_at os k ≡ Some y.pair.definition = ap (register_at os) (sym z.2 ∙ y.number) ∙ d-at site y.pair y.member in
          let p = pair_with k y.pair.definition o in
          let p-there : Among p ps = told-in (tied_pair os) p (q, operands.Reg o) bs m (pair-of os q o k y.pair.definition g at) in
          subst (λ (x : Tie). Placed o (unwrap_or x.reading o)) (sym z.3) (tied-placed tie z.1 p p-there z.2)

  each-placed : (m : ℕ) (q : Option Role) (o : RegOp) → register_at os m ≡ Some o → Among (q, operands.Reg o) bs → Placed o (new_operand m q o)
  each-placed m q o at k = by (is_definition o) refl
    where
      by-role : (x : Option ℕ) → option_and_then tied_number q ≡ x → is_definition o ≡ false → Placed o (elim x as (λ z. RegOp) [ None ↦ defined_use t f.classes q o | Some w ↦ unwrap_or (tie_to w T).reading o ])
      by-role None g plain = untied-placed q o k plain g
      by-role (Some w) g plain = role-placed q o k plain w g

      by : (y : Bool) → is_definition o ≡ y → Placed o (cond y (defined_aside (tie_to m T).aside o) (retied_use t f.classes T q o))
      by true g = definition-placed m o at g (tie_to m T).aside refl
      by false g = by-role (option_and_then tied_number q) refl g

  abbrev os' : List Operand
  os' = map (retied_operand t f.classes T) (numbered 0 bs)

  abbrev new : Instr
  new = with_operands t f.classes T i

  from-zero : (k : ℕ) → slice_get os k ≡ slice_get os (0 + k)
  from-zero k = ap (slice_get os) (zero k)
    where
      zero : (k : ℕ) → k ≡ 0 + k
      zero k = omega arith

  pub placed : Replaces t H R (Comes site) os os'
  placed = all-placed t f.classes T H R (Comes site) os 0 (explicit_roles rs) os from-zero (λ m q o at k. each-placed m q o at k)
