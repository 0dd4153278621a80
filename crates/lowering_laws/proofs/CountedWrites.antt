-- What a counted instruction gives, and what it gives where its ties are lowered.
use Rattle.std.proofs.Common.{◌≡◌, ◌⊎◌, inl, inr, ◌∷◌, ◌++◌, ◌∙◌, ◌&&◌, ◌||◌, not, ℕ, Bool, true, false, cond, List, Option, Some, None, map, flat_map, length, refl, sym, ap, subst, eqb-true, []}
use Rattle.target_base.specs.declared.types.Role.{Role}
use Rattle.target_base.proofs.Tests.{first_of_both, second_of_both}
use Rattle.meaning.specs.Lanes.{Writes, filled, settled}
use Rattle.meaning.specs.Live.{Among}
use Rattle.meaning.specs.Relations.{AlikeFill, Rel}
use Rattle.meaning.specs.declared.types.Fill.{Fill}
use Rattle.meaning.specs.declared.types.Fill.TheVariants.{Computed, Moved}
use Rattle.meaning.specs.declared.types.Lane.{Lane}
use Rattle.meaning.specs.declared.types.Lane.TheVariants.{SlotLane, UnitLane, VirtualLane}
use Rattle.meaning.specs.declared.types.Source.TheVariants.{FromLane, Undef}
use Rattle.laws.proofs.Core.{Plan}
use Rattle.mir_func.specs.declared.func.Loc.{Loc}
use Rattle.mir_func.specs.declared.func.Loc.TheVariants.{Fixed, Virtual}
use Rattle.mir_func.specs.declared.func.RegOp.{RegOp}
use Rattle.mir_func.specs.declared.func.Operand.{Operand}
use Rattle.mir_func.specs.declared.func.Operand.TheVariants as operands
use Rattle.mir_func.specs.declared.func.Instr.{Instr}
use Rattle.mir_func.specs.Value.{Function}
use Rattle.mir_func.specs.Binding.{Bound, Definition, definition_in, definitions, explicit_bound, explicit_operands, explicit_roles, implicit_registers, is_definition, is_early, is_implicit_operand, is_virtual, numbered, passes, register_at, registers, roles_of, same_loc}
use Rattle.mir_meaning.specs.Registers.{numbers, operand_lanes, range_lanes, range_widths, undefined_lanes, use_sources, whole_lanes}
use Rattle.mir_meaning.specs.Items.{counted_writes, further_writes, results, undefined}
use Rattle.mir_meaning.specs.Renaming.{IsFixed}
use Rattle.two_address.specs.Classes.{seated}
use Rattle.two_address.specs.Ties.{retied_operand, ties_in, with_operands}
use Rattle.two_address.specs.declared.ties.Move.{Move}
use Rattle.two_address.specs.declared.ties.Tie.{Tie}
use Rattle.instr_effects.proofs.Members.{filter-in, filter-of, flat-of, member-elim, member-none}
use Rattle.lowering_laws.proofs.Defined.{named-once, undef-virtual}
use Rattle.lowering_laws.proofs.Filling.{Blank, NoneNames, fills, further-missed}
use Rattle.lowering_laws.proofs.Found.{moved-missed, place, place-there, register-found, undefined-found, undefined-missed}
use Rattle.lowering_laws.proofs.Olds.{is_old}
use Rattle.lowering_laws.proofs.Operands.{named}
use Rattle.lowering_laws.proofs.Places.{definitions-alike, further-same}
use Rattle.lowering_laws.proofs.Replaced.{K, h}
use Rattle.lowering_laws.proofs.Unmoved.{moves-none, further-moves}
use Rattle.lowering_laws.proofs.Seated.{bound-operand, register-in, register-there, some-role, told-in, told-of}
use Rattle.lowering_laws.proofs.Silently.{lanes-apart, same-own}
use Rattle.lowering_laws.proofs.Steps.{Before}
use Rattle.lowering_laws.proofs.Traced.{filled-free, is_lane_of, is_written, traced, traced-append, traced-undef}
use Rattle.live_laws.proofs.Effects.Moving.{some-same}
use Rattle.lowering_laws.proofs.Counted.{CountedInstr, MoveIs, d-def, d-there, defines, move-is, new-missed, into_new, into_own}
use Rattle.lowering_laws.proofs.CopiesBefore.{all-within, befores, copy_writes, free-all, move-writes, move_writes, undef-same, undef_writes, untouched, whole_writes}
use Rattle.lowering_laws.proofs.CopiesBehind.{Comes, aside-at, tie-at, stays, comes}
use Rattle.lowering_laws.proofs.CountedOperands.{placed}

module _ (site : CountedInstr) where
  open site use {t, f, i, r, e, c}

  abbrev H : Function
  H = h t f

  abbrev n : ℕ
  n = length f.classes

  abbrev P : Plan
  P = K t f

  abbrev os : List Operand
  os = i.operands

  abbrev rs : List Role
  rs = roles_of t i

  abbrev bs : List Bound
  bs = seated t i

  abbrev T : List Tie
  T = ties_in t c i

  abbrev undefs : List Writes
  undefs = flat_map (undef_writes site) os

  abbrev pre : List Writes
  pre = undefs ++ befores site T

  abbrev R : Rel
  R = Before P n pre

  abbrev os' : List Operand
  os' = map (retied_operand t f.classes T) (numbered 0 bs)

  abbrev new : Instr
  new = with_operands t f.classes T i

  -- what both give

  abbrev F : Writes
  F = further_writes t H e i

  abbrev ds : List Definition
  ds = definitions (roles_of t i) i.operands

  abbrev ds' : List Definition
  ds' = definitions (roles_of t i) os'

  pub implicit-fixed : (o : RegOp) → Among o (implicit_registers os) → IsFixed o.loc
  implicit-fixed o m = let z = filter-of (λ (q : RegOp). q.implicit) o (registers os) m in (named t f i r o z.0).fixed z.1

  -- an explicit definition among operands
  record IsDefined (d : Definition) : Type 0 where
    pub there' : Among (operands.Reg d.1) os
    pub is : is_definition d.1 ≡ true

  defined-is : (d : Definition) → Among d ds → IsDefined d
  defined-is d m = let z = told-of definition_in d (explicit_bound (explicit_roles rs) (explicit_operands os)) m in by z.0.0 z.0.1 (filter-of (λ o. not (is_implicit_operand o)) z.0.1 os (bound-operand (explicit_roles rs) (explicit_operands os) z.0.0 z.0.1 z.1)).0 z.2
    where
      by : (q : Option Role) (o : Operand) → Among o os → definition_in (q, o) ≡ Some d → IsDefined d
      by q (operands.Reg o) m e = go (is_definition o) refl e
        where
          go : (y : Bool) → is_definition o ≡ y → cond y (Some (passes is_early q, o)) None ≡ Some d → IsDefined d
          go true g w = let same = some-same (passes is_early q, o) d w in record { there' = subst (λ (x : Definition). Among (operands.Reg x.1) os) same m; is = subst (λ (x : Definition). is_definition x.1 ≡ true) same g }
          go false g w = absurd (cc)
      by q o m e = absurd (cc)

  -- and each is one
  definition-in-all : (o : RegOp) → Among (operands.Reg o) os → is_definition o ≡ true → (x : Bool) × Among (x, o) ds
  definition-in-all o m g =
      let explicit : not (is_implicit_operand (operands.Reg o)) ≡ true = second_of_both o.def (not o.implicit) g in
      let k = filter-in (λ x. not (is_implicit_operand x)) (operands.Reg o) os m explicit in
      let z = some-role (explicit_roles rs) (explicit_operands os) (operands.Reg o) k in
      (passes is_early z.0, told-in definition_in (passes is_early z.0, o) (z.0, operands.Reg o) (explicit_bound (explicit_roles rs) (explicit_operands os)) z.1 (λ x. cond (g x) (Some (passes is_early z.0, o)) None))

  -- an `undef` definition makes all of its register Undef
  undefined-all : (d : RegOp) → is_definition d ≡ true → d.undef ≡ true → (v : ℕ) → d.loc ≡ Virtual v → undefined_lanes t H d ≡ range_lanes t H v
  undefined-all d g u v at = (λ k. cond (first_of_both d.def (not d.implicit) g k && u k) (whole_lanes t H d.loc) []) ∙ (λ k. whole_lanes t H (at k))

  -- the copies before leave what no definition names
  named-by-none : (l : Lane) → is_old n l ≡ true → ((o : RegOp) → Among (operands.Reg o) os → is_definition o ≡ true → (place (operand_lanes t H o) l ≡ None) × (place (undefined_lanes t H o) l ≡ None)) → traced pre (FromLane l) ≡ FromLane l
  named-by-none l old none = untouched site T (all-within site) l (record { wholes = wholes; moves = λ tie a m g. by (move-is site tie a m g) })
    where
      wholes : (d : RegOp) → Among (operands.Reg d) os → is_definition d ≡ true → d.undef ≡ true → (v : ℕ) → d.loc ≡ Virtual v → place (range_lanes t H v) l ≡ None
      wholes d a g u v at = subst (λ ls. place ls l ≡ None) (undefined-all d g u v at) (none d a g).1

      by : {tie : Tie} {m : Move} → MoveIs site tie m → place (operand_lanes t H m.to) l ≡ None
      by (into_new x s z q) = subst (λ (d : Move). place (operand_lanes t H d.to) l ≡ None) (sym q) (new-missed site x z.low l old)
      by (into_own z q) = subst (λ (d : Move). place (operand_lanes t H d.to) l ≡ None) (sym q) (none z.pair.definition (d-there site z.pair z.member) (defines site z.pair z.member).is).0

  -- in turn what they make Undef is Undef, or as it was
  undefs-either : (l : Lane) (xs : List Operand) → (traced (flat_map (undef_writes site) xs) (FromLane l) ≡ FromLane l) ⊎ (traced (flat_map (undef_writes site) xs) (FromLane l) ≡ Undef)
  undefs-either l [] = inl refl
  undefs-either l (x ∷ xs) = by (undefs-either l xs)
    where
      whole : (v : ℕ) → (settled (filled (undefined false (range_lanes t H v)) l) ≡ FromLane l) ⊎ (settled (filled (undefined false (range_lanes t H v)) l) ≡ Undef)
      whole v = go (place (range_lanes t H v) l) refl
        where
          go : (q : Option ℕ) → place (range_lanes t H v) l ≡ q → (settled (filled (undefined false (range_lanes t H v)) l) ≡ FromLane l) ⊎ (settled (filled (undefined false (range_lanes t H v)) l) ≡ Undef)
          go None e = inl (ap settled (filled-free (undefined false (range_lanes t H v)) l (undefined-missed false (range_lanes t H v) l e)))
          go (Some k) e = inr (ap settled (undefined-found false (range_lanes t H v) l k e))

      at : (y : Bool) (m : Loc) → (traced (cond y (whole_writes site m) []) (FromLane l) ≡ FromLane l) ⊎ (traced (cond y (whole_writes site m) []) (FromLane l) ≡ Undef)
      at false m = inl refl
      at true (Virtual v) = whole v
      at true (Fixed q) = inl refl

      one : (x : Operand) → (traced (undef_writes site x) (FromLane l) ≡ FromLane l) ⊎ (traced (undef_writes site x) (FromLane l) ≡ Undef)
      one (operands.Reg o) = at (is_definition o && o.undef) o.loc
      one x = inl refl

      by : (traced (flat_map (undef_writes site) xs) (FromLane l) ≡ FromLane l) ⊎ (traced (flat_map (undef_writes site) xs) (FromLane l) ≡ Undef) → (traced (undef_writes site x ++ flat_map (undef_writes site) xs) (FromLane l) ≡ FromLane l) ⊎ (traced (undef_writes site x ++ flat_map (undef_writes site) xs) (FromLane l) ≡ Undef)
      by (inr e) = inr (traced-append (undef_writes site x) (flat_map (undef_writes site) xs) (FromLane l) ∙ (ap (traced (undef_writes site x)) e ∙ traced-undef (undef_writes site x)))
      by (inl e) = next (one x)
        where
          first : traced (undef_writes site x ++ flat_map (undef_writes site) xs) (FromLane l) ≡ traced (undef_writes site x) (FromLane l)
          first = traced-append (undef_writes site x) (flat_map (undef_writes site) xs) (FromLane l) ∙ ap (traced (undef_writes site x)) e

          next : (traced (undef_writes site x) (FromLane l) ≡ FromLane l) ⊎ (traced (undef_writes site x) (FromLane l) ≡ Undef) → (traced (undef_writes site x ++ flat_map (undef_writes site) xs) (FromLane l) ≡ FromLane l) ⊎ (traced (undef_writes site x ++ flat_map (undef_writes site) xs) (FromLane l) ≡ Undef)
          next (inl g) = inl (first ∙ g)
          next (inr g) = inr (first ∙ g)

  undefs-all : (l : Lane) (d : RegOp) → is_definition d ≡ true → d.undef ≡ true → (v k : ℕ) → d.loc ≡ Virtual v → place (range_lanes t H v) l ≡ Some k → (xs : List Operand) → Among (operands.Reg d) xs → traced (flat_map (undef_writes site) xs) (FromLane l) ≡ Undef
  undefs-all l d g u v k at stood-at [] m = absurd (member-none (operands.Reg d) m)
  undefs-all l d g u v k at stood-at (x ∷ xs) m = member-elim (operands.Reg d) x xs (λ e. first e (undefs-either l xs)) (λ i. traced-append (undef_writes site x) (flat_map (undef_writes site) xs) (FromLane l) ∙ (ap (traced (undef_writes site x)) (undefs-all l d g u v k at stood-at xs i) ∙ traced-undef (undef_writes site x))) m
    where
      own-writes : undef_writes site (operands.Reg d) ≡ undefined false (range_lanes t H v) ∷ []
      own-writes = (λ k. cond (g k && u k) (whole_writes site d.loc) []) ∙ (λ k. whole_writes site (at k))

      first : operands.Reg d ≡ x → (traced (flat_map (undef_writes site) xs) (FromLane l) ≡ FromLane l) ⊎ (traced (flat_map (undef_writes site) xs) (FromLane l) ≡ Undef) → traced (undef_writes site x ++ flat_map (undef_writes site) xs) (FromLane l) ≡ Undef
      first e (inr z) = traced-append (undef_writes site x) (flat_map (undef_writes site) xs) (FromLane l) ∙ (ap (traced (undef_writes site x)) z ∙ traced-undef (undef_writes site x))
      first e (inl z) = traced-append (undef_writes site x) (flat_map (undef_writes site) xs) (FromLane l) ∙ (ap (traced (undef_writes site x)) z ∙ ((λ i. traced (undef_writes site (sym e i)) (FromLane l)) ∙ ((λ i. traced (own-writes i) (FromLane l)) ∙ ap settled (undefined-found false (range_lanes t H v) l k stood-at))))

  module _ (a a' : Lane) (old : is_old n a ≡ true) (from-there : Comes site a a') where
    -- where an `undef` definition makes the lane Undef
    blank-lane : (d : Definition) → Among d ds → (k : ℕ) → place (undefined_lanes t H d.1) a ≡ Some k → place (operand_lanes t H d.1) a ≡ None → Blank t H R (Comes site) a a' from-there ds F
    blank-lane d m k stood-at without = go o.undef refl o.loc refl
      where
        o : RegOp
        o = d.1

        there-is : IsDefined d
        there-is = defined-is d m

        o-def : o.def ≡ true
        o-def = first_of_both o.def (not o.implicit) there-is.is

        module-none : (v : ℕ) → o.loc ≡ Virtual v → o.undef ≡ true → is_lane_of v a ≡ true → (q : RegOp) → Among (operands.Reg q) os → q.def ≡ true → place (operand_lanes t H q) a ≡ None
        module-none v at u own' q q-there def = by (place (operand_lanes t H q) a) refl (same_loc q.loc o.loc) refl
          where
            by : (x : Option ℕ) → place (operand_lanes t H q) a ≡ x → (y : Bool) → same_loc q.loc o.loc ≡ y → place (operand_lanes t H q) a ≡ None
            by None e y s = e
            by (Some p) e true s = absurd (let same = named-once t f i r.twelve o q (register-in o os there-is.there') o-def u (same-own o.loc) (register-in q os q-there) (ap (λ (y : Bool). y || not q.undef) def) s in let z : Some p ≡ None = sym e ∙ (ap (λ (x : RegOp). place (operand_lanes t H x) a) same ∙ without) in cc)
            by (Some p) e false s = absurd (let z = lanes-apart t H v q.loc q.index (subst (λ l. same_loc q.loc l ≡ false) at s) a (place-there (operand_lanes t H q) a p e).0 in cc)

        virtual-lane : (v : ℕ) → is_lane_of v a ≡ true → (j : ℕ) × (a ≡ VirtualLane v j)
        virtual-lane v own' = by a own'
          where
            by : (l : Lane) → is_lane_of v l ≡ true → (j : ℕ) × (l ≡ VirtualLane v j)
            by (VirtualLane w j) e = (j, λ x. VirtualLane (sym (eqb-true v w e) x) j)
            by (UnitLane w) e = absurd (cc)
            by (SlotLane s j w) e = absurd (cc)

        at-last : (v : ℕ) → o.loc ≡ Virtual v → o.undef ≡ true → Blank t H R (Comes site) a a' from-there ds F
        at-last v at u = (
          (λ q k. let z = defined-is q k in none q.1 z.there' (first_of_both q.1.def (not q.1.implicit) z.is)),
          (λ x. filled F (same x)) ∙ (filled-free F a unwritten ∙ ap (λ l. Moved (FromLane l)) (sym same)),
          (refl, (λ x. traced pre (FromLane (same x))) ∙ undef-before),
        )
          where
            in-range : place (range_lanes t H v) a ≡ Some k
            in-range = ap (λ ls. place ls a) (sym (undefined-all o there-is.is u v at)) ∙ stood-at

            own' : is_lane_of v a ≡ true
            own' = register-found v (numbers 0 (length (range_widths t H v))) a k in-range

            none : (q : RegOp) → Among (operands.Reg q) os → q.def ≡ true → place (operand_lanes t H q) a ≡ None
            none = module-none v at u own'

            same : a' ≡ a
            same = by from-there
              where
                by : Comes site a a' → a' ≡ a
                by (stays o s without) = s
                by (comes m x p d e g s some) = absurd (let tie = aside-at site m x g in let q = tie-at site tie.0 x tie.2 d (ap (register_at os) tie.3 ∙ e) in let z : Some p ≡ None = sym some ∙ none d (register-there os m d e) (ap (λ (y : RegOp). y.def) (sym q) ∙ d-def site tie.2.pair tie.2.member) in cc)

            unwritten : is_written F a ≡ false
            unwritten = let z = virtual-lane v own' in ap (is_written F) z.1 ∙ further-missed t H e i v z.0 implicit-fixed

            undef-before : traced pre (FromLane a) ≡ Undef
            undef-before =
                traced-append undefs (befores site T) (FromLane a)
                ∙ (ap (traced undefs) (free-all (befores site T) a (λ ws x. let y = flat-of (λ (tie : Tie). copy_writes site tie.before) ws T x in at-copy ws y.0 y.1 y.0.before refl y.2))
                ∙ undefs-all a o there-is.is u v k at in-range os there-is.there')
              where
                at-copy : (ws : Writes) (tie : Tie) → Among tie T → (q : Option Move) → tie.before ≡ q → Among ws (copy_writes site q) → is_written ws a ≡ false
                at-copy ws tie g None e x = absurd (member-none ws x)
                at-copy ws tie g (Some m) e x = member-elim ws (move_writes site m) [] (λ y. ap (λ z. is_written z a) (y ∙ move-writes site tie m (move-is site tie g m e)) ∙ moved-missed false (operand_lanes t H m.to) (use_sources t H m.from) a (missed (move-is site tie g m e))) (λ y. absurd (member-none ws y)) x
                  where
                    missed : MoveIs site tie m → place (operand_lanes t H m.to) a ≡ None
                    missed (into_new x s z q) = subst (λ (d : Move). place (operand_lanes t H d.to) a ≡ None) (sym q) (new-missed site x z.low a old)
                    missed (into_own z q) = subst (λ (d : Move). place (operand_lanes t H d.to) a ≡ None) (sym q) (none z.pair.definition (d-there site z.pair z.member) (d-def site z.pair z.member))

        go : (u : Bool) → o.undef ≡ u → (l : Loc) → o.loc ≡ l → Blank t H R (Comes site) a a' from-there ds F
        go true u (Virtual v) at = at-last v at u
        go true u (Fixed q) at = absurd (let z : is_virtual (Fixed q) ≡ true = ap is_virtual (sym at) ∙ undef-virtual t f i r.twelve o (register-in o os there-is.there') o-def u in cc)
        go false u l at = absurd (let z : None ≡ Some k = ap (λ ls. place ls a) (sym bare-lanes) ∙ stood-at in cc)
          where
            bare-lanes : undefined_lanes t H o ≡ []
            bare-lanes = (λ x. cond (o.def && u x) (whole_lanes t H o.loc) []) ∙ and-none o.def
              where
                and-none : (y : Bool) → cond (y && false) (whole_lanes t H o.loc) [] ≡ []
                and-none true = refl
                and-none false = refl

    -- where no definition names it
    plain-lane : NoneNames t H R (Comes site) a a' from-there ds → AlikeFill R (filled F a) (filled F a')
    plain-lane none = subst (λ l. AlikeFill R (filled F a) (filled F l)) (sym same) (by (is_written F a) refl)
      where
        each : (o : RegOp) → Among (operands.Reg o) os → is_definition o ≡ true → (place (operand_lanes t H o) a ≡ None) × (place (undefined_lanes t H o) a ≡ None)
        each o m g = let z = definition-in-all o m g in none (z.0, o) z.1

        same : a' ≡ a
        same = at from-there
          where
            at : Comes site a a' → a' ≡ a
            at (stays o s without) = s
            at (comes m x p d e g s some) = absurd (let tie = aside-at site m x g in let q = tie-at site tie.0 x tie.2 d (ap (register_at os) tie.3 ∙ e) in let z : Some p ≡ None = sym some ∙ (each d (register-there os m d e) (ap is_definition (sym q) ∙ (defines site tie.2.pair tie.2.member).is)).0 in cc)

        none-moved : (x : Fill) → settled x ≡ Undef → AlikeFill R x x
        none-moved (Moved s) q = subst (λ z. R z z) (sym q) (undef-same site)
        none-moved (Computed k) q = refl

        by : (y : Bool) → is_written F a ≡ y → AlikeFill R (filled F a) (filled F a)
        by true w = none-moved (filled F a) (moves-none F (further-moves t H e i) a w)
        by false w = subst (λ x. AlikeFill R x x) (sym (filled-free F a w)) (old, named-by-none a old each)

    pub both-fill : AlikeFill R (filled (counted_writes t H e i) a) (filled (counted_writes t H e new) a')
    both-fill =
        subst (λ ws. AlikeFill R (filled (counted_writes t H e i) a) (filled (results t H 0 ds' ++ ws) a')) (sym (further-same t H R (Comes site) i os' (placed site) e e))
        (fills t H R (Comes site) a a' from-there 0 ds ds' (definitions-alike t H R (Comes site) i os' (placed site) e) F blank-lane plain-lane)
