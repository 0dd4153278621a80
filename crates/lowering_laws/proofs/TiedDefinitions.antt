-- Rule 12 of an instruction whose ties are lowered: its definitions are apart, from each other and, where they are early, from
-- what is read.
use Rattle.std.proofs.Common.{◌≡◌, ◌<◌, ◌≤◌, ◌+◌, ◌∙◌, ◌&&◌, ◌||◌, ◌∷◌, not, ℕ, zero, suc, Bool, true, false, cond, List, Option, Some, None, map, filter, length, refl, sym, ap, subst, arith, eqb-true, eq-eqb, []}
use Rattle.std.specs.Prelude.{filter_map, is_none, is_some, nat_eq, nat_le, nat_lt, option_and_then, slice_get}
use Rattle.std.specs.List.{list_all, list_any}
use Rattle.std.proofs.lemmas.Bool.{eqb-false, ltb-false, ltb-true}
use Rattle.target_base.specs.declared.types.Effect.{Effect}
use Rattle.target_base.specs.declared.types.IndexId.{IndexId}
use Rattle.target_base.specs.declared.types.Role.{Role}
use Rattle.target_base.specs.declared.types.Role.TheVariants as roles
use Rattle.target_base.specs.declared.types.Target.{Target}
use Rattle.target_base.specs.Registers.{lanes_of}
use Rattle.target_base.specs.Roles.{is_definition as is_definition_role, is_implicit}
use Rattle.target_base.proofs.Tests.{first_of_both, second_of_both}
use Rattle.meaning.specs.Live.{Among, here, there}
use Rattle.meaning.specs.declared.types.Lane.{Lane}
use Rattle.meaning.specs.declared.types.Lane.TheVariants.{VirtualLane}
use Rattle.meaning.specs.declared.types.Source.TheVariants.{FromLane}
use Rattle.mir_func.specs.declared.func.Loc.TheVariants.{Virtual}
use Rattle.mir_func.specs.declared.func.Instr.{Instr}
use Rattle.mir_func.specs.declared.func.Operand.{Operand}
use Rattle.mir_func.specs.declared.func.Operand.TheVariants as operands
use Rattle.mir_func.specs.declared.func.RegOp.{RegOp}
use Rattle.mir_func.specs.Value.{Function}
use Rattle.mir_func.specs.Binding.{Bound, TiedPair, as_register, bound, class_of, does, explicit_bound, explicit_operands, explicit_roles, is_definition, is_early, is_implicit_operand, is_use, is_virtual, numbered, passes, register_at, registers, roles_of, same_loc, takes_many, tied_number, tied_pair, ties_to}
use Rattle.mir_meaning.specs.declared.Form.TheVariants as forms
use Rattle.mir_meaning.specs.Items.{unreserved}
use Rattle.mir_meaning.specs.Registers.{is_reserved, located_lanes, numbers, operand_lanes, range_widths}
use Rattle.mir_meaning.specs.Rules.{V12, clashing_lanes, defined_lanes, early_fits, explicit_fit, fits_at, has_class, has_lanes, has_lanes_at, is_early_definition, is_free_undef, is_opaque, namings, no_two_share, readings_besides, share_a_lane, undef_fits, undef_uses_fit}
use Rattle.two_address.specs.Classes.{seated}
use Rattle.two_address.specs.Ties.{retied, retied_operand, tie_to, ties_in, with_operands}
use Rattle.two_address.specs.declared.ties.Tie.{Tie}
use Rattle.instr_effects.proofs.Members.{filter-in, filter-of, map-in, map-of, member-elim, member-none}
use Rattle.live_laws.proofs.Effects.Lists.{any-in}
use Rattle.lowering_laws.specs.Form.{is_undef_definition}
use Rattle.lowering_laws.proofs.Built.{old-not-new}
use Rattle.lowering_laws.proofs.Classes.{class-stays}
use Rattle.lowering_laws.proofs.CopiesBefore.{lane-once}
use Rattle.lowering_laws.proofs.CountedOperands.{plain-bound}
use Rattle.lowering_laws.proofs.EachBehind.{TiedInstr}
use Rattle.lowering_laws.proofs.Formed.{all-by, none-by}
use Rattle.lowering_laws.proofs.FormedTies.{after, new-formed, register-from}
use Rattle.lowering_laws.proofs.Olds.{is_old, use-old}
use Rattle.lowering_laws.proofs.Operands.{named}
use Rattle.lowering_laws.proofs.Replaced.{h, made}
use Rattle.lowering_laws.proofs.Rolled.{defined-by, definition-fits, fit-operands}
use Rattle.lowering_laws.proofs.RulesStay.{clashing, defines, lanes}
use Rattle.lowering_laws.proofs.Seated.{bound-operand, pair-is, register-in, register-of, register-there, told-in, told-of}
use Rattle.lowering_laws.proofs.Seats.{Seat, all-pairs, explicit, implicit, new_instr, pairs-any, pairs-numbered, pairs-of}
use Rattle.lowering_laws.proofs.SharedLanes.{AtPlaces, apart-lanes, from-places, none-shared, to-places}
use Rattle.lowering_laws.proofs.Traced.{is_lane_of}
use Rattle.lowering_laws.proofs.Turns.{Turns, new_register, own_register, reads_definition, reads_fixed, reads_new_register, turns, unchanged}
use Rattle.lowering_laws.proofs.Tying.{asides-differ}

not-true : (b : Bool) → not b ≡ true → b ≡ false
not-true true e = absurd (cc)
not-true false e = refl

or-true : (b : Bool) → (b || true) ≡ true
or-true true = refl
or-true false = refl

-- an explicit operand fits its role
fit-of : (t : Target) (e : Effect) (rs : List Role) (os : List Operand) → explicit_fit t e rs os ≡ true → (r : Role) (x : Operand) → Among (Some r, x) (explicit_bound rs os) → fits_at t e r x ≡ true
fit-of t e rs [] w r x m = absurd (member-none (Some r, x) m)
fit-of t e [] (y ∷ os) w r x m = absurd (cc)
fit-of t e (s ∷ rs) (y ∷ os) w r x m =
    let rest = cond (takes_many s) (s ∷ rs) rs in
    member-elim (Some r, x) (Some s, y) (explicit_bound rest os)
    (λ q. (λ k. fits_at t e (same r s (ap (λ (b : Bound). b.0) q) k) (ap (λ (b : Bound). b.1) q k)) ∙ first_of_both (fits_at t e s y) (explicit_fit t e rest os) w)
    (λ k. fit-of t e rest os (second_of_both (fits_at t e s y) (explicit_fit t e rest os) w) r x k) m
  where
    same : (a b : Role) → Some a ≡ Some b → a ≡ b
    same a b e = cc

early-role : (q : Option Role) → passes is_early q ≡ true → (r : Role) × (q ≡ Some r) × (is_definition_role r ≡ true)
early-role (Some (roles.Early k)) e = (roles.Early k, refl, refl)
early-role (Some r) e = absurd (cc)
early-role None e = absurd (cc)

implicit-late : (q : Option Role) → ((s : Role) → q ≡ Some s → is_implicit s ≡ true) → passes is_early q ≡ false
implicit-late None h = refl
implicit-late (Some r) h = by r (h r refl)
  where
    by : (r : Role) → is_implicit r ≡ true → is_early r ≡ false
    by (roles.Early k) e = absurd (cc)
    by r e = refl

tied-passes : (q : Option Role) (n : ℕ) → option_and_then tied_number q ≡ Some n → passes (ties_to n) q ≡ true
tied-passes None n e = absurd (cc)
tied-passes (Some r) n e = ap (passes (nat_eq n)) e ∙ eq-eqb n n refl

none-of-three : (a b : Bool) → (a && b && false) ≡ false
none-of-three true true = refl
none-of-three true false = refl
none-of-three false b = refl

use-not : (o : RegOp) → is_use o ≡ true → is_definition o ≡ true → ⊥
use-not o u d = let x = not-true o.def (first_of_both (not o.def) (not o.implicit) u) in let y = first_of_both o.def (not o.implicit) d in cc

module _ (t : Target) (f : Function) (z : TiedInstr t f) where
  open z use {i, r, e, known, rolled, c}

  abbrev H : Function
  H = h t f

  abbrev n : ℕ
  n = length f.classes

  abbrev os : List Operand
  os = i.operands

  abbrev es : List Role
  es = explicit_roles (roles_of t i)

  abbrev bs : List Bound
  bs = seated t i

  abbrev ps : List TiedPair
  ps = filter_map (tied_pair i.operands) (seated t i)

  abbrev T : List Tie
  T = ties_in t c i

  abbrev new : Instr
  new = new_instr t f z

  abbrev opaque : Bool
  opaque = does is_opaque t i

  still : (v : ℕ) → is_some (class_of f v) ≡ true → class_of H v ≡ class_of f v
  still v w = class-stays t f (made t f) v w

  class-named : (o : RegOp) → Among o (registers os) → has_class f o.loc ≡ true
  class-named o m = (named t f i r o m).class

  -- lanes of registers of the function, and of registers that stand in

  old-lane : (o o' : RegOp) → Among o (registers os) → o'.loc ≡ o.loc → o'.index ≡ o.index → (l : Lane) → Among l (operand_lanes t H o') → is_old n l ≡ true
  old-lane o o' m at x l k = use-old t f (record o { undef = false }) (class-named o m) (FromLane l) (map-in FromLane l (operand_lanes t f o) (subst (Among l) ((λ s. located_lanes t H (at s) (x s)) ∙ lanes t f H still o.loc o.index (class-named o m)) k))

  new-lane : (x : ℕ) (o' : RegOp) → o'.loc ≡ Virtual x → (l : Lane) → Among l (operand_lanes t H o') → is_lane_of x l ≡ true
  new-lane x o' at l k = by o'.index (subst (λ y. Among l (located_lanes t H y o'.index)) at k)
    where
      by : (y : Option IndexId) → Among l (located_lanes t H (Virtual x) y) → is_lane_of x l ≡ true
      by None m = let w = map-of (VirtualLane x) l (numbers 0 (length (range_widths t H x))) m in ap (is_lane_of x) w.2 ∙ eq-eqb x x refl
      by (Some y) m = let w = map-of (VirtualLane x) l (lanes_of t y) m in ap (is_lane_of x) w.2 ∙ eq-eqb x x refl

  old-new : (o o' : RegOp) → Among o (registers os) → o'.loc ≡ o.loc → o'.index ≡ o.index → (x : ℕ) (p' : RegOp) → n ≤ x → p'.loc ≡ Virtual x → (l : Lane) → Among l (operand_lanes t H o') → Among l (operand_lanes t H p') → ⊥
  old-new o o' m at y x p' low new-at l a b = let u = old-not-new n x l (old-lane o o' m at y l a) low in let w = new-lane x p' new-at l b in cc

  new-new : (x y : ℕ) (o' p' : RegOp) → (x ≡ y → ⊥) → o'.loc ≡ Virtual x → p'.loc ≡ Virtual y → (l : Lane) → Among l (operand_lanes t H o') → Among l (operand_lanes t H p') → ⊥
  new-new x y o' p' far at at' l a b = let u = lane-once x y l (new-lane x o' at l a) far in let w = new-lane y p' at' l b in cc

  clash-in : (g : Function) (a : RegOp) (l : Lane) → Among l (clashing_lanes t g a) → Among l (operand_lanes t g a)
  clash-in g a l m = go (has_lanes t g a) m
    where
      go : (b : Bool) → Among l (cond b (unreserved t (operand_lanes t g a)) []) → Among l (operand_lanes t g a)
      go true k = (filter-of (λ (x : Lane). not (is_reserved t x)) l (operand_lanes t g a) k).0
      go false k = absurd (member-none l k)

  defined-in : (g : Function) (b : Bool) (a : RegOp) (l : Lane) → Among l (defined_lanes t g b a) → Among l (operand_lanes t g a)
  defined-in g true a l m = go (has_lanes t g a) m
    where
      go : (b : Bool) → Among l (cond b (operand_lanes t g a) []) → Among l (operand_lanes t g a)
      go true k = k
      go false k = absurd (member-none l k)
  defined-in g false a l m = clash-in g a l m

  clash-defined : (g : Function) (b : Bool) (a : RegOp) (l : Lane) → Among l (clashing_lanes t g a) → Among l (defined_lanes t g b a)
  clash-defined g true a l m = go (has_lanes t g a) m
    where
      go : (b : Bool) → Among l (cond b (unreserved t (operand_lanes t g a)) []) → Among l (cond b (operand_lanes t g a) [])
      go true k = (filter-of (λ (x : Lane). not (is_reserved t x)) l (operand_lanes t g a) k).0
      go false k = absurd (member-none l k)
  clash-defined g false a l m = m

  clashing-same : (o o' : RegOp) → Among o (registers os) → o'.loc ≡ o.loc → o'.index ≡ o.index → clashing_lanes t H o' ≡ clashing_lanes t f o
  clashing-same o o' m at x = (λ k. cond (has_lanes_at t H (at k) (x k)) (unreserved t (located_lanes t H (at k) (x k))) []) ∙ clashing t f H still o (class-named o m)

  defined-same : (b : Bool) (o o' : RegOp) → Among o (registers os) → o'.loc ≡ o.loc → o'.index ≡ o.index → defined_lanes t H b o' ≡ defined_lanes t f b o
  defined-same true o o' m at x = (λ k. cond (has_lanes_at t H (at k) (x k)) (located_lanes t H (at k) (x k)) []) ∙ defines t f H still true o (class-named o m)
  defined-same false o o' m at x = clashing-same o o' m at x

  -- definitions

  -- a definition of number k behind: in the register that it had, or in one that stands in
  data View (k : ℕ) (d' : RegOp) : Type 0 where
    in_own : (d : RegOp) → register_at os k ≡ Some d → d.def ≡ true → d'.loc ≡ d.loc → d'.index ≡ d.index → View k d'
    in_new : (x : ℕ) → (tie_to k T).aside ≡ Some x → n ≤ x → d'.loc ≡ Virtual x → View k d'

  view : (k : ℕ) (q : Option Role) (d d' : RegOp) → register_at os k ≡ Some d → Turns t f z k q d d' → d'.def ≡ true → View k d'
  view k q d d' at (own_register g is) w = in_own d at (first_of_both d.def (not d.implicit) g) (ap (λ (y : RegOp). y.loc) is) (ap (λ (y : RegOp). y.index) is)
  view k q d d' at (unchanged g is) w = in_own d at (ap (λ (y : RegOp). y.def) (sym is) ∙ w) (ap (λ (y : RegOp). y.loc) is) (ap (λ (y : RegOp). y.index) is)
  view k q d d' at (new_register x p mp num g a low class is) w = in_new x a low (ap (λ (y : RegOp). y.loc) is)
  view k q d d' at (reads_definition p mp u v g m at' l x def imp) w = absurd (let y = def in cc)
  view k q d d' at (reads_new_register x p mp u v g a low class is) w = absurd (let y : d'.def ≡ false = ap (λ (y : RegOp). y.def) is in cc)
  view k q d d' at (reads_fixed p u v w' g found is) w = absurd (let y : d'.def ≡ false = ap (λ (y : RegOp). y.def) is in cc)

  -- the operand at a place behind, and that before
  place-of : (m : ℕ) (rs : List Role) (ys : List Operand) (k : ℕ) (o' : RegOp) → register_at (after t f.classes T m rs ys) k ≡ Some o' → (q : Option Role) × (o : RegOp) × (j : ℕ) × (j ≡ m + k) × Among (q, operands.Reg o) (explicit_bound rs ys) × (register_at ys k ≡ Some o) × (o' ≡ retied t f.classes T j q o)
  place-of m rs [] k o' w = absurd (cc)
  place-of m [] (y ∷ ys) zero o' w =
      let v = register-from t f.classes T m None y o' (sym (register-of (retied_operand t f.classes T (m, (None, y))) o' w)) in
      (None, v.0, m, omega arith, subst (λ x. Among (None, x) ((None, y) ∷ explicit_bound [] ys)) v.1 here, ap as_register v.1, v.2)
  place-of m [] (y ∷ ys) (suc k) o' w = let v = place-of (suc m) [] ys k o' w in let same = v.3 in (v.0, v.1, v.2, omega (arith, same), there v.4, v.5, v.6)
  place-of m (s ∷ rs) (y ∷ ys) zero o' w =
      let v = register-from t f.classes T m (Some s) y o' (sym (register-of (retied_operand t f.classes T (m, (Some s, y))) o' w)) in
      (Some s, v.0, m, omega arith, subst (λ x. Among (Some s, x) ((Some s, y) ∷ explicit_bound (cond (takes_many s) (s ∷ rs) rs) ys)) v.1 here, ap as_register v.1, v.2)
  place-of m (s ∷ rs) (y ∷ ys) (suc k) o' w = let v = place-of (suc m) (cond (takes_many s) (s ∷ rs) rs) ys k o' w in let same = v.3 in (v.0, v.1, v.2, omega (arith, same), there v.4, v.5, v.6)

  view-at : (k : ℕ) (d' : RegOp) → register_at new.operands k ≡ Some d' → d'.def ≡ true → View k d'
  view-at k d' p w =
      let v = place-of 0 es os k d' p in
      let same = v.3 in
      let j-is : v.2 ≡ k = omega (arith, same) in
      view k v.0 v.1 d' v.5 (subst (λ j. Turns t f z j v.0 v.1 d') j-is (subst (λ o. Turns t f z v.2 v.0 v.1 o) (sym v.6) (turns t f z v.2 v.0 v.1 v.4))) w

  -- the parts of the rule
  old-definitions : no_two_share (map (defined_lanes t f opaque) (filter (λ (o : RegOp). o.def) (registers os))) ≡ true
  unfolding V12
  old-definitions = second_of_both _ _ (first_of_both _ _ (first_of_both _ _ r.twelve))

  old-early : list_all (early_fits t f (bound t i)) (numbered 0 (bound t i)) ≡ true
  unfolding V12
  old-early = second_of_both _ _ (first_of_both _ _ r.twelve)

  old-undefs : undef_uses_fit opaque (bound t i) ≡ true
  unfolding V12
  old-undefs = second_of_both _ _ r.twelve

  at-places : AtPlaces (defined_lanes t f opaque) os
  at-places = to-places (defined_lanes t f opaque) os old-definitions

  at-there : (k : ℕ) (d : RegOp) → register_at os k ≡ Some d → Among d (registers os)
  at-there k d w = register-in d os (register-there os k d w)

  one-definition : (j k x : ℕ) → (tie_to j T).aside ≡ Some x → (y : ℕ) → (tie_to k T).aside ≡ Some y → (j ≡ k → ⊥) → x ≡ y → ⊥
  one-definition j k x a y b far same = far (asides-differ bs c ps j k x a (b ∙ ap Some (sym same)))

  new-places : AtPlaces (defined_lanes t H opaque) new.operands
  new-places a b d' e' lt p q x y = by (view-at a d' p x) (view-at b e' q y)
    where
      apart : a ≡ b → ⊥
      apart w = omega (arith, lt, w)

      by : View a d' → View b e' → share_a_lane (defined_lanes t H opaque d') (defined_lanes t H opaque e') ≡ false
      by (in_own d at g l w) (in_own o at' g' l' w') =
          (λ k. share_a_lane (defined-same opaque d d' (at-there a d at) l w k) (defined-same opaque o e' (at-there b o at') l' w' k))
          ∙ at-places a b d o lt at at' g g'
      by (in_own d at g l w) (in_new v s low l') = none-shared (defined_lanes t H opaque d') (defined_lanes t H opaque e') (λ k m m'. old-new d d' (at-there a d at) l w v e' low l' k (defined-in H opaque d' k m) (defined-in H opaque e' k m'))
      by (in_new v s low l) (in_own o at' g' l' w') = none-shared (defined_lanes t H opaque d') (defined_lanes t H opaque e') (λ k m m'. old-new o e' (at-there b o at') l' w' v d' low l k (defined-in H opaque e' k m') (defined-in H opaque d' k m))
      by (in_new v s low l) (in_new v' s' low' l') = none-shared (defined_lanes t H opaque d') (defined_lanes t H opaque e') (λ k m m'. new-new v v' d' e' (one-definition a b v s v' s' apart) l l' k (defined-in H opaque d' k m) (defined-in H opaque e' k m'))

  -- what is read

  -- an operand that is read besides the use tied to the definition of number k: as before, or as another definition
  data Read (k : ℕ) (u' : RegOp) : Type 0 where
    as_before : (u : RegOp) → Among u (registers os) → Among u (readings_besides k (bound t i)) → u'.loc ≡ u.loc → u'.index ≡ u.index → Read k u'
    of_pair : (p : TiedPair) → Among p ps → (k ≡ p.number → ⊥) → u'.loc ≡ p.definition.loc → u'.index ≡ p.definition.index → Read k u'
    of_new : (j x : ℕ) → (tie_to j T).aside ≡ Some x → (k ≡ j → ⊥) → n ≤ x → u'.loc ≡ Virtual x → Read k u'

  abbrev besides : ℕ → Bound → Bool
  besides k b = not (passes (ties_to k) b.0)

  abbrev is_reading : RegOp → Bool
  is_reading o = not o.def && not o.undef

  reading-in : (k : ℕ) (q : Option Role) (u : RegOp) → Among (q, operands.Reg u) (bound t i) → besides k (q, operands.Reg u) ≡ true → is_reading u ≡ true → Among u (readings_besides k (bound t i))
  reading-in k q u m far w =
      let others = filter (besides k) (bound t i) in
      filter-in is_reading u (registers (map (λ (b : Bound). b.1) others))
      (told-in as_register u (operands.Reg u) (map (λ (b : Bound). b.1) others) (map-in (λ (b : Bound). b.1) (q, operands.Reg u) others (filter-in (besides k) (q, operands.Reg u) (bound t i) m far)) refl) w

  defined-not : (u : RegOp) → u.def ≡ true → is_reading u ≡ true → ⊥
  defined-not u d w = let y = not-true u.def (first_of_both (not u.def) (not u.undef) w) in cc

  by-turns : (k j : ℕ) (q : Option Role) (u u' : RegOp) → Among (q, operands.Reg u) (bound t i) → Among u (registers os) → besides k (q, operands.Reg u) ≡ true → is_reading u' ≡ true → Turns t f z j q u u' → Read k u'
  by-turns k j q u u' m member far w (own_register g is) = absurd (defined-not u' (ap (λ (y : RegOp). y.def) is ∙ first_of_both u.def (not u.implicit) g) w)
  by-turns k j q u u' m member far w (new_register x p mp num g a low class is) = absurd (defined-not u' (ap (λ (y : RegOp). y.def) is ∙ first_of_both u.def (not u.implicit) g) w)
  by-turns k j q u u' m member far w (unchanged g is) = as_before u member (reading-in k q u m far (ap is_reading (sym is) ∙ w)) (ap (λ (y : RegOp). y.loc) is) (ap (λ (y : RegOp). y.index) is)
  by-turns k j q u u' m member far w (reads_definition p mp used v g a at l x def imp) = of_pair p mp (λ s. let y = tied-passes q p.number g in let y' : passes (ties_to k) q ≡ true = subst (λ b. passes (ties_to b) q ≡ true) (sym s) y in cc) l x
  by-turns k j q u u' m member far w (reads_new_register x p mp used v g a low class is) = of_new p.number x a (λ s. let y = tied-passes q p.number g in let y' : passes (ties_to k) q ≡ true = subst (λ b. passes (ties_to b) q ≡ true) (sym s) y in cc) low (ap (λ (y : RegOp). y.loc) is)
  by-turns k j q u u' m member far w (reads_fixed p used v un g found is) = absurd (let y : u'.undef ≡ true = ap (λ (y : RegOp). y.undef) is in let y' = not-true u'.undef (second_of_both (not u'.def) (not u'.undef) w) in cc)

  read-of : (k : ℕ) (u' : RegOp) → Among u' (readings_besides k (bound t new)) → Read k u'
  read-of k u' m =
      let others = filter (besides k) (bound t new) in
      let a = filter-of is_reading u' (registers (map (λ (b : Bound). b.1) others)) m in
      let b = told-of as_register u' (map (λ (b : Bound). b.1) others) a.0 in
      let v = map-of (λ (b : Bound). b.1) b.0 others b.1 in
      let d = filter-of (besides k) v.0 (bound t new) v.1 in
      let is : operands.Reg u' ≡ v.0.1 = sym (register-of b.0 u' b.2) ∙ v.2 in
      let p = pairs-of t f z (all-pairs t f z) v.0.0 v.0.1 d.0 in
      by p.0 v.0.0 p.1 v.0.1 is p.3 d.1 a.1 p.2
    where
      same-register : (a b : RegOp) → operands.Reg a ≡ operands.Reg b → a ≡ b
      same-register a b e = cc

      by : (j : ℕ) (q : Option Role) (x x' : Operand) → operands.Reg u' ≡ x' → Among (q, x) (bound t i) → besides k (q, x') ≡ true → is_reading u' ≡ true → Seat t f z j q x x' → Read k u'
      by j q x x' is a far w (implicit o are imp member late eq) =
          let one : u' ≡ o = same-register u' o (is ∙ (eq ∙ are)) in
          as_before o member (reading-in k q o (subst (λ y. Among (q, y) (bound t i)) are a) far (ap is_reading (sym one) ∙ w)) (ap (λ (y : RegOp). y.loc) one) (ap (λ (y : RegOp). y.index) one)
      by j q x x' is a far w (explicit mem at place plain eq) =
          let v = register-from t f.classes T j q x u' (is ∙ eq) in
          let mem' = subst (λ y. Among (q, y) bs) v.1 mem in
          by-turns k j q v.0 u' (subst (λ y. Among (q, y) (bound t i)) v.1 a) (register-in v.0 os (bound-operand es os q (operands.Reg v.0) mem')) far w
          (subst (λ y. Turns t f z j q v.0 y) (sym v.2) (turns t f z j q v.0 mem'))

  -- an early definition and what is read

  early-apart : (k : ℕ) (q : Option Role) (d d' : RegOp) → register_at os k ≡ Some d → View k d' → d.def ≡ true → list_any (λ u. share_a_lane (clashing_lanes t f d) (clashing_lanes t f u)) (readings_besides k (bound t i)) ≡ false → (u' : RegOp) → Read k u' → share_a_lane (clashing_lanes t H d') (clashing_lanes t H u') ≡ false
  early-apart k q d d' at sees def none u' reading = by sees reading
    where
      same-register : (a b : RegOp) → Some a ≡ Some b → a ≡ b
      same-register a b e = cc

      old-none : (u : RegOp) → Among u (readings_besides k (bound t i)) → share_a_lane (clashing_lanes t f d) (clashing_lanes t f u) ≡ false
      old-none u m = go (share_a_lane (clashing_lanes t f d) (clashing_lanes t f u)) refl
        where
          go : (b : Bool) → share_a_lane (clashing_lanes t f d) (clashing_lanes t f u) ≡ b → share_a_lane (clashing_lanes t f d) (clashing_lanes t f u) ≡ false
          go false g = g
          go true g = absurd (let y = any-in (λ u. share_a_lane (clashing_lanes t f d) (clashing_lanes t f u)) u (readings_besides k (bound t i)) m g in cc)

      pair-there : (p : TiedPair) → Among p ps → register_at os p.number ≡ Some p.definition
      pair-there p mp = let y = told-of (tied_pair os) p bs mp in (pair-is os y.0.0 y.0.1 p y.2).2

      pair-def : (p : TiedPair) → Among p ps → p.definition.def ≡ true
      pair-def p mp = first_of_both p.definition.def (not p.definition.implicit) (defined-by t f i e known rolled r.one p mp).is

      -- two definitions share no lane that counts
      two-apart : (a b : ℕ) (x y : RegOp) → (a ≡ b → ⊥) → register_at os a ≡ Some x → register_at os b ≡ Some y → x.def ≡ true → y.def ≡ true → (l : Lane) → Among l (defined_lanes t f opaque x) → Among l (defined_lanes t f opaque y) → ⊥
      two-apart a b x y far p q dx dy l m m' = go (nat_lt a b) refl
        where
          go : (w : Bool) → nat_lt a b ≡ w → ⊥
          go true g = apart-lanes (defined_lanes t f opaque x) (defined_lanes t f opaque y) (at-places a b x y (ltb-true a b g) p q dx dy) l m m'
          go false g = apart-lanes (defined_lanes t f opaque y) (defined_lanes t f opaque x) (at-places b a y x (less (ltb-false a b g)) q p dy dx) l m' m
            where
              less : b ≤ a → b < a
              less w = by-cases (nat_eq a b) refl
                where
                  by-cases : (v : Bool) → nat_eq a b ≡ v → b < a
                  by-cases true s = absurd (far (eqb-true a b s))
                  by-cases false s = let y = eqb-false a b s in omega (arith, w, y)

      by : View k d' → Read k u' → share_a_lane (clashing_lanes t H d') (clashing_lanes t H u') ≡ false
      by (in_own o at' g l x) (as_before u mu ru l' x') =
          let one : o ≡ d = same-register o d (sym at' ∙ at) in
          (λ s. share_a_lane (clashing-same o d' (at-there k o at') l x s) (clashing-same u u' mu l' x' s))
          ∙ subst (λ y. share_a_lane (clashing_lanes t f y) (clashing_lanes t f u) ≡ false) (sym one) (old-none u ru)
      by (in_own o at' g l x) (of_pair p mp far l' x') =
          let mo = at-there k o at' in
          let mp' = at-there p.number p.definition (pair-there p mp) in
          none-shared (clashing_lanes t H d') (clashing_lanes t H u') (λ v m m'.
          two-apart k p.number o p.definition far at' (pair-there p mp) g (pair-def p mp) v
          (clash-defined f opaque o v (subst (Among v) (clashing-same o d' mo l x) m))
          (clash-defined f opaque p.definition v (subst (Among v) (clashing-same p.definition u' mp' l' x') m')))
      by (in_own o at' g l x) (of_new j y a far low l') = none-shared (clashing_lanes t H d') (clashing_lanes t H u') (λ v m m'. old-new o d' (at-there k o at') l x y u' low l' v (clash-in H d' v m) (clash-in H u' v m'))
      by (in_new y a low l) (as_before u mu ru l' x') = none-shared (clashing_lanes t H d') (clashing_lanes t H u') (λ v m m'. old-new u u' mu l' x' y d' low l v (clash-in H u' v m') (clash-in H d' v m))
      by (in_new y a low l) (of_pair p mp far l' x') = none-shared (clashing_lanes t H d') (clashing_lanes t H u') (λ v m m'. old-new p.definition u' (at-there p.number p.definition (pair-there p mp)) l' x' y d' low l v (clash-in H u' v m') (clash-in H d' v m))
      by (in_new y a low l) (of_new j y' a' far low' l') = none-shared (clashing_lanes t H d') (clashing_lanes t H u') (λ v m m'. new-new y y' d' u' (one-definition k j y a y' a' far) l l' v (clash-in H d' v m) (clash-in H u' v m'))

  -- a definition stays one
  defines-on : (k : ℕ) (q : Option Role) (d d' : RegOp) → is_definition d ≡ true → Turns t f z k q d d' → d'.def ≡ true
  defines-on k q d d' w (own_register g is) = ap (λ (y : RegOp). y.def) is ∙ first_of_both d.def (not d.implicit) g
  defines-on k q d d' w (new_register x p mp num g a low class is) = ap (λ (y : RegOp). y.def) is ∙ first_of_both d.def (not d.implicit) g
  defines-on k q d d' w (unchanged g is) = absurd (let y = g in cc)
  defines-on k q d d' w (reads_definition p mp used v g a at l x def imp) = absurd (use-not d used w)
  defines-on k q d d' w (reads_new_register x p mp used v g a low class is) = absurd (use-not d used w)
  defines-on k q d d' w (reads_fixed p used v un g found is) = absurd (use-not d used w)

  early-register : (k : ℕ) (q : Option Role) (d : RegOp) → Among (q, operands.Reg d) bs → slice_get os k ≡ Some (operands.Reg d) → d.implicit ≡ false → early_fits t f (bound t i) (k, (q, operands.Reg d)) ≡ true → early_fits t H (bound t new) (k, (q, operands.Reg (retied t f.classes T k q d))) ≡ true
  early-register k q d m place plain w = go (passes is_early q) refl
    where
      d' : RegOp
      d' = retied t f.classes T k q d

      go : (b : Bool) → passes is_early q ≡ b → early_fits t H (bound t new) (k, (q, operands.Reg d')) ≡ true
      go false g = λ s. not (g s) || not (list_any (λ u. share_a_lane (clashing_lanes t H d') (clashing_lanes t H u)) (readings_besides k (bound t new)))
      go true g =
          let role = early-role q g in
          let fits = fit-operands t f i e known rolled r.one in
          let bound-there = plain-bound es os q (operands.Reg d) fits.0 plain m in
          let fit = fit-of t e es (explicit_operands os) fits.1 role.0 (operands.Reg d) (subst (λ y. Among (y, operands.Reg d) (explicit_bound es (explicit_operands os))) role.1 bound-there) in
          let definition = definition-fits t e role.0 d role.2 fit in
          let at : register_at os k ≡ Some d = ap (option_and_then as_register) place in
          let turn = turns t f z k q d m in
          let old : not (list_any (λ u. share_a_lane (clashing_lanes t f d) (clashing_lanes t f u)) (readings_besides k (bound t i))) ≡ true = subst (λ (b : Bool). (not b || not (list_any (λ u. share_a_lane (clashing_lanes t f d) (clashing_lanes t f u)) (readings_besides k (bound t i)))) ≡ true) g w in
          let none = none-by (λ u. share_a_lane (clashing_lanes t H d') (clashing_lanes t H u)) (readings_besides k (bound t new)) (λ u mu. early-apart k q d d' at (view k q d d' at turn (defines-on k q d d' definition turn)) (first_of_both d.def (not d.implicit) definition) (not-true _ old) u (read-of k u mu)) in
          (λ s. not (passes is_early q) || not (none s)) ∙ or-true (not (passes is_early q))

  early-explicit : (k : ℕ) (q : Option Role) (x : Operand) → Among (q, x) bs → slice_get os k ≡ Some x → is_implicit_operand x ≡ false → early_fits t f (bound t i) (k, (q, x)) ≡ true → early_fits t H (bound t new) (k, (q, retied_operand t f.classes T (k, (q, x)))) ≡ true
  early-explicit k q (operands.Reg d) m place plain w = early-register k q d m place plain w
  early-explicit k q x m place plain w = refl

  early-seat : (k : ℕ) (q : Option Role) (x x' : Operand) → Seat t f z k q x x' → early_fits t f (bound t i) (k, (q, x)) ≡ true → early_fits t H (bound t new) (k, (q, x')) ≡ true
  early-seat k q x x' (explicit m at place plain is) w = subst (λ y. early_fits t H (bound t new) (k, (q, y)) ≡ true) (sym is) (early-explicit k q x m place plain w)
  early-seat k q x x' (implicit o are imp m late is) w = subst (λ y. early_fits t H (bound t new) (k, (q, y)) ≡ true) (sym (is ∙ are)) (λ s. not (implicit-late q late s) || not (list_any (λ u. share_a_lane (clashing_lanes t H o) (clashing_lanes t H u)) (readings_besides k (bound t new))))

  -- `undef` uses

  abbrev Free : Option Role → RegOp → Bool
  Free q o = not o.def && o.undef && is_none (option_and_then tied_number q)

  defined-free : (q : Option Role) (o : RegOp) → o.def ≡ true → Free q o ≡ false
  defined-free q o d = λ s. not (d s) && o.undef && is_none (option_and_then tied_number q)

  tied-free : (q : Option Role) (j : ℕ) (o : RegOp) → option_and_then tied_number q ≡ Some j → Free q o ≡ false
  tied-free q j o g = (λ s. not o.def && o.undef && is_none (g s)) ∙ none-of-three (not o.def) o.undef

  free-turns : (k : ℕ) (q : Option Role) (o o' : RegOp) → Turns t f z k q o o' → Free q o' ≡ Free q o
  free-turns k q o o' (own_register g is) = let d = first_of_both o.def (not o.implicit) g in defined-free q o' (ap (λ (y : RegOp). y.def) is ∙ d) ∙ sym (defined-free q o d)
  free-turns k q o o' (new_register x p mp num g a low class is) = let d = first_of_both o.def (not o.implicit) g in defined-free q o' (ap (λ (y : RegOp). y.def) is ∙ d) ∙ sym (defined-free q o d)
  free-turns k q o o' (unchanged g is) = ap (Free q) is
  free-turns k q o o' (reads_definition p mp used v g a at l x def imp) = tied-free q p.number o' g ∙ sym (tied-free q p.number o g)
  free-turns k q o o' (reads_new_register x p mp used v g a low class is) = tied-free q p.number o' g ∙ sym (tied-free q p.number o g)
  free-turns k q o o' (reads_fixed p used v un g found is) = ap (Free q) is ∙ sym (λ s. first_of_both (not o.def) (not o.implicit) used s && un s && is_none (option_and_then tied_number q))

  free-explicit : (k : ℕ) (q : Option Role) (x : Operand) → Among (q, x) bs → is_free_undef (q, retied_operand t f.classes T (k, (q, x))) ≡ is_free_undef (q, x)
  free-explicit k q (operands.Reg o) m = free-turns k q o (retied t f.classes T k q o) (turns t f z k q o m)
  free-explicit k q x m = refl

  free-seat : (k : ℕ) (q : Option Role) (x x' : Operand) → Seat t f z k q x x' → is_free_undef (q, x') ≡ is_free_undef (q, x)
  free-seat k q x x' (explicit m at place plain is) = ap (λ y. is_free_undef (q, y)) is ∙ free-explicit k q x m
  free-seat k q x x' (implicit o are imp m late is) = ap (λ y. is_free_undef (q, y)) is

  new-undefs : undef_uses_fit opaque (bound t new) ≡ true
  new-undefs = (λ s. not (opaque && pairs-any t f z is_early_definition (λ k q x x' v. refl) (all-pairs t f z) s && pairs-any t f z is_free_undef free-seat (all-pairs t f z) s)) ∙ old-undefs

  -- no definition is `undef`

  none-undefined : list_any is_undef_definition (registers new.operands) ≡ false
  none-undefined = not-true _ (second_of_both _ _ (first_of_both _ _ (first_of_both _ _ (new-formed t f i r e known rolled f.classes c))))

  new-clear : list_all (undef_fits forms.Source (registers new.operands)) (filter (λ (o : RegOp). o.def) (registers new.operands)) ≡ true
  new-clear = all-by (undef_fits forms.Source (registers new.operands)) (filter (λ (o : RegOp). o.def) (registers new.operands)) (λ d m.
      let w = filter-of (λ (o : RegOp). o.def) d (registers new.operands) m in
      let u = clear d (none-of is_undef_definition (registers new.operands) none-undefined d w.0) w.1 in
      fits d u)
    where
      none-of : (p : RegOp → Bool) (xs : List RegOp) → list_any p xs ≡ false → (x : RegOp) → Among x xs → p x ≡ false
      none-of p xs w x m = go (p x) refl
        where
          go : (b : Bool) → p x ≡ b → p x ≡ false
          go false g = g
          go true g = absurd (let y = any-in p x xs m g in cc)

      clear : (d : RegOp) → is_undef_definition d ≡ false → d.def ≡ true → d.undef ≡ false
      clear d w g = (λ s. sym g s && d.undef) ∙ w

      fits : (d : RegOp) → d.undef ≡ false → undef_fits forms.Source (registers new.operands) d ≡ true
      fits d u = λ s. not (u s) || (is_virtual d.loc && nat_le (length (filter (λ (o : RegOp). same_loc o.loc d.loc) (namings (registers new.operands)))) 1)

  pub tied-twelve : V12 t forms.Source H (with_operands t f.classes T i) ≡ true
  unfolding V12
  tied-twelve =
      let early = pairs-numbered t f z (early_fits t f (bound t i)) (early_fits t H (bound t new)) early-seat (all-pairs t f z) old-early in
      let apart = from-places (defined_lanes t H opaque) new.operands new-places in
      λ k. new-clear k && apart k && early k && new-undefs k
