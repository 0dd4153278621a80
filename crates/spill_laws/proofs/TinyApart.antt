-- An instruction with tinies in place of the range keeps rule 12: its definitions are apart, from each other and, where they are
-- early, from what is read.
use Rattle.std.proofs.Common.{◌≡◌, ◌⊎◌, inl, inr, ◌<◌, ◌≤◌, ◌+◌, ◌∙◌, ◌&&◌, ◌||◌, not, ℕ, suc, Bool, true, false, cond, List, [], ◌∷◌, Option, Some, None, filter, length, map, refl, sym, ap, subst, arith, eq-eqb}
use Rattle.std.specs.Prelude.{is_none, nat_eq, nat_le, option_and_then}
use Rattle.std.specs.List.{list_all, list_any}
use Rattle.target_base.specs.declared.types.Role.{Role}
use Rattle.target_base.specs.declared.types.Role.TheVariants as roles
use Rattle.target_base.specs.declared.types.Target.{Target}
use Rattle.target_base.specs.Roles.{is_definition as is_definition_role, is_implicit}
use Rattle.target_base.proofs.Tests.{first_of_both, second_of_both}
use Rattle.meaning.specs.Live.{Among as Member}
use Rattle.meaning.specs.declared.types.Lane.{Lane}
use Rattle.meaning.specs.declared.types.Lane.TheVariants.{VirtualLane}
use Rattle.meaning.specs.declared.types.Source.TheVariants.{FromLane}
use Rattle.mir_func.specs.declared.func.Loc.TheVariants.{Virtual}
use Rattle.mir_func.specs.declared.func.RegOp.{RegOp}
use Rattle.mir_func.specs.declared.func.Operand.{Operand}
use Rattle.mir_func.specs.declared.func.Operand.TheVariants as operands
use Rattle.mir_func.specs.declared.func.Instr.{Instr}
use Rattle.mir_func.specs.Value.{Function}
use Rattle.mir_func.specs.Binding.{Bound, as_register, bound, does, explicit_bound, explicit_operands, explicit_roles, implicit_bound, implicit_registers, implicit_roles, is_early, is_virtual, numbered, passes, register_at, registers, roles_of, same_loc, takes_role, tied_number, ties_to}
use Rattle.mir_meaning.specs.declared.Form.TheVariants as forms
use Rattle.mir_meaning.specs.Items.{unreserved}
use Rattle.mir_meaning.specs.Registers.{is_reserved, located_lanes, numbers, operand_lanes, range_widths}
use Rattle.mir_meaning.specs.Rules.{V12, clashing_lanes, defined_lanes, early_fits, has_class, has_lanes, is_early_definition, is_free_undef, is_opaque, namings, no_two_share, readings_besides, share_a_lane, undef_fits, undef_uses_fit}
use Rattle.instr_effects.proofs.Members.{filter-in, filter-of, map-in, map-of, member-none}
use Rattle.live_laws.proofs.Effects.Lists.{all-of, any-in}
use Rattle.live_laws.proofs.Effects.Shapes.{class-there}
use Rattle.lowering_laws.specs.Form.{is_lowered, is_undef_definition}
use Rattle.lowering_laws.proofs.Built.{old-not-new}
use Rattle.lowering_laws.proofs.CopiesBefore.{lane-once}
use Rattle.lowering_laws.proofs.Formed.{all-by, none-by}
use Rattle.lowering_laws.proofs.Olds.{is_old, use-old}
use Rattle.lowering_laws.proofs.Rolled.{definition-fits, fit-operands}
use Rattle.lowering_laws.proofs.RulesStay.{clashing, defines, lanes}
use Rattle.lowering_laws.proofs.Seated.{register-in, register-of, register-there, told-in, told-of}
use Rattle.lowering_laws.proofs.SharedLanes.{AtPlaces, from-places, none-shared, to-places}
use Rattle.lowering_laws.proofs.Traced.{is_lane_of}
use Rattle.lowering_laws.proofs.Widths.{find-in}
use Rattle.spiller.specs.Setting.{Spilling}
use Rattle.spiller.specs.Rematerialised.{ways_read}
use Rattle.spiller.specs.Spilled.{Seats, as_tiny, seated, seats_from, tiny_defined}
use Rattle.spill_laws.specs.Laws.{HasTinies}
use Rattle.spill_laws.proofs.Given.{operand-at}
use Rattle.spill_laws.proofs.Ranges.{numbered-of}
use Rattle.spill_laws.proofs.Seated.{fits-role}
use Rattle.spill_laws.proofs.TinyRules.{Now, bound-there, from-operand, last, new, new_instr, own-explicit, rolled, same, split-number}
use Rattle.spill_laws.proofs.TinySeats.{Source, defined-low, definition, one-tiny, read-high, reading, source, tied, tiny-further}
use Rattle.spill_laws.proofs.Turned.{Turn, bound-is, explicit-number, kept, numbered-seats, register-behind, seat, tiny, turn, turned, turned-from}

not-true : (b : Bool) → not b ≡ true → b ≡ false
not-true true e = absurd (cc)
not-true false e = refl

or-true : (b : Bool) → (b || true) ≡ true
or-true true = refl
or-true false = refl

early-role : (q : Option Role) → passes is_early q ≡ true → (r : Role) × (q ≡ Some r) × (is_definition_role r ≡ true)
early-role (Some (roles.Early k)) e = (roles.Early k, refl, refl)
early-role (Some r) e = absurd (cc)
early-role None e = absurd (cc)

implicit-late : (r : Role) → is_implicit r ≡ true → is_early r ≡ false
implicit-late (roles.Early k) e = absurd (cc)
implicit-late r e = refl

tied-passes : (q : Option Role) (n : ℕ) → option_and_then tied_number q ≡ Some n → passes (ties_to n) q ≡ true
tied-passes None n e = absurd (cc)
tied-passes (Some r) n e = ap (passes (nat_eq n)) e ∙ eq-eqb n n refl

none-of : {X : Type 0} (p : X → Bool) (xs : List X) → list_any p xs ≡ false → (x : X) → Member x xs → p x ≡ false
none-of p xs w x m = go (p x) refl
  where
    go : (b : Bool) → p x ≡ b → p x ≡ false
    go false g = g
    go true g = absurd (let y = any-in p x xs m g in cc)

pub none-before : (t : Target) (i : Instr) → is_lowered t i ≡ true → list_any is_undef_definition (registers i.operands) ≡ false
none-before t i low = not-true _ (second_of_both _ _ (first_of_both _ _ (first_of_both _ _ low)))

module _ (s : Spilling) (g : Function) (c : ℕ) (p : List Instr) (h : HasTinies s g c p) (i : Instr) (mi : Member i p) where
  abbrev t : Target
  t = s.target

  abbrev f : Function
  f = s.func

  abbrev z : Seats
  z = seats_from s c p

  abbrev ways : ℕ
  ways = length (ways_read s p)

  abbrev n : ℕ
  n = length s.func.classes

  abbrev os : List Operand
  os = i.operands

  abbrev es : List Role
  es = explicit_roles (roles_of s.target i)

  abbrev bs : List Bound
  bs = bound s.target i

  abbrev behind : Instr
  behind = new_instr s g c p h i mi

  abbrev opaque : Bool
  opaque = does is_opaque s.target i

  class-named : (o : RegOp) → Member o (registers os) → has_class f o.loc ≡ true
  class-named o m = class-there t f i (h.shaped i mi) o m

  -- lanes of registers of the function, and of tinies

  old-lane : (o : RegOp) → Member o (registers os) → (l : Lane) → Member l (operand_lanes t g o) → is_old n l ≡ true
  old-lane o m l k = use-old t f (record o { undef = false }) (class-named o m) (FromLane l) (map-in FromLane l (operand_lanes t f o) (subst (Member l) (lanes t f g h.keeps o.loc o.index (class-named o m)) k))

  new-lane : (x : ℕ) (l : Lane) → Member l (located_lanes t g (Virtual x) None) → is_lane_of x l ≡ true
  new-lane x l m = let w = map-of (VirtualLane x) l (numbers 0 (length (range_widths t g x))) m in ap (is_lane_of x) w.2 ∙ eq-eqb x x refl

  clash-in : (a : RegOp) (l : Lane) → Member l (clashing_lanes t g a) → Member l (operand_lanes t g a)
  clash-in a l m = go (has_lanes t g a) m
    where
      go : (b : Bool) → Member l (cond b (unreserved t (operand_lanes t g a)) []) → Member l (operand_lanes t g a)
      go true k = (filter-of (λ (x : Lane). not (is_reserved t x)) l (operand_lanes t g a) k).0
      go false k = absurd (member-none l k)

  defined-in : (b : Bool) (a : RegOp) (l : Lane) → Member l (defined_lanes t g b a) → Member l (operand_lanes t g a)
  defined-in true a l m = go (has_lanes t g a) m
    where
      go : (b : Bool) → Member l (cond b (operand_lanes t g a) []) → Member l (operand_lanes t g a)
      go true k = k
      go false k = absurd (member-none l k)
  defined-in false a l m = clash-in a l m

  old-new : (o : RegOp) → Member o (registers os) → (x : ℕ) → n ≤ x → (a b : RegOp) → a ≡ o → (y : RegOp) → b ≡ as_tiny y x → (l : Lane) → Member l (operand_lanes t g a) → Member l (operand_lanes t g b) → ⊥
  old-new o m x low a b is y at l ma mb =
      let u = old-not-new n x l (old-lane o m l (subst (λ v. Member l (operand_lanes t g v)) is ma)) low in
      let w = new-lane x l (subst (λ v. Member l (operand_lanes t g v)) at mb) in
      cc

  new-new : (x y : ℕ) → (x ≡ y → ⊥) → (a b u v : RegOp) → a ≡ as_tiny u x → b ≡ as_tiny v y → (l : Lane) → Member l (operand_lanes t g a) → Member l (operand_lanes t g b) → ⊥
  new-new x y far a b u v is at l ma mb =
      let k = lane-once x y l (new-lane x l (subst (λ w. Member l (operand_lanes t g w)) is ma)) far in
      let j = new-lane y l (subst (λ w. Member l (operand_lanes t g w)) at mb) in
      cc

  -- definitions

  -- a definition of number k behind: as it was, or in its tiny
  data View (k : ℕ) (d' : RegOp) : Type 0 where
    in_own : (d : RegOp) → register_at os k ≡ Some d → d.def ≡ true → d' ≡ d → View k d'
    in_new : (x : ℕ) (d : RegOp) → tiny_defined z i k ≡ Some x → n ≤ x → d' ≡ as_tiny d x → View k d'

  view : (k : ℕ) (q : Option Role) (d d' : RegOp) → register_at os k ≡ Some d → d.def ≡ true → Turn s z i k q d d' → View k d'
  view k q d d' at def (kept is) = in_own d at def is
  view k q d d' at def (tiny x own e is) = by (source s g c p h i k q d x e)
    where
      by : Source s g c p h i k q d x → View k d'
      by (definition w a) = in_new x d a (tiny-further s g c p h i k q d x (definition w a)) is
      by (tied j w a b) = absurd (cc)
      by (reading w a) = absurd (cc)

  turn-def : (k : ℕ) (q : Option Role) (d d' : RegOp) → Turn s z i k q d d' → d'.def ≡ d.def
  turn-def k q d d' (kept is) = ap (λ (x : RegOp). x.def) is
  turn-def k q d d' (tiny x own e is) = ap (λ (x : RegOp). x.def) is

  view-at : (k : ℕ) (d' : RegOp) → register_at behind.operands k ≡ Some d' → d'.def ≡ true → View k d'
  view-at k d' e def =
      let v = register-behind s z i 0 es os k d' e in
      let w = v.0 in
      let turns : Turn s z i k w.role w.operand d' = subst (λ j. Turn s z i j w.role w.operand d') (nothing k) (subst (Turn s z i (0 + k) w.role w.operand) (sym w.is) (turn s z i (0 + k) w.role w.operand)) in
      view k w.role w.operand d' v.1 (sym (turn-def k w.role w.operand d' turns) ∙ def) turns
    where
      nothing : (k : ℕ) → 0 + k ≡ k
      nothing k = omega arith

  -- the parts of the rule
  pub old-definitions : no_two_share (map (defined_lanes t f opaque) (filter (λ (o : RegOp). o.def) (registers os))) ≡ true
  unfolding V12
  old-definitions = second_of_both _ _ (first_of_both _ _ (first_of_both _ _ (h.shaped i mi).definitions))

  old-early : list_all (early_fits t f bs) (numbered 0 bs) ≡ true
  unfolding V12
  old-early = second_of_both _ _ (first_of_both _ _ (h.shaped i mi).definitions)

  old-undefs : undef_uses_fit opaque bs ≡ true
  unfolding V12
  old-undefs = second_of_both _ _ (h.shaped i mi).definitions

  at-there : (k : ℕ) (d : RegOp) → register_at os k ≡ Some d → Member d (registers os)
  at-there k d w = register-in d os (register-there os k d w)

  new-places : AtPlaces (defined_lanes t g opaque) behind.operands
  new-places a b d' e' lt k j x y = by (view-at a d' k x) (view-at b e' j y)
    where
      apart : a ≡ b → ⊥
      apart w = omega (arith, lt, w)

      by : View a d' → View b e' → share_a_lane (defined_lanes t g opaque d') (defined_lanes t g opaque e') ≡ false
      by (in_own d at w is) (in_own o at' w' is') =
          (λ k. share_a_lane (defined_lanes t g opaque (is k)) (defined_lanes t g opaque (is' k)))
          ∙ ((λ k. share_a_lane (defines t f g h.keeps opaque d (class-named d (at-there a d at)) k) (defines t f g h.keeps opaque o (class-named o (at-there b o at')) k))
          ∙ to-places (defined_lanes t f opaque) os old-definitions a b d o lt at at' w w')
      by (in_own d at w is) (in_new v u e low is') = none-shared (defined_lanes t g opaque d') (defined_lanes t g opaque e') (λ l m m'. old-new d (at-there a d at) v low d' e' is u is' l (defined-in opaque d' l m) (defined-in opaque e' l m'))
      by (in_new v u e low is) (in_own o at' w' is') = none-shared (defined_lanes t g opaque d') (defined_lanes t g opaque e') (λ l m m'. old-new o (at-there b o at') v low e' d' is' u is l (defined-in opaque e' l m') (defined-in opaque d' l m))
      by (in_new v u e low is) (in_new v' u' e1 low' is') =
          none-shared (defined_lanes t g opaque d') (defined_lanes t g opaque e') (λ l m m'.
          new-new v v' (λ w. apart (one-tiny s g c p h i a b v e (e1 ∙ ap Some (sym w)))) d' e' u u' is is' l (defined-in opaque d' l m) (defined-in opaque e' l m'))

  -- what is read

  -- an operand that is read besides the use tied to the definition of number k: as before, in the tiny of another definition,
  -- or in that of a way of reading
  data Read (k : ℕ) (u' : RegOp) : Type 0 where
    as_before : (u : RegOp) → Member u (registers os) → Member u (readings_besides k bs) → u' ≡ u → Read k u'
    of_tie : (j x : ℕ) (u : RegOp) → (k ≡ j → ⊥) → tiny_defined z i j ≡ Some x → n ≤ x → u' ≡ as_tiny u x → Read k u'
    of_way : (x : ℕ) (u : RegOp) → x < c + ways → n ≤ x → u' ≡ as_tiny u x → Read k u'

  abbrev besides : ℕ → Bound → Bool
  besides k b = not (passes (ties_to k) b.0)

  abbrev is_reading : RegOp → Bool
  is_reading o = not o.def && not o.undef

  reading-in : (k : ℕ) (q : Option Role) (u : RegOp) → Member (q, operands.Reg u) bs → besides k (q, operands.Reg u) ≡ true → is_reading u ≡ true → Member u (readings_besides k bs)
  reading-in k q u m far w =
      let others = filter (besides k) bs in
      filter-in is_reading u (registers (map (λ (b : Bound). b.1) others))
      (told-in as_register u (operands.Reg u) (map (λ (b : Bound). b.1) others) (map-in (λ (b : Bound). b.1) (q, operands.Reg u) others (filter-in (besides k) (q, operands.Reg u) bs m far)) refl) w

  by-turn : (k j : ℕ) (q : Option Role) (u u' : RegOp) → Member (q, operands.Reg u) bs → besides k (q, operands.Reg u) ≡ true → is_reading u' ≡ true → Turn s z i j q u u' → Read k u'
  by-turn k j q u u' m far w (kept is) = as_before u (bound-there s g c p h i mi (q, operands.Reg u) m u refl) (reading-in k q u m far (ap is_reading (sym is) ∙ w)) is
  by-turn k j q u u' m far w (tiny x own e is) = by (source s g c p h i j q u x e)
    where
      far-tie : (a : ℕ) → option_and_then tied_number q ≡ Some a → k ≡ a → ⊥
      far-tie a b e = let y : passes (ties_to k) q ≡ true = subst (λ v. passes (ties_to v) q ≡ true) (sym e) (tied-passes q a b) in cc

      by : Source s g c p h i j q u x → Read k u'
      by (definition d a) = absurd (let y : u'.def ≡ true = ap (λ (v : RegOp). v.def) is ∙ d in let y' = not-true u'.def (first_of_both (not u'.def) (not u'.undef) w) in cc)
      by (tied a d b e1) = of_tie a x u (far-tie a b) e1 (tiny-further s g c p h i j q u x (tied a d b e1)) is
      by (reading d a) = of_way x u (read-high s g c p h q u x a) (tiny-further s g c p h i j q u x (reading d a)) is

  read-of : (k : ℕ) (u' : RegOp) → Member u' (readings_besides k (bound t behind)) → Read k u'
  read-of k u' m =
      let others = filter (besides k) (bound t behind) in
      let a = filter-of is_reading u' (registers (map (λ (b : Bound). b.1) others)) m in
      let b = told-of as_register u' (map (λ (b : Bound). b.1) others) a.0 in
      let v = map-of (λ (b : Bound). b.1) b.0 others b.1 in
      let d = filter-of (besides k) v.0 (bound t behind) v.1 in
      let is : operands.Reg u' ≡ v.0.1 = sym (register-of b.0 u' b.2) ∙ v.2 in
      let y = map-of (seat s z i) v.0 (numbered 0 bs) (subst (Member v.0) (bound-is s z i (own-explicit s g c p h i mi) (last s g c p h i mi)) d.0) in
      let w = turned-from s z i y.0.0 y.0.1.0 y.0.1.1 u' (is ∙ ap (λ (x : Bound). x.1) y.2) in
      let there : Member (y.0.1.0, operands.Reg w.0) bs = subst (λ x. Member (y.0.1.0, x) bs) w.1 (numbered-of 0 bs y.0 y.1) in
      let far : besides k (y.0.1.0, operands.Reg w.0) ≡ true = subst (λ (x : Option Role). not (passes (ties_to k) x) ≡ true) (ap (λ (x : Bound). x.0) y.2) d.1 in
      by-turn k y.0.0 y.0.1.0 w.0 u' there far a.1 (subst (Turn s z i y.0.0 y.0.1.0 w.0) (sym w.2) (turn s z i y.0.0 y.0.1.0 w.0))

  -- an early definition and what is read

  early-apart : (k : ℕ) (d d' : RegOp) → register_at os k ≡ Some d → View k d' → list_any (λ u. share_a_lane (clashing_lanes t f d) (clashing_lanes t f u)) (readings_besides k bs) ≡ false → (u' : RegOp) → Read k u' → share_a_lane (clashing_lanes t g d') (clashing_lanes t g u') ≡ false
  early-apart k d d' at sees none u' reads = by sees reads
    where
      same-operand : (a b : RegOp) → Some a ≡ Some b → a ≡ b
      same-operand a b e = cc

      clear : ((l : Lane) → Member l (operand_lanes t g d') → Member l (operand_lanes t g u') → ⊥) → share_a_lane (clashing_lanes t g d') (clashing_lanes t g u') ≡ false
      clear far = none-shared (clashing_lanes t g d') (clashing_lanes t g u') (λ l m m'. far l (clash-in d' l m) (clash-in u' l m'))

      by : View k d' → Read k u' → share_a_lane (clashing_lanes t g d') (clashing_lanes t g u') ≡ false
      by (in_own o at' w is) (as_before u mu ru is') =
          let one : o ≡ d = same-operand o d (sym at' ∙ at) in
          (λ j. share_a_lane (clashing_lanes t g (is j)) (clashing_lanes t g (is' j)))
          ∙ ((λ j. share_a_lane (clashing t f g h.keeps o (class-named o (at-there k o at')) j) (clashing t f g h.keeps u (class-named u mu) j))
          ∙ subst (λ y. share_a_lane (clashing_lanes t f y) (clashing_lanes t f u) ≡ false) (sym one) (none-of (λ u. share_a_lane (clashing_lanes t f d) (clashing_lanes t f u)) (readings_besides k bs) none u ru))
      by (in_own o at' w is) (of_tie j x u far e low is') = clear (λ l m m'. old-new o (at-there k o at') x low d' u' is u is' l m m')
      by (in_own o at' w is) (of_way x u high low is') = clear (λ l m m'. old-new o (at-there k o at') x low d' u' is u is' l m m')
      by (in_new x o e low is) (as_before u mu ru is') = clear (λ l m m'. old-new u mu x low u' d' is' o is l m' m)
      by (in_new x o e low is) (of_tie j y u far e1 low' is') = clear (λ l m m'. new-new x y (λ w. far (one-tiny s g c p h i k j x e (e1 ∙ ap Some (sym w)))) d' u' o u is is' l m m')
      by (in_new x o e low is) (of_way y u high low' is') = clear (λ l m m'. new-new x y (λ one. let w = defined-low s g c p h i k x e in omega (arith, w, high, one)) d' u' o u is is' l m m')

  -- an early definition is explicit
  early-explicit : (k : ℕ) (q : Option Role) (d : RegOp) → Member (k, (q, operands.Reg d)) (numbered 0 bs) → passes is_early q ≡ true → (d.def ≡ true) × (register_at os k ≡ Some d)
  early-explicit k q d m e = go (split-number 0 (explicit_bound es (explicit_operands os)) (map (implicit_bound (implicit_roles (roles_of t i))) (implicit_registers os)) (k, (q, operands.Reg d)) m)
    where
      nothing : (k : ℕ) → 0 + k ≡ k
      nothing k = omega arith

      implicit-never : (w : Role) → q ≡ Some w → is_implicit w ≡ true → ⊥
      implicit-never w is late = let a = implicit-late w late in let b : is_early w ≡ true = sym (ap (passes is_early) is) ∙ e in cc

      go : Member (k, (q, operands.Reg d)) (numbered 0 (explicit_bound es (explicit_operands os))) ⊎ Member (q, operands.Reg d) (map (implicit_bound (implicit_roles (roles_of t i))) (implicit_registers os)) → (d.def ≡ true) × (register_at os k ≡ Some d)
      go (inl a) =
          let r = rolled s g c p h i mi in
          let role = early-role q e in
          let fits = fit-operands t f i r.effect r.known r.rolled (h.shaped i mi).operands in
          let there = numbered-of 0 (explicit_bound es (explicit_operands os)) (k, (q, operands.Reg d)) a in
          let w = fits-role t r.effect es (explicit_operands os) q (operands.Reg d) fits.1 there in
          let is : w.0 ≡ role.0 = same-role w.0 role.0 (sym w.1 ∙ role.1) in
          let def = definition-fits t r.effect w.0 d (ap is_definition_role is ∙ role.2) w.2 in
          let y = operand-at 0 es os k q (operands.Reg d) (explicit-number s z i 0 es os (last s g c p h i mi) (k, (q, operands.Reg d)) a) in
          (first_of_both d.def (not d.implicit) def, ap (register_at os) (y.1 ∙ nothing y.0) ∙ ap (λ (x : Option Operand). option_and_then as_register x) y.2)
        where
          same-role : (a b : Role) → Some a ≡ Some b → a ≡ b
          same-role a b e = cc
      go (inr a) =
          let y = map-of (implicit_bound (implicit_roles (roles_of t i))) (q, operands.Reg d) (implicit_registers os) a in
          let role = early-role q e in
          let w = find-in (takes_role y.0) (implicit_roles (roles_of t i)) role.0 (sym (ap (λ (b : Bound). b.0) y.2) ∙ role.1) in
          absurd (implicit-never role.0 role.1 (filter-of is_implicit role.0 (roles_of t i) w).1)

  early-register : (k : ℕ) (q : Option Role) (d : RegOp) → Member (k, (q, operands.Reg d)) (numbered 0 bs) → early_fits t f bs (k, (q, operands.Reg d)) ≡ true → early_fits t g (bound t behind) (k, (q, operands.Reg (seated s z i k q d))) ≡ true
  early-register k q d m w = go (passes is_early q) refl
    where
      go : (b : Bool) → passes is_early q ≡ b → early_fits t g (bound t behind) (k, (q, operands.Reg (seated s z i k q d))) ≡ true
      go false e = λ j. not (e j) || not (list_any (λ u. share_a_lane (clashing_lanes t g (seated s z i k q d)) (clashing_lanes t g u)) (readings_besides k (bound t behind)))
      go true e =
          let d' = seated s z i k q d in
          let x = early-explicit k q d m e in
          let old : not (list_any (λ u. share_a_lane (clashing_lanes t f d) (clashing_lanes t f u)) (readings_besides k bs)) ≡ true = subst (λ (b : Bool). (not b || not (list_any (λ u. share_a_lane (clashing_lanes t f d) (clashing_lanes t f u)) (readings_besides k bs))) ≡ true) e w in
          let sees = view k q d d' x.1 x.0 (turn s z i k q d) in
          let none = none-by (λ u. share_a_lane (clashing_lanes t g d') (clashing_lanes t g u)) (readings_besides k (bound t behind)) (λ u mu. early-apart k d d' x.1 sees (not-true _ old) u (read-of k u mu)) in
          (λ j. not (passes is_early q) || not (none j)) ∙ or-true (not (passes is_early q))

  early-seat : (k : ℕ) (q : Option Role) (x : Operand) → Member (k, (q, x)) (numbered 0 bs) → early_fits t f bs (k, (q, x)) ≡ true → early_fits t g (bound t behind) (k, (q, turned s z i k q x)) ≡ true
  early-seat k q (operands.Reg d) m w = early-register k q d m w
  early-seat k q x m w = refl

  abbrev with-number : ℕ × Bound → ℕ × Bound
  with-number x = (x.0, seat s z i x)

  new-early : list_all (early_fits t g (bound t behind)) (numbered 0 (bound t behind)) ≡ true
  new-early =
      let are : numbered 0 (bound t behind) ≡ map with-number (numbered 0 bs) = ap (numbered 0) (bound-is s z i (own-explicit s g c p h i mi) (last s g c p h i mi)) ∙ numbered-seats s z i 0 bs in
      ap (list_all (early_fits t g (bound t behind))) are
      ∙ all-by (early_fits t g (bound t behind)) (map with-number (numbered 0 bs)) (λ x m.
      let v = map-of with-number x (numbered 0 bs) m in
      ap (early_fits t g (bound t behind)) v.2 ∙ early-seat v.0.0 v.0.1.0 v.0.1.1 v.1 (each v.0 v.1))
    where
      each : (x : ℕ × Bound) → Member x (numbered 0 bs) → early_fits t f bs x ≡ true
      each x m = all-of (early_fits t f bs) x (numbered 0 bs) m old-early

  -- `undef` uses

  seats-any : (test : Bound → Bool) → ((k : ℕ) (q : Option Role) (x : Operand) → test (q, turned s z i k q x) ≡ test (q, x)) → (m : ℕ) (xs : List Bound) → list_any test (map (seat s z i) (numbered m xs)) ≡ list_any test xs
  seats-any test e m [] = refl
  seats-any test e m ((q, x) ∷ xs) = λ k. e m q x k || seats-any test e (suc m) xs k

  free : (k : ℕ) (q : Option Role) (x : Operand) → is_free_undef (q, turned s z i k q x) ≡ is_free_undef (q, x)
  free k q (operands.Reg o) = by (turn s z i k q o)
    where
      twice : (d u w : Bool) → ((not d && (not d && u)) && w) ≡ ((not d && u) && w)
      twice true u w = refl
      twice false u w = refl

      by : Turn s z i k q o (seated s z i k q o) → is_free_undef (q, operands.Reg (seated s z i k q o)) ≡ is_free_undef (q, operands.Reg o)
      by (kept is) = ap (λ v. is_free_undef (q, operands.Reg v)) is
      by (tiny y own e is) = ap (λ v. is_free_undef (q, operands.Reg v)) is ∙ twice o.def o.undef (is_none (option_and_then tied_number q))
  free k q x = refl

  new-undefs : undef_uses_fit opaque (bound t behind) ≡ true
  new-undefs =
      ap (undef_uses_fit opaque) (bound-is s z i (own-explicit s g c p h i mi) (last s g c p h i mi))
      ∙ ((λ k. not (opaque && seats-any is_early_definition (λ k q x. refl) 0 bs k && seats-any is_free_undef free 0 bs k)) ∙ old-undefs)

  -- no definition is `undef`

  pub none-undefined : list_any is_undef_definition (registers behind.operands) ≡ false
  none-undefined = none-by is_undef_definition (registers behind.operands) (λ o' m. let v = from-operand s g c p h i mi o' m in by v.0 v.1 v.2 o' v.3 v.4)
    where
      never : (d u : Bool) → (d && (not d && u)) ≡ false
      never true u = refl
      never false u = refl

      by : (k : ℕ) (q : Option Role) (o o' : RegOp) → Member o (registers os) → Now s g c p h i mi k q o o' → is_undef_definition o' ≡ false
      by k q o o' m (same is) = ap is_undef_definition is ∙ none-of is_undef_definition (registers os) (none-before t i (h.lowered i mi)) o m
      by k q o o' m (new x own lies is) = ap is_undef_definition is ∙ never o.def o.undef

  new-clear : list_all (undef_fits forms.Source (registers behind.operands)) (filter (λ (o : RegOp). o.def) (registers behind.operands)) ≡ true
  new-clear = all-by (undef_fits forms.Source (registers behind.operands)) (filter (λ (o : RegOp). o.def) (registers behind.operands)) (λ d m.
      let w = filter-of (λ (o : RegOp). o.def) d (registers behind.operands) m in
      let u = clear d (none-of is_undef_definition (registers behind.operands) none-undefined d w.0) w.1 in
      fits d u)
    where
      clear : (d : RegOp) → is_undef_definition d ≡ false → d.def ≡ true → d.undef ≡ false
      clear d w e = (λ k. sym e k && d.undef) ∙ w

      fits : (d : RegOp) → d.undef ≡ false → undef_fits forms.Source (registers behind.operands) d ≡ true
      fits d u = λ k. not (u k) || (is_virtual d.loc && nat_le (length (filter (λ (o : RegOp). same_loc o.loc d.loc) (namings (registers behind.operands)))) 1)

  pub twelve : V12 t forms.Source g behind ≡ true
  unfolding V12
  twelve =
      let apart = from-places (defined_lanes t g opaque) behind.operands new-places in
      λ k. new-clear k && apart k && new-early k && new-undefs k
