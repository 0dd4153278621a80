-- What rule 12 tells of definitions: they share no lane, and nothing else names the register of an `undef` one.
use Rattle.std.proofs.Common.{◌≡◌, ◌⊎◌, inl, inr, ◌∷◌, ◌∙◌, ◌&&◌, ◌||◌, not, ℕ, zero, suc, Bool, true, false, cond, List, Option, Some, None, map, filter, length, refl, sym, ap, subst, arith, []}
use Rattle.std.specs.Prelude.{nat_le}
use Rattle.std.specs.List.{cons_option, list_any}
use Rattle.std.proofs.lemmas.Bool.{leb-true}
use Rattle.target_base.specs.declared.types.Target.{Target}
use Rattle.target_base.proofs.Tests.{first_of_both, second_of_both}
use Rattle.meaning.specs.Lanes.{same_lane}
use Rattle.meaning.specs.Live.{Among}
use Rattle.meaning.specs.declared.types.Lane.{Lane}
use Rattle.meaning.specs.declared.types.Lane.TheVariants.{SlotLane, UnitLane, VirtualLane}
use Rattle.mir_func.specs.declared.func.Loc.{Loc}
use Rattle.mir_func.specs.declared.func.Loc.TheVariants.{Virtual}
use Rattle.mir_func.specs.declared.func.RegOp.{RegOp}
use Rattle.mir_func.specs.declared.func.Operand.{Operand}
use Rattle.mir_func.specs.declared.func.Operand.TheVariants as operands
use Rattle.mir_func.specs.declared.func.Instr.{Instr}
use Rattle.mir_func.specs.Value.{Function}
use Rattle.mir_func.specs.Binding.{as_register, does, is_virtual, register_at, registers, same_loc}
use Rattle.mir_meaning.specs.Registers.{is_reserved, located_lanes, operand_lanes}
use Rattle.mir_meaning.specs.Rules.{V12, defined_lanes, has_lanes, is_opaque, namings, no_two_share, share_a_lane, undef_fits}
use Rattle.mir_meaning.specs.declared.Form.TheVariants as source_form
use Rattle.instr_effects.proofs.Members.{filter-in, map-in, member-elim, member-none}
use Rattle.live_laws.proofs.Effects.Lists.{all-of, any-in}
use Rattle.lowering_laws.proofs.Found.{place, place-there, register-found, same-self}
use Rattle.lowering_laws.proofs.Seated.{register-in, register-of, register-there}
use Rattle.lowering_laws.proofs.Tied.{lane_numbers, lanes-numbered}
use Rattle.lowering_laws.proofs.Traced.{is_lane_of}

none-any : {A : Type 0} (p : A → Bool) (x : A) (xs : List A) → list_any p xs ≡ false → Among x xs → p x ≡ false
none-any p x xs e m = go (p x) refl
  where
    go : (y : Bool) → p x ≡ y → p x ≡ false
    go false g = g
    go true g = absurd (let z = any-in p x xs m g in cc)

not-true : (b : Bool) → not b ≡ true → b ≡ false
not-true true e = absurd (cc)
not-true false e = refl

few-same : {A : Type 0} (x y : A) (xs : List A) → nat_le (length xs) 1 ≡ true → Among x xs → Among y xs → x ≡ y
few-same x y [] e m k = absurd (member-none x m)
few-same x y (z ∷ []) e m k = member-elim x z [] (λ q. member-elim y z [] (λ r. q ∙ sym r) (λ j. absurd (member-none y j)) k) (λ j. absurd (member-none x j)) m
few-same x y (z ∷ w ∷ xs) e m k = absurd (let n = leb-true (suc (suc (length xs))) 1 e in omega arith)

-- lists of lanes of which no two share one

later-share : (L : RegOp → List Lane) (q : Option RegOp) (os : List RegOp) → no_two_share (map L (filter (λ (o : RegOp). o.def) (cons_option q os))) ≡ true → no_two_share (map L (filter (λ (o : RegOp). o.def) os)) ≡ true
later-share L None os e = e
later-share L (Some o) os e = go o.def e
  where
    go : (y : Bool) → no_two_share (map L (cond y (o ∷ filter (λ (o : RegOp). o.def) os) (filter (λ (o : RegOp). o.def) os))) ≡ true → no_two_share (map L (filter (λ (o : RegOp). o.def) os)) ≡ true
    go true h = second_of_both _ _ h
    go false h = h

first-shares : (L : RegOp → List Lane) (x : Operand) (os : List Operand) (d o : RegOp) → x ≡ operands.Reg d → d.def ≡ true → Among o (registers os) → o.def ≡ true → no_two_share (map L (filter (λ (o : RegOp). o.def) (registers (x ∷ os)))) ≡ true → share_a_lane (L d) (L o) ≡ false
first-shares L x os d o is def m g e =
    let rest = map L (filter (λ (o : RegOp). o.def) (registers os)) in
    let front : no_two_share (L d ∷ rest) ≡ true = subst (λ (y : Bool). no_two_share (map L (cond y (d ∷ filter (λ (o : RegOp). o.def) (registers os)) (filter (λ (o : RegOp). o.def) (registers os)))) ≡ true) def (subst (λ z. no_two_share (map L (filter (λ (o : RegOp). o.def) (registers (z ∷ os)))) ≡ true) is e) in
    none-any (share_a_lane (L d)) (L o) rest (not-true (list_any (share_a_lane (L d)) rest) (first_of_both _ _ front)) (map-in L o (filter (λ (o : RegOp). o.def) (registers os)) (filter-in (λ (o : RegOp). o.def) o (registers os) m g))

no-share :
    (L : RegOp → List Lane) (os : List Operand) → no_two_share (map L (filter (λ (o : RegOp). o.def) (registers os))) ≡ true → (n m : ℕ) (d o : RegOp) →
    register_at os n ≡ Some d → register_at os m ≡ Some o → d.def ≡ true → o.def ≡ true → (n ≡ m → ⊥) → (share_a_lane (L d) (L o) ≡ false) ⊎ (share_a_lane (L o) (L d) ≡ false)
no-share L [] e n m d o a b p q far = absurd (cc)
no-share L (x ∷ os) e zero zero d o a b p q far = absurd (far refl)
no-share L (x ∷ os) e zero (suc m) d o a b p q far = inl (first-shares L x os d o (register-of x d a) p (register-in o os (register-there os m o b)) q e)
no-share L (x ∷ os) e (suc n) zero d o a b p q far = inr (first-shares L x os o d (register-of x o b) q (register-in d os (register-there os n d a)) p e)
no-share L (x ∷ os) e (suc n) (suc m) d o a b p q far = no-share L os (later-share L (as_register x) (registers os) e) n m d o a b p q (λ z. far (ap suc z))

shared : (ls ms : List Lane) (a : Lane) → Among a ls → Among a ms → share_a_lane ls ms ≡ true
shared ls ms a m k = any-in (λ l. list_any (same_lane l) ms) a ls m (any-in (same_lane a) a ms k (same-self a))

-- a lane of a virtual register isn't reserved
lane-counts : (t : Target) (v : ℕ) (a : Lane) → is_lane_of v a ≡ true → is_reserved t a ≡ false
lane-counts t v (VirtualLane w k) e = refl
lane-counts t v (UnitLane u) e = absurd (cc)
lane-counts t v (SlotLane s k w) e = absurd (cc)

module _ (t : Target) (f : Function) where
  -- a lane that an operand with a virtual register has counts for clashes
  pub own-lane : (l : Loc) (v : ℕ) → l ≡ Virtual v → (o : RegOp) → o.loc ≡ l → (a : Lane) (k : ℕ) → place (operand_lanes t f o) a ≡ Some k → is_lane_of v a ≡ true
  own-lane l v at o is a k e = register-found v (lane_numbers t f v o.index) a k (subst (λ ls. place ls a ≡ Some k) ((λ j. located_lanes t f ((is ∙ at) j) o.index) ∙ lanes-numbered t f v o.index) e)

  counts-in : (opaque : Bool) (o : RegOp) (a : Lane) → has_lanes t f o ≡ true → Among a (operand_lanes t f o) → is_reserved t a ≡ false → Among a (defined_lanes t f opaque o)
  counts-in true o a known m r = subst (λ (y : Bool). Among a (cond y (operand_lanes t f o) [])) (sym known) m
  counts-in false o a known m r = subst (λ (y : Bool). Among a (cond y (filter (λ l. not (is_reserved t l)) (operand_lanes t f o)) [])) (sym known) (filter-in (λ l. not (is_reserved t l)) a (operand_lanes t f o) m (ap not r))

  module _ (i : Instr) (twelve : V12 t source_form.Source f i ≡ true) where
    -- two definitions at different places share no lane of a virtual register
    pub lanes-differ :
        (n m : ℕ) (d o : RegOp) → register_at i.operands n ≡ Some d → register_at i.operands m ≡ Some o → d.def ≡ true → o.def ≡ true → (n ≡ m → ⊥) → has_lanes t f d ≡ true → has_lanes t f o ≡ true →
        (v : ℕ) → d.loc ≡ Virtual v → (a : Lane) (k : ℕ) → place (operand_lanes t f d) a ≡ Some k → place (operand_lanes t f o) a ≡ None
    unfolding V12
    lanes-differ n m d o a b p q far dl ol v at l k e = go (place (operand_lanes t f o) l) refl
      where
        opaque : Bool
        opaque = does is_opaque t i

        counts : is_reserved t l ≡ false
        counts = lane-counts t v l (own-lane (Virtual v) v refl d at l k e)

        go : (z : Option ℕ) → place (operand_lanes t f o) l ≡ z → place (operand_lanes t f o) l ≡ None
        go None g = g
        go (Some j) g =
            let one : Among l (defined_lanes t f opaque d) = counts-in opaque d l dl (place-there (operand_lanes t f d) l k e).0 counts in
            let two : Among l (defined_lanes t f opaque o) = counts-in opaque o l ol (place-there (operand_lanes t f o) l j g).0 counts in
            absurd (by (no-share (defined_lanes t f opaque) i.operands (second_of_both _ _ (first_of_both _ _ (first_of_both _ _ twelve))) n m d o a b p q far) one two)
          where
            by : (share_a_lane (defined_lanes t f opaque d) (defined_lanes t f opaque o) ≡ false) ⊎ (share_a_lane (defined_lanes t f opaque o) (defined_lanes t f opaque d) ≡ false) → Among l (defined_lanes t f opaque d) → Among l (defined_lanes t f opaque o) → ⊥
            by (inl s) x y = let z = shared (defined_lanes t f opaque d) (defined_lanes t f opaque o) l x y in cc
            by (inr s) x y = let z = shared (defined_lanes t f opaque o) (defined_lanes t f opaque d) l y x in cc

    undef-rule : (d : RegOp) → Among d (registers i.operands) → d.def ≡ true → d.undef ≡ true → (is_virtual d.loc ≡ true) × (nat_le (length (filter (λ (o : RegOp). same_loc o.loc d.loc) (namings (registers i.operands)))) 1 ≡ true)
    unfolding V12
    undef-rule d m def e = go d.undef e (all-of (undef_fits source_form.Source (registers i.operands)) d (filter (λ (o : RegOp). o.def) (registers i.operands)) (filter-in (λ (o : RegOp). o.def) d (registers i.operands) m def) (first_of_both _ _ (first_of_both _ _ (first_of_both _ _ twelve))))
      where
        few : Bool
        few = nat_le (length (filter (λ (o : RegOp). same_loc o.loc d.loc) (namings (registers i.operands)))) 1

        go : (y : Bool) → y ≡ true → (not y || (is_virtual d.loc && few)) ≡ true → (is_virtual d.loc ≡ true) × (few ≡ true)
        go false e q = absurd (cc)
        go true e q = (first_of_both (is_virtual d.loc) few q, second_of_both (is_virtual d.loc) few q)

    -- an `undef` definition is virtual
    pub undef-virtual : (d : RegOp) → Among d (registers i.operands) → d.def ≡ true → d.undef ≡ true → is_virtual d.loc ≡ true
    undef-virtual d m def e = (undef-rule d m def e).0

    -- and what names its register is the definition itself
    pub named-once : (d o : RegOp) → Among d (registers i.operands) → d.def ≡ true → d.undef ≡ true → same_loc d.loc d.loc ≡ true → Among o (registers i.operands) → (o.def || not o.undef) ≡ true → same_loc o.loc d.loc ≡ true → o ≡ d
    named-once d o m def e own k names same =
        few-same o d (filter (λ (x : RegOp). same_loc x.loc d.loc) (namings (registers i.operands))) (undef-rule d m def e).1
        (filter-in (λ (x : RegOp). same_loc x.loc d.loc) o (namings (registers i.operands)) (filter-in (λ (x : RegOp). x.def || not x.undef) o (registers i.operands) k names) same)
        (filter-in (λ (x : RegOp). same_loc x.loc d.loc) d (namings (registers i.operands)) (filter-in (λ (x : RegOp). x.def || not x.undef) d (registers i.operands) m (ap (λ b. b || not d.undef) def)) own)
