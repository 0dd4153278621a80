-- The explicit definitions of an instruction: no two of them write one lane.
use Rattle.std.proofs.Common.{◌≡◌, ◌⊎◌, inl, inr, ◌≤◌, ℕ, suc, ◌+◌, Bool, true, false, cond, not, ◌&&◌, ◌||◌, List, [], ◌∷◌, Option, Some, None, map, filter, length, refl, sym, ap, ◌∙◌, subst, eq-eqb, arith}
use Rattle.std.specs.Prelude.{nat_le}
use Rattle.std.specs.List.{list_all, list_any}
use Rattle.std.proofs.lemmas.Bool.{leb-true, and_from}
use Rattle.target_base.specs.declared.types.Target.{Target}
use Rattle.target_base.specs.declared.types.IndexId.{IndexId}
use Rattle.target_base.specs.Registers.{lanes_of, units_of}
use Rattle.target_base.proofs.Tests.{first_of_both, second_of_both}
use Rattle.meaning.specs.declared.types.Lane.{Lane}
use Rattle.meaning.specs.declared.types.Lane.TheVariants.{VirtualLane, UnitLane, SlotLane}
use Rattle.meaning.specs.declared.types.Write.{Write}
use Rattle.meaning.specs.Lanes.{same_lane}
use Rattle.meaning.specs.Live.{Among as Member, here as first, there as later}
use Rattle.mir_func.specs.declared.func.Loc.{Loc}
use Rattle.mir_func.specs.declared.func.Loc.TheVariants.{Virtual, Fixed}
use Rattle.mir_func.specs.declared.func.RegOp.{RegOp}
use Rattle.mir_func.specs.declared.func.Instr.{Instr}
use Rattle.mir_func.specs.Value.{Function}
use Rattle.mir_func.specs.Binding.{Definition, bound, is_virtual, numbered, registers, same_loc, does}
use Rattle.mir_meaning.specs.declared.Form.TheVariants as forms
use Rattle.mir_meaning.specs.Registers.{numbers, range_widths, located_lanes, operand_lanes, undefined_lanes, whole_lanes, is_reserved}
use Rattle.mir_meaning.specs.Items.{computed, explicit_definitions, result_writes, results, undefined, unreserved}
use Rattle.mir_meaning.specs.Rules.{V12, clashing_lanes, early_fits, has_lanes, namings, no_two_share, share_a_lane, undef_fits, defined_lanes, is_opaque, undef_uses_fit}
use Rattle.instr_effects.proofs.Members.{member-none, member-elim, either-elim, filter-of, filter-in, map-of, map-in}
use Rattle.instr_effects.proofs.CountedParts.{filter-two}
use Rattle.instr_effects.proofs.Defined.{results-of}
use Rattle.live_laws.proofs.Effects.Lists.{any-in, all-of}

-- of what a list has twice

member-long : {X : Type 0} (x : X) (xs : List X) → Member x xs → 1 ≤ length xs
member-long x [] m = absurd (member-none x m)
member-long x (y ∷ xs) m = omega arith

filter-less : {X : Type 0} (p : X → Bool) (x : X) (xs : List X) → length (filter p xs) ≤ length (filter p (x ∷ xs))
filter-less p x xs = go (p x)
  where
    go : (b : Bool) → length (filter p xs) ≤ length (cond b (x ∷ filter p xs) (filter p xs))
    go true = omega arith
    go false = omega arith

filter-first : {X : Type 0} (p : X → Bool) (x : X) (xs : List X) → p x ≡ true → length (filter p (x ∷ xs)) ≡ suc (length (filter p xs))
filter-first p x xs e = ap (λ b. length (cond b (x ∷ filter p xs) (filter p xs))) e

-- of fewer there are fewer of a kind
filter-fewer : {X : Type 0} (p q r : X → Bool) (xs : List X) → ((x : X) → q x ≡ true → r x ≡ true) → length (filter p (filter q xs)) ≤ length (filter p (filter r xs))
filter-fewer p q r [] h = omega arith
filter-fewer p q r (x ∷ xs) h = go (q x) (r x) (p x) refl refl refl (filter-fewer p q r xs h)
  where
    go : (a b c : Bool) → q x ≡ a → r x ≡ b → p x ≡ c → length (filter p (filter q xs)) ≤ length (filter p (filter r xs)) → length (filter p (cond a (x ∷ filter q xs) (filter q xs))) ≤ length (filter p (cond b (x ∷ filter r xs) (filter r xs)))
    go false false c e f g k = k
    go false true c e f g k = let l = filter-less p x (filter r xs) in omega arith
    go true false c e f g k = absurd (let l = h x e in cc)
    go true true true e f g k = let l = filter-first p x (filter q xs) g in let m = filter-first p x (filter r xs) g in omega arith
    go true true false e f g k = let l = ap (λ b. length (cond b (x ∷ filter p (filter q xs)) (filter p (filter q xs)))) g in let m = ap (λ b. length (cond b (x ∷ filter p (filter r xs)) (filter p (filter r xs)))) g in omega arith

same-self : (l : Loc) → same_loc l l ≡ true
same-self (Virtual v) = eq-eqb v v refl
same-self (Fixed r) = eq-eqb r.0 r.0 refl

lane-same : (l : Lane) → same_lane l l ≡ true
lane-same (VirtualLane v k) = and_from _ _ (eq-eqb v v refl) (eq-eqb k k refl)
lane-same (UnitLane u) = eq-eqb u u refl
lane-same (SlotLane s k w) = and_from _ _ (eq-eqb s s refl) (and_from _ _ (eq-eqb k k refl) (eq-eqb w w refl))

-- an `undef` definition alone names its register

abbrev OneOf : List RegOp → RegOp → Type 0
OneOf ds d = d.undef ≡ true → length (filter (λ o. same_loc o.loc d.loc) ds) ≤ 1

abbrev Sole : List RegOp → Type 0
Sole [] = Unit {0}
Sole (x ∷ xs) = ((y : RegOp) → Member y xs → x.loc ≡ y.loc → (x.undef ≡ true → ⊥) × (y.undef ≡ true → ⊥)) × Sole xs

sole : (ds : List RegOp) → ((d : RegOp) → Member d ds → OneOf ds d) → Sole ds
sole [] few = tt
sole (x ∷ xs) few = (alone, sole xs (λ d m u. let h = few d (later m) u in let l = filter-less (λ o. same_loc o.loc d.loc) x xs in omega arith))
  where
    alone : (y : RegOp) → Member y xs → x.loc ≡ y.loc → (x.undef ≡ true → ⊥) × (y.undef ≡ true → ⊥)
    alone y m e = (
      (λ u.
          let h = few x first u in
          let l = filter-first (λ o. same_loc o.loc x.loc) x xs (same-self x.loc) in
          let k = member-long y (filter (λ o. same_loc o.loc x.loc) xs) (filter-in (λ o. same_loc o.loc x.loc) y xs m (subst (λ a. same_loc a x.loc ≡ true) e (same-self x.loc))) in
          omega arith),
      (λ u.
          let h = few y (later m) u in
          let l = filter-first (λ o. same_loc o.loc y.loc) x xs (subst (λ a. same_loc a y.loc ≡ true) (sym e) (same-self y.loc)) in
          let k = member-long y (filter (λ o. same_loc o.loc y.loc) xs) (filter-in (λ o. same_loc o.loc y.loc) y xs m (same-self y.loc)) in
          omega arith),
    )

module _ (t : Target) (f : Function) where
  -- the definition writes the lane
  abbrev pub Reaches : RegOp → Lane → Type 0
  Reaches o l = Member l (operand_lanes t f o) ⊎ Member l (undefined_lanes t f o)

  -- the definitions write no lane together but reserved ones
  pub record AreClear (x y : RegOp) : Type 0 where
    pub clear : (l : Lane) → is_reserved t l ≡ false → Reaches x l → Reaches y l → ⊥

  abbrev pub Clear : List RegOp → Type 0
  Clear [] = Unit {0}
  Clear (x ∷ xs) = ((y : RegOp) → Member y xs → AreClear x y) × Clear xs

  clear-filter : (p : RegOp → Bool) (ds : List RegOp) → Clear ds → Clear (filter p ds)
  clear-filter p [] c = tt
  clear-filter p (x ∷ xs) c = go (p x) (clear-filter p xs c.1)
    where
      go : (b : Bool) → Clear (filter p xs) → Clear (cond b (x ∷ filter p xs) (filter p xs))
      go true k = ((λ y m. c.0 y (filter-of p y xs m).0), k)
      go false k = k

  -- the register of a lane

  range-of : (a : Loc) (q : Option IndexId) (v k : ℕ) → Member (VirtualLane v k) (located_lanes t f a q) → a ≡ Virtual v
  range-of (Virtual w) None v k m = let z = map-of (VirtualLane w) (VirtualLane v k) (numbers 0 (length (range_widths t f w))) m in let e = z.2 in cc
  range-of (Virtual w) (Some x) v k m = let z = map-of (VirtualLane w) (VirtualLane v k) (lanes_of t x) m in let e = z.2 in cc
  range-of (Fixed r) q v k m = let z = map-of (λ u. UnitLane u.0) (VirtualLane v k) (units_of t r) m in let e = z.2 in absurd (cc)

  abbrev Whole : Loc → Lane → Type 0
  Whole a l = (v : ℕ) × (k : ℕ) × (a ≡ Virtual v) × (l ≡ VirtualLane v k)

  whole-of : (a : Loc) (l : Lane) → Member l (whole_lanes t f a) → Whole a l
  whole-of (Virtual v) l m = let z = map-of (VirtualLane v) l (numbers 0 (length (range_widths t f v))) m in (v, z.0, refl, z.2)
  whole-of (Fixed r) l m = absurd (member-none l m)

  undefined-of : (o : RegOp) (l : Lane) → Member l (undefined_lanes t f o) → (o.undef ≡ true) × Whole o.loc l
  undefined-of o l m = go o.def o.undef refl m
    where
      go : (d u : Bool) → o.undef ≡ u → Member l (cond (d && u) (whole_lanes t f o.loc) []) → (o.undef ≡ true) × Whole o.loc l
      go true true e k = (e, whole-of o.loc l k)
      go true false e k = absurd (member-none l k)
      go false u e k = absurd (member-none l k)

  -- a lane of one that an `undef` one makes undefined is of its register
  same-register : (x y : RegOp) (l : Lane) → Reaches x l → Member l (undefined_lanes t f y) → x.loc ≡ y.loc
  same-register x y l (inl a) b =
      let z = (undefined-of y l b).1 in
      range-of x.loc x.index z.0 z.1 (subst (λ k. Member k (operand_lanes t f x)) z.3 a) ∙ sym z.2
  same-register x y l (inr a) b =
      let z = (undefined-of y l b).1 in
      let w = (undefined-of x l a).1 in
      w.2 ∙ one w.0 z.0 w.1 z.1 (sym w.3 ∙ z.3) ∙ sym z.2
    where
      one : (v w k j : ℕ) → VirtualLane v k ≡ VirtualLane w j → Virtual v ≡ Virtual w
      one v w k j e = cc

  share-in : (l : Lane) (ls ms : List Lane) → Member l ls → Member l ms → share_a_lane ls ms ≡ true
  share-in l ls ms a b = any-in (λ k. list_any (same_lane k) ms) l ls a (any-in (same_lane l) l ms b (lane-same l))

  clashing-in : (o : RegOp) (l : Lane) → has_lanes t f o ≡ true → is_reserved t l ≡ false → Member l (operand_lanes t f o) → Member l (clashing_lanes t f o)
  clashing-in o l h e m = subst (λ b. Member l (cond b (unreserved t (operand_lanes t f o)) [])) (sym h) (filter-in (λ k. not (is_reserved t k)) l (operand_lanes t f o) m (ap not e))

  defined-in : (opaque : Bool) (o : RegOp) (l : Lane) → has_lanes t f o ≡ true → is_reserved t l ≡ false → Member l (operand_lanes t f o) → Member l (defined_lanes t f opaque o)
  defined-in true o l h e m = subst (λ b. Member l (cond b (operand_lanes t f o) [])) (sym h) m
  defined-in false o l h e m = clashing-in o l h e m

  clear-by : (opaque : Bool) (ds : List RegOp) → ((d : RegOp) → Member d ds → has_lanes t f d ≡ true) → no_two_share (map (defined_lanes t f opaque) ds) ≡ true → Sole ds → Clear ds
  clear-by opaque [] lanes h s = tt
  clear-by opaque (x ∷ xs) lanes h s = ((λ y m. record { clear = λ l e a b. pair y m l e a b }), clear-by opaque xs (λ d m. lanes d (later m)) (second_of_both (not (list_any (share_a_lane (defined_lanes t f opaque x)) (map (defined_lanes t f opaque) xs))) (no_two_share (map (defined_lanes t f opaque) xs)) h) s.1)
    where
      pair : (y : RegOp) → Member y xs → (l : Lane) → is_reserved t l ≡ false → Reaches x l → Reaches y l → ⊥
      pair y m l e (inl a) (inl b) =
          let shared = share-in l (defined_lanes t f opaque x) (defined_lanes t f opaque y) (defined-in opaque x l (lanes x first) e a) (defined-in opaque y l (lanes y (later m)) e b) in
          let there = any-in (share_a_lane (defined_lanes t f opaque x)) (defined_lanes t f opaque y) (map (defined_lanes t f opaque) xs) (map-in (defined_lanes t f opaque) y xs m) shared in
          let none = first_of_both (not (list_any (share_a_lane (defined_lanes t f opaque x)) (map (defined_lanes t f opaque) xs))) (no_two_share (map (defined_lanes t f opaque) xs)) h in
          let no : not (list_any (share_a_lane (defined_lanes t f opaque x)) (map (defined_lanes t f opaque) xs)) ≡ false = ap not there in
          cc
      pair y m l e a (inr b) = (s.0 y m (same-register x y l a b)).1 (undefined-of y l b).0
      pair y m l e (inr a) b = (s.0 y m (sym (same-register y x l b a))).0 (undefined-of x l a).0

  -- of an instruction that meets the rules

  one-of : (os : List RegOp) (d : RegOp) → undef_fits forms.Source os d ≡ true → OneOf (filter (λ o. o.def) os) d
  one-of os d h u =
      let few = leb-true _ _ (second_of_both (is_virtual d.loc) (nat_le (length (filter (λ o. same_loc o.loc d.loc) (namings os))) 1) (go d.undef u h)) in
      let less = filter-fewer (λ (o : RegOp). same_loc o.loc d.loc) (λ (o : RegOp). o.def) (λ (o : RegOp). o.def || not o.undef) os (λ o e. ap (λ b. b || not o.undef) e) in
      omega arith
    where
      go : (b : Bool) → b ≡ true → (not b || (is_virtual d.loc && nat_le (length (filter (λ o. same_loc o.loc d.loc) (namings os))) 1)) ≡ true → (is_virtual d.loc && nat_le (length (filter (λ o. same_loc o.loc d.loc) (namings os))) 1) ≡ true
      go true e g = g
      go false e g = absurd (cc)

  pub definitions-clear : (i : Instr) → ((o : RegOp) → Member o (registers i.operands) → has_lanes t f o ≡ true) → V12 t forms.Source f i ≡ true → Clear (explicit_definitions i.operands)
  unfolding V12
  definitions-clear i lanes h =
      let os = registers i.operands in
      let ds = filter (λ (o : RegOp). o.def) os in
      let undefs = list_all (undef_fits forms.Source os) ds in
      let opaque = does is_opaque t i in
      let apart = no_two_share (map (defined_lanes t f opaque) ds) in
      let early = list_all (early_fits t f (bound t i)) (numbered 0 (bound t i)) in
      let both = first_of_both (undefs && apart) early (first_of_both (undefs && apart && early) (undef_uses_fit opaque (bound t i)) h) in
      let all = clear-by opaque ds (λ d m. lanes d (filter-of (λ o. o.def) d os m).0) (second_of_both undefs apart both)
      (sole ds (λ d m. one-of os d (all-of (undef_fits forms.Source os) d ds m (first_of_both undefs apart both)))) in
      subst (λ xs. Clear xs) (filter-two (λ (o : RegOp). not o.implicit) (λ (o : RegOp). o.def) os) (clear-filter (λ o. not o.implicit) ds all)

  -- of what they write

  computed-lane : (early : Bool) (n : ℕ) (w : Write) (ls : List Lane) → Member w (computed early n ls) → Member w.lane ls × (w.early ≡ early)
  computed-lane early n w [] m = absurd (member-none w m)
  computed-lane early n w (l ∷ ls) m =
      member-elim w _ (computed early (suc n) ls) (λ e. (subst (λ x. Member x (l ∷ ls)) (sym (ap (λ v. v.lane) e)) first, ap (λ v. v.early) e))
      (λ j. let z = computed-lane early (suc n) w ls j in (later z.0, z.1)) m

  -- a write of a definition is of a lane that it writes, and early as it is
  pub result-reaches : (early : Bool) (n : ℕ) (d : RegOp) (w : Write) → Member w (result_writes t f early n d) → Reaches d w.lane × (w.early ≡ early)
  result-reaches early n d w m =
      either-elim w (computed early n (operand_lanes t f d)) (undefined early (undefined_lanes t f d))
      (λ j. let z = computed-lane early n w (operand_lanes t f d) j in (inl z.0, z.1))
      (λ j. let z = map-of _ w (undefined_lanes t f d) j in (inr (subst (λ x. Member x (undefined_lanes t f d)) (sym (ap (λ v. v.lane) z.2)) z.1), ap (λ v. v.early) z.2)) m

  -- two writes of a lane are both early, or neither is
  pub results-agree : (n : ℕ) (ds : List Definition) → Clear (map (λ d. d.1) ds) → (v w : Write) → Member v (results t f n ds) → Member w (results t f n ds) → v.lane ≡ w.lane → is_reserved t v.lane ≡ false → v.early ≡ w.early
  results-agree n [] c v w a b e r = absurd (member-none v a)
  results-agree n (d ∷ ds) c v w a b e r =
      either-elim v A B
      (λ j. either-elim w A B (λ k. (result-reaches d.0 n d.1 v j).1 ∙ sym (result-reaches d.0 n d.1 w k).1) (λ k. absurd (apart w v k j r (sym e))) b)
      (λ j. either-elim w A B (λ k. absurd (apart v w j k (subst (λ x. is_reserved t x ≡ false) e r) e)) (λ k. results-agree (n + length (operand_lanes t f d.1)) ds c.1 v w j k e r) b) a
    where
      A : List Write
      A = result_writes t f d.0 n d.1

      B : List Write
      B = results t f (n + length (operand_lanes t f d.1)) ds

      apart : (x y : Write) → Member x B → Member y A → is_reserved t y.lane ≡ false → x.lane ≡ y.lane → ⊥
      apart x y j k q g =
          let z = results-of t f (n + length (operand_lanes t f d.1)) ds x j in
          (c.0 z.0.1 (map-in (λ b. b.1) z.0 ds z.2)).clear y.lane q (result-reaches d.0 n d.1 y k).0 (subst (Reaches z.0.1) g (result-reaches z.0.0 z.1 z.0.1 x z.3).0)
