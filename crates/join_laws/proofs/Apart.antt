-- Definitions are apart from each other and, where they are early, from uses after a quiet join.
use Rattle.std.proofs.Common.{◌≡◌, ◌∷◌, ◌++◌, ◌∙◌, ◌&&◌, ◌||◌, ◌⊎◌, inl, inr, not, ℕ, zero, suc, Bool, true, false, cond, List, [], Option, Some, None, map, filter, length, refl, sym, ap, subst}
use Rattle.std.specs.Prelude.{nat_eq, nat_le}
use Rattle.std.specs.List.{list_all, list_any}
use Rattle.std.proofs.lemmas.Bool.{not-true}
use Rattle.target_base.specs.declared.types.Effect.{Effect}
use Rattle.target_base.specs.declared.types.Role.{Role}
use Rattle.target_base.specs.declared.types.Role.TheVariants as roles
use Rattle.target_base.specs.declared.types.Target.{Target}
use Rattle.target_base.specs.declared.types.Unit.{Unit as UnitNumber}
use Rattle.target_base.specs.Registers.{units_of}
use Rattle.target_base.specs.Roles.{is_silent}
use Rattle.target_base.specs.Rules.{is_phi}
use Rattle.target_base.proofs.Tests.{first_of_both, second_of_both}
use Rattle.meaning.specs.Code.{Code, Silent}
use Rattle.meaning.specs.Fold.{Quiet, QuietAt}
use Rattle.meaning.specs.Lanes.{same_lane}
use Rattle.meaning.specs.Live.{Among as Member, here as first, there as later, read}
use Rattle.meaning.specs.declared.types.Lane.{Lane}
use Rattle.meaning.specs.declared.types.Lane.TheVariants.{SlotLane, UnitLane, VirtualLane}
use Rattle.mir_func.specs.declared.func.Loc.{Loc}
use Rattle.mir_func.specs.declared.func.Loc.TheVariants.{Fixed, Virtual}
use Rattle.mir_func.specs.declared.func.RegOp.{RegOp}
use Rattle.mir_func.specs.declared.func.Operand.{Operand}
use Rattle.mir_func.specs.declared.func.Operand.TheVariants as operands
use Rattle.mir_func.specs.declared.func.Instr.{Instr}
use Rattle.mir_func.specs.declared.func.Block.{Block}
use Rattle.mir_func.specs.Value.{Function}
use Rattle.mir_func.specs.Binding.{Bound, as_register, bound, does, effect_of, explicit_bound, explicit_operands, explicit_roles, is_definition, is_early, is_lowered_away, is_virtual, numbered, passes, register_at, registers, roles_of, same_loc, takes_many, ties_to}
use Rattle.mir_meaning.specs.Codes.{block_end, blocks_code, item_of}
use Rattle.mir_meaning.specs.Items.{defined_undef, unreserved}
use Rattle.mir_meaning.specs.Points.{point_item, points_of}
use Rattle.mir_meaning.specs.Registers.{is_reserved, located_lanes, operand_lanes}
use Rattle.mir_meaning.specs.Renaming.{IsFixed, renamed_operand}
use Rattle.mir_meaning.specs.declared.Form.TheVariants as forms
use Rattle.mir_meaning.specs.Rules.{V12, clashing_lanes, defined_lanes, early_fits, explicit_fit, fits_at, has_lanes, is_early_definition, is_free_undef, is_opaque, namings, no_two_share, readings, readings_besides, share_a_lane, undef_fits, undef_uses_fit}
use Rattle.instr_effects.proofs.Members.{filter-of, map-of, member-elim, member-none}
use Rattle.live_laws.specs.Effects.Shaped.{IsShaped}
use Rattle.live_laws.proofs.Effects.Lists.{all-of}
use Rattle.live_laws.proofs.Touch.Roles.{fit, has_roles, met}
use Rattle.lowering_laws.specs.Shapes.{IsLowered}
use Rattle.lowering_laws.proofs.Formed.{none-by}
use Rattle.lowering_laws.proofs.Found.{same-is, same-self}
use Rattle.lowering_laws.proofs.Rolled.{bare-roles}
use Rattle.lowering_laws.proofs.Seated.{register-in, register-of, register-there, told-of}
use Rattle.lowering_laws.proofs.SharedLanes.{AtPlaces, apart-lanes, from-places, none-shared, to-places}
use Rattle.live_edits.specs.declared.fold.Join.{Join}
use Rattle.live_edits.specs.Folded.{folded, image, joined_instr, joined_operand, lane_within}
use Rattle.join_laws.specs.Laws.{HasPlainUndefs}
use Rattle.join_laws.specs.Quiet.{IsQuiet}
use Rattle.join_laws.proofs.Asked.{IsAsked}
use Rattle.join_laws.proofs.Named.{known, named, none-is, not-phi}
use Rattle.join_laws.proofs.Operands.{IsNamed, field-stays, had-lanes, has-lanes, map-map, renames}
use Rattle.join_laws.proofs.Rules.{all-more, any-map, bound-in, bound-same, defs, filter-map, move-bound, regs}
use Rattle.join_laws.proofs.Silent.{AreFew, early-explicit, few, no-use-beside, none-early, one-definition}
use Rattle.join_laws.proofs.Written.{counted-item, definition-written, early-written, use-read}

-- quietness at an instruction

module _ (t : Target) (f : Function) (m : Lane → Lane) where
  abbrev R : Lane → Bool
  R = is_reserved t

  abbrev C : Code
  C = points_of t f

  abbrev QuietIn : Block → Instr → Type 0
  QuietIn b i = (p : Code) × QuietAt R C m (point_item t f b i) p

  behind-items : (b : Block) (is : List Instr) (p : Code) → Quiet R C m (map (point_item t f b) is ++ p) → Quiet R C m p
  behind-items b [] p q = q
  behind-items b (i ∷ is) p q = behind-items b is p q.1

  in-items : (b : Block) (is : List Instr) (p : Code) → Quiet R C m (map (point_item t f b) is ++ p) → (i : Instr) → Member i is → QuietIn b i
  in-items b [] p q i n = absurd (member-none i n)
  in-items b (x ∷ is) p q i n = member-elim i x is (λ e. subst (QuietIn b) (sym e) (map (point_item t f b) is ++ p, q.0)) (λ k. in-items b is p q.1 i k) n

  in-blocks : (bs : List Block) → Quiet R C m (blocks_code (point_item t f) t f bs) → (b : Block) (i : Instr) → Member b bs → Member i b.instrs → QuietIn b i
  in-blocks [] q b i mb mi = absurd (member-none b mb)
  in-blocks (c ∷ bs) q b i mb mi =
      let rest = block_end t f c bs ∷ blocks_code (point_item t f) t f bs in
      member-elim b c bs
      (λ e. subst (λ (d : Block). QuietIn d i) (sym e) (in-items c c.instrs rest q.1 i (subst (λ (d : Block). Member i d.instrs) e mi)))
      (λ k. in-blocks bs (behind-items c c.instrs rest q.1).1 b i k mi) mb

  quiet-in : Quiet R C m C → (b : Block) (i : Instr) → Member b f.blocks → Member i b.instrs → QuietIn b i
  unfolding points_of
  quiet-in q b i mb mi = in-blocks f.blocks q b i mb mi

as-item : (t : Target) (f : Function) (b : Block) (i : Instr) → does is_phi t i ≡ false → point_item t f b i ≡ item_of t f b i
unfolding point_item
as-item t f b i e = ap (λ c. cond c (Silent [] (defined_undef t f i.operands)) (item_of t f b i)) e

-- two lanes with one image are lanes of virtual registers

abbrev IsRange : Lane → Type 0
IsRange (VirtualLane v k) = Unit {0}
IsRange (UnitLane u) = ⊥
IsRange (SlotLane s k w) = ⊥

differ-not : (l k : Lane) → l ≡ k → same_lane l k ≡ false → ⊥
differ-not l k e d = let z : same_lane l k ≡ true = subst (λ x. same_lane l x ≡ true) e (same-self l) in cc

same-turned : (l k : Lane) → same_lane l k ≡ false → same_lane k l ≡ false
same-turned l k d = go (same_lane k l) refl
  where
    go : (u : Bool) → same_lane k l ≡ u → u ≡ false
    go false e = refl
    go true e = absurd (differ-not l k (sym (same-is k l e)) d)

module _ (t : Target) (j : Join) where
  abbrev im : Lane → Lane
  im = image t j

  image-range : (v k : ℕ) → IsRange (im (VirtualLane v k))
  image-range v k = go (nat_eq v j.gone)
    where
      go : (u : Bool) → IsRange (cond u (VirtualLane j.keep (lane_within t j.index k)) (VirtualLane v k))
      go true = tt
      go false = tt

  both-ranges : (l k : Lane) → im l ≡ im k → same_lane l k ≡ false → IsRange l × IsRange k
  both-ranges (VirtualLane v x) (VirtualLane w y) e d = (tt, tt)
  both-ranges (VirtualLane v x) (UnitLane u) e d = absurd (subst IsRange e (image-range v x))
  both-ranges (VirtualLane v x) (SlotLane s y z) e d = absurd (subst IsRange e (image-range v x))
  both-ranges (UnitLane u) (VirtualLane w y) e d = absurd (subst IsRange (sym e) (image-range w y))
  both-ranges (SlotLane s x z) (VirtualLane w y) e d = absurd (subst IsRange (sym e) (image-range w y))
  both-ranges (UnitLane u) (UnitLane w) e d = absurd (differ-not (UnitLane u) (UnitLane w) e d)
  both-ranges (UnitLane u) (SlotLane s y z) e d = absurd (differ-not (UnitLane u) (SlotLane s y z) e d)
  both-ranges (SlotLane s x z) (UnitLane u) e d = absurd (differ-not (SlotLane s x z) (UnitLane u) e d)
  both-ranges (SlotLane s x z) (SlotLane r y w) e d = absurd (differ-not (SlotLane s x z) (SlotLane r y w) e d)

  not-reserved : (l : Lane) → IsRange l → is_reserved t l ≡ false
  not-reserved (VirtualLane v k) h = refl
  not-reserved (UnitLane u) h = absurd h
  not-reserved (SlotLane s k w) h = absurd h

  free-stays : (l : Lane) → not (is_reserved t (im l)) ≡ not (is_reserved t l)
  free-stays (VirtualLane v k) = go (nat_eq v j.gone)
    where
      go : (u : Bool) → not (is_reserved t (cond u (VirtualLane j.keep (lane_within t j.index k)) (VirtualLane v k))) ≡ true
      go true = refl
      go false = refl
  free-stays (UnitLane u) = refl
  free-stays (SlotLane s k w) = refl

-- a lane of a range is no unit's
range-explicit : (t : Target) (f : Function) (o : RegOp) (l : Lane) → (o.implicit ≡ true → IsFixed o.loc) → Member l (operand_lanes t f o) → IsRange l → o.implicit ≡ false
range-explicit t f o l fixed m h = go o.implicit refl
  where
    at : (c : Loc) → IsFixed c → Member l (located_lanes t f c o.index) → ⊥
    at (Virtual v) k n = k
    at (Fixed q) k n = let z = map-of (λ (u : UnitNumber). UnitLane u.0) l (units_of t q) n in subst IsRange z.2 h

    go : (u : Bool) → o.implicit ≡ u → u ≡ false
    go false e = refl
    go true e = absurd (at o.loc (fixed e) m)

-- an explicit operand fits its role
fit-of : (t : Target) (e : Effect) (rs : List Role) (os : List Operand) → explicit_fit t e rs os ≡ true → (r : Role) (x : Operand) → Member (Some r, x) (explicit_bound rs os) → fits_at t e r x ≡ true
fit-of t e rs [] w r x m = absurd (member-none (Some r, x) m)
fit-of t e [] (y ∷ os) w r x m = absurd (cc)
fit-of t e (s ∷ rs) (y ∷ os) w r x m =
    let rest = cond (takes_many s) (s ∷ rs) rs in
    member-elim (Some r, x) (Some s, y) (explicit_bound rest os)
    (λ q. (λ k. fits_at t e (same r s (ap (λ (b : Bound). b.0) q) k) (ap (λ (b : Bound). b.1) q k)) ∙ first_of_both (fits_at t e s y) (explicit_fit t e rest os) w)
    (λ k. fit-of t e rest os (second_of_both (fits_at t e s y) (explicit_fit t e rest os) w) r x k) m
  where
    same : (a b : Role) → Some a ≡ Some b → a ≡ b
    same a b e = cc

early-defines : (t : Target) (e : Effect) (q : Option Role) (d : RegOp) → passes is_early q ≡ true → ((r : Role) → q ≡ Some r → fits_at t e r (operands.Reg d) ≡ true) → is_definition d ≡ true
early-defines t e None d p h = absurd (cc)
early-defines t e (Some (roles.Early k)) d p h = go (is_definition d) (is_opaque e) (h (roles.Early k) refl)
  where
    go : (u v : Bool) → (u || (v && false)) ≡ true → u ≡ true
    go true v z = refl
    go false true z = absurd (cc)
    go false false z = absurd (cc)
early-defines t e (Some r) d p h = absurd (cc)

numbered-map : {A B : Type 0} (h : A → B) (n : ℕ) (xs : List A) → numbered n (map h xs) ≡ map (λ p. (p.0, h p.1)) (numbered n xs)
numbered-map h n [] = refl
numbered-map h n (x ∷ xs) = ap (λ ys. (n, h x) ∷ ys) (numbered-map h (suc n) xs)

numbered-in : {X : Type 0} (n : ℕ) (xs : List X) (x : ℕ × X) → Member x (numbered n xs) → Member x.1 xs
numbered-in n [] x m = absurd (member-none x m)
numbered-in n (y ∷ xs) x m = member-elim x (n, y) (numbered (suc n) xs) (λ e. subst (λ z. Member z (y ∷ xs)) (sym (ap (λ z. z.1) e)) first) (λ k. later (numbered-in (suc n) xs x k)) m

map-cond : {A B : Type 0} (h : A → B) (b : Bool) (xs : List A) → cond b (map h xs) [] ≡ map h (cond b xs [])
map-cond h true xs = refl
map-cond h false xs = refl

kept-in : {X : Type 0} (p : X → Bool) (x : X) (xs : List X) (u : Bool) → Member x (cond u (filter p xs) []) → Member x xs
kept-in p x xs true m = (filter-of p x xs m).0
kept-in p x xs false m = absurd (member-none x m)

chosen-in : {X : Type 0} (x : X) (xs : List X) (u : Bool) → Member x (cond u xs []) → Member x xs
chosen-in x xs true m = m
chosen-in x xs false m = absurd (member-none x m)

module _ (t : Target) (f : Function) (j : Join) (a : IsAsked t f j) (low : IsLowered t f) (plain : HasPlainUndefs t f) (quiet : IsQuiet t f j) (b : Block) (i : Instr) (mb : Member b f.blocks) (mi : Member i b.instrs) where
  abbrev g : Function
  g = folded t j f

  abbrev r : RegOp → RegOp
  r = joined_operand t j

  abbrev x : Instr
  x = joined_instr t j i

  abbrev m : Lane → Lane
  m = image t j

  shaped : IsShaped t f i
  shaped = low.rules.shaped b i mb mi

  effect : ((e : Effect) × (effect_of t i ≡ Some e)) × (does is_lowered_away t i ≡ false)
  effect = known t i (low.lowered b i mb mi)

  abbrev e : Effect
  e = effect.0.0

  is-effect : effect_of t i ≡ Some e
  is-effect = effect.0.1

  away : is_lowered_away e ≡ false
  away = sym (ap (passes is_lowered_away) is-effect) ∙ effect.1

  each-named : (o : RegOp) → Member o (registers i.operands) → IsNamed t f j o
  each-named o n = named t f j a low plain b i mb mi o n

  few-named : is_silent e ≡ true → AreFew t i
  few-named s = few t f i e is-effect s away shaped.operands

  -- the item of a counted instruction is quiet
  quiet-item : is_silent e ≡ false → (p : Code) × QuietAt (is_reserved t) (points_of t f) m (item_of t f b i) p
  quiet-item s =
      let z = quiet-in t f m quiet b i mb mi in
      (z.0, subst (λ y. QuietAt (is_reserved t) (points_of t f) m y z.0) (as-item t f b i (not-phi t i effect.1).0) z.1)

  -- two definitions don't come to one lane
  no-two-written : is_silent e ≡ false → (d c : RegOp) → Member d (registers i.operands) → Member c (registers i.operands) → d.def ≡ true → c.def ≡ true
      → (l k : Lane) → Member l (operand_lanes t f d) → Member k (operand_lanes t f c) → m l ≡ m k → same_lane l k ≡ false → ⊥
  no-two-written s d c md mc dd dc l k ml mk same differ =
      let ranges = both-ranges t j l k same differ in
      let one = definition-written t f i e d md dd (range-explicit t f d l (each-named d md).fixed ml ranges.0) l ml in
      let two = definition-written t f i e c mc dc (range-explicit t f c k (each-named c mc).fixed mk ranges.1) k mk in
      let q = quiet-item s in
      let at = subst (λ y. QuietAt (is_reserved t) (points_of t f) m y q.0) (counted-item t f b i e is-effect s) q.1 in
      (at two.1.write two.1.there (two.1.fresh m) l (same ∙ ap m (sym two.1.lane)) (subst (λ y. same_lane l y ≡ false) (sym two.1.lane) differ)).1 one.1.write one.1.there one.1.lane

  -- nor do an early definition and a use
  not-early-read : is_silent e ≡ false → (q : Option Role) (d u : RegOp) → Member (q, operands.Reg d) (bound t i) → passes is_early q ≡ true → is_definition d ≡ true
      → Member d (registers i.operands) → Member u (registers i.operands) → u.def ≡ false → u.undef ≡ false
      → (l k : Lane) → Member l (operand_lanes t f d) → Member k (operand_lanes t f u) → m l ≡ m k → same_lane l k ≡ false → ⊥
  not-early-read s q d u mq early def md mu ud uu l k ml mk same differ =
      let ranges = both-ranges t j l k same differ in
      let one = early-written t f i e q d (early-explicit t i (q, operands.Reg d) mq early) early def l ml in
      let two = use-read t f i e u mu ud (range-explicit t f u k (each-named u mu).fixed mk ranges.1) uu k mk in
      let z = quiet-item s in
      let at = subst (λ y. QuietAt (is_reserved t) (points_of t f) m y z.0) (counted-item t f b i e is-effect s) z.1 in
      (at one.write one.there (one.fresh m) k (sym same ∙ ap m (sym one.lane)) (subst (λ y. same_lane k y ≡ false) (sym one.lane) (same-turned l k differ))).2 one.when (read two.0 two.1 (not-reserved t j k ranges.1))

  -- lanes of operands

  clashing-stay : (o : RegOp) → IsNamed t f j o → clashing_lanes t g (r o) ≡ map m (clashing_lanes t f o)
  clashing-stay o n =
      (λ k. cond ((has-lanes t f j a o n ∙ sym (had-lanes t f j a o n)) k) (unreserved t ((renames t f j a o n).lanes k)) [])
      ∙ (ap (λ ls. cond (has_lanes t f o) ls []) (filter-map (λ l. not (is_reserved t l)) (λ l. not (is_reserved t l)) m (free-stays t j) (operand_lanes t f o)) ∙ map-cond m (has_lanes t f o) (unreserved t (operand_lanes t f o)))

  defined-stay : (u : Bool) (o : RegOp) → IsNamed t f j o → defined_lanes t g u (r o) ≡ map m (defined_lanes t f u o)
  defined-stay true o n = (λ k. cond ((has-lanes t f j a o n ∙ sym (had-lanes t f j a o n)) k) ((renames t f j a o n).lanes k) []) ∙ map-cond m (has_lanes t f o) (operand_lanes t f o)
  defined-stay false o n = clashing-stay o n

  clashing-in : (o : RegOp) (l : Lane) → Member l (clashing_lanes t f o) → Member l (operand_lanes t f o)
  clashing-in o l n = kept-in (λ l. not (is_reserved t l)) l (operand_lanes t f o) (has_lanes t f o) n

  defined-in : (u : Bool) (o : RegOp) (l : Lane) → Member l (defined_lanes t f u o) → Member l (operand_lanes t f o)
  defined-in true o l n = chosen-in l (operand_lanes t f o) (has_lanes t f o) n
  defined-in false o l n = clashing-in o l n

  -- lists of lanes that share none, and of which no two lanes have one image, share no image
  images-apart : (ls ks : List Lane) → share_a_lane ls ks ≡ false → ((l k : Lane) → Member l ls → Member k ks → m l ≡ m k → same_lane l k ≡ false → ⊥) → share_a_lane (map m ls) (map m ks) ≡ false
  images-apart ls ks apart h = none-shared (map m ls) (map m ks) (λ y p q.
      let l = map-of m y ls p in
      let k = map-of m y ks q in
      go l.0 k.0 l.1 k.1 (sym l.2 ∙ k.2) (same_lane l.0 k.0) refl)
    where
      go : (l k : Lane) → Member l ls → Member k ks → m l ≡ m k → (u : Bool) → same_lane l k ≡ u → ⊥
      go l k p q e true d = apart-lanes ls ks apart l p (subst (λ y. Member y ks) (sym (same-is l k d)) q)
      go l k p q e false d = h l k p q e d

  -- definitions

  abbrev opaque : Bool
  opaque = does is_opaque t i

  register-moved : (os : List Operand) (p : ℕ) (d : RegOp) → register_at (map (renamed_operand r) os) p ≡ Some d → (c : RegOp) × (register_at os p ≡ Some c) × (d ≡ r c)
  register-moved [] p d h = absurd (cc)
  register-moved (operands.Reg c ∷ os) zero d h = (c, refl, let z : r c ≡ d = cc in sym z)
  register-moved (operands.Imm z ∷ os) zero d h = absurd (cc)
  register-moved (operands.Block z ∷ os) zero d h = absurd (cc)
  register-moved (operands.Stack z ∷ os) zero d h = absurd (cc)
  register-moved (operands.FixedStack z ∷ os) zero d h = absurd (cc)
  register-moved (operands.Symbol z ∷ os) zero d h = absurd (cc)
  register-moved (operands.Index z ∷ os) zero d h = absurd (cc)
  register-moved (operands.Mask z ∷ os) zero d h = absurd (cc)
  register-moved (o ∷ os) (suc p) d h = register-moved os p d h

  abbrev part-two : Bool
  part-two = no_two_share (map (defined_lanes t f opaque) (filter (λ (o : RegOp). o.def) (registers i.operands)))

  abbrev part-one : Bool
  part-one = list_all (undef_fits forms.Source (registers i.operands)) (filter (λ (o : RegOp). o.def) (registers i.operands))

  abbrev part-three : Bool
  part-three = list_all (early_fits t f (bound t i)) (numbered 0 (bound t i))

  abbrev part-four : Bool
  part-four = undef_uses_fit opaque (bound t i)

  parts : (part-one && part-two && part-three && part-four) ≡ true
  unfolding V12
  parts = shaped.definitions

  def-of : (d : RegOp) → (r d).def ≡ true → d.def ≡ true
  def-of d h = sym (field-stays t f j a (λ (p : RegOp). p.def) d refl) ∙ h

  pub apart-after : no_two_share (map (defined_lanes t g opaque) (filter (λ (o : RegOp). o.def) (registers x.operands))) ≡ true
  apart-after = go (is_silent e) refl
    where
      L : RegOp → List Lane
      L = defined_lanes t f opaque

      were : no_two_share (map (defined_lanes t f opaque) (filter (λ (o : RegOp). o.def) (registers i.operands))) ≡ true
      were = second_of_both part-one part-two (first_of_both (part-one && part-two) part-three (first_of_both (part-one && part-two && part-three) part-four parts))

      at-places : is_silent e ≡ false → AtPlaces (defined_lanes t g opaque) x.operands
      at-places s p q d' c' lt hd hc dd dc =
          let d = register-moved i.operands p d' hd in
          let c = register-moved i.operands q c' hc in
          let md = register-in d.0 i.operands (register-there i.operands p d.0 d.1) in
          let mc = register-in c.0 i.operands (register-there i.operands q c.0 c.1) in
          let xd = def-of d.0 (ap (λ (y : RegOp). y.def) (sym d.2) ∙ dd) in
          let xc = def-of c.0 (ap (λ (y : RegOp). y.def) (sym c.2) ∙ dc) in
          let apart = to-places (defined_lanes t f opaque) i.operands were p q d.0 c.0 lt d.1 c.1 xd xc in
          (λ k. share_a_lane ((ap (defined_lanes t g opaque) d.2 ∙ defined-stay opaque d.0 (each-named d.0 md)) k) ((ap (defined_lanes t g opaque) c.2 ∙ defined-stay opaque c.0 (each-named c.0 mc)) k))
          ∙ images-apart (defined_lanes t f opaque d.0) (defined_lanes t f opaque c.0) apart (λ l k ml mk. no-two-written s d.0 c.0 md mc xd xc l k (defined-in opaque d.0 l ml) (defined-in opaque c.0 k mk))

      alone : (ds : List RegOp) → ◌≡◌ {A = List RegOp} ds [] ⊎ ((d : RegOp) × (ds ≡ d ∷ [])) → no_two_share (map (defined_lanes t g opaque) (map r ds)) ≡ true
      alone ds (inl n) = ap (λ ys. no_two_share (map (defined_lanes t g opaque) (map r ys))) n
      alone ds (inr n) = ap (λ ys. no_two_share (map (defined_lanes t g opaque) (map r ys))) n.1

      go : (u : Bool) → is_silent e ≡ u → no_two_share (map (defined_lanes t g opaque) (filter (λ (o : RegOp). o.def) (registers x.operands))) ≡ true
      go false s = from-places (defined_lanes t g opaque) x.operands (at-places s)
      go true s = ap (λ ds. no_two_share (map (defined_lanes t g opaque) ds)) (defs t f j a i.operands) ∙ alone (filter (λ (o : RegOp). o.def) (registers i.operands)) (one-definition t i (few-named s))

  -- early ones

  abbrev bs : List Bound
  bs = bound t i

  abbrev mv : Bound → Bound
  mv = move-bound t f j a

  besides : (n : ℕ) (cs : List Bound) → readings_besides n (map mv cs) ≡ map r (readings_besides n cs)
  besides n cs =
      let others = filter (λ (c : Bound). not (passes (ties_to n) c.0)) cs in
      ap (λ ds. readings (registers (map (λ (c : Bound). c.1) ds))) (filter-map (λ (c : Bound). not (passes (ties_to n) c.0)) (λ (c : Bound). not (passes (ties_to n) c.0)) mv (λ c. refl) cs)
      ∙ (ap (λ os. readings (registers os)) (map-map (λ (c : Bound). c.1) mv others ∙ sym (map-map (renamed_operand r) (λ (c : Bound). c.1) others))
      ∙ (ap readings (regs t f j a (map (λ (c : Bound). c.1) others))
      ∙ filter-map (λ (o : RegOp). not o.def && not o.undef) (λ (o : RegOp). not o.def && not o.undef) r (λ o. field-stays t f j a (λ (p : RegOp). not p.def && not p.undef) o refl) (registers (map (λ (c : Bound). c.1) others))))

  -- what is read is an operand
  reading-of : (n : ℕ) (u : RegOp) → Member u (readings_besides n bs) → Member u (registers i.operands) × ((not u.def && not u.undef) ≡ true)
  reading-of n u h =
      let others = filter (λ (c : Bound). not (passes (ties_to n) c.0)) bs in
      let z = filter-of (λ (o : RegOp). not o.def && not o.undef) u (registers (map (λ (c : Bound). c.1) others)) h in
      let y = told-of as_register u (map (λ (c : Bound). c.1) others) z.0 in
      let w = map-of (λ (c : Bound). c.1) y.0 others y.1 in
      let v = (filter-of (λ (c : Bound). not (passes (ties_to n) c.0)) w.0 bs w.1).0 in
      (bound-in t i w.0 v u (sym w.2 ∙ register-of y.0 u y.2), z.1)

  fitting : has_roles e ≡ true → (q : Role) (o : Operand) → Member (Some q, o) (explicit_bound (explicit_roles (roles_of t i)) (explicit_operands i.operands)) → fits_at t e q o ≡ true
  fitting h q o n =
      let z = met t f i e is-effect shaped.operands in
      let same : roles_of t i ≡ z.0.roles = ap (λ y. elim y as (λ y. List Role) [ None ↦ [] | Some d ↦ d.roles ]) z.1 in
      fit-of t e (explicit_roles z.0.roles) (explicit_operands i.operands) (fit t f i e is-effect shaped.operands h).explicit q o (subst (λ rs. Member (Some q, o) (explicit_bound (explicit_roles rs) (explicit_operands i.operands))) same n)

  early-one : (n : ℕ) (c : Bound) → Member c bs → early_fits t f bs (n, c) ≡ true → early_fits t g (map mv bs) (n, mv c) ≡ true
  early-one n (q, operands.Reg d) mc h = go (passes is_early q) refl h
    where
      md : Member d (registers i.operands)
      md = bound-in t i (q, operands.Reg d) mc d refl

      one : passes is_early q ≡ true → is_definition d ≡ true → (u : RegOp) → Member u (readings_besides n bs) → share_a_lane (clashing_lanes t f d) (clashing_lanes t f u) ≡ false → share_a_lane (clashing_lanes t g (r d)) (clashing_lanes t g (r u)) ≡ false
      one early def u mu apart =
          let z = reading-of n u mu in
          let ud = not-true u.def (first_of_both (not u.def) (not u.undef) z.1) in
          let uu = not-true u.undef (second_of_both (not u.def) (not u.undef) z.1) in
          (λ k. share_a_lane (clashing-stay d (each-named d md) k) (clashing-stay u (each-named u z.0) k))
          ∙ images-apart (clashing_lanes t f d) (clashing_lanes t f u) apart (λ l k ml mk. by (is_silent e) refl u z.0 ud uu l k (clashing-in d l ml) (clashing-in u k mk))
        where
          by : (w : Bool) → is_silent e ≡ w → (u : RegOp) → Member u (registers i.operands) → u.def ≡ false → u.undef ≡ false → (l k : Lane) → Member l (operand_lanes t f d) → Member k (operand_lanes t f u) → m l ≡ m k → same_lane l k ≡ false → ⊥
          by false s u mu ud uu l k ml mk same differ = not-early-read s q d u mc early def md mu ud uu l k ml mk same differ
          by true s u mu ud uu l k ml mk same differ = no-use-beside t i (few-named s) (q, operands.Reg d) d u mc early md (first_of_both d.def (not d.implicit) def) mu ud

      defines : passes is_early q ≡ true → is_definition d ≡ true
      defines early = by (has_roles e) refl
        where
          by : (w : Bool) → has_roles e ≡ w → is_definition d ≡ true
          by true k = early-defines t e q d early (λ p z. fitting k p (operands.Reg d) (subst (λ y. Member (y, operands.Reg d) (explicit_bound (explicit_roles (roles_of t i)) (explicit_operands i.operands))) z (early-explicit t i (q, operands.Reg d) mc early)))
          by false k = absurd (none-early t i (bare-roles t i e is-effect k) (q, operands.Reg d) mc early)

      go : (w : Bool) → passes is_early q ≡ w
          → (not w || not (list_any (λ u. share_a_lane (clashing_lanes t f d) (clashing_lanes t f u)) (readings_besides n bs))) ≡ true
          → (not w || not (list_any (λ u. share_a_lane (clashing_lanes t g (r d)) (clashing_lanes t g u)) (readings_besides n (map mv bs)))) ≡ true
      go false early h = refl
      go true early h =
          let none = not-true (list_any (λ u. share_a_lane (clashing_lanes t f d) (clashing_lanes t f u)) (readings_besides n bs)) h in
          ap not (ap (list_any (λ u. share_a_lane (clashing_lanes t g (r d)) (clashing_lanes t g u))) (besides n bs)
          ∙ (any-map (λ u. share_a_lane (clashing_lanes t g (r d)) (clashing_lanes t g u)) (λ u. share_a_lane (clashing_lanes t g (r d)) (clashing_lanes t g (r u))) r (λ u. refl) (readings_besides n bs)
          ∙ none-by (λ u. share_a_lane (clashing_lanes t g (r d)) (clashing_lanes t g (r u))) (readings_besides n bs) (λ u mu. one early (defines early) u mu (none-is (λ u. share_a_lane (clashing_lanes t f d) (clashing_lanes t f u)) u (readings_besides n bs) none mu))))
  early-one n (q, operands.Imm z) mc h = refl
  early-one n (q, operands.Block z) mc h = refl
  early-one n (q, operands.Stack z) mc h = refl
  early-one n (q, operands.FixedStack z) mc h = refl
  early-one n (q, operands.Symbol z) mc h = refl
  early-one n (q, operands.Index z) mc h = refl
  early-one n (q, operands.Mask z) mc h = refl

  all-early : list_all (early_fits t g (bound t x)) (numbered 0 (bound t x)) ≡ true
  all-early =
      let were = second_of_both (part-one && part-two) part-three (first_of_both (part-one && part-two && part-three) part-four parts) in
      ap (λ cs. list_all (early_fits t g cs) (numbered 0 cs)) (bound-same t f j a i)
      ∙ (ap (list_all (early_fits t g (map mv bs))) (numbered-map mv 0 bs)
      ∙ all-more (early_fits t g (map mv bs)) (λ (p : ℕ × Bound). (p.0, mv p.1)) (numbered 0 bs) (λ p n. early-one p.0 p.1 (numbered-in 0 bs p n) (all-of (early_fits t f bs) p (numbered 0 bs) n were)))

  -- no definition is `undef`

  all-plain : list_all (undef_fits forms.Source (registers x.operands)) (filter (λ (o : RegOp). o.def) (registers x.operands)) ≡ true
  all-plain =
      ap (list_all (undef_fits forms.Source (registers x.operands))) (defs t f j a i.operands)
      ∙ all-more (undef_fits forms.Source (registers x.operands)) r (filter (λ (o : RegOp). o.def) (registers i.operands)) (λ d n.
      let z = filter-of (λ (o : RegOp). o.def) d (registers i.operands) n in
      let u : d.undef ≡ false = sym (λ k. z.1 k && d.undef) ∙ (each-named d z.0).plain in
      fits (r d) (field-stays t f j a (λ (p : RegOp). p.undef) d refl ∙ u))
    where
      fits : (d : RegOp) → d.undef ≡ false → undef_fits forms.Source (registers x.operands) d ≡ true
      fits d u = ap (λ w. not w || (is_virtual d.loc && nat_le (length (filter (λ (o : RegOp). same_loc o.loc d.loc) (namings (registers x.operands)))) 1)) u

  free-undef : (c : Bound) → is_free_undef (mv c) ≡ is_free_undef c
  free-undef (q, operands.Reg o) = field-stays t f j a (λ p. is_free_undef (q, operands.Reg p)) o refl
  free-undef (q, o) = refl

  undefs-fit : undef_uses_fit opaque (bound t x) ≡ true
  undefs-fit =
      ap (undef_uses_fit opaque) (bound-same t f j a i)
      ∙ ((λ k. not (opaque && any-map is_early_definition is_early_definition mv (λ c. refl) bs k && any-map is_free_undef is_free_undef mv free-undef bs k))
      ∙ second_of_both (part-one && part-two && part-three) part-four parts)

  pub twelve : V12 t forms.Source g x ≡ true
  unfolding V12
  twelve = λ k. all-plain k && apart-after k && all-early k && undefs-fit k
