-- Definitions in physical form are apart from each other and, where they are early, from uses.
use Rattle.std.proofs.Common.{◌≡◌, ◌∷◌, ◌∙◌, ◌&&◌, ◌||◌, ◌⊎◌, inl, inr, not, ℕ, suc, Bool, true, false, cond, List, [], Option, Some, None, map, filter, refl, sym, ap, subst}
use Rattle.std.specs.Prelude.{option_map}
use Rattle.std.specs.List.{list_all, list_any}
use Rattle.std.proofs.lemmas.Bool.{not-true}
use Rattle.target_base.specs.declared.types.ClassId.{ClassId}
use Rattle.target_base.specs.declared.types.Effect.{Effect}
use Rattle.target_base.specs.declared.types.Effect.TheVariants as effects
use Rattle.target_base.specs.declared.types.Role.{Role}
use Rattle.target_base.specs.declared.types.Role.TheVariants as roles
use Rattle.target_base.specs.declared.types.Target.{Target}
use Rattle.target_base.specs.Roles.{is_implicit, is_silent}
use Rattle.target_base.proofs.Tests.{first_of_both, second_of_both}
use Rattle.meaning.specs.Lanes.{same_lane}
use Rattle.meaning.specs.Live.{Among as Member, here as first, there as later}
use Rattle.meaning.specs.declared.types.Lane.{Lane}
use Rattle.mir_func.specs.declared.func.RegOp.{RegOp}
use Rattle.mir_func.specs.declared.func.Operand.{Operand}
use Rattle.mir_func.specs.declared.func.Operand.TheVariants as operands
use Rattle.mir_func.specs.declared.func.Instr.{Instr}
use Rattle.mir_func.specs.declared.func.Block.{Block}
use Rattle.mir_func.specs.Value.{Function}
use Rattle.mir_func.specs.Binding.{Bound, as_register, bound, does, effect_of, explicit_bound, explicit_operands, explicit_roles, is_definition, is_early, is_lowered_away, numbered, passes, register_at, registers, roles_of, ties_to}
use Rattle.mir_meaning.specs.Items.{unreserved}
use Rattle.mir_meaning.specs.Points.{Entry, Exit, OccupiedAt, Point}
use Rattle.mir_meaning.specs.Registers.{is_reserved, operand_lanes}
use Rattle.mir_meaning.specs.declared.Form.TheVariants as forms
use Rattle.mir_meaning.specs.Rules.{V12, clashing_lanes, defined_lanes, early_fits, fits_at, has_lanes, is_early_definition, is_free_undef, is_opaque, no_two_share, readings, readings_besides, share_a_lane, undef_fits, undef_uses_fit}
use Rattle.instr_effects.proofs.Members.{filter-of, map-of, member-elim, member-none}
use Rattle.live_laws.specs.Effects.Shaped.{IsShaped}
use Rattle.live_laws.proofs.Effects.Lists.{all-of}
use Rattle.live_laws.proofs.Effects.Moving.{some-same}
use Rattle.live_laws.proofs.Touch.Roles.{fit, has_roles, met}
use Rattle.lowering_laws.proofs.Formed.{none-by}
use Rattle.lowering_laws.proofs.Found.{same-is, same-self}
use Rattle.lowering_laws.proofs.Rolled.{bare-roles}
use Rattle.lowering_laws.proofs.Seated.{bound-role, register-in, register-of, register-there, told-of}
use Rattle.lowering_laws.proofs.SharedLanes.{AtPlaces, apart-lanes, from-places, none-shared, to-places}
use Rattle.join_laws.proofs.Named.{known, none-is}
use Rattle.join_laws.proofs.Operands.{map-map}
use Rattle.join_laws.proofs.Rules.{all-more, any-map, bound-in, filter-map}
use Rattle.join_laws.proofs.Silent.{AreFew, early-explicit, few, no-use-beside, none-early, one-definition}
use Rattle.rewriter.specs.Physical.{Assignment, physical, physical_form, physical_instr}
use Rattle.rewrite_laws.proofs.Clear.{GoesTo, apart-at, where-to}
use Rattle.rewrite_laws.proofs.Operands.{IsNamed, image, renames}
use Rattle.slot_laws.proofs.Shaped.{role-lacks}
use Rattle.valid_laws.specs.Rules.{PhysicalDefinitions, StandsClear}
use Rattle.valid_laws.proofs.Classes.{each-made}
use Rattle.valid_laws.proofs.Fitting.{AreNamed, implicit-fixed, lanes-after, lanes-before}
use Rattle.valid_laws.proofs.Moved.{bound-same, defs, field, move-bound, moved, moves, regs}
use Rattle.valid_laws.proofs.Slots.{fit-of}
use Rattle.valid_laws.proofs.Ties.{register-moved}
use Rattle.valid_laws.proofs.Unreserved.{goes-free}
use Rattle.valid_laws.proofs.Written.{early-entry, read-entry, reads_flags, written-exit}

early-defines : (t : Target) (e : Effect) (q : Option Role) (d : RegOp) → passes is_early q ≡ true → ((r : Role) → q ≡ Some r → fits_at t e r (operands.Reg d) ≡ true) → is_definition d ≡ true
early-defines t e None d p h = absurd (cc)
early-defines t e (Some (roles.Early k)) d p h = go (is_definition d) (is_opaque e) (h (roles.Early k) refl)
  where
    go : (u v : Bool) → (u || (v && false)) ≡ true → u ≡ true
    go true v z = refl
    go false true z = absurd (cc)
    go false false z = absurd (cc)
early-defines t e (Some r) d p h = absurd (cc)

numbered-map : {A B : Type 0} (h : A → B) (n : ℕ) (xs : List A) → numbered n (map h xs) ≡ map (λ p. (p.0, h p.1)) (numbered n xs)
numbered-map h n [] = refl
numbered-map h n (x ∷ xs) = ap (λ ys. (n, h x) ∷ ys) (numbered-map h (suc n) xs)

numbered-in : {X : Type 0} (n : ℕ) (xs : List X) (x : ℕ × X) → Member x (numbered n xs) → Member x.1 xs
numbered-in n [] x m = absurd (member-none x m)
numbered-in n (y ∷ xs) x m = member-elim x (n, y) (numbered (suc n) xs) (λ e. subst (λ z. Member z (y ∷ xs)) (sym (ap (λ z. z.1) e)) first) (λ k. later (numbered-in (suc n) xs x k)) m

kept-in : {X : Type 0} (p : X → Bool) (x : X) (xs : List X) (u : Bool) → Member x (cond u (filter p xs) []) → Member x xs
kept-in p x xs true m = (filter-of p x xs m).0
kept-in p x xs false m = absurd (member-none x m)

chosen-in : {X : Type 0} (x : X) (xs : List X) (u : Bool) → Member x (cond u xs []) → Member x xs
chosen-in x xs true m = m
chosen-in x xs false m = absurd (member-none x m)

differ-not : (l k : Lane) → l ≡ k → same_lane l k ≡ false → ⊥
differ-not l k e d = let z : same_lane l k ≡ true = subst (λ x. same_lane l x ≡ true) e (same-self l) in cc

module _ (t : Target) (f : Function) (rs : Assignment) (slots : List (ℕ × ClassId)) (live : ℕ → ℕ → Bool) (stand : StandsClear t f rs) where
  abbrev g : Function
  g = physical_form t rs slots live f

  abbrev r : RegOp → RegOp
  r = moved t rs

  abbrev m : Lane → Lane
  m = image t rs

  abbrev R : Lane → Bool
  R = is_reserved t

  free-stays : (l : Lane) → not (R (m l)) ≡ not (R l)
  free-stays l = go (where-to t f rs stand.clear l)
    where
      go : (m l ≡ l) ⊎ GoesTo t f rs stand.clear l → not (R (m l)) ≡ not (R l)
      go (inl e) = ap (λ k. not (R k)) e
      go (inr z) = ap not (goes-free t f rs stand.clear l z ∙ sym (ap R z.is))

  -- two lanes that come to one are unreserved, and not occupied at one point

  both-free : (l k : Lane) → m l ≡ m k → same_lane l k ≡ false → (R l ≡ false) × (R k ≡ false)
  both-free l k e d = go (where-to t f rs stand.clear l) (where-to t f rs stand.clear k)
    where
      go : (m l ≡ l) ⊎ GoesTo t f rs stand.clear l → (m k ≡ k) ⊎ GoesTo t f rs stand.clear k → (R l ≡ false) × (R k ≡ false)
      go (inl p) (inl q) = absurd (differ-not l k (sym p ∙ (e ∙ q)) d)
      go (inl p) (inr z) = (ap R (sym p ∙ e) ∙ goes-free t f rs stand.clear k z, ap R z.is)
      go (inr y) (inl q) = (ap R y.is, ap R (sym q ∙ sym e) ∙ goes-free t f rs stand.clear l y)
      go (inr y) (inr z) = (ap R y.is, ap R z.is)

  never-both : (x : Point) (l k : Lane) → m l ≡ m k → same_lane l k ≡ false → OccupiedAt t f x l → OccupiedAt t f x k → ⊥
  never-both x l k e d ol ok = differ-not l k (apart-at t f rs stand.clear x l k ol ok e) d

  -- lists of lanes that share none, and of which no two lanes come to one, share none in physical form
  images-apart : (ls ks : List Lane) → share_a_lane ls ks ≡ false → ((l k : Lane) → Member l ls → Member k ks → m l ≡ m k → same_lane l k ≡ false → ⊥) → share_a_lane (map m ls) (map m ks) ≡ false
  images-apart ls ks apart h = none-shared (map m ls) (map m ks) (λ y p q.
      let l = map-of m y ls p in
      let k = map-of m y ks q in
      go l.0 k.0 l.1 k.1 (sym l.2 ∙ k.2) (same_lane l.0 k.0) refl)
    where
      go : (l k : Lane) → Member l ls → Member k ks → m l ≡ m k → (u : Bool) → same_lane l k ≡ u → ⊥
      go l k p q e true d = apart-lanes ls ks apart l p (subst (λ y. Member y ks) (sym (same-is l k d)) q)
      go l k p q e false d = h l k p q e d

  module _ (b : Block) (i : Instr) (mb : Member b f.blocks) (mi : Member i b.instrs) (names : AreNamed t f g rs stand.clear i.operands) (shaped : IsShaped t f i) (id : ℕ) where
    abbrev x : Instr
    x = record (physical_instr t rs i) { id = id }

    effect : ((e : Effect) × (effect_of t i ≡ Some e)) × (does is_lowered_away t i ≡ false)
    effect = known t i (stand.lowered.lowered b i mb mi)

    abbrev e : Effect
    e = effect.0.0

    is-effect : effect_of t i ≡ Some e
    is-effect = effect.0.1

    few-named : is_silent e ≡ true → AreFew t i
    few-named s = few t f i e is-effect s (sym (ap (passes is_lowered_away) is-effect) ∙ effect.1) shaped.operands

    -- two definitions don't come to one lane
    no-two-written : is_silent e ≡ false → (d c : RegOp) → Member d (registers i.operands) → Member c (registers i.operands) → d.def ≡ true → c.def ≡ true
        → (l k : Lane) → Member l (operand_lanes t f d) → Member k (operand_lanes t f c) → m l ≡ m k → same_lane l k ≡ false → ⊥
    no-two-written s d c md mc dd dc l k ml mk same differ =
        let free = both-free l k same differ in
        never-both (Exit i.id) l k same differ
        (written-exit t f stand.lowered b i mb mi e is-effect s d md dd l ml free.0) (written-exit t f stand.lowered b i mb mi e is-effect s c mc dc k mk free.1)

    fitting : has_roles e ≡ true → (q : Role) (o : Operand) → Member (Some q, o) (explicit_bound (explicit_roles (roles_of t i)) (explicit_operands i.operands)) → fits_at t e q o ≡ true
    fitting h q o n =
        let z = met t f i e is-effect shaped.operands in
        let same : roles_of t i ≡ z.0.roles = ap (λ y. elim y as (λ y. List Role) [ None ↦ [] | Some d ↦ d.roles ]) z.1 in
        fit-of t e (explicit_roles z.0.roles) (explicit_operands i.operands) (fit t f i e is-effect shaped.operands h).explicit q o (subst (λ rs. Member (Some q, o) (explicit_bound (explicit_roles rs) (explicit_operands i.operands))) same n)

    -- an opcode with an early definition isn't a conditional jump
    no-flags : (q : Option Role) (d : RegOp) → Member (q, operands.Reg d) (bound t i) → passes is_early q ≡ true → reads_flags e ≡ false
    no-flags q d mq early = go e refl
      where
        jump : (q : Option Role) → passes is_early q ≡ true → Member (q, operands.Reg d) (explicit_bound (explicit_roles (roles_of t i)) (explicit_operands i.operands)) → e ≡ effects.Jcc → ⊥
        jump None h k j = cc
        jump (Some (roles.Early c)) h k j =
            let there = (filter-of (λ (r : Role). not (is_implicit r)) (roles.Early c) (roles_of t i) (bound-role (explicit_roles (roles_of t i)) (explicit_operands i.operands) (roles.Early c) (operands.Reg d) k)).0 in
            role-lacks t f i effects.Jcc (is-effect ∙ ap Some j) shaped.operands refl (roles.Early c) refl refl there
        jump (Some p) h k j = absurd (cc)

        go : (y : Effect) → e ≡ y → reads_flags y ≡ false
        go effects.Jcc j = absurd (jump q early (early-explicit t i (q, operands.Reg d) mq early) j)
        go y j = refl

    -- nor do an early definition and a use
    not-early-read : is_silent e ≡ false → (q : Option Role) (d u : RegOp) → Member (q, operands.Reg d) (bound t i) → passes is_early q ≡ true → is_definition d ≡ true
        → Member u (registers i.operands) → u.def ≡ false → u.undef ≡ false
        → (l k : Lane) → Member l (operand_lanes t f d) → Member k (operand_lanes t f u) → m l ≡ m k → same_lane l k ≡ false → ⊥
    not-early-read s q d u mq early def mu ud uu l k ml mk same differ =
        let free = both-free l k same differ in
        never-both (Entry i.id) l k same differ
        (early-entry t f stand.lowered b i mb mi e is-effect s q d (early-explicit t i (q, operands.Reg d) mq early) early def l ml free.0)
        (read-entry t f stand.lowered b i mb mi e is-effect s (no-flags q d mq early) u mu ud uu k mk free.1)

    -- lanes of operands

    clashing-stay : (o : RegOp) → IsNamed t f rs o → clashing_lanes t g (r o) ≡ map m (clashing_lanes t f o)
    clashing-stay o n =
        (λ k. cond (lanes-after t f g rs stand.clear o n k) (unreserved t ((renames t f rs stand.clear g o n).lanes k)) [])
        ∙ (filter-map (λ l. not (R l)) (λ l. not (R l)) m free-stays (operand_lanes t f o)
        ∙ sym (λ k. map m (cond (lanes-before t f g rs stand.clear o n k) (unreserved t (operand_lanes t f o)) [])))

    defined-stay : (u : Bool) (o : RegOp) → IsNamed t f rs o → defined_lanes t g u (r o) ≡ map m (defined_lanes t f u o)
    defined-stay true o n = (λ k. cond (lanes-after t f g rs stand.clear o n k) ((renames t f rs stand.clear g o n).lanes k) []) ∙ sym (λ k. map m (cond (lanes-before t f g rs stand.clear o n k) (operand_lanes t f o) []))
    defined-stay false o n = clashing-stay o n

    clashing-in : (o : RegOp) (l : Lane) → Member l (clashing_lanes t f o) → Member l (operand_lanes t f o)
    clashing-in o l n = kept-in (λ l. not (is_reserved t l)) l (operand_lanes t f o) (has_lanes t f o) n

    defined-in : (u : Bool) (o : RegOp) (l : Lane) → Member l (defined_lanes t f u o) → Member l (operand_lanes t f o)
    defined-in true o l n = chosen-in l (operand_lanes t f o) (has_lanes t f o) n
    defined-in false o l n = clashing-in o l n

    -- what the rule said

    abbrev opaque : Bool
    opaque = does is_opaque t i

    abbrev part-two : Bool
    part-two = no_two_share (map (defined_lanes t f opaque) (filter (λ (o : RegOp). o.def) (registers i.operands)))

    abbrev part-one : Bool
    part-one = list_all (undef_fits forms.Source (registers i.operands)) (filter (λ (o : RegOp). o.def) (registers i.operands))

    abbrev part-three : Bool
    part-three = list_all (early_fits t f (bound t i)) (numbered 0 (bound t i))

    abbrev part-four : Bool
    part-four = undef_uses_fit opaque (bound t i)

    parts : (part-one && part-two && part-three && part-four) ≡ true
    unfolding V12
    parts = shaped.definitions

    -- definitions

    register-was : (os : List Operand) (p : ℕ) (d : RegOp) → register_at (moves t rs os) p ≡ Some d → (c : RegOp) × (register_at os p ≡ Some c) × (d ≡ r c)
    register-was os p d h = go (register_at os p) refl (sym (register-moved t rs os p) ∙ h)
      where
        go : (q : Option RegOp) → register_at os p ≡ q → option_map r q ≡ Some d → (c : RegOp) × (register_at os p ≡ Some c) × (d ≡ r c)
        go None a h = absurd (cc)
        go (Some c) a h = (c, a, sym (some-same (r c) d h))

    def-of : (d : RegOp) → (r d).def ≡ true → d.def ≡ true
    def-of d h = sym (field t rs (λ (p : RegOp). p.def) d (λ q. refl)) ∙ h

    apart-after : no_two_share (map (defined_lanes t g opaque) (filter (λ (o : RegOp). o.def) (registers x.operands))) ≡ true
    apart-after = go (is_silent e) refl
      where
        were : no_two_share (map (defined_lanes t f opaque) (filter (λ (o : RegOp). o.def) (registers i.operands))) ≡ true
        were = second_of_both part-one part-two (first_of_both (part-one && part-two) part-three (first_of_both (part-one && part-two && part-three) part-four parts))

        at-places : is_silent e ≡ false → AtPlaces (defined_lanes t g opaque) x.operands
        at-places s p q d' c' lt hd hc dd dc =
            let d = register-was i.operands p d' hd in
            let c = register-was i.operands q c' hc in
            let md = register-in d.0 i.operands (register-there i.operands p d.0 d.1) in
            let mc = register-in c.0 i.operands (register-there i.operands q c.0 c.1) in
            let xd = def-of d.0 (ap (λ (y : RegOp). y.def) (sym d.2) ∙ dd) in
            let xc = def-of c.0 (ap (λ (y : RegOp). y.def) (sym c.2) ∙ dc) in
            let apart = to-places (defined_lanes t f opaque) i.operands were p q d.0 c.0 lt d.1 c.1 xd xc in
            (λ k. share_a_lane ((ap (defined_lanes t g opaque) d.2 ∙ defined-stay opaque d.0 (names d.0 md)) k) ((ap (defined_lanes t g opaque) c.2 ∙ defined-stay opaque c.0 (names c.0 mc)) k))
            ∙ images-apart (defined_lanes t f opaque d.0) (defined_lanes t f opaque c.0) apart (λ l k ml mk. no-two-written s d.0 c.0 md mc xd xc l k (defined-in opaque d.0 l ml) (defined-in opaque c.0 k mk))

        alone : (ds : List RegOp) → ◌≡◌ {A = List RegOp} ds [] ⊎ ((d : RegOp) × (ds ≡ d ∷ [])) → no_two_share (map (defined_lanes t g opaque) (map r ds)) ≡ true
        alone ds (inl n) = ap (λ ys. no_two_share (map (defined_lanes t g opaque) (map r ys))) n
        alone ds (inr n) = ap (λ ys. no_two_share (map (defined_lanes t g opaque) (map r ys))) n.1

        go : (u : Bool) → is_silent e ≡ u → no_two_share (map (defined_lanes t g opaque) (filter (λ (o : RegOp). o.def) (registers x.operands))) ≡ true
        go false s = from-places (defined_lanes t g opaque) x.operands (at-places s)
        go true s = ap (λ ds. no_two_share (map (defined_lanes t g opaque) ds)) (defs t rs i.operands) ∙ alone (filter (λ (o : RegOp). o.def) (registers i.operands)) (one-definition t i (few-named s))

    -- early ones

    abbrev bs : List Bound
    bs = bound t i

    abbrev mv : Bound → Bound
    mv = move-bound t rs

    besides : (n : ℕ) (cs : List Bound) → readings_besides n (map mv cs) ≡ map r (readings_besides n cs)
    besides n cs =
        let others = filter (λ (c : Bound). not (passes (ties_to n) c.0)) cs in
        ap (λ ds. readings (registers (map (λ (c : Bound). c.1) ds))) (filter-map (λ (c : Bound). not (passes (ties_to n) c.0)) (λ (c : Bound). not (passes (ties_to n) c.0)) mv (λ c. refl) cs)
        ∙ (ap (λ os. readings (registers os)) (map-map (λ (c : Bound). c.1) mv others ∙ sym (map-map (physical t rs) (λ (c : Bound). c.1) others))
        ∙ (ap readings (regs t rs (map (λ (c : Bound). c.1) others))
        ∙ filter-map (λ (o : RegOp). not o.def && not o.undef) (λ (o : RegOp). not o.def && not o.undef) r (λ o. field t rs (λ (p : RegOp). not p.def && not p.undef) o (λ q. refl)) (registers (map (λ (c : Bound). c.1) others))))

    -- what is read is an operand
    reading-of : (n : ℕ) (u : RegOp) → Member u (readings_besides n bs) → Member u (registers i.operands) × ((not u.def && not u.undef) ≡ true)
    reading-of n u h =
        let others = filter (λ (c : Bound). not (passes (ties_to n) c.0)) bs in
        let z = filter-of (λ (o : RegOp). not o.def && not o.undef) u (registers (map (λ (c : Bound). c.1) others)) h in
        let y = told-of as_register u (map (λ (c : Bound). c.1) others) z.0 in
        let w = map-of (λ (c : Bound). c.1) y.0 others y.1 in
        let v = (filter-of (λ (c : Bound). not (passes (ties_to n) c.0)) w.0 bs w.1).0 in
        (bound-in t i w.0 v u (sym w.2 ∙ register-of y.0 u y.2), z.1)

    early-one : (n : ℕ) (c : Bound) → Member c bs → early_fits t f bs (n, c) ≡ true → early_fits t g (map mv bs) (n, mv c) ≡ true
    early-one n (q, operands.Reg d) mc h = go (passes is_early q) refl h
      where
        md : Member d (registers i.operands)
        md = bound-in t i (q, operands.Reg d) mc d refl

        one : passes is_early q ≡ true → is_definition d ≡ true → (u : RegOp) → Member u (readings_besides n bs) → share_a_lane (clashing_lanes t f d) (clashing_lanes t f u) ≡ false → share_a_lane (clashing_lanes t g (r d)) (clashing_lanes t g (r u)) ≡ false
        one early def u mu apart =
            let z = reading-of n u mu in
            let ud = not-true u.def (first_of_both (not u.def) (not u.undef) z.1) in
            let uu = not-true u.undef (second_of_both (not u.def) (not u.undef) z.1) in
            (λ k. share_a_lane (clashing-stay d (names d md) k) (clashing-stay u (names u z.0) k))
            ∙ images-apart (clashing_lanes t f d) (clashing_lanes t f u) apart (λ l k ml mk. by (is_silent e) refl u z.0 ud uu l k (clashing-in d l ml) (clashing-in u k mk))
          where
            by : (w : Bool) → is_silent e ≡ w → (u : RegOp) → Member u (registers i.operands) → u.def ≡ false → u.undef ≡ false → (l k : Lane) → Member l (operand_lanes t f d) → Member k (operand_lanes t f u) → m l ≡ m k → same_lane l k ≡ false → ⊥
            by false s u mu ud uu l k ml mk same differ = not-early-read s q d u mc early def mu ud uu l k ml mk same differ
            by true s u mu ud uu l k ml mk same differ = no-use-beside t i (few-named s) (q, operands.Reg d) d u mc early md (first_of_both d.def (not d.implicit) def) mu ud

        defines : passes is_early q ≡ true → is_definition d ≡ true
        defines early = by (has_roles e) refl
          where
            by : (w : Bool) → has_roles e ≡ w → is_definition d ≡ true
            by true k = early-defines t e q d early (λ p z. fitting k p (operands.Reg d) (subst (λ y. Member (y, operands.Reg d) (explicit_bound (explicit_roles (roles_of t i)) (explicit_operands i.operands))) z (early-explicit t i (q, operands.Reg d) mc early)))
            by false k = absurd (none-early t i (bare-roles t i e is-effect k) (q, operands.Reg d) mc early)

        go : (w : Bool) → passes is_early q ≡ w
            → (not w || not (list_any (λ u. share_a_lane (clashing_lanes t f d) (clashing_lanes t f u)) (readings_besides n bs))) ≡ true
            → (not w || not (list_any (λ u. share_a_lane (clashing_lanes t g (r d)) (clashing_lanes t g u)) (readings_besides n (map mv bs)))) ≡ true
        go false early h = refl
        go true early h =
            let none = not-true (list_any (λ u. share_a_lane (clashing_lanes t f d) (clashing_lanes t f u)) (readings_besides n bs)) h in
            ap not (ap (list_any (λ u. share_a_lane (clashing_lanes t g (r d)) (clashing_lanes t g u))) (besides n bs)
            ∙ (any-map (λ u. share_a_lane (clashing_lanes t g (r d)) (clashing_lanes t g u)) (λ u. share_a_lane (clashing_lanes t g (r d)) (clashing_lanes t g (r u))) r (λ u. refl) (readings_besides n bs)
            ∙ none-by (λ u. share_a_lane (clashing_lanes t g (r d)) (clashing_lanes t g (r u))) (readings_besides n bs) (λ u mu. one early (defines early) u mu (none-is (λ u. share_a_lane (clashing_lanes t f d) (clashing_lanes t f u)) u (readings_besides n bs) none mu))))
    early-one n (q, operands.Imm z) mc h = refl
    early-one n (q, operands.Block z) mc h = refl
    early-one n (q, operands.Stack z) mc h = refl
    early-one n (q, operands.FixedStack z) mc h = refl
    early-one n (q, operands.Symbol z) mc h = refl
    early-one n (q, operands.Index z) mc h = refl
    early-one n (q, operands.Mask z) mc h = refl

    bounds : bound t x ≡ map mv bs
    bounds = bound-same t rs i (implicit-fixed t f g rs stand.clear i.operands names)

    all-early : list_all (early_fits t g (bound t x)) (numbered 0 (bound t x)) ≡ true
    all-early =
        let were = second_of_both (part-one && part-two) part-three (first_of_both (part-one && part-two && part-three) part-four parts) in
        ap (λ cs. list_all (early_fits t g cs) (numbered 0 cs)) bounds
        ∙ (ap (list_all (early_fits t g (map mv bs))) (numbered-map mv 0 bs)
        ∙ all-more (early_fits t g (map mv bs)) (λ (p : ℕ × Bound). (p.0, mv p.1)) (numbered 0 bs) (λ p n. early-one p.0 p.1 (numbered-in 0 bs p n) (all-of (early_fits t f bs) p (numbered 0 bs) n were)))

    -- no definition is `undef`
    all-plain : list_all (undef_fits forms.Allocated (registers x.operands)) (filter (λ (o : RegOp). o.def) (registers x.operands)) ≡ true
    all-plain =
        ap (list_all (undef_fits forms.Allocated (registers x.operands))) (defs t rs i.operands)
        ∙ all-more (undef_fits forms.Allocated (registers x.operands)) r (filter (λ (o : RegOp). o.def) (registers i.operands)) (λ d n.
        let z = filter-of (λ (o : RegOp). o.def) d (registers i.operands) n in
        let u : d.undef ≡ false = sym (λ k. z.1 k && d.undef) ∙ (names d z.0).plain in
        ap not (field t rs (λ (p : RegOp). p.undef) d (λ q. refl) ∙ u))

    free-undef : (c : Bound) → is_free_undef (mv c) ≡ is_free_undef c
    free-undef (q, operands.Reg o) = field t rs (λ p. is_free_undef (q, operands.Reg p)) o (λ q. refl)
    free-undef (q, o) = refl

    undefs-fit : undef_uses_fit opaque (bound t x) ≡ true
    undefs-fit =
        ap (undef_uses_fit opaque) bounds
        ∙ ((λ k. not (opaque && any-map is_early_definition is_early_definition mv (λ c. refl) bs k && any-map is_free_undef is_free_undef mv free-undef bs k))
        ∙ second_of_both (part-one && part-two && part-three) part-four parts)

    pub twelve : V12 t forms.Allocated g x ≡ true
    unfolding V12
    twelve = λ k. all-plain k && apart-after k && all-early k && undefs-fit k

pub physical-definitions : PhysicalDefinitions
physical-definitions t f rs slots live stand =
    each-made t f rs slots live stand (λ g x. V12 t forms.Allocated g x) (λ b i mb mi names away shaped n. twelve t f rs slots live stand b i mb mi names shaped n)
