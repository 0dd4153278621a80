-- The classes of the function after a spill: those of its ranges stay, and each tiny has its own.
use Rattle.std.proofs.Common.{◌≡◌, ◌<◌, ◌≤◌, ◌+◌, ◌++◌, ◌∙◌, ◌&&◌, ◌||◌, not, ℕ, zero, suc, Bool, true, false, cond, drop, List, [], ◌∷◌, Option, Some, None, flat_map, length, map, refl, sym, ap, subst, arith, eqb-true}
use Rattle.std.specs.Prelude.{◌==◌, filter_map, nat_eq, nat_lt, option_and_then, option_map, position, slice_get}
use Rattle.std.specs.List.{list_all, list_any, sum_by, zip}
use Rattle.std.proofs.lemmas.Bool.{ltb-true}
use Rattle.std.proofs.lemmas.List.{length-map}
use Rattle.target_base.specs.declared.types.ClassDesc.{ClassDesc}
use Rattle.target_base.specs.declared.types.ClassId.{ClassId}
use Rattle.target_base.specs.declared.types.IndexId.{IndexId}
use Rattle.target_base.specs.declared.types.OpcodeDesc.{OpcodeDesc}
use Rattle.target_base.specs.declared.types.Role.{Role}
use Rattle.target_base.specs.declared.types.Role.TheVariants as roles
use Rattle.target_base.specs.declared.types.Target.{Target}
use Rattle.target_base.specs.Numbers.{class_number}
use Rattle.target_base.specs.Registers.{IsClass, class_of_widths, move_class, part_of, widths_of_some}
use Rattle.target_base.specs.Roles.{is_any, is_implicit, is_tied, role_class, role_known}
use Rattle.target_base.specs.Rules.{is_opcode_desc, starts_with_the_five}
use Rattle.target_base.specs.Storage.{class_widths, same_numbers}
use Rattle.target_base.proofs.Sound.{opcodes_sound}
use Rattle.target_base.proofs.Tests.{first_of_both, position_within, second_of_both}
use Rattle.meaning.specs.Live.{Among as Member, here as first, there as later}
use Rattle.mir_func.specs.declared.func.Loc.{Loc}
use Rattle.mir_func.specs.declared.func.Loc.TheVariants.{Fixed, Virtual}
use Rattle.mir_func.specs.declared.func.Op.{Op}
use Rattle.mir_func.specs.declared.func.Op.TheVariants as ops
use Rattle.mir_func.specs.declared.func.RegOp.{RegOp}
use Rattle.mir_func.specs.declared.func.Operand.{Operand}
use Rattle.mir_func.specs.declared.func.Operand.TheVariants as operands
use Rattle.mir_func.specs.declared.func.Instr.{Instr}
use Rattle.mir_func.specs.declared.func.Block.{Block}
use Rattle.mir_func.specs.Value.{Function}
use Rattle.mir_func.specs.Binding.{Bound, any_class, asked_class, bound, class_of, does, explicit_bound, explicit_operands, explicit_roles, is_early, implicit_bound, implicit_registers, implicit_roles, known_opcode, moving_class as operand_moving, numbered, operand_class, passes, roles_of, takes_role}
use Rattle.mir_meaning.specs.Places.{Defining, Using, Variable, each_once, has_tied_use, is_defining, operand_variable, operand_variables, register_variable, same_use, variable}
use Rattle.instr_effects.proofs.Members.{either-elim, filter-of, flat-of, left-in, map-of, member-elim, member-none, right-in}
use Rattle.live_laws.specs.Effects.Shaped.{AreClasses}
use Rattle.live_laws.proofs.Effects.Blocks.{member-slice, slice-member}
use Rattle.live_laws.proofs.Effects.Lists.{all-of}
use Rattle.live_laws.proofs.Effects.Moving.{some-same}
use Rattle.lowering_laws.proofs.Classes as further
use Rattle.lowering_laws.proofs.Seated.{bound-role, told-of}
use Rattle.lowering_laws.proofs.Widths.{find-in}
use Rattle.spiller.specs.Setting.{Spilling, is_own}
use Rattle.spiller.specs.Rematerialised.{definition_class, is_constant, own_variables, places_of, repeatable_class, ways_read, whole_class}
use Rattle.spiller.specs.Spilled.{Change, OwnDefinition, all_changes, block_changes, change, changes, definitions_in, new_ids, numbered_change, numbered_operands, own_definition, place_name, seats_from, spilled, spilled_block, tinies_of, with_ids}
use Rattle.spill_laws.specs.Laws.{KeepsClasses}
use Rattle.spill_laws.proofs.Outcomes.{Outcome, Passes, goes, instrs-of, passed, reloaded_on, repeats, replaced, seated, stays, stored_on, within}

-- places of lists, one after the other

pub behind : {X : Type 0} (xs ys : List X) (j : ℕ) → slice_get (xs ++ ys) (length xs + j) ≡ slice_get ys j
behind [] ys j = ap (slice_get ys) (nothing j)
  where
    nothing : (j : ℕ) → 0 + j ≡ j
    nothing j = omega arith
behind (x ∷ xs) ys j = ap (slice_get (x ∷ (xs ++ ys))) (one (length xs) j) ∙ behind xs ys j
  where
    one : (n j : ℕ) → suc n + j ≡ suc (n + j)
    one n j = omega arith

pub before : {X : Type 0} (xs ys : List X) (j : ℕ) (x : X) → slice_get xs j ≡ Some x → slice_get (xs ++ ys) j ≡ Some x
before [] ys j x e = absurd (cc)
before (y ∷ xs) ys zero x e = e
before (y ∷ xs) ys (suc j) x e = before xs ys j x e

map-append : {X Y : Type 0} (h : X → Y) (xs ys : List X) → map h (xs ++ ys) ≡ map h xs ++ map h ys
map-append h [] ys = refl
map-append h (x ∷ xs) ys = ap (λ zs. h x ∷ zs) (map-append h xs ys)

pub numbered-of : {X : Type 0} (n : ℕ) (xs : List X) (x : ℕ × X) → Member x (numbered n xs) → Member x.1 xs
numbered-of n [] x m = absurd (member-none x m)
numbered-of {X = X} n (y ∷ xs) x m = member-elim x (n, y) (numbered (suc n) xs) (λ e. subst (λ (z : X). Member z (y ∷ xs)) (sym (ap (λ (p : ℕ × X). p.1) e)) first) (λ k. later (numbered-of (suc n) xs x k)) m

module _ (g : Function) where
  -- from this range number on the function has these classes
  abbrev pub Has : ℕ → List (Option ClassId) → Type 0
  Has c ks = (j : ℕ) (k : Option ClassId) → slice_get ks j ≡ Some k → class_of g (c + j) ≡ k

  pub has-before : (c : ℕ) (xs ys : List (Option ClassId)) → Has c (xs ++ ys) → Has c xs
  has-before c xs ys h j k e = h j k (before xs ys j k e)

  pub has-behind : (c : ℕ) (xs ys : List (Option ClassId)) → Has c (xs ++ ys) → Has (c + length xs) ys
  has-behind c xs ys h j k e = ap (class_of g) (assoc c (length xs) j) ∙ h (length xs + j) k (behind xs ys j ∙ e)
    where
      assoc : (a b d : ℕ) → (a + b) + d ≡ a + (b + d)
      assoc a b d = omega arith

module _ (s : Spilling) where
  abbrev g : Function
  g = spilled s

  abbrev class-in : Option ClassId × ℕ → Option ClassId
  class-in x = x.0

  abbrev pub made : List (Option ClassId)
  made = map class-in (flat_map tinies_of (all_changes s))

  pub classes-are : g.classes ≡ s.func.classes ++ made
  unfolding spilled
  classes-are = refl

  pub classes-stay : KeepsClasses s g
  classes-stay w h = ap (λ (cs : List (Option ClassId)). elim (slice_get cs w) as (λ q. Option ClassId) [ None ↦ None | Some c ↦ c ]) classes-are ∙ further.class-stays s.target s.func made w h

  pub has-made : Has g (length s.func.classes) made
  has-made j k e = ap (λ (cs : List (Option ClassId)). elim (slice_get cs (length s.func.classes + j)) as (λ q. Option ClassId) [ None ↦ None | Some c ↦ c ]) classes-are ∙ ap (λ q. elim q as (λ q. Option ClassId) [ None ↦ None | Some c ↦ c ]) (behind s.func.classes made j ∙ e)

  -- what holds of the instructions of each place, whose tinies have their classes from a further range number on, holds of all

  module _ (P : Instr → Type 0) (ids : (x : Instr) (n : ℕ) → P x → P (record x { id = n })) where
    abbrev Each : List Instr → Type 0
    Each p = (n c : ℕ) → length s.func.classes ≤ c → Has g c (map class-in (change s n c p).tinies) → (x : Instr) → Member x (instrs-of (change s n c p)) → P x

    new-ids : (n : ℕ) (is : List Instr) → ((x : Instr) → Member x is → P x) → (x : Instr) → Member x (with_ids n is) → P x
    new-ids n [] h x m = absurd (member-none x m)
    new-ids n (i ∷ is) h x m = member-elim x (record i { id = n }) (with_ids (suc n) is) (λ e. subst P (sym e) (ids i n (h i first))) (λ k. new-ids (suc n) is (λ y q. h y (later q)) x k) m

    place-each : (n c : ℕ) (p : List Instr) → Each p → length s.func.classes ≤ c → Has g c (map class-in (change s n c p).tinies) → (x : Instr) → Member x (instrs-of (numbered_change s n c p)) → P x
    place-each n c p each low h x m =
        let y = change s n c p in
        let all = each n c low h in
        let behind = with_ids (n + length y.before) y.behind in
        either-elim x (with_ids n y.before) (y.own ++ behind)
        (λ k. new-ids n y.before (λ z q. all z (left-in z y.before (y.own ++ y.behind) q)) x k)
        (λ k. either-elim x y.own behind
        (λ q. all x (right-in x y.before (y.own ++ y.behind) (left-in x y.own y.behind q)))
        (λ q. new-ids (n + length y.before) y.behind (λ z r. all z (right-in z y.before (y.own ++ y.behind) (right-in z y.own y.behind r))) x q) k) m

    places-each : (n c : ℕ) (ps : List (List Instr)) → ((p : List Instr) → Member p ps → Each p) → length s.func.classes ≤ c → Has g c (map class-in (tinies_of (changes s n c ps))) → (x : Instr) → Member x (flat_map instrs-of (changes s n c ps)) → P x
    places-each n c [] each low h x m = absurd (member-none x m)
    places-each n c (p ∷ ps) each low h x m =
        let y = numbered_change s n c p in
        let rest = changes s (n + new_ids y) (c + length y.tinies) ps in
        let all : Has g c (map class-in y.tinies ++ map class-in (tinies_of rest)) = subst (Has g c) (map-append class-in y.tinies (tinies_of rest)) h in
        either-elim x (instrs-of y) (flat_map instrs-of rest)
        (λ k. place-each n c p (each p first) low (has-before g c (map class-in y.tinies) (map class-in (tinies_of rest)) all) x k)
        (λ k. places-each (n + new_ids y) (c + length y.tinies) ps (λ q r. each q (later r)) (omega (arith, low))
        (subst (λ d. Has g d (map class-in (tinies_of rest))) (ap (λ d. c + d) (length-map y.tinies class-in)) (has-behind g c (map class-in y.tinies) (map class-in (tinies_of rest)) all)) x k) m

    blocks-each : (n c : ℕ) (bs : List Block) → ((b : Block) → Member b bs → (p : List Instr) → Member p (places_of s.target b) → Each p) → length s.func.classes ≤ c → Has g c (map class-in (flat_map tinies_of (block_changes s n c bs)))
        → (d : Block) (x : Instr) → Member d (map spilled_block (zip bs (block_changes s n c bs))) → Member x d.instrs → P x
    blocks-each n c [] each low h d x md mx = absurd (member-none d md)
    blocks-each n c (b ∷ bs) each low h d x md mx =
        let ys = changes s n c (places_of s.target b) in
        let m = n + sum_by new_ids ys in
        let e = c + length (tinies_of ys) in
        let rest = block_changes s m e bs in
        let more = flat_map tinies_of rest in
        let all : Has g c (map class-in (tinies_of ys) ++ map class-in more) = subst (Has g c) (map-append class-in (tinies_of ys) more) h in
        member-elim d (spilled_block (b, ys)) (map spilled_block (zip bs rest))
        (λ q. places-each n c (places_of s.target b) (each b first) low (has-before g c (map class-in (tinies_of ys)) (map class-in more) all) x (subst (λ (z : Block). Member x z.instrs) q mx))
        (λ q. blocks-each m e bs (λ z r. each z (later r)) (omega (arith, low)) (subst (λ z. Has g z (map class-in more)) (ap (λ z. c + z) (length-map (tinies_of ys) class-in)) (has-behind g c (map class-in (tinies_of ys)) (map class-in more) all)) d x q mx) md

    pub all-instrs : ((b : Block) → Member b s.func.blocks → (p : List Instr) → Member p (places_of s.target b) → Each p) → (d : Block) (x : Instr) → Member d g.blocks → Member x d.instrs → P x
    unfolding spilled
    all-instrs each d x md mx = blocks-each s.func.next_id (length s.func.classes) s.func.blocks each (omega arith) has-made d x md mx

-- classes of roles are the target's

no-roles : (rs : List Role) → (length rs == 0) ≡ true → rs ≡ []
no-roles [] e = refl
no-roles (r ∷ rs) e = absurd (let z = eqb-true (length (r ∷ rs)) 0 e in omega arith)

module _ (t : Target) where
  abbrev AreKnown : List Role → Type 0
  AreKnown rs = list_all (role_known (length t.classes) (length t.regs)) rs ≡ true

  none-known : (a d : OpcodeDesc) → Some a ≡ Some d → (length a.roles == 0) ≡ true → AreKnown d.roles
  none-known a d e h = subst (λ (z : OpcodeDesc). AreKnown z.roles) (some-same a d e) (ap (list_all (role_known (length t.classes) (length t.regs))) (no-roles a.roles h))

  desc-known : (os : List OpcodeDesc) (k : ℕ) (d : OpcodeDesc) → slice_get os k ≡ Some d → starts_with_the_five os ≡ true → list_all (is_opcode_desc t.units t.regs t.classes) (drop 5 os) ≡ true → AreKnown d.roles
  desc-known [] k d g five rest = absurd (cc)
  desc-known (a ∷ []) k d g five rest = absurd (cc)
  desc-known (a ∷ b ∷ []) k d g five rest = absurd (cc)
  desc-known (a ∷ b ∷ c ∷ []) k d g five rest = absurd (cc)
  desc-known (a ∷ b ∷ c ∷ x ∷ []) k d g five rest = absurd (cc)
  desc-known (a ∷ b ∷ c ∷ x ∷ y ∷ os) zero d g five rest = let q = first_of_both _ _ (first_of_both _ _ (first_of_both _ _ (first_of_both _ _ five))) in none-known a d g (second_of_both _ _ q)
  desc-known (a ∷ b ∷ c ∷ x ∷ y ∷ os) (suc zero) d g five rest = let q = second_of_both _ _ (first_of_both _ _ (first_of_both _ _ (first_of_both _ _ five))) in none-known b d g (second_of_both _ _ q)
  desc-known (a ∷ b ∷ c ∷ x ∷ y ∷ os) (suc (suc zero)) d g five rest = let q = second_of_both _ _ (first_of_both _ _ (first_of_both _ _ five)) in none-known c d g (second_of_both _ _ q)
  desc-known (a ∷ b ∷ c ∷ x ∷ y ∷ os) (suc (suc (suc zero))) d g five rest = let q = second_of_both _ _ (first_of_both _ _ five) in none-known x d g (second_of_both _ _ q)
  desc-known (a ∷ b ∷ c ∷ x ∷ y ∷ os) (suc (suc (suc (suc zero)))) d g five rest = let q = second_of_both _ _ five in none-known y d g (second_of_both _ _ q)
  desc-known (a ∷ b ∷ c ∷ x ∷ y ∷ os) (suc (suc (suc (suc (suc k))))) d g five rest =
      let good = all-of (is_opcode_desc t.units t.regs t.classes) d os (slice-member os k d g) rest in
      second_of_both _ _ (first_of_both _ _ (first_of_both _ _ good))

  pub roles-known : (i : Instr) → AreKnown (roles_of t i)
  roles-known i = by i.op
    where
      at : (q : Option OpcodeDesc) (k : ℕ) → slice_get t.opcodes k ≡ q → AreKnown (elim q as (λ q. List Role) [ None ↦ [] | Some d ↦ d.roles ])
      at None k g = refl
      at (Some d) k g =
          let all = opcodes_sound t.name t.version t.units t.regs t.reserved t.indexes t.classes t.masks t.opcodes t.sound in
          desc-known t.opcodes k d g (second_of_both _ _ (first_of_both _ _ (first_of_both _ _ all))) (second_of_both _ _ (first_of_both _ _ all))

      by : (o : Op) → AreKnown (elim (known_opcode t o) as (λ q. List Role) [ None ↦ [] | Some d ↦ d.roles ])
      by (ops.Known o) = at (slice_get t.opcodes o.0) o.0 refl
      by (ops.Excluded name) = refl

  below : (a c : ClassId) → Some a ≡ Some c → (n : ℕ) → nat_lt a.0 n ≡ true → c.0 < n
  below a c e n h = subst (λ (k : ClassId). k.0 < n) (some-same a c e) (ltb-true a.0 n h)

  asked-known : (m : ℕ) (r : Role) (c : ClassId) → asked_class r ≡ Some c → role_known (length t.classes) m r ≡ true → IsClass t c
  asked-known m (roles.Def k) c e h = below k c e (length t.classes) h
  asked-known m (roles.Early k) c e h = below k c e (length t.classes) h
  asked-known m (roles.Read k) c e h = below k c e (length t.classes) h
  asked-known m (roles.Tied k n) c e h = below k c e (length t.classes) h
  asked-known m (roles.Address k) c e h = below k c e (length t.classes) h
  asked-known m (roles.Value (Some k)) c e h = below k c e (length t.classes) h
  asked-known m (roles.Value None) c e h = absurd (cc)
  asked-known m r c e h = absurd (cc)

  role-class-known : (m : ℕ) (r : Role) (c : ClassId) → role_class r ≡ Some c → role_known (length t.classes) m r ≡ true → IsClass t c
  role-class-known m (roles.Def k) c e h = below k c e (length t.classes) h
  role-class-known m (roles.Early k) c e h = below k c e (length t.classes) h
  role-class-known m (roles.Read k) c e h = below k c e (length t.classes) h
  role-class-known m (roles.Tied k n) c e h = below k c e (length t.classes) h
  role-class-known m (roles.Value (Some k)) c e h = below k c e (length t.classes) h
  role-class-known m (roles.Value None) c e h = absurd (cc)
  role-class-known m r c e h = absurd (cc)

  pub widths-known : (ws : List ℕ) (k : ClassId) → class_of_widths t ws ≡ Some k → IsClass t k
  widths-known ws k e = go (position test t.classes) refl e
    where
      test : ClassDesc → Bool
      test d = same_numbers (class_widths t.units t.regs d.regs) ws

      go : (q : Option ℕ) → position (λ (d : ClassDesc). same_numbers (class_widths t.units t.regs d.regs) ws) t.classes ≡ q → option_map class_number q ≡ Some k → IsClass t k
      go None g h = absurd (cc)
      go (Some n) g h = subst (IsClass t) (some-same (class_number n) k h) (position_within (λ (d : ClassDesc). same_numbers (class_widths t.units t.regs d.regs) ws) t.classes n g)

  module _ (f : Function) where
    any-known : (o : RegOp) (l : Loc) (k : ClassId) → any_class t f o l ≡ Some k → IsClass t k
    any-known o (Virtual v) k e = go (class_of f v) e
      where
        go : (q : Option ClassId) → operand_moving t q o ≡ Some k → IsClass t k
        go None h = absurd (cc)
        go (Some c) h = widths-known (widths_of_some t (part_of t c o.index)) k h
    any-known o (Fixed r) k e = absurd (cc)

    pub operand-known : (i : Instr) (r : Option Role) (o : RegOp) (k : ClassId) → ((q : Role) → r ≡ Some q → Member q (roles_of t i)) → operand_class t f r o ≡ Some k → IsClass t k
    operand-known i None o k m e = absurd (cc)
    operand-known i (Some q) o k m e = go (is_any q) e
      where
        go : (b : Bool) → cond b (any_class t f o o.loc) (asked_class q) ≡ Some k → IsClass t k
        go true h = any-known o o.loc k h
        go false h = asked-known (length t.regs) q k h (all-of (role_known (length t.classes) (length t.regs)) q (roles_of t i) (m q refl) (roles-known i))

    -- roles of operands are those of the opcode
    pub explicit-role : (i : Instr) (os : List Operand) (r : Option Role) (x : Operand) → Member (r, x) (explicit_bound (explicit_roles (roles_of t i)) os) → (q : Role) → r ≡ Some q → Member q (roles_of t i)
    explicit-role i os r x m q e = (filter-of (λ (z : Role). not (is_implicit z)) q (roles_of t i) (bound-role (explicit_roles (roles_of t i)) os q x (subst (λ z. Member (z, x) (explicit_bound (explicit_roles (roles_of t i)) os)) e m))).0

    pub bound-known : (i : Instr) (r : Option Role) (x : Operand) → Member (r, x) (bound t i) → (q : Role) → r ≡ Some q → Member q (roles_of t i)
    bound-known i r x m q e =
        let rs = roles_of t i in
        either-elim (r, x) (explicit_bound (explicit_roles rs) (explicit_operands i.operands)) (map (implicit_bound (implicit_roles rs)) (implicit_registers i.operands))
        (λ k. explicit-role i (explicit_operands i.operands) r x k q e)
        (λ k. let z = map-of (implicit_bound (implicit_roles rs)) (r, x) (implicit_registers i.operands) k in
        (filter-of is_implicit q rs (find-in (takes_role z.0) (implicit_roles rs) q (sym (ap (λ (b : Bound). b.0) z.2) ∙ e))).0) m

    variable-known : (i : Instr) (b : Bool) (r : Option Role) (x : Operand) (v : Variable) (k : ClassId) → Member (r, x) (bound t i) → operand_variable t f b (r, x) ≡ Some v → v.class ≡ Some k → IsClass t k
    variable-known i b r (operands.Reg o) v k m e h = go o.loc e
      where
        class-of : (w u : Variable) → Some w ≡ Some u → w.class ≡ operand_class t f r o → u.class ≡ Some k → IsClass t k
        class-of w u q c d = operand-known i r o k (bound-known i r (operands.Reg o) m) (sym c ∙ (ap (λ (z : Variable). z.class) (some-same w u q) ∙ d))

        go : (l : Loc) → register_variable t f b r o l ≡ Some v → IsClass t k
        go (Fixed q) e = absurd (cc)
        go (Virtual w) e = by o.def (o.undef || passes is_tied r) e
          where
            by : (x y : Bool) → cond x (Some (variable (Defining b (passes is_early r)) w o.index (operand_class t f r o))) (cond y None (Some (variable Using w o.index (operand_class t f r o)))) ≡ Some v → IsClass t k
            by true y e = class-of (variable (Defining b (passes is_early r)) w o.index (operand_class t f r o)) v e refl h
            by false true e = absurd (cc)
            by false false e = class-of (variable Using w o.index (operand_class t f r o)) v e refl h
    variable-known i b r x v k m e h = absurd (cc)

    variables-known : (i : Instr) (v : Variable) (k : ClassId) → Member v (operand_variables t f i) → v.class ≡ Some k → IsClass t k
    variables-known i v k m h =
        let z = told-of (λ (p : ℕ × Bound). operand_variable t f (has_tied_use t i p.0) p.1) v (numbered 0 (bound t i)) m in
        variable-known i (has_tied_use t i z.0.0) z.0.1.0 z.0.1.1 v k (numbered-of 0 (bound t i) z.0 z.1) z.2 h

-- the class of what may be repeated is the target's
pub repeatable-known : (t : Target) (d : Instr) (k : ClassId) → repeatable_class t d ≡ Some k → IsClass t k
repeatable-known t d k e = go (does is_constant t d) e
  where
    of-roles : (rs : List Role) → list_all (role_known (length t.classes) (length t.regs)) rs ≡ true → definition_class rs ≡ Some k → IsClass t k
    of-roles [] h e = absurd (cc)
    of-roles (r ∷ rs) h e = role-class-known t (length t.regs) r k e (first_of_both (role_known (length t.classes) (length t.regs) r) (list_all (role_known (length t.classes) (length t.regs)) rs) h)

    of-operands : (os : List Operand) → whole_class t d os ≡ Some k → IsClass t k
    of-operands [] h = absurd (cc)
    of-operands (operands.Reg q ∷ os) h = by q.index h
      where
        by : (z : Option IndexId) → elim z as (λ z. Option ClassId) [ None ↦ definition_class (roles_of t d) | Some v ↦ None ] ≡ Some k → IsClass t k
        by None h = of-roles (roles_of t d) (roles-known t d) h
        by (Some v) h = absurd (cc)
    of-operands (q ∷ os) h = absurd (cc)

    go : (b : Bool) → cond b (whole_class t d d.operands) None ≡ Some k → IsClass t k
    go true h = of-operands d.operands h
    go false h = absurd (cc)

pub once-of : (seen vs : List Variable) (v : Variable) → Member v (each_once seen vs) → Member v vs
once-of seen [] v m = absurd (member-none v m)
once-of seen (w ∷ vs) v m = go (list_any (same_use w) seen) m (once-of seen vs v) (once-of (w ∷ seen) vs v)
  where
    go : (b : Bool) → Member v (cond b (each_once seen vs) (w ∷ each_once (w ∷ seen) vs)) → (Member v (each_once seen vs) → Member v vs) → (Member v (each_once (w ∷ seen) vs) → Member v vs) → Member v (w ∷ vs)
    go true m a b = later (a m)
    go false m a b = member-elim v w (each_once (w ∷ seen) vs) (λ e. subst (λ z. Member z (w ∷ vs)) (sym e) first) (λ k. later (b k)) m

module _ (s : Spilling) where
  abbrev AreKnownClasses : List (Option ClassId × ℕ) → Type 0
  AreKnownClasses xs = (x : Option ClassId × ℕ) → Member x xs → (k : ClassId) → x.0 ≡ Some k → IsClass s.target k

  moving-known : (q : Option ClassId) (x : Option IndexId) (k : ClassId) → option_and_then (λ c. move_class s.target c x) q ≡ Some k → IsClass s.target k
  moving-known None x k e = absurd (cc)
  moving-known (Some c) x k e = widths-known s.target (widths_of_some s.target (part_of s.target c x)) k e

  passing-known : (i : Instr) (q : Option ClassId) (from to : List Operand) → Passes s i q from to → (k : ClassId) → q ≡ Some k → IsClass s.target k
  passing-known i q from to (within {d} {o} e g h j) k r = moving-known (class_of s.func s.range) d.index k r
  passing-known i q from to (stored_on {o} {slot} e g h) k r = moving-known (class_of s.func s.range) o.index k r
  passing-known i q from to (reloaded_on {o} {slot} e g h) k r = moving-known (class_of s.func s.range) o.index k r

  pub way-known : (is : List Instr) (v : Variable) (k : ClassId) → Member v (ways_read s is) → v.class ≡ Some k → IsClass s.target k
  way-known is v k m h =
      let a = (filter-of (λ (x : Variable). not (is_defining x.kind)) v (each_once [] (flat_map (own_variables s) is)) m).0 in
      let b = flat-of (own_variables s) v is (once-of [] (flat_map (own_variables s) is) v a) in
      let c = (filter-of (λ (x : Variable). nat_eq x.range s.range) v (operand_variables s.target s.func b.0) b.2).0 in
      variables-known s.target s.func b.0 v k c h

  pub definition-known : (is : List Instr) (d : OwnDefinition) (k : ClassId) → Member d (definitions_in s is) → d.class ≡ Some k → IsClass s.target k
  definition-known is d k m h =
      let a = flat-of (λ i. filter_map (own_definition s i) (numbered_operands s.target i)) d is m in
      let b = told-of (own_definition s a.0) d (numbered_operands s.target a.0) a.2 in
      go a.0 b.0.0 b.0.1.0 b.0.1.1 (numbered-of 0 (explicit_bound (explicit_roles (roles_of s.target a.0)) a.0.operands) b.0 b.1) b.2
    where
      go : (i : Instr) (n : ℕ) (r : Option Role) (x : Operand) → Member (r, x) (explicit_bound (explicit_roles (roles_of s.target i)) i.operands) → own_definition s i (n, (r, x)) ≡ Some d → IsClass s.target k
      go i n r (operands.Reg o) m e = by (is_own s o && o.def) e
        where
          by : (b : Bool) → cond b (Some (record { by = i; number = n; index = o.index; class = operand_class s.target s.func r o })) None ≡ Some d → IsClass s.target k
          by true e = operand-known s.target s.func i r o k (explicit-role s.target s.func i i.operands r (operands.Reg o) m) (ap (λ (z : OwnDefinition). z.class) (some-same (record { by = i; number = n; index = o.index; class = operand_class s.target s.func r o }) d e) ∙ h)
          by false e = absurd (cc)
      go i n r x m e = absurd (cc)

  tinies-known : (n c : ℕ) (p : List Instr) (y : Change) → Outcome s n c p y → AreKnownClasses y.tinies
  tinies-known n c p y (stays k) x m = absurd (member-none x m)
  tinies-known n c p y (goes k) x m = absurd (member-none x m)
  tinies-known n c p y (replaced k) x m = absurd (member-none x m)
  tinies-known n c p y (repeats e h i q r) x m = absurd (member-none x m)
  tinies-known n c p y (passed {i} {k} {from} {to} w) x m = λ d e. member-elim x (k, n) [] (λ h. passing-known i k from to w d (sym (ap (λ (z : Option ClassId × ℕ). z.0) h) ∙ e)) (λ h. absurd (member-none x h)) m
  tinies-known n c p y (seated w) x m =
      let z = seats_from s c p in
      let ways = map (λ (a : ℕ × Variable). a.1.class) z.ways in
      let defs = map (λ (a : ℕ × OwnDefinition). a.1.class) z.definitions in
      let a = map-of (λ (k : Option ClassId). (k, place_name p)) x (ways ++ defs) m in
      λ k e.
      let is : a.0 ≡ Some k = sym (ap (λ (v : Option ClassId × ℕ). v.0) a.2) ∙ e in
      either-elim a.0 ways defs
      (λ q. let b = map-of (λ (v : ℕ × Variable). v.1.class) a.0 z.ways q in way-known p b.0.1 k (numbered-of c (ways_read s p) b.0 b.1) (sym b.2 ∙ is))
      (λ q. let b = map-of (λ (v : ℕ × OwnDefinition). v.1.class) a.0 z.definitions q in definition-known p b.0.1 k (numbered-of (c + length (ways_read s p)) (definitions_in s p) b.0 b.1) (sym b.2 ∙ is)) a.1

  abbrev Out : List Instr → Type 0
  Out p = (n c : ℕ) → Outcome s n c p (change s n c p)

  -- what holds of the tinies of each place holds of all

  module _ (Q : Option ClassId × ℕ → Type 0) where
    abbrev pub GivenBy : List Instr → Type 0
    GivenBy p = (n c : ℕ) (x : Option ClassId × ℕ) → Member x (change s n c p).tinies → Q x

    places-tinies : (n c : ℕ) (ps : List (List Instr)) → ((p : List Instr) → Member p ps → GivenBy p) → (x : Option ClassId × ℕ) → Member x (tinies_of (changes s n c ps)) → Q x
    places-tinies n c [] h x m = absurd (member-none x m)
    places-tinies n c (p ∷ ps) h x m =
        let y = numbered_change s n c p in
        let rest = changes s (n + new_ids y) (c + length y.tinies) ps in
        either-elim x y.tinies (tinies_of rest) (h p first n c x) (places-tinies (n + new_ids y) (c + length y.tinies) ps (λ q k. h q (later k)) x) m

    blocks-tinies : (n c : ℕ) (bs : List Block) → ((b : Block) → Member b bs → (p : List Instr) → Member p (places_of s.target b) → GivenBy p) → (x : Option ClassId × ℕ) → Member x (flat_map tinies_of (block_changes s n c bs)) → Q x
    blocks-tinies n c [] h x m = absurd (member-none x m)
    blocks-tinies n c (b ∷ bs) h x m =
        let ys = changes s n c (places_of s.target b) in
        let rest = block_changes s (n + sum_by new_ids ys) (c + length (tinies_of ys)) bs in
        either-elim x (tinies_of ys) (flat_map tinies_of rest) (places-tinies n c (places_of s.target b) (h b first) x) (blocks-tinies (n + sum_by new_ids ys) (c + length (tinies_of ys)) bs (λ d k. h d (later k)) x) m

    pub all-tinies : ((b : Block) → Member b s.func.blocks → (p : List Instr) → Member p (places_of s.target b) → GivenBy p) → (x : Option ClassId × ℕ) → Member x (flat_map tinies_of (all_changes s)) → Q x
    all-tinies h = blocks-tinies s.func.next_id (length s.func.classes) s.func.blocks h

  pub classes-known : AreClasses s.target s.func → ((b : Block) → Member b s.func.blocks → (p : List Instr) → Member p (places_of s.target b) → Out p) → AreClasses s.target (spilled s)
  classes-known classes h v k e = go (slice_get (s.func.classes ++ made s) v) refl (ap (λ (cs : List (Option ClassId)). elim (slice_get cs v) as (λ q. Option ClassId) [ None ↦ None | Some c ↦ c ]) (sym (classes-are s)) ∙ e)
    where
      all-known : AreKnownClasses (flat_map tinies_of (all_changes s))
      all-known = all-tinies (λ x. (k : ClassId) → x.0 ≡ Some k → IsClass s.target k) (λ b mb p mp n c. tinies-known n c p (change s n c p) (h b mb p mp n c))

      go : (q : Option (Option ClassId)) → slice_get (s.func.classes ++ made s) v ≡ q → elim q as (λ q. Option ClassId) [ None ↦ None | Some y ↦ y ] ≡ Some k → IsClass s.target k
      go None at h = absurd (cc)
      go (Some q) at is =
          let m : Member (Some k) (s.func.classes ++ made s) = subst (λ x. Member x (s.func.classes ++ made s)) is (slice-member (s.func.classes ++ made s) v q at) in
          either-elim (Some k) s.func.classes (made s)
          (λ a. let w = member-slice (Some k) s.func.classes a in classes w.0 k (ap (λ q. elim q as (λ q. Option ClassId) [ None ↦ None | Some y ↦ y ]) w.1))
          (λ a. let w = map-of (λ (x : Option ClassId × ℕ). x.0) (Some k) (flat_map tinies_of (all_changes s)) a in all-known w.0 w.1 k (sym w.2)) m
