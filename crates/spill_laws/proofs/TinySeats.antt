-- The tinies that take the place of the range in an instruction: each has the class of its operand, or one that lies within it,
-- and definitions have tinies of their own.
use Rattle.std.proofs.Common.{◌≡◌, ◌<◌, ◌≤◌, ◌+◌, ◌∙◌, ◌&&◌, not, ℕ, suc, Bool, true, false, cond, List, [], ◌∷◌, Option, Some, None, length, refl, sym, ap, subst, arith, eqb-true}
use Rattle.std.specs.Prelude.{filter_map, find, nat_eq, option_and_then, option_map, slice_get}
use Rattle.target_base.specs.declared.types.ClassId.{ClassId}
use Rattle.target_base.specs.declared.types.Effect.{Effect}
use Rattle.target_base.specs.declared.types.Role.{Role}
use Rattle.target_base.specs.declared.types.Role.TheVariants as roles
use Rattle.target_base.specs.declared.types.Target.{Target}
use Rattle.target_base.specs.Registers.{IsClass, regs_of}
use Rattle.target_base.specs.Roles.{is_any, is_definition as is_definition_role, is_implicit}
use Rattle.target_base.specs.Storage.{is_within}
use Rattle.target_base.proofs.Tests.{first_of_both, second_of_both}
use Rattle.meaning.specs.Live.{Among as Member, here as first, there as later}
use Rattle.mir_func.specs.declared.func.RegOp.{RegOp}
use Rattle.mir_func.specs.declared.func.Operand.{Operand}
use Rattle.mir_func.specs.declared.func.Operand.TheVariants as operands
use Rattle.mir_func.specs.declared.func.Instr.{Instr}
use Rattle.mir_func.specs.Value.{Function}
use Rattle.mir_func.specs.Binding.{Bound, any_class, as_register, asked_class, class_of, does, effect_of, explicit_bound, explicit_roles, numbered, operand_class, passes, register_at, roles_of, tied_number, tied_pair}
use Rattle.mir_meaning.specs.Places.{Using, Variable, same_class, same_use, variable}
use Rattle.mir_meaning.specs.Rules.{spills_or_reloads}
use Rattle.two_address.specs.Classes.{seated as with_roles}
use Rattle.instr_effects.proofs.Members.{filter-of, flat-of, member-elim, member-none}
use Rattle.live_laws.proofs.Effects.Moving.{some-same}
use Rattle.live_laws.proofs.Touch.Roles.{has_roles}
use Rattle.lowering_laws.proofs.Counted.{definition-class}
use Rattle.lowering_laws.proofs.Rolled.{fit-roles, leads-at, leads-definition, pair-leads, tied-role}
use Rattle.lowering_laws.proofs.RulesStay.{same-register}
use Rattle.lowering_laws.proofs.Seated.{bound-role, pair-of, pair_with, role-tied, told-in, told-of}
use Rattle.lowering_laws.proofs.TiedWidths.{lead-seat, tie-holds}
use Rattle.spiller.specs.Setting.{Spilling, is_own}
use Rattle.spiller.specs.Rematerialised.{ways_read}
use Rattle.spiller.specs.Spilled.{OwnDefinition, Seats, definitions_in, numbered_operands, own_definition, seats_from, tiny_defined, tiny_of, tiny_read, tiny_used}
use Rattle.spill_laws.specs.Laws.{HasTinies, is_placed}
use Rattle.spill_laws.proofs.Beside.{definition-tiny, way-tiny}
use Rattle.spill_laws.proofs.Classes.{within-self}
use Rattle.spill_laws.proofs.Copies.{range-is}
use Rattle.spill_laws.proofs.Given.{operand-at, operand-wide}
use Rattle.spill_laws.proofs.Ranges.{numbered-of}

-- things with their numbers

pub low-number : {X : Type 0} (n : ℕ) (xs : List X) (x : ℕ × X) → Member x (numbered n xs) → n ≤ x.0
low-number n [] x m = absurd (member-none x m)
low-number {X = X} n (y ∷ xs) x m = member-elim x (n, y) (numbered (suc n) xs) (λ e. let w : x.0 ≡ n = ap (λ (v : ℕ × X). v.0) e in omega (arith, w)) (λ k. let w = low-number (suc n) xs x k in omega (arith, w)) m

pub high-number : {X : Type 0} (n : ℕ) (xs : List X) (x : ℕ × X) → Member x (numbered n xs) → x.0 < n + length xs
high-number n [] x m = absurd (member-none x m)
high-number {X = X} n (y ∷ xs) x m = member-elim x (n, y) (numbered (suc n) xs) (λ e. let w : x.0 ≡ n = ap (λ (v : ℕ × X). v.0) e in omega (arith, w)) (λ k. let w = high-number (suc n) xs x k in omega (arith, w)) m

pub one-number : {X : Type 0} (n : ℕ) (xs : List X) (k : ℕ) (x y : X) → Member (k, x) (numbered n xs) → Member (k, y) (numbered n xs) → x ≡ y
one-number n [] k x y a b = absurd (member-none (k, x) a)
one-number {X = X} n (w ∷ xs) k x y a b =
    member-elim (k, x) (n, w) (numbered (suc n) xs)
    (λ e. member-elim (k, y) (n, w) (numbered (suc n) xs) (λ h. ap (λ (v : ℕ × X). v.1) e ∙ sym (ap (λ (v : ℕ × X). v.1) h)) (λ j. absurd (past (ap (λ (v : ℕ × X). v.0) e) y j)) b)
    (λ i. member-elim (k, y) (n, w) (numbered (suc n) xs) (λ h. absurd (past (ap (λ (v : ℕ × X). v.0) h) x i)) (λ j. one-number (suc n) xs k x y i j) b) a
  where
    past : k ≡ n → (u : X) → Member (k, u) (numbered (suc n) xs) → ⊥
    past e u j = let l = low-number (suc n) xs (k, u) j in omega (arith, e, l)

pub slice-number : {X : Type 0} (n : ℕ) (xs : List X) (x : ℕ × X) → Member x (numbered n xs) → (j : ℕ) × (x.0 ≡ n + j) × (slice_get xs j ≡ Some x.1)
slice-number n [] x m = absurd (member-none x m)
slice-number {X = X} n (y ∷ xs) x m =
    member-elim x (n, y) (numbered (suc n) xs)
    (λ e. (0, ap (λ (v : ℕ × X). v.0) e ∙ nothing n, ap (λ (v : ℕ × X). Some v.1) (sym e)))
    (λ k. let w = slice-number (suc n) xs x k in (suc w.0, w.1 ∙ one n w.0, w.2)) m
  where
    nothing : (n : ℕ) → n ≡ n + 0
    nothing n = omega arith

    one : (n j : ℕ) → suc n + j ≡ n + suc j
    one n j = omega arith

pub found : {X : Type 0} (test : X → Bool) (xs : List X) (x : X) → find test xs ≡ Some x → Member x xs × (test x ≡ true)
found test [] x e = absurd (cc)
found {X = X} test (y ∷ xs) x e = go (test y) refl e (found test xs x)
  where
    go : (b : Bool) → test y ≡ b → cond b (Some y) (find test xs) ≡ Some x → (find test xs ≡ Some x → Member x xs × (test x ≡ true)) → Member x (y ∷ xs) × (test x ≡ true)
    go true g h ih = let w = some-same y x h in (subst (λ v. Member v (y ∷ xs)) w first, subst (λ v. test v ≡ true) w g)
    go false g h ih = let w = ih h in (later w.0, w.1)

pub same-class-is : (x y : Option ClassId) → same_class x y ≡ true → x ≡ y
same-class-is None None h = refl
same-class-is (Some x) (Some y) h = ap (λ n. Some (record { 0 = n })) (eqb-true x.0 y.0 h)
same-class-is None (Some y) h = absurd (cc)
same-class-is (Some x) None h = absurd (cc)

any-asks-none : (r : Role) → is_any r ≡ true → asked_class r ≡ None
any-asks-none roles.Any h = refl
any-asks-none r h = absurd (cc)

-- an instruction that gets tinies has roles
pub record Rolled (t : Target) (i : Instr) : Type 0 where
  pub effect : Effect
  pub known : effect_of t i ≡ Some effect
  pub rolled : has_roles effect ≡ true
  pub unspilled : spills_or_reloads effect ≡ false

pub rolled-by : (t : Target) (i : Instr) → does is_placed t i ≡ true → Rolled t i
rolled-by t i placed = go (effect_of t i) refl placed
  where
    not-true : (b : Bool) → not b ≡ true → b ≡ false
    not-true true e = absurd (cc)
    not-true false e = refl

    go : (q : Option Effect) → effect_of t i ≡ q → passes is_placed q ≡ true → Rolled t i
    go None e h = absurd (cc)
    go (Some x) e h = record { effect = x; known = e; rolled = first_of_both (has_roles x) _ h; unspilled = not-true (spills_or_reloads x) (second_of_both (has_roles x) _ h) }

module _ (s : Spilling) (g : Function) (c : ℕ) (p : List Instr) (h : HasTinies s g c p) where
  abbrev t : Target
  t = s.target

  abbrev f : Function
  f = s.func

  abbrev pub place_seats : Seats
  place_seats = seats_from s c p

  abbrev ways : ℕ
  ways = length (ways_read s p)

  abbrev es : Instr → List Role
  es i = explicit_roles (roles_of t i)

  -- definitions

  record IsDefinition (i : Instr) (d : OwnDefinition) : Type 0 where
    pub role : Option Role
    pub operand : RegOp
    pub among : Member (d.number, (role, operands.Reg operand)) (numbered_operands t i)
    pub own : is_own s operand ≡ true
    pub class : d.class ≡ operand_class t f role operand

  defines : (i : Instr) (d : OwnDefinition) → Member d (filter_map (own_definition s i) (numbered_operands t i)) → IsDefinition i d × (d.by ≡ i)
  defines i d m = let w = told-of (own_definition s i) d (numbered_operands t i) m in go w.0.0 w.0.1.0 w.0.1.1 w.1 w.2
    where
      go : (n : ℕ) (r : Option Role) (x : Operand) → Member (n, (r, x)) (numbered_operands t i) → own_definition s i (n, (r, x)) ≡ Some d → IsDefinition i d × (d.by ≡ i)
      go n r (operands.Reg o) m e = by (is_own s o) o.def refl e
        where
          by : (a b : Bool) → is_own s o ≡ a → cond (a && b) (Some (record { by = i; number = n; index = o.index; class = operand_class t f r o })) None ≡ Some d → IsDefinition i d × (d.by ≡ i)
          by true true own e = subst (λ (x : OwnDefinition). IsDefinition i x × (x.by ≡ i)) (some-same (record { by = i; number = n; index = o.index; class = operand_class t f r o }) d e) (record { role = r; operand = o; among = m; own = own; class = refl }, refl)
          by true false own e = absurd (cc)
          by false b own e = absurd (cc)
      go n r x m e = absurd (cc)

  pub record DefinedTiny (i : Instr) (k n : ℕ) : Type 0 where
    pub by : OwnDefinition
    pub among : Member (n, by) place_seats.definitions
    pub id : by.by.id ≡ i.id
    pub number : by.number ≡ k

  pub defined-tiny : (i : Instr) (k n : ℕ) → tiny_defined place_seats i k ≡ Some n → DefinedTiny i k n
  defined-tiny i k n e = go (find (λ (x : ℕ × OwnDefinition). nat_eq x.1.by.id i.id && nat_eq x.1.number k) place_seats.definitions) refl e
    where
      go : (q : Option (ℕ × OwnDefinition)) → find (λ (x : ℕ × OwnDefinition). nat_eq x.1.by.id i.id && nat_eq x.1.number k) place_seats.definitions ≡ q → option_map (λ (x : ℕ × OwnDefinition). x.0) q ≡ Some n → DefinedTiny i k n
      go None a b = absurd (cc)
      go (Some w) a b =
          let v = found (λ (x : ℕ × OwnDefinition). nat_eq x.1.by.id i.id && nat_eq x.1.number k) place_seats.definitions w a in
          record {
            by = w.1;
            among = subst (λ m. Member (m, w.1) place_seats.definitions) (some-same w.0 n b) v.0;
            id = eqb-true w.1.by.id i.id (first_of_both (nat_eq w.1.by.id i.id) (nat_eq w.1.number k) v.1);
            number = eqb-true w.1.number k (second_of_both (nat_eq w.1.by.id i.id) (nat_eq w.1.number k) v.1);
          }

  -- the tinies of definitions stand behind those of ways of reading
  pub defined-low : (i : Instr) (k n : ℕ) → tiny_defined place_seats i k ≡ Some n → c + ways ≤ n
  defined-low i k n e = let w = defined-tiny i k n e in low-number (c + ways) (definitions_in s p) (n, w.by) w.among

  pub one-tiny : (i : Instr) (a b n : ℕ) → tiny_defined place_seats i a ≡ Some n → tiny_defined place_seats i b ≡ Some n → a ≡ b
  one-tiny i a b n e g =
      let w = defined-tiny i a n e in
      let v = defined-tiny i b n g in
      sym w.number ∙ (ap (λ (d : OwnDefinition). d.number) (one-number (c + ways) (definitions_in s p) n w.by v.by w.among v.among) ∙ v.number)

  record ReadTiny (q : Option Role) (o : RegOp) (n : ℕ) : Type 0 where
    pub way : Variable
    pub among : Member (n, way) place_seats.ways
    pub class : operand_class t f q o ≡ way.class

  read-tiny : (q : Option Role) (o : RegOp) (n : ℕ) → tiny_read s place_seats q o ≡ Some n → ReadTiny q o n
  read-tiny q o n e = go (find (λ (x : ℕ × Variable). same_use (variable Using s.range o.index (operand_class t f q o)) x.1) place_seats.ways) refl e
    where
      go : (y : Option (ℕ × Variable)) → find (λ (x : ℕ × Variable). same_use (variable Using s.range o.index (operand_class t f q o)) x.1) place_seats.ways ≡ y → option_map (λ (x : ℕ × Variable). x.0) y ≡ Some n → ReadTiny q o n
      go None a b = absurd (cc)
      go (Some w) a b =
          let v = found (λ (x : ℕ × Variable). same_use (variable Using s.range o.index (operand_class t f q o)) x.1) place_seats.ways w a in
          record { way = w.1; among = subst (λ m. Member (m, w.1) place_seats.ways) (some-same w.0 n b) v.0; class = same-class-is (operand_class t f q o) w.1.class (second_of_both _ (same_class (operand_class t f q o) w.1.class) v.1) }

  pub read-high : (q : Option Role) (o : RegOp) (n : ℕ) → tiny_read s place_seats q o ≡ Some n → n < c + ways
  read-high q o n e = let w = read-tiny q o n e in high-number c (ways_read s p) (n, w.way) w.among

  pub read-low : (q : Option Role) (o : RegOp) (n : ℕ) → tiny_read s place_seats q o ≡ Some n → c ≤ n
  read-low q o n e = let w = read-tiny q o n e in low-number c (ways_read s p) (n, w.way) w.among

  -- which tiny takes an operand's place
  pub data Source (i : Instr) (k : ℕ) (q : Option Role) (o : RegOp) (n : ℕ) : Type 0 where
    definition : o.def ≡ true → tiny_defined place_seats i k ≡ Some n → Source i k q o n
    tied : (j : ℕ) → o.def ≡ false → option_and_then tied_number q ≡ Some j → tiny_defined place_seats i j ≡ Some n → Source i k q o n
    reading : o.def ≡ false → tiny_read s place_seats q o ≡ Some n → Source i k q o n

  pub source : (i : Instr) (k : ℕ) (q : Option Role) (o : RegOp) (n : ℕ) → tiny_of s place_seats i k q o ≡ Some n → Source i k q o n
  source i k q o n e = go o.def refl e
    where
      used : o.def ≡ false → (x : Option ℕ) → option_and_then tied_number q ≡ x → elim x as (λ x. Option ℕ) [ None ↦ cond o.undef None (tiny_read s place_seats q o) | Some j ↦ tiny_defined place_seats i j ] ≡ Some n → Source i k q o n
      used d None a b = plain o.undef b
        where
          plain : (u : Bool) → cond u None (tiny_read s place_seats q o) ≡ Some n → Source i k q o n
          plain true b = absurd (cc)
          plain false b = reading d b
      used d (Some j) a b = tied j d a b

      go : (b : Bool) → o.def ≡ b → cond b (tiny_defined place_seats i k) (tiny_used s place_seats i q o) ≡ Some n → Source i k q o n
      go true d b = definition d b
      go false d b = used d (option_and_then tied_number q) refl b

  pub tiny-further : (i : Instr) (k : ℕ) (q : Option Role) (o : RegOp) (n : ℕ) → Source i k q o n → length f.classes ≤ n
  tiny-further i k q o n (definition d e) = let w = defined-low i k n e in let v = h.further in omega (arith, w, v)
  tiny-further i k q o n (tied j d a e) = let w = defined-low i j n e in let v = h.further in omega (arith, w, v)
  tiny-further i k q o n (reading d e) = let w = read-low q o n e in let v = h.further in omega (arith, w, v)

  -- a tiny lies in the class that the role of its operand asks for
  pub record Tiny (q : Option Role) (n : ℕ) : Type 0 where
    pub class : ClassId
    pub is : class_of g n ≡ Some class
    pub known : IsClass t class
    pub lies : (a : ClassId) → option_and_then asked_class q ≡ Some a → is_within (regs_of t class) (regs_of t a) ≡ true

  asked-same : (r : Role) (o : RegOp) (k a : ClassId) → operand_class t f (Some r) o ≡ Some k → asked_class r ≡ Some a → k ≡ a
  asked-same r o k a e asks = go (is_any r) refl e
    where
      go : (b : Bool) → is_any r ≡ b → cond b (any_class t f o o.loc) (asked_class r) ≡ Some k → k ≡ a
      go true b e = absurd (let x = any-asks-none r b in cc)
      go false b e = some-same k a (sym e ∙ asks)

  module _ (i : Instr) (mi : Member i p) where
    there : (k : ℕ) (q : Option Role) (o : RegOp) → Member (k, (q, operands.Reg o)) (numbered_operands t i) → Member (q, operands.Reg o) (explicit_bound (es i) i.operands)
    there k q o m = numbered-of 0 (explicit_bound (es i) i.operands) (k, (q, operands.Reg o)) m

    of-operand : (k : ℕ) (q : Option Role) (o : RegOp) → Member (k, (q, operands.Reg o)) (numbered_operands t i) → is_own s o ≡ true → (n : ℕ) → class_of g n ≡ operand_class t f q o → Tiny q n
    of-operand k q o m own n e =
        let w = operand-wide s g h.keeps h.classes i (h.shaped i mi) (h.placed i mi) o s.range (range-is s g h.keeps h.classes s.range o.loc own) q (there k q o m) in
        record { class = w.class; is = e ∙ w.is; known = w.known; lies = go w.class q w.is }
      where
        go : (b : ClassId) (q : Option Role) → operand_class t f q o ≡ Some b → (a : ClassId) → option_and_then asked_class q ≡ Some a → is_within (regs_of t b) (regs_of t a) ≡ true
        go b None e a x = absurd (cc)
        go b (Some r) e a x = subst (λ v. is_within (regs_of t b) (regs_of t v) ≡ true) (asked-same r o b a e x) (within-self (regs_of t b))

    record Site (k n : ℕ) : Type 0 where
      pub by : OwnDefinition
      pub number : by.number ≡ k
      pub is : IsDefinition i by
      pub class : class_of g n ≡ operand_class t f is.role is.operand

    site : (k n : ℕ) → tiny_defined place_seats i k ≡ Some n → Site k n
    site k n e =
        let w = defined-tiny i k n e in
        let m = numbered-of (c + ways) (definitions_in s p) (n, w.by) w.among in
        let y = flat-of (λ j. filter_map (own_definition s j) (numbered_operands s.target j)) w.by p m in
        let v = defines y.0 w.by y.2 in
        let same : y.0 ≡ i = h.once y.0 i y.1 mi (ap (λ (j : Instr). j.id) (sym v.1) ∙ w.id) in
        at-site k n w.by w.number (subst (λ j. IsDefinition j w.by) same v.0) (definition-tiny s g c p h.tinies (n, w.by) w.among)
      where
        at-site : (k n : ℕ) (d : OwnDefinition) → d.number ≡ k → IsDefinition i d → class_of g n ≡ d.class → Site k n
        at-site k n d number is class = record { by = d; number = number; is = is; class = class ∙ is.class }

    of-definition : (k : ℕ) (q : Option Role) (o : RegOp) → Member (k, (q, operands.Reg o)) (numbered_operands t i) → is_own s o ≡ true → (n : ℕ) → tiny_defined place_seats i k ≡ Some n → Tiny q n
    of-definition k q o m own n e =
        let w = site k n e in
        let at : Member (k, (w.is.role, operands.Reg w.is.operand)) (numbered_operands t i) = subst (λ j. Member (j, (w.is.role, operands.Reg w.is.operand)) (numbered_operands t i)) w.number w.is.among in
        let same : (w.is.role, operands.Reg w.is.operand) ≡ (q, operands.Reg o) = one-number 0 (explicit_bound (es i) i.operands) k (w.is.role, operands.Reg w.is.operand) (q, operands.Reg o) at m in
        let operand = same-register w.is.operand o (ap (λ (b : Bound). b.1) same) in
        of-operand k q o m own n (w.class ∙ (λ x. operand_class t f (ap (λ (b : Bound). b.0) same x) (operand x)))

    definition-asks : (r : Role) (o : RegOp) → is_definition_role r ≡ true → operand_class t f (Some r) o ≡ asked_class r
    definition-asks (roles.Def k) o e = refl
    definition-asks (roles.Early k) o e = refl
    definition-asks r o e = absurd (cc)

    of-tie : (k : ℕ) (q : Option Role) (o : RegOp) → Member (k, (q, operands.Reg o)) (numbered_operands t i) → (j n : ℕ) → option_and_then tied_number q ≡ Some j → tiny_defined place_seats i j ≡ Some n → Tiny q n
    of-tie k q o m j n ties e =
        let w = site j n e in
        let d = w.is.operand in
        let a = operand-at 0 (es i) i.operands w.by.number w.is.role (operands.Reg d) w.is.among in
        let at : register_at i.operands j ≡ Some d = ap (register_at i.operands) (sym w.number ∙ (a.1 ∙ nothing a.0)) ∙ ap (λ (x : Option Operand). option_and_then as_register x) a.2 in
        let pair = pair_with j d o in
        let r = rolled-by t i (h.placed i mi) in
        let one = (h.shaped i mi).operands in
        let member = told-in (tied_pair i.operands) pair (q, operands.Reg o) (with_roles t i) (there k q o m) (pair-of i.operands q o j d ties at) in
        let leads = (pair-leads t f i r.effect r.known r.rolled one pair member).0 in
        let v = slice-number 0 (explicit_bound (es i) i.operands) (w.by.number, (w.is.role, operands.Reg d)) w.is.among in
        let role : w.is.role ≡ Some leads.0 = lead-seat t leads.1 i.operands w.is.role (operands.Reg d) (ap (slice_get (explicit_bound (es i) i.operands)) (sym w.number ∙ (v.1 ∙ nothing v.0)) ∙ v.2) in
        let y = definition-class leads.0 (leads-definition leads.1) in
        let own = of-operand w.by.number w.is.role d w.is.among w.is.own n w.class in
        let class : own.class ≡ y.0 = some-same own.class y.0 (sym own.is ∙ (w.class ∙ (ap (λ x. operand_class t f x d) role ∙ (definition-asks leads.0 d (leads-definition leads.1) ∙ y.2)))) in
        let u = role-tied q j ties in
        let x = tied-role u.0 j (subst (λ b. option_and_then tied_number b ≡ Some j) u.1 ties) in
        let is : q ≡ Some (roles.Tied x.0 j) = u.1 ∙ ap Some x.1 in
        let among : Member (roles.Tied x.0 j) (roles_of t i) = (filter-of (λ (b : Role). not (is_implicit b)) (roles.Tied x.0 j) (roles_of t i) (bound-role (es i) i.operands (roles.Tied x.0 j) (operands.Reg o) (subst (λ b. Member (b, operands.Reg o) (explicit_bound (es i) i.operands)) is (there k q o m)))).0 in
        let holds = tie-holds t r.effect (roles_of t i) (fit-roles t f i r.effect r.known r.rolled one) r.rolled x.0 j among leads.0 y.0 (leads-at leads.1) y.1 in
        record {
          class = own.class;
          is = own.is;
          known = own.known;
          lies = λ b asks. subst (λ v. is_within (regs_of t own.class) (regs_of t v) ≡ true) (some-same x.0 b (sym (ap (option_and_then asked_class) is) ∙ asks)) (subst (λ v. is_within (regs_of t v) (regs_of t x.0) ≡ true) (sym class) holds);
        }
      where
        nothing : (k : ℕ) → 0 + k ≡ k
        nothing k = omega arith

    pub tiny-lies : (k : ℕ) (q : Option Role) (o : RegOp) → Member (k, (q, operands.Reg o)) (numbered_operands t i) → is_own s o ≡ true → (n : ℕ) → Source i k q o n → Tiny q n
    tiny-lies k q o m own n (definition d e) = of-definition k q o m own n e
    tiny-lies k q o m own n (tied j d a e) = of-tie k q o m j n a e
    tiny-lies k q o m own n (reading d e) = let w = read-tiny q o n e in of-operand k q o m own n (way-tiny s g c p h.tinies (n, w.way) w.among ∙ sym w.class)
