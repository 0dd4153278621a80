-- An instruction with tinies in place of the range keeps rules 1 to 4: its operands fit the roles of its opcode, and lie in the
-- classes that these ask for.
use Rattle.std.proofs.Common.{◌≡◌, ◌⊎◌, inl, inr, ◌++◌, ◌∙◌, ◌&&◌, ◌||◌, not, ℕ, suc, Bool, true, false, cond, List, [], ◌∷◌, Option, Some, None, map, refl, sym, ap, subst}
use Rattle.std.specs.Prelude.{is_some, option_and_then, option_to_list}
use Rattle.std.specs.List.{list_all}
use Rattle.target_base.specs.declared.types.ClassId.{ClassId}
use Rattle.target_base.specs.declared.types.Effect.{Effect}
use Rattle.target_base.specs.declared.types.Effect.TheVariants as effects
use Rattle.target_base.specs.declared.types.OpcodeDesc.{OpcodeDesc}
use Rattle.target_base.specs.declared.types.Role.{Role}
use Rattle.target_base.specs.declared.types.Target.{Target}
use Rattle.target_base.specs.Registers.{fits}
use Rattle.target_base.proofs.Tests.{first_of_both, second_of_both}
use Rattle.meaning.specs.Live.{Among as Member, here as first, there as later}
use Rattle.mir_func.specs.declared.func.Loc.{Loc}
use Rattle.mir_func.specs.declared.func.Loc.TheVariants.{Fixed, Virtual}
use Rattle.mir_func.specs.declared.func.RegOp.{RegOp}
use Rattle.mir_func.specs.declared.func.Operand.{Operand}
use Rattle.mir_func.specs.declared.func.Operand.TheVariants as operands
use Rattle.mir_func.specs.declared.func.Instr.{Instr}
use Rattle.mir_func.specs.Value.{Function}
use Rattle.mir_func.specs.Binding.{Bound, asked_class, bound, explicit_bound, explicit_operands, explicit_roles, immediate_of, implicit_bound, implicit_registers, implicit_roles, is_definition, is_implicit_operand, is_use, is_virtual, numbered, passes, puts_together, registers, roles_of, takes_many}
use Rattle.mir_meaning.specs.Points.{is_range}
use Rattle.mir_meaning.specs.Rules.{V1, V2, V3, V4, explicit_fit, fits_at, has_class, has_lanes, implicit_fit, implicit_last, in_operand_class, index_fits, is_condition, is_taken_reserved, lies_in, operands_fit, register_lies_in, spills_or_reloads, subregs_fit, widths_fit}
use Rattle.instr_effects.proofs.Members.{either-elim, filter-of, map-of, member-elim}
use Rattle.live_laws.proofs.Effects.Shapes.{class-there, index-there}
use Rattle.live_laws.proofs.Touch.Roles.{has_roles, met}
use Rattle.lowering_laws.proofs.Counted.{operand-class}
use Rattle.lowering_laws.proofs.Formed.{all-by}
use Rattle.lowering_laws.proofs.Rolled.{fit-operands}
use Rattle.lowering_laws.proofs.RulesStay.{class-stays, in-class, index-stays, same-register}
use Rattle.lowering_laws.proofs.Seated.{bound-operand, register-in}
use Rattle.lowering_laws.proofs.TiedOperands.{AsBefore, fits-on}
use Rattle.spiller.specs.Setting.{Spilling, is_own}
use Rattle.spiller.specs.Spilled.{Seats, as_tiny, numbered_operands, seated, seats_from, with_tinies}
use Rattle.spill_laws.specs.Laws.{HasTinies}
use Rattle.spill_laws.proofs.Copies.{range-is}
use Rattle.spill_laws.proofs.Ranges.{numbered-of}
use Rattle.spill_laws.proofs.Seated.{not-implicit}
use Rattle.spill_laws.proofs.TinySeats.{Rolled, Tiny, rolled-by, source, tiny-lies}
use Rattle.spill_laws.proofs.Turned.{OwnExplicit, Turn, after, bound-is, explicit-after, explicit-number, immediate-after, implicit-after, kept, last-stays, registers-of, seat, tiny, turn, turned}

or-true : (b : Bool) → (b || true) ≡ true
or-true true = refl
or-true false = refl

-- the effect has roles, and so it puts nothing together and no widths have to be equal

no-parts : (e : Effect) → has_roles e ≡ true → puts_together e ≡ false
no-parts effects.RegSequence h = absurd (cc)
no-parts effects.InsertSubreg h = absurd (cc)
no-parts e h = refl

no-widths : (t : Target) (g : Function) (e : Effect) (os : List Operand) → has_roles e ≡ true → widths_fit t g e os ≡ true
no-widths t g effects.Copy os h = absurd (cc)
no-widths t g effects.Phi os h = absurd (cc)
no-widths t g effects.ImplicitDef os h = absurd (cc)
no-widths t g effects.RegSequence os h = absurd (cc)
no-widths t g effects.InsertSubreg os h = absurd (cc)
no-widths t g e os h = refl

-- rule 1 by its parts
fit-by-parts : (t : Target) (f g : Function) (d : OpcodeDesc) (os os' : List Operand) (e : Effect) → has_roles e ≡ true → spills_or_reloads e ≡ false → operands_fit t f d os e ≡ true → implicit_last os' ≡ true → explicit_fit t e (explicit_roles d.roles) (explicit_operands os') ≡ true → implicit_registers os' ≡ implicit_registers os → immediate_of os' ≡ immediate_of os → operands_fit t g d os' e ≡ true
fit-by-parts t f g d os os' effects.Copy h s w l x im z = absurd (cc)
fit-by-parts t f g d os os' effects.Phi h s w l x im z = absurd (cc)
fit-by-parts t f g d os os' effects.ImplicitDef h s w l x im z = absurd (cc)
fit-by-parts t f g d os os' effects.RegSequence h s w l x im z = absurd (cc)
fit-by-parts t f g d os os' effects.InsertSubreg h s w l x im z = absurd (cc)
fit-by-parts t f g d os os' effects.Spill h s w l x im z = absurd (cc)
fit-by-parts t f g d os os' effects.Reload h s w l x im z = absurd (cc)
fit-by-parts t f g d os os' effects.Jcc h s w l x im z =
    let a = first_of_both _ (is_condition (immediate_of os)) w in
    let b = second_of_both _ (is_condition (immediate_of os)) w in
    λ k. l k && x k && (ap (implicit_fit d) im ∙ second_of_both _ (implicit_fit d (implicit_registers os)) a) k && (ap is_condition z ∙ b) k
fit-by-parts t f g d os os' e h s w l x im z =
    let a = first_of_both _ true w in
    λ k. l k && x k && (ap (implicit_fit d) im ∙ second_of_both _ (implicit_fit d (implicit_registers os)) a) k && true

-- where a numbered one stands
pub split-number : {X : Type 0} (m : ℕ) (xs ys : List X) (x : ℕ × X) → Member x (numbered m (xs ++ ys)) → Member x (numbered m xs) ⊎ Member x.1 ys
split-number m [] ys x a = inr (numbered-of m ys x a)
split-number {X = X} m (w ∷ xs) ys x a =
    member-elim x (m, w) (numbered (suc m) (xs ++ ys)) (λ e. inl (subst (λ v. Member v ((m, w) ∷ numbered (suc m) xs)) (sym e) first)) (λ k. go (split-number (suc m) xs ys x k)) a
  where
    go : Member x (numbered (suc m) xs) ⊎ Member x.1 ys → Member x (numbered m (w ∷ xs)) ⊎ Member x.1 ys
    go (inl k) = inl (later k)
    go (inr k) = inr k

-- a register among the operands with their roles
pub bound-register : (t : Target) (i : Instr) (x : Bound) → Member x (bound t i) → (o : RegOp) → x.1 ≡ operands.Reg o → Member o (registers i.operands)
bound-register t i x m o e =
    let rs = roles_of t i in
    let os = i.operands in
    either-elim x (explicit_bound (explicit_roles rs) (explicit_operands os)) (map (implicit_bound (implicit_roles rs)) (implicit_registers os))
    (λ k.
    let y = bound-operand (explicit_roles rs) (explicit_operands os) x.0 x.1 k in
    let w = (filter-of (λ q. not (is_implicit_operand q)) x.1 os y).0 in
    register-in o os (subst (λ q. Member q os) e w))
    (λ k.
    let y = map-of (implicit_bound (implicit_roles rs)) x (implicit_registers os) k in
    let w = (filter-of (λ (q : RegOp). q.implicit) y.0 (registers os) y.1).0 in
    subst (λ (q : RegOp). Member q (registers os)) (same-register y.0 o (sym (ap (λ (b : Bound). b.1) y.2) ∙ e)) w)
    m

module _ (s : Spilling) (g : Function) (c : ℕ) (p : List Instr) (h : HasTinies s g c p) (i : Instr) (mi : Member i p) where
  abbrev t : Target
  t = s.target

  abbrev f : Function
  f = s.func

  abbrev z : Seats
  z = seats_from s c p

  abbrev os : List Operand
  os = i.operands

  abbrev es : List Role
  es = explicit_roles (roles_of s.target i)

  abbrev pub new_instr : Instr
  new_instr = with_tinies s (seats_from s c p) i

  pub rolled : Rolled s.target i
  rolled = rolled-by s.target i (h.placed i mi)

  pub own-explicit : OwnExplicit s z i os
  own-explicit o m own = let r = rolled in not-implicit t f h.classes i (h.shaped i mi) r.effect r.known r.rolled o s.range (range-is s g h.keeps h.classes s.range o.loc own) (register-in o os m)

  pub last : implicit_last os ≡ true
  last = let r = rolled in (fit-operands t f i r.effect r.known r.rolled (h.shaped i mi).operands).0

  pub operand-there : (k : ℕ) (q : Option Role) (o : RegOp) → Member (k, (q, operands.Reg o)) (numbered_operands t i) → Member (operands.Reg o) os
  operand-there k q o m = bound-operand es os q (operands.Reg o) (numbered-of 0 (explicit_bound es os) (k, (q, operands.Reg o)) m)

  pub bound-there : (x : Bound) → Member x (bound t i) → (o : RegOp) → x.1 ≡ operands.Reg o → Member o (registers os)
  bound-there = bound-register t i

  -- the range among them has the number that it has among all operands
  pub own-number : (k : ℕ) (q : Option Role) (o : RegOp) → Member (k, (q, operands.Reg o)) (numbered 0 (bound t i)) → is_own s o ≡ true → Member (k, (q, operands.Reg o)) (numbered_operands t i)
  own-number k q o m own = go (split-number 0 (explicit_bound es (explicit_operands os)) (map (implicit_bound (implicit_roles (roles_of t i))) (implicit_registers os)) (k, (q, operands.Reg o)) m)
    where
      go : Member (k, (q, operands.Reg o)) (numbered 0 (explicit_bound es (explicit_operands os))) ⊎ Member (q, operands.Reg o) (map (implicit_bound (implicit_roles (roles_of t i))) (implicit_registers os)) → Member (k, (q, operands.Reg o)) (numbered_operands t i)
      go (inl a) = explicit-number s z i 0 es os last (k, (q, operands.Reg o)) a
      go (inr a) =
          let y = map-of (implicit_bound (implicit_roles (roles_of t i))) (q, operands.Reg o) (implicit_registers os) a in
          let w = filter-of (λ (x : RegOp). x.implicit) y.0 (registers os) y.1 in
          let same : y.0 ≡ o = same-register y.0 o (sym (ap (λ (b : Bound). b.1) y.2)) in
          let there = subst (λ (x : RegOp). Member x (registers os)) same w.0 in
          let r = rolled in
          absurd (let a = not-implicit t f h.classes i (h.shaped i mi) r.effect r.known r.rolled o s.range (range-is s g h.keeps h.classes s.range o.loc own) there in let b : o.implicit ≡ true = sym (ap (λ (x : RegOp). x.implicit) same) ∙ w.1 in cc)

  -- an operand is as before, or a tiny that lies in its class
  pub data Now (k : ℕ) (q : Option Role) (o o' : RegOp) : Type 0 where
    same : o' ≡ o → Now k q o o'
    new : (n : ℕ) → is_own s o ≡ true → Tiny s g c p h q n → o' ≡ as_tiny o n → Now k q o o'

  pub now : (k : ℕ) (q : Option Role) (o : RegOp) → (is_own s o ≡ true → Member (k, (q, operands.Reg o)) (numbered_operands t i)) → Now k q o (seated s z i k q o)
  now k q o there = go (turn s z i k q o)
    where
      go : Turn s z i k q o (seated s z i k q o) → Now k q o (seated s z i k q o)
      go (kept is) = same is
      go (tiny n own at is) = new n own (tiny-lies s g c p h i mi k q o (there own) own n (source s g c p h i k q o n at)) is

  -- rule 1

  as-before : (k : ℕ) (q : Option Role) (o o' : RegOp) → (is_own s o ≡ true → o.implicit ≡ false) → Turn s z i k q o o' → AsBefore o o'
  as-before k q o o' plain (kept is) = record { definition = ap is_definition is; used = ap is_use is; loc = λ u v. ap (λ (x : RegOp). x.loc) is }
  as-before k q o o' plain (tiny n own at is) = record {
    definition = ap is_definition is ∙ (λ j. o.def && not (sym (plain own) j));
    used = ap is_use is ∙ (λ j. not o.def && not (sym (plain own) j));
    loc = λ u v. absurd (fixed o.loc v own);
  }
    where
      fixed : (l : Loc) → is_virtual l ≡ false → is_range s.range l ≡ true → ⊥
      fixed (Virtual v) e w = cc
      fixed (Fixed r) e w = cc

  fit-after : (e : Effect) (m : ℕ) (rs : List Role) (xs : List Operand)
      → ((k : ℕ) (r : Role) (y : Operand) → Member (k, (Some r, y)) (numbered m (explicit_bound rs xs)) → fits_at t e r y ≡ true → fits_at t e r (turned s z i k (Some r) y) ≡ true)
      → explicit_fit t e rs xs ≡ true → explicit_fit t e rs (after s z i m rs xs) ≡ true
  fit-after e m rs [] fits w = w
  fit-after e m [] (y ∷ ys) fits w = absurd (cc)
  fit-after e m (r ∷ rs) (y ∷ ys) fits w =
      let rest = cond (takes_many r) (r ∷ rs) rs in
      λ k. fits m r y first (first_of_both (fits_at t e r y) (explicit_fit t e rest ys) w) k && fit-after e (suc m) rest ys (λ k q x a. fits k q x (later a)) (second_of_both (fits_at t e r y) (explicit_fit t e rest ys) w) k

  fit-on : (e : Effect) (k : ℕ) (r : Role) (y : Operand) → Member (k, (Some r, y)) (numbered 0 (explicit_bound es (explicit_operands os))) → fits_at t e r y ≡ true → fits_at t e r (turned s z i k (Some r) y) ≡ true
  fit-on e k r (operands.Reg o) m w =
      let there = operand-there k (Some r) o (explicit-number s z i 0 es os last (k, (Some r, operands.Reg o)) m) in
      fits-on t e o (seated s z i k (Some r) o) (as-before k (Some r) o (seated s z i k (Some r) o) (own-explicit o there) (turn s z i k (Some r) o)) r w
  fit-on e k r y m w = w

  pub one : V1 t g new_instr ≡ true
  unfolding V1
  one =
      let r = rolled in
      let rule = (h.shaped i mi).operands in
      let w = met t f i r.effect r.known rule in
      let new = after s z i 0 es os in
      let same : w.0.roles ≡ roles_of t i = ap (λ q. elim q as (λ q. List Role) [ None ↦ [] | Some d ↦ d.roles ]) (sym w.1) in
      let fits = fit-operands t f i r.effect r.known r.rolled rule in
      let explicit : explicit_fit t r.effect es (explicit_operands new) ≡ true = ap (explicit_fit t r.effect es) (explicit-after s z i 0 es os own-explicit last) ∙ fit-after r.effect 0 es (explicit_operands os) (fit-on r.effect) fits.1 in
      subst (λ q. elim q as (λ q. Bool) [ None ↦ true | Some d ↦ operands_fit t g d new d.effect ] ≡ true) (sym w.1)
      (ap (operands_fit t g w.0 new) w.2
      ∙ fit-by-parts t f g w.0 os new r.effect r.rolled r.unspilled w.3 (last-stays s z i 0 es os own-explicit ∙ last) (subst (λ qs. explicit_fit t r.effect (explicit_roles qs) (explicit_operands new) ≡ true) (sym same) explicit)
      (implicit-after s z i 0 es os own-explicit) (immediate-after s z i 0 es os))

  -- rule 2

  class-named : (o : RegOp) → Member o (registers os) → has_class f o.loc ≡ true
  class-named o m = class-there t f i (h.shaped i mi) o m

  lies-all : (n : ℕ) (w : Option ClassId) → ((a : ClassId) → w ≡ Some a → register_lies_in t g a (Virtual n) None ≡ true) → list_all (λ k. register_lies_in t g k (Virtual n) None) (option_to_list w) ≡ true
  lies-all n None h = refl
  lies-all n (Some a) h = λ k. h a refl k && true

  now-class : (e : Effect) (k : ℕ) (q : Option Role) (o o' : RegOp) → Member o (registers os) → in_operand_class t f e (q, operands.Reg o) ≡ true → Now k q o o' → in_operand_class t g e (q, operands.Reg o') ≡ true
  now-class e k q o o' m old (same is) =
      ap (λ x. in_operand_class t g e (q, operands.Reg x)) is
      ∙ (in-class t f g h.keeps e (q, operands.Reg o) (λ x w. subst (λ (y : RegOp). has_class f y.loc ≡ true) (same-register o x w) (class-named o m)) ∙ old)
  now-class e k q o o' m old (new n own lies is) =
      ap (λ x. in_operand_class t g e (q, operands.Reg x)) is
      ∙ ((λ k. not (has_lanes t g (as_tiny o n)) || is_taken_reserved t e q (Virtual n) || lies-all n (option_and_then asked_class q) (λ a asks. ap (passes (λ b. lies_in t a b None)) lies.is ∙ lies.lies a asks) k)
      ∙ or-true (not (has_lanes t g (as_tiny o n)) || is_taken_reserved t e q (Virtual n)))

  seat-class : (e : Effect) (k : ℕ) (q : Option Role) (x : Operand) → Member (k, (q, x)) (numbered 0 (bound t i)) → in_operand_class t f e (q, x) ≡ true → in_operand_class t g e (q, turned s z i k q x) ≡ true
  seat-class e k q (operands.Reg o) m old =
      let there = bound-there (q, operands.Reg o) (numbered-of 0 (bound t i) (k, (q, operands.Reg o)) m) o refl in
      now-class e k q o (seated s z i k q o) there old (now k q o (own-number k q o m))
  seat-class e k q x m old = refl

  pub two : V2 t g new_instr ≡ true
  unfolding V2
  two =
      let r = rolled in
      let e = r.effect in
      let shaped = h.shaped i mi in
      let w = met t f i e r.known shaped.operands in
      let all : list_all (in_operand_class t g e) (map (seat s z i) (numbered 0 (bound t i))) ≡ true =
      all-by (in_operand_class t g e) (map (seat s z i) (numbered 0 (bound t i))) (λ x m.
      let v = map-of (seat s z i) x (numbered 0 (bound t i)) m in
      ap (in_operand_class t g e) v.2 ∙ seat-class e v.0.0 v.0.1.0 v.0.1.1 v.1 (operand-class t f i e r.known shaped.widths v.0.1 (numbered-of 0 (bound t i) v.0 v.1))) in
      subst (λ q. elim q as (λ q. Bool) [ None ↦ true | Some d ↦ list_all (in_operand_class t g d.effect) (bound t new_instr) && widths_fit t g d.effect new_instr.operands ] ≡ true) (sym w.1)
      ((λ k. list_all (in_operand_class t g (w.2 k)) (bound-is s z i own-explicit last k) && widths_fit t g (w.2 k) new_instr.operands)
      ∙ (λ k. all k && no-widths t g e new_instr.operands r.rolled k))

  -- rules 3 and 4

  pub from-operand : (o' : RegOp) → Member o' (registers new_instr.operands) → (k : ℕ) × (q : Option Role) × (o : RegOp) × Member o (registers os) × Now k q o o'
  from-operand o' m =
      let v = registers-of s z i 0 es os o' m in
      let w = v.1 in
      (v.0, w.role, w.operand, register-in w.operand os (operand-there v.0 w.role w.operand w.among), subst (Now v.0 w.role w.operand) (sym w.is) (now v.0 w.role w.operand (λ own. w.among)))

  pub three : V3 g new_instr ≡ true
  unfolding V3
  three = all-by (λ (o : RegOp). has_class g o.loc) (registers new_instr.operands) (λ o' m. let v = from-operand o' m in by v.0 v.1 v.2 o' v.3 v.4)
    where
      by : (k : ℕ) (q : Option Role) (o o' : RegOp) → Member o (registers os) → Now k q o o' → has_class g o'.loc ≡ true
      by k q o o' m (same is) = ap (λ (x : RegOp). has_class g x.loc) is ∙ class-stays t f g h.keeps o.loc (class-named o m)
      by k q o o' m (new n own lies is) = ap (λ (x : RegOp). has_class g x.loc) is ∙ ap is_some lies.is

  pub four : V4 t g new_instr ≡ true
  unfolding V4
  four =
      let r = rolled in
      λ k. all-by (λ (o : RegOp). index_fits t g o.loc o.index) (registers new_instr.operands) (λ o' m. let v = from-operand o' m in by v.0 v.1 v.2 o' v.3 v.4) k
      && (not ((ap (passes puts_together) r.known ∙ no-parts r.effect r.rolled) k) || subregs_fit t g new_instr.operands)
    where
      by : (k : ℕ) (q : Option Role) (o o' : RegOp) → Member o (registers os) → Now k q o o' → index_fits t g o'.loc o'.index ≡ true
      by k q o o' m (same is) = ap (λ (x : RegOp). index_fits t g x.loc x.index) is ∙ (index-stays t f g h.keeps o.loc o.index (class-named o m) ∙ index-there t f i (h.shaped i mi) o m)
      by k q o o' m (new n own lies is) = ap (λ (x : RegOp). index_fits t g x.loc x.index) is ∙ ap (λ b. elim b as (λ b. Bool) [ None ↦ true | Some a ↦ fits t a None ]) lies.is
