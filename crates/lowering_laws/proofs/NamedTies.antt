-- An instruction whose ties are lowered, and the copies beside it, name no range in `undef` uses alone.
use Rattle.std.proofs.Common.{◌≡◌, ◌⊎◌, inl, inr, ◌∷◌, ◌++◌, ◌∙◌, ◌&&◌, ◌||◌, ◌+◌, not, ℕ, zero, suc, Bool, true, false, cond, List, Option, Some, None, flat_map, length, refl, sym, ap, subst, arith, []}
use Rattle.std.specs.Prelude.{filter_map, option_and_then, unwrap_or}
use Rattle.std.specs.List.{list_all, list_any}
use Rattle.target_base.specs.declared.types.Effect.{Effect}
use Rattle.target_base.specs.declared.types.Reg.{Reg}
use Rattle.target_base.specs.declared.types.Role.{Role}
use Rattle.target_base.specs.declared.types.Role.TheVariants as roles
use Rattle.target_base.specs.declared.types.Target.{Target}
use Rattle.target_base.specs.Roles.{is_definition as is_definition_role, is_implicit, role_known}
use Rattle.target_base.proofs.Tests.{first_of_both, second_of_both}
use Rattle.meaning.specs.Live.{Among, here, there}
use Rattle.mir_func.specs.declared.func.Loc.{Loc}
use Rattle.mir_func.specs.declared.func.Loc.TheVariants.{Fixed, Virtual}
use Rattle.mir_func.specs.declared.func.RegOp.{RegOp}
use Rattle.mir_func.specs.declared.func.Operand.{Operand}
use Rattle.mir_func.specs.declared.func.Operand.TheVariants as operands
use Rattle.mir_func.specs.declared.func.Instr.{Instr}
use Rattle.mir_func.specs.Value.{Function}
use Rattle.mir_func.specs.Binding.{Bound, TiedPair, as_register, effect_of, explicit_bound, explicit_operands, explicit_roles, is_definition, is_virtual, register_at, registers, roles_of, takes_many, tied_number, tied_pair}
use Rattle.mir_meaning.specs.Points.{counts, is_range}
use Rattle.mir_meaning.specs.Renaming.{IsFixed}
use Rattle.mir_meaning.specs.Rules.{V4, explicit_fit, fits_at, implicit_last, index_fits, is_opaque}
use Rattle.phi_elim.specs.Moves.{copy_of, destination_of, move_of, source_of, undefining, whole_definition, whole_use}
use Rattle.two_address.specs.Classes.{class_asked, first_register, seated}
use Rattle.two_address.specs.Ties.{copies, defined_aside, defined_use, retied, retied_use, tie_to, ties_in, undef_fixed, with_operands}
use Rattle.two_address.specs.declared.ties.Tie.{Tie}
use Rattle.instr_effects.proofs.Members.{either-elim, filter-of, flat-of, member-elim, member-none}
use Rattle.live_laws.proofs.Effects.Lists.{all-of, any-in}
use Rattle.live_laws.proofs.Effects.Moved.{Apart}
use Rattle.live_laws.proofs.Touch.Cells.{any-of}
use Rattle.live_laws.proofs.Touch.Roles.{has_roles}
use Rattle.live_laws.specs.Effects.Shaped.{AreClasses}
use Rattle.lowering_laws.specs.Named.{TouchesItsRanges}
use Rattle.lowering_laws.proofs.CountedOperands.{plain-bound}
use Rattle.lowering_laws.proofs.FirstRegisters.{not-either, register-asked}
use Rattle.lowering_laws.proofs.FormedTies.{after, each-pair, each-tie, registers-of}
use Rattle.lowering_laws.proofs.Operands.{named}
use Rattle.lowering_laws.proofs.Rolled.{Leads, defined-by, definition-explicit, explicit-front, first, fit-operands, fit-roles, front-role, later, numbers-differ, role-leads, tied-role}
use Rattle.lowering_laws.proofs.Ruled.{InstrRules}
use Rattle.lowering_laws.proofs.Seated.{bound-operand, bound-role, pair-of, pair_with, register-in, register-of, role-tied, told-in}
use Rattle.lowering_laws.proofs.TieClasses.{roles-known}
use Rattle.lowering_laws.proofs.Tying.{Kind, aside, blank, copied, fixed, is_read, kind-number, numbers-apart, own, tie-found, tie_numbers}

pub or-true : (b : Bool) → (b || true) ≡ true
or-true true = refl
or-true false = refl

both-true : (a b : Bool) → a ≡ true → b ≡ true → (a && b) ≡ true
both-true a b e h = λ k. e k && h k

-- operands that aren't `undef` count
pub plain-counts : (o : RegOp) → o.undef ≡ false → counts o ≡ true
plain-counts o e = ap (λ u. o.def || not u) e ∙ or-true o.def

-- instructions by their operands

pub by-operand : (x : Instr) (w : ℕ) (o : RegOp) → Among o (registers x.operands) → is_range w o.loc ≡ true → counts o ≡ true → list_any (λ (p : RegOp). is_range w p.loc && counts p) (registers x.operands) ≡ true
by-operand x w o m e h = any-in (λ (p : RegOp). is_range w p.loc && counts p) o (registers x.operands) m (both-true (is_range w o.loc) (counts o) e h)

pub all-counted : (x : Instr) → ((o : RegOp) → Among o (registers x.operands) → counts o ≡ true) → TouchesItsRanges x
all-counted x h w e = let a = any-of (λ (o : RegOp). is_range w o.loc) (registers x.operands) e in by-operand x w a.0 a.1 a.2 (h a.0 a.1)

pub one-counted : (x : Instr) (d : RegOp) → x.operands ≡ operands.Reg d ∷ [] → counts d ≡ true → TouchesItsRanges x
one-counted x d are h = all-counted x (λ o m. member-elim o d [] (λ e. ap counts e ∙ h) (λ k. absurd (member-none o k)) (subst (λ os. Among o (registers os)) are m))

pub two-counted : (x : Instr) (d s : RegOp) → x.operands ≡ operands.Reg d ∷ operands.Reg s ∷ [] → counts d ≡ true → counts s ≡ true → TouchesItsRanges x
two-counted x d s are h g =
    all-counted x (λ o m. member-elim o d (s ∷ []) (λ e. ap counts e ∙ h) (λ k. member-elim o s [] (λ e. ap counts e ∙ g) (λ j. absurd (member-none o j)) k) (subst (λ os. Among o (registers os)) are m))

pub undefining-counted : (d : RegOp) → d.undef ≡ false → TouchesItsRanges (undefining d)
undefining-counted d e = one-counted (undefining d) d refl (plain-counts d e)

pub copy-counted : (d s : RegOp) → d.undef ≡ false → s.undef ≡ false → TouchesItsRanges (copy_of d s)
copy-counted d s e h = two-counted (copy_of d s) d s refl (plain-counts d e) (plain-counts s h)

pub move-counted : (to from : RegOp) → to.undef ≡ false → TouchesItsRanges (move_of to from)
move-counted to from e = go from.undef refl
  where
    go : (y : Bool) → from.undef ≡ y → TouchesItsRanges (cond y (undefining to) (copy_of to (source_of from)))
    go true h = undefining-counted to e
    go false h = copy-counted to (source_of from) e h

-- lists of them

abbrev pub AllTouch : List Instr → Type 0
AllTouch xs = (x : Instr) → Among x xs → TouchesItsRanges x

pub none-touch : AllTouch []
none-touch x m = absurd (member-none x m)

pub next-touch : (y : Instr) (ys : List Instr) → TouchesItsRanges y → AllTouch ys → AllTouch (y ∷ ys)
next-touch y ys h g x m = member-elim x y ys (λ e. subst TouchesItsRanges (sym e) h) (λ k. g x k) m

pub touch-append : (xs ys : List Instr) → AllTouch xs → AllTouch ys → AllTouch (xs ++ ys)
touch-append xs ys h g x m = either-elim x xs ys (λ k. h x k) (λ k. g x k) m

pub touch-flat : {A : Type 0} (g : A → List Instr) (xs : List A) → ((x : A) → Among x xs → AllTouch (g x)) → AllTouch (flat_map g xs)
touch-flat g xs h y m = let z = flat-of g y xs m in h z.0 z.1 y z.2

-- the definition to which a role ties is there

definition-register : (t : Target) (e : Effect) (r : Role) (x : Operand) → is_definition_role r ≡ true → fits_at t e r x ≡ true → (d : RegOp) × (x ≡ operands.Reg d)
definition-register t e r (operands.Reg d) g h = (d, refl)
definition-register t e (roles.Def k) x g h = absurd (not-either (is_opaque e) h)
definition-register t e (roles.Early k) x g h = absurd (not-either (is_opaque e) h)
definition-register t e r x g h = absurd (cc)

definition-there : (t : Target) (e : Effect) {n : ℕ} {rs : List Role} {r : Role} → Leads n rs r → (os : List Operand) → implicit_last os ≡ true → explicit_fit t e (explicit_roles rs) (explicit_operands os) ≡ true → (d : RegOp) × (register_at os n ≡ Some d)
definition-there t e (first {r = r} {rs = rs} g) [] last fits = absurd (let a = first_of_both (takes_many r) (list_all takes_many (explicit_roles rs)) (subst (λ qs. explicit_fit t e qs [] ≡ true) (front-role r rs g) fits) in let b = (definition-explicit r g).1 in cc)
definition-there t e (first {r = r} {rs = rs} g) (x ∷ os) last fits =
    let z = explicit-front t e r rs x os g last fits in
    let y = definition-register t e r x g z.2 in
    (y.0, ap as_register y.1)
definition-there t e (later {q = q} {r = r} {rs = rs} g l) [] last fits = absurd (let a = first_of_both (takes_many q) (list_all takes_many (explicit_roles rs)) (subst (λ qs. explicit_fit t e qs [] ≡ true) (front-role q rs g) fits) in let b = (definition-explicit q g).1 in cc)
definition-there t e (later {q = q} {r = r} {rs = rs} g l) (x ∷ os) last fits =
    let z = explicit-front t e q rs x os g last fits in
    definition-there t e l os z.1 z.3

-- an explicit operand fits its role
fit-of : (t : Target) (e : Effect) (rs : List Role) (os : List Operand) → explicit_fit t e rs os ≡ true → (q : Option Role) (x : Operand) → Among (q, x) (explicit_bound rs os) → (r : Role) × (q ≡ Some r) × (fits_at t e r x ≡ true)
fit-of t e rs [] h q x m = absurd (member-none (q, x) m)
fit-of t e [] (y ∷ os) h q x m = absurd (cc)
fit-of t e (s ∷ rs) (y ∷ os) h q x m =
    let rest = cond (takes_many s) (s ∷ rs) rs in
    member-elim (q, x) (Some s, y) (explicit_bound rest os)
    (λ z. (s, ap (λ (b : Bound). b.0) z, ap (fits_at t e s) (ap (λ (b : Bound). b.1) z) ∙ first_of_both (fits_at t e s y) (explicit_fit t e rest os) h))
    (λ k. fit-of t e rest os (second_of_both (fits_at t e s y) (explicit_fit t e rest os) h) q x k) m

module _ (t : Target) (f : Function) (classes : AreClasses t f) (i : Instr) (r : InstrRules t f i) (e : Effect) (known : effect_of t i ≡ Some e) (rolled : has_roles e ≡ true) (c : ℕ) where
  abbrev os : List Operand
  os = i.operands

  abbrev rs : List Role
  rs = explicit_roles (roles_of t i)

  abbrev bs : List Bound
  bs = seated t i

  abbrev ps : List TiedPair
  ps = filter_map (tied_pair i.operands) (seated t i)

  abbrev T : List Tie
  T = ties_in t c i

  abbrev new : Instr
  new = with_operands t f.classes T i

  apart : Apart (tie_numbers T)
  apart = numbers-apart bs c ps (numbers-differ t f i e known rolled r.one)

  there-is : (q : Option Role) (o : RegOp) → Among (q, operands.Reg o) bs → Among o (registers os)
  there-is q o m = register-in o os (bound-operand rs os q (operands.Reg o) m)

  -- the operand is `undef`, and has the register of a definition that keeps its own
  record IsAnswered (o : RegOp) : Type 0 where
    pair : TiedPair
    member : Among pair ps
    at : register_at os pair.number ≡ Some pair.definition
    stays : (tie_to pair.number T).aside ≡ None
    loc : o.loc ≡ pair.definition.loc

  abbrev Told : RegOp → Type 0
  Told o = (counts o ≡ true) ⊎ ((is_virtual o.loc ≡ false) ⊎ IsAnswered o)

  -- a use that isn't tied

  virtual-explicit : (q : Option Role) (o : RegOp) → Among (q, operands.Reg o) bs → is_virtual o.loc ≡ true → o.implicit ≡ false
  virtual-explicit q o m v = go o.implicit refl
    where
      no : (l : Loc) → is_virtual l ≡ true → IsFixed l → ⊥
      no (Virtual n) g z = z
      no (Fixed p) g z = cc

      go : (y : Bool) → o.implicit ≡ y → o.implicit ≡ false
      go false h = h
      go true h = absurd (no o.loc v ((named t f i r o (there-is q o m)).fixed h))

  stands : (q : Option Role) (o : RegOp) → Among (q, operands.Reg o) bs → is_virtual o.loc ≡ true → o.def ≡ false → option_and_then tied_number q ≡ None → (p : Reg) × (first_register t (class_asked t f.classes q o) ≡ Some p)
  unfolding V4
  stands q o m v def free =
      let fits = fit-operands t f i e known rolled r.one in
      let z = fit-of t e rs (explicit_operands os) fits.1 q (operands.Reg o) (plain-bound rs os q (operands.Reg o) fits.0 (virtual-explicit q o m v) m) in
      let role = (filter-of (λ (s : Role). not (is_implicit s)) z.0 (roles_of t i) (bound-role rs os z.0 (operands.Reg o) (subst (λ s. Among (s, operands.Reg o) bs) z.1 m))).0 in
      let seen = all-of (role_known (length t.classes) (length t.regs)) z.0 (roles_of t i) role (roles-known t i) in
      let there' = there-is q o m in
      let index = all-of (λ (p : RegOp). index_fits t f p.loc p.index) o (registers os) there' (first_of_both _ _ r.four) in
      let w = register-asked t f classes e z.0 o v def (subst (λ s. option_and_then tied_number s ≡ None) z.1 free) z.2 seen (named t f i r o there').class index in
      (w.0, ap (λ s. first_register t (class_asked t f.classes s o)) z.1 ∙ w.1)

  free-told : (q : Option Role) (o : RegOp) → Among (q, operands.Reg o) bs → option_and_then tied_number q ≡ None → Told (defined_use t f.classes q o)
  free-told q o m free = by (is_virtual o.loc) refl (not o.def) refl o.undef refl
    where
      not-not : (b : Bool) → not b ≡ true → b ≡ false
      not-not true h = absurd (cc)
      not-not false h = refl

      is-so : (b : Bool) → not b ≡ false → b ≡ true
      is-so true h = refl
      is-so false h = absurd (cc)

      by : (x : Bool) → is_virtual o.loc ≡ x → (y : Bool) → not o.def ≡ y → (z : Bool) → o.undef ≡ z → Told (cond (x && y && z) (undef_fixed o (first_register t (class_asked t f.classes q o))) o)
      by true v true d true u = let w = stands q o m v (not-not o.def d) free in subst (λ s. Told (undef_fixed o s)) (sym w.1) (inr (inl refl))
      by true v true d false u = inl (plain-counts o u)
      by true v false d z u = inl (ap (λ b. b || not o.undef) (is-so o.def d))
      by false v y d z u = inr (inl v)

  -- a tied use

  tied-told : (q : Option Role) (o : RegOp) (k : ℕ) → Among (q, operands.Reg o) bs → option_and_then tied_number q ≡ Some k → Told (unwrap_or (tie_to k T).reading o)
  tied-told q o k m g = subst (λ (z : Tie). Told (unwrap_or z.reading o)) (sym found) (by tie.3)
    where
      fits : (implicit_last os ≡ true) × (explicit_fit t e rs (explicit_operands os) ≡ true)
      fits = fit-operands t f i e known rolled r.one

      definition : (d : RegOp) × (register_at os k ≡ Some d)
      definition =
          let w = role-tied q k g in
          let v = tied-role w.0 k (subst (λ s. option_and_then tied_number s ≡ Some k) w.1 g) in
          let own-role = bound-role rs os w.0 (operands.Reg o) (subst (λ s. Among (s, operands.Reg o) bs) w.1 m) in
          let leads = role-leads t e (roles_of t i) (fit-roles t f i e known rolled r.one) rolled v.0 k (subst (λ s. Among s (roles_of t i)) v.1 (filter-of (λ (s : Role). not (is_implicit s)) w.0 (roles_of t i) own-role).0) in
          definition-there t e leads.1 os fits.0 fits.1

      d : RegOp
      d = definition.0

      pair : TiedPair
      pair = pair_with k d o

      member : Among pair ps
      member = told-in (tied_pair os) pair (q, operands.Reg o) bs m (pair-of os q o k d g definition.1)

      tie : (z : Tie) × Among z T × (x : ℕ) × Kind x pair (is_read bs pair) z
      tie = each-pair bs c ps pair member

      found : tie_to k T ≡ tie.0
      found = ap (λ n. tie_to n T) (sym (kind-number tie.2 pair (is_read bs pair) tie.0 tie.3)) ∙ tie-found T tie.0 apart tie.1

      by : Kind tie.2 pair (is_read bs pair) tie.0 → Told (unwrap_or tie.0.reading o)
      by (fixed v z) = subst (λ (y : Tie). Told (unwrap_or y.reading o)) (sym z) (inr (inl v))
      by (blank v u z) = subst (λ (y : Tie). Told (unwrap_or y.reading o)) (sym z) (inr (inr (record { pair = pair; member = member; at = definition.1; stays = ap (λ (y : Tie). y.aside) (found ∙ z); loc = refl })))
      by (own v u l x z) = subst (λ (y : Tie). Told (unwrap_or y.reading o)) (sym z) (inl refl)
      by (aside v u z) = subst (λ (y : Tie). Told (unwrap_or y.reading o)) (sym z) (inl refl)
      by (copied v u w z) = subst (λ (y : Tie). Told (unwrap_or y.reading o)) (sym z) (inl refl)

  told : (n : ℕ) (q : Option Role) (o : RegOp) → Among (q, operands.Reg o) bs → Told (retied t f.classes T n q o)
  told n q o m = by (is_definition o)
    where
      defined : (x : Option ℕ) → counts (defined_aside x o) ≡ true
      defined None = or-true o.def
      defined (Some x) = or-true o.def

      by-role : (x : Option ℕ) → option_and_then tied_number q ≡ x → Told (elim x as (λ z. RegOp) [ None ↦ defined_use t f.classes q o | Some w ↦ unwrap_or (tie_to w T).reading o ])
      by-role None g = free-told q o m g
      by-role (Some k) g = tied-told q o k m g

      by : (y : Bool) → Told (cond y (defined_aside (tie_to n T).aside o) (retied_use t f.classes T q o))
      by true = inl (defined (tie_to n T).aside)
      by false = by-role (option_and_then tied_number q) refl

  -- a definition has its place among the new operands
  new-there : (m : ℕ) (rs : List Role) (os : List Operand) (k : ℕ) (d : RegOp) → register_at os k ≡ Some d → (q : Option Role) × (n : ℕ) × (n ≡ m + k) × Among (operands.Reg (retied t f.classes T n q d)) (after t f.classes T m rs os)
  new-there m rs [] k d h = absurd (cc)
  new-there m [] (y ∷ os) zero d h =
      (None, m, omega arith, subst (λ z. Among (operands.Reg (retied t f.classes T m None d)) (after t f.classes T m [] (z ∷ os))) (sym (register-of y d h)) here)
  new-there m [] (y ∷ os) (suc k) d h = let z = new-there (suc m) [] os k d h in let same = z.2 in (z.0, z.1, omega (arith, same), there z.3)
  new-there m (s ∷ rs) (y ∷ os) zero d h =
      (Some s, m, omega arith, subst (λ z. Among (operands.Reg (retied t f.classes T m (Some s) d)) (after t f.classes T m (s ∷ rs) (z ∷ os))) (sym (register-of y d h)) here)
  new-there m (s ∷ rs) (y ∷ os) (suc k) d h = let z = new-there (suc m) (cond (takes_many s) (s ∷ rs) rs) os k d h in let same = z.2 in (z.0, z.1, omega (arith, same), there z.3)

  new-touches : TouchesItsRanges new
  new-touches w h =
      let a = any-of (λ (o : RegOp). is_range w o.loc) (registers new.operands) h in
      let z = registers-of t f.classes T 0 rs os a.0 a.1 in
      by a.0 a.1 a.2 (subst Told (sym z.4) (told z.0 z.1 z.2 z.3))
    where
      unnamed : (l : Loc) → is_virtual l ≡ false → is_range w l ≡ true → ⊥
      unnamed (Virtual v) g k = cc
      unnamed (Fixed p) g k = cc

      by : (o : RegOp) → Among o (registers new.operands) → is_range w o.loc ≡ true → Told o → list_any (λ (p : RegOp). is_range w p.loc && counts p) (registers new.operands) ≡ true
      by o m g (inl k) = by-operand new w o m g k
      by o m g (inr (inl k)) = absurd (unnamed o.loc k g)
      by o m g (inr (inr k)) =
          let d = k.pair.definition in
          let z = new-there 0 rs os k.pair.number d k.at in
          let same = z.2 in
          let number : z.1 ≡ k.pair.number = omega (arith, same) in
          let is = (defined-by t f i e known rolled r.one k.pair k.member).is in
          let becomes : retied t f.classes T z.1 z.0 d ≡ record d { undef = false } =
          (λ j. cond (is j) (defined_aside (tie_to (number j) T).aside d) (retied_use t f.classes T z.0 d)) ∙ ap (λ x. defined_aside x d) k.stays in
          by-operand new w (retied t f.classes T z.1 z.0 d) (register-in (retied t f.classes T z.1 z.0 d) new.operands z.3)
          (ap (λ (p : RegOp). is_range w p.loc) becomes ∙ (ap (is_range w) (sym k.loc) ∙ g))
          (ap counts becomes ∙ or-true d.def)

  -- copies beside it

  kind-touches : (x : ℕ) (p : TiedPair) (read : Bool) (tie : Tie) → Kind x p read tie → AllTouch (copies tie.before) × AllTouch (copies tie.after)
  kind-touches x p read tie (fixed g q) = subst (λ (z : Tie). AllTouch (copies z.before) × AllTouch (copies z.after)) (sym q) (none-touch, none-touch)
  kind-touches x p read tie (blank g u q) = subst (λ (z : Tie). AllTouch (copies z.before) × AllTouch (copies z.after)) (sym q) (none-touch, none-touch)
  kind-touches x p read tie (own g u l w q) = subst (λ (z : Tie). AllTouch (copies z.before) × AllTouch (copies z.after)) (sym q) (none-touch, none-touch)
  kind-touches x p read tie (aside g u q) =
      subst (λ (z : Tie). AllTouch (copies z.before) × AllTouch (copies z.after)) (sym q)
      (next-touch _ [] (copy-counted (whole_definition x) (source_of p.tied_use) refl u) none-touch, next-touch _ [] (copy-counted (destination_of p.definition) (whole_use x) refl refl) none-touch)
  kind-touches x p read tie (copied g u w q) =
      subst (λ (z : Tie). AllTouch (copies z.before) × AllTouch (copies z.after)) (sym q)
      (next-touch _ [] (copy-counted (destination_of p.definition) (source_of p.tied_use) refl u) none-touch, none-touch)

  pub tied-touches : AllTouch (flat_map (λ (tie : Tie). copies tie.before) T ++ (new ∷ flat_map (λ (tie : Tie). copies tie.after) T))
  tied-touches =
      touch-append (flat_map (λ (tie : Tie). copies tie.before) T) (new ∷ flat_map (λ (tie : Tie). copies tie.after) T)
      (touch-flat (λ (tie : Tie). copies tie.before) T (λ tie m. (each tie m).0))
      (next-touch new (flat_map (λ (tie : Tie). copies tie.after) T) new-touches (touch-flat (λ (tie : Tie). copies tie.after) T (λ tie m. (each tie m).1)))
    where
      each : (tie : Tie) → Among tie T → AllTouch (copies tie.before) × AllTouch (copies tie.after)
      each tie m = let z = each-tie bs c ps tie m in kind-touches z.2 z.0 (is_read bs z.0) tie z.3
