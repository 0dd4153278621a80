-- What becomes of a place with tinies can be spelled.
use Rattle.std.proofs.Common.{◌≡◌, ◌∷◌, ◌+◌, ◌≤◌, ◌∙◌, ◌&&◌, ◌||◌, not, ℕ, suc, Bool, true, false, cond, List, Option, Some, None, filter, flat_map, map, length, refl, sym, ap, subst, []}
use Rattle.std.specs.Prelude.{filter_map, nat_eq}
use Rattle.std.specs.List.{list_any}
use Rattle.target_base.specs.Registers.{HasIndex}
use Rattle.target_base.specs.Roles.{is_silent, is_tied}
use Rattle.target_base.specs.declared.types.Effect.{Effect}
use Rattle.target_base.specs.declared.types.Effect.TheVariants as effects
use Rattle.target_base.specs.declared.types.Role.{Role}
use Rattle.target_base.specs.declared.types.Target.{Target}
use Rattle.target_base.proofs.Tests.{first_of_both, second_of_both}
use Rattle.meaning.specs.Live.{Among, here, there}
use Rattle.mir_func.specs.declared.func.Loc.{Loc}
use Rattle.mir_func.specs.declared.func.Loc.TheVariants.{Fixed, Virtual}
use Rattle.mir_func.specs.declared.func.RegOp.{RegOp}
use Rattle.mir_func.specs.declared.func.Operand.{Operand}
use Rattle.mir_func.specs.declared.func.Operand.TheVariants as operands
use Rattle.mir_func.specs.declared.func.Instr.{Instr}
use Rattle.mir_func.specs.declared.func.Block.{Block}
use Rattle.mir_func.specs.Value.{Function}
use Rattle.mir_func.specs.Binding.{Bound, TiedPair, as_register, bound, effect_of, explicit_bound, explicit_roles, implicit_registers, is_definition, is_early, is_lowered_away, is_use, is_virtual, numbered, operand_class, passes, registers, roles_of, takes_many, tied_pair, tied_pairs}
use Rattle.mir_meaning.specs.Places.{Defining, Using, Variable, each_once, has_tied_use, is_defining, operand_variable, operand_variables, register_variable, same_use, variable}
use Rattle.mir_meaning.specs.Rules.{V1, copy_fits, implicit_def_fits}
use Rattle.mir_text.specs.Print.{is_explicit_def}
use Rattle.instr_effects.proofs.Members.{filter-in, filter-of, flat-of, map-of, member-elim, member-none}
use Rattle.live_laws.proofs.Effects.Lists.{all-of}
use Rattle.live_laws.proofs.Touch.Roles.{fit, has_roles, met}
use Rattle.lowering_laws.proofs.Seated.{bound-operand, pair-is, register-in, register-of, told-of}
use Rattle.join_laws.proofs.Operands.{range-is}
use Rattle.join_laws.proofs.Rules.{bound-in}
use Rattle.spiller.specs.Rematerialised.{own_variables, repeated, repeated_for, tied_readings, way_reading, ways_read}
use Rattle.spiller.specs.Setting.{Spilling, in_own_slot, is_live_behind, is_own, plain_definition, plain_use, reload, store}
use Rattle.spiller.specs.Spilled.{Change, OwnDefinition, Seats, as_tiny, definitions_in, given, numbered_operands, own_definition, place_change, seated, seated_operand, seats_from, stored, tied_reload, tiny_of, with_tinies}
use Rattle.writable_laws.specs.Writable.{most_number}
use Rattle.writable_laws.proofs.Fitting.{InstrsFit, InstrFits, BlockFits, KeepsOrder, OperandFits, RegisterFits, append-each, flat-each, next-each, next-ordered, none-each, none-ordered}
use Rattle.writable_laws.proofs.SpillMoves.{own-index, own-slot, reload-fits, repeated-fits, repeats-fits, store-fits}

-- lists

numbered-of : {X : Type 0} (n : ℕ) (xs : List X) (p : ℕ × X) → Among p (numbered n xs) → Among p.1 xs
numbered-of n [] p m = absurd (member-none p m)
numbered-of {X} n (x ∷ xs) p m = member-elim p (n, x) (numbered (suc n) xs) (λ e. subst (λ (q : ℕ × X). Among q.1 (x ∷ xs)) (sym e) here) (λ k. there (numbered-of (suc n) xs p k)) m

once-of : (seen vs : List Variable) (x : Variable) → Among x (each_once seen vs) → Among x vs
once-of seen [] x m = m
once-of seen (v ∷ vs) x m = go (list_any (same_use v) seen) m (λ k. once-of seen vs x k) (λ k. once-of (v ∷ seen) vs x k)
  where
    go : (b : Bool) → Among x (cond b (each_once seen vs) (v ∷ each_once (v ∷ seen) vs)) → (Among x (each_once seen vs) → Among x vs) → (Among x (each_once (v ∷ seen) vs) → Among x vs) → Among x (v ∷ vs)
    go true k f g = there (f k)
    go false k f g = member-elim x v (each_once (v ∷ seen) vs) (λ e. subst (λ y. Among y (v ∷ vs)) (sym e) here) (λ j. there (g j)) k

-- A virtual register is no implicit operand.

same-register : (a b : RegOp) → operands.Reg a ≡ operands.Reg b → a ≡ b
same-register a b e = cc

not-so : (b : Bool) → not b ≡ true → b ≡ false
not-so true e = absurd (cc)
not-so false e = refl

module _ (t : Target) (f : Function) (i : Instr) (one : V1 t f i ≡ true) (o : RegOp) (m : Among (operands.Reg o) i.operands) (virtual : is_virtual o.loc ≡ true) where
  in-copy : (os : List Operand) → Among (operands.Reg o) os → copy_fits os ≡ true → o.implicit ≡ false
  in-copy (operands.Reg d ∷ operands.Reg u ∷ []) k e =
      member-elim (operands.Reg o) (operands.Reg d) (operands.Reg u ∷ [])
      (λ q. ap (λ (x : RegOp). x.implicit) (same-register o d q) ∙ not-so d.implicit (second_of_both d.def (not d.implicit) (first_of_both (is_definition d) (is_use u) e)))
      (λ j. member-elim (operands.Reg o) (operands.Reg u) []
      (λ q. ap (λ (x : RegOp). x.implicit) (same-register o u q) ∙ not-so u.implicit (second_of_both (not u.def) (not u.implicit) (second_of_both (is_definition d) (is_use u) e)))
      (λ h. absurd (member-none (operands.Reg o) h)) j) k
  in-copy os k e = absurd (cc)

  in-undef : (os : List Operand) → Among (operands.Reg o) os → implicit_def_fits os ≡ true → o.implicit ≡ false
  in-undef (operands.Reg d ∷ []) k e =
      member-elim (operands.Reg o) (operands.Reg d) []
      (λ q. ap (λ (x : RegOp). x.implicit) (same-register o d q) ∙ not-so d.implicit (second_of_both d.def (not d.implicit) e))
      (λ h. absurd (member-none (operands.Reg o) h)) k
  in-undef os k e = absurd (cc)

  in-roles : (e : Effect) → effect_of t i ≡ Some e → has_roles e ≡ true → o.implicit ≡ false
  in-roles e known rolled = go o.implicit refl
    where
      go : (b : Bool) → o.implicit ≡ b → o.implicit ≡ false
      go false h = h
      go true h =
          let d = (met t f i e known one).0 in
          let all = (fit t f i e known one rolled).implicit in
          let x = all-of (λ (x : RegOp). not (is_virtual x.loc) && not (is_silent d.effect)) o (implicit_registers i.operands) (filter-in (λ (x : RegOp). x.implicit) o (registers i.operands) (register-in o i.operands m) h) all in
          absurd (let z : not true ≡ true = sym (ap not virtual) ∙ first_of_both (not (is_virtual o.loc)) (not (is_silent d.effect)) x in cc)

  pub explicit-of : (e : Effect) → effect_of t i ≡ Some e → is_lowered_away e ≡ false → o.implicit ≡ false
  explicit-of effects.Copy known away = in-copy i.operands m (met t f i effects.Copy known one).3
  explicit-of effects.ImplicitDef known away = in-undef i.operands m (met t f i effects.ImplicitDef known one).3
  explicit-of effects.Phi known away = absurd (cc)
  explicit-of effects.RegSequence known away = absurd (cc)
  explicit-of effects.InsertSubreg known away = absurd (cc)
  explicit-of e known away = in-roles e known refl

-- what becomes of a place can be spelled
pub record ChangeFits (t : Target) (x : Change) : Type 0 where
  pub before : InstrsFit t x.before
  pub own : InstrsFit t x.own
  pub behind : InstrsFit t x.behind

-- an instruction that can be spelled, of whose operands those of the range are explicit
pub record IsPlain (s : Spilling) (i : Instr) : Type 0 where
  pub fits : InstrFits s.target i
  pub explicit : (o : RegOp) → Among (operands.Reg o) i.operands → is_virtual o.loc ≡ true → o.implicit ≡ false

module _ (s : Spilling) (slot : s.slot ≤ most_number) (all : (b : Block) → Among b s.func.blocks → BlockFits s.target b) where
  abbrev t : Target
  t = s.target

  register-fits : (i : Instr) → InstrFits t i → (o : RegOp) → Among o (registers i.operands) → RegisterFits t o.loc o.index
  register-fits i z o m = let w = told-of as_register o i.operands m in z.operands (operands.Reg o) (subst (λ x. Among x i.operands) (register-of w.0 o w.2) w.1)

  -- the index of a variable is one of the target's

  some-variable : (a b : Variable) → Some a ≡ Some b → a.index ≡ b.index
  some-variable a b e = cc

  variable-index : (i : Instr) → InstrFits t i → (v : Variable) → Among v (operand_variables t s.func i) → HasIndex t v.index
  variable-index i z v m =
      let w = told-of (λ (p : ℕ × Bound). operand_variable t s.func (has_tied_use t i p.0) p.1) v (numbered 0 (bound t i)) m in
      by w.0.1 (numbered-of 0 (bound t i) w.0 w.1) (has_tied_use t i w.0.0) w.2
    where
      at : (o : RegOp) (r : Option Role) (b : Bool) (l : Loc) → RegisterFits t l o.index → register_variable t s.func b r o l ≡ Some v → HasIndex t v.index
      at o r b (Fixed q) h e = absurd (cc)
      at o r b (Virtual w) h e = go o.def e
        where
          used : (c : Bool) → cond c None (Some (variable Using w o.index (operand_class t s.func r o))) ≡ Some v → HasIndex t v.index
          used true e = absurd (cc)
          used false e = subst (HasIndex t) (some-variable (variable Using w o.index (operand_class t s.func r o)) v e) h

          go : (c : Bool) → cond c (Some (variable (Defining b (passes is_early r)) w o.index (operand_class t s.func r o))) (cond (o.undef || passes is_tied r) None (Some (variable Using w o.index (operand_class t s.func r o)))) ≡ Some v → HasIndex t v.index
          go true e = subst (HasIndex t) (some-variable (variable (Defining b (passes is_early r)) w o.index (operand_class t s.func r o)) v e) h
          go false e = used (o.undef || passes is_tied r) e

      by : (p : Bound) → Among p (bound t i) → (b : Bool) → operand_variable t s.func b p ≡ Some v → HasIndex t v.index
      by (r, operands.Reg o) k b e = at o r b o.loc (register-fits i z o (bound-in t i (r, operands.Reg o) k o refl)) e
      by (r, o) k b e = absurd (cc)

  module _ (p : List Instr) (each : (i : Instr) → Among i p → IsPlain s i) where
    way-index : (v : Variable) → Among v (ways_read s p) → HasIndex t v.index
    way-index v m =
        let a = (filter-of (λ (x : Variable). not (is_defining x.kind)) v (each_once [] (flat_map (own_variables s) p)) m).0 in
        let b = flat-of (own_variables s) v p (once-of [] (flat_map (own_variables s) p) v a) in
        let c = (filter-of (λ (x : Variable). nat_eq x.range s.range) v (operand_variables t s.func b.0) b.2).0 in
        variable-index b.0 (each b.0 b.1).fits v c

    given-fits : (n : ℕ) (v : Variable) → Among v (ways_read s p) → InstrFits t (given s p (n, v))
    given-fits n v m = go (repeated_for s (way_reading s p v)) refl
      where
        go : (q : Option Instr) → repeated_for s (way_reading s p v) ≡ q → InstrFits t (elim q as (λ q. Instr) [ None ↦ reload s.target v.class (plain_definition (Virtual n) None) (in_own_slot s v.index) | Some d ↦ repeated d (plain_definition (Virtual n) None) ])
        go None e = reload-fits t v.class (plain_definition (Virtual n) None) (in_own_slot s v.index) tt (own-slot s slot v.index (way-index v m))
        go (Some d) e = repeated-fits t d (plain_definition (Virtual n) None) (repeats-fits s slot all (way_reading s p v) d e) tt refl

    -- definitions of the range

    record Defines (d : OwnDefinition) : Type 0 where
      pub by : Among d.by p
      pub index : HasIndex t d.index

    some-definition : (a b : OwnDefinition) → Some a ≡ Some b → a ≡ b
    some-definition a b e = cc

    defines : (d : OwnDefinition) → Among d (definitions_in s p) → Defines d
    defines d m =
        let a = flat-of (λ (i : Instr). filter_map (own_definition s i) (numbered_operands t i)) d p m in
        let b = told-of (own_definition s a.0) d (numbered_operands t a.0) a.2 in
        by a.0 a.1 b.0 (numbered-of 0 (explicit_bound (explicit_roles (roles_of t a.0)) a.0.operands) b.0 b.1) b.2
      where
        by : (i : Instr) → Among i p → (x : ℕ × Bound) → Among x.1 (explicit_bound (explicit_roles (roles_of t i)) i.operands) → own_definition s i x ≡ Some d → Defines d
        by i mi (n, (r, operands.Reg o)) k e = go (is_own s o && o.def) refl e
          where
            go : (c : Bool) → (is_own s o && o.def) ≡ c → cond c (Some (record { by = i; number = n; index = o.index; class = operand_class s.target s.func r o })) None ≡ Some d → Defines d
            go true h e =
                let there' = (each i mi).fits.operands (operands.Reg o) (bound-operand (explicit_roles (roles_of t i)) i.operands r (operands.Reg o) k) in
                subst Defines (some-definition (record { by = i; number = n; index = o.index; class = operand_class s.target s.func r o }) d e)
                (record { by = mi; index = own-index s slot o (first_of_both (is_own s o) o.def h) there' })
            go false h e = absurd (cc)
        by i mi (n, (r, o)) k e = absurd (cc)

    tied-fits : (n : ℕ) (d : OwnDefinition) → Defines d → InstrsFit t (tied_reload s (n, d))
    tied-fits n d z x m =
        let a = map-of (λ (y : TiedPair). reload s.target d.class (plain_definition (Virtual n) None) (in_own_slot s y.tied_use.index)) x (filter (λ (y : TiedPair). nat_eq y.number d.number) (tied_readings s d.by)) m in
        let b = (filter-of (λ (y : TiedPair). nat_eq y.number d.number) a.0 (tied_readings s d.by) a.1).0 in
        let c = filter-of (λ (y : TiedPair). is_own s y.tied_use && not y.tied_use.undef) a.0 (tied_pairs t d.by) b in
        let w = told-of (tied_pair d.by.operands) a.0 (bound t d.by) c.0 in
        let is = pair-is d.by.operands w.0.0 w.0.1 a.0 w.2 in
        let mu = bound-in t d.by w.0 w.1 a.0.tied_use is.0 in
        let own = first_of_both (is_own s a.0.tied_use) (not a.0.tied_use.undef) c.1 in
        subst (InstrFits t) (sym a.2) (reload-fits t d.class (plain_definition (Virtual n) None) (in_own_slot s a.0.tied_use.index) tt (own-slot s slot a.0.tied_use.index (own-index s slot a.0.tied_use own (register-fits d.by (each d.by z.by).fits a.0.tied_use mu))))

    stored-fits : (n : ℕ) (d : OwnDefinition) → Defines d → InstrsFit t (stored s (n, d))
    stored-fits n d z = go (is_live_behind s d.by d.index)
      where
        go : (c : Bool) → InstrsFit t (cond c (store s.target d.class (plain_use (Virtual n) None) (in_own_slot s d.index) ∷ []) [])
        go true = next-each t (store s.target d.class (plain_use (Virtual n) None) (in_own_slot s d.index)) [] (store-fits t d.class (plain_use (Virtual n) None) (in_own_slot s d.index) tt (own-slot s slot d.index z.index)) (none-each t)
        go false = none-each t

    -- the place itself

    module _ (x : Seats) (i : Instr) (plain : IsPlain s i) where
      tiny-stays : (o : RegOp) → is_own s o ≡ true → o.implicit ≡ false → RegisterFits t o.loc o.index → (q : Option ℕ) → RegisterFits t (elim q as (λ q. RegOp) [ None ↦ o | Some c ↦ as_tiny o c ]).loc (elim q as (λ q. RegOp) [ None ↦ o | Some c ↦ as_tiny o c ]).index × (is_definition (elim q as (λ q. RegOp) [ None ↦ o | Some c ↦ as_tiny o c ]) ≡ is_definition o)
      tiny-stays o own e h None = (h, refl)
      tiny-stays o own e h (Some c) = (tt, λ k. o.def && not (sym e k))

      seat-stays : (n : ℕ) (r : Option Role) (o : RegOp) → Among (operands.Reg o) i.operands → RegisterFits t (seated s x i n r o).loc (seated s x i n r o).index × (is_definition (seated s x i n r o) ≡ is_definition o)
      seat-stays n r o m = go (is_own s o) refl
        where
          go : (c : Bool) → is_own s o ≡ c → RegisterFits t (cond c (elim (tiny_of s x i n r o) as (λ q. RegOp) [ None ↦ o | Some c ↦ as_tiny o c ]) o).loc (cond c (elim (tiny_of s x i n r o) as (λ q. RegOp) [ None ↦ o | Some c ↦ as_tiny o c ]) o).index × (is_definition (cond c (elim (tiny_of s x i n r o) as (λ q. RegOp) [ None ↦ o | Some c ↦ as_tiny o c ]) o) ≡ is_definition o)
          go true e = tiny-stays o e (plain.explicit o m (ap is_virtual (range-is s.range o.loc e))) (plain.fits.operands (operands.Reg o) m) (tiny_of s x i n r o)
          go false e = (plain.fits.operands (operands.Reg o) m, refl)

      operand-fits : (n : ℕ) (r : Option Role) (o : Operand) → Among o i.operands → OperandFits t (seated_operand s x i (n, (r, o))) × (is_explicit_def (seated_operand s x i (n, (r, o))) ≡ is_explicit_def o)
      operand-fits n r (operands.Reg o) m = seat-stays n r o m
      operand-fits n r o m = (plain.fits.operands o m, refl)

      in-order : (n : ℕ) (rs : List Role) (os : List Operand) → ((o : Operand) → Among o os → Among o i.operands) → KeepsOrder t os (map (seated_operand s x i) (numbered n (explicit_bound rs os)))
      in-order n rs [] w = none-ordered t
      in-order n [] (o ∷ os) w =
          let z = operand-fits n None o (w o here) in
          next-ordered t o (seated_operand s x i (n, (None, o))) os (map (seated_operand s x i) (numbered (suc n) (explicit_bound [] os))) z.0 z.1 (in-order (suc n) [] os (λ y m. w y (there m)))
      in-order n (r ∷ rs) (o ∷ os) w =
          let z = operand-fits n (Some r) o (w o here) in
          let rest = cond (takes_many r) (r ∷ rs) rs in
          next-ordered t o (seated_operand s x i (n, (Some r, o))) os (map (seated_operand s x i) (numbered (suc n) (explicit_bound rest os))) z.0 z.1 (in-order (suc n) rest os (λ y m. w y (there m)))

      tinies-fits : InstrFits t (with_tinies s x i)
      tinies-fits =
          let z = in-order 0 (explicit_roles (roles_of t i)) i.operands (λ o m. m) in
          record { opcode = plain.fits.opcode; flags = plain.fits.flags; order = z.order ∙ plain.fits.order; operands = z.fits; tail = plain.fits.tail }

    pub place-fits : (c : ℕ) → ChangeFits t (place_change s c p)
    place-fits c =
        let x = seats_from s c p in
        let at = numbered-of (c + length (ways_read s p)) (definitions_in s p) in
        record {
          before = append-each t (map (given s p) x.ways) (flat_map (tied_reload s) x.definitions)
              (λ y m. (let z = map-of (given s p) y x.ways m in subst (InstrFits t) (sym z.2) (given-fits z.0.0 z.0.1 (numbered-of c (ways_read s p) z.0 z.1))))
              (flat-each t (tied_reload s) x.definitions (λ d m. tied-fits d.0 d.1 (defines d.1 (at d m))));
          own = λ y m. (let z = map-of (with_tinies s x) y p m in subst (InstrFits t) (sym z.2) (tinies-fits x z.0 (each z.0 z.1)));
          behind = flat-each t (stored s) x.definitions (λ d m. stored-fits d.0 d.1 (defines d.1 (at d m)));
        }
