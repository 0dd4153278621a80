-- What becomes of a place, case by case: of a copy, a store, a reload, an IMPLICIT_DEF and a constant, and of any other place.
use Rattle.std.proofs.Common.{◌≡◌, ◌∙◌, ◌&&◌, ◌||◌, not, ℕ, suc, Bool, true, false, cond, List, [], ◌∷◌, Option, Some, None, take, refl, sym, ap, subst}
use Rattle.std.specs.Prelude.{filter, length, nat_lt, slice_get}
use Rattle.std.specs.List.{list_all, list_any}
use Rattle.target_base.specs.declared.types.ClassId.{ClassId}
use Rattle.target_base.specs.declared.types.Effect.{Effect}
use Rattle.target_base.specs.declared.types.Effect.TheVariants as effects
use Rattle.target_base.specs.declared.types.Role.{Role}
use Rattle.target_base.specs.declared.types.Role.TheVariants as roles
use Rattle.target_base.specs.Roles.{is_definition as is_definition_role, is_lanes, is_silent, is_slot, is_use as is_use_role}
use Rattle.target_base.specs.declared.types.Target.{Target}
use Rattle.target_base.specs.Storage.{same_numbers}
use Rattle.target_base.proofs.Tests.{first_of_both}
use Rattle.meaning.specs.Live.{Among as Member, here as first, there as later}
use Rattle.mir_func.specs.declared.func.RegOp.{RegOp}
use Rattle.mir_func.specs.declared.func.Operand.{Operand}
use Rattle.mir_func.specs.declared.func.Operand.TheVariants as operands
use Rattle.mir_func.specs.declared.func.Instr.{Instr}
use Rattle.mir_func.specs.Binding.{does, effect_of, is_lowered_away, is_terminator, passes}
use Rattle.mir_meaning.specs.Rules.{V1, copy_fits, fits_role, implicit_def_fits, spills_or_reloads}
use Rattle.live_laws.proofs.Effects.Lists.{all-of}
use Rattle.lowering_laws.proofs.BlockRules.{ordered}
use Rattle.live_laws.proofs.Touch.Roles.{TakeAll, has_roles, met, reload-takes, spill-takes}
use Rattle.instr_effects.proofs.Members.{member-elim, member-none}
use Rattle.spiller.specs.Setting.{Spilling, class_beside, in_own_slot, is_live_behind, is_own, moving_class, own_class, own_lanes, part_class, plain_definition, plain_use, reload, store, undef_use}
use Rattle.spiller.specs.Rematerialised.{all_readings, copy_reading, is_constant, is_needless, is_rematerialised, places_from, reaches, repeated, repeated_for}
use Rattle.spiller.specs.Spilled.{Change, becomes, change, copied_in, copied_out, copied_within, effect_change, in_place_of, is_own_part, place_change, through_tiny}

-- the opcode has roles, and is neither a store to a slot nor a reload
abbrev pub is_placed : Effect → Bool
is_placed e = has_roles e && not (spills_or_reloads e)

-- a terminator has roles, and is neither a store to a slot nor a reload
pub ends-placed : (e : Effect) → is_terminator e ≡ true → is_placed e ≡ true
ends-placed effects.Copy h = absurd (cc)
ends-placed effects.Phi h = absurd (cc)
ends-placed effects.ImplicitDef h = absurd (cc)
ends-placed effects.RegSequence h = absurd (cc)
ends-placed effects.InsertSubreg h = absurd (cc)
ends-placed effects.Spill h = absurd (cc)
ends-placed effects.Reload h = absurd (cc)
ends-placed e h = refl

constant-silent : (q : Option Effect) → passes is_constant q ≡ true → passes is_silent q ≡ true
constant-silent None h = absurd (cc)
constant-silent (Some effects.Const) h = refl
constant-silent (Some effects.Addr) h = refl
constant-silent (Some e) h = absurd (cc)

pub use-register : (r : Role) (x : Operand) → is_use_role r ≡ true → fits_role r x ≡ true → (o : RegOp) × (x ≡ operands.Reg o)
use-register (roles.Read k) (operands.Reg o) h g = (o, refl)
use-register (roles.Tied k n) (operands.Reg o) h g = (o, refl)
use-register r x h g = absurd (cc)

pub definition-register : (r : Role) (x : Operand) → is_definition_role r ≡ true → fits_role r x ≡ true → (o : RegOp) × (x ≡ operands.Reg o)
definition-register (roles.Def k) (operands.Reg o) h g = (o, refl)
definition-register (roles.Early k) (operands.Reg o) h g = (o, refl)
definition-register r x h g = absurd (cc)

module _ (s : Spilling) where
  -- a store or a reload in the place of an instruction
  pub data Replaces (i : Instr) : Instr → Type 0 where
    from_range : {d o : RegOp} → effect_of s.target i ≡ Some effects.Copy → i.operands ≡ operands.Reg d ∷ operands.Reg o ∷ [] → is_own s o ≡ true → is_own s d ≡ false
        → Replaces i (reload s.target (class_beside s d d.loc) (plain_definition d.loc d.index) (in_own_slot s o.index))
    to_range : {d o : RegOp} → effect_of s.target i ≡ Some effects.Copy → i.operands ≡ operands.Reg d ∷ operands.Reg o ∷ [] → is_own s o ≡ false → is_own s d ≡ true
        → Replaces i (store s.target (class_beside s o o.loc) (plain_use o.loc o.index) (in_own_slot s d.index))
    undefined : {o : RegOp} → effect_of s.target i ≡ Some effects.ImplicitDef → i.operands ≡ operands.Reg o ∷ [] → is_own s o ≡ true
        → Replaces i (store s.target (part_class s.target o.index (own_class s)) (undef_use s.target (part_class s.target o.index (own_class s))) (in_own_slot s o.index))

  -- lanes of one slot that go to lanes of another
  pub data Passes (i : Instr) : Option ClassId → List Operand → List Operand → Type 0 where
    within : {d o : RegOp} → effect_of s.target i ≡ Some effects.Copy → i.operands ≡ operands.Reg d ∷ operands.Reg o ∷ [] → is_own s o ≡ true → is_own s d ≡ true
        → Passes i (moving_class s d.index) (in_own_slot s o.index) (in_own_slot s d.index)
    stored_on : {o : RegOp} {slot : List Operand} → effect_of s.target i ≡ Some effects.Spill → i.operands ≡ operands.Reg o ∷ slot → is_own s o ≡ true
        → Passes i (moving_class s o.index) (in_own_slot s o.index) slot
    reloaded_on : {o : RegOp} {slot : List Operand} → effect_of s.target i ≡ Some effects.Reload → i.operands ≡ operands.Reg o ∷ slot → is_own s o ≡ true
        → Passes i (moving_class s o.index) slot (in_own_slot s o.index)

  -- an instruction that stays as it is doesn't name the range
  pub data Keeps (i : Instr) : Type 0 where
    copying : {d o : RegOp} → i.operands ≡ operands.Reg d ∷ operands.Reg o ∷ [] → is_own s o ≡ false → is_own s d ≡ false → Keeps i
    naming : {o : RegOp} {os : List Operand} → does is_silent s.target i ≡ true → i.operands ≡ operands.Reg o ∷ os → is_own s o ≡ false → Keeps i

  pub data Outcome (n c : ℕ) : List Instr → Change → Type 0 where
    stays : {i : Instr} → Keeps i → Outcome n c (i ∷ []) (becomes (i ∷ []))
    goes : {i : Instr} → does is_silent s.target i ≡ true → Outcome n c (i ∷ []) (becomes [])
    replaced : {i j : Instr} → Replaces i j → Outcome n c (i ∷ []) (becomes (in_place_of i j ∷ []))
    repeats : {i x : Instr} {d o : RegOp} → effect_of s.target i ≡ Some effects.Copy → i.operands ≡ operands.Reg d ∷ operands.Reg o ∷ [] → is_own s o ≡ true → is_own s d ≡ false
        → repeated_for s (copy_reading s i d o) ≡ Some x → Outcome n c (i ∷ []) (record (becomes []) { before = repeated x (plain_definition d.loc d.index) ∷ [] })
    passed : {i : Instr} {k : Option ClassId} {from to : List Operand} → Passes i k from to → Outcome n c (i ∷ []) (through_tiny s n c i k from to)
    seated : {is : List Instr} → ((i : Instr) → Member i is → does is_placed s.target i ≡ true) → Outcome n c is (place_change s c is)

  module _ (n c : ℕ) (i : Instr) where
    abbrev Comes : Option Effect → List Operand → Type 0
    Comes e os = Outcome n c (i ∷ []) (effect_change s n c i e os)

    of-copied-out : (d o : RegOp) → effect_of s.target i ≡ Some effects.Copy → i.operands ≡ operands.Reg d ∷ operands.Reg o ∷ [] → is_own s o ≡ true → is_own s d ≡ false → Outcome n c (i ∷ []) (copied_out s i d o)
    of-copied-out d o e g p q = go (repeated_for s (copy_reading s i d o)) refl
      where
        go : (r : Option Instr) → repeated_for s (copy_reading s i d o) ≡ r →
            Outcome n c (i ∷ []) (elim r as (λ r. Change) [
              | None ↦ becomes (in_place_of i (reload s.target (class_beside s d d.loc) (plain_definition d.loc d.index) (in_own_slot s o.index)) ∷ [])
              | Some x ↦ record (becomes []) { before = repeated x (plain_definition d.loc d.index) ∷ [] }
            ])
        go None h = replaced (from_range e g p q)
        go (Some x) h = repeats e g p q h

    silent-by : (e : Effect) → effect_of s.target i ≡ Some e → is_silent e ≡ true → does is_silent s.target i ≡ true
    silent-by e known h = ap (passes is_silent) known ∙ h

    of-copied-within : (d o : RegOp) → effect_of s.target i ≡ Some effects.Copy → i.operands ≡ operands.Reg d ∷ operands.Reg o ∷ [] → is_own s o ≡ true → is_own s d ≡ true → Outcome n c (i ∷ []) (copied_within s n c i d o)
    of-copied-within d o e g p q = go (same_numbers (own_lanes s d.index) (own_lanes s o.index))
      where
        go : (b : Bool) → Outcome n c (i ∷ []) (cond b (becomes []) (through_tiny s n c i (moving_class s d.index) (in_own_slot s o.index) (in_own_slot s d.index)))
        go true = goes (silent-by effects.Copy e refl)
        go false = passed (within e g p q)

    of-copy : (os : List Operand) → effect_of s.target i ≡ Some effects.Copy → i.operands ≡ os → copy_fits os ≡ true → Comes (Some effects.Copy) os
    of-copy (operands.Reg d ∷ operands.Reg o ∷ []) e g h = go (is_own s o) (is_own s d) refl refl
      where
        go : (a b : Bool) → is_own s o ≡ a → is_own s d ≡ b → Outcome n c (i ∷ []) (cond a (cond b (copied_within s n c i d o) (copied_out s i d o)) (cond b (copied_in s i d o) (becomes (i ∷ []))))
        go true true p q = of-copied-within d o e g p q
        go true false p q = of-copied-out d o e g p q
        go false true p q = replaced (to_range e g p q)
        go false false p q = stays (copying g p q)
    of-copy os e g h = absurd (cc)

    of-slot : (o : RegOp) (slot : List Operand) (x : Change) → does is_silent s.target i ≡ true → i.operands ≡ operands.Reg o ∷ slot → (is_own s o ≡ true → Outcome n c (i ∷ []) x)
        → Outcome n c (i ∷ []) (cond (is_own s o) (cond (is_own_part s o slot) (becomes []) x) (becomes (i ∷ [])))
    of-slot o slot x e g more = go (is_own s o) (is_own_part s o slot) refl
      where
        go : (a b : Bool) → is_own s o ≡ a → Outcome n c (i ∷ []) (cond a (cond b (becomes []) x) (becomes (i ∷ [])))
        go true true p = goes e
        go true false p = more p
        go false b p = stays (naming e g p)

    of-spill : (os : List Operand) → effect_of s.target i ≡ Some effects.Spill → i.operands ≡ os → ((x : Operand) (xs : List Operand) → os ≡ x ∷ xs → (o : RegOp) × (x ≡ operands.Reg o)) → (os ≡ [] → ⊥) → Comes (Some effects.Spill) os
    of-spill [] e g h none = absurd (none refl)
    of-spill (operands.Reg o ∷ slot) e g h none = of-slot o slot (through_tiny s n c i (moving_class s o.index) (in_own_slot s o.index) slot) (silent-by effects.Spill e refl) g (λ p. passed (stored_on e g p))
    of-spill (x ∷ slot) e g h none = absurd (let z = (h x slot refl).1 in cc)

    of-reload : (os : List Operand) → effect_of s.target i ≡ Some effects.Reload → i.operands ≡ os → ((x : Operand) (xs : List Operand) → os ≡ x ∷ xs → (o : RegOp) × (x ≡ operands.Reg o)) → (os ≡ [] → ⊥) → Comes (Some effects.Reload) os
    of-reload [] e g h none = absurd (none refl)
    of-reload (operands.Reg o ∷ slot) e g h none = of-slot o slot (through_tiny s n c i (moving_class s o.index) slot (in_own_slot s o.index)) (silent-by effects.Reload e refl) g (λ p. passed (reloaded_on e g p))
    of-reload (x ∷ slot) e g h none = absurd (let z = (h x slot refl).1 in cc)

    of-undefined : (os : List Operand) → effect_of s.target i ≡ Some effects.ImplicitDef → i.operands ≡ os → implicit_def_fits os ≡ true → Comes (Some effects.ImplicitDef) os
    of-undefined (operands.Reg o ∷ []) e g h = go (is_own s o) (is_live_behind s i o.index) refl
      where
        k : Option ClassId
        k = part_class s.target o.index (own_class s)

        go : (a b : Bool) → is_own s o ≡ a → Outcome n c (i ∷ []) (cond (not a) (becomes (i ∷ [])) (cond b (becomes (in_place_of i (store s.target (part_class s.target o.index (own_class s)) (undef_use s.target (part_class s.target o.index (own_class s))) (in_own_slot s o.index)) ∷ [])) (becomes [])))
        go true true p = replaced (undefined e g p)
        go true false p = goes (silent-by effects.ImplicitDef e refl)
        go false b p = stays (naming (silent-by effects.ImplicitDef e refl) g p)
    of-undefined os e g h = absurd (cc)

    of-other : does is_placed s.target i ≡ true → Outcome n c (i ∷ []) (cond (is_needless s i) (becomes []) (place_change s c (i ∷ [])))
    of-other h = go (is_needless s i) refl
      where
        constant : is_needless s i ≡ true → does is_silent s.target i ≡ true
        constant e =
            let rs = filter (reaches s i) (all_readings s) in
            constant-silent (effect_of s.target i) (first_of_both (does is_constant s.target i) (nat_lt 0 (length rs)) (first_of_both (does is_constant s.target i && nat_lt 0 (length rs)) (list_all (is_rematerialised s) rs) e))

        go : (b : Bool) → is_needless s i ≡ b → Outcome n c (i ∷ []) (cond b (becomes []) (place_change s c (i ∷ [])))
        go true e = goes (constant e)
        go false e = seated (λ j m. member-elim j i [] (λ q. ap (does is_placed s.target) q ∙ h) (λ k. absurd (member-none j k)) m)

    module _ (rule : V1 s.target s.func i ≡ true) (lowered : does (λ e. not (is_lowered_away e)) s.target i ≡ true) where
      taken : (os : List Operand) (test : Role → Bool) (tests : List (Role → Bool)) → ((r : Role) (x : Operand) → test r ≡ true → fits_role r x ≡ true → (o : RegOp) × (x ≡ operands.Reg o)) → TakeAll (test ∷ tests) os → (x : Operand) (xs : List Operand) → os ≡ x ∷ xs → (o : RegOp) × (x ≡ operands.Reg o)
      taken [] test tests h a x xs e = absurd a
      taken (y ∷ ys) test tests h a x xs e = subst (λ z. (o : RegOp) × (z ≡ operands.Reg o)) (same-head y x ys xs e) (h a.0.0 y a.0.1 a.0.2)
        where
          same-head : (y x : Operand) (ys xs : List Operand) → y ∷ ys ≡ x ∷ xs → y ≡ x
          same-head y x ys xs e = cc

      some-taken : (os : List Operand) (test : Role → Bool) (tests : List (Role → Bool)) → TakeAll (test ∷ tests) os → os ≡ [] → ⊥
      some-taken [] test tests a e = a
      some-taken (y ∷ ys) test tests a e = cc

      pub outcome-one : Outcome n c (i ∷ []) (change s n c (i ∷ []))
      outcome-one = go (effect_of s.target i) refl lowered
        where
          go : (q : Option Effect) → effect_of s.target i ≡ q → passes (λ e. not (is_lowered_away e)) q ≡ true → Comes q i.operands
          go None e h = absurd (cc)
          go (Some effects.Copy) e h = of-copy i.operands e refl (met s.target s.func i effects.Copy e rule).3
          go (Some effects.Spill) e h = let a = spill-takes s.target s.func i rule e in of-spill i.operands e refl (taken i.operands is_use_role (is_slot ∷ is_lanes ∷ []) use-register a) (some-taken i.operands is_use_role (is_slot ∷ is_lanes ∷ []) a)
          go (Some effects.Reload) e h = let a = reload-takes s.target s.func i rule e in of-reload i.operands e refl (taken i.operands is_definition_role (is_slot ∷ is_lanes ∷ []) definition-register a) (some-taken i.operands is_definition_role (is_slot ∷ is_lanes ∷ []) a)
          go (Some effects.ImplicitDef) e h = of-undefined i.operands e refl (met s.target s.func i effects.ImplicitDef e rule).3
          go (Some effects.Phi) e h = absurd (cc)
          go (Some effects.RegSequence) e h = absurd (cc)
          go (Some effects.InsertSubreg) e h = absurd (cc)
          go (Some x) e h = of-other (ap (passes is_placed) e)

  -- the terminators of a block
  pub outcome-ends : (n c : ℕ) (i : Instr) (is : List Instr) → ((j : Instr) → Member j (i ∷ is) → V1 s.target s.func j ≡ true) → ((j : Instr) → Member j (i ∷ is) → does (λ e. not (is_lowered_away e)) s.target j ≡ true)
      → ((j : Instr) → Member j (i ∷ is) → does is_terminator s.target j ≡ true) → Outcome n c (i ∷ is) (change s n c (i ∷ is))
  outcome-ends n c i [] rule lowered ends = outcome-one n c i (rule i first) (lowered i first)
  outcome-ends n c i (j ∷ is) rule lowered ends = seated (λ x m. placed (effect_of s.target x) (ends x m))
    where
      placed : (q : Option Effect) → passes is_terminator q ≡ true → passes is_placed q ≡ true
      placed None h = h
      placed (Some e) h = ends-placed e h

  -- the places of a block

  module _ (all : List Instr) (rule : (j : Instr) → Member j all → V1 s.target s.func j ≡ true) (lowered : (j : Instr) → Member j all → does (λ e. not (is_lowered_away e)) s.target j ≡ true) where
    abbrev Comes-out : List Instr → Type 0
    Comes-out p = (n c : ℕ) → Outcome n c p (change s n c p)

    places-out : (is : List Instr) → ((j : Instr) → Member j is → Member j all) → ordered s.target is ≡ true → (p : List Instr) → Member p (places_from s.target is) → Comes-out p
    places-out [] w o p m = absurd (member-none p m)
    places-out (i ∷ is) w o p m = go (does is_terminator s.target i) refl o m (λ k q. places-out is (λ j z. w j (later z)) k p q)
      where
        go : (b : Bool) → does is_terminator s.target i ≡ b → cond b (list_all (does is_terminator s.target) is) (ordered s.target is) ≡ true → Member p (cond b ((i ∷ is) ∷ []) ((i ∷ []) ∷ places_from s.target is)) → (ordered s.target is ≡ true → Member p (places_from s.target is) → Comes-out p) → Comes-out p
        go true e k q more =
            member-elim p (i ∷ is) []
            (λ h. subst Comes-out (sym h) (λ n c. outcome-ends n c i is (λ j z. rule j (w j z)) (λ j z. lowered j (w j z)) (λ j z. all-of (does is_terminator s.target) j (i ∷ is) z (λ r. e r && k r))))
            (λ h. absurd (member-none p h)) q
        go false e k q more = member-elim p (i ∷ []) (places_from s.target is) (λ h. subst Comes-out (sym h) (λ n c. outcome-one n c i (rule i (w i first)) (lowered i (w i first)))) (λ h. more k h) q

    pub place-outcome : ordered s.target all ≡ true → (p : List Instr) → Member p (places_from s.target all) → (n c : ℕ) → Outcome n c p (change s n c p)
    place-outcome o p m = places-out all (λ j z. z) o p m

-- behind a terminator stand terminators only

module _ (t : Target) where
  abbrev ends : Instr → Bool
  ends i = does is_terminator t i

  abbrev rule-eight : List Instr → ℕ → Instr → Bool
  rule-eight is j i = ends i || not (list_any ends (take j is))

  all-end : (is : List Instr) → ((j : ℕ) (i : Instr) → slice_get is j ≡ Some i → ends i ≡ true) → list_all ends is ≡ true
  all-end [] h = refl
  all-end (x ∷ is) h = λ k. h 0 x refl k && all-end is (λ j i e. h (suc j) i e) k

  past-one : (a : Bool) → (a || not true) ≡ true → a ≡ true
  past-one true e = refl
  past-one false e = absurd (cc)

  pub ordered-by : (is : List Instr) → ((j : ℕ) (i : Instr) → slice_get is j ≡ Some i → rule-eight is j i ≡ true) → ordered t is ≡ true
  ordered-by [] h = refl
  ordered-by (x ∷ is) h = go (ends x) refl (ordered-by is)
    where
      go : (b : Bool) → ends x ≡ b → (((j : ℕ) (i : Instr) → slice_get is j ≡ Some i → rule-eight is j i ≡ true) → ordered t is ≡ true) → cond b (list_all ends is) (ordered t is) ≡ true
      go true e ih = all-end is (λ j i q. past-one (ends i) (subst (λ b. (ends i || not (b || list_any ends (take j is))) ≡ true) e (h (suc j) i q)))
      go false e ih = ih (λ j i q. subst (λ b. (ends i || not (b || list_any ends (take j is))) ≡ true) e (h (suc j) i q))
