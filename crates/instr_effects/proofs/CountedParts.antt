-- What counted instructions read and write, operand by operand.
use Rattle.std.proofs.Common.{◌≡◌, ℕ, zero, suc, ◌+◌, Bool, true, false, cond, not, ◌&&◌, List, [], ◌∷◌, ◌++◌, Option, Some, None, map, flat_map, filter, filter_map, get_or, refl, sym, ap, ap₂, ◌∙◌, arith, append_assoc, append-nil, nat_abs}
use Rattle.std.specs.Prelude.{is_some}
use Rattle.std.specs.List.{cons_option, list_any}
use Rattle.std.proofs.lemmas.List.Elements.{filter_map-append}
use Rattle.target_base.specs.declared.types.Effect.{Effect}
use Rattle.target_base.specs.declared.types.Effect.TheVariants as effects
use Rattle.target_base.specs.declared.types.OpaqueKind.TheVariants as kinds
use Rattle.target_base.specs.declared.types.Role.{Role}
use Rattle.target_base.specs.declared.types.Target.{Target}
use Rattle.meaning.specs.Perform.{condition_lane}
use Rattle.mir_func.specs.declared.func.RegOp.{RegOp}
use Rattle.mir_func.specs.declared.func.Operand.{Operand}
use Rattle.mir_func.specs.Value.{Function}
use Rattle.mir_func.specs.Binding.{Definition, as_register, registers, definitions, immediate_of}
use Rattle.mir_meaning.specs.Registers.{numbers, operand_lanes, undefined_lanes}
use Rattle.mir_meaning.specs.Items.{pick, preserves, implicit_definitions}
use Rattle.instr_effects.specs.declared.owner.Owner.{Owner}
use Rattle.instr_effects.specs.declared.owner.Owner.TheVariants as owners
use Rattle.mir_meaning.specs.declared.writing.LaneDef.{LaneDef}
use Rattle.instr_effects.specs.Owners.{owner_of, operand_owners}
use Rattle.instr_effects.specs.Acts.{plain, acts_of, result_acts, is_call, unpreserved, call_writes, counted_acts, use_owners, flag_owners, takes_some, tested_role, explicit_uses, implicit_uses, implicit_owners, counted_owners}
use Rattle.instr_effects.specs.Steps.{Numbering, act_writing, act_writings, act_reading, act_readings}
use Rattle.instr_effects.specs.Runs.{one_lane, one_writing, of_kind, unit_clobbered}
use Rattle.instr_effects.proofs.Loops.{numbers_end}
use Rattle.instr_effects.proofs.Operands.{picked, flag_none}
use Rattle.instr_effects.proofs.Writes.{acts-counted, acts-units, no_call}
use Rattle.instr_effects.proofs.Runs.{unread}

-- what comes of the register operands of a kind
pub each-flat : {X : Type 0} (p : RegOp → Bool) (g : RegOp → List X) (os : List Operand) → flat_map (of_kind p g) os ≡ flat_map g (filter p (registers os))
each-flat p g [] = refl
each-flat p g (o ∷ os) = go (as_register o) (each-flat p g os)
  where
    one : (r : RegOp) (b : Bool) → flat_map (of_kind p g) os ≡ flat_map g (filter p (registers os)) → cond b (g r) [] ++ flat_map (of_kind p g) os ≡ flat_map g (cond b (r ∷ filter p (registers os)) (filter p (registers os)))
    one r true h = ap (λ t. g r ++ t) h
    one r false h = h

    go : (m : Option RegOp) → flat_map (of_kind p g) os ≡ flat_map g (filter p (registers os)) → elim m [ None ↦ [] | Some r ↦ cond (p r) (g r) [] ] ++ flat_map (of_kind p g) os ≡ flat_map g (filter p (cons_option m (registers os)))
    go None h = h
    go (Some r) h = one r (p r) h

-- of what comes of each, a part
pub part-flat : {X Y Z : Type 0} (h : Y → Option Z) (g : X → List Y) (xs : List X) → filter_map h (flat_map g xs) ≡ flat_map (λ x. filter_map h (g x)) xs
part-flat h g [] = refl
part-flat h g (x ∷ xs) = filter_map-append h (g x) (flat_map g xs) ∙ ap (λ t. filter_map h (g x) ++ t) (part-flat h g xs)

pub filter-two : {X : Type 0} (p q : X → Bool) (xs : List X) → filter p (filter q xs) ≡ filter (λ x. q x && p x) xs
filter-two p q [] = refl
filter-two p q (x ∷ xs) = go (q x) (p x) refl (filter-two p q xs)
  where
    go : (b c : Bool) → p x ≡ c → filter p (filter q xs) ≡ filter (λ y. q y && p y) xs → filter p (cond b (x ∷ filter q xs) (filter q xs)) ≡ cond (b && c) (x ∷ filter (λ y. q y && p y) xs) (filter (λ y. q y && p y) xs)
    go true true e h = ap (λ d. cond d (x ∷ filter p (filter q xs)) (filter p (filter q xs))) e ∙ ap (λ t. x ∷ t) h
    go true false e h = ap (λ d. cond d (x ∷ filter p (filter q xs)) (filter p (filter q xs))) e ∙ h
    go false c e h = h

nothing-flat : {X Y : Type 0} (g : X → List Y) → ((x : X) → g x ≡ []) → (xs : List X) → flat_map g xs ≡ []
nothing-flat g h [] = refl
nothing-flat g h (x ∷ xs) = ap₂ (λ a b. a ++ b) (h x) (nothing-flat g h xs)

pub is_none_none : (role : Option Role) → is_some role ≡ false → role ≡ None
is_none_none None e = refl
is_none_none (Some r) e = absurd (cc)

-- the units that a call makes undefined

pub units_more : {Y : Type 0} (g : ℕ → List Y) (start now : List Y) (k : ℕ) → now ≡ start ++ flat_map g (numbers 0 k) → now ++ g k ≡ start ++ flat_map g (numbers 0 (k + 1))
units_more g start now k so =
    let s : suc k ≡ k + 1 = omega arith in
    let z : 0 + k ≡ k = omega arith in
    ap (λ t. t ++ g k) so ∙ append_assoc start (flat_map g (numbers 0 k)) (g k)
    ∙ ap (λ t. start ++ t) (sym (ap (λ n. flat_map g (numbers 0 n)) (sym s) ∙ ap (flat_map g) (numbers_end 0 k ∙ ap (λ m. numbers 0 k ++ m ∷ []) z) ∙ joined (numbers 0 k)))
  where
    joined : (ns : List ℕ) → flat_map g (ns ++ k ∷ []) ≡ flat_map g ns ++ g k
    joined [] = append-nil (g k)
    joined (n ∷ ns) = ap (λ t. g n ++ t) (joined ns) ∙ sym (append_assoc (g n) (flat_map g ns) (g k))

module _ (t : Target) (num : Numbering) (os : List Operand) where
  clobbered : (ns : List ℕ) → flat_map (unit_clobbered t num os) ns ≡ act_writings num (map (λ u. plain false (owners.Unit u)) (filter (λ u. not (list_any (preserves t u) os)) ns))
  clobbered [] = refl
  clobbered (n ∷ ns) = go (list_any (preserves t n) os) (clobbered ns)
    where
      one : (m : Option ℕ) (xs ys : List LaneDef) → xs ≡ ys → one_writing false m ++ xs ≡ cons_option (elim m [ None ↦ None | Some k ↦ Some (record { lane = k; from = None; early = false }) ]) ys
      one None xs ys h = h
      one (Some k) xs ys h = ap (λ x. record { lane = k; from = None; early = false } ∷ x) h

      rest : List LaneDef
      rest = act_writings num (map (λ u. plain false (owners.Unit u)) (filter (λ u. not (list_any (preserves t u) os)) ns))

      go : (b : Bool) → flat_map (unit_clobbered t num os) ns ≡ act_writings num (map (λ u. plain false (owners.Unit u)) (filter (λ u. not (list_any (preserves t u) os)) ns)) → cond b [] (one_writing false (num (owners.Unit n))) ++ flat_map (unit_clobbered t num os) ns ≡ act_writings num (map (λ u. plain false (owners.Unit u)) (cond (not b) (n ∷ filter (λ u. not (list_any (preserves t u) os)) ns) (filter (λ u. not (list_any (preserves t u) os)) ns)))
      go true h = h
      go false h = one (num (owners.Unit n)) (flat_map (unit_clobbered t num os) ns) (act_writings num (map (λ u. plain false (owners.Unit u)) (filter (λ u. not (list_any (preserves t u) os)) ns))) h

  pub unpreserved_units : (n : ℕ) → flat_map (unit_clobbered t num os) (numbers 0 n) ≡ act_writings num (map (λ u. plain false (owners.Unit u)) (filter (λ u. not (list_any (preserves t u) os)) (numbers 0 n)))
  unpreserved_units n = clobbered (numbers 0 n)

  pub no_clobber : (e : Effect) → is_call e ≡ false → act_writings num (acts_of (call_writes t e os)) ≡ []
  no_clobber e h = ap (act_writings num) (no_call t e os h)

  pub call_clobber : (e : Effect) → is_call e ≡ true → act_writings num (acts_of (call_writes t e os)) ≡ act_writings num (map (λ u. plain false (owners.Unit u)) (unpreserved t os))
  call_clobber effects.Call h = ap (act_writings num) (acts-units (unpreserved t os))
  call_clobber (effects.Opaque kinds.Call) h = ap (act_writings num) (acts-units (unpreserved t os))
  call_clobber e h = absurd (cc)

  call-unread : (e : Effect) → act_readings num (acts_of (call_writes t e os)) ≡ []
  call-unread effects.Call = ap (act_readings num) (acts-units (unpreserved t os)) ∙ unread num false owners.Unit (unpreserved t os)
  call-unread (effects.Opaque kinds.Call) = ap (act_readings num) (acts-units (unpreserved t os)) ∙ unread num false owners.Unit (unpreserved t os)
  call-unread e = refl

-- a result that is computed was not moved
pub result-unread : (t : Target) (f : Function) (num : Numbering) (early : Bool) (o : RegOp) → act_readings num (result_acts t f early o) ≡ []
result-unread t f num early o =
    filter_map-append (act_reading num) (map (plain early) (operand_owners t f o)) (map (plain early) (map owner_of (undefined_lanes t f o)))
    ∙ ap₂ (λ x y. x ++ y) (unread num early (λ l. l) (operand_owners t f o)) (unread num early (λ l. l) (map owner_of (undefined_lanes t f o)))

-- all that is written

module _ (t : Target) (f : Function) (num : Numbering) (e : Effect) (rs : List Role) (os : List Operand) where
  abbrev explicit-step : Definition → List LaneDef
  explicit-step d = act_writings num (result_acts t f d.0 d.1)

  abbrev implicit-step : RegOp → List LaneDef
  implicit-step o = act_writings num (map (plain false) (operand_owners t f o))

  pub counted-writings : act_writings num (acts_of (counted_acts t f e rs os)) ≡ flat_map explicit-step (definitions rs os) ++ (flat_map (of_kind (λ o. o.implicit && o.def) implicit-step) os ++ act_writings num (acts_of (call_writes t e os)))
  counted-writings =
      let explicit = flat_map (λ d. result_acts t f d.0 d.1) (definitions rs os) in
      let implicit = flat_map (λ o. map (plain false) (operand_owners t f o)) (implicit_definitions os) in
      let call = acts_of (call_writes t e os) in
      ap (act_writings num) (acts-counted t f e rs os)
      ∙ filter_map-append (act_writing num) explicit (implicit ++ call)
      ∙ ap (λ x. act_writings num explicit ++ x) (filter_map-append (act_writing num) implicit call)
      ∙ ap₂ (λ x y. x ++ (y ++ act_writings num call))
      (part-flat (act_writing num) (λ d. result_acts t f d.0 d.1) (definitions rs os))
      (part-flat (act_writing num) (λ o. map (plain false) (operand_owners t f o)) (implicit_definitions os) ∙ ap (flat_map implicit-step) (filter-two (λ (o : RegOp). o.def) (λ (o : RegOp). o.implicit) (registers os)) ∙ sym (each-flat (λ o. o.implicit && o.def) implicit-step os))

  pub written-in-parts : (start a b c : List LaneDef) → a ≡ start ++ flat_map explicit-step (definitions rs os) → b ≡ a ++ flat_map (of_kind (λ o. o.implicit && o.def) implicit-step) os → c ≡ b ++ act_writings num (acts_of (call_writes t e os)) → c ≡ start ++ act_writings num (acts_of (counted_acts t f e rs os))
  written-in-parts start a b c x y z =
      let one = flat_map explicit-step (definitions rs os) in
      let two = flat_map (of_kind (λ o. o.implicit && o.def) implicit-step) os in
      let three = act_writings num (acts_of (call_writes t e os)) in
      z ∙ ap (λ u. u ++ three) (y ∙ ap (λ u. u ++ two) x) ∙ append_assoc (start ++ one) two three ∙ append_assoc start one (two ++ three)
      ∙ ap (λ u. start ++ u) (sym counted-writings)

  -- nothing that is written was moved there
  pub no_readings : act_readings num (acts_of (counted_acts t f e rs os)) ≡ []
  no_readings =
      let explicit = flat_map (λ d. result_acts t f d.0 d.1) (definitions rs os) in
      let implicit = flat_map (λ o. map (plain false) (operand_owners t f o)) (implicit_definitions os) in
      let call = acts_of (call_writes t e os) in
      ap (act_readings num) (acts-counted t f e rs os)
      ∙ filter_map-append (act_reading num) explicit (implicit ++ call)
      ∙ ap (λ x. act_readings num explicit ++ x) (filter_map-append (act_reading num) implicit call)
      ∙ ap₂ (λ x y. x ++ y)
      (part-flat (act_reading num) (λ d. result_acts t f d.0 d.1) (definitions rs os) ∙ nothing-flat (λ d. act_readings num (result_acts t f d.0 d.1)) (λ d. result-unread t f num d.0 d.1) (definitions rs os))
      (ap₂ (λ x y. x ++ y) (part-flat (act_reading num) (λ o. map (plain false) (operand_owners t f o)) (implicit_definitions os) ∙ nothing-flat (λ o. act_readings num (map (plain false) (operand_owners t f o))) (λ o. unread num false (λ l. l) (operand_owners t f o)) (implicit_definitions os)) (call-unread t num os e))

-- all that is read

module _ (t : Target) (f : Function) (num : Numbering) where
  abbrev use-step : RegOp → List ℕ
  use-step o = filter_map num (use_owners t f o)

  abbrev flag-step : ℕ → RegOp → List ℕ
  flag-step k o = filter_map num (flag_owners t f k o)

  picked-number : (k : ℕ) (os : List Owner) → filter_map num (pick k os) ≡ one_lane (get_or (map num os) k None)
  picked-number k [] = refl
  picked-number zero (o ∷ os) = go (num o)
    where
      go : (n : Option ℕ) → cons_option n [] ≡ one_lane n
      go None = refl
      go (Some n) = refl
  picked-number (suc k) (o ∷ os) = picked-number k os

  pub flag_undef : (k : ℕ) (o : RegOp) → o.undef ≡ true → filter_map num (flag_owners t f k o) ≡ []
  flag_undef k o e = ap (filter_map num) (flag_none t f k o e)

  pub flag_read : (k : ℕ) (o : RegOp) → o.undef ≡ false → filter_map num (flag_owners t f k o) ≡ one_lane (get_or (map num (operand_owners t f o)) k None)
  flag_read k o e = ap (filter_map num) (picked k o.undef (operand_lanes t f o) ∙ ap (λ b. cond b [] (pick k (operand_owners t f o))) e) ∙ picked-number k (operand_owners t f o)

  pub explicit-reads : (os : List Operand) → filter_map num (flat_map (use_owners t f) (explicit_uses os)) ≡ flat_map (of_kind (λ o. not o.def && not o.implicit) use-step) os
  explicit-reads os = part-flat num (use_owners t f) (explicit_uses os) ∙ sym (each-flat (λ o. not o.def && not o.implicit) use-step os)

  implicit-kind : (p : RegOp → Bool) (os : List Operand) → filter p (implicit_uses os) ≡ filter (λ o. (o.implicit && not o.def) && p o) (registers os)
  implicit-kind p os = ap (filter p) (filter-two (λ (o : RegOp). not o.def) (λ (o : RegOp). o.implicit) (registers os)) ∙ filter-two p (λ (o : RegOp). o.implicit && not o.def) (registers os)

  pub flags_read : (role : Option Role) (k : ℕ) (os : List Operand) → filter_map num (flat_map (flag_owners t f k) (filter (takes_some role) (implicit_uses os))) ≡ flat_map (of_kind (λ o. (o.implicit && not o.def) && takes_some role o) (flag-step k)) os
  flags_read role k os =
      part-flat num (flag_owners t f k) (filter (takes_some role) (implicit_uses os))
      ∙ ap (flat_map (flag-step k)) (implicit-kind (takes_some role) os)
      ∙ sym (each-flat (λ o. (o.implicit && not o.def) && takes_some role o) (flag-step k) os)

  none-taken : (us : List RegOp) → filter (takes_some None) us ≡ []
  none-taken [] = refl
  none-taken (u ∷ us) = none-taken us

  pub untested : (role : Option Role) (k : ℕ) (os : List Operand) → role ≡ None → filter_map num (flat_map (flag_owners t f k) (filter (takes_some role) (implicit_uses os))) ≡ []
  untested role k os e = ap (λ r. filter_map num (flat_map (flag_owners t f k) (filter (takes_some r) (implicit_uses os)))) e ∙ ap (λ us. filter_map num (flat_map (flag_owners t f k) us)) (none-taken (implicit_uses os))

  others-read : (role : Option Role) (os : List Operand) → filter_map num (flat_map (use_owners t f) (filter (λ o. not (takes_some role o)) (implicit_uses os))) ≡ flat_map (of_kind (λ o. (o.implicit && not o.def) && not (takes_some role o)) use-step) os
  others-read role os =
      part-flat num (use_owners t f) (filter (λ o. not (takes_some role o)) (implicit_uses os))
      ∙ ap (flat_map use-step) (implicit-kind (λ o. not (takes_some role o)) os)
      ∙ sym (each-flat (λ o. (o.implicit && not o.def) && not (takes_some role o)) use-step os)

  pub read-in-parts : (e : Effect) (rs : List Role) (os : List Operand) (role : Option Role) (start a b c : List ℕ) → role ≡ tested_role e rs → a ≡ start ++ flat_map (of_kind (λ o. not o.def && not o.implicit) use-step) os → b ≡ a ++ filter_map num (flat_map (flag_owners t f (condition_lane (nat_abs (immediate_of os)))) (filter (takes_some role) (implicit_uses os))) → c ≡ b ++ flat_map (of_kind (λ o. (o.implicit && not o.def) && not (takes_some role o)) use-step) os → c ≡ start ++ filter_map num (counted_owners t f e rs os)
  read-in-parts e rs os role start a b c q x y z =
      let k = condition_lane (nat_abs (immediate_of os)) in
      let uses = flat_map (use_owners t f) (explicit_uses os) in
      let flags = flat_map (flag_owners t f k) (filter (takes_some role) (implicit_uses os)) in
      let others = flat_map (use_owners t f) (filter (λ o. not (takes_some role o)) (implicit_uses os)) in
      (z ∙ ap (λ u. b ++ u) (sym (others-read role os)))
      ∙ ap (λ u. u ++ filter_map num others) (y ∙ ap (λ u. u ++ filter_map num flags) (x ∙ ap (λ u. start ++ u) (sym (explicit-reads os))))
      ∙ append_assoc (start ++ filter_map num uses) (filter_map num flags) (filter_map num others)
      ∙ append_assoc start (filter_map num uses) (filter_map num flags ++ filter_map num others)
      ∙ ap (λ u. start ++ u) (ap (λ u. filter_map num uses ++ u) (sym (filter_map-append num flags others)) ∙ sym (filter_map-append num uses (flags ++ others)))
      ∙ ap (λ r. start ++ filter_map num (uses ++ implicit_owners t f r k (implicit_uses os))) q
