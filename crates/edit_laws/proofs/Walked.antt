-- What an instruction does to numbered lanes, in two functions by two numberings that agree on its operands.
use Rattle.std.proofs.Common.{◌≡◌, ◌∷◌, ◌++◌, ◌∙◌, ◌&&◌, not, ℕ, suc, ◌+◌, Bool, true, false, cond, List, [], Option, Some, None, refl, sym, ap, subst, map, filter, filter_map, sum, length}
use Rattle.std.specs.Prelude.{ℤ, nat_abs, option_and_then}
use Rattle.std.specs.List.{cons_option}
use Rattle.std.proofs.lemmas.List.Elements.{filter_map-append}
use Rattle.target_base.specs.declared.types.Effect.{Effect}
use Rattle.target_base.specs.declared.types.Effect.TheVariants as effects
use Rattle.target_base.specs.declared.types.IndexId.{IndexId}
use Rattle.target_base.specs.declared.types.Role.{Role}
use Rattle.target_base.specs.declared.types.Target.{Target}
use Rattle.target_base.specs.Roles.{is_silent}
use Rattle.target_base.specs.Rules.{is_phi}
use Rattle.meaning.specs.declared.types.Constant.{Constant}
use Rattle.meaning.specs.declared.types.Constant.TheVariants.{Immediate, StackAddress, FixedStackAddress, SymbolAddress}
use Rattle.meaning.specs.declared.types.Lane.{Lane}
use Rattle.meaning.specs.declared.types.Lane.TheVariants.{UnitLane}
use Rattle.meaning.specs.declared.types.Fill.TheVariants.{Computed, Moved}
use Rattle.meaning.specs.declared.types.Source.{Source}
use Rattle.meaning.specs.declared.types.Source.TheVariants.{FromLane, Undef}
use Rattle.meaning.specs.declared.types.Write.{Write}
use Rattle.meaning.specs.Environment.{constant_source, residue}
use Rattle.meaning.specs.Lanes.{Reads, Writes}
use Rattle.meaning.specs.Live.{Among, here, there}
use Rattle.meaning.specs.Perform.{condition_lane}
use Rattle.mir_func.specs.declared.func.Instr.{Instr}
use Rattle.mir_func.specs.declared.func.Operand.{Operand}
use Rattle.mir_func.specs.declared.func.Operand.TheVariants as operands
use Rattle.mir_func.specs.declared.func.RegOp.{RegOp}
use Rattle.mir_func.specs.Value.{Function}
use Rattle.mir_func.specs.Binding.{Definition, as_register, definitions, does, effect_of, explicit_operands, immediate_of, implicit_registers, implicit_roles, is_early_clobber, is_implicit_operand, is_terminator, registers, roles_of, slot_at}
use Rattle.mir_meaning.specs.Registers.{located_lanes, operand_lanes, operand_widths, slot_lane_numbers, slot_lanes, undefined_lanes, use_sources, whole_lanes}
use Rattle.mir_meaning.specs.Items.{Value, computed, computes_with_immediates, constant_bits, constant_lanes, constant_of, constant_value, copied, defined, defined_undef, first_width, flag_value, given_constant, has_base, implicit_definitions, implicit_values, is_flags, lanes_beside, moved, reloaded, results, silent_reads, undefined, use_value, uses, value_of, values, write}
use Rattle.instr_effects.specs.declared.owner.Owner.{Owner}
use Rattle.instr_effects.specs.declared.owner.Owner.TheVariants as owners
use Rattle.instr_effects.specs.Acts.{act_of, acts_of, call_writes, counted_acts, effect_acts, effect_reads, entered_reads, entered_writes, filled_whole, is_call, read_owners, silent_acts, stored, unpreserved}
use Rattle.instr_effects.specs.Ends.{end_uses, pairs_behind, pairs_of}
use Rattle.instr_effects.specs.Owners.{owner_of, owners_read, source_owner}
use Rattle.instr_effects.specs.Steps.{Numbering, act_reading, act_readings, act_writing, act_writings, is_unnumbered, phi_read_of}
use Rattle.instr_effects.proofs.Defined.{definition-of}
use Rattle.instr_effects.proofs.Members.{filter-of, member-elim, member-none}
use Rattle.live_lanes.specs.Doing.{doing_of}
use Rattle.edit_laws.proofs.Paired.{Paired, no_pairs, pair, BothOrNone, neither, both, append-paired, map-paired, flat-map-paired, filter-map-paired, mapped-paired, pick-paired}

-- a register operand that stands alone is among those of its list

cons-in : (x : RegOp) (q : Option RegOp) (ys : List RegOp) → Among x (cons_option q []) → Among x (cons_option q ys)
cons-in x None ys m = absurd (member-none x m)
cons-in x (Some y) ys m = member-elim x y [] (λ e. subst (λ z. Among x (z ∷ ys)) e here) (λ k. absurd (member-none x k)) m

cons-later : (x : RegOp) (q : Option RegOp) (ys : List RegOp) → Among x ys → Among x (cons_option q ys)
cons-later x None ys m = m
cons-later x (Some y) ys m = there m

register-in : (o : Operand) (os : List Operand) → Among o os → (x : RegOp) → Among x (registers (o ∷ [])) → Among x (registers os)
register-in o [] k x m = elim k [ ]
register-in o (p ∷ os) here x m = cons-in x (as_register o) (registers os) m
register-in o (p ∷ os) (there k) x m = cons-later x (as_register p) (registers os) (register-in o os k x m)

constant-unowned : (c : Constant) (low w : ℕ) → source_owner (constant_source c low w) ≡ None
constant-unowned (Immediate n) low w = refl
constant-unowned (StackAddress n) low w = refl
constant-unowned (FixedStackAddress n) low w = refl
constant-unowned (SymbolAddress n) low w = refl

read-one : (num : Numbering) (o : Option Owner) (os : List Owner) → filter_map num (cons_option o os) ≡ cons_option (option_and_then num o) (filter_map num os)
read-one num None os = refl
read-one num (Some o) os = refl

module _ (t : Target) (f g : Function) (num num' : Numbering) where
  -- lanes, sources and writes that are the same by number

  abbrev pub SameLane : Lane → Lane → Type 0
  SameLane l m = num (owner_of l) ≡ num' (owner_of m)

  abbrev pub SameSource : Source → Source → Type 0
  SameSource s r = option_and_then num (source_owner s) ≡ option_and_then num' (source_owner r)

  abbrev pub SameWrite : Write → Write → Type 0
  SameWrite w v = (act_writing num (act_of w) ≡ act_writing num' (act_of v)) × (act_reading num (act_of w) ≡ act_reading num' (act_of v))

  moved-write : (early : Bool) (l m : Lane) (s r : Source) → SameLane l m → SameSource s r → SameWrite (write early l (Moved s)) (write early m (Moved r))
  moved-write early l m s r e d = (
    (λ k. elim (e k) [ None ↦ None | Some n ↦ Some (record { lane = n; from = d k; early = early }) ]),
    (λ k. cond (is_unnumbered (e k)) (d k) None),
  )

  computed-write : (early : Bool) (l m : Lane) (i j : ℕ) → SameLane l m → SameWrite (write early l (Computed i)) (write early m (Computed j))
  computed-write early l m i j e = (
    (λ k. elim (e k) [ None ↦ None | Some n ↦ Some (record { lane = n; from = None; early = early }) ]),
    (λ k. cond (is_unnumbered (e k)) None None),
  )

  -- so are lists of them

  sources-same : {ss rs : List Source} → Paired SameSource ss rs → filter_map num (owners_read ss) ≡ filter_map num' (owners_read rs)
  sources-same no_pairs = refl
  sources-same (pair {x = s} {y = r} {xs = ss} {ys = rs} e p) =
      read-one num (source_owner s) (owners_read ss) ∙ ((λ k. cons_option (e k) (sources-same p k)) ∙ sym (read-one num' (source_owner r) (owners_read rs)))

  reads-same : {ps qs : Reads} → Paired (Paired SameSource) ps qs → filter_map num (read_owners ps) ≡ filter_map num' (read_owners qs)
  reads-same no_pairs = refl
  reads-same (pair {x = ss} {y = rs} {xs = ps} {ys = qs} e p) =
      filter_map-append num (owners_read ss) (read_owners ps) ∙ ((λ k. sources-same e k ++ reads-same p k) ∙ sym (filter_map-append num' (owners_read rs) (read_owners qs)))

  writings-same : {ws vs : Writes} → Paired SameWrite ws vs → act_writings num (acts_of ws) ≡ act_writings num' (acts_of vs)
  writings-same no_pairs = refl
  writings-same (pair e p) = λ k. cons_option (e.0 k) (writings-same p k)

  readings-same : {ws vs : Writes} → Paired SameWrite ws vs → act_readings num (acts_of ws) ≡ act_readings num' (acts_of vs)
  readings-same no_pairs = refl
  readings-same (pair e p) = λ k. cons_option (e.1 k) (readings-same p k)

  moved-paired : (early : Bool) {ls ms : List Lane} {ss rs : List Source} → Paired SameLane ls ms → Paired SameSource ss rs → Paired SameWrite (moved early ls ss) (moved early ms rs)
  moved-paired early no_pairs q = no_pairs
  moved-paired early (pair e p) no_pairs = no_pairs
  moved-paired early (pair {x = l} {y = m} e p) (pair {x = s} {y = r} d q) = pair (moved-write early l m s r e d) (moved-paired early p q)

  undefined-paired : (early : Bool) {ls ms : List Lane} → Paired SameLane ls ms → Paired SameWrite (undefined early ls) (undefined early ms)
  undefined-paired early p = mapped-paired {R = SameLane} (λ l. write early l (Moved Undef)) (λ l. write early l (Moved Undef)) (λ l m e. moved-write early l m Undef Undef e refl) p

  computed-paired : (early : Bool) (i j : ℕ) {ls ms : List Lane} → Paired SameLane ls ms → Paired SameWrite (computed early i ls) (computed early j ms)
  computed-paired early i j no_pairs = no_pairs
  computed-paired early i j (pair {x = l} {y = m} e p) = pair (computed-write early l m i j e) (computed-paired early (suc i) (suc j) p)

  lanes-read : {ls ms : List Lane} → Paired SameLane ls ms → Paired SameSource (map FromLane ls) (map FromLane ms)
  lanes-read p = mapped-paired {R = SameLane} FromLane FromLane (λ l m e. e) p

  slots-paired : (s : ℕ) → ((k : ℕ) → num (owners.Slot s k) ≡ num' (owners.Slot s k)) → (ks ws : List ℕ) → Paired SameLane (slot_lanes s ks ws) (slot_lanes s ks ws)
  slots-paired s h [] ws = no_pairs
  slots-paired s h (k ∷ ks) [] = no_pairs
  slots-paired s h (k ∷ ks) (w ∷ ws) = pair (h k) (slots-paired s h ks ws)

  bits-paired : (c : Constant) (low : ℕ) (ws : List ℕ) → Paired SameSource (constant_bits c low ws) (constant_bits c low ws)
  bits-paired c low [] = no_pairs
  bits-paired c low (w ∷ ws) =
      pair (ap (option_and_then num) (constant-unowned c low w) ∙ sym (ap (option_and_then num') (constant-unowned c low w))) (bits-paired c (low + w) ws)

  -- an operand, whose lanes have the same numbers and widths in both
  pub record IsAgreed (o : RegOp) : Type 0 where
    pub lanes : (x : Option IndexId) → Paired SameLane (located_lanes t f o.loc x) (located_lanes t g o.loc x)
    pub widths : operand_widths t f o ≡ operand_widths t g o
    pub whole : Paired SameLane (whole_lanes t f o.loc) (whole_lanes t g o.loc)

  abbrev pub AreAgreed : List Operand → Type 0
  AreAgreed os = (o : RegOp) → Among o (registers os) → IsAgreed o

  abbrev pub SlotAgreed : List Operand → Type 0
  SlotAgreed os = (s : ℕ) → slot_at os 1 ≡ Some s → (k : ℕ) → num (owners.Slot s k) ≡ num' (owners.Slot s k)

  others : (o : RegOp) → IsAgreed o → Paired SameLane (undefined_lanes t f o) (undefined_lanes t g o)
  others o h = go (o.def && o.undef)
    where
      go : (u : Bool) → Paired SameLane (cond u (whole_lanes t f o.loc) []) (cond u (whole_lanes t g o.loc) [])
      go true = h.whole
      go false = no_pairs

  sources : (o : RegOp) → IsAgreed o → Paired SameSource (use_sources t f o) (use_sources t g o)
  sources o h = go o.undef
    where
      go : (u : Bool) → Paired SameSource (map (cond u (λ l. Undef) FromLane) (operand_lanes t f o)) (map (cond u (λ l. Undef) FromLane) (operand_lanes t g o))
      go true = mapped-paired {R = SameLane} (λ (l : Lane). Undef) (λ (l : Lane). Undef) (λ l m e. refl) (h.lanes o.index)
      go false = lanes-read (h.lanes o.index)

  beside : (o : RegOp) (s : ℕ) (k : Operand) → IsAgreed o → ((j : ℕ) → num (owners.Slot s j) ≡ num' (owners.Slot s j)) → Paired SameLane (lanes_beside t f o s k) (lanes_beside t g o s k)
  beside o s k h slot =
      let ws = operand_widths t f o in
      subst (λ vs. Paired SameLane (slot_lanes s (slot_lane_numbers t ws k) ws) (slot_lanes s (slot_lane_numbers t vs k) vs)) h.widths (slots-paired s slot (slot_lane_numbers t ws k) ws)

  -- what silent instructions write

  defined-paired : (early : Bool) (d : RegOp) → IsAgreed d → {ss rs : List Source} → Paired SameSource ss rs → Paired SameWrite (defined t f early d ss) (defined t g early d rs)
  defined-paired early d h p = append-paired (moved-paired early (h.lanes d.index) p) (undefined-paired early (others d h))

  copied-paired : (os : List Operand) → AreAgreed os → Paired SameWrite (copied t f os) (copied t g os)
  copied-paired (operands.Reg d ∷ operands.Reg s ∷ os) h = defined-paired false d (h d here) (sources s (h s (there here)))
  copied-paired _ h = no_pairs

  undef-paired : (os : List Operand) → AreAgreed os → Paired SameWrite (defined_undef t f os) (defined_undef t g os)
  undef-paired (operands.Reg d ∷ os) h = undefined-paired false (append-paired ((h d here).lanes d.index) (others d (h d here)))
  undef-paired _ h = no_pairs

  whole-paired : (os : List Operand) → AreAgreed os → Paired SameWrite (filled_whole t f os) (filled_whole t g os)
  whole-paired (operands.Reg d ∷ os) h = undefined-paired false ((h d here).lanes d.index)
  whole-paired _ h = no_pairs

  stored-paired : (os : List Operand) → AreAgreed os → SlotAgreed os → Paired SameWrite (stored t f os) (stored t g os)
  stored-paired (operands.Reg o ∷ operands.Stack s ∷ k ∷ os) h slot = moved-paired false (beside o s k (h o here) (slot s refl)) (sources o (h o here))
  stored-paired _ h slot = no_pairs

  reloaded-paired : (early : Bool) (os : List Operand) → AreAgreed os → SlotAgreed os → Paired SameWrite (reloaded t f early os) (reloaded t g early os)
  reloaded-paired early (operands.Reg o ∷ operands.Stack s ∷ k ∷ os) h slot = defined-paired early o (h o here) (lanes-read (beside o s k (h o here) (slot s refl)))
  reloaded-paired early _ h slot = no_pairs

  constants-paired : (d : RegOp) → IsAgreed d → (c : Option Constant) → Paired SameSource (constant_lanes t f d c) (constant_lanes t g d c)
  constants-paired d h None = no_pairs
  constants-paired d h (Some c) = subst (λ ws. Paired SameSource (constant_bits c 0 (operand_widths t f d)) (constant_bits c 0 ws)) h.widths (bits-paired c 0 (operand_widths t f d))

  given-paired : (early : Bool) (os : List Operand) → AreAgreed os → Paired SameWrite (given_constant t f early os) (given_constant t g early os)
  given-paired early (operands.Reg d ∷ o ∷ os) h =
      let k = h d here in
      defined-paired early d k
      (subst (λ ws. Paired SameSource (constant_lanes t f d (constant_of (sum (operand_widths t f d)) o)) (constant_lanes t g d (constant_of (sum ws) o))) k.widths (constants-paired d k (constant_of (sum (operand_widths t f d)) o)))
  given-paired early _ h = no_pairs

  silent-paired : (e : Effect) (early : Bool) (os : List Operand) → AreAgreed os → SlotAgreed os → Paired SameWrite (silent_acts t f e early os) (silent_acts t g e early os)
  silent-paired effects.Phi early os h slot = undef-paired os h
  silent-paired effects.RegSequence early os h slot = whole-paired os h
  silent-paired effects.InsertSubreg early os h slot = whole-paired os h
  silent-paired effects.Spill early os h slot = stored-paired os h slot
  silent-paired effects.Copy early os h slot = copied-paired os h
  silent-paired effects.ImplicitDef early os h slot = undef-paired os h
  silent-paired effects.Const early os h slot = given-paired early os h
  silent-paired effects.Addr early os h slot = given-paired early os h
  silent-paired effects.Reload early os h slot = reloaded-paired early os h slot
  silent-paired _ early os h slot = no_pairs

  -- what counted ones write

  results-paired : (i j : ℕ) (ds : List Definition) → ((d : Definition) → Among d ds → IsAgreed d.1) → Paired SameWrite (results t f i ds) (results t g j ds)
  results-paired i j [] h = no_pairs
  results-paired i j (d ∷ ds) h =
      let k = h d here in
      append-paired (append-paired (computed-paired d.0 i j (k.lanes d.1.index)) (undefined-paired d.0 (others d.1 k)))
      (results-paired (i + length (operand_lanes t f d.1)) (j + length (operand_lanes t g d.1)) ds (λ x m. h x (there m)))

  module _ (units : (u : ℕ) → num (owners.Unit u) ≡ num' (owners.Unit u)) (i : Instr) (agreed : AreAgreed i.operands) (slot : SlotAgreed i.operands) where
    calls-paired : (e : Effect) → Paired SameWrite (call_writes t e i.operands) (call_writes t e i.operands)
    calls-paired e = go (is_call e)
      where
        go : (u : Bool) → Paired SameWrite (cond u (undefined false (map UnitLane (unpreserved t i.operands))) []) (cond u (undefined false (map UnitLane (unpreserved t i.operands))) [])
        go true = undefined-paired false (map-paired UnitLane UnitLane (unpreserved t i.operands) (λ u m. units u))
        go false = no_pairs

    explicit-in : (rs : List Role) (d : Definition) → Among d (definitions rs i.operands) → IsAgreed d.1
    explicit-in rs d m = agreed d.1 (filter-of (λ o. o.def && not o.implicit) d.1 (registers i.operands) (definition-of rs i.operands d m)).0

    implicit-in : (o : RegOp) → Among o (implicit_definitions i.operands) → IsAgreed o
    implicit-in o m = agreed o (filter-of (λ x. x.implicit) o (registers i.operands) (filter-of (λ x. x.def) o (implicit_registers i.operands) m).0).0

    counted-paired : (e : Effect) (rs : List Role) → Paired SameWrite (counted_acts t f e rs i.operands) (counted_acts t g e rs i.operands)
    counted-paired e rs =
        append-paired (results-paired 0 0 (definitions rs i.operands) (explicit-in rs))
        (append-paired (undefined-paired false (flat-map-paired (operand_lanes t f) (operand_lanes t g) (implicit_definitions i.operands) (λ o m. (implicit-in o m).lanes o.index))) (calls-paired e))

    acts-paired : (e : Effect) (rs : List Role) → Paired SameWrite (effect_acts t f e rs i.operands) (effect_acts t g e rs i.operands)
    acts-paired e rs = go (is_silent e)
      where
        go : (u : Bool) → Paired SameWrite (cond u (silent_acts t f e (is_early_clobber rs) i.operands) (counted_acts t f e rs i.operands)) (cond u (silent_acts t g e (is_early_clobber rs) i.operands) (counted_acts t g e rs i.operands))
        go true = silent-paired e (is_early_clobber rs) i.operands agreed slot
        go false = counted-paired e rs

    writes-paired : Paired SameWrite (entered_writes t f i) (entered_writes t g i)
    unfolding entered_writes
    writes-paired = go (effect_of t i)
      where
        go : (q : Option Effect) → Paired SameWrite (elim q as (λ q. Writes) [ None ↦ [] | Some e ↦ effect_acts t f e (roles_of t i) i.operands ]) (elim q as (λ q. Writes) [ None ↦ [] | Some e ↦ effect_acts t g e (roles_of t i) i.operands ])
        go None = no_pairs
        go (Some e) = acts-paired e (roles_of t i)

    -- what is read

    uses-paired : Paired (Paired SameSource) (map (use_sources t f) (uses i.operands)) (map (use_sources t g) (uses i.operands))
    uses-paired = map-paired (use_sources t f) (use_sources t g) (uses i.operands) (λ o m. sources o (agreed o (filter-of (λ x. not x.def) o (registers i.operands) m).0))

    silent-read : (e : Effect) → Paired (Paired SameSource) (silent_reads t f e i.operands) (silent_reads t g e i.operands)
    silent-read effects.RegSequence = uses-paired
    silent-read effects.InsertSubreg = uses-paired
    silent-read _ = no_pairs

    abbrev SameValue : Value → Value → Type 0
    SameValue v u = Paired SameSource v.0 u.0

    constant-pair : (c d : Constant) (w v : ℕ) → SameValue (constant_value c w) (constant_value d v)
    constant-pair c d w v = pair (ap (option_and_then num) (constant-unowned c 0 w) ∙ sym (ap (option_and_then num') (constant-unowned d 0 v))) no_pairs

    value-paired : (e : Effect) (w v : ℕ) (o : Operand) → AreAgreed (o ∷ []) → BothOrNone SameValue (value_of t f e w o) (value_of t g e v o)
    value-paired e w v (operands.Reg o) h = go o.def
      where
        go : (u : Bool) → BothOrNone SameValue (cond u None (Some (use_value t f o))) (cond u None (Some (use_value t g o)))
        go true = neither
        go false = both (sources o (h o here))
    value-paired e w v (operands.Imm z) h = go (computes_with_immediates e)
      where
        go : (u : Bool) → BothOrNone SameValue (cond u (Some (constant_value (Immediate (residue z w)) w)) None) (cond u (Some (constant_value (Immediate (residue z v)) v)) None)
        go true = both (constant-pair (Immediate (residue z w)) (Immediate (residue z v)) w v)
        go false = neither
    value-paired e w v (operands.Stack n) h = go (has_base e)
      where
        go : (u : Bool) → BothOrNone SameValue (cond u (Some (constant_value (StackAddress n) 64)) None) (cond u (Some (constant_value (StackAddress n) 64)) None)
        go true = both (constant-pair (StackAddress n) (StackAddress n) 64 64)
        go false = neither
    value-paired e w v (operands.FixedStack n) h = go (has_base e)
      where
        go : (u : Bool) → BothOrNone SameValue (cond u (Some (constant_value (FixedStackAddress n) 64)) None) (cond u (Some (constant_value (FixedStackAddress n) 64)) None)
        go true = both (constant-pair (FixedStackAddress n) (FixedStackAddress n) 64 64)
        go false = neither
    value-paired e w v (operands.Symbol n) h = go (has_base e)
      where
        go : (u : Bool) → BothOrNone SameValue (cond u (Some (constant_value (SymbolAddress n) 64)) None) (cond u (Some (constant_value (SymbolAddress n) 64)) None)
        go true = both (constant-pair (SymbolAddress n) (SymbolAddress n) 64 64)
        go false = neither
    value-paired e w v _ h = neither

    abbrev implicit : List RegOp
    implicit = filter (λ o. not o.def) (implicit_registers i.operands)

    implicit-used : (o : RegOp) → Among o implicit → IsAgreed o
    implicit-used o m = agreed o (filter-of (λ x. x.implicit) o (registers i.operands) (filter-of (λ x. not x.def) o (implicit_registers i.operands) m).0).0

    used-paired : (xs : List RegOp) → ((o : RegOp) → Among o xs → IsAgreed o) → Paired SameValue (map (use_value t f) xs) (map (use_value t g) xs)
    used-paired xs h = map-paired (use_value t f) (use_value t g) xs (λ o m. sources o (h o m))

    implicit-paired : (e : Effect) (c : ℤ) (rs : List Role) → Paired SameValue (implicit_values t f e c rs implicit) (implicit_values t g e c rs implicit)
    implicit-paired effects.Jcc c rs =
        append-paired
        (map-paired (flag_value t f c) (flag_value t g c) (filter (is_flags rs) implicit) (λ o m. pick-paired (condition_lane (nat_abs c)) (sources o (implicit-used o (filter-of (is_flags rs) o implicit m).0))))
        (used-paired (filter (λ o. not (is_flags rs o)) implicit) (λ o m. implicit-used o (filter-of (λ x. not (is_flags rs x)) o implicit m).0))
    implicit-paired _ c rs = used-paired implicit implicit-used

    values-paired : (e : Effect) → Paired SameValue (values t f e i) (values t g e i)
    values-paired e =
        append-paired
        (filter-map-paired (value_of t f e (first_width t f (registers i.operands))) (value_of t g e (first_width t g (registers i.operands))) (explicit_operands i.operands)
        (λ o m. value-paired e (first_width t f (registers i.operands)) (first_width t g (registers i.operands)) o (λ x k. agreed x (register-in o i.operands (filter-of (λ y. not (is_implicit_operand y)) o i.operands m).0 x k))))
        (implicit-paired e (immediate_of i.operands) (implicit_roles (roles_of t i)))

    effect-read : (e : Effect) → Paired (Paired SameSource) (effect_reads t f e i) (effect_reads t g e i)
    effect-read e = go (is_silent e)
      where
        go : (u : Bool) → Paired (Paired SameSource) (cond u (silent_reads t f e i.operands) (map (λ (v : Value). v.0) (values t f e i))) (cond u (silent_reads t g e i.operands) (map (λ (v : Value). v.0) (values t g e i)))
        go true = silent-read e
        go false = mapped-paired {R = SameValue} (λ (v : Value). v.0) (λ (v : Value). v.0) (λ v u p. p) (values-paired e)

    reads-paired : Paired (Paired SameSource) (entered_reads t f i) (entered_reads t g i)
    unfolding entered_reads
    reads-paired = go (effect_of t i)
      where
        go : (q : Option Effect) → Paired (Paired SameSource) (elim q as (λ q. Reads) [ None ↦ [] | Some e ↦ effect_reads t f e i ]) (elim q as (λ q. Reads) [ None ↦ [] | Some e ↦ effect_reads t g e i ])
        go None = no_pairs
        go (Some e) = effect-read e

    -- what phis read at the ends of blocks

    pairs-same : (ps : List Operand) → AreAgreed ps → map (phi_read_of t f num) (pairs_of ps) ≡ map (phi_read_of t g num') (pairs_of ps)
    pairs-same (operands.Reg s ∷ operands.Block n ∷ ps) h = λ k. (n, sources-same (sources s (h s here)) k) ∷ pairs-same ps (λ o m. h o (there m)) k
    pairs-same _ h = refl

    behind-same : (ps : List Operand) → AreAgreed ps → map (phi_read_of t f num) (pairs_behind ps) ≡ map (phi_read_of t g num') (pairs_behind ps)
    behind-same (operands.Reg d ∷ ps) h = pairs-same ps (λ o m. h o (there m))
    behind-same _ h = refl

    ends-same : map (phi_read_of t f num) (end_uses t i) ≡ map (phi_read_of t g num') (end_uses t i)
    ends-same = go (does is_phi t i)
      where
        go : (u : Bool) → map (phi_read_of t f num) (cond u (pairs_behind i.operands) []) ≡ map (phi_read_of t g num') (cond u (pairs_behind i.operands) [])
        go true = behind-same i.operands agreed
        go false = refl

    pub doing-same : doing_of t f num i ≡ doing_of t g num' i
    doing-same = λ k. (
      record {
        id = i.id;
        reads = reads-same reads-paired k ++ readings-same writes-paired k;
        writes = writings-same writes-paired k;
        leaves = does is_terminator t i;
      },
      ends-same k,
    )
