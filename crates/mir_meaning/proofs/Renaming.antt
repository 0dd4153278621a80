-- Renaming the registers of an instruction renames its item.
use Rattle.std.proofs.Common.{◌≡◌, ◌∷◌, ◌++◌, ◌&&◌, ◌||◌, not, ◌∙◌, ℕ, zero, suc, ◌+◌, Bool, true, false, cond, List, Option, Some, None, refl, sym, ap, subst, map, filter, filter_map, flat_map, sum, length, []}
use Rattle.std.specs.Prelude.{nat_abs, option_map, pos, ℤ}
use Rattle.target_base.specs.Roles.{is_address, is_silent}
use Rattle.target_base.specs.declared.types.OpaqueKind.{OpaqueKind}
use Rattle.target_base.specs.declared.types.OpaqueKind.TheVariants as kinds
use Rattle.meaning.specs.Code.{Counted, Item, Silent}
use Rattle.mir_func.specs.declared.func.Block.{Block}
use Rattle.meaning.specs.Perform.{condition_lane}
use Rattle.target_base.specs.declared.types.Role.{Role}
use Rattle.target_base.specs.declared.types.Target.{Target}
use Rattle.target_base.specs.declared.types.Effect.{Effect}
use Rattle.target_base.specs.declared.types.Effect.TheVariants as effects
use Rattle.meaning.specs.declared.types.Lane.{Lane}
use Rattle.meaning.specs.declared.types.Lane.TheVariants.{UnitLane, SlotLane}
use Rattle.meaning.specs.declared.types.Source.{Source}
use Rattle.meaning.specs.declared.types.Source.TheVariants.{FromLane, Undef}
use Rattle.meaning.specs.declared.types.Constant.{Constant}
use Rattle.meaning.specs.declared.types.Constant.TheVariants.{FixedStackAddress, Immediate, StackAddress, SymbolAddress}
use Rattle.meaning.specs.declared.types.Fill.TheVariants.{Computed, Moved}
use Rattle.meaning.specs.Environment.{constant_source, residue}
use Rattle.mir_func.specs.declared.func.Loc.{Loc}
use Rattle.mir_func.specs.declared.func.Loc.TheVariants.{Fixed, Virtual}
use Rattle.target_base.specs.declared.types.Unit.{Unit as UnitNumber}
use Rattle.target_base.specs.Registers.{units_of}
use Rattle.meaning.specs.Lanes.{Writes, Reads}
use Rattle.meaning.specs.Matched.{image, renamed, renamed_reads, renamed_write}
use Rattle.mir_func.specs.declared.func.RegOp.{RegOp}
use Rattle.mir_func.specs.declared.func.Operand.{Operand}
use Rattle.mir_func.specs.declared.func.Operand.TheVariants as operands
use Rattle.mir_func.specs.declared.func.Instr.{Instr}
use Rattle.mir_func.specs.Value.{Function}
use Rattle.mir_func.proofs.Bound.{bound_step, definitions_none, definitions_step, seated_definitions}
use Rattle.mir_func.specs.Spelling.{op_name, word_of}
use Rattle.mir_func.specs.Binding.{Definition, after_first, effect_of, explicit_bound, explicit_operands, explicit_roles, first_role, implicit_registers, implicit_roles, is_early, is_early_clobber, is_terminator, passes, registers, roles_of, immediate_of, puts_together}
use Rattle.mir_meaning.specs.Items.{read_widths, Value, all_lanes, answered, computes_with_immediates, constant_value, counted_writes, defined_lanes, explicit_definitions, explicit_needs, further_writes, has_base, implicit_definitions, implicit_writes, kept, lane_width, named_symbol, needed_of, needs_value, opaque_clobbers, rest_of, result_widths, result_writes, results, value_of, values, clobbered, flag_value, implicit_values, is_flags, pick, use_value, first_width, preserves, symbol_of, unreserved, computed, constant_bits, constant_lanes, constant_of, copied, defined, defined_undef, given_constant, lanes_beside, moved, reloaded, silent_reads, silent_writes, spilled, undefined, at_all_widths, widths_once}
use Rattle.mir_meaning.specs.Registers.{is_reserved, numbers, located_lanes, located_widths, operand_lanes, operand_widths, unit_lanes, slot_lane_numbers, slot_lanes, undefined_lanes, use_sources}
use Rattle.mir_meaning.specs.Codes.{effect_item, item_of, target_of, way, ways_out}
use Rattle.std.specs.List.{cons_option, list_any}
use Rattle.std.proofs.lemmas.Grind.{flat_map-append}
use Rattle.mir_meaning.specs.Renaming.{IsFixed, KeepsPlaces, LawOfRenaming, Renames, RenamesAll, renamed_instr, renamed_item, renamed_operand}

map-map : {A B C : Type 0} (g : B → C) (f : A → B) (xs : List A) → map g (map f xs) ≡ map (λ x. g (f x)) xs
map-map g f [] = refl
map-map g f (x ∷ xs) = ap (λ ys. g (f x) ∷ ys) (map-map g f xs)

map-length : {A B : Type 0} (f : A → B) (xs : List A) → length (map f xs) ≡ length xs
map-length f [] = refl
map-length f (x ∷ xs) = ap suc (map-length f xs)

map-append : {A B : Type 0} (f : A → B) (xs ys : List A) → map f (xs ++ ys) ≡ map f xs ++ map f ys
map-append f [] ys = refl
map-append f (x ∷ xs) ys = ap (λ zs. f x ∷ zs) (map-append f xs ys)

module _ (m : Lane → Lane) where
  renamed-append : (ws vs : Writes) → renamed m (ws ++ vs) ≡ renamed m ws ++ renamed m vs
  renamed-append [] vs = refl
  renamed-append (w ∷ ws) vs = ap (λ us. renamed_write m w ∷ us) (renamed-append ws vs)

  renamed-moved : (early : Bool) (ls : List Lane) (ss : List Source) → renamed m (moved early ls ss) ≡ moved early (map m ls) (map (image m) ss)
  renamed-moved early [] ss = refl
  renamed-moved early (l ∷ ls) [] = refl
  renamed-moved early (l ∷ ls) (s ∷ ss) = ap (λ us. renamed_write m (record { lane = l; fill = Moved s; early = early }) ∷ us) (renamed-moved early ls ss)

  renamed-undefined : (early : Bool) (ls : List Lane) → renamed m (undefined early ls) ≡ undefined early (map m ls)
  renamed-undefined early [] = refl
  renamed-undefined early (l ∷ ls) = ap (λ us. renamed_write m (record { lane = l; fill = Moved Undef; early = early }) ∷ us) (renamed-undefined early ls)

  renamed-computed : (early : Bool) (n : ℕ) (ls : List Lane) → renamed m (computed early n ls) ≡ computed early n (map m ls)
  renamed-computed early n [] = refl
  renamed-computed early n (l ∷ ls) = ap (λ us. renamed_write m (record { lane = l; fill = Computed n; early = early }) ∷ us) (renamed-computed early (suc n) ls)

  -- bits of constants name no lane
  bits-stay : (c : Constant) (low : ℕ) (ws : List ℕ) → map (image m) (constant_bits c low ws) ≡ constant_bits c low ws
  bits-stay c low [] = refl
  bits-stay c low (w ∷ ws) = λ k. source-stays c low w k ∷ bits-stay c (low + w) ws k
    where
      source-stays : (c : Constant) (low w : ℕ) → image m (constant_source c low w) ≡ constant_source c low w
      source-stays (Immediate z) low w = refl
      source-stays (StackAddress n) low w = refl
      source-stays (FixedStackAddress n) low w = refl
      source-stays (SymbolAddress s) low w = refl

  sources-renamed : (b : Bool) (ls : List Lane) → map (cond b (λ l. Undef) FromLane) (map m ls) ≡ map (image m) (map (cond b (λ l. Undef) FromLane) ls)
  sources-renamed true [] = refl
  sources-renamed true (l ∷ ls) = ap (λ ss. Undef ∷ ss) (sources-renamed true ls)
  sources-renamed false [] = refl
  sources-renamed false (l ∷ ls) = ap (λ ss. FromLane (m l) ∷ ss) (sources-renamed false ls)

  module _ (keeps : KeepsPlaces m) where
    slots-stay : (s : ℕ) (ks ws : List ℕ) → map m (slot_lanes s ks ws) ≡ slot_lanes s ks ws
    slots-stay s [] ws = refl
    slots-stay s (k ∷ ks) [] = refl
    slots-stay s (k ∷ ks) (w ∷ ws) = λ i. keeps.slots s k w i ∷ slots-stay s ks ws i

-- physical registers are the same units in every function, and stay under the map
module _ (t : Target) (m : Lane → Lane) (keeps : KeepsPlaces m) where
  units-stay : (us : List UnitNumber) → map m (unit_lanes us) ≡ unit_lanes us
  units-stay [] = refl
  units-stay (u ∷ us) = λ k. keeps.units u.0 k ∷ units-stay us k

  fixed-lanes : (f g : Function) (o : RegOp) → IsFixed o.loc → operand_lanes t g o ≡ operand_lanes t f o
  fixed-lanes f g o h = at o.loc h
    where
      at : (l : Loc) → IsFixed l → located_lanes t g l o.index ≡ located_lanes t f l o.index
      at (Virtual v) h = absurd h
      at (Fixed q) h = refl

  fixed-widths : (f g : Function) (o : RegOp) → IsFixed o.loc → operand_widths t g o ≡ operand_widths t f o
  fixed-widths f g o h = at o.loc h
    where
      at : (l : Loc) → IsFixed l → located_widths t g l o.index ≡ located_widths t f l o.index
      at (Virtual v) h = absurd h
      at (Fixed q) h = refl

  fixed-stay : (f : Function) (o : RegOp) → IsFixed o.loc → map m (operand_lanes t f o) ≡ operand_lanes t f o
  fixed-stay f o h = at o.loc h
    where
      at : (l : Loc) → IsFixed l → map m (located_lanes t f l o.index) ≡ located_lanes t f l o.index
      at (Virtual v) h = absurd h
      at (Fixed q) h = units-stay (units_of t q)

module _ (t : Target) (f g : Function) (m : Lane → Lane) (r : RegOp → RegOp) (keeps : KeepsPlaces m) where
  use-renamed : (o : RegOp) → Renames t f g m r o → use_sources t g (r o) ≡ map (image m) (use_sources t f o)
  use-renamed o h = (λ k. map (cond (h.undef k) (λ l. Undef) FromLane) (h.lanes k)) ∙ sources-renamed m o.undef (operand_lanes t f o)

  defined-renamed : (early : Bool) (o : RegOp) (ss : List Source) → Renames t f g m r o → defined t g early (r o) (map (image m) ss) ≡ renamed m (defined t f early o ss)
  defined-renamed early o ss h =
      (λ k. moved early (h.lanes k) (map (image m) ss) ++ undefined early (h.others k))
      ∙ ((λ k. sym (renamed-moved m early (operand_lanes t f o) ss) k ++ sym (renamed-undefined m early (undefined_lanes t f o)) k)
      ∙ sym (renamed-append m (moved early (operand_lanes t f o) ss) (undefined early (undefined_lanes t f o))))

  copied-renamed : (os : List Operand) → RenamesAll t f g m r os → copied t g (map (renamed_operand r) os) ≡ renamed m (copied t f os)
  copied-renamed (operands.Reg d ∷ operands.Reg s ∷ os) h = ap (defined t g false (r d)) (use-renamed s h.1.0) ∙ defined-renamed false d (use_sources t f s) h.0
  copied-renamed _ h = refl

  undef-renamed : (os : List Operand) → RenamesAll t f g m r os → defined_undef t g (map (renamed_operand r) os) ≡ renamed m (defined_undef t f os)
  undef-renamed (operands.Reg d ∷ os) h =
      (λ k. undefined false (h.0.lanes k ++ h.0.others k))
      ∙ (ap (undefined false) (sym (map-append m (operand_lanes t f d) (undefined_lanes t f d)))
      ∙ sym (renamed-undefined m false (operand_lanes t f d ++ undefined_lanes t f d)))
  undef-renamed _ h = refl

  constant-stays : (w : ℕ) (o : Operand) → constant_of w (renamed_operand r o) ≡ constant_of w o
  constant-stays w (operands.Reg o) = refl
  constant-stays w _ = refl

  constant-renamed : (d : RegOp) (o : Operand) → Renames t f g m r d → constant_of (sum (operand_widths t g (r d))) (renamed_operand r o) ≡ constant_of (sum (operand_widths t f d)) o
  constant-renamed d o h = ap (λ ws. constant_of (sum ws) (renamed_operand r o)) h.widths ∙ constant-stays (sum (operand_widths t f d)) o

  constants-renamed : (d : RegOp) (c : Option Constant) → Renames t f g m r d → constant_lanes t g (r d) c ≡ map (image m) (constant_lanes t f d c)
  constants-renamed d None h = refl
  constants-renamed d (Some c) h = ap (constant_bits c 0) h.widths ∙ sym (bits-stay m c 0 (operand_widths t f d))

  given-renamed : (early : Bool) (os : List Operand) → RenamesAll t f g m r os → given_constant t g early (map (renamed_operand r) os) ≡ renamed m (given_constant t f early os)
  given-renamed early (operands.Reg d ∷ o ∷ os) h =
      let c = constant_of (sum (operand_widths t f d)) o in
      ap (defined t g early (r d)) (ap (constant_lanes t g (r d)) (constant-renamed d o h.0) ∙ constants-renamed d c h.0) ∙ defined-renamed early d (constant_lanes t f d c) h.0
  given-renamed early _ h = refl

  numbers-stay : (ws : List ℕ) (k : Operand) → slot_lane_numbers t ws (renamed_operand r k) ≡ slot_lane_numbers t ws k
  numbers-stay ws (operands.Index x) = refl
  numbers-stay ws _ = refl

  beside-stays : (o : RegOp) (s : ℕ) (k : Operand) → Renames t f g m r o → lanes_beside t g (r o) s (renamed_operand r k) ≡ lanes_beside t f o s k
  beside-stays o s k h = (λ i. slot_lanes s (slot_lane_numbers t (h.widths i) (renamed_operand r k)) (h.widths i)) ∙ ap (λ ks. slot_lanes s ks (operand_widths t f o)) (numbers-stay (operand_widths t f o) k)

  all-widths-stay : (s : ℕ) (ks : List ℕ) → map m (at_all_widths t s ks) ≡ at_all_widths t s ks
  all-widths-stay s [] = refl
  all-widths-stay s (k ∷ ks) =
      let ws = widths_once [] t.units in
      map-append m (map (λ w. SlotLane s k w) ws) (at_all_widths t s ks) ∙ (λ i. (map-map m (λ w. SlotLane s k w) ws ∙ same ws) i ++ all-widths-stay s ks i)
    where
      same : (ws : List ℕ) → map (λ w. m (SlotLane s k w)) ws ≡ map (λ w. SlotLane s k w) ws
      same [] = refl
      same (w ∷ ws) = λ i. keeps.slots s k w i ∷ same ws i

  spilled-renamed : (os : List Operand) → RenamesAll t f g m r os → spilled t g (map (renamed_operand r) os) ≡ renamed m (spilled t f os)
  spilled-renamed (operands.Reg o ∷ operands.Stack s ∷ k ∷ os) h =
      let slots = lanes_beside t f o s k in
      let ks = slot_lane_numbers t (operand_widths t f o) k in
      (λ i. moved false (beside-stays o s k h.0 i) (use-renamed o h.0 i) ++ undefined false (at_all_widths t s ((ap (λ ws. slot_lane_numbers t ws (renamed_operand r k)) h.0.widths ∙ numbers-stay (operand_widths t f o) k) i)))
      ∙ ((λ i. moved false (sym (slots-stay m keeps s ks (operand_widths t f o)) i) (map (image m) (use_sources t f o)) ++ undefined false (sym (all-widths-stay s ks) i))
      ∙ ((λ i. sym (renamed-moved m false slots (use_sources t f o)) i ++ sym (renamed-undefined m false (at_all_widths t s ks)) i)
      ∙ sym (renamed-append m (moved false slots (use_sources t f o)) (undefined false (at_all_widths t s ks)))))
  spilled-renamed _ h = refl

  reloads-stay : (s : ℕ) (ks ws : List ℕ) → map FromLane (slot_lanes s ks ws) ≡ map (image m) (map FromLane (slot_lanes s ks ws))
  reloads-stay s [] ws = refl
  reloads-stay s (k ∷ ks) [] = refl
  reloads-stay s (k ∷ ks) (w ∷ ws) = λ i. FromLane (sym (keeps.slots s k w) i) ∷ reloads-stay s ks ws i

  reloaded-renamed : (early : Bool) (os : List Operand) → RenamesAll t f g m r os → reloaded t g early (map (renamed_operand r) os) ≡ renamed m (reloaded t f early os)
  reloaded-renamed early (operands.Reg o ∷ operands.Stack s ∷ k ∷ os) h =
      ap (λ ls. defined t g early (r o) (map FromLane ls)) (beside-stays o s k h.0)
      ∙ (ap (defined t g early (r o)) (reloads-stay s (slot_lane_numbers t (operand_widths t f o) k) (operand_widths t f o))
      ∙ defined-renamed early o (map FromLane (lanes_beside t f o s k)) h.0)
  reloaded-renamed early _ h = refl

  silent-renamed : (e : Effect) (early : Bool) (os : List Operand) → puts_together e ≡ false → RenamesAll t f g m r os → silent_writes t g e early (map (renamed_operand r) os) ≡ renamed m (silent_writes t f e early os)
  silent-renamed effects.Copy early os n h = copied-renamed os h
  silent-renamed effects.ImplicitDef early os n h = undef-renamed os h
  silent-renamed effects.RegSequence early os n h = absurd (cc)
  silent-renamed effects.InsertSubreg early os n h = absurd (cc)
  silent-renamed effects.Const early os n h = given-renamed early os h
  silent-renamed effects.Addr early os n h = given-renamed early os h
  silent-renamed effects.Spill early os n h = spilled-renamed os h
  silent-renamed effects.Reload early os n h = reloaded-renamed early os h
  silent-renamed _ early os n h = refl

  reads-renamed : (e : Effect) (os : List Operand) → puts_together e ≡ false → silent_reads t g e (map (renamed_operand r) os) ≡ renamed_reads m (silent_reads t f e os)
  reads-renamed effects.RegSequence os n = absurd (cc)
  reads-renamed effects.InsertSubreg os n = absurd (cc)
  reads-renamed _ os n = refl

  -- explicit operands

  explicit-renamed : (os : List Operand) → RenamesAll t f g m r os → explicit_operands (map (renamed_operand r) os) ≡ map (renamed_operand r) (explicit_operands os)
  explicit-renamed [] h = refl
  explicit-renamed (operands.Reg o ∷ os) h =
      (λ k. cond (not (h.0.implicit k)) (operands.Reg (r o) ∷ explicit-renamed os h.1 k) (explicit-renamed os h.1 k)) ∙ out o.implicit
    where
      out : (b : Bool) → cond (not b) (operands.Reg (r o) ∷ map (renamed_operand r) (explicit_operands os)) (map (renamed_operand r) (explicit_operands os)) ≡ map (renamed_operand r) (cond (not b) (operands.Reg o ∷ explicit_operands os) (explicit_operands os))
      out true = refl
      out false = refl
  explicit-renamed (x ∷ os) h = ap (λ ys. x ∷ ys) (explicit-renamed os h)

  explicit-all : (os : List Operand) → RenamesAll t f g m r os → RenamesAll t f g m r (explicit_operands os)
  explicit-all [] h = h
  explicit-all (operands.Reg o ∷ os) h = out o.implicit (explicit-all os h.1)
    where
      out : (b : Bool) → RenamesAll t f g m r (explicit_operands os) → RenamesAll t f g m r (cond (not b) (operands.Reg o ∷ explicit_operands os) (explicit_operands os))
      out true a = a
      out false a = (h.0, a)
  explicit-all (x ∷ os) h = explicit-all os h

  registers-renamed : (os : List Operand) → registers (map (renamed_operand r) os) ≡ map r (registers os)
  registers-renamed [] = refl
  registers-renamed (operands.Reg o ∷ os) = ap (λ rs. r o ∷ rs) (registers-renamed os)
  registers-renamed (x ∷ os) = registers-renamed os

  first-width : (os : List Operand) → RenamesAll t f g m r os → first_width t g (registers (map (renamed_operand r) os)) ≡ first_width t f (registers os)
  first-width [] h = refl
  first-width (operands.Reg o ∷ os) h = ap sum h.0.widths
  first-width (x ∷ os) h = first-width os h

  immediate-stays : (os : List Operand) → immediate_of (map (renamed_operand r) os) ≡ immediate_of os
  immediate-stays [] = refl
  immediate-stays (operands.Imm z ∷ os) = refl
  immediate-stays (x ∷ os) = immediate-stays os

  symbol-stays : (os : List Operand) → symbol_of (map (renamed_operand r) os) ≡ symbol_of os
  symbol-stays [] = refl
  symbol-stays (operands.Symbol s ∷ os) = refl
  symbol-stays (x ∷ os) = symbol-stays os

  target-stays : (os : List Operand) → target_of (map (renamed_operand r) os) ≡ target_of os
  target-stays [] = refl
  target-stays (operands.Block n ∷ os) = refl
  target-stays (x ∷ os) = target-stays os

  preserves-stays : (u : ℕ) (os : List Operand) → list_any (preserves t u) (map (renamed_operand r) os) ≡ list_any (preserves t u) os
  preserves-stays u [] = refl
  preserves-stays u (operands.Mask k ∷ os) = ap (λ b. preserves t u (operands.Mask k) || b) (preserves-stays u os)
  preserves-stays u (x ∷ os) = preserves-stays u os

  clobbers-stay : (os : List Operand) → clobbered t (map (renamed_operand r) os) ≡ clobbered t os
  clobbers-stay os = λ k. unreserved t (map UnitLane (filter (λ u. not (preserves-stays u os k)) (numbers 0 (length t.units))))

  -- implicit operands

  implicit-same : (os : List Operand) → RenamesAll t f g m r os → implicit_registers (map (renamed_operand r) os) ≡ implicit_registers os
  implicit-same [] h = refl
  implicit-same (operands.Reg o ∷ os) h = out o.implicit refl (implicit-same os h.1)
    where
      out :
          (b : Bool) → o.implicit ≡ b → implicit_registers (map (renamed_operand r) os) ≡ implicit_registers os →
          cond (r o).implicit (r o ∷ implicit_registers (map (renamed_operand r) os)) (implicit_registers (map (renamed_operand r) os)) ≡ cond o.implicit (o ∷ implicit_registers os) (implicit_registers os)
      out true e same = λ k. cond (h.0.stays e k).implicit (h.0.stays e k ∷ same k) (same k)
      out false e same =
          (λ k. cond (h.0.implicit k) (r o ∷ same k) (same k)) ∙ ((λ k. cond (e k) (r o ∷ implicit_registers os) (implicit_registers os)) ∙ sym (λ k. cond (e k) (o ∷ implicit_registers os) (implicit_registers os)))
  implicit-same (x ∷ os) h = implicit-same os h

  abbrev AllFixed : List RegOp → Type 0
  AllFixed [] = Unit {0}
  AllFixed (o ∷ os) = IsFixed o.loc × AllFixed os

  implicit-fixed : (os : List Operand) → RenamesAll t f g m r os → AllFixed (implicit_registers os)
  implicit-fixed [] h = tt
  implicit-fixed (operands.Reg o ∷ os) h = out o.implicit refl (implicit-fixed os h.1)
    where
      out : (b : Bool) → o.implicit ≡ b → AllFixed (implicit_registers os) → AllFixed (cond o.implicit (o ∷ implicit_registers os) (implicit_registers os))
      out true e a = subst (λ c. AllFixed (cond c (o ∷ implicit_registers os) (implicit_registers os))) (sym e) (h.0.fixed e, a)
      out false e a = subst (λ c. AllFixed (cond c (o ∷ implicit_registers os) (implicit_registers os))) (sym e) a
  implicit-fixed (x ∷ os) h = implicit-fixed os h

  filter-fixed : (test : RegOp → Bool) (os : List RegOp) → AllFixed os → AllFixed (filter test os)
  filter-fixed test [] a = a
  filter-fixed test (o ∷ os) a = out (test o) (filter-fixed test os a.1)
    where
      out : (b : Bool) → AllFixed (filter test os) → AllFixed (cond b (o ∷ filter test os) (filter test os))
      out true c = (a.0, c)
      out false c = c

  -- what is read

  abbrev firsts : List Value → Reads
  firsts vs = map (λ v. v.0) vs

  abbrev seconds : List Value → List (List ℕ)
  seconds vs = map (λ v. v.1) vs

  use-same : (o : RegOp) → IsFixed o.loc → use_value t g o ≡ use_value t f o
  use-same o h = λ k. (map (cond o.undef (λ l. Undef) FromLane) (fixed-lanes t m keeps f g o h k), fixed-widths t m keeps f g o h k)

  use-stays : (o : RegOp) → IsFixed o.loc → map (image m) (use_sources t f o) ≡ use_sources t f o
  use-stays o h = sym (sources-renamed m o.undef (operand_lanes t f o)) ∙ ap (map (cond o.undef (λ l. Undef) FromLane)) (fixed-stay t m keeps f o h)

  uses-same : (os : List RegOp) → AllFixed os → map (use_value t g) os ≡ map (use_value t f) os
  uses-same [] a = refl
  uses-same (o ∷ os) a = λ k. use-same o a.0 k ∷ uses-same os a.1 k

  uses-stay : (os : List RegOp) → AllFixed os → renamed_reads m (firsts (map (use_value t f) os)) ≡ firsts (map (use_value t f) os)
  uses-stay [] a = refl
  uses-stay (o ∷ os) a = λ k. use-stays o a.0 k ∷ uses-stay os a.1 k

  pick-map : {A B : Type 0} (h : A → B) (n : ℕ) (xs : List A) → map h (pick n xs) ≡ pick n (map h xs)
  pick-map h n [] = refl
  pick-map h zero (x ∷ xs) = refl
  pick-map h (suc n) (x ∷ xs) = pick-map h n xs

  flags-same : (c : ℤ) (os : List RegOp) → AllFixed os → map (flag_value t g c) os ≡ map (flag_value t f c) os
  flags-same c [] a = refl
  flags-same c (o ∷ os) a =
      λ k. (pick (condition_lane (nat_abs c)) (use-same o a.0 k).0, pick (condition_lane (nat_abs c)) (use-same o a.0 k).1) ∷ flags-same c os a.1 k

  flags-stay : (c : ℤ) (os : List RegOp) → AllFixed os → renamed_reads m (firsts (map (flag_value t f c) os)) ≡ firsts (map (flag_value t f c) os)
  flags-stay c [] a = refl
  flags-stay c (o ∷ os) a =
      λ k. (pick-map (image m) (condition_lane (nat_abs c)) (use_sources t f o) ∙ ap (pick (condition_lane (nat_abs c))) (use-stays o a.0)) k ∷ flags-stay c os a.1 k

  implicit-values-same : (e : Effect) (c : ℤ) (rs : List Role) (os : List RegOp) → AllFixed os → implicit_values t g e c rs os ≡ implicit_values t f e c rs os
  implicit-values-same effects.Jcc c rs os a =
      λ k. flags-same c (filter (is_flags rs) os) (filter-fixed (is_flags rs) os a) k ++ uses-same (filter (λ o. not (is_flags rs o)) os) (filter-fixed (λ o. not (is_flags rs o)) os a) k
  implicit-values-same _ c rs os a = uses-same os a

  reads-append : (as' bs : Reads) → renamed_reads m (as' ++ bs) ≡ renamed_reads m as' ++ renamed_reads m bs
  reads-append [] bs = refl
  reads-append (x ∷ xs) bs = ap (λ ys. map (image m) x ∷ ys) (reads-append xs bs)

  implicit-values-stay : (e : Effect) (c : ℤ) (rs : List Role) (os : List RegOp) → AllFixed os → renamed_reads m (firsts (implicit_values t f e c rs os)) ≡ firsts (implicit_values t f e c rs os)
  implicit-values-stay effects.Jcc c rs os a =
      let flags = filter (is_flags rs) os in
      let rest = filter (λ o. not (is_flags rs o)) os in
      ap (renamed_reads m) (map-append (λ (v : Value). v.0) (map (flag_value t f c) flags) (map (use_value t f) rest))
      ∙ (reads-append (firsts (map (flag_value t f c) flags)) (firsts (map (use_value t f) rest))
      ∙ ((λ k. flags-stay c flags (filter-fixed (is_flags rs) os a) k ++ uses-stay rest (filter-fixed (λ o. not (is_flags rs o)) os a) k)
      ∙ sym (map-append (λ (v : Value). v.0) (map (flag_value t f c) flags) (map (use_value t f) rest))))
  implicit-values-stay _ c rs os a = uses-stay os a

  constant-read : (c : Constant) (w : ℕ) → map (image m) (constant_source c 0 w ∷ []) ≡ constant_source c 0 w ∷ []
  constant-read c w = bits-stay m c 0 (w ∷ [])

  use-step : (b : Bool) (ss' ss : List Source) (ws' ws : List ℕ) (vs' vs : List Value) → ss' ≡ map (image m) ss → firsts vs' ≡ renamed_reads m (firsts vs) → firsts (cons_option (cond b None (Some (ss', ws'))) vs') ≡ renamed_reads m (firsts (cons_option (cond b None (Some (ss, ws))) vs))
  use-step true ss' ss ws' ws vs' vs p q = q
  use-step false ss' ss ws' ws vs' vs p q = λ k. p k ∷ q k

  use-width-step : (b : Bool) (ss' ss : List Source) (ws' ws : List ℕ) (vs' vs : List Value) → ws' ≡ ws → seconds vs' ≡ seconds vs → seconds (cons_option (cond b None (Some (ss', ws'))) vs') ≡ seconds (cons_option (cond b None (Some (ss, ws))) vs)
  use-width-step true ss' ss ws' ws vs' vs p q = q
  use-width-step false ss' ss ws' ws vs' vs p q = λ k. p k ∷ q k

  constant-step : (b : Bool) (c : Constant) (w : ℕ) (vs' vs : List Value) → firsts vs' ≡ renamed_reads m (firsts vs) → firsts (cons_option (cond b (Some (constant_value c w)) None) vs') ≡ renamed_reads m (firsts (cons_option (cond b (Some (constant_value c w)) None) vs))
  constant-step true c w vs' vs q = λ k. sym (constant-read c w) k ∷ q k
  constant-step false c w vs' vs q = q

  constant-width-step : (b : Bool) (c : Constant) (w : ℕ) (vs' vs : List Value) → seconds vs' ≡ seconds vs → seconds (cons_option (cond b (Some (constant_value c w)) None) vs') ≡ seconds (cons_option (cond b (Some (constant_value c w)) None) vs)
  constant-width-step true c w vs' vs q = ap (λ ws. (w ∷ []) ∷ ws) q
  constant-width-step false c w vs' vs q = q

  abbrev values_in : Function → Effect → ℕ → List Operand → List Value
  values_in h e w os = filter_map (value_of t h e w) os

  explicit-reads : (e : Effect) (w : ℕ) (os : List Operand) → RenamesAll t f g m r os → firsts (values_in g e w (map (renamed_operand r) os)) ≡ renamed_reads m (firsts (values_in f e w os))
  explicit-reads e w [] h = refl
  explicit-reads e w (operands.Reg o ∷ os) h =
      ap (λ b. firsts (cons_option (cond b None (Some (use_value t g (r o)))) (values_in g e w (map (renamed_operand r) os)))) h.0.def
      ∙ use-step o.def (use_sources t g (r o)) (use_sources t f o) (operand_widths t g (r o)) (operand_widths t f o) (values_in g e w (map (renamed_operand r) os)) (values_in f e w os) (use-renamed o h.0) (explicit-reads e w os h.1)
  explicit-reads e w (operands.Imm z ∷ os) h = constant-step (computes_with_immediates e) (Immediate (residue z w)) w (values_in g e w (map (renamed_operand r) os)) (values_in f e w os) (explicit-reads e w os h)
  explicit-reads e w (operands.Stack n ∷ os) h = constant-step (has_base e) (StackAddress n) 64 (values_in g e w (map (renamed_operand r) os)) (values_in f e w os) (explicit-reads e w os h)
  explicit-reads e w (operands.FixedStack n ∷ os) h = constant-step (has_base e) (FixedStackAddress n) 64 (values_in g e w (map (renamed_operand r) os)) (values_in f e w os) (explicit-reads e w os h)
  explicit-reads e w (operands.Symbol s ∷ os) h = constant-step (has_base e) (SymbolAddress s) 64 (values_in g e w (map (renamed_operand r) os)) (values_in f e w os) (explicit-reads e w os h)
  explicit-reads e w (x ∷ os) h = explicit-reads e w os h

  explicit-widths : (e : Effect) (w : ℕ) (os : List Operand) → RenamesAll t f g m r os → seconds (values_in g e w (map (renamed_operand r) os)) ≡ seconds (values_in f e w os)
  explicit-widths e w [] h = refl
  explicit-widths e w (operands.Reg o ∷ os) h =
      ap (λ b. seconds (cons_option (cond b None (Some (use_value t g (r o)))) (values_in g e w (map (renamed_operand r) os)))) h.0.def
      ∙ use-width-step o.def (use_sources t g (r o)) (use_sources t f o) (operand_widths t g (r o)) (operand_widths t f o) (values_in g e w (map (renamed_operand r) os)) (values_in f e w os) h.0.widths (explicit-widths e w os h.1)
  explicit-widths e w (operands.Imm z ∷ os) h = constant-width-step (computes_with_immediates e) (Immediate (residue z w)) w (values_in g e w (map (renamed_operand r) os)) (values_in f e w os) (explicit-widths e w os h)
  explicit-widths e w (operands.Stack n ∷ os) h = constant-width-step (has_base e) (StackAddress n) 64 (values_in g e w (map (renamed_operand r) os)) (values_in f e w os) (explicit-widths e w os h)
  explicit-widths e w (operands.FixedStack n ∷ os) h = constant-width-step (has_base e) (FixedStackAddress n) 64 (values_in g e w (map (renamed_operand r) os)) (values_in f e w os) (explicit-widths e w os h)
  explicit-widths e w (operands.Symbol s ∷ os) h = constant-width-step (has_base e) (SymbolAddress s) 64 (values_in g e w (map (renamed_operand r) os)) (values_in f e w os) (explicit-widths e w os h)
  explicit-widths e w (x ∷ os) h = explicit-widths e w os h

  -- the explicit values of the renamed instruction, over the operands of before
  explicit-form : (e : Effect) (os : List Operand) → RenamesAll t f g m r os → values_in g e (first_width t g (registers (map (renamed_operand r) os))) (explicit_operands (map (renamed_operand r) os)) ≡ values_in g e (first_width t f (registers os)) (map (renamed_operand r) (explicit_operands os))
  explicit-form e os h = λ k. values_in g e (first-width os h k) (explicit-renamed os h k)

  abbrev read_implicitly : List Operand → List RegOp
  read_implicitly os = filter (λ o. not o.def) (implicit_registers os)

  abbrev implicit_in : Function → Effect → List Role → List Operand → List Value
  implicit_in h e rs os = implicit_values t h e (immediate_of os) rs (read_implicitly os)

  implicit-form : (e : Effect) (rs : List Role) (os : List Operand) → RenamesAll t f g m r os → implicit_in g e rs (map (renamed_operand r) os) ≡ implicit_in f e rs os
  implicit-form e rs os h =
      (λ k. implicit_values t g e (immediate-stays os k) rs (filter (λ o. not o.def) (implicit-same os h k)))
      ∙ implicit-values-same e (immediate_of os) rs (read_implicitly os) (filter-fixed (λ o. not o.def) (implicit_registers os) (implicit-fixed os h))

  values-reads : (e : Effect) (i : Instr) → RenamesAll t f g m r i.operands → firsts (values t g e (renamed_instr r i)) ≡ renamed_reads m (firsts (values t f e i))
  values-reads e i h =
      let os = i.operands in
      let w = first_width t f (registers os) in
      let rs = implicit_roles (roles_of t i) in
      let old = values_in f e w (explicit_operands os) in
      let new = values_in g e w (map (renamed_operand r) (explicit_operands os)) in
      (λ k. firsts (explicit-form e os h k ++ implicit-form e rs os h k))
      ∙ (map-append (λ (v : Value). v.0) new (implicit_in f e rs os)
      ∙ ((λ k. explicit-reads e w (explicit_operands os) (explicit-all os h) k ++ sym (implicit-values-stay e (immediate_of os) rs (read_implicitly os) (filter-fixed (λ o. not o.def) (implicit_registers os) (implicit-fixed os h))) k)
      ∙ (sym (reads-append (firsts old) (firsts (implicit_in f e rs os)))
      ∙ ap (renamed_reads m) (sym (map-append (λ (v : Value). v.0) old (implicit_in f e rs os))))))

  values-widths : (e : Effect) (i : Instr) → RenamesAll t f g m r i.operands → seconds (values t g e (renamed_instr r i)) ≡ seconds (values t f e i)
  values-widths e i h =
      let os = i.operands in
      let w = first_width t f (registers os) in
      let rs = implicit_roles (roles_of t i) in
      let old = values_in f e w (explicit_operands os) in
      let new = values_in g e w (map (renamed_operand r) (explicit_operands os)) in
      (λ k. seconds (explicit-form e os h k ++ implicit-form e rs os h k))
      ∙ (map-append (λ (v : Value). v.1) new (implicit_in f e rs os)
      ∙ ((λ k. explicit-widths e w (explicit_operands os) (explicit-all os h) k ++ seconds (implicit_in f e rs os))
      ∙ sym (map-append (λ (v : Value). v.1) old (implicit_in f e rs os))))

  -- what is written

  result-renamed : (early : Bool) (n : ℕ) (o : RegOp) → Renames t f g m r o → result_writes t g early n (r o) ≡ renamed m (result_writes t f early n o)
  result-renamed early n o h =
      (λ k. computed early n (h.lanes k) ++ undefined early (h.others k))
      ∙ ((λ k. sym (renamed-computed m early n (operand_lanes t f o)) k ++ sym (renamed-undefined m early (undefined_lanes t f o)) k)
      ∙ sym (renamed-append m (computed early n (operand_lanes t f o)) (undefined early (undefined_lanes t f o))))

  lanes-stay : (o : RegOp) → Renames t f g m r o → length (operand_lanes t g (r o)) ≡ length (operand_lanes t f o)
  lanes-stay o h = ap length h.lanes ∙ map-length m (operand_lanes t f o)

  results-renamed : (qs : List Role) (n : ℕ) (os : List Operand) → RenamesAll t f g m r os → results t g n (seated_definitions qs (map (renamed_operand r) os)) ≡ renamed m (results t f n (seated_definitions qs os))
  results-renamed qs n [] h = ap (results t g n) (definitions_none qs) ∙ ap (λ ds. renamed m (results t f n ds)) (sym (definitions_none qs))
  results-renamed qs n (operands.Reg o ∷ os) h =
      ap (results t g n) (definitions_step qs (operands.Reg (r o)) (map (renamed_operand r) os))
      ∙ ((λ k. results t g n (behind (r o) (h.0.implicit k) (h.0.def k && not (h.0.implicit k)) (map (renamed_operand r) os)))
      ∙ (out o.implicit (o.def && not o.implicit) (results-renamed qs n os h.1) (λ k. results-renamed (after_first qs) k os h.1)
      ∙ ap (λ ds. renamed m (results t f n ds)) (sym (definitions_step qs (operands.Reg o) os))))
    where
      early : Bool
      early = passes is_early (first_role qs)

      behind : RegOp → Bool → Bool → List Operand → List Definition
      behind d implicit defines xs = cond implicit (seated_definitions qs xs) (cons_option (cond defines (Some (early, d)) None) (seated_definitions (after_first qs) xs))

      out : (b d : Bool) → results t g n (seated_definitions qs (map (renamed_operand r) os)) ≡ renamed m (results t f n (seated_definitions qs os)) → ((k : ℕ) → results t g k (seated_definitions (after_first qs) (map (renamed_operand r) os)) ≡ renamed m (results t f k (seated_definitions (after_first qs) os))) → results t g n (behind (r o) b d (map (renamed_operand r) os)) ≡ renamed m (results t f n (behind o b d os))
      out true d same more = same
      out false true same more =
          (λ k. result-renamed early n o h.0 k ++ (ap (λ l. results t g (n + l) (seated_definitions (after_first qs) (map (renamed_operand r) os))) (lanes-stay o h.0) ∙ more (n + length (operand_lanes t f o))) k)
          ∙ sym (renamed-append m (result_writes t f early n o) (results t f (n + length (operand_lanes t f o)) (seated_definitions (after_first qs) os)))
      out false false same more = more n
  results-renamed qs n (x ∷ os) h =
      ap (results t g n) (definitions_step qs x (map (renamed_operand r) os))
      ∙ (results-renamed (after_first qs) n os h
      ∙ ap (λ ds. renamed m (results t f n ds)) (sym (definitions_step qs x os)))

  defined-renamed-lanes : (qs : List Role) (os : List Operand) → RenamesAll t f g m r os → defined_lanes t g (seated_definitions qs (map (renamed_operand r) os)) ≡ map m (defined_lanes t f (seated_definitions qs os))
  defined-renamed-lanes qs [] h = ap (defined_lanes t g) (definitions_none qs) ∙ ap (λ ds. map m (defined_lanes t f ds)) (sym (definitions_none qs))
  defined-renamed-lanes qs (operands.Reg o ∷ os) h =
      ap (defined_lanes t g) (definitions_step qs (operands.Reg (r o)) (map (renamed_operand r) os))
      ∙ ((λ k. defined_lanes t g (behind (r o) (h.0.implicit k) (h.0.def k && not (h.0.implicit k)) (map (renamed_operand r) os)))
      ∙ (out o.implicit (o.def && not o.implicit) (defined-renamed-lanes qs os h.1) (defined-renamed-lanes (after_first qs) os h.1)
      ∙ ap (λ ds. map m (defined_lanes t f ds)) (sym (definitions_step qs (operands.Reg o) os))))
    where
      early : Bool
      early = passes is_early (first_role qs)

      behind : RegOp → Bool → Bool → List Operand → List Definition
      behind d implicit defines xs = cond implicit (seated_definitions qs xs) (cons_option (cond defines (Some (early, d)) None) (seated_definitions (after_first qs) xs))

      out : (b d : Bool) → defined_lanes t g (seated_definitions qs (map (renamed_operand r) os)) ≡ map m (defined_lanes t f (seated_definitions qs os)) → defined_lanes t g (seated_definitions (after_first qs) (map (renamed_operand r) os)) ≡ map m (defined_lanes t f (seated_definitions (after_first qs) os)) → defined_lanes t g (behind (r o) b d (map (renamed_operand r) os)) ≡ map m (defined_lanes t f (behind o b d os))
      out true d same more = same
      out false true same more = (λ k. h.0.lanes k ++ more k) ∙ sym (map-append m (operand_lanes t f o) (defined_lanes t f (seated_definitions (after_first qs) os)))
      out false false same more = more
  defined-renamed-lanes qs (x ∷ os) h =
      ap (defined_lanes t g) (definitions_step qs x (map (renamed_operand r) os))
      ∙ (defined-renamed-lanes (after_first qs) os h
      ∙ ap (λ ds. map m (defined_lanes t f ds)) (sym (definitions_step qs x os)))

  -- the number behind the lanes of explicit definitions
  count-stays : (qs : List Role) (os : List Operand) → RenamesAll t f g m r os → length (defined_lanes t g (seated_definitions qs (map (renamed_operand r) os))) ≡ length (defined_lanes t f (seated_definitions qs os))
  count-stays qs os h = ap length (defined-renamed-lanes qs os h) ∙ map-length m (defined_lanes t f (seated_definitions qs os))

  result-widths-stay : (os : List Operand) → RenamesAll t f g m r os → flat_map (operand_widths t g) (explicit_definitions (map (renamed_operand r) os)) ≡ flat_map (operand_widths t f) (explicit_definitions os)
  result-widths-stay [] h = refl
  result-widths-stay (operands.Reg o ∷ os) h =
      (λ k. flat_map (operand_widths t g) (cond (h.0.def k && not (h.0.implicit k)) (r o ∷ explicit_definitions (map (renamed_operand r) os)) (explicit_definitions (map (renamed_operand r) os))))
      ∙ out (o.def && not o.implicit) (result-widths-stay os h.1)
    where
      out :
          (b : Bool) → flat_map (operand_widths t g) (explicit_definitions (map (renamed_operand r) os)) ≡ flat_map (operand_widths t f) (explicit_definitions os) →
          flat_map (operand_widths t g) (cond b (r o ∷ explicit_definitions (map (renamed_operand r) os)) (explicit_definitions (map (renamed_operand r) os))) ≡ flat_map (operand_widths t f) (cond b (o ∷ explicit_definitions os) (explicit_definitions os))
      out true same = λ k. h.0.widths k ++ same k
      out false same = same
  result-widths-stay (x ∷ os) h = result-widths-stay os h

  -- writes of units, which rename to themselves
  abbrev Steady : Writes → Type 0
  Steady [] = Unit {0}
  Steady (w ∷ ws) = (renamed_write m w ≡ w) × Steady ws

  abbrev SteadyLanes : List Lane → Type 0
  SteadyLanes [] = Unit {0}
  SteadyLanes (l ∷ ls) = (m l ≡ l) × SteadyLanes ls

  steady-renamed : (ws : Writes) → Steady ws → renamed m ws ≡ ws
  steady-renamed [] s = refl
  steady-renamed (w ∷ ws) s = λ k. s.0 k ∷ steady-renamed ws s.1 k

  steady-append : (ws vs : Writes) → Steady ws → Steady vs → Steady (ws ++ vs)
  steady-append [] vs s u = u
  steady-append (w ∷ ws) vs s u = (s.0, steady-append ws vs s.1 u)

  steady-kept : (ws : Writes) → Steady ws → Steady (kept t ws)
  steady-kept [] s = s
  steady-kept (w ∷ ws) s = out (not (is_reserved t w.lane)) (steady-kept ws s.1)
    where
      out : (b : Bool) → Steady (kept t ws) → Steady (cond b (w ∷ kept t ws) (kept t ws))
      out true u = (s.0, u)
      out false u = u

  steady-undefined : (ls : List Lane) → SteadyLanes ls → Steady (undefined false ls)
  steady-undefined [] s = tt
  steady-undefined (l ∷ ls) s = (ap (λ a. record { lane = a; fill = Moved Undef; early = false }) s.0, steady-undefined ls s.1)

  steady-computed : (n : ℕ) (ls : List Lane) → SteadyLanes ls → Steady (computed false n ls)
  steady-computed n [] s = tt
  steady-computed n (l ∷ ls) s = (ap (λ a. record { lane = a; fill = Computed n; early = false }) s.0, steady-computed (suc n) ls s.1)

  lanes-append : (ls ks : List Lane) → SteadyLanes ls → SteadyLanes ks → SteadyLanes (ls ++ ks)
  lanes-append [] ks s u = u
  lanes-append (l ∷ ls) ks s u = (s.0, lanes-append ls ks s.1 u)

  lanes-unreserved : (ls : List Lane) → SteadyLanes ls → SteadyLanes (unreserved t ls)
  lanes-unreserved [] s = s
  lanes-unreserved (l ∷ ls) s = out (not (is_reserved t l)) (lanes-unreserved ls s.1)
    where
      out : (b : Bool) → SteadyLanes (unreserved t ls) → SteadyLanes (cond b (l ∷ unreserved t ls) (unreserved t ls))
      out true u = (s.0, u)
      out false u = u

  lanes-of-units : (us : List UnitNumber) → SteadyLanes (unit_lanes us)
  lanes-of-units [] = tt
  lanes-of-units (u ∷ us) = (keeps.units u.0, lanes-of-units us)

  lanes-of-numbers : (us : List ℕ) → SteadyLanes (map UnitLane us)
  lanes-of-numbers [] = tt
  lanes-of-numbers (u ∷ us) = (keeps.units u, lanes-of-numbers us)

  lanes-of-fixed : (o : RegOp) → IsFixed o.loc → SteadyLanes (operand_lanes t f o)
  lanes-of-fixed o h = at o.loc h
    where
      at : (l : Loc) → IsFixed l → SteadyLanes (located_lanes t f l o.index)
      at (Virtual v) h = absurd h
      at (Fixed q) h = lanes-of-units (units_of t q)

  lanes-of-all : (os : List RegOp) → AllFixed os → SteadyLanes (all_lanes t f os)
  lanes-of-all [] a = tt
  lanes-of-all (o ∷ os) a = lanes-append (operand_lanes t f o) (all_lanes t f os) (lanes-of-fixed o a.0) (lanes-of-all os a.1)

  all-same : (os : List RegOp) → AllFixed os → all_lanes t g os ≡ all_lanes t f os
  all-same [] a = refl
  all-same (o ∷ os) a = λ k. fixed-lanes t m keeps f g o a.0 k ++ all-same os a.1 k

  definitions-fixed : (os : List Operand) → RenamesAll t f g m r os → AllFixed (implicit_definitions os)
  definitions-fixed os h = filter-fixed (λ o. o.def) (implicit_registers os) (implicit-fixed os h)

  -- implicit definitions are the same registers, with the same lanes
  defined-lanes : (test : RegOp → Bool) (os : List Operand) → RenamesAll t f g m r os → all_lanes t g (filter test (implicit_definitions (map (renamed_operand r) os))) ≡ all_lanes t f (filter test (implicit_definitions os))
  defined-lanes test os h =
      (λ k. all_lanes t g (filter test (filter (λ o. o.def) (implicit-same os h k))))
      ∙ all-same (filter test (implicit_definitions os)) (filter-fixed test (implicit_definitions os) (definitions-fixed os h))

  all-defined-lanes : (os : List Operand) → RenamesAll t f g m r os → all_lanes t g (implicit_definitions (map (renamed_operand r) os)) ≡ all_lanes t f (implicit_definitions os)
  all-defined-lanes os h = (λ k. all_lanes t g (filter (λ o. o.def) (implicit-same os h k))) ∙ all-same (implicit_definitions os) (definitions-fixed os h)

  clobbers-steady : (os : List Operand) → Steady (undefined false (clobbered t os))
  clobbers-steady os = steady-undefined (clobbered t os) (lanes-unreserved (map UnitLane (filter (λ u. not (list_any (preserves t u) os)) (numbers 0 (length t.units)))) (lanes-of-numbers (filter (λ u. not (list_any (preserves t u) os)) (numbers 0 (length t.units)))))

  implicit-writes-same : (e : Effect) (rs : List Role) (os : List Operand) → RenamesAll t f g m r os → implicit_writes t g e rs (map (renamed_operand r) os) ≡ implicit_writes t f e rs os
  implicit-writes-same effects.Cmp rs os h = λ k. kept t (computed false 0 (defined-lanes (is_flags rs) os h k) ++ undefined false (all-defined-lanes os h k))
  implicit-writes-same effects.Call rs os h = λ k. computed false 0 (unreserved t (all-defined-lanes os h k)) ++ undefined false (clobbers-stay os k)
  implicit-writes-same _ rs os h = λ k. undefined false (unreserved t (all-defined-lanes os h k))

  implicit-writes-steady : (e : Effect) (rs : List Role) (os : List Operand) → RenamesAll t f g m r os → Steady (implicit_writes t f e rs os)
  implicit-writes-steady effects.Cmp rs os h =
      let flags = filter (is_flags rs) (implicit_definitions os) in
      steady-kept (computed false 0 (all_lanes t f flags) ++ undefined false (all_lanes t f (implicit_definitions os)))
      (steady-append (computed false 0 (all_lanes t f flags)) (undefined false (all_lanes t f (implicit_definitions os)))
      (steady-computed 0 (all_lanes t f flags) (lanes-of-all flags (filter-fixed (is_flags rs) (implicit_definitions os) (definitions-fixed os h))))
      (steady-undefined (all_lanes t f (implicit_definitions os)) (lanes-of-all (implicit_definitions os) (definitions-fixed os h))))
  implicit-writes-steady effects.Call rs os h =
      steady-append (computed false 0 (answered t f os)) (undefined false (clobbered t os))
      (steady-computed 0 (answered t f os) (lanes-unreserved (all_lanes t f (implicit_definitions os)) (lanes-of-all (implicit_definitions os) (definitions-fixed os h))))
      (clobbers-steady os)
  implicit-writes-steady _ rs os h =
      steady-undefined (unreserved t (all_lanes t f (implicit_definitions os))) (lanes-unreserved (all_lanes t f (implicit_definitions os)) (lanes-of-all (implicit_definitions os) (definitions-fixed os h)))

  opaque-clobbers-same : (kind : OpaqueKind) (os : List Operand) → opaque_clobbers t kind (map (renamed_operand r) os) ≡ opaque_clobbers t kind os
  opaque-clobbers-same kinds.Call os = ap (undefined false) (clobbers-stay os)
  opaque-clobbers-same _ os = refl

  further-same : (e : Effect) (i : Instr) → RenamesAll t f g m r i.operands → further_writes t g e (renamed_instr r i) ≡ further_writes t f e i
  further-same (effects.Opaque kind) i h = λ k. computed false (count-stays (explicit_roles (roles_of t i)) i.operands h k) (all-defined-lanes i.operands h k) ++ opaque-clobbers-same kind i.operands k
  further-same e i h = implicit-writes-same e (implicit_roles (roles_of t i)) i.operands h

  opaque-clobbers-steady : (kind : OpaqueKind) (os : List Operand) → Steady (opaque_clobbers t kind os)
  opaque-clobbers-steady kinds.Call os = clobbers-steady os
  opaque-clobbers-steady _ os = tt

  further-steady : (e : Effect) (i : Instr) → RenamesAll t f g m r i.operands → Steady (further_writes t f e i)
  further-steady (effects.Opaque kind) i h =
      let os = i.operands in
      let n = length (defined_lanes t f (seated_definitions (explicit_roles (roles_of t i)) os)) in
      let all = all_lanes t f (implicit_definitions os) in
      steady-append (computed false n all) (opaque_clobbers t kind os) (steady-computed n all (lanes-of-all (implicit_definitions os) (definitions-fixed os h))) (opaque-clobbers-steady kind os)
  further-steady e i h = implicit-writes-steady e (implicit_roles (roles_of t i)) i.operands h

  writes-renamed : (e : Effect) (i : Instr) → RenamesAll t f g m r i.operands → counted_writes t g e (renamed_instr r i) ≡ renamed m (counted_writes t f e i)
  writes-renamed e i h =
      let qs = explicit_roles (roles_of t i) in
      let further = further_writes t f e i in
      (λ k. results-renamed qs 0 i.operands h k ++ (further-same e i h ∙ sym (steady-renamed further (further-steady e i h))) k)
      ∙ sym (renamed-append m (results t f 0 (seated_definitions qs i.operands)) further)

  all-widths-same : (os : List RegOp) → AllFixed os → flat_map (operand_widths t g) os ≡ flat_map (operand_widths t f) os
  all-widths-same [] a = refl
  all-widths-same (o ∷ os) a = λ k. fixed-widths t m keeps f g o a.0 k ++ all-widths-same os a.1 k

  implicit-widths-stay : (os : List Operand) → RenamesAll t f g m r os → flat_map (operand_widths t g) (implicit_definitions (map (renamed_operand r) os)) ≡ flat_map (operand_widths t f) (implicit_definitions os)
  implicit-widths-stay os h = (λ k. flat_map (operand_widths t g) (filter (λ o. o.def) (implicit-same os h k))) ∙ all-widths-same (implicit_definitions os) (definitions-fixed os h)

  widths-of-result : (e : Effect) (os : List Operand) → RenamesAll t f g m r os → result_widths t g e (map (renamed_operand r) os) ≡ result_widths t f e os
  widths-of-result effects.Call os h = λ k. map (lane_width t) (unreserved t (all-defined-lanes os h k))
  widths-of-result (effects.Opaque kind) os h =
      let new = map (renamed_operand r) os in
      flat_map-append (operand_widths t g) (explicit_definitions new) (implicit_definitions new)
      ∙ ((λ k. result-widths-stay os h k ++ implicit-widths-stay os h k)
      ∙ sym (flat_map-append (operand_widths t f) (explicit_definitions os) (implicit_definitions os)))
  widths-of-result _ os h = result-widths-stay os h

  words-stay : (os : List Operand) → flat_map (word_of t) (map (renamed_operand r) os) ≡ flat_map (word_of t) os
  words-stay [] = refl
  words-stay (operands.Reg o ∷ os) = words-stay os
  words-stay (x ∷ os) = ap (λ ws. word_of t x ++ ws) (words-stay os)

  symbol-same : (e : Effect) (i : Instr) → named_symbol t e (renamed_instr r i) ≡ named_symbol t e i
  symbol-same effects.Call i = symbol-stays i.operands
  symbol-same (effects.Opaque kind) i = ap (λ ws. op_name t i.op ++ ws) (words-stay i.operands)
  symbol-same _ i = refl

  needs-same : (qs : List Role) (os : List Operand) → RenamesAll t f g m r os → filter_map needs_value (explicit_bound qs (map (renamed_operand r) os)) ≡ filter_map needs_value (explicit_bound qs os)
  needs-same qs [] h = refl
  needs-same qs (operands.Reg o ∷ os) h =
      ap (filter_map needs_value) (bound_step qs (operands.Reg (r o)) (map (renamed_operand r) os))
      ∙ ((λ k. cons_option (cond (h.0.def k) None (Some (passes is_address (first_role qs)))) (needs-same (after_first qs) os h.1 k))
      ∙ sym (ap (filter_map needs_value) (bound_step qs (operands.Reg o) os)))
  needs-same qs (x ∷ os) h =
      ap (filter_map needs_value) (bound_step qs x (map (renamed_operand r) os))
      ∙ (needs-same (after_first qs) os h
      ∙ sym (ap (filter_map needs_value) (bound_step qs x os)))

  needed-same : (e : Effect) (i : Instr) → RenamesAll t f g m r i.operands → needed_of t e (renamed_instr r i) ≡ needed_of t e i
  needed-same (effects.Opaque kind) i h =
      let qs = explicit_roles (roles_of t i) in
      ap (λ os. filter_map needs_value (explicit_bound qs os)) (explicit-renamed i.operands h) ∙ needs-same qs (explicit_operands i.operands) (explicit-all i.operands h)
  needed-same _ i h = refl

  widths-read : (e : Effect) (vs' vs : List Value) → seconds vs' ≡ seconds vs → read_widths e vs' ≡ read_widths e vs
  widths-read effects.Marker vs' vs p = refl
  widths-read _ vs' vs p = p

  rest-same : (e : Effect) (i : Instr) → RenamesAll t f g m r i.operands → rest_of t g e (renamed_instr r i) ≡ rest_of t f e i
  rest-same e i h = λ k. record {
    effect = e;
    widths = widths-read e (values t g e (renamed_instr r i)) (values t f e i) (values-widths e i h) k;
    result = widths-of-result e i.operands h k;
    immediate = cond (computes_with_immediates e) (pos 0) (immediate-stays i.operands k);
    symbol = symbol-same e i k;
    needed = needed-same e i h k;
  }

  module _ (b c : Block) (ways : (n : ℕ) → way t g c.number n ≡ way t f b.number n) (outs : ways_out t g c ≡ ways_out t f b) (i : Instr) (h : RenamesAll t f g m r i.operands) where
    to-target : (n : Option ℕ) → option_map (way t g c.number) n ≡ option_map (way t f b.number) n
    to-target None = refl
    to-target (Some n) = ap Some (ways n)

    exits-same : (d : Bool) → cond d (ways_out t g c) [] ≡ cond d (ways_out t f b) []
    exits-same d = ap (λ es. cond d es []) outs

    counted-same :
        (e : Effect) →
        Counted (rest_of t g e (renamed_instr r i)) (firsts (values t g e (renamed_instr r i))) (counted_writes t g e (renamed_instr r i)) (option_map (way t g c.number) (target_of (map (renamed_operand r) i.operands))) (cond (is_terminator e) (ways_out t g c) [])
        ≡ renamed_item m (Counted (rest_of t f e i) (firsts (values t f e i)) (counted_writes t f e i) (option_map (way t f b.number) (target_of i.operands)) (cond (is_terminator e) (ways_out t f b) []))
    counted-same e =
        λ k. Counted (rest-same e i h k) (values-reads e i h k) (writes-renamed e i h k) ((ap (option_map (way t g c.number)) (target-stays i.operands) ∙ to-target (target_of i.operands)) k) (exits-same (is_terminator e) k)

    silent-same : (e : Effect) → puts_together e ≡ false → Silent (silent_reads t g e (map (renamed_operand r) i.operands)) (silent_writes t g e (is_early_clobber (roles_of t i)) (map (renamed_operand r) i.operands)) ≡ renamed_item m (Silent (silent_reads t f e i.operands) (silent_writes t f e (is_early_clobber (roles_of t i)) i.operands))
    silent-same e n = λ k. Silent (reads-renamed e i.operands n k) (silent-renamed e (is_early_clobber (roles_of t i)) i.operands n h k)

    chosen : (d : Bool) (x y x' y' : Item) → x ≡ renamed_item m x' → y ≡ renamed_item m y' → cond d x y ≡ renamed_item m (cond d x' y')
    chosen true x y x' y' p q = p
    chosen false x y x' y' p q = q

    effect-renamed : (e : Effect) → puts_together e ≡ false → effect_item t g c (renamed_instr r i) e ≡ renamed_item m (effect_item t f b i e)
    effect-renamed e n =
        chosen (is_silent e)
        (Silent (silent_reads t g e (map (renamed_operand r) i.operands)) (silent_writes t g e (is_early_clobber (roles_of t i)) (map (renamed_operand r) i.operands)))
        (Counted (rest_of t g e (renamed_instr r i)) (firsts (values t g e (renamed_instr r i))) (counted_writes t g e (renamed_instr r i)) (option_map (way t g c.number) (target_of (map (renamed_operand r) i.operands))) (cond (is_terminator e) (ways_out t g c) []))
        (Silent (silent_reads t f e i.operands) (silent_writes t f e (is_early_clobber (roles_of t i)) i.operands))
        (Counted (rest_of t f e i) (firsts (values t f e i)) (counted_writes t f e i) (option_map (way t f b.number) (target_of i.operands)) (cond (is_terminator e) (ways_out t f b) []))
        (silent-same e n) (counted-same e)

    known-renamed : (o : Option Effect) → passes puts_together o ≡ false → elim o as (λ o. Item) [ None ↦ Silent [] [] | Some e ↦ effect_item t g c (renamed_instr r i) e ] ≡ renamed_item m (elim o as (λ o. Item) [ None ↦ Silent [] [] | Some e ↦ effect_item t f b i e ])
    known-renamed None n = refl
    known-renamed (Some e) n = effect-renamed e n

pub law_of_renaming : LawOfRenaming
unfolding item_of
law_of_renaming t f g m r keeps b c ways outs i n h = known-renamed t f g m r keeps b c ways outs i h (effect_of t i) n
