-- What silent instructions read and write, by the numbers of lanes.
use Rattle.std.proofs.Common.{◌≡◌, ℕ, Bool, true, false, cond, not, List, [], ◌∷◌, ◌++◌, Option, Some, None, map, flat_map, filter_map, length, refl, sym, ap, ap₂, ◌∙◌, append-nil}
use Rattle.std.specs.Prelude.{slice_get, option_and_then, zip}
use Rattle.std.specs.BTreeMap.{get}
use Rattle.std.specs.Ordering.{nat_cmp}
use Rattle.target_base.specs.declared.types.Effect.{Effect}
use Rattle.target_base.specs.declared.types.Target.{Target}
use Rattle.mir_func.specs.declared.func.RegOp.{RegOp}
use Rattle.mir_func.specs.declared.func.Operand.{Operand}
use Rattle.mir_func.specs.declared.func.Operand.TheVariants as operands
use Rattle.target_base.specs.declared.types.IndexId.{IndexId}
use Rattle.mir_func.specs.Value.{Function}
use Rattle.mir_meaning.specs.Registers.{numbers, use_sources, undefined_lanes}
use Rattle.mir_meaning.specs.Items.{copied, defined_undef, given_constant, reloaded, silent_reads, uses}
use Rattle.instr_effects.specs.declared.lanes.LaneTable.{LaneTable}
use Rattle.instr_effects.specs.declared.owner.Owner.TheVariants as owners
use Rattle.instr_effects.specs.declared.row.LaneSpan.{LaneSpan}
use Rattle.instr_effects.specs.Row.{lane_in}
use Rattle.instr_effects.specs.Numbers.{row_number_in}
use Rattle.instr_effects.specs.Numbered.{number_in}
use Rattle.instr_effects.specs.Owners.{owner_of, source_owner, operand_owners}
use Rattle.instr_effects.specs.Acts.{plain, acts_of, result_acts, use_owners, read_owners, is_constant, slot_numbers, filled_whole, stored}
use Rattle.mir_func.specs.Binding.{register_at, slot_at, puts_together}
use Rattle.mir_meaning.specs.declared.writing.LaneDef.{LaneDef}
use Rattle.instr_effects.specs.Steps.{Numbering, act_writings, act_readings}
use Rattle.instr_effects.specs.Runs.{one_writing, one_move, one_kept, of_kind}
use Rattle.instr_effects.proofs.Runs.{moves, kept, somes, no_run, none_given, define_writings, define_readings, unread, map-long, no-number}
use Rattle.instr_effects.proofs.CountedParts.{each-flat, part-flat, result-unread}
use Rattle.instr_effects.proofs.Readings.{together_read, other_read}
use Rattle.instr_effects.proofs.Writes.{copied_acts, undefined_none, undefined_acts, whole_none, whole_acts, constant_acts, stored_acts, reloaded_acts}

pub slot_run : (x : LaneSpan) (tab : LaneTable) (s : ℕ) → ((k : ℕ) → lane_in x.first x.count k ≡ row_number_in (get nat_cmp tab.slots s) k) → (ks : List ℕ) → map (lane_in x.first x.count) ks ≡ map (number_in tab) (map (owners.Slot s) ks)
slot_run x tab s h [] = refl
slot_run x tab s h (k ∷ ks) = ap₂ (λ a b. a ∷ b) (h k) (slot_run x tab s h ks)

pub nothing-added : {X : Type 0} (xs ys : List X) → ys ≡ [] → xs ≡ xs ++ ys
nothing-added xs ys e = sym (append-nil xs) ∙ ap (λ t. xs ++ t) (sym e)

pub first_numbers : (t : Target) (n : ℕ) (o : Operand) → ((x : IndexId) → o ≡ operands.Index x → ⊥) → numbers 0 n ≡ slot_numbers t n o
first_numbers t n (operands.Index x) h = absurd (h x refl)
first_numbers t n o h = refl

module _ (t : Target) (f : Function) (num : Numbering) where
  -- what is entered of a definition that is given what stands at lanes
  abbrev pub filled : Bool → RegOp → List (Option ℕ) → List LaneDef
  filled early d xs = flat_map (one_move early) (zip (map num (operand_owners t f d)) xs) ++ flat_map (one_writing early) (map num (map owner_of (undefined_lanes t f d)))

  abbrev pub left : RegOp → List (Option ℕ) → List ℕ
  left d xs = flat_map one_kept (zip (map num (operand_owners t f d)) xs)

  -- COPY
  pub copy_writings : (os : List Operand) (d s : RegOp) → register_at os 0 ≡ Some d → register_at os 1 ≡ Some s → act_writings num (acts_of (copied t f os)) ≡ filled false d (map (option_and_then num) (map source_owner (use_sources t f s)))
  copy_writings os d s e g = ap (act_writings num) (copied_acts t f os d s e g) ∙ define_writings num t f d false (map source_owner (use_sources t f s))

  pub copy_readings : (os : List Operand) (d s : RegOp) → register_at os 0 ≡ Some d → register_at os 1 ≡ Some s → act_readings num (acts_of (copied t f os)) ≡ left d (map (option_and_then num) (map source_owner (use_sources t f s)))
  copy_readings os d s e g = ap (act_readings num) (copied_acts t f os d s e g) ∙ define_readings num t f d false (map source_owner (use_sources t f s))

  -- IMPLICIT_DEF
  pub undefined_writings : (os : List Operand) (d : RegOp) → register_at os 0 ≡ Some d → act_writings num (acts_of (defined_undef t f os)) ≡ act_writings num (result_acts t f false d)
  undefined_writings os d e = ap (act_writings num) (undefined_acts t f os d e)

  pub undefined_nothing : (os : List Operand) → register_at os 0 ≡ None → act_writings num (acts_of (defined_undef t f os)) ≡ []
  undefined_nothing os e = ap (act_writings num) (undefined_none t f os e)

  pub undefined_readings : (os : List Operand) → act_readings num (acts_of (defined_undef t f os)) ≡ []
  undefined_readings os = go (register_at os 0) refl
    where
      go : (m : Option RegOp) → register_at os 0 ≡ m → act_readings num (acts_of (defined_undef t f os)) ≡ []
      go None e = ap (act_readings num) (undefined_none t f os e)
      go (Some d) e = ap (act_readings num) (undefined_acts t f os d e) ∙ result-unread t f num false d

  -- REG_SEQUENCE and INSERT_SUBREG
  pub whole_writings : (os : List Operand) (d : RegOp) → register_at os 0 ≡ Some d → act_writings num (acts_of (filled_whole t f os)) ≡ act_writings num (map (plain false) (operand_owners t f d))
  whole_writings os d e = ap (act_writings num) (whole_acts t f os d e)

  pub whole_nothing : (os : List Operand) → register_at os 0 ≡ None → act_writings num (acts_of (filled_whole t f os)) ≡ []
  whole_nothing os e = ap (act_writings num) (whole_none t f os e)

  pub whole_readings : (os : List Operand) → act_readings num (acts_of (filled_whole t f os)) ≡ []
  whole_readings os = go (register_at os 0) refl
    where
      go : (m : Option RegOp) → register_at os 0 ≡ m → act_readings num (acts_of (filled_whole t f os)) ≡ []
      go None e = ap (act_readings num) (whole_none t f os e)
      go (Some d) e = ap (act_readings num) (whole_acts t f os d e) ∙ unread num false (λ l. l) (operand_owners t f d)

  -- constants
  pub constant_given : (c : Bool) (d : RegOp) → map (option_and_then num) (cond c (map (λ x. None) (operand_owners t f d)) []) ≡ cond c (map (λ x. None) (operand_owners t f d)) []
  constant_given true d = none_given num (operand_owners t f d)
  constant_given false d = refl

  pub constant_writings : (early : Bool) (os : List Operand) (d : RegOp) (o : Operand) → register_at os 0 ≡ Some d → slice_get os 1 ≡ Some o → act_writings num (acts_of (given_constant t f early os)) ≡ filled early d (cond (is_constant o) (map (λ x. None) (operand_owners t f d)) [])
  constant_writings early os d o e g =
      ap (act_writings num) (constant_acts t f early os d o e g) ∙ define_writings num t f d early (cond (is_constant o) (map (λ x. None) (operand_owners t f d)) [])
      ∙ ap (filled early d) (constant_given (is_constant o) d)

  pub constant_readings : (early : Bool) (os : List Operand) (d : RegOp) (o : Operand) → register_at os 0 ≡ Some d → slice_get os 1 ≡ Some o → act_readings num (acts_of (given_constant t f early os)) ≡ left d (cond (is_constant o) (map (λ x. None) (operand_owners t f d)) [])
  constant_readings early os d o e g =
      ap (act_readings num) (constant_acts t f early os d o e g) ∙ define_readings num t f d early (cond (is_constant o) (map (λ x. None) (operand_owners t f d)) [])
      ∙ ap (left d) (constant_given (is_constant o) d)

  pub constant_run : (n : ℕ) (d : RegOp) → n ≡ length (map num (operand_owners t f d)) → map (λ (k : ℕ). no-number k) (numbers 0 n) ≡ map (λ x. no-number x) (operand_owners t f d)
  constant_run n d h = no_run num n (operand_owners t f d) (h ∙ map-long num (operand_owners t f d))

  -- stores
  pub store_writings : (os : List Operand) (d : RegOp) (s n : ℕ) (k : Operand) → register_at os 0 ≡ Some d → slot_at os 1 ≡ Some s → slice_get os 2 ≡ Some k → n ≡ length (map (option_and_then num) (map source_owner (use_sources t f d))) → act_writings num (acts_of (stored t f os)) ≡ flat_map (one_move false) (zip (map num (map (owners.Slot s) (slot_numbers t n k))) (map (option_and_then num) (map source_owner (use_sources t f d))))
  store_writings os d s n k e g h l = ap (act_writings num) (stored_acts t f os d s n k e g h (l ∙ map-long (option_and_then num) (map source_owner (use_sources t f d)))) ∙ moves num false (map (owners.Slot s) (slot_numbers t n k)) (map source_owner (use_sources t f d))

  pub store_readings : (os : List Operand) (d : RegOp) (s n : ℕ) (k : Operand) → register_at os 0 ≡ Some d → slot_at os 1 ≡ Some s → slice_get os 2 ≡ Some k → n ≡ length (map (option_and_then num) (map source_owner (use_sources t f d))) → act_readings num (acts_of (stored t f os)) ≡ flat_map one_kept (zip (map num (map (owners.Slot s) (slot_numbers t n k))) (map (option_and_then num) (map source_owner (use_sources t f d))))
  store_readings os d s n k e g h l = ap (act_readings num) (stored_acts t f os d s n k e g h (l ∙ map-long (option_and_then num) (map source_owner (use_sources t f d)))) ∙ kept num false (map (owners.Slot s) (slot_numbers t n k)) (map source_owner (use_sources t f d))

  -- reloads
  pub reload_writings : (early : Bool) (os : List Operand) (d : RegOp) (s n : ℕ) (k : Operand) → register_at os 0 ≡ Some d → slot_at os 1 ≡ Some s → slice_get os 2 ≡ Some k → n ≡ length (map num (operand_owners t f d)) → act_writings num (acts_of (reloaded t f early os)) ≡ filled early d (map num (map (owners.Slot s) (slot_numbers t n k)))
  reload_writings early os d s n k e g h l =
      ap (act_writings num) (reloaded_acts t f early os d s n k e g h (l ∙ map-long num (operand_owners t f d))) ∙ define_writings num t f d early (map Some (map (owners.Slot s) (slot_numbers t n k)))
      ∙ ap (filled early d) (somes num (map (owners.Slot s) (slot_numbers t n k)))

  pub reload_readings : (early : Bool) (os : List Operand) (d : RegOp) (s n : ℕ) (k : Operand) → register_at os 0 ≡ Some d → slot_at os 1 ≡ Some s → slice_get os 2 ≡ Some k → n ≡ length (map num (operand_owners t f d)) → act_readings num (acts_of (reloaded t f early os)) ≡ left d (map num (map (owners.Slot s) (slot_numbers t n k)))
  reload_readings early os d s n k e g h l =
      ap (act_readings num) (reloaded_acts t f early os d s n k e g h (l ∙ map-long num (operand_owners t f d))) ∙ define_readings num t f d early (map Some (map (owners.Slot s) (slot_numbers t n k)))
      ∙ ap (left d) (somes num (map (owners.Slot s) (slot_numbers t n k)))

  -- what is read in any case
  pub together_reads : (e : Effect) (os : List Operand) → puts_together e ≡ true → filter_map num (read_owners (silent_reads t f e os)) ≡ flat_map (of_kind (λ o. not o.def) (λ o. filter_map num (use_owners t f o))) os
  together_reads e os h = ap (filter_map num) (together_read t f e os h) ∙ part-flat num (use_owners t f) (uses os) ∙ sym (each-flat (λ o. not o.def) (λ o. filter_map num (use_owners t f o)) os)

  pub other_reads : (e : Effect) (os : List Operand) → puts_together e ≡ false → filter_map num (read_owners (silent_reads t f e os)) ≡ []
  other_reads e os h = ap (filter_map num) (other_read t f e os h)
