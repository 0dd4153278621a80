-- The names of a target, by their numbers.
use Rattle.std.specs.Prelude.{◌≤◌, ℕ, Bool, List, [], ◌∷◌, ◌++◌, Option, length, map, ◌==◌, position, option_map, is_some, if◌then◌else◌}
use Rattle.std.specs.List.{list_any}
use Rattle.target_base.specs.Storage.{same_numbers}
use Rattle.target_base.specs.Numbers.{reg_number, index_number, class_number, op_number}
use Rattle.target_base.specs.declared.types.Target.{Target}
use Rattle.target_base.specs.declared.types.Reg.{Reg}
use Rattle.target_base.specs.declared.types.IndexId.{IndexId}
use Rattle.target_base.specs.declared.types.ClassId.{ClassId}
use Rattle.target_base.specs.declared.types.MaskId.{MaskId}
use Rattle.target_base.specs.declared.types.OpId.{OpId}

-- the numbers with this one at the end, unless it is there
abbrev pub with_number : List ℕ → ℕ → List ℕ
with_number ns n = if list_any (λ m. m == n) ns then ns else ns ++ n ∷ []

-- the names of a target, each sort in the order of its numbers, and its words of `target-flags`
pub record NameLists : Type 0 where
  pub regs : List (List ℕ)
  pub indexes : List (List ℕ)
  pub classes : List (List ℕ)
  pub masks : List (List ℕ)
  pub opcodes : List (List ℕ)
  pub flags : List (List ℕ)

unfoldable pub name_lists : Target → NameLists
name_lists t = record {
  regs = map (λ r. r.name) t.regs;
  indexes = map (λ i. i.name) t.indexes;
  classes = map (λ c. c.name) t.classes;
  masks = map (λ m. m.name) t.masks;
  opcodes = map (λ o. o.name) t.opcodes;
  flags = t.options.flags;
}

-- there are few names of each sort
pub record AreFew (names : NameLists) : Type 0 where
  pub regs : length names.regs ≤ 65536
  pub indexes : length names.indexes ≤ 65536
  pub classes : length names.classes ≤ 65536
  pub masks : length names.masks ≤ 65536
  pub opcodes : length names.opcodes ≤ 65536

abbrev pub place_of : List (List ℕ) → List ℕ → Option ℕ
place_of names w = position (same_numbers w) names

abbrev pub mask_number : ℕ → MaskId
mask_number n = record { 0 = n }

-- what a name names; None where the target lacks it
abbrev pub reg_named : NameLists → List ℕ → Option Reg
reg_named names w = option_map reg_number (place_of names.regs w)

abbrev pub index_named : NameLists → List ℕ → Option IndexId
index_named names w = option_map index_number (place_of names.indexes w)

abbrev pub class_named : NameLists → List ℕ → Option ClassId
class_named names w = option_map class_number (place_of names.classes w)

abbrev pub mask_named : NameLists → List ℕ → Option MaskId
mask_named names w = option_map mask_number (place_of names.masks w)

abbrev pub op_named : NameLists → List ℕ → Option OpId
op_named names w = option_map op_number (place_of names.opcodes w)

-- the word may stand in `target-flags(..)`
abbrev pub has_flag : NameLists → List ℕ → Bool
has_flag names w = is_some (place_of names.flags w)
