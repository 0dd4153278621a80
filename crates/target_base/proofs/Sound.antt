-- What the rules of a target tell.
use Rattle.std.proofs.Common.{◌≡◌, ℕ, ◌≤◌, List, length, true}
use Rattle.std.specs.Prelude.{◌||◌, ◌==◌}
use Rattle.std.specs.List.{list_all}
use Rattle.std.proofs.lemmas.Bool.{leb-true}
use Rattle.target_base.specs.declared.types.Unit.{Unit as UnitNumber}
use Rattle.target_base.specs.declared.types.UnitDesc.{UnitDesc}
use Rattle.target_base.specs.declared.types.RegDesc.{RegDesc}
use Rattle.target_base.specs.declared.types.IndexDesc.{IndexDesc}
use Rattle.target_base.specs.declared.types.ClassDesc.{ClassDesc}
use Rattle.target_base.specs.declared.types.MaskDesc.{MaskDesc}
use Rattle.target_base.specs.declared.types.OpcodeDesc.{OpcodeDesc}
use Rattle.target_base.specs.Names.{is_name}
use Rattle.target_base.specs.Rules.{is_sound, are_units, are_regs, are_reserved, are_indexes, are_classes, are_masks, are_opcodes, is_complete}
use Rattle.target_base.proofs.Tests.{first_of_both, second_of_both}

pub name_sound : (name : List ℕ) (version : ℕ) (units : List UnitDesc) (regs : List RegDesc) (reserved : List UnitNumber) (indexes : List IndexDesc) (classes : List ClassDesc) (masks : List MaskDesc) (opcodes : List OpcodeDesc) → is_sound name version units regs reserved indexes classes masks opcodes ≡ true → is_name name ≡ true
unfolding is_sound
name_sound name version units regs reserved indexes classes masks opcodes h = first_of_both _ _ (first_of_both _ _ (first_of_both _ _ (first_of_both _ _ (first_of_both _ _ (first_of_both _ _ (first_of_both _ _ (first_of_both _ _ (first_of_both _ _ h))))))))

pub version_sound : (name : List ℕ) (version : ℕ) (units : List UnitDesc) (regs : List RegDesc) (reserved : List UnitNumber) (indexes : List IndexDesc) (classes : List ClassDesc) (masks : List MaskDesc) (opcodes : List OpcodeDesc) → is_sound name version units regs reserved indexes classes masks opcodes ≡ true → (version == 1 || version == 2) ≡ true
unfolding is_sound
version_sound name version units regs reserved indexes classes masks opcodes h = second_of_both _ _ (first_of_both _ _ (first_of_both _ _ (first_of_both _ _ (first_of_both _ _ (first_of_both _ _ (first_of_both _ _ (first_of_both _ _ (first_of_both _ _ h))))))))

pub units_sound : (name : List ℕ) (version : ℕ) (units : List UnitDesc) (regs : List RegDesc) (reserved : List UnitNumber) (indexes : List IndexDesc) (classes : List ClassDesc) (masks : List MaskDesc) (opcodes : List OpcodeDesc) → is_sound name version units regs reserved indexes classes masks opcodes ≡ true → are_units units ≡ true
unfolding is_sound
units_sound name version units regs reserved indexes classes masks opcodes h = second_of_both _ _ (first_of_both _ _ (first_of_both _ _ (first_of_both _ _ (first_of_both _ _ (first_of_both _ _ (first_of_both _ _ (first_of_both _ _ h)))))))

pub regs_sound : (name : List ℕ) (version : ℕ) (units : List UnitDesc) (regs : List RegDesc) (reserved : List UnitNumber) (indexes : List IndexDesc) (classes : List ClassDesc) (masks : List MaskDesc) (opcodes : List OpcodeDesc) → is_sound name version units regs reserved indexes classes masks opcodes ≡ true → are_regs version units regs ≡ true
unfolding is_sound
regs_sound name version units regs reserved indexes classes masks opcodes h = second_of_both _ _ (first_of_both _ _ (first_of_both _ _ (first_of_both _ _ (first_of_both _ _ (first_of_both _ _ (first_of_both _ _ h))))))

pub reserved_sound : (name : List ℕ) (version : ℕ) (units : List UnitDesc) (regs : List RegDesc) (reserved : List UnitNumber) (indexes : List IndexDesc) (classes : List ClassDesc) (masks : List MaskDesc) (opcodes : List OpcodeDesc) → is_sound name version units regs reserved indexes classes masks opcodes ≡ true → are_reserved regs reserved ≡ true
unfolding is_sound
reserved_sound name version units regs reserved indexes classes masks opcodes h = second_of_both _ _ (first_of_both _ _ (first_of_both _ _ (first_of_both _ _ (first_of_both _ _ (first_of_both _ _ h)))))

pub indexes_sound : (name : List ℕ) (version : ℕ) (units : List UnitDesc) (regs : List RegDesc) (reserved : List UnitNumber) (indexes : List IndexDesc) (classes : List ClassDesc) (masks : List MaskDesc) (opcodes : List OpcodeDesc) → is_sound name version units regs reserved indexes classes masks opcodes ≡ true → are_indexes version indexes ≡ true
unfolding is_sound
indexes_sound name version units regs reserved indexes classes masks opcodes h = second_of_both _ _ (first_of_both _ _ (first_of_both _ _ (first_of_both _ _ (first_of_both _ _ h))))

pub classes_sound : (name : List ℕ) (version : ℕ) (units : List UnitDesc) (regs : List RegDesc) (reserved : List UnitNumber) (indexes : List IndexDesc) (classes : List ClassDesc) (masks : List MaskDesc) (opcodes : List OpcodeDesc) → is_sound name version units regs reserved indexes classes masks opcodes ≡ true → are_classes units regs classes ≡ true
unfolding is_sound
classes_sound name version units regs reserved indexes classes masks opcodes h = second_of_both _ _ (first_of_both _ _ (first_of_both _ _ (first_of_both _ _ h)))

pub masks_sound : (name : List ℕ) (version : ℕ) (units : List UnitDesc) (regs : List RegDesc) (reserved : List UnitNumber) (indexes : List IndexDesc) (classes : List ClassDesc) (masks : List MaskDesc) (opcodes : List OpcodeDesc) → is_sound name version units regs reserved indexes classes masks opcodes ≡ true → are_masks (length regs) masks ≡ true
unfolding is_sound
masks_sound name version units regs reserved indexes classes masks opcodes h = second_of_both _ _ (first_of_both _ _ (first_of_both _ _ h))

pub opcodes_sound : (name : List ℕ) (version : ℕ) (units : List UnitDesc) (regs : List RegDesc) (reserved : List UnitNumber) (indexes : List IndexDesc) (classes : List ClassDesc) (masks : List MaskDesc) (opcodes : List OpcodeDesc) → is_sound name version units regs reserved indexes classes masks opcodes ≡ true → are_opcodes units regs classes opcodes ≡ true
unfolding is_sound
opcodes_sound name version units regs reserved indexes classes masks opcodes h = second_of_both _ _ (first_of_both _ _ h)

pub complete_sound : (name : List ℕ) (version : ℕ) (units : List UnitDesc) (regs : List RegDesc) (reserved : List UnitNumber) (indexes : List IndexDesc) (classes : List ClassDesc) (masks : List MaskDesc) (opcodes : List OpcodeDesc) → is_sound name version units regs reserved indexes classes masks opcodes ≡ true → list_all (is_complete regs reserved indexes classes opcodes) classes ≡ true
unfolding is_sound
complete_sound name version units regs reserved indexes classes masks opcodes h = second_of_both _ _ h

pub units_count : (name : List ℕ) (version : ℕ) (units : List UnitDesc) (regs : List RegDesc) (reserved : List UnitNumber) (indexes : List IndexDesc) (classes : List ClassDesc) (masks : List MaskDesc) (opcodes : List OpcodeDesc) → is_sound name version units regs reserved indexes classes masks opcodes ≡ true → length units ≤ 512
units_count name version units regs reserved indexes classes masks opcodes h = leb-true _ _ (first_of_both _ _ (first_of_both _ _ (units_sound name version units regs reserved indexes classes masks opcodes h)))

pub regs_count : (name : List ℕ) (version : ℕ) (units : List UnitDesc) (regs : List RegDesc) (reserved : List UnitNumber) (indexes : List IndexDesc) (classes : List ClassDesc) (masks : List MaskDesc) (opcodes : List OpcodeDesc) → is_sound name version units regs reserved indexes classes masks opcodes ≡ true → length regs ≤ 512
regs_count name version units regs reserved indexes classes masks opcodes h = leb-true _ _ (first_of_both _ _ (first_of_both _ _ (regs_sound name version units regs reserved indexes classes masks opcodes h)))

pub indexes_count : (name : List ℕ) (version : ℕ) (units : List UnitDesc) (regs : List RegDesc) (reserved : List UnitNumber) (indexes : List IndexDesc) (classes : List ClassDesc) (masks : List MaskDesc) (opcodes : List OpcodeDesc) → is_sound name version units regs reserved indexes classes masks opcodes ≡ true → length indexes ≤ 512
indexes_count name version units regs reserved indexes classes masks opcodes h = leb-true _ _ (first_of_both _ _ (first_of_both _ _ (indexes_sound name version units regs reserved indexes classes masks opcodes h)))

pub classes_count : (name : List ℕ) (version : ℕ) (units : List UnitDesc) (regs : List RegDesc) (reserved : List UnitNumber) (indexes : List IndexDesc) (classes : List ClassDesc) (masks : List MaskDesc) (opcodes : List OpcodeDesc) → is_sound name version units regs reserved indexes classes masks opcodes ≡ true → length classes ≤ 512
classes_count name version units regs reserved indexes classes masks opcodes h = leb-true _ _ (first_of_both _ _ (first_of_both _ _ (classes_sound name version units regs reserved indexes classes masks opcodes h)))

pub masks_count : (name : List ℕ) (version : ℕ) (units : List UnitDesc) (regs : List RegDesc) (reserved : List UnitNumber) (indexes : List IndexDesc) (classes : List ClassDesc) (masks : List MaskDesc) (opcodes : List OpcodeDesc) → is_sound name version units regs reserved indexes classes masks opcodes ≡ true → length masks ≤ 512
masks_count name version units regs reserved indexes classes masks opcodes h = leb-true _ _ (first_of_both _ _ (first_of_both _ _ (masks_sound name version units regs reserved indexes classes masks opcodes h)))

pub opcodes_count : (name : List ℕ) (version : ℕ) (units : List UnitDesc) (regs : List RegDesc) (reserved : List UnitNumber) (indexes : List IndexDesc) (classes : List ClassDesc) (masks : List MaskDesc) (opcodes : List OpcodeDesc) → is_sound name version units regs reserved indexes classes masks opcodes ≡ true → length opcodes ≤ 1024
opcodes_count name version units regs reserved indexes classes masks opcodes h = leb-true _ _ (first_of_both _ _ (first_of_both _ _ (first_of_both _ _ (opcodes_sound name version units regs reserved indexes classes masks opcodes h))))
