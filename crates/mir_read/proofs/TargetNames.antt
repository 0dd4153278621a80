-- The names of a target: few of each sort, and distinct.
use Rattle.std.proofs.Common.{◌≤◌, length, map, arith}
use Rattle.std.specs.Prelude.{IsTrue}
use Rattle.std.proofs.lemmas.Bool.{leb-true}
use Rattle.target_base.specs.declared.types.Target.{Target}
use Rattle.target_base.specs.Names.{are_distinct_names}
use Rattle.target_base.proofs.Tests.{first_of_both, second_of_both}
use Rattle.target_base.proofs.Sound.{regs_sound, indexes_sound, classes_sound, masks_sound, opcodes_sound}

pub regs_few : (t : Target) → length t.regs ≤ 65536
regs_few t = let n : length t.regs ≤ 512 = leb-true _ _ (first_of_both _ _ (first_of_both _ _ (regs_sound t.name t.version t.units t.regs t.reserved t.indexes t.classes t.masks t.opcodes t.sound))) in omega (arith, n)

pub regs_distinct : (t : Target) → IsTrue (are_distinct_names (map (λ d. d.name) t.regs))
regs_distinct t = second_of_both _ _ (regs_sound t.name t.version t.units t.regs t.reserved t.indexes t.classes t.masks t.opcodes t.sound)

pub indexes_few : (t : Target) → length t.indexes ≤ 65536
indexes_few t = let n : length t.indexes ≤ 512 = leb-true _ _ (first_of_both _ _ (first_of_both _ _ (indexes_sound t.name t.version t.units t.regs t.reserved t.indexes t.classes t.masks t.opcodes t.sound))) in omega (arith, n)

pub indexes_distinct : (t : Target) → IsTrue (are_distinct_names (map (λ d. d.name) t.indexes))
indexes_distinct t = second_of_both _ _ (indexes_sound t.name t.version t.units t.regs t.reserved t.indexes t.classes t.masks t.opcodes t.sound)

pub classes_few : (t : Target) → length t.classes ≤ 65536
classes_few t = let n : length t.classes ≤ 512 = leb-true _ _ (first_of_both _ _ (first_of_both _ _ (classes_sound t.name t.version t.units t.regs t.reserved t.indexes t.classes t.masks t.opcodes t.sound))) in omega (arith, n)

pub classes_distinct : (t : Target) → IsTrue (are_distinct_names (map (λ d. d.name) t.classes))
classes_distinct t = second_of_both _ _ (classes_sound t.name t.version t.units t.regs t.reserved t.indexes t.classes t.masks t.opcodes t.sound)

pub masks_few : (t : Target) → length t.masks ≤ 65536
masks_few t = let n : length t.masks ≤ 512 = leb-true _ _ (first_of_both _ _ (first_of_both _ _ (masks_sound t.name t.version t.units t.regs t.reserved t.indexes t.classes t.masks t.opcodes t.sound))) in omega (arith, n)

pub masks_distinct : (t : Target) → IsTrue (are_distinct_names (map (λ d. d.name) t.masks))
masks_distinct t = second_of_both _ _ (masks_sound t.name t.version t.units t.regs t.reserved t.indexes t.classes t.masks t.opcodes t.sound)

pub opcodes_few : (t : Target) → length t.opcodes ≤ 65536
opcodes_few t = let n : length t.opcodes ≤ 1024 = leb-true _ _ (first_of_both _ _ (first_of_both _ _ (first_of_both _ _ (opcodes_sound t.name t.version t.units t.regs t.reserved t.indexes t.classes t.masks t.opcodes t.sound)))) in omega (arith, n)

pub opcodes_distinct : (t : Target) → IsTrue (are_distinct_names (map (λ d. d.name) t.opcodes))
opcodes_distinct t = second_of_both _ _ (opcodes_sound t.name t.version t.units t.regs t.reserved t.indexes t.classes t.masks t.opcodes t.sound)

pub flags_distinct : (t : Target) → IsTrue (are_distinct_names t.options.flags)
flags_distinct t = second_of_both _ _ t.options.sound
