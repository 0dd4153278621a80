use Rattle.target_base.specs.Mini.{mini_is_sound}
use Rattle.target_base.proofs.builtin.mini.Goals as goal

pub invariant_of-result : goal.invariant_of-result
invariant_of-result c = record {
  sound =
      rw (c.in_ok-mini_name.ensures, c.in_ok-mini_units.ensures, c.in_ok-mini_regs.ensures, c.in_ok-mini_reserved.ensures, c.in_ok-mini_indexes.ensures, c.in_ok-mini_classes.ensures, c.in_ok-mini_masks.ensures, c.in_ok-mini_opcodes.ensures) mini_is_sound;
}
