use Rattle.std.proofs.Common.{◌≡◌, drop}
use Rattle.source_text.specs.Frames.{new_objects}
use Rattle.source_text.proofs.frames.new_objects.Given as goal

abbrev pub invariant-objects : goal.invariant-objects
invariant-objects l = new_objects (drop l.o-index l.objects) l.left ≡ new_objects l.objects l.others
