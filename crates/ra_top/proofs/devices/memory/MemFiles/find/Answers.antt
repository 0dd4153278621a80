use Rattle.std.proofs.Common.{nat_eq}
use Rattle.std.specs.Cmp.Lexicographic.{pointwise}
use Rattle.ra_top.specs.Devices.MemFiles.{file_of}
use Rattle.ra_top.proofs.DeviceLemmas.Mapped.{position-map}
use Rattle.ra_top.proofs.devices.memory.MemFiles.find.Goals as goal

pub returns : goal.returns
returns c = rw (← c.self.view_is, position-map (λ f. pointwise nat_eq f.0 c.args.name.now) file_of c.self.inside.files.items, c.find_file.ensures, c.as_slice.ensures.value)
