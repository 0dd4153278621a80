-- The text of the built-in target is read.
use Rattle.std.proofs.Common.{refl}
use Rattle.target_base.specs.Mini.{mini_target}
use Rattle.target_desc.specs.Text.{parts}
use Rattle.target_desc.specs.Forms.{formed, role_of, roles_of}
use Rattle.target_desc.specs.Drafts.{empty_draft}
use Rattle.target_desc.specs.Resolving.{units_named, regs_named, role_with, roles_named, resolved, is_new}
use Rattle.target_desc.specs.Standing.{stands_in}
use Rattle.target_desc.specs.Adding.{added}
use Rattle.target_desc.specs.Ending.{parts_under, is_whole}
use Rattle.target_desc.specs.Reading.{line_after, lines_after}
use Rattle.target_desc.specs.MiniText.{mini_text}
use Rattle.target_desc.specs.Laws.{MiniIsSpelled}

pub mini_spelled : MiniIsSpelled
unfolding mini_target parts formed role_of roles_of empty_draft units_named regs_named role_with roles_named resolved is_new stands_in added parts_under is_whole line_after lines_after mini_text
mini_spelled = refl
