use Rattle.std.proofs.Common.{◌≡◌, None, Some, ◌∙◌, ap, sym}
use Rattle.target_desc.specs.Text.{words}
use Rattle.target_desc.specs.Forms.{role_of, roles_of}
use Rattle.target_desc.proofs.Onto.{onto}
use Rattle.target_desc.proofs.Lists.{each_stops, each_goes, each_ends, reads_role_words}
use Rattle.target_desc.proofs.forms.roles_in.Goals as goal

pub returns-in-None : goal.returns-in-None
returns-in-None c =
    let none : None ≡ role_of c.in-Some.word.now = cc (c.in_ok-role_of.ensures) in
    each_stops role_of roles_of reads_role_words c.words.roles c.in-Some.word.now (words c.in-Some.after.now) none
    ∙ sym (c.words.invariant ∙ ap (λ ws. onto c.words.roles (roles_of ws)) c.in-Some.ensures.word)

pub words-preserved : goal.words-preserved
words-preserved c =
    let some : Some c.in-Some-2.role ≡ role_of c.in-Some.word.now = cc (c.in_ok-role_of.ensures) in
    c.words.invariant
    ∙ ap (λ ws. onto c.words.roles (roles_of ws)) c.in-Some.ensures.word
    ∙ each_goes role_of roles_of reads_role_words c.words.roles c.in-Some.word.now (words c.in-Some.after.now) c.in-Some-2.role some
    ∙ ap (λ made. onto made (roles_of (words c.in-Some.after.now))) (sym c.in_ok-push-in-Some-2.ensures.ok)

pub returns : goal.returns
returns c =
    each_ends role_of roles_of reads_role_words c.words.roles
    ∙ sym (c.words.invariant ∙ ap (λ ws. onto c.words.roles (roles_of ws)) c.in_default.ensures.word)
