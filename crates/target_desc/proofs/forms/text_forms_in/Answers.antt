use Rattle.std.proofs.Common.{◌≡◌, None, Some, ◌∙◌, ap, sym}
use Rattle.target_desc.specs.Text.{words}
use Rattle.target_desc.specs.Words.{meaning_in, text_form_words}
use Rattle.target_desc.specs.Forms.{text_forms_of}
use Rattle.target_desc.proofs.Onto.{onto}
use Rattle.target_desc.proofs.Lists.{each_stops, each_goes, each_ends, reads_form_words}
use Rattle.target_desc.proofs.forms.text_forms_in.Goals as goal

pub returns-in-None : goal.returns-in-None
returns-in-None c =
    let none : None ≡ meaning_in text_form_words c.in-Some.word.now = cc (c.in-None.ensures) in
    each_stops (meaning_in text_form_words) text_forms_of reads_form_words c.words.forms c.in-Some.word.now (words c.in-Some.after.now) none
    ∙ sym (c.words.invariant ∙ ap (λ ws. onto c.words.forms (text_forms_of ws)) c.in-Some.ensures.word)

pub words-preserved : goal.words-preserved
words-preserved c =
    let some : Some c.in-Some-text_form_of.form ≡ meaning_in text_form_words c.in-Some.word.now = cc (c.in-Some-text_form_of.ensures) in
    c.words.invariant
    ∙ ap (λ ws. onto c.words.forms (text_forms_of ws)) c.in-Some.ensures.word
    ∙ each_goes (meaning_in text_form_words) text_forms_of reads_form_words c.words.forms c.in-Some.word.now (words c.in-Some.after.now) c.in-Some-text_form_of.form some
    ∙ ap (λ made. onto made (text_forms_of (words c.in-Some.after.now))) (sym c.in_ok-push-in-Some-text_form_of.ensures.ok)

pub returns : goal.returns
returns c =
    each_ends (meaning_in text_form_words) text_forms_of reads_form_words c.words.forms
    ∙ sym (c.words.invariant ∙ ap (λ ws. onto c.words.forms (text_forms_of ws)) c.in_default.ensures.word)
