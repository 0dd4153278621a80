use Rattle.std.proofs.Common.{rules, ◌≡◌, ◌∙◌, ap, ap₂, true}
use Rattle.std.proofs.lemmas.Result.{IfOk-weaker}
use Rattle.clap.specs.Simple.{App, app_of, app_of_fields, on_top, with_rule}
use Rattle.clap.specs.Walk.{rule_of}
use Rattle.clap.specs.declared.builder.command.Command.{Command}
use Rattle.clap.specs.declared.builder.command.Command.TheViews.{out-Command as fields_of}
use Rattle.ra_top.specs.Words.Parser.{word_rule}
use Rattle.ra_top.proofs.words.words.parser.Goals as goal

abbrev no_name : App → App
no_name = on_top (λ s. record s { no_binary_name = true })

abbrev no_help : App → App
no_help = on_top (λ s. record s { disable_help_flag = true })

abbrev no_version : App → App
no_version = on_top (λ s. record s { disable_version_flag = true })

without_name : (old new : Command) (a : App) → fields_of new ≡ record (fields_of old) { no_binary_name = true } → app_of old ≡ a → app_of new ≡ no_name a
without_name old new a e is = ap app_of_fields e ∙ ap no_name is

without_help : (old new : Command) (a : App) → fields_of new ≡ record (fields_of old) { disable_help_flag = true } → app_of old ≡ a → app_of new ≡ no_help a
without_help old new a e is = ap app_of_fields e ∙ ap no_help is

without_version : (old new : Command) (a : App) → fields_of new ≡ record (fields_of old) { disable_version_flag = true } → app_of old ≡ a → app_of new ≡ no_version a
without_version old new a e is = ap app_of_fields e ∙ ap no_version is

pub returns : goal.returns
returns c =
    let rule_is : rule_of c.action-words.result ≡ word_rule = search rules in
    let a = without_name c.new-2.result c.no_binary_name.result _ c.no_binary_name.ensures c.new-2.ensures.app in
    let b = without_help c.no_binary_name.result c.disable_help_flag.result _ c.disable_help_flag.ensures a in
    let d = without_version c.disable_help_flag.result c.disable_version_flag.result _ c.disable_version_flag.ensures b in
    IfOk-weaker c.arg.result _ _ (λ p h. h.shape (search rules) ∙ ap₂ with_rule d rule_is) c.arg.ensures
