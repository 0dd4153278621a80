-- The command line as its parser is told it.
use Rattle.std.specs.Prelude.{Some, true, [], codes}
use Rattle.clap.specs.Words.{App, Rule, new_rule, with_rule}
use Rattle.clap.specs.Simple.{new_shape}
use Rattle.clap.specs.declared.builder.ArgAction.TheVariants.{Append}

-- the argument that takes the words
abbrev pub word_rule : Rule
word_rule = record (new_rule (codes "words")) { action = Some Append }

-- the command: its words are all arguments, and it has neither help nor version
abbrev pub parser : App
parser = with_rule (record {
  top = record (new_shape (codes "llra")) { no_binary_name = true; disable_help_flag = true; disable_version_flag = true };
  subs = [];
}) word_rule
