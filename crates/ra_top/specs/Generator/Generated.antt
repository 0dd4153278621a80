-- The function that is generated for a seed.
use Rattle.std.specs.Prelude.{ℕ, true, Option, Some, None, Result, Ok, Err}
use Rattle.target_base.specs.declared.types.Target.{Target}
use Rattle.mir_func.specs.Value.{Function}
use Rattle.mir_text.specs.declared.doc.Doc.{Doc}
use Rattle.mir_text.specs.declared.doc.Doc.TheVariants as docs
use Rattle.mir_text.specs.declared.doc.TextFault.{TextFault}
use Rattle.mir_text.specs.Document.{document_of}
use Rattle.ra_top.specs.Generator.Text.{generated_text}

-- the function of a document
abbrev pub function_of : Doc → Option Function
function_of (docs.Function before f) = Some f
function_of d = None

-- the function that was read
abbrev pub function_read : Result Doc TextFault → Option Function
function_read (Ok d) = function_of d
function_read (Err fault) = None

-- what the text for a seed spells over a target; None where it spells no function
unfoldable pub generated_for : Target → ℕ → Option Function
generated_for t seed = function_read (document_of t true 1 (generated_text seed))
