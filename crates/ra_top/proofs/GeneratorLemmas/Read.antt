-- What is read of the text for a seed.
use Rattle.std.proofs.Common.{◌≡◌, ◌≤◌, ℕ, List, Option, Some, None, length, ap, sym, ◌∙◌, arith}
use Rattle.std.specs.Prelude.{true, Result, IfSome}
use Rattle.target_base.specs.declared.types.Target.{Target}
use Rattle.mir_func.specs.Value.{Function}
use Rattle.mir_text.specs.declared.doc.Doc.{Doc}
use Rattle.mir_text.specs.declared.doc.TextFault.{TextFault}
use Rattle.mir_text.specs.Document.{document_of}
use Rattle.ra_top.specs.Generator.Text.{generated_text}
use Rattle.ra_top.specs.Generator.Generated.{function_read, generated_for}

pub reads : (t : Target) (seed : ℕ) (text : List ℕ) (read : Result Doc TextFault) → text ≡ generated_text seed → document_of t true 1 text ≡ read → function_read read ≡ generated_for t seed
unfolding generated_for
reads t seed text read e is =
    sym (ap (λ (r : Result Doc TextFault). function_read r) is) ∙ ap (λ (x : List ℕ). function_read (document_of t true 1 x)) e

pub few_of : (o : Option Function) (n m : ℕ) → IfSome o (λ f. length f.classes ≤ n) → n ≤ m → IfSome o (λ f. length f.classes ≤ m)
few_of None n m h le = tt
few_of (Some f) n m h le = omega (arith, h, le)
