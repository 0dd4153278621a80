-- The virtual registers of a generated function are of classes of the target.
use Rattle.std.proofs.Common.{◌≡◌, ◌≤◌, ℕ, true, Some, Ok, Err, length, refl, subst, arith}
use Rattle.std.specs.Prelude.{Result}
use Rattle.target_base.specs.declared.types.Target.{Target}
use Rattle.mir_func.specs.Value.{Function}
use Rattle.mir_text.specs.declared.doc.Doc.{Doc}
use Rattle.mir_text.specs.declared.doc.Doc.TheVariants as docs
use Rattle.mir_text.specs.declared.doc.TextFault.{TextFault}
use Rattle.mir_text.specs.Document.{document_of}
use Rattle.ra_top.specs.Generator.Text.{generated_text}
use Rattle.ra_top.specs.Generator.Generated.{function_read, generated_for}
use Rattle.mir_text.specs.Laws.{AreClasses}
use Rattle.machine_verify.specs.Lives.{FitsTarget}
use Rattle.mir_text.proofs.Laws.Spelled.{classes-law}

pub generated_fits : (t : Target) (seed : ℕ) (f : Function) → generated_for t seed ≡ Some f → length f.classes ≤ 4194304 → FitsTarget t f
unfolding generated_for
generated_fits t seed f e few = record { classes = go (document_of t true 1 (generated_text seed)) refl e; few = omega (arith, few) }
  where
    go : (read : Result Doc TextFault) → document_of t true 1 (generated_text seed) ≡ read → function_read read ≡ Some f → AreClasses t f
    go (Ok (docs.Function before g)) d h = let e : g ≡ f = cc in subst (λ x. AreClasses t x) e (classes-law t true 1 (generated_text seed) before g d)
    go (Ok (docs.Ir lines)) d h = absurd (cc)
    go (Ok (docs.Rest lines)) d h = absurd (cc)
    go (Err fault) d h = absurd (cc)
