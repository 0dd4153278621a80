-- The virtual registers of a document that is read are of classes of the target, and its bulk is small.
use Rattle.std.proofs.Common.{◌≡◌, ◌≤◌, ℕ, Bool, List, Ok, length, arith}
use Rattle.std.specs.List.{sum_by}
use Rattle.target_base.specs.declared.types.Target.{Target}
use Rattle.phi_elim.specs.Bulk.{operand_count}
use Rattle.mir_text.specs.declared.doc.Doc.{Doc}
use Rattle.mir_text.specs.declared.doc.Doc.TheVariants as docs
use Rattle.mir_text.specs.Document.{document_of, IsBulkWithin}
use Rattle.mir_text.proofs.Laws.Spelled.{classes-law}
use Rattle.ra_top.specs.Commands.Documents.{DocFits, IsDocWithin}

pub doc_fits : (t : Target) (first : Bool) (n : ℕ) (bytes : List ℕ) (d : Doc) → length bytes ≤ 4194304 → document_of t first n bytes ≡ Ok d → IsBulkWithin (length bytes) d → DocFits t d
doc_fits t first n bytes (docs.Function before f) short read bulk = record { classes = classes-law t first n bytes before f read; few = omega (arith, short, bulk.ranges) }
doc_fits t first n bytes (docs.Ir lines) short read bulk = tt
doc_fits t first n bytes (docs.Rest lines) short read bulk = tt

pub doc_within : (bytes : List ℕ) (d : Doc) → length bytes ≤ 4194304 → IsBulkWithin (length bytes) d → IsDocWithin d
doc_within bytes (docs.Function before f) short own =
    let operands : sum_by (λ b. operand_count b.instrs) f.blocks ≤ length bytes = own.operands in
    omega (arith, short, operands, own.ids, own.ranges, own.frames)
doc_within bytes (docs.Ir lines) short own = tt
doc_within bytes (docs.Rest lines) short own = tt
