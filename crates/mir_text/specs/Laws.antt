-- What is true of each function that a document spells for a target.
use Rattle.std.specs.Prelude.{◌≡◌, ◌≤◌, ◌^◌, ℕ, Bool, List, Some, length}
use Rattle.target_base.specs.declared.types.ClassId.{ClassId}
use Rattle.target_base.specs.declared.types.Target.{Target}
use Rattle.target_base.specs.Registers.{IsClass}
use Rattle.mir_func.specs.Value.{Function}
use Rattle.mir_func.specs.Binding.{class_of}
use Rattle.mir_text.specs.declared.doc.Doc.TheVariants as docs
use Rattle.mir_text.specs.BodyLines.{IsFunctionWithin}
use Rattle.mir_text.specs.Document.{Spells}

-- the classes of virtual registers are classes of the target
abbrev pub AreClasses : Target → Function → Type 0
AreClasses t f = (v : ℕ) (c : ClassId) → class_of f v ≡ Some c → IsClass t c

-- a function that a document spells has only classes of its target
abbrev pub ClassesLaw : Type 0
ClassesLaw = (t : Target) (first : Bool) (n : ℕ) (bytes before : List ℕ) (f : Function) → Spells t first n bytes (docs.Function before f) → AreClasses t f

-- the ranges of a function that was read of at most 2^32 bytes are no more than that, so their numbers have 32 bits
abbrev pub FewLaw : Type 0
FewLaw = (n : ℕ) (f : Function) → IsFunctionWithin n f → n ≤ 2 ^ 32 → length f.classes ≤ 2 ^ 32
