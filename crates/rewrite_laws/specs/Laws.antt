-- A function whose ranges stand in registers without clashes does what it did.
use Rattle.std.specs.Prelude.{◌≡◌, ◌≢◌, ℕ, Bool, true, List, IsSome, Some, slice_get}
use Rattle.target_base.specs.declared.types.ClassId.{ClassId}
use Rattle.target_base.specs.declared.types.Reg.{Reg}
use Rattle.target_base.specs.declared.types.Unit.{Unit as UnitNumber}
use Rattle.target_base.specs.declared.types.Target.{Target}
use Rattle.meaning.specs.Live.{Among as Member}
use Rattle.mir_func.specs.declared.func.Instr.{Instr}
use Rattle.mir_func.specs.declared.func.Block.{Block}
use Rattle.mir_func.specs.Value.{Function}
use Rattle.mir_meaning.specs.Codes.{refines}
use Rattle.mir_meaning.specs.Places.{domain}
use Rattle.mir_meaning.specs.Points.{RangesClash, UnitClash}
use Rattle.live_edits.specs.Folded.{names_range}
use Rattle.lowering_laws.specs.Shapes.{IsLowered}
use Rattle.join_laws.specs.Laws.{HasPlainUndefs}
use Rattle.rewriter.specs.Physical.{Assignment, physical_form, register_of}

-- Each range that is named has a register, an unreserved one of its class; no two ranges clash, and none clashes with a unit
-- that is live or written itself.
pub record IsClear (t : Target) (f : Function) (rs : Assignment) : Type 0 where
  pub named : (b : Block) (i : Instr) (v : ℕ) → Member b f.blocks → Member i b.instrs → names_range v i ≡ true → IsSome (register_of rs v)
  pub classes : (v : ℕ) (r : Reg) → register_of rs v ≡ Some r → (c : ClassId) × (slice_get f.classes v ≡ Some (Some c)) × Member r (domain t (Some c))
  pub ranges : (v w : ℕ) (r q : Reg) → v ≢ w → register_of rs v ≡ Some r → register_of rs w ≡ Some q → RangesClash t f v r w q → ⊥
  pub units : (v : ℕ) (r : Reg) (u : UnitNumber) → register_of rs v ≡ Some r → UnitClash t f v r u → ⊥

-- The physical form by such registers does what the function did, whatever units it tells at the starts of blocks behind the
-- first, and whatever slots it declares. Nothing is asked of ranges that are live where the function begins: they are Undef
-- there, and their units may hold more.
abbrev pub RewriteRefines : Type 0
RewriteRefines =
    (t : Target) (f : Function) (rs : Assignment) (slots : List (ℕ × ClassId)) (live : ℕ → ℕ → Bool)
    → IsLowered t f → HasPlainUndefs t f → IsClear t f rs → refines t f (physical_form t rs slots live f)
