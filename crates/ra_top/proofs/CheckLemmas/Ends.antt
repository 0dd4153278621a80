-- How `check` ends.
use Rattle.std.proofs.Common.{◌≡◌, ℕ, List, [], Option, Some, None, refl, sym, subst}
use Rattle.std.specs.Prelude.{IfSome}
use Rattle.target_base.specs.declared.types.Target.{Target}
use Rattle.mir_func.specs.Value.{Function}
use Rattle.pipeline.specs.Guarded.Function.{IsTaken}
use Rattle.ra_top.specs.declared.commands.refusal.Refusal.{Refusal}
use Rattle.ra_top.specs.declared.commands.refusal.Refusal.TheVariants as refusals
use Rattle.ra_top.specs.declared.commands.status.Status.{Status}
use Rattle.ra_top.specs.declared.commands.status.Status.TheVariants as status
use Rattle.ra_top.specs.Commands.Piece.{IfBy}
use Rattle.ra_top.specs.Checked.{SourceRefuses, LimitRefuses, IsWithin, IsRead, IsBroken, IsSourceBroken, IsAllocatedBroken, EndsAtAllocated, ChecksFiles, at_source, at_allocated, behind}
use Rattle.ra_top.specs.Reading.{EndsAs}

-- the files are told to hold the same
same_at : (P : List ℕ → Type 0) (now before : List ℕ → Option (List ℕ)) (name : List ℕ) → now name ≡ before name → IfSome (now name) P → IfSome (before name) P
same_at P now before name same is = subst (λ o. IfSome o P) same is

pub same_contents : (t : Target) (source allocated : List ℕ) (now before : List ℕ → Option (List ℕ)) (left old new : Option (List ℕ)) (s : Status) (file detail : List ℕ) → ((n : List ℕ) → now n ≡ before n) → ChecksFiles t source allocated now left old new s file detail → ChecksFiles t source allocated before left old new s file detail
same_contents t source allocated now before left old new s file detail same (at_source e) = at_source (record { broken = same_at _ now before source (same source) e.broken; file_is = e.file_is; unwritten = e.unwritten })
same_contents t source allocated now before left old new s file detail same (at_allocated e) =
    at_allocated (record { sources = e.sources; read = same_at _ now before source (same source) e.read; broken = same_at _ now before allocated (same allocated) e.broken; file_is = e.file_is; unwritten = e.unwritten })
same_contents t source allocated now before left old new s file detail same (behind e) =
    behind (record { sources = e.sources; partners = e.partners; text = e.text; read = same_at _ now before source (same source) e.read; read_behind = same_at _ now before allocated (same allocated) e.read_behind; says = e.says; written = e.written })

-- no function is refused for a device
pub source_never : (t : Target) (f : Function) (detail : List ℕ) → SourceRefuses t f status.ReadFault detail → ⊥
source_never t f detail is = is

pub limit_never : (f : Function) (detail : List ℕ) → LimitRefuses f status.ReadFault detail → ⊥
limit_never f detail is = is

-- where memory runs out, nothing is said of what was read
memory_breaks : (P : Function → Type 0) (R : Function → Status → List ℕ → Type 0) (t : Target) (first left : Option (List ℕ)) (detail : List ℕ) → IfSome first (λ file. IsBroken P R t file left status.Memory detail)
memory_breaks P R t None left detail = tt
memory_breaks P R t (Some file) left detail = record { documents = []; reads = tt }

broken : (P : Function → Type 0) (R : Function → Status → List ℕ → Type 0) (t : Target) (first left : Option (List ℕ)) (r : Refusal) (s : Status) (detail : List ℕ) → EndsAs r s detail → IfBy (λ s detail. IfSome first (λ file. IsBroken P R t file left s detail)) r → IfSome first (λ file. IsBroken P R t file left s detail)
broken P R t first left (refusals.By x words) s detail (e, w) is = subst (λ z. IfSome first (λ file. IsBroken P R t file left z detail)) (sym e) (subst (λ z. IfSome first (λ file. IsBroken P R t file left x z)) (sym w) is)
broken P R t first left (refusals.Memory e) s detail (m, w) is = subst (λ z. IfSome first (λ file. IsBroken P R t file left z detail)) (sym m) (memory_breaks P R t first left detail)

-- the second file is refused, or reading it ends, where the first was read
pub ends_at_allocated : (t : Target) (source allocated : List ℕ) (contents now : List ℕ → Option (List ℕ)) (left old : Option (List ℕ)) (fs : List Function) (r : Refusal) (s : Status) (detail : List ℕ) → now allocated ≡ contents allocated → IfSome (contents source) (λ bytes. IsRead (IsTaken t) t bytes fs) → EndsAs r s detail → IfBy (λ s detail. IfSome (now allocated) (λ bytes. IsAllocatedBroken t bytes left s detail)) r → EndsAtAllocated t source allocated contents left old old s allocated detail
ends_at_allocated t source allocated contents now left old fs r s detail same read e is = record {
  sources = fs;
  read = read;
  broken = subst (λ o. IfSome o (λ bytes. IsAllocatedBroken t bytes left s detail)) same (broken IsWithin LimitRefuses t (now allocated) left r s detail e is);
  file_is = refl;
  unwritten = refl;
}

-- memory ran out before the source file was read
pub memory_at_source : (t : Target) (source allocated : List ℕ) (contents : List ℕ → Option (List ℕ)) (left old : Option (List ℕ)) (s : Status) (detail : List ℕ) → s ≡ status.Memory → ChecksFiles t source allocated contents left old old s source detail
memory_at_source t source allocated contents left old s detail is = at_source (record {
  broken = subst (λ z. IfSome (contents source) (λ bytes. IsSourceBroken t bytes left z detail)) (sym is) (memory_breaks (IsTaken t) (SourceRefuses t) t (contents source) left detail);
  file_is = refl;
  unwritten = refl;
})
