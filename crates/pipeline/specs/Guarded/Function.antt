-- What comes of a function, and why one is refused.
use Rattle.std.specs.Prelude.{◌≡◌, ◌≤◌, ◌<◌, ℕ, Bool, true, false, List, [], length, Some, None}
use Rattle.target_base.specs.declared.types.Target.{Target}
use Rattle.mir_func.specs.Value.{Function}
use Rattle.mir_meaning.specs.declared.Form.{Form}
use Rattle.mir_meaning.specs.declared.Form.TheVariants as forms
use Rattle.mir_func.specs.declared.func.Place.{Place}
use Rattle.mir_meaning.specs.Places.{Needs, FirstPlace, TooMany, Admits, PlacesServe}
use Rattle.mir_meaning.specs.Valid.{IsValid, FirstFault}
use Rattle.place_solve.specs.Own.{HasFew}
use Rattle.machine_verify.specs.Faults.{fault_of}
use Rattle.alloc_check.specs.Verdict.{IsRight}
use Rattle.alloc_check.specs.Looks.{KeepsReserved}
use Rattle.source_text.specs.Keeps.{keeps_text}
use Rattle.mir_text.specs.declared.doc.Doc.TheVariants as docs
use Rattle.mir_text.specs.Print.{print_doc}
use Rattle.mir_text.specs.Document.{Spells}
use Rattle.pipeline.specs.declared.guarded.stop.FunctionStop.{FunctionStop}
use Rattle.pipeline.specs.declared.guarded.stop.FunctionStop.TheVariants as stops
use Rattle.pipeline.specs.declared.guarded.stop.LimitName.{LimitName}
use Rattle.pipeline.specs.declared.guarded.stop.LimitName.TheVariants as limits
use Rattle.pipeline.specs.Guarded.Limits.{passed_limit}

-- the function lies within the limits, and is valid as a source
pub record IsTaken (t : Target) (f : Function) : Type 0 where
  pub fits : passed_limit f ≡ None
  pub valid : IsValid t forms.Source f

-- A text is what is printed of a function alone with the key lines of g; it spells g, and where it is longer than a document
-- may be that is read, it is what is printed of g. (`renamable` is printed and no reader keeps it; the keys `registers` and
-- `liveins`, which a reader drops, aren't there.)
pub record IsTextFor (t : Target) (g : Function) (text : List ℕ) : Type 0 where
  pub func : Function
  pub printed : text ≡ print_doc t (docs.Function [] func)
  pub head : func.head ≡ g.head
  pub spells : length text ≤ 4194304 → Spells t false 1 text (docs.Function [] g)
  pub long : 4194304 < length text → func ≡ g

-- What the guard lets through for f: a function of its name that is right for it, whose reserved units hold what f's hold at
-- each counted instruction, and that keeps what is printed of f beside what runs: names and texts of blocks, probabilities,
-- flags and tails of instructions, key lines and frame objects.
pub record IsGuarded (t : Target) (f g : Function) : Type 0 where
  pub right : IsRight t f g
  pub reserved : KeepsReserved t f g
  pub named : g.name ≡ f.name
  pub kept : keeps_text t f g ≡ true

-- some place has too many variables
abbrev pub HasMany : Target → Function → Type 0
HasMany t f = (name : Place) × FirstPlace t f TooMany name

-- g is an allocation of f, a function within the limits that is valid as a source, and each place of which has few enough
-- variables and admits a choice: the checker of allocations said Yes to both
pub record Allocates (t : Target) (f g : Function) : Type 0 where
  pub taken : IsTaken t f
  pub serve : PlacesServe t f
  pub guarded : IsGuarded t f g

-- no choice of registers serves at the place
abbrev pub AdmitsNone : Target → Function → Needs → Type 0
AdmitsNone t f p = Admits t f p → ⊥

-- The limit l is the reason: of blocks, instructions and virtual registers the first one that the function passes; a later
-- limit only where the function is taken: that of variables where some place has too many, that of ranges where all places
-- have few enough and admit a choice.
abbrev pub IfLimited : Target → Function → LimitName → Type 0
IfLimited t f limits.Variables = IsTaken t f × HasMany t f
IfLimited t f limits.Ranges = IsTaken t f × PlacesServe t f
IfLimited t f l = passed_limit f ≡ Some l

-- Why a function is refused: a limit that it passes; within the limits, its first fault; where neither is due and no place
-- has too many variables, the first place that admits no choice; and as not yet allocated only where all places serve.
abbrev pub IfRefused : Target → Function → FunctionStop → Type 0
IfRefused t f (stops.Limit l) = IfLimited t f l
IfRefused t f (stops.Invalid name x) = (passed_limit f ≡ None) × (name ≡ f.name) × FirstFault t forms.Source f (fault_of x)
IfRefused t f (stops.Unassignable name x) = IsTaken t f × (name ≡ f.name) × HasFew t f × FirstPlace t f (AdmitsNone t f) x
IfRefused t f stops.NotYet = IsTaken t f × PlacesServe t f
IfRefused t f (stops.Memory e) = Unit {0}

-- a function is refused for the first limit that it passes of those of blocks, instructions and virtual registers
abbrev pub IfPassed : Function → FunctionStop → Type 0
IfPassed f (stops.Limit l) = passed_limit f ≡ Some l
IfPassed f stop = ⊥

-- why a function isn't one within these limits that is valid in a form: the first of them that it passes; within them, its
-- first fault
abbrev pub IfUnfit : Target → Form → Function → FunctionStop → Type 0
IfUnfit t form f (stops.Limit l) = passed_limit f ≡ Some l
IfUnfit t form f (stops.Invalid name x) = (passed_limit f ≡ None) × (name ≡ f.name) × FirstFault t form f (fault_of x)
IfUnfit t form f (stops.Memory e) = Unit {0}
IfUnfit t form f stop = ⊥

-- the refusal comes before the run of the allocator, of which watchers are told
abbrev pub comes_before_run : FunctionStop → Bool
comes_before_run (stops.Limit limits.Ranges) = false
comes_before_run (stops.Limit l) = true
comes_before_run (stops.Invalid name x) = true
comes_before_run (stops.Unassignable name x) = true
comes_before_run stop = false

-- a refusal that isn't for want of memory comes before the run
abbrev pub IfBeforeRun : FunctionStop → Type 0
IfBeforeRun (stops.Memory e) = Unit {0}
IfBeforeRun stop = comes_before_run stop ≡ true
