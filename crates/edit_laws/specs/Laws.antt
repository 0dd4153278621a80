-- What an edit leaves as it was.
use Rattle.std.specs.Prelude.{◌≡◌, ◌⊎◌, ◌↔◌, ℕ, false, List, [], ◌∷◌}
use Rattle.target_base.specs.declared.types.Target.{Target}
use Rattle.meaning.specs.declared.types.Lane.{Lane}
use Rattle.mir_func.specs.declared.func.Block.{Block}
use Rattle.mir_func.specs.declared.func.Instr.{Instr}
use Rattle.mir_func.specs.Value.{Function}
use Rattle.mir_meaning.specs.Points.{Point, Entry, Exit, LiveAt, OccupiedAt, point_item}
use Rattle.edit_laws.specs.Named.{Leads, Names}
use Rattle.edit_laws.specs.Edits.{Edit, edited, Stands, IsPlain, KeepsWays, comes_or_goes, all_edited}
use Rattle.edit_laws.specs.Treated.{Concerns}

-- a lane is live at a point of both functions or of neither, and so is it live or occupied
pub record IsSame (t : Target) (f g : Function) (p : Point) (l : Lane) : Type 0 where
  pub live : LiveAt t f p l ↔ LiveAt t g p l
  pub occupied : OccupiedAt t f p l ↔ OccupiedAt t g p l

-- a lane that is live, or live or occupied, at a point of one function is so at the point of the other, or it is one of some lanes
pub record IsSameBut (t : Target) (f g : Function) (p : Point) (Led : Lane → Type 0) (l : Lane) : Type 0 where
  pub live : LiveAt t f p l → LiveAt t g p l ⊎ Led l
  pub live_back : LiveAt t g p l → LiveAt t f p l ⊎ Led l
  pub occupied : OccupiedAt t f p l → OccupiedAt t g p l ⊎ Led l
  pub occupied_back : OccupiedAt t g p l → OccupiedAt t f p l ⊎ Led l

-- a lane that leads to one which the edit concerns
abbrev pub LeadsToEdit : Target → Function → Edit → Lane → Type 0
LeadsToEdit t f e l = Leads t f (Concerns t f e) l

-- An edit changes the live points of no lane but those that the edited instruction reads, writes or gives to others otherwise than it
-- did, and those that lead to them through copies. One that comes or goes is read for one that did, or does, nothing.
abbrev pub EditedLaw : Type 0
EditedLaw =
    (t : Target) (f : Function) (e : Edit) → KeepsWays t f e
    → (p : Point) → comes_or_goes f e p ≡ false → (l : Lane) → (LeadsToEdit t f e l → ⊥) → IsSame t f (edited f e) p l

-- Where a lane is live before an edit and not after it, or the reverse, it is one of these.
abbrev pub LeadingLaw : Type 0
LeadingLaw =
    (t : Target) (f : Function) (e : Edit) → KeepsWays t f e
    → (p : Point) → comes_or_goes f e p ≡ false → (l : Lane) → IsSameBut t f (edited f e) p (LeadsToEdit t f e) l

-- each edit of the list does so in the function as it stands then
abbrev pub KeepAllWays : Target → Function → List Edit → Type 0
KeepAllWays t f [] = Unit {0}
KeepAllWays t f (e ∷ es) = KeepsWays t f e × KeepAllWays t (edited f e) es

-- no instruction of the point comes or goes
abbrev pub Remains : Function → List Edit → Point → Type 0
Remains f [] p = Unit {0}
Remains f (e ∷ es) p = (comes_or_goes f e p ≡ false) × Remains (edited f e) es p

-- the lane leads to one that an edit of the list concerns, in the function as it stands then
abbrev pub LeadsToSome : Target → Function → List Edit → Lane → Type 0
LeadsToSome t f [] l = ⊥
LeadsToSome t f (e ∷ es) l = LeadsToEdit t f e l ⊎ LeadsToSome t (edited f e) es l

-- the same of edits one after the other
abbrev pub EditsLaw : Type 0
EditsLaw =
    (t : Target) (f : Function) (es : List Edit) → KeepAllWays t f es
    → (p : Point) → Remains f es p → (l : Lane) → (LeadsToSome t f es l → ⊥) → IsSame t f (all_edited f es) p l

-- a lane that no instruction of that id names is live, and live or occupied, at its entry exactly where it is at its exit
abbrev pub PassingLaw : Type 0
PassingLaw =
    (t : Target) (f : Function) (id : ℕ) (l : Lane) → ((b : Block) (i : Instr) → Stands f id b i → IsPlain t i × (Names (point_item t f b i) l → ⊥))
    → (LiveAt t f (Entry id) l ↔ LiveAt t f (Exit id) l) × (OccupiedAt t f (Entry id) l ↔ OccupiedAt t f (Exit id) l)
