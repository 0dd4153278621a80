-- What the table of live lanes tells of places.
use Rattle.std.specs.Prelude.{◌≡◌, ◌<◌, ◌≤◌, ◌&&◌, ℕ, Bool, true, false, cond, List, [], ◌∷◌, length, nat_lt, Option, None, Some, slice_get}
use Rattle.std.specs.List.{list_all}
use Rattle.std.specs.Borrow.{Bor}
use Rattle.target_base.specs.Rules.{is_copy}
use Rattle.mir_func.specs.Value.{id_total}
use Rattle.mir_meaning.specs.declared.Form.TheVariants as forms
use Rattle.mir_meaning.specs.Valid.{shape_fault}
use Rattle.live_laws.specs.Effects.Shaped.{AreClasses}
use Rattle.place_solve.specs.Own.{own_instrs, place_variables}
use Rattle.target_base.specs.declared.types.Target.{Target}
use Rattle.mir_func.specs.declared.func.Block.{Block}
use Rattle.mir_func.specs.declared.func.Place.{Place}
use Rattle.mir_func.specs.declared.func.Instr.{Instr}
use Rattle.meaning.specs.Live.{Among}
use Rattle.mir_func.specs.Value.{Function}
use Rattle.mir_func.specs.Binding.{does}
use Rattle.mir_meaning.specs.Points.{Point, Start, Entry, Exit}
use Rattle.mir_meaning.specs.Places.{Variable as Need, Needs, Admits, FirstPlace, StandsAt, lowering_places, own_places, solutions}
use Rattle.live_laws.specs.Effects.Coded.{spot_in}
use Rattle.live_lanes.specs.declared.table.Table.{Table}
use Rattle.place_solve.specs.declared.position.PlacePosition.{PlacePosition}
use Rattle.place_solve.specs.declared.position.PlacePosition.TheVariants as arounds
use Rattle.place_solve.specs.Positions.{entry_of, exit_of}

-- some choice for these variables serves at the place, by the table
abbrev pub is_solved : Target → Table → PlacePosition → List Need → Bool
is_solved t x a vs = nat_lt 0 (length (solutions t (entry_of t x a) (exit_of t x a) vs))

-- where a copy at the point stands
abbrev pub around_of : Point → PlacePosition
around_of (Start n) = arounds.Start n
around_of (Entry id) = arounds.Before id
around_of (Exit id) = arounds.Behind id

-- the place of a copy admits a choice, by the table
abbrev pub copy_solved : Target → Table → Needs → Bool
copy_solved t x p = at p.copies
  where
    at : List Point → Bool
    at [] = true
    at (q ∷ qs) = is_solved t x (around_of q) p.variables

-- the point is one of a block or of an instruction
abbrev pub IsPoint : Target → Function → Point → Type 0
IsPoint t f (Start n) = (k : ℕ) × (b : Block) × (slice_get f.blocks k ≡ Some b) × (b.number ≡ n)
IsPoint t f (Entry id) = (k : ℕ) × (j : ℕ) × (spot_in id f.blocks ≡ Some (k, j))
IsPoint t f (Exit id) = (k : ℕ) × (j : ℕ) × (spot_in id f.blocks ≡ Some (k, j))

-- where an instruction stands: it is the first of its id
pub record Seated (t : Target) (f : Function) (i : Instr) : Type 0 where
  pub position : ℕ
  pub place : ℕ
  pub block : Block
  pub spot : spot_in i.id f.blocks ≡ Some (position, place)
  pub is_block : slice_get f.blocks position ≡ Some block
  pub is_instr : slice_get block.instrs place ≡ Some i

-- where these instructions, which make one place, stand: a copy counts by the point before it
abbrev pub around_at : Target → Bor (List Instr) → List Instr → PlacePosition
around_at t is [] = arounds.Instrs is
around_at t is (i ∷ more) = cond (does is_copy t i) (arounds.Before i.id) (arounds.Instrs is)

abbrev pub own_around : Target → Bor (List Instr) → PlacePosition
own_around t is = around_at t is is.now

-- the own place of these instructions admits a choice, by the table
abbrev pub own_solved : Target → Function → Table → Bor (List Instr) → Bool
own_solved t f x is = is_solved t x (own_around t is) (place_variables t f is.now)

-- what a valid source is known by here, whose virtual registers are of classes of the target
pub record IsSource (t : Target) (f : Function) : Type 0 where
  pub valid : shape_fault t forms.Source f ≡ None
  pub classes : AreClasses t f
  pub once : (id : ℕ) → id_total id f.blocks ≤ 1

-- this answers whether the own place of the instruction at j of these admits a choice, by the table
abbrev pub OwnTold : Target → Function → Table → List Instr → ℕ → Bool → Type 0
OwnTold t f x is j answer = (w : Bor (List Instr)) → w.now ≡ own_instrs t is j → answer ≡ own_solved t f x w

-- the copies that lowering makes of an instruction admit choices, by the table
abbrev pub copies_solved : Target → Function → Table → Instr → Bool
copies_solved t f x i = list_all (copy_solved t x) (lowering_places t f i)

-- this answers whether each place of the instruction at j of these admits a choice, by the table
abbrev pub PlacesTold : Target → Function → Table → List Instr → ℕ → Bool → Type 0
PlacesTold t f x is j answer = (w : Bor (List Instr)) (i : Instr) → w.now ≡ own_instrs t is j → slice_get is j ≡ Some i → answer ≡ (own_solved t f x w && copies_solved t f x i)

-- the places of the first n of these instructions admit choices, by the table
abbrev pub AllServe : Target → Function → Table → List Instr → ℕ → Type 0
AllServe t f x is n = (j : ℕ) → j < n → PlacesTold t f x is j true

-- the first of these instructions one of whose places admits nothing, if one does
abbrev pub IsFirstLost : Target → Function → Table → List Instr → Option ℕ → Type 0
IsFirstLost t f x is None = AllServe t f x is (length is)
IsFirstLost t f x is (Some j) = (j < length is) × PlacesTold t f x is j false × AllServe t f x is j

-- the places of all instructions of the first n blocks admit choices, by the table
abbrev pub BlocksServe : Target → Function → Table → List Block → ℕ → Type 0
BlocksServe t f x bs n = (k : ℕ) (b : Block) → k < n → slice_get bs k ≡ Some b → AllServe t f x b.instrs (length b.instrs)

-- the name of the first instruction of these blocks one of whose places admits nothing
pub record LostAt (t : Target) (f : Function) (x : Table) (bs : List Block) (name : Place) : Type 0 where
  pub position : ℕ
  pub block : Block
  pub is_block : slice_get bs position ≡ Some block
  pub number : block.number ≡ name.block
  pub lost : IsFirstLost t f x block.instrs (Some name.at)
  pub before : BlocksServe t f x bs position

-- its name, if there is one
abbrev pub IsLost : Target → Function → Table → List Block → Option Place → Type 0
IsLost t f x bs None = BlocksServe t f x bs (length bs)
IsLost t f x bs (Some name) = LostAt t f x bs name

-- every place admits a choice
abbrev pub AllAdmit : Target → Function → Type 0
AllAdmit t f = (k j : ℕ) (p : Needs) → StandsAt t f k j p → Admits t f p

-- the name of the first place that admits none, if one does
abbrev pub IsRefused : Target → Function → Option Place → Type 0
IsRefused t f None = AllAdmit t f
IsRefused t f (Some name) = FirstPlace t f (λ q. Admits t f q → ⊥) name

-- the own place of each instruction admits a choice
abbrev pub OwnPlacesServe : Target → Function → Type 0
OwnPlacesServe t f = (k j : ℕ) (b : Block) (i : Instr) → slice_get f.blocks k ≡ Some b → slice_get b.instrs j ≡ Some i → (p : Needs) → Among p (own_places t f b j i) → Admits t f p
