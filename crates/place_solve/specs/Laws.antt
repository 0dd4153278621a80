-- What the tests of places by a computed table of live lanes say of a function.
use Rattle.std.specs.Borrow.{Bor}
use Rattle.std.specs.Prelude.{◌≡◌, ◌↔◌, ℕ, false, true, List, Some, slice_get}
use Rattle.target_base.specs.declared.types.Target.{Target}
use Rattle.meaning.specs.Live.{Among as Member}
use Rattle.mir_func.specs.declared.func.Block.{Block}
use Rattle.mir_func.specs.declared.func.Instr.{Instr}
use Rattle.mir_func.specs.Value.{Function}
use Rattle.target_base.specs.declared.types.Effect.{Effect}
use Rattle.target_base.specs.Roles.{is_silent}
use Rattle.mir_func.specs.Binding.{effect_of}
use Rattle.mir_meaning.specs.Points.{Point}
use Rattle.place_solve.specs.declared.position.PlacePosition.TheVariants as arounds
use Rattle.mir_meaning.specs.Places.{Variable as Need, Needs, Admits, copy_place, lowering_places, own_places, place_of}
use Rattle.mir_meaning.specs.Rules.{V8}
use Rattle.live_laws.specs.Effects.Coded.{KeepsRules}
use Rattle.live_lanes.specs.declared.table.Table.{Table}
use Rattle.live_lanes.specs.Doing.{IsComputed}
use Rattle.place_solve.specs.Own.{own_instrs}
use Rattle.place_solve.specs.Told.{is_solved, copy_solved, own_solved, around_of, IsPoint, IsSource, Seated}

-- the place of a copy admits a choice just where one serves by the table
abbrev pub CopyLaw : Type 0
CopyLaw =
    (t : Target) (f : Function) (x : Table) → IsComputed t f x → KeepsRules t f → ((b : Block) (j : ℕ) (i : Instr) → Member b f.blocks → slice_get b.instrs j ≡ Some i → V8 t b j i ≡ true)
    → (vs : List Need) (q : Point) → IsPoint t f q → (is_solved t x (around_of q) vs ≡ true) ↔ Admits t f (copy_place vs q)

-- so does the place of counted instructions
abbrev pub PlaceLaw : Type 0
PlaceLaw =
    (t : Target) (f : Function) (x : Table) → IsComputed t f x → KeepsRules t f → ((b : Block) (j : ℕ) (i : Instr) → Member b f.blocks → slice_get b.instrs j ≡ Some i → V8 t b j i ≡ true)
    → (is : Bor (List Instr)) → ((i : Instr) → Member i is.now → (s : Seated t f i) × (e : Effect) × (effect_of t i ≡ Some e) × (is_silent e ≡ false))
    → (is_solved t x (arounds.Instrs is) (place_of t f is.now).variables ≡ true) ↔ Admits t f (place_of t f is.now)

-- the own place of the instruction at j of block k admits a choice just where one serves by the table
abbrev pub OwnLaw : Type 0
OwnLaw =
    (t : Target) (f : Function) (x : Table) → IsComputed t f x → IsSource t f
    → (k j : ℕ) (b : Block) (i : Instr) → slice_get f.blocks k ≡ Some b → slice_get b.instrs j ≡ Some i
    → (is : Bor (List Instr)) → is.now ≡ own_instrs t b.instrs j → (own_solved t f x is ≡ true) ↔ ((p : Needs) → Member p (own_places t f b j i) → Admits t f p)

-- so does each place of a copy that lowering makes of it
abbrev pub LoweredLaw : Type 0
LoweredLaw =
    (t : Target) (f : Function) (x : Table) → IsComputed t f x → IsSource t f
    → (k j : ℕ) (b : Block) (i : Instr) → slice_get f.blocks k ≡ Some b → slice_get b.instrs j ≡ Some i
    → (p : Needs) → Member p (lowering_places t f i) → (copy_solved t x p ≡ true) ↔ Admits t f p
