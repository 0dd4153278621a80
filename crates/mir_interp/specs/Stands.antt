-- Environments that stand for a world and a function through a number of counted instructions.
use Rattle.std.specs.Prelude.{◌≡◌, ◌<◌, ◌^◌, ◌%◌, ℕ, Bool, true, false, cond, List, [], ◌∷◌, ◌++◌, map, filter_map, flat_map, Option, Some, None, slice_get}
use Rattle.std.specs.List.{list_any}
use Rattle.target_base.specs.declared.types.Unit.{Unit as UnitNumber}
use Rattle.target_base.specs.Numbers.{unit_number}
use Rattle.target_base.specs.Storage.{same_numbers}
use Rattle.mir_func.specs.declared.func.Operand.{Operand}
use Rattle.mir_func.specs.declared.func.Operand.TheVariants as operands
use Rattle.mir_func.specs.declared.func.Instr.{Instr}
use Rattle.mir_func.specs.Value.{Function}
use Rattle.meaning.specs.Environment.{Environment, modulo, entry_value, byte_of, number_at, address_of, answer}
use Rattle.meaning.specs.Perform as meaning
use Rattle.meaning.specs.Code.{Run}
use Rattle.mir_interp.specs.declared.types.Event.{Event}
use Rattle.mir_interp.specs.declared.types.Event.TheVariants as events
use Rattle.mir_interp.specs.declared.types.End.{End}
use Rattle.mir_interp.specs.declared.types.End.TheVariants as ends
use Rattle.mir_interp.specs.declared.types.Outcome.{Outcome}

-- what a world gives
pub record Given : Type 0 where
  pub entry : UnitNumber → Option ℕ
  pub byte : ℕ → ℕ
  pub frame : Bool → ℕ → ℕ
  pub symbol : ℕ → ℕ
  pub answer : ℕ → ℕ → ℕ

-- a world by the meanings of its methods
abbrev pub given_by : {W : Type 0} → (W → UnitNumber → Option ℕ) → (W → ℕ → ℕ) → (W → Bool → ℕ → ℕ) → (W → ℕ → ℕ) → (W → ℕ → ℕ → ℕ) → W → Given
given_by entry byte frame symbol answer w = record { entry = entry w; byte = byte w; frame = frame w; symbol = symbol w; answer = answer w }

-- the symbols of operands, in order
abbrev pub symbol_in : Operand → Option (List ℕ)
symbol_in (operands.Symbol name) = Some name
symbol_in _ = None

-- the names that appear, each once
abbrev pub first_seen : List (List ℕ) → List (List ℕ) → List (List ℕ)
first_seen seen [] = seen
first_seen seen (x ∷ xs) = first_seen (cond (list_any (same_numbers x) seen) seen (seen ++ x ∷ [])) xs

abbrev pub symbols_in : List Operand → List (List ℕ)
symbols_in os = filter_map symbol_in os

abbrev pub symbols_among : List Instr → List (List ℕ)
symbols_among is = flat_map (λ i. symbols_in i.operands) is

-- the symbols of a function by first appearance
abbrev pub symbols_of : Function → List (List ℕ)
symbols_of f = first_seen [] (flat_map (λ b. symbols_among b.instrs) f.blocks)

-- The environment gives what the world gives, at all that a run through n counted instructions may read: units
-- modulo their widths, addresses modulo 2^64, answers modulo the widths of their lanes.
pub record Stands (w : Given) (symbols : List (List ℕ)) (n : ℕ) (env : Environment) : Type 0 where
  pub entry : (u width : ℕ) → u < 2 ^ 16 → entry_value env width u ≡ modulo width (w.entry (unit_number u))
  pub byte : (a : ℕ) → a < 2 ^ 128 → byte_of env a ≡ w.byte a
  pub stack : (k : ℕ) → k < 2 ^ 32 → number_at env.stack k % 2 ^ 64 ≡ w.frame false k % 2 ^ 64
  pub fixed_stack : (k : ℕ) → k < 2 ^ 32 → number_at env.fixed_stack k % 2 ^ 64 ≡ w.frame true k % 2 ^ 64
  pub symbol : (m : ℕ) (name : List ℕ) → slice_get symbols m ≡ Some name → address_of env.symbols name % 2 ^ 64 ≡ w.symbol m % 2 ^ 64
  pub answer : (k j width : ℕ) → k < n → j < 2 ^ 64 → answer env k j width ≡ w.answer k j % 2 ^ width

-- the environment stands for the world and the function through n
abbrev pub StandsFor : Given → Function → ℕ → Environment → Type 0
StandsFor w f n env = Stands w (symbols_of f) n env

abbrev pub event_of : Event → meaning.Event
event_of (events.Call name lanes) = meaning.CallEvent name lanes
event_of (events.Store a lanes) = meaning.StoreEvent a lanes
event_of (events.Return lanes) = meaning.ReturnEvent lanes
event_of (events.Opaque name lanes) = meaning.OpaqueEvent name lanes

abbrev pub end_of : End → meaning.End
end_of ends.Returned = meaning.Returned
end_of ends.Trapped = meaning.Trapped
end_of ends.Undefined = meaning.Undefined
end_of ends.Steps = meaning.Steps

-- the outcome has the events and the end of the run
pub record Answers (o : Outcome) (r : Run) : Type 0 where
  pub events : map event_of o.events ≡ r.events
  pub end : end_of o.end ≡ r.end
