-- Effects by what they ask, and what an instruction is to give.
use Rattle.std.specs.Prelude.{◌≡◌, ℕ, ◌+◌, ◌-◌, ◌*◌, ◌/◌, ◌%◌, ◌^◌, Bool, true, cond, bit_and, bit_or, bit_xor, List, [], ◌∷◌, ◌++◌, map, Option, Some, None}
use Rattle.target_base.specs.declared.types.Effect.{Effect}
use Rattle.target_base.specs.declared.types.Effect.TheVariants as effects
use Rattle.meaning.specs.Environment.{Environment, Value}
use Rattle.meaning.specs.Perform.{shifted_signed, widened, answers, first_answer, answered_control, all_lanes, OpaqueEvent}
use Rattle.meaning.specs.declared.types.Rest.{Rest}
use Rattle.target_base.specs.declared.types.OpaqueKind.{OpaqueKind}
use Rattle.meaning.specs.Perform as meaning
use Rattle.mir_interp.specs.declared.types.Event.{Event}
use Rattle.mir_interp.specs.declared.types.End.TheVariants as ends
use Rattle.mir_interp.specs.declared.external.ExternalState.{ExternalState}
use Rattle.mir_interp.specs.declared.perform.EffectKind.{EffectKind}
use Rattle.mir_interp.specs.declared.perform.EffectKind.TheVariants as kinds
use Rattle.mir_interp.specs.declared.perform.Control.{Control}
use Rattle.mir_interp.specs.declared.perform.Control.TheVariants as controls
use Rattle.mir_interp.specs.Stands.{event_of, end_of}
use Rattle.mir_interp.specs.Remembers.{Remembers}

abbrev pub kind_of : Effect → EffectKind
kind_of effects.Add = kinds.Binary
kind_of effects.Sub = kinds.Binary
kind_of effects.Mul = kinds.Binary
kind_of effects.And = kinds.Binary
kind_of effects.Or = kinds.Binary
kind_of effects.Xor = kinds.Binary
kind_of effects.Shl = kinds.Binary
kind_of effects.Shr = kinds.Binary
kind_of effects.Sar = kinds.Binary
kind_of effects.Neg = kinds.Unary
kind_of effects.Not = kinds.Unary
kind_of effects.Zext = kinds.Unary
kind_of effects.Sext = kinds.Unary
kind_of effects.Udiv = kinds.Division
kind_of effects.Urem = kinds.Division
kind_of effects.Madd = kinds.Ternary
kind_of effects.Cmp = kinds.Comparison
kind_of (effects.Load scale) = kinds.Loading scale
kind_of (effects.Store scale) = kinds.Storing scale
kind_of effects.Jump = kinds.Jumping
kind_of effects.Jcc = kinds.OnFlag
kind_of effects.Jnz = kinds.OnNumber
kind_of effects.Call = kinds.Calling
kind_of effects.Ret = kinds.Returning
kind_of (effects.Opaque kind) = kinds.Opaque kind
kind_of _ = kinds.Idle

-- a number of two numbers, modulo 2 ^ w
abbrev pub two : Effect → ℕ → ℕ → ℕ → ℕ
two effects.Add w a b = (a + b) % 2 ^ w
two effects.Sub w a b = (a + (2 ^ w - b)) % 2 ^ w
two effects.Mul w a b = a * b % 2 ^ w
two effects.And w a b = bit_and a b % 2 ^ w
two effects.Or w a b = bit_or a b % 2 ^ w
two effects.Xor w a b = bit_xor a b % 2 ^ w
two effects.Shl w a b = a * 2 ^ (b % w) % 2 ^ w
two effects.Shr w a b = a / 2 ^ (b % w) % 2 ^ w
two _ w a b = shifted_signed w a (b % w) % 2 ^ w

-- a number of a number of so many bits, modulo 2 ^ w
abbrev pub one : Effect → ℕ → ℕ → ℕ → ℕ
one effects.Neg from w a = (2 ^ w - a) % 2 ^ w
one effects.Not from w a = (2 ^ w - 1 - a) % 2 ^ w
one effects.Sext from w a = widened from w a % 2 ^ w
one _ from w a = a % 2 ^ w

abbrev pub quotient : Effect → ℕ → ℕ → ℕ
quotient effects.Udiv a b = a / b
quotient _ a b = a % b

abbrev pub control_of : Control → meaning.Control
control_of controls.Next = meaning.Next
control_of controls.Taken = meaning.Taken
control_of (controls.Stop e) = meaning.Stop (end_of e)

-- an opaque instruction that takes an answer: all but a return
abbrev pub asked : OpaqueKind → Rest → Environment → meaning.Outside → List (List Value) → meaning.Performed
asked kind r env o vs = record {
  results = answers env o.calls (first_answer kind) r.result;
  outside = record { bytes = o.bytes; calls = o.calls + 1 };
  events = OpaqueEvent r.symbol (all_lanes vs) ∷ [];
  control = answered_control kind env o.calls;
  divisor_defined = true;
}

-- where a branch goes whose test may be Undef
abbrev pub if_some : Option Bool → Control
if_some None = controls.Stop ends.Undefined
if_some (Some b) = cond b controls.Taken controls.Next

-- an instruction gave these lanes and this control, and did nothing to the outside
pub record Pure (p : List Value × Control) (o : meaning.Outside) (d : meaning.Performed) : Type 0 where
  pub results : p.0 ≡ d.results
  pub control : control_of p.1 ≡ d.control
  pub outside : d.outside ≡ o
  pub events : d.events ≡ []

-- an instruction gave these lanes and this control, left this outside, and added to the events
pub record Did (env : Environment) (p : List Value × Control) (m : ExternalState) (old new : List Event) (d : meaning.Performed) : Type 0 where
  pub results : p.0 ≡ d.results
  pub control : control_of p.1 ≡ d.control
  pub outside : Remembers env m d.outside
  pub events : map event_of new ≡ map event_of old ++ d.events

-- the test of a number, where there is one
abbrev pub passes : (ℕ → Bool) → Value → Option Bool
passes test None = None
passes test (Some n) = Some (test n)
