-- What a counted instruction does with the values that it reads. It sees no register: an immediate operand
-- is read as bits of a constant, as many as the definition (for a comparison the first operand) has, and a base
-- that is a frame object or a symbol as the 64 bits of its address. A conditional jump reads one flag.
use Rattle.std.specs.Prelude.{ℕ, zero, suc, ◌+◌, ◌-◌, ◌*◌, ◌/◌, ◌%◌, ◌^◌, ℤ, Bool, true, false, cond, not, ◌&&◌, ◌||◌, is_none, nat_eq, nat_lt, bit_and, bit_or, bit_xor, List, [], ◌∷◌, ◌++◌, Some, None, sum}
use Rattle.std.specs.List.{list_any}
use Rattle.target_base.specs.declared.types.Effect.TheVariants as effects
use Rattle.target_base.specs.declared.types.OpaqueKind.{OpaqueKind}
use Rattle.target_base.specs.declared.types.OpaqueKind.TheVariants as kinds
use Rattle.meaning.specs.Environment.{Environment, Value, byte_of, answer, residue}
pub use Rattle.meaning.specs.declared.types.Rest.{Rest}

pub data Event : Type 0 where
  CallEvent : (symbol : List ℕ) (lanes : List Value) → Event
  StoreEvent : (address : ℕ) (lanes : List Value) → Event
  ReturnEvent : (lanes : List Value) → Event
  OpaqueEvent : (name : List ℕ) (lanes : List Value) → Event

pub data End : Type 0 where
  Returned Trapped Undefined Steps : End

-- what lies outside the lanes: the bytes stored so far, the newest first, and how many answers the world has given
pub record Outside : Type 0 where
  pub bytes : List (ℕ × Value)
  pub calls : ℕ

-- on in order, to the branch target, or no further
pub data Control : Type 0 where
  Next Taken : Control
  Stop : End → Control

pub record Performed : Type 0 where
  pub results : List Value
  pub outside : Outside
  pub events : List Event
  pub control : Control
  -- no divisor that was read had an Undef lane
  pub divisor_defined : Bool

-- lanes of these widths as one number, lane 0 lowest
abbrev pub joined : List ℕ → List Value → Value
joined [] vs = Some 0
joined (w ∷ ws) [] = None
joined (w ∷ ws) (None ∷ vs) = None
joined (w ∷ ws) (Some n ∷ vs) = elim (joined ws vs) [ None ↦ None | Some m ↦ Some (n + 2 ^ w * m) ]

-- a number as lanes of these widths
abbrev pub cut : List ℕ → ℕ → List Value
cut [] n = []
cut (w ∷ ws) n = Some (n % 2 ^ w) ∷ cut ws (n / 2 ^ w)

-- an Undef result makes all its lanes Undef
abbrev pub given : List ℕ → Value → List Value
given ws None = []
given ws (Some n) = cut ws n

-- operand n as one number
abbrev pub operand : List (List ℕ) → List (List Value) → ℕ → Value
operand [] vs n = None
operand (w ∷ ws) [] n = None
operand (w ∷ ws) (v ∷ vs) zero = joined w v
operand (w ∷ ws) (v ∷ vs) (suc n) = operand ws vs n

abbrev pub widths_of : List (List ℕ) → ℕ → List ℕ
widths_of [] n = []
widths_of (w ∷ ws) zero = w
widths_of (w ∷ ws) (suc n) = widths_of ws n

abbrev pub lanes_of : List (List Value) → ℕ → List Value
lanes_of [] n = []
lanes_of (v ∷ vs) zero = v
lanes_of (v ∷ vs) (suc n) = lanes_of vs n

abbrev pub all_lanes : List (List Value) → List Value
all_lanes [] = []
all_lanes (v ∷ vs) = v ++ all_lanes vs

abbrev pub applied : Value → (ℕ → ℕ) → Value
applied None f = None
applied (Some a) f = Some (f a)

abbrev pub combined : Value → Value → (ℕ → ℕ → ℕ) → Value
combined None b f = None
combined (Some a) None f = None
combined (Some a) (Some b) f = Some (f a b)

abbrev pub computed : List Value → Outside → Performed
computed vs o = record { results = vs; outside = o; events = []; control = Next; divisor_defined = true }

abbrev pub stopped : Outside → End → Performed
stopped o e = record { results = []; outside = o; events = []; control = Stop e; divisor_defined = true }

-- the bits of a definition
abbrev pub width : Rest → ℕ
width r = sum r.result

-- f is told the width; the result is taken modulo 2 ^ width
abbrev pub unary : Rest → Outside → List (List Value) → (ℕ → ℕ → ℕ) → Performed
unary r o vs f = computed (given r.result (applied (operand r.widths vs 0) (λ a. f (width r) a % 2 ^ width r))) o

abbrev pub binary : Rest → Outside → List (List Value) → (ℕ → ℕ → ℕ → ℕ) → Performed
binary r o vs f = computed (given r.result (combined (operand r.widths vs 0) (operand r.widths vs 1) (λ a b. f (width r) a b % 2 ^ width r))) o

abbrev pub ternary : Rest → Outside → List (List Value) → Performed
ternary r o vs =
    let product = combined (operand r.widths vs 0) (operand r.widths vs 1) (λ a b. a * b) in
    computed (given r.result (combined product (operand r.widths vs 2) (λ m c. (m + c) % 2 ^ width r))) o

-- a divisor of 0 traps, whatever the dividend holds
abbrev pub divided : Rest → Outside → (ℕ → ℕ → ℕ) → Value → Value → Performed
divided r o f a None = record { results = []; outside = o; events = []; control = Next; divisor_defined = false }
divided r o f a (Some b) = cond (nat_eq b 0) (stopped o Trapped) (computed (given r.result (combined a (Some b) f)) o)

abbrev pub division : Rest → Outside → List (List Value) → (ℕ → ℕ → ℕ) → Performed
division r o vs f = divided r o f (operand r.widths vs 0) (operand r.widths vs 1)

-- shifted right by s, filled with the top bit of w bits
abbrev pub shifted_signed : ℕ → ℕ → ℕ → ℕ
shifted_signed w a s = cond (nat_lt a (2 ^ (w - 1))) (a / 2 ^ s) ((a + (2 ^ (w + w) - 2 ^ w)) / 2 ^ s)

-- a number of so many bits, widened to others with the top bit
abbrev pub widened : ℕ → ℕ → ℕ → ℕ
widened from to n = cond (nat_lt n (2 ^ (from - 1))) n (n + (2 ^ to - 2 ^ from))

-- a number of w bits as a signed one, moved up by 2 ^ (w - 1), which keeps the order
abbrev pub biased : ℕ → ℕ → ℕ
biased w n = (n + 2 ^ (w - 1)) % 2 ^ w

abbrev pub flag : Bool → Value
flag b = Some (cond b 1 0)

-- the flags of a comparison at width w: equal, signed less, unsigned less
abbrev pub compared : ℕ → Value → Value → List Value
compared w None b = []
compared w (Some x) None = []
compared w (Some x) (Some y) = flag (nat_eq x y) ∷ flag (nat_lt (biased w x) (biased w y)) ∷ flag (nat_lt x y) ∷ []

-- the flag that a condition reads: 2 and 3 unsigned less, 4 and 5 equal, 12 and 13 signed less
abbrev pub condition_lane : ℕ → ℕ
condition_lane c = cond (nat_lt c 4) 2 (cond (nat_lt c 6) 0 1)

-- an even condition asks that its flag is set, the odd one above it that it isn't
abbrev pub holds : ℤ → ℕ → Bool
holds c n = nat_eq (n % 2) (1 - residue c 1)

-- a branch that is taken where the number passes the test
abbrev pub branch : Outside → (ℕ → Bool) → Value → Performed
branch o test None = stopped o Undefined
branch o test (Some n) = record { results = []; outside = o; events = []; control = cond (test n) Taken Next; divisor_defined = true }

abbrev pub byte_at : Environment → List (ℕ × Value) → ℕ → Value
byte_at env [] a = Some (byte_of env a)
byte_at env (b ∷ bs) a = cond (nat_eq b.0 a) b.1 (byte_at env bs a)

-- so many bytes from an address on as one number, the lowest first; addresses count modulo 2 ^ w
abbrev pub loaded_bytes : Environment → Outside → ℕ → ℕ → ℕ → Value
loaded_bytes env o w a zero = Some 0
loaded_bytes env o w a (suc n) = combined (byte_at env o.bytes (a % 2 ^ w)) (loaded_bytes env o w (a + 1) n) (λ b m. b + 256 * m)

abbrev pub loaded : Environment → Outside → ℕ → ℕ → List ℕ → List Value
loaded env o w a [] = []
loaded env o w a (l ∷ ls) = loaded_bytes env o w a (l / 8) ∷ loaded env o w (a + l / 8) ls

abbrev pub low_byte : Value → Value
low_byte None = None
low_byte (Some n) = Some (n % 256)

abbrev pub high_bytes : Value → Value
high_bytes None = None
high_bytes (Some n) = Some (n / 256)

-- the bytes stored so far after so many bytes of a value, the lowest first
abbrev pub stored_bytes : ℕ → ℕ → Value → ℕ → List (ℕ × Value) → List (ℕ × Value)
stored_bytes w a v zero bs = bs
stored_bytes w a v (suc n) bs = stored_bytes w (a + 1) (high_bytes v) n ((a % 2 ^ w, low_byte v) ∷ bs)

abbrev pub stored : ℕ → ℕ → List ℕ → List Value → List (ℕ × Value) → List (ℕ × Value)
stored w a [] vs bs = bs
stored w a (l ∷ ls) [] bs = bs
stored w a (l ∷ ls) (v ∷ vs) bs = stored w (a + l / 8) ls vs (stored_bytes w a v (l / 8) bs)

-- the bits of the base, which is operand 0 of a load or a store: 64 where it is no register
abbrev pub base_width : Rest → ℕ
base_width r = sum (widths_of r.widths 0)

-- the offset counts in units of `scale` bytes
abbrev pub address : Rest → ℕ → ℕ → ℕ
address r scale base = (base + residue r.immediate (base_width r) * scale) % 2 ^ base_width r

abbrev pub load_at : Rest → Environment → Outside → ℕ → Value → Performed
load_at r env o scale None = stopped o Undefined
load_at r env o scale (Some base) = computed (loaded env o (base_width r) (address r scale base) r.result) o

-- what is stored is operand 1
abbrev pub store_at : Rest → Outside → ℕ → List Value → Value → Performed
store_at r o scale lanes None = stopped o Undefined
store_at r o scale lanes (Some base) =
    let a = address r scale base in
    record {
      results = [];
      outside = record { bytes = stored (base_width r) a (widths_of r.widths 1) lanes o.bytes; calls = o.calls };
      events = StoreEvent a lanes ∷ [];
      control = Next;
      divisor_defined = true;
    }

-- the lanes of the answer to call k from lane j on
abbrev pub answers : Environment → ℕ → ℕ → List ℕ → List Value
answers env k j [] = []
answers env k j (w ∷ ws) = Some (answer env k j w) ∷ answers env k (j + 1) ws

abbrev pub call_symbol : Rest → Environment → Outside → List (List Value) → Performed
call_symbol r env o vs = record {
  results = answers env o.calls 0 r.result;
  outside = record { bytes = o.bytes; calls = o.calls + 1 };
  events = CallEvent r.symbol (all_lanes vs) ∷ [];
  control = Next;
  divisor_defined = true;
}

-- some lane is Undef
abbrev pub has_undef : List Value → Bool
has_undef vs = list_any is_none vs

-- an operand that has to be defined has an Undef lane
abbrev pub lacks : List Bool → List (List Value) → Bool
lacks [] vs = false
lacks (n ∷ ns) [] = false
lacks (n ∷ ns) (v ∷ vs) = (n && has_undef v) || lacks ns vs

-- an opaque branch is taken where lane 0 of the answer is no multiple of 3; any other opaque instruction goes on
abbrev pub answered_control : OpaqueKind → Environment → ℕ → Control
answered_control kinds.Branch env k = cond (nat_eq (answer env k 0 8 % 3) 0) Next Taken
answered_control kind env k = Next

-- the first lane of the answer that is written
abbrev pub first_answer : OpaqueKind → ℕ
first_answer kinds.Branch = 1
first_answer kind = 0

-- An opaque instruction shows the world its name and what it reads, and takes what it writes from the world's answer; a
-- return ends the run.
abbrev pub shown : OpaqueKind → Rest → Environment → Outside → List (List Value) → Performed
shown kinds.Return r env o vs = record { results = []; outside = o; events = OpaqueEvent r.symbol (all_lanes vs) ∷ []; control = Stop Returned; divisor_defined = true }
shown kind r env o vs = record {
  results = answers env o.calls (first_answer kind) r.result;
  outside = record { bytes = o.bytes; calls = o.calls + 1 };
  events = OpaqueEvent r.symbol (all_lanes vs) ∷ [];
  control = answered_control kind env o.calls;
  divisor_defined = true;
}

-- it isn't done where an address that it reads is Undef
abbrev pub opaque_shown : OpaqueKind → Rest → Environment → Outside → List (List Value) → Performed
opaque_shown kind r env o vs = cond (lacks r.needed vs) (stopped o Undefined) (shown kind r env o vs)

unfoldable pub perform : Rest → Environment → Outside → List (List Value) → Performed
perform r env o vs = elim r.effect [
  | effects.Add ↦ binary r o vs (λ w a b. a + b)
  | effects.Sub ↦ binary r o vs (λ w a b. a + (2 ^ w - b))
  | effects.Mul ↦ binary r o vs (λ w a b. a * b)
  | effects.And ↦ binary r o vs (λ w a b. bit_and a b)
  | effects.Or ↦ binary r o vs (λ w a b. bit_or a b)
  | effects.Xor ↦ binary r o vs (λ w a b. bit_xor a b)
  | effects.Shl ↦ binary r o vs (λ w a b. a * 2 ^ (b % w))
  | effects.Shr ↦ binary r o vs (λ w a b. a / 2 ^ (b % w))
  | effects.Sar ↦ binary r o vs (λ w a b. shifted_signed w a (b % w))
  | effects.Neg ↦ unary r o vs (λ w a. 2 ^ w - a)
  | effects.Not ↦ unary r o vs (λ w a. 2 ^ w - 1 - a)
  | effects.Udiv ↦ division r o vs (λ a b. a / b)
  | effects.Urem ↦ division r o vs (λ a b. a % b)
  | effects.Madd ↦ ternary r o vs
  | effects.Zext ↦ unary r o vs (λ w a. a)
  | effects.Sext ↦ unary r o vs (λ w a. widened (sum (widths_of r.widths 0)) w a)
  | effects.Cmp ↦ computed (compared (sum (widths_of r.widths 0)) (operand r.widths vs 0) (operand r.widths vs 1)) o
  | effects.Load scale ↦ load_at r env o scale (operand r.widths vs 0)
  | effects.Store scale ↦ store_at r o scale (lanes_of vs 1) (operand r.widths vs 0)
  | effects.Jump ↦ record { results = []; outside = o; events = []; control = Taken; divisor_defined = true }
  | effects.Jcc ↦ branch o (holds r.immediate) (operand r.widths vs 0)
  | effects.Jnz ↦ branch o (λ n. not (nat_eq n 0)) (operand r.widths vs 0)
  | effects.Call ↦ call_symbol r env o vs
  | effects.Ret ↦ record { results = []; outside = o; events = ReturnEvent (all_lanes vs) ∷ []; control = Stop Returned; divisor_defined = true }
  | effects.Opaque kind ↦ opaque_shown kind r env o vs
  | _ ↦ computed [] o
]
