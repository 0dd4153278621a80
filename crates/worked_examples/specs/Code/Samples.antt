-- Small functions, written out by hand. Units are numbered as in the target `mini`: 0 to 2 are $eax, 3 to 5 $ecx,
-- 12 to 14 the flags, 15 the stack pointer.
use Rattle.std.specs.Prelude.{ℕ, zero, suc, ℤ, pos, true, false, List, [], ◌∷◌, Option, Some, None, nat_eq, nat_lt, cond, codes}
use Rattle.target_base.specs.declared.types.Effect.{Effect}
use Rattle.target_base.specs.declared.types.Effect.TheVariants as effects
use Rattle.target_base.specs.declared.types.OpaqueKind.{OpaqueKind}
use Rattle.target_base.specs.declared.types.OpaqueKind.TheVariants as kinds
use Rattle.meaning.specs.declared.types.Lane.{Lane}
use Rattle.meaning.specs.declared.types.Lane.TheVariants.{VirtualLane, UnitLane, SlotLane}
use Rattle.meaning.specs.declared.types.Source.{Source}
use Rattle.meaning.specs.declared.types.Source.TheVariants.{FromLane, Undef, Bits}
use Rattle.meaning.specs.declared.types.Fill.TheVariants.{Moved, Computed}
use Rattle.meaning.specs.declared.types.Constant.TheVariants.{Immediate}
use Rattle.meaning.specs.declared.types.Write.{Write}
use Rattle.meaning.specs.declared.types.Rest.{Rest}
use Rattle.meaning.specs.Lanes.{Writes, Reads}
use Rattle.meaning.specs.Environment.{Environment}
use Rattle.meaning.specs.Code.{Edge, Item, BlockStart, BlockEnd, Silent, Counted, Code, Given, Function}

abbrev pub nothing : Environment
nothing = record { entry = []; bytes = []; stack = []; fixed_stack = []; symbols = []; answers = [] }

-- unit u holds u + 1, byte a is 5, and calls answer 7, 8
abbrev pub seeded : Environment
seeded = record nothing {
  entry = (0, Some 1) ∷ (1, Some 2) ∷ (2, Some 3) ∷ (3, Some 4) ∷ [];
  bytes = (16, 5) ∷ (17, 5) ∷ [];
  answers = (7 ∷ 8 ∷ []) ∷ [];
}

-- the first answer is 9, the second 4
abbrev pub answering : Environment
answering = record nothing { answers = (9 ∷ []) ∷ (4 ∷ []) ∷ [] }

-- these units have 8 bits, but unit 2 and 5 have 16, the flags 1, and the stack pointer 32
abbrev pub unit_bits : ℕ → ℕ
unit_bits u = cond (nat_eq u 2) 16 (cond (nat_eq u 5) 16 (cond (nat_eq u 15) 32 (cond (nat_lt u 12) 8 1)))

abbrev pub given_all : Given
given_all u = Some (unit_bits u)

abbrev pub given_none : Given
given_none u = None

abbrev pub function : Given → Code → Function
function given code = record { code = code; given = given }

abbrev pub op : Effect → List (List ℕ) → List ℕ → ℤ → Rest
op e widths result immediate = record { effect = e; widths = widths; result = result; immediate = immediate; symbol = []; needed = [] }

abbrev pub byte : List ℕ
byte = 8 ∷ []

-- lane 0 of virtual register v
abbrev pub reg : ℕ → Lane
reg v = VirtualLane v 0

abbrev pub from : Lane → List Source
from l = FromLane l ∷ []

abbrev pub write : Lane → Source → Write
write l s = record { lane = l; fill = Moved s; early = false }

abbrev pub result : Lane → ℕ → Write
result l i = record { lane = l; fill = Computed i; early = false }

abbrev pub move : Lane → Source → Item
move l s = Silent [] (write l s ∷ [])

-- a number of 8 bits
abbrev pub number : ℕ → Source
number n = Bits (Immediate n) 0 8

-- one block of these items
abbrev pub block : Code → Code
block [] = BlockEnd None [] ∷ []
block (i ∷ p) = i ∷ block p

abbrev pub body : Code → Code
body p = BlockStart 0 ∷ block p

abbrev pub plain_edge : ℕ → Edge
plain_edge n = record { block = n; phis = [] }

abbrev pub ret : Reads → Item
ret reads = Counted (op effects.Ret [] [] (pos 0)) reads [] None []

-- a call that keeps no unit but those of the caller, and answers nothing
abbrev pub call_nothing : Item
call_nothing = Counted (op effects.Call [] [] (pos 0)) [] [] None []

abbrev pub three : List ℕ
three = 8 ∷ 8 ∷ 16 ∷ []

abbrev pub lanes_of_reg : ℕ → List Source
lanes_of_reg v = FromLane (VirtualLane v 0) ∷ FromLane (VirtualLane v 1) ∷ FromLane (VirtualLane v 2) ∷ []

abbrev pub eax : List Source
eax = FromLane (UnitLane 0) ∷ FromLane (UnitLane 1) ∷ FromLane (UnitLane 2) ∷ []

abbrev pub add32 : Rest
add32 = op effects.Add (three ∷ three ∷ []) three (pos 0)

abbrev pub flags_lost : Writes
flags_lost = write (UnitLane 12) Undef ∷ write (UnitLane 13) Undef ∷ write (UnitLane 14) Undef ∷ []

-- %0 = COPY $eax; %1 = ADD32rr %0, %0, implicit-def $eflags; $eax = COPY %1; RET implicit $eax
abbrev pub tied_add : Function
tied_add = function given_all (body (
    Silent [] (write (VirtualLane 0 0) (FromLane (UnitLane 0)) ∷ write (VirtualLane 0 1) (FromLane (UnitLane 1)) ∷ write (VirtualLane 0 2) (FromLane (UnitLane 2)) ∷ [])
    ∷ Counted add32 (lanes_of_reg 0 ∷ lanes_of_reg 0 ∷ []) (result (VirtualLane 1 0) 0 ∷ result (VirtualLane 1 1) 1 ∷ result (VirtualLane 1 2) 2 ∷ flags_lost) None []
    ∷ Silent [] (write (UnitLane 0) (FromLane (VirtualLane 1 0)) ∷ write (UnitLane 1) (FromLane (VirtualLane 1 1)) ∷ write (UnitLane 2) (FromLane (VirtualLane 1 2)) ∷ [])
    ∷ ret (eax ∷ [])
    ∷ []))

-- $eax = ADD32rr $eax, $eax, implicit-def $eflags; RET implicit $eax
abbrev pub tied_add_allocated : Function
tied_add_allocated = function given_all (body (
    Counted add32 (eax ∷ eax ∷ []) (result (UnitLane 0) 0 ∷ result (UnitLane 1) 1 ∷ result (UnitLane 2) 2 ∷ flags_lost) None []
    ∷ ret (eax ∷ [])
    ∷ []))

abbrev pub divide : Source → Source → Item
divide a b = Counted (op effects.Udiv (byte ∷ byte ∷ []) byte (pos 0)) ((a ∷ []) ∷ (b ∷ []) ∷ []) (result (reg 0) 0 ∷ []) None []

-- a quotient of these, and its return
abbrev pub quotient : Source → Source → Function
quotient a b = function given_none (body (divide a b ∷ ret (from (reg 0) ∷ []) ∷ []))

abbrev pub three_of : Source → Source → Source → List Source
three_of a b c = a ∷ b ∷ c ∷ []

-- stores a register whose lane 1 is Undef at address 16, loads it back, and returns it
abbrev pub half_undefined : Function
half_undefined = function given_none (body (
    Counted (op (effects.Store 1) ((64 ∷ []) ∷ three ∷ []) [] (pos 0)) ((Bits (Immediate 16) 0 64 ∷ []) ∷ three_of (number 1) Undef (number 3) ∷ []) [] None []
    ∷ Counted (op (effects.Load 4) ((64 ∷ []) ∷ []) (8 ∷ 8 ∷ 8 ∷ 8 ∷ 8 ∷ []) (pos 0)) ((Bits (Immediate 16) 0 64 ∷ []) ∷ []) (result (VirtualLane 0 0) 0 ∷ result (VirtualLane 0 1) 1 ∷ result (VirtualLane 0 2) 2 ∷ result (VirtualLane 0 3) 3 ∷ result (VirtualLane 0 4) 4 ∷ []) None []
    ∷ ret ((FromLane (VirtualLane 0 0) ∷ FromLane (VirtualLane 0 1) ∷ FromLane (VirtualLane 0 2) ∷ FromLane (VirtualLane 0 3) ∷ FromLane (VirtualLane 0 4) ∷ []) ∷ [])
    ∷ []))

-- the way back into the loop: its two phis swap
abbrev pub swap : Edge
swap = record { block = 1; phis = write (reg 0) (FromLane (reg 1)) ∷ write (reg 1) (FromLane (reg 0)) ∷ [] }

abbrev pub into_swap : Edge
into_swap = record { block = 1; phis = write (reg 0) (number 1) ∷ write (reg 1) (number 2) ∷ [] }

abbrev pub two : Reads
two = from (reg 0) ∷ from (reg 1) ∷ []

-- a loop that gives its two registers to a call and swaps them by phis
abbrev pub swapping : Function
swapping = function given_none (
    BlockStart 0
    ∷ BlockEnd (Some into_swap.phis) (into_swap ∷ [])
    ∷ BlockStart 1
    ∷ Counted (op effects.Call (byte ∷ byte ∷ []) [] (pos 0)) two [] None []
    ∷ Counted (op effects.Jump [] [] (pos 0)) [] [] (Some swap) (swap ∷ [])
    ∷ BlockEnd None (swap ∷ [])
    ∷ [])

-- lanes 0 and 1 go to lanes 1 and 2, both at once
abbrev pub overlapping : Function
overlapping = function given_none (body (
    Silent [] (write (VirtualLane 0 0) (number 1) ∷ write (VirtualLane 0 1) (number 2) ∷ write (VirtualLane 0 2) (number 3) ∷ [])
    ∷ Silent [] (write (VirtualLane 0 1) (FromLane (VirtualLane 0 0)) ∷ write (VirtualLane 0 2) (FromLane (VirtualLane 0 1)) ∷ [])
    ∷ ret (lanes_of_reg 0 ∷ [])
    ∷ []))

-- a store in a slot at one width, and a reload at another
abbrev pub reloaded_at : ℕ → Function
reloaded_at width = function given_none (body (
    Silent [] (write (SlotLane 0 0 8) (number 9) ∷ write (SlotLane 0 0 16) Undef ∷ [])
    ∷ move (reg 0) (FromLane (SlotLane 0 0 width))
    ∷ ret (from (reg 0) ∷ [])
    ∷ []))

-- a call that answers units 0 and 1 and clobbers unit 3; unit 2 is kept
abbrev pub calling : Function
calling = function given_all (body (
    Counted (op effects.Call (byte ∷ []) (8 ∷ 8 ∷ []) (pos 0)) (from (UnitLane 0) ∷ []) (result (UnitLane 0) 0 ∷ result (UnitLane 1) 1 ∷ write (UnitLane 3) Undef ∷ []) None []
    ∷ ret ((FromLane (UnitLane 0) ∷ FromLane (UnitLane 1) ∷ FromLane (UnitLane 2) ∷ FromLane (UnitLane 3) ∷ []) ∷ [])
    ∷ []))

-- compares two bytes, and returns 1 where the condition holds, else 2
abbrev pub comparing : ℕ → ℕ → ℤ → ℕ → Function
comparing a b condition lane = function given_none (
    BlockStart 0
    ∷ Counted (op effects.Cmp (byte ∷ byte ∷ []) [] (pos 0)) ((number a ∷ []) ∷ (number b ∷ []) ∷ []) (result (UnitLane 12) 0 ∷ result (UnitLane 13) 1 ∷ result (UnitLane 14) 2 ∷ []) None []
    ∷ Counted (op effects.Jcc ((1 ∷ []) ∷ []) [] condition) (from (UnitLane lane) ∷ []) [] (Some (plain_edge 1)) (plain_edge 2 ∷ plain_edge 1 ∷ [])
    ∷ BlockEnd (Some []) (plain_edge 2 ∷ plain_edge 1 ∷ [])
    ∷ BlockStart 2
    ∷ ret ((number 2 ∷ []) ∷ [])
    ∷ BlockEnd None []
    ∷ BlockStart 1
    ∷ ret ((number 1 ∷ []) ∷ [])
    ∷ BlockEnd None []
    ∷ [])

abbrev pub returning : Source → Function
returning s = function given_none (body (ret ((s ∷ []) ∷ []) ∷ []))

abbrev pub marker : Item
marker = Counted (op effects.Marker [] [] (pos 0)) [] [] None []

-- a quotient that nothing reads
abbrev pub dividing : Source → Source → Function
dividing a b = function given_none (body (divide a b ∷ ret [] ∷ []))

-- so many markers, and a return
abbrev pub markers : ℕ → Code
markers zero = ret [] ∷ []
markers (suc n) = marker ∷ markers n

abbrev pub marking : ℕ → Function
marking n = function given_none (body (markers n))

-- a store of a byte at an address
abbrev pub storing : ℕ → Function
storing a = function given_none (body (Counted (op (effects.Store 1) ((64 ∷ []) ∷ byte ∷ []) [] (pos 0)) ((Bits (Immediate a) 0 64 ∷ []) ∷ (number 1 ∷ []) ∷ []) [] None [] ∷ ret [] ∷ []))

-- a call of the function of that name
abbrev pub calling_name : List ℕ → Function
calling_name name = function given_none (body (Counted (record { effect = effects.Call; widths = []; result = []; immediate = pos 0; symbol = name; needed = [] }) [] [] None [] ∷ ret [] ∷ []))

-- a branch on an Undef register, to the next block
abbrev pub branching : Function
branching = function given_none (
    BlockStart 0
    ∷ Counted (op effects.Jnz (byte ∷ []) [] (pos 0)) ((Undef ∷ []) ∷ []) [] (Some (plain_edge 1)) (plain_edge 1 ∷ [])
    ∷ BlockEnd (Some []) (plain_edge 1 ∷ [])
    ∷ BlockStart 1
    ∷ ret []
    ∷ BlockEnd None []
    ∷ [])

-- what opaque instructions show of themselves here
abbrev pub name : List ℕ
name = codes "ASK"

-- an opaque instruction of these operands, the last of which has to be defined, and what it writes; the way to its target
abbrev pub opaque : OpaqueKind → Reads → List ℕ → Writes → Option Edge → Item
opaque kind reads lanes ws target = Counted (record { effect = effects.Opaque kind; widths = []; result = lanes; immediate = pos 0; symbol = name; needed = false ∷ true ∷ [] }) reads ws target []

-- gives an operand, and one that has to be defined, to an opaque instruction; returns the two lanes that it is answered
abbrev pub asking : Source → Source → Function
asking s address = function given_none (body (
    opaque kinds.Plain ((s ∷ []) ∷ (address ∷ []) ∷ []) (8 ∷ 8 ∷ []) (result (reg 0) 0 ∷ result (reg 1) 1 ∷ []) None
    ∷ ret (from (reg 0) ∷ from (reg 1) ∷ [])
    ∷ []))

-- an opaque branch that defines a register, an opaque return behind its target, and a return of 2 else
abbrev pub deciding : Function
deciding = function given_none (
    BlockStart 0
    ∷ opaque kinds.Branch [] byte (result (reg 0) 0 ∷ []) (Some (plain_edge 1))
    ∷ BlockEnd (Some []) (plain_edge 2 ∷ plain_edge 1 ∷ [])
    ∷ BlockStart 2
    ∷ ret ((number 2 ∷ []) ∷ [])
    ∷ BlockEnd None []
    ∷ BlockStart 1
    ∷ opaque kinds.Return (from (reg 0) ∷ []) [] [] None
    ∷ BlockEnd None []
    ∷ [])

-- an opaque call behind a call, and the end of an open block
abbrev pub calling_twice : Function
calling_twice = function given_none (body (
    Counted (op effects.Call [] byte (pos 0)) [] (result (reg 0) 0 ∷ []) None []
    ∷ opaque kinds.Call (from (reg 0) ∷ []) byte (result (reg 0) 0 ∷ []) None
    ∷ opaque kinds.Plain (from (reg 0) ∷ []) [] [] None
    ∷ []))
