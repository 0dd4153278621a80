-- Codes and maps for examples of the laws.
use Rattle.std.specs.Prelude.{ℕ, pos, Bool, false, cond, nat_eq, [], ◌∷◌, Some, None}
use Rattle.target_base.specs.declared.types.Effect.TheVariants as effects
use Rattle.meaning.specs.declared.types.Lane.{Lane}
use Rattle.meaning.specs.declared.types.Lane.TheVariants.{VirtualLane, UnitLane, SlotLane}
use Rattle.meaning.specs.declared.types.Source.{Source}
use Rattle.meaning.specs.declared.types.Source.TheVariants.{FromLane, Undef}
use Rattle.meaning.specs.Code.{Edge, Item, BlockStart, BlockEnd, Silent, Counted, Code, Function}
use Rattle.meaning.specs.Agree.{Family}
use Rattle.worked_examples.specs.Code.Samples.{given_all, given_none, function, op, byte, reg, from, write, result, move, number, body, plain_edge, ret}

abbrev pub unreserved : Lane → Bool
unreserved l = false

-- the stack pointer is reserved
abbrev pub reserves_sp : Lane → Bool
reserves_sp (UnitLane u) = nat_eq u 15
reserves_sp _ = false

abbrev pub sp : Lane
sp = UnitLane 15

abbrev pub stays : Lane → Lane
stays l = l

-- all virtual registers go to register 0
abbrev pub joins : Lane → Lane
joins (VirtualLane v k) = VirtualLane 0 k
joins (UnitLane u) = UnitLane u
joins (SlotLane s k w) = SlotLane s k w

abbrev pub takes_sp : Lane → Lane
takes_sp (VirtualLane v k) = VirtualLane v k
takes_sp (UnitLane u) = UnitLane (cond (nat_eq u 15) 1 u)
takes_sp (SlotLane s k w) = SlotLane s k w

abbrev pub goes_to_sp : Lane → Lane
goes_to_sp (VirtualLane v k) = UnitLane 15
goes_to_sp (UnitLane u) = UnitLane u
goes_to_sp (SlotLane s k w) = SlotLane s k w

-- a choice of registers that gives unit 0 to each virtual one
abbrev pub goes_to_al : Lane → Lane
goes_to_al (VirtualLane v k) = UnitLane 0
goes_to_al (UnitLane u) = UnitLane u
goes_to_al (SlotLane s k w) = SlotLane s k w

abbrev pub one_to_two : Lane → Lane
one_to_two (VirtualLane v k) = VirtualLane (cond (nat_eq v 1) 2 v) k
one_to_two (UnitLane u) = UnitLane u
one_to_two (SlotLane s k w) = SlotLane s k w

-- a copy of a constant, and what is left where both registers are one
abbrev pub chain : Function
chain = function given_none (body (move (reg 0) (number 1) ∷ move (reg 1) (FromLane (reg 0)) ∷ ret (from (reg 1) ∷ []) ∷ []))

abbrev pub folded_chain : Function
folded_chain = function given_none (body (move (reg 0) (number 1) ∷ ret (from (reg 0) ∷ []) ∷ []))

abbrev pub chain_in_al : Function
chain_in_al = function given_none (body (move (UnitLane 0) (number 1) ∷ ret (from (UnitLane 0) ∷ []) ∷ []))

-- two constants that are both read
abbrev pub both_read : Function
both_read = function given_none (body (move (reg 0) (number 1) ∷ move (reg 1) (number 2) ∷ ret (from (reg 0) ∷ from (reg 1) ∷ []) ∷ []))

abbrev pub both_joined : Function
both_joined = function given_none (body (move (reg 0) (number 1) ∷ move (reg 0) (number 2) ∷ ret (from (reg 0) ∷ from (reg 0) ∷ []) ∷ []))

abbrev pub both_in_al : Function
both_in_al = function given_none (body (move (UnitLane 0) (number 1) ∷ move (UnitLane 0) (number 2) ∷ ret (from (UnitLane 0) ∷ from (UnitLane 0) ∷ []) ∷ []))

-- a reserved unit that is written and read, and its name changed to another's
abbrev pub reads_sp : Function
reads_sp = function given_none (body (move sp (number 7) ∷ move (UnitLane 1) (number 5) ∷ ret (from sp ∷ []) ∷ []))

abbrev pub reads_another : Function
reads_another = function given_none (body (move (UnitLane 1) (number 7) ∷ move (UnitLane 1) (number 5) ∷ ret (from (UnitLane 1) ∷ []) ∷ []))

-- a register that goes to a reserved unit
abbrev pub beside_sp : Function
beside_sp = function given_none (body (move sp (number 5) ∷ move (reg 0) (number 7) ∷ ret (from sp ∷ from (reg 0) ∷ []) ∷ []))

abbrev pub over_sp : Function
over_sp = function given_none (body (move sp (number 5) ∷ move sp (number 7) ∷ ret (from sp ∷ from sp ∷ []) ∷ []))

-- a block that is fallen into, but is no successor
abbrev pub unlisted : Source → Source → Lane → Code
unlisted a b l =
    BlockStart 0
    ∷ move (reg 0) a
    ∷ move l b
    ∷ BlockEnd (Some []) []
    ∷ BlockStart 1
    ∷ ret (from (reg 0) ∷ [])
    ∷ BlockEnd None []
    ∷ []

-- a phi of register 1, which block 1 reads under this name
abbrev pub phi_read : ℕ → Function
phi_read v =
    let phis = write (reg 1) (FromLane (reg 0)) ∷ [] in
    function given_none (
    BlockStart 0
    ∷ move (reg 0) (number 5)
    ∷ BlockEnd (Some phis) (record { block = 1; phis = phis } ∷ [])
    ∷ BlockStart 1
    ∷ ret (from (reg v) ∷ [])
    ∷ BlockEnd None []
    ∷ [])

abbrev pub reads_eax : Code
reads_eax = body (ret (from (UnitLane 0) ∷ []) ∷ [])

-- a call that makes units 0 and 3 Undef
abbrev pub clobbering : Item
clobbering = Counted (op effects.Call [] [] (pos 0)) [] (write (UnitLane 0) Undef ∷ write (UnitLane 3) Undef ∷ []) None []

abbrev pub slot : Lane
slot = SlotLane 0 0 8

-- a value over a call, and the same in a slot
abbrev pub over_call : Function
over_call = function given_all (body (move (reg 0) (FromLane (UnitLane 0)) ∷ clobbering ∷ ret (from (reg 0) ∷ []) ∷ []))

abbrev pub spilled : Function
spilled = function given_all (body (move slot (FromLane (UnitLane 0)) ∷ clobbering ∷ move (UnitLane 3) (FromLane slot) ∷ ret (from (UnitLane 3) ∷ []) ∷ []))

-- copies round a loop, which nothing reads, behind which register 2 and perhaps register 0 is read
abbrev pub copying_loop : Code → Code
copying_loop behind =
    BlockStart 0
    ∷ BlockEnd (Some []) (plain_edge 1 ∷ [])
    ∷ BlockStart 1
    ∷ move (reg 0) (FromLane (reg 1))
    ∷ move (reg 1) (FromLane (reg 0))
    ∷ Counted (op effects.Jnz (byte ∷ []) [] (pos 0)) (from (reg 2) ∷ []) [] (Some (plain_edge 1)) (plain_edge 1 ∷ plain_edge 2 ∷ [])
    ∷ BlockEnd (Some []) (plain_edge 1 ∷ plain_edge 2 ∷ [])
    ∷ BlockStart 2
    ∷ behind

abbrev pub idle_loop : Code
idle_loop = copying_loop (ret [] ∷ BlockEnd None [] ∷ [])

abbrev pub read_loop : Code
read_loop = copying_loop (ret (from (reg 0) ∷ []) ∷ BlockEnd None [] ∷ [])

-- a store in a slot's lane, and a reload of that lane at a width
abbrev pub stored_and_reloaded : ℕ → Code
stored_and_reloaded width = body (Silent [] (write slot (FromLane (reg 0)) ∷ write (SlotLane 0 0 16) Undef ∷ []) ∷ move (reg 1) (FromLane (SlotLane 0 0 width)) ∷ ret (from (reg 1) ∷ []) ∷ [])

-- v0 = a call's answer; v1 = a constant; loop: v2 = phi(v0, v1); store v2; go on while v2 isn't 0; return v0
abbrev pub set_phi : Source → Edge
set_phi s = record { block = 1; phis = write (reg 2) s ∷ [] }

abbrev pub storing_byte : Lane → Item
storing_byte l = Counted (op (effects.Store 1) ((64 ∷ []) ∷ byte ∷ []) [] (pos 0)) ((number 40 ∷ []) ∷ from l ∷ []) [] None []

abbrev pub looping : Lane → Edge → Item
looping l back = Counted (op effects.Jnz (byte ∷ []) [] (pos 0)) (from l ∷ []) [] (Some back) (back ∷ plain_edge 2 ∷ [])

abbrev pub calling_one : Lane → Item
calling_one l = Counted (op effects.Call [] byte (pos 0)) [] (result l 0 ∷ []) None []

abbrev pub with_phi : Function
with_phi = function given_none (
    BlockStart 0
    ∷ calling_one (reg 0)
    ∷ move (reg 1) (number 7)
    ∷ BlockEnd (Some (write (reg 2) (FromLane (reg 0)) ∷ [])) (set_phi (FromLane (reg 0)) ∷ [])
    ∷ BlockStart 1
    ∷ storing_byte (reg 2)
    ∷ looping (reg 2) (set_phi (FromLane (reg 1)))
    ∷ BlockEnd (Some []) (set_phi (FromLane (reg 1)) ∷ plain_edge 2 ∷ [])
    ∷ BlockStart 2
    ∷ ret (from (reg 0) ∷ [])
    ∷ BlockEnd None []
    ∷ [])

-- the answer goes to the slot, the phi to unit 3, and the constant is made again before the branch; the slot is
-- reloaded at a width
abbrev pub allocated_loop : ℕ → Function
allocated_loop width = function given_none (
    BlockStart 0
    ∷ calling_one (UnitLane 3)
    ∷ Silent [] (write slot (FromLane (UnitLane 3)) ∷ write (SlotLane 0 0 16) Undef ∷ [])
    ∷ BlockEnd (Some []) (plain_edge 1 ∷ [])
    ∷ BlockStart 1
    ∷ storing_byte (UnitLane 3)
    ∷ move (UnitLane 4) (FromLane (UnitLane 3))
    ∷ move (UnitLane 3) (number 7)
    ∷ looping (UnitLane 4) (plain_edge 1)
    ∷ BlockEnd (Some []) (plain_edge 1 ∷ plain_edge 2 ∷ [])
    ∷ BlockStart 2
    ∷ move (UnitLane 4) (FromLane (SlotLane 0 0 width))
    ∷ ret (from (UnitLane 4) ∷ [])
    ∷ BlockEnd None []
    ∷ [])

abbrev pub family : Family
family =
    (1, (FromLane (reg 0), FromLane slot) ∷ (FromLane (reg 1), number 7) ∷ (FromLane (reg 2), FromLane (UnitLane 3)) ∷ [])
    ∷ (2, (FromLane (reg 0), FromLane slot) ∷ [])
    ∷ []
