-- Two-address form: each tied use becomes the register that its definition has, and `undef` goes.
use Rattle.std.specs.Prelude.{ℕ, Bool, true, false, cond, not, ◌+◌, ◌&&◌, nat_eq, List, [], ◌∷◌, ◌++◌, map, filter_map, flat_map, find, Option, Some, None, is_some, unwrap_or, option_and_then, slice_get}
use Rattle.std.specs.List.{list_any}
use Rattle.target_base.specs.declared.types.Reg.{Reg}
use Rattle.target_base.specs.declared.types.ClassId.{ClassId}
use Rattle.target_base.specs.declared.types.Role.{Role}
use Rattle.target_base.specs.declared.types.Target.{Target}
use Rattle.target_base.specs.Roles.{role_class}
use Rattle.mir_func.specs.declared.func.Loc.{Loc}
use Rattle.mir_func.specs.declared.func.Loc.TheVariants.{Virtual, Fixed}
use Rattle.mir_func.specs.declared.func.RegOp.{RegOp}
use Rattle.mir_func.specs.declared.func.Operand.{Operand}
use Rattle.mir_func.specs.declared.func.Operand.TheVariants as operands
use Rattle.mir_func.specs.declared.func.Op.TheVariants as ops
use Rattle.mir_func.specs.declared.func.Instr.{Instr}
use Rattle.mir_func.specs.Binding.{Bound, passes, is_virtual, is_definition, same_loc, same_index, tied_number, ties_to, TiedPair, tied_pair, numbered}
use Rattle.phi_elim.specs.Moves.{implicit_def_op, whole_definition, whole_use, source_of, destination_of, copy_of, undefining}
use Rattle.two_address.specs.declared.ties.Move.{Move}
use Rattle.two_address.specs.declared.ties.Tie.{Tie}
use Rattle.two_address.specs.Classes.{seated, class_asked, first_register}

-- the operand reads the location, and isn't the use that is tied to the definition of that number
abbrev pub reads_besides : ℕ → Loc → Bound → Bool
reads_besides n l (r, operands.Reg o) = not (passes (ties_to n) r) && not o.def && not o.undef && same_loc l o.loc
reads_besides n l (r, o) = false

-- a use of the register and index that an operand has
abbrev pub use_of : RegOp → RegOp
use_of d = source_of (record d { undef = false })

-- an `undef` use of them
abbrev pub undef_use_of : RegOp → RegOp
undef_use_of d = source_of (record d { undef = true })

-- nothing is done about the definition of that number
abbrev pub untied : ℕ → Tie
untied n = record { number = n; aside = None; reading = None; before = None; after = None }

-- Register c stands in for the definition: a copy before the instruction gives it the value of the tied use, and one
-- behind gives its value to the defined register.
abbrev pub tie_aside : ℕ → TiedPair → Tie
tie_aside c p = record { number = p.number; aside = Some c; reading = Some (whole_use c); before = Some (record { to = whole_definition c; from = source_of p.tied_use }); after = Some (record { to = destination_of p.definition; from = whole_use c }) }

-- The tied use becomes the definition's register and index: an `undef` use at once, one that is it already at once
-- too, any other behind a copy. Where another operand reads the defined register, register c stands in for it.
abbrev pub tie_of : ℕ → TiedPair → Bool → Tie
tie_of c p read =
    let d = p.definition in
    let u = p.tied_use in
    cond (not (is_virtual u.loc)) (untied p.number)
    (cond u.undef (record (untied p.number) { reading = Some (undef_use_of d) })
    (cond (same_loc d.loc u.loc && same_index d.index u.index) (record (untied p.number) { reading = Some (use_of d) })
    (cond read (tie_aside c p)
    (record (untied p.number) { reading = Some (use_of d); before = Some (record { to = destination_of d; from = source_of u }) }))))

-- the tie of a pair among these operands
abbrev pub tie_among : List Bound → ℕ → TiedPair → Tie
tie_among bs c p = tie_of c p (list_any (reads_besides p.number p.definition.loc) bs)

-- the next range number behind a tie
abbrev pub number_behind : ℕ → Tie → ℕ
number_behind c tie = cond (is_some tie.aside) (c + 1) c

-- the ties of these pairs, one after the other
abbrev pub ties_among : List Bound → ℕ → List TiedPair → List Tie
ties_among bs c [] = []
ties_among bs c (p ∷ ps) = let tie = tie_among bs c p in tie ∷ ties_among bs (number_behind c tie) ps

-- what is done about an instruction's ties, in the order of the tied uses; c is the next range number
abbrev pub ties_in : Target → ℕ → Instr → List Tie
ties_in t c i = ties_among (seated t i) c (filter_map (tied_pair i.operands) (seated t i))

-- what is done about the definition of that number
abbrev pub tie_to : ℕ → List Tie → Tie
tie_to n ties = unwrap_or (find (λ tie. nat_eq tie.number n) ties) (untied n)

-- a copy, where there is one
abbrev pub copies : Option Move → List Instr
copies None = []
copies (Some m) = copy_of m.to m.from ∷ []

-- the definition: without `undef`, and of the register that stands in for its own
abbrev pub defined_aside : Option ℕ → RegOp → RegOp
defined_aside None o = record o { undef = false }
defined_aside (Some c) o = record o { loc = Virtual c; index = None; undef = false }

-- an `undef` use of a physical register
abbrev pub undef_fixed : RegOp → Option Reg → RegOp
undef_fixed o None = o
undef_fixed o (Some r) = record { loc = Fixed r; index = None; def = false; implicit = false; undef = true; early = false; renamable = false; tie = None }

-- a use that isn't tied: an `undef` one becomes one of the first unreserved register of its class
abbrev pub defined_use : Target → List (Option ClassId) → Option Role → RegOp → RegOp
defined_use t cs r o = cond (is_virtual o.loc && not o.def && o.undef) (undef_fixed o (first_register t (class_asked t cs r o))) o

-- a use behind the pass: one that is tied to the definition of some number becomes what the tie reads
abbrev pub retied_use : Target → List (Option ClassId) → List Tie → Option Role → RegOp → RegOp
retied_use t cs ties r o = elim (option_and_then tied_number r) [ None ↦ defined_use t cs r o | Some n ↦ unwrap_or (tie_to n ties).reading o ]

-- a register operand of that number behind the pass
abbrev pub retied : Target → List (Option ClassId) → List Tie → ℕ → Option Role → RegOp → RegOp
retied t cs ties n r o = cond (is_definition o) (defined_aside (tie_to n ties).aside o) (retied_use t cs ties r o)

-- an operand with its number behind the pass
abbrev pub retied_operand : Target → List (Option ClassId) → List Tie → ℕ × Bound → Operand
retied_operand t cs ties (n, (r, operands.Reg o)) = operands.Reg (retied t cs ties n r o)
retied_operand t cs ties (n, (r, o)) = o

-- all lanes of a register made undefined
abbrev pub undefined_whole : Loc → List Instr
undefined_whole (Virtual v) = undefining (whole_definition v) ∷ []
undefined_whole (Fixed r) = []

-- before an operand that is an `undef` definition all of its register is made undefined
abbrev pub undefined_first : Operand → List Instr
undefined_first (operands.Reg o) = cond (is_definition o && o.undef) (undefined_whole o.loc) []
undefined_first o = []

-- the instruction with its ties and its uses lowered
abbrev pub with_operands : Target → List (Option ClassId) → List Tie → Instr → Instr
with_operands t cs ties i = record i { operands = map (retied_operand t cs ties) (numbered 0 (seated t i)) }

-- an instruction with these ties lowered, between the copies before and those behind
abbrev pub with_ties : Target → List (Option ClassId) → List Tie → Instr → List Instr
with_ties t cs ties i = flat_map (λ tie. copies tie.before) ties ++ (with_operands t cs ties i ∷ flat_map (λ tie. copies tie.after) ties)

-- what becomes of an instruction of most opcodes; c is the next range number
abbrev pub tied_lowered : Target → List (Option ClassId) → ℕ → Instr → List Instr
tied_lowered t cs c i = with_ties t cs (ties_in t c i) i

-- the class that the role of the definition of that number asks for; roles of definitions stand first
abbrev pub definition_class : List Role → ℕ → Option ClassId
definition_class rs n = option_and_then role_class (slice_get rs n)

-- a copy of what is undefined makes undefined
abbrev pub copy_lowered : Instr → RegOp → RegOp → Instr
copy_lowered i d s =
    cond s.undef
    (record i { op = ops.Known implicit_def_op; operands = operands.Reg (destination_of d) ∷ [] })
    (record i { operands = operands.Reg (record d { undef = false }) ∷ operands.Reg s ∷ [] })
