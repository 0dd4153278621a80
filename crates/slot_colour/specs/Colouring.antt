-- Stack slot colouring: slots that are alike and don't clash become one.
use Rattle.std.specs.Prelude.{◌≡◌, ℕ, Bool, cond, not, ◌&&◌, List, [], ◌∷◌, ◌++◌, map, filter, find, Option, Some, None, nat_eq, nat_le}
use Rattle.std.specs.List.{list_any}
use Rattle.target_base.specs.declared.types.Target.{Target}
use Rattle.mir_lines.specs.Bytes.{is_word}
use Rattle.mir_func.specs.declared.func.Operand.{Operand}
use Rattle.mir_func.specs.declared.func.Operand.TheVariants as operands
use Rattle.mir_func.specs.declared.func.Instr.{Instr}
use Rattle.mir_func.specs.declared.func.Block.{Block}
use Rattle.mir_func.specs.Value.{Function}
use Rattle.slot_colour.specs.Clashes.{TellsClashes}
use Rattle.slot_colour.specs.declared.lines.FrameLine.{FrameLine}
use Rattle.slot_colour.specs.declared.choice.TakenSlot.{TakenSlot}
use Rattle.slot_colour.specs.Lines.{declared_in, kept_in}

-- Spill slots by rising number.

abbrev pub put_rising : ℕ → List ℕ → List ℕ
put_rising n [] = n ∷ []
put_rising n (x ∷ xs) = cond (nat_le n x) (n ∷ x ∷ xs) (x ∷ put_rising n xs)

abbrev pub with_spill : ℕ × Bool → List ℕ → List ℕ
with_spill object xs = cond object.1 (put_rising object.0 xs) xs

-- the spill slots among frame objects, put to those that stand there
abbrev pub spills_onto : List ℕ → List (ℕ × Bool) → List ℕ
spills_onto xs [] = xs
spills_onto xs (o ∷ os) = spills_onto (with_spill o xs) os

abbrev pub spill_slots : List (ℕ × Bool) → List ℕ
spill_slots objects = spills_onto [] objects

-- The choice.

abbrev pub text_of_some : Option FrameLine → List ℕ
text_of_some None = []
text_of_some (Some d) = d.text

-- what stands behind the number of a frame object in the line that declares it
abbrev pub text_of : List FrameLine → ℕ → List ℕ
text_of ds n = text_of_some (find (λ d. nat_eq d.number n) ds)

-- slot r is a member of kept slot k, and slot n clashes with it
abbrev pub refuses : (ℕ → ℕ → Bool) → ℕ → ℕ → TakenSlot → Bool
refuses clash n k r = nat_eq r.kept k && clash n r.number

-- slot n clashes with a member of kept slot k
abbrev pub is_refused : (ℕ → ℕ → Bool) → List TakenSlot → ℕ → ℕ → Bool
is_refused clash taken n k = list_any (refuses clash n k) taken

-- Slot n, of this text, may join slot k: k is a kept one, the two are alike, for their lines are equal but for the number,
-- and n clashes with no member of k.
abbrev pub may_join : (ℕ → ℕ → Bool) → List TakenSlot → ℕ → List ℕ → TakenSlot → Bool
may_join clash taken n text k = nat_eq k.kept k.number && is_word k.text text && not (is_refused clash taken n k.number)

abbrev pub number_or : ℕ → Option TakenSlot → ℕ
number_or n None = n
number_or n (Some k) = k.number

-- the first kept slot that slot n may join; else it is kept itself
abbrev pub home : (ℕ → ℕ → Bool) → List TakenSlot → ℕ → List ℕ → ℕ
home clash taken n text = number_or n (find (may_join clash taken n text) taken)

-- slot n with its text and the slot that it goes to
abbrev pub placed : (ℕ → ℕ → Bool) → List FrameLine → List TakenSlot → ℕ → TakenSlot
placed clash lines taken n = record { number = n; text = text_of lines n; kept = home clash taken n (text_of lines n) }

-- slots are taken one after another, behind those that are taken
abbrev pub taken_on : (ℕ → ℕ → Bool) → List FrameLine → List TakenSlot → List ℕ → List TakenSlot
taken_on clash lines taken [] = taken
taken_on clash lines taken (n ∷ ns) = taken_on clash lines (taken ++ placed clash lines taken n ∷ []) ns

-- all spill slots of a function, taken by rising number
abbrev pub chosen : (ℕ → ℕ → Bool) → Function → List TakenSlot
chosen clash f = taken_on clash (declared_in f.head) [] (spill_slots f.frames)

-- The function after it.

abbrev pub kept_or : ℕ → Option TakenSlot → ℕ
kept_or n None = n
kept_or n (Some r) = r.kept

-- the slot that frame object n goes to; any other object stays
abbrev pub home_of : List TakenSlot → ℕ → ℕ
home_of taken n = kept_or n (find (λ r. nat_eq r.number n) taken)

-- the slot went to another one
abbrev pub is_gone : List TakenSlot → ℕ → Bool
is_gone taken n = not (nat_eq (home_of taken n) n)

-- an operand with the kept slot in place of its member
abbrev pub renamed : List TakenSlot → Operand → Operand
renamed taken (operands.Stack n) = operands.Stack (home_of taken n)
renamed taken o = o

abbrev pub renamed_instr : List TakenSlot → Instr → Instr
renamed_instr taken i = record i { operands = map (renamed taken) i.operands }

abbrev pub renamed_block : List TakenSlot → Block → Block
renamed_block taken b = record b { instrs = map (renamed_instr taken) b.instrs }

-- members are renamed; those that aren't kept leave the frame objects and the key lines
abbrev pub merged : List TakenSlot → Function → Function
merged taken f = record f {
  head = kept_in (is_gone taken) f.head;
  frames = filter (λ o. not (is_gone taken o.0)) f.frames;
  blocks = map (renamed_block taken) f.blocks;
}

-- the function coloured, by this test of clashes
unfoldable pub coloured : (ℕ → ℕ → Bool) → Function → Function
coloured clash f = merged (chosen clash f) f

-- the answer for a function: it is coloured by a test that tells which slots clash
pub record IsColoured (t : Target) (f g : Function) : Type 0 where
  pub clash : ℕ → ℕ → Bool
  pub tells : TellsClashes t f clash
  pub is : g ≡ coloured clash f
