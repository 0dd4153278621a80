-- A function whose slots went to others has the lanes of registers that it had.
use Rattle.std.proofs.Common.{◌≡◌, ℕ, cond, ◌&&◌, List, [], ◌∷◌, Option, Some, None, map, refl, sym, ap, ◌∙◌}
use Rattle.target_base.specs.declared.types.IndexId.{IndexId}
use Rattle.target_base.specs.declared.types.Target.{Target}
use Rattle.meaning.specs.declared.types.Source.{Source}
use Rattle.meaning.specs.declared.types.Source.TheVariants.{FromLane, Undef, Bits}
use Rattle.meaning.specs.declared.types.Fill.{Fill}
use Rattle.meaning.specs.declared.types.Fill.TheVariants.{Moved, Computed}
use Rattle.meaning.specs.Code.{Item, BlockStart, BlockEnd, Silent, Counted}
use Rattle.meaning.specs.Lanes.{Writes, Reads}
use Rattle.meaning.specs.Live.{Among as Member, here as first, there as later}
use Rattle.meaning.specs.Matched.{image, image_fill, renamed, renamed_reads}
use Rattle.mir_func.specs.declared.func.Loc.{Loc}
use Rattle.mir_func.specs.declared.func.Loc.TheVariants.{Virtual, Fixed}
use Rattle.mir_func.specs.declared.func.RegOp.{RegOp}
use Rattle.mir_func.specs.declared.func.Operand.{Operand}
use Rattle.mir_func.specs.declared.func.Operand.TheVariants as operands
use Rattle.mir_func.specs.declared.func.Instr.{Instr}
use Rattle.mir_func.specs.Value.{Function}
use Rattle.mir_func.specs.Binding.{registers}
use Rattle.mir_meaning.specs.Registers.{located_lanes, located_widths, operand_lanes, operand_widths, undefined_lanes, use_sources, whole_lanes}
use Rattle.mir_meaning.specs.Renaming.{IsFixed, Renames, RenamesAll, renamed_instr, renamed_item, renamed_operand}
use Rattle.slot_laws.specs.Homes.{function_moved}

map-itself : {X : Type 0} (xs : List X) → map (λ x. x) xs ≡ xs
map-itself [] = refl
map-itself (x ∷ xs) = ap (λ ys. x ∷ ys) (map-itself xs)

module _ (t : Target) (home : ℕ → ℕ) (head : List ℕ) (f : Function) where
  abbrev g : Function
  g = function_moved home head f

  pub lanes-alike : (o : RegOp) → operand_lanes t g o ≡ operand_lanes t f o
  lanes-alike o = at o.loc o.index
    where
      at : (l : Loc) (x : Option IndexId) → located_lanes t g l x ≡ located_lanes t f l x
      at (Virtual v) None = refl
      at (Virtual v) (Some x) = refl
      at (Fixed r) x = refl

  pub widths-alike : (o : RegOp) → operand_widths t g o ≡ operand_widths t f o
  widths-alike o = at o.loc o.index
    where
      at : (l : Loc) (x : Option IndexId) → located_widths t g l x ≡ located_widths t f l x
      at (Virtual v) None = refl
      at (Virtual v) (Some x) = refl
      at (Fixed r) x = refl

  pub undefined-alike : (o : RegOp) → undefined_lanes t g o ≡ undefined_lanes t f o
  undefined-alike o = ap (λ ls. cond (o.def && o.undef) ls []) (at o.loc)
    where
      at : (l : Loc) → whole_lanes t g l ≡ whole_lanes t f l
      at (Virtual v) = refl
      at (Fixed r) = refl

  pub uses-alike : (o : RegOp) → use_sources t g o ≡ use_sources t f o
  uses-alike o = ap (map (cond o.undef (λ l. Undef) FromLane)) (lanes-alike o)

  renames : (o : RegOp) → IsFixed o.loc → Renames t f g (λ l. l) (λ x. x) o
  renames o fixed = record {
    def = refl;
    implicit = refl;
    undef = refl;
    lanes = lanes-alike o ∙ sym (map-itself (operand_lanes t f o));
    widths = widths-alike o;
    others = undefined-alike o ∙ sym (map-itself (undefined_lanes t f o));
    stays = λ e. refl;
    fixed = λ e. fixed;
  }

  pub renames-all : (os : List Operand) → ((o : RegOp) → Member o (registers os) → IsFixed o.loc) → RenamesAll t f g (λ l. l) (λ x. x) os
  renames-all [] k = tt
  renames-all (operands.Reg o ∷ os) k = (renames o (k o first), renames-all os (λ p n. k p (later n)))
  renames-all (x ∷ os) k = renames-all os k

-- renaming nothing changes nothing

operands-same : (os : List Operand) → map (renamed_operand (λ x. x)) os ≡ os
operands-same [] = refl
operands-same (operands.Reg o ∷ os) = ap (λ ys. operands.Reg o ∷ ys) (operands-same os)
operands-same (x ∷ os) = ap (λ ys. x ∷ ys) (operands-same os)

pub same-instr : (i : Instr) → renamed_instr (λ x. x) i ≡ i
same-instr i = ap (λ os. record i { operands = os }) (operands-same i.operands)

source-itself : (s : Source) → image (λ l. l) s ≡ s
source-itself (FromLane l) = refl
source-itself Undef = refl
source-itself (Bits c low w) = refl

sources-itself : (ss : List Source) → map (image (λ l. l)) ss ≡ ss
sources-itself [] = refl
sources-itself (s ∷ ss) = λ k. source-itself s k ∷ sources-itself ss k

reads-itself : (reads : Reads) → renamed_reads (λ l. l) reads ≡ reads
reads-itself [] = refl
reads-itself (ss ∷ reads) = λ k. sources-itself ss k ∷ reads-itself reads k

fill-itself : (f : Fill) → image_fill (λ l. l) f ≡ f
fill-itself (Moved s) = ap Moved (source-itself s)
fill-itself (Computed n) = refl

writes-itself : (ws : Writes) → renamed (λ l. l) ws ≡ ws
writes-itself [] = refl
writes-itself (w ∷ ws) = λ k. record { lane = w.lane; fill = fill-itself w.fill k; early = w.early } ∷ writes-itself ws k

pub item-itself : (i : Item) → renamed_item (λ l. l) i ≡ i
item-itself (BlockStart n) = refl
item-itself (BlockEnd falls exits) = refl
item-itself (Silent reads ws) = λ k. Silent (reads-itself reads k) (writes-itself ws k)
item-itself (Counted r reads ws target exits) = λ k. Counted r (reads-itself reads k) (writes-itself ws k) target exits
