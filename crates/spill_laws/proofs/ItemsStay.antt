-- An instruction that stays is the item that it was.
use Rattle.std.proofs.Common.{◌≡◌, ◌∷◌, ◌∙◌, ◌&&◌, ℕ, true, false, cond, List, None, map, refl, sym, ap, []}
use Rattle.target_base.specs.declared.types.Target.{Target}
use Rattle.meaning.specs.Live.{here as first, there as later}
use Rattle.mir_func.specs.declared.func.Loc.{Loc}
use Rattle.mir_func.specs.declared.func.Loc.TheVariants.{Fixed, Virtual}
use Rattle.mir_func.specs.declared.func.RegOp.{RegOp}
use Rattle.mir_func.specs.declared.func.Operand.{Operand}
use Rattle.mir_func.specs.declared.func.Operand.TheVariants as operands
use Rattle.mir_func.specs.declared.func.Instr.{Instr}
use Rattle.mir_func.specs.declared.func.Block.{Block}
use Rattle.mir_func.specs.Value.{Function}
use Rattle.mir_func.specs.Binding.{does, puts_together}
use Rattle.mir_meaning.specs.Codes.{item_of, way, ways_out}
use Rattle.mir_meaning.specs.Registers.{operand_lanes, undefined_lanes, whole_lanes}
use Rattle.mir_meaning.specs.Renaming.{Renames, RenamesAll}
use Rattle.mir_meaning.specs.Rules.{has_class}
use Rattle.mir_meaning.proofs.Renaming.{law_of_renaming}
use Rattle.lowering_laws.proofs.Classes.{AreNamed, IsNamed, instr-same, item-same, lanes-same, same-lane, same-operand}
use Rattle.lowering_laws.proofs.RulesStay.{lanes, widths}
use Rattle.spiller.specs.Setting.{Spilling}
use Rattle.spill_laws.specs.Laws.{KeepsClasses}
use Rattle.spill_laws.specs.TinyPlaces.{IsBlock, ItemsStay}

module _ (s : Spilling) (g : Function) (b c : Block) (keeps : KeepsClasses s g) (z : IsBlock s g b c) where
  abbrev t : Target
  t = s.target

  abbrev f : Function
  f = s.func

  pub ways-same : (n : ℕ) → way t g c.number n ≡ way t f b.number n
  ways-same n = λ k. record { block = n; phis = (z.bare_behind c.number n ∙ sym (z.bare b.number n)) k }

  pub outs-same : ways_out t g c ≡ ways_out t f b
  outs-same = ap (λ es. map (λ e. way t g c.number e.block) es) z.successors ∙ (λ k. map (λ e. ways-same e.block k) b.successors)

  whole-stays : (l : Loc) → has_class f l ≡ true → whole_lanes t g l ≡ whole_lanes t f l
  whole-stays (Virtual v) h = lanes t f g keeps (Virtual v) None h
  whole-stays (Fixed r) h = refl

  undefined-stay : (o : RegOp) → has_class f o.loc ≡ true → undefined_lanes t g o ≡ undefined_lanes t f o
  undefined-stay o h = ap (λ ls. cond (o.def && o.undef) ls []) (whole-stays o.loc h)

  renames : (o : RegOp) → IsNamed f o → Renames t f g same-lane same-operand o
  renames o n = record {
    def = refl;
    implicit = refl;
    undef = refl;
    lanes = lanes t f g keeps o.loc o.index n.class ∙ sym (lanes-same (operand_lanes t f o));
    widths = widths t f g keeps o.loc o.index n.class;
    others = undefined-stay o n.class ∙ sym (lanes-same (undefined_lanes t f o));
    stays = λ e. refl;
    fixed = n.fixed;
  }

  renames-all : (os : List Operand) → AreNamed f os → RenamesAll t f g same-lane same-operand os
  renames-all [] n = tt
  renames-all (operands.Reg o ∷ os) n = (renames o (n o first), renames-all os (λ p m. n p (later m)))
  renames-all (operands.Imm y ∷ os) n = renames-all os n
  renames-all (operands.Block y ∷ os) n = renames-all os n
  renames-all (operands.Stack y ∷ os) n = renames-all os n
  renames-all (operands.FixedStack y ∷ os) n = renames-all os n
  renames-all (operands.Symbol y ∷ os) n = renames-all os n
  renames-all (operands.Index y ∷ os) n = renames-all os n
  renames-all (operands.Mask y ∷ os) n = renames-all os n

  pub item-stays : (i : Instr) → does puts_together t i ≡ false → AreNamed f i.operands → item_of t g c i ≡ item_of t f b i
  item-stays i single named =
      ap (item_of t g c) (sym (instr-same i))
      ∙ (law_of_renaming t f g same-lane same-operand (record { units = λ u. refl; slots = λ a k w. refl }) b c ways-same outs-same i single (renames-all i.operands named)
      ∙ item-same (item_of t f b i))

pub items_stay : ItemsStay
items_stay s g b c i keeps z single named = item-stays s g b c keeps z i single named
