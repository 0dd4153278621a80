-- No phi comes by lowering of ties, so that on no way phis write.
use Rattle.std.proofs.Common.{◌≡◌, ◌∷◌, ◌++◌, ◌&&◌, ◌+◌, not, ℕ, Bool, true, false, cond, List, Option, Some, None, map, flat_map, length, drop, refl, ap, []}
use Rattle.std.specs.Prelude.{find, nat_eq}
use Rattle.std.specs.List.{list_all}
use Rattle.target_base.specs.declared.types.ClassId.{ClassId}
use Rattle.target_base.specs.declared.types.Target.{Target}
use Rattle.target_base.specs.Rules.{is_phi}
use Rattle.target_base.proofs.Tests.{first_of_both, second_of_both}
use Rattle.mir_func.specs.declared.func.Loc.{Loc}
use Rattle.mir_func.specs.declared.func.Loc.TheVariants.{Fixed, Virtual}
use Rattle.mir_func.specs.declared.func.RegOp.{RegOp}
use Rattle.mir_func.specs.declared.func.Operand.{Operand}
use Rattle.mir_func.specs.declared.func.Operand.TheVariants as operands
use Rattle.mir_func.specs.declared.func.Op.TheVariants as ops
use Rattle.mir_func.specs.declared.func.Instr.{Instr}
use Rattle.mir_func.specs.declared.func.Block.{Block}
use Rattle.mir_func.specs.Value.{Function}
use Rattle.mir_func.specs.Binding.{does, is_definition, passes}
use Rattle.mir_meaning.specs.Codes.{instrs_of, way}
use Rattle.mir_meaning.specs.Points.{has_no_phis}
use Rattle.phi_elim.specs.Moves.{copy_of, copy_op, destination_of, implicit_def_op, move_of, source_of, undefining, whole_definition, whole_use}
use Rattle.phi_elim.specs.Numbered.{blocks_numbered, numbered}
use Rattle.phi_elim.specs.Phis.{located_class}
use Rattle.two_address.specs.Lowered.{blocks_lowered, classes_made, form_lowered, form_of, instr_lowered, instrs_lowered, next_range, ties_lowered}
use Rattle.two_address.specs.Sequences.{at_last, beginning, built, fill_all, into_part, is_input, keeping_text, parts_of}
use Rattle.two_address.specs.Ties.{copies, ties_in, undefined_first, undefined_whole, with_operands}
use Rattle.two_address.specs.declared.forms.InstrLowering.{InstrLowering}
use Rattle.two_address.specs.declared.forms.InstrLowering.TheVariants as forms
use Rattle.two_address.specs.declared.sequences.SubregInput.{SubregInput}
use Rattle.two_address.specs.declared.ties.Move.{Move}
use Rattle.two_address.specs.declared.ties.Tie.{Tie}
use Rattle.lowering_laws.proofs.Blocks.{append-none, none-written, numbered-none}
use Rattle.lowering_laws.proofs.Lowering.{NoPhis}
use Rattle.lowering_laws.proofs.Placed.{copy-effect, undef-effect}
use Rattle.lowering_laws.proofs.Replaced.{bound, h}

not-true : (b : Bool) → not b ≡ true → b ≡ false
not-true true e = absurd (cc)
not-true false e = refl

-- no phi comes

module _ (t : Target) where
  copied-plain : (i : Instr) → i.op ≡ ops.Known copy_op → does is_phi t i ≡ false
  copied-plain i e = ap (passes is_phi) (copy-effect t i e)

  undef-plain : (i : Instr) → i.op ≡ ops.Known implicit_def_op → does is_phi t i ≡ false
  undef-plain i e = ap (passes is_phi) (undef-effect t i e)

  whole-none : (l : Loc) → NoPhis t (undefined_whole l)
  whole-none (Virtual v) = (undef-plain (undefining (whole_definition v)) refl, tt)
  whole-none (Fixed r) = tt

  first-none : (o : Operand) → NoPhis t (undefined_first o)
  first-none (operands.Reg p) = go (is_definition p && p.undef)
    where
      go : (y : Bool) → NoPhis t (cond y (undefined_whole p.loc) [])
      go true = whole-none p.loc
      go false = tt
  first-none o = tt

  flat-none : {A : Type 0} (g : A → List Instr) → ((x : A) → NoPhis t (g x)) → (xs : List A) → NoPhis t (flat_map g xs)
  flat-none g h [] = tt
  flat-none g h (x ∷ xs) = append-none t (g x) (flat_map g xs) (h x) (flat-none g h xs)

  move-plain : (to from : RegOp) → does is_phi t (move_of to from) ≡ false
  move-plain to from = go from.undef
    where
      go : (y : Bool) → does is_phi t (cond y (undefining to) (copy_of to (source_of from))) ≡ false
      go true = undef-plain (undefining to) refl
      go false = copied-plain (copy_of to (source_of from)) refl

  parts-none : (to : ℕ) (ps : List SubregInput) → NoPhis t (map (into_part to) ps)
  parts-none to [] = tt
  parts-none to (p ∷ ps) = (move-plain (record (whole_definition to) { index = Some p.index }) p.input, parts-none to ps)

  last-none : (c v : ℕ) (ps : List SubregInput) → NoPhis t (at_last c v ps)
  last-none c v ps = go (is_input (Virtual v) ps)
    where
      go : (y : Bool) → NoPhis t (cond y (copy_of (whole_definition v) (whole_use c) ∷ []) [])
      go true = (copied-plain (copy_of (whole_definition v) (whole_use c)) refl, tt)
      go false = tt

  begun-none : (k : Option ClassId) (to : ℕ) (ps : List SubregInput) → NoPhis t (beginning t k to ps)
  begun-none k to ps = go (fill_all t k ps)
    where
      go : (y : Bool) → NoPhis t (cond y [] (undefining (whole_definition to) ∷ []))
      go true = tt
      go false = (undef-plain (undefining (whole_definition to)) refl, tt)

  kept-none : (i : Instr) (xs : List Instr) → NoPhis t xs → NoPhis t (keeping_text i xs)
  kept-none i [] m = tt
  kept-none i (x ∷ xs) m = m

  copies-none : (m : Option Move) → NoPhis t (copies m)
  copies-none None = tt
  copies-none (Some m) = (copied-plain (copy_of m.to m.from) refl, tt)

  module _ (cs : List (Option ClassId)) where
    form-none : (c : ℕ) (i : Instr) → does is_phi t i ≡ false → (form : InstrLowering) → NoPhis t (form_lowered t cs c i form)
    form-none c i e (forms.Copy d s) = (go s.undef, tt)
      where
        go : (y : Bool) → does is_phi t (cond y (record i { op = ops.Known implicit_def_op; operands = operands.Reg (destination_of d) ∷ [] }) (record i { operands = operands.Reg (record d { undef = false }) ∷ operands.Reg s ∷ [] })) ≡ false
        go true = undef-plain (record i { op = ops.Known implicit_def_op; operands = operands.Reg (destination_of d) ∷ [] }) refl
        go false = e
    form-none c i e (forms.Sequence v) =
        let ps = parts_of (drop 1 i.operands) in
        let to = built c v ps in
        kept-none i (beginning t (located_class cs (Virtual v)) to ps ++ (map (into_part to) ps ++ at_last c v ps)) (append-none t (beginning t (located_class cs (Virtual v)) to ps) (map (into_part to) ps ++ at_last c v ps) (begun-none (located_class cs (Virtual v)) to ps) (append-none t (map (into_part to) ps) (at_last c v ps) (parts-none to ps) (last-none c v ps)))
    form-none c i e (forms.Insertion v a p) =
        let to = built c v (p ∷ []) in
        kept-none i (move_of (whole_definition to) a ∷ into_part to p ∷ at_last c v (p ∷ [])) (move-plain (whole_definition to) a, (move-plain (record (whole_definition to) { index = Some p.index }) p.input, last-none c v (p ∷ [])))
    form-none c i e forms.Other =
        let ties = ties_in t c i in
        append-none t (flat_map (λ (tie : Tie). copies tie.before) ties) (with_operands t cs ties i ∷ flat_map (λ (tie : Tie). copies tie.after) ties) (flat-none (λ (tie : Tie). copies tie.before) (λ x. copies-none x.before) ties) (e, flat-none (λ (tie : Tie). copies tie.after) (λ x. copies-none x.after) ties)

    instr-none : (c : ℕ) (i : Instr) → does is_phi t i ≡ false → NoPhis t (instr_lowered t cs c i)
    instr-none c i e = append-none t (flat_map undefined_first i.operands) (form_lowered t cs c i (form_of t i)) (flat-none undefined_first first-none i.operands) (form-none c i e (form_of t i))

    instrs-none : (c : ℕ) (is : List Instr) → NoPhis t is → NoPhis t (instrs_lowered t cs c is)
    instrs-none c [] m = tt
    instrs-none c (i ∷ is) m = append-none t (instr_lowered t cs c i) (instrs_lowered t cs (next_range t cs c i) is) (instr-none c i m.0) (instrs-none (next_range t cs c i) is m.1)

    all-none : (is : List Instr) → list_all (λ i. not (does is_phi t i)) is ≡ true → NoPhis t is
    all-none [] e = tt
    all-none (i ∷ is) e = (not-true (does is_phi t i) (first_of_both (not (does is_phi t i)) (list_all (λ i. not (does is_phi t i)) is) e), all-none is (second_of_both (not (does is_phi t i)) (list_all (λ i. not (does is_phi t i)) is) e))

    source-none : (bs : List Block) (m : ℕ) → has_no_phis t bs ≡ true → NoPhis t (instrs_of bs m)
    source-none [] m e = tt
    source-none (b ∷ bs) m e = go (nat_eq b.number m) (source-none bs m (second_of_both (list_all (λ i. not (does is_phi t i)) b.instrs) (has_no_phis t bs) e))
      where
        go : (y : Bool) → NoPhis t (instrs_of bs m) → NoPhis t (elim (cond y (Some b) (find (λ d. nat_eq d.number m) bs)) as (λ q. List Instr) [ None ↦ [] | Some d ↦ d.instrs ])
        go true k = all-none b.instrs (first_of_both (list_all (λ i. not (does is_phi t i)) b.instrs) (has_no_phis t bs) e)
        go false k = k

    lowered-none : (n c : ℕ) (bs : List Block) (m : ℕ) → has_no_phis t bs ≡ true → NoPhis t (instrs_of (blocks_numbered n (blocks_lowered t cs c bs)) m)
    lowered-none n c [] m e = tt
    lowered-none n c (b ∷ bs) m e = go (nat_eq b.number m) (lowered-none (n + length L) (c + length (classes_made t cs c b.instrs)) bs m (second_of_both (list_all (λ i. not (does is_phi t i)) b.instrs) (has_no_phis t bs) e))
      where
        L : List Instr
        L = instrs_lowered t cs c b.instrs

        rest : List Block
        rest = blocks_numbered (n + length L) (blocks_lowered t cs (c + length (classes_made t cs c b.instrs)) bs)

        go : (y : Bool) → NoPhis t (instrs_of rest m) → NoPhis t (elim (cond y (Some (record b { instrs = numbered n L })) (find (λ d. nat_eq d.number m) rest)) as (λ q. List Instr) [ None ↦ [] | Some d ↦ d.instrs ])
        go true k = numbered-none t n L (instrs-none c b.instrs (all-none b.instrs (first_of_both (list_all (λ i. not (does is_phi t i)) b.instrs) (has_no_phis t bs) e)))
        go false k = k

module _ (t : Target) (f : Function) (plain : has_no_phis t f.blocks ≡ true) where
  -- on no way phis write
  pub bare : (n m : ℕ) → (way t (h t f) n m).phis ≡ []
  bare n m = none-written t (h t f) n (instrs_of f.blocks m) (source-none t f.classes f.blocks m plain)

  pub bare-lowered : (n m : ℕ) → (way t (ties_lowered t f) n m).phis ≡ []
  unfolding ties_lowered
  bare-lowered n m = none-written t (ties_lowered t f) n (instrs_of (ties_lowered t f).blocks m) (lowered-none t f.classes 0 (bound t f) f.blocks m plain)
