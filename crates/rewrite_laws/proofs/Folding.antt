-- The code of the physical form is the code folded by the map of lanes to units.
use Rattle.std.proofs.Common.{◌≡◌, not, ◌&&◌, ◌++◌, ◌∷◌, ◌∙◌, ℕ, Bool, true, false, cond, List, [], Option, Some, None, map, refl, sym, ap, subst, eqb-true}
use Rattle.std.specs.Prelude.{option_map}
use Rattle.std.specs.List.{list_any}
use Rattle.target_base.specs.declared.types.ClassId.{ClassId}
use Rattle.target_base.specs.declared.types.Effect.{Effect}
use Rattle.target_base.specs.declared.types.Effect.TheVariants as effects
use Rattle.target_base.specs.declared.types.Reg.{Reg}
use Rattle.target_base.specs.declared.types.Target.{Target}
use Rattle.target_base.specs.Numbers.{reg_number}
use Rattle.target_base.specs.Registers.{units_of}
use Rattle.target_base.specs.Roles.{is_silent}
use Rattle.target_base.specs.Rules.{is_copy, is_phi}
use Rattle.target_base.proofs.Tests.{first_of_both, second_of_both}
use Rattle.meaning.specs.Code.{BlockEnd, BlockStart, Code, Counted, Item, Silent}
use Rattle.meaning.specs.Fold.{Folded, counted, deleted, done, end, silent, start, vanishes}
use Rattle.meaning.specs.Lanes.{Writes, same_lane}
use Rattle.meaning.specs.Live.{Among as Member, here as first, there as later}
use Rattle.meaning.specs.declared.types.Lane.{Lane}
use Rattle.meaning.specs.declared.types.Source.TheVariants.{FromLane, Undef}
use Rattle.mir_func.specs.declared.func.Edge.{Edge as Successor}
use Rattle.mir_func.specs.declared.func.Loc.TheVariants.{Fixed}
use Rattle.mir_func.specs.declared.func.RegOp.{RegOp}
use Rattle.mir_func.specs.declared.func.Operand.{Operand}
use Rattle.mir_func.specs.declared.func.Operand.TheVariants as operands
use Rattle.mir_func.specs.declared.func.Instr.{Instr}
use Rattle.mir_func.specs.declared.func.Block.{Block}
use Rattle.mir_func.specs.Value.{Function}
use Rattle.mir_func.specs.Binding.{does, effect_of, is_definition, is_early_clobber, is_terminator, is_use, passes, registers, roles_of, same_loc}
use Rattle.mir_meaning.specs.Registers.{located_lanes, operand_lanes, unit_lanes, whole_lanes}
use Rattle.mir_meaning.specs.Items.{copied, counted_writes, moved, rest_of, silent_reads, silent_writes, undefined, values}
use Rattle.mir_meaning.specs.Codes.{block_end, blocks_code, code_of, effect_item, item_of, target_of, way, ways_out}
use Rattle.mir_meaning.specs.Points.{has_no_phis}
use Rattle.mir_meaning.specs.Renaming.{renamed_instr, renamed_item, renamed_operand}
use Rattle.mir_meaning.specs.Rules.{copy_fits}
use Rattle.mir_meaning.proofs.Renaming.{law_of_renaming}
use Rattle.live_laws.proofs.Touch.Roles.{met}
use Rattle.lowering_laws.specs.Form.{is_undef_use}
use Rattle.lowering_laws.specs.Shapes.{IsLowered}
use Rattle.lowering_laws.proofs.Found.{same-self}
use Rattle.lowering_laws.proofs.Placed.{numbered-items}
use Rattle.join_laws.specs.Laws.{HasPlainUndefs}
use Rattle.join_laws.proofs.Asked.{copy-is}
use Rattle.join_laws.proofs.Named.{known, none-is, not-phi}
use Rattle.rewriter.specs.Physical.{Assignment, is_identity, moves_nothing, physical, physical_at, physical_form, physical_instr, physical_instrs}
use Rattle.rewrite_laws.specs.Laws.{IsClear}
use Rattle.rewrite_laws.proofs.Bare.{all-without-phis, way-bare}
use Rattle.rewrite_laws.proofs.Blocks.{AllFollow, Follows, fallen-same, first-same, form-follows, none-follow}
use Rattle.rewrite_laws.proofs.Named.{named, renames-all}
use Rattle.rewrite_laws.proofs.Operands.{IsNamed, image, keeps-places, renames, stands}

-- an item of an instruction, renamed, folds onto it

abbrev IsInside : Item → Type 0
IsInside (BlockStart n) = ⊥
IsInside (BlockEnd falls exits) = ⊥
IsInside (Silent reads ws) = Unit {0}
IsInside (Counted r reads ws target exits) = Unit {0}

inside : (t : Target) (f : Function) (b : Block) (i : Instr) → IsInside (item_of t f b i)
unfolding item_of
inside t f b i = go (effect_of t i)
  where
    by : (e : Effect) (s : Bool) → IsInside (cond s (Silent (silent_reads t f e i.operands) (silent_writes t f e (is_early_clobber (roles_of t i)) i.operands)) (Counted (rest_of t f e i) (map (λ x. x.0) (values t f e i)) (counted_writes t f e i) (option_map (way t f b.number) (target_of i.operands)) (cond (is_terminator e) (ways_out t f b) [])))
    by e true = tt
    by e false = tt

    go : (q : Option Effect) → IsInside (elim q as (λ o. Item) [ None ↦ Silent [] [] | Some e ↦ effect_item t f b i e ])
    go None = tt
    go (Some e) = by e (is_silent e)

item-folds : (m : Lane → Lane) (i : Item) (p q : Code) → IsInside i → Folded m p q → Folded m (i ∷ p) (renamed_item m i ∷ q)
item-folds m (BlockStart n) p q h k = absurd h
item-folds m (BlockEnd falls exits) p q h k = absurd h
item-folds m (Silent reads ws) p q h k = silent k
item-folds m (Counted r reads ws target exits) p q h k = counted k

-- a copy whose sides have one image vanishes

heads-same : (x y : Lane) (xs ys : List Lane) → ◌≡◌ {A = List Lane} (x ∷ xs) (y ∷ ys) → x ≡ y
heads-same x y xs ys e = cc

tails-same : (x y : Lane) (xs ys : List Lane) → ◌≡◌ {A = List Lane} (x ∷ xs) (y ∷ ys) → xs ≡ ys
tails-same x y xs ys e = cc

sides-vanish : (m : Lane → Lane) (ls ks : List Lane) → map m ls ≡ map m ks → vanishes m (moved false ls (map FromLane ks)) ≡ true
sides-vanish m [] ks e = refl
sides-vanish m (l ∷ ls) [] e = refl
sides-vanish m (l ∷ ls) (k ∷ ks) e =
    let same : m l ≡ m k = heads-same (m l) (m k) (map m ls) (map m ks) e in
    λ i. (ap (λ x. same_lane (m k) x) same ∙ same-self (m k)) i && sides-vanish m ls ks (tails-same (m l) (m k) (map m ls) (map m ks) e) i

-- the physical form of an instruction renames its operands

operand-same : (t : Target) (rs : Assignment) (o : Operand) → physical t rs o ≡ renamed_operand (λ o. physical_at t rs o o.loc) o
operand-same t rs (operands.Reg o) = refl
operand-same t rs (operands.Imm z) = refl
operand-same t rs (operands.Block z) = refl
operand-same t rs (operands.Stack z) = refl
operand-same t rs (operands.FixedStack z) = refl
operand-same t rs (operands.Symbol z) = refl
operand-same t rs (operands.Index z) = refl
operand-same t rs (operands.Mask z) = refl

operands-same : (t : Target) (rs : Assignment) (os : List Operand) → map (physical t rs) os ≡ map (renamed_operand (λ o. physical_at t rs o o.loc)) os
operands-same t rs [] = refl
operands-same t rs (o ∷ os) = λ k. operand-same t rs o k ∷ operands-same t rs os k

instr-same : (t : Target) (rs : Assignment) (i : Instr) → physical_instr t rs i ≡ renamed_instr (λ o. physical_at t rs o o.loc) i
instr-same t rs i = λ k. record i { operands = operands-same t rs i.operands k }

-- a copy of a register to itself

pub record IsGone (t : Target) (rs : Assignment) (i : Instr) : Type 0 where
  pub d : RegOp
  pub s : RegOp
  pub copies : effect_of t i ≡ Some effects.Copy
  pub operands : i.operands ≡ operands.Reg d ∷ operands.Reg s ∷ []
  pub reads : is_use s ≡ true
  pub same : same_loc (physical_at t rs d d.loc).loc (physical_at t rs s s.loc).loc ≡ true

gone-is : (t : Target) (rs : Assignment) (i : Instr) → effect_of t i ≡ Some effects.Copy → copy_fits i.operands ≡ true → moves_nothing (map (physical t rs) i.operands) ≡ true → IsGone t rs i
gone-is t rs i c fit h = two i.operands refl fit h
  where
    two : (os : List Operand) → i.operands ≡ os → copy_fits os ≡ true → moves_nothing (map (physical t rs) os) ≡ true → IsGone t rs i
    two (operands.Reg d ∷ operands.Reg s ∷ []) are fit h = record { d = d; s = s; copies = c; operands = are; reads = second_of_both (is_definition d) (is_use s) fit; same = h }
    two os are fit h = absurd (cc)

same-fixed : (t : Target) (g : Function) (a b : RegOp) (q p : Reg) → a.loc ≡ Fixed q → b.loc ≡ Fixed p → same_loc a.loc b.loc ≡ true → operand_lanes t g a ≡ operand_lanes t g b
same-fixed t g a b q p e h s =
    let n : same_loc (Fixed q) (Fixed p) ≡ true = sym (λ k. same_loc (e k) (h k)) ∙ s in
    let r : q ≡ p = ap reg_number (eqb-true q.0 p.0 n) in
    ap (λ l. located_lanes t g l a.index) e ∙ (ap (λ r. unit_lanes (units_of t r)) r ∙ sym (ap (λ l. located_lanes t g l b.index) h))

module _ (t : Target) (f : Function) (rs : Assignment) (slots : List (ℕ × ClassId)) (live : ℕ → ℕ → Bool) (clear : IsClear t f rs) (low : IsLowered t f) (plain : HasPlainUndefs t f) where
  abbrev g : Function
  g = physical_form t rs slots live f

  abbrev m : Lane → Lane
  m = image t rs

  without-phis : (b : Block) (i : Instr) → Member b f.blocks → Member i b.instrs → does is_phi t i ≡ false
  without-phis b i mb mi = (not-phi t i (known t i (low.lowered b i mb mi)).1).0

  pub none : has_no_phis t f.blocks ≡ true
  none = all-without-phis t f.blocks without-phis

  none-after : has_no_phis t g.blocks ≡ true
  none-after = none-follow t rs f.blocks g.blocks (form-follows t rs slots live f) none

  way-same : (n n' k : ℕ) → way t g n' k ≡ way t f n k
  way-same n n' k = way-bare t g none-after n' k ∙ sym (way-bare t f none n k)

  ways-same : (n n' : ℕ) (es : List Successor) → map (λ e. way t g n' e.block) es ≡ map (λ e. way t f n e.block) es
  ways-same n n' [] = refl
  ways-same n n' (e ∷ es) = λ k. way-same n n' e.block k ∷ ways-same n n' es k

  module _ (b c : Block) (mb : Member b f.blocks) (h : Follows t rs b c) where
    outs-same : ways_out t g c ≡ ways_out t f b
    outs-same = ap (λ es. map (λ (e : Successor). way t g c.number e.block) es) h.successors ∙ ways-same b.number c.number b.successors

    -- an instruction that stays
    one-renamed : (i : Instr) → Member i b.instrs → item_of t g c (physical_instr t rs i) ≡ renamed_item m (item_of t f b i)
    one-renamed i mi =
        ap (item_of t g c) (instr-same t rs i)
        ∙ law_of_renaming t f g m (λ o. physical_at t rs o o.loc) (keeps-places t rs) b c (λ n. way-same b.number c.number n) outs-same i
        (not-phi t i (known t i (low.lowered b i mb mi)).1).1 (renames-all t f rs clear low plain b i mb mi g)

    -- one that goes

    module _ (i : Instr) (mi : Member i b.instrs) (identity : is_identity t (physical_instr t rs i) ≡ true) where
      copies : effect_of t i ≡ Some effects.Copy
      copies = copy-is (effect_of t i) (first_of_both (does is_copy t i) (moves_nothing (map (physical t rs) i.operands)) identity)

      z : IsGone t rs i
      z =
          gone-is t rs i copies (met t f i effects.Copy copies (low.rules.shaped b i mb mi).operands).3
          (second_of_both (does is_copy t i) (moves_nothing (map (physical t rs) i.operands)) identity)

      there : (o : RegOp) → Member o (z.d ∷ z.s ∷ []) → Member o (registers i.operands)
      there o k = subst (λ os. Member o (registers os)) (sym z.operands) k

      d-named : IsNamed t f rs z.d
      d-named = named t f rs clear low plain b i mb mi z.d (there z.d first)

      s-named : IsNamed t f rs z.s
      s-named = named t f rs clear low plain b i mb mi z.s (there z.s (later first))

      plain-source : z.s.undef ≡ false
      plain-source = go z.s.def z.s.implicit z.s.undef z.reads (none-is is_undef_use z.s (registers i.operands) uses (there z.s (later first)))
        where
          uses : list_any is_undef_use (registers i.operands) ≡ false
          uses = sym (λ k. passes is_copy (copies k) && list_any is_undef_use (registers i.operands)) ∙ (plain b i mb mi).1

          go : (d p u : Bool) → (not d && not p) ≡ true → (not d && u) ≡ false → u ≡ false
          go true p u h e = absurd (cc)
          go false p u h e = e

      writes : copied t f i.operands ≡ moved false (operand_lanes t f z.d) (map FromLane (operand_lanes t f z.s))
      writes =
          ap (copied t f) z.operands
          ∙ ((λ k. moved false (operand_lanes t f z.d) (map (cond (plain-source k) (λ l. Undef) FromLane) (operand_lanes t f z.s)) ++ undefined false (cond (d-named.plain k) (whole_lanes t f z.d.loc) []))
          ∙ append-none (moved false (operand_lanes t f z.d) (map FromLane (operand_lanes t f z.s))))
        where
          append-none : (ws : Writes) → ws ++ [] ≡ ws
          append-none [] = refl
          append-none (w ∷ ws) = ap (λ vs. w ∷ vs) (append-none ws)

      is-copied : item_of t f b i ≡ Silent [] (copied t f i.operands)
      unfolding item_of
      is-copied = ap (λ q. elim q as (λ o. Item) [ None ↦ Silent [] [] | Some x ↦ effect_item t f b i x ]) copies

      united : map m (operand_lanes t f z.d) ≡ map m (operand_lanes t f z.s)
      united =
          let d = stands t f rs clear z.d d-named in
          let s = stands t f rs clear z.s s-named in
          sym (renames t f rs clear g z.d d-named).lanes
          ∙ (same-fixed t g (physical_at t rs z.d z.d.loc) (physical_at t rs z.s z.s.loc) d.0 s.0 d.1 s.1 z.same
          ∙ (renames t f rs clear g z.s s-named).lanes)

      one-deleted : (p q : Code) → Folded m p q → Folded m (item_of t f b i ∷ p) q
      one-deleted p q k =
          subst (λ x. Folded m (x ∷ p) q) (sym (is-copied ∙ ap (Silent []) writes))
          (deleted (sides-vanish m (operand_lanes t f z.d) (operand_lanes t f z.s) united) k)

    instrs-fold : (is : List Instr) → ((i : Instr) → Member i is → Member i b.instrs) → (p q : Code) → Folded m p q
        → Folded m (map (item_of t f b) is ++ p) (map (item_of t g c) (physical_instrs t rs is) ++ q)
    instrs-fold [] w p q k = k
    instrs-fold (i ∷ is) w p q k = go (is_identity t (physical_instr t rs i)) refl (instrs-fold is (λ x n. w x (later n)) p q k)
      where
        go : (u : Bool) → is_identity t (physical_instr t rs i) ≡ u → Folded m (map (item_of t f b) is ++ p) (map (item_of t g c) (physical_instrs t rs is) ++ q)
            → Folded m (item_of t f b i ∷ (map (item_of t f b) is ++ p)) (map (item_of t g c) (cond (not u) (physical_instr t rs i ∷ physical_instrs t rs is) (physical_instrs t rs is)) ++ q)
        go true e rest = one-deleted i (w i first) e (map (item_of t f b) is ++ p) (map (item_of t g c) (physical_instrs t rs is) ++ q) rest
        go false e rest =
            subst (λ x. Folded m (item_of t f b i ∷ (map (item_of t f b) is ++ p)) (x ∷ (map (item_of t g c) (physical_instrs t rs is) ++ q))) (sym (one-renamed i (w i first)))
            (item-folds m (item_of t f b i) (map (item_of t f b) is ++ p) (map (item_of t g c) (physical_instrs t rs is) ++ q) (inside t f b i) rest)

    items-same : map (item_of t g c) c.instrs ≡ map (item_of t g c) (physical_instrs t rs b.instrs)
    items-same = ap (map (item_of t g c)) h.instrs ∙ numbered-items t g c h.id (physical_instrs t rs b.instrs)

    end-same : (bs cs : List Block) → AllFollow t rs bs cs → block_end t g c cs ≡ block_end t f b bs
    end-same bs cs all =
        λ i. BlockEnd (option_map (λ n. (way-same b.number c.number n i).phis) (fallen-same t rs b c h (λ k x e. low.terminators b k x mb e) bs cs (first-same t rs bs cs all) i)) (outs-same i)

    block-folds : (bs cs : List Block) → AllFollow t rs bs cs → Folded m (blocks_code (item_of t f) t f bs) (blocks_code (item_of t g) t g cs) → Folded m (blocks_code (item_of t f) t f (b ∷ bs)) (blocks_code (item_of t g) t g (c ∷ cs))
    block-folds bs cs all rest =
        let p = block_end t f b bs ∷ blocks_code (item_of t f) t f bs in
        let q = block_end t f b bs ∷ blocks_code (item_of t g) t g cs in
        subst (Folded m (blocks_code (item_of t f) t f (b ∷ bs)))
        (sym (λ k. BlockStart (h.number k) ∷ (items-same k ++ (end-same bs cs all k ∷ blocks_code (item_of t g) t g cs))))
        (start (instrs-fold b.instrs (λ i n. n) p q (end rest)))

  blocks-fold : (bs cs : List Block) → AllFollow t rs bs cs → ((b : Block) → Member b bs → Member b f.blocks) → Folded m (blocks_code (item_of t f) t f bs) (blocks_code (item_of t g) t g cs)
  blocks-fold [] [] all w = done
  blocks-fold [] (c ∷ cs) all w = absurd all
  blocks-fold (b ∷ bs) [] all w = absurd all
  blocks-fold (b ∷ bs) (c ∷ cs) all w = block-folds b c (w b first) all.0 bs cs all.1 (blocks-fold bs cs all.1 (λ d n. w d (later n)))

  pub code-folds : Folded m (code_of t f) (code_of t g)
  unfolding code_of
  code-folds = blocks-fold f.blocks g.blocks (form-follows t rs slots live f) (λ b n. n)
