-- Rows that grow, and the items of instructions.
use Rattle.std.proofs.Common.{◌≡◌, ◌∷◌, ◌++◌, ◌∙◌, true, false, cond, List, [], Some, None, map, option_map, refl, sym, ap, append_assoc}
use Rattle.target_base.specs.declared.types.Effect.{Effect}
use Rattle.target_base.specs.declared.types.Target.{Target}
use Rattle.target_base.specs.Roles.{is_silent}
use Rattle.meaning.specs.declared.types.Row.{Row}
use Rattle.meaning.specs.declared.types.Row.TheVariants.{BothStart, BothEnd, FirstSilent, SecondSilent, BothCounted}
use Rattle.meaning.specs.Rows.{first_target, second_target}
use Rattle.meaning.specs.Code.{BlockStart, BlockEnd, Silent, Counted, Code}
use Rattle.mir_func.specs.declared.func.Instr.{Instr}
use Rattle.mir_func.specs.declared.func.Block.{Block}
use Rattle.mir_func.specs.Value.{Function}
use Rattle.mir_func.specs.Binding.{effect_of, roles_of, is_early_clobber, is_terminator}
use Rattle.mir_meaning.specs.Items.{silent_reads, silent_writes, rest_of, values, counted_writes}
use Rattle.mir_meaning.specs.Codes.{item_of, effect_item, blocks_code, code_of, block_end, way, ways_out, target_of}
use Rattle.alloc_check.specs.Bare.{bare, bare_item, first_bare, second_bare, items, blocks_bare, block_bare, Grown}

pub bare-append : (p q : Code) → bare (p ++ q) ≡ bare p ++ bare q
bare-append [] q = refl
bare-append (i ∷ p) q = ap (λ r. bare_item i ∷ r) (bare-append p q)

pub first-append : (xs ys : List Row) → first_bare (xs ++ ys) ≡ first_bare xs ++ first_bare ys
first-append [] ys = refl
first-append (BothStart n ∷ xs) ys = ap (λ p. BlockStart n ∷ p) (first-append xs ys)
first-append (BothEnd None exits ∷ xs) ys = ap (λ p. BlockEnd None [] ∷ p) (first-append xs ys)
first-append (BothEnd (Some e) exits ∷ xs) ys = ap (λ p. BlockEnd (Some e.0) [] ∷ p) (first-append xs ys)
first-append (FirstSilent reads ws ∷ xs) ys = ap (λ p. Silent [] ws ∷ p) (first-append xs ys)
first-append (SecondSilent reads ws ∷ xs) ys = first-append xs ys
first-append (BothCounted r reads reads' ws ws' target exits ∷ xs) ys = ap (λ p. bare_item (Counted r reads ws (first_target target) []) ∷ p) (first-append xs ys)

pub second-append : (xs ys : List Row) → second_bare (xs ++ ys) ≡ second_bare xs ++ second_bare ys
second-append [] ys = refl
second-append (BothStart n ∷ xs) ys = ap (λ p. BlockStart n ∷ p) (second-append xs ys)
second-append (BothEnd None exits ∷ xs) ys = ap (λ p. BlockEnd None [] ∷ p) (second-append xs ys)
second-append (BothEnd (Some e) exits ∷ xs) ys = ap (λ p. BlockEnd (Some e.1) [] ∷ p) (second-append xs ys)
second-append (FirstSilent reads ws ∷ xs) ys = second-append xs ys
second-append (SecondSilent reads ws ∷ xs) ys = ap (λ p. Silent [] ws ∷ p) (second-append xs ys)
second-append (BothCounted r reads reads' ws ws' target exits ∷ xs) ys = ap (λ p. bare_item (Counted r reads' ws' (second_target target) []) ∷ p) (second-append xs ys)

pub grown-row : (old new : List Row) (row : Row) → new ≡ old ++ row ∷ [] → Grown old (first_bare (row ∷ [])) (second_bare (row ∷ [])) new
grown-row old new row e = record { first = ap first_bare e ∙ first-append old (row ∷ []); second = ap second_bare e ∙ second-append old (row ∷ []) }

pub item-none : (t : Target) (f : Function) (b : Block) (i : Instr) → effect_of t i ≡ None → bare_item (item_of t f b i) ≡ Silent [] []
unfolding item_of
item-none t f b i e = ap (λ o. bare_item (elim o [ None ↦ Silent [] [] | Some x ↦ effect_item t f b i x ])) e

pub item-silent : (t : Target) (f : Function) (b : Block) (i : Instr) (e : Effect) → effect_of t i ≡ Some e → is_silent e ≡ true → bare_item (item_of t f b i) ≡ Silent [] (silent_writes t f e (is_early_clobber (roles_of t i)) i.operands)
unfolding item_of
item-silent t f b i e h s =
    ap (λ o. bare_item (elim o [ None ↦ Silent [] [] | Some x ↦ effect_item t f b i x ])) h
    ∙ ap (λ y. bare_item (cond y (Silent (silent_reads t f e i.operands) (silent_writes t f e (is_early_clobber (roles_of t i)) i.operands)) (Counted (rest_of t f e i) (map (λ v. v.0) (values t f e i)) (counted_writes t f e i) (option_map (way t f b.number) (target_of i.operands)) (cond (is_terminator e) (ways_out t f b) [])))) s

pub item-counted : (t : Target) (f : Function) (b : Block) (i : Instr) (e : Effect) → effect_of t i ≡ Some e → is_silent e ≡ false → bare_item (item_of t f b i) ≡ bare_item (Counted (rest_of t f e i) (map (λ v. v.0) (values t f e i)) (counted_writes t f e i) (option_map (way t f b.number) (target_of i.operands)) [])
unfolding item_of
item-counted t f b i e h s =
    ap (λ o. bare_item (elim o [ None ↦ Silent [] [] | Some x ↦ effect_item t f b i x ])) h
    ∙ ap (λ y. bare_item (cond y (Silent (silent_reads t f e i.operands) (silent_writes t f e (is_early_clobber (roles_of t i)) i.operands)) (Counted (rest_of t f e i) (map (λ v. v.0) (values t f e i)) (counted_writes t f e i) (option_map (way t f b.number) (target_of i.operands)) (cond (is_terminator e) (ways_out t f b) [])))) s

items-bare : (t : Target) (f : Function) (b : Block) (is : List Instr) → bare (map (item_of t f b) is) ≡ items t f b is
items-bare t f b [] = refl
items-bare t f b (i ∷ is) = ap (λ p. bare_item (item_of t f b i) ∷ p) (items-bare t f b is)

-- a block and what comes after it
pub blocks-more : (t : Target) (f : Function) (b : Block) (bs : List Block) → blocks_bare t f (b ∷ bs) ≡ block_bare t f b bs ++ blocks_bare t f bs
blocks-more t f b bs =
    let after = blocks_code (item_of t f) t f bs in
    let end = block_end t f b bs in
    ap (λ p. BlockStart b.number ∷ p)
    (bare-append (map (item_of t f b) b.instrs) (end ∷ after)
    ∙ (ap (λ p. p ++ (bare_item end ∷ bare after)) (items-bare t f b b.instrs)
    ∙ sym (append_assoc (items t f b b.instrs) (bare_item end ∷ []) (bare after))))

pub code-bare : (t : Target) (f : Function) → bare (code_of t f) ≡ blocks_bare t f f.blocks
unfolding code_of
code-bare t f = refl
