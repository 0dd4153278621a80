-- Without phis the code of live points is the code of runs.
use Rattle.std.proofs.Common.{◌≡◌, Bool, true, false, cond, not, ◌&&◌, List, [], ◌∷◌, ◌++◌, map, refl}
use Rattle.std.specs.List.{list_all}
use Rattle.target_base.specs.declared.types.Target.{Target}
use Rattle.target_base.specs.Rules.{is_phi}
use Rattle.meaning.specs.Code.{Silent, BlockStart}
use Rattle.mir_func.specs.declared.func.Instr.{Instr}
use Rattle.mir_func.specs.declared.func.Block.{Block}
use Rattle.mir_func.specs.Value.{Function}
use Rattle.mir_func.specs.Binding.{does}
use Rattle.mir_meaning.specs.Items.{defined_undef}
use Rattle.mir_meaning.specs.Codes.{item_of, block_end, blocks_code, code_of}
use Rattle.mir_meaning.specs.Points.{point_item, points_of, has_no_phis, LawOfPoints}

pub both : (a b : Bool) → (a && b) ≡ true → (a ≡ true) × (b ≡ true)
both true b e = (refl, e)
both false b e = absurd (cc)

chosen : {A : Type 0} (b : Bool) (x y : A) → not b ≡ true → cond b x y ≡ y
chosen true x y e = absurd (cc)
chosen false x y e = refl

same_item : (t : Target) (f : Function) (b : Block) (i : Instr) → not (does is_phi t i) ≡ true → point_item t f b i ≡ item_of t f b i
unfolding point_item
same_item t f b i e = chosen (does is_phi t i) (Silent [] (defined_undef t f i.operands)) (item_of t f b i) e

same_items : (t : Target) (f : Function) (b : Block) (is : List Instr) → list_all (λ i. not (does is_phi t i)) is ≡ true → map (point_item t f b) is ≡ map (item_of t f b) is
same_items t f b [] e = refl
same_items t f b (i ∷ is) e =
    let h = both (not (does is_phi t i)) (list_all (λ j. not (does is_phi t j)) is) e in
    λ k. same_item t f b i h.0 k ∷ same_items t f b is h.1 k

same_blocks : (t : Target) (f : Function) (bs : List Block) → has_no_phis t bs ≡ true → blocks_code (point_item t f) t f bs ≡ blocks_code (item_of t f) t f bs
same_blocks t f [] e = refl
same_blocks t f (b ∷ bs) e =
    let h = both (list_all (λ i. not (does is_phi t i)) b.instrs) (has_no_phis t bs) e in
    λ k. BlockStart b.number ∷ (same_items t f b b.instrs h.0 k ++ (block_end t f b bs ∷ same_blocks t f bs h.1 k))

pub points_are_code : LawOfPoints
unfolding points_of code_of
points_are_code t f e = same_blocks t f f.blocks e
