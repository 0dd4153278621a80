-- Where instructions and blocks stand in the code of a function without phis.
use Rattle.std.proofs.Common.{◌≡◌, ◌≤◌, ◌∙◌, ◌+◌, ◌∷◌, ◌++◌, not, ℕ, zero, suc, Bool, true, false, cond, List, Some, drop, length, map, refl, sym, ap, subst, arith, eq-eqb, eqb-true, []}
use Rattle.std.proofs.lemmas.Bool.{le-ltb, lt-ltb}
use Rattle.std.proofs.lemmas.List.Sums.{sum_by-cons}
use Rattle.std.proofs.lemmas.Option.{slice_get_within}
use Rattle.std.specs.Prelude.{nat_eq, nat_lt, slice_get}
use Rattle.std.specs.List.{list_all}
use Rattle.target_base.specs.declared.types.Target.{Target}
use Rattle.target_base.specs.Rules.{is_phi}
use Rattle.meaning.specs.Code.{BlockStart, Code, Silent, found}
use Rattle.meaning.specs.Live.{Among as Member, here as first, there as later}
use Rattle.mir_func.specs.declared.func.Instr.{Instr}
use Rattle.mir_func.specs.declared.func.Block.{Block}
use Rattle.mir_func.specs.Value.{Function, IsFunction, id_count, id_total}
use Rattle.mir_func.specs.Edits.{instr_place}
use Rattle.mir_func.specs.Binding.{does}
use Rattle.mir_func.proofs.ByPlace.{place_is}
use Rattle.mir_meaning.specs.Codes.{block_end, blocks_code, item_of}
use Rattle.mir_meaning.specs.Items.{defined_undef}
use Rattle.mir_meaning.specs.Points.{block_rest, from_instr, has_instr, has_no_phis, point_item, points_of}
use Rattle.mir_meaning.specs.Rules.{block_numbers}
use Rattle.instr_effects.proofs.Members.{map-in, member-elim, member-none, right-in}
use Rattle.live_laws.proofs.Effects.Blocks.{block_code, items-past}
use Rattle.live_laws.proofs.Effects.Moved.{Apart}
use Rattle.live_laws.proofs.Effects.Moving.{some-same}
use Rattle.lowering_laws.proofs.Formed.{all-by}

-- the place of an instruction whose id stands once

weight : ℕ → Instr → ℕ
weight x i = cond (nat_eq i.id x) 1 0

total : ℕ → Block → ℕ
total x b = id_count x b.instrs

count-of : (is : List Instr) (k : ℕ) (i : Instr) → slice_get is k ≡ Some i → 1 ≤ id_count i.id is
unfolding weight
count-of [] k i e = absurd (cc)
count-of (c ∷ is) zero i e =
    let same : c ≡ i = some-same c i e in
    let one : weight i.id c ≡ 1 = ap (λ b. cond b 1 0) (eq-eqb c.id i.id (ap (λ (x : Instr). x.id) same)) in
    omega (arith, one, sum_by-cons (weight i.id) c is)
count-of (c ∷ is) (suc k) i e = omega (arith, count-of is k i e, sum_by-cons (weight i.id) c is)

no-place : (is : List Instr) (x : ℕ) → id_count x is ≡ 0 → instr_place x is ≡ length is
unfolding weight
no-place [] x h = refl
no-place (c ∷ is) x h = go (nat_eq c.id x) refl (no-place is x)
  where
    go : (b : Bool) → nat_eq c.id x ≡ b → (id_count x is ≡ 0 → instr_place x is ≡ length is) → cond (not b) (1 + instr_place x is) 0 ≡ length (c ∷ is)
    go true g ih = absurd (let one : weight x c ≡ 1 = ap (λ b. cond b 1 0) g in omega (arith, one, h, sum_by-cons (weight x) c is))
    go false g ih =
        let none : weight x c ≡ 0 = ap (λ b. cond b 1 0) g in
        let p : instr_place x is ≡ length is = ih (omega (arith, none, h, sum_by-cons (weight x) c is)) in
        omega (arith, p)

has-at : (b : Block) (k : ℕ) (i : Instr) → slice_get b.instrs k ≡ Some i → id_count i.id b.instrs ≤ 1 → has_instr i.id b ≡ true
has-at b k i e h = ap (λ n. nat_lt n (length b.instrs)) (place_is i.id k i b.instrs e refl h) ∙ lt-ltb k (length b.instrs) (slice_get_within b.instrs k i e)

has-not : (b : Block) (x : ℕ) → id_count x b.instrs ≡ 0 → has_instr x b ≡ false
has-not b x h = let same : length b.instrs ≤ length b.instrs = omega arith in ap (λ n. nat_lt n (length b.instrs)) (no-place b.instrs x h) ∙ le-ltb (length b.instrs) (length b.instrs) same

total-of : (pre : List Block) (b : Block) (after : List Block) (k : ℕ) (i : Instr) → slice_get b.instrs k ≡ Some i → 1 ≤ id_total i.id (pre ++ b ∷ after)
unfolding total
total-of [] b after k i e = omega (arith, count-of b.instrs k i e, sum_by-cons (total i.id) b after)
total-of (c ∷ pre) b after k i e = omega (arith, total-of pre b after k i e, sum_by-cons (total i.id) c (pre ++ b ∷ after))

from-here : (t : Target) (f : Function) (pre : List Block) (b : Block) (after : List Block) (k : ℕ) (i : Instr) → slice_get b.instrs k ≡ Some i → id_total i.id (pre ++ b ∷ after) ≤ 1 → from_instr t f i.id (pre ++ b ∷ after) ≡ block_rest t f b after k
unfolding total
from-here t f [] b after k i e h =
    let n : id_count i.id b.instrs ≤ 1 = omega (arith, h, sum_by-cons (total i.id) b after) in
    ap (λ q. cond q (block_rest t f b after (instr_place i.id b.instrs)) (from_instr t f i.id after)) (has-at b k i e n) ∙ ap (block_rest t f b after) (place_is i.id k i b.instrs e refl n)
from-here t f (c ∷ pre) b after k i e h =
    let n : id_count i.id c.instrs ≡ 0 = omega (arith, h, total-of pre b after k i e, sum_by-cons (total i.id) c (pre ++ b ∷ after)) in
    let m : id_total i.id (pre ++ b ∷ after) ≤ 1 = omega (arith, h, sum_by-cons (total i.id) c (pre ++ b ∷ after)) in
    ap (λ q. cond q (block_rest t f c (pre ++ b ∷ after) (instr_place i.id c.instrs)) (from_instr t f i.id (pre ++ b ∷ after))) (has-not c i.id n) ∙ from-here t f pre b after k i e m

-- lists by what stands before one of them

at-length : {X : Type 0} (pre : List X) (x : X) (after : List X) → slice_get (pre ++ x ∷ after) (length pre) ≡ Some x
at-length [] x after = refl
at-length (y ∷ pre) x after = at-length pre x after

past-length : {X : Type 0} (pre after : List X) → drop (length pre) (pre ++ after) ≡ after
past-length [] after = refl
past-length (y ∷ pre) after = past-length pre after

past-one : {X : Type 0} (pre : List X) (x : X) (after : List X) → drop (suc (length pre)) (pre ++ x ∷ after) ≡ after
past-one [] x after = refl
past-one (y ∷ pre) x after = past-one pre x after

-- what stands before and behind one of a list
pub record Around {X : Type 0} (xs : List X) (x : X) : Type 0 where
  pub front : List X
  pub back : List X
  pub whole : front ++ x ∷ back ≡ xs

pub around : {X : Type 0} (xs : List X) (x : X) → Member x xs → Around xs x
around [] x m = absurd (member-none x m)
around {X = X} (y ∷ xs) x m =
    member-elim x y xs (λ e. record { front = []; back = xs; whole = ap (λ z. z ∷ xs) e }) (λ k. let w = around xs x k in record { front = y ∷ w.front; back = w.back; whole = ap (λ zs. y ∷ zs) w.whole }) m

module _ (t : Target) (f : Function) (whole : IsFunction f.blocks f.next_id) (plain : (b : Block) (i : Instr) → Member b f.blocks → Member i b.instrs → does is_phi t i ≡ false) where
  no-phis : has_no_phis t f.blocks ≡ true
  no-phis = all-by (λ (b : Block). list_all (λ i. not (does is_phi t i)) b.instrs) f.blocks (λ b mb. all-by (λ i. not (does is_phi t i)) b.instrs (λ i mi. ap not (plain b i mb mi)))

  pub point-same : (b : Block) (i : Instr) → does is_phi t i ≡ false → point_item t f b i ≡ item_of t f b i
  unfolding point_item
  point-same b i e = λ k. cond (e k) (Silent [] (defined_undef t f i.operands)) (item_of t f b i)

  points-same : (b : Block) (is : List Instr) → ((i : Instr) → Member i is → does is_phi t i ≡ false) → map (point_item t f b) is ≡ map (item_of t f b) is
  points-same b [] h = refl
  points-same b (i ∷ is) h = λ k. point-same b i (h i first) k ∷ points-same b is (λ j m. h j (later m)) k

  blocks-same : (bs : List Block) → ((b : Block) → Member b bs → Member b f.blocks) → blocks_code (point_item t f) t f bs ≡ blocks_code (item_of t f) t f bs
  blocks-same [] w = refl
  blocks-same (b ∷ bs) w = λ k. BlockStart b.number ∷ (points-same b b.instrs (λ i m. plain b i (w b first) m) k ++ (block_end t f b bs ∷ blocks-same bs (λ c m. w c (later m)) k))

  module _ (pre : List Block) (b : Block) (after : List Block) (blocks : pre ++ b ∷ after ≡ f.blocks) where
    pub inside : Member b f.blocks
    inside = subst (Member b) blocks (right-in b pre (b ∷ after) first)

    later-inside : (c : Block) → Member c after → Member c f.blocks
    later-inside c m = subst (Member c) blocks (right-in c pre (b ∷ after) (later m))

    pub place : slice_get f.blocks (length pre) ≡ Some b
    place = ap (λ bs. slice_get bs (length pre)) (sym blocks) ∙ at-length pre b after

    pub behind : drop (suc (length pre)) f.blocks ≡ after
    behind = ap (drop (suc (length pre))) (sym blocks) ∙ past-one pre b after

    -- the end of the block, and the blocks behind it
    abbrev pub end_code : Code
    end_code = block_end t f b after ∷ blocks_code (item_of t f) t f after

    -- the code from an instruction on
    pub code-at : (front : List Instr) (i : Instr) (back : List Instr) → front ++ i ∷ back ≡ b.instrs → from_instr t f i.id f.blocks ≡ item_of t f b i ∷ (map (item_of t f b) back ++ end_code)
    code-at front i back instrs =
        let at : slice_get b.instrs (length front) ≡ Some i = ap (λ is. slice_get is (length front)) (sym instrs) ∙ at-length front i back in
        let once : id_total i.id (pre ++ b ∷ after) ≤ 1 = subst (λ bs. id_total i.id bs ≤ 1) (sym blocks) (few i.id) in
        let rest : drop (length front) b.instrs ≡ i ∷ back = ap (drop (length front)) (sym instrs) ∙ past-length front (i ∷ back) in
        let there : (j : Instr) → Member j (i ∷ back) → does is_phi t j ≡ false = λ j m. plain b j inside (subst (Member j) instrs (right-in j front (i ∷ back) m)) in
        ap (from_instr t f i.id) (sym blocks)
        ∙ (from-here t f pre b after (length front) i at once
        ∙ (ap (λ is. map (point_item t f b) is ++ (block_end t f b after ∷ blocks_code (point_item t f) t f after)) rest
        ∙ (λ k. points-same b (i ∷ back) there k ++ (block_end t f b after ∷ blocks-same after later-inside k))))
      where
        few : (x : ℕ) → id_total x f.blocks ≤ 1
        few x = let h = whole.once x in let g = below-one (nat_lt x f.next_id) in omega (arith, h, g)
          where
            below-one : (c : Bool) → cond c 1 0 ≤ 1
            below-one true = omega arith
            below-one false = omega arith

    -- the block stands where it is found
    pub found-at : Apart (block_numbers f.blocks) → found b.number (points_of t f) ≡ map (item_of t f b) b.instrs ++ end_code
    unfolding points_of
    found-at apart =
        ap (λ bs. found b.number (blocks_code (point_item t f) t f bs)) (sym blocks)
        ∙ (at-block pre (subst (λ bs. Apart (block_numbers bs)) (sym blocks) apart)
        ∙ (λ k. points-same b b.instrs (λ i m. plain b i inside m) k ++ (block_end t f b after ∷ blocks-same after later-inside k)))
      where
        at-block : (cs : List Block) → Apart (block_numbers (cs ++ b ∷ after)) → found b.number (blocks_code (point_item t f) t f (cs ++ b ∷ after)) ≡ block_code t f b after
        at-block [] a = ap (λ q. cond q (block_code t f b after) (found b.number (block_code t f b after))) (eq-eqb b.number b.number refl)
        at-block (c ∷ cs) a =
            ap (λ q. cond q (block_code t f c (cs ++ b ∷ after)) (found b.number (block_code t f c (cs ++ b ∷ after)))) (other (nat_eq c.number b.number) refl)
            ∙ (items-past t f b.number c c.instrs (block_end t f c (cs ++ b ∷ after) ∷ blocks_code (point_item t f) t f (cs ++ b ∷ after))
            ∙ at-block cs a.1)
          where
            in-numbers : Member b.number (block_numbers (cs ++ b ∷ after))
            in-numbers = map-in (λ (d : Block). d.number) b (cs ++ b ∷ after) (right-in b cs (b ∷ after) first)

            other : (q : Bool) → nat_eq c.number b.number ≡ q → nat_eq c.number b.number ≡ false
            other false g = g
            other true g = absurd (a.0 (subst (λ n. Member n (block_numbers (cs ++ b ∷ after))) (sym (eqb-true c.number b.number g)) in-numbers))
