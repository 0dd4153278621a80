-- Where an instruction of a function with distinct ids stands in its code.
use Rattle.std.proofs.Common.{◌≡◌, ◌≤◌, ◌⊎◌, inl, inr, ℕ, zero, suc, ◌+◌, Bool, true, false, cond, not, List, [], ◌∷◌, ◌++◌, Some, length, drop, map, refl, sym, ap, ◌∙◌, subst, arith, eqb, eq-eqb, le_refl}
use Rattle.std.specs.Prelude.{nat_lt, slice_get}
use Rattle.std.proofs.lemmas.Bool.{le-ltb, lt-ltb}
use Rattle.std.proofs.lemmas.List.Sums.{sum_by-cons}
use Rattle.std.proofs.lemmas.Option.{slice_get_within}
use Rattle.target_base.specs.declared.types.Target.{Target}
use Rattle.meaning.specs.Live.{Among as Member}
use Rattle.mir_func.specs.declared.func.Instr.{Instr}
use Rattle.mir_func.specs.declared.func.Block.{Block}
use Rattle.mir_func.specs.Value.{Function, IsFunction, id_count, id_total}
use Rattle.mir_func.specs.Edits.{instr_place}
use Rattle.mir_meaning.specs.Points.{Exit, Point, block_rest, from_instr, has_instr}
use Rattle.instr_effects.proofs.Members.{map-of, member-elim, member-none}
use Rattle.live_laws.proofs.Effects.Blocks.{member-slice}
use Rattle.live_laws.proofs.Effects.Moved.{Apart}
use Rattle.live_laws.proofs.Effects.Moving.{some-same}
use Rattle.split_kit.specs.Split.{last_point}
use Rattle.split_choose.specs.Offers.{View, first_id, gap_behind}

weight : ℕ → Instr → ℕ
weight x i = cond (eqb i.id x) 1 0

total : ℕ → Block → ℕ
total x b = id_count x b.instrs

count-of : (is : List Instr) (k : ℕ) (i : Instr) → slice_get is k ≡ Some i → 1 ≤ id_count i.id is
unfolding weight
count-of [] k i e = absurd (cc)
count-of (c ∷ is) zero i e =
    let same : c ≡ i = some-same c i e in
    let one : weight i.id c ≡ 1 = ap (λ b. cond b 1 0) (eq-eqb c.id i.id (ap (λ (x : Instr). x.id) same)) in
    omega (arith, one, sum_by-cons (weight i.id) c is)
count-of (c ∷ is) (suc k) i e = omega (arith, count-of is k i e, sum_by-cons (weight i.id) c is)

place-is : (is : List Instr) (k : ℕ) (i : Instr) → slice_get is k ≡ Some i → id_count i.id is ≤ 1 → instr_place i.id is ≡ k
unfolding weight
place-is [] k i e h = absurd (cc)
place-is (c ∷ is) zero i e h = ap (λ b. cond (not b) (1 + instr_place i.id is) 0) (eq-eqb c.id i.id (ap (λ (x : Instr). x.id) (some-same c i e)))
place-is (c ∷ is) (suc k) i e h = go (eqb c.id i.id) refl (place-is is k i e)
  where
    go : (b : Bool) → eqb c.id i.id ≡ b → (id_count i.id is ≤ 1 → instr_place i.id is ≡ k) → cond (not b) (1 + instr_place i.id is) 0 ≡ suc k
    go true g ih = absurd (let one : weight i.id c ≡ 1 = ap (λ b. cond b 1 0) g in omega (arith, one, h, count-of is k i e, sum_by-cons (weight i.id) c is))
    go false g ih =
        let none : weight i.id c ≡ 0 = ap (λ b. cond b 1 0) g in
        let p : instr_place i.id is ≡ k = ih (omega (arith, none, h, sum_by-cons (weight i.id) c is)) in
        omega (arith, p)

no-place : (is : List Instr) (x : ℕ) → id_count x is ≡ 0 → instr_place x is ≡ length is
unfolding weight
no-place [] x h = refl
no-place (c ∷ is) x h = go (eqb c.id x) refl (no-place is x)
  where
    go : (b : Bool) → eqb c.id x ≡ b → (id_count x is ≡ 0 → instr_place x is ≡ length is) → cond (not b) (1 + instr_place x is) 0 ≡ length (c ∷ is)
    go true g ih = absurd (let one : weight x c ≡ 1 = ap (λ b. cond b 1 0) g in omega (arith, one, h, sum_by-cons (weight x) c is))
    go false g ih =
        let none : weight x c ≡ 0 = ap (λ b. cond b 1 0) g in
        let p : instr_place x is ≡ length is = ih (omega (arith, none, h, sum_by-cons (weight x) c is)) in
        omega (arith, p)

has-at : (b : Block) (k : ℕ) (i : Instr) → slice_get b.instrs k ≡ Some i → id_count i.id b.instrs ≤ 1 → has_instr i.id b ≡ true
has-at b k i e h = ap (λ n. nat_lt n (length b.instrs)) (place-is b.instrs k i e h) ∙ lt-ltb k (length b.instrs) (slice_get_within b.instrs k i e)

has-not : (b : Block) (x : ℕ) → id_count x b.instrs ≡ 0 → has_instr x b ≡ false
has-not b x h = ap (λ n. nat_lt n (length b.instrs)) (no-place b.instrs x h) ∙ le-ltb (length b.instrs) (length b.instrs) (le_refl (length b.instrs))

total-of : (pre : List Block) (b : Block) (after : List Block) (k : ℕ) (i : Instr) → slice_get b.instrs k ≡ Some i → 1 ≤ id_total i.id (pre ++ b ∷ after)
unfolding total
total-of [] b after k i e = omega (arith, count-of b.instrs k i e, sum_by-cons (total i.id) b after)
total-of (c ∷ pre) b after k i e = omega (arith, total-of pre b after k i e, sum_by-cons (total i.id) c (pre ++ b ∷ after))

from-here : (t : Target) (f : Function) (pre : List Block) (b : Block) (after : List Block) (k : ℕ) (i : Instr) → slice_get b.instrs k ≡ Some i → id_total i.id (pre ++ b ∷ after) ≤ 1 → from_instr t f i.id (pre ++ b ∷ after) ≡ block_rest t f b after k
unfolding total
from-here t f [] b after k i e h =
    let n : id_count i.id b.instrs ≤ 1 = omega (arith, h, sum_by-cons (total i.id) b after) in
    ap (λ q. cond q (block_rest t f b after (instr_place i.id b.instrs)) (from_instr t f i.id after)) (has-at b k i e n) ∙ ap (block_rest t f b after) (place-is b.instrs k i e n)
from-here t f (c ∷ pre) b after k i e h =
    let n : id_count i.id c.instrs ≡ 0 = omega (arith, h, total-of pre b after k i e, sum_by-cons (total i.id) c (pre ++ b ∷ after)) in
    let m : id_total i.id (pre ++ b ∷ after) ≤ 1 = omega (arith, h, sum_by-cons (total i.id) c (pre ++ b ∷ after)) in
    ap (λ q. cond q (block_rest t f c (pre ++ b ∷ after) (instr_place i.id c.instrs)) (from_instr t f i.id (pre ++ b ∷ after))) (has-not c i.id n) ∙ from-here t f pre b after k i e m

-- the gap behind an instruction
gap-here : (t : Target) (f : Function) (v : ℕ) (view : View) (pre : List Block) (b : Block) (after : List Block) (k : ℕ) (i : Instr) → slice_get b.instrs k ≡ Some i → id_total i.id (pre ++ b ∷ after) ≤ 1 → gap_behind t f v view i.id (pre ++ b ∷ after) ≡ first_id (drop (k + 1) b.instrs)
unfolding total
gap-here t f v view [] b after k i e h =
    let n : id_count i.id b.instrs ≤ 1 = omega (arith, h, sum_by-cons (total i.id) b after) in
    ap (λ q. cond q (first_id (drop (instr_place i.id b.instrs + 1) b.instrs)) (gap_behind t f v view i.id after)) (has-at b k i e n) ∙ ap (λ m. first_id (drop (m + 1) b.instrs)) (place-is b.instrs k i e n)
gap-here t f v view (c ∷ pre) b after k i e h =
    let n : id_count i.id c.instrs ≡ 0 = omega (arith, h, total-of pre b after k i e, sum_by-cons (total i.id) c (pre ++ b ∷ after)) in
    let m : id_total i.id (pre ++ b ∷ after) ≤ 1 = omega (arith, h, sum_by-cons (total i.id) c (pre ++ b ∷ after)) in
    ap (λ q. cond q (first_id (drop (instr_place i.id c.instrs + 1) c.instrs)) (gap_behind t f v view i.id (pre ++ b ∷ after))) (has-not c i.id n) ∙ gap-here t f v view pre b after k i e m

-- lists by what stands before one of them

at-length : {X : Type 0} (pre : List X) (x : X) (after : List X) → slice_get (pre ++ x ∷ after) (length pre) ≡ Some x
at-length [] x after = refl
at-length (y ∷ pre) x after = at-length pre x after

past-length : {X : Type 0} (pre after : List X) → drop (length pre) (pre ++ after) ≡ after
past-length [] after = refl
past-length (y ∷ pre) after = past-length pre after

next-number : (n : ℕ) → n + 1 ≡ suc n
next-number n = omega arith

past-one : {X : Type 0} (pre : List X) (x : X) (after : List X) → drop (suc (length pre)) (pre ++ x ∷ after) ≡ after
past-one [] x after = refl
past-one (y ∷ pre) x after = past-one pre x after

below-one : (b : Bool) → cond b 1 0 ≤ 1
below-one true = omega arith
below-one false = omega arith

-- so ids of a block are apart

ids-apart : (is : List Instr) → ((x : ℕ) → id_count x is ≤ 1) → Apart (map (λ (i : Instr). i.id) is)
unfolding weight
ids-apart [] h = tt
ids-apart (i ∷ is) h = (λ m. again m, ids-apart is (λ x. let g = h x in omega (arith, g, sum_by-cons (weight x) i is)))
  where
    again : Member i.id (map (λ (c : Instr). c.id) is) → ⊥
    again m =
        let z = map-of (λ (c : Instr). c.id) i.id is m in
        let y = member-slice z.0 is z.1 in
        let more : 1 ≤ id_count i.id is = subst (λ n. 1 ≤ id_count n is) (sym z.2) (count-of is y.0 z.0 y.1) in
        let one : weight i.id i ≡ 1 = ap (λ b. cond b 1 0) (eq-eqb i.id i.id refl) in
        let g = h i.id in
        omega (arith, g, more, one, sum_by-cons (weight i.id) i is)

count-within : (x : ℕ) (bs : List Block) (b : Block) → Member b bs → id_count x b.instrs ≤ id_total x bs
unfolding total
count-within x [] b m = absurd (member-none b m)
count-within x (c ∷ bs) b m =
    member-elim b c bs
    (λ e. subst (λ (d : Block). id_count x d.instrs ≤ id_total x (c ∷ bs)) (sym e) (omega (arith, sum_by-cons (total x) c bs)))
    (λ k. omega (arith, count-within x bs b k, sum_by-cons (total x) c bs)) m

pub block-ids-apart : (f : Function) → IsFunction f.blocks f.next_id → (b : Block) → Member b f.blocks → Apart (map (λ (i : Instr). i.id) b.instrs)
block-ids-apart f whole b mb = ids-apart b.instrs (λ x. let h = whole.once x in let g = below-one (nat_lt x f.next_id) in omega (arith, h, g, count-within x f.blocks b mb))

module _ (t : Target) (f : Function) (whole : IsFunction f.blocks f.next_id) (pre : List Block) (b : Block) (after : List Block) (blocks : pre ++ b ∷ after ≡ f.blocks) (front : List Instr) (i : Instr) (back : List Instr) (instrs : front ++ i ∷ back ≡ b.instrs) where
  -- the code from that instruction on
  pub code-at : from_instr t f i.id f.blocks ≡ block_rest t f b after (length front)
  code-at =
      let place : slice_get b.instrs (length front) ≡ Some i = ap (λ is. slice_get is (length front)) (sym instrs) ∙ at-length front i back in
      let once : id_total i.id (pre ++ b ∷ after) ≤ 1 = subst (λ bs. id_total i.id bs ≤ 1) (sym blocks) (few i.id) in
      ap (from_instr t f i.id) (sym blocks) ∙ from-here t f pre b after (length front) i place once
    where
      few : (x : ℕ) → id_total x f.blocks ≤ 1
      few x = let h = whole.once x in let g = below-one (nat_lt x f.next_id) in omega (arith, h, g)

  pub gap-at : (v : ℕ) (view : View) → gap_behind t f v view i.id f.blocks ≡ first_id back
  gap-at v view =
      let place : slice_get b.instrs (length front) ≡ Some i = ap (λ is. slice_get is (length front)) (sym instrs) ∙ at-length front i back in
      let once : id_total i.id (pre ++ b ∷ after) ≤ 1 = subst (λ bs. id_total i.id bs ≤ 1) (sym blocks) (few i.id) in
      ap (gap_behind t f v view i.id) (sym blocks)
      ∙ (gap-here t f v view pre b after (length front) i place once
      ∙ (ap (λ n. first_id (drop n b.instrs)) (next-number (length front))
      ∙ (ap (λ is. first_id (drop (suc (length front)) is)) (sym instrs) ∙ ap first_id (past-one front i back))))
    where
      few : (x : ℕ) → id_total x f.blocks ≤ 1
      few x = let h = whole.once x in let g = below-one (nat_lt x f.next_id) in omega (arith, h, g)

  pub rest-at : drop (length front) b.instrs ≡ i ∷ back
  rest-at = ap (drop (length front)) (sym instrs) ∙ past-length front (i ∷ back)

-- the point at a block's end: its start, where it is empty, or else the exit of the last instruction
pub record EndsWith (p : Point) (is : List Instr) : Type 0 where
  pub front : List Instr
  pub last : Instr
  pub instrs : front ++ last ∷ [] ≡ is
  pub point : last_point p is ≡ Exit last.id

pub end-of : (p : Point) (is : List Instr) → (is ≡ []) ⊎ EndsWith p is
end-of p [] = inl refl
end-of p (i ∷ []) = inr (record { front = []; last = i; instrs = refl; point = refl })
end-of p (i ∷ j ∷ is) = go (end-of (Exit i.id) (j ∷ is))
  where
    go : ◌≡◌ {A = List Instr} (j ∷ is) [] ⊎ EndsWith (Exit i.id) (j ∷ is) → ◌≡◌ {A = List Instr} (i ∷ j ∷ is) [] ⊎ EndsWith p (i ∷ j ∷ is)
    go (inl e) = absurd (cc)
    go (inr z) = inr (record { front = i ∷ z.front; last = z.last; instrs = ap (λ xs. i ∷ xs) z.instrs; point = z.point })
