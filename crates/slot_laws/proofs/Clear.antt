-- Where slots that clash aren't made one, no instruction writes a slot whose home another slot has that is live then.
use Rattle.std.proofs.Common.{◌≡◌, ◌⊎◌, ◌≤◌, ℕ, zero, suc, ◌+◌, Bool, true, false, cond, not, List, [], ◌∷◌, ◌++◌, Some, map, length, drop, inl, inr, refl, sym, ap, ◌∙◌, subst, arith, eqb, eq-eqb, le_refl, append_assoc}
use Rattle.std.specs.Prelude.{nat_lt, slice_get}
use Rattle.std.proofs.lemmas.Bool.{le-ltb, lt-ltb}
use Rattle.std.proofs.lemmas.List.Sums.{sum_by-cons}
use Rattle.std.proofs.lemmas.Option.{slice_get_within}
use Rattle.target_base.specs.declared.types.Target.{Target}
use Rattle.meaning.specs.declared.types.Lane.{Lane}
use Rattle.meaning.specs.declared.types.Lane.TheVariants.{VirtualLane, UnitLane, SlotLane}
use Rattle.meaning.specs.declared.types.Write.{Write}
use Rattle.meaning.specs.Code.{Item, BlockStart, Code}
use Rattle.meaning.specs.Live.{Among as Member, writes_of, Live, LiveAfter, Writing, WritingEarly, OccupiedBefore, OccupiedAfter}
use Rattle.meaning.specs.Fold.{Quiet, QuietAt}
use Rattle.laws.proofs.Quiet.{same-false}
use Rattle.mir_func.specs.declared.func.Instr.{Instr}
use Rattle.mir_func.specs.declared.func.Block.{Block}
use Rattle.mir_func.specs.Value.{Function, IsFunction, id_count, id_total}
use Rattle.mir_func.specs.Edits.{instr_place}
use Rattle.mir_meaning.specs.Registers.{is_reserved}
use Rattle.mir_meaning.specs.Codes.{block_end, blocks_code}
use Rattle.mir_meaning.specs.Points.{AtFirst, Entry, Exit, block_rest, from_instr, has_instr, point_item, points_of}
use Rattle.instr_effects.proofs.Members.{member-none}
use Rattle.live_laws.proofs.Effects.Moving.{some-same}
use Rattle.slot_laws.specs.Homes.{AreHomes}
use Rattle.slot_laws.proofs.Still.{merged_lane}

-- where the instruction of an id stands

weight : ℕ → Instr → ℕ
weight x i = cond (eqb i.id x) 1 0

total : ℕ → Block → ℕ
total x b = id_count x b.instrs

count-of : (is : List Instr) (k : ℕ) (i : Instr) → slice_get is k ≡ Some i → 1 ≤ id_count i.id is
unfolding weight
count-of [] k i e = absurd (cc)
count-of (c ∷ is) zero i e =
    let same : c ≡ i = some-same c i e in
    let one : weight i.id c ≡ 1 = ap (λ b. cond b 1 0) (eq-eqb c.id i.id (ap (λ (x : Instr). x.id) same)) in
    omega (arith, one, sum_by-cons (weight i.id) c is)
count-of (c ∷ is) (suc k) i e = omega (arith, count-of is k i e, sum_by-cons (weight i.id) c is)

place-is : (is : List Instr) (k : ℕ) (i : Instr) → slice_get is k ≡ Some i → id_count i.id is ≤ 1 → instr_place i.id is ≡ k
unfolding weight
place-is [] k i e h = absurd (cc)
place-is (c ∷ is) zero i e h = ap (λ b. cond (not b) (1 + instr_place i.id is) 0) (eq-eqb c.id i.id (ap (λ (x : Instr). x.id) (some-same c i e)))
place-is (c ∷ is) (suc k) i e h = go (eqb c.id i.id) refl (place-is is k i e)
  where
    go : (b : Bool) → eqb c.id i.id ≡ b → (id_count i.id is ≤ 1 → instr_place i.id is ≡ k) → cond (not b) (1 + instr_place i.id is) 0 ≡ suc k
    go true g ih = absurd (let one : weight i.id c ≡ 1 = ap (λ b. cond b 1 0) g in omega (arith, one, h, count-of is k i e, sum_by-cons (weight i.id) c is))
    go false g ih =
        let none : weight i.id c ≡ 0 = ap (λ b. cond b 1 0) g in
        let p : instr_place i.id is ≡ k = ih (omega (arith, none, h, sum_by-cons (weight i.id) c is)) in
        omega (arith, p)

no-place : (is : List Instr) (x : ℕ) → id_count x is ≡ 0 → instr_place x is ≡ length is
unfolding weight
no-place [] x h = refl
no-place (c ∷ is) x h = go (eqb c.id x) refl (no-place is x)
  where
    go : (b : Bool) → eqb c.id x ≡ b → (id_count x is ≡ 0 → instr_place x is ≡ length is) → cond (not b) (1 + instr_place x is) 0 ≡ length (c ∷ is)
    go true g ih = absurd (let one : weight x c ≡ 1 = ap (λ b. cond b 1 0) g in omega (arith, one, h, sum_by-cons (weight x) c is))
    go false g ih =
        let none : weight x c ≡ 0 = ap (λ b. cond b 1 0) g in
        let p : instr_place x is ≡ length is = ih (omega (arith, none, h, sum_by-cons (weight x) c is)) in
        omega (arith, p)

has-at : (b : Block) (k : ℕ) (i : Instr) → slice_get b.instrs k ≡ Some i → id_count i.id b.instrs ≤ 1 → has_instr i.id b ≡ true
has-at b k i e h = ap (λ n. nat_lt n (length b.instrs)) (place-is b.instrs k i e h) ∙ lt-ltb k (length b.instrs) (slice_get_within b.instrs k i e)

has-not : (b : Block) (x : ℕ) → id_count x b.instrs ≡ 0 → has_instr x b ≡ false
has-not b x h = ap (λ n. nat_lt n (length b.instrs)) (no-place b.instrs x h) ∙ le-ltb (length b.instrs) (length b.instrs) (le_refl (length b.instrs))

total-of : (pre : List Block) (b : Block) (after : List Block) (k : ℕ) (i : Instr) → slice_get b.instrs k ≡ Some i → 1 ≤ id_total i.id (pre ++ b ∷ after)
unfolding total
total-of [] b after k i e = omega (arith, count-of b.instrs k i e, sum_by-cons (total i.id) b after)
total-of (c ∷ pre) b after k i e = omega (arith, total-of pre b after k i e, sum_by-cons (total i.id) c (pre ++ b ∷ after))

from-here : (t : Target) (f : Function) (pre : List Block) (b : Block) (after : List Block) (k : ℕ) (i : Instr) → slice_get b.instrs k ≡ Some i → id_total i.id (pre ++ b ∷ after) ≤ 1 → from_instr t f i.id (pre ++ b ∷ after) ≡ block_rest t f b after k
unfolding total
from-here t f [] b after k i e h =
    let n : id_count i.id b.instrs ≤ 1 = omega (arith, h, sum_by-cons (total i.id) b after) in
    ap (λ q. cond q (block_rest t f b after (instr_place i.id b.instrs)) (from_instr t f i.id after)) (has-at b k i e n) ∙ ap (block_rest t f b after) (place-is b.instrs k i e n)
from-here t f (c ∷ pre) b after k i e h =
    let n : id_count i.id c.instrs ≡ 0 = omega (arith, h, total-of pre b after k i e, sum_by-cons (total i.id) c (pre ++ b ∷ after)) in
    let m : id_total i.id (pre ++ b ∷ after) ≤ 1 = omega (arith, h, sum_by-cons (total i.id) c (pre ++ b ∷ after)) in
    ap (λ q. cond q (block_rest t f c (pre ++ b ∷ after) (instr_place i.id c.instrs)) (from_instr t f i.id (pre ++ b ∷ after))) (has-not c i.id n) ∙ from-here t f pre b after k i e m

drop-first : {X : Type 0} (xs : List X) (k : ℕ) (x : X) (ys : List X) → drop k xs ≡ x ∷ ys → (slice_get xs k ≡ Some x) × (drop (suc k) xs ≡ ys)
drop-first [] zero x ys e = absurd (cc)
drop-first [] (suc k) x ys e = absurd (cc)
drop-first (y ∷ xs) zero x ys e = (cc, cc)
drop-first (y ∷ xs) (suc k) x ys e = drop-first xs k x ys e

-- Slots that go to one, at an item: of two that are written both at once, or one beside one that is live, none is another.
pub record QuietSlots (reserved : Lane → Bool) (h : ℕ → ℕ) (code : Code) (i : Item) (p : Code) : Type 0 where
  pub written : (r j y s k x : ℕ) → Writing i (SlotLane r j y) → Writing i (SlotLane s k x) → h r ≡ h s → r ≡ s
  pub after : (r j y s k x : ℕ) → Writing i (SlotLane r j y) → LiveAfter reserved code i p (SlotLane s k x) → h r ≡ h s → r ≡ s
  pub early : (r j y s k x : ℕ) → WritingEarly i (SlotLane r j y) → Live reserved code (i ∷ p) (SlotLane s k x) → h r ≡ h s → r ≡ s

abbrev pub AllQuiet : (Lane → Bool) → (ℕ → ℕ) → Code → Code → Type 0
AllQuiet reserved h code [] = Unit {0}
AllQuiet reserved h code (i ∷ p) = QuietSlots reserved h code i p × AllQuiet reserved h code p

-- an item that writes nothing
quiet-idle : (reserved : Lane → Bool) (h : ℕ → ℕ) (code : Code) (i : Item) (p : Code) → writes_of i ≡ [] → QuietSlots reserved h code i p
quiet-idle reserved h code i p e = record {
  written = λ r j y s k x w v g. absurd (member-none w.0 (subst (Member w.0) e w.1));
  after = λ r j y s k x w v g. absurd (member-none w.0 (subst (Member w.0) e w.1));
  early = λ r j y s k x w v g. absurd (member-none w.0 (subst (Member w.0) e w.1));
}

-- lanes with one image are one, or lanes of slots that go to one
pub merged-cases : (h : ℕ → ℕ) (a b : Lane) → merged_lane h a ≡ merged_lane h b → (a ≡ b) ⊎ ((s : ℕ) × (r : ℕ) × (k : ℕ) × (w : ℕ) × (a ≡ SlotLane s k w) × (b ≡ SlotLane r k w) × (h s ≡ h r))
merged-cases h (VirtualLane v k) (VirtualLane w l) e = inl e
merged-cases h (UnitLane u) (UnitLane w) e = inl e
merged-cases h (SlotLane s k w) (SlotLane r j x) e =
    let one : k ≡ j = cc in
    let two : w ≡ x = cc in
    inr (s, r, k, w, refl, (λ i. SlotLane r (sym one i) (sym two i)), cc)
merged-cases h (VirtualLane v k) (UnitLane w) e = absurd (cc)
merged-cases h (VirtualLane v k) (SlotLane r j x) e = absurd (cc)
merged-cases h (UnitLane u) (VirtualLane w l) e = absurd (cc)
merged-cases h (UnitLane u) (SlotLane r j x) e = absurd (cc)
merged-cases h (SlotLane s k w) (VirtualLane v l) e = absurd (cc)
merged-cases h (SlotLane s k w) (UnitLane u) e = absurd (cc)

module _ (reserved : Lane → Bool) (h : ℕ → ℕ) (code : Code) where
  quiet-at : (i : Item) (p : Code) → QuietSlots reserved h code i p → QuietAt reserved code (merged_lane h) i p
  quiet-at i p q w x c l e s = go (merged-cases h l w.lane e)
    where
      one : (a b k y : ℕ) → l ≡ SlotLane a k y → w.lane ≡ SlotLane b k y → b ≡ a → ⊥
      one a b k y g d same = same-false l w.lane s (g ∙ ap (λ n. SlotLane n k y) (sym same) ∙ sym d)

      go : (l ≡ w.lane) ⊎ ((a : ℕ) × (b : ℕ) × (k : ℕ) × (y : ℕ) × (l ≡ SlotLane a k y) × (w.lane ≡ SlotLane b k y) × (h a ≡ h b)) → (LiveAfter reserved code i p l → ⊥) × ((v : Write) → Member v (writes_of i) → v.lane ≡ l → ⊥) × (w.early ≡ true → Live reserved code (i ∷ p) l → ⊥)
      go (inl g) = absurd (same-false l w.lane s g)
      go (inr z) = (
        (λ live. one z.0 z.1 z.2 z.3 z.4 z.5 (q.after z.1 z.2 z.3 z.0 z.2 z.3 (w, x, z.5) (subst (LiveAfter reserved code i p) z.4 live) (sym z.6))),
        (λ v y g. one z.0 z.1 z.2 z.3 z.4 z.5 (q.written z.1 z.2 z.3 z.0 z.2 z.3 (w, x, z.5) (v, y, g ∙ z.4) (sym z.6))),
        (λ early live. one z.0 z.1 z.2 z.3 z.4 z.5 (q.early z.1 z.2 z.3 z.0 z.2 z.3 (w, x, z.5, early) (subst (Live reserved code (i ∷ p)) z.4 live) (sym z.6))),
      )

  pub all-quiet : (p : Code) → AllQuiet reserved h code p → Quiet reserved code (merged_lane h) p
  all-quiet [] q = tt
  all-quiet (i ∷ p) q = (quiet-at i p q.0, all-quiet p q.1)

-- the slots of a function, which go to others without a clash
module _ (t : Target) (f : Function) (h : ℕ → ℕ) (function : IsFunction f.blocks f.next_id) (homes : AreHomes t f h) where
  abbrev R : Lane → Bool
  R = is_reserved t

  once : (x : ℕ) → id_total x f.blocks ≤ 1
  once x = go (nat_lt x f.next_id) (function.once x)
    where
      go : (b : Bool) → id_total x f.blocks ≤ cond b 1 0 → id_total x f.blocks ≤ 1
      go true e = e
      go false e = omega (arith, e)

  module _ (pre : List Block) (b : Block) (after : List Block) (whole : pre ++ b ∷ after ≡ f.blocks) where
    abbrev tail : Code
    tail = block_end t f b after ∷ blocks_code (point_item t f) t f after

    module _ (k : ℕ) (i : Instr) (is : List Instr) (left : drop k b.instrs ≡ i ∷ is) where
      abbrev item : Item
      item = point_item t f b i

      abbrev rest : Code
      rest = map (point_item t f b) is ++ tail

      stands : from_instr t f i.id f.blocks ≡ item ∷ rest
      stands =
          let z = drop-first b.instrs k i is left in
          ap (from_instr t f i.id) (sym whole) ∙ from-here t f pre b after k i z.0 (subst (λ bs. id_total i.id bs ≤ 1) (sym whole) (once i.id)) ∙ ap (λ js. map (point_item t f b) js ++ tail) left

      at-exit : (r j y s l x : ℕ) → OccupiedAfter R (points_of t f) item rest (SlotLane r j y) → OccupiedAfter R (points_of t f) item rest (SlotLane s l x) → h r ≡ h s → r ≡ s
      at-exit r j y s l x o u e =
          homes.apart r s (Exit i.id) j y l x (subst (AtFirst (λ a p. OccupiedAfter R (points_of t f) a p (SlotLane r j y))) (sym stands) o) (subst (AtFirst (λ a p. OccupiedAfter R (points_of t f) a p (SlotLane s l x))) (sym stands) u) e

      at-entry : (r j y s l x : ℕ) → OccupiedBefore R (points_of t f) item rest (SlotLane r j y) → OccupiedBefore R (points_of t f) item rest (SlotLane s l x) → h r ≡ h s → r ≡ s
      at-entry r j y s l x o u e =
          homes.apart r s (Entry i.id) j y l x (subst (AtFirst (λ a p. OccupiedBefore R (points_of t f) a p (SlotLane r j y))) (sym stands) o) (subst (AtFirst (λ a p. OccupiedBefore R (points_of t f) a p (SlotLane s l x))) (sym stands) u) e

      quiet-item : QuietSlots R h (points_of t f) item rest
      quiet-item = record {
        written = λ r j y s l x w v e. at-exit r j y s l x (inr w, refl) (inr v, refl) e;
        after = λ r j y s l x w v e. at-exit r j y s l x (inr w, refl) (inl v, refl) e;
        early = λ r j y s l x w v e. at-entry r j y s l x (inr w, refl) (inl v, refl) e;
      }

    quiet-items : (k : ℕ) (is : List Instr) → drop k b.instrs ≡ is → AllQuiet R h (points_of t f) tail → AllQuiet R h (points_of t f) (map (point_item t f b) is ++ tail)
    quiet-items k [] e q = q
    quiet-items k (i ∷ is) e q = (quiet-item k i is e, quiet-items (suc k) is (drop-first b.instrs k i is e).1 q)

  quiet-blocks : (pre bs : List Block) → pre ++ bs ≡ f.blocks → AllQuiet R h (points_of t f) (blocks_code (point_item t f) t f bs)
  quiet-blocks pre [] e = tt
  quiet-blocks pre (b ∷ bs) e =
      let more = quiet-blocks (pre ++ b ∷ []) bs (append_assoc pre (b ∷ []) bs ∙ e) in
      (quiet-idle R h (points_of t f) (BlockStart b.number) _ refl, quiet-items pre b bs e 0 b.instrs refl (quiet-idle R h (points_of t f) (block_end t f b bs) _ refl, more))

  points-are : blocks_code (point_item t f) t f f.blocks ≡ points_of t f
  unfolding points_of
  points-are = refl

  pub points-quiet : AllQuiet R h (points_of t f) (points_of t f)
  points-quiet = subst (AllQuiet R h (points_of t f)) points-are (quiet-blocks [] f.blocks refl)
