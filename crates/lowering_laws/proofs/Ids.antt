-- Ids given anew in layout order are distinct, and each is below the number of instructions.
use Rattle.std.proofs.Common.{◌≡◌, ◌<◌, ◌≤◌, ◌+◌, ◌++◌, ◌∙◌, ℕ, suc, Bool, true, false, cond, List, [], ◌∷◌, length, refl, sym, ap, subst, arith, eqb-true}
use Rattle.std.specs.Prelude.{◌==◌, if◌then◌else◌, nat_lt, Option}
use Rattle.std.proofs.lemmas.Bool.{ltb-false, ltb-true}
use Rattle.std.proofs.lemmas.List.Sums.{sum_by-cons}
use Rattle.target_base.specs.declared.types.ClassId.{ClassId}
use Rattle.target_base.specs.declared.types.Target.{Target}
use Rattle.mir_func.specs.declared.func.Instr.{Instr}
use Rattle.mir_func.specs.declared.func.Block.{Block}
use Rattle.mir_func.specs.Value.{Function, IsFunction, id_count, id_total}
use Rattle.phi_elim.specs.declared.arrivals.Arrival.{Arrival}
use Rattle.phi_elim.specs.Numbered.{blocks_numbered, instr_count, numbered, with_new_ids}
use Rattle.phi_elim.specs.Phis.{all_instrs, arrivals_in, lowered_blocks, phi_count, phis_lowered}
use Rattle.two_address.specs.Lowered.{blocks_lowered, classes_made, ties_lowered}
use Rattle.lowering_laws.specs.Laws.{IdsAreDistinct}

abbrev weight : ℕ → Instr → ℕ
weight x i = cond (i.id == x) 1 0

abbrev total : ℕ → Block → ℕ
total x b = id_count x b.instrs

-- of the ids from n on and below m so many are x
record Counts (x n m k : ℕ) : Type 0 where
  pub below : x < n → k ≡ 0
  pub above : m ≤ x → k ≡ 0
  pub once : k ≤ 1

none : (x n m : ℕ) → Counts x n m 0
none x n m = record { below = λ h. refl; above = λ h. refl; once = omega arith }

one : (x n m : ℕ) → m ≡ n + 1 → Counts x n m (cond (n == x) 1 0)
one x n m s = go (n == x) refl
  where
    go : (b : Bool) → (n == x) ≡ b → Counts x n m (cond b 1 0)
    go true e = let same : n ≡ x = eqb-true n x e in record { below = λ h. omega arith; above = λ h. omega arith; once = omega arith }
    go false e = none x n m

both : (x n m p k l : ℕ) → n ≤ m → m ≤ p → Counts x n m k → Counts x m p l → Counts x n p (k + l)
both x n m p k l h g a b = record {
  below = λ s. (let one : k ≡ 0 = a.below s in let two : l ≡ 0 = b.below (omega arith) in omega arith);
  above = λ s. (let one : k ≡ 0 = a.above (omega arith) in let two : l ≡ 0 = b.above s in omega arith);
  once = go (nat_lt x m) refl;
}
  where
    go : (c : Bool) → nat_lt x m ≡ c → k + l ≤ 1
    go true e = let two : l ≡ 0 = b.below (ltb-true x m e) in let one : k ≤ 1 = a.once in omega arith
    go false e = let one : k ≡ 0 = a.above (ltb-false x m e) in let two : l ≤ 1 = b.once in omega arith

module _ (x : ℕ) where
  instrs-count : (n m : ℕ) (is : List Instr) → m ≡ n + length is → Counts x n m (id_count x (numbered n is))
  instrs-count n m [] e = none x n m
  instrs-count n m (i ∷ is) e =
      subst (Counts x n m) (sym (sum_by-cons (weight x) (record i { id = n }) (numbered (n + 1) is)))
      (both x n (n + 1) m (weight x (record i { id = n })) (id_count x (numbered (n + 1) is)) (omega arith) (omega arith) (one x n (n + 1) refl) (instrs-count (n + 1) m is (omega arith)))

  blocks-count : (n m : ℕ) (bs : List Block) → m ≡ n + instr_count bs → Counts x n m (id_total x (blocks_numbered n bs))
  blocks-count n m [] e = none x n m
  blocks-count n m (b ∷ bs) e =
      let more : instr_count (b ∷ bs) ≡ length b.instrs + instr_count bs = sum_by-cons (λ (d : Block). length d.instrs) b bs in
      let k = n + length b.instrs in
      let rest : m ≡ k + instr_count bs = further n (length b.instrs) (instr_count bs) m (e ∙ ap (λ q. n + q) more) in
      subst (Counts x n m) (sym (sum_by-cons (total x) (record b { instrs = numbered n b.instrs }) (blocks_numbered k bs)))
      (both x n k m (id_count x (numbered n b.instrs)) (id_total x (blocks_numbered k bs)) (least n (length b.instrs)) (least-too k (instr_count bs) m rest) (instrs-count n k b.instrs refl) (blocks-count k m bs rest))
    where
      further : (n a b m : ℕ) → m ≡ n + (a + b) → m ≡ (n + a) + b
      further n a b m e = omega arith

      least : (n a : ℕ) → n ≤ n + a
      least n a = omega arith

      least-too : (k a m : ℕ) → m ≡ k + a → k ≤ m
      least-too k a m e = omega arith

numbered-length : (n : ℕ) (bs : List Block) → length (blocks_numbered n bs) ≡ length bs
numbered-length n [] = refl
numbered-length n (b ∷ bs) = ap suc (numbered-length (n + length b.instrs) bs)

bounded : (x m k : ℕ) → Counts x 0 m k → k ≤ (if nat_lt x m then 1 else 0)
bounded x m k c = go (nat_lt x m) refl
  where
    go : (b : Bool) → nat_lt x m ≡ b → k ≤ (if b then 1 else 0)
    go true e = c.once
    go false e = let z : k ≡ 0 = c.above (ltb-false x m e) in omega arith

pub new-ids : (f : Function) → 0 < length f.blocks → IsFunction (with_new_ids f).blocks (with_new_ids f).next_id
new-ids f h = record {
  nonempty = subst (λ n. 0 < n) (sym (numbered-length 0 f.blocks)) h;
  once = λ x. bounded x (instr_count f.blocks) (id_total x (blocks_numbered 0 f.blocks)) (blocks-count x 0 (instr_count f.blocks) f.blocks (omega arith));
}

phis-length : (t : Target) (arrs : List Arrival) (k c : ℕ) (bs : List Block) → length (lowered_blocks t arrs k c bs) ≡ length bs
phis-length t arrs k c [] = refl
phis-length t arrs k c (b ∷ bs) = ap suc (phis-length t arrs (k + 1) (c + phi_count t b.instrs) bs)

ties-length : (t : Target) (cs : List (Option ClassId)) (c : ℕ) (bs : List Block) → length (blocks_lowered t cs c bs) ≡ length bs
ties-length t cs c [] = refl
ties-length t cs c (b ∷ bs) = ap suc (ties-length t cs (c + length (classes_made t cs c b.instrs)) bs)

module _ (t : Target) (f : Function) where
  phis-same : length (phis_lowered t f).blocks ≡ length f.blocks
  unfolding phis_lowered
  phis-same =
      let arrs = arrivals_in t f.blocks (length f.classes) (all_instrs f.blocks) in
      numbered-length 0 (lowered_blocks t arrs 0 (length f.classes) f.blocks) ∙ phis-length t arrs 0 (length f.classes) f.blocks

  ties-ids : 0 < length f.blocks → IsFunction (ties_lowered t f).blocks (ties_lowered t f).next_id
  unfolding ties_lowered
  ties-ids h = new-ids (record f { classes = f.classes ++ classes_made t f.classes (length f.classes) (all_instrs f.blocks); blocks = blocks_lowered t f.classes (length f.classes) f.blocks }) (subst (λ n. 0 < n) (sym (ties-length t f.classes (length f.classes) f.blocks)) h)

pub ids_are_distinct : IdsAreDistinct
ids_are_distinct t f h = ties-ids t (phis_lowered t f) (subst (λ n. 0 < n) (sym (phis-same t f)) h)
