-- The numbers of blocks' starts.
use Rattle.std.proofs.Common.{◌≡◌, ◌≤◌, ◌<◌, ℕ, zero, suc, ◌+◌, ◌*◌, ◌^◌, List, [], ◌∷◌, ◌++◌, length, get_or, drop, Some, refl, sym, ap, ◌∙◌, arith, append_assoc}
use Rattle.std.specs.Prelude.{slice_get, slice_index, nat_lt}
use Rattle.std.specs.List.Sorted.{IsPartitionedBy}
use Rattle.std.proofs.lemmas.Bool.{ltb-true, lt-ltb}
use Rattle.std.proofs.lemmas.List.{drop_more}
use Rattle.slot_index.specs.Order.{number_of}
use Rattle.mir_func.specs.declared.func.Instr.{Instr}
use Rattle.mir_func.specs.declared.func.Block.{Block}
use Rattle.live_lanes.specs.Table.{Numbers, exit_rank}
use Rattle.live_lanes.specs.Ordered.{ids_of, AreRising}
use Rattle.interval_laws.specs.Segments.{behind}
use Rattle.interval_laws.specs.Told.{start_number}
use Rattle.ra_top.specs.Report.Intervals.Told.{start_numbers, AreShort}

-- the numbers of the first k blocks stand in a list, and n is the next
pub record Numbered (bs : List Block) (k : ℕ) (items : List ℕ) (n : ℕ) : Type 0 where
  pub so_far : items ++ start_numbers n (drop k bs) ≡ start_numbers 0 bs
  pub total : n + start_number (drop k bs) (length (drop k bs)) ≡ start_number bs (length bs)

pub none-numbered : (bs : List Block) → Numbered bs 0 [] 0
none-numbered bs = record { so_far = refl; total = omega arith }

-- one block more
pub one-numbered : (bs : List Block) (k : ℕ) (items more : List ℕ) (n m : ℕ) (b : Block) → AreShort bs → k < length bs → b ≡ get_or bs k b → Numbered bs k items n → more ≡ items ++ n ∷ [] → (n + 16 * (length b.instrs + 1) < 2 ^ 128 → m ≡ n + 16 * (length b.instrs + 1)) → Numbered bs (k + 1) more m
one-numbered bs k items more n m b short within at done pushed next = record {
  so_far =
      ap (λ xs. xs ++ start_numbers m (drop (k + 1) bs)) pushed
      ∙ append_assoc items (n ∷ []) (start_numbers m (drop (k + 1) bs))
      ∙ ap (λ q. items ++ n ∷ start_numbers q (drop (k + 1) bs)) same
      ∙ ap (λ bs'. items ++ start_numbers n bs') (sym split)
      ∙ done.so_far;
  total = omega (arith, same, whole, done.total);
}
  where
    split : drop k bs ≡ b ∷ drop (k + 1) bs
    split = drop_more bs k b within ∙ ap (λ x. x ∷ drop (k + 1) bs) (sym at)

    whole : start_number (drop k bs) (length (drop k bs)) ≡ 16 * suc (length b.instrs) + start_number (drop (k + 1) bs) (length (drop (k + 1) bs))
    whole = ap (λ bs'. start_number bs' (length bs')) split

    same : m ≡ behind n b
    same = let z = next (omega (arith, whole, done.total, short)) in omega (arith, z)

-- none is left
pub all-numbered : (bs : List Block) (k : ℕ) (items more : List ℕ) (n : ℕ) → drop k bs ≡ [] → Numbered bs k items n → more ≡ items ++ n ∷ [] → more ≡ start_numbers 0 bs
all-numbered bs k items more n none done pushed = pushed ∙ ap (λ bs'. items ++ start_numbers n bs') (sym none) ∙ done.so_far

-- a number by its place
pub number-in : (n : ℕ) (bs : List Block) (k : ℕ) → k ≤ length bs → slice_index (start_numbers n bs) k ≡ n + start_number bs k
number-in n [] zero le = omega arith
number-in n [] (suc k) le = absurd (omega (arith, le))
number-in n (b ∷ bs) zero le = omega arith
number-in n (b ∷ bs) (suc k) le = let ih = number-in (behind n b) bs k (omega (arith, le)) in ih ∙ omega arith

-- the next block
pub next-start : (bs : List Block) (k : ℕ) (b : Block) → slice_get bs k ≡ Some b → (start_number bs (suc k) ≡ start_number bs k + 16 * suc (length b.instrs)) × (suc k ≤ length bs) × (start_number bs (suc k) ≤ start_number bs (length bs))
next-start [] k b e = absurd (cc)
next-start (c ∷ bs) zero b e =
    let same : c ≡ b = cc in
    let size = ap (λ (x : Block). length x.instrs) same in
    let none = none-before bs in
    (omega (arith, size, none), omega arith, omega (arith, none))
  where
    none-before : (bs : List Block) → start_number bs 0 ≡ 0
    none-before [] = refl
    none-before (d ∷ bs) = refl
next-start (c ∷ bs) (suc k) b e = let ih = next-start bs k b e in let a = ih.0 in let w = ih.1 in let l = ih.2 in (omega (arith, a), omega (arith, w), omega (arith, l))

-- exits rise along a block

module _ (slots : Numbers) where
  rising-above : (n : ℕ) (is : List Instr) (i : ℕ) (d : Instr) → AreRising slots n (ids_of is) → i < length is → n < number_of slots (get_or is i d).id
  rising-above n [] i d r h = absurd (omega arith)
  rising-above n (x ∷ is) zero d r h = r.0
  rising-above n (x ∷ is) (suc i) d r h = let ih = rising-above (number_of slots x.id) is i d r.2 (omega arith) in let low = r.0 in omega arith

  rising-le : (n : ℕ) (is : List Instr) (i j : ℕ) (d : Instr) → AreRising slots n (ids_of is) → i ≤ j → j < length is → number_of slots (get_or is i d).id ≤ number_of slots (get_or is j d).id
  rising-le n [] i j d r w h = absurd (omega arith)
  rising-le n (x ∷ is) zero zero d r w h = omega arith
  rising-le n (x ∷ is) zero (suc j) d r w h = let z = rising-above (number_of slots x.id) is j d r.2 (omega arith) in omega arith
  rising-le n (x ∷ is) (suc i) zero d r w h = absurd (omega arith)
  rising-le n (x ∷ is) (suc i) (suc j) d r w h = rising-le (number_of slots x.id) is i j d r.2 (omega arith) (omega arith)

  pub exits-parted : (at : ℕ) (is : List Instr) → AreRising slots 0 (ids_of is) → IsPartitionedBy (λ i. nat_lt (exit_rank slots i.id) at) is
  exits-parted at is r i j d w h e =
      let x = ltb-true (exit_rank slots (get_or is j d).id) at e in
      let y = rising-le 0 is i j d r w h in
      lt-ltb (exit_rank slots (get_or is i d).id) at (omega arith)
