-- Sums of uses, instruction by instruction.
use Rattle.std.proofs.Common.{◌≡◌, ◌∙◌, ℕ, zero, suc, Bool, true, false, cond, ◌+◌, ◌*◌, ◌<◌, ◌≤◌, ◌/◌, ◌-◌, ◌^◌, min, List, [], ◌∷◌, refl, sym, ap, arith, map, length, get_or, take, subst, eq-eqb}
use Rattle.std.specs.Prelude.{Option, Some, None, nat_eq, slice_get}
use Rattle.std.specs.List.{sum_by}
use Rattle.std.proofs.lemmas.List.Sums.{sum_by_more}
use Rattle.std.proofs.lemmas.List.{length-map, take_all}
use Rattle.mir_func.specs.declared.func.Instr.{Instr}
use Rattle.mir_func.specs.declared.func.Block.{Block}
use Rattle.mir_func.specs.Value.{Function}
use Rattle.block_freq.specs.Weights.{naming, use_sum}
use Rattle.live_lanes.specs.declared.table.Table.{Table}
use Rattle.live_lanes.specs.Ordered.{AreHomes, ids_of}
use Rattle.mir_meaning.specs.Paths.{has}
use Rattle.live_lanes.specs.Touching.{FindsInstrs}
use Rattle.evictor.specs.Spots.{IsSpot, uses_at}
use Rattle.evictor.proofs.Spots.{spots, spot_of, uses_are}

capped_more : (m s a x : ℕ) → s ≡ min a m → min (s + x) m ≡ min (a + x) m
capped_more m s a x e = omega arith

-- one instruction more
pub uses_more : (bs : List Block) (freqs : List ℕ) (v m k id sum x : ℕ) (ids : List ℕ) → ids ≡ map (λ (s : ℕ × Instr). s.1.id) (spots v 0 bs) → k < length ids → id ≡ get_or ids k 0 → ((s : ℕ × Instr) → IsSpot bs s → s.1.id ≡ id → x ≡ uses_at freqs v s) → sum ≡ min (sum_by (uses_at freqs v) (take k (spots v 0 bs))) m → min (sum + x) m ≡ min (sum_by (uses_at freqs v) (take (k + 1) (spots v 0 bs))) m
uses_more bs freqs v m k id sum x ids e h at gives was =
    let s = spot_of v k id bs ids e h at in
    let more : sum_by (uses_at freqs v) (take (k + 1) (spots v 0 bs)) ≡ sum_by (uses_at freqs v) (take k (spots v 0 bs)) + uses_at freqs v s.0 = sum_by_more (uses_at freqs v) (spots v 0 bs) k s.0 s.1 ∙ ap (λ (t : ℕ × Instr). sum_by (uses_at freqs v) (take k (spots v 0 bs)) + uses_at freqs v t) s.2 in
    capped_more m sum (sum_by (uses_at freqs v) (take k (spots v 0 bs))) x was ∙ ap (λ n. min (sum_by (uses_at freqs v) (take k (spots v 0 bs)) + n) m) (gives s.0 s.3 s.4) ∙ sym (ap (λ n. min n m) more)

-- an element of a list of instructions is among their ids

listed_at : (is : List Instr) (j : ℕ) (i : Instr) → slice_get is j ≡ Some i → has i.id (ids_of is) ≡ true
listed_at [] j i e = cc
listed_at (x ∷ is) zero i e =
    let same : x ≡ i = cc in
    ap (λ b. cond b true (has i.id (ids_of is))) (ap (λ (y : Instr). nat_eq y.id i.id) same ∙ eq-eqb i.id i.id refl)
listed_at (x ∷ is) (suc j) i e = go (nat_eq x.id i.id) (listed_at is j i e)
  where
    go : (b : Bool) → has i.id (ids_of is) ≡ true → cond b true (has i.id (ids_of is)) ≡ true
    go true h = refl
    go false h = h

-- the block of an instruction that stands at its place
pub home_of : (bs : List Block) (homes : List ℕ) (s : ℕ × Instr) → AreHomes bs homes → IsSpot bs s → get_or homes s.1.id 0 ≡ s.0
home_of bs homes s are at = are s.0 at.0 s.1.id at.2 (listed_at at.0.instrs at.1 s.1 at.3)

-- what an instruction there uses of a range
pub used_here : (bs : List Block) (homes freqs : List ℕ) (v id : ℕ) (s : ℕ × Instr) (position freq count : ℕ) (i : Instr) → AreHomes bs homes → IsSpot bs s → s.1.id ≡ id → position ≡ get_or homes id 0 → freq ≡ get_or freqs position 0 → count ≡ naming v i → i ≡ s.1 → freq * count ≡ uses_at freqs v s
used_here bs homes freqs v id s position freq count i are at is stands often counted same =
    let home : position ≡ s.0 = stands ∙ ap (λ n. get_or homes n 0) (sym is) ∙ home_of bs homes s are at in
    let f : freq ≡ get_or freqs s.0 0 = often ∙ ap (λ n. get_or freqs n 0) home in
    let n : count ≡ naming v s.1 = counted ∙ ap (naming v) same in
    ap (λ x. x * count) f ∙ ap (λ x. get_or freqs s.0 0 * x) n

-- all instructions
pub uses_all : (bs : List Block) (freqs : List ℕ) (v m k sum : ℕ) (ids : List ℕ) → ids ≡ map (λ (s : ℕ × Instr). s.1.id) (spots v 0 bs) → length ids ≤ k → sum ≡ min (sum_by (uses_at freqs v) (take k (spots v 0 bs))) m → sum ≡ min (use_sum bs freqs v) m
uses_all bs freqs v m k sum ids e h was =
    let many : length (spots v 0 bs) ≤ k = omega (arith, ap length e, length-map (spots v 0 bs) (λ (s : ℕ × Instr). s.1.id)) in
    was ∙ ap (λ xs. min (sum_by (uses_at freqs v) xs) m) (take_all k (spots v 0 bs) many) ∙ ap (λ n. min n m) (uses_are freqs v bs)

-- the weight by sum and points, where these are small enough
pub weighed : (u uses product points p : ℕ) → 1024 * u < 2 ^ 128 → uses ≡ min u (2 ^ 128 - 1) → product ≡ min (uses * 1024) (2 ^ 128 - 1) → points ≡ p → product / (points + 8) ≡ 1024 * u / (p + 8)
weighed u uses product points p small summed times counted =
    let whole : product ≡ 1024 * u = omega arith in
    ap (λ n. n / (points + 8)) whole ∙ ap (λ n. 1024 * u / (n + 8)) counted
