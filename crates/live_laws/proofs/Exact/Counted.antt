-- The count that a table gives of a range's points is one of the points of the function.
use Rattle.std.proofs.Common.{◌≡◌, ◌<◌, ℕ, zero, suc, ◌+◌, Bool, true, false, cond, length, List, [], ◌∷◌, ◌++◌, Option, None, Some, refl, sym, ap, ◌∙◌, arith}
use Rattle.std.specs.Prelude.{◌||◌, flat_map, count_by, nat_eq, slice_get}
use Rattle.std.proofs.lemmas.Bool.{eqb-true, eq-eqb}
use Rattle.std.proofs.lemmas.List.Sums.{sum_by-cons, sum_by-append}
use Rattle.meaning.specs.Live.{Among as Member, here as first, there as later}
use Rattle.mir_func.specs.declared.func.Block.{Block}
use Rattle.mir_func.specs.declared.func.Instr.{Instr}
use Rattle.mir_meaning.specs.Points.{Point, Start, Entry, Exit, block_points}
use Rattle.live_lanes.specs.declared.row.LaneRange.{LaneRange}
use Rattle.live_lanes.specs.declared.table.Table.{Table}
use Rattle.live_lanes.specs.Entered.{rows_seen}
use Rattle.live_lanes.specs.Table.{Numbers, entry_rank, exit_rank}
use Rattle.live_lanes.specs.Ordered.{ids_of}
use Rattle.live_lanes.specs.Held.{one, inside, passing, held_at, any_held, block_held, sum_below}

module _ (test : Point → Bool) where
  pub tally-cons : (p : Point) (ps : List Point) → count_by test (p ∷ ps) ≡ one (test p) + count_by test ps
  tally-cons p ps = sum_by-cons (λ q. cond (test q) 1 0) p ps

  tally-append : (ps qs : List Point) → count_by test (ps ++ qs) ≡ count_by test ps + count_by test qs
  tally-append ps qs = sum_by-append (λ q. cond (test q) 1 0) ps qs

  -- a test of points and one of ranks that say the same of these instructions
  abbrev pub AgreesOn : Numbers → (ℕ → Bool) → Instr → Type 0
  AgreesOn slots told i = (test (Entry i.id) ≡ told (entry_rank slots i.id)) × (test (Exit i.id) ≡ told (exit_rank slots i.id))

  instrs-same : (slots : Numbers) (told : ℕ → Bool) (is : List Instr) → ((i : Instr) → Member i is → AgreesOn slots told i) → inside slots told (ids_of is) ≡ count_by test (flat_map (λ (i : Instr). Entry i.id ∷ Exit i.id ∷ []) is)
  instrs-same slots told [] h = refl
  instrs-same slots told (i ∷ is) h =
      let here = h i first in
      let a : one (test (Entry i.id)) ≡ one (told (entry_rank slots i.id)) = ap one here.0 in
      let b : one (test (Exit i.id)) ≡ one (told (exit_rank slots i.id)) = ap one here.1 in
      let more = flat_map (λ (j : Instr). Entry j.id ∷ Exit j.id ∷ []) is in
      let c = tally-cons (Entry i.id) (Exit i.id ∷ more) in
      let d = tally-cons (Exit i.id) more in
      omega (arith, a, b, c, d, instrs-same slots told is (λ j m. h j (later m)))

  pub block-same : (slots : Numbers) (told : ℕ → Bool) (b : Block) → test (Start b.number) ≡ told 0 → ((i : Instr) → Member i b.instrs → AgreesOn slots told i) → passing slots told (ids_of b.instrs) ≡ count_by test (block_points b)
  block-same slots told b s h =
      let a : one (test (Start b.number)) ≡ one (told 0) = ap one s in
      let c = tally-cons (Start b.number) (flat_map (λ (i : Instr). Entry i.id ∷ Exit i.id ∷ []) b.instrs) in
      omega (arith, a, c, instrs-same slots told b.instrs h)

  sum-shift : (f : ℕ → ℕ) (n : ℕ) → sum_below f (suc n) ≡ f 0 + sum_below (λ k. f (suc k)) n
  sum-shift f zero = refl
  sum-shift f (suc n) = let z = sum-shift f n in omega (arith, z)

  sum-same : (f g : ℕ → ℕ) → ((k : ℕ) → f k ≡ g k) → (n : ℕ) → sum_below f n ≡ sum_below g n
  sum-same f g h zero = refl
  sum-same f g h (suc n) = ap (λ a. a + sum_below f n) (h n) ∙ ap (λ a. g n + a) (sum-same f g h n)

  abbrev at : (ℕ → Block → ℕ) → ℕ → List Block → ℕ → ℕ
  at each o bs k = elim (slice_get bs k) [ None ↦ 0 | Some b ↦ each (o + k) b ]

  all-same : (each : ℕ → Block → ℕ) (o : ℕ) (bs : List Block) → ((k : ℕ) (b : Block) → slice_get bs k ≡ Some b → each (o + k) b ≡ count_by test (block_points b)) → sum_below (at each o bs) (length bs) ≡ count_by test (flat_map block_points bs)
  all-same each o [] h = refl
  all-same each o (b ∷ bs) h =
      let step : (k : ℕ) → at each o (b ∷ bs) (suc k) ≡ at each (suc o) bs k = λ k. go k (slice_get bs k) in
      let head : each (o + 0) b ≡ count_by test (block_points b) = h 0 b refl in
      let shift = sum-shift (at each o (b ∷ bs)) (length bs) in
      let same = sum-same (λ k. at each o (b ∷ bs) (suc k)) (at each (suc o) bs) step (length bs) in
      let rest = all-same each (suc o) bs (λ k c e. ap (λ n. each n c) (next k) ∙ h (suc k) c e) in
      let both = tally-append (block_points b) (flat_map block_points bs) in
      omega (arith, head, shift, same, rest, both)
    where
      next : (k : ℕ) → suc o + k ≡ o + suc k
      next k = omega arith

      go : (k : ℕ) (q : Option Block) → ◌≡◌ {A = ℕ} (elim q [ None ↦ 0 | Some c ↦ each (o + suc k) c ]) (elim q [ None ↦ 0 | Some c ↦ each (suc o + k) c ])
      go k None = refl
      go k (Some c) = ap (λ n. each n c) (sym (next k))

-- so many points of the function pass a test that agrees with the table
pub held-count : (test : Point → Bool) (x : Table) (bs : List Block) (low count : ℕ) → ((k : ℕ) (b : Block) → slice_get bs k ≡ Some b → (test (Start b.number) ≡ any_held x.order.slots x.rows.rows.items low count k 0) × ((i : Instr) → Member i b.instrs → AgreesOn test x.order.slots (any_held x.order.slots x.rows.rows.items low count k) i)) → sum_below (block_held x bs low count) (length bs) ≡ count_by test (flat_map block_points bs)
held-count test x bs low count h =
    let each : ℕ → Block → ℕ = λ k b. passing x.order.slots (any_held x.order.slots x.rows.rows.items low count k) (ids_of b.instrs) in
    sum-same test (block_held x bs low count) (at test each 0 bs) same (length bs)
    ∙ all-same test each 0 bs (λ k b e. let z = h k b e in ap (λ n. each n b) (zero-left k) ∙ block-same test x.order.slots (any_held x.order.slots x.rows.rows.items low count k) b z.0 z.1)
  where
    zero-left : (k : ℕ) → 0 + k ≡ k
    zero-left k = omega arith

    same : (k : ℕ) → block_held x bs low count k ≡ elim (slice_get bs k) [ None ↦ 0 | Some b ↦ passing x.order.slots (any_held x.order.slots x.rows.rows.items low count (0 + k)) (ids_of b.instrs) ]
    same k = go (slice_get bs k)
      where
        go : (q : Option Block) → ◌≡◌ {A = ℕ} (elim q [ None ↦ 0 | Some b ↦ passing x.order.slots (any_held x.order.slots x.rows.rows.items low count k) (ids_of b.instrs) ]) (elim q [ None ↦ 0 | Some b ↦ passing x.order.slots (any_held x.order.slots x.rows.rows.items low count (0 + k)) (ids_of b.instrs) ])
        go None = refl
        go (Some b) = ap (λ n. passing x.order.slots (any_held x.order.slots x.rows.rows.items low count n) (ids_of b.instrs)) (sym (zero-left k))

-- one of the lanes is live or occupied just where there is such a lane

pub any-forth : (slots : Numbers) (rows : List LaneRange) (low count b at : ℕ) → any_held slots rows low count b at ≡ true → (j : ℕ) × (j < count) × (held_at slots (rows_seen rows (low + j) b) at ≡ true)
any-forth slots rows low zero b at h = absurd (cc)
any-forth slots rows low (suc n) b at h = go (held_at slots (rows_seen rows (low + n) b) at) refl h (any-forth slots rows low n b at)
  where
    go : (u : Bool) → held_at slots (rows_seen rows (low + n) b) at ≡ u → (u || any_held slots rows low n b at) ≡ true → (any_held slots rows low n b at ≡ true → (j : ℕ) × (j < n) × (held_at slots (rows_seen rows (low + j) b) at ≡ true)) → (j : ℕ) × (j < suc n) × (held_at slots (rows_seen rows (low + j) b) at ≡ true)
    go true e g ih = (n, omega arith, e)
    go false e g ih = let z = ih g in let near = z.1 in (z.0, omega (arith, near), z.2)

pub any-back : (slots : Numbers) (rows : List LaneRange) (low count b at j : ℕ) → j < count → held_at slots (rows_seen rows (low + j) b) at ≡ true → any_held slots rows low count b at ≡ true
any-back slots rows low zero b at j lt h = absurd (omega arith)
any-back slots rows low (suc n) b at j lt h = go (nat_eq j n) refl (λ k. any-back slots rows low n b at j k h)
  where
    unequal : nat_eq j n ≡ false → (j ≡ n) → ⊥
    unequal e q = let z : true ≡ false = sym (eq-eqb j n q) ∙ e in absurd (cc)

    last : (u w : Bool) → w ≡ true → (u || w) ≡ true
    last true w e = refl
    last false w e = e

    go : (u : Bool) → nat_eq j n ≡ u → (j < n → any_held slots rows low n b at ≡ true) → (held_at slots (rows_seen rows (low + n) b) at || any_held slots rows low n b at) ≡ true
    go true e ih = ap (λ u. u || any_held slots rows low n b at) (ap (λ k. held_at slots (rows_seen rows (low + k) b) at) (sym (eqb-true j n e)) ∙ h)
    go false e ih = last (held_at slots (rows_seen rows (low + n) b) at) (any_held slots rows low n b at) (ih (omega (arith, unequal e, lt)))
