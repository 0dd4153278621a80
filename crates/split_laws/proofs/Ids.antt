-- The ids of a function with a range split: those that it had, and new ones, each once.
use Rattle.std.proofs.Common.{◌≡◌, ◌<◌, ◌≤◌, ◌+◌, ◌-◌, not, ◌&&◌, ◌++◌, ◌∙◌, ℕ, suc, Bool, true, false, cond, List, [], ◌∷◌, Some, None, length, refl, sym, ap, subst, arith, eqb-true, le_refl, length-append}
use Rattle.std.specs.Prelude.{◌==◌, if◌then◌else◌, nat_eq, nat_lt}
use Rattle.std.proofs.lemmas.Bool.{ltb-false, ltb-true}
use Rattle.std.proofs.lemmas.List.Sums.{sum_by-append, sum_by-cons}
use Rattle.target_base.specs.Numbers.{op_number}
use Rattle.mir_func.specs.declared.func.Operand.{Operand}
use Rattle.mir_func.specs.declared.func.Instr.{Instr}
use Rattle.mir_func.specs.declared.func.Block.{Block}
use Rattle.mir_func.specs.Edits.{made}
use Rattle.mir_func.specs.Value.{Function, IsFunction, id_count, id_total}
use Rattle.mir_meaning.specs.Points.{Entry, Point, Start}
use Rattle.mir_meaning.specs.Renaming.{renamed_instr}
use Rattle.live_lanes.specs.declared.ask.labels.Mark.{Mark}
use Rattle.split_kit.specs.Split.{as_part, block_split, blocks_split, changed, instrs_split, label_behind, last_point, number_behind, part, split_by, start_label, whole}

abbrev weight : ℕ → Instr → ℕ
weight x i = cond (i.id == x) 1 0

abbrev total : ℕ → Block → ℕ
total x b = id_count x b.instrs

-- so many of new ids from n on and below m are x
record Adds (x n m k : ℕ) : Type 0 where
  pub below : x < n → k ≡ 0
  pub above : m ≤ x → k ≡ 0
  pub once : k ≤ 1

no-more : (x n : ℕ) → Adds x n n 0
no-more x n = record { below = λ h. refl; above = λ h. refl; once = omega arith }

one-more : (x n m : ℕ) → m ≡ n + 1 → Adds x n m (cond (n == x) 1 0)
one-more x n m s = go (n == x) refl
  where
    go : (b : Bool) → (n == x) ≡ b → Adds x n m (cond b 1 0)
    go true e = let same : n ≡ x = eqb-true n x e in record { below = λ h. omega arith; above = λ h. omega arith; once = omega arith }
    go false e = record { below = λ h. refl; above = λ h. refl; once = omega arith }

both-add : (x n m p k l : ℕ) → n ≤ m → m ≤ p → Adds x n m k → Adds x m p l → Adds x n p (k + l)
both-add x n m p k l h g a b = record {
  below = λ s. (let one : k ≡ 0 = a.below s in let two : l ≡ 0 = b.below (omega arith) in omega arith);
  above = λ s. (let one : k ≡ 0 = a.above (omega arith) in let two : l ≡ 0 = b.above s in omega arith);
  once = go (nat_lt x m) refl;
}
  where
    go : (c : Bool) → nat_lt x m ≡ c → k + l ≤ 1
    go true e = let two : l ≡ 0 = b.below (ltb-true x m e) in let one : k ≤ 1 = a.once in omega arith
    go false e = let one : k ≡ 0 = a.above (ltb-false x m e) in let two : l ≤ 1 = b.once in omega arith

module _ (live : Point → Bool) (f : Function) (v : ℕ) (ms : List Mark) (x : ℕ) where
  -- instructions became more by new ones
  record Grown (n : ℕ) (is js : List Instr) : Type 0 where
    pub size : ℕ
    pub added : ℕ
    pub counts : id_count x js ≡ id_count x is + added
    pub longer : length js ≡ length is + size
    pub adds : Adds x n (n + size) added

  copies-grown : (n : ℕ) (c : Bool) (os : List Operand) → Grown n [] (cond c (made n (op_number 0) os ∷ []) [])
  copies-grown n true os = record {
    size = 1;
    added = cond (n == x) 1 0;
    counts = sum_by-cons (weight x) (made n (op_number 0) os) [] ∙ omega arith;
    longer = refl;
    adds = one-more x n (n + 1) refl;
  }
  copies-grown n false os = record { size = 0; added = 0; counts = refl; longer = refl; adds = subst (λ m. Adds x n m 0) (omega arith) (no-more x n) }

  changed-grown : (n : ℕ) (is_live : Bool) (from to : ℕ) → Grown n [] (changed f n is_live from to)
  changed-grown n is_live from to = copies-grown n (is_live && not (nat_eq from to)) (whole true (part f to) ∷ whole false (part f from) ∷ [])

  module _ (b : Block) where
    grown-by : (n : ℕ) (cs : List Instr) (i j : Instr) (is rest : List Instr) → j.id ≡ i.id → Grown n [] cs → Grown (n + length cs) is rest → Grown n (i ∷ is) (cs ++ j ∷ rest)
    grown-by n cs i j is rest same c r =
        let cl : length cs ≡ c.size = omega (arith, c.longer) in
        let cn : id_count x cs ≡ 0 + c.added = c.counts in
        let rc : id_count x rest ≡ id_count x is + r.added = r.counts in
        let rl : length rest ≡ length is + r.size = r.longer in
        let w : weight x j ≡ weight x i = ap (λ k. cond (k == x) 1 0) same in
        record {
          size = c.size + r.size;
          added = c.added + r.added;
          counts =
              sum_by-append (weight x) cs (j ∷ rest)
              ∙ (ap (λ k. id_count x cs + k) (sum_by-cons (weight x) j rest)
              ∙ (sums (id_count x cs) (weight x j) (weight x i) (id_count x rest) (id_count x is) c.added r.added cn w rc
              ∙ ap (λ k. k + (c.added + r.added)) (sym (sum_by-cons (weight x) i is))));
          longer = length-append cs (j ∷ rest) ∙ lengths (length cs) (length rest) (length is) c.size r.size cl rl;
          adds =
              both-add x n (n + c.size) (n + (c.size + r.size)) c.added r.added (omega arith) (omega arith) c.adds
              (subst (λ m. Adds x (n + c.size) m r.added) (sym (assoc n c.size r.size)) (subst (λ m. Adds x (n + m) ((n + m) + r.size) r.added) cl r.adds));
        }
      where
        sums : (a p q d e k l : ℕ) → a ≡ 0 + k → p ≡ q → d ≡ e + l → a + (p + d) ≡ (q + e) + (k + l)
        sums a p q d e k l h g s = omega arith

        lengths : (a d e k l : ℕ) → a ≡ k → d ≡ e + l → a + suc d ≡ suc e + (k + l)
        lengths a d e k l h g = omega arith

        assoc : (a k l : ℕ) → a + (k + l) ≡ (a + k) + l
        assoc a k l = omega arith

    instrs-grown : (n now : ℕ) (is : List Instr) → Grown n is (instrs_split live f v ms n b now is)
    instrs-grown n now [] = changed-grown n (live (last_point (Start b.number) b.instrs)) now (label_behind ms b.number None now)
    instrs-grown n now (i ∷ is) =
        let to = label_behind ms b.number (Some i.id) now in
        let copies = changed f n (live (Entry i.id)) now to in
        grown-by n copies i (renamed_instr (as_part f v to) i) is (instrs_split live f v ms (n + length copies) b to is) refl
        (changed-grown n (live (Entry i.id)) now to) (instrs-grown (n + length copies) to is)

  -- blocks too
  record AllGrown (n m : ℕ) (bs cs : List Block) : Type 0 where
    pub added : ℕ
    pub counts : id_total x cs ≡ id_total x bs + added
    pub adds : Adds x n m added
    pub further : n ≤ m

  blocks-grown : (n : ℕ) (bs : List Block) → AllGrown n (number_behind live f v ms n bs) bs (blocks_split live f v ms n bs)
  blocks-grown n [] = record { added = 0; counts = refl; adds = no-more x n; further = le_refl n }
  blocks-grown n (b ∷ bs) =
      let c = block_split live f v ms n b in
      let g = instrs-grown b n (start_label ms b.number) b.instrs in
      let m = number_behind live f v ms n (b ∷ []) in
      let r = blocks-grown m bs in
      let next : m ≡ n + g.size = behind n (length c.instrs) (length b.instrs) g.size g.longer in
      record {
        added = g.added + r.added;
        counts =
            sum_by-cons (total x) c (blocks_split live f v ms m bs)
            ∙ (sums (id_count x c.instrs) (id_count x b.instrs) (id_total x (blocks_split live f v ms m bs)) (id_total x bs) g.added r.added g.counts r.counts
            ∙ ap (λ k. k + (g.added + r.added)) (sym (sum_by-cons (total x) b bs)));
        adds =
            both-add x n m (number_behind live f v ms m bs) g.added r.added (least n m g.size next) r.further
            (subst (λ k. Adds x n k g.added) (sym next) g.adds) r.adds;
        further = (let one = least n m g.size next in let two : m ≤ number_behind live f v ms m bs = r.further in omega arith);
      }
    where
      behind : (n k l s : ℕ) → k ≡ l + s → n + (k - l) ≡ n + s
      behind n k l s h = omega arith

      least : (n m s : ℕ) → m ≡ n + s → n ≤ m
      least n m s h = omega arith

      sums : (p q d e k l : ℕ) → p ≡ q + k → d ≡ e + l → p + d ≡ (q + e) + (k + l)
      sums p q d e k l h g = omega arith

module _ (live : Point → Bool) (f : Function) (v : ℕ) (ms : List Mark) (is : IsFunction f.blocks f.next_id) where
  some-block : (n : ℕ) (bs : List Block) → 0 < length bs → 0 < length (blocks_split live f v ms n bs)
  some-block n [] h = h
  some-block n (b ∷ bs) h = omega arith

  bounded : (x n m s a k : ℕ) → n ≤ m → Adds x n m k → a ≡ s + k → s ≤ (if nat_lt x n then 1 else 0) → a ≤ (if nat_lt x m then 1 else 0)
  bounded x n m s a k h d e g = go (nat_lt x n) (nat_lt x m) refl refl g
    where
      go : (p q : Bool) → nat_lt x n ≡ p → nat_lt x m ≡ q → s ≤ (if p then 1 else 0) → a ≤ (if q then 1 else 0)
      go true true y z w = let none : k ≡ 0 = d.below (ltb-true x n y) in omega arith
      go true false y z w = absurd (omega (arith, ltb-true x n y, ltb-false x m z))
      go false true y z w = let one : k ≤ 1 = d.once in omega arith
      go false false y z w = let none : k ≡ 0 = d.above (ltb-false x m z) in omega arith

  pub split-function : IsFunction (split_by live f v ms).blocks (split_by live f v ms).next_id
  unfolding split_by
  split-function = record {
    nonempty = some-block f.next_id f.blocks is.nonempty;
    once = λ x. (let g = blocks-grown live f v ms x f.next_id f.blocks in bounded x f.next_id (number_behind live f v ms f.next_id f.blocks) (id_total x f.blocks) (id_total x (blocks_split live f v ms f.next_id f.blocks)) g.added g.further g.adds g.counts (is.once x));
  }
