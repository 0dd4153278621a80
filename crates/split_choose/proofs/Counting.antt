-- What the instructions that touch a range add to a block, in which they stand or not.
use Rattle.std.proofs.Common.{◌≡◌, ◌∙◌, ℕ, zero, suc, ◌+◌, ◌*◌, ◌<◌, List, [], ◌∷◌, Bool, true, false, cond, arith, refl, sym, ap, map, Some}
use Rattle.std.specs.Prelude.{nat_eq, ◌||◌, ◌&&◌, filter, count_by, slice_get, fold}
use Rattle.std.specs.List.{list_any, sum_by}
use Rattle.std.proofs.lemmas.Bool.{eq-eqb, ne_eqb}
use Rattle.std.proofs.lemmas.List.Sums.{sum_by-cons, fold-append}
use Rattle.target_base.specs.declared.types.Target.{Target}
use Rattle.mir_func.specs.declared.func.RegOp.{RegOp}
use Rattle.mir_func.specs.declared.func.Operand.{Operand}
use Rattle.mir_func.specs.declared.func.Operand.TheVariants as operands
use Rattle.mir_func.specs.declared.func.Instr.{Instr}
use Rattle.mir_func.specs.declared.func.Block.{Block}
use Rattle.mir_func.specs.Binding.{does, is_terminator, registers}
use Rattle.mir_meaning.specs.Points.{is_range, counts, touches}
use Rattle.block_freq.specs.Weights.{names, naming}
use Rattle.split_choose.specs.Regions.{capped}
use Rattle.split_choose.specs.Places.{Site, sites_from}
use Rattle.split_choose.specs.Built.{Told, counted, used}

-- an instruction that doesn't touch the range doesn't name it

module _ (v : ℕ) where
  abbrev names_register : RegOp → Bool
  names_register o = is_range v o.loc && counts o

  none-named : (os : List Operand) → list_any names_register (registers os) ≡ false → count_by (names v) os ≡ 0
  none-named [] h = refl
  none-named (operands.Reg o ∷ os) h = go (names_register o) refl (none-named os)
    where
      go : (b : Bool) → names_register o ≡ b → (list_any names_register (registers os) ≡ false → count_by (names v) os ≡ 0) → count_by (names v) (operands.Reg o ∷ os) ≡ 0
      go true e ih = let z : true ≡ false = sym (ap (λ b. b || list_any names_register (registers os)) e) ∙ h in cc
      go false e ih = rw e (ih (sym (ap (λ b. b || list_any names_register (registers os)) e) ∙ h))
  none-named (_ ∷ os) h = none-named os h

  untouched : (i : Instr) → touches v i ≡ false → naming v i ≡ 0
  untouched i h = none-named i.operands h

-- sums that stop at the greatest number, behind so much

abbrev pub reaching : Told → ℕ → ℕ → Told
reaching s a e = record s { uses = capped a; end_uses = capped e }

module _ (t : Target) (v : ℕ) where
  abbrev term : Instr → Bool
  term = does is_terminator t

  abbrev ended : ℕ → Instr → ℕ → ℕ
  ended f i e = cond (term i) (e + f * naming v i) e

  capped-twice : (a x : ℕ) → capped (capped a + x) ≡ capped (a + x)
  capped-twice a x = omega arith

  one-counted : (s : Told) (a e : ℕ) (i : Instr) → counted t v i (reaching s a e) ≡ reaching s (a + s.frequency * naming v i) (ended s.frequency i e)
  one-counted s a e i = ap (λ u. record s { uses = u; end_uses = cond (term i) (capped (capped e + s.frequency * naming v i)) (capped e) }) (capped-twice a (s.frequency * naming v i)) ∙ ap (λ u. record s { uses = capped (a + s.frequency * naming v i); end_uses = u }) (by_case (term i))
    where
      by_case : (b : Bool) → cond b (capped (capped e + s.frequency * naming v i)) (capped e) ≡ capped (cond b (e + s.frequency * naming v i) e)
      by_case true = capped-twice e (s.frequency * naming v i)
      by_case false = refl

  abbrev site_of : ℕ → List Instr → Instr → Site
  site_of k among i = record { position = k; among = among; instr = i }

  abbrev all_used : Told → List Site → Told
  all_used s ss = fold (λ r site. used t v site r) s ss

  abbrev counts_all : ℕ → List Instr → ℕ
  counts_all f is = f * sum_by (naming v) is

  abbrev counts_ends : ℕ → List Instr → ℕ
  counts_ends f is = f * sum_by (naming v) (filter term is)

  more-all : (f a : ℕ) (i : Instr) (is : List Instr) → (a + f * naming v i) + counts_all f is ≡ a + counts_all f (i ∷ is)
  more-all f a i is = let c = sum_by-cons (naming v) i is in ap (λ n. (a + f * naming v i) + n) refl ∙ (spread (naming v i) (sum_by (naming v) is) ∙ ap (λ n. a + f * n) (sym c))
    where
      spread : (n m : ℕ) → (a + f * n) + f * m ≡ a + f * (n + m)
      spread n m = omega arith

  none-all : (f a : ℕ) (i : Instr) (is : List Instr) → naming v i ≡ 0 → a + counts_all f is ≡ a + counts_all f (i ∷ is)
  none-all f a i is z = ap (λ n. a + f * n) (sym (sum_by-cons (naming v) i is ∙ (ap (λ n. n + sum_by (naming v) is) z ∙ nothing (sum_by (naming v) is))))
    where
      nothing : (n : ℕ) → 0 + n ≡ n
      nothing n = omega arith

  more-ends : (f e : ℕ) (i : Instr) (is : List Instr) → ended f i e + counts_ends f is ≡ e + counts_ends f (i ∷ is)
  more-ends f e i is = go (term i) refl
    where
      go : (b : Bool) → term i ≡ b → ended f i e + counts_ends f is ≡ e + counts_ends f (i ∷ is)
      go true h = rw h (more-all f e i (filter term is))
      go false h = rw h refl

  none-ends : (f e : ℕ) (i : Instr) (is : List Instr) → naming v i ≡ 0 → e + counts_ends f is ≡ e + counts_ends f (i ∷ is)
  none-ends f e i is z = go (term i) refl
    where
      go : (b : Bool) → term i ≡ b → e + counts_ends f is ≡ e + counts_ends f (i ∷ is)
      go true h = rw h (none-all f e i (filter term is) z)
      go false h = rw h refl

  -- those of the block
  sites-here : (s : Told) (k : ℕ) (among : List Instr) → nat_eq s.position k ≡ true → (a e : ℕ) (is : List Instr) → all_used (reaching s a e) (map (site_of k among) (filter (touches v) is)) ≡ reaching s (a + counts_all s.frequency is) (e + counts_ends s.frequency is)
  sites-here s k among at a e [] =
      let z : (n : ℕ) → n ≡ n + s.frequency * 0 = λ n. omega arith in
      ap (λ n. reaching s n e) (z a) ∙ ap (λ n. reaching s (a + s.frequency * 0) n) (z e)
  sites-here s k among at a e (i ∷ is) = go (touches v i) refl (sites-here s k among at (a + s.frequency * naming v i) (ended s.frequency i e) is) (sites-here s k among at a e is)
    where
      go : (b : Bool) → touches v i ≡ b
          → all_used (reaching s (a + s.frequency * naming v i) (ended s.frequency i e)) (map (site_of k among) (filter (touches v) is)) ≡ reaching s ((a + s.frequency * naming v i) + counts_all s.frequency is) (ended s.frequency i e + counts_ends s.frequency is)
          → all_used (reaching s a e) (map (site_of k among) (filter (touches v) is)) ≡ reaching s (a + counts_all s.frequency is) (e + counts_ends s.frequency is)
          → all_used (reaching s a e) (map (site_of k among) (filter (touches v) (i ∷ is))) ≡ reaching s (a + counts_all s.frequency (i ∷ is)) (e + counts_ends s.frequency (i ∷ is))
      go true h ih skip =
          ap (λ js. all_used (reaching s a e) (map (site_of k among) js)) (ap (λ b. cond b (i ∷ filter (touches v) is) (filter (touches v) is)) h)
          ∙ (ap (λ r. all_used r (map (site_of k among) (filter (touches v) is))) (ap (λ b. cond b (counted t v i (reaching s a e)) (reaching s a e)) at ∙ one-counted s a e i)
          ∙ (ih ∙ (ap (λ n. reaching s n (ended s.frequency i e + counts_ends s.frequency is)) (more-all s.frequency a i is) ∙ ap (λ n. reaching s (a + counts_all s.frequency (i ∷ is)) n) (more-ends s.frequency e i is))))
      go false h ih skip =
          let z = untouched v i h in
          ap (λ js. all_used (reaching s a e) (map (site_of k among) js)) (ap (λ b. cond b (i ∷ filter (touches v) is) (filter (touches v) is)) h)
          ∙ (skip ∙ (ap (λ n. reaching s n (e + counts_ends s.frequency is)) (none-all s.frequency a i is z) ∙ ap (λ n. reaching s (a + counts_all s.frequency (i ∷ is)) n) (none-ends s.frequency e i is z)))

  -- those of another one
  sites-away : (s : Told) (k : ℕ) (among : List Instr) → nat_eq s.position k ≡ false → (is : List Instr) → all_used s (map (site_of k among) is) ≡ s
  sites-away s k among at [] = refl
  sites-away s k among at (i ∷ is) = ap (λ r. all_used r (map (site_of k among) is)) (ap (λ b. cond b (counted t v i s) s) at) ∙ sites-away s k among at is

  later-away : (s : Told) (k : ℕ) (bs : List Block) → s.position < k → all_used s (sites_from v k bs) ≡ s
  later-away s k [] h = refl
  later-away s k (b ∷ bs) h =
      let other : nat_eq s.position k ≡ false = ne_eqb s.position k (λ e. (let z : ⊥ = omega arith in z)) in
      fold-append (λ r site. used t v site r) s (map (site_of k b.instrs) (filter (touches v) b.instrs)) (sites_from v (suc k) bs)
      ∙ (ap (λ r. all_used r (sites_from v (suc k) bs)) (sites-away s k b.instrs other (filter (touches v) b.instrs)) ∙ later-away s (suc k) bs (omega arith))

  -- those of all blocks
  pub used-all : (s : Told) (k j : ℕ) (bs : List Block) (b : Block) → s.position ≡ k + j → slice_get bs j ≡ Some b → (a e : ℕ) → all_used (reaching s a e) (sites_from v k bs) ≡ reaching s (a + counts_all s.frequency b.instrs) (e + counts_ends s.frequency b.instrs)
  used-all s k j [] b at is a e = cc
  used-all s k zero (c ∷ bs) b at is a e =
      let same : c ≡ b = cc in
      let here : nat_eq s.position k ≡ true = eq-eqb s.position k (omega arith) in
      fold-append (λ r site. used t v site r) (reaching s a e) (map (site_of k c.instrs) (filter (touches v) c.instrs)) (sites_from v (suc k) bs)
      ∙ (ap (λ r. all_used r (sites_from v (suc k) bs)) (sites-here s k c.instrs here a e c.instrs)
      ∙ (later-away (reaching s (a + counts_all s.frequency c.instrs) (e + counts_ends s.frequency c.instrs)) (suc k) bs (let h : s.position < suc k = omega arith in h)
      ∙ ap (λ (d : Block). reaching s (a + counts_all s.frequency d.instrs) (e + counts_ends s.frequency d.instrs)) same))
  used-all s k (suc j) (c ∷ bs) b at is a e =
      let other : nat_eq s.position k ≡ false = ne_eqb s.position k (λ e. (let z : ⊥ = omega arith in z)) in
      fold-append (λ r site. used t v site r) (reaching s a e) (map (site_of k c.instrs) (filter (touches v) c.instrs)) (sites_from v (suc k) bs)
      ∙ (ap (λ r. all_used r (sites_from v (suc k) bs)) (sites-away (reaching s a e) k c.instrs other (filter (touches v) c.instrs))
      ∙ used-all s (suc k) j bs b (omega arith) is a e)
