-- The terminators at the end of a block.
use Rattle.std.proofs.Common.{◌≡◌, ◌∙◌, ℕ, zero, suc, ◌-◌, ◌<◌, ◌≤◌, List, [], ◌∷◌, Bool, true, false, cond, refl, sym, ap, length, drop, get_or, arith}
use Rattle.std.proofs.lemmas.List.{drop_all, drop_more}
use Rattle.std.specs.Prelude.{None, Some, slice_get, filter}
use Rattle.std.specs.List.{list_all}
use Rattle.std.proofs.lemmas.Bool.{and_parts, true≢false}
use Rattle.target_base.specs.declared.types.Target.{Target}
use Rattle.mir_func.specs.declared.func.Instr.{Instr}
use Rattle.mir_func.specs.Binding.{does, is_terminator}
use Rattle.split_choose.specs.Seen.{ends_in_terminators}
use Rattle.split_choose.specs.Offers.{first_id, last_id}

pub filter_every : {X : Type 0} (f : X → Bool) (xs : List X) → list_all f xs ≡ true → filter f xs ≡ xs
filter_every f [] h = refl
filter_every f (x ∷ xs) h = let p = and_parts (f x) (list_all f xs) h in rw p.0 (ap (λ ys. x ∷ ys) (filter_every f xs p.1))

pub all_drop : {X : Type 0} (f : X → Bool) (xs : List X) (k : ℕ) → list_all f xs ≡ true → list_all f (drop k xs) ≡ true
all_drop f [] zero h = refl
all_drop f [] (suc k) h = refl
all_drop f (x ∷ xs) zero h = h
all_drop f (x ∷ xs) (suc k) h = all_drop f xs k (and_parts (f x) (list_all f xs) h).1

pub all_at : {X : Type 0} (f : X → Bool) (xs : List X) (k : ℕ) (d : X) → k < length xs → list_all f xs ≡ true → f (get_or xs k d) ≡ true
all_at f [] k d h a = absurd (omega arith)
all_at f (x ∷ xs) zero d h a = (and_parts (f x) (list_all f xs) a).0
all_at f (x ∷ xs) (suc k) d h a = all_at f xs k d (omega arith) (and_parts (f x) (list_all f xs) a).1

module _ (t : Target) where
  -- what stands from here on are terminators, and nothing before it is one
  pub from-end : (is : List Instr) (k : ℕ) → ends_in_terminators t is ≡ true → list_all (does is_terminator t) (drop k is) ≡ true → ((j : ℕ) (d : Instr) → k ≡ suc j → does is_terminator t (get_or is j d) ≡ false) → k ≤ length is → drop k is ≡ filter (does is_terminator t) is
  from-end [] zero e a before h = refl
  from-end [] (suc k) e a before h = absurd (omega arith)
  from-end (i ∷ is) zero e a before h = sym (filter_every (does is_terminator t) (i ∷ is) a)
  from-end (i ∷ is) (suc k) e a before h = go (λ r l. from-end is k r a l (omega arith)) (does is_terminator t i) refl
    where
      cut : does is_terminator t i ≡ true → list_all (does is_terminator t) is ≡ true
      cut term = sym (ap (λ b. cond b (list_all (does is_terminator t) is) (ends_in_terminators t is)) term) ∙ e

      rest : does is_terminator t i ≡ false → ends_in_terminators t is ≡ true
      rest term = sym (ap (λ b. cond b (list_all (does is_terminator t) is) (ends_in_terminators t is)) term) ∙ e

      lower : (j : ℕ) (d : Instr) → k ≡ suc j → does is_terminator t (get_or is j d) ≡ false
      lower j d at = before (suc j) d (ap suc at)

      stuck : does is_terminator t i ≡ true → (n : ℕ) → k ≡ n → drop k is ≡ filter (does is_terminator t) (i ∷ is)
      stuck term zero at = absurd (true≢false (sym term ∙ before zero i (ap suc at)))
      stuck term (suc n) at = absurd (true≢false (sym (all_at (does is_terminator t) is n i (omega arith) (cut term)) ∙ lower n i at))

      go : (ends_in_terminators t is ≡ true → ((j : ℕ) (d : Instr) → k ≡ suc j → does is_terminator t (get_or is j d) ≡ false) → drop k is ≡ filter (does is_terminator t) is)
          → (b : Bool) → does is_terminator t i ≡ b → drop k is ≡ filter (does is_terminator t) (i ∷ is)
      go ih true term = stuck term k refl
      go ih false term = rw term (ih (rest term) lower)

get_same : {X : Type 0} (xs : List X) (k : ℕ) (d e : X) → k < length xs → get_or xs k d ≡ get_or xs k e
get_same [] k d e h = absurd (omega arith)
get_same (x ∷ xs) zero d e h = refl
get_same (x ∷ xs) (suc k) d e h = get_same xs k d e (omega arith)

pub ends_here : (t : Target) (is : List Instr) (k : ℕ) (i : Instr) → 0 < k → k ≤ length is → i ≡ get_or is (k - 1) i → does is_terminator t i ≡ false → list_all (does is_terminator t) (drop k is) ≡ true
    → ends_in_terminators t is ≡ true → drop k is ≡ filter (does is_terminator t) is
ends_here t is k i p h at fails a e = from-end t is k e a before h
  where
    before : (j : ℕ) (d : Instr) → k ≡ suc j → does is_terminator t (get_or is j d) ≡ false
    before j d q =
        let n : k - 1 ≡ j = omega arith in
        ap (does is_terminator t) (get_same is j d i (omega arith) ∙ sym (ap (λ m. get_or is m i) n) ∙ sym at) ∙ fails

pub ends_first : (t : Target) (is : List Instr) (k : ℕ) → k ≤ 0 → list_all (does is_terminator t) (drop k is) ≡ true → ends_in_terminators t is ≡ true → drop k is ≡ filter (does is_terminator t) is
ends_first t is k h a e = from-end t is k e a (λ j d q. absurd (omega arith)) (omega arith)

pub ruleset ends = (ends_here, ends_first)

-- the first of them, and the last

pub first_found : (is ts : List Instr) (r : ℕ) (i : Instr) → r < length is → i ≡ get_or is r i → drop r is ≡ ts → Some i.id ≡ first_id ts
first_found is ts r i h at e = ap (λ (j : Instr). Some j.id) at ∙ sym (ap first_id (drop_more is r i h)) ∙ ap first_id e

pub first_missing : (is ts : List Instr) (r : ℕ) → length is ≤ r → drop r is ≡ ts → None ≡ first_id ts
first_missing is ts r h e = sym (ap first_id (drop_all r is h)) ∙ ap first_id e

pub ruleset firsts = (first_found, first_missing)

pub last_found : (is : List Instr) (id : ℕ) (i : Instr) → Some i ≡ slice_get is (length is - 1) → i.id ≡ last_id id is
last_found [] id i e = cc
last_found (j ∷ []) id i e = let q : i ≡ j = cc in ap (λ (x : Instr). x.id) q
last_found (j ∷ h ∷ is) id i e =
    let n : suc (suc (length is)) - 1 ≡ suc (suc (length is) - 1) = omega arith in
    last_found (h ∷ is) j.id i (e ∙ ap (slice_get (j ∷ h ∷ is)) n)

some-last : (i : Instr) (is : List Instr) → None ≡ slice_get (i ∷ is) (length (i ∷ is) - 1) → ⊥
some-last i [] e = cc
some-last i (j ∷ is) e = let n : suc (suc (length is)) - 1 ≡ suc (suc (length is) - 1) = omega arith in some-last j is (e ∙ ap (slice_get (i ∷ j ∷ is)) n)

pub last_missing : (is : List Instr) (id : ℕ) → None ≡ slice_get is (length is - 1) → id ≡ last_id id is
last_missing [] id e = refl
last_missing (j ∷ []) id e = cc
last_missing (j ∷ h ∷ is) id e =
    let n : suc (suc (length is)) - 1 ≡ suc (suc (length is) - 1) = omega arith in
    absurd (some-last h is (e ∙ ap (slice_get (j ∷ h ∷ is)) n))

pub ruleset lasts = (last_found, last_missing)
