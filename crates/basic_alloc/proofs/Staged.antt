-- The stages of ranges, tiny by tiny.
use Rattle.std.proofs.Common.{◌≡◌, ◌∙◌, ℕ, zero, suc, ◌+◌, ◌<◌, ◌≤◌, List, [], ◌∷◌, ◌++◌, Bool, true, false, cond, refl, sym, ap, arith, map, length, get_or, take, set, replicate}
use Rattle.std.specs.Prelude.{◌||◌, nat_eq}
use Rattle.std.proofs.lemmas.Bool.Decides.{nat_tests}
use Rattle.std.proofs.lemmas.List.{take_more, take_all}
use Rattle.std.proofs.lemmas.List.Folds.{list_any-append}
use Rattle.std.specs.List.{list_any}
use Rattle.mir_meaning.specs.Registers.{numbers, has_number}
use Rattle.evictor.specs.declared.ranks.Stage.{Stage}
use Rattle.evictor.specs.declared.ranks.Stage.TheVariants as stages
use Rattle.basic_alloc.specs.Basic.{stage_among, stages_of}

-- no range is a tiny

none_from : (a n : ℕ) → replicate n stages.New ≡ map (stage_among []) (numbers a n)
none_from a zero = refl
none_from a (suc n) = ap (λ l. stages.New ∷ l) (none_from (suc a) n)

pub none_staged : (n : ℕ) → replicate n stages.New ≡ stages_of n []
none_staged n = none_from 0 n

-- one tiny more

with_last : (ts : List ℕ) (v w : ℕ) → has_number (ts ++ v ∷ []) w ≡ (has_number ts w || (nat_eq w v || false))
with_last ts v w = list_any-append (nat_eq w) ts (v ∷ [])

other_stage : (ts : List ℕ) (v w : ℕ) → nat_eq w v ≡ false → stage_among ts w ≡ stage_among (ts ++ v ∷ []) w
other_stage ts v w differs = ap (λ b. cond b stages.Tiny stages.New) (sym (with_last ts v w ∙ ap (λ b. has_number ts w || (b || false)) differs ∙ lost (has_number ts w)))
  where
    lost : (b : Bool) → (b || false) ≡ b
    lost true = refl
    lost false = refl

own_stage : (ts : List ℕ) (v w : ℕ) → nat_eq w v ≡ true → stages.Tiny ≡ stage_among (ts ++ v ∷ []) w
own_stage ts v w same = ap (λ b. cond b stages.Tiny stages.New) (sym (with_last ts v w ∙ ap (λ b. has_number ts w || (b || false)) same ∙ kept (has_number ts w)))
  where
    kept : (b : Bool) → (b || true) ≡ true
    kept true = refl
    kept false = refl

others_from : (ts : List ℕ) (v a n : ℕ) → v < a → map (stage_among ts) (numbers a n) ≡ map (stage_among (ts ++ v ∷ [])) (numbers a n)
others_from ts v a zero behind = refl
others_from ts v a (suc n) behind =
    let differs : nat_eq a v ≡ false = grind (arith, nat_tests) in
    ap (λ s. s ∷ map (stage_among ts) (numbers (suc a) n)) (other_stage ts v a differs)
    ∙ ap (λ l. stage_among (ts ++ v ∷ []) a ∷ l) (others_from ts v (suc a) n (omega arith))

staged_from : (ts : List ℕ) (v a i n : ℕ) → v ≡ a + i → set (map (stage_among ts) (numbers a n)) i stages.Tiny ≡ map (stage_among (ts ++ v ∷ [])) (numbers a n)
staged_from ts v a i zero at = refl
staged_from ts v a zero (suc n) at =
    let same : nat_eq a v ≡ true = grind (arith, nat_tests) in
    ap (λ s. s ∷ map (stage_among ts) (numbers (suc a) n)) (own_stage ts v a same)
    ∙ ap (λ l. stage_among (ts ++ v ∷ []) a ∷ l) (others_from ts v (suc a) n (omega arith))
staged_from ts v a (suc i) (suc n) at =
    let differs : nat_eq a v ≡ false = grind (arith, nat_tests) in
    ap (λ s. s ∷ set (map (stage_among ts) (numbers (suc a) n)) i stages.Tiny) (other_stage ts v a differs)
    ∙ ap (λ l. stage_among (ts ++ v ∷ []) a ∷ l) (staged_from ts v (suc a) i n (omega arith))

pub staged_more : (n : ℕ) (ts : List ℕ) (k : ℕ) (old new : List Stage) → k < length ts → old ≡ stages_of n (take k ts) → new ≡ set old (get_or ts k 0) stages.Tiny → new ≡ stages_of n (take (k + 1) ts)
staged_more n ts k old new h was is =
    is ∙ ap (λ l. set l (get_or ts k 0) stages.Tiny) was
    ∙ staged_from (take k ts) (get_or ts k 0) 0 (get_or ts k 0) n (omega arith)
    ∙ ap (stages_of n) (sym (take_more ts k 0 h))

pub staged_all : (n : ℕ) (ts : List ℕ) (k : ℕ) (now : List Stage) → length ts ≤ k → now ≡ stages_of n (take k ts) → now ≡ stages_of n ts
staged_all n ts k now h was = was ∙ ap (stages_of n) (take_all k ts h)

pub ruleset staged = (none_staged, staged_more, staged_all)
