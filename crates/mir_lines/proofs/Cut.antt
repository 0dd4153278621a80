-- The parts of a text between commas, read one after another.
use Rattle.std.proofs.Common.{◌≡◌, ℕ, suc, ◌<◌, ◌≤◌, ◌+◌, List, [], ◌∷◌, ◌++◌, length, take, drop, Some, None, Bool, true, false, cond, ltb, refl, ap, sym, ◌∙◌, arith, append_assoc, take_all, length-drop, ◌-◌}
use Rattle.std.specs.Prelude.{Option, ◌==◌, position}
use Rattle.std.specs.List.{slice_split, onto_first, position_or_len}
use Rattle.std.proofs.lemmas.Grind.{common_steps}
use Rattle.mir_lines.specs.declared.stop.LineStop.{LineStop}
use Rattle.mir_lines.specs.declared.stop.LineStop.TheVariants as stops
use Rattle.mir_lines.specs.Reads.{◌>>=◌, Fails}
use Rattle.mir_lines.specs.Parts.{comma_parts, each}

front_more : (b n : ℕ) (bs : List ℕ) → take (1 + n) (b ∷ bs) ≡ b ∷ take n bs
front_more b n bs = let e : 1 + n ≡ suc n = omega arith in rw e refl

back_more : (b n : ℕ) (bs : List ℕ) → drop (1 + n + 1) (b ∷ bs) ≡ drop (n + 1) bs
back_more b n bs = let e : 1 + n + 1 ≡ suc (n + 1) = omega arith in rw e refl

-- the place of the first comma
abbrev place : List ℕ → ℕ
place bs = position_or_len (λ b. b == 44) bs

split_at : (b : ℕ) (bs : List ℕ) (hit : Bool) → (b == 44) ≡ hit → place (b ∷ bs) < length (b ∷ bs) → slice_split (λ c. c == 44) (b ∷ bs) ≡ take (place (b ∷ bs)) (b ∷ bs) ∷ slice_split (λ c. c == 44) (drop (place (b ∷ bs) + 1) (b ∷ bs))
split_at b bs true e h = rw e refl
split_at b [] false e h = absurd (let k : 1 < 1 = rw e at h in omega (arith, k))
split_at b (c ∷ cs) false e h =
    let n = place (c ∷ cs) in
    let k : 1 + n < length (b ∷ c ∷ cs) = rw e at h in
    rw e (ap (onto_first b) (split_at c cs (c == 44) refl (omega (arith, k))) ∙ (λ i. sym (front_more b n (c ∷ cs)) i ∷ slice_split (λ x. x == 44) (sym (back_more b n (c ∷ cs)) i)))

split_all : (b : ℕ) (bs : List ℕ) (hit : Bool) → (b == 44) ≡ hit → length (b ∷ bs) ≤ place (b ∷ bs) → slice_split (λ c. c == 44) (b ∷ bs) ≡ (b ∷ bs) ∷ []
split_all b bs true e h = absurd (let k : length (b ∷ bs) ≤ 0 = rw e at h in omega (arith, k))
split_all b [] false e h = rw e refl
split_all b (c ∷ cs) false e h =
    let n = place (c ∷ cs) in
    let k : length (b ∷ c ∷ cs) ≤ 1 + n = rw e at h in
    rw e (ap (onto_first b) (split_all c cs (c == 44) refl (omega (arith, k))))

is_place : (q n i : ℕ) → cond (ltb q n) (Some q) None ≡ Some i → (q ≡ i) × (q < n)
is_place q n i h = grind (arith, common_steps)

no_place : (q n : ℕ) → cond (ltb q n) (Some q) None ≡ None → n ≤ q
no_place q n h = grind (arith, common_steps)

pub parts_cut : (bs : List ℕ) (k : ℕ) → position (λ b. b == 44) bs ≡ Some k → comma_parts bs ≡ take k bs ∷ comma_parts (drop (k + 1) bs)
unfolding comma_parts
parts_cut [] k h = absurd (omega (arith, (is_place 0 0 k h).1))
parts_cut (b ∷ bs) k h =
    let found = is_place (place (b ∷ bs)) (length (b ∷ bs)) k h in
    rw (sym found.0) (split_at b bs (b == 44) refl found.1)

pub parts_whole : (bs : List ℕ) → position (λ b. b == 44) bs ≡ None → comma_parts bs ≡ bs ∷ []
unfolding comma_parts
parts_whole [] h = refl
parts_whole (b ∷ bs) h = split_all b bs (b == 44) refl (no_place (place (b ∷ bs)) (length (b ∷ bs)) h)

-- what `&text[k + 1..]` is
pub behind_is : (bs : List ℕ) (k : ℕ) → take (length bs - (k + 1)) (drop (k + 1) bs) ≡ drop (k + 1) bs
behind_is bs k = take_all (length bs - (k + 1)) (drop (k + 1) bs) (omega (arith, length-drop (k + 1) bs))

-- what was made, and then what is read
abbrev pub all_onto : {X : Type 0} → List X → Option (List X) → Option (List X)
all_onto made None = None
all_onto made (Some more) = Some (made ++ more)

pub all_begin : {X : Type 0} (rest : Option (List X)) → rest ≡ all_onto [] rest
all_begin None = refl
all_begin (Some p) = refl

all_more : {X : Type 0} (made : List X) (x : X) (rest : Option (List X)) → all_onto made (rest >>= λ xs. Some (x ∷ xs)) ≡ all_onto (made ++ x ∷ []) rest
all_more made x None = refl
all_more made x (Some xs) = simp append_assoc

module _ {X : Type 0} (one : List ℕ → Option X) (whole : Option (List X)) (made : List X) (part : List ℕ) where
  -- a part that is spelled wrongly
  pub each_fail : (parts : List (List ℕ)) → whole ≡ all_onto made (each one (part ∷ parts)) → (stop : LineStop) → Fails stop (one part) → Fails stop whole
  each_fail parts e stops.Token h = e ∙ rw h refl
  each_fail parts e (stops.Memory m) h = tt

  -- the last part
  pub each_end : (x : X) (new : List X) → whole ≡ all_onto made (each one (part ∷ [])) → one part ≡ Some x → new ≡ made ++ x ∷ [] → whole ≡ Some new
  each_end x new e h n = e ∙ rw (h, n) refl

  -- one more part
  pub each_go : (parts : List (List ℕ)) (x : X) (new : List X) → whole ≡ all_onto made (each one (part ∷ parts)) → one part ≡ Some x → new ≡ made ++ x ∷ [] → whole ≡ all_onto new (each one parts)
  each_go parts x new e h n = e ∙ rw (h, n) (all_more made x (each one parts))
