-- The lines of a text, read one after another.
use Rattle.std.proofs.Common.{◌≡◌, ℕ, suc, ◌<◌, ◌≤◌, ◌+◌, ◌-◌, List, [], ◌∷◌, length, take, drop, Some, None, Ok, Bool, true, false, cond, ltb, refl, ap, sym, subst, ◌∙◌, arith, take_all, length-drop}
use Rattle.std.specs.Prelude.{Option, ◌==◌, position}
use Rattle.std.specs.List.{onto_first, position_or_len}
use Rattle.std.proofs.lemmas.Grind.{common_steps}
use Rattle.target_base.specs.declared.types.Target.{Target}
use Rattle.mir_text.specs.declared.doc.Doc.{Doc}
use Rattle.mir_read.specs.declared.stop.ReadStop.{ReadStop}
use Rattle.mir_read.specs.declared.stop.ReadStop.TheVariants as stops
use Rattle.mir_text.specs.declared.document.State.{State}
use Rattle.mir_read.specs.Names.{NameLists, name_lists}
use Rattle.mir_read.specs.Reading.{FailsLine}
use Rattle.mir_text.specs.Document.{lines, line_after, lines_after, then_at, at_end, ended, stop_at, Fails}

front_more : (b n : ℕ) (bs : List ℕ) → take (1 + n) (b ∷ bs) ≡ b ∷ take n bs
front_more b n bs = let e : 1 + n ≡ suc n = omega arith in rw e refl

back_more : (b n : ℕ) (bs : List ℕ) → drop (1 + n + 1) (b ∷ bs) ≡ drop (n + 1) bs
back_more b n bs = let e : 1 + n + 1 ≡ suc (n + 1) = omega arith in rw e refl

-- the place of the first newline
abbrev place : List ℕ → ℕ
place bs = position_or_len (λ b. b == 10) bs

cut_at : (b : ℕ) (bs : List ℕ) (hit : Bool) → (b == 10) ≡ hit → place (b ∷ bs) < length (b ∷ bs) → lines (b ∷ bs) ≡ take (place (b ∷ bs)) (b ∷ bs) ∷ lines (drop (place (b ∷ bs) + 1) (b ∷ bs))
unfolding lines
cut_at b bs true e h = rw e refl
cut_at b [] false e h = absurd (let k : 1 < 1 = rw e at h in omega (arith, k))
cut_at b (c ∷ cs) false e h =
    let n = place (c ∷ cs) in
    let k : 1 + n < length (b ∷ c ∷ cs) = rw e at h in
    rw e (ap (onto_first b) (cut_at c cs (c == 10) refl (omega (arith, k))) ∙ (λ i. sym (front_more b n (c ∷ cs)) i ∷ lines (sym (back_more b n (c ∷ cs)) i)))

cut_all : (b : ℕ) (bs : List ℕ) (hit : Bool) → (b == 10) ≡ hit → length (b ∷ bs) ≤ place (b ∷ bs) → lines (b ∷ bs) ≡ (b ∷ bs) ∷ []
unfolding lines
cut_all b bs true e h = absurd (let k : length (b ∷ bs) ≤ 0 = rw e at h in omega (arith, k))
cut_all b [] false e h = rw e refl
cut_all b (c ∷ cs) false e h =
    let n = place (c ∷ cs) in
    let k : length (b ∷ c ∷ cs) ≤ 1 + n = rw e at h in
    rw e (ap (onto_first b) (cut_all c cs (c == 10) refl (omega (arith, k))))

is_place : (q n i : ℕ) → cond (ltb q n) (Some q) None ≡ Some i → (q ≡ i) × (q < n)
is_place q n i h = grind (arith, common_steps)

no_place : (q n : ℕ) → cond (ltb q n) (Some q) None ≡ None → n ≤ q
no_place q n h = grind (arith, common_steps)

pub lines_cut : (bs : List ℕ) (k : ℕ) → position (λ b. b == 10) bs ≡ Some k → lines bs ≡ take k bs ∷ lines (drop (k + 1) bs)
lines_cut [] k h = absurd (omega (arith, (is_place 0 0 k h).1))
lines_cut (b ∷ bs) k h =
    let found = is_place (place (b ∷ bs)) (length (b ∷ bs)) k h in
    rw (sym found.0) (cut_at b bs (b == 10) refl found.1)

lines_nil : lines [] ≡ []
unfolding lines
lines_nil = refl

pub lines_whole : (bs : List ℕ) → 0 < length bs → position (λ b. b == 10) bs ≡ None → lines bs ≡ bs ∷ lines []
lines_whole [] some h = absurd (omega arith)
lines_whole (b ∷ bs) some h = rw lines_nil (cut_all b bs (b == 10) refl (no_place (place (b ∷ bs)) (length (b ∷ bs)) h))

pub lines_none : (bs : List ℕ) → length bs ≡ 0 → lines bs ≡ []
lines_none [] h = lines_nil
lines_none (b ∷ bs) h = absurd (omega arith)

-- what `&text[k + 1..]` is
pub behind_is : (bs : List ℕ) (k : ℕ) → take (length bs - (k + 1)) (drop (k + 1) bs) ≡ drop (k + 1) bs
behind_is bs k = take_all (length bs - (k + 1)) (drop (k + 1) bs) (omega (arith, length-drop (k + 1) bs))

module _ (t : Target) (first : Bool) (bytes : List ℕ) where
  -- behind a line that stands
  pub line_goes : (names : NameLists) → names ≡ name_lists t → (n : ℕ) (s after : State) (line : List ℕ) (more : List (List ℕ)) → line_after t names first s line ≡ Ok after → lines_after t first bytes n s (line ∷ more) ≡ lines_after t first bytes (n + 1) after more
  unfolding lines_after
  line_goes names e n s after line more h =
      let here : line_after t (name_lists t) first s line ≡ Ok after = ap (λ ns. line_after t ns first s line) (sym e) ∙ h in
      ap (λ r. then_at n r (λ s2. lines_after t first bytes (n + 1) s2 more)) here

  stops_at : (n : ℕ) (s : State) (line : List ℕ) (more : List (List ℕ)) (stop : ReadStop) → FailsLine stop (line_after t (name_lists t) first s line) → Fails (stop_at n stop) (lines_after t first bytes n s (line ∷ more))
  unfolding lines_after
  stops_at n s line more (stops.Fault kind) h = ap (λ r. then_at n r (λ s2. lines_after t first bytes (n + 1) s2 more)) h
  stops_at n s line more (stops.Memory e) h = tt

  -- at a line that doesn't
  pub line_stops_at : (names : NameLists) → names ≡ name_lists t → (n : ℕ) (s : State) (line : List ℕ) (more : List (List ℕ)) (stop : ReadStop) → FailsLine stop (line_after t names first s line) → Fails (stop_at n stop) (lines_after t first bytes n s (line ∷ more))
  line_stops_at names e n s line more stop h =
      let P : NameLists → Type 0 = λ ns. FailsLine stop (line_after t ns first s line) in
      stops_at n s line more stop (subst P e h)

  -- behind the last line
  lines_end : (n : ℕ) (s : State) (rest : List ℕ) → length rest ≡ 0 → lines_after t first bytes n s (lines rest) ≡ at_end n (ended bytes s)
  unfolding lines_after
  lines_end n s rest h = ap (lines_after t first bytes n s) (lines_none rest h)

  pub ends_so : (n : ℕ) (s : State) (rest : List ℕ) (d : Option Doc) → length rest ≡ 0 → d ≡ ended bytes s → lines_after t first bytes n s (lines rest) ≡ at_end n d
  ends_so n s rest d h e = lines_end n s rest h ∙ ap (at_end n) (sym e)

-- a text that is tested to be empty
pub nothing : (n : ℕ) (b : Bool) → b ≡ (n == 0) → b ≡ true → n ≡ 0
nothing n b e h = grind (arith, common_steps)
