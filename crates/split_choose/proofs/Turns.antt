-- Touched places stand in turn along the points of a function: each begins before it ends, and behind the one before it.
use Rattle.std.proofs.Common.{◌≡◌, ◌∙◌, ℕ, zero, suc, ◌+◌, ◌<◌, ◌≤◌, Bool, true, false, cond, List, [], ◌∷◌, ◌++◌, refl, sym, ap, subst, arith, map, append_assoc, Option, None, Some}
use Rattle.std.specs.Prelude.{filter, flat_map, slice_get, ◌&&◌, not}
use Rattle.std.specs.List.{list_all, list_any}
use Rattle.std.proofs.lemmas.Bool.{and_parts}
use Rattle.meaning.specs.Live.{Among, here, there}
use Rattle.target_base.specs.declared.types.Target.{Target}
use Rattle.mir_func.specs.declared.func.Instr.{Instr}
use Rattle.mir_func.specs.declared.func.Block.{Block}
use Rattle.mir_func.specs.Value.{Function}
use Rattle.mir_func.specs.Binding.{does, is_terminator}
use Rattle.mir_meaning.specs.Points.{Point, Start, Entry, Exit, touches, block_points}
use Rattle.split_choose.specs.Offers.{View, Touched, last_id, touching, terminators, end_place, touched_places}
use Rattle.split_choose.specs.Seen.{ends_in_terminators}
use Rattle.split_choose.proofs.Ranked.{AreRanked, ranked-from, among-right}
use Rattle.split_choose.proofs.Apart.{instr_points}

-- the points of a place are some of these
pub record IsIn (all : List Point) (p : Touched) : Type 0 where
  pub entry : Among (Entry p.first) all
  pub exit : Among (Exit p.last) all

module _ (rank : Point → ℕ) (all : List Point) where
  -- from a rank on
  abbrev pub InTurn : ℕ → List Touched → Type 0
  InTurn n [] = Unit {0}
  InTurn n (p ∷ ps) = (n ≤ rank (Entry p.first)) × (rank (Entry p.first) < rank (Exit p.last)) × IsIn all p × InTurn (suc (rank (Exit p.last))) ps

  turn-from : (m n : ℕ) (ps : List Touched) → n ≤ m → InTurn m ps → InTurn n ps
  turn-from m n [] le r = tt
  turn-from m n (p ∷ ps) le r = let a = r.0 in (omega (arith, a), r.1, r.2, r.3)

  -- behind the last of some instructions
  ended : (id n : ℕ) (is : List Instr) (qs : List Point) → AreRanked rank n (Exit id ∷ (instr_points is ++ qs)) → ((x : Point) → Among x (Exit id ∷ (instr_points is ++ qs)) → Among x all)
      → (n ≤ rank (Exit (last_id id is))) × Among (Exit (last_id id is)) all × AreRanked rank (suc (rank (Exit (last_id id is)))) qs
  ended id n [] qs r sub = (r.0, sub (Exit id) here, r.1)
  ended id n (j ∷ js) qs r sub =
      let first = r.0 in
      let second = r.1.0 in
      let ih = ended j.id (suc (rank (Entry j.id))) js qs r.1.1 (λ x m. sub x (there (there m))) in
      let low = ih.0 in
      (omega arith, ih.1, ih.2)

  module _ (t : Target) (f : Function) (v : ℕ) (view : View) where
    abbrev single : Block → Instr → Touched
    single b i = record { block = b.number; first = i.id; last = i.id; is_end = false }

    abbrev touching_in : List Instr → List Instr
    touching_in is = filter (λ i. touches v i && not (does is_terminator t i)) is

    abbrev ending_in : List Instr → List Instr
    ending_in is = filter (does is_terminator t) is

    no-touching : (is : List Instr) → list_all (does is_terminator t) is ≡ true → touching_in is ≡ []
    no-touching [] h = refl
    no-touching (i ∷ is) h = let p = and_parts (does is_terminator t i) (list_all (does is_terminator t) is) h in go (touches v i) refl p.0 (no-touching is p.1)
      where
        go : (c : Bool) → touches v i ≡ c → does is_terminator t i ≡ true → touching_in is ≡ [] → touching_in (i ∷ is) ≡ []
        go true e d ih = rw (e, d) ih
        go false e d ih = rw e ih

    all-ending : (is : List Instr) → list_all (does is_terminator t) is ≡ true → ending_in is ≡ is
    all-ending [] h = refl
    all-ending (i ∷ is) h = let p = and_parts (does is_terminator t i) (list_all (does is_terminator t) is) h in rw p.0 (ap (λ js. i ∷ js) (all-ending is p.1))

    instrs-turn : (b : Block) (is : List Instr) (n : ℕ) (qs : List Point) (rest : List Touched) → ends_in_terminators t is ≡ true → AreRanked rank n (instr_points is ++ qs)
        → ((x : Point) → Among x (instr_points is ++ qs) → Among x all) → ((m : ℕ) → AreRanked rank m qs → InTurn m rest)
        → InTurn n (map (single b) (touching_in is) ++ (end_place t f v view b (ending_in is) ++ rest))
    instrs-turn b [] n qs rest ended-in r sub more = more n r
    instrs-turn b (i ∷ is) n qs rest ended-in r sub more = go (does is_terminator t i) (touches v i) refl refl (λ h. instrs-turn b is (suc (rank (Exit i.id))) qs rest h r.1.1 (λ x m. sub x (there (there m))) more)
      where
        entry : n ≤ rank (Entry i.id)
        entry = r.0

        exit : rank (Entry i.id) < rank (Exit i.id)
        exit = r.1.0

        kept : does is_terminator t i ≡ false → ends_in_terminators t is ≡ true
        kept e = sym (ap (λ c. cond c (list_all (does is_terminator t) is) (ends_in_terminators t is)) e) ∙ ended-in

        all-end : does is_terminator t i ≡ true → list_all (does is_terminator t) is ≡ true
        all-end e = sym (ap (λ c. cond c (list_all (does is_terminator t) is) (ends_in_terminators t is)) e) ∙ ended-in

        end : does is_terminator t i ≡ true → InTurn n (end_place t f v view b (i ∷ is) ++ rest)
        end e = by_touch (list_any (touches v) (i ∷ is)) refl
          where
            done : (suc (rank (Entry i.id)) ≤ rank (Exit (last_id i.id is))) × Among (Exit (last_id i.id is)) all × AreRanked rank (suc (rank (Exit (last_id i.id is)))) qs
            done = ended i.id (suc (rank (Entry i.id))) is qs r.1 (λ x m. sub x (there m))

            by_touch : (c : Bool) → list_any (touches v) (i ∷ is) ≡ c → InTurn n (cond c (record { block = b.number; first = i.id; last = last_id i.id is; is_end = true } ∷ []) [] ++ rest)
            by_touch true g = (entry, done.0, record { entry = sub (Entry i.id) here; exit = done.1 }, more (suc (rank (Exit (last_id i.id is)))) done.2)
            by_touch false g = more n (ranked-from rank (suc (rank (Exit (last_id i.id is)))) n qs (let d = done.0 in omega (arith, entry, d)) done.2)

        go : (c d : Bool) → does is_terminator t i ≡ c → touches v i ≡ d
            → (ends_in_terminators t is ≡ true → InTurn (suc (rank (Exit i.id))) (map (single b) (touching_in is) ++ (end_place t f v view b (ending_in is) ++ rest)))
            → InTurn n (map (single b) (touching_in (i ∷ is)) ++ (end_place t f v view b (ending_in (i ∷ is)) ++ rest))
        go true d e g ih =
            let a : list_all (does is_terminator t) (i ∷ is) ≡ true = rw e (all-end e) in
            let P : List Instr × List Instr → Type 0 = λ s. InTurn n (map (single b) s.0 ++ (end_place t f v view b s.1 ++ rest)) in
            let same : ◌≡◌ {A = List Instr × List Instr} (touching_in (i ∷ is), ending_in (i ∷ is)) ([], i ∷ is) = ap (λ js. (js, ending_in (i ∷ is))) (no-touching (i ∷ is) a) ∙ ap (λ js. ([], js)) (all-ending (i ∷ is) a) in
            subst P (sym same) (end e)
        go false true e g ih = rw (e, g) (entry, exit, record { entry = sub (Entry i.id) here; exit = sub (Exit i.id) (there here) }, ih (kept e))
        go false false e g ih = rw (e, g) (turn-from (suc (rank (Exit i.id))) n _ (omega (arith, entry, exit)) (ih (kept e)))

    pub blocks-turn : (bs : List Block) (n : ℕ) → list_all (λ b. ends_in_terminators t b.instrs) bs ≡ true → AreRanked rank n (flat_map block_points bs) → ((x : Point) → Among x (flat_map block_points bs) → Among x all)
        → InTurn n (flat_map (λ b. map (single b) (touching t f v view b) ++ end_place t f v view b (terminators t f v view b)) bs)
    blocks-turn [] n h r sub = tt
    blocks-turn (b ∷ bs) n h r sub =
        let p = and_parts (ends_in_terminators t b.instrs) (list_all (λ (c : Block). ends_in_terminators t c.instrs) bs) h in
        let rest = flat_map (λ (c : Block). map (single c) (touching t f v view c) ++ end_place t f v view c (terminators t f v view c)) bs in
        let low = r.0 in
        subst (InTurn n) (sym (append_assoc (map (single b) (touching t f v view b)) (end_place t f v view b (terminators t f v view b)) rest))
        (turn-from (suc (rank (Start b.number))) n _ (omega (arith, low)) (instrs-turn b b.instrs (suc (rank (Start b.number))) (flat_map block_points bs) rest p.0 r.1 (λ x m. sub x (there m))
        (λ m s. blocks-turn bs m p.1 s (λ x k. sub x (there (among-right x (instr_points b.instrs) (flat_map block_points bs) k))))))

    pub places-turn : list_all (λ b. ends_in_terminators t b.instrs) f.blocks ≡ true → AreRanked rank 0 (flat_map block_points f.blocks) → ((x : Point) → Among x (flat_map block_points f.blocks) → Among x all) → InTurn 0 (touched_places t f v view)
    places-turn h r sub = blocks-turn f.blocks 0 h r sub

  -- two of them

  pub record IsAt (n : ℕ) (p : Touched) : Type 0 where
    pub low : n ≤ rank (Entry p.first)
    pub long : rank (Entry p.first) < rank (Exit p.last)
    pub within : IsIn all p

  pub turn-at : (n : ℕ) (ps : List Touched) (k : ℕ) (p : Touched) → InTurn n ps → slice_get ps k ≡ Some p → IsAt n p
  turn-at n [] k p r e = cc
  turn-at n (q ∷ ps) zero p r e = let same : q ≡ p = cc in subst (IsAt n) same (record { low = r.0; long = r.1; within = r.2 })
  turn-at n (q ∷ ps) (suc k) p r e = let h = turn-at (suc (rank (Exit q.last))) ps k p r.3 e in let a = r.0 in let b = r.1 in let c = h.low in record { low = omega arith; long = h.long; within = h.within }

  pub turn-behind : (n : ℕ) (ps : List Touched) (k l : ℕ) (p q : Touched) → InTurn n ps → k < l → slice_get ps k ≡ Some p → slice_get ps l ≡ Some q → rank (Exit p.last) < rank (Entry q.first)
  turn-behind n [] k l p q r lt e g = cc
  turn-behind n (x ∷ ps) k zero p q r lt e g = absurd (omega arith)
  turn-behind n (x ∷ ps) zero (suc l) p q r lt e g =
      let same : x ≡ p = cc in
      let h = turn-at (suc (rank (Exit x.last))) ps l q r.3 g in
      let P : Touched → Type 0 = λ y. rank (Exit y.last) < rank (Entry q.first) in subst P same h.low
  turn-behind n (x ∷ ps) (suc k) (suc l) p q r lt e g = turn-behind (suc (rank (Exit x.last))) ps k l p q r.3 (omega arith) e g
