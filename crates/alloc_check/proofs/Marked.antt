-- Marks at the slots of written lanes.
use Rattle.std.proofs.Common.{◌≡◌, ◌∷◌, ◌++◌, ◌&&◌, ◌||◌, ◌<◌, ◌+◌, ℕ, zero, suc, Bool, true, false, cond, not, List, [], refl, sym, ap, subst, ◌∙◌, get_or, set, take, length, arith}
use Rattle.std.proofs.lemmas.Bool.{and_from}
use Rattle.std.proofs.lemmas.List.{take_more}
use Rattle.meaning.specs.declared.types.Lane.{Lane}
use Rattle.meaning.specs.declared.types.Source.{Source}
use Rattle.meaning.specs.declared.types.Source.TheVariants.{FromLane, Undef, Bits}
use Rattle.meaning.specs.declared.types.Fill.{Fill}
use Rattle.meaning.specs.declared.types.Fill.TheVariants.{Moved}
use Rattle.meaning.specs.declared.types.Write.{Write}
use Rattle.meaning.specs.Lanes.{Writes, same_lane, filled, settled, through}
use Rattle.meaning.specs.Facts.{Fact, Facts, Knowledge, all_known, known_left, known_both, one_result}
use Rattle.laws.proofs.Following.{both-true}
use Rattle.laws.proofs.Quiet.{same-true}
use Rattle.alloc_check.specs.Marks.{lane_slot, source_slot, is_marked, unwritten, stays, Marks}
use Rattle.alloc_check.specs.Cells.{stays_both, Takes}

pub set-marked : (xs : List ℕ) (a : ℕ) → is_marked (set xs a 1) a ≡ true
set-marked [] a = refl
set-marked (x ∷ xs) zero = refl
set-marked (x ∷ xs) (suc a) = set-marked xs a

set-unmarked : (xs : List ℕ) (a b : ℕ) → is_marked (set xs a 1) b ≡ false → is_marked xs b ≡ false
set-unmarked [] a b e = e
set-unmarked (x ∷ xs) zero zero e = absurd (cc)
set-unmarked (x ∷ xs) zero (suc b) e = e
set-unmarked (x ∷ xs) (suc a) zero e = e
set-unmarked (x ∷ xs) (suc a) (suc b) e = set-unmarked xs a b e

unwritten-append : (ws vs : Writes) (l : Lane) → unwritten (ws ++ vs) l ≡ unwritten ws l && unwritten vs l
unwritten-append [] vs l = refl
unwritten-append (w ∷ ws) vs l = ap (λ b. not (same_lane w.lane l) && b) (unwritten-append ws vs l) ∙ and-assoc (not (same_lane w.lane l)) (unwritten ws l) (unwritten vs l)
  where
    and-assoc : (a b c : Bool) → a && (b && c) ≡ (a && b) && c
    and-assoc true b c = refl
    and-assoc false b c = refl

-- a lane whose slot isn't marked isn't this one
apart : (slots : ℕ) (marks : List ℕ) (a l : Lane) → is_marked (set marks (lane_slot slots a) 1) (lane_slot slots l) ≡ false → not (same_lane a l) ≡ true
apart slots marks a l e = go (same_lane a l) refl
  where
    go : (b : Bool) → same_lane a l ≡ b → not b ≡ true
    go false h = refl
    go true h =
        let f : is_marked (set marks (lane_slot slots a) 1) (lane_slot slots a) ≡ false = subst (λ x. is_marked (set marks (lane_slot slots a) 1) (lane_slot slots x) ≡ false) (sym (same-true a l h)) e in
        let g = set-marked marks (lane_slot slots a) in
        absurd (cc)

pub marks-none : (slots : ℕ) (marks : List ℕ) → Marks slots marks []
marks-none slots marks l e = refl

pub marks-more : (slots : ℕ) (marks : List ℕ) (ws : Writes) (i : ℕ) (w : Write) → i < length ws → w ≡ get_or ws i w → Marks slots marks (take i ws) → Marks slots (set marks (lane_slot slots w.lane) 1) (take (i + 1) ws)
marks-more slots marks ws i w h at m l e =
    let before : unwritten (take i ws) l ≡ true = m l (set-unmarked marks (lane_slot slots w.lane) (lane_slot slots l) e) in
    let here : not (same_lane w.lane l) && true ≡ true = and_from (not (same_lane w.lane l)) true (apart slots marks w.lane l e) refl in
    let both : unwritten (take i ws ++ w ∷ []) l ≡ true = unwritten-append (take i ws) (w ∷ []) l ∙ and_from (unwritten (take i ws) l) (not (same_lane w.lane l) && true) before here in
    subst (λ vs. unwritten vs l ≡ true) (sym (take_more ws i w h ∙ ap (λ x. take i ws ++ x ∷ []) (sym at))) both

past : (b : Bool) (f g h : Fill) → not b ≡ true → g ≡ h → cond b f g ≡ h
past true f g h e k = absurd (cc)
past false f g h e k = k

pub filled-unwritten : (ws : Writes) (l : Lane) → unwritten ws l ≡ true → filled ws l ≡ Moved (FromLane l)
filled-unwritten [] l e = refl
filled-unwritten (w ∷ ws) l e =
    let p = both-true (not (same_lane w.lane l)) (unwritten ws l) e in
    past (same_lane w.lane l) w.fill (filled ws l) (Moved (FromLane l)) p.0 (filled-unwritten ws l p.1)

through-stays : (ws : Writes) (s : Source) → stays ws s ≡ true → through ws s ≡ Moved s
through-stays ws (FromLane l) e = filled-unwritten ws l e
through-stays ws Undef e = refl
through-stays ws (Bits c low width) e = refl

-- a source whose slot isn't marked stays
pub stays-unmarked : (slots : ℕ) (marks : List ℕ) (ws : Writes) (s : Source) → Marks slots marks ws → is_marked marks (source_slot slots s) ≡ false → stays ws s ≡ true
stays-unmarked slots marks ws (FromLane l) m e = m l e
stays-unmarked slots marks ws Undef m e = refl
stays-unmarked slots marks ws (Bits c low width) m e = refl

-- a fact that stays is known behind the writes just where it is known in front of them
pub known-stays : (ws vs : Writes) (k : Knowledge) (f : Fact) → stays_both ws vs f ≡ true → known_both ws vs k f.0 f.1 ≡ k f.0 f.1
known-stays ws vs k f e =
    let p = both-true (stays ws f.0) (stays vs f.1) e in
    ap (λ g. one_result g (through vs f.1) || known_left k g (settled (through vs f.1))) (through-stays ws f.0 p.0)
    ∙ ap (λ g. one_result (Moved f.0) g || known_left k (Moved f.0) (settled g)) (through-stays vs f.1 p.1)

none-stays : (s : Source) → stays [] s ≡ true
none-stays (FromLane l) = refl
none-stays Undef = refl
none-stays (Bits c low width) = refl

none-known : (k : Knowledge) (fs : Facts) → all_known (known_both [] [] k) fs ≡ all_known k fs
none-known k [] = refl
none-known k (f ∷ fs) = λ j. known-stays [] [] k f (and_from (stays [] f.0) (stays [] f.1) (none-stays f.0) (none-stays f.1)) j && none-known k fs j

and-none : (b : Bool) → b ≡ b && true
and-none true = refl
and-none false = refl

-- where nothing is written, nothing is taken
pub takes-none : (ws vs : Writes) (fs taken : Facts) → length ws ≡ 0 → length vs ≡ 0 → taken ≡ [] → Takes ws vs fs taken fs
takes-none [] [] fs taken e h t k = rw t (none-known k fs ∙ and-none (all_known k fs))
takes-none [] (v ∷ vs) fs taken e h t k = absurd (let x : ⊥ = omega (arith, h) in x)
takes-none (w ∷ ws) vs fs taken e h t k = absurd (let x : ⊥ = omega (arith, e) in x)
