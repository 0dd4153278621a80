-- A join is quiet where no lane that is listed behind a writing, or written with it, has the same image.
use Rattle.std.proofs.Common.{◌≡◌, ◌∷◌, ◌++◌, ◌&&◌, ◌||◌, not, Bool, true, false, cond, List, sym, subst, ⊎_elim, ℕ, []}
use Rattle.std.specs.List.{list_all}
use Rattle.target_base.specs.declared.types.Target.{Target}
use Rattle.meaning.specs.Code.{Code, Item}
use Rattle.meaning.specs.Fold.{Quiet, QuietAt, copies}
use Rattle.meaning.specs.Lanes.{same_lane}
use Rattle.meaning.specs.Live.{writes_of}
use Rattle.meaning.specs.declared.types.Lane.{Lane}
use Rattle.meaning.specs.declared.types.Write.{Write}
use Rattle.mir_meaning.specs.Points.{points_of}
use Rattle.mir_meaning.specs.Registers.{is_reserved}
use Rattle.mir_func.specs.Value.{Function}
use Rattle.laws.proofs.Flow.{bool_cases}
use Rattle.laws.proofs.Following.{both-true}
use Rattle.laws.proofs.Least.{Ends, behind, whole}
use Rattle.laws.proofs.Quiet.{same-refl, same-true}
use Rattle.laws.proofs.Tables.{or-true}
use Rattle.laws.specs.Tables.{lists}
use Rattle.worked_examples.proofs.MachineCodeLemmas.Occupied.{lanes_of, decides_writing}
use Rattle.worked_examples.proofs.MachineCodeLemmas.Everywhere.{after, decides_after, given_of, is_computed, live_there, listed_left, listed_right, row}

-- the lanes of a list that have the same image as one are that one
abbrev pub alone : (Lane → Lane) → Lane → List Lane → Bool
alone m a [] = true
alone m a (l ∷ ls) = (not (same_lane (m l) (m a)) || same_lane l a) && alone m a ls

no_other : (m : Lane → Lane) (a l : Lane) (ls : List Lane) → alone m a ls ≡ true → m l ≡ m a → same_lane l a ≡ false → lists ls l ≡ true → ⊥
no_other m a l [] h e d x = absurd (cc)
no_other m a l (k ∷ ls) h e d x =
    let p = both-true (not (same_lane (m k) (m a)) || same_lane k a) (alone m a ls) h in
    ⊎_elim (λ y. apart (same-true k l y) p.0) (λ y. no_other m a l ls p.1 e d (or-true (same_lane k l) (lists ls l) x y)) (bool_cases (same_lane k l))
  where
    apart : k ≡ l → not (same_lane (m k) (m a)) || same_lane k a ≡ true → ⊥
    apart q g =
        let s : same_lane (m l) (m a) ≡ true = subst (λ b. same_lane (m l) b ≡ true) e (same-refl (m l)) in
        let c : not (same_lane (m l) (m a)) || same_lane l a ≡ true = subst (λ b. not (same_lane (m b) (m a)) || same_lane b a ≡ true) q g in
        let f : not true || false ≡ true = subst (λ b. not true || b ≡ true) d (subst (λ b. not b || same_lane l a ≡ true) s c) in
        absurd (cc)

module _ (t : Target) (f : Function) (n k : ℕ) (m : Lane → Lane) where
  -- the test at one writing
  abbrev at_write : Item → Code → Write → Bool
  at_write i p w = copies m w.lane w.fill || alone m w.lane (after t f n k i p ++ (lanes_of (writes_of i) ++ cond w.early (row t f n k (i ∷ p)) []))

  abbrev pub is_quiet : Code → Bool
  is_quiet [] = true
  is_quiet (i ∷ p) = list_all (at_write i p) (writes_of i) && is_quiet p

  module _ (computed : is_computed t f n k ≡ true) where
    quiet_at : (i : Item) (p : Code) → Ends (points_of t f) (i ∷ p) → list_all (at_write i p) (writes_of i) ≡ true → QuietAt (is_reserved t) (points_of t f) m i p
    quiet_at i p e h w a c l same other =
        let x : alone m w.lane (after t f n k i p ++ (lanes_of (writes_of i) ++ cond w.early (row t f n k (i ∷ p)) [])) ≡ true = or-true (copies m w.lane w.fill) (alone m w.lane (after t f n k i p ++ (lanes_of (writes_of i) ++ cond w.early (row t f n k (i ∷ p)) []))) (given_of (at_write i p) (writes_of i) w h a) c in
        let no = no_other m w.lane l (after t f n k i p ++ (lanes_of (writes_of i) ++ cond w.early (row t f n k (i ∷ p)) [])) x same other in (
          (λ v. no (listed_left (after t f n k i p) (lanes_of (writes_of i) ++ cond w.early (row t f n k (i ∷ p)) []) l ((decides_after t f n k computed i p e l).1 v))),
          (λ v b q. no (listed_right (after t f n k i p) (lanes_of (writes_of i) ++ cond w.early (row t f n k (i ∷ p)) []) l (listed_left (lanes_of (writes_of i)) (cond w.early (row t f n k (i ∷ p)) []) l ((decides_writing (is_reserved t) (points_of t f) i p l).1 (v, b, q))))),
          (λ r v. no (listed_right (after t f n k i p) (lanes_of (writes_of i) ++ cond w.early (row t f n k (i ∷ p)) []) l (listed_right (lanes_of (writes_of i)) (cond w.early (row t f n k (i ∷ p)) []) l (subst (λ b. lists (cond b (row t f n k (i ∷ p)) []) l ≡ true) (sym r) ((live_there t f n k computed (i ∷ p) e l).1 v))))),
        )

    quiet_from : (p : Code) → Ends (points_of t f) p → is_quiet p ≡ true → Quiet (is_reserved t) (points_of t f) m p
    quiet_from [] e h = record {}
    quiet_from (i ∷ p) e h =
        let x = both-true (list_all (at_write i p) (writes_of i)) (is_quiet p) h in
        (quiet_at i p e x.0, quiet_from p (behind e) x.1)

    -- the map is quiet on the function
    pub quieted : is_quiet (points_of t f) ≡ true → Quiet (is_reserved t) (points_of t f) m (points_of t f)
    quieted h = quiet_from (points_of t f) whole h
