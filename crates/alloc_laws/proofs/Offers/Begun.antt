-- The pieces of lanes begin with instructions of their blocks, and such read lanes in them.
use Rattle.std.proofs.Common.{◌≡◌, ℕ, Bool, true, false, cond, List, [], ◌∷◌, Option, Some, None, map, refl, sym, ap, ◌∙◌, eq-eqb}
use Rattle.std.specs.Prelude.{◌&&◌, nat_eq}
use Rattle.std.specs.List.{list_all}
use Rattle.std.proofs.lemmas.Bool.{and_from}
use Rattle.std.proofs.lemmas.List.Folds.{list_all-append, list_all-map}
use Rattle.mir_meaning.specs.declared.writing.LaneDef.{LaneDef}
use Rattle.live_lanes.specs.declared.row.LaneUse.{LaneUse}
use Rattle.mir_meaning.specs.Paths.{Step, Use, Unused, Certain, Into, has, use_of, writing_of, is_written}
use Rattle.live_lanes.specs.Table.{Begun, Seen}
use Rattle.live_lanes.specs.Entered.{Start, Shape, start_of, shape, starts, readings_until, reading_of}

-- the ids of these instructions are among those of the block
abbrev pub AreOf : List ℕ → List Step → Type 0
AreOf ids [] = Unit {0}
AreOf ids (s ∷ ss) = (has s.id ids ≡ true) × AreOf ids ss

has-more : (y x : ℕ) (ids : List ℕ) → has y ids ≡ true → has y (x ∷ ids) ≡ true
has-more y x ids h = go (nat_eq x y) h
  where
    go : (u : Bool) → has y ids ≡ true → cond u true (has y ids) ≡ true
    go true e = refl
    go false e = e

of-more : (x : ℕ) (ids : List ℕ) (ss : List Step) → AreOf ids ss → AreOf (x ∷ ids) ss
of-more x ids [] h = tt
of-more x ids (s ∷ ss) h = (has-more s.id x ids h.0, of-more x ids ss h.1)

pub of-own : {X : Type 0} (step : X → Step) (id : X → ℕ) → ((x : X) → (step x).id ≡ id x) → (xs : List X) → AreOf (map id xs) (map step xs)
of-own step id same [] = tt
of-own step id same (x ∷ xs) = (ap (λ u. cond u true (has (step x).id (map id xs))) (eq-eqb (id x) (step x).id (sym (same x))), of-more (id x) (map id xs) (map step xs) (of-own step id same xs))

module _ (ids : List ℕ) where
  abbrev is_here : LaneUse → Bool
  is_here r = has r.id ids

  abbrev are_here : List LaneUse → Bool
  are_here rs = list_all is_here rs

  one-here : (id : ℕ) (u : Use) → has id ids ≡ true → are_here (reading_of id u) ≡ true
  one-here id Unused h = refl
  one-here id Certain h = ap (λ b. b && true) h
  one-here id (Into a) h = ap (λ b. b && true) h

  rest-here : (b : Bool) (rs : List LaneUse) → are_here rs ≡ true → are_here (cond b [] rs) ≡ true
  rest-here true rs h = refl
  rest-here false rs h = h

  until-here : (l : ℕ) (ss : List Step) → AreOf ids ss → are_here (readings_until l ss) ≡ true
  until-here l [] h = refl
  until-here l (s ∷ ss) h =
      list_all-append is_here (reading_of s.id (use_of l s)) (cond (is_written l s) [] (readings_until l ss))
      ∙ and_from (are_here (reading_of s.id (use_of l s))) (are_here (cond (is_written l s) [] (readings_until l ss))) (one-here s.id (use_of l s) h.0) (rest-here (is_written l s) (readings_until l ss) (until-here l ss h.1))

  -- the pieces that begin with writings

  starts-here : (l : ℕ) (ss : List Step) → AreOf ids ss → list_all (λ (s : Start). has s.start ids) (starts l ss) ≡ true
  starts-here l [] h = refl
  starts-here l (s ∷ ss) h = go (writing_of l s.writes) (starts-here l ss h.1)
    where
      go : (o : Option LaneDef) → list_all (λ (p : Start). has p.start ids) (starts l ss) ≡ true → list_all (λ (p : Start). has p.start ids) (elim o [ None ↦ starts l ss | Some w ↦ record { start = s.id; early = w.early; from = w.from; readings = readings_until l ss } ∷ starts l ss ]) ≡ true
      go None ih = ih
      go (Some w) ih = and_from (has s.id ids) (list_all (λ (p : Start). has p.start ids) (starts l ss)) h.0 ih

  read-here : (l : ℕ) (ss : List Step) → AreOf ids ss → list_all (λ (s : Start). are_here s.readings) (starts l ss) ≡ true
  read-here l [] h = refl
  read-here l (s ∷ ss) h = go (writing_of l s.writes) (read-here l ss h.1)
    where
      go : (o : Option LaneDef) → list_all (λ (p : Start). are_here p.readings) (starts l ss) ≡ true → list_all (λ (p : Start). are_here p.readings) (elim o [ None ↦ starts l ss | Some w ↦ record { start = s.id; early = w.early; from = w.from; readings = readings_until l ss } ∷ starts l ss ]) ≡ true
      go None ih = ih
      go (Some w) ih = and_from (are_here (readings_until l ss)) (list_all (λ (p : Start). are_here p.readings) (starts l ss)) (until-here l ss h.1) ih

  -- what is entered of these instructions

  module _ (l : ℕ) (ss : List Step) (own : AreOf ids ss) (v : Seen) (last : Bool) (entered : shape v ≡ record { is_read_last = last; readings = readings_until l ss; segments = starts l ss }) where
    are : map start_of v.segments ≡ starts l ss
    are = ap (λ (h : Shape). h.segments) entered

    pub begins : list_all (λ (s : Begun). has s.start ids) v.segments ≡ true
    begins = sym (list_all-map (λ (s : Start). has s.start ids) start_of v.segments) ∙ ap (list_all (λ (s : Start). has s.start ids)) are ∙ starts-here l ss own

    pub reads : (are_here v.readings && list_all (λ (s : Begun). are_here s.readings) v.segments) ≡ true
    reads =
        and_from (are_here v.readings) (list_all (λ (s : Begun). are_here s.readings) v.segments)
        (ap (λ (h : Shape). are_here h.readings) entered ∙ until-here l ss own)
        (sym (list_all-map (λ (s : Start). are_here s.readings) start_of v.segments) ∙ ap (list_all (λ (s : Start). are_here s.readings)) are ∙ read-here l ss own)
