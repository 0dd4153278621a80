-- Raising a lane at the exits of a block before one at whose start it is live.
use Rattle.std.proofs.Common.{◌≡◌, ◌<◌, ◌≤◌, ℕ, zero, suc, ◌+◌, Bool, true, false, cond, length, List, [], ◌∷◌, ◌++◌, ◌⊎◌, Option, None, Some, refl, sym, ap, ◌∙◌, subst, inl, inr, arith, get_or, take, map}
use Rattle.std.specs.Prelude.{slice_get}
use Rattle.live_lanes.specs.declared.compute.flow.BlockFlow.{BlockFlow}
use Rattle.live_lanes.specs.declared.row.Cause.{Cause}
use Rattle.live_lanes.specs.declared.row.Cause.TheVariants as why
use Rattle.live_lanes.specs.declared.row.LaneRange.{LaneRange}
use Rattle.live_lanes.specs.declared.table.PieceSpot.{PieceSpot}
use Rattle.mir_meaning.specs.Paths.{Among, here, there, Step, Code, steps_of, exits_of}
use Rattle.live_lanes.specs.Graph.{Causes, is_live, writes_in, Founded, by_exit, by_end}
use Rattle.live_lanes.specs.Table.{Numbers, cause_in, exit_rank, end_rank}
use Rattle.live_lanes.specs.Entered.{start_of, starts, rows_seen, causes, predecessors, terminators, IsTableOf}
use Rattle.live_lanes.specs.Growth.{piece_in_rows, Raised, AllFounded, Grew, ExitsLive, RaisesExits}
use Rattle.live_lanes.proofs.Basics.{none-among, among-append}
use Rattle.live_lanes.proofs.Growth.{founded-kept, raised-grew, raised-live, grew-trans}
use Rattle.live_lanes.proofs.Numbered.{exit-piece, last-piece}
use Rattle.live_lanes.proofs.Rows.{row_seen}

pub lane-in : (rows : List LaneRange) (l b n : ℕ) → is_live (causes rows l b n) ≡ true → l < length rows
lane-in [] l b zero h = absurd (cc)
lane-in [] l b (suc n) h = absurd (cc)
lane-in (r ∷ rows) zero b n h = omega arith
lane-in (r ∷ rows) (suc l) b n h = let ih = lane-in rows l b n h in omega arith

pub table-kept : (code : Code) (slots : Numbers) (flow : List BlockFlow) (old new : List LaneRange) (x y : List PieceSpot) → IsTableOf code slots flow old → Grew code old new x y → IsTableOf code slots flow new
table-kept code slots flow old new x y t g = record { entered = λ l b. g.shapes l b ∙ t.entered l b; numbered = t.numbered; ways = t.ways; matched = t.matched; few = subst (λ n. n < 4294967296) (sym g.lanes) t.few }

module _ (code : Code) (slots : Numbers) (flow : List BlockFlow) (old new : List LaneRange) (lane block from : ℕ) (x y : List PieceSpot) (t : IsTableOf code slots flow old) (live : is_live (causes old lane from 0) ≡ true) (edge : Among from (exits_of code block)) where
  segments-are : map start_of (rows_seen old lane block).segments ≡ starts lane (steps_of code block)
  segments-are = ap (λ s. s.segments) (t.entered lane block)

  pub end-raised : Raised slots old new lane block 340282366920938463463374607431768211455 (why.Follower from) x y → Grew code old new x y × (is_live (causes new lane block (writes_in lane (steps_of code block))) ≡ true)
  end-raised r = (
    raised-grew code slots old new lane block 340282366920938463463374607431768211455 (why.Follower from) x y r refl (λ c k f. subst (Founded code (causes new) lane block) (sym at) (by_end (ap (causes new lane block) (sym at) ∙ c) edge (founded-kept code (causes old) (causes new) k (f lane from 0 live)))),
    ap (λ n. is_live (causes new lane block n)) (sym at) ∙ raised-live code slots old new lane block 340282366920938463463374607431768211455 (why.Follower from) x y r refl,
  )
    where
      at : piece_in_rows slots old lane block 340282366920938463463374607431768211455 ≡ writes_in lane (steps_of code block)
      at = last-piece code slots t.numbered lane block (rows_seen old lane block).segments segments-are

  pub exit-raised : (before : List Step) (s : Step) (rest : List Step) → steps_of code block ≡ before ++ s ∷ rest → s.leaves ≡ true → Raised slots old new lane block (exit_rank slots s.id) (why.Follower from) x y → Grew code old new x y × (is_live (causes new lane block (writes_in lane (before ++ s ∷ []))) ≡ true)
  exit-raised before s rest e leaves r = (
    raised-grew code slots old new lane block (exit_rank slots s.id) (why.Follower from) x y r refl (λ c k f. subst (Founded code (causes new) lane block) (sym at) (by_exit before s rest e (ap (causes new lane block) (sym at) ∙ c) leaves edge (founded-kept code (causes old) (causes new) k (f lane from 0 live)))),
    ap (λ n. is_live (causes new lane block n)) (sym at) ∙ raised-live code slots old new lane block (exit_rank slots s.id) (why.Follower from) x y r refl,
  )
    where
      at : piece_in_rows slots old lane block (exit_rank slots s.id) ≡ writes_in lane (before ++ s ∷ [])
      at = exit-piece code slots t.numbered lane block (rows_seen old lane block).segments segments-are before s rest e

-- as far as the loop over terminators has come
pub record SomeExits (code : Code) (slots : Numbers) (old new : List LaneRange) (lane block : ℕ) (ids : List ℕ) (x y : List PieceSpot) : Type 0 where
  pub grew : Grew code old new x y
  pub end : is_live (causes new lane block (writes_in lane (steps_of code block))) ≡ true
  pub exit : (before : List Step) (s : Step) (rest : List Step) → steps_of code block ≡ before ++ s ∷ rest → s.leaves ≡ true → Among s.id ids → is_live (causes new lane block (writes_in lane (before ++ s ∷ []))) ≡ true

among-cases : {A : Type 0} (x y : A) (ys : List A) → Among x (y ∷ ys) → (x ≡ y) ⊎ Among x ys
among-cases x y ys here = inl refl
among-cases x y ys (there a) = inr a

pub among-more : (x : ℕ) (ids : List ℕ) (k : ℕ) → Among x (take (suc k) ids) → Among x (take k ids) ⊎ (x ≡ get_or ids k 0)
among-more x [] k a = absurd (none-among x a)
among-more x (i ∷ is) zero a = go (among-cases x i [] a)
  where
    go : (x ≡ i) ⊎ Among x [] → Among x [] ⊎ (x ≡ i)
    go (inl e) = inr e
    go (inr b) = inl b
among-more x (i ∷ is) (suc k) a = go (among-cases x i (take (suc k) is) a) (λ b. among-more x is k b)
  where
    more : Among x (take k is) ⊎ (x ≡ get_or is k 0) → Among x (i ∷ take k is) ⊎ (x ≡ get_or is k 0)
    more (inl b) = inl (there b)
    more (inr e) = inr e

    go : (x ≡ i) ⊎ Among x (take (suc k) is) → (Among x (take (suc k) is) → Among x (take k is) ⊎ (x ≡ get_or is k 0)) → Among x (i ∷ take k is) ⊎ (x ≡ get_or is k 0)
    go (inl e) f = inl (subst (λ z. Among x (z ∷ take k is)) e here)
    go (inr b) f = more (f b)

pub among-at : (ids : List ℕ) (k : ℕ) → k < length ids → Among (get_or ids k 0) ids
among-at [] k h = absurd (omega arith)
among-at (i ∷ is) zero h = here
among-at (i ∷ is) (suc k) h = there (among-at is k (omega arith))

-- one more terminator
pub exits-more : (code : Code) (slots : Numbers) (flow : List BlockFlow) (old mid new : List LaneRange) (lane block from : ℕ) (ids : List ℕ) (k id : ℕ) (x y z : List PieceSpot) → IsTableOf code slots flow old → is_live (causes old lane from 0) ≡ true → Among from (exits_of code block) → ids ≡ terminators flow block → k < length ids → id ≡ get_or ids k 0 → SomeExits code slots old mid lane block (take k ids) x y → Raised slots mid new lane block (exit_rank slots id) (why.Follower from) y z → SomeExits code slots old new lane block (take (k + 1) ids) x z
exits-more code slots flow old mid new lane block from ids k id x y z t live edge e h at so r = record {
  grew = grew-trans code old mid new x y z so.grew step;
  end = ap is_live (step.kept lane block (writes_in lane (steps_of code block)) so.end) ∙ so.end;
  exit = λ before s rest f l a. one before s rest f l (among-more s.id ids k (subst (λ n. Among s.id (take n ids)) (let n : k + 1 ≡ suc k = omega arith in n) a));
}
  where
    t' : IsTableOf code slots flow mid
    t' = table-kept code slots flow old mid x y t so.grew

    live' : is_live (causes mid lane from 0) ≡ true
    live' = ap is_live (so.grew.kept lane from 0 live) ∙ live

    split : (before : List Step) × (s : Step) × (rest : List Step) × (steps_of code block ≡ before ++ s ∷ rest) × (s.id ≡ id) × (s.leaves ≡ true)
    split = t.ways.terminates block id (subst (Among id) e (subst (λ i. Among i ids) (sym at) (among-at ids k h)))

    at-split : (s : Step) → s.id ≡ id → Raised slots mid new lane block (exit_rank slots s.id) (why.Follower from) y z
    at-split s f = subst (λ i. Raised slots mid new lane block (exit_rank slots i) (why.Follower from) y z) (sym f) r

    step : Grew code mid new y z
    step = (exit-raised code slots flow mid new lane block from y z t' live' edge split.0 split.1 split.2 split.3 split.5 (at-split split.1 split.4)).0

    one : (before : List Step) (s : Step) (rest : List Step) → steps_of code block ≡ before ++ s ∷ rest → s.leaves ≡ true → Among s.id (take k ids) ⊎ (s.id ≡ get_or ids k 0) → is_live (causes new lane block (writes_in lane (before ++ s ∷ []))) ≡ true
    one before s rest f l (inl a) = let g = so.exit before s rest f l a in ap is_live (step.kept lane block (writes_in lane (before ++ s ∷ [])) g) ∙ g
    one before s rest f l (inr g) = (exit-raised code slots flow mid new lane block from y z t' live' edge before s rest f l (at-split s (g ∙ sym at))).1

-- none of the terminators yet
pub exits-none : (code : Code) (slots : Numbers) (flow : List BlockFlow) (old new : List LaneRange) (lane block from : ℕ) (x y : List PieceSpot) → IsTableOf code slots flow old → is_live (causes old lane from 0) ≡ true → Among from (exits_of code block) → Raised slots old new lane block 340282366920938463463374607431768211455 (why.Follower from) x y → SomeExits code slots old new lane block [] x y
exits-none code slots flow old new lane block from x y t live edge r =
    let z = end-raised code slots flow old new lane block from x y t live edge r in
    record { grew = z.0; end = z.1; exit = λ before s rest f l a. absurd (none-among s.id a) }

take-all : (ids : List ℕ) (k : ℕ) → length ids ≤ k → take k ids ≡ ids
take-all [] zero h = refl
take-all [] (suc k) h = refl
take-all (i ∷ is) zero h = absurd (omega arith)
take-all (i ∷ is) (suc k) h = ap (λ t. i ∷ t) (take-all is k (omega arith))

-- all of them
pub exits-all : (code : Code) (slots : Numbers) (flow : List BlockFlow) (old new : List LaneRange) (lane block : ℕ) (ids : List ℕ) (k : ℕ) (x y : List PieceSpot) → IsTableOf code slots flow old → ids ≡ terminators flow block → length ids ≤ k → SomeExits code slots old new lane block (take k ids) x y → Grew code old new x y × ExitsLive code (causes new) lane block
exits-all code slots flow old new lane block ids k x y t e h so = (so.grew, record { end = so.end; exit = λ before s rest f l. so.exit before s rest f l (subst (Among s.id) (sym e ∙ sym (take-all ids k h)) (t.ways.leaves block s (subst (Among s) (sym f) (among-append s before rest)) l)) })

pub exits-kept : (code : Code) (old new : List LaneRange) (x y : List PieceSpot) (l b : ℕ) → Grew code old new x y → ExitsLive code (causes old) l b → ExitsLive code (causes new) l b
exits-kept code old new x y l b g e = record {
  end = ap is_live (g.kept l b (writes_in l (steps_of code b)) e.end) ∙ e.end;
  exit = λ before s rest f h. let z = e.exit before s rest f h in ap is_live (g.kept l b (writes_in l (before ++ s ∷ [])) z) ∙ z;
}

-- as far as the loop over the blocks before has come
pub record SomePredecessors (code : Code) (old new : List LaneRange) (lane block : ℕ) (ps : List ℕ) (x y : List PieceSpot) : Type 0 where
  pub grew : Grew code old new x y
  pub exits : (b : ℕ) → Among b ps → ExitsLive code (causes new) lane b

pub predecessors-more : (code : Code) (slots : Numbers) (flow : List BlockFlow) (old mid new : List LaneRange) (lane block : ℕ) (ps ids : List ℕ) (k p : ℕ) (x y z : List PieceSpot) → IsTableOf code slots flow old → is_live (causes old lane block 0) ≡ true → ps ≡ predecessors flow block → k < length ps → p ≡ get_or ps k 0 → ids ≡ terminators flow p → SomePredecessors code old mid lane block (take k ps) x y → RaisesExits slots mid new lane p block ids y z → SomePredecessors code old new lane block (take (k + 1) ps) x z
predecessors-more code slots flow old mid new lane block ps ids k p x y z t live e h at ie so r = record {
  grew = grew-trans code old mid new x y z so.grew step.0;
  exits = λ b a. one b (among-more b ps k (subst (λ n. Among b (take n ps)) (let n : k + 1 ≡ suc k = omega arith in n) a));
}
  where
    edge : Among block (exits_of code p)
    edge = t.ways.forth p block (subst (Among p) e (subst (λ i. Among i ps) (sym at) (among-at ps k h)))

    step : Grew code mid new y z × ExitsLive code (causes new) lane p
    step = r code flow (table-kept code slots flow old mid x y t so.grew) (ap is_live (so.grew.kept lane block 0 live) ∙ live) edge ie

    one : (b : ℕ) → Among b (take k ps) ⊎ (b ≡ get_or ps k 0) → ExitsLive code (causes new) lane b
    one b (inl a) = exits-kept code mid new y z lane b step.0 (so.exits b a)
    one b (inr f) = subst (λ q. ExitsLive code (causes new) lane q) (sym (f ∙ sym at)) step.1

pub predecessors-all : (code : Code) (slots : Numbers) (flow : List BlockFlow) (old new : List LaneRange) (lane block : ℕ) (ps : List ℕ) (k : ℕ) (x y : List PieceSpot) → IsTableOf code slots flow old → ps ≡ predecessors flow block → length ps ≤ k → SomePredecessors code old new lane block (take k ps) x y → Grew code old new x y × ((b : ℕ) → Among block (exits_of code b) → ExitsLive code (causes new) lane b)
predecessors-all code slots flow old new lane block ps k x y t e h so = (so.grew, λ b a. so.exits b (subst (Among b) (sym e ∙ sym (take-all ps k h)) (t.ways.back b block a)))
