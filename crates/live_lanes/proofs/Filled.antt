-- Entering all instructions of all blocks gives each lane its pieces in each block.
use Rattle.std.proofs.Common.{◌≡◌, ◌<◌, ℕ, suc, Bool, true, false, cond, ◌&&◌, ◌||◌, List, [], ◌∷◌, ◌++◌, Option, Some, None, map, refl, sym, ap, ◌∙◌, append-nil, append_assoc, eqb-true, eq-eqb, arith}
use Rattle.std.specs.Prelude.{nat_eq}
use Rattle.std.specs.List.{list_any}
use Rattle.std.proofs.lemmas.Bool.{ne_eqb}
use Rattle.mir_meaning.specs.declared.writing.LaneDef.{LaneDef}
use Rattle.mir_meaning.specs.Paths.{Step, has, Use, Unused, Certain, Into, use_of, writing_of}
use Rattle.live_lanes.specs.Table.{Seen, unseen, is_none, with_reading, with_segment, read_at_end}
use Rattle.live_lanes.specs.Entered.{reading, readings_until, starts}
use Rattle.live_lanes.specs.Entering.{at_spot, reads_entered, moves_entered, writes_entered, source_entered, lasts_entered, end_entered, ends_entered, EnteredStep, step_entered, block_entered, blocks_entered, steps_in, steps_from, is_end_read, is_read_last, AreApart, AllApart}
use Rattle.live_lanes.specs.Laws.{EnteringLaw}
use Rattle.live_lanes.proofs.Stepped.{used, written, step-is}
use Rattle.live_lanes.proofs.Gathered.{pieces, added, pieces-more, bare, IsFresh, after_step, bare-step, fresh-step}

-- a lane that phis read at the block's end, if they do

abbrev pub mark : Bool → Seen → Seen
mark t v = cond t (read_at_end v) v

mark-mark : (t u : Bool) (v : Seen) → mark u (mark t v) ≡ mark (t || u) v
mark-mark true true v = refl
mark-mark true false v = refl
mark-mark false u v = refl

mark-bare : (t : Bool) (v : Seen) → bare (mark t v) ≡ bare v
mark-bare true v = refl
mark-bare false v = refl

mark-last : (t : Bool) (v : Seen) → (mark t v).is_read_last ≡ t || v.is_read_last
mark-last true v = refl
mark-last false v = refl

mark-fresh : (id : ℕ) (t : Bool) (v : Seen) → IsFresh id v → IsFresh id (mark t v)
mark-fresh id true v f = record { reads = f.reads; begins = f.begins }
mark-fresh id false v f = f

or-false : (t : Bool) → t || false ≡ t
or-false true = refl
or-false false = refl

or-assoc : (t u w : Bool) → t || (u || w) ≡ (t || u) || w
or-assoc true u w = refl
or-assoc false u w = refl

or-comm : (t u : Bool) → t || u ≡ u || t
or-comm true true = refl
or-comm true false = refl
or-comm false true = refl
or-comm false false = refl

module _ (place : ℕ → Option ℕ) (l b : ℕ) where
  lasts : (p : ℕ) (xs : List ℕ) (v : Seen) → lasts_entered p xs l b v ≡ mark (has l xs && nat_eq p b) v
  lasts p [] v = refl
  lasts p (x ∷ xs) v = lasts p xs (mark (nat_eq x l && nat_eq p b) v) ∙ mark-mark (nat_eq x l && nat_eq p b) (has l xs && nat_eq p b) v ∙ ap (λ t. mark t v) (go (nat_eq x l) (nat_eq p b) (has l xs))
    where
      go : (t u w : Bool) → (t && u) || (w && u) ≡ cond t true w && u
      go true true w = refl
      go true false true = refl
      go true false false = refl
      go false u w = refl

  end-one : (r : ℕ × List ℕ) (v : Seen) → end_entered place l b r v ≡ mark (is_end_read place l b r) v
  end-one r v = go (place r.0)
    where
      go : (q : Option ℕ) → elim q [ None ↦ v | Some p ↦ lasts_entered p r.1 l b v ] ≡ mark (elim q [ None ↦ false | Some p ↦ has l r.1 && nat_eq p b ]) v
      go None = refl
      go (Some p) = lasts p r.1 v

  pub ends : (rs : List (ℕ × List ℕ)) (v : Seen) → ends_entered place rs l b v ≡ mark (list_any (is_end_read place l b) rs) v
  ends [] v = refl
  ends (r ∷ rs) v = ap (λ u. ends_entered place rs l b u) (end-one r v) ∙ ends rs (mark (is_end_read place l b r) v) ∙ mark-mark (is_end_read place l b r) (list_any (is_end_read place l b) rs) v

  abbrev pub reads_last : EnteredStep → Bool
  reads_last e = list_any (is_end_read place l b) e.1

  -- an instruction of another block

  module _ (block : ℕ) (apart : nat_eq block b ≡ false) where
    away : (lane : ℕ) (g : Seen → Seen) (v : Seen) → at_spot lane block g l b v ≡ v
    away lane g v = ap (λ t. cond (nat_eq lane l && t) (g v) v) apart ∙ go (nat_eq lane l)
      where
        go : (t : Bool) → cond (t && false) (g v) v ≡ v
        go true = refl
        go false = refl

    reads-away : (id : ℕ) (xs : List ℕ) (v : Seen) → reads_entered block id xs l b v ≡ v
    reads-away id [] v = refl
    reads-away id (x ∷ xs) v = ap (λ u. reads_entered block id xs l b u) (away x (with_reading (reading id None)) v) ∙ reads-away id xs v

    source-away : (id to : ℕ) (from : Option ℕ) (v : Seen) → source_entered block id l b to from v ≡ v
    source-away id to None v = refl
    source-away id to (Some lane) v = away lane (with_reading (reading id (Some to))) v

    moves-away : (id : ℕ) (ws : List LaneDef) (v : Seen) → moves_entered block id ws l b v ≡ v
    moves-away id [] v = refl
    moves-away id (w ∷ ws) v = ap (λ u. moves_entered block id ws l b u) (source-away id w.lane w.from v) ∙ moves-away id ws v

    writes-away : (id : ℕ) (ws : List LaneDef) (v : Seen) → writes_entered block id ws l b v ≡ v
    writes-away id [] v = refl
    writes-away id (w ∷ ws) v = ap (λ u. writes_entered block id ws l b u) (away w.lane (with_segment id w.early w.from) v) ∙ writes-away id ws v

    step-away : (e : EnteredStep) (v : Seen) → step_entered place block l b e v ≡ mark (reads_last e) v
    step-away e v =
        ap (λ u. ends_entered place e.1 l b u) (ap (λ u. writes_entered block e.0.id e.0.writes l b (moves_entered block e.0.id e.0.writes l b u)) (reads-away e.0.id e.0.reads v) ∙ ap (λ u. writes_entered block e.0.id e.0.writes l b u) (moves-away e.0.id e.0.writes v) ∙ writes-away e.0.id e.0.writes v) ∙ ends e.1 v

    pub block-away : (es : List EnteredStep) (v : Seen) → block_entered place block es l b v ≡ mark (list_any reads_last es) v
    block-away [] v = refl
    block-away (e ∷ es) v = ap (λ u. block_entered place block es l b u) (step-away e v) ∙ block-away es (mark (reads_last e) v) ∙ mark-mark (reads_last e) (list_any reads_last es) v

  -- an instruction of the block

  abbrev pub AllFresh : List Step → Seen → Type 0
  AllFresh ss v = (id : ℕ) → has id (map (λ x. x.id) ss) ≡ true → IsFresh id v

  pub record IsFilled (es : List EnteredStep) (was v : Seen) (done : List Step) : Type 0 where
    pub seen : bare v ≡ pieces l (done ++ steps_in es)
    pub last : v.is_read_last ≡ list_any reads_last es || was.is_read_last

  last-written : (s : Step) (v : Seen) → (after_step l s v).is_read_last ≡ v.is_read_last
  last-written s v = go (writing_of l s.writes) ∙ by (use_of l s)
    where
      go : (q : Option LaneDef) → (written s.id q (used s.id (use_of l s) v)).is_read_last ≡ (used s.id (use_of l s) v).is_read_last
      go None = refl
      go (Some w) = refl

      same : (t : Bool) (x y : Seen) → x.is_read_last ≡ v.is_read_last → y.is_read_last ≡ v.is_read_last → (cond t x y).is_read_last ≡ v.is_read_last
      same true x y e f = e
      same false x y e f = f

      by : (u : Use) → (used s.id u v).is_read_last ≡ v.is_read_last
      by Unused = refl
      by Certain = same (is_none v.segments) _ _ refl refl
      by (Into a) = same (is_none v.segments) _ _ refl refl

  module _ (block : ℕ) (here : nat_eq block b ≡ true) where
    step-here : (e : EnteredStep) (v : Seen) → IsFresh e.0.id v → step_entered place block l b e v ≡ mark (reads_last e) (after_step l e.0 v)
    step-here e v f = ap (λ u. ends_entered place e.1 l b u) (step-is l b block e.0.id here e.0 v f.reads f.begins) ∙ ends e.1 (after_step l e.0 v)

    pub fill : (es : List EnteredStep) (v : Seen) (done : List Step) → AreApart (steps_in es) → AllFresh (steps_in es) v → bare v ≡ pieces l done → IsFilled es v (block_entered place block es l b v) done
    fill [] v done apart fresh e = record { seen = e ∙ ap (pieces l) (sym (append-nil done)); last = refl }
    fill (e ∷ es) v done apart fresh known =
        let own : has e.0.id (e.0.id ∷ map (λ x. x.id) (steps_in es)) ≡ true = ap (λ t. cond t true (has e.0.id (map (λ x. x.id) (steps_in es)))) (eq-eqb e.0.id e.0.id refl) in
        let stepped = step-here e v (fresh e.0.id own) in
        let next = mark (reads_last e) (after_step l e.0 v) in
        let so = fill es next (done ++ e.0 ∷ []) apart.1 (later apart.0) (mark-bare (reads_last e) (after_step l e.0 v) ∙ bare-step l e.0 v ∙ ap (added l e.0) known ∙ sym (pieces-more l e.0 done)) in
        record {
          seen = ap (λ u. bare (block_entered place block es l b u)) stepped ∙ so.seen ∙ ap (pieces l) (append_assoc done (e.0 ∷ []) (steps_in es));
          last = ap (λ u. (block_entered place block es l b u).is_read_last) stepped ∙ so.last ∙ ap (λ t. list_any reads_last es || t) (mark-last (reads_last e) (after_step l e.0 v) ∙ ap (λ t. reads_last e || t) (last-written e.0 v)) ∙ or-assoc (list_any reads_last es) (reads_last e) v.is_read_last ∙ ap (λ t. t || v.is_read_last) (or-comm (list_any reads_last es) (reads_last e));
        }
      where
        later : has e.0.id (map (λ x. x.id) (steps_in es)) ≡ false → AllFresh (steps_in es) (mark (reads_last e) (after_step l e.0 v))
        later none id m = mark-fresh id (reads_last e) (after_step l e.0 v) (go (nat_eq e.0.id id) refl)
          where
            go : (t : Bool) → nat_eq e.0.id id ≡ t → IsFresh id (after_step l e.0 v)
            go true f = let same : e.0.id ≡ id = eqb-true e.0.id id f in absurd (let z : has id (map (λ x. x.id) (steps_in es)) ≡ false = ap (λ k. has k (map (λ x. x.id) (steps_in es))) (sym same) ∙ none in cc)
            go false f = fresh-step l id e.0 v f (fresh id (ap (λ t. cond t true (has id (map (λ x. x.id) (steps_in es)))) f ∙ m))

  pub past : (n : ℕ) (ess : List (List EnteredStep)) (v : Seen) → b < n → blocks_entered place n ess l b v ≡ mark (list_any (list_any reads_last) ess) v
  past n [] v h = refl
  past n (es ∷ ess) v h = ap (λ u. blocks_entered place (suc n) ess l b u) (block-away n (ne_eqb n b (λ e. omega arith)) es v) ∙ past (suc n) ess (mark (list_any reads_last es) v) (omega arith) ∙ mark-mark (list_any reads_last es) (list_any (list_any reads_last) ess) v

  pub record IsWhole (n : ℕ) (ess : List (List EnteredStep)) (was v : Seen) : Type 0 where
    pub seen : bare v ≡ pieces l (steps_from n ess b)
    pub last : v.is_read_last ≡ list_any (list_any reads_last) ess || was.is_read_last

  whole : (n : ℕ) (ess : List (List EnteredStep)) (v : Seen) → AllApart ess → ((id : ℕ) → IsFresh id v) → bare v ≡ pieces l [] → IsWhole n ess v (blocks_entered place n ess l b v)
  whole n [] v apart fresh e = record { seen = e; last = refl }
  whole n (es ∷ ess) v apart fresh known = go (nat_eq n b) refl (whole (suc n) ess (mark (list_any reads_last es) v) apart.1 (λ id. mark-fresh id (list_any reads_last es) v (fresh id)) (mark-bare (list_any reads_last es) v ∙ known))
    where
      next : Seen
      next = block_entered place n es l b v

      go : (t : Bool) → nat_eq n b ≡ t → IsWhole (suc n) ess (mark (list_any reads_last es) v) (blocks_entered place (suc n) ess l b (mark (list_any reads_last es) v)) → IsWhole n (es ∷ ess) v (blocks_entered place n (es ∷ ess) l b v)
      go true f so-far =
          let same : n ≡ b = eqb-true n b f in
          let so = fill n f es v [] apart.0 (λ id m. fresh id) known in
          let rest = past (suc n) ess next (omega arith) in
          record {
            seen = ap bare rest ∙ mark-bare (list_any (list_any reads_last) ess) next ∙ so.seen ∙ sym (ap (λ t. pieces l (cond t (steps_in es) (steps_from (suc n) ess b))) f);
            last = ap (λ u. u.is_read_last) rest ∙ mark-last (list_any (list_any reads_last) ess) next ∙ ap (λ t. list_any (list_any reads_last) ess || t) so.last ∙ or-assoc (list_any (list_any reads_last) ess) (list_any reads_last es) v.is_read_last ∙ ap (λ t. t || v.is_read_last) (or-comm (list_any (list_any reads_last) ess) (list_any reads_last es));
          }
      go false f so =
          let here = block-away n f es v in
          record {
            seen = ap (λ u. bare (blocks_entered place (suc n) ess l b u)) here ∙ so.seen ∙ sym (ap (λ t. pieces l (cond t (steps_in es) (steps_from (suc n) ess b))) f);
            last = ap (λ u. (blocks_entered place (suc n) ess l b u).is_read_last) here ∙ so.last ∙ ap (λ t. list_any (list_any reads_last) ess || t) (mark-last (list_any reads_last es) v) ∙ or-assoc (list_any (list_any reads_last) ess) (list_any reads_last es) v.is_read_last ∙ ap (λ t. t || v.is_read_last) (or-comm (list_any (list_any reads_last) ess) (list_any reads_last es));
          }

pub entering-law : EnteringLaw
entering-law place ess apart l b =
    let so = whole place l b 0 ess unseen apart (λ id. record { reads = refl; begins = refl }) refl in
    let v = blocks_entered place 0 ess l b unseen in
    ap (λ w. record { is_read_last = v.is_read_last; readings = w.readings; segments = w.segments }) so.seen ∙ ap (λ t. record { is_read_last = t; readings = readings_until l (steps_from 0 ess b); segments = starts l (steps_from 0 ess b) }) (so.last ∙ or-false (is_read_last place l b ess))
