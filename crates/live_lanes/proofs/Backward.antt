-- Entering the blocks from the last to the first gives what entering them from the first to the last gives.
use Rattle.std.proofs.Common.{◌≡◌, ◌<◌, ℕ, suc, Bool, true, false, cond, ◌&&◌, length, List, [], ◌∷◌, drop, map, Option, None, Some, refl, sym, ap, ◌∙◌, arith, get_or, eqb-true}
use Rattle.std.proofs.Math.Seq.{drop-cons}
use Rattle.std.specs.Prelude.{nat_eq}
use Rattle.std.specs.List.{list_any}
use Rattle.mir_meaning.specs.declared.writing.LaneDef.{LaneDef}
use Rattle.mir_func.specs.declared.func.Block.{Block}
use Rattle.live_lanes.specs.declared.row.LaneUse.{LaneUse}
use Rattle.live_lanes.specs.declared.row.LaneRange.{LaneRange}
use Rattle.live_lanes.specs.Table.{Seen, is_none, with_reading, with_segment, starts_last, read_at_end}
use Rattle.live_lanes.specs.Entered.{reading}
use Rattle.live_lanes.specs.Coded.{Doing, entries}
use Rattle.live_lanes.specs.Entering.{enter_all, at_spot, Enters, EnteredStep, read_entered, source_entered, move_entered, write_entered, reads_entered, moves_entered, writes_entered, ends_entered, is_end_read, step_entered, block_entered, blocks_entered}
use Rattle.live_lanes.proofs.Entering.{enters-both, enters-as}
use Rattle.live_lanes.proofs.Filled.{mark, reads_last, ends, block-away, past}

-- what may come before or after a lane is marked as read at the block's end

abbrev Commutes : (Seen → Seen) → Type 0
Commutes f = (t : Bool) (v : Seen) → f (mark t v) ≡ mark t (f v)

with-mark : (u : Bool) → Commutes (mark u)
with-mark true true v = refl
with-mark true false v = refl
with-mark false t v = refl

with-both : (f g : Seen → Seen) → Commutes f → Commutes g → Commutes (λ v. g (f v))
with-both f g c d t v = ap g (c t v) ∙ d t (f v)

with-all : {X : Type 0} (g : X → Seen → Seen) → ((x : X) → Commutes (g x)) → (xs : List X) → Commutes (enter_all g xs)
with-all g c [] t v = refl
with-all g c (x ∷ xs) t v = ap (enter_all g xs) (c x t v) ∙ with-all g c xs t (g x v)

with-last : (u : Bool) (x y : Seen) → cond u (read_at_end x) (read_at_end y) ≡ read_at_end (cond u x y)
with-last true x y = refl
with-last false x y = refl

with-reading : (r : LaneUse) → Commutes (with_reading r)
with-reading r true v = with-last (is_none v.segments) _ _
with-reading r false v = refl

with-segment : (id : ℕ) (early : Bool) (from : Option ℕ) → Commutes (with_segment id early from)
with-segment id early from true v = with-last (starts_last id v.segments) _ _
with-segment id early from false v = refl

module _ (place : ℕ → Option ℕ) (l b : ℕ) where
  with-spot : (lane block : ℕ) (g : Seen → Seen) → Commutes g → Commutes (at_spot lane block g l b)
  with-spot lane block g c t v = go (nat_eq lane l && nat_eq block b)
    where
      go : (u : Bool) → cond u (g (mark t v)) (mark t v) ≡ mark t (cond u (g v) v)
      go true = c t v
      go false = refl

  with-read : (block id lane : ℕ) → Commutes (read_entered block id l b lane)
  with-read block id lane = with-spot lane block (with_reading (reading id None)) (with-reading (reading id None))

  with-source : (block id to : ℕ) (from : Option ℕ) → Commutes (source_entered block id l b to from)
  with-source block id to None t v = refl
  with-source block id to (Some lane) t v = with-spot lane block (with_reading (reading id (Some to))) (with-reading (reading id (Some to))) t v

  with-write : (block id : ℕ) (w : LaneDef) → Commutes (write_entered block id l b w)
  with-write block id w = with-spot w.lane block (with_segment id w.early w.from) (with-segment id w.early w.from)

  with-ends : (rs : List (ℕ × List ℕ)) → Commutes (ends_entered place rs l b)
  with-ends rs t v =
      let u = list_any (is_end_read place l b) rs in
      ends place l b rs (mark t v) ∙ with-mark u t v ∙ sym (ap (mark t) (ends place l b rs v))

  with-step : (block : ℕ) (e : EnteredStep) → Commutes (step_entered place block l b e)
  with-step block e =
      let reads = reads_entered block e.0.id e.0.reads l b in
      let moves = moves_entered block e.0.id e.0.writes l b in
      let writes = writes_entered block e.0.id e.0.writes l b in
      let two = with-both reads moves (with-all (read_entered block e.0.id l b) (with-read block e.0.id) e.0.reads) (with-all (move_entered block e.0.id l b) (λ w. with-source block e.0.id w.lane w.from) e.0.writes) in
      let three = with-both (λ v. moves (reads v)) writes two (with-all (write_entered block e.0.id l b) (with-write block e.0.id) e.0.writes) in
      with-both (λ v. writes (moves (reads v))) (ends_entered place e.1 l b) three (with-ends e.1)

  with-block : (block : ℕ) (es : List EnteredStep) → Commutes (block_entered place block es l b)
  with-block block es = with-all (step_entered place block l b) (with-step block) es

  with-blocks : (n : ℕ) (ess : List (List EnteredStep)) → Commutes (blocks_entered place n ess l b)
  with-blocks n [] t v = refl
  with-blocks n (es ∷ ess) t v = ap (blocks_entered place (suc n) ess l b) (with-block n es t v) ∙ with-blocks (suc n) ess t (block_entered place n es l b v)

  -- a block before others or after them
  block-between : (n : ℕ) (es : List EnteredStep) (ess : List (List EnteredStep)) (v : Seen) → blocks_entered place (suc n) ess l b (block_entered place n es l b v) ≡ block_entered place n es l b (blocks_entered place (suc n) ess l b v)
  block-between n es ess v = go (nat_eq n b) refl
    where
      go : (t : Bool) → nat_eq n b ≡ t → blocks_entered place (suc n) ess l b (block_entered place n es l b v) ≡ block_entered place n es l b (blocks_entered place (suc n) ess l b v)
      go true f =
          let same : n ≡ b = eqb-true n b f in
          let marks = list_any (list_any (reads_last place l b)) ess in
          past place l b (suc n) ess (block_entered place n es l b v) (omega arith) ∙ sym (with-block n es marks v) ∙ ap (block_entered place n es l b) (sym (past place l b (suc n) ess v (omega arith)))
      go false f =
          let marks = list_any (reads_last place l b) es in
          ap (blocks_entered place (suc n) ess l b) (block-away place l b n f es v) ∙ with-blocks (suc n) ess marks v ∙ sym (block-away place l b n f es (blocks_entered place (suc n) ess l b v))

-- the block before those that are entered
pub enters-before : (doing : Doing) (place : ℕ → Option ℕ) (old mid new : List LaneRange) (bs : List Block) (k : ℕ) (c : Block) → k < length bs → c ≡ get_or bs k c → Enters old mid (blocks_entered place (suc k) (entries doing (drop (suc k) bs))) → Enters mid new (block_entered place k (map doing c.instrs)) → Enters old new (blocks_entered place k (entries doing (drop k bs)))
enters-before doing place old mid new bs k c h e x y =
    let rest = entries doing (drop (suc k) bs) in
    let split : drop k bs ≡ c ∷ drop (suc k) bs = drop-cons bs k c h ∙ ap (λ d. d ∷ drop (suc k) bs) (sym e) in
    enters-as old new (λ l b v. block_entered place k (map doing c.instrs) l b (blocks_entered place (suc k) rest l b v)) (blocks_entered place k (entries doing (drop k bs)))
    (λ l b v. sym (block-between place l b k (map doing c.instrs) rest v) ∙ sym (ap (λ cs. blocks_entered place k (entries doing cs) l b v) split))
    (enters-both old mid new (blocks_entered place (suc k) rest) (block_entered place k (map doing c.instrs)) x y)
