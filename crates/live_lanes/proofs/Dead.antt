-- What is entered makes nothing live.
use Rattle.std.proofs.Common.{◌≡◌, ℕ, zero, suc, Bool, true, false, cond, ◌&&◌, List, [], ◌∷◌, ◌++◌, Option, Some, None, refl, ap, ◌∙◌}
use Rattle.std.specs.Prelude.{nat_eq, slice_get}
use Rattle.live_lanes.specs.declared.row.LaneUse.{LaneUse}
use Rattle.live_lanes.specs.Graph.{is_live}
use Rattle.live_lanes.specs.Table.{Begun, Seen, unseen, cause_in, begun_cause, with_last, changed_last, is_none, with_reading, new_begun, starts_last, with_segment, read_at_end}
use Rattle.live_lanes.specs.Entered.{reading}
use Rattle.live_lanes.specs.Entering.{enter_all, at_spot, read_entered, source_entered, move_entered, write_entered, last_entered, lasts_entered, end_entered, EnteredStep, step_entered, block_entered, blocks_entered}

-- no piece is live
abbrev pub IsDead : Seen → Type 0
IsDead v = (n : ℕ) → is_live (cause_in v n) ≡ false

-- nothing becomes live by it
abbrev IsMild : (Seen → Seen) → Type 0
IsMild g = (v : Seen) → IsDead v → IsDead (g v)

changed-cause : (r : LaneUse) (ss : List Begun) (k : ℕ) → begun_cause (slice_get (changed_last (λ s. record s { readings = with_last r s.readings }) ss) k) ≡ begun_cause (slice_get ss k)
changed-cause r [] k = refl
changed-cause r (s ∷ []) zero = refl
changed-cause r (s ∷ []) (suc k) = refl
changed-cause r (s ∷ t ∷ ss) zero = refl
changed-cause r (s ∷ t ∷ ss) (suc k) = changed-cause r (t ∷ ss) k

reading-mild : (r : LaneUse) → IsMild (with_reading r)
reading-mild r v dead n = go (is_none v.segments)
  where
    by : (m : ℕ) → cause_in (record v { segments = changed_last (λ s. record s { readings = with_last r s.readings }) v.segments }) m ≡ cause_in v m
    by zero = refl
    by (suc k) = changed-cause r v.segments k

    first : (m : ℕ) → cause_in (record v { readings = with_last r v.readings }) m ≡ cause_in v m
    first zero = refl
    first (suc k) = refl

    go : (t : Bool) → is_live (cause_in (cond t (record v { readings = with_last r v.readings }) (record v { segments = changed_last (λ s. record s { readings = with_last r s.readings }) v.segments })) n) ≡ false
    go true = ap is_live (first n) ∙ dead n
    go false = ap is_live (by n) ∙ dead n

pushed-dead : (id : ℕ) (early : Bool) (from : Option ℕ) (ss : List Begun) (k : ℕ) → ((m : ℕ) → is_live (begun_cause (slice_get ss m)) ≡ false) → is_live (begun_cause (slice_get (ss ++ new_begun id early from ∷ []) k)) ≡ false
pushed-dead id early from [] zero dead = refl
pushed-dead id early from [] (suc k) dead = refl
pushed-dead id early from (s ∷ ss) zero dead = dead 0
pushed-dead id early from (s ∷ ss) (suc k) dead = pushed-dead id early from ss k (λ m. dead (suc m))

segment-mild : (id : ℕ) (early : Bool) (from : Option ℕ) → IsMild (with_segment id early from)
segment-mild id early from v dead n = go (starts_last id v.segments) n
  where
    go : (t : Bool) (m : ℕ) → is_live (cause_in (cond t v (record v { segments = v.segments ++ new_begun id early from ∷ [] })) m) ≡ false
    go true m = dead m
    go false zero = dead 0
    go false (suc k) = pushed-dead id early from v.segments k (λ m. dead (suc m))

last-mild : IsMild read_at_end
last-mild v dead zero = dead 0
last-mild v dead (suc k) = dead (suc k)

spot-mild : (lane block l b : ℕ) (g : Seen → Seen) → IsMild g → IsMild (λ v. at_spot lane block g l b v)
spot-mild lane block l b g mild v dead = go (nat_eq lane l && nat_eq block b)
  where
    go : (t : Bool) → IsDead (cond t (g v) v)
    go true = mild v dead
    go false = dead

all-mild : {X : Type 0} (g : X → Seen → Seen) → ((x : X) → IsMild (g x)) → (xs : List X) → IsMild (λ v. enter_all g xs v)
all-mild g mild [] v dead = dead
all-mild g mild (x ∷ xs) v dead = all-mild g mild xs (g x v) (mild x v dead)

source-mild : (block id l b to : ℕ) (q : Option ℕ) → IsMild (λ v. source_entered block id l b to q v)
source-mild block id l b to None v dead = dead
source-mild block id l b to (Some lane) v dead = spot-mild lane block l b (with_reading (reading id (Some to))) (reading-mild (reading id (Some to))) v dead

end-mild : (place : ℕ → Option ℕ) (l b : ℕ) (r : ℕ × List ℕ) → IsMild (λ v. end_entered place l b r v)
end-mild place l b r v dead = go (place r.0)
  where
    go : (q : Option ℕ) → IsDead (elim q [ None ↦ v | Some p ↦ lasts_entered p r.1 l b v ])
    go None = dead
    go (Some p) = all-mild (last_entered p l b) (λ lane. spot-mild lane p l b read_at_end last-mild) r.1 v dead

step-mild : (place : ℕ → Option ℕ) (block l b : ℕ) (e : EnteredStep) → IsMild (λ v. step_entered place block l b e v)
step-mild place block l b e v dead =
    let x = all-mild (read_entered block e.0.id l b) (λ lane. spot-mild lane block l b (with_reading (reading e.0.id None)) (reading-mild (reading e.0.id None))) e.0.reads v dead in
    let y = all-mild (move_entered block e.0.id l b) (λ w. source-mild block e.0.id l b w.lane w.from) e.0.writes _ x in
    let z = all-mild (write_entered block e.0.id l b) (λ w. spot-mild w.lane block l b (with_segment e.0.id w.early w.from) (segment-mild e.0.id w.early w.from)) e.0.writes _ y in
    all-mild (end_entered place l b) (λ r. end-mild place l b r) e.1 _ z

pub blocks-dead : (place : ℕ → Option ℕ) (n : ℕ) (ess : List (List EnteredStep)) (l b : ℕ) (v : Seen) → IsDead v → IsDead (blocks_entered place n ess l b v)
blocks-dead place n [] l b v dead = dead
blocks-dead place n (es ∷ ess) l b v dead = blocks-dead place (suc n) ess l b (block_entered place n es l b v) (all-mild (step_entered place n l b) (λ e. step-mild place n l b e) es v dead)

pub unseen-dead : IsDead unseen
unseen-dead zero = refl
unseen-dead (suc k) = refl
