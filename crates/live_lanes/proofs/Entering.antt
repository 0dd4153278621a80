-- Entering things into rows one after the other.
use Rattle.std.proofs.Common.{◌≡◌, ◌<◌, ◌≤◌, ◌+◌, add-one, ℕ, zero, suc, Bool, true, false, cond, ◌&&◌, length, List, [], ◌∷◌, ◌++◌, take, map, Option, None, Some, refl, sym, ap, ◌∙◌, subst, arith, get_or, set, eqb-true, length-set}
use Rattle.std.specs.Prelude.{nat_eq}
use Rattle.live_lanes.specs.declared.row.LaneRange.{LaneRange}
use Rattle.live_lanes.specs.Table.{Seen, unseen, seen_in}
use Rattle.live_lanes.specs.Entered.{rows_seen}
use Rattle.mir_meaning.specs.declared.writing.LaneDef.{LaneDef}
use Rattle.live_lanes.specs.Entering.{enter_all, at_spot, Entering, Enters, EnteredStep, reads_entered, moves_entered, writes_entered, lasts_entered, end_entered, ends_entered, step_entered}
use Rattle.live_lanes.proofs.Rows.{rows-set, row-of}

-- nothing is entered
pub enters-none : (rows : List LaneRange) (e : Entering) → ((l b : ℕ) (v : Seen) → e l b v ≡ v) → Enters rows rows e
enters-none rows e same = record { seen = λ l b h. sym (same l b (rows_seen rows l b)); lanes = refl }

-- one thing after another
pub enters-both : (old mid new : List LaneRange) (d e : Entering) → Enters old mid d → Enters mid new e → Enters old new (λ l b v. e l b (d l b v))
enters-both old mid new d e x y = record {
  seen = λ l b h. y.seen l b (subst (λ n. l < n) (sym x.lanes) h) ∙ ap (e l b) (x.seen l b h);
  lanes = y.lanes ∙ x.lanes;
}

-- in other words
pub enters-as : (old new : List LaneRange) (d e : Entering) → ((l b : ℕ) (v : Seen) → d l b v ≡ e l b v) → Enters old new d → Enters old new e
enters-as old new d e same x = record { seen = λ l b h. x.seen l b h ∙ same l b (rows_seen old l b); lanes = x.lanes }

all-more : {X : Type 0} (g : X → Seen → Seen) (xs : List X) (k : ℕ) (d : X) (v : Seen) → k < length xs → enter_all g (take (suc k) xs) v ≡ g (get_or xs k d) (enter_all g (take k xs) v)
all-more g [] k d v h = absurd (omega arith)
all-more g (x ∷ xs) zero d v h = refl
all-more g (x ∷ xs) (suc k) d v h = all-more g xs k d (g x v) (omega arith)

all-whole : {X : Type 0} (g : X → Seen → Seen) (xs : List X) (k : ℕ) (v : Seen) → length xs ≤ k → enter_all g (take k xs) v ≡ enter_all g xs v
all-whole g [] zero v h = refl
all-whole g [] (suc k) v h = refl
all-whole g (x ∷ xs) zero v h = absurd (omega arith)
all-whole g (x ∷ xs) (suc k) v h = all-whole g xs k (g x v) (omega arith)

-- one more of a list
pub enters-more : {X : Type 0} (g : ℕ → ℕ → X → Seen → Seen) (old mid new : List LaneRange) (xs : List X) (k : ℕ) (d : X) → k < length xs → Enters old mid (λ l b v. enter_all (g l b) (take k xs) v) → Enters mid new (λ l b v. g l b (get_or xs k d) v) → Enters old new (λ l b v. enter_all (g l b) (take (k + 1) xs) v)
enters-more g old mid new xs k d h x y =
    enters-as old new (λ l b v. g l b (get_or xs k d) (enter_all (g l b) (take k xs) v)) (λ l b v. enter_all (g l b) (take (k + 1) xs) v) (λ l b v. sym (ap (λ n. enter_all (g l b) (take n xs) v) (add-one k) ∙ all-more (g l b) xs k d v h))
    (enters-both old mid new (λ l b v. enter_all (g l b) (take k xs) v) (λ l b v. g l b (get_or xs k d) v) x y)

pub enters-all : {X : Type 0} (g : ℕ → ℕ → X → Seen → Seen) (old new : List LaneRange) (xs : List X) (k : ℕ) → length xs ≤ k → Enters old new (λ l b v. enter_all (g l b) (take k xs) v) → Enters old new (λ l b v. enter_all (g l b) xs v)
enters-all g old new xs k h x = enters-as old new (λ l b v. enter_all (g l b) (take k xs) v) (λ l b v. enter_all (g l b) xs v) (λ l b v. all-whole (g l b) xs k v h) x

-- a lane that has no row
pub spot-past : (rows : List LaneRange) (lane block : ℕ) (change : Seen → Seen) → length rows ≤ lane → Enters rows rows (at_spot lane block change)
spot-past rows lane block change past = record { seen = λ l b h. sym (go l b h (nat_eq lane l) refl); lanes = refl }
  where
    go : (l b : ℕ) → l < length rows → (t : Bool) → nat_eq lane l ≡ t → cond (nat_eq lane l && nat_eq block b) (change (rows_seen rows l b)) (rows_seen rows l b) ≡ rows_seen rows l b
    go l b h true e = let same : lane ≡ l = eqb-true lane l e in absurd (omega (arith, same, past, h))
    go l b h false e = ap (λ t. cond (t && nat_eq block b) (change (rows_seen rows l b)) (rows_seen rows l b)) e

-- a lane that has a row
pub spot-row : (rows : List LaneRange) (lane block : ℕ) (change : Seen → Seen) (x y : LaneRange) → lane < length rows → x ≡ get_or rows lane x → ((b : ℕ) → seen_in y.cells.items b ≡ cond (nat_eq block b) (change (seen_in x.cells.items block)) (seen_in x.cells.items b)) → Enters rows (set rows lane y) (at_spot lane block change)
spot-row rows lane block change x y within e changed = record { seen = λ l b h. rows-set rows lane l b y within ∙ go l b (nat_eq lane l) refl; lanes = length-set rows lane y }
  where
    at : (l b : ℕ) → lane ≡ l → (u : Bool) → nat_eq block b ≡ u → cond u (change (seen_in x.cells.items block)) (seen_in x.cells.items b) ≡ cond u (change (rows_seen rows l b)) (rows_seen rows l b)
    at l b same true f = ap change (row-of rows lane block x within e ∙ ap (λ k. rows_seen rows k block) same ∙ ap (λ k. rows_seen rows l k) (eqb-true block b f))
    at l b same false f = row-of rows lane b x within e ∙ ap (λ k. rows_seen rows k b) same

    go : (l b : ℕ) (t : Bool) → nat_eq lane l ≡ t → cond (nat_eq lane l) (seen_in y.cells.items b) (rows_seen rows l b) ≡ cond (nat_eq lane l && nat_eq block b) (change (rows_seen rows l b)) (rows_seen rows l b)
    go l b true f =
        ap (λ t. cond t (seen_in y.cells.items b) (rows_seen rows l b)) f ∙ changed b ∙ at l b (eqb-true lane l f) (nat_eq block b) refl ∙ sym (ap (λ t. cond (t && nat_eq block b) (change (rows_seen rows l b)) (rows_seen rows l b)) f)
    go l b false f = ap (λ t. cond t (seen_in y.cells.items b) (rows_seen rows l b)) f ∙ sym (ap (λ t. cond (t && nat_eq block b) (change (rows_seen rows l b)) (rows_seen rows l b)) f)

-- the same where the element owns memory
pub enters-item : {X : Type 0} (g : ℕ → ℕ → X → Seen → Seen) (old mid new : List LaneRange) (xs : List X) (k : ℕ) (x : X) → k < length xs → x ≡ get_or xs k x → Enters old mid (λ l b v. enter_all (g l b) (take k xs) v) → Enters mid new (λ l b v. g l b x v) → Enters old new (λ l b v. enter_all (g l b) (take (k + 1) xs) v)
enters-item g old mid new xs k x h own before now = enters-more g old mid new xs k x h before (subst (λ y. Enters mid new (λ l b v. g l b y v)) own now)

all-mapped : {X Y : Type 0} (f : X → Y) (g : Y → Seen → Seen) (xs : List X) (v : Seen) → enter_all (λ x. g (f x)) xs v ≡ enter_all g (map f xs) v
all-mapped f g [] v = refl
all-mapped f g (x ∷ xs) v = all-mapped f g xs (g (f x) v)

pub enters-mapped : {X Y : Type 0} (f : X → Y) (g : ℕ → ℕ → Y → Seen → Seen) (old new : List LaneRange) (xs : List X) (k : ℕ) → length xs ≤ k → Enters old new (λ l b v. enter_all (λ x. g l b (f x)) (take k xs) v) → Enters old new (λ l b v. enter_all (g l b) (map f xs) v)
enters-mapped f g old new xs k h x = enters-as old new (λ l b v. enter_all (λ y. g l b (f y)) xs v) (λ l b v. enter_all (g l b) (map f xs) v) (λ l b v. all-mapped f (g l b) xs v) (enters-all (λ l b y. g l b (f y)) old new xs k h x)

-- what an instruction does, one thing after the other
pub instr-enters : (place : ℕ → Option ℕ) (block : ℕ) (d : EnteredStep) (r0 r1 r2 r3 r4 : List LaneRange) (reads : List ℕ) (moves writes : List LaneDef) (ends : List (ℕ × List ℕ)) → reads ≡ d.0.reads → moves ≡ d.0.writes → writes ≡ d.0.writes → ends ≡ d.1
    → Enters r0 r1 (reads_entered block d.0.id reads) → Enters r1 r2 (moves_entered block d.0.id moves) → Enters r2 r3 (writes_entered block d.0.id writes) → Enters r3 r4 (ends_entered place ends) → Enters r0 r4 (λ l b v. step_entered place block l b d v)
instr-enters place block d r0 r1 r2 r3 r4 reads moves writes ends e m f g a b c k =
    let x : Enters r0 r1 (reads_entered block d.0.id d.0.reads) = subst (λ xs. Enters r0 r1 (reads_entered block d.0.id xs)) e a in
    let y : Enters r1 r2 (moves_entered block d.0.id d.0.writes) = subst (λ xs. Enters r1 r2 (moves_entered block d.0.id xs)) m b in
    let z : Enters r2 r3 (writes_entered block d.0.id d.0.writes) = subst (λ xs. Enters r2 r3 (writes_entered block d.0.id xs)) f c in
    let w : Enters r3 r4 (ends_entered place d.1) = subst (λ xs. Enters r3 r4 (ends_entered place xs)) g k in
    let xy = enters-both r0 r1 r2 (reads_entered block d.0.id d.0.reads) (moves_entered block d.0.id d.0.writes) x y in
    let xyz = enters-both r0 r2 r3 (λ l b v. moves_entered block d.0.id d.0.writes l b (reads_entered block d.0.id d.0.reads l b v)) (writes_entered block d.0.id d.0.writes) xy z in
    enters-both r0 r3 r4 (λ l b v. writes_entered block d.0.id d.0.writes l b (moves_entered block d.0.id d.0.writes l b (reads_entered block d.0.id d.0.reads l b v))) (ends_entered place d.1) xyz w

-- what a phi reads at the end of a block
pub end-some : (place : ℕ → Option ℕ) (old new : List LaneRange) (r : ℕ × List ℕ) (p : ℕ) (lanes : List ℕ) → place r.0 ≡ Some p → lanes ≡ r.1 → Enters old new (lasts_entered p lanes) → Enters old new (λ l b v. end_entered place l b r v)
end-some place old new r p lanes at same x =
    enters-as old new (lasts_entered p lanes) (λ l b v. end_entered place l b r v) (λ l b v. ap (λ xs. lasts_entered p xs l b v) same ∙ sym (ap (λ (q : Option ℕ). elim q [ None ↦ v | Some k ↦ lasts_entered k r.1 l b v ]) at)) x

pub end-none : (place : ℕ → Option ℕ) (rows : List LaneRange) (r : ℕ × List ℕ) → place r.0 ≡ None → Enters rows rows (λ l b v. end_entered place l b r v)
end-none place rows r at = enters-none rows (λ l b v. end_entered place l b r v) (λ l b v. ap (λ (q : Option ℕ). elim q [ None ↦ v | Some k ↦ lasts_entered k r.1 l b v ]) at)

push-seen : (rows : List LaneRange) (x : LaneRange) (k b : ℕ) → x.cells.items ≡ [] → ((l : ℕ) → rows_seen rows l b ≡ unseen) → rows_seen (rows ++ x ∷ []) k b ≡ unseen
push-seen [] x zero b e none = ap (λ cs. seen_in cs b) e
push-seen [] x (suc k) b e none = refl
push-seen (y ∷ rows) x zero b e none = none 0
push-seen (y ∷ rows) x (suc k) b e none = push-seen rows x k b e (λ l. none (suc l))

-- one more row without cells
pub new-row : (old new : List LaneRange) (x : LaneRange) → new ≡ old ++ x ∷ [] → x.cells.items ≡ [] → ((l b : ℕ) → rows_seen old l b ≡ unseen) → (l b : ℕ) → rows_seen new l b ≡ unseen
new-row old new x e empty none l b = ap (λ rows. rows_seen rows l b) e ∙ push-seen old x l b empty (λ k. none k b)
