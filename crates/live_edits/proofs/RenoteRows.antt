-- A cell whose instructions write otherwise, and rows of which one cell changes after another.
use Rattle.std.proofs.Common.{◌≡◌, ◌≤◌, ◌∙◌, inl, ℕ, Bool, true, false, cond, ◌&&◌, length, List, ◌<◌, ◌+◌, drop, get_or, Option, None, Some, refl, sym, ap, subst, eq-eqb}
use Rattle.std.specs.Prelude.{nat_eq, unwrap_or, option_copied, IfOk, Result}
use Rattle.std.specs.Borrow.{Bor}
use Rattle.std.specs.declared.result.Result.TheVariants as results
use Rattle.instr_effects.specs.declared.lane_acts.LaneWrite.{LaneWrite}
use Rattle.live_lanes.specs.declared.row.Cell.{Cell}
use Rattle.live_lanes.specs.declared.row.LaneRange.{LaneRange}
use Rattle.live_lanes.specs.Table.{Numbers, Seen, seen, seen_cell, unseen}
use Rattle.live_lanes.specs.Entered.{rows_seen}
use Rattle.std.proofs.lemmas.List.{drop_more, drop_all}
use Rattle.live_edits.specs.declared.cells.Note.{Note}
use Rattle.live_edits.specs.declared.renote.CellChanges.{CellChanges}
use Rattle.live_edits.specs.Changes.{AddsCells, ChangesCell}
use Rattle.live_edits.specs.RemadeSteps.{def_of_write}
use Rattle.live_edits.specs.Renoted.{CutsPieces, is_begun_by, NotesWriting, rewritten, Begins, piece_joined, all_changed, NotesSeen, NotesAll, ChangesOne}
use Rattle.live_edits.proofs.RenoteNoted.{write-again, write-no-more, write-none, write-begins}
use Rattle.live_edits.specs.Told.{begun_left}
use Rattle.live_edits.proofs.Untold.{rewritten-left, joined-left, begun-piece-left}
use Rattle.live_edits.proofs.RenoteLives.{same-first, same-lives, rewritten-lives, joined-lives, joined-first, begun-lives, begun-first}

module _ (slots : Numbers) (id : ℕ) (v : Seen) (k : ℕ) (within : k ≤ length v.segments) (cut : CutsPieces slots id v.segments k) where
  module _ (begun : is_begun_by id v.segments k ≡ true) where
    pub notes-rewritten : (l : ℕ) (w : LaneWrite) (now : Seen) → now ≡ rewritten k w.early w.from v → NotesWriting slots id (def_of_write l (Some w)) v now
    notes-rewritten l w now e =
        subst (NotesWriting slots id (def_of_write l (Some w)) v) (sym e) (record {
          told = write-again slots id v k within cut begun (record { lane = l; from = w.from; early = w.early });
          first = record { cause = refl; end = refl; last = refl };
          lives = rewritten-lives slots id v k w;
          untold = λ told h. inl (rewritten-left told id v k w.early w.from begun (h refl));
        })

    pub notes-joined : {E : Type 0} (o : Option LaneWrite) → o ≡ None → (r : Result CellChanges E) → IfOk r (λ changes. all_changed changes v ≡ piece_joined k v) → IfOk r (λ changes. (l : ℕ) → NotesWriting slots id (def_of_write l o) v (all_changed changes v))
    notes-joined o none (results.Err z) h = tt
    notes-joined o none (results.Ok changes) h = λ l.
        subst (λ w. NotesWriting slots id (def_of_write l w) v (all_changed changes v)) (sym none) (subst (NotesWriting slots id None v) (sym h) (record {
          told = write-no-more slots id v k within cut begun;
          first = joined-first slots id v k;
          lives = joined-lives slots id v k;
          untold = λ told h. joined-left told k v;
        }))

  module _ (other : is_begun_by id v.segments k ≡ false) where
    pub notes-begun : {E : Type 0} (w : LaneWrite) (o : Option LaneWrite) → o ≡ Some w → (r : Result CellChanges E) → IfOk r (λ changes. Begins slots k id w v (all_changed changes v)) → IfOk r (λ changes. (l : ℕ) → NotesWriting slots id (def_of_write l o) v (all_changed changes v))
    notes-begun w o some (results.Err z) h = tt
    notes-begun w o some (results.Ok changes) h = λ l.
        subst (λ u. NotesWriting slots id (def_of_write l u) v (all_changed changes v)) (sym some) (record {
          told = write-begins slots id v k within cut other w (all_changed changes v) h l;
          first = begun-first slots id v k within cut other w (all_changed changes v) h;
          lives = begun-lives slots id v k within cut other w (all_changed changes v) h;
          untold = λ told t. inl (ap (begun_left told) h.is ∙ begun-piece-left told id v k w.early w.from _ _ (t refl));
        })

    pub notes-none : NotesWriting slots id None v v
    notes-none = record { told = write-none slots id v k within cut other; first = same-first v; lives = same-lives slots id v k; untold = λ told h. inl refl }

-- rows

pub none-added : (rows : List LaneRange) → AddsCells rows rows
none-added rows = record { seen = λ l b. refl; cells = λ l b h. h; rooms = λ l b. omega Rattle.std.proofs.Common.arith; lanes = refl }

pub added-same : (x y z : List LaneRange) (lane block : ℕ) → AddsCells x y → ChangesCell y z lane block (λ v. v) → AddsCells x z
added-same x y z lane block a q = record {
  seen = λ l b. q.seen l b ∙ (go (nat_eq lane l && nat_eq block b) (rows_seen y l b) ∙ a.seen l b);
  cells = λ l b h. q.cells l b ∙ a.cells l b h;
  rooms = λ l b. let f = a.rooms l b in let g = q.rooms l b in omega (Rattle.std.proofs.Common.arith, f, g);
  lanes = q.lanes ∙ a.lanes;
}
  where
    go : (t : Bool) (v : Seen) → cond t v v ≡ v
    go true v = refl
    go false v = refl

pub one-changed : (x y z : List LaneRange) (lane block : ℕ) (change : Seen → Seen) → AddsCells x y → ChangesCell y z lane block change → ChangesOne x z lane block (λ v w. w ≡ change v)
one-changed x y z lane block change a q = record {
  own = q.seen lane block ∙ ((λ i. cond (eq-eqb lane lane refl i && eq-eqb block block refl i) (change (rows_seen y lane block)) (rows_seen y lane block)) ∙ ap change (a.seen lane block));
  others = λ l b e. q.seen l b ∙ (ap (λ t. cond t (change (rows_seen y l b)) (rows_seen y l b)) e ∙ a.seen l b);
  lanes = q.lanes ∙ a.lanes;
}

pub one-then : (x y z : List LaneRange) (lane block : ℕ) (P Q R : Seen → Seen → Type 0) → ((u v w : Seen) → P u v → Q v w → R u w) → ChangesOne x y lane block P → ChangesOne y z lane block Q → ChangesOne x z lane block R
one-then x y z lane block P Q R both p q = record {
  own = both (rows_seen x lane block) (rows_seen y lane block) (rows_seen z lane block) p.own q.own;
  others = λ l b e. q.others l b e ∙ p.others l b e;
  lanes = q.lanes ∙ p.lanes;
}

pub one-is : (x z : List LaneRange) (lane block : ℕ) (change : Seen → Seen) (v : Seen) (P : Seen → Seen → Type 0) → v ≡ rows_seen x lane block → P v (change v) → ChangesOne x z lane block (λ u w. w ≡ change u) → ChangesOne x z lane block P
one-is x z lane block change v P same p q = record {
  own = subst (P (rows_seen x lane block)) (sym q.own) (subst (λ u. P u (change u)) same p);
  others = q.others;
  lanes = q.lanes;
}

pub one-so : (x z : List LaneRange) (lane block : ℕ) (cs : CellChanges) (v : Seen) (P : ℕ → Seen → Seen → Type 0) → v ≡ rows_seen x lane block → ((l : ℕ) → P l v (all_changed cs v)) → ChangesOne x z lane block (λ u w. w ≡ all_changed cs u) → (l : ℕ) → ChangesOne x z lane block (P l)
one-so x z lane block cs v P same p q l = record {
  own = subst (P l (rows_seen x lane block)) (sym q.own) (subst (λ u. P l u (all_changed cs u)) same (p l));
  others = q.others;
  lanes = q.lanes;
}

-- the cell, or one that tells nothing
pub seen-or : (o : Option (Bor Cell)) (e : Bor Cell) → seen_cell e.now ≡ unseen → seen_cell (unwrap_or o e).now ≡ seen (option_copied o)
seen-or None e h = h
seen-or (Some x) e h = refl

-- one more note
pub notes-more : (slots : Numbers) (notes : List Note) (k : ℕ) (n : Note) (v u w : Seen) → k < length notes → NotesSeen slots (get_or notes k n) v u → NotesAll slots (drop (k + 1) notes) u w → NotesAll slots (drop k notes) v w
notes-more slots notes k n v u w h one rest = subst (λ ns. NotesAll slots ns v w) (sym (drop_more notes k n h)) (u, one, rest)

pub notes-over : (slots : Numbers) (notes : List Note) (k : ℕ) (v : Seen) → length notes ≤ k → NotesAll slots (drop k notes) v v
notes-over slots notes k v h = subst (λ ns. NotesAll slots ns v v) (sym (drop_all k notes h)) refl
