-- Rows that are taken away and put back.
use Rattle.std.proofs.Common.{◌≡◌, ◌⊎◌, inl, inr, ◌++◌, ◌∙◌, ◌<◌, ℕ, Bool, true, false, cond, List, [], ◌∷◌, length, set, refl, sym, ap, subst, eqb-true}
use Rattle.std.specs.Prelude.{◌||◌, nat_eq}
use Rattle.mir_meaning.specs.Paths.{Among, here, there}
use Rattle.live_lanes.specs.declared.row.LaneRange.{LaneRange}
use Rattle.live_lanes.specs.Entered.{rows_seen}
use Rattle.live_lanes.specs.Table.{Seen, seen_in, unseen}
use Rattle.live_lanes.proofs.Basics.{none-among}
use Rattle.live_lanes.proofs.Numbered.{among-cases, among-split}
use Rattle.live_lanes.proofs.Rows.{rows-set}
use Rattle.live_edits.specs.declared.aside.AsideRow.{AsideRow}
use Rattle.live_edits.specs.declared.edit_run.EditRun.{EditRun}
use Rattle.live_edits.specs.Aside.{AreThere, IsPutBack, IsRowPutBack, IsRowTaken, KeepsOthers, TakesSome, is_aside, put_back}
use Rattle.live_edits.specs.Logged.{AllSeen}

-- all but rows stays

pub same-others : (r : EditRun) → KeepsOthers r r
same-others r = record { draft = refl; lanes = refl; flow = refl; log = refl; touched = refl; gone = refl }

pub others-then : (a b c : EditRun) → KeepsOthers a b → KeepsOthers b c → KeepsOthers a c
others-then a b c h g = record {
  draft = g.draft ∙ h.draft;
  lanes = g.lanes ∙ h.lanes;
  flow = g.flow ∙ h.flow;
  log = g.log ∙ h.log;
  touched = g.touched ∙ h.touched;
  gone = g.gone ∙ h.gone;
}

-- rows are taken one after the other

pub takes-none : (r : EditRun) (Taken : ℕ → Type 0) → TakesSome r r Taken
takes-none r Taken = record {
  others = same-others r;
  lanes = refl;
  back = λ l b. refl;
  empty = λ l b h e. h e;
  left = λ l b e. refl;
  there = λ h. h;
  grows = λ l e. e;
  only = λ l e. inl e;
}

module _ (a b c : EditRun) (P Q : ℕ → Type 0) (h : TakesSome a b P) (g : TakesSome b c Q) (into : (l : ℕ) → Q l → P l) where
  left-then : (l n : ℕ) → is_aside c.aside.items l ≡ false → rows_seen c.rows.rows.rows.items l n ≡ rows_seen a.rows.rows.rows.items l n
  left-then l n e = go (is_aside b.aside.items l) refl
    where
      go : (u : Bool) → is_aside b.aside.items l ≡ u → rows_seen c.rows.rows.rows.items l n ≡ rows_seen a.rows.rows.rows.items l n
      go true d = absurd (let z : true ≡ false = sym (g.grows l d) ∙ e in cc)
      go false d = g.left l n e ∙ h.left l n d

  only-then : (l : ℕ) → is_aside c.aside.items l ≡ true → (is_aside a.aside.items l ≡ true) ⊎ P l
  only-then l e = go (g.only l e)
    where
      go : (is_aside b.aside.items l ≡ true) ⊎ Q l → (is_aside a.aside.items l ≡ true) ⊎ P l
      go (inl d) = h.only l d
      go (inr q) = inr (into l q)

  pub takes-then : TakesSome a c P
  takes-then = record {
    others = others-then a b c h.others g.others;
    lanes = g.lanes ∙ h.lanes;
    back = λ l n. g.back l n ∙ h.back l n;
    empty = λ l n none e. g.empty l n (λ d. h.empty l n none d) e;
    left = left-then;
    there = λ t. g.there (h.there t);
    grows = λ l e. g.grows l (h.grows l e);
    only = only-then;
  }

-- the same may be said otherwise of the lanes
pub takes-other : (a b : EditRun) (P Q : ℕ → Type 0) → ((l : ℕ) → P l → Q l) → TakesSome a b P → TakesSome a b Q
takes-other a b P Q into h = takes-then a a b Q P (takes-none a Q) h into

-- one more row is aside

back-more : (xs : List AsideRow) (x : AsideRow) (seen : AllSeen) (l b : ℕ) → put_back (xs ++ x ∷ []) seen l b ≡ put_back xs (λ m c. cond (nat_eq x.lane m) (seen_in x.row.cells.items c) (seen m c)) l b
back-more [] x seen l b = refl
back-more (y ∷ xs) x seen l b = ap (λ (s : Seen). cond (nat_eq y.lane l) (seen_in y.row.cells.items b) s) (back-more xs x seen l b)

pub back-same : (xs : List AsideRow) (s r : AllSeen) → ((l b : ℕ) → s l b ≡ r l b) → (l b : ℕ) → put_back xs s l b ≡ put_back xs r l b
back-same xs s r h l b = λ i. put_back xs (λ m c. h m c i) l b

aside-more : (xs : List AsideRow) (x : AsideRow) (l : ℕ) → is_aside (xs ++ x ∷ []) l ≡ (is_aside xs l || nat_eq x.lane l)
aside-more [] x l = go (nat_eq x.lane l)
  where
    go : (u : Bool) → (u || false) ≡ u
    go true = refl
    go false = refl
aside-more (y ∷ xs) x l = ap (λ u. nat_eq y.lane l || u) (aside-more xs x l) ∙ go (nat_eq y.lane l)
  where
    go : (u : Bool) → (u || (is_aside xs l || nat_eq x.lane l)) ≡ ((u || is_aside xs l) || nat_eq x.lane l)
    go true = refl
    go false = refl

module _ (old new : EditRun) (lane : ℕ) (row none : LaneRange) (there : (b : ℕ) → seen_in row.cells.items b ≡ rows_seen old.rows.rows.rows.items lane b) (within : lane < length old.rows.rows.rows.items) (empty : none.cells.items ≡ []) (others : KeepsOthers old new) (rows : new.rows.rows.rows.items ≡ set old.rows.rows.rows.items lane none) (long : length new.rows.rows.rows.items ≡ length old.rows.rows.rows.items) (aside : new.aside.items ≡ old.aside.items ++ record { lane = lane; row = row } ∷ []) where
  abbrev x : AsideRow
  x = record { lane = lane; row = row }

  abbrev before : List LaneRange
  before = old.rows.rows.rows.items

  abbrev after : List LaneRange
  after = new.rows.rows.rows.items

  seen-now : (l b : ℕ) → rows_seen after l b ≡ cond (nat_eq lane l) unseen (rows_seen before l b)
  seen-now l b = ap (λ rs. rows_seen rs l b) rows ∙ (rows-set before lane l b none within ∙ ap (λ cs. cond (nat_eq lane l) (seen_in cs b) (rows_seen before l b)) empty)

  seen-back : (l b : ℕ) → cond (nat_eq lane l) (seen_in row.cells.items b) (rows_seen after l b) ≡ rows_seen before l b
  seen-back l b = go (nat_eq lane l) refl (seen-now l b)
    where
      go : (u : Bool) → nat_eq lane l ≡ u → rows_seen after l b ≡ cond u unseen (rows_seen before l b) → cond u (seen_in row.cells.items b) (rows_seen after l b) ≡ rows_seen before l b
      go true e now = there b ∙ ap (λ n. rows_seen before n b) (eqb-true lane l e)
      go false e now = now

  aside-now : (l : ℕ) → is_aside new.aside.items l ≡ (is_aside old.aside.items l || nat_eq lane l)
  aside-now l = ap (λ xs. is_aside xs l) aside ∙ aside-more old.aside.items x l

  empty-now : (l b : ℕ) → (is_aside old.aside.items l ≡ true → rows_seen before l b ≡ unseen) → is_aside new.aside.items l ≡ true → rows_seen after l b ≡ unseen
  empty-now l b was e = go (nat_eq lane l) (is_aside old.aside.items l) refl (seen-now l b) (sym (aside-now l) ∙ e)
    where
      go : (u v : Bool) → is_aside old.aside.items l ≡ v → rows_seen after l b ≡ cond u unseen (rows_seen before l b) → (v || u) ≡ true → rows_seen after l b ≡ unseen
      go true v d now f = now
      go false true d now f = now ∙ was d
      go false false d now f = absurd (let z : false ≡ true = f in cc)

  left-now : (l b : ℕ) → is_aside new.aside.items l ≡ false → rows_seen after l b ≡ rows_seen before l b
  left-now l b e = go (nat_eq lane l) (is_aside old.aside.items l) (seen-now l b) (sym (aside-now l) ∙ e)
    where
      go : (u v : Bool) → rows_seen after l b ≡ cond u unseen (rows_seen before l b) → (v || u) ≡ false → rows_seen after l b ≡ rows_seen before l b
      go false v now f = now
      go true true now f = absurd (let z : true ≡ false = f in cc)
      go true false now f = absurd (let z : true ≡ false = f in cc)

  only-now : (l : ℕ) → is_aside new.aside.items l ≡ true → (is_aside old.aside.items l ≡ true) ⊎ (l ≡ lane)
  only-now l e = go (is_aside old.aside.items l) refl (nat_eq lane l) refl (sym (aside-now l) ∙ e)
    where
      go : (v : Bool) → is_aside old.aside.items l ≡ v → (u : Bool) → nat_eq lane l ≡ u → (v || u) ≡ true → (is_aside old.aside.items l ≡ true) ⊎ (l ≡ lane)
      go true d u f h = inl d
      go false d true f h = inr (sym (eqb-true lane l f))
      go false d false f h = absurd (let z : false ≡ true = h in cc)

  there-now : AreThere before old.aside.items → AreThere after new.aside.items
  there-now all r m = subst (λ n. r.lane < n) (sym long) (go (among-split r old.aside.items (x ∷ []) (subst (Among r) aside m)))
    where
      go : Among r old.aside.items ⊎ Among r (x ∷ []) → r.lane < length before
      go (inl a) = all r a
      go (inr a) = last (among-cases r x [] a)
        where
          last : (r ≡ x) ⊎ Among r [] → r.lane < length before
          last (inl e) = subst (λ (y : AsideRow). y.lane < length before) (sym e) within
          last (inr z) = absurd (none-among r z)

  grows-now : (l : ℕ) → is_aside old.aside.items l ≡ true → is_aside new.aside.items l ≡ true
  grows-now l e = aside-now l ∙ ap (λ u. u || nat_eq lane l) e

  pub row-taken : IsRowTaken old new lane
  row-taken = record {
    others = others;
    lanes = long;
    back = λ l b. ap (λ xs. put_back xs (rows_seen after) l b) aside ∙ (back-more old.aside.items x (rows_seen after) l b ∙ back-same old.aside.items (λ m c. cond (nat_eq lane m) (seen_in row.cells.items c) (rows_seen after m c)) (rows_seen before) seen-back l b);
    empty = empty-now;
    left = left-now;
    there = there-now;
    grows = grows-now;
    only = only-now;
  }

-- rows are put back

-- what is left of them leads to what all lead to
pub record LeadsBack (first now : EditRun) : Type 0 where
  pub others : KeepsOthers first now
  pub lanes : length now.rows.rows.rows.items ≡ length first.rows.rows.rows.items
  pub there : AreThere first.rows.rows.rows.items first.aside.items → AreThere now.rows.rows.rows.items now.aside.items
  pub seen : AreThere first.rows.rows.rows.items first.aside.items → (l b : ℕ) → put_back now.aside.items (rows_seen now.rows.rows.rows.items) l b ≡ put_back first.aside.items (rows_seen first.rows.rows.rows.items) l b

pub leads-first : (r : EditRun) → LeadsBack r r
leads-first r = record { others = same-others r; lanes = refl; there = λ h. h; seen = λ h l b. refl }

among-before : {X : Type 0} (x y : X) (xs : List X) → Among x xs → Among x (xs ++ y ∷ [])
among-before x y [] m = absurd (none-among x m)
among-before x y (z ∷ xs) m = go (among-cases x z xs m) (among-before x y xs)
  where
    go : (x ≡ z) ⊎ Among x xs → (Among x xs → Among x (xs ++ y ∷ [])) → Among x (z ∷ (xs ++ y ∷ []))
    go (inl e) h = subst (λ w. Among x (w ∷ (xs ++ y ∷ []))) e here
    go (inr a) h = there (h a)

among-last : {X : Type 0} (x : X) (xs : List X) → Among x (xs ++ x ∷ [])
among-last x [] = here
among-last x (y ∷ xs) = there (among-last x xs)

-- now: before the last row is taken from the list; mid: when it is; new: when the row is put back
module _ (first now mid new : EditRun) (x : AsideRow) (h : LeadsBack first now) (same : KeepsOthers now mid) (rows : mid.rows.rows.rows.items ≡ now.rows.rows.rows.items) (popped : now.aside.items ≡ mid.aside.items ++ x ∷ []) (g : IsRowPutBack mid new x) where
  left : new.aside.items ≡ mid.aside.items
  left = ap (λ v. v.items) g.aside

  long : length new.rows.rows.rows.items ≡ length now.rows.rows.rows.items
  long = g.lanes ∙ ap length rows

  own-place : AreThere now.rows.rows.rows.items now.aside.items → x.lane < length mid.rows.rows.rows.items
  own-place all = subst (λ rs. x.lane < length rs) (sym rows) (all x (subst (Among x) (sym popped) (among-last x mid.aside.items)))

  seen-then : AreThere now.rows.rows.rows.items now.aside.items → (l b : ℕ) → put_back new.aside.items (rows_seen new.rows.rows.rows.items) l b ≡ put_back now.aside.items (rows_seen now.rows.rows.rows.items) l b
  seen-then all l b =
      ap (λ xs. put_back xs (rows_seen new.rows.rows.rows.items) l b) left
      ∙ (back-same mid.aside.items (rows_seen new.rows.rows.rows.items) (λ m c. cond (nat_eq x.lane m) (seen_in x.row.cells.items c) (rows_seen now.rows.rows.rows.items m c))
      (λ m c. g.seen (own-place all) m c ∙ ap (λ rs. cond (nat_eq x.lane m) (seen_in x.row.cells.items c) (rows_seen rs m c)) rows) l b
      ∙ (sym (back-more mid.aside.items x (rows_seen now.rows.rows.rows.items) l b) ∙ ap (λ xs. put_back xs (rows_seen now.rows.rows.rows.items) l b) (sym popped)))

  there-then : AreThere now.rows.rows.rows.items now.aside.items → AreThere new.rows.rows.rows.items new.aside.items
  there-then all r m = subst (λ n. r.lane < n) (sym long) (all r (subst (Among r) (sym popped) (among-before r x mid.aside.items (subst (Among r) left m))))

  pub leads-further : LeadsBack first new
  leads-further = record {
    others = others-then first now new h.others (others-then now mid new same g.others);
    lanes = long ∙ h.lanes;
    there = λ all. there-then (h.there all);
    seen = λ all l b. seen-then (h.there all) l b ∙ h.seen all l b;
  }

pub leads-back : (first now new : EditRun) → LeadsBack first now → KeepsOthers now new → new.rows.rows.rows.items ≡ now.rows.rows.rows.items → now.aside.items ≡ [] → new.aside.items ≡ [] → IsPutBack first new
leads-back first now new h same rows left none = record {
  others = others-then first now new h.others same;
  lanes = ap length rows ∙ h.lanes;
  none = none;
  seen = λ all l b. ap (λ rs. rows_seen rs l b) rows ∙ (ap (λ xs. put_back xs (rows_seen now.rows.rows.rows.items) l b) (sym left) ∙ h.seen all l b);
}
