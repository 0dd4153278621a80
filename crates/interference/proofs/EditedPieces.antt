-- Lists beside those that stand, when one more piece is taken out of them or put in.
use Rattle.std.proofs.Common.{◌+◌, length, take, get_or, ◌≡◌, ◌∙◌, ◌<◌, ◌≤◌, ℕ, suc, Bool, true, false, cond, not, ◌&&◌, List, [], ◌∷◌, ◌++◌, Option, None, Some, refl, sym, ap, subst, arith, eqb-true, eq-eqb, ◌⊎◌, inl, inr}
use Rattle.std.specs.Prelude.{◌||◌, nat_eq, filter, is_some}
use Rattle.std.proofs.lemmas.List.Folds.{list_any-append}
use Rattle.mir_meaning.specs.Paths.{Among}
use Rattle.live_lanes.specs.declared.ask.extent.Extent.{Extent}
use Rattle.live_lanes.specs.declared.live.LiveFunc.{LiveFunc}
use Rattle.live_lanes.specs.declared.table.Table.{Table}
use Rattle.live_lanes.specs.Extents.{extents_in, is_same_start, begins_with}
use Rattle.live_lanes.specs.Table.{Numbers}
use Rattle.live_lanes.proofs.Basics.{none-among}
use Rattle.live_lanes.proofs.Numbered.{among-cases}
use Rattle.live_edits.proofs.AskMembers.{find-none, find-some}
use Rattle.interference.specs.declared.held.HeldList.{HeldList}
use Rattle.interference.specs.declared.held.RangeExtent.{RangeExtent}
use Rattle.interference.specs.declared.saved_lists.AssignedPiece.{AssignedPiece}
use Rattle.interference.specs.declared.matrix.Matrix.{Matrix}
use Rattle.interference.specs.declared.unit_table.UnitTable.{UnitTable}
use Rattle.interference.specs.Changes.{is_piece, own_of, starting}
use Rattle.interference.specs.ChangedLists.{extent_now, without_piece, IsPut, PutsFound, PutsPiece, Stands, TakesPiece}
use Rattle.interference.specs.Clashes.{AreFilled, held_of, held_of_some, list_in}
use Rattle.interference.specs.EditedLists.{HoldsThose, Whole, but_piece, or_piece}
use Rattle.interference.specs.EditedPieces.{are_pieces_of, is_piece_of, stays, stays_or_comes, whole_by, AllBeginApart, AreHeld, HoldThose, MayHoldAll}
use Rattle.interference.specs.HeldLanes.{holding_lane}
use Rattle.interference.specs.Listed.{lane_extents, ChangesAt}
use Rattle.interference.proofs.HeldPieces.{filter-alike, no-piece, piece-gone, piece-put, filter-among, own-among}
use Rattle.interference.proofs.Lots.{take-next}
use Rattle.interference.proofs.Parts.{apart-filter}
use Rattle.interference.proofs.Starts.{lane-apart}
use Rattle.live_edits.proofs.NotedLists.{at-get}
use Rattle.live_edits.proofs.RiseSteps.{among-at}
use Rattle.live_lanes.specs.Looks.{InOrder}
use Rattle.std.proofs.lemmas.List.{get_or_default}

and-left : (a b : Bool) → (a && b) ≡ true → a ≡ true
and-left true b e = refl
and-left false b e = e

and-right : (a b : Bool) → (a && b) ≡ true → b ≡ true
and-right true b e = e
and-right false b e = absurd (cc)

-- tests that pass the same extents
pub tests-alike : (slots : Numbers) (whole : Whole) (test more : ℕ → Extent → Bool) (hs : List RangeExtent) → ((v : ℕ) (e : Extent) → Among e (whole v) → test v e ≡ more v e) → HoldsThose slots whole test hs → HoldsThose slots whole more hs
tests-alike slots whole test more hs same holds = record { own = λ v. holds.own v ∙ filter-alike (test v) (more v) (whole v) (same v); apart = holds.apart }

abbrev IsFilledSome : Option HeldList → Type 0
IsFilledSome None = Unit {0}
IsFilledSome (Some l) = AreFilled l

-- one list changes
module _ (P : HeldList → HeldList → Type 0) (slots : Numbers) (whole : ℕ → ℕ → Whole) (test more : ℕ → ℕ → ℕ → Extent → Bool) (old new : UnitTable) (u b : ℕ) (holds : HoldThose slots whole test old) (change : ChangesAt P u b old new)
    (off : (w q : ℕ) → (nat_eq u w && nat_eq b q) ≡ false → (v : ℕ) (e : Extent) → test w q v e ≡ more w q v e)
    (some : (l k : HeldList) → P l k → AreFilled l → HoldsThose slots (whole u b) (test u b) (held_of l) → AreFilled k × HoldsThose slots (whole u b) (more u b) (held_of k))
    (none : list_in old u b ≡ None → HoldsThose slots (whole u b) (test u b) [] → HoldsThose slots (whole u b) (more u b) []) where
  abbrev Held : (ℕ → ℕ → ℕ → Extent → Bool) → ℕ → ℕ → Option HeldList → Type 0
  Held t w q o = HoldsThose slots (whole w q) (t w q) (held_of_some o)

  here-those : (o : Option HeldList) → list_in old u b ≡ o → Held more u b (list_in new u b)
  here-those None e = subst (Held more u b) (sym (change.none e)) (none e (subst (Held test u b) e (holds.those u b)))
  here-those (Some l) e =
      let z = change.here l e in
      subst (Held more u b) (sym z.1) (some l z.0 z.2 (holds.filled u b l e) (subst (Held test u b) e (holds.those u b))).1

  here-filled : (o : Option HeldList) → list_in old u b ≡ o → (k : HeldList) → list_in new u b ≡ Some k → AreFilled k
  here-filled None e k f = absurd (let z : None ≡ Some k = sym (change.none e) ∙ f in cc)
  here-filled (Some l) e k f =
      let z = change.here l e in
      let same : Some z.0 ≡ Some k = sym z.1 ∙ f in
      subst IsFilledSome same (some l z.0 z.2 (holds.filled u b l e) (subst (Held test u b) e (holds.those u b))).0

  both : (w q : ℕ) → (nat_eq u w && nat_eq b q) ≡ true → (u ≡ w) × (b ≡ q)
  both w q e = (eqb-true u w (and-left (nat_eq u w) (nat_eq b q) e), eqb-true b q (and-right (nat_eq u w) (nat_eq b q) e))

  pub held-changed : HoldThose slots whole more new
  held-changed = record {
    filled = λ w q l e. filled w q l e (nat_eq u w && nat_eq b q) refl;
    those = λ w q. those w q (nat_eq u w && nat_eq b q) refl;
  }
    where
      filled : (w q : ℕ) (l : HeldList) → list_in new w q ≡ Some l → (t : Bool) → (nat_eq u w && nat_eq b q) ≡ t → AreFilled l
      filled w q l e false f = holds.filled w q l (sym (change.other w q f) ∙ e)
      filled w q l e true f =
          let z = both w q f in
          here-filled (list_in old u b) refl l (ap (λ y. list_in new y b) z.0 ∙ (ap (λ y. list_in new w y) z.1 ∙ e))

      those : (w q : ℕ) → (t : Bool) → (nat_eq u w && nat_eq b q) ≡ t → Held more w q (list_in new w q)
      those w q false e =
          subst (Held more w q) (sym (change.other w q e)) (tests-alike slots (whole w q) (test w q) (more w q) (held_of_some (list_in old w q)) (λ v x m. off w q e v x) (holds.those w q))
      those w q true e =
          let z = both w q e in
          subst (λ y. Held more w y (list_in new w y)) z.1 (subst (λ y. Held more y b (list_in new y b)) z.0 (here-those (list_in old u b) refl))

-- fewer begin so where some are left out
few-left : (s : Option ℕ) (f : Extent → Bool) (es : List Extent) → starting s (filter f es) ≤ starting s es
few-left s f [] = omega arith
few-left s f (e ∷ es) = go (f e) (begins_with s e) refl (few-left s f es)
  where
    go : (t n : Bool) → begins_with s e ≡ n → starting s (filter f es) ≤ starting s es → starting s (cond t (e ∷ filter f es) (filter f es)) ≤ starting s (e ∷ es)
    go t true g ih = subst (λ y. starting s (cond t (e ∷ filter f es) (filter f es)) ≤ cond y (suc (starting s es)) (starting s es)) (sym g) (more t)
      where
        more : (y : Bool) → starting s (cond y (e ∷ filter f es) (filter f es)) ≤ suc (starting s es)
        more true = subst (λ y. cond y (suc (starting s (filter f es))) (starting s (filter f es)) ≤ suc (starting s es)) (sym g) (omega arith)
        more false = omega arith
    go t false g ih = subst (λ y. starting s (cond t (e ∷ filter f es) (filter f es)) ≤ cond y (suc (starting s es)) (starting s es)) (sym g) (more t)
      where
        more : (y : Bool) → starting s (cond y (e ∷ filter f es) (filter f es)) ≤ starting s es
        more true = subst (λ y. cond y (suc (starting s (filter f es))) (starting s (filter f es)) ≤ starting s es) (sym g) ih
        more false = ih

-- of extents of which one at most begins so, two that do are one
none-begins-so : (s : Option ℕ) (es : List Extent) (e : Extent) → starting s es ≡ 0 → Among e es → begins_with s e ≡ true → ⊥
none-begins-so s [] e z a b = none-among e a
none-begins-so s (x ∷ es) e z a b = go (begins_with s x) refl z (among-cases e x es a) (λ n m. none-begins-so s es e n m b)
  where
    go : (t : Bool) → begins_with s x ≡ t → cond t (suc (starting s es)) (starting s es) ≡ 0 → (e ≡ x) ⊎ Among e es → (starting s es ≡ 0 → Among e es → ⊥) → ⊥
    go true f n m ih = omega arith
    go false f n (inl same) ih = let w : true ≡ false = sym b ∙ ap (begins_with s) same ∙ f in cc
    go false f n (inr m) ih = ih n m

one-begins : (s : Option ℕ) (es : List Extent) (x y : Extent) → starting s es ≤ 1 → Among x es → Among y es → begins_with s x ≡ true → begins_with s y ≡ true → x ≡ y
one-begins s [] x y le a b f g = absurd (none-among x a)
one-begins s (z ∷ es) x y le a b f g = go (begins_with s z) refl le (among-cases x z es a) (among-cases y z es b) (λ n p q. one-begins s es x y n p q f g)
  where
    go : (t : Bool) → begins_with s z ≡ t → cond t (suc (starting s es)) (starting s es) ≤ 1 → (x ≡ z) ⊎ Among x es → (y ≡ z) ⊎ Among y es → (starting s es ≤ 1 → Among x es → Among y es → x ≡ y) → x ≡ y
    go t h n (inl p) (inl q) ih = p ∙ sym q
    go true h n (inl p) (inr q) ih = absurd (none-begins-so s es y (omega arith) q g)
    go true h n (inr p) q ih = absurd (none-begins-so s es x (omega arith) p f)
    go false h n (inl p) (inr q) ih = absurd (let w : true ≡ false = sym f ∙ ap (begins_with s) p ∙ h in cc)
    go false h n (inr p) (inl q) ih = absurd (let w : true ≡ false = sym g ∙ ap (begins_with s) q ∙ h in cc)
    go false h n (inr p) (inr q) ih = ih n p q

not-both : (x y a c : Bool) → x ≡ true → y ≡ true → (not a && not c) ≡ not (a || ((x && (y && c)) || false))
not-both x y a c ex ey = go a c ∙ sym (λ i. not (a || ((ex i && (ey i && c)) || false)))
  where
    go : (s t : Bool) → (not s && not t) ≡ not (s || ((true && (true && t)) || false))
    go true t = refl
    go false true = refl
    go false false = refl

-- a piece in another list
off-none : (x y c : Bool) → (x && y) ≡ false → (x && (y && c)) ≡ false
off-none true true c e = absurd (cc)
off-none true false c e = refl
off-none false y c e = refl

not-more : (a d : Bool) → d ≡ false → not a ≡ not (a || (d || false))
not-more true d e = refl
not-more false d e = ap (λ t. not (t || false)) (sym e)

or-more : (s a d : Bool) → d ≡ false → (s || a) ≡ (s || (a || (d || false)))
or-more true a d e = refl
or-more false true d e = refl
or-more false false d e = sym (ap (λ t. t || false) e)

or-both : (x y s a c : Bool) → x ≡ true → y ≡ true → ((s || a) || c) ≡ (s || (a || ((x && (y && c)) || false)))
or-both x y s a c ex ey = go s a c ∙ sym (λ i. s || (a || ((ex i && (ey i && c)) || false)))
  where
    go : (p q t : Bool) → ((p || q) || t) ≡ (p || (q || ((true && (true && t)) || false)))
    go true q t = refl
    go false true t = refl
    go false false true = refl
    go false false false = refl

module _ (ps : List AssignedPiece) (p : AssignedPiece) where
  abbrev added : ℕ → ℕ → ℕ → Extent → Bool
  added u b v e = is_piece_of u b v e.start p

  one-more : (u b v : ℕ) (e : Extent) → are_pieces_of (ps ++ p ∷ []) u b v e ≡ (are_pieces_of ps u b v e || (added u b v e || false))
  one-more u b v e = list_any-append (is_piece_of u b v e.start) ps (p ∷ [])

  stays-off : (w q : ℕ) → (nat_eq p.unit w && nat_eq p.piece.block q) ≡ false → (v : ℕ) (e : Extent) → stays ps w q v e ≡ stays (ps ++ p ∷ []) w q v e
  stays-off w q f v e =
      not-more (are_pieces_of ps w q v e) (added w q v e) (off-none (nat_eq p.unit w) (nat_eq p.piece.block q) (nat_eq v p.range && is_same_start e.start p.piece.start) f)
      ∙ ap not (sym (one-more w q v e))

  stays-here : (v : ℕ) (e : Extent) → but_piece (stays ps p.unit p.piece.block) p.range p.piece.start v e ≡ stays (ps ++ p ∷ []) p.unit p.piece.block v e
  stays-here v e =
      not-both (nat_eq p.unit p.unit) (nat_eq p.piece.block p.piece.block) (are_pieces_of ps p.unit p.piece.block v e) (nat_eq v p.range && is_same_start e.start p.piece.start) (eq-eqb p.unit p.unit refl) (eq-eqb p.piece.block p.piece.block refl)
      ∙ ap not (sym (one-more p.unit p.piece.block v e))

  comes-off : (all : List AssignedPiece) (w q : ℕ) → (nat_eq p.unit w && nat_eq p.piece.block q) ≡ false → (v : ℕ) (e : Extent) → stays_or_comes all ps w q v e ≡ stays_or_comes all (ps ++ p ∷ []) w q v e
  comes-off all w q f v e =
      or-more (stays all w q v e) (are_pieces_of ps w q v e) (added w q v e) (off-none (nat_eq p.unit w) (nat_eq p.piece.block q) (nat_eq v p.range && is_same_start e.start p.piece.start) f)
      ∙ ap (λ t. stays all w q v e || t) (sym (one-more w q v e))

  comes-here : (all : List AssignedPiece) (v : ℕ) (e : Extent) → or_piece (stays_or_comes all ps p.unit p.piece.block) p.range p.piece.start v e ≡ stays_or_comes all (ps ++ p ∷ []) p.unit p.piece.block v e
  comes-here all v e =
      or-both (nat_eq p.unit p.unit) (nat_eq p.piece.block p.piece.block) (stays all p.unit p.piece.block v e) (are_pieces_of ps p.unit p.piece.block v e) (nat_eq v p.range && is_same_start e.start p.piece.start) (eq-eqb p.unit p.unit refl) (eq-eqb p.piece.block p.piece.block refl)
      ∙ ap (λ t. stays all p.unit p.piece.block v e || t) (sym (one-more p.unit p.piece.block v e))

  -- a piece is taken out
  pub piece-taken : (slots : Numbers) (whole : ℕ → ℕ → Whole) (old new : UnitTable) → AllBeginApart whole → HoldThose slots whole (stays ps) old → ChangesAt (TakesPiece slots p.range p.piece.start) p.unit p.piece.block old new → HoldThose slots whole (stays (ps ++ p ∷ [])) new
  piece-taken slots whole old new apart holds change =
      held-changed (TakesPiece slots p.range p.piece.start) slots whole (stays ps) (stays (ps ++ p ∷ [])) old new p.unit p.piece.block holds change stays-off
      (λ l k takes filled held. (takes.filled filled, gone (held_of l) (held_of k) held (takes.held filled held.apart (single (held_of l) held))))
      (λ e held. gone [] [] held refl)
    where
      u : ℕ
      u = p.unit

      b : ℕ
      b = p.piece.block

      single : (hs : List RangeExtent) → HoldsThose slots (whole p.unit p.piece.block) (stays ps p.unit p.piece.block) hs → starting p.piece.start (own_of p.range hs) ≤ 1
      single hs held = subst (λ es. starting p.piece.start es ≤ 1) (sym (held.own p.range))
          (let few = few-left p.piece.start (stays ps p.unit p.piece.block p.range) (whole p.unit p.piece.block p.range) in let one = apart p.unit p.piece.block p.range p.piece.start in omega arith)

      gone : (hs ns : List RangeExtent) → HoldsThose slots (whole p.unit p.piece.block) (stays ps p.unit p.piece.block) hs → ns ≡ filter (λ h. not (is_piece p.range p.piece.start h)) hs → HoldsThose slots (whole p.unit p.piece.block) (stays (ps ++ p ∷ []) p.unit p.piece.block) ns
      gone hs ns held is =
          tests-alike slots (whole p.unit p.piece.block) (but_piece (stays ps p.unit p.piece.block) p.range p.piece.start) (stays (ps ++ p ∷ []) p.unit p.piece.block) ns (λ v e m. stays-here v e)
          (piece-gone slots (whole p.unit p.piece.block) (stays ps p.unit p.piece.block) p.range p.piece.start hs ns held is)

  -- the extent that a range has of the piece is put in, if it has one
  module _ (all : List AssignedPiece) (m : Matrix) (old new : UnitTable) (may : MayHoldAll m old) (own : holding_lane m p.range p.unit ≡ Some p.piece.lane) (holds : HoldThose m.live.table.order.slots (whole_by m m.live.table) (stays_or_comes all ps) old) where
    abbrev slots : Numbers
    slots = m.live.table.order.slots

    abbrev whole : ℕ → ℕ → Whole
    whole = whole_by m m.live.table

    abbrev here : Whole
    here = whole p.unit p.piece.block

    abbrev test : ℕ → Extent → Bool
    test = stays_or_comes all ps p.unit p.piece.block

    abbrev more : ℕ → Extent → Bool
    more = stays_or_comes all (ps ++ p ∷ []) p.unit p.piece.block

    lane-is : here p.range ≡ extents_in m.live.table p.piece.lane p.piece.block
    lane-is = ap (λ q. lane_extents m.live.table q p.piece.block) own

    same-starts : (s t : Option ℕ) → is_same_start s t ≡ true → s ≡ t
    same-starts None None e = refl
    same-starts None (Some t) e = absurd (cc)
    same-starts (Some s) None e = absurd (cc)
    same-starts (Some s) (Some t) e = ap (λ n. Some n) (eqb-true s t e)

    single : AllBeginApart whole → (s : Option ℕ) (hs : List RangeExtent) → HoldsThose slots here test hs → starting s (own_of p.range hs) ≤ 1
    single apart s hs held = subst (λ es. starting s es ≤ 1) (sym (held.own p.range)) (let few = few-left s (test p.range) (here p.range) in let one = apart p.unit p.piece.block p.range s in omega arith)

    nothing : extent_now m.live.table p ≡ None → new ≡ old → HoldThose slots whole (stays_or_comes all (ps ++ p ∷ [])) new
    nothing none same =
        held-changed (λ l k. k ≡ l) slots whole (stays_or_comes all ps) (stays_or_comes all (ps ++ p ∷ [])) old new p.unit p.piece.block holds unchanged (comes-off all)
        (λ l k is filled held. (subst AreFilled (sym is) filled, subst (λ y. HoldsThose slots here more (held_of y)) (sym is) (kept (held_of l) held)))
        (λ e held. kept [] held)
      where
        unchanged : ChangesAt (λ l k. k ≡ l) p.unit p.piece.block old new
        unchanged = subst (λ c. ChangesAt (λ l k. k ≡ l) p.unit p.piece.block old c) (sym same) (record { here = λ l e. (l, e, refl); none = λ e. e; other = λ w q e. refl })

        begun-none : (x : Extent) → Among x (here p.range) → begins_with p.piece.start x ≡ false
        begun-none x a = find-none (begins_with p.piece.start) x (extents_in m.live.table p.piece.lane p.piece.block) none (subst (Among x) lane-is a)

        kept : (hs : List RangeExtent) → HoldsThose slots here test hs → HoldsThose slots here more hs
        kept hs held = tests-alike slots here (or_piece test p.range p.piece.start) more hs (λ v e a. comes-here all v e) (no-piece slots here test p.range p.piece.start hs held begun-none)

    some-extent : AllBeginApart whole → (e : Extent) → extent_now m.live.table p ≡ Some e → ChangesAt (PutsPiece slots p.range e) p.unit p.piece.block old new → HoldThose slots whole (stays_or_comes all (ps ++ p ∷ [])) new
    some-extent apart e is change =
        held-changed (PutsPiece slots p.range e) slots whole (stays_or_comes all ps) (stays_or_comes all (ps ++ p ∷ [])) old new p.unit p.piece.block holds change (comes-off all)
        (λ l k puts filled held. (puts.filled filled, put l k puts filled held))
        (λ none held. absurd (let z : true ≡ false = sym (may.there p.unit p.piece.block p.range e member) ∙ ap is_some none in cc))
      where
        found : Among e (extents_in m.live.table p.piece.lane p.piece.block) × (begins_with p.piece.start e ≡ true)
        found = find-some (begins_with p.piece.start) e (extents_in m.live.table p.piece.lane p.piece.block) is

        member : Among e (here p.range)
        member = subst (Among e) (sym lane-is) found.0

        start-is : e.start ≡ p.piece.start
        start-is = same-starts e.start p.piece.start found.1

        -- where it is put in, or stands there
        put : (l k : HeldList) → PutsPiece slots p.range e l k → AreFilled l → HoldsThose slots here test (held_of l) → HoldsThose slots here more (held_of k)
        put l k puts filled held = go (puts.held filled held.apart (single apart e.start (held_of l) held) (apart-filter slots (λ h. not (is_piece p.range e.start h)) 0 (held_of l) held.apart))
          where
            go : IsPut slots p.range e (without_piece p.range e.start (held_of l)) (held_of k) ⊎ Stands p.range e l k → HoldsThose slots here more (held_of k)
            go (inl is-put) =
                tests-alike slots here (or_piece test p.range e.start) more (held_of k) (λ v x a. ap (λ s. or_piece test p.range s v x) start-is ∙ comes-here all v x)
                (piece-put slots here (may.separate p.unit p.piece.block) test p.range e member (held_of l) held (held_of k) is-put)
            go (inr (same, stands)) = tests-alike slots here test more (held_of k) (λ v x a. passed v x a ∙ comes-here all v x) (subst (HoldsThose slots here test) (sym same) held)
              where
                passes : test p.range e ≡ true
                passes = (filter-among (test p.range) e (here p.range) (subst (Among e) (held.own p.range) (own-among (record { range = p.range; extent = e }) (held_of l) stands))).1

                passed : (v : ℕ) (x : Extent) → Among x (here v) → test v x ≡ or_piece test p.range p.piece.start v x
                passed v x a = by-test (nat_eq v p.range) (begins_with p.piece.start x) refl refl
                  where
                    none : (y z : Bool) → y ≡ (y || (false && z))
                    none true z = refl
                    none false z = refl

                    none-begins : (y z : Bool) → y ≡ (y || (z && false))
                    none-begins true z = refl
                    none-begins false true = refl
                    none-begins false false = refl

                    by-test : (s t : Bool) → nat_eq v p.range ≡ s → begins_with p.piece.start x ≡ t → test v x ≡ (test v x || (s && t))
                    by-test false t f g = none (test v x) t
                    by-test true false f g = none-begins (test v x) true
                    by-test true true f g =
                        let v-is : v ≡ p.range = eqb-true v p.range f in
                        let x-is : x ≡ e = one-begins p.piece.start (here p.range) x e (apart p.unit p.piece.block p.range p.piece.start) (subst (λ n. Among x (here n)) v-is a) member g found.1 in
                        let yes : test v x ≡ true = ap (λ n. test n x) v-is ∙ ap (test p.range) x-is ∙ passes in
                        yes ∙ sym (ap (λ y. y || true) yes)

    pub piece-comes : AllBeginApart whole → PutsFound slots (extent_now m.live.table p) p old new → HoldThose slots whole (stays_or_comes all (ps ++ p ∷ [])) new
    piece-comes apart puts = go (extent_now m.live.table p) refl puts
      where
        go : (o : Option Extent) → extent_now m.live.table p ≡ o → PutsFound slots o p old new → HoldThose slots whole (stays_or_comes all (ps ++ p ∷ [])) new
        go None e same = nothing e same
        go (Some x) e change = some-extent apart x e change

-- no two extents of a range begin alike by a table in order
pub all-begin-apart : (m : Matrix) (x : Table) → InOrder x → AllBeginApart (whole_by m x)
all-begin-apart m x order u b v = lane-apart x.order.slots x refl order (holding_lane m v u) b

pub one-taken : (ps : List AssignedPiece) (k : ℕ) (none : AssignedPiece) → k < length ps → take (k + 1) ps ≡ take k ps ++ get_or ps k none ∷ []
one-taken ps k none lt = take-next ps k (get_or ps k none) (at-get ps k (get_or ps k none) lt (get_or_default ps k none (get_or ps k none) lt))

pub one-among : (ps : List AssignedPiece) (k : ℕ) (none : AssignedPiece) → k < length ps → Among (get_or ps k none) ps
one-among ps k none lt = among-at ps k (get_or ps k none) none lt refl

-- where there is a list, there is one behind a change

pub changed-there : (P : HeldList → HeldList → Type 0) (u b : ℕ) (old new : UnitTable) → ChangesAt P u b old new → (w q : ℕ) → is_some (list_in new w q) ≡ is_some (list_in old w q)
changed-there P u b old new change w q = go (nat_eq u w && nat_eq b q) refl
  where
    at : (o : Option HeldList) → list_in old u b ≡ o → is_some (list_in new u b) ≡ is_some (list_in old u b)
    at None e = ap is_some (change.none e ∙ sym e)
    at (Some l) e = ap is_some (change.here l e).1 ∙ sym (ap is_some e)

    go : (t : Bool) → (nat_eq u w && nat_eq b q) ≡ t → is_some (list_in new w q) ≡ is_some (list_in old w q)
    go false e = ap is_some (change.other w q e)
    go true e =
        let units = eqb-true u w (and-left (nat_eq u w) (nat_eq b q) e) in
        let blocks = eqb-true b q (and-right (nat_eq u w) (nat_eq b q) e) in
        subst (λ y. is_some (list_in new w y) ≡ is_some (list_in old w y)) blocks (subst (λ y. is_some (list_in new y b) ≡ is_some (list_in old y b)) units (at (list_in old u b) refl))

pub found-there : (ns : Numbers) (o : Option Extent) (p : AssignedPiece) (old new : UnitTable) → PutsFound ns o p old new → (w q : ℕ) → is_some (list_in new w q) ≡ is_some (list_in old w q)
found-there ns None p old new same w q = ap (λ t. is_some (list_in t w q)) same
found-there ns (Some e) p old new change w q = changed-there (PutsPiece ns p.range e) p.unit p.piece.block old new change w q

-- one more piece is put into lists that stand where they stood
pub one-more-held : (m : Matrix) (live : LiveFunc) → m.live ≡ live → (ps : List AssignedPiece) (k : ℕ) (none : AssignedPiece) → k < length ps → (first old new : UnitTable) → MayHoldAll m first
    → ((u b : ℕ) → is_some (list_in old u b) ≡ is_some (list_in first u b)) → AreHeld m ps
    → HoldThose live.table.order.slots (whole_by m live.table) (stays_or_comes ps (take k ps)) old
    → (InOrder live.table → PutsFound live.table.order.slots (extent_now live.table (get_or ps k none)) (get_or ps k none) old new)
    → HoldThose live.table.order.slots (whole_by m live.table) (stays_or_comes ps (take k ps ++ get_or ps k none ∷ [])) new
one-more-held m live same ps k none lt first old new may there held holds puts =
    subst (λ (y : LiveFunc). HoldThose y.table.order.slots (whole_by m y.table) (stays_or_comes ps (take k ps ++ p ∷ [])) new) same
    (piece-comes (take k ps) p ps m old new here (held p (one-among ps k none lt)) (subst (λ (y : LiveFunc). HoldThose y.table.order.slots (whole_by m y.table) (stays_or_comes ps (take k ps)) old) (sym same) holds)
    (all-begin-apart m m.live.table may.order) (subst (λ (y : LiveFunc). InOrder y.table → PutsFound y.table.order.slots (extent_now y.table p) p old new) (sym same) puts may.order))
  where
    p : AssignedPiece
    p = get_or ps k none

    here : MayHoldAll m old
    here = record { order = may.order; separate = may.separate; there = λ u b v e a. there u b ∙ may.there u b v e a }
