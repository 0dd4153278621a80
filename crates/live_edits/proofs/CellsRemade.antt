-- Cells that are made anew one after the other.
use Rattle.std.proofs.Common.{◌≡◌, ◌<◌, ◌≤◌, ◌+◌, ◌∙◌, ◌⊎◌, inl, inr, ℕ, suc, Bool, true, false, ◌&&◌, List, [], ◌∷◌, Option, Some, length, drop, get_or, refl, sym, ap, subst, arith, ltb, eqb-true, eq-eqb}
use Rattle.std.specs.Prelude.{nat_eq, is_some, slice_get}
use Rattle.std.proofs.lemmas.Bool.{ltb-true, ltb-false}
use Rattle.std.proofs.lemmas.List.{drop_more, drop_all}
use Rattle.mir_meaning.specs.Paths.{Among, here, there, Code}
use Rattle.live_lanes.specs.declared.compute.flow.BlockFlow.{BlockFlow}
use Rattle.live_lanes.specs.declared.row.LaneRange.{LaneRange}
use Rattle.live_lanes.specs.Table.{Numbers, Seen}
use Rattle.live_lanes.specs.Entered.{rows_seen, IsNumbered, IsTableOf}
use Rattle.live_lanes.proofs.Basics.{none-among}
use Rattle.live_lanes.proofs.Numbered.{among-cases}
use Rattle.edit_laws.specs.Reasons.{Touched, IsEditOf}
use Rattle.edit_laws.specs.Rebuilt.{IsRebuilt, stays}
use Rattle.edit_laws.proofs.Rebuilt.{untouched-law}
use Rattle.live_edits.specs.declared.cells.CellNotes.{CellNotes}
use Rattle.live_edits.specs.declared.cells.Note.{Note}
use Rattle.live_edits.specs.Told.{AreWritingsTold, KeepsUntold}
use Rattle.live_edits.proofs.Untold.{kept-same, kept-then, unseen-past}
use Rattle.live_edits.specs.Renoted.{NotesAll, NotesCell, ChangesOne}
use Rattle.live_edits.proofs.RenoteWhole.{notes-rebuilt}
use Rattle.live_edits.specs.Remade.{AreAllNotes, AreNotesOf, RemakesAll}

abbrev is_at : ℕ → ℕ → ℕ → ℕ → Bool
is_at lane block l b = nat_eq lane l && nat_eq block b

pub at-lane : (lane block l b : ℕ) → is_at lane block l b ≡ true → lane ≡ l
at-lane lane block l b e = go (nat_eq lane l) refl e
  where
    go : (u : Bool) → nat_eq lane l ≡ u → (u && nat_eq block b) ≡ true → lane ≡ l
    go true f h = eqb-true lane l f
    go false f h = absurd (cc)

pub at-block : (lane block l b : ℕ) → is_at lane block l b ≡ true → block ≡ b
at-block lane block l b e = go (nat_eq lane l) e
  where
    go : (u : Bool) → (u && nat_eq block b) ≡ true → block ≡ b
    go true h = eqb-true block b h
    go false h = absurd (cc)

at-own : (lane block : ℕ) → is_at lane block lane block ≡ true
at-own lane block = ap (λ u. u && nat_eq block block) (eq-eqb lane lane refl) ∙ eq-eqb block block refl

-- a lane without rows
pub past-one : (slots : Numbers) (rows : List LaneRange) (c : CellNotes) → length rows ≤ c.lane → NotesCell slots rows rows c
past-one slots rows c past = record { own = λ h. absurd (omega (arith, past, h)); others = λ l b e. refl; lanes = refl }

pub one-cell : (slots : Numbers) (old new : List LaneRange) (c : CellNotes) (notes : List Note) → notes ≡ c.notes.items → ChangesOne old new c.lane c.block (NotesAll slots notes) → NotesCell slots old new c
one-cell slots old new c notes e p = record { own = λ h. subst (λ ns. NotesAll slots ns (rows_seen old c.lane c.block) (rows_seen new c.lane c.block)) e p.own; others = p.others; lanes = p.lanes }

-- one after the other
abbrev pub RemakesEach : Numbers → List LaneRange → List CellNotes → List LaneRange → Type 0
RemakesEach slots old [] new = new ≡ old
RemakesEach slots old (c ∷ cs) new = (mid : List LaneRange) × NotesCell slots old mid c × RemakesEach slots mid cs new

module _ (slots : Numbers) where
  pub each-more : (old mid new : List LaneRange) (all : List CellNotes) (k : ℕ) (c : CellNotes) → k < length all → c ≡ get_or all k c → NotesCell slots old mid c → RemakesEach slots mid (drop (k + 1) all) new → RemakesEach slots old (drop k all) new
  each-more old mid new all k c h own one rest = subst (λ cs. RemakesEach slots old cs new) (ap (λ d. d ∷ drop (k + 1) all) own ∙ sym (drop_more all k c h)) (mid, one, rest)

  pub each-all : (rows : List LaneRange) (all : List CellNotes) (k : ℕ) → length all ≤ k → RemakesEach slots rows (drop k all) rows
  each-all rows all k h = subst (λ cs. RemakesEach slots rows cs rows) (sym (drop_all k all h)) refl

  abbrev None-at : List CellNotes → ℕ → ℕ → Type 0
  None-at cs l b = (c : CellNotes) → Among c cs → is_at c.lane c.block l b ≡ false

  others-stay : (old new : List LaneRange) (cs : List CellNotes) (l b : ℕ) → RemakesEach slots old cs new → None-at cs l b → rows_seen new l b ≡ rows_seen old l b
  others-stay old new [] l b r none = ap (λ x. rows_seen x l b) r
  others-stay old new (c ∷ cs) l b r none = others-stay r.0 new cs l b r.2 (λ d m. none d (there m)) ∙ r.1.others l b (none c here)

  abbrev AreApart : List CellNotes → Type 0
  AreApart cs = (i j : ℕ) (c d : CellNotes) → slice_get cs i ≡ Some c → slice_get cs j ≡ Some d → c.lane ≡ d.lane → c.block ≡ d.block → i ≡ j

  among-at : (cs : List CellNotes) (c : CellNotes) → Among c cs → (i : ℕ) × (slice_get cs i ≡ Some c)
  among-at [] c m = elim m [ ]
  among-at (d ∷ cs) c here = (0, refl)
  among-at (d ∷ cs) c (there m) = let z = among-at cs c m in (suc z.0, z.1)

  none-behind : (c : CellNotes) (cs : List CellNotes) → AreApart (c ∷ cs) → None-at cs c.lane c.block
  none-behind c cs apart d m = go (is_at d.lane d.block c.lane c.block) refl
    where
      go : (u : Bool) → is_at d.lane d.block c.lane c.block ≡ u → u ≡ false
      go true e =
          let z = among-at cs d m in
          let same : 0 ≡ suc z.0 = apart 0 (suc z.0) c d refl z.1 (sym (at-lane d.lane d.block c.lane c.block e)) (sym (at-block d.lane d.block c.lane c.block e)) in
          absurd (omega (arith, same))
      go false e = refl

  behind-apart : (c : CellNotes) (cs : List CellNotes) → AreApart (c ∷ cs) → AreApart cs
  behind-apart c cs apart i j d e p q f g = let h = apart (suc i) (suc j) d e p q f g in omega (arith, h)

  other-first : (c d : CellNotes) (cs : List CellNotes) → AreApart (c ∷ cs) → Among d cs → is_at c.lane c.block d.lane d.block ≡ false
  other-first c d cs apart m = go (is_at c.lane c.block d.lane d.block) refl
    where
      go : (u : Bool) → is_at c.lane c.block d.lane d.block ≡ u → u ≡ false
      go true e =
          let z = among-at cs d m in
          let same : 0 ≡ suc z.0 = apart 0 (suc z.0) c d refl z.1 (at-lane c.lane c.block d.lane d.block e) (at-block c.lane c.block d.lane d.block e) in
          absurd (omega (arith, same))
      go false e = refl

  abbrev Own : List LaneRange → List LaneRange → CellNotes → Type 0
  Own old new c = NotesAll slots c.notes.items (rows_seen old c.lane c.block) (rows_seen new c.lane c.block)

  own-noted : (old new : List LaneRange) (cs : List CellNotes) (c : CellNotes) → RemakesEach slots old cs new → AreApart cs → Among c cs → c.lane < length old → Own old new c
  own-noted old new [] c r apart m h = elim m [ ]
  own-noted old new (d ∷ cs) c r apart here h =
      subst (NotesAll slots c.notes.items (rows_seen old c.lane c.block)) (sym (others-stay r.0 new cs c.lane c.block r.2 (none-behind c cs apart))) (r.1.own h)
  own-noted old new (d ∷ cs) c r apart (there m) h =
      subst (λ v. NotesAll slots c.notes.items v (rows_seen new c.lane c.block)) (r.1.others c.lane c.block (other-first d c cs apart m)) (own-noted r.0 new cs c r.2 (behind-apart d cs apart) m (subst (λ n. c.lane < n) (sym r.1.lanes) h))

  -- the notes of a lane in a block, if there are any
  find-at : (cs : List CellNotes) (l b : ℕ) → ((c : CellNotes) × Among c cs × (c.lane ≡ l) × (c.block ≡ b)) ⊎ None-at cs l b
  find-at [] l b = inr (λ c m. absurd (none-among c m))
  find-at (c ∷ cs) l b = go (is_at c.lane c.block l b) refl (find-at cs l b)
    where
      both : is_at c.lane c.block l b ≡ false → None-at cs l b → (d : CellNotes) → (d ≡ c) ⊎ Among d cs → is_at d.lane d.block l b ≡ false
      both e none d (inl f) = ap (λ (x : CellNotes). is_at x.lane x.block l b) f ∙ e
      both e none d (inr m) = none d m

      go : (u : Bool) → is_at c.lane c.block l b ≡ u → ((d : CellNotes) × Among d cs × (d.lane ≡ l) × (d.block ≡ b)) ⊎ None-at cs l b → ((d : CellNotes) × Among d (c ∷ cs) × (d.lane ≡ l) × (d.block ≡ b)) ⊎ None-at (c ∷ cs) l b
      go true e rest = inl (c, here, at-lane c.lane c.block l b e, at-block c.lane c.block l b e)
      go false e (inl z) = inl (z.0, there z.1, z.2, z.3)
      go false e (inr none) = inr (λ d m. both e none d (among-cases d c cs m))

  elsewhere : (all : List CellNotes) (l b : ℕ) → None-at all l b → (c : CellNotes) → Among c all → c.lane ≡ l → c.block ≡ b → ⊥
  elsewhere all l b none c m f g = let h : true ≡ false = sym (at-own l b) ∙ ((λ i. nat_eq (sym f i) l && nat_eq (sym g i) b) ∙ none c m) in cc

  not-there : (all : List CellNotes) (l b : ℕ) → ((c : CellNotes) → Among c all → c.lane ≡ l → c.block ≡ b → ⊥) → None-at all l b
  not-there all l b none c m = go (is_at c.lane c.block l b) refl
    where
      go : (u : Bool) → is_at c.lane c.block l b ≡ u → u ≡ false
      go true e = absurd (none c m (at-lane c.lane c.block l b e) (at-block c.lane c.block l b e))
      go false e = refl

  -- pieces that aren't told

  notes-kept : (told : Option ℕ → Bool) (notes : List Note) (v w : Seen) → NotesAll slots notes v w → ((n : Note) → Among n notes → is_some n.act.write ≡ true → told (Some n.id) ≡ true) → KeepsUntold told v w
  notes-kept told [] v w p h = kept-same told v w p
  notes-kept told (n ∷ ns) v w p h =
      kept-then told v p.0 w (record { first = p.1.first.end; begun = p.1.untold told (h n here) }) (notes-kept told ns p.0 w p.2 (λ m a. h m (there a)))

  cell-kept : (old new : List LaneRange) (c : CellNotes) → NotesCell slots old new c → (told : ℕ → ℕ → Option ℕ → Bool) → ((n : Note) → Among n c.notes.items → is_some n.act.write ≡ true → told c.lane c.block (Some n.id) ≡ true)
      → (l b : ℕ) → KeepsUntold (told l b) (rows_seen old l b) (rows_seen new l b)
  cell-kept old new c p told h l b = go (is_at c.lane c.block l b) refl
    where
      own : (u : Bool) → ltb c.lane (length old) ≡ u → KeepsUntold (told c.lane c.block) (rows_seen old c.lane c.block) (rows_seen new c.lane c.block)
      own true e = notes-kept (told c.lane c.block) c.notes.items (rows_seen old c.lane c.block) (rows_seen new c.lane c.block) (p.own (ltb-true c.lane (length old) e)) h
      own false e =
          let far = ltb-false c.lane (length old) e in
          kept-same (told c.lane c.block) _ _ (unseen-past new c.lane c.block (omega (arith, far, p.lanes)) ∙ sym (unseen-past old c.lane c.block far))

      go : (u : Bool) → is_at c.lane c.block l b ≡ u → KeepsUntold (told l b) (rows_seen old l b) (rows_seen new l b)
      go true e =
          subst (λ k. KeepsUntold (told k b) (rows_seen old k b) (rows_seen new k b)) (at-lane c.lane c.block l b e)
          (subst (λ k. KeepsUntold (told c.lane k) (rows_seen old c.lane k) (rows_seen new c.lane k)) (at-block c.lane c.block l b e) (own (ltb c.lane (length old)) refl))
      go false e = kept-same (told l b) _ _ (p.others l b e)

  all-kept : (old new : List LaneRange) (cs : List CellNotes) → RemakesEach slots old cs new → (told : ℕ → ℕ → Option ℕ → Bool) → AreWritingsTold told cs → (l b : ℕ) → KeepsUntold (told l b) (rows_seen old l b) (rows_seen new l b)
  all-kept old new [] r told h l b = kept-same (told l b) _ _ (ap (λ x. rows_seen x l b) r)
  all-kept old new (c ∷ cs) r told h l b =
      kept-then (told l b) _ (rows_seen r.0 l b) _ (cell-kept old r.0 c r.1 told (h c here) l b) (all-kept r.0 new cs r.2 told (λ d m. h d (there m)) l b)

  module _ (old new : List LaneRange) (all : List CellNotes) (r : RemakesEach slots old all new) where
    all-rebuilt : (touched noted : Touched) (before code : Code) (was : Numbers) (flow : List BlockFlow) (x : List LaneRange) → IsTableOf before was flow x → IsEditOf touched before code → IsNumbered code slots
        → AreAllNotes noted code old all → (l : ℕ) → ((b id : ℕ) → touched l b id ≡ noted l b id) → ((b : ℕ) → rows_seen old l b ≡ rows_seen x l b) → (b : ℕ) → IsRebuilt before code l b (rows_seen x l b) (rows_seen new l b)
    all-rebuilt touched noted before code was flow x t e numbered n l agree same b = go (find-at all l b)
      where
        go : ((c : CellNotes) × Among c all × (c.lane ≡ l) × (c.block ≡ b)) ⊎ None-at all l b → IsRebuilt before code l b (rows_seen x l b) (rows_seen new l b)
        go (inl z) =
            let c = z.0 in
            let at-own-lane : (k id : ℕ) → touched c.lane k id ≡ noted c.lane k id = subst (λ m. (k id : ℕ) → touched m k id ≡ noted m k id) (sym z.2) agree in
            let seen-same : rows_seen old c.lane c.block ≡ rows_seen x c.lane c.block = subst (λ m. (k : ℕ) → rows_seen old m k ≡ rows_seen x m k) (sym z.2) same c.block in
            let own = subst (λ v. NotesAll slots c.notes.items v (rows_seen new c.lane c.block)) seen-same (own-noted old new all c r n.apart z.1 (n.lanes c z.1)) in
            let notes : AreNotesOf touched code c.lane c.block c.notes.items = record { told = λ id. at-own-lane c.block id ∙ (n.each c z.1).told id; single = (n.each c z.1).single; does = (n.each c z.1).does } in
            let made : IsRebuilt before code c.lane c.block (rows_seen x c.lane c.block) (rows_seen new c.lane c.block) = notes-rebuilt touched before code was slots flow x c.lane c.block c.notes.items t e numbered notes (rows_seen new c.lane c.block) own in
            subst (λ k. IsRebuilt before code l k (rows_seen x l k) (rows_seen new l k)) z.3 (subst (λ k. IsRebuilt before code k c.block (rows_seen x k c.block) (rows_seen new k c.block)) z.2 made)
        go (inr none) = stays (untouched-law touched before code l b e (λ id. agree b id ∙ n.others l b (elsewhere all l b none) id)) (others-stay old new all l b r none ∙ same b)

    pub all-remade : RemakesAll slots old new all
    all-remade = record { rebuilt = all-rebuilt; kept = λ l b none. others-stay old new all l b r (not-there all l b none); untold = all-kept old new all r }
