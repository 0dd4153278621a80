-- Which instructions edits change, and whether the rows of a range tell of no others.
use Rattle.std.proofs.Common.{◌≡◌, ◌++◌, ◌∙◌, ◌<◌, ◌≤◌, ◌+◌, ℕ, zero, suc, Bool, true, false, cond, not, List, [], ◌∷◌, Option, Some, None, take, length, map, get_or, refl, sym, ap, arith, append-nil, append_assoc}
use Rattle.std.specs.Prelude.{◌&&◌, ◌||◌, nat_eq, nat_lt, slice_get}
use Rattle.std.specs.List.{list_all, list_any}
use Rattle.std.proofs.lemmas.Bool.{ltb-false, ltb-true}
use Rattle.std.proofs.lemmas.List.{take_all}
use Rattle.target_base.proofs.Tests.{first_of_both, second_of_both}
use Rattle.mir_meaning.specs.Paths.{has}
use Rattle.instr_effects.specs.declared.owner.Owner.TheVariants as owners
use Rattle.instr_effects.specs.Numbered.{number_in}
use Rattle.instr_effects.specs.Row.{lane_in}
use Rattle.live_edits.specs.declared.edit.Edit.{Edit as CodeEdit}
use Rattle.live_lanes.specs.declared.row.Cell.{Cell}
use Rattle.live_lanes.specs.declared.row.DefPiece.{DefPiece}
use Rattle.live_lanes.specs.declared.row.LaneRange.{LaneRange}
use Rattle.live_lanes.specs.declared.table.Table.{Table}
use Rattle.live_lanes.specs.Entered.{cells_of, rows_seen}
use Rattle.live_lanes.specs.Table.{begun, find_cell, seen, seen_cell, seen_in, unseen}
use Rattle.live_edits.specs.Aside.{LeavesNone, are_told, brings, changed_by, changed_ids, is_all_told, is_begun_told}
use Rattle.live_edits.specs.Runs.{edit_of, edits_of}
use Rattle.live_edits.proofs.RunIds.{has-more, has-turned}

-- one more edit

changed-one : (es : List CodeEdit) (i m : ℕ) (d : CodeEdit) → i < length es → m ≡ suc i → changed_ids (edits_of (take m es)) ≡ changed_ids (edits_of (take i es)) ++ changed_by (edit_of (get_or es i d))
changed-one [] i m d h e = absurd (omega (arith, h))
changed-one (c ∷ cs) zero m d h e = ap (λ k. changed_ids (edits_of (take k (c ∷ cs)))) e ∙ append-nil (changed_by (edit_of c))
changed-one (c ∷ cs) (suc i) m d h e =
    ap (λ k. changed_ids (edits_of (take k (c ∷ cs)))) e
    ∙ (ap (λ xs. changed_by (edit_of c) ++ xs) (changed-one cs i (suc i) d (omega (arith, h)) refl) ∙ sym (append_assoc (changed_by (edit_of c)) (changed_ids (edits_of (take i cs))) (changed_by (edit_of (get_or cs i d)))))

pub changed-more : (es : List CodeEdit) (i m : ℕ) (e : CodeEdit) (keys keys' : List ℕ) → i < length es → m ≡ suc i → e ≡ get_or es i e → ((n : ℕ) → has n keys ≡ has n (changed_ids (edits_of (take i es)))) → ((n : ℕ) → has n keys' ≡ has n (changed_by (edit_of e) ++ keys))
    → (n : ℕ) → has n keys' ≡ has n (changed_ids (edits_of (take m es)))
changed-more es i m e keys keys' h one own so now n =
    let ids = changed_by (edit_of e) in
    let before = changed_ids (edits_of (take i es)) in
    now n ∙ (has-more n ids keys before (so n) ∙ (has-turned n ids before
    ∙ (ap (λ (x : CodeEdit). has n (before ++ changed_by (edit_of x))) own ∙ sym (ap (has n) (changed-one es i m e h one)))))

pub all-changed : (es : List CodeEdit) (k : ℕ) (keys : List ℕ) → length es ≤ k → ((n : ℕ) → has n keys ≡ has n (changed_ids (edits_of (take k es)))) → (n : ℕ) → has n keys ≡ has n (changed_ids (edits_of es))
all-changed es k keys h so n = so n ∙ ap (λ xs. has n (changed_ids (edits_of xs))) (take_all k es h)

any-brought : (v : ℕ) (es : List CodeEdit) → list_any (brings v) (edits_of es) ≡ list_any (λ e. brings v (edit_of e)) es
any-brought v [] = refl
any-brought v (e ∷ es) = ap (λ b. brings v (edit_of e) || b) (any-brought v es)

-- what cells tell

pub begun-told : (told : ℕ → Bool) (ss : List DefPiece) → list_all (λ s. is_begun_told told (begun s)) ss ≡ list_all (is_begun_told told) (map begun ss)
begun-told told [] = refl
begun-told told (s ∷ ss) = ap (λ b. is_begun_told told (begun s) && b) (begun-told told ss)

pub cell-told : (told : ℕ → Bool) (c : Cell) → c.is_read_last ≡ false → are_told told c.first.readings.items ≡ true → list_all (λ s. is_begun_told told (begun s)) c.segments.items ≡ is_all_told told (seen_cell c)
cell-told told c last read = begun-told told c.segments.items ∙ sym (λ i. not (last i) && (read i && list_all (is_begun_told told) (map begun c.segments.items)))

cells-told : (told : ℕ → Bool) (cells : List Cell) → list_all (λ c. is_all_told told (seen_cell c)) cells ≡ true → (b : ℕ) → is_all_told told (seen_in cells b) ≡ true
cells-told told [] h b = refl
cells-told told (c ∷ cs) h b = go (nat_eq c.block b) (cells-told told cs (second_of_both (is_all_told told (seen_cell c)) (list_all (λ d. is_all_told told (seen_cell d)) cs) h) b)
  where
    go : (u : Bool) → is_all_told told (seen (find_cell b cs)) ≡ true → is_all_told told (seen (cond u (Some c) (find_cell b cs))) ≡ true
    go true rest = first_of_both (is_all_told told (seen_cell c)) (list_all (λ d. is_all_told told (seen_cell d)) cs) h
    go false rest = rest

rows-are : (rows : List LaneRange) (l b : ℕ) → rows_seen rows l b ≡ seen_in (cells_of rows l) b
rows-are rows l b = go (slice_get rows l)
  where
    go : (q : Option LaneRange) → elim q [ None ↦ unseen | Some r ↦ seen_in r.cells.items b ] ≡ seen_in (elim q [ None ↦ [] | Some r ↦ r.cells.items ]) b
    go None = refl
    go (Some r) = refl

pub lane-told : (told : ℕ → Bool) (rows : List LaneRange) (l : ℕ) (cells : List Cell) → cells ≡ cells_of rows l → list_all (λ c. is_all_told told (seen_cell c)) cells ≡ true → (b : ℕ) → is_all_told told (rows_seen rows l b) ≡ true
lane-told told rows l cells is h b = ap (is_all_told told) (rows-are rows l b ∙ ap (λ cs. seen_in cs b) (sym is)) ∙ cells-told told cells h b

-- the first lanes of a range are told of so
abbrev pub AreLanesTold : (ℕ → Bool) → List LaneRange → ℕ → ℕ → ℕ → Type 0
AreLanesTold told rows first count k = (j l b : ℕ) → j < k → lane_in first count j ≡ Some l → is_all_told told (rows_seen rows l b) ≡ true

pub more-told : (told : ℕ → Bool) (rows : List LaneRange) (first count k m : ℕ) → m ≡ suc k → AreLanesTold told rows first count k → ((l : ℕ) → lane_in first count k ≡ Some l → (b : ℕ) → is_all_told told (rows_seen rows l b) ≡ true) → AreLanesTold told rows first count m
more-told told rows first count k m one before own j l b h e = go (nat_lt j k) refl
  where
    go : (u : Bool) → nat_lt j k ≡ u → is_all_told told (rows_seen rows l b) ≡ true
    go true d = before j l b (ltb-true j k d) e
    go false d =
        let past : k ≤ j = ltb-false j k d in
        let same : k ≡ j = omega (arith, h, one, past) in
        own l (ap (lane_in first count) same ∙ e) b

pub all-told : (told : ℕ → Bool) (rows : List LaneRange) (first count k : ℕ) → count ≤ k → AreLanesTold told rows first count k → (j l b : ℕ) → lane_in first count j ≡ Some l → is_all_told told (rows_seen rows l b) ≡ true
all-told told rows first count k h all j l b e = go (nat_lt j count) refl e
  where
    go : (u : Bool) → nat_lt j count ≡ u → cond u (Some (first + j)) None ≡ Some l → is_all_told told (rows_seen rows l b) ≡ true
    go true d e' = let within : j < count = ltb-true j count d in all j l b (omega (arith, h, within)) e
    go false d e' = absurd (cc)

-- all together

pub leaves-none : (x : Table) (es : List CodeEdit) (v : ℕ) (keys : List ℕ) → list_any (λ e. brings v (edit_of e)) es ≡ false → ((n : ℕ) → has n keys ≡ has n (changed_ids (edits_of es)))
    → ((k l b : ℕ) → number_in x.lanes (owners.Range v k) ≡ Some l → is_all_told (λ n. has n keys) (rows_seen x.rows.rows.items l b) ≡ true) → LeavesNone x (edits_of es) v
leaves-none x es v keys none are told = record {
  brings = any-brought v es ∙ none;
  told = λ k l b e. (λ i. is_all_told (λ n. sym (are n) i) (rows_seen x.rows.rows.items l b)) ∙ told k l b e;
}
