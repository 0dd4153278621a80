-- So the edits of a block are found by its marks and by those of its instructions that touch the range.
use Rattle.std.proofs.Common.{◌≡◌, ◌∷◌, ◌++◌, ◌∙◌, ◌<◌, ◌⊎◌, inl, inr, ℕ, Bool, true, false, cond, List, [], Option, Some, None, take, drop, refl, sym, ap, arith, append_assoc, append-nil, eq-eqb}
use Rattle.std.specs.Prelude.{filter, flat_map, nat_eq}
use Rattle.slot_index.specs.Order.{number_of}
use Rattle.meaning.specs.Live.{Among, here, there}
use Rattle.mir_func.specs.declared.func.Block.{Block}
use Rattle.mir_func.specs.declared.func.Gap.{Gap}
use Rattle.mir_func.specs.declared.func.Instr.{Instr}
use Rattle.mir_func.specs.Value.{Function}
use Rattle.mir_meaning.specs.Points.{Entry, Point, Start, touches}
use Rattle.live_lanes.specs.declared.ask.labels.Mark.{Mark}
use Rattle.live_lanes.specs.declared.ask.labels.Spot.{Spot}
use Rattle.live_lanes.specs.declared.ask.labels.Spot.TheVariants.{Border, Gap as AtGap}
use Rattle.live_lanes.specs.Ordered.{AreRising, ids_of}
use Rattle.live_lanes.specs.Table.{Numbers}
use Rattle.edit_laws.specs.Edits.{Edit}
use Rattle.split_kit.specs.Split.{is_border, is_gap, label_behind, last_label, last_point, same_number, start_label}
use Rattle.split_kit.specs.PartEdits.{IsThinned, block_edits, border_label, copy_edits, first_label, gap_edits, gap_of, gaps_from, instr_edits, marks_in, part_edits, spots_of, stand_before}
use Rattle.split_kit.proofs.BlockEdits.{IsBehind, all-left-out, copy-same, gap-found, marks-picked, no-borders, none-at, none-first, not-same, one-more, picked, picked-step, spots, thinned-first, thinned-none}

module _ (live : Point → Bool) (f : Function) (v : ℕ) (ms : List Mark) (b : Block) (slots : Numbers) (at : Option ℕ → Bool) where
  abbrev gaps : ℕ → List Instr → List Mark → List Edit
  gaps = gap_edits f v slots at

  abbrev own : List Instr → List Instr
  own is = filter (touches v) is

  abbrev part : ℕ → Instr → List Edit
  part label i = cond (touches v i) (part_edits f v label i) []

  -- what these marks make of a label at a gap
  abbrev behind : List Mark → Option ℕ → ℕ → ℕ
  behind gs before now = last_label now (picked (is_gap before) gs)

  -- the edits at a mark
  abbrev at_spot : ℕ → List Instr → Mark → List Mark → Spot → List Edit
  at_spot now xs m gs s = elim s [
    | Border ↦ gaps now xs gs
    | AtGap g ↦ let count = stand_before slots g.before (ids_of xs) in flat_map (part_edits f v now) (take count xs) ++ (copy_edits f g (at g.before) now m.label ++ gaps m.label (drop count xs) gs)
  ]

  -- an instruction before all gaps that are left

  next-part : (now low : ℕ) (i : Instr) (is xs : List Instr) (gs : List Mark) → IsThinned (gaps_from b is) (spots gs) → AreRising slots (number_of slots i.id) (ids_of is) → gaps now (i ∷ xs) gs ≡ part_edits f v now i ++ gaps now xs gs
  next-part now low i is xs [] t r = refl
  next-part now low i is xs (m ∷ gs) t r =
      let z : IsBehind b slots (number_of slots i.id) m.spot = gap-found b slots is (number_of slots i.id) m.spot (spots gs) t r in
      let c : ℕ = stand_before slots z.gap.before (ids_of xs) in
      let rest : List Edit = copy_edits f z.gap (at z.gap.before) now m.label ++ gaps m.label (drop c xs) gs in
      ap (at_spot now (i ∷ xs) m gs) z.at
      ∙ (ap (λ n. flat_map (part_edits f v now) (take n (i ∷ xs)) ++ (copy_edits f z.gap (at z.gap.before) now m.label ++ gaps m.label (drop n (i ∷ xs)) gs)) (one-more b slots i.id low (ids_of xs) z.gap.before z.behind)
      ∙ (append_assoc (part_edits f v now i) (flat_map (part_edits f v now) (take c xs)) rest
      ∙ ap (λ es. part_edits f v now i ++ es) (sym (ap (at_spot now xs m gs) z.at))))

  one-part : (now low : ℕ) (i : Instr) (is : List Instr) (gs : List Mark) → IsThinned (gaps_from b is) (spots gs) → AreRising slots low (ids_of (i ∷ is)) → part now i ++ gaps now (own is) gs ≡ gaps now (own (i ∷ is)) gs
  one-part now low i is gs t r = go (touches v i)
    where
      go : (u : Bool) → cond u (part_edits f v now i) [] ++ gaps now (own is) gs ≡ gaps now (cond u (i ∷ own is) (own is)) gs
      go true = sym (next-part now low i is (own is) gs t r.2)
      go false = refl

  -- labels by all marks are those by the marks that are left
  abbrev Told : List Mark → Option ℕ → Type 0
  Told gs before = (now : ℕ) → label_behind ms b.number before now ≡ behind gs before now

  -- the label changes at the gap of the first mark, and at no other gap for its sake
  own-gap : (m : Mark) (gs : List Mark) (before : Option ℕ) (now : ℕ) → AtGap (gap_of b before) ≡ m.spot → same_number before before ≡ true → picked (is_gap before) gs ≡ [] → behind (m ∷ gs) before now ≡ m.label
  own-gap m gs before now e same none = ap (last_label now) (picked-step (is_gap before) m gs true (ap (is_gap before) (sym e) ∙ same)) ∙ ap (last_label m.label) none

  other-gap : (m : Mark) (gs : List Mark) (before other : Option ℕ) (now : ℕ) → AtGap (gap_of b before) ≡ m.spot → same_number before other ≡ false → behind (m ∷ gs) other now ≡ behind gs other now
  other-gap m gs before other now e same = ap (last_label now) (picked-step (is_gap other) m gs false (ap (is_gap other) (sym e) ∙ same))

  later-number : (low : ℕ) (is : List Instr) → AreRising slots low (ids_of is) → (j : Instr) → Among j is → low < number_of slots j.id
  later-number low [] r j m = elim m [ ]
  later-number low (i ∷ is) r j here = r.0
  later-number low (i ∷ is) r j (there m) = let z : low < number_of slots i.id = r.0 in let y : number_of slots i.id < number_of slots j.id = later-number (number_of slots i.id) is r.2 j m in omega (arith, z, y)

  others : (low : ℕ) (i : Instr) (is : List Instr) → AreRising slots low (ids_of (i ∷ is)) → (j : Instr) → Among j is → nat_eq i.id j.id ≡ false
  others low i is r j m = not-same i.id j.id (λ e. let y : number_of slots i.id < number_of slots j.id = later-number (number_of slots i.id) is r.2 j m in let z : number_of slots i.id ≡ number_of slots j.id = ap (number_of slots) e in omega (arith, y, z))

  abbrev along : ℕ → List Instr → List Edit
  along now is = instr_edits live f v ms b now is

  -- at an instruction, by the label that begins there
  abbrev at_instr : ℕ → Instr → List Instr → ℕ → List Edit
  at_instr now i is to = copy_edits f (gap_of b (Some i.id)) (live (Entry i.id)) now to ++ (part to i ++ along to is)

  from-some : (low now : ℕ) (is : List Instr) (gs : List Mark) → IsThinned (gaps_from b is) (spots gs) → AreRising slots low (ids_of is)
      → ((i : Instr) → Among i is → Told gs (Some i.id)) → Told gs None → ((i : Instr) → Among i is → live (Entry i.id) ≡ at (Some i.id)) → live (last_point (Start b.number) b.instrs) ≡ at None
      → along now is ≡ gaps now (own is) gs
  from-some low now [] [] t r told last seen end = ap (copy_edits f (gap_of b None) (live (last_point (Start b.number) b.instrs)) now) (last now) ∙ copy-same f (gap_of b None) (live (last_point (Start b.number) b.instrs)) now
  from-some low now [] (m ∷ gs) t r told last seen end = go (thinned-first (AtGap (gap_of b None)) m.spot [] (spots gs) t)
    where
      l : Bool
      l = live (last_point (Start b.number) b.instrs)

      alone : (gs : List Mark) → IsThinned [] (spots gs) → gs ≡ []
      alone [] t = refl
      alone (m ∷ gs) t = absurd (thinned-none m.spot (spots gs) t)

      go : ((AtGap (gap_of b None) ≡ m.spot) × IsThinned [] (spots gs)) ⊎ IsThinned [] (m.spot ∷ spots gs) → along now [] ≡ gaps now [] (m ∷ gs)
      go (inl (e, q)) =
          let none : picked (is_gap None) gs ≡ [] = ap (picked (is_gap None)) (alone gs q) in
          ap (copy_edits f (gap_of b None) l now) (last now ∙ own-gap m gs None now e refl none)
          ∙ (ap (λ u. copy_edits f (gap_of b None) u now m.label) end
          ∙ (sym (append-nil (copy_edits f (gap_of b None) (at None) now m.label))
          ∙ (ap (λ xs. copy_edits f (gap_of b None) (at None) now m.label ++ gaps m.label [] xs) (sym (alone gs q))
          ∙ ap (at_spot now [] m gs) e)))
      go (inr q) = absurd (thinned-none m.spot (spots gs) q)
  from-some low now (i ∷ is) [] t r told last seen end =
      let to-now : label_behind ms b.number (Some i.id) now ≡ now = told i here now in
      ap (at_instr now i is) to-now
      ∙ (ap (λ es. es ++ (part now i ++ along now is)) (copy-same f (gap_of b (Some i.id)) (live (Entry i.id)) now)
      ∙ (ap (λ es. part now i ++ es) (from-some (number_of slots i.id) now is [] (all-left-out (gaps_from b is)) r.2 (λ j a. told j (there a)) last (λ j a. seen j (there a)) end)
      ∙ one-part now low i is [] (all-left-out (gaps_from b is)) r))
  from-some low now (i ∷ is) (m ∷ gs) t r told last seen end =
      go (thinned-first (AtGap (gap_of b (Some i.id))) m.spot (gaps_from b is) (spots gs) t)
      (λ h q told' last'. from-some (number_of slots i.id) h is gs q r.2 told' last' (λ j a. seen j (there a)) end)
      (λ q. from-some (number_of slots i.id) now is (m ∷ gs) q r.2 (λ j a. told j (there a)) last (λ j a. seen j (there a)) end)
    where
      g : Gap
      g = gap_of b (Some i.id)

      whole : List Instr
      whole = own (i ∷ is)

      go : ((AtGap (gap_of b (Some i.id)) ≡ m.spot) × IsThinned (gaps_from b is) (spots gs)) ⊎ IsThinned (gaps_from b is) (m.spot ∷ spots gs)
          → ((h : ℕ) → IsThinned (gaps_from b is) (spots gs) → ((j : Instr) → Among j is → Told gs (Some j.id)) → Told gs None → along h is ≡ gaps h (own is) gs)
          → (IsThinned (gaps_from b is) (m.spot ∷ spots gs) → along now is ≡ gaps now (own is) (m ∷ gs))
          → along now (i ∷ is) ≡ gaps now (own (i ∷ is)) (m ∷ gs)
      go (inl (e, q)) behind-it passed =
          let to : ℕ = m.label in
          let same : same_number (Some i.id) (Some i.id) ≡ true = eq-eqb i.id i.id refl in
          let changes : label_behind ms b.number (Some i.id) now ≡ to = told i here now ∙ own-gap m gs (Some i.id) now e same (none-at b slots i.id (number_of slots i.id) (omega arith) is gs q r.2) in
          let rest : along to is ≡ gaps to (own is) gs = behind-it to q (λ j a h. told j (there a) h ∙ other-gap m gs (Some i.id) (Some j.id) h e (others low i is r j a)) (λ h. last h ∙ other-gap m gs (Some i.id) None h e refl) in
          ap (at_instr now i is) changes
          ∙ (ap (λ es. copy_edits f g (live (Entry i.id)) now to ++ (part to i ++ es)) rest
          ∙ (ap (λ es. copy_edits f g (live (Entry i.id)) now to ++ es) (one-part to low i is gs q r)
          ∙ (ap (λ u. copy_edits f g u now to ++ gaps to whole gs) (seen i here)
          ∙ (ap (λ n. flat_map (part_edits f v now) (take n whole) ++ (copy_edits f g (at (Some i.id)) now to ++ gaps to (drop n whole) gs)) (sym (none-first b slots v low i is r))
          ∙ ap (at_spot now whole m gs) e))))
      go (inr q) behind-it passed =
          let stays : label_behind ms b.number (Some i.id) now ≡ now = told i here now ∙ ap (last_label now) (none-at b slots i.id (number_of slots i.id) (omega arith) is (m ∷ gs) q r.2) in
          ap (at_instr now i is) stays
          ∙ (ap (λ es. es ++ (part now i ++ along now is)) (copy-same f g (live (Entry i.id)) now)
          ∙ (ap (λ es. part now i ++ es) (passed q)
          ∙ one-part now low i is (m ∷ gs) q r))

  -- from the block's start

  told-picked : (gs : List Mark) → marks_in ms b.number ≡ gs → (before : Option ℕ) → Told gs before
  told-picked gs e before now = ap (last_label now) (marks-picked ms b.number (is_gap before) ∙ ap (picked (is_gap before)) e)

  start-picked : (gs : List Mark) → marks_in ms b.number ≡ gs → start_label ms b.number ≡ last_label 0 (picked is_border gs)
  start-picked gs e = ap (last_label 0) (marks-picked ms b.number is_border ∙ ap (picked is_border) e)

  pub block-is : (gs : List Mark) → marks_in ms b.number ≡ gs → IsThinned (spots_of b) (spots gs) → AreRising slots 0 (ids_of b.instrs)
      → ((i : Instr) → Among i b.instrs → live (Entry i.id) ≡ at (Some i.id)) → live (last_point (Start b.number) b.instrs) ≡ at None
      → block_edits live f v ms b ≡ gaps (first_label gs) (own b.instrs) gs
  block-is [] here-is t r seen end =
      ap (λ now. along now b.instrs) (start-picked [] here-is)
      ∙ from-some 0 0 b.instrs [] (all-left-out (gaps_from b b.instrs)) r (λ i a. told-picked [] here-is (Some i.id)) (told-picked [] here-is None) seen end
  block-is (m ∷ gs) here-is t r seen end = go (thinned-first Border m.spot (gaps_from b b.instrs) (spots gs) t)
    where
      told : (before : Option ℕ) → Told (m ∷ gs) before
      told = told-picked (m ∷ gs) here-is

      starts : start_label ms b.number ≡ last_label 0 (picked is_border (m ∷ gs))
      starts = start-picked (m ∷ gs) here-is

      zero-at : (s : Spot) (g : Gap) → s ≡ AtGap g → 0 ≡ border_label s m.label
      zero-at s g e = ap (λ x. border_label x m.label) (sym e)

      go : ((Border ≡ m.spot) × IsThinned (gaps_from b b.instrs) (spots gs)) ⊎ IsThinned (gaps_from b b.instrs) (m.spot ∷ spots gs) → block_edits live f v ms b ≡ gaps (border_label m.spot m.label) (own b.instrs) (m ∷ gs)
      go (inl (e, q)) =
          let now : ℕ = m.label in
          let first : start_label ms b.number ≡ now =
          starts ∙ (ap (last_label 0) (picked-step is_border m gs true (ap is_border (sym e))) ∙ ap (last_label now) (no-borders b slots b.instrs gs q)) in
          let skips : (before : Option ℕ) → Told gs before = (λ before h. told before h ∙ ap (last_label h) (picked-step (is_gap before) m gs false (ap (is_gap before) (sym e)))) in
          ap (λ h. along h b.instrs) first
          ∙ (from-some 0 now b.instrs gs q r (λ i a. skips (Some i.id)) (skips None) seen end
          ∙ (ap (at_spot now (own b.instrs) m gs) e
          ∙ ap (λ s. gaps (border_label s m.label) (own b.instrs) (m ∷ gs)) e))
      go (inr q) =
          let z : IsBehind b slots 0 m.spot = gap-found b slots b.instrs 0 m.spot (spots gs) q r in
          let first : start_label ms b.number ≡ border_label m.spot m.label =
          starts ∙ (ap (last_label 0) (no-borders b slots b.instrs (m ∷ gs) q) ∙ zero-at m.spot z.gap z.at) in
          ap (λ h. along h b.instrs) first
          ∙ from-some 0 (border_label m.spot m.label) b.instrs (m ∷ gs) q r (λ i a. told (Some i.id)) (told None) seen end
