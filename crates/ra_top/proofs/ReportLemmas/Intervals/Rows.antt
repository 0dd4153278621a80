-- Texts that are put together part by part.
use Rattle.std.proofs.Common.{◌≡◌, ◌≤◌, ◌<◌, ℕ, zero, suc, ◌+◌, ◌-◌, List, [], ◌∷◌, ◌++◌, length, map, take, drop, get_or, Option, None, Some, refl, sym, ap, ◌∙◌, arith, append_assoc, append-nil}
use Rattle.std.specs.Prelude.{slice_get, option_map, option_to_list}
use Rattle.std.specs.List.{flat_map, filter_map, cons_option}
use Rattle.std.proofs.lemmas.List.{drop_more}
use Rattle.mir_func.specs.declared.func.Instr.{Instr}
use Rattle.mir_func.specs.declared.func.Block.{Block}
use Rattle.mir_meaning.specs.Registers.{numbers}
use Rattle.instr_effects.proofs.ItemLemmas.Numbers.{numbers_step}
use Rattle.live_lanes.specs.declared.row.Cell.{Cell}
use Rattle.live_lanes.specs.Table.{Numbers}
use Rattle.live_lanes.specs.Extents.{cell_extents}
use Rattle.interval_laws.specs.Told.{start_number, extent_segment, cell_segments, cells_segments}
use Rattle.ra_top.specs.Report.Intervals.Lines.{segment_text}
use Rattle.ra_top.specs.Report.Intervals.Told.{extents_of, place_segments}

pub flat-append : {X Y : Type 0} (g : X → List Y) (xs ys : List X) → flat_map g (xs ++ ys) ≡ flat_map g xs ++ flat_map g ys
flat-append g [] ys = refl
flat-append g (x ∷ xs) ys = ap (λ zs. g x ++ zs) (flat-append g xs ys) ∙ sym (append_assoc (g x) (flat_map g xs) (flat_map g ys))

pub flat-mapped : {X Y Z : Type 0} (g : Y → List Z) (f : X → Y) (xs : List X) → flat_map g (map f xs) ≡ flat_map (λ x. g (f x)) xs
flat-mapped g f [] = refl
flat-mapped g f (x ∷ xs) = ap (λ zs. g (f x) ++ zs) (flat-mapped g f xs)

pub flat-filtered : {X Y Z : Type 0} (g : Y → List Z) (f : X → Option Y) (xs : List X) → flat_map g (filter_map f xs) ≡ flat_map (λ x. flat_map g (option_to_list (f x))) xs
flat-filtered g f [] = refl
flat-filtered {X} {Y} {Z} g f (x ∷ xs) = go (f x) (flat-filtered g f xs)
  where
    go : (o : Option Y) → flat_map g (filter_map f xs) ≡ flat_map (λ y. flat_map g (option_to_list (f y))) xs → flat_map g (cons_option o (filter_map f xs)) ≡ flat_map g (option_to_list o) ++ flat_map (λ y. flat_map g (option_to_list (f y))) xs
    go None ih = ih
    go (Some y) ih = ap (λ zs. g y ++ zs) ih ∙ sym (append_assoc (g y) [] (flat_map (λ z. flat_map g (option_to_list (f z))) xs))

-- numbers from k on up to n

pub number-more : (g : ℕ → List ℕ) (k n : ℕ) (out more : List ℕ) → k < n → more ≡ out ++ g k → more ++ flat_map g (numbers (k + 1) (n - (k + 1))) ≡ out ++ flat_map g (numbers k (n - k))
number-more g k n out more within e =
    ap (λ xs. xs ++ flat_map g (numbers (k + 1) (n - (k + 1)))) e
    ∙ append_assoc out (g k) (flat_map g (numbers (k + 1) (n - (k + 1))))
    ∙ ap (λ xs. out ++ flat_map g xs) (sym (numbers_step k n within))

pub number-none : (g : ℕ → List ℕ) (k n : ℕ) (out : List ℕ) → n ≤ k → out ++ flat_map g (numbers k (n - k)) ≡ out
number-none g k n out le = ap (λ m. out ++ flat_map g (numbers k m)) (let z : n - k ≡ 0 = omega (arith, le) in z) ∙ append-nil out

pub number-all : (g : ℕ → List ℕ) (n : ℕ) → flat_map g (numbers 0 (n - 0)) ≡ flat_map g (numbers 0 n)
number-all g n = ap (λ m. flat_map g (numbers 0 m)) (omega arith)

-- the cells of a lane, the last one first

module _ (slots : Numbers) (bs : List Block) where
  cell-more : (cs : List Cell) (p : ℕ) → p < length cs → cells_segments slots bs (take (suc p) cs) ≡ place_segments slots bs (slice_get cs p) ++ cells_segments slots bs (take p cs)
  cell-more [] p lt = absurd (omega (arith, lt))
  cell-more (c ∷ cs) zero lt = sym (append-nil (cell_segments slots bs c))
  cell-more (c ∷ cs) (suc p) lt =
      ap (λ xs. xs ++ cell_segments slots bs c) (cell-more cs p (omega (arith, lt)))
      ∙ append_assoc (place_segments slots bs (slice_get cs p)) (cells_segments slots bs (take p cs)) (cell_segments slots bs c)

  pub cells-more : (cs : List Cell) (back : ℕ) (out more : List ℕ) → back < length cs → more ≡ out ++ flat_map segment_text (place_segments slots bs (slice_get cs (length cs - 1 - back))) → more ++ flat_map segment_text (cells_segments slots bs (take (length cs - (back + 1)) cs)) ≡ out ++ flat_map segment_text (cells_segments slots bs (take (length cs - back) cs))
  cells-more cs back out more lt e =
      ap (λ xs. xs ++ flat_map segment_text (cells_segments slots bs (take (length cs - (back + 1)) cs))) e
      ∙ append_assoc out (flat_map segment_text (place_segments slots bs (slice_get cs (length cs - 1 - back)))) (flat_map segment_text (cells_segments slots bs (take (length cs - (back + 1)) cs)))
      ∙ ap (λ n. out ++ (flat_map segment_text (place_segments slots bs (slice_get cs (length cs - 1 - back))) ++ flat_map segment_text (cells_segments slots bs (take n cs)))) (let z : length cs - (back + 1) ≡ length cs - 1 - back = omega (arith, lt) in z)
      ∙ ap (λ xs. out ++ xs) (sym (flat-append segment_text (place_segments slots bs (slice_get cs (length cs - 1 - back))) (cells_segments slots bs (take (length cs - 1 - back) cs))))
      ∙ ap (λ xs. out ++ flat_map segment_text xs) (sym (cell-more cs (length cs - 1 - back) (omega (arith, lt))))
      ∙ ap (λ n. out ++ flat_map segment_text (cells_segments slots bs (take n cs))) (let z : suc (length cs - 1 - back) ≡ length cs - back = omega (arith, lt) in z)

  take-all : (cs : List Cell) → take (length cs) cs ≡ cs
  take-all [] = refl
  take-all (c ∷ cs) = ap (λ xs. c ∷ xs) (take-all cs)

  pub cells-all : (cs : List Cell) → flat_map segment_text (cells_segments slots bs (take (length cs - 0) cs)) ≡ flat_map segment_text (cells_segments slots bs cs)
  cells-all cs = ap (λ n. flat_map segment_text (cells_segments slots bs (take n cs))) (let z : length cs - 0 ≡ length cs = omega arith in z) ∙ ap (λ xs. flat_map segment_text (cells_segments slots bs xs)) (take-all cs)

  pub cells-none : (cs : List Cell) (back : ℕ) (out : List ℕ) → length cs ≤ back → out ++ flat_map segment_text (cells_segments slots bs (take (length cs - back) cs)) ≡ out
  cells-none cs back out le = ap (λ n. out ++ flat_map segment_text (cells_segments slots bs (take n cs))) (let z : length cs - back ≡ 0 = omega (arith, le) in z) ∙ go cs
    where
      go : (cs : List Cell) → out ++ flat_map segment_text (cells_segments slots bs (take 0 cs)) ≡ out
      go [] = append-nil out
      go (c ∷ cs) = append-nil out

-- a row of texts, where a list is gone through by its places
pub row-more : {A : Type 0} (text : ℕ → A → List ℕ) (whole : ℕ → List A → List ℕ) → ((k : ℕ) (a : A) (rest : List A) → whole k (a ∷ rest) ≡ text k a ++ whole (suc k) rest) → (k : ℕ) (xs : List A) (d a : A) (out more : List ℕ) → k < length xs → a ≡ get_or xs k d → more ≡ out ++ text k a → more ++ whole (k + 1) (drop (k + 1) xs) ≡ out ++ whole k (drop k xs)
row-more text whole by k xs d a out more within at e =
    ap (λ ys. ys ++ whole (k + 1) (drop (k + 1) xs)) e
    ∙ append_assoc out (text k a) (whole (k + 1) (drop (k + 1) xs))
    ∙ (let one : k + 1 ≡ suc k = omega arith in ap (λ n. out ++ (text k a ++ whole n (drop (k + 1) xs))) one)
    ∙ ap (λ ys. out ++ ys) (sym (by k a (drop (k + 1) xs)))
    ∙ ap (λ ys. out ++ whole k ys) (sym (drop_more xs k d within ∙ ap (λ x. x ∷ drop (k + 1) xs) (sym at)))

pub drop-none : {A : Type 0} (k : ℕ) (xs : List A) → length xs ≤ k → drop k xs ≡ []
drop-none zero [] le = refl
drop-none (suc k) [] le = refl
drop-none zero (x ∷ xs) le = absurd (omega (arith, le))
drop-none (suc k) (x ∷ xs) le = drop-none k xs (omega (arith, le))

-- the extents of a cell of a block, as segments
pub cell-text : (slots : Numbers) (bs : List Block) (o : Option Cell) (number start end : ℕ) (b : Block) (is : List Instr) → ◌≡◌ {A = Option ℕ} (Some number) (option_map (λ c. c.block) o) → slice_get bs number ≡ Some b → is ≡ b.instrs → start ≡ start_number bs number → end ≡ start_number bs (suc number) → flat_map (λ e. segment_text (extent_segment slots start end is e)) (extents_of o) ≡ flat_map segment_text (place_segments slots bs o)
cell-text slots bs None number start end b is h at own first last = absurd (cc)
cell-text slots bs (Some c) number start end b is h at own first last =
    let here : number ≡ c.block = cc in
    ap (λ xs. flat_map (λ e. segment_text (extent_segment slots start end xs e)) (cell_extents c)) own
    ∙ ap (λ n. flat_map (λ e. segment_text (extent_segment slots n end b.instrs e)) (cell_extents c)) first
    ∙ ap (λ n. flat_map (λ e. segment_text (extent_segment slots (start_number bs number) n b.instrs e)) (cell_extents c)) last
    ∙ sym (flat-mapped segment_text (extent_segment slots (start_number bs number) (start_number bs (suc number)) b.instrs) (cell_extents c))
    ∙ sym (ap (λ (q : Option Block). flat_map segment_text (elim q [ None ↦ [] | Some d ↦ map (extent_segment slots (start_number bs number) (start_number bs (suc number)) d.instrs) (cell_extents c) ])) at)
    ∙ ap (λ n. flat_map segment_text (elim (slice_get bs n) [ None ↦ [] | Some d ↦ map (extent_segment slots (start_number bs n) (start_number bs (suc n)) d.instrs) (cell_extents c) ])) here
