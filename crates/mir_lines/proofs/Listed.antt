-- Lists that are read element by element, in a loop.
use Rattle.std.proofs.Common.{◌≡◌, ℕ, zero, suc, inl, inr, ◌<◌, ◌≤◌, List, [], ◌∷◌, ◌++◌, length, Some, None, true, false, refl, ◌∙◌, append_assoc, append-nil, arith}
use Rattle.std.specs.Prelude.{Option}
use Rattle.mir_lines.specs.Reads.{before, onto, Fails}
use Rattle.mir_lines.specs.declared.stop.LineStop.{LineStop}
use Rattle.mir_lines.specs.declared.stop.LineStop.TheVariants as stops
use Rattle.target_base.specs.declared.types.TextOptions.{TextOptions}
use Rattle.mir_lines.specs.declared.raw.RawOperand.{RawOperand}
use Rattle.mir_lines.specs.declared.instructions.OperandSide.{OperandSide}
use Rattle.mir_lines.specs.Instructions.{element_at, chained, elements_at}
use Rattle.mir_lines.specs.Bytes.{is_word_byte, run, behind, skip}
use Rattle.mir_lines.specs.Registers.{is_flag_ahead, continues, words_from}

pub onto_more : {X Y : Type 0} (made : List X) (x : X) (rest : Option (List X × Y)) → onto made (before x rest) ≡ onto (made ++ x ∷ []) rest
onto_more made x None = refl
onto_more made x (Some p) = simp append_assoc

pub onto_nothing : {X Y : Type 0} (rest : Option (List X × Y)) → rest ≡ onto [] rest
onto_nothing None = refl
onto_nothing (Some p) = refl

pub onto_end : {X Y : Type 0} (made : List X) (y : Y) → onto made (Some ([], y)) ≡ Some (made, y)
onto_end made y = simp append-nil

-- words so far, and as many bytes as words may still come
pub record WordsGo (whole : Option (List (List ℕ) × List ℕ)) (made : List (List ℕ)) (text : List ℕ) : Type 0 where
  pub room : ℕ
  pub enough : length text ≤ room
  pub same : whole ≡ onto made (words_from room text)

pub words_begin : (text : List ℕ) → WordsGo (words_from (length text) text) [] text
words_begin text = record { room = length text; enough = omega arith; same = onto_nothing (words_from (length text) text) }

ends_at : (room : ℕ) (whole : Option (List (List ℕ) × List ℕ)) (made : List (List ℕ)) (text : List ℕ) → whole ≡ onto made (words_from room text) → is_flag_ahead text ≡ false → whole ≡ Some (made, text)
ends_at zero whole made text e h = e ∙ onto_end made text
ends_at (suc n) whole made text e h = e ∙ rw h (onto_end made text)

-- no word comes next
pub words_end : (whole : Option (List (List ℕ) × List ℕ)) (made : List (List ℕ)) (text : List ℕ) → WordsGo whole made text → is_flag_ahead text ≡ false → whole ≡ Some (made, text)
words_end whole made text go h = ends_at go.room whole made text go.same h

goes_at : (room : ℕ) (whole : Option (List (List ℕ) × List ℕ)) (made : List (List ℕ)) (text : List ℕ) → length text ≤ room → whole ≡ onto made (words_from room text) → is_flag_ahead text ≡ true → continues (behind is_word_byte text) ≡ false → length (skip (behind is_word_byte text)) < length text → WordsGo whole (made ++ run is_word_byte text ∷ []) (skip (behind is_word_byte text))
goes_at zero whole made text enough e h k shorter = absurd (omega arith)
goes_at (suc n) whole made text enough e h k shorter = record {
  room = n;
  enough = omega arith;
  same = e ∙ rw (h, k) (onto_more made (run is_word_byte text) (words_from n (skip (behind is_word_byte text))));
}

-- one more word
pub words_go : (whole : Option (List (List ℕ) × List ℕ)) (made : List (List ℕ)) (text : List ℕ) → WordsGo whole made text → (word after next : List ℕ) (new : List (List ℕ)) → word ≡ run is_word_byte text → after ≡ behind is_word_byte text → next ≡ skip after → new ≡ made ++ word ∷ [] → is_flag_ahead text ≡ true → continues after ≡ false → length next < length text → WordsGo whole new next
words_go whole made text go word after next new a b d e h k shorter =
    rw (e, d, b, a) (goes_at go.room whole made text go.enough go.same h (rw b at k) (rw (d, b) at shorter))

stops_at : (room : ℕ) (whole : Option (List (List ℕ) × List ℕ)) (made : List (List ℕ)) (text : List ℕ) → length text ≤ room → whole ≡ onto made (words_from room text) → is_flag_ahead text ≡ true → continues (behind is_word_byte text) ≡ true → 0 < length text → whole ≡ None
stops_at zero whole made text enough e h k some = absurd (omega arith)
stops_at (suc n) whole made text enough e h k some = e ∙ rw (h, k) refl

-- a word that is spelled wrongly
pub words_stop : (whole : Option (List (List ℕ) × List ℕ)) (made : List (List ℕ)) (text : List ℕ) → WordsGo whole made text → is_flag_ahead text ≡ true → continues (behind is_word_byte text) ≡ true → 0 < length text → whole ≡ None
words_stop whole made text go h k some = stops_at go.room whole made text go.enough go.same h k some

-- elements so far, and more bytes than elements may still come
pub record ElementsGo (options : TextOptions) (part : OperandSide) (whole : Option (List RawOperand × List ℕ)) (made : List RawOperand) (text : List ℕ) : Type 0 where
  pub room : ℕ
  pub enough : length text < room
  pub same : whole ≡ onto made (chained options part room text)

pub elements_begin : (options : TextOptions) (part : OperandSide) (made : List RawOperand) (text : List ℕ) → ElementsGo options part (onto made (elements_at options part text)) made text
unfolding elements_at
elements_begin options part made text = record { room = suc (length text); enough = omega arith; same = refl }

module _ (options : TextOptions) (part : OperandSide) (whole : Option (List RawOperand × List ℕ)) (made : List RawOperand) (text : List ℕ) where
  fails_at : (room : ℕ) (stop : LineStop) → length text < room → whole ≡ onto made (chained options part room text) → Fails stop (element_at options part text) → Fails stop whole
  fails_at zero stop enough e h = absurd (omega arith)
  fails_at (suc n) stops.Token enough e h = e ∙ rw h refl
  fails_at (suc n) (stops.Memory m) enough e h = tt

  ended_at : (room : ℕ) (o : RawOperand) (rest : List ℕ) → length text < room → whole ≡ onto made (chained options part room text) → element_at options part text ≡ Some (o, inl rest) → whole ≡ Some (made ++ o ∷ [], rest)
  ended_at zero o rest enough e h = absurd (omega arith)
  ended_at (suc n) o rest enough e h = e ∙ rw h refl

  more_at : (room : ℕ) (o : RawOperand) (next : List ℕ) → length text < room → whole ≡ onto made (chained options part room text) → element_at options part text ≡ Some (o, inr next) → length next < length text → ElementsGo options part whole (made ++ o ∷ []) next
  more_at zero o next enough e h shorter = absurd (omega arith)
  more_at (suc n) o next enough e h shorter = record {
    room = n;
    enough = omega arith;
    same = e ∙ rw h (onto_more made o (chained options part n next));
  }

-- an element that is spelled wrongly
pub elements_fail : (options : TextOptions) (part : OperandSide) (whole : Option (List RawOperand × List ℕ)) (made : List RawOperand) (text : List ℕ) → ElementsGo options part whole made text → (stop : LineStop) → Fails stop (element_at options part text) → Fails stop whole
elements_fail options part whole made text go stop h = fails_at options part whole made text go.room stop go.enough go.same h

-- the last element
pub elements_end : (options : TextOptions) (part : OperandSide) (whole : Option (List RawOperand × List ℕ)) (made : List RawOperand) (text : List ℕ) → ElementsGo options part whole made text → (o : RawOperand) (rest : List ℕ) → element_at options part text ≡ Some (o, inl rest) → whole ≡ Some (made ++ o ∷ [], rest)
elements_end options part whole made text go o rest h = ended_at options part whole made text go.room o rest go.enough go.same h

-- one more element
pub elements_go : (options : TextOptions) (part : OperandSide) (whole : Option (List RawOperand × List ℕ)) (made : List RawOperand) (text : List ℕ) → ElementsGo options part whole made text → (o : RawOperand) (next : List ℕ) → element_at options part text ≡ Some (o, inr next) → length next < length text → ElementsGo options part whole (made ++ o ∷ []) next
elements_go options part whole made text go o next h shorter = more_at options part whole made text go.room o next go.enough go.same h shorter
