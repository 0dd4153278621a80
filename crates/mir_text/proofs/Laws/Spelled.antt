-- A function that a document spells has only classes of its target.
use Rattle.std.proofs.Common.{◌≡◌, ◌+◌, ℕ, List, [], ◌∷◌, ◌++◌, Option, Some, None, Result, Ok, Err, Bool, refl, subst, arith}
use Rattle.std.specs.Prelude.{IfOk, IfSome, codes, ◌||◌, ◌&&◌, is_some}
use Rattle.target_base.specs.declared.types.Target.{Target}
use Rattle.mir_lines.specs.Bytes.{is_blank, is_word, skip_back, behind_word}
use Rattle.mir_read.specs.declared.stop.TextKind.{TextKind}
use Rattle.mir_read.specs.declared.stop.TextKind.TheVariants as kinds
use Rattle.mir_read.specs.declared.keys.Key.{Key}
use Rattle.mir_read.specs.declared.keys.Key.TheVariants as key
use Rattle.mir_read.specs.declared.keys.Keys.{Keys}
use Rattle.mir_read.specs.Names.{name_lists}
use Rattle.mir_read.specs.Keys.{no_keys, key_line}
use Rattle.mir_read.specs.Body.{BodyValue, is_begun, closed}
use Rattle.mir_text.specs.declared.doc.TextFault.{TextFault}
use Rattle.mir_text.specs.declared.doc.Doc.{Doc}
use Rattle.mir_text.specs.declared.doc.Doc.TheVariants as docs
use Rattle.mir_text.specs.BodyLines.{reading_of, body_line, function_of}
use Rattle.mir_text.specs.Document.{lines, end_line, body_or_end, keys_or_body, with_key_line, begins_comment, outside_line, ir_line, line_after, ended, at_end, then_at, lines_after, document_of}
use Rattle.mir_text.specs.Laws.{AreClasses, ClassesLaw, FewLaw}
use Rattle.mir_text.proofs.Laws.Types.{Reading, State}
use Rattle.mir_text.proofs.Laws.Given.{class-given}
use Rattle.mir_text.proofs.Laws.Looked.{bind-ok, either-ok}
use Rattle.mir_text.proofs.Laws.Keyed.{KeysGive, key-line-gives}
use Rattle.mir_text.proofs.Laws.Lines.{ReadingGives, body-line-gives}

-- the document's function, if it is one, has only classes of the target
abbrev DocFits : Target → Doc → Type 0
DocFits t (docs.Ir text) = Unit {0}
DocFits t (docs.Function before f) = AreClasses t f
DocFits t (docs.Rest text) = Unit {0}

-- What a state makes of a line, where registers are given only classes of the target so far.
data Goes (t : Target) (first : Bool) (s : State) : Type 0 where
  outside : ((line : List ℕ) → (before : List ℕ) × (line_after t (name_lists t) first s line ≡ outside_line first before line)) → Goes t first s
  ir : ((line : List ℕ) → line_after t (name_lists t) first s line ≡ ir_line line) → Goes t first s
  keys : (before : List ℕ) (k : Keys) → KeysGive t k → ((line : List ℕ) → line_after t (name_lists t) first s line ≡ with_key_line (name_lists t) before k line) → Goes t first s
  body : (before : List ℕ) (r : Reading) → ReadingGives t r → ((line : List ℕ) → line_after t (name_lists t) first s line ≡ body_or_end t (name_lists t) before r line) → Goes t first s
  whole : ((line : List ℕ) → line_after t (name_lists t) first s line ≡ Err kinds.Layout) → Goes t first s

-- the same, and if the state is that of a whole function, the function has only classes of the target
record Fits (t : Target) (first : Bool) (s : State) : Type 0 where
  goes : Goes t first s
  ends : (bytes : List ℕ) → IfSome (ended bytes s) (DocFits t)

module _ (t : Target) (first : Bool) where
  function-fits : (r : Reading) (b : BodyValue) → ReadingGives t r → AreClasses t (function_of r b)
  unfolding function_of
  function-fits r b g v c e = class-given t r.ranges.given v c g.ranges e

  end-fits : (before : List ℕ) (r : Reading) → ReadingGives t r → IfOk (end_line t before r) (Fits t first)
  unfolding end_line line_after ended
  end-fits before r g =
      either-ok (is_begun r.body) _ (Err kinds.Layout) (Fits t first)
      (record { goes = whole (λ line. refl); ends = λ bytes. function-fits r (closed t r.body None) g })
      tt

  body-fits : (before : List ℕ) (r : Reading) (line : List ℕ) → ReadingGives t r → IfOk (body_or_end t (name_lists t) before r line) (Fits t first)
  unfolding body_or_end line_after ended
  body-fits before r line g =
      either-ok (is_word line (codes "...")) (end_line t before r) _ (Fits t first) (end-fits before r g)
      (bind-ok (body_line t (name_lists t) r line) _ (ReadingGives t) (Fits t first) (body-line-gives t r line g) (λ s h. record { goes = body before s h (λ l. refl); ends = λ bytes. tt }))

  -- behind a line before the body, whatever key it belongs to
  begun-fits : (before : List ℕ) (k : Keys) (at : Key) → KeysGive t k → Fits t first (keys_or_body before (record k { key = at }))
  unfolding line_after ended
  begun-fits before k key.Body h = record { goes = body before (reading_of (record k { key = key.Body })) (record { keys = h; ranges = tt }) (λ l. refl); ends = λ bytes. tt }
  begun-fits before k at h = record { goes = keys before (record k { key = at }) h (λ l. refl); ends = λ bytes. tt }

  keys-fit : (before : List ℕ) (k : Keys) (line : List ℕ) → KeysGive t k → IfOk (with_key_line (name_lists t) before k line) (Fits t first)
  keys-fit before k line h = bind-ok (key_line (name_lists t) k line) _ (KeysGive t) (Fits t first) (key-line-gives t k line h) (λ l i. begun-fits before l l.key i)

  outside-fits : (before line : List ℕ) → IfOk (outside_line first before line) (Fits t first)
  unfolding outside_line line_after ended
  outside-fits before line =
      either-ok (is_blank line || begins_comment line) _ _ (Fits t first)
      (record { goes = outside (λ l. (before ++ (line ++ codes "\n"), refl)); ends = λ bytes. tt })
      (either-ok (is_word (skip_back line) (codes "---")) _ _ (Fits t first) (begun-fits before no_keys key.Outside tt)
      (either-ok (first && is_word (skip_back line) (codes "--- |")) _ (Err kinds.Layout) (Fits t first) (record { goes = ir (λ l. refl); ends = λ bytes. tt }) tt))

  ir-fits : (line : List ℕ) → IfOk (ir_line line) (Fits t first)
  unfolding ir_line line_after ended
  ir-fits line =
      either-ok (is_word line (codes "...")) _ _ (Fits t first) (record { goes = whole (λ l. refl); ends = λ bytes. tt })
      (either-ok (is_blank line || is_some (behind_word (codes " ") line)) _ (Err kinds.Layout) (Fits t first) (record { goes = ir (λ l. refl); ends = λ bytes. tt }) tt)

  line-fits : (s : State) (line : List ℕ) → Goes t first s → IfOk (line_after t (name_lists t) first s line) (Fits t first)
  line-fits s line (outside f) = rw (f line).1 (outside-fits (f line).0 line)
  line-fits s line (ir f) = rw (f line) (ir-fits line)
  line-fits s line (keys before k h f) = rw (f line) (keys-fit before k line h)
  line-fits s line (body before r g f) = rw (f line) (body-fits before r line g)
  line-fits s line (whole f) = rw (f line) tt

  end-of : (n : ℕ) (d : Option Doc) → IfSome d (DocFits t) → IfOk (at_end n d) (DocFits t)
  end-of n None h = tt
  end-of n (Some d) h = h

  then-fits : (n : ℕ) (r : Result State TextKind) (go : State → Result Doc TextFault) → IfOk r (Fits t first) → ((s : State) → Fits t first s → IfOk (go s) (DocFits t)) → IfOk (then_at n r go) (DocFits t)
  then-fits n (Ok s) go h g = g s h
  then-fits n (Err kind) go h g = tt

  -- behind any lines
  lines-fit : (bytes : List ℕ) (n : ℕ) (s : State) (ls : List (List ℕ)) → Fits t first s → IfOk (lines_after t first bytes n s ls) (DocFits t)
  unfolding lines_after
  lines-fit bytes n s [] h = end-of n (ended bytes s) (h.ends bytes)
  lines-fit bytes n s (line ∷ more) h = then-fits n (line_after t (name_lists t) first s line) _ (line-fits s line h.goes) (λ a i. lines-fit bytes (n + 1) a more i)

  document-fits : (n : ℕ) (bytes : List ℕ) → IfOk (document_of t first n bytes) (DocFits t)
  unfolding line_after ended
  document-fits n bytes = lines-fit bytes n _ (lines bytes) (record { goes = outside (λ l. ([], refl)); ends = λ b. tt })

pub classes-law : ClassesLaw
classes-law t first n bytes before f e = subst (λ r. IfOk r (DocFits t)) e (document-fits t first n bytes)

pub few-law : FewLaw
few-law n f h le = omega (arith, h.ranges, le)
