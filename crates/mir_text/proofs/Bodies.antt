-- The lines of a body, and the function of what is read.
use Rattle.std.proofs.Common.{◌≡◌, ℕ, List, Some, None, Ok, true, false, refl, ap, sym, ◌∙◌}
use Rattle.std.specs.Prelude.{Option, is_some, option_map, codes}
use Rattle.target_base.specs.declared.types.Target.{Target}
use Rattle.target_base.specs.declared.types.ClassId.{ClassId}
use Rattle.mir_func.specs.Value.{Function}
use Rattle.mir_lines.specs.Bytes.{is_word, behind_word}
use Rattle.mir_lines.specs.Blocks.{or_none}
use Rattle.mir_lines.specs.declared.raw.RawHeader.{RawHeader}
use Rattle.mir_read.specs.declared.ranges.Ranges.{Ranges}
use Rattle.mir_read.specs.declared.resolve.Headers.{Headers}
use Rattle.mir_read.specs.Resolving.{noted}
use Rattle.mir_read.specs.declared.keys.Keys.{Keys}
use Rattle.mir_read.specs.Names.{NameLists}
use Rattle.mir_read.specs.Ranges.{classes_of}
use Rattle.mir_read.specs.Body.{BodyValue, is_begun, closed, with_header}
use Rattle.mir_text.specs.declared.document.State.TheVariants as states
use Rattle.mir_text.specs.declared.reading.BodyReader.{BodyReader}
use Rattle.mir_text.specs.BodyLines.{worded, header_put, successors_line, liveins_line, instr_line, body_line, function_of}
use Rattle.mir_text.specs.Document.{body_or_end, end_line}

pub some_of : {A B : Type 0} (f : A → B) (o : Option A) → is_some (option_map f o) ≡ is_some o
some_of f None = refl
some_of f (Some x) = refl

module _ (t : Target) (names : NameLists) (r : BodyReader) (text : List ℕ) where
  pub worded_successors : (list : List ℕ) → is_some (behind_word (codes "bb.") text) ≡ false → Some list ≡ behind_word (codes "successors:") text → worded t names r text ≡ successors_line r list
  unfolding worded
  worded_successors list a b = rw (a, sym b) refl

  pub worded_liveins : (list : List ℕ) → is_some (behind_word (codes "bb.") text) ≡ false → None ≡ behind_word (codes "successors:") text → Some list ≡ behind_word (codes "liveins:") text → worded t names r text ≡ liveins_line names r list
  unfolding worded
  worded_liveins list a b d = rw (a, sym b, sym d) refl

  pub worded_instr : is_some (behind_word (codes "bb.") text) ≡ false → None ≡ behind_word (codes "successors:") text → None ≡ behind_word (codes "liveins:") text → worded t names r text ≡ instr_line t names r text
  unfolding worded
  worded_instr a b d = rw (a, sym b, sym d) refl

-- behind the header of a block
pub header_is : (t : Target) (r : BodyReader) (h : RawHeader) (k : Keys) (ranges : Ranges) (hs : Headers) (b : BodyValue) → k ≡ r.keys → ranges ≡ r.ranges → hs ≡ noted r.headers h.number h.name → b ≡ with_header t r.body h → record { keys = k; ranges = ranges; headers = hs; body = b } ≡ header_put t r h
unfolding header_put
header_is t r h k ranges hs b d e n m = λ i. record { keys = d i; ranges = e i; headers = n i; body = m i }

-- the parts of the function
pub function_is : (r : BodyReader) (k : Keys) (b c : BodyValue) (name : List ℕ) (classes : List (Option ClassId)) → k ≡ r.keys → b ≡ c → name ≡ or_none k.name → classes ≡ classes_of r.ranges → record { name = name; head = k.head; classes = classes; frames = k.frames; blocks = b.done; next_id = b.next_id } ≡ function_of r c
unfolding function_of
function_is r k b c name classes q e n m = λ i. record { name = (n ∙ ap (λ (x : Keys). or_none x.name) q) i; head = (q i).head; classes = m i; frames = (q i).frames; blocks = (e i).done; next_id = (e i).next_id }

module _ (t : Target) (names : NameLists) (before : List ℕ) (r : BodyReader) (line : List ℕ) where
  -- behind the end of a document
  pub ends_here : (f : Function) (shown : List ℕ) → shown ≡ before → is_word line (codes "...") ≡ true → is_begun r.body ≡ true → f ≡ function_of r (closed t r.body None) → body_or_end t names before r line ≡ Ok (states.Function shown f)
  unfolding body_or_end end_line
  ends_here f shown o a b e = rw (a, b) (λ i. Ok (states.Function (sym o i) (sym e i)))

  -- behind a line of the body
  pub body_goes : (s : BodyReader) (shown : List ℕ) → shown ≡ before → is_word line (codes "...") ≡ false → body_line t names r line ≡ Ok s → body_or_end t names before r line ≡ Ok (states.Body shown s)
  unfolding body_or_end
  body_goes s shown o a b = rw (a, b) (λ i. Ok (states.Body (sym o i) s))
