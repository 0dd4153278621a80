-- One step of the walk of the command's parser, at any word.
use Rattle.std.proofs.Common.{◌≡◌, ℕ, ◌==◌, List, [], ◌∷◌, ◌++◌, Bool, true, false, Option, Some, None, option_map, option_and_then, refl, ap, codes, cond, arith}
use Rattle.std.specs.Prelude.{slice_get}
use Rattle.std.specs.Str.{IsUtf8, chars, bytes_eq, encode_utf8_all}
use Rattle.std.proofs.lemmas.Str.{IsUtf8-drop, IsCharBoundary-after_ascii, encodes-chars}
use Rattle.std.proofs.lemmas.Bool.{eqb-true}
use Rattle.clap.specs.Lexer.{long_of, long_of_rest, short_of, short_of_rest, strip_byte}
use Rattle.clap.specs.Simple.{Shape, built}
use Rattle.clap.specs.Walk.{Held, Row, Text, Waiting, Walk, idle, positional, walked}
use Rattle.clap.specs.Faults.{bundle_fault, flag_word_fault, flags_fault, turn_fault}
use Rattle.clap.specs.declared.builder.value_parser.Reading.TheVariants.{AsWritten}
use Rattle.clap.specs.declared.error.kind.ErrorKind.TheVariants as kind
use Rattle.clap.specs.declared.parser.matches.ValueSource.TheVariants.{CommandLine}
use Rattle.ra_top.specs.Words.Parser.{parser}
use Rattle.ra_top.specs.Words.Words.{is_option}

abbrev pub shape : Shape
shape = (built parser).top

-- the row of the argument, with these values
abbrev pub rows_with : List Text → List Row
rows_with [] = []
rows_with (v ∷ vs) = record {
  id = codes "words";
  values = v ∷ vs;
  count = None;
  source = Some CommandLine;
  reading = AsWritten;
} ∷ []

-- a positional waits once a word was taken
abbrev pub waits : Option Text → Waiting
waits None = idle
waits (Some v) = positional

abbrev pub held : Option Text → List Text → Held
held last vs = record { rows = rows_with vs; pending = option_map (λ v. (codes "words", v ∷ [])) last; skip = 0 }

-- the walk behind the values vs and the last word taken, which is still pending
abbrev pub at : Bool → Option Text → List Text → Walk
at trailing last vs = record {
  held = held last vs;
  waiting = waits last;
  position = 1;
  is_trailing = trailing;
  stopped = None;
}

-- the words taken so far
abbrev pub taken : Option Text → List Text → List Text
taken None vs = vs
taken (Some v) vs = vs ++ v ∷ []

-- behind `--` each word is a value
pub takes_trailing : (last : Option Text) (vs : List Text) (w : Text) → walked shape.rules [] (at true last vs) w ≡ at true (Some w) (taken last vs)
unfolding walked
takes_trailing None vs w = refl
takes_trailing (Some v) [] w = refl
takes_trailing (Some v) (x ∷ xs) w = refl

pub trailing_well : (last : Option Text) (vs : List Text) (w : Text) → turn_fault shape [] (at true last vs) w ≡ []
trailing_well None vs w = refl
trailing_well (Some v) vs w = refl

-- `--`
pub begins_trailing : (last : Option Text) (vs : List Text) (w : Text) → bytes_eq w (codes "--") ≡ true → walked shape.rules [] (at false last vs) w ≡ at true last vs
unfolding walked
begins_trailing None vs w e = rw e refl
begins_trailing (Some v) vs w e = rw e refl

pub dashes_well : (last : Option Text) (vs : List Text) (w : Text) → bytes_eq w (codes "--") ≡ true → turn_fault shape [] (at false last vs) w ≡ []
dashes_well None vs w e = rw e refl
dashes_well (Some v) vs w e = rw e refl

-- a word that is no option is no flag
one_byte : (b : Bool) → option_and_then (strip_byte 45) (cond b (Some []) None) ≡ None
one_byte true = refl
one_byte false = refl

pub no_long : (w : Text) → is_option w ≡ false → long_of w ≡ None
no_long [] o = refl
no_long (b ∷ []) o = ap (λ r. option_and_then long_of_rest r) (one_byte (b == 45))
no_long (b ∷ c ∷ bs) o = rw o refl

no_flags : (b : Bool) → option_and_then short_of_rest (cond b (Some []) None) ≡ None
no_flags true = refl
no_flags false = refl

pub no_short : (w : Text) → is_option w ≡ false → short_of w ≡ None
no_short [] o = refl
no_short (b ∷ []) o = no_flags (b == 45)
no_short (b ∷ c ∷ bs) o = rw o refl

-- such a word is a value
pub takes_word : (last : Option Text) (vs : List Text) (w : Text) → bytes_eq w (codes "--") ≡ false → is_option w ≡ false → walked shape.rules [] (at false last vs) w ≡ at false (Some w) (taken last vs)
unfolding walked
takes_word None vs w e o = rw (e, no_long w o, no_short w o) refl
takes_word (Some v) [] w e o = rw (e, no_long w o, no_short w o) refl
takes_word (Some v) (x ∷ xs) w e o = rw (e, no_long w o, no_short w o) refl

pub word_well : (last : Option Text) (vs : List Text) (w : Text) → bytes_eq w (codes "--") ≡ false → is_option w ≡ false → turn_fault shape [] (at false last vs) w ≡ []
word_well None vs w e o = rw (e, no_long w o, no_short w o) refl
word_well (Some v) vs w e o = rw (e, no_long w o, no_short w o) refl

-- text that isn't empty spells a first character
spelled : (cs : List ℕ) (b : ℕ) (bs : List ℕ) → encode_utf8_all cs ≡ b ∷ bs → (x : ℕ) × (slice_get cs 0 ≡ Some x)
spelled [] b bs e = cc
spelled (c ∷ cs) b bs e = (c, refl)

pub first_char : (b : ℕ) (bs : List ℕ) → IsUtf8 (b ∷ bs) → (x : ℕ) × (slice_get (chars (b ∷ bs)) 0 ≡ Some x)
first_char b bs u = spelled (chars (b ∷ bs)) b bs (encodes-chars (b ∷ bs) u)

-- no character names a flag
flag_unknown : (b : ℕ) (bs : Text) (h : Held) → h.skip ≡ 0 → IsUtf8 (b ∷ bs) → bundle_fault shape.rules false (b ∷ bs) h ≡ kind.UnknownArgument ∷ []
unfolding flags_fault
flag_unknown b bs h none u = let x = first_char b bs u in rw (none, x.1) refl

-- an option is an unknown one
dashes_unknown : (bs : Text) (h : Held) → bytes_eq (45 ∷ 45 ∷ bs) (codes "--") ≡ false → flag_word_fault shape.rules false (long_of (45 ∷ 45 ∷ bs)) (45 ∷ 45 ∷ bs) h ≡ kind.UnknownArgument ∷ []
dashes_unknown [] h e = cc
dashes_unknown (x ∷ xs) h e = refl

no_long_name : (c : ℕ) (bs : Text) → (c == 45) ≡ false → long_of (45 ∷ c ∷ bs) ≡ None
no_long_name c bs is = rw is refl

short_flags : (c : ℕ) (bs : Text) → (c == 45) ≡ false → short_of (45 ∷ c ∷ bs) ≡ Some (c ∷ bs)
short_flags c bs is = rw is refl

dash_unknown : (c : ℕ) (bs : Text) (h : Held) → h.skip ≡ 0 → IsUtf8 (45 ∷ c ∷ bs) → bytes_eq (45 ∷ c ∷ bs) (codes "--") ≡ false → (t : Bool) → (c == 45) ≡ t → flag_word_fault shape.rules false (long_of (45 ∷ c ∷ bs)) (45 ∷ c ∷ bs) h ≡ kind.UnknownArgument ∷ []
dash_unknown c bs h none u e true is =
    let dash : c ≡ 45 = eqb-true c 45 is in
    rw dash (dashes_unknown bs h (rw dash at e))
dash_unknown c bs h none u e false is =
    let rest : IsUtf8 (c ∷ bs) = IsUtf8-drop (45 ∷ c ∷ bs) 1 u (IsCharBoundary-after_ascii (45 ∷ c ∷ bs) 0 u (omega arith) (omega arith)) in
    rw (no_long_name c bs is, short_flags c bs is) (flag_unknown c bs h none rest)

pub option_unknown : (w : Text) (h : Held) → h.skip ≡ 0 → IsUtf8 w → bytes_eq w (codes "--") ≡ false → is_option w ≡ true → flag_word_fault shape.rules false (long_of w) w h ≡ kind.UnknownArgument ∷ []
option_unknown [] h none u e o = cc
option_unknown (b ∷ []) h none u e o = cc
option_unknown (b ∷ c ∷ bs) h none u e o =
    let dash : b ≡ 45 = eqb-true b 45 o in
    rw dash (dash_unknown c bs h none (rw dash at u) (rw dash at e) (c == 45) refl)

-- so the turn has a fault
pub option_fails : (last : Option Text) (vs : List Text) (w : Text) → IsUtf8 w → bytes_eq w (codes "--") ≡ false → is_option w ≡ true → turn_fault shape [] (at false last vs) w ≡ kind.UnknownArgument ∷ []
option_fails None vs w u e o = rw (e, option_unknown w (held None vs) refl u e o) refl
option_fails (Some v) vs w u e o = rw (e, option_unknown w (held (Some v) vs) refl u e o) refl
