-- What the command's parser makes of any words that are text.
use Rattle.std.proofs.Common.{◌≡◌, List, [], ◌∷◌, ◌++◌, Bool, true, false, Option, Some, None, option_map, refl, ap, sym, ◌∙◌, inl, inr, append_assoc, append-nil, codes, fold}
use Rattle.std.specs.Prelude.{unwrap_or, String}
use Rattle.std.specs.Global.{Global}
use Rattle.std.specs.Str.{IsUtf8, bytes_eq}
use Rattle.std.specs.String.{string_bytes}
use Rattle.std.proofs.lemmas.Str.{IsUtf8-string_bytes}
use Rattle.clap.specs.Matches.{matched_of, raw_values}
use Rattle.clap.specs.Simple.{App, is_simple, matches_of}
use Rattle.clap.specs.Values.{kind_of}
use Rattle.clap.specs.Walk.{Text, Walk, all_of, rows_of, walked}
use Rattle.clap.specs.Faults.{defaults_fault, fault_of, is_simple_and_free, turn_fault, walk_fault}
use Rattle.clap.specs.Kinds.{HasKind, IsAmong}
use Rattle.clap.specs.declared.error.Error.{Error}
use Rattle.clap.specs.declared.error.kind.ErrorKind.{ErrorKind}
use Rattle.clap.specs.declared.error.kind.ErrorKind.TheVariants as kind
use Rattle.clap.specs.declared.parser.matches.Found.{Found}
use Rattle.clap.proofs.WalkLemmas.{raw_values-rows}
use Rattle.ra_top.specs.Words.Words.{bytes_of, is_option, plain_words}
use Rattle.ra_top.specs.Words.Parser.{parser}
use Rattle.ra_top.proofs.WordLemmas.Walk.{at, begins_trailing, dashes_well, option_fails, shape, taken, takes_trailing, takes_word, trailing_well, word_well}

-- the walk over the words goes well, and ends behind these values
pub record Ends (w : Walk) (words all : List Text) : Type 0 where
  pub trailing : Bool
  pub last : Option Text
  pub values : List Text
  pub well : walk_fault shape [] w words ≡ []
  pub ends : fold (walked shape.rules []) w words ≡ at trailing last values
  pub are : taken last values ≡ all

-- the walk over the words, behind those taken before, goes well and takes these, or fails
abbrev pub Walks : List Text → Walk → List Text → Option (List Text) → Type 0
Walks before w words None = walk_fault shape [] w words ≡ kind.UnknownArgument ∷ []
Walks before w words (Some plain) = Ends w words (before ++ plain)

-- one more word, of which the turn goes well
one_more : (w next : Walk) (word : Text) (words all : List Text) → turn_fault shape [] w word ≡ [] → walked shape.rules [] w word ≡ next → Ends next words all → Ends w (word ∷ words) all
unfolding walk_fault
one_more w next word words all well is e = record {
  trailing = e.trailing;
  last = e.last;
  values = e.values;
  well = rw (well, is) e.well;
  ends = rw is e.ends;
  are = e.are;
}

none_left : (trailing : Bool) (last : Option Text) (vs all : List Text) → taken last vs ≡ all → Ends (at trailing last vs) [] all
unfolding walk_fault
none_left trailing last vs all are = record {
  trailing = trailing;
  last = last;
  values = vs;
  well = refl;
  ends = refl;
  are = are;
}

-- behind `--` all words are taken
all_taken : (words : List Text) (last : Option Text) (vs : List Text) → Ends (at true last vs) words (taken last vs ++ words)
all_taken [] last vs = none_left true last vs _ (sym (append-nil (taken last vs)))
all_taken (w ∷ ws) last vs =
    one_more _ _ w ws _ (trailing_well last vs w) (takes_trailing last vs w)
    (rw (sym (append_assoc (taken last vs) (w ∷ []) ws)) (all_taken ws (Some w) (taken last vs)))

-- the first word is no option
walks_on : (w : Text) (ws : List Text) (last : Option Text) (vs : List Text) (plain : Option (List Text)) → bytes_eq w (codes "--") ≡ false → is_option w ≡ false
    → Walks (taken (Some w) (taken last vs)) (at false (Some w) (taken last vs)) ws plain → Walks (taken last vs) (at false last vs) (w ∷ ws) (option_map (λ rest. w ∷ rest) plain)
unfolding walk_fault
walks_on w ws last vs None e o fails = rw (word_well last vs w e o, takes_word last vs w e o) fails
walks_on w ws last vs (Some plain) e o ends =
    one_more _ _ w ws _ (word_well last vs w e o) (takes_word last vs w e o)
    (rw (sym (append_assoc (taken last vs) (w ∷ []) plain)) ends)

-- the first word is an option
fails_at : (w : Text) (ws : List Text) (last : Option Text) (vs : List Text) → IsUtf8 w → bytes_eq w (codes "--") ≡ false → is_option w ≡ true
    → walk_fault shape [] (at false last vs) (w ∷ ws) ≡ kind.UnknownArgument ∷ []
unfolding walk_fault
fails_at w ws last vs u e o = rw (option_fails last vs w u e o) refl

-- the first word is `--`
ends_at : (w : Text) (ws : List Text) (last : Option Text) (vs : List Text) → bytes_eq w (codes "--") ≡ true → Ends (at false last vs) (w ∷ ws) (taken last vs ++ ws)
ends_at w ws last vs e =
    one_more _ _ w ws _ (dashes_well last vs w e) (begins_trailing last vs w e) (all_taken ws last vs)

one_step : (w : Text) (ws : List Text) (last : Option Text) (vs : List Text) → IsUtf8 w
    → Walks (taken (Some w) (taken last vs)) (at false (Some w) (taken last vs)) ws (plain_words ws)
    → (dashes option : Bool) → bytes_eq w (codes "--") ≡ dashes → is_option w ≡ option
    → Walks (taken last vs) (at false last vs) (w ∷ ws) (plain_words (w ∷ ws))
unfolding plain_words
one_step w ws last vs u rest true option e o = rw e (ends_at w ws last vs e)
one_step w ws last vs u rest false true e o = rw (e, o) (fails_at w ws last vs u e o)
one_step w ws last vs u rest false false e o = rw (e, o) (walks_on w ws last vs (plain_words ws) e o rest)

none_walked : (last : Option Text) (vs : List Text) → Walks (taken last vs) (at false last vs) [] (plain_words [])
unfolding plain_words
none_walked last vs = none_left false last vs _ (sym (append-nil (taken last vs)))

-- the walk takes the plain words, and fails where there are none
pub all_walked : (words : List (String Global)) (last : Option Text) (vs : List Text) → Walks (taken last vs) (at false last vs) (bytes_of words) (plain_words (bytes_of words))
all_walked [] last vs = none_walked last vs
all_walked (w ∷ ws) last vs =
    one_step (string_bytes w) (bytes_of ws) last vs (IsUtf8-string_bytes w) (all_walked ws (Some (string_bytes w)) (taken last vs))
    (bytes_eq (string_bytes w) (codes "--")) (is_option (string_bytes w)) refl refl

abbrev start : Walk
start = at false None []

-- a walk that ends well is a parse without a fault
no_fault : (words : List Text) (trailing : Bool) (last : Option Text) (vs : List Text) → walk_fault shape [] start words ≡ [] → fold (walked shape.rules []) start words ≡ at trailing last vs → fault_of parser words ≡ []
unfolding defaults_fault
no_fault words trailing None [] well ends = rw (well, ends) refl
no_fault words trailing None (x ∷ xs) well ends = rw (well, ends) refl
no_fault words trailing (Some v) [] well ends = rw (well, ends) refl
no_fault words trailing (Some v) (x ∷ xs) well ends = rw (well, ends) refl

-- the argument's values are the words taken
values_are : (words : List Text) (trailing : Bool) (last : Option Text) (vs : List Text) → fold (walked shape.rules []) start words ≡ at trailing last vs → unwrap_or (all_of (codes "words") (matches_of parser words)) [] ≡ taken last vs
values_are words trailing None [] ends = rw ends refl
values_are words trailing None (x ∷ xs) ends = rw ends refl
values_are words trailing (Some v) [] ends = rw ends refl
values_are words trailing (Some v) (x ∷ xs) ends = rw ends refl

a_fault : (words : List Text) → walk_fault shape [] start words ≡ kind.UnknownArgument ∷ [] → fault_of parser words ≡ kind.UnknownArgument ∷ []
a_fault words fails = rw fails refl

-- where nothing is at fault, the argument's values are the plain words
read_as : (words : List Text) (plain : Option (List Text)) → Walks [] start words plain → fault_of parser words ≡ [] → Some (unwrap_or (all_of (codes "words") (matches_of parser words)) []) ≡ plain
read_as words None fails none = let bad : kind.UnknownArgument ∷ [] ≡ [] = sym (a_fault words fails) ∙ none in cc
read_as words (Some plain) e none = ap Some (values_are words e.trailing e.last e.values e.ends ∙ e.are)

pub reads : (words : List (String Global)) → fault_of parser (bytes_of words) ≡ [] → Some (unwrap_or (all_of (codes "words") (matches_of parser (bytes_of words))) []) ≡ plain_words (bytes_of words)
reads words none = read_as (bytes_of words) (plain_words (bytes_of words)) (all_walked words None []) none

-- where something is, there are none
refused_as : (words : List Text) (plain : Option (List Text)) (k : ErrorKind) → Walks [] start words plain → IsAmong k (fault_of parser words) → None ≡ plain
refused_as words None k fails among = refl
refused_as words (Some plain) k e among = absurd (rw (no_fault words e.trailing e.last e.values e.well e.ends) at among)

pub refuses : (words : List (String Global)) (k : ErrorKind) → IsAmong k (fault_of parser (bytes_of words)) → None ≡ plain_words (bytes_of words)
refuses words k among = refused_as (bytes_of words) (plain_words (bytes_of words)) k (all_walked words None []) among

-- what a parse gives for the argument are the plain words
pub answered : (a : App) (words : List (String Global)) (f : Found) (values : Option (List Text)) → a ≡ parser → (is_simple_and_free a ≡ true → fault_of a (bytes_of words) ≡ [])
    → (is_simple a ≡ true → rows_of f ≡ matches_of a (bytes_of words)) → values ≡ option_map raw_values (matched_of f (codes "words")) → Some (unwrap_or values []) ≡ plain_words (bytes_of words)
answered a words f values is well found given =
    let none : fault_of parser (bytes_of words) ≡ [] = (rw is at well) refl in
    let rows : rows_of f ≡ matches_of parser (bytes_of words) = (rw is at found) (refl {a = true}) in
    let are : values ≡ all_of (codes "words") (matches_of parser (bytes_of words)) = given ∙ (raw_values-rows f (codes "words") ∙ ap (all_of (codes "words")) rows) in
    ap (λ (v : Option (List Text)). Some (unwrap_or v [])) are ∙ reads words none

-- a parse that fails, but not for want of memory, leaves no plain words
pub unanswered : (a : App) (words : List (String Global)) (e : Error) → a ≡ parser → (kind_of e ≡ kind.OutOfMemory → ⊥)
    → (is_simple_and_free a ≡ true → HasKind (fault_of a (bytes_of words)) e) → None ≡ plain_words (bytes_of words)
unanswered a words e is other fails = elim ((rw is at fails) refl) [
  | inl memory ↦ absurd (other memory)
  | inr among ↦ refuses words (kind_of e) among
]
