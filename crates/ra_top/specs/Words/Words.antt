-- The words that the program is given.
use Rattle.std.specs.Prelude.{ℕ, ◌+◌, ◌*◌, ◌-◌, ◌==◌, Bool, false, ◌&&◌, if◌then◌else◌, List, [], ◌∷◌, Option, Some, None, nat_eq, nat_le, codes, map, length, option_map, option_and_then, String}
use Rattle.std.specs.Borrow.{Bor}
use Rattle.std.specs.Global.{Global}
use Rattle.std.specs.List.{list_all}
use Rattle.std.specs.String.{string_bytes}
use Rattle.std.specs.Cmp.Lexicographic.{pointwise}
use Rattle.pipeline.specs.declared.passes.allocator.Allocator.{Allocator}
use Rattle.pipeline.specs.declared.passes.allocator.Allocator.TheVariants as allocators
use Rattle.ra_top.specs.declared.words.words.Command.{Command}
use Rattle.ra_top.specs.declared.words.words.Command.TheVariants as commands

abbrev pub is_word : List ℕ → List ℕ → Bool
is_word word text = pointwise nat_eq word text

-- two or more bytes, of which the first is `-`
abbrev pub is_option : List ℕ → Bool
is_option [] = false
is_option (b ∷ []) = false
is_option (b ∷ c ∷ bs) = b == 45

-- the words without the first `--`, behind which they are taken as they stand; None where one before it
-- looks like an option
unfoldable pub plain_words : List (List ℕ) → Option (List (List ℕ))
plain_words [] = Some []
plain_words (w ∷ ws) =
    if is_word w (codes "--") then Some ws
    else (if is_option w then None else option_map (λ rest. w ∷ rest) (plain_words ws))

-- a decimal digit
abbrev pub is_digit : ℕ → Bool
is_digit b = nat_le 48 b && nat_le b 57

-- 1 to 9 decimal digits
abbrev pub is_number : List ℕ → Bool
is_number word = nat_le 1 (length word) && (nat_le (length word) 9 && list_all is_digit word)

-- the number that digits write behind those of n
unfoldable pub number_behind : ℕ → List ℕ → ℕ
number_behind n [] = n
number_behind n (b ∷ bs) = number_behind (n * 10 + (b - 48)) bs

-- the number that digits write
abbrev pub number_of : List ℕ → ℕ
number_of word = number_behind 0 word

-- what the words ask for
pub data Asked : Type 0 where
  Alloc : Allocator → List ℕ → List ℕ → Asked
  VerifySource : List ℕ → List ℕ → Asked
  VerifyAllocated : List ℕ → List ℕ → Asked
  Run : List ℕ → List ℕ → List ℕ → ℕ → ℕ → Asked
  Intervals : List ℕ → List ℕ → Asked
  Trace : Allocator → List ℕ → List ℕ → Asked
  Check : List ℕ → List ℕ → List ℕ → Asked
  Gen : ℕ → Asked

-- the allocator of a form of `trace`
abbrev pub trace_form : List ℕ → Option Allocator
trace_form form =
    if is_word form (codes "cut") then Some allocators.Cut
    else (if is_word form (codes "basic") then Some allocators.Basic else None)

-- the allocator of a form of `alloc`
abbrev pub alloc_form : List ℕ → Option Allocator
alloc_form form = if is_word form (codes "colour") then Some allocators.Colour else trace_form form

-- the commands by their words: TARGET and FILE, where `alloc` and `trace` without a form are those of the greedy allocator;
-- NAME, N and SEED of `run`; SEED of `gen`; TARGET, SOURCE and ALLOCATED of `check`
abbrev pub asked : List (List ℕ) → Option Asked
asked (a ∷ s ∷ []) = if is_word a (codes "gen") && is_number s then Some (Gen (number_of s)) else None
asked (a ∷ t ∷ f ∷ []) =
    if is_word a (codes "alloc") then Some (Alloc allocators.Greedy t f)
    else (if is_word a (codes "intervals") then Some (Intervals t f)
    else (if is_word a (codes "trace") then Some (Trace allocators.Greedy t f) else None))
asked (a ∷ b ∷ t ∷ f ∷ []) =
    if is_word a (codes "alloc") then option_map (λ how. Alloc how t f) (alloc_form b)
    else (if is_word a (codes "trace") then option_map (λ how. Trace how t f) (trace_form b)
    else (if is_word a (codes "verify") && is_word b (codes "source") then Some (VerifySource t f)
    else (if is_word a (codes "verify") && is_word b (codes "allocated") then Some (VerifyAllocated t f)
    else (if is_word a (codes "check") then Some (Check b t f) else None))))
asked (a ∷ t ∷ f ∷ g ∷ n ∷ s ∷ []) =
    if is_word a (codes "run") && (is_number n && is_number s) then Some (Run t f g (number_of n) (number_of s)) else None
asked _ = None

-- what a program's words ask for; None is a usage fault
abbrev pub command_of : List (List ℕ) → Option Asked
command_of words = option_and_then asked (plain_words words)

-- a command, by its words
abbrev pub asks : Command → Asked
asks (commands.Alloc how t f) = Alloc how t.now f.now
asks (commands.VerifySource t f) = VerifySource t.now f.now
asks (commands.VerifyAllocated t f) = VerifyAllocated t.now f.now
asks (commands.Run t f g n s) = Run t.now f.now g.now n s
asks (commands.Intervals t f) = Intervals t.now f.now
asks (commands.Trace how t f) = Trace how t.now f.now
asks (commands.Check t s a) = Check t.now s.now a.now
asks (commands.Gen s) = Gen s

-- the words that a program was given, by their bytes
abbrev pub bytes_of : List (String Global) → List (List ℕ)
bytes_of words = map string_bytes words

-- borrowed words, by their bytes
abbrev pub texts_of : List (Bor (List ℕ)) → List (List ℕ)
texts_of words = map (λ w. w.now) words
