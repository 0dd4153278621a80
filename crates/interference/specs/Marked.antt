-- A set of numbers as the bits of words.
use Rattle.std.specs.Prelude.{ℕ, ◌/◌, ◌%◌, Bool, nat_eq, List, slice_index}
use Rattle.std.specs.Int.{bit_at}

-- how many bits a word has
unfoldable pub word_bits : ℕ
word_bits = 64

abbrev pub is_marked : List ℕ → ℕ → Bool
is_marked words n = nat_eq (bit_at (slice_index words (n / 64)) (n % 64)) 1
