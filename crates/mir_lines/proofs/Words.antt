-- What stands behind a word, found byte by byte.
use Rattle.std.proofs.Common.{◌≡◌, ℕ, ◌<◌, ◌≤◌, ◌+◌, List, [], ◌∷◌, length, drop, Some, None, true, false, refl, ap, sym, ◌∙◌, arith, get_or}
use Rattle.std.specs.Prelude.{◌==◌}
use Rattle.std.proofs.lemmas.List.{drop_more, drop_all}
use Rattle.mir_lines.specs.Bytes.{behind_word}

-- so many bytes of the word stand first, and this is the rest behind them
pub record WordGo (word text : List ℕ) (k : ℕ) (rest : List ℕ) : Type 0 where
  pub same : behind_word word text ≡ behind_word (drop k word) rest
  pub len : length rest + k ≡ length text

behind_more : (b : ℕ) (word : List ℕ) (c : ℕ) (cs : List ℕ) → (c == b) ≡ true → behind_word (b ∷ word) (c ∷ cs) ≡ behind_word word cs
unfolding behind_word
behind_more b word c cs e = rw e refl

behind_other : (b : ℕ) (word : List ℕ) (c : ℕ) (cs : List ℕ) → (c == b) ≡ false → behind_word (b ∷ word) (c ∷ cs) ≡ None
unfolding behind_word
behind_other b word c cs e = rw e refl

behind_end : (b : ℕ) (word : List ℕ) → behind_word (b ∷ word) [] ≡ None
unfolding behind_word
behind_end b word = refl

behind_nothing : (text : List ℕ) → behind_word [] text ≡ Some text
unfolding behind_word
behind_nothing [] = refl
behind_nothing (c ∷ cs) = refl

front : (word : List ℕ) (k : ℕ) (b : ℕ) → k < length word → b ≡ get_or word k 0 → drop k word ≡ b ∷ drop (k + 1) word
front word k b h e = rw e (drop_more word k 0 h)

pub word_begin : (word text : List ℕ) → WordGo word text 0 text
word_begin word text = record { same = refl; len = omega arith }

pub word_go : (word text : List ℕ) (k : ℕ) (rest : List ℕ) → WordGo word text k rest → k < length word → (b : ℕ) → b ≡ get_or word k 0 → (c : ℕ) (behind : List ℕ) → rest ≡ c ∷ behind → (c == b) ≡ true → WordGo word text (k + 1) behind
word_go word text k rest go h b e c behind r eq = record {
  same = go.same ∙ ap (λ xs. behind_word xs rest) (front word k b h e) ∙ ap (behind_word (b ∷ drop (k + 1) word)) r ∙ behind_more b (drop (k + 1) word) c behind eq;
  len = let n : length rest ≡ length (c ∷ behind) = ap length r in omega (arith, n, go.len);
}

pub word_other : (word text : List ℕ) (k : ℕ) (rest : List ℕ) → WordGo word text k rest → k < length word → (b : ℕ) → b ≡ get_or word k 0 → (c : ℕ) (behind : List ℕ) → rest ≡ c ∷ behind → (c == b) ≡ false → None ≡ behind_word word text
word_other word text k rest go h b e c behind r differ =
    sym (go.same ∙ ap (λ xs. behind_word xs rest) (front word k b h e) ∙ ap (behind_word (b ∷ drop (k + 1) word)) r ∙ behind_other b (drop (k + 1) word) c behind differ)

pub word_short : (word text : List ℕ) (k : ℕ) (rest : List ℕ) → WordGo word text k rest → k < length word → (b : ℕ) → b ≡ get_or word k 0 → rest ≡ [] → None ≡ behind_word word text
word_short word text k rest go h b e r =
    sym (go.same ∙ ap (λ xs. behind_word xs rest) (front word k b h e) ∙ ap (behind_word (b ∷ drop (k + 1) word)) r ∙ behind_end b (drop (k + 1) word))

pub word_whole : (word text : List ℕ) (k : ℕ) (rest : List ℕ) → WordGo word text k rest → length word ≤ k → Some rest ≡ behind_word word text
word_whole word text k rest go h = sym (go.same ∙ ap (λ xs. behind_word xs rest) (drop_all k word h) ∙ behind_nothing rest)
