-- What of a file isn't taken yet, chunk by chunk.
use Rattle.std.proofs.Common.{◌≡◌, ℕ, ◌<◌, ◌≤◌, ◌+◌, ◌-◌, List, [], ◌++◌, length, take, drop, Option, Some, None, false, refl, ap, sym, ◌∙◌, subst, arith, append_assoc, append-nil, length-drop, length-append, length-take, inl, inr}
use Rattle.std.specs.Prelude.{IfSome}
use Rattle.std.proofs.Math.Seq.{take-append-add}
use Rattle.std.proofs.lemmas.Bool.{cases_lt}
use Rattle.std.proofs.lemmas.List.{take-append-drop, drop-take, drop-drop, take-append-le, take-take}
use Rattle.ra_top.specs.Devices.Device.{Takes}
use Rattle.ra_top.specs.Devices.Pieces.{is_whole, NoneWhole}
use Rattle.ra_top.specs.Devices.Unread.{Taken, IsRest}

-- a chunk without its first bytes
pub skipped : (bytes : List ℕ) (from to n : ℕ) → n ≤ length (take (to - from) (drop from bytes)) → take (to - (from + n)) (drop (from + n) bytes) ≡ drop n (take (to - from) (drop from bytes))
skipped bytes from to n h =
    let within : n ≤ to - from = omega (arith, h, length-take (to - from) (drop from bytes)) in
    let count : to - from ≡ n + (to - (from + n)) = omega (arith, within) in
    sym (ap (λ m. drop n (take m (drop from bytes))) count ∙ drop-take n (to - (from + n)) (drop from bytes) ∙ ap (take (to - (from + n))) (drop-drop n from bytes))

-- a read that fills a chunk with nothing is the end
pub filled_none : (old new : Option (List ℕ)) (piece items : List ℕ) (n : ℕ) → 0 < length piece → n ≤ length items → IfSome old (λ l. Takes l new piece n) → take (n - 0) (drop 0 items) ≡ [] → IfSome old (λ l. l ≡ [])
filled_none None new piece items n room within t none = tt
filled_none (Some l) new piece items n room within t none = t.end (omega (arith, within, length-take (n - 0) (drop 0 items), length-drop 0 items, ap length none)) room

-- reads go on behind a chunk
pub taken_after : (first : Option (List ℕ)) (begin : List ℕ) (mid new : Option (List ℕ)) (old chunk text : List ℕ) → Taken first begin mid old text → Taken mid old new chunk [] → Taken first begin new chunk text
taken_after None begin mid new old chunk text a b = tt
taken_after (Some l) begin mid new old chunk text (rest, is, whole) b =
    let (left, now, same) = subst (λ m. IfSome m (λ x. (r : List ℕ) × (new ≡ Some r) × (old ++ x ≡ chunk ++ r))) is b in
    (left, now, whole ∙ ap (λ x. text ++ x) same)

-- nothing comes behind the text
pub taken_all : (first : Option (List ℕ)) (begin : List ℕ) (mid : Option (List ℕ)) (old text : List ℕ) → Taken first begin mid old text → IsRest mid old [] → IsRest first begin text
taken_all None begin mid old text a b = tt
taken_all (Some l) begin mid old text (rest, is, whole) b =
    let nothing : old ++ rest ≡ [] = subst (λ m. IfSome m (λ x. old ++ x ≡ [])) is b in
    whole ∙ ap (λ x. text ++ x) nothing ∙ append-nil text

-- the first bytes of a chunk go to the text
pub taken_fed : (first : Option (List ℕ)) (begin : List ℕ) (left : Option (List ℕ)) (chunk text : List ℕ) (n : ℕ) → Taken first begin left chunk text → Taken first begin left (drop n chunk) (text ++ take n chunk)
taken_fed None begin left chunk text n a = tt
taken_fed (Some l) begin left chunk text n (rest, is, whole) =
    let cut : take n chunk ++ (drop n chunk ++ rest) ≡ chunk ++ rest = sym (append_assoc (take n chunk) (drop n chunk) rest) ∙ ap (λ c. c ++ rest) (take-append-drop n chunk) in
    (rest, is, whole ∙ sym (append_assoc text (take n chunk) (drop n chunk ++ rest) ∙ ap (λ x. text ++ x) cut))

pub taken_none : (left : Option (List ℕ)) (chunk text : List ℕ) → text ≡ [] → Taken left chunk left chunk text
taken_none None chunk text e = tt
taken_none (Some l) chunk text e = (l, refl, ap (λ t. t ++ (chunk ++ l)) (sym e))

-- no beginning of a text that goes on is whole
pub none_more : (text bytes more : List ℕ) (n : ℕ) → NoneWhole text → n ≤ length bytes → more ≡ text ++ take n bytes → ((j : ℕ) → j < n → is_whole (text ++ take j bytes) ≡ false) → NoneWhole more
none_more text bytes more n none within e first j below =
    let shorter : j < length text + n = omega (arith, below, ap length e, length-append text (take n bytes), length-take n bytes) in
    let front : take j more ≡ take j (text ++ take n bytes) = ap (take j) e in
    elim (cases_lt j (length text)) [
      | inl l ↦ rw (front, take-append-le j text (take n bytes) (omega (arith, l))) (none j l)
      | inr l ↦
          let i : j ≡ length text + (j - length text) = omega (arith, l) in
          let at : take j (text ++ take n bytes) ≡ text ++ take (j - length text) (take n bytes) = ap (λ k. take k (text ++ take n bytes)) i ∙ take-append-add text (take n bytes) (j - length text) in
          rw (front, at, take-take (j - length text) n bytes (omega (arith, shorter))) (first (j - length text) (omega (arith, shorter, l)))
    ]
