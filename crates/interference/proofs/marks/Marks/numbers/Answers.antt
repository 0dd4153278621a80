use Rattle.std.proofs.Common.{◌≡◌, ◌*◌, ◌∙◌, ◌++◌, ◌-◌, sym, ap, get_or, length, arith}
use Rattle.std.specs.Prelude.{filter, nat_eq}
use Rattle.std.specs.Int.{bit_at}
use Rattle.mir_meaning.specs.Registers.{numbers}
use Rattle.interference.proofs.Marked.{all-words, word-none, word_place, words_more, bits-are}
use Rattle.interference.specs.Marked.{word_bits, is_marked}
use Rattle.interference.proofs.marks.Marks.numbers.Goals as goal
use Rattle.interference.proofs.marks.Marks.numbers.Goals.{then-word-ne0+in_ok-add_bits, else-word-ne0}

pub add_bits-requires : goal.add_bits-requires
add_bits-requires c = (word_place c.args.self.now.words.items c.words.word-index c.words.first c.as_slice-word-items.result.now c.as_slice-word-items.ensures.value c.args.self.now.small c.words.invariant.first c.if-word-ne0.true (let fits = c.type_inv.word-items c.words.word-index in omega (arith, fits))).1

pub words-preserved : goal.words-preserved
words-preserved c =
    let ws = c.args.self.now.words.items in
    let k = c.words.word-index in
    let same : get_or c.as_slice-word-items.result.now k 0 ≡ get_or ws k 0 = ap (λ xs. get_or xs k 0) c.as_slice-word-items.ensures.value in
    record {
      first = let a = c.words.invariant.first in omega (arith, a, c.saturating_add-first.ensures);
      found = elim c.if-word-ne0.branch [
        | then-word-ne0+in_ok-add_bits w ↦
            let place = word_place ws k c.words.first c.as_slice-word-items.result.now c.as_slice-word-items.ensures.value c.args.self.now.small c.words.invariant.first w.if-word-ne0.true (let fits = c.type_inv.word-items k in omega (arith, fits)) in
            words_more ws k c.words.first c.words.numbers.items c.if-word-ne0.numbers.items place.0 c.words.invariant.found
            (ap (λ v. v.items) w.numbers-is ∙ w.in_ok-add_bits.ensures ∙ ap (λ x. c.words.numbers.items ++ filter (λ n. nat_eq (bit_at x (n - c.words.first)) 1) (numbers c.words.first word_bits)) same)
        | else-word-ne0 w ↦ ap (λ v. v.items) w.numbers-is ∙ c.words.invariant.found ∙ sym (word-none ws k word_bits bits-are (sym same ∙ w.if-word-ne0.false))
      ];
    }

pub returns : goal.returns
returns c = λ n h.
    let ws = c.args.self.now.words.items in
    let end : c.words.word-index ≡ length ws = let e : length c.as_slice-word-items.result.now ≡ length ws = ap length c.as_slice-word-items.ensures.value in omega arith in
    c.words.invariant.found ∙ ap (λ k. filter (is_marked ws) (numbers 0 (64 * k))) end ∙ all-words ws n h
