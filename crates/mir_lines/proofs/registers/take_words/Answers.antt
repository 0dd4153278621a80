use Rattle.std.proofs.Common.{◌≡◌, ◌<◌, ◌++◌, ◌∷◌, [], length, true, false, arith}
use Rattle.mir_lines.specs.Registers.{words_at, is_flag_ahead, continues}
use Rattle.mir_lines.proofs.Listed.{words_go}
use Rattle.mir_lines.proofs.registers.take_words.Goals as goal

pub words-preserved : goal.words-preserved
words-preserved c =
    let ahead : is_flag_ahead c.words.rest.now ≡ true = cc in
    let ended : continues c.span.result.1.now ≡ false = cc in
    let made : c.push.new.self ≡ c.words.words ++ c.span.result.0.now ∷ [] = cc (c.in_ok-push.ensures.ok, c.in_ok-from_slice.ensures) in
    let filled : 0 < length c.span.result.0.now = rw c.span.ensures.front (c.is_flag_ahead.ensures.some c.words-test.true) in
    let len : length c.skip-rest-in-words.result.now < length c.words.rest.now = omega (arith, c.skip-rest-in-words.ensures.len, c.span.ensures.whole, filled) in
    record {
      within = omega (arith, len);
      go = words_go (words_at c.args.text.now) c.words.words c.words.rest.now c.words.invariant.go c.span.result.0.now c.span.result.1.now c.skip-rest-in-words.result.now c.push.new.self c.span.ensures.front c.span.ensures.back c.skip-rest-in-words.ensures.value made ahead ended len;
    }
