use Rattle.std.proofs.Common.{◌≡◌, ◌∙◌, true, false, sym, arith}
use Rattle.std.proofs.lemmas.Grind.{common_steps}
use Rattle.std.specs.Bool.{beq}
use Rattle.std.specs.Ordering.{int_eq}
use Rattle.target_base.specs.Storage.{same_numbers}
use Rattle.meaning.specs.Sameness.{same_list, same_effect}
use Rattle.alloc_check.proofs.Rested.{rest_of_tests, effects-differ, immediates-differ, needs-differ, results-differ, symbols-decide, widths-differ}
use Rattle.alloc_check.proofs.rests.same_rest.Goals as goal

pub returns-clause-equal : goal.returns-clause-equal
returns-clause-equal c holds =
    let r = c.args.r.now in
    let s = c.args.s.now in
    let effects : same_effect r.effect s.effect ≡ true = sym c.same_effect.ensures ∙ c.if-not-same_effect.false in
    let widths : same_list same_numbers r.widths s.widths ≡ true = cc (c.same_widths.ensures, c.if-not-same_widths.false, c.as_slice.ensures, c.as_slice-2.ensures) in
    let results : same_numbers r.result s.result ≡ true = cc (c.same_numbers.ensures, c.if-not-same_numbers.false, c.as_slice-3.ensures, c.as_slice-4.ensures) in
    let immediates : int_eq r.immediate s.immediate ≡ true = grind (arith, common_steps, c.same_integer.ensures, c.if-not-same_integer.false) in
    let needs : same_list beq r.needed s.needed ≡ true = cc (c.same_flags.ensures, c.if-not-same_flags.false, c.as_slice-5.ensures, c.as_slice-6.ensures) in
    let symbols : same_numbers r.symbol s.symbol ≡ true = cc (c.same_bytes.ensures, holds, c.as_slice-7.ensures, c.as_slice-8.ensures) in
    rest_of_tests r s effects widths results immediates symbols needs

pub returns-clause-exact : goal.returns-clause-exact
returns-clause-exact c =
    let r = c.args.r.now in
    let s = c.args.s.now in
    let effects : same_effect r.effect s.effect ≡ true = sym c.same_effect.ensures ∙ c.if-not-same_effect.false in
    let widths : same_list same_numbers r.widths s.widths ≡ true = cc (c.same_widths.ensures, c.if-not-same_widths.false, c.as_slice.ensures, c.as_slice-2.ensures) in
    let results : same_numbers r.result s.result ≡ true = cc (c.same_numbers.ensures, c.if-not-same_numbers.false, c.as_slice-3.ensures, c.as_slice-4.ensures) in
    let immediates : int_eq r.immediate s.immediate ≡ true = grind (arith, common_steps, c.same_integer.ensures, c.if-not-same_integer.false) in
    let needs : same_list beq r.needed s.needed ≡ true = cc (c.same_flags.ensures, c.if-not-same_flags.false, c.as_slice-5.ensures, c.as_slice-6.ensures) in
    let symbols : c.same_bytes.result ≡ same_numbers r.symbol s.symbol = cc (c.same_bytes.ensures, c.as_slice-7.ensures, c.as_slice-8.ensures) in
    symbols ∙ symbols-decide r s effects widths results immediates needs

pub returns-then-not-same_effect-clause-exact : goal.returns-then-not-same_effect-clause-exact
returns-then-not-same_effect-clause-exact c = sym (effects-differ c.args.r.now c.args.s.now (sym c.same_effect.ensures ∙ c.if-not-same_effect.true))

pub returns-then-not-same_widths-clause-exact : goal.returns-then-not-same_widths-clause-exact
returns-then-not-same_widths-clause-exact c =
    let differ : same_list same_numbers c.args.r.now.widths c.args.s.now.widths ≡ false = cc (c.same_widths.ensures, c.if-not-same_widths.true, c.as_slice.ensures, c.as_slice-2.ensures) in
    sym (widths-differ c.args.r.now c.args.s.now differ)

pub returns-then-not-same_numbers-clause-exact : goal.returns-then-not-same_numbers-clause-exact
returns-then-not-same_numbers-clause-exact c =
    let differ : same_numbers c.args.r.now.result c.args.s.now.result ≡ false = cc (c.same_numbers.ensures, c.if-not-same_numbers.true, c.as_slice-3.ensures, c.as_slice-4.ensures) in
    sym (results-differ c.args.r.now c.args.s.now differ)

pub returns-then-not-same_integer-clause-exact : goal.returns-then-not-same_integer-clause-exact
returns-then-not-same_integer-clause-exact c =
    let differ : int_eq c.args.r.now.immediate c.args.s.now.immediate ≡ false = grind (arith, common_steps, c.same_integer.ensures, c.if-not-same_integer.true) in
    sym (immediates-differ c.args.r.now c.args.s.now differ)

pub returns-then-not-same_flags-clause-exact : goal.returns-then-not-same_flags-clause-exact
returns-then-not-same_flags-clause-exact c =
    let differ : same_list beq c.args.r.now.needed c.args.s.now.needed ≡ false = cc (c.same_flags.ensures, c.if-not-same_flags.true, c.as_slice-5.ensures, c.as_slice-6.ensures) in
    sym (needs-differ c.args.r.now c.args.s.now differ)
