use Rattle.std.proofs.Common.{◌≡◌, [], true, false, map, option_map, refl, sym, ap, ◌∙◌}
use Rattle.target_base.specs.Roles.{is_silent}
use Rattle.meaning.specs.Code.{Counted}
use Rattle.mir_func.specs.Binding.{is_early_clobber, roles_of}
use Rattle.mir_meaning.specs.Items.{silent_writes, values, counted_writes}
use Rattle.mir_meaning.specs.Codes.{way, target_of}
use Rattle.alloc_check.specs.Bare.{bare_item}
use Rattle.alloc_check.proofs.Ordered.{none-silent, some-silent}
use Rattle.alloc_check.proofs.Rowed.{item-counted}
use Rattle.alloc_check.proofs.rows.counted_item.Goals as goal

pub returns-in_ok-writes-in-Some-clause-sides : goal.returns-in_ok-writes-in-Some-clause-sides
returns-in_ok-writes-in-Some-clause-sides c =
    let t = c.args.t.now in
    let f = c.args.f.now in
    let b = c.args.b.now in
    let i = c.args.i.now in
    let e = c.in-Some.e in
    let s : is_silent e ≡ false = sym c.is_silent.ensures ∙ c.if-is_silent.false in
    let to = option_map (way t f b.number) (target_of i.operands) in
    let reads : c.in_ok-reads-in-Some.reads ≡ map (λ v. v.0) (values t f e i) =
    c.in_ok-reads-in-Some.ensures ∙ ap (map (λ v. v.0)) (c.as_slice-in-Some.ensures ∙ c.in_ok-read-in-Some.ensures) in
    item-counted t f b i e (sym c.in-Some.ensures) s
    ∙ (ap (λ r. bare_item (Counted r (map (λ v. v.0) (values t f e i)) (counted_writes t f e i) to [])) (sym c.in_ok-rest-in-Some.ensures)
    ∙ (ap (λ rs. bare_item (Counted c.in_ok-rest-in-Some.rest rs (counted_writes t f e i) to [])) (sym reads)
    ∙ ap (λ ws. bare_item (Counted c.in_ok-rest-in-Some.rest c.in_ok-reads-in-Some.reads ws to [])) (sym c.in_ok-writes-in-Some.ensures)))

pub returns-in-None-clause-exact : goal.returns-in-None-clause-exact
returns-in-None-clause-exact c = (none-silent c.args.t.now c.args.f.now c.args.i.now [] (sym c.in-None.ensures) refl).0

pub returns-then-is_silent-clause-exact : goal.returns-then-is_silent-clause-exact
returns-then-is_silent-clause-exact c =
    let t = c.args.t.now in
    let f = c.args.f.now in
    let i = c.args.i.now in
    let e = c.in-Some.e in
    let s : is_silent e ≡ true = sym c.is_silent.ensures ∙ c.if-is_silent.true in
    (some-silent t f i e (silent_writes t f e (is_early_clobber (roles_of t i)) i.operands) (sym c.in-Some.ensures) s refl).0

pub returns-in_ok-writes-in-Some-clause-exact : goal.returns-in_ok-writes-in-Some-clause-exact
returns-in_ok-writes-in-Some-clause-exact c = record {
  effect = c.in-Some.e;
  is = sym c.in-Some.ensures;
  counted = sym c.is_silent.ensures ∙ c.if-is_silent.false;
  rest = c.in_ok-rest-in-Some.ensures;
  read = c.in_ok-reads-in-Some.ensures ∙ ap (map (λ v. v.0)) (c.as_slice-in-Some.ensures ∙ c.in_ok-read-in-Some.ensures);
  written = c.in_ok-writes-in-Some.ensures;
}
