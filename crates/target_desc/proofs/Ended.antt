-- The target that the lines of a whole text make keeps the rules of a target.
use Rattle.std.proofs.Common.{◌≡◌, ◌<◌, List, length, Some, None, Bool, true, false, cond, refl, ap, sym, ◌∙◌, arith}
use Rattle.std.specs.Prelude.{Option, option_map}
use Rattle.std.proofs.lemmas.Bool.{leb-true, eqb-true}
use Rattle.std.proofs.lemmas.List.{length-map}
use Rattle.target_base.specs.declared.types.Unit.{Unit as UnitNumber}
use Rattle.target_base.specs.Rules.{is_sound, are_flag_words}
use Rattle.target_base.proofs.Tests.{first_of_both, second_of_both}
use Rattle.target_desc.specs.declared.raw.Header.{Header}
use Rattle.target_desc.specs.declared.draft.Draft.{Draft}
use Rattle.target_desc.specs.declared.draft.Options.{Options}
use Rattle.target_desc.specs.Drafts.{names_of}
use Rattle.target_desc.specs.Keeping.{is_blank, keeps_in, keeps_under, keeps_rules, AreFew}
use Rattle.target_desc.specs.Ending.{Parts, reserved_of, is_whole, parts_under, ended_under, ended}
use Rattle.target_desc.proofs.Grown.{both}
use Rattle.target_desc.proofs.Drafted.{rules_from}
use Rattle.target_desc.proofs.Reserved.{reserved_kept}

pub keeps_at_end : (d : Draft) (h : Header) → keeps_rules d ≡ true → d.header ≡ Some h → keeps_in h d ≡ true
unfolding keeps_rules
keeps_at_end d h k e = ap (λ o. keeps_under o d) (sym e) ∙ k

pub sound_at_end : (d : Draft) (h : Header) → keeps_rules d ≡ true → d.header ≡ Some h → is_whole d ≡ true → is_sound h.name h.version d.units d.regs (reserved_of d) d.indexes d.classes d.masks d.opcodes ≡ true
unfolding is_sound is_whole
sound_at_end d h k e whole =
    let r = rules_from h d (keeps_at_end d h k e) in
    let reserved = reserved_kept h.version d.units d.regs d.reserved (second_of_both _ _ (first_of_both _ _ r.regs)) r.reserved in
    both _ _ (both _ _ (both _ _ (both _ _ (both _ _ (both _ _ (both _ _ (both _ _ r.header r.units) r.regs) reserved) r.indexes) r.classes) r.masks) r.opcodes) whole

flags_under : (o : Option Header) (d : Draft) → keeps_under o d ≡ true → are_flag_words d.options.flags ≡ true
flags_under None d k = second_of_both _ _ k
flags_under (Some h) d k = second_of_both _ _ k

-- the words of `target-flags` are distinct ones
pub flags_at_end : (d : Draft) → keeps_rules d ≡ true → are_flag_words d.options.flags ≡ true
unfolding keeps_rules
flags_at_end d k = flags_under d.header d k

-- what the lines of a whole text spell, with and without a class that lacks something
ended_either : (d : Draft) (o : Option Header) (b : Bool) → is_whole d ≡ b → ended_under o d ≡ cond b (option_map (λ h. parts_under h d) o) None
ended_either d None true e = refl
ended_either d None false e = refl
ended_either d (Some h) true e = rw e refl
ended_either d (Some h) false e = rw e refl

pub ended_whole : (d : Draft) → is_whole d ≡ true → option_map (λ h. parts_under h d) d.header ≡ ended d
ended_whole d e = sym (ended_either d d.header true e)

pub ended_lacking : (d : Draft) → is_whole d ≡ false → None ≡ ended d
ended_lacking d e = sym (ended_either d d.header false e)

few_in : (h : Header) (d : Draft) → keeps_in h d ≡ true → AreFew (names_of d)
few_in h d k =
    let r = rules_from h d k in
    record {
      units = omega (arith, length-map d.units (λ x. x.name), leb-true (length d.units) 512 (first_of_both _ _ (first_of_both _ _ r.units)));
      regs = omega (arith, length-map d.regs (λ x. x.name), leb-true (length d.regs) 512 (first_of_both _ _ (first_of_both _ _ r.regs)));
      indexes = omega (arith, length-map d.indexes (λ x. x.name), leb-true (length d.indexes) 512 (first_of_both _ _ (first_of_both _ _ r.indexes)));
      classes = omega (arith, length-map d.classes (λ x. x.name), leb-true (length d.classes) 512 (first_of_both _ _ (first_of_both _ _ r.classes)));
      masks = omega (arith, length-map d.masks (λ x. x.name), leb-true (length d.masks) 512 (first_of_both _ _ (first_of_both _ _ r.masks)));
      opcodes = omega (arith, length-map d.opcodes (λ x. x.name), leb-true (length d.opcodes) 1024 (first_of_both _ _ (first_of_both _ _ (first_of_both _ _ r.opcodes))));
    }

few_blank : (d : Draft) → is_blank d ≡ true → AreFew (names_of d)
few_blank d k = record {
  units = omega (arith, length-map d.units (λ x. x.name), eqb-true (length d.units) 0 (first_of_both _ _ (first_of_both _ _ (first_of_both _ _ (first_of_both _ _ (first_of_both _ _ (first_of_both _ _ (first_of_both _ _ k))))))));
  regs = omega (arith, length-map d.regs (λ x. x.name), eqb-true (length d.regs) 0 (second_of_both _ _ (first_of_both _ _ (first_of_both _ _ (first_of_both _ _ (first_of_both _ _ (first_of_both _ _ (first_of_both _ _ k))))))));
  indexes = omega (arith, length-map d.indexes (λ x. x.name), eqb-true (length d.indexes) 0 (second_of_both _ _ (first_of_both _ _ (first_of_both _ _ (first_of_both _ _ (first_of_both _ _ k))))));
  classes = omega (arith, length-map d.classes (λ x. x.name), eqb-true (length d.classes) 0 (second_of_both _ _ (first_of_both _ _ (first_of_both _ _ (first_of_both _ _ k)))));
  masks = omega (arith, length-map d.masks (λ x. x.name), eqb-true (length d.masks) 0 (second_of_both _ _ (first_of_both _ _ (first_of_both _ _ k))));
  opcodes = omega (arith, length-map d.opcodes (λ x. x.name), leb-true (length d.opcodes) 1024 (first_of_both _ _ (first_of_both _ _ (first_of_both _ _ (second_of_both _ _ (first_of_both _ _ k))))));
}

few_under : (o : Option Header) (d : Draft) → keeps_under o d ≡ true → AreFew (names_of d)
few_under None d k = few_blank d k
few_under (Some h) d k = few_in h d k

pub few_names : (d : Draft) → keeps_rules d ≡ true → AreFew (names_of d)
unfolding keeps_rules
few_names d k = few_under d.header d k

pub few_units : (d : Draft) → keeps_rules d ≡ true → length d.units < 65536
few_units d k = let few = few_names d k in omega (arith, length-map d.units (λ x. x.name), few.units)

pub parts_made : (h : Header) (d : Draft) (us : List UnitNumber) (os : Options) (o : Option Header) → us ≡ reserved_of d → os ≡ d.options → o ≡ Some h
    → Some (record { name = h.name; version = h.version; units = d.units; regs = d.regs; reserved = us; indexes = d.indexes; classes = d.classes; masks = d.masks; opcodes = d.opcodes; options = os }) ≡ option_map (λ x. parts_under x d) o
unfolding parts_under
parts_made h d us os o e g f =
    let Whole : List UnitNumber → Options → Option Parts = λ ws x. Some (record { name = h.name; version = h.version; units = d.units; regs = d.regs; reserved = ws; indexes = d.indexes; classes = d.classes; masks = d.masks; opcodes = d.opcodes; options = x }) in
    (λ i. Whole (e i) (g i)) ∙ ap (option_map (λ x. parts_under x d)) (sym f)
