-- Texts that are compared, and what a text that is printed says.
use Rattle.std.specs.Prelude.{◌≡◌, ◌≤◌, ◌<◌, ℕ, true, false, List, [], length}
use Rattle.std.proofs.Common.{refl, sym, ◌∙◌, ap, arith}
use Rattle.target_base.specs.Storage.{same_numbers}
use Rattle.target_base.specs.declared.types.Target.{Target}
use Rattle.mir_func.specs.Value.{Function}
use Rattle.mir_text.specs.declared.doc.Doc.{Doc}
use Rattle.mir_text.specs.declared.doc.Doc.TheVariants as docs
use Rattle.mir_text.specs.Print.{print_doc}
use Rattle.mir_text.specs.Document.{Spells}
use Rattle.laws.proofs.Same.{numbers-true}
use Rattle.pipeline.specs.Guarded.Function.{IsTextFor}

pub same_texts : (xs ys : List ℕ) → same_numbers xs ys ≡ true → xs ≡ ys
same_texts = numbers-true

-- the text of f, which spells g with the same key lines
pub text_read : (t : Target) (d : Doc) (f g : Function) (text : List ℕ) → text ≡ print_doc t d → d ≡ docs.Function [] f → length text ≤ 4194304 → Spells t false 1 text (docs.Function [] g) → same_numbers g.head f.head ≡ true → IsTextFor t g text
text_read t d f g text printed is short spells same = record {
  func = f;
  printed = printed ∙ ap (print_doc t) is;
  head = sym (numbers-true g.head f.head same);
  spells = λ h. spells;
  long = λ h. absurd (omega (arith, h, short));
}

-- a text that is longer than a document may be that is read
pub text_long : (t : Target) (d : Doc) (f : Function) (text : List ℕ) → text ≡ print_doc t d → d ≡ docs.Function [] f → 4194304 < length text → IsTextFor t f text
text_long t d f text printed is long = record {
  func = f;
  printed = printed ∙ ap (print_doc t) is;
  head = refl;
  spells = λ h. absurd (omega (arith, h, long));
  long = λ h. refl;
}

pub ruleset texts = (text_read, text_long)
