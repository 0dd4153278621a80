-- What is said of the functions of two files, one function of the second file behind another.
use Rattle.std.proofs.Common.{◌≡◌, ℕ, suc, List, [], ◌∷◌, ◌++◌, drop, length, refl, ap, sym, ◌∙◌, subst, append_assoc}
use Rattle.std.proofs.Math.Seq.{drop-nil}
use Rattle.target_base.specs.declared.types.Target.{Target}
use Rattle.mir_func.specs.Value.{Function}
use Rattle.ra_top.specs.Commands.Pairs.{alone_lines, AreLinesOf, IsCheckText}
use Rattle.ra_top.specs.Reading.{AddsLines}

drop_more : (n : ℕ) (fs : List Function) → drop n (drop 1 fs) ≡ drop (suc n) fs
drop_more n [] = drop-nil n
drop_more n (f ∷ fs) = refl

drop_both : (gs hs : List Function) (fs : List Function) → drop (length hs) (drop (length gs) fs) ≡ drop (length (gs ++ hs)) fs
drop_both [] hs fs = refl
drop_both (g ∷ gs) hs fs = ap (λ x. drop (length hs) x) (sym (drop_more (length gs) fs)) ∙ drop_both gs hs (drop 1 fs) ∙ drop_more (length (gs ++ hs)) fs

lines_behind : (t : Target) (fs gs hs : List Function) (first second : List ℕ) → AreLinesOf t fs gs first → AreLinesOf t (drop (length gs) fs) hs second → AreLinesOf t fs (gs ++ hs) (first ++ second)
lines_behind t fs [] hs first second none more = subst (λ l. AreLinesOf t fs hs (l ++ second)) (sym none) more
lines_behind t fs (g ∷ gs) hs first second (line, rest, is, are, e) more =
    (line, rest ++ second, is, lines_behind t (drop 1 fs) gs hs rest second are (subst (λ x. AreLinesOf t x hs second) (sym (drop_more (length gs) fs)) more), ap (λ l. l ++ second) e ∙ append_assoc line rest second)

-- nothing is said yet
pub nothing_said : (t : Target) (fs rest : List Function) (lines : List ℕ) → rest ≡ fs → lines ≡ [] → AddsLines t fs [] rest [] lines
nothing_said t fs rest lines same none = record { lines = []; are = refl; added = none; left = same }

-- the lines of more functions behind those of some
pub adds_more : (t : Target) (fs gs rest hs last : List Function) (old mid new : List ℕ) → AddsLines t fs gs rest old mid → AddsLines t rest hs last mid new → AddsLines t fs (gs ++ hs) last old new
adds_more t fs gs rest hs last old mid new a b = record {
  lines = a.lines ++ b.lines;
  are = lines_behind t fs gs hs a.lines b.lines a.are (subst (λ x. AreLinesOf t x hs b.lines) a.left b.are);
  added = b.added ∙ ap (λ l. l ++ b.lines) a.added ∙ append_assoc old a.lines b.lines;
  left = b.left ∙ ap (λ x. drop (length hs) x) a.left ∙ drop_both gs hs fs;
}

-- all is said once those that are left are said to be alone
pub all_said : (t : Target) (fs gs rest : List Function) (lines text : List ℕ) → AddsLines t fs gs rest [] lines → text ≡ lines ++ alone_lines rest → IsCheckText t fs gs text
all_said t fs gs rest lines text a e = record {
  lines = a.lines;
  are = a.are;
  all = e ∙ ap (λ l. l ++ alone_lines rest) a.added ∙ ap (λ x. a.lines ++ alone_lines x) a.left;
}
