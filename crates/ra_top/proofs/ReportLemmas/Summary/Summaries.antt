-- Lines one after the other.
use Rattle.std.proofs.Common.{◌≡◌, ℕ, List, [], ◌++◌, codes, append_assoc, subst}
use Rattle.target_base.specs.declared.types.Target.{Target}
use Rattle.mir_func.specs.Value.{Function}
use Rattle.ra_top.specs.declared.report.summary.counts.FuncSize.{FuncSize}
use Rattle.ra_top.specs.declared.report.summary.counts.RunSummary.{RunSummary}
use Rattle.ra_top.specs.Report.Summary.Summary.{size_of, seed_line, source_line, allocated_line, run_line, summary, IsRanOf, IsSummary}

five : (o0 o1 o2 o3 o4 o5 a b c d e : List ℕ) → o0 ≡ [] → o1 ≡ o0 ++ a → o2 ≡ o1 ++ b → o3 ≡ o2 ++ c → o4 ≡ o3 ++ d → o5 ≡ o4 ++ e → o5 ≡ a ++ (b ++ (c ++ (d ++ e)))
five o0 o1 o2 o3 o4 o5 a b c d e e0 e1 e2 e3 e4 e5 = rw (e5, e4, e3, e2, e1, e0) (simp append_assoc)

-- a word, two texts with numbers, and an end
pub numbered_twice : (o0 o1 o2 o3 o4 word text x text2 y end : List ℕ) → o1 ≡ o0 ++ word → o2 ≡ o1 ++ (text ++ x) → o3 ≡ o2 ++ (text2 ++ y) → o4 ≡ o3 ++ end → o4 ≡ o0 ++ (word ++ (text ++ (x ++ (text2 ++ (y ++ end)))))
numbered_twice o0 o1 o2 o3 o4 word text x text2 y end e1 e2 e3 e4 = rw (e4, e3, e2, e1) (simp append_assoc)

-- the five lines of sizes and runs
pub five_lines : (seed : ℕ) (s m : FuncSize) (x y : RunSummary) (o0 o1 o2 o3 o4 o5 : List ℕ) → o0 ≡ [] → o1 ≡ o0 ++ seed_line seed → o2 ≡ o1 ++ source_line s → o3 ≡ o2 ++ allocated_line m → o4 ≡ o3 ++ run_line (codes "source") x → o5 ≡ o4 ++ run_line (codes "allocated") y → o5 ≡ summary seed s m x y
five_lines seed s m x y o0 o1 o2 o3 o4 o5 e0 e1 e2 e3 e4 e5 =
    five o0 o1 o2 o3 o4 o5 (seed_line seed) (source_line s) (allocated_line m) (run_line (codes "source") x) (run_line (codes "allocated") y) e0 e1 e2 e3 e4 e5

-- five lines are the summary of what the sizes and the runs are taken from
pub is_summary : (t : Target) (seed : ℕ) (f g : Function) (s m : FuncSize) (x y : RunSummary) (text : List ℕ) → IsRanOf t f 10000 seed x → IsRanOf t g 10000 seed y → s ≡ size_of f → m ≡ size_of g → text ≡ summary seed s m x y → IsSummary t seed f g text
is_summary t seed f g s m x y text ran_f ran_g es em lines = record {
  before = x;
  after = y;
  before_is = ran_f;
  after_is = ran_g;
  lines = subst (λ z. text ≡ summary seed z (size_of g) x y) es (subst (λ z. text ≡ summary seed s z x y) em lines);
}
