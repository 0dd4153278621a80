-- Variables that stand for tinies, and their ranges with registers.
use Rattle.std.proofs.Common.{◌≡◌, ◌∙◌, ◌≤◌, ℕ, Bool, true, false, cond, List, [], ◌∷◌, ◌++◌, map, length, drop, refl, sym, ap, append-nil}
use Rattle.std.specs.Prelude.{filter}
use Rattle.target_base.specs.declared.types.Reg.{Reg}
use Rattle.target_base.specs.declared.types.Target.{Target}
use Rattle.mir_func.specs.declared.func.Instr.{Instr}
use Rattle.mir_func.specs.Value.{Function}
use Rattle.mir_meaning.specs.Places.{Variable as Need}
use Rattle.interference.specs.declared.tiny.Tiny.{Tiny}
use Rattle.phi_elim.proofs.Walks.{drop_all}
use Rattle.place_solve.specs.declared.variables.Variable.{Variable}
use Rattle.place_solve.specs.Choice.{need_of}
use Rattle.place_solve.specs.Own.{place_variables}
use Rattle.place_solve.specs.Tinies.{is_tiny, paired, stands_for_tiny, tiny_needs}

needs_kept : (ts : List Tiny) (vs : List Variable) → map need_of (filter (stands_for_tiny ts) vs) ≡ filter (λ (v : Need). is_tiny ts v.range) (map need_of vs)
needs_kept ts [] = refl
needs_kept ts (v ∷ vs) = go (is_tiny ts v.range) (needs_kept ts vs)
  where
    go : (b : Bool) → map need_of (filter (stands_for_tiny ts) vs) ≡ filter (λ (w : Need). is_tiny ts w.range) (map need_of vs) → map need_of (cond b (v ∷ filter (stands_for_tiny ts) vs) (filter (stands_for_tiny ts) vs)) ≡ cond b (need_of v ∷ filter (λ (w : Need). is_tiny ts w.range) (map need_of vs)) (filter (λ (w : Need). is_tiny ts w.range) (map need_of vs))
    go true ih = ap (λ ns. need_of v ∷ ns) ih
    go false ih = ih

pub tinies_made : (t : Target) (f : Function) (ts : List Tiny) (is : List Instr) (items slice made : List Variable) → map need_of items ≡ place_variables t f is → slice ≡ items → made ≡ filter (stands_for_tiny ts) slice → map need_of made ≡ tiny_needs t f ts is
tinies_made t f ts is items slice made all same e =
    ap (map need_of) e ∙ needs_kept ts slice ∙ ap (λ vs. filter (λ (v : Need). is_tiny ts v.range) (map need_of vs)) same ∙ ap (filter (λ (v : Need). is_tiny ts v.range)) all

-- ranges with registers, one after the other

none_paired : (ns : List Need) → paired ns [] ≡ []
none_paired [] = refl
none_paired (n ∷ ns) = refl

pub pairs_out : (vs : List Variable) (rs : List Reg) (k : ℕ) (made total : List (ℕ × Reg)) → length rs ≤ k → made ++ paired (map need_of (drop k vs)) (drop k rs) ≡ total → made ≡ total
pairs_out vs rs k made total h was = sym (ap (λ ys. made ++ paired (map need_of (drop k vs)) ys) (drop_all k rs h) ∙ ap (λ ps. made ++ ps) (none_paired (map need_of (drop k vs))) ∙ append-nil made) ∙ was
