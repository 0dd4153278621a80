-- The blocks that branches go to, each once.
use Rattle.std.proofs.Common.{◌≡◌, ℕ, ◌<◌, ◌≤◌, ◌+◌, List, [], ◌∷◌, ◌++◌, length, drop, get_or, Bool, true, false, refl, ap, sym, ◌∙◌, arith}
use Rattle.std.specs.List.{flat_map}
use Rattle.std.proofs.lemmas.List.{drop_more, drop_all}
use Rattle.std.proofs.lemmas.List.Sums.{sum_by-cons}
use Rattle.target_base.specs.declared.types.Target.{Target}
use Rattle.mir_func.specs.declared.func.Operand.{Operand}
use Rattle.mir_func.specs.declared.func.Instr.{Instr}
use Rattle.mir_func.specs.Binding.{does, is_branch}
use Rattle.mir_meaning.specs.Rules.{block_of as block_in, branch_targets}
use Rattle.mir_read.specs.Names.{with_number}
use Rattle.mir_read.specs.Body.{with_numbers, targets_of, operand_count}

with_both : (ns a b : List ℕ) → with_numbers ns (a ++ b) ≡ with_numbers (with_numbers ns a) b
with_both ns [] b = refl
with_both ns (m ∷ a) b = with_both (with_number ns m) a b

-- the blocks of the operands so far, where those of the rest are put behind them
pub record NamedGo (os : List Operand) (first : List ℕ) (k : ℕ) (ns : List ℕ) : Type 0 where
  pub same : with_numbers ns (flat_map block_in (drop k os)) ≡ with_numbers first (flat_map block_in os)
  pub few : length ns ≤ length first + k

pub named_begin : (os : List Operand) (first : List ℕ) → NamedGo os first 0 first
named_begin os first = record { same = refl; few = omega arith }

pub named_go : (os : List Operand) (first : List ℕ) (k : ℕ) (ns : List ℕ) → NamedGo os first k ns → (o : Operand) (new : List ℕ) → k < length os → o ≡ get_or os k o → new ≡ with_numbers ns (block_in o) → length new ≤ length ns + 1 → NamedGo os first (k + 1) new
named_go os first k ns go o new h e put few = record {
  same =
      ap (λ (ms : List ℕ). with_numbers ms (flat_map block_in (drop (k + 1) os))) (put ∙ ap (λ p. with_numbers ns (block_in p)) e)
      ∙ sym (with_both ns (block_in (get_or os k o)) (flat_map block_in (drop (k + 1) os)))
      ∙ sym (ap (λ ps. with_numbers ns (flat_map block_in ps)) (drop_more os k o h))
      ∙ go.same;
  few = omega (arith, few, go.few);
}

pub named_end : (os : List Operand) (first : List ℕ) (k : ℕ) (ns : List ℕ) → NamedGo os first k ns → length os ≤ k → ns ≡ with_numbers first (flat_map block_in os)
named_end os first k ns go h = sym (ap (λ ps. with_numbers ns (flat_map block_in ps)) (drop_all k os h)) ∙ go.same

targets_first : (t : Target) (i : Instr) (is : List Instr) (hit : Bool) → does is_branch t i ≡ hit → branch_targets t (i ∷ is) ≡ targets_of t i ++ branch_targets t is
targets_first t i is true e = rw e refl
targets_first t i is false e = rw e refl

-- the targets so far, where those of the rest are put behind them
pub record TargetsGo (t : Target) (is : List Instr) (k : ℕ) (ns : List ℕ) : Type 0 where
  pub same : with_numbers ns (branch_targets t (drop k is)) ≡ with_numbers [] (branch_targets t is)
  pub few : length ns + operand_count (drop k is) ≤ operand_count is

pub targets_begin : (t : Target) (is : List Instr) → TargetsGo t is 0 []
targets_begin t is = record { same = refl; few = omega arith }

pub targets_go : (t : Target) (is : List Instr) (k : ℕ) (ns : List ℕ) → TargetsGo t is k ns → (i : Instr) (new : List ℕ) → k < length is → i ≡ get_or is k i → new ≡ with_numbers ns (targets_of t i) → length new ≤ length ns + length i.operands → TargetsGo t is (k + 1) new
targets_go t is k ns go i new h e put few =
    let cut : drop k is ≡ i ∷ drop (k + 1) is = drop_more is k i h ∙ ap (λ j. j ∷ drop (k + 1) is) (sym e) in
    record {
      same =
          ap (λ (ms : List ℕ). with_numbers ms (branch_targets t (drop (k + 1) is))) put
          ∙ sym (with_both ns (targets_of t i) (branch_targets t (drop (k + 1) is)))
          ∙ ap (λ (ms : List ℕ). with_numbers ns ms) (sym (targets_first t i (drop (k + 1) is) (does is_branch t i) refl))
          ∙ sym (ap (λ js. with_numbers ns (branch_targets t js)) cut)
          ∙ go.same;
      few = let c : operand_count (drop k is) ≡ length i.operands + operand_count (drop (k + 1) is) = ap operand_count cut ∙ sum_by-cons (λ j. length j.operands) i (drop (k + 1) is) in omega (arith, c, few, go.few);
    }

pub targets_end : (t : Target) (is : List Instr) (k : ℕ) (ns : List ℕ) → TargetsGo t is k ns → length is ≤ k → ns ≡ with_numbers [] (branch_targets t is)
targets_end t is k ns go h = sym (ap (λ js. with_numbers ns (branch_targets t js)) (drop_all k is h)) ∙ go.same

pub operand_room : (is : List Instr) (k : ℕ) (i : Instr) → k < length is → i ≡ get_or is k i → length i.operands ≤ operand_count (drop k is)
operand_room is k i h e =
    let cut : drop k is ≡ i ∷ drop (k + 1) is = drop_more is k i h ∙ ap (λ j. j ∷ drop (k + 1) is) (sym e) in
    let c : operand_count (drop k is) ≡ length i.operands + operand_count (drop (k + 1) is) = ap operand_count cut ∙ sum_by-cons (λ j. length j.operands) i (drop (k + 1) is) in
    omega (arith, c)
