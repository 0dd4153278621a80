-- The region split that is offered, by the parts over spans.
use Rattle.std.proofs.Common.{◌≡◌, ◌∙◌, ℕ, List, [], ◌∷◌, Bool, true, false, cond, refl, sym, ap, map, filter, Option, None, Some, option_map}
use Rattle.std.specs.Prelude.{nat_lt}
use Rattle.target_base.specs.declared.types.Target.{Target}
use Rattle.target_base.specs.declared.types.Reg.{Reg}
use Rattle.mir_func.specs.declared.func.Block.{Block}
use Rattle.mir_func.specs.Value.{Function}
use Rattle.mir_func.specs.Binding.{class_of}
use Rattle.mir_meaning.specs.Places.{domain}
use Rattle.block_freq.specs.Weights.{use_sum}
use Rattle.split_choose.specs.declared.spans.Span.{Span}
use Rattle.split_choose.specs.Bundles.{are_joined, ArePlaced}
use Rattle.split_choose.specs.Regions.{capped, uses_of, costs_of, inside_in}
use Rattle.split_choose.specs.Offers.{View, Border, is_clear, region_cost, regions, region_marks, is_dividable, region_offer, least}
use Rattle.split_choose.specs.Counted.{AreCounted}
use Rattle.split_choose.specs.Parts.{marked}
use Rattle.split_choose.proofs.Telling.{IsTold, IsUntold}
use Rattle.split_choose.proofs.Along.{Along}
use Rattle.split_choose.proofs.Least.{priced-same}
use Rattle.split_choose.proofs.Insides.{marks-are}
use Rattle.split_choose.proofs.Priced.{uses-is, cost-is}

module _ (t : Target) (f : Function) (v : ℕ) (view : View) (freqs : List ℕ) where
  pub none-divides : is_dividable t f v view ≡ false → None ≡ region_offer t f v view freqs
  none-divides h = sym (ap (λ b. cond b (option_map (λ c. (c.1, region_marks t f v view c.1)) (least (regions t f v view freqs))) None) h)

  module _ (counted : AreCounted f freqs v) (spans : List Span) (all : Along (λ (s : Span). s.position) (IsTold t f v view freqs spans) (IsUntold t f v view) 0 f.blocks spans)
      (ps : List ℕ) (placed : ArePlaced f.blocks) (one : (x y : Border) → view.one_bundle (x, y) ≡ are_joined f.blocks ps (x, y)) (clear : Reg → Span → Bool)
      (cleared : (r : Reg) (k : ℕ) (b : Block) (s : Span) → IsTold t f v view freqs spans k b s → clear r s ≡ is_clear t f v view r b) (divides : is_dividable t f v view ≡ true) where
    -- the registers whose parts cost less than the range does, with these costs
    parts : List (ℕ × Reg)
    parts = filter (λ c. nat_lt c.0 (capped (uses_of spans))) (map (λ r. (capped (costs_of (inside_in ps (clear r) spans) spans), r)) (domain t (class_of f v)))

    parts-are : parts ≡ regions t f v view freqs
    unfolding parts
    parts-are = priced-same (λ r. capped (costs_of (inside_in ps (clear r) spans) spans)) (region_cost t f v view freqs) (capped (uses_of spans)) (use_sum f.blocks freqs v)
        (uses-is t f v view freqs counted spans all)
        (λ r. cost-is t f v view freqs counted spans all ps placed one r (clear r) (cleared r)) (domain t (class_of f v))

    offered : region_offer t f v view freqs ≡ option_map (λ c. (c.1, region_marks t f v view c.1)) (least parts)
    offered = ap (λ b. cond b (option_map (λ c. (c.1, region_marks t f v view c.1)) (least (regions t f v view freqs))) None) divides
        ∙ ap (λ ys. option_map (λ c. (c.1, region_marks t f v view c.1)) (least ys)) (sym parts-are)

    -- with the marks of the blocks that spans are in
    pub offered-is : option_map (marked t f v view (λ r. inside_in ps (clear r) spans) spans) (least (filter (λ c. nat_lt c.0 (capped (uses_of spans))) (map (λ r. (capped (costs_of (inside_in ps (clear r) spans) spans), r)) (domain t (class_of f v)))))
        ≡ region_offer t f v view freqs
    unfolding parts
    offered-is = same (least parts) ∙ sym offered
      where
        same : (o : Option (ℕ × Reg)) → option_map (marked t f v view (λ r. inside_in ps (clear r) spans) spans) o ≡ option_map (λ c. (c.1, region_marks t f v view c.1)) o
        same None = refl
        same (Some c) = ap (λ ms. Some (c.1, ms)) (marks-are t f v view ps placed one freqs spans c.1 (clear c.1) (cleared c.1) all)
