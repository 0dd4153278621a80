-- The net of a register over the blocks of a range, its base and what choices of its nodes cost are those over the blocks of the function.
use Rattle.std.proofs.Common.{◌≡◌, ◌∙◌, ℕ, ◌+◌, ◌*◌, ◌≤◌, List, [], Bool, true, false, cond, refl, ap, length, arith, None, Some, option_map}
use Rattle.std.specs.Prelude.{slice_get, slice_index_or, zip, flat_map}
use Rattle.std.proofs.lemmas.Option.{slice_get_within}
use Rattle.target_base.specs.declared.types.Target.{Target}
use Rattle.target_base.specs.declared.types.Reg.{Reg}
use Rattle.mir_func.specs.declared.func.Block.{Block}
use Rattle.mir_func.specs.Value.{Function}
use Rattle.block_freq.specs.Weights.{block_uses}
use Rattle.cut_place.specs.declared.net.Arc.{Arc}
use Rattle.cut_place.specs.declared.net.Net.{Net}
use Rattle.split_choose.specs.declared.spans.Span.{Span}
use Rattle.split_choose.specs.declared.nets.BlockNodes.{BlockNodes}
use Rattle.split_choose.specs.Bundles.{start_of, end_of, are_joined, ArePlaced, AreEarlier}
use Rattle.split_choose.specs.Regions.{capped}
use Rattle.split_choose.specs.Nets.{node_if, arcs_of, base_of, row_arcs, row_base, inside_count}
use Rattle.split_choose.specs.Placings.{net_rows, node_count, row_cost, choice_cost}
use Rattle.split_choose.specs.Offers.{View, Border, In, Out, is_clear, operands_in}
use Rattle.split_choose.specs.Counted.{AreCounted}
use Rattle.split_choose.specs.Cuts.{Choice, IsChoice, Bundle, Inner, has_inside, enters, leaves, block_cost, cost_of, base_cost, block_arcs, bundle_nodes, inside_nodes, number_of, net_of}
use Rattle.split_choose.proofs.Telling.{IsTold, IsUntold}
use Rattle.split_choose.proofs.Along.{Along, along-sum, along-zip, along-count}
use Rattle.split_choose.proofs.Barred.{live-out}
use Rattle.split_choose.proofs.Priced.{weights, uses-are, sum-within, capped-fits}
use Rattle.split_choose.proofs.FirstBorders.{nodes-many, named-in, named-out}
use Rattle.split_choose.proofs.BlockRows.{IsRowAt, net-along, inside-none}
use Rattle.split_choose.proofs.BlockCosts.{arcs-are, base-is, cost-of}
use Rattle.split_choose.proofs.ChoiceNodes.{nodes-of, bundle-in, inner-in}

times-none : (w : ℕ) → w * 0 ≡ 0
times-none w = omega arith

there : (h : Bool) (n : ℕ) → (elim (node_if h n) [ None ↦ false | Some j ↦ true ]) ≡ h
there true n = refl
there false n = refl

module _ (t : Target) (f : Function) (v : ℕ) (view : View) (freqs : List ℕ) (counted : AreCounted f freqs v) (placed : ArePlaced f.blocks)
    (spans : List Span) (all : Along (λ (s : Span). s.position) (IsTold t f v view freqs spans) (IsUntold t f v view) 0 f.blocks spans)
    (ps : List ℕ) (one : (x y : Border) → view.one_bundle (x, y) ≡ are_joined f.blocks ps (x, y)) (earlier : AreEarlier ps)
    (r : Reg) (clear : Span → Bool) (cleared : (k : ℕ) (b : Block) (s : Span) → IsTold t f v view freqs spans k b s → clear s ≡ is_clear t f v view r b) where
  pub rows-along : Along (λ (row : BlockNodes). row.position) (IsRowAt t f v view freqs r) (IsUntold t f v view) 0 f.blocks (net_rows ps clear spans (2 * length f.blocks))
  rows-along = net-along t f v view freqs r placed counted spans ps one earlier clear cleared all

  pub no-inside : (k : ℕ) (b : Block) → IsUntold t f v view k b → has_inside t f v view r b ≡ false
  no-inside = inside-none t f v view freqs r placed counted spans ps one earlier clear cleared all

  pub no-exit : (k : ℕ) (b : Block) → IsUntold t f v view k b → leaves t f v view r b ≡ false
  no-exit k b untold = live-out t f v view ps placed one k b untold.at ∙ untold.live_out

  nodes-are : node_count ps clear spans (2 * length f.blocks) ≡ 2 + length (bundle_nodes t f v view r) + length (inside_nodes t f v view r)
  nodes-are =
      let many = nodes-many t f v view ps placed one earlier freqs spans r clear cleared all in
      let insides : inside_count (net_rows ps clear spans (2 * length f.blocks)) ≡ length (inside_nodes t f v view r) =
      along-count (λ (row : BlockNodes). row.position) (IsRowAt t f v view freqs r) (IsUntold t f v view) (λ (row : BlockNodes). elim row.inside [ None ↦ false | Some n ↦ true ]) (has_inside t f v view r)
      (λ k b row is. ap (λ (y : BlockNodes). elim y.inside [ None ↦ false | Some n ↦ true ]) is.same ∙ there (has_inside t f v view r b) (number_of t f v view r (Inner b.number)))
      (λ k b untold. no-inside k b untold) 0 f.blocks (net_rows ps clear spans (2 * length f.blocks)) rows-along in
      omega (arith, many, insides)

  arcs-same : arcs_of (net_rows ps clear spans (2 * length f.blocks)) ≡ flat_map (block_arcs t f v view r) (zip freqs f.blocks)
  arcs-same =
      along-zip (λ (row : BlockNodes). row.position) (IsRowAt t f v view freqs r) (IsUntold t f v view) row_arcs (block_arcs t f v view r) (λ n. slice_index_or freqs n 0)
      (λ k b row is. ap row_arcs is.same ∙ arcs-are t f v view freqs r k b)
      (λ k b untold. none k b untold)
      0 freqs f.blocks (net_rows ps clear spans (2 * length f.blocks)) counted.many (weights t f v view freqs counted spans all) rows-along
    where
      none : (k : ℕ) (b : Block) → IsUntold t f v view k b → block_arcs t f v view r (slice_index_or freqs k 0, b) ≡ []
      none k b untold = go (has_inside t f v view r b) (no-inside k b untold) _
        where
          go : (h : Bool) → h ≡ false → (xs : List Arc) → cond h xs [] ≡ []
          go false e xs = refl
          go true e xs = absurd (let z : true ≡ false = e in cc)

  -- the net is the same
  pub net-is : (net : Net) → net.nodes ≡ node_count ps clear spans (2 * length f.blocks) → net.arcs ≡ arcs_of (net_rows ps clear spans (2 * length f.blocks)) → net ≡ net_of t f v view r freqs
  net-is net nodes arcs =
      ap (λ n. record { nodes = n; arcs = net.arcs }) (nodes ∙ nodes-are)
      ∙ ap (λ (xs : List Arc). record { nodes = 2 + length (bundle_nodes t f v view r) + length (inside_nodes t f v view r); arcs = xs }) (arcs ∙ arcs-same)

  -- so is the base
  pub base-total : base_of (net_rows ps clear spans (2 * length f.blocks)) ≡ base_cost t f v view r freqs
  base-total =
      along-sum (λ (row : BlockNodes). row.position) (IsRowAt t f v view freqs r) (IsUntold t f v view) row_base (λ (p : ℕ × Block). cond (has_inside t f v view r p.1) 0 (p.0 * operands_in t f v view p.1.instrs)) (λ n. slice_index_or freqs n 0)
      (λ k b row is. ap row_base is.same ∙ base-is t f v view freqs r k b)
      (λ k b untold. ap (λ h. cond h 0 (slice_index_or freqs k 0 * operands_in t f v view b.instrs)) (no-inside k b untold)
      ∙ (ap (λ n. slice_index_or freqs k 0 * n) untold.uses ∙ times-none (slice_index_or freqs k 0)))
      0 freqs f.blocks (net_rows ps clear spans (2 * length f.blocks)) counted.many (weights t f v view freqs counted spans all) rows-along

  pub base-fits : capped (base_of (net_rows ps clear spans (2 * length f.blocks))) ≡ base_cost t f v view r freqs
  base-fits =
      let low = sum-within (λ (p : ℕ × Block). cond (has_inside t f v view r p.1) 0 (p.0 * operands_in t f v view p.1.instrs)) (block_uses v)
      (λ w b. (let e = uses-are t f v view w b in within (has_inside t f v view r b) w (w * operands_in t f v view b.instrs) (block_uses v (w, b)) e)) freqs f.blocks in
      let fits = counted.fits in
      ap capped base-total ∙ capped-fits (base_cost t f v view r freqs) (omega (arith, low, fits))
    where
      within : (h : Bool) (w a u : ℕ) → u ≡ a → cond h 0 a ≤ w + u
      within true w a u e = omega arith
      within false w a u e = omega (arith, e)

  -- nodes that are in as a choice says
  pub record Follows (c : ℕ → Bool) (choice : Choice) : Type 0 where
    pub entry : (k : ℕ) (b : Block) → slice_get f.blocks k ≡ Some b → enters t f v view r b ≡ true → c (number_of t f v view r (Bundle (In b.number))) ≡ choice (Bundle (In b.number))
    pub exit : (k : ℕ) (b : Block) → slice_get f.blocks k ≡ Some b → leaves t f v view r b ≡ true → c (number_of t f v view r (Bundle (Out b.number))) ≡ choice (Bundle (Out b.number))
    pub inner : (k : ℕ) (b : Block) → slice_get f.blocks k ≡ Some b → has_inside t f v view r b ≡ true → c (number_of t f v view r (Inner b.number)) ≡ choice (Inner b.number)

  pub cost-total : (c : ℕ → Bool) (choice : Choice) → Follows c choice → choice_cost c (net_rows ps clear spans (2 * length f.blocks)) ≡ cost_of t f v view r freqs choice
  cost-total c choice follows =
      along-sum (λ (row : BlockNodes). row.position) (IsRowAt t f v view freqs r) (IsUntold t f v view) (row_cost c) (λ (p : ℕ × Block). p.0 * block_cost t f v view r choice p.1) (λ n. slice_index_or freqs n 0)
      (λ k b row is. ap (row_cost c) is.same ∙ cost-of t f v view freqs r c choice k b (follows.entry k b is.at) (follows.exit k b is.at) (follows.inner k b is.at))
      (λ k b untold. none (slice_index_or freqs k 0) (has_inside t f v view r b) _ (operands_in t f v view b.instrs) (no-inside k b untold) untold.uses)
      0 freqs f.blocks (net_rows ps clear spans (2 * length f.blocks)) counted.many (weights t f v view freqs counted spans all) rows-along
    where
      none : (w : ℕ) (h : Bool) (a n : ℕ) → h ≡ false → n ≡ 0 → w * cond h a n ≡ 0
      none w h a n e z = ap (λ y. w * cond y a n) e ∙ (ap (λ y. w * y) z ∙ times-none w)

  -- the nodes of a choice
  pub nodes-follow : (choice : Choice) → IsChoice t f v view r choice → Follows (nodes-of t f v view freqs r choice) choice
  nodes-follow choice is = record {
    entry = λ k b at live.
        (let low = slice_get_within f.blocks k b at in
        bundle-in t f v view freqs r spans ps placed one earlier clear cleared all choice is (In b.number) (start_of k) (ap (option_map start_of) (placed k b at)) (omega (arith, low))
        (named-in t f v view ps placed one earlier freqs spans r clear cleared all k b at live));
    exit = λ k b at live.
        (let low = slice_get_within f.blocks k b at in
        bundle-in t f v view freqs r spans ps placed one earlier clear cleared all choice is (Out b.number) (end_of k) (ap (option_map end_of) (placed k b at)) (omega (arith, low))
        (named-out t f v view ps placed one earlier freqs spans r clear cleared all k b at live));
    inner = λ k b at has. inner-in t f v view freqs r spans ps placed one earlier clear cleared all choice is k b at has;
  }
