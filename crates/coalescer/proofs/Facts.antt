-- What holds of a function whose copies may be joined.
use Rattle.std.proofs.Common.{◌≡◌, ◌∙◌, ◌∷◌, ℕ, Bool, true, not, List, [], refl, ap}
use Rattle.std.specs.Prelude.{◌&&◌, is_some}
use Rattle.std.specs.List.{list_all}
use Rattle.target_base.specs.declared.types.IndexId.{IndexId}
use Rattle.target_base.specs.declared.types.Target.{Target}
use Rattle.target_base.specs.Rules.{is_phi}
use Rattle.meaning.specs.Live.{Among as Member, here as first, there as later}
use Rattle.mir_func.specs.declared.func.Block.{Block}
use Rattle.mir_func.specs.declared.func.Instr.{Instr}
use Rattle.mir_func.specs.Value.{Function}
use Rattle.mir_func.specs.Binding.{does}
use Rattle.mir_meaning.specs.Points.{has_no_phis}
use Rattle.live_lanes.specs.declared.live.LiveFunc.{LiveFunc}
use Rattle.live_lanes.specs.Tells.{TellsInstrs}
use Rattle.live_lanes.specs.Touching.{AreTouched}
use Rattle.live_lanes.specs.Looks.{InOrder}
use Rattle.live_laws.proofs.Exact.Occupied.{occupied-law}
use Rattle.live_laws.specs.Touch.{are_known, is_known}
use Rattle.live_laws.proofs.Touch.Touched.{touched-law}
use Rattle.lowering_laws.specs.Shapes.{IsLowered}
use Rattle.live_edits.specs.Folded.{all_instrs, composed}
use Rattle.join_laws.specs.Joined.{fits_range, indexes_on}
use Rattle.join_laws.proofs.Named.{known, not-phi}
use Rattle.coalescer.specs.Coalescing.{MayCoalesce, fits_instr, instr_of}
use Rattle.coalescer.proofs.Fitting.{by-touching}
use Rattle.coalescer.proofs.Found.{found-own}

all-by : {X : Type 0} (p : X → Bool) (xs : List X) → ((x : X) → Member x xs → p x ≡ true) → list_all p xs ≡ true
all-by p [] h = refl
all-by p (x ∷ xs) h = λ k. h x first k && all-by p xs (λ y m. h y (later m)) k

module _ (t : Target) (f : Function) (low : IsLowered t f) where
  each-instr : (p : Instr → Bool) → ((b : Block) (i : Instr) → Member b f.blocks → Member i b.instrs → p i ≡ true) → list_all (λ (b : Block). list_all p b.instrs) f.blocks ≡ true
  each-instr p h = all-by (λ (b : Block). list_all p b.instrs) f.blocks (λ b mb. all-by p b.instrs (λ i mi. h b i mb mi))

  pub no-phis : has_no_phis t f.blocks ≡ true
  no-phis = each-instr (λ i. not (does is_phi t i)) (λ b i mb mi. ap not (not-phi t i (known t i (low.lowered b i mb mi)).1).0)

  pub all-known : are_known t f.blocks ≡ true
  all-known = each-instr (is_known t) (λ b i mb mi. ap (λ q. is_some q) (known t i (low.lowered b i mb mi)).0.1)

module _ (t : Target) (x : LiveFunc) (may : MayCoalesce t x) where
  pub tells : TellsInstrs x.func x.table
  tells = touched-law t x.func x.table may.computed may.lowered.rules may.lowered.terminators (no-phis t x.func may.lowered) (all-known t x.func may.lowered)

  -- the indexes of a range are those with which the instructions name it that touch it
  pub fits-touched : (a : ℕ) (y : IndexId) (b : ℕ) (ids : List ℕ) → AreTouched x.table b ids → list_all (λ id. fits_instr t x.func a y b (instr_of x.func id)) ids ≡ list_all (λ z. fits_range t x.func a (composed t y z)) (indexes_on x.func b)
  fits-touched a y b ids touched =
      ap (list_all (λ id. fits_instr t x.func a y b (instr_of x.func id))) (tells.touched b ids touched)
      ∙ by-touching t x.func a y b (all_instrs x.func) (λ i m. found-own x.func i may.lowered.function m) (may.named b)

  -- pieces stand in order
  pub in-order : InOrder x.table
  in-order = (occupied-law t x.func x.table may.computed may.lowered.rules may.lowered.terminators).ordered
