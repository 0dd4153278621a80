-- A valid source behind lowering is what making ready asks of joins.
use Rattle.std.proofs.Common.{◌≡◌, ◌<◌, ◌+◌, ◌∙◌, ℕ, suc, List, [], ◌∷◌, Option, length, refl, sym, ap, subst}
use Rattle.target_base.specs.declared.types.ClassId.{ClassId}
use Rattle.target_base.specs.declared.types.Target.{Target}
use Rattle.mir_func.specs.declared.func.Block.{Block}
use Rattle.mir_func.specs.Value.{Function}
use Rattle.mir_meaning.specs.declared.Form.TheVariants as forms
use Rattle.mir_meaning.specs.Valid.{IsValid}
use Rattle.live_laws.specs.Effects.Shaped.{AreClasses}
use Rattle.live_lanes.specs.declared.live.LiveFunc.{LiveFunc}
use Rattle.live_lanes.specs.Doing.{IsComputed}
use Rattle.live_edits.specs.Folded.{TouchesNamed}
use Rattle.phi_elim.specs.declared.arrivals.Arrival.{Arrival}
use Rattle.phi_elim.specs.Numbered.{blocks_numbered}
use Rattle.phi_elim.specs.Phis.{all_instrs, arrivals_in, lowered_blocks, phi_count, phis_lowered}
use Rattle.two_address.specs.Lowered.{blocks_lowered, classes_made, lowered, ties_lowered}
use Rattle.lowering_laws.specs.Shapes.{IsLowered}
use Rattle.lowering_laws.proofs.LoweredRules.{lowered_is_splittable}
use Rattle.join_laws.specs.Laws.{HasPlainUndefs}
use Rattle.join_laws.proofs.Plain.{lowered_has_plain_undefs}
use Rattle.join_laws.proofs.TouchedNames.{lowered_is_named}
use Rattle.coalescer.specs.Coalescing.{MayCoalesce}

numbered-length : (n : ℕ) (bs : List Block) → length (blocks_numbered n bs) ≡ length bs
numbered-length n [] = refl
numbered-length n (b ∷ bs) = ap suc (numbered-length (n + length b.instrs) bs)

phis-length : (t : Target) (arrs : List Arrival) (k c : ℕ) (bs : List Block) → length (lowered_blocks t arrs k c bs) ≡ length bs
phis-length t arrs k c [] = refl
phis-length t arrs k c (b ∷ bs) = ap suc (phis-length t arrs (k + 1) (c + phi_count t b.instrs) bs)

ties-length : (t : Target) (cs : List (Option ClassId)) (c : ℕ) (bs : List Block) → length (blocks_lowered t cs c bs) ≡ length bs
ties-length t cs c [] = refl
ties-length t cs c (b ∷ bs) = ap suc (ties-length t cs (c + length (classes_made t cs c b.instrs)) bs)

module _ (t : Target) where
  phis-same : (f : Function) → length (phis_lowered t f).blocks ≡ length f.blocks
  unfolding phis_lowered
  phis-same f =
      let arrs = arrivals_in t f.blocks (length f.classes) (all_instrs f.blocks) in
      numbered-length 0 (lowered_blocks t arrs 0 (length f.classes) f.blocks) ∙ phis-length t arrs 0 (length f.classes) f.blocks

  ties-same : (f : Function) → length (ties_lowered t f).blocks ≡ length f.blocks
  unfolding ties_lowered
  ties-same f = numbered-length 0 (blocks_lowered t f.classes (length f.classes) f.blocks) ∙ ties-length t f.classes (length f.classes) f.blocks

  -- lowering leaves as many blocks
  blocks-same : (f : Function) → length (lowered t f).blocks ≡ length f.blocks
  blocks-same f = ties-same (phis_lowered t f) ∙ phis-same f

  pub may-coalesce : (f : Function) (x : LiveFunc) → AreClasses t f → IsValid t forms.Source f → length f.blocks < 4294967296 → x.target ≡ t → x.func ≡ lowered t f → 0 < length (lowered t f).blocks → IsComputed t x.func x.table → MayCoalesce t x
  may-coalesce f x classes valid few target func some computed = record {
    target = target;
    computed = computed;
    lowered = subst (λ (g : Function). IsLowered t g) (sym func) (lowered_is_splittable t f valid classes (subst (λ (n : ℕ). 0 < n) (blocks-same f) some));
    plain = subst (λ (g : Function). HasPlainUndefs t g) (sym func) (lowered_has_plain_undefs t f valid);
    named = λ v. subst (λ (g : Function). TouchesNamed g v) (sym func) (lowered_is_named t f valid classes v);
    blocks = subst (λ (n : ℕ). n < 4294967296) (sym (ap (λ (g : Function). length g.blocks) func ∙ blocks-same f)) few;
  }
