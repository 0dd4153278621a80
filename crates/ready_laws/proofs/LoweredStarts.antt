-- What is live where a valid source begins behind lowering was live there before.
use Rattle.std.proofs.Common.{◌≡◌, ◌∙◌, not, ℕ, true, List, [], ◌∷◌, Some, length, refl, sym, ap, subst}
use Rattle.std.specs.Prelude.{slice_get, take}
use Rattle.std.specs.List.{list_all}
use Rattle.target_base.specs.declared.types.Target.{Target}
use Rattle.target_base.specs.Rules.{is_phi}
use Rattle.meaning.specs.declared.types.Lane.{Lane}
use Rattle.meaning.specs.declared.types.Lane.TheVariants.{UnitLane, VirtualLane}
use Rattle.mir_func.specs.declared.func.Block.{Block}
use Rattle.mir_func.specs.Value.{Function}
use Rattle.mir_func.specs.Binding.{does, effect_of}
use Rattle.mir_meaning.specs.declared.Form.TheVariants as forms
use Rattle.mir_meaning.specs.Points.{LiveAt, Start, has_no_phis}
use Rattle.mir_meaning.specs.Valid.{IsValid}
use Rattle.live_laws.specs.Effects.Shaped.{AreClasses}
use Rattle.live_laws.proofs.Effects.Moving.{some-same}
use Rattle.phi_elim.specs.Numbered.{blocks_numbered}
use Rattle.phi_elim.specs.Phis.{all_instrs, arrivals_in, lowered_blocks, phis_lowered}
use Rattle.two_address.specs.Lowered.{blocks_lowered, lowered, ties_lowered}
use Rattle.lowering_laws.specs.Form.{is_lowered}
use Rattle.lowering_laws.proofs.Blocks.{phis_are_gone}
use Rattle.lowering_laws.proofs.Eliminated.{eliminated-classes, eliminated-rules}
use Rattle.lowering_laws.proofs.LoweredForm.{kept, lowered_form}
use Rattle.lowering_laws.proofs.Ruled.{all-rules, each-rules}
use Rattle.valid_laws.specs.Rules.{HasStart}
use Rattle.ready_laws.specs.LoweredStarts.{LoweredIsListed}
use Rattle.ready_laws.specs.Starts.{BeginsWithin}
use Rattle.ready_laws.proofs.PhiStarts.{phis-keep-start}
use Rattle.ready_laws.proofs.Starts.{start-is-listed, within-keeps-listed}
use Rattle.ready_laws.proofs.TiedStarts.{no-phi-either, tied-live, weaker}

-- a first block is there before, with the same number and live-ins
abbrev Began : List Block → List Block → Type 0
Began bs cs = (c : Block) → slice_get cs 0 ≡ Some c → (b : Block) × (slice_get bs 0 ≡ Some b) × (c.number ≡ b.number) × (c.liveins ≡ b.liveins)

phis-began : (t : Target) (f : Function) → Began f.blocks (phis_lowered t f).blocks
unfolding phis_lowered
phis-began t f = go f.blocks
  where
    go : (bs : List Block) → Began bs (blocks_numbered 0 (lowered_blocks t (arrivals_in t f.blocks (length f.classes) (all_instrs f.blocks)) 0 (length f.classes) bs))
    go [] c e = absurd (cc)
    go (b ∷ bs) c e = let z = some-same _ c e in (b, refl, sym (ap (λ (x : Block). x.number) z), sym (ap (λ (x : Block). x.liveins) z))

ties-began : (t : Target) (f : Function) → Began f.blocks (ties_lowered t f).blocks
unfolding ties_lowered
ties-began t f = go f.blocks
  where
    go : (bs : List Block) → Began bs (blocks_numbered 0 (blocks_lowered t f.classes (length f.classes) bs))
    go [] c e = absurd (cc)
    go (b ∷ bs) c e = let z = some-same _ c e in (b, refl, sym (ap (λ (x : Block). x.number) z), sym (ap (λ (x : Block). x.liveins) z))

lowered-began : (t : Target) (f : Function) → Began f.blocks (lowered t f).blocks
lowered-began t f c e =
    let y = ties-began t (phis_lowered t f) c e in
    let z = phis-began t f y.0 y.1 in
    (z.0, z.1, y.2 ∙ z.2, y.3 ∙ z.3)

-- two-address form behind phi elimination
lowered-live : (t : Target) (f : Function) → IsValid t forms.Source f → AreClasses t f → (n : ℕ) (l : Lane) → LiveAt t (lowered t f) (Start n) l → LiveAt t (phis_lowered t f) (Start n) l
lowered-live t f valid classes n l live =
    let g = phis_lowered t f in
    let none : has_no_phis t (lowered t f).blocks ≡ true =
    weaker (λ (b : Block). list_all (is_lowered t) b.instrs) (λ (b : Block). list_all (λ i. not (does is_phi t i)) b.instrs) (lowered t f).blocks
    (λ b. weaker (is_lowered t) (λ i. not (does is_phi t i)) b.instrs (λ i e. no-phi-either (effect_of t i) (kept t i e))) (lowered_form t f valid) in
    tied-live t g (phis_are_gone t f) (eliminated-classes t f classes) (eliminated-rules t f (each-rules t f (all-rules t f valid.shape))) none n l live

take-all : {A : Type 0} (xs : List A) → take (length xs) xs ≡ xs
take-all [] = refl
take-all (x ∷ xs) = ap (λ ys. x ∷ ys) (take-all xs)

valid-has-start : (t : Target) (f : Function) → IsValid t forms.Source f → HasStart t f
valid-has-start t f valid = record { starts = valid.starts; entry = λ b e. valid.liveins 0 b (ap (λ bs. slice_get bs 0) (take-all f.blocks) ∙ e) }

pub lowered-is-listed : LoweredIsListed
lowered-is-listed t f valid classes = within-keeps-listed t f (lowered t f) begins (start-is-listed t f (valid-has-start t f valid))
  where
    begins : (c : Block) → slice_get (lowered t f).blocks 0 ≡ Some c → (b : Block) × BeginsWithin t f (lowered t f) b c
    begins c e =
        let z = lowered-began t f c e in
        let was = λ (l : Lane) (h : LiveAt t (lowered t f) (Start c.number) l). phis-keep-start t f valid z.0 z.1 l (lowered-live t f valid classes z.0.number l (subst (λ n. LiveAt t (lowered t f) (Start n) l) z.2 h)) in
        (z.0, record { there = z.1; number = z.2; liveins = z.3; units = λ u h. was (UnitLane u) h; ranges = λ w k h. (w, k, was (VirtualLane w k) h) })
