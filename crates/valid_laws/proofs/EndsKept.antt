-- Blocks that end alike keep the further rules on blocks; so do those of a valid source behind lowering.
use Rattle.std.proofs.Common.{◌≡◌, not, ◌&&◌, ◌||◌, ◌∙◌, ◌+◌, ℕ, zero, suc, Bool, true, false, cond, List, [], ◌∷◌, Option, Some, None, filter, length, map, refl, ap, subst}
use Rattle.std.specs.Prelude.{codes, nat_eq, nat_lt, slice_get}
use Rattle.target_base.specs.declared.types.Target.{Target}
use Rattle.meaning.specs.Live.{Among as Member}
use Rattle.mir_func.specs.declared.func.Edge.{Edge as Successor}
use Rattle.mir_func.specs.declared.func.Instr.{Instr}
use Rattle.mir_func.specs.declared.func.Block.{Block}
use Rattle.mir_func.specs.Value.{Function}
use Rattle.mir_func.specs.Binding.{does, is_terminator}
use Rattle.mir_meaning.specs.Codes.{ends_without_terminator, falls_through}
use Rattle.mir_meaning.specs.Points.{has_no_phis}
use Rattle.mir_meaning.specs.Registers.{has_number}
use Rattle.mir_meaning.specs.declared.Form.TheVariants as forms
use Rattle.mir_meaning.specs.Rules.{V5, V6, V9, V10, V15_frame, V16, block_numbers, contains, predecessors, successors_of}
use Rattle.mir_meaning.specs.Valid.{block_fault, shape_fault}
use Rattle.phi_elim.specs.declared.arrivals.Arrival.{Arrival}
use Rattle.phi_elim.specs.Numbered.{blocks_numbered, numbered}
use Rattle.phi_elim.specs.Phis.{all_in_place, arriving, arriving_at, before_terminators, lowered_blocks, phi_count, phis_lowered}
use Rattle.two_address.specs.Lowered.{blocks_lowered, classes_made, instrs_lowered, lowered, ties_lowered}
use Rattle.instr_effects.proofs.Members.{map-of}
use Rattle.live_laws.specs.Effects.Shaped.{AreClasses}
use Rattle.live_laws.proofs.Effects.Moving.{some-same}
use Rattle.live_laws.proofs.Effects.Valid.{all-clean}
use Rattle.lowering_laws.proofs.Blocks.{phis_are_gone}
use Rattle.lowering_laws.proofs.Eliminated.{eliminated-classes, eliminated-rules}
use Rattle.lowering_laws.proofs.Lowering.{arrs}
use Rattle.lowering_laws.proofs.Placed.{arriving-goes-on, before-set, falls-same, open-same}
use Rattle.lowering_laws.proofs.Replaced.{AllStep, falls-on, open-on}
use Rattle.lowering_laws.proofs.Ruled.{EachRules, all-rules, each-rules}
use Rattle.lowering_laws.proofs.Ties.{steps-all}
use Rattle.valid_laws.specs.Rules.{FurtherBlockRules, HasBlockRules}
use Rattle.valid_laws.specs.Kept.{AlikeKeepsBlocks, AllEndAlike, EndsAlike, LoweredHasBlocks}

module _ (t : Target) where
  numbers-alike : (bs cs : List Block) → AllEndAlike t bs cs → block_numbers cs ≡ block_numbers bs
  numbers-alike [] [] h = refl
  numbers-alike [] (c ∷ cs) h = absurd h
  numbers-alike (b ∷ bs) [] h = absurd h
  numbers-alike (b ∷ bs) (c ∷ cs) h = λ k. h.0.number k ∷ numbers-alike bs cs h.1 k

  length-alike : (bs cs : List Block) → AllEndAlike t bs cs → length cs ≡ length bs
  length-alike [] [] h = refl
  length-alike [] (c ∷ cs) h = absurd h
  length-alike (b ∷ bs) [] h = absurd h
  length-alike (b ∷ bs) (c ∷ cs) h = ap suc (length-alike bs cs h.1)

  into-alike : (n : ℕ) (bs cs : List Block) → AllEndAlike t bs cs → block_numbers (filter (λ b. has_number (successors_of b) n) cs) ≡ block_numbers (filter (λ b. has_number (successors_of b) n) bs)
  into-alike n [] [] h = refl
  into-alike n [] (c ∷ cs) h = absurd h
  into-alike n (b ∷ bs) [] h = absurd h
  into-alike n (b ∷ bs) (c ∷ cs) h =
      ap (λ (es : List Successor). block_numbers (cond (has_number (map (λ (e : Successor). e.block) es) n) (c ∷ filter (λ b. has_number (successors_of b) n) cs) (filter (λ b. has_number (successors_of b) n) cs))) h.0.successors
      ∙ go (has_number (successors_of b) n) (into-alike n bs cs h.1)
    where
      go : (u : Bool) → block_numbers (filter (λ b. has_number (successors_of b) n) cs) ≡ block_numbers (filter (λ b. has_number (successors_of b) n) bs)
          → block_numbers (cond u (c ∷ filter (λ b. has_number (successors_of b) n) cs) (filter (λ b. has_number (successors_of b) n) cs)) ≡ block_numbers (cond u (b ∷ filter (λ b. has_number (successors_of b) n) bs) (filter (λ b. has_number (successors_of b) n) bs))
      go true e = λ k. h.0.number k ∷ e k
      go false e = e

  block-alike : (k : ℕ) (c : Block) (bs cs : List Block) → AllEndAlike t bs cs → slice_get cs k ≡ Some c → (b : Block) × (slice_get bs k ≡ Some b) × EndsAlike t b c
  block-alike k c [] [] h e = absurd (cc)
  block-alike k c [] (d ∷ cs) h e = absurd h
  block-alike k c (b ∷ bs) [] h e = absurd h
  block-alike zero c (b ∷ bs) (d ∷ cs) h e = (b, refl, subst (EndsAlike t b) (some-same d c e) h.0)
  block-alike (suc k) c (b ∷ bs) (d ∷ cs) h e = block-alike k c bs cs h.1 e

  module _ (f g : Function) (all : AllEndAlike t f.blocks g.blocks) (k : ℕ) (b c : Block) (alike : EndsAlike t b c) where
    six-kept : V6 f k b ≡ true → V6 g k c ≡ true
    unfolding V6
    six-kept h = (λ i. not (nat_eq k 0) || nat_eq (length ((ap (predecessors g) alike.number ∙ into-alike b.number f.blocks g.blocks all) i)) 0) ∙ h

    ten-kept : V10 t f k b ≡ true → V10 t g k c ≡ true
    unfolding V10
    ten-kept h = (λ i. nat_lt (suc k) (length-alike f.blocks g.blocks all i) || not (alike.falls i) || alike.opens i) ∙ h

    sixteen-kept : V16 b ≡ true → V16 c ≡ true
    unfolding V16
    sixteen-kept h = ap (λ bs. not (contains bs (codes "landing-pad")) && not (contains bs (codes "ehfunclet-entry"))) alike.attributes ∙ h

pub alike-keeps-blocks : AlikeKeepsBlocks
alike-keeps-blocks t f g all has k c e =
    let z = block-alike t k c f.blocks g.blocks all e in
    let was = has k z.0 z.1 in
    record { six = six-kept t f g all k z.0 c z.2 was.six; ten = ten-kept t f g all k z.0 c z.2 was.ten; sixteen = sixteen-kept t f g all k z.0 c z.2 was.sixteen }

-- a valid source has the rules

step : (b : Bool) (x : Option ℕ) (r : ℕ) → cond b x (Some r) ≡ None → (b ≡ true) × (x ≡ None)
step true x r e = (refl, e)
step false x r e = absurd (cc)

module _ (t : Target) (f : Function) where
  block-rules : (k : ℕ) (b : Block) → block_fault t forms.Source f k b ≡ None → FurtherBlockRules t f k b
  unfolding block_fault
  block-rules k b e =
      let r5 = step (V5 f k b) _ 5 e in
      let r6 = step (V6 f k b) _ 6 r5.1 in
      let r9 = step (V9 t f k b) _ 9 r6.1 in
      let r10 = step (V10 t f k b) _ 10 r9.1 in
      let r15 = step (not (nat_eq k 0) || V15_frame forms.Source f) _ 15 r10.1 in
      let r16 = step (V16 b) _ 16 r15.1 in
      record { six = r6.0; ten = r10.0; sixteen = r16.0 }

  pub source-blocks : shape_fault t forms.Source f ≡ None → HasBlockRules t f
  source-blocks clean k b e = block-rules k b (all-clean t forms.Source f clean k b e).0

-- blocks behind phi elimination

open-by : (t : Target) (es ds : List Successor) (js is : List Instr) → es ≡ ds → ends_without_terminator t js ≡ ends_without_terminator t is
    → (t.options.open_blocks && nat_eq (length es) 0 && ends_without_terminator t js) ≡ (t.options.open_blocks && nat_eq (length ds) 0 && ends_without_terminator t is)
open-by t es ds js is e h = λ k. t.options.open_blocks && nat_eq (length (e k)) 0 && h k

module _ (t : Target) where
  arrive-on : (list : List Arrival) (k : ℕ) (x : Instr) → Member x (arriving_at list k) → does is_terminator t x ≡ false
  arrive-on list k x m = let z = map-of arriving x (filter (λ (a : Arrival). nat_eq a.block k) list) m in ap (does is_terminator t) z.2 ∙ arriving-goes-on t z.0

  phis-alike : (list : List Arrival) (n k c : ℕ) (bs : List Block) → AllEndAlike t bs (blocks_numbered n (lowered_blocks t list k c bs))
  phis-alike list n k c [] = tt
  phis-alike list n k c (b ∷ bs) =
      let new = arriving_at list k in
      let placed = all_in_place t c b.instrs in
      let same = before-set t new placed in (
        record {
          number = refl;
          attributes = refl;
          successors = refl;
          falls = ap (λ js. falls_through t (numbered n js)) same ∙ falls-same t new (arrive-on list k) n c b.instrs;
          opens = open-by t b.successors b.successors (numbered n (before_terminators t new placed)) b.instrs refl (ap (λ js. ends_without_terminator t (numbered n js)) same ∙ open-same t new (arrive-on list k) n c b.instrs);
        },
        phis-alike list (n + length (before_terminators t new placed)) (k + 1) (c + phi_count t b.instrs) bs,
      )

  eliminated-alike : (f : Function) → AllEndAlike t f.blocks (phis_lowered t f).blocks
  unfolding phis_lowered
  eliminated-alike f = phis-alike (arrs t f) 0 0 (length f.classes) f.blocks

-- blocks in two-address form

module _ (t : Target) (f : Function) where
  ties-alike : (n c : ℕ) (bs : List Block) → AllStep t f c bs → AllEndAlike t bs (blocks_numbered n (blocks_lowered t f.classes c bs))
  ties-alike n c [] s = tt
  ties-alike n c (b ∷ bs) s =
      let made = instrs_lowered t f.classes c b.instrs in (
        record {
          number = refl;
          attributes = refl;
          successors = refl;
          falls = falls-on t f b n c b.instrs s.0;
          opens = open-by t b.successors b.successors (numbered n made) b.instrs refl (open-on t f b n c b.instrs s.0);
        },
        ties-alike (n + length made) (c + length (classes_made t f.classes c b.instrs)) bs s.1,
      )

  tied-alike : has_no_phis t f.blocks ≡ true → AreClasses t f → EachRules t f → AllEndAlike t f.blocks (ties_lowered t f).blocks
  unfolding ties_lowered
  tied-alike plain classes rules = ties-alike 0 (length f.classes) f.blocks (steps-all t f plain classes rules)

pub lowered-has-blocks : LoweredHasBlocks
lowered-has-blocks t f valid classes =
    let h = phis_lowered t f in
    let rules = eliminated-rules t f (each-rules t f (all-rules t f valid.shape)) in
    alike-keeps-blocks t h (lowered t f) (tied-alike t h (phis_are_gone t f) (eliminated-classes t f classes) rules)
    (alike-keeps-blocks t f h (eliminated-alike t f) (source-blocks t f valid.shape))
