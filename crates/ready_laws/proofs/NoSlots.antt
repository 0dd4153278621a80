-- Lowering and joins make no stores to slots and no reloads.
use Rattle.std.proofs.Common.{◌≡◌, ◌<◌, ◌&&◌, ◌||◌, ◌++◌, ◌+◌, ℕ, zero, suc, Bool, true, false, not, cond, List, [], ◌∷◌, Option, Some, None, map, filter, flat_map, length, take, drop, refl, sym, ap, ◌∙◌, subst, arith}
use Rattle.std.specs.Prelude.{nat_eq, slice_get}
use Rattle.std.specs.List.{position_or_len}
use Rattle.std.proofs.lemmas.Bool.{not-true}
use Rattle.target_base.specs.declared.types.ClassId.{ClassId}
use Rattle.target_base.specs.declared.types.Target.{Target}
use Rattle.target_base.specs.Rules.{is_phi}
use Rattle.meaning.specs.Live.{Among as Member, here as first, there as later}
use Rattle.mir_func.specs.declared.func.Loc.{Loc}
use Rattle.mir_func.specs.declared.func.Loc.TheVariants.{Fixed, Virtual}
use Rattle.mir_func.specs.declared.func.RegOp.{RegOp}
use Rattle.mir_func.specs.declared.func.Operand.{Operand}
use Rattle.mir_func.specs.declared.func.Operand.TheVariants as operands
use Rattle.mir_func.specs.declared.func.Op.TheVariants as ops
use Rattle.mir_func.specs.declared.func.Instr.{Instr}
use Rattle.mir_func.specs.declared.func.Block.{Block}
use Rattle.mir_func.specs.Value.{Function}
use Rattle.mir_func.specs.Binding.{does, is_definition, is_terminator, passes}
use Rattle.mir_meaning.specs.declared.Form.TheVariants as forms
use Rattle.mir_meaning.specs.Rules.{V5, V6, V9, V10, V15, V15_frame, spills_or_reloads}
use Rattle.mir_meaning.specs.Valid.{block_fault, shape_fault}
use Rattle.phi_elim.specs.declared.arrivals.Arrival.{Arrival}
use Rattle.phi_elim.specs.Moves.{copy_of, copy_op, destination_of, implicit_def_op, move_of, source_of, undefining, whole_definition, whole_use}
use Rattle.phi_elim.specs.Numbered.{blocks_numbered, numbered}
use Rattle.phi_elim.specs.Phis.{all_in_place, arriving, arriving_at, before_terminators, from_incoming, in_place, located_class, lowered_blocks, phi_count, phi_number, phis_lowered}
use Rattle.two_address.specs.declared.forms.InstrLowering.{InstrLowering}
use Rattle.two_address.specs.declared.forms.InstrLowering.TheVariants as forms_of
use Rattle.two_address.specs.declared.sequences.SubregInput.{SubregInput}
use Rattle.two_address.specs.declared.ties.Move.{Move}
use Rattle.two_address.specs.declared.ties.Tie.{Tie}
use Rattle.two_address.specs.Lowered.{blocks_lowered, classes_made, form_lowered, form_of, instr_lowered, instrs_lowered, next_range, ties_lowered}
use Rattle.two_address.specs.Sequences.{at_last, beginning, built, fill_all, into_part, is_input, keeping_text, parts_of}
use Rattle.two_address.specs.Ties.{copies, copy_lowered, ties_in, undefined_first, undefined_whole, with_operands}
use Rattle.instr_effects.proofs.Members.{either-elim, filter-of, flat-of, map-of, member-elim, member-none}
use Rattle.live_laws.proofs.Effects.Valid.{all-clean}
use Rattle.lowering_laws.proofs.Placed.{copy-effect, undef-effect}
use Rattle.lowering_laws.proofs.Ruled.{all-rules, each-rules}
use Rattle.live_edits.specs.declared.fold.Join.{Join}
use Rattle.live_edits.specs.Folded.{becomes_identity, folded, folded_block, joined_instr}
use Rattle.join_laws.specs.Joined.{Tried, done, joins, stays}
use Rattle.ready_laws.specs.Frames.{HasNoSlots, JoinedHasNoSlots, LoweredHasNoSlots}

take-in : {X : Type 0} (n : ℕ) (x : X) (xs : List X) → Member x (take n xs) → Member x xs
take-in zero x xs m = absurd (member-none x m)
take-in (suc n) x [] m = absurd (member-none x m)
take-in (suc n) x (y ∷ ys) m = member-elim x y (take n ys) (λ e. subst (λ z. Member z (y ∷ ys)) (sym e) first) (λ k. later (take-in n x ys k)) m

drop-in : {X : Type 0} (n : ℕ) (x : X) (xs : List X) → Member x (drop n xs) → Member x xs
drop-in zero x [] m = m
drop-in zero x (y ∷ ys) m = m
drop-in (suc n) x [] m = m
drop-in (suc n) x (y ∷ ys) m = later (drop-in n x ys m)

module _ (t : Target) where
  -- it is neither a store to a slot nor a reload
  abbrev IsStill : Instr → Type 0
  IsStill i = does spills_or_reloads t i ≡ false

  abbrev AllStill : List Instr → Type 0
  AllStill is = (x : Instr) → Member x is → IsStill x

  none-still : AllStill []
  none-still x m = absurd (member-none x m)

  more-still : (i : Instr) (is : List Instr) → IsStill i → AllStill is → AllStill (i ∷ is)
  more-still i is s a x m = member-elim x i is (λ e. ap (does spills_or_reloads t) e ∙ s) (a x) m

  both-still : (xs ys : List Instr) → AllStill xs → AllStill ys → AllStill (xs ++ ys)
  both-still xs ys a b x m = either-elim x xs ys (a x) (b x) m

  flat-still : {X : Type 0} (g : X → List Instr) (xs : List X) → ((x : X) → AllStill (g x)) → AllStill (flat_map g xs)
  flat-still g xs h y m = let z = flat-of g y xs m in h z.0 y z.2

  map-still : {X : Type 0} (g : X → Instr) (xs : List X) → ((x : X) → IsStill (g x)) → AllStill (map g xs)
  map-still g xs h y m = let z = map-of g y xs m in ap (does spills_or_reloads t) z.2 ∙ h z.0

  numbered-still : (n : ℕ) (is : List Instr) → AllStill is → AllStill (numbered n is)
  numbered-still n [] a = none-still
  numbered-still n (i ∷ is) a = more-still (record i { id = n }) (numbered (n + 1) is) (a i first) (numbered-still (n + 1) is (λ x m. a x (later m)))

  copy-still : (i : Instr) → i.op ≡ ops.Known copy_op → IsStill i
  copy-still i e = ap (passes spills_or_reloads) (copy-effect t i e)

  undef-still : (i : Instr) → i.op ≡ ops.Known implicit_def_op → IsStill i
  undef-still i e = ap (passes spills_or_reloads) (undef-effect t i e)

  move-still : (to from : RegOp) → IsStill (move_of to from)
  move-still to from = go from.undef
    where
      go : (y : Bool) → IsStill (cond y (undefining to) (copy_of to (source_of from)))
      go true = undef-still (undefining to) refl
      go false = copy-still (copy_of to (source_of from)) refl

  -- phis

  place-still : (c : ℕ) (i : Instr) → IsStill i → IsStill (in_place t c i)
  place-still c i s = go (does is_phi t i)
    where
      go : (b : Bool) → IsStill (cond b (record i { op = ops.Known copy_op; operands = from_incoming c i.operands }) i)
      go true = copy-still (record i { op = ops.Known copy_op; operands = from_incoming c i.operands }) refl
      go false = s

  places-still : (c : ℕ) (is : List Instr) → AllStill is → AllStill (all_in_place t c is)
  places-still c [] a = none-still
  places-still c (i ∷ is) a = more-still (in_place t c i) (all_in_place t (c + phi_number t i) is) (place-still c i (a i first)) (places-still (c + phi_number t i) is (λ x m. a x (later m)))

  before-still : (new is : List Instr) → AllStill new → AllStill is → AllStill (before_terminators t new is)
  before-still new is a b =
      let n = position_or_len (does is_terminator t) is in
      both-still (take n is) (new ++ drop n is) (λ x m. b x (take-in n x is m)) (both-still new (drop n is) a (λ x m. b x (drop-in n x is m)))

  abbrev AllBlocksStill : List Block → Type 0
  AllBlocksStill bs = (b : Block) (i : Instr) → Member b bs → Member i b.instrs → IsStill i

  phis-still : (list : List Arrival) (n k c : ℕ) (bs : List Block) → AllBlocksStill bs → AllBlocksStill (blocks_numbered n (lowered_blocks t list k c bs))
  phis-still list n k c [] h d x md mx = absurd (member-none d md)
  phis-still list n k c (b ∷ bs) h d x md mx =
      let new = arriving_at list k in
      let is = before_terminators t new (all_in_place t c b.instrs) in
      member-elim d (record b { instrs = numbered n is }) (blocks_numbered (n + length is) (lowered_blocks t list (k + 1) (c + phi_count t b.instrs) bs))
      (λ e. numbered-still n is (before-still new (all_in_place t c b.instrs) (map-still arriving (filter (λ (a : Arrival). nat_eq a.block k) list) (λ a. move-still (whole_definition a.to) a.from)) (places-still c b.instrs (λ y m. h b y first m))) x (subst (λ (q : Block). Member x q.instrs) e mx))
      (λ m. phis-still list (n + length is) (k + 1) (c + phi_count t b.instrs) bs (λ y z my mz. h y z (later my) mz) d x m mx) md

  -- ties

  first-still : (o : Operand) → AllStill (undefined_first o)
  first-still (operands.Reg p) = go (is_definition p && p.undef)
    where
      whole : (l : Loc) → AllStill (undefined_whole l)
      whole (Virtual v) = more-still (undefining (whole_definition v)) [] (undef-still (undefining (whole_definition v)) refl) none-still
      whole (Fixed r) = none-still

      go : (y : Bool) → AllStill (cond y (undefined_whole p.loc) [])
      go true = whole p.loc
      go false = none-still
  first-still (operands.Imm z) = none-still
  first-still (operands.Block z) = none-still
  first-still (operands.Stack z) = none-still
  first-still (operands.FixedStack z) = none-still
  first-still (operands.Symbol z) = none-still
  first-still (operands.Index z) = none-still
  first-still (operands.Mask z) = none-still

  last-still : (c v : ℕ) (ps : List SubregInput) → AllStill (at_last c v ps)
  last-still c v ps = go (is_input (Virtual v) ps)
    where
      go : (y : Bool) → AllStill (cond y (copy_of (whole_definition v) (whole_use c) ∷ []) [])
      go true = more-still (copy_of (whole_definition v) (whole_use c)) [] (copy-still (copy_of (whole_definition v) (whole_use c)) refl) none-still
      go false = none-still

  begun-still : (k : Option ClassId) (to : ℕ) (ps : List SubregInput) → AllStill (beginning t k to ps)
  begun-still k to ps = go (fill_all t k ps)
    where
      go : (y : Bool) → AllStill (cond y [] (undefining (whole_definition to) ∷ []))
      go true = none-still
      go false = more-still (undefining (whole_definition to)) [] (undef-still (undefining (whole_definition to)) refl) none-still

  kept-still : (i : Instr) (xs : List Instr) → AllStill xs → AllStill (keeping_text i xs)
  kept-still i [] a = none-still
  kept-still i (x ∷ xs) a = more-still (record x { flags = i.flags; tail = i.tail }) xs (a x first) (λ y m. a y (later m))

  parts-still : (to : ℕ) (ps : List SubregInput) → AllStill (map (into_part to) ps)
  parts-still to ps = map-still (into_part to) ps (λ p. move-still (record (whole_definition to) { index = Some p.index }) p.input)

  copies-still : (m : Option Move) → AllStill (copies m)
  copies-still None = none-still
  copies-still (Some m) = more-still (copy_of m.to m.from) [] (copy-still (copy_of m.to m.from) refl) none-still

  copied-still : (i : Instr) (d s : RegOp) → IsStill i → IsStill (copy_lowered i d s)
  copied-still i d s h = go s.undef
    where
      go : (y : Bool) → IsStill (cond y (record i { op = ops.Known implicit_def_op; operands = operands.Reg (destination_of d) ∷ [] }) (record i { operands = operands.Reg (record d { undef = false }) ∷ operands.Reg s ∷ [] }))
      go true = undef-still (record i { op = ops.Known implicit_def_op; operands = operands.Reg (destination_of d) ∷ [] }) refl
      go false = h

  form-still : (cs : List (Option ClassId)) (c : ℕ) (i : Instr) → IsStill i → (x : InstrLowering) → AllStill (form_lowered t cs c i x)
  form-still cs c i s (forms_of.Copy d u) = more-still (copy_lowered i d u) [] (copied-still i d u s) none-still
  form-still cs c i s (forms_of.Sequence v) =
      let ps = parts_of (drop 1 i.operands) in
      let to = built c v ps in
      let k = located_class cs (Virtual v) in
      kept-still i (beginning t k to ps ++ (map (into_part to) ps ++ at_last c v ps)) (both-still (beginning t k to ps) (map (into_part to) ps ++ at_last c v ps) (begun-still k to ps) (both-still (map (into_part to) ps) (at_last c v ps) (parts-still to ps) (last-still c v ps)))
  form-still cs c i s (forms_of.Insertion v a p) =
      let to = built c v (p ∷ []) in
      kept-still i (move_of (whole_definition to) a ∷ into_part to p ∷ at_last c v (p ∷ []))
      (more-still (move_of (whole_definition to) a) (into_part to p ∷ at_last c v (p ∷ [])) (move-still (whole_definition to) a)
      (more-still (into_part to p) (at_last c v (p ∷ [])) (move-still (record (whole_definition to) { index = Some p.index }) p.input) (last-still c v (p ∷ []))))
  form-still cs c i s forms_of.Other =
      let ties = ties_in t c i in
      both-still (flat_map (λ (tie : Tie). copies tie.before) ties) (with_operands t cs ties i ∷ flat_map (λ (tie : Tie). copies tie.after) ties)
      (flat-still (λ (tie : Tie). copies tie.before) ties (λ tie. copies-still tie.before))
      (more-still (with_operands t cs ties i) (flat_map (λ (tie : Tie). copies tie.after) ties) s (flat-still (λ (tie : Tie). copies tie.after) ties (λ tie. copies-still tie.after)))

  instr-still : (cs : List (Option ClassId)) (c : ℕ) (i : Instr) → IsStill i → AllStill (instr_lowered t cs c i)
  instr-still cs c i s = both-still (flat_map undefined_first i.operands) (form_lowered t cs c i (form_of t i)) (flat-still undefined_first i.operands first-still) (form-still cs c i s (form_of t i))

  instrs-still : (cs : List (Option ClassId)) (c : ℕ) (is : List Instr) → AllStill is → AllStill (instrs_lowered t cs c is)
  instrs-still cs c [] a = none-still
  instrs-still cs c (i ∷ is) a = both-still (instr_lowered t cs c i) (instrs_lowered t cs (next_range t cs c i) is) (instr-still cs c i (a i first)) (instrs-still cs (next_range t cs c i) is (λ x m. a x (later m)))

  ties-still : (cs : List (Option ClassId)) (n c : ℕ) (bs : List Block) → AllBlocksStill bs → AllBlocksStill (blocks_numbered n (blocks_lowered t cs c bs))
  ties-still cs n c [] h d x md mx = absurd (member-none d md)
  ties-still cs n c (b ∷ bs) h d x md mx =
      let is = instrs_lowered t cs c b.instrs in
      member-elim d (record b { instrs = numbered n is }) (blocks_numbered (n + length is) (blocks_lowered t cs (c + length (classes_made t cs c b.instrs)) bs))
      (λ e. numbered-still n is (instrs-still cs c b.instrs (λ y m. h b y first m)) x (subst (λ (q : Block). Member x q.instrs) e mx))
      (λ m. ties-still cs (n + length is) (c + length (classes_made t cs c b.instrs)) bs (λ y z my mz. h y z (later my) mz) d x m mx) md

  -- a function

  phis-have-none : (f : Function) → HasNoSlots t f → HasNoSlots t (phis_lowered t f)
  unfolding phis_lowered V15_frame
  phis-have-none f h = record { frames = h.frames; opcodes = phis-still _ 0 0 (length f.classes) f.blocks h.opcodes }

  ties-have-none : (f : Function) → HasNoSlots t f → HasNoSlots t (ties_lowered t f)
  unfolding ties_lowered V15_frame
  ties-have-none f h = record { frames = h.frames; opcodes = ties-still f.classes 0 (length f.classes) f.blocks h.opcodes }

  -- a valid source

  step : (b : Bool) (x : Option ℕ) (r : ℕ) → cond b x (Some r) ≡ None → (b ≡ true) × (x ≡ None)
  step true x r e = (refl, e)
  step false x r e = absurd (cc)

  source-still : (f : Function) → shape_fault t forms.Source f ≡ None → AllBlocksStill f.blocks
  unfolding V15
  source-still f clean b i mb mi = not-true (does spills_or_reloads t i) (each-rules t f (all-rules t f clean) b i mb mi).fifteen

  source-frame : (f : Function) (b : Block) → block_fault t forms.Source f 0 b ≡ None → V15_frame forms.Source f ≡ true
  unfolding block_fault
  source-frame f b e =
      let r5 = step (V5 f 0 b) _ 5 e in
      let r6 = step (V6 f 0 b) _ 6 r5.1 in
      let r9 = step (V9 t f 0 b) _ 9 r6.1 in
      let r10 = step (V10 t f 0 b) _ 10 r9.1 in
      (step (not (nat_eq 0 0) || V15_frame forms.Source f) _ 15 r10.1).0

  source-frames : (f : Function) → shape_fault t forms.Source f ≡ None → 0 < length f.blocks → V15_frame forms.Source f ≡ true
  source-frames f clean some = go f.blocks refl some
    where
      go : (bs : List Block) → f.blocks ≡ bs → 0 < length bs → V15_frame forms.Source f ≡ true
      go [] e h = absurd (omega arith)
      go (b ∷ bs) e h = source-frame f b (all-clean t forms.Source f clean 0 b (ap (λ (cs : List Block). slice_get cs 0) e)).0

  -- joins

  join-has-none : (f : Function) (j : Join) → HasNoSlots t f → HasNoSlots t (folded t j f)
  unfolding V15_frame
  join-has-none f j h = record {
    frames = h.frames;
    opcodes = λ c x mc mx.
        let b = map-of (folded_block t f j) c f.blocks mc in
        let i = map-of (joined_instr t j) x (filter (λ (y : Instr). not (becomes_identity t f j y)) b.0.instrs) (subst (λ (d : Block). Member x d.instrs) b.2 mx) in
        ap (does spills_or_reloads t) i.2 ∙ h.opcodes b.0 i.0 b.1 (filter-of (λ (y : Instr). not (becomes_identity t f j y)) i.0 b.0.instrs i.1).0;
  }

tried-have-none : {t : Target} {ids : List ℕ} {f g : Function} {js : List Join} → Tried t ids f js g → HasNoSlots t f → HasNoSlots t g
tried-have-none done h = h
tried-have-none {t = t} (joins {f = f} {j = j} z on) h = tried-have-none on (join-has-none t f j h)
tried-have-none (stays z on) h = tried-have-none on h

pub lowered-has-no-slots : LoweredHasNoSlots
lowered-has-no-slots t f valid some = ties-have-none t (phis_lowered t f) (phis-have-none t f (record { frames = source-frames t f valid.shape some; opcodes = source-still t f valid.shape }))

pub joined-has-no-slots : JoinedHasNoSlots
joined-has-no-slots t freqs f g js z h = tried-have-none z h
