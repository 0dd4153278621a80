-- A spill keeps that stores and reloads name the slots that were given, and no other instructions do.
use Rattle.std.proofs.Common.{◌≡◌, ◌⊎◌, inl, inr, ◌||◌, ◌++◌, ◌∙◌, ℕ, zero, suc, Bool, true, false, cond, List, [], ◌∷◌, Option, Some, None, drop, filter, flat_map, map, refl, sym, ap, subst, eq-eqb, eqb-true}
use Rattle.std.specs.Prelude.{find, nat_eq, option_and_then, option_map, slice_get, ◌==◌}
use Rattle.std.specs.List.{list_any}
use Rattle.std.proofs.lemmas.List.{map-append}
use Rattle.std.proofs.lemmas.List.Folds.{list_any-append}
use Rattle.target_base.specs.declared.types.ClassId.{ClassId}
use Rattle.target_base.specs.declared.types.Effect.TheVariants as effects
use Rattle.target_base.specs.declared.types.IndexId.{IndexId}
use Rattle.target_base.specs.declared.types.OpcodeDesc.{OpcodeDesc}
use Rattle.target_base.specs.declared.types.Role.TheVariants as roles
use Rattle.target_base.specs.declared.types.Target.{Target}
use Rattle.target_base.specs.Registers.{regs_of, reload_place, spill_place}
use Rattle.target_base.specs.Rules.{is_reload, is_spill, operand_regs, reloads, spills}
use Rattle.target_base.specs.Storage.{is_within}
use Rattle.target_base.proofs.Tests.{first_of_both}
use Rattle.meaning.specs.Live.{Among as Member, here as first, there as later}
use Rattle.mir_func.specs.declared.func.Loc.TheVariants.{Virtual}
use Rattle.mir_func.specs.declared.func.Op.TheVariants as ops
use Rattle.mir_func.specs.declared.func.RegOp.{RegOp}
use Rattle.mir_func.specs.declared.func.Operand.{Operand}
use Rattle.mir_func.specs.declared.func.Operand.TheVariants as operands
use Rattle.mir_func.specs.declared.func.Instr.{Instr}
use Rattle.mir_func.specs.declared.func.Block.{Block}
use Rattle.mir_func.specs.Value.{Function}
use Rattle.mir_func.specs.Binding.{Bound, TiedPair, does, explicit_bound, explicit_roles, known_opcode, passes, roles_of}
use Rattle.mir_meaning.specs.Places.{Variable}
use Rattle.mir_meaning.specs.Registers.{has_number}
use Rattle.mir_meaning.specs.declared.Form.TheVariants as forms
use Rattle.mir_meaning.specs.Rules.{V1, V15_frame, copy_fits, fits_role, spills_or_reloads}
use Rattle.instr_effects.proofs.Members.{either-elim, flat-of, map-of, member-elim, member-none}
use Rattle.live_laws.proofs.Effects.Lists.{all-of, any-in}
use Rattle.live_laws.proofs.Effects.Moving.{some-same}
use Rattle.live_laws.proofs.Touch.Roles.{met}
use Rattle.lowering_laws.specs.Shapes.{IsLowered}
use Rattle.lowering_laws.proofs.Placed.{copy-effect}
use Rattle.lowering_laws.proofs.Seated.{bound-operand}
use Rattle.spiller.specs.Reaching.{Facts}
use Rattle.spiller.specs.Setting.{Spilling, class_beside, in_own_slot, is_live_behind, lanes_named, opcode, own_class, part_class, plain_definition, plain_use, reload, store, undef_use}
use Rattle.spiller.specs.Rematerialised.{Reading, copy_reading, repeated, repeated_for, tied_readings, way_reading}
use Rattle.spiller.specs.Slots.{Slots, least_free, original_of, own_slot, slot_of}
use Rattle.spiller.specs.Spilled.{Change, OwnDefinition, Seats, change, given, in_place_of, is_slot, names_slot, numbered_operands, seated_operand, seats_from, setting_of, slots_after, spilled, stored, tied_reload, with_tinies}
use Rattle.spill_laws.proofs.InForm.{place-in}
use Rattle.spill_laws.proofs.Kept.{orderly}
use Rattle.spill_laws.proofs.Opcodes.{IsSlot, found, reload-slot, repeats-for, spill-slot}
use Rattle.spill_laws.proofs.Outcomes.{Outcome, Passes, Replaces, from_range, goes, instrs-of, passed, reloaded_on, repeats, replaced, seated as seats, stays, stored_on, to_range, undefined, within}
use Rattle.spill_laws.proofs.Ranges.{all-instrs, numbered-of}
use Rattle.ready_laws.specs.Frames.{HasFrames, SpillKeepsFrames, names_own, slot_numbers}
use Rattle.ready_laws.proofs.Frames.{all-own}
use Rattle.ready_laws.proofs.FreeSlots.{free}

-- lists of numbers

abbrev numbers-of : List (ℕ × ℕ) → List ℕ
numbers-of gs = map (λ p. p.1) gs

or-true : (b : Bool) → (b || true) ≡ true
or-true true = refl
or-true false = refl

has-both : (gs hs : List (ℕ × ℕ)) (n : ℕ) → has_number (numbers-of (gs ++ hs)) n ≡ (has_number (numbers-of gs) n || has_number (numbers-of hs) n)
has-both gs hs n = ap (λ ns. has_number ns n) (map-append (λ (p : ℕ × ℕ). p.1) gs hs) ∙ list_any-append (nat_eq n) (numbers-of gs) (numbers-of hs)

has-more : (gs hs : List (ℕ × ℕ)) (n : ℕ) → has_number (numbers-of gs) n ≡ true → has_number (numbers-of (gs ++ hs)) n ≡ true
has-more gs hs n h = has-both gs hs n ∙ ap (λ b. b || has_number (numbers-of hs) n) h

has-last : (gs : List (ℕ × ℕ)) (o n : ℕ) → has_number (numbers-of (gs ++ (o, n) ∷ [])) n ≡ true
has-last gs o n = has-both gs ((o, n) ∷ []) n ∙ (ap (λ b. has_number (numbers-of gs) n || (b || false)) (eq-eqb n n refl) ∙ or-true (has_number (numbers-of gs) n))

has-found : (p : ℕ × ℕ → Bool) (gs : List (ℕ × ℕ)) (n : ℕ) → option_map (λ q. q.1) (find p gs) ≡ Some n → has_number (numbers-of gs) n ≡ true
has-found p [] n e = absurd (cc)
has-found p (g ∷ gs) n e = go (p g) e (has-found p gs n)
  where
    go : (b : Bool) → option_map (λ q. q.1) (cond b (Some g) (find p gs)) ≡ Some n → (option_map (λ q. q.1) (find p gs) ≡ Some n → has_number (numbers-of gs) n ≡ true) → (nat_eq n g.1 || has_number (numbers-of gs) n) ≡ true
    go true h ih = ap (λ b. b || has_number (numbers-of gs) n) (eq-eqb n g.1 (sym (some-same g.1 n h)))
    go false h ih = ap (λ b. nat_eq n g.1 || b) (ih h) ∙ or-true (nat_eq n g.1)

has-either : (gs : List (ℕ × ℕ)) (o m n : ℕ) → has_number (numbers-of (gs ++ (o, m) ∷ [])) n ≡ true → (has_number (numbers-of gs) n ≡ true) ⊎ (n ≡ m)
has-either gs o m n h = go (has_number (numbers-of gs) n) refl (nat_eq n m) refl (sym (has-both gs ((o, m) ∷ []) n) ∙ h)
  where
    go : (a : Bool) → has_number (numbers-of gs) n ≡ a → (b : Bool) → nat_eq n m ≡ b → (a || (b || false)) ≡ true → (a ≡ true) ⊎ (n ≡ m)
    go true e b g h = inl refl
    go false e true g h = inr (eqb-true n m g)
    go false e false g h = absurd (cc)

not-first : (ns ms : List ℕ) (n : ℕ) → has_number (ns ++ ms) n ≡ false → has_number ns n ≡ false
not-first ns ms n h = go (has_number ns n) (sym (list_any-append (nat_eq n) ns ms) ∙ h)
  where
    go : (a : Bool) → (a || has_number ms n) ≡ false → a ≡ false
    go true e = absurd (cc)
    go false e = refl

drop-in : {X : Type 0} (n : ℕ) (x : X) (xs : List X) → Member x (drop n xs) → Member x xs
drop-in zero x [] m = m
drop-in zero x (y ∷ ys) m = m
drop-in (suc n) x [] m = m
drop-in (suc n) x (y ∷ ys) m = later (drop-in n x ys m)

-- stores and reloads by their opcodes

module _ (t : Target) (g : Function) where
  abbrev Moves : (ClassId → Option ℕ) → Type 0
  Moves place = (c : ClassId) (n : ℕ) → place c ≡ Some n → (d : OpcodeDesc) × (slice_get t.opcodes n ≡ Some d) × (spills_or_reloads d.effect ≡ true)

  store-moves : Moves (spill_place t)
  store-moves c n e =
      let z = found (spills t.classes (regs_of t c)) t.opcodes n e in
      (z.0, z.1, ap (λ b. b || is_reload z.0.effect) (first_of_both (is_spill z.0.effect) (is_within (regs_of t c) (operand_regs t.classes z.0)) z.2))

  load-moves : Moves (reload_place t)
  load-moves c n e =
      let z = found (reloads t.classes (regs_of t c)) t.opcodes n e in
      (z.0, z.1, ap (λ b. is_spill z.0.effect || b) (first_of_both (is_reload z.0.effect) (is_within (regs_of t c) (operand_regs t.classes z.0)) z.2) ∙ or-true (is_spill z.0.effect))

  -- a copy has no third operand
  no-copy : (y : Instr) (o : RegOp) (a b : Operand) → y.operands ≡ operands.Reg o ∷ a ∷ b ∷ [] → V1 t g y ≡ true → y.op ≡ ops.Known (opcode None) → ⊥
  no-copy y o a b are one e = by a (ap copy_fits (sym are) ∙ (met t g y effects.Copy (copy-effect t y e) one).3)
    where
      by : (a : Operand) → copy_fits (operands.Reg o ∷ a ∷ b ∷ []) ≡ true → ⊥
      by (operands.Reg z) h = cc
      by (operands.Imm z) h = cc
      by (operands.Block z) h = cc
      by (operands.Stack z) h = cc
      by (operands.FixedStack z) h = cc
      by (operands.Symbol z) h = cc
      by (operands.Index z) h = cc
      by (operands.Mask z) h = cc

  moves-slots : (place : ClassId → Option ℕ) → Moves place → (k : Option ClassId) (y : Instr) (o : RegOp) (a b : Operand) → y.op ≡ ops.Known (opcode (option_and_then place k)) → y.operands ≡ operands.Reg o ∷ a ∷ b ∷ [] → V1 t g y ≡ true → does spills_or_reloads t y ≡ true
  moves-slots place moves None y o a b e are one = absurd (no-copy y o a b are one e)
  moves-slots place moves (Some c) y o a b e are one = go (place c) refl e
    where
      go : (q : Option ℕ) → place c ≡ q → y.op ≡ ops.Known (opcode q) → does spills_or_reloads t y ≡ true
      go None h e = absurd (no-copy y o a b are one e)
      go (Some n) h e =
          let z = moves c n h in
          ap (λ x. passes spills_or_reloads (option_map (λ (d : OpcodeDesc). d.effect) (known_opcode t x))) e ∙ (ap (λ q. passes spills_or_reloads (option_map (λ (d : OpcodeDesc). d.effect) q)) z.1 ∙ z.2)

  -- only the opcode and the operands count
  one-same : (i j : Instr) → i.op ≡ j.op → i.operands ≡ j.operands → V1 t g i ≡ true → V1 t g j ≡ true
  unfolding V1
  one-same i j op are w = (λ k. V1 t g (record j { op = sym op k; operands = sym are k })) ∙ w

module _ (t : Target) (f : Function) (slots : Slots) (v : ℕ) (facts : Facts) where
  abbrev s : Spilling
  s = setting_of t f slots v facts

  abbrev g : Function
  g = spilled s

  abbrev new : Slots
  new = slots_after slots s

  -- the slots then

  abbrev with : Option ℕ → Slots
  with q = elim q as (λ q. Slots) [ None ↦ record slots { given = slots.given ++ ((original_of slots v, own_slot slots v) ∷ []) } | Some n ↦ slots ]

  taken-same : new.taken ≡ slots.taken
  unfolding slots_after
  taken-same = go (names_slot s.slot g)
    where
      by : (q : Option ℕ) → (with q).taken ≡ slots.taken
      by None = refl
      by (Some n) = refl

      go : (b : Bool) → (cond b (with (slot_of slots v)) slots).taken ≡ slots.taken
      go true = by (slot_of slots v)
      go false = refl

  given-grows : (n : ℕ) → has_number (slot_numbers slots) n ≡ true → has_number (slot_numbers new) n ≡ true
  unfolding slots_after
  given-grows n h = go (names_slot s.slot g)
    where
      by : (q : Option ℕ) → has_number (slot_numbers (with q)) n ≡ true
      by None = has-more slots.given ((original_of slots v, own_slot slots v) ∷ []) n h
      by (Some m) = h

      go : (b : Bool) → has_number (slot_numbers (cond b (with (slot_of slots v)) slots)) n ≡ true
      go true = by (slot_of slots v)
      go false = h

  own-given : names_slot s.slot g ≡ true → has_number (slot_numbers new) s.slot ≡ true
  unfolding slots_after
  own-given named = go (names_slot s.slot g) named
    where
      by : (q : Option ℕ) → slot_of slots v ≡ q → has_number (slot_numbers (with q)) (own_slot slots v) ≡ true
      by None e = has-last slots.given (original_of slots v) (own_slot slots v)
      by (Some n) e =
          ap (λ (r : Option ℕ). has_number (slot_numbers slots) (elim r as (λ r. ℕ) [ None ↦ least_free (slots.taken ++ map (λ (p : ℕ × ℕ). p.1) slots.given) | Some m ↦ m ])) e
          ∙ has-found (λ (p : ℕ × ℕ). p.0 == original_of slots v) slots.given n e

      go : (b : Bool) → b ≡ true → has_number (slot_numbers (cond b (with (slot_of slots v)) slots)) (own_slot slots v) ≡ true
      go true e = by (slot_of slots v) refl
      go false e = absurd (cc)

  -- a slot among these was given before, or is the least number that is free
  abbrev IsTraced : ℕ → Slots → Type 0
  IsTraced n z = has_number (slot_numbers z) n ≡ true → (has_number (slot_numbers slots) n ≡ true) ⊎ (n ≡ least_free (slots.taken ++ numbers-of slots.given))

  new-number : (n : ℕ) → IsTraced n new
  unfolding slots_after
  new-number n = go (names_slot s.slot g)
    where
      by : (q : Option ℕ) → slot_of slots v ≡ q → IsTraced n (with q)
      by None e = λ h. at (has-either slots.given (original_of slots v) (own_slot slots v) n h)
        where
          at : (has_number (slot_numbers slots) n ≡ true) ⊎ (n ≡ own_slot slots v) → (has_number (slot_numbers slots) n ≡ true) ⊎ (n ≡ least_free (slots.taken ++ numbers-of slots.given))
          at (inl z) = inl z
          at (inr z) = inr (z ∙ ap (λ (r : Option ℕ). elim r as (λ r. ℕ) [ None ↦ least_free (slots.taken ++ map (λ (p : ℕ × ℕ). p.1) slots.given) | Some m ↦ m ]) e)
      by (Some m) e = λ h. inl h

      go : (b : Bool) → IsTraced n (cond b (with (slot_of slots v)) slots)
      go true = by (slot_of slots v) refl
      go false = λ h. inl h

  module _ (low : IsLowered t f) (after : IsLowered t g) (has : HasFrames t f slots) where
    apart : (n : ℕ) → has_number (slot_numbers new) n ≡ true → has_number new.taken n ≡ false
    apart n h = ap (λ ns. has_number ns n) taken-same ∙ go (new-number n h)
      where
        go : (has_number (slot_numbers slots) n ≡ true) ⊎ (n ≡ least_free (slots.taken ++ numbers-of slots.given)) → has_number slots.taken n ≡ false
        go (inl z) = has.apart n z
        go (inr z) = ap (has_number slots.taken) z ∙ not-first slots.taken (numbers-of slots.given) (least_free (slots.taken ++ numbers-of slots.given)) (free (slots.taken ++ numbers-of slots.given))

    -- an instruction whose frame objects are of its kind

    abbrev IsOwn : Bool → ℕ → Type 0
    IsOwn u n = cond u (has_number (slot_numbers new) n) (has_number new.taken n) ≡ true

    abbrev Fits : Instr → Type 0
    Fits x = (n : ℕ) → Member (operands.Stack n) x.operands → IsOwn (does spills_or_reloads t x) n

    -- where its operands fit its opcode, and its slot was given if it is the range's
    abbrev Fitting : Instr → Type 0
    Fitting x = V1 t g x ≡ true → (Member (operands.Stack s.slot) x.operands → has_number (slot_numbers new) s.slot ≡ true) → Fits x

    old-fits : (b : Block) (i : Instr) → Member b f.blocks → Member i b.instrs → Fits i
    old-fits b i mb mi n m = go (does spills_or_reloads t i) (all-of (names_own t slots i) (operands.Stack n) i.operands m (has.operands b i mb mi))
      where
        go : (u : Bool) → cond u (has_number (slot_numbers slots) n) (has_number slots.taken n) ≡ true → IsOwn u n
        go true h = given-grows n h
        go false h = ap (λ ns. has_number ns n) taken-same ∙ h

    same-stack : (m n : ℕ) → operands.Stack m ≡ operands.Stack n → m ≡ n
    same-stack m n e = cc

    move-fits : (y : Instr) (o : RegOp) (l : Operand) (number : ℕ) → does spills_or_reloads t y ≡ true → y.operands ≡ operands.Reg o ∷ operands.Stack number ∷ l ∷ [] → fits_role roles.Lanes l ≡ true → has_number (slot_numbers new) number ≡ true → Fits y
    move-fits y o l number does-so are lanes h n m =
        (λ k. cond (does-so k) (has_number (slot_numbers new) n) (has_number new.taken n))
        ∙ member-elim (operands.Stack n) (operands.Reg o) (operands.Stack number ∷ l ∷ []) (λ e. absurd (cc))
        (λ k. member-elim (operands.Stack n) (operands.Stack number) (l ∷ []) (λ e. ap (has_number (slot_numbers new)) (same-stack n number e) ∙ h)
        (λ j. member-elim (operands.Stack n) l [] (λ e. absurd (let z : fits_role roles.Lanes (operands.Stack n) ≡ true = ap (fits_role roles.Lanes) e ∙ lanes in cc)) (λ q. absurd (member-none (operands.Stack n) q)) j) k)
        (subst (Member (operands.Stack n)) are m)

    lanes-fit : (x : Option IndexId) → fits_role roles.Lanes (lanes_named x) ≡ true
    lanes-fit None = refl
    lanes-fit (Some x) = refl

    -- a store to the range's own slot, or a reload from it
    own-fits : (place : ClassId → Option ℕ) → Moves t g place → (k : Option ClassId) (o : RegOp) (x : Option IndexId) (y : Instr) → y.op ≡ ops.Known (opcode (option_and_then place k)) → y.operands ≡ operands.Reg o ∷ in_own_slot s x → Fitting y
    own-fits place moves k o x y op are one given =
        move-fits y o (lanes_named x) s.slot (moves-slots t g place moves k y o (operands.Stack s.slot) (lanes_named x) op are one) are (lanes-fit x) (given (subst (Member (operands.Stack s.slot)) (sym are) (later first)))

    -- one of a slot that was given
    other-fits : (place : ClassId → Option ℕ) → Moves t g place → (k : Option ClassId) (o : RegOp) (sl : List Operand) (z : IsSlot sl) → has_number (slot_numbers new) z.number ≡ true → (y : Instr) → y.op ≡ ops.Known (opcode (option_and_then place k)) → y.operands ≡ operands.Reg o ∷ sl → Fitting y
    other-fits place moves k o sl z h y op are one given =
        let whole = are ∙ ap (λ os. operands.Reg o ∷ os) z.is in
        move-fits y o z.lanes z.number (moves-slots t g place moves k y o (operands.Stack z.number) z.lanes op whole one) whole z.fits h

    repeated-fits : (r : Reading) (d : Instr) (o : RegOp) → repeated_for s r ≡ Some d → Fitting (repeated d o)
    repeated-fits r d o e one given n m =
        let z = repeats-for s r d e in
        old-fits z.block d z.there z.inside n (member-elim (operands.Stack n) (operands.Reg o) (drop 1 d.operands) (λ e. absurd (cc)) (λ k. drop-in 1 (operands.Stack n) d.operands k) m)

    given-fits : (p : List Instr) (q : ℕ × Variable) → Fitting (given s p q)
    given-fits p q = go (repeated_for s (way_reading s p q.1)) refl
      where
        go : (r : Option Instr) → repeated_for s (way_reading s p q.1) ≡ r → Fitting (elim r as (λ r. Instr) [ None ↦ reload s.target q.1.class (plain_definition (Virtual q.0) None) (in_own_slot s q.1.index) | Some d ↦ repeated d (plain_definition (Virtual q.0) None) ])
        go None e = own-fits (reload_place t) (load-moves t g) q.1.class (plain_definition (Virtual q.0) None) q.1.index (reload s.target q.1.class (plain_definition (Virtual q.0) None) (in_own_slot s q.1.index)) refl refl
        go (Some d) e = repeated-fits (way_reading s p q.1) d (plain_definition (Virtual q.0) None) e

    ways-fit : (p : List Instr) (ps : List (ℕ × Variable)) (x : Instr) → Member x (map (given s p) ps) → Fitting x
    ways-fit p ps x m = let z = map-of (given s p) x ps m in subst Fitting (sym z.2) (given-fits p z.0)

    tied-fit : (ps : List (ℕ × OwnDefinition)) (x : Instr) → Member x (flat_map (tied_reload s) ps) → Fitting x
    tied-fit ps x m =
        let z = flat-of (tied_reload s) x ps m in
        let y = map-of (λ (q : TiedPair). reload s.target z.0.1.class (plain_definition (Virtual z.0.0) None) (in_own_slot s q.tied_use.index)) x (filter (λ (q : TiedPair). nat_eq q.number z.0.1.number) (tied_readings s z.0.1.by)) z.2 in
        subst Fitting (sym y.2) (own-fits (reload_place t) (load-moves t g) z.0.1.class (plain_definition (Virtual z.0.0) None) y.0.tied_use.index (reload s.target z.0.1.class (plain_definition (Virtual z.0.0) None) (in_own_slot s y.0.tied_use.index)) refl refl)

    stored-fit : (ps : List (ℕ × OwnDefinition)) (x : Instr) → Member x (flat_map (stored s) ps) → Fitting x
    stored-fit ps x m = let z = flat-of (stored s) x ps m in go z.0 (is_live_behind s z.0.1.by z.0.1.index) z.2
      where
        go : (p : ℕ × OwnDefinition) (b : Bool) → Member x (cond b (store s.target p.1.class (plain_use (Virtual p.0) None) (in_own_slot s p.1.index) ∷ []) []) → Fitting x
        go p true m =
            member-elim x (store s.target p.1.class (plain_use (Virtual p.0) None) (in_own_slot s p.1.index)) []
            (λ e. subst Fitting (sym e) (own-fits (spill_place t) (store-moves t g) p.1.class (plain_use (Virtual p.0) None) p.1.index (store s.target p.1.class (plain_use (Virtual p.0) None) (in_own_slot s p.1.index)) refl refl))
            (λ k. absurd (member-none x k)) m
        go p false m = absurd (member-none x m)

    -- what becomes of a place of a block

    module _ (b : Block) (mb : Member b f.blocks) where
      tiny-fits : (z : Seats) (i : Instr) → Member i b.instrs → Fitting (with_tinies s z i)
      tiny-fits z i mi one given n m =
          let y = map-of (seated_operand s z i) (operands.Stack n) (numbered_operands t i) m in
          old-fits b i mb mi n (was y.0 y.1 y.2)
        where
          was : (x : ℕ × Bound) → Member x (numbered_operands t i) → operands.Stack n ≡ seated_operand s z i x → Member (operands.Stack n) i.operands
          was (k, (r, operands.Reg o)) m e = absurd (cc)
          was (k, (r, o)) m e = subst (λ y. Member y i.operands) (sym e) (bound-operand (explicit_roles (roles_of t i)) i.operands r o (numbered-of 0 (explicit_bound (explicit_roles (roles_of t i)) i.operands) (k, (r, o)) m))

      own-tinies : (z : Seats) (p : List Instr) → ((i : Instr) → Member i p → Member i b.instrs) → (x : Instr) → Member x (map (with_tinies s z) p) → Fitting x
      own-tinies z p there x m = let y = map-of (with_tinies s z) x p m in subst Fitting (sym y.2) (tiny-fits z y.0 (there y.0 y.1))

      -- the slot that a store or a reload of the function names was given
      named-given : (i : Instr) → Member i b.instrs → (o : RegOp) (sl : List Operand) → i.operands ≡ operands.Reg o ∷ sl → does spills_or_reloads t i ≡ true → (z : IsSlot sl) → has_number (slot_numbers new) z.number ≡ true
      named-given i mi o sl are d z =
          subst (λ u. IsOwn u z.number) d (old-fits b i mb mi z.number (subst (Member (operands.Stack z.number)) (sym (are ∙ ap (λ os. operands.Reg o ∷ os) z.is)) (later first)))

      abbrev rule : (i : Instr) → Member i b.instrs → V1 t f i ≡ true
      rule i mi = (low.rules.shaped b i mb mi).operands

      replace-fits : (i j : Instr) → Replaces s i j → Fitting (in_place_of i j)
      replace-fits i j (from_range {d} {o} e are p q) = own-fits (reload_place t) (load-moves t g) (class_beside s d d.loc) (plain_definition d.loc d.index) o.index (in_place_of i (reload s.target (class_beside s d d.loc) (plain_definition d.loc d.index) (in_own_slot s o.index))) refl refl
      replace-fits i j (to_range {d} {o} e are p q) = own-fits (spill_place t) (store-moves t g) (class_beside s o o.loc) (plain_use o.loc o.index) d.index (in_place_of i (store s.target (class_beside s o o.loc) (plain_use o.loc o.index) (in_own_slot s d.index))) refl refl
      replace-fits i j (undefined {o} e are p) =
          let k = part_class s.target o.index (own_class s) in
          own-fits (spill_place t) (store-moves t g) k (undef_use s.target k) o.index (in_place_of i (store s.target k (undef_use s.target k) (in_own_slot s o.index))) refl refl

      module _ (c : ℕ) (i : Instr) (mi : Member i b.instrs) where
        abbrev loaded : Option ClassId → List Operand → Instr
        loaded k from = in_place_of i (reload s.target k (plain_definition (Virtual c) None) from)

        abbrev put : Option ClassId → List Operand → Instr
        put k to = store s.target k (plain_use (Virtual c) None) to

        own-loaded : (k : Option ClassId) (x : Option IndexId) → Fitting (loaded k (in_own_slot s x))
        own-loaded k x = own-fits (reload_place t) (load-moves t g) k (plain_definition (Virtual c) None) x (loaded k (in_own_slot s x)) refl refl

        own-put : (k : Option ClassId) (x : Option IndexId) → Fitting (put k (in_own_slot s x))
        own-put k x = own-fits (spill_place t) (store-moves t g) k (plain_use (Virtual c) None) x (put k (in_own_slot s x)) refl refl

        pass-fits : (k : Option ClassId) (from to : List Operand) → Passes s i k from to → Fitting (loaded k from) × Fitting (put k to)
        pass-fits k from to (within {d} {o} e are p q) = (own-loaded k o.index, own-put k d.index)
        pass-fits k from to (stored_on {o} {slot} e are p) =
            let z = spill-slot t f i o slot (rule i mi) e are in
            (own-loaded k o.index, other-fits (spill_place t) (store-moves t g) k (plain_use (Virtual c) None) slot z (named-given i mi o slot are (ap (passes spills_or_reloads) e) z) (put k slot) refl refl)
        pass-fits k from to (reloaded_on {o} {slot} e are p) =
            let z = reload-slot t f i o slot (rule i mi) e are in
            (other-fits (reload_place t) (load-moves t g) k (plain_definition (Virtual c) None) slot z (named-given i mi o slot are (ap (passes spills_or_reloads) e) z) (loaded k slot) refl refl, own-put k o.index)

      one-fits : (i : Instr) → Fitting i → (x : Instr) → Member x (i ∷ []) → Fitting x
      one-fits i h x m = member-elim x i [] (λ e. subst Fitting (sym e) h) (λ k. absurd (member-none x k)) m

      place-fits : (n c : ℕ) (p : List Instr) (y : Change) → ((i : Instr) → Member i p → Member i b.instrs) → Outcome s n c p y → (x : Instr) → Member x (instrs-of y) → Fitting x
      place-fits n c p y there (stays {i} k) x m = one-fits i (λ one given. old-fits b i mb (there i first)) x m
      place-fits n c p y there (goes k) x m = absurd (member-none x m)
      place-fits n c p y there (replaced {i} {j} k) x m = one-fits (in_place_of i j) (replace-fits i j k) x m
      place-fits n c p y there (repeats {i} {x = r} {d} {o} e are a q h) x m = one-fits (repeated r (plain_definition d.loc d.index)) (repeated-fits (copy_reading s i d o) r (plain_definition d.loc d.index) h) x m
      place-fits n c p y there (passed {i} {k} {from} {to} w) x m =
          let z = pass-fits c i (there i first) k from to w in
          member-elim x (loaded c i (there i first) k from) (put c i (there i first) k to ∷ []) (λ e. subst Fitting (sym e) z.0) (λ j. one-fits (put c i (there i first) k to) z.1 x j) m
      place-fits n c p y there (seats placed) x m =
          let z = seats_from s c p in
          let before = map (given s p) z.ways ++ flat_map (tied_reload s) z.definitions in
          either-elim x before (map (with_tinies s z) p ++ flat_map (stored s) z.definitions)
          (λ k. either-elim x (map (given s p) z.ways) (flat_map (tied_reload s) z.definitions) (ways-fit p z.ways x) (tied-fit z.definitions x) k)
          (λ k. either-elim x (map (with_tinies s z) p) (flat_map (stored s) z.definitions) (own-tinies z p there x) (stored-fit z.definitions x) k) m

    -- all instructions

    each-fits : (d : Block) (x : Instr) → Member d g.blocks → Member x d.instrs → Fitting x
    each-fits = all-instrs s Fitting (λ x n h one given. h (one-same t g (record x { id = n }) x refl refl one) given) (λ b mb p mp n c further holds. place-fits b mb n c p (change s n c p) (place-in s b p mp) (orderly s low b mb p mp n c))

    names-it : (d : Block) (x : Instr) → Member d g.blocks → Member x d.instrs → Member (operands.Stack s.slot) x.operands → names_slot s.slot g ≡ true
    names-it d x md mx m =
        any-in (λ (b : Block). list_any (λ (i : Instr). list_any (is_slot s.slot) i.operands) b.instrs) d g.blocks md
        (any-in (λ (i : Instr). list_any (is_slot s.slot) i.operands) x d.instrs mx (any-in (is_slot s.slot) (operands.Stack s.slot) x.operands m (eq-eqb s.slot s.slot refl)))

    frames-kept : V15_frame forms.Source g ≡ true
    unfolding spilled V15_frame
    frames-kept = has.frames

    spill-frames : HasFrames t g new
    spill-frames = record {
      frames = frames-kept;
      operands = λ d x md mx. all-own t new x (each-fits d x md mx (after.rules.shaped d x md mx).operands (λ m. own-given (names-it d x md mx m)));
      apart = apart;
    }

pub spill-keeps-frames : SpillKeepsFrames
spill-keeps-frames t f g slots new v made low after z has =
    subst (λ h. HasFrames t h new) (sym z.func)
    (subst (HasFrames t (spilled (setting_of t f slots v z.facts))) (sym z.slot) (spill-frames t f slots v z.facts low (subst (IsLowered t) z.func after) has))
