-- Behind a spill each instruction can be spelled, and so a writable function stays writable.
use Rattle.std.proofs.Common.{◌≡◌, ◌∷◌, ◌++◌, ◌+◌, ◌<◌, ◌≤◌, ◌∙◌, ◌||◌, not, ℕ, Bool, true, false, cond, List, Option, Some, None, flat_map, map, length, refl, sym, ap, subst, arith, []}
use Rattle.std.specs.Prelude.{slice_get}
use Rattle.std.specs.List.{list_any, sum_by, zip}
use Rattle.target_base.specs.Registers.{IsReg, regs_of}
use Rattle.target_base.specs.Roles.{is_use as is_use_role, is_definition as is_definition_role, is_slot, is_lanes}
use Rattle.target_base.specs.Storage.{is_unreserved, same_numbers}
use Rattle.target_base.specs.declared.types.ClassId.{ClassId}
use Rattle.target_base.specs.declared.types.Effect.{Effect}
use Rattle.target_base.specs.declared.types.Effect.TheVariants as effects
use Rattle.target_base.specs.declared.types.Reg.{Reg}
use Rattle.target_base.specs.declared.types.Role.{Role}
use Rattle.target_base.specs.declared.types.Role.TheVariants as roles
use Rattle.target_base.specs.declared.types.Target.{Target}
use Rattle.meaning.specs.Live.{Among, here, there}
use Rattle.mir_func.specs.declared.func.Loc.TheVariants.{Virtual}
use Rattle.mir_func.specs.declared.func.RegOp.{RegOp}
use Rattle.mir_func.specs.declared.func.Operand.{Operand}
use Rattle.mir_func.specs.declared.func.Operand.TheVariants as operands
use Rattle.mir_func.specs.declared.func.Instr.{Instr}
use Rattle.mir_func.specs.declared.func.Block.{Block}
use Rattle.mir_func.specs.Value.{Function}
use Rattle.mir_func.specs.Binding.{class_of, does, effect_of, is_lowered_away, is_terminator, passes}
use Rattle.mir_meaning.specs.Places.{domain}
use Rattle.mir_meaning.specs.Registers.{numbers}
use Rattle.mir_meaning.specs.Rules.{V1, fits_role}
use Rattle.mir_text.specs.Print.{is_explicit_def}
use Rattle.instr_effects.proofs.Members.{filter-of, map-of, member-elim, member-none}
use Rattle.live_laws.proofs.Touch.Roles.{TakeAll, reload-takes, spill-takes}
use Rattle.lowering_laws.specs.Shapes.{IsLowered}
use Rattle.lowering_laws.proofs.FirstRegisters.{first-there}
use Rattle.spiller.specs.Rematerialised.{copy_reading, is_needless, places_from, places_of, repeated, repeated_for}
use Rattle.spiller.specs.Setting.{Spilling, class_beside, first_of, in_own_slot, is_live_behind, is_own, moving_class, own_class, own_lanes, part_class, plain_definition, plain_use, reload, store, undef_use}
use Rattle.spiller.specs.Spilled.{Change, becomes, block_changes, change, changes, copied_in, copied_out, copied_within, copy_change, effect_change, in_place_of, is_own_part, new_ids, numbered_change, place_change, setting_of, slot_change, spilled, spilled_block, through_tiny, tinies_of, undefined_change, with_ids}
use Rattle.writable_laws.specs.Laws.{SpillStaysWritable}
use Rattle.writable_laws.specs.Writable.{IsWritable, most_number}
use Rattle.writable_laws.proofs.Lowered.{lowered-fits}
use Rattle.writable_laws.proofs.Fitting.{InstrsFit, InstrFits, BlockFits, RegisterFits, append-each, block-with, flat-each, next-each, none-each}
use Rattle.writable_laws.proofs.SpillMoves.{SlotFits, id-fits, own-index, own-slot, placed-fits, reload-fits, repeated-fits, repeats-fits, store-fits}
use Rattle.writable_laws.proofs.SpillPlaces.{ChangeFits, IsPlain, explicit-of, place-fits}
use Rattle.writable_laws.proofs.TiesFit.{class-registers, first-is}
use Rattle.writable_laws.proofs.Whole.{writable-behind}

-- the slot that a store or a reload names holds no definition

slot-plain : (r : Role) (x : Operand) → is_slot r ≡ true → fits_role r x ≡ true → is_explicit_def x ≡ false
slot-plain roles.Slot (operands.Stack n) h g = refl
slot-plain r x h g = absurd (cc)

lanes-plain : (r : Role) (x : Operand) → is_lanes r ≡ true → fits_role r x ≡ true → is_explicit_def x ≡ false
lanes-plain roles.Lanes (operands.Imm z) h g = refl
lanes-plain roles.Lanes (operands.Index y) h g = refl
lanes-plain r x h g = absurd (cc)

slot-none : (test : Role → Bool) (os : List Operand) (o : Operand) (slot : List Operand) → os ≡ o ∷ slot → TakeAll (test ∷ is_slot ∷ is_lanes ∷ []) os → list_any is_explicit_def slot ≡ false
slot-none test [] o slot e a = absurd a
slot-none test (x ∷ []) o slot e a = absurd a.1
slot-none test (x ∷ y ∷ []) o slot e a = absurd a.1.1
slot-none test (x ∷ y ∷ z ∷ []) o slot e a =
    ap (list_any is_explicit_def) (sym (rest x o (y ∷ z ∷ []) slot e)) ∙ (λ k. slot-plain a.1.0.0 y a.1.0.1 a.1.0.2 k || (lanes-plain a.1.1.0.0 z a.1.1.0.1 a.1.1.0.2 k || false))
  where
    rest : (x y : Operand) (xs ys : List Operand) → x ∷ xs ≡ y ∷ ys → xs ≡ ys
    rest x y xs ys e = cc
slot-none test (x ∷ y ∷ z ∷ w ∷ os) o slot e a = absurd a.1.1.1

zip-second : {A B : Type 0} (xs : List A) (ys : List B) (p : A × B) → Among p (zip xs ys) → Among p.1 ys
zip-second [] ys p m = absurd (member-none p m)
zip-second (x ∷ xs) [] p m = absurd (member-none p m)
zip-second {A} {B} (x ∷ xs) (y ∷ ys) p m = member-elim p (x, y) (zip xs ys) (λ e. subst (λ (q : A × B). Among q.1 (y ∷ ys)) (sym e) here) (λ k. there (zip-second xs ys p k)) m

-- the first register of a list of the target's
first-register : (t : Target) → 0 < length t.regs → (rs : List Reg) → ((r : Reg) → Among r rs → IsReg t r) → IsReg t (first_of rs)
first-register t some [] h = some
first-register t some (r ∷ rs) h = h r here

module _ (s : Spilling) (slot : s.slot ≤ most_number) (some : 0 < length s.target.regs) (all : (b : Block) → Among b s.func.blocks → BlockFits s.target b) where
  abbrev t : Target
  t = s.target

  nothing : ChangeFits t (becomes [])
  nothing = record { before = none-each t; own = none-each t; behind = none-each t }

  only : (x : Instr) → InstrFits t x → ChangeFits t (becomes (x ∷ []))
  only x h = record { before = none-each t; own = next-each t x [] h (none-each t); behind = none-each t }

  through-fits : (n c : ℕ) (i : Instr) (k : Option ClassId) (from to : List Operand) → InstrFits t i → SlotFits t from → SlotFits t to → ChangeFits t (through_tiny s n c i k from to)
  through-fits n c i k from to z f g =
      let x = reload t k (plain_definition (Virtual c) None) from in
      let y = store t k (plain_use (Virtual c) None) to in
      record {
        before = none-each t;
        own = next-each t (in_place_of i x) [] (placed-fits t i x z (reload-fits t k (plain_definition (Virtual c) None) from tt f)) (none-each t);
        behind = next-each t y [] (store-fits t k (plain_use (Virtual c) None) to tt g) (none-each t);
      }

  -- copies

  module _ (i : Instr) (z : InstrFits t i) (d o : RegOp) (hd : RegisterFits t d.loc d.index) (ho : RegisterFits t o.loc o.index) where
    out-fits : is_own s o ≡ true → ChangeFits t (copied_out s i d o)
    out-fits own = go (repeated_for s (copy_reading s i d o)) refl
      where
        go : (q : Option Instr) → repeated_for s (copy_reading s i d o) ≡ q → ChangeFits t (elim q as (λ q. Change) [ None ↦ becomes (in_place_of i (reload s.target (class_beside s d d.loc) (plain_definition d.loc d.index) (in_own_slot s o.index)) ∷ []) | Some x ↦ record (becomes []) { before = repeated x (plain_definition d.loc d.index) ∷ [] } ])
        go None e = let x = reload t (class_beside s d d.loc) (plain_definition d.loc d.index) (in_own_slot s o.index) in only (in_place_of i x) (placed-fits t i x z (reload-fits t (class_beside s d d.loc) (plain_definition d.loc d.index) (in_own_slot s o.index) hd (own-slot s slot o.index (own-index s slot o own ho))))
        go (Some x) e = record { before = next-each t (repeated x (plain_definition d.loc d.index)) [] (repeated-fits t x (plain_definition d.loc d.index) (repeats-fits s slot all (copy_reading s i d o) x e) hd refl) (none-each t); own = none-each t; behind = none-each t }

    in-fits : is_own s d ≡ true → ChangeFits t (copied_in s i d o)
    in-fits own = let x = store t (class_beside s o o.loc) (plain_use o.loc o.index) (in_own_slot s d.index) in only (in_place_of i x) (placed-fits t i x z (store-fits t (class_beside s o o.loc) (plain_use o.loc o.index) (in_own_slot s d.index) ho (own-slot s slot d.index (own-index s slot d own hd))))

    within-fits : (n c : ℕ) → is_own s d ≡ true → is_own s o ≡ true → ChangeFits t (copied_within s n c i d o)
    within-fits n c ed eo = go (same_numbers (own_lanes s d.index) (own_lanes s o.index))
      where
        go : (y : Bool) → ChangeFits t (cond y (becomes []) (through_tiny s n c i (moving_class s d.index) (in_own_slot s o.index) (in_own_slot s d.index)))
        go true = nothing
        go false = through-fits n c i (moving_class s d.index) (in_own_slot s o.index) (in_own_slot s d.index) z (own-slot s slot o.index (own-index s slot o eo ho)) (own-slot s slot d.index (own-index s slot d ed hd))

    copy-fits : (n c : ℕ) → ChangeFits t (copy_change s n c i d o)
    copy-fits n c = go (is_own s o) refl (is_own s d) refl
      where
        go : (x : Bool) → is_own s o ≡ x → (y : Bool) → is_own s d ≡ y → ChangeFits t (cond x (cond y (copied_within s n c i d o) (copied_out s i d o)) (cond y (copied_in s i d o) (becomes (i ∷ []))))
        go true e true g = within-fits n c g e
        go true e false g = out-fits e
        go false e true g = in-fits g
        go false e false g = only i z

  -- stores and reloads of the range

  slot-fits : (i : Instr) → InstrFits t i → (o : RegOp) → RegisterFits t o.loc o.index → (rest : List Operand) (through : List Operand → List Operand → Change) (n c : ℕ) → (is_own s o ≡ true → ChangeFits t (through (in_own_slot s o.index) rest)) → ChangeFits t (slot_change s n c i o rest through)
  slot-fits i z o h rest through n c f = go (is_own s o) refl (is_own_part s o rest)
    where
      go : (x : Bool) → is_own s o ≡ x → (y : Bool) → ChangeFits t (cond x (cond y (becomes []) (through (in_own_slot s o.index) rest)) (becomes (i ∷ [])))
      go true e true = nothing
      go true e false = f e
      go false e y = only i z

  undefined-fits : (i : Instr) → InstrFits t i → (o : RegOp) → RegisterFits t o.loc o.index → ChangeFits t (undefined_change s i o)
  undefined-fits i z o h = go (is_own s o) refl (is_live_behind s i o.index)
    where
      registers : (q : Option ClassId) (r : Reg) → Among r (domain t q) → IsReg t r
      registers None r m = absurd (member-none r m)
      registers (Some c) r m = class-registers t (slice_get t.classes c.0) c.0 refl r (filter-of (is_unreserved t.reserved t.regs) r (regs_of t c) m).0

      go : (x : Bool) → is_own s o ≡ x → (y : Bool) → ChangeFits t (cond (not x) (becomes (i ∷ [])) (cond y (becomes (in_place_of i (store s.target (part_class s.target o.index (own_class s)) (undef_use s.target (part_class s.target o.index (own_class s))) (in_own_slot s o.index)) ∷ [])) (becomes [])))
      go true e true =
          let q = part_class s.target o.index (own_class s) in
          let x = store t q (undef_use t q) (in_own_slot s o.index) in
          only (in_place_of i x) (placed-fits t i x z (store-fits t q (undef_use t q) (in_own_slot s o.index) (first-register t some (domain t q) (registers q), refl) (own-slot s slot o.index (own-index s slot o e h))))
      go true e false = nothing
      go false e y = only i z

  -- by its effect

  module _ (i : Instr) (plain : IsPlain s i) (one : V1 t s.func i ≡ true) (n c : ℕ) where
    rest-fits : (o : Operand) (rest : List Operand) → i.operands ≡ o ∷ rest → list_any is_explicit_def rest ≡ false → SlotFits t rest
    rest-fits o rest are e = record { fits = λ x m. plain.fits.operands x (subst (λ os. Among x os) (sym are) (there m)); none = e }

    at-first : (o : RegOp) (rest : List Operand) → i.operands ≡ operands.Reg o ∷ rest → RegisterFits t o.loc o.index
    at-first o rest are = plain.fits.operands (operands.Reg o) (subst (λ os. Among (operands.Reg o) os) (sym are) here)

    other : ChangeFits t (cond (is_needless s i) (becomes []) (place_change s c (i ∷ [])))
    other = go (is_needless s i)
      where
        go : (y : Bool) → ChangeFits t (cond y (becomes []) (place_change s c (i ∷ [])))
        go true = nothing
        go false = place-fits s slot all (i ∷ []) (λ j m. member-elim j i [] (λ e. subst (IsPlain s) (sym e) plain) (λ k. absurd (member-none j k)) m) c

    effect-fits : (q : Option Effect) → effect_of t i ≡ q → (os : List Operand) → i.operands ≡ os → ChangeFits t (effect_change s n c i q os)
    effect-fits (Some effects.Copy) known (operands.Reg d ∷ operands.Reg o ∷ os) are =
        copy-fits i plain.fits d o (at-first d (operands.Reg o ∷ os) are) (plain.fits.operands (operands.Reg o) (subst (λ os. Among (operands.Reg o) os) (sym are) (there here))) n c
    effect-fits (Some effects.Spill) known (operands.Reg o ∷ rest) are =
        let none = slot-none is_use_role i.operands (operands.Reg o) rest are (spill-takes t s.func i one known) in
        slot-fits i plain.fits o (at-first o rest are) rest (λ own other. through_tiny s n c i (moving_class s o.index) own other) n c
        (λ e. through-fits n c i (moving_class s o.index) (in_own_slot s o.index) rest plain.fits (own-slot s slot o.index (own-index s slot o e (at-first o rest are))) (rest-fits (operands.Reg o) rest are none))
    effect-fits (Some effects.Reload) known (operands.Reg o ∷ rest) are =
        let none = slot-none is_definition_role i.operands (operands.Reg o) rest are (reload-takes t s.func i one known) in
        slot-fits i plain.fits o (at-first o rest are) rest (λ own other. through_tiny s n c i (moving_class s o.index) other own) n c
        (λ e. through-fits n c i (moving_class s o.index) rest (in_own_slot s o.index) plain.fits (rest-fits (operands.Reg o) rest are none) (own-slot s slot o.index (own-index s slot o e (at-first o rest are))))
    effect-fits (Some effects.ImplicitDef) known (operands.Reg o ∷ os) are = undefined-fits i plain.fits o (at-first o os are)
    effect-fits q known os are = other

  -- places

  pub record IsGood (i : Instr) : Type 0 where
    pub plain : IsPlain s i
    pub one : V1 t s.func i ≡ true

  abbrev AreGood : List Instr → Type 0
  AreGood is = (i : Instr) → Among i is → IsGood i

  change-fits : (n c : ℕ) (is : List Instr) → AreGood is → ChangeFits t (change s n c is)
  change-fits n c [] w = place-fits s slot all [] (λ i m. (w i m).plain) c
  change-fits n c (i ∷ []) w = let z = w i here in effect-fits i z.plain z.one n c (effect_of t i) refl i.operands refl
  change-fits n c (i ∷ j ∷ is) w = place-fits s slot all (i ∷ j ∷ is) (λ x m. (w x m).plain) c

  ids-fits : (n : ℕ) (is : List Instr) → InstrsFit t is → InstrsFit t (with_ids n is)
  ids-fits n is h x m =
      let z = map-of (λ (p : ℕ × Instr). record p.1 { id = p.0 }) x (zip (numbers n (length is)) is) m in
      subst (InstrFits t) (sym z.2) (id-fits t z.0.0 z.0.1 (h z.0.1 (zip-second (numbers n (length is)) is z.0 z.1)))

  numbered-fits : (n c : ℕ) (is : List Instr) → AreGood is → ChangeFits t (numbered_change s n c is)
  numbered-fits n c is w =
      let z = change-fits n c is w in
      let x = change s n c is in
      record { before = ids-fits n x.before z.before; own = z.own; behind = ids-fits (n + length x.before) x.behind z.behind }

  changes-fits : (n c : ℕ) (ps : List (List Instr)) → ((p : List Instr) → Among p ps → AreGood p) → (x : Change) → Among x (changes s n c ps) → ChangeFits t x
  changes-fits n c [] w x m = absurd (member-none x m)
  changes-fits n c (p ∷ ps) w x m =
      let y = numbered_change s n c p in
      member-elim x y (changes s (n + new_ids y) (c + length y.tinies) ps)
      (λ e. subst (ChangeFits t) (sym e) (numbered-fits n c p (w p here)))
      (λ k. changes-fits (n + new_ids y) (c + length y.tinies) ps (λ q j. w q (there j)) x k) m

  place-in : (is : List Instr) (p : List Instr) → Among p (places_from t is) → (i : Instr) → Among i p → Among i is
  place-in [] p m i k = absurd (member-none p m)
  place-in (j ∷ is) p m i k = go (does is_terminator t j) m (λ h. place-in is p h i k)
    where
      go : (y : Bool) → Among p (cond y ((j ∷ is) ∷ []) ((j ∷ []) ∷ places_from t is)) → (Among p (places_from t is) → Among i is) → Among i (j ∷ is)
      go true m f = member-elim p (j ∷ is) [] (λ e. subst (Among i) e k) (λ h. absurd (member-none p h)) m
      go false m f = member-elim p (j ∷ []) (places_from t is) (λ e. member-elim i j [] (λ q. subst (λ x. Among x (j ∷ is)) (sym q) here) (λ h. absurd (member-none i h)) (subst (Among i) e k)) (λ h. there (f h)) m

  module _ (good : (b : Block) (i : Instr) → Among b s.func.blocks → Among i b.instrs → IsGood i) where
    blocks-fits : (n c : ℕ) (bs : List Block) → ((b : Block) → Among b bs → Among b s.func.blocks) → (d : Block) → Among d (map spilled_block (zip bs (block_changes s n c bs))) → BlockFits t d
    blocks-fits n c [] w d m = absurd (member-none d m)
    blocks-fits n c (b ∷ bs) w d m =
        let xs = changes s n c (places_of t b) in
        let n' = n + sum_by new_ids xs in
        let c' = c + length (tinies_of xs) in
        let mb = w b here in
        let each = changes-fits n c (places_of t b) (λ p k i j. good b i mb (place-in b.instrs p k i j)) in
        member-elim d (spilled_block (b, xs)) (map spilled_block (zip bs (block_changes s n' c' bs)))
        (λ e. subst (BlockFits t) (sym e) (block-with t b (flat_map (λ (x : Change). x.before ++ (x.own ++ x.behind)) xs) (all b mb).header
        (flat-each t (λ (x : Change). x.before ++ (x.own ++ x.behind)) xs (λ x k. (let z = each x k in append-each t x.before (x.own ++ x.behind) z.before (append-each t x.own x.behind z.own z.behind))))))
        (λ k. blocks-fits n' c' bs (λ x j. w x (there j)) d k) m

    pub spilled-fits : (d : Block) → Among d (spilled s).blocks → BlockFits t d
    unfolding spilled
    spilled-fits d m = blocks-fits s.func.next_id (length s.func.classes) s.func.blocks (λ b k. k) d m

spilled-head : (s : Spilling) → (spilled s).head ≡ s.func.head
unfolding spilled
spilled-head s = refl

spilled-name : (s : Spilling) → (spilled s).name ≡ s.func.name
unfolding spilled
spilled-name s = refl

spilled-frames : (s : Spilling) → (spilled s).frames ≡ s.func.frames
unfolding spilled
spilled-frames s = refl

known-effect : (t : Target) (i : Instr) → does (λ e. not (is_lowered_away e)) t i ≡ true → (e : Effect) × (effect_of t i ≡ Some e) × (is_lowered_away e ≡ false)
known-effect t i h = go (effect_of t i) refl h
  where
    past : (b : Bool) → not b ≡ true → b ≡ false
    past true e = absurd (cc)
    past false e = refl

    go : (q : Option Effect) → effect_of t i ≡ q → passes (λ e. not (is_lowered_away e)) q ≡ true → (e : Effect) × (effect_of t i ≡ Some e) × (is_lowered_away e ≡ false)
    go None e h = absurd (cc)
    go (Some e) k h = (e, k, past (is_lowered_away e) h)

module _ (s : Spilling) (k : ClassId) (low : IsLowered s.target s.func) (classed : class_of s.func s.range ≡ Some k) (w : IsWritable s.target s.func) (slot : s.slot ≤ most_number) where
  some : 0 < length s.target.regs
  some = let r = first-there s.target k (w.classes s.range k classed) in let h = first-is s.target (Some k) r.0 r.1 in omega arith

  good : (b : Block) (i : Instr) → Among b s.func.blocks → Among i b.instrs → IsGood s slot some (lowered-fits s.target s.func low w) i
  good b i mb mi =
      let e = known-effect s.target i (low.lowered b i mb mi) in
      let one = (low.rules.shaped b i mb mi).operands in
      record {
        plain = record { fits = (lowered-fits s.target s.func low w b mb).instrs i mi; explicit = λ o m v. explicit-of s.target s.func i one o m v e.0 e.1 e.2 };
        one = one;
      }

  pub spilled-writable : IsLowered s.target (spilled s) → length (spilled s).classes ≤ 2147483648 → IsWritable s.target (spilled s)
  spilled-writable kept few =
      writable-behind s.target s.func (spilled s) w (spilled-head s) (spilled-name s) (spilled-frames s) few kept.rules.classes kept.function.nonempty
      (spilled-fits s slot some (lowered-fits s.target s.func low w) good)
      (λ b i mb mi. (kept.rules.shaped b i mb mi).operands)
      (λ b i mb mi. (kept.rules.shaped b i mb mi).classes)
      (λ j b e. kept.successors j b e)

pub spill_stays_writable : SpillStaysWritable
spill_stays_writable t f g slots new v k made low classed is kept w slot few =
    let s = setting_of t f slots v is.facts in
    subst (IsWritable t) (sym is.func) (spilled-writable s k low classed w slot (subst (IsLowered t) is.func kept) (subst (λ (h : Function). length h.classes ≤ 2147483648) is.func few))
