-- What is planned for copies, stores, reloads and definitions without a value is what their changes plan.
use Rattle.std.proofs.Common.{◌≡◌, ◌∙◌, ℕ, Bool, true, false, cond, not, ◌||◌, List, [], ◌∷◌, Option, refl, sym, ap, subst}
use Rattle.std.specs.Prelude.{OnOk, Ok, Err}
use Rattle.std.specs.declared.result.Result.{Result}
use Rattle.std.specs.List.{list_any}
use Rattle.target_base.specs.declared.types.ClassId.{ClassId}
use Rattle.target_base.specs.declared.types.IndexId.{IndexId}
use Rattle.target_base.specs.Storage.{same_numbers}
use Rattle.mir_func.specs.declared.func.Gap.{Gap}
use Rattle.mir_func.specs.declared.func.RegOp.{RegOp}
use Rattle.mir_func.specs.declared.func.Operand.{Operand}
use Rattle.mir_func.specs.declared.func.Operand.TheVariants as operands
use Rattle.mir_func.specs.declared.func.Instr.{Instr}
use Rattle.mir_func.specs.Binding.{registers}
use Rattle.live_edits.specs.declared.edit.Edit.TheVariants as edits
use Rattle.spiller.specs.Setting.{Spilling, in_own_slot, is_live_behind, is_own, lanes_named, moving_class, own_class, own_lanes, part_class, store, undef_use}
use Rattle.spiller.specs.Spilled.{Change, becomes, copied_in, copied_out, copied_within, copy_change, in_place_of, is_own_part, through_tiny, undefined_change}
use Rattle.spiller.specs.Views.{Planned}
use Rattle.spiller.specs.Planned.{names_own, with_change}
use Rattle.spiller.specs.Additions.{edited, with_addition}
use Rattle.spiller.specs.Moving.{moved_through, reload_change, spill_change}
use Rattle.spiller.proofs.Changes.{erased, moved, moved-from-own, moved-to-own}
use Rattle.spiller.proofs.Singles.{access-registers}

module _ (s : Spilling) (before behind : Gap) (i : Instr) (p r : Planned) where
  -- the plan is that of this change
  abbrev Plans : Change → Type 0
  Plans x = r ≡ with_change s before behind (i ∷ []) x p

  gone : r ≡ with_addition (edited (edits.Erase i.id ∷ [])) p → r ≡ with_change s before behind (i ∷ []) (becomes []) p
  gone e = e ∙ sym (erased s before behind i p)

  -- copies between lanes of the range

  pub within-erased : (n c : ℕ) (d o : RegOp) → same_numbers (own_lanes s d.index) (own_lanes s o.index) ≡ true → r ≡ with_addition (edited (edits.Erase i.id ∷ [])) p → r ≡ with_change s before behind (i ∷ []) (copied_within s n c i d o) p
  within-erased n c d o same e = subst (λ b. r ≡ with_change s before behind (i ∷ []) (cond b (becomes []) (through_tiny s n c i (moving_class s d.index) (in_own_slot s o.index) (in_own_slot s d.index))) p) (sym same) (gone e)

  pub within-moved : (d o : RegOp) (k : Option ClassId) → same_numbers (own_lanes s d.index) (own_lanes s o.index) ≡ false → names_own s i ≡ true → k ≡ moving_class s d.index
      → r ≡ with_addition (moved_through s.target p.next_id p.next_range i.id behind k (in_own_slot s o.index) (in_own_slot s d.index)) p → r ≡ with_change s before behind (i ∷ []) (copied_within s p.next_id p.next_range i d o) p
  within-moved d o k same own is e =
      let one = e ∙ ap (λ q. with_addition (moved_through s.target p.next_id p.next_range i.id behind q (in_own_slot s o.index) (in_own_slot s d.index)) p) is in
      let all = one ∙ sym (moved s before behind i p.next_range (moving_class s d.index) (in_own_slot s o.index) (in_own_slot s d.index) p own (moved-to-own s i p.next_id p.next_range (moving_class s d.index) (in_own_slot s o.index) d.index)) in
      subst (λ b. r ≡ with_change s before behind (i ∷ []) (cond b (becomes []) (through_tiny s p.next_id p.next_range i (moving_class s d.index) (in_own_slot s o.index) (in_own_slot s d.index))) p) (sym same) all

  -- stores and reloads of the range

  access-own : (o : RegOp) (m : ℕ) (x : Option IndexId) → i.operands ≡ operands.Reg o ∷ operands.Stack m ∷ lanes_named x ∷ [] → is_own s o ≡ true → names_own s i ≡ true
  access-own o m x are own = ap (λ os. list_any (is_own s) (registers os)) are ∙ (ap (list_any (is_own s)) (access-registers o m x) ∙ ap (λ b. b || false) own)

  pub spill-erased : (n c : ℕ) (o : RegOp) (slot : List Operand) → is_own s o ≡ true → is_own_part s o slot ≡ true → r ≡ with_addition (edited (edits.Erase i.id ∷ [])) p → r ≡ with_change s before behind (i ∷ []) (spill_change s n c i o slot) p
  spill-erased n c o slot own part e = gone e ∙ (λ j. with_change s before behind (i ∷ []) (cond (sym own j) (cond (sym part j) (becomes []) (through_tiny s n c i (moving_class s o.index) (in_own_slot s o.index) slot)) (becomes (i ∷ []))) p)

  pub reload-erased : (n c : ℕ) (o : RegOp) (slot : List Operand) → is_own s o ≡ true → is_own_part s o slot ≡ true → r ≡ with_addition (edited (edits.Erase i.id ∷ [])) p → r ≡ with_change s before behind (i ∷ []) (reload_change s n c i o slot) p
  reload-erased n c o slot own part e = gone e ∙ (λ j. with_change s before behind (i ∷ []) (cond (sym own j) (cond (sym part j) (becomes []) (through_tiny s n c i (moving_class s o.index) slot (in_own_slot s o.index))) (becomes (i ∷ []))) p)

  pub spill-moved : (o : RegOp) (m : ℕ) (x : Option IndexId) (k : Option ClassId) → i.operands ≡ operands.Reg o ∷ operands.Stack m ∷ lanes_named x ∷ [] → is_own s o ≡ true → is_own_part s o (operands.Stack m ∷ lanes_named x ∷ []) ≡ false → k ≡ moving_class s o.index
      → r ≡ with_addition (moved_through s.target p.next_id p.next_range i.id behind k (in_own_slot s o.index) (operands.Stack m ∷ lanes_named x ∷ [])) p → r ≡ with_change s before behind (i ∷ []) (spill_change s p.next_id p.next_range i o (operands.Stack m ∷ lanes_named x ∷ [])) p
  spill-moved o m x k are own part is e =
      let slot = operands.Stack m ∷ lanes_named x ∷ [] in
      let one = e ∙ ap (λ q. with_addition (moved_through s.target p.next_id p.next_range i.id behind q (in_own_slot s o.index) slot) p) is in
      (one ∙ sym (moved s before behind i p.next_range (moving_class s o.index) (in_own_slot s o.index) slot p (access-own o m x are own) (moved-from-own s i p.next_id p.next_range (moving_class s o.index) o m o.index x are)))
      ∙ (λ j. with_change s before behind (i ∷ []) (cond (sym own j) (cond (sym part j) (becomes []) (through_tiny s p.next_id p.next_range i (moving_class s o.index) (in_own_slot s o.index) slot)) (becomes (i ∷ []))) p)

  pub reload-moved : (o : RegOp) (m : ℕ) (x : Option IndexId) (k : Option ClassId) → i.operands ≡ operands.Reg o ∷ operands.Stack m ∷ lanes_named x ∷ [] → is_own s o ≡ true → is_own_part s o (operands.Stack m ∷ lanes_named x ∷ []) ≡ false → k ≡ moving_class s o.index
      → r ≡ with_addition (moved_through s.target p.next_id p.next_range i.id behind k (operands.Stack m ∷ lanes_named x ∷ []) (in_own_slot s o.index)) p → r ≡ with_change s before behind (i ∷ []) (reload_change s p.next_id p.next_range i o (operands.Stack m ∷ lanes_named x ∷ [])) p
  reload-moved o m x k are own part is e =
      let slot = operands.Stack m ∷ lanes_named x ∷ [] in
      let one = e ∙ ap (λ q. with_addition (moved_through s.target p.next_id p.next_range i.id behind q slot (in_own_slot s o.index)) p) is in
      (one ∙ sym (moved s before behind i p.next_range (moving_class s o.index) slot (in_own_slot s o.index) p (access-own o m x are own) (moved-to-own s i p.next_id p.next_range (moving_class s o.index) slot o.index)))
      ∙ (λ j. with_change s before behind (i ∷ []) (cond (sym own j) (cond (sym part j) (becomes []) (through_tiny s p.next_id p.next_range i (moving_class s o.index) slot (in_own_slot s o.index))) (becomes (i ∷ []))) p)

  -- definitions without a value

  pub undefined-erased : (o : RegOp) → is_own s o ≡ true → is_live_behind s i o.index ≡ false → r ≡ with_addition (edited (edits.Erase i.id ∷ [])) p → r ≡ with_change s before behind (i ∷ []) (undefined_change s i o) p
  undefined-erased o own dead e =
      let k = part_class s.target o.index (own_class s) in
      gone e ∙ (λ j. with_change s before behind (i ∷ []) (cond (not (sym own j)) (becomes (i ∷ [])) (cond (sym dead j) (becomes (in_place_of i (store s.target k (undef_use s.target k) (in_own_slot s o.index)) ∷ [])) (becomes []))) p)

  pub undefined-stored : (o : RegOp) → is_own s o ≡ true → is_live_behind s i o.index ≡ true → r ≡ with_change s before behind (i ∷ []) (becomes (in_place_of i (store s.target (part_class s.target o.index (own_class s)) (undef_use s.target (part_class s.target o.index (own_class s))) (in_own_slot s o.index)) ∷ [])) p → r ≡ with_change s before behind (i ∷ []) (undefined_change s i o) p
  undefined-stored o own live e =
      let k = part_class s.target o.index (own_class s) in
      e ∙ (λ j. with_change s before behind (i ∷ []) (cond (not (sym own j)) (becomes (i ∷ [])) (cond (sym live j) (becomes (in_place_of i (store s.target k (undef_use s.target k) (in_own_slot s o.index)) ∷ [])) (becomes []))) p)

  -- copies

  pub copy-within : (n c : ℕ) (d o : RegOp) → is_own s o ≡ true → is_own s d ≡ true → r ≡ with_change s before behind (i ∷ []) (copied_within s n c i d o) p → r ≡ with_change s before behind (i ∷ []) (copy_change s n c i d o) p
  copy-within n c d o a b e = e ∙ (λ j. with_change s before behind (i ∷ []) (cond (sym a j) (cond (sym b j) (copied_within s n c i d o) (copied_out s i d o)) (cond (is_own s d) (copied_in s i d o) (becomes (i ∷ [])))) p)

  pub copy-out : (n c : ℕ) (d o : RegOp) → is_own s o ≡ true → is_own s d ≡ false → r ≡ with_change s before behind (i ∷ []) (copied_out s i d o) p → r ≡ with_change s before behind (i ∷ []) (copy_change s n c i d o) p
  copy-out n c d o a b e = e ∙ (λ j. with_change s before behind (i ∷ []) (cond (sym a j) (cond (sym b j) (copied_within s n c i d o) (copied_out s i d o)) (cond (is_own s d) (copied_in s i d o) (becomes (i ∷ [])))) p)

  pub copy-in : (n c : ℕ) (d o : RegOp) → is_own s o ≡ false → i.operands ≡ operands.Reg d ∷ operands.Reg o ∷ [] → names_own s i ≡ true → r ≡ with_change s before behind (i ∷ []) (copied_in s i d o) p → r ≡ with_change s before behind (i ∷ []) (copy_change s n c i d o) p
  copy-in n c d o a are own e =
      let h : (is_own s d || (is_own s o || false)) ≡ true = subst (λ os. list_any (is_own s) (registers os) ≡ true) are own in
      let b : is_own s d ≡ true = go (is_own s d) (is_own s o) a h in
      e ∙ (λ j. with_change s before behind (i ∷ []) (cond (sym a j) (cond (is_own s d) (copied_within s n c i d o) (copied_out s i d o)) (cond (sym b j) (copied_in s i d o) (becomes (i ∷ [])))) p)
    where
      go : (b c : Bool) → c ≡ false → (b || (c || false)) ≡ true → b ≡ true
      go true c e h = refl
      go false true e h = absurd (let z : true ≡ false = e in cc)
      go false false e h = h

-- a plan with a change is one with what the change is
pub swapped : (s : Spilling) (before behind : Gap) (is : List Instr) (x y : Change) (p q : Planned) → x ≡ y → q ≡ with_change s before behind is y p → q ≡ with_change s before behind is x p
swapped s before behind is x y p q e h = h ∙ ap (λ z. with_change s before behind is z p) (sym e)

pub then-swapped : {T E : Type 0} (r : Result T E) (s : Spilling) (before behind : Gap) (is : List Instr) (x y : Change) (p q : Planned) → x ≡ y → OnOk r (q ≡ with_change s before behind is y p) → OnOk r (q ≡ with_change s before behind is x p)
then-swapped (Ok v) s before behind is x y p q e h = swapped s before behind is x y p q e h
then-swapped (Err v) s before behind is x y p q e h = tt

-- an instruction that goes
pub then-gone : {T E : Type 0} (r : Result T E) (s : Spilling) (before behind : Gap) (i : Instr) (x : Change) (p q : Planned) → x ≡ becomes [] → OnOk r (q ≡ with_addition (edited (edits.Erase i.id ∷ [])) p) → OnOk r (q ≡ with_change s before behind (i ∷ []) x p)
then-gone (Ok v) s before behind i x p q e h = swapped s before behind (i ∷ []) x (becomes []) p q e (h ∙ sym (erased s before behind i p))
then-gone (Err v) s before behind i x p q e h = tt
