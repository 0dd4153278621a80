-- Numbers for the slots that edits name.
use Rattle.std.proofs.Common.{◌≡◌, ◌⊎◌, inl, inr, ◌++◌, ◌∙◌, ◌<◌, ℕ, zero, suc, List, [], ◌∷◌, take, length, get_or, refl, sym, ap, subst, arith}
use Rattle.mir_meaning.specs.Paths.{Among}
use Rattle.instr_effects.specs.declared.lanes.LaneTable.{LaneTable}
use Rattle.live_edits.specs.declared.edit.Edit.{Edit as CodeEdit}
use Rattle.edit_laws.specs.Edits.{Edit, Put, Replace, Erase}
use Rattle.edit_laws.specs.Numbered.{NumbersEdit}
use Rattle.live_lanes.proofs.Basics.{none-among}
use Rattle.live_lanes.proofs.Numbered.{among-cases, among-split}
use Rattle.live_edits.specs.Runs.{edit_of, edits_of, AddsSlots, NumbersSlots}

-- further slots, and further ones
pub slots-then : (x y z : LaneTable) → AddsSlots x y → AddsSlots y z → AddsSlots x z
slots-then x y z p q = record {
  table = λ h. q.table (p.table h);
  reserved = q.reserved ∙ p.reserved;
  ranges = q.ranges ∙ p.ranges;
  slots = λ s h. q.slots s (p.slots s h);
  numbers = λ o n h. q.numbers o n (p.numbers o n h);
}

stays-numbered : (x y : LaneTable) (e : Edit) → AddsSlots x y → NumbersEdit x e → NumbersEdit y e
stays-numbered x y (Put gap op os) p h = λ s k. p.slots s (h s k)
stays-numbered x y (Replace id op os) p h = λ s k. p.slots s (h s k)
stays-numbered x y (Erase id) p h = tt

edits-one : (es : List CodeEdit) (i m : ℕ) (d : CodeEdit) → i < length es → m ≡ suc i → edits_of (take m es) ≡ edits_of (take i es) ++ edit_of (get_or es i d) ∷ []
edits-one [] i m d h e = absurd (omega (arith, h))
edits-one (x ∷ xs) zero m d h e = ap (λ k. edits_of (take k (x ∷ xs))) e
edits-one (x ∷ xs) (suc i) m d h e = ap (λ k. edits_of (take k (x ∷ xs))) e ∙ ap (λ ys. edit_of x ∷ ys) (edits-one xs i (suc i) d (omega (arith, h)) refl)

-- one more edit
pub numbered-more : (x y : LaneTable) (es : List CodeEdit) (i m : ℕ) (e : CodeEdit) → i < length es → m ≡ suc i → e ≡ get_or es i e → AddsSlots x y → NumbersSlots x (edits_of (take i es)) → NumbersEdit y (edit_of e) → NumbersSlots y (edits_of (take m es))
numbered-more x y es i m e h is own p so now = λ a n. go a (among-split a (edits_of (take i es)) (edit_of (get_or es i e) ∷ []) (subst (Among a) (edits-one es i m e h is) n))
  where
    go : (a : Edit) → Among a (edits_of (take i es)) ⊎ Among a (edit_of (get_or es i e) ∷ []) → NumbersEdit y a
    go a (inl n) = stays-numbered x y a p (so a n)
    go a (inr n) = last (among-cases a (edit_of (get_or es i e)) [] n)
      where
        last : (a ≡ edit_of (get_or es i e)) ⊎ Among a [] → NumbersEdit y a
        last (inl same) = subst (NumbersEdit y) (sym (same ∙ sym (ap edit_of own))) now
        last (inr z) = absurd (none-among a z)
