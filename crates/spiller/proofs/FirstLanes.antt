-- Whether lists of lanes are the same, in either order, and the lanes from the first one on.
use Rattle.std.proofs.Common.{◌≡◌, ◌≢◌, ◌∙◌, ℕ, List, [], ◌∷◌, length, refl, ap, sym}
use Rattle.std.proofs.lemmas.Bool.{eq-eqb, eqb-true}
use Rattle.std.proofs.lemmas.List.{length-map}
use Rattle.std.specs.Prelude.{◌==◌, ◌&&◌, Bool, true, false, Option, Some, None, slice_index}
use Rattle.target_base.specs.Storage.{same_numbers}
use Rattle.target_base.specs.Registers.{lanes_of}
use Rattle.mir_func.specs.declared.func.Loc.{Loc}
use Rattle.mir_func.specs.declared.func.Loc.TheVariants.{Virtual, Fixed}
use Rattle.target_base.proofs.Lookups.{same_numbers_lengths, same_numbers_refl}
use Rattle.target_base.specs.declared.types.IndexId.{IndexId}
use Rattle.mir_meaning.specs.Registers.{numbers, slot_lane_numbers, located_widths, range_widths}
use Rattle.mir_meaning.specs.Points.{is_range}
use Rattle.instr_effects.proofs.Tables.{numbers-long}
use Rattle.spiller.specs.Setting.{Spilling, own_lanes, lanes_named}

pub equals-swapped : (m n : ℕ) → (m == n) ≡ (n == m)
equals-swapped m n = go (m == n) (n == m) refl refl
  where
    go : (x y : Bool) → (m == n) ≡ x → (n == m) ≡ y → (m == n) ≡ (n == m)
    go true true e h = e ∙ sym h
    go false false e h = e ∙ sym h
    go true false e h = absurd (let q : (n == m) ≡ true = eq-eqb n m (sym (eqb-true m n e)) in cc)
    go false true e h = absurd (let q : (m == n) ≡ true = eq-eqb m n (sym (eqb-true n m h)) in cc)

-- the order of the lists doesn't matter
pub same-swapped : (ms ns : List ℕ) → same_numbers ms ns ≡ same_numbers ns ms
same-swapped [] [] = refl
same-swapped [] (n ∷ ns) = refl
same-swapped (m ∷ ms) [] = refl
same-swapped (m ∷ ms) (n ∷ ns) = ap (λ b. b && same_numbers ms ns) (equals-swapped m n) ∙ ap (λ b. (n == m) && b) (same-swapped ms ns)

-- a list of another length isn't that of so many lanes
pub other-count : (k : ℕ) (ns : List ℕ) → length ns ≢ k → same_numbers (numbers 0 k) ns ≡ false
other-count k ns h = same_numbers_lengths (numbers 0 k) ns (λ e. h (sym e ∙ numbers-long 0 k))

-- indexes may be named as they were found
pub lanes-named : (s : Spilling) (a b x y : Option IndexId) → a ≡ x → b ≡ y → same_numbers (own_lanes s x) (own_lanes s y) ≡ same_numbers (own_lanes s a) (own_lanes s b)
lanes-named s a b x y p q = ap (λ o. same_numbers (own_lanes s o) (own_lanes s y)) (sym p) ∙ ap (λ o. same_numbers (own_lanes s a) (own_lanes s o)) (sym q)

-- without indexes the range's slot is named as a whole
pub whole-named : (s : Spilling) (own named : Option IndexId) (ws : List ℕ) → named ≡ None → own ≡ None → length ws ≡ length (own_lanes s own) → true ≡ same_numbers (slot_lane_numbers s.target ws (lanes_named named)) (own_lanes s own)
whole-named s None None ws p q h = sym (ap (λ n. same_numbers (numbers 0 n) (own_lanes s None)) (h ∙ numbers-long 0 _) ∙ same_numbers_refl (own_lanes s None))
whole-named s (Some x) named ws p q h = absurd (let z : Some x ≡ None = q in cc)
whole-named s None (Some y) ws p q h = absurd (let z : Some y ≡ None = p in cc)

-- an operand that is the range has as many lanes as its index picks
pub own-widths : (s : Spilling) (l : Loc) (x : Option IndexId) → is_range s.range l ≡ true → length (located_widths s.target s.func l x) ≡ length (own_lanes s x)
own-widths s (Virtual w) None h = ap (λ v. length (range_widths s.target s.func v)) (sym (eqb-true s.range w h)) ∙ sym (numbers-long 0 (length (range_widths s.target s.func s.range)))
own-widths s (Virtual w) (Some x) h = length-map (lanes_of s.target x) (slice_index (range_widths s.target s.func w))
own-widths s (Fixed r) x h = absurd (let z : false ≡ true = h in cc)
