-- The plan along the instructions that touch the range is that for all places.
use Rattle.std.proofs.Common.{◌≡◌, ◌∷◌, ◌++◌, ◌∙◌, ◌&&◌, ◌||◌, ◌⊎◌, inl, inr, ℕ, suc, Bool, true, false, cond, List, [], Option, Some, refl, sym, ap, subst, eq-eqb, eqb-true}
use Rattle.std.specs.Prelude.{nat_eq, slice_get, take}
use Rattle.std.specs.List.{list_all, list_any}
use Rattle.target_base.specs.declared.types.Target.{Target}
use Rattle.meaning.specs.Live.{Among, here, there}
use Rattle.mir_func.specs.declared.func.Block.{Block}
use Rattle.mir_func.specs.declared.func.Instr.{Instr}
use Rattle.mir_func.specs.Binding.{does, is_terminator}
use Rattle.mir_meaning.specs.Points.{touches}
use Rattle.mir_meaning.specs.Registers.{has_number}
use Rattle.mir_meaning.specs.Rules.{block_numbers}
use Rattle.live_edits.proofs.RunPlaces.{member-place}
use Rattle.lowering_laws.proofs.BlockRules.{ordered}
use Rattle.spiller.specs.Marks.{Mark, all_marks, has_ended, marks_from, with_marks}
use Rattle.spiller.specs.Rematerialised.{places_from, places_of}
use Rattle.spiller.specs.Setting.{Spilling}
use Rattle.spiller.specs.Views.{Planned}
use Rattle.spiller.specs.WholePlan.{instrs_of, with_blocks, with_place, with_places}
use Rattle.spiller.proofs.BlockEdits.{places-whole}
use Rattle.spiller.specs.Ends.{ends_of}

module _ (s : Spilling) where
  abbrev t : Target
  t = s.target

  abbrev v : ℕ
  v = s.range

  abbrev ends : Instr → Bool
  ends i = does is_terminator t i

  module _ (b : Block) (more : List Mark) where
    abbrev mark : Instr → List Instr → Mark
    mark i is = record { block = b; instr = i; left = is }

    abbrev marks : List Instr → List Mark
    marks is = marks_from v b is

    -- terminators that are planned already
    planned-ends : (is : List Instr) (p : Planned) → list_all ends is ≡ true → with_marks s (Some b.number) (marks is ++ more) p ≡ with_marks s (Some b.number) more p
    planned-ends [] p all = refl
    planned-ends (i ∷ is) p all = go (ends i) refl (touches v i) all (planned-ends is p)
      where
        go : (e : Bool) → ends i ≡ e → (u : Bool) → e && list_all ends is ≡ true → (list_all ends is ≡ true → with_marks s (Some b.number) (marks is ++ more) p ≡ with_marks s (Some b.number) more p)
            → with_marks s (Some b.number) (cond u (mark i is ∷ marks is) (marks is) ++ more) p ≡ with_marks s (Some b.number) more p
        go false e u all ih = absurd (let z : false ≡ true = all in cc)
        go true e false all ih = ih all
        go true e true all ih =
            (λ k. with_marks s (cond (e k) (Some b.number) (Some b.number)) (marks is ++ more) (cond (e k) (cond (eq-eqb b.number b.number refl k) p (with_place s b (ends_of t b.instrs) [] p)) (with_place s b (i ∷ []) is p)))
            ∙ ih all

    -- terminators of which some touch the range
    first-ends : (ended : Option ℕ) → has_ended ended b ≡ false → (is : List Instr) (p : Planned) → list_all ends is ≡ true → list_any (touches v) is ≡ true → with_marks s ended (marks is ++ more) p ≡ with_marks s (Some b.number) more (with_place s b (ends_of t b.instrs) [] p)
    first-ends ended new [] p all some = absurd (let z : false ≡ true = some in cc)
    first-ends ended new (i ∷ is) p all some = go (ends i) refl (touches v i) all some (first-ends ended new is p) (planned-ends is (with_place s b (ends_of t b.instrs) [] p))
      where
        goal : List Mark → Type 0
        goal ms = with_marks s ended (ms ++ more) p ≡ with_marks s (Some b.number) more (with_place s b (ends_of t b.instrs) [] p)

        go : (e : Bool) → ends i ≡ e → (u : Bool) → e && list_all ends is ≡ true → u || list_any (touches v) is ≡ true
            → (list_all ends is ≡ true → list_any (touches v) is ≡ true → goal (marks is))
            → (list_all ends is ≡ true → with_marks s (Some b.number) (marks is ++ more) (with_place s b (ends_of t b.instrs) [] p) ≡ with_marks s (Some b.number) more (with_place s b (ends_of t b.instrs) [] p))
            → goal (cond u (mark i is ∷ marks is) (marks is))
        go false e u all some ih skip = absurd (let z : false ≡ true = all in cc)
        go true e false all some ih skip = ih all some
        go true e true all some ih skip =
            (λ k. with_marks s (cond (e k) (Some b.number) ended) (marks is ++ more) (cond (e k) (cond (new k) p (with_place s b (ends_of t b.instrs) [] p)) (with_place s b (i ∷ []) is p)))
            ∙ skip all

    none-marked : (is : List Instr) → list_any (touches v) is ≡ false → marks is ≡ []
    none-marked [] h = refl
    none-marked (i ∷ is) h = go (touches v i) h (none-marked is)
      where
        go : (u : Bool) → u || list_any (touches v) is ≡ false → (list_any (touches v) is ≡ false → marks is ≡ []) → cond u (mark i is ∷ marks is) (marks is) ≡ []
        go true h ih = absurd (let z : true ≡ false = h in cc)
        go false h ih = ih h

    -- where the plan for the rest of a block leads
    pub record Leaves (ended : Option ℕ) (is : List Instr) (p : Planned) : Type 0 where
      pub then : Option ℕ
      pub either : (then ≡ ended) ⊎ (then ≡ Some b.number)
      pub same : with_marks s ended (marks is ++ more) p ≡ with_marks s then more (with_places s b (places_from t is) p)

    block-marked : (ended : Option ℕ) → has_ended ended b ≡ false → (is : List Instr) (p : Planned) → ends_of t b.instrs ≡ ends_of t is → ordered t is ≡ true → Leaves ended is p
    block-marked ended new [] p last o = record { then = ended; either = inl refl; same = refl }
    block-marked ended new (i ∷ is) p last o = go (ends i) refl last o (λ q a c. block-marked ended new is q a c)
      where
        places : Bool → List (List Instr)
        places e = cond e ((i ∷ is) ∷ []) ((i ∷ []) ∷ places_from t is)

        Rest : Bool → Type 0
        Rest e = (then : Option ℕ) × ((then ≡ ended) ⊎ (then ≡ Some b.number)) × (with_marks s ended (marks (i ∷ is) ++ more) p ≡ with_marks s then more (with_places s b (places e) p))

        made : Rest (ends i) → Leaves ended (i ∷ is) p
        made r = record { then = r.0; either = r.1; same = r.2 }

        all-ends : ends i ≡ true → list_all ends is ≡ true → list_all ends (i ∷ is) ≡ true
        all-ends e h = ap (λ u. u && list_all ends is) e ∙ h

        at-end : ends i ≡ true → ends_of t b.instrs ≡ i ∷ is → list_all ends is ≡ true → (u : Bool) → list_any (touches v) (i ∷ is) ≡ u → Rest true
        at-end e last h true k = (
          Some b.number,
          inr refl,
          first-ends ended new (i ∷ is) p (all-ends e h) k
              ∙ (ap (λ js. with_marks s (Some b.number) more (with_place s b js [] p)) last
              ∙ ap (λ u. with_marks s (Some b.number) more (cond u (with_place s b (i ∷ is) [] p) p)) (sym k)),
        )
        at-end e last h false k = (
          ended,
          inl refl,
          ap (λ ms. with_marks s ended (ms ++ more) p) (none-marked (i ∷ is) k)
              ∙ ap (λ u. with_marks s ended more (cond u (with_place s b (i ∷ is) [] p) p)) (sym k),
        )

        behind : (q : Planned) → Leaves ended is q → with_marks s ended (marks (i ∷ is) ++ more) p ≡ with_marks s ended (marks is ++ more) q → q ≡ cond (touches v i || false) (with_place s b (i ∷ []) (instrs_of (places_from t is)) p) p → Rest false
        behind q r step w = (r.then, r.either, step ∙ (r.same ∙ ap (λ z. with_marks s r.then more (with_places s b (places_from t is) z)) w))

        single : ends i ≡ false → (u : Bool) → touches v i ≡ u → ((q : Planned) → Leaves ended is q) → Rest false
        single e true k ih =
            behind (with_place s b (i ∷ []) is p) (ih (with_place s b (i ∷ []) is p))
            ((λ j. with_marks s ended (cond (k j) (mark i is ∷ marks is) (marks is) ++ more) p)
            ∙ (λ j. with_marks s (cond (e j) (Some b.number) ended) (marks is ++ more) (cond (e j) (cond (has_ended ended b) p (with_place s b (ends_of t b.instrs) [] p)) (with_place s b (i ∷ []) is p))))
            (ap (λ js. with_place s b (i ∷ []) js p) (sym (places-whole t is)) ∙ ap (λ u. cond (u || false) (with_place s b (i ∷ []) (instrs_of (places_from t is)) p) p) (sym k))
        single e false k ih =
            behind p (ih p)
            (λ j. with_marks s ended (cond (k j) (mark i is ∷ marks is) (marks is) ++ more) p)
            (ap (λ u. cond (u || false) (with_place s b (i ∷ []) (instrs_of (places_from t is)) p) p) (sym k))

        go : (e : Bool) → ends i ≡ e → ends_of t b.instrs ≡ cond e (i ∷ is) (ends_of t is) → cond e (list_all ends is) (ordered t is) ≡ true → ((q : Planned) → ends_of t b.instrs ≡ ends_of t is → ordered t is ≡ true → Leaves ended is q) → Leaves ended (i ∷ is) p
        go true e last o ih = made (subst Rest (sym e) (at-end e last o (list_any (touches v) (i ∷ is)) refl))
        go false e last o ih = made (subst Rest (sym e) (single e (touches v i) refl (λ q. ih q last o)))

  abbrev pub AreNew : Option ℕ → List Block → Type 0
  AreNew ended bs = (b : Block) → Among b bs → has_ended ended b ≡ false

  -- each block has another number than those behind it
  abbrev pub AreDistinct : List Block → Type 0
  AreDistinct [] = Unit {0}
  AreDistinct (b ∷ bs) = AreNew (Some b.number) bs × AreDistinct bs

  pub blocks-marked : (ended : Option ℕ) (bs : List Block) (p : Planned) → AreNew ended bs → AreDistinct bs → ((b : Block) → Among b bs → ordered t b.instrs ≡ true) → with_marks s ended (all_marks v bs) p ≡ with_blocks s bs p
  blocks-marked ended [] p new apart o = refl
  blocks-marked ended (b ∷ bs) p new apart o =
      let z = block-marked b (all_marks v bs) ended (new b here) b.instrs p refl (o b here) in
      z.same ∙ blocks-marked z.then bs (with_places s b (places_of t b) p) (still z.then z.either) apart.1 (λ c m. o c (there m))
    where
      still : (then : Option ℕ) → (then ≡ ended) ⊎ (then ≡ Some b.number) → AreNew then bs
      still then (inl e) = subst (λ q. AreNew q bs) (sym e) (λ c m. new c (there m))
      still then (inr e) = subst (λ q. AreNew q bs) (sym e) apart.0

-- blocks whose numbers differ from those before are distinct
pub distinct-blocks : (s : Spilling) (bs : List Block) → ((k : ℕ) (b : Block) → slice_get bs k ≡ Some b → has_number (block_numbers (take k bs)) b.number ≡ false) → AreDistinct s bs
distinct-blocks s [] h = tt
distinct-blocks s (b ∷ bs) h = (
  (λ c m. (let z = member-place m in other c.number b.number (block_numbers (take z.0 bs)) (h (suc z.0) c z.1))),
  distinct-blocks s bs (λ k c e. later c.number b.number (block_numbers (take k bs)) (h (suc k) c e)),
)
  where
    other : (c n : ℕ) (ns : List ℕ) → nat_eq c n || has_number ns c ≡ false → nat_eq n c ≡ false
    other c n ns h = go (nat_eq n c) refl (nat_eq c n) refl h
      where
        go : (u : Bool) → nat_eq n c ≡ u → (w : Bool) → nat_eq c n ≡ w → w || has_number ns c ≡ false → u ≡ false
        go false e w f h = refl
        go true e true f h = absurd (let z : true ≡ false = h in cc)
        go true e false f h = absurd (let z : true ≡ false = sym (eq-eqb c n (sym (eqb-true n c e))) ∙ f in cc)

    later : (c n : ℕ) (ns : List ℕ) → nat_eq c n || has_number ns c ≡ false → has_number ns c ≡ false
    later c n ns h = go (nat_eq c n) h
      where
        go : (u : Bool) → u || has_number ns c ≡ false → has_number ns c ≡ false
        go true h = absurd (let z : true ≡ false = h in cc)
        go false h = h
