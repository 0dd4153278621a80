-- The plan for a whole function has the edits of all places, and the tinies of the definition.
use Rattle.std.proofs.Common.{◌≡◌, ◌∷◌, ◌++◌, ◌∙◌, ◌+◌, ◌&&◌, ◌||◌, ℕ, suc, Bool, true, false, cond, List, [], Option, flat_map, length, map, refl, sym, ap, arith, append_assoc, append-nil, length-append}
use Rattle.std.specs.List.{sum_by, zip}
use Rattle.std.proofs.lemmas.List.{map-append}
use Rattle.std.proofs.lemmas.List.Sums.{sum_by-cons}
use Rattle.target_base.specs.declared.types.ClassId.{ClassId}
use Rattle.meaning.specs.Live.{Among, here, there}
use Rattle.mir_func.specs.declared.func.Block.{Block}
use Rattle.mir_func.specs.declared.func.Instr.{Instr}
use Rattle.mir_meaning.specs.Registers.{numbers}
use Rattle.live_lanes.proofs.Flowing.{or-assoc}
use Rattle.live_edits.specs.declared.edit.Edit.{Edit as CodeEdit}
use Rattle.live_edits.specs.declared.edit.Edit.TheVariants as code_edits
use Rattle.spiller.specs.Setting.{Spilling}
use Rattle.spiller.specs.Rematerialised.{places_of}
use Rattle.spiller.specs.Spilled.{Change, becomes, block_changes, change, changes, new_ids, numbered_change, tinies, tinies_of, with_ids}
use Rattle.spiller.specs.Views.{Planned, no_plan}
use Rattle.spiller.specs.EditLaw.{tiny_classes}
use Rattle.spiller.specs.Planned.{change_edits, known_op, names_own, own_edits, uses_own_slot}
use Rattle.spiller.specs.WholePlan.{gap_at, instrs_of, touches_place, whole_plan, with_blocks, with_place, with_places}
use Rattle.spiller.proofs.BlockEdits.{all_edits, blocks_edits, new-ids-same, places_edits}

abbrev pub Tiny : Type 0
Tiny = Option ClassId × ℕ

-- tinies with their range numbers, from c on
abbrev pub with_numbers : ℕ → List Tiny → List (ℕ × ℕ)
with_numbers c ts = zip (numbers c (length ts)) (map (λ k. k.1) ts)

-- a plan with further edits, tinies and new instructions
abbrev pub grown : Planned → List CodeEdit → List Tiny → Bool → ℕ → Planned
grown p es ts u k = record {
  edits = p.edits ++ es;
  tinies = p.tinies ++ with_numbers p.next_range ts;
  classes = p.classes ++ map (λ k. k.0) ts;
  uses_slot = p.uses_slot || u;
  next_range = p.next_range + length ts;
  next_id = p.next_id + k;
}

numbers-both : (c : ℕ) (ts us : List Tiny) → with_numbers c (ts ++ us) ≡ with_numbers c ts ++ with_numbers (c + length ts) us
numbers-both c [] us = let e : c ≡ c + 0 = omega arith in ap (λ n. with_numbers n us) e
numbers-both c (x ∷ ts) us = ap (λ zs. (c, x.1) ∷ zs) (numbers-both (suc c) ts us ∙ (let e : suc c + length ts ≡ c + suc (length ts) = omega arith in ap (λ n. with_numbers (suc c) ts ++ with_numbers n us) e))

or-false : (u : Bool) → u ≡ u || false
or-false true = refl
or-false false = refl

pub grown-none : (p : Planned) → p ≡ grown p [] [] false 0
grown-none p =
    let e : p.next_range ≡ p.next_range + 0 = omega arith in
    let d : p.next_id ≡ p.next_id + 0 = omega arith in
    λ k. record {
      edits = sym (append-nil p.edits) k;
      tinies = sym (append-nil p.tinies) k;
      classes = sym (append-nil p.classes) k;
      uses_slot = or-false p.uses_slot k;
      next_range = e k;
      next_id = d k;
    }

pub grown-twice : (p : Planned) (es fs : List CodeEdit) (ts us : List Tiny) (u w : Bool) (k m : ℕ) → grown (grown p es ts u k) fs us w m ≡ grown p (es ++ fs) (ts ++ us) (u || w) (k + m)
grown-twice p es fs ts us u w k m =
    let e : (p.next_range + length ts) + length us ≡ p.next_range + length (ts ++ us) = omega (arith, length-append ts us) in
    let d : (p.next_id + k) + m ≡ p.next_id + (k + m) = omega arith in
    let n : (p.tinies ++ with_numbers p.next_range ts) ++ with_numbers (p.next_range + length ts) us ≡ p.tinies ++ with_numbers p.next_range (ts ++ us) =
    append_assoc p.tinies (with_numbers p.next_range ts) (with_numbers (p.next_range + length ts) us) ∙ ap (λ zs. p.tinies ++ zs) (sym (numbers-both p.next_range ts us)) in
    let c : (p.classes ++ map (λ k. k.0) ts) ++ map (λ k. k.0) us ≡ p.classes ++ map (λ k. k.0) (ts ++ us) =
    append_assoc p.classes (map (λ k. k.0) ts) (map (λ k. k.0) us) ∙ ap (λ zs. p.classes ++ zs) (sym (map-append (λ k. k.0) ts us)) in
    λ j. record {
      edits = append_assoc p.edits es fs j;
      tinies = n j;
      classes = c j;
      uses_slot = or-assoc p.uses_slot u w j;
      next_range = e j;
      next_id = d j;
    }

-- a touched place of these uses the slot
abbrev pub places_use : Spilling → ℕ → ℕ → List (List Instr) → Bool
places_use s n c [] = false
places_use s n c (is ∷ rest) = (touches_place s is && uses_own_slot s is (change s n c is)) || places_use s (n + new_ids (numbered_change s n c is)) (c + length (change s n c is).tinies) rest

abbrev pub blocks_use : Spilling → ℕ → ℕ → List Block → Bool
blocks_use s n c [] = false
blocks_use s n c (b ∷ bs) = let xs = changes s n c (places_of s.target b) in places_use s n c (places_of s.target b) || blocks_use s (n + sum_by new_ids xs) (c + length (tinies_of xs)) bs

-- a place that isn't touched stays, and its instructions don't name the range
pub record StaysSo (s : Spilling) (is : List Instr) : Type 0 where
  pub change_is : (n c : ℕ) → change s n c is ≡ becomes is
  pub unnamed : (i : Instr) → Among i is → names_own s i ≡ false

abbrev pub StayUntouched : Spilling → List (List Instr) → Type 0
StayUntouched s ps = (p : List Instr) → Among p ps → touches_place s p ≡ false → StaysSo s p

own-none : (s : Spilling) (is : List Instr) → ((i : Instr) → Among i is → names_own s i ≡ false) → own_edits s is is ≡ []
own-none s [] h = refl
own-none s (i ∷ is) h = ap (λ u. cond u (code_edits.Replace i.id (known_op i.op) i.operands ∷ own_edits s is is) (own_edits s is is)) (h i here) ∙ own-none s is (λ j m. h j (there m))

module _ (s : Spilling) (b : Block) where
  -- what the definition makes of places
  abbrev made : ℕ → ℕ → List (List Instr) → Planned → Planned
  made n c ps p = grown p (places_edits s b n c ps) (tinies_of (changes s n c ps)) (places_use s n c ps) (sum_by new_ids (changes s n c ps))

  -- what a place's change makes of the plan, and behind it what the rest does
  abbrev behind : ℕ → ℕ → Planned → List CodeEdit → List Tiny → Bool → ℕ → List (List Instr) → Planned
  behind n c p es ts u k rest = grown p (es ++ places_edits s b n c rest) (ts ++ tinies_of (changes s n c rest)) (u || places_use s n c rest) (k + sum_by new_ids (changes s n c rest))

  places-plan : (ps : List (List Instr)) (p : Planned) → StayUntouched s ps → with_places s b ps p ≡ made p.next_id p.next_range ps p
  places-plan [] p stay = grown-none p
  places-plan (is ∷ rest) p stay = go (touches_place s is) refl (λ q. places-plan rest q (λ r m. stay r (there m)))
    where
      n : ℕ
      n = p.next_id

      c : ℕ
      c = p.next_range

      x : Change
      x = change s n c is

      y : Change
      y = numbered_change s n c is

      left : List Instr
      left = instrs_of rest

      es : List CodeEdit
      es = change_edits s (gap_at b (is ++ left)) (gap_at b left) is x

      summed : behind (n + new_ids y) (c + length x.tinies) p es x.tinies (touches_place s is && uses_own_slot s is x) (new_ids y) rest ≡ made n c (is ∷ rest) p
      summed = ap (λ k. grown p (places_edits s b n c (is ∷ rest)) (tinies_of (changes s n c (is ∷ rest))) (places_use s n c (is ∷ rest)) k) (sym (sum_by-cons new_ids y (changes s (n + new_ids y) (c + length x.tinies) rest)))

      go : (u : Bool) → touches_place s is ≡ u → ((q : Planned) → with_places s b rest q ≡ made q.next_id q.next_range rest q) → with_places s b rest (cond u (with_place s b is left p) p) ≡ made n c (is ∷ rest) p
      go true e more =
          let q : Planned = with_place s b is left p in
          let same : new_ids x ≡ new_ids y = sym (new-ids-same s n c is) in
          more q
          ∙ (grown-twice p es (places_edits s b (n + new_ids x) (c + length x.tinies) rest) x.tinies (tinies_of (changes s (n + new_ids x) (c + length x.tinies) rest)) (uses_own_slot s is x) (places_use s (n + new_ids x) (c + length x.tinies) rest) (new_ids x) (sum_by new_ids (changes s (n + new_ids x) (c + length x.tinies) rest))
          ∙ (ap (λ k. behind (n + k) (c + length x.tinies) p es x.tinies (uses_own_slot s is x) k rest) same
          ∙ (ap (λ u. behind (n + new_ids y) (c + length x.tinies) p es x.tinies (u && uses_own_slot s is x) (new_ids y) rest) (sym e)
          ∙ summed)))
      go false e more =
          let z : StaysSo s is = stay is here e in
          let zero-more : n ≡ n + 0 = omega arith in
          let none-more : c ≡ c + 0 = omega arith in
          let kept : behind (n + 0) (c + 0) p (own_edits s is is ++ []) [] false 0 rest ≡ behind (n + new_ids y) (c + length x.tinies) p es x.tinies (touches_place s is && uses_own_slot s is x) (new_ids y) rest =
          ap (λ (w : Change). behind (n + (length (with_ids n w.before) + length (with_ids (n + length w.before) w.behind))) (c + length w.tinies) p (change_edits s (gap_at b (is ++ left)) (gap_at b left) is w) w.tinies false (length (with_ids n w.before) + length (with_ids (n + length w.before) w.behind)) rest) (sym (z.change_is n c))
          ∙ ap (λ u. behind (n + new_ids y) (c + length x.tinies) p es x.tinies (u && uses_own_slot s is x) (new_ids y) rest) (sym e) in
          let sum : ℕ = sum_by new_ids (changes s n c rest) in
          let none-first : sum ≡ 0 + sum = omega arith in
          more p
          ∙ (ap (λ k. grown p (places_edits s b n c rest) (tinies_of (changes s n c rest)) (places_use s n c rest) k) none-first
          ∙ ((λ k. behind (zero-more k) (none-more k) p (sym (append-nil (own_edits s is is) ∙ own-none s is z.unnamed) k) [] false 0 rest)
          ∙ (kept ∙ summed)))

module _ (s : Spilling) where
  abbrev all-made : ℕ → ℕ → List Block → Planned → Planned
  all-made n c bs p = grown p (blocks_edits s n c bs) (flat_map tinies_of (block_changes s n c bs)) (blocks_use s n c bs) (sum_by (sum_by new_ids) (block_changes s n c bs))

  blocks-plan : (bs : List Block) (p : Planned) → ((b : Block) → Among b bs → StayUntouched s (places_of s.target b)) → with_blocks s bs p ≡ all-made p.next_id p.next_range bs p
  blocks-plan [] p stay = grown-none p
  blocks-plan (b ∷ bs) p stay =
      let ps : List (List Instr) = places_of s.target b in
      let n : ℕ = p.next_id in
      let c : ℕ = p.next_range in
      let xs : List Change = changes s n c ps in
      let m : ℕ = n + sum_by new_ids xs in
      let d : ℕ = c + length (tinies_of xs) in
      ap (λ q. with_blocks s bs q) (places-plan s b ps p (stay b here))
      ∙ (blocks-plan bs (made s b n c ps p) (λ e k. stay e (there k))
      ∙ (grown-twice p (places_edits s b n c ps) (blocks_edits s m d bs) (tinies_of xs) (flat_map tinies_of (block_changes s m d bs)) (places_use s n c ps) (blocks_use s m d bs) (sum_by new_ids xs) (sum_by (sum_by new_ids) (block_changes s m d bs))
      ∙ ap (λ k. grown p (blocks_edits s n c (b ∷ bs)) (flat_map tinies_of (block_changes s n c (b ∷ bs))) (blocks_use s n c (b ∷ bs)) k) (sym (sum_by-cons (sum_by new_ids) xs (block_changes s m d bs)))))

  pub whole-plan : ((b : Block) → Among b s.func.blocks → StayUntouched s (places_of s.target b)) → whole_plan s ≡ all-made s.func.next_id (length s.func.classes) s.func.blocks (no_plan s.func)
  whole-plan stay = blocks-plan s.func.blocks (no_plan s.func) stay

  pub tinies-are : ((b : Block) → Among b s.func.blocks → StayUntouched s (places_of s.target b)) → (whole_plan s).tinies ≡ tinies s
  unfolding tinies
  tinies-are stay = ap (λ (p : Planned). p.tinies) (whole-plan stay)

  pub classes-are : ((b : Block) → Among b s.func.blocks → StayUntouched s (places_of s.target b)) → (whole_plan s).classes ≡ tiny_classes s
  classes-are stay = ap (λ (p : Planned). p.classes) (whole-plan stay)

  pub edits-are : ((b : Block) → Among b s.func.blocks → StayUntouched s (places_of s.target b)) → (whole_plan s).edits ≡ all_edits s
  edits-are stay = ap (λ (p : Planned). p.edits) (whole-plan stay)
