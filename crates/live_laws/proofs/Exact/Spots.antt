-- Where the instruction of an id stands, and that lanes which are live or occupied there have numbers.
use Rattle.std.proofs.Common.{◌≡◌, ◌⊎◌, ◌<◌, ℕ, zero, suc, Bool, true, false, cond, not, ◌+◌, List, [], ◌∷◌, ◌++◌, Option, Some, None, map, take, drop, length, inl, inr, refl, sym, ap, ◌∙◌, subst, arith, eqb, eqb-true}
use Rattle.std.specs.Prelude.{slice_get, option_map}
use Rattle.std.proofs.lemmas.Bool.{ltb-true}
use Rattle.target_base.specs.declared.types.Target.{Target}
use Rattle.meaning.specs.declared.types.Lane.{Lane}
use Rattle.meaning.specs.Code.{Edge, Code as Places, found}
use Rattle.meaning.specs.Live.{Among as Member, here as first, there as later, Live as LivePlace, LiveAfter, after_next, after_leap, after_phi, Writing, WritingEarly, OccupiedBefore, OccupiedAfter, is_slot}
use Rattle.mir_func.specs.declared.func.Block.{Block}
use Rattle.mir_func.specs.declared.func.Instr.{Instr}
use Rattle.mir_func.specs.Value.{Function}
use Rattle.mir_func.specs.Edits.{instr_place}
use Rattle.mir_meaning.specs.Registers.{is_reserved}
use Rattle.mir_meaning.specs.Codes.{ways_out, block_end, blocks_code}
use Rattle.mir_meaning.specs.Points.{point_item, has_instr, block_rest, from_instr, AtFirst}
use Rattle.mir_meaning.specs.Paths.{Code, steps_of}
use Rattle.mir_meaning.specs.Stands.{Tags, At}
use Rattle.live_laws.proofs.Places.Stands.{meets}
use Rattle.instr_effects.specs.Steps.{Numbering}
use Rattle.instr_effects.specs.Stepping.{tag_of}
use Rattle.instr_effects.proofs.Members.{member-none}
use Rattle.instr_effects.proofs.Plain.{moved-same}
use Rattle.live_laws.specs.Effects.Shaped.{is_proper}
use Rattle.live_laws.specs.Effects.Coded.{instr_step, numbered_code, number_at, one_on, spot_in, KeepsRules, IsNumbered}
use Rattle.live_laws.proofs.Effects.Instrs.{written-law}
use Rattle.live_laws.proofs.Effects.Blocks.{slice-member}
use Rattle.live_laws.proofs.Effects.Whole.{standing, starts, is-out, step-at, code-of}

-- the instruction of an id
pub record Spot (t : Target) (f : Function) (id : ℕ) (bs : List Block) (x k : ℕ) : Type 0 where
  pub block : Block
  pub after : List Block
  pub instr : Instr
  pub place : slice_get bs x ≡ Some block
  pub there : slice_get block.instrs k ≡ Some instr
  pub named : instr.id ≡ id
  pub code : from_instr t f id bs ≡ block_rest t f block after k

abbrev first-of : Option (ℕ × ℕ) → ℕ
first-of None = 0
first-of (Some p) = p.0

abbrev second-of : Option (ℕ × ℕ) → ℕ
second-of None = 0
second-of (Some p) = p.1

same-pair : (x k y j : ℕ) → ◌≡◌ {A = Option (ℕ × ℕ)} (Some (x, k)) (Some (y, j)) → (x ≡ y) × (k ≡ j)
same-pair x k y j e = (ap first-of e, ap second-of e)

-- the first instruction of an id in a block
named-at : (id : ℕ) (is : List Instr) → instr_place id is < length is → (i : Instr) × (slice_get is (instr_place id is) ≡ Some i) × (i.id ≡ id)
named-at id [] h = absurd (omega arith)
named-at id (i ∷ is) h = go (eqb i.id id) refl h (named-at id is)
  where
    go : (q : Bool) → eqb i.id id ≡ q → cond (not q) (1 + instr_place id is) 0 < length (i ∷ is) → (instr_place id is < length is → (j : Instr) × (slice_get is (instr_place id is) ≡ Some j) × (j.id ≡ id)) → (j : Instr) × (slice_get (i ∷ is) (cond (not q) (1 + instr_place id is) 0) ≡ Some j) × (j.id ≡ id)
    go true e g ih = (i, refl, eqb-true i.id id e)
    go false e g ih =
        let z = ih (omega arith) in
        let one : 1 + instr_place id is ≡ suc (instr_place id is) = omega arith in
        (z.0, ap (slice_get (i ∷ is)) one ∙ z.1, z.2)

pub spot : (t : Target) (f : Function) (id : ℕ) (bs : List Block) (x k : ℕ) → spot_in id bs ≡ Some (x, k) → Spot t f id bs x k
spot t f id [] x k e = absurd (cc)
spot t f id (b ∷ bs) x k e = go (has_instr id b) refl e (spot t f id bs)
  where
    up : (q : Option (ℕ × ℕ)) → option_map one_on q ≡ Some (x, k) → has_instr id b ≡ false → ((y j : ℕ) → q ≡ Some (y, j) → Spot t f id bs y j) → Spot t f id (b ∷ bs) x k
    up None g h ih = absurd (cc)
    up (Some (y, j)) g h ih =
        let z = ih y j refl in
        let same = same-pair (suc y) j x k g in
        record {
          block = z.block;
          after = z.after;
          instr = z.instr;
          place = ap (slice_get (b ∷ bs)) (sym same.0) ∙ z.place;
          there = ap (slice_get z.block.instrs) (sym same.1) ∙ z.there;
          named = z.named;
          code = ap (λ q. cond q (block_rest t f b bs (instr_place id b.instrs)) (from_instr t f id bs)) h ∙ z.code ∙ ap (block_rest t f z.block z.after) same.1;
        }

    go : (q : Bool) → has_instr id b ≡ q → cond q (Some (0, instr_place id b.instrs)) (option_map one_on (spot_in id bs)) ≡ Some (x, k) → ((y j : ℕ) → spot_in id bs ≡ Some (y, j) → Spot t f id bs y j) → Spot t f id (b ∷ bs) x k
    go true h g ih =
        let same = same-pair 0 (instr_place id b.instrs) x k g in
        let z = named-at id b.instrs (ltb-true (instr_place id b.instrs) (length b.instrs) h) in
        record {
          block = b;
          after = bs;
          instr = z.0;
          place = ap (slice_get (b ∷ bs)) (sym same.0);
          there = ap (slice_get b.instrs) (sym same.1) ∙ z.1;
          named = z.2;
          code = ap (λ q. cond q (block_rest t f b bs (instr_place id b.instrs)) (from_instr t f id bs)) h ∙ ap (block_rest t f b bs) same.1;
        }
    go false h g ih = up (spot_in id bs) g h ih

pub drop-at : {X : Type 0} (xs : List X) (k : ℕ) (x : X) → slice_get xs k ≡ Some x → (drop k xs ≡ x ∷ drop (suc k) xs) × (xs ≡ take k xs ++ x ∷ drop (suc k) xs)
drop-at [] k x e = absurd (cc)
drop-at (y ∷ xs) zero x e = let same : y ≡ x = cc in (ap (λ z. z ∷ xs) same, ap (λ z. z ∷ xs) same)
drop-at (y ∷ xs) (suc k) x e = let z = drop-at xs k x e in (z.0, ap (λ ys. y ∷ ys) z.1)

drop-of : {X : Type 0} (x : X) (k : ℕ) (xs : List X) → Member x (drop k xs) → Member x xs
drop-of x zero xs m = m
drop-of x (suc k) [] m = m
drop-of x (suc k) (y ∷ xs) m = later (drop-of x k xs m)

leaving : (b : Bool) (out : List Edge) (e : Edge) → Member e (cond b out []) → (b ≡ true) × Member e out
leaving true out e m = (refl, m)
leaving false out e m = absurd (member-none e m)

module _ (t : Target) (f : Function) (num : Numbering) (rules : KeepsRules t f) (numbered : IsNumbered t f num) (l : Lane) where
  abbrev T : Tags
  T = tag_of num (is_proper t)

  abbrev R : Lane → Bool
  R = is_reserved t

  abbrev C : Places
  C = blocks_code (point_item t f) t f f.blocks

  abbrev code : Code
  code = numbered_code t f num

  abbrev HasNumber : Type 0
  HasNumber = (n : ℕ) × (T l ≡ Some n)

  module _ (id x k : ℕ) (s : Spot t f id f.blocks x k) where
    pub rest : (j : ℕ) → At R T (number_at f.blocks) C code x (map (point_item t f s.block) (drop j s.block.instrs) ++ (block_end t f s.block s.after ∷ blocks_code (point_item t f) t f s.after)) (map (instr_step t f num) (drop j s.block.instrs))
    rest j = standing t f num rules numbered x s.block s.place s.after (drop j s.block.instrs) (λ i m. drop-of i j s.block.instrs m)

    pub entry-numbered : LivePlace R C (from_instr t f id f.blocks) l → HasNumber
    entry-numbered h =
        let z = meets R T (number_at f.blocks) C code (code-of t f num rules numbered) (subst (λ p. LivePlace R C p l) s.code h) x _ (rest k) in
        (z.0, z.1)

    pub inside : Member s.instr s.block.instrs
    inside = drop-of s.instr k s.block.instrs (subst (Member s.instr) (sym (drop-at s.block.instrs k s.instr s.there).0) first)

    after-numbered : R l ≡ false → (p : Places) → (LivePlace R C p l → HasNumber) → LiveAfter R C (point_item t f s.block s.instr) p l → HasNumber
    after-numbered free p onward (after_next q h) = onward h
    after-numbered free p onward (after_leap {e = e} {a = a} m h g) =
        let step = step-at t f num rules numbered x s.block s.place s.instr inside in
        let o = is-out t f num rules numbered x s.block s.place in
        let out' = leaving (instr_step t f num s.instr).leaves (ways_out t f s.block) e (subst (λ es. Member e es) step.exits m) in
        let y = o.forth e out'.1 in
        let begun = subst (λ n. At R T (number_at f.blocks) C code y.0 (found n C) (steps_of code y.0)) (sym y.2) (starts t f num rules numbered x y.0 y.1) in
        let z = meets R T (number_at f.blocks) C code (code-of t f num rules numbered) h y.0 (steps_of code y.0) begun in
        let same : l ≡ a = moved-same l a (sym g ∙ o.through e a out'.1 h) in
        (z.0, ap T same ∙ z.1)
    after-numbered free p onward (after_phi {e = e} {w = w} m j g) =
        let step = step-at t f num rules numbered x s.block s.place s.instr inside in
        let o = is-out t f num rules numbered x s.block s.place in
        let out' = leaving (instr_step t f num s.instr).leaves (ways_out t f s.block) e (subst (λ es. Member e es) step.exits m) in
        let z = o.phis e w l out'.1 j g free in
        (z.0, z.1)

    abbrev pub ahead : Places
    ahead = map (point_item t f s.block) (drop (suc k) s.block.instrs) ++ (block_end t f s.block s.after ∷ blocks_code (point_item t f) t f s.after)

    -- the instruction comes first in the code from its id on
    pub first-is : from_instr t f id f.blocks ≡ point_item t f s.block s.instr ∷ ahead
    first-is = s.code ∙ ap (λ (is : List Instr). map (point_item t f s.block) is ++ (block_end t f s.block s.after ∷ blocks_code (point_item t f) t f s.after)) (drop-at s.block.instrs k s.instr s.there).0

    onward : LivePlace R C ahead l → HasNumber
    onward q = let z = meets R T (number_at f.blocks) C code (code-of t f num rules numbered) q x _ (rest (suc k)) in (z.0, z.1)

    pub exit-numbered : R l ≡ false → AtFirst (λ i p. LiveAfter R C i p l) (from_instr t f id f.blocks) → HasNumber
    exit-numbered free h = after-numbered free ahead onward (subst (AtFirst (λ i p. LiveAfter R C i p l)) first-is h)

    -- so has one that the instruction writes

    written-numbered : is_slot l ≡ false → R l ≡ false → Writing (point_item t f s.block s.instr) l → HasNumber
    written-numbered still free w =
        let z = written-law t f num rules numbered s.block s.instr (slice-member f.blocks x s.block s.place) inside w.0 w.1 (ap R w.2 ∙ free) (ap is_slot w.2 ∙ still) in
        (z.0, ap T (sym w.2) ∙ z.1)

    pub entry-occupied : is_slot l ≡ false → AtFirst (λ i p. OccupiedBefore R C i p l) (from_instr t f id f.blocks) → HasNumber
    entry-occupied still h = let z = subst (AtFirst (λ i p. OccupiedBefore R C i p l)) first-is h in go z.0 z.1
      where
        go : LivePlace R C (point_item t f s.block s.instr ∷ ahead) l ⊎ WritingEarly (point_item t f s.block s.instr) l → R l ≡ false → HasNumber
        go (inl q) free = entry-numbered (subst (λ p. LivePlace R C p l) (sym first-is) q)
        go (inr w) free = written-numbered still free (w.0, w.1, w.2)

    pub exit-occupied : is_slot l ≡ false → AtFirst (λ i p. OccupiedAfter R C i p l) (from_instr t f id f.blocks) → HasNumber
    exit-occupied still h = let z = subst (AtFirst (λ i p. OccupiedAfter R C i p l)) first-is h in go z.0 z.1
      where
        go : LiveAfter R C (point_item t f s.block s.instr) ahead l ⊎ Writing (point_item t f s.block s.instr) l → R l ≡ false → HasNumber
        go (inl q) free = after-numbered free ahead onward q
        go (inr w) free = written-numbered still free w
