-- A lane is live at a point of a function exactly where its number is.
use Rattle.std.proofs.Common.{◌≡◌, ◌⊎◌, ℕ, zero, suc, Bool, true, false, cond, List, [], ◌∷◌, ◌++◌, Option, Some, None, map, drop, refl, sym, ap, ◌∙◌, subst, inl, inr}
use Rattle.std.specs.Prelude.{◌↔◌, slice_get, option_map}
use Rattle.target_base.specs.declared.types.Target.{Target}
use Rattle.meaning.specs.declared.types.Lane.{Lane}
use Rattle.meaning.specs.Code.{Edge, Item, Code as Places, found}
use Rattle.meaning.specs.Live.{Among as Member, here as first, there as later, writes_of, is_slot, OccupiedBefore, OccupiedAfter, Writing as Wrote-in, WritingEarly, Live as LivePlace, LiveAfter, after_next, after_leap, after_phi}
use Rattle.mir_func.specs.declared.func.Instr.{Instr}
use Rattle.mir_func.specs.declared.func.Block.{Block}
use Rattle.mir_func.specs.Value.{Function}
use Rattle.mir_func.specs.Edits.{instr_place}
use Rattle.mir_func.specs.Binding.{does, is_terminator}
use Rattle.mir_meaning.specs.Registers.{is_reserved}
use Rattle.mir_meaning.specs.Codes.{ways_out, block_end, blocks_code}
use Rattle.mir_meaning.specs.Points.{point_item, points_of, has_instr, block_rest, from_instr, AtFirst}
use Rattle.mir_meaning.specs.Paths.{Among, Step, Code, is_written, steps_of, last_of, Entry as Before, Exit as Behind, Live, next, leaps, leaps_phi}
use Rattle.mir_meaning.specs.Stands.{Tags, IsStep, IsOut, At, IsCodeOf}
use Rattle.live_laws.proofs.Places.Stands.{meets, meets-back}
use Rattle.instr_effects.specs.Acts.{entered_reads, entered_writes}
use Rattle.instr_effects.specs.Steps.{Numbering}
use Rattle.instr_effects.specs.Stepping.{tag_of}
use Rattle.instr_effects.proofs.Members.{member-none}
use Rattle.instr_effects.proofs.Plain.{moved-same}
use Rattle.live_laws.specs.Effects.Shaped.{is_proper}
use Rattle.live_laws.specs.Effects.Coded.{instr_step, is_early, numbered_code, number_at, one_on, spot_in, KeepsRules, IsNumbered}
use Rattle.live_laws.specs.Effects.Laws.{LiveByNumber, NumberLaw, OccupiedByNumber, OccupiedLaw}
use Rattle.live_laws.proofs.Effects.Moving.{some-same}
use Rattle.live_laws.proofs.Effects.Flags.{IsSame, writes-same, early-same}
use Rattle.live_laws.proofs.Effects.Instrs.{same-law}
use Rattle.live_laws.proofs.Effects.Blocks.{slice-member, numbers-apart, block_code, found-block}
use Rattle.live_laws.proofs.Effects.Whole.{steps-at, standing, starts, is-out, step-at, code-of, points-are}

pub drop-map : {X Y : Type 0} (g : X → Y) (k : ℕ) (xs : List X) → drop k (map g xs) ≡ map g (drop k xs)
drop-map g zero xs = refl
drop-map g (suc k) [] = refl
drop-map g (suc k) (x ∷ xs) = drop-map g k xs

drop-of : {X : Type 0} (x : X) (k : ℕ) (xs : List X) → Member x (drop k xs) → Member x xs
drop-of x zero xs m = m
drop-of x (suc k) [] m = m
drop-of x (suc k) (y ∷ xs) m = later (drop-of x k xs m)

-- the code from an instruction on stands where the instruction does
from-spot : (t : Target) (f : Function) (id : ℕ) (bs : List Block) (x k : ℕ) → spot_in id bs ≡ Some (x, k) → (b : Block) × (after : List Block) × (slice_get bs x ≡ Some b) × (from_instr t f id bs ≡ block_rest t f b after k)
from-spot t f id [] x k e = absurd (cc)
from-spot t f id (b ∷ bs) x k e = go (has_instr id b) refl e (from-spot t f id bs)
  where
    up : (q : Option (ℕ × ℕ)) → option_map one_on q ≡ Some (x, k) → has_instr id b ≡ false → ((y j : ℕ) → q ≡ Some (y, j) → (c : Block) × (after : List Block) × (slice_get bs y ≡ Some c) × (from_instr t f id bs ≡ block_rest t f c after j)) → (c : Block) × (after : List Block) × (slice_get (b ∷ bs) x ≡ Some c) × (cond (has_instr id b) (block_rest t f b bs (instr_place id b.instrs)) (from_instr t f id bs) ≡ block_rest t f c after k)
    up None g h ih = absurd (cc)
    up (Some (y, j)) g h ih =
        let z = ih y j refl in
        let same = some-same (suc y, j) (x, k) g in
        (z.0, z.1, ap (slice_get (b ∷ bs)) (sym (ap (λ p. p.0) same)) ∙ z.2, ap (λ q. cond q (block_rest t f b bs (instr_place id b.instrs)) (from_instr t f id bs)) h ∙ z.3 ∙ ap (block_rest t f z.0 z.1) (ap (λ p. p.1) same))

    go : (q : Bool) → has_instr id b ≡ q → cond q (Some (0, instr_place id b.instrs)) (option_map one_on (spot_in id bs)) ≡ Some (x, k) → ((y j : ℕ) → spot_in id bs ≡ Some (y, j) → (c : Block) × (after : List Block) × (slice_get bs y ≡ Some c) × (from_instr t f id bs ≡ block_rest t f c after j)) → (c : Block) × (after : List Block) × (slice_get (b ∷ bs) x ≡ Some c) × (cond (has_instr id b) (block_rest t f b bs (instr_place id b.instrs)) (from_instr t f id bs) ≡ block_rest t f c after k)
    go true h g ih =
        let same = some-same (0, instr_place id b.instrs) (x, k) g in
        (b, bs, ap (slice_get (b ∷ bs)) (sym (ap (λ p. p.0) same)), ap (λ q. cond q (block_rest t f b bs (instr_place id b.instrs)) (from_instr t f id bs)) h ∙ ap (block_rest t f b bs) (ap (λ p. p.1) same))
    go false h g ih = up (spot_in id bs) g h ih

leaving : (b : Bool) (out : List Edge) (e : Edge) → Member e (cond b out []) → (b ≡ true) × Member e out
leaving true out e m = (refl, m)
leaving false out e m = absurd (member-none e m)

module _ (t : Target) (f : Function) (num : Numbering) (rules : KeepsRules t f) (numbered : IsNumbered t f num) (l : Lane) (n : ℕ) (still : is_slot l ≡ false) (tagged : tag_of num (is_proper t) l ≡ Some n) where
  abbrev T : Tags
  T = tag_of num (is_proper t)

  abbrev R : Lane → Bool
  R = is_reserved t

  abbrev C : Places
  C = blocks_code (point_item t f) t f f.blocks

  abbrev code : Code
  code = numbered_code t f num

  abbrev N : ℕ → ℕ
  N = number_at f.blocks

  stands : IsCodeOf R T N C code
  stands = code-of t f num rules numbered

  same-number : (m : ℕ) → T l ≡ Some m → m ≡ n
  same-number m e = some-same m n (sym e ∙ tagged)

  same-lane-of : (a : Lane) → T a ≡ Some n → a ≡ l
  same-lane-of a e = go (stands.tagging.apart a l n e tagged)
    where
      go : (a ≡ l) ⊎ ((is_slot a ≡ true) × (is_slot l ≡ true)) → a ≡ l
      go (inl g) = g
      go (inr z) = absurd (let h = z.1 in cc)

  by-entry : (x : ℕ) (p : Places) (ss : List Step) → At R T N C code x p ss → LivePlace R C p l ↔ Live code x (Before ss) n
  by-entry x p ss at = (
    (λ h. let z = meets R T N C code stands h x ss at in subst (λ m. Live code x (Before ss) m) (same-number z.0 z.1) z.2),
    (λ h. let z = meets-back R T N C code stands h p at in subst (λ a. LivePlace R C p a) (same-lane-of z.0 z.1) z.2),
  )

  by-exit : (x : ℕ) (out : List Edge) (i : Item) (p : Places) (s : Step) (ss : List Step) → IsStep R T out i s → IsOut R T N C code x out → At R T N C code x p ss → LiveAfter R C i p l ↔ Live code x (Behind s ss) n
  by-exit x out i p s ss step o at = (
    (λ h. forth h),
    (λ h. let z = meets-back R T N C code stands h out i p step o at in subst (λ a. LiveAfter R C i p a) (same-lane-of z.0 z.1) z.2),
  )
    where
      forth : LiveAfter R C i p l → Live code x (Behind s ss) n
      forth (after_next q h) = next (let z = meets R T N C code stands h x ss at in subst (λ m. Live code x (Before ss) m) (same-number z.0 z.1) z.2)
      forth (after_leap {e = e} {a = a} m h g) =
          let out' = leaving s.leaves out e (subst (λ es. Member e es) step.exits m) in
          let y = o.forth e out'.1 in
          let begun = subst (λ k. At R T N C code y.0 (found k C) (steps_of code y.0)) (sym y.2) (starts t f num rules numbered x y.0 y.1) in
          let z = meets R T N C code stands h y.0 (steps_of code y.0) begun in
          let same : l ≡ a = moved-same l a (sym g ∙ o.through e a out'.1 h) in
          leaps out'.0 y.1 (subst (λ k. Live code y.0 (Before (steps_of code y.0)) k) (same-number z.0 (ap T same ∙ z.1)) z.2)
      forth (after_phi {e = e} {w = w} m k g) =
          let out' = leaving s.leaves out e (subst (λ es. Member e es) step.exits m) in
          let z = o.phis e w l out'.1 k g (stands.tagging.free l n tagged) in
          leaps_phi out'.0 (subst (λ v. Among v (last_of code x)) (same-number z.0 z.1) z.2)

  -- the start of a block
  start : (x : ℕ) (b : Block) → slice_get f.blocks x ≡ Some b → LivePlace R C (found b.number C) l ↔ Live code x (Before (steps_of code x)) n
  start x b e =
      let block = found-block t f f.blocks x b e (numbers-apart f rules.blocks) in
      subst (λ p. LivePlace R C p l ↔ Live code x (Before (steps_of code x)) n) (sym block.1)
      (subst (λ ss. LivePlace R C (block_code t f b block.0) l ↔ Live code x (Before ss) n) (sym (steps-at t f num rules numbered x b e)) (by-entry x (block_code t f b block.0) (map (instr_step t f num) b.instrs) (standing t f num rules numbered x b e block.0 b.instrs (λ i m. m))))

  -- the steps from an instruction on
  rest-at : (x k : ℕ) (b : Block) → slice_get f.blocks x ≡ Some b → drop k (steps_of code x) ≡ map (instr_step t f num) (drop k b.instrs)
  rest-at x k b e = ap (drop k) (steps-at t f num rules numbered x b e) ∙ drop-map (instr_step t f num) k b.instrs

  entry : (id x k : ℕ) → spot_in id f.blocks ≡ Some (x, k) → LivePlace R C (from_instr t f id f.blocks) l ↔ Live code x (Before (drop k (steps_of code x))) n
  entry id x k e =
      let z = from-spot t f id f.blocks x k e in
      subst (λ p. LivePlace R C p l ↔ Live code x (Before (drop k (steps_of code x))) n) (sym z.3)
      (subst (λ ss. LivePlace R C (block_rest t f z.0 z.1 k) l ↔ Live code x (Before ss) n) (sym (rest-at x k z.0 z.2)) (by-entry x (block_rest t f z.0 z.1 k) (map (instr_step t f num) (drop k z.0.instrs)) (standing t f num rules numbered x z.0 z.2 z.1 (drop k z.0.instrs) (λ i m. drop-of i k z.0.instrs m))))

  same-first : (s r : Step) (ss rs : List Step) → s ∷ ss ≡ r ∷ rs → s ≡ r
  same-first s r ss rs e = cc

  same-rest : (s r : Step) (ss rs : List Step) → s ∷ ss ≡ r ∷ rs → ss ≡ rs
  same-rest s r ss rs e = cc

  exit : (id x k : ℕ) (s : Step) (rest : List Step) → spot_in id f.blocks ≡ Some (x, k) → drop k (steps_of code x) ≡ s ∷ rest → AtFirst (λ i p. LiveAfter R C i p l) (from_instr t f id f.blocks) ↔ Live code x (Behind s rest) n
  exit id x k s rest e g =
      let z = from-spot t f id f.blocks x k e in
      subst (λ p. AtFirst (λ i q. LiveAfter R C i q l) p ↔ Live code x (Behind s rest) n) (sym z.3) (at z.0 z.1 z.2 (drop k z.0.instrs) (λ i m. drop-of i k z.0.instrs m) (sym g ∙ rest-at x k z.0 z.2))
    where
      at : (b : Block) (after : List Block) → slice_get f.blocks x ≡ Some b → (is : List Instr) → ((i : Instr) → Member i is → Member i b.instrs) → s ∷ rest ≡ map (instr_step t f num) is → AtFirst (λ i q. LiveAfter R C i q l) (map (point_item t f b) is ++ (block_end t f b after ∷ blocks_code (point_item t f) t f after)) ↔ Live code x (Behind s rest) n
      at b after h [] inside q = absurd (cc)
      at b after h (i ∷ is) inside q =
          let one = same-first s (instr_step t f num i) rest (map (instr_step t f num) is) q in
          let two = same-rest s (instr_step t f num i) rest (map (instr_step t f num) is) q in
          let p = map (point_item t f b) is ++ (block_end t f b after ∷ blocks_code (point_item t f) t f after) in
          subst (λ v. LiveAfter R C (point_item t f b i) p l ↔ Live code x (Behind v rest) n) (sym one)
          (subst (λ v. LiveAfter R C (point_item t f b i) p l ↔ Live code x (Behind (instr_step t f num i) v) n) (sym two)
          (by-exit x (ways_out t f b) (point_item t f b i) p (instr_step t f num i) (map (instr_step t f num) is) (step-at t f num rules numbered x b h i (inside i first)) (is-out t f num rules numbered x b h) (standing t f num rules numbered x b h after is (λ j m. inside j (later m)))))

  -- what is occupied

  either : {A B X Y : Type 0} → A ↔ X → B ↔ Y → (A ⊎ B) ↔ (X ⊎ Y)
  either {A} {B} {X} {Y} f g = (there, back)
    where
      there : A ⊎ B → X ⊎ Y
      there (inl a) = inl (f.0 a)
      there (inr b) = inr (g.0 b)

      back : X ⊎ Y → A ⊎ B
      back (inl x) = inl (f.1 x)
      back (inr y) = inr (g.1 y)

  with-fact : {A X P : Type 0} → P → A ↔ X → (A × P) ↔ X
  with-fact p f = ((λ z. f.0 z.0), (λ x. (f.1 x, p)))

  free : is_reserved t l ≡ false
  free = (code-of t f num rules numbered).tagging.free l n tagged

  module _ (b : Block) (x : ℕ) (place : slice_get f.blocks x ≡ Some b) (i : Instr) (inside : Member i b.instrs) where
    same : IsSame T (writes_of (point_item t f b i)) (entered_writes t f i)
    same = same-law t f num rules numbered b i (slice-member f.blocks x b place) inside

    writes : Wrote-in (point_item t f b i) l ↔ (is_written n (instr_step t f num i) ≡ true)
    writes = writes-same R num (is_proper t) numbered.numbering (point_item t f b i) i.id (does is_terminator t i) (entered_reads t f i) (entered_writes t f i) same l n tagged still

    early : WritingEarly (point_item t f b i) l ↔ (is_early n (instr_step t f num i) ≡ true)
    early = early-same R num (is_proper t) numbered.numbering (point_item t f b i) i.id (does is_terminator t i) (entered_reads t f i) (entered_writes t f i) same l n tagged still

  occupied-before : (id x k : ℕ) (s : Step) (rest : List Step) → spot_in id f.blocks ≡ Some (x, k) → drop k (steps_of code x) ≡ s ∷ rest → AtFirst (λ i p. OccupiedBefore R C i p l) (from_instr t f id f.blocks) ↔ (Live code x (Before (s ∷ rest)) n ⊎ (is_early n s ≡ true))
  occupied-before id x k s rest e g =
      let z = from-spot t f id f.blocks x k e in
      subst (λ p. AtFirst (λ i q. OccupiedBefore R C i q l) p ↔ (Live code x (Before (s ∷ rest)) n ⊎ (is_early n s ≡ true))) (sym z.3) (at z.0 z.1 z.2 (drop k z.0.instrs) (λ i m. drop-of i k z.0.instrs m) (sym g ∙ rest-at x k z.0 z.2))
    where
      at : (b : Block) (after : List Block) → slice_get f.blocks x ≡ Some b → (is : List Instr) → ((i : Instr) → Member i is → Member i b.instrs) → s ∷ rest ≡ map (instr_step t f num) is → AtFirst (λ i q. OccupiedBefore R C i q l) (map (point_item t f b) is ++ (block_end t f b after ∷ blocks_code (point_item t f) t f after)) ↔ (Live code x (Before (s ∷ rest)) n ⊎ (is_early n s ≡ true))
      at b after h [] inside q = absurd (cc)
      at b after h (i ∷ is) inside q =
          let one = same-first s (instr_step t f num i) rest (map (instr_step t f num) is) q in
          let p = map (point_item t f b) is ++ (block_end t f b after ∷ blocks_code (point_item t f) t f after) in
          subst (λ v. ((LivePlace R C (point_item t f b i ∷ p) l ⊎ WritingEarly (point_item t f b i) l) × (is_reserved t l ≡ false)) ↔ (Live code x (Before v) n ⊎ (is_early n s ≡ true))) (sym q)
          (subst (λ v. ((LivePlace R C (point_item t f b i ∷ p) l ⊎ WritingEarly (point_item t f b i) l) × (is_reserved t l ≡ false)) ↔ (Live code x (Before (map (instr_step t f num) (i ∷ is))) n ⊎ (is_early n v ≡ true))) (sym one)
          (with-fact free (either (by-entry x (point_item t f b i ∷ p) (map (instr_step t f num) (i ∷ is)) (standing t f num rules numbered x b h after (i ∷ is) inside)) (early b x h i (inside i first)))))

  occupied-behind : (id x k : ℕ) (s : Step) (rest : List Step) → spot_in id f.blocks ≡ Some (x, k) → drop k (steps_of code x) ≡ s ∷ rest → AtFirst (λ i p. OccupiedAfter R C i p l) (from_instr t f id f.blocks) ↔ (Live code x (Behind s rest) n ⊎ (is_written n s ≡ true))
  occupied-behind id x k s rest e g =
      let z = from-spot t f id f.blocks x k e in
      subst (λ p. AtFirst (λ i q. OccupiedAfter R C i q l) p ↔ (Live code x (Behind s rest) n ⊎ (is_written n s ≡ true))) (sym z.3) (at z.0 z.1 z.2 (drop k z.0.instrs) (λ i m. drop-of i k z.0.instrs m) (sym g ∙ rest-at x k z.0 z.2))
    where
      at : (b : Block) (after : List Block) → slice_get f.blocks x ≡ Some b → (is : List Instr) → ((i : Instr) → Member i is → Member i b.instrs) → s ∷ rest ≡ map (instr_step t f num) is → AtFirst (λ i q. OccupiedAfter R C i q l) (map (point_item t f b) is ++ (block_end t f b after ∷ blocks_code (point_item t f) t f after)) ↔ (Live code x (Behind s rest) n ⊎ (is_written n s ≡ true))
      at b after h [] inside q = absurd (cc)
      at b after h (i ∷ is) inside q =
          let one = same-first s (instr_step t f num i) rest (map (instr_step t f num) is) q in
          let two = same-rest s (instr_step t f num i) rest (map (instr_step t f num) is) q in
          let p = map (point_item t f b) is ++ (block_end t f b after ∷ blocks_code (point_item t f) t f after) in
          subst (λ v. ((LiveAfter R C (point_item t f b i) p l ⊎ Wrote-in (point_item t f b i) l) × (is_reserved t l ≡ false)) ↔ (Live code x (Behind v rest) n ⊎ (is_written n v ≡ true))) (sym one)
          (subst (λ v. ((LiveAfter R C (point_item t f b i) p l ⊎ Wrote-in (point_item t f b i) l) × (is_reserved t l ≡ false)) ↔ (Live code x (Behind (instr_step t f num i) v) n ⊎ (is_written n (instr_step t f num i) ≡ true))) (sym two)
          (with-fact free (either (by-exit x (ways_out t f b) (point_item t f b i) p (instr_step t f num i) (map (instr_step t f num) is) (step-at t f num rules numbered x b h i (inside i first)) (is-out t f num rules numbered x b h) (standing t f num rules numbered x b h after is (λ j m. inside j (later m)))) (writes b x h i (inside i first)))))

  pub occupied-by-number : OccupiedByNumber t f num l n
  occupied-by-number = record {
    entry = λ id x k s rest e g. subst (λ P. AtFirst (λ i p. OccupiedBefore R P i p l) (from_instr t f id f.blocks) ↔ (Live code x (Before (s ∷ rest)) n ⊎ (is_early n s ≡ true))) (sym points) (occupied-before id x k s rest e g);
    exit = λ id x k s rest e g. subst (λ P. AtFirst (λ i p. OccupiedAfter R P i p l) (from_instr t f id f.blocks) ↔ (Live code x (Behind s rest) n ⊎ (is_written n s ≡ true))) (sym points) (occupied-behind id x k s rest e g);
  }
    where
      points : points_of t f ≡ C
      points = points-are t f num rules numbered

  pub by-number : LiveByNumber t f num l n
  by-number = record {
    start = λ x b e. subst (λ P. LivePlace R P (found b.number P) l ↔ Live code x (Before (steps_of code x)) n) (sym points) (start x b e);
    entry = λ id x k e. subst (λ P. LivePlace R P (from_instr t f id f.blocks) l ↔ Live code x (Before (drop k (steps_of code x))) n) (sym points) (entry id x k e);
    exit = λ id x k s rest e g. subst (λ P. AtFirst (λ i p. LiveAfter R P i p l) (from_instr t f id f.blocks) ↔ Live code x (Behind s rest) n) (sym points) (exit id x k s rest e g);
  }
    where
      points : points_of t f ≡ C
      points = points-are t f num rules numbered

pub number-law : NumberLaw
number-law t f num rules numbered l n still tagged = by-number t f num rules numbered l n still tagged

pub occupied-law : OccupiedLaw
occupied-law t f num rules numbered l n still tagged = occupied-by-number t f num rules numbered l n still tagged
