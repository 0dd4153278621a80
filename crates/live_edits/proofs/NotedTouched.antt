-- The notes of touched instructions are all notes of the code, where what is touched is just what they tell.
use Rattle.std.proofs.Common.{◌≡◌, ◌<◌, ℕ, zero, suc, Bool, true, false, ◌&&◌, ◌||◌, length, List, [], ◌∷◌, Option, Some, ◌⊎◌, inl, inr, map, refl, sym, ap, ◌∙◌, subst, eqb-true, eq-eqb}
use Rattle.std.specs.Prelude.{nat_eq, slice_get}
use Rattle.std.specs.List.{list_any}
use Rattle.target_base.specs.declared.types.Target.{Target}
use Rattle.mir_func.specs.declared.func.Block.{Block}
use Rattle.mir_func.specs.declared.func.Instr.{Instr}
use Rattle.mir_func.specs.Value.{Function}
use Rattle.mir_func.specs.At.{instrs_at, instr_at}
use Rattle.mir_meaning.specs.Paths.{Among, here, there, Step, has, steps_of}
use Rattle.instr_effects.specs.Steps.{Numbering}
use Rattle.live_lanes.specs.declared.row.LaneRange.{LaneRange}
use Rattle.live_lanes.specs.Coded.{Doing, bodies_from, code_of}
use Rattle.live_lanes.specs.Doing.{doing_of}
use Rattle.live_lanes.proofs.Basics.{none-among}
use Rattle.live_lanes.proofs.Cells.{both, both-left, both-right}
use Rattle.live_lanes.proofs.Coded.{among-has, has-among}
use Rattle.live_lanes.proofs.Numbered.{among-cases}
use Rattle.edit_laws.specs.Deferred.{idle, idle_code}
use Rattle.live_edits.specs.declared.cells.CellNotes.{CellNotes}
use Rattle.live_edits.specs.declared.notes.TouchedInstr.{TouchedInstr}
use Rattle.live_edits.specs.Remade.{noted_ids, AreAllNotes}
use Rattle.live_edits.specs.Noted.{HasNotes, touched_lanes, touches, touched_at}
use Rattle.live_edits.proofs.NotedLists.{among-get, get-among, some-same, has-note}

-- touched instructions of which a test holds

module _ (p : TouchedInstr → Bool) where
  any-found : (xs : List TouchedInstr) → list_any p xs ≡ true → (x : TouchedInstr) × Among x xs × (p x ≡ true)
  any-found [] e = absurd (let z : false ≡ true = e in cc)
  any-found (x ∷ xs) e = go (p x) refl e (any-found xs)
    where
      go : (t : Bool) → p x ≡ t → t || list_any p xs ≡ true → (list_any p xs ≡ true → (y : TouchedInstr) × Among y xs × (p y ≡ true)) → (y : TouchedInstr) × Among y (x ∷ xs) × (p y ≡ true)
      go true f g ih = (x, here, f)
      go false f g ih = let z = ih g in (z.0, there z.1, z.2)

  any-there : (xs : List TouchedInstr) (x : TouchedInstr) → Among x xs → p x ≡ true → list_any p xs ≡ true
  any-there [] x a e = absurd (none-among x a)
  any-there (y ∷ xs) x a e = go (p y) refl (among-cases x y xs a) (λ b. any-there xs x b e)
    where
      go : (t : Bool) → p y ≡ t → (x ≡ y) ⊎ Among x xs → (Among x xs → list_any p xs ≡ true) → t || list_any p xs ≡ true
      go true f b ih = refl
      go false f (inl g) ih = absurd (let k : false ≡ true = sym f ∙ (ap p (sym g) ∙ e) in cc)
      go false f (inr b) ih = ih b

same-truth : (t u : Bool) → (t ≡ true → u ≡ true) → (u ≡ true → t ≡ true) → t ≡ u
same-truth true u h k = sym (h refl)
same-truth false true h k = k refl
same-truth false false h k = refl

-- the step of an instruction

steps-are : (doing : Doing) (place : ℕ → Option ℕ) (all bs : List Block) (n b : ℕ) → steps_of (bodies_from doing place all n bs) b ≡ map (λ (i : Instr). (doing i).0) (instrs_at bs b)
steps-are doing place all [] n b = refl
steps-are doing place all (c ∷ bs) n zero = refl
steps-are doing place all (c ∷ bs) n (suc b) = steps-are doing place all bs (suc n) b

among-map : (f : Instr → Step) (is : List Instr) (i : Instr) → Among i is → Among (f i) (map f is)
among-map f [] i a = absurd (none-among i a)
among-map f (j ∷ is) i here = here
among-map f (j ∷ is) i (there a) = there (among-map f is i a)

step-among : (doing : Doing) (place : ℕ → Option ℕ) (bs : List Block) (b k : ℕ) (i : Instr) → instr_at bs b k ≡ Some i → Among (doing i).0 (steps_of (code_of doing place bs) b)
step-among doing place bs b k i e =
    subst (λ (ss : List Step). Among (doing i).0 ss) (sym (steps-are doing place bs bs 0 b)) (among-map (λ (j : Instr). (doing j).0) (instrs_at bs b) i (get-among i (instrs_at bs b) k e))

module _ (t : Target) (f : Function) (num : Numbering) (gone : List ℕ) (touched : List TouchedInstr) (all : List CellNotes) (has-notes : HasNotes t f num gone touched all) where
  one-list : (c d : CellNotes) → Among c all → Among d all → c.lane ≡ d.lane → c.block ≡ d.block → c ≡ d
  one-list c d a e l b =
      let y = among-get c all a in
      let z = among-get d all e in
      some-same (sym y.1 ∙ (ap (λ k. slice_get all k) (has-notes.apart y.0 z.0 c d y.1 z.1 l b) ∙ z.1))

  -- a list of the lane in the block has a note of what is touched there
  touched-noted : (l b id : ℕ) → touched_at touched l b id ≡ true → (c : CellNotes) × Among c all × (c.lane ≡ l) × (c.block ≡ b) × (has id (noted_ids c.notes.items) ≡ true)
  touched-noted l b id e =
      let z = any-found (λ (x : TouchedInstr). touches x l b id) touched e in
      let x = z.0 in
      let own = both-left (nat_eq x.id id) (nat_eq x.block b && has l (touched_lanes x)) z.2 in
      let rest = both-right (nat_eq x.id id) (nat_eq x.block b && has l (touched_lanes x)) z.2 in
      let there-in = both-left (nat_eq x.block b) (has l (touched_lanes x)) rest in
      let named = both-right (nat_eq x.block b) (has l (touched_lanes x)) rest in
      let y = has-notes.whole x z.1 l (has-among l (touched_lanes x) named) in
      (y.0, y.1, y.2, y.3 ∙ eqb-true x.block b there-in, ap (λ n. has n (noted_ids y.0.notes.items)) (sym (eqb-true x.id id own)) ∙ y.4)

  noted-touched : (c : CellNotes) (id : ℕ) → Among c all → has id (noted_ids c.notes.items) ≡ true → touched_at touched c.lane c.block id ≡ true
  noted-touched c id a h =
      let n = has-note id c.notes.items h in
      let z = has-notes.none c a n.0 n.1 in
      let x = z.0 in
      any-there (λ (y : TouchedInstr). touches y c.lane c.block id) touched x z.1
      (both (nat_eq x.id id) (nat_eq x.block c.block && has c.lane (touched_lanes x)) (eq-eqb x.id id (z.2 ∙ n.2))
      (both (nat_eq x.block c.block) (has c.lane (touched_lanes x)) (eq-eqb x.block c.block z.3) (among-has c.lane (touched_lanes x) z.4)))

  list-told : (c : CellNotes) → Among c all → (id : ℕ) → touched_at touched c.lane c.block id ≡ has id (noted_ids c.notes.items)
  list-told c a id =
      same-truth (touched_at touched c.lane c.block id) (has id (noted_ids c.notes.items))
      (λ e. let z = touched-noted c.lane c.block id e in subst (λ (d : CellNotes). has id (noted_ids d.notes.items) ≡ true) (one-list z.0 c z.1 a z.2 z.3) z.4)
      (λ h. noted-touched c id a h)

  others-untouched : (l b : ℕ) → ((c : CellNotes) → Among c all → c.lane ≡ l → c.block ≡ b → ⊥) → (id : ℕ) → touched_at touched l b id ≡ false
  others-untouched l b none id = go (touched_at touched l b id) refl
    where
      go : (u : Bool) → touched_at touched l b id ≡ u → u ≡ false
      go true e = absurd (let z = touched-noted l b id e in none z.0 z.1 z.2 z.3)
      go false e = refl

  -- where the lanes of the touched instructions have rows
  pub all-notes : (rows : List LaneRange) → ((x : TouchedInstr) → Among x touched → (l : ℕ) → Among l (touched_lanes x) → l < length rows) → AreAllNotes (touched_at touched) (idle_code t f num gone) rows all
  all-notes rows within = record {
    each = λ c a. record {
      told = list-told c a;
      single = has-notes.single c a;
      does = λ n m. let z = has-notes.each c a n m in (((idle gone (doing_of t f num)) z.1).0, step-among (idle gone (doing_of t f num)) _ f.blocks c.block z.0 z.1 z.2, z.3);
    };
    others = others-untouched;
    apart = has-notes.apart;
    lanes = λ c a. let n = has-notes.filled c a in let z = has-notes.none c a n.0 n.1 in within z.0 z.1 c.lane z.4;
  }
