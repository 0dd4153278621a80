-- A step names a lane just where its instruction names it.
use Rattle.std.proofs.Common.{◌≡◌, ◌⊎◌, inl, inr, ℕ, suc, zero, Bool, true, false, cond, List, [], ◌∷◌, ◌++◌, Option, Some, None, map, refl, sym, ap, ◌∙◌, eqb-true, eq-eqb}
use Rattle.std.specs.Prelude.{◌||◌, nat_eq, slice_get, filter_map, option_and_then}
use Rattle.target_base.specs.declared.types.Target.{Target}
use Rattle.meaning.specs.Live.{Among as Member, here as first, there as later}
use Rattle.mir_func.specs.declared.func.Block.{Block}
use Rattle.mir_func.specs.declared.func.Instr.{Instr}
use Rattle.mir_func.specs.Value.{Function}
use Rattle.mir_meaning.specs.declared.writing.LaneDef.{LaneDef}
use Rattle.instr_effects.specs.declared.acts.Act.{Act}
use Rattle.instr_effects.specs.declared.owner.Owner.{Owner}
use Rattle.instr_effects.specs.Acts.{acts_of, read_owners, entered_reads, entered_writes}
use Rattle.instr_effects.specs.Steps.{Numbering, writing, act_writing, act_writings, is_unnumbered, act_reading, act_readings}
use Rattle.instr_effects.proofs.Members.{member-none, member-elim, left-in, right-in, in-either, map-of}
use Rattle.live_laws.proofs.Effects.Moving.{some-same}
use Rattle.live_laws.proofs.Effects.Blocks.{filtered-of, filtered-in}
use Rattle.mir_meaning.specs.Paths.{Step, steps_of, has, is_some_number, Certain, Into, move_of, writing_of, is_present}
use Rattle.live_lanes.specs.Coded.{Doing, bodies_from}
use Rattle.live_lanes.specs.Doing.{doing_of}
use Rattle.live_laws.specs.Touch.{Names}
use Rattle.live_laws.proofs.Touch.Cells.{is_used, names_step, or-cases, or-left, or-right}
use Rattle.live_laws.proofs.Touch.Sequence.{has-member, member-has}

-- moves and writings of a lane

move-used : (l : ℕ) (ws : List LaneDef) (w : LaneDef) → Member w ws → w.from ≡ Some l → is_used (move_of l ws) ≡ true
move-used l [] w m e = absurd (member-none w m)
move-used l (v ∷ ws) w m e = member-elim w v ws (λ g. ap (λ b. is_used (cond b (Into v.lane) (move_of l ws))) (ap (is_some_number l) (ap (λ x. x.from) (sym g) ∙ e) ∙ eq-eqb l l refl)) (λ k. past (is_some_number l v.from) (move-used l ws w k e)) m
  where
    past : (b : Bool) → is_used (move_of l ws) ≡ true → is_used (cond b (Into v.lane) (move_of l ws)) ≡ true
    past true h = refl
    past false h = h

number-of : (l : ℕ) (q : Option ℕ) → is_some_number l q ≡ true → q ≡ Some l
number-of l None e = absurd (cc)
number-of l (Some n) e = ap Some (eqb-true n l e)

move-from : (l : ℕ) (ws : List LaneDef) → is_used (move_of l ws) ≡ true → (w : LaneDef) × Member w ws × (w.from ≡ Some l)
move-from l [] e = absurd (cc)
move-from l (v ∷ ws) e = go (is_some_number l v.from) refl e (move-from l ws)
  where
    go : (b : Bool) → is_some_number l v.from ≡ b → is_used (cond b (Into v.lane) (move_of l ws)) ≡ true → (is_used (move_of l ws) ≡ true → (w : LaneDef) × Member w ws × (w.from ≡ Some l)) → (w : LaneDef) × Member w (v ∷ ws) × (w.from ≡ Some l)
    go true g h ih = (v, first, number-of l v.from g)
    go false g h ih = let z = ih h in (z.0, later z.1, z.2)

writing-there : (l : ℕ) (ws : List LaneDef) (w : LaneDef) → Member w ws → w.lane ≡ l → is_present (writing_of l ws) ≡ true
writing-there l [] w m e = absurd (member-none w m)
writing-there l (v ∷ ws) w m e = member-elim w v ws (λ g. ap (λ b. is_present (cond b (Some v) (writing_of l ws))) (eq-eqb v.lane l (ap (λ x. x.lane) (sym g) ∙ e))) (λ k. past (nat_eq v.lane l) (writing-there l ws w k e)) m
  where
    past : (b : Bool) → is_present (writing_of l ws) ≡ true → is_present (cond b (Some v) (writing_of l ws)) ≡ true
    past true h = refl
    past false h = h

writing-found : (l : ℕ) (ws : List LaneDef) → is_present (writing_of l ws) ≡ true → (w : LaneDef) × Member w ws × (w.lane ≡ l)
writing-found l [] e = absurd (cc)
writing-found l (v ∷ ws) e = go (nat_eq v.lane l) refl e (writing-found l ws)
  where
    go : (b : Bool) → nat_eq v.lane l ≡ b → is_present (cond b (Some v) (writing_of l ws)) ≡ true → (is_present (writing_of l ws) ≡ true → (w : LaneDef) × Member w ws × (w.lane ≡ l)) → (w : LaneDef) × Member w (v ∷ ws) × (w.lane ≡ l)
    go true g h ih = (v, first, eqb-true v.lane l g)
    go false g h ih = let z = ih h in (z.0, later z.1, z.2)

-- those of what is entered

module _ (num : Numbering) (rs : List Owner) (acts : List Act) where
  -- the lane is read, moved or written
  abbrev pub Named : Owner → Type 0
  Named o = Member o rs ⊎ ((a : Act) × Member a acts × ((a.from ≡ Some o) ⊎ (a.lane ≡ o)))

  abbrev reads : List ℕ
  reads = filter_map num rs ++ act_readings num acts

  abbrev writes : List LaneDef
  writes = act_writings num acts

  writing-of-act : (w : LaneDef) → Member w writes → (a : Act) × (n : ℕ) × Member a acts × (num a.lane ≡ Some n) × (w ≡ writing num a n)
  writing-of-act w m = let z = filtered-of (act_writing num) w acts m in go z.0 z.1 (num z.0.lane) refl z.2
    where
      go : (a : Act) → Member a acts → (q : Option ℕ) → num a.lane ≡ q → elim q [ None ↦ None | Some n ↦ Some (writing num a n) ] ≡ Some w → (a : Act) × (n : ℕ) × Member a acts × (num a.lane ≡ Some n) × (w ≡ writing num a n)
      go a k None g h = absurd (cc)
      go a k (Some n) g h = (a, n, k, g, some-same w (writing num a n) (sym h))

  act-writes : (a : Act) (n : ℕ) → Member a acts → num a.lane ≡ Some n → Member (writing num a n) writes
  act-writes a n m e = filtered-in (act_writing num) a (writing num a n) acts m (ap (λ (q : Option ℕ). elim q [ None ↦ None | Some n ↦ Some (writing num a n) ]) e)

  from-number : (q : Option Owner) (l : ℕ) → option_and_then num q ≡ Some l → (o : Owner) × (q ≡ Some o) × (num o ≡ Some l)
  from-number None l e = absurd (cc)
  from-number (Some o) l e = (o, refl, e)

  read-forth : (l : ℕ) → Member l reads → (o : Owner) × (num o ≡ Some l) × Named o
  read-forth l m = go (in-either l (filter_map num rs) (act_readings num acts) m)
    where
      by : (a : Act) → Member a acts → (b : Bool) → cond b (option_and_then num a.from) None ≡ Some l → (o : Owner) × (num o ≡ Some l) × Named o
      by a k true e = let z = from-number a.from l e in (z.0, z.2, inr (a, k, inl z.1))
      by a k false e = absurd (cc)

      go : Member l (filter_map num rs) ⊎ Member l (act_readings num acts) → (o : Owner) × (num o ≡ Some l) × Named o
      go (inl k) = let z = filtered-of num l rs k in (z.0, z.2, inl z.1)
      go (inr k) = let z = filtered-of (act_reading num) l acts k in by z.0 z.1 (is_unnumbered (num z.0.lane)) z.2

  move-forth : (l : ℕ) → is_used (move_of l writes) ≡ true → (o : Owner) × (num o ≡ Some l) × Named o
  move-forth l e =
      let w = move-from l writes e in
      let z = writing-of-act w.0 w.1 in
      let y = from-number z.0.from l (ap (λ v. v.from) (sym z.4) ∙ w.2) in
      (y.0, y.2, inr (z.0, z.2, inl y.1))

  write-forth : (l : ℕ) → is_present (writing_of l writes) ≡ true → (o : Owner) × (num o ≡ Some l) × Named o
  write-forth l e =
      let w = writing-found l writes e in
      let z = writing-of-act w.0 w.1 in
      let n : z.1 ≡ l = ap (λ v. v.lane) (sym z.4) ∙ w.2 in
      (z.0.lane, z.3 ∙ ap Some n, inr (z.0, z.2, inr refl))

  forth : (l : ℕ) → (is_used (cond (has l reads) Certain (move_of l writes)) || is_present (writing_of l writes)) ≡ true → (o : Owner) × (num o ≡ Some l) × Named o
  forth l e = go (or-cases (is_used (cond (has l reads) Certain (move_of l writes))) (is_present (writing_of l writes)) e)
    where
      by : (b : Bool) → has l reads ≡ b → is_used (cond b Certain (move_of l writes)) ≡ true → (o : Owner) × (num o ≡ Some l) × Named o
      by true g h = read-forth l (has-member l reads g)
      by false g h = move-forth l h

      go : (is_used (cond (has l reads) Certain (move_of l writes)) ≡ true) ⊎ (is_present (writing_of l writes) ≡ true) → (o : Owner) × (num o ≡ Some l) × Named o
      go (inl h) = by (has l reads) refl h
      go (inr h) = write-forth l h

  used-first : (l : ℕ) (b : Bool) → is_used (move_of l writes) ≡ true → is_used (cond b Certain (move_of l writes)) ≡ true
  used-first l true e = refl
  used-first l false e = e

  read-back : (l : ℕ) → Member l reads → (is_used (cond (has l reads) Certain (move_of l writes)) || is_present (writing_of l writes)) ≡ true
  read-back l m = or-left (is_used (cond (has l reads) Certain (move_of l writes))) (is_present (writing_of l writes)) (ap (λ b. is_used (cond b Certain (move_of l writes))) (member-has l reads m))

  back : (l : ℕ) (o : Owner) → num o ≡ Some l → Named o → (is_used (cond (has l reads) Certain (move_of l writes)) || is_present (writing_of l writes)) ≡ true
  back l o e (inl m) = read-back l (left-in l (filter_map num rs) (act_readings num acts) (filtered-in num o l rs m e))
  back l o e (inr z) = go z.2
    where
      moved : z.0.from ≡ Some o → (q : Option ℕ) → num z.0.lane ≡ q → (is_used (cond (has l reads) Certain (move_of l writes)) || is_present (writing_of l writes)) ≡ true
      moved g None h = read-back l (right-in l (filter_map num rs) (act_readings num acts) (filtered-in (act_reading num) z.0 l acts z.1 (ap (λ q. cond (is_unnumbered q) (option_and_then num z.0.from) None) h ∙ ap (option_and_then num) g ∙ e)))
      moved g (Some n) h = or-left (is_used (cond (has l reads) Certain (move_of l writes))) (is_present (writing_of l writes)) (used-first l (has l reads) (move-used l writes (writing num z.0 n) (act-writes z.0 n z.1 h) (ap (option_and_then num) g ∙ e)))

      go : (z.0.from ≡ Some o) ⊎ (z.0.lane ≡ o) → (is_used (cond (has l reads) Certain (move_of l writes)) || is_present (writing_of l writes)) ≡ true
      go (inl g) = moved g (num z.0.lane) refl
      go (inr g) = or-right (is_used (cond (has l reads) Certain (move_of l writes))) (is_present (writing_of l writes)) (writing-there l writes (writing num z.0 l) (act-writes z.0 l z.1 (ap num g ∙ e)) refl)

pub step-forth : (t : Target) (f : Function) (num : Numbering) (i : Instr) (l : ℕ) → names_step l (doing_of t f num i).0 ≡ true → (o : Owner) × (num o ≡ Some l) × Names t f i o
step-forth t f num i l e = forth num (read_owners (entered_reads t f i)) (acts_of (entered_writes t f i)) l e

pub step-back : (t : Target) (f : Function) (num : Numbering) (i : Instr) (l : ℕ) (o : Owner) → num o ≡ Some l → Names t f i o → names_step l (doing_of t f num i).0 ≡ true
step-back t f num i l o e n = back num (read_owners (entered_reads t f i)) (acts_of (entered_writes t f i)) l o e n

-- the steps of the code are those of its instructions

module _ (doing : Doing) (place : ℕ → Option ℕ) (whole : List Block) where
  pub steps-there : (n : ℕ) (bs : List Block) (k : ℕ) (b : Block) → slice_get bs k ≡ Some b → steps_of (bodies_from doing place whole n bs) k ≡ map (λ i. (doing i).0) b.instrs
  steps-there n [] k b e = absurd (cc)
  steps-there n (c ∷ bs) zero b e = ap (λ (x : Block). map (λ i. (doing i).0) x.instrs) (some-same c b e)
  steps-there n (c ∷ bs) (suc k) b e = steps-there (suc n) bs k b e

  pub steps-of-block : (n : ℕ) (bs : List Block) (k : ℕ) (s : Step) → Member s (steps_of (bodies_from doing place whole n bs) k) → (b : Block) × (i : Instr) × Member b bs × Member i b.instrs × (s ≡ (doing i).0)
  steps-of-block n [] k s m = absurd (member-none s m)
  steps-of-block n (c ∷ bs) zero s m = let z = map-of (λ i. (doing i).0) s c.instrs m in (c, z.0, first, z.1, z.2)
  steps-of-block n (c ∷ bs) (suc k) s m = let z = steps-of-block (suc n) bs k s m in (z.0, z.1, later z.2, z.3, z.4)
