-- The worked rows.
use Rattle.std.proofs.Common.{◌≡◌, ◌∷◌, ◌&&◌, ◌||◌, ◌∙◌, not, ℕ, Bool, true, false, List, [], refl, sym, ap, subst}
use Rattle.std.specs.Prelude.{nat_eq}
use Rattle.std.specs.List.{list_all}
use Rattle.std.proofs.lemmas.Bool.{and_parts, eq-eqb}
use Rattle.target_base.specs.Mini.{mini_target}
use Rattle.target_base.specs.Numbers.{op_number}
use Rattle.target_base.specs.declared.types.OpId.{OpId}
use Rattle.target_base.specs.declared.types.Target.{Target}
use Rattle.meaning.specs.declared.types.Fill.{Fill}
use Rattle.meaning.specs.declared.types.Fill.TheVariants.{Computed, Moved}
use Rattle.meaning.specs.declared.types.Lane.{Lane}
use Rattle.meaning.specs.declared.types.Lane.TheVariants.{SlotLane, UnitLane, VirtualLane}
use Rattle.meaning.specs.declared.types.Source.{Source}
use Rattle.meaning.specs.declared.types.Source.TheVariants.{Bits, FromLane, Undef}
use Rattle.meaning.specs.declared.types.Write.{Write}
use Rattle.meaning.specs.Code.{Item}
use Rattle.meaning.specs.Lanes.{same_lane}
use Rattle.meaning.specs.Live.{Among, here, there, reads_of, writes_of}
use Rattle.mir_func.specs.declared.func.Block.{Block}
use Rattle.mir_func.specs.declared.func.Instr.{Instr}
use Rattle.mir_func.specs.declared.func.Operand.{Operand}
use Rattle.mir_func.specs.Value.{Function}
use Rattle.mir_meaning.specs.Codes.{item_of}
use Rattle.mir_meaning.specs.Points.{point_item}
use Rattle.laws.proofs.Quiet.{same-true}
use Rattle.edit_laws.specs.Named.{Names, reads, copies, writes, IsOneLane, itself, at_width, is_one, copied}
use Rattle.edit_laws.specs.Edits.{Edit, Replace, Erase, edited, edited_id, with_op, Stands, Touches, before, after}
use Rattle.edit_laws.specs.Laws.{LeadsToEdit}
use Rattle.edit_laws.specs.Rows.{COPY, STORE32mr, answer, answer_other, based, sample, store_at, value_other, EditsMake, StoreGoes, AnswerChanges, ValueChanges}
use Rattle.edit_laws.specs.Treated.{Concerns, treat_alike}

pub all-among : {X : Type 0} (test : X → Bool) (xs : List X) → list_all test xs ≡ true → (x : X) → Among x xs → test x ≡ true
all-among test [] e y m = elim m [ ]
all-among test (x ∷ xs) e y here = (and_parts (test x) (list_all test xs) e).0
all-among test (x ∷ xs) e y (there m) = all-among test xs (and_parts (test x) (list_all test xs) e).1 y m

implied : (a b : Bool) → (not a || b) ≡ true → a ≡ true → b ≡ true
implied true b e h = e
implied false b e h = absurd (cc)

-- a set of lanes that holds all that lead to an edit, told by a test
module _ (t : Target) (f : Function) (e : Edit) (test : Lane → Bool) where
  abbrev source_passes : Source → Bool
  source_passes (FromLane l) = test l
  source_passes Undef = true
  source_passes (Bits c low width) = true

  abbrev fill_passes : Fill → Bool
  fill_passes (Moved s) = source_passes s
  fill_passes (Computed n) = true

  abbrev write_closed : Write → Bool
  write_closed w = not (test w.lane) || fill_passes w.fill

  abbrev names_pass : Item → Bool
  names_pass i = list_all (list_all source_passes) (reads_of i) && list_all (λ (w : Write). test w.lane && fill_passes w.fill) (writes_of i)

  -- no lane is copied into the set from outside
  abbrev copies_stay : Bool
  copies_stay = list_all (λ (b : Block). list_all (λ (i : Instr). list_all write_closed (writes_of (point_item t f b i))) b.instrs) f.blocks

  -- the lanes of the edited instruction are in the set
  abbrev edit_passes : Function → Bool
  edit_passes h = list_all (λ (b : Block). list_all (λ (i : Instr). not (nat_eq i.id (edited_id f e)) || names_pass (point_item t h b i)) b.instrs) h.blocks

  named-passes : (i : Item) → names_pass i ≡ true → (l : Lane) → Names i l → test l ≡ true
  named-passes i p l (reads ss m s) = all-among source_passes ss (all-among (list_all source_passes) (reads_of i) (and_parts (list_all (list_all source_passes) (reads_of i)) (list_all (λ (w : Write). test w.lane && fill_passes w.fill) (writes_of i)) p).0 ss m) (FromLane l) s
  named-passes i p l (copies a m) =
      let z = all-among (λ (w : Write). test w.lane && fill_passes w.fill) (writes_of i) (and_parts (list_all (list_all source_passes) (reads_of i)) (list_all (λ (w : Write). test w.lane && fill_passes w.fill) (writes_of i)) p).1 m.0 m.1 in
      sym (ap fill_passes m.3) ∙ (and_parts (test m.0.lane) (fill_passes m.0.fill) z).1
  named-passes i p l (writes w) =
      let z = all-among (λ (w : Write). test w.lane && fill_passes w.fill) (writes_of i) (and_parts (list_all (list_all source_passes) (reads_of i)) (list_all (λ (w : Write). test w.lane && fill_passes w.fill) (writes_of i)) p).1 w.0 w.1 in
      sym (ap test w.2) ∙ (and_parts (test w.0.lane) (fill_passes w.0.fill) z).0

  stands-passes : (h : Function) → edit_passes h ≡ true → (b : Block) (i : Instr) → Stands h (edited_id f e) b i → names_pass (point_item t h b i) ≡ true
  stands-passes h p b i s =
      let of-block = all-among (λ (d : Block). list_all (λ (x : Instr). not (nat_eq x.id (edited_id f e)) || names_pass (point_item t h d x)) d.instrs) h.blocks p b s.block in
      let of-instr = all-among (λ (x : Instr). not (nat_eq x.id (edited_id f e)) || names_pass (point_item t h b x)) b.instrs of-block i s.instr in
      implied (nat_eq i.id (edited_id f e)) (names_pass (point_item t h b i)) of-instr (eq-eqb i.id (edited_id f e) s.named)

  touched : edit_passes f ≡ true → edit_passes (edited f e) ≡ true → (l : Lane) → Touches t f e l → test l ≡ true
  touched old new l (before b i s n) = named-passes (point_item t f b i) (stands-passes f old b i s) l n
  touched old new l (after b i s n) = named-passes (point_item t (edited f e) b i) (stands-passes (edited f e) new b i s) l n

  module _ (wide : (s k w x : ℕ) → test (SlotLane s k w) ≡ test (SlotLane s k x)) (stay : copies_stay ≡ true) (concerned : (l : Lane) → Concerns t f e l → test l ≡ true) where
    one-lane : (a c : Lane) → IsOneLane a c → test c ≡ true → test a ≡ true
    one-lane a c itself h = h
    one-lane a c (at_width {s = s} {k = k} {w = w} {x = x}) h = wide s k w x ∙ h

    pub led : (l : Lane) → LeadsToEdit t f e l → test l ≡ true
    led l (is_one h) = concerned l h
    led l (copied {a = a} {c = c} b i m n z one d) =
        let of-block = all-among (λ (x : Block). list_all (λ (y : Instr). list_all write_closed (writes_of (point_item t f x y))) x.instrs) f.blocks stay b m in
        let of-instr = all-among (λ (y : Instr). list_all write_closed (writes_of (point_item t f b y))) b.instrs of-block i n in
        let of-write = all-among write_closed (writes_of (point_item t f b i)) of-instr z.0 z.1 in
        let into : test z.0.lane ≡ true = ap test z.2 ∙ one-lane a c one (led c d) in
        sym (ap fill_passes z.3) ∙ implied (test z.0.lane) (fill_passes z.0.fill) of-write into

-- a lane that an instruction which changes treats as it did
module _ (t : Target) (f : Function) (id : ℕ) (op : OpId) (os : List Operand) (l : Lane) where
  abbrev treated : Block → Instr → Bool
  treated b i = not (nat_eq i.id id) || treat_alike (point_item t f b i) (point_item t f b (with_op op os i)) l

  abbrev all_treated : Bool
  all_treated = list_all (λ (b : Block). list_all (treated b) b.instrs) f.blocks

  unconcerned : all_treated ≡ true → Concerns t f (Replace id op os) l → ⊥
  unconcerned p z =
      let of-block = all-among (λ (b : Block). list_all (treated b) b.instrs) f.blocks p z.0 z.2.block in
      let of-instr = all-among (treated z.0) z.0.instrs of-block z.1 z.2.instr in
      let h = implied (nat_eq z.1.id id) (treat_alike (point_item t f z.0 z.1) (point_item t f z.0 (with_op op os z.1)) l) of-instr (eq-eqb z.1.id id z.2.named) in
      let w : true ≡ false = sym h ∙ z.3 in cc

  -- all lanes but this one
  abbrev another : Lane → Bool
  another m = not (same_lane l m)

  others-concerned : all_treated ≡ true → (m : Lane) → Concerns t f (Replace id op os) m → another m ≡ true
  others-concerned p m c = go (same_lane l m) refl
    where
      go : (u : Bool) → same_lane l m ≡ u → not u ≡ true
      go true e = absurd (unconcerned p (subst (Concerns t f (Replace id op os)) (sym (same-true l m e)) c))
      go false e = refl

pub edits-make : EditsMake
edits-make = (refl, refl, refl)

-- the lanes of one register of 32 bits
abbrev of_range : ℕ → Lane → Bool
of_range v (VirtualLane w k) = nat_eq w v
of_range v _ = false

refuted : {A : Type 0} (u : Bool) → u ≡ false → (A → u ≡ true) → A → ⊥
refuted u e h a = let z : true ≡ false = sym (h a) ∙ e in cc

pub store-goes : StoreGoes
unfolding mini_target point_item item_of
store-goes =
    let test = of_range 2 in
    let wide : (s k w x : ℕ) → test (SlotLane s k w) ≡ test (SlotLane s k x) = λ s k w x. refl in
    let concerned : (l : Lane) → Concerns mini_target sample (Erase 3) l → test l ≡ true = touched mini_target sample (Erase 3) test refl refl in (
      is_one (before _ _ (record { block = here; instr = there (there (there here)); named = refl }) (reads _ (there here) here)),
      refuted (test (VirtualLane 0 0)) refl (led mini_target sample (Erase 3) test wide refl concerned (VirtualLane 0 0)),
      refuted (test (VirtualLane 1 0)) refl (led mini_target sample (Erase 3) test wide refl concerned (VirtualLane 1 0)),
      refuted (test (UnitLane 0)) refl (led mini_target sample (Erase 3) test wide refl concerned (UnitLane 0)),
    )

pub answer-changes : AnswerChanges
unfolding mini_target point_item item_of
answer-changes =
    let test = another mini_target sample 4 (op_number COPY) (answer 2) (VirtualLane 3 0) in
    let first : LeadsToEdit mini_target sample answer_other (VirtualLane 1 0) = is_one (_, _, record { block = here; instr = there (there (there (there here))); named = refl }, refl) in (
      first,
      copied _ _ here (there here) (_, here, refl, refl) itself first,
      is_one (_, _, record { block = here; instr = there (there (there (there here))); named = refl }, refl),
      refuted (test (VirtualLane 3 0)) refl
          (led mini_target sample answer_other test (λ s k w x. refl) refl (others-concerned mini_target sample 4 (op_number COPY) (answer 2) (VirtualLane 3 0) refl) (VirtualLane 3 0)),
    )

pub value-changes : ValueChanges
unfolding mini_target point_item item_of
value-changes =
    let test = another mini_target based 3 (op_number STORE32mr) (store_at 3) (VirtualLane 2 0) in (
      is_one (_, _, record { block = here; instr = there (there (there here)); named = refl }, refl),
      is_one (_, _, record { block = here; instr = there (there (there here)); named = refl }, refl),
      refuted (test (VirtualLane 2 0)) refl
          (led mini_target based value_other test (λ s k w x. refl) refl (others-concerned mini_target based 3 (op_number STORE32mr) (store_at 3) (VirtualLane 2 0) refl) (VirtualLane 2 0)),
    )
