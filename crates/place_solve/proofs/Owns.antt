-- In a valid source the tests of own places tell which admit a choice.
use Rattle.std.proofs.Common.{◌≡◌, ◌⊎◌, ◌∙◌, ◌<◌, ◌+◌, ℕ, zero, suc, Bool, true, false, cond, not, List, [], ◌∷◌, ◌++◌, Some, refl, sym, ap, subst, drop, take, length, inl, inr, Bor, arith, eq-eqb, eqb-true}
use Rattle.std.specs.Prelude.{◌↔◌, ◌&&◌, ◌||◌, Decides, nat_eq, nat_lt, option_map, slice_get}
use Rattle.std.specs.List.{list_any}
use Rattle.target_base.specs.declared.types.Effect.{Effect}
use Rattle.target_base.specs.declared.types.Effect.TheVariants as effects
use Rattle.target_base.specs.declared.types.OpaqueKind.TheVariants as kinds
use Rattle.target_base.specs.declared.types.OpcodeDesc.{OpcodeDesc}
use Rattle.target_base.specs.declared.types.Target.{Target}
use Rattle.target_base.specs.Numbers.{unit_number}
use Rattle.target_base.specs.Roles.{is_silent}
use Rattle.target_base.specs.Rules.{is_copy}
use Rattle.meaning.specs.declared.types.Lane.{Lane}
use Rattle.meaning.specs.declared.types.Lane.TheVariants.{VirtualLane, UnitLane, SlotLane}
use Rattle.meaning.specs.declared.types.Write.{Write}
use Rattle.meaning.specs.Code.{Item}
use Rattle.meaning.specs.Live.{Among as Member, here as first, there as later, Writing, WritingEarly, writes_of}
use Rattle.mir_func.specs.declared.func.Block.{Block}
use Rattle.mir_func.specs.declared.func.Instr.{Instr}
use Rattle.mir_func.specs.Value.{Function}
use Rattle.mir_meaning.specs.declared.Form.TheVariants as forms
use Rattle.mir_func.specs.Binding.{does, effect_of, is_terminator, known_opcode, passes, is_lowered_away}
use Rattle.target_base.specs.Registers.{is_reserved_unit}
use Rattle.mir_meaning.specs.Points.{Entry, Exit, OccupiedAt, Tests, point_item}
use Rattle.mir_meaning.specs.Places.{Variable as Need, Needs, AtEntry, AtExit, Admits, copy_place, copy_variables, each_once, instr_place, instr_variables, moves_alone, operand_variables, own_places, place_of, solutions}
use Rattle.mir_meaning.specs.Rules.{V8}
use Rattle.instr_effects.proofs.Members.{member-none, member-elim}
use Rattle.live_laws.specs.Effects.Coded.{KeepsRules}
use Rattle.live_laws.proofs.Effects.Blocks.{slice-member, member-slice}
use Rattle.live_laws.proofs.Effects.Lists.{any-in}
use Rattle.live_laws.proofs.Effects.Valid.{valid-law, ends}
use Rattle.live_lanes.specs.declared.table.Table.{Table}
use Rattle.live_lanes.specs.Doing.{IsComputed}
use Rattle.place_solve.specs.declared.position.PlacePosition.{PlacePosition}
use Rattle.place_solve.specs.declared.position.PlacePosition.TheVariants as arounds
use Rattle.place_solve.specs.Positions.{enters, leaves}
use Rattle.place_solve.specs.Laws.{OwnLaw}
use Rattle.place_solve.specs.Own.{own_of, own_found, own_instrs, place_variables}
use Rattle.place_solve.specs.Told.{around_at, is_solved, own_around, own_solved, IsSource, Seated}
use Rattle.place_solve.proofs.Told.{copy-told}
use Rattle.target_base.proofs.Tests.{first_of_both, second_of_both}
use Rattle.place_solve.proofs.Owned.{at-entry, at-exit, of-entry, of-exit, entered, left, exact-of, place-told}
use Rattle.place_solve.proofs.Writes.{IsExact, any-of, both, either-true, or-left, or-right}
use Rattle.live_laws.proofs.Exact.Spots.{drop-at}
use Rattle.place_solve.proofs.Crowds.{single_is}
use Rattle.place_solve.proofs.Given.{is_given, exact-given}
use Rattle.place_solve.proofs.Stands.{known-effect, seated}

same_one : {X : Type 0} (x y : X) → Some x ≡ Some y → x ≡ y
same_one x y e = cc

-- a lane is that unit
abbrev is_unit : ℕ → Lane → Bool
is_unit u (UnitLane v) = nat_eq v u
is_unit u _ = false

of-unit : (u : ℕ) (l : Lane) → is_unit u l ≡ true → l ≡ UnitLane u
of-unit u (UnitLane v) e = ap UnitLane (eqb-true v u e)
of-unit u (VirtualLane v k) e = absurd (cc)
of-unit u (SlotLane s k w) e = absurd (cc)

to-unit : (u : ℕ) (l : Lane) → l ≡ UnitLane u → is_unit u l ≡ true
to-unit u l e = ap (is_unit u) e ∙ eq-eqb u u refl

free-decides : {P : Type 0} (r b : Bool) → (r ≡ false → (b ≡ true) ↔ P) → (P → r ≡ false) → Decides (not r && b) P
free-decides true b h free = ((λ e. absurd (cc)), (λ p. absurd (let e = free p in cc)))
free-decides false b h free = h refl

sum-map : {A B P Q : Type 0} → (A → P) → (B → Q) → A ⊎ B → P ⊎ Q
sum-map f g (inl a) = inl (f a)
sum-map f g (inr b) = inr (g b)

sum-elim : {A B P : Type 0} → (A → P) → (B → P) → A ⊎ B → P
sum-elim f g (inl a) = f a
sum-elim f g (inr b) = g b

-- what stands behind a place of a list

behind-get : {X : Type 0} (xs : List X) (j m : ℕ) → slice_get (drop j xs) m ≡ slice_get xs (j + m)
behind-get [] zero m = refl
behind-get [] (suc j) m = refl
behind-get (x ∷ xs) zero m = let e : 0 + m ≡ m = omega arith in sym (ap (slice_get (x ∷ xs)) e)
behind-get (x ∷ xs) (suc j) m = let e : suc j + m ≡ suc (j + m) = omega arith in behind-get xs j m ∙ sym (ap (slice_get (x ∷ xs)) e)

taken-in : {X : Type 0} (xs : List X) (j n : ℕ) (x : X) → slice_get xs j ≡ Some x → j < n → Member x (take n xs)
taken-in [] j n x e h = absurd (cc)
taken-in (y ∷ xs) j zero x e h = absurd (omega arith)
taken-in (y ∷ xs) zero (suc n) x e h = subst (λ z. Member z (y ∷ take n xs)) (same_one y x e) first
taken-in (y ∷ xs) (suc j) (suc n) x e h = later (taken-in xs j n x e (omega arith))

-- effects

ends-counted : (e : Effect) → is_terminator e ≡ true → (is_silent e ≡ false) × (is_copy e ≡ false)
ends-counted effects.Jump h = (refl, refl)
ends-counted effects.Jcc h = (refl, refl)
ends-counted effects.Jnz h = (refl, refl)
ends-counted effects.Ret h = (refl, refl)
ends-counted (effects.Opaque kinds.Branch) h = (refl, refl)
ends-counted (effects.Opaque kinds.Return) h = (refl, refl)
ends-counted e h = absurd (cc)

of-kinds : (e : Effect) → is_lowered_away e ≡ false → is_copy e ≡ false → moves_alone e ≡ false → (is_silent e ≡ false) ⊎ (is_given e ≡ true)
of-kinds effects.Const a b c = inr refl
of-kinds effects.Addr a b c = inr refl
of-kinds effects.Copy a b c = absurd (cc)
of-kinds effects.Phi a b c = absurd (cc)
of-kinds effects.ImplicitDef a b c = absurd (cc)
of-kinds effects.RegSequence a b c = absurd (cc)
of-kinds effects.InsertSubreg a b c = absurd (cc)
of-kinds effects.Spill a b c = absurd (cc)
of-kinds effects.Reload a b c = absurd (cc)
of-kinds e a b c = inl refl

module _ (t : Target) (f : Function) (x : Table) (computed : IsComputed t f x) (source : IsSource t f) where
  rules : KeepsRules t f
  rules = valid-law t forms.Source f source.valid source.classes

  last : (b : Block) (j : ℕ) (i : Instr) → Member b f.blocks → slice_get b.instrs j ≡ Some i → V8 t b j i ≡ true
  last = ends t forms.Source f source.valid

  -- a place without variables admits the choice of none

  module _ (i : Instr) (s : Seated t f i) where
    abbrev item : Item
    item = point_item t f s.block i

    abbrev wrote : ℕ → Bool
    wrote u = list_any (λ w. is_unit u w.lane) (writes_of item)

    abbrev wrote_early : ℕ → Bool
    wrote_early u = list_any (λ w. w.early && is_unit u w.lane) (writes_of item)

    written : (u : ℕ) → (wrote u ≡ true) ↔ Writing item (UnitLane u)
    written u = (
      (λ e. let z = any-of (λ (w : Write). is_unit u w.lane) (writes_of item) e in (z.0, z.1, of-unit u z.0.lane z.2)),
      (λ w. any-in (λ (v : Write). is_unit u v.lane) w.0 (writes_of item) w.1 (to-unit u w.0.lane w.2)),
    )

    early : (u : ℕ) → (wrote_early u ≡ true) ↔ WritingEarly item (UnitLane u)
    early u = (
      (λ e. let z = any-of (λ (w : Write). w.early && is_unit u w.lane) (writes_of item) e in (z.0, z.1, of-unit u z.0.lane (second_of_both z.0.early (is_unit u z.0.lane) z.2), first_of_both z.0.early (is_unit u z.0.lane) z.2)),
      (λ w. any-in (λ (v : Write). v.early && is_unit u v.lane) w.0 (writes_of item) w.1 (both w.0.early (is_unit u w.0.lane) w.3 (to-unit u w.0.lane w.2))),
    )

    entry-test : ℕ → Bool
    entry-test u = not (is_reserved_unit t u) && (enters x (unit_number u) i.id || wrote_early u)

    exit-test : ℕ → Bool
    exit-test u = not (is_reserved_unit t u) && (leaves x (unit_number u) i.id || wrote u)

    entry-tells : Tests (AtEntry t f (place_of t f (i ∷ []))) entry-test
    unfolding entry-test
    entry-tells u = free-decides (is_reserved_unit t u) (enters x (unit_number u) i.id || wrote_early u) (λ free. (forth free, back)) takes
      where
        occupied : AtEntry t f (place_of t f (i ∷ [])) u → OccupiedAt t f (Entry i.id) (UnitLane u)
        occupied (inl (q, m, h)) = member-elim q (Entry i.id) [] (λ e. subst (λ p. OccupiedAt t f p (UnitLane u)) e h) (λ k. absurd (member-none q k)) m
        occupied (inr (q, m, h)) = absurd (member-none q m)

        takes : AtEntry t f (place_of t f (i ∷ [])) u → is_reserved_unit t u ≡ false
        takes z = (at-entry t f x computed rules last i s u (occupied z)).1

        forth : is_reserved_unit t u ≡ false → (enters x (unit_number u) i.id || wrote_early u) ≡ true → AtEntry t f (place_of t f (i ∷ [])) u
        forth free e = inl (Entry i.id, first, of-entry t f x computed rules last i s u (sum-map (entered t f x computed rules last i s u).0 (early u).0 (either-true (enters x (unit_number u) i.id) (wrote_early u) e), free))

        back : AtEntry t f (place_of t f (i ∷ [])) u → (enters x (unit_number u) i.id || wrote_early u) ≡ true
        back z = sum-elim (λ h. or-left (enters x (unit_number u) i.id) (wrote_early u) ((entered t f x computed rules last i s u).1 h)) (λ h. or-right (enters x (unit_number u) i.id) (wrote_early u) ((early u).1 h)) (at-entry t f x computed rules last i s u (occupied z)).0

    exit-tells : Tests (AtExit t f (place_of t f (i ∷ []))) exit-test
    unfolding exit-test
    exit-tells u = free-decides (is_reserved_unit t u) (leaves x (unit_number u) i.id || wrote u) (λ free. (forth free, back free)) takes
      where
        occupied : AtExit t f (place_of t f (i ∷ [])) u → OccupiedAt t f (Exit i.id) (UnitLane u)
        occupied (q, m, h) = member-elim q (Exit i.id) [] (λ e. subst (λ p. OccupiedAt t f p (UnitLane u)) e h) (λ k. absurd (member-none q k)) m

        takes : AtExit t f (place_of t f (i ∷ [])) u → is_reserved_unit t u ≡ false
        takes z = (at-exit t f x computed rules last i s u (occupied z)).1

        forth : is_reserved_unit t u ≡ false → (leaves x (unit_number u) i.id || wrote u) ≡ true → AtExit t f (place_of t f (i ∷ [])) u
        forth free e = (Exit i.id, first, of-exit t f x computed rules last i s u (sum-map (left t f x computed rules last i s u free).0 (written u).0 (either-true (leaves x (unit_number u) i.id) (wrote u) e), free))

        back : is_reserved_unit t u ≡ false → AtExit t f (place_of t f (i ∷ [])) u → (leaves x (unit_number u) i.id || wrote u) ≡ true
        back free z = sum-elim (λ h. or-left (leaves x (unit_number u) i.id) (wrote u) ((left t f x computed rules last i s u free).1 h)) (λ h. or-right (leaves x (unit_number u) i.id) (wrote u) ((written u).1 h)) (at-exit t f x computed rules last i s u (occupied z)).0

    nothing-needed : (vs : List Need) → vs ≡ [] → (entry exit : ℕ → Bool) → nat_lt 0 (length (solutions t entry exit vs)) ≡ true
    unfolding solutions
    nothing-needed vs e entry exit = ap (λ ws. nat_lt 0 (length (solutions t entry exit ws))) e

    pub bare-admits : (place_of t f (i ∷ [])).variables ≡ [] → Admits t f (place_of t f (i ∷ []))
    bare-admits e = (entry-test, exit-test, (entry-tells, exit-tells), nothing-needed (place_of t f (i ∷ [])).variables e entry-test exit-test)

  given-exact : (i : Instr) (s : Seated t f i) (e : Effect) → effect_of t i ≡ Some e → is_given e ≡ true → IsExact t f s.block i
  given-exact i s e known given =
      let shaped = rules.shaped s.block i (slice-member f.blocks s.position s.block s.is_block) (slice-member s.block.instrs s.place i s.is_instr) in
      exact-given t f i e known given shaped.operands s.block

  solved-none : (a : PlacePosition) (vs : List Need) → vs ≡ [] → is_solved t x a vs ≡ true
  unfolding solutions
  solved-none a vs e = ap (is_solved t x a) e

  abbrev AllAdmit : List Needs → Type 0
  AllAdmit ps = (p : Needs) → Member p ps → Admits t f p

  all-one : {b : Bool} (p : Needs) → (b ≡ true) ↔ Admits t f p → (b ≡ true) ↔ AllAdmit (p ∷ [])
  all-one p h = ((λ e q m. member-elim q p [] (λ g. subst (Admits t f) (sym g) (h.0 e)) (λ k. absurd (member-none q k)) m), (λ a. h.1 (a p first)))

  all-none : {b : Bool} → b ≡ true → (b ≡ true) ↔ AllAdmit []
  all-none e = ((λ g q m. absurd (member-none q m)), (λ a. e))

  module _ (k j : ℕ) (b : Block) (i : Instr) (place : slice_get f.blocks k ≡ Some b) (there : slice_get b.instrs j ≡ Some i) where
    known : (m : ℕ) (o : Instr) → slice_get b.instrs m ≡ Some o → (d : OpcodeDesc) × (known_opcode t o.op ≡ Some d)
    known m o e = known-effect t forms.Source f source.valid k m b o place e

    effect : (m : ℕ) (o : Instr) (e : slice_get b.instrs m ≡ Some o) → effect_of t o ≡ Some (known m o e).0.effect
    effect m o e = ap (option_map (λ (d : OpcodeDesc). d.effect)) (known m o e).1

    stands : (m : ℕ) (o : Instr) → slice_get b.instrs m ≡ Some o → Seated t f o
    stands m o e = seated t f k m b o source.once place e

    -- behind a terminator stand terminators
    ending : (m : ℕ) (o : Instr) → does is_terminator t i ≡ true → slice_get b.instrs (j + m) ≡ Some o → does is_terminator t o ≡ true
    unfolding V8
    ending m o h e = go (does is_terminator t o) refl (last b (j + m) o (slice-member f.blocks k b place) e)
      where
        before : 0 < m → list_any (does is_terminator t) (take (j + m) b.instrs) ≡ true
        before l = any-in (does is_terminator t) i (take (j + m) b.instrs) (taken-in b.instrs j (j + m) i there (omega (arith, l))) h

        at : (m : ℕ) → slice_get b.instrs (j + m) ≡ Some o → (0 < m → list_any (does is_terminator t) (take (j + m) b.instrs) ≡ true) → (does is_terminator t o || not (list_any (does is_terminator t) (take (j + m) b.instrs))) ≡ true → does is_terminator t o ≡ true
        at zero e l v = let n : j + 0 ≡ j = omega arith in let g : i ≡ o = same_one i o (sym there ∙ ap (slice_get b.instrs) (sym n) ∙ e) in sym (ap (does is_terminator t) g) ∙ h
        at (suc m) e l v = pick (does is_terminator t o) (list_any (does is_terminator t) (take (j + suc m) b.instrs)) (l (omega arith)) v
          where
            pick : (a c : Bool) → c ≡ true → (a || not c) ≡ true → a ≡ true
            pick true c g v = refl
            pick false c g v = absurd (let n : not c ≡ false = ap not g in cc)

        go : (q : Bool) → does is_terminator t o ≡ q → V8 t b (j + m) o ≡ true → does is_terminator t o ≡ true
        go q g v = at m e before v

    module _ (is : Bor (List Instr)) (same : is.now ≡ own_instrs t b.instrs j) where
      own-of : is.now ≡ own_of t b.instrs j i
      own-of = same ∙ ap (own_found t b.instrs j) there

      empty : is.now ≡ [] → own_solved t f x is ≡ true
      empty e = solved-none (own_around t is) (place_variables t f is.now) (ap (place_variables t f) e)

      at-instrs : (o : Instr) (rest : List Instr) → is.now ≡ o ∷ rest → does is_copy t o ≡ false → own_around t is ≡ arounds.Instrs is
      at-instrs o rest e c = ap (around_at t is) e ∙ ap (λ q. cond q (arounds.Before o.id) (arounds.Instrs is)) c

      by-place : (us : List Instr) → is.now ≡ us → own_around t is ≡ arounds.Instrs is → ((o : Instr) → Member o us → (s : Seated t f o) × IsExact t f s.block o) → (own_solved t f x is ≡ true) ↔ Admits t f (place_of t f us)
      by-place us e a good =
          let told = place-told t f x computed rules last is (λ o m. good o (subst (Member o) e m)) in (
            (λ g. subst (λ vs. Admits t f (place_of t f vs)) e (told.0 (sym (ap (λ w. is_solved t x w (place_variables t f is.now)) a) ∙ g))),
            (λ h. ap (λ w. is_solved t x w (place_variables t f is.now)) a ∙ told.1 (subst (λ vs. Admits t f (place_of t f vs)) (sym e) h)),
          )

      terminators : does is_terminator t i ≡ true → is.now ≡ drop j b.instrs → (own_solved t f x is ≡ true) ↔ Admits t f (place_of t f (drop j b.instrs))
      terminators h e = by-place (drop j b.instrs) e (at-instrs i (drop (suc j) b.instrs) (e ∙ (drop-at b.instrs j i there).0) (not-copy i (ends-of 0 i (let n : j + 0 ≡ j = omega arith in ap (slice_get b.instrs) n ∙ there) h))) good
        where
          not-copy : (o : Instr) → (w : Effect) × (effect_of t o ≡ Some w) × (is_silent w ≡ false) × (is_copy w ≡ false) → does is_copy t o ≡ false
          not-copy o z = ap (passes is_copy) z.1 ∙ z.3

          ends-of : (m : ℕ) (o : Instr) → slice_get b.instrs (j + m) ≡ Some o → does is_terminator t o ≡ true → (w : Effect) × (effect_of t o ≡ Some w) × (is_silent w ≡ false) × (is_copy w ≡ false)
          ends-of m o g d =
              let w = (known (j + m) o g).0.effect in
              let k = ends-counted w (sym (ap (passes is_terminator) (effect (j + m) o g)) ∙ d) in
              (w, effect (j + m) o g, k.0, k.1)

          good : (o : Instr) → Member o (drop j b.instrs) → (s : Seated t f o) × IsExact t f s.block o
          good o m =
              let z = member-slice o (drop j b.instrs) m in
              let g = sym (behind-get b.instrs j z.0) ∙ z.1 in
              let w = ends-of z.0 o g (ending z.0 o h g) in
              let s = stands (j + z.0) o g in
              (s, exact-of t f x computed rules last o s w.0 w.1 w.2)

      exact-here : does is_lowered_away t i ≡ false → does is_copy t i ≡ false → does moves_alone t i ≡ false → IsExact t f (stands j i there).block i
      exact-here a c m =
          let e = (known j i there).0.effect in
          let n = effect j i there in
          let s = stands j i there in
          sum-elim (λ h. exact-of t f x computed rules last i s e n h) (λ h. given-exact i s e n h)
          (of-kinds e (sym (ap (passes is_lowered_away) n) ∙ a) (sym (ap (passes is_copy) n) ∙ c) (sym (ap (passes moves_alone) n) ∙ m))

      single : does is_lowered_away t i ≡ false → is.now ≡ i ∷ [] → (own_solved t f x is ≡ true) ↔ Admits t f (instr_place t f i)
      single a e = go (does is_copy t i) refl
        where
          bare : does is_copy t i ≡ false → does moves_alone t i ≡ true → place_variables t f (i ∷ []) ≡ []
          bare c m =
              let v : instr_variables t f i ≡ [] = ap (λ q. cond q (copy_variables t f i.operands) (cond (does moves_alone t i) [] (operand_variables t f i))) c ∙ ap (λ q. cond q [] (operand_variables t f i)) m in
              ap (λ vs. each_once [] (vs ++ [])) v

          plain : does is_copy t i ≡ false → (q : Bool) → does moves_alone t i ≡ q → (own_solved t f x is ≡ true) ↔ Admits t f (place_of t f (i ∷ []))
          plain c true m =
              let v = bare c m in
              let admits = bare-admits i (stands j i there) v in
              let solved = solved-none (own_around t is) (place_variables t f is.now) (ap (place_variables t f) e ∙ v) in
              ((λ g. admits), (λ h. solved))
          plain c false m = by-place (i ∷ []) e (at-instrs i [] e c) (λ o k. subst (λ o. (s : Seated t f o) × IsExact t f s.block o) (member-elim o i [] (λ g. sym g) (λ n. absurd (member-none o n)) k) (stands j i there, exact-here a c m))

          go : (q : Bool) → does is_copy t i ≡ q → (own_solved t f x is ≡ true) ↔ Admits t f (cond q (copy_place (instr_variables t f i) (Entry i.id)) (place_of t f (i ∷ [])))
          go true c =
              let told = copy-told t f x computed rules last (instr_variables t f i) (Entry i.id) ((stands j i there).position, (stands j i there).place, (stands j i there).spot) in
              let w : own_around t is ≡ arounds.Before i.id = ap (around_at t is) e ∙ ap (λ q. cond q (arounds.Before i.id) (arounds.Instrs is)) c in
              let vs : place_variables t f is.now ≡ instr_variables t f i = ap (place_variables t f) e ∙ sym (single_is t f i) ∙ ap (λ q. (cond q (copy_place (instr_variables t f i) (Entry i.id)) (place_of t f (i ∷ []))).variables) c in
              let n : own_solved t f x is ≡ is_solved t x (arounds.Before i.id) (instr_variables t f i) = ap (λ r. is_solved t x r (place_variables t f is.now)) w ∙ ap (is_solved t x (arounds.Before i.id)) vs in
              ((λ g. told.0 (sym n ∙ g)), (λ h. n ∙ told.1 h))
          go false c = plain c (does moves_alone t i) refl

      pub told : (own_solved t f x is ≡ true) ↔ AllAdmit (own_places t f b j i)
      told = go (does is_terminator t i) refl own-of
        where
          other : (q : Bool) → does is_lowered_away t i ≡ q → is.now ≡ cond q [] (i ∷ []) → (own_solved t f x is ≡ true) ↔ AllAdmit (cond q [] (instr_place t f i ∷ []))
          other true a e = all-none (empty e)
          other false a e = all-one (instr_place t f i) (single a e)

          ending-ones : does is_terminator t i ≡ true → (q : Bool) → is.now ≡ cond q [] (drop j b.instrs) → (own_solved t f x is ≡ true) ↔ AllAdmit (cond q [] (place_of t f (drop j b.instrs) ∷ []))
          ending-ones h true e = all-none (empty e)
          ending-ones h false e = all-one (place_of t f (drop j b.instrs)) (terminators h e)

          go : (q : Bool) → does is_terminator t i ≡ q → is.now ≡ cond q (cond (list_any (does is_terminator t) (take j b.instrs)) [] (drop j b.instrs)) (cond (does is_lowered_away t i) [] (i ∷ [])) → (own_solved t f x is ≡ true) ↔ AllAdmit (cond q (cond (list_any (does is_terminator t) (take j b.instrs)) [] (place_of t f (drop j b.instrs) ∷ [])) (cond (does is_lowered_away t i) [] (instr_place t f i ∷ [])))
          go true h e = ending-ones h (list_any (does is_terminator t) (take j b.instrs)) e
          go false h e = other (does is_lowered_away t i) refl e

pub own-law : OwnLaw
own-law t f x computed source k j b i e g is same = told t f x computed source k j b i e g is same
