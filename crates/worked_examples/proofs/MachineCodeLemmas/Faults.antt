-- Validity of the functions, by their live units.
use Rattle.std.proofs.Common.{◌≡◌, ◌∷◌, ◌∙◌, ℕ, zero, suc, Bool, true, false, List, Some, refl, sym, ap, subst, take, []}
use Rattle.std.specs.Prelude.{slice_get, unwrap_or}
use Rattle.std.specs.Bool.{one_answer}
use Rattle.target_base.specs.Mini.{mini_target}
use Rattle.target_base.specs.declared.types.Target.{Target}
use Rattle.laws.specs.Tables.{lists}
use Rattle.meaning.specs.declared.types.Lane.TheVariants.{UnitLane, VirtualLane}
use Rattle.mir_func.specs.Value.{Function}
use Rattle.mir_func.specs.declared.func.Block.{Block}
use Rattle.mir_meaning.specs.Codes.{item_of}
use Rattle.mir_meaning.specs.Points.{LiveAt, Start, Tests, point_item, points_of}
use Rattle.mir_meaning.specs.Registers.{is_reserved}
use Rattle.mir_meaning.specs.Rules.{V1, V10, V11, V12, V15, V15_frame, V16, V2, V3, V4, V5, V6, V7, V8, V9}
use Rattle.mir_meaning.specs.Valid.{V13, V13_before, V14, block_fault, cover, instr_fault, later, liveins_fit, of_liveness, shape_fault, start}
use Rattle.mir_meaning.specs.declared.Form.TheVariants.{Allocated, Source}
use Rattle.mir_meaning.specs.declared.Form.{Form}
use Rattle.worked_examples.proofs.MachineCodeLemmas.Decided.{decided}
use Rattle.worked_examples.specs.MachineCode.Functions.{across, never_written, tied_add, tied_add_allocated}
use Rattle.worked_examples.specs.MachineCode.Sample.{al, ax, ecx}
use Rattle.worked_examples.specs.MachineCode.Validity.{Covers, LiveAcross, NeverWritten, RulesFail, TiedAddsAreValid, mini_two}

pub rules_fail : RulesFail
unfolding mini_target shape_fault instr_fault block_fault V1 V2 V3 V4 V5 V6 V7 V8 V9 V10 V11 V12 V15 V15_frame V16
rules_fail = (refl, refl, refl, refl, refl, refl, refl, refl, refl, refl, refl, refl, refl, refl)

pub covers : Covers
unfolding mini_target cover
covers = (refl, refl, refl, refl, refl)

-- of two tests of one statement each answers as the other does
pub same_tests : {P : ℕ → Type 0} (a b : ℕ → Bool) → Tests P a → Tests P b → a ≡ b
same_tests a b p q = λ i u. one_answer (a u) (b u) (p u) (q u) i

same_block : {b c : Block} → Some b ≡ Some c → b ≡ c
same_block {b} e = ap (λ o. unwrap_or o b) e

module _ (t : Target) (form : Form) (f : Function) where
  -- the live units decide V13
  not_v13 : (k : ℕ) (b : Block) (live : ℕ → Bool) → Tests (λ u. LiveAt t f (Start b.number) (UnitLane u)) live → liveins_fit t form k b live ≡ false → V13 t form f k b → ⊥
  not_v13 k b live d e h =
      let x : liveins_fit t form k b live ≡ true = subst (λ test. liveins_fit t form k b test ≡ true) (same_tests h.0 live h.1 d) h.2 in
      let y : true ≡ false = sym x ∙ e in
      absurd (cc)

  none_before : V13_before t form f 0
  none_before j b e = absurd (cc)

  one_before : (b : Block) → take 1 f.blocks ≡ b ∷ [] → V13 t form f 0 b → V13_before t form f 1
  one_before b e h j c g = at j (subst (λ bs. slice_get bs j ≡ Some c) e g)
    where
      at : (j : ℕ) → slice_get (b ∷ []) j ≡ Some c → V13 t form f j c
      at zero g = subst (V13 t form f 0) (same_block g) h
      at (suc j) g = absurd (cc)

  two_before : (b c : Block) → take 2 f.blocks ≡ b ∷ c ∷ [] → V13 t form f 0 b → V13 t form f 1 c → V13_before t form f 2
  two_before b c e h h' j d g = at j (subst (λ bs. slice_get bs j ≡ Some d) e g)
    where
      at : (j : ℕ) → slice_get (b ∷ c ∷ []) j ≡ Some d → V13 t form f j d
      at zero g = subst (V13 t form f 0) (same_block g) h
      at (suc zero) g = subst (V13 t form f 1) (same_block g) h'
      at (suc (suc j)) g = absurd (cc)

abbrev entry : Function → Block
entry f = unwrap_or (slice_get f.blocks 0) (record { number = 0; name = []; attributes = []; successors = []; liveins = []; instrs = [] })

abbrev second : Function → Block
second f = unwrap_or (slice_get f.blocks 1) (entry f)

-- no lane of a virtual register is live at the start
none_virtual : (t : Target) (f : Function) → slice_get f.blocks 0 ≡ Some (entry f) → ((v k : ℕ) → LiveAt t f (Start (entry f).number) (VirtualLane v k) → ⊥) → V14 t Source f
none_virtual t f e h b g v k l = h v k (subst (λ c. LiveAt t f (Start c.number) (VirtualLane v k)) (sym (same_block (sym e ∙ g))) l)

tied_starts : V13 mini_target Source tied_add 0 (entry tied_add)
unfolding mini_target points_of point_item item_of
tied_starts = (
  (λ u. lists (UnitLane 0 ∷ UnitLane 1 ∷ UnitLane 2 ∷ []) (UnitLane u)),
  (λ u. decided (is_reserved mini_target) (points_of mini_target tied_add) 5 1 (UnitLane 0 ∷ UnitLane 1 ∷ UnitLane 2 ∷ []) refl refl refl (UnitLane u)),
  refl,
)

tied_virtual : (v k : ℕ) → LiveAt mini_target tied_add (Start 0) (VirtualLane v k) → ⊥
unfolding mini_target points_of point_item item_of
tied_virtual v k h =
    let x : false ≡ true = (decided (is_reserved mini_target) (points_of mini_target tied_add) 5 1 (UnitLane 0 ∷ UnitLane 1 ∷ UnitLane 2 ∷ []) refl refl refl (VirtualLane v k)).1 h in
    absurd (cc)

allocated_starts : V13 mini_target Allocated tied_add_allocated 0 (entry tied_add_allocated)
unfolding mini_target points_of point_item item_of
allocated_starts = (
  (λ u. lists (UnitLane 0 ∷ UnitLane 1 ∷ UnitLane 2 ∷ []) (UnitLane u)),
  (λ u. decided (is_reserved mini_target) (points_of mini_target tied_add_allocated) 5 1 (UnitLane 0 ∷ UnitLane 1 ∷ UnitLane 2 ∷ []) refl refl refl (UnitLane u)),
  refl,
)

pub tied_adds : TiedAddsAreValid
unfolding mini_target shape_fault instr_fault block_fault V1 V2 V3 V4 V5 V6 V7 V8 V9 V10 V11 V12 V15 V15_frame V16
tied_adds = (
  record { shape = refl; liveins = one_before mini_target Source tied_add (entry tied_add) refl tied_starts; starts = none_virtual mini_target tied_add refl tied_virtual },
  record { shape = refl; liveins = one_before mini_target Allocated tied_add_allocated (entry tied_add_allocated) refl allocated_starts; starts = refl },
)

never_starts : V13 mini_target Source never_written 0 (entry never_written)
unfolding mini_target points_of point_item item_of
never_starts = (
  (λ u. lists (VirtualLane 0 0 ∷ VirtualLane 0 1 ∷ VirtualLane 0 2 ∷ []) (UnitLane u)),
  (λ u. decided (is_reserved mini_target) (points_of mini_target never_written) 5 1 (VirtualLane 0 0 ∷ VirtualLane 0 1 ∷ VirtualLane 0 2 ∷ []) refl refl refl (UnitLane u)),
  refl,
)

never_live : LiveAt mini_target never_written (Start 0) (VirtualLane 0 0)
unfolding mini_target points_of point_item item_of
never_live = (decided (is_reserved mini_target) (points_of mini_target never_written) 5 1 (VirtualLane 0 0 ∷ VirtualLane 0 1 ∷ VirtualLane 0 2 ∷ []) refl refl refl (VirtualLane 0 0)).0 refl

pub never : NeverWritten
unfolding mini_target shape_fault instr_fault block_fault V1 V2 V3 V4 V5 V6 V7 V8 V9 V10 V11 V12 V15 V15_frame V16
never = of_liveness refl (start (entry never_written) refl never_starts (λ h. h (entry never_written) refl 0 0 never_live))

-- $al is live at the start of both blocks
abbrev al_alone : ℕ → Bool
al_alone u = lists (UnitLane 0 ∷ []) (UnitLane u)

module _ (listed : List ℕ) where
  first_live : Tests (λ u. LiveAt mini_target (across listed) (Start 0) (UnitLane u)) al_alone
  unfolding mini_target points_of point_item item_of
  first_live u = decided (is_reserved mini_target) (points_of mini_target (across listed)) 6 1 (UnitLane 0 ∷ []) refl refl refl (UnitLane u)

  second_live : Tests (λ u. LiveAt mini_target (across listed) (Start 1) (UnitLane u)) al_alone
  unfolding mini_target points_of point_item item_of
  second_live u = decided (is_reserved mini_target) (points_of mini_target (across listed)) 6 3 (UnitLane 0 ∷ []) refl refl refl (UnitLane u)

  first_live_two : Tests (λ u. LiveAt mini_two (across listed) (Start 0) (UnitLane u)) al_alone
  unfolding mini_two points_of point_item item_of
  first_live_two u = decided (is_reserved mini_two) (points_of mini_two (across listed)) 6 1 (UnitLane 0 ∷ []) refl refl refl (UnitLane u)

  second_live_two : Tests (λ u. LiveAt mini_two (across listed) (Start 1) (UnitLane u)) al_alone
  unfolding mini_two points_of point_item item_of
  second_live_two u = decided (is_reserved mini_two) (points_of mini_two (across listed)) 6 3 (UnitLane 0 ∷ []) refl refl refl (UnitLane u)

  across_virtual : V14 mini_target Source (across listed)
  unfolding mini_target points_of point_item item_of
  across_virtual = none_virtual mini_target (across listed) refl not_live
    where
      not_live : (v k : ℕ) → LiveAt mini_target (across listed) (Start 0) (VirtualLane v k) → ⊥
      not_live v k h =
          let x : false ≡ true = (decided (is_reserved mini_target) (points_of mini_target (across listed)) 6 1 (UnitLane 0 ∷ []) refl refl refl (VirtualLane v k)).1 h in
          absurd (cc)

  across_virtual_two : V14 mini_two Source (across listed)
  unfolding mini_two points_of point_item item_of
  across_virtual_two = none_virtual mini_two (across listed) refl not_live
    where
      not_live : (v k : ℕ) → LiveAt mini_two (across listed) (Start 0) (VirtualLane v k) → ⊥
      not_live v k h =
          let x : false ≡ true = (decided (is_reserved mini_two) (points_of mini_two (across listed)) 6 1 (UnitLane 0 ∷ []) refl refl refl (VirtualLane v k)).1 h in
          absurd (cc)

abbrev after_first : Target → Form → List ℕ → Type 0
after_first t form listed = V13_before t form (across listed) 1

pub across_blocks : LiveAcross
unfolding mini_target mini_two shape_fault instr_fault block_fault cover V1 V2 V3 V4 V5 V6 V7 V8 V9 V10 V11 V12 V15 V15_frame V16
across_blocks = (
  of_liveness refl (later 0 (second (across [])) refl (one_before mini_target Source (across []) (entry (across [])) refl (al_alone, first_live [], refl)) (across_virtual []) (not_v13 mini_target Source (across []) 1 (second (across [])) al_alone (second_live []) refl)),
  of_liveness refl (later 0 (second (across (al ∷ []))) refl (one_before mini_target Source (across (al ∷ [])) (entry (across (al ∷ []))) refl (al_alone, first_live (al ∷ []), refl)) (across_virtual (al ∷ [])) (not_v13 mini_target Source (across (al ∷ [])) 1 (second (across (al ∷ []))) al_alone (second_live (al ∷ [])) refl)),
  of_liveness refl (later 0 (second (across [])) refl (one_before mini_two Source (across []) (entry (across [])) refl (al_alone, first_live_two [], refl)) (across_virtual_two []) (not_v13 mini_two Source (across []) 1 (second (across [])) al_alone (second_live_two []) refl)),
  record { shape = refl; liveins = two_before mini_two Source (across (al ∷ [])) (entry (across (al ∷ []))) (second (across (al ∷ []))) refl (al_alone, first_live_two (al ∷ []), refl) (al_alone, second_live_two (al ∷ []), refl); starts = across_virtual_two (al ∷ []) },
  record { shape = refl; liveins = two_before mini_two Source (across (ecx ∷ al ∷ [])) (entry (across (ecx ∷ al ∷ []))) (second (across (ecx ∷ al ∷ []))) refl (al_alone, first_live_two (ecx ∷ al ∷ []), refl) (al_alone, second_live_two (ecx ∷ al ∷ []), refl); starts = across_virtual_two (ecx ∷ al ∷ []) },
  record { shape = refl; liveins = two_before mini_target Allocated (across (al ∷ [])) (entry (across (al ∷ []))) (second (across (al ∷ []))) refl (al_alone, first_live (al ∷ []), refl) (al_alone, second_live (al ∷ []), refl); starts = refl },
  of_liveness refl (later 0 (second (across (ax ∷ []))) refl (one_before mini_target Allocated (across (ax ∷ [])) (entry (across (ax ∷ []))) refl (al_alone, first_live (ax ∷ []), refl)) refl (not_v13 mini_target Allocated (across (ax ∷ [])) 1 (second (across (ax ∷ []))) al_alone (second_live (ax ∷ [])) refl)),
)
