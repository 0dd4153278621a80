-- An instruction touches a range exactly where it reads, moves or writes a lane of it.
use Rattle.std.proofs.Common.{◌≡◌, ◌⊎◌, inl, inr, ℕ, Bool, true, false, cond, not, List, [], ◌∷◌, ◌++◌, Option, Some, None, map, flat_map, length, refl, sym, ap, ◌∙◌, subst, eqb-true, arith}
use Rattle.std.specs.Prelude.{◌&&◌, ◌||◌, ◌==◌, is_some}
use Rattle.target_base.specs.declared.types.Effect.{Effect}
use Rattle.target_base.specs.declared.types.Effect.TheVariants as effects
use Rattle.target_base.specs.declared.types.Role.{Role}
use Rattle.target_base.specs.declared.types.Target.{Target}
use Rattle.target_base.specs.Registers.{lanes_of}
use Rattle.target_base.specs.Roles.{is_silent, is_immediate, is_frame_or_symbol, is_slot, is_lanes, is_definition as is_definition_role, is_use as is_use_role}
use Rattle.target_base.specs.Rules.{is_phi}
use Rattle.target_base.proofs.Tests.{first_of_both, second_of_both}
use Rattle.meaning.specs.declared.types.Lane.TheVariants.{VirtualLane}
use Rattle.meaning.specs.Live.{Among as Member, here as first, there as later}
use Rattle.mir_func.specs.declared.func.Loc.{Loc}
use Rattle.mir_func.specs.declared.func.Loc.TheVariants.{Virtual, Fixed}
use Rattle.mir_func.specs.declared.func.RegOp.{RegOp}
use Rattle.mir_func.specs.declared.func.Operand.{Operand}
use Rattle.mir_func.specs.declared.func.Operand.TheVariants as operands
use Rattle.mir_func.specs.declared.func.Instr.{Instr}
use Rattle.mir_func.specs.Value.{Function}
use Rattle.mir_func.specs.Binding.{registers, implicit_registers, effect_of, is_early_clobber, passes, is_definition, is_use, is_virtual}
use Rattle.mir_meaning.specs.Registers.{operand_lanes, operand_widths, undefined_lanes, use_sources}
use Rattle.mir_meaning.specs.Items.{silent_reads, uses, copied, defined_undef, given_constant, reloaded}
use Rattle.mir_meaning.specs.Points.{is_range, counts, touches}
use Rattle.mir_meaning.specs.Rules.{is_virtual_use, is_whole_definition, copy_fits, implicit_def_fits, result_and, index_pairs, insertion, lanes_fit, has_lanes, widths_fit}
use Rattle.instr_effects.specs.declared.acts.Act.{Act}
use Rattle.instr_effects.specs.declared.owner.Owner.{Owner}
use Rattle.instr_effects.specs.declared.owner.Owner.TheVariants as owners
use Rattle.instr_effects.specs.Owners.{owner_of, operand_owners}
use Rattle.instr_effects.specs.Acts.{plain, is_constant, silent_acts, counted_acts, counted_owners, definition_acts, acts_of, use_owners, read_owners, entered_reads, entered_writes, effect_acts, effect_owners, slot_numbers, filled_whole, stored}
use Rattle.instr_effects.specs.Steps.{Numbering}
use Rattle.instr_effects.proofs.Members.{member-none, member-elim, map-of, map-in}
use Rattle.instr_effects.proofs.Readings.{uses-read}
use Rattle.instr_effects.proofs.Writes.{acts-counted, undefined_acts, whole_acts, copied_acts, constant_acts, stored_acts, reloaded_acts}
use Rattle.instr_effects.proofs.Known.{writes_known, reads_known}
use Rattle.live_laws.specs.Effects.Shaped.{AreClasses, IsShaped}
use Rattle.live_laws.proofs.Effects.Lists.{any-in, all-of}
use Rattle.live_laws.proofs.Effects.Shapes.{class-there, index-there, widths-of, lanes-there, same-lanes}
use Rattle.live_laws.proofs.Effects.Silent.{map-long}
use Rattle.live_laws.specs.Touch.{NamingLaw, Names, IsNamed}
use Rattle.live_laws.proofs.Touch.Cells.{any-of}
use Rattle.live_laws.proofs.Touch.Roles.{TakeAll, has_roles, fit, met, const-takes, addr-takes, spill-takes, reload-takes}
use Rattle.live_laws.proofs.Touch.Lanes.{lane-there}
use Rattle.live_laws.proofs.Touch.Exact.{operand-range, other-range, use-of, use-in, Used, Defined, Exact, given-exact, stored-exact}
use Rattle.live_laws.proofs.Touch.Effects.{IsConstantBy, defined-by, used-by, immediate-by, object-by, slot-by, lanes-by, def-of, not-true, plain-of-use, numbers-long, owners-long, given, given-long, given-in, given-of, alone-exact, plain-moves, together-exact, uses-of, pair-uses, counted-exact}

-- by the operands of each silent instruction

module _ (t : Target) (f : Function) where
  abbrev AreThere : List Operand → Type 0
  AreThere os = (o : RegOp) → Member o (registers os) → has_lanes t f o ≡ true

  copy-exact : (os : List Operand) → copy_fits os ≡ true → AreThere os → widths_fit t f effects.Copy os ≡ true → Exact t f (registers os) [] (acts_of (copied t f os))
  copy-exact (operands.Reg d ∷ operands.Reg s ∷ []) e there w =
      let same : length (operand_widths t f d) ≡ length (operand_widths t f s) = same-lanes t f d s (there d first) (there s (later first)) (first_of_both _ _ (first_of_both _ _ w)) in
      let a : length (operand_owners t f d) ≡ length (operand_widths t f d) = owners-long t f d in
      let b : length (given t f s) ≡ length (operand_widths t f s) = given-long t f s in
      subst (Exact t f (d ∷ s ∷ []) []) (sym (copied_acts t f (operands.Reg d ∷ operands.Reg s ∷ []) d s refl refl))
      (given-exact t f d (s ∷ []) (def-of d (first_of_both _ _ e)) (λ u m. ap (λ x. x.def) (one u m) ∙ plain-of-use s (second_of_both _ _ e)) false (given t f s) (omega arith) (omega arith)
      (λ u o m k. given-in t f s o (subst (λ x. Member o (use_owners t f x)) (one u m) k))
      (λ v k m. (s, first, given-of t f s (owners.Range v k) m)))
    where
      one : (u : RegOp) → Member u (s ∷ []) → u ≡ s
      one u m = member-elim u s [] (λ g. g) (λ k. absurd (member-none u k)) m
  copy-exact os e there w = absurd (cc)

  undef-exact : (os : List Operand) → implicit_def_fits os ≡ true → Exact t f (registers os) [] (acts_of (defined_undef t f os))
  undef-exact (operands.Reg d ∷ []) e =
      subst (Exact t f (d ∷ []) []) (sym (undefined_acts t f (operands.Reg d ∷ []) d refl ∙ ap (λ xs. xs ++ map (plain false) (map owner_of (undefined_lanes t f d))) (sym (plain-moves t f false (operand_owners t f d))))) (alone-exact t f false d e)
  undef-exact os e = absurd (cc)

  whole-defines : (d : RegOp) → is_whole_definition d ≡ true → is_definition d ≡ true
  whole-defines d e = first_of_both (is_definition d) (is_virtual d.loc) (first_of_both (is_definition d && is_virtual d.loc) _ e)

  filled-by : (d : RegOp) (os : List Operand) → is_whole_definition d ≡ true → ((u : RegOp) → Member u (registers os) → u.def ≡ false) → Exact t f (d ∷ registers os) (read_owners (map (use_sources t f) (uses (operands.Reg d ∷ os)))) (acts_of (filled_whole t f (operands.Reg d ∷ os)))
  filled-by d os e plains =
      let def = whole-defines d e in
      subst (Exact t f (d ∷ registers os) (read_owners (map (use_sources t f) (uses (operands.Reg d ∷ os))))) (sym (whole_acts t f (operands.Reg d ∷ os) d refl))
      (together-exact t f d (registers os) (read_owners (map (use_sources t f) (uses (operands.Reg d ∷ os)))) def plains (uses-read t f (uses (operands.Reg d ∷ os)) ∙ ap (flat_map (use_owners t f)) (uses-of t f d os (def-of d def) plains)))

  sequence-exact : (os : List Operand) → result_and index_pairs os ≡ true → Exact t f (registers os) (read_owners (map (use_sources t f) (uses os))) (acts_of (filled_whole t f os))
  sequence-exact [] e = absurd (cc)
  sequence-exact (operands.Reg d ∷ os) e = filled-by d os (first_of_both _ _ e) (λ u m. pair-uses t f os u (second_of_both _ _ e) m)
  sequence-exact (o ∷ os) e = absurd (cc)

  insert-exact : (os : List Operand) → result_and insertion os ≡ true → Exact t f (registers os) (read_owners (map (use_sources t f) (uses os))) (acts_of (filled_whole t f os))
  insert-exact [] e = absurd (cc)
  insert-exact (operands.Reg d ∷ operands.Reg a ∷ operands.Reg b ∷ operands.Index x ∷ []) e =
      let both = second_of_both (is_whole_definition d) (is_virtual_use a && is_virtual_use b) e in
      filled-by d (operands.Reg a ∷ operands.Reg b ∷ operands.Index x ∷ []) (first_of_both _ _ e) (λ u m. member-elim u a (b ∷ []) (λ g. ap (λ y. y.def) g ∙ plain-of-use a (first_of_both _ _ (first_of_both (is_virtual_use a) (is_virtual_use b) both))) (λ k. member-elim u b [] (λ g. ap (λ y. y.def) g ∙ plain-of-use b (first_of_both _ _ (second_of_both (is_virtual_use a) (is_virtual_use b) both))) (λ j. absurd (member-none u j)) k) m)
  insert-exact (operands.Reg d ∷ os) e = absurd (let q = second_of_both (is_whole_definition d) (insertion os) e in cc)
  insert-exact (o ∷ os) e = absurd (cc)

  constant-exact : (test : Role → Bool) → IsConstantBy test → (early : Bool) (os : List Operand) → TakeAll (is_definition_role ∷ test ∷ []) os → Exact t f (registers os) [] (acts_of (given_constant t f early os))
  constant-exact test by early [] z = absurd (z)
  constant-exact test by early (a ∷ []) z = absurd (z.1)
  constant-exact test by early (a ∷ b ∷ []) z =
      let x = defined-by z.0.0 a z.0.1 z.0.2 in
      let y = by z.1.0.0 b z.1.0.1 z.1.0.2 in
      at x.0 y.0 (y.1 []) x.1 x.2
    where
      at : (d : RegOp) → is_constant b ≡ true → registers (b ∷ []) ≡ [] → a ≡ operands.Reg d → is_definition d ≡ true → Exact t f (registers (a ∷ b ∷ [])) [] (acts_of (given_constant t f early (a ∷ b ∷ [])))
      at d k r e def =
          let whole : acts_of (given_constant t f early (operands.Reg d ∷ b ∷ [])) ≡ definition_acts t f early d (map (λ q. None) (operand_owners t f d)) = constant_acts t f early (operands.Reg d ∷ b ∷ []) d b refl refl ∙ ap (λ u. definition_acts t f early d (cond u (map (λ q. None) (operand_owners t f d)) [])) k in
          subst (λ o. Exact t f (registers (o ∷ b ∷ [])) [] (acts_of (given_constant t f early (o ∷ b ∷ [])))) (sym e)
          (subst (λ xs. Exact t f (d ∷ xs) [] (acts_of (given_constant t f early (operands.Reg d ∷ b ∷ [])))) (sym r) (subst (Exact t f (d ∷ []) []) (sym whole) (alone-exact t f early d def)))
  constant-exact test by early (a ∷ b ∷ c ∷ os) z = absurd (z.1.1)

  -- a slot beside a register has as many lanes
  slot-long : (o : RegOp) (s : ℕ) (k : Operand) (n : ℕ) (os : List Operand) → n ≡ length (operand_widths t f o) → has_lanes t f o ≡ true → lanes_fit t f (operands.Reg o ∷ operands.Stack s ∷ k ∷ os) ≡ true → length (slot_numbers t n k) ≡ n
  slot-long o s (operands.Index x) n os e h g = go (has_lanes t f o) h g
    where
      go : (b : Bool) → b ≡ true → (not b || length (lanes_of t x) == length (operand_widths t f o)) ≡ true → length (lanes_of t x) ≡ n
      go true h g = eqb-true (length (lanes_of t x)) (length (operand_widths t f o)) g ∙ sym e
      go false h g = absurd (cc)
  slot-long o s (operands.Reg r) n os e h g = numbers-long 0 n
  slot-long o s (operands.Imm r) n os e h g = numbers-long 0 n
  slot-long o s (operands.Block r) n os e h g = numbers-long 0 n
  slot-long o s (operands.Stack r) n os e h g = numbers-long 0 n
  slot-long o s (operands.FixedStack r) n os e h g = numbers-long 0 n
  slot-long o s (operands.Symbol r) n os e h g = numbers-long 0 n
  slot-long o s (operands.Mask r) n os e h g = numbers-long 0 n

  slots-only : (v k : ℕ) (s : ℕ) (ks : List ℕ) → Member (Some (owners.Range v k)) (map Some (map (owners.Slot s) ks)) → ⊥
  slots-only v k s ks m =
      let z = map-of {B = Option Owner} Some (Some (owners.Range v k)) (map (owners.Slot s) ks) m in
      let y = map-of (owners.Slot s) z.0 ks z.1 in
      let e : Some (owners.Range v k) ≡ Some (owners.Slot s y.0) = z.2 ∙ ap (λ q. Some q) y.2 in cc

  abbrev Reloads : Bool → Operand → Operand → Operand → Type 0
  Reloads early c p q = AreThere (p ∷ q ∷ c ∷ []) → lanes_fit t f (p ∷ q ∷ c ∷ []) ≡ true → Exact t f (registers (p ∷ q ∷ c ∷ [])) [] (acts_of (reloaded t f early (p ∷ q ∷ c ∷ [])))

  abbrev Stores : Operand → Operand → Operand → Type 0
  Stores c p q = AreThere (p ∷ q ∷ c ∷ []) → lanes_fit t f (p ∷ q ∷ c ∷ []) ≡ true → Exact t f (registers (p ∷ q ∷ c ∷ [])) [] (acts_of (stored t f (p ∷ q ∷ c ∷ [])))

  reload-exact : (early : Bool) (os : List Operand) → TakeAll (is_definition_role ∷ is_slot ∷ is_lanes ∷ []) os → AreThere os → lanes_fit t f os ≡ true → Exact t f (registers os) [] (acts_of (reloaded t f early os))
  reload-exact early [] z there w = absurd (z)
  reload-exact early (a ∷ []) z there w = absurd (z.1)
  reload-exact early (a ∷ b ∷ []) z there w = absurd (z.1.1)
  reload-exact early (a ∷ b ∷ c ∷ []) z there w =
      let x = defined-by z.0.0 a z.0.1 z.0.2 in
      let y = slot-by z.1.0.0 b z.1.0.1 z.1.0.2 in
      let l = lanes-by z.1.1.0.0 c z.1.1.0.1 z.1.1.0.2 in
      at x.0 y.0 (l []) x.1 y.1 x.2 there w
    where
      at : (d : RegOp) (s : ℕ) → registers (c ∷ []) ≡ [] → a ≡ operands.Reg d → b ≡ operands.Stack s → is_definition d ≡ true → Reloads early c a b
      at d s r e g def = subst (λ p. Reloads early c p b) (sym e) (subst (λ q. Reloads early c (operands.Reg d) q) (sym g) (λ there w.
          let n : ℕ = length (operand_owners t f d) in
          let long : n ≡ length (operand_widths t f d) = owners-long t f d in
          let few : length (slot_numbers t n c) ≡ n = slot-long d s c n [] long (there d first) w in
          let ss : List (Option Owner) = map Some (map (owners.Slot s) (slot_numbers t n c)) in
          let size : length ss ≡ n = map-long {Y = Option Owner} Some (map (owners.Slot s) (slot_numbers t n c)) ∙ map-long (owners.Slot s) (slot_numbers t n c) ∙ few in
          subst (λ xs. Exact t f (d ∷ xs) [] (acts_of (reloaded t f early (operands.Reg d ∷ operands.Stack s ∷ c ∷ [])))) (sym r)
          (subst (Exact t f (d ∷ []) []) (sym (reloaded_acts t f early (operands.Reg d ∷ operands.Stack s ∷ c ∷ []) d s n c refl refl refl refl))
          (given-exact t f d [] (def-of d def) (λ u m. absurd (member-none u m)) early ss (omega (arith, size)) (omega (arith, size)) (λ u o m k. absurd (member-none u m)) (λ v k m. absurd (slots-only v k s (slot_numbers t n c) m))))))
  reload-exact early (a ∷ b ∷ c ∷ o ∷ os) z there w = absurd (z.1.1.1)

  spill-exact : (os : List Operand) → TakeAll (is_use_role ∷ is_slot ∷ is_lanes ∷ []) os → AreThere os → lanes_fit t f os ≡ true → Exact t f (registers os) [] (acts_of (stored t f os))
  spill-exact [] z there w = absurd (z)
  spill-exact (a ∷ []) z there w = absurd (z.1)
  spill-exact (a ∷ b ∷ []) z there w = absurd (z.1.1)
  spill-exact (a ∷ b ∷ c ∷ []) z there w =
      let x = used-by z.0.0 a z.0.1 z.0.2 in
      let y = slot-by z.1.0.0 b z.1.0.1 z.1.0.2 in
      let l = lanes-by z.1.1.0.0 c z.1.1.0.1 z.1.1.0.2 in
      at x.0 y.0 (l []) x.1 y.1 x.2 there w
    where
      at : (u : RegOp) (s : ℕ) → registers (c ∷ []) ≡ [] → a ≡ operands.Reg u → b ≡ operands.Stack s → is_use u ≡ true → Stores c a b
      at u s r e g reading = subst (λ p. Stores c p b) (sym e) (subst (λ q. Stores c (operands.Reg u) q) (sym g) (λ there w.
          let n : ℕ = length (given t f u) in
          let few : length (slot_numbers t n c) ≡ n = slot-long u s c n [] (given-long t f u) (there u first) w in
          let size : length (map (owners.Slot s) (slot_numbers t n c)) ≡ n = map-long (owners.Slot s) (slot_numbers t n c) ∙ few in
          subst (λ xs. Exact t f (u ∷ xs) [] (acts_of (stored t f (operands.Reg u ∷ operands.Stack s ∷ c ∷ [])))) (sym r)
          (subst (Exact t f (u ∷ []) []) (sym (stored_acts t f (operands.Reg u ∷ operands.Stack s ∷ c ∷ []) u s n c refl refl refl refl))
          (stored-exact t f u s (slot_numbers t n c) (given t f u) (plain-of-use u reading) (omega (arith, size)) (given-in t f u) (given-of t f u)))))
  spill-exact (a ∷ b ∷ c ∷ o ∷ os) z there w = absurd (z.1.1.1)

-- by the effect

module _ (t : Target) (f : Function) (i : Instr) (shaped : IsShaped t f i) where
  abbrev ByEffect : Effect → List Role → Type 0
  ByEffect e rs = Exact t f (registers i.operands) (effect_owners t f e rs i.operands) (acts_of (effect_acts t f e rs i.operands))

  silent-exact : (e : Effect) → effect_of t i ≡ Some e → is_phi e ≡ false → is_silent e ≡ true → (rs : List Role) → ByEffect e rs
  silent-exact effects.Copy known not_phi h rs = let d = met t f i effects.Copy known shaped.operands in copy-exact t f i.operands d.3 (lanes-there t f i shaped) (widths-of t f i effects.Copy known shaped.widths)
  silent-exact effects.Phi known not_phi h rs = absurd (cc)
  silent-exact effects.ImplicitDef known not_phi h rs = let d = met t f i effects.ImplicitDef known shaped.operands in undef-exact t f i.operands d.3
  silent-exact effects.RegSequence known not_phi h rs = let d = met t f i effects.RegSequence known shaped.operands in sequence-exact t f i.operands d.3
  silent-exact effects.InsertSubreg known not_phi h rs = let d = met t f i effects.InsertSubreg known shaped.operands in insert-exact t f i.operands d.3
  silent-exact effects.Const known not_phi h rs = constant-exact t f is_immediate immediate-by (is_early_clobber rs) i.operands (const-takes t f i shaped.operands known)
  silent-exact effects.Addr known not_phi h rs = constant-exact t f is_frame_or_symbol object-by (is_early_clobber rs) i.operands (addr-takes t f i shaped.operands known)
  silent-exact effects.Spill known not_phi h rs = spill-exact t f i.operands (spill-takes t f i shaped.operands known) (lanes-there t f i shaped) (fit t f i effects.Spill known shaped.operands refl).values
  silent-exact effects.Reload known not_phi h rs = reload-exact t f (is_early_clobber rs) i.operands (reload-takes t f i shaped.operands known) (lanes-there t f i shaped) (fit t f i effects.Reload known shaped.operands refl).values
  silent-exact e known not_phi h rs = absurd (cc)

  counted-roles : (e : Effect) → is_silent e ≡ false → has_roles e ≡ true
  counted-roles effects.Copy h = absurd (cc)
  counted-roles effects.Phi h = absurd (cc)
  counted-roles effects.ImplicitDef h = absurd (cc)
  counted-roles effects.RegSequence h = absurd (cc)
  counted-roles effects.InsertSubreg h = absurd (cc)
  counted-roles effects.Const h = absurd (cc)
  counted-roles effects.Addr h = absurd (cc)
  counted-roles effects.Spill h = absurd (cc)
  counted-roles effects.Reload h = absurd (cc)
  counted-roles e h = refl

  other-exact : (e : Effect) → effect_of t i ≡ Some e → is_silent e ≡ false → (rs : List Role) → ByEffect e rs
  other-exact e known h rs =
      let asked = fit t f i e known shaped.operands (counted-roles e h) in
      let fixed : (o : RegOp) → Member o (implicit_registers i.operands) → is_virtual o.loc ≡ false = λ o m. not-true (is_virtual o.loc) (first_of_both _ _ (all-of _ o (implicit_registers i.operands) m asked.implicit)) in
      subst (λ b. Exact t f (registers i.operands) (cond b (read_owners (silent_reads t f e i.operands)) (counted_owners t f e rs i.operands)) (acts_of (cond b (silent_acts t f e (is_early_clobber rs) i.operands) (counted_acts t f e rs i.operands)))) (sym h)
      (subst (Exact t f (registers i.operands) (counted_owners t f e rs i.operands)) (sym (acts-counted t f e rs i.operands)) (counted-exact t f e rs i.operands fixed))

  by-effect : (e : Effect) → effect_of t i ≡ Some e → is_phi e ≡ false → (rs : List Role) → ByEffect e rs
  by-effect e known not_phi rs = go (is_silent e) refl
    where
      go : (b : Bool) → is_silent e ≡ b → ByEffect e rs
      go true h = silent-exact e known not_phi h rs
      go false h = other-exact e known h rs

  -- what is entered of the instruction
  pub instr-exact : (e : Effect) → effect_of t i ≡ Some e → is_phi e ≡ false → Exact t f (registers i.operands) (read_owners (entered_reads t f i)) (acts_of (entered_writes t f i))
  instr-exact e known not_phi =
      let d = met t f i e known shaped.operands in
      subst (λ rs. Exact t f (registers i.operands) rs (acts_of (entered_writes t f i))) (sym (reads_known t f i d.0 d.1 ∙ ap (λ x. effect_owners t f x d.0.roles i.operands) d.2))
      (subst (Exact t f (registers i.operands) (effect_owners t f e d.0.roles i.operands)) (sym (writes_known t f i d.0 d.1 ∙ ap (λ x. acts_of (effect_acts t f x d.0.roles i.operands)) d.2)) (by-effect e known not_phi d.0.roles))

-- what that tells of ranges

range-virtual : (v : ℕ) (l : Loc) → is_range v l ≡ true → is_virtual l ≡ true
range-virtual v (Virtual w) e = refl
range-virtual v (Fixed r) e = absurd (cc)

module _ (t : Target) (f : Function) (num : Numbering) (classes : AreClasses t f) (i : Instr) (shaped : IsShaped t f i) (numbered : (o : RegOp) (v k : ℕ) → Member o (registers i.operands) → Member (VirtualLane v k) (operand_lanes t f o) → (n : ℕ) × (num (owners.Range v k) ≡ Some n)) (e : Effect) (known : effect_of t i ≡ Some e) (not_phi : is_phi e ≡ false) (v : ℕ) where
  abbrev os : List RegOp
  os = registers i.operands

  exact : Exact t f os (read_owners (entered_reads t f i)) (acts_of (entered_writes t f i))
  exact = instr-exact t f i shaped e known not_phi

  test : RegOp → Bool
  test o = is_range v o.loc && counts o

  touched-by : (o : RegOp) → Member o os → is_range v o.loc ≡ true → counts o ≡ true → touches v i ≡ true
  touched-by o m r c = any-in (λ o. is_range v o.loc && counts o) o os m (ap (λ b. b && counts o) r ∙ c)

  used-touches : (k : ℕ) → Used t f os (owners.Range v k) → touches v i ≡ true
  used-touches k z =
      let y = use-of t f (owners.Range v k) z.0 z.2 in
      touched-by z.0 z.1 (operand-range t f v k z.0 y.1) (ap (λ b. z.0.def || not b) y.0 ∙ last z.0.def)
    where
      last : (b : Bool) → (b || true) ≡ true
      last true = refl
      last false = refl

  defined-touches : (k : ℕ) → Defined t f os (owners.Range v k) → touches v i ≡ true
  defined-touches k z = touched-by z.0 z.1 (go z.3) (ap (λ b. b || not z.0.undef) z.2)
    where
      go : Member (owners.Range v k) (operand_owners t f z.0) ⊎ Member (owners.Range v k) (map owner_of (undefined_lanes t f z.0)) → is_range v z.0.loc ≡ true
      go (inl m) = operand-range t f v k z.0 m
      go (inr m) = other-range t f v k z.0 m

  back : (k : ℕ) → Names t f i (owners.Range v k) → touches v i ≡ true
  back k (inl m) = used-touches k (exact.reads v k m)
  back k (inr z) = go z.2
    where
      go : (z.0.from ≡ Some (owners.Range v k)) ⊎ (z.0.lane ≡ owners.Range v k) → touches v i ≡ true
      go (inl g) = used-touches k (exact.moves z.0 v k z.1 g)
      go (inr g) = defined-touches k (exact.writes z.0 v k z.1 g)

  forth : touches v i ≡ true → (k : ℕ) × (n : ℕ) × (num (owners.Range v k) ≡ Some n) × Names t f i (owners.Range v k)
  forth h =
      let z = any-of (λ o. is_range v o.loc && counts o) os h in
      let o = z.0 in
      let r = first_of_both (is_range v o.loc) (counts o) z.2 in
      let c = second_of_both (is_range v o.loc) (counts o) z.2 in
      let l = lane-there t f v o.loc o.index classes r (class-there t f i shaped o z.1) (index-there t f i shaped o z.1) in
      let n = numbered o v l.0 z.1 l.1 in
      (l.0, n.0, n.1, go o z.1 r l.0 (map-in owner_of (VirtualLane v l.0) (operand_lanes t f o) l.1) o.def refl c)
    where
      go : (o : RegOp) → Member o os → is_range v o.loc ≡ true → (k : ℕ) → Member (owners.Range v k) (operand_owners t f o) → (b : Bool) → o.def ≡ b → (o.def || not o.undef) ≡ true → Names t f i (owners.Range v k)
      go o m r k j true d c = let z = exact.written o (owners.Range v k) m d j in inr (z.0, z.1, inr z.2)
      go o m r k j false d c = named (exact.used o (owners.Range v k) m d (range-virtual v o.loc r) (use-in t f (owners.Range v k) o (not-true o.undef (sym (ap (λ b. b || not o.undef) d) ∙ c)) j))
        where
          named : Member (owners.Range v k) (read_owners (entered_reads t f i)) ⊎ ((a : Act) × Member a (acts_of (entered_writes t f i)) × (a.from ≡ Some (owners.Range v k))) → Names t f i (owners.Range v k)
          named (inl q) = inl q
          named (inr q) = inr (q.0, q.1, inl q.2)

pub naming-law : NamingLaw
naming-law t f num rules numbered b i mb mi there not_phi v = go (effect_of t i) refl there not_phi
  where
    lanes : (o : RegOp) (w k : ℕ) → Member o (registers i.operands) → Member (VirtualLane w k) (operand_lanes t f o) → (n : ℕ) × (num (owners.Range w k) ≡ Some n)
    lanes o w k m j = let z = (numbered.names b i mb mi).lanes o (VirtualLane w k) m (inl j) refl in (z.0, z.1)

    go : (q : Option Effect) → effect_of t i ≡ q → is_some q ≡ true → passes is_phi q ≡ false → IsNamed t f num v i
    go None e h g = absurd (cc)
    go (Some x) e h g = record {
      forth = forth t f num rules.classes i (rules.shaped b i mb mi) lanes x e g v;
      back = back t f num rules.classes i (rules.shaped b i mb mi) lanes x e g v;
    }
