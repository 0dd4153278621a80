-- An instruction whose registers are renamed keeps the rules, where no two registers come to one name, and each name has the
-- class of the register that it stands for.
use Rattle.std.proofs.Common.{◌≡◌, ◌∷◌, ◌++◌, ◌∙◌, ◌&&◌, ◌||◌, not, ℕ, Bool, true, false, cond, List, Option, Some, None, map, filter, flat_map, length, refl, sym, ap, []}
use Rattle.std.specs.Prelude.{◌==◌, count_by, find, is_some, nat_eq, nat_le, option_and_then, option_map, option_to_list, slice_index}
use Rattle.std.specs.List.{list_all, list_any}
use Rattle.target_base.specs.declared.types.ClassId.{ClassId}
use Rattle.target_base.specs.declared.types.Effect.{Effect}
use Rattle.target_base.specs.declared.types.Effect.TheVariants as effects
use Rattle.target_base.specs.declared.types.IndexId.{IndexId}
use Rattle.target_base.specs.declared.types.OpcodeDesc.{OpcodeDesc}
use Rattle.target_base.specs.declared.types.Reg.{Reg}
use Rattle.target_base.specs.declared.types.Role.{Role}
use Rattle.target_base.specs.declared.types.Role.TheVariants as roles
use Rattle.target_base.specs.declared.types.Target.{Target}
use Rattle.target_base.specs.declared.types.Unit.{Unit as UnitNumber}
use Rattle.target_base.specs.Registers.{fits, lanes_of, units_of, widths_of_some}
use Rattle.target_base.specs.Roles.{is_silent}
use Rattle.target_base.specs.Storage.{same_numbers}
use Rattle.meaning.specs.Lanes.{same_lane}
use Rattle.meaning.specs.declared.types.Lane.{Lane}
use Rattle.meaning.specs.declared.types.Lane.TheVariants.{SlotLane, UnitLane, VirtualLane}
use Rattle.mir_func.specs.declared.func.Loc.{Loc}
use Rattle.mir_func.specs.declared.func.Loc.TheVariants.{Fixed, Virtual}
use Rattle.mir_func.specs.declared.func.RegOp.{RegOp}
use Rattle.mir_func.specs.declared.func.Operand.{Operand}
use Rattle.mir_func.specs.declared.func.Operand.TheVariants as operands
use Rattle.mir_func.specs.declared.func.Instr.{Instr}
use Rattle.mir_func.specs.Value.{Function}
use Rattle.mir_func.specs.Binding.{Bound, asked_class, bound, class_of, does, explicit_bound, explicit_operands, explicit_roles, immediate_of, implicit_bound, implicit_registers, implicit_roles, is_early, is_implicit_operand, is_lowered_away, is_use, is_virtual, known_opcode, numbered, passes, puts_together, registers, roles_of, same_fixed, same_loc, takes_many, takes_role, ties_to}
use Rattle.mir_meaning.specs.Items.{unreserved}
use Rattle.mir_meaning.specs.Registers.{is_reserved, located_lanes, located_widths, numbers, operand_lanes}
use Rattle.mir_meaning.specs.Renaming.{renamed_instr, renamed_operand}
use Rattle.mir_meaning.specs.declared.Form.TheVariants as forms
use Rattle.mir_meaning.specs.Rules.{V1, V2, V3, V4, V12, block_of, clashing_lanes, copy_fits, defined_lanes, early_fits, explicit_fit, fits_opaque, fits_role, has_class, has_home, has_lanes, has_lanes_at, implicit_def_fits, implicit_fit, implicit_last, in_operand_class, index_fits, index_of, is_condition, is_early_definition, is_free_undef, is_opaque, is_reserved_register, is_value, lanes_fit, lies_in, named_blocks, namings, no_two_share, operands_fit, readings, readings_besides, register_lies_in, same_role, same_widths, share_a_lane, subregs_fit, takes_reserved, undef_fits, undef_uses_fit, values_fit, widths_fit}
use Rattle.live_laws.specs.Effects.Shaped.{IsShaped}
use Rattle.split_laws.proofs.MappedLists.{all-map, any-map, count-map, filter-map, length-map, map-append, map-cond, map-map, numbered-map}

-- the blocks that an instruction names stay

block-same : (r : RegOp → RegOp) (o : Operand) → block_of (renamed_operand r o) ≡ block_of o
block-same r (operands.Reg o) = refl
block-same r o = refl

blocks-same : (r : RegOp → RegOp) (os : List Operand) → flat_map block_of (map (renamed_operand r) os) ≡ flat_map block_of os
blocks-same r [] = refl
blocks-same r (o ∷ os) = λ k. block-same r o k ++ blocks-same r os k

pub names-same : (r : RegOp → RegOp) (i : Instr) → named_blocks (renamed_instr r i) ≡ named_blocks i
names-same r i = blocks-same r i.operands

module _ (t : Target) (f g : Function) (number : ℕ → ℕ) (apart : (a b : ℕ) → nat_eq (number a) (number b) ≡ nat_eq a b) (class : (w : ℕ) → class_of g (number w) ≡ class_of f w) where
  abbrev pub place : Loc → Loc
  place (Virtual w) = Virtual (number w)
  place (Fixed r) = Fixed r

  abbrev pub moved : RegOp → RegOp
  moved o = record o { loc = place o.loc }

  abbrev move : Operand → Operand
  move = renamed_operand moved

  abbrev moves : List Operand → List Operand
  moves os = map move os

  -- registers

  virtual : (l : Loc) → is_virtual (place l) ≡ is_virtual l
  virtual (Virtual w) = refl
  virtual (Fixed r) = refl

  reserved : (l : Loc) → is_reserved_register t (place l) ≡ is_reserved_register t l
  reserved (Virtual w) = refl
  reserved (Fixed r) = refl

  same-place : (l m : Loc) → same_loc (place l) (place m) ≡ same_loc l m
  same-place (Virtual v) (Virtual w) = apart v w
  same-place (Virtual v) (Fixed r) = refl
  same-place (Fixed r) (Virtual v) = refl
  same-place (Fixed r) (Fixed q) = refl

  same-register : (r : Reg) (l : Loc) → same_fixed r (place l) ≡ same_fixed r l
  same-register r (Virtual w) = refl
  same-register r (Fixed q) = refl

  classed : (l : Loc) → has_class g (place l) ≡ has_class f l
  classed (Virtual w) = ap is_some (class w)
  classed (Fixed r) = refl

  has-lanes : (l : Loc) (x : Option IndexId) → has_lanes_at t g (place l) x ≡ has_lanes_at t f l x
  has-lanes (Virtual w) x = ap (passes (λ c. fits t c x)) (class w)
  has-lanes (Fixed r) x = refl

  widths : (l : Loc) (x : Option IndexId) → located_widths t g (place l) x ≡ located_widths t f l x
  widths (Virtual w) None = ap (widths_of_some t) (class w)
  widths (Virtual w) (Some x) = ap (λ q. map (slice_index (widths_of_some t q)) (lanes_of t x)) (class w)
  widths (Fixed r) x = refl

  indexed : (l : Loc) (x : Option IndexId) → index_fits t g (place l) x ≡ index_fits t f l x
  indexed (Virtual w) x = ap (λ q. elim q as (λ q. Bool) [ None ↦ true | Some c ↦ fits t c x ]) (class w)
  indexed (Fixed r) x = refl

  lies : (k : ClassId) (l : Loc) (x : Option IndexId) → register_lies_in t g k (place l) x ≡ register_lies_in t f k l x
  lies k (Virtual w) x = ap (passes (λ c. lies_in t k c x)) (class w)
  lies k (Fixed r) x = refl

  home : (l m : Loc) → has_home t (place l) (place m) ≡ has_home t l m
  home (Virtual v) (Virtual w) = refl
  home (Virtual v) (Fixed r) = refl
  home (Fixed r) (Virtual v) = refl
  home (Fixed r) (Fixed q) = refl

  wide : (a b : RegOp) → same_widths t g (moved a) (moved b) ≡ same_widths t f a b
  wide a b = λ k. not (has-lanes a.loc a.index k && has-lanes b.loc b.index k) || same_numbers (widths a.loc a.index k) (widths b.loc b.index k)

  -- lanes

  abbrev image : Lane → Lane
  image (VirtualLane w k) = VirtualLane (number w) k
  image (UnitLane u) = UnitLane u
  image (SlotLane s k w) = SlotLane s k w

  lanes : (l : Loc) (x : Option IndexId) → located_lanes t g (place l) x ≡ map image (located_lanes t f l x)
  lanes (Virtual w) None = ap (λ q. map (VirtualLane (number w)) (numbers 0 (length (widths_of_some t q)))) (class w) ∙ sym (map-map image (VirtualLane w) (numbers 0 (length (widths_of_some t (class_of f w)))))
  lanes (Virtual w) (Some x) = sym (map-map image (VirtualLane w) (lanes_of t x))
  lanes (Fixed r) x = sym (map-map image (λ (u : UnitNumber). UnitLane u.0) (units_of t r))

  same-lanes : (a b : Lane) → same_lane (image a) (image b) ≡ same_lane a b
  same-lanes (VirtualLane v k) (VirtualLane w l) = ap (λ q. q && nat_eq k l) (apart v w)
  same-lanes (VirtualLane v k) (UnitLane u) = refl
  same-lanes (VirtualLane v k) (SlotLane s l x) = refl
  same-lanes (UnitLane u) (VirtualLane w l) = refl
  same-lanes (UnitLane u) (UnitLane w) = refl
  same-lanes (UnitLane u) (SlotLane s l x) = refl
  same-lanes (SlotLane s k x) (VirtualLane w l) = refl
  same-lanes (SlotLane s k x) (UnitLane w) = refl
  same-lanes (SlotLane s k x) (SlotLane r l y) = refl

  free : (l : Lane) → not (is_reserved t (image l)) ≡ not (is_reserved t l)
  free (VirtualLane w k) = refl
  free (UnitLane u) = refl
  free (SlotLane s k x) = refl

  all-free : (ls : List Lane) → unreserved t (map image ls) ≡ map image (unreserved t ls)
  all-free ls = filter-map (λ l. not (is_reserved t l)) (λ l. not (is_reserved t l)) image free ls

  clashing : (o : RegOp) → clashing_lanes t g (moved o) ≡ map image (clashing_lanes t f o)
  clashing o =
      (λ k. cond (has-lanes o.loc o.index k) (unreserved t (lanes o.loc o.index k)) [])
      ∙ (ap (λ ls. cond (has_lanes t f o) ls []) (all-free (operand_lanes t f o)) ∙ map-cond image (has_lanes t f o) (unreserved t (operand_lanes t f o)))

  defines : (opaque : Bool) (d : RegOp) → defined_lanes t g opaque (moved d) ≡ map image (defined_lanes t f opaque d)
  defines true d = (λ k. cond (has-lanes d.loc d.index k) (lanes d.loc d.index k) []) ∙ map-cond image (has_lanes t f d) (operand_lanes t f d)
  defines false d = clashing d

  share : (ls ms : List Lane) → share_a_lane (map image ls) (map image ms) ≡ share_a_lane ls ms
  share ls ms = any-map (λ l. list_any (same_lane l) (map image ms)) (λ l. list_any (same_lane l) ms) image (λ l. any-map (same_lane (image l)) (same_lane l) image (same-lanes l) ms) ls

  no-two : (lss : List (List Lane)) → no_two_share (map (map image) lss) ≡ no_two_share lss
  no-two [] = refl
  no-two (ls ∷ lss) = λ k. not (any-map (share_a_lane (map image ls)) (share_a_lane ls) (map image) (share ls) lss k) && no-two lss k

  -- operands

  pub regs : (os : List Operand) → registers (moves os) ≡ map moved (registers os)
  regs [] = refl
  regs (operands.Reg o ∷ os) = ap (λ ps. moved o ∷ ps) (regs os)
  regs (operands.Imm z ∷ os) = regs os
  regs (operands.Block z ∷ os) = regs os
  regs (operands.Stack z ∷ os) = regs os
  regs (operands.FixedStack z ∷ os) = regs os
  regs (operands.Symbol z ∷ os) = regs os
  regs (operands.Index z ∷ os) = regs os
  regs (operands.Mask z ∷ os) = regs os

  implicit-same : (o : Operand) → is_implicit_operand (move o) ≡ is_implicit_operand o
  implicit-same (operands.Reg o) = refl
  implicit-same o = refl

  explicits : (os : List Operand) → explicit_operands (moves os) ≡ moves (explicit_operands os)
  explicits os = filter-map (λ o. not (is_implicit_operand o)) (λ o. not (is_implicit_operand o)) move (λ o. ap not (implicit-same o)) os

  implicits : (os : List Operand) → implicit_registers (moves os) ≡ map moved (implicit_registers os)
  implicits os = ap (filter (λ (o : RegOp). o.implicit)) (regs os) ∙ filter-map (λ (o : RegOp). o.implicit) (λ (o : RegOp). o.implicit) moved (λ o. refl) (registers os)

  defs : (os : List Operand) → filter (λ (o : RegOp). o.def) (registers (moves os)) ≡ map moved (filter (λ (o : RegOp). o.def) (registers os))
  defs os = ap (filter (λ (o : RegOp). o.def)) (regs os) ∙ filter-map (λ (o : RegOp). o.def) (λ (o : RegOp). o.def) moved (λ o. refl) (registers os)

  takes : (o : RegOp) (r : Role) → takes_role (moved o) r ≡ takes_role o r
  takes o (roles.ImpDef r) = ap (λ b. o.def && b) (same-register r o.loc)
  takes o (roles.ImpRead r) = ap (λ b. not o.def && b) (same-register r o.loc)
  takes o r = refl

  abbrev move-bound : Bound → Bound
  move-bound b = (b.0, move b.1)

  bound-explicit : (rs : List Role) (os : List Operand) → explicit_bound rs (moves os) ≡ map move-bound (explicit_bound rs os)
  bound-explicit rs [] = refl
  bound-explicit [] (o ∷ os) = ap (λ bs. (None, move o) ∷ bs) (bound-explicit [] os)
  bound-explicit (r ∷ rs) (o ∷ os) = ap (λ bs. (Some r, move o) ∷ bs) (bound-explicit (cond (takes_many r) (r ∷ rs) rs) os)

  bound-implicit : (rs : List Role) (os : List RegOp) → map (implicit_bound rs) (map moved os) ≡ map move-bound (map (implicit_bound rs) os)
  bound-implicit rs [] = refl
  bound-implicit rs (o ∷ os) = λ k. (find (λ r. takes o r k) rs, operands.Reg (moved o)) ∷ bound-implicit rs os k

  index-same : (o : Operand) → index_of (move o) ≡ index_of o
  index-same (operands.Reg o) = refl
  index-same o = refl

  indexes : (os : List Operand) → flat_map index_of (moves os) ≡ flat_map index_of os
  indexes [] = refl
  indexes (o ∷ os) = λ k. index-same o k ++ indexes os k

  -- operands fit roles as they did

  copies : (os : List Operand) → copy_fits (moves os) ≡ copy_fits os
  copies (operands.Reg d ∷ operands.Reg s ∷ []) = refl
  copies os = refl

  undefined : (os : List Operand) → implicit_def_fits (moves os) ≡ implicit_def_fits os
  undefined (operands.Reg d ∷ []) = refl
  undefined os = refl

  value : (o : Operand) → is_value t (move o) ≡ is_value t o
  value (operands.Reg o) = ap (λ b. is_use o && b) (reserved o.loc)
  value o = refl

  fit-opaque : (r : Role) (o : Operand) → fits_opaque t r (move o) ≡ fits_opaque t r o
  fit-opaque (roles.Value None) o = value o
  fit-opaque (roles.Value (Some k)) (operands.Reg o) = refl
  fit-opaque (roles.Value (Some k)) o = refl
  fit-opaque roles.Any o = value o
  fit-opaque r o = refl

  fit-role : (r : Role) (o : Operand) → fits_role r (move o) ≡ fits_role r o
  fit-role roles.Rest (operands.Reg o) = ap (λ b. is_use o && not b) (virtual o.loc)
  fit-role r (operands.Reg o) = refl
  fit-role r o = refl

  fit-explicit : (e : Effect) (rs : List Role) (os : List Operand) → explicit_fit t e rs (moves os) ≡ explicit_fit t e rs os
  fit-explicit e rs [] = refl
  fit-explicit e [] (o ∷ os) = refl
  fit-explicit e (r ∷ rs) (o ∷ os) = λ k. (fit-role r o k || (is_opaque e && fit-opaque r o k)) && fit-explicit e (cond (takes_many r) (r ∷ rs) rs) os k

  last : (os : List Operand) → implicit_last (moves os) ≡ implicit_last os
  last [] = refl
  last (o ∷ os) = λ k. cond (implicit-same o k) (all-map is_implicit_operand is_implicit_operand move implicit-same os k) (last os k)

  fit-implicit : (d : OpcodeDesc) (os : List RegOp) → implicit_fit d (map moved os) ≡ implicit_fit d os
  fit-implicit d os =
      λ k. all-map (λ (o : RegOp). not (is_virtual o.loc) && not (is_silent d.effect)) (λ (o : RegOp). not (is_virtual o.loc) && not (is_silent d.effect)) moved (λ o. ap (λ b. not b && not (is_silent d.effect)) (virtual o.loc)) os k
      && list_all (λ r. count-map (λ o. takes_role o r) (λ o. takes_role o r) moved (λ o. takes o r) os k == count_by (same_role r) d.roles) (implicit_roles d.roles)

  immediates : (os : List Operand) → immediate_of (moves os) ≡ immediate_of os
  immediates [] = refl
  immediates (operands.Imm z ∷ os) = refl
  immediates (operands.Reg o ∷ os) = immediates os
  immediates (operands.Block z ∷ os) = immediates os
  immediates (operands.Stack z ∷ os) = immediates os
  immediates (operands.FixedStack z ∷ os) = immediates os
  immediates (operands.Symbol z ∷ os) = immediates os
  immediates (operands.Index z ∷ os) = immediates os
  immediates (operands.Mask z ∷ os) = immediates os

  slot-lanes : (os : List Operand) → lanes_fit t g (moves os) ≡ lanes_fit t f os
  slot-lanes (operands.Reg o ∷ s ∷ operands.Imm z ∷ os) = refl
  slot-lanes (operands.Reg o ∷ s ∷ operands.Index x ∷ os) = λ k. not (has-lanes o.loc o.index k) || length (lanes_of t x) == length (widths o.loc o.index k)
  slot-lanes os = refl

  fit-values : (e : Effect) (os : List Operand) → values_fit t g e (moves os) ≡ values_fit t f e os
  fit-values effects.Jcc os = ap is_condition (immediates os)
  fit-values effects.Spill os = slot-lanes os
  fit-values effects.Reload os = slot-lanes os
  fit-values e os = refl

  general : (d : OpcodeDesc) (os : List Operand) (e : Effect) →
      (implicit_last (moves os) && explicit_fit t e (explicit_roles d.roles) (explicit_operands (moves os)) && implicit_fit d (implicit_registers (moves os)) && values_fit t g e (moves os))
      ≡ (implicit_last os && explicit_fit t e (explicit_roles d.roles) (explicit_operands os) && implicit_fit d (implicit_registers os) && values_fit t f e os)
  general d os e =
      λ k. last os k
      && (ap (explicit_fit t e (explicit_roles d.roles)) (explicits os) ∙ fit-explicit e (explicit_roles d.roles) (explicit_operands os)) k
      && (ap (implicit_fit d) (implicits os) ∙ fit-implicit d (implicit_registers os)) k
      && fit-values e os k

  fit : (d : OpcodeDesc) (os : List Operand) (e : Effect) → is_lowered_away e ≡ false → operands_fit t g d (moves os) e ≡ operands_fit t f d os e
  fit d os effects.Copy h = copies os
  fit d os effects.ImplicitDef h = undefined os
  fit d os effects.Phi h = absurd (cc)
  fit d os effects.RegSequence h = absurd (cc)
  fit d os effects.InsertSubreg h = absurd (cc)
  fit d os e h = general d os e

  in-class : (e : Effect) (b : Bound) → in_operand_class t g e (move-bound b) ≡ in_operand_class t f e b
  in-class e (r, operands.Reg o) =
      λ k. not (has-lanes o.loc o.index k) || (is_opaque e && passes takes_reserved r && reserved o.loc k) || list_all (λ c. lies c o.loc o.index k) (option_to_list (option_and_then asked_class r))
  in-class e (r, o) = refl

  fit-widths : (e : Effect) (os : List Operand) → is_lowered_away e ≡ false → widths_fit t g e (moves os) ≡ widths_fit t f e os
  fit-widths effects.Copy (operands.Reg d ∷ operands.Reg s ∷ os) h = λ k. wide d s k && home d.loc s.loc k && home s.loc d.loc k
  fit-widths effects.Copy os h = refl
  fit-widths effects.Phi os h = absurd (cc)
  fit-widths effects.RegSequence os h = absurd (cc)
  fit-widths effects.InsertSubreg os h = absurd (cc)
  fit-widths e os h = refl

  fit-subregs : (os : List Operand) → subregs_fit t g (moves os) ≡ subregs_fit t f os
  fit-subregs (operands.Reg d ∷ os) = λ k. list_all (λ x. indexed d.loc (Some x) k) (indexes os k)
  fit-subregs os = refl

  -- definitions

  naming : (os : List RegOp) → namings (map moved os) ≡ map moved (namings os)
  naming os = filter-map (λ (o : RegOp). o.def || not o.undef) (λ (o : RegOp). o.def || not o.undef) moved (λ o. refl) os

  once : (os : List RegOp) (d : RegOp) → length (filter (λ (o : RegOp). same_loc o.loc (place d.loc)) (namings (map moved os))) ≡ length (filter (λ (o : RegOp). same_loc o.loc d.loc) (namings os))
  once os d =
      ap (λ ps. length (filter (λ (o : RegOp). same_loc o.loc (place d.loc)) ps)) (naming os)
      ∙ (ap length (filter-map (λ (o : RegOp). same_loc o.loc (place d.loc)) (λ (o : RegOp). same_loc o.loc d.loc) moved (λ o. same-place o.loc d.loc) (namings os))
      ∙ length-map moved (filter (λ (o : RegOp). same_loc o.loc d.loc) (namings os)))

  fit-undef : (os : List RegOp) (d : RegOp) → undef_fits forms.Source (map moved os) (moved d) ≡ undef_fits forms.Source os d
  fit-undef os d = λ k. not d.undef || (virtual d.loc k && nat_le (once os d k) 1)

  besides : (n : ℕ) (bs : List Bound) → readings_besides n (map move-bound bs) ≡ map moved (readings_besides n bs)
  besides n bs =
      let others = filter (λ (b : Bound). not (passes (ties_to n) b.0)) bs in
      ap (λ cs. readings (registers (map (λ (b : Bound). b.1) cs))) (filter-map (λ (b : Bound). not (passes (ties_to n) b.0)) (λ (b : Bound). not (passes (ties_to n) b.0)) move-bound (λ b. refl) bs)
      ∙ (ap (λ os. readings (registers os)) (map-map (λ (b : Bound). b.1) move-bound others ∙ sym (map-map move (λ (b : Bound). b.1) others))
      ∙ (ap readings (regs (map (λ (b : Bound). b.1) others))
      ∙ filter-map (λ (o : RegOp). not o.def && not o.undef) (λ (o : RegOp). not o.def && not o.undef) moved (λ o. refl) (registers (map (λ (b : Bound). b.1) others))))

  clash-same : (d u : RegOp) → share_a_lane (clashing_lanes t g (moved d)) (clashing_lanes t g (moved u)) ≡ share_a_lane (clashing_lanes t f d) (clashing_lanes t f u)
  clash-same d u = (λ k. share_a_lane (clashing d k) (clashing u k)) ∙ share (clashing_lanes t f d) (clashing_lanes t f u)

  fit-early : (bs : List Bound) (p : ℕ × Bound) → early_fits t g (map move-bound bs) (p.0, move-bound p.1) ≡ early_fits t f bs p
  fit-early bs (n, (r, operands.Reg d)) =
      λ k. not (passes is_early r)
      || not ((ap (list_any (λ u. share_a_lane (clashing_lanes t g (moved d)) (clashing_lanes t g u))) (besides n bs) ∙ any-map (λ u. share_a_lane (clashing_lanes t g (moved d)) (clashing_lanes t g u)) (λ u. share_a_lane (clashing_lanes t f d) (clashing_lanes t f u)) moved (clash-same d) (readings_besides n bs)) k)
  fit-early bs (n, (r, o)) = refl

  free-undef : (b : Bound) → is_free_undef (move-bound b) ≡ is_free_undef b
  free-undef (r, operands.Reg o) = refl
  free-undef (r, o) = refl

  fit-undefs : (opaque : Bool) (bs : List Bound) → undef_uses_fit opaque (map move-bound bs) ≡ undef_uses_fit opaque bs
  fit-undefs opaque bs = λ k. not (opaque && any-map is_early_definition is_early_definition move-bound (λ b. refl) bs k && any-map is_free_undef is_free_undef move-bound free-undef bs k)

  module _ (i : Instr) where
    abbrev pub j : Instr
    j = renamed_instr moved i

    abbrev bs : List Bound
    bs = bound t i

    bound-same : bound t j ≡ map move-bound bs
    bound-same =
        let es = explicit_roles (roles_of t i) in
        let is = implicit_roles (roles_of t i) in
        (λ k. (ap (explicit_bound es) (explicits i.operands) ∙ bound-explicit es (explicit_operands i.operands)) k ++ (ap (map (implicit_bound is)) (implicits i.operands) ∙ bound-implicit is (implicit_registers i.operands)) k)
        ∙ sym (map-append move-bound (explicit_bound es (explicit_operands i.operands)) (map (implicit_bound is) (implicit_registers i.operands)))

    three : V3 g j ≡ V3 f i
    unfolding V3
    three = ap (list_all (λ (o : RegOp). has_class g o.loc)) (regs i.operands) ∙ all-map (λ (o : RegOp). has_class g o.loc) (λ (o : RegOp). has_class f o.loc) moved (λ o. classed o.loc) (registers i.operands)

    four : V4 t g j ≡ V4 t f i
    unfolding V4
    four =
        λ k. (ap (list_all (λ (o : RegOp). index_fits t g o.loc o.index)) (regs i.operands) ∙ all-map (λ (o : RegOp). index_fits t g o.loc o.index) (λ (o : RegOp). index_fits t f o.loc o.index) moved (λ o. indexed o.loc o.index) (registers i.operands)) k
        && (not (does puts_together t i) || fit-subregs i.operands k)

    twelve : V12 t forms.Source g j ≡ V12 t forms.Source f i
    unfolding V12
    twelve =
        let opaque = does is_opaque t i in
        let ds = filter (λ (o : RegOp). o.def) (registers i.operands) in
        (λ k. list_all (undef_fits forms.Source (regs i.operands k)) (defs i.operands k) && no_two_share (map (defined_lanes t g opaque) (defs i.operands k)) && list_all (early_fits t g (bound-same k)) (numbered 0 (bound-same k)) && undef_uses_fit opaque (bound-same k))
        ∙ (λ k. all-map (undef_fits forms.Source (map moved (registers i.operands))) (undef_fits forms.Source (registers i.operands)) moved (fit-undef (registers i.operands)) ds k
        && ((ap no_two_share (map-map (defined_lanes t g opaque) moved ds ∙ ((λ m. map (λ d. defines opaque d m) ds) ∙ sym (map-map (map image) (defined_lanes t f opaque) ds))) ∙ no-two (map (defined_lanes t f opaque) ds)) k)
        && ((ap (list_all (early_fits t g (map move-bound bs))) (numbered-map move-bound 0 bs) ∙ all-map (early_fits t g (map move-bound bs)) (early_fits t f bs) (λ (p : ℕ × Bound). (p.0, move-bound p.1)) (fit-early bs) (numbered 0 bs)) k)
        && fit-undefs opaque bs k)

    module _ (lowered : does is_lowered_away t i ≡ false) where
      one : V1 t g j ≡ V1 t f i
      unfolding V1
      one = by (known_opcode t i.op) lowered
        where
          by : (q : Option OpcodeDesc) → passes is_lowered_away (option_map (λ d. d.effect) q) ≡ false → elim q as (λ q. Bool) [ None ↦ true | Some d ↦ operands_fit t g d (moves i.operands) d.effect ] ≡ elim q as (λ q. Bool) [ None ↦ true | Some d ↦ operands_fit t f d i.operands d.effect ]
          by None h = refl
          by (Some d) h = fit d i.operands d.effect h

      two : V2 t g j ≡ V2 t f i
      unfolding V2
      two = by (known_opcode t i.op) lowered
        where
          by : (q : Option OpcodeDesc) → passes is_lowered_away (option_map (λ d. d.effect) q) ≡ false → elim q as (λ q. Bool) [ None ↦ true | Some d ↦ list_all (in_operand_class t g d.effect) (bound t j) && widths_fit t g d.effect (moves i.operands) ] ≡ elim q as (λ q. Bool) [ None ↦ true | Some d ↦ list_all (in_operand_class t f d.effect) bs && widths_fit t f d.effect i.operands ]
          by None h = refl
          by (Some d) h =
              λ k. (ap (list_all (in_operand_class t g d.effect)) bound-same ∙ all-map (in_operand_class t g d.effect) (in_operand_class t f d.effect) move-bound (in-class d.effect) bs) k
              && fit-widths d.effect i.operands h k

      pub shape-kept : IsShaped t f i → IsShaped t g j
      shape-kept s = record { operands = one ∙ s.operands; widths = two ∙ s.widths; classes = three ∙ s.classes; indexes = four ∙ s.indexes; definitions = twelve ∙ s.definitions }
