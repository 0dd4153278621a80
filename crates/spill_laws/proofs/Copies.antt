-- Stores and reloads that stand in place of copies and of IMPLICIT_DEFs of the range keep the rules, and are in lowered form.
use Rattle.std.proofs.Common.{◌≡◌, ◌∙◌, ◌&&◌, ◌||◌, not, ℕ, Bool, true, false, List, [], ◌∷◌, Option, Some, None, length, refl, sym, ap, subst, arith, eq-eqb, eqb-true}
use Rattle.std.specs.Prelude.{◌==◌, cond, filter, is_some, option_and_then, slice_get, slice_index}
use Rattle.std.specs.List.{list_all, list_any}
use Rattle.std.proofs.lemmas.List.{length-map}
use Rattle.target_base.specs.declared.types.ClassDesc.{ClassDesc}
use Rattle.target_base.specs.declared.types.ClassId.{ClassId}
use Rattle.target_base.specs.declared.types.Effect.TheVariants as effects
use Rattle.target_base.specs.declared.types.IndexId.{IndexId}
use Rattle.target_base.specs.declared.types.Reg.{Reg}
use Rattle.target_base.specs.declared.types.Target.{Target}
use Rattle.target_base.specs.Registers.{IsClass, fits, lanes_of, part_of, regs_of, widths_of}
use Rattle.target_base.specs.Rules.{is_complete, part_is_there, reloads, spills}
use Rattle.target_base.specs.Storage.{holds_reg, is_unreserved, regs_in}
use Rattle.target_base.proofs.Sound.{complete_sound}
use Rattle.target_base.proofs.Tests.{first_of_both, second_of_both}
use Rattle.meaning.specs.Live.{Among as Member, here as first, there as later}
use Rattle.mir_func.specs.declared.func.Loc.{Loc}
use Rattle.mir_func.specs.declared.func.Loc.TheVariants.{Fixed, Virtual}
use Rattle.mir_func.specs.declared.func.RegOp.{RegOp}
use Rattle.mir_func.specs.declared.func.Operand.{Operand}
use Rattle.mir_func.specs.declared.func.Operand.TheVariants as operands
use Rattle.mir_func.specs.declared.func.Instr.{Instr}
use Rattle.mir_func.specs.Value.{Function}
use Rattle.mir_func.specs.Edits.{made}
use Rattle.mir_func.specs.Binding.{class_of, effect_of, is_virtual, passes, registers}
use Rattle.mir_meaning.specs.Places.{domain}
use Rattle.mir_meaning.specs.Points.{is_range}
use Rattle.mir_meaning.specs.Registers.{located_widths, operand_widths, range_widths}
use Rattle.mir_meaning.specs.Rules.{has_class, has_home, has_lanes, index_fits, lanes_fit, lies_in, same_widths, widths_fit}
use Rattle.live_laws.specs.Effects.Shaped.{AreClasses, IsShaped}
use Rattle.live_laws.proofs.Effects.Shapes.{class-registers, class-there, index-there, lanes-there, same-lanes, widths-of}
use Rattle.live_laws.proofs.Effects.Blocks.{slice-member}
use Rattle.live_laws.proofs.Effects.Lists.{all-of}
use Rattle.lowering_laws.proofs.RulesStay.{class-stays, index-stays, lies-within, widths}
use Rattle.lowering_laws.proofs.Widths.{class-alike, lying-widths, through_index}
use Rattle.spiller.specs.Setting.{Spilling, class_beside, first_of, in_own_slot, is_own, opcode, own_class, part_class, plain_definition, plain_use, reload, store, undef_use}
use Rattle.spill_laws.specs.Laws.{CopiesKeepRules, IsInForm, LiesIn, MovesKeepRules, UndefinedKeepRules}
use Rattle.spill_laws.proofs.Classes.{home-class, lies-further, part-class}
use Rattle.spill_laws.proofs.Moves.{load-opcode, moving-formed, moving-lowered, moving-shaped, store-opcode}
use Rattle.spill_laws.proofs.Opcodes.{IsSlot, load-moves, own-slot, store-moves}

or-true : (b : Bool) → (b || true) ≡ true
or-true true = refl
or-true false = refl

module _ (t : Target) (g : Function) where
  pub store-good : (k : ClassId) (l : Loc) (x : Option IndexId) (undef : Bool) → LiesIn t g k l x → (slot : List Operand) → IsSlot slot → lanes_fit t g (operands.Reg (record (plain_use l x) { undef = undef }) ∷ slot) ≡ true → IsInForm t g (store t (Some k) (record (plain_use l x) { undef = undef }) slot)
  store-good k l x undef w slot z long =
      let m = store-moves t k w.known in
      let p = store-opcode t k m.0 m.2 undef in
      let o = record (plain_use l x) { undef = undef } in
      let lies = lies-further t g k p.class p.holds l x w.lies in
      subst (IsInForm t g) (sym (λ i. made 0 (opcode (m.1 i)) (operands.Reg o ∷ z.is i)))
      (record {
        shaped = moving-shaped t false undef effects.Spill m.0 k p l x z.number z.lanes z.fits g w.class w.index lies (subst (λ qs. lanes_fit t g (operands.Reg o ∷ qs) ≡ true) z.is long);
        opcode = moving-lowered t false undef effects.Spill m.0 k p l x z.number z.lanes z.fits;
        lowered = moving-formed t false undef effects.Spill m.0 k p l x z.number z.lanes z.fits;
      })

  pub reload-good : (k : ClassId) (l : Loc) (x : Option IndexId) → LiesIn t g k l x → (slot : List Operand) → IsSlot slot → lanes_fit t g (operands.Reg (plain_definition l x) ∷ slot) ≡ true → IsInForm t g (reload t (Some k) (plain_definition l x) slot)
  reload-good k l x w slot z long =
      let m = load-moves t k w.known in
      let p = load-opcode t k m.0 m.2 in
      let o = plain_definition l x in
      let lies = lies-further t g k p.class p.holds l x w.lies in
      subst (IsInForm t g) (sym (λ i. made 0 (opcode (m.1 i)) (operands.Reg o ∷ z.is i)))
      (record {
        shaped = moving-shaped t true false effects.Reload m.0 k p l x z.number z.lanes z.fits g w.class w.index lies (subst (λ qs. lanes_fit t g (operands.Reg o ∷ qs) ≡ true) z.is long);
        opcode = moving-lowered t true false effects.Reload m.0 k p l x z.number z.lanes z.fits;
        lowered = moving-formed t true false effects.Reload m.0 k p l x z.number z.lanes z.fits;
      })

module _ (s : Spilling) (g : Function) (stay : (w : ℕ) → is_some (class_of s.func w) ≡ true → class_of g w ≡ class_of s.func w) (classes : AreClasses s.target s.func) where
  abbrev t : Target
  t = s.target

  abbrev f : Function
  f = s.func

  -- as many lanes as the operand has
  pub own-long : (o : RegOp) (x : Option IndexId) → ((y : IndexId) → x ≡ Some y → length (lanes_of t y) ≡ length (operand_widths t g o)) → lanes_fit t g (operands.Reg o ∷ in_own_slot s x) ≡ true
  own-long o None h = refl
  own-long o (Some y) h = ap (λ b. not (has_lanes t g o) || b) (eq-eqb (length (lanes_of t y)) (length (operand_widths t g o)) (h y refl)) ∙ or-true (not (has_lanes t g o))

  pub range-is : (v : ℕ) (l : Loc) → is_range v l ≡ true → l ≡ Virtual v
  range-is v (Virtual w) e = ap Virtual (sym (eqb-true v w e))
  range-is v (Fixed q) e = absurd (cc)

  -- of a register through an index as many lanes are named as the index picks
  pub index-long : (h : Function) (l : Loc) (v : ℕ) → l ≡ Virtual v → (x : Option IndexId) (y : IndexId) → x ≡ Some y → length (located_widths t h l x) ≡ length (lanes_of t y)
  index-long h l v e x y g = ap length ((λ i. located_widths t h (e i) (g i))) ∙ length-map (lanes_of t y) (slice_index (range_widths t h v))

  -- the class beside a copy
  pub record Beside (o : RegOp) (l : Loc) (x : Option IndexId) : Type 0 where
    pub class : ClassId
    pub is : class_beside s o l ≡ Some class
    pub lies : LiesIn t g class l x

  pub beside : (o : RegOp) (l : Loc) → has_class f l ≡ true → index_fits t f l o.index ≡ true → (m : Loc) → is_virtual m ≡ true → has_home t l m ≡ true → Beside o l o.index
  beside o (Virtual w) c e m v h = go (class_of f w) refl c e
    where
      go : (q : Option ClassId) → class_of f w ≡ q → is_some q ≡ true → elim q as (λ q. Bool) [ None ↦ true | Some k ↦ fits t k o.index ] ≡ true → Beside o (Virtual w) o.index
      go None d c e = absurd (cc)
      go (Some k) d n z =
          let p = part-class t k o.index (classes w k d) z in
          record {
            class = p.class;
            is = ap (option_and_then (λ b. part_of t b o.index)) d ∙ p.is;
            lies = record {
              known = p.known;
              class = class-stays t f g stay (Virtual w) c;
              index = index-stays t f g stay (Virtual w) o.index c ∙ e;
              lies = lies-within t f g stay p.class (Virtual w) o.index c ∙ (ap (passes (λ b. lies_in t p.class b o.index)) d ∙ p.lies);
            };
          }
  beside o (Fixed r) c e (Virtual v) i h =
      let p = home-class t r h in
      record { class = p.class; is = p.is; lies = record { known = p.known; class = refl; index = e; lies = p.holds } }
  beside o (Fixed r) c e (Fixed q) i h = absurd (cc)

  -- a copy of the range and another register
  module _ (i : Instr) (shaped : IsShaped t f i) (d o : RegOp) (known : effect_of t i ≡ Some effects.Copy) (are : i.operands ≡ operands.Reg d ∷ operands.Reg o ∷ []) where
    named : (x : RegOp) → Member x (d ∷ o ∷ []) → Member x (registers i.operands)
    named x m = subst (λ os. Member x (registers os)) (sym are) m

    rule : (same_widths t f d o && has_home t d.loc o.loc && has_home t o.loc d.loc) ≡ true
    rule = subst (λ os. widths_fit t f effects.Copy os ≡ true) are (widths-of t f i effects.Copy known shaped.widths)

    same : length (operand_widths t f d) ≡ length (operand_widths t f o)
    same =
        same-lanes t f d o (lanes-there t f i shaped d (named d first)) (lanes-there t f i shaped o (named o (later first)))
        (first_of_both (same_widths t f d o) (has_home t d.loc o.loc) (first_of_both (same_widths t f d o && has_home t d.loc o.loc) (has_home t o.loc d.loc) rule))

    virtual-own : (x : RegOp) → is_own s x ≡ true → is_virtual x.loc ≡ true
    virtual-own x e = ap is_virtual (range-is s.range x.loc e)

    pub from-range : is_own s o ≡ true → IsInForm t g (reload t (class_beside s d d.loc) (plain_definition d.loc d.index) (in_own_slot s o.index))
    from-range own =
        let cd = class-there t f i shaped d (named d first) in
        let z = beside d d.loc cd (index-there t f i shaped d (named d first)) o.loc (virtual-own o own) (second_of_both (same_widths t f d o) (has_home t d.loc o.loc) (first_of_both (same_widths t f d o && has_home t d.loc o.loc) (has_home t o.loc d.loc) rule)) in
        subst (λ k. IsInForm t g (reload t k (plain_definition d.loc d.index) (in_own_slot s o.index))) (sym z.is)
        (reload-good t g z.class d.loc d.index z.lies (in_own_slot s o.index) (own-slot s o.index)
        (own-long (plain_definition d.loc d.index) o.index (λ y e. sym (index-long f o.loc s.range (range-is s.range o.loc own) o.index y e) ∙ (sym same ∙ ap length (sym (widths t f g stay d.loc d.index cd))))))

    pub to-range : is_own s d ≡ true → IsInForm t g (store t (class_beside s o o.loc) (plain_use o.loc o.index) (in_own_slot s d.index))
    to-range own =
        let co = class-there t f i shaped o (named o (later first)) in
        let z = beside o o.loc co (index-there t f i shaped o (named o (later first))) d.loc (virtual-own d own) (second_of_both (same_widths t f d o && has_home t d.loc o.loc) (has_home t o.loc d.loc) rule) in
        subst (λ k. IsInForm t g (store t k (plain_use o.loc o.index) (in_own_slot s d.index))) (sym z.is)
        (store-good t g z.class o.loc o.index false z.lies (in_own_slot s d.index) (own-slot s d.index)
        (own-long (plain_use o.loc o.index) d.index (λ y e. sym (index-long f d.loc s.range (range-is s.range d.loc own) d.index y e) ∙ (same ∙ ap length (sym (widths t f g stay o.loc o.index co))))))

  -- an IMPLICIT_DEF of the range

  first-there : (p : Reg → Bool) (rs : List Reg) → list_any p rs ≡ true → holds_reg rs (first_of (filter p rs)) ≡ true
  first-there p [] h = absurd (cc)
  first-there p (r ∷ rs) h = go (p r) h (first-there p rs)
    where
      go : (b : Bool) → (b || list_any p rs) ≡ true → (list_any p rs ≡ true → holds_reg rs (first_of (filter p rs)) ≡ true) → holds_reg (r ∷ rs) (first_of (cond b (r ∷ filter p rs) (filter p rs))) ≡ true
      go true h ih = ap (λ b. b || list_any (λ (q : Reg). q.0 == r.0) rs) (eq-eqb r.0 r.0 refl)
      go false h ih = ap (λ b. (r.0 == (first_of (filter p rs)).0) || b) (ih h) ∙ or-true (r.0 == (first_of (filter p rs)).0)

  -- the class's first unreserved register
  pub unreserved-there : (k : ClassId) → IsClass t k → holds_reg (regs_of t k) (first_of (domain t (Some k))) ≡ true
  unreserved-there k h = go (slice_get t.classes k.0) refl
    where
      go : (q : Option ClassDesc) → slice_get t.classes k.0 ≡ q → holds_reg (regs_in q) (first_of (filter (is_unreserved t.reserved t.regs) (regs_in q))) ≡ true
      go None e = absurd (let n = class-registers t None k.0 e h in omega arith)
      go (Some d) e =
          let all = complete_sound t.name t.version t.units t.regs t.reserved t.indexes t.classes t.masks t.opcodes t.sound in
          let one = all-of (is_complete t.regs t.reserved t.indexes t.classes t.opcodes) d t.classes (slice-member t.classes k.0 d e) all in
          first-there (is_unreserved t.reserved t.regs) d.regs
          (second_of_both (list_any (spills t.classes d.regs) t.opcodes && list_any (reloads t.classes d.regs) t.opcodes) (list_any (is_unreserved t.reserved t.regs) d.regs)
          (first_of_both (list_any (spills t.classes d.regs) t.opcodes && list_any (reloads t.classes d.regs) t.opcodes && list_any (is_unreserved t.reserved t.regs) d.regs) (list_all (part_is_there t.regs t.classes d.regs) t.indexes) one))

  module _ (i : Instr) (shaped : IsShaped t f i) (o : RegOp) (are : i.operands ≡ operands.Reg o ∷ []) (own : is_own s o ≡ true) where
    abbrev place : Option ClassId
    place = part_class t o.index (own_class s)

    pub undefined-stored : IsInForm t g (store t place (undef_use t place) (in_own_slot s o.index))
    undefined-stored = go (class_of f s.range) refl (subst (λ l. has_class f l ≡ true) at (class-there t f i shaped o there)) (subst (λ l. index_fits t f l o.index ≡ true) at (index-there t f i shaped o there))
      where
        at : o.loc ≡ Virtual s.range
        at = range-is s.range o.loc own

        there : Member o (registers i.operands)
        there = subst (λ os. Member o (registers os)) (sym are) first

        go : (q : Option ClassId) → class_of f s.range ≡ q → is_some q ≡ true → elim q as (λ q. Bool) [ None ↦ true | Some k ↦ fits t k o.index ] ≡ true → IsInForm t g (store t place (undef_use t place) (in_own_slot s o.index))
        go None d c e = absurd (cc)
        go (Some c) d n e =
            let p = part-class t c o.index (classes s.range c d) e in
            let k = p.class in
            let r = first_of (domain t (Some k)) in
            let held = unreserved-there k p.known in
            let is : place ≡ Some k = ap (option_and_then (λ b. part_of t b o.index)) d ∙ p.is in
            subst (λ b. IsInForm t g (store t b (undef_use t b) (in_own_slot s o.index))) (sym is)
            (store-good t g k (Fixed r) None true (record { known = p.known; class = refl; index = refl; lies = held }) (in_own_slot s o.index) (own-slot s o.index)
            (own-long (undef_use t (Some k)) o.index (λ y g. sym (ap length (class-alike t k r held) ∙ (ap length (sym (lying-widths t c k o.index (classes s.range c d) p.lies)) ∙ part-long c o.index y g)))))
          where
            part-long : (c : ClassId) (x : Option IndexId) (y : IndexId) → x ≡ Some y → length (through_index t c x) ≡ length (lanes_of t y)
            part-long c x y g = ap (λ z. length (through_index t c z)) g ∙ length-map (lanes_of t y) (slice_index (widths_of t c))

-- laws

pub moves_keep_rules : MovesKeepRules
moves_keep_rules t g k l x undef n lanes w fits long load =
    let slot : IsSlot (operands.Stack n ∷ lanes ∷ []) = record { number = n; lanes = lanes; is = refl; fits = fits } in
    (store-good t g k l x undef w (operands.Stack n ∷ lanes ∷ []) slot long, reload-good t g k l x w (operands.Stack n ∷ lanes ∷ []) slot load)

pub copies_keep_rules : CopiesKeepRules
copies_keep_rules s g stay classes i d o shaped known are = (from-range s g stay classes i shaped d o known are, to-range s g stay classes i shaped d o known are)

pub undefined_keep_rules : UndefinedKeepRules
undefined_keep_rules s g stay classes i o shaped are own = undefined-stored s g stay classes i shaped o are own
