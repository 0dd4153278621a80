-- Copies within the range, and stores and reloads of it: lanes go from slot to slot through a further register, or nothing stands there.
use Rattle.std.proofs.Common.{◌≡◌, ◌≤◌, ◌⊎◌, inl, inr, ◌∷◌, ◌∙◌, ℕ, Bool, true, false, cond, List, Option, Some, None, length, map, refl, sym, ap, subst, arith, []}
use Rattle.std.proofs.lemmas.List.{length-map}
use Rattle.target_base.specs.declared.types.Effect.TheVariants as effects
use Rattle.target_base.specs.declared.types.IndexId.{IndexId}
use Rattle.target_base.specs.declared.types.Target.{Target}
use Rattle.target_base.specs.Registers.{widths_of_some}
use Rattle.target_base.specs.Rules.{is_phi}
use Rattle.meaning.specs.Code.{Code, Item, Silent}
use Rattle.meaning.specs.Lanes.{Writes, filled}
use Rattle.meaning.specs.Live.{Among as Member, here as first, there as later, Writing, after_next, is_slot, next}
use Rattle.meaning.specs.declared.types.Fill.TheVariants.{Moved}
use Rattle.meaning.specs.declared.types.Lane.{Lane}
use Rattle.meaning.specs.declared.types.Lane.TheVariants.{SlotLane, VirtualLane}
use Rattle.meaning.specs.declared.types.Source.TheVariants.{FromLane}
use Rattle.mir_func.specs.declared.func.Loc.TheVariants.{Virtual}
use Rattle.mir_func.specs.declared.func.RegOp.{RegOp}
use Rattle.mir_func.specs.declared.func.Operand.TheVariants as operands
use Rattle.mir_func.specs.declared.func.Instr.{Instr}
use Rattle.mir_func.specs.declared.func.Block.{Block}
use Rattle.mir_func.specs.Value.{Function}
use Rattle.mir_func.specs.Binding.{class_of, effect_of, is_early_clobber, passes, registers, roles_of}
use Rattle.mir_meaning.specs.Codes.{item_of}
use Rattle.mir_meaning.specs.Items.{moved}
use Rattle.mir_meaning.specs.Registers.{is_reserved, located_lanes, located_widths, numbers}
use Rattle.instr_effects.proofs.Members.{map-of}
use Rattle.live_laws.proofs.Effects.Shapes.{class-there, index-there}
use Rattle.lowering_laws.proofs.Traced.{filled-free, is_one, lanes_by}
use Rattle.spiller.specs.Reaching.{Reads}
use Rattle.spiller.specs.Rematerialised.{Never, copy_reading, copy_wish, if_serves, if_whole, reaching, repeatable_class, repeated_for, serves}
use Rattle.spiller.specs.Setting.{Spilling, in_own_slot, is_own, moving_class, own_lanes, plain_definition, plain_use, reload, store}
use Rattle.spiller.specs.Spilled.{in_place_of, spilled}
use Rattle.split_laws.proofs.Splitting.{as-item}
use Rattle.spill_laws.specs.Seats.{source_at}
use Rattle.spill_laws.specs.Standing.{IsAt, IsSetting, IsSite, IsStored, code_before, slot_lane}
use Rattle.spill_laws.proofs.Chains.{pair-at, self-source, tiny_lanes}
use Rattle.spill_laws.proofs.CopyPlaces.{class-d, from-item, known-reading, wide}
use Rattle.spill_laws.proofs.Reached.{reading-stored}
use Rattle.spill_laws.proofs.SlotPlaces.{home, width}
use Rattle.spill_laws.proofs.SlotWrites.{moved-lane, not-written, of-one, one-of, range-given, range-written, store_writes, write-of}
use Rattle.spill_laws.proofs.SpillItems.{OwnMove, own-at, own-lanes-are, own-move, own-widths-are, reload-effect, reload-item, store-effect, store-item}
use Rattle.clear_laws.proofs.Passed.{passed-kept}
use Rattle.clear_laws.proofs.Replaced.{gone-kept}
use Rattle.clear_laws.proofs.PassForms.{definition-passing}
use Rattle.clear_laws.proofs.SilentForms.{KeptHere, LiveHere, MayHere, from-own, gone-may, not-fine, range-number}
use Rattle.clear_laws.proofs.SilentPlaces.{KeptAs, own-wide, same-id}
use Rattle.clear_laws.proofs.SpillPoints.{is-stored, is-wide}

source-lane : (a b : Lane) → FromLane a ≡ FromLane b → a ≡ b
source-lane a b e = cc

module _ (s : Spilling) (z : IsSetting s (spilled s)) (b c : Block) (i : Instr) (p : Code) (at : IsAt s b i p) (phi : passes is_phi (effect_of s.target i) ≡ false) where
  abbrev t : Target
  t = s.target

  abbrev f : Function
  f = s.func

  abbrev g : Function
  g = spilled s

  -- an instruction that goes
  pub goes-kept : (x : Item) → item_of t f b i ≡ x → ((l : Lane) → MayHere s p l → MayHere s (x ∷ p) l) → KeptAs s z b c i p at phi []
  goes-kept x is h = gone-kept t f g s.range s.slot (is-wide s) (is-stored s) b c i p (λ l m. subst (λ y. MayHere s (y ∷ p) l) (sym (as-item t f b i phi ∙ is)) (h l m))

  module _ (d o : RegOp) (known : effect_of t i ≡ Some effects.Copy) (are : i.operands ≡ operands.Reg d ∷ operands.Reg o ∷ []) (own : is_own s d ≡ true) (from : is_own s o ≡ true) where
    named : (x : RegOp) → Member x (d ∷ o ∷ []) → Member x (registers i.operands)
    named x m = subst (λ os. Member x (registers os)) (sym are) m

    abbrev ds : List ℕ
    ds = own_lanes s d.index

    abbrev os : List ℕ
    os = own_lanes s o.index

    abbrev given : Writes
    given = moved false (lanes_by s.range ds) (map (from-own s) os)

    within-item : item_of t f b i ≡ Silent [] given
    within-item = from-item s g z b c i p at d o known are from ∙ ap (λ ls. Silent [] (moved false ls (map (from-own s) os))) (own-lanes-are s d own)

    site : IsSite s i.id (Silent [] given) p
    site = subst (λ x. IsSite s i.id x p) within-item at.site

    as-many : length ds ≡ length os
    as-many =
        sym (length-map ds (width s)) ∙ (ap length (sym (own-widths-are s d own) ∙ (wide s g z b c i p at d o known are ∙ own-widths-are s o from)) ∙ length-map os (width s))

    long : length ds ≤ length (map (from-own s) os)
    long = let a = length-map os (from-own s) in let e = as-many in omega (arith, a, e)

    -- nothing is repeated for it
    unrepeated : repeated_for s (copy_reading s i d o) ≡ None
    unrepeated = never (reaching s (copy_reading s i d o)) (wish-is o.index)
      where
        wish-is : (x : Option IndexId) → if_whole x (copy_wish d.loc) ≡ Never
        wish-is None = ap copy_wish (own-at s.range d.loc own)
        wish-is (Some y) = refl

        never : (es : List Instr) → if_whole o.index (copy_wish d.loc) ≡ Never → if_serves t (if_whole o.index (copy_wish d.loc)) es ≡ None
        never [] w = refl
        never (e ∷ []) w = ap (λ q. cond (serves t q (repeatable_class t e)) (Some e) None) w
        never (e ∷ u ∷ es) w = refl

    written : (k : ℕ) → is_one ds k ≡ true → Writing (Silent [] given) (VirtualLane s.range k)
    written k e = write-of given (VirtualLane s.range k) (range-written s.range false ds (map (from-own s) os) k long e)

    unwritten-own : (k : ℕ) → is_one ds k ≡ false → Writing (Silent [] given) (VirtualLane s.range k) → ⊥
    unwritten-own k e w =
        let y = map-of (VirtualLane s.range) w.0.lane ds (moved-lane false (lanes_by s.range ds) (map (from-own s) os) w.0 w.1) in
        let q : is_one ds k ≡ true = subst (λ j. is_one ds j ≡ true) (range-number s.range y.0 k (sym y.2 ∙ w.2)) (one-of ds y.0 y.1) in
        cc

    else-free : (a : Lane) → ((k : ℕ) → a ≡ VirtualLane s.range k → ⊥) → filled given a ≡ Moved (FromLane a)
    else-free a h = filled-free given a (not-written given a (λ w m e. let y = map-of (VirtualLane s.range) w.lane ds (moved-lane false (lanes_by s.range ds) (map (from-own s) os) w m) in h y.0 (sym e ∙ y.2)))

    -- the lane that is read is live before, and stored
    read-before : (k j : ℕ) → is_one ds k ≡ true → Member j os → source_at ds (map (from-own s) os) k ≡ from-own s j → LiveHere s p (VirtualLane s.range k) → LiveHere s (Silent [] given ∷ p) (VirtualLane s.range j) × IsStored s j (Silent [] given ∷ p)
    read-before k j e m h live =
        let fill : filled given (VirtualLane s.range k) ≡ Moved (from-own s j) = range-given s.range false ds (map (from-own s) os) k long e ∙ ap Moved h in
        let reads : Reads (is_reserved t) (code_before s) (VirtualLane s.range j) (Silent [] given) p = inr (VirtualLane s.range k, inl (written k e), inl fill, inl (after_next refl live)) in
        (next refl live fill refl, reading-stored s z.facts i (Silent [] given) p (at.site.from ∙ ap (λ x. x ∷ p) within-item) j reads (copy_reading s i d o) first m (known-reading s g z b c i p at d o known are from) unrepeated)

    pub vanished-kept : ds ≡ os → KeptAs s z b c i p at phi []
    vanished-kept same = goes-kept (Silent [] given) within-item (gone-may s given p (λ a fine n. else-free a (λ k e. not-fine s a k e fine)) (λ k. by k (is_one ds k) refl) (λ k w. inl (else-free (SlotLane s.slot k w) (λ j e. (cc)))))
      where
        by : (k : ℕ) (x : Bool) → is_one ds k ≡ x → (Writing (Silent [] given) (VirtualLane s.range k) → ⊥) ⊎ (LiveHere s p (VirtualLane s.range k) → IsStored s k p → KeptHere s (Silent [] given ∷ p) k)
        by k false e = inl (unwritten-own k e)
        by k true e =
            inr (λ live st. inr (read-before k k e (subst (Member k) same (of-one ds k e)) (ap (λ ks. source_at ds (map (from-own s) ks) k) (sym same) ∙ self-source (from-own s) ds k e) live))

    module _ (n r : ℕ) (further : length f.classes ≤ r) (class : class_of g r ≡ moving_class s d.index) where
      m : OwnMove s d.index
      m = own-move s z.classes d.loc d.index own (class-d s g z b c i p at d o known are) (index-there t f i at.shaped d (named d first))

      mo : OwnMove s o.index
      mo = own-move s z.classes o.loc o.index from (class-there t f i at.shaped o (named o (later first))) (index-there t f i at.shaped o (named o (later first)))

      wide-tiny : located_widths t g (Virtual r) None ≡ map (width s) ds
      wide-tiny = ap (widths_of_some t) (class ∙ m.is) ∙ m.wide

      wide-from : located_widths t g (Virtual r) None ≡ map (width s) os
      wide-from = wide-tiny ∙ (sym (own-widths-are s d own) ∙ (wide s g z b c i p at d o known are ∙ own-widths-are s o from))

      tiny-are : located_lanes t g (Virtual r) None ≡ tiny_lanes r 0 (length ds)
      tiny-are = ap (λ k. lanes_by r (numbers 0 k)) (ap length wide-tiny ∙ length-map ds (width s))

      abbrev load : Instr
      load = in_place_of i (reload t (moving_class s d.index) (plain_definition (Virtual r) None) (in_own_slot s o.index))

      abbrev save : Instr
      save = store t (moving_class s d.index) (plain_use (Virtual r) None) (in_own_slot s d.index)

      pub within-kept : KeptAs s z b c i p at phi (load ∷ record save { id = n } ∷ [])
      within-kept =
          let known-y : effect_of t load ≡ Some effects.Reload = ap (λ q. effect_of t (reload t q (plain_definition (Virtual r) None) (in_own_slot s o.index))) m.is ∙ reload-effect t m.class m.known (plain_definition (Virtual r) None) (in_own_slot s o.index) in
          let known-w : effect_of t save ≡ Some effects.Spill = ap (λ q. effect_of t (store t q (plain_use (Virtual r) None) (in_own_slot s d.index))) m.is ∙ store-effect t m.class m.known (plain_use (Virtual r) None) (in_own_slot s d.index) in
          let soon = is_early_clobber (roles_of t load) in
          let rs = moved soon (tiny_lanes r 0 (length ds)) (map (home s) os) in
          let gs = store_writes s.slot (width s) t ds (map FromLane (tiny_lanes r 0 (length ds))) in
          let first-is : item_of t g c load ≡ Silent [] rs = reload-item s g c load (plain_definition (Virtual r) None) o.index refl wide-from known-y refl ∙ ap (λ l. Silent [] (moved soon l (map (home s) os))) tiny-are in
          let second-is : item_of t g c save ≡ Silent [] gs = store-item s g c save (plain_use (Virtual r) None) d.index refl wide-tiny known-w ∙ ap (λ l. Silent [] (store_writes s.slot (width s) t ds (map FromLane l))) tiny-are in
          passed-kept t f g s.range s.slot (is-wide s) (is-stored s) given rs gs p
          (definition-passing s i.id false soon r ds (map (from-own s) os) (map (home s) os) p further long (let a = length-map os (home s) in let e = as-many in omega (arith, a, e)) site
          (λ l q. let y = map-of (home s) (FromLane l) os q in ap is_slot (source-lane l (slot_lane s y.0) y.2)) gives)
          b c i load (record save { id = n }) (as-item t f b i phi ∙ within-item) (as-item t g c load (ap (passes is_phi) known-y) ∙ first-is) (as-item t g c (record save { id = n }) (ap (passes is_phi) known-w) ∙ (same-id t g c n save ∙ second-is)) site.from
        where
          gives : (k : ℕ) (l : Lane) → is_one ds k ≡ true → source_at ds (map (home s) os) k ≡ FromLane l → LiveHere s p (VirtualLane s.range k) → IsStored s k p → MayHere s (Silent [] given ∷ p) l
          gives k l e h live st =
              let y = pair-at (from-own s) (home s) ds os k (let q = as-many in omega (arith, q)) e in
              let is : l ≡ slot_lane s y.number = source-lane l (slot_lane s y.number) (sym h ∙ y.second) in
              inr (record { k = y.number; w = width s y.number; is = is; fits = own-wide s o.index mo y.number y.among; from = inr (read-before k y.number e y.among y.first live) })
