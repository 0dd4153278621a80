-- A constant for the range with a tiny in the range's place.
use Rattle.std.proofs.Common.{◌≡◌, ◌∷◌, ◌∙◌, ◌&&◌, ◌≤◌, not, ℕ, Bool, true, false, List, Some, None, length, map, refl, sym, ap, subst, arith, []}
use Rattle.std.proofs.lemmas.List.{length-map}
use Rattle.target_base.specs.declared.types.ClassId.{ClassId}
use Rattle.target_base.specs.declared.types.Target.{Target}
use Rattle.target_base.specs.Registers.{IsClass}
use Rattle.target_base.proofs.Tests.{first_of_both}
use Rattle.meaning.specs.Code.{Code, Silent}
use Rattle.meaning.specs.Lanes.{Writes, settled, through}
use Rattle.meaning.specs.Live.{Among as Member, here as first, LiveAfter, after_next}
use Rattle.meaning.specs.declared.types.Lane.{Lane}
use Rattle.meaning.specs.declared.types.Lane.TheVariants.{VirtualLane}
use Rattle.meaning.specs.declared.types.Source.{Source}
use Rattle.meaning.specs.declared.types.Source.TheVariants.{FromLane}
use Rattle.mir_func.specs.declared.func.Loc.TheVariants.{Virtual}
use Rattle.mir_func.specs.declared.func.RegOp.{RegOp}
use Rattle.mir_func.specs.declared.func.Operand.{Operand}
use Rattle.mir_func.specs.declared.func.Operand.TheVariants as operands
use Rattle.mir_func.specs.declared.func.Instr.{Instr}
use Rattle.mir_func.specs.declared.func.Block.{Block}
use Rattle.mir_func.specs.Value.{Function}
use Rattle.mir_func.specs.Binding.{class_of, does, is_early_clobber, registers, roles_of}
use Rattle.mir_meaning.specs.Codes.{item_of}
use Rattle.mir_meaning.specs.Items.{moved}
use Rattle.mir_meaning.specs.Points.{AtFirst}
use Rattle.mir_meaning.specs.Registers.{is_reserved, numbers, range_widths}
use Rattle.lowering_laws.proofs.Traced.{filled-free, is_lane_of, lanes_by, moved-apart}
use Rattle.lowering_laws.specs.Form.{is_undef_definition}
use Rattle.spiller.specs.Rematerialised.{is_constant}
use Rattle.spiller.specs.Setting.{Spilling, in_own_slot, is_live_behind, is_own, own_lanes, plain_use, store}
use Rattle.spiller.specs.Spilled.{as_tiny}
use Rattle.spill_laws.specs.Standing.{IsAt, IsBeside, IsSetting, IsSite, PlaceStands, code_before, slot_lane}
use Rattle.spill_laws.specs.Seats.{ConstantSeatsStand}
use Rattle.spill_laws.proofs.Chains.{old-apart, tiny_lanes}
use Rattle.spill_laws.proofs.Constants.{ConstantOperands, const_sources, constant-item, constant-operands, given-is, sources-constant, sources-long}
use Rattle.spill_laws.proofs.CopyPlaces.{none-of}
use Rattle.spill_laws.proofs.SlotPlaces.{definition-place, pass-place, source-stays, width}
use Rattle.spill_laws.proofs.SlotWrites.{early-through, of-one, store_writes}
use Rattle.spill_laws.proofs.SpillItems.{own-lanes-are, own-widths-are, store-effect, store-item}
use Rattle.spill_laws.proofs.TinyApart.{none-before}

module _ (s : Spilling) (g : Function) (b c : Block) (i : Instr) (p : Code) (d : RegOp) (rest : List Operand) (r : ℕ) (k : ClassId) (z : IsSetting s g) (at : IsAt s b i p) (constant : does is_constant s.target i ≡ true) (are : i.operands ≡ operands.Reg d ∷ rest) (own : is_own s d ≡ true)
    (further : length s.func.classes ≤ r) (class : class_of g r ≡ Some k) (known : IsClass s.target k) (wide : range_widths s.target g r ≡ map (width s) (own_lanes s d.index)) where
  abbrev t : Target
  t = s.target

  abbrev f : Function
  f = s.func

  abbrev ks : List ℕ
  ks = own_lanes s d.index

  abbrev early : Bool
  early = is_early_clobber (roles_of s.target i)

  abbrev new : Instr
  new = record i { operands = operands.Reg (as_tiny d r) ∷ rest }

  parts : ConstantOperands i.operands
  parts = constant-operands t f i at.shaped.operands constant

  gives : List Source
  gives = const_sources parts.operand (map (width s) (own_lanes s d.index))

  abbrev given : Writes
  given = moved early (lanes_by s.range ks) gives

  same-definition : parts.definition ≡ d
  same-definition = head parts.definition d (parts.operand ∷ []) rest (sym parts.are ∙ are)
    where
      head : (x y : RegOp) (xs ys : List Operand) → operands.Reg x ∷ xs ≡ operands.Reg y ∷ ys → x ≡ y
      head x y xs ys e = cc

  same-rest : rest ≡ parts.operand ∷ []
  same-rest = tail parts.definition d (parts.operand ∷ []) rest (sym parts.are ∙ are)
    where
      tail : (x y : RegOp) (xs ys : List Operand) → operands.Reg x ∷ xs ≡ operands.Reg y ∷ ys → ys ≡ xs
      tail x y xs ys e = cc

  defines : d.def ≡ true
  defines = ap (λ (o : RegOp). o.def) (sym same-definition) ∙ first_of_both parts.definition.def (not parts.definition.implicit) parts.defines

  first-item : item_of t f b i ≡ Silent [] given
  unfolding gives
  first-item =
      let plain : (d.def && d.undef) ≡ false = none-of is_undef_definition d (registers i.operands) (none-before t i at.lowered) (subst (λ os. Member d (registers os)) (sym are) first) in
      constant-item t f b i constant
      ∙ (ap (λ ws. Silent [] ws) (given-is t f early i.operands d parts.operand (are ∙ ap (λ os. operands.Reg d ∷ os) same-rest) plain)
      ∙ (λ j. Silent [] (moved early (own-lanes-are s d own j) (const_sources parts.operand (own-widths-are s d own j)))))

  tiny-are : lanes_by r (numbers 0 (length (range_widths t g r))) ≡ tiny_lanes r 0 (length ks)
  tiny-are = ap (λ n. lanes_by r (numbers 0 n)) (ap length wide ∙ length-map ks (width s))

  second-item : item_of t g c new ≡ Silent [] (moved early (tiny_lanes r 0 (length ks)) gives)
  unfolding gives
  second-item =
      constant-item t g c new constant
      ∙ (ap (λ ws. Silent [] ws) (given-is t g early new.operands (as_tiny d r) parts.operand (ap (λ os. operands.Reg (as_tiny d r) ∷ os) same-rest) (λ j. defines j && (not (defines j) && d.undef)))
      ∙ (λ j. Silent [] (moved early (tiny-are j) (const_sources parts.operand (wide j)))))

  long : length ks ≤ length gives
  unfolding gives
  long = let a = sources-long parts.operand (map (width s) ks) parts.always in let e = length-map ks (width s) in omega (arith, a, e)

  none-lanes : (a : Lane) → Member (FromLane a) gives → IsBeside s a
  unfolding gives
  none-lanes a m = absurd (sources-constant parts.operand (map (width s) ks) (FromLane a) m)

  site : IsSite s i.id (Silent [] given) p
  site = subst (λ y. IsSite s i.id y p) first-item at.site

  pub stored-stands : PlaceStands s (item_of t f b i ∷ []) (item_of t g c new ∷ item_of t g c (store t (Some k) (plain_use (Virtual r) None) (in_own_slot s d.index)) ∷ []) p
  stored-stands =
      let w = store t (Some k) (plain_use (Virtual r) None) (in_own_slot s d.index) in
      let third : item_of t g c w ≡ Silent [] (store_writes s.slot (width s) t ks (map FromLane (tiny_lanes r 0 (length ks)))) =
      store-item s g c w (plain_use (Virtual r) None) d.index refl wide (store-effect t k known (plain_use (Virtual r) None) (in_own_slot s d.index)) ∙ ap (λ l. Silent [] (store_writes s.slot (width s) t ks (map FromLane l))) tiny-are in
      subst (λ y. PlaceStands s (y ∷ []) (item_of t g c new ∷ item_of t g c w ∷ []) p) (sym first-item)
      (subst (λ y. PlaceStands s (Silent [] given ∷ []) (y ∷ item_of t g c w ∷ []) p) (sym second-item)
      (subst (λ y. PlaceStands s (Silent [] given ∷ []) (Silent [] (moved early (tiny_lanes r 0 (length ks)) gives) ∷ y ∷ []) p) (sym third)
      (pass-place s i.id early ks gives p long site r further gives long early (λ j e l q. source-stays s i.id early ks gives p long site j e l none-lanes))))

  pub unstored-stands : is_live_behind s i d.index ≡ false → PlaceStands s (item_of t f b i ∷ []) (item_of t g c new ∷ []) p
  unstored-stands dead =
      let loads = moved early (tiny_lanes r 0 (length ks)) gives in
      subst (λ y. PlaceStands s (y ∷ []) (item_of t g c new ∷ []) p) (sym first-item)
      (subst (λ y. PlaceStands s (Silent [] given ∷ []) (y ∷ []) p) (sym second-item)
      (definition-place s i.id early ks gives p long site (loads ∷ []) (record {
        others = λ a e n. past a (old-apart (length f.classes) r a further e.old);
        free = λ j e. past (slot_lane s j) refl;
        given = λ j e l q. absurd (
            let x : s.facts.live_behind i.id j ≡ true = (z.facts.live (i.id, j)).1 (subst (AtFirst (λ y u. LiveAfter (is_reserved t) (code_before s) y u (VirtualLane s.range j))) (sym site.from) (after_next refl l)) in
            let y : s.facts.live_behind i.id j ≡ false = none-of (s.facts.live_behind i.id) j ks dead (of-one ks j e) in
            cc);
      })))
    where
      past : (a : Lane) → is_lane_of r a ≡ false → settled (through (moved early (tiny_lanes r 0 (length ks)) gives) (FromLane a)) ≡ FromLane a
      past a e = ap settled (early-through early (tiny_lanes r 0 (length ks)) gives (FromLane a) ∙ filled-free (moved false (tiny_lanes r 0 (length ks)) gives) a (moved-apart r (numbers 0 (length ks)) gives a e))

pub constant_seats_stand : ConstantSeatsStand
constant_seats_stand s g b c i p d rest r k z at constant are own further class known wide = (
  (λ live. stored-stands s g b c i p d rest r k z at constant are own further class known wide),
  (λ dead. unstored-stands s g b c i p d rest r k z at constant are own further class known wide dead),
)
