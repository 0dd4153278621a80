-- A counted instruction that is no terminator stands with its tinies.
use Rattle.std.proofs.Common.{◌≡◌, ◌∷◌, ◌++◌, ◌∙◌, ◌&&◌, ◌+◌, ◌<◌, not, ℕ, suc, Bool, true, false, cond, List, Option, Some, None, length, map, refl, sym, ap, subst, arith, []}
use Rattle.std.proofs.lemmas.Bool.{ltb-false, ltb-true}
use Rattle.std.specs.Prelude.{filter, is_none, nat_lt, option_and_then, option_map}
use Rattle.target_base.specs.declared.types.Effect.{Effect}
use Rattle.target_base.specs.declared.types.Effect.TheVariants as effects
use Rattle.target_base.specs.declared.types.Role.{Role}
use Rattle.target_base.specs.declared.types.Target.{Target}
use Rattle.target_base.specs.Roles.{is_silent}
use Rattle.target_base.proofs.Tests.{first_of_both}
use Rattle.meaning.specs.Code.{Code, Counted, Edge, Item, Silent}
use Rattle.meaning.specs.Layout.{NoPhisAlong, NoPhisInto}
use Rattle.meaning.specs.Live.{Among as Member, here as first, there as later, LiveAfter, Writing, after_next, writes_of}
use Rattle.meaning.specs.declared.types.Lane.{Lane}
use Rattle.meaning.specs.declared.types.Lane.TheVariants.{VirtualLane}
use Rattle.meaning.specs.declared.types.Write.{Write}
use Rattle.mir_func.specs.declared.func.Loc.{Loc}
use Rattle.mir_func.specs.declared.func.Loc.TheVariants.{Fixed, Virtual}
use Rattle.mir_func.specs.declared.func.RegOp.{RegOp}
use Rattle.mir_func.specs.declared.func.Operand.{Operand}
use Rattle.mir_func.specs.declared.func.Operand.TheVariants as operands
use Rattle.mir_func.specs.declared.func.Instr.{Instr}
use Rattle.mir_func.specs.declared.func.Block.{Block}
use Rattle.mir_func.specs.Value.{Function}
use Rattle.mir_func.specs.Binding.{Bound, Definition, definitions, does, effect_of, explicit_bound, explicit_roles, implicit_registers, is_definition, is_early_clobber, is_terminator, is_virtual, numbered, passes, puts_together, registers, roles_of, takes_many, tied_number}
use Rattle.mir_meaning.specs.Codes.{item_of, target_of, way, ways_out}
use Rattle.mir_meaning.specs.Items.{Value, computed, counted_writes, further_writes, rest_of, result_writes, results, silent_reads, silent_writes, undefined, values}
use Rattle.mir_meaning.specs.Points.{AtFirst}
use Rattle.mir_meaning.specs.Registers.{is_reserved, operand_lanes, undefined_lanes}
use Rattle.mir_meaning.specs.Renaming.{IsFixed}
use Rattle.mir_meaning.specs.Rules.{defined_lanes, is_free_undef, is_opaque}
use Rattle.instr_effects.proofs.Members.{filter-in, left-in, map-in, member-elim, member-none, right-in}
use Rattle.live_laws.proofs.Effects.Lists.{all-of, any-in}
use Rattle.live_laws.proofs.Effects.Shapes.{class-there, lanes-there}
use Rattle.live_laws.proofs.Touch.Roles.{fit, has_roles, met}
use Rattle.lowering_laws.specs.Form.{is_undef_definition}
use Rattle.lowering_laws.proofs.Classes.{AreNamed}
use Rattle.lowering_laws.proofs.Lowering.{map-append}
use Rattle.lowering_laws.proofs.Seated.{register-in, register-there}
use Rattle.lowering_laws.proofs.SharedLanes.{apart-lanes, to-places}
use Rattle.lowering_laws.proofs.Traced.{silents}
use Rattle.spiller.specs.Setting.{Spilling, is_live_behind, is_own, own_lanes}
use Rattle.spiller.specs.Rematerialised.{ways_read}
use Rattle.spiller.specs.Spilled.{OwnDefinition, Seats, as_tiny, definitions_in, numbered_operands, place_change, seated, seated_operand, seats_from, tiny_defined, tiny_of, tiny_read, tiny_used, with_tinies}
use Rattle.spill_laws.specs.Laws.{HasTinies}
use Rattle.spill_laws.specs.Standing.{ChangeStands, IsInside, IsSite, LiveIn, PlaceStands, code_before, code_from}
use Rattle.spill_laws.specs.Seats.{IsCountedInstr, IsSeating, Load, Save, Seat, Seated, counted_item, load_writes, save_writes}
use Rattle.spill_laws.specs.TinyPlaces.{GetsTinies}
use Rattle.spill_laws.proofs.CopyPlaces.{none-of}
use Rattle.spill_laws.proofs.InForm.{place-in}
use Rattle.spill_laws.proofs.ItemsStay.{item-stays}
use Rattle.spill_laws.proofs.OwnOperands.{at-number, defined-site, definition-once, definition-sized, explicit, in-bound, own-wide, site-of, tied-to}
use Rattle.spill_laws.proofs.PlaceReadings.{gives, item-is, place_loads, read-load}
use Rattle.spill_laws.proofs.SeatedPlaces.{counted_seats_stand, definition-in-all}
use Rattle.spill_laws.proofs.SeatLoads.{before-items, behind-items, loads-further, loads-once, loads-plain, save-alone, save-from, save-in, save_of, saves-further, saves_of}
use Rattle.spill_laws.proofs.SlotPlaces.{width}
use Rattle.spill_laws.proofs.SpillItems.{item-known, own-lanes-are}
use Rattle.spill_laws.proofs.TinyApart.{none-before, old-definitions}
use Rattle.spill_laws.proofs.TinyRules.{Now, from-operand, new, operand-there, rolled, same}
use Rattle.spill_laws.proofs.TinySeats.{low-number}
use Rattle.spill_laws.proofs.Touched.{range-virtual}
use Rattle.spill_laws.proofs.Turned.{others-stay}

pub fixed-of : (l : Loc) → not (is_virtual l) ≡ true → IsFixed l
fixed-of (Virtual v) e = absurd (cc)
fixed-of (Fixed r) e = tt

pub no-parts : (e : Effect) → has_roles e ≡ true → puts_together e ≡ false
no-parts effects.RegSequence h = absurd (cc)
no-parts effects.InsertSubreg h = absurd (cc)
no-parts e h = refl

-- what definitions write

module _ (t : Target) (f : Function) where
  computed-write : (early : Bool) (m : ℕ) (ls : List Lane) (a : Lane) → Member a ls → (w : Write) × Member w (computed early m ls) × (w.lane ≡ a)
  computed-write early m [] a ma = absurd (member-none a ma)
  computed-write early m (l ∷ ls) a ma = member-elim a l ls (λ e. (_, first, sym e)) (λ k. let v = computed-write early (suc m) ls a k in (v.0, later v.1, v.2)) ma

  results-write : (m : ℕ) (ds : List Definition) (d : Definition) → Member d ds → (a : Lane) → Member a (operand_lanes t f d.1) → (w : Write) × Member w (results t f m ds) × (w.lane ≡ a)
  results-write m [] d md a ma = absurd (member-none d md)
  results-write m (x ∷ ds) d md a ma =
      let rest = results t f (m + length (operand_lanes t f x.1)) ds in
      member-elim d x ds
      (λ e.
      let v = computed-write x.0 m (operand_lanes t f x.1) a (subst (λ (y : Definition). Member a (operand_lanes t f y.1)) e ma) in
      (v.0, left-in v.0 (result_writes t f x.0 m x.1) rest (left-in v.0 (computed x.0 m (operand_lanes t f x.1)) (undefined x.0 (undefined_lanes t f x.1)) v.1), v.2))
      (λ k. let v = results-write (m + length (operand_lanes t f x.1)) ds d k a ma in (v.0, right-in v.0 (result_writes t f x.0 m x.1) rest v.1, v.2)) md

module _ (s : Spilling) (g : Function) (b c : Block) (i : Instr) (p : Code) (n : ℕ) (gt : GetsTinies s g b c (i ∷ []) p n) (goes : does is_terminator s.target i ≡ false) (counting : does is_silent s.target i ≡ false) where
  abbrev t : Target
  t = s.target

  abbrev f : Function
  f = s.func

  abbrev h : HasTinies s g n (i ∷ [])
  h = gt.tinies

  abbrev z : Seats
  z = seats_from s n (i ∷ [])

  abbrev X : Item
  X = item_of t f b i

  abbrev e : Effect
  e = (rolled s g n (i ∷ []) h i first).effect

  known : effect_of t i ≡ Some e
  known = (rolled s g n (i ∷ []) h i first).known

  has-roles : has_roles e ≡ true
  has-roles = (rolled s g n (i ∷ []) h i first).rolled

  counts : is_silent e ≡ false
  counts = sym (ap (passes is_silent) known) ∙ counting

  goes-on : is_terminator e ≡ false
  goes-on = sym (ap (passes is_terminator) known) ∙ goes

  site : IsSite s i.id X p
  site = gt.at.0

  from : code_from s i.id ≡ X ∷ p
  from = site.from

  abbrev loads : List Load
  loads = place_loads s g b c (i ∷ []) p n gt

  abbrev saves : List Save
  saves = saves_of s g c n (i ∷ []) z.definitions

  abbrev ways : ℕ
  ways = n + length (ways_read s (i ∷ []))

  -- the definitions that are stored

  record IsSaved (y : Save) : Type 0 where
    pub of : ℕ × OwnDefinition
    pub inside : Member of z.definitions
    pub is : y ≡ save_of s g c n (i ∷ []) of
    pub role : Option Role
    pub operand : RegOp
    pub among : Member (of.1.number, (role, operands.Reg operand)) (numbered_operands t i)
    pub own : is_own s operand ≡ true
    pub def : operand.def ≡ true
    pub lanes : y.lanes ≡ own_lanes s operand.index

  is-saved : (y : Save) → Member y saves → IsSaved y
  is-saved y m =
      let w = save-from s g c n (i ∷ []) z.definitions y m in
      let v = site-of s g n (i ∷ []) h w.0 w.1 in
      let d = v.defines in
      let here : v.instr ≡ i = member-elim v.instr i [] (λ q. q) (λ k. absurd (member-none v.instr k)) v.inside in
      record {
        of = w.0;
        inside = w.1;
        is = w.2;
        role = d.role;
        operand = d.operand;
        among = subst (λ j. Member (w.0.1.number, (d.role, operands.Reg d.operand)) (numbered_operands t j)) here d.among;
        own = d.own;
        def = d.def;
        lanes = ap (λ (q : Save). q.lanes) w.2 ∙ ap (own_lanes s) d.index;
      }

  opaque : Bool
  opaque = does is_opaque s.target i

  in-defined : (b : Bool) (o : RegOp) → Member o (registers i.operands) → is_own s o ≡ true → (k : ℕ) → Member k (own_lanes s o.index) → Member (VirtualLane s.range k) (defined_lanes t f b o)
  in-defined true o m own k mk =
      subst (λ y. Member (VirtualLane s.range k) (cond y (operand_lanes t f o) [])) (sym (lanes-there t f i (h.shaped i first) o m))
      (subst (Member (VirtualLane s.range k)) (sym (own-lanes-are s o own)) (map-in (VirtualLane s.range) k (own_lanes s o.index) mk))
  in-defined false o m own k mk =
      subst (λ y. Member (VirtualLane s.range k) (cond y (filter (λ l. not (is_reserved t l)) (operand_lanes t f o)) [])) (sym (lanes-there t f i (h.shaped i first) o m))
      (filter-in (λ l. not (is_reserved t l)) (VirtualLane s.range k) (operand_lanes t f o) (subst (Member (VirtualLane s.range k)) (sym (own-lanes-are s o own)) (map-in (VirtualLane s.range) k (own_lanes s o.index) mk)) refl)

  -- two definitions with a lane in common have one number
  apart : (y v : Save) (a : IsSaved y) (d : IsSaved v) → a.of.1.number < d.of.1.number → (k : ℕ) → Member k y.lanes → Member k v.lanes → ⊥
  apart y v a d lt k my mv =
      let at-a = at-number s g n (i ∷ []) h i first a.of.1.number a.role a.operand a.among in
      let at-d = at-number s g n (i ∷ []) h i first d.of.1.number d.role d.operand d.among in
      let there-a = register-in a.operand i.operands (register-there i.operands a.of.1.number a.operand at-a) in
      let there-d = register-in d.operand i.operands (register-there i.operands d.of.1.number d.operand at-d) in
      let o = does is_opaque s.target i in
      let none = to-places (defined_lanes t f o) i.operands (old-definitions s g n (i ∷ []) h i first) a.of.1.number d.of.1.number a.operand d.operand lt at-a at-d a.def d.def in
      apart-lanes (defined_lanes t f o a.operand) (defined_lanes t f o d.operand) none (VirtualLane s.range k)
      (in-defined o a.operand there-a a.own k (subst (Member k) a.lanes my))
      (in-defined o d.operand there-d d.own k (subst (Member k) d.lanes mv))

  saves-once : (y v : Save) (k : ℕ) → Member y saves → Member v saves → Member k y.lanes → Member k v.lanes → y ≡ v
  saves-once y v k my mv ky kv = go (nat_lt a.of.1.number d.of.1.number) refl (nat_lt d.of.1.number a.of.1.number) refl
    where
      a : IsSaved y
      a = is-saved y my

      d : IsSaved v
      d = is-saved v mv

      go : (l : Bool) → nat_lt (is-saved y my).of.1.number (is-saved v mv).of.1.number ≡ l → (m : Bool) → nat_lt (is-saved v mv).of.1.number (is-saved y my).of.1.number ≡ m → y ≡ v
      go true e m q = absurd (apart y v (is-saved y my) (is-saved v mv) (ltb-true (is-saved y my).of.1.number (is-saved v mv).of.1.number e) k ky kv)
      go false e true q = absurd (apart v y (is-saved v mv) (is-saved y my) (ltb-true (is-saved v mv).of.1.number (is-saved y my).of.1.number q) k kv ky)
      go false e false q =
          let u = is-saved y my in
          let w = is-saved v mv in
          let le = ltb-false u.of.1.number w.of.1.number e in
          let ge = ltb-false w.of.1.number u.of.1.number q in
          let number : u.of.1.number ≡ w.of.1.number = omega (arith, le, ge) in
          let one : u.of ≡ w.of = definition-once s i (n + length (ways_read s (i ∷ []))) u.of w.of u.inside w.inside number in
          u.is ∙ (ap (save_of s g c n (i ∷ [])) one ∙ sym w.is)

  defines : (y : Save) (a : IsSaved y) → is_definition a.operand ≡ true
  defines y a = let x = explicit s g n (i ∷ []) h i first a.of.1.number a.role a.operand a.among a.own in λ j. a.def j && not (x j)

  saves-written : (y : Save) (k : ℕ) → Member y saves → Member k y.lanes → Writing X (VirtualLane s.range k)
  saves-written y k m mk =
      let a = is-saved y m in
      let there = operand-there s g n (i ∷ []) h i first a.of.1.number a.role a.operand a.among in
      let d = definition-in-all t i a.operand there (defines y a) in
      let lane : Member (VirtualLane s.range k) (operand_lanes t f a.operand) = subst (Member (VirtualLane s.range k)) (sym (own-lanes-are s a.operand a.own)) (map-in (VirtualLane s.range) k (own_lanes s a.operand.index) (subst (Member k) a.lanes mk)) in
      let w = results-write t f 0 (definitions (roles_of t i) i.operands) (d.0, a.operand) d.1 (VirtualLane s.range k) lane in (
        w.0,
        subst (Member w.0) (sym (ap writes_of (item-is s g b c (i ∷ []) p n gt i first e known counts))) (left-in w.0 (results t f 0 (definitions (roles_of t i) i.operands)) (further_writes t f e i) w.1),
        w.2,
      )

  seating : IsSeating s X i.operands loads saves
  seating = record {
    loads_further = loads-further s g c n (i ∷ []) h (gives s g b c (i ∷ []) p n gt);
    loads_once = loads-once s g c n (i ∷ []) h (gives s g b c (i ∷ []) p n gt);
    loads_plain = loads-plain s g c n (i ∷ []) h (gives s g b c (i ∷ []) p n gt);
    saves_further = saves-further s g c n (i ∷ []) h;
    saves_once = saves-once;
    saves_written = saves-written;
    saves_named = λ y k m mk. let a = is-saved y m in (a.operand, operand-there s g n (i ∷ []) h i first a.of.1.number a.role a.operand a.among, defines y a, a.own, subst (Member k) a.lanes mk);
  }

  -- each operand and what stands in its place

  abbrev in-place : RegOp → Option ℕ → RegOp
  in-place o x = elim x as (λ x. RegOp) [ None ↦ o | Some a ↦ as_tiny o a ]

  seated-as : (k : ℕ) (q : Option Role) (o : RegOp) (x : Option ℕ) → is_own s o ≡ true → tiny_of s z i k q o ≡ x → seated s z i k q o ≡ in-place o x
  seated-as k q o x own e = λ j. cond (own j) (in-place o (e j)) o

  defining-seat : (k : ℕ) (q : Option Role) (o : RegOp) → Member (k, (q, operands.Reg o)) (numbered_operands t i) → is_own s o ≡ true → o.def ≡ true → Seat s g X p loads saves o (seated s z i k q o)
  defining-seat k q o m own def =
      let d = defined-site s g n (i ∷ []) h i first k q o m own def in
      let x : ℕ × OwnDefinition = (d.tiny, d.definition) in
      let size = definition-sized s g n (i ∷ []) h x d.among in
      let low = low-number (n + length (ways_read s (i ∷ []))) (definitions_in s (i ∷ [])) x d.among in
      let further = h.further in
      Seat.defining d.tiny own (explicit s g n (i ∷ []) h i first k q o m own) def (omega (arith, low, further))
      (λ a ma live.
      subst (λ ks. Member (record { tiny = d.tiny; lanes = ks }) saves) (ap (own_lanes s) d.index)
      (save-in s g c n (i ∷ []) z.definitions x d.among ((λ j. is_live_behind s (d.by j) (d.index j)) ∙ any-in (s.facts.live_behind i.id) a (own_lanes s o.index) ma (told a live))))
      (λ y my tiny. save-alone s g c n (i ∷ []) h x d.among y my tiny ∙ ap (own_lanes s) d.index)
      (seated-as k q o (Some d.tiny) own ((λ j. cond (def j) (tiny_defined z i k) (tiny_used s z i q o)) ∙ d.is))
      (size.wide ∙ (ap (λ y. map (width s) (own_lanes s y)) d.index ∙ sym (own-wide s g n (i ∷ []) h i first k q o m own)))
    where
      told : (a : ℕ) → LiveIn s p (VirtualLane s.range a) → s.facts.live_behind i.id a ≡ true
      told a live = (gt.setting.facts.live (i.id, a)).1 (subst (AtFirst (λ y u. LiveAfter (is_reserved t) (code_before s) y u (VirtualLane s.range a))) (sym site.from) (after_next site.order live))

  -- an `undef` use shares the tiny of the definition to which it is tied
  blank-seat : (k : ℕ) (q : Option Role) (o : RegOp) → Member (k, (q, operands.Reg o)) (numbered_operands t i) → is_own s o ≡ true → o.def ≡ false → o.undef ≡ true → Seat s g X p loads saves o (seated s z i k q o)
  blank-seat k q o m own def undef = go (option_and_then tied_number q) refl
    where
      go : (a : Option ℕ) → option_and_then tied_number q ≡ a → Seat s g X p loads saves o (seated s z i k q o)
      go None free =
          let v = range-virtual s.range o.loc own in
          let u : is_free_undef (q, operands.Reg o) ≡ true = λ j. not (def j) && undef j && is_none (free j) in
          absurd (let x = gt.undefs b i gt.block (place-in s b (i ∷ []) gt.place i first) q o (in-bound s g n (i ∷ []) h i first k q o m own) u in let y : is_virtual o.loc ≡ true = ap is_virtual v.1 in cc)
      go (Some a) ties =
          let w = tied-to s g n (i ∷ []) h i first k q o m own a ties in
          let d = defined-site s g n (i ∷ []) h i first a w.role w.definition w.among w.own w.def in
          let size = definition-sized s g n (i ∷ []) h (d.tiny, d.definition) d.among in
          let is : seated s z i k q o ≡ as_tiny o d.tiny =
          seated-as k q o (Some d.tiny) own ((λ j. cond (def j) (tiny_defined z i k) (elim (ties j) as (λ a. Option ℕ) [ None ↦ cond o.undef None (tiny_read s z q o) | Some a ↦ tiny_defined z i a ])) ∙ d.is) in
          subst (Seat s g X p loads saves o) (sym is)
          (Seat.blank own (explicit s g n (i ∷ []) h i first k q o m own) def undef def refl (λ j. not (def j) && undef j)
          (size.wide ∙ (ap (λ y. map (width s) (own_lanes s y)) (d.index ∙ w.index) ∙ sym (own-wide s g n (i ∷ []) h i first k q o m own))))

  reading-seat : (k : ℕ) (q : Option Role) (o : RegOp) → Member (k, (q, operands.Reg o)) (numbered_operands t i) → is_own s o ≡ true → o.def ≡ false → o.undef ≡ false → Seat s g X p loads saves o (seated s z i k q o)
  reading-seat k q o m own def undef =
      let w = read-load s g b c (i ∷ []) p n gt i first e known counts k q o m own def undef p from in
      Seat.reading w.load w.found own (explicit s g n (i ∷ []) h i first k q o m own) def undef w.inside w.sources w.stands (seated-as k q o (Some w.load.tiny) own w.seat)
      (w.wide ∙ sym (own-wide s g n (i ∷ []) h i first k q o m own))

  seat : (k : ℕ) (q : Option Role) (o : RegOp) → Member (k, (q, operands.Reg o)) (numbered_operands t i) → Seat s g X p loads saves o (seated s z i k q o)
  seat k q o m = go (is_own s o) refl o.def refl o.undef refl
    where
      go : (x : Bool) → is_own s o ≡ x → (y : Bool) → o.def ≡ y → (w : Bool) → o.undef ≡ w → Seat s g X p loads saves o (seated s z i k q o)
      go false own y d w u = Seat.same own (others-stay s z i k q o own)
      go true own true d w u = defining-seat k q o m own d
      go true own false d true u = blank-seat k q o m own d u
      go true own false d false u = reading-seat k q o m own d u

  seats : (j : ℕ) (rs : List Role) (os : List Operand) → ((x : ℕ × Bound) → Member x (numbered j (explicit_bound rs os)) → Member x (numbered_operands t i)) → Seated s g X p loads saves os (map (seated_operand s z i) (numbered j (explicit_bound rs os)))
  seats j rs [] inside = Seated.none
  seats j [] (operands.Reg o ∷ os) inside = Seated.register (seat j None o (inside (j, (None, operands.Reg o)) first)) (seats (suc j) [] os (λ x m. inside x (later m)))
  seats j (r ∷ rs) (operands.Reg o ∷ os) inside = Seated.register (seat j (Some r) o (inside (j, (Some r, operands.Reg o)) first)) (seats (suc j) (cond (takes_many r) (r ∷ rs) rs) os (λ x m. inside x (later m)))
  seats j [] (y ∷ os) inside = Seated.other refl (seats (suc j) [] os (λ x m. inside x (later m)))
  seats j (r ∷ rs) (y ∷ os) inside = Seated.other refl (seats (suc j) (cond (takes_many r) (r ∷ rs) rs) os (λ x m. inside x (later m)))

  -- the item is counted, as it was

  abbrev new-instr : Instr
  new-instr = with_tinies s (seats_from s n (i ∷ [])) i

  nowhere : target_of i.operands ≡ None
  nowhere = go (target_of i.operands) refl (subst IsInside (item-is s g b c (i ∷ []) p n gt i first e known counts) gt.at.1)
    where
      go : (q : Option ℕ) → target_of i.operands ≡ q
          → NoPhisInto (option_map (way t f b.number) (target_of i.operands)) × NoPhisAlong (cond (is_terminator e) (ways_out t f b) []) × ((y : Edge) → option_map (way t f b.number) (target_of i.operands) ≡ Some y → Member y (cond (is_terminator e) (ways_out t f b) []))
          → target_of i.operands ≡ None
      go None u inside = u
      go (Some m) u inside =
          let y = way t f b.number m in
          absurd (member-none y (subst (λ (q : Bool). Member y (cond q (ways_out t f b) [])) goes-on (inside.2 y (ap (option_map (way t f b.number)) u))))

  all-fixed : (o : RegOp) → Member o (implicit_registers i.operands) → IsFixed o.loc
  all-fixed o m =
      let d = (met t f i e known (h.shaped i first).operands).0 in
      let all = (fit t f i e known (h.shaped i first).operands has-roles).implicit in
      fixed-of o.loc (first_of_both (not (is_virtual o.loc)) (not (is_silent d.effect)) (all-of (λ (x : RegOp). not (is_virtual x.loc) && not (is_silent d.effect)) o (implicit_registers i.operands) m all))

  fixed : (o : RegOp) → Member o (registers i.operands) → o.implicit ≡ true → IsFixed o.loc
  fixed o m implicit = all-fixed o (filter-in (λ (x : RegOp). x.implicit) o (registers i.operands) m implicit)

  fixed-behind : (o : RegOp) → Member o (registers new-instr.operands) → o.implicit ≡ true → IsFixed o.loc
  fixed-behind o m implicit = let v = from-operand s g n (i ∷ []) h i first o m in by v.0 v.1 v.2 v.3 v.4
    where
      by : (k : ℕ) (q : Option Role) (a : RegOp) → Member a (registers i.operands) → Now s g n (i ∷ []) h i first k q a o → IsFixed o.loc
      by k q a ma (same is) = subst (λ (x : RegOp). IsFixed x.loc) (sym is) (fixed a ma (sym (ap (λ (x : RegOp). x.implicit) is) ∙ implicit))
      by k q a ma (new x own lies is) = absurd (let w : o.implicit ≡ false = ap (λ (x : RegOp). x.implicit) is in cc)

  named : AreNamed f i.operands
  named o m = record { class = class-there t f i (h.shaped i first) o m; fixed = fixed o m }

  plain : (o : RegOp) → Member o (registers i.operands) → o.def ≡ true → o.undef ≡ false
  plain o m def = by o.def o.undef def (none-of is_undef_definition o (registers i.operands) (none-before t i (h.lowered i first)) m)
    where
      by : (x y : Bool) → x ≡ true → (x && y) ≡ false → y ≡ false
      by true y u v = v
      by false y u v = absurd (cc)

  item-counted : X ≡ counted_item s g i e
  item-counted =
      sym (item-stays s g b c h.keeps gt.blocks i (ap (passes puts_together) known ∙ no-parts e has-roles) named)
      ∙ (item-known t g c i e known
      ∙ (λ k. cond (counts k) (Silent (silent_reads t g e i.operands) (silent_writes t g e (is_early_clobber (roles_of t i)) i.operands))
      (Counted (rest_of t g e i) (map (λ (v : Value). v.0) (values t g e i)) (counted_writes t g e i) (option_map (way t g c.number) (nowhere k)) (cond (goes-on k) (ways_out t g c) []))))

  is-counted : IsCountedInstr s g g i e new-instr.operands
  is-counted = record {
    classes = refl;
    stay = h.keeps;
    bare = gt.blocks.bare_behind;
    known = known;
    counts = counts;
    goes_on = goes-on;
    nowhere = nowhere;
    named = λ o m. class-there t f i (h.shaped i first) o m;
    plain = plain;
    fixed = all-fixed;
    fixed_behind = fixed-behind;
  }

  place-stands : PlaceStands s (X ∷ []) (silents (map load_writes loads) ++ (item_of t g c new-instr ∷ silents (map (save_writes s) saves))) p
  place-stands =
      subst (λ y. PlaceStands s (y ∷ []) (silents (map load_writes loads) ++ (item_of t g c new-instr ∷ silents (map (save_writes s) saves))) p) (sym item-counted)
      (counted_seats_stand s g g c i e p new-instr.operands loads saves is-counted
      (subst (λ y. Seated s g y p loads saves i.operands new-instr.operands) item-counted (seats 0 (explicit_roles (roles_of t i)) i.operands (λ x m. m)))
      (subst (λ y. IsSeating s y i.operands loads saves) item-counted seating)
      (subst (λ y. IsSite s i.id y p) item-counted site))

  pub counted-stands : ChangeStands s g b c i p (place_change s n (i ∷ []))
  counted-stands =
      let x = place_change s n (i ∷ []) in
      subst (λ y. PlaceStands s (X ∷ []) y p)
      (sym (map-append (item_of t g c) x.before (x.own ++ x.behind) ∙ (λ k. before-items s g c n (i ∷ []) h (gives s g b c (i ∷ []) p n gt) k ++ (item_of t g c new-instr ∷ behind-items s g c n (i ∷ []) h k))))
      place-stands
