-- A counted instruction with its tinies, as an item: what it reads and writes, beside what it did.
use Rattle.std.proofs.Common.{◌≡◌, ◌<◌, ◌≤◌, ◌⊎◌, inl, inr, ◌++◌, ◌∙◌, ◌&&◌, not, ℕ, true, false, cond, List, Option, Some, length, map, refl, sym, ap, subst, arith, []}
use Rattle.std.specs.Prelude.{option_map}
use Rattle.target_base.specs.declared.types.Effect.{Effect}
use Rattle.target_base.specs.declared.types.Effect.TheVariants as effects
use Rattle.target_base.specs.declared.types.Role.{Role}
use Rattle.target_base.specs.declared.types.Target.{Target}
use Rattle.target_base.specs.Roles.{is_silent}
use Rattle.target_base.specs.Rules.{is_phi}
use Rattle.target_base.proofs.Tests.{first_of_both}
use Rattle.meaning.specs.Code.{Code, Counted, Item, Silent}
use Rattle.meaning.specs.Lanes.{Writes, filled}
use Rattle.meaning.specs.Live.{Among as Member, Writing, WritingEarly, writes_of}
use Rattle.meaning.specs.declared.types.Fill.TheVariants.{Moved}
use Rattle.meaning.specs.declared.types.Lane.{Lane}
use Rattle.meaning.specs.declared.types.Lane.TheVariants.{SlotLane, VirtualLane}
use Rattle.meaning.specs.declared.types.Source.TheVariants.{FromLane}
use Rattle.meaning.specs.declared.types.Write.{Write}
use Rattle.mir_func.specs.declared.func.RegOp.{RegOp}
use Rattle.mir_func.specs.declared.func.Instr.{Instr}
use Rattle.mir_func.specs.declared.func.Block.{Block}
use Rattle.mir_func.specs.Value.{Function}
use Rattle.mir_func.specs.Binding.{does, effect_of, implicit_registers, is_early_clobber, is_terminator, is_virtual, passes, puts_together, registers, roles_of}
use Rattle.mir_meaning.specs.Codes.{item_of, target_of, way, ways_out}
use Rattle.mir_meaning.specs.Items.{Value, counted_writes, rest_of, silent_reads, silent_writes, values}
use Rattle.mir_meaning.specs.Renaming.{IsFixed}
use Rattle.instr_effects.proofs.Members.{either-elim, filter-in, left-in, right-in}
use Rattle.live_laws.proofs.Effects.Lists.{all-of}
use Rattle.live_laws.proofs.Effects.Shapes.{class-there}
use Rattle.live_laws.proofs.Touch.Roles.{fit, has_roles, met}
use Rattle.lowering_laws.proofs.Classes.{AreNamed}
use Rattle.spiller.specs.Setting.{Spilling, own_lanes}
use Rattle.spiller.specs.Spilled.{place_change, seats_from, spilled, with_tinies}
use Rattle.spill_laws.specs.Laws.{HasTinies}
use Rattle.spill_laws.specs.Standing.{instrs_of}
use Rattle.spill_laws.specs.TinyPlaces.{GetsTinies}
use Rattle.spill_laws.proofs.Beside.{besides_keep_rules}
use Rattle.spill_laws.proofs.CountedPlaces.{fixed-of, no-parts}
use Rattle.spill_laws.proofs.InForm.{place-in}
use Rattle.spill_laws.proofs.ItemsStay.{item-stays}
use Rattle.spill_laws.proofs.Refining.{no-phi}
use Rattle.spill_laws.proofs.SpillItems.{item-known}
use Rattle.spill_laws.proofs.TinyForm.{tinies_keep_rules}
use Rattle.spill_laws.proofs.TinyRules.{rolled}
use Rattle.spill_laws.proofs.Touched.{UndefsFixed}
use Rattle.clear_laws.proofs.PlaceBounds.{Wrote, as-itself, is-further}
use Rattle.clear_laws.proofs.Replaced.{Told-of}
use Rattle.clear_laws.proofs.Seated.{IsFurther, ReadIn}
use Rattle.clear_laws.proofs.SeatedPairs.{IsLoaded, moves-none, own-written, still-written, was-read, was-written, wrote-no-slot}
use Rattle.clear_laws.proofs.SilentForms.{IsFine}
use Rattle.clear_laws.proofs.SpillPoints.{is-stored, is-wide}
use Rattle.clear_laws.proofs.TinyLoads.{loads, ties-loaded, ways-loaded}
use Rattle.clear_laws.proofs.TinyPlaces.{IsOwn}

counts-no-phi : (e : Effect) → is_silent e ≡ false → is_phi e ≡ false
counts-no-phi effects.Phi h = absurd (cc)
counts-no-phi e h = refl

-- the instructions of a place with tinies are no phis
pub place-plain : (s : Spilling) (b c : Block) (is : List Instr) (p : Code) (n : ℕ) → GetsTinies s (spilled s) b c is p n → (j : Instr) → Member j (instrs_of (place_change s n is)) → does is_phi s.target j ≡ false
place-plain s b c is p n gt j m =
    let h = gt.tinies in
    let x = place_change s n is in
    let beside = besides_keep_rules s (spilled s) n is h.keeps h.classes gt.setting.shaped h.shaped h.placed h.lowered h.tinies j in
    no-phi s.target j (either-elim j x.before (x.own ++ x.behind) (λ k. (beside (left-in j x.before x.behind k)).opcode)
    (λ k. either-elim j x.own x.behind (λ q. (tinies_keep_rules s (spilled s) n is h j q).opcode) (λ q. (beside (right-in j x.before x.behind q)).opcode) k) m)

not-both : (s : Spilling) (l : Lane) → IsFine s l → IsFurther s.func l → ⊥
not-both s l fine z =
    let a : z.0 < length s.func.classes = (subst (IsFine s) z.2 fine).0 in
    let b : length s.func.classes ≤ z.0 = z.3 in
    omega (arith, a, b)

module _ (s : Spilling) (b c : Block) (is : List Instr) (p : Code) (n : ℕ) (gt : GetsTinies s (spilled s) b c is p n) (each-counts : (j : Instr) → Member j is → does is_silent s.target j ≡ false) (i : Instr) (mi : Member i is) where
  abbrev t : Target
  t = s.target

  abbrev f : Function
  f = s.func

  abbrev g : Function
  g = spilled s

  abbrev h : HasTinies s (spilled s) n is
  h = gt.tinies

  abbrev e : Effect
  e = (rolled s (spilled s) n is gt.tinies i mi).effect

  abbrev now : Instr
  now = with_tinies s (seats_from s n is) i

  pub known : effect_of t i ≡ Some (rolled s (spilled s) n is gt.tinies i mi).effect
  known = (rolled s g n is h i mi).known

  has-roles : has_roles (rolled s (spilled s) n is gt.tinies i mi).effect ≡ true
  has-roles = (rolled s g n is h i mi).rolled

  counts : is_silent (rolled s (spilled s) n is gt.tinies i mi).effect ≡ false
  counts = sym (ap (passes is_silent) known) ∙ each-counts i mi

  pub phi : does is_phi s.target i ≡ false
  phi = ap (passes is_phi) known ∙ counts-no-phi e counts

  pub undefs : UndefsFixed s.target i
  undefs = gt.undefs b i gt.block (place-in s b is gt.place i mi)

  pub all-fixed : (o : RegOp) → Member o (implicit_registers i.operands) → IsFixed o.loc
  all-fixed o m =
      let d = (met t f i e known (h.shaped i mi).operands).0 in
      let all = (fit t f i e known (h.shaped i mi).operands has-roles).implicit in
      fixed-of o.loc (first_of_both (not (is_virtual o.loc)) (not (is_silent d.effect)) (all-of (λ (x : RegOp). not (is_virtual x.loc) && not (is_silent d.effect)) o (implicit_registers i.operands) m all))

  named : AreNamed f i.operands
  named o m = record { class = class-there t f i (h.shaped i mi) o m; fixed = λ u. all-fixed o (filter-in (λ (x : RegOp). x.implicit) o (registers i.operands) m u) }

  -- the items

  abbrev pub counted-as : Instr → Item
  counted-as j =
      Counted (rest_of s.target (spilled s) (rolled s (spilled s) n is gt.tinies i mi).effect j) (map (λ (v : Value). v.0) (values s.target (spilled s) (rolled s (spilled s) n is gt.tinies i mi).effect j))
      (counted_writes s.target (spilled s) (rolled s (spilled s) n is gt.tinies i mi).effect j) (option_map (way s.target (spilled s) c.number) (target_of j.operands))
      (cond (is_terminator (rolled s (spilled s) n is gt.tinies i mi).effect) (ways_out s.target (spilled s) c) [])

  abbrev X : Item
  X = counted-as i

  abbrev Y : Item
  Y = counted-as (with_tinies s (seats_from s n is) i)

  as-counted : (j : Instr) → effect_of t j ≡ Some (rolled s (spilled s) n is gt.tinies i mi).effect → item_of t g c j ≡ counted-as j
  as-counted j k =
      item-known t g c j e k
      ∙ (λ x. cond (counts x) (Silent (silent_reads t g e j.operands) (silent_writes t g e (is_early_clobber (roles_of t j)) j.operands))
      (Counted (rest_of t g e j) (map (λ (v : Value). v.0) (values t g e j)) (counted_writes t g e j) (option_map (way t g c.number) (target_of j.operands)) (cond (is_terminator e) (ways_out t g c) [])))

  pub before-is : item_of t f b i ≡ counted-as i
  before-is = sym (item-stays s g b c h.keeps gt.blocks i (ap (passes puts_together) known ∙ no-parts e has-roles) named) ∙ as-counted i known

  pub now-is : item_of t g c now ≡ counted-as (with_tinies s (seats_from s n is) i)
  now-is = as-counted now known

  -- what it reads and writes

  abbrev ld : List Writes
  ld = loads s b c is p n gt (λ j o m there def. each-counts j m)

  abbrev pub Read : Lane → Type 0
  Read l = (IsFine s l × ReadIn (counted-as i) l) ⊎ (IsFurther s.func l × IsLoaded s n is gt.tinies i mi undefs (loads s b c is p n gt (λ j o m there def. each-counts j m)) l)

  pub read-from : (l : Lane) → ReadIn (counted-as (with_tinies s (seats_from s n is) i)) l → Read l
  read-from l r = was-read s n is h i mi undefs ld (ways-loaded s b c is p n gt (λ j o m there def. each-counts j m)) (ties-loaded s b c is p n gt (λ j o m there def. each-counts j m) i mi) e all-fixed r.0 l r.1 r.2

  written-from : (w : Write) → Member w (counted_writes s.target (spilled s) (rolled s (spilled s) n is gt.tinies i mi).effect (with_tinies s (seats_from s n is) i))
      → (IsFine s w.lane × ((y : Write) × Member y (counted_writes s.target (spilled s) (rolled s (spilled s) n is gt.tinies i mi).effect i) × (y.lane ≡ w.lane) × (y.early ≡ w.early))) ⊎ IsFurther s.func w.lane
  written-from w m = was-written s n is h i mi undefs ld (ways-loaded s b c is p n gt (λ j o m there def. each-counts j m)) (ties-loaded s b c is p n gt (λ j o m there def. each-counts j m) i mi) e all-fixed w m

  abbrev pub Told : (Lane → Type 0) → Lane → Type 0
  Told P l = Told-of s.target s.func (spilled s) s.range s.slot (is-wide s) (is-stored s) P l

  pub written : (l : Lane) → Writing (counted-as (with_tinies s (seats_from s n is) i)) l → Told (Writing (counted-as i)) l
  written l w = subst (Told (Writing X)) w.2 (go (written-from w.0 w.1))
    where
      go : (IsFine s w.0.lane × ((y : Write) × Member y (writes_of (counted-as i)) × (y.lane ≡ w.0.lane) × (y.early ≡ w.0.early))) ⊎ IsFurther s.func w.0.lane → Told (Writing (counted-as i)) w.0.lane
      go (inl z) = as-itself z.0 (z.1.0, z.1.1, z.1.2)
      go (inr z) = is-further z

  pub early : (l : Lane) → WritingEarly (counted-as (with_tinies s (seats_from s n is) i)) l → Told (WritingEarly (counted-as i)) l
  early l w = subst (Told (WritingEarly X)) w.2 (go (written-from w.0 w.1))
    where
      go : (IsFine s w.0.lane × ((y : Write) × Member y (writes_of (counted-as i)) × (y.lane ≡ w.0.lane) × (y.early ≡ w.0.early))) ⊎ IsFurther s.func w.0.lane → Told (WritingEarly (counted-as i)) w.0.lane
      go (inl z) = as-itself z.0 (z.1.0, z.1.1, z.1.2, z.1.3 ∙ w.3)
      go (inr z) = is-further z

  pub seen : (l : Lane) → ReadIn (counted-as (with_tinies s (seats_from s n is) i)) l → (IsFine s l × ReadIn (counted-as i) l) ⊎ IsFurther s.func l
  seen l r = go (read-from l r)
    where
      go : Read l → (IsFine s l × ReadIn (counted-as i) l) ⊎ IsFurther s.func l
      go (inl q) = inl q
      go (inr q) = inr q.0

  pub gives : (a l : Lane) → filled (writes_of (counted-as (with_tinies s (seats_from s n is) i))) a ≡ Moved (FromLane l) → (l ≡ a) × (Writing (counted-as (with_tinies s (seats_from s n is) i)) a → ⊥)
  gives a l q = moves-none s n is h i mi undefs ld (ways-loaded s b c is p n gt (λ j o m there def. each-counts j m)) (ties-loaded s b c is p n gt (λ j o m there def. each-counts j m) i mi) e all-fixed a l q

  pub keeps : (a : Lane) → IsFine s a → Writing (counted-as i) a → Writing (counted-as (with_tinies s (seats_from s n is) i)) a
  keeps a fine w = still-written s n is h i mi undefs ld (ways-loaded s b c is p n gt (λ j o m there def. each-counts j m)) (ties-loaded s b c is p n gt (λ j o m there def. each-counts j m) i mi) e all-fixed a fine w

  pub slotless : (m k w : ℕ) → Writing (counted-as i) (SlotLane m k w) → ⊥
  slotless m k w y = wrote-no-slot s n is h i mi undefs ld (ways-loaded s b c is p n gt (λ j o m there def. each-counts j m)) (ties-loaded s b c is p n gt (λ j o m there def. each-counts j m) i mi) e all-fixed m k w y

  -- the tinies that it reads are loaded
  pub loaded : (a : Lane) → IsFurther s.func a → ReadIn (counted-as (with_tinies s (seats_from s n is) i)) a → (ws : Writes) × Member ws (loads s b c is p n gt (λ j o m there def. each-counts j m)) × Wrote ws a
  loaded a far r = go (read-from a r)
    where
      go : Read a → (ws : Writes) × Member ws (loads s b c is p n gt (λ j o m there def. each-counts j m)) × Wrote ws a
      go (inl q) = absurd (not-both s a q.0 far)
      go (inr q) = q.1

  -- a lane of the range that it wrote is one of a definition
  pub record Owns (j : ℕ) : Type 0 where
    pub k : ℕ
    pub q : Option Role
    pub operand : RegOp
    pub own : IsOwn s (spilled s) n is gt.tinies i mi k q operand
    pub def : operand.def ≡ true
    pub inside : Member j (own_lanes s operand.index)

  pub own-wrote : (j : ℕ) → Writing (counted-as i) (VirtualLane s.range j) → Owns j
  own-wrote j w = let o = own-written s n is h i mi undefs ld (ways-loaded s b c is p n gt (λ j o m there def. each-counts j m)) (ties-loaded s b c is p n gt (λ j o m there def. each-counts j m) i mi) e all-fixed j w in record { k = o.k; q = o.q; operand = o.operand; own = o.own; def = o.def; inside = o.inside }
