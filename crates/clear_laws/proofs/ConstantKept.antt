-- A constant or an address for the range, with its tiny, keeps what its place has to.
use Rattle.std.proofs.Common.{◌≡◌, ◌≤◌, ◌⊎◌, inl, inr, ◌∷◌, ◌++◌, ◌∙◌, ◌&&◌, not, ℕ, Bool, true, false, cond, List, Option, Some, None, length, map, refl, sym, ap, subst, arith, []}
use Rattle.target_base.specs.declared.types.Role.{Role}
use Rattle.target_base.specs.declared.types.Target.{Target}
use Rattle.target_base.specs.Roles.{is_silent}
use Rattle.target_base.specs.Rules.{is_phi}
use Rattle.target_base.proofs.Tests.{first_of_both}
use Rattle.meaning.specs.Code.{Code, Silent}
use Rattle.meaning.specs.Lanes.{Writes, filled}
use Rattle.meaning.specs.Live.{Among as Member, Live, Writing, after_next, here as first}
use Rattle.meaning.specs.declared.types.Fill.TheVariants.{Moved}
use Rattle.meaning.specs.declared.types.Lane.{Lane}
use Rattle.meaning.specs.declared.types.Lane.TheVariants.{SlotLane, VirtualLane}
use Rattle.meaning.specs.declared.types.Source.TheVariants.{FromLane}
use Rattle.mir_func.specs.declared.func.RegOp.{RegOp}
use Rattle.mir_func.specs.declared.func.Operand.{Operand}
use Rattle.mir_func.specs.declared.func.Operand.TheVariants as operands
use Rattle.mir_func.specs.declared.func.Instr.{Instr}
use Rattle.mir_func.specs.declared.func.Block.{Block}
use Rattle.mir_func.specs.Value.{Function}
use Rattle.mir_func.specs.Binding.{does, explicit_bound, explicit_roles, is_definition, is_early_clobber, numbered, registers, roles_of, takes_many}
use Rattle.mir_meaning.specs.Codes.{item_of}
use Rattle.mir_meaning.specs.Items.{moved}
use Rattle.mir_meaning.specs.Registers.{is_reserved, located_lanes, located_widths, numbers, operand_lanes, range_widths}
use Rattle.instr_effects.proofs.Members.{map-in, map-of, member-elim, member-none}
use Rattle.lowering_laws.proofs.Silently.{lanes-count}
use Rattle.lowering_laws.specs.Form.{is_undef_definition}
use Rattle.split_laws.proofs.Splitting.{as-item}
use Rattle.spiller.specs.Rematerialised.{is_constant}
use Rattle.spiller.specs.Setting.{Spilling, is_own, own_lanes}
use Rattle.spiller.specs.Spilled.{Seats, as_tiny, numbered_operands, place_change, seated, seated_operand, seats_from, spilled, tiny_defined, tiny_of, tiny_used, with_tinies}
use Rattle.spill_laws.specs.Laws.{HasTinies}
use Rattle.spill_laws.specs.Seats.{Load, load_writes}
use Rattle.spill_laws.specs.Standing.{IsSite, code_before}
use Rattle.spill_laws.specs.TinyPlaces.{GetsTinies}
use Rattle.spill_laws.proofs.Constants.{AlwaysConstant, ConstantOperands, const_sources, constant-item, given-is, sources-constant, sources-long}
use Rattle.spill_laws.proofs.CopyPlaces.{none-of}
use Rattle.spill_laws.proofs.SlotWrites.{moved-lane, moved-written, write-of}
use Rattle.spill_laws.proofs.SpillItems.{own-lanes-are}
use Rattle.spill_laws.proofs.TinyApart.{none-before}
use Rattle.clear_laws.proofs.CountedSeats.{place-plain}
use Rattle.clear_laws.proofs.PlaceBounds.{Wrote, is-further}
use Rattle.clear_laws.proofs.PlacesKept.{PlaceKept}
use Rattle.clear_laws.proofs.Replaced.{Held}
use Rattle.clear_laws.proofs.Seated.{IsFurther, IsSeated}
use Rattle.clear_laws.proofs.SeatedLoads.{load-all, load-given, load-lane, silent-items}
use Rattle.clear_laws.proofs.SeatedPoints.{seated-kept}
use Rattle.clear_laws.proofs.SilentForms.{not-fine}
use Rattle.clear_laws.proofs.SpillPoints.{goes-on, is-stored, is-wide}
use Rattle.clear_laws.proofs.TinyItems.{numbered-by, numbered-items}
use Rattle.clear_laws.proofs.TinyLoads.{HeldAt, load-further, load-gives, load-item, loads}
use Rattle.clear_laws.proofs.TinyPlaces.{IsOwn, tiny-at}
use Rattle.clear_laws.proofs.TinySaves.{save-gives, save-item, save-lanes, saved-to, saves}

no-register : (y : Operand) → AlwaysConstant y → (o : RegOp) → y ≡ operands.Reg o → ⊥
no-register (operands.Reg o) a q e = let u = (a 0).1 in cc
no-register y a q e = cc

other-stays : (s : Spilling) (z : Seats) (i : Instr) (k : ℕ) (r : Option Role) (y : Operand) → AlwaysConstant y → seated_operand s z i (k, (r, y)) ≡ y
other-stays s z i k r (operands.Reg o) a = absurd (let u = (a 0).1 in cc)
other-stays s z i k r y a = refl

-- both operands with their numbers
second-bound : (rs : List Role) (y : Operand) → (q : Option Role) × (explicit_bound rs (y ∷ []) ≡ (q, y) ∷ [])
second-bound [] y = (None, refl)
second-bound (r ∷ rs) y = (Some r, refl)

both-bound : (rs : List Role) (x y : Operand) → (q r : Option Role) × (numbered 0 (explicit_bound rs (x ∷ y ∷ [])) ≡ (0, (q, x)) ∷ (1, (r, y)) ∷ [])
both-bound [] x y = (None, None, refl)
both-bound (r ∷ rs) x y = let w = second-bound (cond (takes_many r) (r ∷ rs) rs) y in (Some r, w.0, λ k. (0, (Some r, x)) ∷ numbered 1 (w.1 k))

same-operand : (a b : RegOp) → operands.Reg a ≡ operands.Reg b → a ≡ b
same-operand a b e = cc

module _ (s : Spilling) (b c : Block) (i : Instr) (p : Code) (n : ℕ) (gt : GetsTinies s (spilled s) b c (i ∷ []) p n) (constant : does is_constant s.target i ≡ true) (parts : ConstantOperands i.operands) (own : is_own s parts.definition ≡ true) (plain : does is_phi s.target i ≡ false) where
  abbrev t : Target
  t = s.target

  abbrev f : Function
  f = s.func

  abbrev g : Function
  g = spilled s

  abbrev h : HasTinies s (spilled s) n (i ∷ [])
  h = gt.tinies

  abbrev z : Seats
  z = seats_from s n (i ∷ [])

  abbrev d : RegOp
  d = parts.definition

  abbrev early : Bool
  early = is_early_clobber (roles_of s.target i)

  def : parts.definition.def ≡ true
  def = first_of_both d.def (not d.implicit) parts.defines

  -- it is its only register
  only : (o : RegOp) → Member (operands.Reg o) i.operands → o ≡ parts.definition
  only o m =
      member-elim (operands.Reg o) (operands.Reg d) (parts.operand ∷ []) (same-operand o d)
      (λ k. member-elim (operands.Reg o) parts.operand [] (λ e. absurd (no-register parts.operand parts.always o (sym e))) (λ q. absurd (member-none (operands.Reg o) q)) k) (subst (Member (operands.Reg o)) parts.are m)

  of-uses : (j : Instr) (o : RegOp) → Member j (i ∷ []) → Member (operands.Reg o) j.operands → o.def ≡ false → does is_silent s.target j ≡ false
  of-uses j o m among used =
      let same : j ≡ i = member-elim j i [] (λ e. e) (λ k. absurd (member-none j k)) m in
      let q : o ≡ d = only o (subst (λ y. Member (operands.Reg o) y.operands) same among) in
      absurd (let a : o.def ≡ true = ap (λ (y : RegOp). y.def) q ∙ def in cc)

  -- the tiny in its place

  abbrev q : Option Role
  q = (both-bound (explicit_roles (roles_of s.target i)) (operands.Reg parts.definition) parts.operand).0

  abbrev r : Option Role
  r = (both-bound (explicit_roles (roles_of s.target i)) (operands.Reg parts.definition) parts.operand).1

  operands-are : numbered_operands s.target i ≡ (0, (q, operands.Reg parts.definition)) ∷ (1, (r, parts.operand)) ∷ []
  operands-are = ap (λ os. numbered 0 (explicit_bound (explicit_roles (roles_of t i)) os)) parts.are ∙ (both-bound (explicit_roles (roles_of t i)) (operands.Reg d) parts.operand).2

  own-operand : IsOwn s (spilled s) n (i ∷ []) gt.tinies i first 0 q parts.definition
  own-operand = record { among = subst (Member (0, (q, operands.Reg d))) (sym operands-are) first; own = own }

  abbrev m : ℕ
  m = (tiny-at s (spilled s) n (i ∷ []) gt.tinies i first 0 q parts.definition own-operand def).0

  seat : seated s z i 0 q parts.definition ≡ as_tiny parts.definition m
  seat =
      let y = tiny-at s g n (i ∷ []) h i first 0 q d own-operand def in
      let tiny : tiny_of s z i 0 q d ≡ Some m = (λ k. cond (def k) (tiny_defined z i 0) (tiny_used s z i q d)) ∙ y.1 in
      λ k. cond (own k) (elim (tiny k) as (λ x. RegOp) [ None ↦ d | Some v ↦ as_tiny d v ]) d

  now-operands : (with_tinies s z i).operands ≡ operands.Reg (as_tiny parts.definition m) ∷ parts.operand ∷ []
  now-operands = ap (map (seated_operand s z i)) operands-are ∙ (λ k. operands.Reg (seat k) ∷ other-stays s z i 1 r parts.operand parts.always k ∷ [])

  -- what it writes

  abbrev before-writes : Writes
  before-writes = moved early (located_lanes s.target s.func parts.definition.loc parts.definition.index) (const_sources parts.operand (located_widths s.target s.func parts.definition.loc parts.definition.index))

  abbrev load : Load
  load = record { tiny = m; early = early; sources = const_sources parts.operand (range_widths s.target (spilled s) m) }

  not-undef : (parts.definition.def && parts.definition.undef) ≡ false
  not-undef = none-of is_undef_definition d (registers i.operands) (none-before t i (h.lowered i first)) (subst (λ os. Member d (registers os)) (sym parts.are) first)

  before-is : item_of s.target s.func b i ≡ Silent [] before-writes
  before-is = constant-item t f b i constant ∙ ap (λ ws. Silent [] ws) (given-is t f early i.operands d parts.operand parts.are not-undef)

  many : length (const_sources parts.operand (range_widths s.target (spilled s) m)) ≡ length (range_widths s.target (spilled s) m)
  many = sources-long parts.operand (range_widths t g m) parts.always

  now-is : item_of s.target (spilled s) c (with_tinies s z i) ≡ Silent [] (load_writes load)
  now-is =
      constant-item t g c (with_tinies s z i) constant
      ∙ (ap (λ ws. Silent [] ws) (given-is t g early (with_tinies s z i).operands (as_tiny d m) parts.operand now-operands (λ k. def k && (not (def k) && d.undef)))
      ∙ ap (λ k. Silent [] (moved early (map (VirtualLane m) (numbers 0 k)) (const_sources parts.operand (range_widths t g m)))) (sym many))

  site : IsSite s i.id (Silent [] before-writes) p
  site = subst (λ y. IsSite s i.id y p) before-is gt.at.0

  own-lane : (a : Lane) → Wrote before-writes a → (j : ℕ) × Member j (own_lanes s parts.definition.index) × (a ≡ VirtualLane s.range j)
  own-lane a w =
      let inside = moved-lane early (located_lanes t f d.loc d.index) (const_sources parts.operand (located_widths t f d.loc d.index)) w.0 w.1 in
      let y = map-of (VirtualLane s.range) w.0.lane (own_lanes s d.index) (subst (Member w.0.lane) (own-lanes-are s d own) inside) in
      (y.0, y.1, sym w.2 ∙ y.2)

  -- a further range's lanes alone, and constants

  tiny-further : length s.func.classes ≤ m
  tiny-further = (tiny-at s g n (i ∷ []) h i first 0 q d own-operand def).2.has.further

  now-further : (a : Lane) → Wrote (load_writes load) a → IsFurther s.func a
  now-further a w = let y = load-lane load a w in (m, y.0, y.1, tiny-further)

  now-gives : (a l : Lane) → filled (load_writes load) a ≡ Moved (FromLane l) → (l ≡ a) × (Wrote (load_writes load) a → ⊥)
  now-gives a l e = go (load-given load a l e)
    where
      go : ((l ≡ a) × (Wrote (load_writes load) a → ⊥)) ⊎ Member (FromLane l) load.sources → (l ≡ a) × (Wrote (load_writes load) a → ⊥)
      go (inl y) = y
      go (inr y) = absurd (sources-constant parts.operand (range_widths t g m) (FromLane l) y)

  own-in : (o : RegOp) → Member (operands.Reg o) i.operands → is_own s o ≡ true → is_definition o ≡ true → (j : ℕ) → Member j (own_lanes s o.index) → Wrote before-writes (VirtualLane s.range j)
  own-in o among mine is j mj =
      let same = only o among in
      let ls = located_lanes t f d.loc d.index in
      let ws = located_widths t f d.loc d.index in
      let inside : Member (VirtualLane s.range j) ls = subst (Member (VirtualLane s.range j)) (sym (own-lanes-are s d own)) (map-in (VirtualLane s.range) j (own_lanes s d.index) (subst (λ (y : RegOp). Member j (own_lanes s y.index)) same mj)) in
      let long = sources-long parts.operand ws parts.always in
      let wide = lanes-long d in
      write-of before-writes (VirtualLane s.range j) (moved-written early ls (const_sources parts.operand ws) (VirtualLane s.range j) (omega (arith, long, wide)) inside)
    where
      lanes-long : (d : RegOp) → length (located_lanes s.target s.func d.loc d.index) ≡ length (located_widths s.target s.func d.loc d.index)
      lanes-long d = lanes-count t f d.loc d.index

  tiny-in : (o : RegOp) (k : ℕ) → Member (operands.Reg (as_tiny o k)) (with_tinies s (seats_from s n (i ∷ [])) i).operands → o.def ≡ true → (l : Lane) → Member l (operand_lanes s.target (spilled s) (as_tiny o k)) → Wrote (load_writes load) l
  tiny-in o k among is l ml =
      let same : as_tiny o k ≡ as_tiny d m =
      member-elim (operands.Reg (as_tiny o k)) (operands.Reg (as_tiny d m)) (parts.operand ∷ []) (same-operand (as_tiny o k) (as_tiny d m))
      (λ x. member-elim (operands.Reg (as_tiny o k)) parts.operand [] (λ e. absurd (no-register parts.operand parts.always (as_tiny o k) (sym e))) (λ y. absurd (member-none (operands.Reg (as_tiny o k)) y)) x) (subst (Member (operands.Reg (as_tiny o k))) now-operands among) in
      load-all load l (subst (Member l) (λ x. map (VirtualLane m) (numbers 0 (sym many x))) (subst (λ (y : RegOp). Member l (operand_lanes t g y)) same ml))

  abbrev ld : List Writes
  ld = loads s b c (i ∷ []) p n gt of-uses

  given : (ws : Writes) (a l : Lane) → Member ws (loads s b c (i ∷ []) p n gt of-uses) → filled ws a ≡ Moved (FromLane l) → ((l ≡ a) × (Wrote ws a → ⊥)) ⊎ Held s.target s.func (spilled s) s.range s.slot (is-wide s) (is-stored s) (Silent [] before-writes ∷ p) l
  given ws a l k fed = go (load-gives s b c (i ∷ []) p n gt of-uses ws k a l fed)
    where
      at-first : (j : Instr) → Member j (i ∷ []) → HeldAt s b c (i ∷ []) p n gt of-uses j l → HeldAt s b c (i ∷ []) p n gt of-uses i l
      at-first j mj k = member-elim j i [] (λ e. subst (λ y. HeldAt s b c (i ∷ []) p n gt of-uses y l) e k) (λ e. absurd (member-none j e)) mj

      go : ((l ≡ a) × (Wrote ws a → ⊥)) ⊎ ((j : Instr) × Member j (i ∷ []) × HeldAt s b c (i ∷ []) p n gt of-uses j l) → ((l ≡ a) × (Wrote ws a → ⊥)) ⊎ Held s.target s.func (spilled s) s.range s.slot (is-wide s) (is-stored s) (Silent [] before-writes ∷ p) l
      go (inl y) = inl y
      go (inr y) = inr (subst (λ u. Held t f g s.range s.slot (is-wide s) (is-stored s) u l) site.from (at-first y.0 y.1 y.2))

  number-of : (v j k : ℕ) → VirtualLane v j ≡ VirtualLane v k → j ≡ k
  number-of v j k e = cc

  stored-to : (k w : ℕ) → is-wide s w → Writing (Silent [] before-writes) (VirtualLane s.range k) → Live (is_reserved s.target) (code_before s) p (VirtualLane s.range k) → (ws : Writes) × Member ws (saves s i n gt.tinies gt.setting c before-writes (load_writes load) own-in tiny-in) × Wrote ws (SlotLane s.slot k w)
  stored-to k w wd wr live =
      let y = own-lane (VirtualLane s.range k) wr in
      saved-to s i n gt.tinies gt.setting c before-writes (load_writes load) own-in tiny-in 0 q d own-operand def k (subst (λ j. Member j (own_lanes s d.index)) (number-of s.range y.0 k (sym y.2)) y.1) w wd (Silent [] before-writes) p site.from (after_next site.order live)

  seated-here : IsSeated s.target s.func (spilled s) s.range s.slot (is-wide s) (is-stored s) (goes-on s) (Silent [] before-writes) (Silent [] (load_writes load)) p (loads s b c (i ∷ []) p n gt of-uses) (saves s i n gt.tinies gt.setting c before-writes (load_writes load) own-in tiny-in)
  seated-here = record {
    order = site.order;
    exits = refl;
    bare = λ y k. absurd (member-none y k);
    leaves = λ y k l w. member-none y l;
    slots = λ k w y. (let a = own-lane (SlotLane s.slot k w) y in let e : SlotLane s.slot k w ≡ VirtualLane s.range a.0 = a.2 in cc);
    read_by = λ l y. absurd (member-none y.0 y.1);
    gives = now-gives;
    keeps = λ a fine w. absurd (let y = own-lane a w in not-fine s a y.0 y.2 fine);
    written = λ l w. is-further (now-further l w);
    early = λ l w. is-further (now-further l (w.0, w.1, w.2));
    load_lanes = λ ws a k w. load-further s b c (i ∷ []) p n gt of-uses ws a k w;
    load_gives = λ ws a l k e. given ws a l k e;
    loaded = λ a far y. absurd (member-none y.0 y.1);
    save_lanes = λ ws a k w. save-lanes s i n gt.tinies gt.setting c before-writes (load_writes load) own-in tiny-in ws a k w;
    save_gives = λ ws a l k e. save-gives s i n gt.tinies gt.setting c before-writes (load_writes load) own-in tiny-in ws a l k e;
    saved = λ k w wd wr live st. stored-to k w wd wr live;
  }

  pub constant-kept : (k : ℕ) → PlaceKept s.target s.func (spilled s) s.range s.slot (is-wide s) (is-stored s) b c (i ∷ []) (numbered-by k (place_change s n (i ∷ []))) p
  constant-kept k =
      seated-kept t f g s.range s.slot (is-wide s) (is-stored s) (goes-on s) (Silent [] before-writes) (Silent [] (load_writes load)) p ld (saves s i n gt.tinies gt.setting c before-writes (load_writes load) own-in tiny-in) seated-here b c i (numbered-by k (place_change s n (i ∷ [])))
      (as-item t f b i plain ∙ before-is)
      (numbered-items t g c k (place_change s n (i ∷ [])) (place-plain s b c (i ∷ []) p n gt)
      ∙ (λ x. silent-items t g c (place_change s n (i ∷ [])).before (load-item s b c (i ∷ []) p n gt of-uses) x ++ (now-is x ∷ silent-items t g c (place_change s n (i ∷ [])).behind (save-item s i n gt.tinies gt.setting c before-writes (load_writes load) own-in tiny-in) x)))
      site.from
