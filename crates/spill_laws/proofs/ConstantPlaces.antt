-- A constant or an address stands with its tiny.
use Rattle.std.proofs.Common.{◌≡◌, ◌∷◌, ◌++◌, ◌∙◌, ◌&&◌, ◌+◌, not, ℕ, Bool, true, false, cond, List, Option, Some, None, flat_map, length, map, refl, sym, ap, subst, arith, []}
use Rattle.std.specs.Prelude.{filter, filter_map, nat_eq}
use Rattle.std.specs.List.{cons_option, list_any}
use Rattle.target_base.specs.declared.types.Effect.{Effect}
use Rattle.target_base.specs.declared.types.Effect.TheVariants as effects
use Rattle.target_base.specs.declared.types.Role.{Role}
use Rattle.target_base.specs.declared.types.Role.TheVariants as roles
use Rattle.target_base.specs.declared.types.Target.{Target}
use Rattle.target_base.specs.Roles.{is_implicit, is_tied}
use Rattle.target_base.proofs.Tests.{first_of_both}
use Rattle.meaning.specs.Code.{Code}
use Rattle.meaning.specs.Live.{Among as Member, here as first}
use Rattle.mir_func.specs.declared.func.Loc.TheVariants.{Virtual}
use Rattle.mir_func.specs.declared.func.RegOp.{RegOp}
use Rattle.mir_func.specs.declared.func.Operand.{Operand}
use Rattle.mir_func.specs.declared.func.Operand.TheVariants as operands
use Rattle.mir_func.specs.declared.func.Instr.{Instr}
use Rattle.mir_func.specs.declared.func.Block.{Block}
use Rattle.mir_func.specs.Value.{Function}
use Rattle.mir_func.specs.Binding.{Bound, TiedPair, does, effect_of, explicit_bound, explicit_operands, explicit_roles, numbered, operand_class, passes, roles_of, takes_many, tied_number, tied_pairs}
use Rattle.mir_meaning.specs.Codes.{item_of}
use Rattle.mir_meaning.specs.Places.{Variable}
use Rattle.mir_meaning.specs.Rules.{V1}
use Rattle.instr_effects.proofs.Members.{either-elim, filter-of, flat-of, map-of, member-elim, member-none}
use Rattle.live_laws.proofs.Effects.Lists.{any-in}
use Rattle.lowering_laws.proofs.Formed.{tied-seat}
use Rattle.lowering_laws.proofs.Rolled.{addr-untied, const-untied}
use Rattle.lowering_laws.proofs.Seated.{bound-role}
use Rattle.spiller.specs.Setting.{Spilling, in_own_slot, is_live_behind, is_own, plain_use, store}
use Rattle.spiller.specs.Rematerialised.{is_constant, tied_readings, ways_read}
use Rattle.spiller.specs.Spilled.{OwnDefinition, Seats, as_tiny, definitions_in, given, numbered_operands, own_definition, place_change, seated_operand, seats_from, stored, tied_reload, tiny_defined, tiny_of, tiny_used, with_tinies}
use Rattle.spill_laws.specs.Laws.{HasTinies}
use Rattle.spill_laws.specs.Standing.{ChangeStands, IsAt, PlaceStands}
use Rattle.spill_laws.specs.TinyPlaces.{GetsTinies}
use Rattle.spill_laws.proofs.Beside.{definition-tiny}
use Rattle.spill_laws.proofs.ConstantSeats.{constant_seats_stand}
use Rattle.spill_laws.proofs.Constants.{AlwaysConstant, ConstantOperands}
use Rattle.spill_laws.proofs.OwnOperands.{defined-site, definition-sized, site-of, way-use}
use Rattle.spill_laws.proofs.Ranges.{numbered-of}
use Rattle.spill_laws.proofs.TinySeats.{low-number}

none-in : {X : Type 0} (xs : List X) → ((x : X) → Member x xs → ⊥) → xs ≡ []
none-in [] h = refl
none-in (x ∷ xs) h = absurd (h x first)

no-register : (y : Operand) → AlwaysConstant y → (o : RegOp) → y ≡ operands.Reg o → ⊥
no-register (operands.Reg o) a q e = let u = (a 0).1 in cc
no-register y a q e = cc

constant-untied : (s : Spilling) (i : Instr) → V1 s.target s.func i ≡ true → does is_constant s.target i ≡ true → list_any is_tied (roles_of s.target i) ≡ false
constant-untied s i rule h = go (effect_of s.target i) refl h
  where
    go : (q : Option Effect) → effect_of s.target i ≡ q → passes is_constant q ≡ true → list_any is_tied (roles_of s.target i) ≡ false
    go None e h = absurd (cc)
    go (Some effects.Const) e h = const-untied s.target s.func i e rule
    go (Some effects.Addr) e h = addr-untied s.target s.func i e rule
    go (Some x) e h = absurd (cc)

tied-test : (r : Role) (n : ℕ) → tied_number r ≡ Some n → is_tied r ≡ true
tied-test (roles.Tied k m) n e = refl
tied-test r n e = absurd (cc)

-- the operands with their numbers
second-bound : (rs : List Role) (y : Operand) → (q : Option Role) × (explicit_bound rs (y ∷ []) ≡ (q, y) ∷ [])
second-bound [] y = (None, refl)
second-bound (r ∷ rs) y = (Some r, refl)

both-bound : (rs : List Role) (x y : Operand) → (q r : Option Role) × (numbered 0 (explicit_bound rs (x ∷ y ∷ [])) ≡ (0, (q, x)) ∷ (1, (r, y)) ∷ [])
both-bound [] x y = (None, None, refl)
both-bound (r ∷ rs) x y = let w = second-bound (cond (takes_many r) (r ∷ rs) rs) y in (Some r, w.0, λ k. (0, (Some r, x)) ∷ numbered 1 (w.1 k))

module _ (s : Spilling) (g : Function) (b c : Block) (i : Instr) (p : Code) (n : ℕ) (gt : GetsTinies s g b c (i ∷ []) p n) (constant : does is_constant s.target i ≡ true) (parts : ConstantOperands i.operands) (own : is_own s parts.definition ≡ true) where
  abbrev t : Target
  t = s.target

  abbrev f : Function
  f = s.func

  abbrev h : HasTinies s g n (i ∷ [])
  h = gt.tinies

  abbrev z : Seats
  z = seats_from s n (i ∷ [])

  abbrev d : RegOp
  d = parts.definition

  abbrev y : Operand
  y = parts.operand

  at : IsAt s b i p
  at = record { block = gt.block; place = gt.place; shaped = h.shaped i first; lowered = h.lowered i first; site = gt.at.0 }

  def : d.def ≡ true
  def = first_of_both d.def (not d.implicit) parts.defines

  abbrev q : Option Role
  q = (both-bound (explicit_roles (roles_of s.target i)) (operands.Reg parts.definition) parts.operand).0

  abbrev r : Option Role
  r = (both-bound (explicit_roles (roles_of s.target i)) (operands.Reg parts.definition) parts.operand).1

  operands-are : numbered_operands t i ≡ (0, (q, operands.Reg d)) ∷ (1, (r, y)) ∷ []
  operands-are = ap (λ os. numbered 0 (explicit_bound (explicit_roles (roles_of t i)) os)) parts.are ∙ (both-bound (explicit_roles (roles_of t i)) (operands.Reg d) y).2

  among : Member (0, (q, operands.Reg d)) (numbered_operands t i)
  among = subst (Member (0, (q, operands.Reg d))) (sym operands-are) first

  -- it is a definition of the range, and the only one

  abbrev one : OwnDefinition
  one = record { by = i; number = 0; index = parts.definition.index; class = operand_class s.target s.func (both-bound (explicit_roles (roles_of s.target i)) (operands.Reg parts.definition) parts.operand).0 parts.definition }

  other-none : (k : ℕ) (u : Option Role) (x : Operand) → AlwaysConstant x → own_definition s i (k, (u, x)) ≡ None
  other-none k u (operands.Reg o) a = absurd (let u = (a 0).1 in cc)
  other-none k u x a = refl

  definitions-are : definitions_in s (i ∷ []) ≡ one ∷ []
  definitions-are =
      ap (λ xs. filter_map (own_definition s i) xs ++ []) operands-are
      ∙ (λ k. cons_option (cond (own k && def k) (Some one) None) (cons_option (other-none 1 r y parts.always k) []) ++ [])

  abbrev m : ℕ
  m = n + length (ways_read s (i ∷ []))

  seats-are : z.definitions ≡ (m, one) ∷ []
  seats-are = ap (numbered m) definitions-are

  inside : Member (m, one) z.definitions
  inside = subst (Member (m, one)) (sym seats-are) first

  -- nothing is read

  its-use : (v : Variable) → Member v (ways_read s (i ∷ [])) → ⊥
  its-use v mv =
      let w = way-use s g n (i ∷ []) h v mv in
      let here : w.instr ≡ i = member-elim w.instr i [] (λ e. e) (λ k. absurd (member-none w.instr k)) w.inside in
      let k : Member (w.number, (w.role, operands.Reg w.operand)) ((0, (q, operands.Reg d)) ∷ (1, (r, y)) ∷ []) = subst (Member (w.number, (w.role, operands.Reg w.operand))) operands-are (subst (λ j. Member (w.number, (w.role, operands.Reg w.operand)) (numbered_operands t j)) here w.among) in
      member-elim (w.number, (w.role, operands.Reg w.operand)) (0, (q, operands.Reg d)) ((1, (r, y)) ∷ [])
      (λ e. defined w.operand d (ap (λ (x : ℕ × Bound). x.1.1) e) w.def def)
      (λ e. member-elim (w.number, (w.role, operands.Reg w.operand)) (1, (r, y)) [] (λ u. no-register y parts.always w.operand (sym (ap (λ (x : ℕ × Bound). x.1.1) u))) (λ u. member-none (w.number, (w.role, operands.Reg w.operand)) u) e) k
    where
      defined : (x w : RegOp) → operands.Reg x ≡ operands.Reg w → x.def ≡ false → w.def ≡ true → ⊥
      defined x w e u v = let same : x ≡ w = register x w e in let a : false ≡ true = sym u ∙ (ap (λ (o : RegOp). o.def) same ∙ v) in cc
        where
          register : (x w : RegOp) → operands.Reg x ≡ operands.Reg w → x ≡ w
          register x w e = cc

  its-tie : (x : ℕ × OwnDefinition) → Member x z.definitions → (w : TiedPair) → Member w (tied_readings s x.1.by) → ⊥
  its-tie x mx w mw =
      let v = site-of s g n (i ∷ []) h x mx in
      let here : v.instr ≡ i = member-elim v.instr i [] (λ e. e) (λ k. absurd (member-none v.instr k)) v.inside in
      let a = (filter-of (λ (u : TiedPair). is_own s u.tied_use && not u.tied_use.undef) w (tied_pairs t x.1.by) mw).0 in
      let u = tied-seat t i w (subst (λ j. Member w (tied_pairs t j)) (v.defines.by ∙ here) a) in
      let role = (filter-of (λ (a : Role). not (is_implicit a)) u.0 (roles_of t i) (bound-role (explicit_roles (roles_of t i)) (explicit_operands i.operands) u.0 (operands.Reg w.tied_use) u.1)).0 in
      let any = any-in is_tied u.0 (roles_of t i) role (tied-test u.0 w.number u.2) in
      let none = constant-untied s i (h.shaped i first).operands constant in
      cc

  before-none : (place_change s n (i ∷ [])).before ≡ []
  before-none = none-in (place_change s n (i ∷ [])).before (λ x mx.
      either-elim x (map (given s (i ∷ [])) z.ways) (flat_map (tied_reload s) z.definitions)
      (λ k. let w = map-of (given s (i ∷ [])) x z.ways k in its-use w.0.1 (numbered-of n (ways_read s (i ∷ [])) w.0 w.1))
      (λ k.
      let w = flat-of (tied_reload s) x z.definitions k in
      let v = map-of _ x (filter (λ (u : TiedPair). nat_eq u.number w.0.1.number) (tied_readings s w.0.1.by)) w.2 in
      its-tie w.0 w.1 v.0 (filter-of (λ (u : TiedPair). nat_eq u.number w.0.1.number) v.0 (tied_readings s w.0.1.by) v.1).0) mx)

  -- the instruction with its tiny

  tiny-is : tiny_of s z i 0 q d ≡ Some m
  tiny-is =
      let w = defined-site s g n (i ∷ []) h i first 0 q d among own def in
      let same : (w.tiny, w.definition) ≡ (m, one) = member-elim (w.tiny, w.definition) (m, one) [] (λ e. e) (λ k. absurd (member-none (w.tiny, w.definition) k)) (subst (Member (w.tiny, w.definition)) seats-are w.among) in
      (λ j. cond (def j) (tiny_defined z i 0) (tiny_used s z i q d)) ∙ (w.is ∙ ap (λ (x : ℕ × OwnDefinition). Some x.0) same)

  other-stays : (k : ℕ) (u : Option Role) (x : Operand) → AlwaysConstant x → seated_operand s z i (k, (u, x)) ≡ x
  other-stays k u (operands.Reg o) a = absurd (let u = (a 0).1 in cc)
  other-stays k u x a = refl

  abbrev new-instr : Instr
  new-instr = record i { operands = operands.Reg (as_tiny parts.definition (n + length (ways_read s (i ∷ [])))) ∷ parts.operand ∷ [] }

  new-is : with_tinies s z i ≡ new-instr
  new-is =
      ap (λ os. record i { operands = map (seated_operand s z i) os }) operands-are
      ∙ (λ k. record i { operands = operands.Reg (cond (own k) (elim (tiny-is k) as (λ x. RegOp) [ None ↦ d | Some a ↦ as_tiny d a ]) d) ∷ other-stays 1 r y parts.always k ∷ [] })

  behind-is : (place_change s n (i ∷ [])).behind ≡ stored s (m, one) ++ []
  behind-is = ap (flat_map (stored s)) seats-are

  pub constant-stands : ChangeStands s g b c i p (place_change s n (i ∷ []))
  constant-stands =
      let size = definition-sized s g n (i ∷ []) h (m, one) inside in
      let low = low-number (n + length (ways_read s (i ∷ []))) (definitions_in s (i ∷ [])) (m, one) inside in
      let further = h.further in
      let z = constant_seats_stand s g b c i p d (y ∷ []) m size.class gt.setting at constant parts.are own (omega (arith, further)) (definition-tiny s g n (i ∷ []) h.tinies (m, one) inside ∙ size.is) size.known size.wide in
      subst (λ x. PlaceStands s (item_of t f b i ∷ []) (map (item_of t g c) x) p) (sym (λ k. before-none k ++ ((new-is k ∷ []) ++ behind-is k)))
      (go (is_live_behind s i d.index) z.0 z.1)
    where
      go : (l : Bool)
          → (l ≡ true → PlaceStands s (item_of t f b i ∷ []) (item_of t g c new-instr ∷ item_of t g c (store t (Some (definition-sized s g n (i ∷ []) h (m, one) inside).class) (plain_use (Virtual m) None) (in_own_slot s d.index)) ∷ []) p)
          → (l ≡ false → PlaceStands s (item_of t f b i ∷ []) (item_of t g c new-instr ∷ []) p)
          → PlaceStands s (item_of t f b i ∷ []) (map (item_of t g c) (new-instr ∷ (cond l (store t one.class (plain_use (Virtual m) None) (in_own_slot s d.index) ∷ []) [] ++ []))) p
      go true x w = subst (λ a. PlaceStands s (item_of t f b i ∷ []) (item_of t g c new-instr ∷ item_of t g c (store t a (plain_use (Virtual m) None) (in_own_slot s d.index)) ∷ []) p) (sym (definition-sized s g n (i ∷ []) h (m, one) inside).is) (x refl)
      go false x w = w refl
