-- The readings of the definition are those of the places of the instructions that touch the range.
use Rattle.std.proofs.Common.{◌≡◌, ◌∙◌, ◌⊎◌, inl, inr, ℕ, Bool, true, false, cond, not, ◌&&◌, ◌||◌, List, [], ◌∷◌, ◌++◌, Option, Some, None, flat_map, map, refl, sym, ap, subst}
use Rattle.std.specs.Prelude.{filter, filter_map, is_some, option_and_then, slice_get}
use Rattle.std.specs.List.{AllByRecursion, cons_option, list_any}
use Rattle.std.proofs.lemmas.List.{map-append}
use Rattle.target_base.specs.declared.types.Effect.{Effect}
use Rattle.target_base.specs.declared.types.Effect.TheVariants as effects
use Rattle.target_base.specs.declared.types.Role.{Role}
use Rattle.target_base.specs.declared.types.Target.{Target}
use Rattle.target_base.specs.Roles.{is_tied}
use Rattle.target_base.proofs.Tests.{first_of_both, second_of_both}
use Rattle.meaning.specs.Live.{Among as Member, here as first, there as later}
use Rattle.mir_func.specs.declared.func.RegOp.{RegOp}
use Rattle.mir_func.specs.declared.func.Operand.{Operand}
use Rattle.mir_func.specs.declared.func.Operand.TheVariants as operands
use Rattle.mir_func.specs.declared.func.Instr.{Instr}
use Rattle.mir_func.specs.declared.func.Block.{Block}
use Rattle.mir_func.specs.Value.{Function}
use Rattle.mir_func.specs.Binding.{Bound, TiedPair, after_first, does, effect_of, is_terminator, explicit_bound, explicit_roles, first_role, operand_class, passes, register_at, registers, roles_of, tied_number}
use Rattle.mir_func.proofs.Bound.{bound_step, bound_none}
use Rattle.mir_meaning.specs.Paths.{has}
use Rattle.mir_meaning.specs.Places.{Variable, Using, each_once, same_use, variable}
use Rattle.mir_meaning.specs.Points.{counts, is_range, touches}
use Rattle.instr_effects.proofs.Members.{either-elim, filter-in, filter-of, flat-in, flat-of, left-in, map-in, map-of, member-elim, member-none, right-in}
use Rattle.live_lanes.specs.declared.table.Table.{Table}
use Rattle.live_lanes.specs.Touching.{AreTouched}
use Rattle.live_laws.proofs.Effects.Blocks.{member-slice, slice-member}
use Rattle.live_laws.proofs.Touch.Sequence.{has-member, member-has}
use Rattle.spiller.specs.declared.plan.SpillView.{SpillView}
use Rattle.spiller.specs.MaySpill.{MaySpill}
use Rattle.lowering_laws.specs.Named.{TouchesItsRanges}
use Rattle.live_laws.proofs.Effects.Lists.{any-in}
use Rattle.spiller.specs.Reaching.{Facts}
use Rattle.spiller.specs.Views.{spilling_of}
use Rattle.spiller.specs.Additions.{own_use, own_uses, seated_operands}
use Rattle.spiller.specs.Listed.{Keyed, keyed_by, keyed_copy, keyed_effect, keyed_move, keyed_operands, keyed_readings, keyed_tied, keyed_tied_uses, keyed_way, place_at, place_by, tied_own}
use Rattle.spiller.specs.Placing.{IsPlainForm}
use Rattle.spiller.specs.Rematerialised.{Reading, all_readings, effect_readings, operand_readings, own_variables, place_readings, places_from, places_of, tied_readings, way_reading, ways_read}
use Rattle.spiller.specs.Setting.{Spilling, is_own}
use Rattle.spiller.proofs.ListSteps.{tied-are}
use Rattle.spiller.proofs.OwnUses.{ways-are}
use Rattle.spiller.proofs.ReachesTold.{Site, ids-are, site-of}
use Rattle.spiller.proofs.ReadingPlaces.{all-by, form, in-line, place-of, place-there}
use Rattle.spiller.proofs.ReadingsListed.{place-by-is}
use Rattle.spiller.proofs.Basics.{map-both}

-- lists

map-flat : {X Y Z : Type 0} (f : Y → Z) (g : X → List Y) (xs : List X) → map f (flat_map g xs) ≡ flat_map (λ x. map f (g x)) xs
map-flat f g [] = refl
map-flat f g (x ∷ xs) = map-append f (g x) (flat_map g xs) ∙ ap (λ ys. map f (g x) ++ ys) (map-flat f g xs)

flat-same : {X Y : Type 0} (f g : X → List Y) (xs : List X) → ((x : X) → f x ≡ g x) → flat_map f xs ≡ flat_map g xs
flat-same f g [] h = refl
flat-same f g (x ∷ xs) h = λ k. h x k ++ flat-same f g xs h k

-- one of the variables once each is one of them
pub once-of : (x : Variable) (seen vs : List Variable) → Member x (each_once seen vs) → Member x vs
once-of x seen [] m = m
once-of x seen (v ∷ vs) m = go (list_any (same_use v) seen) m (λ other n. once-of x other vs n)
  where
    go : (b : Bool) → Member x (cond b (each_once seen vs) (v ∷ each_once (v ∷ seen) vs)) → ((other : List Variable) → Member x (each_once other vs) → Member x vs) → Member x (v ∷ vs)
    go true n ih = later (ih seen n)
    go false n ih = member-elim x v (each_once (v ∷ seen) vs) (λ e. subst (λ y. Member y (v ∷ vs)) (sym e) first) (λ k. later (ih (v ∷ seen) k)) n

-- the readings without their keys

operands-are : (s : Spilling) (is : List Instr) → operand_readings s is ≡ map (λ (k : Keyed). k.1) (keyed_operands s is)
operands-are s is =
    sym (map-append (λ (k : Keyed). k.1) (map (keyed_way s is) (ways_read s is)) (flat_map (keyed_tied s) is)
    ∙ (λ j. map-both (λ (k : Keyed). k.1) (keyed_way s is) (ways_read s is) j ++ (map-flat (λ (k : Keyed). k.1) (keyed_tied s) is ∙ flat-same (λ i. map (λ (k : Keyed). k.1) (keyed_tied s i)) (λ i. map (λ (p : TiedPair). (keyed_move s i p.tied_use.index).1) (tied_readings s i)) is (λ i. map-both (λ (k : Keyed). k.1) (λ (p : TiedPair). keyed_move s i p.tied_use.index) (tied_readings s i))) j))

effects-are : (s : Spilling) (i : Instr) (e : Option Effect) (os : List Operand) → effect_readings s i e os ≡ map (λ (k : Keyed). k.1) (keyed_effect s i e os)
effects-are s i (Some effects.Copy) (operands.Reg d ∷ operands.Reg o ∷ os) = go (is_own s o)
  where
    go : (b : Bool) → cond b ((keyed_copy s i d o).1 ∷ []) [] ≡ map (λ (k : Keyed). k.1) (cond b (keyed_copy s i d o ∷ []) [])
    go true = refl
    go false = refl
effects-are s i (Some effects.Spill) (operands.Reg o ∷ os) = go (is_own s o)
  where
    go : (b : Bool) → cond b ((keyed_move s i o.index).1 ∷ []) [] ≡ map (λ (k : Keyed). k.1) (cond b (keyed_move s i o.index ∷ []) [])
    go true = refl
    go false = refl
effects-are s i e os = operands-are s (i ∷ [])

place-are : (s : Spilling) (is : List Instr) → place_readings s is ≡ map (λ (k : Keyed). k.1) (keyed_readings s is)
place-are s [] = operands-are s []
place-are s (i ∷ []) = effects-are s i (effect_of s.target i) i.operands
place-are s (i ∷ j ∷ is) = operands-are s (i ∷ j ∷ is)

-- all of them, place by place
abbrev pub all_keyed : Spilling → List Keyed
all_keyed s = flat_map (λ b. flat_map (keyed_readings s) (places_of s.target b)) s.func.blocks

pub all-are : (s : Spilling) → all_readings s ≡ map (λ (k : Keyed). k.1) (all_keyed s)
all-are s =
    sym (map-flat (λ (k : Keyed). k.1) (λ b. flat_map (keyed_readings s) (places_of s.target b)) s.func.blocks
    ∙ flat-same (λ b. map (λ (k : Keyed). k.1) (flat_map (keyed_readings s) (places_of s.target b))) (λ b. flat_map (place_readings s) (places_of s.target b)) s.func.blocks (λ b.
    map-flat (λ (k : Keyed). k.1) (keyed_readings s) (places_of s.target b) ∙ flat-same (λ p. map (λ (k : Keyed). k.1) (keyed_readings s p)) (place_readings s) (places_of s.target b) (λ p. sym (place-are s p))))

-- what is told of an operand that counts as naming the range

module _ {X : Type 0} (v : ℕ) (g : Bound → Option X) (sound : (r : Option Role) (o : RegOp) → is_some (g (r, operands.Reg o)) ≡ true → (is_range v o.loc && counts o) ≡ true) (none : (r : Option Role) (o : Operand) → is_some (g (r, o)) ≡ true → (q : RegOp) × (o ≡ operands.Reg q)) where
  told-touches : (qs : List Role) (os : List Operand) (y : X) → Member y (filter_map g (explicit_bound qs os)) → list_any (λ o. is_range v o.loc && counts o) (registers os) ≡ true
  told-touches qs [] y m = absurd (member-none y (subst (λ bs. Member y (filter_map g bs)) (bound_none qs) m))
  told-touches qs (o ∷ os) y m = go (g (first_role qs, o)) refl (subst (λ bs. Member y (filter_map g bs)) (bound_step qs o os) m) (told-touches (after_first qs) os y)
    where
      test : RegOp → Bool
      test r = is_range v r.loc && counts r

      back : (x : Operand) → list_any test (registers os) ≡ true → list_any test (registers (x ∷ os)) ≡ true
      back (operands.Reg r) h = go2 (test r)
        where
          go2 : (b : Bool) → (b || list_any test (registers os)) ≡ true
          go2 true = refl
          go2 false = h
      back x h = h

      go : (q : Option X) → g (first_role qs, o) ≡ q → Member y (cons_option q (filter_map g (explicit_bound (after_first qs) os))) → (Member y (filter_map g (explicit_bound (after_first qs) os)) → list_any test (registers os) ≡ true) → list_any test (registers (o ∷ os)) ≡ true
      go None e k ih = back o (ih k)
      go (Some x) e k ih =
          let z = none (first_role qs) o (ap is_some e) in
          let yes : test z.0 ≡ true = sound (first_role qs) z.0 (ap (λ w. is_some (g (first_role qs, w))) (sym z.1) ∙ ap is_some e) in
          subst (λ w. list_any test (registers (w ∷ os)) ≡ true) (sym z.1) (ap (λ b. b || list_any test (registers os)) yes)

module _ (s : Spilling) where
  abbrev t : Target
  t = s.target

  abbrev v : ℕ
  v = s.range

  use-sound : (r : Option Role) (o : RegOp) → is_some (own_use t s.func v (r, operands.Reg o)) ≡ true → (is_range v o.loc && counts o) ≡ true
  use-sound r o h = go (is_range v o.loc) o.def o.undef (passes is_tied r) h
    where
      go : (a d u w : Bool) → is_some (cond (a && not (d || (u || w))) (Some (variable Using v o.index (operand_class t s.func r o))) None) ≡ true → (a && (d || not u)) ≡ true
      go true true u w h = absurd (cc)
      go true false true w h = absurd (cc)
      go true false false w h = refl
      go false d u w h = absurd (cc)

  use-register : (r : Option Role) (o : Operand) → is_some (own_use t s.func v (r, o)) ≡ true → (q : RegOp) × (o ≡ operands.Reg q)
  use-register r (operands.Reg q) h = (q, refl)
  use-register r o h = absurd (cc)

  tied-sound : (os : List Operand) (r : Option Role) (o : RegOp) → is_some (tied_own v os (r, operands.Reg o)) ≡ true → (is_range v o.loc && counts o) ≡ true
  tied-sound os r o h = go (is_range v o.loc) o.undef (is_some (option_and_then (register_at os) (option_and_then tied_number r))) o.def h
    where
      or-true : (d : Bool) → (d || true) ≡ true
      or-true true = refl
      or-true false = refl

      go : (a u w d : Bool) → is_some (cond ((a && not u) && w) (Some o) None) ≡ true → (a && (d || not u)) ≡ true
      go true true w d h = absurd (cc)
      go true false w d h = or-true d
      go false u w d h = absurd (cc)

  tied-register : (os : List Operand) (r : Option Role) (o : Operand) → is_some (tied_own v os (r, o)) ≡ true → (q : RegOp) × (o ≡ operands.Reg q)
  tied-register os r (operands.Reg q) h = (q, refl)
  tied-register os r o h = absurd (cc)

  -- a reading is by an instruction of the place that touches the range

  pub way-touches : (is : List Instr) → AllByRecursion IsPlainForm is → (x : Variable) → Member x (ways_read s is) → (i : Instr) × Member i is × (touches v i ≡ true)
  way-touches is form x m =
      let z = flat-of (own_uses t s.func v) x is (once-of x [] (flat_map (own_uses t s.func v) is) (subst (Member x) (ways-are s is form) m)) in
      (z.0, z.1, told-touches v (own_use t s.func v) use-sound use-register (explicit_roles (roles_of t z.0)) z.0.operands x z.2)

  tied-touches : (i : Instr) → IsPlainForm i → (k : Keyed) → Member k (keyed_tied s i) → touches v i ≡ true
  tied-touches i form k m =
      let z = map-of (λ (o : RegOp). keyed_move s i o.index) k (filter_map (tied_own v i.operands) (seated_operands t i)) (subst (Member k) (sym (tied-are s i form)) m) in
      told-touches v (tied_own v i.operands) (tied-sound i.operands) (tied-register i.operands) (explicit_roles (roles_of t i)) i.operands z.0 z.1

  form-in : (is : List Instr) (i : Instr) → AllByRecursion IsPlainForm is → Member i is → IsPlainForm i
  form-in [] i h m = absurd (member-none i m)
  form-in (j ∷ is) i h m = member-elim i j is (λ e. subst IsPlainForm (sym e) h.0) (form-in is i h.1) m

  abbrev Touched : List Instr → Type 0
  Touched is = (i : Instr) × Member i is × (touches v i ≡ true)

  operands-touch : (is : List Instr) → AllByRecursion IsPlainForm is → (k : Keyed) → Member k (keyed_operands s is) → Touched is
  operands-touch is h k m =
      either-elim k (map (keyed_way s is) (ways_read s is)) (flat_map (keyed_tied s) is)
      (λ w. let z = map-of (keyed_way s is) k (ways_read s is) w in way-touches is h z.0 z.1)
      (λ w. let z = flat-of (keyed_tied s) k is w in (z.0, z.1, tied-touches z.0 (form-in is z.0 h z.1) k z.2))
      m

  effects-touch : (i : Instr) → IsPlainForm i → TouchesItsRanges i → (k : Keyed) (e : Option Effect) (os : List Operand) → i.operands ≡ os → Member k (keyed_effect s i e os) → Touched (i ∷ [])
  effects-touch i plain named k (Some effects.Copy) (operands.Reg d ∷ operands.Reg o ∷ os) is m = go (is_own s o) refl m
    where
      go : (b : Bool) → is_own s o ≡ b → Member k (cond b (keyed_copy s i d o ∷ []) []) → Touched (i ∷ [])
      go true e m = (i, first, named v (subst (λ xs. list_any (λ r. is_range v r.loc) (registers xs) ≡ true) (sym is) (any-in (λ (r : RegOp). is_range v r.loc) o (d ∷ o ∷ registers os) (later first) e)))
      go false e m = absurd (member-none k m)
  effects-touch i plain named k (Some effects.Spill) (operands.Reg o ∷ os) is m = go (is_own s o) refl m
    where
      go : (b : Bool) → is_own s o ≡ b → Member k (cond b (keyed_move s i o.index ∷ []) []) → Touched (i ∷ [])
      go true e m = (i, first, named v (subst (λ xs. list_any (λ r. is_range v r.loc) (registers xs) ≡ true) (sym is) (any-in (λ (r : RegOp). is_range v r.loc) o (o ∷ registers os) first e)))
      go false e m = absurd (member-none k m)
  effects-touch i plain named k e os is m = operands-touch (i ∷ []) (plain, tt) k m

  pub place-touches : (is : List Instr) → AllByRecursion IsPlainForm is → ((i : Instr) → Member i is → TouchesItsRanges i) → (k : Keyed) → Member k (keyed_readings s is) → Touched is
  place-touches [] h named k m = operands-touch [] h k m
  place-touches (i ∷ []) h named k m = effects-touch i h.0 (named i first) k (effect_of t i) i.operands refl m
  place-touches (i ∷ j ∷ is) h named k m = operands-touch (i ∷ j ∷ is) h k m

-- the instructions of a place are of its block
pub within-place : (t : Target) (is p : List Instr) (i : Instr) → Member p (places_from t is) → Member i p → Member i is
within-place t [] p i m k = absurd (member-none p m)
within-place t (j ∷ is) p i m k = go (does is_terminator t j) m (λ n. within-place t is p i n k)
  where
    go : (b : Bool) → Member p (cond b ((j ∷ is) ∷ []) ((j ∷ []) ∷ places_from t is)) → (Member p (places_from t is) → Member i is) → Member i (j ∷ is)
    go true n more = member-elim p (j ∷ is) [] (λ e. subst (Member i) e k) (λ w. absurd (member-none p w)) n
    go false n more = member-elim p (j ∷ []) (places_from t is) (λ e. member-elim i j [] (λ same. subst (λ x. Member x (j ∷ is)) (sym same) first) (λ w. absurd (member-none i w)) (subst (Member i) e k)) (λ w. later (more w)) n

module _ (view : SpillView) (may : MaySpill view.target.now view.live.now.func view.live.now.table view.v) (ids : List ℕ) (are : AreTouched view.live.now.table view.v ids) (slot : ℕ) (facts : Facts) where
  abbrev s : Spilling
  s = spilling_of view slot facts

  abbrev f : Function
  f = view.live.now.func

  abbrev x : Table
  x = view.live.now.table

  pub site : (b : Block) → Member b f.blocks → (i : Instr) → Member i b.instrs → Site s.target f x s.range may ids are i
  site b mb i mi = let q = member-slice b f.blocks mb in let j = member-slice i b.instrs mi in record { position = q.0; block = b; spot = j.0; stands = q.1; there = j.1 }

  pub place-forms : (b : Block) → Member b f.blocks → (p : List Instr) → Member p (places_of s.target b) → AllByRecursion IsPlainForm p
  place-forms b mb p mp = all-by IsPlainForm p (λ i m. form s.target f x s.range may b mb i (within-place s.target b.instrs p i mp m))

  -- the place of an instruction that touches the range
  place-is : (b : Block) → Member b f.blocks → (p : List Instr) → Member p (places_of s.target b) → (i : Instr) → Member i p → place_by view i.id ≡ p
  unfolding site
  place-is b mb p mp i mi =
      let a = site b mb i (within-place s.target b.instrs p i mp mi) in
      place-by-is view may a.position a.spot b i a.stands a.there ids are i.id refl
      ∙ sym (place-of s.target b.instrs p i (in-line s.target f x s.range may b mb) mp mi)

  pub record IsPlaced (k : Keyed) : Type 0 where
    pub block : Block
    pub in_func : Member block f.blocks
    pub place : List Instr
    pub in_block : Member place (places_of s.target block)
    pub reading : Member k (keyed_readings s place)

  pub keyed-back : (k : Keyed) → Member k (keyed_by view ids s) → IsPlaced k
  keyed-back k m =
      let z = flat-of (λ id. keyed_readings s (place_by view id)) k ids m in
      let w = site-of s.target f x s.range may ids are z.0 (sym (are.named z.0) ∙ member-has z.0 ids z.1) in
      let mb = slice-member f.blocks w.1.position w.1.block w.1.stands in
      let mi = slice-member w.1.block.instrs w.1.spot w.0 w.1.there in
      record {
        block = w.1.block;
        in_func = mb;
        place = place_at s.target w.1.block w.0;
        in_block = place-there s.target w.1.block.instrs w.0 (in-line s.target f x s.range may w.1.block mb) mi;
        reading = subst (λ p. Member k (keyed_readings s p)) (place-by-is view may w.1.position w.1.spot w.1.block w.0 w.1.stands w.1.there ids are z.0 w.2) z.2;
      }

  pub keyed-forth : (b : Block) → Member b f.blocks → (p : List Instr) → Member p (places_of s.target b) → (k : Keyed) → Member k (keyed_readings s p) → Member k (keyed_by view ids s)
  keyed-forth b mb p mp k m =
      let z = place-touches s p (place-forms b mb p mp) (λ i n. may.named b i mb (within-place s.target b.instrs p i mp n)) k m in
      let mi = within-place s.target b.instrs p z.0 mp z.1 in
      let there : Member z.0.id ids = subst (Member z.0.id) (sym (ids-are s.target f x s.range may ids are)) (map-in (λ (i : Instr). i.id) z.0 (filter (touches s.range) (flat_map (λ (b : Block). b.instrs) f.blocks)) (filter-in (touches s.range) z.0 (flat_map (λ (b : Block). b.instrs) f.blocks) (flat-in (λ (b : Block). b.instrs) z.0 b f.blocks mb mi) z.2)) in
      flat-in (λ id. keyed_readings s (place_by view id)) k z.0.id ids there (subst (λ q. Member k (keyed_readings s q)) (sym (place-is b mb p mp z.0 z.1)) m)

  -- all readings, with their keys
  pub all-back : (r : Reading) → Member r (all_readings s) → (k : Keyed) × Member k (keyed_by view ids s) × (r ≡ k.1)
  all-back r m =
      let z = map-of (λ (k : Keyed). k.1) r (all_keyed s) (subst (Member r) (all-are s) m) in
      let b = flat-of (λ (b : Block). flat_map (keyed_readings s) (places_of s.target b)) z.0 f.blocks z.1 in
      let p = flat-of (keyed_readings s) z.0 (places_of s.target b.0) b.2 in
      (z.0, keyed-forth b.0 b.1 p.0 p.1 z.0 p.2, z.2)

  pub all-forth : (k : Keyed) → Member k (keyed_by view ids s) → Member k.1 (all_readings s)
  all-forth k m =
      let z = keyed-back k m in
      subst (Member k.1) (sym (all-are s)) (map-in (λ (k : Keyed). k.1) k (all_keyed s) (flat-in (λ (b : Block). flat_map (keyed_readings s) (places_of s.target b)) k z.block f.blocks z.in_func (flat-in (keyed_readings s) k z.place (places_of s.target z.block) z.in_block z.reading)))

  -- places with one name are one
  pub one-place : (b c : Block) (p q : List Instr) → Member b f.blocks → Member c f.blocks → Member p (places_of s.target b) → Member q (places_of s.target c) → (i j : Instr) → Member i p → Member j q → i.id ≡ j.id → p ≡ q
  one-place b c p q mb mc mp mq i j mi mj same = sym (place-is b mb p mp i mi) ∙ (ap (place_by view) same ∙ place-is c mc q mq j mj)
