-- The answers of what is rematerialised are the definition's: by ways of reading and by copies.
use Rattle.std.proofs.Common.{◌≡◌, ◌∙◌, ◌⊎◌, inl, inr, ℕ, Bool, true, false, cond, not, ◌&&◌, ◌||◌, List, [], ◌∷◌, Option, Some, None, filter, flat_map, map, refl, sym, ap, subst, eq-eqb, eqb-true}
use Rattle.std.specs.Prelude.{filter_map, find, nat_eq, option_map}
use Rattle.std.specs.List.{AllByRecursion, cons_option}
use Rattle.target_base.specs.declared.types.ClassId.{ClassId}
use Rattle.target_base.specs.declared.types.IndexId.{IndexId}
use Rattle.target_base.specs.declared.types.Effect.{Effect}
use Rattle.target_base.specs.declared.types.Effect.TheVariants as effects
use Rattle.target_base.specs.declared.types.Role.{Role}
use Rattle.target_base.specs.declared.types.Target.{Target}
use Rattle.target_base.specs.Roles.{is_tied}
use Rattle.target_base.proofs.Tests.{first_of_both, second_of_both}
use Rattle.meaning.specs.Live.{Among as Member, here as first, there as later}
use Rattle.mir_func.specs.declared.func.RegOp.{RegOp}
use Rattle.mir_func.specs.declared.func.Operand.{Operand}
use Rattle.mir_func.specs.declared.func.Operand.TheVariants as operands
use Rattle.mir_func.specs.declared.func.Instr.{Instr}
use Rattle.mir_func.specs.declared.func.Block.{Block}
use Rattle.mir_func.specs.Value.{Function}
use Rattle.mir_func.specs.Binding.{Bound, TiedPair, does, effect_of, is_terminator, operand_class, passes, same_index}
use Rattle.mir_meaning.specs.Paths.{has}
use Rattle.mir_meaning.specs.Places.{Using, Variable, same_class, variable}
use Rattle.mir_meaning.specs.Points.{is_range}
use Rattle.instr_effects.proofs.Members.{either-elim, flat-of, left-in, map-in, map-of, member-elim, member-none}
use Rattle.live_lanes.specs.declared.table.Table.{Table}
use Rattle.live_lanes.specs.Touching.{AreTouched, FindsInstrs}
use Rattle.live_lanes.proofs.Cells.{both}
use Rattle.lowering_laws.proofs.Tied.{one-index}
use Rattle.spiller.specs.declared.plan.SpillView.{SpillView}
use Rattle.spiller.specs.declared.reaching.Definition.{Definition}
use Rattle.spiller.specs.declared.remat.Remat.{Remat}
use Rattle.spiller.specs.declared.remat.RematUse.{RematUse}
use Rattle.spiller.specs.declared.remat.UseKey.{UseKey}
use Rattle.spiller.specs.MaySpill.{MaySpill}
use Rattle.spiller.specs.Additions.{own_use, own_uses, seated_operands}
use Rattle.spiller.specs.Listed.{AreKeyed, IsJudged, IsKeyed, IsToldBy, Keyed, Lists, TestsNeedless, keyed_by, keyed_copy, keyed_effect, keyed_move, keyed_operands, keyed_readings, keyed_tied, keyed_way, told_sources}
use Rattle.spiller.specs.Planned.{TellsRemat, copy_key, is_move_place, way_key}
use Rattle.spiller.specs.Reaching.{AreFacts, Facts}
use Rattle.spiller.specs.Readings.{AreDefinitions, IsReading, TellConstants, goes_in, same_key, source_in, sources_at, placed_at}
use Rattle.spiller.specs.Rematerialised.{Reading, copy_reading, places_of, repeated_for, tied_readings, way_reading, ways_read}
use Rattle.spiller.specs.Setting.{Spilling, is_own}
use Rattle.spiller.specs.Spilled.{place_name}
use Rattle.spiller.specs.Views.{spilling_of}
use Rattle.spiller.proofs.KeyedPlaces.{IsPlaced, keyed-back, keyed-forth, once-of, one-place, place-forms, way-touches}
use Rattle.spiller.proofs.OwnUses.{ways-are}
use Rattle.spiller.proofs.ReadingPlaces.{in-line, place-there}
use Rattle.spiller.proofs.ReadingsListed.{finds}
use Rattle.spiller.proofs.RematTold.{goes, goes-tests, gone-is, keyed-in, keyed-of, found-source, source-is}
use Rattle.spiller.specs.Ends.{ends_of}
use Rattle.spiller.proofs.PlacedSources.{found-there}
use Rattle.spiller.specs.declared.remat.RematSource.{RematSource}

one-class : (x y : Option ClassId) → same_class x y ≡ true → x ≡ y
one-class None None h = refl
one-class (Some x) (Some y) h = ap (λ n. Some (record { 0 = n })) (eqb-true x.0 y.0 h)
one-class None (Some y) h = absurd (cc)
one-class (Some x) None h = absurd (cc)

index-refl : (x : Option IndexId) → same_index x x ≡ true
index-refl None = refl
index-refl (Some x) = eq-eqb x.0 x.0 refl

class-refl : (x : Option ClassId) → same_class x x ≡ true
class-refl None = refl
class-refl (Some x) = eq-eqb x.0 x.0 refl

head-of : (p : List Instr) (i : Instr) → Member i p → (h : Instr) × Member h p × (place_name p ≡ h.id)
head-of [] i m = absurd (member-none i m)
head-of (j ∷ js) i m = (j, first, refl)

-- a use is told by its index and its class
uses-plain : (t : Target) (f : Function) (v : ℕ) (bs : List Bound) (x : Variable) → Member x (filter_map (own_use t f v) bs) → x ≡ variable Using v x.index x.class
uses-plain t f v [] x m = absurd (member-none x m)
uses-plain t f v ((r, operands.Reg o) ∷ bs) x m = go (is_range v o.loc && not (o.def || (o.undef || passes is_tied r))) m (uses-plain t f v bs x)
  where
    w : Variable
    w = variable Using v o.index (operand_class t f r o)

    go : (b : Bool) → Member x (cons_option (cond b (Some w) None) (filter_map (own_use t f v) bs)) → (Member x (filter_map (own_use t f v) bs) → x ≡ variable Using v x.index x.class) → x ≡ variable Using v x.index x.class
    go true n ih = member-elim x w (filter_map (own_use t f v) bs) (λ e. subst (λ (y : Variable). y ≡ variable Using v y.index y.class) (sym e) refl) ih n
    go false n ih = ih n
uses-plain t f v ((r, o) ∷ bs) x m = uses-plain t f v bs x m

module _ (s : Spilling) where
  -- a reading is in a way of its place, or by one of its instructions
  abbrev Kind : List Instr → Keyed → Type 0
  Kind q k = ((y : Variable) × Member y (ways_read s q) × (k ≡ keyed_way s q y)) ⊎ ((i : Instr) × Member i q × (k.0 ≡ copy_key i.id))

  operand-kinds : (q : List Instr) (k : Keyed) → Member k (keyed_operands s q) → Kind q k
  operand-kinds q k m =
      either-elim k (map (keyed_way s q) (ways_read s q)) (flat_map (keyed_tied s) q)
      (λ w. let z = map-of (keyed_way s q) k (ways_read s q) w in inl (z.0, z.1, z.2))
      (λ w.
      let z = flat-of (keyed_tied s) k q w in
      let y = map-of (λ (p : TiedPair). keyed_move s z.0 p.tied_use.index) k (tied_readings s z.0) z.2 in
      inr (z.0, z.1, ap (λ (k : Keyed). k.0) y.2))
      m

  effect-kinds : (i : Instr) (k : Keyed) (e : Option Effect) (os : List Operand) → Member k (keyed_effect s i e os) → Kind (i ∷ []) k
  effect-kinds i k (Some effects.Copy) (operands.Reg d ∷ operands.Reg o ∷ os) m = go (is_own s o) m
    where
      go : (b : Bool) → Member k (cond b (keyed_copy s i d o ∷ []) []) → Kind (i ∷ []) k
      go true n = member-elim k (keyed_copy s i d o) [] (λ e. inr (i, first, ap (λ (k : Keyed). k.0) e)) (λ w. absurd (member-none k w)) n
      go false n = absurd (member-none k n)
  effect-kinds i k (Some effects.Spill) (operands.Reg o ∷ os) m = go (is_own s o) m
    where
      go : (b : Bool) → Member k (cond b (keyed_move s i o.index ∷ []) []) → Kind (i ∷ []) k
      go true n = member-elim k (keyed_move s i o.index) [] (λ e. inr (i, first, ap (λ (k : Keyed). k.0) e)) (λ w. absurd (member-none k w)) n
      go false n = absurd (member-none k n)
  effect-kinds i k e os m = operand-kinds (i ∷ []) k m

  kinds : (q : List Instr) (k : Keyed) → Member k (keyed_readings s q) → Kind q k
  kinds [] k m = operand-kinds [] k m
  kinds (i ∷ []) k m = effect-kinds i k (effect_of s.target i) i.operands m
  kinds (i ∷ j ∷ is) k m = operand-kinds (i ∷ j ∷ is) k m

  -- a way is a reading of a place that is no copy and no store
  way-in : (q : List Instr) (k : Keyed) → is_move_place s q ≡ false → Member k (map (keyed_way s q) (ways_read s q)) → Member k (keyed_readings s q)
  way-in [] k h m = left-in k (map (keyed_way s []) (ways_read s [])) (flat_map (keyed_tied s) []) m
  way-in (i ∷ j ∷ is) k h m = left-in k (map (keyed_way s (i ∷ j ∷ is)) (ways_read s (i ∷ j ∷ is))) (flat_map (keyed_tied s) (i ∷ j ∷ is)) m
  way-in (i ∷ []) k h m = go (effect_of s.target i) i.operands h
    where
      go : (e : Option Effect) (os : List Operand) → (elim e as (λ q. Bool) [ None ↦ false | Some effects.Copy ↦ true | Some effects.Spill ↦ true | Some x ↦ false ]) ≡ false → Member k (keyed_effect s i e os)
      go (Some effects.Copy) os g = absurd (cc)
      go (Some effects.Spill) os g = absurd (cc)
      go e os g = left-in k (map (keyed_way s (i ∷ [])) (ways_read s (i ∷ []))) (flat_map (keyed_tied s) (i ∷ [])) m

  -- the reading by a copy
  copy-alone : (i : Instr) (d o : RegOp) → effect_of s.target i ≡ Some effects.Copy → i.operands ≡ operands.Reg d ∷ operands.Reg o ∷ [] → is_own s o ≡ true → keyed_readings s (i ∷ []) ≡ keyed_copy s i d o ∷ []
  copy-alone i d o e is own = (λ k. keyed_effect s i (e k) (is k)) ∙ ap (λ b. cond b (keyed_copy s i d o ∷ []) []) own

module _ (view : SpillView) (may : MaySpill view.target.now view.live.now.func view.live.now.table view.v) (ids : List ℕ) (ds : List Definition) (told : AreDefinitions view.target.now view.live.now.func view.live.now.table view.v ids ds) (slot : ℕ) (facts : Facts) (tell : AreFacts view.target.now view.live.now.func view.v facts)
    (us : List RematUse) (keyed : AreKeyed (spilling_of view slot facts) (keyed_by view ids (spilling_of view slot facts)) us) (judged : AllByRecursion (IsJudged view ds) us) where
  abbrev s : Spilling
  s = spilling_of view slot facts

  abbrev f : Function
  f = view.live.now.func

  are : AreTouched view.live.now.table view.v ids
  are = told.touched

  plain-way : (b : Block) → Member b f.blocks → (p : List Instr) → Member p (places_of s.target b) → (x : Variable) → Member x (ways_read s p) → x ≡ variable Using s.range x.index x.class
  plain-way b mb p mp x m =
      let z = flat-of (own_uses s.target f s.range) x p (once-of x [] (flat_map (own_uses s.target f s.range) p) (subst (Member x) (ways-are s p (place-forms view may ids are slot facts b mb p mp)) m)) in
      uses-plain s.target f s.range (seated_operands s.target z.0) x z.2

  head-in : (b : Block) → Member b f.blocks → (p : List Instr) → Member p (places_of s.target b) → (x : Variable) → Member x (ways_read s p) → (h : Instr) × Member h p × (place_name p ≡ h.id)
  head-in b mb p mp x m = let z = way-touches s p (place-forms view may ids are slot facts b mb p mp) x m in head-of p z.0 z.1

  pub ways-told : (b : Block) (p : List Instr) (x : Variable) → Member b f.blocks → Member p (places_of s.target b) → is_move_place s p ≡ false → Member x (ways_read s p)
      → option_map (λ s. s.id) (find (λ s. same_key (way_key (place_name p) x) s.key) (flat_map told_sources us)) ≡ option_map (λ d. d.id) (repeated_for s (way_reading s p x))
  ways-told b p x mb mp moves mx = found-source key (option_map (λ d. d.id) (repeated_for s (way_reading s p x))) us each (inr exists)
    where
      key : UseKey
      key = way_key (place_name p) x

      each : (u : RematUse) → Member u us → same_key key u.demand.key ≡ true → u.source ≡ option_map (λ d. d.id) (repeated_for s (way_reading s p x))
      each u mu hit = go (kinds s pl.place k.0 pl.reading)
        where
          k : (k : Keyed) × Member k (keyed_by view ids s) × IsKeyed s k u
          k = keyed-of s (keyed_by view ids s) us keyed u mu

          pl : IsPlaced view may ids are slot facts k.0
          pl = keyed-back view may ids are slot facts k.0 k.1

          go : Kind s pl.place k.0 → u.source ≡ option_map (λ d. d.id) (repeated_for s (way_reading s p x))
          go (inr z) = let same : false ≡ true = second_of_both (nat_eq key.at z.0.id) false (ap (same_key key) (sym (k.2.key ∙ z.2)) ∙ hit) in absurd (cc)
          go (inl z) =
              let y = z.0 in
              let same : same_key key (way_key (place_name pl.place) y) ≡ true = ap (same_key key) (sym (k.2.key ∙ ap (λ (j : Keyed). j.0) z.2)) ∙ hit in
              let way = second_of_both (nat_eq (place_name p) (place_name pl.place)) (same_index x.index y.index && same_class x.class y.class) same in
              let a = head-in b mb p mp x mx in
              let c = head-in pl.block pl.in_func pl.place pl.in_block y z.1 in
              let names : place_name p ≡ place_name pl.place = eqb-true (place_name p) (place_name pl.place) (first_of_both (nat_eq (place_name p) (place_name pl.place)) (same_index x.index y.index && same_class x.class y.class) same) in
              let one : p ≡ pl.place = one-place view may ids are slot facts b pl.block p pl.place mb pl.in_func mp pl.in_block a.0 c.0 a.1 c.1 (sym a.2 ∙ (names ∙ c.2)) in
              let xy : x ≡ y =
              plain-way b mb p mp x mx
              ∙ ((λ j. variable Using s.range (one-index x.index y.index (first_of_both (same_index x.index y.index) (same_class x.class y.class) way) j) (one-class x.class y.class (second_of_both (same_index x.index y.index) (same_class x.class y.class) way) j))
              ∙ sym (plain-way pl.block pl.in_func pl.place pl.in_block y z.1)) in
              source-is view may ids ds told slot facts tell us keyed judged u mu (way_reading s p x)
              (subst (λ w. IsReading s w u) (ap (λ (j : Keyed). j.1) z.2 ∙ sym (λ j. way_reading s (one j) (xy j))) k.2.is)

      exists : (u : RematUse) × Member u us × (same_key key u.demand.key ≡ true)
      exists =
          let m = way-in s p (keyed_way s p x) moves (map-in (keyed_way s p) x (ways_read s p) mx) in
          let z = keyed-in s (keyed_by view ids s) us keyed (keyed_way s p x) (keyed-forth view may ids are slot facts b mb p mp (keyed_way s p x) m) in
          (z.0, z.1, ap (same_key key) z.2.key ∙ both (nat_eq key.at key.at) (same_index x.index x.index && same_class x.class x.class) (eq-eqb key.at key.at refl) (both (same_index x.index x.index) (same_class x.class x.class) (index-refl x.index) (class-refl x.class)))

  pub copies-told : (b : Block) (i : Instr) (d o : RegOp) → Member b f.blocks → Member i b.instrs → effect_of s.target i ≡ Some effects.Copy → i.operands ≡ operands.Reg d ∷ operands.Reg o ∷ [] → is_own s o ≡ true
      → option_map (λ s. s.id) (find (λ s. same_key (copy_key i.id) s.key) (flat_map told_sources us)) ≡ option_map (λ d. d.id) (repeated_for s (copy_reading s i d o))
  copies-told b i d o mb mi effect is own = found-source key (option_map (λ d. d.id) (repeated_for s (copy_reading s i d o))) us each (inr exists)
    where
      key : UseKey
      key = copy_key i.id

      alone : keyed_readings s (i ∷ []) ≡ keyed_copy s i d o ∷ []
      alone = copy-alone s i d o effect is own

      mp : Member (i ∷ []) (places_of s.target b)
      mp =
          let plain : does is_terminator s.target i ≡ false = ap (passes is_terminator) effect in
          subst (λ c. Member (cond c (ends_of s.target b.instrs) (i ∷ [])) (places_of s.target b)) plain (place-there s.target b.instrs i (in-line s.target f view.live.now.table s.range may b mb) mi)

      each : (u : RematUse) → Member u us → same_key key u.demand.key ≡ true → u.source ≡ option_map (λ d. d.id) (repeated_for s (copy_reading s i d o))
      each u mu hit = go (kinds s pl.place k.0 pl.reading)
        where
          k : (k : Keyed) × Member k (keyed_by view ids s) × IsKeyed s k u
          k = keyed-of s (keyed_by view ids s) us keyed u mu

          pl : IsPlaced view may ids are slot facts k.0
          pl = keyed-back view may ids are slot facts k.0 k.1

          go : Kind s pl.place k.0 → u.source ≡ option_map (λ d. d.id) (repeated_for s (copy_reading s i d o))
          go (inl z) = let same : false ≡ true = second_of_both (nat_eq key.at (place_name pl.place)) false (ap (same_key key) (sym (k.2.key ∙ ap (λ (j : Keyed). j.0) z.2)) ∙ hit) in absurd (cc)
          go (inr z) =
              let same : i.id ≡ z.0.id = eqb-true i.id z.0.id (first_of_both (nat_eq i.id z.0.id) true (ap (same_key key) (sym (k.2.key ∙ z.2)) ∙ hit)) in
              let one : i ∷ [] ≡ pl.place = one-place view may ids are slot facts b pl.block (i ∷ []) pl.place mb pl.in_func mp pl.in_block i z.0 first z.1 same in
              let m : Member k.0 (keyed_copy s i d o ∷ []) = subst (Member k.0) (ap (keyed_readings s) (sym one) ∙ alone) pl.reading in
              let this : k.0 ≡ keyed_copy s i d o = member-elim k.0 (keyed_copy s i d o) [] (λ e. e) (λ w. absurd (member-none k.0 w)) m in
              source-is view may ids ds told slot facts tell us keyed judged u mu (copy_reading s i d o) (subst (λ w. IsReading s w u) (ap (λ (j : Keyed). j.1) this) k.2.is)

      exists : (u : RematUse) × Member u us × (same_key key u.demand.key ≡ true)
      exists =
          let m : Member (keyed_copy s i d o) (keyed_readings s (i ∷ [])) = subst (Member (keyed_copy s i d o)) (sym alone) first in
          let z = keyed-in s (keyed_by view ids s) us keyed (keyed_copy s i d o) (keyed-forth view may ids are slot facts b mb (i ∷ []) mp (keyed_copy s i d o) m) in
          (z.0, z.1, ap (same_key key) z.2.key ∙ both (nat_eq key.at key.at) true (eq-eqb key.at key.at refl) refl)

  -- the source of a reading, among those of its place, is the first of all
  source-found : (r : Remat) → ((n : ℕ) → sources_at r.sources n ≡ placed_at n (flat_map told_sources us)) → (key : UseKey)
      → source_in r key ≡ option_map (λ s. s.id) (find (λ (s : RematSource). same_key key s.key) (flat_map told_sources us))
  source-found r sources key =
      ap (λ xs. option_map (λ (s : RematSource). s.id) (find (λ (s : RematSource). same_key key s.key) xs)) (sources key.at)
      ∙ ap (option_map (λ (s : RematSource). s.id)) (found-there key (flat_map told_sources us))

  pub tells : (r : Remat) → ((n : ℕ) → sources_at r.sources n ≡ placed_at n (flat_map told_sources us)) → ((n : ℕ) → has n r.deleted.keys ≡ has n (filter (goes view may ids ds told slot facts tell us keyed judged) (map (λ d. d.id) ds))) → TellsRemat s (source_in r) (goes_in r)
  tells r sources deleted = record {
    ways = λ b p x mb mp moves mx. source-found r sources (way_key (place_name p) x) ∙ ways-told b p x mb mp moves mx;
    copies = λ b i d o mb mi effect is own. source-found r sources (copy_key i.id) ∙ copies-told b i d o mb mi effect is own;
    gone = λ b i mb mi.
        deleted i.id
        ∙ gone-is view may ids ds told slot facts tell us keyed judged (filter (goes view may ids ds told slot facts tell us keyed judged) (map (λ d. d.id) ds)) refl b i mb mi;
  }

pub plan-tells : (view : SpillView) (ids : List ℕ) (ds : List Definition) (us : List RematUse) (r : Remat) → map (λ d. d.id) ds ≡ ids → IsToldBy view ids ds
    → TellConstants view.target.now view.live.now.func view.live.now.table ds
    → (MaySpill view.target.now view.live.now.func view.live.now.table view.v → AreTouched view.live.now.table view.v ids → Lists view ds (keyed_by view ids) [] us)
    → ((n : ℕ) → sources_at r.sources n ≡ placed_at n (flat_map told_sources us))
    → ((slot : ℕ) (facts : Facts) (test : ℕ → Bool) → FindsInstrs view.live.now.table view.live.now.func.blocks → TestsNeedless (spilling_of view slot facts) ds us test → (n : ℕ) → has n r.deleted.keys ≡ has n (filter test (map (λ d. d.id) ds)))
    → (slot : ℕ) (facts : Facts) → MaySpill view.target.now view.live.now.func view.live.now.table view.v → AreTouched view.live.now.table view.v ids → AreFacts view.target.now view.live.now.func view.v facts → TellsRemat (spilling_of view slot facts) (source_in r) (goes_in r)
plan-tells view ids ds us r named told constants listed sources deleted slot facts may are tell =
    let s = spilling_of view slot facts in
    let ts : AreDefinitions view.target.now view.live.now.func view.live.now.table view.v ids ds = record { touched = are; named = named; told = told may are; constants = constants } in
    let h = listed may are in
    let keyed = subst (AreKeyed s (keyed_by view ids s)) (sym h.grown) (h.keyed slot facts) in
    let judged = subst (AllByRecursion (IsJudged view ds)) (sym h.grown) h.judged in
    tells view may ids ds ts slot facts tell us keyed judged r sources
    (deleted slot facts (goes view may ids ds ts slot facts tell us keyed judged) (finds view may) (goes-tests view may ids ds ts slot facts tell us keyed judged))
